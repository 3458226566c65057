use Rattle.std.proofs.Common.{◌∙◌, ap, sym, ◌≤◌, ◌<◌, ◌*◌, arith, ℕ, List, Bool, length, nat_eq, ◌/◌, ◌%◌, ◌^◌, bit_and, slice_index_or, false}
use Rattle.std.proofs.lemmas.Bool.{le-ltb}
use Rattle.std.proofs.lemmas.Grind.{get_or_default_zero}
use Rattle.wire_fragments.proofs.FlagLaws.{flag_read, flag_behind}
use Rattle.wire_fragments.proofs.flags.Flags.get.Goals as goal

pub returns-then-at-self : goal.returns-then-at-self
returns-then-at-self c =
    let bytes = c.self.inside.bits.items in
    let count = c.self.inside.count in
    let at = c.args.at in
    let less : at < count = c.if-at-self.true in
    let enough : count ≤ 8 * length bytes = c.self.invariant in
    let inside : at / 8 < length bytes = omega (arith, less, enough) in
    let byte = c.index.ensures ∙ ap (λ (n : ℕ). slice_index_or bytes n c.index.result.now) c.from.ensures ∙ get_or_default_zero bytes (at / 8) c.index.result.now inside in
    ap (λ (n : ℕ). nat_eq (bit_and (n / 2 ^ (at % 8)) 1) 1) byte ∙ flag_read bytes count at less ∙ ap (λ (xs : List Bool). slice_index_or xs at false) c.self.view_is

pub returns-else-at-self : goal.returns-else-at-self
returns-else-at-self c =
    le-ltb c.args.at c.self.inside.count c.if-at-self.false ∙ sym (flag_behind c.self.inside.bits.items c.self.inside.count c.args.at c.if-at-self.false)
    ∙ ap (λ (xs : List Bool). slice_index_or xs c.args.at false) c.self.view_is
