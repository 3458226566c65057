use Rattle.std.proofs.Common.{◌∙◌, ap, ℕ, ◌*◌, ◌≤◌, ◌<◌, ◌/◌, ◌%◌, List, Bool, true, arith, length, slice_index_or, slice_set}
use Rattle.std.proofs.lemmas.Grind.{get_or_default_zero}
use Rattle.wire_fragments.specs.Bits.{flags_from}
use Rattle.wire_fragments.proofs.FlagLaws.{with_bit, flags_set, flags_long}
use Rattle.wire_fragments.proofs.flags.Flags.set.Goals as goal

pub index_mut-requires : goal.index_mut-requires
index_mut-requires c =
    let within = c.requires in
    let long = flags_long c.self.inside.bits.items 0 c.self.inside.count in
    let same = ap (λ (xs : List Bool). length xs) c.self.view_is in
    let place = c.from.ensures in
    let enough = c.self.invariant in
    omega (arith, within, long, same, place, enough)

pub returns : goal.returns
returns c =
    let bytes = c.self.inside.bits.items in
    let count = c.self.inside.count in
    let at = c.args.at in
    let within = c.requires in
    let long = flags_long bytes 0 count in
    let same = ap (λ (xs : List Bool). length xs) c.self.view_is in
    let enough : count ≤ 8 * length bytes = c.self.invariant in
    let less : at < count = omega (arith, within, long, same) in
    let inside : at / 8 < length bytes = omega (arith, less, enough) in
    let byte = c.index_mut.ensures.value ∙ ap (λ (n : ℕ). slice_index_or bytes n c.index_mut.result.now) c.from.ensures ∙ get_or_default_zero bytes (at / 8) c.index_mut.result.now inside in
    ap (λ (n : ℕ). flags_from (slice_set bytes n (with_bit c.index_mut.result.now (at % 8))) 0 count) c.from.ensures
    ∙ ap (λ (n : ℕ). flags_from (slice_set bytes (at / 8) (with_bit n (at % 8))) 0 count) byte
    ∙ flags_set bytes count at enough less
    ∙ ap (λ (xs : List Bool). slice_set xs at true) c.self.view_is
