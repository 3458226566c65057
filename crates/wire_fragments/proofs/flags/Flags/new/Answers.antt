use Rattle.std.proofs.Common.{◌∙◌, ap, ℕ, List}
use Rattle.wire_fragments.specs.Bits.{flags_from}
use Rattle.wire_fragments.proofs.FlagLaws.{flags_none}
use Rattle.wire_fragments.proofs.flags.Flags.new.Goals as goal

pub returns : goal.returns
returns c = ap (λ (xs : List ℕ). flags_from xs 0 c.args.count) (c.in_ok-bits.ensures.items_if_clones_equal (λ y e. e)) ∙ flags_none _ 0 c.args.count
