use Rattle.std.proofs.Common.{◌∙◌, ap, sym, List, Bool, length}
use Rattle.wire_fragments.proofs.FlagLaws.{flags_long}
use Rattle.wire_fragments.proofs.flags.Flags.len.Goals as goal

pub returns : goal.returns
returns c = sym (flags_long c.self.inside.bits.items 0 c.self.inside.count) ∙ ap (λ (xs : List Bool). length xs) c.self.view_is
