use Rattle.std.proofs.Common.{◌∙◌, sym, arith}
use Rattle.std.proofs.lemmas.Grind.{common_steps}
use Rattle.sprite_bytes.proofs.PartLaws.{left_is_given}
use Rattle.sprite_bytes.proofs.plain_source.PlainSource.give.Goals as goal

pub returns-clause-given : goal.returns-clause-given
returns-clause-given c = sym c.self.view_is ∙ left_is_given c.self.inside.bytes.items c.copy_from_slice.new.self _ c.self.inside.at c.min-count.result (grind (arith, common_steps)) (grind (arith, common_steps))
