use Rattle.std.proofs.Common.{◌∙◌}
use Rattle.write_delay.proofs.DelayLaws.{found_any}
use Rattle.write_delay.proofs.delays.Delays.listed.Goals as goal

pub returns : goal.returns
returns c =
    rw (← c.self.view_is) (c.contains.ensures ∙ found_any (record { file = c.args.file; block = c.args.block }) c.self.inside.blocks.entries)
