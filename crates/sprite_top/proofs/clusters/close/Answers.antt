use Rattle.std.proofs.Common.{◌∙◌, sym}
use Rattle.sprite_cluster.proofs.WireLaws.{finish_holds}
use Rattle.sprite_top.proofs.RunLaws.{close_over}
use Rattle.sprite_top.proofs.clusters.close.Goals as goal

pub close-closed-requires : goal.close-closed-requires
close-closed-requires g c = finish_holds g.L.Link.faults g.L.Link.asked c.args.cluster c.finish-finish.new.self c.finish-finish.ensures.description c.finish-finish.ensures.open c.requires.holds

pub returns-clause-over : goal.returns-clause-over
returns-clause-over g c =
    close_over g.L.Link.faults g.L.Link.asked c.args.cluster c.finish-finish.new.self c.close-closed.result.1 c.finish-finish.result c.close-closed.result.0 c.requires.lawful c.requires.holds c.requires.over c.finish-finish.ensures.description c.finish-finish.ensures.begun c.finish-finish.ensures.open c.finish-finish.ensures.stands
    (sym c.is_out_of_memory.ensures ∙ c.if-is_out_of_memory.false) c.close-closed.ensures.link c.close-closed.ensures.closed c.close-closed.ensures.faults c.close-closed.ensures.wire
