use Rattle.sprite_cluster.proofs.BootLaws.{boot_holds}
use Rattle.sprite_top.proofs.clusters.run_cluster.Goals as goal

pub run_booted-requires-clause-holds : goal.run_booted-requires-clause-holds
run_booted-requires-clause-holds g c =
    λ κs lives. boot_holds g.L.Link.faults g.L.Link.asked c.args.link c.args.description c.in-Ok.cluster c.requires c.in-Ok.ensures.described c.in-Ok.ensures.nothing_written c.in-Ok.ensures.begun c.in-Ok.ensures.idle c.in-Ok.ensures.counts c.in-Ok.ensures.booted
