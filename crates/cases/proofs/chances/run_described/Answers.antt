use Rattle.sprite_cluster.proofs.BootLaws.{boot_holds}
use Rattle.cases.proofs.chances.run_described.Goals as goal

pub run_by_chance-requires-clause-holds : goal.run_by_chance-requires-clause-holds
run_by_chance-requires-clause-holds g c = boot_holds g.L.Link.faults g.L.Link.asked c.args.link c.args.description c.in-Ok-boot.cluster c.requires c.in-Ok-boot.ensures.described c.in-Ok-boot.ensures.nothing_written c.in-Ok-boot.ensures.begun c.in-Ok-boot.ensures.idle c.in-Ok-boot.ensures.counts c.in-Ok-boot.ensures.booted
