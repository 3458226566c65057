use Rattle.std.proofs.Common.{length}
use Rattle.cluster_kernels.proofs.booting.+boot_from.Given as goal

abbrev pub decreases-boot_from : goal.decreases-boot_from
decreases-boot_from l = length l.lines.now
