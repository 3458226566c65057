-- Jobs of a cluster.
use Rattle.unix_calls.specs.declared.Description.{Description}
use Rattle.cluster_bursts.specs.declared.Burst.{Burst}
use Rattle.cluster_bursts.specs.declared.Job.{Job}
use Rattle.cluster_bursts.specs.Bursts.{Did, IsDone}

-- each burst that is the job done may end at a cluster of the description
abbrev pub MayEnd : Description → Job → Type 0
MayEnd c job = (b : Burst) → IsDone job b → Did c b
