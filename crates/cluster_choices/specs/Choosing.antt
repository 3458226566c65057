-- What may happen next at a kernel, apart from its processes.
use Rattle.std.specs.Prelude.{ℕ, List, [], ◌∷◌, ◌++◌, map, Option, Some, None}
use Rattle.sprite_ids.specs.declared.BlockNo.{BlockNo}
use Rattle.sprite_ids.specs.declared.FileId.{FileId}
use Rattle.kernel_rpc.specs.Machine.{Machine, due_of, offered}
use Rattle.cluster_choices.specs.declared.choice.Choice.{Choice}
use Rattle.cluster_choices.specs.declared.choice.Choice.TheVariants.{Deliver, Expire, WriteBack}
use Rattle.cluster_kernels.specs.declared.State.{State}
use Rattle.cluster_kernels.specs.States.{due_at}

-- that a looked-up block is written back
abbrev pub write_back_of : Option (FileId × BlockNo) → List Choice
write_back_of None = []
write_back_of (Some block) = WriteBack block.0 block.1 ∷ []

-- the copies that may come, in the order of sending, the timers that may fire, by ascending calls, and the block that is due
abbrev pub choices_at : ℕ → State → Machine → List Choice
choices_at kernel s machine = (map Deliver (offered machine kernel) ++ map Expire (due_of machine kernel)) ++ write_back_of (due_at kernel s)
