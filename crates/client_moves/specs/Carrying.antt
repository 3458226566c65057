-- What a process has open.
use Rattle.std.specs.Prelude.{ℕ, zero, suc, Bool, true, false, List, [], ◌∷◌, ◌++◌, Option, Some, None}
use Rattle.std.specs.List.{list_any}
use Rattle.sprite_ids.specs.declared.Object.{Object}
use Rattle.sprite_ids.specs.declared.Object.TheVariants as objects
use Rattle.stream_table.specs.declared.Carried.{Carried}
use Rattle.stream_table.specs.Owners.{descriptor}
use Rattle.stream_table.specs.Streams.{carried_one}
use Rattle.client_homes.specs.declared.ClientProcs.{ClientProcs}

-- at most one item, behind others
abbrev pub with_item : Option Carried → List Carried → List Carried
with_item (Some item) items = items ++ item ∷ []
with_item None items = items

-- the descriptor with its stream, where it is in use
abbrev pub carried_at : ℕ → ℕ → ClientProcs → Option Carried
carried_at pid fd s = carried_one s.files.streams.entries fd (descriptor s.files.streams.owners pid fd)

-- the descriptors under that number, with their streams
abbrev pub carried_upto : ℕ → ℕ → ClientProcs → List Carried
carried_upto zero pid s = []
carried_upto (suc fd) pid s = with_item (carried_at pid fd s) (carried_upto fd pid s)

-- all of the process's descriptors, with their streams
unfoldable pub all_carried : ℕ → ClientProcs → List Carried
all_carried pid s = carried_upto 16 pid s

-- whether it is the master's end of a pseudo-device
abbrev pub is_master_object : Object → Bool
is_master_object (objects.Master device) = true
is_master_object (objects.File file) = false
is_master_object (objects.Device device) = false

abbrev pub is_master : Carried → Bool
is_master item = is_master_object item.stream.object

-- whether the process holds one
abbrev pub holds_master : ℕ → ClientProcs → Bool
holds_master pid s = list_any is_master (all_carried pid s)
