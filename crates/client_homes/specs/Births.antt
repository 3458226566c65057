-- Children.
use Rattle.std.specs.Prelude.{ℕ, false, not, if◌then◌else◌, List, Option, Some, None, option_map}
use Rattle.std.specs.BTreeMap.{insert_entry}
use Rattle.std.specs.List.{list_any}
use Rattle.std.specs.Ordering.{nat_cmp}
use Rattle.sprite_ids.specs.declared.TxNo.{TxNo}
use Rattle.sprite_ids.specs.Lists.{without}
use Rattle.kernel_steps.specs.Rows.{has_value, is_under}
use Rattle.process_machine.specs.Machine.{Machine}
use Rattle.stream_table.specs.Streams.{forked}
use Rattle.unix_calls.specs.declared.ProgramLine.{ProgramLine}
use Rattle.client_homes.specs.declared.process.Proc.{Proc}
use Rattle.client_homes.specs.declared.process.ProcState.TheVariants.{Ready}
use Rattle.client_homes.specs.declared.client.ClientProcs.{ClientProcs}
use Rattle.client_file_tables.specs.Streams as files
use Rattle.client_homes.specs.Says.{value, with_files}
use Rattle.client_homes.specs.Clusters.{given_by}
use Rattle.client_homes.specs.Procs.{is_call, is_pid, killed_at, proc_at}
use Rattle.client_homes.specs.Ends.{dies}

-- the parent's image, in which `fork` replies 0
abbrev pub image_of_child : List ProgramLine → Machine → Machine
image_of_child programs image = given_by programs image (value 0 0)

abbrev pub child_image : ℕ → ClientProcs → Option Machine
child_image parent s = option_map {T = Proc} (λ proc. image_of_child s.programs proc.image) (proc_at parent s)

-- a process that begins with that image
abbrev pub child_of : Machine → Proc
child_of image = record { number = 0; image = image; fresh = false; killed = false; evict = false; call = None; state = Ready }

-- the child has its parent's descriptors
abbrev pub forks_streams : ℕ → ℕ → ClientProcs → ClientProcs
forks_streams parent child s = with_files (record s.files { streams = forked s.files.streams parent child }) s

-- and its working directory
abbrev pub with_cwd : ℕ → Option (List (List ℕ)) → ClientProcs → ClientProcs
with_cwd child (Some cwd) s = with_files (files.sets_cwd child cwd s.files) s
with_cwd child None s = s

abbrev pub copies_cwd : ℕ → ℕ → ClientProcs → ClientProcs
copies_cwd parent child s = with_cwd child (files.cwd_of parent s.files) s

-- a process is here from now on
abbrev pub puts_proc : ℕ → Proc → ClientProcs → ClientProcs
puts_proc pid proc s = record s { procs = insert_entry nat_cmp s.procs pid proc }

-- a child whose kill came before it dies at once
abbrev pub meets_early : ℕ → ClientProcs → ClientProcs
meets_early child s =
    if not (list_any (is_under is_pid child) s.early) then s
    else dies child (killed_at child (record s { early = without (is_under is_pid child) s.early }))

-- the child begins beside its parent
abbrev pub places_child : ℕ → ℕ → Machine → ClientProcs → ClientProcs
places_child parent child image s = meets_early child (puts_proc child (child_of image) (copies_cwd parent child (forks_streams parent child s)))

abbrev pub places_if : ℕ → ℕ → Option Machine → ClientProcs → ClientProcs
places_if parent child (Some image) s = places_child parent child image s
places_if parent child None s = s

abbrev pub makes_child : ℕ → ℕ → ClientProcs → ClientProcs
makes_child parent child s = places_if parent child (child_image parent s) s

-- that `fork` is answered
abbrev pub forgets_early : TxNo → ClientProcs → ClientProcs
forgets_early tx s = record s { early = without (has_value is_call tx) s.early }
