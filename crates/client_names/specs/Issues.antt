-- Name calls at their issue, with the refusals that are entered here, in their order.
use Rattle.std.specs.Prelude.{ℕ, nat_lt, if◌then◌else◌, List, Option, Some, None}
use Rattle.sprite_ids.specs.declared.DeviceId.{DeviceId}
use Rattle.sprite_ids.specs.declared.Errno.{Errno}
use Rattle.sprite_ids.specs.declared.Errno.TheVariants as errno
use Rattle.process_machine.specs.declared.Call.{Call}
use Rattle.process_machine.specs.declared.Call.TheVariants as calls
use Rattle.process_machine.specs.declared.Reply.TheVariants.{Error}
use Rattle.packet_bodies.specs.declared.NameOp.{NameOp}
use Rattle.packet_bodies.specs.declared.NameOp.TheVariants as ops
use Rattle.unix_calls.specs.declared.About.{About}
use Rattle.client_file_tables.specs.declared.ClientFiles.{ClientFiles}
use Rattle.client_file_tables.specs.declared.NameKind.{NameKind}
use Rattle.client_file_tables.specs.declared.NameKind.TheVariants.{Open, Make, Name}
use Rattle.client_file_tables.specs.Says.{answers_here}
use Rattle.client_file_tables.specs.declared.NameWork.{NameWork}
use Rattle.client_names.specs.OpenFlags.{lawful}
use Rattle.client_names.specs.Paths.{Parts, cleaned}
use Rattle.client_names.specs.Making.{free_descriptor, new_stream, counts_stream}
use Rattle.client_names.specs.Lookups.{looks_up}

-- the call is refused here
abbrev pub refuses_here : About → Call → Errno → ClientFiles → ClientFiles
refuses_here about call why s = answers_here about call (Error why) s

-- the call, as it is looked up
abbrev pub work : About → Call → Parts → NameKind → NameWork
work about call path kind = record { number = about.number; call = call; path = path; kind = kind }

-- an open whose path is a good one: its stream has a number from now on
abbrev pub opens_at : About → Call → Parts → ℕ → ℕ → ClientFiles → ClientFiles
opens_at about call path flags fd s = looks_up about.pid (work about call path (Open flags (new_stream s) fd)) (counts_stream s)

abbrev pub opens_cleaned : About → Call → ℕ → ℕ → Option Parts → ClientFiles → ClientFiles
opens_cleaned about call flags fd (Some path) s = opens_at about call path flags fd s
opens_cleaned about call flags fd None s = refuses_here about call errno.BadName s

abbrev pub opens_path : About → Call → List ℕ → ℕ → ℕ → ClientFiles → ClientFiles
opens_path about call text flags fd s = opens_cleaned about call flags fd (cleaned about.pid text s) s

-- an open with lawful flags
abbrev pub opens_free : About → Call → List ℕ → ℕ → Option ℕ → ClientFiles → ClientFiles
opens_free about call text flags (Some fd) s = opens_path about call text flags fd s
opens_free about call text flags None s = refuses_here about call errno.TooMany s

abbrev pub opens : About → Call → List ℕ → ℕ → ClientFiles → ClientFiles
opens about call text flags s = opens_free about call text flags (free_descriptor about.pid s) s

-- an open: Invalid, TooMany, BadName
abbrev pub opens_lawful : About → Call → List ℕ → Option ℕ → ClientFiles → ClientFiles
opens_lawful about call text (Some flags) s = opens about call text flags s
opens_lawful about call text None s = refuses_here about call errno.Invalid s

abbrev pub issues_open : About → Call → List ℕ → ℕ → ClientFiles → ClientFiles
issues_open about call text flags s = opens_lawful about call text (lawful flags) s

-- a make whose path is a good one: the master's stream has a number from now on
abbrev pub makes_at : About → Call → Parts → DeviceId → ℕ → ClientFiles → ClientFiles
makes_at about call path device fd s = looks_up about.pid (work about call path (Make device (new_stream s) fd)) (counts_stream s)

abbrev pub makes_cleaned : About → Call → DeviceId → ℕ → Option Parts → ClientFiles → ClientFiles
makes_cleaned about call device fd (Some path) s = makes_at about call path device fd s
makes_cleaned about call device fd None s = refuses_here about call errno.BadName s

abbrev pub makes_path : About → Call → List ℕ → DeviceId → ℕ → ClientFiles → ClientFiles
makes_path about call text device fd s = makes_cleaned about call device fd (cleaned about.pid text s) s

-- a make: TooMany, BadName
abbrev pub makes_free : About → Call → List ℕ → DeviceId → Option ℕ → ClientFiles → ClientFiles
makes_free about call text device (Some fd) s = makes_path about call text device fd s
makes_free about call text device None s = refuses_here about call errno.TooMany s

abbrev pub makes : About → Call → List ℕ → DeviceId → ClientFiles → ClientFiles
makes about call text device s = makes_free about call text device (free_descriptor about.pid s) s

-- of the pseudo-device that has its number already
abbrev pub issues_make : About → Call → List ℕ → Option DeviceId → ClientFiles → ClientFiles
issues_make about call text (Some device) s = makes about call text device s
issues_make about call text None s = s

-- a call with one path: BadName
abbrev pub names_cleaned : About → Call → NameOp → ℕ → Option Parts → ClientFiles → ClientFiles
names_cleaned about call op max (Some path) s = looks_up about.pid (work about call path (Name op None max)) s
names_cleaned about call op max None s = refuses_here about call errno.BadName s

abbrev pub names_path : About → Call → List ℕ → NameOp → ℕ → ClientFiles → ClientFiles
names_path about call text op max s = names_cleaned about call op max (cleaned about.pid text s) s

abbrev pub issues_path : About → Call → List ℕ → NameOp → ClientFiles → ClientFiles
issues_path about call text op s = names_path about call text op 0 s

-- a list, of at most so many bytes; more than 32 bits can tell are Invalid
abbrev pub issues_list : About → Call → List ℕ → ℕ → ClientFiles → ClientFiles
issues_list about call text max s =
    if nat_lt 4294967295 max then refuses_here about call errno.Invalid s else names_path about call text ops.List max s

-- a rename: BadName of its old path, then of its new one
abbrev pub renames_to : About → Call → Parts → Parts → ClientFiles → ClientFiles
renames_to about call path second s = looks_up about.pid (work about call path (Name ops.Rename (Some second) 0)) s

abbrev pub renames_second : About → Call → Parts → Option Parts → ClientFiles → ClientFiles
renames_second about call path (Some second) s = renames_to about call path second s
renames_second about call path None s = refuses_here about call errno.BadName s

abbrev pub renames_from : About → Call → Parts → List ℕ → ClientFiles → ClientFiles
renames_from about call path new s = renames_second about call path (cleaned about.pid new s) s

abbrev pub renames_first : About → Call → Option Parts → List ℕ → ClientFiles → ClientFiles
renames_first about call (Some path) new s = renames_from about call path new s
renames_first about call None new s = refuses_here about call errno.BadName s

abbrev pub issues_rename : About → Call → List ℕ → List ℕ → ClientFiles → ClientFiles
issues_rename about call old new s = renames_first about call (cleaned about.pid old s) new s

-- the calls with one path alone
abbrev pub issues_tree_by : Call → About → Call → ClientFiles → ClientFiles
issues_tree_by (calls.Stat path) about call s = issues_path about call path ops.Stat s
issues_tree_by (calls.Mkdir path) about call s = issues_path about call path ops.Mkdir s
issues_tree_by (calls.Rmdir path) about call s = issues_path about call path ops.Rmdir s
issues_tree_by (calls.Unlink path) about call s = issues_path about call path ops.Unlink s
issues_tree_by (calls.Chdir path) about call s = issues_path about call path ops.Chdir s
issues_tree_by _ about call s = s

abbrev pub issues_tree : About → Call → ClientFiles → ClientFiles
issues_tree about call s = issues_tree_by call about call s

-- a name call; any other call does nothing here
abbrev pub issues_name_by : Call → About → Call → Option DeviceId → ClientFiles → ClientFiles
issues_name_by (calls.OpenFile path flags) about call device s = issues_open about call path flags s
issues_name_by (calls.PdMake path) about call device s = issues_make about call path device s
issues_name_by (calls.Rename old new) about call device s = issues_rename about call old new s
issues_name_by (calls.List path max) about call device s = issues_list about call path max s
issues_name_by _ about call device s = issues_tree about call s

abbrev pub issues_name : About → Call → Option DeviceId → ClientFiles → ClientFiles
issues_name about call device s = issues_name_by call about call device s
