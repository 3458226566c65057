-- The name calls at the server. A walk that meets a remote link is answered with its path, and enters nothing.
use Rattle.std.specs.Prelude.{ℕ, nat_lt, Bool, true, false, if◌then◌else◌, List, [], length, Option, Some, None, Result, Ok, Err}
use Rattle.sprite_ids.specs.declared.TxNo.{TxNo}
use Rattle.sprite_ids.specs.declared.FileId.{FileId}
use Rattle.sprite_ids.specs.declared.Errno.{Errno}
use Rattle.sprite_ids.specs.declared.Errno.TheVariants as errno
use Rattle.process_machine.specs.declared.Call.{Call}
use Rattle.process_machine.specs.declared.Call.TheVariants as calls
use Rattle.packet_bodies.specs.declared.NameOp.{NameOp}
use Rattle.packet_bodies.specs.declared.NameOp.TheVariants as ops
use Rattle.packet_bodies.specs.declared.NameRequest.{NameRequest}
use Rattle.packet_bodies.specs.declared.MakeRequest.{MakeRequest}
use Rattle.packet_bodies.specs.declared.ValueReply.{ValueReply}
use Rattle.packet_bodies.specs.declared.ReplyBody.TheVariants as replies
use Rattle.server_names.specs.declared.NameEnd.{NameEnd}
use Rattle.server_names.specs.declared.NameEnd.TheVariants as ends
use Rattle.server_names.specs.declared.Node.{Node}
use Rattle.server_names.specs.declared.Node.TheVariants.{Dir, File, Device}
use Rattle.version_table.specs.Lists.{is_any}
use Rattle.server_kernel.specs.declared.asked.Asked.{Asked}
use Rattle.server_kernel.specs.declared.asked.Caller.{Caller}
use Rattle.server_kernel.specs.declared.server.Server.{Server}
use Rattle.server_kernel.specs.Says.{answers, value, gives, refuses}
use Rattle.server_kernel.specs.Files.{kept_of, is_busy, marked, forgotten, waits}
use Rattle.server_kernel.specs.Directory.{Parts, found_in, count_in, make_in, with_made, remove_in, with_removed, rename_in, with_renamed, is_root, are_apart}
use Rattle.server_kernel.specs.Listing.{list_in}

-- a text, or none
abbrev pub text_or_none : Option (List ℕ) → List ℕ
text_or_none (Some text) = text
text_or_none None = []

-- the call that a request carries
abbrev pub call_by : NameOp → NameRequest → Call
call_by ops.Walk r = calls.Stat r.text
call_by ops.Stat r = calls.Stat r.text
call_by ops.Mkdir r = calls.Mkdir r.text
call_by ops.Rmdir r = calls.Rmdir r.text
call_by ops.Unlink r = calls.Unlink r.text
call_by ops.Rename r = calls.Rename r.text (text_or_none r.second_text)
call_by ops.List r = calls.List r.text r.max
call_by ops.Chdir r = calls.Chdir r.text

abbrev pub name_call : NameRequest → Call
name_call r = call_by r.op r

-- the process that a request goes for
abbrev pub name_caller : TxNo → NameRequest → Caller
name_caller tx r = record { tx = tx; pid = r.pid; number = r.number }

-- the name call gives this value
abbrev pub gives_name : TxNo → NameRequest → ValueReply → Server → Server
gives_name tx r given s = gives (name_caller tx r) (name_call r) given s

-- the name call is refused
abbrev pub refuses_name : TxNo → NameRequest → Errno → Server → Server
refuses_name tx r why s = refuses (name_caller tx r) (name_call r) why s

-- the name call ends at a name: it is refused, or its walk met a remote link
abbrev pub ends_name : TxNo → NameRequest → NameEnd → Server → Server
ends_name tx r (ends.Errno why) s = refuses_name tx r why s
ends_name tx r (ends.Redirect path) s = answers tx (replies.Redirect path) s
ends_name tx r ends.NoMemory s = s

-- stat: 1 for a file, 2 for a directory with the number of its entries, 3 for a device
abbrev pub stats_directory : TxNo → NameRequest → Result ℕ NameEnd → Server → Server
stats_directory tx r (Ok count) s = gives_name tx r (value 2 count) s
stats_directory tx r (Err end) s = ends_name tx r end s

abbrev pub stats_node : TxNo → NameRequest → Node → Server → Server
stats_node tx r (File file) s = gives_name tx r (value 1 0) s
stats_node tx r (Device device) s = gives_name tx r (value 3 0) s
stats_node tx r Dir s = stats_directory tx r (count_in r.path s) s

abbrev pub stats_found : TxNo → NameRequest → Result Node NameEnd → Server → Server
stats_found tx r (Ok node) s = stats_node tx r node s
stats_found tx r (Err end) s = ends_name tx r end s

abbrev pub stats : TxNo → NameRequest → Server → Server
stats tx r s = stats_found tx r (found_in r.path s) s

-- mkdir: an empty directory
abbrev pub makes_directory_by : TxNo → NameRequest → Result (Unit {0}) NameEnd → Server → Server
makes_directory_by tx r (Ok done) s = gives_name tx r (value 0 0) (with_made r.path Dir s)
makes_directory_by tx r (Err end) s = ends_name tx r end s

abbrev pub makes_directory : TxNo → NameRequest → Server → Server
makes_directory tx r s = makes_directory_by tx r (make_in r.path s) s

-- rmdir: an empty directory goes, but no domain's root
abbrev pub removes_empty : TxNo → NameRequest → Result Node NameEnd → Server → Server
removes_empty tx r (Ok node) s = gives_name tx r (value 0 0) (with_removed r.path s)
removes_empty tx r (Err end) s = ends_name tx r end s

abbrev pub removes_directory : TxNo → NameRequest → Server → Server
removes_directory tx r s = if is_root r.path s then refuses_name tx r errno.Busy s else removes_empty tx r (remove_in r.path true s) s

-- list: the names of a directory, unless they are more bytes than were asked for
abbrev pub lists_text : TxNo → NameRequest → List ℕ → Server → Server
lists_text tx r text s =
    if nat_lt r.max (length text) then refuses_name tx r errno.Invalid s
    else gives_name tx r (record { first = length text; second = 0; bytes = text }) s

abbrev pub lists_by : TxNo → NameRequest → Result (List ℕ) NameEnd → Server → Server
lists_by tx r (Ok text) s = lists_text tx r text s
lists_by tx r (Err end) s = ends_name tx r end s

abbrev pub lists : TxNo → NameRequest → Server → Server
lists tx r s = lists_by tx r (list_in r.path s) s

-- chdir: the path names a directory
abbrev pub changes_to : TxNo → NameRequest → Node → Server → Server
changes_to tx r Dir s = gives_name tx r (value 0 0) s
changes_to tx r (File file) s = refuses_name tx r errno.NotDir s
changes_to tx r (Device device) s = refuses_name tx r errno.NotDir s

abbrev pub changes_found : TxNo → NameRequest → Result Node NameEnd → Server → Server
changes_found tx r (Ok node) s = changes_to tx r node s
changes_found tx r (Err end) s = ends_name tx r end s

abbrev pub changes_directory : TxNo → NameRequest → Server → Server
changes_directory tx r s = changes_found tx r (found_in r.path s) s

-- a file without a name is forgotten where nobody has it open
abbrev pub forgets_closed : FileId → Server → Server
forgets_closed file s = if is_any (kept_of file s).opens then s else forgotten file s

-- unlink: a file or device has the name no more; a file is marked, for its streams keep it
abbrev pub takes_name_by : TxNo → NameRequest → Result Node NameEnd → Server → Server
takes_name_by tx r (Ok (File file)) s = marked file (gives_name tx r (value 0 0) (with_removed r.path s))
takes_name_by tx r (Ok Dir) s = gives_name tx r (value 0 0) (with_removed r.path s)
takes_name_by tx r (Ok (Device device)) s = gives_name tx r (value 0 0) (with_removed r.path s)
takes_name_by tx r (Err end) s = ends_name tx r end s

abbrev pub takes_name : TxNo → NameRequest → Server → Server
takes_name tx r s = takes_name_by tx r (remove_in r.path false s) s

-- the file that has its name no more
abbrev pub unnamed_by : Result Node NameEnd → Option FileId
unnamed_by (Ok (File file)) = Some file
unnamed_by (Ok Dir) = None
unnamed_by (Ok (Device device)) = None
unnamed_by (Err end) = None

abbrev pub unnamed : NameRequest → Server → Option FileId
unnamed r s = unnamed_by (remove_in r.path false s)

-- it is forgotten where nobody has it open
abbrev pub forgets_unnamed : Option FileId → Server → Server
forgets_unnamed (Some file) s = forgets_closed file s
forgets_unnamed None s = s

abbrev pub takes_away : TxNo → NameRequest → Server → Server
takes_away tx r s = forgets_unnamed (unnamed r s) (takes_name tx r s)

-- the name of a busy file waits: an open that waits for callbacks is entered by it
abbrev pub unlinks_file : Asked → NameRequest → FileId → Server → Server
unlinks_file asked r file s = if is_busy file s then waits asked file s else takes_away asked.tx r s

abbrev pub unlinks_found : Asked → NameRequest → Result Node NameEnd → Server → Server
unlinks_found asked r (Ok (File file)) s = unlinks_file asked r file s
unlinks_found asked r (Ok Dir) s = takes_away asked.tx r s
unlinks_found asked r (Ok (Device device)) s = takes_away asked.tx r s
unlinks_found asked r (Err end) s = ends_name asked.tx r end s

abbrev pub unlinks : Asked → NameRequest → Server → Server
unlinks asked r s = unlinks_found asked r (found_in r.path s) s

-- rename: a file or device has another name of its domain
abbrev pub renames_by : TxNo → NameRequest → Parts → Result (Unit {0}) NameEnd → Server → Server
renames_by tx r new (Ok done) s = gives_name tx r (value 0 0) (with_renamed r.path new s)
renames_by tx r new (Err end) s = ends_name tx r end s

abbrev pub renames_now : TxNo → NameRequest → Parts → Server → Server
renames_now tx r new s = renames_by tx r new (rename_in r.path new s) s

-- the name of a busy file waits, as for unlink
abbrev pub renames_file : Asked → NameRequest → Parts → FileId → Server → Server
renames_file asked r new file s = if is_busy file s then waits asked file s else renames_now asked.tx r new s

abbrev pub renames_found : Asked → NameRequest → Parts → Result Node NameEnd → Server → Server
renames_found asked r new (Ok (File file)) s = renames_file asked r new file s
renames_found asked r new (Ok Dir) s = renames_now asked.tx r new s
renames_found asked r new (Ok (Device device)) s = renames_now asked.tx r new s
renames_found asked r new (Err end) s = ends_name asked.tx r end s

abbrev pub renames_here : Asked → NameRequest → Parts → Server → Server
renames_here asked r new s = renames_found asked r new (found_in r.path s) s

-- names in two domains can't be one file's, unless the walk of the old one leads on into another domain
abbrev pub apart_by : TxNo → NameRequest → Result Node NameEnd → Server → Server
apart_by tx r (Ok node) s = refuses_name tx r errno.XDev s
apart_by tx r (Err (ends.Errno why)) s = refuses_name tx r errno.XDev s
apart_by tx r (Err (ends.Redirect path)) s = answers tx (replies.Redirect path) s
apart_by tx r (Err ends.NoMemory) s = s

abbrev pub refuses_apart : TxNo → NameRequest → Server → Server
refuses_apart tx r s = apart_by tx r (found_in r.path s) s

abbrev pub renames_to : Asked → NameRequest → Parts → Server → Server
renames_to asked r new s = if are_apart r.path new s then refuses_apart asked.tx r s else renames_here asked r new s

-- a rename without a new path does nothing
abbrev pub renames_with : Asked → NameRequest → Option Parts → Server → Server
renames_with asked r (Some new) s = renames_to asked r new s
renames_with asked r None s = s

abbrev pub renames : Asked → NameRequest → Server → Server
renames asked r s = renames_with asked r r.second s

-- a name call; nobody asks for a walk alone
abbrev pub names_by : NameOp → Asked → NameRequest → Server → Server
names_by ops.Walk asked r s = s
names_by ops.Stat asked r s = stats asked.tx r s
names_by ops.Mkdir asked r s = makes_directory asked.tx r s
names_by ops.Rmdir asked r s = removes_directory asked.tx r s
names_by ops.Unlink asked r s = unlinks asked r s
names_by ops.Rename asked r s = renames asked r s
names_by ops.List asked r s = lists asked.tx r s
names_by ops.Chdir asked r s = changes_directory asked.tx r s

abbrev pub names : Asked → NameRequest → Server → Server
names asked r s = names_by r.op asked r s

-- a device is made, and the call gives the descriptor of its master's stream
abbrev pub device_caller : TxNo → MakeRequest → Caller
device_caller tx r = record { tx = tx; pid = r.pid; number = r.number }

abbrev pub gives_device : TxNo → MakeRequest → Server → Server
gives_device tx r s = gives (device_caller tx r) (calls.PdMake r.text) (value r.fd 0) s

abbrev pub refuses_device : TxNo → MakeRequest → Errno → Server → Server
refuses_device tx r why s = refuses (device_caller tx r) (calls.PdMake r.text) why s

abbrev pub makes_device_by : TxNo → MakeRequest → Result (Unit {0}) NameEnd → Server → Server
makes_device_by tx r (Ok done) s = gives_device tx r (with_made r.path (Device r.device) s)
makes_device_by tx r (Err (ends.Errno why)) s = refuses_device tx r why s
makes_device_by tx r (Err (ends.Redirect path)) s = answers tx (replies.Redirect path) s
makes_device_by tx r (Err ends.NoMemory) s = s

abbrev pub makes_device : TxNo → MakeRequest → Server → Server
makes_device tx r s = makes_device_by tx r (make_in r.path s) s
