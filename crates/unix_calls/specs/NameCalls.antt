-- The calls on names. Each begins with its path, cleaned from the caller's cwd. BadName: the text is no path.
use Rattle.std.specs.Prelude.{ℕ, ◌==◌, Bool, ◌&&◌, not, if◌then◌else◌, List, [], ◌∷◌, ◌++◌, length, nat_lt, Option, Some, None}
use Rattle.std.specs.List.{flat_map}
use Rattle.std.specs.Option.{is_some}
use Rattle.sprite_ids.specs.declared.errno.Errno.{Errno}
use Rattle.sprite_ids.specs.declared.errno.Errno.TheVariants as errno
use Rattle.sprite_paths.specs.Path.{clean_path}
use Rattle.process_machine.specs.declared.call.Reply.TheVariants.{Value}
use Rattle.unix_calls.specs.declared.description.Description.{Description}
use Rattle.unix_calls.specs.Domains.{begins_domain, domain_of}
use Rattle.unix_calls.specs.Tree.{Node, Directory, FileNode, DeviceNode, same_path, node_at, with_name, without_name, above, names_in, is_full, first_of, walk}
use Rattle.unix_calls.specs.State.{Process, Unix}
use Rattle.unix_calls.specs.Answers.{Outcome, replies, is_done, gives, refuses, unless_refused}

-- the call goes on with the path of a text
abbrev pub with_path : Description → Unix → Process → Option (List (List ℕ)) → (List (List ℕ) → Outcome) → Outcome
with_path c u p None rest = refuses c u p errno.BadName
with_path c u p (Some path) rest = rest path

-- from the caller's cwd
abbrev pub at_path : Description → Unix → Process → List ℕ → (List (List ℕ) → Outcome) → Outcome
at_path c u p text rest = with_path c u p (clean_path p.cwd text) rest

-- NoEntry: nothing stands there
abbrev pub missing : Option Node → Option Errno
missing None = Some errno.NoEntry
missing (Some node) = None

-- NotDir: it is no directory
abbrev pub no_directory : Option Node → Option Errno
no_directory (Some Directory) = None
no_directory other = Some errno.NotDir

-- IsDir: it is one
abbrev pub a_directory : Option Node → Option Errno
a_directory (Some Directory) = Some errno.IsDir
a_directory other = None

-- a refusal where a fact holds
abbrev pub refusal_if : Bool → Errno → Option Errno
refusal_if fact errno = if fact then Some errno else None

-- stat: 1 for a file, 2 for a directory with the number of its entries, 3 for a device. Walk, NoEntry
abbrev pub stat_of : Description → Unix → Process → List (List ℕ) → Option Node → Outcome
stat_of c u p path None = refuses c u p errno.NoEntry
stat_of c u p path (Some Directory) = replies c u p (Value 2 (length (names_in u.nodes path)) [])
stat_of c u p path (Some (FileNode name)) = gives c u p 1
stat_of c u p path (Some (DeviceNode place)) = gives c u p 3

abbrev pub stat : Description → Unix → Process → List (List ℕ) → Outcome
stat c u p path = unless_refused c u p (walk u.nodes path) (stat_of c u p path (node_at u.nodes path))

-- why no new name can be made. Walk; Exists: something stands there; TooMany: the directory is full
abbrev pub new_refusal : Unix → List (List ℕ) → Option Errno
new_refusal u path =
    first_of (walk u.nodes path) (first_of
    (refusal_if (is_some (node_at u.nodes path)) errno.Exists)
    (refusal_if (is_full u.nodes (above path)) errno.TooMany))

-- the state with one name more
abbrev pub named : List (List ℕ) → Node → Unix → Unix
named path node u = record u { nodes = with_name (record { path = path; node = node }) u.nodes }

-- the state with one name less
abbrev pub unnamed : List (List ℕ) → Unix → Unix
unnamed path u = record u { nodes = without_name path u.nodes }

-- mkdir: an empty directory
abbrev pub mkdir : Description → Unix → Process → List (List ℕ) → Outcome
mkdir c u p path = unless_refused c u p (new_refusal u path) (is_done c (named path Directory u) p)

-- rmdir: the directory goes. Busy: a domain; walk, NoEntry, NotDir; NotEmpty: something stands below
abbrev pub rmdir_refusal : Unix → List (List ℕ) → Option Errno
rmdir_refusal u path =
    first_of (refusal_if (begins_domain u.roots path) errno.Busy) (first_of (walk u.nodes path) (first_of
    (missing (node_at u.nodes path)) (first_of
    (no_directory (node_at u.nodes path))
    (refusal_if (nat_lt 0 (length (names_in u.nodes path))) errno.NotEmpty))))

abbrev pub rmdir : Description → Unix → Process → List (List ℕ) → Outcome
rmdir c u p path = unless_refused c u p (rmdir_refusal u path) (is_done c (unnamed path u) p)

-- unlink: the name goes; a file's streams keep it. Walk, NoEntry, IsDir
abbrev pub unlink_refusal : Unix → List (List ℕ) → Option Errno
unlink_refusal u path =
    first_of (walk u.nodes path) (first_of (missing (node_at u.nodes path)) (a_directory (node_at u.nodes path)))

abbrev pub unlink : Description → Unix → Process → List (List ℕ) → Outcome
unlink c u p path = unless_refused c u p (unlink_refusal u path) (is_done c (unnamed path u) p)

-- rename: the file or device at the old path has the new one. XDev: two domains; walk and NoEntry of the old path;
-- IsDir; walk of the new path; Exists; TooMany: another directory that is full
abbrev pub rename_refusal : Unix → List (List ℕ) → List (List ℕ) → Option Errno
rename_refusal u old new =
    first_of (refusal_if (not (domain_of u.roots old == domain_of u.roots new)) errno.XDev) (first_of
    (walk u.nodes old) (first_of
    (missing (node_at u.nodes old)) (first_of
    (a_directory (node_at u.nodes old)) (first_of
    (walk u.nodes new) (first_of
    (refusal_if (is_some (node_at u.nodes new)) errno.Exists)
    (refusal_if (not (same_path (above old) (above new)) && is_full u.nodes (above new)) errno.TooMany))))))

-- the state in which what stands at a path has another one
abbrev pub moved_to : List (List ℕ) → List (List ℕ) → Option Node → Unix → Unix
moved_to old new None u = u
moved_to old new (Some node) u = named new node (unnamed old u)

abbrev pub rename : Description → Unix → Process → List (List ℕ) → List (List ℕ) → Outcome
rename c u p old new =
    unless_refused c u p (rename_refusal u old new) (is_done c (moved_to old new (node_at u.nodes old) u) p)

-- list addr max: each name and byte 10, in byte order, and how many bytes they are. Walk, NoEntry, NotDir; Invalid: more
-- than max
abbrev pub listing : Unix → List (List ℕ) → List ℕ
listing u path = flat_map (λ name. name ++ 10 ∷ []) (names_in u.nodes path)

abbrev pub list_refusal : Unix → List (List ℕ) → ℕ → Option Errno
list_refusal u path max =
    first_of (walk u.nodes path) (first_of
    (missing (node_at u.nodes path)) (first_of
    (no_directory (node_at u.nodes path))
    (refusal_if (nat_lt max (length (listing u path))) errno.Invalid)))

abbrev pub list : Description → Unix → Process → List (List ℕ) → ℕ → Outcome
list c u p path max =
    unless_refused c u p (list_refusal u path max) (replies c u p (Value (length (listing u path)) 0 (listing u path)))

-- chdir: the path is the caller's cwd. Walk, NoEntry, NotDir
abbrev pub chdir_refusal : Unix → List (List ℕ) → Option Errno
chdir_refusal u path =
    first_of (walk u.nodes path) (first_of (missing (node_at u.nodes path)) (no_directory (node_at u.nodes path)))

abbrev pub chdir : Description → Unix → Process → List (List ℕ) → Outcome
chdir c u p path = unless_refused c u p (chdir_refusal u path) (is_done c u (record p { cwd = path }))
