-- The server when the cluster begins.
use Rattle.std.specs.Prelude.{◌≡◌, ℕ, zero, suc, ◌-◌, ◌==◌, nat_lt, Bool, true, false, ◌&&◌, ◌||◌, not, if◌then◌else◌, List, [], ◌∷◌, ◌++◌, length, slice_get, slice_set, Option, Some, None, Result, Ok, Err}
use Rattle.std.specs.List.{filter, list_all, position}
use Rattle.sprite_ids.specs.declared.FileId.{FileId}
use Rattle.sprite_paths.specs.Path.{is_prefix}
use Rattle.kernel_steps.specs.Outs.{started}
use Rattle.unix_calls.specs.declared.Description.{Description}
use Rattle.unix_calls.specs.declared.KernelLine.{KernelLine}
use Rattle.unix_calls.specs.declared.FileLine.{FileLine}
use Rattle.unix_calls.specs.Boot.{limit_of}
use Rattle.unix_calls.specs.Domains.{roots_of}
use Rattle.server_names.specs.declared.NameEnd.{NameEnd}
use Rattle.server_names.specs.declared.Node.{Node}
use Rattle.server_names.specs.declared.Node.TheVariants.{Dir, File, Device}
use Rattle.server_names.specs.declared.Entry.TheVariants as entries
use Rattle.server_names.specs.Names.{Tree, booted, hung_all}
use Rattle.server_kernel.specs.declared.server.Domain.{Domain}
use Rattle.server_kernel.specs.declared.server.Server.{Server}
use Rattle.server_kernel.specs.Files.{size_in, made_file, written_to}
use Rattle.server_kernel.specs.Directory.{Parts, has_path, domain_at, found_in}
use Rattle.server_kernel.specs.Opens.{new_file, counts_file}

-- a step that answered true made that, and one that answered false could make nothing
abbrev pub Fits : {A : Type 0} → Bool → Option A → A → Type 0
Fits true wanted new = wanted ≡ Some new
Fits false wanted new = wanted ≡ None

-- what a step made, and then the next one
abbrev pub and_then : {A B : Type 0} → Option A → (A → Option B) → Option B
and_then (Some made) next = next made
and_then None next = None

-- the server with no domain and no file
abbrev pub bare : Description → ℕ → Server
bare c kernel = record {
  kernel = kernel;
  roots = roots_of c.kernels;
  domains = [];
  store = record { limit = limit_of c.version; files = [] };
  versions = record { cached = nat_lt 0 c.cache; files = [] };
  shadows = [];
  swap = [];
  next_file = 1;
  unlinked = [];
  asking = [];
  waiting = [];
  callbacks = [];
  out = started (record { 0 = 0 });
}

-- where a looked-up kernel's own domains hang
abbrev pub serves_in : Option KernelLine → List Parts
serves_in (Some line) = line.serves
serves_in None = []

abbrev pub serves_of : List KernelLine → ℕ → List Parts
serves_of lines kernel = serves_in (slice_get lines (kernel - 1))

-- whether the path lies below the root of a domain
abbrev pub is_below : Parts → Parts → Bool
is_below root path = is_prefix root path && nat_lt (length root) (length path)

-- whether each domain that has the link below its root has the other root too, so that none lies between the two
abbrev pub are_above : List Parts → Parts → Parts → Bool
are_above roots root link = list_all (λ other. not (is_below other link) || is_prefix other root) roots

-- whether a domain hangs directly in another one
abbrev pub hangs_in : List Parts → Parts → Parts → Bool
hangs_in roots root link = if is_below root link then are_above roots root link else false

-- where other domains hang directly in the one that hangs there
abbrev pub links_of : List Parts → Parts → List Parts
links_of roots root = filter (hangs_in roots root) roots

-- names that fit together
abbrev pub names_from : Result Tree NameEnd → Option Tree
names_from (Ok tree) = Some tree
names_from (Err end) = None

-- the names with the root of a domain and the directories above it
abbrev pub rooted : Parts → Tree → Option Tree
rooted root tree = if length root == 0 then Some tree else names_from (booted tree root (entries.Node Dir))

-- the names of a domain in which no other hangs
abbrev pub bare_names : Parts → Option Tree
bare_names root = rooted root []

-- the names of the domain that hangs there: a remote link where another one hangs directly in it
abbrev pub linked_names : Parts → List Parts → Option Tree
linked_names root links = if length links == 0 then bare_names root else names_from (hung_all [] links)

abbrev pub names_of : List Parts → Parts → Option Tree
names_of roots root = linked_names root (links_of roots root)

-- the server with one domain more
abbrev pub with_domain_of : Parts → Server → Option Tree → Option Server
with_domain_of root s (Some tree) = Some (record s { domains = s.domains ++ record { root = root; names = tree } ∷ [] })
with_domain_of root s None = None

-- the domain is made, where its root has so many parts
abbrev pub hangs_one : ℕ → Parts → Server → Option Server
hangs_one parts root s = if length root == parts then with_domain_of root s (names_of s.roots root) else Some s

-- the domains whose roots have so many parts
abbrev pub hangs_all : ℕ → List Parts → Server → Option Server
hangs_all parts [] s = Some s
hangs_all parts (root ∷ roots) s = and_then (hangs_one parts root s) (λ next. hangs_all parts roots next)

-- the domains, of which those with longer roots come first: the first so many of the 17 lengths from 16 down
abbrev pub all_hung : List Parts → ℕ → Server → Option Server
all_hung serves zero s = Some s
all_hung serves (suc done) s = and_then (all_hung serves done s) (λ next. hangs_all (16 - done) serves next)

-- whether no longer domain than that one has the path
abbrev pub is_longest : List Parts → Parts → Parts → Bool
is_longest roots root path = list_all (λ other. not (is_prefix other path) || is_prefix other root) roots

-- whether the longest domain of the path is one of this server's
abbrev pub lies_in : List Parts → Parts → Option Domain → Bool
lies_in roots path (Some domain) = is_longest roots domain.root path
lies_in roots path None = false

abbrev pub lies_here : Parts → Server → Bool
lies_here path s = lies_in s.roots path (domain_at path s)

-- a file is named, with the directories above it
abbrev pub named_domain : Domain → Result Tree NameEnd → Option Domain
named_domain domain (Ok tree) = Some (record domain { names = tree })
named_domain domain (Err end) = None

abbrev pub booted_domain : Parts → FileId → Domain → Option Domain
booted_domain path file domain = named_domain domain (booted domain.names path (entries.Node (File file)))

-- the domains with another one at a place
abbrev pub put_at : ℕ → List Domain → Option Domain → Option (List Domain)
put_at at domains (Some domain) = Some (slice_set domains at domain)
put_at at domains None = None

abbrev pub boot_by : ℕ → Parts → FileId → Option Domain → List Domain → Option (List Domain)
boot_by at path file (Some domain) domains = put_at at domains (booted_domain path file domain)
boot_by at path file None domains = None

abbrev pub with_domains : Server → Option (List Domain) → Option Server
with_domains s (Some domains) = Some (record s { domains = domains })
with_domains s None = None

abbrev pub boots_at : Parts → FileId → Option ℕ → Server → Option Server
boots_at path file (Some at) s = with_domains s (boot_by at path file (slice_get s.domains at) s.domains)
boots_at path file None s = None

abbrev pub boots_name : Parts → FileId → Server → Option Server
boots_name path file s = boots_at path file (position (has_path path) s.domains) s

-- the bytes are put to the end of the file
abbrev pub appends_file : FileId → List ℕ → Server → Server
appends_file file bytes s = written_to file (size_in file s) bytes s

abbrev pub appends_found : List ℕ → Result Node NameEnd → Server → Server
appends_found bytes (Ok (File file)) s = appends_file file bytes s
appends_found bytes (Ok Dir) s = s
appends_found bytes (Ok (Device device)) s = s
appends_found bytes (Err end) s = s

-- a line that joins an earlier one's file puts its bytes to the file's end
abbrev pub appends_line : FileLine → Server → Server
appends_line line s = appends_found line.bytes (found_in line.path s) s

-- any other line makes a file with its bytes
abbrev pub filled : FileId → List ℕ → Server → Server
filled file bytes s = written_to file 0 bytes (made_file file s)

abbrev pub makes_line : FileLine → Server → Option Server
makes_line line s = and_then (boots_name line.path (new_file s) s) (λ next. Some (filled (new_file s) line.bytes next))

-- a line whose file lies in a domain of this server
abbrev pub fills_line : FileLine → Server → Option Server
fills_line line s = if lies_here line.path s then (if line.append then Some (appends_line line s) else makes_line line s) else Some s

-- the lines, one after the other; each takes a number
abbrev pub fills : List FileLine → Server → Option Server
fills [] s = Some s
fills (line ∷ lines) s = and_then (fills_line line s) (λ next. fills lines (counts_file next))

-- the domains that the server serves, and then the files in them
abbrev pub set_up : Description → Server → Option Server
set_up c s = and_then (all_hung (serves_of c.kernels s.kernel) 17 s) (λ next. fills c.files next)

-- the server of that number when the cluster begins
abbrev pub boots : Description → ℕ → Option Server
boots c kernel = set_up c (bare c kernel)
