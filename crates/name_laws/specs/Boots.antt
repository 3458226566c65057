-- How the names of a server's domains begin.
use Rattle.std.specs.Prelude.{◌≡◌, ◌≤◌, ◌+◌, ℕ, Bool, true, false, if◌then◌else◌, List, [], ◌∷◌, Option, Some, None, Ok, slice_get}
use Rattle.std.specs.List.{AllByRecursion, list_any}
use Rattle.sprite_ids.specs.declared.FileId.{FileId}
use Rattle.unix_calls.specs.declared.Description.{Description}
use Rattle.unix_calls.specs.declared.KernelLine.{KernelLine}
use Rattle.unix_calls.specs.declared.FileLine.{FileLine}
use Rattle.unix_calls.specs.declared.state.FileName.TheVariants.{Boot}
use Rattle.unix_calls.specs.Boot.{boot_of}
use Rattle.unix_calls.specs.Domains.{begins_domain, roots_of}
use Rattle.unix_calls.specs.Lawful.{Lawful}
use Rattle.server_kernel.specs.declared.Domain.{Domain}
use Rattle.server_kernel.specs.declared.Server.{Server}
use Rattle.server_kernel.specs.Boot.{boots, serves_of}
use Rattle.tree_laws.specs.Trees.{Parts, Ties}
use Rattle.flat_tree.specs.Opening.{AreOpened, lies_in, opening}
use Rattle.flat_tree.specs.Requests.{Trees}
use Rattle.name_laws.specs.Served.{Serves}

-- where a line makes a file in a domain of the kernel, the file is the one that this kernel numbers by the line's place, from 1
abbrev pub AreTied : Ties → Description → ℕ → Type 0
AreTied ties c kernel = (place : ℕ) (line : FileLine) (root : Parts) → slice_get c.files place ≡ Some line → line.append ≡ false
    → begins_domain (serves_of c.kernels kernel) root ≡ true → lies_in (roots_of c.kernels) root line.path ≡ true → ties.file (Boot place) ≡ record { server = kernel; number = place + 1 }

-- each of these domains is one of the kernel's, and begins with its opening names
abbrev pub BeginsSo : Ties → Description → ℕ → Domain → Type 0
BeginsSo ties c kernel domain = (begins_domain (serves_of c.kernels kernel) domain.root ≡ true) × (opening ties c domain.root ≡ Ok domain.names)

-- a server that begins has those in each of its domains
abbrev pub ServersOpen : Type 0
ServersOpen = (ties : Ties) (c : Description) (kernel : ℕ) (s : Server) → Lawful c → AreTied ties c kernel → boots c kernel ≡ Some s → AllByRecursion (BeginsSo ties c kernel) s.domains

-- so it has the names that the one-kernel Unix begins with, where each domain of the cluster has its opening names
abbrev pub ServersBegin : Type 0
ServersBegin = (ties : Ties) (c : Description) (trees : Trees) (kernel : ℕ) (s : Server) → Lawful c → AreTied ties c kernel → AreOpened ties c trees → boots c kernel ≡ Some s → Serves ties (boot_of c) trees s

-- the kernel begins as a server, and its domains have these names
pub record BeginsWith (c : Description) (trees : Trees) (kernel : ℕ) : Type 0 where
  pub server : Server
  pub begins : boots c kernel ≡ Some server
  pub names_are : AllByRecursion (λ (domain : Domain). domain.names ≡ trees domain.root) server.domains

-- a file that a line makes is one of the kernel that serves its domain, and each kernel that serves a domain begins so
pub record AreBegun (ties : Ties) (c : Description) (trees : Trees) : Type 0 where
  pub tied : (kernel : ℕ) → 1 ≤ kernel → AreTied ties c kernel
  pub servers : (kernel : ℕ) (root : Parts) → 1 ≤ kernel → begins_domain (serves_of c.kernels kernel) root ≡ true → BeginsWith c trees kernel

-- then the domains of the cluster have their opening names
abbrev pub ClusterOpens : Type 0
ClusterOpens = (ties : Ties) (c : Description) (trees : Trees) → Lawful c → AreBegun ties c trees → AreOpened ties c trees

-- and each server begins with the names of the one-kernel Unix
abbrev pub ClusterBegins : Type 0
ClusterBegins = (ties : Ties) (c : Description) (trees : Trees) (kernel : ℕ) (s : Server) → Lawful c → AreBegun ties c trees → 1 ≤ kernel → boots c kernel ≡ Some s → Serves ties (boot_of c) trees s

-- ---- such ties

-- the number of the first kernel that has a domain which passes, of kernels whose numbers begin with that one
abbrev pub owner_from : (Parts → Bool) → ℕ → List KernelLine → ℕ
owner_from passes number [] = number
owner_from passes number (line ∷ lines) = if list_any passes line.serves then number else owner_from passes (number + 1) lines

-- the file that a looked-up line makes: of the kernel that serves the line's domain, and numbered by its place
abbrev pub line_file : Description → ℕ → Option FileLine → FileId
line_file c place (Some line) = record { server = owner_from (λ root. lies_in (roots_of c.kernels) root line.path) 1 c.kernels; number = place + 1 }
line_file c place None = record { server = 1; number = place + 1 }

-- ties by which the lines make these files
pub record AreLineFiles (ties : Ties) (c : Description) : Type 0 where
  pub file_is : (place : ℕ) → ties.file (Boot place) ≡ line_file c place (slice_get c.files place)

-- tie each kernel's files
abbrev pub LineFilesTie : Type 0
LineFilesTie = (ties : Ties) (c : Description) (kernel : ℕ) → Lawful c → AreLineFiles ties c → 1 ≤ kernel → AreTied ties c kernel
