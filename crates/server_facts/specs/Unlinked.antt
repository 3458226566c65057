-- How many names a file has, and which files have none.
use Rattle.std.specs.Prelude.{◌≡◌, ◌≤◌, ℕ, ◌+◌, Bool, true, false, List, [], ◌∷◌, Option, Some, None}
use Rattle.sprite_ids.specs.Lists.{one_if}
use Rattle.sprite_ids.specs.declared.FileId.{FileId}
use Rattle.file_store.specs.Files.{is_there}
use Rattle.server_names.specs.declared.Entry.{Entry}
use Rattle.server_names.specs.declared.Entry.TheVariants as entries
use Rattle.server_names.specs.declared.Node.TheVariants as nodes
use Rattle.server_names.specs.Names.{Listed, Tree}
use Rattle.version_table.specs.declared.Asking.{Asking}
use Rattle.version_table.specs.Lists.{is_any}
use Rattle.server_kernel.specs.declared.Domain.{Domain}
use Rattle.server_kernel.specs.declared.Server.{Server}
use Rattle.server_kernel.specs.Facts.{UnlinkedAreOpen}
use Rattle.server_kernel.specs.Files.{is_that, kept_of}
use Rattle.server_facts.specs.Asking.{AreFilesOnce}

-- whether an entry names the file
abbrev pub is_name_of : FileId → Entry → Bool
is_name_of file (entries.Node (nodes.File other)) = is_that file other
is_name_of file (entries.Node nodes.Dir) = false
is_name_of file (entries.Node (nodes.Device device)) = false
is_name_of file (entries.Link path) = false

-- how many names the file has in a directory, in a domain, and at the server
abbrev pub in_listed : FileId → Listed → ℕ
in_listed file [] = 0
in_listed file (entry ∷ rest) = one_if (is_name_of file entry.1) + in_listed file rest

abbrev pub in_tree : FileId → Tree → ℕ
in_tree file [] = 0
in_tree file (directory ∷ rest) = in_listed file directory.1 + in_tree file rest

abbrev pub in_domains : FileId → List Domain → ℕ
in_domains file [] = 0
in_domains file (domain ∷ rest) = in_tree file domain.names + in_domains file rest

-- how often a file stands in a list
abbrev pub times : FileId → List FileId → ℕ
times file [] = 0
times file (other ∷ rest) = one_if (is_that file other) + times file rest

-- what waits for callbacks leads to opens
abbrev pub LeadsToOpens : Option Asking → Type 0
LeadsToOpens (Some asking) = is_any asking.opens ≡ true
LeadsToOpens None = Unit {0}

-- a file that has no name is there, and somebody has it open: no file has two names, nor one and none; new files have neither; and those that
-- have a name, or had one and are open, are there
pub record UnlinkedStand (s : Server) : Type 0 where
  pub opens : UnlinkedAreOpen s
  pub few : (file : FileId) → in_domains file s.domains + times file s.unlinked ≤ 1
  pub new : (file : FileId) → s.next_file ≤ file.number → in_domains file s.domains + times file s.unlinked ≡ 0
  pub there : (file : FileId) → 1 ≤ in_domains file s.domains + times file s.unlinked → is_there s.store.files file ≡ true
  pub waits : (file : FileId) → LeadsToOpens (kept_of file s).asking
  pub files : AreFilesOnce s.versions.files
