-- The facts when the cluster begins.
use Rattle.std.specs.Prelude.{ℕ}
use Rattle.unix_calls.specs.declared.Description.{Description}
use Rattle.client_file_tables.specs.Boot as tables
use Rattle.client_procs.specs.Boot.{boots}
use Rattle.client_facts.specs.FileFacts.{KeepsFileFacts}
use Rattle.client_facts.specs.ProcFacts.{KeepsProcFacts}
use Rattle.client_facts.specs.HomeFacts.{KeepsHomeFacts}

-- the files' side of a client's kernel has all facts
abbrev pub FilesBeginWithFacts : Type 0
FilesBeginWithFacts = (d : Description) (kernel : ℕ) → KeepsFileFacts (tables.boots d kernel)

-- and so has that of the whole kernel, which differs in its processes' working directories
abbrev pub BootedFilesHaveFacts : Type 0
BootedFilesHaveFacts = (d : Description) (kernel : ℕ) → KeepsFileFacts (boots d kernel).files

-- its processes
abbrev pub ProcsBeginWithFacts : Type 0
ProcsBeginWithFacts = (d : Description) (kernel : ℕ) → KeepsProcFacts (boots d kernel)

-- and its home
abbrev pub HomesBeginWithFacts : Type 0
HomesBeginWithFacts = (d : Description) (kernel : ℕ) → KeepsHomeFacts (boots d kernel)
