-- Who may cache a file and who may hold its dirty blocks, between the calls.
use Rattle.std.specs.Prelude.{◌≡◌, ◌≤◌, ℕ, ◌==◌, Bool, true, false, ◌&&◌, List, Option, Some, None}
use Rattle.std.specs.List.{list_any}
use Rattle.version_table.specs.declared.opens.Open.{Open}
use Rattle.version_table.specs.declared.versioned.Asking.{Asking}
use Rattle.version_table.specs.declared.versioned.Versioned.{Versioned}
use Rattle.version_table.specs.Modes.{writes}
use Rattle.version_table.specs.Opens.{is_writing, is_written, is_write_shared}
use Rattle.version_table.specs.Files.{is_busy, is_holder, is_on, IsPrepared}

-- whether the kernel has the file open for writing
abbrev pub has_open_for_writing : List Open → ℕ → Bool
has_open_for_writing opens kernel = list_any (λ one. (one.kernel == kernel) && writes one.mode) opens

-- an open or a move that waits leads to no write sharing, and to an open for writing only where it is one
abbrev pub WaitsAlone : List Open → Option Asking → Type 0
WaitsAlone opens (Some asking) = (is_write_shared asking.opens ≡ false) × (is_written asking.opens ≡ true → is_writing opens asking.action ≡ true)
WaitsAlone opens None = Unit {0}

-- a file that isn't uncached isn't write shared, nor will it be by what waits; of an uncached one no kernel was given mode
-- On last; and each kernel that has one open for writing that is neither uncached nor busy is the possible holder
pub record IsCoherent (file : Versioned) : Type 0 where
  pub alone : file.uncached ≡ false → is_write_shared file.opens ≡ false
  pub waits : file.uncached ≡ false → WaitsAlone file.opens file.asking
  pub stopped : file.uncached ≡ true → (kernel : ℕ) → kernel ≤ 16 → is_on file kernel ≡ false
  pub holds : file.uncached ≡ false → is_busy file ≡ false → (kernel : ℕ) → has_open_for_writing file.opens kernel ≡ true → is_holder file kernel ≡ true

-- what holds of each file of the table
pub record IsKept (file : Versioned) : Type 0 where
  pub ready : IsPrepared file
  pub coherent : IsCoherent file
