-- Facts of a server's state that every step keeps. No contract leans on them: where a step needs one, it tests it.
use Rattle.std.specs.Prelude.{◌≡◌, ℕ, ◌==◌, Bool, true, false, ◌&&◌}
use Rattle.std.specs.List.{list_any}
use Rattle.sprite_ids.specs.declared.TxNo.{TxNo}
use Rattle.sprite_ids.specs.declared.FileId.{FileId}
use Rattle.kernel_steps.specs.Rows.{is_under}
use Rattle.file_store.specs.Files.{is_there}
use Rattle.version_table.specs.Lists.{is_any}
use Rattle.server_kernel.specs.declared.asked.CallOut.{CallOut}
use Rattle.server_kernel.specs.declared.server.Server.{Server}
use Rattle.server_kernel.specs.Files.{is_that, kept_of, is_busy}
use Rattle.server_kernel.specs.Waits.{is_about}

-- a file is busy exactly where an open or a move of it is kept until callbacks are answered
abbrev pub BusyIsAsking : Server → Type 0
BusyIsAsking s = (file : FileId) → is_busy file s ≡ list_any (is_under is_about file) s.asking

-- whether a callback that has no answer is about that file, and went to that kernel
abbrev pub is_call_to : FileId → ℕ → TxNo × CallOut → Bool
is_call_to file kernel row = is_that file row.1.file && (row.1.kernel == kernel)

-- requests wait for busy files alone
abbrev pub BusyAreWaitedFor : Server → Type 0
BusyAreWaitedFor s = (file : FileId) → is_busy file s ≡ false → list_any (is_under is_about file) s.waiting ≡ false

-- a file that has no name is there, and somebody has it open
abbrev pub UnlinkedAreOpen : Server → Type 0
UnlinkedAreOpen s = (file : FileId) → list_any (is_that file) s.unlinked ≡ true → (is_there s.store.files file ≡ true) × (is_any (kept_of file s).opens ≡ true)
