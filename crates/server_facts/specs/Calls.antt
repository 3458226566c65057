-- Which callbacks are out.
use Rattle.std.specs.Prelude.{◌≡◌, ◌<◌, ℕ, false}
use Rattle.std.specs.List.{AllByRecursion, list_any}
use Rattle.sprite_ids.specs.declared.FileId.{FileId}
use Rattle.sprite_ids.specs.declared.TxNo.{TxNo}
use Rattle.version_table.specs.Files.{is_any_out, is_out}
use Rattle.server_kernel.specs.declared.CallOut.{CallOut}
use Rattle.server_kernel.specs.declared.Server.{Server}
use Rattle.server_kernel.specs.Facts.{is_call_to}
use Rattle.server_kernel.specs.Files.{is_busy, kept_of}
use Rattle.std.specs.Prelude.{length}
use Rattle.server_facts.specs.Asking.{AreFilesOnce, AskingStands, AtMost}

-- a callback of a file is out to a kernel exactly where it is among those that have no answer; kernels are numbered from 1
abbrev pub KernelsAreCalled : Server → Type 0
KernelsAreCalled s = (file : FileId) (kernel : ℕ) → 0 < kernel → is_out (kept_of file s) kernel ≡ list_any (is_call_to file kernel) s.callbacks

-- and it is there once; a file that isn't busy has none out; what is kept of a file is its own, with a place for each of the 16 kernels
pub record CallsStand (s : Server) : Type 0 where
  pub out : KernelsAreCalled s
  pub once : (file : FileId) (kernel : ℕ) → 0 < kernel → AtMost 1 (is_call_to file kernel) s.callbacks
  pub quiet : (file : FileId) → is_busy file s ≡ false → (kernel : ℕ) → 0 < kernel → is_out (kept_of file s) kernel ≡ false
  pub places : (file : FileId) → length (kept_of file s).out ≡ 16
  pub own : (file : FileId) → (kept_of file s).file ≡ file
  pub kernels : AllByRecursion (λ (row : TxNo × CallOut). 0 < row.1.kernel) s.callbacks
  pub files : AreFilesOnce s.versions.files

-- a file is busy exactly where a callback of it is out
abbrev pub BusyIsCalled : Server → Type 0
BusyIsCalled s = (file : FileId) → is_busy file s ≡ is_any_out (kept_of file s)

-- so it is where files are asked for and called back as above
pub record BusyStands (s : Server) : Type 0 where
  pub busy : BusyIsCalled s
  pub asking : AskingStands s
  pub calls : CallsStand s
