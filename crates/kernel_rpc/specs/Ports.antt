-- The ports of a kernel.
use Rattle.std.specs.Prelude.{◌≡◌, ◌<◌, ℕ, Bool, false, List, length, slice_index_or}
use Rattle.std.specs.List.{list_any}
use Rattle.kernel_rpc.specs.declared.call.Call.{Call}
use Rattle.kernel_rpc.specs.Machine.{Machine, is_at_port, is_free}

-- the kernel has an unfinished call at each lower port
abbrev pub AreUsed : Machine → ℕ → ℕ → Type 0
AreUsed machine kernel port = (lower : ℕ) → lower < port → is_free machine kernel lower ≡ false

-- each port is marked exactly where one of the calls of the kernel is at it
abbrev pub AreMarked : List Bool → ℕ → List Call → Type 0
AreMarked used kernel calls = (port : ℕ) → port < length used → slice_index_or used port false ≡ list_any (is_at_port kernel port) calls
