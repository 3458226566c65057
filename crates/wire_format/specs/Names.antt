-- How numbers in ranges, names and choices of a few are spelled.
use Rattle.std.specs.Prelude.{ℕ, ◌≤◌, ◌<◌, nat_le, nat_lt, Bool, true, false, ◌&&◌, [], ◌∷◌}
use Rattle.sprite_ids.specs.Pid.{IsPid}
use Rattle.sprite_ids.specs.Errno.{errno_number}
use Rattle.sprite_ids.specs.declared.errno.Errno.{Errno}
use Rattle.sprite_ids.specs.declared.FileId.{FileId}
use Rattle.sprite_ids.specs.declared.DeviceId.{DeviceId}
use Rattle.sprite_ids.specs.declared.StreamNo.{StreamNo}
use Rattle.field_reader.specs.Names.{is_pid, errnos}
use Rattle.wire_format.specs.Codec.{Codec, byte, number32, ◌before◌, made_of, within, numbered}

-- ---- numbers in ranges

-- the number of a kernel
abbrev pub IsKernel : ℕ → Type 0
IsKernel n = (1 ≤ n) × (n ≤ 16)

abbrev pub is_kernel : ℕ → Bool
is_kernel n = nat_le 1 n && nat_le n 16

abbrev pub kernel : Codec ℕ
kernel = within byte is_kernel IsKernel

abbrev pub pid : Codec ℕ
pid = within number32 is_pid IsPid

-- the number of a descriptor
abbrev pub is_descriptor : ℕ → Bool
is_descriptor n = nat_lt n 16

abbrev pub descriptor : Codec ℕ
descriptor = within byte is_descriptor (λ n. n < 16)

-- ---- names

abbrev pub file : Codec FileId
file = made_of (kernel before number32) (λ p. record { server = p.0; number = p.1 }) (λ f. (f.server, f.number))

abbrev pub device : Codec DeviceId
device = made_of (kernel before number32) (λ p. record { kernel = p.0; number = p.1 }) (λ d. (d.kernel, d.number))

abbrev pub stream : Codec StreamNo
stream = made_of (kernel before number32) (λ p. record { kernel = p.0; number = p.1 }) (λ s. (s.kernel, s.number))

-- ---- choices of a few

abbrev pub truth_number : Bool → ℕ
truth_number false = 0
truth_number true = 1

abbrev pub truth : Codec Bool
truth = numbered truth_number (false ∷ true ∷ [])

abbrev pub errno : Codec Errno
errno = numbered errno_number errnos
