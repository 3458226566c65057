-- Names, numbers in ranges and choices of a few are read as they were spelled.
use Rattle.std.proofs.Common.{◌≡◌, Bool, true, false, nat_eq, nat_le, [], ◌∷◌, Some, refl, arith}
use Rattle.std.proofs.lemmas.Bool.{and_parts, and_from, le-leb, leb-true, lt-ltb, ltb-true}
use Rattle.std.specs.List.{find}
use Rattle.sprite_ids.specs.Errno.{errno_number}
use Rattle.field_reader.specs.NameLaws.{pid_passes, pid_tells, errno_back}
use Rattle.wire_format.specs.Codec.{IsCodec}
use Rattle.wire_format.specs.CodecLaws.{before_is, made_of_is, within_is, numbered_is}
use Rattle.wire_format.specs.NumberLaws.{byte_is, number32_is}
use Rattle.field_reader.specs.Names.{errnos}
use Rattle.wire_format.specs.Names.{kernel, pid, descriptor, file, device, stream, truth_number, truth, errno}

-- ---- numbers in ranges

pub kernel_is : IsCodec kernel
kernel_is = within_is byte_is
    (λ k is. and_from (nat_le 1 k) (nat_le k 16) (le-leb 1 k is.0) (le-leb k 16 is.1))
    (λ k fits e. let both = and_parts (nat_le 1 k) (nat_le k 16) e in (leb-true 1 k both.0, leb-true k 16 both.1))
    (λ k is. omega (arith, is.1))

pub pid_is : IsCodec pid
pid_is = within_is number32_is pid_passes (λ n fits e. pid_tells n e) (λ n is. omega (arith, is.home_to, is.birth_to))

pub descriptor_is : IsCodec descriptor
descriptor_is = within_is byte_is (λ n is. lt-ltb n 16 is) (λ n fits e. ltb-true n 16 e) (λ n is. omega (arith, is))

-- ---- names

pub file_is : IsCodec file
file_is = made_of_is (before_is kernel_is number32_is) (λ p. record { server = p.0; number = p.1 }) (λ f. (f.server, f.number)) (λ f. refl) (λ p. refl)

pub device_is : IsCodec device
device_is = made_of_is (before_is kernel_is number32_is) (λ p. record { kernel = p.0; number = p.1 }) (λ d. (d.kernel, d.number)) (λ d. refl) (λ p. refl)

pub stream_is : IsCodec stream
stream_is = made_of_is (before_is kernel_is number32_is) (λ p. record { kernel = p.0; number = p.1 }) (λ s. (s.kernel, s.number)) (λ s. refl) (λ p. refl)

-- ---- choices of a few

truth_back : (b : Bool) → find (λ c. nat_eq (truth_number c) (truth_number b)) (false ∷ true ∷ []) ≡ Some b
truth_back false = refl
truth_back true = refl

pub truth_is : IsCodec truth
truth_is = numbered_is truth_number (false ∷ true ∷ []) truth_back

pub errno_is : IsCodec errno
errno_is = numbered_is errno_number errnos errno_back
