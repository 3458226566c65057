-- The test of a process's number tells what such a number is, and each error is found by its number.
use Rattle.std.proofs.Common.{◌≡◌, ℕ, true, nat_eq, nat_le, ◌&&◌, Some, refl}
use Rattle.std.proofs.lemmas.Bool.{and_parts, and_from, le-leb, leb-true}
use Rattle.std.specs.List.{find}
use Rattle.sprite_ids.specs.Pid.{IsPid, home_of, birth_of}
use Rattle.sprite_ids.specs.Errno.{errno_number}
use Rattle.sprite_ids.specs.declared.errno.Errno.{Errno}
use Rattle.sprite_ids.specs.declared.errno.Errno.TheVariants.{NoEntry, Exists, NotDir, IsDir, NotEmpty, BadFd, BadMode, TooBig, TooMany, Invalid, XDev, Busy, NoChild, NoProcess, Interrupted, NoServer, Unreachable, BadHost, BadName, BadAddress}
use Rattle.field_reader.specs.Names.{is_pid, errnos}

pub pid_passes : (n : ℕ) → IsPid n → is_pid n ≡ true
pid_passes n is =
    and_from (nat_le 1 (home_of n) && nat_le (home_of n) 16 && nat_le 1 (birth_of n)) (nat_le (birth_of n) 200)
    (and_from (nat_le 1 (home_of n) && nat_le (home_of n) 16) (nat_le 1 (birth_of n))
    (and_from (nat_le 1 (home_of n)) (nat_le (home_of n) 16) (le-leb 1 (home_of n) is.home_from) (le-leb (home_of n) 16 is.home_to))
    (le-leb 1 (birth_of n) is.birth_from))
    (le-leb (birth_of n) 200 is.birth_to)

pub pid_tells : (n : ℕ) → is_pid n ≡ true → IsPid n
pid_tells n e =
    let c = and_parts (nat_le 1 (home_of n) && nat_le (home_of n) 16 && nat_le 1 (birth_of n)) (nat_le (birth_of n) 200) e in
    let b = and_parts (nat_le 1 (home_of n) && nat_le (home_of n) 16) (nat_le 1 (birth_of n)) c.0 in
    let a = and_parts (nat_le 1 (home_of n)) (nat_le (home_of n) 16) b.0 in
    record { home_from = leb-true 1 (home_of n) a.0; home_to = leb-true (home_of n) 16 a.1; birth_from = leb-true 1 (birth_of n) b.1; birth_to = leb-true (birth_of n) 200 c.1 }

pub errno_back : (e : Errno) → find (λ f. nat_eq (errno_number f) (errno_number e)) errnos ≡ Some e
errno_back NoEntry = refl
errno_back Exists = refl
errno_back NotDir = refl
errno_back IsDir = refl
errno_back NotEmpty = refl
errno_back BadFd = refl
errno_back BadMode = refl
errno_back TooBig = refl
errno_back TooMany = refl
errno_back Invalid = refl
errno_back XDev = refl
errno_back Busy = refl
errno_back NoChild = refl
errno_back NoProcess = refl
errno_back Interrupted = refl
errno_back NoServer = refl
errno_back Unreachable = refl
errno_back BadHost = refl
errno_back BadName = refl
errno_back BadAddress = refl
