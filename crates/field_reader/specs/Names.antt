-- Which numbers are processes', and all errors.
use Rattle.std.specs.Prelude.{ℕ, nat_le, Bool, ◌&&◌, List, [], ◌∷◌}
use Rattle.sprite_ids.specs.Pid.{home_of, birth_of}
use Rattle.sprite_ids.specs.declared.errno.Errno.{Errno}
use Rattle.sprite_ids.specs.declared.errno.Errno.TheVariants.{NoEntry, Exists, NotDir, IsDir, NotEmpty, BadFd, BadMode, TooBig, TooMany, Invalid, XDev, Busy, NoChild, NoProcess, Interrupted, NoServer, Unreachable, BadHost, BadName, BadAddress}

-- the number of a process
abbrev pub is_pid : ℕ → Bool
is_pid n = nat_le 1 (home_of n) && nat_le (home_of n) 16 && nat_le 1 (birth_of n) && nat_le (birth_of n) 200

abbrev pub errnos : List Errno
errnos = NoEntry ∷ Exists ∷ NotDir ∷ IsDir ∷ NotEmpty ∷ BadFd ∷ BadMode ∷ TooBig ∷ TooMany ∷ Invalid ∷ XDev ∷ Busy ∷ NoChild ∷ NoProcess ∷ Interrupted ∷ NoServer ∷ Unreachable ∷ BadHost ∷ BadName ∷ BadAddress ∷ []
