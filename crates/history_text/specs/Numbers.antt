-- How numbers are printed: in decimal, with no zero before the other digits.
use Rattle.std.specs.Prelude.{ℕ, ◌==◌, ◌&&◌, ◌+◌, ◌*◌, ◌-◌, ◌^◌, ◌<◌, List, [], ◌∷◌, Option, Some, None, if◌then◌else◌, nat_lt}
use Rattle.std.specs.Char.{is_ascii_digit}
use Rattle.std.specs.Fmt.{decimal}
use Rattle.std.specs.List.{find}
use Rattle.sprite_ids.specs.Pid.{IsPid}
use Rattle.sprite_ids.specs.Errno.{errno_number}
use Rattle.sprite_ids.specs.declared.errno.Errno.{Errno}
use Rattle.field_reader.specs.Names.{is_pid, errnos}
use Rattle.history_text.specs.Formats.{Format, word, chosen_by, within}

-- the number that decimal digits write behind those of n; none where a byte is no digit, or from 2^64 on
abbrev pub number_from : ℕ → List ℕ → Option ℕ
number_from n [] = Some n
number_from n (c ∷ cs) =
    if is_ascii_digit c && nat_lt (10 * n + (c - 48)) (2 ^ 64) then number_from (10 * n + (c - 48)) cs else None

-- the number that a word writes: digits alone, no zero before others, and below 2^64
abbrev pub number_of : List ℕ → Option ℕ
number_of [] = None
number_of (c ∷ []) = number_from 0 (c ∷ [])
number_of (c ∷ d ∷ cs) = if c == 48 then None else number_from 0 (c ∷ d ∷ cs)

abbrev pub number64 : Format ℕ
number64 = chosen_by word number_of decimal (λ n. n < 2 ^ 64)

abbrev pub number32 : Format ℕ
number32 = within number64 (λ n. nat_lt n (2 ^ 32)) (λ n. n < 2 ^ 32)

abbrev pub number8 : Format ℕ
number8 = within number64 (λ n. nat_lt n (2 ^ 8)) (λ n. n < 2 ^ 8)

-- ---- processes

abbrev pub pid : Format ℕ
pid = within number32 is_pid IsPid

-- ---- errors

-- an error, as its number
abbrev pub errno : Format Errno
errno = chosen_by number8 (λ n. find (λ e. errno_number e == n) errnos) errno_number (λ e. Unit {0})
