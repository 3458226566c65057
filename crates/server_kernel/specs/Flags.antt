-- The flags of an open.
use Rattle.std.specs.Prelude.{ℕ, ◌/◌, ◌%◌, ◌==◌, nat_le, Bool, ◌&&◌, ◌||◌, if◌then◌else◌, Option, Some, None}
use Rattle.sprite_ids.specs.declared.Mode.{Mode}
use Rattle.sprite_ids.specs.declared.Mode.TheVariants.{Read, Write, Both}

-- whether the bit of that weight is set
abbrev pub has_bit : ℕ → ℕ → Bool
has_bit weight flags = (flags / weight) % 2 == 1

-- the mode of two bits: 1 is for reading, 2 for writing, 3 for both
abbrev pub mode_in : ℕ → Option Mode
mode_in bits = if bits == 1 then Some Read else if bits == 2 then Some Write else if bits == 3 then Some Both else None

-- what the flags open a file for, where they are lawful: under 32, with a mode, and a truncation or an append only with
-- writing
abbrev pub opening_mode : ℕ → Option Mode
opening_mode flags =
    if nat_le 32 flags then None
    else if (flags % 4 == 1) && (has_bit 8 flags || has_bit 16 flags) then None
    else mode_in (flags % 4)
