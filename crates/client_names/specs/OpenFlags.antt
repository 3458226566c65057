-- The flags of an open, as they go to a server.
use Rattle.std.specs.Prelude.{ℕ, Option, Some, None}
use Rattle.unix_calls.specs.declared.Flags.{Flags}
use Rattle.unix_calls.specs.Opening.{flags_of}

-- these flags, where they ask for something
abbrev pub lawful_by : ℕ → Option Flags → Option ℕ
lawful_by number (Some flags) = Some number
lawful_by number None = None

-- the flags, where they are lawful ones
abbrev pub lawful : ℕ → Option ℕ
lawful number = lawful_by number (flags_of number)
