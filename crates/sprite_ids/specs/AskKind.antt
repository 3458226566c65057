-- The number of each kind of ask.
use Rattle.std.specs.Prelude.{ℕ}
use Rattle.sprite_ids.specs.declared.names.AskKind.{AskKind}
use Rattle.sprite_ids.specs.declared.names.AskKind.TheVariants.{Read, Write, Ioctl}

-- the kinds count from 1
abbrev pub ask_number : AskKind → ℕ
ask_number Read = 1
ask_number Write = 2
ask_number Ioctl = 3
