-- In which ways a stream can be open.
use Rattle.std.specs.Prelude.{Bool, true, false, Option, Some, None}
use Rattle.packet_bodies.specs.declared.carried_mode.CarriedMode.{CarriedMode}
use Rattle.packet_bodies.specs.declared.carried_mode.CarriedMode.TheVariants as modes
use Rattle.sprite_ids.specs.declared.Mode.{Mode}
use Rattle.sprite_ids.specs.declared.Mode.TheVariants as open_for

-- what a stream was opened for
abbrev pub mode_of : CarriedMode → Mode
mode_of modes.Read = open_for.Read
mode_of modes.Write = open_for.Write
mode_of modes.Both = open_for.Both
mode_of modes.AppendingWrite = open_for.Write
mode_of modes.AppendingBoth = open_for.Both

-- whether it appends
abbrev pub appends : CarriedMode → Bool
appends modes.Read = false
appends modes.Write = false
appends modes.Both = false
appends modes.AppendingWrite = true
appends modes.AppendingBoth = true

-- the mode of both, where there is one
abbrev pub carried : Mode → Bool → Option CarriedMode
carried open_for.Read false = Some modes.Read
carried open_for.Read true = None
carried open_for.Write false = Some modes.Write
carried open_for.Write true = Some modes.AppendingWrite
carried open_for.Both false = Some modes.Both
carried open_for.Both true = Some modes.AppendingBoth
