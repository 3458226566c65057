use Rattle.std.proofs.Common.{drop}
use Rattle.trace_forms.specs.Facing.{Facing}
use Rattle.trace_forms.specs.Parts.{is_packet_well}
use Rattle.trace_forms.specs.Packets.{TellsPackets}
use Rattle.trace_forms.proofs.packets.packets_are_formed.Given as goal

-- the records so far are written as they should be, and are told
abbrev pub invariant-loop-rec : goal.invariant-loop-rec
invariant-loop-rec l = Facing l.c (λ past rec rest. is_packet_well past rec.kernel rec.event) (λ past rest. TellsPackets l.packets past.records) l.trace (drop l.rec-index l.trace)
