-- How the entries of a history are printed, each on a line.
use Rattle.std.specs.Prelude.{codes, ◌≡◌, Bool, true, false, List, [], ◌∷◌, Option, Some, None}
use Rattle.process_machine.specs.declared.call.Call.{Call}
use Rattle.process_machine.specs.declared.call.Reply.{Reply}
use Rattle.unix_calls.specs.declared.entry.Entry.{Entry}
use Rattle.unix_calls.specs.declared.entry.Part.{Part}
use Rattle.unix_calls.specs.declared.entry.Part.TheVariants as part
use Rattle.field_reader.specs.declared.field_end.FieldEnd.{FieldEnd}
use Rattle.field_reader.specs.declared.field_end.FieldEnd.TheVariants.{NotSpelled, NoMemory}
use Rattle.history_text.specs.Formats.{Format, parted, ◌then◌, followed, made_of, Shape, bare, form, Row, bare_row, row, named}
use Rattle.history_text.specs.Numbers.{number32, pid}
use Rattle.history_text.specs.Calls.{call_format, reply_format}

-- a call and its reply, with an arrow between
abbrev pub answered : Format (Call × Reply)
answered = parted (codes " -> ") call_format reply_format

-- a call that isn't answered yet
abbrev pub asked : Format Call
asked = followed call_format (codes " -> -")

-- what an entry tells beside its process and its number; an entry that isn't a whole call with a reply, an ask without
-- one, an answered one or a death without a call isn't printed
abbrev pub told_shape : Part → Option Call → Option Reply → Shape
told_shape part.Whole (Some call) (Some reply) = form (codes "whole") answered (call, reply)
told_shape part.Ask (Some call) None = form (codes "ask") asked call
told_shape part.Done (Some call) (Some reply) = form (codes "done") answered (call, reply)
told_shape part.Death None None = bare (codes "death")
told_shape _ _ _ = record { Fits = ⊥; printed = [] }

abbrev pub Told : Type 0
Told = Part × (Option Call × Option Reply)

abbrev pub told_rows : List (Row Told)
told_rows =
    row (codes "whole") answered (λ p. (part.Whole, (Some p.0, Some p.1))) ∷
    row (codes "ask") asked (λ call. (part.Ask, (Some call, None))) ∷
    row (codes "done") answered (λ p. (part.Done, (Some p.0, Some p.1))) ∷
    bare_row (codes "death") (part.Death, (None, None)) ∷
    []

abbrev pub told : Format Told
told = named (λ t. told_shape t.0 t.1.0 t.1.1) told_rows

-- the process, the call's number, and what the entry tells
abbrev pub entry : Format Entry
entry = made_of (pid then number32 then told)
    (λ p. record { pid = p.0; number = p.1.0; part = p.1.1.0; call = p.1.1.1.0; reply = p.1.1.1.1 })
    (λ e. (e.pid, (e.number, (e.part, (e.call, e.reply)))))

abbrev pub entry_line : Format Entry
entry_line = followed entry (codes "\n")

-- whether the parts of an entry belong together: a whole or an answered call has a call and a reply, an ask a call alone, a death neither
abbrev pub belong : Part → Option Call → Option Reply → Bool
belong part.Whole (Some call) (Some reply) = true
belong part.Ask (Some call) None = true
belong part.Done (Some call) (Some reply) = true
belong part.Death None None = true
belong _ _ _ = false

abbrev pub is_together : Entry → Bool
is_together e = belong e.part e.call e.reply

-- why a part was not put
abbrev pub TellsApart : Part → Option Call → Option Reply → FieldEnd → Type 0
TellsApart part call reply NotSpelled = belong part call reply ≡ false
TellsApart part call reply NoMemory = Unit {0}

-- the line of an entry
abbrev pub line_shape : Entry → Shape
line_shape e = record { Fits = entry_line.Fits e; printed = entry_line.printed e }
