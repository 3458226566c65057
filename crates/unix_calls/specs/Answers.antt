-- What a call of a process comes to, and the words in which the rules of the calls are written.
use Rattle.std.specs.Prelude.{ℕ, suc, zero, ◌+◌, List, [], Option, Some, None, slice_get}
use Rattle.std.specs.Option.{option_map}
use Rattle.sprite_ids.specs.declared.errno.Errno.{Errno}
use Rattle.process_machine.specs.declared.call.Reply.{Reply}
use Rattle.process_machine.specs.declared.call.Reply.TheVariants.{Value, Error}
use Rattle.process_machine.specs.declared.program.Program.{Program}
use Rattle.process_machine.specs.Machine.{Machine}
use Rattle.process_machine.specs.Replies.{given}
use Rattle.unix_calls.specs.declared.description.Description.{Description}
use Rattle.unix_calls.specs.declared.description.ProgramLine.{ProgramLine}
use Rattle.unix_calls.specs.State.{Process, Unix, with_process}

-- a call is answered, goes to the master of a device, or waits
pub data Outcome : Type 0 where
  -- with that reply, and that state after it
  Answered : Reply → Unix → Outcome
  -- of the device that the entry at that place made
  GoesTo : ℕ → Outcome
  Waits : Outcome

-- the program at that place, from 1
abbrev pub program_at : List ProgramLine → ℕ → Option Program
program_at lines zero = None
program_at lines (suc place) = option_map (λ (line : ProgramLine). line.program) (slice_get lines place)

-- the image with the reply in it
abbrev pub given_by : Option Program → Machine → Reply → Machine
given_by (Some program) image reply = given program image reply
given_by None image reply = image

-- a process that stands at a call, with the reply in its image, and one more call done
abbrev pub replied : Description → Process → Reply → Process
replied c p reply =
    record p { image = given_by (program_at c.programs p.image.number) p.image reply; calls = p.calls + 1; asking = None }

-- the call has that reply; the caller is p, which stands at the call
abbrev pub replies : Description → Unix → Process → Reply → Outcome
replies c u p reply = Answered reply (with_process (replied c p reply) u)

-- a value and no more
abbrev pub value : ℕ → Reply
value n = Value n 0 []

-- no values and no bytes
abbrev pub nothing : Reply
nothing = Value 0 0 []

-- the call is done, and gives nothing
abbrev pub is_done : Description → Unix → Process → Outcome
is_done c u p = replies c u p nothing

-- the call gives that value
abbrev pub gives : Description → Unix → Process → ℕ → Outcome
gives c u p n = replies c u p (value n)

-- the call is refused, and changes nothing
abbrev pub refuses : Description → Unix → Process → Errno → Outcome
refuses c u p errno = replies c u p (Error errno)

-- the call is refused, where there is a refusal; else it goes on
abbrev pub unless_refused : Description → Unix → Process → Option Errno → Outcome → Outcome
unless_refused c u p (Some errno) outcome = refuses c u p errno
unless_refused c u p None outcome = outcome
