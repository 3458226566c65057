-- Words for small clusters and traces.
use Rattle.std.specs.Prelude.{ℕ, ◌+◌, true, false, List, [], ◌∷◌, ◌++◌, take, drop, codes, Option, Some, None}
use Rattle.sprite_ids.specs.declared.names.FileId.{FileId}
use Rattle.sprite_ids.specs.declared.names.StreamNo.{StreamNo}
use Rattle.sprite_ids.specs.declared.names.BlockNo.{BlockNo}
use Rattle.process_machine.specs.declared.instruction.Instruction.{Instruction}
use Rattle.process_machine.specs.declared.program.Text.{Text}
use Rattle.process_machine.specs.declared.call.Call.{Call}
use Rattle.process_machine.specs.declared.call.Reply.{Reply}
use Rattle.unix_calls.specs.declared.description.Description.{Description}
use Rattle.unix_calls.specs.declared.description.KernelLine.{KernelLine}
use Rattle.unix_calls.specs.declared.entry.Part.TheVariants as part
use Rattle.unix_calls.specs.declared.event.About.{About}
use Rattle.unix_calls.specs.declared.event.SendKind.{SendKind}
use Rattle.unix_calls.specs.declared.event.Event.{Event}
use Rattle.unix_calls.specs.declared.event.Event.TheVariants as event
use Rattle.unix_calls.specs.declared.event.Rec.{Rec}
use Rattle.unix_calls.specs.Examples.{program_of}

-- a client of that name, and the server of the whole tree
abbrev pub client : List ℕ → KernelLine
client name = record { name = name; serves = [] }

abbrev pub server : List ℕ → KernelLine
server name = record { name = name; serves = [] ∷ [] }

-- two clients, a server that serves the whole tree with a file `/f` of two bytes, and a process of a program on the first client
abbrev pub one_program : List Text → List Instruction → Description
one_program texts code =
    record {
      version = 1;
      budget = 1000000;
      cache = 64;
      kernels = client (codes "c1") ∷ client (codes "c2") ∷ server (codes "s1") ∷ [];
      programs = record { name = codes "p"; program = program_of texts code } ∷ [];
      starts = record { host = 1; program = 1; arg = 0 } ∷ [];
      files = record { path = ((codes "f") ∷ []); bytes = (codes "hi"); append = false } ∷ [];
      plan = record { entries = [] };
      evicts = [];
    }

-- what a kernel did
abbrev pub at : ℕ → Event → Rec
at kernel event = record { kernel = kernel; event = event }

-- a file of a server, a stream that a kernel opened, a block
abbrev pub file : ℕ → ℕ → FileId
file server number = record { server = server; number = number }

abbrev pub stream : ℕ → ℕ → StreamNo
stream kernel number = record { kernel = kernel; number = number }

abbrev pub block : ℕ → BlockNo
block number = record { 0 = number }

-- for the sake of that call of that process
abbrev pub call_of : ℕ → ℕ → Option About
call_of pid number = Some (record { pid = pid; number = number })

-- the entry of a whole call, and of a death
abbrev pub enters : ℕ → ℕ → Call → Reply → Event
enters pid number call reply =
    event.Enter (record { pid = pid; number = number; part = part.Whole; call = Some call; reply = Some reply })

abbrev pub dies : ℕ → ℕ → Event
dies pid number = event.Enter (record { pid = pid; number = number; part = part.Death; call = None; reply = None })

-- a request of that number goes to a kernel
abbrev pub sends : ℕ → ℕ → Option About → SendKind → Event
sends tx to about kind = event.Send (record { 0 = tx }) to about kind

-- a request comes from a kernel, and a reply
abbrev pub takes : ℕ → ℕ → Option About → Event
takes tx from about = event.Deliver (record { 0 = tx }) from false about

abbrev pub takes_reply : ℕ → ℕ → Option About → Event
takes_reply tx from about = event.Deliver (record { 0 = tx }) from true about

-- a try is over, and the last one is
abbrev pub tries_again : ℕ → Event
tries_again tx = event.Expire (record { 0 = tx }) false

abbrev pub ends_tries : ℕ → Event
ends_tries tx = event.Expire (record { 0 = tx }) true

-- the records without the one at that place, counted from 0
abbrev pub without : ℕ → List Rec → List Rec
without place trace = take place trace ++ drop (place + 1) trace

-- with another one in its place
abbrev pub instead : ℕ → Rec → List Rec → List Rec
instead place rec trace = take place trace ++ rec ∷ drop (place + 1) trace

-- with one more before it
abbrev pub before : ℕ → Rec → List Rec → List Rec
before place rec trace = take place trace ++ rec ∷ drop place trace
