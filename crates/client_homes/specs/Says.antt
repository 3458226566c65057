-- What a step of the kernel says.
use Rattle.std.specs.Prelude.{ℕ, [], Option, None}
use Rattle.sprite_ids.specs.declared.TxNo.{TxNo}
use Rattle.sprite_ids.specs.declared.Tries.TheVariants.{Always}
use Rattle.process_machine.specs.declared.Call.{Call}
use Rattle.process_machine.specs.declared.Reply.{Reply}
use Rattle.process_machine.specs.declared.Reply.TheVariants.{Value}
use Rattle.packet_bodies.specs.declared.Request.{Request}
use Rattle.packet_bodies.specs.declared.ReplyBody.{ReplyBody}
use Rattle.unix_calls.specs.declared.About.{About}
use Rattle.unix_calls.specs.declared.Event.{Event}
use Rattle.unix_calls.specs.declared.Event.TheVariants.{Enter}
use Rattle.unix_calls.specs.declared.Part.TheVariants.{Death}
use Rattle.unix_calls.specs.declared.SendKind.TheVariants.{Other}
use Rattle.client_file_tables.specs.declared.ClientFiles.{ClientFiles}
use Rattle.client_file_tables.specs.Says as files
use Rattle.client_homes.specs.declared.client.ClientProcs.{ClientProcs}

-- the files' side, in which stands what the step has said, is so
abbrev pub with_files : ClientFiles → ClientProcs → ClientProcs
with_files files s = record s { files = files }

-- the remote call is answered
abbrev pub answers : TxNo → ReplyBody → ClientProcs → ClientProcs
answers tx body s = with_files (files.answers tx body s.files) s

-- what was done is noted
abbrev pub notes : Event → ClientProcs → ClientProcs
notes event s = with_files (files.notes event s.files) s

-- the number of the next remote call
abbrev pub next_tx : ClientProcs → TxNo
next_tx s = s.files.out.next

-- that remote call begins: it goes to one kernel, and is tried until it is answered
abbrev pub sends : ℕ → Option About → Request → ClientProcs → ClientProcs
sends to about body s = with_files (files.sends (files.to_one to Always about body) Other s.files) s

-- the call takes effect, with that reply
abbrev pub enters : About → Call → Reply → ClientProcs → ClientProcs
enters about call reply s = with_files (files.enters about call reply s.files) s

-- the process dies by a kill, as if it had come to that call
abbrev pub enters_death : About → ClientProcs → ClientProcs
enters_death about s = notes (Enter (record { pid = about.pid; number = about.number; part = Death; call = None; reply = None })) s

-- the reply is put on the list of those that are given in this step
abbrev pub gives : ℕ → Reply → ClientProcs → ClientProcs
gives pid reply s = with_files (files.replies pid reply s.files) s

-- a value without bytes
abbrev pub value : ℕ → ℕ → Reply
value first second = Value first second []
