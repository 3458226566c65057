-- What a step of the kernel says.
use Rattle.std.specs.Prelude.{ℕ, [], ◌∷◌, ◌++◌, Option, Some}
use Rattle.sprite_ids.specs.declared.TxNo.{TxNo}
use Rattle.sprite_ids.specs.declared.Tries.{Tries}
use Rattle.process_machine.specs.declared.Call.{Call}
use Rattle.process_machine.specs.declared.Reply.{Reply}
use Rattle.process_machine.specs.declared.Reply.TheVariants.{Value}
use Rattle.packet_bodies.specs.declared.Request.{Request}
use Rattle.packet_bodies.specs.declared.ReplyBody.{ReplyBody}
use Rattle.unix_calls.specs.declared.About.{About}
use Rattle.unix_calls.specs.declared.Event.{Event}
use Rattle.unix_calls.specs.declared.Event.TheVariants.{Enter}
use Rattle.unix_calls.specs.declared.Part.TheVariants.{Whole}
use Rattle.unix_calls.specs.declared.SendKind.{SendKind}
use Rattle.kernel_steps.specs.declared.Sending.{Sending}
use Rattle.kernel_steps.specs.Outs.{answered, given, noted, sent}
use Rattle.client_file_tables.specs.declared.client_files.ClientFiles.{ClientFiles}

-- what was done is noted
abbrev pub notes : Event → ClientFiles → ClientFiles
notes event s = record s { out = noted event s.out }

-- a process has the reply to its call
abbrev pub replies : ℕ → Reply → ClientFiles → ClientFiles
replies pid reply s = record s { out = given pid reply s.out }

-- a remote call of another kernel is answered
abbrev pub answers : TxNo → ReplyBody → ClientFiles → ClientFiles
answers tx body s = record s { out = answered tx body s.out }

-- the call takes effect here, with that reply
abbrev pub enters : About → Call → Reply → ClientFiles → ClientFiles
enters about call reply s = notes (Enter (record { pid = about.pid; number = about.number; part = Whole; call = Some call; reply = Some reply })) s

-- the call takes effect here and has its reply in this step
abbrev pub answers_here : About → Call → Reply → ClientFiles → ClientFiles
answers_here about call reply s = replies about.pid reply (enters about call reply s)

-- a remote call begins
abbrev pub sends : Sending → SendKind → ClientFiles → ClientFiles
sends sending kind s = record s { out = sent sending kind s.out }

-- the process's operation waits for the answer to that remote call
abbrev pub expects : ℕ → TxNo → ClientFiles → ClientFiles
expects pid tx s = record s { txs = s.txs ++ (tx, pid) ∷ [] }

-- a remote call begins for whose answer the process's operation waits
abbrev pub sends_for : ℕ → Sending → SendKind → ClientFiles → ClientFiles
sends_for pid sending kind s = expects pid s.out.next (sends sending kind s)

-- the call of that process with that number
abbrev pub about_of : ℕ → ℕ → About
about_of pid number = record { pid = pid; number = number }

-- a reply with one value and no bytes
abbrev pub plain_value : ℕ → Reply
plain_value first = Value first 0 []

-- a remote call to one kernel
abbrev pub to_one : ℕ → Tries → Option About → Request → Sending
to_one to tries about body = record { to = to ∷ []; tries = tries; about = about; body = body }
