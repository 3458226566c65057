-- What a step of a kernel says, one thing after another.
use Rattle.std.specs.Prelude.{ℕ, ◌+◌, [], ◌∷◌, ◌++◌, Option, map}
use Rattle.sprite_ids.specs.declared.TxNo.{TxNo}
use Rattle.process_machine.specs.declared.Reply.{Reply}
use Rattle.packet_bodies.specs.declared.ReplyBody.{ReplyBody}
use Rattle.unix_calls.specs.declared.About.{About}
use Rattle.unix_calls.specs.declared.SendKind.{SendKind}
use Rattle.unix_calls.specs.declared.Event.{Event}
use Rattle.unix_calls.specs.declared.Event.TheVariants.{Send}
use Rattle.kernel_steps.specs.declared.sending.Sending.{Sending}
use Rattle.kernel_steps.specs.declared.writer.Out.{Out}

-- nothing is said, and that is the number of the next remote call
abbrev pub started : TxNo → Out
started next = record { next = next; sends = []; answers = []; replies = []; events = [] }

-- the record that a remote call went to one of its receivers
abbrev pub send_event : TxNo → Option About → SendKind → ℕ → Event
send_event tx about kind to = Send tx to about kind

-- the number after that one
abbrev pub number_after : TxNo → TxNo
number_after tx = record { 0 = tx.0 + 1 }

-- one remote call more: it takes the next number, and has a record for each receiver, in their order
abbrev pub sent : Sending → SendKind → Out → Out
sent sending kind out = record out {
  next = number_after out.next;
  sends = out.sends ++ sending ∷ [];
  events = out.events ++ map (send_event out.next sending.about kind) sending.to;
}

-- one answer more
abbrev pub answered : TxNo → ReplyBody → Out → Out
answered tx body out = record out { answers = out.answers ++ (tx, body) ∷ [] }

-- one reply more
abbrev pub given : ℕ → Reply → Out → Out
given pid reply out = record out { replies = out.replies ++ (pid, reply) ∷ [] }

-- one record more
abbrev pub noted : Event → Out → Out
noted event out = record out { events = out.events ++ event ∷ [] }
