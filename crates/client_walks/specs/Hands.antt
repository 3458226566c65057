-- Which process a step of a client's kernel has in hand.
use Rattle.std.specs.Prelude.{ℕ, if◌then◌else◌, Option, Some, None}
use Rattle.kernel_steps.specs.Rows.{first_under}
use Rattle.kernel_steps.specs.declared.Input.{Input}
use Rattle.kernel_steps.specs.declared.Input.TheVariants as inputs
use Rattle.process_machine.specs.declared.Reply.{Reply}
use Rattle.packet_bodies.specs.declared.HomeCall.{HomeCall}
use Rattle.packet_bodies.specs.declared.HomeCall.TheVariants as home_calls
use Rattle.packet_bodies.specs.declared.HomeRequest.{HomeRequest}
use Rattle.packet_bodies.specs.declared.ReplyBody.{ReplyBody}
use Rattle.client_file_tables.specs.Steps.{owns}
use Rattle.client_homes.specs.declared.client.ClientProcs.{ClientProcs}
use Rattle.client_homes.specs.declared.client.Unfinished.{Unfinished}
use Rattle.client_homes.specs.declared.client.Unfinished.TheVariants as unfinished
use Rattle.client_homes.specs.Issuing.{child_in, own_request}
use Rattle.client_homes.specs.Procs.{is_call}
use Rattle.client_homes.specs.Words.{reply_of}
use Rattle.client_procs.specs.Arriving as arriving

-- none; one that a request brings, of which the kernel hasn't looked yet whether it knows it; or one that stands nowhere: it was taken
-- out of where it was, or is born and isn't anywhere yet
pub data Held : Type 0 where
  Nothing : Held
  Coming : ℕ → Held
  Holding : ℕ → Held

-- with a process that stands nowhere, where there is one
abbrev pub hand_of : Option ℕ → Held
hand_of (Some pid) = Holding pid
hand_of None = Nothing

-- the child of a call of that reply
abbrev pub forked : HomeCall → Reply → Option ℕ
forked home_calls.Fork reply = child_in reply
forked _ reply = None

-- of a looked-up call
abbrev pub child_heard : Option HomeRequest → Reply → Option ℕ
child_heard (Some request) reply = forked request.call reply
child_heard None reply = None

-- what the answer to a remote call of a looked-up purpose brings: a home's answer to a `fork` brings the child
abbrev pub heard : Option Unfinished → ReplyBody → ClientProcs → Held
heard (Some (unfinished.Home pid)) body s = hand_of (child_heard (own_request pid s) (reply_of body))
heard _ body s = Nothing

-- with the process that a request brings, where there is one
abbrev pub coming_if : Option ℕ → Held
coming_if (Some pid) = Coming pid
coming_if None = Nothing

-- what an input brings
abbrev pub brought : Input → ClientProcs → Held
brought (inputs.Request tx source body) s = coming_if (arriving.brought body)
brought (inputs.Replied tx source body) s = if owns tx s.files then Nothing else heard (first_under is_call tx s.unfinished) body s
brought _ s = Nothing
