-- What a request on names comes to at a server and in the one-kernel Unix.
use Rattle.std.specs.Prelude.{◌≡◌, ℕ, true, Some}
use Rattle.sprite_ids.specs.declared.FileId.{FileId}
use Rattle.sprite_ids.specs.declared.TxNo.{TxNo}
use Rattle.process_machine.specs.declared.Call.{Call}
use Rattle.process_machine.specs.declared.Reply.{Reply}
use Rattle.packet_bodies.specs.declared.ReplyBody.{ReplyBody}
use Rattle.packet_bodies.specs.declared.ReplyBody.TheVariants as replies
use Rattle.kernel_steps.specs.Outs.{answered, noted}
use Rattle.unix_calls.specs.declared.Description.{Description}
use Rattle.unix_calls.specs.declared.Event.TheVariants.{Enter}
use Rattle.unix_calls.specs.State.{Unix}
use Rattle.unix_calls.specs.After.{after}
use Rattle.server_names.specs.Names.{Tree}
use Rattle.server_kernel.specs.declared.Asked.{Asked}
use Rattle.server_kernel.specs.declared.Server.{Server}
use Rattle.server_kernel.specs.Files.{is_busy, waits}
use Rattle.server_kernel.specs.Says.{answers}
use Rattle.home_laws.specs.Calls.{call_entry}
use Rattle.tree_laws.specs.Trees.{Parts, Ties}
use Rattle.flat_tree.specs.Requests.{IsLonger, Trees, with_tree}
use Rattle.name_laws.specs.Served.{Serves}

-- the call of a process, and the remote call that carries it
pub record Caller : Type 0 where
  pub tx : TxNo
  pub pid : ℕ
  pub number : ℕ
  pub called : Call

-- the server enters the call with a reply that the one-kernel Unix gives to it, and answers; behind it the names of all domains are
-- those of the one-kernel Unix again, of which only the one that was asked may have others
pub record Enters (ties : Ties) (c : Description) (u : Unix) (trees : Trees) (root : Parts) (caller : Caller) (s next : Server) : Type 0 where
  pub reply : Reply
  pub body : ReplyBody
  pub later : Unix
  pub tree : Tree
  pub entered : after c u (call_entry caller.pid caller.number caller.called reply) ≡ Some later
  pub serves : Serves ties later (with_tree root tree trees) next
  pub out : next.out ≡ answered caller.tx body (noted (Enter (call_entry caller.pid caller.number caller.called reply)) s.out)

-- so a request goes, or it sends the walk on to a longer domain of its path, or waits for a file that is busy
pub data Goes (ties : Ties) (c : Description) (u : Unix) (trees : Trees) (root path : Parts) (caller : Caller) (s next : Server) : Type 0 where
  Entered : Enters ties c u trees root caller s next → Goes ties c u trees root path caller s next
  SentOn : (to : Parts) → IsLonger u.roots root path to → next ≡ answers caller.tx (replies.Redirect to) s → Goes ties c u trees root path caller s next
  Waits : (asked : Asked) (file : FileId) → is_busy file s ≡ true → next ≡ waits asked file s → Goes ties c u trees root path caller s next
