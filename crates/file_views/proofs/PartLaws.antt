-- All steps and moves, cut into parts: a fact of views that each part keeps, with what enters, is kept by each step and each move.
use Rattle.std.proofs.Common.{◌≡◌, ◌≤◌, ℕ, ◌==◌, nat_le, Bool, true, false, not, ◌||◌, is_some, List, [], ◌∷◌, ◌++◌, length, Option, Some, None, refl, sym, ap, subst, eqb-true, leb-true}
use Rattle.std.proofs.lemmas.Bool.{and_parts}
use Rattle.sprite_ids.specs.declared.BlockNo.{BlockNo}
use Rattle.sprite_ids.specs.declared.StreamNo.{StreamNo}
use Rattle.sprite_ids.specs.declared.Mode.{Mode}
use Rattle.sprite_ids.specs.declared.CallKind.{CallKind}
use Rattle.file_views.specs.declared.grant.FileGrant.{FileGrant}
use Rattle.file_views.specs.declared.body.Access.{Access}
use Rattle.file_views.specs.declared.body.FileBody.{FileBody}
use Rattle.file_views.specs.declared.body.FileBody.TheVariants as form
use Rattle.file_views.specs.declared.client.Held.{Held}
use Rattle.file_views.specs.declared.call.FileCall.{FileCall}
use Rattle.file_views.specs.declared.call.Carry.{Carry}
use Rattle.file_views.specs.declared.step.FileStep.{FileStep}
use Rattle.file_views.specs.declared.step.FileStep.TheVariants as act
use Rattle.file_views.specs.declared.moves.ClientMove.{ClientMove}
use Rattle.file_views.specs.declared.moves.ClientMove.TheVariants as move
use Rattle.file_views.specs.declared.view.View.{View}
use Rattle.file_views.specs.declared.entered.Entered.{Entered}
use Rattle.file_views.specs.Setting.{Setting}
use Rattle.file_views.specs.Contents.{zeros}
use Rattle.file_views.specs.Clients.{held, take_grant, fill, wrote_back, install, with_block}
use Rattle.file_views.specs.Views.{server, client, set_client, find_call, find_carried, is_callback, begin, remove_call, without_carried, busy}
use Rattle.file_views.specs.Grants.{asks}
use Rattle.file_views.specs.Data.{step_of}
use Rattle.file_views.specs.Serving.{request_comes, callback_answered}
use Rattle.file_views.specs.Steps.{grant_comes, called_back, request_at_client, opening_answered, move_answered, fetch_answered, write_back_answered, op_answered, flush_comes, reply_comes, carried_comes_with, call_comes, delivered, closing, moving, writing_back_at, writing_back, after}
use Rattle.file_views.specs.Possible.{is_client, is_free, is_due, may_write_back, may_do}
use Rattle.file_views.specs.Moves.{kernel_of, is_data, is_past, may_move, after_move}
use Rattle.file_views.specs.Moves.{enters_move}
use Rattle.file_views.specs.Entries.{enters_request, enters_flush, enters_fetched, enters_op_answered, enters_reply, enters_call, enters_delivered, enters_after}
use Rattle.file_views.specs.Here.{In, IsClient, request_stamp}
use Rattle.file_views.specs.SoundShapes.{Ends, Answers}
use Rattle.file_views.proofs.MemberLaws.{found, carried_found}
use Rattle.file_views.proofs.ShapeLaws.{Flat}
use Rattle.file_views.proofs.ShapeStepLaws.{client_is, still_client, free_client, ends_no_callback}
use Rattle.file_views.proofs.ShapeMoveLaws.{working_client}
use Rattle.file_views.proofs.ModeStepLaws.{unanswered}
use Rattle.file_views.proofs.WorkLaws.{noted, WorkNotes, notes_queue, notes_start, notes_look, Works, unnoted, works_notes}

-- T is what a step leans on, R what it keeps, P what is kept while a client works, each with what entered before, and Q holds of
-- readings, writings and appends
pub record PartNotes (z : Setting) (I : Type 0) (note : I → Entered → I) (Q : View → ℕ → FileStep → Type 0) (T P R : I → View → Type 0) : Type 0 where
  pub works : WorkNotes z I note Q P
  pub flat : (had : I) (v : View) → T had v → Flat v
  pub same : (had : I) (v : View) → T had v → P had v
  pub rests : (had : I) (v : View) → P had v → R had v
  pub wanted : (had : I) (v : View) (kernel : ℕ) → T had v → P had v → IsClient (length v.clients) kernel → (s : FileStep) → In s (client v kernel).waiting → Q v kernel s
  pub filled_wanted : (had : I) (v : View) (one : FileCall) (stamp : ℕ) (block : BlockNo) (other : ℕ) (piece : List ℕ) → T had v → In one v.calls → one.body ≡ form.Fetch stamp block → one.reply ≡ Some (form.Block other piece) → IsClient (length v.clients) one.from → P had (set_client (remove_call v one.number) one.from (fill z (client v one.from) other block piece)) → IsClient (length (set_client (remove_call v one.number) one.from (fill z (client v one.from) other block piece)).clients) one.from → (s : FileStep) → In s (client (set_client (remove_call v one.number) one.from (fill z (client v one.from) other block piece)) one.from).waiting → Q (set_client (remove_call v one.number) one.from (fill z (client v one.from) other block piece)) one.from s
  pub fetch_again_wanted : (had : I) (v : View) (one : FileCall) (stamp : ℕ) (block : BlockNo) (grant : FileGrant) → T had v → In one v.calls → one.body ≡ form.Fetch stamp block → one.reply ≡ Some (form.Again grant) → IsClient (length v.clients) one.from → P had (grant_comes (remove_call v one.number) one.from grant) → IsClient (length (grant_comes (remove_call v one.number) one.from grant).clients) one.from → (s : FileStep) → In s (client (grant_comes (remove_call v one.number) one.from grant) one.from).waiting → Q (grant_comes (remove_call v one.number) one.from grant) one.from s
  pub again_wanted : (had : I) (v : View) (one : FileCall) (grant : FileGrant) → T had v → In one v.calls → (pid number stamp : ℕ) (stream : StreamNo) (way : Access) → one.body ≡ form.Op pid number stamp stream way → one.reply ≡ Some (form.Again grant) → IsClient (length v.clients) one.from → Q (grant_comes (remove_call v one.number) one.from grant) one.from (step_of pid number one.from stream way)
  pub begun : (had : I) (v : View) (step : FileStep) → T had v → is_data step ≡ true → may_do z v step ≡ true → Q v (kernel_of step) step
  -- replies come
  pub removed : (had : I) (v : View) (one : FileCall) → T had v → In one v.calls → is_some one.reply ≡ true → asks one.body ≡ false → is_callback one.body ≡ false → R had (remove_call v one.number)
  pub opened : (had : I) (v : View) (one : FileCall) (stream : StreamNo) (grant : FileGrant) → T had v → In one v.calls → (pid number : ℕ) (mode : Mode) (truncate : Bool) → one.body ≡ form.Opening pid number stream mode truncate → one.reply ≡ Some (form.Opened grant) → IsClient (length v.clients) one.from → R had (set_client (remove_call v one.number) one.from (install (take_grant (client v one.from) grant) stream))
  pub moved : (had : I) (v : View) (one : FileCall) (stream : StreamNo) (place : ℕ) (kept : Bool) (grants : ℕ) (grant : Option FileGrant) (more : ℕ) → T had v → In one v.calls → one.body ≡ form.Move stream place kept grants → one.reply ≡ Some (form.Moved grant more) → R had (record (remove_call v one.number) { carried = v.carried ++ record { call = one.number; to = place; stream = stream; grant = grant } ∷ [] })
  pub came : (had : I) (v : View) (carry : Carry) (grant : FileGrant) → T had v → In carry v.carried → carry.grant ≡ Some grant → R had (set_client (record v { carried = without_carried carry.call v.carried }) carry.to (install (take_grant (client v carry.to) grant) carry.stream))
  pub filled : (had : I) (v : View) (one : FileCall) (stamp : ℕ) (block : BlockNo) (other : ℕ) (piece : List ℕ) → T had v → In one v.calls → one.body ≡ form.Fetch stamp block → one.reply ≡ Some (form.Block other piece) → IsClient (length v.clients) one.from → P had (set_client (remove_call v one.number) one.from (fill z (client v one.from) other block piece))
  pub again : (had : I) (v : View) (one : FileCall) (stamp : ℕ) (grant : FileGrant) → T had v → In one v.calls → request_stamp one.body ≡ Some stamp → one.reply ≡ Some (form.Again grant) → IsClient (length v.clients) one.from → P had (grant_comes (remove_call v one.number) one.from grant)
  pub done : (had : I) (v : View) (one : FileCall) (stamp : ℕ) (block : BlockNo) (size : ℕ) (piece : List ℕ) → T had v → In one v.calls → one.body ≡ form.WriteBack stamp block size piece → one.reply ≡ Some form.Done → IsClient (length v.clients) one.from → R had (set_client (remove_call v one.number) one.from (wrote_back (client v one.from) stamp block.0 one.dirty))
  pub flushed : (had : I) (v : View) (one : FileCall) (stamp : ℕ) (kind : CallKind) (size : ℕ) (blocks : List (BlockNo × List ℕ)) → T had v → In one v.calls → one.body ≡ form.Callback stamp kind → one.reply ≡ Some (form.Flushed size blocks) → IsClient (length v.clients) one.to → R (noted note had (enters_flush z v one (Some (form.Flushed size blocks)))) (callback_answered z v one size blocks)
  -- requests come
  pub called : (had : I) (v : View) (one : FileCall) (stamp : ℕ) (kind : CallKind) → T had v → In one v.calls → one.body ≡ form.Callback stamp kind → one.taken ≡ false → one.reply ≡ None → IsClient (length v.clients) one.to → R had (called_back z v one stamp kind)
  pub requested : (had : I) (v : View) (one : FileCall) → T had v → In one v.calls → one.to ≡ server → one.taken ≡ false → one.reply ≡ None → is_callback one.body ≡ false → R (noted note had (enters_request z v one)) (request_comes z v one)
  -- clients begin
  pub opens : (had : I) (v : View) (kernel pid number : ℕ) (stream : StreamNo) (mode : Mode) (truncate : Bool) → T had v → IsClient (length v.clients) kernel → R had (begin v kernel server (form.Opening pid number stream mode truncate) None)
  pub closes : (had : I) (v : View) (kernel : ℕ) (stream : StreamNo) → T had v → IsClient (length v.clients) kernel → R had (closing v kernel stream)
  pub moves : (had : I) (v : View) (stream : StreamNo) (source place : ℕ) (kept : Bool) → T had v → IsClient (length v.clients) source → R had (moving v stream source place kept)
  pub backs : (had : I) (v : View) (kernel : ℕ) (one : Held) (number : ℕ) → T had v → IsClient (length v.clients) kernel → held (client v kernel).blocks number ≡ Some one → may_write_back z v kernel (Some one) ≡ true → R had (writing_back_at z v kernel one one.dirty)
  -- moves beside steps
  pub numbered : (had : I) (v : View) (next : ℕ) → T had v → v.next ≤ next → R had (record v { next = next })
  pub counted : (had : I) (v : View) (kernel count : ℕ) → T had v → IsClient (length v.clients) kernel → (client v kernel).count ≤ count → R had (set_client v kernel (record (client v kernel) { count = count }))
  pub zeroed : (had : I) (v : View) (kernel : ℕ) (block : BlockNo) → T had v → IsClient (length v.clients) kernel → is_past z (client v kernel) block.0 ≡ true → R had (set_client v kernel (record (client v kernel) { blocks = with_block (record { block = block; bytes = zeros z.block; dirty = None }) (client v kernel).blocks }))
  pub raised : (had : I) (v : View) (version : ℕ) → T had v → v.uncached ≡ true → busy v ≡ false → v.version ≤ version → R had (record v { version = version })
  pub uncached : (had : I) (v : View) → T had v → R had (record v { uncached = true })

sender_of : (v : View) (one : FileCall) (body : FileBody) → one.body ≡ body → Flat v → In one v.calls → Ends (length v.clients) one.from one.to body
sender_of v one body e f m = subst (Ends (length v.clients) one.from one.to) e (f.calls one m).ends

answer_of : (v : View) (one : FileCall) (body reply : FileBody) → one.body ≡ body → one.reply ≡ Some reply → Flat v → In one v.calls → Answers body reply
answer_of v one body reply e r f m = subst (λ b. Answers b reply) e ((f.calls one m).fits reply r)

-- replies come
notes_opened : (z : Setting) (I : Type 0) (note : I → Entered → I) (Q : View → ℕ → FileStep → Type 0) (T P R : I → View → Type 0) → PartNotes z I note Q T P R → (had : I) (v : View) (one : FileCall) (pid number : ℕ) (stream : StreamNo) (mode : Mode) (truncate : Bool) (reply : FileBody) → T had v → In one v.calls → one.body ≡ form.Opening pid number stream mode truncate → one.reply ≡ Some reply → R had (opening_answered (remove_call v one.number) one.from stream (Some reply))
notes_opened z I note Q T P R p had v one pid number stream mode truncate (form.Opened grant) t m e r = p.opened had v one stream grant t m pid number mode truncate e r (sender_of v one _ e (p.flat had v t) m).0
notes_opened z I note Q T P R p had v one pid number stream mode truncate reply t m e r = absurd (answer_of v one (form.Opening pid number stream mode truncate) reply e r (p.flat had v t) m)

notes_moved : (z : Setting) (I : Type 0) (note : I → Entered → I) (Q : View → ℕ → FileStep → Type 0) (T P R : I → View → Type 0) → PartNotes z I note Q T P R → (had : I) (v : View) (one : FileCall) (stream : StreamNo) (place : ℕ) (kept : Bool) (grants : ℕ) (reply : FileBody) → T had v → In one v.calls → one.body ≡ form.Move stream place kept grants → one.reply ≡ Some reply → R had (move_answered (remove_call v one.number) one.number place stream (Some reply))
notes_moved z I note Q T P R p had v one stream place kept grants (form.Moved grant more) t m e r = p.moved had v one stream place kept grants grant more t m e r
notes_moved z I note Q T P R p had v one stream place kept grants reply t m e r = absurd (answer_of v one (form.Move stream place kept grants) reply e r (p.flat had v t) m)

notes_fetched : (z : Setting) (I : Type 0) (note : I → Entered → I) (Q : View → ℕ → FileStep → Type 0) (T P R : I → View → Type 0) → PartNotes z I note Q T P R → (had : I) (v : View) (one : FileCall) (stamp : ℕ) (block : BlockNo) (reply : FileBody) → T had v → In one v.calls → one.body ≡ form.Fetch stamp block → one.reply ≡ Some reply → R (noted note had (enters_fetched z (remove_call v one.number) one.from block (Some reply))) (fetch_answered z (remove_call v one.number) one.from block (Some reply))
notes_fetched z I note Q T P R p had v one stamp block (form.Block other piece) t m e r =
    let i : IsClient (length v.clients) one.from = (sender_of v one _ e (p.flat had v t) m).0 in
    let w : View = set_client (remove_call v one.number) one.from (fill z (client v one.from) other block piece) in
    let q : P had w = p.filled had v one stamp block other piece t m e r i in
    let j : IsClient (length w.clients) one.from = still_client (remove_call v one.number) one.from one.from _ i in
    p.rests _ _ (notes_look z I note Q P p.works had w one.from q j (p.filled_wanted had v one stamp block other piece t m e r i q j))
notes_fetched z I note Q T P R p had v one stamp block (form.Again grant) t m e r =
    let i : IsClient (length v.clients) one.from = (sender_of v one _ e (p.flat had v t) m).0 in
    let w : View = grant_comes (remove_call v one.number) one.from grant in
    let q : P had w = p.again had v one stamp grant t m (ap request_stamp e) r i in
    let j : IsClient (length w.clients) one.from = still_client (remove_call v one.number) one.from one.from _ i in
    p.rests _ _ (notes_look z I note Q P p.works had w one.from q j (p.fetch_again_wanted had v one stamp block grant t m e r i q j))
notes_fetched z I note Q T P R p had v one stamp block reply t m e r = absurd (answer_of v one (form.Fetch stamp block) reply e r (p.flat had v t) m)

notes_written : (z : Setting) (I : Type 0) (note : I → Entered → I) (Q : View → ℕ → FileStep → Type 0) (T P R : I → View → Type 0) → PartNotes z I note Q T P R → (had : I) (v : View) (one : FileCall) (stamp : ℕ) (block : BlockNo) (size : ℕ) (piece : List ℕ) (reply : FileBody) → T had v → In one v.calls → one.body ≡ form.WriteBack stamp block size piece → one.reply ≡ Some reply → R had (write_back_answered (remove_call v one.number) one.from stamp block one.dirty (Some reply))
notes_written z I note Q T P R p had v one stamp block size piece form.Done t m e r = p.done had v one stamp block size piece t m e r (sender_of v one _ e (p.flat had v t) m).0
notes_written z I note Q T P R p had v one stamp block size piece (form.Again grant) t m e r = p.rests _ _ (p.again had v one stamp grant t m (ap request_stamp e) r (sender_of v one _ e (p.flat had v t) m).0)
notes_written z I note Q T P R p had v one stamp block size piece reply t m e r = absurd (answer_of v one (form.WriteBack stamp block size piece) reply e r (p.flat had v t) m)

notes_operated : (z : Setting) (I : Type 0) (note : I → Entered → I) (Q : View → ℕ → FileStep → Type 0) (T P R : I → View → Type 0) → PartNotes z I note Q T P R → (had : I) (v : View) (one : FileCall) (pid number stamp : ℕ) (stream : StreamNo) (way : Access) (reply : FileBody) → T had v → In one v.calls → one.body ≡ form.Op pid number stamp stream way → one.reply ≡ Some reply → R (noted note had (enters_op_answered z (remove_call v one.number) one.from (step_of pid number one.from stream way) (Some reply))) (op_answered z (remove_call v one.number) one.from (step_of pid number one.from stream way) (Some reply))
notes_operated z I note Q T P R p had v one pid number stamp stream way (form.Again grant) t m e r =
    let i : IsClient (length v.clients) one.from = (sender_of v one _ e (p.flat had v t) m).0 in
    p.rests _ _ (notes_start z I note Q P p.works had (grant_comes (remove_call v one.number) one.from grant) one.from (step_of pid number one.from stream way) (p.again had v one stamp grant t m (ap request_stamp e) r i) (still_client (remove_call v one.number) one.from one.from _ i) (p.again_wanted had v one grant t m pid number stamp stream way e r i))
notes_operated z I note Q T P R p had v one pid number stamp stream way reply t m e r = p.removed had v one t m (ap is_some r) (ap asks e) (ap is_callback e)

notes_flushed : (z : Setting) (I : Type 0) (note : I → Entered → I) (Q : View → ℕ → FileStep → Type 0) (T P R : I → View → Type 0) → PartNotes z I note Q T P R → (had : I) (v : View) (one : FileCall) (stamp : ℕ) (kind : CallKind) (reply : FileBody) → T had v → In one v.calls → one.body ≡ form.Callback stamp kind → one.reply ≡ Some reply → R (noted note had (enters_flush z v one (Some reply))) (flush_comes z v one (Some reply))
notes_flushed z I note Q T P R p had v one stamp kind (form.Flushed size blocks) t m e r = p.flushed had v one stamp kind size blocks t m e r (sender_of v one _ e (p.flat had v t) m).1
notes_flushed z I note Q T P R p had v one stamp kind reply t m e r = absurd (answer_of v one (form.Callback stamp kind) reply e r (p.flat had v t) m)

notes_reply : (z : Setting) (I : Type 0) (note : I → Entered → I) (Q : View → ℕ → FileStep → Type 0) (T P R : I → View → Type 0) → PartNotes z I note Q T P R → (had : I) (v : View) (one : FileCall) (body reply : FileBody) → T had v → In one v.calls → one.body ≡ body → one.reply ≡ Some reply → R (noted note had (enters_reply z v one body)) (reply_comes z v one body)
notes_reply z I note Q T P R p had v one (form.Callback stamp kind) reply t m e r = subst (λ o. R (noted note had (enters_flush z v one o)) (flush_comes z v one o)) (sym r) (notes_flushed z I note Q T P R p had v one stamp kind reply t m e r)
notes_reply z I note Q T P R p had v one (form.Opening pid number stream mode truncate) reply t m e r = subst (λ o. R had (opening_answered (remove_call v one.number) one.from stream o)) (sym r) (notes_opened z I note Q T P R p had v one pid number stream mode truncate reply t m e r)
notes_reply z I note Q T P R p had v one (form.Move stream place kept grants) reply t m e r = subst (λ o. R had (move_answered (remove_call v one.number) one.number place stream o)) (sym r) (notes_moved z I note Q T P R p had v one stream place kept grants reply t m e r)
notes_reply z I note Q T P R p had v one (form.Fetch stamp block) reply t m e r = subst (λ o. R (noted note had (enters_fetched z (remove_call v one.number) one.from block o)) (fetch_answered z (remove_call v one.number) one.from block o)) (sym r) (notes_fetched z I note Q T P R p had v one stamp block reply t m e r)
notes_reply z I note Q T P R p had v one (form.WriteBack stamp block size piece) reply t m e r = subst (λ o. R had (write_back_answered (remove_call v one.number) one.from stamp block one.dirty o)) (sym r) (notes_written z I note Q T P R p had v one stamp block size piece reply t m e r)
notes_reply z I note Q T P R p had v one (form.Op pid number stamp stream way) reply t m e r = subst (λ o. R (noted note had (enters_op_answered z (remove_call v one.number) one.from (step_of pid number one.from stream way) o)) (op_answered z (remove_call v one.number) one.from (step_of pid number one.from stream way) o)) (sym r) (notes_operated z I note Q T P R p had v one pid number stamp stream way reply t m e r)
notes_reply z I note Q T P R p had v one (form.Close stream grants) reply t m e r = p.removed had v one t m (ap is_some r) (ap asks e) (ap is_callback e)
notes_reply z I note Q T P R p had v one body reply t m e r = absurd (sender_of v one body e (p.flat had v t) m)

notes_answered : (z : Setting) (I : Type 0) (note : I → Entered → I) (Q : View → ℕ → FileStep → Type 0) (T P R : I → View → Type 0) → PartNotes z I note Q T P R → (had : I) (v : View) (one : FileCall) (reply : Option FileBody) → T had v → In one v.calls → one.reply ≡ reply → is_some reply ≡ true → R (noted note had (enters_reply z v one one.body)) (reply_comes z v one one.body)
notes_answered z I note Q T P R p had v one (Some reply) t m r s = notes_reply z I note Q T P R p had v one one.body reply t m refl r
notes_answered z I note Q T P R p had v one None t m r s = absurd (cc (s))

-- a request or a reply comes
notes_at_client : (z : Setting) (I : Type 0) (note : I → Entered → I) (Q : View → ℕ → FileStep → Type 0) (T P R : I → View → Type 0) → PartNotes z I note Q T P R → (had : I) (v : View) (one : FileCall) (body : FileBody) → T had v → In one v.calls → one.body ≡ body → one.taken ≡ false → one.reply ≡ None → R had (request_at_client z v one body)
notes_at_client z I note Q T P R p had v one (form.Callback stamp kind) t m e k n = p.called had v one stamp kind t m e k n (sender_of v one _ e (p.flat had v t) m).1
notes_at_client z I note Q T P R p had v one body t m e k n = p.rests had v (p.same had v t)

notes_call : (z : Setting) (I : Type 0) (note : I → Entered → I) (Q : View → ℕ → FileStep → Type 0) (T P R : I → View → Type 0) → PartNotes z I note Q T P R → (had : I) (v : View) (one : FileCall) (taken atserver : Bool) → T had v → In one v.calls → one.taken ≡ taken → (one.to == server) ≡ atserver → (not taken || is_some one.reply) ≡ true → R (noted note had (enters_call z v one taken atserver)) (call_comes z v one taken atserver)
notes_call z I note Q T P R p had v one true atserver t m k e h = notes_answered z I note Q T P R p had v one one.reply t m refl h
notes_call z I note Q T P R p had v one false true t m k e h = p.requested had v one t m (eqb-true one.to server e) k (unanswered v one (p.flat had v t) m k) (no_call (is_callback one.body) refl)
  where
    no_call : (b : Bool) → is_callback one.body ≡ b → b ≡ false
    no_call true c = absurd (ends_no_callback (length v.clients) one.from one.to one.body ((p.flat had v t).calls one m).ends (p.flat had v t).items.fifteen (eqb-true one.to server e) c)
    no_call false c = refl
notes_call z I note Q T P R p had v one false false t m k e h = notes_at_client z I note Q T P R p had v one one.body t m refl k (unanswered v one (p.flat had v t) m k)

notes_came : (z : Setting) (I : Type 0) (note : I → Entered → I) (Q : View → ℕ → FileStep → Type 0) (T P R : I → View → Type 0) → PartNotes z I note Q T P R → (had : I) (v : View) (carry : Carry) (grant : Option FileGrant) → T had v → In carry v.carried → carry.grant ≡ grant → R had (carried_comes_with (record v { carried = without_carried carry.call v.carried }) carry grant)
notes_came z I note Q T P R p had v carry (Some grant) t m e = p.came had v carry grant t m e
notes_came z I note Q T P R p had v carry None t m e = absurd (cc (e, ((p.flat had v t).carried carry m).granted))

notes_delivered : (z : Setting) (I : Type 0) (note : I → Entered → I) (Q : View → ℕ → FileStep → Type 0) (T P R : I → View → Type 0) → PartNotes z I note Q T P R → (had : I) (v : View) (number : ℕ) (carried : Option Carry) (call : Option FileCall) → T had v → find_carried v.carried number ≡ carried → find_call v.calls number ≡ call → is_due carried call ≡ true → R (noted note had (enters_delivered z v carried call)) (delivered z v carried call)
notes_delivered z I note Q T P R p had v number (Some one) call t e k h = notes_came z I note Q T P R p had v one one.grant t (carried_found v.carried number one e).0 refl
notes_delivered z I note Q T P R p had v number None (Some one) t e k h = notes_call z I note Q T P R p had v one one.taken (one.to == server) t (found v.calls number one k).0 refl refl h
notes_delivered z I note Q T P R p had v number None None t e k h = p.rests had v (p.same had v t)

notes_back : (z : Setting) (I : Type 0) (note : I → Entered → I) (Q : View → ℕ → FileStep → Type 0) (T P R : I → View → Type 0) → PartNotes z I note Q T P R → (had : I) (v : View) (kernel number : ℕ) (o : Option Held) → T had v → IsClient (length v.clients) kernel → held (client v kernel).blocks number ≡ o → may_write_back z v kernel o ≡ true → R had (writing_back z v kernel o)
notes_back z I note Q T P R p had v kernel number (Some one) t i h e = p.backs had v kernel one number t i h e
notes_back z I note Q T P R p had v kernel number None t i h e = p.rests had v (p.same had v t)

-- each step
pub notes_after : (z : Setting) (I : Type 0) (note : I → Entered → I) (Q : View → ℕ → FileStep → Type 0) (T P R : I → View → Type 0) → PartNotes z I note Q T P R → (had : I) (v : View) (step : FileStep) → may_do z v step ≡ true → T had v → R (noted note had (enters_after z v step)) (after z v step)
notes_after z I note Q T P R p had v (act.Opening pid number kernel stream mode truncate) e t = p.opens had v kernel pid number stream mode truncate t (client_is v kernel (and_parts (is_client v kernel) _ e).0)
notes_after z I note Q T P R p had v (act.Closing kernel stream) e t = p.closes had v kernel stream t (free_client v kernel stream e)
notes_after z I note Q T P R p had v (act.Moving stream source place kept) e t = p.moves had v stream source place kept t (free_client v source stream (and_parts (is_free v source stream) _ e).0)
notes_after z I note Q T P R p had v (act.Reading pid number kernel stream from many) e t = p.rests _ _ (notes_start z I note Q P p.works had v kernel (act.Reading pid number kernel stream from many) (p.same had v t) (free_client v kernel stream (and_parts _ _ (and_parts _ _ e).0).0) (p.begun had v (act.Reading pid number kernel stream from many) t refl e))
notes_after z I note Q T P R p had v (act.Writing pid number kernel stream from bytes) e t = p.rests _ _ (notes_start z I note Q P p.works had v kernel (act.Writing pid number kernel stream from bytes) (p.same had v t) (free_client v kernel stream (and_parts _ _ (and_parts _ _ e).0).0) (p.begun had v (act.Writing pid number kernel stream from bytes) t refl e))
notes_after z I note Q T P R p had v (act.Append pid number kernel stream bytes) e t = p.rests _ _ (notes_start z I note Q P p.works had v kernel (act.Append pid number kernel stream bytes) (p.same had v t) (free_client v kernel stream (and_parts _ _ (and_parts _ _ e).0).0) (p.begun had v (act.Append pid number kernel stream bytes) t refl e))
notes_after z I note Q T P R p had v (act.WritingBack kernel block) e t = let q = and_parts (is_client v kernel) _ e in notes_back z I note Q T P R p had v kernel block.0 (held (client v kernel).blocks block.0) t (client_is v kernel q.0) refl q.1
notes_after z I note Q T P R p had v (act.Delivering number) e t = notes_delivered z I note Q T P R p had v number (find_carried v.carried number) (find_call v.calls number) t refl refl e
notes_after z I note Q T P R p had v (act.Expiring number) e t = p.rests had v (p.same had v t)

-- each move
not_is : (b : Bool) → not b ≡ true → b ≡ false
not_is true e = absurd (cc (e))
not_is false e = refl

pub notes_move : (z : Setting) (I : Type 0) (note : I → Entered → I) (Q : View → ℕ → FileStep → Type 0) (T P R : I → View → Type 0) → PartNotes z I note Q T P R → (had : I) (v : View) (other : ClientMove) → may_move z v other ≡ true → T had v → R (noted note had (enters_move z v other)) (after_move z v other)
notes_move z I note Q T P R p had v (move.Number next) e t = p.numbered had v next t (leb-true v.next next e)
notes_move z I note Q T P R p had v (move.Count kernel count) e t = let q = and_parts (is_client v kernel) _ e in p.counted had v kernel count t (client_is v kernel q.0) (leb-true _ _ q.1)
notes_move z I note Q T P R p had v (move.Queue step) e t = let q = and_parts (is_data step) (may_do z v step) e in p.rests _ _ (notes_queue z I note Q P p.works had v (kernel_of step) step (p.same had v t) (working_client z v step q.0 q.1) (p.begun had v step t q.0 q.1))
notes_move z I note Q T P R p had v (move.Fetch kernel block) e t = p.rests _ _ (p.works.fetches had v kernel block.0 (p.same had v t) (client_is v kernel (and_parts (is_client v kernel) _ e).0))
notes_move z I note Q T P R p had v (move.Look kernel) e t = let i : IsClient (length v.clients) kernel = client_is v kernel (and_parts (is_client v kernel) _ e).0 in p.rests _ _ (notes_look z I note Q P p.works had v kernel (p.same had v t) i (p.wanted had v kernel t (p.same had v t) i))
notes_move z I note Q T P R p had v (move.Zeros kernel block) e t = let q = and_parts (is_client v kernel) _ e in p.zeroed had v kernel block t (client_is v kernel q.0) q.1
notes_move z I note Q T P R p had v (move.Raise version) e t = let q = and_parts v.uncached _ e in let r = and_parts (not (busy v)) (nat_le v.version version) q.1 in p.raised had v version t q.0 (not_is (busy v) r.0) (leb-true v.version version r.1)
notes_move z I note Q T P R p had v move.Uncache e t = p.uncached had v t

-- facts of views alone
pub record Parts (z : Setting) (Q : View → ℕ → FileStep → Type 0) (T P R : View → Type 0) : Type 0 where
  pub works : Works z Q P
  pub flat : (v : View) → T v → Flat v
  pub same : (v : View) → T v → P v
  pub rests : (v : View) → P v → R v
  pub wanted : (v : View) (kernel : ℕ) → T v → P v → IsClient (length v.clients) kernel → (s : FileStep) → In s (client v kernel).waiting → Q v kernel s
  pub filled_wanted : (v : View) (one : FileCall) (stamp : ℕ) (block : BlockNo) (other : ℕ) (piece : List ℕ) → T v → In one v.calls → one.body ≡ form.Fetch stamp block → one.reply ≡ Some (form.Block other piece) → IsClient (length v.clients) one.from → P (set_client (remove_call v one.number) one.from (fill z (client v one.from) other block piece)) → IsClient (length (set_client (remove_call v one.number) one.from (fill z (client v one.from) other block piece)).clients) one.from → (s : FileStep) → In s (client (set_client (remove_call v one.number) one.from (fill z (client v one.from) other block piece)) one.from).waiting → Q (set_client (remove_call v one.number) one.from (fill z (client v one.from) other block piece)) one.from s
  pub fetch_again_wanted : (v : View) (one : FileCall) (stamp : ℕ) (block : BlockNo) (grant : FileGrant) → T v → In one v.calls → one.body ≡ form.Fetch stamp block → one.reply ≡ Some (form.Again grant) → IsClient (length v.clients) one.from → P (grant_comes (remove_call v one.number) one.from grant) → IsClient (length (grant_comes (remove_call v one.number) one.from grant).clients) one.from → (s : FileStep) → In s (client (grant_comes (remove_call v one.number) one.from grant) one.from).waiting → Q (grant_comes (remove_call v one.number) one.from grant) one.from s
  pub again_wanted : (v : View) (one : FileCall) (grant : FileGrant) → T v → In one v.calls → (pid number stamp : ℕ) (stream : StreamNo) (way : Access) → one.body ≡ form.Op pid number stamp stream way → one.reply ≡ Some (form.Again grant) → IsClient (length v.clients) one.from → Q (grant_comes (remove_call v one.number) one.from grant) one.from (step_of pid number one.from stream way)
  pub begun : (v : View) (step : FileStep) → T v → is_data step ≡ true → may_do z v step ≡ true → Q v (kernel_of step) step
  -- replies come
  pub removed : (v : View) (one : FileCall) → T v → In one v.calls → is_some one.reply ≡ true → asks one.body ≡ false → is_callback one.body ≡ false → R (remove_call v one.number)
  pub opened : (v : View) (one : FileCall) (stream : StreamNo) (grant : FileGrant) → T v → In one v.calls → (pid number : ℕ) (mode : Mode) (truncate : Bool) → one.body ≡ form.Opening pid number stream mode truncate → one.reply ≡ Some (form.Opened grant) → IsClient (length v.clients) one.from → R (set_client (remove_call v one.number) one.from (install (take_grant (client v one.from) grant) stream))
  pub moved : (v : View) (one : FileCall) (stream : StreamNo) (place : ℕ) (kept : Bool) (grants : ℕ) (grant : Option FileGrant) (more : ℕ) → T v → In one v.calls → one.body ≡ form.Move stream place kept grants → one.reply ≡ Some (form.Moved grant more) → R (record (remove_call v one.number) { carried = v.carried ++ record { call = one.number; to = place; stream = stream; grant = grant } ∷ [] })
  pub came : (v : View) (carry : Carry) (grant : FileGrant) → T v → In carry v.carried → carry.grant ≡ Some grant → R (set_client (record v { carried = without_carried carry.call v.carried }) carry.to (install (take_grant (client v carry.to) grant) carry.stream))
  pub filled : (v : View) (one : FileCall) (stamp : ℕ) (block : BlockNo) (other : ℕ) (piece : List ℕ) → T v → In one v.calls → one.body ≡ form.Fetch stamp block → one.reply ≡ Some (form.Block other piece) → IsClient (length v.clients) one.from → P (set_client (remove_call v one.number) one.from (fill z (client v one.from) other block piece))
  pub again : (v : View) (one : FileCall) (stamp : ℕ) (grant : FileGrant) → T v → In one v.calls → request_stamp one.body ≡ Some stamp → one.reply ≡ Some (form.Again grant) → IsClient (length v.clients) one.from → P (grant_comes (remove_call v one.number) one.from grant)
  pub done : (v : View) (one : FileCall) (stamp : ℕ) (block : BlockNo) (size : ℕ) (piece : List ℕ) → T v → In one v.calls → one.body ≡ form.WriteBack stamp block size piece → one.reply ≡ Some form.Done → IsClient (length v.clients) one.from → R (set_client (remove_call v one.number) one.from (wrote_back (client v one.from) stamp block.0 one.dirty))
  pub flushed : (v : View) (one : FileCall) (stamp : ℕ) (kind : CallKind) (size : ℕ) (blocks : List (BlockNo × List ℕ)) → T v → In one v.calls → one.body ≡ form.Callback stamp kind → one.reply ≡ Some (form.Flushed size blocks) → IsClient (length v.clients) one.to → R (callback_answered z v one size blocks)
  -- requests come
  pub called : (v : View) (one : FileCall) (stamp : ℕ) (kind : CallKind) → T v → In one v.calls → one.body ≡ form.Callback stamp kind → one.taken ≡ false → one.reply ≡ None → IsClient (length v.clients) one.to → R (called_back z v one stamp kind)
  pub requested : (v : View) (one : FileCall) → T v → In one v.calls → one.to ≡ server → one.taken ≡ false → one.reply ≡ None → is_callback one.body ≡ false → R (request_comes z v one)
  -- clients begin
  pub opens : (v : View) (kernel pid number : ℕ) (stream : StreamNo) (mode : Mode) (truncate : Bool) → T v → IsClient (length v.clients) kernel → R (begin v kernel server (form.Opening pid number stream mode truncate) None)
  pub closes : (v : View) (kernel : ℕ) (stream : StreamNo) → T v → IsClient (length v.clients) kernel → R (closing v kernel stream)
  pub moves : (v : View) (stream : StreamNo) (source place : ℕ) (kept : Bool) → T v → IsClient (length v.clients) source → R (moving v stream source place kept)
  pub backs : (v : View) (kernel : ℕ) (one : Held) (number : ℕ) → T v → IsClient (length v.clients) kernel → held (client v kernel).blocks number ≡ Some one → may_write_back z v kernel (Some one) ≡ true → R (writing_back_at z v kernel one one.dirty)
  -- moves beside steps
  pub numbered : (v : View) (next : ℕ) → T v → v.next ≤ next → R (record v { next = next })
  pub counted : (v : View) (kernel count : ℕ) → T v → IsClient (length v.clients) kernel → (client v kernel).count ≤ count → R (set_client v kernel (record (client v kernel) { count = count }))
  pub zeroed : (v : View) (kernel : ℕ) (block : BlockNo) → T v → IsClient (length v.clients) kernel → is_past z (client v kernel) block.0 ≡ true → R (set_client v kernel (record (client v kernel) { blocks = with_block (record { block = block; bytes = zeros z.block; dirty = None }) (client v kernel).blocks }))
  pub raised : (v : View) (version : ℕ) → T v → v.uncached ≡ true → busy v ≡ false → v.version ≤ version → R (record v { version = version })
  pub uncached : (v : View) → T v → R (record v { uncached = true })

pub parts_notes : (z : Setting) (Q : View → ℕ → FileStep → Type 0) (T P R : View → Type 0) → Parts z Q T P R → PartNotes z (Unit {0}) unnoted Q (λ had. T) (λ had. P) (λ had. R)
parts_notes z Q T P R p = record {
  works = works_notes z Q P p.works;
  flat = λ had. p.flat;
  same = λ had. p.same;
  rests = λ had. p.rests;
  wanted = λ had. p.wanted;
  filled_wanted = λ had. p.filled_wanted;
  fetch_again_wanted = λ had. p.fetch_again_wanted;
  again_wanted = λ had. p.again_wanted;
  begun = λ had. p.begun;
  removed = λ had. p.removed;
  opened = λ had. p.opened;
  moved = λ had. p.moved;
  came = λ had. p.came;
  filled = λ had. p.filled;
  again = λ had. p.again;
  done = λ had. p.done;
  flushed = λ had. p.flushed;
  called = λ had. p.called;
  requested = λ had. p.requested;
  opens = λ had. p.opens;
  closes = λ had. p.closes;
  moves = λ had. p.moves;
  backs = λ had. p.backs;
  numbered = λ had. p.numbered;
  counted = λ had. p.counted;
  zeroed = λ had. p.zeroed;
  raised = λ had. p.raised;
  uncached = λ had. p.uncached;
}

pub part_after : (z : Setting) (Q : View → ℕ → FileStep → Type 0) (T P R : View → Type 0) → Parts z Q T P R → (v : View) (step : FileStep) → may_do z v step ≡ true → T v → R (after z v step)
part_after z Q T P R p = notes_after z (Unit {0}) unnoted Q (λ had. T) (λ had. P) (λ had. R) (parts_notes z Q T P R p) tt

pub part_move : (z : Setting) (Q : View → ℕ → FileStep → Type 0) (T P R : View → Type 0) → Parts z Q T P R → (v : View) (other : ClientMove) → may_move z v other ≡ true → T v → R (after_move z v other)
part_move z Q T P R p = notes_move z (Unit {0}) unnoted Q (λ had. T) (λ had. P) (λ had. R) (parts_notes z Q T P R p) tt
