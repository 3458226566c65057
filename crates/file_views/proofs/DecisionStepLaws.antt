-- The fourth layer of soundness under each step and each move of a client, and of a new file.
use Rattle.std.proofs.Common.{◌≡◌, ℕ, zero, suc, ◌-◌, ◌==◌, Bool, true, false, not, ◌&&◌, ◌||◌, is_some, is_none, List, [], ◌∷◌, length, Option, Some, None, refl, sym, ap, ◌∙◌, subst, inl, inr, eqb-true, slice_index_or, append-nil}
use Rattle.std.specs.List.{list_any}
use Rattle.std.proofs.lemmas.Bool.{and_parts}
use Rattle.sprite_ids.specs.declared.BlockNo.{BlockNo}
use Rattle.sprite_ids.specs.declared.StreamNo.{StreamNo}
use Rattle.sprite_ids.specs.declared.CacheMode.{CacheMode}
use Rattle.sprite_ids.specs.declared.CacheMode.TheVariants as cache
use Rattle.file_views.specs.declared.grant.FileGrant.{FileGrant}
use Rattle.file_views.specs.declared.body.FileBody.{FileBody}
use Rattle.file_views.specs.declared.body.FileBody.TheVariants as form
use Rattle.file_views.specs.declared.opens.Open.{Open}
use Rattle.file_views.specs.declared.client.Held.{Held}
use Rattle.file_views.specs.declared.client.Client.{Client}
use Rattle.file_views.specs.declared.call.FileCall.{FileCall}
use Rattle.file_views.specs.declared.call.Carry.{Carry}
use Rattle.file_views.specs.declared.step.FileStep.{FileStep}
use Rattle.file_views.specs.declared.step.FileStep.TheVariants as act
use Rattle.file_views.specs.declared.moves.ClientMove.{ClientMove}
use Rattle.file_views.specs.declared.moves.ClientMove.TheVariants as move
use Rattle.file_views.specs.declared.view.View.{View}
use Rattle.file_views.specs.Setting.{Setting}
use Rattle.file_views.specs.Contents.{zeros}
use Rattle.file_views.specs.Streams.{is_any}
use Rattle.file_views.specs.Clients.{is_on, held, take_grant, take_callback, pieces, fill, wrote_back, install, uninstall, without_block, with_block}
use Rattle.file_views.specs.Views.{server, new_view, client, set_client, find_call, find_carried, replied, remove_call, is_callback, waits, begin, without_carried}
use Rattle.file_views.specs.Data.{step_of}
use Rattle.file_views.specs.Serving.{store_blocks, holder_answered}
use Rattle.file_views.specs.Steps.{grant_comes, called_back, request_at_client, opening_answered, move_answered, fetch_answered, write_back_answered, op_answered, flush_comes, reply_comes, carried_comes_with, call_comes, delivered, moving, writing_back_at, writing_back, after}
use Rattle.file_views.specs.Possible.{has_room, is_client, is_due, may_do, possible, stepped}
use Rattle.file_views.specs.Moves.{kernel_of, is_data, none_on, may_move, after_move}
use Rattle.file_views.specs.Here.{In, IsClient}
use Rattle.file_views.specs.SoundShapes.{Ends, Shapes}
use Rattle.file_views.specs.SoundDecisions.{Decisions}
use Rattle.file_views.proofs.MemberLaws.{found, in_without}
use Rattle.file_views.proofs.ClientLaws.{choose_by}
use Rattle.file_views.proofs.CountLaws.{neither}
use Rattle.file_views.proofs.ShapeLaws.{Flat, flat_of, flat_remove}
use Rattle.file_views.proofs.ShapeStepLaws.{client_is, still_client, free_client, flat_server, calls_apart, ends_no_callback}
use Rattle.file_views.proofs.ShapeMoveLaws.{working_client}
use Rattle.file_views.proofs.DataLaws.{Carries, carries_start, carries_fetch, carries_queue, carries_look}
use Rattle.file_views.proofs.DecisionLaws.{FlatDecisions, flat_decisions, decisions_of, Holds, holds_server, ruled_holds, decisions_stay_by, stays_calls, stays_client, stays_begin, stays_remove, stays_with, back_self, asking_more, waiting_without}
use Rattle.file_views.proofs.DecisionCallLaws.{decisions_request, decisions_resumed}

-- what a client does, and what it begins
pub decisions_client : (z : Setting) (v : View) (kernel : ℕ) (c : Client) → FlatDecisions z v → FlatDecisions z (set_client v kernel c)
decisions_client z v kernel c d = decisions_stay_by z v (set_client v kernel c) (stays_client v kernel c) d

decisions_begin : (z : Setting) (v : View) (kernel : ℕ) (body : FileBody) (dirty : Option ℕ) → is_callback body ≡ false → FlatDecisions z v → FlatDecisions z (begin v kernel server body dirty)
decisions_begin z v kernel body dirty n d = decisions_stay_by z v (begin v kernel server body dirty) (stays_begin v kernel server body dirty n) d

carries_decisions : (z : Setting) → Carries (FlatDecisions z)
carries_decisions z = record { client = λ v kernel c d i a. decisions_client z v kernel c d; begins = λ v kernel body dirty d i n. decisions_begin z v kernel body dirty n d }

-- a call that has its reply is finished
pub answered_waits : (one : FileCall) → is_some one.reply ≡ true → waits one ≡ false
answered_waits one h = by_reply one.taken one.reply h
  where
    by_reply : (taken : Bool) (reply : Option FileBody) → is_some reply ≡ true → (taken && is_none reply) ≡ false
    by_reply true (Some reply) e = refl
    by_reply false (Some reply) e = refl
    by_reply taken None e = absurd (cc (e))

pub decisions_remove : (z : Setting) (v : View) (one : FileCall) → Flat v → In one v.calls → is_some one.reply ≡ true → is_callback one.body ≡ false → FlatDecisions z v → FlatDecisions z (remove_call v one.number)
decisions_remove z v one f m s n d = decisions_stay_by z v (remove_call v one.number) (stays_remove v one (calls_apart v f.numbered.differ) m (answered_waits one s) n) d

decisions_carried : (z : Setting) (v : View) (carried : List Carry) → FlatDecisions z v → FlatDecisions z (record v { carried = carried })
decisions_carried z v carried d = decisions_stay_by z v (record v { carried = carried }) (stays_calls v (record v { carried = carried }) (holds_server v (record v { carried = carried }) refl refl refl refl refl) refl) d

-- replies come
decisions_opened : (z : Setting) (v : View) (kernel : ℕ) (stream : StreamNo) (reply : Option FileBody) → FlatDecisions z v → FlatDecisions z (opening_answered v kernel stream reply)
decisions_opened z v kernel stream (Some (form.Opened grant)) d = decisions_client z v kernel (install (take_grant (client v kernel) grant) stream) d
decisions_opened z v kernel stream reply d = d

decisions_moved : (z : Setting) (v : View) (number place : ℕ) (stream : StreamNo) (reply : Option FileBody) → FlatDecisions z v → FlatDecisions z (move_answered v number place stream reply)
decisions_moved z v number place stream (Some (form.Moved grant more)) d = decisions_carried z v _ d
decisions_moved z v number place stream reply d = d

decisions_fetched : (z : Setting) (v : View) (kernel : ℕ) (block : BlockNo) (reply : Option FileBody) → IsClient (length v.clients) kernel → FlatDecisions z v → FlatDecisions z (fetch_answered z v kernel block reply)
decisions_fetched z v kernel block (Some (form.Block stamp piece)) i d = carries_look (FlatDecisions z) (carries_decisions z) z (set_client v kernel (fill z (client v kernel) stamp block piece)) kernel (decisions_client z v kernel (fill z (client v kernel) stamp block piece) d) (still_client v kernel kernel _ i)
decisions_fetched z v kernel block (Some (form.Again grant)) i d = carries_look (FlatDecisions z) (carries_decisions z) z (grant_comes v kernel grant) kernel (decisions_client z v kernel (take_grant (client v kernel) grant) d) (still_client v kernel kernel _ i)
decisions_fetched z v kernel block reply i d = d

decisions_back : (z : Setting) (v : View) (kernel stamp : ℕ) (block : BlockNo) (dirty : Option ℕ) (reply : Option FileBody) → FlatDecisions z v → FlatDecisions z (write_back_answered v kernel stamp block dirty reply)
decisions_back z v kernel stamp block dirty (Some form.Done) d = decisions_client z v kernel (wrote_back (client v kernel) stamp block.0 dirty) d
decisions_back z v kernel stamp block dirty (Some (form.Again grant)) d = decisions_client z v kernel (take_grant (client v kernel) grant) d
decisions_back z v kernel stamp block dirty reply d = d

decisions_operated : (z : Setting) (v : View) (kernel : ℕ) (step : FileStep) (reply : Option FileBody) → IsClient (length v.clients) kernel → FlatDecisions z v → FlatDecisions z (op_answered z v kernel step reply)
decisions_operated z v kernel step (Some (form.Again grant)) i d = carries_start (FlatDecisions z) (carries_decisions z) z (grant_comes v kernel grant) kernel step (decisions_client z v kernel (take_grant (client v kernel) grant) d) (still_client v kernel kernel _ i)
decisions_operated z v kernel step reply i d = d

decisions_flush : (z : Setting) (v : View) (one : FileCall) (reply : Option FileBody) → Flat v → In one v.calls → is_some one.reply ≡ true → is_callback one.body ≡ true → FlatDecisions z v → FlatDecisions z (flush_comes z v one reply)
decisions_flush z v one (Some (form.Flushed size blocks)) f m s c d =
    let u : View = record v { bytes = store_blocks z v.bytes size blocks; holder = holder_answered v one.to } in
    let w : View = remove_call u one.number in
    let h : Holds v w = holds_server v w refl refl refl refl refl in
    elim d.queues [
      | inl a ↦ absurd (cc (a.0 one m, c))
      | inr b ↦ decisions_resumed z w (flat_remove u one (flat_server v _ v.version _ v.uncached v.opens v.shared f) m) (ruled_holds v w h d.ruled)
          (asking_more z v w h [] (waiting_without v.calls one (calls_apart v f.numbered.differ) m (answered_waits one s) ∙ sym (append-nil _)) (λ x k e. back_self v.calls x (in_without one.number x v.calls k).0) b.1)
    ]
decisions_flush z v one reply f m s c d = d

decisions_reply : (z : Setting) (v : View) (one : FileCall) (body : FileBody) → one.body ≡ body → Flat v → In one v.calls → is_some one.reply ≡ true → FlatDecisions z v → FlatDecisions z (reply_comes z v one body)
decisions_reply z v one (form.Callback stamp kind) e f m s d = decisions_flush z v one one.reply f m s (ap is_callback e) d
decisions_reply z v one (form.Opening pid number stream mode truncate) e f m s d = decisions_opened z (remove_call v one.number) one.from stream one.reply (decisions_remove z v one f m s (ap is_callback e) d)
decisions_reply z v one (form.Move stream place kept grants) e f m s d = decisions_moved z (remove_call v one.number) one.number place stream one.reply (decisions_remove z v one f m s (ap is_callback e) d)
decisions_reply z v one (form.Fetch stamp block) e f m s d = decisions_fetched z (remove_call v one.number) one.from block one.reply (subst (Ends (length v.clients) one.from one.to) e (f.calls one m).ends).0 (decisions_remove z v one f m s (ap is_callback e) d)
decisions_reply z v one (form.WriteBack stamp block size piece) e f m s d = decisions_back z (remove_call v one.number) one.from stamp block one.dirty one.reply (decisions_remove z v one f m s (ap is_callback e) d)
decisions_reply z v one (form.Op pid number stamp stream way) e f m s d = decisions_operated z (remove_call v one.number) one.from (step_of pid number one.from stream way) one.reply (subst (Ends (length v.clients) one.from one.to) e (f.calls one m).ends).0 (decisions_remove z v one f m s (ap is_callback e) d)
decisions_reply z v one body e f m s d = decisions_remove z v one f m s (ap is_callback e) d

-- a callback comes to a client
decisions_at_client : (z : Setting) (v : View) (one : FileCall) (body : FileBody) → one.body ≡ body → one.taken ≡ false → Flat v → In one v.calls → FlatDecisions z v → FlatDecisions z (request_at_client z v one body)
decisions_at_client z v one (form.Callback stamp kind) e t f m d =
    let w : View = set_client v one.to (take_callback (client v one.to) stamp kind) in
    let new : FileCall = replied one (form.Flushed (client v one.to).size (pieces z (client v one.to).size (client v one.to).blocks)) in
    decisions_stay_by z w (called_back z v one stamp kind) (stays_with w one new (calls_apart v f.numbered.differ) m refl refl refl (ap (λ b. b && is_none one.reply) t) refl) (decisions_client z v one.to (take_callback (client v one.to) stamp kind) d)
decisions_at_client z v one body e t f m d = d

-- a request or a reply comes
decisions_call : (z : Setting) (v : View) (one : FileCall) (taken atserver : Bool) → one.taken ≡ taken → (one.to == server) ≡ atserver → (not taken || is_some one.reply) ≡ true → Flat v → In one v.calls → FlatDecisions z v → FlatDecisions z (call_comes z v one taken atserver)
decisions_call z v one true atserver t e h f m d = decisions_reply z v one one.body refl f m h d
decisions_call z v one false true t e h f m d = decisions_request z v one f d m (eqb-true one.to server e) t (unanswered one.reply refl) (no_call (is_callback one.body) refl)
  where
    unanswered : (reply : Option FileBody) → one.reply ≡ reply → reply ≡ None
    unanswered (Some reply) r = absurd (cc (t, (f.calls one m).taken_first reply r))
    unanswered None r = refl

    no_call : (b : Bool) → is_callback one.body ≡ b → b ≡ false
    no_call true k = absurd (ends_no_callback (length v.clients) one.from one.to one.body (f.calls one m).ends f.items.fifteen (eqb-true one.to server e) k)
    no_call false k = refl
decisions_call z v one false false t e h f m d = decisions_at_client z v one one.body refl t f m d

decisions_carried_comes : (z : Setting) (v : View) (one : Carry) (grant : Option FileGrant) → FlatDecisions z v → FlatDecisions z (carried_comes_with v one grant)
decisions_carried_comes z v one (Some grant) d = decisions_client z v one.to (install (take_grant (client v one.to) grant) one.stream) d
decisions_carried_comes z v one None d = d

decisions_delivered : (z : Setting) (v : View) (number : ℕ) (carried : Option Carry) (call : Option FileCall) → find_call v.calls number ≡ call → is_due carried call ≡ true → Flat v → FlatDecisions z v → FlatDecisions z (delivered z v carried call)
decisions_delivered z v number (Some one) call k h f d = decisions_carried_comes z (record v { carried = without_carried one.call v.carried }) one one.grant (decisions_carried z v _ d)
decisions_delivered z v number None (Some one) k h f d = decisions_call z v one one.taken (one.to == server) refl refl h f (found v.calls number one k).0 d
decisions_delivered z v number None None k h f d = d

-- what a client makes
decisions_moving : (z : Setting) (v : View) (stream : StreamNo) (source place : ℕ) (kept : Bool) → FlatDecisions z v → FlatDecisions z (moving v stream source place kept)
decisions_moving z v stream source place true d = decisions_begin z v source (form.Move stream place true 0) None refl d
decisions_moving z v stream source place false d = decisions_begin z (set_client v source (uninstall (client v source) stream)) source _ None refl (decisions_client z v source (uninstall (client v source) stream) d)

decisions_back_at : (z : Setting) (v : View) (kernel : ℕ) (one : Held) (dirty : Option ℕ) → FlatDecisions z v → FlatDecisions z (writing_back_at z v kernel one dirty)
decisions_back_at z v kernel one None d = decisions_client z v kernel (record (client v kernel) { blocks = without_block one.block.0 (client v kernel).blocks }) d
decisions_back_at z v kernel one (Some dirty) d = decisions_begin z v kernel _ (Some dirty) refl d

decisions_writing_back : (z : Setting) (v : View) (kernel : ℕ) (o : Option Held) → FlatDecisions z v → FlatDecisions z (writing_back z v kernel o)
decisions_writing_back z v kernel (Some one) d = decisions_back_at z v kernel one one.dirty d
decisions_writing_back z v kernel None d = d

decisions_after : (z : Setting) (v : View) (step : FileStep) → may_do z v step ≡ true → Flat v → FlatDecisions z v → FlatDecisions z (after z v step)
decisions_after z v (act.Opening pid number kernel stream mode truncate) e f d = decisions_begin z v kernel (form.Opening pid number stream mode truncate) None refl d
decisions_after z v (act.Closing kernel stream) e f d = decisions_begin z (set_client v kernel (uninstall (client v kernel) stream)) kernel _ None refl (decisions_client z v kernel (uninstall (client v kernel) stream) d)
decisions_after z v (act.Moving stream source place kept) e f d = decisions_moving z v stream source place kept d
decisions_after z v (act.Reading pid number kernel stream from many) e f d = carries_start (FlatDecisions z) (carries_decisions z) z v kernel (act.Reading pid number kernel stream from many) d (free_client v kernel stream (and_parts _ _ (and_parts _ _ e).0).0)
decisions_after z v (act.Writing pid number kernel stream from bytes) e f d = carries_start (FlatDecisions z) (carries_decisions z) z v kernel (act.Writing pid number kernel stream from bytes) d (free_client v kernel stream (and_parts _ _ (and_parts _ _ e).0).0)
decisions_after z v (act.Append pid number kernel stream bytes) e f d = carries_start (FlatDecisions z) (carries_decisions z) z v kernel (act.Append pid number kernel stream bytes) d (free_client v kernel stream (and_parts _ _ (and_parts _ _ e).0).0)
decisions_after z v (act.WritingBack kernel block) e f d = decisions_writing_back z v kernel (held (client v kernel).blocks block.0) d
decisions_after z v (act.Delivering number) e f d = decisions_delivered z v number (find_carried v.carried number) (find_call v.calls number) refl e f d
decisions_after z v (act.Expiring number) e f d = d

pub steps_keep_decisions : (z : Setting) (v : View) (step : FileStep) → Shapes v → Decisions z v → Decisions z (stepped z v step)
steps_keep_decisions z v step s d = choose_by (Decisions z) (possible z v step) (after z v step) v (λ e. decisions_of z (after z v step) (decisions_after z v step (and_parts (has_room v) (may_do z v step) e).1 (flat_of v s) (flat_decisions z v d))) (λ e. d)

-- a client's moves
pub no_mode_on : (modes : List CacheMode) (i : ℕ) → list_any is_on modes ≡ false → is_on (slice_index_or modes i cache.None) ≡ false
no_mode_on [] i e = refl
no_mode_on (mode ∷ modes) zero e = (neither (is_on mode) _ e).0
no_mode_on (mode ∷ modes) (suc i) e = no_mode_on modes i (neither (is_on mode) _ e).1

not_is : (b : Bool) → not b ≡ true → b ≡ false
not_is true e = absurd (cc (e))
not_is false e = refl

none_opened : (opens : List Open) → is_any opens ≡ false → (one : Open) → In one opens → ⊥
none_opened [] e one m = m
none_opened (o ∷ opens) e one m = cc (e)

decisions_uncache : (z : Setting) (v : View) → (not (is_any v.opens) && none_on v) ≡ true → FlatDecisions z v → FlatDecisions z (record v { uncached = true })
decisions_uncache z v e d = record {
  ruled = record {
    shared = record { uncached = λ s k. refl; stays = d.ruled.shared.stays };
    off = λ kernel i u. no_mode_on v.modes (kernel - 1) (not_is (list_any is_on v.modes) (and_parts _ (none_on v) e).1);
    on = λ kernel i u one m k. absurd (cc (u));
  };
  queues = elim d.queues [ inl a ↦ inl a | inr b ↦ inr (b.0, record { first = b.1.first; rest = b.1.rest; waiting = b.1.waiting; asks_it = b.1.asks_it; told = λ u. absurd (cc (u)); spared = b.1.spared }) ];
}

decisions_server : (z : Setting) (v w : View) → w.clients ≡ v.clients → w.uncached ≡ v.uncached → w.opens ≡ v.opens → w.shared ≡ v.shared → w.modes ≡ v.modes → w.calls ≡ v.calls → FlatDecisions z v → FlatDecisions z w
decisions_server z v w a b c e g h d = decisions_stay_by z v w (stays_calls v w (holds_server v w a b c e g) h) d

decisions_move : (z : Setting) (v : View) (other : ClientMove) → may_move z v other ≡ true → FlatDecisions z v → FlatDecisions z (after_move z v other)
decisions_move z v (move.Number next) e d = decisions_server z v (record v { next = next }) refl refl refl refl refl refl d
decisions_move z v (move.Count kernel count) e d = decisions_client z v kernel (record (client v kernel) { count = count }) d
decisions_move z v (move.Queue step) e d = let p = and_parts (is_data step) (may_do z v step) e in carries_queue (FlatDecisions z) (carries_decisions z) v (kernel_of step) step d (working_client z v step p.0 p.1)
decisions_move z v (move.Fetch kernel block) e d = carries_fetch (FlatDecisions z) (carries_decisions z) v kernel block.0 d (client_is v kernel (and_parts (is_client v kernel) _ e).0)
decisions_move z v (move.Look kernel) e d = carries_look (FlatDecisions z) (carries_decisions z) z v kernel d (client_is v kernel (and_parts (is_client v kernel) _ e).0)
decisions_move z v (move.Zeros kernel block) e d = decisions_client z v kernel (record (client v kernel) { blocks = with_block (record { block = block; bytes = zeros z.block; dirty = None }) (client v kernel).blocks }) d
decisions_move z v (move.Raise version) e d = decisions_server z v (record v { version = version }) refl refl refl refl refl refl d
decisions_move z v move.Uncache e d = decisions_uncache z v e d

pub moves_keep_decisions : (z : Setting) (v : View) (other : ClientMove) → may_move z v other ≡ true → Decisions z v → Decisions z (after_move z v other)
moves_keep_decisions z v other e d = decisions_of z (after_move z v other) (decisions_move z v other e (flat_decisions z v d))

-- a new file
pub new_has_decisions : (z : Setting) (count : ℕ) (bytes : List ℕ) → Decisions z (new_view count bytes)
new_has_decisions z count bytes = decisions_of z (new_view count bytes) (record {
  ruled = record {
    shared = record { uncached = λ s e. absurd (cc (e)); stays = λ s e. absurd (cc (e)) };
    off = λ kernel i u. absurd (cc (u));
    on = λ kernel i u one m. absurd m;
  };
  queues = inl (λ one m. absurd m, refl);
})
