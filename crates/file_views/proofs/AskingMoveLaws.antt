-- Fetches and operations, the first part of the seventh layer of soundness, under all steps and moves, and of a new file.
use Rattle.std.proofs.Common.{◌≡◌, ◌≢◌, ◌≤◌, ℕ, ◌*◌, ◌==◌, nat_le, nat_lt, Bool, true, false, not, ◌&&◌, is_none, List, length, Option, Some, None, refl, sym, ap, ◌∙◌, subst, inl, inr, arith, eq-eqb, leb-true}
use Rattle.std.proofs.lemmas.Bool.{and_parts, and_from, ltb-true}
use Rattle.sprite_ids.specs.declared.BlockNo.{BlockNo}
use Rattle.sprite_ids.specs.declared.StreamNo.{StreamNo}
use Rattle.file_views.specs.declared.grant.FileGrant.{FileGrant}
use Rattle.file_views.specs.declared.body.Access.{Access}
use Rattle.file_views.specs.declared.body.FileBody.{FileBody}
use Rattle.file_views.specs.declared.body.FileBody.TheVariants as form
use Rattle.file_views.specs.declared.client.Held.{Held}
use Rattle.file_views.specs.declared.client.Client.{Client}
use Rattle.file_views.specs.declared.call.FileCall.{FileCall}
use Rattle.file_views.specs.declared.call.Carry.{Carry}
use Rattle.file_views.specs.declared.step.FileStep.{FileStep}
use Rattle.file_views.specs.declared.step.FileStep.TheVariants as act
use Rattle.file_views.specs.declared.moves.ClientMove.{ClientMove}
use Rattle.file_views.specs.declared.moves.ClientMove.TheVariants as move
use Rattle.file_views.specs.declared.view.View.{View}
use Rattle.file_views.specs.Setting.{Setting}
use Rattle.file_views.specs.Contents.{zeros}
use Rattle.file_views.specs.Streams.{is_any}
use Rattle.file_views.specs.Clients.{is_on, held, take_grant, take_callback, fill, wrote_back, install, uninstall, without_block, with_block}
use Rattle.file_views.specs.Views.{server, new_view, client, set_client, find_call, find_carried, things, remove_call, without_carried}
use Rattle.file_views.specs.Data.{step_of}
use Rattle.file_views.specs.Serving.{store_blocks, holder_answered, resumed}
use Rattle.file_views.specs.Steps.{grant_comes, called_back, request_at_client, opening_answered, move_answered, fetch_answered, write_back_answered, op_answered, flush_comes, reply_comes, carried_comes_with, call_comes, delivered, moving, writing_back_at, writing_back, after}
use Rattle.file_views.specs.Possible.{has_room, is_client, is_free, may_do, possible, stepped}
use Rattle.file_views.specs.Moves.{kernel_of, is_data, is_fetch, has_fetch, may_fetch, may_move, after_move}
use Rattle.file_views.specs.Here.{In, IsClient, about, at_kernel}
use Rattle.file_views.specs.SoundShapes.{Ends, Answers, Shapes}
use Rattle.file_views.specs.SoundStamps.{Stamps}
use Rattle.file_views.specs.SoundRequests.{Asking}
use Rattle.file_views.specs.AskingLaw.{EachAsks}
use Rattle.file_views.proofs.MemberLaws.{found, carried_found, in_without, in_filter, filter_in, unique_filter}
use Rattle.file_views.proofs.EffectLaws.{count_set, call_in_things}
use Rattle.file_views.proofs.ClientLaws.{choose_by}
use Rattle.file_views.proofs.CountLaws.{or_left}
use Rattle.file_views.proofs.ShapeLaws.{Flat, flat_of}
use Rattle.file_views.proofs.ShapeStepLaws.{client_is, still_client, free_client, calls_apart, number_of}
use Rattle.file_views.proofs.ShapeMoveLaws.{working_client, client_new, count_new}
use Rattle.file_views.proofs.StampLaws.{FlatStamps, flat_stamps, in_things}
use Rattle.file_views.proofs.StampChangeLaws.{stamps_remove, stamps_uncarried}
use Rattle.file_views.proofs.DecisionServeLaws.{found_any}
use Rattle.file_views.proofs.AskingLaws.{asking_calls, asking_waits, Begins, held_with}
use Rattle.file_views.proofs.AskingStepLaws.{FlatAsking, stood_self, Quiet, quiet_with, quiet_resumed, quiet_request, asking_quiet, asking_set, asking_begin}
use Rattle.file_views.proofs.AskingDataLaws.{NoFetch, asking_alone, asking_take, asking_installed, asking_called, filled_empty, asking_back, asking_drop, asking_fetch, asking_queue, asking_start, asking_look}

-- what it leans on
pub record Asks (z : Setting) (v : View) : Type 0 where
  pub flat : Flat v
  pub stamps : FlatStamps v
  pub asking : FlatAsking z v

no_client : (one : FileCall) (kernel : ℕ) → 1 ≤ kernel → one.from ≡ kernel → one.from ≡ 0 → ⊥
no_client one kernel l e n = omega (arith, l, e, n)

-- fewer calls
pub quiet_calls : (v w : View) → w.clients ≡ v.clients → ((one : FileCall) → In one w.calls → In one v.calls) → Quiet v w
quiet_calls v w c less = record {
  clients = c;
  stand = λ kernel l h x n q. elim (in_things w x n) [ inl r ↦ absurd (no_client x kernel l q (ap (λ (y : FileCall). y.from) r.makes)) | inr k ↦ stood_self x (things v) (call_in_things v x (less x k)) ];
}

asking_fewer : (z : Setting) (v w : View) → Asks z v → w.clients ≡ v.clients → ((one : FileCall) → In one w.calls → In one v.calls) → FlatAsking z w
asking_fewer z v w t c less = asking_quiet z v w t.asking (quiet_calls v w c less) t.flat.items.fifteen

pub asking_removed : (z : Setting) (v : View) (one : FileCall) → Asks z v → FlatAsking z (remove_call v one.number)
asking_removed z v one t = asking_fewer z v (remove_call v one.number) t refl (λ x k. (in_without one.number x v.calls k).0)

pub alone_removed : (z : Setting) (v : View) (one : FileCall) → Asks z v → In one v.calls → is_fetch one.body ≡ true → IsClient (length v.clients) one.from → NoFetch (remove_call v one.number) one.from
alone_removed z v one t m e i x k q = elim (in_things (remove_call v one.number) x k) [
  | inl r ↦ absurd (no_client x one.from i.0 q (ap (λ (y : FileCall). y.from) r.makes))
  | inr n ↦ (let p = in_without one.number x v.calls n in by_test (is_fetch x.body) refl p.0 p.1)
]
  where
    by_test : (b : Bool) → is_fetch x.body ≡ b → In x v.calls → x.number ≢ one.number → b ≡ false
    by_test true f n d = absurd (d ((t.asking one.from i).one_fetch x one (call_in_things v x n) (call_in_things v one m) q refl f e))
    by_test false f n d = refl

pub taken_removed : (z : Setting) (v : View) (one : FileCall) (grant : FileGrant) → Asks z v → In one v.calls → IsClient (length v.clients) one.from → Asking z one.from (take_grant (client v one.from) grant) (things (remove_call v one.number))
taken_removed z v one grant t m i = asking_take z (remove_call v one.number) one.from grant (stamps_remove v one t.flat.numbered.differ m t.stamps) (asking_removed z v one t) i

-- replies come
asking_opened : (z : Setting) (v : View) (one : FileCall) (stream : StreamNo) (reply : Option FileBody) → Asks z v → In one v.calls → IsClient (length v.clients) one.from → FlatAsking z (opening_answered (remove_call v one.number) one.from stream reply)
asking_opened z v one stream (Some (form.Opened grant)) t m i = asking_set z (remove_call v one.number) one.from (install (take_grant (client v one.from) grant) stream) (asking_removed z v one t) i (asking_installed z one.from (take_grant (client v one.from) grant) _ (things (remove_call v one.number)) (taken_removed z v one grant t m i))
asking_opened z v one stream reply t m i = asking_removed z v one t

asking_moved : (z : Setting) (v : View) (one : FileCall) (place : ℕ) (stream : StreamNo) (reply : Option FileBody) → Asks z v → FlatAsking z (move_answered (remove_call v one.number) one.number place stream reply)
asking_moved z v one place stream (Some (form.Moved grant more)) t = asking_fewer z v (move_answered (remove_call v one.number) one.number place stream (Some (form.Moved grant more))) t refl (λ x k. (in_without one.number x v.calls k).0)
asking_moved z v one place stream reply t = asking_removed z v one t

asking_fetched : (z : Setting) (v : View) (one : FileCall) (stamp : ℕ) (block : BlockNo) (reply : Option FileBody) → one.body ≡ form.Fetch stamp block → one.reply ≡ reply → Asks z v → In one v.calls → IsClient (length v.clients) one.from → FlatAsking z (fetch_answered z (remove_call v one.number) one.from block reply)
asking_fetched z v one stamp block (Some (form.Block other piece)) e r t m i =
    let u : View = remove_call v one.number in
    let n : NoFetch u one.from = alone_removed z v one t m (ap is_fetch e) i in
    let same : other ≡ stamp = subst (λ x. Answers x (form.Block other piece)) e ((t.flat.calls one m).fits (form.Block other piece) r) in
    asking_look z (set_client u one.from (fill z (client v one.from) other block piece)) one.from
    (asking_set z u one.from (fill z (client v one.from) other block piece) (asking_removed z v one t) i (asking_alone z one.from (client v one.from) (fill z (client v one.from) other block piece) (things u) (asking_removed z v one t one.from i) n refl refl
    (filled_empty z (client v one.from) block piece other (t.asking one.from i).off_empty (λ q. (t.asking one.from i).fetch_on one (call_in_things v one m) refl stamp block e (sym same ∙ q)))))
    (still_client u one.from one.from _ i) n
asking_fetched z v one stamp block (Some (form.Again grant)) e r t m i = asking_look z (grant_comes (remove_call v one.number) one.from grant) one.from (asking_set z (remove_call v one.number) one.from (take_grant (client v one.from) grant) (asking_removed z v one t) i (taken_removed z v one grant t m i)) (still_client (remove_call v one.number) one.from one.from _ i) (alone_removed z v one t m (ap is_fetch e) i)
asking_fetched z v one stamp block reply e r t m i = asking_removed z v one t

asking_done : (z : Setting) (v : View) (one : FileCall) (stamp : ℕ) (block : BlockNo) (reply : Option FileBody) → Asks z v → In one v.calls → IsClient (length v.clients) one.from → FlatAsking z (write_back_answered (remove_call v one.number) one.from stamp block one.dirty reply)
asking_done z v one stamp block (Some form.Done) t m i = asking_set z (remove_call v one.number) one.from (wrote_back (client v one.from) stamp block.0 one.dirty) (asking_removed z v one t) i (asking_back z (remove_call v one.number) one.from stamp block.0 one.dirty (asking_removed z v one t) i)
asking_done z v one stamp block (Some (form.Again grant)) t m i = asking_set z (remove_call v one.number) one.from (take_grant (client v one.from) grant) (asking_removed z v one t) i (taken_removed z v one grant t m i)
asking_done z v one stamp block reply t m i = asking_removed z v one t

asking_operated : (z : Setting) (v : View) (one : FileCall) (step : FileStep) (reply : Option FileBody) → Asks z v → In one v.calls → IsClient (length v.clients) one.from → FlatAsking z (op_answered z (remove_call v one.number) one.from step reply)
asking_operated z v one step (Some (form.Again grant)) t m i = asking_start z (grant_comes (remove_call v one.number) one.from grant) one.from step (asking_set z (remove_call v one.number) one.from (take_grant (client v one.from) grant) (asking_removed z v one t) i (taken_removed z v one grant t m i)) (still_client (remove_call v one.number) one.from one.from _ i)
asking_operated z v one step reply t m i = asking_removed z v one t

asking_flush : (z : Setting) (v : View) (one : FileCall) (reply : Option FileBody) → Asks z v → In one v.calls → FlatAsking z (flush_comes z v one reply)
asking_flush z v one (Some (form.Flushed size blocks)) t m =
    let w : View = remove_call (record v { bytes = store_blocks z v.bytes size blocks; holder = holder_answered v one.to }) one.number in
    asking_quiet z w (resumed z w) (asking_fewer z v w t refl (λ x k. (in_without one.number x v.calls k).0)) (quiet_resumed z w (unique_filter number_of (λ (c : FileCall). not (c.number == one.number)) v.calls (calls_apart v t.flat.numbered.differ))) t.flat.items.fifteen
asking_flush z v one reply t m = t.asking

sender_of : (z : Setting) (v : View) (one : FileCall) (body : FileBody) → one.body ≡ body → Asks z v → In one v.calls → Ends (length v.clients) one.from one.to body
sender_of z v one body e t m = subst (Ends (length v.clients) one.from one.to) e (t.flat.calls one m).ends

asking_reply : (z : Setting) (v : View) (one : FileCall) (body : FileBody) → one.body ≡ body → Asks z v → In one v.calls → FlatAsking z (reply_comes z v one body)
asking_reply z v one (form.Callback stamp kind) e t m = asking_flush z v one one.reply t m
asking_reply z v one (form.Opening pid number stream mode truncate) e t m = asking_opened z v one stream one.reply t m (sender_of z v one _ e t m).0
asking_reply z v one (form.Move stream place kept grants) e t m = asking_moved z v one place stream one.reply t
asking_reply z v one (form.Fetch stamp block) e t m = asking_fetched z v one stamp block one.reply e refl t m (sender_of z v one _ e t m).0
asking_reply z v one (form.WriteBack stamp block size piece) e t m = asking_done z v one stamp block one.reply t m (sender_of z v one _ e t m).0
asking_reply z v one (form.Op pid number stamp stream way) e t m = asking_operated z v one (step_of pid number one.from stream way) one.reply t m (sender_of z v one _ e t m).0
asking_reply z v one body e t m = asking_removed z v one t

-- a callback comes to a client, a request to the server
asking_at_client : (z : Setting) (v : View) (one : FileCall) (body : FileBody) → one.body ≡ body → one.taken ≡ false → Asks z v → In one v.calls → FlatAsking z (request_at_client z v one body)
asking_at_client z v one (form.Callback stamp kind) e k t m =
    let i : IsClient (length v.clients) one.to = (sender_of z v one _ e t m).1 in
    let w : View = set_client v one.to (take_callback (client v one.to) stamp kind) in
    asking_quiet z w (called_back z v one stamp kind) (asking_set z v one.to (take_callback (client v one.to) stamp kind) t.asking i (asking_called z v one.to stamp kind t.stamps t.asking i ((t.stamps.each one (call_in_things v one m)).before stamp kind e k))) (quiet_with w (called_back z v one stamp kind) one _ m refl refl refl) (subst (λ n. n ≤ 15) (sym (count_set v one.to _)) t.flat.items.fifteen)
asking_at_client z v one body e k t m = t.asking

asking_call : (z : Setting) (v : View) (one : FileCall) (taken atserver : Bool) → one.taken ≡ taken → Asks z v → In one v.calls → FlatAsking z (call_comes z v one taken atserver)
asking_call z v one true atserver k t m = asking_reply z v one one.body refl t m
asking_call z v one false true k t m = asking_quiet z v _ t.asking (quiet_request z v one m) t.flat.items.fifteen
asking_call z v one false false k t m = asking_at_client z v one one.body refl k t m

asking_carried_comes : (z : Setting) (v : View) (one : Carry) (grant : Option FileGrant) → Asks z v → In one v.carried → FlatAsking z (carried_comes_with (record v { carried = without_carried one.call v.carried }) one grant)
asking_carried_comes z v one (Some grant) t m =
    let u : View = record v { carried = without_carried one.call v.carried } in
    let f : FlatAsking z u = asking_fewer z v u t refl (λ x k. k) in
    let i : IsClient (length v.clients) one.to = (t.flat.carried one m).client in
    asking_set z u one.to (install (take_grant (client v one.to) grant) one.stream) f i (asking_installed z one.to (take_grant (client v one.to) grant) _ (things u) (asking_take z u one.to grant (stamps_uncarried v one t.flat.numbered.differ m t.stamps) f i))
asking_carried_comes z v one None t m = asking_fewer z v (record v { carried = without_carried one.call v.carried }) t refl (λ x k. k)

asking_delivered : (z : Setting) (v : View) (number : ℕ) (carried : Option Carry) (call : Option FileCall) → find_carried v.carried number ≡ carried → find_call v.calls number ≡ call → Asks z v → FlatAsking z (delivered z v carried call)
asking_delivered z v number (Some one) call e k t = asking_carried_comes z v one one.grant t (carried_found v.carried number one e).0
asking_delivered z v number None (Some one) e k t = asking_call z v one one.taken (one.to == server) refl t (found v.calls number one k).0
asking_delivered z v number None None e k t = t.asking

-- what a client begins
plain_begins : (z : Setting) (kernel : ℕ) (c : Client) (calls : List FileCall) (new : FileCall) → is_fetch new.body ≡ false → ((pid number stamp : ℕ) (stream : StreamNo) (way : Access) → new.body ≡ form.Op pid number stamp stream way → ⊥) → Begins z kernel c calls new
plain_begins z kernel c calls new n o = record { operates = λ pid number stamp stream way e. absurd (o pid number stamp stream way e); alone = λ e. absurd (cc (n, e)); waits = λ e. absurd (cc (n, e)); on = λ e. absurd (cc (n, e)); absent = λ stamp block e. absurd (cc (n, ap is_fetch e)) }

asking_away : (z : Setting) (v : View) (kernel : ℕ) (stream : StreamNo) → FlatAsking z v → IsClient (length v.clients) kernel → FlatAsking z (set_client v kernel (uninstall (client v kernel) stream))
asking_away z v kernel stream f i = asking_set z v kernel (uninstall (client v kernel) stream) f i (asking_installed z kernel (client v kernel) _ (things v) (f kernel i))

asking_moving : (z : Setting) (v : View) (stream : StreamNo) (source place : ℕ) (kept : Bool) → FlatAsking z v → IsClient (length v.clients) source → FlatAsking z (moving v stream source place kept)
asking_moving z v stream source place true f i = asking_begin z v source (form.Move stream place true 0) None f (plain_begins z source _ _ _ refl (λ a b c d w e. cc (e)))
asking_moving z v stream source place false f i = asking_begin z (set_client v source (uninstall (client v source) stream)) source _ None (asking_away z v source stream f i) (plain_begins z source _ _ _ refl (λ a b c d w e. cc (e)))

asking_back_at : (z : Setting) (v : View) (kernel : ℕ) (one : Held) (dirty : Option ℕ) → FlatAsking z v → IsClient (length v.clients) kernel → FlatAsking z (writing_back_at z v kernel one dirty)
asking_back_at z v kernel one None f i = asking_set z v kernel (record (client v kernel) { blocks = without_block one.block.0 (client v kernel).blocks }) f i (asking_drop z v kernel one.block.0 f i)
asking_back_at z v kernel one (Some dirty) f i = asking_begin z v kernel _ (Some dirty) f (plain_begins z kernel _ _ _ refl (λ a b c d w e. cc (e)))

asking_writing_back : (z : Setting) (v : View) (kernel : ℕ) (o : Option Held) → FlatAsking z v → IsClient (length v.clients) kernel → FlatAsking z (writing_back z v kernel o)
asking_writing_back z v kernel (Some one) f i = asking_back_at z v kernel one one.dirty f i
asking_writing_back z v kernel None f i = f

asking_after : (z : Setting) (v : View) (step : FileStep) → may_do z v step ≡ true → Asks z v → FlatAsking z (after z v step)
asking_after z v (act.Opening pid number kernel stream mode truncate) e t = asking_begin z v kernel (form.Opening pid number stream mode truncate) None t.asking (plain_begins z kernel _ _ _ refl (λ a b c d w q. cc (q)))
asking_after z v (act.Closing kernel stream) e t = asking_begin z (set_client v kernel (uninstall (client v kernel) stream)) kernel _ None (asking_away z v kernel stream t.asking (free_client v kernel stream e)) (plain_begins z kernel _ _ _ refl (λ a b c d w q. cc (q)))
asking_after z v (act.Moving stream source place kept) e t = asking_moving z v stream source place kept t.asking (free_client v source stream (and_parts (is_free v source stream) _ e).0)
asking_after z v (act.Reading pid number kernel stream from many) e t = asking_start z v kernel (act.Reading pid number kernel stream from many) t.asking (free_client v kernel stream (and_parts _ _ (and_parts _ _ e).0).0)
asking_after z v (act.Writing pid number kernel stream from bytes) e t = asking_start z v kernel (act.Writing pid number kernel stream from bytes) t.asking (free_client v kernel stream (and_parts _ _ (and_parts _ _ e).0).0)
asking_after z v (act.Append pid number kernel stream bytes) e t = asking_start z v kernel (act.Append pid number kernel stream bytes) t.asking (free_client v kernel stream (and_parts _ _ (and_parts _ _ e).0).0)
asking_after z v (act.WritingBack kernel block) e t = asking_writing_back z v kernel (held (client v kernel).blocks block.0) t.asking (client_is v kernel (and_parts (is_client v kernel) _ e).0)
asking_after z v (act.Delivering number) e t = asking_delivered z v number (find_carried v.carried number) (find_call v.calls number) refl refl t
asking_after z v (act.Expiring number) e t = t.asking

-- the two ways to say it
pub flat_asking : (z : Setting) (v : View) → EachAsks z v → FlatAsking z v
flat_asking z v f kernel i = asking_calls z kernel (client v kernel) (at_kernel v kernel).calls (things v) (f kernel i) (λ one m e. stood_self one (at_kernel v kernel).calls (filter_in (about kernel) one (things v) m (or_left (one.from == kernel) _ (eq-eqb one.from kernel e))))

each_asks : (z : Setting) (v : View) → FlatAsking z v → EachAsks z v
each_asks z v f kernel i = asking_calls z kernel (client v kernel) (things v) (at_kernel v kernel).calls (f kernel i) (λ one m e. stood_self one (things v) (in_filter (about kernel) one (things v) m).0)

pub steps_keep_asking : (z : Setting) (v : View) (step : FileStep) → Shapes v → Stamps v → EachAsks z v → EachAsks z (stepped z v step)
steps_keep_asking z v step s p f = choose_by (EachAsks z) (possible z v step) (after z v step) v (λ e. each_asks z (after z v step) (asking_after z v step (and_parts (has_room v) (may_do z v step) e).1 (record { flat = flat_of v s; stamps = flat_stamps v (flat_of v s) p; asking = flat_asking z v f }))) (λ e. f)

-- a client's moves
not_is : (b : Bool) → not b ≡ true → b ≡ false
not_is true e = absurd (cc (e))
not_is false e = refl

none_fetches : (v : View) (kernel : ℕ) → 1 ≤ kernel → has_fetch v kernel ≡ false → NoFetch v kernel
none_fetches v kernel l h x m e = elim (in_things v x m) [ inl r ↦ absurd (no_client x kernel l e (ap (λ (y : FileCall). y.from) r.makes)) | inr k ↦ by_test (is_fetch x.body) refl k ]
  where
    by_test : (b : Bool) → is_fetch x.body ≡ b → In x v.calls → b ≡ false
    by_test true f k = absurd (cc (h, found_any (λ (y : FileCall). (y.from == kernel) && is_fetch y.body) v.calls x k (and_from (x.from == kernel) (is_fetch x.body) (eq-eqb x.from kernel e) f)))
    by_test false f k = refl

none_of : (o : Option Held) → is_none o ≡ true → o ≡ None
none_of None e = refl
none_of (Some one) e = absurd (cc (e))

asking_move : (z : Setting) (v : View) (other : ClientMove) → may_move z v other ≡ true → FlatAsking z v → FlatAsking z (after_move z v other)
asking_move z v (move.Number next) e f = f
asking_move z v (move.Count kernel count) e f = let i : IsClient (length v.clients) kernel = client_is v kernel (and_parts (is_client v kernel) _ e).0 in asking_set z v kernel (record (client v kernel) { count = count }) f i (asking_waits z kernel (client v kernel) (record (client v kernel) { count = count }) (things v) (f kernel i) (record { stamp = refl; mode = refl; empty = (f kernel i).off_empty; waiting = inr (λ q. q); absent = λ n h l. (h, l) }))
asking_move z v (move.Queue step) e f = let p = and_parts (is_data step) (may_do z v step) e in asking_queue z v (kernel_of step) step f (working_client z v step p.0 p.1)
asking_move z v (move.Fetch kernel block) e f =
    let p = and_parts (is_client v kernel) _ e in
    let q = and_parts (not (has_fetch v kernel)) (may_fetch z (client v kernel) block.0) p.1 in
    let i : IsClient (length v.clients) kernel = client_is v kernel p.0 in
    let a = and_parts (is_on (client v kernel).mode) _ q.1 in
    let b = and_parts (is_any (client v kernel).waiting) _ a.1 in
    let c = and_parts (nat_lt (block.0 * z.block) (client v kernel).size) _ b.1 in
    asking_fetch z v kernel block.0 f (none_fetches v kernel i.0 (not_is (has_fetch v kernel) q.0)) b.0 a.0 (none_of (held (client v kernel).blocks block.0) c.1, ltb-true (block.0 * z.block) (client v kernel).size c.0)
asking_move z v (move.Look kernel) e f = let p = and_parts (is_client v kernel) _ e in let i : IsClient (length v.clients) kernel = client_is v kernel p.0 in asking_look z v kernel f i (none_fetches v kernel i.0 (not_is (has_fetch v kernel) p.1))
asking_move z v (move.Zeros kernel block) e f =
    let p = and_parts (is_client v kernel) _ e in
    let i : IsClient (length v.clients) kernel = client_is v kernel p.0 in
    let a = and_parts (is_on (client v kernel).mode) _ p.1 in
    let b = and_parts (is_any (client v kernel).streams) _ a.1 in
    let c = and_parts (nat_lt (block.0 * z.block) z.most) _ b.1 in
    let past = leb-true (client v kernel).size (block.0 * z.block) (and_parts (nat_le (client v kernel).size (block.0 * z.block)) _ c.1).0 in
    let new : Held = record { block = block; bytes = zeros z.block; dirty = None } in
    asking_set z v kernel (record (client v kernel) { blocks = with_block new (client v kernel).blocks }) f i (asking_waits z kernel (client v kernel) (record (client v kernel) { blocks = with_block new (client v kernel).blocks }) (things v) (f kernel i) (record {
      stamp = refl;
      mode = refl;
      empty = λ o. absurd (cc (o, a.0));
      waiting = inr (λ q. q);
      absent = λ n h l. (held_with (client v kernel).blocks new n (λ q. let same : block.0 * z.block ≡ n * z.block = ap (λ x. x * z.block) q in omega (arith, same, l, past)) ∙ h, l);
    }))
asking_move z v (move.Raise version) e f = f
asking_move z v move.Uncache e f = f

pub moves_keep_asking : (z : Setting) (v : View) (other : ClientMove) → may_move z v other ≡ true → Shapes v → EachAsks z v → EachAsks z (after_move z v other)
moves_keep_asking z v other e s f = each_asks z (after_move z v other) (asking_move z v other e (flat_asking z v f))

-- a new file
pub new_has_asking : (z : Setting) (count : ℕ) (bytes : List ℕ) → EachAsks z (new_view count bytes)
new_has_asking z count bytes kernel i = record {
  off_empty = λ e. ap (λ (c : Client). c.blocks) (client_new count bytes kernel (subst (λ n. IsClient n kernel) (count_new count bytes) i));
  one_fetch = λ x y m. absurd m;
  fetch_waits = λ x m. absurd m;
  fetch_on = λ x m. absurd m;
  fetch_absent = λ x m. absurd m;
  fetch_within = λ x m. absurd m;
  ops_off = λ x m. absurd m;
}
