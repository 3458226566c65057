-- The third layer of soundness under each step.
use Rattle.std.proofs.Common.{◌≡◌, ◌≢◌, ◌≤◌, ◌<◌, ◌⊎◌, ℕ, ◌+◌, ◌-◌, ◌==◌, nat_le, nat_lt, Bool, true, false, cond, List, [], ◌∷◌, ◌++◌, length, map, Option, Some, None, is_some, refl, sym, ap, ◌∙◌, subst, inl, inr, arith, eqb-true, leb-false}
use Rattle.std.proofs.lemmas.Bool.{and_parts}
use Rattle.sprite_ids.specs.declared.BlockNo.{BlockNo}
use Rattle.sprite_ids.specs.declared.StreamNo.{StreamNo}
use Rattle.sprite_ids.specs.declared.CallKind.{CallKind}
use Rattle.file_views.specs.declared.grant.FileGrant.{FileGrant}
use Rattle.file_views.specs.declared.body.Access.{Access}
use Rattle.file_views.specs.declared.body.Access.TheVariants as access
use Rattle.file_views.specs.declared.body.FileBody.{FileBody}
use Rattle.file_views.specs.declared.body.FileBody.TheVariants as form
use Rattle.file_views.specs.declared.client.Held.{Held}
use Rattle.file_views.specs.declared.client.Client.{Client}
use Rattle.file_views.specs.declared.call.FileCall.{FileCall}
use Rattle.file_views.specs.declared.call.Carry.{Carry}
use Rattle.file_views.specs.declared.step.FileStep.{FileStep}
use Rattle.file_views.specs.declared.step.FileStep.TheVariants as act
use Rattle.file_views.specs.declared.view.View.{View}
use Rattle.file_views.specs.Setting.{Setting}
use Rattle.file_views.specs.Clients.{is_on, missing, held, fill, wrote_back, granted, take_grant, take_callback, install, uninstall, without_block, write_cached, done_cached}
use Rattle.file_views.specs.Views.{server, client, set_client, current_stamp, find_call, find_carried, is_callback, as_call, things, begin, remove_call, without_carried}
use Rattle.file_views.specs.Data.{step_of, send_op, send_fetch, enter_cached, queue, wait_for, started, start_data, unqueue, or_zero, advance, look}
use Rattle.file_views.specs.Serving.{store_blocks, holder_answered}
use Rattle.file_views.specs.Steps.{grant_comes, request_at_client, opening_answered, move_answered, fetch_answered, write_back_answered, op_answered, flush_comes, reply_comes, carried_comes_with, call_comes, delivered, moving, writing_back_at, writing_back, after}
use Rattle.file_views.specs.Possible.{has_room, is_client, is_free, may_do, possible, stepped}
use Rattle.file_views.specs.Moves.{is_data}
use Rattle.file_views.specs.Settled.{goes_of, goes_to, arrival}
use Rattle.file_views.specs.Here.{In, IsClient, request_stamp}
use Rattle.file_views.specs.SoundShapes.{Ends, Shapes}
use Rattle.file_views.specs.SoundStamps.{Stamps}
use Rattle.file_views.proofs.MemberLaws.{found, carried_found, map_in, in_left, in_without}
use Rattle.file_views.proofs.EffectLaws.{things_without, things_uncarried, call_in_things}
use Rattle.file_views.proofs.ClientLaws.{choose, choose_by, fine_fill}
use Rattle.file_views.proofs.ShapeLaws.{flat_of, flat_client, flat_remove, flat_uncarried}
use Rattle.file_views.proofs.ShapeStepLaws.{client_is, still_client, free_client, flat_send_op, flat_send_fetch, flat_enter, flat_queue, flat_unqueue, flat_grant, flat_server}
use Rattle.file_views.proofs.StampLaws.{FlatStamps, stamps_of, flat_stamps, only_call}
use Rattle.file_views.proofs.StampChangeLaws.{stamps_client, stamps_same, stamps_begin, stamps_remove, stamps_uncarried, stamps_carried}
use Rattle.file_views.proofs.StampGrantLaws.{stamps_took, stamps_called}
use Rattle.file_views.proofs.StampServeLaws.{Two, two_resumed, two_request}

-- requests begin with their client's stamp
own_low : (n s : ℕ) → Some n ≡ Some s → s ≤ n
own_low n s e = let same : n ≡ s = cc (e) in omega (arith, same)

two_send_op : (v : View) (kernel : ℕ) (step : FileStep) → Two v → IsClient (length v.clients) kernel → is_data step ≡ true → Two (send_op v kernel step)
two_send_op v kernel (act.Reading pid number place stream from many) t i d = record { flat = flat_send_op v kernel (act.Reading pid number place stream from many) t.flat i d; stamps = stamps_begin v kernel server (form.Op pid number (client v kernel).stamp stream (access.Read from many)) None t.stamps refl (λ s e. own_low (client v kernel).stamp s e) }
two_send_op v kernel (act.Writing pid number place stream from bytes) t i d = record { flat = flat_send_op v kernel (act.Writing pid number place stream from bytes) t.flat i d; stamps = stamps_begin v kernel server (form.Op pid number (client v kernel).stamp stream (access.Write from bytes)) None t.stamps refl (λ s e. own_low (client v kernel).stamp s e) }
two_send_op v kernel (act.Append pid number place stream bytes) t i d = record { flat = flat_send_op v kernel (act.Append pid number place stream bytes) t.flat i d; stamps = stamps_begin v kernel server (form.Op pid number (client v kernel).stamp stream (access.Append bytes)) None t.stamps refl (λ s e. own_low (client v kernel).stamp s e) }
two_send_op v kernel step t i d = absurd (cc (d))

pub two_fetch : (v : View) (kernel number : ℕ) → Two v → IsClient (length v.clients) kernel → Two (send_fetch v kernel number)
two_fetch v kernel number t i = record { flat = flat_send_fetch v kernel number t.flat i; stamps = stamps_begin v kernel server (form.Fetch (client v kernel).stamp (record { 0 = number })) None t.stamps refl (λ s e. own_low (client v kernel).stamp s e) }

done_stamp : (z : Setting) (c : Client) (step : FileStep) → (done_cached z c step).stamp ≡ c.stamp
done_stamp z c (act.Writing pid number kernel stream from bytes) = refl
done_stamp z c (act.Append pid number kernel stream bytes) = choose (λ (x : Client). x.stamp ≡ c.stamp) (nat_lt z.most (c.size + length bytes)) c (write_cached z c c.size bytes) refl refl
done_stamp z c step = refl

two_enter : (z : Setting) (v : View) (kernel : ℕ) (step : FileStep) → Two v → IsClient (length v.clients) kernel → Two (enter_cached z v kernel step)
two_enter z v kernel step t i = record { flat = flat_enter z v kernel step t.flat i; stamps = stamps_client v kernel (done_cached z (client v kernel) step) t.stamps i (done_stamp z (client v kernel) step) }

pub two_queue : (v : View) (kernel : ℕ) (step : FileStep) → Two v → IsClient (length v.clients) kernel → is_data step ≡ true → Two (queue v kernel step)
two_queue v kernel step t i d = record { flat = flat_queue v kernel step t.flat i d; stamps = stamps_client v kernel (record (client v kernel) { waiting = (client v kernel).waiting ++ step ∷ [] }) t.stamps i refl }

two_unqueue : (v : View) (kernel : ℕ) (rest : List FileStep) → Two v → IsClient (length v.clients) kernel → ((s : FileStep) → In s rest → is_data s ≡ true) → Two (unqueue v kernel rest)
two_unqueue v kernel rest t i d = record { flat = flat_unqueue v kernel rest t.flat i d; stamps = stamps_client v kernel (record (client v kernel) { waiting = rest }) t.stamps i refl }

two_wait_for : (v : View) (kernel : ℕ) (step : FileStep) (number : ℕ) (waiting : List FileStep) → Two v → IsClient (length v.clients) kernel → is_data step ≡ true → Two (wait_for v kernel step number waiting)
two_wait_for v kernel step number [] t i d = two_fetch (queue v kernel step) kernel number (two_queue v kernel step t i d) (still_client v kernel kernel _ i)
two_wait_for v kernel step number (first ∷ rest) t i d = two_queue v kernel step t i d

two_started : (z : Setting) (v : View) (kernel : ℕ) (step : FileStep) (on : Bool) (gap : Option ℕ) → Two v → IsClient (length v.clients) kernel → is_data step ≡ true → Two (started z v kernel step on gap)
two_started z v kernel step false gap t i d = two_send_op v kernel step t i d
two_started z v kernel step true None t i d = two_enter z v kernel step t i
two_started z v kernel step true (Some number) t i d = two_wait_for v kernel step number (client v kernel).waiting t i d

two_start : (z : Setting) (v : View) (kernel : ℕ) (step : FileStep) → Two v → IsClient (length v.clients) kernel → is_data step ≡ true → Two (start_data z v kernel step)
two_start z v kernel step t i d = two_started z v kernel step (is_on (client v kernel).mode) (missing z (client v kernel) step) t i d

two_turn : (z : Setting) (step : FileStep) (rest : List FileStep) (v : View) (kernel : ℕ) (on gap : Bool) (number : ℕ) → Two v → IsClient (length v.clients) kernel → ((s : FileStep) → In s (step ∷ rest) → is_data s ≡ true) →
    ((w : View) → Two w → IsClient (length w.clients) kernel → Two (advance z rest w kernel)) →
    Two (cond on (cond gap (send_fetch v kernel number) (advance z rest (enter_cached z (unqueue v kernel rest) kernel step) kernel)) (advance z rest (send_op (unqueue v kernel rest) kernel step) kernel))
two_turn z step rest v kernel true true number t i d go = two_fetch v kernel number t i
two_turn z step rest v kernel true false number t i d go =
    let j : IsClient (length (unqueue v kernel rest).clients) kernel = still_client v kernel kernel _ i in
    go _ (two_enter z (unqueue v kernel rest) kernel step (two_unqueue v kernel rest t i (λ s m. d s (inr m))) j) (still_client (unqueue v kernel rest) kernel kernel _ j)
two_turn z step rest v kernel false gap number t i d go =
    let j : IsClient (length (unqueue v kernel rest).clients) kernel = still_client v kernel kernel _ i in
    go _ (two_send_op (unqueue v kernel rest) kernel step (two_unqueue v kernel rest t i (λ s m. d s (inr m))) j (d step (inl refl))) j

two_advance : (z : Setting) (waiting : List FileStep) (v : View) (kernel : ℕ) → Two v → IsClient (length v.clients) kernel → ((s : FileStep) → In s waiting → is_data s ≡ true) → Two (advance z waiting v kernel)
two_advance z [] v kernel t i d = t
two_advance z (step ∷ rest) v kernel t i d =
    two_turn z step rest v kernel (is_on (client v kernel).mode) (is_some (missing z (client v kernel) step)) (or_zero (missing z (client v kernel) step)) t i d (λ w g j. two_advance z rest w kernel g j (λ s m. d s (inr m)))

pub two_look : (z : Setting) (v : View) (kernel : ℕ) → Two v → IsClient (length v.clients) kernel → Two (look z v kernel)
two_look z v kernel t i = two_advance z (client v kernel).waiting v kernel t i (t.flat.fine kernel i).waits

-- a client takes a grant that is on its way to it
newer_or_same : (c : Client) (grant : FileGrant) → ((take_grant c grant).stamp ≡ c.stamp) ⊎ ((c.stamp < grant.stamp) × ((take_grant c grant).stamp ≡ grant.stamp))
newer_or_same c grant = by_test (nat_le grant.stamp c.stamp) refl
  where
    by_test : (b : Bool) → nat_le grant.stamp c.stamp ≡ b → ((cond b c (granted c grant)).stamp ≡ c.stamp) ⊎ ((c.stamp < grant.stamp) × ((cond b c (granted c grant)).stamp ≡ grant.stamp))
    by_test true e = inl refl
    by_test false e = inr (leb-false grant.stamp c.stamp e, refl)

-- its stamp isn't over the current one, nor that of a callback on its way
pub record Coming (v : View) (kernel : ℕ) (grant : FileGrant) : Type 0 where
  pub low : grant.stamp ≤ current_stamp v kernel
  pub differs : (x : FileCall) → In x (things v) → (stamp : ℕ) (kind : CallKind) → x.body ≡ form.Callback stamp kind → x.taken ≡ false → x.to ≡ kernel → grant.stamp ≢ stamp

stamps_take_grant : (v : View) (kernel : ℕ) (grant : FileGrant) (c : Client) → Two v → IsClient (length v.clients) kernel → Coming v kernel grant → c.stamp ≡ (take_grant (client v kernel) grant).stamp → FlatStamps (set_client v kernel c)
stamps_take_grant v kernel grant c t i h e = by_place (newer_or_same (client v kernel) grant)
  where
    same_place : (x : FileCall) → In x (things v) → is_callback x.body ≡ true → x.to - 1 ≡ kernel - 1 → x.to ≡ kernel
    same_place x m b z = let p = target_place x (only_call v x m b) b in let k = i.0 in omega (arith, z, p, k)
      where
        ends_place : (count source to : ℕ) (body : FileBody) → Ends count source to body → is_callback body ≡ true → 1 ≤ to
        ends_place count source to (form.Callback stamp kind) q r = q.1.0
        ends_place count source to body q r = absurd (cc (r))

        target_place : (y : FileCall) → In y v.calls → is_callback y.body ≡ true → 1 ≤ y.to
        target_place y n r = ends_place (length v.clients) y.from y.to y.body (t.flat.calls y n).ends r

    by_place : ((take_grant (client v kernel) grant).stamp ≡ (client v kernel).stamp) ⊎ (((client v kernel).stamp < grant.stamp) × ((take_grant (client v kernel) grant).stamp ≡ grant.stamp)) → FlatStamps (set_client v kernel c)
    by_place (inl a) = stamps_client v kernel c t.stamps i (e ∙ a)
    by_place (inr b) = stamps_took v kernel c t.stamps i (let p = b.0 in let q = b.1 in omega (arith, p, q, e)) (let q = b.1 in let l = h.low in omega (arith, q, e, l))
        (λ x m stamp kind q u z.
        let same : x.to ≡ kernel = same_place x m (ap is_callback q) z in
        let ne = h.differs x m stamp kind q u same in
        let cur : stamp ≡ current_stamp v kernel = (t.stamps.each x m).called stamp kind q ∙ ap (current_stamp v) same in
        let g = b.1 in let l = h.low in omega (arith, ne, cur, g, l, e))

pub two_grant : (v : View) (kernel : ℕ) (grant : FileGrant) → Two v → IsClient (length v.clients) kernel → Coming v kernel grant → Two (grant_comes v kernel grant)
two_grant v kernel grant t i h = record { flat = flat_grant v kernel grant t.flat i; stamps = stamps_take_grant v kernel grant (take_grant (client v kernel) grant) t i h refl }

-- a grant that a finished call brought
pub two_removed : (v : View) (one : FileCall) → Two v → In one v.calls → Two (remove_call v one.number)
two_removed v one t m = record { flat = flat_remove v one t.flat m; stamps = stamps_remove v one t.flat.numbered.differ m t.stamps }

arrived : (v : View) (one : FileCall) (grant : FileGrant) (kernel : ℕ) → Two v → In one v.calls → arrival one.reply ≡ Some grant → goes_to one ≡ kernel → Coming (remove_call v one.number) kernel grant
arrived v one grant kernel t m a g = record {
  low = subst (λ k. grant.stamp ≤ current_stamp v k) g ((t.stamps.each one (call_in_things v one m)).granted grant a);
  differs = λ x n stamp kind q u z. (t.stamps.pairs one x (call_in_things v one m) (in_without one.number x (things v) (subst (In x) (things_without v one t.flat.numbered.differ m) n)).0).callback grant a stamp kind q u (g ∙ sym z);
}

pub told_again : (v : View) (one : FileCall) (grant : FileGrant) → Two v → In one v.calls → one.reply ≡ Some (form.Again grant) → Coming (remove_call v one.number) one.from grant
told_again v one grant t m a = record {
  low = (t.stamps.each one (call_in_things v one m)).again grant a;
  differs = λ x n stamp kind q u z. (t.stamps.pairs one x (call_in_things v one m) (in_without one.number x (things v) (subst (In x) (things_without v one t.flat.numbered.differ m) n)).0).again grant a stamp kind q u (sym z);
}

-- a callback comes to a client
stamps_at_client : (z : Setting) (v : View) (one : FileCall) (body : FileBody) → one.body ≡ body → one.taken ≡ false → Two v → In one v.calls → FlatStamps (request_at_client z v one body)
stamps_at_client z v one (form.Callback stamp kind) e u t m = stamps_called v one stamp kind (take_callback (client v one.to) stamp kind) _ _ t.stamps t.flat.numbered.differ m e u (subst (Ends (length v.clients) one.from one.to) e (t.flat.calls one m).ends).1 (λ x n c. places x (only_call v x n c) c) refl
  where
    ends_place : (count source to : ℕ) (b : FileBody) → Ends count source to b → is_callback b ≡ true → 1 ≤ to
    ends_place count source to (form.Callback s k) q r = q.1.0
    ends_place count source to b q r = absurd (cc (r))

    places : (x : FileCall) → In x v.calls → is_callback x.body ≡ true → 1 ≤ x.to
    places x n c = ends_place (length v.clients) x.from x.to x.body (t.flat.calls x n).ends c
stamps_at_client z v one body e u t m = t.stamps

-- replies come
stamps_opened : (v : View) (one : FileCall) (stream : StreamNo) (reply : Option FileBody) → one.reply ≡ reply → goes_to one ≡ one.from → Two v → In one v.calls → IsClient (length v.clients) one.from → FlatStamps (opening_answered (remove_call v one.number) one.from stream reply)
stamps_opened v one stream (Some (form.Opened grant)) r g t m i = stamps_take_grant (remove_call v one.number) one.from grant (install (take_grant (client v one.from) grant) stream) (two_removed v one t m) i (arrived v one grant one.from t m (ap arrival r) g) refl
stamps_opened v one stream reply r g t m i = (two_removed v one t m).stamps

stamps_moved : (v : View) (one : FileCall) (stream : StreamNo) (place : ℕ) (kept : Bool) (grants : ℕ) (reply : Option FileBody) → one.body ≡ form.Move stream place kept grants → one.reply ≡ reply → Two v → In one v.calls → FlatStamps (move_answered (remove_call v one.number) one.number place stream reply)
stamps_moved v one stream place kept grants (Some (form.Moved grant more)) e r t m = stamps_carried v one stream place kept grants grant more t.flat.numbered.differ m e r t.stamps
stamps_moved v one stream place kept grants reply e r t m = (two_removed v one t m).stamps

stamps_fetched : (z : Setting) (v : View) (one : FileCall) (block : BlockNo) (reply : Option FileBody) → one.reply ≡ reply → Two v → In one v.calls → IsClient (length v.clients) one.from → FlatStamps (fetch_answered z (remove_call v one.number) one.from block reply)
stamps_fetched z v one block (Some (form.Block stamp piece)) r t m i =
    let u : Two (remove_call v one.number) = two_removed v one t m in
    (two_look z (set_client (remove_call v one.number) one.from (fill z (client v one.from) stamp block piece)) one.from (record { flat = flat_client (remove_call v one.number) one.from (fill z (client v one.from) stamp block piece) u.flat i (fine_fill z (client v one.from) stamp block piece (u.flat.fine one.from i)); stamps = stamps_client (remove_call v one.number) one.from (fill z (client v one.from) stamp block piece) u.stamps i refl }) (still_client (remove_call v one.number) one.from one.from _ i)).stamps
stamps_fetched z v one block (Some (form.Again grant)) r t m i = (two_look z (grant_comes (remove_call v one.number) one.from grant) one.from (two_grant (remove_call v one.number) one.from grant (two_removed v one t m) i (told_again v one grant t m r)) (still_client (remove_call v one.number) one.from one.from _ i)).stamps
stamps_fetched z v one block reply r t m i = (two_removed v one t m).stamps

stamps_back : (v : View) (one : FileCall) (stamp : ℕ) (block : BlockNo) (dirty : Option ℕ) (reply : Option FileBody) → one.reply ≡ reply → Two v → In one v.calls → IsClient (length v.clients) one.from → FlatStamps (write_back_answered (remove_call v one.number) one.from stamp block dirty reply)
stamps_back v one stamp block dirty (Some form.Done) r t m i = stamps_client (remove_call v one.number) one.from (wrote_back (client v one.from) stamp block.0 dirty) (two_removed v one t m).stamps i refl
stamps_back v one stamp block dirty (Some (form.Again grant)) r t m i = (two_grant (remove_call v one.number) one.from grant (two_removed v one t m) i (told_again v one grant t m r)).stamps
stamps_back v one stamp block dirty reply r t m i = (two_removed v one t m).stamps

stamps_operated : (z : Setting) (v : View) (one : FileCall) (step : FileStep) (reply : Option FileBody) → one.reply ≡ reply → Two v → In one v.calls → IsClient (length v.clients) one.from → is_data step ≡ true → FlatStamps (op_answered z (remove_call v one.number) one.from step reply)
stamps_operated z v one step (Some (form.Again grant)) r t m i d = (two_start z (grant_comes (remove_call v one.number) one.from grant) one.from step (two_grant (remove_call v one.number) one.from grant (two_removed v one t m) i (told_again v one grant t m r)) (still_client (remove_call v one.number) one.from one.from _ i) d).stamps
stamps_operated z v one step reply r t m i d = (two_removed v one t m).stamps

data_way : (pid number kernel : ℕ) (stream : StreamNo) (way : Access) → is_data (step_of pid number kernel stream way) ≡ true
data_way pid number kernel stream (access.Read from many) = refl
data_way pid number kernel stream (access.Write from bytes) = refl
data_way pid number kernel stream (access.Append bytes) = refl

stamps_flush : (z : Setting) (v : View) (one : FileCall) (reply : Option FileBody) → Two v → In one v.calls → FlatStamps (flush_comes z v one reply)
stamps_flush z v one (Some (form.Flushed size blocks)) t m =
    let w : View = record v { bytes = store_blocks z v.bytes size blocks; holder = holder_answered v one.to } in
    (two_resumed z (remove_call w one.number) (two_removed w one (record { flat = flat_server v (store_blocks z v.bytes size blocks) v.version (holder_answered v one.to) v.uncached v.opens v.shared t.flat; stamps = stamps_same v w refl refl refl refl refl refl t.stamps }) m)).stamps
stamps_flush z v one reply t m = t.stamps

stamps_reply : (z : Setting) (v : View) (one : FileCall) (body : FileBody) → one.body ≡ body → Two v → In one v.calls → FlatStamps (reply_comes z v one body)
stamps_reply z v one (form.Callback stamp kind) e t m = stamps_flush z v one one.reply t m
stamps_reply z v one (form.Opening pid number stream mode truncate) e t m = stamps_opened v one stream one.reply refl (ap (goes_of one.from) e) t m (subst (Ends (length v.clients) one.from one.to) e (t.flat.calls one m).ends).0
stamps_reply z v one (form.Move stream place kept grants) e t m = stamps_moved v one stream place kept grants one.reply e refl t m
stamps_reply z v one (form.Fetch stamp block) e t m = stamps_fetched z v one block one.reply refl t m (subst (Ends (length v.clients) one.from one.to) e (t.flat.calls one m).ends).0
stamps_reply z v one (form.WriteBack stamp block size piece) e t m = stamps_back v one stamp block one.dirty one.reply refl t m (subst (Ends (length v.clients) one.from one.to) e (t.flat.calls one m).ends).0
stamps_reply z v one (form.Op pid number stamp stream way) e t m = stamps_operated z v one (step_of pid number one.from stream way) one.reply refl t m (subst (Ends (length v.clients) one.from one.to) e (t.flat.calls one m).ends).0 (data_way pid number one.from stream way)
stamps_reply z v one body e t m = (two_removed v one t m).stamps

stamps_call : (z : Setting) (v : View) (one : FileCall) (taken atserver : Bool) → one.taken ≡ taken → (one.to == server) ≡ atserver → Two v → In one v.calls → FlatStamps (call_comes z v one taken atserver)
stamps_call z v one true atserver u e t m = stamps_reply z v one one.body refl t m
stamps_call z v one false true u e t m = (two_request z v one t m (eqb-true one.to server e)).stamps
stamps_call z v one false false u e t m = stamps_at_client z v one one.body refl u t m

stamps_carried_comes : (v : View) (one : Carry) (grant : Option FileGrant) → one.grant ≡ grant → Two v → In one v.carried → FlatStamps (carried_comes_with (record v { carried = without_carried one.call v.carried }) one grant)
stamps_carried_comes v one (Some grant) e t m =
    let there : In (as_call one) (things v) = in_left (as_call one) (map as_call v.carried) v.calls (map_in as_call one v.carried m) in
    stamps_take_grant (record v { carried = without_carried one.call v.carried }) one.to grant (install (take_grant (client v one.to) grant) one.stream)
    (record { flat = flat_uncarried v one t.flat m; stamps = stamps_uncarried v one t.flat.numbered.differ m t.stamps }) (t.flat.carried one m).client
    (record { low = (t.stamps.each (as_call one) there).granted grant e; differs = λ x n stamp kind q u z. (t.stamps.pairs (as_call one) x there (in_without one.call x (things v) (subst (In x) (things_uncarried v one t.flat.numbered.differ m) n)).0).callback grant e stamp kind q u (sym z) }) refl
stamps_carried_comes v one None e t m = stamps_uncarried v one t.flat.numbered.differ m t.stamps

stamps_delivered : (z : Setting) (v : View) (number : ℕ) (carried : Option Carry) (call : Option FileCall) → find_carried v.carried number ≡ carried → find_call v.calls number ≡ call → Two v → FlatStamps (delivered z v carried call)
stamps_delivered z v number (Some one) call e k t = stamps_carried_comes v one one.grant refl t (carried_found v.carried number one e).0
stamps_delivered z v number None (Some one) e k t = stamps_call z v one one.taken (one.to == server) refl refl t (found v.calls number one k).0
stamps_delivered z v number None None e k t = t.stamps

-- what a client begins
stamps_leaves : (v : View) (kernel : ℕ) (stream : StreamNo) (body : FileBody) → Two v → IsClient (length v.clients) kernel → is_callback body ≡ false → request_stamp body ≡ None → FlatStamps (begin (set_client v kernel (uninstall (client v kernel) stream)) kernel server body None)
stamps_leaves v kernel stream body t i c n = stamps_begin (set_client v kernel (uninstall (client v kernel) stream)) kernel server body None (stamps_client v kernel (uninstall (client v kernel) stream) t.stamps i refl) c (λ s q. absurd (cc (n, q)))

stamps_moving : (v : View) (stream : StreamNo) (source place : ℕ) (kept : Bool) → Two v → IsClient (length v.clients) source → FlatStamps (moving v stream source place kept)
stamps_moving v stream source place true t i = stamps_begin v source server (form.Move stream place true 0) None t.stamps refl (λ s q. absurd (cc (q)))
stamps_moving v stream source place false t i = stamps_leaves v source stream _ t i refl refl

stamps_back_at : (z : Setting) (v : View) (kernel : ℕ) (one : Held) (dirty : Option ℕ) → Two v → IsClient (length v.clients) kernel → FlatStamps (writing_back_at z v kernel one dirty)
stamps_back_at z v kernel one None t i = stamps_client v kernel (record (client v kernel) { blocks = without_block one.block.0 (client v kernel).blocks }) t.stamps i refl
stamps_back_at z v kernel one (Some dirty) t i = stamps_begin v kernel server _ (Some dirty) t.stamps refl (λ s q. own_low (client v kernel).stamp s q)

stamps_writing_back : (z : Setting) (v : View) (kernel : ℕ) (o : Option Held) → Two v → IsClient (length v.clients) kernel → FlatStamps (writing_back z v kernel o)
stamps_writing_back z v kernel (Some one) t i = stamps_back_at z v kernel one one.dirty t i
stamps_writing_back z v kernel None t i = t.stamps

stamps_after : (z : Setting) (v : View) (step : FileStep) → may_do z v step ≡ true → Two v → FlatStamps (after z v step)
stamps_after z v (act.Opening pid number kernel stream mode truncate) e t = stamps_begin v kernel server (form.Opening pid number stream mode truncate) None t.stamps refl (λ s q. absurd (cc (q)))
stamps_after z v (act.Closing kernel stream) e t = stamps_leaves v kernel stream _ t (free_client v kernel stream e) refl refl
stamps_after z v (act.Moving stream source place kept) e t = stamps_moving v stream source place kept t (free_client v source stream (and_parts (is_free v source stream) _ e).0)
stamps_after z v (act.Reading pid number kernel stream from many) e t = (two_start z v kernel (act.Reading pid number kernel stream from many) t (free_client v kernel stream (and_parts _ _ (and_parts _ _ e).0).0) refl).stamps
stamps_after z v (act.Writing pid number kernel stream from bytes) e t = (two_start z v kernel (act.Writing pid number kernel stream from bytes) t (free_client v kernel stream (and_parts _ _ (and_parts _ _ e).0).0) refl).stamps
stamps_after z v (act.Append pid number kernel stream bytes) e t = (two_start z v kernel (act.Append pid number kernel stream bytes) t (free_client v kernel stream (and_parts _ _ (and_parts _ _ e).0).0) refl).stamps
stamps_after z v (act.WritingBack kernel block) e t = stamps_writing_back z v kernel (held (client v kernel).blocks block.0) t (client_is v kernel (and_parts (is_client v kernel) _ e).0)
stamps_after z v (act.Delivering number) e t = stamps_delivered z v number (find_carried v.carried number) (find_call v.calls number) refl refl t
stamps_after z v (act.Expiring number) e t = t.stamps

pub steps_keep_stamps : (z : Setting) (v : View) (step : FileStep) → Shapes v → Stamps v → Stamps (stepped z v step)
steps_keep_stamps z v step s p = choose_by Stamps (possible z v step) (after z v step) v (λ e. stamps_of (after z v step) (stamps_after z v step (and_parts (has_room v) (may_do z v step) e).1 (record { flat = flat_of v s; stamps = flat_stamps v (flat_of v s) p }))) (λ e. p)
