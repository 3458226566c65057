-- The sixth layer of soundness under each step and each move of a client, and of a new file.
use Rattle.std.proofs.Common.{◌≡◌, ◌≤◌, ◌<◌, ◌⊎◌, ℕ, ◌-◌, ◌==◌, nat_le, Bool, true, false, not, ◌&&◌, ◌||◌, is_some, List, [], ◌∷◌, ◌++◌, length, map, filter, Option, Some, None, refl, sym, ap, ◌∙◌, subst, inl, inr, arith, eqb-true, leb-true, append-nil}
use Rattle.std.proofs.lemmas.Bool.{and_parts}
use Rattle.std.proofs.lemmas.Bool.Decides.{eqb_tells}
use Rattle.std.proofs.lemmas.List.{get_or-replicate}
use Rattle.sprite_ids.specs.declared.CacheMode.TheVariants as cache
use Rattle.sprite_ids.specs.declared.BlockNo.{BlockNo}
use Rattle.sprite_ids.specs.declared.StreamNo.{StreamNo}
use Rattle.sprite_ids.specs.declared.Mode.{Mode}
use Rattle.sprite_ids.specs.declared.CallKind.{CallKind}
use Rattle.file_views.specs.declared.grant.FileGrant.{FileGrant}
use Rattle.file_views.specs.declared.body.FileBody.{FileBody}
use Rattle.file_views.specs.declared.body.FileBody.TheVariants as form
use Rattle.file_views.specs.declared.client.Held.{Held}
use Rattle.file_views.specs.declared.client.Client.{Client}
use Rattle.file_views.specs.declared.call.FileCall.{FileCall}
use Rattle.file_views.specs.declared.call.Carry.{Carry}
use Rattle.file_views.specs.declared.step.FileStep.{FileStep}
use Rattle.file_views.specs.declared.step.FileStep.TheVariants as act
use Rattle.file_views.specs.declared.moves.ClientMove.{ClientMove}
use Rattle.file_views.specs.declared.moves.ClientMove.TheVariants as move
use Rattle.file_views.specs.declared.view.View.{View}
use Rattle.file_views.specs.Setting.{Setting}
use Rattle.file_views.specs.Contents.{zeros}
use Rattle.file_views.specs.Streams.{same_stream, has_stream}
use Rattle.file_views.specs.Clients.{new_client, is_on, held, same_number, take_grant, blocks_filled, fill, blocks_written_back, wrote_back, install, uninstall, without_block, with_block, cleaned}
use Rattle.file_views.specs.Views.{server, new_view, client, set_client, current_stamp, is_holder, find_call, find_carried, remove_call, is_callback, as_call, things, busy, waiting_calls, without_call, without_carried}
use Rattle.file_views.specs.Grants.{asks}
use Rattle.file_views.specs.Data.{step_of, start_data, look}
use Rattle.file_views.specs.Serving.{store_blocks, holder_answered}
use Rattle.file_views.specs.Steps.{grant_comes, request_at_client, opening_answered, move_answered, fetch_answered, write_back_answered, op_answered, flush_comes, reply_comes, carried_comes_with, call_comes, delivered, moving, writing_back_at, writing_back, after}
use Rattle.file_views.specs.Possible.{has_room, is_client, is_free, is_due, may_do, possible, stepped}
use Rattle.file_views.specs.Moves.{kernel_of, is_data, may_move, after_move}
use Rattle.file_views.specs.Settled.{goes_of, goes_to, arrival}
use Rattle.file_views.specs.Here.{In, IsClient, Arrives, asked_stream}
use Rattle.file_views.specs.SoundShapes.{Ends, Answers, Shapes}
use Rattle.file_views.specs.SoundStreams.{Streams}
use Rattle.file_views.specs.SoundStamps.{Stamps}
use Rattle.file_views.specs.SoundDecisions.{Decisions}
use Rattle.file_views.specs.SoundModes.{Modes}
use Rattle.file_views.specs.SoundHolders.{Holders}
use Rattle.file_views.proofs.MemberLaws.{found, carried_found, map_in, in_left, in_right, in_join, in_last, last_in, in_filter, in_without, without_in}
use Rattle.file_views.proofs.EffectLaws.{Apart, client_set, things_without, things_uncarried, call_in_things, same_thing}
use Rattle.file_views.proofs.ClientLaws.{choose, choose_by, fine_fill}
use Rattle.file_views.proofs.CountLaws.{same_is}
use Rattle.file_views.proofs.ShapeLaws.{Flat, flat_client, in_middle, things_carried}
use Rattle.file_views.proofs.ShapeStepLaws.{client_is, still_client, free_client, flat_server, calls_apart, ends_no_callback}
use Rattle.file_views.proofs.ShapeMoveLaws.{working_client, client_new, count_new}
use Rattle.file_views.proofs.StreamLaws.{StepOpen}
use Rattle.file_views.proofs.StreamChangeLaws.{streams_client, streams_same}
use Rattle.file_views.proofs.StreamServeLaws.{Both, quiet}
use Rattle.file_views.proofs.StreamStepLaws.{take_streams, both_grant}
use Rattle.file_views.proofs.StreamReplyLaws.{both_quiet, data_open}
use Rattle.file_views.proofs.StampLaws.{own_stamp}
use Rattle.file_views.proofs.StampChangeLaws.{NoCall, no_call_thing, stamps_client, stamps_same, stamps_remove}
use Rattle.file_views.proofs.StampServeLaws.{Two, idle}
use Rattle.file_views.proofs.StampStepLaws.{two_grant, two_removed, told_again}
use Rattle.file_views.proofs.DecisionLaws.{Asking, same_first, Holds, holds_server, back_self, asking_more, waiting_without}
use Rattle.file_views.proofs.DecisionServeLaws.{Found, any_found, found_any}
use Rattle.file_views.proofs.DecisionStepLaws.{decisions_client, decisions_remove, answered_waits}
use Rattle.file_views.proofs.ModeStepLaws.{Standing, standing_of, brings_none, unanswered, modes_finished}
use Rattle.file_views.proofs.HolderLaws.{Ways, DirtyIn, seat, FlatHolders, flat_holders, holders_of}
use Rattle.file_views.proofs.HolderGiveLaws.{holders_idle}
use Rattle.file_views.proofs.HolderChangeLaws.{ways_self, ways_without, ways_reads, holders_calls, holders_mild, holders_takes}
use Rattle.file_views.proofs.HolderSettleLaws.{is_holder_by, not_holder}
use Rattle.file_views.proofs.HolderServeLaws.{holders_request, holders_flushed_by}
use Rattle.file_views.proofs.HolderDataLaws.{Knowing, able_of, holders_begin, holders_queue, holders_fetch, holders_start, holders_look, holders_called_back}

-- the first six layers
pub record Whole (z : Setting) (v : View) : Type 0 where
  pub standing : Standing z v
  pub holders : FlatHolders v

-- blocks that are no dirtier
dirty_filter : (p : Held → Bool) (blocks : List Held) → DirtyIn (filter p blocks) → DirtyIn blocks
dirty_filter p blocks d = record { one = d.one; there = (in_filter p d.one blocks d.there).0; dirty = d.dirty }

dirty_with : (new : Held) (blocks : List Held) → new.dirty ≡ None → DirtyIn (with_block new blocks) → DirtyIn blocks
dirty_with new blocks n d = elim (in_last d.one new (without_block new.block.0 blocks) d.there) [
  | inl k ↦ record { one = d.one; there = (in_filter (λ (x : Held). not (x.block.0 == new.block.0)) d.one blocks k).0; dirty = d.dirty }
  | inr q ↦ absurd (cc (n, d.dirty, ap (λ (x : Held). x.dirty) q))
]

dirty_filled : (z : Setting) (blocks : List Held) (block : BlockNo) (piece : List ℕ) (b : Bool) → DirtyIn (blocks_filled z blocks block piece b) → DirtyIn blocks
dirty_filled z blocks block piece true d = dirty_with _ blocks refl d
dirty_filled z blocks block piece false d = d

dirty_back : (blocks : List Held) (dirty : Option ℕ) (b : Bool) (o : Option Held) → DirtyIn (blocks_written_back blocks dirty b o) → DirtyIn blocks
dirty_back blocks dirty b (Some one) = choose (λ (xs : List Held). DirtyIn xs → DirtyIn blocks) (b && same_number one.dirty dirty) (with_block (cleaned one) blocks) blocks (dirty_with (cleaned one) blocks refl) (λ d. d)
dirty_back blocks dirty b None = λ d. d

-- a call that brings nothing is finished
pub no_arrival : (v : View) (one : FileCall) → Flat v → In one v.calls → asks one.body ≡ false → arrival one.reply ≡ None
no_arrival v one f m n = by_reply one.reply refl
  where
    by_reply : (reply : Option FileBody) → one.reply ≡ reply → arrival reply ≡ None
    by_reply (Some reply) r = brings_none one.body reply ((f.calls one m).fits reply r) n
    by_reply None r = refl

holders_removed : (v : View) (one : FileCall) → Flat v → FlatHolders v → In one v.calls → asks one.body ≡ false → is_callback one.body ≡ false → FlatHolders (remove_call v one.number)
holders_removed v one f p m a c = holders_calls v v.bytes v.next (without_call one.number v.calls) v.carried v.uncached p (λ e. e)
    (λ kernel i. subst (Ways kernel (own_stamp v kernel) (is_holder v kernel) (things v)) (sym (things_without v one f.numbered.differ m)) (ways_without v kernel (own_stamp v kernel) (is_holder v kernel) one f.numbered.differ (call_in_things v one m) (λ g b. absurd (cc (b.1, no_arrival v one f m a))) (λ h b e. cc (b, c))))

-- one more stream installed
installed_more : (streams : List StreamNo) (stream s : StreamNo) → has_stream s (streams ++ stream ∷ []) ≡ true → (has_stream s streams ≡ true) ⊎ (stream ≡ s)
installed_more streams stream s h =
    let x : Found (same_stream s) (streams ++ stream ∷ []) = any_found (same_stream s) (streams ++ stream ∷ []) h in
    elim (in_last x.item stream streams x.there) [ inl k ↦ inl (found_any (same_stream s) streams x.item k x.holds) | inr q ↦ inr (sym (same_is s x.item x.holds ∙ q)) ]

fewer_installed : (streams : List StreamNo) (stream s : StreamNo) → has_stream s (filter (λ other. not (same_stream stream other)) streams) ≡ true → has_stream s streams ≡ true
fewer_installed streams stream s h =
    let x : Found (same_stream s) (filter (λ other. not (same_stream stream other)) streams) = any_found (same_stream s) (filter (λ other. not (same_stream stream other)) streams) h in
    found_any (same_stream s) streams x.item (in_filter (λ other. not (same_stream stream other)) x.item streams x.there).0 x.holds

-- a grant comes with a stream
holders_arrives : (z : Setting) (v : View) (one : FileCall) (kernel : ℕ) (grant : FileGrant) (stream : StreamNo) → Whole z v → In one v.calls → IsClient (length v.clients) kernel → goes_to one ≡ kernel → arrival one.reply ≡ Some grant → is_callback one.body ≡ false → asked_stream one.body ≡ Some stream → FlatHolders (set_client (remove_call v one.number) kernel (install (take_grant (client v kernel) grant) stream))
holders_arrives z v one kernel grant stream t m i g a n q = holders_takes v (without_call one.number v.calls) v.carried one kernel grant (install (take_grant (client v kernel) grant) stream) (record {
  there = call_in_things v one m;
  left = things_without v one t.standing.flat.numbered.differ m;
  plain = n;
  stamp = refl;
  version = refl;
  mode = refl;
  blocks = refl;
  low = subst (λ k. grant.stamp ≤ current_stamp v k) g ((t.standing.stamps.each one (call_in_things v one m)).granted grant a);
  source = λ l. record { call = one; newer = grant; is_newer = (call_in_things v one m, (g, a), l); same = refl };
  lost = λ place other b. (sym b.0 ∙ g, same_stamp other b.1);
  streams = λ s h. elim (installed_more (take_grant (client v kernel) grant).streams stream s h) [ inl k ↦ inl (subst (λ xs. has_stream s xs ≡ true) (take_streams (client v kernel) grant) k) | inr e ↦ inr ((g, a), q ∙ ap Some e) ];
}) t.standing.flat t.standing.streams t.standing.stamps t.standing.modes t.holders i
  where
    same_stamp : (other : FileGrant) → arrival one.reply ≡ Some other → other.stamp ≡ grant.stamp
    same_stamp other b = let e : other ≡ grant = cc (a, b) in ap (λ (x : FileGrant). x.stamp) e

holders_arrives_carried : (z : Setting) (v : View) (carry : Carry) (grant : FileGrant) → Whole z v → In carry v.carried → carry.grant ≡ Some grant → FlatHolders (set_client (record v { carried = without_carried carry.call v.carried }) carry.to (install (take_grant (client v carry.to) grant) carry.stream))
holders_arrives_carried z v carry grant t m a = holders_takes v v.calls (without_carried carry.call v.carried) (as_call carry) carry.to grant (install (take_grant (client v carry.to) grant) carry.stream) (record {
  there = there;
  left = things_uncarried v carry t.standing.flat.numbered.differ m;
  plain = refl;
  stamp = refl;
  version = refl;
  mode = refl;
  blocks = refl;
  low = (t.standing.stamps.each (as_call carry) there).granted grant a;
  source = λ l. record { call = as_call carry; newer = grant; is_newer = (there, (refl, a), l); same = refl };
  lost = λ place other b. (sym b.0, same_stamp other b.1);
  streams = λ s h. elim (installed_more (take_grant (client v carry.to) grant).streams carry.stream s h) [ inl k ↦ inl (subst (λ xs. has_stream s xs ≡ true) (take_streams (client v carry.to) grant) k) | inr e ↦ inr ((refl, a), ap Some e) ];
}) t.standing.flat t.standing.streams t.standing.stamps t.standing.modes t.holders (t.standing.flat.carried carry m).client
  where
    there : In (as_call carry) (things v)
    there = in_left (as_call carry) (map as_call v.carried) v.calls (map_in as_call carry v.carried m)

    same_stamp : (other : FileGrant) → carry.grant ≡ Some other → other.stamp ≡ grant.stamp
    same_stamp other b = let e : other ≡ grant = cc (a, b) in ap (λ (x : FileGrant). x.stamp) e

-- an Again comes
holders_again : (z : Setting) (v : View) (one : FileCall) (grant : FileGrant) → Whole z v → In one v.calls → is_callback one.body ≡ false → IsClient (length v.clients) one.from → one.reply ≡ Some (form.Again grant) → FlatHolders (grant_comes (remove_call v one.number) one.from grant)
holders_again z v one grant t m n i r = holders_takes v (without_call one.number v.calls) v.carried one one.from grant (take_grant (client v one.from) grant) (record {
  there = call_in_things v one m;
  left = things_without v one t.standing.flat.numbered.differ m;
  plain = n;
  stamp = refl;
  version = refl;
  mode = refl;
  blocks = refl;
  low = (t.standing.stamps.each one (call_in_things v one m)).again grant r;
  source = λ l. (t.standing.modes one.from i).again one (call_in_things v one m) refl grant r l;
  lost = λ place other b. absurd (cc (b.1, ap arrival r));
  streams = λ s h. inl (subst (λ xs. has_stream s xs ≡ true) (take_streams (client v one.from) grant) h);
}) t.standing.flat t.standing.streams t.standing.stamps t.standing.modes t.holders i

pub knowing_again : (z : Setting) (v : View) (one : FileCall) (grant : FileGrant) → Whole z v → In one v.calls → is_callback one.body ≡ false → quiet one.body ≡ true → IsClient (length v.clients) one.from → one.reply ≡ Some (form.Again grant) → Knowing z (grant_comes (remove_call v one.number) one.from grant)
knowing_again z v one grant t m n q i r =
    let two : Two v = record { flat = t.standing.flat; stamps = t.standing.stamps } in
    let b : Both (grant_comes (remove_call v one.number) one.from grant) = both_grant (remove_call v one.number) one.from grant (both_quiet v one one.body refl q (record { flat = t.standing.flat; streams = t.standing.streams }) m) i in
    record {
      flat = b.flat;
      streams = b.streams;
      stamps = (two_grant (remove_call v one.number) one.from grant (two_removed v one two m) i (told_again v one grant two m r)).stamps;
      decided = decisions_client z (remove_call v one.number) one.from (take_grant (client v one.from) grant) (decisions_remove z v one t.standing.flat m (ap is_some r) n t.standing.decided);
      holders = holders_again z v one grant t m n i r;
    }

pub knowing_filled : (z : Setting) (v : View) (one : FileCall) (stamp : ℕ) (block : BlockNo) (piece : List ℕ) → Whole z v → In one v.calls → is_some one.reply ≡ true → is_callback one.body ≡ false → quiet one.body ≡ true → asks one.body ≡ false → IsClient (length v.clients) one.from → Knowing z (set_client (remove_call v one.number) one.from (fill z (client v one.from) stamp block piece))
knowing_filled z v one stamp block piece t m s n q a i =
    let two : Two (remove_call v one.number) = two_removed v one (record { flat = t.standing.flat; stamps = t.standing.stamps }) m in
    let b : Both (remove_call v one.number) = both_quiet v one one.body refl q (record { flat = t.standing.flat; streams = t.standing.streams }) m in
    record {
      flat = flat_client (remove_call v one.number) one.from (fill z (client v one.from) stamp block piece) b.flat i (fine_fill z (client v one.from) stamp block piece (b.flat.fine one.from i));
      streams = streams_client (remove_call v one.number) one.from (fill z (client v one.from) stamp block piece) b.streams i refl (λ x k. k);
      stamps = stamps_client (remove_call v one.number) one.from (fill z (client v one.from) stamp block piece) two.stamps i refl;
      decided = decisions_client z (remove_call v one.number) one.from (fill z (client v one.from) stamp block piece) (decisions_remove z v one t.standing.flat m s n t.standing.decided);
      holders = holders_mild (remove_call v one.number) one.from (fill z (client v one.from) stamp block piece) (holders_removed v one t.standing.flat t.holders m a n) i refl refl refl (λ x h. h) (λ d. dirty_filled z (client v one.from).blocks block piece _ d);
    }

look_able : (z : Setting) (v : View) (kernel : ℕ) → Knowing z v → IsClient (length v.clients) kernel → FlatHolders (look z v kernel)
look_able z v kernel k i = holders_look z v kernel k.holders i (able_of z v k kernel i (client v kernel).waiting (k.streams.rest.waits kernel i))

-- replies come
holders_opened : (z : Setting) (v : View) (one : FileCall) (pid number : ℕ) (stream : StreamNo) (mode : Mode) (truncate : Bool) (reply : Option FileBody) → one.body ≡ form.Opening pid number stream mode truncate → one.reply ≡ reply → is_some one.reply ≡ true → Whole z v → In one v.calls → IsClient (length v.clients) one.from → FlatHolders (opening_answered (remove_call v one.number) one.from stream reply)
holders_opened z v one pid number stream mode truncate (Some (form.Opened grant)) e r s t m i = holders_arrives z v one one.from grant stream t m i (ap (goes_of one.from) e) (ap arrival r) (ap is_callback e) (ap asked_stream e)
holders_opened z v one pid number stream mode truncate (Some reply) e r s t m i = absurd (subst (λ x. Answers x reply) e ((t.standing.flat.calls one m).fits reply r))
holders_opened z v one pid number stream mode truncate None e r s t m i = absurd (cc (r, s))

holders_moved : (z : Setting) (v : View) (one : FileCall) (stream : StreamNo) (place : ℕ) (kept : Bool) (grants : ℕ) (reply : Option FileBody) → one.body ≡ form.Move stream place kept grants → one.reply ≡ reply → is_some one.reply ≡ true → Whole z v → In one v.calls → FlatHolders (move_answered (remove_call v one.number) one.number place stream reply)
holders_moved z v one stream place kept grants (Some (form.Moved grant more)) e r s t m = holders_calls v v.bytes v.next (without_call one.number v.calls) (v.carried ++ carry ∷ []) v.uncached t.holders (λ q. q) (λ kernel i. ways_reads kernel (own_stamp v kernel) (is_holder v kernel) (things v) (things w) (as_call carry) one
    (record { number_is = refl; goes_is = sym (ap (goes_of one.from) e); arrival_is = sym (ap arrival r); no_call = refl; no_again = λ g a. absurd (cc (a)); request_is = λ stamp q. absurd (cc (q)) }) (sym (ap asked_stream e)) (ap is_callback e) (call_in_things v one m)
    (subst (In (as_call carry)) (sym now) (in_left (as_call carry) (map as_call v.carried ++ as_call carry ∷ []) (without_call one.number v.calls) (last_in (as_call carry) (map as_call v.carried))))
    (λ x n. elim (in_middle x (as_call carry) (map as_call v.carried) (without_call one.number v.calls) (subst (In x) now n)) [ inl k ↦ inl (in_without one.number x (things v) (subst (In x) (things_without v one u m) k)).0 | inr q ↦ inr q ])
    (λ x n. elim (eqb_tells x.number one.number) [
      | inl a ↦ inr (same_thing v x one u n (call_in_things v one m) a.1)
      | inr b ↦ inl (subst (In x) (sym now) (middle_in x (as_call carry) (map as_call v.carried) (without_call one.number v.calls) (subst (In x) (sym (things_without v one u m)) (without_in one.number x (things v) n b.1))))
    ]))
  where
    u : Apart v
    u = t.standing.flat.numbered.differ

    carry : Carry
    carry = record { call = one.number; to = place; stream = stream; grant = grant }

    w : View
    w = record (remove_call v one.number) { carried = v.carried ++ carry ∷ [] }

    now : things w ≡ (map as_call v.carried ++ as_call carry ∷ []) ++ without_call one.number v.calls
    now = things_carried (remove_call v one.number) carry

    middle_in : (x y : FileCall) (xs ys : List FileCall) → In x (xs ++ ys) → In x ((xs ++ y ∷ []) ++ ys)
    middle_in x y xs ys k = elim (in_join x xs ys k) [ inl a ↦ in_left x (xs ++ y ∷ []) ys (in_left x xs (y ∷ []) a) | inr b ↦ in_right x (xs ++ y ∷ []) ys b ]
holders_moved z v one stream place kept grants (Some reply) e r s t m = absurd (subst (λ x. Answers x reply) e ((t.standing.flat.calls one m).fits reply r))
holders_moved z v one stream place kept grants None e r s t m = absurd (cc (r, s))

holders_fetched : (z : Setting) (v : View) (one : FileCall) (stamp : ℕ) (block : BlockNo) (reply : Option FileBody) → one.body ≡ form.Fetch stamp block → one.reply ≡ reply → is_some one.reply ≡ true → Whole z v → In one v.calls → IsClient (length v.clients) one.from → FlatHolders (fetch_answered z (remove_call v one.number) one.from block reply)
holders_fetched z v one stamp block (Some (form.Block other piece)) e r s t m i = look_able z (set_client (remove_call v one.number) one.from (fill z (client v one.from) other block piece)) one.from (knowing_filled z v one other block piece t m s (ap is_callback e) (ap quiet e) (ap asks e) i) (still_client (remove_call v one.number) one.from one.from _ i)
holders_fetched z v one stamp block (Some (form.Again grant)) e r s t m i = look_able z (grant_comes (remove_call v one.number) one.from grant) one.from (knowing_again z v one grant t m (ap is_callback e) (ap quiet e) i r) (still_client (remove_call v one.number) one.from one.from _ i)
holders_fetched z v one stamp block reply e r s t m i = holders_removed v one t.standing.flat t.holders m (ap asks e) (ap is_callback e)

holders_back : (z : Setting) (v : View) (one : FileCall) (stamp : ℕ) (block : BlockNo) (reply : Option FileBody) → asks one.body ≡ false → is_callback one.body ≡ false → one.reply ≡ reply → Whole z v → In one v.calls → IsClient (length v.clients) one.from → FlatHolders (write_back_answered (remove_call v one.number) one.from stamp block one.dirty reply)
holders_back z v one stamp block (Some form.Done) a c r t m i = holders_mild (remove_call v one.number) one.from (wrote_back (client v one.from) stamp block.0 one.dirty) (holders_removed v one t.standing.flat t.holders m a c) i refl refl refl (λ s h. h) (λ d. dirty_back (client v one.from).blocks one.dirty (stamp == (client v one.from).stamp) (held (client v one.from).blocks block.0) d)
holders_back z v one stamp block (Some (form.Again grant)) a c r t m i = holders_again z v one grant t m c i r
holders_back z v one stamp block reply a c r t m i = holders_removed v one t.standing.flat t.holders m a c

holders_operated : (z : Setting) (v : View) (one : FileCall) (step : FileStep) (reply : Option FileBody) → asks one.body ≡ false → is_callback one.body ≡ false → quiet one.body ≡ true → one.reply ≡ reply → Whole z v → In one v.calls → IsClient (length v.clients) one.from → StepOpen one.from (client v one.from).streams v.opens step → FlatHolders (op_answered z (remove_call v one.number) one.from step reply)
holders_operated z v one step (Some (form.Again grant)) a c q r t m i o =
    let w : View = grant_comes (remove_call v one.number) one.from grant in
    let j : IsClient (length w.clients) one.from = still_client (remove_call v one.number) one.from one.from _ i in
    let k : Knowing z w = knowing_again z v one grant t m c q i r in
    let same : (client w one.from).streams ≡ (client v one.from).streams = ap (λ (x : Client). x.streams) (client_set (remove_call v one.number) one.from (take_grant (client v one.from) grant) i) ∙ take_streams (client v one.from) grant in
    holders_start z w one.from step j k.holders (able_of z w k one.from j (step ∷ []) (λ s n. elim n [ inl e ↦ subst (λ x. StepOpen one.from (client w one.from).streams v.opens x) (sym e) (subst (λ xs. StepOpen one.from xs v.opens step) (sym same) o) | inr e ↦ absurd e ]))
holders_operated z v one step reply a c q r t m i o = holders_removed v one t.standing.flat t.holders m a c

holders_flush : (z : Setting) (v : View) (one : FileCall) (stamp : ℕ) (kind : CallKind) (reply : Option FileBody) → one.body ≡ form.Callback stamp kind → is_some one.reply ≡ true → Whole z v → In one v.calls → one.taken ≡ true → IsClient (length v.clients) one.to → FlatHolders (flush_comes z v one reply)
holders_flush z v one stamp kind (Some (form.Flushed size blocks)) e s t m k i =
    let u : View = record v { bytes = store_blocks z v.bytes size blocks; holder = holder_answered v one.to } in
    let w : View = remove_call u one.number in
    let h : Holds v w = holds_server v w refl refl refl refl refl in
    let flat : Flat u = flat_server v (store_blocks z v.bytes size blocks) v.version (holder_answered v one.to) v.uncached v.opens v.shared t.standing.flat in
    let both : Both w = both_quiet u one (form.Callback stamp kind) e refl (record { flat = flat; streams = streams_same v u refl refl refl refl refl t.standing.streams }) m in
    let waiting : waiting_calls w ≡ waiting_calls v = waiting_without v.calls one (calls_apart v t.standing.flat.numbered.differ) m (answered_waits one s) in
    elim t.standing.decided.queues [
      | inl a ↦ absurd (cc (a.0 one m, ap is_callback e))
      | inr b ↦ (
          let next : Asking z w = asking_more z v w h [] (waiting ∙ sym (append-nil (waiting_calls v))) (λ x j c. back_self v.calls x (in_without one.number x v.calls j).0) b.1 in
          holders_flushed_by z v one (store_blocks z v.bytes size blocks) stamp kind (record { flat = t.standing.flat; stamps = t.standing.stamps; modes = t.standing.modes; holders = t.holders; ruled = t.standing.decided.ruled; there = m; is_call = e; taken = k }) i b.1 both
          (stamps_remove u one t.standing.flat.numbered.differ m (stamps_same v u refl refl refl refl refl refl t.standing.stamps))
          next (same_first next.first b.1.first next.rest b.1.rest (sym next.waiting ∙ waiting ∙ b.1.waiting))
          (modes_finished z v one t.standing m k (ap asks e)).modes)
    ]
holders_flush z v one stamp kind reply e s t m k i = t.holders

sender_of : (z : Setting) (v : View) (one : FileCall) (body : FileBody) → one.body ≡ body → Whole z v → In one v.calls → Ends (length v.clients) one.from one.to body
sender_of z v one body e t m = subst (Ends (length v.clients) one.from one.to) e (t.standing.flat.calls one m).ends

holders_reply : (z : Setting) (v : View) (one : FileCall) (body : FileBody) → one.body ≡ body → is_some one.reply ≡ true → Whole z v → In one v.calls → one.taken ≡ true → FlatHolders (reply_comes z v one body)
holders_reply z v one (form.Callback stamp kind) e s t m k = holders_flush z v one stamp kind one.reply e s t m k (sender_of z v one _ e t m).1
holders_reply z v one (form.Opening pid number stream mode truncate) e s t m k = holders_opened z v one pid number stream mode truncate one.reply e refl s t m (sender_of z v one _ e t m).0
holders_reply z v one (form.Move stream place kept grants) e s t m k = holders_moved z v one stream place kept grants one.reply e refl s t m
holders_reply z v one (form.Fetch stamp block) e s t m k = holders_fetched z v one stamp block one.reply e refl s t m (sender_of z v one _ e t m).0
holders_reply z v one (form.WriteBack stamp block size piece) e s t m k = holders_back z v one stamp block one.reply (ap asks e) (ap is_callback e) refl t m (sender_of z v one _ e t m).0
holders_reply z v one (form.Op pid number stamp stream way) e s t m k = let i : IsClient (length v.clients) one.from = (sender_of z v one (form.Op pid number stamp stream way) e t m).0 in holders_operated z v one (step_of pid number one.from stream way) one.reply (ap asks e) (ap is_callback e) (ap quiet e) refl t m i ((t.standing.streams.rest.works one m i).operates pid number stamp stream way e)
holders_reply z v one (form.Close stream grants) e s t m k = holders_removed v one t.standing.flat t.holders m (ap asks e) (ap is_callback e)
holders_reply z v one body e s t m k = absurd (sender_of z v one body e t m)

-- a callback comes to a client
holders_at_client : (z : Setting) (v : View) (one : FileCall) (body : FileBody) → one.body ≡ body → one.taken ≡ false → one.reply ≡ None → Whole z v → In one v.calls → FlatHolders (request_at_client z v one body)
holders_at_client z v one (form.Callback stamp kind) e k n t m = holders_called_back v one stamp kind _ _ t.standing.flat t.standing.stamps t.holders m e k n (sender_of z v one _ e t m).1
holders_at_client z v one body e k n t m = t.holders

-- a request or a reply comes
holders_call : (z : Setting) (v : View) (one : FileCall) (taken atserver : Bool) → one.taken ≡ taken → (one.to == server) ≡ atserver → (not taken || is_some one.reply) ≡ true → Whole z v → In one v.calls → FlatHolders (call_comes z v one taken atserver)
holders_call z v one true atserver k e h t m = holders_reply z v one one.body refl h t m k
holders_call z v one false true k e h t m = holders_request z v one (record { flat = t.standing.flat; streams = t.standing.streams }) t.standing.stamps t.standing.decided.ruled t.standing.modes t.holders m (eqb-true one.to server e) (unanswered v one t.standing.flat m k) (no_call (is_callback one.body) refl)
  where
    no_call : (b : Bool) → is_callback one.body ≡ b → b ≡ false
    no_call true c = absurd (ends_no_callback (length v.clients) one.from one.to one.body (t.standing.flat.calls one m).ends t.standing.flat.items.fifteen (eqb-true one.to server e) c)
    no_call false c = refl
holders_call z v one false false k e h t m = holders_at_client z v one one.body refl k (unanswered v one t.standing.flat m k) t m

holders_carried_comes : (z : Setting) (v : View) (one : Carry) (grant : Option FileGrant) → one.grant ≡ grant → Whole z v → In one v.carried → FlatHolders (carried_comes_with (record v { carried = without_carried one.call v.carried }) one grant)
holders_carried_comes z v one (Some grant) e t m = holders_arrives_carried z v one grant t m e
holders_carried_comes z v one None e t m = absurd (cc (e, (t.standing.flat.carried one m).granted))

holders_delivered : (z : Setting) (v : View) (number : ℕ) (carried : Option Carry) (call : Option FileCall) → find_carried v.carried number ≡ carried → find_call v.calls number ≡ call → is_due carried call ≡ true → Whole z v → FlatHolders (delivered z v carried call)
holders_delivered z v number (Some one) call e k h t = holders_carried_comes z v one one.grant refl t (carried_found v.carried number one e).0
holders_delivered z v number None (Some one) e k h t = holders_call z v one one.taken (one.to == server) refl refl h t (found v.calls number one k).0
holders_delivered z v number None None e k h t = t.holders

-- what a client makes
holders_away : (v : View) (kernel : ℕ) (stream : StreamNo) → FlatHolders v → IsClient (length v.clients) kernel → FlatHolders (set_client v kernel (uninstall (client v kernel) stream))
holders_away v kernel stream p i = holders_mild v kernel (uninstall (client v kernel) stream) p i refl refl refl (λ s h. fewer_installed (client v kernel).streams stream s h) (λ d. d)

holders_moving : (v : View) (stream : StreamNo) (source place : ℕ) (kept : Bool) → FlatHolders v → IsClient (length v.clients) source → FlatHolders (moving v stream source place kept)
holders_moving v stream source place true p i = holders_begin v source (form.Move stream place true 0) None refl p
holders_moving v stream source place false p i = holders_begin (set_client v source (uninstall (client v source) stream)) source _ None refl (holders_away v source stream p i)

holders_back_at : (z : Setting) (v : View) (kernel : ℕ) (one : Held) (dirty : Option ℕ) → FlatHolders v → IsClient (length v.clients) kernel → FlatHolders (writing_back_at z v kernel one dirty)
holders_back_at z v kernel one None p i = holders_mild v kernel (record (client v kernel) { blocks = without_block one.block.0 (client v kernel).blocks }) p i refl refl refl (λ s h. h) (λ d. dirty_filter (λ (x : Held). not (x.block.0 == one.block.0)) (client v kernel).blocks d)
holders_back_at z v kernel one (Some dirty) p i = holders_begin v kernel _ (Some dirty) refl p

holders_writing_back : (z : Setting) (v : View) (kernel : ℕ) (o : Option Held) → FlatHolders v → IsClient (length v.clients) kernel → FlatHolders (writing_back z v kernel o)
holders_writing_back z v kernel (Some one) p i = holders_back_at z v kernel one one.dirty p i
holders_writing_back z v kernel None p i = p

pub knowing_of : (z : Setting) (v : View) → Whole z v → Knowing z v
knowing_of z v t = record { flat = t.standing.flat; streams = t.standing.streams; stamps = t.standing.stamps; decided = t.standing.decided; holders = t.holders }

holders_data : (z : Setting) (v : View) (kernel : ℕ) (step : FileStep) → Whole z v → IsClient (length v.clients) kernel → StepOpen kernel (client v kernel).streams v.opens step → FlatHolders (start_data z v kernel step)
holders_data z v kernel step t i o = holders_start z v kernel step i t.holders (able_of z v (knowing_of z v t) kernel i (step ∷ []) (λ s n. elim n [ inl e ↦ subst (StepOpen kernel (client v kernel).streams v.opens) (sym e) o | inr e ↦ absurd e ]))

holders_after : (z : Setting) (v : View) (step : FileStep) → may_do z v step ≡ true → Whole z v → FlatHolders (after z v step)
holders_after z v (act.Opening pid number kernel stream mode truncate) e t = holders_begin v kernel (form.Opening pid number stream mode truncate) None refl t.holders
holders_after z v (act.Closing kernel stream) e t = holders_begin (set_client v kernel (uninstall (client v kernel) stream)) kernel _ None refl (holders_away v kernel stream t.holders (free_client v kernel stream e))
holders_after z v (act.Moving stream source place kept) e t = holders_moving v stream source place kept t.holders (free_client v source stream (and_parts (is_free v source stream) _ e).0)
holders_after z v (act.Reading pid number kernel stream from many) e t = holders_data z v kernel (act.Reading pid number kernel stream from many) t (free_client v kernel stream (and_parts _ _ (and_parts _ _ e).0).0) (data_open z v (act.Reading pid number kernel stream from many) refl e t.standing.streams.rest)
holders_after z v (act.Writing pid number kernel stream from bytes) e t = holders_data z v kernel (act.Writing pid number kernel stream from bytes) t (free_client v kernel stream (and_parts _ _ (and_parts _ _ e).0).0) (data_open z v (act.Writing pid number kernel stream from bytes) refl e t.standing.streams.rest)
holders_after z v (act.Append pid number kernel stream bytes) e t = holders_data z v kernel (act.Append pid number kernel stream bytes) t (free_client v kernel stream (and_parts _ _ (and_parts _ _ e).0).0) (data_open z v (act.Append pid number kernel stream bytes) refl e t.standing.streams.rest)
holders_after z v (act.WritingBack kernel block) e t = holders_writing_back z v kernel (held (client v kernel).blocks block.0) t.holders (client_is v kernel (and_parts (is_client v kernel) _ e).0)
holders_after z v (act.Delivering number) e t = holders_delivered z v number (find_carried v.carried number) (find_call v.calls number) refl refl e t
holders_after z v (act.Expiring number) e t = t.holders

whole_of : (z : Setting) (v : View) → Shapes v → Streams v → Stamps v → Decisions z v → Modes v → Holders v → Whole z v
whole_of z v s r p d m h = record { standing = standing_of z v s r p d m; holders = flat_holders v h }

pub steps_keep_holders : (z : Setting) (v : View) (step : FileStep) → Shapes v → Streams v → Stamps v → Decisions z v → Modes v → Holders v → Holders (stepped z v step)
steps_keep_holders z v step s r p d m h = choose_by Holders (possible z v step) (after z v step) v (λ e. holders_of (after z v step) (holders_after z v step (and_parts (has_room v) (may_do z v step) e).1 (whole_of z v s r p d m h))) (λ e. h)

-- a client's moves
holders_server : (v : View) (bytes : List ℕ) (next : ℕ) (uncached : Bool) → FlatHolders v → (uncached ≡ false → v.uncached ≡ false) → FlatHolders (record v { bytes = bytes; next = next; calls = v.calls; carried = v.carried; uncached = uncached })
holders_server v bytes next uncached p u = holders_calls v bytes next v.calls v.carried uncached p u (λ kernel i. ways_self kernel (own_stamp v kernel) (is_holder v kernel) (things v))

-- the version rises of a file that is uncached, while no callback is out
holders_raise : (z : Setting) (v : View) (version : ℕ) → v.uncached ≡ true → busy v ≡ false → v.version ≤ version → Whole z v → FlatHolders (record v { version = version })
holders_raise z v version u q l t = record {
  is_client = λ holder e. absurd (nobody holder e);
  opens = λ holder e. absurd (nobody holder e);
  stale = λ holder e. absurd (nobody holder e);
  exclusive = t.holders.exclusive;
  each = λ kernel i. holders_idle (seat v kernel) (current_stamp v kernel) version (seat v kernel).mode (seat v kernel).opened (things v) (t.holders.each kernel i) (record {
    unheld = not_holder v.holder kernel (λ e. nobody kernel e);
    off_now = off_now kernel i (is_on (client v kernel).mode) refl;
    off_later = λ x m g a n. off_later kernel i x m g a n g.on refl;
    rises = (t.holders.each kernel i).chained.rises;
    under = λ x m g a n. let b = (t.holders.each kernel i).chained.under x m g a n in omega (arith, b, l);
    higher = l;
    quiet = λ x m to stamp kind e. no_call_thing v none x m (ap is_callback e);
    agrees = (t.holders.each kernel i).modes_agree;
  });
}
  where
    none : NoCall v
    none = idle v q

    nobody : (holder : ℕ) → v.holder ≡ Some holder → ⊥
    nobody holder e =
        let i : IsClient (length v.clients) holder = t.holders.is_client holder e in
        elim ((t.holders.each holder i).holder_state (is_holder_by v.holder holder e)) [
          | inl k ↦ no_call_thing v none k.call k.there (ap is_callback k.is_call)
          | inr k ↦ elim k.0 [ inl o ↦ cc (o, t.standing.decided.ruled.off holder i u) | inr p ↦ no_call_thing v none p.call p.there (ap is_callback p.stops) ]
        ]

    off_now : (kernel : ℕ) → IsClient (length v.clients) kernel → (b : Bool) → is_on (client v kernel).mode ≡ b → b ≡ false
    off_now kernel i true e = absurd (elim ((t.standing.modes kernel i).on_now e) [ inl o ↦ cc (o, t.standing.decided.ruled.off kernel i u) | inr k ↦ no_call_thing v none k.call k.there (ap is_callback k.stops) ])
    off_now kernel i false e = refl

    off_later : (kernel : ℕ) → IsClient (length v.clients) kernel → (x : FileCall) → In x (things v) → (g : FileGrant) → Arrives kernel x g → own_stamp v kernel < g.stamp → (b : Bool) → g.on ≡ b → b ≡ false
    off_later kernel i x m g a n true e = absurd (elim ((t.standing.modes kernel i).on_later x m g a n e) [ inl o ↦ cc (o, t.standing.decided.ruled.off kernel i u) | inr k ↦ no_call_thing v none k.call k.there (ap is_callback k.stops) ])
    off_later kernel i x m g a n false e = refl

not_is : (b : Bool) → not b ≡ true → b ≡ false
not_is true e = absurd (cc (e))
not_is false e = refl

holders_move : (z : Setting) (v : View) (other : ClientMove) → may_move z v other ≡ true → Whole z v → FlatHolders (after_move z v other)
holders_move z v (move.Number next) e t = holders_server v v.bytes next v.uncached t.holders (λ q. q)
holders_move z v (move.Count kernel count) e t = holders_mild v kernel (record (client v kernel) { count = count }) t.holders (client_is v kernel (and_parts (is_client v kernel) _ e).0) refl refl refl (λ s h. h) (λ d. d)
holders_move z v (move.Queue step) e t = let p = and_parts (is_data step) (may_do z v step) e in holders_queue v (kernel_of step) step (working_client z v step p.0 p.1) t.holders
holders_move z v (move.Fetch kernel block) e t = holders_fetch v kernel block.0 t.holders
holders_move z v (move.Look kernel) e t = look_able z v kernel (knowing_of z v t) (client_is v kernel (and_parts (is_client v kernel) _ e).0)
holders_move z v (move.Zeros kernel block) e t = holders_mild v kernel (record (client v kernel) { blocks = with_block (record { block = block; bytes = zeros z.block; dirty = None }) (client v kernel).blocks }) t.holders (client_is v kernel (and_parts (is_client v kernel) _ e).0) refl refl refl (λ s h. h) (λ d. dirty_with (record { block = block; bytes = zeros z.block; dirty = None }) (client v kernel).blocks refl d)
holders_move z v (move.Raise version) e t = let p = and_parts v.uncached _ e in let q = and_parts (not (busy v)) (nat_le v.version version) p.1 in holders_raise z v version p.0 (not_is (busy v) q.0) (leb-true v.version version q.1) t
holders_move z v move.Uncache e t = holders_server v v.bytes v.next true t.holders (λ q. absurd (cc (q)))

pub moves_keep_holders : (z : Setting) (v : View) (other : ClientMove) → may_move z v other ≡ true → Shapes v → Streams v → Stamps v → Decisions z v → Modes v → Holders v → Holders (after_move z v other)
moves_keep_holders z v other e s r p d m h = holders_of (after_move z v other) (holders_move z v other e (whole_of z v s r p d m h))

-- a new file
pub new_has_holders : (count : ℕ) (bytes : List ℕ) → Holders (new_view count bytes)
new_has_holders count bytes = holders_of (new_view count bytes) (record {
  is_client = λ holder e. absurd (cc (e));
  opens = λ holder e. absurd (cc (e));
  stale = λ holder e. absurd (cc (e));
  exclusive = λ e. refl;
  each = λ kernel i. record {
    seen_below = (let n : (client (new_view count bytes) kernel).version ≡ 0 = ap (λ (c : Client). c.version) (is_new kernel i) in omega (arith, n));
    chained = record { first = λ one m. absurd m; rises = λ one m. absurd m; under = λ one m. absurd m; linked = λ one m. absurd m; joined = λ one m. absurd m; last = λ one m. absurd m };
    at_version = λ one m. absurd m;
    writer_holds = λ one m. absurd m;
    holder_state = λ e. absurd (cc (e));
    holder_grants = λ one m. absurd m;
    recall_ready = λ r. absurd r.there;
    recall_on = λ one m. absurd m;
    recall_holds = λ one m. absurd m;
    writer_ready = λ a e. absurd e.there;
    dirty_ready = λ one m. absurd (subst (λ (c : Client). In one c.blocks) (is_new kernel i) m);
    dirty_unanswered = λ one m q k. k.there;
    modes_agree = λ e. ap (λ (c : Client). c.mode) (is_new kernel i) ∙ sym (get_or-replicate count (kernel - 1) cache.None cache.None (low kernel (within kernel i)));
  };
})
  where
    within : (kernel : ℕ) → IsClient (length (new_view count bytes).clients) kernel → IsClient count kernel
    within kernel i = subst (λ n. IsClient n kernel) (count_new count bytes) i

    low : (kernel : ℕ) → IsClient count kernel → kernel - 1 < count
    low kernel i = omega (arith, i.0, i.1)

    is_new : (kernel : ℕ) → IsClient (length (new_view count bytes).clients) kernel → client (new_view count bytes) kernel ≡ new_client
    is_new kernel i = client_new count bytes kernel (within kernel i)
