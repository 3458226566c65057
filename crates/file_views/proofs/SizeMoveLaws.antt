-- Sizes, a part of the seventh layer of soundness, under all steps and moves, and of a new file.
use Rattle.std.proofs.Common.{◌≡◌, ◌≢◌, ◌≤◌, ◌<◌, ◌⊎◌, ℕ, ◌+◌, ◌-◌, ◌*◌, ◌/◌, ◌==◌, nat_le, Bool, true, false, ◌&&◌, ◌||◌, is_some, is_none, List, [], ◌∷◌, ◌++◌, length, map, Option, Some, None, refl, sym, ap, ◌∙◌, subst, inl, inr, arith, eqb-true, eq-eqb, leb-true, leb-false, append-nil, length-take}
use Rattle.std.proofs.lemmas.Bool.{and_parts}
use Rattle.std.proofs.lemmas.Bool.Decides.{eqb_tells}
use Rattle.sprite_ids.specs.declared.BlockNo.{BlockNo}
use Rattle.sprite_ids.specs.declared.StreamNo.{StreamNo}
use Rattle.sprite_ids.specs.declared.CallKind.{CallKind}
use Rattle.file_views.specs.declared.grant.FileGrant.{FileGrant}
use Rattle.file_views.specs.declared.body.FileBody.{FileBody}
use Rattle.file_views.specs.declared.body.FileBody.TheVariants as form
use Rattle.file_views.specs.declared.client.Held.{Held}
use Rattle.file_views.specs.declared.client.Client.{Client}
use Rattle.file_views.specs.declared.call.FileCall.{FileCall}
use Rattle.file_views.specs.declared.call.Carry.{Carry}
use Rattle.file_views.specs.declared.step.FileStep.{FileStep}
use Rattle.file_views.specs.declared.moves.ClientMove.{ClientMove}
use Rattle.file_views.specs.declared.view.View.{View}
use Rattle.file_views.specs.declared.entered.Entered.{Entered}
use Rattle.file_views.specs.Setting.{Setting}
use Rattle.file_views.specs.Contents.{zeros, cut}
use Rattle.file_views.specs.Streams.{is_any}
use Rattle.file_views.specs.Clients.{held, dirty_blocks, pieces, granted, take_grant, take_callback, fill, wrote_back, uninstall, without_block, with_block, done_cached, blocks_filled}
use Rattle.file_views.specs.Views.{server, new_view, client, set_client, current_stamp, is_holder, is_callback, as_call, things, new_call, with_call, without_call, without_carried, begin, replied, remove_call, waiting_calls}
use Rattle.file_views.specs.Grants.{asks}
use Rattle.file_views.specs.Data.{op_of}
use Rattle.file_views.specs.Serving.{store_blocks, holder_answered, callback_answered}
use Rattle.file_views.specs.Steps.{called_back, moving, writing_back_at, after}
use Rattle.file_views.specs.Possible.{has_room, may_do, possible, stepped}
use Rattle.file_views.specs.Moves.{is_data, may_move, after_move}
use Rattle.file_views.specs.Settled.{goes_of, arrival}
use Rattle.file_views.specs.Here.{In, IsClient, target, about, at_kernel, Arrives, Answered, asked_stream, request_stamp}
use Rattle.file_views.specs.SoundShapes.{Shapes}
use Rattle.file_views.specs.SoundStreams.{Streams}
use Rattle.file_views.specs.SoundStamps.{Stamps}
use Rattle.file_views.specs.SoundDecisions.{Decisions}
use Rattle.file_views.specs.SoundModes.{SameNewer, Modes}
use Rattle.file_views.specs.SoundHolders.{Ready, Holders}
use Rattle.file_views.specs.SoundRequests.{is_dirty_in, Present}
use Rattle.file_views.specs.AskingLaw.{EachAsks}
use Rattle.file_views.specs.WritingLaw.{EachWritesBack}
use Rattle.file_views.specs.SizeLaw.{EachSize}
use Rattle.file_views.proofs.MemberLaws.{Made, in_map, in_filter, filter_in, in_left, in_right, in_join, in_last, last_in, in_with, in_without, without_in, with_new, map_in, held_found}
use Rattle.file_views.proofs.EffectLaws.{Apart, by_kernel, count_set, client_set, client_other, things_begin, things_with, things_without, things_uncarried, call_in_things, same_thing}
use Rattle.file_views.proofs.ClientLaws.{choose_by}
use Rattle.file_views.proofs.CountLaws.{or_left}
use Rattle.file_views.proofs.ShapeLaws.{Flat, in_middle, things_carried}
use Rattle.file_views.proofs.ShapeStepLaws.{calls_apart, flat_server, data_step}
use Rattle.file_views.proofs.StreamChangeLaws.{streams_same}
use Rattle.file_views.proofs.StreamServeLaws.{Both}
use Rattle.file_views.proofs.StreamReplyLaws.{both_quiet}
use Rattle.file_views.proofs.StampLaws.{own_stamp}
use Rattle.file_views.proofs.StampChangeLaws.{stamps_same, stamps_remove}
use Rattle.file_views.proofs.StampServeLaws.{idle}
use Rattle.file_views.proofs.DecisionLaws.{Asking, same_first, Holds, holds_server, back_self, asking_more, waiting_without}
use Rattle.file_views.proofs.DecisionStepLaws.{answered_waits}
use Rattle.file_views.proofs.ModeStepLaws.{Standing, standing_of, modes_finished}
use Rattle.file_views.proofs.HolderLaws.{Ways, FlatHolders, flat_holders, answered_on, about_arrives, about_to}
use Rattle.file_views.proofs.HolderChangeLaws.{arrivals_begin, ways_answer, ways_reads, ways_without}
use Rattle.file_views.proofs.HolderServeLaws.{Answering, answered_view}
use Rattle.file_views.proofs.HolderStepLaws.{no_arrival}
use Rattle.file_views.proofs.AskingStepLaws.{FlatAsking, asking_quiet}
use Rattle.file_views.proofs.AskingMoveLaws.{flat_asking, quiet_calls}
use Rattle.file_views.proofs.DataLaws.{alike_done}
use Rattle.file_views.proofs.WorkLaws.{noted, unnoted, Works}
use Rattle.file_views.proofs.PartLaws.{Parts, part_after, part_move}
use Rattle.file_views.specs.Entries.{enters_flush}
use Rattle.file_views.proofs.ServeLaws.{ServeNotes, notes_flushed, serves_notes, serves_request}
use Rattle.file_views.proofs.WritingLaws.{Keeps, keeps_same, keeps_filled, keeps_dropped, keeps_back, keeps_done}
use Rattle.file_views.proofs.WritingStepLaws.{FlatWriting, calm_calls, low_own, writing_calm, keeps_fill, Writes, numbers_under, writing_works}
use Rattle.file_views.proofs.WritingMoveLaws.{Wrote, flat_writing, removed_writing, no_other_back, writing_parts, none_of, is_absent}
use Rattle.file_views.proofs.SizeLaws.{RightSize, SizeFacts, facts_of, sizes_of, Plain, right_plain, plain_none, Told, told_self, sizes_calls, sizes_client, last_same, dirty_with_clean, dirty_without_clean, last_done, last_back, sizes_took, was_ready}
use Rattle.file_views.proofs.SizeServeLaws.{FlatSizes, Sized, idle_off, serves_sizes, sizes_flushed}

-- all that a step leans on
pub record Full (z : Setting) (v : View) : Type 0 where
  pub standing : Standing z v
  pub holders : FlatHolders v
  pub asking : FlatAsking z v
  pub writing : FlatWriting z v
  pub sizes : FlatSizes z v

pub wrote_full : (z : Setting) (v : View) → Full z v → Wrote z v
wrote_full z v t = record { flat = t.standing.flat; stamps = t.standing.stamps; modes = t.standing.modes; holders = t.holders; writing = t.writing }

pub record Sizing (z : Setting) (v : View) : Type 0 where
  pub writes : Writes z v
  pub sizes : FlatSizes z v

-- a client changes
sizes_set : (z : Setting) (v : View) (kernel : ℕ) (d : Client) → FlatSizes z v → IsClient (length v.clients) kernel → SizeFacts z kernel v.version d (is_holder v kernel) v.bytes (things v) → FlatSizes z (set_client v kernel d)
sizes_set z v kernel d f i a other j = by_kernel (λ k. IsClient (length v.clients) k → SizeFacts z k v.version (client (set_client v kernel d) k) (is_holder v k) v.bytes (things v)) kernel other
    (λ n. subst (λ (c : Client). SizeFacts z kernel v.version c (is_holder v kernel) v.bytes (things v)) (sym (client_set v kernel d i)) a)
    (λ p n. subst (λ (c : Client). SizeFacts z other v.version c (is_holder v other) v.bytes (things v)) (sym (client_other v kernel other d i.0 n.0 p)) (f other n))
    (subst (λ n. IsClient n other) (count_set v kernel d) j)

sizes_kept : (z : Setting) (v : View) (kernel : ℕ) (d : Client) → FlatSizes z v → IsClient (length v.clients) kernel → Keeps z kernel (current_stamp v kernel) (client v kernel) d (things v) → d.version ≡ (client v kernel).version → d.mode ≡ (client v kernel).mode → ((length v.bytes < (client v kernel).size → is_dirty_in (held (client v kernel).blocks (((client v kernel).size - 1) / z.block)) ≡ true) → length v.bytes < d.size → is_dirty_in (held d.blocks ((d.size - 1) / z.block)) ≡ true) → FlatSizes z (set_client v kernel d)
sizes_kept z v kernel d f i k a b l = sizes_set z v kernel d f i (sizes_client z kernel (current_stamp v kernel) v.version (client v kernel) d (is_holder v kernel) v.bytes (things v) (f kernel i) k a b l)

sizes_same : (z : Setting) (v : View) (kernel : ℕ) (d : Client) → FlatWriting z v → FlatSizes z v → IsClient (length v.clients) kernel → d.stamp ≡ (client v kernel).stamp → d.version ≡ (client v kernel).version → d.mode ≡ (client v kernel).mode → d.blocks ≡ (client v kernel).blocks → d.size ≡ (client v kernel).size → FlatSizes z (set_client v kernel d)
sizes_same z v kernel d w f i s a b k e = sizes_kept z v kernel d f i (keeps_same z kernel (current_stamp v kernel) (client v kernel) d (things v) (w kernel i) s k e) a b (last_same z (client v kernel) d v.bytes k e)

-- a request begins
sizes_begin : (z : Setting) (v : View) (kernel : ℕ) (body : FileBody) (dirty : Option ℕ) → FlatSizes z v → FlatSizes z (begin v kernel server body dirty)
sizes_begin z v kernel body dirty f other i = subst (SizeFacts z other v.version (client v other) (is_holder v other) v.bytes) (sym (things_begin v kernel server body dirty))
    (sizes_calls z other v.version (client v other) (is_holder v other) v.bytes (things v) (things v ++ new_call v kernel server body dirty ∷ []) (f other i) (arrivals_begin other (own_stamp v other) (things v) (new_call v kernel server body dirty) refl)
    (λ h a. record { call = a.call; there = in_left a.call (things v) (new_call v kernel server body dirty ∷ []) a.there; to_kernel = a.to_kernel; stamp = a.stamp; kind = a.kind; is_call = a.is_call; taken = a.taken })
    (λ x m. elim (in_last x (new_call v kernel server body dirty) (things v) m) [ inl k ↦ inl (told_self x (things v) k) | inr e ↦ inr (right_plain z other (client v other) (is_holder v other) v.bytes x (plain_none x.reply (ap (λ (y : FileCall). y.reply) e))) ]))

-- a call is gone that brings the kernel nothing over its stamp, and is no callback
sizes_without : (z : Setting) (v : View) (one : FileCall) (ys : List FileCall) (kernel : ℕ) → Apart v → In one (things v) → ys ≡ without_call one.number (things v) → is_callback one.body ≡ false → ((grant : FileGrant) → Arrives kernel one grant → grant.stamp ≤ own_stamp v kernel) → SizeFacts z kernel v.version (client v kernel) (is_holder v kernel) v.bytes (things v) → SizeFacts z kernel v.version (client v kernel) (is_holder v kernel) v.bytes ys
sizes_without z v one ys kernel u m e c l f = subst (SizeFacts z kernel v.version (client v kernel) (is_holder v kernel) v.bytes) (sym e)
    (sizes_calls z kernel v.version (client v kernel) (is_holder v kernel) v.bytes (things v) (without_call one.number (things v)) f ways.arrivals (λ h a. answered_on kernel (own_stamp v kernel) (is_holder v kernel) (things v) (without_call one.number (things v)) ways h a)
    (λ x k. inl (told_self x (things v) (in_without one.number x (things v) k).0)))
  where
    ways : Ways kernel (own_stamp v kernel) (is_holder v kernel) (things v) (without_call one.number (things v))
    ways = ways_without v kernel (own_stamp v kernel) (is_holder v kernel) one u m l (λ h b q. cc (b, c))

sizes_removed : (z : Setting) (v : View) (one : FileCall) → Flat v → FlatSizes z v → In one v.calls → asks one.body ≡ false → is_callback one.body ≡ false → FlatSizes z (remove_call v one.number)
sizes_removed z v one flat f m a c kernel i = sizes_without z v one (things (remove_call v one.number)) kernel flat.numbered.differ (call_in_things v one m) (things_without v one flat.numbered.differ m) c (λ grant b. absurd (cc (b.1, no_arrival v one flat m a))) (f kernel i)

-- a grant is taken
pub record Brings (v : View) (one : FileCall) (kernel : ℕ) (grant : FileGrant) (calls : List FileCall) (carried : List Carry) : Type 0 where
  pub there : In one (things v)
  pub left : things (record v { calls = calls; carried = carried }) ≡ without_call one.number (things v)
  pub plain : is_callback one.body ≡ false
  pub low : grant.stamp ≤ current_stamp v kernel
  pub source : own_stamp v kernel < grant.stamp → SameNewer kernel (own_stamp v kernel) (things v) grant
  pub lost : (place : ℕ) (other : FileGrant) → Arrives place one other → (place ≡ kernel) × (other.stamp ≡ grant.stamp)
  pub size : own_stamp v kernel < grant.stamp → grant.on ≡ true → grant.size ≡ length v.bytes

sizes_takes : (z : Setting) (v : View) (one : FileCall) (kernel : ℕ) (grant : FileGrant) (calls : List FileCall) (carried : List Carry) (streams : List StreamNo) → Full z v → Brings v one kernel grant calls carried → IsClient (length v.clients) kernel → FlatWriting z (record v { calls = calls; carried = carried }) → FlatSizes z (set_client (record v { calls = calls; carried = carried }) kernel (record (take_grant (client v kernel) grant) { streams = streams }))
sizes_takes z v one kernel grant calls carried streams t b i writing other j = by_kernel (λ k. IsClient (length v.clients) k → SizeFacts z k v.version (client (set_client w kernel d) k) (is_holder v k) v.bytes (things w)) kernel other
    (λ n. subst (λ (c : Client). SizeFacts z kernel v.version c (is_holder v kernel) v.bytes (things w)) (sym (client_set w kernel d i)) here)
    (λ p n. subst (λ (c : Client). SizeFacts z other v.version c (is_holder v other) v.bytes (things w)) (sym (client_other w kernel other d i.0 n.0 p)) (sizes_without z v one (things w) other t.standing.flat.numbered.differ b.there b.left b.plain (λ g a. absurd (p (b.lost other g a).0)) (t.sizes other n)))
    (subst (λ n. IsClient n other) (count_set w kernel d) j)
  where
    w : View
    w = record v { calls = calls; carried = carried }

    d : Client
    d = record (take_grant (client v kernel) grant) { streams = streams }

    stays : grant.stamp ≤ own_stamp v kernel → SizeFacts z kernel v.version (record (client v kernel) { streams = streams }) (is_holder v kernel) v.bytes (things w)
    stays l = sizes_client z kernel (current_stamp v kernel) v.version (client v kernel) (record (client v kernel) { streams = streams }) (is_holder v kernel) v.bytes (things w)
        (sizes_without z v one (things w) kernel t.standing.flat.numbered.differ b.there b.left b.plain (λ g a. let e = (b.lost kernel g a).1 in omega (arith, e, l)) (t.sizes kernel i))
        (keeps_same z kernel (current_stamp v kernel) (client v kernel) (record (client v kernel) { streams = streams }) (things w) (writing kernel i) refl refl refl) refl refl (last_same z (client v kernel) (record (client v kernel) { streams = streams }) v.bytes refl refl)

    unanswered : own_stamp v kernel < grant.stamp → Answered kernel (things v) → ⊥
    unanswered l x =
        let p = t.standing.stamps.each x.call x.there in
        let q = p.behind x.stamp x.kind x.is_call x.taken in
        let r = p.called x.stamp x.kind x.is_call in
        let own : own_stamp v x.call.to ≡ own_stamp v kernel = ap (own_stamp v) x.to_kernel in
        let cur : current_stamp v x.call.to ≡ current_stamp v kernel = ap (current_stamp v) x.to_kernel in
        let low = b.low in
        omega (arith, q, r, own, cur, low, l)

    same_grant : (x y : FileCall) → In x (things v) → In y (things v) → (g h : FileGrant) → Arrives kernel x g → Arrives kernel y h → g.stamp ≡ h.stamp → g ≡ h
    same_grant x y m n g h p q e = let same : x ≡ y = same_thing v x y t.standing.flat.numbered.differ m n ((t.standing.stamps.pairs x y m n).grants g h p.1 q.1 (p.0 ∙ sym q.0) e) in cc (p.1, q.1, ap (λ (c : FileCall). arrival c.reply) same)

    taken : own_stamp v kernel < grant.stamp → SizeFacts z kernel v.version (record (granted (client v kernel) grant) { streams = streams }) (is_holder v kernel) v.bytes (things w)
    taken l = sizes_took z kernel v.version (client v kernel) grant streams (is_holder v kernel) v.bytes (things v) (things w) (t.sizes kernel i) (record {
      newer = l;
      size = b.size l;
      was_ready = λ o h e k. elim ((t.holders.each kernel i).holder_state k) [
        | inl a ↦ absurd (unanswered l a)
        | inr a ↦ was_ready kernel (own_stamp v kernel) (client v kernel).version v.version (is_holder v kernel) (client v kernel).mode _ (things v) grant (b.source l) a.1 same_grant o h e
      ];
      unanswered = unanswered l;
      low = low_own v t.standing.stamps kernel;
    }) (λ x m. (in_without one.number x (things v) (subst (In x) b.left m)).0)

    here : SizeFacts z kernel v.version d (is_holder v kernel) v.bytes (things w)
    here = choose_by (λ (c : Client). SizeFacts z kernel v.version (record c { streams = streams }) (is_holder v kernel) v.bytes (things w)) (nat_le grant.stamp (client v kernel).stamp) (client v kernel) (granted (client v kernel) grant) (λ e. stays (leb-true grant.stamp (client v kernel).stamp e)) (λ e. taken (leb-false grant.stamp (client v kernel).stamp e))

pub brings_arrival : (z : Setting) (v : View) (one : FileCall) (kernel : ℕ) (grant : FileGrant) (calls : List FileCall) (carried : List Carry) → Full z v → In one (things v) → things (record v { calls = calls; carried = carried }) ≡ without_call one.number (things v) → is_callback one.body ≡ false → Arrives kernel one grant → IsClient (length v.clients) kernel → Brings v one kernel grant calls carried
brings_arrival z v one kernel grant calls carried t m left c a i = record {
  there = m;
  left = left;
  plain = c;
  low = subst (λ k. grant.stamp ≤ current_stamp v k) a.0 ((t.standing.stamps.each one m).granted grant a.1);
  source = λ l. record { call = one; newer = grant; is_newer = (m, a, l); same = refl };
  lost = λ place other b. (sym b.0 ∙ a.0, same_stamp other b.1);
  size = λ l o. (t.sizes kernel i).granted one m grant a l o;
}
  where
    same_stamp : (other : FileGrant) → arrival one.reply ≡ Some other → other.stamp ≡ grant.stamp
    same_stamp other b = let e : other ≡ grant = cc (a.1, b) in ap (λ (x : FileGrant). x.stamp) e

pub brings_again : (z : Setting) (v : View) (one : FileCall) (grant : FileGrant) → Full z v → In one v.calls → is_callback one.body ≡ false → one.reply ≡ Some (form.Again grant) → IsClient (length v.clients) one.from → Brings v one one.from grant (without_call one.number v.calls) v.carried
brings_again z v one grant t m c r i = record {
  there = call_in_things v one m;
  left = things_without v one t.standing.flat.numbered.differ m;
  plain = c;
  low = (t.standing.stamps.each one (call_in_things v one m)).again grant r;
  source = λ l. (t.standing.modes one.from i).again one (call_in_things v one m) refl grant r l;
  lost = λ place other b. absurd (cc (b.1, ap arrival r));
  size = λ l o. ((t.sizes one.from i).each one (call_in_things v one m)).again refl grant r l o;
}

-- a move's stream is carried on
pub middle_in : (x y : FileCall) (xs ys : List FileCall) → In x (xs ++ ys) → In x ((xs ++ y ∷ []) ++ ys)
middle_in x y xs ys k = elim (in_join x xs ys k) [ inl a ↦ in_left x (xs ++ y ∷ []) ys (in_left x xs (y ∷ []) a) | inr b ↦ in_right x (xs ++ y ∷ []) ys b ]

sizes_moved : (z : Setting) (v : View) (one : FileCall) (stream : StreamNo) (place : ℕ) (kept : Bool) (grants : ℕ) (grant : Option FileGrant) (more : ℕ) → Flat v → FlatSizes z v → In one v.calls → one.body ≡ form.Move stream place kept grants → one.reply ≡ Some (form.Moved grant more) → FlatSizes z (record (remove_call v one.number) { carried = v.carried ++ record { call = one.number; to = place; stream = stream; grant = grant } ∷ [] })
sizes_moved z v one stream place kept grants grant more flat f m e r kernel i = sizes_calls z kernel v.version (client v kernel) (is_holder v kernel) v.bytes (things v) (things w) (f kernel i) ways.arrivals (λ h a. answered_on kernel (own_stamp v kernel) (is_holder v kernel) (things v) (things w) ways h a)
    (λ x n. elim (back x n) [ inl k ↦ inl (told_self x (things v) k) | inr q ↦ inr (right_plain z kernel (client v kernel) (is_holder v kernel) v.bytes x (subst (λ (y : FileCall). Plain y.reply) (sym q) (record { no_again = λ g a. cc (a); no_done = λ a. cc (a); no_flush = λ size blocks a. cc (a) }))) ])
  where
    carry : Carry
    carry = record { call = one.number; to = place; stream = stream; grant = grant }

    w : View
    w = record (remove_call v one.number) { carried = v.carried ++ carry ∷ [] }

    u : Apart v
    u = flat.numbered.differ

    now : things w ≡ (map as_call v.carried ++ as_call carry ∷ []) ++ without_call one.number v.calls
    now = things_carried (remove_call v one.number) carry

    back : (x : FileCall) → In x (things w) → In x (things v) ⊎ (x ≡ as_call carry)
    back x n = elim (in_middle x (as_call carry) (map as_call v.carried) (without_call one.number v.calls) (subst (In x) now n)) [ inl k ↦ inl (in_without one.number x (things v) (subst (In x) (things_without v one u m) k)).0 | inr q ↦ inr q ]

    ways : Ways kernel (own_stamp v kernel) (is_holder v kernel) (things v) (things w)
    ways = ways_reads kernel (own_stamp v kernel) (is_holder v kernel) (things v) (things w) (as_call carry) one
        (record { number_is = refl; goes_is = sym (ap (goes_of one.from) e); arrival_is = sym (ap arrival r); no_call = refl; no_again = λ g a. absurd (cc (a)); request_is = λ stamp q. absurd (cc (q)) }) (sym (ap asked_stream e)) (ap is_callback e) (call_in_things v one m)
        (subst (In (as_call carry)) (sym now) (in_left (as_call carry) (map as_call v.carried ++ as_call carry ∷ []) (without_call one.number v.calls) (last_in (as_call carry) (map as_call v.carried))))
        back
        (λ x n. elim (eqb_tells x.number one.number) [
          | inl a ↦ inr (same_thing v x one u n (call_in_things v one m) a.1)
          | inr b ↦ inl (subst (In x) (sym now) (middle_in x (as_call carry) (map as_call v.carried) (without_call one.number v.calls) (subst (In x) (sym (things_without v one u m)) (without_in one.number x (things v) n b.1))))
        ])

-- a callback is taken, and answered
pub piece_within : (z : Setting) (bytes : List ℕ) (number size : ℕ) → number * z.block < size → number * z.block + length (cut z bytes number size) ≤ size
piece_within z bytes number size l = let e = length-take (size - number * z.block) bytes in omega (arith, e, l)

pub any_dirty : (z : Setting) (size : ℕ) (blocks : List Held) → is_any (pieces z size blocks) ≡ true → (one : Held) × (In one blocks × (is_some one.dirty ≡ true))
any_dirty z size blocks e = first (dirty_blocks blocks) refl e
  where
    first : (xs : List Held) → dirty_blocks blocks ≡ xs → is_any {X = BlockNo × List ℕ} (map (λ (one : Held). (one.block, cut z one.bytes one.block.0 size)) xs) ≡ true → (one : Held) × (In one blocks × (is_some one.dirty ≡ true))
    first [] q k = absurd (cc (k))
    first (x ∷ xs) q k = (x, in_filter (λ (one : Held). is_some one.dirty) x blocks (subst (In x) (sym q) (inl refl)))

sizes_called : (z : Setting) (v : View) (one : FileCall) (stamp : ℕ) (kind : CallKind) → Full z v → In one v.calls → one.body ≡ form.Callback stamp kind → one.taken ≡ false → one.reply ≡ None → IsClient (length v.clients) one.to → FlatSizes z (called_back z v one stamp kind)
sizes_called z v one stamp kind t m e k n i other j = subst (SizeFacts z other v.version (client (set_client v source d) other) (is_holder v other) v.bytes) (sym (things_with (set_client v source d) one new t.standing.flat.numbered.differ m refl))
    (by_kernel (λ x. IsClient (length v.clients) x → SizeFacts z x v.version (client (set_client v source d) x) (is_holder v x) v.bytes ys) source other
    (λ p. subst (λ (c : Client). SizeFacts z source v.version c (is_holder v source) v.bytes ys) (sym (client_set v source d i)) here)
    (λ p q. subst (λ (c : Client). SizeFacts z other v.version c (is_holder v other) v.bytes ys) (sym (client_other v source other d i.0 q.0 p)) (far p q))
    (subst (λ x. IsClient x other) (count_set v source d) j))
  where
    source : ℕ
    source = one.to

    d : Client
    d = take_callback (client v source) stamp kind

    blocks : List (BlockNo × List ℕ)
    blocks = pieces z (client v source).size (client v source).blocks

    new : FileCall
    new = replied one (form.Flushed (client v source).size blocks)

    ys : List FileCall
    ys = with_call new (things v)

    there : In one (things v)
    there = call_in_things v one m

    later : own_stamp v source < stamp
    later = (t.standing.stamps.each one there).before stamp kind e k

    facts : SizeFacts z source v.version (client v source) (is_holder v source) v.bytes (things v)
    facts = t.sizes source i

    within : (piece : BlockNo × List ℕ) → In piece blocks → piece.0.0 * z.block + length piece.1 ≤ (client v source).size
    within piece p =
        let r : Made (λ (x : Held). (x.block, cut z x.bytes x.block.0 (client v source).size)) piece (dirty_blocks (client v source).blocks) = in_map (λ (x : Held). (x.block, cut z x.bytes x.block.0 (client v source).size)) piece (dirty_blocks (client v source).blocks) p in
        let q = in_filter (λ (x : Held). is_some x.dirty) r.x (client v source).blocks r.there in
        subst (λ (x : BlockNo × List ℕ). x.0.0 * z.block + length x.1 ≤ (client v source).size) (sym r.makes) (piece_within z r.x.bytes r.x.block.0 (client v source).size ((t.writing source i).dirty_within r.x q.0 q.1))

    ready : (x : Held) → In x (client v source).blocks → is_some x.dirty ≡ true → Ready source (own_stamp v source) (client v source).version v.version (is_holder v source) (client v source).mode (things v)
    ready x p q = (t.holders.each source i).dirty_ready x p q

    told_new : (size : ℕ) (bs : List (BlockNo × List ℕ)) → new.reply ≡ Some (form.Flushed size bs) → ((client v source).size ≡ size) × (blocks ≡ bs)
    told_new size bs r = (cc (r), cc (r))

    right_new : RightSize z source d (is_holder v source) v.bytes new
    right_new = record {
      again = λ q grant r. absurd (cc (r));
      done_size = λ block size piece w r. absurd (cc (r));
      flushed_holder = λ q size bs r a. let x = any_dirty z (client v source).size (client v source).blocks (ap is_any (told_new size bs r).1 ∙ a) in (ready x.0 x.1.0 x.1.1).holds_it;
      flushed_covers = λ q size bs r a. let x = any_dirty z (client v source).size (client v source).blocks (ap is_any (told_new size bs r).1 ∙ a) in subst (λ y. length v.bytes ≤ y) (told_new size bs r).0 (facts.holder (ready x.0 x.1.0 x.1.1) ((t.holders.each source i).dirty_unanswered x.0 x.1.0 x.1.1)).covers;
      flushed_within = λ q size bs r piece p. subst (λ y. piece.0.0 * z.block + length piece.1 ≤ y) (told_new size bs r).0 (within piece (subst (In piece) (sym (told_new size bs r).1) p));
    }

    right_old : (y : FileCall) → In y (things v) → RightSize z source d (is_holder v source) v.bytes y
    right_old y p = let r : RightSize z source (client v source) (is_holder v source) v.bytes y = facts.each y p in record {
      again = λ q grant a l. r.again q grant a (omega (arith, l, later));
      done_size = λ block size piece w. absurd (let low = low_own v t.standing.stamps source y p w.from_kernel stamp (ap request_stamp w.is_write_back) in omega (arith, low, later));
      flushed_holder = r.flushed_holder;
      flushed_covers = r.flushed_covers;
      flushed_within = r.flushed_within;
    }

    here : SizeFacts z source v.version d (is_holder v source) v.bytes ys
    here = record {
      granted = λ y p grant a l o. elim (in_with new y (things v) p) [ inl q ↦ facts.granted y q.0 grant a (omega (arith, l, later)) o | inr q ↦ absurd (cc (a.1, ap (λ (x : FileCall). arrival x.reply) q)) ];
      holder = λ r u. absurd (u (record { call = new; there = with_new new one (things v) refl there; to_kernel = refl; stamp = stamp; kind = kind; is_call = e; taken = refl }));
      each = λ y p. elim (in_with new y (things v) p) [ inl q ↦ right_old y q.0 | inr q ↦ subst (RightSize z source d (is_holder v source) v.bytes) (sym q) right_new ];
    }

    new_far : (x : ℕ) → x ≢ source → RightSize z x (client v x) (is_holder v x) v.bytes new
    new_far x p = record {
      again = λ q grant r. absurd (cc (r));
      done_size = λ block size piece w r. absurd (cc (r));
      flushed_holder = λ q size bs r. absurd (p (sym q));
      flushed_covers = λ q size bs r. absurd (p (sym q));
      flushed_within = λ q size bs r. absurd (p (sym q));
    }

    far : other ≢ source → IsClient (length v.clients) other → SizeFacts z other v.version (client v other) (is_holder v other) v.bytes ys
    far p q = sizes_calls z other v.version (client v other) (is_holder v other) v.bytes (things v) ys (t.sizes other q) ways.arrivals (λ h a. answered_on other (own_stamp v other) (is_holder v other) (things v) ys ways h a)
        (λ x y. elim (in_with new x (things v) y) [ inl g ↦ inl (told_self x (things v) g.0) | inr g ↦ inr (subst (RightSize z other (client v other) (is_holder v other) v.bytes) (sym g) (new_far other p)) ])
      where
        ways : Ways other (own_stamp v other) (is_holder v other) (things v) ys
        ways = ways_answer v other (own_stamp v other) (is_holder v other) one (form.Flushed (client v source).size blocks) t.standing.flat.numbered.differ there n refl (λ b g. p (sym g))

-- an answer to a callback comes: it is stored, and what waits is taken up
pub flushed_all : (z : Setting) (I : Type 0) (note : I → Entered → I) (X Y : I → View → Type 0) → ServeNotes z I note X Y → (had : I) (v : View) (one : FileCall) (stamp : ℕ) (kind : CallKind) (size : ℕ) (blocks : List (BlockNo × List ℕ)) → Standing z v → FlatHolders v → In one v.calls → one.body ≡ form.Callback stamp kind → one.reply ≡ Some (form.Flushed size blocks) → IsClient (length v.clients) one.to → (Answering v one stamp kind → X had (answered_view v one (store_blocks z v.bytes size blocks))) → Y (noted note had (enters_flush z v one (Some (form.Flushed size blocks)))) (callback_answered z v one size blocks)
flushed_all z I note X Y s had v one stamp kind size blocks t holders m e r i x =
    let u : View = record v { bytes = store_blocks z v.bytes size blocks; holder = holder_answered v one.to } in
    let w : View = remove_call u one.number in
    let h : Holds v w = holds_server v w refl refl refl refl refl in
    let flat : Flat u = flat_server v (store_blocks z v.bytes size blocks) v.version (holder_answered v one.to) v.uncached v.opens v.shared t.flat in
    let both : Both w = both_quiet u one (form.Callback stamp kind) e refl (record { flat = flat; streams = streams_same v u refl refl refl refl refl t.streams }) m in
    let waiting : waiting_calls w ≡ waiting_calls v = waiting_without v.calls one (calls_apart v t.flat.numbered.differ) m (answered_waits one (ap is_some r)) in
    let k : one.taken ≡ true = (t.flat.calls one m).taken_first (form.Flushed size blocks) r in
    elim t.decided.queues [
      | inl a ↦ absurd (cc (a.0 one m, ap is_callback e))
      | inr b ↦ (
          let more : waiting_calls w ≡ waiting_calls v ++ [] = waiting ∙ sym (append-nil (waiting_calls v)) in
          let next : Asking z w = asking_more z v w h [] more (λ y j c. back_self v.calls y (in_without one.number y v.calls j).0) b.1 in
          let first : next.first ∷ next.rest ≡ b.1.first ∷ b.1.rest = sym next.waiting ∙ (waiting ∙ b.1.waiting) in
          let answering : Answering v one stamp kind = record { flat = t.flat; stamps = t.stamps; modes = t.modes; holders = holders; ruled = t.decided.ruled; there = m; is_call = e; taken = k } in
          notes_flushed z I note X Y s had v one (store_blocks z v.bytes size blocks) stamp kind answering i b.1 both
          (stamps_remove u one t.flat.numbered.differ m (stamps_same v u refl refl refl refl refl refl t.stamps))
          next (same_first next.first b.1.first next.rest b.1.rest first)
          (modes_finished z v one t m k (ap asks e)).modes (x answering))
    ]

sizes_answered : (z : Setting) (v : View) (one : FileCall) (stamp : ℕ) (kind : CallKind) (size : ℕ) (blocks : List (BlockNo × List ℕ)) → Full z v → In one v.calls → one.body ≡ form.Callback stamp kind → one.reply ≡ Some (form.Flushed size blocks) → IsClient (length v.clients) one.to → FlatSizes z (callback_answered z v one size blocks)
sizes_answered z v one stamp kind size blocks t m e r i = let w : View = answered_view v one (store_blocks z v.bytes size blocks) in flushed_all z (Unit {0}) unnoted (λ had. Sized z) (λ had. FlatSizes z) (serves_notes z (Sized z) (FlatSizes z) (serves_sizes z)) tt v one stamp kind size blocks t.standing t.holders m e r i (λ answering. record {
  asking = asking_quiet z v w t.asking (quiet_calls v w refl (λ x j. (in_without one.number x v.calls j).0)) t.standing.flat.items.fifteen;
  writing = writing_calm z v w t.writing t.standing.stamps (calm_calls v w refl refl (λ x j. (in_without one.number x v.calls j).0)) t.standing.flat.items.fifteen;
  sizes = sizes_flushed z v one stamp kind size blocks answering r t.standing.streams t.sizes i;
})

-- what clients do with their streams and blocks
sizes_away : (z : Setting) (v : View) (kernel : ℕ) (stream : StreamNo) → Full z v → IsClient (length v.clients) kernel → FlatSizes z (set_client v kernel (uninstall (client v kernel) stream))
sizes_away z v kernel stream t i = sizes_same z v kernel (uninstall (client v kernel) stream) t.writing t.sizes i refl refl refl refl refl

sizes_moving : (z : Setting) (v : View) (stream : StreamNo) (source place : ℕ) (kept : Bool) → Full z v → IsClient (length v.clients) source → FlatSizes z (moving v stream source place kept)
sizes_moving z v stream source place true t i = sizes_begin z v source (form.Move stream place true 0) None t.sizes
sizes_moving z v stream source place false t i = sizes_begin z (set_client v source (uninstall (client v source) stream)) source _ None (sizes_away z v source stream t i)

sizes_sends : (z : Setting) (v : View) (kernel : ℕ) (one : Held) (number : ℕ) (dirty : Option ℕ) → Full z v → IsClient (length v.clients) kernel → held (client v kernel).blocks number ≡ Some one → one.dirty ≡ dirty → FlatSizes z (writing_back_at z v kernel one dirty)
sizes_sends z v kernel one number None t i h d =
    let found : held (client v kernel).blocks one.block.0 ≡ Some one = subst (λ n. held (client v kernel).blocks n ≡ Some one) (sym (held_found (client v kernel).blocks number one h).1) h in
    sizes_kept z v kernel (record (client v kernel) { blocks = without_block one.block.0 (client v kernel).blocks }) t.sizes i (keeps_dropped z kernel (current_stamp v kernel) (client v kernel) one one.block.0 (things v) (t.writing kernel i) found d) refl refl (λ f l. dirty_without_clean (client v kernel).blocks one one.block.0 _ found d (f l))
sizes_sends z v kernel one number (Some dirty) t i h d = sizes_begin z v kernel _ (Some dirty) t.sizes

sizes_filled : (z : Setting) (v : View) (kernel stamp : ℕ) (block : BlockNo) (piece : List ℕ) → FlatWriting z v → FlatSizes z v → IsClient (length v.clients) kernel → FlatSizes z (set_client v kernel (fill z (client v kernel) stamp block piece))
sizes_filled z v kernel stamp block piece w f i = sizes_kept z v kernel (fill z (client v kernel) stamp block piece) f i (keeps_fill z kernel (current_stamp v kernel) (client v kernel) stamp block piece (things v) (w kernel i)) refl refl (λ g l. by_test ((stamp == (client v kernel).stamp) && is_none (held (client v kernel).blocks block.0)) refl (g l))
  where
    by_test : (b : Bool) → ((stamp == (client v kernel).stamp) && is_none (held (client v kernel).blocks block.0)) ≡ b → is_dirty_in (held (client v kernel).blocks (((client v kernel).size - 1) / z.block)) ≡ true → is_dirty_in (held (blocks_filled z (client v kernel).blocks block piece b) (((client v kernel).size - 1) / z.block)) ≡ true
    by_test true e d = dirty_with_clean (client v kernel).blocks _ _ (none_of (held (client v kernel).blocks block.0) (and_parts (stamp == (client v kernel).stamp) (is_none (held (client v kernel).blocks block.0)) e).1) d
    by_test false e d = d

sizes_back : (z : Setting) (v : View) (one : FileCall) (stamp : ℕ) (block : BlockNo) (size : ℕ) (piece : List ℕ) → Full z v → In one v.calls → one.body ≡ form.WriteBack stamp block size piece → one.reply ≡ Some form.Done → IsClient (length v.clients) one.from → FlatSizes z (set_client (remove_call v one.number) one.from (wrote_back (client v one.from) stamp block.0 one.dirty))
sizes_back z v one stamp block size piece t m e r i =
    let u : View = remove_call v one.number in
    sizes_kept z u one.from (wrote_back (client v one.from) stamp block.0 one.dirty) (sizes_removed z v one t.standing.flat t.sizes m (ap asks e) (ap is_callback e)) i
    (keeps_back z one.from (current_stamp v one.from) (client v one.from) stamp block.0 one.dirty (things u) (removed_writing z v one (wrote_full z v t) one.from i) (λ s x k another more rest w same. no_other_back z v one stamp block size piece (wrote_full z v t) m e i s x k another more rest w same)) refl refl
    (λ f l. last_back z (client v one.from).blocks one.dirty (stamp == (client v one.from).stamp) (held (client v one.from).blocks block.0) block.0 (((client v one.from).size - 1) / z.block) refl (λ q there p k. whole (eqb-true stamp (client v one.from).stamp q) there p k l) (f l))
  where
    whole : stamp ≡ (client v one.from).stamp → (there : Held) → Present (client v one.from).blocks block.0 one.dirty there → block.0 ≡ ((client v one.from).size - 1) / z.block → length v.bytes < (client v one.from).size → ⊥
    whole s there p k l = let q = ((t.sizes one.from i).each one (call_in_things v one m)).done_size block size piece (record { from_kernel = refl; is_write_back = e ∙ ap (λ n. form.WriteBack n block size piece) s }) r there p k in omega (arith, q, l)

-- a client's work
pub sizes_works : (z : Setting) → Works z (λ v k s. is_data s ≡ true) (Sizing z)
sizes_works z = record {
  waits = λ v kernel waiting p i q. record {
    writes = (writing_works z).waits v kernel waiting p.writes i q;
    sizes = sizes_same z v kernel (record (client v kernel) { waiting = waiting }) p.writes.writing p.sizes i refl refl refl refl refl;
  };
  enters = λ v kernel step p i o n q. record {
    writes = (writing_works z).enters v kernel step p.writes i o n q;
    sizes = sizes_kept z v kernel (done_cached z (client v kernel) step) p.sizes i (keeps_done z kernel (current_stamp v kernel) (client v kernel) step (things v) (p.writes.writing kernel i) (numbers_under v kernel p.writes.flat i)) (alike_done z (client v kernel) step).version (alike_done z (client v kernel) step).mode (last_done z (client v kernel) step v.bytes);
  };
  operates = λ v kernel step p i q. record {
    writes = (writing_works z).operates v kernel step p.writes i q;
    sizes = sizes_begin z v kernel (op_of (client v kernel).stamp step) None p.sizes;
  };
  still_waits = λ v kernel waiting s i q. q;
  still_enters = λ v kernel step s i q. q;
  still_operates = λ v kernel step s q. q;
  fetches = λ v kernel number p i. record {
    writes = (writing_works z).fetches v kernel number p.writes i;
    sizes = sizes_begin z v kernel (form.Fetch (client v kernel).stamp (record { 0 = number })) None p.sizes;
  };
}

-- each part of a step or move
pub sizes_parts : (z : Setting) → Parts z (λ v k s. is_data s ≡ true) (Full z) (Sizing z) (FlatSizes z)
sizes_parts z = record {
  works = sizes_works z;
  flat = λ v t. t.standing.flat;
  same = λ v t. record { writes = record { flat = t.standing.flat; writing = t.writing }; sizes = t.sizes };
  rests = λ v p. p.sizes;
  wanted = λ v kernel t p i s m. (p.writes.flat.fine kernel i).waits s m;
  filled_wanted = λ v one stamp block other piece t n e r i p j s m. (p.writes.flat.fine one.from j).waits s m;
  fetch_again_wanted = λ v one stamp block grant t n e r i p j s m. (p.writes.flat.fine one.from j).waits s m;
  again_wanted = λ v one grant t m pid number stamp stream way e r i. data_step pid number one.from stream way;
  begun = λ v step t d e. d;
  removed = λ v one t m r a c. sizes_removed z v one t.standing.flat t.sizes m a c;
  opened = λ v one stream grant t m pid number mode truncate e r i.
      sizes_takes z v one one.from grant (without_call one.number v.calls) v.carried _ t (brings_arrival z v one one.from grant (without_call one.number v.calls) v.carried t (call_in_things v one m) (things_without v one t.standing.flat.numbered.differ m) (ap is_callback e) (ap (goes_of one.from) e, ap arrival r) i) i (removed_writing z v one (wrote_full z v t));
  moved = λ v one stream place kept grants grant more t m e r. sizes_moved z v one stream place kept grants grant more t.standing.flat t.sizes m e r;
  came = λ v carry grant t m e.
      let there : In (as_call carry) (things v) = in_left (as_call carry) (map as_call v.carried) v.calls (map_in as_call carry v.carried m) in
      let i : IsClient (length v.clients) carry.to = (t.standing.flat.carried carry m).client in
      let w : View = record v { carried = without_carried carry.call v.carried } in
      sizes_takes z v (as_call carry) carry.to grant v.calls (without_carried carry.call v.carried) _ t (brings_arrival z v (as_call carry) carry.to grant v.calls (without_carried carry.call v.carried) t there (things_uncarried v carry t.standing.flat.numbered.differ m) refl (refl, e) i) i
      (writing_calm z v w t.writing t.standing.stamps (calm_calls v w refl refl (λ x k. k)) t.standing.flat.items.fifteen);
  filled = λ v one stamp block other piece t m e r i. record {
    writes = (writing_parts z).filled v one stamp block other piece (wrote_full z v t) m e r i;
    sizes = sizes_filled z (remove_call v one.number) one.from other block piece (removed_writing z v one (wrote_full z v t)) (sizes_removed z v one t.standing.flat t.sizes m (ap asks e) (ap is_callback e)) i;
  };
  again = λ v one stamp grant t m e r i. record {
    writes = (writing_parts z).again v one stamp grant (wrote_full z v t) m e r i;
    sizes = sizes_takes z v one one.from grant (without_call one.number v.calls) v.carried (take_grant (client v one.from) grant).streams t (brings_again z v one grant t m (request_plain one.body stamp e) r i) i (removed_writing z v one (wrote_full z v t));
  };
  done = λ v one stamp block size piece t m e r i. sizes_back z v one stamp block size piece t m e r i;
  flushed = λ v one stamp kind size blocks t m e r i. sizes_answered z v one stamp kind size blocks t m e r i;
  called = λ v one stamp kind t m e k n i. sizes_called z v one stamp kind t m e k n i;
  requested = λ v one t m s k n c. serves_request z (Sized z) (FlatSizes z) (serves_sizes z) v one (record { flat = t.standing.flat; streams = t.standing.streams }) t.standing.stamps t.standing.decided.ruled t.standing.modes t.holders m s n c (record { asking = t.asking; writing = t.writing; sizes = t.sizes });
  opens = λ v kernel pid number stream mode truncate t i. sizes_begin z v kernel (form.Opening pid number stream mode truncate) None t.sizes;
  closes = λ v kernel stream t i. sizes_begin z (set_client v kernel (uninstall (client v kernel) stream)) kernel _ None (sizes_away z v kernel stream t i);
  moves = λ v stream source place kept t i. sizes_moving z v stream source place kept t i;
  backs = λ v kernel one number t i h e. sizes_sends z v kernel one number one.dirty t i h refl;
  numbered = λ v next t l. t.sizes;
  counted = λ v kernel count t i l. sizes_same z v kernel (record (client v kernel) { count = count }) t.writing t.sizes i refl refl refl refl refl;
  zeroed = λ v kernel block t i e.
      let absent : held (client v kernel).blocks block.0 ≡ None = is_absent z (client v kernel) block.0 e in
      sizes_kept z v kernel (record (client v kernel) { blocks = with_block (record { block = block; bytes = zeros z.block; dirty = None }) (client v kernel).blocks }) t.sizes i (keeps_filled z kernel (current_stamp v kernel) (client v kernel) (record { block = block; bytes = zeros z.block; dirty = None }) (things v) (t.writing kernel i) refl absent) refl refl (λ f l. dirty_with_clean (client v kernel).blocks (record { block = block; bytes = zeros z.block; dirty = None }) _ absent (f l));
  raised = λ v version t u q l. λ kernel i. let f : SizeFacts z kernel v.version (client v kernel) (is_holder v kernel) v.bytes (things v) = t.sizes kernel i in record {
    granted = f.granted;
    holder = λ r n. absurd (idle_off v t.standing.modes t.standing.decided.ruled (idle v q) u kernel i r.on);
    each = f.each;
  };
  uncached = λ v t. t.sizes;
}
  where
    request_plain : (body : FileBody) (stamp : ℕ) → request_stamp body ≡ Some stamp → is_callback body ≡ false
    request_plain (form.Callback other kind) stamp e = absurd (cc (e))
    request_plain body stamp e = refl

-- the two ways to say it
pub near_ways : (v : View) (kernel : ℕ) → Ways kernel (own_stamp v kernel) (is_holder v kernel) (at_kernel v kernel).calls (things v)
near_ways v kernel = record {
  arrivals = record {
    back = λ one m grant a. record { call = one; there = filter_in (about kernel) one (things v) m (about_arrives kernel one grant a); arrives = a; same = refl };
    on = λ one m grant a n. record { call = one; there = (in_filter (about kernel) one (things v) m).0; arrives = a; same = refl };
  };
  called = λ one m t stamp kind e. record { call = one; there = filter_in (about kernel) one (things v) m (about_to kernel one t); to_kernel = t; is_call = e; taken_is = refl };
  calls = λ h one m t stamp kind e. record { call = one; there = (in_filter (about kernel) one (things v) m).0; to_kernel = t; is_call = e; taken_is = refl };
}

pub far_ways : (v : View) (kernel : ℕ) → Ways kernel (own_stamp v kernel) (is_holder v kernel) (things v) (at_kernel v kernel).calls
far_ways v kernel = record {
  arrivals = record {
    back = λ one m grant a. record { call = one; there = (in_filter (about kernel) one (things v) m).0; arrives = a; same = refl };
    on = λ one m grant a n. record { call = one; there = filter_in (about kernel) one (things v) m (about_arrives kernel one grant a); arrives = a; same = refl };
  };
  called = λ one m t stamp kind e. record { call = one; there = (in_filter (about kernel) one (things v) m).0; to_kernel = t; is_call = e; taken_is = refl };
  calls = λ h one m t stamp kind e. record { call = one; there = filter_in (about kernel) one (things v) m (about_to kernel one t); to_kernel = t; is_call = e; taken_is = refl };
}

-- a call that is about another kernel says nothing
right_other : (z : Setting) (v : View) (kernel : ℕ) (one : FileCall) → about kernel one ≡ false → RightSize z kernel (client v kernel) (is_holder v kernel) v.bytes one
right_other z v kernel one n = record {
  again = λ e. absurd (cc (n, or_left (one.from == kernel) ((one.to == kernel) || (target one.body == kernel)) (eq-eqb one.from kernel e)));
  done_size = λ block size piece w. absurd (cc (n, or_left (one.from == kernel) ((one.to == kernel) || (target one.body == kernel)) (eq-eqb one.from kernel w.from_kernel)));
  flushed_holder = λ e. absurd (cc (n, about_to kernel one e));
  flushed_covers = λ e. absurd (cc (n, about_to kernel one e));
  flushed_within = λ e. absurd (cc (n, about_to kernel one e));
}

pub flat_sizes : (z : Setting) (v : View) → EachSize z v → FlatSizes z v
flat_sizes z v f kernel i = sizes_calls z kernel v.version (client v kernel) (is_holder v kernel) v.bytes (at_kernel v kernel).calls (things v) (facts_of z kernel v.version (client v kernel) (is_holder v kernel) v.bytes (at_kernel v kernel).calls (f kernel i)) (near_ways v kernel).arrivals (λ h a. answered_on kernel (own_stamp v kernel) (is_holder v kernel) (at_kernel v kernel).calls (things v) (near_ways v kernel) h a)
    (λ one m. by_test one m (about kernel one) refl)
  where
    by_test : (one : FileCall) → In one (things v) → (b : Bool) → about kernel one ≡ b → Told one (at_kernel v kernel).calls ⊎ RightSize z kernel (client v kernel) (is_holder v kernel) v.bytes one
    by_test one m true e = inl (told_self one (at_kernel v kernel).calls (filter_in (about kernel) one (things v) m e))
    by_test one m false e = inr (right_other z v kernel one e)

pub each_size : (z : Setting) (v : View) → FlatSizes z v → EachSize z v
each_size z v f kernel i = sizes_of z kernel v.version (client v kernel) (is_holder v kernel) v.bytes (at_kernel v kernel).calls (sizes_calls z kernel v.version (client v kernel) (is_holder v kernel) v.bytes (things v) (at_kernel v kernel).calls (f kernel i) (far_ways v kernel).arrivals (λ h a. answered_on kernel (own_stamp v kernel) (is_holder v kernel) (things v) (at_kernel v kernel).calls (far_ways v kernel) h a)
    (λ one m. inl (told_self one (things v) (in_filter (about kernel) one (things v) m).0)))

pub full_of : (z : Setting) (v : View) → Shapes v → Streams v → Stamps v → Decisions z v → Modes v → Holders v → EachAsks z v → EachWritesBack z v → EachSize z v → Full z v
full_of z v s r p d m h a w f = record { standing = standing_of z v s r p d m; holders = flat_holders v h; asking = flat_asking z v a; writing = flat_writing z v w; sizes = flat_sizes z v f }

pub steps_keep_sizes : (z : Setting) (v : View) (step : FileStep) → Shapes v → Streams v → Stamps v → Decisions z v → Modes v → Holders v → EachAsks z v → EachWritesBack z v → EachSize z v → EachSize z (stepped z v step)
steps_keep_sizes z v step s r p d m h a w f = choose_by (EachSize z) (possible z v step) (after z v step) v (λ e. each_size z (after z v step) (part_after z _ (Full z) (Sizing z) (FlatSizes z) (sizes_parts z) v step (and_parts (has_room v) (may_do z v step) e).1 (full_of z v s r p d m h a w f))) (λ e. f)

pub moves_keep_sizes : (z : Setting) (v : View) (other : ClientMove) → may_move z v other ≡ true → Shapes v → Streams v → Stamps v → Decisions z v → Modes v → Holders v → EachAsks z v → EachWritesBack z v → EachSize z v → EachSize z (after_move z v other)
moves_keep_sizes z v other e s r p d m h a w f = each_size z (after_move z v other) (part_move z _ (Full z) (Sizing z) (FlatSizes z) (sizes_parts z) v other e (full_of z v s r p d m h a w f))

-- a new file
pub new_has_sizes : (z : Setting) (count : ℕ) (bytes : List ℕ) → EachSize z (new_view count bytes)
new_has_sizes z count bytes kernel i = record {
  granted = λ one m. absurd m;
  again = λ one m. absurd m;
  holder = λ r. absurd (cc (r.holds_it));
  done_size = λ one m. absurd m;
  flushed_holder = λ one m. absurd m;
  flushed_covers = λ one m. absurd m;
  flushed_within = λ one m. absurd m;
}
