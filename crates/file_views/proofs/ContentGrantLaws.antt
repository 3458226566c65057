-- What blocks contain, the eighth layer of soundness, where a grant is given, and where an answer to a callback is stored.
use Rattle.std.proofs.Common.{◌≡◌, ◌≢◌, ◌≤◌, ◌<◌, ◌⊎◌, ℕ, ◌+◌, ◌-◌, ◌*◌, ◌==◌, Bool, true, false, cond, not, ◌&&◌, ◌||◌, List, [], ◌∷◌, length, filter, Some, refl, sym, ap, ◌∙◌, subst, inl, inr, arith, eqb-true, length-take}
use Rattle.std.proofs.lemmas.Bool.{and_from}
use Rattle.std.proofs.lemmas.Bool.Decides.{eqb_tells}
use Rattle.sprite_ids.specs.declared.BlockNo.{BlockNo}
use Rattle.sprite_ids.specs.declared.CallKind.{CallKind}
use Rattle.file_views.specs.declared.grant.FileGrant.{FileGrant}
use Rattle.file_views.specs.declared.body.FileBody.{FileBody}
use Rattle.file_views.specs.declared.body.FileBody.TheVariants as form
use Rattle.file_views.specs.declared.opens.Open.{Open}
use Rattle.file_views.specs.declared.call.FileCall.{FileCall}
use Rattle.file_views.specs.declared.view.View.{View}
use Rattle.file_views.specs.Setting.{Setting}
use Rattle.file_views.specs.Contents.{part, cut, put_block}
use Rattle.file_views.specs.Streams.{is_any}
use Rattle.file_views.specs.Clients.{is_on}
use Rattle.file_views.specs.Views.{client, current_stamp, is_holder, is_callback, last_stamp, things, with_call, without_call, replied}
use Rattle.file_views.specs.Grants.{asks, truncates, asks_to_write, opens_after, receiver, granting, grant_of, settle, current_grant, told}
use Rattle.file_views.specs.Serving.{bytes_after, op_reply, close, block_of, data_op, refuse_old, store_blocks}
use Rattle.file_views.specs.Streams.{take_off}
use Rattle.file_views.specs.Moves.{is_fetch}
use Rattle.file_views.specs.Settled.{goes_to, arrival}
use Rattle.file_views.specs.Here.{In, IsClient, Arrives, request_stamp}
use Rattle.file_views.specs.SoundHolders.{Engaged}
use Rattle.file_views.specs.SoundContents.{HasOpen, FlushedBlock, SomeFlushed}
use Rattle.file_views.proofs.MemberLaws.{in_filter, filter_in, in_with, in_without, without_in, with_in, with_new}
use Rattle.file_views.proofs.EffectLaws.{things_with, things_without, call_in_things, same_thing}
use Rattle.file_views.proofs.CountLaws.{bool_cases, has_some}
use Rattle.file_views.proofs.OpenLaws.{Left, left_in, OpenAt, open_there}
use Rattle.file_views.proofs.StampLaws.{own_stamp}
use Rattle.file_views.proofs.StampChangeLaws.{no_call_thing}
use Rattle.file_views.proofs.StampServeLaws.{granting_arrives, goes_asked}
use Rattle.file_views.proofs.StampGrantLaws.{under_greatest}
use Rattle.file_views.proofs.DecisionServeLaws.{opened_before}
use Rattle.file_views.proofs.ModeServeLaws.{OpenFor, arrival_there}
use Rattle.file_views.proofs.HolderLaws.{Arrivals, DirtyIn, seat}
use Rattle.file_views.proofs.HolderChangeLaws.{ways_without}
use Rattle.file_views.proofs.HolderSettleLaws.{Settles, alone_by, holder_is, settled_calls}
use Rattle.file_views.proofs.HolderServeLaws.{Answering, answered_view}
use Rattle.file_views.proofs.AskingStepLaws.{FlatAsking}
use Rattle.file_views.proofs.WritingStepLaws.{set_rises}
use Rattle.file_views.specs.Data.{step_of}
use Rattle.file_views.specs.Entries.{told_reply, enters_settled, is_right}
use Rattle.file_views.proofs.WorkLaws.{noted}
use Rattle.file_views.proofs.ReplyLaws.{op_bytes, op_right}
use Rattle.file_views.proofs.ServeLaws.{ServeNotes, serves_body}
use Rattle.file_views.proofs.SizeLaws.{told_self, dirty_found, present_dirty, length_put}
use Rattle.file_views.proofs.SizeServeLaws.{FlatSizes, Sized, flush_called, idle_off, none_open, serves_sizes}
use Rattle.file_views.proofs.LimitLaws.{granting_no_flush}
use Rattle.file_views.proofs.BytesLaws.{put_elsewhere, put_cut, part_length}
use Rattle.file_views.proofs.ContentLaws.{KeptBy, KeptNow, GoodBlocks, current_kept, good_calls, CarriedCall, carried_none, carried_current, carried_bytes}
use Rattle.file_views.proofs.ContentViewLaws.{Con, Noted, note, Has, stand_same, stands_calls}
use Rattle.file_views.proofs.ContentServeLaws.{con_answer, new_answer, no_block, con_out, con_taken, waiting_open, fetched_right, con_stored, con_bare, con_operated, served_bytes}

-- what a grant is, and when it is the new one
no_on : (uncached : Bool) → not uncached ≡ true → uncached ≡ false
no_on true e = absurd (cc (e))
no_on false e = refl

is_off : (uncached : Bool) → not uncached ≡ false → uncached ≡ true
is_off true e = refl
is_off false e = absurd (cc (e))

grows_new : (version : ℕ) (b : Bool) → version ≤ cond b (version + 1) version
grows_new version true = omega arith
grows_new version false = omega arith

old_plain : (b : Bool) (next version : ℕ) → b ≡ false → cond b next version ≡ version
old_plain true next version e = absurd (cc (e))
old_plain false next version e = refl

old_cut : (b : Bool) (c : Bool) (version : ℕ) → b ≡ true → cond b (cond (b || c) (version + 1) version) version ≡ version + 1
old_cut true c version e = refl
old_cut false c version e = absurd (cc (e))

new_cut : (b : Bool) (c : Bool) (version : ℕ) → b ≡ true → cond (b || c) (version + 1) version ≡ version + 1
new_cut true c version e = refl
new_cut false c version e = absurd (cc (e))

no_write_back : (body : FileBody) → asks body ≡ true → (stamp : ℕ) (block : BlockNo) (size : ℕ) (piece : List ℕ) → body ≡ form.WriteBack stamp block size piece → ⊥
no_write_back body a stamp block size piece e = cc (a, ap asks e)

-- a grant that arrives is an old one, or the new one at its receiver, over all stamps
arrived : (z : Setting) (v : View) (one : FileCall) → Settles z v one → (kernel : ℕ) → (y : FileCall) → In y (with_call (replied one (granting one.body (grant_of v one))) (things v)) → (grant : FileGrant) → Arrives kernel y grant → In y (things v) ⊎ ((grant ≡ grant_of v one) × (kernel ≡ receiver one))
arrived z v one s kernel y m grant a = elim (in_with (replied one (granting one.body (grant_of v one))) y (things v) m) [
  | inl p ↦ inl p.0
  | inr q ↦ inr (given q, sym a.0 ∙ ap goes_to q ∙ goes_asked one.from one.body s.asks_it)
]
  where
    given : y ≡ replied one (granting one.body (grant_of v one)) → grant ≡ grant_of v one
    given q = let r : Some grant ≡ Some (grant_of v one) = sym a.1 ∙ ap (λ (c : FileCall). arrival c.reply) q ∙ granting_arrives one.body (grant_of v one) s.asks_it in cc (r)

over_own : (z : Setting) (v : View) (one : FileCall) → Settles z v one → (kernel : ℕ) → IsClient (length v.clients) kernel → own_stamp v kernel < (grant_of v one).stamp
over_own z v one s kernel i = let a = s.stamps.own_below kernel i in let b = under_greatest v.stamps (kernel - 1) in omega (arith, a, b)

still_there : (z : Setting) (v : View) (one : FileCall) → Settles z v one → (y : FileCall) → In y (things v) → (kernel : ℕ) (grant : FileGrant) → Arrives kernel y grant → In y (with_call (replied one (granting one.body (grant_of v one))) (things v))
still_there z v one s y m kernel grant a = with_in (replied one (granting one.body (grant_of v one))) y (things v) m (λ q. let same : y ≡ one = same_thing v y one s.both.flat.numbered.differ m (call_in_things v one s.there) q in cc (a.1, s.unanswered, ap (λ (c : FileCall). arrival c.reply) same, ap arrival s.unanswered))

new_there : (z : Setting) (v : View) (one : FileCall) → Settles z v one → In (replied one (granting one.body (grant_of v one))) (with_call (replied one (granting one.body (grant_of v one))) (things v))
new_there z v one s = with_new (replied one (granting one.body (grant_of v one))) one (things v) refl (call_in_things v one s.there)

-- who has it open then, had it before, or receives it
open_before : (z : Setting) (v : View) (one : FileCall) → Settles z v one → (kernel : ℕ) → kernel ≢ receiver one → HasOpen (filter (λ (x : Open). x.kernel == kernel) (opens_after v.opens one.from one.body)) → HasOpen (seat v kernel).opened
open_before z v one s kernel d h = let p = in_filter (λ (x : Open). x.kernel == kernel) h.one (opens_after v.opens one.from one.body) h.there in elim (opened_before v.opens one.from one.body h.one s.asks_it p.0) [
  | inl l ↦ record { one = l.before; there = filter_in (λ (x : Open). x.kernel == kernel) l.before v.opens l.there (ap (λ n. n == kernel) (sym l.kernel_is) ∙ p.1) }
  | inr r ↦ absurd (d (sym (eqb-true h.one.kernel kernel p.1) ∙ r))
]

-- the receiver's new grant is On while it uses its cache
receiver_on : (z : Setting) (v : View) (one : FileCall) → Settles z v one → (kernel : ℕ) → IsClient (length v.clients) kernel → kernel ≡ receiver one → is_on (client v kernel).mode ≡ true → KeptNow kernel (own_stamp v kernel) (client v kernel).version (grant_of v one).new (filter (λ (x : Open). x.kernel == kernel) (opens_after v.opens one.from one.body)) (with_call (replied one (granting one.body (grant_of v one))) (things v)) → ⊥
receiver_on z v one s kernel i e o k =
    let n : (grant_of v one).on ≡ false = k.none (replied one (granting one.body (grant_of v one))) (new_there z v one s) (grant_of v one) (goes_asked one.from one.body s.asks_it ∙ sym e, granting_arrives one.body (grant_of v one) s.asks_it) (over_own z v one s kernel i) in
    idle_off v s.modes s.ruled s.none (is_off v.uncached n) kernel i o

-- where nothing is truncated
good_settled : (z : Setting) (stood : List ℕ) (v : View) (one : FileCall) → Settles z v one → truncates one.body ≡ false → Con z stood v → (kernel : ℕ) → IsClient (length v.clients) kernel → GoodBlocks z stood kernel (grant_of v one).new (client v kernel) (filter (λ (x : Open). x.kernel == kernel) (opens_after v.opens one.from one.body)) (with_call (replied one (granting one.body (grant_of v one))) (things v))
good_settled z stood v one s c con kernel i = record {
  engaged_size = λ o e. good.engaged_size o (engaged_was e);
  engaged = λ o e. good.engaged o (engaged_was e);
  fetched = λ y m f stamp block q t other piece r. elim (in_with new y (things v) m) [ inl p ↦ good.fetched y p.0 f stamp block q t other piece r | inr k ↦ absurd (cc (s.asks_it, ap asks (sym (ap (λ (x : FileCall). x.body) k) ∙ q))) ];
  kept = λ o k. good.kept o (kept_was o k);
}
  where
    new : FileCall
    new = replied one (granting one.body (grant_of v one))

    good : GoodBlocks z stood kernel v.version (client v kernel) (seat v kernel).opened (things v)
    good = con.good kernel i

    engaged_was : Engaged kernel (own_stamp v kernel) (client v kernel).streams (with_call new (things v)) → Engaged kernel (own_stamp v kernel) (client v kernel).streams (things v)
    engaged_was (inl x) = inl x
    engaged_was (inr x) = elim (arrived z v one s kernel x.call x.there x.grant x.arrives) [
      | inl m ↦ inr (record { call = x.call; grant = x.grant; there = m; arrives = x.arrives; old = x.old })
      | inr q ↦ absurd (let a = over_own z v one s kernel i in let b = x.old in let e : x.grant.stamp ≡ (grant_of v one).stamp = ap (λ (g : FileGrant). g.stamp) q.0 in omega (arith, a, b, e))
    ]

    all_on : v.uncached ≡ false → (y : FileCall) → In y (things v) → (grant : FileGrant) → Arrives kernel y grant → own_stamp v kernel < grant.stamp → grant.on ≡ true
    all_on u y m grant a l = elim (bool_cases grant.on) [ inl k ↦ k | inr k ↦ absurd (cc (u, (s.modes kernel i).off_uncached y m grant a l k)) ]

    version_is : (client v kernel).version ≡ (grant_of v one).new → (client v kernel).version ≡ v.version
    version_is e = let a = (s.grantable.each kernel i).seen_below in let b = grows_new v.version (truncates one.body || (asks_to_write v.opens one.body && not (is_holder v (receiver one)))) in omega (arith, a, b, e)

    kept_was : is_on (client v kernel).mode ≡ true → KeptBy kernel (own_stamp v kernel) (client v kernel).version (with_call new (things v)) ⊎ KeptNow kernel (own_stamp v kernel) (client v kernel).version (grant_of v one).new (filter (λ (x : Open). x.kernel == kernel) (opens_after v.opens one.from one.body)) (with_call new (things v)) → KeptBy kernel (own_stamp v kernel) (client v kernel).version (things v) ⊎ KeptNow kernel (own_stamp v kernel) (client v kernel).version v.version (seat v kernel).opened (things v)
    kept_was o (inl k) = elim (arrived z v one s kernel k.call k.is_newer.0 k.grant k.is_newer.1) [
      | inl m ↦ inl (record { call = k.call; grant = k.grant; is_newer = (m, k.is_newer.1, k.is_newer.2); on = k.on; same = k.same })
      | inr q ↦ (
          let u : v.uncached ≡ false = no_on v.uncached (sym (ap (λ (g : FileGrant). g.on) q.0) ∙ k.on) in
          let at : (client v kernel).version ≡ v.version = sym k.same ∙ ap (λ (g : FileGrant). g.old) q.0 ∙ old_plain (truncates one.body) _ v.version c in
          current_kept kernel (own_stamp v kernel) (client v kernel).version v.version (seat v kernel).opened (things v) at (all_on u) (s.grantable.each kernel i).chained)
    ]
    kept_was o (inr k) = inr (record {
      none = λ y m grant a l. k.none y (still_there z v one s y m kernel grant a) grant a l;
      counts = elim k.counts [
        | inl h ↦ elim (eqb_tells kernel (receiver one)) [ inl e ↦ absurd (receiver_on z v one s kernel i e.1 o k) | inr d ↦ inl (open_before z v one s kernel d.1 h) ]
        | inr e ↦ inr (version_is e)
      ];
    })

-- where it truncates, nothing counts
good_cut : (z : Setting) (stood : List ℕ) (v : View) (one : FileCall) → Settles z v one → truncates one.body ≡ true → FlatAsking z v → (kernel : ℕ) → IsClient (length v.clients) kernel → GoodBlocks z stood kernel (grant_of v one).new (client v kernel) (filter (λ (x : Open). x.kernel == kernel) (opens_after v.opens one.from one.body)) (with_call (replied one (granting one.body (grant_of v one))) (things v))
good_cut z stood v one s c asking kernel i = record {
  engaged_size = λ o e. absurd (not_engaged o e);
  engaged = λ o e. absurd (not_engaged o e);
  fetched = λ y m f stamp block q t other piece r. absurd (elim (in_with new y (things v) m) [
    | inl p ↦ by_cached (λ u. idle_off v s.modes s.ruled s.none u kernel i ((asking kernel i).fetch_on y p.0 f stamp block q t)) (λ n. let w = waiting_open v s.both.flat s.both.streams kernel i ((asking kernel i).fetch_waits y p.0 f (ap is_fetch q)) in none_open v.opens n w.1.one w.1.there)
    | inr k ↦ cc (s.asks_it, ap asks (sym (ap (λ (x : FileCall). x.body) k) ∙ q))
  ]);
  kept = λ o k. absurd (not_kept o k);
}
  where
    new : FileCall
    new = replied one (granting one.body (grant_of v one))

    no_any : v.uncached ≡ false → is_any v.opens ≡ false
    no_any u = elim (bool_cases (is_any v.opens)) [ inl k ↦ absurd (cc ((alone_by z v one u (s.told u)).closed, and_from (truncates one.body) (is_any v.opens) c k)) | inr k ↦ k ]

    by_cached : (v.uncached ≡ true → ⊥) → (is_any v.opens ≡ false → ⊥) → ⊥
    by_cached f g = elim (bool_cases v.uncached) [ inl u ↦ f u | inr u ↦ g (no_any u) ]

    no_arrival : is_any v.opens ≡ false → (y : FileCall) → In y (things v) → (grant : FileGrant) → Arrives kernel y grant → ⊥
    no_arrival n y m grant a = let o : OpenFor v kernel y = arrival_there v s.both.flat s.both.streams y m kernel grant a in none_open v.opens n o.at.one o.at.there

    not_engaged : is_on (client v kernel).mode ≡ true → Engaged kernel (own_stamp v kernel) (client v kernel).streams (with_call new (things v)) → ⊥
    not_engaged o (inl x) = by_cached (λ u. idle_off v s.modes s.ruled s.none u kernel i o) (λ n.
        let a = s.both.streams.counts kernel i x.stream in
        let b = has_some x.stream (client v kernel).streams x.there in
        let p : OpenAt x.stream kernel v.opens = open_there x.stream kernel v.opens (omega (arith, a, b)) in
        none_open v.opens n p.one p.there)
    not_engaged o (inr x) = by_cached (λ u. idle_off v s.modes s.ruled s.none u kernel i o) (λ n. elim (arrived z v one s kernel x.call x.there x.grant x.arrives) [
      | inl m ↦ no_arrival n x.call m x.grant x.arrives
      | inr q ↦ (let a = over_own z v one s kernel i in let b = x.old in let e : x.grant.stamp ≡ (grant_of v one).stamp = ap (λ (g : FileGrant). g.stamp) q.0 in omega (arith, a, b, e))
    ])

    below : (client v kernel).version ≤ v.version
    below = (s.grantable.each kernel i).seen_below

    not_kept : is_on (client v kernel).mode ≡ true → KeptBy kernel (own_stamp v kernel) (client v kernel).version (with_call new (things v)) ⊎ KeptNow kernel (own_stamp v kernel) (client v kernel).version (grant_of v one).new (filter (λ (x : Open). x.kernel == kernel) (opens_after v.opens one.from one.body)) (with_call new (things v)) → ⊥
    not_kept o (inl k) = by_cached (λ u. idle_off v s.modes s.ruled s.none u kernel i o) (λ n. elim (arrived z v one s kernel k.call k.is_newer.0 k.grant k.is_newer.1) [
      | inl m ↦ no_arrival n k.call m k.grant k.is_newer.1
      | inr q ↦ (let a : (client v kernel).version ≡ v.version + 1 = sym k.same ∙ ap (λ (g : FileGrant). g.old) q.0 ∙ old_cut (truncates one.body) (asks_to_write v.opens one.body && not (is_holder v (receiver one))) v.version c in omega (arith, a, below))
    ])
    not_kept o (inr k) = by_cached (λ u. idle_off v s.modes s.ruled s.none u kernel i o) (λ n. elim k.counts [
      | inl h ↦ elim (eqb_tells kernel (receiver one)) [
        | inl e ↦ receiver_on z v one s kernel i e.1 o k
        | inr d ↦ (let x : HasOpen (seat v kernel).opened = open_before z v one s kernel d.1 h in none_open v.opens n x.one (in_filter (λ (y : Open). y.kernel == kernel) x.one v.opens x.there).0)
      ]
      | inr e ↦ (let a : (grant_of v one).new ≡ v.version + 1 = new_cut (truncates one.body) (asks_to_write v.opens one.body && not (is_holder v (receiver one))) v.version c in omega (arith, a, e, below))
    ])

kept_bytes : (b : Bool) (bytes : List ℕ) → b ≡ false → cond b [] bytes ≡ bytes
kept_bytes true bytes e = absurd (cc (e))
kept_bytes false bytes e = refl

-- what enters by a grant: an open that truncates empties the bytes
settled_note : (z : Setting) (had : Noted) (one : FileCall) → asks one.body ≡ true → had.right ≡ true → ((noted (note z) had (enters_settled one one.body)).right ≡ true) × ((noted (note z) had (enters_settled one one.body)).bytes ≡ cond (truncates one.body) [] had.bytes)
settled_note z had one a h = by_body one.body a
  where
    by_body : (body : FileBody) → asks body ≡ true → ((noted (note z) had (enters_settled one body)).right ≡ true) × ((noted (note z) had (enters_settled one body)).bytes ≡ cond (truncates body) [] had.bytes)
    by_body (form.Opening pid number stream mode truncate) q = (and_from had.right true h refl, refl)
    by_body (form.Move stream place kept grants) q = (h, refl)
    by_body body q = absurd (cc (q))

pub has_settled : (z : Setting) (had : Noted) (v : View) (one : FileCall) → Settles z v one → Sized z v → Has z had v → Has z (noted (note z) had (enters_settled one one.body)) (settle v one)
has_settled z had v one s x h = elim (bool_cases (truncates one.body)) [
  | inl c ↦ record {
    right = (settled_note z had one s.asks_it h.right).0;
    con = subst (λ xs. Con z xs w) (ap (λ b. cond b [] v.bytes) c ∙ sym ((settled_note z had one s.asks_it h.right).1 ∙ ap (λ b. cond b [] had.bytes) c)) (con_bare z w
        (λ kernel i. subst (GoodBlocks z w.bytes kernel w.version (client v kernel) (seat w kernel).opened) (sym now) (good_cut z w.bytes v one s c x.asking kernel i))
        (λ kernel i d. nobody_dirty c kernel i d)
        (λ y m size blocks r. elim (in_with new y (things v) (subst (In y) now m)) [
          | inl p ↦ no_call_thing v s.none y p.0 (flush_called v s.both.flat y p.0 size blocks r)
          | inr k ↦ granting_no_flush one.body (grant_of v one) size blocks s.asks_it (let q : Some (granting one.body (grant_of v one)) ≡ Some (form.Flushed size blocks) = sym (ap (λ (y : FileCall). y.reply) k) ∙ r in cc (q))
        ])
        (λ kernel i y m block size piece t r. elim (in_with new y (things v) (subst (In y) now m)) [
          | inl p ↦ (
              let a = h.con.low kernel i y p.0 t.from_kernel (current_stamp w kernel) (ap request_stamp t.is_write_back) in
              let b = rises kernel in
              let same : current_stamp w kernel ≡ current_stamp v kernel = omega (arith, a, b) in
              let d : DirtyIn (client v kernel).blocks = dirty_found (client v kernel).blocks block.0 ((x.writing kernel i).held_dirty y p.0 block size piece (record { from_kernel = t.from_kernel; is_write_back = t.is_write_back ∙ ap (λ n. form.WriteBack n block size piece) same }) r) in
              nobody_dirty c kernel i d)
          | inr k ↦ cc (r, ap (λ (y : FileCall). y.reply) k)
        ])
        lows);
  }
  | inr c ↦ record {
    right = (settled_note z had one s.asks_it h.right).0;
    con = subst (λ xs. Con z xs w) (sym ((settled_note z had one s.asks_it h.right).1 ∙ ap (λ b. cond b [] had.bytes) c)) (record {
      stands = stands_calls z had.bytes v w h.con.stands (record {
        clients = refl;
        bytes = kept_bytes (truncates one.body) v.bytes c;
        told = λ y m. elim (in_with new y (things v) (subst (In y) now m)) [ inl p ↦ inl (told_self y (things v) p.0) | inr k ↦ inr (λ size blocks r. granting_no_flush one.body (grant_of v one) size blocks s.asks_it (let q : Some (granting one.body (grant_of v one)) ≡ Some (form.Flushed size blocks) = sym (ap (λ (y : FileCall). y.reply) k) ∙ r in cc (q))) ];
        flushes = λ y m size blocks r. absurd (no_call_thing v s.none y m (flush_called v s.both.flat y m size blocks r));
      });
      good = λ kernel i. subst (GoodBlocks z had.bytes kernel w.version (client v kernel) (seat w kernel).opened) (sym now) (good_settled z had.bytes v one s c h.con kernel i);
      carried = λ kernel i y m. subst (λ xs. CarriedCall z kernel (current_stamp w kernel) (client v kernel) xs y) (sym (kept_bytes (truncates one.body) v.bytes c)) (elim (in_with new y (things v) (subst (In y) now m)) [
        | inl p ↦ carried_current z kernel (current_stamp v kernel) (current_stamp w kernel) (client v kernel) v.bytes y (things v) p.0 (h.con.carried kernel i y p.0) (rises kernel) (h.con.low kernel i)
        | inr k ↦ carried_none z kernel (current_stamp w kernel) (client v kernel) v.bytes y (λ block size piece t. no_write_back one.body s.asks_it _ block size piece (sym (ap (λ (y : FileCall). y.body) k) ∙ t.is_write_back)) (λ block size piece t. no_write_back one.body s.asks_it _ block size piece (sym (ap (λ (y : FileCall). y.body) k) ∙ t.is_write_back))
      ]);
      low = lows;
    });
  }
]
  where
    w : View
    w = settle v one

    new : FileCall
    new = replied one (granting one.body (grant_of v one))

    now : things w ≡ with_call new (things v)
    now = settled_calls v one s.both.flat s.there

    rises : (kernel : ℕ) → current_stamp v kernel ≤ current_stamp w kernel
    rises kernel = set_rises v.stamps _ (last_stamp v + 1) (kernel - 1) (omega arith)

    nobody_dirty : truncates one.body ≡ true → (kernel : ℕ) → IsClient (length v.clients) kernel → DirtyIn (client v kernel).blocks → ⊥
    nobody_dirty c kernel i d = let r = (s.grantable.each kernel i).dirty_ready d.one d.there d.dirty in cc (c, (s.grantable.spare kernel (holder_is v.holder kernel r.holds_it)).2)

    lows : (kernel : ℕ) → IsClient (length v.clients) kernel → (y : FileCall) → In y (things w) → y.from ≡ kernel → (stamp : ℕ) → request_stamp y.body ≡ Some stamp → stamp ≤ current_stamp w kernel
    lows kernel i y m f stamp q = let b = rises kernel in elim (in_with new y (things v) (subst (In y) now m)) [
      | inl p ↦ (let a = h.con.low kernel i y p.0 f stamp q in omega (arith, a, b))
      | inr k ↦ (let a = h.con.low kernel i one (call_in_things v one s.there) (ap (λ (y : FileCall). y.from) (sym k) ∙ f) stamp (ap (λ (y : FileCall). request_stamp y.body) (sym k) ∙ q) in omega (arith, a, b))
    ]

-- blocks that are stored in a row
pub length_stored : (z : Setting) (size : ℕ) (piece : BlockNo × List ℕ) (rest : List (BlockNo × List ℕ)) (bytes : List ℕ) → length bytes ≤ size → ((x : BlockNo × List ℕ) → In x (piece ∷ rest) → x.0.0 * z.block + length x.1 ≤ size) → length (store_blocks z bytes size (piece ∷ rest)) ≡ size
length_stored z size piece [] bytes l w = let a = length_put z bytes piece.0.0 size piece.1 (w piece (inl refl)) in omega (arith, a, l)
length_stored z size piece (next ∷ rest) bytes l w = length_stored z size next rest (put_block z bytes piece.0.0 size piece.1) (let a = length_put z bytes piece.0.0 size piece.1 (w piece (inl refl)) in omega (arith, a, l)) (λ x m. w x (inr m))

pub record PieceAt (number : ℕ) (blocks : List (BlockNo × List ℕ)) : Type 0 where
  pub piece : BlockNo × List ℕ
  pub inside : In piece blocks
  pub place : piece.0.0 ≡ number

pub stored_part : (z : Setting) (stood : List ℕ) (size : ℕ) (blocks : List (BlockNo × List ℕ)) (bytes : List ℕ) → length stood ≤ size → length bytes ≤ size → ((x : BlockNo × List ℕ) → In x blocks → x.0.0 * z.block + length x.1 ≤ size) → ((x : BlockNo × List ℕ) → In x blocks → x.1 ≡ cut z (part z stood x.0.0) x.0.0 size) → (number : ℕ) → PieceAt number blocks ⊎ (part z bytes number ≡ part z stood number) → part z (store_blocks z bytes size blocks) number ≡ part z stood number
stored_part z stood size [] bytes a b w p number (inl x) = absurd x.inside
stored_part z stood size [] bytes a b w p number (inr e) = e
stored_part z stood size (first ∷ rest) bytes a b w p number o = stored_part z stood size rest after a (let l = length_put z bytes first.0.0 size first.1 (w first (inl refl)) in omega (arith, l, b)) (λ x m. w x (inr m)) (λ x m. p x (inr m)) number (by_place (eqb_tells number first.0.0) o)
  where
    after : List ℕ
    after = put_block z bytes first.0.0 size first.1

    short : length first.1 ≤ z.block
    short = let e = p first (inl refl) in let f : length first.1 ≡ length (cut z (part z stood first.0.0) first.0.0 size) = ap length e in let g = length-take (size - first.0.0 * z.block) (part z stood first.0.0) in let h = part_length z stood first.0.0 in omega (arith, f, g, h)

    by_place : (((number == first.0.0) ≡ true) × (number ≡ first.0.0)) ⊎ (((number == first.0.0) ≡ false) × (number ≢ first.0.0)) → PieceAt number (first ∷ rest) ⊎ (part z bytes number ≡ part z stood number) → PieceAt number rest ⊎ (part z after number ≡ part z stood number)
    by_place (inl e) q = inr (subst (λ n. part z after n ≡ part z stood n) (sym e.1) (ap (λ xs. part z (put_block z bytes first.0.0 size xs) first.0.0) (p first (inl refl)) ∙ put_cut z bytes stood first.0.0 size a b))
    by_place (inr d) (inl x) = elim x.inside [ inl m ↦ absurd (d.1 (sym x.place ∙ ap (λ (y : BlockNo × List ℕ). y.0.0) m)) | inr m ↦ inl (record { piece = x.piece; inside = m; place = x.place }) ]
    by_place (inr d) (inr e) = inr (put_elsewhere z bytes first.0.0 size first.1 number short d.1 ∙ e)

-- an answer to a callback is stored
pub con_flushed : (z : Setting) (stood : List ℕ) (v : View) (one : FileCall) (stamp : ℕ) (kind : CallKind) (size : ℕ) (blocks : List (BlockNo × List ℕ)) → Answering v one stamp kind → one.reply ≡ Some (form.Flushed size blocks) → FlatSizes z v → Con z stood v → IsClient (length v.clients) one.to → Con z stood (answered_view v one (store_blocks z v.bytes size blocks))
con_flushed z stood v one stamp kind size blocks t reply sizes con place = record {
  stands = record {
    dirty_size = con.stands.dirty_size;
    flushed_size = λ y m. con.stands.flushed_size y (left y m).0;
    flushed_part = λ y m. con.stands.flushed_part y (left y m).0;
    rest = λ n. elim (con.stands.rest n) [
      | inl d ↦ inl (record { kernel = d.kernel; is_client = d.is_client; one = d.one; there = d.there; dirty = d.dirty; place = d.place })
      | inr q ↦ inr (elim q [
        | inl f ↦ elim (eqb_tells f.call.number one.number) [ inl e ↦ inr (parts n (inl (piece_at n f e.1))) | inr d ↦ inl (record { call = f.call; there = stays f.call f.there d.1; size = f.size; blocks = f.blocks; replied = f.replied; piece = f.piece; inside = f.inside; place = f.place }) ]
        | inr e ↦ inr (parts n (inr e))
      ])
    ];
    size = elim con.stands.size [
      | inl d ↦ inl (record { kernel = d.kernel; is_client = d.is_client; one = d.one; there = d.there; dirty = d.dirty })
      | inr q ↦ inr (elim q [
        | inl f ↦ elim (eqb_tells f.call.number one.number) [ inl e ↦ inr (whole_size (some_of f e.1)) | inr d ↦ inl (record { call = f.call; there = stays f.call f.there d.1; size = f.size; blocks = f.blocks; replied = f.replied; some = f.some }) ]
        | inr e ↦ inr (elim (bool_cases (is_any blocks)) [ inl b ↦ whole_size b | inr b ↦ ap length (sym (same_bytes b)) ∙ e ])
      ])
    ];
  };
  good = λ kernel i. good_calls z stood kernel v.version (client v kernel) (seat v kernel).opened (seat v kernel).opened (things v) (things w) (con.good kernel i) (arrivals kernel) (λ h. h) (λ y m. inl (told_self y (things v) (left y m).0));
  carried = λ kernel i y m. carried_bytes z kernel (current_stamp v kernel) (client v kernel) v.bytes after y (con.carried kernel i y (left y m).0) (λ block more rest s e k held_there p. ap (λ xs. part z xs block.0) (sym (same_bytes (none_if kernel i (present_dirty (client v kernel).blocks block.0 y.dirty held_there p)))));
  low = λ kernel i y m. con.low kernel i y (left y m).0;
}
  where
    after : List ℕ
    after = store_blocks z v.bytes size blocks

    w : View
    w = answered_view v one after

    there : In one (things v)
    there = call_in_things v one t.there

    gone : things w ≡ without_call one.number (things v)
    gone = things_without v one t.flat.numbered.differ t.there

    left : (y : FileCall) → In y (things w) → In y (things v) × (y.number ≢ one.number)
    left y m = in_without one.number y (things v) (subst (In y) gone m)

    stays : (y : FileCall) → In y (things v) → y.number ≢ one.number → In y (things w)
    stays y m d = subst (In y) (sym gone) (without_in one.number y (things v) m d)

    arrivals : (kernel : ℕ) → Arrivals kernel (own_stamp v kernel) (things v) (things w)
    arrivals kernel = subst (Arrivals kernel (own_stamp v kernel) (things v)) (sym gone) (ways_without v kernel (own_stamp v kernel) false one t.flat.numbered.differ there (λ g a. absurd (cc (a.1, reply, ap arrival reply))) (λ h b e. cc (h))).arrivals

    stored_none : (bs : List (BlockNo × List ℕ)) → is_any bs ≡ false → v.bytes ≡ store_blocks z v.bytes size bs
    stored_none [] e = refl
    stored_none (b ∷ bs) e = absurd (cc (e))

    same_bytes : is_any blocks ≡ false → v.bytes ≡ after
    same_bytes b = stored_none blocks b

    whole : is_any blocks ≡ true → size ≡ length stood
    whole b = con.stands.flushed_size one there size blocks reply b

    covers : is_any blocks ≡ true → length v.bytes ≤ size
    covers b = ((sizes one.to place).each one there).flushed_covers refl size blocks reply b

    within : (x : BlockNo × List ℕ) → In x blocks → x.0.0 * z.block + length x.1 ≤ size
    within = ((sizes one.to place).each one there).flushed_within refl size blocks reply

    stored_size : (bs : List (BlockNo × List ℕ)) → is_any bs ≡ true → length v.bytes ≤ size → ((x : BlockNo × List ℕ) → In x bs → x.0.0 * z.block + length x.1 ≤ size) → length (store_blocks z v.bytes size bs) ≡ size
    stored_size [] e l f = absurd (cc (e))
    stored_size (b ∷ bs) e l f = length_stored z size b bs v.bytes l f

    whole_size : is_any blocks ≡ true → length after ≡ length stood
    whole_size b = stored_size blocks b (covers b) within ∙ whole b

    parts : (n : ℕ) → PieceAt n blocks ⊎ (part z v.bytes n ≡ part z stood n) → part z after n ≡ part z stood n
    parts n o = elim (bool_cases (is_any blocks)) [
      | inl b ↦ stored_part z stood size blocks v.bytes (let e = whole b in omega (arith, e)) (covers b) within (con.stands.flushed_part one there size blocks reply) n o
      | inr b ↦ elim o [ inl x ↦ absurd (none_in blocks b x.piece x.inside) | inr e ↦ subst (λ xs. part z xs n ≡ part z stood n) (same_bytes b) e ]
    ]
      where
        none_in : (bs : List (BlockNo × List ℕ)) → is_any bs ≡ false → (x : BlockNo × List ℕ) → In x bs → ⊥
        none_in [] e x m = m
        none_in (b ∷ bs) e x m = cc (e)

    reply_of : (y : FileCall) → In y (things v) → y.number ≡ one.number → (s : ℕ) (bs : List (BlockNo × List ℕ)) → y.reply ≡ Some (form.Flushed s bs) → bs ≡ blocks
    reply_of y m e s bs r = let same : y ≡ one = same_thing v y one t.flat.numbered.differ m there e in let q : Some (form.Flushed s bs) ≡ Some (form.Flushed size blocks) = sym r ∙ (ap (λ (c : FileCall). c.reply) same ∙ reply) in cc (q)

    piece_at : (n : ℕ) → (f : FlushedBlock v n) → f.call.number ≡ one.number → PieceAt n blocks
    piece_at n f e = record { piece = f.piece; inside = subst (In f.piece) (reply_of f.call f.there e f.size f.blocks f.replied) f.inside; place = f.place }

    some_of : (f : SomeFlushed v) → f.call.number ≡ one.number → is_any blocks ≡ true
    some_of f e = ap is_any (sym (reply_of f.call f.there e f.size f.blocks f.replied)) ∙ f.some

    -- who answered with blocks is the holder, and has no dirty block any more
    none_if : (kernel : ℕ) → IsClient (length v.clients) kernel → DirtyIn (client v kernel).blocks → is_any blocks ≡ false
    none_if kernel i d = elim (bool_cases (is_any blocks)) [
      | inl b ↦ absurd (
          let r = (t.holders.each kernel i).dirty_ready d.one d.there d.dirty in
          let q : Some kernel ≡ Some one.to = sym (holder_is v.holder kernel r.holds_it) ∙ holder_is v.holder one.to (((sizes one.to place).each one there).flushed_holder refl size blocks reply b) in
          let at : kernel ≡ one.to = cc (q) in
          (t.holders.each kernel i).dirty_unanswered d.one d.there d.dirty (record { call = one; there = there; to_kernel = sym at; stamp = stamp; kind = kind; is_call = t.is_call; taken = t.taken }))
      | inr b ↦ b
    ]

-- all that the server does
pub record Contented (z : Setting) (had : Noted) (v : View) : Type 0 where
  pub positive : 0 < z.block
  pub sized : Sized z v
  pub has : Has z had v

pub serves_contents : (z : Setting) → ServeNotes z Noted (note z) (Contented z) (Has z)
serves_contents z = record {
  eases = λ had v x. x.has;
  tells = λ had v b x. record { positive = x.positive; sized = (serves_sizes z).tells v b x.sized; has = record { right = x.has.right; con = record { stands = stands_calls z had.bytes v (told v b) x.has.con.stands (stand_same v (told v b) refl refl (λ y m. m) (λ y m. m)); good = x.has.con.good; carried = x.has.con.carried; low = x.has.con.low } } };
  outs = λ had v kind kernel h. record { right = h.right; con = con_out z had.bytes v kind kernel h.con };
  settles = λ had v one s x. has_settled z had v one s x.sized x.has;
  closes = λ had v one stream grants t e x. record {
    right = x.has.right;
    con = con_answer z had.bytes v (close v one stream grants) one form.Done t.both.flat t.there t.unanswered (ap is_callback e) refl refl refl refl refl (things_with v one (replied one form.Done) t.both.flat.numbered.differ t.there refl)
        (λ kernel h. let p = in_filter (λ (y : Open). y.kernel == kernel) h.one (take_off v.opens stream one.from grants) h.there in let l : Left h.one v.opens = left_in v.opens stream one.from grants h.one p.0 in record { one = l.before; there = filter_in (λ (y : Open). y.kernel == kernel) l.before v.opens l.there (ap (λ n. n == kernel) (sym l.kernel_is) ∙ p.1) })
        (new_answer z had.bytes v one form.Done (call_in_things v one t.there) x.has.con (λ size blocks q. cc (q)) (λ kernel i. no_block z had.bytes kernel (own_stamp v kernel) one form.Done (λ other piece q. cc (q))) (λ kernel i q block size piece w. absurd (let k = w.is_write_back in cc (e, k)))) x.has.con;
  };
  fetched = λ had v one block t e x. record {
    right = x.has.right;
    con = con_answer z had.bytes v _ one (form.Block (current_stamp v one.from) (block_of z v.bytes block)) t.both.flat t.there t.unanswered (ap is_callback e) refl refl refl refl refl (things_with v one (replied one (form.Block (current_stamp v one.from) (block_of z v.bytes block))) t.both.flat.numbered.differ t.there refl) (λ kernel h. h)
        (new_answer z had.bytes v one (form.Block (current_stamp v one.from) (block_of z v.bytes block)) (call_in_things v one t.there) x.has.con (λ size blocks q. cc (q)) (λ kernel i. fetched_right z had.bytes v one block t e x.sized.asking x.has.con kernel i) (λ kernel i q. absurd (cc (q)))) x.has.con;
  };
  refuses = λ had v one stamp t e x. record {
    right = x.has.right;
    con = con_answer z had.bytes v (refuse_old v one) one (form.Again (current_grant v one.from)) t.both.flat t.there t.unanswered (request_plain one.body stamp e) refl refl refl refl refl (things_with v one (replied one (form.Again (current_grant v one.from))) t.both.flat.numbered.differ t.there refl) (λ kernel h. h)
        (new_answer z had.bytes v one (form.Again (current_grant v one.from)) (call_in_things v one t.there) x.has.con (λ size blocks q. cc (q)) (λ kernel i. no_block z had.bytes kernel (own_stamp v kernel) one (form.Again (current_grant v one.from)) (λ other piece q. cc (q))) (λ kernel i q. absurd (cc (q)))) x.has.con;
  };
  stores = λ had v one block size piece t e x. record { right = x.has.right; con = con_stored z had.bytes v one block size piece t e x.sized.writing x.has.con };
  operates = λ had v one pid number stream way t e x.
      let same : v.bytes ≡ had.bytes = served_bytes z had.bytes v one pid number stream way x.positive t e x.sized.asking x.has.con in
      record {
        right = and_from had.right _ x.has.right (subst (λ xs. is_right z had.bytes (step_of pid number one.from stream way) (told_reply way (op_reply z xs way)) ≡ true) (sym same) (op_right z had.bytes pid number one.from stream way));
        con = subst (λ xs. Con z xs (data_op z v one way)) (ap (λ xs. bytes_after z xs way) same ∙ sym (op_bytes z had.bytes pid number one.from stream way)) (con_operated z had.bytes v one pid number stream way t e x.sized x.has.con);
      };
  takes = λ had v one b stamps m n c x. record { positive = x.positive; sized = (serves_sizes z).takes v one b stamps m n c x.sized; has = record { right = x.has.right; con = con_taken z had.bytes v one b.flat.numbered.differ m n c x.has.con } };
  served = λ had next v one t x y. record { positive = x.positive; sized = (serves_sizes z).served v one t x.sized (serves_body z (Sized z) (FlatSizes z) (serves_sizes z) v one one.body refl t x.sized); has = y };
  settled = λ had next v one s x y. record { positive = x.positive; sized = (serves_sizes z).settled v one s x.sized ((serves_sizes z).settles v one s x.sized); has = y };
}
  where
    request_plain : (body : FileBody) (stamp : ℕ) → request_stamp body ≡ Some stamp → is_callback body ≡ false
    request_plain (form.Callback other kind) stamp e = absurd (cc (e))
    request_plain body stamp e = refl
