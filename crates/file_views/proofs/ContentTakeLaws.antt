-- What blocks contain, the eighth layer of soundness, where grants, callbacks and blocks come to a client.
use Rattle.std.proofs.Common.{◌≡◌, ◌≢◌, ◌≤◌, ◌<◌, ◌⊎◌, ℕ, ◌==◌, nat_le, Bool, true, false, cond, ◌&&◌, is_some, List, [], ◌∷◌, ◌++◌, length, map, Option, Some, None, refl, sym, ap, ◌∙◌, subst, inl, inr, arith, eqb-true, eq-eqb, leb-true, leb-false, le_refl}
use Rattle.std.proofs.lemmas.Bool.{and_parts, and_from}
use Rattle.std.proofs.lemmas.Bool.Decides.{eqb_tells}
use Rattle.sprite_ids.specs.declared.BlockNo.{BlockNo}
use Rattle.sprite_ids.specs.declared.StreamNo.{StreamNo}
use Rattle.sprite_ids.specs.declared.CallKind.{CallKind}
use Rattle.sprite_ids.specs.declared.CallKind.TheVariants.{Recall, Stop}
use Rattle.file_views.specs.declared.grant.FileGrant.{FileGrant}
use Rattle.file_views.specs.declared.body.FileBody.TheVariants as form
use Rattle.file_views.specs.declared.client.Held.{Held}
use Rattle.file_views.specs.declared.client.Client.{Client}
use Rattle.file_views.specs.declared.call.FileCall.{FileCall}
use Rattle.file_views.specs.declared.call.Carry.{Carry}
use Rattle.file_views.specs.declared.view.View.{View}
use Rattle.file_views.specs.Setting.{Setting}
use Rattle.file_views.specs.Contents.{part, cut}
use Rattle.file_views.specs.Streams.{is_any}
use Rattle.file_views.specs.Clients.{is_on, mode_of, cleaned, granted, take_grant, mode_after, blocks_after, take_callback, pieces, dirty_blocks}
use Rattle.file_views.specs.Views.{client, set_client, current_stamp, is_holder, is_callback, as_call, things, with_call, without_call, replied, remove_call}
use Rattle.file_views.specs.Grants.{asks}
use Rattle.file_views.specs.Steps.{called_back}
use Rattle.file_views.specs.Settled.{goes_of, arrival}
use Rattle.file_views.specs.Here.{In, IsClient, Arrives, Answered, asked_stream, request_stamp}
use Rattle.file_views.specs.SoundModes.{SameNewer}
use Rattle.file_views.specs.SoundHolders.{Installed, Engaged, Ready, Keeps as KeepsIt}
use Rattle.file_views.specs.SoundContents.{DirtyBlock, SomeDirty, FlushedBlock, SomeFlushed}
use Rattle.file_views.proofs.MemberLaws.{Made, in_map, map_in, in_filter, filter_in, in_left, last_in, in_with, with_in, with_new, in_without, without_in}
use Rattle.file_views.proofs.EffectLaws.{Apart, by_kernel, count_set, client_set, client_other, things_with, things_without, call_in_things, same_thing}
use Rattle.file_views.proofs.ClientLaws.{choose_by}
use Rattle.file_views.proofs.CountLaws.{bool_cases}
use Rattle.file_views.proofs.ShapeLaws.{Flat, in_middle, things_carried}
use Rattle.file_views.proofs.StampLaws.{own_stamp}
use Rattle.file_views.proofs.ModeServeLaws.{OpenFor, arrival_there}
use Rattle.file_views.proofs.HolderLaws.{Arrivals, DirtyIn, seat}
use Rattle.file_views.proofs.HolderChangeLaws.{ways_answer, ways_reads, ways_without}
use Rattle.file_views.proofs.HolderSettleLaws.{holder_is}
use Rattle.file_views.proofs.HolderStepLaws.{no_arrival}
use Rattle.file_views.proofs.WritingLaws.{Low, too_old}
use Rattle.file_views.proofs.WritingStepLaws.{low_own, none_dirty}
use Rattle.file_views.proofs.SizeLaws.{told_self, was_ready}
use Rattle.file_views.proofs.SizeServeLaws.{flush_called}
use Rattle.file_views.proofs.SizeMoveLaws.{Brings, any_dirty, middle_in}
use Rattle.file_views.proofs.ContentLaws.{GoodBlocks, good_calls, old_self, good_client, good_all, CarriedCall, carried_none, carried_client}
use Rattle.file_views.proofs.ContentViewLaws.{Con, Noted, Has, NewCall, stands_calls, con_calls, stands_set, Leans, dirty_holder, flushed_target, ready_block, ready_size}
use Rattle.file_views.proofs.ContentMoveLaws.{All, leans_of}

-- a call is gone that brings nothing
pub con_removed : (z : Setting) (stood : List ℕ) (v : View) (one : FileCall) → Flat v → In one v.calls → asks one.body ≡ false → is_callback one.body ≡ false → Con z stood v → Con z stood (remove_call v one.number)
con_removed z stood v one flat m a c h = con_calls z stood v (remove_call v one.number) h (record {
  clients = refl;
  bytes = refl;
  version = refl;
  stamps = λ kernel. le_refl (current_stamp v kernel);
  opens = λ kernel x. x;
  arrivals = λ kernel i. subst (Arrivals kernel (own_stamp v kernel) (things v)) (sym gone) (ways_without v kernel (own_stamp v kernel) (is_holder v kernel) one flat.numbered.differ there (λ grant b. absurd (cc (b.1, no_arrival v one flat m a))) (λ x b q. cc (b, c))).arrivals;
  told = λ x k. inl (told_self x (things v) (in_without one.number x (things v) (subst (In x) gone k)).0);
  flushes = λ x k size blocks r. subst (In x) (sym gone) (without_in one.number x (things v) k (λ q. let same : x ≡ one = same_thing v x one flat.numbered.differ k there q in cc (c, flush_called v flat x k size blocks r, ap (λ (y : FileCall). is_callback y.body) same)));
})
  where
    there : In one (things v)
    there = call_in_things v one m

    gone : things (remove_call v one.number) ≡ without_call one.number (things v)
    gone = things_without v one flat.numbered.differ m

pub has_removed : (z : Setting) (had : Noted) (v : View) (one : FileCall) → Flat v → In one v.calls → asks one.body ≡ false → is_callback one.body ≡ false → Has z had v → Has z had (remove_call v one.number)
has_removed z had v one flat m a c h = record { right = h.right; con = con_removed z had.bytes v one flat m a c h.con }

-- a move's stream is carried on
pub has_moved : (z : Setting) (had : Noted) (v : View) (one : FileCall) (stream : StreamNo) (place : ℕ) (kept : Bool) (grants : ℕ) (grant : Option FileGrant) (more : ℕ) → Flat v → Has z had v → In one v.calls → one.body ≡ form.Move stream place kept grants → one.reply ≡ Some (form.Moved grant more) → Has z had (record (remove_call v one.number) { carried = v.carried ++ record { call = one.number; to = place; stream = stream; grant = grant } ∷ [] })
has_moved z had v one stream place kept grants grant more flat h m e r = record {
  right = h.right;
  con = con_calls z had.bytes v w h.con (record {
    clients = refl;
    bytes = refl;
    version = refl;
    stamps = λ kernel. le_refl (current_stamp v kernel);
    opens = λ kernel x. x;
    arrivals = λ kernel i. (ways_reads kernel (own_stamp v kernel) (is_holder v kernel) (things v) (things w) (as_call carry) one
        (record { number_is = refl; goes_is = sym (ap (goes_of one.from) e); arrival_is = sym (ap arrival r); no_call = refl; no_again = λ g a. absurd (cc (a)); request_is = λ stamp q. absurd (cc (q)) }) (sym (ap asked_stream e)) (ap is_callback e) (call_in_things v one m)
        (subst (In (as_call carry)) (sym now) (in_left (as_call carry) (map as_call v.carried ++ as_call carry ∷ []) (without_call one.number v.calls) (last_in (as_call carry) (map as_call v.carried)))) back on).arrivals;
    told = λ x n. elim (back x n) [ inl k ↦ inl (told_self x (things v) k) | inr q ↦ inr (subst (NewCall z had.bytes v) (sym q) fresh) ];
    flushes = λ x n size blocks q. elim (on x n) [ inl k ↦ k | inr s ↦ absurd (cc (q, r, ap (λ (y : FileCall). y.reply) s)) ];
  });
}
  where
    carry : Carry
    carry = record { call = one.number; to = place; stream = stream; grant = grant }

    w : View
    w = record (remove_call v one.number) { carried = v.carried ++ carry ∷ [] }

    u : Apart v
    u = flat.numbered.differ

    now : things w ≡ (map as_call v.carried ++ as_call carry ∷ []) ++ without_call one.number v.calls
    now = things_carried (remove_call v one.number) carry

    back : (x : FileCall) → In x (things w) → In x (things v) ⊎ (x ≡ as_call carry)
    back x n = elim (in_middle x (as_call carry) (map as_call v.carried) (without_call one.number v.calls) (subst (In x) now n)) [ inl k ↦ inl (in_without one.number x (things v) (subst (In x) (things_without v one u m) k)).0 | inr q ↦ inr q ]

    on : (x : FileCall) → In x (things v) → In x (things w) ⊎ (x ≡ one)
    on x n = elim (eqb_tells x.number one.number) [
      | inl a ↦ inr (same_thing v x one u n (call_in_things v one m) a.1)
      | inr b ↦ inl (subst (In x) (sym now) (middle_in x (as_call carry) (map as_call v.carried) (without_call one.number v.calls) (subst (In x) (sym (things_without v one u m)) (without_in one.number x (things v) n b.1))))
    ]

    fresh : NewCall z had.bytes v (as_call carry)
    fresh = record {
      no_flush = λ size blocks q. cc (q);
      fetch = λ kernel i f stamp block q. absurd (cc (q));
      carried = λ kernel i. carried_none z kernel (current_stamp v kernel) (client v kernel) v.bytes (as_call carry) (λ block size piece x. let q = x.is_write_back in cc (q)) (λ block size piece x. let q = x.is_write_back in cc (q));
      low = λ kernel i f stamp q. absurd (cc (q));
    }

-- a grant is taken
on_of : (on : Bool) → is_on (mode_of on) ≡ true → on ≡ true
on_of true e = refl
on_of false e = absurd (cc (e))

kept_in : (b : Bool) (blocks : List Held) (one : Held) → In one (cond b blocks []) → In one blocks × (b ≡ true)
kept_in true blocks one m = (m, refl)
kept_in false blocks one m = absurd m

pub has_takes : (z : Setting) (had : Noted) (v : View) (one : FileCall) (kernel : ℕ) (grant : FileGrant) (calls : List FileCall) (carried : List Carry) (streams : List StreamNo) → All z had v → Brings v one kernel grant calls carried → IsClient (length v.clients) kernel → (grant.stamp ≤ own_stamp v kernel → Installed streams → Engaged kernel (own_stamp v kernel) (client v kernel).streams (things v)) → Has z had (set_client (record v { calls = calls; carried = carried }) kernel (record (take_grant (client v kernel) grant) { streams = streams }))
has_takes z had v one kernel grant calls carried streams t b i brought = record {
  right = t.has.right;
  con = record {
    stands = stands_calls z stood (set_client v kernel d) x (stands_set z stood v kernel d con.stands i (record {
      size = λ y m q. (let o = was y m in (dirty_stays (record { one = y; there = o; dirty = q })).1 ∙ con.stands.dirty_size kernel i y o q);
      stays = λ y m q. inl (y, (subst (In y) (sym (dirty_stays (record { one = y; there = m; dirty = q })).0) m, (q, refl)));
      some = λ y m q. inl (record { one = y; there = subst (In y) (sym (dirty_stays (record { one = y; there = m; dirty = q })).0) m; dirty = q });
    })) (record {
      clients = refl;
      bytes = refl;
      told = λ y m. inl (told_self y (things v) (left y m).0);
      flushes = λ y m size blocks r. subst (In y) (sym b.left) (without_in one.number y (things v) m (λ q. let same : y ≡ one = same_thing v y one flat.numbered.differ m b.there q in cc (b.plain, flush_called v flat y m size blocks r, ap (λ (c : FileCall). is_callback c.body) same)));
    });
    good = λ other j. by_kernel (λ k. IsClient (length v.clients) k → GoodBlocks z stood k v.version (client x k) (seat v k).opened (things w)) kernel other
        (λ n. subst (λ (c : Client). GoodBlocks z stood kernel v.version c (seat v kernel).opened (things w)) (sym (client_set w kernel d i)) good_here)
        (λ p n. subst (λ (c : Client). GoodBlocks z stood other v.version c (seat v other).opened (things w)) (sym (client_other w kernel other d i.0 n.0 p)) (good_calls z stood other v.version (client v other) (seat v other).opened (seat v other).opened (things v) (things w) (con.good other n) (arrivals other (λ g a. absurd (p (b.lost other g a).0))) (λ h. h) (λ y m. inl (told_self y (things v) (left y m).0))))
        (within other j);
    carried = λ other j y m. by_kernel (λ k. IsClient (length v.clients) k → CarriedCall z k (current_stamp v k) (client x k) v.bytes y) kernel other
        (λ n. subst (λ (c : Client). CarriedCall z kernel (current_stamp v kernel) c v.bytes y) (sym (client_set w kernel d i)) (carried_here y (left y m).0))
        (λ p n. subst (λ (c : Client). CarriedCall z other (current_stamp v other) c v.bytes y) (sym (client_other w kernel other d i.0 n.0 p)) (con.carried other n y (left y m).0))
        (within other j);
    low = λ other j y m. con.low other (within other j) y (left y m).0;
  };
}
  where
    stood : List ℕ
    stood = had.bytes

    con : Con z stood v
    con = t.has.con

    flat : Flat v
    flat = t.full.standing.flat

    leans : Leans z v
    leans = leans_of z v t.full

    w : View
    w = record v { calls = calls; carried = carried }

    d : Client
    d = record (take_grant (client v kernel) grant) { streams = streams }

    x : View
    x = set_client w kernel d

    within : (other : ℕ) → IsClient (length x.clients) other → IsClient (length v.clients) other
    within other j = subst (λ n. IsClient n other) (count_set w kernel d) j

    left : (y : FileCall) → In y (things w) → In y (things v) × (y.number ≢ one.number)
    left y m = in_without one.number y (things v) (subst (In y) b.left m)

    arrivals : (other : ℕ) → ((g : FileGrant) → Arrives other one g → g.stamp ≤ own_stamp v other) → Arrivals other (own_stamp v other) (things v) (things w)
    arrivals other l = subst (Arrivals other (own_stamp v other) (things v)) (sym b.left) (ways_without v other (own_stamp v other) (is_holder v other) one flat.numbered.differ b.there l (λ h k q. cc (k, b.plain))).arrivals

    source : own_stamp v kernel < grant.stamp → SameNewer kernel (own_stamp v kernel) (things v) grant
    source l = b.source l

    -- a dirty block's client keeps all
    keeps : own_stamp v kernel < grant.stamp → DirtyIn (client v kernel).blocks → ((grant.on && ((client v kernel).version == grant.old)) ≡ true) × ((grant.holder && ((client v kernel).version == grant.old)) ≡ true)
    keeps l k =
        let r = dirty_holder z v leans kernel i k in
        let g : SameNewer kernel (own_stamp v kernel) (things v) grant = source l in
        let q : KeepsIt v.version g.newer = r.newer g.call g.is_newer.0 g.newer g.is_newer.1 g.is_newer.2 in
        let on : grant.on ≡ true = sym (ap (λ (y : FileGrant). y.on) g.same) ∙ q.on in
        let holder : grant.holder ≡ true = sym (ap (λ (y : FileGrant). y.holder) g.same) ∙ q.holder in
        let old : ((client v kernel).version == grant.old) ≡ true = eq-eqb (client v kernel).version grant.old (r.at_version ∙ sym (sym (ap (λ (y : FileGrant). y.old) g.same) ∙ q.old)) in
        (and_from grant.on ((client v kernel).version == grant.old) on old, and_from grant.holder ((client v kernel).version == grant.old) holder old)

    dirty_stays : DirtyIn (client v kernel).blocks → (d.blocks ≡ (client v kernel).blocks) × (d.size ≡ (client v kernel).size)
    dirty_stays k = choose_by (λ (c : Client). (c.blocks ≡ (client v kernel).blocks) × (c.size ≡ (client v kernel).size)) (nat_le grant.stamp (client v kernel).stamp) (client v kernel) (granted (client v kernel) grant) (λ e. (refl, refl))
        (λ e. let p = keeps (leb-false grant.stamp (client v kernel).stamp e) k in (ap (λ c. cond c (client v kernel).blocks []) p.0, ap (λ c. cond c (client v kernel).size grant.size) p.1))

    was : (y : Held) → In y d.blocks → In y (client v kernel).blocks
    was y = choose_by (λ (c : Client). In y c.blocks → In y (client v kernel).blocks) (nat_le grant.stamp (client v kernel).stamp) (client v kernel) (granted (client v kernel) grant) (λ e m. m) (λ e m. (kept_in (grant.on && ((client v kernel).version == grant.old)) (client v kernel).blocks y m).0)

    unanswered : own_stamp v kernel < grant.stamp → Answered kernel (things v) → ⊥
    unanswered l k =
        let p = t.full.standing.stamps.each k.call k.there in
        let q = p.behind k.stamp k.kind k.is_call k.taken in
        let r = p.called k.stamp k.kind k.is_call in
        let own : own_stamp v k.call.to ≡ own_stamp v kernel = ap (own_stamp v) k.to_kernel in
        let cur : current_stamp v k.call.to ≡ current_stamp v kernel = ap (current_stamp v) k.to_kernel in
        let low = b.low in
        omega (arith, q, r, own, cur, low, l)

    same_grant : (y z' : FileCall) → In y (things v) → In z' (things v) → (g h : FileGrant) → Arrives kernel y g → Arrives kernel z' h → g.stamp ≡ h.stamp → g ≡ h
    same_grant y z' m n g h p q e = let same : y ≡ z' = same_thing v y z' flat.numbered.differ m n ((t.full.standing.stamps.pairs y z' m n).grants g h p.1 q.1 (p.0 ∙ sym q.0) e) in cc (p.1, q.1, ap (λ (c : FileCall). arrival c.reply) same)

    -- while it comes, the holder is the kernel itself
    holder_here : own_stamp v kernel < grant.stamp → (other : ℕ) → is_holder v other ≡ true → other ≡ kernel
    holder_here l other h = let g : SameNewer kernel (own_stamp v kernel) (things v) grant = source l in let o : OpenFor v kernel g.call = arrival_there v flat t.full.standing.streams g.call g.is_newer.0 kernel g.newer g.is_newer.1 in sym (t.full.holders.opens other (holder_is v.holder other h) o.at.one o.at.there) ∙ o.at.kernel_is

    new_size : own_stamp v kernel < grant.stamp → grant.on ≡ true → (grant.holder && ((client v kernel).version == grant.old)) ≡ false → length v.bytes ≡ length stood
    new_size l o n = elim con.stands.size [
      | inl k ↦ (let y : DirtyIn (client v k.kernel).blocks = record { one = k.one; there = k.there; dirty = k.dirty } in let at : k.kernel ≡ kernel = holder_here l k.kernel (dirty_holder z v leans k.kernel k.is_client y).holds_it in absurd (cc (n, (keeps l (subst (λ m. DirtyIn (client v m).blocks) at y)).1)))
      | inr q ↦ elim q [
        | inl f ↦ (let g = flushed_target z v leans f in absurd (unanswered l (subst (λ m. Answered m (things v)) (holder_here l f.call.to g.0) g.1)))
        | inr e ↦ e
      ]
    ]

    taken_size : own_stamp v kernel < grant.stamp → grant.on ≡ true → (c : Bool) → (grant.holder && ((client v kernel).version == grant.old)) ≡ c → cond c (client v kernel).size grant.size ≡ length stood
    taken_size l o true e =
        let p = and_parts grant.holder ((client v kernel).version == grant.old) e in
        let h : is_holder v kernel ≡ true = holder_grant l o p.0 in
        elim ((t.full.holders.each kernel i).holder_state h) [
          | inl a ↦ absurd (unanswered l a)
          | inr a ↦ ready_size z stood v leans con kernel i (was_ready kernel (own_stamp v kernel) (client v kernel).version v.version (is_holder v kernel) (client v kernel).mode _ (things v) grant (source l) a.1 same_grant o p.0 (eqb-true (client v kernel).version grant.old p.1)) (unanswered l)
        ]
      where
        holder_grant : own_stamp v kernel < grant.stamp → grant.on ≡ true → grant.holder ≡ true → is_holder v kernel ≡ true
        holder_grant n p q = let g : SameNewer kernel (own_stamp v kernel) (things v) grant = source n in (t.full.holders.each kernel i).holder_grants g.call g.is_newer.0 g.newer g.is_newer.1 g.is_newer.2 (ap (λ (y : FileGrant). y.on) g.same ∙ p) (ap (λ (y : FileGrant). y.holder) g.same ∙ q)
    taken_size l o false e = b.size l o ∙ new_size l o e

    taken_block : own_stamp v kernel < grant.stamp → (y : Held) → In y (granted (client v kernel) grant).blocks → y.bytes ≡ part z stood y.block.0
    taken_block l y m = elim (bool_cases (is_on (client v kernel).mode)) [
      | inl o ↦ (con.good kernel i).kept o (inl (record { call = g.call; grant = g.newer; is_newer = g.is_newer; on = ap (λ (q : FileGrant). q.on) g.same ∙ (and_parts grant.on _ k.1).0; same = ap (λ (q : FileGrant). q.old) g.same ∙ sym (eqb-true (client v kernel).version grant.old (and_parts grant.on _ k.1).1) })) y k.0
      | inr o ↦ absurd (subst (In y) ((t.full.asking kernel i).off_empty o) k.0)
    ]
      where
        g : SameNewer kernel (own_stamp v kernel) (things v) grant
        g = source l

        k : In y (client v kernel).blocks × ((grant.on && ((client v kernel).version == grant.old)) ≡ true)
        k = kept_in (grant.on && ((client v kernel).version == grant.old)) (client v kernel).blocks y m

    good_here : GoodBlocks z stood kernel v.version d (seat v kernel).opened (things w)
    good_here = choose_by (λ (c : Client). GoodBlocks z stood kernel v.version (record c { streams = streams }) (seat v kernel).opened (things w)) (nat_le grant.stamp (client v kernel).stamp) (client v kernel) (granted (client v kernel) grant)
        (λ e. let l = leb-true grant.stamp (client v kernel).stamp e in
        good_calls z stood kernel v.version (record (client v kernel) { streams = streams }) (seat v kernel).opened (seat v kernel).opened (things v) (things w)
        (good_client z stood kernel v.version (client v kernel) (record (client v kernel) { streams = streams }) (seat v kernel).opened (things v) (con.good kernel i) refl refl refl refl (brought l) (λ y m. inl (old_self y (client v kernel).blocks m)))
        (arrivals kernel (λ g a. let q = (b.lost kernel g a).1 in omega (arith, q, l))) (λ h. h) (λ y m. inl (told_self y (things v) (left y m).0)))
        (λ e. let l = leb-false grant.stamp (client v kernel).stamp e in
        good_all z stood kernel v.version (own_stamp v kernel) (record (granted (client v kernel) grant) { streams = streams }) (seat v kernel).opened (things w)
        (λ o. taken_size l (on_of grant.on o) (grant.holder && ((client v kernel).version == grant.old)) refl)
        (λ y m. taken_block l y m)
        (λ y m. low_own v t.full.standing.stamps kernel y (left y m).0) l)

    carried_here : (y : FileCall) → In y (things v) → CarriedCall z kernel (current_stamp v kernel) d v.bytes y
    carried_here y m = choose_by (λ (c : Client). CarriedCall z kernel (current_stamp v kernel) (record c { streams = streams }) v.bytes y) (nat_le grant.stamp (client v kernel).stamp) (client v kernel) (granted (client v kernel) grant)
        (λ e. carried_client z kernel (current_stamp v kernel) (client v kernel) (record (client v kernel) { streams = streams }) v.bytes y (con.carried kernel i y m) refl (λ f number there p. p))
        (λ e. let l = leb-false grant.stamp (client v kernel).stamp e in let low = b.low in
        carried_none z kernel (current_stamp v kernel) (record (granted (client v kernel) grant) { streams = streams }) v.bytes y
        (λ block size piece k. too_old kernel (own_stamp v kernel) (current_stamp v kernel) (things v) (low_own v t.full.standing.stamps kernel) (omega (arith, l, low)) y m block size piece k)
        (λ block size piece k. too_old kernel (own_stamp v kernel) grant.stamp (things v) (low_own v t.full.standing.stamps kernel) l y m block size piece k))

-- a callback is taken, and answered
pub has_called : (z : Setting) (had : Noted) (v : View) (one : FileCall) (stamp : ℕ) (kind : CallKind) → All z had v → In one v.calls → one.body ≡ form.Callback stamp kind → one.taken ≡ false → one.reply ≡ None → IsClient (length v.clients) one.to → Has z had (called_back z v one stamp kind)
has_called z had v one stamp kind t m e k n i = record {
  right = t.has.right;
  con = record {
    stands = record {
      dirty_size = λ other j. by_kernel (λ x. IsClient (length v.clients) x → (y : Held) → In y (client w x).blocks → is_some y.dirty ≡ true → (client w x).size ≡ length stood) source other
          (λ p y q r. absurd (none_dirty (client v source).blocks kind y (subst (λ (c : Client). In y c.blocks) (client_set v source d i) q) r))
          (λ p q. subst (λ (c : Client). (y : Held) → In y c.blocks → is_some y.dirty ≡ true → c.size ≡ length stood) (sym (client_other v source other d i.0 q.0 p)) (con.stands.dirty_size other q)) (within other j);
      flushed_size = λ y q size bs r a. elim (in_with new y (things v) (subst (In y) now q)) [
        | inl p ↦ con.stands.flushed_size y p.0 size bs r a
        | inr p ↦ (let s = told_new y p size bs r in let f = any_dirty z (client v source).size (client v source).blocks (ap is_any s.1 ∙ a) in sym s.0 ∙ con.stands.dirty_size source i f.0 f.1.0 f.1.1)
      ];
      flushed_part = λ y q size bs r piece a. elim (in_with new y (things v) (subst (In y) now q)) [
        | inl p ↦ con.stands.flushed_part y p.0 size bs r piece a
        | inr p ↦ (let s = told_new y p size bs r in right_piece piece (subst (In piece) (sym s.1) a) ∙ ap (cut z (part z stood piece.0.0) piece.0.0) s.0)
      ];
      rest = λ number. elim (con.stands.rest number) [
        | inl b ↦ by_dirty b (eqb_tells b.kernel source)
        | inr q ↦ inr (elim q [ inl f ↦ inl (record { call = f.call; there = stays f.call f.there f.size f.blocks f.replied; size = f.size; blocks = f.blocks; replied = f.replied; piece = f.piece; inside = f.inside; place = f.place }) | inr x ↦ inr x ])
      ];
      size = elim con.stands.size [
        | inl b ↦ some_dirty b (eqb_tells b.kernel source)
        | inr q ↦ inr (elim q [ inl f ↦ inl (record { call = f.call; there = stays f.call f.there f.size f.blocks f.replied; size = f.size; blocks = f.blocks; replied = f.replied; some = f.some }) | inr x ↦ inr x ])
      ];
    };
    good = λ other j. by_kernel (λ x. IsClient (length v.clients) x → GoodBlocks z stood x v.version (client w x) (seat v x).opened (things w)) source other
        (λ p. subst (λ (c : Client). GoodBlocks z stood source v.version c (seat v source).opened (things w)) (sym (client_set v source d i)) good_here)
        (λ p q. subst (λ (c : Client). GoodBlocks z stood other v.version c (seat v other).opened (things w)) (sym (client_other v source other d i.0 q.0 p)) (good_calls z stood other v.version (client v other) (seat v other).opened (seat v other).opened (things v) (things w) (con.good other q)
        (subst (Arrivals other (own_stamp v other) (things v)) (sym now) (ways_answer v other (own_stamp v other) (is_holder v other) one (form.Flushed (client v source).size blocks) flat.numbered.differ there n refl (λ b g. p (sym g))).arrivals) (λ h. h)
        (λ y r. elim (in_with new y (things v) (subst (In y) now r)) [ inl s ↦ inl (told_self y (things v) s.0) | inr s ↦ inr (λ f st block bo sa ot pi re. absurd (cc (e, bo, ap (λ (c : FileCall). c.body) s))) ])))
        (within other j);
    carried = λ other j y q. by_kernel (λ x. IsClient (length v.clients) x → CarriedCall z x (current_stamp v x) (client w x) v.bytes y) source other
        (λ p. subst (λ (c : Client). CarriedCall z source (current_stamp v source) c v.bytes y) (sym (client_set v source d i)) (elim (in_with new y (things v) (subst (In y) now q)) [
          | inl s ↦ carried_none z source (current_stamp v source) d v.bytes y (λ block size piece x. too_old source (own_stamp v source) (current_stamp v source) (things v) (low_own v t.full.standing.stamps source) below y s.0 block size piece x) (λ block size piece x. too_old source (own_stamp v source) stamp (things v) (low_own v t.full.standing.stamps source) later y s.0 block size piece x)
          | inr s ↦ not_back y s source d
        ]))
        (λ p r. subst (λ (c : Client). CarriedCall z other (current_stamp v other) c v.bytes y) (sym (client_other v source other d i.0 r.0 p)) (elim (in_with new y (things v) (subst (In y) now q)) [
          | inl s ↦ con.carried other r y s.0
          | inr s ↦ not_back y s other (client v other)
        ])) (within other j);
    low = λ other j y q f st r. elim (in_with new y (things v) (subst (In y) now q)) [ inl s ↦ con.low other (within other j) y s.0 f st r | inr s ↦ absurd (cc (e, r, ap (λ (c : FileCall). request_stamp c.body) s, ap request_stamp e)) ];
  };
}
  where
    stood : List ℕ
    stood = had.bytes

    con : Con z stood v
    con = t.has.con

    flat : Flat v
    flat = t.full.standing.flat

    source : ℕ
    source = one.to

    d : Client
    d = take_callback (client v source) stamp kind

    blocks : List (BlockNo × List ℕ)
    blocks = pieces z (client v source).size (client v source).blocks

    new : FileCall
    new = replied one (form.Flushed (client v source).size blocks)

    w : View
    w = called_back z v one stamp kind

    there : In one (things v)
    there = call_in_things v one m

    now : things w ≡ with_call new (things v)
    now = things_with (set_client v source d) one new flat.numbered.differ m refl

    within : (other : ℕ) → IsClient (length w.clients) other → IsClient (length v.clients) other
    within other j = subst (λ x. IsClient x other) (count_set v source d) j

    later : own_stamp v source < stamp
    later = (t.full.standing.stamps.each one there).before stamp kind e k

    below : own_stamp v source < current_stamp v source
    below = let a = later in let b = (t.full.standing.stamps.each one there).called stamp kind e in omega (arith, a, b)

    stays : (y : FileCall) → In y (things v) → (size : ℕ) (bs : List (BlockNo × List ℕ)) → y.reply ≡ Some (form.Flushed size bs) → In y (things w)
    stays y q size bs r = subst (In y) (sym now) (with_in new y (things v) q (λ s. let same : y ≡ one = same_thing v y one flat.numbered.differ q there s in cc (r, n, ap (λ (c : FileCall). c.reply) same)))

    told_new : (y : FileCall) → y ≡ new → (size : ℕ) (bs : List (BlockNo × List ℕ)) → y.reply ≡ Some (form.Flushed size bs) → ((client v source).size ≡ size) × (blocks ≡ bs)
    told_new y p size bs r = let q : Some (form.Flushed (client v source).size blocks) ≡ Some (form.Flushed size bs) = sym (ap (λ (c : FileCall). c.reply) p) ∙ r in (cc (q), cc (q))

    right_dirty : (x : Held) → In x (client v source).blocks → is_some x.dirty ≡ true → x.bytes ≡ part z stood x.block.0
    right_dirty x p q = ready_block z stood v (leans_of z v t.full) con source i (dirty_holder z v (leans_of z v t.full) source i (record { one = x; there = p; dirty = q })) x p

    right_piece : (piece : BlockNo × List ℕ) → In piece blocks → piece.1 ≡ cut z (part z stood piece.0.0) piece.0.0 (client v source).size
    right_piece piece p =
        let r : Made (λ (x : Held). (x.block, cut z x.bytes x.block.0 (client v source).size)) piece (dirty_blocks (client v source).blocks) = in_map (λ (x : Held). (x.block, cut z x.bytes x.block.0 (client v source).size)) piece (dirty_blocks (client v source).blocks) p in
        let q = in_filter (λ (x : Held). is_some x.dirty) r.x (client v source).blocks r.there in
        subst (λ (x : BlockNo × List ℕ). x.1 ≡ cut z (part z stood x.0.0) x.0.0 (client v source).size) (sym r.makes) (ap (λ xs. cut z xs r.x.block.0 (client v source).size) (right_dirty r.x q.0 q.1))

    piece_of : (x : Held) → In x (client v source).blocks → is_some x.dirty ≡ true → In (x.block, cut z x.bytes x.block.0 (client v source).size) blocks
    piece_of x p q = map_in (λ (y : Held). (y.block, cut z y.bytes y.block.0 (client v source).size)) x (dirty_blocks (client v source).blocks) (filter_in (λ (y : Held). is_some y.dirty) x (client v source).blocks p q)

    new_there : In new (things w)
    new_there = subst (In new) (sym now) (with_new new one (things v) refl there)

    by_dirty : {number : ℕ} → (b : DirtyBlock v number) → (((b.kernel == source) ≡ true) × (b.kernel ≡ source)) ⊎ (((b.kernel == source) ≡ false) × (b.kernel ≢ source)) → DirtyBlock w number ⊎ (FlushedBlock w number ⊎ (part z v.bytes number ≡ part z stood number))
    by_dirty b (inl q) = inr (inl (record { call = new; there = new_there; size = (client v source).size; blocks = blocks; replied = refl; piece = (b.one.block, cut z b.one.bytes b.one.block.0 (client v source).size); inside = piece_of b.one (subst (λ x. In b.one (client v x).blocks) q.1 b.there) b.dirty; place = b.place }))
    by_dirty b (inr q) = inl (record { kernel = b.kernel; is_client = subst (λ x. IsClient x b.kernel) (sym (count_set v source d)) b.is_client; one = b.one; there = subst (λ (c : Client). In b.one c.blocks) (sym (client_other v source b.kernel d i.0 b.is_client.0 q.1)) b.there; dirty = b.dirty; place = b.place })

    some_dirty : (b : SomeDirty v) → (((b.kernel == source) ≡ true) × (b.kernel ≡ source)) ⊎ (((b.kernel == source) ≡ false) × (b.kernel ≢ source)) → SomeDirty w ⊎ (SomeFlushed w ⊎ (length v.bytes ≡ length stood))
    some_dirty b (inl q) = inr (inl (record { call = new; there = new_there; size = (client v source).size; blocks = blocks; replied = refl; some = some_in blocks (b.one.block, cut z b.one.bytes b.one.block.0 (client v source).size) (piece_of b.one (subst (λ x. In b.one (client v x).blocks) q.1 b.there) b.dirty) }))
      where
        some_in : (bs : List (BlockNo × List ℕ)) (piece : BlockNo × List ℕ) → In piece bs → is_any bs ≡ true
        some_in [] piece p = absurd p
        some_in (x ∷ bs) piece p = refl
    some_dirty b (inr q) = inl (record { kernel = b.kernel; is_client = subst (λ x. IsClient x b.kernel) (sym (count_set v source d)) b.is_client; one = b.one; there = subst (λ (c : Client). In b.one c.blocks) (sym (client_other v source b.kernel d i.0 b.is_client.0 q.1)) b.there; dirty = b.dirty })

    not_back : (y : FileCall) → y ≡ new → (other : ℕ) (c : Client) → CarriedCall z other (current_stamp v other) c v.bytes y
    not_back y s other c = carried_none z other (current_stamp v other) c v.bytes y (λ block size piece x. let q = x.is_write_back in cc (e, q, ap (λ (f : FileCall). f.body) s)) (λ block size piece x. let q = x.is_write_back in cc (e, q, ap (λ (f : FileCall). f.body) s))

    good_here : GoodBlocks z stood source v.version d (seat v source).opened (things w)
    good_here = by_kind kind refl
      where
        recalled : (x : CallKind) → kind ≡ x → x ≡ Recall → Ready source (own_stamp v source) (client v source).version v.version (is_holder v source) (client v source).mode (things v)
        recalled x q r = (t.full.holders.each source i).recall_ready (record { call = one; there = there; to_kernel = refl; stamp = stamp; recalls = e ∙ ap (form.Callback stamp) (q ∙ r); untaken = k })

        quiet_calls_to : Answered source (things v) → ⊥
        quiet_calls_to a =
            let p = t.full.standing.stamps.each a.call a.there in
            let q = p.behind a.stamp a.kind a.is_call a.taken in
            let r = p.called a.stamp a.kind a.is_call in
            let own : own_stamp v a.call.to ≡ own_stamp v source = ap (own_stamp v) a.to_kernel in
            let cur : current_stamp v a.call.to ≡ current_stamp v source = ap (current_stamp v) a.to_kernel in
            omega (arith, q, r, own, cur, below)

        lows : Low source (own_stamp v source) (things w)
        lows y q f st r = elim (in_with new y (things v) (subst (In y) now q)) [ inl s ↦ low_own v t.full.standing.stamps source y s.0 f st r | inr s ↦ absurd (cc (r, ap (λ (c : FileCall). request_stamp c.body) s, ap request_stamp e)) ]

        by_kind : (x : CallKind) → kind ≡ x → GoodBlocks z stood source v.version (take_callback (client v source) stamp kind) (seat v source).opened (things w)
        by_kind Recall q = good_all z stood source v.version (own_stamp v source) d (seat v source).opened (things w)
            (λ o. ready_size z stood v (leans_of z v t.full) con source i (recalled Recall q refl) quiet_calls_to)
            (λ y p. let r : Made cleaned y (client v source).blocks = in_map cleaned y (client v source).blocks (subst (λ x. In y (blocks_after (client v source).blocks x)) q p) in subst (λ (x : Held). x.bytes ≡ part z stood x.block.0) (sym r.makes) (ready_block z stood v (leans_of z v t.full) con source i (recalled Recall q refl) r.x r.there))
            lows later
        by_kind Stop q = good_all z stood source v.version (own_stamp v source) d (seat v source).opened (things w)
            (λ o. absurd (let s : is_on (mode_after (client v source).mode Stop) ≡ true = subst (λ x. is_on (mode_after (client v source).mode x) ≡ true) q o in cc (s)))
            (λ y p. absurd (subst (λ x. In y (blocks_after (client v source).blocks x)) q p))
            lows later
