-- Cached blocks are good: the second part of coherence, with any bytes that the view stands for.
use Rattle.std.proofs.Common.{ap₂, ◌≡◌, ◌⊎◌, ℕ, ◌==◌, Bool, true, false, cond, ◌&&◌, ◌||◌, List, [], ◌∷◌, length, Some, refl, sym, ap, ◌∙◌, subst, inl, inr, arith, eqb-true, eq-eqb, ◌≢◌, ◌≤◌, ◌<◌, nat_le, not, leb-true, zero, leb-false}
use Rattle.std.proofs.lemmas.Bool.{and_from, and_parts}
use Rattle.sprite_ids.specs.declared.BlockNo.{BlockNo}
use Rattle.file_views.specs.declared.grant.FileGrant.{FileGrant}
use Rattle.file_views.specs.declared.body.FileBody.{FileBody}
use Rattle.file_views.specs.declared.body.FileBody.TheVariants as form
use Rattle.file_views.specs.declared.client.Held.{Held}
use Rattle.file_views.specs.declared.client.Client.{Client}
use Rattle.file_views.specs.declared.call.FileCall.{FileCall}
use Rattle.file_views.specs.declared.view.View.{View}
use Rattle.file_views.specs.Setting.{Setting}
use Rattle.file_views.specs.Contents.{part}
use Rattle.file_views.specs.Clients.{granted, is_on, cleaned, take_callback}
use Rattle.file_views.specs.Views.{client, things, kernels}
use Rattle.file_views.specs.Settled.{arrival, goes_to, Due, GrantComes, CallComes, due_stamp, due_grant, due_call, inserted, in_order, dues_in, dues, take_all, settled_client, settled, is_trusted}
use Rattle.file_views.specs.Here.{In, IsClient, Arrives}
use Rattle.file_views.specs.SoundContents.{StandsFor, HasOpen}
use Rattle.file_views.proofs.StampLaws.{own_stamp, FlatStamps}
use Rattle.file_views.proofs.SizeMoveLaws.{Full, full_of}
use Rattle.file_views.proofs.ContentLaws.{GoodBlocks, KeptBy, KeptNow}
use Rattle.file_views.proofs.ContentViewLaws.{Con}
use Rattle.file_views.specs.Waits.{implies}
use Rattle.file_views.specs.Coherent.{works_cached, are_parts, blocks_are_good, part_2}
use Rattle.file_views.specs.LayerLaw.{Layers}
use Rattle.file_views.proofs.CoherentLaws.{all_by, implies_by, in_inserted, ordered_in, in_ordered, dues_there, grant_of_call, dues_from, DueFrom, in_due_grant, settled_is, some_stream}
use Rattle.file_views.proofs.ContentPartLaws.{con_of}
use Rattle.file_views.specs.declared.opens.Open.{Open}
use Rattle.file_views.specs.Streams.{is_any, has_open}
use Rattle.file_views.specs.SoundHolders.{Engaged}
use Rattle.file_views.proofs.MemberLaws.{filter_in, in_join, in_map, Made}
use Rattle.file_views.proofs.ShapeStepLaws.{among_clients}
use Rattle.file_views.proofs.DecisionServeLaws.{Found, any_found}
use Rattle.file_views.proofs.HolderLaws.{seat}
use Rattle.file_views.proofs.CountLaws.{bool_cases}
use Rattle.sprite_ids.specs.declared.CallKind.{CallKind}
use Rattle.sprite_ids.specs.declared.CallKind.TheVariants.{Recall, Stop}
use Rattle.file_views.proofs.SameLaws.{bytes_same}

-- what is due stands in order of stamps
abbrev pub Sorted : List Due → Type 0
Sorted [] = zero ≡ zero
Sorted (x ∷ xs) = ((y : Due) → In y xs → due_stamp x ≤ due_stamp y) × Sorted xs

inserted_sorted : (one : Due) (xs : List Due) → Sorted xs → Sorted (inserted one xs)
inserted_sorted one [] s = ((λ y m. absurd m), refl)
inserted_sorted one (first ∷ rest) s = by_test (nat_le (due_stamp one) (due_stamp first)) refl (inserted_sorted one rest s.1)
  where
    by_test : (b : Bool) → nat_le (due_stamp one) (due_stamp first) ≡ b → Sorted (inserted one rest) → Sorted (cond b (one ∷ first ∷ rest) (first ∷ inserted one rest))
    by_test true q r =
        let l = leb-true (due_stamp one) (due_stamp first) q in
        ((λ y m. elim m [ inl e ↦ subst (λ x. due_stamp one ≤ due_stamp x) (sym e) l | inr k ↦ (let n = s.0 y k in omega (arith, l, n)) ]), s)
    by_test false q r =
        let l = leb-false (due_stamp one) (due_stamp first) q in
        ((λ y m. elim (in_inserted one rest y m) [ inl e ↦ subst (λ x. due_stamp first ≤ due_stamp x) (sym e) (omega (arith, l)) | inr k ↦ s.0 y k ]), r)

order_sorted : (xs : List Due) → Sorted (in_order xs)
order_sorted [] = refl
order_sorted (one ∷ rest) = inserted_sorted one (in_order rest) (order_sorted rest)

-- callbacks that are due have other stamps than grants
abbrev pub Different : List Due → Type 0
Different xs = (stamp : ℕ) (kind : CallKind) (grant : FileGrant) → In (CallComes stamp kind) xs → In (GrantComes grant) xs → grant.stamp ≢ stamp

-- a block that is left after what is due was held before, and a newer grant keeps it, or none comes that would
record KeptDue (c : Client) (xs : List Due) : Type 0 where
  grant : FileGrant
  there : In (GrantComes grant) xs
  newer : c.stamp < grant.stamp
  on : grant.on ≡ true
  same : grant.old ≡ c.version

record LeftAs (c : Client) (xs : List Due) (version : ℕ) : Type 0 where
  none : (grant : FileGrant) → In (GrantComes grant) xs → c.stamp < grant.stamp → grant.on ≡ false
  same : version ≡ c.version

record LeftFrom (c : Client) (xs : List Due) (version : ℕ) (one : Held) : Type 0 where
  other : Held
  there : In other c.blocks
  place : other.block ≡ one.block
  bytes : other.bytes ≡ one.bytes
  how : KeptDue c xs ⊎ LeftAs c xs version

-- what is old changes nothing
left_more : (c : Client) (x : Due) (xs : List Due) (version : ℕ) (one : Held) → ((grant : FileGrant) → x ≡ GrantComes grant → grant.stamp ≤ c.stamp) → LeftFrom c xs version one → LeftFrom c (x ∷ xs) version one
left_more c x xs version one old f = record {
  other = f.other;
  there = f.there;
  place = f.place;
  bytes = f.bytes;
  how = elim f.how [
    | inl k ↦ inl (record { grant = k.grant; there = inr k.there; newer = k.newer; on = k.on; same = k.same })
    | inr l ↦ inr (record { none = λ grant m h. elim m [ inl e ↦ absurd (let o = old grant (sym e) in omega (arith, o, h)) | inr k ↦ l.none grant k h ]; same = l.same })
  ];
}

-- a grant that is newer
left_granted : (c : Client) (grant : FileGrant) (xs : List Due) (version : ℕ) (one : Held) → c.stamp < grant.stamp → LeftFrom (granted c grant) xs version one → LeftFrom c (GrantComes grant ∷ xs) version one
left_granted c grant xs version one h f = by_test (grant.on && (c.version == grant.old)) refl f.there
  where
    by_test : (b : Bool) → (grant.on && (c.version == grant.old)) ≡ b → In f.other (cond b c.blocks []) → LeftFrom c (GrantComes grant ∷ xs) version one
    by_test true q m = let p = and_parts grant.on (c.version == grant.old) q in record { other = f.other; there = m; place = f.place; bytes = f.bytes; how = inl (record { grant = grant; there = inl refl; newer = h; on = p.0; same = sym (eqb-true c.version grant.old p.1) }) }
    by_test false q m = absurd m

-- a callback that is newer
left_called : (c : Client) (stamp : ℕ) (kind : CallKind) (xs : List Due) (version : ℕ) (one : Held) → c.stamp < stamp → ((y : Due) → In y xs → stamp ≤ due_stamp y) → Different (CallComes stamp kind ∷ xs) → LeftFrom (take_callback c stamp kind) xs version one → LeftFrom c (CallComes stamp kind ∷ xs) version one
left_called c stamp Stop xs version one h s d f = absurd f.there
left_called c stamp Recall xs version one h s d f =
    let r : Made cleaned f.other c.blocks = in_map cleaned f.other c.blocks f.there in
    record {
      other = r.x;
      there = r.there;
      place = ap (λ (y : Held). y.block) (sym r.makes) ∙ f.place;
      bytes = ap (λ (y : Held). y.bytes) (sym r.makes) ∙ f.bytes;
      how = elim f.how [
        | inl k ↦ inl (record { grant = k.grant; there = inr k.there; newer = (let n = k.newer in omega (arith, h, n)); on = k.on; same = k.same })
        | inr l ↦ inr (record { none = λ grant m n. elim m [ inl e ↦ absurd (cc (e)) | inr k ↦ l.none grant k (above (s (GrantComes grant) k) (d stamp Recall grant (inl refl) (inr k))) ]; same = l.same })
      ];
    }
  where
    above : {n : ℕ} → stamp ≤ n → n ≢ stamp → stamp < n
    above l p = omega (arith, l, p)

left_from : (c : Client) (xs : List Due) → Sorted xs → Different xs → (one : Held) → In one (take_all c xs).blocks → LeftFrom c xs (take_all c xs).version one
left_from c [] s d one m = record { other = one; there = m; place = refl; bytes = refl; how = inr (record { none = λ grant k. absurd k; same = refl }) }
left_from c (GrantComes grant ∷ rest) s d one m = by_test (nat_le grant.stamp c.stamp) refl (λ e k. left_from e rest s.1 (λ stamp kind g a b. d stamp kind g (inr a) (inr b)) one k) m
  where
    by_test : (b : Bool) → nat_le grant.stamp c.stamp ≡ b → ((e : Client) → In one (take_all e rest).blocks → LeftFrom e rest (take_all e rest).version one) → In one (take_all (cond b c (granted c grant)) rest).blocks → LeftFrom c (GrantComes grant ∷ rest) (take_all (cond b c (granted c grant)) rest).version one
    by_test true q f k = left_more c (GrantComes grant) rest (take_all c rest).version one (λ g e. (let n : grant ≡ g = cc (e) in subst (λ (x : FileGrant). x.stamp ≤ c.stamp) n (leb-true grant.stamp c.stamp q))) (f c k)
    by_test false q f k = left_granted c grant rest (take_all (granted c grant) rest).version one (leb-false grant.stamp c.stamp q) (f (granted c grant) k)
left_from c (CallComes stamp kind ∷ rest) s d one m = by_test (nat_le stamp c.stamp) refl (λ e k. left_from e rest s.1 (λ stamp kind g a b. d stamp kind g (inr a) (inr b)) one k) m
  where
    by_test : (b : Bool) → nat_le stamp c.stamp ≡ b → ((e : Client) → In one (take_all e rest).blocks → LeftFrom e rest (take_all e rest).version one) → In one (take_all (cond b c (take_callback c stamp kind)) rest).blocks → LeftFrom c (CallComes stamp kind ∷ rest) (take_all (cond b c (take_callback c stamp kind)) rest).version one
    by_test true q f k = left_more c (CallComes stamp kind) rest (take_all c rest).version one (λ g e. absurd (cc (e))) (f c k)
    by_test false q f k = left_called c stamp kind rest (take_all (take_callback c stamp kind) rest).version one (leb-false stamp c.stamp q) s.0 d (f (take_callback c stamp kind) k)

-- what is due came with calls
pub record GrantFrom (v : View) (kernel : ℕ) (grant : FileGrant) : Type 0 where
  pub call : FileCall
  pub there : In call (things v)
  pub arrives : Arrives kernel call grant

pub grant_from : (v : View) (kernel : ℕ) (grant : FileGrant) → In (GrantComes grant) (dues v kernel) → GrantFrom v kernel grant
grant_from v kernel grant m =
    let r : DueFrom kernel (things v) (GrantComes grant) = dues_from kernel (things v) (GrantComes grant) (in_ordered (dues_in kernel (things v)) (GrantComes grant) m) in
    elim (in_join (GrantComes grant) (due_grant (goes_to r.call == kernel) (arrival r.call.reply)) (due_call ((r.call.to == kernel) && not r.call.taken) r.call.body) r.due) [
      | inl k ↦ (let p = in_due_grant (goes_to r.call == kernel) (arrival r.call.reply) (GrantComes grant) k in
          let n : grant ≡ p.1.0 = (let e = p.1.1.1 in cc (e)) in
          record { call = r.call; there = r.there; arrives = (eqb-true (goes_to r.call) kernel p.0, p.1.1.0 ∙ ap (λ (x : FileGrant). Some x) (sym n)) })
      | inr k ↦ absurd (no_grant ((r.call.to == kernel) && not r.call.taken) r.call.body k)
    ]
  where
    no_grant : (b : Bool) (body : FileBody) → In (GrantComes grant) (due_call b body) → ⊥
    no_grant true (form.Callback stamp kind) (inl e) = cc (e)
    no_grant true (form.Callback stamp kind) (inr m) = absurd m
    no_grant true body m = absurd m
    no_grant false body m = absurd m

call_from : (v : View) (kernel stamp : ℕ) (kind : CallKind) → (r : DueFrom kernel (things v) (CallComes stamp kind)) → (r.call.body ≡ form.Callback stamp kind) × ((r.call.taken ≡ false) × (r.call.to ≡ kernel))
call_from v kernel stamp kind r =
    elim (in_join (CallComes stamp kind) (due_grant (goes_to r.call == kernel) (arrival r.call.reply)) (due_call ((r.call.to == kernel) && not r.call.taken) r.call.body) r.due) [
      | inl k ↦ absurd (let p = in_due_grant (goes_to r.call == kernel) (arrival r.call.reply) (CallComes stamp kind) k in let e = p.1.1.1 in cc (e))
      | inr k ↦ (let p = is_call ((r.call.to == kernel) && not r.call.taken) r.call.body refl k in let q = and_parts (r.call.to == kernel) (not r.call.taken) p.0 in (p.1, (not_taken r.call.taken q.1, eqb-true r.call.to kernel q.0)))
    ]
  where
    is_call : (b : Bool) (body : FileBody) → r.call.body ≡ body → In (CallComes stamp kind) (due_call b body) → (b ≡ true) × (r.call.body ≡ form.Callback stamp kind)
    is_call true (form.Callback other sort) e (inl q) = (refl, (let a : stamp ≡ other = cc (q) in let b : kind ≡ sort = cc (q) in e ∙ sym (ap₂ form.Callback a b)))
    is_call true (form.Callback other sort) e (inr m) = absurd m
    is_call true body e m = absurd m
    is_call false body e m = absurd m

    not_taken : (b : Bool) → not b ≡ true → b ≡ false
    not_taken true e = absurd (cc (e))
    not_taken false e = refl

due_different : (v : View) → FlatStamps v → (kernel : ℕ) → Different (dues v kernel)
due_different v stamps kernel stamp kind grant a b =
    let r : DueFrom kernel (things v) (CallComes stamp kind) = dues_from kernel (things v) (CallComes stamp kind) (in_ordered (dues_in kernel (things v)) (CallComes stamp kind) a) in
    let g : GrantFrom v kernel grant = grant_from v kernel grant b in
    let c = call_from v kernel stamp kind r in
    (stamps.pairs g.call r.call g.there r.there).callback grant g.arrives.1 stamp kind c.0 c.1.0 (g.arrives.0 ∙ sym c.1.1)

parts_by : (z : Setting) (bytes : List ℕ) (blocks : List Held) → ((one : Held) → In one blocks → one.bytes ≡ part z bytes one.block.0) → are_parts z bytes blocks ≡ true
parts_by z bytes blocks f = all_by _ blocks (λ one m. bytes_same one.bytes (part z bytes one.block.0) (f one m))

good_by : (z : Setting) (stood : List ℕ) (v : View) → Full z v → Con z stood v → (kernel : ℕ) → IsClient (length v.clients) kernel → blocks_are_good z v stood kernel ≡ true
good_by z stood v t con kernel i = and_from (implies (is_trusted (settled z v) kernel) (are_parts z stood (client (settled z v) kernel).blocks)) _
    (implies_by (is_trusted (settled z v) kernel) _ (λ e. parts_by z stood (client (settled z v) kernel).blocks (λ one m. trusted (has_open v.opens kernel) refl (and_parts (is_on (client (settled z v) kernel).mode) _ e).1 one m)))
    (implies_by (works_cached (client v kernel)) _ (λ e.
    let p = and_parts (is_on (client v kernel).mode) (is_any (client v kernel).streams) e in
    let s = some_stream (client v kernel).streams p.1 in
    let engaged : Engaged kernel (own_stamp v kernel) (client v kernel).streams (things v) = inl (record { stream = s.0; there = s.1 }) in
    and_from ((client v kernel).size == length stood) _ (eq-eqb (client v kernel).size (length stood) (g.engaged_size p.0 engaged)) (parts_by z stood (client v kernel).blocks (g.engaged p.0 engaged))))
  where
    g : GoodBlocks z stood kernel v.version (client v kernel) (seat v kernel).opened (things v)
    g = con.good kernel i

    is_settled : client (settled z v) kernel ≡ settled_client v kernel
    is_settled = settled_is z v kernel i

    counted : (b : Bool) → has_open v.opens kernel ≡ b → (b || ((client (settled z v) kernel).version == v.version)) ≡ true → (client (settled z v) kernel).version ≡ (client v kernel).version → HasOpen (seat v kernel).opened ⊎ ((client v kernel).version ≡ v.version)
    counted true q e s = let f : Found (λ (y : Open). y.kernel == kernel) v.opens = any_found (λ (y : Open). y.kernel == kernel) v.opens q in inl (record { one = f.item; there = filter_in (λ (y : Open). y.kernel == kernel) f.item v.opens f.there f.holds })
    counted false q e s = inr (sym s ∙ eqb-true (client (settled z v) kernel).version v.version e)

    on_now : (other : Held) → In other (client v kernel).blocks → is_on (client v kernel).mode ≡ true
    on_now other m = elim (bool_cases (is_on (client v kernel).mode)) [ inl o ↦ o | inr o ↦ absurd (subst (In other) ((t.asking kernel i).off_empty o) m) ]

    trusted : (b : Bool) → has_open v.opens kernel ≡ b → (has_open v.opens kernel || ((client (settled z v) kernel).version == v.version)) ≡ true → (one : Held) → In one (client (settled z v) kernel).blocks → one.bytes ≡ part z stood one.block.0
    trusted b q e one m =
        let f : LeftFrom (client v kernel) (dues v kernel) (settled_client v kernel).version one = left_from (client v kernel) (dues v kernel) (order_sorted (dues_in kernel (things v))) (due_different v t.standing.stamps kernel) one (subst (λ (c : Client). In one c.blocks) is_settled m) in
        let k : KeptBy kernel (own_stamp v kernel) (client v kernel).version (things v) ⊎ KeptNow kernel (own_stamp v kernel) (client v kernel).version v.version (seat v kernel).opened (things v) = elim f.how [
          | inl y ↦ (let h : GrantFrom v kernel y.grant = grant_from v kernel y.grant y.there in inl (record { call = h.call; grant = y.grant; is_newer = (h.there, h.arrives, y.newer); on = y.on; same = y.same }))
          | inr y ↦ inr (record {
            none = λ call n grant a h. y.none grant (ordered_in (dues_in kernel (things v)) (GrantComes grant) (dues_there kernel (things v) call (GrantComes grant) n (grant_of_call kernel call grant a))) h;
            counts = counted b q (subst (λ x. (x || ((client (settled z v) kernel).version == v.version)) ≡ true) q e) (ap (λ (c : Client). c.version) is_settled ∙ y.same);
          })
        ] in
        sym f.bytes ∙ (g.kept (on_now f.other f.there) k f.other f.there ∙ ap (λ (n : BlockNo). part z stood n.0) f.place)

pub part_2_by : (z : Setting) (v : View) → Layers z v → (f : StandsFor z v) → part_2 z v f.stood ≡ true
part_2_by z v l f = all_by (blocks_are_good z v f.stood) (kernels v) (λ kernel m. good_by z f.stood v t (con_of z v t.standing.stamps f) kernel (among_clients v kernel m))
  where
    t : Full z v
    t = full_of z v l.shapes l.streams l.stamps l.decisions l.modes l.holders l.asking l.write_backs l.sizes
