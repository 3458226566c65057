-- The third layer of soundness where stamps are given and taken.
use Rattle.std.proofs.Common.{◌≡◌, ◌≢◌, ◌≤◌, ◌<◌, ◌⊎◌, ℕ, zero, suc, ◌+◌, ◌-◌, true, false, List, [], ◌∷◌, length, Option, Some, None, refl, sym, ap, ◌∙◌, subst, inl, inr, arith, slice_set, get_or-set_same, get_or-set_other, slice_index_or}
use Rattle.std.proofs.lemmas.Bool.Decides.{eqb_tells}
use Rattle.sprite_ids.specs.declared.BlockNo.{BlockNo}
use Rattle.sprite_ids.specs.declared.CallKind.{CallKind}
use Rattle.file_views.specs.declared.grant.FileGrant.{FileGrant}
use Rattle.file_views.specs.declared.body.FileBody.TheVariants as form
use Rattle.file_views.specs.declared.client.Client.{Client}
use Rattle.file_views.specs.declared.call.FileCall.{FileCall}
use Rattle.file_views.specs.declared.view.View.{View}
use Rattle.file_views.specs.Views.{set_client, current_stamp, mode_given, grant_given, is_callback, greatest, last_stamp, things, replied, answer, with_call}
use Rattle.file_views.specs.Clients.{new_client}
use Rattle.file_views.specs.Grants.{receiver, granting, grant_of, settle}
use Rattle.file_views.specs.Settled.{goes_to, arrival}
use Rattle.file_views.specs.Here.{In, IsClient, request_stamp}
use Rattle.file_views.proofs.MemberLaws.{in_with}
use Rattle.file_views.proofs.EffectLaws.{Apart, count_set, things_with, call_in_things}
use Rattle.file_views.proofs.StampLaws.{own_stamp, StampedIn, Paired, FlatStamps, stamped_more}
use Rattle.file_views.proofs.StampChangeLaws.{NoCall, no_call_thing, own_at}

-- a client takes a newer stamp that is at most its current one, and before that of a callback on its way to it
pub stamps_took : (v : View) (kernel : ℕ) (c : Client) → FlatStamps v → IsClient (length v.clients) kernel → own_stamp v kernel < c.stamp → c.stamp ≤ current_stamp v kernel → ((one : FileCall) → In one (things v) → (stamp : ℕ) (kind : CallKind) → one.body ≡ form.Callback stamp kind → one.taken ≡ false → one.to - 1 ≡ kernel - 1 → c.stamp < stamp) → FlatStamps (set_client v kernel c)
stamps_took v kernel c f i newer low ahead = record {
  own_below = λ other j. under other (own_at v kernel c other i) (f.own_below other (subst (λ n. IsClient n other) (count_set v kernel c) j));
  given_below = λ other j. f.given_below other (subst (λ n. IsClient n other) (count_set v kernel c) j);
  each = λ one m. let s = f.each one m in record {
    granted = s.granted;
    again = s.again;
    request = λ stamp q. raised stamp one.from (s.request stamp q) (own_at v kernel c one.from i);
    stale = s.stale;
    called = s.called;
    before = λ stamp kind q u. waits one stamp (s.before stamp kind q u) (ahead one m stamp kind q u) (own_at v kernel c one.to i);
    behind = λ stamp kind q u. over one stamp (s.behind stamp kind q u) (s.called stamp kind q) (own_at v kernel c one.to i);
    recalled = s.recalled;
    stopped = s.stopped;
  };
  pairs = f.pairs;
}
  where
    here : (other : ℕ) → other - 1 ≡ kernel - 1 → (own_stamp v other ≡ own_stamp v kernel) × (current_stamp v other ≡ current_stamp v kernel)
    here other e = (ap (λ n. (slice_index_or v.clients n new_client).stamp) e, ap (λ n. slice_index_or v.stamps n 0) e)

    under : (other : ℕ) → ((other - 1 ≡ kernel - 1) × (own_stamp (set_client v kernel c) other ≡ c.stamp)) ⊎ ((other - 1 ≢ kernel - 1) × (own_stamp (set_client v kernel c) other ≡ own_stamp v other)) → own_stamp v other ≤ current_stamp v other → own_stamp (set_client v kernel c) other ≤ current_stamp v other
    under other (inl a) l = let e = a.1 in let q = (here other a.0).1 in omega (arith, e, q, low)
    under other (inr b) l = let e = b.1 in omega (arith, e, l)

    raised : (stamp other : ℕ) → stamp ≤ own_stamp v other → ((other - 1 ≡ kernel - 1) × (own_stamp (set_client v kernel c) other ≡ c.stamp)) ⊎ ((other - 1 ≢ kernel - 1) × (own_stamp (set_client v kernel c) other ≡ own_stamp v other)) → stamp ≤ own_stamp (set_client v kernel c) other
    raised stamp other l (inl a) = let e = a.1 in let q = (here other a.0).0 in omega (arith, e, q, l, newer)
    raised stamp other l (inr b) = let e = b.1 in omega (arith, e, l)

    waits : (one : FileCall) (stamp : ℕ) → own_stamp v one.to < stamp → (one.to - 1 ≡ kernel - 1 → c.stamp < stamp) → ((one.to - 1 ≡ kernel - 1) × (own_stamp (set_client v kernel c) one.to ≡ c.stamp)) ⊎ ((one.to - 1 ≢ kernel - 1) × (own_stamp (set_client v kernel c) one.to ≡ own_stamp v one.to)) → own_stamp (set_client v kernel c) one.to < stamp
    waits one stamp l h (inl a) = let e = a.1 in let q = h a.0 in omega (arith, e, q)
    waits one stamp l h (inr b) = let e = b.1 in omega (arith, e, l)

    over : (one : FileCall) (stamp : ℕ) → own_stamp v one.to ≡ stamp → stamp ≡ current_stamp v one.to → ((one.to - 1 ≡ kernel - 1) × (own_stamp (set_client v kernel c) one.to ≡ c.stamp)) ⊎ ((one.to - 1 ≢ kernel - 1) × (own_stamp (set_client v kernel c) one.to ≡ own_stamp v one.to)) → own_stamp (set_client v kernel c) one.to ≡ stamp
    over one stamp l h (inl a) = let q = here one.to a.0 in let p = q.0 in let r = q.1 in absurd (omega (arith, l, h, p, r, newer, low))
    over one stamp l h (inr b) = b.1 ∙ l

-- a client takes a callback and answers it
pub stamps_called : (v : View) (one : FileCall) (stamp : ℕ) (kind : CallKind) (c : Client) (size : ℕ) (blocks : List (BlockNo × List ℕ)) → FlatStamps v → Apart v → In one v.calls → one.body ≡ form.Callback stamp kind → one.taken ≡ false → IsClient (length v.clients) one.to → ((x : FileCall) → In x (things v) → is_callback x.body ≡ true → 1 ≤ x.to) → c.stamp ≡ stamp → FlatStamps (answer (set_client v one.to c) one (form.Flushed size blocks))
stamps_called v one stamp kind c size blocks f u m e t i places h = record {
  own_below = λ other j. under other (own_at v one.to c other i) (f.own_below other (subst (λ n. IsClient n other) (count_set v one.to c) j));
  given_below = λ other j. f.given_below other (subst (λ n. IsClient n other) (count_set v one.to c) j);
  each = λ x n. by_place x (in_with new x (things v) (subst (In x) changed n));
  pairs = λ x y k n. pair x y (in_with new x (things v) (subst (In x) changed k)) (in_with new y (things v) (subst (In y) changed n));
}
  where
    new : FileCall
    new = replied one (form.Flushed size blocks)

    w : View
    w = set_client v one.to c

    there : In one (things v)
    there = call_in_things v one m

    is_call : is_callback one.body ≡ true
    is_call = ap is_callback e

    changed : things (answer w one (form.Flushed size blocks)) ≡ with_call new (things v)
    changed = things_with v one new u m refl

    current_is : stamp ≡ current_stamp v one.to
    current_is = (f.each one there).called stamp kind e

    older : own_stamp v one.to < stamp
    older = (f.each one there).before stamp kind e t

    here : (other : ℕ) → other - 1 ≡ one.to - 1 → (own_stamp v other ≡ own_stamp v one.to) × (current_stamp v other ≡ current_stamp v one.to)
    here other q = (ap (λ n. (slice_index_or v.clients n new_client).stamp) q, ap (λ n. slice_index_or v.stamps n 0) q)

    under : (other : ℕ) → ((other - 1 ≡ one.to - 1) × (own_stamp w other ≡ c.stamp)) ⊎ ((other - 1 ≢ one.to - 1) × (own_stamp w other ≡ own_stamp v other)) → own_stamp v other ≤ current_stamp v other → own_stamp w other ≤ current_stamp v other
    under other (inl a) l = let p = a.1 in let q = (here other a.0).1 in omega (arith, p, q, h, current_is)
    under other (inr b) l = let p = b.1 in omega (arith, p, l)

    raised : (s other : ℕ) → s ≤ own_stamp v other → ((other - 1 ≡ one.to - 1) × (own_stamp w other ≡ c.stamp)) ⊎ ((other - 1 ≢ one.to - 1) × (own_stamp w other ≡ own_stamp v other)) → s ≤ own_stamp w other
    raised s other l (inl a) = let p = a.1 in let q = (here other a.0).0 in omega (arith, p, q, l, h, older)
    raised s other l (inr b) = let p = b.1 in omega (arith, p, l)

    -- another callback is to another kernel
    apart_low : (x : FileCall) → In x (things v) → x.number ≢ one.number → (s : ℕ) (k : CallKind) → x.body ≡ form.Callback s k → own_stamp w x.to ≡ own_stamp v x.to
    apart_low x n d s k q = elim (own_at v one.to c x.to i) [ inl a ↦ absurd (d ((f.pairs x one n there).callbacks (ap is_callback q) is_call (same_place x.to (places x n (ap is_callback q)) a.0))) | inr b ↦ b.1 ]
      where
        same_place : (other : ℕ) → 1 ≤ other → other - 1 ≡ one.to - 1 → other ≡ one.to
        same_place other l z = let p = i.0 in omega (arith, z, p, l)

    by_place : (x : FileCall) → (In x (things v) × (x.number ≢ new.number)) ⊎ (x ≡ new) → StampedIn (answer w one (form.Flushed size blocks)) x
    by_place x (inl n) = let s = f.each x n.0 in record {
      granted = s.granted;
      again = s.again;
      stale = s.stale;
      called = s.called;
      recalled = s.recalled;
      stopped = s.stopped;
      request = λ stamp2 q. raised stamp2 x.from (s.request stamp2 q) (own_at v one.to c x.from i);
      before = λ s2 k2 q z. subst (λ p. p < s2) (sym (apart_low x n.0 n.1 s2 k2 q)) (s.before s2 k2 q z);
      behind = λ s2 k2 q z. apart_low x n.0 n.1 s2 k2 q ∙ s.behind s2 k2 q z;
    }
    by_place x (inr q) = subst (StampedIn (answer w one (form.Flushed size blocks))) (sym q) (let s = f.each one there in record {
      granted = λ grant a. absurd (cc (a));
      again = λ grant a. absurd (cc (a));
      stale = λ s2 r grant a. absurd (cc (a));
      request = λ s2 r. absurd (cc (e, r));
      called = s.called;
      recalled = s.recalled;
      stopped = s.stopped;
      before = λ s2 k2 r z. absurd (cc (z));
      behind = λ s2 k2 r z. own_here (own_at v one.to c one.to i) ∙ current_is ∙ sym (s.called s2 k2 r);
    })
      where
        own_here : ((one.to - 1 ≡ one.to - 1) × (own_stamp w one.to ≡ c.stamp)) ⊎ ((one.to - 1 ≢ one.to - 1) × (own_stamp w one.to ≡ own_stamp v one.to)) → own_stamp w one.to ≡ stamp
        own_here (inl a) = a.1 ∙ h
        own_here (inr b) = absurd (b.0 refl)

    left : (y : FileCall) → Paired one y → Paired new y
    left y p = record { grants = λ g k a. absurd (cc (a)); callback = λ g a. absurd (cc (a)); again = λ g a. absurd (cc (a)); callbacks = p.callbacks; alone = p.alone }

    right : (x : FileCall) → Paired x one → Paired x new
    right x p = record { grants = λ g k a b. absurd (cc (b)); callback = λ g a s k q z. absurd (cc (z)); again = λ g a s k q z. absurd (cc (z)); callbacks = p.callbacks; alone = p.alone }

    pair : (x y : FileCall) → (In x (things v) × (x.number ≢ new.number)) ⊎ (x ≡ new) → (In y (things v) × (y.number ≢ new.number)) ⊎ (y ≡ new) → Paired x y
    pair x y (inl k) (inl n) = f.pairs x y k.0 n.0
    pair x y (inl k) (inr q) = subst (Paired x) (sym q) (right x (f.pairs x one k.0 there))
    pair x y (inr q) (inl n) = subst (λ z. Paired z y) (sym q) (left y (f.pairs one y there n.0))
    pair x y (inr q) (inr r) = subst (λ z. Paired z y) (sym q) (subst (Paired new) (sym r) (right new (left one (f.pairs one one there there))))

-- the stamp given last is over each current one
pub under_greatest : (stamps : List ℕ) (i : ℕ) → slice_index_or stamps i 0 ≤ greatest stamps
under_greatest [] i = omega arith
under_greatest (stamp ∷ rest) zero = omega arith
under_greatest (stamp ∷ rest) (suc i) = let h = under_greatest rest i in omega (arith, h)

-- the kernel's current stamp after it was given one
stamp_at : (stamps : List ℕ) (kernel stamp other : ℕ) → kernel - 1 < length stamps → ((other - 1 ≡ kernel - 1) × (slice_index_or (slice_set stamps (kernel - 1) stamp) (other - 1) 0 ≡ stamp)) ⊎ ((other - 1 ≢ kernel - 1) × (slice_index_or (slice_set stamps (kernel - 1) stamp) (other - 1) 0 ≡ slice_index_or stamps (other - 1) 0))
stamp_at stamps kernel stamp other l = elim (eqb_tells (other - 1) (kernel - 1)) [
  | inl a ↦ inl (a.1, ap (λ n. slice_index_or (slice_set stamps (kernel - 1) stamp) n 0) a.1 ∙ get_or-set_same stamps (kernel - 1) stamp 0 l)
  | inr b ↦ inr (b.1, get_or-set_other stamps (kernel - 1) (other - 1) stamp 0 b.1)
]

pub stamp_rises : (stamps : List ℕ) (kernel stamp other : ℕ) → kernel - 1 < length stamps → greatest stamps ≤ stamp → slice_index_or stamps (other - 1) 0 ≤ slice_index_or (slice_set stamps (kernel - 1) stamp) (other - 1) 0
stamp_rises stamps kernel stamp other l g = by_place (stamp_at stamps kernel stamp other l) (under_greatest stamps (other - 1))
  where
    by_place : ((other - 1 ≡ kernel - 1) × (slice_index_or (slice_set stamps (kernel - 1) stamp) (other - 1) 0 ≡ stamp)) ⊎ ((other - 1 ≢ kernel - 1) × (slice_index_or (slice_set stamps (kernel - 1) stamp) (other - 1) 0 ≡ slice_index_or stamps (other - 1) 0)) → slice_index_or stamps (other - 1) 0 ≤ greatest stamps → slice_index_or stamps (other - 1) 0 ≤ slice_index_or (slice_set stamps (kernel - 1) stamp) (other - 1) 0
    by_place (inl a) h = let e = a.1 in omega (arith, e, h, g)
    by_place (inr b) h = let e = b.1 in omega (arith, e)

given_at : (given : List (Option FileGrant)) (kernel other : ℕ) (new : FileGrant) → kernel - 1 < length given → (grant : FileGrant) → slice_index_or (slice_set given (kernel - 1) (Some new)) (other - 1) None ≡ Some grant → ((other - 1 ≡ kernel - 1) × (grant ≡ new)) ⊎ ((other - 1 ≢ kernel - 1) × (slice_index_or given (other - 1) None ≡ Some grant))
given_at given kernel other new l grant e = elim (eqb_tells (other - 1) (kernel - 1)) [
  | inl a ↦ inl (a.1, some_same new grant (sym (ap (λ n. slice_index_or (slice_set given (kernel - 1) (Some new)) n None) a.1 ∙ get_or-set_same given (kernel - 1) (Some new) None l) ∙ e))
  | inr b ↦ inr (b.1, sym (get_or-set_other given (kernel - 1) (other - 1) (Some new) None b.1) ∙ e)
]
  where
    some_same : (x y : FileGrant) → Some x ≡ Some y → y ≡ x
    some_same x y q = cc (q)

-- an open or a move is granted while no callback is out
pub stamps_settle : (v : View) (one : FileCall) → FlatStamps v → Apart v → In one v.calls → NoCall v → IsClient (length v.clients) (receiver one) → length v.stamps ≡ length v.clients → length v.given ≡ length v.clients → request_stamp one.body ≡ None → goes_to one ≡ receiver one → arrival (Some (granting one.body (grant_of v one))) ≡ Some (grant_of v one) → ((grant : FileGrant) → granting one.body (grant_of v one) ≡ form.Again grant → ⊥) → FlatStamps (settle v one)
stamps_settle v one f u m none i ls lg no_request goes arrives no_again = record {
  own_below = λ other j. let a = f.own_below other j in let b = rises other in omega (arith, a, b);
  given_below = λ other j grant e. given_under other grant (given_at v.given (receiver one) other (record (grant_of v one) { size = 0 }) (in_given i) grant e) (f.given_below other j grant);
  each = λ x n. by_place x (in_with new x (things v) (subst (In x) changed n));
  pairs = λ x y k n. pair x y (in_with new x (things v) (subst (In x) changed k)) (in_with new y (things v) (subst (In y) changed n));
}
  where
    w : View
    w = settle v one

    new : FileCall
    new = replied one (granting one.body (grant_of v one))

    in_given : IsClient (length v.clients) (receiver one) → receiver one - 1 < length v.given
    in_given j = omega (arith, lg, j.0, j.1)

    in_stamps : receiver one - 1 < length v.stamps
    in_stamps = omega (arith, ls, i.0, i.1)

    rises : (other : ℕ) → current_stamp v other ≤ current_stamp w other
    rises other = stamp_rises v.stamps (receiver one) (last_stamp v + 1) other in_stamps (omega arith)

    changed : things w ≡ with_call new (things v)
    changed = things_with v one new u m refl

    no_call : is_callback one.body ≡ false
    no_call = none one m

    at_receiver : current_stamp w (receiver one) ≡ last_stamp v + 1
    at_receiver = get_or-set_same v.stamps (receiver one - 1) (last_stamp v + 1) 0 in_stamps

    given_under : (other : ℕ) (grant : FileGrant) → ((other - 1 ≡ receiver one - 1) × (grant ≡ record (grant_of v one) { size = 0 })) ⊎ ((other - 1 ≢ receiver one - 1) × (grant_given v other ≡ Some grant)) → (grant_given v other ≡ Some grant → grant.stamp ≤ current_stamp v other) → grant.stamp ≤ current_stamp w other
    given_under other grant (inl a) h =
        let e : grant.stamp ≡ last_stamp v + 1 = ap (λ (x : FileGrant). x.stamp) a.1 in
        let c : current_stamp w other ≡ current_stamp w (receiver one) = ap (λ n. slice_index_or (settle v one).stamps n 0) a.0 in
        omega (arith, e, c, at_receiver)
    given_under other grant (inr b) h = let l = h b.1 in let r = rises other in omega (arith, l, r)

    by_place : (x : FileCall) → (In x (things v) × (x.number ≢ new.number)) ⊎ (x ≡ new) → StampedIn w x
    by_place x (inl n) = stamped_more (own_stamp v) (own_stamp w) (current_stamp v) (current_stamp w) (mode_given v) (mode_given w) v.uncached w.uncached x (f.each x n.0) rises (λ k. omega arith) (λ c. absurd (no_call_thing v none x n.0 c))
    by_place x (inr q) = subst (StampedIn w) (sym q) (record {
      granted = λ grant a. same_stamp grant (sym arrives ∙ a);
      again = λ grant a. absurd (no_again grant (cc (a)));
      request = λ s r. absurd (cc (no_request, r));
      stale = λ s r grant a. absurd (cc (no_request, r));
      called = λ s k r. absurd (cc (no_call, ap is_callback r));
      before = λ s k r z. absurd (cc (no_call, ap is_callback r));
      behind = λ s k r z. absurd (cc (no_call, ap is_callback r));
      recalled = λ s r. absurd (cc (no_call, ap is_callback r));
      stopped = λ s r. absurd (cc (no_call, ap is_callback r));
    })
      where
        same_stamp : (grant : FileGrant) → Some (grant_of v one) ≡ Some grant → grant.stamp ≤ current_stamp w (goes_to one)
        same_stamp grant e =
            let k : grant_of v one ≡ grant = cc (e) in
            let s : last_stamp v + 1 ≡ grant.stamp = ap (λ (x : FileGrant). x.stamp) k in
            let c : current_stamp w (goes_to one) ≡ current_stamp w (receiver one) = ap (current_stamp w) goes in
            omega (arith, s, c, at_receiver)

    -- a grant that was on its way has another stamp
    older : (x : FileCall) → In x (things v) → (grant more : FileGrant) → arrival x.reply ≡ Some grant → Some (grant_of v one) ≡ Some more → grant.stamp ≡ more.stamp → ⊥
    older x n grant more a b e =
        let k : grant_of v one ≡ more = cc (b) in
        let s : last_stamp v + 1 ≡ more.stamp = ap (λ (y : FileGrant). y.stamp) k in
        let l = (f.each x n).granted grant a in
        let g = under_greatest v.stamps (goes_to x - 1) in
        omega (arith, s, l, g, e)

    left : (y : FileCall) → In y (things v) → Paired new y
    left y n = record {
      grants = λ grant more a b e q. absurd (older y n more grant b (sym arrives ∙ a) (sym q));
      callback = λ grant a s k q z. absurd (no_call_thing v none y n (ap is_callback q));
      again = λ grant a. absurd (no_again grant (cc (a)));
      callbacks = λ a. absurd (cc (no_call, a));
      alone = λ s e. absurd (cc (no_call, ap is_callback e));
    }

    right : (x : FileCall) → In x (things v) → Paired x new
    right x n = record {
      grants = λ grant more a b e q. absurd (older x n grant more a (sym arrives ∙ b) q);
      callback = λ grant a s k q z. absurd (cc (no_call, ap is_callback q));
      again = λ grant a s k q z. absurd (cc (no_call, ap is_callback q));
      callbacks = λ a b. absurd (cc (no_call, b));
      alone = λ s e b. absurd (cc (no_call, b));
    }

    self : Paired new new
    self = record {
      grants = λ grant more a b e q. refl;
      callback = λ grant a s k q z. absurd (cc (no_call, ap is_callback q));
      again = λ grant a s k q z. absurd (cc (no_call, ap is_callback q));
      callbacks = λ a b. absurd (cc (no_call, b));
      alone = λ s e b. absurd (cc (no_call, b));
    }

    pair : (x y : FileCall) → (In x (things v) × (x.number ≢ new.number)) ⊎ (x ≡ new) → (In y (things v) × (y.number ≢ new.number)) ⊎ (y ≡ new) → Paired x y
    pair x y (inl k) (inl n) = f.pairs x y k.0 n.0
    pair x y (inl k) (inr q) = subst (Paired x) (sym q) (right x k.0)
    pair x y (inr q) (inl n) = subst (λ z. Paired z y) (sym q) (left y n.0)
    pair x y (inr q) (inr r) = subst (λ z. Paired z y) (sym q) (subst (Paired new) (sym r) self)
