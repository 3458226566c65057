-- The third layer of soundness under the smallest changes of a view.
use Rattle.std.proofs.Common.{◌≡◌, ◌≢◌, ◌≤◌, ◌<◌, ◌⊎◌, ℕ, ◌-◌, Bool, true, false, [], ◌∷◌, ◌++◌, length, map, Option, Some, None, refl, sym, ap, ◌∙◌, subst, inl, inr, arith, slice_set, get_or-set_same, get_or-set_other, slice_index_or, append_assoc}
use Rattle.std.proofs.lemmas.Bool.Decides.{eqb_tells}
use Rattle.sprite_ids.specs.declared.StreamNo.{StreamNo}
use Rattle.sprite_ids.specs.declared.CallKind.{CallKind}
use Rattle.file_views.specs.declared.grant.FileGrant.{FileGrant}
use Rattle.file_views.specs.declared.body.FileBody.{FileBody}
use Rattle.file_views.specs.declared.body.FileBody.TheVariants as form
use Rattle.file_views.specs.declared.client.Client.{Client}
use Rattle.file_views.specs.declared.call.FileCall.{FileCall}
use Rattle.file_views.specs.declared.call.Carry.{Carry}
use Rattle.file_views.specs.declared.view.View.{View}
use Rattle.file_views.specs.Views.{set_client, current_stamp, mode_given, is_callback, as_call, things, begin, new_call, replied, answer, remove_call, to_the_end, with_call, without_call, without_carried}
use Rattle.file_views.specs.Clients.{new_client}
use Rattle.file_views.specs.Settled.{goes_of, goes_to, arrival}
use Rattle.file_views.specs.Here.{In, IsClient, request_stamp}
use Rattle.file_views.proofs.MemberLaws.{in_last, in_with, in_without}
use Rattle.file_views.proofs.EffectLaws.{Apart, count_set, things_begin, things_with, things_without, things_uncarried, call_in_things}
use Rattle.file_views.proofs.ShapeLaws.{in_middle, things_carried}
use Rattle.file_views.proofs.StampLaws.{own_stamp, StampedIn, Paired, FlatStamps, Still, stamps_still, stamps_fewer, stamped_more, only_call}

-- a client's stamp after another client was put
pub own_at : (v : View) (kernel : ℕ) (c : Client) (other : ℕ) → IsClient (length v.clients) kernel → ((other - 1 ≡ kernel - 1) × (own_stamp (set_client v kernel c) other ≡ c.stamp)) ⊎ ((other - 1 ≢ kernel - 1) × (own_stamp (set_client v kernel c) other ≡ own_stamp v other))
own_at v kernel c other i = elim (eqb_tells (other - 1) (kernel - 1)) [
  | inl a ↦ inl (a.1, ap (λ n. (slice_index_or (slice_set v.clients (kernel - 1) c) n new_client).stamp) a.1 ∙ ap (λ (x : Client). x.stamp) (get_or-set_same v.clients (kernel - 1) c new_client (omega (arith, i.0, i.1))))
  | inr b ↦ inr (b.1, ap (λ (x : Client). x.stamp) (get_or-set_other v.clients (kernel - 1) (other - 1) c new_client b.1))
]

still_client_stamp : (v : View) (kernel : ℕ) (c : Client) → IsClient (length v.clients) kernel → c.stamp ≡ own_stamp v kernel → Still v (set_client v kernel c)
still_client_stamp v kernel c i e = record {
  count = count_set v kernel c;
  own = λ other. elim (own_at v kernel c other i) [ inl a ↦ a.1 ∙ e ∙ sym (ap (λ n. (slice_index_or v.clients n new_client).stamp) a.0) | inr b ↦ b.1 ];
  stamps = refl;
  modes = refl;
  given = refl;
  uncached = refl;
}

pub stamps_client : (v : View) (kernel : ℕ) (c : Client) → FlatStamps v → IsClient (length v.clients) kernel → c.stamp ≡ own_stamp v kernel → FlatStamps (set_client v kernel c)
stamps_client v kernel c f i e = stamps_fewer v (set_client v kernel c) (still_client_stamp v kernel c i e) f (λ one m. m)

still_self : (v w : View) → w.clients ≡ v.clients → w.stamps ≡ v.stamps → w.modes ≡ v.modes → w.given ≡ v.given → w.uncached ≡ v.uncached → Still v w
still_self v w a b c d e = record { count = ap length a; own = λ kernel. ap (λ cs. (slice_index_or cs (kernel - 1) new_client).stamp) a; stamps = b; modes = c; given = d; uncached = e }

-- the server's other parts change
pub stamps_same : (v w : View) → w.clients ≡ v.clients → w.stamps ≡ v.stamps → w.modes ≡ v.modes → w.given ≡ v.given → w.uncached ≡ v.uncached → things w ≡ things v → FlatStamps v → FlatStamps w
stamps_same v w a b c d e t f = stamps_fewer v w (still_self v w a b c d e) f (λ one m. subst (In one) t m)

-- no callback is out
abbrev pub NoCall : View → Type 0
NoCall v = (one : FileCall) → In one v.calls → is_callback one.body ≡ false

pub no_call_thing : (v : View) → NoCall v → (one : FileCall) → In one (things v) → is_callback one.body ≡ true → ⊥
no_call_thing v n one m c = cc (n one (only_call v one m c), c)

-- where none is, it doesn't matter whether the file is uncached
pub stamps_told : (v w : View) → NoCall v → w.clients ≡ v.clients → w.stamps ≡ v.stamps → w.given ≡ v.given → things w ≡ things v → FlatStamps v → FlatStamps w
stamps_told v w n a b d t f = record {
  own_below = λ kernel i. let l = f.own_below kernel (subst (λ cs. IsClient (length cs) kernel) a i) in let p : own_stamp w kernel ≡ own_stamp v kernel = ap (λ cs. (slice_index_or cs (kernel - 1) new_client).stamp) a in let q : current_stamp w kernel ≡ current_stamp v kernel = ap (λ xs. slice_index_or xs (kernel - 1) 0) b in omega (arith, l, p, q);
  given_below = λ kernel i grant e. let l = f.given_below kernel (subst (λ cs. IsClient (length cs) kernel) a i) grant (ap (λ xs. slice_index_or xs (kernel - 1) None) (sym d) ∙ e) in let q : current_stamp w kernel ≡ current_stamp v kernel = ap (λ xs. slice_index_or xs (kernel - 1) 0) b in omega (arith, l, q);
  each = λ one m. let k : In one (things v) = subst (In one) t m in stamped_more (own_stamp v) (own_stamp w) (current_stamp v) (current_stamp w) (mode_given v) (mode_given w) v.uncached w.uncached one (f.each one k)
      (λ x. let q : current_stamp w x ≡ current_stamp v x = ap (λ xs. slice_index_or xs (x - 1) 0) b in omega (arith, q))
      (λ x. let p : own_stamp w x ≡ own_stamp v x = ap (λ cs. (slice_index_or cs (x - 1) new_client).stamp) a in omega (arith, p))
      (λ c. absurd (no_call_thing v n one k c));
  pairs = λ one other m k. f.pairs one other (subst (In one) t m) (subst (In other) t k);
}

-- a call that is no callback and has no grant says nothing of others
quiet_left : (one other : FileCall) → is_callback one.body ≡ false → arrival one.reply ≡ None → ((grant : FileGrant) → one.reply ≡ Some (form.Again grant) → (stamp : ℕ) (kind : CallKind) → other.body ≡ form.Callback stamp kind → other.taken ≡ false → one.from ≡ other.to → grant.stamp ≢ stamp) → Paired one other
quiet_left one other c a g = record {
  grants = λ grant more p q e r. absurd (cc (a, p));
  callback = λ grant p stamp kind e u t. absurd (cc (a, p));
  again = g;
  callbacks = λ p q e. absurd (cc (c, p));
  alone = λ stamp e q. absurd (cc (c, ap is_callback e));
}

quiet_right : (one other : FileCall) → is_callback other.body ≡ false → arrival other.reply ≡ None → Paired one other
quiet_right one other c a = record {
  grants = λ grant more p q e r. absurd (cc (a, q));
  callback = λ grant p stamp kind e u t. absurd (cc (c, ap is_callback e));
  again = λ grant p stamp kind e u t. absurd (cc (c, ap is_callback e));
  callbacks = λ p q e. absurd (cc (c, q));
  alone = λ stamp e q. absurd (cc (c, q));
}

-- a request begins
pub stamps_begin : (v : View) (source to : ℕ) (body : FileBody) (dirty : Option ℕ) → FlatStamps v → is_callback body ≡ false → ((stamp : ℕ) → request_stamp body ≡ Some stamp → stamp ≤ own_stamp v source) → FlatStamps (begin v source to body dirty)
stamps_begin v source to body dirty f c low = stamps_still v (begin v source to body dirty) (still_self v (begin v source to body dirty) refl refl refl refl refl) f
    (λ one m. by_place one (in_last one new (things v) (subst (In one) (things_begin v source to body dirty) m)))
    (λ one other m n. pair one other (in_last one new (things v) (subst (In one) (things_begin v source to body dirty) m)) (in_last other new (things v) (subst (In other) (things_begin v source to body dirty) n)))
  where
    new : FileCall
    new = new_call v source to body dirty

    stamped : StampedIn v new
    stamped = record {
      granted = λ grant a. absurd (cc (a));
      again = λ grant a. absurd (cc (a));
      request = low;
      stale = λ stamp q grant a. absurd (cc (a));
      called = λ stamp kind q. absurd (cc (c, ap is_callback q));
      before = λ stamp kind q u. absurd (cc (c, ap is_callback q));
      behind = λ stamp kind q u. absurd (cc (c, ap is_callback q));
      recalled = λ stamp q. absurd (cc (c, ap is_callback q));
      stopped = λ stamp q. absurd (cc (c, ap is_callback q));
    }

    by_place : (one : FileCall) → In one (things v) ⊎ (one ≡ new) → StampedIn v one
    by_place one (inl m) = f.each one m
    by_place one (inr e) = subst (StampedIn v) (sym e) stamped

    pair : (one other : FileCall) → In one (things v) ⊎ (one ≡ new) → In other (things v) ⊎ (other ≡ new) → Paired one other
    pair one other (inl m) (inl n) = f.pairs one other m n
    pair one other (inl m) (inr e) = subst (Paired one) (sym e) (quiet_right one new c refl)
    pair one other (inr e) b = subst (λ x. Paired x other) (sym e) (quiet_left new other c refl (λ grant a. absurd (cc (a))))

-- a request is answered without a grant of a stream
pub stamps_answer : (v : View) (one : FileCall) (reply : FileBody) → Apart v → In one v.calls → is_callback one.body ≡ false → arrival (Some reply) ≡ None →
    ((grant : FileGrant) → reply ≡ form.Again grant → NoCall v × (grant.stamp ≤ current_stamp v one.from) × ((stamp : ℕ) → request_stamp one.body ≡ Some stamp → stamp < current_stamp v one.from)) → FlatStamps v → FlatStamps (answer v one reply)
stamps_answer v one reply u m c a g f = stamps_still v (answer v one reply) (still_self v (answer v one reply) refl refl refl refl refl) f
    (λ other n. by_place other (in_with (replied one reply) other (things v) (subst (In other) changed n)))
    (λ x y k n. pair x y (in_with (replied one reply) x (things v) (subst (In x) changed k)) (in_with (replied one reply) y (things v) (subst (In y) changed n)))
  where
    changed : things (answer v one reply) ≡ with_call (replied one reply) (things v)
    changed = things_with v one (replied one reply) u m refl

    is_again : (grant : FileGrant) → (replied one reply).reply ≡ Some (form.Again grant) → reply ≡ form.Again grant
    is_again grant e = cc (e)

    stamped : StampedIn v (replied one reply)
    stamped = record {
      granted = λ grant e. absurd (cc (a, e));
      again = λ grant e. (g grant (is_again grant e)).1;
      request = λ stamp q. (f.each one (call_in_things v one m)).request stamp q;
      stale = λ stamp q grant e. (g grant (is_again grant e)).2 stamp q;
      called = λ stamp kind q. absurd (cc (c, ap is_callback q));
      before = λ stamp kind q t. absurd (cc (c, ap is_callback q));
      behind = λ stamp kind q t. absurd (cc (c, ap is_callback q));
      recalled = λ stamp q. absurd (cc (c, ap is_callback q));
      stopped = λ stamp q. absurd (cc (c, ap is_callback q));
    }

    by_place : (other : FileCall) → (In other (things v) × (other.number ≢ one.number)) ⊎ (other ≡ replied one reply) → StampedIn v other
    by_place other (inl n) = f.each other n.0
    by_place other (inr e) = subst (StampedIn v) (sym e) stamped

    pair : (x y : FileCall) → (In x (things v) × (x.number ≢ one.number)) ⊎ (x ≡ replied one reply) → (In y (things v) × (y.number ≢ one.number)) ⊎ (y ≡ replied one reply) → Paired x y
    pair x y (inl k) (inl n) = f.pairs x y k.0 n.0
    pair x y (inl k) (inr e) = subst (Paired x) (sym e) (quiet_right x (replied one reply) c a)
    pair x y (inr e) (inl n) = subst (λ z. Paired z y) (sym e) (quiet_left (replied one reply) y c a (λ grant r stamp kind b t k. absurd (no_call_thing v (g grant (is_again grant r)).0 y n.0 (ap is_callback b))))
    pair x y (inr e) (inr q) = subst (Paired x) (sym q) (quiet_right x (replied one reply) c a)

-- a call is finished, a carried stream came
pub stamps_remove : (v : View) (one : FileCall) → Apart v → In one v.calls → FlatStamps v → FlatStamps (remove_call v one.number)
stamps_remove v one u m f = stamps_fewer v (remove_call v one.number) (still_self v (remove_call v one.number) refl refl refl refl refl) f (λ other n. (in_without one.number other (things v) (subst (In other) (things_without v one u m) n)).0)

pub stamps_uncarried : (v : View) (carry : Carry) → Apart v → In carry v.carried → FlatStamps v → FlatStamps (record v { carried = without_carried carry.call v.carried })
stamps_uncarried v carry u m f = stamps_fewer v (record v { carried = without_carried carry.call v.carried }) (still_self v (record v { carried = without_carried carry.call v.carried }) refl refl refl refl refl) f (λ other n. (in_without carry.call other (things v) (subst (In other) (things_uncarried v carry u m) n)).0)

-- a call reads as another, which says no more
pub record Reads (one other : FileCall) : Type 0 where
  pub number_is : one.number ≡ other.number
  pub goes_is : goes_to one ≡ goes_to other
  pub arrival_is : arrival one.reply ≡ arrival other.reply
  pub no_call : is_callback one.body ≡ false
  pub no_again : (grant : FileGrant) → one.reply ≡ Some (form.Again grant) → (other.reply ≡ Some (form.Again grant)) × (one.from ≡ other.from)
  pub request_is : (stamp : ℕ) → request_stamp one.body ≡ Some stamp → (request_stamp other.body ≡ Some stamp) × (one.from ≡ other.from)

pub stamped_reads : (v : View) (one other : FileCall) → Reads one other → StampedIn v other → StampedIn v one
stamped_reads v one other r s = record {
  granted = λ grant a. subst (λ k. grant.stamp ≤ current_stamp v k) (sym r.goes_is) (s.granted grant (sym r.arrival_is ∙ a));
  again = λ grant a. let p = r.no_again grant a in subst (λ k. grant.stamp ≤ current_stamp v k) (sym p.1) (s.again grant p.0);
  request = λ stamp q. let p = r.request_is stamp q in subst (λ k. stamp ≤ own_stamp v k) (sym p.1) (s.request stamp p.0);
  stale = λ stamp q grant a. let p = r.request_is stamp q in subst (λ k. stamp < current_stamp v k) (sym p.1) (s.stale stamp p.0 grant (r.no_again grant a).0);
  called = λ stamp kind q. absurd (cc (r.no_call, ap is_callback q));
  before = λ stamp kind q u. absurd (cc (r.no_call, ap is_callback q));
  behind = λ stamp kind q u. absurd (cc (r.no_call, ap is_callback q));
  recalled = λ stamp q. absurd (cc (r.no_call, ap is_callback q));
  stopped = λ stamp q. absurd (cc (r.no_call, ap is_callback q));
}

pub paired_reads : (one other x : FileCall) → Reads one other → Paired other x → Paired one x
paired_reads one other x r p = record {
  grants = λ grant more a b e q. r.number_is ∙ p.grants grant more (sym r.arrival_is ∙ a) b (sym r.goes_is ∙ e) q;
  callback = λ grant a stamp kind e u t. p.callback grant (sym r.arrival_is ∙ a) stamp kind e u (sym r.goes_is ∙ t);
  again = λ grant a stamp kind e u t. let k = r.no_again grant a in p.again grant k.0 stamp kind e u (sym k.1 ∙ t);
  callbacks = λ a b e. absurd (cc (r.no_call, a));
  alone = λ stamp e c. absurd (cc (r.no_call, ap is_callback e));
}

pub reads_paired : (one other x : FileCall) → Reads one other → Paired x other → Paired x one
reads_paired one other x r p = record {
  grants = λ grant more a b e q. p.grants grant more a (sym r.arrival_is ∙ b) (e ∙ r.goes_is) q ∙ sym r.number_is;
  callback = λ grant a stamp kind e u t. absurd (cc (r.no_call, ap is_callback e));
  again = λ grant a stamp kind e u t. absurd (cc (r.no_call, ap is_callback e));
  callbacks = λ a b e. absurd (cc (r.no_call, b));
  alone = λ stamp e c. absurd (cc (r.no_call, c));
}

-- among the calls one stands in the place of another that it reads as
pub stamps_reads : (v w : View) (one other : FileCall) → Still v w → FlatStamps v → Reads one other → In other (things v) → ((x : FileCall) → In x (things w) → In x (things v) ⊎ (x ≡ one)) → FlatStamps w
stamps_reads v w one other s f r m place = stamps_still v w s f (λ x n. by_place x (place x n)) (λ x y k n. pair x y (place x k) (place y n))
  where
    by_place : (x : FileCall) → In x (things v) ⊎ (x ≡ one) → StampedIn v x
    by_place x (inl n) = f.each x n
    by_place x (inr e) = subst (StampedIn v) (sym e) (stamped_reads v one other r (f.each other m))

    pair : (x y : FileCall) → In x (things v) ⊎ (x ≡ one) → In y (things v) ⊎ (y ≡ one) → Paired x y
    pair x y (inl k) (inl n) = f.pairs x y k n
    pair x y (inl k) (inr e) = subst (Paired x) (sym e) (reads_paired one other x r (f.pairs x other k m))
    pair x y (inr e) (inl n) = subst (λ z. Paired z y) (sym e) (paired_reads one other y r (f.pairs other y m n))
    pair x y (inr e) (inr q) = subst (λ z. Paired z y) (sym e) (subst (Paired one) (sym q) (paired_reads one other one r (reads_paired one other other r (f.pairs other other m m))))

-- the server takes a request
pub stamps_take : (v : View) (one : FileCall) → Apart v → In one v.calls → is_callback one.body ≡ false → FlatStamps v → FlatStamps (to_the_end v one)
stamps_take v one u m c f = stamps_reads v (to_the_end v one) (record one { taken = true }) one (still_self v (to_the_end v one) refl refl refl refl refl) f
    (record { number_is = refl; goes_is = refl; arrival_is = refl; no_call = c; no_again = λ grant a. (a, refl); request_is = λ stamp q. (q, refl) }) (call_in_things v one m)
    (λ x n. elim (in_last x (record one { taken = true }) (things (remove_call v one.number)) (subst (In x) (sym (append_assoc (map as_call v.carried) (without_call one.number v.calls) (record one { taken = true } ∷ []))) n)) [ inl k ↦ inl (in_without one.number x (things v) (subst (In x) (things_without v one u m) k)).0 | inr e ↦ inr e ])

-- a move's stream is carried on
pub stamps_carried : (v : View) (one : FileCall) (stream : StreamNo) (place : ℕ) (kept : Bool) (grants : ℕ) (grant : Option FileGrant) (more : ℕ) → Apart v → In one v.calls → one.body ≡ form.Move stream place kept grants → one.reply ≡ Some (form.Moved grant more) → FlatStamps v → FlatStamps (record (remove_call v one.number) { carried = v.carried ++ record { call = one.number; to = place; stream = stream; grant = grant } ∷ [] })
stamps_carried v one stream place kept grants grant more u m e r f = stamps_reads v (record (remove_call v one.number) { carried = v.carried ++ carry ∷ [] }) (as_call carry) one (still_self v (record (remove_call v one.number) { carried = v.carried ++ carry ∷ [] }) refl refl refl refl refl) f
    (record { number_is = refl; goes_is = sym (ap (goes_of one.from) e); arrival_is = sym (ap arrival r); no_call = refl; no_again = λ g a. absurd (cc (a)); request_is = λ stamp q. absurd (cc (q)) }) (call_in_things v one m)
    (λ x n. elim (in_middle x (as_call carry) (map as_call v.carried) (without_call one.number v.calls) (subst (In x) (things_carried (remove_call v one.number) carry) n)) [ inl k ↦ inl (in_without one.number x (things v) (subst (In x) (things_without v one u m) k)).0 | inr q ↦ inr q ])
  where
    carry : Carry
    carry = record { call = one.number; to = place; stream = stream; grant = grant }
