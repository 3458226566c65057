-- The fifth layer of soundness under the smallest changes of a view.
use Rattle.std.proofs.Common.{◌≡◌, ◌≢◌, ◌≤◌, ◌<◌, ◌⊎◌, ℕ, ◌-◌, nat_le, Bool, true, false, cond, List, [], ◌∷◌, ◌++◌, length, map, Option, Some, None, refl, sym, ap, ◌∙◌, subst, inl, inr, arith, le_refl, leb-true, leb-false, append_assoc, slice_index_or}
use Rattle.std.proofs.lemmas.Bool.Decides.{eqb_tells}
use Rattle.sprite_ids.specs.declared.StreamNo.{StreamNo}
use Rattle.file_views.specs.declared.grant.FileGrant.{FileGrant}
use Rattle.file_views.specs.declared.body.FileBody.{FileBody}
use Rattle.file_views.specs.declared.body.FileBody.TheVariants as form
use Rattle.file_views.specs.declared.client.Client.{Client}
use Rattle.file_views.specs.declared.call.FileCall.{FileCall}
use Rattle.file_views.specs.declared.call.Carry.{Carry}
use Rattle.file_views.specs.declared.view.View.{View}
use Rattle.sprite_ids.specs.declared.CacheMode.TheVariants as cache
use Rattle.file_views.specs.Clients.{new_client, mode_of, granted, take_grant}
use Rattle.file_views.specs.Views.{server, client, set_client, current_stamp, mode_given, grant_given, greatest, is_callback, as_call, things, begin, new_call, replied, remove_call, to_the_end, with_call, without_call}
use Rattle.file_views.specs.Settled.{goes_of, goes_to, arrival}
use Rattle.file_views.specs.Here.{In, IsClient, Arrives}
use Rattle.file_views.specs.SoundModes.{SameNewer}
use Rattle.file_views.proofs.MemberLaws.{in_left, in_right, in_join, in_last, last_in, in_with, with_in, in_without, without_in}
use Rattle.file_views.proofs.EffectLaws.{Apart, count_set, client_set, client_other, by_kernel, things_begin, things_without, call_in_things, same_thing}
use Rattle.file_views.proofs.ShapeLaws.{in_middle, things_carried}
use Rattle.file_views.proofs.StampLaws.{own_stamp}
use Rattle.file_views.proofs.StampChangeLaws.{Reads}
use Rattle.file_views.proofs.DataLaws.{Carries}
use Rattle.file_views.proofs.ModeLaws.{Brought, Dues, modes_due, modes_took, modes_equal, FactsAt, FlatModes, Under, Moded, modes_moded, dues_self}

-- a request begins
pub dues_begin : (v : View) (kernel : ℕ) (new : FileCall) → FactsAt v kernel (things v) → arrival new.reply ≡ None → ((grant : FileGrant) → new.reply ≡ Some (form.Again grant) → ⊥) → Dues kernel (own_stamp v kernel) (own_stamp v kernel) (things v) (things v ++ new ∷ [])
dues_begin v kernel new f n g = record {
  grants = λ one m grant a. elim (in_last one new (things v) m) [ inl k ↦ record { call = one; there = k; arrives = a } | inr e ↦ absurd (cc (n, a.1, ap (λ (x : FileCall). arrival x.reply) e)) ];
  comes = λ one m grant a l. record { call = one; there = in_left one (things v) (new ∷ []) m; arrives = a };
  called = λ one m t stamp kind e u. record { call = one; there = in_left one (things v) (new ∷ []) m; to_kernel = t; is_call = e; untaken = u };
  again = λ one m e grant r l. elim (in_last one new (things v) m) [ inl k ↦ f.again one k e grant r l | inr q ↦ absurd (g grant (sym (ap (λ (x : FileCall). x.reply) q) ∙ r)) ];
}

-- a call is gone whose grant isn't over the floor
pub dues_without : (v : View) (kernel floor : ℕ) (one : FileCall) → FactsAt v kernel (things v) → Apart v → In one (things v) → one.taken ≡ true → own_stamp v kernel ≤ floor → ((grant : FileGrant) → Arrives kernel one grant → grant.stamp ≤ floor) → Dues kernel (own_stamp v kernel) floor (things v) (without_call one.number (things v))
dues_without v kernel floor one f u m t l low = record {
  grants = λ other n grant a. record { call = other; there = (in_without one.number other (things v) n).0; arrives = a };
  comes = λ other n grant a high. elim (eqb_tells other.number one.number) [
    | inl q ↦ let same : other ≡ one = same_thing v other one u n m q.1 in let k = low grant (subst (λ x. Arrives kernel x grant) same a) in absurd (omega (arith, k, high))
    | inr q ↦ record { call = other; there = without_in one.number other (things v) n q.1; arrives = a }
  ];
  called = λ other n to stamp kind e w. record { call = other; there = without_in one.number other (things v) n (λ q. let same : other ≡ one = same_thing v other one u n m q in cc (t, w, ap (λ (x : FileCall). x.taken) same)); to_kernel = to; is_call = e; untaken = w };
  again = λ other n e grant r high. f.again other (in_without one.number other (things v) n).0 e grant r (omega (arith, l, high));
}

-- a call is answered without a grant of a stream
pub dues_answer : (v : View) (kernel : ℕ) (one : FileCall) (reply : FileBody) → FactsAt v kernel (things v) → Apart v → In one (things v) → one.reply ≡ None → arrival (Some reply) ≡ None → (is_callback one.body ≡ true → one.to ≡ kernel → ⊥) → ((grant : FileGrant) → reply ≡ form.Again grant → one.from ≡ kernel → own_stamp v kernel < grant.stamp → SameNewer kernel (own_stamp v kernel) (things v) grant) → Dues kernel (own_stamp v kernel) (own_stamp v kernel) (things v) (with_call (replied one reply) (things v))
dues_answer v kernel one reply f u m n r c g = record {
  grants = λ other k grant a. elim (in_with (replied one reply) other (things v) k) [ inl p ↦ record { call = other; there = p.0; arrives = a } | inr q ↦ absurd (cc (r, a.1, ap (λ (x : FileCall). arrival x.reply) q)) ];
  comes = λ other k grant a high. record { call = other; there = with_in (replied one reply) other (things v) k (λ q. let same : other ≡ one = same_thing v other one u k m q in cc (n, a.1, ap (λ (x : FileCall). arrival x.reply) same)); arrives = a };
  called = λ other k to stamp kind e w. record { call = other; there = with_in (replied one reply) other (things v) k (λ q. let same : other ≡ one = same_thing v other one u k m q in c (sym (ap (λ (x : FileCall). is_callback x.body) same) ∙ ap is_callback e) (sym (ap (λ (x : FileCall). x.to) same) ∙ to)); to_kernel = to; is_call = e; untaken = w };
  again = λ other k e grant q high. elim (in_with (replied one reply) other (things v) k) [
    | inl p ↦ f.again other p.0 e grant q high
    | inr p ↦ g grant (is_again (sym (ap (λ (x : FileCall). x.reply) p) ∙ q)) (sym (ap (λ (x : FileCall). x.from) p) ∙ e) high
  ];
}
  where
    is_again : {grant : FileGrant} → Some reply ≡ Some (form.Again grant) → reply ≡ form.Again grant
    is_again e = cc (e)

-- a call stands in the place of one that it reads as
pub dues_reads : (v w : View) (kernel : ℕ) (one other : FileCall) → FactsAt v kernel (things v) → Reads one other → In other (things v) → is_callback other.body ≡ false → In one (things w) → ((x : FileCall) → In x (things w) → In x (things v) ⊎ (x ≡ one)) → ((x : FileCall) → In x (things v) → In x (things w) ⊎ (x ≡ other)) → Dues kernel (own_stamp v kernel) (own_stamp v kernel) (things v) (things w)
dues_reads v w kernel one other f r m c n back on = record {
  grants = λ x k grant a. elim (back x k) [ inl p ↦ record { call = x; there = p; arrives = a } | inr q ↦ let b : Arrives kernel one grant = subst (λ y. Arrives kernel y grant) q a in record { call = other; there = m; arrives = (sym r.goes_is ∙ b.0, sym r.arrival_is ∙ b.1) } ];
  comes = λ x k grant a high. elim (on x k) [ inl p ↦ record { call = x; there = p; arrives = a } | inr q ↦ let b : Arrives kernel other grant = subst (λ y. Arrives kernel y grant) q a in record { call = one; there = n; arrives = (r.goes_is ∙ b.0, r.arrival_is ∙ b.1) } ];
  called = λ x k to stamp kind e u. elim (on x k) [ inl p ↦ record { call = x; there = p; to_kernel = to; is_call = e; untaken = u } | inr q ↦ absurd (cc (c, ap is_callback e, ap (λ (y : FileCall). y.body) q)) ];
  again = λ x k e grant q high. elim (back x k) [ inl p ↦ f.again x p e grant q high | inr p ↦ let a = r.no_again grant (sym (ap (λ (y : FileCall). y.reply) p) ∙ q) in f.again other m (sym a.1 ∙ sym (ap (λ (y : FileCall). y.from) p) ∙ e) grant a.0 high ];
}

-- of views
pub moded_self : (v w : View) → w.clients ≡ v.clients → w.stamps ≡ v.stamps → w.modes ≡ v.modes → w.given ≡ v.given → w.uncached ≡ v.uncached → Moded v w
moded_self v w a b c d e = record {
  count = ap length a;
  own = λ kernel i. ap (λ cs. (slice_index_or cs (kernel - 1) new_client).stamp) a;
  now = λ kernel i. ap (λ cs. (slice_index_or cs (kernel - 1) new_client).mode) a;
  stamps = b;
  modes = c;
  given = d;
  uncached = e;
}

pub modes_same : (v w : View) → w.clients ≡ v.clients → w.stamps ≡ v.stamps → w.modes ≡ v.modes → w.given ≡ v.given → w.uncached ≡ v.uncached → Under v → FlatModes v → ((kernel : ℕ) → IsClient (length v.clients) kernel → Dues kernel (own_stamp v kernel) (own_stamp v kernel) (things v) (things w)) → FlatModes w
modes_same v w a b c d e u f g = modes_moded v w (moded_self v w a b c d e) u f g

-- what a client does and begins
pub record Moding (v : View) : Type 0 where
  pub under : Under v
  pub modes : FlatModes v

pub moded_client : (v : View) (kernel : ℕ) (c : Client) → IsClient (length v.clients) kernel → c.stamp ≡ (client v kernel).stamp → c.mode ≡ (client v kernel).mode → Moded v (set_client v kernel c)
moded_client v kernel c i a b = record {
  count = count_set v kernel c;
  own = λ other j. by_kernel (λ k. own_stamp (set_client v kernel c) k ≡ own_stamp v k) kernel other (ap (λ (x : Client). x.stamp) (client_set v kernel c i) ∙ a) (λ d. ap (λ (x : Client). x.stamp) (client_other v kernel other c i.0 j.0 d));
  now = λ other j. by_kernel (λ k. (client (set_client v kernel c) k).mode ≡ (client v k).mode) kernel other (ap (λ (x : Client). x.mode) (client_set v kernel c i) ∙ b) (λ d. ap (λ (x : Client). x.mode) (client_other v kernel other c i.0 j.0 d));
  stamps = refl;
  modes = refl;
  given = refl;
  uncached = refl;
}

pub under_moded : (v w : View) → Moded v w → Under v → ((one : FileCall) → In one (things w) → (grant : FileGrant) → arrival one.reply ≡ Some grant → Brought (goes_to one) grant (things v)) → Under w
under_moded v w h u back = record {
  own = λ kernel i. let j : IsClient (length v.clients) kernel = subst (λ n. IsClient n kernel) h.count i in let a = u.own kernel j in let b = h.own kernel j in let c : current_stamp w kernel ≡ current_stamp v kernel = ap (λ xs. slice_index_or xs (kernel - 1) 0) h.stamps in omega (arith, a, b, c);
  given = λ kernel i grant e. subst (λ xs. grant.stamp ≤ greatest xs) (sym h.stamps) (u.given kernel (subst (λ n. IsClient n kernel) h.count i) grant (ap (λ xs. slice_index_or xs (kernel - 1) None) (sym h.given) ∙ e));
  granted = λ one m grant a. let b : Brought (goes_to one) grant (things v) = back one m grant a in subst (λ xs. grant.stamp ≤ greatest xs) (sym h.stamps) (u.granted b.call b.there grant b.arrives.1);
}

pub moding_client : (v : View) (kernel : ℕ) (c : Client) → Moding v → IsClient (length v.clients) kernel → c.stamp ≡ (client v kernel).stamp → c.mode ≡ (client v kernel).mode → Moding (set_client v kernel c)
moding_client v kernel c p i a b = record {
  under = under_moded v (set_client v kernel c) (moded_client v kernel c i a b) p.under (λ one m grant q. record { call = one; there = m; arrives = (refl, q) });
  modes = modes_moded v (set_client v kernel c) (moded_client v kernel c i a b) p.under p.modes (λ other j. dues_self v other (things v) refl (p.modes other j));
}

pub moding_begin : (v : View) (kernel to : ℕ) (body : FileBody) (dirty : Option ℕ) → Moding v → Moding (begin v kernel to body dirty)
moding_begin v kernel to body dirty p = record {
  under = under_moded v (begin v kernel to body dirty) (moded_self v (begin v kernel to body dirty) refl refl refl refl refl) p.under (λ one m grant a. elim (in_last one new (things v) (subst (In one) grown m)) [ inl k ↦ record { call = one; there = k; arrives = (refl, a) } | inr e ↦ absurd (cc (a, ap (λ (x : FileCall). arrival x.reply) e)) ]);
  modes = modes_same v (begin v kernel to body dirty) refl refl refl refl refl p.under p.modes (λ other j. subst (Dues other (own_stamp v other) (own_stamp v other) (things v)) (sym grown) (dues_begin v other new (p.modes other j) refl (λ grant e. cc (e))));
}
  where
    new : FileCall
    new = new_call v kernel to body dirty

    grown : things (begin v kernel to body dirty) ≡ things v ++ new ∷ []
    grown = things_begin v kernel to body dirty

pub carries_modes : Carries Moding
carries_modes = record { client = λ v kernel c p i a. moding_client v kernel c p i a.stamp a.mode; begins = λ v kernel body dirty p i n. moding_begin v kernel server body dirty p }

-- a call is finished, a request taken, a move carried on
pub moding_remove : (v : View) (one : FileCall) → Apart v → In one v.calls → one.taken ≡ true → arrival one.reply ≡ None → Moding v → Moding (remove_call v one.number)
moding_remove v one u m t n p = record {
  under = under_moded v (remove_call v one.number) (moded_self v (remove_call v one.number) refl refl refl refl refl) p.under (λ other k grant a. record { call = other; there = (in_without one.number other (things v) (subst (In other) gone k)).0; arrives = (refl, a) });
  modes = modes_same v (remove_call v one.number) refl refl refl refl refl p.under p.modes (λ other j. subst (Dues other (own_stamp v other) (own_stamp v other) (things v)) (sym gone) (dues_without v other (own_stamp v other) one (p.modes other j) u (call_in_things v one m) t (le_refl _) (λ grant a. absurd (cc (n, a.1)))));
}
  where
    gone : things (remove_call v one.number) ≡ without_call one.number (things v)
    gone = things_without v one u m

pub modes_taken : (v : View) (one : FileCall) → Apart v → In one v.calls → is_callback one.body ≡ false → Under v → FlatModes v → FlatModes (to_the_end v one)
modes_taken v one u m c under f = modes_same v (to_the_end v one) refl refl refl refl refl under f (λ kernel i. dues_reads v (to_the_end v one) kernel (record one { taken = true }) one (f kernel i)
    (record { number_is = refl; goes_is = refl; arrival_is = refl; no_call = c; no_again = λ grant a. (a, refl); request_is = λ stamp q. (q, refl) }) (call_in_things v one m) c
    (subst (In (record one { taken = true })) now (last_in (record one { taken = true }) (things (remove_call v one.number))))
    (λ x n. elim (in_last x (record one { taken = true }) (things (remove_call v one.number)) (subst (In x) (sym now) n)) [ inl k ↦ inl (in_without one.number x (things v) (subst (In x) (things_without v one u m) k)).0 | inr e ↦ inr e ])
    (λ x n. elim (eqb_tells x.number one.number) [
      | inl a ↦ inr (same_thing v x one u n (call_in_things v one m) a.1)
      | inr b ↦ inl (subst (In x) now (in_left x (things (remove_call v one.number)) (record one { taken = true } ∷ []) (subst (In x) (sym (things_without v one u m)) (without_in one.number x (things v) n b.1))))
    ]))
  where
    now : things (remove_call v one.number) ++ record one { taken = true } ∷ [] ≡ things (to_the_end v one)
    now = append_assoc (map as_call v.carried) (without_call one.number v.calls) (record one { taken = true } ∷ [])

pub modes_carried : (v : View) (one : FileCall) (stream : StreamNo) (place : ℕ) (kept : Bool) (grants : ℕ) (grant : Option FileGrant) (more : ℕ) → Apart v → In one v.calls → one.body ≡ form.Move stream place kept grants → one.reply ≡ Some (form.Moved grant more) → Under v → FlatModes v → FlatModes (record (remove_call v one.number) { carried = v.carried ++ record { call = one.number; to = place; stream = stream; grant = grant } ∷ [] })
modes_carried v one stream place kept grants grant more u m e r under f = modes_same v w refl refl refl refl refl under f (λ kernel i. dues_reads v w kernel (as_call carry) one (f kernel i)
    (record { number_is = refl; goes_is = sym (ap (goes_of one.from) e); arrival_is = sym (ap arrival r); no_call = refl; no_again = λ g a. absurd (cc (a)); request_is = λ stamp q. absurd (cc (q)) }) (call_in_things v one m) (ap is_callback e)
    (subst (In (as_call carry)) (sym now) (in_left (as_call carry) (map as_call v.carried ++ as_call carry ∷ []) (without_call one.number v.calls) (last_in (as_call carry) (map as_call v.carried))))
    (λ x n. elim (in_middle x (as_call carry) (map as_call v.carried) (without_call one.number v.calls) (subst (In x) now n)) [ inl k ↦ inl (in_without one.number x (things v) (subst (In x) (things_without v one u m) k)).0 | inr q ↦ inr q ])
    (λ x n. elim (eqb_tells x.number one.number) [
      | inl a ↦ inr (same_thing v x one u n (call_in_things v one m) a.1)
      | inr b ↦ inl (subst (In x) (sym now) (middle_in x (as_call carry) (map as_call v.carried) (without_call one.number v.calls) (subst (In x) (sym (things_without v one u m)) (without_in one.number x (things v) n b.1))))
    ]))
  where
    carry : Carry
    carry = record { call = one.number; to = place; stream = stream; grant = grant }

    w : View
    w = record (remove_call v one.number) { carried = v.carried ++ carry ∷ [] }

    now : things w ≡ (map as_call v.carried ++ as_call carry ∷ []) ++ without_call one.number v.calls
    now = things_carried (remove_call v one.number) carry

    middle_in : (x y : FileCall) (xs ys : List FileCall) → In x (xs ++ ys) → In x ((xs ++ y ∷ []) ++ ys)
    middle_in x y xs ys k = elim (in_join x xs ys k) [ inl a ↦ in_left x (xs ++ y ∷ []) ys (in_left x xs (y ∷ []) a) | inr b ↦ in_right x (xs ++ y ∷ []) ys b ]

-- a call comes that brings a grant, or an Again
pub record Taking (v w : View) (one : FileCall) (kernel : ℕ) (grant : FileGrant) : Type 0 where
  pub there : In one (things v)
  pub taken : one.taken ≡ true
  pub left : things w ≡ without_call one.number (things v)
  pub count : length w.clients ≡ length v.clients
  pub others : (other : ℕ) → IsClient (length v.clients) other → other ≢ kernel → client w other ≡ client v other
  pub own : own_stamp w kernel ≡ (take_grant (client v kernel) grant).stamp
  pub now : (client w kernel).mode ≡ (take_grant (client v kernel) grant).mode
  pub stamps : w.stamps ≡ v.stamps
  pub modes : w.modes ≡ v.modes
  pub given : w.given ≡ v.given
  pub uncached : w.uncached ≡ v.uncached
  pub low : grant.stamp ≤ current_stamp v kernel
  pub source : own_stamp v kernel < grant.stamp → SameNewer kernel (own_stamp v kernel) (things v) grant
  pub lost : (place : ℕ) (other : FileGrant) → Arrives place one other → (place ≡ kernel) × (other.stamp ≡ grant.stamp)

pub modes_taking : (v w : View) (one : FileCall) (kernel : ℕ) (grant : FileGrant) → Taking v w one kernel grant → Apart v → IsClient (length v.clients) kernel → Under v → FlatModes v → FlatModes w
modes_taking v w one kernel grant t u i under f other j = by_kernel (λ k. IsClient (length v.clients) k → FactsAt w k (things w)) kernel other here (λ d n. far d n) (subst (λ n. IsClient n other) t.count j)
  where
    far : other ≢ kernel → IsClient (length v.clients) other → FactsAt w other (things w)
    far d n = subst (FactsAt w other) (sym t.left) (modes_equal other (own_stamp v other) (own_stamp w other) (current_stamp v other) (current_stamp w other) (client v other).mode (client w other).mode (mode_given v other) (mode_given w other) (grant_given v other) (grant_given w other) v.uncached w.uncached (without_call one.number (things v))
        (ap (λ (x : Client). x.stamp) (t.others other n d)) (ap (λ xs. slice_index_or xs (other - 1) 0) t.stamps) (ap (λ (x : Client). x.mode) (t.others other n d)) (ap (λ xs. slice_index_or xs (other - 1) cache.None) t.modes) (ap (λ xs. slice_index_or xs (other - 1) None) t.given) t.uncached
        (modes_due other (own_stamp v other) (current_stamp v other) (client v other).mode (mode_given v other) (grant_given v other) v.uncached (things v) (without_call one.number (things v)) (under.own other n) (f other n) (dues_without v other (own_stamp v other) one (f other n) u t.there t.taken (le_refl _) (λ g a. absurd (d (t.lost other g a).0)))))

    stay : (c : Client) → c.stamp ≡ own_stamp v kernel → c.mode ≡ (client v kernel).mode → own_stamp w kernel ≡ c.stamp → (client w kernel).mode ≡ c.mode → grant.stamp ≤ own_stamp v kernel → FactsAt w kernel (things w)
    stay c a b p q l = subst (FactsAt w kernel) (sym t.left) (modes_equal kernel (own_stamp v kernel) (own_stamp w kernel) (current_stamp v kernel) (current_stamp w kernel) (client v kernel).mode (client w kernel).mode (mode_given v kernel) (mode_given w kernel) (grant_given v kernel) (grant_given w kernel) v.uncached w.uncached (without_call one.number (things v))
        (p ∙ a) (ap (λ xs. slice_index_or xs (kernel - 1) 0) t.stamps) (q ∙ b) (ap (λ xs. slice_index_or xs (kernel - 1) cache.None) t.modes) (ap (λ xs. slice_index_or xs (kernel - 1) None) t.given) t.uncached
        (modes_due kernel (own_stamp v kernel) (current_stamp v kernel) (client v kernel).mode (mode_given v kernel) (grant_given v kernel) v.uncached (things v) (without_call one.number (things v)) (under.own kernel i) (f kernel i) (dues_without v kernel (own_stamp v kernel) one (f kernel i) u t.there t.taken (le_refl _) (λ g a. let e = (t.lost kernel g a).1 in omega (arith, e, l)))))

    rise : own_stamp w kernel ≡ grant.stamp → (client w kernel).mode ≡ mode_of grant.on → own_stamp v kernel < grant.stamp → FactsAt w kernel (things w)
    rise p q l = subst (FactsAt w kernel) (sym t.left) (modes_equal kernel (own_stamp w kernel) (own_stamp w kernel) (current_stamp v kernel) (current_stamp w kernel) (client w kernel).mode (client w kernel).mode (mode_given v kernel) (mode_given w kernel) (grant_given v kernel) (grant_given w kernel) v.uncached w.uncached (without_call one.number (things v))
        refl (ap (λ xs. slice_index_or xs (kernel - 1) 0) t.stamps) refl (ap (λ xs. slice_index_or xs (kernel - 1) cache.None) t.modes) (ap (λ xs. slice_index_or xs (kernel - 1) None) t.given) t.uncached
        (modes_took kernel (own_stamp v kernel) (own_stamp w kernel) (current_stamp v kernel) (client v kernel).mode (client w kernel).mode (mode_given v kernel) (grant_given v kernel) v.uncached grant (things v) (without_call one.number (things v)) (f kernel i) (t.source l) t.low p q (dues_without v kernel (own_stamp w kernel) one (f kernel i) u t.there t.taken (omega (arith, p, l)) (λ g a. let e = (t.lost kernel g a).1 in omega (arith, e, p)))))

    by_test : (b : Bool) → nat_le grant.stamp (client v kernel).stamp ≡ b → own_stamp w kernel ≡ (cond b (client v kernel) (granted (client v kernel) grant)).stamp → (client w kernel).mode ≡ (cond b (client v kernel) (granted (client v kernel) grant)).mode → FactsAt w kernel (things w)
    by_test true e p q = stay (client v kernel) refl refl p q (leb-true grant.stamp (client v kernel).stamp e)
    by_test false e p q = rise p q (leb-false grant.stamp (client v kernel).stamp e)

    here : IsClient (length v.clients) kernel → FactsAt w kernel (things w)
    here n = by_test (nat_le grant.stamp (client v kernel).stamp) refl t.own t.now
