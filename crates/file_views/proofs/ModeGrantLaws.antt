-- The fifth layer of soundness where grants are given and callbacks go out and are taken.
use Rattle.std.proofs.Common.{◌≡◌, ◌≢◌, ◌≤◌, ◌<◌, ◌⊎◌, ℕ, zero, suc, ◌+◌, ◌-◌, Bool, true, false, cond, not, List, [], ◌∷◌, ◌++◌, length, Option, Some, None, refl, sym, ap, ◌∙◌, subst, inl, inr, arith, slice_set, get_or-set_same, get_or-set_other, eq-eqb, length-set}
use Rattle.sprite_ids.specs.declared.BlockNo.{BlockNo}
use Rattle.sprite_ids.specs.declared.CacheMode.{CacheMode}
use Rattle.sprite_ids.specs.declared.CacheMode.TheVariants as cache
use Rattle.sprite_ids.specs.declared.CallKind.{CallKind}
use Rattle.sprite_ids.specs.declared.CallKind.TheVariants.{Recall, Stop}
use Rattle.file_views.specs.declared.grant.FileGrant.{FileGrant}
use Rattle.file_views.specs.declared.body.FileBody.TheVariants as form
use Rattle.file_views.specs.declared.client.Client.{Client}
use Rattle.file_views.specs.declared.call.FileCall.{FileCall}
use Rattle.file_views.specs.declared.view.View.{View}
use Rattle.file_views.specs.Clients.{is_on, mode_of, mode_after, take_callback}
use Rattle.file_views.specs.Views.{server, client, set_client, current_stamp, mode_given, grant_given, is_callback, greatest, last_stamp, things, new_call, replied, answer, with_call}
use Rattle.file_views.specs.Grants.{asks, receiver, granting, grant_of, settle, stamped, mode_called, call_out, call_back, plain_grant, current_in, current_grant}
use Rattle.file_views.specs.Settled.{goes_to, arrival}
use Rattle.file_views.specs.Here.{In, IsClient, Arrives, Stopped}
use Rattle.file_views.specs.SoundModes.{GrantWith, CallbackWith, SameNewer, ModeFacts}
use Rattle.file_views.proofs.MemberLaws.{in_last, last_in, in_with, with_in, with_new}
use Rattle.file_views.proofs.EffectLaws.{Apart, by_kernel, places_apart, count_set, client_set, client_other, things_begin, things_with, call_in_things, same_thing}
use Rattle.file_views.proofs.CountLaws.{bool_cases}
use Rattle.file_views.proofs.ShapeLaws.{Flat}
use Rattle.file_views.proofs.StampLaws.{own_stamp, FlatStamps}
use Rattle.file_views.proofs.StampChangeLaws.{NoCall, no_call_thing}
use Rattle.file_views.proofs.StampGrantLaws.{stamp_rises}
use Rattle.file_views.proofs.StampServeLaws.{goes_asked, granting_arrives, granting_no_again, current_is}
use Rattle.file_views.proofs.DecisionLaws.{Ruled}
use Rattle.file_views.proofs.DecisionServeLaws.{receiver_client, on_given}
use Rattle.file_views.proofs.ModeLaws.{modes_due, modes_equal, FactsAt, FlatModes, Under}
use Rattle.file_views.proofs.ModeChangeLaws.{Moding, dues_begin, dues_answer}

-- one reply brings one grant
one_grant : (one : FileCall) (kernel : ℕ) (grant other : FileGrant) → Arrives kernel one grant → Arrives kernel one other → other ≡ grant
one_grant one kernel grant other a b = cc (a.1, b.1)

-- a kernel is given a grant while no callback is out
facts_given : (kernel own current top : ℕ) (now mode : CacheMode) (given : Option FileGrant) (uncached : Bool) (grant : FileGrant) (new : FileCall) (xs ys : List FileCall) → ModeFacts kernel own current now mode given uncached xs → In new ys → Arrives kernel new grant → grant.stamp ≡ top → grant.on ≡ not uncached →
    ((one : FileCall) → In one ys → In one xs ⊎ (one ≡ new)) → ((one : FileCall) → In one xs → (other : FileGrant) → Arrives kernel one other → In one ys) → ((one : FileCall) → In one xs → (other : FileGrant) → Arrives kernel one other → other.stamp < top) → ((other : FileGrant) → new.reply ≡ Some (form.Again other) → ⊥) → (uncached ≡ true → (is_on mode ≡ true) ⊎ Stopped kernel xs → ⊥) →
    ModeFacts kernel own top now (mode_of grant.on) (Some (record grant { size = 0 })) uncached ys
facts_given kernel own current top now mode given uncached grant new xs ys f there arrives is_top on_is old stays low no_again quiet = record {
  reached = inr (inl (record { call = new; grant = grant; there = there; arrives = arrives; stamped = is_top }));
  given_mode = λ other e s. let same : record grant { size = 0 } ≡ other = cc (e) in ap (λ (x : FileGrant). mode_of x.on) same;
  given_last = λ one m other a n s. elim (old one m) [ inl k ↦ (let l = low one k other a in absurd (omega (arith, l, s))) | inr q ↦ ap (λ (x : FileGrant). Some (record x { size = 0 })) (sym (same_new one other q a)) ];
  again = λ one m e other r n. elim (old one m) [
    | inl k ↦ (let s : SameNewer kernel own xs other = f.again one k e other r n in record { call = s.call; newer = s.newer; is_newer = (stays s.call s.is_newer.0 s.newer s.is_newer.1, s.is_newer.1, s.is_newer.2); same = s.same })
    | inr q ↦ absurd (no_again other (sym (ap (λ (x : FileCall). x.reply) q) ∙ r))
  ];
  on_now = λ o. elim (bool_cases uncached) [ inl u ↦ absurd (quiet u (f.on_now o)) | inr u ↦ inl (is_given u) ];
  on_later = λ one m other a n o. elim (bool_cases uncached) [
    | inl u ↦ elim (old one m) [ inl k ↦ absurd (quiet u (f.on_later one k other a n o)) | inr q ↦ absurd (cc (o, ap (λ (x : FileGrant). x.on) (same_new one other q a), on_is, ap not u)) ]
    | inr u ↦ inl (is_given u)
  ];
  off_uncached = λ one m other a n o. is_off one m other a n o;
  off_now = λ one m other a n o. now_off (is_off one m other a n o) (is_on now) refl;
  off_later = λ one m other a n o next k more c p. elim (old next k) [ inl j ↦ later_off (is_off one m other a n o) next j more c p more.on refl | inr q ↦ ap (λ (x : FileGrant). x.on) (same_new next more q c) ∙ on_is ∙ ap not (is_off one m other a n o) ];
}
  where
    same_new : (one : FileCall) (other : FileGrant) → one ≡ new → Arrives kernel one other → other ≡ grant
    same_new one other q a = one_grant new kernel grant other arrives (subst (λ x. Arrives kernel x other) q a)

    is_given : uncached ≡ false → is_on (mode_of grant.on) ≡ true
    is_given u = ap (λ b. is_on (mode_of b)) on_is ∙ on_given uncached u

    not_false : (b : Bool) → not b ≡ false → b ≡ true
    not_false true e = refl
    not_false false e = absurd (cc (e))

    is_off : (one : FileCall) → In one ys → (other : FileGrant) → Arrives kernel one other → own < other.stamp → other.on ≡ false → uncached ≡ true
    is_off one m other a n o = elim (old one m) [ inl k ↦ f.off_uncached one k other a n o | inr q ↦ not_false uncached (sym on_is ∙ sym (ap (λ (x : FileGrant). x.on) (same_new one other q a)) ∙ o) ]

    now_off : uncached ≡ true → (b : Bool) → is_on now ≡ b → b ≡ false
    now_off u true e = absurd (quiet u (f.on_now e))
    now_off u false e = refl

    later_off : uncached ≡ true → (next : FileCall) → In next xs → (more : FileGrant) → Arrives kernel next more → own < more.stamp → (b : Bool) → more.on ≡ b → b ≡ false
    later_off u next j more c p true e = absurd (quiet u (f.on_later next j more c p e))
    later_off u next j more c p false e = refl

-- an open or a move is granted
pub modes_settle : (v : View) (one : FileCall) → Flat v → FlatStamps v → Ruled v → Under v → FlatModes v → In one v.calls → one.reply ≡ None → NoCall v → asks one.body ≡ true → FlatModes (settle v one)
modes_settle v one flat stamps ruled under f m n none a kernel i = by_kernel (λ k. IsClient (length v.clients) k → FactsAt w k (things w)) (receiver one) kernel here (λ d j. far d j) i
  where
    w : View
    w = settle v one

    grant : FileGrant
    grant = grant_of v one

    new : FileCall
    new = replied one (granting one.body (grant_of v one))

    changed : things (settle v one) ≡ with_call (replied one (granting one.body (grant_of v one))) (things v)
    changed = things_with v one (replied one (granting one.body (grant_of v one))) flat.numbered.differ m refl

    place : IsClient (length v.clients) (receiver one)
    place = receiver_client (length v.clients) one.from one.to one.body a (flat.calls one m).ends

    goes : goes_to one ≡ receiver one
    goes = goes_asked one.from one.body a

    other_call : (x : FileCall) → In x (things v) → (h : FileGrant) → arrival x.reply ≡ Some h → x.number ≢ one.number
    other_call x k h e q = let same : x ≡ one = same_thing v x one flat.numbered.differ k (call_in_things v one m) q in cc (n, e, ap (λ (y : FileCall). arrival y.reply) same)

    far : kernel ≢ receiver one → IsClient (length v.clients) kernel → FactsAt (settle v one) kernel (things (settle v one))
    far d j = subst (FactsAt (settle v one) kernel) (sym changed) (modes_equal kernel (own_stamp v kernel) (own_stamp v kernel) (current_stamp v kernel) (current_stamp (settle v one) kernel) (client v kernel).mode (client v kernel).mode (mode_given v kernel) (mode_given (settle v one) kernel) (grant_given v kernel) (grant_given (settle v one) kernel) v.uncached v.uncached _
        refl (get_or-set_other v.stamps (receiver one - 1) (kernel - 1) _ 0 apart) refl (get_or-set_other v.modes (receiver one - 1) (kernel - 1) _ cache.None apart) (get_or-set_other v.given (receiver one - 1) (kernel - 1) _ None apart) refl
        (modes_due kernel (own_stamp v kernel) (current_stamp v kernel) (client v kernel).mode (mode_given v kernel) (grant_given v kernel) v.uncached (things v) _ (under.own kernel j) (f kernel j) (record {
          grants = λ x k h b. elim (in_with (replied one (granting one.body (grant_of v one))) x (things v) k) [ inl p ↦ record { call = x; there = p.0; arrives = b } | inr q ↦ absurd (d (sym b.0 ∙ ap goes_to q ∙ goes)) ];
          comes = λ x k h b l. record { call = x; there = with_in (replied one (granting one.body (grant_of v one))) x (things v) k (other_call x k h b.1); arrives = b };
          called = λ x k t s kd e u. absurd (no_call_thing v none x k (ap is_callback e));
          again = λ x k e h r l. elim (in_with (replied one (granting one.body (grant_of v one))) x (things v) k) [ inl p ↦ (f kernel j).again x p.0 e h r l | inr q ↦ absurd (granting_no_again one.body (grant_of v one) h a (is_again h (sym (ap (λ (y : FileCall). y.reply) q) ∙ r))) ];
        })))
      where
        apart : kernel - 1 ≢ receiver one - 1
        apart = places_apart (receiver one) kernel place.0 j.0 d

        is_again : (h : FileGrant) → Some (granting one.body (grant_of v one)) ≡ Some (form.Again h) → granting one.body (grant_of v one) ≡ form.Again h
        is_again h e = cc (e)

    here : IsClient (length v.clients) (receiver one) → FactsAt (settle v one) (receiver one) (things (settle v one))
    here j = subst (FactsAt (settle v one) (receiver one)) (sym changed) (modes_equal (receiver one) (own_stamp v (receiver one)) (own_stamp v (receiver one)) (last_stamp v + 1) (current_stamp (settle v one) (receiver one)) (client v (receiver one)).mode (client v (receiver one)).mode (mode_of (not v.uncached)) (mode_given (settle v one) (receiver one)) (Some (record (grant_of v one) { size = 0 })) (grant_given (settle v one) (receiver one)) v.uncached v.uncached _
        refl (get_or-set_same v.stamps (receiver one - 1) _ 0 (within (length v.stamps) flat.items.stamp_each)) refl (get_or-set_same v.modes (receiver one - 1) _ cache.None (within (length v.modes) flat.items.mode_each)) (get_or-set_same v.given (receiver one - 1) _ None (within (length v.given) flat.items.given_each)) refl
        (facts_given (receiver one) (own_stamp v (receiver one)) (current_stamp v (receiver one)) (last_stamp v + 1) (client v (receiver one)).mode (mode_given v (receiver one)) (grant_given v (receiver one)) v.uncached (grant_of v one) (replied one (granting one.body (grant_of v one))) (things v) _ (f (receiver one) j)
        new_there (goes, granting_arrives one.body (grant_of v one) a) refl refl
        (λ x k. elim (in_with (replied one (granting one.body (grant_of v one))) x (things v) k) [ inl p ↦ inl p.0 | inr q ↦ inr q ])
        (λ x k h b. with_in (replied one (granting one.body (grant_of v one))) x (things v) k (other_call x k h b.1))
        (λ x k h b. let l = under.granted x k h b.1 in omega (arith, l))
        (λ h e. granting_no_again one.body (grant_of v one) h a (is_again h e))
        (λ u o. quiet u o)))
      where
        within : (count : ℕ) → count ≡ length v.clients → receiver one - 1 < count
        within count e = let low = place.0 in let high = place.1 in omega (arith, e, low, high)

        is_again : (h : FileGrant) → Some (granting one.body (grant_of v one)) ≡ Some (form.Again h) → granting one.body (grant_of v one) ≡ form.Again h
        is_again h e = cc (e)

        new_there : In (replied one (granting one.body (grant_of v one))) (with_call (replied one (granting one.body (grant_of v one))) (things v))
        new_there = with_new (replied one (granting one.body (grant_of v one))) one (things v) refl (call_in_things v one m)

        quiet : v.uncached ≡ true → (is_on (mode_given v (receiver one)) ≡ true) ⊎ Stopped (receiver one) (things v) → ⊥
        quiet u (inl e) = cc (e, ruled.off (receiver one) place u)
        quiet u (inr s) = no_call_thing v none s.call s.there (ap is_callback s.stops)

-- a callback goes out
facts_called : (kernel own current top : ℕ) (now mode : CacheMode) (given : Option FileGrant) (uncached : Bool) (kind : CallKind) (new : FileCall) (xs : List FileCall) → ModeFacts kernel own current now mode given uncached xs → In new xs → new.to ≡ kernel → new.body ≡ form.Callback top kind → new.taken ≡ false → ((grant : FileGrant) → given ≡ Some grant → grant.stamp < top) → ((one : FileCall) → In one xs → (grant : FileGrant) → Arrives kernel one grant → grant.stamp < top) → ModeFacts kernel own top now (mode_called mode kind) given uncached xs
facts_called kernel own current top now mode given uncached kind new xs f there to_kernel is_call untaken given_low low = record {
  reached = inr (inr (record { call = new; kind = kind; there = there; to_kernel = to_kernel; is_call = is_call; untaken = untaken }));
  given_mode = λ grant e s. let l = given_low grant e in absurd (omega (arith, l, s));
  given_last = λ one m grant a n s. let l = low one m grant a in absurd (omega (arith, l, s));
  again = f.again;
  on_now = λ o. by_kind kind is_call (f.on_now o);
  on_later = λ one m grant a n o. by_kind kind is_call (f.on_later one m grant a n o);
  off_uncached = f.off_uncached;
  off_now = f.off_now;
  off_later = f.off_later;
}
  where
    by_kind : (k : CallKind) → new.body ≡ form.Callback top k → (is_on mode ≡ true) ⊎ Stopped kernel xs → (is_on (mode_called mode k) ≡ true) ⊎ Stopped kernel xs
    by_kind Recall e h = h
    by_kind Stop e h = inr (record { call = new; there = there; to_kernel = to_kernel; stamp = top; stops = e; untaken = untaken })

greatest_set : (stamps : List ℕ) (i n : ℕ) → greatest stamps ≤ n → greatest stamps ≤ greatest (slice_set stamps i n)
greatest_set [] i n l = omega arith
greatest_set (s ∷ stamps) zero n l = omega (arith, l)
greatest_set (s ∷ stamps) (suc i) n l = let h = greatest_set stamps i n (omega (arith, l)) in omega (arith, h)

moding_out : (v : View) (kind : CallKind) (kernel : ℕ) → IsClient (length v.clients) kernel → length v.stamps ≡ length v.clients → length v.modes ≡ length v.clients → Moding v → Moding (call_out v kind kernel)
moding_out v kind kernel i ls lm p = record {
  under = record {
    own = λ other j. let a = p.under.own other j in let b = stamp_rises v.stamps kernel (last_stamp v + 1) other within_stamps (omega arith) in omega (arith, a, b);
    given = λ other j grant e. let a = p.under.given other j grant e in omega (arith, a, higher);
    granted = λ one m grant a. elim (in_last one (new_call (stamped v kind kernel) server kernel (form.Callback (last_stamp v + 1) kind) None) (things v) (subst (In one) grown m)) [ inl k ↦ (let l = p.under.granted one k grant a in omega (arith, l, higher)) | inr q ↦ absurd (cc (a, ap (λ (x : FileCall). arrival x.reply) q)) ];
  };
  modes = λ other j. by_kernel (λ k. IsClient (length v.clients) k → FactsAt (call_out v kind kernel) k (things (call_out v kind kernel))) kernel other here (λ d n. far other d n) j;
}
  where
    within_stamps : kernel - 1 < length v.stamps
    within_stamps = let low = i.0 in let high = i.1 in omega (arith, ls, low, high)

    within_modes : kernel - 1 < length v.modes
    within_modes = let low = i.0 in let high = i.1 in omega (arith, lm, low, high)

    higher : last_stamp v ≤ last_stamp (call_out v kind kernel)
    higher = greatest_set v.stamps (kernel - 1) (last_stamp v + 1) (omega arith)

    grown : things (call_out v kind kernel) ≡ things v ++ new_call (stamped v kind kernel) server kernel (form.Callback (last_stamp v + 1) kind) None ∷ []
    grown = things_begin (stamped v kind kernel) server kernel (form.Callback (last_stamp v + 1) kind) None

    more : (other : ℕ) → IsClient (length v.clients) other → FactsAt v other (things v ++ new_call (stamped v kind kernel) server kernel (form.Callback (last_stamp v + 1) kind) None ∷ [])
    more other j = modes_due other (own_stamp v other) (current_stamp v other) (client v other).mode (mode_given v other) (grant_given v other) v.uncached (things v) _ (p.under.own other j) (p.modes other j) (dues_begin v other (new_call (stamped v kind kernel) server kernel (form.Callback (last_stamp v + 1) kind) None) (p.modes other j) refl (λ grant e. cc (e)))

    far : (other : ℕ) → other ≢ kernel → IsClient (length v.clients) other → FactsAt (call_out v kind kernel) other (things (call_out v kind kernel))
    far other d j = subst (FactsAt (call_out v kind kernel) other) (sym grown) (modes_equal other (own_stamp v other) (own_stamp v other) (current_stamp v other) (current_stamp (call_out v kind kernel) other) (client v other).mode (client v other).mode (mode_given v other) (mode_given (call_out v kind kernel) other) (grant_given v other) (grant_given v other) v.uncached v.uncached _
        refl (get_or-set_other v.stamps (kernel - 1) (other - 1) _ 0 apart) refl (get_or-set_other v.modes (kernel - 1) (other - 1) _ cache.None apart) refl refl (more other j))
      where
        apart : other - 1 ≢ kernel - 1
        apart = places_apart kernel other i.0 j.0 d

    here : IsClient (length v.clients) kernel → FactsAt (call_out v kind kernel) kernel (things (call_out v kind kernel))
    here j = subst (FactsAt (call_out v kind kernel) kernel) (sym grown) (modes_equal kernel (own_stamp v kernel) (own_stamp v kernel) (last_stamp v + 1) (current_stamp (call_out v kind kernel) kernel) (client v kernel).mode (client v kernel).mode (mode_called (mode_given v kernel) kind) (mode_given (call_out v kind kernel) kernel) (grant_given v kernel) (grant_given v kernel) v.uncached v.uncached _
        refl (get_or-set_same v.stamps (kernel - 1) _ 0 within_stamps) refl (get_or-set_same v.modes (kernel - 1) _ cache.None within_modes) refl refl
        (facts_called kernel (own_stamp v kernel) (current_stamp v kernel) (last_stamp v + 1) (client v kernel).mode (mode_given v kernel) (grant_given v kernel) v.uncached kind (new_call (stamped v kind kernel) server kernel (form.Callback (last_stamp v + 1) kind) None) _ (more kernel i) (last_in _ (things v)) refl refl refl
        (λ grant e. let l = p.under.given kernel i grant e in omega (arith, l))
        (λ one m grant a. elim (in_last one (new_call (stamped v kind kernel) server kernel (form.Callback (last_stamp v + 1) kind) None) (things v) m) [ inl k ↦ (let l = p.under.granted one k grant a.1 in omega (arith, l)) | inr q ↦ absurd (cc (a.1, ap (λ (x : FileCall). arrival x.reply) q)) ])))

pub moding_call_back : (called : List ℕ) (kind : CallKind) (v : View) → ((kernel : ℕ) → In kernel called → IsClient (length v.clients) kernel) → length v.stamps ≡ length v.clients → length v.modes ≡ length v.clients → Moding v → Moding (call_back called kind v)
moding_call_back [] kind v i ls lm p = p
moding_call_back (kernel ∷ rest) kind v i ls lm p = moding_call_back rest kind (call_out v kind kernel) (λ other m. i other (inr m)) (length-set v.stamps (kernel - 1) _ ∙ ls) (length-set v.modes (kernel - 1) _ ∙ lm) (moding_out v kind kernel (i kernel (inl refl)) ls lm p)

-- an Again tells what is on its way
pub same_current : (v : View) (kernel : ℕ) → NoCall v → FactsAt v kernel (things v) → own_stamp v kernel < (current_grant v kernel).stamp → SameNewer kernel (own_stamp v kernel) (things v) (current_grant v kernel)
same_current v kernel none f l = by_place f.reached
  where
    is_current : (current_grant v kernel).stamp ≡ current_stamp v kernel
    is_current = current_is v kernel (grant_given v kernel)

    by_place : (own_stamp v kernel ≡ current_stamp v kernel) ⊎ (GrantWith kernel (current_stamp v kernel) (things v) ⊎ CallbackWith kernel (current_stamp v kernel) (things v)) → SameNewer kernel (own_stamp v kernel) (things v) (current_grant v kernel)
    by_place (inl e) = let c = is_current in absurd (omega (arith, l, e, c))
    by_place (inr (inr c)) = absurd (no_call_thing v none c.call c.there (ap is_callback c.is_call))
    by_place (inr (inl g)) =
        let c = is_current in
        let s = g.stamped in
        let newer : own_stamp v kernel < g.grant.stamp = omega (arith, l, c, s) in
        let last : grant_given v kernel ≡ Some (record g.grant { size = 0 }) = f.given_last g.call g.there g.grant g.arrives newer g.stamped in
        let is : current_grant v kernel ≡ record g.grant { size = length v.bytes } = ap (current_in v kernel) last ∙ ap (λ b. cond b (record g.grant { size = length v.bytes }) (plain_grant v kernel)) (eq-eqb g.grant.stamp (current_stamp v kernel) g.stamped) in
        record { call = g.call; newer = g.grant; is_newer = (g.there, g.arrives, newer); same = sym (ap (λ (x : FileGrant). record x { size = 0 }) is) }

-- a client takes a callback
facts_flushed : (kernel own own' current : ℕ) (now mode : CacheMode) (given : Option FileGrant) (uncached : Bool) (kind : CallKind) (xs ys : List FileCall) → ModeFacts kernel own current now mode given uncached xs → own' ≡ current → ((one : FileCall) → In one ys → (grant : FileGrant) → Arrives kernel one grant → grant.stamp ≤ current) → ((one : FileCall) → In one ys → one.from ≡ kernel → (grant : FileGrant) → one.reply ≡ Some (form.Again grant) → grant.stamp ≤ current) → (kind ≡ Recall → Stopped kernel xs → ⊥) → ModeFacts kernel own' current (mode_after now kind) mode given uncached ys
facts_flushed kernel own own' current now mode given uncached kind xs ys f e low again_low stops = record {
  reached = inl e;
  given_mode = f.given_mode;
  given_last = λ one m grant a n s. none one m grant a n;
  again = λ one m s grant r n. let l = again_low one m s grant r in absurd (omega (arith, l, n, e));
  on_now = λ o. by_kind kind stops o;
  on_later = λ one m grant a n o. none one m grant a n;
  off_uncached = λ one m grant a n o. none one m grant a n;
  off_now = λ one m grant a n o. none one m grant a n;
  off_later = λ one m grant a n o other k more c p. none one m grant a n;
}
  where
    none : {X : Type 0} → (one : FileCall) → In one ys → (grant : FileGrant) → Arrives kernel one grant → own' < grant.stamp → X
    none one m grant a n = let l = low one m grant a in absurd (omega (arith, l, n, e))

    by_kind : (k : CallKind) → (k ≡ Recall → Stopped kernel xs → ⊥) → is_on (mode_after now k) ≡ true → (is_on mode ≡ true) ⊎ Stopped kernel ys
    by_kind Recall s o = elim (f.on_now o) [ inl a ↦ inl a | inr b ↦ absurd (s refl b) ]
    by_kind Stop s o = absurd (cc (o))

pub modes_called : (v : View) (one : FileCall) (stamp : ℕ) (kind : CallKind) (size : ℕ) (blocks : List (BlockNo × List ℕ)) → Apart v → FlatStamps v → Under v → FlatModes v → In one v.calls → one.body ≡ form.Callback stamp kind → one.taken ≡ false → one.reply ≡ None → IsClient (length v.clients) one.to → FlatModes (answer (set_client v one.to (take_callback (client v one.to) stamp kind)) one (form.Flushed size blocks))
modes_called v one stamp kind size blocks u stamps under f m e t n i other j = by_kernel (λ k. IsClient (length v.clients) k → FactsAt (answer (set_client v one.to (take_callback (client v one.to) stamp kind)) one (form.Flushed size blocks)) k (things (answer (set_client v one.to (take_callback (client v one.to) stamp kind)) one (form.Flushed size blocks)))) one.to other here (λ d k. far other d k) (subst (λ c. IsClient c other) (count_set v one.to _) j)
  where
    w : View
    w = answer (set_client v one.to (take_callback (client v one.to) stamp kind)) one (form.Flushed size blocks)

    changed : things (answer (set_client v one.to (take_callback (client v one.to) stamp kind)) one (form.Flushed size blocks)) ≡ with_call (replied one (form.Flushed size blocks)) (things v)
    changed = things_with v one (replied one (form.Flushed size blocks)) u m refl

    there : In one (things v)
    there = call_in_things v one m

    current_is_stamp : stamp ≡ current_stamp v one.to
    current_is_stamp = (stamps.each one there).called stamp kind e

    far : (k : ℕ) → k ≢ one.to → IsClient (length v.clients) k → FactsAt (answer (set_client v one.to (take_callback (client v one.to) stamp kind)) one (form.Flushed size blocks)) k (things (answer (set_client v one.to (take_callback (client v one.to) stamp kind)) one (form.Flushed size blocks)))
    far k d c = subst (FactsAt (answer (set_client v one.to (take_callback (client v one.to) stamp kind)) one (form.Flushed size blocks)) k) (sym changed) (subst (λ (x : Client). ModeFacts k x.stamp (current_stamp v k) x.mode (mode_given v k) (grant_given v k) v.uncached (with_call (replied one (form.Flushed size blocks)) (things v))) (sym (client_other v one.to k (take_callback (client v one.to) stamp kind) i.0 c.0 d))
        (modes_due k (own_stamp v k) (current_stamp v k) (client v k).mode (mode_given v k) (grant_given v k) v.uncached (things v) _ (under.own k c) (f k c) (dues_answer v k one (form.Flushed size blocks) (f k c) u there n refl (λ b q. d (sym q)) (λ grant q. absurd (cc (q))))))

    here : IsClient (length v.clients) one.to → FactsAt (answer (set_client v one.to (take_callback (client v one.to) stamp kind)) one (form.Flushed size blocks)) one.to (things (answer (set_client v one.to (take_callback (client v one.to) stamp kind)) one (form.Flushed size blocks)))
    here c = subst (FactsAt (answer (set_client v one.to (take_callback (client v one.to) stamp kind)) one (form.Flushed size blocks)) one.to) (sym changed) (subst (λ (x : Client). ModeFacts one.to x.stamp (current_stamp v one.to) x.mode (mode_given v one.to) (grant_given v one.to) v.uncached (with_call (replied one (form.Flushed size blocks)) (things v))) (sym (client_set v one.to (take_callback (client v one.to) stamp kind) i))
        (facts_flushed one.to (own_stamp v one.to) stamp (current_stamp v one.to) (client v one.to).mode (mode_given v one.to) (grant_given v one.to) v.uncached kind (things v) _ (f one.to i) current_is_stamp
        (λ x k grant a. elim (in_with (replied one (form.Flushed size blocks)) x (things v) k) [ inl p ↦ subst (λ q. grant.stamp ≤ current_stamp v q) a.0 ((stamps.each x p.0).granted grant a.1) | inr q ↦ absurd (cc (a.1, ap (λ (y : FileCall). arrival y.reply) q)) ])
        (λ x k s grant r. elim (in_with (replied one (form.Flushed size blocks)) x (things v) k) [ inl p ↦ subst (λ q. grant.stamp ≤ current_stamp v q) s ((stamps.each x p.0).again grant r) | inr q ↦ absurd (cc (r, ap (λ (y : FileCall). y.reply) q)) ])
        (λ r s. let same : s.call ≡ one = same_thing v s.call one u s.there there ((stamps.pairs s.call one s.there there).callbacks (ap is_callback s.stops) (ap is_callback e) s.to_kernel) in cc (r, s.stops, e, ap (λ (y : FileCall). y.body) same))))
