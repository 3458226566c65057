-- The fifth layer of soundness, said of one kernel and a list of calls, and where other calls bring the same.
use Rattle.std.proofs.Common.{◌≡◌, ◌≤◌, ◌<◌, ◌⊎◌, ℕ, ◌-◌, ◌==◌, Bool, true, false, List, length, Option, Some, None, refl, sym, ap, ◌∙◌, subst, inl, inr, arith, eq-eqb, slice_index_or}
use Rattle.std.proofs.lemmas.Bool.Decides.{eqb_tells}
use Rattle.sprite_ids.specs.declared.CacheMode.{CacheMode}
use Rattle.sprite_ids.specs.declared.CacheMode.TheVariants as cache
use Rattle.sprite_ids.specs.declared.CallKind.{CallKind}
use Rattle.sprite_ids.specs.declared.CallKind.TheVariants.{Stop}
use Rattle.file_views.specs.declared.grant.FileGrant.{FileGrant}
use Rattle.file_views.specs.declared.body.FileBody.TheVariants as form
use Rattle.file_views.specs.declared.call.FileCall.{FileCall}
use Rattle.file_views.specs.declared.view.View.{View}
use Rattle.file_views.specs.Clients.{is_on, mode_of}
use Rattle.file_views.specs.Views.{client, current_stamp, mode_given, grant_given, last_stamp, things}
use Rattle.file_views.specs.Settled.{goes_to, arrival}
use Rattle.file_views.specs.Here.{In, IsClient, about, at_kernel, Arrives, EachNewer, Stopped}
use Rattle.file_views.specs.SoundModes.{GrantWith, CallbackWith, SameNewer, ModeFacts, Modes}
use Rattle.file_views.proofs.MemberLaws.{in_filter, filter_in}
use Rattle.file_views.proofs.CountLaws.{or_left, or_right}
use Rattle.file_views.proofs.StampLaws.{own_stamp, FlatStamps, about_goes}
use Rattle.file_views.proofs.StampGrantLaws.{under_greatest}

-- a grant is on its way to the kernel, and a callback that isn't taken yet
pub record Brought (kernel : ℕ) (grant : FileGrant) (calls : List FileCall) : Type 0 where
  pub call : FileCall
  pub there : In call calls
  pub arrives : Arrives kernel call grant

pub record CallDue (kernel stamp : ℕ) (kind : CallKind) (calls : List FileCall) : Type 0 where
  pub call : FileCall
  pub there : In call calls
  pub to_kernel : call.to ≡ kernel
  pub is_call : call.body ≡ form.Callback stamp kind
  pub untaken : call.taken ≡ false

-- other calls bring the kernel no other grant, each one over the floor, and each callback; an Again over the floor is a grant on its way
pub record Dues (kernel own floor : ℕ) (xs ys : List FileCall) : Type 0 where
  pub grants : (one : FileCall) → In one ys → (grant : FileGrant) → Arrives kernel one grant → Brought kernel grant xs
  pub comes : (one : FileCall) → In one xs → (grant : FileGrant) → Arrives kernel one grant → floor < grant.stamp → Brought kernel grant ys
  pub called : (one : FileCall) → In one xs → one.to ≡ kernel → (stamp : ℕ) (kind : CallKind) → one.body ≡ form.Callback stamp kind → one.taken ≡ false → CallDue kernel stamp kind ys
  pub again : (one : FileCall) → In one ys → one.from ≡ kernel → (grant : FileGrant) → one.reply ≡ Some (form.Again grant) → floor < grant.stamp → SameNewer kernel own xs grant

stopped_due : (kernel own floor : ℕ) (xs ys : List FileCall) → Dues kernel own floor xs ys → Stopped kernel xs → Stopped kernel ys
stopped_due kernel own floor xs ys d s =
    let c : CallDue kernel s.stamp Stop ys = d.called s.call s.there s.to_kernel s.stamp Stop s.stops s.untaken in
    record { call = c.call; there = c.there; to_kernel = c.to_kernel; stamp = s.stamp; stops = c.is_call; untaken = c.untaken }

pub on_due : (kernel own floor : ℕ) (mode : CacheMode) (xs ys : List FileCall) → Dues kernel own floor xs ys → (is_on mode ≡ true) ⊎ Stopped kernel xs → (is_on mode ≡ true) ⊎ Stopped kernel ys
on_due kernel own floor mode xs ys d (inl e) = inl e
on_due kernel own floor mode xs ys d (inr s) = inr (stopped_due kernel own floor xs ys d s)

pub same_due : (kernel own floor : ℕ) (xs ys : List FileCall) (grant : FileGrant) → Dues kernel own floor xs ys → floor < grant.stamp → SameNewer kernel own xs grant → SameNewer kernel floor ys grant
same_due kernel own floor xs ys grant d l s =
    let e : s.newer.stamp ≡ grant.stamp = ap (λ (x : FileGrant). x.stamp) s.same in
    let high : floor < s.newer.stamp = omega (arith, e, l) in
    let b : Brought kernel s.newer ys = d.comes s.call s.is_newer.0 s.newer s.is_newer.1 high in
    record { call = b.call; newer = s.newer; is_newer = (b.there, b.arrives, high); same = s.same }

-- other calls bring the same
pub modes_due : (kernel own current : ℕ) (now mode : CacheMode) (given : Option FileGrant) (uncached : Bool) (xs ys : List FileCall) → own ≤ current → ModeFacts kernel own current now mode given uncached xs → Dues kernel own own xs ys → ModeFacts kernel own current now mode given uncached ys
modes_due kernel own current now mode given uncached xs ys l f d = record {
  reached = reaches f.reached;
  given_mode = f.given_mode;
  given_last = λ one m grant a n e. let b : Brought kernel grant xs = d.grants one m grant a in f.given_last b.call b.there grant b.arrives n e;
  again = λ one m e grant r n. same_due kernel own own xs ys grant d n (d.again one m e grant r n);
  on_now = λ o. on_due kernel own own mode xs ys d (f.on_now o);
  on_later = λ one m grant a n o. let b : Brought kernel grant xs = d.grants one m grant a in on_due kernel own own mode xs ys d (f.on_later b.call b.there grant b.arrives n o);
  off_uncached = λ one m grant a n o. let b : Brought kernel grant xs = d.grants one m grant a in f.off_uncached b.call b.there grant b.arrives n o;
  off_now = λ one m grant a n o. let b : Brought kernel grant xs = d.grants one m grant a in f.off_now b.call b.there grant b.arrives n o;
  off_later = λ one m grant a n o other k more c p. let b : Brought kernel grant xs = d.grants one m grant a in let q : Brought kernel more xs = d.grants other k more c in f.off_later b.call b.there grant b.arrives n o q.call q.there more q.arrives p;
}
  where
    reaches : (own ≡ current) ⊎ (GrantWith kernel current xs ⊎ CallbackWith kernel current xs) → (own ≡ current) ⊎ (GrantWith kernel current ys ⊎ CallbackWith kernel current ys)
    reaches (inl e) = inl e
    reaches (inr (inl g)) = elim (eqb_tells own current) [
      | inl a ↦ inl a.1
      | inr b ↦ inr (inl (let ne = b.1 in let e = g.stamped in let c : Brought kernel g.grant ys = d.comes g.call g.there g.grant g.arrives (omega (arith, ne, e, l)) in record { call = c.call; grant = g.grant; there = c.there; arrives = c.arrives; stamped = g.stamped }))
    ]
    reaches (inr (inr c)) = inr (inr (let k : CallDue kernel current c.kind ys = d.called c.call c.there c.to_kernel current c.kind c.is_call c.untaken in record { call = k.call; kind = c.kind; there = k.there; to_kernel = k.to_kernel; is_call = k.is_call; untaken = k.untaken }))

on_of : (on : Bool) → is_on (mode_of on) ≡ true → on ≡ true
on_of true e = refl
on_of false e = absurd (cc (e))

pub off_of : (on : Bool) → on ≡ false → is_on (mode_of on) ≡ false
off_of true e = absurd (cc (e))
off_of false e = refl

-- the kernel takes a grant
pub modes_took : (kernel own own' current : ℕ) (now now' mode : CacheMode) (given : Option FileGrant) (uncached : Bool) (grant : FileGrant) (xs ys : List FileCall) → ModeFacts kernel own current now mode given uncached xs → SameNewer kernel own xs grant → grant.stamp ≤ current → own' ≡ grant.stamp → now' ≡ mode_of grant.on → Dues kernel own own' xs ys → ModeFacts kernel own' current now' mode given uncached ys
modes_took kernel own own' current now now' mode given uncached grant xs ys f s low e on d = record {
  reached = reaches f.reached;
  given_mode = f.given_mode;
  given_last = λ one m other a n q. let b : Brought kernel other xs = d.grants one m other a in f.given_last b.call b.there other b.arrives (over n) q;
  again = λ one m q other r n. same_due kernel own own' xs ys other d n (d.again one m q other r n);
  on_now = λ o. on_due kernel own own' mode xs ys d (f.on_later s.call s.is_newer.0 s.newer s.is_newer.1 s.is_newer.2 (same_on ∙ on_of grant.on (sym (ap is_on on) ∙ o)));
  on_later = λ one m other a n o. let b : Brought kernel other xs = d.grants one m other a in on_due kernel own own' mode xs ys d (f.on_later b.call b.there other b.arrives (over n) o);
  off_uncached = λ one m other a n o. let b : Brought kernel other xs = d.grants one m other a in f.off_uncached b.call b.there other b.arrives (over n) o;
  off_now = λ one m other a n o. let b : Brought kernel other xs = d.grants one m other a in ap is_on on ∙ off_of grant.on (sym same_on ∙ f.off_later b.call b.there other b.arrives (over n) o s.call s.is_newer.0 s.newer s.is_newer.1 s.is_newer.2);
  off_later = λ one m other a n o next k more c p. let b : Brought kernel other xs = d.grants one m other a in let q : Brought kernel more xs = d.grants next k more c in f.off_later b.call b.there other b.arrives (over n) o q.call q.there more q.arrives (over p);
}
  where
    same_on : s.newer.on ≡ grant.on
    same_on = ap (λ (x : FileGrant). x.on) s.same

    rises : own < own'
    rises = let p : s.newer.stamp ≡ grant.stamp = ap (λ (x : FileGrant). x.stamp) s.same in let q = s.is_newer.2 in omega (arith, p, q, e)

    over : {n : ℕ} → own' < n → own < n
    over {n} l = let r = rises in omega (arith, l, r)

    reaches : (own ≡ current) ⊎ (GrantWith kernel current xs ⊎ CallbackWith kernel current xs) → (own' ≡ current) ⊎ (GrantWith kernel current ys ⊎ CallbackWith kernel current ys)
    reaches (inl q) = let r = rises in absurd (omega (arith, q, r, e, low))
    reaches (inr (inl g)) = elim (eqb_tells own' current) [
      | inl a ↦ inl a.1
      | inr b ↦ inr (inl (let ne = b.1 in let p = g.stamped in let c : Brought kernel g.grant ys = d.comes g.call g.there g.grant g.arrives (omega (arith, ne, e, p, low)) in record { call = c.call; grant = g.grant; there = c.there; arrives = c.arrives; stamped = g.stamped }))
    ]
    reaches (inr (inr c)) = inr (inr (let k : CallDue kernel current c.kind ys = d.called c.call c.there c.to_kernel current c.kind c.is_call c.untaken in record { call = k.call; kind = c.kind; there = k.there; to_kernel = k.to_kernel; is_call = k.is_call; untaken = k.untaken }))

-- the file becomes uncached, or may be cached again where no newer grant is Off
pub modes_told_off : (kernel own current : ℕ) (now mode : CacheMode) (given : Option FileGrant) (uncached uncached' : Bool) (xs : List FileCall) → EachNewer kernel own xs (λ one grant. grant.on ≡ false → uncached ≡ true → uncached' ≡ true) → ModeFacts kernel own current now mode given uncached xs → ModeFacts kernel own current now mode given uncached' xs
modes_told_off kernel own current now mode given uncached uncached' xs u f = record {
  reached = f.reached;
  given_mode = f.given_mode;
  given_last = f.given_last;
  again = f.again;
  on_now = f.on_now;
  on_later = f.on_later;
  off_uncached = λ one m grant a n o. u one m grant a n o (f.off_uncached one m grant a n o);
  off_now = f.off_now;
  off_later = f.off_later;
}

-- the same by equations
pub modes_equal : (kernel own own' current current' : ℕ) (now now' mode mode' : CacheMode) (given given' : Option FileGrant) (uncached uncached' : Bool) (xs : List FileCall) → own' ≡ own → current' ≡ current → now' ≡ now → mode' ≡ mode → given' ≡ given → uncached' ≡ uncached → ModeFacts kernel own current now mode given uncached xs → ModeFacts kernel own' current' now' mode' given' uncached' xs
modes_equal kernel own own' current current' now now' mode mode' given given' uncached uncached' xs a b c d e g f =
    subst (λ x. ModeFacts kernel x current' now' mode' given' uncached' xs) (sym a)
    (subst (λ x. ModeFacts kernel own x now' mode' given' uncached' xs) (sym b)
    (subst (λ x. ModeFacts kernel own current x mode' given' uncached' xs) (sym c)
    (subst (λ x. ModeFacts kernel own current now x given' uncached' xs) (sym d)
    (subst (λ x. ModeFacts kernel own current now mode x uncached' xs) (sym e)
    (subst (λ x. ModeFacts kernel own current now mode given x xs) (sym g) f)))))

-- the layer, said of the whole view
abbrev pub FactsAt : View → ℕ → List FileCall → Type 0
FactsAt v kernel calls = ModeFacts kernel (own_stamp v kernel) (current_stamp v kernel) (client v kernel).mode (mode_given v kernel) (grant_given v kernel) v.uncached calls

abbrev pub FlatModes : View → Type 0
FlatModes v = (kernel : ℕ) → IsClient (length v.clients) kernel → FactsAt v kernel (things v)

about_from : (kernel : ℕ) (one : FileCall) → one.from ≡ kernel → about kernel one ≡ true
about_from kernel one e = or_left (one.from == kernel) _ (eq-eqb one.from kernel e)

about_arrives : (kernel : ℕ) (one : FileCall) (grant : FileGrant) → Arrives kernel one grant → about kernel one ≡ true
about_arrives kernel one grant a = subst (λ k. about k one ≡ true) a.0 (about_goes one.from one.to one.body)

pub flat_modes : (v : View) → FlatStamps v → Modes v → FlatModes v
flat_modes v s p kernel i = modes_due kernel (own_stamp v kernel) (current_stamp v kernel) (client v kernel).mode (mode_given v kernel) (grant_given v kernel) v.uncached (at_kernel v kernel).calls (things v) (s.own_below kernel i) (p kernel i) (record {
  grants = λ one m grant a. record { call = one; there = filter_in (about kernel) one (things v) m (about_arrives kernel one grant a); arrives = a };
  comes = λ one m grant a n. record { call = one; there = (in_filter (about kernel) one (things v) m).0; arrives = a };
  called = λ one m t stamp kind e u. record { call = one; there = (in_filter (about kernel) one (things v) m).0; to_kernel = t; is_call = e; untaken = u };
  again = λ one m e grant r n. (p kernel i).again one (filter_in (about kernel) one (things v) m (about_from kernel one e)) e grant r n;
})

about_to : (kernel : ℕ) (one : FileCall) → one.to ≡ kernel → about kernel one ≡ true
about_to kernel one e = or_right (one.from == kernel) _ (or_left (one.to == kernel) _ (eq-eqb one.to kernel e))

pub modes_of : (v : View) → ((kernel : ℕ) → IsClient (length v.clients) kernel → own_stamp v kernel ≤ current_stamp v kernel) → FlatModes v → Modes v
modes_of v own p kernel i = modes_due kernel (own_stamp v kernel) (current_stamp v kernel) (client v kernel).mode (mode_given v kernel) (grant_given v kernel) v.uncached (things v) (at_kernel v kernel).calls (own kernel i) (p kernel i) (record {
  grants = λ one m grant a. record { call = one; there = (in_filter (about kernel) one (things v) m).0; arrives = a };
  comes = λ one m grant a n. record { call = one; there = filter_in (about kernel) one (things v) m (about_arrives kernel one grant a); arrives = a };
  called = λ one m t stamp kind e u. record { call = one; there = filter_in (about kernel) one (things v) m (about_to kernel one t); to_kernel = t; is_call = e; untaken = u };
  again = λ one m e grant r n. (p kernel i).again one (in_filter (about kernel) one (things v) m).0 e grant r n;
})

-- no stamp is over the one given last
pub record Under (v : View) : Type 0 where
  pub own : (kernel : ℕ) → IsClient (length v.clients) kernel → own_stamp v kernel ≤ current_stamp v kernel
  pub given : (kernel : ℕ) → IsClient (length v.clients) kernel → (grant : FileGrant) → grant_given v kernel ≡ Some grant → grant.stamp ≤ last_stamp v
  pub granted : (one : FileCall) → In one (things v) → (grant : FileGrant) → arrival one.reply ≡ Some grant → grant.stamp ≤ last_stamp v

pub under_of : (v : View) → FlatStamps v → Under v
under_of v s = record {
  own = s.own_below;
  given = λ kernel i grant e. let a = s.given_below kernel i grant e in let b = under_greatest v.stamps (kernel - 1) in omega (arith, a, b);
  granted = λ one m grant a. let l = (s.each one m).granted grant a in let b = under_greatest v.stamps (goes_to one - 1) in omega (arith, l, b);
}

-- nothing of stamps and modes changes
pub record Moded (v w : View) : Type 0 where
  pub count : length w.clients ≡ length v.clients
  pub own : (kernel : ℕ) → IsClient (length v.clients) kernel → own_stamp w kernel ≡ own_stamp v kernel
  pub now : (kernel : ℕ) → IsClient (length v.clients) kernel → (client w kernel).mode ≡ (client v kernel).mode
  pub stamps : w.stamps ≡ v.stamps
  pub modes : w.modes ≡ v.modes
  pub given : w.given ≡ v.given
  pub uncached : w.uncached ≡ v.uncached

pub moded_within : (v w : View) → Moded v w → (kernel : ℕ) → IsClient (length w.clients) kernel → IsClient (length v.clients) kernel
moded_within v w h kernel i = subst (λ n. IsClient n kernel) h.count i

pub facts_moded : (v w : View) → Moded v w → (kernel : ℕ) (calls : List FileCall) → IsClient (length v.clients) kernel → FactsAt v kernel calls → FactsAt w kernel calls
facts_moded v w h kernel calls i f = modes_equal kernel (own_stamp v kernel) (own_stamp w kernel) (current_stamp v kernel) (current_stamp w kernel) (client v kernel).mode (client w kernel).mode (mode_given v kernel) (mode_given w kernel) (grant_given v kernel) (grant_given w kernel) v.uncached w.uncached calls
    (h.own kernel i) (ap (λ xs. slice_index_or xs (kernel - 1) 0) h.stamps) (h.now kernel i) (ap (λ xs. slice_index_or xs (kernel - 1) cache.None) h.modes) (ap (λ xs. slice_index_or xs (kernel - 1) None) h.given) h.uncached f

-- the same for each kernel but for calls that bring the same
pub modes_moded : (v w : View) → Moded v w → Under v → FlatModes v → ((kernel : ℕ) → IsClient (length v.clients) kernel → Dues kernel (own_stamp v kernel) (own_stamp v kernel) (things v) (things w)) → FlatModes w
modes_moded v w h u f d kernel i =
    let j : IsClient (length v.clients) kernel = moded_within v w h kernel i in
    facts_moded v w h kernel (things w) j (modes_due kernel (own_stamp v kernel) (current_stamp v kernel) (client v kernel).mode (mode_given v kernel) (grant_given v kernel) v.uncached (things v) (things w) (u.own kernel j) (f kernel j) (d kernel j))

-- the same calls
pub dues_self : (v : View) (kernel : ℕ) (xs : List FileCall) → xs ≡ things v → FactsAt v kernel (things v) → Dues kernel (own_stamp v kernel) (own_stamp v kernel) (things v) xs
dues_self v kernel xs e f = subst (Dues kernel (own_stamp v kernel) (own_stamp v kernel) (things v)) (sym e) (record {
  grants = λ one m grant a. record { call = one; there = m; arrives = a };
  comes = λ one m grant a n. record { call = one; there = m; arrives = a };
  called = λ one m t stamp kind q u. record { call = one; there = m; to_kernel = t; is_call = q; untaken = u };
  again = f.again;
})
