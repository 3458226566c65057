-- The sixth layer of soundness where an open or a move is granted.
use Rattle.std.proofs.Common.{◌≡◌, ◌≢◌, ◌≤◌, ◌<◌, ◌⊎◌, ℕ, ◌+◌, ◌-◌, ◌==◌, Bool, true, false, cond, not, ◌&&◌, ◌||◌, List, length, filter, Option, Some, None, refl, sym, ap, ◌∙◌, subst, inl, inr, arith, eqb-true, eq-eqb, ne_eqb, get_or-set_same, get_or-set_other, slice_index_or}
use Rattle.std.specs.List.{list_any}
use Rattle.std.proofs.lemmas.Bool.{and_parts, and_from, and_left, and_right}
use Rattle.std.proofs.lemmas.Bool.Decides.{eqb_tells}
use Rattle.sprite_ids.specs.declared.StreamNo.{StreamNo}
use Rattle.sprite_ids.specs.declared.Mode.{Mode}
use Rattle.sprite_ids.specs.declared.CacheMode.{CacheMode}
use Rattle.sprite_ids.specs.declared.CacheMode.TheVariants as cache
use Rattle.file_views.specs.declared.grant.FileGrant.{FileGrant}
use Rattle.file_views.specs.declared.body.FileBody.{FileBody}
use Rattle.file_views.specs.declared.body.FileBody.TheVariants as form
use Rattle.file_views.specs.declared.opens.Open.{Open}
use Rattle.file_views.specs.declared.call.FileCall.{FileCall}
use Rattle.file_views.specs.declared.view.View.{View}
use Rattle.file_views.specs.Setting.{Setting}
use Rattle.file_views.specs.Streams.{has_stream, is_open, open_count, add_open, writes, is_spread, is_write_shared, is_any, mode_of_stream}
use Rattle.file_views.specs.Clients.{is_on, mode_of}
use Rattle.file_views.specs.Views.{client, current_stamp, mode_given, is_kernel, is_holder, is_callback, last_stamp, things, replied, with_call}
use Rattle.file_views.specs.Grants.{asks, truncates, receiver, receiver_of, asks_to_write, left_by, opens_after, shared_after, uncached_after, new_version, grant_of, granting, holder_after, settle}
use Rattle.file_views.specs.Settled.{goes_to, arrival}
use Rattle.file_views.specs.Here.{In, IsClient, Here, Arrives, asked_stream}
use Rattle.file_views.specs.SoundShapes.{Ends, Shaped}
use Rattle.file_views.specs.SoundStreams.{NamedOnce}
use Rattle.file_views.specs.SoundModes.{GrantWith, CallbackWith}
use Rattle.file_views.specs.SoundHolders.{Active, LocalHolders}
use Rattle.file_views.proofs.MemberLaws.{in_left, last_in, in_filter, filter_in, in_with, with_in, with_new}
use Rattle.file_views.proofs.EffectLaws.{places_apart, things_with, call_in_things, same_thing}
use Rattle.file_views.proofs.CountLaws.{neither, bool_cases, has_some, same_by, or_right}
use Rattle.file_views.proofs.OpenLaws.{OpenAt, open_there, Left, in_added, is_open_is, mode_is}
use Rattle.file_views.proofs.ShapeLaws.{Flat}
use Rattle.file_views.proofs.StreamServeLaws.{Both, both_settle}
use Rattle.file_views.proofs.StampLaws.{own_stamp, FlatStamps}
use Rattle.file_views.proofs.StampChangeLaws.{NoCall, no_call_thing}
use Rattle.file_views.proofs.StampGrantLaws.{under_greatest}
use Rattle.file_views.proofs.StampServeLaws.{goes_asked, granting_arrives}
use Rattle.file_views.proofs.DecisionLaws.{Ruled}
use Rattle.file_views.proofs.DecisionServeLaws.{some_any, found_any, receiver_client, left_before, left_stays}
use Rattle.file_views.proofs.ModeLaws.{FactsAt, FlatModes, Under, under_of}
use Rattle.file_views.proofs.ModeServeLaws.{OpenFor, arrival_there}
use Rattle.file_views.proofs.HolderLaws.{Ways, holders_ways, SameOpen, holders_opened, seat, FlatHolders}
use Rattle.file_views.proofs.HolderGiveLaws.{holders_idle, holders_away, Holding, Mine, Fresh, Plain, holders_given}

-- the opens that a move leaves; an open leaves all
abbrev pub left_of : List Open → ℕ → FileBody → List Open
left_of opens source (form.Move stream place kept grants) = left_by opens stream source kept grants
left_of opens source body = opens

pub left_was : (opens : List Open) (source : ℕ) (body : FileBody) (x : Open) → In x (left_of opens source body) → Left x opens
left_was opens source (form.Move stream place kept grants) x m = left_before opens stream source grants kept x m
left_was opens source (form.Opening pid number stream mode truncate) x m = record { before = x; there = m; stream_is = refl; kernel_is = refl; mode_is = refl; counts = λ l. l }
left_was opens source body x m = record { before = x; there = m; stream_is = refl; kernel_is = refl; mode_is = refl; counts = λ l. l }

-- one more open is added to them
pub record Adds (v : View) (one : FileCall) : Type 0 where
  pub stream : StreamNo
  pub mode : Mode
  pub asked : asked_stream one.body ≡ Some stream
  pub opens_is : opens_after v.opens one.from one.body ≡ add_open (left_of v.opens one.from one.body) stream (receiver one) mode
  pub writing : asks_to_write v.opens one.body ≡ writes mode
  pub same_mode : (x : Open) → In x v.opens → x.stream ≡ stream → x.mode ≡ mode
  pub here : (x : Open) → In x v.opens → x.kernel ≡ receiver one → In x (left_of v.opens one.from one.body)

adds_by : (v : View) (one : FileCall) (body : FileBody) → one.body ≡ body → one.reply ≡ None → Both v → In one v.calls → asks body ≡ true → Adds v one
adds_by v one (form.Opening pid number stream mode truncate) e n b m a =
    let once : NamedOnce v one.number stream = b.streams.rest.new one m n pid number stream mode truncate e in
    record {
      stream = stream;
      mode = mode;
      asked = ap asked_stream e;
      opens_is = ap (opens_after v.opens one.from) e ∙ sym (ap (λ x. add_open (left_of v.opens one.from x) stream (receiver_of one.from x) mode) e);
      writing = ap (asks_to_write v.opens) e;
      same_mode = λ x k q. absurd (cc (once.opens x k, same_by stream x.stream (sym q)));
      here = λ x k q. subst (λ y. In x (left_of v.opens one.from y)) (sym e) k;
    }
adds_by v one (form.Move stream place kept grants) e n b m a =
    let ends : Ends (length v.clients) one.from one.to (form.Move stream place kept grants) = subst (Ends (length v.clients) one.from one.to) e (b.flat.calls one m).ends in
    record {
      stream = stream;
      mode = mode_of_stream v.opens stream;
      asked = ap asked_stream e;
      opens_is = ap (opens_after v.opens one.from) e ∙ sym (ap (λ x. add_open (left_of v.opens one.from x) stream (receiver_of one.from x) (mode_of_stream v.opens stream)) e);
      writing = ap (asks_to_write v.opens) e;
      same_mode = λ x k q. sym (mode_is stream x v.opens b.streams.rest.opens.modes k (sym q));
      here = λ x k q. subst (λ y. In x (left_of v.opens one.from y)) (sym e) (left_stays v.opens stream one.from grants kept x (elsewhere x (q ∙ ap (receiver_of one.from) e) ends.3) k);
    }
  where
    elsewhere : (x : Open) → x.kernel ≡ place → place ≢ one.from → is_open stream one.from x ≡ false
    elsewhere x q d = elim (bool_cases (is_open stream one.from x)) [ inl h ↦ absurd (d (sym q ∙ (is_open_is stream one.from x h).1)) | inr h ↦ h ]
adds_by v one body e n b m a = absurd (cc (a))

pub adds : (v : View) (one : FileCall) → one.reply ≡ None → Both v → In one v.calls → asks one.body ≡ true → Adds v one
adds v one n b m a = adds_by v one one.body refl n b m a

-- two kernels have the file open, one of them for writing
pub shared_by : (opens : List Open) (one other : Open) → In one opens → In other opens → other.kernel ≢ one.kernel → writes one.mode ≡ true → is_write_shared opens ≡ true
shared_by opens one other m n d w = and_from (is_spread opens) _
    (found_any (λ (x : Open). list_any (λ (y : Open). not (y.kernel == x.kernel)) opens) opens one m (found_any (λ (y : Open). not (y.kernel == one.kernel)) opens other n (ap not (ne_eqb other.kernel one.kernel d))))
    (found_any (λ (x : Open). writes x.mode) opens one m w)

-- what is so of the view before the grant
pub record Grantable (v : View) (one : FileCall) : Type 0 where
  pub is_client : (holder : ℕ) → v.holder ≡ Some holder → IsClient (length v.clients) holder
  pub opens : (holder : ℕ) → v.holder ≡ Some holder → (x : Open) → In x v.opens → x.kernel ≡ holder
  pub stale : (holder : ℕ) → v.holder ≡ Some holder → (kernel : ℕ) → IsClient (length v.clients) kernel → kernel ≢ holder → is_on (client v kernel).mode ≡ true → (client v kernel).version < v.version
  pub spare : (holder : ℕ) → v.holder ≡ Some holder → (v.uncached ≡ false) × (holder ≡ receiver one) × (truncates one.body ≡ false)
  pub each : (kernel : ℕ) → IsClient (length v.clients) kernel → LocalHolders (record (seat v kernel) { opened = filter (λ (x : Open). x.kernel == kernel) (left_of v.opens one.from one.body) })

-- the same by equations
pub holders_equal : (h : Here) (current current' version version' : ℕ) (mode mode' : CacheMode) (holds holds' : Bool) (opened opened' : List Open) (calls calls' : List FileCall) → current' ≡ current → version' ≡ version → mode' ≡ mode → holds' ≡ holds → opened' ≡ opened → calls' ≡ calls → LocalHolders (record h { current = current; version = version; mode = mode; holds = holds; opened = opened; calls = calls }) → LocalHolders (record h { current = current'; version = version'; mode = mode'; holds = holds'; opened = opened'; calls = calls' })
holders_equal h current current' version version' mode mode' holds holds' opened opened' calls calls' a b c d e g f =
    subst (λ x. LocalHolders (record h { current = x; version = version'; mode = mode'; holds = holds'; opened = opened'; calls = calls' })) (sym a)
    (subst (λ x. LocalHolders (record h { current = current; version = x; mode = mode'; holds = holds'; opened = opened'; calls = calls' })) (sym b)
    (subst (λ x. LocalHolders (record h { current = current; version = version; mode = x; holds = holds'; opened = opened'; calls = calls' })) (sym c)
    (subst (λ x. LocalHolders (record h { current = current; version = version; mode = mode; holds = x; opened = opened'; calls = calls' })) (sym d)
    (subst (λ x. LocalHolders (record h { current = current; version = version; mode = mode; holds = holds; opened = x; calls = calls' })) (sym e)
    (subst (λ x. LocalHolders (record h { current = current; version = version; mode = mode; holds = holds; opened = opened; calls = x })) (sym g) f)))))

-- the version of a grant
version_grows : (version : ℕ) (b : Bool) → version ≤ cond b (version + 1) version
version_grows version true = omega arith
version_grows version false = omega arith

version_rises : (version : ℕ) (b : Bool) → b ≡ true → version < cond b (version + 1) version
version_rises version true e = omega arith
version_rises version false e = absurd (cc (e))

version_stays : (version : ℕ) (b : Bool) → b ≡ false → cond b (version + 1) version ≡ version
version_stays version true e = absurd (cc (e))
version_stays version false e = refl

old_low : (version next : ℕ) (b : Bool) → version ≤ next → (cond b next version ≤ next) × (version ≤ cond b next version)
old_low version next true l = (omega arith, l)
old_low version next false l = (l, omega arith)

old_stays : (version next : ℕ) (b : Bool) → b ≡ false → version ≡ cond b next version
old_stays version next true e = absurd (cc (e))
old_stays version next false e = refl

-- who is looked up
pub holder_is : (holder : Option ℕ) (kernel : ℕ) → is_kernel kernel holder ≡ true → holder ≡ Some kernel
holder_is (Some h) kernel e = ap Some (eqb-true h kernel e)
holder_is None kernel e = absurd (cc (e))

pub is_holder_by : (holder : Option ℕ) (kernel : ℕ) → holder ≡ Some kernel → is_kernel kernel holder ≡ true
is_holder_by holder kernel e = ap (is_kernel kernel) e ∙ eq-eqb kernel kernel refl

pub not_holder : (holder : Option ℕ) (kernel : ℕ) → (holder ≡ Some kernel → ⊥) → is_kernel kernel holder ≡ false
not_holder holder kernel n = elim (bool_cases (is_kernel kernel holder)) [ inl e ↦ absurd (n (holder_is holder kernel e)) | inr e ↦ e ]

-- who has the file open and was given On last uses its cache, or will
pub active_of : (v : View) (kernel : ℕ) → NoCall v → FactsAt v kernel (things v) → own_stamp v kernel ≤ current_stamp v kernel → (own_stamp v kernel ≡ current_stamp v kernel → (client v kernel).mode ≡ mode_given v kernel) → is_on (mode_given v kernel) ≡ true → Active kernel (own_stamp v kernel) (client v kernel).mode (things v)
active_of v kernel none f l agree on = elim (eqb_tells (own_stamp v kernel) (current_stamp v kernel)) [ inl a ↦ inl (ap is_on (agree a.1) ∙ on) | inr b ↦ by_place b.1 f.reached ]
  where
    on_of : (b : Bool) → is_on (mode_of b) ≡ true → b ≡ true
    on_of true e = refl
    on_of false e = absurd (cc (e))

    by_place : own_stamp v kernel ≢ current_stamp v kernel → (own_stamp v kernel ≡ current_stamp v kernel) ⊎ (GrantWith kernel (current_stamp v kernel) (things v) ⊎ CallbackWith kernel (current_stamp v kernel) (things v)) → Active kernel (own_stamp v kernel) (client v kernel).mode (things v)
    by_place d (inl e) = absurd (d e)
    by_place d (inr (inr c)) = absurd (no_call_thing v none c.call c.there (ap is_callback c.is_call))
    by_place d (inr (inl g)) =
        let s = g.stamped in
        let newer : own_stamp v kernel < g.grant.stamp = omega (arith, d, l, s) in
        let mode : mode_given v kernel ≡ mode_of g.grant.on = f.given_mode (record g.grant { size = 0 }) (f.given_last g.call g.there g.grant g.arrives newer g.stamped) g.stamped in
        inr (record { call = g.call; grant = g.grant; is_newer = (g.there, g.arrives, newer); on = on_of g.grant.on (ap is_on (sym mode) ∙ on) })

-- the grant is given
pub record Settles (z : Setting) (v : View) (one : FileCall) : Type 0 where
  pub both : Both v
  pub stamps : FlatStamps v
  pub ruled : Ruled v
  pub modes : FlatModes v
  pub there : In one v.calls
  pub unanswered : one.reply ≡ None
  pub none : NoCall v
  pub asks_it : asks one.body ≡ true
  pub told : v.uncached ≡ false → uncached_after z v one ≡ false
  pub grantable : Grantable v one

pub settled_calls : (v : View) (one : FileCall) → Flat v → In one v.calls → things (settle v one) ≡ with_call (replied one (granting one.body (grant_of v one))) (things v)
settled_calls v one f m = things_with v one (replied one (granting one.body (grant_of v one))) f.numbered.differ m refl

-- while the file is uncached
settle_off : (z : Setting) (v : View) (one : FileCall) → Settles z v one → v.uncached ≡ true → (kernel : ℕ) → IsClient (length v.clients) kernel → LocalHolders (seat (settle v one) kernel)
settle_off z v one s u kernel i = holders_equal h (current_stamp w kernel) (current_stamp w kernel) w.version w.version (mode_given w kernel) (mode_given w kernel) (is_holder v kernel) (is_holder w kernel) (seat w kernel).opened (seat w kernel).opened (with_call new (things v)) (things w)
    refl refl refl (ap (λ b. is_kernel kernel (holder_after v.holder (receiver one) b)) no_new) refl changed
    (holders_idle h (current_stamp w kernel) w.version (mode_given w kernel) (seat w kernel).opened (with_call new (things v)) (s.grantable.each kernel i) (record {
      unheld = not_holder v.holder kernel (λ e. let p = (s.grantable.spare kernel e).0 in cc (p, u));
      off_now = off_now (is_on (client v kernel).mode) refl;
      off_later = λ x m g a n. elim (in_with new x (things v) m) [ inl k ↦ off_later x k.0 g a n g.on refl | inr q ↦ ap (λ (y : FileGrant). y.on) (same_new x g q a) ∙ ap not u ];
      rises = λ x m g a n. elim (in_with new x (things v) m) [ inl k ↦ (s.grantable.each kernel i).chained.rises x k.0 g a n | inr q ↦ subst (λ (y : FileGrant). y.old ≤ y.new) (sym (same_new x g q a)) (old_low v.version (new_version v one) (truncates one.body) (version_grows v.version _)).0 ];
      under = λ x m g a n. elim (in_with new x (things v) m) [ inl k ↦ (let l = (s.grantable.each kernel i).chained.under x k.0 g a n in let r = version_grows v.version (truncates one.body || (asks_to_write v.opens one.body && not (is_holder v (receiver one)))) in omega (arith, l, r)) | inr q ↦ subst (λ (y : FileGrant). y.new ≤ new_version v one) (sym (same_new x g q a)) (omega arith) ];
      higher = version_grows v.version _;
      quiet = λ x m t stamp kind e. elim (in_with new x (things v) m) [ inl k ↦ no_call_thing v s.none x k.0 (ap is_callback e) | inr q ↦ cc (s.none one s.there, ap is_callback (sym e ∙ ap (λ (y : FileCall). y.body) q)) ];
      agrees = λ e. agrees (eqb_tells (kernel - 1) (receiver one - 1)) e;
    }))
  where
    w : View
    w = settle v one

    h : Here
    h = record (seat v kernel) { opened = filter (λ (x : Open). x.kernel == kernel) (left_of v.opens one.from one.body) }

    new : FileCall
    new = replied one (granting one.body (grant_of v one))

    changed : things w ≡ with_call new (things v)
    changed = settled_calls v one s.both.flat s.there

    no_new : (asks_to_write v.opens one.body && not v.uncached) ≡ false
    no_new = and_right (asks_to_write v.opens one.body) (not v.uncached) (ap not u)

    off_now : (b : Bool) → is_on (client v kernel).mode ≡ b → b ≡ false
    off_now true e = absurd (elim ((s.modes kernel i).on_now e) [ inl o ↦ cc (o, s.ruled.off kernel i u) | inr k ↦ no_call_thing v s.none k.call k.there (ap is_callback k.stops) ])
    off_now false e = refl

    off_later : (x : FileCall) → In x (things v) → (g : FileGrant) → Arrives kernel x g → own_stamp v kernel < g.stamp → (b : Bool) → g.on ≡ b → b ≡ false
    off_later x m g a n true e = absurd (elim ((s.modes kernel i).on_later x m g a n e) [ inl o ↦ cc (o, s.ruled.off kernel i u) | inr k ↦ no_call_thing v s.none k.call k.there (ap is_callback k.stops) ])
    off_later x m g a n false e = refl

    same_new : (x : FileCall) (g : FileGrant) → x ≡ new → Arrives kernel x g → g ≡ grant_of v one
    same_new x g q a = cc (a.1, ap (λ (y : FileCall). arrival y.reply) q, granting_arrives one.body (grant_of v one) s.asks_it)

    agrees : (((kernel - 1 == receiver one - 1) ≡ true) × (kernel - 1 ≡ receiver one - 1)) ⊎ (((kernel - 1 == receiver one - 1) ≡ false) × (kernel - 1 ≢ receiver one - 1)) → own_stamp v kernel ≡ current_stamp w kernel → (client v kernel).mode ≡ mode_given w kernel
    agrees (inl a) e =
        let place : IsClient (length v.clients) (receiver one) = receiver_client (length v.clients) one.from one.to one.body s.asks_it (s.both.flat.calls one s.there).ends in
        let within : receiver one - 1 < length v.stamps = (let l = s.both.flat.items.stamp_each in let low = place.0 in let high = place.1 in omega (arith, l, low, high)) in
        let top : current_stamp w kernel ≡ last_stamp v + 1 = ap (λ n. slice_index_or (settle v one).stamps n 0) a.1 ∙ get_or-set_same v.stamps (receiver one - 1) (last_stamp v + 1) 0 within in
        let own = (under_of v s.stamps).own kernel i in
        let under = under_greatest v.stamps (kernel - 1) in
        absurd (omega (arith, e, top, own, under))
    agrees (inr b) e = (s.grantable.each kernel i).modes_agree (e ∙ get_or-set_other v.stamps (receiver one - 1) (kernel - 1) (last_stamp v + 1) 0 b.1) ∙ sym (get_or-set_other v.modes (receiver one - 1) (kernel - 1) (mode_of (not v.uncached)) cache.None b.1)

-- who is the holder afterwards
after_mine : (holder : Option ℕ) (kernel : ℕ) (b : Bool) → is_kernel kernel holder ≡ true → is_kernel kernel (holder_after holder kernel b) ≡ true
after_mine holder kernel true e = eq-eqb kernel kernel refl
after_mine holder kernel false e = e

after_new : (holder : Option ℕ) (kernel : ℕ) (b : Bool) → b ≡ true → is_kernel kernel (holder_after holder kernel b) ≡ true
after_new holder kernel true e = eq-eqb kernel kernel refl
after_new holder kernel false e = absurd (cc (e))

after_same : (holder : Option ℕ) (kernel : ℕ) (b : Bool) → b ≡ false → is_kernel kernel holder ≡ false → is_kernel kernel (holder_after holder kernel b) ≡ false
after_same holder kernel true e f = absurd (cc (e))
after_same holder kernel false e f = f

after_other : (holder : Option ℕ) (kernel other : ℕ) (b : Bool) → kernel ≢ other → is_kernel other holder ≡ false → is_kernel other (holder_after holder kernel b) ≡ false
after_other holder kernel other true d f = ne_eqb kernel other d
after_other holder kernel other false d f = f

-- an open that empties the file writes
truncating_writes : (v : View) (one : FileCall) (body : FileBody) → Shaped (length v.clients) one → one.body ≡ body → truncates body ≡ true → asks_to_write v.opens body ≡ true
truncating_writes v one (form.Opening pid number stream mode truncate) s e t = s.writing pid number stream mode (e ∙ ap (form.Opening pid number stream mode) t)
truncating_writes v one (form.Move stream place kept grants) s e t = absurd (cc (t))
truncating_writes v one body s e t = absurd (cc (t))

raises_writes : (truncate writing holds : Bool) → (truncate ≡ true → writing ≡ true) → (truncate || (writing && not holds)) ≡ true → writing ≡ true
raises_writes true writing holds f e = f refl
raises_writes false true holds f e = refl
raises_writes false false holds f e = absurd (cc (e))

-- while the file isn't uncached: what was told of the decision
pub record Alone (v : View) (one : FileCall) : Type 0 where
  pub cached : v.uncached ≡ false
  pub apart : is_write_shared (opens_after v.opens one.from one.body) ≡ false
  pub closed : (truncates one.body && is_any v.opens) ≡ false

pub alone_by : (z : Setting) (v : View) (one : FileCall) → v.uncached ≡ false → uncached_after z v one ≡ false → Alone v one
alone_by z v one u t =
    let p = neither (is_any (shared_after v.shared one.body)) _ (neither (not z.cached) _ (neither v.uncached _ t).1).1 in
    let q = neither (is_write_shared (opens_after v.opens one.from one.body)) _ p.1 in
    record { cached = u; apart = q.0; closed = q.1 }

-- the receiver
settle_given : (z : Setting) (v : View) (one : FileCall) → Settles z v one → Alone v one → Adds v one → LocalHolders (seat (settle v one) (receiver one))
settle_given z v one s al a = holders_equal h (last_stamp v + 1) (current_stamp w (receiver one)) w.version w.version (mode_of (not v.uncached)) (mode_given w (receiver one)) (is_holder w (receiver one)) (is_holder w (receiver one)) opened (seat w (receiver one)).opened (with_call new (things v)) (things w)
    (get_or-set_same v.stamps (receiver one - 1) _ 0 (within (length v.stamps) s.both.flat.items.stamp_each)) refl (get_or-set_same v.modes (receiver one - 1) _ cache.None (within (length v.modes) s.both.flat.items.mode_each)) refl (ap (filter (λ (x : Open). x.kernel == receiver one)) a.opens_is) (settled_calls v one s.both.flat s.there)
    (holders_given h (last_stamp v + 1) (new_version v one) (is_holder w (receiver one)) (asks_to_write v.opens one.body) (grant_of v one) new a.stream opened (with_call new (things v)) (s.grantable.each (receiver one) place) (record {
      on = ap not al.cached;
      old = λ x m. elim (in_with new x (things v) m) [ inl k ↦ inl k.0 | inr q ↦ inr q ];
      stays = λ x m g b. with_in new x (things v) m (other_call x m g b.1);
      there = with_new new one (things v) refl (call_in_things v one s.there);
      arrives = (goes_asked one.from one.body s.asks_it, granting_arrives one.body (grant_of v one) s.asks_it);
      asked = a.asked;
      is_top = refl;
      low = λ x m g b. (let l = under.granted x m g b.1 in omega (arith, l));
      own = (let l = under.own (receiver one) place in let g = under_greatest v.stamps (receiver one - 1) in omega (arith, l, g));
      quiet = λ x m t stamp kind e. elim (in_with new x (things v) m) [ inl k ↦ no_call_thing v s.none x k.0 (ap is_callback e) | inr q ↦ cc (s.none one s.there, ap is_callback (sym e ∙ ap (λ (y : FileCall). y.body) q)) ];
      unanswered = λ k. no_call_thing v s.none k.call k.there (ap is_callback k.is_call);
      gives = refl;
      rises = (old_low v.version (new_version v one) (truncates one.body) (version_grows v.version _)).0;
      seen = (old_low v.version (new_version v one) (truncates one.body) (version_grows v.version _)).1;
      follows = λ x m g b. old_stays v.version (new_version v one) (truncates one.body) (no_truncation x m g b);
      holding = holding (bool_cases (is_holder v (receiver one))) (bool_cases (asks_to_write v.opens one.body));
      active = λ x m. active x m;
      opens = λ x m. elim (added x m) [ inl k ↦ inl (itself x k m) | inr q ↦ inr (ap writes q.2 ∙ sym a.writing) ];
      known = λ x m p. known_at x m (installed x p);
      known_coming = λ x m call k g b q. (let o : OpenFor v (receiver one) call = arrival_there v s.both.flat s.both.streams call k (receiver one) g b in let same : o.stream ≡ x.stream = cc (o.asked, q) in known_at x m (subst (λ t. OpenAt t (receiver one) v.opens) same o.at));
      kept = λ x m. kept x m;
      new_open = fresh;
      new_there = filter_in (λ (x : Open). x.kernel == receiver one) fresh (add_open left a.stream (receiver one) a.mode) (last_in fresh _) (eq-eqb (receiver one) (receiver one) refl);
      new_stream = refl;
      new_writes = sym a.writing;
    }))
  where
    w : View
    w = settle v one

    left : List Open
    left = left_of v.opens one.from one.body

    h : Here
    h = record (seat v (receiver one)) { opened = filter (λ (x : Open). x.kernel == receiver one) (left_of v.opens one.from one.body) }

    opened : List Open
    opened = filter (λ (x : Open). x.kernel == receiver one) (add_open (left_of v.opens one.from one.body) a.stream (receiver one) a.mode)

    fresh : Open
    fresh = record { stream = a.stream; kernel = receiver one; mode = a.mode; count = open_count (left_of v.opens one.from one.body) a.stream (receiver one) + 1 }

    new : FileCall
    new = replied one (granting one.body (grant_of v one))

    under : Under v
    under = under_of v s.stamps

    place : IsClient (length v.clients) (receiver one)
    place = receiver_client (length v.clients) one.from one.to one.body s.asks_it (s.both.flat.calls one s.there).ends

    within : (count : ℕ) → count ≡ length v.clients → receiver one - 1 < count
    within count e = let low = place.0 in let high = place.1 in omega (arith, e, low, high)

    other_call : (x : FileCall) → In x (things v) → (g : FileGrant) → arrival x.reply ≡ Some g → x.number ≢ one.number
    other_call x k g e q = let same : x ≡ one = same_thing v x one s.both.flat.numbered.differ k (call_in_things v one s.there) q in cc (s.unanswered, e, ap (λ (y : FileCall). arrival y.reply) same)

    no_truncation : (x : FileCall) → In x (things v) → (g : FileGrant) → Arrives (receiver one) x g → truncates one.body ≡ false
    no_truncation x m g b = elim (bool_cases (truncates one.body)) [ inl t ↦ (let o : OpenFor v (receiver one) x = arrival_there v s.both.flat s.both.streams x m (receiver one) g b in absurd (cc (al.closed, and_from (truncates one.body) (is_any v.opens) t (some_any o.at.one v.opens o.at.there)))) | inr t ↦ t ]

    active : (x : Open) → In x h.opened → Active (receiver one) (own_stamp v (receiver one)) (client v (receiver one)).mode (things v)
    active x m =
        let k = in_filter (λ (y : Open). y.kernel == receiver one) x left m in
        let l : Left x v.opens = left_was v.opens one.from one.body x k.0 in
        active_of v (receiver one) s.none (s.modes (receiver one) place) (under.own (receiver one) place) (s.grantable.each (receiver one) place).modes_agree (s.ruled.on (receiver one) place al.cached l.before l.there (sym l.kernel_is ∙ eqb-true x.kernel (receiver one) k.1))

    added : (x : Open) → In x opened → In x left ⊎ ((x.stream ≡ a.stream) × (x.kernel ≡ receiver one) × (x.mode ≡ a.mode))
    added x m = in_added left a.stream (receiver one) a.mode x (in_filter (λ (y : Open). y.kernel == receiver one) x (add_open left a.stream (receiver one) a.mode) m).0

    itself : (x : Open) → In x left → In x opened → SameOpen x h.opened
    itself x k m = record { other = x; there = filter_in (λ (y : Open). y.kernel == receiver one) x left k (in_filter (λ (y : Open). y.kernel == receiver one) x (add_open left a.stream (receiver one) a.mode) m).1; stream_is = refl; mode_is = refl }

    installed : (x : Open) → has_stream x.stream (client v (receiver one)).streams ≡ true → OpenAt x.stream (receiver one) v.opens
    installed x p = let c = s.both.streams.counts (receiver one) place x.stream in let n = has_some x.stream (client v (receiver one)).streams p in open_there x.stream (receiver one) v.opens (omega (arith, c, n))

    known_at : (x : Open) → In x opened → OpenAt x.stream (receiver one) v.opens → SameOpen x h.opened
    known_at x m o = elim (added x m) [
      | inl k ↦ itself x k m
      | inr q ↦ record { other = o.one; there = filter_in (λ (y : Open). y.kernel == receiver one) o.one left (a.here o.one o.there o.kernel_is) (eq-eqb o.one.kernel (receiver one) o.kernel_is); stream_is = o.stream_is; mode_is = q.2 ∙ sym (a.same_mode o.one o.there (sym o.stream_is ∙ q.0)) }
    ]

    kept : (x : Open) → In x h.opened → SameOpen x opened
    kept x m =
        let k = in_filter (λ (y : Open). y.kernel == receiver one) x left m in
        let l : Left x v.opens = left_was v.opens one.from one.body x k.0 in
        elim (bool_cases (is_open a.stream (receiver one) x)) [
          | inl e ↦ (let q = is_open_is a.stream (receiver one) x e in record { other = fresh; there = filter_in (λ (y : Open). y.kernel == receiver one) fresh (add_open left a.stream (receiver one) a.mode) (last_in fresh _) (eq-eqb (receiver one) (receiver one) refl); stream_is = sym q.0; mode_is = l.mode_is ∙ a.same_mode l.before l.there (sym l.stream_is ∙ sym q.0) })
          | inr e ↦ record { other = x; there = filter_in (λ (y : Open). y.kernel == receiver one) x (add_open left a.stream (receiver one) a.mode) (in_left x _ _ (filter_in (λ (y : Open). not (is_open a.stream (receiver one) y)) x left k.0 (ap not e))) k.1; stream_is = refl; mode_is = refl }
        ]

    holding : (is_holder v (receiver one) ≡ true) ⊎ (is_holder v (receiver one) ≡ false) → (asks_to_write v.opens one.body ≡ true) ⊎ (asks_to_write v.opens one.body ≡ false) → Holding (is_holder v (receiver one)) (is_holder w (receiver one)) (asks_to_write v.opens one.body) v.version (new_version v one) (grant_of v one)
    holding (inl e) k =
        let t : truncates one.body ≡ false = (s.grantable.spare (receiver one) (holder_is v.holder (receiver one) e)).2 in
        let b : (truncates one.body || (asks_to_write v.opens one.body && not (is_holder v (receiver one)))) ≡ false = ap (λ x. x || (asks_to_write v.opens one.body && not (is_holder v (receiver one)))) t ∙ and_right (asks_to_write v.opens one.body) (not (is_holder v (receiver one))) (ap not e) in
        let n : new_version v one ≡ v.version = version_stays v.version _ b in
        Mine e e n (ap (λ x. cond x (new_version v one) v.version) t ∙ sym n) (after_mine v.holder (receiver one) _ e)
    holding (inr e) (inl k) = Fresh e e k (version_rises v.version _ (or_right (truncates one.body) _ (and_from (asks_to_write v.opens one.body) (not (is_holder v (receiver one))) k (ap not e)))) (after_new v.holder (receiver one) _ (and_from (asks_to_write v.opens one.body) (not v.uncached) k (ap not al.cached)))
    holding (inr e) (inr k) = Plain e e k (after_same v.holder (receiver one) _ (and_left (asks_to_write v.opens one.body) (not v.uncached) k) e)

-- another kernel
settle_other : (z : Setting) (v : View) (one : FileCall) → Settles z v one → Alone v one → Adds v one → (kernel : ℕ) → IsClient (length v.clients) kernel → kernel ≢ receiver one → LocalHolders (seat (settle v one) kernel)
settle_other z v one s al a kernel i d = by_raise (bool_cases (truncates one.body || (asks_to_write v.opens one.body && not (is_holder v (receiver one)))))
  where
    w : View
    w = settle v one

    left : List Open
    left = left_of v.opens one.from one.body

    h : Here
    h = record (seat v kernel) { opened = filter (λ (x : Open). x.kernel == kernel) (left_of v.opens one.from one.body) }

    new : FileCall
    new = replied one (granting one.body (grant_of v one))

    place : IsClient (length v.clients) (receiver one)
    place = receiver_client (length v.clients) one.from one.to one.body s.asks_it (s.both.flat.calls one s.there).ends

    apart : kernel - 1 ≢ receiver one - 1
    apart = places_apart (receiver one) kernel place.0 i.0 d

    unheld : is_holder v kernel ≡ false
    unheld = not_holder v.holder kernel (λ e. d (s.grantable.spare kernel e).1)

    quiet : (x : FileCall) → In x (with_call new (things v)) → is_callback x.body ≡ true → ⊥
    quiet x m c = elim (in_with new x (things v) m) [ inl k ↦ no_call_thing v s.none x k.0 c | inr q ↦ cc (s.none one s.there, c, ap (λ (y : FileCall). is_callback y.body) q) ]

    other_call : (x : FileCall) → In x (things v) → (g : FileGrant) → arrival x.reply ≡ Some g → x.number ≢ one.number
    other_call x k g e q = let same : x ≡ one = same_thing v x one s.both.flat.numbered.differ k (call_in_things v one s.there) q in cc (s.unanswered, e, ap (λ (y : FileCall). arrival y.reply) same)

    ways : Ways kernel (own_stamp v kernel) (is_holder v kernel) (things v) (with_call new (things v))
    ways = record {
      arrivals = record {
        back = λ x m g b. elim (in_with new x (things v) m) [ inl k ↦ record { call = x; there = k.0; arrives = b; same = refl } | inr q ↦ absurd (d (sym b.0 ∙ ap goes_to q ∙ goes_asked one.from one.body s.asks_it)) ];
        on = λ x m g b l. record { call = x; there = with_in new x (things v) m (other_call x m g b.1); arrives = b; same = refl };
      };
      called = λ x m t stamp kind e. absurd (quiet x m (ap is_callback e));
      calls = λ h x m t stamp kind e. absurd (no_call_thing v s.none x m (ap is_callback e));
    }

    finish : (version : ℕ) → w.version ≡ version → LocalHolders (record h { version = version; opened = (seat w kernel).opened; calls = with_call new (things v) }) → LocalHolders (seat w kernel)
    finish version e f = holders_equal h (current_stamp v kernel) (current_stamp w kernel) version w.version (mode_given v kernel) (mode_given w kernel) (is_holder v kernel) (is_holder w kernel) (seat w kernel).opened (seat w kernel).opened (with_call new (things v)) (things w)
        (get_or-set_other v.stamps (receiver one - 1) (kernel - 1) _ 0 apart) e (get_or-set_other v.modes (receiver one - 1) (kernel - 1) _ cache.None apart) (after_other v.holder (receiver one) kernel _ (λ q. d (sym q)) unheld ∙ sym unheld) refl (settled_calls v one s.both.flat s.there) f

    there_too : (x : Open) → In x (opens_after v.opens one.from one.body) → x.kernel ≡ kernel → asks_to_write v.opens one.body ≡ true → ⊥
    there_too x m e k =
        let fresh : Open = record { stream = a.stream; kernel = receiver one; mode = a.mode; count = open_count left a.stream (receiver one) + 1 } in
        cc (al.apart, shared_by (opens_after v.opens one.from one.body) fresh x (subst (In fresh) (sym a.opens_is) (last_in fresh _)) m (λ q. d (sym e ∙ q)) (sym a.writing ∙ k))

    by_raise : ((truncates one.body || (asks_to_write v.opens one.body && not (is_holder v (receiver one)))) ≡ true) ⊎ ((truncates one.body || (asks_to_write v.opens one.body && not (is_holder v (receiver one)))) ≡ false) → LocalHolders (seat w kernel)
    by_raise (inl r) =
        let k : asks_to_write v.opens one.body ≡ true = raises_writes (truncates one.body) (asks_to_write v.opens one.body) (is_holder v (receiver one)) (truncating_writes v one one.body (s.both.flat.calls one s.there) refl) r in
        let b : Both (settle v one) = both_settle v one s.unanswered s.asks_it s.both s.there in
        finish w.version refl (holders_away h w.version (seat w kernel).opened (with_call new (things v)) (λ x m. let q = in_filter (λ (y : Open). y.kernel == kernel) x (opens_after v.opens one.from one.body) m in there_too x q.0 (eqb-true x.kernel kernel q.1) k) (s.grantable.each kernel i) (record {
          unheld = unheld;
          none = λ x m g c. (let o : OpenFor (settle v one) kernel x = arrival_there (settle v one) b.flat b.streams x (subst (In x) (sym (settled_calls v one s.both.flat s.there)) m) kernel g c in there_too o.at.one o.at.there o.at.kernel_is k);
          higher = version_grows v.version _;
          quiet = λ x m t stamp kind e. quiet x m (ap is_callback e);
        }))
    by_raise (inr r) = finish v.version (version_stays v.version _ r) (holders_ways (record h { opened = (seat w kernel).opened }) (with_call new (things v)) (holders_opened h (seat w kernel).opened (s.grantable.each kernel i)
        (λ x m. let q = in_filter (λ (y : Open). y.kernel == kernel) x (opens_after v.opens one.from one.body) m in elim (in_added left a.stream (receiver one) a.mode x (subst (In x) a.opens_is q.0)) [ inl k ↦ record { other = x; there = filter_in (λ (y : Open). y.kernel == kernel) x left k q.1; stream_is = refl; mode_is = refl } | inr p ↦ absurd (d (sym (eqb-true x.kernel kernel q.1) ∙ p.1)) ])
        (λ e. absurd (cc (e, unheld)))) ways)

-- the whole view
pub holders_settle : (z : Setting) (v : View) (one : FileCall) → Settles z v one → FlatHolders (settle v one)
holders_settle z v one s = record {
  is_client = λ holder e. elim (by_writing (bool_cases (asks_to_write v.opens one.body && not v.uncached)) holder e) [ inl k ↦ s.grantable.is_client holder k.0 | inr k ↦ subst (IsClient (length v.clients)) (sym k.0) place ];
  opens = λ holder e x m. elim (by_writing (bool_cases (asks_to_write v.opens one.body && not v.uncached)) holder e) [
    | inl k ↦ (let p = s.grantable.spare holder k.0 in elim (in_added left a.stream (receiver one) a.mode x (subst (In x) a.opens_is m)) [ inl j ↦ (let l : Left x v.opens = left_was v.opens one.from one.body x j in l.kernel_is ∙ s.grantable.opens holder k.0 l.before l.there) | inr q ↦ q.1 ∙ sym p.1 ])
    | inr k ↦ elim (eqb_tells x.kernel (receiver one)) [ inl q ↦ q.1 ∙ sym k.0 | inr q ↦ absurd (cc ((alone k.1).apart, shared_by (opens_after v.opens one.from one.body) fresh x (subst (In fresh) (sym a.opens_is) (last_in fresh _)) m q.1 (sym a.writing ∙ (and_parts (asks_to_write v.opens one.body) (not v.uncached) k.1).0))) ]
  ];
  stale = λ holder e kernel i d o. elim (by_writing (bool_cases (asks_to_write v.opens one.body && not v.uncached)) holder e) [
    | inl k ↦ (let l = s.grantable.stale holder k.0 kernel i d o in let r = version_grows v.version (truncates one.body || (asks_to_write v.opens one.body && not (is_holder v (receiver one)))) in omega (arith, l, r))
    | inr k ↦ elim (bool_cases (is_holder v (receiver one))) [
      | inl q ↦ (let l = s.grantable.stale (receiver one) (holder_is v.holder (receiver one) q) kernel i (λ b. d (b ∙ sym k.0)) o in let r = version_grows v.version (truncates one.body || (asks_to_write v.opens one.body && not (is_holder v (receiver one)))) in omega (arith, l, r))
      | inr q ↦ (let b = (s.grantable.each kernel i).seen_below in let r = version_rises v.version (truncates one.body || (asks_to_write v.opens one.body && not (is_holder v (receiver one)))) (or_right (truncates one.body) _ (and_from (asks_to_write v.opens one.body) (not (is_holder v (receiver one))) (and_parts (asks_to_write v.opens one.body) (not v.uncached) k.1).0 (ap not q))) in omega (arith, b, r))
    ]
  ];
  exclusive = λ u. (alone_by z v one u (s.told u)).apart;
  each = λ kernel i. by_cached kernel i (bool_cases v.uncached) (eqb_tells kernel (receiver one));
}
  where
    a : Adds v one
    a = adds v one s.unanswered s.both s.there s.asks_it

    left : List Open
    left = left_of v.opens one.from one.body

    fresh : Open
    fresh = record { stream = a.stream; kernel = receiver one; mode = a.mode; count = open_count left a.stream (receiver one) + 1 }

    place : IsClient (length v.clients) (receiver one)
    place = receiver_client (length v.clients) one.from one.to one.body s.asks_it (s.both.flat.calls one s.there).ends

    not_is : (b : Bool) → not b ≡ true → b ≡ false
    not_is true e = absurd (cc (e))
    not_is false e = refl

    alone : (asks_to_write v.opens one.body && not v.uncached) ≡ true → Alone v one
    alone k = let u : v.uncached ≡ false = not_is v.uncached (and_parts (asks_to_write v.opens one.body) (not v.uncached) k).1 in alone_by z v one u (s.told u)

    by_writing : ((asks_to_write v.opens one.body && not v.uncached) ≡ true) ⊎ ((asks_to_write v.opens one.body && not v.uncached) ≡ false) → (holder : ℕ) → holder_after v.holder (receiver one) (asks_to_write v.opens one.body && not v.uncached) ≡ Some holder → ((v.holder ≡ Some holder) × ((asks_to_write v.opens one.body && not v.uncached) ≡ false)) ⊎ ((holder ≡ receiver one) × ((asks_to_write v.opens one.body && not v.uncached) ≡ true))
    by_writing (inl k) holder e = inr (cc (e, ap (holder_after v.holder (receiver one)) k), k)
    by_writing (inr k) holder e = inl (sym (ap (holder_after v.holder (receiver one)) k) ∙ e, k)

    by_cached : (kernel : ℕ) → IsClient (length v.clients) kernel → (v.uncached ≡ true) ⊎ (v.uncached ≡ false) → (((kernel == receiver one) ≡ true) × (kernel ≡ receiver one)) ⊎ (((kernel == receiver one) ≡ false) × (kernel ≢ receiver one)) → LocalHolders (seat (settle v one) kernel)
    by_cached kernel i (inl u) k = settle_off z v one s u kernel i
    by_cached kernel i (inr u) (inl e) = subst (λ k. LocalHolders (seat (settle v one) k)) (sym e.1) (settle_given z v one s (alone_by z v one u (s.told u)) a)
    by_cached kernel i (inr u) (inr d) = settle_other z v one s (alone_by z v one u (s.told u)) a kernel i d.1
