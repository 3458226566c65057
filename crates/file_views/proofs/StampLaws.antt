-- The third layer of soundness, said of the whole view, and under the smallest changes.
use Rattle.std.proofs.Common.{◌≡◌, ◌≢◌, ◌≤◌, ◌<◌, ◌⊎◌, ℕ, ◌-◌, ◌==◌, Bool, true, false, ◌||◌, length, map, Option, Some, None, refl, sym, ap, ◌∙◌, subst, inl, inr, arith, eq-eqb, slice_index_or}
use Rattle.sprite_ids.specs.declared.CacheMode.{CacheMode}
use Rattle.sprite_ids.specs.declared.CacheMode.TheVariants as cache
use Rattle.sprite_ids.specs.declared.CallKind.{CallKind}
use Rattle.sprite_ids.specs.declared.CallKind.TheVariants.{Recall, Stop}
use Rattle.file_views.specs.declared.grant.FileGrant.{FileGrant}
use Rattle.file_views.specs.declared.body.FileBody.{FileBody}
use Rattle.file_views.specs.declared.body.FileBody.TheVariants as form
use Rattle.file_views.specs.declared.call.FileCall.{FileCall}
use Rattle.file_views.specs.declared.call.Carry.{Carry}
use Rattle.file_views.specs.declared.view.View.{View}
use Rattle.file_views.specs.Views.{client, current_stamp, mode_given, grant_given, is_callback, as_call, things}
use Rattle.file_views.specs.Settled.{goes_of, goes_to, arrival}
use Rattle.file_views.specs.Here.{In, Pairs, IsClient, target, about, at_kernel, request_stamp}
use Rattle.file_views.specs.SoundShapes.{Ends, Answers, Shaped}
use Rattle.file_views.specs.SoundStamps.{Stamps}
use Rattle.file_views.proofs.MemberLaws.{Made, in_join, in_map, in_left, in_filter, filter_in, map_in}
use Rattle.file_views.proofs.EffectLaws.{call_in_things}
use Rattle.file_views.proofs.CountLaws.{or_left, or_right}
use Rattle.file_views.proofs.ShapeLaws.{Flat}

-- the stamps that a call carries, by those of clients and server
pub record Stamped (own current : ℕ → ℕ) (mode : ℕ → CacheMode) (uncached : Bool) (one : FileCall) : Type 0 where
  pub granted : (grant : FileGrant) → arrival one.reply ≡ Some grant → grant.stamp ≤ current (goes_to one)
  pub again : (grant : FileGrant) → one.reply ≡ Some (form.Again grant) → grant.stamp ≤ current one.from
  pub request : (stamp : ℕ) → request_stamp one.body ≡ Some stamp → stamp ≤ own one.from
  pub stale : (stamp : ℕ) → request_stamp one.body ≡ Some stamp → (grant : FileGrant) → one.reply ≡ Some (form.Again grant) → stamp < current one.from
  pub called : (stamp : ℕ) (kind : CallKind) → one.body ≡ form.Callback stamp kind → stamp ≡ current one.to
  pub before : (stamp : ℕ) (kind : CallKind) → one.body ≡ form.Callback stamp kind → one.taken ≡ false → own one.to < stamp
  pub behind : (stamp : ℕ) (kind : CallKind) → one.body ≡ form.Callback stamp kind → one.taken ≡ true → own one.to ≡ stamp
  pub recalled : (stamp : ℕ) → one.body ≡ form.Callback stamp Recall → uncached ≡ false
  pub stopped : (stamp : ℕ) → one.body ≡ form.Callback stamp Stop → (mode one.to ≡ cache.Off) × (uncached ≡ true)

abbrev pub own_stamp : View → ℕ → ℕ
own_stamp v kernel = (client v kernel).stamp

abbrev pub StampedIn : View → FileCall → Type 0
StampedIn v one = Stamped (own_stamp v) (current_stamp v) (mode_given v) v.uncached one

-- what two calls say of each other
pub record Paired (one other : FileCall) : Type 0 where
  pub grants : (grant more : FileGrant) → arrival one.reply ≡ Some grant → arrival other.reply ≡ Some more → goes_to one ≡ goes_to other → grant.stamp ≡ more.stamp → one.number ≡ other.number
  pub callback : (grant : FileGrant) → arrival one.reply ≡ Some grant → (stamp : ℕ) (kind : CallKind) → other.body ≡ form.Callback stamp kind → other.taken ≡ false → goes_to one ≡ other.to → grant.stamp ≢ stamp
  pub again : (grant : FileGrant) → one.reply ≡ Some (form.Again grant) → (stamp : ℕ) (kind : CallKind) → other.body ≡ form.Callback stamp kind → other.taken ≡ false → one.from ≡ other.to → grant.stamp ≢ stamp
  pub callbacks : is_callback one.body ≡ true → is_callback other.body ≡ true → one.to ≡ other.to → one.number ≡ other.number
  pub alone : (stamp : ℕ) → one.body ≡ form.Callback stamp Recall → is_callback other.body ≡ true → one.number ≡ other.number

pub record FlatStamps (v : View) : Type 0 where
  pub own_below : (kernel : ℕ) → IsClient (length v.clients) kernel → own_stamp v kernel ≤ current_stamp v kernel
  pub given_below : (kernel : ℕ) → IsClient (length v.clients) kernel → (grant : FileGrant) → grant_given v kernel ≡ Some grant → grant.stamp ≤ current_stamp v kernel
  pub each : (one : FileCall) → In one (things v) → StampedIn v one
  pub pairs : Pairs Paired (things v)

-- the two ways to say it
pub stamps_of : (v : View) → FlatStamps v → Stamps v
stamps_of v f = record {
  alone = λ one other m n stamp e c. (f.pairs one other (call_in_things v one m) (call_in_things v other n)).alone stamp e c;
  each = λ kernel i. record {
    facts = record {
      own_below = f.own_below kernel i;
      given_below = f.given_below kernel i;
      granted = λ one m grant a. subst (λ k. grant.stamp ≤ current_stamp v k) a.0 ((f.each one (there kernel one m)).granted grant a.1);
      again = λ one m e grant a. subst (λ k. grant.stamp ≤ current_stamp v k) e ((f.each one (there kernel one m)).again grant a);
      request = λ one m e stamp q. subst (λ k. stamp ≤ own_stamp v k) e ((f.each one (there kernel one m)).request stamp q);
      stale = λ one m e stamp q grant a. subst (λ k. stamp < current_stamp v k) e ((f.each one (there kernel one m)).stale stamp q grant a);
      called = λ one m e stamp kind q. (f.each one (there kernel one m)).called stamp kind q ∙ ap (current_stamp v) e;
      before = λ one m e stamp kind q t. subst (λ k. own_stamp v k < stamp) e ((f.each one (there kernel one m)).before stamp kind q t);
      behind = λ one m e stamp kind q t. sym (ap (own_stamp v) e) ∙ (f.each one (there kernel one m)).behind stamp kind q t;
      recalled = λ one m e stamp q. (f.each one (there kernel one m)).recalled stamp q;
      stopped = λ one m e stamp q. let r = (f.each one (there kernel one m)).stopped stamp q in (sym (ap (mode_given v) e) ∙ r.0, r.1);
    };
    pairs = λ one other m n. let p : Paired one other = f.pairs one other (there kernel one m) (there kernel other n) in record {
      grants = λ grant more a b e. p.grants grant more a.1 b.1 (a.0 ∙ sym b.0) e;
      callback = λ grant a t stamp kind e u. p.callback grant a.1 stamp kind e u (a.0 ∙ sym t);
      again = λ s grant a t stamp kind e u. p.again grant a stamp kind e u (s ∙ sym t);
      callbacks = λ s t a b. p.callbacks a b (s ∙ sym t);
    };
  };
}
  where
    there : (kernel : ℕ) (one : FileCall) → In one (at_kernel v kernel).calls → In one (things v)
    there kernel one m = (in_filter (about kernel) one (things v) m).0

-- a call stands in the part of whom it is about
pub by_from : (v : View) (one : FileCall) → In one (things v) → In one (at_kernel v one.from).calls
by_from v one m = filter_in (about one.from) one (things v) m (or_left (one.from == one.from) _ (eq-eqb one.from one.from refl))

by_to : (v : View) (one : FileCall) → In one (things v) → In one (at_kernel v one.to).calls
by_to v one m = filter_in (about one.to) one (things v) m (or_right (one.from == one.to) _ (or_left (one.to == one.to) _ (eq-eqb one.to one.to refl)))

pub about_goes : (source to : ℕ) (body : FileBody) → ((source == goes_of source body) || ((to == goes_of source body) || (target body == goes_of source body))) ≡ true
about_goes source to (form.Move stream place kept grants) = or_right (source == place) _ (or_right (to == place) _ (eq-eqb place place refl))
about_goes source to (form.Opening pid number stream mode truncate) = or_left (source == source) _ (eq-eqb source source refl)
about_goes source to body = or_left (source == source) _ (eq-eqb source source refl)

pub by_goes : (v : View) (one : FileCall) → In one (things v) → In one (at_kernel v (goes_to one)).calls
by_goes v one m = filter_in (about (goes_to one)) one (things v) m (about_goes one.from one.to one.body)

-- who is meant is a client
pub in_things : (v : View) (one : FileCall) → In one (things v) → Made as_call one v.carried ⊎ In one v.calls
in_things v one m = elim (in_join one (map as_call v.carried) v.calls m) [ inl a ↦ inl (in_map as_call one v.carried a) | inr b ↦ inr b ]

goes_answered : (count source to : ℕ) (body reply : FileBody) (grant : FileGrant) → Ends count source to body → Answers body reply → arrival (Some reply) ≡ Some grant → IsClient count (goes_of source body)
goes_answered count source to (form.Opening pid number stream mode truncate) reply grant e a r = e.0
goes_answered count source to (form.Move stream place kept grants) reply grant e a r = e.2
goes_answered count source to (form.Close stream grants) form.Done grant e a r = absurd (cc (r))
goes_answered count source to (form.Close stream grants) reply grant e a r = absurd a
goes_answered count source to (form.Op pid number stamp stream way) (form.Value first second piece) grant e a r = absurd (cc (r))
goes_answered count source to (form.Op pid number stamp stream way) (form.Again other) grant e a r = absurd (cc (r))
goes_answered count source to (form.Op pid number stamp stream way) (form.Refused cause) grant e a r = absurd (cc (r))
goes_answered count source to (form.Op pid number stamp stream way) reply grant e a r = absurd a
goes_answered count source to (form.Fetch stamp block) reply grant e a r = e.0
goes_answered count source to (form.WriteBack stamp block size piece) reply grant e a r = e.0
goes_answered count source to (form.Callback stamp kind) (form.Flushed size blocks) grant e a r = absurd (cc (r))
goes_answered count source to (form.Callback stamp kind) reply grant e a r = absurd a
goes_answered count source to body reply grant e a r = absurd e

again_sender : (count source to : ℕ) (body : FileBody) (grant : FileGrant) → Ends count source to body → Answers body (form.Again grant) → IsClient count source
again_sender count source to (form.Op pid number stamp stream way) grant e a = e.0
again_sender count source to (form.Fetch stamp block) grant e a = e.0
again_sender count source to (form.WriteBack stamp block size piece) grant e a = e.0
again_sender count source to body grant e a = absurd a

pub request_sender : (count source to : ℕ) (body : FileBody) (stamp : ℕ) → Ends count source to body → request_stamp body ≡ Some stamp → IsClient count source
request_sender count source to (form.Op pid number other stream way) stamp e q = e.0
request_sender count source to (form.Fetch other block) stamp e q = e.0
request_sender count source to (form.WriteBack other block size piece) stamp e q = e.0
request_sender count source to body stamp e q = absurd (cc (q))

pub reply_of_arrival : (reply : Option FileBody) (grant : FileGrant) → arrival reply ≡ Some grant → (r : FileBody) × (reply ≡ Some r)
reply_of_arrival (Some r) grant e = (r, refl)
reply_of_arrival None grant e = absurd (cc (e))

stamped_call : (v : View) → Flat v → Stamps v → (one : FileCall) → In one v.calls → StampedIn v one
stamped_call v f s one m =
    let h : Shaped (length v.clients) one = f.calls one m in
    let t : In one (things v) = call_in_things v one m in
    record {
      granted = λ grant a. let r = reply_of_arrival one.reply grant a in (s.each (goes_to one) (goes_answered (length v.clients) one.from one.to one.body r.0 grant h.ends (h.fits r.0 r.1) (sym (ap arrival r.1) ∙ a))).facts.granted one (by_goes v one t) grant (refl, a);
      again = λ grant a. (s.each one.from (again_sender (length v.clients) one.from one.to one.body grant h.ends (h.fits (form.Again grant) a))).facts.again one (by_from v one t) refl grant a;
      request = λ stamp q. (s.each one.from (request_sender (length v.clients) one.from one.to one.body stamp h.ends q)).facts.request one (by_from v one t) refl stamp q;
      stale = λ stamp q grant a. (s.each one.from (request_sender (length v.clients) one.from one.to one.body stamp h.ends q)).facts.stale one (by_from v one t) refl stamp q grant a;
      called = λ stamp kind q. (s.each one.to (subst (Ends (length v.clients) one.from one.to) q h.ends).1).facts.called one (by_to v one t) refl stamp kind q;
      before = λ stamp kind q u. (s.each one.to (subst (Ends (length v.clients) one.from one.to) q h.ends).1).facts.before one (by_to v one t) refl stamp kind q u;
      behind = λ stamp kind q u. (s.each one.to (subst (Ends (length v.clients) one.from one.to) q h.ends).1).facts.behind one (by_to v one t) refl stamp kind q u;
      recalled = λ stamp q. (s.each one.to (subst (Ends (length v.clients) one.from one.to) q h.ends).1).facts.recalled one (by_to v one t) refl stamp q;
      stopped = λ stamp q. (s.each one.to (subst (Ends (length v.clients) one.from one.to) q h.ends).1).facts.stopped one (by_to v one t) refl stamp q;
    }

stamped_carried : (v : View) → Flat v → Stamps v → (carry : Carry) → In carry v.carried → StampedIn v (as_call carry)
stamped_carried v f s carry m = record {
  granted = λ grant a. (s.each carry.to (f.carried carry m).client).facts.granted (as_call carry) (by_goes v (as_call carry) (in_left (as_call carry) (map as_call v.carried) v.calls (map_in as_call carry v.carried m))) grant (refl, a);
  again = λ grant a. absurd (cc (a));
  request = λ stamp q. absurd (cc (q));
  stale = λ stamp q. absurd (cc (q));
  called = λ stamp kind q. absurd (cc (q));
  before = λ stamp kind q. absurd (cc (q));
  behind = λ stamp kind q. absurd (cc (q));
  recalled = λ stamp q. absurd (cc (q));
  stopped = λ stamp q. absurd (cc (q));
}

pub goes_client : (v : View) → Flat v → (one : FileCall) → In one (things v) → (grant : FileGrant) → arrival one.reply ≡ Some grant → IsClient (length v.clients) (goes_to one)
goes_client v f one m grant a = by_place (in_things v one m)
  where
    by_place : Made as_call one v.carried ⊎ In one v.calls → IsClient (length v.clients) (goes_to one)
    by_place (inl r) = subst (λ (x : FileCall). IsClient (length v.clients) (goes_to x)) (sym r.makes) (f.carried r.x r.there).client
    by_place (inr n) = let h : Shaped (length v.clients) one = f.calls one n in let r = reply_of_arrival one.reply grant a in goes_answered (length v.clients) one.from one.to one.body r.0 grant h.ends (h.fits r.0 r.1) (sym (ap arrival r.1) ∙ a)

pub callback_target : (count source to : ℕ) (body : FileBody) → Ends count source to body → is_callback body ≡ true → IsClient count to
callback_target count source to (form.Callback stamp kind) e c = e.1
callback_target count source to body e c = absurd (cc (c))

pub only_call : (v : View) (one : FileCall) → In one (things v) → is_callback one.body ≡ true → In one v.calls
only_call v one m c = by_place (in_things v one m)
  where
    by_place : Made as_call one v.carried ⊎ In one v.calls → In one v.calls
    by_place (inl r) = absurd (cc (c, ap (λ (x : FileCall). is_callback x.body) r.makes))
    by_place (inr n) = n

again_call : (v : View) (one : FileCall) → In one (things v) → (grant : FileGrant) → one.reply ≡ Some (form.Again grant) → In one v.calls
again_call v one m grant a = by_place (in_things v one m)
  where
    by_place : Made as_call one v.carried ⊎ In one v.calls → In one v.calls
    by_place (inl r) = absurd (cc (a, ap (λ (x : FileCall). x.reply) r.makes))
    by_place (inr n) = n

paired_of : (v : View) → Flat v → Stamps v → (one other : FileCall) → In one (things v) → In other (things v) → Paired one other
paired_of v f s one other m n = record {
  grants = λ grant more a b e q. ((s.each (goes_to one) (goes_client v f one m grant a)).pairs one other (by_goes v one m) (subst (λ k. In other (at_kernel v k).calls) (sym e) (by_goes v other n))).grants grant more (refl, a) (sym e, b) q;
  callback = λ grant a stamp kind e u t. ((s.each other.to (target_of other n (ap is_callback e))).pairs one other (subst (λ k. In one (at_kernel v k).calls) t (by_goes v one m)) (by_to v other n)).callback grant (t, a) refl stamp kind e u;
  again = λ grant a stamp kind e u t. ((s.each other.to (target_of other n (ap is_callback e))).pairs one other (subst (λ k. In one (at_kernel v k).calls) t (by_from v one m)) (by_to v other n)).again t grant a refl stamp kind e u;
  callbacks = λ a b e. ((s.each other.to (target_of other n b)).pairs one other (subst (λ k. In one (at_kernel v k).calls) e (by_to v one m)) (by_to v other n)).callbacks e refl a b;
  alone = λ stamp e c. s.alone one other (only_call v one m (ap is_callback e)) (only_call v other n c) stamp e c;
}
  where
    target_of : (x : FileCall) → In x (things v) → is_callback x.body ≡ true → IsClient (length v.clients) x.to
    target_of x k c = callback_target (length v.clients) x.from x.to x.body (f.calls x (only_call v x k c)).ends c

pub flat_stamps : (v : View) → Flat v → Stamps v → FlatStamps v
flat_stamps v f s = record {
  own_below = λ kernel i. (s.each kernel i).facts.own_below;
  given_below = λ kernel i. (s.each kernel i).facts.given_below;
  each = λ one m. by_place one (in_things v one m);
  pairs = λ one other m n. paired_of v f s one other m n;
}
  where
    by_place : (one : FileCall) → Made as_call one v.carried ⊎ In one v.calls → StampedIn v one
    by_place one (inl r) = subst (StampedIn v) (sym r.makes) (stamped_carried v f s r.x r.there)
    by_place one (inr n) = stamped_call v f s one n

-- a call's facts under stamps that rise, where those of a callback's kernel stay
pub stamped_more : (own own' current current' : ℕ → ℕ) (mode mode' : ℕ → CacheMode) (uncached uncached' : Bool) (one : FileCall) → Stamped own current mode uncached one → ((k : ℕ) → current k ≤ current' k) → ((k : ℕ) → own k ≤ own' k) → (is_callback one.body ≡ true → (current one.to ≡ current' one.to) × (own one.to ≡ own' one.to) × (mode one.to ≡ mode' one.to) × (uncached ≡ uncached')) → Stamped own' current' mode' uncached' one
stamped_more own own' current current' mode mode' uncached uncached' one s c o same = record {
  granted = λ grant a. let l = s.granted grant a in let r = c (goes_to one) in omega (arith, l, r);
  again = λ grant a. let l = s.again grant a in let r = c one.from in omega (arith, l, r);
  request = λ stamp q. let l = s.request stamp q in let r = o one.from in omega (arith, l, r);
  stale = λ stamp q grant a. let l = s.stale stamp q grant a in let r = c one.from in omega (arith, l, r);
  called = λ stamp kind q. s.called stamp kind q ∙ (same (ap is_callback q)).0;
  before = λ stamp kind q u. subst (λ n. n < stamp) (same (ap is_callback q)).1 (s.before stamp kind q u);
  behind = λ stamp kind q u. sym (same (ap is_callback q)).1 ∙ s.behind stamp kind q u;
  recalled = λ stamp q. sym (same (ap is_callback q)).3 ∙ s.recalled stamp q;
  stopped = λ stamp q. let r = s.stopped stamp q in (sym (same (ap is_callback q)).2 ∙ r.0, sym (same (ap is_callback q)).3 ∙ r.1);
}

-- nothing of stamps changes
pub record Still (v w : View) : Type 0 where
  pub count : length w.clients ≡ length v.clients
  pub own : (kernel : ℕ) → own_stamp w kernel ≡ own_stamp v kernel
  pub stamps : w.stamps ≡ v.stamps
  pub modes : w.modes ≡ v.modes
  pub given : w.given ≡ v.given
  pub uncached : w.uncached ≡ v.uncached

pub still_stamped : (v w : View) → Still v w → (one : FileCall) → StampedIn v one → StampedIn w one
still_stamped v w r one s = stamped_more (own_stamp v) (own_stamp w) (current_stamp v) (current_stamp w) (mode_given v) (mode_given w) v.uncached w.uncached one s
    (λ k. let e : current_stamp w k ≡ current_stamp v k = ap (λ xs. slice_index_or xs (k - 1) 0) r.stamps in omega (arith, e))
    (λ k. let e = r.own k in omega (arith, e))
    (λ c. (ap (λ xs. slice_index_or xs (one.to - 1) 0) (sym r.stamps), sym (r.own one.to), ap (λ xs. slice_index_or xs (one.to - 1) cache.None) (sym r.modes), sym r.uncached))

pub stamps_still : (v w : View) → Still v w → FlatStamps v → ((one : FileCall) → In one (things w) → StampedIn v one) → Pairs Paired (things w) → FlatStamps w
stamps_still v w r f each pairs = record {
  own_below = λ kernel i. let l = f.own_below kernel (subst (λ n. IsClient n kernel) r.count i) in let a = r.own kernel in let b : current_stamp w kernel ≡ current_stamp v kernel = ap (λ xs. slice_index_or xs (kernel - 1) 0) r.stamps in omega (arith, l, a, b);
  given_below = λ kernel i grant e. let l = f.given_below kernel (subst (λ n. IsClient n kernel) r.count i) grant (ap (λ xs. slice_index_or xs (kernel - 1) None) (sym r.given) ∙ e) in let b : current_stamp w kernel ≡ current_stamp v kernel = ap (λ xs. slice_index_or xs (kernel - 1) 0) r.stamps in omega (arith, l, b);
  each = λ one m. still_stamped v w r one (each one m);
  pairs = pairs;
}

-- fewer calls, or the same in another order
pub stamps_fewer : (v w : View) → Still v w → FlatStamps v → ((one : FileCall) → In one (things w) → In one (things v)) → FlatStamps w
stamps_fewer v w r f less = stamps_still v w r f (λ one m. f.each one (less one m)) (λ one other m n. f.pairs one other (less one m) (less other n))
