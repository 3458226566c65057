-- The fourth layer of soundness while the server takes up requests.
use Rattle.std.proofs.Common.{◌≡◌, ◌≢◌, ◌<◌, ◌⊎◌, ℕ, ◌+◌, ◌-◌, ◌==◌, nat_le, Bool, true, false, cond, not, ◌&&◌, List, [], ◌∷◌, ◌++◌, length, filter, refl, sym, ap, ◌∙◌, subst, inl, inr, arith, slice_set, slice_index_or, get_or-set_same, get_or-set_other, eq-eqb}
use Rattle.std.specs.List.{list_any}
use Rattle.std.proofs.lemmas.Bool.{and_parts, and_from, and_cases}
use Rattle.std.proofs.lemmas.Bool.Decides.{eqb_tells}
use Rattle.sprite_ids.specs.declared.StreamNo.{StreamNo}
use Rattle.sprite_ids.specs.declared.Mode.{Mode}
use Rattle.sprite_ids.specs.declared.CacheMode.{CacheMode}
use Rattle.sprite_ids.specs.declared.CacheMode.TheVariants as cache
use Rattle.file_views.specs.declared.body.FileBody.{FileBody}
use Rattle.file_views.specs.declared.body.FileBody.TheVariants as form
use Rattle.file_views.specs.declared.opens.Open.{Open}
use Rattle.file_views.specs.declared.call.FileCall.{FileCall}
use Rattle.file_views.specs.declared.view.View.{View}
use Rattle.file_views.specs.Setting.{Setting}
use Rattle.file_views.specs.Streams.{same_stream, has_stream, is_open, open_count, add_open, take_off, is_any, mode_of_stream}
use Rattle.file_views.specs.Clients.{is_on, mode_of}
use Rattle.file_views.specs.Views.{is_callback, waits, waiting_calls, without_call, with_call, replied}
use Rattle.file_views.specs.Grants.{asks, receiver, receiver_of, left_by, opens_after, shared_after, uncached_after, granting, grant_of, settle}
use Rattle.file_views.specs.Serving.{still_shared, close}
use Rattle.file_views.specs.Here.{In, Unique, IsClient}
use Rattle.file_views.specs.SoundShapes.{Ends, numbers}
use Rattle.file_views.proofs.MemberLaws.{in_left, in_last, last_in, in_filter, filter_in, in_with, unique_filter, without_absent}
use Rattle.file_views.proofs.CountLaws.{or_left, or_right, or_is, neither, same_is, same_by, bool_cases}
use Rattle.file_views.proofs.OpenLaws.{Left, left_in, in_added, is_open_is}
use Rattle.file_views.proofs.ShapeLaws.{Flat}
use Rattle.file_views.proofs.ShapeStepLaws.{number_of, apart_from, calls_apart}
use Rattle.file_views.proofs.StampChangeLaws.{NoCall}
use Rattle.file_views.proofs.DecisionLaws.{Queues, Ruled}

-- an item that a test finds
pub record Found {X : Type 0} (p : X → Bool) (xs : List X) : Type 0 where
  pub item : X
  pub there : In item xs
  pub holds : p item ≡ true

any_first : {X : Type 0} (p : X → Bool) (x : X) (xs : List X) → (p x ≡ true) ⊎ (list_any p xs ≡ true) → (list_any p xs ≡ true → Found p xs) → Found p (x ∷ xs)
any_first p x xs (inl c) f = record { item = x; there = inl refl; holds = c }
any_first p x xs (inr e) f = let r : Found p xs = f e in record { item = r.item; there = inr r.there; holds = r.holds }

pub any_found : {X : Type 0} (p : X → Bool) (xs : List X) → list_any p xs ≡ true → Found p xs
any_found p [] e = absurd (cc (e))
any_found p (x ∷ xs) e = any_first p x xs (or_is (p x) _ e) (any_found p xs)

pub found_any : {X : Type 0} (p : X → Bool) (xs : List X) (x : X) → In x xs → p x ≡ true → list_any p xs ≡ true
found_any p [] x m c = absurd m
found_any p (y ∷ ys) x (inl e) c = or_left (p y) _ (ap p (sym e) ∙ c)
found_any p (y ∷ ys) x (inr m) c = or_right (p y) _ (found_any p ys x m c)

pub some_any : {X : Type 0} (x : X) (xs : List X) → In x xs → is_any xs ≡ true
some_any x [] m = absurd m
some_any x (y ∷ ys) m = refl

-- a waiting call is answered
filter_answered : (new : FileCall) (calls : List FileCall) → waits new ≡ false → filter waits (with_call new calls) ≡ without_call new.number (filter waits calls)
filter_answered new [] w = refl
filter_answered new (c ∷ calls) w = first (c.number == new.number) (waits c) refl refl (filter_answered new calls w)
  where
    first : (b d : Bool) → (c.number == new.number) ≡ b → waits c ≡ d → filter waits (with_call new calls) ≡ without_call new.number (filter waits calls) → filter waits (cond b new c ∷ with_call new calls) ≡ without_call new.number (cond d (c ∷ filter waits calls) (filter waits calls))
    first true true e k h = ap (λ z. cond z (new ∷ filter waits (with_call new calls)) (filter waits (with_call new calls))) w ∙ h ∙ sym (ap (λ z. cond (not z) (c ∷ without_call new.number (filter waits calls)) (without_call new.number (filter waits calls))) e)
    first true false e k h = ap (λ z. cond z (new ∷ filter waits (with_call new calls)) (filter waits (with_call new calls))) w ∙ h
    first false true e k h = ap (λ z. cond z (c ∷ filter waits (with_call new calls)) (filter waits (with_call new calls))) k ∙ ap (λ xs. c ∷ xs) h ∙ sym (ap (λ z. cond (not z) (c ∷ without_call new.number (filter waits calls)) (without_call new.number (filter waits calls))) e)
    first false false e k h = ap (λ z. cond z (c ∷ filter waits (with_call new calls)) (filter waits (with_call new calls))) k ∙ h

without_first : (one : FileCall) (rest : List FileCall) → Unique (numbers (one ∷ rest)) → without_call one.number (one ∷ rest) ≡ rest
without_first one rest u = ap (λ z. cond (not z) (one ∷ without_call one.number rest) (without_call one.number rest)) (eq-eqb one.number one.number refl) ∙ without_absent one.number rest (λ other m. apart_from one other rest u m)

waiting_answered : (v : View) (one new : FileCall) (rest : List FileCall) → Unique (numbers v.calls) → waiting_calls v ≡ one ∷ rest → new.number ≡ one.number → waits new ≡ false → filter waits (with_call new v.calls) ≡ rest
waiting_answered v one new rest u w e n =
    filter_answered new v.calls n ∙ ap (λ xs. without_call new.number xs) w ∙ ap (λ k. without_call k (one ∷ rest)) e ∙ without_first one rest (subst (λ xs. Unique (numbers xs)) w (unique_filter number_of waits v.calls u))

-- what is so once the first that waited is taken up
pub record Served (z : Setting) (rest : List FileCall) (w : View) : Type 0 where
  pub ruled : Ruled w
  pub queues : Queues z rest w

pub first_waits : (v : View) (one : FileCall) (rest : List FileCall) → waiting_calls v ≡ one ∷ rest → In one v.calls
first_waits v one rest w = (in_filter waits one v.calls (subst (In one) (sym w) (inl refl))).0

pub served_answer : (z : Setting) (v w : View) (one : FileCall) (reply : FileBody) (rest : List FileCall) → Flat v → NoCall v → waiting_calls v ≡ one ∷ rest → w.calls ≡ with_call (replied one reply) v.calls → Ruled w → Served z rest w
served_answer z v w one reply rest f n q e r = record { ruled = r; queues = inl (none, ap (filter waits) e ∙ waiting_answered v one (replied one reply) rest (calls_apart v f.numbered.differ) q refl refl) }
  where
    none : NoCall w
    none x m = elim (in_with (replied one reply) x v.calls (subst (In x) e m)) [ inl a ↦ n x a.0 | inr k ↦ ap (λ (y : FileCall). is_callback y.body) k ∙ n one (first_waits v one rest q) ]

-- a close
pub ruled_close : (v : View) (one : FileCall) (stream : StreamNo) (grants : ℕ) → Ruled v → Ruled (close v one stream grants)
ruled_close v one stream grants r = record {
  shared = record {
    uncached = λ s e. let p = still s e in and_from v.uncached (is_any opens) (r.shared.uncached s p.0) (let x : Found (λ (o : Open). same_stream s o.stream) opens = any_found _ opens p.1 in some_any x.item opens x.there);
    stays = λ s e. (still s e).1;
  };
  off = λ kernel i u. r.off kernel i (and_parts v.uncached (is_any opens) u).0;
  on = λ kernel i u x m e. elim (and_cases v.uncached (is_any opens) u) [
    | inl a ↦ let l : Left x v.opens = left_in v.opens stream one.from grants x m in r.on kernel i a l.before l.there (sym l.kernel_is ∙ e)
    | inr b ↦ absurd (cc (b, some_any x opens m))
  ];
}
  where
    opens : List Open
    opens = take_off v.opens stream one.from grants

    still : (s : StreamNo) → has_stream s (still_shared v.shared opens) ≡ true → (has_stream s v.shared ≡ true) × (list_any (λ (o : Open). same_stream s o.stream) opens ≡ true)
    still s e =
        let x : Found (same_stream s) (still_shared v.shared opens) = any_found (same_stream s) (still_shared v.shared opens) e in
        let k = in_filter (λ (t : StreamNo). list_any (λ (o : Open). same_stream t o.stream) opens) x.item v.shared x.there in
        (found_any (same_stream s) v.shared x.item k.0 x.holds, ap (λ t. list_any (λ (o : Open). same_stream t o.stream) opens) (same_is s x.item x.holds) ∙ k.1)

-- streams that stay open
has_stream_open : (s : StreamNo) (opens : List Open) (x : Open) → In x opens → s ≡ x.stream → list_any (λ (o : Open). same_stream s o.stream) opens ≡ true
has_stream_open s opens x m e = found_any (λ (o : Open). same_stream s o.stream) opens x m (same_by s x.stream e)

added_new : (opens : List Open) (stream : StreamNo) (kernel : ℕ) (mode : Mode) (s : StreamNo) → s ≡ stream → list_any (λ (o : Open). same_stream s o.stream) (add_open opens stream kernel mode) ≡ true
added_new opens stream kernel mode s e = has_stream_open s (add_open opens stream kernel mode) (record { stream = stream; kernel = kernel; mode = mode; count = open_count opens stream kernel + 1 }) (last_in _ _) e

added_stays : (opens : List Open) (stream : StreamNo) (kernel : ℕ) (mode : Mode) (s : StreamNo) (x : Open) → In x opens → s ≡ x.stream → list_any (λ (o : Open). same_stream s o.stream) (add_open opens stream kernel mode) ≡ true
added_stays opens stream kernel mode s x m e = elim (bool_cases (is_open stream kernel x)) [
  | inl a ↦ added_new opens stream kernel mode s (e ∙ sym (is_open_is stream kernel x a).0)
  | inr b ↦ has_stream_open s (add_open opens stream kernel mode) x (in_left x _ _ (filter_in (λ (o : Open). not (is_open stream kernel o)) x opens m (ap not b))) e
]

taken_first : (x o : Open) (opens : List Open) (stream : StreamNo) (kernel grants : ℕ) (b c : Bool) → is_open stream kernel o ≡ b → is_open stream kernel x ≡ false → (In x opens → In x (take_off opens stream kernel grants)) → In x (o ∷ opens) → In x (cond b (cond c (take_off opens stream kernel grants) (record o { count = o.count - grants } ∷ take_off opens stream kernel grants)) (o ∷ take_off opens stream kernel grants))
taken_first x o opens stream kernel grants true true e k f (inl q) = absurd (cc (e, k, ap (is_open stream kernel) q))
taken_first x o opens stream kernel grants true true e k f (inr m) = f m
taken_first x o opens stream kernel grants true false e k f (inl q) = absurd (cc (e, k, ap (is_open stream kernel) q))
taken_first x o opens stream kernel grants true false e k f (inr m) = inr (f m)
taken_first x o opens stream kernel grants false c e k f (inl q) = inl q
taken_first x o opens stream kernel grants false c e k f (inr m) = inr (f m)

taken_stays : (opens : List Open) (stream : StreamNo) (kernel grants : ℕ) (x : Open) → is_open stream kernel x ≡ false → In x opens → In x (take_off opens stream kernel grants)
taken_stays [] stream kernel grants x k m = absurd m
taken_stays (o ∷ opens) stream kernel grants x k m = taken_first x o opens stream kernel grants (is_open stream kernel o) (nat_le o.count grants) refl k (taken_stays opens stream kernel grants x k) m

pub left_stays : (opens : List Open) (stream : StreamNo) (source grants : ℕ) (kept : Bool) (x : Open) → is_open stream source x ≡ false → In x opens → In x (left_by opens stream source kept grants)
left_stays opens stream source grants true x k m = m
left_stays opens stream source grants false x k m = taken_stays opens stream source grants x k m

-- an open or a move is granted
not_open : (stream s : StreamNo) (source : ℕ) (x : Open) → same_stream s stream ≡ false → s ≡ x.stream → is_open stream source x ≡ false
not_open stream s source x d e = by_test (is_open stream source x) refl
  where
    by_test : (b : Bool) → is_open stream source x ≡ b → b ≡ false
    by_test true h = absurd (cc (d, same_by s stream (e ∙ sym (is_open_is stream source x h).0)))
    by_test false h = refl

more_shared : (s stream : StreamNo) (shared : List StreamNo) (b : Bool) → has_stream s (cond b (shared ++ stream ∷ []) shared) ≡ true → (has_stream s shared ≡ true) ⊎ (s ≡ stream)
more_shared s stream shared true e =
    let x : Found (same_stream s) (shared ++ stream ∷ []) = any_found (same_stream s) (shared ++ stream ∷ []) e in
    elim (in_last x.item stream shared x.there) [ inl m ↦ inl (found_any (same_stream s) shared x.item m x.holds) | inr q ↦ inr (same_is s x.item x.holds ∙ q) ]
more_shared s stream shared false e = inl e

settled_stays : (v : View) (source : ℕ) (body : FileBody) → asks body ≡ true → Ruled v → (s : StreamNo) → has_stream s (shared_after v.shared body) ≡ true → list_any (λ (o : Open). same_stream s o.stream) (opens_after v.opens source body) ≡ true
settled_stays v source (form.Opening pid number stream mode truncate) a r s e =
    let x : Found (λ (o : Open). same_stream s o.stream) v.opens = any_found _ v.opens (r.shared.stays s e) in
    added_stays v.opens stream source mode s x.item x.there (same_is s x.item.stream x.holds)
settled_stays v source (form.Move stream place kept grants) a r s e = elim (bool_cases (same_stream s stream)) [
  | inl b ↦ added_new (left_by v.opens stream source kept grants) stream place (mode_of_stream v.opens stream) s (same_is s stream b)
  | inr b ↦ by_shared b (more_shared s stream v.shared (kept && not (has_stream stream v.shared)) e)
]
  where
    by_shared : same_stream s stream ≡ false → (has_stream s v.shared ≡ true) ⊎ (s ≡ stream) → list_any (λ (o : Open). same_stream s o.stream) (opens_after v.opens source (form.Move stream place kept grants)) ≡ true
    by_shared b (inl h) =
        let x : Found (λ (o : Open). same_stream s o.stream) v.opens = any_found _ v.opens (r.shared.stays s h) in
        let same : s ≡ x.item.stream = same_is s x.item.stream x.holds in
        added_stays (left_by v.opens stream source kept grants) stream place (mode_of_stream v.opens stream) s x.item (left_stays v.opens stream source grants kept x.item (not_open stream s source x.item b same) x.there) same
    by_shared b (inr q) = absurd (cc (b, same_by s stream q))
settled_stays v source body a r s e = absurd (cc (a))

-- an open of another kernel than the receiver stood there before
pub left_before : (opens : List Open) (stream : StreamNo) (source grants : ℕ) (kept : Bool) (x : Open) → In x (left_by opens stream source kept grants) → Left x opens
left_before opens stream source grants true x m = record { before = x; there = m; stream_is = refl; kernel_is = refl; mode_is = refl; counts = λ l. l }
left_before opens stream source grants false x m = left_in opens stream source grants x m

pub opened_before : (opens : List Open) (source : ℕ) (body : FileBody) (x : Open) → asks body ≡ true → In x (opens_after opens source body) → Left x opens ⊎ (x.kernel ≡ receiver_of source body)
opened_before opens source (form.Opening pid number stream mode truncate) x a m = elim (in_added opens stream source mode x m) [ inl k ↦ inl (record { before = x; there = k; stream_is = refl; kernel_is = refl; mode_is = refl; counts = λ l. l }) | inr q ↦ inr q.1 ]
opened_before opens source (form.Move stream place kept grants) x a m = elim (in_added (left_by opens stream source kept grants) stream place (mode_of_stream opens stream) x m) [ inl k ↦ inl (left_before opens stream source grants kept x k) | inr q ↦ inr q.1 ]
opened_before opens source body x a m = absurd (cc (a))

-- the mode given to a kernel once one was given
pub mode_at : (modes : List CacheMode) (kernel : ℕ) (mode : CacheMode) (other : ℕ) → kernel - 1 < length modes → ((other - 1 ≡ kernel - 1) × (slice_index_or (slice_set modes (kernel - 1) mode) (other - 1) cache.None ≡ mode)) ⊎ ((other - 1 ≢ kernel - 1) × (slice_index_or (slice_set modes (kernel - 1) mode) (other - 1) cache.None ≡ slice_index_or modes (other - 1) cache.None))
mode_at modes kernel mode other l = elim (eqb_tells (other - 1) (kernel - 1)) [
  | inl a ↦ inl (a.1, ap (λ n. slice_index_or (slice_set modes (kernel - 1) mode) n cache.None) a.1 ∙ get_or-set_same modes (kernel - 1) mode cache.None l)
  | inr b ↦ inr (b.1, get_or-set_other modes (kernel - 1) (other - 1) mode cache.None b.1)
]

pub receiver_client : (count source to : ℕ) (body : FileBody) → asks body ≡ true → Ends count source to body → IsClient count (receiver_of source body)
receiver_client count source to (form.Opening pid number stream mode truncate) a e = e.0
receiver_client count source to (form.Move stream place kept grants) a e = e.2
receiver_client count source to body a e = absurd (cc (a))

pub on_given : (uncached : Bool) → uncached ≡ false → is_on (mode_of (not uncached)) ≡ true
on_given true e = absurd (cc (e))
on_given false e = refl

off_given : (uncached : Bool) → uncached ≡ true → is_on (mode_of (not uncached)) ≡ false
off_given true e = refl
off_given false e = absurd (cc (e))

ruled_settle : (z : Setting) (v : View) (one : FileCall) → Flat v → In one v.calls → asks one.body ≡ true → (v.uncached ≡ false → uncached_after z v one ≡ false) → Ruled v → Ruled (settle v one)
ruled_settle z v one f m a t r = record {
  shared = record {
    uncached = λ s e. by_told s e (v.uncached) refl;
    stays = λ s e. settled_stays v one.from one.body a r s e;
  };
  off = λ kernel i u. elim (mode_at v.modes (receiver one) (mode_of (not v.uncached)) kernel within) [ inl k ↦ ap is_on k.1 ∙ off_given v.uncached u | inr k ↦ ap is_on k.1 ∙ r.off kernel i u ];
  on = λ kernel i u x n e. elim (mode_at v.modes (receiver one) (mode_of (not v.uncached)) kernel within) [
    | inl k ↦ ap is_on k.1 ∙ on_given v.uncached u
    | inr k ↦ ap is_on k.1 ∙ elim (opened_before v.opens one.from one.body x a n) [ inl l ↦ r.on kernel i u l.before l.there (sym l.kernel_is ∙ e) | inr q ↦ absurd (k.0 (ap (λ p. p - 1) (sym e ∙ q))) ]
  ];
}
  where
    place : IsClient (length v.clients) (receiver one)
    place = receiver_client (length v.clients) one.from one.to one.body a (f.calls one m).ends

    within : receiver one - 1 < length v.modes
    within = let l = f.items.mode_each in let low = place.0 in let high = place.1 in omega (arith, l, low, high)

    by_told : (s : StreamNo) → has_stream s (shared_after v.shared one.body) ≡ true → (b : Bool) → v.uncached ≡ b → b ≡ true
    by_told s e true u = refl
    by_told s e false u =
        let none = (neither (is_any (shared_after v.shared one.body)) _ (neither (not z.cached) _ (neither v.uncached _ (t u)).1).1).0 in
        let x : Found (same_stream s) (shared_after v.shared one.body) = any_found (same_stream s) (shared_after v.shared one.body) e in
        absurd (cc (none, some_any x.item (shared_after v.shared one.body) x.there))

pub served_settle : (z : Setting) (v : View) (one : FileCall) (rest : List FileCall) → Flat v → NoCall v → waiting_calls v ≡ one ∷ rest → asks one.body ≡ true → (v.uncached ≡ false → uncached_after z v one ≡ false) → Ruled v → Served z rest (settle v one)
served_settle z v one rest f n w a t r = served_answer z v (settle v one) one (granting one.body (grant_of v one)) rest f n w refl (ruled_settle z v one f (first_waits v one rest w) a t r)
