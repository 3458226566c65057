-- The third layer of soundness while the server takes up requests.
use Rattle.std.proofs.Common.{◌≡◌, ◌≢◌, ◌≤◌, ◌<◌, ◌⊎◌, ℕ, zero, suc, ◌+◌, ◌-◌, ◌==◌, nat_lt, Bool, true, false, cond, List, [], ◌∷◌, ◌++◌, length, filter, Option, Some, None, refl, sym, ap, ◌∙◌, subst, inl, inr, arith, eqb-true, get_or-set_same, get_or-set_other}
use Rattle.std.specs.List.{list_any}
use Rattle.std.proofs.lemmas.Bool.{and_parts}
use Rattle.std.proofs.lemmas.Bool.Decides.{eqb_tells}
use Rattle.sprite_ids.specs.declared.CacheMode.TheVariants as cache
use Rattle.sprite_ids.specs.declared.CallKind.{CallKind}
use Rattle.sprite_ids.specs.declared.CallKind.TheVariants.{Recall, Stop}
use Rattle.file_views.specs.declared.grant.FileGrant.{FileGrant}
use Rattle.file_views.specs.declared.body.Access.{Access}
use Rattle.file_views.specs.declared.body.Access.TheVariants as access
use Rattle.file_views.specs.declared.body.FileBody.{FileBody}
use Rattle.file_views.specs.declared.body.FileBody.TheVariants as form
use Rattle.file_views.specs.declared.call.FileCall.{FileCall}
use Rattle.file_views.specs.declared.view.View.{View}
use Rattle.file_views.specs.Setting.{Setting}
use Rattle.file_views.specs.Contents.{numbers_from}
use Rattle.file_views.specs.Views.{server, kernels, current_stamp, mode_given, grant_given, is_kernel, is_holder, is_callback, last_stamp, things, new_call, replied, answer, to_the_end, busy, waits, waiting_calls, without_call}
use Rattle.file_views.specs.Grants.{asks, receiver_of, granting, grant_of, settle, stamped, mode_called, call_out, call_back, told, deciding, decide, kind_of_calls, uncached_after, called_kernels, is_called, current_in, current_grant}
use Rattle.file_views.specs.Serving.{close, op_reply, block_of, refuse_old, serve_body, serve, serve_all, request_comes, resume, resumed}
use Rattle.file_views.specs.Settled.{goes_of, goes_to, arrival}
use Rattle.file_views.specs.Here.{In, Unique, IsClient, request_stamp}
use Rattle.file_views.specs.SoundShapes.{Ends, numbers}
use Rattle.file_views.proofs.MemberLaws.{in_filter, in_last, last_in, in_with, in_without, with_in, unique_filter}
use Rattle.file_views.proofs.EffectLaws.{things_begin, call_in_things}
use Rattle.file_views.proofs.ClientLaws.{choose, choose_by}
use Rattle.file_views.proofs.CountLaws.{neither}
use Rattle.file_views.proofs.ShapeLaws.{Flat}
use Rattle.file_views.proofs.ShapeStepLaws.{flat_settle, flat_call_out, flat_told, among_clients, flat_serve, serve_keeps, number_of, apart_from, calls_apart, flat_taken, in_numbers, ends_no_callback}
use Rattle.file_views.proofs.StampLaws.{own_stamp, StampedIn, Paired, FlatStamps, stamped_more, request_sender}
use Rattle.file_views.proofs.StampChangeLaws.{NoCall, no_call_thing, stamps_same, stamps_told, stamps_answer, stamps_take}
use Rattle.file_views.proofs.StampGrantLaws.{under_greatest, stamp_rises, stamps_settle}

-- the first layer and the third
pub record Two (v : View) : Type 0 where
  pub flat : Flat v
  pub stamps : FlatStamps v

-- a callback goes out
pub stamps_call_out : (v : View) (kind : CallKind) (kernel : ℕ) → FlatStamps v → IsClient (length v.clients) kernel → length v.stamps ≡ length v.clients → length v.modes ≡ length v.clients →
    ((x : FileCall) → In x (things v) → is_callback x.body ≡ true → (x.to - 1 ≢ kernel - 1) × (kind ≡ Stop) × ((s : ℕ) → x.body ≡ form.Callback s Recall → ⊥)) → (kind ≡ Recall → v.uncached ≡ false) → (kind ≡ Stop → v.uncached ≡ true) → FlatStamps (call_out v kind kernel)
stamps_call_out v kind kernel f i ls lm quiet recall stop = record {
  own_below = λ other j. let a = f.own_below other j in let b = rises other in omega (arith, a, b);
  given_below = λ other j grant e. let a = f.given_below other j grant e in let b = rises other in omega (arith, a, b);
  each = λ x n. by_place x (in_last x new (things v) (subst (In x) grown n));
  pairs = λ x y k n. pair x y (in_last x new (things v) (subst (In x) grown k)) (in_last y new (things v) (subst (In y) grown n));
}
  where
    w : View
    w = call_out v kind kernel

    new : FileCall
    new = new_call (stamped v kind kernel) server kernel (form.Callback (last_stamp v + 1) kind) None

    grown : things w ≡ things v ++ new ∷ []
    grown = things_begin (stamped v kind kernel) server kernel (form.Callback (last_stamp v + 1) kind) None

    within : kernel - 1 < length v.stamps
    within = omega (arith, ls, i.0, i.1)

    within_modes : kernel - 1 < length v.modes
    within_modes = omega (arith, lm, i.0, i.1)

    rises : (other : ℕ) → current_stamp v other ≤ current_stamp w other
    rises other = stamp_rises v.stamps kernel (last_stamp v + 1) other within (omega arith)

    here : current_stamp w kernel ≡ last_stamp v + 1
    here = get_or-set_same v.stamps (kernel - 1) (last_stamp v + 1) 0 within

    mode_here : mode_given w kernel ≡ mode_called (mode_given v kernel) kind
    mode_here = get_or-set_same v.modes (kernel - 1) (mode_called (mode_given v kernel) kind) cache.None within_modes

    own_low : own_stamp v kernel < last_stamp v + 1
    own_low = let a = f.own_below kernel i in let b = under_greatest v.stamps (kernel - 1) in omega (arith, a, b)

    kind_is : (s : ℕ) (k : CallKind) → form.Callback (last_stamp v + 1) kind ≡ form.Callback s k → (last_stamp v + 1 ≡ s) × (kind ≡ k)
    kind_is s k e = (cc (e), cc (e))

    by_place : (x : FileCall) → In x (things v) ⊎ (x ≡ new) → StampedIn w x
    by_place x (inl n) = stamped_more (own_stamp v) (own_stamp w) (current_stamp v) (current_stamp w) (mode_given v) (mode_given w) v.uncached w.uncached x (f.each x n) rises (λ k. omega arith)
        (λ c. (sym (get_or-set_other v.stamps (kernel - 1) (x.to - 1) (last_stamp v + 1) 0 (quiet x n c).0), refl, sym (get_or-set_other v.modes (kernel - 1) (x.to - 1) (mode_called (mode_given v kernel) kind) cache.None (quiet x n c).0), refl))
    by_place x (inr q) = subst (StampedIn w) (sym q) (record {
      granted = λ grant a. absurd (cc (a));
      again = λ grant a. absurd (cc (a));
      request = λ s r. absurd (cc (r));
      stale = λ s r grant a. absurd (cc (a));
      called = λ s k r. sym (kind_is s k r).0 ∙ sym here;
      before = λ s k r z. let e = (kind_is s k r).0 in omega (arith, e, own_low);
      behind = λ s k r z. absurd (cc (z));
      recalled = λ s r. recall (kind_is s Recall r).1;
      stopped = λ s r. (mode_here ∙ ap (mode_called (mode_given v kernel)) (kind_is s Stop r).1, stop (kind_is s Stop r).1);
    })

    low_stamp : (stamp other s : ℕ) (k : CallKind) → stamp ≤ current_stamp v other → form.Callback (last_stamp v + 1) kind ≡ form.Callback s k → stamp ≢ s
    low_stamp stamp other s k l e q = let p = (kind_is s k e).0 in let g = under_greatest v.stamps (other - 1) in omega (arith, l, p, g, q)

    left : (y : FileCall) → In y (things v) → Paired new y
    left y n = record {
      grants = λ grant more a. absurd (cc (a));
      callback = λ grant a. absurd (cc (a));
      again = λ grant a. absurd (cc (a));
      callbacks = λ a b e. absurd ((quiet y n b).0 (ap (λ p. p - 1) (sym e)));
      alone = λ s e c. two_kinds (kind_is s Recall e).1 (quiet y n c).1;
    }
      where
        two_kinds : kind ≡ Recall → kind ≡ Stop → new.number ≡ y.number
        two_kinds a b = absurd (cc (a, b))

    right : (x : FileCall) → In x (things v) → Paired x new
    right x n = record {
      grants = λ grant more a b. absurd (cc (b));
      callback = λ grant a s k e z g. low_stamp grant.stamp (goes_to x) s k ((f.each x n).granted grant a) e;
      again = λ grant a s k e z g. low_stamp grant.stamp x.from s k ((f.each x n).again grant a) e;
      callbacks = λ a b e. absurd ((quiet x n a).0 (ap (λ p. p - 1) e));
      alone = λ s e c. absurd ((quiet x n (ap is_callback e)).2 s e);
    }

    self : Paired new new
    self = record { grants = λ grant more a. absurd (cc (a)); callback = λ grant a. absurd (cc (a)); again = λ grant a. absurd (cc (a)); callbacks = λ a b e. refl; alone = λ s e c. refl }

    pair : (x y : FileCall) → In x (things v) ⊎ (x ≡ new) → In y (things v) ⊎ (y ≡ new) → Paired x y
    pair x y (inl k) (inl n) = f.pairs x y k n
    pair x y (inl k) (inr q) = subst (Paired x) (sym q) (right x k)
    pair x y (inr q) (inl n) = subst (λ z. Paired z y) (sym q) (left y n)
    pair x y (inr q) (inr r) = subst (λ z. Paired z y) (sym q) (subst (Paired new) (sym r) self)

-- callbacks go out in a row
abbrev pub Quiet : View → CallKind → List ℕ → Type 0
Quiet v kind called = (x : FileCall) → In x (things v) → is_callback x.body ≡ true → (kernel : ℕ) → In kernel called → (x.to - 1 ≢ kernel - 1) × (kind ≡ Stop) × ((s : ℕ) → x.body ≡ form.Callback s Recall → ⊥)

is_stop : (kind : CallKind) → (kind ≡ Recall → ⊥) → kind ≡ Stop
is_stop Recall f = absurd (f refl)
is_stop Stop f = refl

two_call_back : (called : List ℕ) (kind : CallKind) (v : View) → Two v → ((kernel : ℕ) → In kernel called → IsClient (length v.clients) kernel) → Unique called → (kind ≡ Recall → (x y : ℕ) → In x called → In y called → x ≡ y) → Quiet v kind called → (kind ≡ Recall → v.uncached ≡ false) → (kind ≡ Stop → v.uncached ≡ true) → Two (call_back called kind v)
two_call_back [] kind v t i u most quiet recall stop = t
two_call_back (kernel ∷ rest) kind v t i u most quiet recall stop =
    two_call_back rest kind (call_out v kind kernel)
    (record { flat = flat_call_out v kind kernel t.flat (i kernel (inl refl)); stamps = stamps_call_out v kind kernel t.stamps (i kernel (inl refl)) t.flat.items.stamp_each t.flat.items.mode_each (λ x n c. quiet x n c kernel (inl refl)) recall stop })
    (λ other m. i other (inr m)) u.1 (λ e x y m n. most e x y (inr m) (inr n))
    (λ x n c other m. later x c other m (in_last x new (things v) (subst (In x) (things_begin (stamped v kind kernel) server kernel (form.Callback (last_stamp v + 1) kind) None) n))) recall stop
  where
    new : FileCall
    new = new_call (stamped v kind kernel) server kernel (form.Callback (last_stamp v + 1) kind) None

    apart : (other : ℕ) → In other rest → other ≢ kernel
    apart other m e = u.0 (subst (λ k. In k rest) e m)

    stops : (other : ℕ) → In other rest → kind ≡ Stop
    stops other m = is_stop kind (λ e. apart other m (most e other kernel (inr m) (inl refl)))

    later : (x : FileCall) → is_callback x.body ≡ true → (other : ℕ) → In other rest → In x (things v) ⊎ (x ≡ new) → (x.to - 1 ≢ other - 1) × (kind ≡ Stop) × ((s : ℕ) → x.body ≡ form.Callback s Recall → ⊥)
    later x c other m (inl n) = quiet x n c other (inr m)
    later x c other m (inr q) = (λ e. differs (i other (inr m)) (i kernel (inl refl)) (apart other m) (sym (ap (λ (y : FileCall). y.to - 1) q) ∙ e), stops other m, λ s e. no_recall s (stops other m) (sym (ap (λ (y : FileCall). y.body) q) ∙ e))
      where
        differs : IsClient (length v.clients) other → IsClient (length v.clients) kernel → other ≢ kernel → kernel - 1 ≡ other - 1 → ⊥
        differs a b d e = d (omega (arith, a.0, b.0, e))

        no_recall : (s : ℕ) → kind ≡ Stop → form.Callback (last_stamp v + 1) kind ≡ form.Callback s Recall → ⊥
        no_recall s k e = cc (k, e)

-- an open or a move is decided
asked : (body : FileBody) → asks body ≡ true → request_stamp body ≡ None
asked (form.Opening pid number stream mode truncate) a = refl
asked (form.Move stream place kept grants) a = refl
asked body a = absurd (cc (a))

pub goes_asked : (source : ℕ) (body : FileBody) → asks body ≡ true → goes_of source body ≡ receiver_of source body
goes_asked source (form.Opening pid number stream mode truncate) a = refl
goes_asked source (form.Move stream place kept grants) a = refl
goes_asked source body a = absurd (cc (a))

pub granting_arrives : (body : FileBody) (grant : FileGrant) → asks body ≡ true → arrival (Some (granting body grant)) ≡ Some grant
granting_arrives (form.Opening pid number stream mode truncate) grant a = refl
granting_arrives (form.Move stream place kept grants) grant a = refl
granting_arrives body grant a = absurd (cc (a))

pub granting_no_again : (body : FileBody) (grant other : FileGrant) → asks body ≡ true → granting body grant ≡ form.Again other → ⊥
granting_no_again (form.Opening pid number stream mode truncate) grant other a e = cc (e)
granting_no_again (form.Move stream place kept grants) grant other a e = cc (e)
granting_no_again body grant other a e = cc (a)

receiver_client : (count source to : ℕ) (body : FileBody) → asks body ≡ true → Ends count source to body → IsClient count (receiver_of source body)
receiver_client count source to (form.Opening pid number stream mode truncate) a e = e.0
receiver_client count source to (form.Move stream place kept grants) a e = e.2
receiver_client count source to body a e = absurd (cc (a))

pub two_settle : (v : View) (one : FileCall) → Two v → In one v.calls → NoCall v → asks one.body ≡ true → Two (settle v one)
two_settle v one t m n a = record {
  flat = flat_settle v one t.flat m a;
  stamps = stamps_settle v one t.stamps t.flat.numbered.differ m n (receiver_client (length v.clients) one.from one.to one.body a (t.flat.calls one m).ends) t.flat.items.stamp_each t.flat.items.given_each (asked one.body a) (goes_asked one.from one.body a) (granting_arrives one.body (grant_of v one) a) (λ g e. granting_no_again one.body (grant_of v one) g a e);
}

same_holder : (holder : Option ℕ) (x y : ℕ) → is_kernel x holder ≡ true → is_kernel y holder ≡ true → x ≡ y
same_holder (Some holder) x y a b = sym (eqb-true holder x a) ∙ eqb-true holder y b
same_holder None x y a b = absurd (cc (a))

pub unique_kept : (p : ℕ → Bool) (xs : List ℕ) → Unique xs → Unique (filter p xs)
unique_kept p [] u = tt
unique_kept p (x ∷ xs) u = first (p x) (unique_kept p xs u.1)
  where
    first : (b : Bool) → Unique (filter p xs) → Unique (cond b (x ∷ filter p xs) (filter p xs))
    first true h = (λ m. u.0 (in_filter p x xs m).0, h)
    first false h = h

pub unique_numbers : (first count : ℕ) → Unique (numbers_from first count)
unique_numbers first zero = tt
unique_numbers first (suc count) = (λ m. let r = (in_numbers (first + 1) count first m).0 in omega (arith, r), unique_numbers (first + 1) count)

recall_told : (b : Bool) → kind_of_calls b ≡ Recall → b ≡ false
recall_told true e = absurd (cc (e))
recall_told false e = refl

stop_told : (b : Bool) → kind_of_calls b ≡ Stop → b ≡ true
stop_told true e = refl
stop_told false e = absurd (cc (e))

pub one_recalled : (v : View) (one : FileCall) (b : Bool) (x y : ℕ) → b ≡ false → is_called b v one x ≡ true → is_called b v one y ≡ true → x ≡ y
one_recalled v one true x y e p q = absurd (cc (e))
one_recalled v one false x y e p q = same_holder v.holder x y (and_parts (is_holder v x) _ p).0 (and_parts (is_holder v y) _ q).0

two_deciding : (v : View) (one : FileCall) (kind : CallKind) (called : List ℕ) → Two v → In one v.calls → NoCall v → asks one.body ≡ true → ((kernel : ℕ) → In kernel called → IsClient (length v.clients) kernel) → Unique called → (kind ≡ Recall → (x y : ℕ) → In x called → In y called → x ≡ y) → (kind ≡ Recall → v.uncached ≡ false) → (kind ≡ Stop → v.uncached ≡ true) → Two (deciding v one kind called)
two_deciding v one kind [] t m n a i u most recall stop = two_settle v one t m n a
two_deciding v one kind (kernel ∷ rest) t m n a i u most recall stop = two_call_back (kernel ∷ rest) kind v t i u most (λ x k c. absurd (no_call_thing v n x k c)) recall stop

two_decide : (z : Setting) (v : View) (one : FileCall) → Two v → In one v.calls → NoCall v → asks one.body ≡ true → Two (decide z v one)
two_decide z v one t m n a =
    let b : Bool = uncached_after z v one in
    two_deciding (told v (uncached_after z v one)) one (kind_of_calls (uncached_after z v one)) (called_kernels z v one)
    (record { flat = flat_told v (uncached_after z v one) t.flat; stamps = stamps_told v (told v (uncached_after z v one)) n refl refl refl refl t.stamps }) m n a
    (λ kernel k. among_clients v kernel (in_filter (is_called (uncached_after z v one) v one) kernel (kernels v) k).0)
    (unique_kept (is_called (uncached_after z v one) v one) (kernels v) (unique_numbers 1 (length v.clients)))
    (λ e x y p q. one_recalled v one (uncached_after z v one) x y (recall_told (uncached_after z v one) e) (in_filter (is_called (uncached_after z v one) v one) x (kernels v) p).1 (in_filter (is_called (uncached_after z v one) v one) y (kernels v) q).1)
    (recall_told (uncached_after z v one)) (stop_told (uncached_after z v one))

-- a request with an old stamp
pub current_is : (v : View) (kernel : ℕ) (given : Option FileGrant) → (current_in v kernel given).stamp ≡ current_stamp v kernel
current_is v kernel (Some grant) = choose_by (λ (g : FileGrant). g.stamp ≡ current_stamp v kernel) (grant.stamp == current_stamp v kernel) _ _ (λ e. eqb-true grant.stamp (current_stamp v kernel) e) (λ e. refl)
current_is v kernel None = refl

stamps_old : (v : View) (one : FileCall) (body : FileBody) (stamp : ℕ) → one.body ≡ body → request_stamp body ≡ Some stamp → is_callback body ≡ false → (stamp == current_stamp v one.from) ≡ false → Two v → In one v.calls → NoCall v → FlatStamps (refuse_old v one)
stamps_old v one body stamp e q c d t m n = stamps_answer v one (form.Again (current_grant v one.from)) t.flat.numbered.differ m (ap is_callback e ∙ c) refl
    (λ grant g. let same : current_grant v one.from ≡ grant = cc (g) in let is : grant.stamp ≡ current_stamp v one.from = ap (λ (x : FileGrant). x.stamp) (sym same) ∙ current_is v one.from (grant_given v one.from) in
    (n, omega (arith, is), λ s r. older s (sym (ap request_stamp e ∙ q) ∙ r))) t.stamps
  where
    older : (s : ℕ) → Some stamp ≡ Some s → s < current_stamp v one.from
    older s k =
        let same : stamp ≡ s = cc (k) in
        let low = (t.stamps.each one (call_in_things v one m)).request stamp (ap request_stamp e ∙ q) in
        let own = t.stamps.own_below one.from (request_sender (length v.clients) one.from one.to one.body stamp (t.flat.calls one m).ends (ap request_stamp e ∙ q)) in
        below (eqb_tells stamp (current_stamp v one.from)) same low own
      where
        below : (((stamp == current_stamp v one.from) ≡ true) × (stamp ≡ current_stamp v one.from)) ⊎ (((stamp == current_stamp v one.from) ≡ false) × (stamp ≢ current_stamp v one.from)) → stamp ≡ s → stamp ≤ own_stamp v one.from → own_stamp v one.from ≤ current_stamp v one.from → s < current_stamp v one.from
        below (inl a) x l o = absurd (cc (a.0, d))
        below (inr b) x l o = let ne = b.1 in omega (arith, x, l, o, ne)

pub op_arrival : (z : Setting) (bytes : List ℕ) (way : Access) → arrival (Some (op_reply z bytes way)) ≡ None
op_arrival z bytes (access.Read from many) = refl
op_arrival z bytes (access.Write from new) = refl
op_arrival z bytes (access.Append new) = choose (λ (r : FileBody). arrival (Some r) ≡ None) (nat_lt z.most (length bytes + length new)) _ _ refl refl

pub op_no_again : (z : Setting) (bytes : List ℕ) (way : Access) (grant : FileGrant) → op_reply z bytes way ≡ form.Again grant → ⊥
op_no_again z bytes (access.Read from many) grant e = cc (e)
op_no_again z bytes (access.Write from new) grant e = cc (e)
op_no_again z bytes (access.Append new) grant e = choose (λ (r : FileBody). r ≡ form.Again grant → ⊥) (nat_lt z.most (length bytes + length new)) _ _ (λ q. cc (q)) (λ q. cc (q)) e

stamps_serve : (z : Setting) (v : View) (one : FileCall) (body : FileBody) → one.body ≡ body → Two v → In one v.calls → NoCall v → FlatStamps (serve_body z v one body)
stamps_serve z v one (form.Opening pid number stream mode truncate) e t m n = (two_decide z v one t m n (ap asks e)).stamps
stamps_serve z v one (form.Move stream place kept grants) e t m n = (two_decide z v one t m n (ap asks e)).stamps
stamps_serve z v one (form.Close stream grants) e t m n = stamps_told (answer v one form.Done) (close v one stream grants) (λ x k. none_answered v one form.Done n m x k) refl refl refl refl (stamps_answer v one form.Done t.flat.numbered.differ m (ap is_callback e) refl (λ g q. absurd (cc (q))) t.stamps)
  where
    none_answered : (u : View) (c : FileCall) (reply : FileBody) → NoCall u → In c u.calls → NoCall (answer u c reply)
    none_answered u c reply h k x j = elim (in_with (replied c reply) x u.calls j) [ inl a ↦ h x a.0 | inr q ↦ ap (λ (y : FileCall). is_callback y.body) q ∙ h c k ]
stamps_serve z v one (form.Fetch stamp block) e t m n =
    choose_by FlatStamps (stamp == current_stamp v one.from) _ _ (λ d. stamps_answer v one (form.Block stamp (block_of z v.bytes block)) t.flat.numbered.differ m (ap is_callback e) refl (λ g q. absurd (cc (q))) t.stamps) (λ d. stamps_old v one (form.Fetch stamp block) stamp e refl refl d t m n)
stamps_serve z v one (form.WriteBack stamp block size piece) e t m n =
    choose_by FlatStamps (stamp == current_stamp v one.from) _ _ (λ d. stamps_same (answer v one form.Done) _ refl refl refl refl refl refl (stamps_answer v one form.Done t.flat.numbered.differ m (ap is_callback e) refl (λ g q. absurd (cc (q))) t.stamps)) (λ d. stamps_old v one (form.WriteBack stamp block size piece) stamp e refl refl d t m n)
stamps_serve z v one (form.Op pid number stamp stream way) e t m n =
    choose_by FlatStamps (stamp == current_stamp v one.from) _ _ (λ d. stamps_same (answer v one (op_reply z v.bytes way)) _ refl refl refl refl refl refl (stamps_answer v one (op_reply z v.bytes way) t.flat.numbered.differ m (ap is_callback e) (op_arrival z v.bytes way) (λ g q. absurd (op_no_again z v.bytes way g q)) t.stamps)) (λ d. stamps_old v one (form.Op pid number stamp stream way) stamp e refl refl d t m n)
stamps_serve z v one body e t m n = t.stamps

pub two_serve : (z : Setting) (v : View) (one : FileCall) → Two v → In one v.calls → NoCall v → Two (serve z v one)
two_serve z v one t m n = record { flat = flat_serve z v one one.body refl t.flat m; stamps = stamps_serve z v one one.body refl t m n }

-- what waits is taken up while no callback is out
no_callback_in : (calls : List FileCall) → list_any (λ (x : FileCall). is_callback x.body) calls ≡ false → (one : FileCall) → In one calls → is_callback one.body ≡ false
no_callback_in [] h one m = absurd m
no_callback_in (x ∷ xs) h one (inl e) = ap (λ (y : FileCall). is_callback y.body) e ∙ (neither (is_callback x.body) _ h).0
no_callback_in (x ∷ xs) h one (inr m) = no_callback_in xs (neither (is_callback x.body) _ h).1 one m

pub idle : (v : View) → busy v ≡ false → NoCall v
idle v h one m = no_callback_in v.calls h one m

two_serve_all : (z : Setting) (waiting : List FileCall) (v : View) → Two v → ((one : FileCall) → In one waiting → In one v.calls) → Unique (numbers waiting) → Two (serve_all z waiting v)
two_serve_all z [] v t m u = t
two_serve_all z (one ∷ rest) v t m u =
    choose_by Two (busy v) v (serve_all z rest (serve z v one)) (λ h. t)
    (λ h. two_serve_all z rest (serve z v one) (two_serve z v one t (m one (inl refl)) (idle v h)) (λ other k. serve_keeps z v one other one.body (m other (inr k)) (apart_from one other rest u k)) u.1)

two_resume : (z : Setting) (waiting : List FileCall) (v : View) → Two v → NoCall v → ((one : FileCall) → In one waiting → In one v.calls) → Unique (numbers waiting) → Two (resume z waiting v)
two_resume z [] v t n m u = t
two_resume z (one ∷ rest) v t n m u =
    choose_by Two (asks one.body) (serve_all z rest (settle v one)) (serve_all z (one ∷ rest) v)
    (λ a. two_serve_all z rest (settle v one) (two_settle v one t (m one (inl refl)) n a) (λ other k. with_in (replied one (granting one.body (grant_of v one))) other v.calls (m other (inr k)) (apart_from one other rest u k)) u.1)
    (λ a. two_serve_all z (one ∷ rest) v t m u)

pub two_resumed : (z : Setting) (v : View) → Two v → Two (resumed z v)
two_resumed z v t = choose_by Two (busy v) v (resume z (waiting_calls v) v) (λ h. t)
    (λ h. two_resume z (waiting_calls v) v t (idle v h) (λ one m. (in_filter waits one v.calls m).0) (unique_filter number_of waits v.calls (calls_apart v t.flat.numbered.differ)))

pub two_request : (z : Setting) (v : View) (one : FileCall) → Two v → In one v.calls → one.to ≡ server → Two (request_comes z v one)
two_request z v one t m s =
    let taken : Two (to_the_end v one) = record { flat = flat_taken v one t.flat m s; stamps = stamps_take v one t.flat.numbered.differ m no_call t.stamps } in
    choose_by Two (busy v) (to_the_end v one) (serve z (to_the_end v one) (record one { taken = true })) (λ h. taken) (λ h. two_serve z (to_the_end v one) (record one { taken = true }) taken (last_in (record one { taken = true }) _) (λ x k. still h x (in_last x (record one { taken = true }) _ k)))
  where
    no_call : is_callback one.body ≡ false
    no_call = by_test (is_callback one.body) refl
      where
        by_test : (b : Bool) → is_callback one.body ≡ b → b ≡ false
        by_test true h = absurd (ends_no_callback (length v.clients) one.from one.to one.body (t.flat.calls one m).ends t.flat.items.fifteen s h)
        by_test false h = refl

    still : busy v ≡ false → (x : FileCall) → In x (without_call one.number v.calls) ⊎ (x ≡ record one { taken = true }) → is_callback x.body ≡ false
    still h x (inl k) = idle v h x (in_without one.number x v.calls k).0
    still h x (inr q) = ap (λ (y : FileCall). is_callback y.body) q ∙ no_call
