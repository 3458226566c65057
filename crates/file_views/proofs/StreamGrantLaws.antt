-- The second layer of soundness under the changes that move grants.
use Rattle.std.proofs.Common.{◌≡◌, ◌≢◌, ◌⊎◌, ℕ, ◌+◌, ◌-◌, ◌==◌, Bool, true, false, not, ◌&&◌, List, [], ◌∷◌, ◌++◌, length, map, filter, None, refl, sym, ap, ap₂, ◌∙◌, subst, inl, inr, arith, eq-eqb, ne_eqb, slice_index_or}
use Rattle.sprite_ids.specs.Lists.{total}
use Rattle.sprite_ids.specs.declared.StreamNo.{StreamNo}
use Rattle.sprite_ids.specs.declared.Mode.{Mode}
use Rattle.file_views.specs.declared.body.Access.{Access}
use Rattle.file_views.specs.declared.body.Access.TheVariants as access
use Rattle.file_views.specs.declared.body.FileBody.{FileBody}
use Rattle.file_views.specs.declared.body.FileBody.TheVariants as form
use Rattle.file_views.specs.declared.opens.Open.{Open}
use Rattle.file_views.specs.declared.client.Client.{Client}
use Rattle.file_views.specs.declared.call.FileCall.{FileCall}
use Rattle.file_views.specs.declared.call.Carry.{Carry}
use Rattle.file_views.specs.declared.step.FileStep.{FileStep}
use Rattle.file_views.specs.declared.view.View.{View}
use Rattle.file_views.specs.Streams.{same_stream, has_stream, copies, open_count}
use Rattle.file_views.specs.Clients.{new_client, uninstall}
use Rattle.file_views.specs.Views.{server, client, set_client, without_call, with_call, without_carried, as_call, things, new_call, begin, replied}
use Rattle.file_views.specs.Data.{step_of}
use Rattle.file_views.specs.Possible.{is_about, works_on}
use Rattle.file_views.specs.Here.{In, IsClient}
use Rattle.file_views.specs.SoundStreams.{NamedOnce, OpensShaped, counted_at, on_way_of, on_way}
use Rattle.file_views.proofs.MemberLaws.{in_left, in_last, in_filter, in_with, map_in}
use Rattle.file_views.proofs.EffectLaws.{Apart, by_kernel, count_set, client_set, client_other, things_begin, things_with, things_uncarried, call_in_things}
use Rattle.file_views.proofs.CountLaws.{total_join, total_last, total_without, total_with, same_is, same_by, has_fewer, has_none_fewer, uninstalled_same, uninstalled_other}
use Rattle.file_views.proofs.ShapeLaws.{Flat, things_carried}
use Rattle.file_views.proofs.StreamLaws.{StepOpen, Works, StreamRest, Counted, none_more, FlatStreams, Before, KeepsOpen, rest_by, Rests, rest_rests, counts_rest}
use Rattle.file_views.proofs.StreamChangeLaws.{before_self, not_new}

-- a move whose reply came is carried on: another call names its stream
rest_carried : (v : View) (carry : Carry) → StreamRest v → ((other : FileCall) → In other v.calls → other.reply ≡ None → (pid number : ℕ) (stream : StreamNo) (mode : Mode) (truncate : Bool) → other.body ≡ form.Opening pid number stream mode truncate → same_stream stream carry.stream ≡ false) → StreamRest (record v { carried = v.carried ++ carry ∷ [] })
rest_carried v carry f apart = rest_by v (record v { carried = v.carried ++ carry ∷ [] }) f (record { count = refl; streams = λ kernel i. refl; waiting = λ kernel i step m. m; calls = before_self v })
    (λ other m n pid number stream mode truncate q. let once = f.new other m n pid number stream mode truncate q in record {
      shared = once.shared;
      opens = once.opens;
      calls = once.calls;
      installed = once.installed;
      waiting = once.waiting;
      carried = λ c k. elim (in_last c carry v.carried k) [ inl a ↦ once.carried c a | inr h ↦ subst (λ (x : Carry). same_stream stream x.stream ≡ false) (sym h) (apart other m n pid number stream mode truncate q) ];
    })
    f.opens (λ kernel i step s. s)

pub total_carried : (v : View) (carry : Carry) (stream : StreamNo) (kernel : ℕ) → total (on_way stream kernel) (things (record v { carried = v.carried ++ carry ∷ [] })) ≡ total (on_way stream kernel) (things v) + on_way stream kernel (as_call carry)
total_carried v carry stream kernel =
    let a : total (on_way stream kernel) (things (record v { carried = v.carried ++ carry ∷ [] })) ≡ total (on_way stream kernel) ((map as_call v.carried ++ as_call carry ∷ []) ++ v.calls) = ap (total (on_way stream kernel)) (things_carried v carry) in
    let b = total_join (on_way stream kernel) (map as_call v.carried ++ as_call carry ∷ []) v.calls in
    let c = total_last (on_way stream kernel) (map as_call v.carried) (as_call carry) in
    let d = total_join (on_way stream kernel) (map as_call v.carried) v.calls in
    omega (arith, a, b, c, d)

pub streams_carried : (v : View) (carry : Carry) → StreamRest v → Counted (λ stream kernel. on_way stream kernel (as_call carry)) v → ((other : FileCall) → In other v.calls → other.reply ≡ None → (pid number : ℕ) (stream : StreamNo) (mode : Mode) (truncate : Bool) → other.body ≡ form.Opening pid number stream mode truncate → same_stream stream carry.stream ≡ false) → FlatStreams (record v { carried = v.carried ++ carry ∷ [] })
streams_carried v carry f c apart = record {
  rest = rest_carried v carry f apart;
  counts = λ kernel i stream. let a = c kernel i stream in let b = total_carried v carry stream kernel in omega (arith, a, b);
}

-- a carried stream that came
rests_uncarried : (v : View) (carry : Carry) → Rests v (record v { carried = without_carried carry.call v.carried })
rests_uncarried v carry = record {
  calm = record { count = refl; streams = λ kernel i. refl; waiting = λ kernel i step n. n; calls = before_self v };
  opens = refl;
  shared = refl;
  carried = λ other n. (in_filter (λ (c : Carry). not (c.call == carry.call)) other v.carried n).0;
}

pub rest_uncarried : (v : View) (carry : Carry) → StreamRest v → StreamRest (record v { carried = without_carried carry.call v.carried })
rest_uncarried v carry f = rest_rests v (record v { carried = without_carried carry.call v.carried }) f (rests_uncarried v carry)

pub counts_uncarried : (v : View) (carry : Carry) → Apart v → In carry v.carried → Counted none_more v → Counted (λ stream kernel. on_way stream kernel (as_call carry)) (record v { carried = without_carried carry.call v.carried })
counts_uncarried v carry u m f = counts_rest none_more (λ stream kernel. on_way stream kernel (as_call carry)) v (record v { carried = without_carried carry.call v.carried }) f (rests_uncarried v carry) (λ stream kernel.
    let a = total_without (on_way stream kernel) (things v) (as_call carry) u (in_left (as_call carry) (map as_call v.carried) v.calls (map_in as_call carry v.carried m)) in
    let b : total (on_way stream kernel) (things (record v { carried = without_carried carry.call v.carried })) ≡ total (on_way stream kernel) (without_call carry.call (things v)) = ap (total (on_way stream kernel)) (things_uncarried v carry u m) in
    omega (arith, a, b))

-- a stream leaves its kernel: it is installed there no more, and a call takes its grants along
pub streams_leave : (v : View) (kernel : ℕ) (stream : StreamNo) (body : FileBody) → Flat v → FlatStreams v → IsClient (length v.clients) kernel → has_stream stream (client v kernel).streams ≡ true →
    ((one : FileCall) → In one v.calls → one.from ≡ kernel → is_about stream one.body ≡ false) →
    ((step : FileStep) → In step (client v kernel).waiting → works_on stream step ≡ false) →
    ((other : StreamNo) (place : ℕ) → on_way_of other place kernel body None ≡ counted_at (copies stream (client v kernel).streams) ((kernel == place) && same_stream other stream)) →
    ((other : StreamNo) → is_about other body ≡ same_stream other stream) →
    ((pid number : ℕ) (other : StreamNo) (mode : Mode) (truncate : Bool) → body ≡ form.Opening pid number other mode truncate → ⊥) →
    Works (client (set_client v kernel (uninstall (client v kernel) stream)) kernel).streams v.opens (new_call (set_client v kernel (uninstall (client v kernel) stream)) kernel server body None) →
    FlatStreams (begin (set_client v kernel (uninstall (client v kernel) stream)) kernel server body None)
streams_leave v kernel stream body f s i has idle calm way about no_open works = record {
  rest = record {
    new = λ one m n pid number other mode truncate e. elim (in_last one new v.calls m) [ inl k ↦ still one k n pid number other mode truncate e | inr q ↦ absurd (no_open pid number other mode truncate (sym (ap (λ (x : FileCall). x.body) q) ∙ e)) ];
    opens = subst (λ n. OpensShaped n v.opens) (sym (count_set v kernel (uninstall (client v kernel) stream))) s.rest.opens;
    works = λ one m j. elim (in_last one new v.calls m) [ inl k ↦ by_place one k j | inr q ↦ subst (λ (x : FileCall). Works (client u x.from).streams v.opens x) (sym q) works ];
    waits = λ place j step. by_kernel (λ x. In step (client u x).waiting → StepOpen x (client u x).streams v.opens step) kernel place
        (λ m. let old : In step (client v kernel).waiting = subst (λ (x : Client). In step x.waiting) (client_set v kernel (uninstall (client v kernel) stream) i) m in subst (λ xs. StepOpen kernel xs v.opens step) (sym here) (open_less kernel step (calm step old) (s.rest.waits kernel i step old)))
        (λ d m. subst (λ (x : Client). StepOpen place x.streams v.opens step) (sym (there place j d)) (s.rest.waits place (within place j) step (subst (λ (x : Client). In step x.waiting) (there place j d) m)));
  };
  counts = λ place j other. by_kernel (λ x. IsClient (length v.clients) x → open_count v.opens other x ≡ copies other (client u x).streams + total (on_way other x) (things (begin u kernel server body None)) + 0) kernel place
      (λ k. count_here other k)
      (λ d k. let a = s.counts place k other in
      let b : copies other (client u place).streams ≡ copies other (client v place).streams = ap (λ (x : Client). copies other x.streams) (there place j d) in
      let c = grown other place in
      let n : on_way_of other place kernel body None ≡ 0 = way other place ∙ ap (λ t. counted_at (copies stream (client v kernel).streams) (t && same_stream other stream)) (ne_eqb kernel place (λ h. d (sym h))) in
      omega (arith, a, b, c, n)) (within place j);
}
  where
    u : View
    u = set_client v kernel (uninstall (client v kernel) stream)

    new : FileCall
    new = new_call u kernel server body None

    within : (place : ℕ) → IsClient (length u.clients) place → IsClient (length v.clients) place
    within place j = subst (λ n. IsClient n place) (count_set v kernel (uninstall (client v kernel) stream)) j

    here : (client u kernel).streams ≡ filter (λ x. not (same_stream stream x)) (client v kernel).streams
    here = ap (λ (x : Client). x.streams) (client_set v kernel (uninstall (client v kernel) stream) i)

    there : (place : ℕ) → IsClient (length u.clients) place → place ≢ kernel → client u place ≡ client v place
    there place j d = client_other v kernel place (uninstall (client v kernel) stream) i.0 j.0 d

    grown : (other : StreamNo) (place : ℕ) → total (on_way other place) (things (begin u kernel server body None)) ≡ total (on_way other place) (things v) + on_way_of other place kernel body None
    grown other place = ap (total (on_way other place)) (things_begin u kernel server body None) ∙ total_last (on_way other place) (things v) new

    open_less : (place : ℕ) (step : FileStep) → works_on stream step ≡ false → StepOpen place (client v kernel).streams v.opens step → StepOpen place (filter (λ x. not (same_stream stream x)) (client v kernel).streams) v.opens step
    open_less place step away o = record { installed = λ other e. has_fewer other stream (client v kernel).streams (differs other e) ∙ o.installed other e; writing = o.writing }
      where
        differs : (other : StreamNo) → works_on other step ≡ true → same_stream other stream ≡ false
        differs other e = by_test (same_stream other stream) refl
          where
            by_test : (b : Bool) → same_stream other stream ≡ b → b ≡ false
            by_test true q = absurd (cc (away, e, ap (λ x. works_on x step) (same_is other stream q)))
            by_test false q = refl

    way_about : (pid number stamp : ℕ) (other : StreamNo) (way_of : Access) (one : FileCall) → one.body ≡ form.Op pid number stamp other way_of → is_about stream one.body ≡ false → works_on stream (step_of pid number one.from other way_of) ≡ false
    way_about pid number stamp other (access.Read from many) one e k = sym (ap (is_about stream) e) ∙ k
    way_about pid number stamp other (access.Write from bytes) one e k = sym (ap (is_about stream) e) ∙ k
    way_about pid number stamp other (access.Append bytes) one e k = sym (ap (is_about stream) e) ∙ k

    moved_away : (other : StreamNo) (one : FileCall) (place grants : ℕ) → one.body ≡ form.Move other place true grants → is_about stream one.body ≡ false → same_stream other stream ≡ false
    moved_away other one place grants e k = by_test (same_stream other stream) refl
      where
        by_test : (b : Bool) → same_stream other stream ≡ b → b ≡ false
        by_test true q = absurd (cc (k, ap (is_about stream) e, same_by stream other (sym (same_is other stream q))))
        by_test false q = refl

    works_less : (one : FileCall) → is_about stream one.body ≡ false → Works (client v kernel).streams v.opens one → Works (filter (λ x. not (same_stream stream x)) (client v kernel).streams) v.opens one
    works_less one k o = record {
      operates = λ pid number stamp other way_of e. open_less one.from (step_of pid number one.from other way_of) (way_about pid number stamp other way_of one e k) (o.operates pid number stamp other way_of e);
      keeps_none = o.keeps_none;
      keeps_stream = λ n other place grants e. has_fewer other stream (client v kernel).streams (moved_away other one place grants e k) ∙ o.keeps_stream n other place grants e;
      moves_some = o.moves_some;
      closes_some = o.closes_some;
    }

    by_place : (one : FileCall) → In one v.calls → IsClient (length u.clients) one.from → Works (client u one.from).streams v.opens one
    by_place one k j = by_kernel (λ x. one.from ≡ x → Works (client u x).streams v.opens one) kernel one.from
        (λ a. subst (λ xs. Works xs v.opens one) (sym here) (works_less one (idle one k a) (subst (λ x. Works (client v x).streams v.opens one) a (s.rest.works one k (within one.from j)))))
        (λ d a. subst (λ (x : Client). Works x.streams v.opens one) (sym (there one.from j d)) (s.rest.works one k (within one.from j))) refl

    still : (one : FileCall) → In one v.calls → one.reply ≡ None → (pid number : ℕ) (other : StreamNo) (mode : Mode) (truncate : Bool) → one.body ≡ form.Opening pid number other mode truncate → NamedOnce (begin u kernel server body None) one.number other
    still one k n pid number other mode truncate e = let once = s.rest.new one k n pid number other mode truncate e in record {
      shared = once.shared;
      opens = once.opens;
      carried = once.carried;
      calls = λ c m d. elim (in_last c new v.calls m) [ inl a ↦ once.calls c a d | inr q ↦ ap (λ (x : FileCall). is_about other x.body) q ∙ about other ∙ not_new v s.rest one k n pid number other mode truncate e kernel i stream has ];
      installed = λ place j. by_kernel (λ x. has_stream other (client u x).streams ≡ false) kernel place
          (ap (has_stream other) here ∙ has_none_fewer other stream (client v kernel).streams (once.installed kernel i))
          (λ d. ap (λ (x : Client). has_stream other x.streams) (there place j d) ∙ once.installed place (within place j));
      waiting = λ place j. by_kernel (λ x. (step : FileStep) → In step (client u x).waiting → works_on other step ≡ false) kernel place
          (λ step m. once.waiting kernel i step (subst (λ (x : Client). In step x.waiting) (client_set v kernel (uninstall (client v kernel) stream) i) m))
          (λ d step m. once.waiting place (within place j) step (subst (λ (x : Client). In step x.waiting) (there place j d) m));
    }

    count_here : (other : StreamNo) → IsClient (length v.clients) kernel → open_count v.opens other kernel ≡ copies other (client u kernel).streams + total (on_way other kernel) (things (begin u kernel server body None)) + 0
    count_here other k = by_test (same_stream other stream) refl
      where
        by_test : (b : Bool) → same_stream other stream ≡ b → open_count v.opens other kernel ≡ copies other (client u kernel).streams + total (on_way other kernel) (things (begin u kernel server body None)) + 0
        by_test true q =
            let a = s.counts kernel k other in
            let b : copies other (client u kernel).streams ≡ 0 = ap (copies other) here ∙ ap (λ x. copies x (filter (λ y. not (same_stream stream y)) (client v kernel).streams)) (same_is other stream q) ∙ uninstalled_same stream (client v kernel).streams in
            let c = grown other kernel in
            let n : on_way_of other kernel kernel body None ≡ copies other (client v kernel).streams = way other kernel ∙ ap₂ (λ x y. counted_at (copies stream (client v kernel).streams) (x && y)) (eq-eqb kernel kernel refl) q ∙ ap (λ x. copies x (client v kernel).streams) (sym (same_is other stream q)) in
            omega (arith, a, b, c, n)
        by_test false q =
            let a = s.counts kernel k other in
            let b : copies other (client u kernel).streams ≡ copies other (client v kernel).streams = ap (copies other) here ∙ uninstalled_other other stream (client v kernel).streams q in
            let c = grown other kernel in
            let n : on_way_of other kernel kernel body None ≡ 0 = way other kernel ∙ ap₂ (λ x y. counted_at (copies stream (client v kernel).streams) (x && y)) (eq-eqb kernel kernel refl) q in
            omega (arith, a, b, c, n)

-- a request about a stream is answered, and the opens change with it
pub streams_grant : (v w : View) (one : FileCall) (reply : FileBody) (opens : List Open) → Flat v → FlatStreams v → In one v.calls →
    w.clients ≡ v.clients → w.calls ≡ with_call (replied one reply) v.calls → w.carried ≡ v.carried → w.opens ≡ opens →
    ((other : StreamNo) → has_stream other v.shared ≡ false → is_about other one.body ≡ false → has_stream other w.shared ≡ false) →
    ((other : StreamNo) → ((x : Open) → In x v.opens → same_stream other x.stream ≡ false) → is_about other one.body ≡ false → (x : Open) → In x opens → same_stream other x.stream ≡ false) →
    OpensShaped (length v.clients) opens → KeepsOpen v opens →
    ((kernel : ℕ) → IsClient (length v.clients) kernel → (other : StreamNo) → open_count opens other kernel + on_way other kernel one ≡ open_count v.opens other kernel + on_way other kernel (replied one reply)) →
    FlatStreams w
streams_grant v w one reply opens f s m same_clients same_calls same_carried same_opens shared named shaped keeps counts = record {
  rest = rest_by v w s.rest (record {
    count = ap length same_clients;
    streams = λ kernel i. ap (λ cs. (slice_index_or cs (kernel - 1) new_client).streams) same_clients;
    waiting = λ kernel i step n. subst (λ cs. In step (slice_index_or cs (kernel - 1) new_client).waiting) same_clients n;
    calls = λ other n. by_place other (in_with (replied one reply) other v.calls (subst (In other) same_calls n));
  })
      (λ other n e pid number stream mode truncate q. new_there other e pid number stream mode truncate q (in_with (replied one reply) other v.calls (subst (In other) same_calls n)))
      (subst (OpensShaped (length v.clients)) (sym same_opens) shaped) (λ kernel i step o. subst (λ os. StepOpen kernel (client v kernel).streams os step) (sym same_opens) (keeps kernel i step o));
  counts = λ kernel i other.
      let j : IsClient (length v.clients) kernel = subst (λ cs. IsClient (length cs) kernel) same_clients i in
      let a : open_count w.opens other kernel ≡ open_count opens other kernel = ap (λ os. open_count os other kernel) same_opens in
      let b = counts kernel j other in
      let c = s.counts kernel j other in
      let d : copies other (client w kernel).streams ≡ copies other (client v kernel).streams = ap (λ cs. copies other (slice_index_or cs (kernel - 1) new_client).streams) same_clients in
      let e : total (on_way other kernel) (things w) ≡ total (on_way other kernel) (with_call (replied one reply) (things v)) = ap₂ (λ xs ys. total (on_way other kernel) (map as_call xs ++ ys)) same_carried same_calls ∙ ap (total (on_way other kernel)) (things_with v one (replied one reply) f.numbered.differ m refl) in
      let g = total_with (on_way other kernel) (things v) one (replied one reply) f.numbered.differ (call_in_things v one m) refl in
      omega (arith, a, b, c, d, e, g);
}
  where
    by_place : (other : FileCall) → (In other v.calls × (other.number ≢ one.number)) ⊎ (other ≡ replied one reply) → Before v other
    by_place other (inl k) = before_self v other k.0
    by_place other (inr e) = record { before = one; there = m; number_is = ap (λ (x : FileCall). x.number) e; from_is = ap (λ (x : FileCall). x.from) e; body_is = ap (λ (x : FileCall). x.body) e; reply_is = λ r. absurd (cc (r, ap (λ (x : FileCall). x.reply) e)) }

    new_there : (other : FileCall) → other.reply ≡ None → (pid number : ℕ) (stream : StreamNo) (mode : Mode) (truncate : Bool) → other.body ≡ form.Opening pid number stream mode truncate → (In other v.calls × (other.number ≢ one.number)) ⊎ (other ≡ replied one reply) → NamedOnce w other.number stream
    new_there other e pid number stream mode truncate q (inl k) =
        let once = s.rest.new other k.0 e pid number stream mode truncate q in
        let apart : is_about stream one.body ≡ false = once.calls one m (λ h. k.1 (sym h)) in
        record {
          shared = shared stream once.shared apart;
          opens = λ x n. named stream once.opens apart x (subst (In x) same_opens n);
          calls = λ x n d. called x d once.calls apart (in_with (replied one reply) x v.calls (subst (In x) same_calls n));
          carried = λ x n. once.carried x (subst (In x) same_carried n);
          installed = λ kernel i. ap (λ cs. has_stream stream (slice_index_or cs (kernel - 1) new_client).streams) same_clients ∙ once.installed kernel (subst (λ cs. IsClient (length cs) kernel) same_clients i);
          waiting = λ kernel i step n. once.waiting kernel (subst (λ cs. IsClient (length cs) kernel) same_clients i) step (subst (λ cs. In step (slice_index_or cs (kernel - 1) new_client).waiting) same_clients n);
        }
      where
        called : (x : FileCall) → x.number ≢ other.number → ((y : FileCall) → In y v.calls → y.number ≢ other.number → is_about stream y.body ≡ false) → is_about stream one.body ≡ false → (In x v.calls × (x.number ≢ one.number)) ⊎ (x ≡ replied one reply) → is_about stream x.body ≡ false
        called x d once apart (inl a) = once x a.0 d
        called x d once apart (inr a) = ap (λ (y : FileCall). is_about stream y.body) a ∙ apart
    new_there other e pid number stream mode truncate q (inr k) = absurd (cc (e, ap (λ (x : FileCall). x.reply) k))
