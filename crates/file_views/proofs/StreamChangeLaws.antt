-- The second layer of soundness under the smallest changes of a view.
use Rattle.std.proofs.Common.{◌≡◌, ◌≢◌, ◌⊎◌, ℕ, ◌+◌, ◌-◌, ◌==◌, Bool, true, false, cond, ◌&&◌, List, [], ◌∷◌, ◌++◌, length, map, Option, None, refl, sym, ap, ap₂, ◌∙◌, subst, inl, inr, arith, eq-eqb, ne_eqb, append_assoc, slice_index_or}
use Rattle.sprite_ids.specs.Lists.{total}
use Rattle.sprite_ids.specs.declared.StreamNo.{StreamNo}
use Rattle.sprite_ids.specs.declared.Mode.{Mode}
use Rattle.file_views.specs.declared.body.FileBody.{FileBody}
use Rattle.file_views.specs.declared.body.FileBody.TheVariants as form
use Rattle.file_views.specs.declared.client.Client.{Client}
use Rattle.file_views.specs.declared.call.FileCall.{FileCall}
use Rattle.file_views.specs.declared.step.FileStep.{FileStep}
use Rattle.file_views.specs.declared.view.View.{View}
use Rattle.file_views.specs.Streams.{same_stream, has_stream, one_of, copies, open_count}
use Rattle.file_views.specs.Clients.{new_client, install}
use Rattle.file_views.specs.Views.{client, set_client, without_call, with_call, as_call, things, new_call, begin, replied, answer, remove_call, to_the_end}
use Rattle.file_views.specs.Data.{step_of}
use Rattle.file_views.specs.Possible.{is_about, works_on}
use Rattle.file_views.specs.Here.{In, IsClient}
use Rattle.file_views.specs.SoundStreams.{NamedOnce, NewStreams, OpensShaped, counted_at, on_way_of, on_way}
use Rattle.file_views.proofs.MemberLaws.{in_last, in_without, in_with}
use Rattle.file_views.proofs.EffectLaws.{Apart, by_kernel, count_set, client_set, client_other, things_begin, things_with, things_without, call_in_things}
use Rattle.file_views.proofs.CountLaws.{total_last, total_without, total_with, same_is, copies_last, has_last, has_not_last}
use Rattle.file_views.proofs.ShapeLaws.{Flat}
use Rattle.file_views.proofs.StreamLaws.{StepOpen, Works, StreamRest, Counted, none_more, FlatStreams, Before, Rests, rest_rests, counts_rest, rests}

pub before_self : (v : View) (one : FileCall) → In one v.calls → Before v one
before_self v one m = record { before = one; there = m; number_is = refl; from_is = refl; body_is = refl; reply_is = λ e. e }

-- a client that changes, but for its streams
pub rests_client : (v : View) (kernel : ℕ) (c : Client) → IsClient (length v.clients) kernel → c.streams ≡ (client v kernel).streams → ((step : FileStep) → In step c.waiting → In step (client v kernel).waiting) → Rests v (set_client v kernel c)
rests_client v kernel c i e w = record {
  calm = record {
    count = count_set v kernel c;
    streams = λ other j. by_kernel (λ k. (client (set_client v kernel c) k).streams ≡ (client v k).streams) kernel other (ap (λ (x : Client). x.streams) (client_set v kernel c i) ∙ e) (λ d. ap (λ (x : Client). x.streams) (client_other v kernel other c i.0 j.0 d));
    waiting = λ other j step. by_kernel (λ k. In step (client (set_client v kernel c) k).waiting → In step (client v k).waiting) kernel other (λ m. w step (subst (λ (x : Client). In step x.waiting) (client_set v kernel c i) m)) (λ d m. subst (λ (x : Client). In step x.waiting) (client_other v kernel other c i.0 j.0 d) m);
    calls = before_self v;
  };
  opens = refl;
  shared = refl;
  carried = λ one m. m;
}

pub streams_client : (v : View) (kernel : ℕ) (c : Client) → FlatStreams v → IsClient (length v.clients) kernel → c.streams ≡ (client v kernel).streams → ((step : FileStep) → In step c.waiting → In step (client v kernel).waiting) → FlatStreams (set_client v kernel c)
streams_client v kernel c f i e w = rests v (set_client v kernel c) f (rests_client v kernel c i e w) (λ stream k. refl)

-- the server's own part changes
pub streams_same : (v w : View) → w.clients ≡ v.clients → w.opens ≡ v.opens → w.shared ≡ v.shared → w.calls ≡ v.calls → w.carried ≡ v.carried → FlatStreams v → FlatStreams w
streams_same v w a b c d e f = rests v w f (record {
  calm = record {
    count = ap length a;
    streams = λ kernel i. ap (λ cs. (slice_index_or cs (kernel - 1) new_client).streams) a;
    waiting = λ kernel i step m. subst (λ cs. In step (slice_index_or cs (kernel - 1) new_client).waiting) a m;
    calls = λ one m. before_self v one (subst (In one) d m);
  };
  opens = b;
  shared = c;
  carried = λ one m. subst (In one) e m;
}) (λ stream k. ap₂ (λ xs ys. total (on_way stream k) (map as_call xs ++ ys)) e d)

-- a call is exchanged for itself with a reply
with_before : (v : View) (one : FileCall) (reply : FileBody) → In one v.calls → (other : FileCall) → In other (with_call (replied one reply) v.calls) → Before v other
with_before v one reply m other n = by_place (in_with (replied one reply) other v.calls n)
  where
    by_place : (In other v.calls × (other.number ≢ one.number)) ⊎ (other ≡ replied one reply) → Before v other
    by_place (inl k) = before_self v other k.0
    by_place (inr e) = record { before = one; there = m; number_is = ap (λ (x : FileCall). x.number) e; from_is = ap (λ (x : FileCall). x.from) e; body_is = ap (λ (x : FileCall). x.body) e; reply_is = λ r. absurd (cc (r, ap (λ (x : FileCall). x.reply) e)) }

pub streams_answer : (v : View) (one : FileCall) (reply : FileBody) → Apart v → In one v.calls → ((stream : StreamNo) (kernel : ℕ) → on_way stream kernel (replied one reply) ≡ on_way stream kernel one) → FlatStreams v → FlatStreams (answer v one reply)
streams_answer v one reply u m same f = rests v (answer v one reply) f (record {
  calm = record { count = refl; streams = λ kernel i. refl; waiting = λ kernel i step n. n; calls = with_before v one reply m };
  opens = refl;
  shared = refl;
  carried = λ other n. n;
}) (λ stream kernel. let a : total (on_way stream kernel) (things (answer v one reply)) ≡ total (on_way stream kernel) (with_call (replied one reply) (things v)) = ap (total (on_way stream kernel)) (things_with v one (replied one reply) u m refl) in
    let b = total_with (on_way stream kernel) (things v) one (replied one reply) u (call_in_things v one m) refl in
    let c = same stream kernel in omega (arith, a, b, c))

-- a call is finished
rests_remove : (v : View) (one : FileCall) → Rests v (remove_call v one.number)
rests_remove v one = record {
  calm = record { count = refl; streams = λ kernel i. refl; waiting = λ kernel i step n. n; calls = λ other n. before_self v other (in_without one.number other v.calls n).0 };
  opens = refl;
  shared = refl;
  carried = λ other n. n;
}

total_removed : (v : View) (one : FileCall) → Apart v → In one v.calls → (stream : StreamNo) (kernel : ℕ) → total (on_way stream kernel) (things v) ≡ on_way stream kernel one + total (on_way stream kernel) (things (remove_call v one.number))
total_removed v one u m stream kernel = total_without (on_way stream kernel) (things v) one u (call_in_things v one m) ∙ ap (λ xs. on_way stream kernel one + total (on_way stream kernel) xs) (sym (things_without v one u m))

pub rest_removed : (v : View) (one : FileCall) → StreamRest v → StreamRest (remove_call v one.number)
rest_removed v one f = rest_rests v (remove_call v one.number) f (rests_remove v one)

pub counts_removed : (v : View) (one : FileCall) → Apart v → In one v.calls → Counted none_more v → Counted (λ stream kernel. on_way stream kernel one) (remove_call v one.number)
counts_removed v one u m f = counts_rest none_more (λ stream kernel. on_way stream kernel one) v (remove_call v one.number) f (rests_remove v one) (λ stream kernel. let a = total_removed v one u m stream kernel in omega (arith, a))

pub streams_remove : (v : View) (one : FileCall) → Apart v → In one v.calls → ((stream : StreamNo) (kernel : ℕ) → on_way stream kernel one ≡ 0) → FlatStreams v → FlatStreams (remove_call v one.number)
streams_remove v one u m none f = rests v (remove_call v one.number) f (rests_remove v one) (λ stream kernel. let a = total_removed v one u m stream kernel in let b = none stream kernel in omega (arith, a, b))

-- the server takes a call
pub streams_take : (v : View) (one : FileCall) → Apart v → In one v.calls → FlatStreams v → FlatStreams (to_the_end v one)
streams_take v one u m f = rests v (to_the_end v one) f (record {
  calm = record { count = refl; streams = λ kernel i. refl; waiting = λ kernel i step n. n; calls = λ other n. by_place other (in_last other (record one { taken = true }) (without_call one.number v.calls) n) };
  opens = refl;
  shared = refl;
  carried = λ other n. n;
}) (λ stream kernel.
    let a : total (on_way stream kernel) (things (to_the_end v one)) ≡ total (on_way stream kernel) (things (remove_call v one.number) ++ record one { taken = true } ∷ []) = ap (total (on_way stream kernel)) (sym (append_assoc (map as_call v.carried) (without_call one.number v.calls) (record one { taken = true } ∷ []))) in
    let b = total_last (on_way stream kernel) (things (remove_call v one.number)) (record one { taken = true }) in
    let c = total_removed v one u m stream kernel in omega (arith, a, b, c))
  where
    by_place : (other : FileCall) → In other (without_call one.number v.calls) ⊎ (other ≡ record one { taken = true }) → Before v other
    by_place other (inl k) = before_self v other (in_without one.number other v.calls k).0
    by_place other (inr e) = record { before = one; there = m; number_is = ap (λ (x : FileCall). x.number) e; from_is = ap (λ (x : FileCall). x.from) e; body_is = ap (λ (x : FileCall). x.body) e; reply_is = λ r. sym (ap (λ (x : FileCall). x.reply) e) ∙ r }

-- an installed stream isn't that of an open that waits
pub not_new : (v : View) → StreamRest v → (one : FileCall) → In one v.calls → one.reply ≡ None → (pid number : ℕ) (stream : StreamNo) (mode : Mode) (truncate : Bool) → one.body ≡ form.Opening pid number stream mode truncate → (kernel : ℕ) → IsClient (length v.clients) kernel → (other : StreamNo) → has_stream other (client v kernel).streams ≡ true → same_stream stream other ≡ false
not_new v f one m n pid number stream mode truncate e kernel i other h = by_test (same_stream stream other) refl
  where
    by_test : (b : Bool) → same_stream stream other ≡ b → b ≡ false
    by_test true q = absurd (cc ((f.new one m n pid number stream mode truncate e).installed kernel i, h, ap (λ s. has_stream s (client v kernel).streams) (same_is stream other q)))
    by_test false q = refl

-- a call begins that moves no grant
new_begin : (v : View) (source to : ℕ) (body : FileBody) (dirty : Option ℕ) → Flat v → StreamRest v →
    ((one : FileCall) → In one v.calls → one.reply ≡ None → (pid number : ℕ) (stream : StreamNo) (mode : Mode) (truncate : Bool) → one.body ≡ form.Opening pid number stream mode truncate → is_about stream body ≡ false) →
    ((pid number : ℕ) (stream : StreamNo) (mode : Mode) (truncate : Bool) → body ≡ form.Opening pid number stream mode truncate → NamedOnce v v.next stream) →
    NewStreams (begin v source to body dirty)
new_begin v source to body dirty f r apart fresh one m n pid number stream mode truncate e = by_place (in_last one (new_call v source to body dirty) v.calls m)
  where
    old : (k : In one v.calls) → NamedOnce v one.number stream → NamedOnce (begin v source to body dirty) one.number stream
    old k once = record {
      shared = once.shared;
      opens = once.opens;
      carried = once.carried;
      installed = once.installed;
      waiting = once.waiting;
      calls = λ other j d. elim (in_last other (new_call v source to body dirty) v.calls j) [ inl a ↦ once.calls other a d | inr q ↦ subst (λ (x : FileCall). is_about stream x.body ≡ false) (sym q) (apart one k n pid number stream mode truncate e) ];
    }

    new : (q : one ≡ new_call v source to body dirty) → NamedOnce v v.next stream → NamedOnce (begin v source to body dirty) one.number stream
    new q once = record {
      shared = once.shared;
      opens = once.opens;
      carried = once.carried;
      installed = once.installed;
      waiting = once.waiting;
      calls = λ other j d. elim (in_last other (new_call v source to body dirty) v.calls j) [ inl a ↦ once.calls other a (λ h. let low = f.numbered.under other (call_in_things v other a) in omega (arith, low, h)) | inr k ↦ absurd (d (ap (λ (x : FileCall). x.number) k ∙ sym (ap (λ (x : FileCall). x.number) q))) ];
    }

    by_place : In one v.calls ⊎ (one ≡ new_call v source to body dirty) → NamedOnce (begin v source to body dirty) one.number stream
    by_place (inl k) = old k (r.new one k n pid number stream mode truncate e)
    by_place (inr q) = new q (fresh pid number stream mode truncate (sym (ap (λ (x : FileCall). x.body) q) ∙ e))

pub streams_begin : (v : View) (source to : ℕ) (body : FileBody) (dirty : Option ℕ) → Flat v → FlatStreams v →
    ((stream : StreamNo) (kernel : ℕ) → on_way_of stream kernel source body None ≡ 0) →
    ((one : FileCall) → In one v.calls → one.reply ≡ None → (pid number : ℕ) (stream : StreamNo) (mode : Mode) (truncate : Bool) → one.body ≡ form.Opening pid number stream mode truncate → is_about stream body ≡ false) →
    ((pid number : ℕ) (stream : StreamNo) (mode : Mode) (truncate : Bool) → body ≡ form.Opening pid number stream mode truncate → NamedOnce v v.next stream) →
    (IsClient (length v.clients) source → Works (client v source).streams v.opens (new_call v source to body dirty)) →
    FlatStreams (begin v source to body dirty)
streams_begin v source to body dirty f s none apart fresh works = record {
  rest = record {
    new = new_begin v source to body dirty f s.rest apart fresh;
    opens = s.rest.opens;
    works = λ one m i. by_place one i (in_last one (new_call v source to body dirty) v.calls m);
    waits = s.rest.waits;
  };
  counts = λ kernel i stream.
      let a = s.counts kernel i stream in
      let b : total (on_way stream kernel) (things (begin v source to body dirty)) ≡ total (on_way stream kernel) (things v ++ new_call v source to body dirty ∷ []) = ap (total (on_way stream kernel)) (things_begin v source to body dirty) in
      let c = total_last (on_way stream kernel) (things v) (new_call v source to body dirty) in
      let d = none stream kernel in omega (arith, a, b, c, d);
}
  where
    by_place : (one : FileCall) → IsClient (length v.clients) one.from → In one v.calls ⊎ (one ≡ new_call v source to body dirty) → Works (client v one.from).streams v.opens one
    by_place one i (inl m) = s.rest.works one m i
    by_place one i (inr q) = subst (λ (x : FileCall). Works (client v x.from).streams v.opens x) (sym q) (works (subst (λ (x : FileCall). IsClient (length v.clients) x.from) q i))

-- what waits at a client changes
pub streams_wait : (v : View) (kernel : ℕ) (waiting : List FileStep) → FlatStreams v → IsClient (length v.clients) kernel → ((step : FileStep) → In step waiting → StepOpen kernel (client v kernel).streams v.opens step) → FlatStreams (set_client v kernel (record (client v kernel) { waiting = waiting }))
streams_wait v kernel waiting f i open_each = record {
  rest = record {
    new = λ one m n pid number stream mode truncate e. let once = f.rest.new one m n pid number stream mode truncate e in record {
      shared = once.shared;
      opens = once.opens;
      calls = once.calls;
      carried = once.carried;
      installed = λ other j. ap (has_stream stream) (streams_there other (within other j)) ∙ once.installed other (within other j);
      waiting = λ other j. by_kernel (λ k. (step : FileStep) → In step (client w k).waiting → works_on stream step ≡ false) kernel other
          (λ step k. away stream step (once.installed kernel i) (open_each step (subst (λ (x : Client). In step x.waiting) (client_set v kernel c i) k)))
          (λ d step k. once.waiting other (within other j) step (subst (λ (x : Client). In step x.waiting) (client_other v kernel other c i.0 j.0 d) k));
    };
    opens = subst (λ n. OpensShaped n v.opens) (sym (count_set v kernel c)) f.rest.opens;
    works = λ one m j. subst (λ xs. Works xs v.opens one) (sym (streams_there one.from (within one.from j))) (f.rest.works one m (within one.from j));
    waits = λ other j step. by_kernel (λ k. In step (client w k).waiting → StepOpen k (client w k).streams v.opens step) kernel other
        (λ m. subst (λ (x : Client). StepOpen kernel x.streams v.opens step) (sym (client_set v kernel c i)) (open_each step (subst (λ (x : Client). In step x.waiting) (client_set v kernel c i) m)))
        (λ d m. subst (λ (x : Client). StepOpen other x.streams v.opens step) (sym (client_other v kernel other c i.0 j.0 d)) (f.rest.waits other (within other j) step (subst (λ (x : Client). In step x.waiting) (client_other v kernel other c i.0 j.0 d) m)));
  };
  counts = λ other j stream. f.counts other (within other j) stream ∙ ap (λ xs. copies stream xs + total (on_way stream other) (things v) + 0) (sym (streams_there other (within other j)));
}
  where
    c : Client
    c = record (client v kernel) { waiting = waiting }

    w : View
    w = set_client v kernel c

    within : (other : ℕ) → IsClient (length w.clients) other → IsClient (length v.clients) other
    within other j = subst (λ n. IsClient n other) (count_set v kernel c) j

    streams_there : (other : ℕ) → IsClient (length v.clients) other → (client w other).streams ≡ (client v other).streams
    streams_there other j = by_kernel (λ k. (client w k).streams ≡ (client v k).streams) kernel other (ap (λ (x : Client). x.streams) (client_set v kernel c i)) (λ d. ap (λ (x : Client). x.streams) (client_other v kernel other c i.0 j.0 d))

    away : (stream : StreamNo) (step : FileStep) → has_stream stream (client v kernel).streams ≡ false → StepOpen kernel (client v kernel).streams v.opens step → works_on stream step ≡ false
    away stream step h s = by_test (works_on stream step) refl
      where
        by_test : (b : Bool) → works_on stream step ≡ b → b ≡ false
        by_test true q = absurd (cc (h, s.installed stream q))
        by_test false q = refl

-- a grant that arrived is installed
pub streams_install : (v : View) (kernel : ℕ) (c : Client) (stream : StreamNo) → StreamRest v → Counted (λ other place. counted_at 1 ((kernel == place) && same_stream other stream)) v → IsClient (length v.clients) kernel → c.streams ≡ (client v kernel).streams → c.waiting ≡ (client v kernel).waiting →
    ((one : FileCall) → In one v.calls → one.reply ≡ None → (pid number : ℕ) (other : StreamNo) (mode : Mode) (truncate : Bool) → one.body ≡ form.Opening pid number other mode truncate → same_stream other stream ≡ false) →
    FlatStreams (set_client v kernel (install c stream))
streams_install v kernel c stream f counts i e q apart = record {
  rest = record {
    new = λ one m n pid number other mode truncate k. let once = f.new one m n pid number other mode truncate k in record {
      shared = once.shared;
      opens = once.opens;
      calls = once.calls;
      carried = once.carried;
      installed = λ place j. by_kernel (λ x. has_stream other (client w x).streams ≡ false) kernel place
          (ap (has_stream other) here ∙ has_not_last other stream (client v kernel).streams (once.installed kernel i) (apart one m n pid number other mode truncate k))
          (λ d. ap (λ (x : Client). has_stream other x.streams) (there place j d) ∙ once.installed place (within place j));
      waiting = λ place j. by_kernel (λ x. (step : FileStep) → In step (client w x).waiting → works_on other step ≡ false) kernel place
          (λ step a. once.waiting kernel i step (subst (In step) here_waits a))
          (λ d step a. once.waiting place (within place j) step (subst (λ (x : Client). In step x.waiting) (there place j d) a));
    };
    opens = subst (λ n. OpensShaped n v.opens) (sym (count_set v kernel (install c stream))) f.opens;
    works = λ one m j. by_kernel (λ x. one.from ≡ x → Works (client w x).streams v.opens one) kernel one.from
        (λ a. subst (λ xs. Works xs v.opens one) (sym here) (works_more one (subst (λ k. Works (client v k).streams v.opens one) a (f.works one m (within one.from j)))))
        (λ d a. subst (λ (x : Client). Works x.streams v.opens one) (sym (there one.from j d)) (f.works one m (within one.from j))) refl;
    waits = λ place j step. by_kernel (λ x. In step (client w x).waiting → StepOpen x (client w x).streams v.opens step) kernel place
        (λ m. subst (λ xs. StepOpen kernel xs v.opens step) (sym here) (open_more kernel step (f.waits kernel i step (subst (In step) here_waits m))))
        (λ d m. subst (λ (x : Client). StepOpen place x.streams v.opens step) (sym (there place j d)) (f.waits place (within place j) step (subst (λ (x : Client). In step x.waiting) (there place j d) m)));
  };
  counts = λ place j other. by_kernel (λ x. IsClient (length v.clients) x → open_count v.opens other x ≡ copies other (client w x).streams + total (on_way other x) (things v) + 0) kernel place
      (λ k. let a = counts kernel k other in let b : copies other (client w kernel).streams ≡ copies other (client v kernel).streams + one_of other stream = ap (copies other) here ∙ copies_last other stream (client v kernel).streams in let d = one_counted other in omega (arith, a, b, d))
      (λ d k. let a = counts place k other in let b : copies other (client w place).streams ≡ copies other (client v place).streams = ap (λ (x : Client). copies other x.streams) (there place j d) in let n = none_counted other place d in omega (arith, a, b, n)) (within place j);
}
  where
    w : View
    w = set_client v kernel (install c stream)

    within : (place : ℕ) → IsClient (length w.clients) place → IsClient (length v.clients) place
    within place j = subst (λ n. IsClient n place) (count_set v kernel (install c stream)) j

    here : (client w kernel).streams ≡ (client v kernel).streams ++ stream ∷ []
    here = ap (λ (x : Client). x.streams) (client_set v kernel (install c stream) i) ∙ ap (λ xs. xs ++ stream ∷ []) e

    here_waits : (client w kernel).waiting ≡ (client v kernel).waiting
    here_waits = ap (λ (x : Client). x.waiting) (client_set v kernel (install c stream) i) ∙ q

    there : (place : ℕ) → IsClient (length w.clients) place → place ≢ kernel → client w place ≡ client v place
    there place j d = client_other v kernel place (install c stream) i.0 j.0 d

    open_more : (place : ℕ) (step : FileStep) → StepOpen place (client v kernel).streams v.opens step → StepOpen place ((client v kernel).streams ++ stream ∷ []) v.opens step
    open_more place step s = record { installed = λ other a. has_last other stream (client v kernel).streams (s.installed other a); writing = s.writing }

    works_more : (one : FileCall) → Works (client v kernel).streams v.opens one → Works ((client v kernel).streams ++ stream ∷ []) v.opens one
    works_more one s = record {
      operates = λ pid number stamp other way a. open_more one.from (step_of pid number one.from other way) (s.operates pid number stamp other way a);
      keeps_none = s.keeps_none;
      keeps_stream = λ n other place grants a. has_last other stream (client v kernel).streams (s.keeps_stream n other place grants a);
      moves_some = s.moves_some;
      closes_some = s.closes_some;
    }

    one_counted : (other : StreamNo) → counted_at 1 ((kernel == kernel) && same_stream other stream) ≡ one_of other stream
    one_counted other = ap (λ a. counted_at 1 (a && same_stream other stream)) (eq-eqb kernel kernel refl) ∙ as_one (same_stream other stream)
      where
        as_one : (b : Bool) → counted_at 1 b ≡ cond b 1 0
        as_one true = refl
        as_one false = refl

    none_counted : (other : StreamNo) (place : ℕ) → place ≢ kernel → counted_at 1 ((kernel == place) && same_stream other stream) ≡ 0
    none_counted other place d = ap (λ a. counted_at 1 (a && same_stream other stream)) (ne_eqb kernel place (λ h. d (sym h)))
