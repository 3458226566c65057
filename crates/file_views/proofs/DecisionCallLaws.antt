-- The fourth layer of soundness where callbacks go out and are answered.
use Rattle.std.proofs.Common.{◌≡◌, ◌≢◌, ◌≤◌, ◌<◌, ◌⊎◌, ℕ, zero, suc, ◌+◌, ◌-◌, ◌==◌, Bool, true, false, cond, not, ◌&&◌, List, [], ◌∷◌, ◌++◌, length, filter, None, is_none, refl, sym, ap, ◌∙◌, subst, inl, inr, arith, length-set, append-nil, eq-eqb}
use Rattle.std.specs.List.{list_any}
use Rattle.std.proofs.lemmas.Bool.{and_parts}
use Rattle.std.proofs.lemmas.Bool.Decides.{eqb_tells}
use Rattle.std.proofs.lemmas.List.{set-get_or}
use Rattle.sprite_ids.specs.declared.CacheMode.TheVariants as cache
use Rattle.sprite_ids.specs.declared.CallKind.{CallKind}
use Rattle.sprite_ids.specs.declared.CallKind.TheVariants.{Recall, Stop}
use Rattle.file_views.specs.declared.body.FileBody.{FileBody}
use Rattle.file_views.specs.declared.body.FileBody.TheVariants as form
use Rattle.file_views.specs.declared.call.FileCall.{FileCall}
use Rattle.file_views.specs.declared.view.View.{View}
use Rattle.file_views.specs.Setting.{Setting}
use Rattle.file_views.specs.Contents.{numbers_from, put_block}
use Rattle.file_views.specs.declared.opens.Open.{Open}
use Rattle.file_views.specs.Streams.{same_stream, has_stream}
use Rattle.file_views.specs.Clients.{is_on}
use Rattle.file_views.specs.Views.{server, kernels, mode_given, current_stamp, is_holder, is_callback, busy, waits, waiting_calls, without_call, new_call, answer, to_the_end, last_stamp}
use Rattle.file_views.specs.Grants.{asks, truncates, receiver, uncached_after, is_called, kind_of_calls, called_kernels, stamped, mode_called, call_out, call_back, settle, told, deciding, decide}
use Rattle.file_views.specs.Serving.{close, op_reply, bytes_after, block_of, refuse_old, serve_body, serve, serve_all, request_comes, resume, resumed}
use Rattle.file_views.specs.Here.{In, IsClient}
use Rattle.file_views.specs.SoundShapes.{Ends}
use Rattle.file_views.proofs.MemberLaws.{in_left, in_last, last_in, in_filter, filter_in, in_without, without_in, same_call}
use Rattle.file_views.proofs.EffectLaws.{filter_last}
use Rattle.file_views.proofs.ClientLaws.{choose, choose_by}
use Rattle.file_views.proofs.CountLaws.{or_left, or_is, neither}
use Rattle.file_views.proofs.ShapeLaws.{Flat}
use Rattle.file_views.proofs.ShapeStepLaws.{flat_told, flat_serve, flat_settle, flat_taken, calls_apart, among_clients}
use Rattle.file_views.proofs.StampChangeLaws.{NoCall}
use Rattle.file_views.proofs.StampServeLaws.{idle}
use Rattle.file_views.proofs.DecisionLaws.{CallIn, busy_call, busy_quiet, Asking, Queues, Ruled, FlatDecisions, Holds, holds_server, ruled_holds, makes_uncached, back_self, asking_more, waiting_without}
use Rattle.file_views.proofs.DecisionServeLaws.{mode_at, Served, first_waits, served_answer, ruled_close, served_settle}

-- what callbacks that go out leave
pub record Outward (v w : View) : Type 0 where
  pub count : length w.clients ≡ length v.clients
  pub uncached : w.uncached ≡ v.uncached
  pub opens : w.opens ≡ v.opens
  pub shared : w.shared ≡ v.shared
  pub waiting : waiting_calls w ≡ waiting_calls v

abbrev pub called_new : View → CallKind → ℕ → FileCall
called_new v kind kernel = new_call (stamped v kind kernel) server kernel (form.Callback (last_stamp v + 1) kind) None

pub outward : (called : List ℕ) (kind : CallKind) (v : View) → Outward v (call_back called kind v)
outward [] kind v = record { count = refl; uncached = refl; opens = refl; shared = refl; waiting = refl }
outward (kernel ∷ rest) kind v =
    let r : Outward (call_out v kind kernel) (call_back rest kind (call_out v kind kernel)) = outward rest kind (call_out v kind kernel) in
    record { count = r.count; uncached = r.uncached; opens = r.opens; shared = r.shared; waiting = r.waiting ∙ filter_last waits v.calls (called_new v kind kernel) false refl ∙ append-nil (waiting_calls v) }

-- a callback that went out
pub record Called (called : List ℕ) (kind : CallKind) (one : FileCall) : Type 0 where
  pub kernel : ℕ
  pub there : In kernel called
  pub to_is : one.to ≡ kernel
  pub stamp : ℕ
  pub is_call : one.body ≡ form.Callback stamp kind

called_later : (kernel : ℕ) (rest : List ℕ) (kind : CallKind) (one : FileCall) → Called rest kind one → Called (kernel ∷ rest) kind one
called_later kernel rest kind one c = record { kernel = c.kernel; there = inr c.there; to_is = c.to_is; stamp = c.stamp; is_call = c.is_call }

pub called_in : (called : List ℕ) (kind : CallKind) (v : View) (one : FileCall) → In one (call_back called kind v).calls → In one v.calls ⊎ Called called kind one
called_in [] kind v one m = inl m
called_in (kernel ∷ rest) kind v one m = elim (called_in rest kind (call_out v kind kernel) one m) [
  | inl n ↦ elim (in_last one (called_new v kind kernel) v.calls n) [ inl j ↦ inl j | inr q ↦ inr (record { kernel = kernel; there = inl refl; to_is = ap (λ (x : FileCall). x.to) q; stamp = last_stamp v + 1; is_call = ap (λ (x : FileCall). x.body) q }) ]
  | inr c ↦ inr (called_later kernel rest kind one c)
]

pub call_stays : (called : List ℕ) (kind : CallKind) (v : View) → CallIn v.calls → CallIn (call_back called kind v).calls
call_stays [] kind v c = c
call_stays (kernel ∷ rest) kind v c = call_stays rest kind (call_out v kind kernel) (record { call = c.call; there = in_left c.call v.calls _ c.there; is_call = c.is_call })

pub call_goes : (kernel : ℕ) (rest : List ℕ) (kind : CallKind) (v : View) → CallIn (call_back (kernel ∷ rest) kind v).calls
call_goes kernel rest kind v = call_stays rest kind (call_out v kind kernel) (record { call = called_new v kind kernel; there = last_in (called_new v kind kernel) v.calls; is_call = refl })

-- the modes given after recalls and after stops
pub recall_modes : (called : List ℕ) (v : View) → (call_back called Recall v).modes ≡ v.modes
recall_modes [] v = refl
recall_modes (kernel ∷ rest) v = recall_modes rest (call_out v Recall kernel) ∙ set-get_or v.modes (kernel - 1) cache.None

pub stop_modes : (called : List ℕ) (v : View) (other : ℕ) → ((kernel : ℕ) → In kernel called → IsClient (length v.modes) kernel) → (is_on (mode_given v other) ≡ false) ⊎ In other called → is_on (mode_given (call_back called Stop v) other) ≡ false
stop_modes [] v other i (inl e) = e
stop_modes [] v other i (inr m) = absurd m
stop_modes (kernel ∷ rest) v other i h =
    stop_modes rest (call_out v Stop kernel) other (λ k m. subst (λ n. IsClient n k) (sym (length-set v.modes (kernel - 1) _)) (i k (inr m)))
    (by_place h (mode_at v.modes kernel (mode_called (mode_given v kernel) Stop) other (within (i kernel (inl refl)))))
  where
    within : IsClient (length v.modes) kernel → kernel - 1 < length v.modes
    within j = let low = j.0 in let high = j.1 in omega (arith, low, high)

    by_place : (is_on (mode_given v other) ≡ false) ⊎ In other (kernel ∷ rest) → ((other - 1 ≡ kernel - 1) × (mode_given (call_out v Stop kernel) other ≡ cache.Off)) ⊎ ((other - 1 ≢ kernel - 1) × (mode_given (call_out v Stop kernel) other ≡ mode_given v other)) → (is_on (mode_given (call_out v Stop kernel) other) ≡ false) ⊎ In other rest
    by_place h2 (inl a) = inl (ap is_on a.1)
    by_place (inl e) (inr b) = inl (ap is_on b.1 ∙ e)
    by_place (inr (inl q)) (inr b) = absurd (b.0 (ap (λ p. p - 1) q))
    by_place (inr (inr m)) (inr b) = inr m

-- each client is one of the kernels
numbers_in : (first count number : ℕ) → first ≤ number → number < first + count → In number (numbers_from first count)
numbers_in first zero number low high = absurd (omega (arith, low, high))
numbers_in first (suc count) number low high = elim (eqb_tells number first) [ inl a ↦ inl a.1 | inr b ↦ inr (numbers_in (first + 1) count number (let d = b.1 in omega (arith, low, d)) (omega (arith, high))) ]

pub client_kernel : (v : View) (kernel : ℕ) → IsClient (length v.clients) kernel → In kernel (kernels v)
client_kernel v kernel i = numbers_in 1 (length v.clients) kernel i.0 (let h = i.1 in omega (arith, h))

-- it is known whether the file is uncached, and nobody is called back
pub told_is : (z : Setting) (v : View) (one : FileCall) (b : Bool) → uncached_after z v one ≡ b → b ≡ false → uncached_after z (told v b) one ≡ false
told_is z v one b e u = ap (λ c. makes_uncached z c v.shared v.opens one) u ∙ (neither v.uncached (makes_uncached z false v.shared v.opens one) (e ∙ u)).1

pub ruled_told : (z : Setting) (v : View) (one : FileCall) (b : Bool) → uncached_after z v one ≡ b → [] ≡ filter (is_called b v one) (kernels v) → Ruled v → Ruled (told v b)
ruled_told z v one b e none r = record {
  shared = record { uncached = λ s k. sym e ∙ or_left v.uncached (makes_uncached z false v.shared v.opens one) (r.shared.uncached s k); stays = r.shared.stays };
  off = λ kernel i u. by_test kernel i u (is_on (mode_given v kernel)) refl;
  on = λ kernel i u x m k. r.on kernel i (neither v.uncached (makes_uncached z false v.shared v.opens one) (e ∙ u)).0 x m k;
}
  where
    by_test : (kernel : ℕ) → IsClient (length v.clients) kernel → b ≡ true → (on : Bool) → is_on (mode_given v kernel) ≡ on → on ≡ false
    by_test kernel i u true h = absurd (subst (In kernel) (sym none) (filter_in (is_called b v one) kernel (kernels v) (client_kernel v kernel i) (ap (λ c. is_called c v one kernel) u ∙ or_left (is_on (mode_given v kernel)) _ h)))
    by_test kernel i u false h = refl

-- or somebody is
ruled_called : (z : Setting) (v : View) (one : FileCall) (b : Bool) → uncached_after z v one ≡ b → (called : List ℕ) → called ≡ filter (is_called b v one) (kernels v) → Flat v → Ruled v → Ruled (call_back called (kind_of_calls b) (told v b))
ruled_called z v one true e called k f r =
    let o : Outward (told v true) (call_back called Stop (told v true)) = outward called Stop (told v true) in
    let w : View = call_back called Stop (told v true) in
    record {
      shared = record {
        uncached = λ s c. o.uncached;
        stays = λ s c. subst (λ os. list_any (λ (x : Open). same_stream s x.stream) os ≡ true) (sym o.opens) (r.shared.stays s (subst (λ ss. has_stream s ss ≡ true) o.shared c));
      };
      off = λ kernel i u. stop_modes called (told v true) kernel (λ c m. subst (λ n. IsClient n c) (sym f.items.mode_each) (among_clients v c (in_filter (is_called true v one) c (kernels v) (subst (In c) k m)).0)) (off_or_called kernel (subst (λ n. IsClient n kernel) o.count i) (is_on (mode_given v kernel)) refl);
      on = λ kernel i u x m q. absurd (cc (u, o.uncached));
    }
  where
    off_or_called : (kernel : ℕ) → IsClient (length v.clients) kernel → (on : Bool) → is_on (mode_given v kernel) ≡ on → (is_on (mode_given v kernel) ≡ false) ⊎ In kernel called
    off_or_called kernel i true h = inr (subst (In kernel) (sym k) (filter_in (is_called true v one) kernel (kernels v) (client_kernel v kernel i) (or_left (is_on (mode_given v kernel)) _ h)))
    off_or_called kernel i false h = inl h
ruled_called z v one false e called k f r =
    let o : Outward (told v false) (call_back called Recall (told v false)) = outward called Recall (told v false) in
    ruled_holds v (call_back called Recall (told v false)) (record { count = o.count; uncached = o.uncached ∙ sym (neither v.uncached (makes_uncached z false v.shared v.opens one) e).0; opens = o.opens; shared = o.shared; modes = recall_modes called (told v false) }) r

recalled_kind : (b : Bool) (stamp other : ℕ) → form.Callback stamp (kind_of_calls b) ≡ form.Callback other Recall → b ≡ false
recalled_kind true stamp other e = absurd (cc (e))
recalled_kind false stamp other e = refl

spared_called : (v : View) (one : FileCall) (b : Bool) (kernel : ℕ) → b ≡ false → is_called b v one kernel ≡ true → receiver one ≡ kernel → truncates one.body ≡ true
spared_called v one true kernel e c r = absurd (cc (e))
spared_called v one false kernel e c r = elim (or_is (truncates one.body) (not (receiver one == kernel)) (and_parts (is_holder v kernel) _ c).1) [ inl a ↦ a | inr q ↦ absurd (cc (q, eq-eqb (receiver one) kernel r)) ]

decided_by : (z : Setting) (v : View) (one : FileCall) (rest : List FileCall) (b : Bool) → uncached_after z v one ≡ b → (called : List ℕ) → called ≡ filter (is_called b v one) (kernels v) → Flat v → NoCall v → waiting_calls v ≡ one ∷ rest → asks one.body ≡ true → Ruled v → Served z rest (deciding (told v b) one (kind_of_calls b) called)
decided_by z v one rest b e [] k f n w a r = served_settle z (told v b) one rest (flat_told v b f) n w a (told_is z v one b e) (ruled_told z v one b e k r)
decided_by z v one rest b e (kernel ∷ others) k f n w a r =
    let o : Outward (told v b) (call_back (kernel ∷ others) (kind_of_calls b) (told v b)) = outward (kernel ∷ others) (kind_of_calls b) (told v b) in
    record {
      ruled = ruled_called z v one b e (kernel ∷ others) k f r;
      queues = inr (
        call_goes kernel others (kind_of_calls b) (told v b),
        record {
          first = one;
          rest = rest;
          waiting = o.waiting ∙ w;
          asks_it = a;
          told = λ u. same_uncached o ∙ told_is z v one b e (sym o.uncached ∙ u);
          spared = λ other m stamp q t. elim (called_in (kernel ∷ others) (kind_of_calls b) (told v b) other m) [
            | inl j ↦ absurd (cc (n other j, ap is_callback q))
            | inr c ↦ spared_called v one b c.kernel (recalled_kind b c.stamp stamp (sym c.is_call ∙ q)) (in_filter (is_called b v one) c.kernel (kernels v) (subst (In c.kernel) k c.there)).1 (sym t ∙ c.to_is)
          ];
        },
      );
    }
  where
    same_uncached : Outward (told v b) (call_back (kernel ∷ others) (kind_of_calls b) (told v b)) → uncached_after z (call_back (kernel ∷ others) (kind_of_calls b) (told v b)) one ≡ uncached_after z (told v b) one
    same_uncached o =
        let x : View = call_back (kernel ∷ others) (kind_of_calls b) (told v b) in
        ap (λ u. makes_uncached z u x.shared x.opens one) o.uncached ∙ ap (λ s. makes_uncached z b s x.opens one) o.shared ∙ ap (λ p. makes_uncached z b v.shared p one) o.opens

served_decide : (z : Setting) (v : View) (one : FileCall) (rest : List FileCall) → Flat v → NoCall v → waiting_calls v ≡ one ∷ rest → asks one.body ≡ true → Ruled v → Served z rest (decide z v one)
served_decide z v one rest f n w a r = decided_by z v one rest (uncached_after z v one) refl (called_kernels z v one) refl f n w a r

-- the first that waits is taken up
ruled_answer : (v : View) (one : FileCall) (bytes : List ℕ) (reply : FileBody) → Ruled v → Ruled (answer (record v { bytes = bytes }) one reply)
ruled_answer v one bytes reply r = ruled_holds v (answer (record v { bytes = bytes }) one reply) (holds_server v (answer (record v { bytes = bytes }) one reply) refl refl refl refl refl) r

served_bytes : (z : Setting) (v : View) (one : FileCall) (bytes : List ℕ) (reply : FileBody) (rest : List FileCall) → Flat v → NoCall v → waiting_calls v ≡ one ∷ rest → Ruled v → Served z rest (answer (record v { bytes = bytes }) one reply)
served_bytes z v one bytes reply rest f n w r = served_answer z v (answer (record v { bytes = bytes }) one reply) one reply rest f n w refl (ruled_answer v one bytes reply r)

served_body : (z : Setting) (v : View) (one : FileCall) (rest : List FileCall) (body : FileBody) → one.body ≡ body → Flat v → NoCall v → waiting_calls v ≡ one ∷ rest → Ruled v → Served z rest (serve_body z v one body)
served_body z v one rest (form.Opening pid number stream mode truncate) e f n w r = served_decide z v one rest f n w (ap asks e) r
served_body z v one rest (form.Move stream place kept grants) e f n w r = served_decide z v one rest f n w (ap asks e) r
served_body z v one rest (form.Close stream grants) e f n w r = served_answer z v (close v one stream grants) one form.Done rest f n w refl (ruled_close v one stream grants r)
served_body z v one rest (form.Fetch stamp block) e f n w r = choose (Served z rest) (stamp == current_stamp v one.from) (answer v one (form.Block stamp (block_of z v.bytes block))) (refuse_old v one) (served_bytes z v one v.bytes _ rest f n w r) (served_bytes z v one v.bytes _ rest f n w r)
served_body z v one rest (form.WriteBack stamp block size piece) e f n w r = choose (Served z rest) (stamp == current_stamp v one.from) _ (refuse_old v one) (served_bytes z v one (put_block z v.bytes block.0 size piece) form.Done rest f n w r) (served_bytes z v one v.bytes _ rest f n w r)
served_body z v one rest (form.Op pid number stamp stream way) e f n w r = choose (Served z rest) (stamp == current_stamp v one.from) _ (refuse_old v one) (served_bytes z v one (bytes_after z v.bytes way) (op_reply z v.bytes way) rest f n w r) (served_bytes z v one v.bytes _ rest f n w r)
served_body z v one rest (form.Callback stamp kind) e f n w r = absurd (cc (n one (first_waits v one rest w), ap is_callback e))
served_body z v one rest body e f n w r = absurd (subst (Ends (length v.clients) one.from one.to) e (f.calls one (first_waits v one rest w)).ends)

pub served : (z : Setting) (v : View) (one : FileCall) (rest : List FileCall) → Flat v → NoCall v → waiting_calls v ≡ one ∷ rest → Ruled v → Served z rest (serve z v one)
served z v one rest f n w r = served_body z v one rest one.body refl f n w r

-- what waits is taken up in order
busy_queue : (z : Setting) (v : View) (waiting : List FileCall) → busy v ≡ true → Queues z waiting v → Queues z [] v
busy_queue z v waiting h (inl a) = absurd (busy_quiet v a.0 h)
busy_queue z v waiting h (inr b) = inr b

pub idle_waiting : (z : Setting) (v : View) (waiting : List FileCall) → busy v ≡ false → Queues z waiting v → waiting_calls v ≡ waiting
idle_waiting z v waiting h (inl a) = a.1
idle_waiting z v waiting h (inr b) = absurd (cc (idle v h b.0.call b.0.there, b.0.is_call))

pub served_all : (z : Setting) (waiting : List FileCall) (v : View) → Flat v → Ruled v → Queues z waiting v → FlatDecisions z (serve_all z waiting v)
served_all z [] v f r q = record { ruled = r; queues = q }
served_all z (one ∷ rest) v f r q = choose_by (FlatDecisions z) (busy v) v (serve_all z rest (serve z v one)) (λ h. record { ruled = r; queues = busy_queue z v (one ∷ rest) h q })
    (λ h.
    let w : waiting_calls v ≡ one ∷ rest = idle_waiting z v (one ∷ rest) h q in
    let s : Served z rest (serve z v one) = served z v one rest f (idle v h) w r in
    served_all z rest (serve z v one) (flat_serve z v one one.body refl f (first_waits v one rest w)) s.ruled s.queues)

-- a request comes
waiting_taken : (v : View) (one : FileCall) → Flat v → In one v.calls → waits one ≡ false → one.reply ≡ None → waiting_calls (to_the_end v one) ≡ waiting_calls v ++ record one { taken = true } ∷ []
waiting_taken v one f m w n =
    filter_last waits (without_call one.number v.calls) (record one { taken = true }) true (ap is_none n)
    ∙ ap (λ xs. xs ++ record one { taken = true } ∷ []) (waiting_without v.calls one (calls_apart v f.numbered.differ) m w)

untaken : (one : FileCall) → one.taken ≡ false → waits one ≡ false
untaken one t = ap (λ b. b && is_none one.reply) t

pub decisions_request : (z : Setting) (v : View) (one : FileCall) → Flat v → FlatDecisions z v → In one v.calls → one.to ≡ server → one.taken ≡ false → one.reply ≡ None → is_callback one.body ≡ false → FlatDecisions z (request_comes z v one)
decisions_request z v one f d m s t n c = choose_by (FlatDecisions z) (busy v) (to_the_end v one) (serve z (to_the_end v one) (record one { taken = true }))
    (λ h. record { ruled = ruled; queues = by_queue h d.queues })
    (λ h. let r : Served z [] (serve z (to_the_end v one) (record one { taken = true })) = served z (to_the_end v one) (record one { taken = true }) [] (flat_taken v one f m s) (none h) (now ∙ ap (λ xs. xs ++ record one { taken = true } ∷ []) (idle_waiting z v [] h d.queues)) ruled in record { ruled = r.ruled; queues = r.queues })
  where
    holds : Holds v (to_the_end v one)
    holds = holds_server v (to_the_end v one) refl refl refl refl refl

    ruled : Ruled (to_the_end v one)
    ruled = ruled_holds v (to_the_end v one) holds d.ruled

    now : waiting_calls (to_the_end v one) ≡ waiting_calls v ++ record one { taken = true } ∷ []
    now = waiting_taken v one f m (untaken one t) n

    none : busy v ≡ false → NoCall (to_the_end v one)
    none h x k = elim (in_last x (record one { taken = true }) _ k) [ inl a ↦ idle v h x (in_without one.number x v.calls a).0 | inr q ↦ ap (λ (y : FileCall). is_callback y.body) q ∙ c ]

    by_queue : busy v ≡ true → Queues z [] v → Queues z [] (to_the_end v one)
    by_queue h (inl a) = absurd (busy_quiet v a.0 h)
    by_queue h (inr b) = inr (record { call = b.0.call; there = in_left b.0.call (without_call one.number v.calls) _ (still b.0); is_call = b.0.is_call }, asking_more z v (to_the_end v one) holds (record one { taken = true } ∷ []) now (λ x k e. elim (in_last x (record one { taken = true }) _ k) [ inl a ↦ back_self v.calls x (in_without one.number x v.calls a).0 | inr q ↦ absurd (cc (c, e, ap (λ (y : FileCall). y.body) q)) ]) b.1)
      where
        still : (k : CallIn v.calls) → In k.call (without_call one.number v.calls)
        still k = without_in one.number k.call v.calls k.there (λ e. let same : k.call ≡ one = same_call v.calls k.call one (calls_apart v f.numbered.differ) k.there m e in cc (c, k.is_call, ap (λ (y : FileCall). y.body) same))

-- an answer to a callback comes
decisions_resume : (z : Setting) (v : View) (one : FileCall) (rest waiting : List FileCall) → waiting ≡ one ∷ rest → Flat v → NoCall v → waiting_calls v ≡ waiting → asks one.body ≡ true → (v.uncached ≡ false → uncached_after z v one ≡ false) → Ruled v → FlatDecisions z (resume z waiting v)
decisions_resume z v one rest waiting e f n w a t r =
    let s : Served z rest (settle v one) = served_settle z v one rest f n (w ∙ e) a t r in
    subst (λ xs. FlatDecisions z (resume z xs v)) (sym e)
    (subst (λ b. FlatDecisions z (cond b (serve_all z rest (settle v one)) (serve_all z (one ∷ rest) v))) (sym a)
    (served_all z rest (settle v one) (flat_settle v one f (first_waits v one rest (w ∙ e)) a) s.ruled s.queues))

pub decisions_resumed : (z : Setting) (v : View) → Flat v → Ruled v → Asking z v → FlatDecisions z (resumed z v)
decisions_resumed z v f r a = choose_by (FlatDecisions z) (busy v) v (resume z (waiting_calls v) v)
    (λ h. record { ruled = r; queues = inr (busy_call v.calls h, a) })
    (λ h. decisions_resume z v a.first a.rest (waiting_calls v) a.waiting f (idle v h) refl a.asks_it a.told r)
