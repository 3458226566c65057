-- The sixth layer of soundness while the server takes up requests and answers to callbacks.
use Rattle.std.proofs.Common.{◌≡◌, ◌≢◌, ◌≤◌, ◌<◌, ℕ, ◌==◌, Bool, true, false, cond, not, List, [], ◌∷◌, ◌++◌, length, map, filter, Option, Some, None, refl, sym, ap, ap₂, ◌∙◌, subst, inl, inr, arith, eqb-true, eq-eqb, append_assoc}
use Rattle.std.specs.List.{list_any}
use Rattle.std.proofs.lemmas.Bool.{and_parts, and_from, and_cases}
use Rattle.std.proofs.lemmas.Bool.Decides.{eqb_tells}
use Rattle.sprite_ids.specs.declared.StreamNo.{StreamNo}
use Rattle.sprite_ids.specs.declared.CacheMode.TheVariants as cache
use Rattle.sprite_ids.specs.declared.CallKind.{CallKind}
use Rattle.sprite_ids.specs.declared.CallKind.TheVariants.{Recall, Stop}
use Rattle.file_views.specs.declared.grant.FileGrant.{FileGrant}
use Rattle.file_views.specs.declared.body.FileBody.{FileBody}
use Rattle.file_views.specs.declared.body.FileBody.TheVariants as form
use Rattle.file_views.specs.declared.opens.Open.{Open}
use Rattle.file_views.specs.declared.call.FileCall.{FileCall}
use Rattle.file_views.specs.declared.view.View.{View}
use Rattle.file_views.specs.Setting.{Setting}
use Rattle.file_views.specs.Contents.{put_block}
use Rattle.file_views.specs.Streams.{take_off, is_spread, is_write_shared, is_any, writes}
use Rattle.file_views.specs.Clients.{is_on}
use Rattle.file_views.specs.Views.{server, client, current_stamp, mode_given, is_kernel, is_holder, is_callback, as_call, things, with_call, without_call, replied, answer, remove_call, to_the_end, busy, waiting_calls}
use Rattle.file_views.specs.Grants.{asks, truncates, receiver, uncached_after, settle, current_grant}
use Rattle.file_views.specs.Serving.{close, op_reply, bytes_after, block_of, serve_body, serve, serve_all, request_comes, holder_answered, resume, resumed}
use Rattle.file_views.specs.Settled.{arrival}
use Rattle.file_views.specs.Here.{In, IsClient, Arrives, asked_stream}
use Rattle.file_views.specs.SoundHolders.{Active, LocalHolders}
use Rattle.file_views.proofs.MemberLaws.{in_left, in_last, last_in, in_filter, filter_in, in_without, without_in}
use Rattle.file_views.proofs.EffectLaws.{Apart, by_kernel, things_with, things_without, call_in_things, same_thing}
use Rattle.file_views.proofs.ClientLaws.{choose, choose_by}
use Rattle.file_views.proofs.CountLaws.{bool_cases}
use Rattle.file_views.proofs.OpenLaws.{Left, left_in}
use Rattle.file_views.proofs.ShapeLaws.{Flat}
use Rattle.file_views.proofs.ShapeStepLaws.{flat_serve, flat_taken}
use Rattle.file_views.proofs.StreamChangeLaws.{streams_take}
use Rattle.file_views.proofs.StreamServeLaws.{Both, both_settle, streams_close}
use Rattle.file_views.proofs.StampLaws.{own_stamp, FlatStamps, only_call, reply_of_arrival}
use Rattle.file_views.proofs.StampChangeLaws.{NoCall, stamps_take}
use Rattle.file_views.proofs.StampServeLaws.{two_settle, idle, op_arrival}
use Rattle.file_views.proofs.DecisionLaws.{CallIn, busy_call, Asking, Ruled, holds_server, ruled_holds}
use Rattle.file_views.proofs.DecisionServeLaws.{Found, any_found, found_any, Served, first_waits, served_settle}
use Rattle.file_views.proofs.DecisionCallLaws.{idle_waiting}
use Rattle.file_views.proofs.ModeLaws.{FlatModes, under_of}
use Rattle.file_views.proofs.ModeGrantLaws.{modes_settle}
use Rattle.file_views.proofs.ModeServeLaws.{OpenFor, arrival_there, Stage, stage_serve, unreplied}
use Rattle.file_views.proofs.ModeChangeLaws.{modes_taken}
use Rattle.file_views.proofs.ModeStepLaws.{brings_none}
use Rattle.file_views.proofs.HolderLaws.{Ways, SameOpen, holders_ways, holders_opened, seat, FlatHolders}
use Rattle.file_views.proofs.HolderTakeLaws.{holders_unheld}
use Rattle.file_views.proofs.HolderChangeLaws.{ways_answer, ways_reads, ways_without, holders_calls}
use Rattle.file_views.proofs.HolderSettleLaws.{left_of, left_was, adds, Grantable, holder_is, is_holder_by, not_holder, alone_by, holders_settle}
use Rattle.file_views.proofs.HolderCallLaws.{left_shares, Deciding, holders_decide}

-- a request is answered without a grant of a stream
holders_answer : (v : View) (bytes : List ℕ) (one : FileCall) (reply : FileBody) → Flat v → FlatHolders v → In one v.calls → one.reply ≡ None → is_callback one.body ≡ false → arrival (Some reply) ≡ None → FlatHolders (answer (record v { bytes = bytes }) one reply)
holders_answer v bytes one reply f p m n c r = holders_calls v bytes v.next (with_call (replied one reply) v.calls) v.carried v.uncached p (λ e. e)
    (λ kernel i. subst (Ways kernel (own_stamp v kernel) (is_holder v kernel) (things v)) (sym (things_with v one (replied one reply) f.numbered.differ m refl)) (ways_answer v kernel (own_stamp v kernel) (is_holder v kernel) one reply f.numbered.differ (call_in_things v one m) n r (λ b e. cc (b, c))))

-- a close
fewer_shared : (opens others : List Open) → ((x : Open) → In x others → Left x opens) → is_write_shared opens ≡ false → is_write_shared others ≡ false
fewer_shared opens others f e = elim (bool_cases (is_write_shared others)) [ inl h ↦ absurd (cc (e, more h)) | inr h ↦ h ]
  where
    more : is_write_shared others ≡ true → is_write_shared opens ≡ true
    more h =
        let p = and_parts (is_spread others) _ h in
        let x : Found (λ (y : Open). list_any (λ (z : Open). not (z.kernel == y.kernel)) others) others = any_found _ others p.0 in
        let y : Found (λ (z : Open). not (z.kernel == x.item.kernel)) others = any_found _ others x.holds in
        let w : Found (λ (z : Open). writes z.mode) others = any_found _ others p.1 in
        let a : Left x.item opens = f x.item x.there in
        let b : Left y.item opens = f y.item y.there in
        let c : Left w.item opens = f w.item w.there in
        and_from (is_spread opens) _
        (found_any (λ (z : Open). list_any (λ (t : Open). not (t.kernel == z.kernel)) opens) opens a.before a.there (found_any (λ (t : Open). not (t.kernel == a.before.kernel)) opens b.before b.there (ap₂ (λ m n. not (m == n)) (sym b.kernel_is) (sym a.kernel_is) ∙ y.holds)))
        (found_any (λ (z : Open). writes z.mode) opens c.before c.there (ap writes (sym c.mode_is) ∙ w.holds))

none_shared : (opens : List Open) → is_any opens ≡ false → is_write_shared opens ≡ false
none_shared [] e = refl
none_shared (x ∷ xs) e = absurd (cc (e))

holders_close : (v : View) (one : FileCall) (stream : StreamNo) (grants : ℕ) → one.body ≡ form.Close stream grants → Both v → Both (close v one stream grants) → FlatHolders v → In one v.calls → one.reply ≡ None → FlatHolders (close v one stream grants)
holders_close v one stream grants e b c p m n = record {
  is_client = p.is_client;
  opens = λ holder h x k. let l : Left x v.opens = left_in v.opens stream one.from grants x k in l.kernel_is ∙ p.opens holder h l.before l.there;
  stale = p.stale;
  exclusive = λ u. elim (and_cases v.uncached (is_any opens) u) [ inl a ↦ fewer_shared v.opens opens (λ x k. left_in v.opens stream one.from grants x k) (p.exclusive a) | inr a ↦ none_shared opens a ];
  each = λ kernel i. holders_opened (seat (answer v one form.Done) kernel) (filter (λ (x : Open). x.kernel == kernel) opens) ((holders_answer v v.bytes one form.Done b.flat p m n (ap is_callback e) refl).each kernel i)
      (λ x k. let q = in_filter (λ (y : Open). y.kernel == kernel) x opens k in let l : Left x v.opens = left_in v.opens stream one.from grants x q.0 in record { other = l.before; there = filter_in (λ (y : Open). y.kernel == kernel) l.before v.opens l.there (ap (λ z. z == kernel) (sym l.kernel_is) ∙ q.1); stream_is = l.stream_is; mode_is = l.mode_is })
      (λ h x k call j g a s. still kernel x k (arrival_there (close v one stream grants) c.flat c.streams call j kernel g a) s);
}
  where
    opens : List Open
    opens = take_off v.opens stream one.from grants

    still : (kernel : ℕ) (x : Open) → In x (filter (λ (y : Open). y.kernel == kernel) v.opens) → {call : FileCall} → OpenFor (close v one stream grants) kernel call → asked_stream call.body ≡ Some x.stream → SameOpen x (filter (λ (y : Open). y.kernel == kernel) opens)
    still kernel x k {call} o s =
        let same : o.stream ≡ x.stream = cc (o.asked, s) in
        let l : Left o.at.one v.opens = left_in v.opens stream one.from grants o.at.one o.at.there in
        record { other = o.at.one; there = filter_in (λ (y : Open). y.kernel == kernel) o.at.one opens o.at.there (eq-eqb o.at.one.kernel kernel o.at.kernel_is); stream_is = sym same ∙ o.at.stream_is; mode_is = b.streams.rest.opens.modes x l.before (in_filter (λ (y : Open). y.kernel == kernel) x v.opens k).0 l.there (sym same ∙ o.at.stream_is ∙ l.stream_is) ∙ sym l.mode_is }

-- the layers on which a request leans
pub record Serving (v : View) (one : FileCall) : Type 0 where
  pub both : Both v
  pub stamps : FlatStamps v
  pub ruled : Ruled v
  pub modes : FlatModes v
  pub holders : FlatHolders v
  pub there : In one v.calls
  pub unanswered : one.reply ≡ None
  pub none : NoCall v

pub deciding_of : (v : View) (one : FileCall) → Serving v one → asks one.body ≡ true → Deciding v one
deciding_of v one t a = record { both = t.both; stamps = t.stamps; ruled = t.ruled; modes = t.modes; holders = t.holders; there = t.there; unanswered = t.unanswered; none = t.none; asks_it = a }

-- a request is taken up
pub holders_serve : (z : Setting) (v : View) (one : FileCall) (body : FileBody) → one.body ≡ body → Serving v one → FlatHolders (serve_body z v one body)
holders_serve z v one (form.Opening pid number stream mode truncate) e t = holders_decide z v one (deciding_of v one t (ap asks e))
holders_serve z v one (form.Move stream place kept grants) e t = holders_decide z v one (deciding_of v one t (ap asks e))
holders_serve z v one (form.Close stream grants) e t = holders_close v one stream grants e t.both (record { flat = flat_serve z v one (form.Close stream grants) e t.both.flat t.there; streams = streams_close v one stream grants e t.unanswered t.both t.there }) t.holders t.there t.unanswered
holders_serve z v one (form.Fetch stamp block) e t = choose FlatHolders (stamp == current_stamp v one.from) _ _ (holders_answer v v.bytes one (form.Block stamp (block_of z v.bytes block)) t.both.flat t.holders t.there t.unanswered (ap is_callback e) refl) (holders_answer v v.bytes one (form.Again (current_grant v one.from)) t.both.flat t.holders t.there t.unanswered (ap is_callback e) refl)
holders_serve z v one (form.WriteBack stamp block size piece) e t = choose FlatHolders (stamp == current_stamp v one.from) _ _ (holders_answer v (put_block z v.bytes block.0 size piece) one form.Done t.both.flat t.holders t.there t.unanswered (ap is_callback e) refl) (holders_answer v v.bytes one (form.Again (current_grant v one.from)) t.both.flat t.holders t.there t.unanswered (ap is_callback e) refl)
holders_serve z v one (form.Op pid number stamp stream way) e t = choose FlatHolders (stamp == current_stamp v one.from) _ _ (holders_answer v (bytes_after z v.bytes way) one (op_reply z v.bytes way) t.both.flat t.holders t.there t.unanswered (ap is_callback e) (op_arrival z v.bytes way)) (holders_answer v v.bytes one (form.Again (current_grant v one.from)) t.both.flat t.holders t.there t.unanswered (ap is_callback e) refl)
holders_serve z v one body e t = t.holders

-- what waits is taken up in order
holders_all : (z : Setting) (waiting : List FileCall) (v : View) → Stage z waiting v → FlatHolders v → FlatHolders (serve_all z waiting v)
holders_all z [] v t p = p
holders_all z (one ∷ rest) v t p = choose_by FlatHolders (busy v) v (serve_all z rest (serve z v one)) (λ h. p)
    (λ h.
    let none : NoCall v = idle v h in
    let w : waiting_calls v ≡ one ∷ rest = idle_waiting z v (one ∷ rest) h t.queues in
    holders_all z rest (serve z v one) (stage_serve z v one rest none w t)
    (holders_serve z v one one.body refl (record { both = t.both; stamps = t.stamps; ruled = t.ruled; modes = t.modes; holders = p; there = first_waits v one rest w; unanswered = unreplied v one rest w; none = none })))

holders_resume : (z : Setting) (v : View) (one : FileCall) (rest waiting : List FileCall) → waiting ≡ one ∷ rest → Both v → FlatStamps v → Ruled v → FlatModes v → NoCall v → waiting_calls v ≡ waiting → asks one.body ≡ true → (v.uncached ≡ false → uncached_after z v one ≡ false) → Grantable v one → FlatHolders (resume z waiting v)
holders_resume z v one rest waiting e b s r p none w a t g =
    let m : In one v.calls = first_waits v one rest (w ∙ e) in
    let n : one.reply ≡ None = unreplied v one rest (w ∙ e) in
    let q : Served z rest (settle v one) = served_settle z v one rest b.flat none (w ∙ e) a t r in
    subst (λ xs. FlatHolders (resume z xs v)) (sym e)
    (subst (λ c. FlatHolders (cond c (serve_all z rest (settle v one)) (serve_all z (one ∷ rest) v))) (sym a)
    (holders_all z rest (settle v one) (record {
      both = both_settle v one n a b m;
      stamps = (two_settle v one (record { flat = b.flat; stamps = s }) m none a).stamps;
      ruled = q.ruled;
      queues = q.queues;
      modes = modes_settle v one b.flat s r (under_of v s) p m n none a;
    }) (holders_settle z v one (record { both = b; stamps = s; ruled = r; modes = p; there = m; unanswered = n; none = none; asks_it = a; told = t; grantable = g }))))

-- after an answer to a callback: each kernel is as it was, or nobody is the holder and what asks may be granted
pub holders_resumed : (z : Setting) (v : View) → Both v → FlatStamps v → Ruled v → (a : Asking z v) → FlatModes v → (busy v ≡ true → FlatHolders v) → (busy v ≡ false → a.first.reply ≡ None → In a.first v.calls → Grantable v a.first) → FlatHolders (resumed z v)
holders_resumed z v b s r a p f g = choose_by FlatHolders (busy v) v (resume z (waiting_calls v) v) f
    (λ h. holders_resume z v a.first a.rest (waiting_calls v) a.waiting b s r p (idle v h) refl a.asks_it a.told (g h (unreplied v a.first a.rest a.waiting) (first_waits v a.first a.rest a.waiting)))

-- a request comes
pub holders_taken : (v : View) (one : FileCall) → Apart v → In one v.calls → is_callback one.body ≡ false → FlatHolders v → FlatHolders (to_the_end v one)
holders_taken v one u m c p = holders_calls v v.bytes v.next (without_call one.number v.calls ++ record one { taken = true } ∷ []) v.carried v.uncached p (λ e. e) (λ kernel i. ways_reads kernel (own_stamp v kernel) (is_holder v kernel) (things v) (things (to_the_end v one)) (record one { taken = true }) one
    (record { number_is = refl; goes_is = refl; arrival_is = refl; no_call = c; no_again = λ grant a. (a, refl); request_is = λ stamp q. (q, refl) }) refl c (call_in_things v one m)
    (subst (In (record one { taken = true })) now (last_in (record one { taken = true }) (things (remove_call v one.number))))
    (λ x n. elim (in_last x (record one { taken = true }) (things (remove_call v one.number)) (subst (In x) (sym now) n)) [ inl k ↦ inl (in_without one.number x (things v) (subst (In x) (things_without v one u m) k)).0 | inr e ↦ inr e ])
    (λ x n. elim (eqb_tells x.number one.number) [
      | inl a ↦ inr (same_thing v x one u n (call_in_things v one m) a.1)
      | inr d ↦ inl (subst (In x) now (in_left x (things (remove_call v one.number)) (record one { taken = true } ∷ []) (subst (In x) (sym (things_without v one u m)) (without_in one.number x (things v) n d.1))))
    ]))
  where
    now : things (remove_call v one.number) ++ record one { taken = true } ∷ [] ≡ things (to_the_end v one)
    now = append_assoc (map as_call v.carried) (without_call one.number v.calls) (record one { taken = true } ∷ [])

pub holders_request : (z : Setting) (v : View) (one : FileCall) → Both v → FlatStamps v → Ruled v → FlatModes v → FlatHolders v → In one v.calls → one.to ≡ server → one.reply ≡ None → is_callback one.body ≡ false → FlatHolders (request_comes z v one)
holders_request z v one b s r p h m t n c = choose_by FlatHolders (busy v) (to_the_end v one) (serve z (to_the_end v one) (record one { taken = true })) (λ e. taken) (λ e. holders_serve z (to_the_end v one) (record one { taken = true }) one.body refl (record {
  both = record { flat = flat_taken v one b.flat m t; streams = streams_take v one b.flat.numbered.differ m b.streams };
  stamps = stamps_take v one b.flat.numbered.differ m c s;
  ruled = ruled_holds v (to_the_end v one) (holds_server v (to_the_end v one) refl refl refl refl refl) r;
  modes = modes_taken v one b.flat.numbered.differ m c (under_of v s) p;
  holders = taken;
  there = last_in (record one { taken = true }) _;
  unanswered = n;
  none = none e;
}))
  where
    taken : FlatHolders (to_the_end v one)
    taken = holders_taken v one b.flat.numbered.differ m c h

    none : busy v ≡ false → NoCall (to_the_end v one)
    none e x k = elim (in_last x (record one { taken = true }) _ k) [ inl a ↦ idle v e x (in_without one.number x v.calls a).0 | inr q ↦ ap (λ (y : FileCall). is_callback y.body) q ∙ c ]

-- an answer to a callback comes
pub record Answering (v : View) (one : FileCall) (stamp : ℕ) (kind : CallKind) : Type 0 where
  pub flat : Flat v
  pub stamps : FlatStamps v
  pub modes : FlatModes v
  pub holders : FlatHolders v
  pub ruled : Ruled v
  pub there : In one v.calls
  pub is_call : one.body ≡ form.Callback stamp kind
  pub taken : one.taken ≡ true

abbrev pub answered_view : View → FileCall → List ℕ → View
answered_view v one bytes = remove_call (record v { bytes = bytes; holder = holder_answered v one.to }) one.number

silent : (v : View) (one : FileCall) (stamp : ℕ) (kind : CallKind) → Answering v one stamp kind → (grant : FileGrant) → arrival one.reply ≡ Some grant → ⊥
silent v one stamp kind t grant a = let r = reply_of_arrival one.reply grant a in cc (brings_none one.body r.0 ((t.flat.calls one t.there).fits r.0 r.1) (ap asks t.is_call), ap arrival r.1, a)

-- who answered is the holder no more
pub answered_holder : (holder : Option ℕ) (kernel other : ℕ) → cond (is_kernel kernel holder) None holder ≡ Some other → (holder ≡ Some other) × (other ≢ kernel)
answered_holder holder kernel other e = by_test (is_kernel kernel holder) refl e
  where
    by_test : (b : Bool) → is_kernel kernel holder ≡ b → cond b None holder ≡ Some other → (holder ≡ Some other) × (other ≢ kernel)
    by_test true h q = absurd (cc (q))
    by_test false h q = (q, λ d. cc (h, is_holder_by holder kernel (q ∙ ap Some d)))

pub answered_other : (holder : Option ℕ) (kernel other : ℕ) → other ≢ kernel → is_kernel other (cond (is_kernel kernel holder) None holder) ≡ is_kernel other holder
answered_other holder kernel other d = by_test (is_kernel kernel holder) refl
  where
    by_test : (b : Bool) → is_kernel kernel holder ≡ b → is_kernel other (cond b None holder) ≡ is_kernel other holder
    by_test true h = sym (not_holder holder other (λ q. d (other_same (holder_is holder kernel h) q)))
      where
        other_same : holder ≡ Some kernel → holder ≡ Some other → other ≡ kernel
        other_same p q = cc (p, q)
    by_test false h = refl

answered_self : (holder : Option ℕ) (kernel : ℕ) → is_kernel kernel (cond (is_kernel kernel holder) None holder) ≡ false
answered_self holder kernel = by_test (is_kernel kernel holder) refl
  where
    by_test : (b : Bool) → is_kernel kernel holder ≡ b → is_kernel kernel (cond b None holder) ≡ false
    by_test true h = refl
    by_test false h = h

-- the kernels that answered nothing
answered_far : (v : View) (one : FileCall) (bytes : List ℕ) (stamp : ℕ) (kind : CallKind) (opens : List Open) → Answering v one stamp kind → (kernel : ℕ) → IsClient (length v.clients) kernel → kernel ≢ one.to → ((x : Open) → In x opens → Left x v.opens) → (is_holder v kernel ≡ true → opens ≡ v.opens) → LocalHolders (record (seat (answered_view v one bytes) kernel) { opened = filter (λ (x : Open). x.kernel == kernel) opens })
answered_far v one bytes stamp kind opens t kernel i d left same =
    subst (λ b. LocalHolders (record (seat (answered_view v one bytes) kernel) { opened = filter (λ (x : Open). x.kernel == kernel) opens; holds = b })) (sym (answered_other v.holder one.to kernel d))
    (holders_ways (record (seat v kernel) { opened = filter (λ (x : Open). x.kernel == kernel) opens }) (things (answered_view v one bytes))
    (holders_opened (seat v kernel) (filter (λ (x : Open). x.kernel == kernel) opens) (t.holders.each kernel i)
    (λ x m. let k = in_filter (λ (y : Open). y.kernel == kernel) x opens m in let l : Left x v.opens = left x k.0 in record { other = l.before; there = filter_in (λ (y : Open). y.kernel == kernel) l.before v.opens l.there (ap (λ n. n == kernel) (sym l.kernel_is) ∙ k.1); stream_is = l.stream_is; mode_is = l.mode_is })
    (λ h x m call j g a s. record { other = x; there = subst (λ os. In x (filter (λ (y : Open). y.kernel == kernel) os)) (sym (same h)) m; stream_is = refl; mode_is = refl }))
    (subst (Ways kernel (own_stamp v kernel) (is_holder v kernel) (things v)) (sym (things_without v one t.flat.numbered.differ t.there)) (ways_without v kernel (own_stamp v kernel) (is_holder v kernel) one t.flat.numbered.differ (call_in_things v one t.there) (λ g a. absurd (silent v one stamp kind t g a.1)) (λ h b e. d (sym e)))))

-- the kernel that answered
pub own_current : (v : View) (one : FileCall) (stamp : ℕ) (kind : CallKind) → Answering v one stamp kind → own_stamp v one.to ≡ current_stamp v one.to
own_current v one stamp kind t = let s = t.stamps.each one (call_in_things v one t.there) in s.behind stamp kind t.is_call t.taken ∙ s.called stamp kind t.is_call

pub nothing_newer : (v : View) (one : FileCall) (stamp : ℕ) (kind : CallKind) → Answering v one stamp kind → (x : FileCall) → In x (things v) → (grant : FileGrant) → Arrives one.to x grant → own_stamp v one.to < grant.stamp → ⊥
nothing_newer v one stamp kind t x m grant a n =
    let l : grant.stamp ≤ current_stamp v one.to = subst (λ k. grant.stamp ≤ current_stamp v k) a.0 ((t.stamps.each x m).granted grant a.1) in
    let e = own_current v one stamp kind t in
    omega (arith, l, n, e)

answered_here : (v : View) (one : FileCall) (bytes : List ℕ) (stamp : ℕ) (kind : CallKind) (opens : List Open) → Answering v one stamp kind → IsClient (length v.clients) one.to → ((x : Open) → In x opens → Left x v.opens) → ((x : Open) → In x opens → x.kernel ≡ one.to → writes x.mode ≡ true → Active one.to (own_stamp v one.to) (client v one.to).mode (things v) → ⊥) → LocalHolders (record (seat (answered_view v one bytes) one.to) { opened = filter (λ (x : Open). x.kernel == one.to) opens })
answered_here v one bytes stamp kind opens t i left writer =
    subst (λ b. LocalHolders (record (seat (answered_view v one bytes) one.to) { opened = filter (λ (x : Open). x.kernel == one.to) opens; holds = b })) (sym (answered_self v.holder one.to))
    (holders_unheld (seat v one.to) (filter (λ (x : Open). x.kernel == one.to) opens) (things (answered_view v one bytes)) (t.holders.each one.to i) (record {
      arrivals = ways.arrivals;
      called = ways.called;
      opens = λ x m. let k = in_filter (λ (y : Open). y.kernel == one.to) x opens m in let l : Left x v.opens = left x k.0 in record { other = l.before; there = filter_in (λ (y : Open). y.kernel == one.to) l.before v.opens l.there (ap (λ n. n == one.to) (sym l.kernel_is) ∙ k.1); stream_is = l.stream_is; mode_is = l.mode_is };
      no_writer = λ x m w a. let k = in_filter (λ (y : Open). y.kernel == one.to) x opens m in writer x k.0 (eqb-true x.kernel one.to k.1) w a;
      no_recall = λ x m to s e. let k = in_without one.number x (things v) (subst (In x) gone m) in k.1 ((t.stamps.pairs x one k.0 there).callbacks (ap is_callback e) (ap is_callback t.is_call) to);
      no_grant = λ x m g a n o h. nothing_newer v one stamp kind t x m g a n;
      clean = λ d. (t.holders.each one.to i).dirty_unanswered d.one d.there d.dirty (record { call = one; there = there; to_kernel = refl; stamp = stamp; kind = kind; is_call = t.is_call; taken = t.taken });
    }))
  where
    there : In one (things v)
    there = call_in_things v one t.there

    gone : things (answered_view v one bytes) ≡ without_call one.number (things v)
    gone = things_without v one t.flat.numbered.differ t.there

    ways : Ways one.to (own_stamp v one.to) false (things v) (things (answered_view v one bytes))
    ways = subst (Ways one.to (own_stamp v one.to) false (things v)) (sym gone) (ways_without v one.to (own_stamp v one.to) false one t.flat.numbered.differ there (λ g a. absurd (silent v one stamp kind t g a.1)) (λ h b e. cc (h)))

-- who was stopped doesn't use its cache
stopped_inactive : (v : View) (one : FileCall) (stamp : ℕ) (kind : CallKind) → Answering v one stamp kind → IsClient (length v.clients) one.to → kind ≡ Stop → Active one.to (own_stamp v one.to) (client v one.to).mode (things v) → ⊥
stopped_inactive v one stamp kind t i e (inl o) =
    let off : mode_given v one.to ≡ cache.Off = ((t.stamps.each one (call_in_things v one t.there)).stopped stamp (t.is_call ∙ ap (form.Callback stamp) e)).0 in
    cc (o, ap is_on ((t.holders.each one.to i).modes_agree (own_current v one stamp kind t) ∙ off))
stopped_inactive v one stamp kind t i e (inr o) = nothing_newer v one stamp kind t o.call o.is_newer.0 o.grant o.is_newer.1 o.is_newer.2

-- the answer is stored: each kernel is as it was, or nobody is the holder and what asks may be granted once no callback is out
pub flushed_by : (z : Setting) (v : View) (one : FileCall) (bytes : List ℕ) (stamp : ℕ) (kind : CallKind) → Answering v one stamp kind → IsClient (length v.clients) one.to → (a : Asking z v) → Both (answered_view v one bytes) → (b : Asking z (answered_view v one bytes)) → b.first ≡ a.first → (busy (answered_view v one bytes) ≡ true → FlatHolders (answered_view v one bytes)) × (busy (answered_view v one bytes) ≡ false → b.first.reply ≡ None → In b.first (answered_view v one bytes).calls → Grantable (answered_view v one bytes) b.first)
flushed_by z v one bytes stamp kind t i a both b same = (
  λ h. record {
    is_client = λ holder e. t.holders.is_client holder (answered_holder v.holder one.to holder e).0;
    opens = λ holder e. t.holders.opens holder (answered_holder v.holder one.to holder e).0;
    stale = λ holder e. t.holders.stale holder (answered_holder v.holder one.to holder e).0;
    exclusive = t.holders.exclusive;
    each = λ kernel j. by_kernel (λ k. IsClient (length v.clients) k → LocalHolders (seat w k)) one.to kernel
        (λ n. answered_here v one bytes stamp kind v.opens t i left_all (λ x m k q. stopped_inactive v one stamp kind t i (is_stop h kind refl)))
        (λ d n. answered_far v one bytes stamp kind v.opens t kernel n d left_all (λ q. refl)) j;
  },
  λ h n m. record {
    is_client = λ holder e. absurd (nobody h holder e);
    opens = λ holder e. absurd (nobody h holder e);
    stale = λ holder e. absurd (nobody h holder e);
    spare = λ holder e. absurd (nobody h holder e);
    each = λ kernel j. by_kernel (λ k. IsClient (length v.clients) k → LocalHolders (record (seat w k) { opened = filter (λ (x : Open). x.kernel == k) (left_of v.opens b.first.from b.first.body) })) one.to kernel
        (λ k. answered_here v one bytes stamp kind (left_of v.opens b.first.from b.first.body) t i (λ x q. left_was v.opens b.first.from b.first.body x q) (λ x q p r c. writer h n m x q p r c kind refl))
        (λ d k. answered_far v one bytes stamp kind (left_of v.opens b.first.from b.first.body) t kernel k d (λ x q. left_was v.opens b.first.from b.first.body x q) (λ q. absurd (nobody h kernel (holder_is w.holder kernel (answered_other v.holder one.to kernel d ∙ q))))) j;
  },
)
  where
    w : View
    w = answered_view v one bytes

    there : In one (things v)
    there = call_in_things v one t.there

    left_all : (x : Open) → In x v.opens → Left x v.opens
    left_all x m = record { before = x; there = m; stream_is = refl; kernel_is = refl; mode_is = refl; counts = λ l. l }

    -- while another callback is out this one is a stop
    is_stop : busy w ≡ true → (k : CallKind) → kind ≡ k → kind ≡ Stop
    is_stop h Stop e = e
    is_stop h Recall e =
        let c : CallIn w.calls = busy_call w.calls h in
        let p = in_without one.number c.call v.calls c.there in
        absurd (p.1 (sym ((t.stamps.pairs one c.call there (call_in_things v c.call p.0)).alone stamp (t.is_call ∙ ap (form.Callback stamp) e) c.is_call)))

    -- another callback would still be out
    no_other : busy w ≡ false → (x : FileCall) → In x (things v) → is_callback x.body ≡ true → x.to ≢ one.to → ⊥
    no_other h x m c d = cc (idle w h x (without_in one.number x v.calls (only_call v x m c) (λ q. d (ap (λ (y : FileCall). y.to) (same_thing v x one t.flat.numbered.differ m there q)))), c)

    nobody : busy w ≡ false → (holder : ℕ) → w.holder ≡ Some holder → ⊥
    nobody h holder e =
        let p = answered_holder v.holder one.to holder e in
        by_kind kind refl p.0 p.1
      where
        by_kind : (k : CallKind) → kind ≡ k → v.holder ≡ Some holder → holder ≢ one.to → ⊥
        by_kind Recall q p d = let x : v.holder ≡ Some one.to = holder_is v.holder one.to ((t.holders.each one.to i).recall_holds one there refl stamp (t.is_call ∙ ap (form.Callback stamp) q)) in d (cc (p, x))
        by_kind Stop q p d = elim ((t.holders.each holder (t.holders.is_client holder p)).holder_state (is_holder_by v.holder holder p)) [
          | inl k ↦ no_other h k.call k.there (ap is_callback k.is_call) (λ x. d (sym k.to_kernel ∙ x))
          | inr k ↦ elim k.0 [
            | inl o ↦ cc (o, t.ruled.off holder (t.holders.is_client holder p) ((t.stamps.each one there).stopped stamp (t.is_call ∙ ap (form.Callback stamp) q)).1)
            | inr r ↦ no_other h r.call r.there (ap is_callback r.stops) (λ x. d (sym r.to_kernel ∙ x))
          ]
        ]

    writer : busy w ≡ false → b.first.reply ≡ None → In b.first w.calls → (x : Open) → In x (left_of v.opens b.first.from b.first.body) → x.kernel ≡ one.to → writes x.mode ≡ true → Active one.to (own_stamp v one.to) (client v one.to).mode (things v) → (k : CallKind) → kind ≡ k → ⊥
    writer h n m x q p r c Stop e = stopped_inactive v one stamp kind t i e c
    writer h n m x q p r c Recall e =
        let recall : one.body ≡ form.Callback stamp Recall = t.is_call ∙ ap (form.Callback stamp) e in
        let u : v.uncached ≡ false = (t.stamps.each one there).recalled stamp recall in
        left_shares w b.first (adds w b.first n both m b.asks_it) (alone_by z w b.first u (b.told u)) x q r (elim (eqb_tells one.to (receiver b.first)) [
          | inl d ↦ inl (ap (λ (y : FileCall). truncates y.body) same ∙ a.spared one t.there stamp recall (d.1 ∙ ap receiver same))
          | inr d ↦ inr (λ y. d.1 (sym p ∙ y))
        ])

pub ruled_answered : (v : View) (one : FileCall) (bytes : List ℕ) → Ruled v → Ruled (answered_view v one bytes)
ruled_answered v one bytes r = ruled_holds v (answered_view v one bytes) (holds_server v (answered_view v one bytes) refl refl refl refl refl) r

pub holders_flushed_by : (z : Setting) (v : View) (one : FileCall) (bytes : List ℕ) (stamp : ℕ) (kind : CallKind) → Answering v one stamp kind → IsClient (length v.clients) one.to → (a : Asking z v) → Both (answered_view v one bytes) → FlatStamps (answered_view v one bytes) → (b : Asking z (answered_view v one bytes)) → b.first ≡ a.first → FlatModes (answered_view v one bytes) → FlatHolders (resumed z (answered_view v one bytes))
holders_flushed_by z v one bytes stamp kind t i a both stamps b same modes = let f = flushed_by z v one bytes stamp kind t i a both b same in holders_resumed z (answered_view v one bytes) both stamps (ruled_answered v one bytes t.ruled) b modes f.0 f.1
