-- The fifth layer of soundness while the server takes up requests.
use Rattle.std.proofs.Common.{◌≡◌, ◌≤◌, ◌<◌, ◌⊎◌, ℕ, ◌==◌, Bool, true, false, cond, ◌&&◌, List, [], ◌∷◌, ◌++◌, length, map, filter, Option, Some, None, is_none, refl, sym, ap, ap₂, ◌∙◌, subst, inl, inr, arith, eq-eqb}
use Rattle.std.proofs.lemmas.Bool.{and_parts, and_from}
use Rattle.sprite_ids.specs.Lists.{total}
use Rattle.sprite_ids.specs.declared.StreamNo.{StreamNo}
use Rattle.file_views.specs.declared.grant.FileGrant.{FileGrant}
use Rattle.file_views.specs.declared.body.FileBody.{FileBody}
use Rattle.file_views.specs.declared.body.FileBody.TheVariants as form
use Rattle.file_views.specs.declared.call.FileCall.{FileCall}
use Rattle.file_views.specs.declared.view.View.{View}
use Rattle.file_views.specs.Setting.{Setting}
use Rattle.file_views.specs.Streams.{same_stream, take_off, is_any}
use Rattle.file_views.specs.Contents.{put_block}
use Rattle.file_views.specs.Views.{server, kernels, client, mode_given, grant_given, current_stamp, is_callback, as_call, things, with_call, replied, answer, to_the_end, busy, waits, waiting_calls}
use Rattle.file_views.specs.Grants.{asks, uncached_after, is_called, kind_of_calls, called_kernels, settle, told, deciding, decide, current_grant}
use Rattle.file_views.specs.Serving.{close, op_reply, bytes_after, block_of, refuse_old, serve_body, serve, serve_all, request_comes, resume, resumed}
use Rattle.file_views.specs.Settled.{goes_of, goes_to, arrival}
use Rattle.file_views.specs.Here.{In, IsClient, Arrives, asked_stream}
use Rattle.file_views.specs.SoundShapes.{Answers, Shaped}
use Rattle.file_views.specs.SoundModes.{SameNewer}
use Rattle.file_views.specs.SoundStreams.{counted_at, on_way_of, on_way}
use Rattle.file_views.proofs.MemberLaws.{Made, in_last, last_in, in_filter, in_without}
use Rattle.file_views.proofs.EffectLaws.{things_with, call_in_things}
use Rattle.file_views.proofs.ClientLaws.{choose, choose_by}
use Rattle.file_views.proofs.CountLaws.{or_left, same_self}
use Rattle.file_views.proofs.OpenLaws.{OpenAt, open_there}
use Rattle.file_views.proofs.ShapeLaws.{Flat}
use Rattle.file_views.proofs.ShapeStepLaws.{among_clients, flat_told, flat_taken, flat_serve}
use Rattle.file_views.proofs.StreamLaws.{FlatStreams}
use Rattle.file_views.proofs.StreamChangeLaws.{streams_take}
use Rattle.file_views.proofs.StreamServeLaws.{streams_close, Both, both_settle, both_serve, no_reply}
use Rattle.file_views.proofs.StampLaws.{own_stamp, FlatStamps, in_things, reply_of_arrival, goes_client}
use Rattle.file_views.proofs.StampChangeLaws.{NoCall, stamps_told, stamps_take}
use Rattle.file_views.proofs.StampServeLaws.{two_settle, two_serve, idle, op_arrival, op_no_again}
use Rattle.file_views.proofs.DecisionLaws.{Asking, Queues, Ruled, holds_server, ruled_holds, makes_uncached}
use Rattle.file_views.proofs.DecisionServeLaws.{some_any, Served, first_waits, served_settle}
use Rattle.file_views.proofs.DecisionCallLaws.{ruled_told, served, idle_waiting}
use Rattle.file_views.proofs.ModeLaws.{Dues, FlatModes, under_of, modes_told_off}
use Rattle.file_views.proofs.ModeChangeLaws.{dues_answer, modes_same, modes_taken}
use Rattle.file_views.proofs.ModeGrantLaws.{modes_settle, moding_call_back, same_current}

-- what is on its way is open
pub total_in : {X : Type 0} (f : X → ℕ) (xs : List X) (x : X) → In x xs → 1 ≤ f x → 1 ≤ total f xs
total_in f [] x m l = absurd m
total_in f (y ∷ ys) x (inl e) l = let same : f x ≡ f y = ap f e in omega (arith, l, same)
total_in f (y ∷ ys) x (inr m) l = let r = total_in f ys x m l in omega (arith, r)

counted_one : (a b : Bool) → a ≡ true → b ≡ true → 1 ≤ counted_at 1 (a && b)
counted_one true true p q = omega arith
counted_one true false p q = absurd (cc (q))
counted_one false b p q = absurd (cc (p))

record OnWay (source : ℕ) (body reply : FileBody) : Type 0 where
  stream : StreamNo
  counts : 1 ≤ on_way_of stream (goes_of source body) source body (Some reply)
  asked : asked_stream body ≡ Some stream

way_arrives : (source : ℕ) (body reply : FileBody) (grant : FileGrant) → Answers body reply → arrival (Some reply) ≡ Some grant → OnWay source body reply
way_arrives source (form.Opening pid number stream mode truncate) reply grant a r = record { stream = stream; counts = counted_one (source == source) (same_stream stream stream) (eq-eqb source source refl) (same_self stream); asked = refl }
way_arrives source (form.Move stream place kept grants) reply grant a r = record { stream = stream; counts = counted_one (place == place) (same_stream stream stream) (eq-eqb place place refl) (same_self stream); asked = refl }
way_arrives source (form.Close stream grants) form.Done grant a r = absurd (cc (r))
way_arrives source (form.Close stream grants) reply grant a r = absurd a
way_arrives source (form.Op pid number stamp stream way) (form.Value first second piece) grant a r = absurd (cc (r))
way_arrives source (form.Op pid number stamp stream way) (form.Again other) grant a r = absurd (cc (r))
way_arrives source (form.Op pid number stamp stream way) (form.Refused cause) grant a r = absurd (cc (r))
way_arrives source (form.Op pid number stamp stream way) reply grant a r = absurd a
way_arrives source (form.Fetch stamp block) (form.Block other piece) grant a r = absurd (cc (r))
way_arrives source (form.Fetch stamp block) (form.Again other) grant a r = absurd (cc (r))
way_arrives source (form.Fetch stamp block) reply grant a r = absurd a
way_arrives source (form.WriteBack stamp block size piece) form.Done grant a r = absurd (cc (r))
way_arrives source (form.WriteBack stamp block size piece) (form.Again other) grant a r = absurd (cc (r))
way_arrives source (form.WriteBack stamp block size piece) reply grant a r = absurd a
way_arrives source (form.Callback stamp kind) (form.Flushed size blocks) grant a r = absurd (cc (r))
way_arrives source (form.Callback stamp kind) reply grant a r = absurd a
way_arrives source body reply grant a r = absurd a

-- a grant that is on its way is counted for its kernel
pub record OpenFor (v : View) (kernel : ℕ) (one : FileCall) : Type 0 where
  pub stream : StreamNo
  pub asked : asked_stream one.body ≡ Some stream
  pub counts : 1 ≤ on_way stream kernel one
  pub at : OpenAt stream kernel v.opens

pub arrival_there : (v : View) → Flat v → FlatStreams v → (one : FileCall) → In one (things v) → (kernel : ℕ) (grant : FileGrant) → Arrives kernel one grant → OpenFor v kernel one
arrival_there v f s one m kernel grant a = subst (λ k. OpenFor v k one) a.0 (by_place (in_things v one m))
  where
    open_by : (stream : StreamNo) → asked_stream one.body ≡ Some stream → 1 ≤ on_way stream (goes_to one) one → OpenFor v (goes_to one) one
    open_by stream q l =
        let c = s.counts (goes_to one) (goes_client v f one m grant a.1) stream in
        let t = total_in (on_way stream (goes_to one)) (things v) one m l in
        record { stream = stream; asked = q; counts = l; at = open_there stream (goes_to one) v.opens (omega (arith, c, t)) }

    by_place : Made as_call one v.carried ⊎ In one v.calls → OpenFor v (goes_to one) one
    by_place (inl r) = open_by r.x.stream (ap (λ (x : FileCall). asked_stream x.body) r.makes) (subst (λ (x : FileCall). 1 ≤ on_way r.x.stream (goes_to x) x) (sym r.makes) (counted_one (r.x.to == r.x.to) (same_stream r.x.stream r.x.stream) (eq-eqb r.x.to r.x.to refl) (same_self r.x.stream)))
    by_place (inr n) =
        let h : Shaped (length v.clients) one = f.calls one n in
        let r = reply_of_arrival one.reply grant a.1 in
        let w : OnWay one.from one.body r.0 = way_arrives one.from one.body r.0 grant (h.fits r.0 r.1) (sym (ap arrival r.1) ∙ a.1) in
        open_by w.stream w.asked (subst (λ (x : Option FileBody). 1 ≤ on_way_of w.stream (goes_to one) one.from one.body x) (sym r.1) w.counts)

pub arrival_open : (v : View) → Flat v → FlatStreams v → (one : FileCall) → In one (things v) → (grant : FileGrant) → arrival one.reply ≡ Some grant → is_any v.opens ≡ true
arrival_open v f s one m grant a = let o : OpenFor v (goes_to one) one = arrival_there v f s one m (goes_to one) grant (refl, a) in some_any o.at.one v.opens o.at.there

-- a request is answered
modes_answer : (v w : View) (one : FileCall) (reply : FileBody) → Flat v → FlatStamps v → FlatModes v → In one v.calls → one.reply ≡ None → is_callback one.body ≡ false → w.clients ≡ v.clients → w.stamps ≡ v.stamps → w.modes ≡ v.modes → w.given ≡ v.given → w.uncached ≡ v.uncached → w.carried ≡ v.carried → w.calls ≡ with_call (replied one reply) v.calls → arrival (Some reply) ≡ None →
    ((grant : FileGrant) → reply ≡ form.Again grant → (kernel : ℕ) → IsClient (length v.clients) kernel → one.from ≡ kernel → own_stamp v kernel < grant.stamp → SameNewer kernel (own_stamp v kernel) (things v) grant) → FlatModes w
modes_answer v w one reply f s p m n c a b d e g h k r again = modes_same v w a b d e g (under_of v s) p (λ kernel i. subst (Dues kernel (own_stamp v kernel) (own_stamp v kernel) (things v)) (sym changed) (dues_answer v kernel one reply (p kernel i) f.numbered.differ (call_in_things v one m) n r (λ x y. cc (x, c)) (λ grant q. again grant q kernel i)))
  where
    changed : things w ≡ with_call (replied one reply) (things v)
    changed = ap₂ (λ xs ys. map as_call xs ++ ys) h k ∙ things_with v one (replied one reply) f.numbered.differ m refl

modes_old : (v : View) (one : FileCall) → Flat v → FlatStamps v → FlatModes v → In one v.calls → one.reply ≡ None → is_callback one.body ≡ false → NoCall v → FlatModes (refuse_old v one)
modes_old v one f s p m n c none = modes_answer v (refuse_old v one) one (form.Again (current_grant v one.from)) f s p m n c refl refl refl refl refl refl refl refl
    (λ grant e kernel i q l. let same : current_grant v one.from ≡ grant = cc (e) in let is : current_grant v kernel ≡ grant = ap (current_grant v) (sym q) ∙ same in subst (SameNewer kernel (own_stamp v kernel) (things v)) is (same_current v kernel none (p kernel i) (subst (λ (x : FileGrant). own_stamp v kernel < x.stamp) (sym is) l)))

-- a close: the file may be cached again where nobody has it open
modes_close : (v : View) (one : FileCall) (stream : StreamNo) (grants : ℕ) → Flat v → FlatStamps v → FlatModes v → In one v.calls → one.reply ≡ None → is_callback one.body ≡ false → Flat (close v one stream grants) → FlatStreams (close v one stream grants) → FlatModes (close v one stream grants)
modes_close v one stream grants f s p m n c g t kernel i =
    modes_told_off kernel (own_stamp v kernel) (current_stamp v kernel) (client v kernel).mode (mode_given v kernel) (grant_given v kernel) v.uncached (close v one stream grants).uncached (things (close v one stream grants))
    (λ x k grant a l o u. and_from v.uncached (is_any (take_off v.opens stream one.from grants)) u (arrival_open (close v one stream grants) g t x k grant a.1))
    (modes_answer v (answer v one form.Done) one form.Done f s p m n c refl refl refl refl refl refl refl refl (λ grant e. absurd (cc (e))) kernel i)

-- an open or a move is decided
pub modes_told : (v : View) (b : Bool) → (v.uncached ≡ true → b ≡ true) → FlatModes v → FlatModes (told v b)
modes_told v b u p kernel i = modes_told_off kernel (own_stamp v kernel) (current_stamp v kernel) (client v kernel).mode (mode_given v kernel) (grant_given v kernel) v.uncached b (things v) (λ one m grant a l o. u) (p kernel i)

modes_decided_by : (z : Setting) (v : View) (one : FileCall) (b : Bool) → uncached_after z v one ≡ b → (called : List ℕ) → called ≡ filter (is_called b v one) (kernels v) → Flat v → FlatStamps v → Ruled v → FlatModes v → In one v.calls → one.reply ≡ None → NoCall v → asks one.body ≡ true → FlatModes (deciding (told v b) one (kind_of_calls b) called)
modes_decided_by z v one b e [] k f s r p m n none a =
    let stamps : FlatStamps (told v b) = stamps_told v (told v b) none refl refl refl refl s in
    modes_settle (told v b) one (flat_told v b f) stamps (ruled_told z v one b e k r) (under_of (told v b) stamps) (modes_told v b (λ u. sym e ∙ or_left v.uncached (makes_uncached z false v.shared v.opens one) u) p) m n none a
modes_decided_by z v one b e (kernel ∷ rest) k f s r p m n none a =
    let stamps : FlatStamps (told v b) = stamps_told v (told v b) none refl refl refl refl s in
    (moding_call_back (kernel ∷ rest) (kind_of_calls b) (told v b) (λ c j. among_clients v c (in_filter (is_called b v one) c (kernels v) (subst (In c) k j)).0) f.items.stamp_each f.items.mode_each
    (record { under = under_of (told v b) stamps; modes = modes_told v b (λ u. sym e ∙ or_left v.uncached (makes_uncached z false v.shared v.opens one) u) p })).modes

modes_decide : (z : Setting) (v : View) (one : FileCall) → Flat v → FlatStamps v → Ruled v → FlatModes v → In one v.calls → one.reply ≡ None → NoCall v → asks one.body ≡ true → FlatModes (decide z v one)
modes_decide z v one f s r p m n none a = modes_decided_by z v one (uncached_after z v one) refl (called_kernels z v one) refl f s r p m n none a

-- a request is taken up
pub modes_serve : (z : Setting) (v : View) (one : FileCall) (body : FileBody) → one.body ≡ body → Both v → FlatStamps v → Ruled v → FlatModes v → In one v.calls → one.reply ≡ None → NoCall v → FlatModes (serve_body z v one body)
modes_serve z v one (form.Opening pid number stream mode truncate) e b s r p m n none = modes_decide z v one b.flat s r p m n none (ap asks e)
modes_serve z v one (form.Move stream place kept grants) e b s r p m n none = modes_decide z v one b.flat s r p m n none (ap asks e)
modes_serve z v one (form.Close stream grants) e b s r p m n none =
    let w : Both (close v one stream grants) = record { flat = flat_serve z v one (form.Close stream grants) e b.flat m; streams = streams_close v one stream grants e n b m } in
    modes_close v one stream grants b.flat s p m n (ap is_callback e) w.flat w.streams
modes_serve z v one (form.Fetch stamp block) e b s r p m n none = choose FlatModes (stamp == current_stamp v one.from) _ _
    (modes_answer v (answer v one (form.Block stamp (block_of z v.bytes block))) one (form.Block stamp (block_of z v.bytes block)) b.flat s p m n (ap is_callback e) refl refl refl refl refl refl refl refl (λ grant q. absurd (cc (q))))
    (modes_old v one b.flat s p m n (ap is_callback e) none)
modes_serve z v one (form.WriteBack stamp block size piece) e b s r p m n none = choose FlatModes (stamp == current_stamp v one.from) _ _
    (modes_answer v (answer (record v { bytes = put_block z v.bytes block.0 size piece }) one form.Done) one form.Done b.flat s p m n (ap is_callback e) refl refl refl refl refl refl refl refl (λ grant q. absurd (cc (q))))
    (modes_old v one b.flat s p m n (ap is_callback e) none)
modes_serve z v one (form.Op pid number stamp stream way) e b s r p m n none = choose FlatModes (stamp == current_stamp v one.from) _ _
    (modes_answer v (answer (record v { bytes = bytes_after z v.bytes way }) one (op_reply z v.bytes way)) one (op_reply z v.bytes way) b.flat s p m n (ap is_callback e) refl refl refl refl refl refl refl (op_arrival z v.bytes way) (λ grant q. absurd (op_no_again z v.bytes way grant q)))
    (modes_old v one b.flat s p m n (ap is_callback e) none)
modes_serve z v one body e b s r p m n none = p

-- what waits is taken up in order
pub record Stage (z : Setting) (waiting : List FileCall) (v : View) : Type 0 where
  pub both : Both v
  pub stamps : FlatStamps v
  pub ruled : Ruled v
  pub queues : Queues z waiting v
  pub modes : FlatModes v

pub unreplied : (v : View) (one : FileCall) (rest : List FileCall) → waiting_calls v ≡ one ∷ rest → one.reply ≡ None
unreplied v one rest w = no_reply one.reply (and_parts one.taken (is_none one.reply) (in_filter waits one v.calls (subst (In one) (sym w) (inl refl))).1).1

pub stage_serve : (z : Setting) (v : View) (one : FileCall) (rest : List FileCall) → NoCall v → waiting_calls v ≡ one ∷ rest → Stage z (one ∷ rest) v → Stage z rest (serve z v one)
stage_serve z v one rest none w t =
    let m : In one v.calls = first_waits v one rest w in
    let n : one.reply ≡ None = unreplied v one rest w in
    let s : Served z rest (serve z v one) = served z v one rest t.both.flat none w t.ruled in
    record {
      both = both_serve z v one n t.both m;
      stamps = (two_serve z v one (record { flat = t.both.flat; stamps = t.stamps }) m none).stamps;
      ruled = s.ruled;
      queues = s.queues;
      modes = modes_serve z v one one.body refl t.both t.stamps t.ruled t.modes m n none;
    }

stage_all : (z : Setting) (waiting : List FileCall) (v : View) → Stage z waiting v → FlatModes (serve_all z waiting v)
stage_all z [] v t = t.modes
stage_all z (one ∷ rest) v t = choose_by FlatModes (busy v) v (serve_all z rest (serve z v one)) (λ h. t.modes) (λ h. stage_all z rest (serve z v one) (stage_serve z v one rest (idle v h) (idle_waiting z v (one ∷ rest) h t.queues) t))

stage_resume : (z : Setting) (v : View) (one : FileCall) (rest waiting : List FileCall) → waiting ≡ one ∷ rest → Both v → FlatStamps v → Ruled v → FlatModes v → NoCall v → waiting_calls v ≡ waiting → asks one.body ≡ true → (v.uncached ≡ false → uncached_after z v one ≡ false) → FlatModes (resume z waiting v)
stage_resume z v one rest waiting e b s r p none w a t =
    let m : In one v.calls = first_waits v one rest (w ∙ e) in
    let n : one.reply ≡ None = unreplied v one rest (w ∙ e) in
    let q : Served z rest (settle v one) = served_settle z v one rest b.flat none (w ∙ e) a t r in
    subst (λ xs. FlatModes (resume z xs v)) (sym e)
    (subst (λ c. FlatModes (cond c (serve_all z rest (settle v one)) (serve_all z (one ∷ rest) v))) (sym a)
    (stage_all z rest (settle v one) (record {
      both = both_settle v one n a b m;
      stamps = (two_settle v one (record { flat = b.flat; stamps = s }) m none a).stamps;
      ruled = q.ruled;
      queues = q.queues;
      modes = modes_settle v one b.flat s r (under_of v s) p m n none a;
    })))

pub modes_resumed : (z : Setting) (v : View) → Both v → FlatStamps v → Ruled v → Asking z v → FlatModes v → FlatModes (resumed z v)
modes_resumed z v b s r a p = choose_by FlatModes (busy v) v (resume z (waiting_calls v) v) (λ h. p) (λ h. stage_resume z v a.first a.rest (waiting_calls v) a.waiting b s r p (idle v h) refl a.asks_it a.told)

-- a request comes
pub modes_request : (z : Setting) (v : View) (one : FileCall) → Both v → FlatStamps v → Ruled v → FlatModes v → In one v.calls → one.to ≡ server → one.reply ≡ None → is_callback one.body ≡ false → FlatModes (request_comes z v one)
modes_request z v one b s r p m t n c = choose_by FlatModes (busy v) (to_the_end v one) (serve z (to_the_end v one) (record one { taken = true })) (λ h. taken) (λ h. modes_serve z (to_the_end v one) (record one { taken = true }) one.body refl
    (record { flat = flat_taken v one b.flat m t; streams = streams_take v one b.flat.numbered.differ m b.streams }) (stamps_take v one b.flat.numbered.differ m c s) (ruled_holds v (to_the_end v one) (holds_server v (to_the_end v one) refl refl refl refl refl) r) taken (last_in (record one { taken = true }) _) n (none h))
  where
    taken : FlatModes (to_the_end v one)
    taken = modes_taken v one b.flat.numbered.differ m c (under_of v s) p

    none : busy v ≡ false → NoCall (to_the_end v one)
    none h x k = elim (in_last x (record one { taken = true }) _ k) [ inl a ↦ idle v h x (in_without one.number x v.calls a).0 | inr q ↦ ap (λ (y : FileCall). is_callback y.body) q ∙ c ]
