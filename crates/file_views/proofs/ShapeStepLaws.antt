-- The first layer of soundness under each step.
use Rattle.std.proofs.Common.{◌≡◌, ◌≢◌, ◌≤◌, ◌<◌, ◌⊎◌, ℕ, zero, suc, ◌+◌, ◌-◌, ◌==◌, nat_le, nat_lt, Bool, true, false, cond, not, ◌||◌, List, [], ◌∷◌, ◌++◌, length, Option, Some, None, is_some, refl, sym, ap, ◌∙◌, subst, inl, inr, arith, length-set, leb-true, eqb-true, eq-eqb}
use Rattle.std.proofs.lemmas.Bool.{and_parts}
use Rattle.std.proofs.lemmas.List.{map-append}
use Rattle.sprite_ids.specs.declared.BlockNo.{BlockNo}
use Rattle.sprite_ids.specs.declared.StreamNo.{StreamNo}
use Rattle.sprite_ids.specs.declared.Mode.{Mode}
use Rattle.sprite_ids.specs.declared.CallKind.{CallKind}
use Rattle.file_views.specs.declared.grant.FileGrant.{FileGrant}
use Rattle.file_views.specs.declared.opens.Open.{Open}
use Rattle.file_views.specs.declared.body.Access.{Access}
use Rattle.file_views.specs.declared.body.Access.TheVariants as access
use Rattle.file_views.specs.declared.body.FileBody.{FileBody}
use Rattle.file_views.specs.declared.body.FileBody.TheVariants as form
use Rattle.file_views.specs.declared.client.Held.{Held}
use Rattle.file_views.specs.declared.client.Client.{Client}
use Rattle.file_views.specs.declared.call.FileCall.{FileCall}
use Rattle.file_views.specs.declared.call.Carry.{Carry}
use Rattle.file_views.specs.declared.step.FileStep.{FileStep}
use Rattle.file_views.specs.declared.step.FileStep.TheVariants as act
use Rattle.file_views.specs.declared.view.View.{View}
use Rattle.file_views.specs.Setting.{Setting}
use Rattle.file_views.specs.Contents.{numbers_from}
use Rattle.file_views.specs.Streams.{writes, take_off}
use Rattle.file_views.specs.Clients.{is_on, missing, held, fill, wrote_back, take_grant, take_callback, pieces, install, uninstall, without_block, done_cached}
use Rattle.file_views.specs.Views.{server, kernels, client, set_client, current_stamp, find_call, find_carried, new_call, replied, answer, remove_call, to_the_end, busy, waits, waiting_calls, is_callback, last_stamp, without_carried, things}
use Rattle.file_views.specs.Grants.{asks, receiver, granting, grant_of, settling, settle, stamped, call_out, call_back, told, deciding, decide, kind_of_calls, uncached_after, called_kernels, is_called, current_grant}
use Rattle.file_views.specs.Data.{op_of, step_of, send_op, send_fetch, enter_cached, queue, wait_for, started, start_data, unqueue, or_zero, advance, look}
use Rattle.file_views.specs.Serving.{with_opens, bytes_after, op_reply, block_of, serve_body, serve, serve_all, request_comes, store_blocks, holder_answered, resume, resumed}
use Rattle.file_views.specs.Steps.{grant_comes, arrive, called_back, request_at_client, opening_answered, move_answered, fetch_answered, write_back_answered, op_answered, flush_comes, reply_comes, carried_comes_with, call_comes, delivered, closing, moving, writing_back_at, writing_back, after}
use Rattle.file_views.specs.Possible.{has_room, is_client, is_free, may_do, possible, stepped}
use Rattle.file_views.specs.Moves.{is_data}
use Rattle.file_views.specs.Here.{In, Unique, IsClient}
use Rattle.file_views.specs.SoundShapes.{Ends, Answers, writes_back, Shaped, Shapes, numbers}
use Rattle.file_views.proofs.MemberLaws.{in_left, in_last, last_in, in_filter, with_in, map_in, found, carried_found, held_found, unique_right, unique_filter}
use Rattle.file_views.proofs.EffectLaws.{count_set, call_in_things}
use Rattle.file_views.proofs.ClientLaws.{choose, choose_by, Follows, fine_take, fine_callback, fine_fill, fine_back, fine_done, fine_install, fine_uninstall, fine_wait, fine_drop, follows_on}
use Rattle.file_views.proofs.ShapeLaws.{Flat, flat_of, shapes_of, flat_client, flat_items, flat_begin, flat_answer, flat_remove, flat_take, flat_uncarried, flat_carried, gone}

-- a client is a client
pub client_is : (v : View) (kernel : ℕ) → is_client v kernel ≡ true → IsClient (length v.clients) kernel
client_is v kernel e = let p = and_parts (nat_le 1 kernel) (nat_le kernel (length v.clients)) e in (leb-true 1 kernel p.0, leb-true kernel (length v.clients) p.1)

pub still_client : (v : View) (kernel other : ℕ) (c : Client) → IsClient (length v.clients) other → IsClient (length (set_client v kernel c).clients) other
still_client v kernel other c i = subst (λ n. IsClient n other) (sym (count_set v kernel c)) i

-- a request that begins
shaped_fresh : (count : ℕ) (v : View) (source to : ℕ) (body : FileBody) (dirty : Option ℕ) → Ends count source to body → is_some dirty ≡ writes_back body → ((pid number : ℕ) (stream : StreamNo) (mode : Mode) → body ≡ form.Opening pid number stream mode true → writes mode ≡ true) → Shaped count (new_call v source to body dirty)
shaped_fresh count v source to body dirty ends same opens = record {
  ends = ends;
  fits = λ reply e. absurd (cc (e));
  taken_first = λ reply e. absurd (cc (e));
  answered = λ e t. absurd (cc (t));
  numbered = same;
  writing = opens;
}

pub flat_send_op : (v : View) (kernel : ℕ) (step : FileStep) → Flat v → IsClient (length v.clients) kernel → is_data step ≡ true → Flat (send_op v kernel step)
flat_send_op v kernel (act.Reading pid number place stream from many) f i d = flat_begin v kernel server (op_of (client v kernel).stamp (act.Reading pid number place stream from many)) None f (shaped_fresh _ v kernel server _ None (i, refl) refl (λ p n s m e. absurd (cc (e)))) (λ n e. absurd (cc (e)))
flat_send_op v kernel (act.Writing pid number place stream from bytes) f i d = flat_begin v kernel server (op_of (client v kernel).stamp (act.Writing pid number place stream from bytes)) None f (shaped_fresh _ v kernel server _ None (i, refl) refl (λ p n s m e. absurd (cc (e)))) (λ n e. absurd (cc (e)))
flat_send_op v kernel (act.Append pid number place stream bytes) f i d = flat_begin v kernel server (op_of (client v kernel).stamp (act.Append pid number place stream bytes)) None f (shaped_fresh _ v kernel server _ None (i, refl) refl (λ p n s m e. absurd (cc (e)))) (λ n e. absurd (cc (e)))
flat_send_op v kernel step f i d = absurd (cc (d))

pub flat_send_fetch : (v : View) (kernel number : ℕ) → Flat v → IsClient (length v.clients) kernel → Flat (send_fetch v kernel number)
flat_send_fetch v kernel number f i = flat_begin v kernel server (form.Fetch (client v kernel).stamp (record { 0 = number })) None f (shaped_fresh _ v kernel server _ None (i, refl) refl (λ p n s m e. absurd (cc (e)))) (λ n e. absurd (cc (e)))

pub flat_enter : (z : Setting) (v : View) (kernel : ℕ) (step : FileStep) → Flat v → IsClient (length v.clients) kernel → Flat (enter_cached z v kernel step)
flat_enter z v kernel step f i = flat_client v kernel (done_cached z (client v kernel) step) f i (fine_done z (client v kernel) step (f.fine kernel i))

pub flat_queue : (v : View) (kernel : ℕ) (step : FileStep) → Flat v → IsClient (length v.clients) kernel → is_data step ≡ true → Flat (queue v kernel step)
flat_queue v kernel step f i d = flat_client v kernel (record (client v kernel) { waiting = (client v kernel).waiting ++ step ∷ [] }) f i (fine_wait (client v kernel) ((client v kernel).waiting ++ step ∷ []) (f.fine kernel i) (λ s m. by_place s (in_last s step (client v kernel).waiting m)))
  where
    by_place : (s : FileStep) → In s (client v kernel).waiting ⊎ (s ≡ step) → is_data s ≡ true
    by_place s (inl m) = (f.fine kernel i).waits s m
    by_place s (inr e) = ap is_data e ∙ d

pub flat_unqueue : (v : View) (kernel : ℕ) (rest : List FileStep) → Flat v → IsClient (length v.clients) kernel → ((s : FileStep) → In s rest → is_data s ≡ true) → Flat (unqueue v kernel rest)
flat_unqueue v kernel rest f i d = flat_client v kernel (record (client v kernel) { waiting = rest }) f i (fine_wait (client v kernel) rest (f.fine kernel i) d)

flat_wait_for : (v : View) (kernel : ℕ) (step : FileStep) (number : ℕ) (waiting : List FileStep) → Flat v → IsClient (length v.clients) kernel → is_data step ≡ true → Flat (wait_for v kernel step number waiting)
flat_wait_for v kernel step number [] f i d = flat_send_fetch (queue v kernel step) kernel number (flat_queue v kernel step f i d) (still_client v kernel kernel _ i)
flat_wait_for v kernel step number (first ∷ rest) f i d = flat_queue v kernel step f i d

flat_started : (z : Setting) (v : View) (kernel : ℕ) (step : FileStep) (on : Bool) (gap : Option ℕ) → Flat v → IsClient (length v.clients) kernel → is_data step ≡ true → Flat (started z v kernel step on gap)
flat_started z v kernel step false gap f i d = flat_send_op v kernel step f i d
flat_started z v kernel step true None f i d = flat_enter z v kernel step f i
flat_started z v kernel step true (Some number) f i d = flat_wait_for v kernel step number (client v kernel).waiting f i d

pub flat_start : (z : Setting) (v : View) (kernel : ℕ) (step : FileStep) → Flat v → IsClient (length v.clients) kernel → is_data step ≡ true → Flat (start_data z v kernel step)
flat_start z v kernel step f i d = flat_started z v kernel step (is_on (client v kernel).mode) (missing z (client v kernel) step) f i d

-- what waits looks again
flat_turn : (z : Setting) (step : FileStep) (rest : List FileStep) (v : View) (kernel : ℕ) (on gap : Bool) (number : ℕ) → Flat v → IsClient (length v.clients) kernel → ((s : FileStep) → In s (step ∷ rest) → is_data s ≡ true) →
    ((w : View) → Flat w → IsClient (length w.clients) kernel → Flat (advance z rest w kernel)) →
    Flat (cond on (cond gap (send_fetch v kernel number) (advance z rest (enter_cached z (unqueue v kernel rest) kernel step) kernel)) (advance z rest (send_op (unqueue v kernel rest) kernel step) kernel))
flat_turn z step rest v kernel true true number f i d go = flat_send_fetch v kernel number f i
flat_turn z step rest v kernel true false number f i d go =
    let j : IsClient (length (unqueue v kernel rest).clients) kernel = still_client v kernel kernel _ i in
    go _ (flat_enter z (unqueue v kernel rest) kernel step (flat_unqueue v kernel rest f i (λ s m. d s (inr m))) j) (still_client (unqueue v kernel rest) kernel kernel _ j)
flat_turn z step rest v kernel false gap number f i d go =
    let j : IsClient (length (unqueue v kernel rest).clients) kernel = still_client v kernel kernel _ i in
    go _ (flat_send_op (unqueue v kernel rest) kernel step (flat_unqueue v kernel rest f i (λ s m. d s (inr m))) j (d step (inl refl))) j

flat_advance : (z : Setting) (waiting : List FileStep) (v : View) (kernel : ℕ) → Flat v → IsClient (length v.clients) kernel → ((s : FileStep) → In s waiting → is_data s ≡ true) → Flat (advance z waiting v kernel)
flat_advance z [] v kernel f i d = f
flat_advance z (step ∷ rest) v kernel f i d =
    flat_turn z step rest v kernel (is_on (client v kernel).mode) (is_some (missing z (client v kernel) step)) (or_zero (missing z (client v kernel) step)) f i d (λ w g j. flat_advance z rest w kernel g j (λ s m. d s (inr m)))

pub flat_look : (z : Setting) (v : View) (kernel : ℕ) → Flat v → IsClient (length v.clients) kernel → Flat (look z v kernel)
flat_look z v kernel f i = flat_advance z (client v kernel).waiting v kernel f i (f.fine kernel i).waits

-- the server's own part changes
pub flat_server : (v : View) (bytes : List ℕ) (version : ℕ) (holder : Option ℕ) (uncached : Bool) (opens : List Open) (shared : List StreamNo) → Flat v → Flat (record v { bytes = bytes; version = version; holder = holder; uncached = uncached; opens = opens; shared = shared })
flat_server v bytes version holder uncached opens shared f = record { items = f.items; calls = f.calls; carried = f.carried; numbered = f.numbered; fine = f.fine; sent = f.sent }

flat_settling : (v : View) (one : FileCall) → Flat v → Flat (settling v one)
flat_settling v one f = record {
  items = flat_items (length v.clients) v.stamps (settling v one).stamps v.modes (settling v one).modes v.given (settling v one).given (length-set v.stamps (receiver one - 1) _) (length-set v.modes (receiver one - 1) _) (length-set v.given (receiver one - 1) _) f.items;
  calls = f.calls;
  carried = f.carried;
  numbered = f.numbered;
  fine = f.fine;
  sent = f.sent;
}

granting_answers : (body : FileBody) (grant : FileGrant) → asks body ≡ true → Answers body (granting body grant)
granting_answers (form.Opening pid number stream mode truncate) grant a = tt
granting_answers (form.Move stream place kept grants) grant a = refl
granting_answers body grant a = absurd (cc (a))

pub flat_settle : (v : View) (one : FileCall) → Flat v → In one v.calls → asks one.body ≡ true → Flat (settle v one)
flat_settle v one f m a = flat_answer (settling v one) one (granting one.body (grant_of v one)) (flat_settling v one f) m (granting_answers one.body (grant_of v one) a)

pub flat_stamped : (v : View) (kind : CallKind) (kernel : ℕ) → Flat v → Flat (stamped v kind kernel)
flat_stamped v kind kernel f = record {
  items = flat_items (length v.clients) v.stamps (stamped v kind kernel).stamps v.modes (stamped v kind kernel).modes v.given v.given (length-set v.stamps (kernel - 1) _) (length-set v.modes (kernel - 1) _) refl f.items;
  calls = f.calls;
  carried = f.carried;
  numbered = f.numbered;
  fine = f.fine;
  sent = f.sent;
}

pub flat_call_out : (v : View) (kind : CallKind) (kernel : ℕ) → Flat v → IsClient (length v.clients) kernel → Flat (call_out v kind kernel)
flat_call_out v kind kernel f i = flat_begin (stamped v kind kernel) server kernel (form.Callback (last_stamp v + 1) kind) None (flat_stamped v kind kernel f) (shaped_fresh _ (stamped v kind kernel) server kernel _ None (refl, i) refl (λ p n s m e. absurd (cc (e)))) (λ n e. absurd (cc (e)))

flat_call_back : (kernels : List ℕ) (kind : CallKind) (v : View) → Flat v → ((kernel : ℕ) → In kernel kernels → IsClient (length v.clients) kernel) → Flat (call_back kernels kind v)
flat_call_back [] kind v f i = f
flat_call_back (kernel ∷ rest) kind v f i = flat_call_back rest kind (call_out v kind kernel) (flat_call_out v kind kernel f (i kernel (inl refl))) (λ other m. i other (inr m))

flat_deciding : (v : View) (one : FileCall) (kind : CallKind) (kernels : List ℕ) → Flat v → In one v.calls → asks one.body ≡ true → ((kernel : ℕ) → In kernel kernels → IsClient (length v.clients) kernel) → Flat (deciding v one kind kernels)
flat_deciding v one kind [] f m a i = flat_settle v one f m a
flat_deciding v one kind (kernel ∷ rest) f m a i = flat_call_back (kernel ∷ rest) kind v f i

pub in_numbers : (first count number : ℕ) → In number (numbers_from first count) → (first ≤ number) × (number < first + count)
in_numbers first zero number m = absurd m
in_numbers first (suc count) number (inl e) = (omega (arith, e), omega (arith, e))
in_numbers first (suc count) number (inr m) = let r = in_numbers (first + 1) count number m in let low = r.0 in let high = r.1 in (omega (arith, low), omega (arith, high))

pub among_clients : (v : View) (kernel : ℕ) → In kernel (kernels v) → IsClient (length v.clients) kernel
among_clients v kernel m = let r = in_numbers 1 (length v.clients) kernel m in let low = r.0 in let high = r.1 in (low, omega (arith, high))

pub flat_told : (v : View) (uncached : Bool) → Flat v → Flat (told v uncached)
flat_told v uncached f = flat_server v v.bytes v.version v.holder uncached v.opens v.shared f

flat_decide : (z : Setting) (v : View) (one : FileCall) → Flat v → In one v.calls → asks one.body ≡ true → Flat (decide z v one)
flat_decide z v one f m a =
    flat_deciding (told v (uncached_after z v one)) one (kind_of_calls (uncached_after z v one)) (called_kernels z v one) (flat_told v (uncached_after z v one) f) m a
    (λ kernel n. among_clients v kernel (in_filter (is_called (uncached_after z v one) v one) kernel (kernels v) n).0)

-- a request is taken up
flat_reply_to : (v : View) (one : FileCall) (body reply : FileBody) → one.body ≡ body → Flat v → In one v.calls → Answers body reply → Flat (answer v one reply)
flat_reply_to v one body reply e f m a = flat_answer v one reply f m (subst (λ b. Answers b reply) (sym e) a)

reply_fits : (z : Setting) (pid number stamp : ℕ) (stream : StreamNo) (bytes : List ℕ) (way : Access) → Answers (form.Op pid number stamp stream way) (op_reply z bytes way)
reply_fits z pid number stamp stream bytes (access.Read from many) = tt
reply_fits z pid number stamp stream bytes (access.Write from new) = tt
reply_fits z pid number stamp stream bytes (access.Append new) = choose (Answers (form.Op pid number stamp stream (access.Append new))) (nat_lt z.most (length bytes + length new)) _ _ tt tt

pub flat_serve : (z : Setting) (v : View) (one : FileCall) (body : FileBody) → one.body ≡ body → Flat v → In one v.calls → Flat (serve_body z v one body)
flat_serve z v one (form.Opening pid number stream mode truncate) e f m = flat_decide z v one f m (ap asks e)
flat_serve z v one (form.Move stream place kept grants) e f m = flat_decide z v one f m (ap asks e)
flat_serve z v one (form.Close stream grants) e f m =
    flat_reply_to (with_opens v (take_off v.opens stream one.from grants)) one (form.Close stream grants) form.Done e (flat_server v v.bytes v.version v.holder _ _ _ f) m tt
flat_serve z v one (form.Fetch stamp block) e f m =
    choose Flat (stamp == current_stamp v one.from) _ _ (flat_reply_to v one (form.Fetch stamp block) (form.Block stamp (block_of z v.bytes block)) e f m refl) (flat_reply_to v one (form.Fetch stamp block) (form.Again (current_grant v one.from)) e f m tt)
flat_serve z v one (form.WriteBack stamp block size piece) e f m =
    choose Flat (stamp == current_stamp v one.from) _ _ (flat_reply_to (record v { bytes = _ }) one (form.WriteBack stamp block size piece) form.Done e (flat_server v _ v.version v.holder v.uncached v.opens v.shared f) m tt) (flat_reply_to v one (form.WriteBack stamp block size piece) (form.Again (current_grant v one.from)) e f m tt)
flat_serve z v one (form.Op pid number stamp stream way) e f m =
    choose Flat (stamp == current_stamp v one.from) _ _ (flat_reply_to (record v { bytes = bytes_after z v.bytes way }) one (form.Op pid number stamp stream way) (op_reply z v.bytes way) e (flat_server v (bytes_after z v.bytes way) v.version v.holder v.uncached v.opens v.shared f) m (reply_fits z pid number stamp stream v.bytes way)) (flat_reply_to v one (form.Op pid number stamp stream way) (form.Again (current_grant v one.from)) e f m tt)
flat_serve z v one body e f m = f

-- the other calls stay while one is taken up
call_back_keeps : (kernels : List ℕ) (kind : CallKind) (v : View) (other : FileCall) → In other v.calls → In other (call_back kernels kind v).calls
call_back_keeps [] kind v other n = n
call_back_keeps (kernel ∷ rest) kind v other n = call_back_keeps rest kind (call_out v kind kernel) other (in_left other v.calls _ n)

deciding_keeps : (v : View) (one other : FileCall) (kind : CallKind) (kernels : List ℕ) → In other v.calls → other.number ≢ one.number → In other (deciding v one kind kernels).calls
deciding_keeps v one other kind [] n d = with_in (replied one (granting one.body (grant_of v one))) other v.calls n d
deciding_keeps v one other kind (kernel ∷ rest) n d = call_back_keeps (kernel ∷ rest) kind v other n

pub serve_keeps : (z : Setting) (v : View) (one other : FileCall) (body : FileBody) → In other v.calls → other.number ≢ one.number → In other (serve_body z v one body).calls
serve_keeps z v one other (form.Opening pid number stream mode truncate) n d = deciding_keeps (told v (uncached_after z v one)) one other (kind_of_calls (uncached_after z v one)) (called_kernels z v one) n d
serve_keeps z v one other (form.Move stream place kept grants) n d = deciding_keeps (told v (uncached_after z v one)) one other (kind_of_calls (uncached_after z v one)) (called_kernels z v one) n d
serve_keeps z v one other (form.Close stream grants) n d = with_in (replied one form.Done) other v.calls n d
serve_keeps z v one other (form.Fetch stamp block) n d = choose (λ (w : View). In other w.calls) (stamp == current_stamp v one.from) _ _ (with_in (replied one (form.Block stamp (block_of z v.bytes block))) other v.calls n d) (with_in (replied one (form.Again (current_grant v one.from))) other v.calls n d)
serve_keeps z v one other (form.WriteBack stamp block size piece) n d = choose (λ (w : View). In other w.calls) (stamp == current_stamp v one.from) _ _ (with_in (replied one form.Done) other v.calls n d) (with_in (replied one (form.Again (current_grant v one.from))) other v.calls n d)
serve_keeps z v one other (form.Op pid number stamp stream way) n d = choose (λ (w : View). In other w.calls) (stamp == current_stamp v one.from) _ _ (with_in (replied one (op_reply z v.bytes way)) other v.calls n d) (with_in (replied one (form.Again (current_grant v one.from))) other v.calls n d)
serve_keeps z v one other body n d = n

-- what waits is taken up
abbrev pub number_of : FileCall → ℕ
number_of one = one.number

pub apart_from : (one other : FileCall) (rest : List FileCall) → Unique (numbers (one ∷ rest)) → In other rest → other.number ≢ one.number
apart_from one other rest u m e = u.0 (subst (λ n. In n (numbers rest)) e (map_in number_of other rest m))

flat_serve_all : (z : Setting) (waiting : List FileCall) (v : View) → Flat v → ((one : FileCall) → In one waiting → In one v.calls) → Unique (numbers waiting) → Flat (serve_all z waiting v)
flat_serve_all z [] v f m u = f
flat_serve_all z (one ∷ rest) v f m u =
    choose Flat (busy v) v (serve_all z rest (serve z v one)) f
    (flat_serve_all z rest (serve z v one) (flat_serve z v one one.body refl f (m one (inl refl))) (λ other n. serve_keeps z v one other one.body (m other (inr n)) (apart_from one other rest u n)) u.1)

flat_resume : (z : Setting) (waiting : List FileCall) (v : View) → Flat v → ((one : FileCall) → In one waiting → In one v.calls) → Unique (numbers waiting) → Flat (resume z waiting v)
flat_resume z [] v f m u = f
flat_resume z (one ∷ rest) v f m u =
    choose_by Flat (asks one.body) (serve_all z rest (settle v one)) (serve_all z (one ∷ rest) v)
    (λ a. flat_serve_all z rest (settle v one) (flat_settle v one f (m one (inl refl)) a) (λ other n. with_in (replied one (granting one.body (grant_of v one))) other v.calls (m other (inr n)) (apart_from one other rest u n)) u.1)
    (λ a. flat_serve_all z (one ∷ rest) v f m u)

pub calls_apart : (v : View) → Unique (numbers (things v)) → Unique (numbers v.calls)
calls_apart v u = unique_right _ (numbers v.calls) (subst Unique (map-append number_of _ v.calls) u)

flat_resumed : (z : Setting) (v : View) → Flat v → Flat (resumed z v)
flat_resumed z v f = choose Flat (busy v) v (resume z (waiting_calls v) v) f
    (flat_resume z (waiting_calls v) v f (λ one m. (in_filter waits one v.calls m).0) (unique_filter number_of waits v.calls (calls_apart v f.numbered.differ)))

-- who may send to the server
ends_sender : (count source to : ℕ) (body : FileBody) → Ends count source to body → count ≤ 15 → to ≡ server → IsClient count source
ends_sender count source to (form.Callback stamp kind) e l s = let i = e.1.1 in absurd (omega (arith, i, l, s))
ends_sender count source to (form.Move stream place kept grants) e l s = e.0
ends_sender count source to (form.Opening pid number stream mode truncate) e l s = e.0
ends_sender count source to (form.Close stream grants) e l s = e.0
ends_sender count source to (form.Op pid number stamp stream way) e l s = e.0
ends_sender count source to (form.Fetch stamp block) e l s = e.0
ends_sender count source to (form.WriteBack stamp block size piece) e l s = e.0
ends_sender count source to body e l s = absurd e

pub ends_no_callback : (count source to : ℕ) (body : FileBody) → Ends count source to body → count ≤ 15 → to ≡ server → is_callback body ≡ true → ⊥
ends_no_callback count source to (form.Callback stamp kind) e l s b = let i = e.1.1 in omega (arith, i, l, s)
ends_no_callback count source to body e l s b = cc (b)

pub flat_taken : (v : View) (one : FileCall) → Flat v → In one v.calls → one.to ≡ server → Flat (to_the_end v one)
flat_taken v one f m s =
    let shape : Shaped (length v.clients) one = f.calls one m in
    flat_take v one f m (ends_no_callback (length v.clients) one.from one.to one.body shape.ends f.items.fifteen s) (ends_sender (length v.clients) one.from one.to one.body shape.ends f.items.fifteen s)

flat_request : (z : Setting) (v : View) (one : FileCall) → Flat v → In one v.calls → one.to ≡ server → Flat (request_comes z v one)
flat_request z v one f m s =
    let taken : Flat (to_the_end v one) = flat_taken v one f m s in
    choose Flat (busy v) (to_the_end v one) (serve z (to_the_end v one) (record one { taken = true })) taken (flat_serve z (to_the_end v one) (record one { taken = true }) one.body refl taken (last_in (record one { taken = true }) _))

-- at the clients
pub flat_grant : (v : View) (kernel : ℕ) (grant : FileGrant) → Flat v → IsClient (length v.clients) kernel → Flat (grant_comes v kernel grant)
flat_grant v kernel grant f i = flat_client v kernel (take_grant (client v kernel) grant) f i (fine_take (client v kernel) grant (f.fine kernel i))

pub flat_arrive : (v : View) (kernel : ℕ) (stream : StreamNo) (grant : FileGrant) → Flat v → IsClient (length v.clients) kernel → Flat (arrive v kernel stream grant)
flat_arrive v kernel stream grant f i =
    let taken : Follows (client v kernel) (take_grant (client v kernel) grant) = fine_take (client v kernel) grant (f.fine kernel i) in
    flat_client v kernel (install (take_grant (client v kernel) grant) stream) f i (follows_on (client v kernel) (take_grant (client v kernel) grant) _ taken (fine_install (take_grant (client v kernel) grant) stream taken.fine))

flat_called : (z : Setting) (v : View) (one : FileCall) (stamp : ℕ) (kind : CallKind) → one.body ≡ form.Callback stamp kind → Flat v → In one v.calls → Flat (called_back z v one stamp kind)
flat_called z v one stamp kind e f m =
    let i : IsClient (length v.clients) one.to = (subst (Ends (length v.clients) one.from one.to) e (f.calls one m).ends).1 in
    flat_reply_to (set_client v one.to (take_callback (client v one.to) stamp kind)) one (form.Callback stamp kind) (form.Flushed (client v one.to).size (pieces z (client v one.to).size (client v one.to).blocks)) e
    (flat_client v one.to (take_callback (client v one.to) stamp kind) f i (fine_callback (client v one.to) stamp kind (f.fine one.to i))) m tt

flat_at_client : (z : Setting) (v : View) (one : FileCall) (body : FileBody) → one.body ≡ body → Flat v → In one v.calls → Flat (request_at_client z v one body)
flat_at_client z v one (form.Callback stamp kind) e f m = flat_called z v one stamp kind e f m
flat_at_client z v one body e f m = f

flat_opening : (v : View) (kernel : ℕ) (stream : StreamNo) (reply : Option FileBody) → Flat v → IsClient (length v.clients) kernel → Flat (opening_answered v kernel stream reply)
flat_opening v kernel stream (Some (form.Opened grant)) f i = flat_arrive v kernel stream grant f i
flat_opening v kernel stream reply f i = f

flat_moved : (v : View) (one : FileCall) (stream : StreamNo) (place : ℕ) (kept : Bool) (grants : ℕ) (reply : Option FileBody) → one.body ≡ form.Move stream place kept grants → one.reply ≡ reply → Flat v → In one v.calls → Flat (move_answered (remove_call v one.number) one.number place stream reply)
flat_moved v one stream place kept grants (Some (form.Moved grant more)) e r f m =
    let shape : Shaped (length v.clients) one = f.calls one m in
    let ends : Ends (length v.clients) one.from one.to (form.Move stream place kept grants) = subst (Ends (length v.clients) one.from one.to) e shape.ends in
    let there : Answers (form.Move stream place kept grants) (form.Moved grant more) = subst (λ b. Answers b (form.Moved grant more)) e (shape.fits (form.Moved grant more) r) in
    flat_carried (remove_call v one.number) (record { call = one.number; to = place; stream = stream; grant = grant }) (flat_remove v one f m) (record { client = ends.2; granted = there }) (f.numbered.under one (call_in_things v one m)) (gone v one f.numbered.differ m)
flat_moved v one stream place kept grants reply e r f m = flat_remove v one f m

flat_fetched : (z : Setting) (v : View) (kernel : ℕ) (block : BlockNo) (reply : Option FileBody) → Flat v → IsClient (length v.clients) kernel → Flat (fetch_answered z v kernel block reply)
flat_fetched z v kernel block (Some (form.Block stamp piece)) f i = flat_look z _ kernel (flat_client v kernel (fill z (client v kernel) stamp block piece) f i (fine_fill z (client v kernel) stamp block piece (f.fine kernel i))) (still_client v kernel kernel _ i)
flat_fetched z v kernel block (Some (form.Again grant)) f i = flat_look z _ kernel (flat_grant v kernel grant f i) (still_client v kernel kernel _ i)
flat_fetched z v kernel block reply f i = f

flat_back : (v : View) (kernel stamp : ℕ) (block : BlockNo) (dirty : Option ℕ) (reply : Option FileBody) → Flat v → IsClient (length v.clients) kernel → Flat (write_back_answered v kernel stamp block dirty reply)
flat_back v kernel stamp block dirty (Some form.Done) f i = flat_client v kernel (wrote_back (client v kernel) stamp block.0 dirty) f i (fine_back (client v kernel) stamp block.0 dirty (f.fine kernel i))
flat_back v kernel stamp block dirty (Some (form.Again grant)) f i = flat_grant v kernel grant f i
flat_back v kernel stamp block dirty reply f i = f

flat_operated : (z : Setting) (v : View) (kernel : ℕ) (step : FileStep) (reply : Option FileBody) → Flat v → IsClient (length v.clients) kernel → is_data step ≡ true → Flat (op_answered z v kernel step reply)
flat_operated z v kernel step (Some (form.Again grant)) f i d = flat_start z _ kernel step (flat_grant v kernel grant f i) (still_client v kernel kernel _ i) d
flat_operated z v kernel step reply f i d = f

pub data_step : (pid number kernel : ℕ) (stream : StreamNo) (way : Access) → is_data (step_of pid number kernel stream way) ≡ true
data_step pid number kernel stream (access.Read from many) = refl
data_step pid number kernel stream (access.Write from bytes) = refl
data_step pid number kernel stream (access.Append bytes) = refl

flat_flush : (z : Setting) (v : View) (one : FileCall) (reply : Option FileBody) → Flat v → In one v.calls → Flat (flush_comes z v one reply)
flat_flush z v one (Some (form.Flushed size blocks)) f m = flat_resumed z _ (flat_remove (record v { bytes = store_blocks z v.bytes size blocks; holder = holder_answered v one.to }) one (flat_server v _ v.version _ v.uncached v.opens v.shared f) m)
flat_flush z v one reply f m = f

-- a reply comes
flat_reply : (z : Setting) (v : View) (one : FileCall) (body : FileBody) → one.body ≡ body → Flat v → In one v.calls → Flat (reply_comes z v one body)
flat_reply z v one (form.Callback stamp kind) e f m = flat_flush z v one one.reply f m
flat_reply z v one (form.Opening pid number stream mode truncate) e f m = flat_opening (remove_call v one.number) one.from stream one.reply (flat_remove v one f m) (subst (Ends (length v.clients) one.from one.to) e (f.calls one m).ends).0
flat_reply z v one (form.Move stream place kept grants) e f m = flat_moved v one stream place kept grants one.reply e refl f m
flat_reply z v one (form.Fetch stamp block) e f m = flat_fetched z (remove_call v one.number) one.from block one.reply (flat_remove v one f m) (subst (Ends (length v.clients) one.from one.to) e (f.calls one m).ends).0
flat_reply z v one (form.WriteBack stamp block size piece) e f m = flat_back (remove_call v one.number) one.from stamp block one.dirty one.reply (flat_remove v one f m) (subst (Ends (length v.clients) one.from one.to) e (f.calls one m).ends).0
flat_reply z v one (form.Op pid number stamp stream way) e f m = flat_operated z (remove_call v one.number) one.from (step_of pid number one.from stream way) one.reply (flat_remove v one f m) (subst (Ends (length v.clients) one.from one.to) e (f.calls one m).ends).0 (data_step pid number one.from stream way)
flat_reply z v one body e f m = flat_remove v one f m

flat_call_comes : (z : Setting) (v : View) (one : FileCall) (taken atserver : Bool) → (one.to == server) ≡ atserver → Flat v → In one v.calls → Flat (call_comes z v one taken atserver)
flat_call_comes z v one true atserver e f m = flat_reply z v one one.body refl f m
flat_call_comes z v one false true e f m = flat_request z v one f m (eqb-true one.to server e)
flat_call_comes z v one false false e f m = flat_at_client z v one one.body refl f m

flat_carried_comes : (v : View) (one : Carry) (grant : Option FileGrant) → Flat v → IsClient (length v.clients) one.to → Flat (carried_comes_with v one grant)
flat_carried_comes v one (Some grant) f i = flat_arrive v one.to one.stream grant f i
flat_carried_comes v one None f i = f

flat_delivered : (z : Setting) (v : View) (number : ℕ) (carried : Option Carry) (call : Option FileCall) → find_carried v.carried number ≡ carried → find_call v.calls number ≡ call → Flat v → Flat (delivered z v carried call)
flat_delivered z v number (Some one) call e k f = let m = (carried_found v.carried number one e).0 in flat_carried_comes (record v { carried = without_carried one.call v.carried }) one one.grant (flat_uncarried v one f m) (f.carried one m).client
flat_delivered z v number None (Some one) e k f = flat_call_comes z v one one.taken (one.to == server) refl f (found v.calls number one k).0
flat_delivered z v number None None e k f = f

-- what a client makes
pub flat_closing : (v : View) (kernel : ℕ) (stream : StreamNo) → Flat v → IsClient (length v.clients) kernel → Flat (closing v kernel stream)
flat_closing v kernel stream f i =
    flat_begin (set_client v kernel (uninstall (client v kernel) stream)) kernel server (form.Close stream _) None (flat_client v kernel (uninstall (client v kernel) stream) f i (fine_uninstall (client v kernel) stream (f.fine kernel i))) (shaped_fresh _ (set_client v kernel (uninstall (client v kernel) stream)) kernel server _ None (still_client v kernel kernel _ i, refl) refl (λ p n s m e. absurd (cc (e)))) (λ n e. absurd (cc (e)))

flat_moving : (v : View) (stream : StreamNo) (source place : ℕ) (kept : Bool) → Flat v → IsClient (length v.clients) source → IsClient (length v.clients) place → place ≢ source → Flat (moving v stream source place kept)
flat_moving v stream source place true f i j d = flat_begin v source server (form.Move stream place true 0) None f (shaped_fresh _ v source server _ None (i, refl, j, d) refl (λ p n s m e. absurd (cc (e)))) (λ n e. absurd (cc (e)))
flat_moving v stream source place false f i j d =
    flat_begin (set_client v source (uninstall (client v source) stream)) source server (form.Move stream place false _) None (flat_client v source (uninstall (client v source) stream) f i (fine_uninstall (client v source) stream (f.fine source i))) (shaped_fresh _ (set_client v source (uninstall (client v source) stream)) source server _ None (still_client v source source _ i, refl, still_client v source place _ j, d) refl (λ p n s m e. absurd (cc (e)))) (λ n e. absurd (cc (e)))

flat_back_at : (z : Setting) (v : View) (kernel : ℕ) (one : Held) (dirty : Option ℕ) → one.dirty ≡ dirty → In one (client v kernel).blocks → Flat v → IsClient (length v.clients) kernel → Flat (writing_back_at z v kernel one dirty)
flat_back_at z v kernel one None e m f i = flat_client v kernel (record (client v kernel) { blocks = without_block one.block.0 (client v kernel).blocks }) f i (fine_drop (client v kernel) one.block.0 (f.fine kernel i))
flat_back_at z v kernel one (Some dirty) e m f i =
    flat_begin v kernel server (form.WriteBack (client v kernel).stamp one.block (client v kernel).size _) (Some dirty) f (shaped_fresh _ v kernel server _ (Some dirty) (i, refl) refl (λ p n s k q. absurd (cc (q)))) (λ n q. (f.fine kernel i).owned.under one m n (e ∙ q))

flat_writing_back : (z : Setting) (v : View) (kernel number : ℕ) (o : Option Held) → held (client v kernel).blocks number ≡ o → Flat v → IsClient (length v.clients) kernel → Flat (writing_back z v kernel o)
flat_writing_back z v kernel number (Some one) e f i = flat_back_at z v kernel one one.dirty refl (held_found (client v kernel).blocks number one e).0 f i
flat_writing_back z v kernel number None e f i = f

pub free_client : (v : View) (kernel : ℕ) (stream : StreamNo) → is_free v kernel stream ≡ true → IsClient (length v.clients) kernel
free_client v kernel stream e = client_is v kernel (and_parts (is_client v kernel) _ e).0

opens_write : (truncate : Bool) (mode : Mode) → (not truncate || writes mode) ≡ true → truncate ≡ true → writes mode ≡ true
opens_write true mode e t = e
opens_write false mode e t = absurd (cc (t))

not_same : (source place : ℕ) → not (source == place) ≡ true → place ≢ source
not_same source place e q = by_test (source == place) refl e
  where
    by_test : (b : Bool) → (source == place) ≡ b → not b ≡ true → ⊥
    by_test true k h = cc (h)
    by_test false k h = cc (k, eq-eqb source place (sym q))

pub flat_after : (z : Setting) (v : View) (step : FileStep) → may_do z v step ≡ true → Flat v → Flat (after z v step)
flat_after z v (act.Opening pid number kernel stream mode truncate) e f =
    let p = and_parts (is_client v kernel) _ e in
    let w = (and_parts _ (not truncate || writes mode) p.1).1 in
    flat_begin v kernel server (form.Opening pid number stream mode truncate) None f (shaped_fresh _ v kernel server _ None (client_is v kernel p.0, refl) refl (λ a b c d q. let same : mode ≡ d = cc (q) in let cut : truncate ≡ true = cc (q) in subst (λ x. writes x ≡ true) same (opens_write truncate mode w cut))) (λ n q. absurd (cc (q)))
flat_after z v (act.Closing kernel stream) e f = flat_closing v kernel stream f (free_client v kernel stream e)
flat_after z v (act.Moving stream source place kept) e f =
    let p = and_parts (is_free v source stream) _ e in
    let q = and_parts (is_client v place) (not (source == place)) p.1 in
    flat_moving v stream source place kept f (free_client v source stream p.0) (client_is v place q.0) (not_same source place q.1)
flat_after z v (act.Reading pid number kernel stream from many) e f = flat_start z v kernel (act.Reading pid number kernel stream from many) f (free_client v kernel stream (and_parts _ _ (and_parts _ _ e).0).0) refl
flat_after z v (act.Writing pid number kernel stream from bytes) e f = flat_start z v kernel (act.Writing pid number kernel stream from bytes) f (free_client v kernel stream (and_parts _ _ (and_parts _ _ e).0).0) refl
flat_after z v (act.Append pid number kernel stream bytes) e f = flat_start z v kernel (act.Append pid number kernel stream bytes) f (free_client v kernel stream (and_parts _ _ (and_parts _ _ e).0).0) refl
flat_after z v (act.WritingBack kernel block) e f = flat_writing_back z v kernel block.0 (held (client v kernel).blocks block.0) refl f (client_is v kernel (and_parts (is_client v kernel) _ e).0)
flat_after z v (act.Delivering number) e f = flat_delivered z v number (find_carried v.carried number) (find_call v.calls number) refl refl f
flat_after z v (act.Expiring number) e f = f

pub steps_keep_shapes : (z : Setting) (v : View) (step : FileStep) → Shapes v → Shapes (stepped z v step)
steps_keep_shapes z v step s = choose_by Shapes (possible z v step) (after z v step) v (λ e. shapes_of (after z v step) (flat_after z v step (and_parts (has_room v) (may_do z v step) e).1 (flat_of v s))) (λ e. s)
