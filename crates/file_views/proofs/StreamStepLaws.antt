-- The second layer of soundness under each step.
use Rattle.std.proofs.Common.{◌≡◌, ℕ, ◌+◌, ◌==◌, nat_le, nat_lt, Bool, true, false, cond, not, List, [], ◌∷◌, ◌++◌, length, Option, Some, None, is_some, refl, sym, ap, ◌∙◌, subst, inl, inr}
use Rattle.sprite_ids.specs.Lists.{total}
use Rattle.sprite_ids.specs.declared.StreamNo.{StreamNo}
use Rattle.sprite_ids.specs.declared.Mode.{Mode}
use Rattle.sprite_ids.specs.declared.CallKind.{CallKind}
use Rattle.file_views.specs.declared.grant.FileGrant.{FileGrant}
use Rattle.file_views.specs.declared.body.Access.{Access}
use Rattle.file_views.specs.declared.body.Access.TheVariants as access
use Rattle.file_views.specs.declared.body.FileBody.{FileBody}
use Rattle.file_views.specs.declared.body.FileBody.TheVariants as form
use Rattle.file_views.specs.declared.opens.Open.{Open}
use Rattle.file_views.specs.declared.client.Client.{Client}
use Rattle.file_views.specs.declared.call.FileCall.{FileCall}
use Rattle.file_views.specs.declared.step.FileStep.{FileStep}
use Rattle.file_views.specs.declared.step.FileStep.TheVariants as act
use Rattle.file_views.specs.declared.view.View.{View}
use Rattle.file_views.specs.Setting.{Setting}
use Rattle.file_views.specs.Streams.{same_stream, has_stream, copies}
use Rattle.file_views.specs.Clients.{is_on, missing, granted, take_grant, take_callback, write_cached, done_cached}
use Rattle.file_views.specs.Views.{server, client, set_client, things, begin, new_call, remove_call}
use Rattle.file_views.specs.Data.{step_of, send_op, send_fetch, enter_cached, queue, wait_for, started, start_data, unqueue, or_zero, advance, look}
use Rattle.file_views.specs.Steps.{grant_comes, called_back, request_at_client, opening_answered}
use Rattle.file_views.specs.Possible.{is_about}
use Rattle.file_views.specs.Moves.{is_data}
use Rattle.file_views.specs.Here.{In, Unique, IsClient}
use Rattle.file_views.specs.SoundShapes.{Ends, Answers, numbers}
use Rattle.file_views.specs.SoundStreams.{on_way}
use Rattle.file_views.proofs.MemberLaws.{in_last, in_filter, same_call}
use Rattle.file_views.proofs.EffectLaws.{client_set}
use Rattle.file_views.proofs.ClientLaws.{choose}
use Rattle.file_views.proofs.CountLaws.{same_self}
use Rattle.file_views.proofs.ShapeStepLaws.{still_client, flat_send_op, flat_send_fetch, flat_enter, flat_queue, flat_unqueue, flat_grant, calls_apart}
use Rattle.file_views.proofs.StreamLaws.{StepOpen, Works, Counted, FlatStreams}
use Rattle.file_views.proofs.StreamChangeLaws.{streams_client, streams_answer, rest_removed, counts_removed, not_new, streams_begin, streams_wait, streams_install}
use Rattle.file_views.proofs.StreamServeLaws.{Both, quiet, quiet_way, plain, plain_works, way_by}

-- an operation works on an open stream
abbrev pub OpenBody : ℕ → List StreamNo → List Open → FileBody → Type 0
OpenBody kernel streams opens (form.Op pid number stamp stream way) = StepOpen kernel streams opens (step_of pid number kernel stream way)
OpenBody kernel streams opens body = Unit {0}

op_works : (streams : List StreamNo) (opens : List Open) (one : FileCall) (pid number stamp : ℕ) (stream : StreamNo) (way : Access) → one.body ≡ form.Op pid number stamp stream way → StepOpen one.from streams opens (step_of pid number one.from stream way) → Works streams opens one
op_works streams opens one pid number stamp stream way e o = record {
  operates = λ p n s t w q. subst (OpenBody one.from streams opens) (sym e ∙ q) o;
  keeps_none = λ n s place grants q. absurd (cc (e, q));
  keeps_stream = λ n s place grants q. absurd (cc (e, q));
  moves_some = λ n s place grants q. absurd (cc (e, q));
  closes_some = λ n s grants q. absurd (cc (e, q));
}

begin_op : (v : View) (kernel pid number stamp : ℕ) (stream : StreamNo) (way : Access) → Both v → IsClient (length v.clients) kernel → has_stream stream (client v kernel).streams ≡ true → StepOpen kernel (client v kernel).streams v.opens (step_of pid number kernel stream way) → FlatStreams (begin v kernel server (form.Op pid number stamp stream way) None)
begin_op v kernel pid number stamp stream way b i h o = streams_begin v kernel server (form.Op pid number stamp stream way) None b.flat b.streams (λ s k. refl)
    (λ one m n p c s mode truncate e. not_new v b.streams.rest one m n p c s mode truncate e kernel i stream h)
    (λ p c s mode truncate e. absurd (cc (e)))
    (λ j. op_works _ _ (new_call v kernel server (form.Op pid number stamp stream way) None) pid number stamp stream way refl o)

both_send_op : (v : View) (kernel : ℕ) (step : FileStep) → Both v → IsClient (length v.clients) kernel → is_data step ≡ true → StepOpen kernel (client v kernel).streams v.opens step → Both (send_op v kernel step)
both_send_op v kernel (act.Reading pid number place stream from many) b i d o = record { flat = flat_send_op v kernel (act.Reading pid number place stream from many) b.flat i d; streams = begin_op v kernel pid number (client v kernel).stamp stream (access.Read from many) b i (o.installed stream (same_self stream)) (record { installed = o.installed; writing = o.writing }) }
both_send_op v kernel (act.Writing pid number place stream from bytes) b i d o = record { flat = flat_send_op v kernel (act.Writing pid number place stream from bytes) b.flat i d; streams = begin_op v kernel pid number (client v kernel).stamp stream (access.Write from bytes) b i (o.installed stream (same_self stream)) (record { installed = o.installed; writing = o.writing }) }
both_send_op v kernel (act.Append pid number place stream bytes) b i d o = record { flat = flat_send_op v kernel (act.Append pid number place stream bytes) b.flat i d; streams = begin_op v kernel pid number (client v kernel).stamp stream (access.Append bytes) b i (o.installed stream (same_self stream)) (record { installed = o.installed; writing = o.writing }) }
both_send_op v kernel step b i d o = absurd (cc (d))

-- a request that does nothing with a stream begins
pub begin_plain : (v : View) (kernel : ℕ) (body : FileBody) (dirty : Option ℕ) → Both v → quiet body ≡ true → plain body ≡ true → ((stream : StreamNo) → is_about stream body ≡ false) → ((pid number : ℕ) (stream : StreamNo) (mode : Mode) (truncate : Bool) → body ≡ form.Opening pid number stream mode truncate → ⊥) → FlatStreams (begin v kernel server body dirty)
begin_plain v kernel body dirty b q p a n = streams_begin v kernel server body dirty b.flat b.streams (λ s k. quiet_way s k kernel body None q) (λ one m r c d s mode truncate e. a s) (λ c d s mode truncate e. absurd (n c d s mode truncate e)) (λ j. plain_works _ _ (new_call v kernel server body dirty) p)

pub both_fetch : (v : View) (kernel number : ℕ) → Both v → IsClient (length v.clients) kernel → Both (send_fetch v kernel number)
both_fetch v kernel number b i = record { flat = flat_send_fetch v kernel number b.flat i; streams = begin_plain v kernel (form.Fetch (client v kernel).stamp (record { 0 = number })) None b refl refl (λ s. refl) (λ c d s mode truncate e. cc (e)) }

-- the streams and what waits stay at a client
done_streams : (z : Setting) (c : Client) (step : FileStep) → (done_cached z c step).streams ≡ c.streams
done_streams z c (act.Writing pid number kernel stream from bytes) = refl
done_streams z c (act.Append pid number kernel stream bytes) = choose (λ (x : Client). x.streams ≡ c.streams) (nat_lt z.most (c.size + length bytes)) c (write_cached z c c.size bytes) refl refl
done_streams z c step = refl

pub done_waiting : (z : Setting) (c : Client) (step : FileStep) → (done_cached z c step).waiting ≡ c.waiting
done_waiting z c (act.Writing pid number kernel stream from bytes) = refl
done_waiting z c (act.Append pid number kernel stream bytes) = choose (λ (x : Client). x.waiting ≡ c.waiting) (nat_lt z.most (c.size + length bytes)) c (write_cached z c c.size bytes) refl refl
done_waiting z c step = refl

pub take_streams : (c : Client) (grant : FileGrant) → (take_grant c grant).streams ≡ c.streams
take_streams c grant = choose (λ (x : Client). x.streams ≡ c.streams) (nat_le grant.stamp c.stamp) c (granted c grant) refl refl

pub take_waiting : (c : Client) (grant : FileGrant) → (take_grant c grant).waiting ≡ c.waiting
take_waiting c grant = choose (λ (x : Client). x.waiting ≡ c.waiting) (nat_le grant.stamp c.stamp) c (granted c grant) refl refl

both_enter : (z : Setting) (v : View) (kernel : ℕ) (step : FileStep) → Both v → IsClient (length v.clients) kernel → Both (enter_cached z v kernel step)
both_enter z v kernel step b i = record { flat = flat_enter z v kernel step b.flat i; streams = streams_client v kernel (done_cached z (client v kernel) step) b.streams i (done_streams z (client v kernel) step) (λ s m. subst (In s) (done_waiting z (client v kernel) step) m) }

pub both_grant : (v : View) (kernel : ℕ) (grant : FileGrant) → Both v → IsClient (length v.clients) kernel → Both (grant_comes v kernel grant)
both_grant v kernel grant b i = record { flat = flat_grant v kernel grant b.flat i; streams = streams_client v kernel (take_grant (client v kernel) grant) b.streams i (take_streams (client v kernel) grant) (λ s m. subst (In s) (take_waiting (client v kernel) grant) m) }

pub both_queue : (v : View) (kernel : ℕ) (step : FileStep) → Both v → IsClient (length v.clients) kernel → is_data step ≡ true → StepOpen kernel (client v kernel).streams v.opens step → Both (queue v kernel step)
both_queue v kernel step b i d o = record { flat = flat_queue v kernel step b.flat i d; streams = streams_wait v kernel ((client v kernel).waiting ++ step ∷ []) b.streams i (λ s m. elim (in_last s step (client v kernel).waiting m) [ inl k ↦ b.streams.rest.waits kernel i s k | inr e ↦ subst (StepOpen kernel (client v kernel).streams v.opens) (sym e) o ]) }

both_unqueue : (v : View) (kernel : ℕ) (rest : List FileStep) → Both v → IsClient (length v.clients) kernel → ((s : FileStep) → In s rest → is_data s ≡ true) → ((s : FileStep) → In s rest → StepOpen kernel (client v kernel).streams v.opens s) → Both (unqueue v kernel rest)
both_unqueue v kernel rest b i d o = record { flat = flat_unqueue v kernel rest b.flat i d; streams = streams_wait v kernel rest b.streams i o }

both_wait_for : (v : View) (kernel : ℕ) (step : FileStep) (number : ℕ) (waiting : List FileStep) → Both v → IsClient (length v.clients) kernel → is_data step ≡ true → StepOpen kernel (client v kernel).streams v.opens step → Both (wait_for v kernel step number waiting)
both_wait_for v kernel step number [] b i d o = both_fetch (queue v kernel step) kernel number (both_queue v kernel step b i d o) (still_client v kernel kernel _ i)
both_wait_for v kernel step number (first ∷ rest) b i d o = both_queue v kernel step b i d o

both_started : (z : Setting) (v : View) (kernel : ℕ) (step : FileStep) (on : Bool) (gap : Option ℕ) → Both v → IsClient (length v.clients) kernel → is_data step ≡ true → StepOpen kernel (client v kernel).streams v.opens step → Both (started z v kernel step on gap)
both_started z v kernel step false gap b i d o = both_send_op v kernel step b i d o
both_started z v kernel step true None b i d o = both_enter z v kernel step b i
both_started z v kernel step true (Some number) b i d o = both_wait_for v kernel step number (client v kernel).waiting b i d o

pub both_start : (z : Setting) (v : View) (kernel : ℕ) (step : FileStep) → Both v → IsClient (length v.clients) kernel → is_data step ≡ true → StepOpen kernel (client v kernel).streams v.opens step → Both (start_data z v kernel step)
both_start z v kernel step b i d o = both_started z v kernel step (is_on (client v kernel).mode) (missing z (client v kernel) step) b i d o

-- what waits looks again
both_turn : (z : Setting) (step : FileStep) (rest : List FileStep) (v : View) (kernel : ℕ) (on gap : Bool) (number : ℕ) → Both v → IsClient (length v.clients) kernel → ((s : FileStep) → In s (step ∷ rest) → is_data s ≡ true) → ((s : FileStep) → In s (step ∷ rest) → StepOpen kernel (client v kernel).streams v.opens s) →
    ((w : View) → Both w → IsClient (length w.clients) kernel → ((s : FileStep) → In s rest → StepOpen kernel (client w kernel).streams w.opens s) → Both (advance z rest w kernel)) →
    Both (cond on (cond gap (send_fetch v kernel number) (advance z rest (enter_cached z (unqueue v kernel rest) kernel step) kernel)) (advance z rest (send_op (unqueue v kernel rest) kernel step) kernel))
both_turn z step rest v kernel true true number b i d o go = both_fetch v kernel number b i
both_turn z step rest v kernel true false number b i d o go =
    let j : IsClient (length (unqueue v kernel rest).clients) kernel = still_client v kernel kernel _ i in
    let u : Both (unqueue v kernel rest) = both_unqueue v kernel rest b i (λ s m. d s (inr m)) (λ s m. o s (inr m)) in
    let same : (client (enter_cached z (unqueue v kernel rest) kernel step) kernel).streams ≡ (client v kernel).streams = ap (λ (x : Client). x.streams) (client_set (unqueue v kernel rest) kernel _ j) ∙ done_streams z (client (unqueue v kernel rest) kernel) step ∙ ap (λ (x : Client). x.streams) (client_set v kernel _ i) in
    go (enter_cached z (unqueue v kernel rest) kernel step) (both_enter z (unqueue v kernel rest) kernel step u j) (still_client (unqueue v kernel rest) kernel kernel _ j) (λ s m. subst (λ xs. StepOpen kernel xs v.opens s) (sym same) (o s (inr m)))
both_turn z step rest v kernel false gap number b i d o go =
    let j : IsClient (length (unqueue v kernel rest).clients) kernel = still_client v kernel kernel _ i in
    let u : Both (unqueue v kernel rest) = both_unqueue v kernel rest b i (λ s m. d s (inr m)) (λ s m. o s (inr m)) in
    let same : (client (unqueue v kernel rest) kernel).streams ≡ (client v kernel).streams = ap (λ (x : Client). x.streams) (client_set v kernel _ i) in
    go (send_op (unqueue v kernel rest) kernel step) (both_send_op (unqueue v kernel rest) kernel step u j (d step (inl refl)) (subst (λ xs. StepOpen kernel xs v.opens step) (sym same) (o step (inl refl)))) j (λ s m. subst (λ xs. StepOpen kernel xs v.opens s) (sym same) (o s (inr m)))

both_advance : (z : Setting) (waiting : List FileStep) (v : View) (kernel : ℕ) → Both v → IsClient (length v.clients) kernel → ((s : FileStep) → In s waiting → is_data s ≡ true) → ((s : FileStep) → In s waiting → StepOpen kernel (client v kernel).streams v.opens s) → Both (advance z waiting v kernel)
both_advance z [] v kernel b i d o = b
both_advance z (step ∷ rest) v kernel b i d o =
    both_turn z step rest v kernel (is_on (client v kernel).mode) (is_some (missing z (client v kernel) step)) (or_zero (missing z (client v kernel) step)) b i d o (λ w g j p. both_advance z rest w kernel g j (λ s m. d s (inr m)) p)

pub both_look : (z : Setting) (v : View) (kernel : ℕ) → Both v → IsClient (length v.clients) kernel → Both (look z v kernel)
both_look z v kernel b i = both_advance z (client v kernel).waiting v kernel b i (b.flat.fine kernel i).waits (b.streams.rest.waits kernel i)

-- a callback comes to a client
streams_called : (z : Setting) (v : View) (one : FileCall) (stamp : ℕ) (kind : CallKind) → one.body ≡ form.Callback stamp kind → Both v → In one v.calls → FlatStreams (called_back z v one stamp kind)
streams_called z v one stamp kind e b m =
    let i : IsClient (length v.clients) one.to = (subst (Ends (length v.clients) one.from one.to) e (b.flat.calls one m).ends).1 in
    streams_answer (set_client v one.to (take_callback (client v one.to) stamp kind)) one _ b.flat.numbered.differ m (λ s k. quiet_way s k one.from one.body _ (ap quiet e) ∙ sym (quiet_way s k one.from one.body one.reply (ap quiet e)))
    (streams_client v one.to (take_callback (client v one.to) stamp kind) b.streams i refl (λ s n. n))

pub streams_at_client : (z : Setting) (v : View) (one : FileCall) (body : FileBody) → one.body ≡ body → Both v → In one v.calls → FlatStreams (request_at_client z v one body)
streams_at_client z v one (form.Callback stamp kind) e b m = streams_called z v one stamp kind e b m
streams_at_client z v one body e b m = b.streams

-- the numbers of the calls differ
pub calls_unique : (v : View) → Both v → Unique (numbers v.calls)
calls_unique v b = calls_apart v b.flat.numbered.differ

-- an open's reply comes
pub counts_by : (more less : StreamNo → ℕ → ℕ) (v : View) → ((stream : StreamNo) (kernel : ℕ) → more stream kernel ≡ less stream kernel) → Counted more v → Counted less v
counts_by more less v e c kernel i stream = c kernel i stream ∙ ap (λ n. copies stream (client v kernel).streams + total (on_way stream kernel) (things v) + n) (e stream kernel)

pub streams_opened : (v : View) (one : FileCall) (pid number : ℕ) (stream : StreamNo) (mode : Mode) (truncate : Bool) (reply : Option FileBody) → one.body ≡ form.Opening pid number stream mode truncate → one.reply ≡ reply → is_some reply ≡ true → Both v → In one v.calls → FlatStreams (opening_answered (remove_call v one.number) one.from stream reply)
streams_opened v one pid number stream mode truncate (Some (form.Opened grant)) e r s b m =
    let i : IsClient (length v.clients) one.from = (subst (Ends (length v.clients) one.from one.to) e (b.flat.calls one m).ends).0 in
    streams_install (remove_call v one.number) one.from (take_grant (client v one.from) grant) stream (rest_removed v one b.streams.rest)
    (counts_by _ _ (remove_call v one.number) (way_by one (form.Opening pid number stream mode truncate) (Some (form.Opened grant)) e r) (counts_removed v one b.flat.numbered.differ m b.streams.counts)) i (take_streams (client v one.from) grant) (take_waiting (client v one.from) grant)
    (λ other k n p c t md tr q. apart other (in_filter (λ (x : FileCall). not (x.number == one.number)) other v.calls k).0 n p c t md tr q)
  where
    apart : (other : FileCall) → In other v.calls → other.reply ≡ None → (p c : ℕ) (t : StreamNo) (md : Mode) (tr : Bool) → other.body ≡ form.Opening p c t md tr → same_stream t stream ≡ false
    apart other k n p c t md tr q = sym (ap (is_about t) e) ∙ (b.streams.rest.new other k n p c t md tr q).calls one m (λ h. let same : one ≡ other = same_call v.calls one other (calls_unique v b) m k h in cc (r, n, ap (λ (x : FileCall). x.reply) same))
streams_opened v one pid number stream mode truncate (Some other) e r s b m = absurd (subst (λ x. Answers x other) e ((b.flat.calls one m).fits other r))
streams_opened v one pid number stream mode truncate None e r s b m = absurd (cc (s))
