-- The second layer of soundness: replies that come, and what clients begin.
use Rattle.std.proofs.Common.{◌≡◌, ◌≤◌, ◌<◌, ℕ, zero, suc, ◌-◌, ◌==◌, Bool, true, false, not, ◌&&◌, ◌||◌, List, [], ◌∷◌, length, Option, Some, None, is_some, refl, sym, ap, ◌∙◌, subst, inl, inr, arith, eqb-true, eq-eqb, slice_index_or}
use Rattle.std.specs.List.{list_any}
use Rattle.std.proofs.lemmas.Bool.{and_parts}
use Rattle.sprite_ids.specs.declared.BlockNo.{BlockNo}
use Rattle.sprite_ids.specs.declared.StreamNo.{StreamNo}
use Rattle.sprite_ids.specs.declared.Mode.{Mode}
use Rattle.sprite_ids.specs.declared.CallKind.{CallKind}
use Rattle.file_views.specs.declared.grant.FileGrant.{FileGrant}
use Rattle.file_views.specs.declared.body.Access.{Access}
use Rattle.file_views.specs.declared.body.Access.TheVariants as access
use Rattle.file_views.specs.declared.body.FileBody.{FileBody}
use Rattle.file_views.specs.declared.body.FileBody.TheVariants as form
use Rattle.file_views.specs.declared.opens.Open.{Open}
use Rattle.file_views.specs.declared.client.Held.{Held}
use Rattle.file_views.specs.declared.client.Client.{Client}
use Rattle.file_views.specs.declared.call.FileCall.{FileCall}
use Rattle.file_views.specs.declared.call.Carry.{Carry}
use Rattle.file_views.specs.declared.step.FileStep.{FileStep}
use Rattle.file_views.specs.declared.step.FileStep.TheVariants as act
use Rattle.file_views.specs.declared.view.View.{View}
use Rattle.file_views.specs.Setting.{Setting}
use Rattle.file_views.specs.Streams.{same_stream, has_stream, copies, stream_mode, or_reading, writes}
use Rattle.file_views.specs.Clients.{new_client, held, fill, wrote_back, take_grant, without_block}
use Rattle.file_views.specs.Views.{server, client, set_client, find_call, find_carried, begin, new_call, remove_call, without_carried}
use Rattle.file_views.specs.Data.{step_of}
use Rattle.file_views.specs.Serving.{store_blocks, holder_answered}
use Rattle.file_views.specs.Steps.{grant_comes, fetch_answered, move_answered, write_back_answered, op_answered, flush_comes, reply_comes, carried_comes_with, call_comes, delivered, closing, moving, writing_back_at, writing_back, after}
use Rattle.file_views.specs.Possible.{has_room, is_client, is_about, works_on, is_in_use, is_named, is_free, is_opened_to, is_free_to, is_due, may_do, possible, stepped}
use Rattle.file_views.specs.Moves.{kernel_of, is_data}
use Rattle.file_views.specs.Here.{In, IsClient}
use Rattle.file_views.specs.SoundShapes.{Ends, Answers, Shapes}
use Rattle.file_views.specs.SoundStreams.{NamedOnce, counted_at, on_way, is_writing, Streams}
use Rattle.file_views.proofs.MemberLaws.{in_filter, found, carried_found, same_call}
use Rattle.file_views.proofs.EffectLaws.{client_set, call_in_things}
use Rattle.file_views.proofs.ClientLaws.{choose_by, fine_fill}
use Rattle.file_views.proofs.CountLaws.{same_is, same_by, neither, has_some}
use Rattle.file_views.proofs.OpenLaws.{mode_is}
use Rattle.file_views.proofs.ShapeLaws.{flat_of, flat_client, flat_remove}
use Rattle.file_views.proofs.ShapeStepLaws.{client_is, still_client, free_client, flat_server}
use Rattle.file_views.proofs.StreamLaws.{StepOpen, StreamRest, FlatStreams, flat_streams, streams_of}
use Rattle.file_views.proofs.StreamChangeLaws.{streams_client, streams_same, rest_removed, counts_removed, streams_remove, not_new, streams_begin, streams_install}
use Rattle.file_views.proofs.StreamGrantLaws.{streams_carried, rest_uncarried, counts_uncarried, streams_leave}
use Rattle.file_views.proofs.StreamServeLaws.{Both, quiet, quiet_way, plain_works, way_by, both_resumed, both_request}
use Rattle.file_views.proofs.StreamStepLaws.{both_start, both_look, both_grant, begin_plain, counts_by, calls_unique, streams_at_client, streams_opened, take_streams, take_waiting}

-- an open that waits isn't of a stream that another call names
named_by : (v : View) (one : FileCall) (stream : StreamNo) → Both v → In one v.calls → is_some one.reply ≡ true → ((t : StreamNo) → is_about t one.body ≡ same_stream t stream) → (other : FileCall) → In other v.calls → other.reply ≡ None → (p c : ℕ) (t : StreamNo) (md : Mode) (tr : Bool) → other.body ≡ form.Opening p c t md tr → same_stream t stream ≡ false
named_by v one stream b m s about other k n p c t md tr q = sym (about t) ∙ (b.streams.rest.new other k n p c t md tr q).calls one m (λ h. let same : one ≡ other = same_call v.calls one other (calls_unique v b) m k h in cc (s, n, ap (λ (x : FileCall). x.reply) same))

-- a move's reply comes
streams_moved : (v : View) (one : FileCall) (stream : StreamNo) (place : ℕ) (kept : Bool) (grants : ℕ) (reply : Option FileBody) → one.body ≡ form.Move stream place kept grants → one.reply ≡ reply → is_some reply ≡ true → Both v → In one v.calls → FlatStreams (move_answered (remove_call v one.number) one.number place stream reply)
streams_moved v one stream place kept grants (Some (form.Moved grant more)) e r s b m =
    streams_carried (remove_call v one.number) (record { call = one.number; to = place; stream = stream; grant = grant }) (rest_removed v one b.streams.rest)
    (counts_by _ _ (remove_call v one.number) (way_by one (form.Move stream place kept grants) (Some (form.Moved grant more)) e r) (counts_removed v one b.flat.numbered.differ m b.streams.counts))
    (λ other k. named_by v one stream b m (ap is_some r) (λ t. ap (is_about t) e) other (in_filter (λ (x : FileCall). not (x.number == one.number)) other v.calls k).0)
streams_moved v one stream place kept grants (Some other) e r s b m = absurd (subst (λ x. Answers x other) e ((b.flat.calls one m).fits other r))
streams_moved v one stream place kept grants None e r s b m = absurd (cc (s))

-- a quiet call is finished
pub both_quiet : (v : View) (one : FileCall) (body : FileBody) → one.body ≡ body → quiet body ≡ true → Both v → In one v.calls → Both (remove_call v one.number)
both_quiet v one body e q b m = record { flat = flat_remove v one b.flat m; streams = streams_remove v one b.flat.numbered.differ m (λ s k. quiet_way s k one.from one.body one.reply (ap quiet e ∙ q)) b.streams }

both_fetched : (z : Setting) (v : View) (kernel : ℕ) (block : BlockNo) (reply : Option FileBody) → Both v → IsClient (length v.clients) kernel → Both (fetch_answered z v kernel block reply)
both_fetched z v kernel block (Some (form.Block stamp piece)) b i =
    both_look z (set_client v kernel (fill z (client v kernel) stamp block piece)) kernel (record { flat = flat_client v kernel (fill z (client v kernel) stamp block piece) b.flat i (fine_fill z (client v kernel) stamp block piece (b.flat.fine kernel i)); streams = streams_client v kernel (fill z (client v kernel) stamp block piece) b.streams i refl (λ s m. m) }) (still_client v kernel kernel _ i)
both_fetched z v kernel block (Some (form.Again grant)) b i = both_look z (grant_comes v kernel grant) kernel (both_grant v kernel grant b i) (still_client v kernel kernel _ i)
both_fetched z v kernel block reply b i = b

streams_back : (v : View) (kernel stamp : ℕ) (block : BlockNo) (dirty : Option ℕ) (reply : Option FileBody) → Both v → IsClient (length v.clients) kernel → FlatStreams (write_back_answered v kernel stamp block dirty reply)
streams_back v kernel stamp block dirty (Some form.Done) b i = streams_client v kernel (wrote_back (client v kernel) stamp block.0 dirty) b.streams i refl (λ s m. m)
streams_back v kernel stamp block dirty (Some (form.Again grant)) b i = (both_grant v kernel grant b i).streams
streams_back v kernel stamp block dirty reply b i = b.streams

streams_operated : (z : Setting) (v : View) (kernel : ℕ) (step : FileStep) (reply : Option FileBody) → Both v → IsClient (length v.clients) kernel → is_data step ≡ true → StepOpen kernel (client v kernel).streams v.opens step → FlatStreams (op_answered z v kernel step reply)
streams_operated z v kernel step (Some (form.Again grant)) b i d o =
    let same : (client (grant_comes v kernel grant) kernel).streams ≡ (client v kernel).streams = ap (λ (x : Client). x.streams) (client_set v kernel (take_grant (client v kernel) grant) i) ∙ take_streams (client v kernel) grant in
    (both_start z (grant_comes v kernel grant) kernel step (both_grant v kernel grant b i) (still_client v kernel kernel _ i) d (subst (λ xs. StepOpen kernel xs v.opens step) (sym same) o)).streams
streams_operated z v kernel step reply b i d o = b.streams

data_way : (pid number kernel : ℕ) (stream : StreamNo) (way : Access) → is_data (step_of pid number kernel stream way) ≡ true
data_way pid number kernel stream (access.Read from many) = refl
data_way pid number kernel stream (access.Write from bytes) = refl
data_way pid number kernel stream (access.Append bytes) = refl

streams_flush : (z : Setting) (v : View) (one : FileCall) (stamp : ℕ) (kind : CallKind) (reply : Option FileBody) → one.body ≡ form.Callback stamp kind → Both v → In one v.calls → FlatStreams (flush_comes z v one reply)
streams_flush z v one stamp kind (Some (form.Flushed size blocks)) e b m =
    let w : View = record v { bytes = store_blocks z v.bytes size blocks; holder = holder_answered v one.to } in
    let c : Both w = record { flat = flat_server v (store_blocks z v.bytes size blocks) v.version (holder_answered v one.to) v.uncached v.opens v.shared b.flat; streams = streams_same v w refl refl refl refl refl b.streams } in
    (both_resumed z (remove_call w one.number) (both_quiet w one (form.Callback stamp kind) e refl c m)).streams
streams_flush z v one stamp kind reply e b m = b.streams

sender_of : (v : View) (one : FileCall) (body : FileBody) → one.body ≡ body → Both v → In one v.calls → Ends (length v.clients) one.from one.to body
sender_of v one body e b m = subst (Ends (length v.clients) one.from one.to) e (b.flat.calls one m).ends

-- a reply comes
streams_reply : (z : Setting) (v : View) (one : FileCall) (body : FileBody) → one.body ≡ body → is_some one.reply ≡ true → Both v → In one v.calls → FlatStreams (reply_comes z v one body)
streams_reply z v one (form.Callback stamp kind) e s b m = streams_flush z v one stamp kind one.reply e b m
streams_reply z v one (form.Opening pid number stream mode truncate) e s b m = streams_opened v one pid number stream mode truncate one.reply e refl s b m
streams_reply z v one (form.Move stream place kept grants) e s b m = streams_moved v one stream place kept grants one.reply e refl s b m
streams_reply z v one (form.Fetch stamp block) e s b m = (both_fetched z (remove_call v one.number) one.from block one.reply (both_quiet v one (form.Fetch stamp block) e refl b m) (sender_of v one _ e b m).0).streams
streams_reply z v one (form.WriteBack stamp block size piece) e s b m = streams_back (remove_call v one.number) one.from stamp block one.dirty one.reply (both_quiet v one (form.WriteBack stamp block size piece) e refl b m) (sender_of v one _ e b m).0
streams_reply z v one (form.Op pid number stamp stream way) e s b m =
    let i : IsClient (length v.clients) one.from = (sender_of v one (form.Op pid number stamp stream way) e b m).0 in
    streams_operated z (remove_call v one.number) one.from (step_of pid number one.from stream way) one.reply (both_quiet v one (form.Op pid number stamp stream way) e refl b m) i (data_way pid number one.from stream way) ((b.streams.rest.works one m i).operates pid number stamp stream way e)
streams_reply z v one (form.Close stream grants) e s b m = streams_remove v one b.flat.numbered.differ m (λ t k. closed t k one.reply refl s) b.streams
  where
    closed : (t : StreamNo) (k : ℕ) (reply : Option FileBody) → one.reply ≡ reply → is_some reply ≡ true → on_way t k one ≡ 0
    closed t k (Some reply) r h = way_by one (form.Close stream grants) (Some reply) e r t k
    closed t k None r h = absurd (cc (h))
streams_reply z v one body e s b m = absurd (sender_of v one body e b m)

streams_call : (z : Setting) (v : View) (one : FileCall) (taken atserver : Bool) → one.taken ≡ taken → (one.to == server) ≡ atserver → (not one.taken || is_some one.reply) ≡ true → Both v → In one v.calls → FlatStreams (call_comes z v one taken atserver)
streams_call z v one true atserver t e d b m = streams_reply z v one one.body refl (subst (λ x. (not x || is_some one.reply) ≡ true) t d) b m
streams_call z v one false true t e d b m = (both_request z v one (no_reply_yet one.reply refl) b m (eqb-true one.to server e)).streams
  where
    no_reply_yet : (reply : Option FileBody) → one.reply ≡ reply → one.reply ≡ None
    no_reply_yet (Some reply) r = absurd (cc (t, (b.flat.calls one m).taken_first reply r))
    no_reply_yet None r = r
streams_call z v one false false t e d b m = streams_at_client z v one one.body refl b m

-- a carried stream comes
streams_carried_comes : (v : View) (one : Carry) (grant : Option FileGrant) → one.grant ≡ grant → Both v → In one v.carried → FlatStreams (carried_comes_with (record v { carried = without_carried one.call v.carried }) one grant)
streams_carried_comes v one (Some grant) e b m =
    let i : IsClient (length v.clients) one.to = (b.flat.carried one m).client in
    streams_install (record v { carried = without_carried one.call v.carried }) one.to (take_grant (client v one.to) grant) one.stream (rest_uncarried v one b.streams.rest) (counts_uncarried v one b.flat.numbered.differ m b.streams.counts) i (take_streams (client v one.to) grant) (take_waiting (client v one.to) grant)
    (λ other k n p c t md tr q. (b.streams.rest.new other k n p c t md tr q).carried one m)
streams_carried_comes v one None e b m = absurd (cc ((b.flat.carried one m).granted, ap is_some e))

streams_delivered : (z : Setting) (v : View) (number : ℕ) (carried : Option Carry) (call : Option FileCall) → find_carried v.carried number ≡ carried → find_call v.calls number ≡ call → is_due carried call ≡ true → Both v → FlatStreams (delivered z v carried call)
streams_delivered z v number (Some one) call e k d b = streams_carried_comes v one one.grant refl b (carried_found v.carried number one e).0
streams_delivered z v number None (Some one) e k d b = streams_call z v one one.taken (one.to == server) refl refl d b (found v.calls number one k).0
streams_delivered z v number None None e k d b = b.streams

-- what a client begins
any_none : {X : Type 0} (p : X → Bool) (xs : List X) → list_any p xs ≡ false → (x : X) → In x xs → p x ≡ false
any_none p [] h x m = absurd m
any_none p (y ∷ ys) h x (inl e) = ap p e ∙ (neither (p y) (list_any p ys) h).0
any_none p (y ∷ ys) h x (inr m) = any_none p ys (neither (p y) (list_any p ys) h).1 x m

is_not : (b : Bool) → not b ≡ true → b ≡ false
is_not true h = absurd (cc (h))
is_not false h = refl

and_second : (a b : Bool) → a ≡ true → (a && b) ≡ false → b ≡ false
and_second true b e h = h
and_second false b e h = absurd (cc (e))

pub record Free (v : View) (kernel : ℕ) (stream : StreamNo) : Type 0 where
  pub is_kernel : IsClient (length v.clients) kernel
  pub installed : has_stream stream (client v kernel).streams ≡ true
  pub idle : (one : FileCall) → In one v.calls → one.from ≡ kernel → is_about stream one.body ≡ false
  pub calm : (step : FileStep) → In step (client v kernel).waiting → works_on stream step ≡ false

pub free_is : (v : View) (kernel : ℕ) (stream : StreamNo) → is_free v kernel stream ≡ true → Free v kernel stream
free_is v kernel stream e =
    let p = and_parts (is_client v kernel) _ e in
    let q = and_parts (has_stream stream (client v kernel).streams) (not (is_in_use v kernel stream)) p.1 in
    let r = neither (list_any (λ (one : FileCall). (one.from == kernel) && is_about stream one.body) v.calls) (list_any (works_on stream) (client v kernel).waiting) (is_not (is_in_use v kernel stream) q.1) in
    record {
      is_kernel = client_is v kernel p.0;
      installed = q.0;
      idle = λ one m k. and_second (one.from == kernel) (is_about stream one.body) (eq-eqb one.from kernel k) (any_none (λ (x : FileCall). (x.from == kernel) && is_about stream x.body) v.calls r.0 one m);
      calm = λ step m. any_none (works_on stream) (client v kernel).waiting r.1 step m;
    }

get_in : {X : Type 0} (xs : List X) (i : ℕ) (d : X) → i < length xs → In (slice_index_or xs i d) xs
get_in [] i d l = absurd (omega (arith, l))
get_in (x ∷ xs) zero d l = inl refl
get_in (x ∷ xs) (suc i) d l = inr (get_in xs i d (omega (arith, l)))

named_once : (v : View) (number : ℕ) (stream : StreamNo) → is_named v stream ≡ false → NamedOnce v number stream
named_once v number stream h =
    let a = neither (has_stream stream v.shared) _ h in
    let b = neither (list_any (λ (one : Open). same_stream stream one.stream) v.opens) _ a.1 in
    let c = neither (list_any (λ (one : FileCall). is_about stream one.body) v.calls) _ b.1 in
    let d = neither (list_any (λ (one : Carry). same_stream stream one.stream) v.carried) _ c.1 in
    let there : (kernel : ℕ) → IsClient (length v.clients) kernel → (has_stream stream (client v kernel).streams ≡ false) × (list_any (works_on stream) (client v kernel).waiting ≡ false) = λ kernel i. neither (has_stream stream (client v kernel).streams) _ (any_none (λ (x : Client). has_stream stream x.streams || list_any (works_on stream) x.waiting) v.clients d.1 (client v kernel) (get_in v.clients (kernel - 1) new_client (omega (arith, i.0, i.1)))) in
    record {
      shared = a.0;
      opens = λ one m. any_none (λ (x : Open). same_stream stream x.stream) v.opens b.0 one m;
      calls = λ one m k. any_none (λ (x : FileCall). is_about stream x.body) v.calls c.0 one m;
      carried = λ one m. any_none (λ (x : Carry). same_stream stream x.stream) v.carried d.0 one m;
      installed = λ kernel i. (there kernel i).0;
      waiting = λ kernel i step m. any_none (works_on stream) (client v kernel).waiting (there kernel i).1 step m;
    }

streams_opening : (v : View) (kernel pid number : ℕ) (stream : StreamNo) (mode : Mode) (truncate : Bool) → Both v → is_named v stream ≡ false → FlatStreams (begin v kernel server (form.Opening pid number stream mode truncate) None)
streams_opening v kernel pid number stream mode truncate b h = streams_begin v kernel server (form.Opening pid number stream mode truncate) None b.flat b.streams (λ s k. refl)
    (λ one m n p c s md tr e. other_open one m s p c md tr e)
    (λ p c s md tr e. let same : stream ≡ s = cc (e) in named_once v v.next s (subst (λ x. is_named v x ≡ false) same h))
    (λ j. plain_works _ _ (new_call v kernel server (form.Opening pid number stream mode truncate) None) refl)
  where
    other_open : (one : FileCall) → In one v.calls → (s : StreamNo) (p c : ℕ) (md : Mode) (tr : Bool) → one.body ≡ form.Opening p c s md tr → same_stream s stream ≡ false
    other_open one m s p c md tr e = by_test (same_stream s stream) refl
      where
        by_test : (x : Bool) → same_stream s stream ≡ x → x ≡ false
        by_test true q = absurd (cc ((named_once v v.next stream h).calls one m (λ k. let low = b.flat.numbered.under one (call_in_things v one m) in omega (arith, k, low)), ap (is_about stream) e, same_by stream s (sym (same_is s stream q))))
        by_test false q = refl

streams_closing : (v : View) (kernel : ℕ) (stream : StreamNo) → Both v → Free v kernel stream → FlatStreams (closing v kernel stream)
streams_closing v kernel stream b f = streams_leave v kernel stream (form.Close stream (copies stream (client v kernel).streams)) b.flat b.streams f.is_kernel f.installed f.idle f.calm (λ other place. refl) (λ other. refl) (λ p n s m t e. cc (e)) (record {
  operates = λ p n s t w e. absurd (cc (e));
  keeps_none = λ n s p g e. absurd (cc (e));
  keeps_stream = λ n s p g e. absurd (cc (e));
  moves_some = λ n s p g e. absurd (cc (e));
  closes_some = λ n s g e. let same : copies stream (client v kernel).streams ≡ g = cc (e) in subst (λ x. 1 ≤ x) same (has_some stream (client v kernel).streams f.installed);
})

streams_away : (v : View) (stream : StreamNo) (source place : ℕ) (kept : Bool) → Both v → Free v source stream → FlatStreams (moving v stream source place kept)
streams_away v stream source place true b f = streams_begin v source server (form.Move stream place true 0) None b.flat b.streams (λ s k. zero_at ((source == k) && same_stream s stream))
    (λ one m n p c s md tr e. not_new v b.streams.rest one m n p c s md tr e source f.is_kernel stream f.installed)
    (λ p c s md tr e. absurd (cc (e)))
    (λ j. record {
      operates = λ p n s t w e. absurd (cc (e));
      keeps_none = λ n s p g e. cc (e);
      keeps_stream = λ n s p g e. let same : stream ≡ s = cc (e) in subst (λ x. has_stream x (client v source).streams ≡ true) same f.installed;
      moves_some = λ n s p g e. absurd (cc (e));
      closes_some = λ n s g e. absurd (cc (e));
    })
  where
    zero_at : (x : Bool) → counted_at 0 x ≡ 0
    zero_at true = refl
    zero_at false = refl
streams_away v stream source place false b f = streams_leave v source stream (form.Move stream place false (copies stream (client v source).streams)) b.flat b.streams f.is_kernel f.installed f.idle f.calm (λ other k. refl) (λ other. refl) (λ p n s m t e. cc (e)) (record {
  operates = λ p n s t w e. absurd (cc (e));
  keeps_none = λ n s p g e. absurd (cc (e));
  keeps_stream = λ n s p g e. absurd (cc (e));
  moves_some = λ n s p g e. let same : copies stream (client v source).streams ≡ g = cc (e) in subst (λ x. 1 ≤ x) same (has_some stream (client v source).streams f.installed);
  closes_some = λ n s g e. absurd (cc (e));
})

-- a process works on a stream that is open for it
opened_mode : (may : Mode → Bool) (o : Option Mode) → is_opened_to may o ≡ true → may (or_reading o) ≡ true
opened_mode may (Some mode) e = e
opened_mode may None e = absurd (cc (e))

works_reading : (v : View) (kernel : ℕ) (stream : StreamNo) (step : FileStep) → Free v kernel stream → ((t : StreamNo) → works_on t step ≡ same_stream t stream) → is_writing step ≡ false → StepOpen kernel (client v kernel).streams v.opens step
works_reading v kernel stream step f works n = record {
  installed = λ t e. subst (λ x. has_stream x (client v kernel).streams ≡ true) (sym (same_is t stream (sym (works t) ∙ e))) f.installed;
  writing = λ w other m k e. absurd (cc (w, n));
}

works_writing : (v : View) (kernel : ℕ) (stream : StreamNo) (step : FileStep) → StreamRest v → Free v kernel stream → ((t : StreamNo) → works_on t step ≡ same_stream t stream) → is_opened_to writes (stream_mode v.opens stream) ≡ true → StepOpen kernel (client v kernel).streams v.opens step
works_writing v kernel stream step r f works o = record {
  installed = λ t e. subst (λ x. has_stream x (client v kernel).streams ≡ true) (sym (same_is t stream (sym (works t) ∙ e))) f.installed;
  writing = λ w other m k e. ap writes (sym (mode_is stream other v.opens r.opens.modes m (sym (same_is other.stream stream (sym (works other.stream) ∙ e))))) ∙ opened_mode writes (stream_mode v.opens stream) o;
}

streams_back_at : (z : Setting) (v : View) (kernel : ℕ) (one : Held) (dirty : Option ℕ) → Both v → IsClient (length v.clients) kernel → FlatStreams (writing_back_at z v kernel one dirty)
streams_back_at z v kernel one None b i = streams_client v kernel (record (client v kernel) { blocks = without_block one.block.0 (client v kernel).blocks }) b.streams i refl (λ s m. m)
streams_back_at z v kernel one (Some dirty) b i = begin_plain v kernel _ (Some dirty) b refl refl (λ s. refl) (λ c d s mode truncate e. cc (e))

streams_writing_back : (z : Setting) (v : View) (kernel : ℕ) (o : Option Held) → Both v → IsClient (length v.clients) kernel → FlatStreams (writing_back z v kernel o)
streams_writing_back z v kernel (Some one) b i = streams_back_at z v kernel one one.dirty b i
streams_writing_back z v kernel None b i = b.streams

pub data_open : (z : Setting) (v : View) (step : FileStep) → is_data step ≡ true → may_do z v step ≡ true → StreamRest v → StepOpen (kernel_of step) (client v (kernel_of step)).streams v.opens step
data_open z v (act.Reading pid number kernel stream from many) d e r = works_reading v kernel stream (act.Reading pid number kernel stream from many) (free_is v kernel stream (and_parts _ _ (and_parts _ _ e).0).0) (λ t. refl) refl
data_open z v (act.Writing pid number kernel stream from bytes) d e r = let p = and_parts (is_free v kernel stream) _ (and_parts (is_free_to writes v kernel stream) _ e).0 in works_writing v kernel stream (act.Writing pid number kernel stream from bytes) r (free_is v kernel stream p.0) (λ t. refl) p.1
data_open z v (act.Append pid number kernel stream bytes) d e r = let p = and_parts (is_free v kernel stream) _ (and_parts (is_free_to writes v kernel stream) _ e).0 in works_writing v kernel stream (act.Append pid number kernel stream bytes) r (free_is v kernel stream p.0) (λ t. refl) p.1
data_open z v step d e r = absurd (cc (d))

streams_after : (z : Setting) (v : View) (step : FileStep) → may_do z v step ≡ true → Both v → FlatStreams (after z v step)
streams_after z v (act.Opening pid number kernel stream mode truncate) e b = let p = and_parts (is_client v kernel) _ e in streams_opening v kernel pid number stream mode truncate b (is_not (is_named v stream) (and_parts (not (is_named v stream)) _ p.1).0)
streams_after z v (act.Closing kernel stream) e b = streams_closing v kernel stream b (free_is v kernel stream e)
streams_after z v (act.Moving stream source place kept) e b = streams_away v stream source place kept b (free_is v source stream (and_parts (is_free v source stream) _ e).0)
streams_after z v (act.Reading pid number kernel stream from many) e b = (both_start z v kernel (act.Reading pid number kernel stream from many) b (free_client v kernel stream (and_parts _ _ (and_parts _ _ e).0).0) refl (data_open z v (act.Reading pid number kernel stream from many) refl e b.streams.rest)).streams
streams_after z v (act.Writing pid number kernel stream from bytes) e b = (both_start z v kernel (act.Writing pid number kernel stream from bytes) b (free_client v kernel stream (and_parts _ _ (and_parts _ _ e).0).0) refl (data_open z v (act.Writing pid number kernel stream from bytes) refl e b.streams.rest)).streams
streams_after z v (act.Append pid number kernel stream bytes) e b = (both_start z v kernel (act.Append pid number kernel stream bytes) b (free_client v kernel stream (and_parts _ _ (and_parts _ _ e).0).0) refl (data_open z v (act.Append pid number kernel stream bytes) refl e b.streams.rest)).streams
streams_after z v (act.WritingBack kernel block) e b = streams_writing_back z v kernel (held (client v kernel).blocks block.0) b (client_is v kernel (and_parts (is_client v kernel) _ e).0)
streams_after z v (act.Delivering number) e b = streams_delivered z v number (find_carried v.carried number) (find_call v.calls number) refl refl e b
streams_after z v (act.Expiring number) e b = b.streams

pub steps_keep_streams : (z : Setting) (v : View) (step : FileStep) → Shapes v → Streams v → Streams (stepped z v step)
steps_keep_streams z v step s t = choose_by Streams (possible z v step) (after z v step) v (λ e. streams_of (after z v step) (streams_after z v step (and_parts (has_room v) (may_do z v step) e).1 (record { flat = flat_of v s; streams = flat_streams v t }))) (λ e. t)
