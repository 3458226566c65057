-- A step of a file that nobody has open, and that no client may cache: nothing takes effect, or an open does.
use Rattle.std.proofs.Common.{◌≡◌, ◌≤◌, ◌<◌, ◌⊎◌, ℕ, ◌+◌, ◌-◌, ◌==◌, Bool, true, false, cond, not, ◌&&◌, ◌||◌, is_some, List, [], ◌∷◌, length, filter, map, Option, Some, None, refl, sym, ap, ap₂, ◌∙◌, subst, inl, inr, arith, eqb-true, eq-eqb}
use Rattle.std.specs.List.{list_any}
use Rattle.std.proofs.lemmas.Bool.{and_parts, or_parts, and_right}
use Rattle.std.proofs.lemmas.List.Folds.{list_any-append}
use Rattle.sprite_ids.specs.Lists.{total}
use Rattle.sprite_ids.specs.declared.BlockNo.{BlockNo}
use Rattle.sprite_ids.specs.declared.StreamNo.{StreamNo}
use Rattle.sprite_ids.specs.declared.Mode.{Mode}
use Rattle.file_views.specs.declared.grant.FileGrant.{FileGrant}
use Rattle.file_views.specs.declared.body.Access.{Access}
use Rattle.file_views.specs.declared.body.FileBody.{FileBody}
use Rattle.file_views.specs.declared.body.FileBody.TheVariants as form
use Rattle.file_views.specs.declared.call.FileCall.{FileCall}
use Rattle.file_views.specs.declared.call.Carry.{Carry}
use Rattle.file_views.specs.declared.client.Held.{Held}
use Rattle.file_views.specs.declared.opens.Open.{Open}
use Rattle.file_views.specs.declared.step.FileStep.{FileStep}
use Rattle.file_views.specs.declared.step.FileStep.TheVariants as act
use Rattle.file_views.specs.declared.view.View.{View}
use Rattle.file_views.specs.declared.entered.Entered.{Entered}
use Rattle.file_views.specs.Setting.{Setting}
use Rattle.file_views.specs.Streams.{reads, has_stream, counted, writes, take_off, has_open, is_write_shared, is_any}
use Rattle.file_views.specs.Clients.{is_on, held}
use Rattle.file_views.specs.Views.{server, client, current_stamp, mode_given, is_holder, is_kernel, kernels, as_call, things, is_callback, busy, find_call, find_carried, without_call, with_call, replied, answer, remove_call, to_the_end}
use Rattle.file_views.specs.Grants.{shared_after, opens_after, truncates, receiver, asks_to_write, uncached_after, is_called, called_kernels, kind_of_calls, told, settle, deciding, decide}
use Rattle.file_views.specs.Serving.{with_opens, store, refuse_old, serve_body, serve, request_comes}
use Rattle.file_views.specs.Steps.{request_at_client, write_back_answered, reply_comes, call_comes, delivered, after}
use Rattle.file_views.specs.Possible.{has_room, is_client, works_on, is_free, is_free_to, may_write_back, is_due, may_do, possible, stepped}
use Rattle.file_views.specs.Moves.{is_data, is_fetch}
use Rattle.file_views.specs.Entries.{enters_settled, enters_deciding, enters_served, enters_request, enters_reply, enters_call, enters_delivered, enters_after, entered}
use Rattle.file_views.specs.Settled.{arrival}
use Rattle.file_views.specs.Here.{In, IsClient, at_kernel, about}
use Rattle.file_views.specs.SoundShapes.{Ends, Answers, Shaped}
use Rattle.file_views.specs.SoundStreams.{counted_at, on_way_of, on_way}
use Rattle.file_views.specs.Sound.{Sound}
use Rattle.file_views.proofs.MemberLaws.{found, carried_found, in_left, map_in, filter_in}
use Rattle.file_views.proofs.EffectLaws.{call_in_things}
use Rattle.file_views.proofs.ClientLaws.{choose_by}
use Rattle.file_views.proofs.CountLaws.{same_by, has_some, or_left}
use Rattle.file_views.proofs.ShapeLaws.{flat_of}
use Rattle.file_views.proofs.ShapeStepLaws.{client_is}
use Rattle.file_views.proofs.StreamLaws.{flat_streams}
use Rattle.file_views.proofs.ModeServeLaws.{arrival_open}
use Rattle.file_views.proofs.DecisionLaws.{busy_there}
use Rattle.file_views.proofs.WorkLaws.{choose_two}
use Rattle.restart_views.specs.ColdSteps.{is_open_step, read_opens, Cold}
use Rattle.restart_views.proofs.ViewLaws.{any_none}
use Rattle.restart_views.proofs.CalmLaws.{not_dirty}

-- nobody has the file open, and no callback is out
pub record Shut (v : View) : Type 0 where
  pub opens : v.opens ≡ []
  pub idle : busy v ≡ false

-- nothing took effect, and the server's part is as it was; or an open took effect, which raised the version
abbrev pub Nothing : View → View → List Entered → Type 0
Nothing v w es = (es ≡ []) × (w.opens ≡ []) × (busy w ≡ false) × (w.version ≡ v.version) × (w.bytes ≡ v.bytes)

pub record Opened (v w : View) (es : List Entered) : Type 0 where
  pub one : Entered
  pub is : es ≡ one ∷ []
  pub opens : is_open_step one.step ≡ true
  pub raises : v.version < w.version + read_opens es

abbrev pub Either : View → View → List Entered → Type 0
Either v w es = Nothing v w es ⊎ Opened v w es

-- lists without callbacks
abbrev is_back : FileCall → Bool
is_back one = is_callback one.body

any_filter : {X : Type 0} (p q : X → Bool) (xs : List X) → list_any p xs ≡ false → list_any p (filter q xs) ≡ false
any_filter p q [] e = refl
any_filter p q (x ∷ xs) e = let n = or_parts (p x) (list_any p xs) e in choose_by (λ ys. list_any p ys ≡ false) (q x) (x ∷ filter q xs) (filter q xs) (λ k. ap₂ (λ a b. a || b) n.0 (any_filter p q xs n.1)) (λ k. any_filter p q xs n.1)

any_with : (new : FileCall) (calls : List FileCall) → is_callback new.body ≡ false → list_any is_back calls ≡ false → list_any is_back (with_call new calls) ≡ false
any_with new [] c e = refl
any_with new (x ∷ xs) c e = let n = or_parts (is_back x) (list_any is_back xs) e in ap₂ (λ a b. a || b) (choose_by (λ y. is_back y ≡ false) (x.number == new.number) new x (λ k. c) (λ k. n.0)) (any_with new xs c n.1)

filter_none : {X : Type 0} (p : X → Bool) (xs : List X) → ((x : X) → p x ≡ false) → filter p xs ≡ []
filter_none p [] f = refl
filter_none p (x ∷ xs) f = ap (λ b. cond b (x ∷ filter p xs) (filter p xs)) (f x) ∙ filter_none p xs f

total_ge : {X : Type 0} (f : X → ℕ) (xs : List X) (x : X) → In x xs → f x ≤ total f xs
total_ge f [] x m = absurd m
total_ge f (y ∷ ys) x (inl e) = let k = ap f e in omega (arith, k)
total_ge f (y ∷ ys) x (inr m) = let h = total_ge f ys x m in omega (arith, h)

-- no stream is installed, or on its way off
none_counted : (v : View) (kernel : ℕ) (stream : StreamNo) → v.opens ≡ [] → total (counted stream kernel) (at_kernel v kernel).opened ≡ 0
none_counted v kernel stream o = ap (λ os. total (counted stream kernel) (filter (λ (x : Open). x.kernel == kernel) os)) o

no_stream : (z : Setting) (v : View) → Sound z v → Shut v → (kernel : ℕ) → IsClient (length v.clients) kernel → (stream : StreamNo) → has_stream stream (client v kernel).streams ≡ true → ⊥
no_stream z v s h kernel i stream e = let g = (s.streams.each kernel i).counts stream in let n = none_counted v kernel stream h.opens in let k = has_some stream (client v kernel).streams e in omega (arith, g, n, k)

no_grants : (z : Setting) (v : View) → Sound z v → Shut v → (kernel : ℕ) → IsClient (length v.clients) kernel → (stream : StreamNo) (one : FileCall) → In one (at_kernel v kernel).calls → 1 ≤ on_way stream kernel one → ⊥
no_grants z v s h kernel i stream one m l = let g = (s.streams.each kernel i).counts stream in let n = none_counted v kernel stream h.opens in let k = total_ge (on_way stream kernel) (at_kernel v kernel).calls one m in omega (arith, g, n, k, l)

not_free : (z : Setting) (v : View) → Sound z v → Shut v → (kernel : ℕ) (stream : StreamNo) → is_free v kernel stream ≡ true → ⊥
not_free z v s h kernel stream e = let p = and_parts (is_client v kernel) _ e in no_stream z v s h kernel (client_is v kernel p.0) stream (and_parts (has_stream stream (client v kernel).streams) _ p.1).0

not_free_to : (z : Setting) (v : View) → Sound z v → Shut v → (may : Mode → Bool) (kernel : ℕ) (stream : StreamNo) → is_free_to may v kernel stream ≡ true → ⊥
not_free_to z v s h may kernel stream e = not_free z v s h kernel stream (and_parts (is_free v kernel stream) _ e).0

no_arrival : (z : Setting) (v : View) → Sound z v → Shut v → (one : FileCall) → In one (things v) → (grant : FileGrant) → arrival one.reply ≡ Some grant → ⊥
no_arrival z v s h one m grant a = let k = arrival_open v (flat_of v s.shapes) (flat_streams v s.streams) one m grant a in let o = ap is_any h.opens in cc (k, o)

no_callback : (v : View) → Shut v → (one : FileCall) → In one v.calls → is_callback one.body ≡ true → ⊥
no_callback v h one m c = let k = busy_there v.calls one m c in let i = h.idle in cc (k, i)

plain_call : (v : View) → Shut v → (one : FileCall) → In one v.calls → is_callback one.body ≡ false
plain_call v h one m = any_none is_back v.calls h.idle one m

-- nothing waits at a client
stream_in : (step : FileStep) → is_data step ≡ true → (stream : StreamNo) × (works_on stream step ≡ true)
stream_in (act.Reading pid number kernel stream from many) e = (stream, same_by stream stream refl)
stream_in (act.Writing pid number kernel stream from bytes) e = (stream, same_by stream stream refl)
stream_in (act.Append pid number kernel stream bytes) e = (stream, same_by stream stream refl)
stream_in step e = absurd (cc (e))

none_waits : (z : Setting) (v : View) → Sound z v → Shut v → (kernel : ℕ) → IsClient (length v.clients) kernel → (waiting : List FileStep) → (client v kernel).waiting ≡ waiting → is_any waiting ≡ true → ⊥
none_waits z v s h kernel i [] e n = cc (n)
none_waits z v s h kernel i (step ∷ rest) e n =
    let m : In step (client v kernel).waiting = subst (In step) (sym e) (inl refl) in
    let t = stream_in step ((s.shapes.each kernel i).waits step m) in
    no_stream z v s h kernel i t.0 ((s.streams.each kernel i).working.waits_open step m t.0 t.1)

by_sender : (v : View) (one : FileCall) → In one v.calls → In one (at_kernel v one.from).calls
by_sender v one m = filter_in (about one.from) one (things v) (call_in_things v one m) (or_left (one.from == one.from) _ (eq-eqb one.from one.from refl))

sender_of : (z : Setting) (v : View) (one : FileCall) (body : FileBody) → one.body ≡ body → Sound z v → In one v.calls → Ends (length v.clients) one.from one.to body
sender_of z v one body e s m = subst (Ends (length v.clients) one.from one.to) e (s.shapes.calls one m).ends

no_op : (z : Setting) (v : View) → Sound z v → Shut v → (one : FileCall) → In one v.calls → (pid number stamp : ℕ) (stream : StreamNo) (way : Access) → one.body ≡ form.Op pid number stamp stream way → ⊥
no_op z v s h one m pid number stamp stream way e =
    let i : IsClient (length v.clients) one.from = (sender_of z v one _ e s m).0 in
    no_stream z v s h one.from i stream ((s.streams.each one.from i).working.operates one (by_sender v one m) refl pid number stamp stream way e)

no_fetch : (z : Setting) (v : View) → Sound z v → Shut v → (one : FileCall) → In one v.calls → (stamp : ℕ) (block : BlockNo) → one.body ≡ form.Fetch stamp block → ⊥
no_fetch z v s h one m stamp block e =
    let i : IsClient (length v.clients) one.from = (sender_of z v one _ e s m).0 in
    none_waits z v s h one.from i (client v one.from).waiting refl ((s.requests.each one.from i).asking.fetch_waits one (by_sender v one m) refl (ap is_fetch e))

-- replies come
fresh_removed : (v : View) (number : ℕ) → Shut v → Nothing v (remove_call v number) []
fresh_removed v number h = (refl, h.opens, any_filter is_back (λ one. not (one.number == number)) v.calls h.idle, refl, refl)

fresh_written : (v : View) (number kernel stamp : ℕ) (block : BlockNo) (dirty : Option ℕ) (reply : Option FileBody) → Shut v → Nothing v (write_back_answered (remove_call v number) kernel stamp block dirty reply) []
fresh_written v number kernel stamp block dirty (Some form.Done) h = fresh_removed v number h
fresh_written v number kernel stamp block dirty (Some (form.Again grant)) h = fresh_removed v number h
fresh_written v number kernel stamp block dirty reply h = fresh_removed v number h

no_opened : (z : Setting) (v : View) → Sound z v → Shut v → (one : FileCall) → In one v.calls → (pid number : ℕ) (stream : StreamNo) (mode : Mode) (truncate : Bool) (reply : FileBody) → one.body ≡ form.Opening pid number stream mode truncate → one.reply ≡ Some reply → ⊥
no_opened z v s h one m pid number stream mode truncate (form.Opened grant) e r = no_arrival z v s h one (call_in_things v one m) grant (ap arrival r)
no_opened z v s h one m pid number stream mode truncate reply e r = subst (λ b. Answers b reply) e ((s.shapes.calls one m).fits reply r)

no_moved : (z : Setting) (v : View) → Sound z v → Shut v → (one : FileCall) → In one v.calls → (stream : StreamNo) (place : ℕ) (kept : Bool) (grants : ℕ) (reply : FileBody) → one.body ≡ form.Move stream place kept grants → one.reply ≡ Some reply → ⊥
no_moved z v s h one m stream place kept grants (form.Moved (Some grant) more) e r = no_arrival z v s h one (call_in_things v one m) grant (ap arrival r)
no_moved z v s h one m stream place kept grants (form.Moved None more) e r = let k : Answers (form.Move stream place kept grants) (form.Moved None more) = subst (λ b. Answers b (form.Moved None more)) e ((s.shapes.calls one m).fits (form.Moved None more) r) in cc (k)
no_moved z v s h one m stream place kept grants reply e r = subst (λ b. Answers b reply) e ((s.shapes.calls one m).fits reply r)

fresh_reply : (z : Setting) (v : View) → Sound z v → Shut v → (one : FileCall) (body reply : FileBody) → In one v.calls → one.body ≡ body → one.reply ≡ Some reply → Nothing v (reply_comes z v one body) (enters_reply z v one body)
fresh_reply z v s h one (form.Callback stamp kind) reply m e r = absurd (no_callback v h one m (ap is_callback e))
fresh_reply z v s h one (form.Opening pid number stream mode truncate) reply m e r = absurd (no_opened z v s h one m pid number stream mode truncate reply e r)
fresh_reply z v s h one (form.Move stream place kept grants) reply m e r = absurd (no_moved z v s h one m stream place kept grants reply e r)
fresh_reply z v s h one (form.Fetch stamp block) reply m e r = absurd (no_fetch z v s h one m stamp block e)
fresh_reply z v s h one (form.WriteBack stamp block size piece) reply m e r = fresh_written v one.number one.from stamp block one.dirty one.reply h
fresh_reply z v s h one (form.Op pid number stamp stream way) reply m e r = absurd (no_op z v s h one m pid number stamp stream way e)
fresh_reply z v s h one body reply m e r = fresh_removed v one.number h

-- requests come
taken_shut : (v : View) (one : FileCall) → Shut v → In one v.calls → Shut (to_the_end v one)
taken_shut v one h m = record {
  opens = h.opens;
  idle = list_any-append is_back (without_call one.number v.calls) (record one { taken = true } ∷ []) ∙ ap₂ (λ a b. a || (b || false)) (any_filter is_back (λ x. not (x.number == one.number)) v.calls h.idle) (plain_call v h one m);
}

answered_left : (v w : View) (one : FileCall) (reply : FileBody) → Shut w → is_callback one.body ≡ false → w.version ≡ v.version → w.bytes ≡ v.bytes → Nothing v (answer w one reply) []
answered_left v w one reply h c e b = (refl, h.opens, any_with (replied one reply) w.calls c h.idle, e, b)

raise_by : (t w h : Bool) (n : ℕ) → (t ≡ true → w ≡ true) → h ≡ false → n < cond (t || (w && not h)) (n + 1) n + cond (not w) (0 + 1) 0
raise_by true true h n f e = omega arith
raise_by true false h n f e = absurd (let k = f refl in cc (k))
raise_by false true false n f e = omega arith
raise_by false true true n f e = absurd (cc (e))
raise_by false false h n f e = omega arith

fresh_opening : (z : Setting) (v w : View) (one : FileCall) (pid number : ℕ) (stream : StreamNo) (mode : Mode) (truncate : Bool) → one.body ≡ form.Opening pid number stream mode truncate → (truncate ≡ true → writes mode ≡ true) → w.version ≡ v.version → w.holder ≡ None → w.uncached ≡ true → w.opens ≡ [] → ((place : ℕ) → is_on (mode_given w place) ≡ false) → Opened v (decide z w one) (enters_deciding one (called_kernels z w one))
fresh_opening z v w one pid number stream mode truncate e t n h u o g =
    subst (λ c. Opened v (deciding (told w (uncached_after z w one)) one (kind_of_calls (uncached_after z w one)) c) (enters_deciding one c)) (sym called)
    (subst (λ b. Opened v (settle (told w b) one) (enters_settled one one.body)) (sym uncached) (record {
      one = it;
      is = ap (enters_settled one) e;
      opens = refl;
      raises = subst (λ m. m < (settle (told w true) one).version + read_opens (enters_settled one one.body)) n
          (subst (λ es. w.version < (settle (told w true) one).version + read_opens es) (sym (ap (enters_settled one) e))
          (subst (λ b. w.version < cond (truncates b || (asks_to_write w.opens b && not (is_holder w (receiver one)))) (w.version + 1) w.version + cond (not (writes mode)) (0 + 1) 0) (sym e)
          (raise_by truncate (writes mode) (is_holder w (receiver one)) w.version t (ap (is_kernel (receiver one)) h))));
    }))
  where
    it : Entered
    it = record { kernel = server; step = act.Opening pid number one.from stream mode truncate; reply = form.Value 0 0 [] }

    uncached : uncached_after z w one ≡ true
    uncached = ap (λ b. b || (not z.cached || (is_any (shared_after w.shared one.body) || (is_write_shared (opens_after w.opens one.from one.body) || (truncates one.body && is_any w.opens))))) u

    called : called_kernels z w one ≡ []
    called = filter_none (is_called (uncached_after z w one) w one) (kernels w) (λ kernel. ap (λ b. is_called b w one kernel) uncached ∙ ap₂ (λ a b. a || b) (g kernel) (and_right (truncates one.body) (has_open w.opens kernel) (ap (λ os. has_open os kernel) o)))

fresh_move : (z : Setting) (v : View) → Sound z v → Shut v → (one : FileCall) → In one v.calls → one.reply ≡ None → (stream : StreamNo) (place : ℕ) (kept : Bool) (grants : ℕ) → one.body ≡ form.Move stream place kept grants → ⊥
fresh_move z v s h one m n stream place true grants e =
    let i : IsClient (length v.clients) one.from = (sender_of z v one _ e s m).0 in
    no_stream z v s h one.from i stream ((s.streams.each one.from i).working.keeps_stream one (by_sender v one m) refl n stream place grants e)
fresh_move z v s h one m n stream place false grants e =
    let i : IsClient (length v.clients) one.from = (sender_of z v one _ e s m).0 in
    let l : 1 ≤ grants = (s.streams.each one.from i).working.moves_some one (by_sender v one m) refl n stream place grants e in
    no_grants z v s h one.from i stream one (by_sender v one m) (subst (λ r. 1 ≤ on_way_of stream one.from one.from one.body r) (sym n) (subst (λ b. 1 ≤ on_way_of stream one.from one.from b None) (sym e) (subst (λ b. 1 ≤ counted_at grants b) (sym (ap₂ (λ a b. a && b) (eq-eqb one.from one.from refl) (same_by stream stream refl))) l)))

fresh_served : (z : Setting) (clients : ℕ) (v : View) → Sound z v → Shut v → Cold clients v → v.uncached ≡ true → (one : FileCall) (body : FileBody) → In one v.calls → one.reply ≡ None → one.body ≡ body → Either v (serve_body z (to_the_end v one) (record one { taken = true }) body) (enters_served z (to_the_end v one) (record one { taken = true }) body)
fresh_served z clients v s h c u one (form.Opening pid number stream mode truncate) m n e = inr (fresh_opening z v (to_the_end v one) (record one { taken = true }) pid number stream mode truncate e (λ t. (s.shapes.calls one m).writing pid number stream mode (e ∙ ap (form.Opening pid number stream mode) t)) refl c.unheld u h.opens (λ kernel. c.given (kernel - 1)))
fresh_served z clients v s h c u one (form.Move stream place kept grants) m n e = absurd (fresh_move z v s h one m n stream place kept grants e)
fresh_served z clients v s h c u one (form.Close stream grants) m n e =
    let w : View = to_the_end v one in
    let t : Shut w = taken_shut v one h m in
    let none : take_off w.opens stream one.from grants ≡ [] = ap (λ os. take_off os stream one.from grants) t.opens in
    inl (answered_left v (with_opens w (take_off w.opens stream one.from grants)) (record one { taken = true }) form.Done (record { opens = none; idle = t.idle }) (plain_call v h one m) refl refl)
fresh_served z clients v s h c u one (form.Fetch stamp block) m n e = absurd (no_fetch z v s h one m stamp block e)
fresh_served z clients v s h c u one (form.WriteBack stamp block size piece) m n e =
    let i : IsClient (length v.clients) one.from = (sender_of z v one _ e s m).0 in
    choose_by (λ w. Either v w []) (stamp == current_stamp v one.from) (store z (to_the_end v one) (record one { taken = true }) block size piece) (refuse_old (to_the_end v one) (record one { taken = true }))
    (λ q. absurd (not_dirty (client v one.from).blocks ((s.requests.each one.from i).asking.off_empty (c.off one.from i)) block.0
    ((s.requests.each one.from i).write_backs.held_dirty one (by_sender v one m) block size piece (record { from_kernel = refl; is_write_back = e ∙ ap (λ k. form.WriteBack k block size piece) (eqb-true stamp (current_stamp v one.from) q) }) n)))
    (λ q. inl (answered_left v (to_the_end v one) (record one { taken = true }) _ (taken_shut v one h m) (plain_call v h one m) refl refl))
fresh_served z clients v s h c u one (form.Op pid number stamp stream way) m n e = absurd (no_op z v s h one m pid number stamp stream way e)
fresh_served z clients v s h c u one body m n e = let t : Shut (to_the_end v one) = taken_shut v one h m in inl (refl, t.opens, t.idle, refl, refl)

fresh_request : (z : Setting) (clients : ℕ) (v : View) → Sound z v → Shut v → Cold clients v → v.uncached ≡ true → (one : FileCall) → In one v.calls → one.reply ≡ None → Either v (request_comes z v one) (enters_request z v one)
fresh_request z clients v s h c u one m n = choose_two (λ es w. Either v w es) (busy v) [] (to_the_end v one) (enters_served z (to_the_end v one) (record one { taken = true }) one.body) (serve z (to_the_end v one) (record one { taken = true })) (λ b. absurd (let i = h.idle in cc (b, i))) (λ b. fresh_served z clients v s h c u one one.body m n refl)

fresh_at_client : (z : Setting) (v : View) → Shut v → (one : FileCall) (body : FileBody) → In one v.calls → one.body ≡ body → Nothing v (request_at_client z v one body) []
fresh_at_client z v h one (form.Callback stamp kind) m e = absurd (no_callback v h one m (ap is_callback e))
fresh_at_client z v h one body m e = (refl, h.opens, h.idle, refl, refl)

no_reply : (one : FileCall) (count : ℕ) → Shaped count one → (reply : Option FileBody) → one.reply ≡ reply → one.taken ≡ false → one.reply ≡ None
no_reply one count s None e t = e
no_reply one count s (Some reply) e t = absurd (let k = s.taken_first reply e in cc (k, t))

some_reply : (one : FileCall) (reply : Option FileBody) → one.reply ≡ reply → (not true || is_some one.reply) ≡ true → (body : FileBody) × (one.reply ≡ Some body)
some_reply one (Some body) e d = (body, e)
some_reply one None e d = absurd (let k = ap is_some e in cc (d, k))

fresh_call : (z : Setting) (clients : ℕ) (v : View) → Sound z v → Shut v → Cold clients v → v.uncached ≡ true → (one : FileCall) → In one v.calls → (taken atserver : Bool) → one.taken ≡ taken → (not one.taken || is_some one.reply) ≡ true → Either v (call_comes z v one taken atserver) (enters_call z v one taken atserver)
fresh_call z clients v s h c u one m true atserver t d = let r = some_reply one one.reply refl (subst (λ b. (not b || is_some one.reply) ≡ true) t d) in inl (fresh_reply z v s h one one.body r.0 m refl r.1)
fresh_call z clients v s h c u one m false true t d = fresh_request z clients v s h c u one m (no_reply one (length v.clients) (s.shapes.calls one m) one.reply refl t)
fresh_call z clients v s h c u one m false false t d = inl (fresh_at_client z v h one one.body m refl)

no_carry : (z : Setting) (v : View) → Sound z v → Shut v → (carry : Carry) → In carry v.carried → (grant : Option FileGrant) → carry.grant ≡ grant → ⊥
no_carry z v s h carry m (Some grant) e = no_arrival z v s h (as_call carry) (in_left (as_call carry) (map as_call v.carried) v.calls (map_in as_call carry v.carried m)) grant e
no_carry z v s h carry m None e = let k = (s.shapes.carried carry m).granted in let q = ap is_some e in cc (k, q)

fresh_delivered : (z : Setting) (clients : ℕ) (v : View) → Sound z v → Shut v → Cold clients v → v.uncached ≡ true → (number : ℕ) (carried : Option Carry) (call : Option FileCall) → find_carried v.carried number ≡ carried → find_call v.calls number ≡ call → is_due carried call ≡ true → Either v (delivered z v carried call) (enters_delivered z v carried call)
fresh_delivered z clients v s h c u number (Some one) call a b d = absurd (no_carry z v s h one (carried_found v.carried number one a).0 one.grant refl)
fresh_delivered z clients v s h c u number None (Some one) a b d = fresh_call z clients v s h c u one (found v.calls number one b).0 one.taken (one.to == server) refl d
fresh_delivered z clients v s h c u number None None a b d = inl (refl, h.opens, h.idle, refl, refl)

no_block : (z : Setting) (v : View) (kernel : ℕ) (blocks : List Held) (number : ℕ) → blocks ≡ [] → may_write_back z v kernel (held blocks number) ≡ true → ⊥
no_block z v kernel blocks number e q = let k : may_write_back z v kernel (held [] number) ≡ true = subst (λ bs. may_write_back z v kernel (held bs number) ≡ true) e q in cc (k)

fresh_after : (z : Setting) (clients : ℕ) (v : View) (step : FileStep) → may_do z v step ≡ true → Sound z v → Shut v → Cold clients v → v.uncached ≡ true → Either v (after z v step) (enters_after z v step)
fresh_after z clients v (act.Opening pid number kernel stream mode truncate) e s h c u = inl (refl, h.opens, list_any-append is_back v.calls _ ∙ ap (λ a. a || (false || false)) h.idle, refl, refl)
fresh_after z clients v (act.Closing kernel stream) e s h c u = absurd (not_free z v s h kernel stream e)
fresh_after z clients v (act.Moving stream source place kept) e s h c u = absurd (not_free z v s h source stream (and_parts (is_free v source stream) _ e).0)
fresh_after z clients v (act.Reading pid number kernel stream from many) e s h c u = absurd (not_free_to z v s h reads kernel stream (and_parts _ _ e).0)
fresh_after z clients v (act.Writing pid number kernel stream from bytes) e s h c u = absurd (not_free_to z v s h writes kernel stream (and_parts _ _ e).0)
fresh_after z clients v (act.Append pid number kernel stream bytes) e s h c u = absurd (not_free_to z v s h writes kernel stream (and_parts _ _ e).0)
fresh_after z clients v (act.WritingBack kernel block) e s h c u = let p = and_parts (is_client v kernel) _ e in let i : IsClient (length v.clients) kernel = client_is v kernel p.0 in absurd (no_block z v kernel (client v kernel).blocks block.0 ((s.requests.each kernel i).asking.off_empty (c.off kernel i)) p.1)
fresh_after z clients v (act.Delivering number) e s h c u = fresh_delivered z clients v s h c u number (find_carried v.carried number) (find_call v.calls number) refl refl e
fresh_after z clients v (act.Expiring number) e s h c u = inl (refl, h.opens, h.idle, refl, refl)

-- a step
pub fresh_stepped : (z : Setting) (clients : ℕ) (v : View) (step : FileStep) → Sound z v → Shut v → Cold clients v → v.uncached ≡ true → Either v (stepped z v step) (entered z v step)
fresh_stepped z clients v step s h c u = choose_two (λ es w. Either v w es) (possible z v step) (enters_after z v step) (after z v step) [] v (λ e. fresh_after z clients v step (and_parts (has_room v) (may_do z v step) e).1 s h c u) (λ e. inl (refl, h.opens, h.idle, refl, refl))
