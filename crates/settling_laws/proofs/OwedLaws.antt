-- How often what is under way may still come somewhere: a step adds no more than the calls that it begins may bring, and each that comes
-- takes one off.
use Rattle.std.proofs.Common.{◌≡◌, ◌≤◌, ℕ, ◌+◌, ◌*◌, ◌==◌, Bool, true, false, cond, not, ◌||◌, is_some, List, [], ◌∷◌, ◌++◌, length, map, Option, Some, None, refl, sym, ap, ap₂, ◌∙◌, subst, inl, inr, arith, eqb-true, eq-eqb, ne_eqb}
use Rattle.std.proofs.lemmas.Bool.{and_parts}
use Rattle.std.proofs.lemmas.List.{append_assoc, map-append}
use Rattle.sprite_ids.specs.Lists.{total}
use Rattle.sprite_ids.specs.declared.BlockNo.{BlockNo}
use Rattle.sprite_ids.specs.declared.StreamNo.{StreamNo}
use Rattle.sprite_ids.specs.declared.CallKind.{CallKind}
use Rattle.file_views.specs.declared.grant.FileGrant.{FileGrant}
use Rattle.file_views.specs.declared.body.FileBody.{FileBody}
use Rattle.file_views.specs.declared.body.FileBody.TheVariants as form
use Rattle.file_views.specs.declared.client.Held.{Held}
use Rattle.file_views.specs.declared.call.FileCall.{FileCall}
use Rattle.file_views.specs.declared.call.Carry.{Carry}
use Rattle.file_views.specs.declared.step.FileStep.{FileStep}
use Rattle.file_views.specs.declared.step.FileStep.TheVariants as act
use Rattle.file_views.specs.declared.view.View.{View}
use Rattle.file_views.specs.Setting.{Setting}
use Rattle.file_views.specs.Clients.{held, fill, uninstall, pieces}
use Rattle.file_views.specs.Views.{server, client, set_client, as_call, things, new_call, with_call, without_call, find_call, find_carried, without_carried, begin, replied, answer, remove_call, to_the_end, is_callback, busy}
use Rattle.file_views.specs.Grants.{stamped, granting, grant_of, settle}
use Rattle.file_views.specs.Data.{op_of, start_data, step_of, look}
use Rattle.file_views.specs.Serving.{close, op_reply, block_of, data_op, store, refuse_old, serve, request_comes}
use Rattle.file_views.specs.Steps.{grant_comes, called_back, request_at_client, opening_answered, move_answered, fetch_answered, write_back_answered, op_answered, flush_comes, reply_comes, carried_comes_with, call_comes, delivered, moving, writing_back_at, writing_back, after}
use Rattle.file_views.specs.Possible.{has_room, is_due, possible, stepped}
use Rattle.file_views.specs.Here.{In, IsClient}
use Rattle.file_views.specs.SoundShapes.{Ends, Answers}
use Rattle.file_views.specs.Sound.{Sound}
use Rattle.file_views.proofs.MemberLaws.{in_left, in_last, last_in, map_in, in_without, found, carried_found}
use Rattle.file_views.proofs.EffectLaws.{things_begin, things_with, things_without, things_uncarried, call_in_things}
use Rattle.file_views.proofs.CountLaws.{total_join, total_last, total_without, total_with}
use Rattle.file_views.proofs.ClientLaws.{choose_by}
use Rattle.file_views.proofs.ShapeLaws.{Flat}
use Rattle.file_views.proofs.ShapeStepLaws.{flat_taken, still_client, free_client, ends_no_callback}
use Rattle.file_views.proofs.StreamChangeLaws.{streams_take}
use Rattle.file_views.proofs.StampChangeLaws.{NoCall, stamps_take}
use Rattle.file_views.proofs.StampServeLaws.{idle}
use Rattle.file_views.proofs.DecisionLaws.{holds_server, ruled_holds}
use Rattle.file_views.proofs.ModeLaws.{under_of}
use Rattle.file_views.proofs.ModeChangeLaws.{modes_taken}
use Rattle.file_views.proofs.ModeStepLaws.{Standing, standing_of, unanswered}
use Rattle.file_views.proofs.HolderLaws.{FlatHolders, flat_holders}
use Rattle.file_views.proofs.HolderServeLaws.{holders_taken}
use Rattle.file_views.proofs.WorkLaws.{unnoted, Works, works_notes, notes_start, notes_look}
use Rattle.file_views.proofs.ServeLaws.{Serves, serves_notes, serves_body}
use Rattle.file_views.proofs.SizeMoveLaws.{flushed_all}
use Rattle.settling_laws.specs.Settling.{owed}

-- what is under way, and three for each call that isn't begun up to the n-th, come to m at most
abbrev pub Owes : ℕ → ℕ → View → Type 0
Owes n m v = total owed (things v) + 3 * n ≤ m + 3 * v.next

owed_most : (one : FileCall) → owed one ≤ 3
owed_most one = by_tests (one.from == 0) one.taken
  where
    by_tests : (a b : Bool) → cond {A = ℕ} a 1 (cond b 2 3) ≤ 3
    by_tests true b = omega arith
    by_tests false true = omega arith
    by_tests false false = omega arith

owed_some : (one : FileCall) → 1 ≤ owed one
owed_some one = by_tests (one.from == 0) one.taken
  where
    by_tests : (a b : Bool) → 1 ≤ cond {A = ℕ} a 1 (cond b 2 3)
    by_tests true b = omega arith
    by_tests false true = omega arith
    by_tests false false = omega arith

owed_less : (one : FileCall) → cond {A = ℕ} (one.from == 0) 1 2 ≤ owed one
owed_less one = by_tests (one.from == 0) one.taken
  where
    by_tests : (a b : Bool) → cond {A = ℕ} a 1 2 ≤ cond {A = ℕ} a 1 (cond b 2 3)
    by_tests true b = omega arith
    by_tests false true = omega arith
    by_tests false false = omega arith

client_some : (count source : ℕ) → IsClient count source → (source == 0) ≡ false
client_some count source i = ne_eqb source 0 (λ q. let l = i.0 in omega (arith, l, q))

-- a call comes from somewhere
from_some : (count source to : ℕ) (body : FileBody) → Ends count source to body → (source == 0) ≡ false
from_some count source to (form.Callback stamp kind) e = ap (λ n. n == 0) e.0
from_some count source to (form.Move stream place kept grants) e = client_some count source e.0
from_some count source to (form.Opening pid number stream mode truncate) e = client_some count source e.0
from_some count source to (form.Close stream grants) e = client_some count source e.0
from_some count source to (form.Op pid number stamp stream way) e = client_some count source e.0
from_some count source to (form.Fetch stamp block) e = client_some count source e.0
from_some count source to (form.WriteBack stamp block size piece) e = client_some count source e.0
from_some count source to body e = absurd e

has_from : (v : View) (one : FileCall) → Flat v → In one v.calls → (one.from == 0) ≡ false
has_from v one f m = from_some (length v.clients) one.from one.to one.body (f.calls one m).ends

owed_untaken : (one : FileCall) → (one.from == 0) ≡ false → one.taken ≡ false → owed one ≡ 3
owed_untaken one f t = ap₂ (λ (a b : Bool). cond {A = ℕ} a 1 (cond b 2 3)) f t

owed_two : (one : FileCall) → (one.from == 0) ≡ false → 2 ≤ owed one
owed_two one f = subst (λ n. n ≤ owed one) (ap (λ (a : Bool). cond {A = ℕ} a 1 2) f) (owed_less one)

-- changes of what is under way
owes_begin : (n m : ℕ) (v : View) (source to : ℕ) (body : FileBody) (dirty : Option ℕ) → Owes n m v → Owes n m (begin v source to body dirty)
owes_begin n m v source to body dirty o =
    let t : total owed (things (begin v source to body dirty)) ≡ total owed (things v) + owed (new_call v source to body dirty) = ap (total owed) (things_begin v source to body dirty) ∙ total_last owed (things v) (new_call v source to body dirty) in
    let l = owed_most (new_call v source to body dirty) in
    omega (arith, o, t, l)

owes_with : (n m : ℕ) (v w : View) (one : FileCall) (reply : FileBody) → Flat v → In one v.calls → things w ≡ with_call (replied one reply) (things v) → w.next ≡ v.next → Owes n m v → Owes n m w
owes_with n m v w one reply f i e k o =
    let t : total owed (things w) ≡ total owed (with_call (replied one reply) (things v)) = ap (total owed) e in
    let c = total_with owed (things v) one (replied one reply) f.numbered.differ (call_in_things v one i) refl in
    let l = owed_less one in
    omega (arith, o, t, c, l, k)

less_with : (n m : ℕ) (v w : View) (one : FileCall) (reply : FileBody) → Flat v → In one v.calls → one.taken ≡ false → things w ≡ with_call (replied one reply) (things v) → w.next ≡ v.next → Owes n (m + 1) v → Owes n m w
less_with n m v w one reply f i u e k o =
    let t : total owed (things w) ≡ total owed (with_call (replied one reply) (things v)) = ap (total owed) e in
    let c = total_with owed (things v) one (replied one reply) f.numbered.differ (call_in_things v one i) refl in
    let a : owed one ≡ 3 = owed_untaken one (has_from v one f i) u in
    let b : owed (replied one reply) ≡ 2 = ap (λ (x : Bool). cond {A = ℕ} x 1 2) (has_from v one f i) in
    omega (arith, o, t, c, a, b, k)

gone : (v : View) (one : FileCall) → Flat v → In one v.calls → total owed (things v) ≡ owed one + total owed (things (remove_call v one.number))
gone v one f i = total_without owed (things v) one f.numbered.differ (call_in_things v one i) ∙ ap (λ (xs : List FileCall). owed one + total owed xs) (sym (things_without v one f.numbered.differ i))

less_gone : (n m : ℕ) (v : View) (one : FileCall) → Flat v → In one v.calls → Owes n (m + 1) v → Owes n m (remove_call v one.number)
less_gone n m v one f i o = let t = gone v one f i in let l = owed_some one in omega (arith, o, t, l)

owes_gone : (n m : ℕ) (v : View) (one : FileCall) → Flat v → In one v.calls → Owes n m v → Owes n m (remove_call v one.number)
owes_gone n m v one f i o = let t = gone v one f i in omega (arith, o, t)

ended : (v : View) (one : FileCall) → Flat v → In one v.calls → total owed (things (to_the_end v one)) ≡ total owed (things (remove_call v one.number)) + owed (record one { taken = true })
ended v one f i =
    ap (total owed) (sym (append_assoc (map as_call v.carried) (without_call one.number v.calls) (record one { taken = true } ∷ []))) ∙ total_last owed (things (remove_call v one.number)) (record one { taken = true })

owes_end : (n m : ℕ) (v : View) (one : FileCall) → Flat v → In one v.calls → Owes n m v → Owes n m (to_the_end v one)
owes_end n m v one f i o =
    let t = gone v one f i in
    let e = ended v one f i in
    let l : owed (record one { taken = true }) ≤ owed one = owed_less one in
    omega (arith, o, t, e, l)

less_end : (n m : ℕ) (v : View) (one : FileCall) → Flat v → In one v.calls → one.taken ≡ false → Owes n (m + 1) v → Owes n m (to_the_end v one)
less_end n m v one f i u o =
    let t = gone v one f i in
    let e = ended v one f i in
    let a : owed one ≡ 3 = owed_untaken one (has_from v one f i) u in
    let b : owed (record one { taken = true }) ≡ 2 = ap (λ (x : Bool). cond {A = ℕ} x 1 2) (has_from v one f i) in
    omega (arith, o, t, e, a, b)

-- what the server does
serves_owes : (n m : ℕ) (z : Setting) → Serves z (Owes n m) (Owes n m)
serves_owes n m z = record {
  eases = λ v o. o;
  tells = λ v b o. o;
  outs = λ v kind kernel o. owes_begin n m (stamped v kind kernel) server kernel _ None o;
  settles = λ v one s o. owes_with n m v (settle v one) one (granting one.body (grant_of v one)) s.both.flat s.there (things_with v one (replied one (granting one.body (grant_of v one))) s.both.flat.numbered.differ s.there refl) refl o;
  closes = λ v one stream grants t e o. owes_with n m v (close v one stream grants) one form.Done t.both.flat t.there (things_with v one (replied one form.Done) t.both.flat.numbered.differ t.there refl) refl o;
  fetched = λ v one block t e o. owes_with n m v (answer v one (form.Block _ (block_of z v.bytes block))) one _ t.both.flat t.there (things_with v one (replied one _) t.both.flat.numbered.differ t.there refl) refl o;
  refuses = λ v one stamp t e o. owes_with n m v (refuse_old v one) one _ t.both.flat t.there (things_with v one (replied one _) t.both.flat.numbered.differ t.there refl) refl o;
  stores = λ v one block size piece t e o. owes_with n m v (store z v one block size piece) one form.Done t.both.flat t.there (things_with v one (replied one form.Done) t.both.flat.numbered.differ t.there refl) refl o;
  operates = λ v one pid number stream way t e o. owes_with n m v (data_op z v one way) one (op_reply z v.bytes way) t.both.flat t.there (things_with v one (replied one _) t.both.flat.numbered.differ t.there refl) refl o;
  takes = λ v one b stamps i k a o. owes_end n m v one b.flat i o;
  served = λ v one t x y. y;
  settled = λ v one s x y. y;
}

-- what clients do
owes_works : (n m : ℕ) (z : Setting) → Works z (λ v k s. Unit {0}) (Owes n m)
owes_works n m z = record {
  waits = λ v kernel waiting o i q. o;
  enters = λ v kernel step o i on q k. o;
  operates = λ v kernel step o i q. owes_begin n m v kernel server (op_of (client v kernel).stamp step) None o;
  still_waits = λ v kernel waiting s i q. tt;
  still_enters = λ v kernel step s i q. tt;
  still_operates = λ v kernel step s q. tt;
  fetches = λ v kernel number o i. owes_begin n m v kernel server _ None o;
}

starts : (n m : ℕ) (z : Setting) (v : View) (kernel : ℕ) (step : FileStep) → Owes n m v → IsClient (length v.clients) kernel → Owes n m (start_data z v kernel step)
starts n m z v kernel step o i = notes_start z (Unit {0}) unnoted (λ v k s. Unit {0}) (λ had. Owes n m) (works_notes z (λ v k s. Unit {0}) (Owes n m) (owes_works n m z)) tt v kernel step o i tt

looks : (n m : ℕ) (z : Setting) (v : View) (kernel : ℕ) → Owes n m v → IsClient (length v.clients) kernel → Owes n m (look z v kernel)
looks n m z v kernel o i = notes_look z (Unit {0}) unnoted (λ v k s. Unit {0}) (λ had. Owes n m) (works_notes z (λ v k s. Unit {0}) (Owes n m) (owes_works n m z)) tt v kernel o i (λ s k. tt)

-- replies come
opening_owes : (n m : ℕ) (v : View) (kernel : ℕ) (stream : StreamNo) (reply : Option FileBody) → Owes n m v → Owes n m (opening_answered v kernel stream reply)
opening_owes n m v kernel stream (Some (form.Opened grant)) o = o
opening_owes n m v kernel stream reply o = o

fetch_owes : (n m : ℕ) (z : Setting) (v : View) (kernel : ℕ) (block : BlockNo) (reply : Option FileBody) → IsClient (length v.clients) kernel → Owes n m v → Owes n m (fetch_answered z v kernel block reply)
fetch_owes n m z v kernel block (Some (form.Block stamp piece)) i o = looks n m z (set_client v kernel (fill z (client v kernel) stamp block piece)) kernel o (still_client v kernel kernel _ i)
fetch_owes n m z v kernel block (Some (form.Again grant)) i o = looks n m z (grant_comes v kernel grant) kernel o (still_client v kernel kernel _ i)
fetch_owes n m z v kernel block reply i o = o

back_owes : (n m : ℕ) (v : View) (kernel stamp : ℕ) (block : BlockNo) (dirty : Option ℕ) (reply : Option FileBody) → Owes n m v → Owes n m (write_back_answered v kernel stamp block dirty reply)
back_owes n m v kernel stamp block dirty (Some form.Done) o = o
back_owes n m v kernel stamp block dirty (Some (form.Again grant)) o = o
back_owes n m v kernel stamp block dirty reply o = o

op_owes : (n m : ℕ) (z : Setting) (v : View) (kernel : ℕ) (step : FileStep) (reply : Option FileBody) → IsClient (length v.clients) kernel → Owes n m v → Owes n m (op_answered z v kernel step reply)
op_owes n m z v kernel step (Some (form.Again grant)) i o = starts n m z (grant_comes v kernel grant) kernel step o (still_client v kernel kernel _ i)
op_owes n m z v kernel step reply i o = o

move_less : (n m : ℕ) (v : View) (one : FileCall) (place : ℕ) (stream : StreamNo) (reply : Option FileBody) → Flat v → In one v.calls → Owes n (m + 1) v → Owes n m (move_answered (remove_call v one.number) one.number place stream reply)
move_less n m v one place stream (Some (form.Moved grant grants)) f i o =
    let carry : Carry = record { call = one.number; to = place; stream = stream; grant = grant } in
    let w : View = remove_call v one.number in
    let a : total owed (map as_call (v.carried ++ carry ∷ [])) ≡ total owed (map as_call v.carried) + 1 = ap (total owed) (map-append as_call v.carried (carry ∷ [])) ∙ total_last owed (map as_call v.carried) (as_call carry) in
    let b = total_join owed (map as_call (v.carried ++ carry ∷ [])) w.calls in
    let c = total_join owed (map as_call v.carried) w.calls in
    let t = gone v one f i in
    let l = owed_two one (has_from v one f i) in
    omega (arith, o, a, b, c, t, l)
move_less n m v one place stream reply f i o = less_gone n m v one f i o

-- a carried stream is there no more
uncarried_less : (n m : ℕ) (v : View) (carry : Carry) → Flat v → In carry v.carried → Owes n (m + 1) v → Owes n m (record v { carried = without_carried carry.call v.carried })
uncarried_less n m v carry f i o =
    let w : View = record v { carried = without_carried carry.call v.carried } in
    let there : In (as_call carry) (things v) = in_left (as_call carry) (map as_call v.carried) v.calls (map_in as_call carry v.carried i) in
    let t = total_without owed (things v) (as_call carry) f.numbered.differ there in
    let e : total owed (things w) ≡ total owed (without_call carry.call (things v)) = ap (total owed) (things_uncarried v carry f.numbered.differ i) in
    let l = owed_some (as_call carry) in
    omega (arith, o, t, e, l)

-- all that a step leans on
record Leaning (z : Setting) (v : View) : Type 0 where
  pub standing : Standing z v
  pub holders : FlatHolders v

flush_less : (n m : ℕ) (z : Setting) (v : View) (one : FileCall) (stamp : ℕ) (kind : CallKind) (reply : Option FileBody) → Leaning z v → In one v.calls → one.body ≡ form.Callback stamp kind → one.reply ≡ reply → is_some reply ≡ true → Owes n (m + 1) v → Owes n m (flush_comes z v one reply)
flush_less n m z v one stamp kind (Some (form.Flushed size blocks)) t i e r s o =
    flushed_all z (Unit {0}) unnoted (λ had. Owes n m) (λ had. Owes n m) (serves_notes z (Owes n m) (Owes n m) (serves_owes n m z)) tt v one stamp kind size blocks t.standing t.holders i e r (subst (Ends (length v.clients) one.from one.to) e (t.standing.flat.calls one i).ends).1 (λ answering. less_gone n m v one t.standing.flat i o)
flush_less n m z v one stamp kind (Some reply) t i e r s o = absurd (subst (λ b. Answers b reply) e ((t.standing.flat.calls one i).fits reply r))
flush_less n m z v one stamp kind None t i e r s o = absurd (cc (s))

reply_less : (n m : ℕ) (z : Setting) (v : View) (one : FileCall) (body : FileBody) → Leaning z v → In one v.calls → one.body ≡ body → is_some one.reply ≡ true → Owes n (m + 1) v → Owes n m (reply_comes z v one body)
reply_less n m z v one (form.Callback stamp kind) t i e s o = flush_less n m z v one stamp kind one.reply t i e refl s o
reply_less n m z v one (form.Opening pid number stream mode truncate) t i e s o = opening_owes n m (remove_call v one.number) one.from stream one.reply (less_gone n m v one t.standing.flat i o)
reply_less n m z v one (form.Move stream place kept grants) t i e s o = move_less n m v one place stream one.reply t.standing.flat i o
reply_less n m z v one (form.Fetch stamp block) t i e s o = fetch_owes n m z (remove_call v one.number) one.from block one.reply (subst (Ends (length v.clients) one.from one.to) e (t.standing.flat.calls one i).ends).0 (less_gone n m v one t.standing.flat i o)
reply_less n m z v one (form.WriteBack stamp block size piece) t i e s o = back_owes n m (remove_call v one.number) one.from stamp block one.dirty one.reply (less_gone n m v one t.standing.flat i o)
reply_less n m z v one (form.Op pid number stamp stream way) t i e s o = op_owes n m z (remove_call v one.number) one.from (step_of pid number one.from stream way) one.reply (subst (Ends (length v.clients) one.from one.to) e (t.standing.flat.calls one i).ends).0 (less_gone n m v one t.standing.flat i o)
reply_less n m z v one body t i e s o = less_gone n m v one t.standing.flat i o

-- requests come
request_less : (n m : ℕ) (z : Setting) (v : View) (one : FileCall) → Leaning z v → In one v.calls → one.to ≡ server → one.taken ≡ false → is_callback one.body ≡ false → Owes n (m + 1) v → Owes n m (request_comes z v one)
request_less n m z v one t i s u c o = choose_by (Owes n m) (busy v) (to_the_end v one) (serve z (to_the_end v one) (record one { taken = true })) (λ q. less_end n m v one f i u o) (λ q.
    serves_body z (Owes n m) (Owes n m) (serves_owes n m z) (to_the_end v one) (record one { taken = true }) one.body refl (record {
      both = record { flat = flat_taken v one f i s; streams = streams_take v one f.numbered.differ i t.standing.streams };
      stamps = stamps_take v one f.numbered.differ i c t.standing.stamps;
      ruled = ruled_holds v (to_the_end v one) (holds_server v (to_the_end v one) refl refl refl refl refl) t.standing.decided.ruled;
      modes = modes_taken v one f.numbered.differ i c (under_of v t.standing.stamps) t.standing.modes;
      holders = holders_taken v one f.numbered.differ i c t.holders;
      there = last_in (record one { taken = true }) _;
      unanswered = unanswered v one f i u;
      none = none q;
    }) (less_end n m v one f i u o))
  where
    f : Flat v
    f = t.standing.flat

    none : busy v ≡ false → NoCall (to_the_end v one)
    none q y k = elim (in_last y (record one { taken = true }) _ k) [ inl a ↦ idle v q y (in_without one.number y v.calls a).0 | inr p ↦ ap (λ (x : FileCall). is_callback x.body) p ∙ c ]

to_server : (count source to : ℕ) (body : FileBody) → Ends count source to body → is_callback body ≡ false → to ≡ server
to_server count source to (form.Callback stamp kind) e c = absurd (cc (c))
to_server count source to (form.Move stream place kept grants) e c = e.1
to_server count source to (form.Opening pid number stream mode truncate) e c = e.1
to_server count source to (form.Close stream grants) e c = e.1
to_server count source to (form.Op pid number stamp stream way) e c = e.1
to_server count source to (form.Fetch stamp block) e c = e.1
to_server count source to (form.WriteBack stamp block size piece) e c = e.1
to_server count source to body e c = absurd e

called_less : (n m : ℕ) (z : Setting) (v : View) (one : FileCall) (body : FileBody) → Flat v → In one v.calls → one.body ≡ body → one.taken ≡ false → (one.to == server) ≡ false → Owes n (m + 1) v → Owes n m (request_at_client z v one body)
called_less n m z v one (form.Callback stamp kind) f i e u d o = less_with n m v (called_back z v one stamp kind) one (form.Flushed (client v one.to).size (pieces z (client v one.to).size (client v one.to).blocks)) f i u (things_with v one (replied one _) f.numbered.differ i refl) refl o
called_less n m z v one body f i e u d o = absurd (let s = to_server (length v.clients) one.from one.to one.body (f.calls one i).ends (ap is_callback e) in let b = eq-eqb one.to server s in cc (b, d))

call_less : (n m : ℕ) (z : Setting) (v : View) (one : FileCall) (taken atserver : Bool) → Leaning z v → In one v.calls → one.taken ≡ taken → (one.to == server) ≡ atserver → (not taken || is_some one.reply) ≡ true → Owes n (m + 1) v → Owes n m (call_comes z v one taken atserver)
call_less n m z v one true atserver t i u e h o = reply_less n m z v one one.body t i refl h o
call_less n m z v one false true t i u e h o = request_less n m z v one t i (eqb-true one.to server e) u (no_call (is_callback one.body) refl) o
  where
    no_call : (b : Bool) → is_callback one.body ≡ b → b ≡ false
    no_call true c = absurd (ends_no_callback (length v.clients) one.from one.to one.body (t.standing.flat.calls one i).ends t.standing.flat.items.fifteen (eqb-true one.to server e) c)
    no_call false c = refl
call_less n m z v one false false t i u e h o = called_less n m z v one one.body t.standing.flat i refl u e o

came_less : (n m : ℕ) (v : View) (carry : Carry) (grant : Option FileGrant) → Flat v → In carry v.carried → Owes n (m + 1) v → Owes n m (carried_comes_with (record v { carried = without_carried carry.call v.carried }) carry grant)
came_less n m v carry (Some grant) f i o = uncarried_less n m v carry f i o
came_less n m v carry None f i o = uncarried_less n m v carry f i o

-- what comes takes one off
delivered_less : (n m : ℕ) (z : Setting) (v : View) (number : ℕ) (carried : Option Carry) (call : Option FileCall) → Leaning z v → find_carried v.carried number ≡ carried → find_call v.calls number ≡ call → is_due carried call ≡ true → Owes n (m + 1) v → Owes n m (delivered z v carried call)
delivered_less n m z v number (Some one) call t e k h o = came_less n m v one one.grant t.standing.flat (carried_found v.carried number one e).0 o
delivered_less n m z v number None (Some one) t e k h o = call_less n m z v one one.taken (one.to == server) t (found v.calls number one k).0 refl refl h o
delivered_less n m z v number None None t e k h o = absurd (cc (h))

leaning : (z : Setting) (v : View) → Sound z v → Leaning z v
leaning z v s = record { standing = standing_of z v s.shapes s.streams s.stamps s.decisions s.modes; holders = flat_holders v s.holders }

pub comes_less : (n m : ℕ) (z : Setting) (v : View) (number : ℕ) → Sound z v → possible z v (act.Delivering number) ≡ true → Owes n (m + 1) v → Owes n m (stepped z v (act.Delivering number))
comes_less n m z v number s e o = choose_by (Owes n m) (possible z v (act.Delivering number)) (after z v (act.Delivering number)) v (λ q. delivered_less n m z v number (find_carried v.carried number) (find_call v.calls number) (leaning z v s) refl refl (and_parts (has_room v) _ q).1 o) (λ q. absurd (cc (q, e)))

-- any other step adds no more than what it begins may bring
back_sent : (n m : ℕ) (z : Setting) (v : View) (kernel : ℕ) (o : Option Held) → Owes n m v → Owes n m (writing_back z v kernel o)
back_sent n m z v kernel None o = o
back_sent n m z v kernel (Some one) o = by_dirty one.dirty
  where
    by_dirty : (dirty : Option ℕ) → Owes n m (writing_back_at z v kernel one dirty)
    by_dirty None = o
    by_dirty (Some dirty) = owes_begin n m v kernel server _ (Some dirty) o

moving_owes : (n m : ℕ) (v : View) (stream : StreamNo) (source place : ℕ) (kept : Bool) → Owes n m v → Owes n m (moving v stream source place kept)
moving_owes n m v stream source place true o = owes_begin n m v source server _ None o
moving_owes n m v stream source place false o = owes_begin n m (set_client v source (uninstall (client v source) stream)) source server _ None o

after_owes : (n m : ℕ) (z : Setting) (v : View) (step : FileStep) → Sound z v → possible z v step ≡ true → Owes n m v → Owes n m (after z v step)
after_owes n m z v (act.Opening pid number kernel stream mode truncate) s e o = owes_begin n m v kernel server _ None o
after_owes n m z v (act.Closing kernel stream) s e o = owes_begin n m (set_client v kernel (uninstall (client v kernel) stream)) kernel server _ None o
after_owes n m z v (act.Moving stream source place kept) s e o = moving_owes n m v stream source place kept o
after_owes n m z v (act.Reading pid number kernel stream from many) s e o = starts n m z v kernel (act.Reading pid number kernel stream from many) o (free_client v kernel stream (and_parts _ _ (and_parts _ _ (and_parts (has_room v) _ e).1).0).0)
after_owes n m z v (act.Writing pid number kernel stream from bytes) s e o = starts n m z v kernel (act.Writing pid number kernel stream from bytes) o (free_client v kernel stream (and_parts _ _ (and_parts _ _ (and_parts (has_room v) _ e).1).0).0)
after_owes n m z v (act.Append pid number kernel stream bytes) s e o = starts n m z v kernel (act.Append pid number kernel stream bytes) o (free_client v kernel stream (and_parts _ _ (and_parts _ _ (and_parts (has_room v) _ e).1).0).0)
after_owes n m z v (act.WritingBack kernel block) s e o = back_sent n m z v kernel (held (client v kernel).blocks block.0) o
after_owes n m z v (act.Delivering number) s e o =
    let more : Owes n (m + 1) v = omega (arith, o) in
    let less : Owes n m (delivered z v (find_carried v.carried number) (find_call v.calls number)) = delivered_less n m z v number (find_carried v.carried number) (find_call v.calls number) (leaning z v s) refl refl (and_parts (has_room v) _ e).1 more in
    less
after_owes n m z v (act.Expiring number) s e o = o

pub step_owes : (n m : ℕ) (z : Setting) (v : View) (step : FileStep) → Sound z v → Owes n m v → Owes n m (stepped z v step)
step_owes n m z v step s o = choose_by (Owes n m) (possible z v step) (after z v step) v (λ e. after_owes n m z v step s e o) (λ e. o)
