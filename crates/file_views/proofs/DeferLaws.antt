-- While callbacks are out, nothing enters at the server.
use Rattle.std.proofs.Common.{◌≡◌, ◌≤◌, ℕ, ◌==◌, Bool, true, false, ◌&&◌, ◌||◌, not, is_some, List, [], ◌∷◌, ◌++◌, length, Option, Some, None, refl, ap, ◌∙◌, subst, arith, eqb-true, eq-eqb}
use Rattle.std.specs.List.{list_any}
use Rattle.std.proofs.lemmas.Bool.{and_parts}
use Rattle.std.proofs.lemmas.List.Folds.{list_any-append}
use Rattle.sprite_ids.specs.declared.BlockNo.{BlockNo}
use Rattle.file_views.specs.declared.body.FileBody.{FileBody}
use Rattle.file_views.specs.declared.body.FileBody.TheVariants as form
use Rattle.file_views.specs.declared.call.FileCall.{FileCall}
use Rattle.file_views.specs.declared.call.Carry.{Carry}
use Rattle.file_views.specs.declared.step.FileStep.{FileStep}
use Rattle.file_views.specs.declared.step.FileStep.TheVariants as act
use Rattle.file_views.specs.declared.moves.ClientMove.{ClientMove}
use Rattle.file_views.specs.declared.moves.ClientMove.TheVariants as move
use Rattle.file_views.specs.declared.view.View.{View}
use Rattle.file_views.specs.declared.entered.Entered.{Entered}
use Rattle.file_views.specs.Setting.{Setting}
use Rattle.file_views.specs.Clients.{is_on, missing, fill}
use Rattle.file_views.specs.Views.{server, things, client, set_client, is_callback, busy, find_call, find_carried, remove_call, without_call}
use Rattle.file_views.specs.Data.{step_of, send_op, enter_cached, unqueue}
use Rattle.file_views.specs.Serving.{flushed}
use Rattle.file_views.specs.Steps.{grant_comes}
use Rattle.file_views.specs.Possible.{is_client, possible, has_room, may_do}
use Rattle.file_views.specs.Entries.{enters_started, enters_data, enters_advance, enters_look, enters_flush, enters_fetched, enters_op_answered, enters_reply, enters_call, enters_delivered, enters_after, entered}
use Rattle.file_views.specs.Moves.{may_move, enters_move}
use Rattle.file_views.specs.LayerLaw.{Happening, Step, Move}
use Rattle.file_views.specs.BytesLaw.{defers_by}
use Rattle.file_views.specs.Here.{In, IsClient}
use Rattle.file_views.specs.SoundShapes.{Ends, Shapes}
use Rattle.file_views.specs.Waits.{implies, ends, stays_out, at_server, defers, defers_all}
use Rattle.file_views.proofs.MemberLaws.{found, same_call, without_in}
use Rattle.file_views.proofs.EffectLaws.{call_in_things}
use Rattle.file_views.proofs.ClientLaws.{choose_by}
use Rattle.file_views.proofs.ShapeLaws.{Flat, flat_of}
use Rattle.file_views.proofs.ShapeStepLaws.{client_is, free_client}
use Rattle.file_views.proofs.DecisionLaws.{busy_there}
use Rattle.file_views.proofs.CoherentLaws.{all_by, implies_by}
use Rattle.file_views.proofs.DecisionServeLaws.{Found, any_found}

abbrev pub Quiet : List Entered → Type 0
Quiet es = list_any at_server es ≡ false

both_quiet : (xs ys : List Entered) → Quiet xs → Quiet ys → Quiet (xs ++ ys)
both_quiet xs ys e f = list_any-append at_server xs ys ∙ ap (λ b. b || list_any at_server ys) e ∙ f

-- what enters at a client
started_quiet : (z : Setting) (v : View) (kernel : ℕ) (step : FileStep) (on : Bool) (gap : Option ℕ) → (kernel == server) ≡ false → Quiet (enters_started z v kernel step on gap)
started_quiet z v kernel step true None e = ap (λ b. b || false) e
started_quiet z v kernel step true (Some number) e = refl
started_quiet z v kernel step false gap e = refl

data_quiet : (z : Setting) (v : View) (kernel : ℕ) (step : FileStep) → (kernel == server) ≡ false → Quiet (enters_data z v kernel step)
data_quiet z v kernel step e = started_quiet z v kernel step (is_on (client v kernel).mode) (missing z (client v kernel) step) e

advance_quiet : (z : Setting) (waiting : List FileStep) (v : View) (kernel : ℕ) → (kernel == server) ≡ false → Quiet (enters_advance z waiting v kernel)
advance_quiet z [] v kernel e = refl
advance_quiet z (step ∷ rest) v kernel e = choose_by Quiet (is_on (client v kernel).mode) _ _
    (λ o. choose_by Quiet (is_some (missing z (client v kernel) step)) _ _ (λ g. refl) (λ g. both_quiet (enters_data z v kernel step) _ (data_quiet z v kernel step e) (advance_quiet z rest (enter_cached z (unqueue v kernel rest) kernel step) kernel e)))
    (λ o. advance_quiet z rest (send_op (unqueue v kernel rest) kernel step) kernel e)

look_quiet : (z : Setting) (v : View) (kernel : ℕ) → (kernel == server) ≡ false → Quiet (enters_look z v kernel)
look_quiet z v kernel e = advance_quiet z (client v kernel).waiting v kernel e

-- a client isn't the server
not_server : (count kernel : ℕ) → count ≤ 15 → IsClient count kernel → (kernel == server) ≡ false
not_server count kernel l i = by_test (kernel == server) refl
  where
    by_test : (b : Bool) → (kernel == server) ≡ b → b ≡ false
    by_test true e = let k : kernel ≡ 16 = eqb-true kernel 16 e in absurd (omega (arith, k, l, i.1))
    by_test false e = refl

-- a callback that stays out is another one than the call that comes
others_out : (v : View) (number : ℕ) (one : FileCall) → Flat v → In one v.calls → one.number ≡ number → is_some one.reply ≡ true → stays_out v (act.Delivering number) ≡ true → busy (remove_call v one.number) ≡ true
others_out v number one f m e r s =
    let k : Found (λ (x : FileCall). is_callback x.body && not (ends (act.Delivering number) x)) v.calls = any_found (λ (x : FileCall). is_callback x.body && not (ends (act.Delivering number) x)) v.calls s in
    let p = and_parts (is_callback k.item.body) (not (ends (act.Delivering number) k.item)) k.holds in
    busy_there (without_call one.number v.calls) k.item (without_in one.number k.item v.calls k.there (λ q. apart k.item k.there q p.1)) p.0
  where
    apart : (x : FileCall) → In x v.calls → x.number ≡ one.number → not ((x.number == number) && is_some x.reply) ≡ true → ⊥
    apart x i q t =
        let same : x ≡ one = same_call (things v) x one f.numbered.differ (call_in_things v x i) (call_in_things v one m) q in
        let a : (x.number == number) ≡ true = eq-eqb x.number number (q ∙ e) in
        let b : is_some x.reply ≡ true = ap (λ (c : FileCall). is_some c.reply) same ∙ r in
        cc (t, a, b)

is_busy : (v : View) (step : FileStep) → stays_out v step ≡ true → busy v ≡ true
is_busy v step s =
    let k : Found (λ (x : FileCall). is_callback x.body && not (ends step x)) v.calls = any_found (λ (x : FileCall). is_callback x.body && not (ends step x)) v.calls s in
    busy_there v.calls k.item k.there (and_parts (is_callback k.item.body) (not (ends step k.item)) k.holds).0

-- replies come
flush_quiet : (z : Setting) (v : View) (number : ℕ) (one : FileCall) (reply : Option FileBody) → one.reply ≡ reply → Flat v → In one v.calls → one.number ≡ number → stays_out v (act.Delivering number) ≡ true → Quiet (enters_flush z v one reply)
flush_quiet z v number one (Some (form.Flushed size blocks)) r f m e s =
    let b : busy (flushed z v one size blocks) ≡ true = others_out v number one f m e (ap is_some r) s in
    choose_by Quiet (busy (flushed z v one size blocks)) _ _ (λ k. refl) (λ k. absurd (cc (b, k)))
flush_quiet z v number one reply r f m e s = refl

fetched_quiet : (z : Setting) (v : View) (kernel : ℕ) (block : BlockNo) (reply : Option FileBody) → (kernel == server) ≡ false → Quiet (enters_fetched z v kernel block reply)
fetched_quiet z v kernel block (Some (form.Block stamp piece)) e = look_quiet z (set_client v kernel (fill z (client v kernel) stamp block piece)) kernel e
fetched_quiet z v kernel block (Some (form.Again grant)) e = look_quiet z (grant_comes v kernel grant) kernel e
fetched_quiet z v kernel block reply e = refl

again_quiet : (z : Setting) (v : View) (kernel : ℕ) (step : FileStep) (reply : Option FileBody) → (kernel == server) ≡ false → Quiet (enters_op_answered z v kernel step reply)
again_quiet z v kernel step (Some (form.Again grant)) e = data_quiet z (grant_comes v kernel grant) kernel step e
again_quiet z v kernel step reply e = refl

reply_quiet : (z : Setting) (v : View) (number : ℕ) (one : FileCall) (body : FileBody) → one.body ≡ body → Flat v → In one v.calls → one.number ≡ number → stays_out v (act.Delivering number) ≡ true → Quiet (enters_reply z v one body)
reply_quiet z v number one (form.Callback stamp kind) b f m e s = flush_quiet z v number one one.reply refl f m e s
reply_quiet z v number one (form.Fetch stamp block) b f m e s = fetched_quiet z (remove_call v one.number) one.from block one.reply (not_server (length v.clients) one.from f.items.fifteen (subst (Ends (length v.clients) one.from one.to) b (f.calls one m).ends).0)
reply_quiet z v number one (form.Op pid num stamp stream way) b f m e s = again_quiet z (remove_call v one.number) one.from (step_of pid num one.from stream way) one.reply (not_server (length v.clients) one.from f.items.fifteen (subst (Ends (length v.clients) one.from one.to) b (f.calls one m).ends).0)
reply_quiet z v number one body b f m e s = refl

call_quiet : (z : Setting) (v : View) (number : ℕ) (one : FileCall) (taken atserver : Bool) → Flat v → In one v.calls → one.number ≡ number → stays_out v (act.Delivering number) ≡ true → Quiet (enters_call z v one taken atserver)
call_quiet z v number one true atserver f m e s = reply_quiet z v number one one.body refl f m e s
call_quiet z v number one false true f m e s = let b = is_busy v (act.Delivering number) s in choose_by Quiet (busy v) _ _ (λ k. refl) (λ k. absurd (cc (b, k)))
call_quiet z v number one false false f m e s = refl

delivered_quiet : (z : Setting) (v : View) (number : ℕ) (carried : Option Carry) (call : Option FileCall) → find_call v.calls number ≡ call → Flat v → stays_out v (act.Delivering number) ≡ true → Quiet (enters_delivered z v carried call)
delivered_quiet z v number (Some one) call h f s = refl
delivered_quiet z v number None (Some one) h f s = let p = found v.calls number one h in call_quiet z v number one one.taken (one.to == server) f p.0 p.1 s
delivered_quiet z v number None None h f s = refl

after_quiet : (z : Setting) (v : View) (step : FileStep) → may_do z v step ≡ true → Flat v → stays_out v step ≡ true → Quiet (enters_after z v step)
after_quiet z v (act.Reading pid number kernel stream from many) e f s = data_quiet z v kernel (act.Reading pid number kernel stream from many) (not_server (length v.clients) kernel f.items.fifteen (free_client v kernel stream (and_parts _ _ (and_parts _ _ e).0).0))
after_quiet z v (act.Writing pid number kernel stream from bytes) e f s = data_quiet z v kernel (act.Writing pid number kernel stream from bytes) (not_server (length v.clients) kernel f.items.fifteen (free_client v kernel stream (and_parts _ _ (and_parts _ _ e).0).0))
after_quiet z v (act.Append pid number kernel stream bytes) e f s = data_quiet z v kernel (act.Append pid number kernel stream bytes) (not_server (length v.clients) kernel f.items.fifteen (free_client v kernel stream (and_parts _ _ (and_parts _ _ e).0).0))
after_quiet z v (act.Delivering number) e f s = delivered_quiet z v number (find_carried v.carried number) (find_call v.calls number) refl f s
after_quiet z v step e f s = refl

quiet_by : (z : Setting) (v : View) (step : FileStep) (b : Bool) → stays_out v step ≡ b → Flat v → implies b (not (list_any at_server (entered z v step))) ≡ true
quiet_by z v step true s f = ap not (choose_by Quiet (possible z v step) (enters_after z v step) [] (λ e. after_quiet z v step (and_parts (has_room v) (may_do z v step) e).1 f s) (λ e. refl))
quiet_by z v step false s f = refl

pub steps_defer : (z : Setting) (v : View) (step : FileStep) → Shapes v → defers z v step ≡ true
steps_defer z v step h = quiet_by z v step (stays_out v step) refl (flat_of v h)

-- whatever comes
pub all_defer : (z : Setting) (v : View) → Shapes v → defers_all z v ≡ true
all_defer z v h = all_by (λ (one : FileCall). defers z v (act.Delivering one.number)) (things v) (λ one m. steps_defer z v (act.Delivering one.number) h)

-- a client's moves
move_quiet : (z : Setting) (v : View) (other : ClientMove) → may_move z v other ≡ true → Flat v → Quiet (enters_move z v other)
move_quiet z v (move.Look kernel) e f = look_quiet z v kernel (not_server (length v.clients) kernel f.items.fifteen (client_is v kernel (and_parts (is_client v kernel) _ e).0))
move_quiet z v other e f = refl

pub happenings_defer : (z : Setting) (v : View) (one : Happening) → Shapes v → defers_by z v one ≡ true
happenings_defer z v (Step step) h = steps_defer z v step h
happenings_defer z v (Move other) h = implies_by (busy v) _ (λ b. ap not (choose_by Quiet (may_move z v other) (enters_move z v other) [] (λ e. move_quiet z v other e (flat_of v h)) (λ e. refl)))
