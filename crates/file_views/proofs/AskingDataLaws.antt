-- Fetches and operations, the first part of the seventh layer of soundness: what clients do, and all steps.
use Rattle.std.proofs.Common.{◌≡◌, ◌≤◌, ◌<◌, ℕ, ◌*◌, ◌==◌, nat_le, Bool, true, false, cond, not, ◌&&◌, is_some, is_none, List, [], ◌∷◌, ◌++◌, length, map, Option, Some, None, refl, sym, ap, ◌∙◌, subst, inl, inr, eqb-true, leb-false}
use Rattle.std.proofs.lemmas.Bool.{and_parts}
use Rattle.sprite_ids.specs.declared.BlockNo.{BlockNo}
use Rattle.sprite_ids.specs.declared.StreamNo.{StreamNo}
use Rattle.sprite_ids.specs.declared.CacheMode.{CacheMode}
use Rattle.sprite_ids.specs.declared.CallKind.{CallKind}
use Rattle.sprite_ids.specs.declared.CallKind.TheVariants.{Recall, Stop}
use Rattle.file_views.specs.declared.grant.FileGrant.{FileGrant}
use Rattle.file_views.specs.declared.body.FileBody.TheVariants as form
use Rattle.file_views.specs.declared.client.Held.{Held}
use Rattle.file_views.specs.declared.client.Client.{Client}
use Rattle.file_views.specs.declared.call.FileCall.{FileCall}
use Rattle.file_views.specs.declared.step.FileStep.{FileStep}
use Rattle.file_views.specs.declared.step.FileStep.TheVariants as act
use Rattle.file_views.specs.declared.view.View.{View}
use Rattle.file_views.specs.Setting.{Setting}
use Rattle.file_views.specs.Streams.{is_any}
use Rattle.file_views.specs.Clients.{is_on, mode_of, held, same_number, granted, take_grant, mode_after, blocks_after, take_callback, missing, blocks_filled, fill, blocks_written_back, wrote_back, without_block, with_block, cleaned, done_cached}
use Rattle.file_views.specs.Views.{server, client, things, new_call}
use Rattle.file_views.specs.Data.{op_of, send_op, send_fetch, enter_cached, queue, wait_for, started, start_data, unqueue, or_zero, advance, look}
use Rattle.file_views.specs.Moves.{is_fetch}
use Rattle.file_views.specs.Here.{In, IsClient, request_stamp}
use Rattle.file_views.specs.SoundRequests.{Asking}
use Rattle.file_views.proofs.MemberLaws.{in_last, held_found}
use Rattle.file_views.proofs.EffectLaws.{client_set, things_begin}
use Rattle.file_views.proofs.ClientLaws.{choose, choose_by}
use Rattle.file_views.proofs.ShapeStepLaws.{still_client}
use Rattle.file_views.proofs.StreamStepLaws.{done_waiting}
use Rattle.file_views.proofs.StampLaws.{own_stamp, FlatStamps}
use Rattle.file_views.proofs.DataLaws.{alike_done}
use Rattle.file_views.proofs.AskingLaws.{asking_waits, asking_risen, held_with, none_fewer, done_absent, missing_absent}
use Rattle.file_views.proofs.AskingStepLaws.{FlatAsking, asking_set, asking_begin}

-- the kernel has no unfinished fetch
abbrev pub NoFetch : View → ℕ → Type 0
NoFetch v kernel = (one : FileCall) → In one (things v) → one.from ≡ kernel → is_fetch one.body ≡ false

-- a client without one
pub asking_alone : (z : Setting) (kernel : ℕ) (c d : Client) (calls : List FileCall) → Asking z kernel c calls → ((one : FileCall) → In one calls → one.from ≡ kernel → is_fetch one.body ≡ false) → d.stamp ≡ c.stamp → d.mode ≡ c.mode → (is_on d.mode ≡ false → d.blocks ≡ []) → Asking z kernel d calls
asking_alone z kernel c d calls f n s e empty = record {
  off_empty = empty;
  one_fetch = f.one_fetch;
  fetch_waits = λ x m a p. absurd (cc (n x m a, p));
  fetch_on = λ x m a stamp block q r. absurd (cc (n x m a, ap is_fetch q));
  fetch_absent = λ x m a stamp block q r. absurd (cc (n x m a, ap is_fetch q));
  fetch_within = λ x m a stamp block q r. absurd (cc (n x m a, ap is_fetch q));
  ops_off = λ x m a pid number stamp stream way q r. ap is_on e ∙ f.ops_off x m a pid number stamp stream way q (r ∙ s);
}

-- a client takes a grant
off_granted : (on b : Bool) (blocks : List Held) → is_on (mode_of on) ≡ false → cond (on && b) blocks [] ≡ []
off_granted true b blocks e = absurd (cc (e))
off_granted false b blocks e = refl

low_requests : (v : View) → FlatStamps v → (kernel : ℕ) → (one : FileCall) → In one (things v) → one.from ≡ kernel → (stamp : ℕ) → request_stamp one.body ≡ Some stamp → stamp ≤ own_stamp v kernel
low_requests v s kernel one m e stamp q = subst (λ k. stamp ≤ own_stamp v k) e ((s.each one m).request stamp q)

pub asking_take : (z : Setting) (v : View) (kernel : ℕ) (grant : FileGrant) → FlatStamps v → FlatAsking z v → IsClient (length v.clients) kernel → Asking z kernel (take_grant (client v kernel) grant) (things v)
asking_take z v kernel grant s f i = choose_by (λ (c : Client). Asking z kernel c (things v)) (nat_le grant.stamp (client v kernel).stamp) (client v kernel) (granted (client v kernel) grant) (λ e. f kernel i)
    (λ e. asking_risen z kernel (client v kernel) (granted (client v kernel) grant) (things v) (f kernel i) (λ o. off_granted grant.on ((client v kernel).version == grant.old) (client v kernel).blocks o) refl (leb-false grant.stamp (client v kernel).stamp e) (low_requests v s kernel))

pub asking_installed : (z : Setting) (kernel : ℕ) (c : Client) (streams : List StreamNo) (calls : List FileCall) → Asking z kernel c calls → Asking z kernel (record c { streams = streams }) calls
asking_installed z kernel c streams calls f = asking_waits z kernel c (record c { streams = streams }) calls f (record { stamp = refl; mode = refl; empty = f.off_empty; waiting = inr (λ e. e); absent = λ n h l. (h, l) })

-- a callback is taken
off_after : (mode : CacheMode) (blocks : List Held) (kind : CallKind) → (is_on mode ≡ false → blocks ≡ []) → is_on (mode_after mode kind) ≡ false → blocks_after blocks kind ≡ []
off_after mode blocks Recall f e = ap (map cleaned) (f e)
off_after mode blocks Stop f e = refl

pub asking_called : (z : Setting) (v : View) (kernel stamp : ℕ) (kind : CallKind) → FlatStamps v → FlatAsking z v → IsClient (length v.clients) kernel → own_stamp v kernel < stamp → Asking z kernel (take_callback (client v kernel) stamp kind) (things v)
asking_called z v kernel stamp kind s f i l = asking_risen z kernel (client v kernel) (take_callback (client v kernel) stamp kind) (things v) (f kernel i) (off_after (client v kernel).mode (client v kernel).blocks kind (f kernel i).off_empty) refl l (low_requests v s kernel)

-- a block comes in, and is written back
pub filled_empty : (z : Setting) (c : Client) (block : BlockNo) (piece : List ℕ) (stamp : ℕ) → (is_on c.mode ≡ false → c.blocks ≡ []) → (stamp ≡ c.stamp → is_on c.mode ≡ true) → is_on c.mode ≡ false → (fill z c stamp block piece).blocks ≡ []
filled_empty z c block piece stamp f on e = by_test ((stamp == c.stamp) && is_none (held c.blocks block.0)) refl
  where
    by_test : (b : Bool) → ((stamp == c.stamp) && is_none (held c.blocks block.0)) ≡ b → blocks_filled z c.blocks block piece b ≡ []
    by_test true q = absurd (cc (e, on (eqb-true stamp c.stamp (and_parts (stamp == c.stamp) _ q).0)))
    by_test false q = f e

back_absent : (blocks : List Held) (dirty : Option ℕ) (b : Bool) (place : ℕ) (o : Option Held) → held blocks place ≡ o → (number : ℕ) → held blocks number ≡ None → held (blocks_written_back blocks dirty b o) number ≡ None
back_absent blocks dirty b place (Some one) e number h = choose (λ (xs : List Held). held xs number ≡ None) (b && same_number one.dirty dirty) (with_block (cleaned one) blocks) blocks
    (held_with blocks (cleaned one) number (λ q. let p = (held_found blocks place one e).1 in cc (h, e, ap (held blocks) (sym p ∙ q))) ∙ h) h
back_absent blocks dirty b place None e number h = h

back_empty : (blocks : List Held) (dirty : Option ℕ) (b : Bool) (place : ℕ) (o : Option Held) → held blocks place ≡ o → blocks ≡ [] → blocks_written_back blocks dirty b o ≡ []
back_empty blocks dirty b place (Some one) e h = absurd (cc (e, ap (λ xs. held xs place) h))
back_empty blocks dirty b place None e h = h

pub asking_back : (z : Setting) (v : View) (kernel stamp number : ℕ) (dirty : Option ℕ) → FlatAsking z v → IsClient (length v.clients) kernel → Asking z kernel (wrote_back (client v kernel) stamp number dirty) (things v)
asking_back z v kernel stamp number dirty f i = asking_waits z kernel (client v kernel) (wrote_back (client v kernel) stamp number dirty) (things v) (f kernel i) (record {
  stamp = refl;
  mode = refl;
  empty = λ e. back_empty (client v kernel).blocks dirty (stamp == (client v kernel).stamp) number (held (client v kernel).blocks number) refl ((f kernel i).off_empty e);
  waiting = inr (λ e. e);
  absent = λ n h l. (back_absent (client v kernel).blocks dirty (stamp == (client v kernel).stamp) number (held (client v kernel).blocks number) refl n h, l);
})

pub asking_drop : (z : Setting) (v : View) (kernel number : ℕ) → FlatAsking z v → IsClient (length v.clients) kernel → Asking z kernel (record (client v kernel) { blocks = without_block number (client v kernel).blocks }) (things v)
asking_drop z v kernel number f i = asking_waits z kernel (client v kernel) (record (client v kernel) { blocks = without_block number (client v kernel).blocks }) (things v) (f kernel i) (record { stamp = refl; mode = refl; empty = λ e. ap (without_block number) ((f kernel i).off_empty e); waiting = inr (λ e. e); absent = λ n h l. (none_fewer (λ (x : Held). not (x.block.0 == number)) (client v kernel).blocks n h, l) })

-- requests begin
op_not_fetch : (stamp : ℕ) (step : FileStep) → is_fetch (op_of stamp step) ≡ false
op_not_fetch stamp (act.Reading pid number kernel stream from many) = refl
op_not_fetch stamp (act.Writing pid number kernel stream from bytes) = refl
op_not_fetch stamp (act.Append pid number kernel stream bytes) = refl
op_not_fetch stamp step = refl

asking_op : (z : Setting) (v : View) (kernel : ℕ) (step : FileStep) → FlatAsking z v → is_on (client v kernel).mode ≡ false → FlatAsking z (send_op v kernel step)
asking_op z v kernel step f o = asking_begin z v kernel (op_of (client v kernel).stamp step) None f (record {
  operates = λ pid number stamp stream way e. o;
  alone = λ e. absurd (cc (op_not_fetch (client v kernel).stamp step, e));
  waits = λ e. absurd (cc (op_not_fetch (client v kernel).stamp step, e));
  on = λ e. absurd (cc (op_not_fetch (client v kernel).stamp step, e));
  absent = λ stamp block e. absurd (cc (op_not_fetch (client v kernel).stamp step, ap is_fetch e));
})

pub asking_fetch : (z : Setting) (v : View) (kernel number : ℕ) → FlatAsking z v → NoFetch v kernel → is_any (client v kernel).waiting ≡ true → is_on (client v kernel).mode ≡ true → (held (client v kernel).blocks number ≡ None) × (number * z.block < (client v kernel).size) → FlatAsking z (send_fetch v kernel number)
asking_fetch z v kernel number f n w o a = asking_begin z v kernel (form.Fetch (client v kernel).stamp (record { 0 = number })) None f (record {
  operates = λ pid count stamp stream way e. absurd (cc (e));
  alone = λ e. n;
  waits = λ e. w;
  on = λ e. o;
  absent = λ stamp block e. let same : number ≡ block.0 = cc (e) in subst (λ m. (held (client v kernel).blocks m ≡ None) × (m * z.block < (client v kernel).size)) same a;
})

-- what waits changes
any_more : {X : Type 0} (xs : List X) (x : X) → is_any (xs ++ x ∷ []) ≡ true
any_more [] x = refl
any_more (y ∷ ys) x = refl

pub asking_queue : (z : Setting) (v : View) (kernel : ℕ) (step : FileStep) → FlatAsking z v → IsClient (length v.clients) kernel → FlatAsking z (queue v kernel step)
asking_queue z v kernel step f i = asking_set z v kernel (record (client v kernel) { waiting = (client v kernel).waiting ++ step ∷ [] }) f i (asking_waits z kernel (client v kernel) _ (things v) (f kernel i) (record { stamp = refl; mode = refl; empty = (f kernel i).off_empty; waiting = inr (λ e. any_more (client v kernel).waiting step); absent = λ n h l. (h, l) }))

asking_enter : (z : Setting) (v : View) (kernel : ℕ) (step : FileStep) → FlatAsking z v → IsClient (length v.clients) kernel → is_on (client v kernel).mode ≡ true → missing z (client v kernel) step ≡ None → FlatAsking z (enter_cached z v kernel step)
asking_enter z v kernel step f i o n = asking_set z v kernel (done_cached z (client v kernel) step) f i (asking_waits z kernel (client v kernel) (done_cached z (client v kernel) step) (things v) (f kernel i) (record {
  stamp = (alike_done z (client v kernel) step).stamp;
  mode = (alike_done z (client v kernel) step).mode;
  empty = λ e. absurd (cc (e, o, ap is_on (alike_done z (client v kernel) step).mode));
  waiting = inr (λ e. ap is_any (done_waiting z (client v kernel) step) ∙ e);
  absent = λ m h l. done_absent z (client v kernel) step n m h l;
}))

asking_wait_for : (z : Setting) (v : View) (kernel : ℕ) (step : FileStep) (number : ℕ) (waiting : List FileStep) → (client v kernel).waiting ≡ waiting → FlatAsking z v → IsClient (length v.clients) kernel → is_on (client v kernel).mode ≡ true → (held (client v kernel).blocks number ≡ None) × (number * z.block < (client v kernel).size) → FlatAsking z (wait_for v kernel step number waiting)
asking_wait_for z v kernel step number [] w f i o a =
    let d : Client = record (client v kernel) { waiting = (client v kernel).waiting ++ step ∷ [] } in
    let same : client (queue v kernel step) kernel ≡ d = client_set v kernel d i in
    asking_fetch z (queue v kernel step) kernel number (asking_queue z v kernel step f i)
    (λ x m e. no_fetch x m e (is_fetch x.body) refl)
    (ap (λ (c : Client). is_any c.waiting) same ∙ any_more (client v kernel).waiting step)
    (ap (λ (c : Client). is_on c.mode) same ∙ o)
    (subst (λ (c : Client). (held c.blocks number ≡ None) × (number * z.block < c.size)) (sym same) a)
  where
    no_fetch : (x : FileCall) → In x (things v) → x.from ≡ kernel → (b : Bool) → is_fetch x.body ≡ b → b ≡ false
    no_fetch x m e true q = absurd (cc ((f kernel i).fetch_waits x m e q, ap is_any w))
    no_fetch x m e false q = refl
asking_wait_for z v kernel step number (first ∷ rest) w f i o a = asking_queue z v kernel step f i

asking_started : (z : Setting) (v : View) (kernel : ℕ) (step : FileStep) (on : Bool) (gap : Option ℕ) → is_on (client v kernel).mode ≡ on → missing z (client v kernel) step ≡ gap → FlatAsking z v → IsClient (length v.clients) kernel → FlatAsking z (started z v kernel step on gap)
asking_started z v kernel step false gap o g f i = asking_op z v kernel step f o
asking_started z v kernel step true None o g f i = asking_enter z v kernel step f i o g
asking_started z v kernel step true (Some number) o g f i = asking_wait_for z v kernel step number (client v kernel).waiting refl f i o (missing_absent z (client v kernel) step number g)

pub asking_start : (z : Setting) (v : View) (kernel : ℕ) (step : FileStep) → FlatAsking z v → IsClient (length v.clients) kernel → FlatAsking z (start_data z v kernel step)
asking_start z v kernel step f i = asking_started z v kernel step (is_on (client v kernel).mode) (missing z (client v kernel) step) refl refl f i

-- what waits looks again
asking_unqueue : (z : Setting) (v : View) (kernel : ℕ) (rest : List FileStep) → FlatAsking z v → IsClient (length v.clients) kernel → NoFetch v kernel → FlatAsking z (unqueue v kernel rest)
asking_unqueue z v kernel rest f i n = asking_set z v kernel (record (client v kernel) { waiting = rest }) f i (asking_alone z kernel (client v kernel) (record (client v kernel) { waiting = rest }) (things v) (f kernel i) n refl refl (f kernel i).off_empty)

no_fetch_op : (v : View) (kernel source : ℕ) (step : FileStep) → NoFetch v kernel → NoFetch (send_op v source step) kernel
no_fetch_op v kernel source step n x m e = elim (in_last x (new_call v source server (op_of (client v source).stamp step) None) (things v) (subst (In x) (things_begin v source server (op_of (client v source).stamp step) None) m)) [ inl k ↦ n x k e | inr q ↦ ap (λ (y : FileCall). is_fetch y.body) q ∙ op_not_fetch (client v source).stamp step ]

asking_turn : (z : Setting) (step : FileStep) (rest : List FileStep) (v : View) (kernel : ℕ) (on : Bool) (gap : Option ℕ) → is_on (client v kernel).mode ≡ on → missing z (client v kernel) step ≡ gap → FlatAsking z v → IsClient (length v.clients) kernel → NoFetch v kernel → (client v kernel).waiting ≡ step ∷ rest →
    ((w : View) → FlatAsking z w → IsClient (length w.clients) kernel → NoFetch w kernel → (client w kernel).waiting ≡ rest → FlatAsking z (advance z rest w kernel)) →
    FlatAsking z (cond on (cond (is_some gap) (send_fetch v kernel (or_zero gap)) (advance z rest (enter_cached z (unqueue v kernel rest) kernel step) kernel)) (advance z rest (send_op (unqueue v kernel rest) kernel step) kernel))
asking_turn z step rest v kernel true (Some number) o g f i n w go = asking_fetch z v kernel number f n (ap is_any w) o (missing_absent z (client v kernel) step number g)
asking_turn z step rest v kernel true None o g f i n w go =
    let same : client (unqueue v kernel rest) kernel ≡ record (client v kernel) { waiting = rest } = client_set v kernel (record (client v kernel) { waiting = rest }) i in
    let j : IsClient (length (unqueue v kernel rest).clients) kernel = still_client v kernel kernel _ i in
    go (enter_cached z (unqueue v kernel rest) kernel step)
    (asking_set z (unqueue v kernel rest) kernel (done_cached z (client (unqueue v kernel rest) kernel) step) (asking_unqueue z v kernel rest f i n) j
    (asking_alone z kernel (client (unqueue v kernel rest) kernel) (done_cached z (client (unqueue v kernel rest) kernel) step) (things v) (asking_unqueue z v kernel rest f i n kernel j) n (alike_done z (client (unqueue v kernel rest) kernel) step).stamp (alike_done z (client (unqueue v kernel rest) kernel) step).mode (λ e. absurd (cc (e, o, ap is_on (alike_done z (client (unqueue v kernel rest) kernel) step).mode, ap (λ (c : Client). is_on c.mode) same)))))
    (still_client (unqueue v kernel rest) kernel kernel _ j) n
    (ap (λ (c : Client). c.waiting) (client_set (unqueue v kernel rest) kernel (done_cached z (client (unqueue v kernel rest) kernel) step) j) ∙ done_waiting z (client (unqueue v kernel rest) kernel) step ∙ ap (λ (c : Client). c.waiting) same)
asking_turn z step rest v kernel false gap o g f i n w go =
    let same : client (unqueue v kernel rest) kernel ≡ record (client v kernel) { waiting = rest } = client_set v kernel (record (client v kernel) { waiting = rest }) i in
    let j : IsClient (length (unqueue v kernel rest).clients) kernel = still_client v kernel kernel _ i in
    go (send_op (unqueue v kernel rest) kernel step) (asking_op z (unqueue v kernel rest) kernel step (asking_unqueue z v kernel rest f i n) (ap (λ (c : Client). is_on c.mode) same ∙ o)) j (no_fetch_op (unqueue v kernel rest) kernel kernel step n) (ap (λ (c : Client). c.waiting) same)

asking_advance : (z : Setting) (waiting : List FileStep) (v : View) (kernel : ℕ) → FlatAsking z v → IsClient (length v.clients) kernel → NoFetch v kernel → (client v kernel).waiting ≡ waiting → FlatAsking z (advance z waiting v kernel)
asking_advance z [] v kernel f i n w = f
asking_advance z (step ∷ rest) v kernel f i n w = asking_turn z step rest v kernel (is_on (client v kernel).mode) (missing z (client v kernel) step) refl refl f i n w (λ x g j m q. asking_advance z rest x kernel g j m q)

pub asking_look : (z : Setting) (v : View) (kernel : ℕ) → FlatAsking z v → IsClient (length v.clients) kernel → NoFetch v kernel → FlatAsking z (look z v kernel)
asking_look z v kernel f i n = asking_advance z (client v kernel).waiting v kernel f i n refl
