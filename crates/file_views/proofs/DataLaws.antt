-- What a client begins and does in its cache: facts of views that such changes keep.
use Rattle.std.proofs.Common.{◌≡◌, ℕ, ◌+◌, nat_lt, Bool, true, false, cond, List, [], ◌∷◌, ◌++◌, length, Option, Some, None, is_some, refl}
use Rattle.file_views.specs.declared.body.FileBody.{FileBody}
use Rattle.file_views.specs.declared.body.FileBody.TheVariants as form
use Rattle.file_views.specs.declared.client.Client.{Client}
use Rattle.file_views.specs.declared.step.FileStep.{FileStep}
use Rattle.file_views.specs.declared.step.FileStep.TheVariants as act
use Rattle.file_views.specs.declared.view.View.{View}
use Rattle.file_views.specs.Setting.{Setting}
use Rattle.file_views.specs.Clients.{is_on, missing, write_cached, done_cached}
use Rattle.file_views.specs.Views.{server, client, set_client, is_callback, begin}
use Rattle.file_views.specs.Data.{op_of, send_op, send_fetch, enter_cached, queue, wait_for, started, start_data, unqueue, or_zero, advance, look}
use Rattle.file_views.specs.Here.{IsClient}
use Rattle.file_views.proofs.ClientLaws.{choose}
use Rattle.file_views.proofs.ShapeStepLaws.{still_client}

-- a client that keeps its stamp, its mode, its version and its streams
pub record Alike (c d : Client) : Type 0 where
  pub stamp : d.stamp ≡ c.stamp
  pub mode : d.mode ≡ c.mode
  pub version : d.version ≡ c.version
  pub streams : d.streams ≡ c.streams

pub alike_self : (c : Client) → Alike c c
alike_self c = record { stamp = refl; mode = refl; version = refl; streams = refl }

-- a fact of views that such a client, and a request that begins, keep
pub record Carries (P : View → Type 0) : Type 0 where
  pub client : (v : View) (kernel : ℕ) (c : Client) → P v → IsClient (length v.clients) kernel → Alike (client v kernel) c → P (set_client v kernel c)
  pub begins : (v : View) (kernel : ℕ) (body : FileBody) (dirty : Option ℕ) → P v → IsClient (length v.clients) kernel → is_callback body ≡ false → P (begin v kernel server body dirty)

pub op_no_call : (stamp : ℕ) (step : FileStep) → is_callback (op_of stamp step) ≡ false
op_no_call stamp (act.Reading pid number kernel stream from many) = refl
op_no_call stamp (act.Writing pid number kernel stream from bytes) = refl
op_no_call stamp (act.Append pid number kernel stream bytes) = refl
op_no_call stamp step = refl

pub alike_done : (z : Setting) (c : Client) (step : FileStep) → Alike c (done_cached z c step)
alike_done z c (act.Writing pid number kernel stream from bytes) = record { stamp = refl; mode = refl; version = refl; streams = refl }
alike_done z c (act.Append pid number kernel stream bytes) = choose (Alike c) (nat_lt z.most (c.size + length bytes)) c (write_cached z c c.size bytes) (alike_self c) (record { stamp = refl; mode = refl; version = refl; streams = refl })
alike_done z c step = alike_self c

pub carries_send_op : (P : View → Type 0) → Carries P → (v : View) (kernel : ℕ) (step : FileStep) → P v → IsClient (length v.clients) kernel → P (send_op v kernel step)
carries_send_op P k v kernel step p i = k.begins v kernel (op_of (client v kernel).stamp step) None p i (op_no_call (client v kernel).stamp step)

pub carries_fetch : (P : View → Type 0) → Carries P → (v : View) (kernel number : ℕ) → P v → IsClient (length v.clients) kernel → P (send_fetch v kernel number)
carries_fetch P k v kernel number p i = k.begins v kernel (form.Fetch (client v kernel).stamp (record { 0 = number })) None p i refl

carries_enter : (P : View → Type 0) → Carries P → (z : Setting) (v : View) (kernel : ℕ) (step : FileStep) → P v → IsClient (length v.clients) kernel → P (enter_cached z v kernel step)
carries_enter P k z v kernel step p i = k.client v kernel (done_cached z (client v kernel) step) p i (alike_done z (client v kernel) step)

pub carries_wait : (P : View → Type 0) → Carries P → (v : View) (kernel : ℕ) (waiting : List FileStep) → P v → IsClient (length v.clients) kernel → P (set_client v kernel (record (client v kernel) { waiting = waiting }))
carries_wait P k v kernel waiting p i = k.client v kernel (record (client v kernel) { waiting = waiting }) p i (record { stamp = refl; mode = refl; version = refl; streams = refl })

pub carries_queue : (P : View → Type 0) → Carries P → (v : View) (kernel : ℕ) (step : FileStep) → P v → IsClient (length v.clients) kernel → P (queue v kernel step)
carries_queue P k v kernel step p i = carries_wait P k v kernel ((client v kernel).waiting ++ step ∷ []) p i

carries_wait_for : (P : View → Type 0) → Carries P → (v : View) (kernel : ℕ) (step : FileStep) (number : ℕ) (waiting : List FileStep) → P v → IsClient (length v.clients) kernel → P (wait_for v kernel step number waiting)
carries_wait_for P k v kernel step number [] p i = carries_fetch P k (queue v kernel step) kernel number (carries_queue P k v kernel step p i) (still_client v kernel kernel _ i)
carries_wait_for P k v kernel step number (first ∷ rest) p i = carries_queue P k v kernel step p i

carries_started : (P : View → Type 0) → Carries P → (z : Setting) (v : View) (kernel : ℕ) (step : FileStep) (on : Bool) (gap : Option ℕ) → P v → IsClient (length v.clients) kernel → P (started z v kernel step on gap)
carries_started P k z v kernel step false gap p i = carries_send_op P k v kernel step p i
carries_started P k z v kernel step true None p i = carries_enter P k z v kernel step p i
carries_started P k z v kernel step true (Some number) p i = carries_wait_for P k v kernel step number (client v kernel).waiting p i

-- a reading, writing or append begins
pub carries_start : (P : View → Type 0) → Carries P → (z : Setting) (v : View) (kernel : ℕ) (step : FileStep) → P v → IsClient (length v.clients) kernel → P (start_data z v kernel step)
carries_start P k z v kernel step p i = carries_started P k z v kernel step (is_on (client v kernel).mode) (missing z (client v kernel) step) p i

carries_turn : (P : View → Type 0) → Carries P → (z : Setting) (step : FileStep) (rest : List FileStep) (v : View) (kernel : ℕ) (on gap : Bool) (number : ℕ) → P v → IsClient (length v.clients) kernel →
    ((w : View) → P w → IsClient (length w.clients) kernel → P (advance z rest w kernel)) →
    P (cond on (cond gap (send_fetch v kernel number) (advance z rest (enter_cached z (unqueue v kernel rest) kernel step) kernel)) (advance z rest (send_op (unqueue v kernel rest) kernel step) kernel))
carries_turn P k z step rest v kernel true true number p i go = carries_fetch P k v kernel number p i
carries_turn P k z step rest v kernel true false number p i go =
    let j : IsClient (length (unqueue v kernel rest).clients) kernel = still_client v kernel kernel _ i in
    go _ (carries_enter P k z (unqueue v kernel rest) kernel step (carries_wait P k v kernel rest p i) j) (still_client (unqueue v kernel rest) kernel kernel _ j)
carries_turn P k z step rest v kernel false gap number p i go =
    let j : IsClient (length (unqueue v kernel rest).clients) kernel = still_client v kernel kernel _ i in
    go _ (carries_send_op P k (unqueue v kernel rest) kernel step (carries_wait P k v kernel rest p i) j) j

carries_advance : (P : View → Type 0) → Carries P → (z : Setting) (waiting : List FileStep) (v : View) (kernel : ℕ) → P v → IsClient (length v.clients) kernel → P (advance z waiting v kernel)
carries_advance P k z [] v kernel p i = p
carries_advance P k z (step ∷ rest) v kernel p i =
    carries_turn P k z step rest v kernel (is_on (client v kernel).mode) (is_some (missing z (client v kernel) step)) (or_zero (missing z (client v kernel) step)) p i (λ w q j. carries_advance P k z rest w kernel q j)

-- what waits looks again
pub carries_look : (P : View → Type 0) → Carries P → (z : Setting) (v : View) (kernel : ℕ) → P v → IsClient (length v.clients) kernel → P (look z v kernel)
carries_look P k z v kernel p i = carries_advance P k z (client v kernel).waiting v kernel p i
