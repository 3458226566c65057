-- What a client reads, writes and appends, and what waits there: facts of views that the parts of this keep, with what enters.
use Rattle.std.proofs.Common.{◌≡◌, ◌⊎◌, ℕ, ◌+◌, nat_lt, Bool, true, false, cond, is_some, List, [], ◌∷◌, ◌++◌, length, Option, Some, None, refl, ap, ◌∙◌, sym, subst, inl, inr}
use Rattle.sprite_ids.specs.declared.errno.Errno.TheVariants as errno
use Rattle.file_views.specs.declared.body.FileBody.TheVariants as form
use Rattle.file_views.specs.declared.client.Client.{Client}
use Rattle.file_views.specs.declared.step.FileStep.{FileStep}
use Rattle.file_views.specs.declared.step.FileStep.TheVariants as act
use Rattle.file_views.specs.declared.view.View.{View}
use Rattle.file_views.specs.declared.entered.Entered.{Entered}
use Rattle.file_views.specs.Setting.{Setting}
use Rattle.file_views.specs.Clients.{is_on, high_of, missing, cached_bytes}
use Rattle.file_views.specs.Views.{client, set_client}
use Rattle.file_views.specs.Data.{send_op, send_fetch, enter_cached, queue, wait_for, started, start_data, unqueue, or_zero, advance, look}
use Rattle.file_views.specs.Entries.{cached_reply, enters_started, enters_data, enters_advance, enters_look}
use Rattle.file_views.specs.Here.{In, IsClient}
use Rattle.file_views.proofs.MemberLaws.{in_last}
use Rattle.file_views.proofs.EffectLaws.{client_set}
use Rattle.file_views.proofs.ShapeStepLaws.{still_client}

-- what enters is noted, one thing after another
abbrev pub noted : {I : Type 0} → (I → Entered → I) → I → List Entered → I
noted note had [] = had
noted note had (one ∷ rest) = noted note (note had one) rest

pub noted_join : {I : Type 0} (note : I → Entered → I) (xs ys : List Entered) (had : I) → noted note had (xs ++ ys) ≡ noted note (noted note had xs) ys
noted_join note [] ys had = refl
noted_join note (x ∷ xs) ys had = noted_join note xs ys (note had x)

-- the same choice of a view and of what enters
pub choose_two : {X Y : Type 0} (P : X → Y → Type 0) (b : Bool) (x : X) (y : Y) (u : X) (w : Y) → (b ≡ true → P x y) → (b ≡ false → P u w) → P (cond b x u) (cond b y w)
choose_two P true x y u w p q = p refl
choose_two P false x y u w p q = q refl

-- a fact P of views, with what entered before, that a client's readings, writings and appends keep, of which Q holds; work leaves Q as it is
pub record WorkNotes (z : Setting) (I : Type 0) (note : I → Entered → I) (Q : View → ℕ → FileStep → Type 0) (P : I → View → Type 0) : Type 0 where
  pub waits : (had : I) (v : View) (kernel : ℕ) (waiting : List FileStep) → P had v → IsClient (length v.clients) kernel → ((step : FileStep) → In step waiting → In step (client v kernel).waiting ⊎ Q v kernel step) → P had (set_client v kernel (record (client v kernel) { waiting = waiting }))
  pub enters : (had : I) (v : View) (kernel : ℕ) (step : FileStep) → P had v → IsClient (length v.clients) kernel → is_on (client v kernel).mode ≡ true → missing z (client v kernel) step ≡ None → Q v kernel step → P (note had (record { kernel = kernel; step = step; reply = cached_reply z v kernel step })) (enter_cached z v kernel step)
  pub operates : (had : I) (v : View) (kernel : ℕ) (step : FileStep) → P had v → IsClient (length v.clients) kernel → Q v kernel step → P had (send_op v kernel step)
  pub still_waits : (v : View) (kernel : ℕ) (waiting : List FileStep) (s : FileStep) → IsClient (length v.clients) kernel → Q v kernel s → Q (set_client v kernel (record (client v kernel) { waiting = waiting })) kernel s
  pub still_enters : (v : View) (kernel : ℕ) (step s : FileStep) → IsClient (length v.clients) kernel → Q v kernel s → Q (enter_cached z v kernel step) kernel s
  pub still_operates : (v : View) (kernel : ℕ) (step s : FileStep) → Q v kernel s → Q (send_op v kernel step) kernel s
  pub fetches : (had : I) (v : View) (kernel number : ℕ) → P had v → IsClient (length v.clients) kernel → P had (send_fetch v kernel number)

pub notes_queue : (z : Setting) (I : Type 0) (note : I → Entered → I) (Q : View → ℕ → FileStep → Type 0) (P : I → View → Type 0) → WorkNotes z I note Q P → (had : I) (v : View) (kernel : ℕ) (step : FileStep) → P had v → IsClient (length v.clients) kernel → Q v kernel step → P had (queue v kernel step)
notes_queue z I note Q P w had v kernel step p i q = w.waits had v kernel ((client v kernel).waiting ++ step ∷ []) p i (λ s m. elim (in_last s step (client v kernel).waiting m) [ inl k ↦ inl k | inr e ↦ inr (same s e) ])
  where
    same : (s : FileStep) → s ≡ step → Q v kernel s
    same s e = subst (Q v kernel) (sym e) q

notes_wait_for : (z : Setting) (I : Type 0) (note : I → Entered → I) (Q : View → ℕ → FileStep → Type 0) (P : I → View → Type 0) → WorkNotes z I note Q P → (had : I) (v : View) (kernel : ℕ) (step : FileStep) (number : ℕ) (waiting : List FileStep) → P had v → IsClient (length v.clients) kernel → Q v kernel step → P had (wait_for v kernel step number waiting)
notes_wait_for z I note Q P w had v kernel step number [] p i q = w.fetches had (queue v kernel step) kernel number (notes_queue z I note Q P w had v kernel step p i q) (still_client v kernel kernel _ i)
notes_wait_for z I note Q P w had v kernel step number (first ∷ rest) p i q = notes_queue z I note Q P w had v kernel step p i q

notes_started : (z : Setting) (I : Type 0) (note : I → Entered → I) (Q : View → ℕ → FileStep → Type 0) (P : I → View → Type 0) → WorkNotes z I note Q P → (had : I) (v : View) (kernel : ℕ) (step : FileStep) (on : Bool) (gap : Option ℕ) → is_on (client v kernel).mode ≡ on → missing z (client v kernel) step ≡ gap → P had v → IsClient (length v.clients) kernel → Q v kernel step → P (noted note had (enters_started z v kernel step on gap)) (started z v kernel step on gap)
notes_started z I note Q P w had v kernel step false gap o g p i q = w.operates had v kernel step p i q
notes_started z I note Q P w had v kernel step true None o g p i q = w.enters had v kernel step p i o g q
notes_started z I note Q P w had v kernel step true (Some number) o g p i q = notes_wait_for z I note Q P w had v kernel step number (client v kernel).waiting p i q

-- a reading, writing or append begins
pub notes_start : (z : Setting) (I : Type 0) (note : I → Entered → I) (Q : View → ℕ → FileStep → Type 0) (P : I → View → Type 0) → WorkNotes z I note Q P → (had : I) (v : View) (kernel : ℕ) (step : FileStep) → P had v → IsClient (length v.clients) kernel → Q v kernel step → P (noted note had (enters_data z v kernel step)) (start_data z v kernel step)
notes_start z I note Q P w had v kernel step p i q = notes_started z I note Q P w had v kernel step (is_on (client v kernel).mode) (missing z (client v kernel) step) refl refl p i q

-- what waits beside it changes no reply
same_reply : (z : Setting) (v w : View) (kernel : ℕ) (step : FileStep) (waiting : List FileStep) → client w kernel ≡ record (client v kernel) { waiting = waiting } → cached_reply z w kernel step ≡ cached_reply z v kernel step
same_reply z v w kernel (act.Reading pid number place stream from many) waiting e = ap (λ (c : Client). let piece : List ℕ = cached_bytes z c from (high_of c.size (act.Reading pid number place stream from many)) in form.Value (length piece) 0 piece) e
same_reply z v w kernel (act.Append pid number place stream bytes) waiting e = ap (λ (c : Client). cond (nat_lt z.most (c.size + length bytes)) (form.Refused errno.TooBig) (form.Value (length bytes) 0 [])) e
same_reply z v w kernel (act.Writing pid number place stream from bytes) waiting e = refl
same_reply z v w kernel step waiting e = refl

notes_turn : (z : Setting) (I : Type 0) (note : I → Entered → I) (Q : View → ℕ → FileStep → Type 0) (P : I → View → Type 0) → WorkNotes z I note Q P → (had : I) (step : FileStep) (rest : List FileStep) (v : View) (kernel : ℕ) (on : Bool) (gap : Option ℕ) → is_on (client v kernel).mode ≡ on → missing z (client v kernel) step ≡ gap → P had v → IsClient (length v.clients) kernel → ((s : FileStep) → In s (step ∷ rest) → Q v kernel s) →
    ((next : I) (x : View) → P next x → IsClient (length x.clients) kernel → ((s : FileStep) → In s rest → Q x kernel s) → P (noted note next (enters_advance z rest x kernel)) (advance z rest x kernel)) →
    P (noted note had (cond on (cond (is_some gap) [] (enters_started z v kernel step on gap ++ enters_advance z rest (enter_cached z (unqueue v kernel rest) kernel step) kernel)) (enters_advance z rest (send_op (unqueue v kernel rest) kernel step) kernel)))
    (cond on (cond (is_some gap) (send_fetch v kernel (or_zero gap)) (advance z rest (enter_cached z (unqueue v kernel rest) kernel step) kernel)) (advance z rest (send_op (unqueue v kernel rest) kernel step) kernel))
notes_turn z I note Q P w had step rest v kernel true (Some number) o g p i q go = w.fetches had v kernel number p i
notes_turn z I note Q P w had step rest v kernel true None o g p i q go =
    let same : client (unqueue v kernel rest) kernel ≡ record (client v kernel) { waiting = rest } = client_set v kernel (record (client v kernel) { waiting = rest }) i in
    let j : IsClient (length (unqueue v kernel rest).clients) kernel = still_client v kernel kernel _ i in
    go (note had (record { kernel = kernel; step = step; reply = cached_reply z v kernel step })) (enter_cached z (unqueue v kernel rest) kernel step)
    (subst (λ reply. P (note had (record { kernel = kernel; step = step; reply = reply })) (enter_cached z (unqueue v kernel rest) kernel step)) (same_reply z v (unqueue v kernel rest) kernel step rest same)
    (w.enters had (unqueue v kernel rest) kernel step (w.waits had v kernel rest p i (λ s m. inr (q s (inr m)))) j (ap (λ (c : Client). is_on c.mode) same ∙ o) (ap (λ (c : Client). missing z c step) same ∙ g) (w.still_waits v kernel rest step i (q step (inl refl)))))
    (still_client (unqueue v kernel rest) kernel kernel _ j)
    (λ s m. w.still_enters (unqueue v kernel rest) kernel step s j (w.still_waits v kernel rest s i (q s (inr m))))
notes_turn z I note Q P w had step rest v kernel false gap o g p i q go =
    let j : IsClient (length (unqueue v kernel rest).clients) kernel = still_client v kernel kernel _ i in
    go had (send_op (unqueue v kernel rest) kernel step) (w.operates had (unqueue v kernel rest) kernel step (w.waits had v kernel rest p i (λ s m. inr (q s (inr m)))) j (w.still_waits v kernel rest step i (q step (inl refl)))) j (λ s m. w.still_operates (unqueue v kernel rest) kernel step s (w.still_waits v kernel rest s i (q s (inr m))))

notes_advance : (z : Setting) (I : Type 0) (note : I → Entered → I) (Q : View → ℕ → FileStep → Type 0) (P : I → View → Type 0) → WorkNotes z I note Q P → (waiting : List FileStep) (had : I) (v : View) (kernel : ℕ) → P had v → IsClient (length v.clients) kernel → ((s : FileStep) → In s waiting → Q v kernel s) → P (noted note had (enters_advance z waiting v kernel)) (advance z waiting v kernel)
notes_advance z I note Q P w [] had v kernel p i q = p
notes_advance z I note Q P w (step ∷ rest) had v kernel p i q = notes_turn z I note Q P w had step rest v kernel (is_on (client v kernel).mode) (missing z (client v kernel) step) refl refl p i q (λ next x r j g. notes_advance z I note Q P w rest next x kernel r j g)

-- what waits looks again
pub notes_look : (z : Setting) (I : Type 0) (note : I → Entered → I) (Q : View → ℕ → FileStep → Type 0) (P : I → View → Type 0) → WorkNotes z I note Q P → (had : I) (v : View) (kernel : ℕ) → P had v → IsClient (length v.clients) kernel → ((s : FileStep) → In s (client v kernel).waiting → Q v kernel s) → P (noted note had (enters_look z v kernel)) (look z v kernel)
notes_look z I note Q P w had v kernel p i q = notes_advance z I note Q P w (client v kernel).waiting had v kernel p i q

-- a fact of views alone
pub record Works (z : Setting) (Q : View → ℕ → FileStep → Type 0) (P : View → Type 0) : Type 0 where
  pub waits : (v : View) (kernel : ℕ) (waiting : List FileStep) → P v → IsClient (length v.clients) kernel → ((step : FileStep) → In step waiting → In step (client v kernel).waiting ⊎ Q v kernel step) → P (set_client v kernel (record (client v kernel) { waiting = waiting }))
  pub enters : (v : View) (kernel : ℕ) (step : FileStep) → P v → IsClient (length v.clients) kernel → is_on (client v kernel).mode ≡ true → missing z (client v kernel) step ≡ None → Q v kernel step → P (enter_cached z v kernel step)
  pub operates : (v : View) (kernel : ℕ) (step : FileStep) → P v → IsClient (length v.clients) kernel → Q v kernel step → P (send_op v kernel step)
  pub still_waits : (v : View) (kernel : ℕ) (waiting : List FileStep) (s : FileStep) → IsClient (length v.clients) kernel → Q v kernel s → Q (set_client v kernel (record (client v kernel) { waiting = waiting })) kernel s
  pub still_enters : (v : View) (kernel : ℕ) (step s : FileStep) → IsClient (length v.clients) kernel → Q v kernel s → Q (enter_cached z v kernel step) kernel s
  pub still_operates : (v : View) (kernel : ℕ) (step s : FileStep) → Q v kernel s → Q (send_op v kernel step) kernel s
  pub fetches : (v : View) (kernel number : ℕ) → P v → IsClient (length v.clients) kernel → P (send_fetch v kernel number)

-- nothing is noted
abbrev pub unnoted : Unit {0} → Entered → Unit {0}
unnoted had one = had

pub works_notes : (z : Setting) (Q : View → ℕ → FileStep → Type 0) (P : View → Type 0) → Works z Q P → WorkNotes z (Unit {0}) unnoted Q (λ had. P)
works_notes z Q P w = record {
  waits = λ had. w.waits;
  enters = λ had. w.enters;
  operates = λ had. w.operates;
  still_waits = w.still_waits;
  still_enters = w.still_enters;
  still_operates = w.still_operates;
  fetches = λ had. w.fetches;
}
