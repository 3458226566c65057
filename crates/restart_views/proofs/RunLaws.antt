-- Whatever is played on a file whose server may stop, it has the bytes that it should have.
use Rattle.std.proofs.Common.{◌≡◌, ◌≢◌, ◌≤◌, ◌<◌, ◌⊎◌, ℕ, zero, suc, ◌+◌, ◌-◌, ◌==◌, nat_le, nat_lt, leb-true, Bool, true, false, cond, ◌&&◌, ◌||◌, List, [], ◌∷◌, length, filter, Option, Some, None, refl, sym, ap, ap₂, ◌∙◌, subst, inl, inr, arith, eqb-true, ne_eqb, slice_set, slice_index_or, get_or-set_same, get_or-set_other}
use Rattle.std.proofs.lemmas.Bool.{and_parts, and_from, ltb-true, ltb-false}
use Rattle.std.proofs.lemmas.Bool.Decides.{eqb_tells}
use Rattle.file_views.specs.declared.body.FileBody.{FileBody}
use Rattle.file_views.specs.declared.opens.Open.{Open}
use Rattle.file_views.specs.declared.step.FileStep.{FileStep}
use Rattle.file_views.specs.declared.step.FileStep.TheVariants as act
use Rattle.file_views.specs.declared.view.View.{View}
use Rattle.file_views.specs.declared.entered.Entered.{Entered}
use Rattle.file_views.specs.Setting.{Setting, sprite_setting}
use Rattle.file_views.specs.Streams.{is_any}
use Rattle.file_views.specs.Views.{new_view, busy}
use Rattle.file_views.specs.Serving.{store_blocks}
use Rattle.file_views.specs.Possible.{is_named, stepped}
use Rattle.file_views.specs.Entries.{entered, bytes_entered, bytes_after_all, is_right, are_right}
use Rattle.file_views.specs.Settled.{stands_for}
use Rattle.file_views.specs.Coherent.{coherent}
use Rattle.file_views.specs.Here.{In}
use Rattle.file_views.specs.Sound.{Sound}
use Rattle.file_views.proofs.ClientLaws.{choose_by}
use Rattle.file_views.proofs.HolderSettleLaws.{holder_is}
use Rattle.file_views.proofs.MemberLaws.{in_filter}
use Rattle.file_views.proofs.SoundLaws.{new_sound, new_stood}
use Rattle.restart_views.specs.declared.kept.Kept.{Kept}
use Rattle.restart_views.specs.declared.restarted.Restarted.{Restarted}
use Rattle.restart_views.specs.declared.restart_step.RestartStep.{RestartStep}
use Rattle.restart_views.specs.declared.restart_step.RestartStep.TheVariants as does
use Rattle.restart_views.specs.ServerMoves.{greeted, reopened, is_quiet}
use Rattle.restart_views.specs.ColdSteps.{is_open_step, read_opens, cold_step, Cold}
use Rattle.restart_views.specs.Answered.{Answered}
use Rattle.restart_views.specs.Restarts.{kept_at, claims_at, is_unclaimed, keeps_blocks, is_installed, client_at, kept_of, or_kept, keep_to, after_stop, is_refused, greet, reopen, reopen_all, claimed, tried, stays_uncached, cached_again, after_claim, is_barred, file_stepped, file_entered, after_file, least_due, after_due, settled_in, most_due, restarted, all_restarted, Restarts}
use Rattle.restart_views.specs.RunBytes.{due_kept, due_in, due, NoneOld, OldAt, OneOld}
use Rattle.restart_views.specs.RunLaw.{has_old, from_open, run_through, right_through, bytes_file, right_file, is_coherent, bytes_due, right_due, bytes_in, right_in, bytes_step, right_step, bytes_run, stays_right, Aged, Runs}
use Rattle.restart_views.proofs.CalmLaws.{Calm, unflushed}
use Rattle.restart_views.proofs.SettingLaws.{none_cache}
use Rattle.restart_views.proofs.CoolLaws.{cool, calm_cold, step_cold, step_sound, step_bytes, step_right}
use Rattle.restart_views.proofs.AnsweredLaws.{new_answered, steps_answered}
use Rattle.restart_views.proofs.RestartLaws.{Warm, any_kept, kept_in, new_restarts, keep_count, stop_keeps, warm_tried, claim_keeps, file_keeps}
use Rattle.restart_views.proofs.StoodLaws.{restarts_coherent, restarts_stood, restarts_bytes, restarts_right}
use Rattle.restart_views.proofs.DueLaws.{Holding, holding_of, due_none, due_old, keep_at, past_end, StopDue, stop_due}
use Rattle.restart_views.proofs.ClaimLaws.{claim_due, cleared_by}
use Rattle.restart_views.proofs.FreshLaws.{Either, fresh_stepped}
use Rattle.restart_views.proofs.RisenLaws.{version_rises}

-- the sum of both facts
abbrev pub AgedOne : View → List (Option Kept) → Type 0
AgedOne v kept = (o : OldAt kept) × Aged v kept o.place o.one

one_old : (v : View) (kept : List (Option Kept)) → NoneOld kept ⊎ AgedOne v kept → OneOld kept
one_old v kept (inl f) = inl f
one_old v kept (inr o) = inr o.0

-- whether there are dirty blocks
none_has : (kept : List (Option Kept)) → NoneOld kept → has_old kept ≡ false
none_has [] f = refl
none_has (x ∷ xs) f = ap₂ (λ a b. a || b) (f zero) (none_has xs (λ place. f (suc place)))

some_has : (kept : List (Option Kept)) (place : ℕ) (one : Kept) → slice_index_or kept place None ≡ Some one → is_any one.blocks ≡ true → has_old kept ≡ true
some_has [] place one e n = absurd (cc (e))
some_has (x ∷ xs) zero one e n = ap (λ y. keeps_blocks y || has_old xs) e ∙ ap (λ b. b || has_old xs) n
some_has (x ∷ xs) (suc place) one e n = ap (λ b. keeps_blocks x || b) (some_has xs place one e n) ∙ or_right (keeps_blocks x)
  where
    or_right : (b : Bool) → (b || true) ≡ true
    or_right true = refl
    or_right false = refl

old_unclaimed : (kept : List (Option Kept)) (o : OldAt kept) → is_unclaimed kept ≡ true
old_unclaimed kept o = any_kept kept o.one (kept_in kept o.place o.one o.is).0

-- without dirty blocks, and with the server's bytes, it is what takes effect
run_plain : (z : Setting) (bytes server : List ℕ) (es : List Entered) → run_through z false bytes server es ≡ bytes_after_all z bytes es
run_plain z bytes server [] = refl
run_plain z bytes server (one ∷ rest) = run_plain z (bytes_entered z bytes one.step) (bytes_entered z server one.step) rest

right_plain : (z : Setting) (bytes server : List ℕ) (es : List Entered) → right_through z false bytes server es ≡ are_right z bytes es
right_plain z bytes server [] = refl
right_plain z bytes server (one ∷ rest) = ap (λ b. is_right z bytes one.step one.reply && b) (right_plain z (bytes_entered z bytes one.step) (bytes_entered z server one.step) rest)

same_open : (old : Bool) (one : Entered) (bytes : List ℕ) → from_open old one bytes bytes ≡ bytes
same_open old one bytes = choose_by (λ bs. bs ≡ bytes) (old && is_open_step one.step) bytes bytes (λ e. refl) (λ e. refl)

run_same : (z : Setting) (old : Bool) (bytes : List ℕ) (es : List Entered) → run_through z old bytes bytes es ≡ bytes_after_all z bytes es
run_same z old bytes [] = refl
run_same z old bytes (one ∷ rest) = ap (λ bs. run_through z old (bytes_entered z bs one.step) (bytes_entered z bytes one.step) rest) (same_open old one bytes) ∙ run_same z old (bytes_entered z bytes one.step) rest

right_same : (z : Setting) (old : Bool) (bytes : List ℕ) (es : List Entered) → right_through z old bytes bytes es ≡ are_right z bytes es
right_same z old bytes [] = refl
right_same z old bytes (one ∷ rest) = ap (λ bs. is_right z bs one.step one.reply && right_through z old (bytes_entered z bs one.step) (bytes_entered z bytes one.step) rest) (same_open old one bytes) ∙ ap (λ b. is_right z bytes one.step one.reply && b) (right_same z old (bytes_entered z bytes one.step) rest)

open_right : (z : Setting) (bytes : List ℕ) (step : FileStep) (reply : FileBody) → is_open_step step ≡ true → is_right z bytes step reply ≡ true
open_right z bytes (act.Opening pid number kernel stream mode truncate) reply e = refl
open_right z bytes step reply e = absurd (cc (e))

-- a step of the file, with no client that keeps dirty blocks by itself
pub record FileDue (s : Restarted) (step : FileStep) : Type 0 where
  pub bytes : due sprite_setting (record { view = file_stepped sprite_setting s step; kept = s.kept }) ≡ run_through sprite_setting (has_old s.kept) (due sprite_setting s) s.view.bytes (file_entered sprite_setting s step)
  pub right : right_through sprite_setting (has_old s.kept) (due sprite_setting s) s.view.bytes (file_entered sprite_setting s step) ≡ true
  pub old : NoneOld s.kept ⊎ AgedOne (file_stepped sprite_setting s step) s.kept

file_none : (s : Restarted) (step : FileStep) → Runs s → NoneOld s.kept → FileDue s step
file_none s step r f = record {
  bytes = due_none sprite_setting (file_stepped sprite_setting s step) s.kept f ∙ (restarts_bytes s step r.restarts
      ∙ (sym (run_plain sprite_setting (stands_for sprite_setting s.view) s.view.bytes es) ∙ ap₂ (λ b bs. run_through sprite_setting b bs s.view.bytes es) (sym (none_has s.kept f)) (sym (due_none sprite_setting s.view s.kept f))));
  right = ap₂ (λ b bs. right_through sprite_setting b bs s.view.bytes es) (none_has s.kept f) (due_none sprite_setting s.view s.kept f) ∙ (right_plain sprite_setting (stands_for sprite_setting s.view) s.view.bytes es ∙ restarts_right s step r.restarts);
  old = inl f;
}
  where
    es : List Entered
    es = file_entered sprite_setting s step

-- with one that does
stale_bytes : (z : Setting) (v : View) (one : Kept) → one.version ≢ v.version → due_kept z v one ≡ v.bytes
stale_bytes z v one d = ap (λ b. cond b (store_blocks z v.bytes one.size one.blocks) v.bytes) (ne_eqb one.version v.version d)

record ColdDue (s : Restarted) (step : FileStep) (place : ℕ) (one : Kept) : Type 0 where
  pub bytes : due_in sprite_setting (cold_step sprite_setting s.view step) s.kept ≡ run_through sprite_setting true (due_kept sprite_setting s.view one) s.view.bytes (entered cool s.view step)
  pub right : right_through sprite_setting true (due_kept sprite_setting s.view one) s.view.bytes (entered cool s.view step) ≡ true
  pub aged : Aged (cold_step sprite_setting s.view step) s.kept place one

cold_old : (s : Restarted) (step : FileStep) → Runs s → (o : OldAt s.kept) → Aged s.view s.kept o.place o.one → ColdDue s step o.place o.one
cold_old s step r o g = elim (eqb_tells o.one.version s.view.version) [
  | inl a ↦ fresh a.1 (fresh_stepped cool (length s.kept) s.view step (none_cache sprite_setting s.view off r.restarts.sound) (record { opens = g.closed a.1; idle = g.idle a.1 }) c off)
  | inr b ↦ stale b.1
]
  where
    u : is_unclaimed s.kept ≡ true
    u = old_unclaimed s.kept o

    c : Cold (length s.kept) s.view
    c = r.restarts.cold u

    off : s.view.uncached ≡ true
    off = r.restarts.uncached u

    rises : s.view.version ≤ (stepped cool s.view step).version
    rises = version_rises cool s.view step (none_cache sprite_setting s.view off r.restarts.sound)

    is_next : due_in sprite_setting (cold_step sprite_setting s.view step) s.kept ≡ due_kept sprite_setting (cold_step sprite_setting s.view step) o.one
    is_next = due_old sprite_setting (cold_step sprite_setting s.view step) s.kept o

    bytes : (cold_step sprite_setting s.view step).bytes ≡ bytes_after_all sprite_setting s.view.bytes (entered cool s.view step)
    bytes = step_bytes (length s.kept) s.view step off c r.restarts.sound

    right : are_right sprite_setting s.view.bytes (entered cool s.view step) ≡ true
    right = step_right (length s.kept) s.view step off c r.restarts.sound

    later : o.one.version < (cold_step sprite_setting s.view step).version → Aged (cold_step sprite_setting s.view step) s.kept o.place o.one
    later l = record { below = omega (arith, l); closed = λ q. absurd (omega (arith, q, l)); idle = λ q. absurd (omega (arith, q, l)); others = λ q. absurd (omega (arith, q, l)) }

    stale : o.one.version ≢ s.view.version → ColdDue s step o.place o.one
    stale d =
        let low = g.below in
        let strict : o.one.version < s.view.version = omega (arith, low, d) in
        let now : o.one.version < (cold_step sprite_setting s.view step).version = omega (arith, strict, rises) in
        let was : due_kept sprite_setting s.view o.one ≡ s.view.bytes = stale_bytes sprite_setting s.view o.one d in record {
          bytes = is_next ∙ (stale_bytes sprite_setting (cold_step sprite_setting s.view step) o.one (λ q. omega (arith, q, now)) ∙ (bytes ∙ (sym (run_same sprite_setting true s.view.bytes (entered cool s.view step)) ∙ ap (λ bs. run_through sprite_setting true bs s.view.bytes (entered cool s.view step)) (sym was))));
          right = ap (λ bs. right_through sprite_setting true bs s.view.bytes (entered cool s.view step)) was ∙ (right_same sprite_setting true s.view.bytes (entered cool s.view step) ∙ right);
          aged = later now;
        }

    fresh : o.one.version ≡ s.view.version → Either s.view (stepped cool s.view step) (entered cool s.view step) → ColdDue s step o.place o.one
    fresh e (inl n) =
        let same : (cold_step sprite_setting s.view step).version ≡ s.view.version = ap₂ (λ (m : ℕ) (es : List Entered). m + read_opens es) n.3 n.0 ∙ omega arith in record {
          bytes = is_next ∙ (ap₂ (λ (m : ℕ) (bs : List ℕ). cond (o.one.version == m) (store_blocks sprite_setting bs o.one.size o.one.blocks) bs) same n.4 ∙ ap (run_through sprite_setting true (due_kept sprite_setting s.view o.one) s.view.bytes) (sym n.0));
          right = ap (right_through sprite_setting true (due_kept sprite_setting s.view o.one) s.view.bytes) n.0;
          aged = record { below = (let k = g.below in omega (arith, k, same)); closed = λ q. n.1; idle = λ q. n.2; others = λ q. g.others e };
        }
    fresh e (inr p) =
        let high : s.view.version < (cold_step sprite_setting s.view step).version = p.raises in
        let now : o.one.version < (cold_step sprite_setting s.view step).version = omega (arith, e, high) in
        let first : from_open true p.one s.view.bytes (due_kept sprite_setting s.view o.one) ≡ s.view.bytes = ap (λ b. cond b s.view.bytes (due_kept sprite_setting s.view o.one)) p.opens in record {
          bytes = is_next ∙ (stale_bytes sprite_setting (cold_step sprite_setting s.view step) o.one (λ q. omega (arith, q, now)) ∙ (bytes ∙ (ap (bytes_after_all sprite_setting s.view.bytes) p.is ∙ (ap (λ bs. bytes_entered sprite_setting bs p.one.step) (sym first) ∙ ap (run_through sprite_setting true (due_kept sprite_setting s.view o.one) s.view.bytes) (sym p.is)))));
          right = ap (right_through sprite_setting true (due_kept sprite_setting s.view o.one) s.view.bytes) p.is ∙ ap (λ b. b && true) (open_right sprite_setting (from_open true p.one s.view.bytes (due_kept sprite_setting s.view o.one)) p.one.step p.one.reply p.opens);
          aged = later now;
        }

file_old : (s : Restarted) (step : FileStep) → Runs s → (o : OldAt s.kept) → Aged s.view s.kept o.place o.one → FileDue s step
file_old s step r o g =
    let k = cold_old s step r o g in
    let u : is_unclaimed s.kept ≡ true = old_unclaimed s.kept o in
    let h : has_old s.kept ≡ true = some_has s.kept o.place o.one o.is o.some in
    let d : due sprite_setting s ≡ due_kept sprite_setting s.view o.one = due_old sprite_setting s.view s.kept o in
    let next : file_stepped sprite_setting s step ≡ cold_step sprite_setting s.view step = ap (λ b. cond b (cold_step sprite_setting s.view step) (stepped sprite_setting s.view step)) u in
    let es : file_entered sprite_setting s step ≡ entered cool s.view step = ap (λ b. cond b (entered cool s.view step) (entered sprite_setting s.view step)) u in record {
      bytes = ap (λ w. due_in sprite_setting w s.kept) next ∙ (k.bytes ∙ sym (ap₂ (λ b bs. run_through sprite_setting b bs s.view.bytes (file_entered sprite_setting s step)) h d ∙ ap (run_through sprite_setting true (due_kept sprite_setting s.view o.one) s.view.bytes) es));
      right = ap₂ (λ b bs. right_through sprite_setting b bs s.view.bytes (file_entered sprite_setting s step)) h d ∙ (ap (right_through sprite_setting true (due_kept sprite_setting s.view o.one) s.view.bytes) es ∙ k.right);
      old = inr (o, subst (λ w. Aged w s.kept o.place o.one) (sym next) k.aged);
    }

file_due : (s : Restarted) (step : FileStep) → Runs s → FileDue s step
file_due s step r = elim r.old [ inl f ↦ file_none s step r f | inr p ↦ file_old s step r p.0 p.1 ]

-- answers with blocks stay current: while nobody uses its cache there are none
calm_answered : (z : Setting) (v : View) → Calm v → Sound z v → Answered v
calm_answered z v c s one m size blocks r n = absurd (unflushed z v c s one m size blocks r n)

file_answered : (s : Restarted) (step : FileStep) → Runs s → Answered (file_stepped sprite_setting s step)
file_answered s step r = by_test (is_unclaimed s.kept) refl
  where
    by_test : (b : Bool) → is_unclaimed s.kept ≡ b → Answered (cond b (cold_step sprite_setting s.view step) (stepped sprite_setting s.view step))
    by_test true u =
        let off = r.restarts.uncached u in
        let c = r.restarts.cold u in
        calm_answered sprite_setting (cold_step sprite_setting s.view step) (calm_cold (length s.kept) (cold_step sprite_setting s.view step) refl (step_cold (length s.kept) s.view step off c r.restarts.sound)) (step_sound (length s.kept) s.view step off c r.restarts.sound)
    by_test false u = steps_answered sprite_setting s.view step r.restarts.sound r.answered

-- what a step of the file gives
pub record StepDue (s t : Restarted) (run : List ℕ) (test : Bool) : Type 0 where
  pub runs : Runs t
  pub bytes : due sprite_setting t ≡ run
  pub right : test ≡ true

file_runs : (s : Restarted) (step : FileStep) → Runs s → StepDue s (after_file sprite_setting s step) (bytes_file sprite_setting s (due sprite_setting s) step) (right_file sprite_setting s (due sprite_setting s) step)
file_runs s step r = by_test (is_barred s.kept step) refl
  where
    by_test : (b : Bool) → is_barred s.kept step ≡ b → StepDue s (cond b s (record { view = file_stepped sprite_setting s step; kept = s.kept })) (cond b (due sprite_setting s) (run_through sprite_setting (has_old s.kept) (due sprite_setting s) s.view.bytes (file_entered sprite_setting s step))) (cond b true (right_through sprite_setting (has_old s.kept) (due sprite_setting s) s.view.bytes (file_entered sprite_setting s step)))
    by_test true e = record { runs = r; bytes = refl; right = refl }
    by_test false e =
        let d : FileDue s step = file_due s step r in record {
          runs = record { restarts = subst (λ b. Restarts sprite_setting (cond b s (record { view = file_stepped sprite_setting s step; kept = s.kept }))) e (file_keeps s step r.restarts); answered = file_answered s step r; old = d.old };
          bytes = d.bytes;
          right = d.right;
        }

-- a stop
bare_answered : (s : Restarted) → Answered (after_stop sprite_setting s).view
bare_answered s one m = absurd m

some_is : (x y : Kept) → Some x ≡ Some y → x ≡ y
some_is x y e = cc (e)

kept_none : (s : Restarted) (place : ℕ) (one : Kept) → slice_index_or (after_stop sprite_setting s).kept place None ≡ Some one → (place < length s.view.clients) × (one ≡ or_kept (slice_index_or s.kept place None) (kept_of sprite_setting s.view place))
kept_none s place one e = by_test (nat_lt place (length s.view.clients)) refl
  where
    by_test : (b : Bool) → nat_lt place (length s.view.clients) ≡ b → (place < length s.view.clients) × (one ≡ or_kept (slice_index_or s.kept place None) (kept_of sprite_setting s.view place))
    by_test true q = let l = ltb-true place (length s.view.clients) q in (l, some_is one _ (sym e ∙ keep_at sprite_setting s.view s.kept (length s.view.clients) place l))
    by_test false q = absurd (let k = past_end (keep_to sprite_setting s.view s.kept (length s.view.clients)) place (let n = keep_count sprite_setting s.view s.kept (length s.view.clients) in let l = ltb-false place (length s.view.clients) q in omega (arith, n, l)) in cc (e, k))

no_item : {X : Type 0} (xs : List X) → ((x : X) → In x xs → ⊥) → xs ≡ []
no_item [] g = refl
no_item (x ∷ xs) g = absurd (g x (inl refl))

filter_empty : {X : Type 0} (p : X → Bool) (xs : List X) → ((x : X) → In x xs → p x ≡ true → ⊥) → filter p xs ≡ []
filter_empty p xs f = no_item (filter p xs) (λ x m. let k = in_filter p x xs m in f x k.0 k.1)

-- the streams of others than the holder, and of a file that nobody has open
other_streams : (z : Setting) (v : View) (place other : ℕ) → Sound z v → v.holder ≡ Some (place + 1) → other ≢ place → (kept_of z v other).streams ≡ []
other_streams z v place other s h d = filter_empty (is_installed (other + 1) (client_at v other)) v.opens (λ x m e.
    let a : x.kernel ≡ place + 1 = s.holders.opens (place + 1) h x m in
    let b : x.kernel ≡ other + 1 = eqb-true x.kernel (other + 1) (and_parts (x.kernel == (other + 1)) _ e).0 in d (omega (arith, a, b)))

no_streams : (z : Setting) (v : View) (other : ℕ) → v.opens ≡ [] → (kept_of z v other).streams ≡ []
no_streams z v other o = ap (filter (is_installed (other + 1) (client_at v other))) o

stop_aged : (s : Restarted) → Runs s → (o : OldAt (after_stop sprite_setting s).kept) → Aged (after_stop sprite_setting s).view (after_stop sprite_setting s).kept o.place o.one
stop_aged s r o = by_kept (slice_index_or s.kept o.place None) refl (kept_none s o.place o.one o.is)
  where
    -- it kept nothing by itself before: so it is the holder
    new : o.place < length s.view.clients → slice_index_or s.kept o.place None ≡ None → o.one ≡ kept_of sprite_setting s.view o.place → Aged (after_stop sprite_setting s).view (after_stop sprite_setting s).kept o.place o.one
    new l e q =
        let some : is_any (kept_of sprite_setting s.view o.place).blocks ≡ true = ap (λ (x : Kept). is_any x.blocks) (sym q) ∙ o.some in
        let h : Holding s.view o.place (kept_of sprite_setting s.view o.place) = holding_of sprite_setting s.view o.place l r.restarts.sound r.answered some in
        let holder : s.view.holder ≡ Some (o.place + 1) = holder_is s.view.holder (o.place + 1) h.holds in
        let version : o.one.version ≡ s.view.version = ap (λ (x : Kept). x.version) q ∙ h.current in record {
          below = omega (arith, version);
          closed = λ k. refl;
          idle = λ k. refl;
          others = λ k other d more m. let t = kept_none s other more m in ap (λ (x : Kept). x.streams) t.1 ∙ by_other holder other d (slice_index_or s.kept other None) refl;
        }
      where
        by_other : s.view.holder ≡ Some (o.place + 1) → (other : ℕ) → other ≢ o.place → (x : Option Kept) → slice_index_or s.kept other None ≡ x → (or_kept x (kept_of sprite_setting s.view other)).streams ≡ []
        by_other h other d None k = other_streams sprite_setting s.view o.place other r.restarts.sound h d
        by_other h other d (Some y) k = absurd (let u = any_kept s.kept y (kept_in s.kept other y k).0 in let n = (r.restarts.cold u).unheld in cc (h, n))

    -- it did: what was so of it stays so
    old : (x : Kept) → slice_index_or s.kept o.place None ≡ Some x → o.one ≡ x → Aged (after_stop sprite_setting s).view (after_stop sprite_setting s).kept o.place o.one
    old x e q = elim r.old [
      | inl f ↦ absurd (let k = f o.place in let m = ap keeps_blocks e in let n = o.some in let t = ap (λ (y : Kept). is_any y.blocks) q in cc (k, m, n, t))
      | inr p ↦ elim (eqb_tells o.place p.0.place) [
        | inl a ↦ same p.0 p.1 a.1
        | inr b ↦ absurd (let k = p.0.others o.place b.1 in let m = ap keeps_blocks e in let n = o.some in let t = ap (λ (y : Kept). is_any y.blocks) q in cc (k, m, n, t))
      ]
    ]
      where
        by_other : (w : OldAt s.kept) → Aged s.view s.kept w.place w.one → o.place ≡ w.place → w.one.version ≡ s.view.version → (other : ℕ) → other ≢ o.place → (y : Option Kept) → slice_index_or s.kept other None ≡ y → (or_kept y (kept_of sprite_setting s.view other)).streams ≡ []
        by_other w g a v other d None k = no_streams sprite_setting s.view other (g.closed v)
        by_other w g a v other d (Some y) k = g.others v other (λ z. d (z ∙ sym a)) y k

        same : (w : OldAt s.kept) → Aged s.view s.kept w.place w.one → o.place ≡ w.place → Aged (after_stop sprite_setting s).view (after_stop sprite_setting s).kept o.place o.one
        same w g a =
            let is_one : o.one ≡ w.one = q ∙ some_is x w.one (sym e ∙ (ap (λ n. slice_index_or s.kept n None) a ∙ w.is)) in
            let version : o.one.version ≡ w.one.version = ap (λ (y : Kept). y.version) is_one in
            let low = g.below in record {
              below = omega (arith, version, low);
              closed = λ k. refl;
              idle = λ k. refl;
              others = λ k other d more m. let t = kept_none s other more m in ap (λ (y : Kept). y.streams) t.1 ∙ by_other w g a (sym version ∙ k) other d (slice_index_or s.kept other None) refl;
            }

    by_kept : (x : Option Kept) → slice_index_or s.kept o.place None ≡ x → (o.place < length s.view.clients) × (o.one ≡ or_kept (slice_index_or s.kept o.place None) (kept_of sprite_setting s.view o.place)) → Aged (after_stop sprite_setting s).view (after_stop sprite_setting s).kept o.place o.one
    by_kept None e t = new t.0 e (t.1 ∙ ap (λ y. or_kept y (kept_of sprite_setting s.view o.place)) e)
    by_kept (Some x) e t = old x e (t.1 ∙ ap (λ y. or_kept y (kept_of sprite_setting s.view o.place)) e)

stop_runs : (s : Restarted) → Runs s → StepDue s (after_stop sprite_setting s) (due sprite_setting s) true
stop_runs s r =
    let d : StopDue s = stop_due s r.restarts r.answered (one_old s.view s.kept r.old) in record {
      runs = record { restarts = stop_keeps s r.restarts; answered = bare_answered s; old = elim d.one [ inl f ↦ inl f | inr o ↦ inr (o, stop_aged s r o) ] };
      bytes = d.bytes;
      right = refl;
    }

-- a claim
tried_same : (v : View) (kernel : ℕ) (one : Kept) → one.streams ≡ [] → ((tried sprite_setting v kernel one).opens ≡ v.opens) × (busy (tried sprite_setting v kernel one) ≡ busy v) × ((tried sprite_setting v kernel one).version ≡ v.version)
tried_same v kernel one e = choose_by (λ w. (w.opens ≡ v.opens) × (busy w ≡ busy v) × (w.version ≡ v.version)) (is_refused v one) v (claimed sprite_setting v kernel one) (λ q. (refl, refl, refl)) (λ q.
    subst (λ streams. ((reopen_all (greet (record v { bytes = store_blocks sprite_setting v.bytes one.size one.blocks }) kernel) kernel streams).opens ≡ v.opens) × (busy (reopen_all (greet (record v { bytes = store_blocks sprite_setting v.bytes one.size one.blocks }) kernel) kernel streams) ≡ busy v) × ((reopen_all (greet (record v { bytes = store_blocks sprite_setting v.bytes one.size one.blocks }) kernel) kernel streams).version ≡ v.version)) (sym e)
    (choose_by (λ w. (w.opens ≡ v.opens) × (busy w ≡ busy v) × (w.version ≡ v.version)) (is_quiet (record v { bytes = store_blocks sprite_setting v.bytes one.size one.blocks }) kernel) (greeted (record v { bytes = store_blocks sprite_setting v.bytes one.size one.blocks }) kernel) (record v { bytes = store_blocks sprite_setting v.bytes one.size one.blocks }) (λ k. (refl, refl, refl)) (λ k. (refl, refl, refl))))

reopen_version : (v : View) (kernel : ℕ) (streams : List Open) → (reopen_all v kernel streams).version ≡ v.version
reopen_version v kernel [] = refl
reopen_version v kernel (one ∷ rest) = reopen_version (reopen v kernel one) kernel rest ∙ choose_by (λ w. w.version ≡ v.version) (is_named v one.stream) v (reopened v (record { stream = one.stream; kernel = kernel; mode = one.mode; count = 1 })) (λ e. refl) (λ e. refl)

tried_version : (v : View) (kernel : ℕ) (one : Kept) → (tried sprite_setting v kernel one).version ≡ v.version
tried_version v kernel one = choose_by (λ w. w.version ≡ v.version) (is_refused v one) v (claimed sprite_setting v kernel one) (λ q. refl) (λ q.
    reopen_version (greet (record v { bytes = store_blocks sprite_setting v.bytes one.size one.blocks }) kernel) kernel one.streams
    ∙ choose_by (λ w. w.version ≡ v.version) (is_quiet (record v { bytes = store_blocks sprite_setting v.bytes one.size one.blocks }) kernel) (greeted (record v { bytes = store_blocks sprite_setting v.bytes one.size one.blocks }) kernel) (record v { bytes = store_blocks sprite_setting v.bytes one.size one.blocks }) (λ k. refl) (λ k. refl))

again_same : (v : View) (kept : List (Option Kept)) → ((cached_again v kept).view.opens ≡ v.opens) × (busy (cached_again v kept).view ≡ busy v) × ((cached_again v kept).view.version ≡ v.version)
again_same v kept = choose_by (λ w. (w.opens ≡ v.opens) × (busy w ≡ busy v) × (w.version ≡ v.version)) (stays_uncached v kept) v (record v { uncached = false }) (λ e. (refl, refl, refl)) (λ e. (refl, refl, refl))

claim_aged : (s : Restarted) (kernel : ℕ) (one : Kept) → slice_index_or s.kept (kernel - 1) None ≡ Some one → (o : OldAt s.kept) → Aged s.view s.kept o.place o.one → o.place ≢ kernel - 1 → Aged (after_claim sprite_setting s kernel (Some one)).view (slice_set s.kept (kernel - 1) None) o.place o.one
claim_aged s kernel one e o g d =
    let w : View = tried sprite_setting s.view kernel one in
    let a = again_same w (slice_set s.kept (kernel - 1) None) in
    let v : (after_claim sprite_setting s kernel (Some one)).view.version ≡ s.view.version = a.2 ∙ tried_version s.view kernel one in
    let low = g.below in record {
      below = omega (arith, low, v);
      closed = λ q. let k : o.one.version ≡ s.view.version = q ∙ v in a.0 ∙ ((tried_same s.view kernel one (g.others k (kernel - 1) (λ z. d (sym z)) one e)).0 ∙ g.closed k);
      idle = λ q. let k : o.one.version ≡ s.view.version = q ∙ v in a.1 ∙ ((tried_same s.view kernel one (g.others k (kernel - 1) (λ z. d (sym z)) one e)).1 ∙ g.idle k);
      others = λ q other z more m. let k : o.one.version ≡ s.view.version = q ∙ v in by_other k other z more m (eqb_tells other (kernel - 1));
    }
  where
    by_other : o.one.version ≡ s.view.version → (other : ℕ) → other ≢ o.place → (more : Kept) → slice_index_or (slice_set s.kept (kernel - 1) None) other None ≡ Some more → (((other == (kernel - 1)) ≡ true) × (other ≡ kernel - 1)) ⊎ (((other == (kernel - 1)) ≡ false) × (other ≢ kernel - 1)) → more.streams ≡ []
    by_other k other z more m (inl x) = absurd (let t = get_or-set_same s.kept (kernel - 1) None None (kept_in s.kept (kernel - 1) one e).1 in let y = ap (λ n. slice_index_or (slice_set s.kept (kernel - 1) None) n None) x.1 in cc (t, y, m))
    by_other k other z more m (inr x) = g.others k other z more (sym (get_or-set_other s.kept (kernel - 1) other None None x.1) ∙ m)

claim_old : (s : Restarted) (kernel : ℕ) (one : Kept) → slice_index_or s.kept (kernel - 1) None ≡ Some one → NoneOld s.kept ⊎ AgedOne s.view s.kept → NoneOld (slice_set s.kept (kernel - 1) None) ⊎ AgedOne (after_claim sprite_setting s kernel (Some one)).view (slice_set s.kept (kernel - 1) None)
claim_old s kernel one e (inl f) = inl (λ other. cleared_by s.kept (kernel - 1) other (kept_in s.kept (kernel - 1) one e).1 (λ q. f other))
claim_old s kernel one e (inr p) = elim (eqb_tells p.0.place (kernel - 1)) [
  | inl a ↦ inl (λ other. cleared_by s.kept (kernel - 1) other (kept_in s.kept (kernel - 1) one e).1 (λ q. p.0.others other (λ k. q (k ∙ a.1))))
  | inr b ↦ inr (old_with s.kept (kernel - 1) p.0 (kept_in s.kept (kernel - 1) one e).1 b.1 (after_claim sprite_setting s kernel (Some one)).view (claim_aged s kernel one e p.0 p.1 b.1))
]
  where
    old_with : (kept : List (Option Kept)) (place : ℕ) (o : OldAt kept) → place < length kept → o.place ≢ place → (v : View) → Aged v (slice_set kept place None) o.place o.one → AgedOne v (slice_set kept place None)
    old_with kept place o l d v g = (
      record {
        place = o.place;
        one = o.one;
        is = get_or-set_other kept place o.place None None d ∙ o.is;
        some = o.some;
        others = λ other n. cleared_by kept place other l (λ q. o.others other n);
      },
      g,
    )

claim_answered : (s : Restarted) (kernel : ℕ) (one : Kept) → 1 ≤ kernel → slice_index_or s.kept (kernel - 1) None ≡ Some one → Restarts sprite_setting s → Answered (after_claim sprite_setting s kernel (Some one)).view
claim_answered s kernel one low e r =
    let u : is_unclaimed s.kept ≡ true = any_kept s.kept one (kept_in s.kept (kernel - 1) one e).0 in
    let l = (kept_in s.kept (kernel - 1) one e).1 in
    let w : Warm (length s.kept) (tried sprite_setting s.view kernel one) = warm_tried (length s.kept) s.view kernel one (low, omega (arith, l, low)) (r.fits one (kept_in s.kept (kernel - 1) one e).0) (record { sound = r.sound; cold = r.cold u; uncached = r.uncached u }) in
    let a : Answered (tried sprite_setting s.view kernel one) = calm_answered sprite_setting (tried sprite_setting s.view kernel one) (calm_cold (length s.kept) (tried sprite_setting s.view kernel one) w.uncached w.cold) w.sound in
    choose_by Answered (stays_uncached (tried sprite_setting s.view kernel one) (slice_set s.kept (kernel - 1) None)) (tried sprite_setting s.view kernel one) (record (tried sprite_setting s.view kernel one) { uncached = false }) (λ q. a) (λ q. a)

claim_runs : (s : Restarted) (kernel : ℕ) (x : Option Kept) → 1 ≤ kernel → kept_at s.kept kernel ≡ x → Runs s → StepDue s (after_claim sprite_setting s kernel x) (due sprite_setting s) true
claim_runs s kernel None low e r = record { runs = r; bytes = refl; right = refl }
claim_runs s kernel (Some one) low e r = record {
  runs = record { restarts = claim_keeps s kernel (Some one) low e r.restarts; answered = claim_answered s kernel one low e r.restarts; old = claim_old s kernel one e r.old };
  bytes = claim_due s kernel (Some one) low e r.restarts (one_old s.view s.kept r.old);
  right = refl;
}

-- coherent with these bytes
pub runs_coherent : (s : Restarted) → Runs s → is_coherent sprite_setting s (due sprite_setting s) ≡ true
runs_coherent s r = elim r.old [
  | inl f ↦ ap₂ (λ b bs. coherent sprite_setting s.view (cond b s.view.bytes bs)) (none_has s.kept f) (due_none sprite_setting s.view s.kept f) ∙ restarts_coherent s r.restarts
  | inr p ↦ ap (λ b. coherent sprite_setting s.view (cond b s.view.bytes (due sprite_setting s))) (some_has s.kept p.0.place p.0.one p.0.is p.0.some) ∙ (ap (coherent sprite_setting s.view) (sym (restarts_stood s r.restarts (old_unclaimed s.kept p.0))) ∙ restarts_coherent s r.restarts)
]

-- deliveries of a settling
due_runs : (s : Restarted) (o : Option ℕ) → Runs s → StepDue s (after_due sprite_setting s o) (bytes_due sprite_setting s o (due sprite_setting s)) (right_due sprite_setting s o (due sprite_setting s))
due_runs s (Some call) r = let d = file_runs s (act.Delivering call) r in record { runs = d.runs; bytes = d.bytes; right = and_from (is_coherent sprite_setting s (due sprite_setting s)) _ (runs_coherent s r) d.right }
due_runs s None r = record { runs = r; bytes = refl; right = refl }

pub settled_runs : (count : ℕ) (s : Restarted) → Runs s → StepDue s (settled_in sprite_setting count s) (bytes_in sprite_setting count s (due sprite_setting s)) (right_in sprite_setting count s (due sprite_setting s))
unfolding settled_in bytes_in right_in
settled_runs zero s r = record { runs = r; bytes = refl; right = refl }
settled_runs (suc count) s r =
    let d = settled_runs count s r in
    let t : Restarted = settled_in sprite_setting count s in
    let e = due_runs t (least_due t.view) d.runs in record {
      runs = e.runs;
      bytes = e.bytes ∙ ap (bytes_due sprite_setting t (least_due t.view)) d.bytes;
      right = and_from (right_in sprite_setting count s (due sprite_setting s)) _ d.right (sym (ap (right_due sprite_setting t (least_due t.view)) d.bytes) ∙ e.right);
    }

claim_any : (s : Restarted) (kernel : ℕ) → Runs s → StepDue s (after_claim sprite_setting s kernel (claims_at s.kept kernel)) (due sprite_setting s) true
claim_any s kernel r = by_test (nat_le 1 kernel) refl
  where
    by_test : (b : Bool) → nat_le 1 kernel ≡ b → StepDue s (after_claim sprite_setting s kernel (cond b (kept_at s.kept kernel) None)) (due sprite_setting s) true
    by_test true e = claim_runs s kernel (kept_at s.kept kernel) (leb-true 1 kernel e) refl r
    by_test false e = record { runs = r; bytes = refl; right = refl }

-- a step
pub step_runs : (s : Restarted) (step : RestartStep) → Runs s → StepDue s (restarted sprite_setting s step) (bytes_step sprite_setting s (due sprite_setting s) step) (right_step sprite_setting s (due sprite_setting s) step)
step_runs s (does.File step) r = file_runs s step r
step_runs s does.Stop r = stop_runs s r
step_runs s (does.Claim kernel) r = claim_any s kernel r
step_runs s does.Settle r = settled_runs most_due s r

-- steps in a row
pub all_runs : (s : Restarted) (steps : List RestartStep) → Runs s → Runs (all_restarted sprite_setting s steps)
all_runs s [] r = r
all_runs s (step ∷ rest) r = all_runs (restarted sprite_setting s step) rest (step_runs s step r).runs

pub all_bytes : (s : Restarted) (steps : List RestartStep) → Runs s → due sprite_setting (all_restarted sprite_setting s steps) ≡ bytes_run sprite_setting s (due sprite_setting s) steps
all_bytes s [] r = refl
all_bytes s (step ∷ rest) r = let d = step_runs s step r in all_bytes (restarted sprite_setting s step) rest d.runs ∙ ap (λ bs. bytes_run sprite_setting (restarted sprite_setting s step) bs rest) d.bytes

pub all_right : (s : Restarted) (steps : List RestartStep) → Runs s → stays_right sprite_setting s (due sprite_setting s) steps ≡ true
all_right s [] r = runs_coherent s r
all_right s (step ∷ rest) r =
    let d = step_runs s step r in
    and_from (is_coherent sprite_setting s (due sprite_setting s)) _ (runs_coherent s r)
    (and_from (right_step sprite_setting s (due sprite_setting s) step) _ d.right
    (sym (ap (λ bs. stays_right sprite_setting (restarted sprite_setting s step) bs rest) d.bytes) ∙ all_right (restarted sprite_setting s step) rest d.runs))

-- a new file
pub new_runs : (count : ℕ) (bytes : List ℕ) → 1 ≤ count → count ≤ 15 → length bytes ≤ 262144 → Runs (record { view = new_view count bytes; kept = [] })
new_runs count bytes low high l = record { restarts = new_restarts sprite_setting (new_view count bytes) (new_sound sprite_setting count bytes low high l); answered = new_answered count bytes; old = inl (λ place. refl) }

pub new_due : (count : ℕ) (bytes : List ℕ) → 1 ≤ count → count ≤ 15 → due sprite_setting (record { view = new_view count bytes; kept = [] }) ≡ bytes
new_due count bytes low high = new_stood sprite_setting count bytes low high some_bytes
  where
    some_bytes : 0 < sprite_setting.block
    some_bytes = omega arith
