-- Steps in a row, from their end, and deliveries of a settling.
use Rattle.std.proofs.Common.{◌≡◌, ◌<◌, ◌⊎◌, inl, inr, ℕ, zero, suc, ◌+◌, ◌-◌, ◌≤◌, Bool, true, cond, Option, Some, None, Result, Ok, Err, OnOk, OnErr, List, [], ◌∷◌, ◌++◌, length, take, get_or, slice_get, refl, sym, ap, ap₂, subst, ◌∙◌, arith}
use Rattle.std.proofs.lemmas.Bool.{le-leb}
use Rattle.std.proofs.lemmas.List.{append-nil, append_assoc, take_more}
use Rattle.std.proofs.lemmas.Option.{slice_get-get_or}
use Rattle.file_views.specs.declared.FileStep.TheVariants as act
use Rattle.file_views.specs.declared.View.{View}
use Rattle.file_views.specs.Setting.{Setting, sprite_setting}
use Rattle.file_views.specs.Views.{new_view}
use Rattle.restart_views.specs.declared.Kept.{Kept}
use Rattle.restart_views.specs.declared.Outcome.{Outcome}
use Rattle.restart_views.specs.declared.Restarted.{Restarted}
use Rattle.restart_views.specs.declared.RestartStep.{RestartStep}
use Rattle.restart_views.specs.declared.RestartStep.TheVariants as does
use Rattle.restart_views.specs.Restarts.{kept_at, claims_at, least_due, after_file, told_file, after_due, told_due, settled_in, told_in, most_due, restarted, told, all_restarted, all_told}
use Rattle.restart_views.specs.RunBytes.{due}
use Rattle.restart_views.specs.RunLaw.{bytes_run, stays_right, Runs}
use Rattle.restart_views.proofs.RunLaws.{settled_runs, all_runs, all_bytes, all_right}
use Rattle.settling_laws.specs.Settling.{Owing}
use Rattle.settling_laws.proofs.SettleLaws.{all_owing, some_owing, settling_ends}
use Rattle.server_restart.specs.Parts.{StepInPart, RestartedInPart}

pub restarted_more : (z : Setting) (s : Restarted) (steps : List RestartStep) (one : RestartStep) → all_restarted z s (steps ++ one ∷ []) ≡ restarted z (all_restarted z s steps) one
restarted_more z s [] one = refl
restarted_more z s (first ∷ rest) one = restarted_more z (restarted z s first) rest one

pub told_more : (z : Setting) (s : Restarted) (steps : List RestartStep) (step : RestartStep) → all_told z s (steps ++ step ∷ []) ≡ all_told z s steps ++ told z (all_restarted z s steps) step
told_more z s [] step = append-nil (told z s step)
told_more z s (first ∷ rest) step = ap (λ (os : List Outcome). told z s first ++ os) (told_more z (restarted z s first) rest step) ∙ sym (append_assoc (told z s first) (all_told z (restarted z s first) rest) (told z (all_restarted z (restarted z s first) rest) step))

one_more : (steps : List RestartStep) (i : ℕ) (step : RestartStep) → i < length steps → step ≡ get_or steps i step → take i steps ++ step ∷ [] ≡ take (i + 1) steps
one_more steps i step lt is = ap (λ (s : RestartStep). take i steps ++ s ∷ []) is ∙ sym (take_more steps i step lt)

pub next_state : (z : Setting) (s t next : Restarted) (steps : List RestartStep) (i : ℕ) (step : RestartStep) → t ≡ all_restarted z s (take i steps) → next ≡ restarted z t step → i < length steps → step ≡ get_or steps i step → next ≡ all_restarted z s (take (i + 1) steps)
next_state z s t next steps i step e n lt is = n ∙ (ap (λ (x : Restarted). restarted z x step) e ∙ (sym (restarted_more z s (take i steps) step) ∙ ap (all_restarted z s) (one_more steps i step lt is)))

pub next_told : (z : Setting) (s t : Restarted) (noted more : List Outcome) (steps : List RestartStep) (i : ℕ) (step : RestartStep) → t ≡ all_restarted z s (take i steps) → noted ≡ all_told z s (take i steps) → more ≡ noted ++ told z t step → i < length steps → step ≡ get_or steps i step → more ≡ all_told z s (take (i + 1) steps)
next_told z s t noted more steps i step e q n lt is = n ∙ (ap (λ (x : Restarted). noted ++ told z x step) e ∙ (ap (λ (xs : List Outcome). xs ++ told z (all_restarted z s (take i steps)) step) q ∙ (sym (told_more z s (take i steps) step) ∙ ap (all_told z s) (one_more steps i step lt is))))

-- a state after some of the steps
pub part_runs : (s t : Restarted) (steps : List RestartStep) → Runs s → RestartedInPart sprite_setting s t steps → Runs t
part_runs s t steps r d = subst Runs (sym d.done) (settled_runs d.deliveries (all_restarted sprite_setting s (take d.count steps)) (all_runs s (take d.count steps) r)).runs

pub part_owing : (s t : Restarted) (steps : List RestartStep) → Runs s → Owing s.view → RestartedInPart sprite_setting s t steps → Owing t.view
part_owing s t steps r o d = subst (λ (x : Restarted). Owing x.view) (sym d.done) (some_owing d.deliveries (all_restarted sprite_setting s (take d.count steps)) (all_runs s (take d.count steps) r) (all_owing s (take d.count steps) r o))

-- once nothing can come, more deliveries change nothing
pub settled_stays : (z : Setting) (s : Restarted) (count more : ℕ) → least_due (settled_in z count s).view ≡ None → settled_in z (more + count) s ≡ settled_in z count s
unfolding settled_in
settled_stays z s count zero e = let q : zero + count ≡ count = omega arith in ap (λ n. settled_in z n s) q
settled_stays z s count (suc more) e =
    let h = settled_stays z s count more e in
    let q : suc more + count ≡ suc (more + count) = omega arith in
    ap (λ n. settled_in z n s) q ∙ (ap (λ t. after_due z t (least_due t.view)) h ∙ ap (after_due z (settled_in z count s)) e)

pub told_stays : (z : Setting) (s : Restarted) (count more : ℕ) → least_due (settled_in z count s).view ≡ None → told_in z (more + count) s ≡ told_in z count s
unfolding told_in
told_stays z s count zero e = let q : zero + count ≡ count = omega arith in ap (λ n. told_in z n s) q
told_stays z s count (suc more) e =
    let h = told_stays z s count more e in
    let t = settled_stays z s count more e in
    let q : suc more + count ≡ suc (more + count) = omega arith in
    ap (λ n. told_in z n s) q ∙ (ap (λ x. told_in z (more + count) s ++ told_due z x (least_due x.view)) t ∙ (ap (λ o. told_in z (more + count) s ++ told_due z (settled_in z count s) o) e ∙ (append-nil (told_in z (more + count) s) ∙ h)))

-- all steps are done, or those before one, and that one in part
pub all_done : (s t : Restarted) (steps : List RestartStep) → t ≡ all_restarted sprite_setting s (take (length steps) steps) → RestartedInPart sprite_setting s t steps
unfolding settled_in
all_done s t steps e = record { count = length steps; within = omega arith; deliveries = 0; settles = inl refl; done = e }

pub part_done : (s t u : Restarted) (steps : List RestartStep) (i : ℕ) (step : RestartStep) → t ≡ all_restarted sprite_setting s (take i steps) → StepInPart sprite_setting t u step → i < length steps → step ≡ get_or steps i step → RestartedInPart sprite_setting s u steps
part_done s t u steps i step e d lt is = record { count = i; within = omega (arith, lt); deliveries = d.deliveries; settles = by_sum d.settles; done = d.done ∙ ap (settled_in sprite_setting d.deliveries) e }
  where
    by_sum : (d.deliveries ≡ 0) ⊎ (step ≡ does.Settle) → (d.deliveries ≡ 0) ⊎ (slice_get steps i ≡ Some does.Settle)
    by_sum (inl z) = inl z
    by_sum (inr q) = inr (slice_get-get_or steps i step lt ∙ ap (λ (x : RestartStep). Some x) (sym is ∙ q))

-- a step that isn't done, or a settling that is in part
pub none_done : (s t : Restarted) (step : RestartStep) → t ≡ s → StepInPart sprite_setting s t step
unfolding settled_in
none_done s t one e = record { deliveries = 0; settles = inl refl; done = e }

pub some_settled : (s t : Restarted) (count : ℕ) → t ≡ settled_in sprite_setting count s → StepInPart sprite_setting s t does.Settle
some_settled s t count e = record { deliveries = count; settles = inr refl; done = e }

-- one delivery more
pub next_settled : (z : Setting) (s t u : Restarted) (count call : ℕ) → t ≡ settled_in z count s → least_due t.view ≡ Some call → u ≡ after_file z t (act.Delivering call) → u ≡ settled_in z (count + 1) s
unfolding settled_in
next_settled z s t u count call e d n = let q : suc count ≡ count + 1 = omega arith in n ∙ (sym (ap (λ (o : Option ℕ). after_due z t o) d) ∙ (ap (λ (x : Restarted). after_due z x (least_due x.view)) e ∙ ap (λ (k : ℕ). settled_in z k s) q))

pub next_noted : (z : Setting) (s t : Restarted) (first noted more : List Outcome) (count call : ℕ) → t ≡ settled_in z count s → noted ≡ first ++ told_in z count s → least_due t.view ≡ Some call → more ≡ noted ++ told_file z t (act.Delivering call) → more ≡ first ++ told_in z (count + 1) s
unfolding told_in
next_noted z s t first noted more count call e q d n =
    let k : suc count ≡ count + 1 = omega arith in
    n ∙ (sym (ap (λ (o : Option ℕ). noted ++ told_due z t o) d)
    ∙ (ap (λ (x : Restarted). noted ++ told_due z x (least_due x.view)) e
    ∙ (ap (λ (xs : List Outcome). xs ++ told_due z (settled_in z count s) (least_due (settled_in z count s).view)) q
    ∙ (append_assoc first (told_in z count s) (told_due z (settled_in z count s) (least_due (settled_in z count s).view))
    ∙ ap (λ (c : ℕ). first ++ told_in z c s) k))))

-- where nothing can come after so many deliveries, that is where the settling ends
pub ends_settled : (z : Setting) (s t : Restarted) (count : ℕ) → count < most_due → t ≡ settled_in z count s → least_due t.view ≡ None → t ≡ settled_in z most_due s
ends_settled z s t count low e d =
    let more : (most_due - count) + count ≡ most_due = omega (arith, low) in
    e ∙ (sym (settled_stays z s count (most_due - count) (sym (ap (λ (x : Restarted). least_due x.view) e) ∙ d)) ∙ ap (λ (k : ℕ). settled_in z k s) more)

pub ends_noted : (z : Setting) (s t : Restarted) (first noted : List Outcome) (count : ℕ) → count < most_due → t ≡ settled_in z count s → noted ≡ first ++ told_in z count s → least_due t.view ≡ None → noted ≡ first ++ told_in z most_due s
ends_noted z s t first noted count low e q d =
    let more : (most_due - count) + count ≡ most_due = omega (arith, low) in
    q ∙ (sym (ap (λ (xs : List Outcome). first ++ xs) (told_stays z s count (most_due - count) (sym (ap (λ (x : Restarted). least_due x.view) e) ∙ d))) ∙ ap (λ (k : ℕ). first ++ told_in z k s) more)

-- of a step alone, done or not
pub part_of : {T E : Type 0} (s t : Restarted) (step : RestartStep) (r : Result T E) → OnErr r (t ≡ s) → OnErr r (StepInPart sprite_setting s t step)
part_of s t one (Ok x) e = tt
part_of s t one (Err x) e = none_done s t one e

-- kernels are numbered from 1
pub claims_low : (kept : List (Option Kept)) (kernel : ℕ) → 1 ≤ kernel → claims_at kept kernel ≡ kept_at kept kernel
claims_low kept kernel low = ap (λ (b : Bool). cond b (kept_at kept kernel) None) (le-leb 1 kernel low)

-- before the first delivery
pub none_settled : (z : Setting) (s : Restarted) → s ≡ settled_in z 0 s
unfolding settled_in
none_settled z s = refl

pub none_told : (z : Setting) (s : Restarted) (first : List Outcome) → first ≡ first ++ told_in z 0 s
unfolding told_in
none_told z s first = sym (append-nil first)

-- a file as it begins
abbrev file_at : View → List (Option Kept) → Restarted
file_at v kept = record { view = v; kept = kept }

pub same_new : (v : View) (kept : List (Option Kept)) (count kernels : ℕ) (bytes : List ℕ) → v ≡ new_view count bytes → count ≡ kernels → kept ≡ [] → file_at v kept ≡ file_at (new_view kernels bytes) []
same_new v kept count kernels bytes e n k = ap₂ file_at (e ∙ ap (λ (m : ℕ). new_view m bytes) n) k

-- what a run that ended gives
pub due_run : {T E : Type 0} (s t : Restarted) (steps : List RestartStep) (r : Result T E) → Runs s → OnOk r (t ≡ all_restarted sprite_setting s steps) → OnOk r (due sprite_setting t ≡ bytes_run sprite_setting s (due sprite_setting s) steps)
due_run s t steps (Ok x) h e = ap (due sprite_setting) e ∙ all_bytes s steps h
due_run s t steps (Err x) h e = tt

pub right_run : {T E : Type 0} (s : Restarted) (steps : List RestartStep) (r : Result T E) → Runs s → OnOk r (stays_right sprite_setting s (due sprite_setting s) steps ≡ true)
right_run s steps (Ok x) h = all_right s steps h
right_run s steps (Err x) h = tt

-- a settling at the end leaves nothing that can come
settled_end : (s : Restarted) (first : List RestartStep) → Runs s → Owing s.view → least_due (all_restarted sprite_setting s (first ++ does.Settle ∷ [])).view ≡ None
settled_end s first r o = ap (λ (x : Restarted). least_due x.view) (restarted_more sprite_setting s first does.Settle) ∙ settling_ends (all_restarted sprite_setting s first) (all_runs s first r) (all_owing s first r o)

pub settled_run : {T E : Type 0} (s t : Restarted) (steps first : List RestartStep) (r : Result T E) → Runs s → Owing s.view → steps ≡ first ++ does.Settle ∷ [] → OnOk r (t ≡ all_restarted sprite_setting s steps) → OnOk r (least_due t.view ≡ None)
settled_run s t steps first (Ok x) h o e d = ap (λ (y : Restarted). least_due y.view) (d ∙ ap (all_restarted sprite_setting s) e) ∙ settled_end s first h o
settled_run s t steps first (Err x) h o e d = tt
