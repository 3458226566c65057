-- A settling of a file ends: what is under way may come only so often.
use Rattle.std.proofs.Common.{◌≡◌, ℕ, zero, suc, ◌+◌, ◌-◌, slice_set, ◌==◌, nat_le, min, Bool, true, false, cond, ◌&&◌, List, [], ◌∷◌, Option, Some, None, refl, sym, ap, ◌∙◌, inl, inr, arith, eq-eqb, leb-true}
use Rattle.std.proofs.lemmas.Bool.{and_parts, leb-false}
use Rattle.std.proofs.Math.Nat.{min-eq_left, min-eq_right}
use Rattle.file_views.specs.declared.FileCall.{FileCall}
use Rattle.file_views.specs.declared.Carry.{Carry}
use Rattle.file_views.specs.declared.FileStep.{FileStep}
use Rattle.file_views.specs.declared.FileStep.TheVariants as act
use Rattle.file_views.specs.declared.Open.{Open}
use Rattle.file_views.specs.declared.View.{View}
use Rattle.file_views.specs.Setting.{Setting, sprite_setting}
use Rattle.file_views.specs.Views.{new_view, last_stamp, find_call, find_carried}
use Rattle.file_views.specs.Serving.{store_blocks}
use Rattle.file_views.specs.Possible.{has_room, is_due, is_named, possible, stepped}
use Rattle.file_views.specs.Here.{In}
use Rattle.file_views.proofs.MemberLaws.{found}
use Rattle.file_views.proofs.EffectLaws.{Apart, same_thing, call_in_things}
use Rattle.file_views.proofs.ClientLaws.{choose_by}
use Rattle.restart_views.specs.declared.Kept.{Kept}
use Rattle.restart_views.specs.declared.Restarted.{Restarted}
use Rattle.restart_views.specs.declared.RestartStep.{RestartStep}
use Rattle.restart_views.specs.declared.RestartStep.TheVariants as does
use Rattle.restart_views.specs.ServerMoves.{reopened, greeted, is_quiet}
use Rattle.restart_views.specs.ColdSteps.{uncached_setting, cold_step}
use Rattle.restart_views.specs.Restarts.{is_unclaimed, claims_at, is_refused, greet, reopen, reopen_all, claimed, tried, stays_uncached, after_claim, is_barred, file_stepped, after_file, is_ready, least_of, least_ready, least_due, after_due, settled_in, most_due, restarted, all_restarted, Restarts}
use Rattle.restart_views.specs.RunLaw.{Runs}
use Rattle.settling_laws.specs.Settling.{Owing}
use Rattle.restart_views.proofs.SettingLaws.{none_cache}
use Rattle.restart_views.proofs.RunLaws.{settled_runs, step_runs}
use Rattle.settling_laws.proofs.OwedLaws.{Owes, comes_less, step_owes}

-- a claim brings nothing under way
reopened_owes : (n m : ℕ) (kernel : ℕ) (streams : List Open) (v : View) → Owes n m v → Owes n m (reopen_all v kernel streams)
reopened_owes n m kernel [] v o = o
reopened_owes n m kernel (one ∷ rest) v o = reopened_owes n m kernel rest (reopen v kernel one) (choose_by (Owes n m) (is_named v one.stream) v (reopened v (record { stream = one.stream; kernel = kernel; mode = one.mode; count = 1 })) (λ q. o) (λ q. o))

tried_owes : (n m : ℕ) (v : View) (kernel : ℕ) (one : Kept) → Owes n m v → Owes n m (tried sprite_setting v kernel one)
tried_owes n m v kernel one o = choose_by (Owes n m) (is_refused v one) v (claimed sprite_setting v kernel one) (λ q. o) (λ q. reopened_owes n m kernel one.streams (greet w kernel) (choose_by (Owes n m) (is_quiet w kernel) (greeted w kernel) w (λ p. o) (λ p. o)))
  where
    w : View
    w = record v { bytes = store_blocks sprite_setting v.bytes one.size one.blocks }

claim_owes : (n m : ℕ) (s : Restarted) (kernel : ℕ) (x : Option Kept) → Owes n m s.view → Owes n m (after_claim sprite_setting s kernel x).view
claim_owes n m s kernel None o = o
claim_owes n m s kernel (Some one) o = choose_by (Owes n m) (stays_uncached (tried sprite_setting s.view kernel one) (slice_set s.kept (kernel - 1) None)) (tried sprite_setting s.view kernel one) (record (tried sprite_setting s.view kernel one) { uncached = false }) (λ q. tried_owes n m s.view kernel one o) (λ q. tried_owes n m s.view kernel one o)

-- steps of the file
stepped_owes : (n m : ℕ) (s : Restarted) (step : FileStep) (b : Bool) → is_unclaimed s.kept ≡ b → Restarts sprite_setting s → Owes n m s.view → Owes n m (cond b (cold_step sprite_setting s.view step) (stepped sprite_setting s.view step))
stepped_owes n m s step true e r o = step_owes n m (uncached_setting sprite_setting) s.view step (none_cache sprite_setting s.view (r.uncached e) r.sound) o
stepped_owes n m s step false e r o = step_owes n m sprite_setting s.view step r.sound o

file_owes : (n m : ℕ) (s : Restarted) (step : FileStep) → Restarts sprite_setting s → Owes n m s.view → Owes n m (after_file sprite_setting s step).view
file_owes n m s step r o = choose_by (λ (t : Restarted). Owes n m t.view) (is_barred s.kept step) s (record { view = file_stepped sprite_setting s step; kept = s.kept }) (λ q. o) (λ q. stepped_owes n m s step (is_unclaimed s.kept) refl r o)

-- what can come is due, and takes one off
pub record Ready (calls : List FileCall) (number : ℕ) : Type 0 where
  pub one : FileCall
  pub there : In one calls
  pub is : one.number ≡ number
  pub ready : is_ready one ≡ true

ready_behind : (first : FileCall) (calls : List FileCall) (number : ℕ) → Ready calls number → Ready (first ∷ calls) number
ready_behind first calls number r = record { one = r.one; there = inr r.there; is = r.is; ready = r.ready }

ready_first : (one : FileCall) (rest : List FileCall) (number : ℕ) → is_ready one ≡ true → (o : Option ℕ) → least_ready rest ≡ o → ((other : ℕ) → o ≡ Some other → Ready rest other) → least_of one.number o ≡ Some number → Ready (one ∷ rest) number
ready_first one rest number r None k more e = record { one = one; there = inl refl; is = cc (e); ready = r }
ready_first one rest number r (Some other) k more e = by_order (nat_le one.number other) refl
  where
    by_order : (b : Bool) → nat_le one.number other ≡ b → Ready (one ∷ rest) number
    by_order true q = let m = min-eq_left (leb-true one.number other q) in record { one = one; there = inl refl; is = cc (e, m); ready = r }
    by_order false q =
        let l = leb-false one.number other q in
        let m : min one.number other ≡ other = min-eq_right (omega (arith, l)) in
        let f = more other refl in
        record { one = f.one; there = inr f.there; is = cc (e, m, f.is); ready = f.ready }

ready_there : (calls : List FileCall) (number : ℕ) → least_ready calls ≡ Some number → Ready calls number
ready_there [] number e = absurd (cc (e))
ready_there (one ∷ rest) number e = by_test (is_ready one) refl (λ other k. ready_there rest other k) e
  where
    by_test : (b : Bool) → is_ready one ≡ b → ((other : ℕ) → least_ready rest ≡ Some other → Ready rest other) → cond b (least_of one.number (least_ready rest)) (least_ready rest) ≡ Some number → Ready (one ∷ rest) number
    by_test true r more k = ready_first one rest number r (least_ready rest) refl more k
    by_test false r more k = ready_behind one rest number (more number k)

find_there : (calls : List FileCall) (one : FileCall) → In one calls → find_call calls one.number ≡ None → ⊥
find_there [] one m e = absurd m
find_there (c ∷ calls) one (inl q) e = let b : (c.number == one.number) ≡ true = eq-eqb c.number one.number (ap (λ (x : FileCall). x.number) (sym q)) in cc (e, b)
find_there (c ∷ calls) one (inr m) e = by_test (c.number == one.number) (find_there calls one m) e
  where
    by_test : (b : Bool) → (find_call calls one.number ≡ None → ⊥) → cond b (Some c) (find_call calls one.number) ≡ None → ⊥
    by_test true more k = cc (k)
    by_test false more k = more k

is_found : (v : View) (number : ℕ) → Apart v → Ready v.calls number → (carried : Option Carry) (call : Option FileCall) → find_call v.calls number ≡ call → is_due carried call ≡ true
is_found v number u r (Some carry) call e = refl
is_found v number u r None (Some other) e =
    let f = found v.calls number other e in
    let same : other ≡ r.one = same_thing v other r.one u (call_in_things v other f.0) (call_in_things v r.one r.there) (f.1 ∙ sym r.is) in
    ap (λ (x : FileCall). is_ready x) same ∙ r.ready
is_found v number u r None None e = absurd (find_there v.calls r.one r.there (ap (find_call v.calls) r.is ∙ e))

due_possible : (z : Setting) (v : View) (number : ℕ) → Apart v → least_due v ≡ Some number → possible z v (act.Delivering number) ≡ true
due_possible z v number u e = by_room (has_room v) refl e
  where
    by_room : (b : Bool) → has_room v ≡ b → cond b (least_ready v.calls) None ≡ Some number → (has_room v && is_due (find_carried v.carried number) (find_call v.calls number)) ≡ true
    by_room true h k = ap (λ (b : Bool). b && is_due (find_carried v.carried number) (find_call v.calls number)) h ∙ is_found v number u (ready_there v.calls number k) (find_carried v.carried number) (find_call v.calls number) refl
    by_room false h k = absurd (cc (k))

due_less : (n m : ℕ) (s : Restarted) (number : ℕ) (b : Bool) → is_unclaimed s.kept ≡ b → Restarts sprite_setting s → least_due s.view ≡ Some number → Owes n (m + 1) s.view → Owes n m (cond b (cold_step sprite_setting s.view (act.Delivering number)) (stepped sprite_setting s.view (act.Delivering number)))
due_less n m s number true e r d o = comes_less n m (uncached_setting sprite_setting) s.view number (none_cache sprite_setting s.view (r.uncached e) r.sound) (due_possible (uncached_setting sprite_setting) s.view number r.sound.shapes.numbers.differ d) o
due_less n m s number false e r d o = comes_less n m sprite_setting s.view number r.sound (due_possible sprite_setting s.view number r.sound.shapes.numbers.differ d) o

-- a settling from its first delivery on
settled_front : (z : Setting) (count : ℕ) (s : Restarted) → settled_in z (suc count) s ≡ settled_in z count (after_due z s (least_due s.view))
unfolding settled_in
settled_front z zero s = refl
settled_front z (suc count) s = ap (λ (t : Restarted). after_due z t (least_due t.view)) (settled_front z count s)

settled_none : (z : Setting) (count : ℕ) (s : Restarted) → least_due s.view ≡ None → settled_in z count s ≡ s
unfolding settled_in
settled_none z zero s e = refl
settled_none z (suc count) s e = ap (λ (t : Restarted). after_due z t (least_due t.view)) (settled_none z count s e) ∙ ap (after_due z s) e

settled_zero : (z : Setting) (s : Restarted) → settled_in z 0 s ≡ s
unfolding settled_in
settled_zero z s = refl

-- where no more calls can begin, and none may come, nothing can
no_room : (v : View) → Owes 2000000001 0 v → least_due v ≡ None
no_room v o = by_room (has_room v) refl
  where
    by_room : (b : Bool) → has_room v ≡ b → cond b (least_ready v.calls) None ≡ None
    by_room true h =
        let under : nat_le v.next 2000000000 ≡ true = (and_parts (nat_le v.next 2000000000) _ (and_parts (nat_le v.version 2000000000) _ (and_parts (nat_le (last_stamp v) 2000000000) _ h).1).1).0 in
        let l = leb-true v.next 2000000000 under in
        absurd (omega (arith, o, l))
    by_room false h = refl

settles : (count : ℕ) (s : Restarted) → Runs s → Owes 2000000001 count s.view → least_due (settled_in sprite_setting count s).view ≡ None
settles zero s r o = ap (λ (t : Restarted). least_due t.view) (settled_zero sprite_setting s) ∙ no_room s.view o
settles (suc count) s r o = by_due (least_due s.view) refl (λ t q p. settles count t q p)
  where
    next : ℕ → Restarted
    next call = after_file sprite_setting s (act.Delivering call)

    by_due : (d : Option ℕ) → least_due s.view ≡ d → ((t : Restarted) → Runs t → Owes 2000000001 count t.view → least_due (settled_in sprite_setting count t).view ≡ None) → least_due (settled_in sprite_setting (suc count) s).view ≡ None
    by_due None d again = ap (λ (t : Restarted). least_due t.view) (settled_none sprite_setting (suc count) s d) ∙ d
    by_due (Some call) d again =
        let more : Owes 2000000001 (count + 1) s.view = omega (arith, o) in
        let less : Owes 2000000001 count (next call).view = due_less 2000000001 count s call (is_unclaimed s.kept) refl r.restarts d more in
        let same : settled_in sprite_setting (suc count) s ≡ settled_in sprite_setting count (next call) = settled_front sprite_setting count s ∙ ap (λ (e : Option ℕ). settled_in sprite_setting count (after_due sprite_setting s e)) d in
        ap (λ (t : Restarted). least_due t.view) same ∙ again (next call) (step_runs s (does.File (act.Delivering call)) r).runs less

-- a settling changes no more than its deliveries
due_owes : (n m : ℕ) (s : Restarted) (d : Option ℕ) → Restarts sprite_setting s → Owes n m s.view → Owes n m (after_due sprite_setting s d).view
due_owes n m s (Some call) r o = file_owes n m s (act.Delivering call) r o
due_owes n m s None r o = o

settled_owes : (n m count : ℕ) (s : Restarted) → Runs s → Owes n m s.view → Owes n m (settled_in sprite_setting count s).view
unfolding settled_in
settled_owes n m zero s r o = o
settled_owes n m (suc count) s r o = due_owes n m (settled_in sprite_setting count s) (least_due (settled_in sprite_setting count s).view) (settled_runs count s r).runs.restarts (settled_owes n m count s r o)

-- what is under way, with no call begun but those that are
owes_of : (v : View) → Owing v → Owes 0 0 v
owes_of v o = omega (arith, o)

owing_of : (v : View) → Owes 0 0 v → Owing v
owing_of v o = omega (arith, o)

pub step_owing : (s : Restarted) (step : RestartStep) → Runs s → Owing s.view → Owing (restarted sprite_setting s step).view
step_owing s (does.File step) r o = owing_of (after_file sprite_setting s step).view (file_owes 0 0 s step r.restarts (owes_of s.view o))
step_owing s does.Stop r o = omega arith
step_owing s (does.Claim kernel) r o = owing_of (after_claim sprite_setting s kernel (claims_at s.kept kernel)).view (claim_owes 0 0 s kernel (claims_at s.kept kernel) (owes_of s.view o))
step_owing s does.Settle r o = owing_of (settled_in sprite_setting most_due s).view (settled_owes 0 0 most_due s r (owes_of s.view o))

pub all_owing : (s : Restarted) (steps : List RestartStep) → Runs s → Owing s.view → Owing (all_restarted sprite_setting s steps).view
all_owing s [] r o = o
all_owing s (step ∷ rest) r o = all_owing (restarted sprite_setting s step) rest (step_runs s step r).runs (step_owing s step r o)

pub some_owing : (count : ℕ) (s : Restarted) → Runs s → Owing s.view → Owing (settled_in sprite_setting count s).view
some_owing count s r o = owing_of (settled_in sprite_setting count s).view (settled_owes 0 0 count s r (owes_of s.view o))

pub new_owing : (count : ℕ) (bytes : List ℕ) → Owing (new_view count bytes)
new_owing count bytes = omega arith

pub settling_ends : (s : Restarted) → Runs s → Owing s.view → least_due (settled_in sprite_setting most_due s).view ≡ None
settling_ends s r o = settles most_due s r (omega (arith, o))
