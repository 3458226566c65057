-- The callbacks and the grants of a file: to whom they go, what they say, and how their stamps rise.
use Rattle.std.proofs.Common.{◌≡◌, ℕ, zero, suc, ◌+◌, ◌<◌, ◌≤◌, ◌==◌, nat_le, Bool, true, false, ◌&&◌, List, [], ◌∷◌, ◌++◌, length, map, fold, Option, Some, None, is_some, refl, sym, ap, subst, ◌∙◌, arith}
use Rattle.std.proofs.lemmas.Bool.{eqb-true}
use Rattle.std.proofs.lemmas.Bool.Decides.{nat_tests}
use Rattle.sprite_ids.specs.declared.Callback.{Callback}
use Rattle.sprite_ids.specs.declared.CallKind.{CallKind}
use Rattle.version_table.specs.declared.action.Action.{Action}
use Rattle.version_table.specs.declared.versioned.Asking.{Asking}
use Rattle.version_table.specs.declared.versioned.Versioned.{Versioned}
use Rattle.version_table.specs.Files.{fresh, is_uncached, call_of, with_call, calls_to, calls_of, called, told, waiting, deciding, settling, settling_grant}
use Rattle.version_table.specs.Decisions.{answering}
use Rattle.version_table.specs.Laws.{once_if, times_called, CallbacksGoOnce, DecisionSays, GrantSays, GrantsSay, Step, Deciding, Answering, Settling, Closing, after, stamps_in, stamps_of, given_by, stamps_given, Rise, StampsRise}
use Rattle.version_table.proofs.CoherenceLaws.{fold_push}

-- one more callback
times_push : (kernel : ℕ) (calls : List Callback) (call : Callback) → times_called kernel (calls ++ call ∷ []) ≡ times_called kernel calls + once_if (call.to == kernel)
times_push kernel [] call = omega arith
times_push kernel (first ∷ calls) call = let rest = times_push kernel calls call in omega arith

-- whether a decision names the kernel, among the kernels up to one
abbrev named_to : Bool → Versioned → Action → ℕ → ℕ → Bool
named_to uncached file action n kernel = (nat_le 1 kernel && nat_le kernel n) && is_some (call_of uncached file action kernel)

once_none : (a b c : Bool) → b ≡ false → once_if ((a && b) && c) ≡ 0
once_none true true c e = cc
once_none true false c e = refl
once_none false b c e = refl

once_one : (a b c : Bool) → a ≡ true → b ≡ true → c ≡ true → once_if ((a && b) && c) ≡ 1
once_one true true true e f g = refl
once_one true true false e f g = cc
once_one true false c e f g = cc
once_one false b c e f g = cc

nothing_once : (a : Bool) (b : Bool) → once_if ((a && b) && false) ≡ 0
nothing_once true true = refl
nothing_once true false = refl
nothing_once false b = refl

named_same : (uncached : Bool) (file : Versioned) (action : Action) (n kernel : ℕ) → (suc n == kernel) ≡ false → named_to uncached file action n kernel ≡ named_to uncached file action (suc n) kernel
named_same uncached file action n kernel e =
    let low : nat_le kernel n ≡ nat_le kernel (suc n) = grind (arith, nat_tests) in
    ap (λ b. (nat_le 1 kernel && b) && is_some (call_of uncached file action kernel)) low

times_more : (uncached : Bool) (file : Versioned) (action : Action) (n kernel : ℕ) (o : Option CallKind) (b : Bool) → call_of uncached file action (suc n) ≡ o → (suc n == kernel) ≡ b → times_called kernel (calls_to uncached file action n) ≡ once_if (named_to uncached file action n kernel) → times_called kernel (with_call file (suc n) o (calls_to uncached file action n)) ≡ once_if (named_to uncached file action (suc n) kernel)
times_more uncached file action n kernel (Some kind) true e is h =
    let calls = calls_to uncached file action n in
    let call : Callback = record { file = file.file; to = suc n; stamp = file.stamp + length calls + 1; kind = kind } in
    let here = eqb-true (suc n) kernel is in
    let none = once_none (nat_le 1 kernel) (nat_le kernel n) (is_some (call_of uncached file action kernel)) (grind (arith, nat_tests)) in
    let one = once_one (nat_le 1 kernel) (nat_le kernel (suc n)) (is_some (call_of uncached file action kernel)) (grind (arith, nat_tests)) (grind (arith, nat_tests)) (ap (λ k. is_some (call_of uncached file action k)) (sym here) ∙ ap is_some e) in
    let more = times_push kernel calls call in
    let sent : once_if (suc n == kernel) ≡ 1 = ap once_if is in
    omega arith
times_more uncached file action n kernel (Some kind) false e is h =
    let calls = calls_to uncached file action n in
    let call : Callback = record { file = file.file; to = suc n; stamp = file.stamp + length calls + 1; kind = kind } in
    let more = times_push kernel calls call in
    let none : once_if (suc n == kernel) ≡ 0 = ap once_if is in
    let same = ap once_if (named_same uncached file action n kernel is) in
    omega arith
times_more uncached file action n kernel None true e is h =
    let here = eqb-true (suc n) kernel is in
    let none = once_none (nat_le 1 kernel) (nat_le kernel n) (is_some (call_of uncached file action kernel)) (grind (arith, nat_tests)) in
    let also = ap (λ k. once_if ((nat_le 1 kernel && nat_le kernel (suc n)) && is_some (call_of uncached file action k))) (sym here) ∙ ap (λ o. once_if ((nat_le 1 kernel && nat_le kernel (suc n)) && is_some o)) e ∙ nothing_once (nat_le 1 kernel) (nat_le kernel (suc n)) in
    h ∙ none ∙ sym also
times_more uncached file action n kernel None false e is h = h ∙ ap once_if (named_same uncached file action n kernel is)

times_to : (uncached : Bool) (file : Versioned) (action : Action) (n kernel : ℕ) → times_called kernel (calls_to uncached file action n) ≡ once_if (named_to uncached file action n kernel)
times_to uncached file action zero kernel = sym (zero_once (nat_le 1 kernel) (nat_le kernel 0) (is_some (call_of uncached file action kernel)) (grind (arith, nat_tests)))
  where
    zero_once : (a b c : Bool) → (a ≡ true → b ≡ false) → once_if ((a && b) && c) ≡ 0
    zero_once true b c e = once_none true b c (e refl)
    zero_once false b c e = refl
times_to uncached file action (suc n) kernel =
    times_more uncached file action n kernel (call_of uncached file action (suc n)) (suc n == kernel) refl refl (times_to uncached file action n kernel)

-- a decision sends one callback to each kernel that it names
pub callbacks_go_once : CallbacksGoOnce
callbacks_go_once cached file action kernel = times_to (is_uncached cached file action) file action 16 kernel

deciding_says : (file : Versioned) (action : Action) (calls : List Callback) → DecisionSays (deciding file action calls) (answering file action calls)
deciding_says file action [] = refl
deciding_says file action (call ∷ calls) = tt

settling_says : (file : Versioned) (o : Option Asking) → GrantSays (settling file o) (settling_grant file o)
settling_says file (Some asking) = refl
settling_says file None = tt

-- a grant says whether the file is uncached after it
pub grants_say : GrantsSay
grants_say = (λ cached file action. deciding_says (told (is_uncached cached file action) file) action (calls_of cached file action), λ file. settling_says file file.asking)

-- numbers that rise from one to another
abbrev RiseTo : ℕ → List ℕ → ℕ → Type 0
RiseTo least [] last = least ≤ last
RiseTo least (first ∷ rest) last = (least < first) × RiseTo first rest last

rise_weaken : (less least : ℕ) (xs : List ℕ) → less ≤ least → Rise least xs → Rise less xs
rise_weaken less least [] le h = tt
rise_weaken less least (x ∷ xs) le h = let here = h.0 in (omega arith, h.1)

rise_append : (least last : ℕ) (xs ys : List ℕ) → RiseTo least xs last → Rise last ys → Rise least (xs ++ ys)
rise_append least last [] ys h k = rise_weaken least last ys h k
rise_append least last (x ∷ xs) ys h k = (h.0, rise_append x last xs ys h.1 k)

rise_push : (least last next : ℕ) (xs : List ℕ) → RiseTo least xs last → last < next → RiseTo least (xs ++ next ∷ []) next
rise_push least last next [] h k = (omega (arith, h), omega arith)
rise_push least last next (x ∷ xs) h k = (h.0, rise_push x last next xs h.1 k)

stamps_push : (calls : List Callback) (call : Callback) → map (λ (call : Callback). call.stamp) (calls ++ call ∷ []) ≡ map (λ (call : Callback). call.stamp) calls ++ call.stamp ∷ []
stamps_push [] call = refl
stamps_push (first ∷ calls) call = ap (λ ys. first.stamp ∷ ys) (stamps_push calls call)

length_push : (calls : List Callback) (call : Callback) → length (calls ++ call ∷ []) ≡ suc (length calls)
length_push [] call = refl
length_push (first ∷ calls) call = ap suc (length_push calls call)

calls_more : (file : Versioned) (kernel : ℕ) (o : Option CallKind) (calls : List Callback) → RiseTo file.stamp (map (λ (call : Callback). call.stamp) calls) (file.stamp + length calls) → RiseTo file.stamp (map (λ (call : Callback). call.stamp) (with_call file kernel o calls)) (file.stamp + length (with_call file kernel o calls))
calls_more file kernel (Some kind) calls h =
    let call : Callback = record { file = file.file; to = kernel; stamp = file.stamp + length calls + 1; kind = kind } in
    let last : call.stamp ≡ file.stamp + length (calls ++ call ∷ []) = (let more = length_push calls call in omega arith) in
    subst (λ ys. RiseTo file.stamp ys (file.stamp + length (calls ++ call ∷ []))) (sym (stamps_push calls call)) (subst (λ m. RiseTo file.stamp (map (λ (call : Callback). call.stamp) calls ++ call.stamp ∷ []) m) last (rise_push file.stamp (file.stamp + length calls) call.stamp (map (λ (call : Callback). call.stamp) calls) h (omega arith)))
calls_more file kernel None calls h = h

calls_rise : (uncached : Bool) (file : Versioned) (action : Action) (n : ℕ) → RiseTo file.stamp (map (λ (call : Callback). call.stamp) (calls_to uncached file action n)) (file.stamp + length (calls_to uncached file action n))
calls_rise uncached file action zero = omega arith
calls_rise uncached file action (suc n) = calls_more file (suc n) (call_of uncached file action (suc n)) (calls_to uncached file action n) (calls_rise uncached file action n)

stamp_more : (base file : Versioned) (kernel : ℕ) (o : Option CallKind) (calls : List Callback) → (fold called base calls).stamp ≡ file.stamp + length calls → (fold called base (with_call file kernel o calls)).stamp ≡ file.stamp + length (with_call file kernel o calls)
stamp_more base file kernel (Some kind) calls h =
    let call : Callback = record { file = file.file; to = kernel; stamp = file.stamp + length calls + 1; kind = kind } in
    let more = length_push calls call in
    let last : call.stamp ≡ file.stamp + length (calls ++ call ∷ []) = omega arith in
    ap (λ (v : Versioned). v.stamp) (fold_push base calls call) ∙ last
stamp_more base file kernel None calls h = h

stamp_after : (uncached : Bool) (base file : Versioned) (action : Action) (n : ℕ) → base.stamp ≡ file.stamp → (fold called base (calls_to uncached file action n)).stamp ≡ file.stamp + length (calls_to uncached file action n)
stamp_after uncached base file action zero same = omega arith
stamp_after uncached base file action (suc n) same = stamp_more base file (suc n) (call_of uncached file action (suc n)) (calls_to uncached file action n) (stamp_after uncached base file action n same)

deciding_rises : (uncached : Bool) (file : Versioned) (action : Action) (calls : List Callback) → calls ≡ calls_to uncached file action 16 → RiseTo file.stamp (stamps_in (answering (told uncached file) action calls)) (deciding (told uncached file) action calls).stamp
deciding_rises uncached file action [] same = (omega arith, omega arith)
deciding_rises uncached file action (call ∷ calls) same =
    let all = calls_to uncached file action 16 in
    let base = waiting (told uncached file) action in
    let rises = subst (λ calls. RiseTo file.stamp (map (λ (call : Callback). call.stamp) calls) (file.stamp + length calls)) (sym same) (calls_rise uncached file action 16) in
    let last = ap (λ calls. (fold called base calls).stamp) same ∙ stamp_after uncached base file action 16 refl ∙ ap (λ calls. file.stamp + length calls) (sym same) in
    subst (λ m. RiseTo file.stamp (map (λ (call : Callback). call.stamp) (call ∷ calls)) m) (sym last) rises

settling_rises : (file : Versioned) (o : Option Asking) → RiseTo file.stamp (stamps_of (settling_grant file o)) (settling file o).stamp
settling_rises file (Some asking) = (omega arith, omega arith)
settling_rises file None = omega arith

step_rises : (cached : Bool) (file : Versioned) (step : Step) → RiseTo file.stamp (given_by cached file step) (after cached file step).stamp
step_rises cached file (Deciding action) = deciding_rises (is_uncached cached file action) file action (calls_of cached file action) refl
step_rises cached file (Answering kernel) = omega arith
step_rises cached file Settling = settling_rises file file.asking
step_rises cached file (Closing kernel stream grants) = omega arith

steps_rise : (cached : Bool) (file : Versioned) (steps : List Step) → Rise file.stamp (stamps_given cached file steps)
steps_rise cached file [] = tt
steps_rise cached file (first ∷ rest) = rise_append file.stamp (after cached file first).stamp (given_by cached file first) (stamps_given cached (after cached file first) rest) (step_rises cached file first) (steps_rise cached (after cached file first) rest)

-- each stamp of a file is greater than all before
pub stamps_rise : StampsRise
stamps_rise cached file steps = steps_rise cached (fresh file) steps
