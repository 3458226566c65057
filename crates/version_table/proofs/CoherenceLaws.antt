-- Each call keeps who may cache a file and who may hold its dirty blocks.
use Rattle.std.proofs.Common.{rules, tests, ◌≡◌, ℕ, zero, suc, ◌+◌, ◌-◌, ◌<◌, ◌≤◌, ◌==◌, Bool, true, false, ◌&&◌, ◌||◌, not, if◌then◌else◌, List, [], ◌∷◌, ◌++◌, length, fold, Option, Some, None, is_some, refl, sym, ap, subst, ◌∙◌, arith, true≢false, slice_get, slice_set}
use Rattle.std.specs.List.{list_any}
use Rattle.std.proofs.lemmas.Bool.{eqb-true}
use Rattle.std.proofs.lemmas.Bool.Decides.{nat_tests}
use Rattle.sprite_ids.specs.declared.FileId.{FileId}
use Rattle.sprite_ids.specs.declared.StreamNo.{StreamNo}
use Rattle.sprite_ids.specs.declared.Callback.{Callback}
use Rattle.sprite_ids.specs.declared.CacheMode.{CacheMode}
use Rattle.sprite_ids.specs.declared.CacheMode.TheVariants.{Off}
use Rattle.sprite_ids.specs.declared.Mode.{Mode}
use Rattle.sprite_ids.specs.declared.CallKind.TheVariants.{Recall, Stop}
use Rattle.sprite_ids.proofs.ListLaws.{get_set_other}
use Rattle.sprite_ids.proofs.OnceLaws.{or_false}
use Rattle.version_table.specs.declared.opens.Open.{Open}
use Rattle.version_table.specs.declared.action.Action.{Action}
use Rattle.version_table.specs.declared.versioned.Asking.{Asking}
use Rattle.version_table.specs.declared.versioned.Versioned.{Versioned}
use Rattle.version_table.specs.Lists.{is_any}
use Rattle.version_table.specs.Modes.{writes, mode_of_grant}
use Rattle.version_table.specs.Opens.{opened, sharing, receiver, truncates, is_writing, taken_off, has_open, is_written, is_write_shared}
use Rattle.version_table.specs.Files.{fresh, is_busy, is_kernel, is_holder, is_on_in, is_on, is_uncached, is_stopped, with_call, calls_to, calls_of, called, granted, told, waiting, deciding, decided, answered, settling, settled, closing, closed, IsPreparedFor, IsPrepared}
use Rattle.version_table.specs.Coherence.{has_open_for_writing, WaitsAlone, IsCoherent}
use Rattle.version_table.proofs.SharingLaws.{test_of, taken_within, receiver_has_open, no_new_writer, writer_writes, writer_opens, some_writer, writer_is_alone, apart_within}

-- a file that nobody opened
pub fresh_coherent : (file : FileId) → IsCoherent (fresh file)
fresh_coherent file = record { alone = λ e. refl; waits = λ e. tt; stopped = λ e. absurd (true≢false (sym e)); holds = λ e free kernel h. absurd (true≢false (sym h)) }

-- what a decision that leaves the file cached says of it
record StaysCached (cached : Bool) (file : Versioned) (action : Action) : Type 0 where
  was : file.uncached ≡ false
  apart : is_write_shared (opened file.opens action) ≡ false
  emptied : (truncates action && is_any file.opens) ≡ false

stays_cached : (cached : Bool) (file : Versioned) (action : Action) → is_uncached cached file action ≡ false → StaysCached cached file action
stays_cached cached file action e =
    let shared = is_write_shared (opened file.opens action) in
    let streams = is_any (sharing file.shared action) in
    let emptied = truncates action && is_any file.opens in
    let first = or_false file.uncached (not cached || (shared || (streams || emptied))) e in
    let next = or_false (not cached) (shared || (streams || emptied)) first.1 in
    let third = or_false shared (streams || emptied) next.1 in
    record { was = first.0; apart = third.0; emptied = (or_false streams emptied third.1).1 }

-- setting a mode to Off sets none to On
off_keeps : (modes : List CacheMode) (at place : ℕ) → is_on_in (slice_get modes place) ≡ false → is_on_in (slice_get (slice_set modes at Off) place) ≡ false
off_keeps [] at place h = h
off_keeps (mode ∷ modes) zero zero h = refl
off_keeps (mode ∷ modes) zero (suc place) h = h
off_keeps (mode ∷ modes) (suc at) zero h = h
off_keeps (mode ∷ modes) (suc at) (suc place) h = off_keeps modes at place h

off_there : (modes : List CacheMode) (at : ℕ) → is_on_in (slice_get (slice_set modes at Off) at) ≡ false
off_there [] at = refl
off_there (mode ∷ modes) zero = refl
off_there (mode ∷ modes) (suc at) = off_there modes at

-- one more callback
pub fold_push : (file : Versioned) (calls : List Callback) (call : Callback) → fold called file (calls ++ call ∷ []) ≡ called (fold called file calls) call
fold_push file [] call = refl
fold_push file (first ∷ calls) call = fold_push (called file first) calls call

-- callbacks change no part that one callback doesn't change
pub fold_same : {F : Type 0} (part : Versioned → F) → ((file : Versioned) (call : Callback) → part (called file call) ≡ part file) → (file : Versioned) (calls : List Callback) → part (fold called file calls) ≡ part file
fold_same part same file [] = refl
fold_same part same file (call ∷ calls) = fold_same part same (called file call) calls ∙ same file call

-- the modes after the callbacks of an uncached file to the kernels up to one: those aren't On, and the others as before
record AreStopped (file after : Versioned) (n : ℕ) : Type 0 where
  under : (place : ℕ) → place < n → is_on_in (slice_get after.modes place) ≡ false
  over : (place : ℕ) → n ≤ place → slice_get after.modes place ≡ slice_get file.modes place

one_before : (n : ℕ) → suc n - 1 ≡ n
one_before n = omega arith

set_at : (before : List CacheMode) (n place : ℕ) → place < suc n → ((place : ℕ) → place < n → is_on_in (slice_get before place) ≡ false) → (b : Bool) → (place == n) ≡ b → is_on_in (slice_get (slice_set before n Off) place) ≡ false
set_at before n place low h true e = ap (λ p. is_on_in (slice_get (slice_set before n Off) p)) (eqb-true place n e) ∙ off_there before n
set_at before n place low h false e = off_keeps before n place (h place (grind (arith, nat_tests)))

kept_at : (before : List CacheMode) (n place : ℕ) → place < suc n → ((place : ℕ) → place < n → is_on_in (slice_get before place) ≡ false) → is_on_in (slice_get before n) ≡ false → (b : Bool) → (place == n) ≡ b → is_on_in (slice_get before place) ≡ false
kept_at before n place low h here true e = ap (λ p. is_on_in (slice_get before p)) (eqb-true place n e) ∙ here
kept_at before n place low h here false e = h place (grind (arith, nat_tests))

stopped_more : (base file : Versioned) (action : Action) (n : ℕ) (b : Bool) → is_stopped file action (suc n) ≡ b → AreStopped file (fold called base (calls_to true file action n)) n → AreStopped file (fold called base (with_call file (suc n) (if b then Some Stop else None) (calls_to true file action n))) (suc n)
stopped_more base file action n true e h =
    let calls = calls_to true file action n in
    let call : Callback = record { file = file.file; to = suc n; stamp = file.stamp + length calls + 1; kind = Stop } in
    let before = (fold called base calls).modes in
    let after : (fold called base (calls ++ call ∷ [])).modes ≡ slice_set before n Off = ap (λ (v : Versioned). v.modes) (fold_push base calls call) ∙ ap (λ m. slice_set before m Off) (one_before n) in
    record {
      under = λ place low. ap (λ ms. is_on_in (slice_get ms place)) after ∙ set_at before n place low h.under (place == n) refl;
      over = λ place high. ap (λ ms. slice_get ms place) after ∙ get_set_other before n place Off (λ same. omega arith) ∙ h.over place (omega arith);
    }
stopped_more base file action n false e h =
    let before = (fold called base (calls_to true file action n)).modes in
    let off = (or_false (is_on file (suc n)) (truncates action && has_open file.opens (suc n)) e).0 in
    let here : is_on_in (slice_get before n) ≡ false = ap is_on_in (h.over n (omega arith)) ∙ ap (λ m. is_on_in (slice_get file.modes m)) (sym (one_before n)) ∙ off in
    record {
      under = λ place low. kept_at before n place low h.under here (place == n) refl;
      over = λ place high. h.over place (omega arith);
    }

-- after its callbacks, no kernel has mode On of a file that became uncached
all_stopped : (base file : Versioned) (action : Action) (n : ℕ) → base.modes ≡ file.modes → AreStopped file (fold called base (calls_to true file action n)) n
all_stopped base file action zero same = record { under = λ place low. absurd (omega arith); over = λ place high. ap (λ ms. slice_get ms place) same }
all_stopped base file action (suc n) same = stopped_more base file action n (is_stopped file action (suc n)) refl (all_stopped base file action n same)

-- a kernel that has the file open for writing is the holder after a grant of mode On
holds_by : (file : Versioned) (action : Action) (opens : List Open) (kernel : ℕ) (b : Bool) → is_writing file.opens action ≡ b → is_write_shared opens ≡ false → has_open opens (receiver action) ≡ true → has_open_for_writing opens kernel ≡ true → (is_writing file.opens action ≡ false → is_holder file kernel ≡ true) → is_kernel kernel (if b && not false then Some (receiver action) else file.holder) ≡ true
holds_by file action opens kernel true e apart there writing before = writer_is_alone opens kernel (receiver action) apart writing there
holds_by file action opens kernel false e apart there writing before = before e

-- a file that is granted at once, and stays cached
granted_cached : (cached : Bool) (file : Versioned) (action : Action) → StaysCached cached file action → is_busy file ≡ false → IsCoherent file → IsCoherent (granted (told false file) action (opened file.opens action) (sharing file.shared action))
granted_cached cached file action stays free h = record {
  alone = λ e. stays.apart;
  waits = λ e. tt;
  stopped = λ e. absurd (true≢false (sym e));
  holds = λ e done kernel writing. holds_by file action (opened file.opens action) kernel (is_writing file.opens action) refl stays.apart (receiver_has_open file.opens action) writing (λ reads. h.holds stays.was free kernel (no_new_writer file.opens action kernel reads writing));
}

place_under : (kernel : ℕ) → kernel ≤ 16 → kernel - 1 < 16
place_under kernel few = omega arith

-- a file that is granted at once, and is uncached
granted_uncached : (file : Versioned) (action : Action) (opens : List Open) (shared : List StreamNo) → calls_to true file action 16 ≡ [] → IsCoherent (granted (told true file) action opens shared)
granted_uncached file action opens shared none =
    let stopped = all_stopped file file action 16 refl in
    let before : (place : ℕ) → place < 16 → is_on_in (slice_get file.modes place) ≡ false = λ place low. ap (λ calls. is_on_in (slice_get (fold called file calls).modes place)) (sym none) ∙ stopped.under place low in
    record {
      alone = λ e. absurd (true≢false e);
      waits = λ e. tt;
      stopped = λ e kernel few. off_keeps file.modes (receiver action - 1) (kernel - 1) (before (kernel - 1) (place_under kernel few));
      holds = λ e. absurd (true≢false e);
    }

one_kernel : (o : Option ℕ) (kernel other : ℕ) → is_kernel kernel o ≡ true → is_kernel other o ≡ true → kernel ≡ other
one_kernel (Some holder) kernel other h k = sym (eqb-true holder kernel h) ∙ eqb-true holder other k
one_kernel None kernel other h k = absurd (cc)

recalled_by : (file : Versioned) (action : Action) (kernel : ℕ) (b : Bool) → is_holder file kernel ≡ b → truncates action ≡ false → is_holder file (receiver action) ≡ true → (b && (truncates action || not (receiver action == kernel))) ≡ false
recalled_by file action kernel true e empties holds =
    let same = one_kernel file.holder (receiver action) kernel holds e in
    ap (λ b. b || not (receiver action == kernel)) empties ∙ ap not (eq_of (receiver action) kernel same)
  where
    eq_of : (a b : ℕ) → a ≡ b → (a == b) ≡ true
    eq_of a b same = search (rules, tests, same)
recalled_by file action kernel false e empties holds = refl

-- the holder isn't called back for its own open, where nothing is emptied
none_recalled : (file : Versioned) (action : Action) → truncates action ≡ false → is_holder file (receiver action) ≡ true → (n : ℕ) → calls_to false file action n ≡ []
none_recalled file action empties holds zero = refl
none_recalled file action empties holds (suc n) =
    ap (λ b. with_call file (suc n) (if b then Some Recall else None) (calls_to false file action n)) (recalled_by file action (suc n) (is_holder file (suc n)) refl empties holds)
    ∙ none_recalled file action empties holds n

kept_false : (a b : Bool) → (a && b) ≡ false → b ≡ true → a ≡ false
kept_false true b h k = absurd (true≢false (sym k ∙ h))
kept_false false b h k = refl

-- what waits for recalls is an open for writing, where it leads to one
waits_by : (cached : Bool) (file : Versioned) (action : Action) (call : Callback) (calls : List Callback) → StaysCached cached file action → is_busy file ≡ false → IsCoherent file → call ∷ calls ≡ calls_to false file action 16 → (b : Bool) → is_writing file.opens action ≡ b → is_written (opened file.opens action) ≡ true → is_writing file.opens action ≡ true
waits_by cached file action call calls stays free h some true e written = e
waits_by cached file action call calls stays free h some false e written =
    let opens = opened file.opens action in
    let writer = some_writer opens written in
    let before = no_new_writer file.opens action writer.0 e writer.1 in
    let holder = h.holds stays.was free writer.0 before in
    let same = eqb-true (receiver action) writer.0 (writer_is_alone opens writer.0 (receiver action) stays.apart writer.1 (receiver_has_open file.opens action)) in
    let empties = kept_false (truncates action) (is_any file.opens) stays.emptied (writer_opens file.opens writer.0 before) in
    let none = none_recalled file action empties (ap (is_holder file) same ∙ holder) 16 in
    absurd (some_none (some ∙ none))
  where
    some_none : call ∷ calls ≡ [] → ⊥
    some_none e = cc

-- a file that waits for recalls
waiting_cached : (cached : Bool) (file : Versioned) (action : Action) (call : Callback) (calls : List Callback) → StaysCached cached file action → is_busy file ≡ false → IsCoherent file → call ∷ calls ≡ calls_to false file action 16 → IsCoherent (fold called (waiting (told false file) action) (call ∷ calls))
waiting_cached cached file action call calls stays free h some =
    let base = waiting (told false file) action in
    let after = fold called base (call ∷ calls) in
    let uncached : after.uncached ≡ false = fold_same (λ (v : Versioned). v.uncached) (λ v c. refl) base (call ∷ calls) in
    let opens : after.opens ≡ file.opens = fold_same (λ (v : Versioned). v.opens) (λ v c. refl) base (call ∷ calls) in
    let asking : after.asking ≡ base.asking = fold_same (λ (v : Versioned). v.asking) (λ v c. refl) base (call ∷ calls) in
    let ready : WaitsAlone file.opens base.asking = (stays.apart, waits_by cached file action call calls stays free h some (is_writing file.opens action) refl) in
    record {
      alone = λ e. ap is_write_shared opens ∙ h.alone stays.was;
      waits = λ e. subst (λ o. WaitsAlone o after.asking) (sym opens) (subst (WaitsAlone file.opens) (sym asking) ready);
      stopped = λ e. absurd (true≢false (sym e ∙ uncached));
      holds = λ e done. absurd (true≢false (ap is_some (sym asking) ∙ done));
    }

-- a file that waits for kernels to stop
waiting_uncached : (file : Versioned) (action : Action) (calls : List Callback) → calls ≡ calls_to true file action 16 → IsCoherent (fold called (waiting (told true file) action) calls)
waiting_uncached file action calls same =
    let base = waiting (told true file) action in
    let after = fold called base calls in
    let uncached : after.uncached ≡ true = fold_same (λ (v : Versioned). v.uncached) (λ v c. refl) base calls in
    let stopped = all_stopped base file action 16 refl in
    record {
      alone = λ e. absurd (true≢false (sym uncached ∙ e));
      waits = λ e. absurd (true≢false (sym uncached ∙ e));
      stopped = λ e kernel few. ap (λ calls. is_on_in (slice_get (fold called base calls).modes (kernel - 1))) same ∙ stopped.under (kernel - 1) (place_under kernel few);
      holds = λ e. absurd (true≢false (sym uncached ∙ e));
    }

decided_by : (cached : Bool) (file : Versioned) (action : Action) (b : Bool) (calls : List Callback) → is_uncached cached file action ≡ b → calls ≡ calls_to b file action 16 → is_busy file ≡ false → IsCoherent file → IsCoherent (deciding (told b file) action calls)
decided_by cached file action true [] e same free h = granted_uncached file action (opened file.opens action) (sharing file.shared action) (sym same)
decided_by cached file action true (call ∷ calls) e same free h = waiting_uncached file action (call ∷ calls) same
decided_by cached file action false [] e same free h = granted_cached cached file action (stays_cached cached file action e) free h
decided_by cached file action false (call ∷ calls) e same free h = waiting_cached cached file action call calls (stays_cached cached file action e) free h same

pub decided_coherent : (cached : Bool) (file : Versioned) (action : Action) → is_busy file ≡ false → IsCoherent file → IsCoherent (decided cached file action)
decided_coherent cached file action free h = decided_by cached file action (is_uncached cached file action) (calls_of cached file action) refl refl free h

pub answered_coherent : (file : Versioned) (kernel : ℕ) → is_busy file ≡ true → IsCoherent file → IsCoherent (answered file kernel)
answered_coherent file kernel busy h = record { alone = h.alone; waits = h.waits; stopped = h.stopped; holds = λ e free. absurd (true≢false (sym busy ∙ free)) }

settled_by : (file : Versioned) (o : Option Asking) → o ≡ file.asking → IsPreparedFor file o → IsCoherent file → IsCoherent (settling file o)
settled_by file None same ready h = h
settled_by file (Some asking) same ready h =
    let action = asking.action in
    let waits : file.uncached ≡ false → WaitsAlone file.opens (Some asking) = λ e. subst (WaitsAlone file.opens) (sym same) (h.waits e) in
    let there : has_open asking.opens (receiver action) ≡ true = ap (λ opens. has_open opens (receiver action)) ready.0 ∙ receiver_has_open file.opens action in
    record {
      alone = λ e. (waits e).0;
      waits = λ e. tt;
      stopped = λ e kernel few. ap (λ b. is_on_in (slice_get (slice_set file.modes (receiver action - 1) (mode_of_grant (not b))) (kernel - 1))) e ∙ off_keeps file.modes (receiver action - 1) (kernel - 1) (h.stopped e kernel few);
      holds = λ e done kernel writing. ap (λ b. is_kernel kernel (if is_writing file.opens action && not b then Some (receiver action) else file.holder)) e ∙ holds_by file action asking.opens kernel (is_writing file.opens action) refl (waits e).0 there writing (λ reads. absurd (true≢false (sym ((waits e).1 (writer_writes asking.opens kernel writing)) ∙ reads)));
    }

pub settled_coherent : (file : Versioned) → IsPrepared file → IsCoherent file → IsCoherent (settled file)
settled_coherent file ready h = settled_by file file.asking refl ready h

closed_waits : (opens : List Open) (o : Option Asking) → is_some o ≡ false → WaitsAlone opens o
closed_waits opens (Some asking) free = absurd (cc)
closed_waits opens None free = tt

closing_by : (file : Versioned) (stream : StreamNo) (opens : List Open) → ((f : ℕ → Mode → Bool) → list_any (test_of f) opens ≡ true → list_any (test_of f) file.opens ≡ true) → is_busy file ≡ false → IsCoherent file → IsCoherent (closing file stream opens)
closing_by file stream [] within free h = record {
  alone = λ e. refl;
  waits = λ e. closed_waits [] file.asking free;
  stopped = λ e. absurd (true≢false (sym e));
  holds = λ e done kernel writing. absurd (true≢false (sym writing));
}
closing_by file stream (one ∷ opens) within free h = record {
  alone = λ e. apart_within file.opens (one ∷ opens) within (h.alone e);
  waits = λ e. closed_waits (one ∷ opens) file.asking free;
  stopped = h.stopped;
  holds = λ e done kernel writing. h.holds e free kernel (within (λ at mode. (at == kernel) && writes mode) writing);
}

pub closed_coherent : (file : Versioned) (kernel : ℕ) (stream : StreamNo) (grants : ℕ) → is_busy file ≡ false → IsCoherent file → IsCoherent (closed file kernel stream grants)
closed_coherent file kernel stream grants free h =
    closing_by file stream (taken_off file.opens stream kernel grants) (λ f. taken_within f file.opens stream kernel grants) free h
