-- A decision by its parts.
use Rattle.std.proofs.Common.{◌≡◌, Bool, List, [], ◌∷◌, fold, Some, refl, sym, ap, ◌∙◌}
use Rattle.sprite_ids.specs.declared.StreamNo.{StreamNo}
use Rattle.sprite_ids.specs.declared.Callback.{Callback}
use Rattle.version_table.specs.declared.opens.Open.{Open}
use Rattle.version_table.specs.declared.action.Action.{Action}
use Rattle.version_table.specs.declared.action.Decision.TheVariants.{Grant, CallFirst}
use Rattle.version_table.specs.declared.versioned.Versioned.{Versioned}
use Rattle.version_table.specs.Opens.{opened, sharing}
use Rattle.version_table.specs.Files.{is_uncached, calls_to, calls_of, called, grant_of, granted, told, waiting, deciding, decided}
use Rattle.version_table.specs.Decisions.{answering, decision_of}

called_by : (cached : Bool) (file : Versioned) (action : Action) (uncached : Bool) (calls : List Callback) → uncached ≡ is_uncached cached file action → calls ≡ calls_to uncached file action 16 → calls_of cached file action ≡ calls
called_by cached file action uncached calls eu ec = sym (ec ∙ ap (λ b. calls_to b file action 16) eu)

-- without callbacks it is granted
pub granted_decided : (cached : Bool) (file : Versioned) (action : Action) (uncached : Bool) (opens : List Open) (shared : List StreamNo) (calls : List Callback) → opens ≡ opened file.opens action → shared ≡ sharing file.shared action → uncached ≡ is_uncached cached file action → calls ≡ calls_to uncached file action 16 → calls ≡ [] → granted (told uncached file) action opens shared ≡ decided cached file action
granted_decided cached file action uncached opens shared calls eo es eu ec empty =
    let u = is_uncached cached file action in
    ap (λ b. granted (told b file) action opens shared) eu
    ∙ ap (λ o. granted (told u file) action o shared) eo
    ∙ ap (λ s. granted (told u file) action (opened file.opens action) s) es
    ∙ sym (ap (deciding (told u file) action) (called_by cached file action uncached calls eu ec ∙ empty))

pub granted_answer : (cached : Bool) (file : Versioned) (action : Action) (uncached : Bool) (calls : List Callback) → uncached ≡ is_uncached cached file action → calls ≡ calls_to uncached file action 16 → calls ≡ [] → Grant (grant_of (told uncached file) action) ≡ decision_of cached file action
granted_answer cached file action uncached calls eu ec empty =
    let u = is_uncached cached file action in
    ap (λ b. Grant (grant_of (told b file) action)) eu ∙ sym (ap (answering (told u file) action) (called_by cached file action uncached calls eu ec ∙ empty))

some_deciding : (file : Versioned) (action : Action) (calls : List Callback) → (calls ≡ [] → ⊥) → deciding file action calls ≡ fold called (waiting file action) calls
some_deciding file action [] h = absurd (h refl)
some_deciding file action (call ∷ calls) h = refl

some_answering : (file : Versioned) (action : Action) (calls : List Callback) → (calls ≡ [] → ⊥) → answering file action calls ≡ CallFirst calls
some_answering file action [] h = absurd (h refl)
some_answering file action (call ∷ calls) h = refl

-- with callbacks it waits
pub called_decided : (cached : Bool) (file : Versioned) (action : Action) (uncached : Bool) (opens : List Open) (shared : List StreamNo) (calls : List Callback) → opens ≡ opened file.opens action → shared ≡ sharing file.shared action → uncached ≡ is_uncached cached file action → calls ≡ calls_to uncached file action 16 → (calls ≡ [] → ⊥) → fold called (record (told uncached file) { asking = Some (record { action = action; opens = opens; shared = shared }) }) calls ≡ decided cached file action
called_decided cached file action uncached opens shared calls eo es eu ec some =
    let u = is_uncached cached file action in
    let asks : Bool → List Open → List StreamNo → Versioned = λ b o s. record (told b file) { asking = Some (record { action = action; opens = o; shared = s }) } in
    ap (λ b. fold called (asks b opens shared) calls) eu
    ∙ ap (λ o. fold called (asks u o shared) calls) eo
    ∙ ap (λ s. fold called (asks u (opened file.opens action) s) calls) es
    ∙ sym (ap (deciding (told u file) action) (called_by cached file action uncached calls eu ec) ∙ some_deciding (told u file) action calls some)

pub called_answer : (cached : Bool) (file : Versioned) (action : Action) (uncached : Bool) (calls : List Callback) → uncached ≡ is_uncached cached file action → calls ≡ calls_to uncached file action 16 → (calls ≡ [] → ⊥) → CallFirst calls ≡ decision_of cached file action
called_answer cached file action uncached calls eu ec some =
    let u = is_uncached cached file action in
    sym (ap (answering (told u file) action) (called_by cached file action uncached calls eu ec) ∙ some_answering (told u file) action calls some)
