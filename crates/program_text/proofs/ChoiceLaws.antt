-- A fact of what a choice gives, where it gives something.
use Rattle.std.proofs.Common.{◌≡◌, Bool, true, false, Option, Some, None, refl}
use Rattle.std.specs.Bool.{if◌then◌else◌}
use Rattle.std.specs.Option.{option_map, option_and_then}

abbrev holds_of : {A : Type 0} → (A → Type 0) → Option A → Type 0
holds_of P None = Unit {0}
holds_of P (Some x) = P x

-- the fact holds of the item, where there is one
pub record Each {A : Type 0} (P : A → Type 0) (o : Option A) : Type 0 where
  pub holds : holds_of P o

pub each_none : {A : Type 0} (P : A → Type 0) → Each P None
each_none P = record { holds = tt }

pub each_some : {A : Type 0} (P : A → Type 0) (x : A) → P x → Each P (Some x)
each_some P x h = record { holds = h }

pub each_if : {A : Type 0} (P : A → Type 0) (t : Bool) (x y : Option A) → (t ≡ true → Each P x) → (t ≡ false → Each P y) → Each P (if t then x else y)
each_if P true x y h k = h refl
each_if P false x y h k = k refl

pub each_then : {A B : Type 0} (Q : B → Type 0) (P : A → Type 0) (f : B → Option A) (o : Option B) → Each Q o → ((x : B) → Q x → Each P (f x)) → Each P (option_and_then f o)
each_then Q P f None h k = record { holds = tt }
each_then Q P f (Some x) h k = k x h.holds

pub each_mapped : {A B : Type 0} (Q : B → Type 0) (P : A → Type 0) (f : B → A) (o : Option B) → Each Q o → ((x : B) → Q x → P (f x)) → Each P (option_map f o)
each_mapped Q P f None h k = record { holds = tt }
each_mapped Q P f (Some x) h k = record { holds = k x h.holds }

-- no fact is asked
abbrev pub Any : {B : Type 0} → B → Type 0
Any x = Unit {0}

pub any_holds : {B : Type 0} (o : Option B) → Each Any o
any_holds None = record { holds = tt }
any_holds (Some x) = record { holds = tt }
