-- The rule sees of what stands before a record the records alone.
use Rattle.std.proofs.Common.{◌≡◌, ◌∙◌, ℕ, zero, suc, Bool, true, false, List, [], ◌∷◌, ◌++◌, drop, refl, ap}
use Rattle.std.specs.Prelude.{◌&&◌, ◌||◌}
use Rattle.unix_calls.specs.declared.description.Description.{Description}
use Rattle.unix_calls.specs.declared.event.Event.{Event}
use Rattle.unix_calls.specs.declared.event.Event.TheVariants as event
use Rattle.unix_calls.specs.declared.event.Rec.{Rec}
use Rattle.call_journal.specs.Past.{Past, each_from, no_past, past_with, some_then}
use Rattle.call_journal.specs.Unreachable.{keeps_cause, unreachable_for_cause}
use Rattle.cause_judge.specs.Causes.{each_keeps, keeps_behind}

-- one event
keeps_same : (c : Description) (past : Past) (kernel : ℕ) (e : Event) → keeps_behind c past.records kernel e ≡ keeps_cause c past kernel e
keeps_same c past kernel (event.Enter entry) = refl
keeps_same c past kernel _ = refl

-- all of them
each_same : (c : Description) (past : Past) (rest : List Rec) → each_keeps c past.records rest ≡ each_from c (λ (p : Past) (rec : Rec) (behind : List Rec). keeps_cause c p rec.kernel rec.event) past rest
each_same c past [] = refl
each_same c past (rec ∷ rest) =
    ap (λ (b : Bool). b && each_keeps c (past.records ++ rec ∷ []) rest) (keeps_same c past rec.kernel rec.event)
    ∙ ap (λ (b : Bool). keeps_cause c past rec.kernel rec.event && b) (each_same c (past_with c rec past) rest)

pub all_keep : (c : Description) (trace : List Rec) → each_keeps c [] trace ≡ unreachable_for_cause c trace
all_keep c trace = each_same c (no_past c) trace

-- what is among the records from a place on is among all
or_else : (a b : Bool) → b ≡ true → (a || b) ≡ true
or_else true b e = refl
or_else false b e = e

some_behind : (test : Rec → List Rec → Bool) (place : ℕ) (recs : List Rec) → some_then test (drop place recs) ≡ true → some_then test recs ≡ true
some_behind test zero recs e = e
some_behind test (suc place) [] e = e
some_behind test (suc place) (rec ∷ recs) e = or_else (test rec recs) (some_then test recs) (some_behind test place recs e)

pub some_at : (test : Rec → List Rec → Bool) (place : ℕ) (rec : Rec) (rest recs : List Rec) → drop place recs ≡ rec ∷ rest → test rec rest ≡ true → some_then test recs ≡ true
some_at test place rec rest recs cut e = some_behind test place recs (ap (some_then test) cut ∙ ap (λ (b : Bool). b || some_then test rest) e)

-- and where neither a record nor one behind it is, none from there on is
pub none_at : (test : Rec → List Rec → Bool) (place : ℕ) (rec : Rec) (rest recs : List Rec) → drop place recs ≡ rec ∷ rest → test rec rest ≡ false → some_then test rest ≡ false → some_then test (drop place recs) ≡ false
none_at test place rec rest recs cut e none = ap (some_then test) cut ∙ ap (λ (b : Bool). b || some_then test rest) e ∙ none
