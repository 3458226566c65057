-- A rule that looks back and ahead is kept by a trace where each record keeps it and pays what is due.
use Rattle.std.proofs.Common.{◌≡◌, ◌∙◌, ℕ, suc, ◌<◌, Bool, true, false, ◌&&◌, List, [], ◌∷◌, Option, length, refl, sym, ap, arith}
use Rattle.std.proofs.lemmas.Bool.{and_parts}
use Rattle.unix_calls.specs.declared.description.Description.{Description}
use Rattle.unix_calls.specs.declared.event.Rec.{Rec}
use Rattle.call_journal.specs.Past.{Past, each_from, each_record, no_past, past_with}
use Rattle.trace_tables.specs.declared.Tied.{Tied}
use Rattle.trace_tables.specs.Ties.{tied_at, ties_from, ties_of}
use Rattle.sharing_rules.specs.declared.entry_facts.EntryFacts.{EntryFacts}
use Rattle.sharing_rules.specs.Facts.{facts_at, facts_from, facts_of}
use Rattle.sharing_rules.specs.Judging.{Pays, HereOwing}
use Rattle.trace_tables.proofs.TieLaws.{ties_count}

-- before the first record
pub begins : (c : Description) (test : Past → Rec → List Rec → Bool) (Tells : Past → Type 0) (Owes : Past → List Rec → Type 0) (trace : List Rec) (ties : List (Option Tied)) (facts : List EntryFacts) → Tells (no_past c) → Owes (no_past c) trace → ties ≡ ties_of c trace → facts ≡ facts_of c trace → HereOwing c test Tells Owes trace trace ties facts
begins c test Tells Owes trace ties facts told free tied facts_are = record {
  past = no_past c;
  told = told;
  tied = tied;
  facts_are = facts_are;
  on = λ well due. well;
  back = λ well. (well, free);
}

-- there is a tie for each record
pub tie_there : (c : Description) (ties : List (Option Tied)) (trace : List Rec) (place : ℕ) → ties ≡ ties_of c trace → place < length trace → place < length ties
tie_there c ties trace place tied short =
    let count : length ties ≡ length trace = ap length tied ∙ ties_count c (no_past c) trace in
    omega (arith, count, short)

-- there are facts for each record
facts_count : (c : Description) (past : Past) (trace : List Rec) → length (facts_from c past trace) ≡ length trace
facts_count c past [] = refl
facts_count c past (rec ∷ rest) = ap suc (facts_count c (past_with c rec past) rest)

pub facts_there : (c : Description) (facts : List EntryFacts) (trace : List Rec) (place : ℕ) → facts ≡ facts_of c trace → place < length trace → place < length facts
facts_there c facts trace place is short =
    let count : length facts ≡ length trace = ap length is ∙ facts_count c (no_past c) trace in
    omega (arith, count, short)

-- the first of the facts, and the others
abbrev pub first_or : EntryFacts → List EntryFacts → EntryFacts
first_or d [] = d
first_or d (x ∷ xs) = x

abbrev pub others : List EntryFacts → List EntryFacts
others [] = []
others (x ∷ xs) = xs

abbrev pub head_or : Option Tied → List (Option Tied) → Option Tied
head_or d [] = d
head_or d (x ∷ xs) = x

abbrev pub tail : List (Option Tied) → List (Option Tied)
tail [] = []
tail (x ∷ xs) = xs

-- what is told of the first record
pub record First (c : Description) (past : Past) (rec : Rec) (tie : Option Tied) (fact : EntryFacts) : Type 0 where
  pub tied : tie ≡ tied_at past rec.event
  pub told : fact ≡ facts_at c past rec

pub first_of : (c : Description) (past : Past) (rec : Rec) (rest : List Rec) (tie : Option Tied) (ties : List (Option Tied)) (fact : EntryFacts) (facts : List EntryFacts) → tie ∷ ties ≡ ties_from c past (rec ∷ rest) → fact ∷ facts ≡ facts_from c past (rec ∷ rest) → First c past rec tie fact
first_of c past rec rest tie ties fact facts tied facts_are = record { tied = ap (head_or tie) tied; told = ap (first_or fact) facts_are }

-- a test that can't be met
never : (b : Bool) → (b ≡ true → ⊥) → b ≡ false
never true no_way = absurd (no_way refl)
never false no_way = refl

-- where a record breaks the rule or doesn't pay, the trace doesn't keep it
pub breaks : (c : Description) (test : Past → Rec → List Rec → Bool) (Tells : Past → Type 0) (Owes : Past → List Rec → Type 0) (trace rest : List Rec) (rec : Rec) (ties : List (Option Tied)) (facts : List EntryFacts) (here : HereOwing c test Tells Owes trace (rec ∷ rest) ties facts) → (test here.past rec rest ≡ true → Owes here.past (rec ∷ rest) → ⊥) → false ≡ each_record c test trace
breaks c test Tells Owes trace rest rec ties facts here breaks_it =
    sym (never (each_record c test trace) (λ well.
    let both = here.back well in
    breaks_it (and_parts (test here.past rec rest) (each_from c test (past_with c rec here.past) rest) both.0).0 both.1))

both_true : (a b : Bool) → a ≡ true → b ≡ true → (a && b) ≡ true
both_true true b is more = more
both_true false b is more = is

-- where it doesn't, the rest decides
pub goes : (c : Description) (test : Past → Rec → List Rec → Bool) (Tells More : Past → Type 0) (Owes Left : Past → List Rec → Type 0) (trace rest : List Rec) (rec : Rec) (tie : Option Tied) (ties : List (Option Tied)) (fact : EntryFacts) (facts : List EntryFacts) (here : HereOwing c test Tells Owes trace (rec ∷ rest) (tie ∷ ties) (fact ∷ facts)) → More (past_with c rec here.past) → Pays (test here.past rec rest) (Owes here.past (rec ∷ rest)) (Left (past_with c rec here.past) rest) → HereOwing c test More Left trace rest ties facts
goes c test Tells More Owes Left trace rest rec tie ties fact facts here told pays = record {
  past = past_with c rec here.past;
  told = told;
  tied = ap tail here.tied;
  facts_are = ap others here.facts_are;
  on = λ well left.
      let paid = pays.back left in
      here.on (both_true (test here.past rec rest) (each_from c test (past_with c rec here.past) rest) paid.0 well) paid.1;
  back = λ well.
      let both = here.back well in
      let parts = and_parts (test here.past rec rest) (each_from c test (past_with c rec here.past) rest) both.0 in
      (parts.1, pays.on parts.0 both.1);
}

same_truth : (a b : Bool) → (a ≡ true → b ≡ true) → (b ≡ true → a ≡ true) → a ≡ b
same_truth true b on back = sym (on refl)
same_truth false true on back = back refl
same_truth false false on back = refl

-- behind the last one it is kept where nothing is due
pub ends : (c : Description) (test : Past → Rec → List Rec → Bool) (Tells : Past → Type 0) (Owes : Past → List Rec → Type 0) (trace : List Rec) (ties : List (Option Tied)) (facts : List EntryFacts) (paid : Bool) (here : HereOwing c test Tells Owes trace [] ties facts) → (Owes here.past [] → paid ≡ true) × (paid ≡ true → Owes here.past []) → paid ≡ each_record c test trace
ends c test Tells Owes trace ties facts paid here is =
    same_truth paid (each_record c test trace) (λ done. here.on refl (is.1 done)) (λ well. is.0 (here.back well).1)
