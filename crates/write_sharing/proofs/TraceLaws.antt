-- What is kept of files decides the rule of a trace, from one record to the next.
use Rattle.std.proofs.Common.{◌≡◌, ◌∙◌, ◌<◌, ℕ, suc, Bool, true, false, List, [], ◌∷◌, Option, length, refl, sym, ap, subst, arith}
use Rattle.std.proofs.lemmas.Bool.{and_parts, and_from, false_from_ne_true}
use Rattle.unix_calls.specs.declared.description.Description.{Description}
use Rattle.unix_calls.specs.declared.event.Rec.{Rec}
use Rattle.call_journal.specs.Past.{Past, each_from, each_record, no_past, past_with}
use Rattle.trace_tables.specs.declared.tied.Tied.{Tied}
use Rattle.trace_tables.specs.Ties.{tied_at, ties_of}
use Rattle.trace_tables.proofs.TieLaws.{ties_count}
use Rattle.write_sharing.specs.declared.kept.Sharing.{Sharing}
use Rattle.write_sharing.specs.Kept.{TakesSo, is_paid_in}
use Rattle.write_sharing.specs.Watched.{TellsSharing, Owes}
use Rattle.write_sharing.specs.Cuts.{cuts_at, cuts_from, cuts_of}
use Rattle.write_sharing.specs.Judged.{test_of, HereSharing}
use Rattle.write_sharing.proofs.RuleLaws.{told_on, owes_on, owed_back, sharing_breaks, sharing_ends}

-- ---- what is told of each record

pub tie_there : (c : Description) (ties : List (Option Tied)) (trace : List Rec) (place : ℕ) → ties ≡ ties_of c trace → place < length trace → place < length ties
tie_there c ties trace place is short =
    let count : length ties ≡ length trace = ap length is ∙ ties_count c (no_past c) trace in
    omega (arith, count, short)

cuts_count : (c : Description) (past : Past) (trace : List Rec) → length (cuts_from c past trace) ≡ length trace
cuts_count c past [] = refl
cuts_count c past (rec ∷ rest) = ap suc (cuts_count c (past_with c rec past) rest)

pub cut_there : (c : Description) (cuts : List Bool) (trace : List Rec) (place : ℕ) → cuts ≡ cuts_of c trace → place < length trace → place < length cuts
cut_there c cuts trace place is short =
    let count : length cuts ≡ length trace = ap length is ∙ cuts_count c (no_past c) trace in
    omega (arith, count, short)

-- the first of some items, and the others
abbrev head_or : {A : Type 0} → A → List A → A
head_or d [] = d
head_or d (x ∷ xs) = x

abbrev others : {A : Type 0} → List A → List A
others [] = []
others (x ∷ xs) = xs

-- ---- before the first record

pub begins : (c : Description) (kept : Sharing) (trace : List Rec) (ties : List (Option Tied)) (cuts : List Bool) → TellsSharing kept (no_past c) → Owes c kept (no_past c) trace → ties ≡ ties_of c trace → cuts ≡ cuts_of c trace → HereSharing c kept trace trace ties cuts
begins c kept trace ties cuts told free tied cut = record {
  past = no_past c;
  told = told;
  tied = tied;
  cut = cut;
  on = λ well due. well;
  back = λ well. (well, free);
}

-- ---- one record more

takes_told : (c : Description) (past : Past) (rec : Rec) (tie : Option Tied) (cut fits so : Bool) (old new : Sharing) → tie ≡ tied_at past rec.event → cut ≡ cuts_at c past rec → fits ≡ so → TakesSo c rec tie cut fits old new → TakesSo c rec (tied_at past rec.event) (cuts_at c past rec) so old new
takes_told c past rec tie cut fits so old new by_tie by_cut by_fits takes =
    let one = subst (λ (b : Bool). TakesSo c rec tie cut b old new) by_fits takes in
    let two = subst (λ (t : Option Tied). TakesSo c rec t cut so old new) by_tie one in
    subst (λ (b : Bool). TakesSo c rec (tied_at past rec.event) b so old new) by_cut two

-- where a record breaks the rule or doesn't pay, the trace doesn't keep it
pub trace_breaks : (c : Description) (trace rest : List Rec) (rec : Rec) (tie : Option Tied) (ties : List (Option Tied)) (cut : Bool) (cuts : List Bool) (fits : Bool) (old new : Sharing) → HereSharing c old trace (rec ∷ rest) (tie ∷ ties) (cut ∷ cuts) → TakesSo c rec tie cut fits old new → fits ≡ false → false ≡ each_record c (test_of c) trace
trace_breaks c trace rest rec tie ties cut cuts fits old new here takes is =
    let so = takes_told c here.past rec tie cut fits false old new (ap (head_or tie) here.tied) (ap (head_or cut) here.cut) is takes in
    sym (false_from_ne_true (each_record c (test_of c) trace) (λ well.
    let both = here.back well in
    sharing_breaks c rec old new here.past rest here.told so (and_parts (test_of c here.past rec rest) (each_from c (test_of c) (past_with c rec here.past) rest) both.0).0 both.1))

-- where it doesn't, the rest decides
pub trace_goes : (c : Description) (trace rest : List Rec) (rec : Rec) (tie : Option Tied) (ties : List (Option Tied)) (cut : Bool) (cuts : List Bool) (fits : Bool) (old new : Sharing) → HereSharing c old trace (rec ∷ rest) (tie ∷ ties) (cut ∷ cuts) → TakesSo c rec tie cut fits old new → fits ≡ true → HereSharing c new trace rest ties cuts
trace_goes c trace rest rec tie ties cut cuts fits old new here takes is =
    let so = takes_told c here.past rec tie cut fits true old new (ap (head_or tie) here.tied) (ap (head_or cut) here.cut) is takes in
    record {
      past = past_with c rec here.past;
      told = told_on c rec (tied_at here.past rec.event) true old new here.past here.told so;
      tied = ap others here.tied;
      cut = ap others here.cut;
      on = λ well left.
          let paid = owed_back c rec old new here.past rest here.told so left in
          here.on (and_from (test_of c here.past rec rest) (each_from c (test_of c) (past_with c rec here.past) rest) paid.0 well) paid.1;
      back = λ well.
          let both = here.back well in
          let parts = and_parts (test_of c here.past rec rest) (each_from c (test_of c) (past_with c rec here.past) rest) both.0 in
          (parts.1, owes_on c rec old new here.past rest here.told so parts.0 both.1);
    }

-- ---- behind the last one

same_truth : (a b : Bool) → (a ≡ true → b ≡ true) → (b ≡ true → a ≡ true) → a ≡ b
same_truth true b on back = sym (on refl)
same_truth false true on back = back refl
same_truth false false on back = refl

pub trace_ends : (c : Description) (kept : Sharing) (trace : List Rec) (ties : List (Option Tied)) (cuts : List Bool) → HereSharing c kept trace [] ties cuts → is_paid_in kept ≡ each_record c (test_of c) trace
trace_ends c kept trace ties cuts here =
    let is = sharing_ends c kept here.past here.told in
    same_truth (is_paid_in kept) (each_record c (test_of c) trace) (λ paid. here.on refl (is.1 paid)) (λ well. is.0 (here.back well).1)
