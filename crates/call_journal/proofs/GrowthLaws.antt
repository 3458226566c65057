-- Journals, units and states of a trace that grows.
use Rattle.std.proofs.Common.{◌≡◌, Bool, true, false, cond, List, [], ◌∷◌, ◌++◌, Option, Some, None, refl, ap, sym, ◌∙◌, arith, append_assoc}
use Rattle.std.proofs.lemmas.List.{append-nil}
use Rattle.unix_calls.specs.declared.description.Description.{Description}
use Rattle.unix_calls.specs.declared.entry.Entry.{Entry}
use Rattle.unix_calls.specs.declared.event.Event.{Event}
use Rattle.unix_calls.specs.declared.event.Event.TheVariants as event
use Rattle.unix_calls.specs.declared.event.Rec.{Rec}
use Rattle.unix_calls.specs.State.{Unix}
use Rattle.unix_calls.specs.After.{state_from}
use Rattle.call_journal.specs.Journal.{entered, journal_of}
use Rattle.call_journal.specs.Past.{Past, folded_from, since_from, state_by, seen_at, seen_from, past_with, past_from, no_past}
use Rattle.call_journal.specs.Files.{mode_step, held_step, opens_step}
use Rattle.call_journal.specs.Formed.{issue_step}
use Rattle.call_journal.specs.Once.{progress_step}
use Rattle.call_journal.specs.Drops.{outdated_step, filled_step, stamp_step}
use Rattle.call_journal.specs.Sharing.{watch_step, called_step}
use Rattle.call_journal.specs.Laws.{UnitsNeverFall, JournalsGrow, PastsAreTold, LookBacksGrow}

pub units_never_fall : UnitsNeverFall
units_never_fall [] more = omega arith
units_never_fall (rec ∷ recs) more = let rest = units_never_fall recs more in omega (arith, rest)

pub journals_grow : JournalsGrow
journals_grow [] more = refl
journals_grow (rec ∷ recs) more =
    ap (λ es. entered rec.event ++ es) (journals_grow recs more) ∙ sym (append_assoc (entered rec.event) (journal_of recs) (journal_of more))

-- a state that isn't there stays so
pub state_from-none : (c : Description) (es : List Entry) → state_from c None es ≡ None
state_from-none c [] = refl
state_from-none c (e ∷ es) = refl

-- an event does to the state what the entries that it brings do
pub state_by-entered : (c : Description) (event : Event) (u : Option Unix) (es : List Entry) → state_from c (state_by c event u) es ≡ state_from c u (entered event ++ es)
state_by-entered c (event.Enter entry) None es = state_from-none c es
state_by-entered c (event.Enter entry) (Some u) es = refl
state_by-entered c _ u es = refl

pub unix_of-past : (c : Description) (past : Past) (trace : List Rec) → (past_from c past trace).unix ≡ state_from c past.unix (journal_of trace)
unix_of-past c past [] = refl
unix_of-past c past (rec ∷ rest) = unix_of-past c (past_with c rec past) rest ∙ state_by-entered c rec.event past.unix (journal_of rest)

pub records_of-past : (c : Description) (past : Past) (trace : List Rec) → (past_from c past trace).records ≡ past.records ++ trace
records_of-past c past [] = sym (append-nil past.records)
records_of-past c past (rec ∷ rest) = records_of-past c (past_with c rec past) rest ∙ append_assoc past.records (rec ∷ []) rest

pub seen_of-past : (c : Description) (past : Past) (trace : List Rec) → (past_from c past trace).seen ≡ past.seen ++ seen_from c past.unix trace
seen_of-past c past [] = sym (append-nil past.seen)
seen_of-past c past (rec ∷ rest) =
    let later = state_by c rec.event past.unix in
    seen_of-past c (past_with c rec past) rest ∙ append_assoc past.seen (seen_at past.unix rec later ∷ []) (seen_from c later rest)

pub pasts_are_told : PastsAreTold
pasts_are_told c trace = record {
  records = records_of-past c (no_past c) trace;
  unix = unix_of-past c (no_past c) trace;
  seen = seen_of-past c (no_past c) trace;
}

-- what a list of one item more leads to
folded_grows : {A : Type 0} {S : Type 0} (step : List A → A → S → S) (before : List A) (s : S) (xs : List A) (x : A) → folded_from step before s (xs ++ x ∷ []) ≡ step (before ++ xs) x (folded_from step before s xs)
folded_grows step before s [] x = ap (λ b. step b x s) (sym (append-nil before))
folded_grows step before s (y ∷ ys) x =
    folded_grows step (before ++ y ∷ []) (step before y s) ys x
    ∙ ap (λ b. step b x (folded_from step (before ++ y ∷ []) (step before y s) ys)) (append_assoc before (y ∷ []) ys)

-- the records since the last of a kind, of a list of one record more
since_by : (test : Rec → Bool) (b : Bool) (xs ys : List Rec) (r : Rec) (one : List Rec) (other : List Rec) → one ≡ cond (test r) [] (xs ++ r ∷ []) → other ≡ cond (test r) [] (ys ++ r ∷ []) → cond b one other ≡ cond (test r) [] (cond b xs ys ++ r ∷ [])
since_by test true xs ys r one other h k = h
since_by test false xs ys r one other h k = k

since_grows : (test : Rec → Bool) (kept rs : List Rec) (r : Rec) → since_from test kept (rs ++ r ∷ []) ≡ cond (test r) [] (since_from test kept rs ++ r ∷ [])
since_grows test kept [] r = refl
since_grows test kept (x ∷ xs) r =
    since_by test (test x) (since_from test [] xs) (since_from test (kept ++ x ∷ []) xs) r (since_from test [] (xs ++ r ∷ [])) (since_from test (kept ++ x ∷ []) (xs ++ r ∷ [])) (since_grows test [] xs r) (since_grows test (kept ++ x ∷ []) xs r)

pub look_backs_grow : LookBacksGrow
look_backs_grow = record {
  modes = λ kernel file rs r. folded_grows (mode_step kernel file) [] _ rs r;
  stamps = λ kernel file rs r. folded_grows (stamp_step kernel file) [] _ rs r;
  blocks = λ kernel rs r. folded_grows (held_step kernel) [] _ rs r;
  opens = λ file rs r. folded_grows (opens_step file) [] _ rs r;
  issues = λ pid rs r. folded_grows (issue_step pid) [] _ rs r;
  calls = λ pid rs r. folded_grows (progress_step pid) [] _ rs r;
  callbacks = λ file rs r. folded_grows (called_step file) [] _ rs r;
  fills = λ kernel file block rs r. folded_grows (filled_step kernel file block) [] _ rs r;
  versions = λ kernel file block ss s. folded_grows (outdated_step kernel file block) [] _ ss s;
  licences = λ file ss s. folded_grows (watch_step file) [] _ ss s;
  sinces = λ test rs r. since_grows test [] rs r;
}
