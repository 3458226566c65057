-- The facts of remote calls between two steps, and steps of the files' side by itself, which keep them.
use Rattle.std.proofs.Common.{◌≡◌, ◌⊎◌, inl, inr, ℕ, ◌≤◌, Bool, true, false, ◌&&◌, List, [], ◌∷◌, Option, Some, None, option_map, refl, ap, ◌∙◌, subst}
use Rattle.std.proofs.lemmas.Bool.{and_parts}
use Rattle.std.specs.List.{AllByRecursion, list_all}
use Rattle.sprite_ids.specs.declared.TxNo.{TxNo}
use Rattle.process_machine.specs.Machine.{Machine}
use Rattle.packet_bodies.specs.declared.Request.{Request}
use Rattle.packet_bodies.specs.declared.Request.TheVariants as requests
use Rattle.kernel_steps.specs.declared.Input.{Input}
use Rattle.kernel_steps.specs.declared.Input.TheVariants as inputs
use Rattle.client_file_tables.specs.declared.client_files.ClientFiles.{ClientFiles}
use Rattle.client_file_tables.specs.declared.pending.Pending.{Pending}
use Rattle.client_file_tables.specs.Says.{about_of}
use Rattle.client_file_tables.specs.Steps as tables
use Rattle.client_files.specs.FileSteps.{files_step, takes, takes_request}
use Rattle.client_files.specs.Turns as turning
use Rattle.client_homes.specs.declared.client.ClientProcs.{ClientProcs}
use Rattle.client_homes.specs.declared.process.Proc.{Proc}
use Rattle.client_homes.specs.Procs as procs_of
use Rattle.client_homes.specs.Procs.{proc_at}
use Rattle.client_procs.specs.Boot.{boots}
use Rattle.client_procs.specs.Readers.{with_image}
use Rattle.unix_calls.specs.declared.Description.{Description}
use Rattle.client_facts.specs.FileFacts.{OneOperationEach, has_its_call, has_its_write_back, is_kept_call, is_out_call, own_call, waited_write_back}
use Rattle.client_facts.specs.GoingOn.{GoesOn, MayCome, Rests}
use Rattle.client_facts.proofs.StepLaws.{goes_takes}
use Rattle.client_facts.proofs.SteadyLaws.{goes_steady, steady_same}
use Rattle.client_facts.proofs.TurnLaws.{turns_are_enough}
use Rattle.file_walks.specs.Fits.{FitsItsCall}
use Rattle.file_walks.proofs.CallWalks as call_walks
use Rattle.file_walks.proofs.Muted as muted
use Rattle.file_facts.specs.CallFacts.{IsNoWriteBack, KeepsCallFacts}
use Rattle.file_facts.proofs.Books.{Fine, Holds, book_of, has_call, is_back}
use Rattle.file_facts.proofs.BookLaws.{below_more}
use Rattle.file_facts.proofs.AnswerFacts.{answered, due_goes, given_up}
use Rattle.file_facts.proofs.CallRuns.{call_runs}
use Rattle.file_facts.proofs.RunFacts.{going_on_keeps, mute}

-- Between two steps

all_of : {X : Type 0} (p : X → Bool) (xs : List X) → list_all p xs ≡ true → AllByRecursion (λ x. p x ≡ true) xs
all_of p [] e = tt
all_of p (x ∷ xs) e = let parts = and_parts (p x) (list_all p xs) e in (parts.0, all_of p xs parts.1)

of_all : {X : Type 0} (p : X → Bool) (xs : List X) → AllByRecursion (λ x. p x ≡ true) xs → list_all p xs ≡ true
of_all p [] h = refl
of_all p (x ∷ xs) h = ap (λ b. b && list_all p xs) h.0 ∙ of_all p xs h.1

fine_row : (next : TxNo) (s : ClientFiles) (row : ℕ × Pending) → has_its_call s row ≡ true → has_its_write_back s row ≡ true → IsNoWriteBack s.write_backs row → Fine (record (book_of s) { next = next }) row
fine_row next s row kept out apart = record {
  kept = λ tx e. subst (λ (o : Option TxNo). is_kept_call row.0 o s ≡ true) e kept;
  out = λ tx e. inl (subst (λ (o : Option TxNo). is_out_call o s ≡ true) e out);
  apart = apart;
}

fine_rows : (next : TxNo) (s : ClientFiles) (rows : List (ℕ × Pending)) → AllByRecursion (λ (row : ℕ × Pending). has_its_call s row ≡ true) rows → AllByRecursion (λ (row : ℕ × Pending). has_its_write_back s row ≡ true) rows → AllByRecursion (IsNoWriteBack s.write_backs) rows → AllByRecursion (Fine (record (book_of s) { next = next })) rows
fine_rows next s [] kept out apart = tt
fine_rows next s (row ∷ rows) kept out apart = (fine_row next s row kept.0 out.0 apart.0, fine_rows next s rows kept.1 out.1 apart.1)

-- at first
pub begun : (next : TxNo) (step : ℕ) (s : ClientFiles) → KeepsCallFacts next s → Holds (tables.begins next step s)
begun next step s facts = record {
  rows = fine_rows next s s.pending (all_of (has_its_call s) s.pending facts.kept) (all_of (has_its_write_back s) s.pending facts.out) facts.apart;
  own_once = facts.once.own;
  back_once = facts.once.back;
  own_below = facts.own_below;
  back_below = facts.back_below;
}

kept_by : (s : ClientFiles) (pid : ℕ) (o : Option TxNo) → ((tx : TxNo) → o ≡ Some tx → has_call tx pid s.txs ≡ true) → is_kept_call pid o s ≡ true
kept_by s pid (Some tx) kept = kept tx refl
kept_by s pid None kept = refl

out_by : (s : ClientFiles) (pid : ℕ) (tx : TxNo) → (is_back tx s.write_backs ≡ true) ⊎ (false ≡ true) → is_back tx s.write_backs ≡ true
out_by s pid tx (inl out) = out
out_by s pid tx (inr never) = absurd (cc)

waited_by : (s : ClientFiles) (o : Option TxNo) → ((tx : TxNo) → o ≡ Some tx → is_back tx s.write_backs ≡ true) → is_out_call o s ≡ true
waited_by s (Some tx) out = out tx refl
waited_by s None out = refl

-- and at last, where nobody is woken
ended_row : (s : ClientFiles) (row : ℕ × Pending) → Fine (record (book_of s) { ready = [] }) row → (has_its_call (tables.said s) row ≡ true) × ((has_its_write_back (tables.said s) row ≡ true) × IsNoWriteBack s.write_backs row)
ended_row s row fine = (kept_by (tables.said s) row.0 (own_call row.1) fine.kept, (waited_by (tables.said s) (waited_write_back row.1) (λ tx e. out_by s row.0 tx (fine.out tx e)), fine.apart))

record Ended (s : ClientFiles) (rows : List (ℕ × Pending)) : Type 0 where
  kept : AllByRecursion (λ (row : ℕ × Pending). has_its_call (tables.said s) row ≡ true) rows
  out : AllByRecursion (λ (row : ℕ × Pending). has_its_write_back (tables.said s) row ≡ true) rows
  apart : AllByRecursion (IsNoWriteBack s.write_backs) rows

ended_rows : (s : ClientFiles) (rows : List (ℕ × Pending)) → AllByRecursion (Fine (record (book_of s) { ready = [] })) rows → Ended s rows
ended_rows s [] all = record { kept = tt; out = tt; apart = tt }
ended_rows s (row ∷ rows) all =
    let first = ended_row s row all.0 in
    let rest = ended_rows s rows all.1 in
    record { kept = (first.0, rest.kept); out = (first.1.0, rest.out); apart = (first.1.1, rest.apart) }

pub ended : (s : ClientFiles) → s.ready ≡ [] → Holds s → KeepsCallFacts s.out.next (tables.said s)
ended s quiet p =
    let rows = ended_rows s s.pending (subst (λ (ready : List ℕ). AllByRecursion (Fine (record (book_of s) { ready = ready })) s.pending) quiet p.rows) in
    record {
      kept = of_all (has_its_call (tables.said s)) s.pending rows.kept;
      out = of_all (has_its_write_back (tables.said s)) s.pending rows.out;
      once = record { own = p.own_once; back = p.back_once };
      own_below = p.own_below;
      back_below = p.back_below;
      apart = rows.apart;
      rests = quiet;
    }

pub growing_keeps_call_facts : (s : ClientFiles) (next later : TxNo) → next.0 ≤ later.0 → KeepsCallFacts next s → KeepsCallFacts later s
growing_keeps_call_facts s next later less facts = record {
  kept = facts.kept;
  out = facts.out;
  once = facts.once;
  own_below = below_more next later s.txs less facts.own_below;
  back_below = below_more next later s.write_backs less facts.back_below;
  apart = facts.apart;
  rests = facts.rests;
}

-- Steps of the files' side

requested : (body : Request) (tx : TxNo) (s : ClientFiles) → Holds s → Holds (takes_request tx body s)
requested (requests.Callback request) tx s p = muted.called_back Holds mute tx request s p
requested body tx s p = p

taken : (input : Input) (s : ClientFiles) → s.ready ≡ [] → FitsItsCall input s → OneOperationEach s → Holds s → Holds (takes input s)
taken (inputs.Issued pid number call) s quiet fits once p = call_walks.issues (λ (other : ℕ). Holds) Holds call_runs (about_of pid number) call None s p
taken (inputs.Request tx source body) s quiet fits once p = requested body tx s p
taken (inputs.Replied tx source body) s quiet fits once p = answered s tx source body quiet fits once p
taken (inputs.GaveUp tx) s quiet fits once p = given_up s tx fits once p
taken (inputs.Due file block) s quiet fits once p = due_goes file block s p
taken (inputs.PageNeeded pid page) s quiet fits once p = p

-- what comes is the same behind a step's beginning
comes_begun : (input : Input) (s : ClientFiles) (next : TxNo) (step : ℕ) → MayCome input s × FitsItsCall input s → MayCome input (tables.begins next step s) × FitsItsCall input (tables.begins next step s)
comes_begun (inputs.Issued pid number call) s next step comes = comes
comes_begun (inputs.Request tx source body) s next step comes = comes
comes_begun (inputs.Replied tx source body) s next step comes = comes
comes_begun (inputs.GaveUp tx) s next step comes = comes
comes_begun (inputs.Due file block) s next step comes = comes
comes_begun (inputs.PageNeeded pid page) s next step comes = comes

pub file_step_keeps_call_facts : (s : ClientFiles) (input : Input) (next : TxNo) (step : ℕ) → MayCome input s → Rests s → FitsItsCall input s → KeepsCallFacts next s → KeepsCallFacts (files_step s input next step).1.next (files_step s input next step).0
file_step_keeps_call_facts s input next step may rests fits facts =
    let first : ClientFiles = tables.begins next step s in
    let come : ClientFiles = takes input first in
    let both = comes_begun input s next step (may, fits) in
    let goes : GoesOn come = goes_takes input first both.0 (goes_steady s first (steady_same s first refl refl refl) rests.goes) in
    let so : Holds come = taken input first facts.rests both.1 rests.goes.may.one_each (begun next step s facts) in
    ended (turning.goes_on come) (turns_are_enough come goes.may) (going_on_keeps come goes.may.one_each so)

-- Beginning, and images

pub begins_with_call_facts : (c : Description) (kernel : ℕ) (next : TxNo) → KeepsCallFacts next (boots c kernel).files
begins_with_call_facts c kernel next = record { kept = refl; out = refl; once = record { own = tt; back = tt }; own_below = tt; back_below = tt; apart = tt; rests = refl }

image_by : (o : Option Proc) (s : ClientProcs) (pid : ℕ) (image : Machine) (next : TxNo) → KeepsCallFacts next s.files → KeepsCallFacts next (procs_of.with_proc pid (option_map {T = Proc} (λ proc. record proc { image = image }) o) s).files
image_by None s pid image next facts = facts
image_by (Some proc) s pid image next facts = facts

pub image_keeps_call_facts : (s : ClientProcs) (pid : ℕ) (image : Machine) (next : TxNo) → KeepsCallFacts next s.files → KeepsCallFacts next (with_image pid image s).files
image_keeps_call_facts s pid image next facts = image_by (proc_at pid s) s pid image next facts
