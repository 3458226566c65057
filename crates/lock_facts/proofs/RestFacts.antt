-- The facts of locks and turns between two steps, and steps of the files' side by itself, which keep them.
use Rattle.std.proofs.Common.{◌≡◌, ℕ, Bool, true, false, ◌&&◌, ◌||◌, not, List, [], ◌∷◌, Option, Some, None, option_map, refl, ap, ◌∙◌, subst}
use Rattle.std.proofs.lemmas.Bool.{and_parts, eq-eqb, eqb-true}
use Rattle.std.specs.List.{AllByRecursion, list_all}
use Rattle.sprite_ids.specs.declared.StreamNo.{StreamNo}
use Rattle.sprite_ids.specs.declared.TxNo.{TxNo}
use Rattle.process_machine.specs.Machine.{Machine}
use Rattle.packet_bodies.specs.declared.Request.{Request}
use Rattle.packet_bodies.specs.declared.Request.TheVariants as requests
use Rattle.kernel_steps.specs.declared.Input.{Input}
use Rattle.kernel_steps.specs.declared.Input.TheVariants as inputs
use Rattle.stream_table.specs.Entries.{has_lock, holder_of}
use Rattle.client_file_tables.specs.declared.client_files.ClientFiles.{ClientFiles}
use Rattle.client_file_tables.specs.declared.pending.Pending.{Pending}
use Rattle.client_file_tables.specs.Says.{about_of}
use Rattle.client_file_tables.specs.Steps as tables
use Rattle.client_files.specs.FileSteps.{files_step, takes, takes_request}
use Rattle.client_files.specs.Turns as turning
use Rattle.client_homes.specs.declared.client.ClientProcs.{ClientProcs}
use Rattle.client_homes.specs.declared.process.Proc.{Proc}
use Rattle.client_homes.specs.Procs as procs_of
use Rattle.client_homes.specs.Procs.{proc_at}
use Rattle.client_procs.specs.Boot.{boots}
use Rattle.client_procs.specs.Readers.{with_image}
use Rattle.unix_calls.specs.declared.Description.{Description}
use Rattle.client_facts.specs.FileFacts.{OneOperationEach, QueuesAreOnce, has_a_turn, has_its_lock, held_lock, holds_lock, is_filler, is_holder, is_kept_out}
use Rattle.client_facts.specs.GoingOn.{GoesOn, MayCome, Rests}
use Rattle.client_facts.proofs.StepLaws.{goes_takes}
use Rattle.client_facts.proofs.SteadyLaws.{goes_steady, steady_same}
use Rattle.file_walks.proofs.CallWalks as call_walks
use Rattle.file_walks.proofs.Muted as muted
use Rattle.lock_facts.specs.LockFacts.{KeepsLockFacts}
use Rattle.lock_facts.proofs.AnswerFacts.{answered, call_runs, due_goes, given_up}
use Rattle.lock_facts.proofs.Boards.{Fine, Holds, IsKeptOut, Sound, has_turn}
use Rattle.lock_facts.proofs.RunFacts.{going_on_keeps, mute}

-- Between two steps

all_as : {X : Type 0} (p : X → Bool) (P : X → Type 0) (xs : List X) → ((x : X) → p x ≡ true → P x) → list_all p xs ≡ true → AllByRecursion P xs
all_as p P [] goes e = tt
all_as p P (x ∷ xs) goes e = let parts = and_parts (p x) (list_all p xs) e in (goes x parts.0, all_as p P xs goes parts.1)

as_all : {X : Type 0} (p : X → Bool) (P : X → Type 0) (xs : List X) → ((x : X) → P x → p x ≡ true) → AllByRecursion P xs → list_all p xs ≡ true
as_all p P [] goes all = refl
as_all p P (x ∷ xs) goes all = ap (λ b. b && list_all p xs) (goes x all.0) ∙ as_all p P xs goes all.1

held_by : (o : Option ℕ) (pid : ℕ) → is_holder pid o ≡ true → o ≡ Some pid
held_by (Some holder) pid e = ap Some (eqb-true holder pid e)
held_by None pid e = absurd (cc)

holder_is : (o : Option ℕ) (pid : ℕ) → o ≡ Some pid → is_holder pid o ≡ true
holder_is o pid e = ap (is_holder pid) e ∙ eq-eqb pid pid refl

holds_by : (s : ClientFiles) (pid : ℕ) (o : Option StreamNo) → ((stream : StreamNo) → o ≡ Some stream → holder_of s.streams.entries stream ≡ Some pid) → holds_lock pid o s ≡ true
holds_by s pid (Some stream) lock = holder_is (holder_of s.streams.entries stream) pid (lock stream refl)
holds_by s pid None lock = refl

turn_of : (b c : Bool) → (not b || c) ≡ true → b ≡ true → c ≡ true
turn_of true c e f = e
turn_of false c e f = absurd (cc)

of_turn : (b c : Bool) → (b ≡ true → c ≡ true) → (not b || c) ≡ true
of_turn true c e = e refl
of_turn false c e = refl

both_all : (s : ClientFiles) (rows : List (ℕ × Pending)) → list_all (has_its_lock s) rows ≡ true → list_all (has_a_turn s) rows ≡ true → AllByRecursion (Fine s.streams.entries s.fillers) rows
both_all s [] e f = tt
both_all s (row ∷ rows) e f =
    let lock = and_parts (has_its_lock s row) (list_all (has_its_lock s) rows) e in
    let turn = and_parts (has_a_turn s row) (list_all (has_a_turn s) rows) f in (
      record {
        lock = λ stream h. held_by (holder_of s.streams.entries stream) row.0 (subst (λ (o : Option StreamNo). holds_lock row.0 o s ≡ true) h lock.0);
        turn = λ h. turn_of (is_filler row.1) (has_turn row.0 s.fillers) turn.0 h;
      },
      both_all s rows lock.1 turn.1,
    )

kept_out : (b : Bool) → not b ≡ true → b ≡ false
kept_out true e = absurd (cc)
kept_out false e = refl

out_kept : (b : Bool) → b ≡ false → not b ≡ true
out_kept true e = absurd (cc)
out_kept false e = refl

-- at first
pub begun : (next : TxNo) (step : ℕ) (s : ClientFiles) → QueuesAreOnce s → KeepsLockFacts s → Holds (tables.begins next step s)
begun next step s once facts = record {
  rows = both_all s s.pending facts.held facts.turns;
  once = once;
  out = all_as (is_kept_out s) (IsKeptOut s.streams.entries) s.lock_waits (λ row e. kept_out (has_lock row.1 (holder_of s.streams.entries row.0)) e) facts.kept_out;
}

-- and at last
pub ended : (s : ClientFiles) → Holds s → KeepsLockFacts (tables.said s)
ended s p = record {
  held = as_all (has_its_lock (tables.said s)) (Fine s.streams.entries s.fillers) s.pending (λ row fine. holds_by (tables.said s) row.0 (held_lock row.1) fine.lock) p.rows;
  kept_out = as_all (is_kept_out (tables.said s)) (IsKeptOut s.streams.entries) s.lock_waits (λ row e. out_kept (has_lock row.1 (holder_of s.streams.entries row.0)) e) p.out;
  turns = as_all (has_a_turn (tables.said s)) (Fine s.streams.entries s.fillers) s.pending (λ row fine. of_turn (is_filler row.1) (has_turn row.0 s.fillers) fine.turn) p.rows;
}

-- Steps of the files' side

requested : (body : Request) (tx : TxNo) (s : ClientFiles) → Holds s → Holds (takes_request tx body s)
requested (requests.Callback request) tx s p = muted.called_back Holds (mute Sound) tx request s p
requested body tx s p = p

taken : (input : Input) (s : ClientFiles) → OneOperationEach s → Holds s → Holds (takes input s)
taken (inputs.Issued pid number call) s once p = call_walks.issues (λ (other : ℕ). Holds) Holds call_runs (about_of pid number) call None s p
taken (inputs.Request tx source body) s once p = requested body tx s p
taken (inputs.Replied tx source body) s once p = answered s tx source body once p
taken (inputs.GaveUp tx) s once p = given_up s tx once p
taken (inputs.Due file block) s once p = due_goes file block s p
taken (inputs.PageNeeded pid page) s once p = p

-- what comes is the same behind a step's beginning
pub comes_begun : (input : Input) (s : ClientFiles) (next : TxNo) (step : ℕ) → MayCome input s → MayCome input (tables.begins next step s)
comes_begun (inputs.Issued pid number call) s next step comes = comes
comes_begun (inputs.Request tx source body) s next step comes = comes
comes_begun (inputs.Replied tx source body) s next step comes = comes
comes_begun (inputs.GaveUp tx) s next step comes = comes
comes_begun (inputs.Due file block) s next step comes = comes
comes_begun (inputs.PageNeeded pid page) s next step comes = comes

pub file_step_keeps_lock_facts : (s : ClientFiles) (input : Input) (next : TxNo) (step : ℕ) → MayCome input s → Rests s → KeepsLockFacts s → KeepsLockFacts (files_step s input next step).0
file_step_keeps_lock_facts s input next step may rests facts =
    let first : ClientFiles = tables.begins next step s in
    let come : ClientFiles = takes input first in
    let goes : GoesOn come = goes_takes input first (comes_begun input s next step may) (goes_steady s first (steady_same s first refl refl refl) rests.goes) in
    let so : Holds come = taken input first rests.goes.may.one_each (begun next step s rests.goes.queues facts) in
    ended (turning.goes_on come) (going_on_keeps come goes.may.one_each so)

-- Beginning, and images

pub begins_with_lock_facts : (c : Description) (kernel : ℕ) → KeepsLockFacts (boots c kernel).files
begins_with_lock_facts c kernel = record { held = refl; kept_out = refl; turns = refl }

image_by : (o : Option Proc) (s : ClientProcs) (pid : ℕ) (image : Machine) → KeepsLockFacts s.files → KeepsLockFacts (procs_of.with_proc pid (option_map {T = Proc} (λ proc. record proc { image = image }) o) s).files
image_by None s pid image facts = facts
image_by (Some proc) s pid image facts = facts

pub image_keeps_lock_facts : (s : ClientProcs) (pid : ℕ) (image : Machine) → KeepsLockFacts s.files → KeepsLockFacts (with_image pid image s).files
image_keeps_lock_facts s pid image facts = image_by (proc_at pid s) s pid image facts
