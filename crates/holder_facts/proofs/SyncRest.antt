-- That no sync looks between two steps, and steps of the files' side by itself, which keep it.
use Rattle.std.proofs.Common.{◌≡◌, inl, inr, ℕ, Bool, true, ◌&&◌, List, [], ◌∷◌, Option, Some, None, option_map, refl, ap, ◌∙◌, subst}
use Rattle.std.proofs.lemmas.Bool.{and_parts}
use Rattle.std.specs.List.{list_all}
use Rattle.sprite_ids.specs.declared.TxNo.{TxNo}
use Rattle.process_machine.specs.Machine.{Machine}
use Rattle.packet_bodies.specs.declared.Request.{Request}
use Rattle.packet_bodies.specs.declared.Request.TheVariants as requests
use Rattle.kernel_steps.specs.declared.Input.{Input}
use Rattle.kernel_steps.specs.declared.Input.TheVariants as inputs
use Rattle.client_file_tables.specs.declared.client_files.ClientFiles.{ClientFiles}
use Rattle.client_file_tables.specs.declared.pending.Pending.{Pending}
use Rattle.client_file_tables.specs.Says.{about_of}
use Rattle.client_file_tables.specs.Steps as tables
use Rattle.client_files.specs.FileSteps.{files_step, takes, takes_request}
use Rattle.client_files.specs.Turns as turning
use Rattle.client_homes.specs.declared.client.ClientProcs.{ClientProcs}
use Rattle.client_homes.specs.declared.process.Proc.{Proc}
use Rattle.client_homes.specs.Procs as procs_of
use Rattle.client_homes.specs.Procs.{proc_at}
use Rattle.client_procs.specs.Boot.{boots}
use Rattle.client_procs.specs.Readers.{with_image}
use Rattle.unix_calls.specs.declared.Description.{Description}
use Rattle.client_facts.specs.GoingOn.{GoesOn, MayCome, Rests}
use Rattle.client_facts.proofs.StepLaws.{goes_takes}
use Rattle.client_facts.proofs.SteadyLaws.{goes_steady, steady_same}
use Rattle.client_facts.proofs.TurnLaws.{turns_are_enough}
use Rattle.file_walks.proofs.CallWalks as call_walks
use Rattle.file_walks.proofs.Muted as muted
use Rattle.lock_facts.proofs.RestFacts.{comes_begun}
use Rattle.pending_laws.specs.Waits.{never_looks, row_never_looks}
use Rattle.holder_facts.specs.SyncFacts.{KeepsSyncFacts}
use Rattle.holder_facts.proofs.SyncAnswers.{answered, call_runs, due_goes, given_up}
use Rattle.holder_facts.proofs.SyncRuns.{AllSit, Holds, Sits, going_on_keeps, mute}

-- Between two steps

all_sit : (rows : List (ℕ × Pending)) (ready : List ℕ) → list_all row_never_looks rows ≡ true → AllSit rows ready
all_sit [] ready e = tt
all_sit (row ∷ rows) ready e = let parts = and_parts (row_never_looks row) (list_all row_never_looks rows) e in (inl parts.0, all_sit rows ready parts.1)

-- at first
pub begun : (next : TxNo) (step : ℕ) (s : ClientFiles) → KeepsSyncFacts s → Holds (tables.begins next step s)
begun next step s facts = all_sit s.pending s.ready facts.wait

never_by : (row : ℕ × Pending) → Sits [] row → never_looks row.1 ≡ true
never_by row (inl e) = e
never_by row (inr e) = absurd (cc)

all_never : (rows : List (ℕ × Pending)) → AllSit rows [] → list_all row_never_looks rows ≡ true
all_never [] all = refl
all_never (row ∷ rows) all = ap (λ (b : Bool). b && list_all row_never_looks rows) (never_by row all.0) ∙ all_never rows all.1

-- and at last, where nobody is woken
pub ended : (s : ClientFiles) → s.ready ≡ [] → Holds s → KeepsSyncFacts (tables.said s)
ended s quiet p = record { wait = all_never s.pending (subst (λ (ready : List ℕ). AllSit s.pending ready) quiet p); rests = quiet }

-- Steps of the files' side

requested : (body : Request) (tx : TxNo) (s : ClientFiles) → Holds s → Holds (takes_request tx body s)
requested (requests.Callback request) tx s p = muted.called_back Holds mute tx request s p
requested body tx s p = p

taken : (input : Input) (s : ClientFiles) → Holds s → Holds (takes input s)
taken (inputs.Issued pid number call) s p = call_walks.issues (λ (other : ℕ). Holds) Holds call_runs (about_of pid number) call None s p
taken (inputs.Request tx source body) s p = requested body tx s p
taken (inputs.Replied tx source body) s p = answered s tx source body p
taken (inputs.GaveUp tx) s p = given_up s tx p
taken (inputs.Due file block) s p = due_goes file block s p
taken (inputs.PageNeeded pid page) s p = p

pub file_step_keeps_sync_facts : (s : ClientFiles) (input : Input) (next : TxNo) (step : ℕ) → MayCome input s → Rests s → KeepsSyncFacts s → KeepsSyncFacts (files_step s input next step).0
file_step_keeps_sync_facts s input next step may rests facts =
    let first : ClientFiles = tables.begins next step s in
    let come : ClientFiles = takes input first in
    let goes : GoesOn come = goes_takes input first (comes_begun input s next step may) (goes_steady s first (steady_same s first refl refl refl) rests.goes) in
    ended (turning.goes_on come) (turns_are_enough come goes.may) (going_on_keeps come goes.may.one_each (taken input first (begun next step s facts)))

-- Beginning, and images

pub begins_with_sync_facts : (c : Description) (kernel : ℕ) → KeepsSyncFacts (boots c kernel).files
begins_with_sync_facts c kernel = record { wait = refl; rests = refl }

image_by : (o : Option Proc) (s : ClientProcs) (pid : ℕ) (image : Machine) → KeepsSyncFacts s.files → KeepsSyncFacts (procs_of.with_proc pid (option_map {T = Proc} (λ proc. record proc { image = image }) o) s).files
image_by None s pid image facts = facts
image_by (Some proc) s pid image facts = facts

pub image_keeps_sync_facts : (s : ClientProcs) (pid : ℕ) (image : Machine) → KeepsSyncFacts s.files → KeepsSyncFacts (with_image pid image s).files
image_keeps_sync_facts s pid image facts = image_by (proc_at pid s) s pid image facts
