-- Steps of the files' side keep what the turns need.
use Rattle.std.proofs.Common.{ℕ, None, refl}
use Rattle.sprite_ids.specs.declared.TxNo.{TxNo}
use Rattle.packet_bodies.specs.declared.Request.{Request}
use Rattle.packet_bodies.specs.declared.Request.TheVariants as requests
use Rattle.kernel_steps.specs.declared.Input.{Input}
use Rattle.kernel_steps.specs.declared.Input.TheVariants as inputs
use Rattle.client_file_tables.specs.declared.client_files.ClientFiles.{ClientFiles}
use Rattle.client_file_tables.specs.Says.{about_of}
use Rattle.client_file_tables.specs.Steps.{begins, said}
use Rattle.client_files.specs.FileSteps.{files_step, takes, takes_request}
use Rattle.client_files.specs.Turns.{goes_on}
use Rattle.client_facts.specs.GoingOn.{GoesOn, MayCome, Rests}
use Rattle.client_facts.proofs.AnswerLaws.{goes_answered, goes_gives_up, steady_due_goes}
use Rattle.client_facts.proofs.IssueLaws.{runs_issues}
use Rattle.client_facts.proofs.SteadyLaws.{Steady, goes_runs, goes_steady, steady_called_back, steady_same, steady_self}
use Rattle.client_facts.proofs.TurnLaws.{going_on_keeps, turns_are_enough}

steady_request : (body : Request) (tx : TxNo) (s : ClientFiles) → Steady s (takes_request tx body s)
steady_request (requests.Callback request) tx s = steady_called_back tx request s
steady_request body tx s = steady_self s

-- whatever comes
pub goes_takes : (input : Input) (s : ClientFiles) → MayCome input s → GoesOn s → GoesOn (takes input s)
goes_takes (inputs.Issued pid number call) s may g = goes_runs pid s _ (runs_issues call (about_of pid number) call None s) may g
goes_takes (inputs.Request tx source body) s may g = goes_steady s _ (steady_request body tx s) g
goes_takes (inputs.Replied tx source body) s may g = goes_answered tx source body s g
goes_takes (inputs.GaveUp tx) s may g = goes_gives_up tx s g
goes_takes (inputs.Due file block) s may g = goes_steady s _ (steady_due_goes file block s) g
goes_takes (inputs.PageNeeded pid page) s may g = g

may_begin : (input : Input) (s : ClientFiles) (next : TxNo) (step : ℕ) → MayCome input s → MayCome input (begins next step s)
may_begin (inputs.Issued pid number call) s next step may = may
may_begin (inputs.Request tx source body) s next step may = may
may_begin (inputs.Replied tx source body) s next step may = may
may_begin (inputs.GaveUp tx) s next step may = may
may_begin (inputs.Due file block) s next step may = may
may_begin (inputs.PageNeeded pid page) s next step may = may

pub step_keeps_rest : (s : ClientFiles) (input : Input) (next : TxNo) (step : ℕ) → MayCome input s → Rests s → Rests (files_step s input next step).0
step_keeps_rest s input next step may rests =
    let begun : ClientFiles = begins next step s in
    let come : ClientFiles = takes input begun in
    let goes : GoesOn come = goes_takes input begun (may_begin input s next step may) (goes_steady s begun (steady_same s begun refl refl refl) rests.goes) in
    let gone : ClientFiles = goes_on come in
    record { goes = goes_steady gone (said gone) (steady_same gone (said gone) refl refl refl) (going_on_keeps come goes); ready = turns_are_enough come goes.may }
