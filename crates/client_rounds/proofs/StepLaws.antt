-- Steps in which something comes to the files' side.
use Rattle.std.proofs.Common.{arith, ◌≡◌, ℕ, ◌≤◌, Bool, true, false, cond, [], Option, Some, None, refl, ap}
use Rattle.sprite_ids.specs.Lists.{total}
use Rattle.sprite_ids.specs.declared.BlockNo.{BlockNo}
use Rattle.sprite_ids.specs.declared.FileId.{FileId}
use Rattle.sprite_ids.specs.declared.TxNo.{TxNo}
use Rattle.packet_bodies.specs.declared.CallbackRequest.{CallbackRequest}
use Rattle.packet_bodies.specs.declared.ReplyBody.{ReplyBody}
use Rattle.packet_bodies.specs.declared.Request.{Request}
use Rattle.packet_bodies.specs.declared.Request.TheVariants as requests
use Rattle.kernel_steps.specs.declared.Input.{Input}
use Rattle.kernel_steps.specs.declared.Input.TheVariants as inputs
use Rattle.kernel_steps.specs.declared.Out.{Out}
use Rattle.kernel_steps.specs.Outs.{started}
use Rattle.block_cache.specs.Blocks.{dirty_at}
use Rattle.client_file_tables.specs.declared.client_files.ClientFiles.{ClientFiles}
use Rattle.client_file_tables.specs.Steps.{owns}
use Rattle.client_data.specs.Grants as grants
use Rattle.client_data.specs.WriteBacks as written
use Rattle.client_names.specs.Answers as name_answers
use Rattle.client_files.specs.Answered as answering
use Rattle.client_homes.specs.declared.client.ClientProcs.{ClientProcs}
use Rattle.client_procs.specs.Answered.{hears_own, serves}
use Rattle.client_procs.specs.Steps as stepping
use Rattle.client_procs.specs.Turning as turning
use Rattle.client_facts.specs.GoingOn.{GoesOn}
use Rattle.client_facts.proofs.AnswerLaws.{goes_answered, goes_gives_up, steady_due_goes}
use Rattle.client_facts.proofs.SteadyLaws.{goes_steady, steady_called_back}
use Rattle.client_rounds.specs.Rounds.{ComesToFiles, IsCallback, MayTurn, due_to, here, leaves, moves_of, of_process}
use Rattle.client_rounds.proofs.EnoughLaws.{may_goes_on, rounds_are_enough, rounds_keep_this}
use Rattle.file_walks.proofs.Muted as muted
use Rattle.client_rounds.proofs.OpLaws as running
use Rattle.client_rounds.proofs.HearLaws.{all_within, answer_brings_no_more, end_brings_no_more}
use Rattle.client_rounds.proofs.Ledgers.{Ledger, ledger_of}
use Rattle.client_rounds.proofs.RunLaws.{Held, answers_in, due_in, moves_in}

-- What says nothing to the processes' side and leaves the operations as they are

module _ (Q : Ledger → Type 0) where
  pub called_back : (tx : TxNo) (r : CallbackRequest) (s : ClientFiles) → Q (ledger_of s) → Q (ledger_of (grants.called_back tx r s))
  called_back tx r s p = muted.called_back (running.P Q) (running.mute Q) tx r s p

  due_by : (o : Option ℕ) (file : FileId) (block : BlockNo) (s : ClientFiles) → Q (ledger_of s) → Q (ledger_of (written.due_by o file block s))
  due_by (Some number) file block s p = p
  due_by None file block s p = p

  pub due_goes : (file : FileId) (block : BlockNo) (s : ClientFiles) → Q (ledger_of s) → Q (ledger_of (written.due_goes file block s))
  due_goes file block s p = due_by (dirty_at s.cache.blocks file block.0) file block s p

-- where the files' side brings no more
abbrev BringsNoMore : ClientFiles → ClientFiles → Type 0
BringsNoMore s t = (q : ℕ) → Held q (due_in q (ledger_of s)) (moves_in q (ledger_of s)) (answers_in (ledger_of s)) 0 0 0 (ledger_of t)

with_files : (t : ClientFiles) (s : ClientProcs) → GoesOn t → BringsNoMore s.files t → MayTurn s → MayTurn (record s { files = t })
with_files t s goes less may = record {
  due = λ q. (let so : due_to q s ≤ here q s = may.due q in let fewer = (less q).due in omega arith);
  moves = λ q. (let so : moves_of q s ≤ leaves q s = may.moves q in let fewer = (less q).moves in omega arith);
  apart = may.apart;
  ways = may.ways;
  turns = goes.may.turns;
  queues = goes.queues;
  short = goes.may.short;
}

served : (body : Request) (tx : TxNo) (s : ClientProcs) → IsCallback body → MayTurn s → MayTurn (serves tx body s)
served (requests.Callback request) tx s is may =
    with_files (grants.called_back tx request s.files) s (goes_steady s.files _ (steady_called_back tx request s.files) (may_goes_on s may)) (λ q. called_back (Held q (due_in q (ledger_of s.files)) (moves_in q (ledger_of s.files)) (answers_in (ledger_of s.files)) 0 0 0) tx request s.files (all_within q s.files)) may
served body tx s is may = absurd is

heard : (b : Bool) (tx : TxNo) (source : ℕ) (body : ReplyBody) (s : ClientProcs) → b ≡ true → MayTurn s → MayTurn (cond b (record s { files = answering.answered tx source body s.files }) (hears_own tx body s))
heard true tx source body s e may = with_files (answering.answered tx source body s.files) s (goes_answered tx source body s.files (may_goes_on s may)) (λ q. answer_brings_no_more q tx source body s.files) may
heard false tx source body s e may = absurd (cc)

taken : (input : Input) (s : ClientProcs) → ComesToFiles input s → MayTurn s → MayTurn (stepping.takes input s)
taken (inputs.Issued pid number call) s comes may = absurd comes
taken (inputs.Request tx source body) s comes may = served body tx s comes may
taken (inputs.Replied tx source body) s comes may = heard (owns tx s.files) tx source body s comes may
taken (inputs.GaveUp tx) s comes may = with_files (name_answers.gives_up tx s.files) s (goes_gives_up tx s.files (may_goes_on s may)) (λ q. end_brings_no_more q tx s.files) may
taken (inputs.Due file block) s comes may =
    with_files (written.due_goes file block s.files) s (goes_steady s.files _ (steady_due_goes file block s.files) (may_goes_on s may)) (λ q. due_goes (Held q (due_in q (ledger_of s.files)) (moves_in q (ledger_of s.files)) (answers_in (ledger_of s.files)) 0 0 0) file block s.files (all_within q s.files)) may
taken (inputs.PageNeeded pid page) s comes may = absurd comes

-- a step begins or ends: nothing is said so far
quiet_said : (s : ClientProcs) (out : Out) (step : ℕ) → out.replies ≡ [] → MayTurn s → MayTurn (record s { files = record s.files { out = out; step = step } })
quiet_said s out step none may = record {
  due = λ q. (let so : due_to q s ≤ here q s = may.due q in let same = ap (total (of_process q)) none in omega arith);
  moves = may.moves;
  apart = may.apart;
  ways = may.ways;
  turns = may.turns;
  queues = may.queues;
  short = may.short;
}

begun : (s : ClientProcs) (next : TxNo) (step : ℕ) → MayTurn s → MayTurn (stepping.begins_step next step s)
begun s next step may = quiet_said s (started next) step refl may

comes_still : (input : Input) (s : ClientProcs) (next : TxNo) (step : ℕ) → ComesToFiles input s → ComesToFiles input (stepping.begins_step next step s)
comes_still (inputs.Issued pid number call) s next step comes = comes
comes_still (inputs.Request tx source body) s next step comes = comes
comes_still (inputs.Replied tx source body) s next step comes = comes
comes_still (inputs.GaveUp tx) s next step comes = comes
comes_still (inputs.Due file block) s next step comes = comes
comes_still (inputs.PageNeeded pid page) s next step comes = comes

come : (s : ClientProcs) (input : Input) (next : TxNo) (step : ℕ) → ComesToFiles input s → MayTurn s → MayTurn (stepping.takes input (stepping.begins_step next step s))
come s input next step comes may = taken input (stepping.begins_step next step s) (comes_still input s next step comes) (begun s next step may)

pub file_steps_are_enough : (s : ClientProcs) (input : Input) (next : TxNo) (step : ℕ) → ComesToFiles input s → MayTurn s → turning.is_quiet (turning.goes_on (stepping.takes input (stepping.begins_step next step s))) ≡ true
file_steps_are_enough s input next step comes may = rounds_are_enough (stepping.takes input (stepping.begins_step next step s)) (come s input next step comes may)

pub file_steps_keep_this : (s : ClientProcs) (input : Input) (next : TxNo) (step : ℕ) → ComesToFiles input s → MayTurn s → MayTurn (stepping.client_step s input next step).0
file_steps_keep_this s input next step comes may =
    let gone : ClientProcs = turning.goes_on (stepping.takes input (stepping.begins_step next step s)) in
    quiet_said gone (started (record { 0 = 0 })) gone.files.step refl (rounds_keep_this (stepping.takes input (stepping.begins_step next step s)) (come s input next step comes may))
