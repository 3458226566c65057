-- Each step of a client's kernel keeps a fact of its files' side that the side's own steps keep where each process has one operation at most.
use Rattle.std.proofs.Common.{ℕ, zero, suc, Bool, true, false, cond, refl}
use Rattle.sprite_ids.specs.declared.TxNo.{TxNo}
use Rattle.packet_bodies.specs.declared.ReplyBody.{ReplyBody}
use Rattle.kernel_steps.specs.declared.Input.{Input}
use Rattle.kernel_steps.specs.declared.Input.TheVariants as inputs
use Rattle.client_file_tables.specs.declared.client_files.ClientFiles.{ClientFiles}
use Rattle.client_file_tables.specs.Steps.{owns}
use Rattle.client_names.specs.Answers as name_answers
use Rattle.client_files.specs.Answered as file_answers
use Rattle.client_files.specs.Turns as file_turns
use Rattle.client_homes.specs.declared.client.ClientProcs.{ClientProcs}
use Rattle.client_procs.specs.Answered as hearing
use Rattle.client_procs.specs.Steps as stepping
use Rattle.client_procs.specs.Turning as turning
use Rattle.client_facts.specs.FileFacts.{OneOperationEach}
use Rattle.client_walks.specs.Hands.{brought}
use Rattle.client_walks.specs.PlacesOnce.{InHand, PlacesAreOnce}
use Rattle.client_walks.proofs.AtHomeLaws.{apart_by_deeds}
use Rattle.client_walks.proofs.Deeds.{Hand, WalkApart, nothing}
use Rattle.client_walks.proofs.SideBearing.{BearsSide, all_apart}
use Rattle.client_walks.proofs.WalkLaws.{other_taken, round_ends, walk_heard}
use Rattle.client_rounds.specs.OneThing.{OneThingEach}
use Rattle.client_rounds.proofs.EnoughLaws.{may_goes_on}
use Rattle.client_rounds.proofs.OneLaws.{may_turn_on, one_thing_is_enough}

-- what the files' side and the rest of the kernel do to such a fact
pub record BearsSteps (P : ClientFiles → Type 0) : Type 0 where
  pub side : (came : Input) → BearsSide came P
  pub answered : (s : ClientFiles) (tx : TxNo) (source : ℕ) (body : ReplyBody) → OneOperationEach s → P s → P (file_answers.answered tx source body s)
  pub given_up : (s : ClientFiles) (tx : TxNo) → OneOperationEach s → P s → P (name_answers.gives_up tx s)
  pub goes_on : (s : ClientFiles) → OneOperationEach s → P s → P (file_turns.goes_on s)

module _ (P : ClientFiles → Type 0) (bears : BearsSteps P) where
  abbrev Kept : ClientProcs → Hand → Type 0
  Kept s h = P s.files

  walk : (came : Input) → WalkApart Kept came
  walk came = apart_by_deeds Kept came (all_apart came (λ own. P) (λ own. bears.side came) (λ own other files p. p))

  -- What comes

  heard : (b : Bool) (tx : TxNo) (source : ℕ) (body : ReplyBody) (s : ClientProcs) → OneOperationEach s.files → P s.files → P (cond b (record s { files = file_answers.answered tx source body s.files }) (hearing.hears_own tx body s)).files
  heard true tx source body s once p = bears.answered s.files tx source body once p
  heard false tx source body s once p = walk_heard Kept (inputs.Replied tx source body) (walk (inputs.Replied tx source body)) nothing tx body s p

  taken : (input : Input) (s : ClientProcs) → OneOperationEach s.files → P s.files → P (stepping.takes input s).files
  taken (inputs.Replied tx source body) s once p = heard (owns tx s.files) tx source body s once p
  taken (inputs.GaveUp tx) s once p = bears.given_up s.files tx once p
  taken (inputs.Issued pid number call) s once p = other_taken Kept (inputs.Issued pid number call) (walk (inputs.Issued pid number call)) nothing (inputs.Issued pid number call) s refl tt p
  taken (inputs.Request tx source body) s once p = other_taken Kept (inputs.Request tx source body) (walk (inputs.Request tx source body)) nothing (inputs.Request tx source body) s refl tt p
  taken (inputs.Due file block) s once p = other_taken Kept (inputs.Due file block) (walk (inputs.Due file block)) nothing (inputs.Due file block) s refl tt p
  taken (inputs.PageNeeded pid page) s once p = other_taken Kept (inputs.PageNeeded pid page) (walk (inputs.PageNeeded pid page)) nothing (inputs.PageNeeded pid page) s refl tt p

  -- Rounds

  round_by : (b : Bool) (came : Input) (s : ClientProcs) → OneOperationEach s.files → P s.files → P (cond b s (turning.takes_all (turning.gives_all (record s { files = file_turns.goes_on s.files })))).files
  round_by true came s once p = p
  round_by false came s once p = round_ends Kept came (walk came) nothing (record s { files = file_turns.goes_on s.files }) (bears.goes_on s.files once p)

  rounds : (came : Input) (s : ClientProcs) → ((count : ℕ) → OneOperationEach (turning.turns count s).files) → (count : ℕ) → P s.files → P (turning.turns count s).files
  rounds came s once zero p = p
  rounds came s once (suc count) p = let before : ClientProcs = turning.turns count s in round_by (turning.is_quiet before) came before (once count) (rounds came s once count p)

  -- behind all that a step does, before what it says is handed on
  pub step_comes : (s : ClientProcs) (input : Input) (next : TxNo) (step : ℕ) → InHand (brought input s) s → PlacesAreOnce s → OneThingEach s → P (stepping.begins_step next step s).files → P (turning.goes_on (stepping.takes input (stepping.begins_step next step s))).files
  step_comes s input next step hand places one p =
      let start : ClientProcs = stepping.begins_step next step s in
      let came : ClientProcs = stepping.takes input start in
      let once_first : OneOperationEach start.files = (may_goes_on s (one_thing_is_enough s one)).may.one_each in
      rounds input came (λ count. (may_goes_on (turning.turns count came) (may_turn_on count s input next step hand places one)).may.one_each) (turning.rounds_for came) (taken input start once_first p)
