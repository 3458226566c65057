-- Each step of a client's kernel keeps the facts of the remote calls of its files' side.
use Rattle.std.proofs.Common.{◌≡◌, ℕ, zero, suc, ◌==◌, Bool, true, false, ◌&&◌, cond, List, [], ◌∷◌, length, refl, ap}
use Rattle.std.proofs.lemmas.Bool.{and_parts, eqb-true}
use Rattle.sprite_ids.specs.declared.TxNo.{TxNo}
use Rattle.packet_bodies.specs.declared.ReplyBody.{ReplyBody}
use Rattle.kernel_steps.specs.declared.Input.{Input}
use Rattle.kernel_steps.specs.declared.Input.TheVariants as inputs
use Rattle.client_file_tables.specs.declared.pending.Pending.TheVariants as operations
use Rattle.client_file_tables.specs.Closes as file_closes
use Rattle.client_file_tables.specs.Steps.{owns}
use Rattle.client_files.specs.Answered as file_answers
use Rattle.client_files.specs.Turns as file_turns
use Rattle.client_homes.specs.declared.client.ClientProcs.{ClientProcs}
use Rattle.client_procs.specs.Answered as hearing
use Rattle.client_procs.specs.Steps as stepping
use Rattle.client_procs.specs.Steps.{client_step}
use Rattle.client_procs.specs.Turning as turning
use Rattle.client_facts.specs.FileFacts.{OneOperationEach, move_asks}
use Rattle.client_walks.specs.Hands.{brought}
use Rattle.client_walks.specs.PlacesOnce.{InHand, PlacesAreOnce}
use Rattle.client_walks.proofs.AtHomeLaws.{apart_by_deeds}
use Rattle.client_walks.proofs.Deeds.{Hand, WalkApart, nothing}
use Rattle.client_walks.proofs.SideBearing.{BearsSide, all_apart}
use Rattle.client_walks.proofs.WalkLaws.{other_taken, round_ends, walk_heard}
use Rattle.client_rounds.specs.OneThing.{OneThingEach}
use Rattle.client_rounds.proofs.EnoughLaws.{may_goes_on}
use Rattle.client_rounds.proofs.OneLaws.{may_turn_on, one_thing_is_enough, steps_are_enough}
use Rattle.file_walks.specs.Fits.{FitsItsCall}
use Rattle.file_walks.proofs.CallWalks as call_walks
use Rattle.file_walks.proofs.Muted as muted
use Rattle.file_facts.specs.CallFacts.{KeepsCallFacts}
use Rattle.file_facts.proofs.Books.{Holds, book_of}
use Rattle.file_facts.proofs.BookLaws as books
use Rattle.file_facts.proofs.AnswerFacts.{answered, due_goes, given_up}
use Rattle.file_facts.proofs.RestFacts.{begun, ended}
use Rattle.file_facts.proofs.CallRuns.{call_runs}
use Rattle.file_facts.proofs.RunFacts.{going_on_keeps, mute, on_if, started_free}

-- What the rest of the kernel does

side : (came : Input) → BearsSide came Holds
side came = record {
  tells = λ s event e p. p;
  enters = λ s entry cause p. p;
  sends = λ s sending p. books.says (book_of s) p;
  answers = λ s tx body e p. p;
  gives = λ s pid reply p. p;
  closes = λ s pid about p. started_free s pid (operations.Close (file_closes.ends_by about (file_closes.fds_of pid s))) (refl, refl) p;
  moves = λ s pid work e p. started_free s pid (operations.Move work) (ap move_asks e, refl) p;
  has_cwd = λ s pid path p. on_if _ _ _ p p;
  drops_cwd = λ s pid p. p;
  forks = λ s parent child p. p;
  takes_report = λ s rest p. p;
  takes_reply = λ s rest p. p;
  issues = λ s about call device e p. call_walks.issues (λ (pid : ℕ). Holds) Holds call_runs about call device s p;
  called_back = λ s tx request p. muted.called_back Holds mute tx request s p;
  due_goes = λ s file block p. due_goes file block s p;
  arrives = λ s pid cwd streams items p. muted.arrives Holds mute (λ t given q. q) pid cwd streams items s p;
}

abbrev Kept : ClientProcs → Hand → Type 0
Kept s h = Holds s.files

walk : (came : Input) → WalkApart Kept came
walk came = apart_by_deeds Kept came (all_apart came (λ own. Holds) (λ own. side came) (λ own other files p. p))

-- What comes

heard : (b : Bool) (tx : TxNo) (source : ℕ) (body : ReplyBody) (s : ClientProcs) → s.files.ready ≡ [] → FitsItsCall (inputs.Replied tx source body) s.files → OneOperationEach s.files → Holds s.files
    → Holds (cond b (record s { files = file_answers.answered tx source body s.files }) (hearing.hears_own tx body s)).files
heard true tx source body s quiet fits once p = answered s.files tx source body quiet fits once p
heard false tx source body s quiet fits once p = walk_heard Kept (inputs.Replied tx source body) (walk (inputs.Replied tx source body)) nothing tx body s p

taken : (input : Input) (s : ClientProcs) → s.files.ready ≡ [] → FitsItsCall input s.files → OneOperationEach s.files → Holds s.files → Holds (stepping.takes input s).files
taken (inputs.Replied tx source body) s quiet fits once p = heard (owns tx s.files) tx source body s quiet fits once p
taken (inputs.GaveUp tx) s quiet fits once p = given_up s.files tx fits once p
taken (inputs.Issued pid number call) s quiet fits once p = other_taken Kept (inputs.Issued pid number call) (walk (inputs.Issued pid number call)) nothing (inputs.Issued pid number call) s refl tt p
taken (inputs.Request tx source body) s quiet fits once p = other_taken Kept (inputs.Request tx source body) (walk (inputs.Request tx source body)) nothing (inputs.Request tx source body) s refl tt p
taken (inputs.Due file block) s quiet fits once p = other_taken Kept (inputs.Due file block) (walk (inputs.Due file block)) nothing (inputs.Due file block) s refl tt p
taken (inputs.PageNeeded pid page) s quiet fits once p = other_taken Kept (inputs.PageNeeded pid page) (walk (inputs.PageNeeded pid page)) nothing (inputs.PageNeeded pid page) s refl tt p

-- Rounds

round_by : (b : Bool) (came : Input) (s : ClientProcs) → OneOperationEach s.files → Holds s.files → Holds (cond b s (turning.takes_all (turning.gives_all (record s { files = file_turns.goes_on s.files })))).files
round_by true came s once p = p
round_by false came s once p = round_ends Kept came (walk came) nothing (record s { files = file_turns.goes_on s.files }) (going_on_keeps s.files once p)

rounds : (came : Input) (s : ClientProcs) → ((count : ℕ) → OneOperationEach (turning.turns count s).files) → (count : ℕ) → Holds s.files → Holds (turning.turns count s).files
rounds came s once zero p = p
rounds came s once (suc count) p = let before : ClientProcs = turning.turns count s in round_by (turning.is_quiet before) came before (once count) (rounds came s once count p)

none_of : (xs : List ℕ) → length xs ≡ 0 → xs ≡ []
none_of [] e = refl
none_of (x ∷ xs) e = absurd (cc)

pub quiet_ready : (s : ClientProcs) → turning.is_quiet s ≡ true → s.files.ready ≡ []
quiet_ready s quiet =
    let both = and_parts ((length s.files.ready == 0) && (length s.files.out.replies == 0)) (length s.files.results == 0) quiet in
    none_of s.files.ready (eqb-true (length s.files.ready) 0 (and_parts (length s.files.ready == 0) (length s.files.out.replies == 0) both.0).0)

-- A step

pub step_keeps_call_facts : (s : ClientProcs) (input : Input) (next : TxNo) (step : ℕ) → InHand (brought input s) s → PlacesAreOnce s → OneThingEach s → FitsItsCall input s.files → KeepsCallFacts next s.files
    → KeepsCallFacts (client_step s input next step).1.next (client_step s input next step).0.files
step_keeps_call_facts s input next step hand places one fits facts =
    let start : ClientProcs = stepping.begins_step next step s in
    let came : ClientProcs = stepping.takes input start in
    let once_first : OneOperationEach start.files = (may_goes_on s (one_thing_is_enough s one)).may.one_each in
    let come : Holds came.files = taken input start facts.rests (fits_begun input s next step fits) once_first (begun next step s.files facts) in
    let gone : Holds (turning.goes_on came).files = rounds input came (λ count. (may_goes_on (turning.turns count came) (may_turn_on count s input next step hand places one)).may.one_each) (turning.rounds_for came) come in
    ended (turning.goes_on came).files (quiet_ready (turning.goes_on came) (steps_are_enough s input next step hand places one)) gone
  where
    fits_begun : (input : Input) (s : ClientProcs) (next : TxNo) (step : ℕ) → FitsItsCall input s.files → FitsItsCall input (stepping.begins_step next step s).files
    fits_begun (inputs.Replied tx source body) s next step fits = fits
    fits_begun (inputs.GaveUp tx) s next step fits = fits
    fits_begun (inputs.Issued pid number call) s next step fits = fits
    fits_begun (inputs.Request tx source body) s next step fits = fits
    fits_begun (inputs.Due file block) s next step fits = fits
    fits_begun (inputs.PageNeeded pid page) s next step fits = fits
