-- Each step of a client's kernel keeps that streams of processes that leave move in turn, and so that who has a lock has an operation that has it.
use Rattle.std.proofs.Common.{◌≡◌, ℕ, zero, suc, Bool, true, false, ◌&&◌, not, cond, List, [], ◌∷◌, ◌++◌, Option, Some, None, option_map, refl, sym, ap, ◌∙◌, subst, is_some}
use Rattle.std.proofs.lemmas.Bool.{and_parts}
use Rattle.std.specs.List.{list_all}
use Rattle.sprite_ids.specs.declared.BlockNo.{BlockNo}
use Rattle.sprite_ids.specs.declared.FileId.{FileId}
use Rattle.sprite_ids.specs.declared.TxNo.{TxNo}
use Rattle.sprite_ids.specs.Lists.{put}
use Rattle.process_machine.specs.Machine.{Machine}
use Rattle.packet_bodies.specs.declared.CarriedStream.{CarriedStream}
use Rattle.packet_bodies.specs.declared.ReplyBody.{ReplyBody}
use Rattle.block_cache.specs.Blocks.{dirty_at}
use Rattle.kernel_steps.specs.declared.Input.{Input}
use Rattle.kernel_steps.specs.declared.Input.TheVariants as inputs
use Rattle.kernel_steps.specs.Rows.{first_under}
use Rattle.stream_table.specs.declared.Carried.{Carried}
use Rattle.stream_table.specs.Entries.{is_placed}
use Rattle.stream_table.specs.Owners.{is_owner, is_used, numbers_of}
use Rattle.stream_table.specs.Streams.{added, arriving, dupped, forked, is_forked}
use Rattle.unix_calls.specs.declared.Description.{Description}
use Rattle.client_file_tables.specs.declared.client_files.ClientFiles.{ClientFiles}
use Rattle.client_file_tables.specs.declared.moves.Report.{Report}
use Rattle.client_file_tables.specs.declared.moves.Report.TheVariants as reports
use Rattle.client_file_tables.specs.declared.pending.Pending.{Pending}
use Rattle.client_file_tables.specs.declared.pending.Pending.TheVariants as operations
use Rattle.client_file_tables.specs.Closes as file_closes
use Rattle.client_file_tables.specs.Steps as tables
use Rattle.client_file_tables.specs.Steps.{owns}
use Rattle.client_file_tables.specs.Streams as streams
use Rattle.client_data.specs.WriteBacks as written
use Rattle.client_files.specs.Answered as file_answers
use Rattle.client_files.specs.Arrivals as arrivals
use Rattle.client_files.specs.Asked as asked
use Rattle.client_files.specs.Turns as file_turns
use Rattle.client_homes.specs.declared.client.ClientProcs.{ClientProcs}
use Rattle.client_homes.specs.declared.client.Leaving.{Leaving}
use Rattle.client_homes.specs.declared.process.Proc.{Proc}
use Rattle.client_homes.specs.Homes as homes
use Rattle.client_homes.specs.Procs as procs_of
use Rattle.client_homes.specs.Procs.{proc_at}
use Rattle.client_procs.specs.Answered as hearing
use Rattle.client_procs.specs.Boot.{boots}
use Rattle.client_procs.specs.CanTake.{can_take}
use Rattle.client_procs.specs.Readers.{with_image}
use Rattle.client_procs.specs.Steps as stepping
use Rattle.client_procs.specs.Steps.{client_step}
use Rattle.client_procs.specs.Turning as turning
use Rattle.client_facts.specs.FileFacts.{OneOperationEach}
use Rattle.client_walks.specs.Hands.{Nothing, brought, heard}
use Rattle.client_walks.specs.PlacesOnce.{InHand, PlacesAreOnce}
use Rattle.client_walks.proofs.AtHomeLaws.{at_home}
use Rattle.client_walks.proofs.Bearing.{HomeSide, home_side}
use Rattle.client_walks.proofs.Deeds.{Always, Hand, KeepsApart, KeepsLeaving, WalkParts, holds, nothing, tells_move}
use Rattle.client_walks.proofs.JoinedLaws.{joined_calls, joined_comings, joined_devices, joined_homes, joined_kills}
use Rattle.client_walks.proofs.LeavingLaws.{leaving_by_deeds}
use Rattle.client_walks.proofs.OnceLaws.{Placed, placed, places_kept}
use Rattle.client_walks.proofs.RowLaws.{none_leaves}
use Rattle.client_walks.proofs.SideBearing as side
use Rattle.client_walks.proofs.SideBearing.{BearsRest}
use Rattle.client_walks.proofs.Spots.{spots_of}
use Rattle.client_walks.proofs.WalkLaws.{ends_in, heard_in, taken_in}
use Rattle.client_rounds.specs.OneThing.{OneThingEach}
use Rattle.client_rounds.specs.Rounds.{MayTurn}
use Rattle.client_rounds.proofs.EnoughLaws.{files_keep_this, may_goes_on}
use Rattle.client_rounds.proofs.OneLaws.{hand_begun, may_turn_on, one_thing_is_enough}
use Rattle.file_walks.proofs.CallWalks as call_walks
use Rattle.file_walks.proofs.CallWalks.{RunsCall}
use Rattle.file_walks.proofs.Muted as muted
use Rattle.file_walks.proofs.Muted.{Mute}
use Rattle.lock_facts.proofs.OwnerLaws.{keeps_added, keeps_arriving, keeps_dupped, keeps_forked}
use Rattle.holder_facts.proofs.LineKernel.{not_used, unused_by}
use Rattle.lock_holders.specs.HolderFacts.{MovesStayOwn}
use Rattle.lock_holders.proofs.SoleKernel.{begins_with_holder_facts, image_keeps_holder_facts, step_keeps_holder_facts}
use Rattle.move_facts.specs.MoveFacts.{KeepsMoveFacts, MovesInTurn, StreamsMoveInTurn, has_moved, move_in}
use Rattle.move_facts.proofs.Counts.{calm_of, own_moves, told_of}
use Rattle.move_facts.proofs.Leavers.{Told, none_found}
use Rattle.move_facts.proofs.MoveAnswers as move_answers
use Rattle.move_facts.proofs.MoveAnswers.{begins_none}
use Rattle.move_facts.proofs.MoveLaws as laws
use Rattle.move_facts.proofs.MoveRuns as move_runs
use Rattle.move_facts.proofs.MoveWholes.{frozen, has_moved_on, left_on, told_left}

told_push : (leaving : List (ℕ × Leaving)) (rows : List (ℕ × Pending)) (told : List Report) (pid : ℕ) (operation : Pending) → move_in (Some operation) ≡ None → Told leaving rows told → Told leaving (rows ++ (pid, operation) ∷ []) told
told_push leaving rows told pid operation e p = record { once = p.once; free = λ q work there. p.free q work (sym (laws.move_push q rows pid operation e) ∙ there); leads = p.leads }

-- what is so while what comes is taken in, and while a round ends; reports are none, or any
module _ (Put : Type 0) (Z : List Report → Type 0) (none_told : Put → (results : List Report) (pid : ℕ) → Z results → has_moved pid results ≡ false) (tail : (report : Report) (rest : List Report) → Z (report ∷ rest) → Z rest) where
  abbrev pub Knows : HomeSide → ClientFiles → Type 0
  Knows own s = (MovesInTurn own.leaving s.pending s.streams.owners s.results) × ((Told own.leaving s.pending s.results) × (Z s.results))

  mute : (own : HomeSide) → Mute (Knows own)
  mute own = record { caches = λ s cache p. p; delays = λ s rows p. p; tells = λ s event p. p; answers = λ s tx body p. p; learns = λ s domains p. p; cwds = λ s rows p. p; counts = λ s p. p }

  on_if : (own : HomeSide) (b : Bool) (s t : ClientFiles) → Knows own s → Knows own t → Knows own (cond b s t)
  on_if own true s t p q = p
  on_if own false s t p q = q

  pushed : (own : HomeSide) (s : ClientFiles) (pid : ℕ) (operation : Pending) → move_in (Some operation) ≡ None → Knows own s → Knows own (tables.keeps pid operation s)
  pushed own s pid operation e p = (laws.pushed own.leaving s.pending s.streams.owners s.results pid operation e p.0, (told_push own.leaving s.pending s.results pid operation e p.1.0, p.1.1))

  call_runs : (own : HomeSide) (pid : ℕ) → RunsCall pid (Knows own) (Knows own)
  call_runs own pid = record {
    quiet = mute own;
    adds = λ s number stream p. on_if own (is_placed stream) (record s { streams = added s.streams pid number stream }) s (laws.owners_more own.leaving s.pending s.streams.owners (added s.streams pid number stream).owners s.results (keeps_added s.streams pid number stream) p.0, p.1) p;
    dups = λ s fd p. (laws.owners_more own.leaving s.pending s.streams.owners (dupped s.streams pid fd).owners s.results (keeps_dupped s.streams pid fd) p.0, p.1);
    begins = λ s operation begins leads p. pushed own s pid operation (begins_none operation begins) p;
    echoes = λ s work server p. (laws.pushed own.leaving s.pending s.streams.owners s.results pid _ refl p.0, (told_push own.leaving s.pending s.results pid _ refl p.1.0, p.1.1));
    broadcasts = λ s work prefix p. (laws.pushed own.leaving s.pending s.streams.owners s.results pid _ refl p.0, (told_push own.leaving s.pending s.results pid _ refl p.1.0, p.1.1));
    asks = λ s work server p. (laws.pushed own.leaving s.pending s.streams.owners s.results pid _ refl p.0, (told_push own.leaving s.pending s.results pid _ refl p.1.0, p.1.1));
    ends = λ s reply p. p;
    lost = λ s p. p;
  }

  forks : (own : HomeSide) (s : ClientFiles) (parent child : ℕ) → Knows own s → Knows own (record s { streams = forked s.streams parent child })
  forks own s parent child p = by_test (is_forked s.streams.owners parent child) refl
    where
      by_test : (b : Bool) → is_forked s.streams.owners parent child ≡ b → Knows own (record s { streams = record s.streams { owners = cond b (put (is_owner child) (record { pid = child; numbers = numbers_of s.streams.owners parent }) s.streams.owners) s.streams.owners } })
      by_test true e =
          let none : is_used (numbers_of s.streams.owners child) ≡ false = not_used (is_used (numbers_of s.streams.owners child)) (and_parts (is_used (numbers_of s.streams.owners parent)) (not (is_used (numbers_of s.streams.owners child))) e).1 in
          (laws.owners_more own.leaving s.pending s.streams.owners (put (is_owner child) (record { pid = child; numbers = numbers_of s.streams.owners parent }) s.streams.owners) s.results (keeps_forked s.streams.owners parent child none) p.0, p.1)
      by_test false e = p

  due_by : (own : HomeSide) (o : Option ℕ) (file : FileId) (block : BlockNo) (s : ClientFiles) → Knows own s → Knows own (written.due_by o file block s)
  due_by own (Some number) file block s p = p
  due_by own None file block s p = p

  takes_carried : (own : HomeSide) (list : List CarriedStream) (s : ClientFiles) → Knows own s → Knows own (arrivals.takes_carried list s)
  takes_carried own [] s p = p
  takes_carried own (stream ∷ list) s p = takes_carried own list (asked.takes_some stream.grant s) (muted.takes_some (Knows own) (mute own) stream.grant s p)

  puts_streams : (own : HomeSide) (pid : ℕ) (items : List Carried) (s : ClientFiles) → Knows own s → Knows own (arrivals.puts_streams pid items s)
  puts_streams own pid items s p = by_test (arrivals.can_arrive pid items s) refl
    where
      by_test : (b : Bool) → arrivals.can_arrive pid items s ≡ b → Knows own (cond b (record s { streams = arriving s.streams pid items }) s)
      by_test true e =
          let none : is_used (numbers_of s.streams.owners pid) ≡ false = unused_by (is_used (numbers_of s.streams.owners pid)) (arrivals.are_apart items) (list_all arrivals.is_fit items && list_all (arrivals.is_known_so s.streams.entries) items) e in
          (laws.owners_more own.leaving s.pending s.streams.owners (arriving s.streams pid items).owners s.results (keeps_arriving items s.streams pid none) p.0, p.1)
      by_test false e = p

  arrives : (own : HomeSide) (pid : ℕ) (cwd : List (List ℕ)) (list : List CarriedStream) (items : List Carried) (s : ClientFiles) → Knows own s → Knows own (arrivals.arrives pid cwd list items s)
  arrives own pid cwd list items s p = puts_streams own pid items (streams.sets_cwd pid cwd (arrivals.takes_carried list s)) (muted.sets_cwd (Knows own) (mute own) pid cwd (arrivals.takes_carried list s) (takes_carried own list s p))

  bears : (came : Input) (own : HomeSide) → BearsRest came (Knows own)
  bears came own = record {
    tells = λ s event e p. p;
    enters = λ s entry cause p. p;
    sends = λ s sending p. p;
    answers = λ s tx body e p. p;
    gives = λ s pid reply p. p;
    closes = λ s pid about p. pushed own s pid (operations.Close (file_closes.ends_by about (file_closes.fds_of pid s))) refl p;
    has_cwd = λ s pid path p. muted.sets_cwd (Knows own) (mute own) pid path s p;
    drops_cwd = λ s pid p. p;
    forks = λ s parent child p. forks own s parent child p;
    takes_reply = λ s rest p. p;
    issues = λ s about call device e p. call_walks.issues (λ (pid : ℕ). Knows own) (Knows own) (call_runs own) about call device s p;
    called_back = λ s tx request p. muted.called_back (Knows own) (mute own) tx request s p;
    due_goes = λ s file block p. due_by own (dirty_at s.cache.blocks file block.0) file block s p;
    arrives = λ s pid cwd list items p. arrives own pid cwd list items s p;
  }

  -- The walk, beside that each process stands in one place

  abbrev pub Stands : ClientProcs → Hand → Type 0
  Stands s h = Placed (spots_of s) h.process

  abbrev pub Moving : ClientProcs → Hand → Type 0
  Moving s h = Knows (home_side s) s.files

  abbrev pub Goes : ClientProcs → Hand → Type 0
  Goes s h = (Stands s h) × (Moving s h)

  same_leaving : (own other : HomeSide) (files : ClientFiles) → other.leaving ≡ own.leaving → Knows own files → Knows other files
  same_leaving own other files same p = subst (λ (leaving : List (ℕ × Leaving)). (MovesInTurn leaving files.pending files.streams.owners files.results) × ((Told leaving files.pending files.results) × (Z files.results))) (sym same) p

  results_same : (results more : List Report) → more ≡ results → Z results → Z more
  results_same results more same z = subst Z (sym same) z

  places : (came : Input) → KeepsApart came Always Stands
  places came = ((places_kept Always).within came).apart

  taken_off : (s : ClientProcs) (report : Report) (rest : List Report) → s.files.results ≡ report ∷ rest → tells_move report ≡ false → Knows (home_side s) s.files → Knows (home_side s) (record s.files { results = rest })
  taken_off s (reports.Moved pid place grant many) rest e other p = absurd (cc)
  taken_off s (reports.MasterClosed device) rest e other p =
      let first = subst (λ (results : List Report). (MovesInTurn s.leaving s.files.pending s.files.streams.owners results) × ((Told s.leaving s.files.pending results) × (Z results))) e p in
      (laws.told_more s.leaving s.files.pending s.files.streams.owners (reports.MasterClosed device ∷ rest) rest (λ q none. none) first.0, (record { once = first.1.0.once; free = first.1.0.free; leads = first.1.0.leads }, tail (reports.MasterClosed device) rest first.1.1))
  taken_off s (reports.AllClosed pid) rest e other p =
      let first = subst (λ (results : List Report). (MovesInTurn s.leaving s.files.pending s.files.streams.owners results) × ((Told s.leaving s.files.pending results) × (Z results))) e p in
      (laws.told_more s.leaving s.files.pending s.files.streams.owners (reports.AllClosed pid ∷ rest) rest (λ q none. none) first.0, (record { once = first.1.0.once; free = first.1.0.free; leads = first.1.0.leads }, tail (reports.AllClosed pid) rest first.1.1))

  leaving : (came : Input) → KeepsLeaving Put Goes
  leaving came =
      let stands = leaving_by_deeds came Stands (places came).files (places came).moves in
      record {
        leaves_on = λ s h pid put p.
            let left = left_on pid s p.0.leaving_once p.1.0 in
            (stands.leaves_on s h pid tt p.0, (left.streams, (told_left pid s _ left.only (none_told put s.files.results pid p.1.1.1) p.1.1.0, results_same s.files.results _ left.only.told p.1.1.1)));
        has_moved = λ s h pid place grant many rest e p.
            let on = has_moved_on pid place grant many rest s p.0.leaving_once e p.1.0 p.1.1.0 in
            (stands.has_moved s h pid place grant many rest e p.0, (on.0, (on.1.0, results_same rest _ on.1.1 (tail (reports.Moved pid place grant many) rest (subst Z e p.1.1.1)))));
        freezes = λ s h pid route p.
            let froze = frozen pid route s (λ proc there. none_found pid s.leaving (none_leaves pid s.procs s.leaving (ap is_some there) p.0.apart)) p.0.leaving_once p.1.0 p.1.1.0 in
            (stands.freezes s h pid route p.0, (froze.moves, (froze.told, results_same s.files.results _ froze.same p.1.1.1)));
        takes_report = λ s h report rest e other p. (stands.takes_report s h report rest e other p.0, taken_off s report rest e other p.1);
        takes_ended = λ s h pid p. (stands.takes_ended s h pid p.0, p.1);
      }

  pub parts : (came : Input) → WalkParts Put Goes came
  parts came =
      let calls = joined_calls came Stands Moving (places came).calls (side.calls came Stands Knows (bears came)) in
      let kept = side.uses came Stands Knows (bears came) in
      record {
        files = record {
          uses_files = λ s h about call device e u p. ((places came).files.uses_files s h about call device e tt p.0, kept.uses_files s h about call device e tt p.1);
          called_back = λ s h tx request u p. ((places came).files.called_back s h tx request tt p.0, kept.called_back s h tx request tt p.1);
          due_goes = λ s h file block u p. ((places came).files.due_goes s h file block tt p.0, kept.due_goes s h file block tt p.1);
          takes_reply = λ s h row rest e u p. ((places came).files.takes_reply s h row rest e tt p.0, kept.takes_reply s h row rest e tt p.1);
        };
        calls = calls;
        home = at_home Goes came (record {
          calls = calls;
          homes = joined_homes Stands Moving (places came).homes (side.homes_kept came Stands Knows (bears came) same_leaving);
          kills = joined_kills Stands Moving (places came).kills (side.kills_kept came Stands Knows (bears came) same_leaving);
        });
        devices = joined_devices came Stands Moving (places came).devices (side.devices came Stands Knows (bears came));
        leaving = leaving came;
        comings = joined_comings Stands Moving (places came).comings
            (side.comings came Stands Knows (bears came) (λ s pid kernel p. side.home_if came Stands Knows (bears came) same_leaving (homes.is_native pid s) _ s p));
      }

-- while what comes is taken in nothing is reported
abbrev Empty : List Report → Type 0
Empty results = results ≡ []

empty_none : Unit {0} → (results : List Report) (pid : ℕ) → Empty results → has_moved pid results ≡ false
empty_none put results pid z = ap (has_moved pid) z

empty_tail : (report : Report) (rest : List Report) → Empty (report ∷ rest) → Empty rest
empty_tail report rest z = absurd (cc)

abbrev Taking : ClientProcs → Hand → Type 0
Taking s h = Goes (Unit {0}) Empty empty_none empty_tail s h

-- and while a round ends, no page is put
abbrev Any : List Report → Type 0
Any results = Unit {0}

any_none : ⊥ → (results : List Report) (pid : ℕ) → Any results → has_moved pid results ≡ false
any_none never results pid z = absurd never

any_tail : (report : Report) (rest : List Report) → Any (report ∷ rest) → Any rest
any_tail report rest z = tt

abbrev Ending : ClientProcs → Hand → Type 0
Ending s h = Goes ⊥ Any any_none any_tail s h

-- between these
abbrev Cut : ClientProcs → Type 0
Cut s = (Placed (spots_of s) Nothing) × (StreamsMoveInTurn s)

heard_so : (b : Bool) (tx : TxNo) (source : ℕ) (body : ReplyBody) (s : ClientProcs) → OneOperationEach s.files → Taking s (holds (cond b Nothing (heard (first_under procs_of.is_call tx s.unfinished) body s)) nothing) → Cut (cond b (record s { files = file_answers.answered tx source body s.files }) (hearing.hears_own tx body s))
heard_so true tx source body s once p = (p.0, move_answers.answered s.leaving s.files tx source body once p.1.0)
heard_so false tx source body s once p =
    let after = heard_in (Unit {0}) Taking (inputs.Replied tx source body) (parts (Unit {0}) Empty empty_none empty_tail (inputs.Replied tx source body)) nothing tx body s tt p in
    (after.0, after.1.0)

taken : (input : Input) (s : ClientProcs) → OneOperationEach s.files → Taking s (holds (brought input s) nothing) → Cut (stepping.takes input s)
taken (inputs.Replied tx source body) s once p = heard_so (owns tx s.files) tx source body s once p
taken (inputs.GaveUp tx) s once p = (p.0, move_answers.given_up s.leaving s.files tx once p.1.0)
taken (inputs.Issued pid number call) s once p =
    let after = taken_in (Unit {0}) Taking (inputs.Issued pid number call) (parts (Unit {0}) Empty empty_none empty_tail (inputs.Issued pid number call)) nothing (inputs.Issued pid number call) s refl tt p in
    (after.0, after.1.0)
taken (inputs.Request tx source body) s once p =
    let after = taken_in (Unit {0}) Taking (inputs.Request tx source body) (parts (Unit {0}) Empty empty_none empty_tail (inputs.Request tx source body)) nothing (inputs.Request tx source body) s refl tt p in
    (after.0, after.1.0)
taken (inputs.Due file block) s once p =
    let after = taken_in (Unit {0}) Taking (inputs.Due file block) (parts (Unit {0}) Empty empty_none empty_tail (inputs.Due file block)) nothing (inputs.Due file block) s refl tt p in
    (after.0, after.1.0)
taken (inputs.PageNeeded pid page) s once p =
    let after = taken_in (Unit {0}) Taking (inputs.PageNeeded pid page) (parts (Unit {0}) Empty empty_none empty_tail (inputs.PageNeeded pid page)) nothing (inputs.PageNeeded pid page) s refl tt p in
    (after.0, after.1.0)

-- Rounds

round_by : (b : Bool) (came : Input) (s : ClientProcs) → MayTurn s → Cut s → Cut (cond b s (turning.takes_all (turning.gives_all (record s { files = file_turns.goes_on s.files }))))
round_by true came s may p = p
round_by false came s may p =
    let ran : ClientProcs = record s { files = file_turns.goes_on s.files } in
    let moves = move_runs.going_on_keeps s.leaving s.files (may_goes_on s may).may.one_each (p.1, calm_of s may) in
    let after = ends_in ⊥ Ending came (parts ⊥ Any any_none any_tail came) nothing ran (p.0, (moves.0, (told_of ran (files_keep_this s may), tt))) in
    (after.0, after.1.0)

rounds : (came : Input) (s : ClientProcs) → ((count : ℕ) → MayTurn (turning.turns count s)) → (count : ℕ) → Cut s → Cut (turning.turns count s)
rounds came s may zero p = p
rounds came s may (suc count) p = let before : ClientProcs = turning.turns count s in round_by (turning.is_quiet before) came before (may count) (rounds came s may count p)

pub step_keeps_move_facts : (s : ClientProcs) (input : Input) (next : TxNo) (step : ℕ) → can_take input s ≡ true → InHand (brought input s) s → PlacesAreOnce s → OneThingEach s → KeepsMoveFacts s → KeepsMoveFacts (client_step s input next step).0
step_keeps_move_facts s input next step can hand places one facts =
    let start : ClientProcs = stepping.begins_step next step s in
    let came : ClientProcs = stepping.takes input start in
    let may_first : MayTurn s = one_thing_is_enough s one in
    let may : (count : ℕ) → MayTurn (turning.turns count came) = λ count. may_turn_on count s input next step hand places one in
    let there : PlacesAreOnce start = record { once = places.once; leaving_once = places.leaving_once; apart = places.apart; born = places.born; leaving_born = places.leaving_born } in
    let begun : Taking start (holds (brought input start) nothing) = (placed start (brought input start) (hand_begun input s next step hand) there, (facts.moves, (told_of s may_first, one.told))) in
    let first : Cut came = taken input start (may_goes_on s may_first).may.one_each begun in
    let cut : (count : ℕ) → Cut (turning.turns count came) = λ count. rounds input came may count first in
    let own : MovesStayOwn s input next step = λ count. own_moves (turning.turns count came) (may_goes_on (turning.turns count came) (may count)).may.one_each (cut count).1 (told_of (turning.turns count came) (may count)) in
    record { holders = step_keeps_holder_facts s input next step can hand places one own facts.holders; moves = (cut (turning.rounds_for came)).1 }

-- Beginning, and images

pub begins_with_move_facts : (c : Description) (kernel : ℕ) → KeepsMoveFacts (boots c kernel)
begins_with_move_facts c kernel = record {
  holders = begins_with_holder_facts c kernel;
  moves = record { goes = λ pid found moving there step. absurd (cc); held = λ pid found moving there step out told. absurd (cc); next = λ pid work e. absurd (cc) };
}

moves_image : (o : Option Proc) (s : ClientProcs) (pid : ℕ) (image : Machine) → StreamsMoveInTurn s → StreamsMoveInTurn (procs_of.with_proc pid (option_map {T = Proc} (λ proc. record proc { image = image }) o) s)
moves_image None s pid image moves = moves
moves_image (Some proc) s pid image moves = moves

pub image_keeps_move_facts : (s : ClientProcs) (pid : ℕ) (image : Machine) → KeepsMoveFacts s → KeepsMoveFacts (with_image pid image s)
image_keeps_move_facts s pid image facts = record { holders = image_keeps_holder_facts s pid image facts.holders; moves = moves_image (proc_at pid s) s pid image facts.moves }
