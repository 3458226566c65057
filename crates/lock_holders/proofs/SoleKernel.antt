-- Each step of a client's kernel keeps that who has a lock has an operation that has it.
use Rattle.std.proofs.Common.{◌≡◌, ◌⊎◌, inl, inr, ℕ, zero, suc, ◌==◌, Bool, true, false, ◌&&◌, ◌||◌, not, cond, List, [], ◌∷◌, ◌++◌, Option, Some, None, option_map, refl, sym, ap, ◌∙◌, subst, find}
use Rattle.std.proofs.lemmas.Bool.{and_parts, eq-eqb, eqb-true}
use Rattle.std.specs.List.{AllByRecursion, list_all, list_any}
use Rattle.sprite_ids.specs.declared.BlockNo.{BlockNo}
use Rattle.sprite_ids.specs.declared.FileId.{FileId}
use Rattle.sprite_ids.specs.declared.StreamNo.{StreamNo}
use Rattle.sprite_ids.specs.declared.TxNo.{TxNo}
use Rattle.sprite_ids.specs.Lists.{EachOnce, put}
use Rattle.sprite_ids.proofs.OnceLaws.{or_false}
use Rattle.process_machine.specs.Machine.{Machine}
use Rattle.packet_bodies.specs.declared.CarriedStream.{CarriedStream}
use Rattle.packet_bodies.specs.declared.ReplyBody.{ReplyBody}
use Rattle.block_cache.specs.Blocks.{dirty_at}
use Rattle.kernel_steps.specs.declared.Input.{Input}
use Rattle.kernel_steps.specs.declared.Input.TheVariants as inputs
use Rattle.kernel_steps.specs.Rows.{first_under, is_row}
use Rattle.stream_table.specs.declared.Carried.{Carried}
use Rattle.stream_table.specs.Entries.{Entry, holder_in, holder_of, is_of, same_entry}
use Rattle.stream_table.specs.Owners.{Owner, is_number, is_owner, is_used, numbers_of}
use Rattle.stream_table.specs.Streams.{arriving, dupped, forked, is_forked}
use Rattle.stream_table.proofs.EntryLaws.{number_itself, number_turned, one_number}
use Rattle.unix_calls.specs.declared.Description.{Description}
use Rattle.client_file_tables.specs.declared.client_files.ClientFiles.{ClientFiles}
use Rattle.client_file_tables.specs.declared.pending.Pending.{Pending}
use Rattle.client_file_tables.specs.declared.pending.Pending.TheVariants as operations
use Rattle.client_file_tables.specs.Closes as file_closes
use Rattle.client_file_tables.specs.Rows.{first_call, first_of, same_pid, same_stream}
use Rattle.client_file_tables.specs.Steps as tables
use Rattle.client_file_tables.specs.Steps.{owns}
use Rattle.client_file_tables.specs.Streams as streams
use Rattle.client_data.specs.WriteBacks as written
use Rattle.client_files.specs.Answered as file_answers
use Rattle.client_files.specs.Arrivals as arrivals
use Rattle.client_files.specs.Asked as asked
use Rattle.client_files.specs.Turns as file_turns
use Rattle.client_homes.specs.declared.client.ClientProcs.{ClientProcs}
use Rattle.client_homes.specs.declared.process.Proc.{Proc}
use Rattle.client_homes.specs.Procs as procs_of
use Rattle.client_homes.specs.Procs.{is_call, proc_at}
use Rattle.client_procs.specs.Answered as hearing
use Rattle.client_procs.specs.Boot.{boots}
use Rattle.client_procs.specs.CanTake.{can_take, child_by, is_unopened, made_of, may_be_brought}
use Rattle.client_procs.specs.Readers.{with_image}
use Rattle.client_procs.specs.Steps as stepping
use Rattle.client_procs.specs.Steps.{client_step}
use Rattle.client_procs.specs.Turning as turning
use Rattle.client_facts.specs.FileFacts.{OneOperationEach, does, has_lock_of, held_lock, is_held_by, is_held_rightly, is_named, same_process}
use Rattle.client_facts.specs.GoingOn.{GoesOn}
use Rattle.client_facts.proofs.CostLaws.{times}
use Rattle.client_facts.proofs.TurnLaws.{turns_are_enough}
use Rattle.client_walks.specs.Hands.{brought}
use Rattle.client_walks.specs.PlacesOnce.{InHand, PlacesAreOnce}
use Rattle.client_walks.proofs.AtHomeLaws.{apart_by_deeds}
use Rattle.client_walks.proofs.Deeds.{Hand, WalkApart, nothing}
use Rattle.client_walks.proofs.SideBearing.{BearsSide, all_apart}
use Rattle.client_walks.proofs.WalkLaws.{other_taken, round_ends, walk_heard}
use Rattle.client_rounds.specs.OneThing.{OneThingEach}
use Rattle.client_rounds.proofs.EnoughLaws.{may_goes_on}
use Rattle.client_rounds.proofs.OneLaws.{may_turn_on, one_thing_is_enough, steps_are_enough}
use Rattle.file_walks.proofs.Muted as muted
use Rattle.file_walks.proofs.Muted.{Mute}
use Rattle.file_facts.proofs.BookLaws.{found_each, or_cases, or_left, or_right}
use Rattle.file_facts.proofs.KernelFacts.{quiet_ready}
use Rattle.lock_facts.proofs.Desks.{stands_by}
use Rattle.lock_facts.proofs.HolderLaws.{same_arriving}
use Rattle.lock_facts.proofs.OwnerLaws.{keeps_arriving, keeps_dupped, keeps_forked}
use Rattle.lock_facts.proofs.RankKernel as rank_kernel
use Rattle.lock_facts.proofs.RankKernel.{All, both_sides, order_of}
use Rattle.lock_facts.proofs.RestFacts as lock_rest
use Rattle.lock_facts.proofs.WaitRest as wait_rest
use Rattle.holder_facts.proofs.Lines as lines
use Rattle.holder_facts.proofs.LineAnswers as line_answers
use Rattle.holder_facts.proofs.LineKernel as line_kernel
use Rattle.holder_facts.proofs.LineKernel.{Fresh, FreshIn, begins_with_queue_facts, image_keeps_queue_facts, once_split, step_keeps_queue_facts}
use Rattle.holder_facts.proofs.LineRuns as line_runs
use Rattle.holder_facts.proofs.LineRuns.{Lines}
use Rattle.lock_holders.specs.HolderFacts.{IsOwn, KeepsHolderFacts, LeadsToFile, MovesAreOwn, MovesStayOwn, StandsAtFile}
use Rattle.lock_holders.proofs.FileStreams.{files_arriving}
use Rattle.lock_holders.proofs.IssueWalks as issue_walks
use Rattle.lock_holders.proofs.IssueWalks.{RunsIssue}
use Rattle.lock_holders.proofs.Soles as soles
use Rattle.lock_holders.proofs.Soles.{Has, Sole, Stood, Woken}
use Rattle.lock_holders.proofs.SoleAnswers as sole_answers
use Rattle.lock_holders.proofs.SoleAnswers.{fits_new, made_at, unopened_in}
use Rattle.lock_holders.proofs.SoleRuns as sole_runs
use Rattle.lock_holders.proofs.SoleRuns.{Known, Soles}

-- outside the turns it isn't known of which streams moves are
abbrev Never : Type 0
Never = ⊥

-- where each process has one operation at most
abbrev FreshSole : ClientFiles → Type 0
FreshSole s = EachOnce same_process s.pending → Soles Never s

abbrev Pairs : ClientFiles → Type 0
Pairs s = (Fresh s) × (FreshSole s)

sole_push : (rows : List (ℕ × Pending)) (owners : List Owner) (es : List Entry) (waits : List (StreamNo × ℕ)) (ready : List ℕ) (pid : ℕ) (operation : Pending) → FreshIn rows owners waits ready → (EachOnce same_process rows → Sole Never rows owners es waits ready)
    → EachOnce same_process (rows ++ (pid, operation) ∷ []) → Sole Never (rows ++ (pid, operation) ∷ []) owners es waits ready
sole_push rows owners es waits ready pid operation f p once =
    let parts = once_split rows pid operation once in
    soles.kept Never pid None rows owners es waits waits ready operation (λ stream never. absurd (cc)) (λ stream there moves. absurd (let no = lines.none_stands rows owners waits ready pid parts.1 (f parts.0).0 stream there in cc)) (λ stream other apart there. there) (λ never. absurd never)
    (soles.none_but Never rows owners es waits ready pid parts.1 (p parts.0))

sole_start : (rows : List (ℕ × Pending)) (owners : List Owner) (es : List Entry) (waits : List (StreamNo × ℕ)) (ready : List ℕ) (pid : ℕ) (operation : Pending) → FreshIn rows owners waits ready → (EachOnce same_process rows → Sole Never rows owners es waits ready)
    → EachOnce same_process (rows ++ (pid, operation) ∷ []) → Sole Never (rows ++ (pid, operation) ∷ []) owners es waits (ready ++ pid ∷ [])
sole_start rows owners es waits ready pid operation f p once = soles.sole_woken Never (rows ++ (pid, operation) ∷ []) owners es waits ready (pid ∷ []) (sole_push rows owners es waits ready pid operation f p once)

mute : Mute FreshSole
mute = record { caches = λ s cache p. p; delays = λ s rows p. p; tells = λ s event p. p; answers = λ s tx body p. p; learns = λ s domains p. p; cwds = λ s rows p. p; counts = λ s p. p }

mute_pairs : Mute Pairs
mute_pairs = record { caches = λ s cache p. p; delays = λ s rows p. p; tells = λ s event p. p; answers = λ s tx body p. p; learns = λ s domains p. p; cwds = λ s rows p. p; counts = λ s p. p }

on_if : (b : Bool) (s t : ClientFiles) → FreshSole s → FreshSole t → FreshSole (cond b s t)
on_if true s t p q = p
on_if false s t p q = q

issue_runs : (pid : ℕ) → RunsIssue pid Pairs Pairs
issue_runs pid = record {
  quiet = mute_pairs;
  dups = λ s fd p. (
    (line_kernel.call_runs pid).dups s fd p.0,
    λ once. soles.sole_still Never s.pending s.streams.owners (dupped s.streams pid fd).owners s.streams.entries s.streams.entries s.lock_waits s.ready (λ other. keeps_dupped s.streams pid fd other) (λ m. refl) (λ m file. file) (p.1 once),
  );
  begins = λ s operation begins leads p. (line_kernel.fresh_start s.pending s.streams.owners s.lock_waits s.ready pid operation p.0, sole_start s.pending s.streams.owners s.streams.entries s.lock_waits s.ready pid operation p.0 p.1);
  echoes = λ s work server p. (line_kernel.fresh_push s.pending s.streams.owners s.lock_waits s.ready pid _ p.0, sole_push s.pending s.streams.owners s.streams.entries s.lock_waits s.ready pid _ p.0 p.1);
  broadcasts = λ s work prefix p. (line_kernel.fresh_push s.pending s.streams.owners s.lock_waits s.ready pid _ p.0, sole_push s.pending s.streams.owners s.streams.entries s.lock_waits s.ready pid _ p.0 p.1);
  ends = λ s reply p. p;
  lost = λ s p. p;
}

forks : (s : ClientFiles) (parent child : ℕ) → FreshSole s → FreshSole (record s { streams = forked s.streams parent child })
forks s parent child p = by_test (is_forked s.streams.owners parent child) refl
  where
    by_test : (b : Bool) → is_forked s.streams.owners parent child ≡ b → FreshSole (record s { streams = record s.streams { owners = cond b (put (is_owner child) (record { pid = child; numbers = numbers_of s.streams.owners parent }) s.streams.owners) s.streams.owners } })
    by_test true e = λ once.
        let none : is_used (numbers_of s.streams.owners child) ≡ false = line_kernel.not_used (is_used (numbers_of s.streams.owners child)) (and_parts (is_used (numbers_of s.streams.owners parent)) (not (is_used (numbers_of s.streams.owners child))) e).1 in
        soles.sole_still Never s.pending s.streams.owners (put (is_owner child) (record { pid = child; numbers = numbers_of s.streams.owners parent }) s.streams.owners) s.streams.entries s.streams.entries s.lock_waits s.ready (λ other. keeps_forked s.streams.owners parent child none other) (λ m. refl) (λ m file. file) (p once)
    by_test false e = p

due_by : (o : Option ℕ) (file : FileId) (block : BlockNo) (s : ClientFiles) → FreshSole s → FreshSole (written.due_by o file block s)
due_by (Some number) file block s p = p
due_by None file block s p = p

takes_carried : (list : List CarriedStream) (s : ClientFiles) → FreshSole s → FreshSole (arrivals.takes_carried list s)
takes_carried [] s p = p
takes_carried (stream ∷ list) s p = takes_carried list (asked.takes_some stream.grant s) (muted.takes_some FreshSole mute stream.grant s p)

known_by : (b c d e : Bool) → cond (b || not c) false (d && e) ≡ true → e ≡ true
known_by true c d e f = absurd (cc)
known_by false true d e f = (and_parts d e f).1
known_by false false d e f = absurd (cc)

puts_streams : (pid : ℕ) (items : List Carried) (s : ClientFiles) → FreshSole s → FreshSole (arrivals.puts_streams pid items s)
puts_streams pid items s p = by_test (arrivals.can_arrive pid items s) refl
  where
    by_test : (b : Bool) → arrivals.can_arrive pid items s ≡ b → FreshSole (cond b (record s { streams = arriving s.streams pid items }) s)
    by_test true e = λ once.
        let none : is_used (numbers_of s.streams.owners pid) ≡ false = line_kernel.unused_by (is_used (numbers_of s.streams.owners pid)) (arrivals.are_apart items) (list_all arrivals.is_fit items && list_all (arrivals.is_known_so s.streams.entries) items) e in
        let known : list_all (arrivals.is_known_so s.streams.entries) items ≡ true = known_by (is_used (numbers_of s.streams.owners pid)) (arrivals.are_apart items) (list_all arrivals.is_fit items) (list_all (arrivals.is_known_so s.streams.entries) items) e in
        soles.sole_still Never s.pending s.streams.owners (arriving s.streams pid items).owners s.streams.entries (arriving s.streams pid items).entries s.lock_waits s.ready (λ other. keeps_arriving items s.streams pid none other) (same_arriving items s.streams pid) (files_arriving items s.streams pid known) (p once)
    by_test false e = p

arrives : (pid : ℕ) (cwd : List (List ℕ)) (list : List CarriedStream) (items : List Carried) (s : ClientFiles) → FreshSole s → FreshSole (arrivals.arrives pid cwd list items s)
arrives pid cwd list items s p = puts_streams pid items (streams.sets_cwd pid cwd (arrivals.takes_carried list s)) (muted.sets_cwd FreshSole mute pid cwd (arrivals.takes_carried list s) (takes_carried list s p))

side : (came : Input) → BearsSide came Pairs
side came = record {
  tells = λ s event e p. p;
  enters = λ s entry cause p. p;
  sends = λ s sending p. p;
  answers = λ s tx body e p. p;
  gives = λ s pid reply p. p;
  closes = λ s pid about p. (
    line_kernel.fresh_start s.pending s.streams.owners s.lock_waits s.ready pid (operations.Close (file_closes.ends_by about (file_closes.fds_of pid s))) p.0,
    sole_start s.pending s.streams.owners s.streams.entries s.lock_waits s.ready pid (operations.Close (file_closes.ends_by about (file_closes.fds_of pid s))) p.0 p.1,
  );
  moves = λ s pid work e p. (line_kernel.fresh_start s.pending s.streams.owners s.lock_waits s.ready pid (operations.Move work) p.0, sole_start s.pending s.streams.owners s.streams.entries s.lock_waits s.ready pid (operations.Move work) p.0 p.1);
  has_cwd = λ s pid path p. muted.sets_cwd Pairs mute_pairs pid path s p;
  drops_cwd = λ s pid p. p;
  forks = λ s parent child p. ((line_kernel.side came).forks s parent child p.0, forks s parent child p.1);
  takes_report = λ s rest p. p;
  takes_reply = λ s rest p. p;
  issues = λ s about call device e p. issue_walks.issues (λ (pid : ℕ). Pairs) Pairs issue_runs about call device s p;
  called_back = λ s tx request p. muted.called_back Pairs mute_pairs tx request s p;
  due_goes = λ s file block p. ((line_kernel.side came).due_goes s file block p.0, due_by (dirty_at s.cache.blocks file block.0) file block s p.1);
  arrives = λ s pid cwd list items p. ((line_kernel.side came).arrives s pid cwd list items p.0, arrives pid cwd list items s p.1);
}

-- A step, with the facts of locks, queues and turns

abbrev Both : ClientFiles → Type 0
Both s = (All s) × (Pairs s)

abbrev Settled : ClientFiles → Type 0
Settled s = (All s) × ((Lines s) × (Soles Never s))

abbrev Kept : ClientProcs → Hand → Type 0
Kept s h = Both s.files

walk : (came : Input) → WalkApart Kept came
walk came = apart_by_deeds Kept came (all_apart came (λ own. Both) (λ own. both_sides came All Pairs (rank_kernel.bears.side came) (side came)) (λ own other files p. p))

settled_of : (s : ClientFiles) → OneOperationEach s → Both s → Settled s
settled_of s once p = (p.0, ((p.1.0 once).0, p.1.1 once))

-- the stream that an answered name call makes isn't open
abbrev Comes : Input → ClientFiles → Type 0
Comes (inputs.Replied tx source body) s = owns tx s ≡ true → unopened_in (made_at (first_call tx s.txs) s.pending) s.streams.entries ≡ true
Comes _ s = Unit {0}

answer_by : (b c : Bool) (o : Option ℕ) (s : ClientFiles) → cond b (is_unopened (made_of o s) s) c ≡ true → b ≡ true → unopened_in (made_at o s.pending) s.streams.entries ≡ true
answer_by true c o s e f = fits_new o s e
answer_by false c o s e f = absurd (cc)

comes_at : (input : Input) (s : ClientProcs) (next : TxNo) (step : ℕ) → can_take input s ≡ true → Comes input (stepping.begins_step next step s).files
comes_at (inputs.Replied tx source body) s next step can = answer_by (owns tx s.files) (may_be_brought (child_by (first_under is_call tx s.unfinished) body s) s) (first_call tx s.files.txs) s.files can
comes_at (inputs.GaveUp tx) s next step can = tt
comes_at (inputs.Issued pid number call) s next step can = tt
comes_at (inputs.Request tx source body) s next step can = tt
comes_at (inputs.Due file block) s next step can = tt
comes_at (inputs.PageNeeded pid page) s next step can = tt

heard : (b : Bool) (tx : TxNo) (source : ℕ) (body : ReplyBody) (s : ClientProcs) → (b ≡ true → unopened_in (made_at (first_call tx s.files.txs) s.files.pending) s.files.streams.entries ≡ true) → s.files.ready ≡ [] → OneOperationEach s.files
    → OneOperationEach (cond b (record s { files = file_answers.answered tx source body s.files }) (hearing.hears_own tx body s)).files → Both s.files → Settled (cond b (record s { files = file_answers.answered tx source body s.files }) (hearing.hears_own tx body s)).files
heard true tx source body s new quiet once after p = (
  rank_kernel.bears.answered s.files tx source body once p.0,
  (
    line_answers.answered s.files tx source body quiet once p.0.0.0 p.0.0.1 p.0.1 (p.1.0 once).0,
    sole_answers.answered Never s.files tx source body quiet once p.0.0.0 p.0.0.1 p.0.1 (p.1.0 once).0 (new refl) (p.1.1 once),
  ),
)
heard false tx source body s new quiet once after p = settled_of (hearing.hears_own tx body s).files after (walk_heard Kept (inputs.Replied tx source body) (walk (inputs.Replied tx source body)) nothing tx body s p)

taken : (input : Input) (s : ClientProcs) → Comes input s.files → s.files.ready ≡ [] → OneOperationEach s.files → OneOperationEach (stepping.takes input s).files → Both s.files → Settled (stepping.takes input s).files
taken (inputs.Replied tx source body) s new quiet once after p = heard (owns tx s.files) tx source body s new quiet once after p
taken (inputs.GaveUp tx) s new quiet once after p = (rank_kernel.bears.given_up s.files tx once p.0, (line_answers.given_up s.files tx once (p.1.0 once).0, sole_answers.given_up Never s.files tx once (p.1.1 once)))
taken (inputs.Issued pid number call) s new quiet once after p = settled_of (stepping.takes (inputs.Issued pid number call) s).files after (other_taken Kept (inputs.Issued pid number call) (walk (inputs.Issued pid number call)) nothing (inputs.Issued pid number call) s refl tt p)
taken (inputs.Request tx source body) s new quiet once after p = settled_of (stepping.takes (inputs.Request tx source body) s).files after (other_taken Kept (inputs.Request tx source body) (walk (inputs.Request tx source body)) nothing (inputs.Request tx source body) s refl tt p)
taken (inputs.Due file block) s new quiet once after p = settled_of (stepping.takes (inputs.Due file block) s).files after (other_taken Kept (inputs.Due file block) (walk (inputs.Due file block)) nothing (inputs.Due file block) s refl tt p)
taken (inputs.PageNeeded pid page) s new quiet once after p = settled_of (stepping.takes (inputs.PageNeeded pid page) s).files after (other_taken Kept (inputs.PageNeeded pid page) (walk (inputs.PageNeeded pid page)) nothing (inputs.PageNeeded pid page) s refl tt p)

-- Rounds

known : (s : ClientFiles) → MovesAreOwn s → Soles Never s → Soles Known s
known s own p = record { has = p.has; stood = p.stood; owned = λ f pid operation found. found_each (IsOwn s.streams.owners) pid s.pending operation own found }

forgets : (s : ClientFiles) → Soles Known s → Soles Never s
forgets s p = record { has = p.has; stood = p.stood; owned = λ never. absurd never }

ran : (s : ClientFiles) → GoesOn s → MovesAreOwn s → Settled s → Both (file_turns.goes_on s)
ran s goes own p = (
  rank_kernel.bears.goes_on s goes.may.one_each p.0,
  (
    λ once. (line_runs.going_on_keeps s goes.may.one_each p.0.0.0 p.0.0.1 p.0.1 p.1.0, λ pid none. ap (times pid) (turns_are_enough s goes.may)),
    λ once. forgets (file_turns.goes_on s) (sole_runs.going_on_keeps s goes.may.one_each p.0.0.0 p.0.0.1 p.0.1 p.1.0 (known s own p.1.1)),
  ),
)

round_by : (b : Bool) (came : Input) (s : ClientProcs) → GoesOn s.files → MovesAreOwn s.files → OneOperationEach (cond b s (turning.takes_all (turning.gives_all (record s { files = file_turns.goes_on s.files })))).files → Settled s.files
    → Settled (cond b s (turning.takes_all (turning.gives_all (record s { files = file_turns.goes_on s.files })))).files
round_by true came s goes own after p = p
round_by false came s goes own after p =
    settled_of (turning.takes_all (turning.gives_all (record s { files = file_turns.goes_on s.files }))).files after (round_ends Kept came (walk came) nothing (record s { files = file_turns.goes_on s.files }) (ran s.files goes own p))

rounds : (came : Input) (s : ClientProcs) → ((count : ℕ) → GoesOn (turning.turns count s).files) → ((count : ℕ) → MovesAreOwn (turning.turns count s).files) → (count : ℕ) → Settled s.files → Settled (turning.turns count s).files
rounds came s goes own zero p = p
rounds came s goes own (suc count) p = let before : ClientProcs = turning.turns count s in round_by (turning.is_quiet before) came before (goes count) (own count) (goes (suc count)).may.one_each (rounds came s goes own count p)

-- Between two steps

named_by : (stream : StreamNo) (o : Option StreamNo) → is_named stream o ≡ true → o ≡ Some stream
named_by stream (Some other) e = ap Some (sym (one_number stream other e))
named_by stream None e = absurd (cc)

held_by : (s : ClientFiles) (stream : StreamNo) (pid : ℕ) (o : Option Pending) → first_of pid s.pending ≡ o → does (has_lock_of stream) o ≡ true → Has s.pending s.streams.owners s.streams.entries s.ready stream pid
held_by s stream pid (Some operation) found e = record { operation = operation; found = found; how = inl (named_by stream (held_lock operation) e) }
held_by s stream pid None found e = absurd (cc)

held_in : (s : ClientFiles) (entry : Entry) (rest : List Entry) (stream : StreamNo) (pid : ℕ) (b : Bool) → is_of stream entry ≡ b → is_held_rightly s entry ≡ true → (holder_of rest stream ≡ Some pid → does (has_lock_of stream) (first_of pid s.pending) ≡ true) → holder_in (cond b (Some entry) (find (is_of stream) rest)) ≡ Some pid
    → does (has_lock_of stream) (first_of pid s.pending) ≡ true
held_in s entry rest stream pid true e right later mine =
    let rightly : is_held_by (Some pid) entry.number s ≡ true = ap (λ (o : Option ℕ). is_held_by o entry.number s) (sym mine) ∙ right in
    ap (λ (m : StreamNo). does (has_lock_of m) (first_of pid s.pending)) (one_number stream entry.number e) ∙ rightly
held_in s entry rest stream pid false e right later mine = later mine

all_held : (s : ClientFiles) (es : List Entry) (stream : StreamNo) (pid : ℕ) → list_all (is_held_rightly s) es ≡ true → holder_of es stream ≡ Some pid → does (has_lock_of stream) (first_of pid s.pending) ≡ true
all_held s [] stream pid all mine = absurd (cc)
all_held s (entry ∷ rest) stream pid all mine =
    let parts = and_parts (is_held_rightly s entry) (list_all (is_held_rightly s) rest) all in
    held_in s entry rest stream pid (is_of stream entry) refl parts.0 (all_held s rest stream pid parts.1) mine

stood_in : (s : ClientFiles) (waits : List (StreamNo × ℕ)) → AllByRecursion (StandsAtFile s) waits → Stood s.pending s.streams.owners s.streams.entries waits
stood_in s [] all stream pid operation stands found moves = absurd (cc)
stood_in s (row ∷ rest) all stream pid operation stands found moves = by_case (λ there. stood_in s rest all.1 stream pid operation there found moves) (or_cases (is_row same_stream same_pid stream pid row) (stands_by pid stream rest) stands)
  where
    by_case : (stands_by pid stream rest ≡ true → LeadsToFile s.streams.owners s.streams.entries stream pid) → (is_row same_stream same_pid stream pid row ≡ true) ⊎ (stands_by pid stream rest ≡ true) → LeadsToFile s.streams.owners s.streams.entries stream pid
    by_case later (inl here) =
        let same = and_parts (same_stream row.0 stream) (row.1 == pid) here in
        let is : row.1 ≡ pid = eqb-true row.1 pid same.1 in
        subst (λ (n : ℕ). LeadsToFile s.streams.owners s.streams.entries stream n) is
        (subst (λ (m : StreamNo). LeadsToFile s.streams.owners s.streams.entries m row.1) (sym (one_number stream row.0 same.0)) (all.0 operation (subst (λ (n : ℕ). first_of n s.pending ≡ Some operation) (sym is) found) moves))
    by_case later (inr there) = later there

-- at first
begun : (s : ClientFiles) → list_all (is_held_rightly s) s.streams.entries ≡ true → AllByRecursion (StandsAtFile s) s.lock_waits → FreshSole s
begun s all files = λ once. record { has = λ stream pid e. held_by s stream pid (first_of pid s.pending) refl (all_held s s.streams.entries stream pid all e); stood = stood_in s s.lock_waits files; owned = λ never. absurd never }

-- and at last
own_holder : (e : Entry) (x : Entry) (o : Option Entry) → is_number e.number x.number ≡ false → holder_in o ≡ e.holder → holder_in (cond (is_of e.number x) (Some x) o) ≡ e.holder
own_holder e x o apart later = ap (λ (b : Bool). holder_in (cond b (Some x) o)) apart ∙ later

later_holders : (x : Entry) (xs ys : List Entry) → list_any (same_entry x) ys ≡ false → AllByRecursion (λ (e : Entry). holder_of xs e.number ≡ e.holder) ys → AllByRecursion (λ (e : Entry). holder_of (x ∷ xs) e.number ≡ e.holder) ys
later_holders x xs [] apart all = tt
later_holders x xs (e ∷ ys) apart all =
    let parts = or_false (same_entry x e) (list_any (same_entry x) ys) apart in
    (own_holder e x (find (is_of e.number) xs) (number_turned e.number x.number ∙ parts.0) all.0, later_holders x xs ys parts.1 all.1)

own_holders : (es : List Entry) → EachOnce same_entry es → AllByRecursion (λ (e : Entry). holder_of es e.number ≡ e.holder) es
own_holders [] once = tt
own_holders (x ∷ xs) once = (ap (λ (b : Bool). holder_in (cond b (Some x) (find (is_of x.number) xs))) (number_itself x.number), later_holders x xs xs once.0 (own_holders xs once.1))

held_so : (s : ClientFiles) (stream : StreamNo) (o : Option ℕ) → s.ready ≡ [] → ((pid : ℕ) → o ≡ Some pid → Has s.pending s.streams.owners s.streams.entries s.ready stream pid) → is_held_by o stream s ≡ true
held_so s stream None quiet has = refl
held_so s stream (Some pid) quiet has =
    let mine : Has s.pending s.streams.owners s.streams.entries s.ready stream pid = has pid refl in
    ap (does (has_lock_of stream)) mine.found ∙ by_case mine.operation mine.how
  where
    by_case : (operation : Pending) → (held_lock operation ≡ Some stream) ⊎ Woken s.streams.owners s.streams.entries s.ready stream pid operation → is_named stream (held_lock operation) ≡ true
    by_case operation (inl held) = ap (is_named stream) held ∙ number_itself stream
    by_case operation (inr woken) = absurd (let never = ap (λ (ready : List ℕ). list_any (λ (other : ℕ). other == pid) ready) quiet in let yes = woken.woken in let both = sym yes ∙ never in cc)

all_rightly : (s : ClientFiles) (es : List Entry) → s.ready ≡ [] → ((stream : StreamNo) (pid : ℕ) → holder_of s.streams.entries stream ≡ Some pid → Has s.pending s.streams.owners s.streams.entries s.ready stream pid)
    → AllByRecursion (λ (e : Entry). holder_of s.streams.entries e.number ≡ e.holder) es → list_all (is_held_rightly s) es ≡ true
all_rightly s [] quiet has own = refl
all_rightly s (e ∷ es) quiet has own =
    ap (λ (b : Bool). b && list_all (is_held_rightly s) es) (held_so s e.number e.holder quiet (λ pid is. has e.number pid (own.0 ∙ is))) ∙ all_rightly s es quiet has own.1

all_stand : (s : ClientFiles) (waits : List (StreamNo × ℕ)) → Stood s.pending s.streams.owners s.streams.entries waits → AllByRecursion (StandsAtFile s) waits
all_stand s [] stood = tt
all_stand s (row ∷ rest) stood = (
  λ operation found moves. stood row.0 row.1 operation (or_left (is_row same_stream same_pid row.0 row.1 row) (stands_by row.1 row.0 rest) (ap (λ (b : Bool). b && (row.1 == row.1)) (number_itself row.0) ∙ eq-eqb row.1 row.1 refl)) found moves,
  all_stand s rest (λ stream pid operation stands found moves. stood stream pid operation (or_right (is_row same_stream same_pid stream pid row) (stands_by pid stream rest) stands) found moves),
)

pub step_keeps_holder_facts : (s : ClientProcs) (input : Input) (next : TxNo) (step : ℕ) → can_take input s ≡ true → InHand (brought input s) s → PlacesAreOnce s → OneThingEach s → MovesStayOwn s input next step → KeepsHolderFacts s.files → KeepsHolderFacts (client_step s input next step).0.files
step_keeps_holder_facts s input next step can hand places one own facts =
    let start : ClientProcs = stepping.begins_step next step s in
    let came : ClientProcs = stepping.takes input start in
    let gone : ClientProcs = turning.goes_on came in
    let turns = facts.queues.turns in
    let goes = may_goes_on s (one_thing_is_enough s one) in
    let all : All start.files = ((lock_rest.begun next step s.files goes.queues turns.locks, wait_rest.begun next step s.files turns.waits), (order_of s.files s.files.fillers turns.needs turns.others, goes.may.turns)) in
    let each : (count : ℕ) → GoesOn (turning.turns count came).files = λ count. may_goes_on (turning.turns count came) (may_turn_on count s input next step hand places one) in
    let fresh : Pairs start.files = (line_kernel.begun s.files turns.waits.rests facts.queues.waiting, begun s.files facts.none_else facts.at_files) in
    let first : Settled came.files = taken input start (comes_at input s next step can) turns.waits.rests goes.may.one_each (each 0).may.one_each (all, fresh) in
    let last : Settled gone.files = rounds input came each own (turning.rounds_for came) first in
    let queues = step_keeps_queue_facts s input next step hand places one facts.queues in
    let quiet = quiet_ready gone (steps_are_enough s input next step hand places one) in
    record {
      queues = queues;
      none_else = all_rightly (tables.said gone.files) gone.files.streams.entries quiet last.1.1.has (own_holders gone.files.streams.entries queues.turns.waits.table.entries_once);
      at_files = all_stand (tables.said gone.files) gone.files.lock_waits last.1.1.stood;
    }

-- Beginning, and images

pub begins_with_holder_facts : (c : Description) (kernel : ℕ) → KeepsHolderFacts (boots c kernel).files
begins_with_holder_facts c kernel = record { queues = begins_with_queue_facts c kernel; none_else = refl; at_files = tt }

held_image : (o : Option Proc) (s : ClientProcs) (pid : ℕ) (image : Machine) → KeepsHolderFacts s.files → list_all (is_held_rightly (procs_of.with_proc pid (option_map {T = Proc} (λ proc. record proc { image = image }) o) s).files) (procs_of.with_proc pid (option_map {T = Proc} (λ proc. record proc { image = image }) o) s).files.streams.entries ≡ true
held_image None s pid image facts = facts.none_else
held_image (Some proc) s pid image facts = facts.none_else

files_image : (o : Option Proc) (s : ClientProcs) (pid : ℕ) (image : Machine) → KeepsHolderFacts s.files → AllByRecursion (StandsAtFile (procs_of.with_proc pid (option_map {T = Proc} (λ proc. record proc { image = image }) o) s).files) (procs_of.with_proc pid (option_map {T = Proc} (λ proc. record proc { image = image }) o) s).files.lock_waits
files_image None s pid image facts = facts.at_files
files_image (Some proc) s pid image facts = facts.at_files

pub image_keeps_holder_facts : (s : ClientProcs) (pid : ℕ) (image : Machine) → KeepsHolderFacts s.files → KeepsHolderFacts (with_image pid image s).files
image_keeps_holder_facts s pid image facts = record { queues = image_keeps_queue_facts s pid image facts.queues; none_else = held_image (proc_at pid s) s pid image facts; at_files = files_image (proc_at pid s) s pid image facts }
