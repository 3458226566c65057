-- Each step of a client's kernel keeps that who stands in a queue waits for that lock.
use Rattle.std.proofs.Common.{arith, ◌≡◌, ◌⊎◌, inl, inr, ℕ, zero, suc, ◌==◌, Bool, true, false, ◌&&◌, ◌||◌, not, cond, List, [], ◌∷◌, ◌++◌, Option, Some, None, option_map, refl, sym, ap, ◌∙◌, subst}
use Rattle.std.proofs.lemmas.Bool.{and_parts, eq-eqb, eqb-true}
use Rattle.std.proofs.lemmas.List.Folds.{list_any-append}
use Rattle.std.specs.List.{list_all, list_any}
use Rattle.sprite_ids.specs.declared.BlockNo.{BlockNo}
use Rattle.sprite_ids.specs.declared.FileId.{FileId}
use Rattle.sprite_ids.specs.declared.StreamNo.{StreamNo}
use Rattle.sprite_ids.specs.declared.TxNo.{TxNo}
use Rattle.sprite_ids.specs.Lists.{EachOnce, put}
use Rattle.sprite_ids.proofs.OnceLaws.{or_false}
use Rattle.process_machine.specs.Machine.{Machine}
use Rattle.packet_bodies.specs.declared.CarriedStream.{CarriedStream}
use Rattle.packet_bodies.specs.declared.ReplyBody.{ReplyBody}
use Rattle.block_cache.specs.Blocks.{dirty_at}
use Rattle.kernel_steps.specs.declared.Input.{Input}
use Rattle.kernel_steps.specs.declared.Input.TheVariants as inputs
use Rattle.kernel_steps.specs.Rows.{is_row, is_under}
use Rattle.stream_table.specs.declared.Carried.{Carried}
use Rattle.stream_table.specs.Entries.{is_placed}
use Rattle.stream_table.specs.Owners.{Owner, is_owner, is_used, numbers_of}
use Rattle.stream_table.specs.Streams.{added, arriving, dupped, forked, is_forked}
use Rattle.stream_table.proofs.EntryLaws.{number_itself, one_number}
use Rattle.stream_table.proofs.OwnerLaws.{eq_turned}
use Rattle.unix_calls.specs.declared.Description.{Description}
use Rattle.client_file_tables.specs.declared.client_files.ClientFiles.{ClientFiles}
use Rattle.client_file_tables.specs.declared.pending.Pending.{Pending}
use Rattle.client_file_tables.specs.declared.pending.Pending.TheVariants as operations
use Rattle.client_file_tables.specs.Closes as file_closes
use Rattle.client_file_tables.specs.Rows.{first_of, same_pid, same_stream}
use Rattle.client_file_tables.specs.Steps as tables
use Rattle.client_file_tables.specs.Steps.{owns}
use Rattle.client_file_tables.specs.Streams as streams
use Rattle.client_data.specs.WriteBacks as written
use Rattle.client_files.specs.Answered as file_answers
use Rattle.client_files.specs.Arrivals as arrivals
use Rattle.client_files.specs.Asked as asked
use Rattle.client_files.specs.Turns as file_turns
use Rattle.client_homes.specs.declared.client.ClientProcs.{ClientProcs}
use Rattle.client_homes.specs.declared.process.Proc.{Proc}
use Rattle.client_homes.specs.Procs as procs_of
use Rattle.client_homes.specs.Procs.{proc_at}
use Rattle.client_procs.specs.Answered as hearing
use Rattle.client_procs.specs.Boot.{boots}
use Rattle.client_procs.specs.Readers.{with_image}
use Rattle.client_procs.specs.Steps as stepping
use Rattle.client_procs.specs.Steps.{client_step}
use Rattle.client_procs.specs.Turning as turning
use Rattle.client_facts.specs.FileFacts.{OneOperationEach, does, is_named, is_waiting, same_process, wanted_lock, wants_lock_of}
use Rattle.client_facts.specs.GoingOn.{GoesOn}
use Rattle.client_facts.proofs.CostLaws.{times, times_pushed}
use Rattle.client_facts.proofs.TurnLaws.{turns_are_enough}
use Rattle.client_walks.specs.Hands.{brought}
use Rattle.client_walks.specs.PlacesOnce.{InHand, PlacesAreOnce}
use Rattle.client_walks.proofs.AtHomeLaws.{apart_by_deeds}
use Rattle.client_walks.proofs.Deeds.{Hand, WalkApart, nothing}
use Rattle.client_walks.proofs.SideBearing.{BearsSide, all_apart}
use Rattle.client_walks.proofs.WalkLaws.{other_taken, round_ends, walk_heard}
use Rattle.client_rounds.specs.OneThing.{OneThingEach}
use Rattle.client_rounds.proofs.EnoughLaws.{may_goes_on}
use Rattle.client_rounds.proofs.OneLaws.{may_turn_on, one_thing_is_enough}
use Rattle.file_walks.proofs.CallWalks as call_walks
use Rattle.file_walks.proofs.CallWalks.{RunsCall}
use Rattle.file_walks.proofs.Muted as muted
use Rattle.file_walks.proofs.Muted.{Mute}
use Rattle.file_facts.proofs.BookLaws.{or_cases, or_left, or_right}
use Rattle.lock_facts.proofs.Desks.{stands_by}
use Rattle.lock_facts.proofs.OwnerLaws.{keeps_added, keeps_arriving, keeps_dupped, keeps_forked}
use Rattle.lock_facts.proofs.RankKernel as rank_kernel
use Rattle.lock_facts.proofs.RankKernel.{All, both_sides, begins_with_turn_facts, image_keeps_turn_facts, order_of, step_keeps_turn_facts}
use Rattle.lock_facts.proofs.RestFacts as lock_rest
use Rattle.lock_facts.proofs.WaitRest as wait_rest
use Rattle.lock_facts.proofs.WaitRest.{wanted_same}
use Rattle.holder_facts.specs.QueueFacts.{KeepsQueueFacts}
use Rattle.holder_facts.proofs.Lines as lines
use Rattle.holder_facts.proofs.Lines.{InLine, Lined}
use Rattle.holder_facts.proofs.LineAnswers.{answered, given_up, with_table}
use Rattle.holder_facts.proofs.LineRuns.{Lines, going_on_keeps}

-- Outside the turns of the files' side, who is woken has an operation

abbrev pub Awake : List (ℕ × Pending) → List ℕ → Type 0
Awake rows ready = (pid : ℕ) → list_any (is_under same_pid pid) rows ≡ false → times pid ready ≡ 0

-- where each process has one operation at most
abbrev pub FreshIn : List (ℕ × Pending) → List Owner → List (StreamNo × ℕ) → List ℕ → Type 0
FreshIn rows owners waits ready = EachOnce same_process rows → (Lined rows owners waits ready) × (Awake rows ready)

abbrev pub Fresh : ClientFiles → Type 0
Fresh s = FreshIn s.pending s.streams.owners s.lock_waits s.ready

any_split : {X : Type 0} (p : X → Bool) (xs : List X) (x : X) → list_any p (xs ++ x ∷ []) ≡ false → (list_any p xs ≡ false) × (p x ≡ false)
any_split p xs x e =
    let parts = or_false (list_any p xs) (list_any p (x ∷ [])) (sym (list_any-append p xs (x ∷ [])) ∙ e) in
    (parts.0, (or_false (p x) false parts.1).0)

pub once_split : (rows : List (ℕ × Pending)) (pid : ℕ) (operation : Pending) → EachOnce same_process (rows ++ (pid, operation) ∷ []) → (EachOnce same_process rows) × (list_any (is_under same_pid pid) rows ≡ false)
once_split [] pid operation once = (tt, refl)
once_split (row ∷ rows) pid operation once =
    let first = any_split (same_process row) rows (pid, operation) once.0 in
    let rest = once_split rows pid operation once.1 in
    ((first.0, rest.0), ap (λ (b : Bool). b || list_any (is_under same_pid pid) rows) (eq_turned row.0 pid ∙ first.1) ∙ rest.1)

pub fresh_push : (rows : List (ℕ × Pending)) (owners : List Owner) (waits : List (StreamNo × ℕ)) (ready : List ℕ) (pid : ℕ) (operation : Pending) → FreshIn rows owners waits ready → FreshIn (rows ++ (pid, operation) ∷ []) owners waits ready
fresh_push rows owners waits ready pid operation p once =
    let parts = once_split rows pid operation once in
    let q = p parts.0 in
    (lines.pushed_lined rows owners waits ready pid operation parts.1 (λ moves. q.1 pid parts.1) q.0, λ other none. q.1 other (any_split (is_under same_pid other) rows (pid, operation) none).0)

pub fresh_start : (rows : List (ℕ × Pending)) (owners : List Owner) (waits : List (StreamNo × ℕ)) (ready : List ℕ) (pid : ℕ) (operation : Pending) → FreshIn rows owners waits ready → FreshIn (rows ++ (pid, operation) ∷ []) owners waits (ready ++ pid ∷ [])
fresh_start rows owners waits ready pid operation p once =
    let parts = once_split rows pid operation once in
    let q = p parts.0 in (
      lines.started_lined rows owners waits ready pid operation parts.1 (λ moves. q.1 pid parts.1) q.0,
      λ other none. let apart = any_split (is_under same_pid other) rows (pid, operation) none in times_pushed other pid ready (eq_turned other pid ∙ apart.1) ∙ q.1 other apart.0,
    )

mute : Mute Fresh
mute = record { caches = λ s cache p. p; delays = λ s rows p. p; tells = λ s event p. p; answers = λ s tx body p. p; learns = λ s domains p. p; cwds = λ s rows p. p; counts = λ s p. p }

on_if : (b : Bool) (s t : ClientFiles) → Fresh s → Fresh t → Fresh (cond b s t)
on_if true s t p q = p
on_if false s t p q = q

pub call_runs : (pid : ℕ) → RunsCall pid Fresh Fresh
call_runs pid = record {
  quiet = mute;
  adds = λ s number stream p. on_if (is_placed stream) (record s { streams = added s.streams pid number stream }) s (λ once. (with_table s (added s.streams pid number stream) (keeps_added s.streams pid number stream) (p once).0, (p once).1)) p;
  dups = λ s fd p once. (with_table s (dupped s.streams pid fd) (keeps_dupped s.streams pid fd) (p once).0, (p once).1);
  begins = λ s operation begins leads p. fresh_start s.pending s.streams.owners s.lock_waits s.ready pid operation p;
  echoes = λ s work server p. fresh_push s.pending s.streams.owners s.lock_waits s.ready pid _ p;
  broadcasts = λ s work prefix p. fresh_push s.pending s.streams.owners s.lock_waits s.ready pid _ p;
  asks = λ s work server p. fresh_push s.pending s.streams.owners s.lock_waits s.ready pid _ p;
  ends = λ s reply p. p;
  lost = λ s p. p;
}

pub not_used : (b : Bool) → not b ≡ true → b ≡ false
not_used true e = absurd (cc)
not_used false e = refl

forks : (s : ClientFiles) (parent child : ℕ) → Fresh s → Fresh (record s { streams = forked s.streams parent child })
forks s parent child p = by_test (is_forked s.streams.owners parent child) refl
  where
    by_test : (b : Bool) → is_forked s.streams.owners parent child ≡ b → Fresh (record s { streams = record s.streams { owners = cond b (put (is_owner child) (record { pid = child; numbers = numbers_of s.streams.owners parent }) s.streams.owners) s.streams.owners } })
    by_test true e = λ once.
        let none : is_used (numbers_of s.streams.owners child) ≡ false = not_used (is_used (numbers_of s.streams.owners child)) (and_parts (is_used (numbers_of s.streams.owners parent)) (not (is_used (numbers_of s.streams.owners child))) e).1 in
        (with_table s (record s.streams { owners = put (is_owner child) (record { pid = child; numbers = numbers_of s.streams.owners parent }) s.streams.owners }) (keeps_forked s.streams.owners parent child none) (p once).0, (p once).1)
    by_test false e = p

due_by : (o : Option ℕ) (file : FileId) (block : BlockNo) (s : ClientFiles) → Fresh s → Fresh (written.due_by o file block s)
due_by (Some number) file block s p = p
due_by None file block s p = p

takes_carried : (list : List CarriedStream) (s : ClientFiles) → Fresh s → Fresh (arrivals.takes_carried list s)
takes_carried [] s p = p
takes_carried (stream ∷ list) s p = takes_carried list (asked.takes_some stream.grant s) (muted.takes_some Fresh mute stream.grant s p)

pub unused_by : (b c d : Bool) → cond (b || not c) false d ≡ true → b ≡ false
unused_by true c d e = absurd (cc)
unused_by false c d e = refl

puts_streams : (pid : ℕ) (items : List Carried) (s : ClientFiles) → Fresh s → Fresh (arrivals.puts_streams pid items s)
puts_streams pid items s p = by_test (arrivals.can_arrive pid items s) refl
  where
    by_test : (b : Bool) → arrivals.can_arrive pid items s ≡ b → Fresh (cond b (record s { streams = arriving s.streams pid items }) s)
    by_test true e = λ once.
        let none : is_used (numbers_of s.streams.owners pid) ≡ false = unused_by (is_used (numbers_of s.streams.owners pid)) (arrivals.are_apart items) (list_all arrivals.is_fit items && list_all (arrivals.is_known_so s.streams.entries) items) e in
        (with_table s (arriving s.streams pid items) (keeps_arriving items s.streams pid none) (p once).0, (p once).1)
    by_test false e = p

arrives : (pid : ℕ) (cwd : List (List ℕ)) (list : List CarriedStream) (items : List Carried) (s : ClientFiles) → Fresh s → Fresh (arrivals.arrives pid cwd list items s)
arrives pid cwd list items s p = puts_streams pid items (streams.sets_cwd pid cwd (arrivals.takes_carried list s)) (muted.sets_cwd Fresh mute pid cwd (arrivals.takes_carried list s) (takes_carried list s p))

pub side : (came : Input) → BearsSide came Fresh
side came = record {
  tells = λ s event e p. p;
  enters = λ s entry cause p. p;
  sends = λ s sending p. p;
  answers = λ s tx body e p. p;
  gives = λ s pid reply p. p;
  closes = λ s pid about p. fresh_start s.pending s.streams.owners s.lock_waits s.ready pid (operations.Close (file_closes.ends_by about (file_closes.fds_of pid s))) p;
  moves = λ s pid work e p. fresh_start s.pending s.streams.owners s.lock_waits s.ready pid (operations.Move work) p;
  has_cwd = λ s pid path p. on_if _ _ _ p p;
  drops_cwd = λ s pid p. p;
  forks = λ s parent child p. forks s parent child p;
  takes_report = λ s rest p. p;
  takes_reply = λ s rest p. p;
  issues = λ s about call device e p. call_walks.issues (λ (pid : ℕ). Fresh) Fresh call_runs about call device s p;
  called_back = λ s tx request p. muted.called_back Fresh mute tx request s p;
  due_goes = λ s file block p. due_by (dirty_at s.cache.blocks file block.0) file block s p;
  arrives = λ s pid cwd list items p. arrives pid cwd list items s p;
}

-- A step, with the facts of locks, queues and turns

abbrev Both : ClientFiles → Type 0
Both s = (All s) × (Fresh s)

abbrev Settled : ClientFiles → Type 0
Settled s = (All s) × (Lines s)

abbrev Kept : ClientProcs → Hand → Type 0
Kept s h = Both s.files

walk : (came : Input) → WalkApart Kept came
walk came = apart_by_deeds Kept came (all_apart came (λ own. Both) (λ own. both_sides came All Fresh (rank_kernel.bears.side came) (side came)) (λ own other files p. p))

settled_of : (s : ClientFiles) → OneOperationEach s → Both s → Settled s
settled_of s once p = (p.0, (p.1 once).0)

heard : (b : Bool) (tx : TxNo) (source : ℕ) (body : ReplyBody) (s : ClientProcs) → s.files.ready ≡ [] → OneOperationEach s.files → OneOperationEach (cond b (record s { files = file_answers.answered tx source body s.files }) (hearing.hears_own tx body s)).files → Both s.files
    → Settled (cond b (record s { files = file_answers.answered tx source body s.files }) (hearing.hears_own tx body s)).files
heard true tx source body s quiet once after p = (rank_kernel.bears.answered s.files tx source body once p.0, answered s.files tx source body quiet once p.0.0.0 p.0.0.1 p.0.1 (p.1 once).0)
heard false tx source body s quiet once after p = settled_of (hearing.hears_own tx body s).files after (walk_heard Kept (inputs.Replied tx source body) (walk (inputs.Replied tx source body)) nothing tx body s p)

taken : (input : Input) (s : ClientProcs) → s.files.ready ≡ [] → OneOperationEach s.files → OneOperationEach (stepping.takes input s).files → Both s.files → Settled (stepping.takes input s).files
taken (inputs.Replied tx source body) s quiet once after p = heard (owns tx s.files) tx source body s quiet once after p
taken (inputs.GaveUp tx) s quiet once after p = (rank_kernel.bears.given_up s.files tx once p.0, given_up s.files tx once (p.1 once).0)
taken (inputs.Issued pid number call) s quiet once after p = settled_of (stepping.takes (inputs.Issued pid number call) s).files after (other_taken Kept (inputs.Issued pid number call) (walk (inputs.Issued pid number call)) nothing (inputs.Issued pid number call) s refl tt p)
taken (inputs.Request tx source body) s quiet once after p = settled_of (stepping.takes (inputs.Request tx source body) s).files after (other_taken Kept (inputs.Request tx source body) (walk (inputs.Request tx source body)) nothing (inputs.Request tx source body) s refl tt p)
taken (inputs.Due file block) s quiet once after p = settled_of (stepping.takes (inputs.Due file block) s).files after (other_taken Kept (inputs.Due file block) (walk (inputs.Due file block)) nothing (inputs.Due file block) s refl tt p)
taken (inputs.PageNeeded pid page) s quiet once after p = settled_of (stepping.takes (inputs.PageNeeded pid page) s).files after (other_taken Kept (inputs.PageNeeded pid page) (walk (inputs.PageNeeded pid page)) nothing (inputs.PageNeeded pid page) s refl tt p)

-- Rounds

ran : (s : ClientFiles) → GoesOn s → Settled s → Both (file_turns.goes_on s)
ran s goes p = (
  rank_kernel.bears.goes_on s goes.may.one_each p.0,
  λ once. (going_on_keeps s goes.may.one_each p.0.0.0 p.0.0.1 p.0.1 p.1, λ pid none. ap (times pid) (turns_are_enough s goes.may)),
)

round_by : (b : Bool) (came : Input) (s : ClientProcs) → GoesOn s.files → OneOperationEach (cond b s (turning.takes_all (turning.gives_all (record s { files = file_turns.goes_on s.files })))).files → Settled s.files
    → Settled (cond b s (turning.takes_all (turning.gives_all (record s { files = file_turns.goes_on s.files })))).files
round_by true came s goes after p = p
round_by false came s goes after p =
    settled_of (turning.takes_all (turning.gives_all (record s { files = file_turns.goes_on s.files }))).files after (round_ends Kept came (walk came) nothing (record s { files = file_turns.goes_on s.files }) (ran s.files goes p))

rounds : (came : Input) (s : ClientProcs) → ((count : ℕ) → GoesOn (turning.turns count s).files) → (count : ℕ) → Settled s.files → Settled (turning.turns count s).files
rounds came s goes zero p = p
rounds came s goes (suc count) p = let before : ClientProcs = turning.turns count s in round_by (turning.is_quiet before) came before (goes count) (goes (suc count)).may.one_each (rounds came s goes count p)

-- Between two steps

line_by : (s : ClientFiles) (stream : StreamNo) (pid : ℕ) (o : Option Pending) → first_of pid s.pending ≡ o → does (wants_lock_of s (stream, pid)) o ≡ true → InLine s.pending s.streams.owners stream pid
line_by s stream pid (Some operation) found e = record { operation = operation; found = found; wants = sym (wanted_same s pid operation) ∙ named_by (wanted_lock pid operation s) e }
  where
    named_by : (o : Option StreamNo) → is_named stream o ≡ true → o ≡ Some stream
    named_by (Some other) f = ap Some (sym (one_number stream other f))
    named_by None f = absurd (cc)
line_by s stream pid None found e = absurd (cc)

line_at : (s : ClientFiles) (waits : List (StreamNo × ℕ)) (stream : StreamNo) (pid : ℕ) → list_all (is_waiting s) waits ≡ true → stands_by pid stream waits ≡ true → InLine s.pending s.streams.owners stream pid
line_at s [] stream pid all stands = absurd (cc)
line_at s (row ∷ rest) stream pid all stands =
    let parts = and_parts (is_waiting s row) (list_all (is_waiting s) rest) all in
    by_case (line_at s rest stream pid parts.1) parts.0 (or_cases (is_row same_stream same_pid stream pid row) (stands_by pid stream rest) stands)
  where
    by_case : (stands_by pid stream rest ≡ true → InLine s.pending s.streams.owners stream pid) → is_waiting s row ≡ true → (is_row same_stream same_pid stream pid row ≡ true) ⊎ (stands_by pid stream rest ≡ true) → InLine s.pending s.streams.owners stream pid
    by_case later waits (inl here) =
        let same = and_parts (same_stream row.0 stream) (row.1 == pid) here in
        subst (λ (n : ℕ). InLine s.pending s.streams.owners stream n) (eqb-true row.1 pid same.1)
        (subst (λ (m : StreamNo). InLine s.pending s.streams.owners m row.1) (sym (one_number stream row.0 same.0)) (line_by s row.0 row.1 (first_of row.1 s.pending) refl waits))
    by_case later waits (inr there) = later there

-- at first
pub begun : (s : ClientFiles) → s.ready ≡ [] → list_all (is_waiting s) s.lock_waits ≡ true → Fresh s
begun s quiet all = λ once. (
  record {
    waiting = λ stream pid e. line_at s s.lock_waits stream pid all e;
    single = λ pid operation found moves. let none : times pid s.ready ≡ 0 = ap (times pid) quiet in record { once = omega (arith, none); apart = λ stream stands. none };
  },
  λ pid none. ap (times pid) quiet,
)

-- and at last
all_waiting : (s : ClientFiles) (waits : List (StreamNo × ℕ)) → ((stream : StreamNo) (pid : ℕ) → stands_by pid stream waits ≡ true → InLine s.pending s.streams.owners stream pid) → list_all (is_waiting s) waits ≡ true
all_waiting s [] line = refl
all_waiting s (row ∷ rest) line =
    ap (λ (b : Bool). b && list_all (is_waiting s) rest) first
    ∙ all_waiting s rest (λ stream pid e. line stream pid (or_right (is_row same_stream same_pid stream pid row) (stands_by pid stream rest) e))
  where
    itself : is_row same_stream same_pid row.0 row.1 row ≡ true
    itself = ap (λ (b : Bool). b && (row.1 == row.1)) (number_itself row.0) ∙ eq-eqb row.1 row.1 refl

    mine : InLine s.pending s.streams.owners row.0 row.1
    mine = line row.0 row.1 (or_left (is_row same_stream same_pid row.0 row.1 row) (stands_by row.1 row.0 rest) itself)

    first : is_waiting s row ≡ true
    first = ap (does (wants_lock_of s row)) mine.found ∙ ap (is_named row.0) (wanted_same s row.1 mine.operation ∙ mine.wants) ∙ number_itself row.0

pub step_keeps_queue_facts : (s : ClientProcs) (input : Input) (next : TxNo) (step : ℕ) → InHand (brought input s) s → PlacesAreOnce s → OneThingEach s → KeepsQueueFacts s.files → KeepsQueueFacts (client_step s input next step).0.files
step_keeps_queue_facts s input next step hand places one facts =
    let start : ClientProcs = stepping.begins_step next step s in
    let came : ClientProcs = stepping.takes input start in
    let gone : ClientProcs = turning.goes_on came in
    let goes = may_goes_on s (one_thing_is_enough s one) in
    let all : All start.files =
    ((lock_rest.begun next step s.files goes.queues facts.turns.locks, wait_rest.begun next step s.files facts.turns.waits), (order_of s.files s.files.fillers facts.turns.needs facts.turns.others, goes.may.turns)) in
    let each : (count : ℕ) → GoesOn (turning.turns count came).files = λ count. may_goes_on (turning.turns count came) (may_turn_on count s input next step hand places one) in
    let first : Settled came.files = taken input start facts.turns.waits.rests goes.may.one_each (each 0).may.one_each (all, begun s.files facts.turns.waits.rests facts.waiting) in
    let last : Settled gone.files = rounds input came each (turning.rounds_for came) first in
    record {
      turns = step_keeps_turn_facts s input next step hand places one facts.turns;
      waiting = all_waiting (tables.said gone.files) gone.files.lock_waits last.1.waiting;
    }

-- Beginning, and images

pub begins_with_queue_facts : (c : Description) (kernel : ℕ) → KeepsQueueFacts (boots c kernel).files
begins_with_queue_facts c kernel = record { turns = begins_with_turn_facts c kernel; waiting = refl }

waiting_by : (o : Option Proc) (s : ClientProcs) (pid : ℕ) (image : Machine) → list_all (is_waiting s.files) s.files.lock_waits ≡ true → list_all (is_waiting (procs_of.with_proc pid (option_map {T = Proc} (λ proc. record proc { image = image }) o) s).files) (procs_of.with_proc pid (option_map {T = Proc} (λ proc. record proc { image = image }) o) s).files.lock_waits ≡ true
waiting_by None s pid image waiting = waiting
waiting_by (Some proc) s pid image waiting = waiting

pub image_keeps_queue_facts : (s : ClientProcs) (pid : ℕ) (image : Machine) → KeepsQueueFacts s.files → KeepsQueueFacts (with_image pid image s).files
image_keeps_queue_facts s pid image facts = record { turns = image_keeps_turn_facts s pid image facts.turns; waiting = waiting_by (proc_at pid s) s pid image facts.waiting }
