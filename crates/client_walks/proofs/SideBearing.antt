-- All deeds of a client's kernel but those with the operations of its files' side: what any fact of that side bears, each of them keeps; a fact
-- that sees the home too is kept where what is done at homes keeps it.
use Rattle.std.proofs.Common.{◌≡◌, ℕ, Bool, true, false, cond, List, [], ◌∷◌, ◌++◌, Option, Some, None, option_map, refl}
use Rattle.sprite_ids.specs.declared.Errno.{Errno}
use Rattle.sprite_ids.specs.declared.Errno.TheVariants as errnos
use Rattle.sprite_ids.specs.declared.TxNo.{TxNo}
use Rattle.sprite_ids.specs.Lists.{less, without}
use Rattle.process_machine.specs.declared.Reply.{Reply}
use Rattle.process_machine.specs.declared.Reply.TheVariants.{Value, Error}
use Rattle.process_machine.specs.Machine.{Machine}
use Rattle.packet_bodies.specs.declared.HomeRequest.{HomeRequest}
use Rattle.packet_bodies.specs.declared.ReplyBody.{ReplyBody}
use Rattle.packet_bodies.specs.declared.ReplyBody.TheVariants as bodies
use Rattle.pseudo_device.specs.declared.Answer.{Answer}
use Rattle.pseudo_device.specs.declared.ask.Ask.{Ask}
use Rattle.pseudo_device.specs.declared.TakeEnd.{TakeEnd}
use Rattle.pseudo_device.specs.declared.TakeEnd.TheVariants as takes
use Rattle.pseudo_device.specs.Device.{Asks, take_refusal, told}
use Rattle.home_table.specs.Home.{Table}
use Rattle.kernel_steps.specs.declared.Input.{Input}
use Rattle.kernel_steps.specs.declared.Input.TheVariants as inputs
use Rattle.kernel_steps.specs.declared.Sending.{Sending}
use Rattle.kernel_steps.specs.Rows.{first_under, is_under}
use Rattle.unix_calls.specs.declared.About.{About}
use Rattle.unix_calls.specs.declared.Entry.{Entry}
use Rattle.unix_calls.specs.declared.Event.{Event}
use Rattle.unix_calls.specs.declared.Event.TheVariants as events
use Rattle.unix_calls.specs.declared.SendKind.TheVariants as sendings
use Rattle.call_journal.specs.Unreachable.{is_unreachable_entry}
use Rattle.client_file_tables.specs.declared.client_files.ClientFiles.{ClientFiles}
use Rattle.client_file_tables.specs.declared.moves.MoveWork.{MoveWork}
use Rattle.client_file_tables.specs.declared.moves.Report.{Report}
use Rattle.client_file_tables.specs.declared.pending.Pending.TheVariants as operations
use Rattle.client_file_tables.specs.declared.states.MoveState.TheVariants as move_states
use Rattle.client_file_tables.specs.Closes as file_closes
use Rattle.client_file_tables.specs.Rows.{less_of}
use Rattle.client_file_tables.specs.Says as file_says
use Rattle.client_file_tables.specs.Steps as file_steps
use Rattle.client_file_tables.specs.Streams as file_streams
use Rattle.client_file_tables.specs.Streams.{cwd_of}
use Rattle.client_data.specs.Grants as file_grants
use Rattle.client_data.specs.WriteBacks as write_backs
use Rattle.stream_table.specs.declared.Carried.{Carried}
use Rattle.stream_table.specs.Streams.{forked}
use Rattle.packet_bodies.specs.declared.CallbackRequest.{CallbackRequest}
use Rattle.packet_bodies.specs.declared.CarriedStream.{CarriedStream}
use Rattle.process_machine.specs.declared.Call.{Call}
use Rattle.sprite_ids.specs.declared.BlockNo.{BlockNo}
use Rattle.sprite_ids.specs.declared.DeviceId.{DeviceId}
use Rattle.sprite_ids.specs.declared.FileId.{FileId}
use Rattle.client_files.specs.Arrivals as arrivals
use Rattle.client_files.specs.CallIssues as file_issues
use Rattle.client_homes.specs.declared.client.ClientProcs.{ClientProcs}
use Rattle.client_homes.specs.declared.client.Leaving.{Leaving}
use Rattle.client_homes.specs.declared.process.Proc.{Proc}
use Rattle.client_homes.specs.declared.process.ProcState.{ProcState}
use Rattle.client_homes.specs.declared.process.ProcState.TheVariants as states
use Rattle.client_homes.specs.Births as births
use Rattle.client_homes.specs.Calls as calling
use Rattle.client_homes.specs.Ends as ending
use Rattle.client_homes.specs.Homes as homes
use Rattle.client_homes.specs.Issuing as issuing
use Rattle.client_homes.specs.Kills as kills
use Rattle.client_homes.specs.Pages as pages
use Rattle.client_homes.specs.Procs as procs_of
use Rattle.client_homes.specs.Says as says
use Rattle.client_homes.specs.Says.{next_tx, value}
use Rattle.client_homes.specs.Waits as waiting
use Rattle.client_homes.specs.Words as words
use Rattle.client_devices.specs.Asking as asking
use Rattle.client_devices.specs.Getting as getting
use Rattle.client_devices.specs.Making as making
use Rattle.client_devices.specs.Masters as masters
use Rattle.client_devices.specs.Tables as tables
use Rattle.client_moves.specs.Freezing as freezing
use Rattle.client_moves.specs.Paging as paging
use Rattle.client_moves.specs.Returning as returning
use Rattle.client_procs.specs.Issues as issuing_calls
use Rattle.client_procs.specs.Launching as launching
use Rattle.client_walks.specs.Answers.{is_redirect}
use Rattle.client_walks.proofs.Deeds.{Always, Hand, KeepsApart, KeepsAtHome, KeepsCalls, KeepsComings, KeepsDevices, KeepsFiles, KeepsHomes, KeepsKills, KeepsMoves, KeepsUses, WalkApart, nothing}
use Rattle.client_walks.proofs.Bearing.{HomeSide, home_side, is_quiet}
use Rattle.client_walks.proofs.ReplyLaws.{Caused, NotSo, Safe, born_safe, calls_unreachable, home_safe, wait_safe}

-- what a fact of the files' side must bear of what the rest of its kernel does: what is told, sent, answered and replied; the operations that begin at a
-- process's end and for its streams; its streams and working directory, the reports and replies that are taken off; and the side's own doings
pub record BearsSide (came : Input) (P : ClientFiles → Type 0) : Type 0 where
  pub tells : (s : ClientFiles) (event : Event) → is_quiet event ≡ true → P s → P (file_says.notes event s)
  pub enters : (s : ClientFiles) (entry : Entry) → Caused came (is_unreachable_entry entry) → P s → P (file_says.notes (events.Enter entry) s)
  pub sends : (s : ClientFiles) (sending : Sending) → P s → P (file_says.sends sending sendings.Other s)
  pub answers : (s : ClientFiles) (tx : TxNo) (body : ReplyBody) → is_redirect body ≡ false → P s → P (file_says.answers tx body s)
  pub gives : (s : ClientFiles) (pid : ℕ) (reply : Reply) → P s → P (file_says.replies pid reply s)
  pub closes : (s : ClientFiles) (pid : ℕ) (about : Option About) → P s → P (file_closes.closes_all pid about s)
  pub moves : (s : ClientFiles) (pid : ℕ) (work : MoveWork) → work.state ≡ move_states.WaitLock → P s → P (file_steps.starts pid (operations.Move work) s)
  pub has_cwd : (s : ClientFiles) (pid : ℕ) (path : List (List ℕ)) → P s → P (file_streams.sets_cwd pid path s)
  pub drops_cwd : (s : ClientFiles) (pid : ℕ) → P s → P (record s { cwds = less_of pid s.cwds })
  pub forks : (s : ClientFiles) (parent child : ℕ) → P s → P (record s { streams = forked s.streams parent child })
  pub takes_report : (s : ClientFiles) (rest : List Report) → P s → P (record s { results = rest })
  pub takes_reply : (s : ClientFiles) (rest : List (ℕ × Reply)) → P s → P (record s { out = record s.out { replies = rest } })
  pub issues : (s : ClientFiles) (about : About) (call : Call) (device : Option DeviceId) → came ≡ inputs.Issued about.pid about.number call → P s → P (file_issues.issues about call device s)
  pub called_back : (s : ClientFiles) (tx : TxNo) (request : CallbackRequest) → P s → P (file_grants.called_back tx request s)
  pub due_goes : (s : ClientFiles) (file : FileId) (block : BlockNo) → P s → P (write_backs.due_goes file block s)
  pub arrives : (s : ClientFiles) (pid : ℕ) (cwd : List (List ℕ)) (streams : List CarriedStream) (items : List Carried) → P s → P (arrivals.arrives pid cwd streams items s)

-- the same but for the operations that begin for a process's streams, and the reports that are taken off
pub record BearsRest (came : Input) (P : ClientFiles → Type 0) : Type 0 where
  pub tells : (s : ClientFiles) (event : Event) → is_quiet event ≡ true → P s → P (file_says.notes event s)
  pub enters : (s : ClientFiles) (entry : Entry) → Caused came (is_unreachable_entry entry) → P s → P (file_says.notes (events.Enter entry) s)
  pub sends : (s : ClientFiles) (sending : Sending) → P s → P (file_says.sends sending sendings.Other s)
  pub answers : (s : ClientFiles) (tx : TxNo) (body : ReplyBody) → is_redirect body ≡ false → P s → P (file_says.answers tx body s)
  pub gives : (s : ClientFiles) (pid : ℕ) (reply : Reply) → P s → P (file_says.replies pid reply s)
  pub closes : (s : ClientFiles) (pid : ℕ) (about : Option About) → P s → P (file_closes.closes_all pid about s)
  pub has_cwd : (s : ClientFiles) (pid : ℕ) (path : List (List ℕ)) → P s → P (file_streams.sets_cwd pid path s)
  pub drops_cwd : (s : ClientFiles) (pid : ℕ) → P s → P (record s { cwds = less_of pid s.cwds })
  pub forks : (s : ClientFiles) (parent child : ℕ) → P s → P (record s { streams = forked s.streams parent child })
  pub takes_reply : (s : ClientFiles) (rest : List (ℕ × Reply)) → P s → P (record s { out = record s.out { replies = rest } })
  pub issues : (s : ClientFiles) (about : About) (call : Call) (device : Option DeviceId) → came ≡ inputs.Issued about.pid about.number call → P s → P (file_issues.issues about call device s)
  pub called_back : (s : ClientFiles) (tx : TxNo) (request : CallbackRequest) → P s → P (file_grants.called_back tx request s)
  pub due_goes : (s : ClientFiles) (file : FileId) (block : BlockNo) → P s → P (write_backs.due_goes file block s)
  pub arrives : (s : ClientFiles) (pid : ℕ) (cwd : List (List ℕ)) (streams : List CarriedStream) (items : List Carried) → P s → P (arrivals.arrives pid cwd streams items s)

rest_of : (came : Input) (P : ClientFiles → Type 0) → BearsSide came P → BearsRest came P
rest_of came P bears = record {
  tells = bears.tells;
  enters = bears.enters;
  sends = bears.sends;
  answers = bears.answers;
  gives = bears.gives;
  closes = bears.closes;
  has_cwd = bears.has_cwd;
  drops_cwd = bears.drops_cwd;
  forks = bears.forks;
  takes_reply = bears.takes_reply;
  issues = bears.issues;
  called_back = bears.called_back;
  due_goes = bears.due_goes;
  arrives = bears.arrives;
}

module _ (came : Input) (F : ClientProcs → Hand → Type 0) (R : HomeSide → ClientFiles → Type 0) (bears : (own : HomeSide) → BearsRest came (R own)) where
  abbrev P : ClientProcs → Type 0
  P s = R (home_side s) s.files

  abbrev Holds : ClientProcs → Hand → Type 0
  Holds s h = P s

  on_if : (b : Bool) (s t : ClientProcs) → P s → P t → P (cond b s t)
  on_if true s t p q = p
  on_if false s t p q = q

  -- What is said

  pub noted : (event : Event) (s : ClientProcs) → is_quiet event ≡ true → P s → P (says.notes event s)
  noted event s h p = (bears (home_side s)).tells s.files event h p

  entered : (entry : Entry) (s : ClientProcs) → Caused came (is_unreachable_entry entry) → P s → P (says.notes (events.Enter entry) s)
  entered entry s cause p = (bears (home_side s)).enters s.files entry cause p

  -- a request more
  pub sent : (sending : Sending) (s : ClientProcs) → P s → R (home_side s) (file_says.sends sending sendings.Other s.files)
  sent sending s p = (bears (home_side s)).sends s.files sending p

  -- a request is answered
  answered : (tx : TxNo) (body : ReplyBody) (s : ClientProcs) → is_redirect body ≡ false → P s → P (says.answers tx body s)
  answered tx body s here p = (bears (home_side s)).answers s.files tx body here p

  replied : (reply : Reply) (tx : TxNo) (s : ClientProcs) → P s → P (says.answers tx (words.packet_of reply) s)
  replied (Value first second bytes) tx s p = answered tx _ s refl p
  replied (Error errno) tx s p = answered tx _ s refl p

  -- Processes that are changed

  with_kept : (pid : ℕ) (o : Option Proc) (f : Proc → Proc) (s : ClientProcs) → P s → P (procs_of.with_proc pid (option_map f o) s)
  with_kept pid None f s p = p
  with_kept pid (Some proc) f s p = p

  pub in_state : (pid : ℕ) (state : ProcState) (s : ClientProcs) → P s → P (procs_of.in_state pid state s)
  in_state pid state s p = with_kept pid (procs_of.proc_at pid s) (λ proc. record proc { state = state }) s p

  killed_at : (pid : ℕ) (s : ClientProcs) → P s → P (procs_of.killed_at pid s)
  killed_at pid s p = with_kept pid (procs_of.proc_at pid s) (λ proc. record proc { killed = true }) s p

  replies : (pid : ℕ) (reply : Reply) (s : ClientProcs) → P s → P (procs_of.replies pid reply s)
  replies pid reply s p = let back : ClientProcs = procs_of.in_state pid states.Returning s in (bears (home_side back)).gives back.files pid reply (in_state pid states.Returning s p)

  answers_in : (o : Option Proc) (pid : ℕ) (reply : Reply) (s : ClientProcs) → Caused came (calls_unreachable reply) → P s → P (procs_of.answers_by pid reply (option_map (procs_of.entry_of pid reply) o) s)
  answers_in (Some proc) pid reply s cause p = replies pid reply (says.notes (events.Enter (procs_of.entry_of pid reply proc)) s) (entered (procs_of.entry_of pid reply proc) s cause p)
  answers_in None pid reply s cause p = p

  answers_here : (pid : ℕ) (reply : Reply) (s : ClientProcs) → Caused came (calls_unreachable reply) → P s → P (procs_of.answers_here pid reply s)
  answers_here pid reply s cause p = answers_in (procs_of.proc_at pid s) pid reply s cause p

  enters_in : (o : Option Proc) (pid : ℕ) (reply : Reply) (s : ClientProcs) → Safe reply → P s → P (procs_of.enters_if (option_map (procs_of.entry_of pid reply) o) s)
  enters_in (Some proc) pid reply s safe p = entered (procs_of.entry_of pid reply proc) s (NotSo safe) p
  enters_in None pid reply s safe p = p

  enters_own : (pid : ℕ) (reply : Reply) (s : ClientProcs) → Safe reply → P s → P (procs_of.enters_own pid reply s)
  enters_own pid reply s safe p = enters_in (procs_of.proc_at pid s) pid reply s safe p

  -- Homes

  enters_home : (request : HomeRequest) (reply : Reply) (s : ClientProcs) → Safe reply → P s → P (waiting.enters_home request reply s)
  enters_home request reply s safe p = entered _ s (NotSo safe) p

  waits_if : (o : Option Reply) (request : HomeRequest) (s : ClientProcs) → ((reply : Reply) → o ≡ Some reply → Safe reply) → P s → P (waiting.enters_if request o s)
  waits_if (Some reply) request s safe p = enters_home request reply s (safe reply refl) p
  waits_if None request s safe p = p

  ends : (pid : ℕ) (about : Option About) (s : ClientProcs) → P s → P (ending.ends pid about s)
  unfolding ending.closes_all
  ends pid about s p = let ended : ClientProcs = procs_of.in_state pid states.Ending s in (bears (home_side ended)).closes ended.files pid about (in_state pid states.Ending s p)

  ends_wait : (o : Option TxNo) (pid : ℕ) (reply : Reply) (s : ClientProcs) → P s → P (waiting.ends_wait pid o reply s)
  ends_wait (Some tx) pid reply s p = replied reply tx s p
  ends_wait None pid reply s p = replies pid reply s p

  fetches : (pid page : ℕ) (s : ClientProcs) → P s → P (pages.fetches pid page s)
  fetches pid page s p = sent _ s p

  with_cwd : (o : Option (List (List ℕ))) (child : ℕ) (s : ClientProcs) → P s → P (births.with_cwd child o s)
  with_cwd (Some cwd) child s p = (bears (home_side s)).has_cwd s.files child cwd p
  with_cwd None child s p = p

  -- Pseudo-devices

  with_device : (o : Option Asks) (device : ℕ) (s : ClientProcs) → P s → P (tables.with_device device o s)
  with_device (Some asks) device s p = p
  with_device None device s p = p

  gives_to : (o : Option (Option TxNo)) (pid : ℕ) (reply : Reply) (s : ClientProcs) → P s → P (asking.gives_to pid o reply s)
  gives_to (Some (Some tx)) pid reply s p = replied reply tx s p
  gives_to (Some None) pid reply s p = replies pid reply s p
  gives_to None pid reply s p = p

  ends_ask : (ask : Ask) (reply : Reply) (s : ClientProcs) → P s → P (asking.ends_ask ask reply s)
  ends_ask ask reply s p =
      let ended : ClientProcs = asking.notes_end ask reply s in
      gives_to (first_under asking.is_about (asking.about_ask ask) ended.asked) ask.pid reply (record ended { asked = less (is_under asking.is_about (asking.about_ask ask)) ended.asked }) (entered _ s (NotSo refl) p)

  puts_if : (o : Option Answer) (pid device : ℕ) (bytes : List ℕ) (errno : Option Errno) (s : ClientProcs) → P s → P (masters.puts_if pid device bytes errno o s)
  puts_if (Some answer) pid device bytes errno s p =
      let put : ClientProcs = tables.puts_at device bytes errno s in
      let own : ClientProcs = procs_of.enters_own pid (value 0 0) put in
      replies pid (value 0 0) (asking.ends_ask answer.ask answer.reply own) (ends_ask answer.ask answer.reply own (enters_own pid (value 0 0) put refl (with_device _ device s p)))
  puts_if None pid device bytes errno s p = answers_here pid (Error errnos.Invalid) (tables.puts_at device bytes errno s) (NotSo refl) (with_device _ device s p)

  serves_by : (o : Option TakeEnd) (asks : List Ask) (device pid : ℕ) (s : ClientProcs) → P s → P (getting.serves_by device pid (tables.taken_by asks o) s)
  serves_by None [] device pid s p = p
  serves_by None (ask ∷ asks) device pid s p = answers_here pid (told ask) _ (NotSo refl) p
  serves_by (Some takes.Busy) asks device pid s p = answers_here pid (Error errnos.Busy) _ (NotSo refl) p
  serves_by (Some takes.Empty) asks device pid s p = p
  serves_by (Some takes.Long) asks device pid s p = answers_here pid (Error errnos.Invalid) _ (NotSo refl) p
  serves_by (Some takes.NoMemory) asks device pid s p = p

  serves_getter : (o : Option Asks) (device pid max : ℕ) (s : ClientProcs) → P s → P (getting.serves_by device pid (tables.taken_at_in max o) s)
  serves_getter (Some asks) device pid max s p = serves_by (take_refusal asks max) asks.waiting device pid s p
  serves_getter None device pid max s p = p

  unmakes_if : (o : Option ℕ) (reply : Reply) (s : ClientProcs) → P s → P (making.unmakes_if reply o s)
  unmakes_if (Some device) (Error errno) s p = p
  unmakes_if (Some device) (Value first second bytes) s p = p
  unmakes_if None reply s p = p

  -- Programs, replies and pages

  has_fresh_if : (o : Option Machine) (pid : ℕ) (s : ClientProcs) → P s → P (launching.has_fresh_if pid o s)
  has_fresh_if (Some image) pid s p = with_kept pid (procs_of.proc_at pid s) (launching.freshened image) s p
  has_fresh_if None pid s p = p

  notes_return : (o : Option ℕ) (pid : ℕ) (reply : Reply) (s : ClientProcs) → P s → P (returning.notes_return_as pid reply o s)
  notes_return (Some number) pid reply s p = noted (events.Return pid number reply) s refl p
  notes_return None pid reply s p = p

  has_page : (body : ReplyBody) (pid page : ℕ) (s : ClientProcs) → P s → P (paging.has_page pid page body s)
  has_page (bodies.Page bytes) pid page s p = with_kept pid (procs_of.proc_at pid s) (paging.with_page_in page bytes) s p
  has_page body pid page s p = p

  pub enters_move : (o : Option About) (pid : ℕ) (s : ClientProcs) → P s → P (freezing.enters_move pid o s)
  enters_move (Some about) pid s p = enters_own pid (value 0 0) s refl p
  enters_move None pid s p = p

  -- The deeds

  pub uses : KeepsUses came Holds
  uses = record {
    uses_files = λ s h about call device e u p. let used : ClientProcs = procs_of.in_state about.pid states.InFiles s in (bears (home_side used)).issues used.files about call device e (in_state about.pid states.InFiles s p);
    called_back = λ s h tx request u p. (bears (home_side s)).called_back s.files tx request p;
    due_goes = λ s h file block u p. (bears (home_side s)).due_goes s.files file block p;
    takes_reply = λ s h row rest e u p. (bears (home_side s)).takes_reply s.files rest p;
  }

  pub calls : KeepsCalls came F Holds
  calls = record {
    comes_to = λ s h about call e u p.
        noted (events.Issue about.pid about.number call) (issuing_calls.comes_to about call s) refl (with_kept about.pid (procs_of.proc_at about.pid s) (issuing_calls.inside about.number call) s p);
    counts = λ s h u p. p;
    answers_here = λ s h pid reply cause u p. answers_here pid reply s cause p;
    replies = λ s h pid reply u p. replies pid reply s p;
    begins_here = λ s h about program arg u p.
        let own : ClientProcs = procs_of.enters_own about.pid (value 0 0) s in
        replies about.pid (value 0 0) (launching.begins_program about.pid program arg own) (has_fresh_if (launching.fresh_image own.programs program arg) about.pid own (enters_own about.pid (value 0 0) s refl p));
    returns = λ s h pid reply u p. let back : ClientProcs = returning.has_returned pid reply s in notes_return (returning.number_at pid back) pid reply back p;
    flags_evict = λ s h pid evict u p. with_kept pid (procs_of.proc_at pid s) (λ proc. record proc { evict = evict }) s p;
    takes_call = λ s h tx u p. p;
  }

  pub devices : KeepsDevices came F Holds
  devices = record {
    asks_here = λ s h pid ask u p. entered _ (procs_of.in_state pid (states.InAsk None) s) (NotSo refl) (in_state pid (states.InAsk None) s p);
    asks_for = λ s h tx source request e u p. entered _ s (NotSo refl) p;
    waits_at = λ s h device ask e u p. with_device _ device s p;
    ends_ask = λ s h ask reply u p. ends_ask ask reply s p;
    serves_getter = λ s h device pid e u p. serves_getter (tables.asks_in device s) device pid (getting.max_of pid s) (tables.takes_at device (getting.max_of pid s) s) (with_device _ device s p);
    sends_ask = λ s h pid request u p. in_state pid (states.InAsk (Some (next_tx s))) _ (sent _ s p);
    waits_for_ask = λ s h pid device max u p. in_state pid (states.Getting device max) s p;
    puts_with = λ s h pid device bytes errno u p. puts_if (tables.answer_at device bytes errno s) pid device bytes errno s p;
    left_at = λ s h device u p. with_device _ device s p;
    makes_device = λ s h pid u p. p;
    ends_making = λ s h pid reply u p. unmakes_if (first_under procs_of.is_pid pid s.making) reply (record s { making = less (is_under procs_of.is_pid pid) s.making }) p;
  }

  -- where a process of this home comes home
  abbrev pub PlacesKept : Type 0
  PlacesKept = (s : ClientProcs) (pid kernel : ℕ) → P s → P (homes.moves_to pid kernel s)

  pub comings : PlacesKept → KeepsComings F Holds
  comings places = record {
    brings = λ s h pid e u p. p;
    refuses = λ s h pid e u p. p;
    answers_done = λ s h tx pid u p. answered tx bodies.Done s refl p;
    has_streams = λ s h process streams u p. (bears (home_side s)).arrives s.files process.pid process.cwd streams process.streams p;
    puts_in = λ s h process fresh u p. p;
    comes_home = λ s h pid e u p. places s pid s.kernel p;
    thaws = λ s h pid u p. in_state pid states.Ready (says.notes (events.Thaw pid) s) (noted (events.Thaw pid) s refl p);
    tells_home = λ s h pid moved e u p. in_state pid (states.Arriving (next_tx s) moved) _ (sent _ s p);
    waits_for_page = λ s h pid page e u p. in_state pid (states.PageWait (next_tx s) page) (pages.fetches pid page s) (fetches pid page s p);
    has_page = λ s h pid page body u p. has_page body pid page s p;
    is_ready = λ s h pid u p. in_state pid states.Ready s p;
    fetches_for_answer = λ s h pid page reply u p. in_state pid (states.AnswerPages (next_tx s) page reply) (pages.fetches pid page s) (fetches pid page s p);
  }

  -- Homes, for facts that see nothing of them

  abbrev pub OfAnyHome : Type 0
  OfAnyHome = (own other : HomeSide) (files : ClientFiles) → other.leaving ≡ own.leaving → R own files → R other files

  pub home_if : OfAnyHome → (b : Bool) (table : Table) (s : ClientProcs) → P s → P (cond b (record s { home = table }) s)
  home_if any_home b table s p = on_if b (record s { home = table }) s (any_home (home_side s) _ s.files refl p) p

  pub homes_kept : OfAnyHome → KeepsHomes F Holds
  homes_kept any_home = record {
    enters_home = λ s h request reply e u p. enters_home request reply s (home_safe request.call request.pid s reply e) p;
    ticks_for = λ s h request u p. enters_home request (calling.tick_reply s) (homes.ticks s) refl (any_home _ _ _ refl p);
    forks = λ s h request u p. enters_home request _ (homes.bears request.pid s) (born_safe (homes.born_pid request.pid s)) (home_if any_home (homes.is_native request.pid s) _ s p);
    waits = λ s h request u p. waits_if (waiting.wait_reply request.pid s) request (homes.waited_at request.pid s) (wait_safe (homes.told_to_wait request.pid s) (homes.is_killed request.pid s)) (home_if any_home (homes.is_native request.pid s) _ s p);
    kills_living = λ s h request target e u p. enters_home request (value 0 0) (homes.kills_at target s) refl (home_if any_home (homes.is_native target s) _ s p);
    kills_none = λ s h request target e u p. enters_home request (Error errnos.NoProcess) (homes.kills_at target s) refl (home_if any_home (homes.is_native target s) _ s p);
    ends_by_exit = λ s h request code u p. let done : ClientProcs = waiting.enters_home request (value 0 0) s in home_if any_home (homes.is_native request.pid done) _ done (enters_home request (value 0 0) s refl p);
    ends_by_death = λ s h about u p. let done : ClientProcs = says.enters_death about s in home_if any_home (homes.is_native about.pid done) _ done (entered _ s (NotSo refl) p);
    dies_elsewhere = λ s h about e u p. in_state about.pid (states.Dying (next_tx s)) _ (sent _ s p);
    ends = λ s h pid about u p. ends pid about s p;
    takes_waiter = λ s h pid u p. any_home _ _ _ refl p;
    ends_wait = λ s h pid tx reply u p. ends_wait tx pid reply s p;
    parks = λ s h pid parked u p. any_home _ _ _ refl p;
    parks_here = λ s h request u p. any_home _ _ _ refl (in_state request.pid states.Waiting s p);
    fetches_for_fork = λ s h pid page u p. in_state pid (states.ForkPages (next_tx s) page) (pages.fetches pid page s) (fetches pid page s p);
    asks_home = λ s h kernel request e u p. on_if (issuing.is_fork request.call) _ _ (in_state request.pid (states.AtHome (next_tx s)) _ (sent _ s p)) (in_state request.pid (states.AtHome (next_tx s)) _ (sent _ s p));
    answers = λ s h tx reply u p. replied reply tx s p;
    hands_on = λ s h tx o u p. replied (calling.born_reply o) tx s p;
    forgets_fork = λ s h tx u p. p;
    forgets_early = λ s h tx u p. p;
    places_child = λ s h parent child image e u p. let parted : ClientProcs = births.forks_streams parent child s in with_cwd (cwd_of parent parted.files) child parted ((bears (home_side s)).forks s.files parent child p);
    meets_early = λ s h child u p. killed_at child (record s { early = without (is_under procs_of.is_pid child) s.early }) p;
    lets_go = λ s h pid u p. p;
  }

  pub kills_kept : OfAnyHome → KeepsKills F Holds
  kills_kept any_home = record {
    flags = λ s h pid u p. killed_at pid s p;
    breaks_off = λ s h pid device max proc e g u p. answers_here pid (Error errnos.Interrupted) _ (NotSo refl) p;
    notes_kill = λ s h pid kill u p. p;
    forgets_kill = λ s h pid u p. p;
    goes_after = λ s h about pid place u p. sent _ s p;
    hears_here = λ s h tx pid e u p. answered tx bodies.Done (procs_of.killed_at pid s) refl (killed_at pid s p);
    hears_gone = λ s h tx pid e u p. answered tx bodies.Gone (kills.notes_early pid s) refl p;
    tells_place = λ s h tx pid kernel u p. answered tx bodies.Done (homes.moves_to pid kernel s) refl (home_if any_home (homes.is_native pid s) _ s p);
  }

-- all of them, for facts that bear these too

module _ (came : Input) (R : HomeSide → ClientFiles → Type 0) (bears : (own : HomeSide) → BearsSide came (R own)) where
  abbrev Stays : ClientProcs → Hand → Type 0
  Stays s h = R (home_side s) s.files

  bears_rest : (own : HomeSide) → BearsRest came (R own)
  bears_rest own = rest_of came (R own) (bears own)

  files : KeepsFiles came Always Stays
  files = record {
    uses_files = (uses came Always R bears_rest).uses_files;
    called_back = (uses came Always R bears_rest).called_back;
    due_goes = (uses came Always R bears_rest).due_goes;
    takes_report = λ s h report rest e u p. (bears (home_side s)).takes_report s.files rest p;
    takes_reply = (uses came Always R bears_rest).takes_reply;
  }

  -- where it doesn't matter who leaves
  abbrev pub AnyLeaving : Type 0
  AnyLeaving = (own : HomeSide) (rows : List (ℕ × Leaving)) (files : ClientFiles) → R own files → R (record own { leaving = rows }) files

  moves : AnyLeaving → KeepsMoves Always Stays
  moves any_leaving = record {
    freezes = λ s h pid route e u p. enters_move came Always R bears_rest route.about pid (says.notes (events.Freeze pid) s) (noted came Always R bears_rest (events.Freeze pid) s refl p);
    takes_proc = λ s h pid proc e u p. p;
    takes_none = λ s h pid e u p. p;
    takes_ended = λ s h pid u p. p;
    puts_page = λ s h pid page bytes u p. sent came Always R bears_rest _ s p;
    drops_cwd = λ s h pid u p. (bears (home_side s)).drops_cwd s.files pid p;
    keeps_leaving = λ s h pid step about u p. any_leaving (home_side s) (s.leaving ++ (pid, record { step = step; about = about }) ∷ []) s.files p;
    takes_leaving = λ s h pid found e u p. any_leaving (home_side s) (less (is_under procs_of.is_pid pid) s.leaving) s.files p;
    leaves_none = λ s h pid e u p. any_leaving (home_side s) (less (is_under procs_of.is_pid pid) s.leaving) s.files p;
    begins_move = λ s h pid one about u p. (bears (home_side s)).moves s.files pid (record { about = about; stream = one.item.number; to = one.freeze.to; state = move_states.WaitLock }) refl p;
    sends_process = λ s h pid sent_one about e u p. sent came Always R bears_rest _ s p;
  }

  -- where a process of this home comes home
  abbrev pub KeepsPlaces : Type 0
  KeepsPlaces = (s : ClientProcs) (pid kernel : ℕ) → Stays s nothing → Stays (homes.moves_to pid kernel s) nothing

  -- for facts that see nothing of homes, and not who leaves
  abbrev pub AnyHome : Type 0
  AnyHome = (own other : HomeSide) (files : ClientFiles) → R own files → R other files

  -- the walk, where what is done at homes keeps the fact
  pub apart : AnyLeaving → KeepsAtHome Stays came → KeepsPlaces → WalkApart Stays came
  apart any_leaving home places = record {
    files = files;
    calls = calls came Always R bears_rest;
    home = home;
    devices = devices came Always R bears_rest;
    moves = moves any_leaving;
    comings = comings came Always R bears_rest places;
  }

  of_any : AnyHome → (own other : HomeSide) (files : ClientFiles) → other.leaving ≡ own.leaving → R own files → R other files
  of_any any_home own other files same p = any_home own other files p

  -- all these deeds
  pub all_apart : AnyHome → KeepsApart came Always Stays
  all_apart any_home = record {
    files = files;
    calls = calls came Always R bears_rest;
    homes = homes_kept came Always R bears_rest (of_any any_home);
    kills = kills_kept came Always R bears_rest (of_any any_home);
    devices = devices came Always R bears_rest;
    moves = moves (λ own rows files p. any_home own (record own { leaving = rows }) files p);
    comings = comings came Always R bears_rest (λ s pid kernel p. home_if came Always R bears_rest (of_any any_home) (homes.is_native pid s) _ s p);
  }
