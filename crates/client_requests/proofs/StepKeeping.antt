-- All else that is done within a step: asks of pseudo-devices go on waiting for their answer, or have it.
use Rattle.std.proofs.Common.{◌≡◌, sym, subst, ℕ, ◌+◌, List, [], ◌∷◌, Option, Some, None}
use Rattle.sprite_ids.specs.declared.Errno.{Errno}
use Rattle.sprite_ids.specs.declared.Errno.TheVariants as errnos
use Rattle.sprite_ids.specs.declared.TxNo.{TxNo}
use Rattle.sprite_ids.specs.Lists.{less, total}
use Rattle.sprite_ids.specs.Pid.{home_of}
use Rattle.kernel_steps.specs.declared.Input.{Input}
use Rattle.kernel_steps.specs.declared.Input.TheVariants as inputs
use Rattle.kernel_steps.specs.Rows.{first_under, is_under}
use Rattle.process_machine.specs.declared.Reply.{Reply}
use Rattle.process_machine.specs.declared.Reply.TheVariants.{Value, Error}
use Rattle.packet_bodies.specs.declared.ReplyBody.TheVariants as bodies
use Rattle.packet_bodies.specs.declared.Request.{Request}
use Rattle.packet_bodies.specs.declared.Request.TheVariants as requests
use Rattle.pseudo_device.specs.declared.Answer.{Answer}
use Rattle.pseudo_device.specs.declared.ask.Ask.{Ask}
use Rattle.pseudo_device.specs.declared.TakeEnd.{TakeEnd}
use Rattle.pseudo_device.specs.declared.TakeEnd.TheVariants as takes
use Rattle.pseudo_device.specs.Device.{Asks, take_refusal, told}
use Rattle.unix_calls.specs.declared.About.{About}
use Rattle.unix_calls.specs.declared.Event.TheVariants as events
use Rattle.client_homes.specs.declared.client.ClientProcs.{ClientProcs}
use Rattle.client_homes.specs.declared.client.Unfinished.TheVariants as unfinished
use Rattle.client_homes.specs.declared.process.ProcState.TheVariants as states
use Rattle.client_homes.specs.Ends as ending
use Rattle.client_homes.specs.Homes as homes
use Rattle.client_homes.specs.Pages as pages
use Rattle.client_homes.specs.Procs as procs_of
use Rattle.client_homes.specs.Procs.{is_pid}
use Rattle.client_homes.specs.Says as says
use Rattle.client_homes.specs.Says.{next_tx, value}
use Rattle.client_homes.specs.Words as words
use Rattle.client_devices.specs.Asking as asking
use Rattle.client_devices.specs.Getting as getting
use Rattle.client_devices.specs.Making as making
use Rattle.client_devices.specs.Masters as masters
use Rattle.client_devices.specs.Tables as tables
use Rattle.client_moves.specs.Returning as returning
use Rattle.client_procs.specs.Issues as issuing_calls
use Rattle.client_procs.specs.Launching as launching
use Rattle.client_walks.proofs.Bearing.{Bears, Seen}
use Rattle.client_walks.proofs.Deeds.{Always, Hand, KeepsCalls, KeepsComings, KeepsDevices, KeepsFiles, KeepsMoves, KeepsTurns, WalkWithin}
use Rattle.client_walks.proofs.NameBearing as files_side
use Rattle.client_requests.specs.Kept.{answer_of, ask_of, one_for, wait_of}
use Rattle.client_requests.proofs.CountLaws as numbers
use Rattle.client_requests.proofs.CountLaws.{Counts, counts, total_first, total_push, view}
use Rattle.client_requests.proofs.HomeKeeping as home_side
use Rattle.client_requests.proofs.HomeKeeping.{Since}
use Rattle.client_requests.proofs.ViewLaws as frames

-- no request comes that may be kept
abbrev pub NoneKept : Request → Type 0
NoneKept (requests.Home request) = ⊥
NoneKept (requests.Ask request) = ⊥
NoneKept _ = Unit {0}

abbrev pub ComesNone : Input → Type 0
ComesNone (inputs.Request tx source body) = NoneKept body
ComesNone _ = Unit {0}

module _ (tx : TxNo) (first : Counts) where
  abbrev pub At : ClientProcs → Type 0
  At s = Since tx first (view s)

  abbrev pub Holds : ClientProcs → Hand → Type 0
  Holds s h = At s

  -- with an ask in hand
  abbrev Asking : ℕ → ClientProcs → Type 0
  Asking f s = numbers.At first (total (wait_of tx) s.waits) (f + total (ask_of tx) s.asked) (total (answer_of tx) s.files.out.answers)

  -- Pseudo-devices

  given_to : (o : Option (Option TxNo)) (pid : ℕ) (reply : Reply) (s : ClientProcs) → Asking (numbers.found (one_for tx) o) s → At (asking.gives_to pid o reply s)
  given_to (Some (Some asker)) pid reply s p =
      subst (λ (n : ℕ). numbers.At first (total (wait_of tx) s.waits) (total (ask_of tx) s.asked) n) (sym (total_push (answer_of tx) s.files.out.answers (asker, words.packet_of reply)))
      (numbers.ask_answered first (total (wait_of tx) s.waits) (total (ask_of tx) s.asked) (total (answer_of tx) s.files.out.answers) (one_for tx (Some asker)) p)
  given_to (Some None) pid reply s p =
      frames.replied (Since tx first) pid reply s (numbers.own_ask first (total (wait_of tx) s.waits) (total (ask_of tx) s.asked) (total (answer_of tx) s.files.out.answers) p)
  given_to None pid reply s p = numbers.own_ask first (total (wait_of tx) s.waits) (total (ask_of tx) s.asked) (total (answer_of tx) s.files.out.answers) p

  pub ask_ended : (ask : Ask) (reply : Reply) (s : ClientProcs) → At s → At (asking.ends_ask ask reply s)
  ask_ended ask reply s p =
      let ended : ClientProcs = asking.notes_end ask reply s in
      let about : About = asking.about_ask ask in
      given_to (first_under asking.is_about about ended.asked) ask.pid reply (record ended { asked = less (is_under asking.is_about about) ended.asked })
      (subst (λ (n : ℕ). numbers.At first (total (wait_of tx) s.waits) n (total (answer_of tx) s.files.out.answers)) (total_first asking.is_about about (one_for tx) s.asked) p)

  -- a process of this kernel asks
  own_asked : (pid : ℕ) (ask : Ask) (s : ClientProcs) → At s → At (asking.notes_ask ask None (procs_of.in_state pid (states.InAsk None) s))
  own_asked pid ask s p =
      let inside : ClientProcs = procs_of.in_state pid (states.InAsk None) s in
      subst (λ (n : ℕ). numbers.At first (total (wait_of tx) inside.waits) n (total (answer_of tx) inside.files.out.answers)) (sym (total_push (ask_of tx) inside.asked (asking.about_ask ask, None)))
      (numbers.ask_more first (total (wait_of tx) inside.waits) (total (ask_of tx) inside.asked) (total (answer_of tx) inside.files.out.answers) (frames.state_kept (Since tx first) pid (states.InAsk None) s p))

  put_if : (o : Option Answer) (pid device : ℕ) (bytes : List ℕ) (errno : Option Errno) (s : ClientProcs) → At s → At (masters.puts_if pid device bytes errno o s)
  put_if (Some answer) pid device bytes errno s p =
      let put : ClientProcs = tables.puts_at device bytes errno s in
      let own : ClientProcs = procs_of.enters_own pid (value 0 0) put in
      frames.replied (Since tx first) pid (value 0 0) (asking.ends_ask answer.ask answer.reply own)
      (ask_ended answer.ask answer.reply own (frames.entered_own (Since tx first) pid (value 0 0) put (frames.device_kept (Since tx first) _ device s p)))
  put_if None pid device bytes errno s p = frames.answered_here (Since tx first) pid (Error errnos.Invalid) (tables.puts_at device bytes errno s) (frames.device_kept (Since tx first) _ device s p)

  served_by : (o : Option TakeEnd) (asks : List Ask) (device pid : ℕ) (s : ClientProcs) → At s → At (getting.serves_by device pid (tables.taken_by asks o) s)
  served_by None [] device pid s p = p
  served_by None (ask ∷ asks) device pid s p = frames.answered_here (Since tx first) pid (told ask) _ p
  served_by (Some takes.Busy) asks device pid s p = frames.answered_here (Since tx first) pid (Error errnos.Busy) _ p
  served_by (Some takes.Empty) asks device pid s p = p
  served_by (Some takes.Long) asks device pid s p = frames.answered_here (Since tx first) pid (Error errnos.Invalid) _ p
  served_by (Some takes.NoMemory) asks device pid s p = p

  served_getter : (o : Option Asks) (device pid max : ℕ) (s : ClientProcs) → At s → At (getting.serves_by device pid (tables.taken_at_in max o) s)
  served_getter (Some asks) device pid max s p = served_by (take_refusal asks max) asks.waiting device pid s p
  served_getter None device pid max s p = p

  unmade_if : (o : Option ℕ) (reply : Reply) (s : ClientProcs) → At s → At (making.unmakes_if reply o s)
  unmade_if (Some device) (Error errno) s p = p
  unmade_if (Some device) (Value first second bytes) s p = p
  unmade_if None reply s p = p

  none_asked : (came : Input) → ComesNone came → (asker : TxNo) (source : ℕ) (body : Request) → came ≡ inputs.Request asker source body → NoneKept body
  none_asked came none asker source body e = subst ComesNone e none

  devices : (came : Input) → ComesNone came → KeepsDevices came Always Holds
  devices came none = record {
    asks_here = λ s h pid ask u p. own_asked pid ask s p;
    asks_for = λ s h asker source request e u p. absurd (none_asked came none asker source (requests.Ask request) e);
    waits_at = λ s h device ask e u p. frames.device_kept (Since tx first) _ device s p;
    ends_ask = λ s h ask reply u p. ask_ended ask reply s p;
    serves_getter = λ s h device pid e u p.
        served_getter (tables.asks_in device s) device pid (getting.max_of pid s) (tables.takes_at device (getting.max_of pid s) s) (frames.device_kept (Since tx first) _ device s p);
    sends_ask = λ s h pid request u p. frames.state_kept (Since tx first) pid (states.InAsk (Some (next_tx s))) (says.sends request.device.kernel (asking.request_about pid request) (requests.Ask request) s) p;
    waits_for_ask = λ s h pid device max u p. frames.state_kept (Since tx first) pid (states.Getting device max) s p;
    puts_with = λ s h pid device bytes errno u p. put_if (tables.answer_at device bytes errno s) pid device bytes errno s p;
    left_at = λ s h device u p. frames.device_kept (Since tx first) _ device s p;
    makes_device = λ s h pid u p. p;
    ends_making = λ s h pid reply u p. unmade_if (first_under is_pid pid s.making) reply (record s { making = less (is_under is_pid pid) s.making }) p;
  }

  -- The files' side, which answers callbacks and nothing else

  abbrev Tells : ℕ → ℕ → Seen → Type 0
  Tells waits asks seen = numbers.At first waits asks (total (answer_of tx) seen.answers)

  bears : (came : Input) (waits asks : ℕ) → Bears came (Tells waits asks)
  bears came waits asks = record {
    telling = record {
      tells = λ seen event h q. q;
      enters = λ seen entry cause q. q;
      says = λ seen sending kind h q. q;
      answers = λ seen asker body here q.
          subst (λ (n : ℕ). numbers.At first waits asks n) (sym (total_push (answer_of tx) seen.answers (asker, body))) (numbers.answered first waits asks (total (answer_of tx) seen.answers) (answer_of tx (asker, body)) q);
      keeps = λ seen pid operation plain q. q;
      left = λ seen pid q. q;
      puts_back = λ seen pid operation e q. q;
      broadcasts = λ seen pid work prefix may e q. q;
      echoes = λ seen pid work server q. q;
      asks = λ seen pid work server q. q;
    };
    learns = λ seen prefix server e q. q;
  }

  -- what is kept on the processes' side
  abbrev Beside : ClientProcs → Seen → Type 0
  Beside s = Tells (total (wait_of tx) s.waits) (total (ask_of tx) s.asked)

  beside : (came : Input) (s : ClientProcs) → Bears came (Beside s)
  beside came s = bears came (total (wait_of tx) s.waits) (total (ask_of tx) s.asked)

  files : (came : Input) → KeepsFiles came Always Holds
  files came = record {
    uses_files = λ s h about call device e u p. let used : ClientProcs = procs_of.in_state about.pid states.InFiles s in
        files_side.issues came (Beside used) (beside came used).telling about call device used.files (frames.state_kept (Since tx first) about.pid states.InFiles s p);
    called_back = λ s h asker request u p. files_side.called_back came (Beside s) (beside came s).telling asker request s.files p;
    due_goes = λ s h file block u p. files_side.due_goes came (Beside s) (beside came s).telling file block s.files p;
    takes_report = λ s h report rest e u p. p;
    takes_reply = λ s h row rest e u p. p;
  }

  turns : (came : Input) → KeepsTurns came Always Holds
  turns came = record {
    answered = λ s h asker source body e owned u p. files_side.answered came (Beside s) (beside came s) asker source body s.files e p;
    gives_up = λ s h asker e u p. files_side.gives_up came (Beside s) (beside came s).telling asker s.files e p;
    goes_on = λ s h e u p. files_side.goes_on came (Beside s) (beside came s).telling s.files p;
  }

  calls : (came : Input) → KeepsCalls came Always Holds
  calls came = record {
    comes_to = λ s h about call e u p. frames.changed_proc (Since tx first) (issuing_calls.inside about.number call) about.pid s p;
    counts = λ s h u p. p;
    answers_here = λ s h pid reply cause u p. frames.answered_here (Since tx first) pid reply s p;
    replies = λ s h pid reply u p. frames.replied (Since tx first) pid reply s p;
    begins_here = λ s h about program arg u p.
        let own : ClientProcs = procs_of.enters_own about.pid (value 0 0) s in
        frames.replied (Since tx first) about.pid (value 0 0) (launching.begins_program about.pid program arg own)
        (frames.fresh_kept (Since tx first) (launching.fresh_image own.programs program arg) about.pid own (frames.entered_own (Since tx first) about.pid (value 0 0) s p));
    returns = λ s h pid reply u p. let back : ClientProcs = returning.has_returned pid reply s in frames.noted_return (Since tx first) (returning.number_at pid back) pid reply back p;
    flags_evict = λ s h pid evict u p. frames.changed_proc (Since tx first) (λ proc. record proc { evict = evict }) pid s p;
    takes_call = λ s h asker u p. p;
  }

  moves : KeepsMoves Always Holds
  moves = record {
    freezes = λ s h pid route e u p. frames.move_entered (Since tx first) route.about pid (says.notes (events.Freeze pid) s) p;
    takes_proc = λ s h pid proc e u p. p;
    takes_none = λ s h pid e u p. p;
    takes_ended = λ s h pid u p. p;
    puts_page = λ s h pid page bytes u p. p;
    drops_cwd = λ s h pid u p. p;
    keeps_leaving = λ s h pid step about u p. p;
    takes_leaving = λ s h pid found e u p. p;
    leaves_none = λ s h pid e u p. p;
    begins_move = λ s h pid one about u p. p;
    sends_process = λ s h pid sent about e u p. p;
  }

  comings : (came : Input) → KeepsComings Always Holds
  comings came = record {
    brings = λ s h pid e u p. p;
    refuses = λ s h pid e u p. p;
    answers_done = λ s h asker pid u p. home_side.answered tx first asker bodies.Done s p;
    has_streams = λ s h process streams u p. files_side.arrives came (Beside s) (beside came s).telling process.pid process.cwd streams process.streams s.files p;
    puts_in = λ s h process fresh u p. p;
    comes_home = λ s h pid e u p. frames.table_kept (Since tx first) (homes.is_native pid s) _ s p;
    thaws = λ s h pid u p. frames.state_kept (Since tx first) pid states.Ready (says.notes (events.Thaw pid) s) p;
    tells_home = λ s h pid moved e u p. frames.state_kept (Since tx first) pid (states.Arriving (next_tx s) moved) (ending.keeps_tx (next_tx s) (unfinished.Place pid) (says.sends (home_of pid) None (requests.Place pid s.kernel) s)) p;
    waits_for_page = λ s h pid page e u p. frames.state_kept (Since tx first) pid (states.PageWait (next_tx s) page) (pages.fetches pid page s) p;
    has_page = λ s h pid page body u p. frames.page_kept (Since tx first) body pid page s p;
    is_ready = λ s h pid u p. frames.state_kept (Since tx first) pid states.Ready s p;
    fetches_for_answer = λ s h pid page reply u p. frames.state_kept (Since tx first) pid (states.AnswerPages (next_tx s) page reply) (pages.fetches pid page s) p;
  }

  -- the walk, where no request came that may be kept
  pub within : (came : Input) → ComesNone came → WalkWithin Holds came
  within came none = record {
    apart = record {
      files = files came;
      calls = calls came;
      home = home_side.at_home tx first came (λ asker source request e. none_asked came none asker source (requests.Home request) e);
      devices = devices came none;
      moves = moves;
      comings = comings came;
    };
    turns = turns came;
  }
