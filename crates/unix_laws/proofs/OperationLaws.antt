-- The reply by which an operation on a device ends fits its call.
use Rattle.std.proofs.Common.{◌≡◌, ◌≢◌, ◌≤◌, ◌+◌, ℕ, zero, suc, Bool, true, false, cond, List, [], ◌∷◌, ◌++◌, length, nat_le, nat_lt, Option, Some, None, refl, sym, ap, ap₂, subst, ◌∙◌, arith, inl, inr}
use Rattle.std.specs.Prelude.{◌==◌}
use Rattle.std.specs.List.{AllByRecursion}
use Rattle.std.specs.Option.{is_some, option_map}
use Rattle.std.proofs.lemmas.Bool.{cases_Bool, true≢false, eqb-true, eq-eqb, leb-true}
use Rattle.sprite_ids.specs.declared.Errno.{Errno}
use Rattle.sprite_ids.proofs.ListLaws.{each_append, each_filter, each_of_append, each_push, some_is}
use Rattle.sprite_paths.specs.Path.{clean_path}
use Rattle.process_machine.specs.declared.call.Call.{Call}
use Rattle.process_machine.specs.declared.call.Call.TheVariants as call
use Rattle.process_machine.specs.declared.call.Reply.{Reply}
use Rattle.process_machine.specs.declared.call.Reply.TheVariants.{Error}
use Rattle.process_machine.specs.declared.program.Program.{Program}
use Rattle.process_machine.specs.Machine.{Machine}
use Rattle.process_machine.specs.Runs.{at_next_call, call_of_next}
use Rattle.unix_calls.specs.declared.Description.{Description}
use Rattle.unix_calls.specs.declared.Entry.{Entry}
use Rattle.unix_calls.specs.declared.entry.Part.TheVariants as part
use Rattle.unix_calls.specs.declared.state.Answer.{Answer}
use Rattle.unix_calls.specs.declared.state.Ask.{Ask}
use Rattle.unix_calls.specs.declared.state.Device.{Device}
use Rattle.unix_calls.specs.declared.state.Node.{Node}
use Rattle.unix_calls.specs.declared.state.Node.TheVariants.{Directory, FileNode, DeviceNode}
use Rattle.unix_calls.specs.declared.state.Object.{Object}
use Rattle.unix_calls.specs.declared.state.Object.TheVariants.{OfFile, OfDevice, OfMaster}
use Rattle.unix_calls.specs.declared.state.Process.{Process}
use Rattle.unix_calls.specs.declared.state.Stream.{Stream}
use Rattle.unix_calls.specs.Tree.{node_at, walk}
use Rattle.unix_calls.specs.State.{Unix, device_at, is_alive, lives, process_at, put_process, stream_of, with_process}
use Rattle.unix_calls.specs.Answers.{Outcome, Answered, GoesTo, Waits, program_at, refuses}
use Rattle.unix_calls.specs.Boot.{boot_of}
use Rattle.unix_calls.specs.NameCalls.{stat, stat_of, with_path}
use Rattle.unix_calls.specs.StreamCalls.{seek_to, with_file, with_found}
use Rattle.unix_calls.specs.DeviceCalls.{answer_for, answer_of, errno_of, most_of, reply_of}
use Rattle.unix_calls.specs.After.{after, answer_due, counted, outcome, state_of}
use Rattle.unix_calls.proofs.ProcessLaws.{found_pid, put_there}
use Rattle.unix_calls.proofs.NumberLaws.{boot_numbered}
use Rattle.unix_calls.proofs.HistoryLaws.{kept}
use Rattle.unix_frames.specs.Frames.{KeepsOther}
use Rattle.unix_frames.proofs.FrameLaws.{leaves_by}
use Rattle.unix_laws.specs.Asks.{Fetches, Leaves, Moves, Queues, Stays, Takes, asking_of, hand, line_of}
use Rattle.unix_laws.specs.Once.{answers_of, asks_of}
use Rattle.unix_laws.specs.Operations.{FitsDone, OperationsEndFit}
use Rattle.unix_frames.proofs.EntryLaws.{Answers, Asks, Dies, Enters, Fails, IsAt, opened}
use Rattle.unix_frames.proofs.EntryLaws as entry
use Rattle.unix_laws.proofs.FoundLaws.{found_again, found_next}
use Rattle.unix_laws.proofs.DeviceLaws.{GoesOn, answers_in, device_place, enters_none, enters_on}
use Rattle.unix_laws.proofs.OnceLaws.{Comes_out, Goes_in, Idle, Kept, Turn, dead_after, inside_none, kept_after, kept_boot, master_alive, no_ask_part, own_pid, turn_of}

-- ---- the answers that a master may give

-- a call that may go to a master, as far as its values tell
abbrev pub MayAsk : Call → Type 0
MayAsk (call.Seek fd offset) = ⊥
MayAsk (call.Stat path) = ⊥
MayAsk (call.Refused e) = ⊥
MayAsk _ = Unit {0}

fits_bytes : (called : Call) (bytes : List ℕ) → MayAsk called → length bytes ≤ most_of called → FitsDone called (reply_of called bytes)
fits_bytes (call.Read fd many) bytes may short = (refl, (refl, short))
fits_bytes (call.Write fd own) bytes may short = (refl, (refl, refl))
fits_bytes (call.Ioctl fd command own) bytes may short = (refl, (refl, short))
fits_bytes (call.Print own) [] may short = (refl, (refl, refl))
fits_bytes (call.Exit code) [] may short = (refl, (refl, refl))
fits_bytes call.BadStep [] may short = (refl, (refl, refl))
fits_bytes call.Getpid [] may short = (refl, refl)
fits_bytes call.Getppid [] may short = (refl, refl)
fits_bytes (call.Host max) [] may short = (refl, (refl, omega arith))
fits_bytes call.Tick [] may short = (refl, refl)
fits_bytes call.Fork [] may short = (refl, refl)
fits_bytes (call.Exec name arg) [] may short = (refl, (refl, refl))
fits_bytes call.Wait [] may short = refl
fits_bytes (call.Kill pid) [] may short = (refl, (refl, refl))
fits_bytes (call.OpenFile path flags) [] may short = (refl, refl)
fits_bytes (call.Close fd) [] may short = (refl, (refl, refl))
fits_bytes (call.Dup fd) [] may short = (refl, refl)
fits_bytes (call.Seek fd offset) bytes may short = absurd may
fits_bytes (call.Size fd) [] may short = (refl, refl)
fits_bytes (call.Sync fd) [] may short = (refl, (refl, refl))
fits_bytes (call.Stat path) bytes may short = absurd may
fits_bytes (call.Mkdir path) [] may short = (refl, (refl, refl))
fits_bytes (call.Rmdir path) [] may short = (refl, (refl, refl))
fits_bytes (call.Unlink path) [] may short = (refl, (refl, refl))
fits_bytes (call.Rename old new) [] may short = (refl, (refl, refl))
fits_bytes (call.List path max) [] may short = (refl, (refl, omega arith))
fits_bytes (call.Chdir path) [] may short = (refl, (refl, refl))
fits_bytes (call.Migrate name) [] may short = (refl, (refl, refl))
fits_bytes (call.PdMake path) [] may short = (refl, refl)
fits_bytes (call.PdGet fd max) [] may short = (refl, omega arith)
fits_bytes (call.PdPut fd own number) [] may short = (refl, (refl, refl))
fits_bytes (call.Rexec name host) [] may short = (refl, (refl, refl))
fits_bytes (call.Refused e) bytes may short = absurd may
fits_bytes _ (b ∷ bytes) may short = absurd (omega (arith, short))

fits_answer : (called : Call) (bytes : List ℕ) (number : ℕ) (reply : Reply) → MayAsk called → answer_of called bytes number ≡ Some reply → FitsDone called reply
fits_answer called bytes zero reply may is = by (nat_le (length bytes) (most_of called)) refl is
  where
    by : (b : Bool) → nat_le (length bytes) (most_of called) ≡ b → cond b (Some (reply_of called bytes)) None ≡ Some reply → FitsDone called reply
    by true short is = subst (FitsDone called) (some_is (reply_of called bytes) reply is) (fits_bytes called bytes may (leb-true (length bytes) (most_of called) short))
    by false long is = absurd (cc)
fits_answer called bytes (suc n) reply may is = by (length bytes == 0) is
  where
    error_so : (o : Option Errno) → option_map Error o ≡ Some reply → FitsDone called reply
    error_so None is = absurd (cc)
    error_so (Some e) is = subst (FitsDone called) (some_is (Error e) reply is) tt

    by : (b : Bool) → cond b (option_map Error (errno_of (suc n))) None ≡ Some reply → FitsDone called reply
    by true is = error_so (errno_of (suc n)) is
    by false is = absurd (cc)

-- the three calls whose values tell that they never go to a master
abbrev GoesNowhere : Outcome → Type 0
GoesNowhere (GoesTo place) = ⊥
GoesNowhere (Answered reply later) = Unit {0}
GoesNowhere Waits = Unit {0}

nowhere_seek : (c : Description) (w : Unix) (q : Process) (fd offset : ℕ) → GoesNowhere (outcome c w q (call.Seek fd offset))
nowhere_seek c w q fd offset = by (stream_of w q fd)
  where
    limit : (s : Stream) (b : Bool) → GoesNowhere (cond b (refuses c w q Rattle.sprite_ids.specs.declared.Errno.TheVariants.Invalid) (Rattle.unix_calls.specs.Answers.gives c (Rattle.unix_calls.specs.StreamCalls.at_offset offset s w) q offset))
    limit s true = tt
    limit s false = tt

    object : (s : Stream) (o : Object) → GoesNowhere (with_file c w q o (λ name. seek_to c w q offset s))
    object s (OfFile name) = limit s (nat_lt w.limit offset)
    object s (OfDevice place) = tt
    object s (OfMaster place) = tt

    by : (found : Option Stream) → GoesNowhere (with_found c w q found (λ stream. with_file c w q stream.object (λ name. seek_to c w q offset stream)))
    by None = tt
    by (Some s) = object s s.object

nowhere_stat : (c : Description) (w : Unix) (q : Process) (text : List ℕ) → GoesNowhere (outcome c w q (call.Stat text))
nowhere_stat c w q text = by (clean_path q.cwd text)
  where
    node : (path : List (List ℕ)) (n : Option Node) → GoesNowhere (stat_of c w q path n)
    node path None = tt
    node path (Some Directory) = tt
    node path (Some (FileNode name)) = tt
    node path (Some (DeviceNode place)) = tt

    walked : (path : List (List ℕ)) (refusal : Option Errno) → GoesNowhere (Rattle.unix_calls.specs.Answers.unless_refused c w q refusal (stat_of c w q path (node_at w.nodes path)))
    walked path None = node path (node_at w.nodes path)
    walked path (Some e) = tt

    by : (found : Option (List (List ℕ))) → GoesNowhere (with_path c w q found (stat c w q))
    by None = tt
    by (Some path) = walked path (walk w.nodes path)

may_ask : (c : Description) (w : Unix) (q : Process) (called : Call) (place : ℕ) → outcome c w q called ≡ GoesTo place → MayAsk called
may_ask c w q (call.Seek fd offset) place goes = subst GoesNowhere goes (nowhere_seek c w q fd offset)
may_ask c w q (call.Stat text) place goes = subst GoesNowhere goes (nowhere_stat c w q text)
may_ask c w q (call.Refused e) place goes = absurd (subst GoesNowhere goes tt)
may_ask c w q _ place goes = tt

-- ---- whose an ask and an answer are

pub record NextIs (c : Description) (p : Process) (called : Call) : Type 0 where
  pub program : Program
  pub image : Machine
  pub program_is : program_at c.programs p.image.number ≡ Some program
  pub comes : at_next_call program p.image ≡ Some image
  pub call_is : call_of_next program (Some image) ≡ Some called

-- the process lives, and its next call is the ask's, with its number
pub record IsAsker (c : Description) (u : Unix) (ask : Ask) : Type 0 where
  pub process : Process
  pub there : process_at u.processes ask.pid ≡ Some process
  pub living : lives process ≡ true
  pub number : ask.number ≡ process.calls + 1
  pub next : NextIs c process ask.call
  pub may : MayAsk ask.call

-- the answer fits the process's next call
pub record IsLeft (c : Description) (u : Unix) (answer : Answer) : Type 0 where
  pub process : Process
  pub called : Call
  pub there : process_at u.processes answer.pid ≡ Some process
  pub next : NextIs c process called
  pub fits : FitsDone called answer.reply

pub record Fit (c : Description) (u : Unix) : Type 0 where
  pub kept_so : Kept u
  pub asks : (place : ℕ) (device : Device) → device_at u.devices place ≡ Some device → is_alive u place ≡ true → AllByRecursion (IsAsker c u) (line_of (Some device))
  pub answers : (place : ℕ) (device : Device) → device_at u.devices place ≡ Some device → AllByRecursion (IsLeft c u) device.answers

next_still : (c : Description) (p q : Process) (called : Call) → q.image ≡ p.image → NextIs c p called → NextIs c q called
next_still c p q called same n =
    record {
      program = n.program;
      image = n.image;
      program_is = ap (λ (m : Machine). program_at c.programs m.number) same ∙ n.program_is;
      comes = ap (at_next_call n.program) same ∙ n.comes;
      call_is = n.call_is;
    }

-- ---- behind an entry, for those of other processes

pub record Moved_on (c : Description) (u v : Unix) (e : Entry) : Type 0 where
  pub others : (other : Process) → process_at u.processes other.pid ≡ Some other → other.pid ≢ e.pid → KeepsOther e v other

pub asker_on : (c : Description) (u v : Unix) (e : Entry) (ask : Ask) → Moved_on c u v e → ask.pid ≢ e.pid → IsAsker c u ask → IsAsker c v ask
asker_on c u v e ask m apart a =
    let mine : a.process.pid ≡ ask.pid = found_pid u.processes ask.pid a.process a.there in
    let k = m.others a.process (ap (process_at u.processes) mine ∙ a.there) (λ same. apart (sym mine ∙ same)) in
    record {
      process = k.after;
      there = ap (process_at v.processes) (sym mine) ∙ k.there;
      living = ap lives k.whole ∙ a.living;
      number = a.number ∙ sym (ap (λ (p : Process). p.calls + 1) k.whole);
      next = next_still c a.process k.after ask.call (ap (λ (p : Process). p.image) k.whole) a.next;
      may = a.may;
    }

left_on : (c : Description) (u v : Unix) (e : Entry) (answer : Answer) → Moved_on c u v e → answer.pid ≢ e.pid → IsLeft c u answer → IsLeft c v answer
left_on c u v e answer m apart a =
    let mine : a.process.pid ≡ answer.pid = found_pid u.processes answer.pid a.process a.there in
    let k = m.others a.process (ap (process_at u.processes) mine ∙ a.there) (λ same. apart (sym mine ∙ same)) in
    record { process = k.after; called = a.called; there = ap (process_at v.processes) (sym mine) ∙ k.there; next = next_still c a.process k.after a.called (ap (λ (p : Process). p.image) k.whole) a.next; fits = a.fits }

-- of whom none stands there
pub apart_asks : (pid : ℕ) (asks : List Ask) → asks_of pid asks ≡ 0 → AllByRecursion (λ (a : Ask). a.pid ≢ pid) asks
apart_asks pid [] h = tt
apart_asks pid (a ∷ asks) h = by (a.pid == pid) refl h (apart_asks pid asks)
  where
    by : (b : Bool) → (a.pid == pid) ≡ b → cond {A = ℕ} b 1 0 + asks_of pid asks ≡ 0 → (asks_of pid asks ≡ 0 → AllByRecursion (λ (a : Ask). a.pid ≢ pid) asks) → AllByRecursion (λ (a : Ask). a.pid ≢ pid) (a ∷ asks)
    by true e h rest = absurd (omega (arith, h))
    by false e h rest = ((λ same. true≢false (sym (eq-eqb a.pid pid same) ∙ e)), rest (omega (arith, h)))

apart_answers : (pid : ℕ) (answers : List Answer) → answers_of pid answers ≡ 0 → AllByRecursion (λ (a : Answer). a.pid ≢ pid) answers
apart_answers pid [] h = tt
apart_answers pid (a ∷ answers) h = by (a.pid == pid) refl h (apart_answers pid answers)
  where
    by : (b : Bool) → (a.pid == pid) ≡ b → cond {A = ℕ} b 1 0 + answers_of pid answers ≡ 0 → (answers_of pid answers ≡ 0 → AllByRecursion (λ (a : Answer). a.pid ≢ pid) answers) → AllByRecursion (λ (a : Answer). a.pid ≢ pid) (a ∷ answers)
    by true e h rest = absurd (omega (arith, h))
    by false e h rest = ((λ same. true≢false (sym (eq-eqb a.pid pid same) ∙ e)), rest (omega (arith, h)))

askers_on : (c : Description) (u v : Unix) (e : Entry) (asks : List Ask) → Moved_on c u v e → AllByRecursion (λ (a : Ask). a.pid ≢ e.pid) asks → AllByRecursion (IsAsker c u) asks → AllByRecursion (IsAsker c v) asks
askers_on c u v e [] m apart h = tt
askers_on c u v e (a ∷ asks) m apart h = (asker_on c u v e a m apart.0 h.0, askers_on c u v e asks m apart.1 h.1)

lefts_on : (c : Description) (u v : Unix) (e : Entry) (answers : List Answer) → Moved_on c u v e → AllByRecursion (λ (a : Answer). a.pid ≢ e.pid) answers → AllByRecursion (IsLeft c u) answers → AllByRecursion (IsLeft c v) answers
lefts_on c u v e [] m apart h = tt
lefts_on c u v e (a ∷ answers) m apart h = (left_on c u v e a m apart.0 h.0, lefts_on c u v e answers m apart.1 h.1)

-- what stands in a device's line and answers behind an entry that asks nothing, told of the state before it
record Had (c : Description) (u v : Unix) (place : ℕ) (device : Device) : Type 0 where
  asks : is_alive v place ≡ true → AllByRecursion (IsAsker c u) (line_of (Some device))
  answers : AllByRecursion (IsLeft c u) device.answers

had_of : (c : Description) (u v : Unix) (e : Entry) (place : ℕ) (before device : Device) → Fit c u → device_at u.devices place ≡ Some before → (is_alive v place ≡ true → is_alive u place ≡ true) → (e.part ≡ part.Ask → ⊥) → Moves u e before device → Had c u v place device
had_of c u v e place before device h was alive no_ask (Stays is) =
    record { asks = λ now. subst (λ (d : Device). AllByRecursion (IsAsker c u) (line_of (Some d))) (sym is) (h.asks place before was (alive now)); answers = subst (λ (d : Device). AllByRecursion (IsLeft c u) d.answers) (sym is) (h.answers place before was) }
had_of c u v e place before device h was alive no_ask (Queues ask is_ask called mine number is) = absurd (no_ask is_ask)
had_of c u v e place before device h was alive no_ask (Takes ask rest fd max whole called given free line master is) =
    let same : line_of (Some device) ≡ line_of (Some before) = ap (λ (d : Device). line_of (Some d)) is ∙ sym (ap₂ (λ o l. hand o ++ l) free line) in
    record { asks = λ now. subst (AllByRecursion (IsAsker c u)) (sym same) (h.asks place before was (alive now)); answers = subst (λ (d : Device). AllByRecursion (IsLeft c u) d.answers) (sym is) (h.answers place before was) }
had_of c u v e place before device h was alive no_ask (Leaves ask reply fd bytes number whole called held answer master is) =
    let on : is_alive u place ≡ true = sym (ap (is_alive u) (device_place u.devices place before was)) ∙ master_alive u before.place e.pid master in
    let all : AllByRecursion (IsAsker c u) (ask ∷ before.asks) = subst (λ o. AllByRecursion (IsAsker c u) (hand o ++ before.asks)) held (h.asks place before was on) in
    let a = all.0 in
    let new : IsLeft c u (record { pid = ask.pid; reply = reply }) = record { process = a.process; called = ask.call; there = a.there; next = a.next; fits = fits_answer ask.call bytes number reply a.may answer } in
    record {
      asks = λ now. subst (λ (d : Device). AllByRecursion (IsAsker c u) (line_of (Some d))) (sym is) all.1;
      answers = subst (λ (d : Device). AllByRecursion (IsLeft c u) d.answers) (sym is) (each_push (IsLeft c u) before.answers (record { pid = ask.pid; reply = reply }) (h.answers place before was) new);
    }
had_of c u v e place before device h was alive no_ask (Fetches done is) =
    record {
      asks = λ now. subst (λ (d : Device). AllByRecursion (IsAsker c u) (line_of (Some d))) (sym is) (h.asks place before was (alive now));
      answers = subst (λ (d : Device). AllByRecursion (IsLeft c u) d.answers) (sym is) (each_filter (IsLeft c u) _ before.answers (h.answers place before was));
    }

-- the counts of who is inside nothing
none_asks : (u : Unix) (place pid : ℕ) (device : Device) → Kept u → device_at u.devices place ≡ Some device → asking_of (process_at u.processes pid) ≡ None → is_alive u place ≡ true → asks_of pid (line_of (Some device)) ≡ 0
none_asks u place pid device h there none alive =
    let sum = h.once.living place device pid there alive in
    let zero_is = inside_none place (process_at u.processes pid) none in
    omega (arith, sum, zero_is)

none_answers : (u : Unix) (place pid : ℕ) (device : Device) → Kept u → device_at u.devices place ≡ Some device → asking_of (process_at u.processes pid) ≡ None → answers_of pid device.answers ≡ 0
none_answers u place pid device h there none =
    let few = h.once.left place device pid there in
    let zero_is = inside_none place (process_at u.processes pid) none in
    omega (arith, few, zero_is)

-- ---- an entry

record Fits_now (c : Description) (v : Unix) (place : ℕ) (device : Device) : Type 0 where
  asks : is_alive v place ≡ true → AllByRecursion (IsAsker c v) (line_of (Some device))
  answers : AllByRecursion (IsLeft c v) device.answers

quiet_fits : (c : Description) (u v : Unix) (e : Entry) (place : ℕ) (before device : Device) → Fit c u → Kept v → Moved_on c u v e → device_at u.devices place ≡ Some before → device_at v.devices place ≡ Some device → (is_alive v place ≡ true → is_alive u place ≡ true) → (e.part ≡ part.Ask → ⊥)
    → asking_of (process_at v.processes e.pid) ≡ None → Moves u e before device → Fits_now c v place device
quiet_fits c u v e place before device h k m was now alive no_ask none moves =
    let had = had_of c u v e place before device h was alive no_ask moves in
    record {
      asks = λ on. askers_on c u v e (line_of (Some device)) m (apart_asks e.pid (line_of (Some device)) (none_asks v place e.pid device k now none on)) (had.asks on);
      answers = lefts_on c u v e device.answers m (apart_answers e.pid device.answers (none_answers v place e.pid device k now none)) had.answers;
    }

-- who asks
asker_new : (c : Description) (u v : Unix) (e : Entry) (ask : Ask) → Enters c u e v → e.part ≡ part.Ask → e.call ≡ Some ask.call → ask.pid ≡ e.pid → ask.number ≡ e.number → IsAsker c v ask
asker_new c u v e ask (Answers q called reply at whole given idle out) is known mine numbered = absurd (no_ask_part e whole is)
asker_new c u v e ask (Fails q called error at whole given idle may out) is known mine numbered = absurd (no_ask_part e whole is)
asker_new c u v e ask (entry.Fetches q called at device reply is_at done given busy there due out) is known mine numbered = absurd (let two : part.Ask ≡ part.Done = sym is ∙ done in cc)
asker_new c u v e ask (Dies p there alive killed idle dead none given out) is known mine numbered = absurd (let two : part.Ask ≡ part.Death = sym is ∙ dead in cc)
asker_new c u v e ask (Asks q called at device is_at ask_is given idle goes there out) is known mine numbered =
    let r : Process = record q { asking = Some device.place } in
    let same : called ≡ ask.call = some_is called ask.call (sym is_at.claimed ∙ known) in
    let own : r.pid ≡ ask.pid = own_pid c u e q called is_at ∙ sym mine in
    let image : r.image ≡ is_at.image = ap (λ (p : Process). p.image) is_at.whole in
    let number = found_next is_at.program is_at.before.image is_at.image is_at.comes in
    let next : NextIs c r called = record {
      program = is_at.program;
      image = is_at.image;
      program_is = ap (λ (k : Machine). program_at c.programs k.number) image ∙ ap (program_at c.programs) number.number ∙ is_at.program_is;
      comes = ap (at_next_call is_at.program) image ∙ found_again is_at.program is_at.before.image is_at.image is_at.comes;
      call_is = is_at.call_is;
    } in
    record {
      process = r;
      there = ap (λ (x : Unix). process_at x.processes ask.pid) out ∙ ap (process_at (put_process r (with_process q u).processes)) (sym own) ∙ put_there r (with_process q u).processes;
      living = ap lives is_at.whole ∙ is_at.alive;
      number = numbered ∙ is_at.number ∙ sym (ap (λ (p : Process). p.calls + 1) is_at.whole);
      next = subst (NextIs c r) same next;
      may = subst MayAsk same (may_ask c (with_process q u) q called at goes);
    }

asking_fits : (c : Description) (u v : Unix) (e : Entry) (place : ℕ) (before device : Device) → Fit c u → Moved_on c u v e → ((ask : Ask) → e.call ≡ Some ask.call → ask.pid ≡ e.pid → ask.number ≡ e.number → IsAsker c v ask) → device_at u.devices place ≡ Some before → (is_alive v place ≡ true → is_alive u place ≡ true)
    → e.part ≡ part.Ask → asking_of (process_at u.processes e.pid) ≡ None → Moves u e before device → Fits_now c v place device
asking_fits c u v e place before device h m new was alive ask none moves = by moves
  where
    old_asks : is_alive v place ≡ true → AllByRecursion (IsAsker c v) (line_of (Some before))
    old_asks on = askers_on c u v e (line_of (Some before)) m (apart_asks e.pid (line_of (Some before)) (none_asks u place e.pid before h.kept_so was none (alive on))) (h.asks place before was (alive on))

    old_answers : AllByRecursion (IsLeft c v) before.answers
    old_answers = lefts_on c u v e before.answers m (apart_answers e.pid before.answers (none_answers u place e.pid before h.kept_so was none)) (h.answers place before was)

    pushed : (xs ys : List Ask) (x : Ask) → AllByRecursion (IsAsker c v) (xs ++ ys) → IsAsker c v x → AllByRecursion (IsAsker c v) (xs ++ (ys ++ x ∷ []))
    pushed xs ys x all own = let two = each_of_append (IsAsker c v) xs ys all in each_append (IsAsker c v) xs (ys ++ x ∷ []) two.0 (each_push (IsAsker c v) ys x two.1 own)

    by : Moves u e before device → Fits_now c v place device
    by (Stays is) =
        record { asks = λ on. subst (λ (d : Device). AllByRecursion (IsAsker c v) (line_of (Some d))) (sym is) (old_asks on); answers = subst (λ (d : Device). AllByRecursion (IsLeft c v) d.answers) (sym is) old_answers }
    by (Queues made is_ask called mine number is) =
        record {
          asks = λ on. subst (λ (d : Device). AllByRecursion (IsAsker c v) (line_of (Some d))) (sym is) (pushed (hand before.in_hand) before.asks made (old_asks on) (new made called mine number));
          answers = subst (λ (d : Device). AllByRecursion (IsLeft c v) d.answers) (sym is) old_answers;
        }
    by (Takes made rest fd max whole called given free line master is) = absurd (no_ask_part e whole ask)
    by (Leaves made reply fd bytes number whole called held answer master is) = absurd (no_ask_part e whole ask)
    by (Fetches done is) = absurd (let two : part.Ask ≡ part.Done = sym ask ∙ done in cc)

new_fits : (c : Description) (v : Unix) (place : ℕ) (device : Device) → line_of (Some device) ≡ [] → device.answers ≡ [] → Fits_now c v place device
new_fits c v place device none no_answers = record { asks = λ on. subst (AllByRecursion (IsAsker c v)) (sym none) tt; answers = subst (AllByRecursion (IsLeft c v)) (sym no_answers) tt }

fits_for : (c : Description) (u v : Unix) (e : Entry) (place : ℕ) (device : Device) → after c u e ≡ Some v → Fit c u → device_at v.devices place ≡ Some device → Fits_now c v place device
fits_for c u v e place device is h now = by (device_at u.devices place) refl
  where
    k : Kept v
    k = kept_after c u v e is h.kept_so

    m : Moved_on c u v e
    m = record { others = (leaves_by c u v e h.kept_so.numbered is).others }

    later : Unix
    later = (opened c u v e is).later

    whole : v ≡ counted later
    whole = (opened c u v e is).whole

    new : e.part ≡ part.Ask → (ask : Ask) → e.call ≡ Some ask.call → ask.pid ≡ e.pid → ask.number ≡ e.number → IsAsker c v ask
    new is_ask ask known mine numbered =
        let a = asker_new c u later e ask (opened c u v e is).enters is_ask known mine numbered in
        record { process = a.process; there = ap (λ (x : Unix). process_at x.processes ask.pid) whole ∙ a.there; living = a.living; number = a.number; next = a.next; may = a.may }

    by : (was : Option Device) → device_at u.devices place ≡ was → Fits_now c v place device
    by None none =
        let n = (enters_none c u later e place (opened c u v e is).enters none).empty in
        let same : device_at later.devices place ≡ Some device = sym (ap (λ (x : Unix). device_at x.devices place) whole) ∙ now in
        new_fits c v place device (ap line_of (sym same) ∙ n.line) (ap answers_in (sym same) ∙ n.answers)
    by (Some before) was = turned (turn_of c u v e is h.kept_so.sound) moves
      where
        g : GoesOn u v e place before
        g = subst (λ (x : Unix). GoesOn u x e place before) (sym whole) (enters_on c u later e place before (opened c u v e is).enters was)

        moves : Moves u e before device
        moves = subst (Moves u e before) (some_is g.goes.device device (sym g.goes.there ∙ now)) g.goes.moves

        alive : is_alive v place ≡ true → is_alive u place ≡ true
        alive on =
            elim (cases_Bool (is_alive u place)) [
              | inl still ↦ still
              | inr dead ↦ absurd (true≢false (sym on ∙ dead_after c u v e place is h.kept_so.sound (ap (λ d. is_some d) was) dead))
            ]

        turned : Turn u v e → Moves u e before device → Fits_now c v place device
        turned (Idle none still_none no_ask no_done) moves = quiet_fits c u v e place before device h k m was now alive no_ask still_none moves
        turned (Goes_in at none in_it there ask has) moves = asking_fits c u v e place before device h m (new ask) was alive ask none moves
        turned (Comes_out at old was_in none there done let_go) moves =
            quiet_fits c u v e place before device h k m was now alive (λ ask. let two : part.Done ≡ part.Ask = sym done ∙ ask in absurd (cc)) none moves

fit_after : (c : Description) (u v : Unix) (e : Entry) → after c u e ≡ Some v → Fit c u → Fit c v
fit_after c u v e is h =
    record {
      kept_so = kept_after c u v e is h.kept_so;
      asks = λ place device there alive. (fits_for c u v e place device is h there).asks alive;
      answers = λ place device there. (fits_for c u v e place device is h there).answers;
    }

fit_boot : (c : Description) → length c.starts ≤ 200 → Fit c (boot_of c)
fit_boot c few =
    record {
      kept_so = kept_boot c (boot_numbered c few);
      asks = λ place device there alive. absurd (let two : None ≡ Some device = there in cc);
      answers = λ place device there. absurd (let two : None ≡ Some device = there in cc);
    }

pub fit_state : (c : Description) (journal : List Entry) (u : Unix) → length c.starts ≤ 200 → state_of c journal ≡ Some u → Fit c u
fit_state c journal u few was = kept c (Fit c) (fit_after c) journal u (fit_boot c few) was

-- ---- the law

-- the answer that is left for a process
found_left : (c : Description) (u : Unix) (pid : ℕ) (answers : List Answer) (reply : Reply) → AllByRecursion (IsLeft c u) answers → answer_for pid answers ≡ Some reply → IsLeft c u (record { pid = pid; reply = reply })
found_left c u pid [] reply h found = absurd (cc)
found_left c u pid (a ∷ answers) reply h found = by (a.pid == pid) refl found (found_left c u pid answers reply h.1)
  where
    by : (b : Bool) → (a.pid == pid) ≡ b → cond b (Some a.reply) (answer_for pid answers) ≡ Some reply → (answer_for pid answers ≡ Some reply → IsLeft c u (record { pid = pid; reply = reply })) → IsLeft c u (record { pid = pid; reply = reply })
    by true e found rest =
        let l = h.0 in
        record { process = l.process; called = l.called; there = ap (process_at u.processes) (sym (eqb-true a.pid pid e)) ∙ l.there; next = l.next; fits = subst (FitsDone l.called) (some_is a.reply reply found) l.fits }
    by false e found rest = rest found

-- a process has one next call
one_next : (c : Description) (u : Unix) (e : Entry) (q : Process) (called known : Call) (at : IsAt c u e q called) → NextIs c at.before known → known ≡ called
one_next c u e q called known at n =
    let program : n.program ≡ at.program = some_is n.program at.program (sym n.program_is ∙ at.program_is) in
    let image : n.image ≡ at.image = some_is n.image at.image (sym n.comes ∙ ap (λ (p : Program). at_next_call p at.before.image) program ∙ at.comes) in
    some_is known called (sym n.call_is ∙ ap₂ (λ (p : Program) (m : Machine). call_of_next p (Some m)) program image ∙ at.call_is)

enters_done : (c : Description) (u later : Unix) (e : Entry) (called : Call) (reply : Reply) → Fit c u → e.part ≡ part.Done → e.call ≡ Some called → e.reply ≡ Some reply → Enters c u e later → FitsDone called reply
enters_done c u later e called reply h done is given (Answers q known told at whole told_is idle out) = absurd (let two : part.Done ≡ part.Whole = sym done ∙ whole in cc)
enters_done c u later e called reply h done is given (Fails q known error at whole told_is idle may out) = absurd (let two : part.Done ≡ part.Whole = sym done ∙ whole in cc)
enters_done c u later e called reply h done is given (Asks q known place device at ask told_is idle goes there out) = absurd (let two : part.Done ≡ part.Ask = sym done ∙ ask in cc)
enters_done c u later e called reply h done is given (Dies p there alive killed idle dead none told_is out) = absurd (let two : part.Done ≡ part.Death = sym done ∙ dead in cc)
enters_done c u later e called reply h done is given (entry.Fetches q known place device told at done_is told_is busy there due out) =
    let same : known ≡ called = some_is known called (sym at.claimed ∙ is) in
    let answer : told ≡ reply = some_is told reply (sym told_is ∙ given) in
    subst (λ k. FitsDone k reply) same (subst (FitsDone known) answer (by (answer_for q.pid device.answers) refl due))
  where
    by : (left : Option Reply) → answer_for q.pid device.answers ≡ left → answer_due (with_process q u) q device left ≡ Some told → FitsDone known told
    by (Some own) left_is due =
        let l = found_left c u q.pid device.answers own (h.answers place device there) left_is in
        let mine : at.before ≡ l.process = some_is at.before l.process (sym at.there ∙ ap (process_at u.processes) (sym (own_pid c u e q known at)) ∙ l.there) in
        let one : l.called ≡ known = one_next c u e q known l.called at (subst (λ (p : Process). NextIs c p l.called) (sym mine) l.next) in
        subst (FitsDone known) (some_is own told due) (subst (λ k. FitsDone k own) one l.fits)
    by None left_is due = gone (is_alive (with_process q u) device.place) due
      where
        gone : (b : Bool) → cond b None (Some (Error Rattle.sprite_ids.specs.declared.Errno.TheVariants.NoServer)) ≡ Some told → FitsDone known told
        gone true due = absurd (cc)
        gone false due = subst (FitsDone known) (some_is (Error Rattle.sprite_ids.specs.declared.Errno.TheVariants.NoServer) told due) tt

pub operations_end_fit : OperationsEndFit
operations_end_fit c journal u v e called reply few was is done call_is given =
    let o = opened c u v e is in
    enters_done c u o.later e called reply (fit_state c journal u few was) done call_is given o.enters
