-- What calls of processes and asks of pseudo-devices do to what is on its way to processes.
use Rattle.std.proofs.Common.{arith, ◌≡◌, ℕ, zero, suc, ◌+◌, ◌≤◌, ◌==◌, nat_le, nat_lt, Bool, true, false, ◌&&◌, ◌||◌, not, cond, List, [], ◌∷◌, ◌++◌, length, Option, Some, None, option_map, refl, sym, ap, ap₂, ◌∙◌, subst}
use Rattle.std.proofs.lemmas.Bool.{eq-eqb, eqb-true}
use Rattle.std.specs.List.{find}
use Rattle.sprite_ids.specs.declared.AskKind.{AskKind}
use Rattle.sprite_ids.specs.declared.DeviceId.{DeviceId}
use Rattle.sprite_ids.specs.declared.Errno.{Errno}
use Rattle.sprite_ids.specs.declared.Errno.TheVariants as errnos
use Rattle.sprite_ids.specs.declared.Object.{Object}
use Rattle.sprite_ids.specs.declared.Object.TheVariants as objects
use Rattle.sprite_ids.specs.declared.TxNo.{TxNo}
use Rattle.sprite_ids.specs.Lists.{less, one_if, total}
use Rattle.sprite_ids.proofs.ListLaws.{some_is}
use Rattle.process_machine.specs.declared.Call.{Call}
use Rattle.process_machine.specs.declared.Call.TheVariants as calls
use Rattle.process_machine.specs.declared.Reply.{Reply}
use Rattle.process_machine.specs.declared.Reply.TheVariants.{Error}
use Rattle.process_machine.specs.Machine.{Machine}
use Rattle.packet_bodies.specs.declared.AskRequest.{AskRequest}
use Rattle.packet_bodies.specs.declared.Request.TheVariants as requests
use Rattle.pseudo_device.specs.declared.ask.Ask.{Ask}
use Rattle.pseudo_device.specs.declared.TakeEnd.{TakeEnd}
use Rattle.pseudo_device.specs.declared.TakeEnd.TheVariants as takes
use Rattle.pseudo_device.specs.declared.Answer.{Answer}
use Rattle.pseudo_device.specs.Device.{Asks, take_refusal, told}
use Rattle.stream_table.specs.declared.Stream.{Stream}
use Rattle.unix_calls.specs.declared.About.{About}
use Rattle.unix_calls.specs.DeviceCalls.{errno_of}
use Rattle.unix_calls.specs.Opening.{reads, writes}
use Rattle.kernel_steps.specs.Rows.{first_under, is_row, is_under}
use Rattle.client_homes.specs.declared.client.ClientProcs.{ClientProcs}
use Rattle.client_homes.specs.declared.client.Unfinished.TheVariants as unfinished
use Rattle.client_homes.specs.declared.process.Proc.{Proc}
use Rattle.client_homes.specs.declared.process.ProcState.TheVariants as states
use Rattle.client_homes.specs.Issuing as issuing
use Rattle.client_homes.specs.Procs as procs_of
use Rattle.client_homes.specs.Procs.{is_pid, proc_at}
use Rattle.client_homes.specs.Says as says
use Rattle.client_homes.specs.Says.{value}
use Rattle.client_devices.specs.Asking as asking
use Rattle.client_devices.specs.Asks.{ask_of, ask_with, carried_ask, packed_ask}
use Rattle.client_devices.specs.Getting as getting
use Rattle.client_devices.specs.Making as making
use Rattle.client_devices.specs.Masters as masters
use Rattle.client_devices.specs.Opened as opened
use Rattle.client_devices.specs.Tables as tables
use Rattle.client_moves.specs.declared.Route.{Route}
use Rattle.client_moves.specs.Carrying.{holds_master}
use Rattle.client_moves.specs.Freezing as freezing
use Rattle.client_procs.specs.Issues as issuing_calls
use Rattle.client_procs.specs.Launching as launching
use Rattle.client_procs.specs.Launching.{program_named}
use Rattle.client_procs.specs.Moving as moving
use Rattle.client_facts.specs.ProcFacts.{gets_from}
use Rattle.client_rounds.specs.OneThing.{busy_of, getter_of, getting_of, is_busy}
use Rattle.client_rounds.specs.Rounds.{of_process}
use Rattle.client_rounds.proofs.ComeDeeds as coming
use Rattle.client_rounds.proofs.ComeDeeds.{NextBirth}
use Rattle.client_rounds.proofs.FileDeeds as filing
use Rattle.client_rounds.proofs.HomeDeeds as homing
use Rattle.client_rounds.proofs.Sides.{Any}
use Rattle.client_rounds.proofs.StandLaws as standing
use Rattle.client_rounds.proofs.Standing.{Bal, Busy, Free, Rest, busy_apart, cond_most, none_here, one_most, three_apart, total_at, total_there, whole_of}
use Rattle.client_rounds.proofs.Totals.{total_found, total_push}

-- the first master that waits for a device is found by itself
first_row_by : (device pid k v : ℕ) (b c : Bool) (o p : Option (ℕ × ℕ)) → (k == device) ≡ b → (v == pid) ≡ c → (option_map (λ (row : ℕ × ℕ). row.1) o ≡ Some pid → p ≡ Some (device, pid)) → option_map (λ (row : ℕ × ℕ). row.1) (cond b (Some (k, v)) o) ≡ Some pid
    → cond (b && c) (Some (k, v)) p ≡ Some (device, pid)
first_row_by device pid k v true true o p e f later h = ap₂ (λ (x y : ℕ). Some (x, y)) (eqb-true k device e) (eqb-true v pid f)
first_row_by device pid k v true false o p e f later h = absurd (let both = sym f ∙ eq-eqb v pid (some_is v pid h) in cc)
first_row_by device pid k v false c o p e f later h = later h

first_row : (device pid : ℕ) (rows : List (ℕ × ℕ)) → first_under is_pid device rows ≡ Some pid → find (is_row is_pid is_pid device pid) rows ≡ Some (device, pid)
first_row device pid [] h = absurd (cc)
first_row device pid (row ∷ rows) h =
    first_row_by device pid row.0 row.1 (row.0 == device) (row.1 == pid) (find (is_under is_pid device) rows) (find (is_row is_pid is_pid device pid) rows) refl refl (first_row device pid rows) h

-- an ask is of the process that makes it
ask_by : (b : Bool) (ask other : Ask) → cond b None (Some ask) ≡ Some other → other.pid ≡ ask.pid
ask_by true ask other e = absurd (cc)
ask_by false ask other e = ap (λ (ask : Ask). ask.pid) (sym (some_is ask other e))

ask_from : (about : About) (fd : ℕ) (kind : AskKind) (many : ℕ) (bytes : List ℕ) (ask : Ask) → ask_with about fd kind many bytes ≡ Some ask → ask.pid ≡ about.pid
ask_from about fd kind many bytes ask e = ask_by (nat_le 16 fd || nat_lt 16384 many) (record { pid = about.pid; number = about.number; fd = fd; kind = kind; length = many; bytes = bytes }) ask e

ask_pid : (about : About) (call : Call) (ask : Ask) → ask_of about call ≡ Some ask → ask.pid ≡ about.pid
ask_pid about (calls.Read fd many) ask e = ask_from about fd _ many _ ask e
ask_pid about (calls.Write fd bytes) ask e = ask_from about fd _ 0 bytes ask e
ask_pid about (calls.Ioctl fd command bytes) ask e = ask_from about fd _ (length bytes) _ ask e
ask_pid about call ask e = absurd (cc)

own_pid : (o : Option Proc) (pid : ℕ) (ask : Ask) → asking.ask_at pid o ≡ Some ask → ask.pid ≡ pid
own_pid None pid ask e = absurd (cc)
own_pid (Some proc) pid ask e = by_call proc.call e
  where
    by_call : (o : Option Call) → asking.ask_if (record { pid = pid; number = proc.number }) o ≡ Some ask → ask.pid ≡ pid
    by_call None f = absurd (cc)
    by_call (Some call) f = ask_pid (record { pid = pid; number = proc.number }) call ask f

-- a master gets to wait for a device
waits_in : (o : Option Proc) (q dev A : ℕ) (g : Bool) (H B pid device max : ℕ) (s : ClientProcs) → proc_at pid s ≡ o → Bal q dev A Any g H B (0 + one_if (pid == q)) 0 0 0 0 (whole_of s)
    → Bal q dev A Any g H B 0 0 0 0 0 (whole_of (record (procs_of.with_proc pid (option_map {T = Proc} (λ proc. record proc { state = states.Getting device max }) o) s) { getters = s.getters ++ (device, pid) ∷ [] }))
waits_in None q dev A g H B pid device max s e a =
    let more = total_push (getter_of dev q) s.getters (device, pid) in
    let most_one = cond_most (device == dev) (one_if (pid == q)) in
    let apart_busy = busy_apart q dev s.procs in
    let owed_so = a.owed in
    let gets_so = a.gets in
    let none = none_here q pid s.procs e (omega arith) in
    record { owed = omega arith; gets = omega arith; room = omega arith; moves = a.moves; apart = a.apart; most = a.most; ways = a.ways; turns = a.turns; queues = a.queues; short = a.short; held = a.held; kin = a.kin }
waits_in (Some old) q dev A g H B pid device max s e a =
    let new : Proc = record old { state = states.Getting device max } in
    let more = total_push (getter_of dev q) s.getters (device, pid) in
    let busy = total_at (busy_of q) pid s.procs old new e in
    let gets_more = total_at (getting_of dev q) pid s.procs old new e in
    let here_so = total_at (of_process q) pid s.procs old new e in
    let there = total_there (getting_of dev q) pid s.procs old e in
    let third = cond_most (is_busy old.state) (one_if (pid == q)) in
    let fourth = cond_most (gets_from dev old.state) (one_if (pid == q)) in
    let most_one = cond_most (device == dev) (one_if (pid == q)) in
    let apart_busy = busy_apart q dev s.procs in
    let unit = one_most (pid == q) in
    let owed_so = a.owed in
    let gets_so = a.gets in
    let apart_so = a.apart in
    let most_so = a.most in
    record { owed = omega arith; gets = omega arith; room = omega arith; moves = a.moves; apart = omega arith; most = a.most; ways = a.ways; turns = a.turns; queues = a.queues; short = a.short; held = a.held; kin = a.kin }

module _ (A : ℕ → ℕ) (g : Bool) (H B : ℕ) where
  abbrev At : ClientProcs → Type 0
  At s = Rest A Any g H B s

  abbrev In : ℕ → ClientProcs → Type 0
  In pid s = Busy A Any g H B pid s

  on_if : (b : Bool) (s t : ClientProcs) → At s → At t → At (cond b s t)
  on_if true s t all more = all
  on_if false s t all more = more

  -- Masters that wait

  taken : (device pid : ℕ) (s : ClientProcs) → find (is_row is_pid is_pid device pid) s.getters ≡ Some (device, pid) → At s → Free A Any g H B pid (record s { getters = less (is_row is_pid is_pid device pid) s.getters })
  taken device pid s e all q dev =
      homing.less_in q dev (A q) Any g H B 0 (one_if (pid == q)) 0 (0 + one_if (pid == q)) (record s { getters = less (is_row is_pid is_pid device pid) s.getters }) (omega arith) (omega arith)
      (standing.getter_taken q dev (A q) Any g H B 0 device pid s e (λ f. idle f) (all q dev))
    where
      idle : (dev == device) ≡ false → total (busy_of q) s.procs + total (getting_of dev q) s.procs + one_if (pid == q) ≤ total (of_process q) s.procs
      idle f =
          let fewer = total_found (getter_of device q) (is_row is_pid is_pid device pid) s.getters (device, pid) e in
          let same : getter_of device q (device, pid) ≡ one_if (pid == q) = ap (λ b. cond b (one_if (pid == q)) 0) (eq-eqb device device refl) in
          let gets_so = (all q device).gets in
          let apart_three = three_apart q dev device s.procs f in
          omega arith

  got : (device pid : ℕ) (reply : Reply) (s : ClientProcs) → find (is_row is_pid is_pid device pid) s.getters ≡ Some (device, pid) → At s → At (getting.ends_getting device pid reply s)
  got device pid reply s e all q dev = homing.answered_free q dev (A q) Any g H B 0 0 pid reply (record s { getters = less (is_row is_pid is_pid device pid) s.getters }) (taken device pid s e all q dev)

  served_by : (o : Option TakeEnd) (asks : List Ask) (device pid : ℕ) (s : ClientProcs) → find (is_row is_pid is_pid device pid) s.getters ≡ Some (device, pid) → At s → At (getting.serves_by device pid (tables.taken_by asks o) s)
  served_by None [] device pid s e all = all
  served_by None (ask ∷ asks) device pid s e all = got device pid (told ask) s e all
  served_by (Some takes.Busy) asks device pid s e all = got device pid (Error errnos.Busy) s e all
  served_by (Some takes.Empty) asks device pid s e all = all
  served_by (Some takes.Long) asks device pid s e all = got device pid (Error errnos.Invalid) s e all
  served_by (Some takes.NoMemory) asks device pid s e all = all

  served_in : (o : Option Asks) (device pid max : ℕ) (s : ClientProcs) → find (is_row is_pid is_pid device pid) s.getters ≡ Some (device, pid) → At s → At (getting.serves_by device pid (tables.taken_at_in max o) (tables.with_device device (option_map (tables.takes_in max) o) s))
  served_in None device pid max s e all = all
  served_in (Some asks) device pid max s e all = served_by (take_refusal asks max) asks.waiting device pid (tables.with_device device (Some (tables.takes_in max asks)) s) e all

  turned : (o : Option ℕ) (device : ℕ) (s : ClientProcs) → getting.first_getter device s ≡ o → At s → At (getting.turned_by device o s)
  turned (Some pid) device s e all = served_in (tables.asks_in device s) device pid (getting.max_of pid s) s (first_row device pid s.getters e) all
  turned None device s e all = all

  turns : (count device : ℕ) (s : ClientProcs) → At s → At (getting.turns count device s)
  turns zero device s all = all
  turns (suc count) device s all =
      let before : ClientProcs = getting.turns count device s in
      turned (getting.first_getter device before) device before refl (turns count device s all)

  getters_served : (device : ℕ) (s : ClientProcs) → At s → At (getting.serves_getters device s)
  getters_served device s all = turns (length s.getters) device s all

  -- Asks

  device_kept : (o : Option Asks) (device : ℕ) (s : ClientProcs) → At s → At (tables.with_device device o s)
  device_kept (Some asks) device s all = all
  device_kept None device s all = all

  entered_by : (device : ℕ) (ask : Ask) (s : ClientProcs) → At s → At (asking.enters_by device ask s)
  entered_by device ask s all = by_alive (tables.is_alive_at device s)
    where
      by_alive : (b : Bool) → At (cond (not b) (asking.ends_ask ask (Error errnos.NoServer) s) (getting.serves_getters device (tables.waits_at device ask s)))
      by_alive true = getters_served device (tables.waits_at device ask s) (device_kept (option_map (tables.asked_of ask) (tables.asks_in device s)) device s all)
      by_alive false = λ q dev. standing.ends_ask q dev (A q) Any g H B 0 0 ask (Error errnos.NoServer) s (all q dev)

  -- another kernel brings an ask
  pub ask_served : (tx : TxNo) (request : AskRequest) (s : ClientProcs) → At s → At (asking.serves_ask tx request s)
  ask_served tx request s all =
      entered_by request.device.number (carried_ask request) (asking.notes_ask (carried_ask request) (Some tx) s)
      (λ q dev. standing.asked_more q dev (A q) Any g H B 0 0 (carried_ask request) (Some tx) s (homing.less_in q dev (A q) Any g H B 0 0 (0 + 0) 0 s (omega arith) (omega arith) (all q dev)))

  sent_if : (o : Option AskRequest) (pid : ℕ) (s : ClientProcs) → In pid s → At (asking.sends_if pid o s)
  sent_if (Some request) pid s all = λ q dev.
      let sent : ClientProcs = says.sends request.device.kernel (asking.request_about pid request) (requests.Ask request) s in
      standing.calls q dev (A q) Any g H B 0 0 0 0 0 pid (says.next_tx s) (unfinished.Ask pid) (procs_of.in_state pid (states.InAsk (Some (says.next_tx s))) sent) (omega arith)
      (homing.turned q dev (A q) Any g H B 0 0 pid (states.InAsk (Some (says.next_tx s))) sent refl refl (all q dev))
  sent_if None pid s all = coming.answered A g H B pid (Error errnos.Invalid) s all

  asked_by : (o : Option Ask) (pid : ℕ) (device : DeviceId) (s : ClientProcs) → ((ask : Ask) → o ≡ Some ask → ask.pid ≡ pid) → In pid s → At (asking.asks_by pid device o s)
  asked_by None pid device s own all = coming.answered A g H B pid (Error errnos.Invalid) s all
  asked_by (Some ask) pid device s own all =
      let inside : ClientProcs = procs_of.in_state pid (states.InAsk None) s in
      on_if (device.kernel == s.kernel) (asking.enters_ask device.number ask None inside) (asking.sends_if pid (packed_ask ask device) s)
      (entered_by device.number ask (asking.notes_ask ask None inside)
      (λ q dev. standing.asked_more q dev (A q) Any g H B 0 0 ask None inside
      (subst (λ (other : ℕ). Bal q dev (A q) Any g H B (0 + one_if (other == q)) 0 0 0 0 (whole_of inside)) (sym (own ask refl)) (homing.turned q dev (A q) Any g H B 0 0 pid (states.InAsk None) s refl refl (all q dev)))))
      (sent_if (packed_ask ask device) pid s all)

  asked_own : (pid : ℕ) (device : DeviceId) (s : ClientProcs) → In pid s → At (asking.asks_by pid device (asking.own_ask pid s) s)
  asked_own pid device s all = asked_by (asking.own_ask pid s) pid device s (λ ask e. own_pid (proc_at pid s) pid ask e) all

  -- What masters do

  got_by : (pid device max : ℕ) (s : ClientProcs) → In pid s → At (masters.waits_for_ask pid device max s)
  got_by pid device max s all =
      getters_served device (record (procs_of.in_state pid (states.Getting device max) s) { getters = s.getters ++ (device, pid) ∷ [] }) (λ q dev. waits_in (proc_at pid s) q dev (A q) g H B pid device max s refl (all q dev))

  in_device : (o : Option Asks) (device pid : ℕ) (s : ClientProcs) → In pid s → In pid (tables.with_device device o s)
  in_device (Some asks) device pid s all = all
  in_device None device pid s all = all

  put_if : (o : Option Answer) (pid device : ℕ) (bytes : List ℕ) (errno : Option Errno) (s : ClientProcs) → In pid s → At (masters.puts_if pid device bytes errno o s)
  put_if (Some answer) pid device bytes errno s all = λ q dev.
      let put : ClientProcs = tables.puts_at device bytes errno s in
      let own : ClientProcs = procs_of.enters_own pid (value 0 0) put in
      let so : In pid put = in_device (option_map (tables.puts_in bytes errno) (tables.asks_in device s)) device pid s all in
      homing.replied q dev (A q) Any g H B 0 0 pid (value 0 0) (asking.ends_ask answer.ask answer.reply own)
      (standing.ends_ask q dev (A q) Any g H B (0 + one_if (pid == q)) 0 answer.ask answer.reply own (standing.entered_own q dev (A q) Any g H B (procs_of.entry_at pid (value 0 0) put) (0 + one_if (pid == q)) 0 0 0 0 put (so q dev)))
  put_if None pid device bytes errno s all =
      coming.answered A g H B pid (Error errnos.Invalid) (tables.puts_at device bytes errno s) (in_device (option_map (tables.puts_in bytes errno) (tables.asks_in device s)) device pid s all)

  put_with : (pid device : ℕ) (bytes : List ℕ) (errno : Option Errno) (s : ClientProcs) → In pid s → At (masters.puts_with pid device bytes errno s)
  put_with pid device bytes errno s all = put_if (tables.answer_at device bytes errno s) pid device bytes errno s all

  error_put : (o : Option Errno) (pid device : ℕ) (bytes : List ℕ) (s : ClientProcs) → In pid s → At (masters.puts_error pid device bytes o s)
  error_put (Some errno) pid device bytes s all = put_with pid device bytes (Some errno) s all
  error_put None pid device bytes s all = coming.answered A g H B pid (Error errnos.Invalid) s all

  put_to : (pid device : ℕ) (bytes : List ℕ) (number : ℕ) (s : ClientProcs) → In pid s → At (masters.puts_to pid device bytes number s)
  put_to pid device bytes number s all =
      on_if (number == 0) (masters.puts_with pid device bytes None s) (masters.puts_error pid device bytes (errno_of number) s) (put_with pid device bytes None s all) (error_put (errno_of number) pid device bytes s all)

  got_object : (object : Object) (pid max : ℕ) (s : ClientProcs) → In pid s → At (masters.gets_by pid max (masters.master_in object) s)
  got_object (objects.Master device) pid max s all = got_by pid device.number (masters.most max) s all
  got_object (objects.File file) pid max s all = coming.answered A g H B pid (Error errnos.BadMode) s all
  got_object (objects.Device device) pid max s all = coming.answered A g H B pid (Error errnos.BadMode) s all

  got_if : (o : Option Object) (pid max : ℕ) (s : ClientProcs) → In pid s → At (masters.gets_by pid max (masters.master_by o) s)
  got_if (Some object) pid max s all = got_object object pid max s all
  got_if None pid max s all = coming.answered A g H B pid (Error errnos.BadFd) s all

  put_object : (object : Object) (pid : ℕ) (bytes : List ℕ) (number : ℕ) (s : ClientProcs) → In pid s → At (masters.puts_by pid bytes number (masters.master_in object) s)
  put_object (objects.Master device) pid bytes number s all = put_to pid device.number bytes number s all
  put_object (objects.File file) pid bytes number s all = coming.answered A g H B pid (Error errnos.BadMode) s all
  put_object (objects.Device device) pid bytes number s all = coming.answered A g H B pid (Error errnos.BadMode) s all

  put_by : (o : Option Object) (pid : ℕ) (bytes : List ℕ) (number : ℕ) (s : ClientProcs) → In pid s → At (masters.puts_by pid bytes number (masters.master_by o) s)
  put_by (Some object) pid bytes number s all = put_object object pid bytes number s all
  put_by None pid bytes number s all = coming.answered A g H B pid (Error errnos.BadFd) s all

  -- Programs and moves

  freshened : (number arg pid : ℕ) (s : ClientProcs) → In pid s → In pid (launching.begins_program pid number arg s)
  freshened number arg pid s all = by_image (launching.fresh_image s.programs number arg)
    where
      by_image : (o : Option Machine) → In pid (launching.has_fresh_if pid o s)
      by_image None = all
      by_image (Some image) = λ q dev. standing.with_same q dev (A q) Any g H B (proc_at pid s) (0 + one_if (pid == q)) 0 0 0 0 pid (launching.freshened image) s refl (λ proc. refl) (all q dev)

  begun_here : (about : About) (program arg : ℕ) (s : ClientProcs) → In about.pid s → At (moving.begins_here about program arg s)
  begun_here about program arg s all =
      let entered : ClientProcs = procs_of.enters_own about.pid (value 0 0) s in
      let so : In about.pid entered = λ q dev. standing.entered_own q dev (A q) Any g H B (procs_of.entry_at about.pid (value 0 0) s) (0 + one_if (about.pid == q)) 0 0 0 0 s (all q dev) in
      coming.replied A g H B about.pid (value 0 0) (launching.begins_program about.pid program arg entered) (coming.loosened A g H B about.pid (launching.begins_program about.pid program arg entered) (freshened program arg about.pid entered so))

  executed : (o : Option ℕ) (about : About) (arg : ℕ) (s : ClientProcs) → In about.pid s → At (moving.execs_as about arg o s)
  executed (Some program) about arg s all = begun_here about program arg s all
  executed None about arg s all = coming.answered A g H B about.pid (Error errnos.NoEntry) s all

  stayed : (o : Option ℕ) (about : About) (s : ClientProcs) → In about.pid s → At (moving.stays about o s)
  stayed (Some program) about s all = begun_here about program 0 s all
  stayed None about s all = coming.answered A g H B about.pid (value 0 0) s all

  gone_if : (o : Option ℕ) (about : About) (program : Option ℕ) (s : ClientProcs) → In about.pid s → At (moving.goes_if about program o s)
  gone_if None about program s all = coming.answered A g H B about.pid (Error errnos.BadHost) s all
  gone_if (Some to) about program s all =
      let route : Route = record { to = to; about = Some about; program = program } in
      on_if (holds_master about.pid s) (procs_of.answers_here about.pid (Error errnos.Busy) s) _ (coming.answered A g H B about.pid (Error errnos.Busy) s all)
      (on_if (to == s.kernel) (moving.stays about program s) (freezing.freezes about.pid route s) (stayed program about s all)
      (λ q dev. standing.frozen q dev (A q) Any g H B 0 0 about.pid route s (coming.alone A g H B (0 + one_if (about.pid == about.pid)) 0 about.pid s (all about.pid 0)) (coming.loosened A g H B about.pid s all q dev)))

  migrated : (about : About) (host : List ℕ) (program : Option ℕ) (s : ClientProcs) → In about.pid s → At (moving.moves_to_host about host program s)
  migrated about host program s all = gone_if (moving.client_named s.kernels host) about program s all

  sent_to_run : (o : Option ℕ) (about : About) (host : List ℕ) (s : ClientProcs) → In about.pid s → At (moving.rexecs_as about host o s)
  sent_to_run (Some program) about host s all = migrated about host (Some program) s all
  sent_to_run None about host s all = coming.answered A g H B about.pid (Error errnos.NoEntry) s all

  -- Reads, writes and commands

  used_device : (allowed : Bool) (device : DeviceId) (about : About) (call : Call) (s : ClientProcs) → In about.pid s → At (issuing_calls.uses_by (asking.is_used_by (asking.device_aim device allowed)) about call (asking.uses_by about.pid (asking.device_aim device allowed) s))
  used_device true device about call s all = asked_own about.pid device s all
  used_device false device about call s all = coming.answered A g H B about.pid (Error errnos.BadMode) s all

  used_object : (object : Object) (allowed : Bool) (about : About) (call : Call) (s : ClientProcs) → In about.pid s → At (issuing_calls.uses_by (asking.is_used_by (asking.data_aim object allowed)) about call (asking.uses_by about.pid (asking.data_aim object allowed) s))
  used_object (objects.Device device) allowed about call s all = used_device allowed device about call s all
  used_object (objects.File file) allowed about call s all = filing.uses_files A g H B about call None s all
  used_object (objects.Master device) allowed about call s all = filing.uses_files A g H B about call None s all

  used_read : (o : Option Stream) (about : About) (call : Call) (s : ClientProcs) → In about.pid s → At (issuing_calls.uses_by (asking.is_used_by (asking.read_aim o)) about call (asking.uses_by about.pid (asking.read_aim o) s))
  used_read (Some stream) about call s all = used_object stream.object (reads stream.mode) about call s all
  used_read None about call s all = filing.uses_files A g H B about call None s all

  used_write : (o : Option Stream) (about : About) (call : Call) (s : ClientProcs) → In about.pid s → At (issuing_calls.uses_by (asking.is_used_by (asking.write_aim o)) about call (asking.uses_by about.pid (asking.write_aim o) s))
  used_write (Some stream) about call s all = used_object stream.object (writes stream.mode) about call s all
  used_write None about call s all = filing.uses_files A g H B about call None s all

  commanded : (object : Object) (about : About) (call : Call) (s : ClientProcs) → In about.pid s → At (issuing_calls.uses_by (asking.is_used_by (asking.command_on object)) about call (asking.uses_by about.pid (asking.command_on object) s))
  commanded (objects.Device device) about call s all = asked_own about.pid device s all
  commanded (objects.File file) about call s all = coming.answered A g H B about.pid (Error errnos.Invalid) s all
  commanded (objects.Master device) about call s all = coming.answered A g H B about.pid (Error errnos.BadMode) s all

  used_command : (o : Option Stream) (about : About) (call : Call) (s : ClientProcs) → In about.pid s → At (issuing_calls.uses_by (asking.is_used_by (asking.command_aim o)) about call (asking.uses_by about.pid (asking.command_aim o) s))
  used_command (Some stream) about call s all = commanded stream.object about call s all
  used_command None about call s all = coming.answered A g H B about.pid (Error errnos.BadFd) s all

  -- The call's first step

  abbrev Then : ClientProcs → Type 0
  Then s = Rest (λ (q : ℕ). 1) Any false 0 0 s

  then_if : (b : Bool) (s t : ClientProcs) → Then s → Then t → Then (cond b s t)
  then_if true s t all more = all
  then_if false s t all more = more

  abbrev NoneNext : ClientProcs → Type 0
  NoneNext s = (child : ℕ) → NextBirth child s.home.home (length s.home.births) → A child ≤ 0

  begun_other : (call : Call) (about : About) (s : ClientProcs) → NoneNext s → In about.pid s → Then (issuing_calls.begins_other about call s)
  begun_other call about s none all =
      then_if (issuing_calls.is_of_home call) (issuing.issues_home about.pid s) (issuing_calls.uses_files about call None s) (coming.home_issued A g H B about.pid s none all) (coming.after A g H B (issuing_calls.uses_files about call None s) (filing.uses_files A g H B about call None s all))

  pub begun : (call : Call) (about : About) (s : ClientProcs) → NoneNext s → In about.pid s → Then (issuing_calls.begins about call s)
  begun (calls.Read fd many) about s none all = coming.after A g H B (issuing_calls.begins about (calls.Read fd many) s) (used_read (opened.stream_at about.pid fd s) about (calls.Read fd many) s all)
  begun (calls.Write fd bytes) about s none all = coming.after A g H B (issuing_calls.begins about (calls.Write fd bytes) s) (used_write (opened.stream_at about.pid fd s) about (calls.Write fd bytes) s all)
  begun (calls.Ioctl fd command bytes) about s none all = coming.after A g H B (issuing_calls.begins about (calls.Ioctl fd command bytes) s) (used_command (opened.stream_at about.pid fd s) about (calls.Ioctl fd command bytes) s all)
  begun (calls.PdMake path) about s none all = coming.after A g H B (issuing_calls.begins about (calls.PdMake path) s) (filing.uses_files A g H B about (calls.PdMake path) (Some (making.next_device s)) (making.makes_device about.pid s) all)
  begun (calls.PdGet fd max) about s none all = coming.after A g H B (issuing_calls.begins about (calls.PdGet fd max) s) (got_if (opened.object_at about.pid fd s) about.pid max s all)
  begun (calls.PdPut fd bytes errno) about s none all = coming.after A g H B (issuing_calls.begins about (calls.PdPut fd bytes errno) s) (put_by (opened.object_at about.pid fd s) about.pid bytes errno s all)
  begun (calls.Exec name arg) about s none all = coming.after A g H B (issuing_calls.begins about (calls.Exec name arg) s) (executed (program_named s.programs name) about arg s all)
  begun (calls.Migrate name) about s none all = coming.after A g H B (issuing_calls.begins about (calls.Migrate name) s) (migrated about name None s all)
  begun (calls.Rexec name host) about s none all = coming.after A g H B (issuing_calls.begins about (calls.Rexec name host) s) (sent_to_run (program_named s.programs name) about host s all)
  begun calls.Getpid about s none all = coming.after A g H B (issuing_calls.begins about calls.Getpid s) (coming.answered A g H B about.pid (value about.pid 0) s all)
  begun (calls.Refused errno) about s none all = coming.after A g H B (issuing_calls.begins about (calls.Refused errno) s) (coming.answered A g H B about.pid (Error errno) s all)
  begun call about s none all = begun_other call about s none all
