-- A master's close: at the last one all asks are answered, and the device is gone.
use Rattle.std.proofs.Common.{◌≡◌, ◌≢◌, ◌≤◌, ◌+◌, ◌-◌, ◌==◌, ℕ, Bool, true, false, not, cond, List, [], ◌∷◌, ◌++◌, map, Option, Some, None, refl, sym, ap, subst, ◌∙◌, arith}
use Rattle.std.specs.List.{AllByRecursion}
use Rattle.std.proofs.lemmas.Bool.{eq-eqb, true≢false}
use Rattle.sprite_ids.specs.declared.Errno.TheVariants as errno
use Rattle.process_machine.specs.declared.call.Reply.TheVariants.{Error}
use Rattle.pseudo_device.specs.declared.Ask.{Ask}
use Rattle.pseudo_device.specs.Device.{Asks, dropped, hand_list}
use Rattle.process_machine.specs.Runs.{at_next_call}
use Rattle.unix_calls.specs.declared.Description.{Description}
use Rattle.unix_calls.specs.declared.Entry.{Entry}
use Rattle.unix_calls.specs.declared.state.Answer.{Answer}
use Rattle.unix_calls.specs.declared.state.Ask.{Ask as UnixAsk}
use Rattle.unix_calls.specs.declared.state.Device.{Device}
use Rattle.unix_calls.specs.declared.state.Process.{Process}
use Rattle.unix_calls.specs.State.{Unix, device_at, holds_master_of, is_alive, lives, process_at, put_process, with_process}
use Rattle.unix_calls.specs.Answers.{program_at, replied}
use Rattle.unix_calls.specs.DeviceCalls.{answer_for, without_answer}
use Rattle.unix_calls.specs.After.{after, answer_due, counted, fetched, state_from}
use Rattle.unix_calls.proofs.ProcessLaws.{found_pid, put_others, put_there}
use Rattle.unix_frames.specs.Frames.{is_of_operation}
use Rattle.unix_frames.proofs.FrameLaws.{entries_leave}
use Rattle.unix_laws.specs.Asks.{asking_of, hand, is_inside}
use Rattle.unix_laws.specs.Once.{answers_of, asks_of, inside_of}
use Rattle.unix_laws.proofs.OnceLaws.{Comes_out, Goes_in, Idle, Turn, one_inside, turn_of}
use Rattle.unix_laws.proofs.OperationLaws.{Fit, IsAsker, Moved_on, apart_asks, fit_state}
use Rattle.device_laws.specs.Devices.{AreAsks, AreInHand, TellsTheSame}
use Rattle.device_laws.specs.Gone.{AreOfDifferent, DevicesGoOn, IsAsking, IsOther, IsOutside, LastMasterAsOne, LastMasterGoes, MastersLeaveAsks, gone_entry, line}
use Rattle.unix_laws.proofs.DeviceLaws.{device_place, other_device, put_device}
use Rattle.device_laws.proofs.DeviceLaws.{any_put, done_opened, none_of}

-- ---- one ask's end

-- no answer is left where none was
none_without : (answers : List Answer) (pid gone : ℕ) → answer_for pid answers ≡ None → answer_for pid (without_answer gone answers) ≡ None
none_without [] pid gone h = refl
none_without (a ∷ more) pid gone h = by (a.pid == pid) refl (a.pid == gone) h (none_without more pid gone)
  where
    by : (b : Bool) → (a.pid == pid) ≡ b → (drop : Bool) → cond b (Some a.reply) (answer_for pid more) ≡ None → (answer_for pid more ≡ None → answer_for pid (without_answer gone more) ≡ None)
        → answer_for pid (cond (not drop) (a ∷ without_answer gone more) (without_answer gone more)) ≡ None
    by true is drop h rest = absurd (cc)
    by false is true h rest = rest h
    by false is false h rest = ap (λ b. cond b (Some a.reply) (answer_for pid (without_answer gone more))) is ∙ rest h

-- what holds behind the end of some asks, one after another
record Gone (c : Description) (u : Unix) (place : ℕ) (asks : List UnixAsk) : Type 0 where
  later : Unix
  entered : state_from c (Some u) (map gone_entry asks) ≡ Some later
  dead : is_alive later place ≡ false
  outside : AllByRecursion (IsOutside later) asks
  others : (other : ℕ) → other ≢ place → device_at later.devices other ≡ device_at u.devices other
  untouched : (k : ℕ) → AllByRecursion (IsOther k) asks → process_at later.processes k ≡ process_at u.processes k

-- one of them
record Step (c : Description) (u : Unix) (place : ℕ) (device : Device) (ask : UnixAsk) : Type 0 where
  next : Unix
  entered : after c u (gone_entry ask) ≡ Some next
  dead : is_alive next place ≡ false
  there : device_at next.devices place ≡ Some (record device { answers = without_answer ask.pid device.answers })
  others : (other : ℕ) → other ≢ place → device_at next.devices other ≡ device_at u.devices other
  untouched : (k : ℕ) → (ask.pid ≡ k → ⊥) → process_at next.processes k ≡ process_at u.processes k
  outside : IsOutside next ask

one_gone : (c : Description) (u : Unix) (place : ℕ) (device : Device) (ask : UnixAsk) → device_at u.devices place ≡ Some device → is_alive u place ≡ false → IsAsking c u place device ask → Step c u place device ask
one_gone c u place device ask there dead asking =
    let inside = asking.inside in
    let p = inside.process in
    let q : Process = record p { image = inside.next.image } in
    let w = with_process q u in
    let r : Process = replied c q (Error errno.NoServer) in
    let number : p.pid ≡ ask.pid = found_pid u.processes ask.pid p inside.there in
    let test = holds_master_of u.streams place in
    let at : device.place ≡ place = device_place u.devices place device there in
    let alone : test p ≡ false = none_of test u.processes ask.pid p dead inside.there in
    let still : is_alive w place ≡ false = any_put test q u.processes alone dead in
    let due : answer_due w q device (answer_for p.pid device.answers) ≡ Some (Error errno.NoServer) =
    ap (λ n. answer_due w q device (answer_for n device.answers)) number ∙ ap (answer_due w q device) asking.unanswered ∙ ap (λ n. cond (is_alive w n) None (Some (Error errno.NoServer))) at ∙ ap (λ b. cond b None (Some (Error errno.NoServer))) still in
    let new : Device = record device { answers = without_answer q.pid device.answers } in
    record {
      next = counted (with_process r (fetched w q device));
      entered = done_opened c u ask.pid ask.number ask.call place device (Error errno.NoServer) inside there due;
      dead = any_put test r (put_process q u.processes) alone still;
      there = put_device u.devices place device new there at ∙ ap (λ n. Some (record device { answers = without_answer n device.answers })) number;
      others = λ other apart. other_device u.devices new other (λ is. apart (is ∙ at));
      untouched = λ k apart. put_others r (put_process q u.processes) k (λ same. apart (sym number ∙ same)) ∙ put_others q u.processes k (λ same. apart (sym number ∙ same));
      outside = record { process = r; there = ap (process_at (put_process r (put_process q u.processes))) (sym number) ∙ put_there r (put_process q u.processes); idle = refl };
    }

-- the others are still asking
still_asking : (c : Description) (u next : Unix) (place gone : ℕ) (device : Device) (asks : List UnixAsk) → ((k : ℕ) → (gone ≡ k → ⊥) → process_at next.processes k ≡ process_at u.processes k) → AllByRecursion (IsOther gone) asks → AllByRecursion (IsAsking c u place device) asks
    → AllByRecursion (IsAsking c next place (record device { answers = without_answer gone device.answers })) asks
still_asking c u next place gone device [] same apart h = tt
still_asking c u next place gone device (ask ∷ asks) same apart h =
    let i = h.0.inside in (
      record {
        inside = record { process = i.process; there = same ask.pid (λ is. apart.0 (sym is)) ∙ i.there; living = i.living; asking = i.asking; numbered = i.numbered; next = i.next };
        unanswered = none_without device.answers ask.pid gone h.0.unanswered;
      },
      still_asking c u next place gone device asks same apart.1 h.1,
    )

all_gone : (c : Description) (u : Unix) (place : ℕ) (device : Device) (asks : List UnixAsk) → device_at u.devices place ≡ Some device → is_alive u place ≡ false → AllByRecursion (IsAsking c u place device) asks → AreOfDifferent asks → Gone c u place asks
all_gone c u place device [] there dead asking apart = record { later = u; entered = refl; dead = dead; outside = tt; others = λ other apart. refl; untouched = λ k apart. refl }
all_gone c u place device (ask ∷ asks) there dead asking apart =
    let s = one_gone c u place device ask there dead asking.0 in
    let rest = all_gone c s.next place (record device { answers = without_answer ask.pid device.answers }) asks s.there s.dead (still_asking c u s.next place ask.pid device asks s.untouched apart.0 asking.1) apart.1 in
    record {
      later = rest.later;
      entered = ap (λ o. state_from c o (map gone_entry asks)) s.entered ∙ rest.entered;
      dead = rest.dead;
      outside = (record { process = s.outside.process; there = rest.untouched ask.pid apart.0 ∙ s.outside.there; idle = s.outside.idle }, rest.outside);
      others = λ other other_apart. rest.others other other_apart ∙ s.others other other_apart;
      untouched = λ k all_apart. rest.untouched k all_apart.1 ∙ s.untouched k all_apart.0;
    }

-- ---- the table

line_told : (asks : Asks) (device : Device) → TellsTheSame asks device → AreAsks (hand_list asks.in_hand ++ asks.waiting) (line device)
line_told asks device tells = by asks.in_hand device.in_hand tells.in_hand
  where
    by : (one : Option Ask) (two : Option UnixAsk) → AreInHand one two → AreAsks (hand_list one ++ asks.waiting) (hand two ++ device.asks)
    by None None are = tells.waiting
    by None (Some other) are = absurd are
    by (Some ask) None are = absurd are
    by (Some ask) (Some other) are = (are, tells.waiting)

pub last_master_as_one : LastMasterAsOne
last_master_as_one c u place device asks there dead tells last asking apart =
    let g = all_gone c u place device (line device) there dead asking apart in
    let left : Asks = record asks { masters = asks.masters - 1 } in
    let gone : Asks = record { in_hand = None; waiting = []; masters = 0 } in
    let empty : dropped asks ≡ gone = ap (λ n. cond (n == 1) gone left) last in
    record {
      later = g.later;
      entered = g.entered;
      told = subst (λ n. AreAsks (cond (n == 1) (hand_list asks.in_hand ++ asks.waiting) []) (line device)) (sym last) (line_told asks device tells);
      empty = empty;
      dead = g.dead;
      outside = g.outside;
      others = g.others;
    }

pub masters_leave_asks : MastersLeaveAsks
masters_leave_asks device asks more tells =
    let left : Asks = record asks { masters = asks.masters - 1 } in
    let gone : Asks = record { in_hand = None; waiting = []; masters = 0 } in
    let is : dropped asks ≡ left = ap (λ b. cond b gone left) more in
    record {
      none = ap (λ b. cond b (hand_list asks.in_hand ++ asks.waiting) []) more;
      same = subst (λ (k : Asks). TellsTheSame k device) (sym is) (record { in_hand = tells.in_hand; waiting = tells.waiting });
    }

pub devices_go_on : DevicesGoOn
devices_go_on c journal u v e place device few was is no_device no_operation there =
    ap (λ (l : List Device). device_at l place) ((entries_leave c journal u v e few was is).devices no_device no_operation) ∙ there

-- ---- in a history

-- each ask of a line counts in it
each_counts : (all xs : List UnixAsk) → ((pid : ℕ) → asks_of pid xs ≤ asks_of pid all) → AllByRecursion (λ (a : UnixAsk). 1 ≤ asks_of a.pid all) xs
each_counts all [] within = tt
each_counts all (a ∷ xs) within =
    let own = within a.pid in
    let one : cond {A = ℕ} (a.pid == a.pid) 1 0 ≡ 1 = ap (λ b. cond {A = ℕ} b 1 0) (eq-eqb a.pid a.pid refl) in
    (omega (arith, own, one), each_counts all xs (λ pid. let more = within pid in omega (arith, more)))

-- no process stands there twice
differ : (xs : List UnixAsk) → ((pid : ℕ) → asks_of pid xs ≤ 1) → AreOfDifferent xs
differ [] few = tt
differ (a ∷ xs) few =
    let own = few a.pid in
    let one : cond {A = ℕ} (a.pid == a.pid) 1 0 ≡ 1 = ap (λ b. cond {A = ℕ} b 1 0) (eq-eqb a.pid a.pid refl) in
    (apart_asks a.pid xs (omega (arith, own, one)), differ xs (λ pid. let more = few pid in omega (arith, more)))

inside_few : (place : ℕ) (b : Bool) → cond {A = ℕ} b 1 0 ≤ 1
inside_few place true = omega arith
inside_few place false = omega arith

no_answer : (pid : ℕ) (answers : List Answer) → answers_of pid answers ≡ 0 → answer_for pid answers ≡ None
no_answer pid [] h = refl
no_answer pid (a ∷ answers) h = by (a.pid == pid) h (no_answer pid answers)
  where
    by : (b : Bool) → cond {A = ℕ} b 1 0 + answers_of pid answers ≡ 0 → (answers_of pid answers ≡ 0 → answer_for pid answers ≡ None) → cond b (Some a.reply) (answer_for pid answers) ≡ None
    by true h rest = absurd (omega (arith, h))
    by false h rest = rest (omega (arith, h))

-- who asked is still asking behind an entry of a process that is inside nothing
asking_behind : (c : Description) (u v : Unix) (e : Entry) (place : ℕ) (device : Device) (ask : UnixAsk) → Fit c u → Moved_on c u v e → asking_of (process_at u.processes e.pid) ≡ None → device_at u.devices place ≡ Some device → is_alive u place ≡ true → IsAsker c u ask → 1 ≤ asks_of ask.pid (line device)
    → IsAsking c v place device ask
asking_behind c u v e place device ask h m none there alive a counts =
    let sum = h.kept_so.once.living place device ask.pid there alive in
    let few : inside_of place (process_at u.processes ask.pid) ≤ 1 = inside_few place (is_inside place (asking_of (process_at u.processes ask.pid))) in
    let one : inside_of place (process_at u.processes ask.pid) ≡ 1 = omega (arith, sum, few, counts) in
    let unanswered : answers_of ask.pid device.answers ≡ 0 = omega (arith, sum, few, counts) in
    let asking : asking_of (process_at u.processes ask.pid) ≡ Some place = one_inside place (process_at u.processes ask.pid) one in
    let own : a.process.asking ≡ Some place = sym (ap asking_of a.there) ∙ asking in
    let mine : a.process.pid ≡ ask.pid = found_pid u.processes ask.pid a.process a.there in
    let apart : a.process.pid ≢ e.pid = λ same. absurd (let two : Some place ≡ None = sym asking ∙ ap (λ n. asking_of (process_at u.processes n)) (sym mine ∙ same) ∙ none in cc) in
    let k = m.others a.process (ap (process_at u.processes) mine ∙ a.there) apart in
    let n = a.next in
    record {
      inside = record {
        process = k.after;
        there = ap (process_at v.processes) (sym mine) ∙ k.there;
        living = ap lives k.whole ∙ a.living;
        asking = ap (λ (p : Process). p.asking) k.whole ∙ own;
        numbered = a.number ∙ sym (ap (λ (p : Process). p.calls + 1) k.whole);
        next = record {
          program = n.program;
          image = n.image;
          program_is = ap (λ (p : Process). program_at c.programs p.image.number) k.whole ∙ n.program_is;
          comes = ap (λ (p : Process). at_next_call n.program p.image) k.whole ∙ n.comes;
          call_is = n.call_is;
        };
      };
      unanswered = no_answer ask.pid device.answers unanswered;
    }

all_asking : (c : Description) (u v : Unix) (e : Entry) (place : ℕ) (device : Device) (asks : List UnixAsk) → Fit c u → Moved_on c u v e → asking_of (process_at u.processes e.pid) ≡ None → device_at u.devices place ≡ Some device → is_alive u place ≡ true
    → AllByRecursion (IsAsker c u) asks → AllByRecursion (λ (a : UnixAsk). 1 ≤ asks_of a.pid (line device)) asks → AllByRecursion (IsAsking c v place device) asks
all_asking c u v e place device [] h m none there alive all counts = tt
all_asking c u v e place device (a ∷ asks) h m none there alive all counts =
    (asking_behind c u v e place device a h m none there alive all.0 counts.0, all_asking c u v e place device asks h m none there alive all.1 counts.1)

-- the entry's process is inside nothing
no_operation : (u v : Unix) (e : Entry) → is_of_operation e.part ≡ false → Turn u v e → asking_of (process_at u.processes e.pid) ≡ None
no_operation u v e none (Idle before after no_ask no_done) = before
no_operation u v e none (Goes_in at before after there ask has) = before
no_operation u v e none (Comes_out at device was_in after there done let_go) = absurd (true≢false (sym (ap is_of_operation done) ∙ none))

pub last_master_goes : LastMasterGoes
last_master_goes c journal u v e place device asks few was is no_device no_op there alive dead tells last =
    let h = fit_state c journal u few was in
    let leaves = entries_leave c journal u v e few was is in
    let m : Moved_on c u v e = record { others = leaves.others } in
    let same : device_at v.devices place ≡ Some device = ap (λ (l : List Device). device_at l place) (leaves.devices no_device no_op) ∙ there in
    let none = no_operation u v e no_op (turn_of c u v e is h.kept_so.sound) in
    let counts = each_counts (line device) (line device) (λ pid. omega arith) in
    last_master_as_one c v place device asks same dead tells last (all_asking c u v e place device (line device) h m none there alive (h.asks place device there alive) counts)
    (differ (line device) (λ pid.
    let sum = h.kept_so.once.living place device pid there alive in
    let one : inside_of place (process_at u.processes pid) ≤ 1 = inside_few place (is_inside place (asking_of (process_at u.processes pid))) in
    omega (arith, sum, one)))
