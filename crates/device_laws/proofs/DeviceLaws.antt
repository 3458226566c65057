-- What a device's kernel does with asks, in the one-kernel Unix.
use Rattle.std.proofs.Common.{◌≡◌, ◌≢◌, ◌≤◌, ◌+◌, ◌==◌, ℕ, zero, suc, Bool, true, false, ◌&&◌, ◌||◌, cond, not, nat_le, nat_lt, List, [], ◌∷◌, ◌++◌, length, Option, Some, None, option_map, refl, sym, ap, ap₂, subst, ◌∙◌, arith}
use Rattle.std.specs.List.{list_any}
use Rattle.std.specs.Option.{option_and_then, is_some}
use Rattle.std.proofs.lemmas.Bool.{true≢false, eq-eqb, leb-true}
use Rattle.sprite_ids.specs.AskKind.{ask_number}
use Rattle.sprite_ids.specs.declared.AskKind.{AskKind}
use Rattle.sprite_ids.specs.declared.Errno.{Errno}
use Rattle.sprite_ids.specs.declared.Errno.TheVariants as errno
use Rattle.process_machine.specs.Runs.{call_of_next}
use Rattle.process_machine.specs.declared.call.Call.{Call}
use Rattle.process_machine.specs.declared.call.Call.TheVariants as call
use Rattle.process_machine.specs.declared.call.Reply.{Reply}
use Rattle.process_machine.specs.declared.call.Reply.TheVariants.{Value, Error}
use Rattle.pseudo_device.specs.declared.Ask.{Ask}
use Rattle.pseudo_device.specs.declared.TakeEnd.{TakeEnd}
use Rattle.pseudo_device.specs.declared.TakeEnd.TheVariants.{Busy, Empty, Long}
use Rattle.pseudo_device.specs.Device as devices
use Rattle.pseudo_device.specs.Device.{Asks, first_refusal, is_refused_beside, most, refusal_beside, told}
use Rattle.unix_calls.specs.declared.Description.{Description}
use Rattle.unix_calls.specs.declared.Entry.{Entry}
use Rattle.unix_calls.specs.declared.entry.Part.TheVariants as part
use Rattle.unix_calls.specs.declared.state.Ask.{Ask as UnixAsk}
use Rattle.unix_calls.specs.declared.state.Device.{Device}
use Rattle.unix_calls.specs.declared.state.Process.{Process}
use Rattle.unix_calls.specs.State.{Unix, device_at, holds_master_of, is_alive, process_at, put_process, stream_of, with_device, with_process}
use Rattle.unix_calls.specs.Answers.{Outcome, Answered, GoesTo, Waits, is_done, nothing, program_at, refuses, replied, replies}
use Rattle.unix_calls.specs.StreamCalls.{read_object, with_found, write_object}
use Rattle.unix_calls.specs.DeviceCalls.{answer_for, answer_of, asked_bytes, at_master, device_of, get_from, ioctl_object, kind_of, left, most_of, put_to, puts, reply_of, taken, takes_first, with_device_of, without_answer}
use Rattle.unix_calls.specs.After.{after, after_ask, after_living, after_of, after_part, answer_due, asked, at_image, at_program, counted, done_at, done_with, fetched, is_wait, next_is, outcome, waits_at, waits_in, waits_on}
use Rattle.unix_calls.proofs.SameLaws.{call_same, reply_same}
use Rattle.unix_calls.proofs.ProcessLaws.{found_pid}
use Rattle.unix_laws.proofs.DeviceLaws.{device_place, put_device, other_device}
use Rattle.home_laws.specs.Calls.{Calls, call_entry}
use Rattle.home_laws.proofs.EntryLaws.{answered, called_by, called_in, opened}
use Rattle.device_laws.specs.Devices.{AreAsks, AreInHand, AsksFor, Reads, Writes, Commands, CanAsk, ByRead, ByWrite, ByCommand, Goes, IsAsk, IsInside, Masters, TellsTheSame, ask_entry, done_entry}
use Rattle.device_laws.specs.Laws.{AsksAsOne, EndsAsOne, GetsAsOne, IsNumberOf, PutsAsOne}

-- ---- devices

-- a call that leaves the devices
same_devices : (c : Description) (u v : Unix) (e : Entry) (place : ℕ) (device : Device) (asks : Asks) → after c u e ≡ Some (counted v) → v.devices ≡ u.devices → device_at u.devices place ≡ Some device → TellsTheSame asks device → Goes c u e place asks device.answers
same_devices c u v e place device asks entered same there tells =
    record { later = counted v; entered = entered; device = device; there = ap (λ (l : List Device). device_at l place) same ∙ there; same = tells; left = refl; others = λ other apart. ap (λ (l : List Device). device_at l other) same }

-- a call that changes the device
new_device : (c : Description) (u v : Unix) (e : Entry) (place : ℕ) (device new : Device) (asks : Asks) → after c u e ≡ Some (counted v) → v.devices ≡ with_device new u.devices → device_at u.devices place ≡ Some device → new.place ≡ device.place → TellsTheSame asks new → Goes c u e place asks new.answers
new_device c u v e place device new asks entered changed there same tells =
    let at : new.place ≡ place = same ∙ device_place u.devices place device there in
    record {
      later = counted v;
      entered = entered;
      device = new;
      there = ap (λ (l : List Device). device_at l place) changed ∙ put_device u.devices place device new there at;
      same = tells;
      left = refl;
      others = λ other apart. ap (λ (l : List Device). device_at l other) changed ∙ other_device u.devices new other (λ is. apart (is ∙ at));
    }

-- ---- asks

-- what a master is told, and how much it may answer
told_same : (ask : Ask) (called : Call) → AsksFor ask called → told ask ≡ Value (kind_of called) (length (asked_bytes called)) (asked_bytes called)
told_same ask called (Reads fd many is kind at long bytes) =
    ap₂ (λ (k : AskKind) (b : List ℕ). Value (ask_number k) (length b) b) kind bytes ∙ sym (ap (λ (k : Call). Value (kind_of k) (length (asked_bytes k)) (asked_bytes k)) is)
told_same ask called (Writes fd own is kind at bytes) =
    ap₂ (λ (k : AskKind) (b : List ℕ). Value (ask_number k) (length b) b) kind bytes ∙ sym (ap (λ (k : Call). Value (kind_of k) (length (asked_bytes k)) (asked_bytes k)) is)
told_same ask called (Commands fd command own is kind at long bytes) =
    ap₂ (λ (k : AskKind) (b : List ℕ). Value (ask_number k) (length b) b) kind bytes ∙ sym (ap (λ (k : Call). Value (kind_of k) (length (asked_bytes k)) (asked_bytes k)) is)

bytes_same : (ask : Ask) (called : Call) → AsksFor ask called → ask.bytes ≡ asked_bytes called
bytes_same ask called (Reads fd many is kind at long bytes) = bytes ∙ sym (ap asked_bytes is)
bytes_same ask called (Writes fd own is kind at bytes) = bytes ∙ sym (ap asked_bytes is)
bytes_same ask called (Commands fd command own is kind at long bytes) = bytes ∙ sym (ap asked_bytes is)

most_same : (ask : Ask) (called : Call) → AsksFor ask called → most ask ≡ most_of called
most_same ask called (Reads fd many is kind at long bytes) = ap₂ devices.most_of kind long ∙ sym (ap most_of is)
most_same ask called (Writes fd own is kind at bytes) = ap (λ k. devices.most_of k ask.length) kind ∙ sym (ap most_of is)
most_same ask called (Commands fd command own is kind at long bytes) = ap₂ devices.most_of kind long ∙ sym (ap most_of is)

no_bytes : (bytes : List ℕ) → length bytes ≤ 0 → bytes ≡ []
no_bytes [] h = refl
no_bytes (b ∷ bytes) h = absurd (omega (arith, h))

reply_same_as : (ask : Ask) (called : Call) (bytes : List ℕ) → AsksFor ask called → length bytes ≤ most_of called → reply_of called bytes ≡ devices.reply_of ask bytes None
reply_same_as ask called bytes (Reads fd many is kind at long own) h =
    ap (λ (k : Call). reply_of k bytes) is ∙ sym (ap (λ (k : AskKind). Value (devices.value_of k ask.bytes bytes) 0 bytes) kind)
reply_same_as ask called bytes (Writes fd written is kind at own) h =
    let none : bytes ≡ [] = no_bytes bytes (subst (λ n. length bytes ≤ n) (ap most_of is) h) in
    ap (λ (k : Call). reply_of k bytes) is
    ∙ ap₂ (λ (l b : List ℕ). Value (length l) 0 b) (sym own) (sym none)
    ∙ sym (ap (λ (k : AskKind). Value (devices.value_of k ask.bytes bytes) 0 bytes) kind)
reply_same_as ask called bytes (Commands fd command written is kind at long own) h =
    ap (λ (k : Call). reply_of k bytes) is ∙ sym (ap (λ (k : AskKind). Value (devices.value_of k ask.bytes bytes) 0 bytes) kind)

-- an answer is refused on both sides, or the same
answer_same : (ask : Ask) (called : Call) (bytes : List ℕ) (error : Option Errno) (code : ℕ) → AsksFor ask called → IsNumberOf error code
    → answer_of called bytes code ≡ cond (devices.takes ask bytes error) (Some (devices.reply_of ask bytes error)) None
answer_same ask called bytes None zero for is =
    by (nat_le (length bytes) (most_of called)) refl
    ∙ sym (ap (λ n. cond (nat_le (length bytes) n) (Some (devices.reply_of ask bytes None)) None) (most_same ask called for))
  where
    by : (b : Bool) → nat_le (length bytes) (most_of called) ≡ b → ◌≡◌ {A = Option Reply} (cond b (Some (reply_of called bytes)) None) (cond b (Some (devices.reply_of ask bytes None)) None)
    by true e = ap Some (reply_same_as ask called bytes for (leb-true (length bytes) (most_of called) e))
    by false e = refl
answer_same ask called bytes None (suc n) for is = absurd is
answer_same ask called bytes (Some error) zero for is = absurd is
answer_same ask called bytes (Some error) (suc n) for is = ap (λ o. cond (length bytes == 0) (option_map Error o) None) is

-- ---- the calls

-- the call goes on with the device of its master's descriptor
at_the_master : (c : Description) (w : Unix) (q : Process) (fd place : ℕ) (device : Device) (rest : Device → Outcome) → Masters w q fd place → device_at w.devices place ≡ Some device → at_master c w q fd rest ≡ rest device
at_the_master c w q fd place device rest m there =
    ap (λ o. with_found c w q o (λ stream. with_device_of c w q (device_of w stream.object) rest)) m.found
    ∙ ap (λ o. with_device_of c w q (device_of w o) rest) m.is
    ∙ ap (λ o. with_device_of c w q o rest) there

master_at_call : (c : Description) (u : Unix) (pid number : ℕ) (called : Call) (calls : Calls c u pid number called) (fd place : ℕ) → Masters u calls.may.process fd place → Masters (called_in calls) (called_by calls) fd place
master_at_call c u pid number called calls fd place m = record { stream = m.stream; found = m.found; is = m.is }

-- a whole call that is answered
entered_by : (c : Description) (u later : Unix) (pid number : ℕ) (called : Call) (reply : Reply) (calls : Calls c u pid number called) → outcome c (called_in calls) (called_by calls) called ≡ Answered reply later → after c u (call_entry pid number called reply) ≡ Some (counted later)
entered_by c u later pid number called reply calls is =
    opened c u later pid number called reply calls (answered c (called_in calls) later (called_by calls) called reply calls.may.idle is)

-- ---- the ask

goes_to : (c : Description) (w : Unix) (q : Process) (place : ℕ) (called : Call) → CanAsk w q place called → outcome c w q called ≡ GoesTo place
goes_to c w q place called (ByRead fd many stream is found object may) =
    ap (outcome c w q) is
    ∙ ap (λ o. with_found c w q o (Rattle.unix_calls.specs.StreamCalls.read_stream c w q many)) found
    ∙ ap (λ b. cond b (read_object c w q stream many stream.object) (refuses c w q errno.BadMode)) may
    ∙ ap (read_object c w q stream many) object
goes_to c w q place called (ByWrite fd bytes stream is found object may) =
    ap (outcome c w q) is
    ∙ ap (λ o. with_found c w q o (Rattle.unix_calls.specs.StreamCalls.write_stream c w q bytes)) found
    ∙ ap (λ b. cond b (write_object c w q stream bytes stream.object) (refuses c w q errno.BadMode)) may
    ∙ ap (write_object c w q stream bytes) object
goes_to c w q place called (ByCommand fd command bytes stream is found object) =
    ap (outcome c w q) is ∙ ap (λ o. with_found c w q o (λ stream. ioctl_object c w q stream.object)) found ∙ ap (ioctl_object c w q) object

can_at_call : (u : Unix) (p q : Process) (w : Unix) (place : ℕ) (called : Call) → ((fd : ℕ) → stream_of w q fd ≡ stream_of u p fd) → CanAsk u p place called → CanAsk w q place called
can_at_call u p q w place called same (ByRead fd many stream is found object may) = ByRead fd many stream is (same fd ∙ found) object may
can_at_call u p q w place called same (ByWrite fd bytes stream is found object may) = ByWrite fd bytes stream is (same fd ∙ found) object may
can_at_call u p q w place called same (ByCommand fd command bytes stream is found object) = ByCommand fd command bytes stream is (same fd ∙ found) object

asks_pushed : (asks : List Ask) (others : List UnixAsk) (ask : Ask) (other : UnixAsk) → AreAsks asks others → IsAsk ask other → AreAsks (asks ++ ask ∷ []) (others ++ other ∷ [])
asks_pushed [] [] ask other are is = (is, tt)
asks_pushed [] (o ∷ others) ask other are is = absurd are
asks_pushed (a ∷ asks) [] ask other are is = absurd are
asks_pushed (a ∷ asks) (o ∷ others) ask other are is = (are.0, asks_pushed asks others ask other are.1 is)

pub asks_as_one : AsksAsOne
asks_as_one c u pid number called place device asks ask calls can there tells for mine numbered =
    let e = ask_entry pid number called in
    let p = calls.may.process in
    let q = called_by calls in
    let w = called_in calls in
    let program = calls.next.program in
    let other : UnixAsk = record { pid = q.pid; number = q.calls + 1; call = called } in
    let new : Device = record device { asks = device.asks ++ other ∷ [] } in
    let later = asked w q called device in
    let entered : after c u e ≡ Some (counted later) =
    ap (λ o. option_map counted (after_of c u e o)) calls.may.there
    ∙ ap (λ b. option_map counted (cond b (after_living c u p e (Some called)) None)) calls.may.living
    ∙ ap (λ b. option_map counted (cond b (at_program c u p e called (program_at c.programs p.image.number)) None)) (eq-eqb number (p.calls + 1) calls.may.numbered)
    ∙ ap (λ o. option_map counted (at_program c u p e called o)) calls.next.program_is
    ∙ ap (λ o. option_map counted (at_image c u p e program called o)) calls.next.comes
    ∙ ap (λ o. option_map counted (next_is c w q e called o)) calls.next.call_is
    ∙ ap (λ b. option_map counted (cond b (after_part c w q part.Ask called None) None)) (call_same called)
    ∙ ap (λ o. option_map counted (cond (is_some o) None (after_ask w q called (outcome c w q called)))) calls.may.idle
    ∙ ap (λ o. option_map counted (after_ask w q called o)) (goes_to c w q place called (can_at_call u p q w place called (λ fd. refl) can))
    ∙ ap (λ o. option_map counted (option_map (asked w q called) o)) there in
    let is : IsAsk ask other = record { pid = found_pid u.processes pid p calls.may.there ∙ sym mine; number = sym calls.may.numbered ∙ sym numbered; called = for } in
    new_device c u later e place device new (record asks { waiting = asks.waiting ++ ask ∷ [] }) entered refl there refl
    (record { in_hand = tells.in_hand; waiting = asks_pushed asks.waiting device.asks ask other tells.waiting is })

-- ---- the master's calls

-- what is in hand on both sides
in_hand_same : (one : Option Ask) (two : Option UnixAsk) → AreInHand one two → is_some two ≡ is_some one
in_hand_same None None h = refl
in_hand_same (Some ask) (Some other) h = refl
in_hand_same None (Some other) h = absurd h
in_hand_same (Some ask) None h = absurd h

refused_busy : (o : Option Ask) (waiting : List Ask) (max : ℕ) → refusal_beside o waiting max ≡ Some Busy → is_some o ≡ true
refused_busy (Some ask) waiting max h = refl
refused_busy None [] max h = absurd (cc)
refused_busy None (first ∷ rest) max h = absurd (by (nat_lt max (length first.bytes)) h)
  where
    by : (b : Bool) → ◌≡◌ {A = Option TakeEnd} (cond b (Some Long) None) (Some Busy) → ⊥
    by true e = cc
    by false e = cc

-- what the others say: none is in hand
refused_else : (o : Option Ask) (waiting : List Ask) (max : ℕ) (r : Option TakeEnd) → refusal_beside o waiting max ≡ r → ((r ≡ Some Busy) → ⊥) → (o ≡ None) × (first_refusal waiting max ≡ r)
refused_else (Some ask) waiting max r h other = absurd (other (sym h))
refused_else None waiting max r h other = (refl, h)

none_in_hand : (asks : Asks) (device : Device) → TellsTheSame asks device → asks.in_hand ≡ None → is_some device.in_hand ≡ false
none_in_hand asks device tells none = in_hand_same asks.in_hand device.in_hand tells.in_hand ∙ ap (λ o. is_some o) none

get_at : (c : Description) (w : Unix) (q : Process) (max : ℕ) (device : Device) → is_some device.in_hand ≡ false → get_from c w q max device ≡ takes_first c w q max device device.asks
get_at c w q max device none = ap (λ b. cond b (refuses c w q errno.Busy) (takes_first c w q max device device.asks)) none

-- the first ask, too long, or taken
long_first : (c : Description) (w : Unix) (q : Process) (max : ℕ) (device : Device) (waiting : List Ask) (others : List UnixAsk) → AreAsks waiting others → first_refusal waiting max ≡ Some Long → takes_first c w q max device others ≡ refuses c w q errno.Invalid
long_first c w q max device [] others are h = absurd (cc)
long_first c w q max device (ask ∷ waiting) [] are h = absurd are
long_first c w q max device (ask ∷ waiting) (other ∷ others) are h =
    ap (λ b. cond b (refuses c w q errno.Invalid) (replies c (record w { devices = with_device (taken device other others) w.devices }) q (Value (kind_of other.call) (length (asked_bytes other.call)) (asked_bytes other.call))))
    (ap (λ (l : List ℕ). nat_lt max (length l)) (sym (bytes_same ask other.call are.0.called)) ∙ by (nat_lt max (length ask.bytes)) h)
  where
    by : (b : Bool) → ◌≡◌ {A = Option TakeEnd} (cond b (Some Long) None) (Some Long) → b ≡ true
    by true e = refl
    by false e = absurd (cc)

empty_first : (c : Description) (w : Unix) (q : Process) (max : ℕ) (device : Device) (waiting : List Ask) (others : List UnixAsk) → AreAsks waiting others → first_refusal waiting max ≡ Some Empty → takes_first c w q max device others ≡ Waits
empty_first c w q max device [] [] are h = refl
empty_first c w q max device [] (other ∷ others) are h = absurd are
empty_first c w q max device (ask ∷ waiting) others are h = absurd (by (nat_lt max (length ask.bytes)) h)
  where
    by : (b : Bool) → ◌≡◌ {A = Option TakeEnd} (cond b (Some Long) None) (Some Empty) → ⊥
    by true e = cc
    by false e = cc

pub record FirstTaken (c : Description) (w : Unix) (q : Process) (max : ℕ) (device : Device) (ask : Ask) (rest : List Ask) (others : List UnixAsk) : Type 0 where
  pub other : UnixAsk
  pub behind : List UnixAsk
  pub is : IsAsk ask other
  pub are : AreAsks rest behind
  pub out : takes_first c w q max device others ≡ replies c (record w { devices = with_device (taken device other behind) w.devices }) q (told ask)

taken_first : (c : Description) (w : Unix) (q : Process) (max : ℕ) (device : Device) (ask : Ask) (rest : List Ask) (others : List UnixAsk) → AreAsks (ask ∷ rest) others → first_refusal (ask ∷ rest) max ≡ None → FirstTaken c w q max device ask rest others
taken_first c w q max device ask rest [] are h = absurd are
taken_first c w q max device ask rest (other ∷ others) are h =
    record {
      other = other;
      behind = others;
      is = are.0;
      are = are.1;
      out = ap (λ b. cond b (refuses c w q errno.Invalid) (replies c (record w { devices = with_device (taken device other others) w.devices }) q (Value (kind_of other.call) (length (asked_bytes other.call)) (asked_bytes other.call))))
          (ap (λ (l : List ℕ). nat_lt max (length l)) (sym (bytes_same ask other.call are.0.called)) ∙ by (nat_lt max (length ask.bytes)) h)
          ∙ ap (replies c (record w { devices = with_device (taken device other others) w.devices }) q) (sym (told_same ask other.call are.0.called));
    }
  where
    by : (b : Bool) → ◌≡◌ {A = Option TakeEnd} (cond b (Some Long) None) None → b ≡ false
    by true e = absurd (cc)
    by false e = refl

pub gets_as_one : GetsAsOne
gets_as_one c u pid number fd max place device asks calls m there tells =
    let q = called_by calls in
    let w = called_in calls in
    let called = call.PdGet fd max in
    let at : outcome c w q called ≡ get_from c w q max device = at_the_master c w q fd place device (get_from c w q max) (master_at_call c u pid number called calls fd place m) there in
    record {
      busy = λ h.
          let in_hand : is_some device.in_hand ≡ true = in_hand_same asks.in_hand device.in_hand tells.in_hand ∙ refused_busy asks.in_hand asks.waiting max h in
          same_devices c u (with_process (replied c q (Error errno.Busy)) w) (call_entry pid number called (Error errno.Busy)) place device asks
          (entered_by c u (with_process (replied c q (Error errno.Busy)) w) pid number called (Error errno.Busy) calls (at ∙ ap (λ b. cond b (refuses c w q errno.Busy) (takes_first c w q max device device.asks)) in_hand)) refl there tells;
      long = λ h.
          let two = refused_else asks.in_hand asks.waiting max (Some Long) h (λ e. cc) in
          same_devices c u (with_process (replied c q (Error errno.Invalid)) w) (call_entry pid number called (Error errno.Invalid)) place device asks
          (entered_by c u (with_process (replied c q (Error errno.Invalid)) w) pid number called (Error errno.Invalid) calls (at ∙ get_at c w q max device (none_in_hand asks device tells two.0) ∙ long_first c w q max device asks.waiting device.asks tells.waiting two.1)) refl there tells;
      empty = λ h alive.
          let two = refused_else asks.in_hand asks.waiting max (Some Empty) h (λ e. cc) in
          let p = calls.may.process in
          let out : outcome c u (record p { image = calls.next.image }) called ≡ Waits =
          at_the_master c u (record p { image = calls.next.image }) fd place device (get_from c u (record p { image = calls.next.image }) max) (record { stream = m.stream; found = m.found; is = m.is }) there
          ∙ get_at c u (record p { image = calls.next.image }) max device (none_in_hand asks device tells two.0) ∙ empty_first c u (record p { image = calls.next.image }) max device asks.waiting device.asks tells.waiting two.1 in
          ap (λ o. cond (is_some o) (waits_on u p (option_and_then (device_at u.devices) o)) (not p.killed && waits_in c u p (program_at c.programs p.image.number))) calls.may.idle
          ∙ ap (λ b. not b && waits_in c u p (program_at c.programs p.image.number)) alive
          ∙ ap (waits_in c u p) calls.next.program_is
          ∙ ap (λ o. waits_at c u p o (call_of_next calls.next.program o)) calls.next.comes
          ∙ ap (waits_at c u p (Some calls.next.image)) calls.next.call_is
          ∙ ap is_wait out;
      taken = λ after ask h is.
          let two = refused_else asks.in_hand asks.waiting max None h (λ e. cc) in
          let first = taken_first c w q max device ask after.waiting device.asks (subst (λ (l : List Ask). AreAsks l device.asks) is.first tells.waiting) (ap (λ (l : List Ask). first_refusal l max) (sym is.first) ∙ two.1) in
          let new = taken device first.other first.behind in
          let later = with_process (replied c q (told ask)) (record w { devices = with_device new w.devices }) in
          new_device c u later (call_entry pid number called (told ask)) place device new after
          (entered_by c u later pid number called (told ask) calls (at ∙ get_at c w q max device (none_in_hand asks device tells two.0) ∙ first.out)) refl there refl
          (record { in_hand = subst (λ o. AreInHand o (Some first.other)) (sym is.in_hand) first.is; waiting = first.are });
    }

-- the answer to what is in hand
put_refused : (c : Description) (w : Unix) (q : Process) (bytes : List ℕ) (error : Option Errno) (code : ℕ) (device : Device) (one : Option Ask) (two : Option UnixAsk) → AreInHand one two → IsNumberOf error code → is_refused_beside one bytes error ≡ true
    → put_to c w q bytes code device two ≡ refuses c w q errno.Invalid
put_refused c w q bytes error code device None None are is h = refl
put_refused c w q bytes error code device None (Some other) are is h = absurd are
put_refused c w q bytes error code device (Some ask) None are is h = absurd are
put_refused c w q bytes error code device (Some ask) (Some other) are is h =
    ap (puts c w q device other) (answer_same ask other.call bytes error code are.called is ∙ ap (λ b. cond b (Some (devices.reply_of ask bytes error)) None) (by (devices.takes ask bytes error) h))
  where
    by : (b : Bool) → not b ≡ true → b ≡ false
    by true e = absurd (true≢false (sym e))
    by false e = refl

pub record PutLeft (c : Description) (w : Unix) (q : Process) (bytes : List ℕ) (error : Option Errno) (code : ℕ) (device : Device) (ask : Ask) (two : Option UnixAsk) : Type 0 where
  pub other : UnixAsk
  pub is : IsAsk ask other
  pub out : put_to c w q bytes code device two ≡ is_done c (record w { devices = with_device (left device other (devices.reply_of ask bytes error)) w.devices }) q

put_left : (c : Description) (w : Unix) (q : Process) (bytes : List ℕ) (error : Option Errno) (code : ℕ) (device : Device) (ask : Ask) (two : Option UnixAsk) → AreInHand (Some ask) two → IsNumberOf error code → devices.takes ask bytes error ≡ true → PutLeft c w q bytes error code device ask two
put_left c w q bytes error code device ask None are is h = absurd are
put_left c w q bytes error code device ask (Some other) are is h =
    record {
      other = other;
      is = are;
      out = ap (puts c w q device other) (answer_same ask other.call bytes error code are.called is ∙ ap (λ b. cond b (Some (devices.reply_of ask bytes error)) None) h);
    }

pub puts_as_one : PutsAsOne
puts_as_one c u pid number fd bytes error code place device asks calls numbered m there tells =
    let q = called_by calls in
    let w = called_in calls in
    let called = call.PdPut fd bytes code in
    let at : outcome c w q called ≡ put_to c w q bytes code device device.in_hand = at_the_master c w q fd place device (λ d. put_to c w q bytes code d d.in_hand) (master_at_call c u pid number called calls fd place m) there in
    record {
      refused = λ h.
          same_devices c u (with_process (replied c q (Error errno.Invalid)) w) (call_entry pid number called (Error errno.Invalid)) place device asks
          (entered_by c u (with_process (replied c q (Error errno.Invalid)) w) pid number called (Error errno.Invalid) calls (at ∙ put_refused c w q bytes error code device asks.in_hand device.in_hand tells.in_hand numbered h)) refl there tells;
      left = λ ask in_hand may.
          let put = put_left c w q bytes error code device ask device.in_hand (subst (λ o. AreInHand o device.in_hand) in_hand tells.in_hand) numbered may in
          let new = left device put.other (devices.reply_of ask bytes error) in
          let later = with_process (replied c q nothing) (record w { devices = with_device new w.devices }) in
          let goes = new_device c u later (call_entry pid number called nothing) place device new (record asks { in_hand = None }) (entered_by c u later pid number called nothing calls (at ∙ put.out)) refl there refl (record { in_hand = tt; waiting = tells.waiting }) in
          subst (λ n. Goes c u (call_entry pid number called nothing) place (record asks { in_hand = None }) (device.answers ++ record { pid = n; reply = devices.reply_of ask bytes error } ∷ [])) put.is.pid goes;
    }

-- ---- an operation's end

-- the process at its call
inside_by : {c : Description} {u : Unix} {pid number : ℕ} {called : Call} {place : ℕ} → IsInside c u pid number called place → Process
inside_by inside = record inside.process { image = inside.next.image }

pub any_put : (test : Process → Bool) (q : Process) (ps : List Process) → test q ≡ false → list_any test ps ≡ false → list_any test (put_process q ps) ≡ false
any_put test q [] h k = ap (λ b. b || false) h
any_put test q (x ∷ ps) h k = by (q.pid == x.pid) (nat_lt q.pid x.pid) (any_put test q ps h)
  where
    first : (a b : Bool) → a || b ≡ false → a ≡ false
    first true b e = absurd (true≢false e)
    first false b e = refl

    rest : (a b : Bool) → a || b ≡ false → b ≡ false
    rest true b e = absurd (true≢false e)
    rest false b e = e

    by : (same before : Bool) → (list_any test ps ≡ false → list_any test (put_process q ps) ≡ false) → list_any test (cond same (q ∷ ps) (cond before (q ∷ x ∷ ps) (x ∷ put_process q ps))) ≡ false
    by true before on = ap₂ (λ a b. a || b) h (rest (test x) (list_any test ps) k)
    by false true on = ap₂ (λ a b. a || b) h k
    by false false on = ap₂ (λ a b. a || b) (first (test x) (list_any test ps) k) (on (rest (test x) (list_any test ps) k))

pub none_of : (test : Process → Bool) (ps : List Process) (pid : ℕ) (p : Process) → list_any test ps ≡ false → process_at ps pid ≡ Some p → test p ≡ false
none_of test [] pid p h there = absurd (cc)
none_of test (x ∷ ps) pid p h there = by (x.pid == pid) there (none_of test ps pid p)
  where
    first : (a b : Bool) → a || b ≡ false → a ≡ false
    first true b e = absurd (true≢false e)
    first false b e = refl

    rest : (a b : Bool) → a || b ≡ false → b ≡ false
    rest true b e = absurd (true≢false e)
    rest false b e = e

    by : (b : Bool) → cond b (Some x) (process_at ps pid) ≡ Some p → (list_any test ps ≡ false → process_at ps pid ≡ Some p → test p ≡ false) → test p ≡ false
    by true there on = let same : x ≡ p = cc in subst (λ (k : Process). test k ≡ false) same (first (test x) (list_any test ps) h)
    by false there on = on (rest (test x) (list_any test ps) h) there

pub done_opened : (c : Description) (u : Unix) (pid number : ℕ) (called : Call) (place : ℕ) (device : Device) (reply : Reply) (inside : IsInside c u pid number called place) → device_at u.devices place ≡ Some device
    → answer_due (with_process (record inside.process { image = inside.next.image }) u) (record inside.process { image = inside.next.image }) device (answer_for inside.process.pid device.answers) ≡ Some reply
    → after c u (done_entry pid number called reply) ≡ Some (counted (with_process (replied c (record inside.process { image = inside.next.image }) reply) (fetched (with_process (record inside.process { image = inside.next.image }) u) (record inside.process { image = inside.next.image }) device)))
done_opened c u pid number called place device reply inside there due =
    let e = done_entry pid number called reply in
    let p = inside.process in
    let q : Process = record p { image = inside.next.image } in
    let w = with_process q u in
    let program = inside.next.program in
    ap (λ o. option_map counted (after_of c u e o)) inside.there
    ∙ ap (λ b. option_map counted (cond b (after_living c u p e (Some called)) None)) inside.living
    ∙ ap (λ b. option_map counted (cond b (at_program c u p e called (program_at c.programs p.image.number)) None)) (eq-eqb number (p.calls + 1) inside.numbered)
    ∙ ap (λ o. option_map counted (at_program c u p e called o)) inside.next.program_is
    ∙ ap (λ o. option_map counted (at_image c u p e program called o)) inside.next.comes
    ∙ ap (λ o. option_map counted (next_is c w q e called o)) inside.next.call_is
    ∙ ap (λ b. option_map counted (cond b (after_part c w q part.Done called (Some reply)) None)) (call_same called)
    ∙ ap (λ o. option_map counted (option_and_then (done_at c w q reply) (option_and_then (device_at w.devices) o))) inside.asking
    ∙ ap (λ o. option_map counted (option_and_then (done_at c w q reply) o)) there
    ∙ ap (λ o. option_map counted (done_with c w q device reply o)) due
    ∙ ap (λ b. option_map counted (cond b (Some (with_process (replied c q reply) (fetched w q device))) None)) (reply_same reply)

pub ends_as_one : EndsAsOne
ends_as_one c u pid number called place device asks inside there tells =
    let p = inside.process in
    let q : Process = record p { image = inside.next.image } in
    let w = with_process q u in
    let number_is : p.pid ≡ pid = found_pid u.processes pid p inside.there in
    let new : Device = record device { answers = without_answer q.pid device.answers } in
    let tells_new : TellsTheSame asks new = record { in_hand = tells.in_hand; waiting = tells.waiting } in
    record {
      answered = λ reply due.
          subst (λ n. Goes c u (done_entry pid number called reply) place asks (without_answer n device.answers)) number_is
          (new_device c u (with_process (replied c q reply) (fetched w q device)) (done_entry pid number called reply) place device new asks
          (done_opened c u pid number called place device reply inside there (ap (λ n. answer_due w q device (answer_for n device.answers)) number_is ∙ ap (answer_due w q device) due)) refl there refl tells_new);
      dead = λ none gone.
          let test = holds_master_of u.streams device.place in
          let at : device.place ≡ place = device_place u.devices place device there in
          let nobody : list_any test u.processes ≡ false = ap (is_alive u) at ∙ gone in
          let alone : test p ≡ false = none_of test u.processes pid p nobody inside.there in
          let still : is_alive w device.place ≡ false = any_put test q u.processes alone nobody in
          subst (λ n. Goes c u (done_entry pid number called (Error errno.NoServer)) place asks (without_answer n device.answers)) number_is
          (new_device c u (with_process (replied c q (Error errno.NoServer)) (fetched w q device)) (done_entry pid number called (Error errno.NoServer)) place device new asks
          (done_opened c u pid number called place device (Error errno.NoServer) inside there
          (ap (λ n. answer_due w q device (answer_for n device.answers)) number_is ∙ ap (answer_due w q device) none ∙ ap (λ b. cond b None (Some (Error errno.NoServer))) still)) refl there refl tells_new);
    }
