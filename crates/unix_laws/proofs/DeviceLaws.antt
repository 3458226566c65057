-- What an entry does to a device.
use Rattle.std.proofs.Common.{◌≡◌, ◌+◌, ℕ, zero, suc, Bool, true, false, ◌&&◌, ◌||◌, cond, List, [], ◌∷◌, ◌++◌, length, nat_lt, Option, Some, None, refl, sym, ap, ap₂, subst, ◌∙◌, inl, inr, append_assoc, append-nil}
use Rattle.std.specs.Prelude.{◌==◌, slice_get}
use Rattle.std.specs.List.{list_any}
use Rattle.std.specs.Option.{is_some, option_and_then}
use Rattle.std.proofs.lemmas.Bool.{cases_Bool, true≢false, eqb-true, eq-eqb, ne_eqb}
use Rattle.sprite_ids.specs.declared.Errno.TheVariants as errno
use Rattle.sprite_ids.proofs.ListLaws.{some_is}
use Rattle.process_machine.specs.declared.call.Call.{Call}
use Rattle.process_machine.specs.declared.call.Call.TheVariants as call
use Rattle.process_machine.specs.declared.call.Reply.{Reply}
use Rattle.process_machine.specs.declared.call.Reply.TheVariants.{Value}
use Rattle.unix_calls.specs.declared.Description.{Description}
use Rattle.unix_calls.specs.declared.Entry.{Entry}
use Rattle.unix_calls.specs.declared.entry.Part.TheVariants as part
use Rattle.unix_calls.specs.declared.state.Answer.{Answer}
use Rattle.unix_calls.specs.declared.state.Ask.{Ask}
use Rattle.unix_calls.specs.declared.state.Device.{Device}
use Rattle.unix_calls.specs.declared.state.Node.{Node}
use Rattle.unix_calls.specs.declared.state.Object.TheVariants.{OfMaster}
use Rattle.unix_calls.specs.declared.state.Process.{Process}
use Rattle.unix_calls.specs.declared.state.Stream.{Stream}
use Rattle.unix_calls.specs.Tree.{node_at}
use Rattle.unix_calls.specs.State.{Unix, device_at, is_master_of, joined_option, leads_to_master, process_at, put_process, stream_at, stream_of, with_device, with_process}
use Rattle.unix_calls.specs.Answers.{Answered, refuses, replied}
use Rattle.unix_calls.specs.NameCalls.{moved_to}
use Rattle.unix_calls.specs.Opening.{cut}
use Rattle.unix_calls.specs.DeviceCalls.{answer_of, asked_bytes, get_from, kind_of, left, put_to, puts, taken, takes_first, without_answer}
use Rattle.unix_calls.specs.After.{after, asked, counted, fetched, outcome, state_from}
use Rattle.unix_calls.proofs.ProcessLaws.{found_pid, put_there}
use Rattle.unix_frames.specs.Frames.{handles_device}
use Rattle.unix_frames.proofs.ChangeLaws.{Change, Itself, Freed, Doubled, EndedSo, Ticked, Born, WaitedFor, KilledSo, MadeDirectory, RemovedDirectory, Unlinked, Renamed, OpenedFile, OpenedDevice, CreatedFile, MadeDevice, MovedTo, Wrote, Handled}
use Rattle.unix_laws.specs.Asks.{AsksComeInOrder, DeviceGoesOn, DevicesMove, Stays, Queues, Takes, Leaves, Fetches, answered_by, answered_from, answered_of, ask_in, asking_of, hand, in_hand_of, is_ask, is_inside, is_master_in, line_at, line_of, made_by, made_from, then_answered, then_made}
use Rattle.unix_frames.proofs.EntryLaws.{Answers, Asks, Dies, Enters, Fails, IsAt, opened}
use Rattle.unix_frames.proofs.EntryLaws as entry
use Rattle.unix_laws.proofs.AnswerLaws.{Refuses, Says, said, says_at_master, says_if, says_refuses}
use Rattle.unix_laws.proofs.SpreadLaws.{change_of}

-- ---- devices by their places

pub device_place : (ds : List Device) (place : ℕ) (d : Device) → device_at ds place ≡ Some d → d.place ≡ place
device_place [] place d h = absurd (cc)
device_place (x ∷ ds) place d h = by (x.place == place) refl h (device_place ds place d)
  where
    by : (b : Bool) → (x.place == place) ≡ b → cond b (Some x) (device_at ds place) ≡ Some d → (device_at ds place ≡ Some d → d.place ≡ place) → d.place ≡ place
    by true e h rest = let same : x ≡ d = cc in ap (λ (k : Device). k.place) (sym same) ∙ eqb-true x.place place e
    by false e h rest = rest h

pub put_device : (ds : List Device) (place : ℕ) (d new : Device) → device_at ds place ≡ Some d → new.place ≡ place → device_at (with_device new ds) place ≡ Some new
put_device [] place d new h same = absurd (cc)
put_device (x ∷ ds) place d new h same = by (x.place == place) refl h (put_device ds place d new)
  where
    by : (b : Bool) → (x.place == place) ≡ b → cond b (Some x) (device_at ds place) ≡ Some d → (device_at ds place ≡ Some d → new.place ≡ place → device_at (with_device new ds) place ≡ Some new) → device_at (with_device new (x ∷ ds)) place ≡ Some new
    by true e h rest =
        ap (λ b. device_at (cond b (new ∷ ds) (x ∷ with_device new ds)) place) (ap (λ n. x.place == n) same ∙ e)
        ∙ ap (λ b. cond b (Some new) (device_at ds place)) (eq-eqb new.place place same)
    by false e h rest =
        ap (λ b. device_at (cond b (new ∷ ds) (x ∷ with_device new ds)) place) (ap (λ n. x.place == n) same ∙ e)
        ∙ ap (λ b. cond b (Some x) (device_at (with_device new ds) place)) e ∙ rest h same

pub other_device : (ds : List Device) (new : Device) (other : ℕ) → (other ≡ new.place → ⊥) → device_at (with_device new ds) other ≡ device_at ds other
other_device [] new other apart = refl
other_device (x ∷ ds) new other apart = by (x.place == new.place) refl (other_device ds new other apart)
  where
    by : (b : Bool) → (x.place == new.place) ≡ b → device_at (with_device new ds) other ≡ device_at ds other → device_at (cond b (new ∷ ds) (x ∷ with_device new ds)) other ≡ device_at (x ∷ ds) other
    by true e rest =
        ap (λ b. cond b (Some new) (device_at ds other)) (ne_eqb new.place other (λ same. apart (sym same)))
        ∙ sym (ap (λ b. cond b (Some x) (device_at ds other)) (ne_eqb x.place other (λ same. apart (sym same ∙ eqb-true x.place new.place e))))
    by false e rest = ap (cond (x.place == other) (Some x)) rest

-- ---- what a call does

-- the devices are as they were; one is new; the first ask is taken; the one in hand is answered
pub data DeviceChange (w : Unix) (q : Process) (called : Call) (reply : Reply) (later : Unix) : Type 0 where
  Same : later.devices ≡ w.devices → DeviceChange w q called reply later
  Made : later.devices ≡ w.devices ++ record { place = w.entries; asks = []; in_hand = None; answers = [] } ∷ [] → DeviceChange w q called reply later
  Took : (fd max place : ℕ) (s : Stream) (device : Device) (ask : Ask) (rest : List Ask) → called ≡ call.PdGet fd max → stream_of w q fd ≡ Some s → s.object ≡ OfMaster place → device_at w.devices place ≡ Some device → device.in_hand ≡ None → device.asks ≡ ask ∷ rest
      → reply ≡ Value (kind_of ask.call) (length (asked_bytes ask.call)) (asked_bytes ask.call) → later.devices ≡ with_device (taken device ask rest) w.devices → DeviceChange w q called reply later
  Gave : (fd number place : ℕ) (bytes : List ℕ) (s : Stream) (device : Device) (ask : Ask) (answer : Reply) → called ≡ call.PdPut fd bytes number → stream_of w q fd ≡ Some s → s.object ≡ OfMaster place → device_at w.devices place ≡ Some device → device.in_hand ≡ Some ask
      → answer_of ask.call bytes number ≡ Some answer → later.devices ≡ with_device (left device ask answer) w.devices → DeviceChange w q called reply later

all_errors : Rattle.sprite_ids.specs.declared.Errno.Errno → Bool
all_errors e = true

unchanged : (c : Description) (w : Unix) (q : Process) (called : Call) → Refuses (DeviceChange w q called) c w q all_errors
unchanged c w q called = record { refused = λ e ok. Same refl }

gets : (c : Description) (w : Unix) (q : Process) (fd max : ℕ) → Says (DeviceChange w q (call.PdGet fd max)) (outcome c w q (call.PdGet fd max))
unfolding all_errors
gets c w q fd max = says_at_master Q c w q all_errors fd (get_from c w q max) (unchanged c w q (call.PdGet fd max)) refl refl (λ s place device e is there. free s place device e is there device.in_hand refl)
  where
    Q : Reply → Unix → Type 0
    Q = DeviceChange w q (call.PdGet fd max)

    first : (s : Stream) (place : ℕ) (device : Device) → stream_of w q fd ≡ Some s → s.object ≡ OfMaster place → device_at w.devices place ≡ Some device → device.in_hand ≡ None → (asks : List Ask) → device.asks ≡ asks → Says Q (takes_first c w q max device asks)
    first s place device e is there none [] line = record { does = tt }
    first s place device e is there none (ask ∷ rest) line =
        says_if Q (nat_lt max (length (asked_bytes ask.call))) _ _ (λ long. says_refuses Q c w q all_errors (unchanged c w q (call.PdGet fd max)) errno.Invalid refl)
        (λ short. record { does = Took fd max place s device ask rest refl e is there none line refl refl })

    free : (s : Stream) (place : ℕ) (device : Device) → stream_of w q fd ≡ Some s → s.object ≡ OfMaster place → device_at w.devices place ≡ Some device → (held : Option Ask) → device.in_hand ≡ held → Says Q (cond (is_some held) (refuses c w q errno.Busy) (takes_first c w q max device device.asks))
    free s place device e is there None none = first s place device e is there none device.asks refl
    free s place device e is there (Some ask) held = says_refuses Q c w q all_errors (unchanged c w q (call.PdGet fd max)) errno.Busy refl

puts_so : (c : Description) (w : Unix) (q : Process) (fd : ℕ) (bytes : List ℕ) (number : ℕ) → Says (DeviceChange w q (call.PdPut fd bytes number)) (outcome c w q (call.PdPut fd bytes number))
unfolding all_errors
puts_so c w q fd bytes number =
    says_at_master Q c w q all_errors fd (λ device. put_to c w q bytes number device device.in_hand) (unchanged c w q (call.PdPut fd bytes number)) refl refl (λ s place device e is there. held s place device e is there device.in_hand refl)
  where
    Q : Reply → Unix → Type 0
    Q = DeviceChange w q (call.PdPut fd bytes number)

    held : (s : Stream) (place : ℕ) (device : Device) → stream_of w q fd ≡ Some s → s.object ≡ OfMaster place → device_at w.devices place ≡ Some device → (ask : Option Ask) → device.in_hand ≡ ask → Says Q (put_to c w q bytes number device ask)
    held s place device e is there None none = says_refuses Q c w q all_errors (unchanged c w q (call.PdPut fd bytes number)) errno.Invalid refl
    held s place device e is there (Some ask) has = by (answer_of ask.call bytes number) refl
      where
        by : (answer : Option Reply) → answer_of ask.call bytes number ≡ answer → Says Q (puts c w q device ask answer)
        by None no_answer = says_refuses Q c w q all_errors (unchanged c w q (call.PdPut fd bytes number)) errno.Invalid refl
        by (Some answer) given = record { does = Gave fd number place bytes s device ask answer refl e is there has given refl }

-- any other call
other_change : (w : Unix) (q : Process) (called : Call) (reply : Reply) (later : Unix) → handles_device called ≡ false → Change w q called later → DeviceChange w q called reply later
other_change w q called reply later no_handling (Itself r still e) = Same (ap (λ (x : Unix). x.devices) e)
other_change w q called reply later no_handling (Freed fd r is leads e) = Same (ap (λ (x : Unix). x.devices) e)
other_change w q called reply later no_handling (Doubled fd free stream r is found free_is leads e) = Same (ap (λ (x : Unix). x.devices) e)
other_change w q called reply later no_handling (EndedSo how is e) = Same (ap (λ (x : Unix). x.devices) e)
other_change w q called reply later no_handling (Ticked count r is still e) = Same (ap (λ (x : Unix). x.devices) e)
other_change w q called reply later no_handling (Born r is few still child number parent fresh e) = Same (ap (λ (x : Unix). x.devices) e)
other_change w q called reply later no_handling (WaitedFor first r is among still e) = Same (ap (λ (x : Unix). x.devices) e)
other_change w q called reply later no_handling (KilledSo target r is among killed e) = Same (ap (λ (x : Unix). x.devices) e)
other_change w q called reply later no_handling (MadeDirectory path r is free still e) = Same (ap (λ (x : Unix). x.devices) e)
other_change w q called reply later no_handling (RemovedDirectory path r is free still e) = Same (ap (λ (x : Unix). x.devices) e)
other_change w q called reply later no_handling (Unlinked path r is free still e) = Same (ap (λ (x : Unix). x.devices) e)
other_change w q called reply later no_handling (Renamed old new r is free still e) = Same (ap (λ (x : Unix). x.devices) e ∙ by (node_at w.nodes old))
  where
    by : (node : Option Node) → (moved_to old new node w).devices ≡ w.devices
    by None = refl
    by (Some node) = refl
other_change w q called reply later no_handling (OpenedFile path fd name truncates appends m r is there free leads e) = Same (ap (λ (x : Unix). x.devices) e ∙ by truncates)
  where
    by : (b : Bool) → (cut b name w).devices ≡ w.devices
    by true = refl
    by false = refl
other_change w q called reply later no_handling (OpenedDevice path fd place appends m r is there free leads e) = Same (ap (λ (x : Unix). x.devices) e)
other_change w q called reply later no_handling (CreatedFile path fd appends m r is way there free leads e) = Same (ap (λ (x : Unix). x.devices) e)
other_change w q called reply later no_handling (MadeDevice path fd r is fresh free leads e) = Made (ap (λ (x : Unix). x.devices) e)
other_change w q called reply later no_handling (MovedTo fd offset stream r is found still e) = Same (ap (λ (x : Unix). x.devices) e)
other_change w q called reply later no_handling (Wrote fd offset stream name bytes r is found object still e) = Same (ap (λ (x : Unix). x.devices) e)
other_change w q called reply later no_handling (Handled place device new r is found same still e) = absurd (true≢false (sym is ∙ no_handling))

pub device_change : (c : Description) (w : Unix) (q : Process) (called : Call) (reply : Reply) (later : Unix) → outcome c w q called ≡ Answered reply later → DeviceChange w q called reply later
device_change c w q (call.PdGet fd max) reply later is = said (DeviceChange w q (call.PdGet fd max)) (outcome c w q (call.PdGet fd max)) reply later (gets c w q fd max) is
device_change c w q (call.PdPut fd bytes number) reply later is = said (DeviceChange w q (call.PdPut fd bytes number)) (outcome c w q (call.PdPut fd bytes number)) reply later (puts_so c w q fd bytes number) is
device_change c w q called reply later is = other_change w q called reply later refl (change_of c w q called reply later is)

-- ---- what an entry does

-- a device that goes on, with what is asked of it by the entry and what of it is answered
pub record GoesOn (u v : Unix) (e : Entry) (place : ℕ) (before : Device) : Type 0 where
  pub goes : DeviceGoesOn u v e place before
  pub fetched : e.part ≡ part.Done → is_inside place (asking_of (process_at u.processes e.pid)) ≡ true → goes.device.answers ≡ without_answer e.pid before.answers
  pub line : line_of (Some before) ++ made_by place e v ≡ answered_of before.in_hand goes.device.in_hand ++ line_of (Some goes.device)

-- no ask
no_ask : (place : ℕ) (e : Entry) (v : Unix) → is_ask e.part ≡ false → made_by place e v ≡ []
no_ask place e v none = ap (λ b. cond (b && is_inside place (asking_of (process_at v.processes e.pid))) (ask_in e e.call) []) none

-- nothing is in hand that was in hand before
same_hand : (held : Option Ask) → answered_of held held ≡ []
same_hand None = refl
same_hand (Some ask) = refl

-- where it is no end of an ask
abbrev NoEnd : Unix → Entry → ℕ → Type 0
NoEnd u e place = e.part ≡ part.Done → is_inside place (asking_of (process_at u.processes e.pid)) ≡ true → ⊥

whole_no_end : (u : Unix) (e : Entry) (place : ℕ) → e.part ≡ part.Whole → NoEnd u e place
whole_no_end u e place whole = λ done inside. let two : part.Whole ≡ part.Done = sym whole ∙ done in absurd (cc)

stays_on : (u v : Unix) (e : Entry) (place : ℕ) (before : Device) → device_at v.devices place ≡ Some before → NoEnd u e place → made_by place e v ≡ [] → GoesOn u v e place before
stays_on u v e place before there no_end none =
    record {
      goes = record { device = before; there = there; moves = Stays refl };
      fetched = λ done inside. absurd (no_end done inside);
      line = ap (λ l. line_of (Some before) ++ l) none ∙ append-nil (line_of (Some before)) ∙ sym (ap (λ l. l ++ line_of (Some before)) (same_hand before.in_hand));
    }

-- another device than the one that takes a place
beside_on : (u v : Unix) (e : Entry) (place : ℕ) (before new : Device) → device_at u.devices place ≡ Some before → (place ≡ new.place → ⊥) → v.devices ≡ with_device new u.devices → NoEnd u e place → made_by place e v ≡ [] → GoesOn u v e place before
beside_on u v e place before new there apart is no_end none = stays_on u v e place before (ap (λ (l : List Device). device_at l place) is ∙ other_device u.devices new place apart ∙ there) no_end none

made_there : (ds : List Device) (new : Device) (place : ℕ) (before : Device) → device_at ds place ≡ Some before → device_at (ds ++ new ∷ []) place ≡ Some before
made_there [] new place before h = absurd (cc)
made_there (x ∷ ds) new place before h = by (x.place == place) h (made_there ds new place before)
  where
    by : (b : Bool) → cond b (Some x) (device_at ds place) ≡ Some before → (device_at ds place ≡ Some before → device_at (ds ++ new ∷ []) place ≡ Some before) → cond b (Some x) (device_at (ds ++ new ∷ []) place) ≡ Some before
    by true h rest = h
    by false h rest = rest h

is_of_device : (found before : Device) (ds : List Device) (place at : ℕ) → device_at ds at ≡ Some found → device_at ds place ≡ Some before → place ≡ at → found ≡ before
is_of_device found before ds place at one two same = some_is found before (sym one ∙ ap (device_at ds) (sym same) ∙ two)

-- a whole call
call_on : (u later : Unix) (e : Entry) (w : Unix) (q : Process) (called : Call) (reply : Reply) (place : ℕ) (before : Device) → w.devices ≡ u.devices → ((fd at : ℕ) (s : Stream) → stream_of w q fd ≡ Some s → s.object ≡ OfMaster at → is_master_in u at (process_at u.processes e.pid) ≡ true) → e.part ≡ part.Whole → e.call ≡ Some called → e.reply ≡ Some reply → DeviceChange w q called reply later → device_at u.devices place ≡ Some before
    → GoesOn u (counted later) e place before
call_on u later e w q called reply place before same masters whole is given (Same e_is) there =
    stays_on u (counted later) e place before (ap (λ (l : List Device). device_at l place) (e_is ∙ same) ∙ there) (whole_no_end u e place whole) (no_ask place e (counted later) (ap is_ask whole))
call_on u later e w q called reply place before same masters whole is given (Made e_is) there =
    stays_on u (counted later) e place before
    (ap (λ (l : List Device). device_at l place) e_is ∙ made_there w.devices _ place before (ap (λ (l : List Device). device_at l place) same ∙ there)) (whole_no_end u e place whole) (no_ask place e (counted later) (ap is_ask whole))
call_on u later e w q called reply place before same masters whole is given (Took fd max at s device ask rest called_is found object here free line told e_is) there =
    elim (cases_Bool (place == at)) [
      | inl on ↦
          let at_is : place ≡ at = eqb-true place at on in
          let mine : device ≡ before = is_of_device device before u.devices place at (sym (ap (λ (l : List Device). device_at l at) same) ∙ here) there at_is in
          let new : Device = taken device ask rest in
          let number : new.place ≡ place = device_place w.devices at device here ∙ sym at_is in
          let now : device_at later.devices place ≡ Some new = ap (λ (l : List Device). device_at l place) e_is ∙ put_device w.devices place before new (ap (λ (l : List Device). device_at l place) same ∙ there) number in
          record {
            goes = record {
              device = new;
              there = now;
              moves = Takes ask rest fd max whole (is ∙ ap Some called_is) (given ∙ ap Some told) (sym (ap (λ (d : Device). d.in_hand) mine) ∙ free) (sym (ap (λ (d : Device). d.asks) mine) ∙ line)
                  (ap (λ n. is_master_in u n (process_at u.processes e.pid)) (device_place u.devices place before there ∙ at_is) ∙ masters fd at s found object) (ap (λ (d : Device). taken d ask rest) mine);
            };
            fetched = λ done inside. absurd (whole_no_end u e place whole done inside);
            line = ap (λ l. line_of (Some before) ++ l) (no_ask place e (counted later) (ap is_ask whole)) ∙ append-nil (line_of (Some before))
                ∙ ap (λ (d : Device). line_of (Some d)) (sym mine) ∙ ap₂ (λ o l. hand o ++ l) free line
                ∙ ap (λ o. answered_of o (Some ask) ++ ask ∷ rest) (sym free ∙ ap (λ (d : Device). d.in_hand) mine);
          }
      | inr off ↦
          beside_on u (counted later) e place before (taken device ask rest) there
          (λ on. true≢false (sym (eq-eqb place at (on ∙ device_place w.devices at device here)) ∙ off)) (e_is ∙ ap (with_device (taken device ask rest)) same) (whole_no_end u e place whole) (no_ask place e (counted later) (ap is_ask whole))
    ]
call_on u later e w q called reply place before same masters whole is given (Gave fd number at bytes s device ask answer called_is found object here has answer_is e_is) there =
    elim (cases_Bool (place == at)) [
      | inl on ↦
          let at_is : place ≡ at = eqb-true place at on in
          let mine : device ≡ before = is_of_device device before u.devices place at (sym (ap (λ (l : List Device). device_at l at) same) ∙ here) there at_is in
          let new : Device = left device ask answer in
          let own : new.place ≡ place = device_place w.devices at device here ∙ sym at_is in
          let now : device_at later.devices place ≡ Some new = ap (λ (l : List Device). device_at l place) e_is ∙ put_device w.devices place before new (ap (λ (l : List Device). device_at l place) same ∙ there) own in
          let held : before.in_hand ≡ Some ask = sym (ap (λ (d : Device). d.in_hand) mine) ∙ has in
          record {
            goes = record { device = new; there = now; moves = Leaves ask answer fd bytes number whole (is ∙ ap Some called_is) held answer_is (ap (λ n. is_master_in u n (process_at u.processes e.pid)) (device_place u.devices place before there ∙ at_is) ∙ masters fd at s found object) (ap (λ (d : Device). left d ask answer) mine) };
            fetched = λ done inside. absurd (whole_no_end u e place whole done inside);
            line = ap (λ l. line_of (Some before) ++ l) (no_ask place e (counted later) (ap is_ask whole)) ∙ append-nil (line_of (Some before))
                ∙ ap (λ o. hand o ++ before.asks) held ∙ ap (λ (d : Device). ask ∷ d.asks) (sym mine) ∙ ap (λ o. answered_of o None ++ device.asks) (sym held);
          }
      | inr off ↦
          beside_on u (counted later) e place before (left device ask answer) there
          (λ on. true≢false (sym (eq-eqb place at (on ∙ device_place w.devices at device here)) ∙ off)) (e_is ∙ ap (with_device (left device ask answer)) same) (whole_no_end u e place whole) (no_ask place e (counted later) (ap is_ask whole))
    ]

-- an ask
asking_behind : (later w : Unix) (e : Entry) (r : Process) → r.pid ≡ e.pid → later ≡ with_process r w → process_at later.processes e.pid ≡ Some r
asking_behind later w e r own is = ap (λ (x : Unix). process_at x.processes e.pid) is ∙ ap (process_at (put_process r w.processes)) (sym own) ∙ put_there r w.processes

ask_on : (c : Description) (u later : Unix) (e : Entry) (q : Process) (called : Call) (at place : ℕ) (device before : Device) → IsAt c u e q called → e.part ≡ part.Ask → device_at u.devices at ≡ Some device → later ≡ asked (with_process q u) q called device → device_at u.devices place ≡ Some before → GoesOn u (counted later) e place before
ask_on c u later e q called at place device before is_at is here e_is there =
    elim (cases_Bool (place == at)) [
      | inl on ↦
          let at_is : place ≡ at = eqb-true place at on in
          let mine : device ≡ before = is_of_device device before u.devices place at here there at_is in
          let now : device_at later.devices place ≡ Some new = ap (λ (x : Unix). device_at x.devices place) e_is ∙ put_device u.devices place before new there (own ∙ sym at_is) in
          record {
            goes = record { device = new; there = now; moves = Queues ask is is_at.claimed mine_pid (sym number) (ap (λ (d : Device). record d { asks = d.asks ++ ask ∷ [] }) mine) };
            fetched = λ done inside. absurd (no_end done inside);
            line = ap (λ l. line_of (Some before) ++ l) (asked_so at_is) ∙ append_assoc (hand before.in_hand) before.asks (ask ∷ [])
                ∙ sym (ap (λ l. l ++ (hand before.in_hand ++ (before.asks ++ ask ∷ []))) (same_hand before.in_hand)) ∙ ap (λ (d : Device). answered_of before.in_hand d.in_hand ++ (hand d.in_hand ++ (d.asks ++ ask ∷ []))) (sym mine);
          }
      | inr off ↦
          beside_on u (counted later) e place before new there (λ on. true≢false (sym (eq-eqb place at (on ∙ own)) ∙ off)) (ap (λ (x : Unix). x.devices) e_is) no_end
          (ap (λ o. cond (is_ask e.part && is_inside place (asking_of o)) (ask_in e e.call) []) now_asking ∙ ap (λ b. cond (is_ask e.part && b) (ask_in e e.call) []) (ap (λ n. n == place) own ∙ ne_eqb at place (λ same. true≢false (sym (eq-eqb place at (sym same)) ∙ off))) ∙ never (is_ask e.part))
    ]
  where
    ask : Ask
    ask = record { pid = q.pid; number = q.calls + 1; call = called }

    new : Device
    new = record device { asks = device.asks ++ ask ∷ [] }

    no_end : NoEnd u e place
    no_end = λ done inside. let two : part.Ask ≡ part.Done = sym is ∙ done in absurd (cc)

    r : Process
    r = record q { asking = Some device.place }

    own : device.place ≡ at
    own = device_place u.devices at device here

    mine_pid : q.pid ≡ e.pid
    mine_pid = ap (λ (p : Process). p.pid) is_at.whole ∙ found_pid u.processes e.pid is_at.before is_at.there

    number : e.number ≡ q.calls + 1
    number = is_at.number ∙ sym (ap (λ (p : Process). p.calls + 1) is_at.whole)

    now_asking : process_at later.processes e.pid ≡ Some r
    now_asking = asking_behind later (record u { devices = with_device new u.devices; processes = (with_process q u).processes }) e r mine_pid e_is

    never : (b : Bool) → cond (b && false) (ask_in e e.call) [] ≡ []
    never true = refl
    never false = refl

    asked_so : place ≡ at → made_by place e (counted later) ≡ ask ∷ []
    asked_so at_is =
        ap (λ o. cond (is_ask e.part && is_inside place (asking_of o)) (ask_in e e.call) []) now_asking
        ∙ ap (λ k. cond (is_ask k && (device.place == place)) (ask_in e e.call) []) is
        ∙ ap (λ b. cond b (ask_in e e.call) []) (eq-eqb device.place place (own ∙ sym at_is))
        ∙ ap (ask_in e) is_at.claimed
        ∙ ap₂ (λ n m. record { pid = n; number = m; call = called } ∷ []) (sym mine_pid) number

-- an ask's end
done_on : (c : Description) (u later : Unix) (e : Entry) (q : Process) (called : Call) (at place : ℕ) (device before : Device) (reply : Reply) → IsAt c u e q called → e.part ≡ part.Done → q.asking ≡ Some at → device_at u.devices at ≡ Some device → later ≡ with_process (replied c q reply) (fetched (with_process q u) q device) → device_at u.devices place ≡ Some before
    → GoesOn u (counted later) e place before
done_on c u later e q called at place device before reply is_at is busy here e_is there =
    elim (cases_Bool (place == at)) [
      | inl on ↦
          let at_is : place ≡ at = eqb-true place at on in
          let mine : device ≡ before = is_of_device device before u.devices place at here there at_is in
          let now : device_at later.devices place ≡ Some new = ap (λ (x : Unix). device_at x.devices place) e_is ∙ put_device u.devices place before new there (own ∙ sym at_is) in
          record {
            goes = record { device = new; there = now; moves = Fetches is (ap₂ (λ (d : Device) (n : ℕ). record d { answers = without_answer n d.answers }) mine mine_pid) };
            fetched = λ done inside. ap₂ (λ (d : Device) (n : ℕ). without_answer n d.answers) mine mine_pid;
            line = ap (λ l. line_of (Some before) ++ l) (no_ask place e (counted later) (ap is_ask is)) ∙ append-nil (line_of (Some before))
                ∙ ap (λ (d : Device). line_of (Some d)) (sym mine) ∙ sym (ap (λ l. l ++ line_of (Some device)) (ap (λ (d : Device). answered_of d.in_hand device.in_hand) (sym mine) ∙ same_hand device.in_hand));
          }
      | inr off ↦
          beside_on u (counted later) e place before new there (λ on. true≢false (sym (eq-eqb place at (on ∙ own)) ∙ off)) (ap (λ (x : Unix). x.devices) e_is)
          (λ done inside. true≢false (sym inside ∙ ap (λ o. is_inside place (asking_of o)) is_at.there ∙ ap (is_inside place) (sym (ap (λ (p : Process). p.asking) is_at.whole) ∙ busy) ∙ ne_eqb at place (λ same. true≢false (sym (eq-eqb place at (sym same)) ∙ off))))
          (no_ask place e (counted later) (ap is_ask is))
    ]
  where
    new : Device
    new = record device { answers = without_answer q.pid device.answers }

    own : device.place ≡ at
    own = device_place u.devices at device here

    mine_pid : q.pid ≡ e.pid
    mine_pid = ap (λ (p : Process). p.pid) is_at.whole ∙ found_pid u.processes e.pid is_at.before is_at.there

-- who has a master's descriptor is a master
any_got : (f : Option ℕ → Bool) (xs : List (Option ℕ)) (i : ℕ) (x : Option ℕ) → slice_get xs i ≡ Some x → f x ≡ true → list_any f xs ≡ true
any_got f [] i x there so = absurd (cc)
any_got f (y ∷ xs) zero x there so = ap (λ b. b || list_any f xs) (ap f (some_is y x there) ∙ so)
any_got f (y ∷ xs) (suc i) x there so = ap (λ b. f y || b) (any_got f xs i x there so) ∙ or_true (f y)
  where
    or_true : (b : Bool) → (b || true) ≡ true
    or_true true = refl
    or_true false = refl

holds_by : (streams : List Stream) (ds : List (Option ℕ)) (fd place : ℕ) (s : Stream) → option_and_then (stream_at streams) (joined_option (slice_get ds fd)) ≡ Some s → s.object ≡ OfMaster place → list_any (leads_to_master streams place) ds ≡ true
holds_by streams ds fd place s found object = by (slice_get ds fd) refl found
  where
    by : (held : Option (Option ℕ)) → slice_get ds fd ≡ held → option_and_then (stream_at streams) (joined_option held) ≡ Some s → list_any (leads_to_master streams place) ds ≡ true
    by None e found = absurd (cc)
    by (Some None) e found = absurd (cc)
    by (Some (Some k)) e found =
        any_got (leads_to_master streams place) ds fd (Some k) e
        (ap (λ o. is_some (option_and_then (λ (x : Stream). cond (is_master_of place x.object) (Some x) None) o)) found
        ∙ ap (λ o. is_some (cond (is_master_of place o) (Some s) None)) object
        ∙ ap (λ b. is_some (cond b (Some s) None)) (eq-eqb place place refl))

is_a_master : (c : Description) (u : Unix) (e : Entry) (q : Process) (called : Call) → IsAt c u e q called → (fd at : ℕ) (s : Stream) → stream_of (with_process q u) q fd ≡ Some s → s.object ≡ OfMaster at → is_master_in u at (process_at u.processes e.pid) ≡ true
is_a_master c u e q called is_at fd at s found object =
    ap (is_master_in u at) is_at.there ∙ holds_by u.streams is_at.before.descriptors fd at s (ap (λ (p : Process). option_and_then (stream_at u.streams) (joined_option (slice_get p.descriptors fd))) (sym is_at.whole) ∙ found) object

pub enters_on : (c : Description) (u later : Unix) (e : Entry) (place : ℕ) (before : Device) → Enters c u e later → device_at u.devices place ≡ Some before → GoesOn u (counted later) e place before
enters_on c u later e place before (Answers q called reply at whole given idle is) there =
    call_on u later e (with_process q u) q called reply place before refl (is_a_master c u e q called at) whole at.claimed given (device_change c (with_process q u) q called reply later is) there
enters_on c u later e place before (Fails q called error at whole given idle may is) there =
    stays_on u (counted later) e place before (ap (λ (x : Unix). device_at x.devices place) is ∙ there) (whole_no_end u e place whole) (no_ask place e (counted later) (ap is_ask whole))
enters_on c u later e place before (Asks q called at device is_at ask given idle goes here is) there = ask_on c u later e q called at place device before is_at ask here is there
enters_on c u later e place before (entry.Fetches q called at device reply is_at done given busy here due is) there = done_on c u later e q called at place device before reply is_at done busy here is there
enters_on c u later e place before (Dies p here alive killed idle dead none given is) there =
    stays_on u (counted later) e place before (ap (λ (x : Unix). device_at x.devices place) is ∙ there) (λ done inside. let two : part.Death ≡ part.Done = sym dead ∙ done in absurd (cc)) (no_ask place e (counted later) (ap is_ask dead))

moved_so : (u v : Unix) (e : Entry) (place : ℕ) (before : Device) → GoesOn u v e place before → DeviceGoesOn u v e place before
moved_so u v e place before g = g.goes

pub devices_move : DevicesMove
devices_move c u v e place before is there =
    let o = opened c u v e is in
    subst (λ (x : Unix). DeviceGoesOn u x e place before) (sym o.whole) (enters_on c u o.later e place before o.enters there).goes

-- ---- first in, first out

-- where there was no device, nothing stands in its line, no answer is left, and nothing is asked of it
abbrev pub answers_in : Option Device → List Answer
answers_in None = []
answers_in (Some device) = device.answers

pub record IsEmpty (o : Option Device) : Type 0 where
  pub line : line_of o ≡ []
  pub answers : answers_in o ≡ []

pub record NoLine (e : Entry) (place : ℕ) (v : Unix) : Type 0 where
  pub empty : IsEmpty (device_at v.devices place)
  pub asks : made_by place e v ≡ []

nothing_there : (o : Option Device) → o ≡ None → IsEmpty o
nothing_there o h = record { line = ap line_of h; answers = ap answers_in h }

still_none : (ds : List Device) (new : Device) (place : ℕ) → device_at ds place ≡ None → device_at (with_device new ds) place ≡ None
still_none [] new place h = refl
still_none (x ∷ ds) new place h = by (x.place == new.place) refl (x.place == place) refl h (still_none ds new place)
  where
    by : (a : Bool) → (x.place == new.place) ≡ a → (b : Bool) → (x.place == place) ≡ b → cond b (Some x) (device_at ds place) ≡ None → (device_at ds place ≡ None → device_at (with_device new ds) place ≡ None) → device_at (cond a (new ∷ ds) (x ∷ with_device new ds)) place ≡ None
    by a one true two h rest = absurd (cc)
    by true one false two h rest = ap (λ b. cond b (Some new) (device_at ds place)) (ap (λ n. n == place) (sym (eqb-true x.place new.place one)) ∙ two) ∙ h
    by false one false two h rest = ap (λ b. cond b (Some x) (device_at (with_device new ds) place)) two ∙ rest h

empty_more : (ds : List Device) (k place : ℕ) → device_at ds place ≡ None → IsEmpty (device_at (ds ++ record { place = k; asks = []; in_hand = None; answers = [] } ∷ []) place)
empty_more [] k place h = by (k == place)
  where
    by : (b : Bool) → IsEmpty (cond b (Some (record { place = k; asks = []; in_hand = None; answers = [] })) None)
    by true = record { line = refl; answers = refl }
    by false = record { line = refl; answers = refl }
empty_more (x ∷ ds) k place h = by (x.place == place) h (empty_more ds k place)
  where
    new : Device
    new = record { place = k; asks = []; in_hand = None; answers = [] }

    by : (b : Bool) → cond b (Some x) (device_at ds place) ≡ None → (device_at ds place ≡ None → IsEmpty (device_at (ds ++ new ∷ []) place)) → IsEmpty (cond b (Some x) (device_at (ds ++ new ∷ []) place))
    by true h rest = absurd (cc)
    by false h rest = rest h

same_none : (later u : Unix) (place : ℕ) → later.devices ≡ u.devices → device_at u.devices place ≡ None → IsEmpty (device_at later.devices place)
same_none later u place same none = nothing_there (device_at later.devices place) (ap (λ (l : List Device). device_at l place) same ∙ none)

put_none : (later u : Unix) (new : Device) (place : ℕ) → later.devices ≡ with_device new u.devices → device_at u.devices place ≡ None → IsEmpty (device_at later.devices place)
put_none later u new place is none = nothing_there (device_at later.devices place) (ap (λ (l : List Device). device_at l place) is ∙ still_none u.devices new place none)

call_none : (u later : Unix) (w : Unix) (q : Process) (called : Call) (reply : Reply) (place : ℕ) → w.devices ≡ u.devices → DeviceChange w q called reply later → device_at u.devices place ≡ None → IsEmpty (device_at later.devices place)
call_none u later w q called reply place same (Same is) none = same_none later u place (is ∙ same) none
call_none u later w q called reply place same (Made is) none =
    subst (λ (l : List Device). IsEmpty (device_at l place)) (sym is) (empty_more w.devices w.entries place (ap (λ (l : List Device). device_at l place) same ∙ none))
call_none u later w q called reply place same (Took fd max at s device ask rest called_is found object here free line told is) none = put_none later u (taken device ask rest) place (is ∙ ap (with_device (taken device ask rest)) same) none
call_none u later w q called reply place same (Gave fd number at bytes s device ask answer called_is found object here has answer_is is) none = put_none later u (left device ask answer) place (is ∙ ap (with_device (left device ask answer)) same) none

pub enters_none : (c : Description) (u later : Unix) (e : Entry) (place : ℕ) → Enters c u e later → device_at u.devices place ≡ None → NoLine e place (counted later)
enters_none c u later e place (Answers q called reply at whole given idle is) none =
    record { empty = call_none u later (with_process q u) q called reply place refl (device_change c (with_process q u) q called reply later is) none; asks = no_ask place e (counted later) (ap is_ask whole) }
enters_none c u later e place (Fails q called error at whole given idle may is) none = record { empty = same_none later u place (ap (λ (x : Unix). x.devices) is) none; asks = no_ask place e (counted later) (ap is_ask whole) }
enters_none c u later e place (Asks q called at device is_at ask given idle goes here is) none =
    let own : device.place ≡ at = device_place u.devices at device here in
    let mine : q.pid ≡ e.pid = ap (λ (p : Process). p.pid) is_at.whole ∙ found_pid u.processes e.pid is_at.before is_at.there in
    let r : Process = record q { asking = Some device.place } in
    let off : (device.place == place) ≡ false = ne_eqb device.place place (λ same. let two : Some device ≡ None = sym here ∙ ap (device_at u.devices) (sym own ∙ same) ∙ none in absurd (cc)) in
    record {
      empty = put_none later u (record device { asks = device.asks ++ record { pid = q.pid; number = q.calls + 1; call = called } ∷ [] }) place (ap (λ (x : Unix). x.devices) is) none;
      asks = ap (λ o. cond (is_ask e.part && is_inside place (asking_of o)) (ask_in e e.call) []) (asking_behind later _ e r mine is) ∙ ap (λ b. cond (is_ask e.part && b) (ask_in e e.call) []) off ∙ never (is_ask e.part);
    }
  where
    never : (b : Bool) → cond (b && false) (ask_in e e.call) [] ≡ []
    never true = refl
    never false = refl
enters_none c u later e place (entry.Fetches q called at device reply is_at done given busy here due is) none =
    record { empty = put_none later u (record device { answers = without_answer q.pid device.answers }) place (ap (λ (x : Unix). x.devices) is) none; asks = no_ask place e (counted later) (ap is_ask done) }
enters_none c u later e place (Dies p here alive killed idle dead none_called given is) none = record { empty = same_none later u place (ap (λ (x : Unix). x.devices) is) none; asks = no_ask place e (counted later) (ap is_ask dead) }

line_step : (c : Description) (u v : Unix) (e : Entry) (place : ℕ) → after c u e ≡ Some v → line_at u place ++ made_by place e v ≡ answered_by place u v ++ line_at v place
line_step c u v e place is = by (device_at u.devices place) refl
  where
    o : Rattle.unix_frames.proofs.EntryLaws.Opened c u e v
    o = opened c u v e is

    by : (found : Option Device) → device_at u.devices place ≡ found → line_of found ++ made_by place e v ≡ answered_of (in_hand_of found) (in_hand_of (device_at v.devices place)) ++ line_at v place
    by None none =
        let n = enters_none c u o.later e place o.enters none in
        ap (made_by place e) o.whole ∙ n.asks ∙ sym (ap (λ (x : Unix). line_at x place) o.whole ∙ n.empty.line)
    by (Some before) there =
        let g = enters_on c u o.later e place before o.enters there in
        let now : device_at v.devices place ≡ Some g.goes.device = ap (λ (x : Unix). device_at x.devices place) o.whole ∙ g.goes.there in
        ap (λ (x : Unix). line_of (Some before) ++ made_by place e x) o.whole ∙ g.line ∙ sym (ap (λ d. answered_of before.in_hand (in_hand_of d) ++ line_of d) now)

pub asks_come_in_order : AsksComeInOrder
asks_come_in_order c u v [] place is = append-nil (line_at u place) ∙ ap (λ (x : Unix). line_at x place) (some_is u v is)
asks_come_in_order c u v (e ∷ es) place is = by (after c u e) refl is (λ w so. asks_come_in_order c w v es place so)
  where
    by : (next : Option Unix) → after c u e ≡ next → state_from c next es ≡ Some v → ((w : Unix) → state_from c (Some w) es ≡ Some v → line_at w place ++ made_from c place (Some w) es ≡ answered_from c place (Some w) es ++ line_at v place) → line_at u place ++ then_made c place e next (made_from c place next es) ≡ then_answered c place u next (answered_from c place next es) ++ line_at v place
    by None stops is rest = absurd (let none : None ≡ Some v = sym (Rattle.unix_calls.proofs.HistoryLaws.none_goes_on c es) ∙ is in cc)
    by (Some w) goes is rest =
        sym (append_assoc (line_at u place) (made_by place e w) (made_from c place (Some w) es))
        ∙ ap (λ l. l ++ made_from c place (Some w) es) (line_step c u w e place goes)
        ∙ append_assoc (answered_by place u w) (line_at w place) (made_from c place (Some w) es)
        ∙ ap (λ l. answered_by place u w ++ l) (rest w is)
        ∙ sym (append_assoc (answered_by place u w) (answered_from c place (Some w) es) (line_at v place))
