-- A device from its making on, whatever is done with it and whatever else enters.
use Rattle.std.proofs.Common.{◌≡◌, ℕ, true, List, [], ◌∷◌, ◌++◌, Option, Some, None, refl, sym, ap, subst, ◌∙◌, inl, inr}
use Rattle.std.specs.Option.{is_some}
use Rattle.std.proofs.lemmas.Bool.{true≢false}
use Rattle.process_machine.specs.declared.call.Reply.{Reply}
use Rattle.pseudo_device.specs.Device.{Asks}
use Rattle.unix_calls.specs.declared.Description.{Description}
use Rattle.unix_calls.specs.declared.state.Answer.{Answer}
use Rattle.unix_calls.specs.declared.state.Ask.{Ask as UnixAsk}
use Rattle.unix_calls.specs.declared.state.Device.{Device}
use Rattle.unix_calls.specs.State.{Unix, device_at}
use Rattle.unix_calls.specs.After.{after, state_from}
use Rattle.unix_laws.specs.Asks as line
use Rattle.unix_frames.proofs.EntryLaws.{opened}
use Rattle.unix_laws.proofs.DeviceLaws.{enters_none}
use Rattle.device_laws.specs.Devices.{AreAsks, AreInHand, Goes, TellsTheSame, done_entry}
use Rattle.device_laws.specs.Runs.{Act, Asked, DevicesRunAsOne, Ended, Entered, IsTold, Left, MayAct, MayActs, NewDevicesAreTold, Took, WasBusy, WasInvalid, WasLong, asks_behind, entries_of, entry_of}
use Rattle.device_laws.proofs.DeviceLaws.{asks_as_one, ends_as_one, gets_as_one, puts_as_one}

record Acted (c : Description) (u : Unix) (place : ℕ) (asks : Asks) (act : Act) : Type 0 where
  next : Unix
  entered : after c u (entry_of act) ≡ Some next
  told : IsTold next place (asks_behind asks act)

by_goes : (c : Description) (u : Unix) (place : ℕ) (asks : Asks) (act : Act) (answers : List Answer) → Goes c u (entry_of act) place (asks_behind asks act) answers → Acted c u place asks act
by_goes c u place asks act answers g = record { next = g.later; entered = g.entered; told = record { device = g.device; there = g.there; same = g.same } }

acted : (c : Description) (u : Unix) (place : ℕ) (asks : Asks) (act : Act) → IsTold u place asks → MayAct c place asks u act → Acted c u place asks act
acted c u place asks (Asked pid number called ask) t m =
    by_goes c u place asks (Asked pid number called ask) t.device.answers (asks_as_one c u pid number called place t.device asks ask m.calls m.can t.there t.same m.form m.pid_is m.number_is)
acted c u place asks (Took pid number fd max ask after) t m =
    by_goes c u place asks (Took pid number fd max ask after) t.device.answers ((gets_as_one c u pid number fd max place t.device asks m.0.calls m.0.masters t.there t.same).taken after ask m.1.0 m.1.1)
acted c u place asks (WasBusy pid number fd max) t m =
    by_goes c u place asks (WasBusy pid number fd max) t.device.answers ((gets_as_one c u pid number fd max place t.device asks m.0.calls m.0.masters t.there t.same).busy m.1)
acted c u place asks (WasLong pid number fd max) t m =
    by_goes c u place asks (WasLong pid number fd max) t.device.answers ((gets_as_one c u pid number fd max place t.device asks m.0.calls m.0.masters t.there t.same).long m.1)
acted c u place asks (Left pid number fd bytes error code ask) t m =
    by_goes c u place asks (Left pid number fd bytes error code ask) _ ((puts_as_one c u pid number fd bytes error code place t.device asks m.0.calls m.1.0 m.0.masters t.there t.same).left ask m.1.1.0 m.1.1.1)
acted c u place asks (WasInvalid pid number fd bytes error code) t m =
    by_goes c u place asks (WasInvalid pid number fd bytes error code) t.device.answers ((puts_as_one c u pid number fd bytes error code place t.device asks m.0.calls m.1.0 m.0.masters t.there t.same).refused m.1.1)
acted c u place asks (Ended pid number called reply) t m =
    let ends = ends_as_one c u pid number called place t.device asks m.0 t.there t.same in
    elim (m.1 t.device t.there) [
      | inl left ↦ by_goes c u place asks (Ended pid number called reply) _ (ends.answered reply left)
      | inr none ↦
          by_goes c u place asks (Ended pid number called reply) (Rattle.unix_calls.specs.DeviceCalls.without_answer pid t.device.answers)
          (subst (λ (r : Reply). Goes c u (done_entry pid number called r) place asks (Rattle.unix_calls.specs.DeviceCalls.without_answer pid t.device.answers)) (sym none.1.1) (ends.dead none.0 none.1.0))
    ]
acted c u place asks (Entered e) t m = by (after c u e) refl m.0
  where
    by : (next : Option Unix) → after c u e ≡ next → is_some next ≡ true → Acted c u place asks (Entered e)
    by None is some = absurd (true≢false (sym some))
    by (Some v) is some = record { next = v; entered = is; told = record { device = t.device; there = m.1 v is ∙ t.there; same = t.same } }

pub devices_run_as_one : DevicesRunAsOne
devices_run_as_one c u place asks [] t may = record { later = u; entered = refl; same = t }
devices_run_as_one c u place asks (act ∷ acts) t may =
    let a = acted c u place asks act t may.0 in
    let rest = devices_run_as_one c a.next place (asks_behind asks act) acts a.told (subst (λ o. MayActs c place (asks_behind asks act) o acts) a.entered may.1) in
    record { later = rest.later; entered = ap (λ o. state_from c o (entries_of acts)) a.entered ∙ rest.entered; same = rest.same }

-- ---- a new device

-- a device with these parts
empty_parts : (device : Device) (held : Option UnixAsk) (asks : List UnixAsk) → device.in_hand ≡ held → device.asks ≡ asks → line.hand held ++ asks ≡ [] → TellsTheSame (record { in_hand = None; waiting = []; masters = 1 }) device
empty_parts device None [] one two none = record { in_hand = subst (AreInHand None) (sym one) tt; waiting = subst (AreAsks []) (sym two) tt }
empty_parts device None (ask ∷ asks) one two none = absurd (cc)
empty_parts device (Some ask) asks one two none = absurd (cc)

pub new_devices_are_told : NewDevicesAreTold
new_devices_are_told c u v e place device is none there =
    let o = opened c u v e is in
    let n = (enters_none c u o.later e place o.enters none).empty in
    empty_parts device device.in_hand device.asks refl refl (ap line.line_of (sym (sym (ap (λ (x : Unix). device_at x.devices place) o.whole) ∙ there)) ∙ n.line)
