-- What the calls on a device come to, where the device is found.
use Rattle.std.proofs.Common.{◌≡◌, ℕ, Bool, true, false, cond, List, [], ◌∷◌, length, drop, Option, Some, None, is_some, sym, ap, subst, ◌∙◌, nat_lt, slice_get, slice_set}
use Rattle.std.specs.Prelude.{◌==◌}
use Rattle.std.specs.List.{position}
use Rattle.std.proofs.lemmas.Bool.{eqb-true}
use Rattle.std.proofs.lemmas.List.Quantifiers.{position-Some}
use Rattle.sprite_ids.specs.Lists.{changed}
use Rattle.sprite_ids.proofs.ListLaws.{some_is}
use Rattle.sprite_ids.proofs.OnceLaws.{get_is}
use Rattle.sprite_ids.specs.declared.errno.Errno.TheVariants as errno
use Rattle.process_machine.specs.declared.call.Reply.{Reply}
use Rattle.process_machine.specs.declared.call.Reply.TheVariants.{Value}
use Rattle.unix_calls.specs.declared.description.Description.{Description}
use Rattle.unix_calls.specs.declared.state.Ask.{Ask}
use Rattle.unix_calls.specs.declared.state.Device.{Device}
use Rattle.unix_calls.specs.declared.state.Process.{Process}
use Rattle.unix_calls.specs.declared.state.Object.{Object}
use Rattle.unix_calls.specs.declared.state.Object.TheVariants.{OfMaster}
use Rattle.unix_calls.specs.declared.state.Stream.{Stream}
use Rattle.unix_calls.specs.State.{Unix, device_at, stream_of, with_device, with_process}
use Rattle.unix_calls.specs.Answers.{Outcome, Answered, Waits, refuses, replies}
use Rattle.unix_calls.specs.DeviceCalls.{answer_of, asked_bytes, at_master, device_of, get_from, kind_of, put_to, puts, taken, takes_first, with_device_of}
use Rattle.unix_calls.specs.StreamCalls.{with_found}
use Rattle.unix_world.specs.declared.World.{World}
use Rattle.unix_run.specs.declared.came.Came.{Came}
use Rattle.unix_run.specs.declared.came.Came.TheVariants as came
use Rattle.unix_run.specs.Devices.{get_at, put_at}
use Rattle.unix_world.specs.Worlds.{unix_of}
use Rattle.unix_run.specs.Coming.{Comes}
use Rattle.unix_world.proofs.ChangeLaws.{changed_at}

-- an answered call
pub comes_answered : (c : Description) (call : Unix → Process → Outcome) (w : World) (p : Process) (reply : Reply) (is : Came) (after : World) (q : Process) → is ≡ came.Answered reply → ((ps : List Process) → call (unix_of c w ps) p ≡ Answered reply (with_process q (unix_of c after ps))) → q.pid ≡ p.pid → after.entries ≡ w.entries → Comes c call w p is after q
comes_answered c call w p reply is after q e h pid entries =
    subst (λ (i : Came). Comes c call w p i after q) (sym e) (record { tells = h; same = pid; stays = entries; keeps = tt })

-- ---- where a device stands

-- the device that stands at the position has the place
pub place_there : (place : ℕ) (devices : List Device) (i : ℕ) (d : Device) → position (λ (e : Device). e.place == place) devices ≡ Some i → slice_get devices i ≡ Some d → d.place ≡ place
place_there place devices i d found got =
    let passes = (position-Some (λ (e : Device). e.place == place) devices i d found).1 in
    eqb-true d.place place (ap (λ (e : Device). e.place == place) (get_is devices i d got) ∙ passes)

-- another device in its place, with the same place
pub put_device : (place : ℕ) (devices : List Device) (i : ℕ) (d new : Device) → position (λ (e : Device). e.place == place) devices ≡ Some i → slice_get devices i ≡ Some d → new.place ≡ place → slice_set devices i new ≡ with_device new devices
put_device place devices i d new found got is =
    changed_at (λ (e : Device). e.place == place) (λ (e : Device). new) devices i d found got
    ∙ ap (λ (n : ℕ). changed (λ (e : Device). e.place == n) (λ (e : Device). new) devices) (sym is)

-- ---- pd_get

pub get_busy : (c : Description) (u : Unix) (p : Process) (max place : ℕ) (d : Device) → device_at u.devices place ≡ Some d → is_some d.in_hand ≡ true → get_at c u p max place ≡ refuses c u p errno.Busy
get_busy c u p max place d found busy =
    ap (λ (o : Option Device). with_device_of c u p o (get_from c u p max)) found
    ∙ ap (λ (b : Bool). cond b (refuses c u p errno.Busy) (takes_first c u p max d d.asks)) busy

free_from : (c : Description) (u : Unix) (p : Process) (max place : ℕ) (d : Device) (asks : List Ask) → device_at u.devices place ≡ Some d → is_some d.in_hand ≡ false → d.asks ≡ asks → get_at c u p max place ≡ takes_first c u p max d asks
free_from c u p max place d asks found free is =
    ap (λ (o : Option Device). with_device_of c u p o (get_from c u p max)) found
    ∙ ap (λ (b : Bool). cond b (refuses c u p errno.Busy) (takes_first c u p max d d.asks)) free
    ∙ ap (takes_first c u p max d) is

pub get_waits : (c : Description) (u : Unix) (p : Process) (max place : ℕ) (d : Device) → device_at u.devices place ≡ Some d → is_some d.in_hand ≡ false → d.asks ≡ [] → get_at c u p max place ≡ Waits
get_waits c u p max place d found free none = free_from c u p max place d [] found free none

pub get_invalid : (c : Description) (u : Unix) (p : Process) (max place : ℕ) (d : Device) (ask : Ask) (asks : List Ask) → device_at u.devices place ≡ Some d → is_some d.in_hand ≡ false → d.asks ≡ ask ∷ asks → nat_lt max (length (asked_bytes ask.call)) ≡ true → get_at c u p max place ≡ refuses c u p errno.Invalid
get_invalid c u p max place d ask asks found free is long =
    free_from c u p max place d (ask ∷ asks) found free is
    ∙ ap (λ (b : Bool). cond b (refuses c u p errno.Invalid) (replies c (record u { devices = with_device (taken d ask asks) u.devices }) p (Value (kind_of ask.call) (length (asked_bytes ask.call)) (asked_bytes ask.call)))) long

pub get_takes : (c : Description) (u : Unix) (p : Process) (max place : ℕ) (d : Device) (ask : Ask) (asks : List Ask) → device_at u.devices place ≡ Some d → is_some d.in_hand ≡ false → d.asks ≡ ask ∷ asks → nat_lt max (length (asked_bytes ask.call)) ≡ false → get_at c u p max place ≡ replies c (record u { devices = with_device (taken d ask asks) u.devices }) p (Value (kind_of ask.call) (length (asked_bytes ask.call)) (asked_bytes ask.call))
get_takes c u p max place d ask asks found free is short =
    free_from c u p max place d (ask ∷ asks) found free is
    ∙ ap (λ (b : Bool). cond b (refuses c u p errno.Invalid) (replies c (record u { devices = with_device (taken d ask asks) u.devices }) p (Value (kind_of ask.call) (length (asked_bytes ask.call)) (asked_bytes ask.call)))) short

-- the first of a list
pub head_is : {X : Type 0} (xs : List X) (x : X) → slice_get xs 0 ≡ Some x → xs ≡ x ∷ drop 1 xs
head_is [] x e = cc
head_is (y ∷ ys) x e = ap (λ z. z ∷ ys) (some_is y x e)

-- ---- pd_put

pub put_free : (c : Description) (u : Unix) (p : Process) (bytes : List ℕ) (number place : ℕ) (d : Device) → device_at u.devices place ≡ Some d → d.in_hand ≡ None → put_at c u p bytes number place ≡ refuses c u p errno.Invalid
put_free c u p bytes number place d found free =
    ap (λ (o : Option Device). with_device_of c u p o (λ device. put_to c u p bytes number device device.in_hand)) found
    ∙ ap (put_to c u p bytes number d) free

pub put_held : (c : Description) (u : Unix) (p : Process) (bytes : List ℕ) (number place : ℕ) (d : Device) (ask : Ask) (reply : Option Reply) → device_at u.devices place ≡ Some d → d.in_hand ≡ Some ask → reply ≡ answer_of ask.call bytes number → put_at c u p bytes number place ≡ puts c u p d ask reply
put_held c u p bytes number place d ask reply found held is =
    ap (λ (o : Option Device). with_device_of c u p o (λ device. put_to c u p bytes number device device.in_hand)) found
    ∙ ap (put_to c u p bytes number d) held
    ∙ ap (puts c u p d ask) (sym is)

-- ---- master streams

-- a master stream whose device isn't there
pub no_master : (c : Description) (u : Unix) (p : Process) (fd place : ℕ) (s : Stream) (rest : Device → Outcome) → stream_of u p fd ≡ Some s → s.object ≡ OfMaster place → device_at u.devices place ≡ None → at_master c u p fd rest ≡ refuses c u p errno.BadMode
no_master c u p fd place s rest found is none =
    ap (λ (o : Option Stream). with_found c u p o (λ stream. with_device_of c u p (device_of u stream.object) rest)) found
    ∙ ap (λ (o : Object). with_device_of c u p (device_of u o) rest) is
    ∙ ap (λ (o : Option Device). with_device_of c u p o rest) none
