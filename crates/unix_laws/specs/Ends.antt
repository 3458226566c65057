-- What the end of a process takes away, and what it leaves.
use Rattle.std.specs.Prelude.{◌≡◌, ◌≢◌, ◌≤◌, ◌==◌, ◌&&◌, ℕ, Bool, true, not, List, length, Some, None}
use Rattle.std.specs.List.{list_any}
use Rattle.std.specs.Option.{is_some}
use Rattle.sprite_ids.specs.declared.Ending.{Ending}
use Rattle.sprite_ids.specs.declared.Ending.TheVariants as ending
use Rattle.unix_calls.specs.declared.Description.{Description}
use Rattle.unix_calls.specs.declared.Entry.{Entry}
use Rattle.unix_calls.specs.declared.entry.Part.TheVariants as part
use Rattle.unix_calls.specs.declared.state.Process.{Process}
use Rattle.unix_calls.specs.State.{Unix, holds_master_of, is_alive, lives, no_descriptors, process_at}
use Rattle.unix_calls.specs.After.{after, state_of}
use Rattle.unix_calls.specs.Laws.{is_last}

-- whether a process of another number is a master of the device
abbrev pub is_other_master : Unix → ℕ → ℕ → Process → Bool
is_other_master u pid device p = not (p.pid == pid) && holds_master_of u.streams device p

-- an end takes away its process's descriptors, and with them the life of each device that had no other master; it leaves each other
-- process, all names, files, streams, counts of ticks, and what devices are asked
pub record EndsInFull (u v : Unix) (e : Entry) : Type 0 where
  pub before : Process
  pub after : Process
  pub how : Ending
  pub there : process_at u.processes e.pid ≡ Some before
  pub lived : lives before ≡ true
  pub idle : before.asking ≡ None
  pub now : process_at v.processes e.pid ≡ Some after
  pub whole : after ≡ record before { image = after.image; calls = after.calls; descriptors = no_descriptors; ending = Some how }
  pub others : (pid : ℕ) → pid ≢ e.pid → process_at v.processes pid ≡ process_at u.processes pid
  pub masters : (device : ℕ) → is_alive v device ≡ list_any (is_other_master u e.pid device) u.processes
  pub devices : v.devices ≡ u.devices
  pub names : v.nodes ≡ u.nodes
  pub files : v.files ≡ u.files
  pub streams : v.streams ≡ u.streams
  pub ticks : v.ticks ≡ u.ticks

-- each exit, bad step and death of a history, where at most 200 processes start
abbrev pub EndsTakeAway : Type 0
EndsTakeAway = (c : Description) (journal : List Entry) (u v : Unix) (e : Entry) → length c.starts ≤ 200 → state_of c journal ≡ Some u → after c u e ≡ Some v → is_last e ≡ true → EndsInFull u v e

-- a death: a kill of the process was pending, and it stands between two calls; it has no reply, and its image and its count of calls
-- stay
pub record DiesInFull (u v : Unix) (e : Entry) : Type 0 where
  pub ends : EndsInFull u v e
  pub killed : ends.before.killed ≡ true
  pub so : ends.after ≡ record ends.before { descriptors = no_descriptors; ending = Some ending.Killed }
  pub call : e.call ≡ None
  pub reply : e.reply ≡ None

abbrev pub DeathsTakeAway : Type 0
DeathsTakeAway = (c : Description) (journal : List Entry) (u v : Unix) (e : Entry) → length c.starts ≤ 200 → state_of c journal ≡ Some u → after c u e ≡ Some v → e.part ≡ part.Death → DiesInFull u v e

-- and whoever lives, has a kill pending and is in no ask may die, whatever its next call is
abbrev pub KilledMayDie : Type 0
KilledMayDie = (c : Description) (u : Unix) (p : Process) (pid number : ℕ) → process_at u.processes pid ≡ Some p → lives p ≡ true → p.killed ≡ true → p.asking ≡ None
    → is_some (after c u (record { pid = pid; number = number; part = part.Death; call = None; reply = None })) ≡ true
