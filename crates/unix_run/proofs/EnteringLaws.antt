-- Asks, and their ends.
use Rattle.std.proofs.Common.{◌≡◌, ◌+◌, ℕ, Bool, true, false, cond, not, List, [], ◌∷◌, ◌++◌, Option, Some, None, is_some, refl, sym, ap, ap₂, subst, ◌∙◌}
use Rattle.std.specs.Prelude.{◌==◌, ◌&&◌}
use Rattle.std.specs.Option.{option_map}
use Rattle.sprite_ids.specs.declared.errno.Errno.TheVariants as errno
use Rattle.process_machine.specs.declared.call.Call.{Call}
use Rattle.process_machine.specs.declared.call.Reply.{Reply}
use Rattle.process_machine.specs.declared.call.Reply.TheVariants.{Error}
use Rattle.unix_calls.specs.declared.description.Description.{Description}
use Rattle.unix_calls.specs.declared.state.Device.{Device}
use Rattle.unix_calls.specs.declared.state.Process.{Process}
use Rattle.unix_calls.specs.State.{Unix, device_at}
use Rattle.unix_calls.specs.Answers.{replied, replies}
use Rattle.unix_calls.specs.DeviceCalls.{answer_for}
use Rattle.unix_calls.specs.Same.{same_reply}
use Rattle.unix_calls.specs.After.{asked, done_with, fetched, state_in}
use Rattle.unix_run.specs.Entering.{asks_at, done_in, due_from, ends_ask, is_due}

-- ---- asks

pub no_ask : (place : ℕ) (call : Call) (u : Unix) (p : Process) → device_at u.devices place ≡ None → asks_at place call u p ≡ None
no_ask place call u p none = ap (option_map (asked u p call)) none

pub an_ask : (place : ℕ) (call : Call) (u : Unix) (p : Process) (d : Device) → device_at u.devices place ≡ Some d → asks_at place call u p ≡ Some (asked u p call d)
an_ask place call u p d found = ap (option_map (asked u p call)) found

-- ---- their ends

pub no_end : (c : Description) (place : ℕ) (alive : Bool) (reply : Reply) (u : Unix) (p : Process) → device_at u.devices place ≡ None → ends_ask c place alive reply u p ≡ None
no_end c place alive reply u p none = ap (done_in c alive reply u p) none

due_by : (c : Description) (alive : Bool) (reply : Reply) (u : Unix) (p : Process) (d : Device) (left : Option Reply) → done_with c u p d reply (due_from alive left) ≡ cond (is_due alive reply left) (state_in (replies c (fetched u p d) p reply)) None
due_by c alive reply u p d (Some due) = refl
due_by c true reply u p d None = refl
due_by c false reply u p d None = refl

pub an_end : (c : Description) (place : ℕ) (alive : Bool) (reply : Reply) (u : Unix) (p : Process) (d : Device) (b : Bool) → device_at u.devices place ≡ Some d → b ≡ is_due alive reply (answer_for p.pid d.answers) → ends_ask c place alive reply u p ≡ cond b (state_in (replies c (fetched u p d) p reply)) None
an_end c place alive reply u p d b found due =
    ap (done_in c alive reply u p) found
    ∙ due_by c alive reply u p d (answer_for p.pid d.answers)
    ∙ ap (λ (x : Bool). cond x (state_in (replies c (fetched u p d) p reply)) None) (sym due)
