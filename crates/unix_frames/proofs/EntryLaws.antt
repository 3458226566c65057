-- An entry, opened: whose it is, what its call is, and what makes it one of the one-kernel Unix.
use Rattle.std.proofs.Common.{◌≡◌, ℕ, ◌+◌, Bool, true, false, ◌&&◌, not, cond, Option, Some, None, refl, sym, ap, ◌∙◌}
use Rattle.std.specs.Prelude.{◌==◌}
use Rattle.std.specs.Option.{option_map, option_and_then, is_some}
use Rattle.std.proofs.lemmas.Bool.{true≢false, eqb-true, not-true, and_parts}
use Rattle.sprite_ids.specs.declared.Errno.{Errno}
use Rattle.sprite_ids.specs.declared.Ending.TheVariants as ending
use Rattle.sprite_ids.proofs.ListLaws.{some_is}
use Rattle.process_machine.specs.declared.call.Call.{Call}
use Rattle.process_machine.specs.declared.call.Reply.{Reply}
use Rattle.process_machine.specs.declared.call.Reply.TheVariants.{Value, Error}
use Rattle.process_machine.specs.declared.program.Program.{Program}
use Rattle.process_machine.specs.Machine.{Machine}
use Rattle.process_machine.specs.Runs.{at_next_call, call_of_next}
use Rattle.unix_calls.specs.declared.Description.{Description}
use Rattle.unix_calls.specs.declared.Entry.{Entry}
use Rattle.unix_calls.specs.declared.entry.Part.{Part}
use Rattle.unix_calls.specs.declared.entry.Part.TheVariants as part
use Rattle.unix_calls.specs.declared.state.Device.{Device}
use Rattle.unix_calls.specs.declared.state.Process.{Process}
use Rattle.unix_calls.specs.State.{Unix, device_at, lives, no_descriptors, process_at, with_process}
use Rattle.unix_calls.specs.Answers.{Outcome, Answered, GoesTo, Waits, program_at, replied}
use Rattle.unix_calls.specs.DeviceCalls.{answer_for}
use Rattle.unix_calls.specs.Same.{same_call, same_reply}
use Rattle.unix_calls.specs.After.{after, after_ask, after_living, after_of, after_part, after_whole, answer_due, asked, at_image, at_program, counted, done_at, done_with, failed, fetched, is_death, is_death_part, may_fail, next_is, outcome, with_reply}
use Rattle.unix_calls.proofs.SameLaws.{call_is, reply_is}
use Rattle.unix_calls.specs.NameCalls.{refusal_if}

-- the entry's process lives, its next call has the entry's number and is the entry's, and q is it with its image at that call
pub record IsAt (c : Description) (u : Unix) (e : Entry) (q : Process) (called : Call) : Type 0 where
  pub before : Process
  pub program : Program
  pub image : Machine
  pub there : process_at u.processes e.pid ≡ Some before
  pub alive : lives before ≡ true
  pub number : e.number ≡ before.calls + 1
  pub program_is : program_at c.programs before.image.number ≡ Some program
  pub comes : at_next_call program before.image ≡ Some image
  pub call_is : call_of_next program (Some image) ≡ Some called
  pub claimed : e.call ≡ Some called
  pub whole : q ≡ record before { image = image }

-- a call that is answered as its row says, or fails for a fault or a kill; an ask; an ask's end; a death
pub data Enters (c : Description) (u : Unix) (e : Entry) (later : Unix) : Type 0 where
  Answers : (q : Process) (called : Call) (reply : Reply) → IsAt c u e q called → e.part ≡ part.Whole → e.reply ≡ Some reply → q.asking ≡ None → outcome c (with_process q u) q called ≡ Answered reply later → Enters c u e later
  Fails : (q : Process) (called : Call) (error : Errno) → IsAt c u e q called → e.part ≡ part.Whole → e.reply ≡ Some (Error error) → q.asking ≡ None → may_fail q called error ≡ true → later ≡ with_process (replied c q (Error error)) (with_process q u) → Enters c u e later
  Asks : (q : Process) (called : Call) (place : ℕ) (device : Device) → IsAt c u e q called → e.part ≡ part.Ask → e.reply ≡ None → q.asking ≡ None → outcome c (with_process q u) q called ≡ GoesTo place → device_at u.devices place ≡ Some device → later ≡ asked (with_process q u) q called device → Enters c u e later
  Fetches : (q : Process) (called : Call) (place : ℕ) (device : Device) (reply : Reply) → IsAt c u e q called → e.part ≡ part.Done → e.reply ≡ Some reply → q.asking ≡ Some place → device_at u.devices place ≡ Some device → answer_due (with_process q u) q device (answer_for q.pid device.answers) ≡ Some reply → later ≡ with_process (replied c q reply) (fetched (with_process q u) q device) → Enters c u e later
  Dies : (p : Process) → process_at u.processes e.pid ≡ Some p → lives p ≡ true → p.killed ≡ true → p.asking ≡ None → e.part ≡ part.Death → e.call ≡ None → e.reply ≡ None → later ≡ with_process (record p { descriptors = no_descriptors; ending = Some ending.Killed }) u → Enters c u e later

-- where there is a later state, the entry led to it
pub data Led (c : Description) (u : Unix) (e : Entry) : Option Unix → Type 0 where
  Nowhere : Led c u e None
  There : (later : Unix) → Enters c u e later → Led c u e (Some later)

led_if : (c : Description) (u : Unix) (e : Entry) (b : Bool) (x : Option Unix) → (b ≡ true → Led c u e x) → Led c u e (cond b x None)
led_if c u e true x h = h refl
led_if c u e false x h = Nowhere

led_failed : (c : Description) (u : Unix) (e : Entry) (q : Process) (called : Call) (reply : Reply) → IsAt c u e q called → e.part ≡ part.Whole → e.reply ≡ Some reply → q.asking ≡ None → Led c u e (failed c (with_process q u) q called reply)
led_failed c u e q called (Value first second bytes) at whole given idle = Nowhere
led_failed c u e q called (Error error) at whole given idle =
    led_if c u e (may_fail q called error) _ (λ may. There _ (Fails q called error at whole given idle may refl))

led_reply : (c : Description) (u : Unix) (e : Entry) (q : Process) (called : Call) (o : Outcome) (reply : Reply) → outcome c (with_process q u) q called ≡ o → IsAt c u e q called → e.part ≡ part.Whole → e.reply ≡ Some reply → q.asking ≡ None → Led c u e (with_reply c (with_process q u) q called o reply)
led_reply c u e q called (Answered due later) reply is at whole given idle = by (same_reply due reply) refl
  where
    by : (b : Bool) → same_reply due reply ≡ b → Led c u e (cond b (Some later) (failed c (with_process q u) q called reply))
    by true same = There later (Answers q called reply at whole given idle (is ∙ ap (λ r. Answered r later) (reply_is due reply same)))
    by false same = led_failed c u e q called reply at whole given idle
led_reply c u e q called (GoesTo place) reply is at whole given idle = led_failed c u e q called reply at whole given idle
led_reply c u e q called Waits reply is at whole given idle = led_failed c u e q called reply at whole given idle

pub none_there : {A : Type 0} (o : Option A) → is_some o ≡ false → o ≡ None
none_there None h = refl
none_there (Some x) h = absurd (true≢false h)

pub no_fact : (fact : Bool) (e : Errno) → refusal_if fact e ≡ None → fact ≡ false
no_fact true e h = absurd (cc)
no_fact false e h = refl

led_whole : (c : Description) (u : Unix) (e : Entry) (q : Process) (called : Call) (reply : Reply) → IsAt c u e q called → e.part ≡ part.Whole → e.reply ≡ Some reply → Led c u e (after_whole c (with_process q u) q called reply)
led_whole c u e q called reply at whole given = by (is_some q.asking) refl
  where
    by : (b : Bool) → is_some q.asking ≡ b → Led c u e (cond b None (with_reply c (with_process q u) q called (outcome c (with_process q u) q called) reply))
    by true busy = Nowhere
    by false idle = led_reply c u e q called (outcome c (with_process q u) q called) reply refl at whole given (none_there q.asking idle)

led_ask : (c : Description) (u : Unix) (e : Entry) (q : Process) (called : Call) (o : Outcome) → outcome c (with_process q u) q called ≡ o → IsAt c u e q called → e.part ≡ part.Ask → e.reply ≡ None → q.asking ≡ None → Led c u e (after_ask (with_process q u) q called o)
led_ask c u e q called (Answered reply later) is at ask given idle = Nowhere
led_ask c u e q called Waits is at ask given idle = Nowhere
led_ask c u e q called (GoesTo place) is at ask given idle = by (device_at u.devices place) refl
  where
    by : (found : Option Device) → device_at u.devices place ≡ found → Led c u e (option_map (asked (with_process q u) q called) found)
    by None there = Nowhere
    by (Some device) there = There (asked (with_process q u) q called device) (Asks q called place device at ask given idle is there refl)

led_done_with : (c : Description) (u : Unix) (e : Entry) (q : Process) (called : Call) (place : ℕ) (device : Device) (reply : Reply) (due : Option Reply) → answer_due (with_process q u) q device (answer_for q.pid device.answers) ≡ due → IsAt c u e q called → e.part ≡ part.Done → e.reply ≡ Some reply → q.asking ≡ Some place → device_at u.devices place ≡ Some device
    → Led c u e (done_with c (with_process q u) q device reply due)
led_done_with c u e q called place device reply None is at done given busy there = Nowhere
led_done_with c u e q called place device reply (Some due) is at done given busy there =
    led_if c u e (same_reply due reply) _
    (λ same. There (with_process (replied c q reply) (fetched (with_process q u) q device)) (Fetches q called place device reply at done given busy there (is ∙ ap Some (reply_is due reply same)) refl))

led_done_at : (c : Description) (u : Unix) (e : Entry) (q : Process) (called : Call) (reply : Reply) (place : ℕ) (found : Option Device) → device_at u.devices place ≡ found → IsAt c u e q called → e.part ≡ part.Done → e.reply ≡ Some reply → q.asking ≡ Some place
    → Led c u e (option_and_then (done_at c (with_process q u) q reply) found)
led_done_at c u e q called reply place None there at done given busy = Nowhere
led_done_at c u e q called reply place (Some device) there at done given busy =
    led_done_with c u e q called place device reply (answer_due (with_process q u) q device (answer_for q.pid device.answers)) refl at done given busy there

led_done : (c : Description) (u : Unix) (e : Entry) (q : Process) (called : Call) (reply : Reply) (asking : Option ℕ) → q.asking ≡ asking → IsAt c u e q called → e.part ≡ part.Done → e.reply ≡ Some reply
    → Led c u e (option_and_then (done_at c (with_process q u) q reply) (option_and_then (device_at u.devices) asking))
led_done c u e q called reply None busy at done given = Nowhere
led_done c u e q called reply (Some place) busy at done given = led_done_at c u e q called reply place (device_at u.devices place) refl at done given busy

led_part : (c : Description) (u : Unix) (e : Entry) (q : Process) (called : Call) (kind : Part) (reply : Option Reply) → e.part ≡ kind → e.reply ≡ reply → IsAt c u e q called → Led c u e (after_part c (with_process q u) q kind called reply)
led_part c u e q called part.Whole (Some reply) kind given at = led_whole c u e q called reply at kind given
led_part c u e q called part.Whole None kind given at = Nowhere
led_part c u e q called part.Done (Some reply) kind given at = led_done c u e q called reply q.asking refl at kind given
led_part c u e q called part.Done None kind given at = Nowhere
led_part c u e q called part.Ask None kind given at = by (is_some q.asking) refl
  where
    by : (b : Bool) → is_some q.asking ≡ b → Led c u e (cond b None (after_ask (with_process q u) q called (outcome c (with_process q u) q called)))
    by true busy = Nowhere
    by false idle = led_ask c u e q called (outcome c (with_process q u) q called) refl at kind given (none_there q.asking idle)
led_part c u e q called part.Ask (Some reply) kind given at = Nowhere
led_part c u e q called part.Death None kind given at = Nowhere
led_part c u e q called part.Death (Some reply) kind given at = Nowhere

-- the call at which the image stands is the entry's
led_next : (c : Description) (u : Unix) (e : Entry) (p : Process) (program : Program) (image : Machine) (claimed : Call) (found : Option Call) → call_of_next program (Some image) ≡ found → process_at u.processes e.pid ≡ Some p → lives p ≡ true → e.call ≡ Some claimed → e.number ≡ p.calls + 1
    → program_at c.programs p.image.number ≡ Some program → at_next_call program p.image ≡ Some image → Led c u e (next_is c (with_process (record p { image = image }) u) (record p { image = image }) e claimed found)
led_next c u e p program image claimed None stands there alive is number program_is comes = Nowhere
led_next c u e p program image claimed (Some called) stands there alive is number program_is comes =
    led_if c u e (same_call claimed called) _
    (λ same. led_part c u e (record p { image = image }) called e.part e.reply refl refl
    (record {
      before = p;
      program = program;
      image = image;
      there = there;
      alive = alive;
      number = number;
      program_is = program_is;
      comes = comes;
      call_is = stands;
      claimed = is ∙ ap Some (call_is claimed called same);
      whole = refl;
    }))

led_image : (c : Description) (u : Unix) (e : Entry) (p : Process) (program : Program) (claimed : Call) (found : Option Machine) → at_next_call program p.image ≡ found → process_at u.processes e.pid ≡ Some p → lives p ≡ true → e.call ≡ Some claimed → e.number ≡ p.calls + 1
    → program_at c.programs p.image.number ≡ Some program → Led c u e (at_image c u p e program claimed found)
led_image c u e p program claimed None comes there alive is number program_is = Nowhere
led_image c u e p program claimed (Some image) comes there alive is number program_is =
    led_next c u e p program image claimed (call_of_next program (Some image)) refl there alive is number program_is comes

led_program : (c : Description) (u : Unix) (e : Entry) (p : Process) (claimed : Call) (found : Option Program) → program_at c.programs p.image.number ≡ found → process_at u.processes e.pid ≡ Some p → lives p ≡ true → e.call ≡ Some claimed → e.number ≡ p.calls + 1 → Led c u e (at_program c u p e claimed found)
led_program c u e p claimed None program_is there alive is number = Nowhere
led_program c u e p claimed (Some program) program_is there alive is number =
    led_image c u e p program claimed (at_next_call program p.image) refl there alive is number program_is

-- a death
pub record IsDeath (kind : Part) (reply : Option Reply) : Type 0 where
  pub kind_is : kind ≡ part.Death
  pub reply_is : reply ≡ None

death_is : (kind : Part) (reply : Option Reply) → is_death_part kind reply ≡ true → IsDeath kind reply
death_is part.Death None h = record { kind_is = refl; reply_is = refl }
death_is part.Death (Some reply) h = absurd (true≢false (sym h))
death_is part.Whole reply h = absurd (true≢false (sym h))
death_is part.Ask reply h = absurd (true≢false (sym h))
death_is part.Done reply h = absurd (true≢false (sym h))

led_living : (c : Description) (u : Unix) (e : Entry) (p : Process) (claimed : Option Call) → process_at u.processes e.pid ≡ Some p → lives p ≡ true → e.call ≡ claimed → Led c u e (after_living c u p e claimed)
led_living c u e p None there alive is =
    led_if c u e (is_death e) _
    (λ dead. let d = death_is e.part e.reply dead in
    led_if c u e (p.killed && not (is_some p.asking)) _
    (λ may. There _ (Dies p there alive (and_parts p.killed (not (is_some p.asking)) may).0 (none_there p.asking (not-true (is_some p.asking) (and_parts p.killed (not (is_some p.asking)) may).1)) d.kind_is is d.reply_is refl)))
led_living c u e p (Some claimed) there alive is =
    led_if c u e (e.number == p.calls + 1) _
    (λ number. led_program c u e p claimed (program_at c.programs p.image.number) refl there alive is (eqb-true e.number (p.calls + 1) number))

led_of : (c : Description) (u : Unix) (e : Entry) (found : Option Process) → process_at u.processes e.pid ≡ found → Led c u e (after_of c u e found)
led_of c u e None there = Nowhere
led_of c u e (Some p) there = led_if c u e (lives p) _ (λ alive. led_living c u e p e.call there alive refl)

-- what an entry is, with the state to which it leads but for one entry more
pub record Opened (c : Description) (u : Unix) (e : Entry) (v : Unix) : Type 0 where
  pub later : Unix
  pub enters : Enters c u e later
  pub whole : v ≡ counted later

pub opened : (c : Description) (u v : Unix) (e : Entry) → after c u e ≡ Some v → Opened c u e v
opened c u v e is = by (after_of c u e (process_at u.processes e.pid)) (led_of c u e (process_at u.processes e.pid) refl) is
  where
    by : (o : Option Unix) → Led c u e o → option_map counted o ≡ Some v → Opened c u e v
    by None Nowhere h = absurd (cc)
    by (Some later) (There l enters) h = record { later = later; enters = enters; whole = sym (some_is (counted later) v h) }
