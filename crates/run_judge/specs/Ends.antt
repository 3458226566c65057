-- How a run that came to its end stands by the state of its journal.
use Rattle.std.specs.Prelude.{◌≡◌, ℕ, ◌+◌, ◌-◌, Bool, true, false, ◌&&◌, not, if◌then◌else◌, List, [], ◌∷◌}
use Rattle.std.specs.List.{list_all, list_any}
use Rattle.std.specs.Option.{is_some}
use Rattle.sprite_ids.specs.declared.running.Finish.{Finish}
use Rattle.sprite_ids.specs.declared.running.Finish.TheVariants as finish
use Rattle.unix_calls.specs.declared.description.Description.{Description}
use Rattle.unix_calls.specs.declared.state.Process.{Process}
use Rattle.unix_calls.specs.State.{Unix, lives}
use Rattle.unix_calls.specs.After.{blocked}
use Rattle.run_judge.specs.declared.halting.Halt.{Halt}
use Rattle.run_judge.specs.declared.halting.Halt.TheVariants as halt
use Rattle.run_judge.specs.declared.ending.Stop.{Stop}
use Rattle.run_judge.specs.declared.ending.Stop.TheVariants as stop
use Rattle.run_judge.specs.Halts.{halt_of}

-- a process that lives and isn't blocked
abbrev pub is_free : Description → Unix → Process → Bool
is_free c u p = lives p && not (blocked c u p)

-- behind a process that has ended or is blocked it is judged on
abbrev pub stop_on : (ℕ → Stop) → Halt → Stop
stop_on next (halt.Rests way) = next way
stop_on next halt.Free = stop.Free
stop_on next halt.Far = stop.Far

-- whether each of some processes has ended or is blocked, after so many instructions of `most`
abbrev pub stop_from : Description → ℕ → ℕ → Unix → List Process → Stop
stop_from c most cost u [] = stop.Good
stop_from c most cost u (p ∷ ps) = stop_on (λ way. stop_from c most (cost + way) u ps) (halt_of c (most - cost) u p)

abbrev pub stop_if : Bool → Stop
stop_if true = stop.Good
stop_if false = stop.Wrong

-- how a run stands that came to that end; one that hasn't come to an end stands wrong
abbrev pub end_of : Description → ℕ → Unix → Finish → Stop
end_of c most u finish.AllEnded = stop_if (not (list_any lives u.processes))
end_of c most u finish.Budget = stop_if (list_any lives u.processes)
end_of c most u finish.Stalled = if list_any lives u.processes then stop_from c most 0 u u.processes else stop.Wrong
end_of c most u _ = stop.Wrong

-- each process has ended, or one lives; where it stalled none is free; it has come to an end
abbrev pub EndsAs : Description → Unix → Finish → Type 0
EndsAs c u finish.AllEnded = list_all (λ (p : Process). is_some p.ending) u.processes ≡ true
EndsAs c u finish.Budget = list_any lives u.processes ≡ true
EndsAs c u finish.Stalled = (list_any lives u.processes ≡ true) × (list_any (is_free c u) u.processes ≡ false)
EndsAs c u _ = ⊥
