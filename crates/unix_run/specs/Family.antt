-- Parts of the calls on other processes that code has functions of their own for.
use Rattle.std.specs.Prelude.{◌≡◌, ℕ, ◌==◌, Bool, true, ◌&&◌, if◌then◌else◌, List, Some, slice_get, slice_set}
use Rattle.std.specs.Option.{is_some}
use Rattle.unix_calls.specs.declared.state.Process.{Process}
use Rattle.unix_calls.specs.ProcessCalls.{is_unwaited}

-- whether a process is an unwaited child of that one, and has ended
abbrev pub is_ended_child : ℕ → Process → Bool
is_ended_child pid child = is_unwaited pid child && is_some child.ending

-- the child that stands there was waited for, where it isn't the caller, which stands at `at`
abbrev pub IsMarked : ℕ → ℕ → List Process → List Process → Type 0
IsMarked child at ps qs = (p : Process) → slice_get ps child ≡ Some p → qs ≡ (if child == at then ps else slice_set ps child (record p { waited = true }))
