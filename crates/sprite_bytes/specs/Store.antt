-- What a sink in memory stands at.
use Rattle.std.specs.Prelude.{ℕ, Bool, List, ◌-◌, ◌++◌, ◌||◌, length, min, nat_le}
use Rattle.sprite_bytes.specs.Calls.{next_fails, with_pass, with_fault}
use Rattle.sprite_bytes.specs.declared.calls.Calls.{Calls}

-- the bytes that it holds, how many it has room for, how many one call takes at most, and the calls
pub record Store : Type 0 where
  pub held : List ℕ
  pub room : ℕ
  pub piece : ℕ
  pub calls : Calls

-- whether the next call fails: it is listed, or the room is full
abbrev pub next_refused : Store → Bool
next_refused store = next_fails store.calls || nat_le store.room (length store.held)

-- how many of so many bytes a call takes, where it doesn't fail
abbrev pub taken_count : Store → ℕ → ℕ
taken_count store count = min (min count store.piece) (store.room - length store.held)

-- the store after a call that took those bytes
abbrev pub after_taking : Store → List ℕ → Store
after_taking store bytes = record store { held = store.held ++ bytes; calls = with_pass store.calls }

-- the store after a call that failed
abbrev pub after_refusal : Store → Store
after_refusal store = record store { calls = with_fault store.calls }
