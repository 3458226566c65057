-- What a source in memory stands at.
use Rattle.std.specs.Prelude.{ℕ, List, length, min, drop}
use Rattle.sprite_bytes.specs.Calls.{with_pass, with_fault}
use Rattle.sprite_bytes.specs.declared.calls.Calls.{Calls}

-- the bytes that are left, how many of them one call gives at most, and the calls
pub record Feed : Type 0 where
  pub left : List ℕ
  pub piece : ℕ
  pub calls : Calls

-- how many bytes a call gives into a buffer of that length, where it doesn't fail
abbrev pub given_count : Feed → ℕ → ℕ
given_count feed room = min (min room feed.piece) (length feed.left)

-- the feed after a call that gave so many bytes
abbrev pub after_giving : Feed → ℕ → Feed
after_giving feed count = record feed { left = drop count feed.left; calls = with_pass feed.calls }

-- the feed after a call that failed
abbrev pub after_refusing : Feed → Feed
after_refusing feed = record feed { calls = with_fault feed.calls }
