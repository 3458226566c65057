-- Parts of the calls on names that code has functions of their own for.
use Rattle.std.specs.Prelude.{ℕ, ◌&&◌, not, List, length, nat_lt, if◌then◌else◌, Option}
use Rattle.std.specs.Option.{is_some}
use Rattle.sprite_ids.specs.declared.errno.Errno.{Errno}
use Rattle.sprite_ids.specs.declared.errno.Errno.TheVariants as errno
use Rattle.process_machine.specs.declared.call.Reply.TheVariants.{Value}
use Rattle.unix_calls.specs.declared.description.Description.{Description}
use Rattle.unix_calls.specs.declared.state.Named.{Named}
use Rattle.unix_calls.specs.declared.state.Process.{Process}
use Rattle.unix_calls.specs.Tree.{above, first_of, is_full, node_at, same_path, walk}
use Rattle.unix_calls.specs.State.{Unix}
use Rattle.unix_calls.specs.Answers.{Outcome, replies, refuses}
use Rattle.unix_calls.specs.NameCalls.{listing, refusal_if}

-- why the new path isn't free for what stands at the old one
abbrev pub place_refusal : List Named → List (List ℕ) → List (List ℕ) → Option Errno
place_refusal nodes old new =
    first_of (walk nodes new) (first_of
    (refusal_if (is_some (node_at nodes new)) errno.Exists)
    (refusal_if (not (same_path (above old) (above new)) && is_full nodes (above new)) errno.TooMany))

-- the names in a directory are listed, where they fit
abbrev pub lists : Description → Unix → Process → List (List ℕ) → ℕ → Outcome
lists c u p path max =
    if nat_lt max (length (listing u path))
    then refuses c u p errno.Invalid
    else replies c u p (Value (length (listing u path)) 0 (listing u path))
