-- What the records of a trace do to blocks.
use Rattle.std.specs.Prelude.{ℕ, Bool, true, false, ◌&&◌, not}
use Rattle.unix_calls.specs.declared.event.SendKind.TheVariants as send
use Rattle.unix_calls.specs.declared.event.Event.{Event}
use Rattle.unix_calls.specs.declared.event.Event.TheVariants as event
use Rattle.unix_calls.specs.declared.event.Rec.{Rec}
use Rattle.call_journal.specs.Matching.{is_at, is_fetch, is_write_back}
use Rattle.call_journal.specs.Drops.{is_filled}
use Rattle.call_journal.specs.WriteBacks.{is_dirtied}
use Rattle.call_journal.specs.WorthCaches.{is_mode_of, is_written}
use Rattle.trace_rules.specs.declared.place.BlockAt.{BlockAt}
use Rattle.cache_worth.specs.declared.since.Since.{Since}
use Rattle.cache_worth.specs.declared.since.Step.{Step}
use Rattle.cache_worth.specs.declared.since.Step.TheVariants as step
use Rattle.cache_worth.specs.Since.{has_begun, has_changed}

-- a block is cleaned, sent, fetched, made dirty, comes in; a stamp of its file is taken; none of these
abbrev pub cleaned_at : BlockAt → Rec → Bool
cleaned_at at = is_at at.kernel (is_written at.file at.block)

abbrev pub sent_at : BlockAt → Rec → Bool
sent_at at = is_at at.kernel (is_write_back at.file at.block)

abbrev pub fetched_at : BlockAt → Rec → Bool
fetched_at at = is_at at.kernel (is_fetch at.file at.block)

abbrev pub dirtied_at : BlockAt → Rec → Bool
dirtied_at at = is_at at.kernel (is_dirtied at.file at.block)

abbrev pub filled_at : BlockAt → Rec → Bool
filled_at at = is_at at.kernel (is_filled at.file at.block)

abbrev pub taken_at : BlockAt → Rec → Bool
taken_at at = is_at at.kernel (is_mode_of at.file)

abbrev pub never_at : BlockAt → Rec → Bool
never_at at rec = false

-- sent since it was cleaned
abbrev pub cleaned_step : ℕ → Event → Step
cleaned_step kernel (event.WroteBack file block) = step.Begins (record { kernel = kernel; file = file; block = block })
cleaned_step kernel (event.Send tx to about (send.WriteBack file block)) =
    step.Changes (record { kernel = kernel; file = file; block = block })
cleaned_step kernel _ = step.Rests

abbrev pub is_due_clean : Since → ℕ → Event → Bool
is_due_clean since kernel (event.WroteBack file block) = has_changed since (record { kernel = kernel; file = file; block = block })
is_due_clean since kernel _ = true

-- made dirty, or a stamp taken, since it was sent
abbrev pub sent_step : ℕ → Event → Step
sent_step kernel (event.Send tx to about (send.WriteBack file block)) =
    step.Begins (record { kernel = kernel; file = file; block = block })
sent_step kernel (event.Dirtied file block) = step.Changes (record { kernel = kernel; file = file; block = block })
sent_step kernel (event.Mode file stamp mode) = step.Takes (record { kernel = kernel; file = file })
sent_step kernel _ = step.Rests

abbrev pub is_due_send : Since → ℕ → Event → Bool
is_due_send since kernel (event.Send tx to about (send.WriteBack file block)) =
    has_changed since (record { kernel = kernel; file = file; block = block })
is_due_send since kernel _ = true

-- come in, or a stamp taken, since it was fetched
abbrev pub fetched_step : ℕ → Event → Step
fetched_step kernel (event.Send tx to about (send.Fetch file block)) =
    step.Begins (record { kernel = kernel; file = file; block = block })
fetched_step kernel (event.Filled file block) = step.Changes (record { kernel = kernel; file = file; block = block })
fetched_step kernel (event.Mode file stamp mode) = step.Takes (record { kernel = kernel; file = file })
fetched_step kernel _ = step.Rests

abbrev pub is_fresh : Since → BlockAt → Bool
is_fresh since at = not (has_begun since at && not (has_changed since at))

abbrev pub is_due_fetch : Since → ℕ → Event → Bool
is_due_fetch since kernel (event.Send tx to about (send.Fetch file block)) =
    is_fresh since (record { kernel = kernel; file = file; block = block })
is_due_fetch since kernel _ = true
