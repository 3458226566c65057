-- An operation on a file goes to its server only where the kernel doesn't cache the file, or the stream is shared.
use Rattle.std.specs.Prelude.{ℕ, Bool, true, ◌||◌, List, Option, Some, None}
use Rattle.std.specs.Option.{option_and_then}
use Rattle.sprite_ids.specs.declared.names.FileId.{FileId}
use Rattle.unix_calls.specs.declared.description.Description.{Description}
use Rattle.unix_calls.specs.declared.event.About.{About}
use Rattle.unix_calls.specs.declared.event.SendKind.TheVariants as send
use Rattle.unix_calls.specs.declared.event.Event.{Event}
use Rattle.unix_calls.specs.declared.event.Event.TheVariants as event
use Rattle.unix_calls.specs.declared.event.Rec.{Rec}
use Rattle.call_journal.specs.Past.{Past, Tie, holds, tied, each_record}
use Rattle.call_journal.specs.Matching.{is_off}
use Rattle.call_journal.specs.Files.{mode_of}
use Rattle.call_journal.specs.Calls.{descriptor_of, issued_call}
use Rattle.call_journal.specs.EntryPlaces.{is_shared}

-- the stream of a call that was issued
abbrev pub stream_of_call : Past → Option About → Option Tie
stream_of_call past None = None
stream_of_call past (Some about) =
    option_and_then (tied past about.pid) (option_and_then descriptor_of (issued_call about.pid about.number past.records))

abbrev pub may_go_out : Past → ℕ → FileId → Option About → Bool
may_go_out past kernel file about =
    is_off (mode_of kernel file past.records) || holds (is_shared past) (stream_of_call past about)

abbrev pub goes_out_well : Past → ℕ → Event → Bool
goes_out_well past kernel (event.Send tx to about (send.Op file)) = may_go_out past kernel file about
goes_out_well past kernel _ = true

-- each does
abbrev pub operations_go_out_uncached : Description → List Rec → Bool
operations_go_out_uncached c trace = each_record c (λ past rec rest. goes_out_well past rec.kernel rec.event) trace
