-- A block is fetched only where the kernel doesn't hold it.
use Rattle.std.specs.Prelude.{ℕ, Bool, true, not, List}
use Rattle.unix_calls.specs.declared.description.Description.{Description}
use Rattle.unix_calls.specs.declared.event.SendKind.TheVariants as send
use Rattle.unix_calls.specs.declared.event.Event.{Event}
use Rattle.unix_calls.specs.declared.event.Event.TheVariants as event
use Rattle.unix_calls.specs.declared.event.Rec.{Rec}
use Rattle.call_journal.specs.Past.{Past, each_record}
use Rattle.call_journal.specs.Files.{holds_block}

abbrev pub fetches_well : Past → ℕ → Event → Bool
fetches_well past kernel (event.Send tx to about (send.Fetch file block)) = not (holds_block kernel file block past.records)
fetches_well past kernel _ = true

abbrev pub fetches_are_of_absent_blocks : Description → List Rec → Bool
fetches_are_of_absent_blocks c trace = each_record c (λ past rec rest. fetches_well past rec.kernel rec.event) trace
