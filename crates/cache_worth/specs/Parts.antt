-- What makes the moves of blocks worth it, one part after the other.
use Rattle.std.specs.Prelude.{ℕ, Bool, true, not, List}
use Rattle.std.specs.List.{list_all}
use Rattle.unix_calls.specs.declared.description.Description.{Description}
use Rattle.unix_calls.specs.declared.event.SendKind.TheVariants as send
use Rattle.unix_calls.specs.declared.event.Event.{Event}
use Rattle.unix_calls.specs.declared.event.Event.TheVariants as event
use Rattle.unix_calls.specs.declared.event.Rec.{Rec}
use Rattle.call_journal.specs.Past.{Past, each_record}
use Rattle.call_journal.specs.WorthCaches.{takes_well, is_fetched_again, is_sent_anew, is_cleaned_well, is_moderate}

-- a block becomes clean only where it was sent to the server since it last did
abbrev pub cleans_well : Past → ℕ → Event → Bool
cleans_well past kernel (event.WroteBack file block) = is_cleaned_well past kernel file block
cleans_well past kernel _ = true

abbrev pub blocks_are_cleaned_once_sent : Description → List Rec → Bool
blocks_are_cleaned_once_sent c trace = each_record c (λ past rec rest. cleans_well past rec.kernel rec.event) trace

-- a block is sent to the server only where it was made dirty, or a stamp of its file was taken, since it last was
abbrev pub sends_back_well : Past → ℕ → Event → Bool
sends_back_well past kernel (event.Send tx to about (send.WriteBack file block)) = is_sent_anew past kernel file block
sends_back_well past kernel _ = true

abbrev pub blocks_are_sent_once_changed : Description → List Rec → Bool
blocks_are_sent_once_changed c trace = each_record c (λ past rec rest. sends_back_well past rec.kernel rec.event) trace

-- a block is fetched again only where it came in, or a stamp of its file was taken, since it last was
abbrev pub fetches_anew : Past → ℕ → Event → Bool
fetches_anew past kernel (event.Send tx to about (send.Fetch file block)) = not (is_fetched_again past kernel file block)
fetches_anew past kernel _ = true

abbrev pub blocks_are_fetched_anew : Description → List Rec → Bool
blocks_are_fetched_anew c trace = each_record c (λ past rec rest. fetches_anew past rec.kernel rec.event) trace

-- a stamp is taken that was given to the kernel, and is greater than those of the file that it took before
abbrev pub stamps_well : Past → ℕ → Event → Bool
stamps_well past kernel (event.Mode file stamp mode) = takes_well past kernel file stamp
stamps_well past kernel _ = true

abbrev pub stamps_are_taken_in_order : Description → List Rec → Bool
stamps_are_taken_in_order c trace = each_record c (λ past rec rest. stamps_well past rec.kernel rec.event) trace

-- at each kernel blocks are fetched, come in and are made dirty at most five times for each issue and each stamp that it took
abbrev pub blocks_move_moderately : List Rec → Bool
blocks_move_moderately trace = list_all (is_moderate trace) trace
