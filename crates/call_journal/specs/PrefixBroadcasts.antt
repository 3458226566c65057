-- A prefix is asked for only until the kernel knows its server (Welch and Ousterhout 1986).
use Rattle.std.specs.Prelude.{ℕ, Bool, true, false, not, List}
use Rattle.std.specs.List.{list_any}
use Rattle.unix_calls.specs.declared.description.Description.{Description}
use Rattle.unix_calls.specs.declared.event.SendKind.TheVariants as send
use Rattle.unix_calls.specs.declared.event.Event.{Event}
use Rattle.unix_calls.specs.declared.event.Event.TheVariants as event
use Rattle.unix_calls.specs.declared.event.Rec.{Rec}
use Rattle.unix_calls.specs.Tree.{same_path}
use Rattle.call_journal.specs.Past.{Past, each_record}
use Rattle.call_journal.specs.Matching.{is_at}

-- the kernel learned that prefix
abbrev pub is_learned : List (List ℕ) → Event → Bool
is_learned prefix (event.Learned p server) = same_path p prefix
is_learned prefix _ = false

abbrev pub has_learned : ℕ → List (List ℕ) → List Rec → Bool
has_learned kernel prefix records = list_any (is_at kernel (is_learned prefix)) records

abbrev pub broadcasts_well : Past → ℕ → Event → Bool
broadcasts_well past kernel (event.Send tx to about (send.Broadcast prefix)) = not (has_learned kernel prefix past.records)
broadcasts_well past kernel _ = true

abbrev pub prefixes_are_broadcast_until_learned : Description → List Rec → Bool
prefixes_are_broadcast_until_learned c trace = each_record c (λ past rec rest. broadcasts_well past rec.kernel rec.event) trace
