-- Caches move blocks for a cause: stamps are taken in order, and blocks are fetched, made dirty and written back in turn.
use Rattle.std.specs.Prelude.{ℕ, ◌*◌, ◌==◌, Bool, true, false, ◌&&◌, ◌||◌, not, if◌then◌else◌, List, nat_le, nat_lt, count_by}
use Rattle.std.specs.List.{list_any, list_all}
use Rattle.sprite_ids.specs.declared.names.FileId.{FileId}
use Rattle.sprite_ids.specs.declared.names.BlockNo.{BlockNo}
use Rattle.unix_calls.specs.declared.description.Description.{Description}
use Rattle.unix_calls.specs.declared.event.SendKind.TheVariants as send
use Rattle.unix_calls.specs.declared.event.Event.{Event}
use Rattle.unix_calls.specs.declared.event.Event.TheVariants as event
use Rattle.unix_calls.specs.declared.event.Rec.{Rec}
use Rattle.call_journal.specs.Past.{Past, each_record, since_last}
use Rattle.call_journal.specs.Matching.{same_file, is_at, has_event, is_any_issue, is_any_fetch, is_fetch, is_write_back}
use Rattle.call_journal.specs.Drops.{is_filled, is_given}
use Rattle.call_journal.specs.WriteBacks.{is_dirtied}

-- the kernel took a stamp of the file, and any stamp
abbrev pub is_mode_of : FileId → Event → Bool
is_mode_of file (event.Mode f stamp mode) = same_file f file
is_mode_of file _ = false

abbrev pub is_any_mode : Event → Bool
is_any_mode (event.Mode f stamp mode) = true
is_any_mode _ = false

-- an earlier stamp of the file at the kernel is less
abbrev pub took_less : ℕ → FileId → ℕ → ℕ → Event → Bool
took_less kernel file stamp at (event.Mode f s mode) = if at == kernel && same_file f file then nat_lt s stamp else true
took_less kernel file stamp at _ = true

-- a stamp is taken that was given to the kernel, and is greater than those that it took before
abbrev pub takes_well : Past → ℕ → FileId → ℕ → Bool
takes_well past kernel file stamp =
    list_all (λ (r : Rec). took_less kernel file stamp r.kernel r.event) past.records
    && list_any (has_event (is_given kernel file stamp)) past.records

-- a block came in, or the kernel took a stamp of its file
abbrev pub is_renewed : FileId → BlockNo → Event → Bool
is_renewed file block event = is_filled file block event || is_mode_of file event

-- it was fetched before, and neither happened since
abbrev pub is_fetched_again : Past → ℕ → FileId → BlockNo → Bool
is_fetched_again past kernel file block =
    list_any (is_at kernel (is_fetch file block)) past.records
    && not (list_any (is_at kernel (is_renewed file block)) (since_last (is_at kernel (is_fetch file block)) past.records))

-- a block was made dirty, or the kernel took a stamp of its file
abbrev pub is_changed : FileId → BlockNo → Event → Bool
is_changed file block event = is_dirtied file block event || is_mode_of file event

-- since it was sent to the server last
abbrev pub is_sent_anew : Past → ℕ → FileId → BlockNo → Bool
is_sent_anew past kernel file block =
    list_any (is_at kernel (is_changed file block)) (since_last (is_at kernel (is_write_back file block)) past.records)

-- a dirty block became clean
abbrev pub is_written : FileId → BlockNo → Event → Bool
is_written file block (event.WroteBack f b) = same_file f file && b.0 == block.0
is_written file block _ = false

-- it was sent since it last did
abbrev pub is_cleaned_well : Past → ℕ → FileId → BlockNo → Bool
is_cleaned_well past kernel file block =
    list_any (is_at kernel (is_write_back file block)) (since_last (is_at kernel (is_written file block)) past.records)

abbrev pub caches_well : Past → ℕ → Event → Bool
caches_well past kernel (event.Mode file stamp mode) = takes_well past kernel file stamp
caches_well past kernel (event.Send tx to about (send.Fetch file block)) = not (is_fetched_again past kernel file block)
caches_well past kernel (event.Send tx to about (send.WriteBack file block)) = is_sent_anew past kernel file block
caches_well past kernel (event.WroteBack file block) = is_cleaned_well past kernel file block
caches_well past kernel _ = true

-- any block came in, or was made dirty
abbrev pub is_any_filled : Event → Bool
is_any_filled (event.Filled f b) = true
is_any_filled _ = false

abbrev pub is_any_dirtied : Event → Bool
is_any_dirtied (event.Dirtied f b) = true
is_any_dirtied _ = false

-- at a kernel such records are at most five for each issue and each stamp that it took there
abbrev pub is_motive : Event → Bool
is_motive event = is_any_issue event || is_any_mode event

abbrev pub are_few_at : ℕ → (Event → Bool) → List Rec → Bool
are_few_at kernel test trace = nat_le (count_by (is_at kernel test) trace) (5 * count_by (is_at kernel is_motive) trace)

abbrev pub is_moderate : List Rec → Rec → Bool
is_moderate trace rec =
    are_few_at rec.kernel is_any_fetch trace && are_few_at rec.kernel is_any_filled trace
    && are_few_at rec.kernel is_any_dirtied trace

abbrev pub caches_are_worth : Description → List Rec → Bool
caches_are_worth c trace =
    each_record c (λ past rec rest. caches_well past rec.kernel rec.event) trace && list_all (is_moderate trace) trace
