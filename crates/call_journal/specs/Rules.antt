-- The nine rules of a trace.
use Rattle.std.specs.Prelude.{List, IsTrue}
use Rattle.unix_calls.specs.declared.description.Description.{Description}
use Rattle.unix_calls.specs.declared.event.Rec.{Rec}
use Rattle.call_journal.specs.EntryPlaces.{entries_stand_at_their_kernels}
use Rattle.call_journal.specs.CachedCalls.{cached_calls_use_held_blocks}
use Rattle.call_journal.specs.Operations.{operations_go_out_uncached}
use Rattle.call_journal.specs.Fetches.{fetches_are_of_absent_blocks}
use Rattle.call_journal.specs.Drops.{blocks_are_dropped_for_a_cause}
use Rattle.call_journal.specs.Sharing.{caching_stops_only_for_sharing}
use Rattle.call_journal.specs.PrefixBroadcasts.{prefixes_are_broadcast_until_learned}
use Rattle.call_journal.specs.Moves.{processes_run_where_they_are}
use Rattle.call_journal.specs.WriteBacks.{blocks_are_written_back_for_a_cause}

-- the trace of a run of the described cluster keeps the rules
pub record KeepsRules (c : Description) (trace : List Rec) : Type 0 where
  pub entries : IsTrue (entries_stand_at_their_kernels c trace)
  pub cached_calls : IsTrue (cached_calls_use_held_blocks c trace)
  pub operations : IsTrue (operations_go_out_uncached c trace)
  pub fetches : IsTrue (fetches_are_of_absent_blocks c trace)
  pub drops : IsTrue (blocks_are_dropped_for_a_cause c trace)
  pub sharing : IsTrue (caching_stops_only_for_sharing c trace)
  pub broadcasts : IsTrue (prefixes_are_broadcast_until_learned c trace)
  pub moves : IsTrue (processes_run_where_they_are c trace)
  pub write_backs : IsTrue (blocks_are_written_back_for_a_cause c trace)
