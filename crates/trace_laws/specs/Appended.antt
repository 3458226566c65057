-- What holds of a trace, carried to the trace with more records at its end.
use Rattle.std.specs.Prelude.{◌≡◌, ℕ, ◌+◌, Bool, true, ◌&&◌, ◌||◌, List, [], ◌∷◌, ◌++◌, Option, Some}
use Rattle.unix_calls.specs.declared.Description.{Description}
use Rattle.unix_calls.specs.declared.Entry.{Entry}
use Rattle.unix_calls.specs.declared.Rec.{Rec}
use Rattle.unix_calls.specs.declared.state.Stream.{Stream}
use Rattle.unix_calls.specs.State.{Unix}
use Rattle.call_journal.specs.Past.{Past, past_from, past_of, seen_of, seen_from, each_from, each_record, some_from, count_from, some_then, since_from, since_last, opening_behind, folded_from}
use Rattle.call_journal.specs.Calls.{issued_call, or_else}
use Rattle.call_journal.specs.Formed.{next_is, issue_step, last_issue, is_written_well}
use Rattle.call_journal.specs.Once.{progress_step, progress_of}
use Rattle.call_journal.specs.Unreachable.{gave_up_from, has_cause, keeps_cause, unreachable_for_cause}
use Rattle.call_journal.specs.EntryPlaces.{stands_well, entries_stand_at_their_kernels}
use Rattle.call_journal.specs.CachedCalls.{is_cached_call_well, cached_calls_use_held_blocks}
use Rattle.call_journal.specs.Operations.{goes_out_well, operations_go_out_uncached}
use Rattle.call_journal.specs.Fetches.{fetches_well, fetches_are_of_absent_blocks}
use Rattle.call_journal.specs.PrefixBroadcasts.{broadcasts_well, prefixes_are_broadcast_until_learned}
use Rattle.call_journal.specs.Moves.{runs_well, processes_run_where_they_are}
use Rattle.call_journal.specs.WriteBacks.{writes_back_well, blocks_are_written_back_for_a_cause}
use Rattle.call_journal.specs.WorthPackets.{packets_well, expires_are_worth}
use Rattle.call_journal.specs.WorthBursts.{instructions_in, counts_well}
use Rattle.call_journal.specs.WorthKills.{heeds_kills}

-- behind more records stands what they lead to from where the first ones led
pub record PastsAppend : Type 0 where
  pub pasts : (c : Description) (past : Past) (before more : List Rec) → past_from c past (before ++ more) ≡ past_from c (past_from c past before) more
  pub traces : (c : Description) (before more : List Rec) → past_of c (before ++ more) ≡ past_from c (past_of c before) more
  pub seen : (c : Description) (before more : List Rec) → seen_of c (before ++ more) ≡ seen_of c before ++ seen_from c (past_of c before).unix more

-- a test of records sees these too, behind the records that stand behind one
abbrev pub with_more : List Rec → (Past → Rec → List Rec → Bool) → Past → Rec → List Rec → Bool
with_more more test past rec rest = test past rec (rest ++ more)

-- each of two parts meets a test, some of them does, and so many do: of the first part with the second behind it, of the second
-- from where the first led
pub record TestsAppend : Type 0 where
  pub each : (c : Description) (test : Past → Rec → List Rec → Bool) (past : Past) (before more : List Rec) → each_from c test past (before ++ more) ≡ (each_from c (with_more more test) past before && each_from c test (past_from c past before) more)
  pub some : (c : Description) (test : Past → Rec → List Rec → Bool) (past : Past) (before more : List Rec) → some_from c test past (before ++ more) ≡ (some_from c (with_more more test) past before || some_from c test (past_from c past before) more)
  pub count : (c : Description) (test : Past → Rec → List Rec → Bool) (past : Past) (before more : List Rec) → count_from c test past (before ++ more) ≡ count_from c (with_more more test) past before + count_from c test (past_from c past before) more

-- a test that is met stays so, whatever more stands behind
abbrev pub IsKeptBehind : (Past → Rec → List Rec → Bool) → Type 0
IsKeptBehind test = (past : Past) (rec : Rec) (rest more : List Rec) → test past rec rest ≡ true → test past rec (rest ++ more) ≡ true

-- a test sees one of the records behind at most, the next one
abbrev pub SeesTheNext : (Past → Rec → List Rec → Bool) → Type 0
SeesTheNext test = (past : Past) (rec next : Rec) (rest more : List Rec) → test past rec (next ∷ rest ++ more) ≡ test past rec (next ∷ rest)

-- a rule of a trace goes on to the trace with more records: exactly, where its test doesn't see the records behind one; from both
-- parts, where it stays met; and where it sees the next record alone, the last record of the first part sees the second part
pub record RulesGoOn : Type 0 where
  pub behind : (c : Description) (test : Past → Rec → Bool) (before more : List Rec) → each_record c (λ past rec rest. test past rec) (before ++ more) ≡ (each_record c (λ past rec rest. test past rec) before && each_from c (λ past rec rest. test past rec) (past_of c before) more)
  pub kept : (c : Description) (test : Past → Rec → List Rec → Bool) (before more : List Rec) → IsKeptBehind test → each_record c test before ≡ true → each_from c test (past_of c before) more ≡ true → each_record c test (before ++ more) ≡ true
  pub next : (c : Description) (test : Past → Rec → List Rec → Bool) (before : List Rec) (last : Rec) (more : List Rec) → SeesTheNext test → each_record c test (before ++ last ∷ more) ≡ (each_record c (with_more (last ∷ []) test) before && (test (past_of c before) last more && each_from c test (past_of c (before ++ last ∷ [])) more))
  pub joined : (c : Description) (test : Past → Rec → List Rec → Bool) (before : List Rec) (last : Rec) (more : List Rec) → SeesTheNext test → each_record c test (before ++ last ∷ []) ≡ true → test (past_of c before) last more ≡ true → each_from c test (past_of c (before ++ last ∷ [])) more ≡ true → each_record c test (before ++ last ∷ more) ≡ true

-- the rules that see no record behind one
pub record BackwardRulesGoOn : Type 0 where
  pub entries : (c : Description) (before more : List Rec) → entries_stand_at_their_kernels c (before ++ more) ≡ (entries_stand_at_their_kernels c before && each_from c (λ past rec rest. stands_well c past rec.kernel rec.event) (past_of c before) more)
  pub cached_calls : (c : Description) (before more : List Rec) → cached_calls_use_held_blocks c (before ++ more) ≡ (cached_calls_use_held_blocks c before && each_from c (λ past rec rest. is_cached_call_well c past rec.kernel rec.event) (past_of c before) more)
  pub operations : (c : Description) (before more : List Rec) → operations_go_out_uncached c (before ++ more) ≡ (operations_go_out_uncached c before && each_from c (λ past rec rest. goes_out_well past rec.kernel rec.event) (past_of c before) more)
  pub fetches : (c : Description) (before more : List Rec) → fetches_are_of_absent_blocks c (before ++ more) ≡ (fetches_are_of_absent_blocks c before && each_from c (λ past rec rest. fetches_well past rec.kernel rec.event) (past_of c before) more)
  pub broadcasts : (c : Description) (before more : List Rec) → prefixes_are_broadcast_until_learned c (before ++ more) ≡ (prefixes_are_broadcast_until_learned c before && each_from c (λ past rec rest. broadcasts_well past rec.kernel rec.event) (past_of c before) more)
  pub moves : (c : Description) (before more : List Rec) → processes_run_where_they_are c (before ++ more) ≡ (processes_run_where_they_are c before && each_from c (λ past rec rest. runs_well c past rec.kernel rec.event) (past_of c before) more)
  pub write_backs : (c : Description) (before more : List Rec) → blocks_are_written_back_for_a_cause c (before ++ more) ≡ (blocks_are_written_back_for_a_cause c before && each_from c (λ past rec rest. writes_back_well c past rec.kernel rec.event) (past_of c before) more)
  pub causes : (c : Description) (before more : List Rec) → unreachable_for_cause c (before ++ more) ≡ (unreachable_for_cause c before && each_from c (λ past rec rest. keeps_cause c past rec.kernel rec.event) (past_of c before) more)
  pub expires : (c : Description) (before more : List Rec) → expires_are_worth c (before ++ more) ≡ (expires_are_worth c before && each_from c (λ past rec rest. packets_well c past rec.kernel rec.event) (past_of c before) more)

-- of the rules that see the records behind one, two see the next record alone: how records are written, and how long bursts are; and
-- how kills are heeded stays so, whatever more stands behind
pub record ForwardRulesGoOn : Type 0 where
  pub written : (c : Description) → SeesTheNext (λ past rec rest. is_written_well c past rec.kernel rec.event rest)
  pub bursts : (c : Description) → SeesTheNext (λ past rec rest. counts_well c past rec.kernel rec.event rest)
  pub kills : (c : Description) → IsKeptBehind (λ past rec rest. heeds_kills c past rec.kernel rec.event rest)

-- what is told record by record of two parts is told of the second from what the first told
pub record LookBacksAppend : Type 0 where
  pub calls : (pid : ℕ) (before more : List Rec) → progress_of pid (before ++ more) ≡ folded_from (progress_step pid) before (progress_of pid before) more
  pub issues : (pid : ℕ) (before more : List Rec) → last_issue pid (before ++ more) ≡ folded_from (issue_step pid) before (last_issue pid before) more
  pub sinces : (test : Rec → Bool) (before more : List Rec) → since_last test (before ++ more) ≡ since_from test (since_last test before) more
  pub issued : (pid number : ℕ) (before more : List Rec) → issued_call pid number (before ++ more) ≡ or_else (issued_call pid number before) (issued_call pid number more)
  pub instructions : (pid : ℕ) (before more : List Rec) → instructions_in pid (before ++ more) ≡ instructions_in pid before + instructions_in pid more

-- what is looked for in the records behind one is found in the first part, with the second behind it, or in the second; what was
-- found next stays so, and a cause that was found is found in a longer trace
pub record LookAheadsAppend : Type 0 where
  pub some : (test : Rec → List Rec → Bool) (before more : List Rec) → some_then test (before ++ more) ≡ (some_then (λ rec rest. test rec (rest ++ more)) before || some_then test more)
  pub next : (test : Rec → Bool) (rest more : List Rec) → next_is test rest ≡ true → next_is test (rest ++ more) ≡ true
  pub opening : (c : Description) (u : Option Unix) (rest more : List Rec) (stream : Stream) → opening_behind c u rest ≡ Some stream → opening_behind c u (rest ++ more) ≡ Some stream
  pub gave_up : (kernel tx to : ℕ) (between rest more : List Rec) → gave_up_from kernel tx to between (rest ++ more) ≡ (gave_up_from kernel tx to between rest || gave_up_from kernel tx to (between ++ rest) more)
  pub causes : (c : Description) (past later : Past) (kernel : ℕ) (entry : Entry) (more : List Rec) → later.records ≡ past.records ++ more → has_cause c past kernel entry ≡ true → has_cause c later kernel entry ≡ true
