-- The counts of a trace, as they are printed.
use Rattle.std.specs.Prelude.{codes, ℕ, List, [], ◌∷◌, ◌++◌}
use Rattle.std.specs.Fmt.{decimal}
use Rattle.unix_calls.specs.declared.Rec.{Rec}
use Rattle.call_journal.specs.Units.{count_of, units_of}
use Rattle.report_print.specs.declared.counting.Count.{Count}
use Rattle.report_print.specs.declared.counting.Count.TheVariants as counts

-- the name of a count
unfoldable pub name_of : Count → List ℕ
name_of counts.Burst = codes "Burst"
name_of counts.Issue = codes "Issue"
name_of counts.Enter = codes "Enter"
name_of counts.Return = codes "Return"
name_of counts.Send = codes "Send"
name_of counts.Fault = codes "Fault"
name_of counts.Deliver = codes "Deliver"
name_of counts.Expire = codes "Expire"
name_of counts.Grant = codes "Grant"
name_of counts.Callback = codes "Callback"
name_of counts.Mode = codes "Mode"
name_of counts.Filled = codes "Filled"
name_of counts.Dropped = codes "Dropped"
name_of counts.Dirtied = codes "Dirtied"
name_of counts.WroteBack = codes "WroteBack"
name_of counts.Opened = codes "Opened"
name_of counts.Closed = codes "Closed"
name_of counts.Shared = codes "Shared"
name_of counts.Learned = codes "Learned"
name_of counts.Freeze = codes "Freeze"
name_of counts.Thaw = codes "Thaw"
name_of counts.Units = codes "units"

-- the line of a count: its name and its number
unfoldable pub stat_line : Count → ℕ → List ℕ
stat_line which number = codes "stat " ++ name_of which ++ 32 ∷ decimal number ++ 10 ∷ []

-- what processes and packets did, by the counts of the first eight kinds
abbrev pub call_stats : (ℕ → ℕ) → List ℕ
call_stats count =
    stat_line counts.Burst (count 0) ++ stat_line counts.Issue (count 1) ++ stat_line counts.Enter (count 2) ++ stat_line counts.Return (count 3)
    ++ stat_line counts.Send (count 4) ++ stat_line counts.Fault (count 5) ++ stat_line counts.Deliver (count 6) ++ stat_line counts.Expire (count 7)

-- what servers granted and clients heard of it, by those of the next three
abbrev pub grant_stats : (ℕ → ℕ) → List ℕ
grant_stats count = stat_line counts.Grant (count 8) ++ stat_line counts.Callback (count 9) ++ stat_line counts.Mode (count 10)

-- what became of cached blocks, by those of the next four
abbrev pub block_stats : (ℕ → ℕ) → List ℕ
block_stats count = stat_line counts.Filled (count 11) ++ stat_line counts.Dropped (count 12) ++ stat_line counts.Dirtied (count 13) ++ stat_line counts.WroteBack (count 14)

-- and what of streams, prefixes and moving processes, by those of the last six
abbrev pub place_stats : (ℕ → ℕ) → List ℕ
place_stats count =
    stat_line counts.Opened (count 15) ++ stat_line counts.Closed (count 16) ++ stat_line counts.Shared (count 17) ++ stat_line counts.Learned (count 18)
    ++ stat_line counts.Freeze (count 19) ++ stat_line counts.Thaw (count 20)

-- a line for each of the twenty-one kinds of records, and one for the units
abbrev pub stats_by : (ℕ → ℕ) → ℕ → List ℕ
stats_by count units = call_stats count ++ grant_stats count ++ block_stats count ++ place_stats count ++ stat_line counts.Units units

-- those of a trace
abbrev pub stats_of : List Rec → List ℕ
stats_of trace = stats_by (λ kind. count_of kind trace) (units_of trace)
