-- Records of faults can be left out of what a place of a trace looks back on.
use Rattle.std.specs.Prelude.{◌≡◌, Bool, true, false, ◌&&◌, not, List, [], ◌∷◌, ◌++◌, filter}
use Rattle.unix_calls.specs.declared.Description.{Description}
use Rattle.unix_calls.specs.declared.Event.{Event}
use Rattle.unix_calls.specs.declared.Event.TheVariants as event
use Rattle.unix_calls.specs.declared.Rec.{Rec}
use Rattle.call_journal.specs.Past.{Past, Seen, holds, last_event, past_from, past_of}
use Rattle.call_journal.specs.Formed.{formed}
use Rattle.call_journal.specs.Matching.{is_entry}

-- what a link did to a packet
abbrev pub is_any_fault : Event → Bool
is_any_fault (event.Fault from to met) = true
is_any_fault _ = false

abbrev pub is_any_opened : Event → Bool
is_any_opened (event.Opened file stream kernel mode) = true
is_any_opened _ = false

-- some records without those of faults
abbrev pub without_fault_records : List Rec → List Rec
without_fault_records records = filter (λ (rec : Rec). not (is_any_fault rec.event)) records

abbrev pub without_seen_faults : List Seen → List Seen
without_seen_faults seen = filter (λ (one : Seen). not (is_any_fault one.rec.event)) seen

-- what is behind a place, with the records of faults left out
abbrev pub without_faults_behind : Past → Past
without_faults_behind past = record past { records = without_fault_records past.records; seen = without_seen_faults past.seen }

-- no fault stands directly before an entry where an Opened would stand there without it
abbrev pub keeps_its_opened : List Rec → Event → Bool
keeps_its_opened before (event.Enter entry) =
    not (holds is_any_fault (last_event before) && holds is_any_opened (last_event (without_fault_records before)))
keeps_its_opened before _ = true

-- so it is at each of some records, behind others: no fault stands between an Opened and its entry
abbrev pub faults_stand_apart_from : List Rec → List Rec → Bool
faults_stand_apart_from before [] = true
faults_stand_apart_from before (rec ∷ rest) = keeps_its_opened before rec.event && faults_stand_apart_from (before ++ rec ∷ []) rest

abbrev pub faults_stand_apart : List Rec → Bool
faults_stand_apart trace = faults_stand_apart_from [] trace

-- where no fault stands between an Opened and its entry, a trace without its faults leads to what the trace leads to: the same state of
-- the one-kernel Unix, places of processes, ties and devices, and the records and what they made without those of faults
abbrev pub FaultsCanBeLeftOut : Type 0
FaultsCanBeLeftOut = (c : Description) (trace : List Rec) → faults_stand_apart trace ≡ true → past_of c (without_fault_records trace) ≡ without_faults_behind (past_of c trace)

-- also behind a place: some records more are added to a past without faults as to one with them
abbrev pub FaultsCanBeLeftOutBehind : Type 0
FaultsCanBeLeftOutBehind = (c : Description) (past : Past) (more : List Rec) → faults_stand_apart_from past.records more ≡ true → past_from c (without_faults_behind past) (without_fault_records more) ≡ without_faults_behind (past_from c past more)

-- of a trace that is formed well they can be left out, wherever they stand
abbrev pub FormedWithoutFaults : Type 0
FormedWithoutFaults = (c : Description) (trace : List Rec) → formed c trace ≡ true → past_of c (without_fault_records trace) ≡ without_faults_behind (past_of c trace)

-- whether faults stand apart in a trace with more records at its end, is told by its two parts
abbrev pub FaultsStandApartOn : Type 0
FaultsStandApartOn = (before more : List Rec) → faults_stand_apart (before ++ more) ≡ (faults_stand_apart before && faults_stand_apart_from before more)

-- what stands before some records has no say in it, where the first of them is neither a fault nor an entry, as that of a kernel's step
abbrev pub StepsStandApart : Type 0
StepsStandApart = (before : List Rec) (first : Rec) (rest : List Rec) → is_any_fault first.event ≡ false → is_entry first.event ≡ false → faults_stand_apart_from before (first ∷ rest) ≡ faults_stand_apart (first ∷ rest)
