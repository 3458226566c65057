-- The call at which an image stands is within its limits.
use Rattle.std.proofs.Common.{◌≡◌, ℕ, zero, suc, ◌+◌, Bool, true, false, ◌||◌, List, Option, Some, None, length, IfSome, refl, ap, arith, slice_get, subst, sym, nat_lt, if◌then◌else◌, ltb-false}
use Rattle.sprite_ids.proofs.OnceLaws.{or_false}
use Rattle.sprite_ids.specs.declared.errno.Errno.TheVariants.{Invalid, BadName, BadAddress}
use Rattle.process_machine.specs.declared.arguments.Arguments.{Arguments}
use Rattle.process_machine.specs.declared.call.Call.{Call}
use Rattle.process_machine.specs.declared.instruction.Instruction.{Instruction}
use Rattle.process_machine.specs.declared.instruction.Instruction.TheVariants.{Sys}
use Rattle.process_machine.specs.declared.instruction.SyscallName.{SyscallName}
use Rattle.process_machine.specs.declared.instruction.SyscallName.TheVariants as name
use Rattle.process_machine.specs.declared.parts.PartKind.TheVariants.{Text, Data, Ask}
use Rattle.process_machine.specs.declared.program.Program.{Program}
use Rattle.process_machine.specs.Machine.{Machine}
use Rattle.process_machine.specs.Memory.{bytes_at}
use Rattle.process_machine.specs.Arguments.{arguments}
use Rattle.process_machine.specs.Parts.{is_too_long, too_long, is_misnamed, misnamed, leaves_pages, parts_of}
use Rattle.process_machine.specs.Calls.{named_call, unless_refused, call_with, call_in, call_at}
use Rattle.process_machine.specs.Steps.{Step, Moved, AtCall, AtBadStep, AtPage, step_of}
use Rattle.process_machine.specs.Runs.{at_next_call, call_there, call_of_next, next_call}
use Rattle.process_machine.specs.Limits.{IsData, IsAsk, IsText, IsWithinLimits}

-- as many bytes as were asked for
bytes_count : (pages : List (Option (List ℕ))) (address count : ℕ) → length (bytes_at pages address count) ≡ count
bytes_count pages address zero = refl
bytes_count pages address (suc count) = ap suc (bytes_count pages (address + 1) count)

room_within : (count : ℕ) → is_too_long Data count ≡ false → IsData count
room_within count short = ltb-false _ _ short

ask_within : (count : ℕ) → is_too_long Ask count ≡ false → IsAsk count
ask_within count short = ltb-false _ _ short

data_within : (pages : List (Option (List ℕ))) (address count : ℕ) → is_too_long Data count ≡ false → IsData (length (bytes_at pages address count))
data_within pages address count short = subst IsData (sym (bytes_count pages address count)) (room_within count short)

text_within : (pages : List (Option (List ℕ))) (address count : ℕ) → is_misnamed Text count ≡ false → IsText (length (bytes_at pages address count))
text_within pages address count good =
    let ends = or_false (nat_lt count 1) (nat_lt 255 count) good in
    subst IsText (sym (bytes_count pages address count)) (ltb-false _ _ ends.0, ltb-false _ _ ends.1)

-- a call with no part that is too long and no text that is misnamed
named_within : (n : SyscallName) (a : Arguments) (pages : List (Option (List ℕ))) → (too_long (parts_of n a).first ≡ false) × (too_long (parts_of n a).second ≡ false) → (misnamed (parts_of n a).first ≡ false) × (misnamed (parts_of n a).second ≡ false) → IsWithinLimits (named_call n a pages)
named_within name.Print a pages short good = data_within pages a.first a.second short.0
named_within name.Exit a pages short good = omega arith
named_within name.Host a pages short good = room_within a.second short.0
named_within name.Exec a pages short good = text_within pages a.first a.second good.0
named_within name.Open a pages short good = text_within pages a.first a.second good.0
named_within name.Read a pages short good = room_within a.third short.0
named_within name.Write a pages short good = data_within pages a.second a.third short.0
named_within name.Stat a pages short good = text_within pages a.first a.second good.0
named_within name.Mkdir a pages short good = text_within pages a.first a.second good.0
named_within name.Rmdir a pages short good = text_within pages a.first a.second good.0
named_within name.Unlink a pages short good = text_within pages a.first a.second good.0
named_within name.Rename a pages short good = (text_within pages a.first a.second good.0, text_within pages a.third a.fourth good.1)
named_within name.List a pages short good = (text_within pages a.first a.second good.0, room_within a.fourth short.1)
named_within name.Chdir a pages short good = text_within pages a.first a.second good.0
named_within name.Migrate a pages short good = text_within pages a.first a.second good.0
named_within name.PdMake a pages short good = text_within pages a.first a.second good.0
named_within name.PdGet a pages short good = ask_within a.third short.0
named_within name.PdPut a pages short good = data_within pages a.second a.third short.0
named_within name.Ioctl a pages short good = data_within pages a.third a.fourth short.0
named_within name.Rexec a pages short good = (text_within pages a.first a.second good.0, text_within pages a.third a.fourth good.1)
named_within _ a pages short good = tt

-- a call that is refused is, and any other is where its lengths and texts are lawful
unrefused_within : (long named away : Bool) (call : Call) → (long ≡ false → named ≡ false → IsWithinLimits call) → IsWithinLimits (unless_refused (if long then Some Invalid else if named then Some BadName else if away then Some BadAddress else None) call)
unrefused_within true named away call h = tt
unrefused_within false true away call h = tt
unrefused_within false false true call h = tt
unrefused_within false false false call h = h refl refl

with_within : (n : SyscallName) (a : Arguments) (pages : List (Option (List ℕ))) → IsWithinLimits (call_with n a pages)
with_within n a pages =
    let parts = parts_of n a in
    unrefused_within (too_long parts.first || too_long parts.second) (misnamed parts.first || misnamed parts.second) (leaves_pages pages parts.first || leaves_pages pages parts.second) (named_call n a pages)
    (λ short good. named_within n a pages (or_false _ _ short) (or_false _ _ good))

in_within : (i : Option Instruction) (m : Machine) → IsWithinLimits (call_in i m)
in_within None m = tt
in_within (Some (Sys n operands)) m = with_within n (arguments m operands) m.pages
in_within (Some _) m = tt

-- the call at which an image stands
pub call_within_limits : (p : Program) (m : Machine) → IsWithinLimits (call_at p m)
call_within_limits p m = in_within (slice_get p.code m.counter) m

-- or the bad step, by the step that is next
pub there_within_limits : (p : Program) (m : Machine) (s : Step) → IsWithinLimits (call_there p m s)
there_within_limits p m AtBadStep = tt
there_within_limits p m (Moved next) = call_within_limits p m
there_within_limits p m AtCall = call_within_limits p m
there_within_limits p m (AtPage k) = call_within_limits p m

next_within : (p : Program) (o : Option Machine) → IfSome (call_of_next p o) IsWithinLimits
next_within p None = tt
next_within p (Some m) = there_within_limits p m (step_of p m)

-- the first call of a run
pub next_within_limits : (p : Program) (m : Machine) → IfSome (next_call p m) IsWithinLimits
next_within_limits p m = next_within p (at_next_call p m)
