-- The faults that the link makes are few: what a trace's packets are worth says so of each fault.
use Rattle.std.specs.Prelude.{Bool, true, List}
use Rattle.unix_calls.specs.declared.description.Description.{Description}
use Rattle.unix_calls.specs.declared.event.Event.{Event}
use Rattle.unix_calls.specs.declared.event.Event.TheVariants as event
use Rattle.unix_calls.specs.declared.event.Rec.{Rec}
use Rattle.call_journal.specs.Past.{Past, each_record}
use Rattle.call_journal.specs.WorthPackets.{are_faults_few}

abbrev pub faults_well : Past → Event → Bool
faults_well past (event.Fault a b met) = are_faults_few past a b
faults_well past _ = true

-- no more faults between two kernels than packets before
abbrev pub faults_are_few : Description → List Rec → Bool
faults_are_few c trace = each_record c (λ past rec rest. faults_well past rec.event) trace
