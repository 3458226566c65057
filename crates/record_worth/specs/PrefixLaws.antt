-- What kernels have learned is told record by record.
use Rattle.std.proofs.Common.{◌≡◌, ℕ, not, List, refl, sym, ap}
use Rattle.unix_calls.specs.declared.description.Description.{Description}
use Rattle.unix_calls.specs.declared.event.Event.{Event}
use Rattle.unix_calls.specs.declared.event.Event.TheVariants as event
use Rattle.unix_calls.specs.declared.event.Rec.{Rec}
use Rattle.call_journal.specs.Past.{Past, past_with}
use Rattle.trace_rules.specs.declared.learned.Learned.{Learned}
use Rattle.trace_rules.specs.Learned.{LearnsOn, TellsLearned}
use Rattle.trace_rules.specs.LearnedLaws.{learns_more}
use Rattle.record_worth.specs.declared.prefixes.Prefixes.{Prefixes}
use Rattle.record_worth.specs.Parts.{learns_once}
use Rattle.record_worth.specs.Prefixes.{is_new_learned}

told_of : (learned : List Learned) (past : Past) (kernel : ℕ) (e : Event) → TellsLearned learned past.records → learns_once past kernel e ≡ is_new_learned learned kernel e
told_of learned past kernel (event.Learned prefix server) told = sym (ap not (told (record { kernel = kernel; prefix = prefix })))
told_of learned past kernel _ told = refl

-- a prefix is judged by those learned
pub learned_told : (c : Description) (judge : Prefixes) (past : Past) (rec : Rec) → TellsLearned judge.learned.keys past.records → learns_once past rec.kernel rec.event ≡ is_new_learned judge.learned.keys rec.kernel rec.event
learned_told c judge past rec told = told_of judge.learned.keys past rec.kernel rec.event told

-- one record more
pub learned_told_on : (c : Description) (old new : Prefixes) (past : Past) (rec : Rec) → TellsLearned old.learned.keys past.records → LearnsOn rec old.learned.keys new.learned.keys → TellsLearned new.learned.keys (past_with c rec past).records
learned_told_on c old new past rec told more = learns_more rec old.learned.keys new.learned.keys past.records told more
