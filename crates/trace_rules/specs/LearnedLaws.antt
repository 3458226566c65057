-- What kernels have learned is told record by record.
use Rattle.std.proofs.Common.{◌≡◌, ◌∙◌, ℕ, true, cond, not, List, [], ◌∷◌, ◌++◌, refl, sym, ap}
use Rattle.unix_calls.specs.declared.description.Description.{Description}
use Rattle.unix_calls.specs.declared.event.SendKind.TheVariants as send
use Rattle.unix_calls.specs.declared.event.Event.{Event}
use Rattle.unix_calls.specs.declared.event.Event.TheVariants as event
use Rattle.unix_calls.specs.declared.event.Rec.{Rec}
use Rattle.call_journal.specs.Past.{Past, past_with}
use Rattle.call_journal.specs.Matching.{is_at}
use Rattle.call_journal.specs.PrefixBroadcasts.{is_learned, broadcasts_well}
use Rattle.trace_rules.specs.declared.broadcasts.Broadcasts.{Broadcasts}
use Rattle.trace_rules.specs.declared.learned.Learned.{Learned}
use Rattle.trace_rules.specs.Learned.{LearnsOn, TellsLearned, is_new_broadcast}
use Rattle.trace_rules.specs.Lists.{any_more}

told_of : (learned : List Learned) (past : Past) (kernel : ℕ) (e : Event) → TellsLearned learned past.records → broadcasts_well past kernel e ≡ is_new_broadcast learned kernel e
told_of learned past kernel (event.Send tx to about (send.Broadcast prefix)) told = sym (ap not (told (record { kernel = kernel; prefix = prefix })))
told_of learned past kernel (event.Send tx to about (send.Op file)) told = refl
told_of learned past kernel _ told = refl

-- a broadcast is judged by what was learned
pub learned_told : (c : Description) (judge : Broadcasts) (past : Past) (rec : Rec) → TellsLearned judge.learned.keys past.records → broadcasts_well past rec.kernel rec.event ≡ is_new_broadcast judge.learned.keys rec.kernel rec.event
learned_told c judge past rec told = told_of judge.learned.keys past rec.kernel rec.event told

-- one record more
pub learns_more : (rec : Rec) (before after : List Learned) (records : List Rec) → TellsLearned before records → LearnsOn rec before after → TellsLearned after (records ++ rec ∷ [])
learns_more rec before after records told more one =
    more one
    ∙ ap (λ b. cond (is_at one.kernel (is_learned one.prefix) rec) true b) (told one)
    ∙ sym (any_more (is_at one.kernel (is_learned one.prefix)) records rec)

pub learns_on : (c : Description) (old new : Broadcasts) (past : Past) (rec : Rec) → TellsLearned old.learned.keys past.records → LearnsOn rec old.learned.keys new.learned.keys → TellsLearned new.learned.keys (past_with c rec past).records
learns_on c old new past rec told more = learns_more rec old.learned.keys new.learned.keys past.records told more
