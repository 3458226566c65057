-- Kills are heeded exactly where they are told and the killed are silent.
use Rattle.std.proofs.Common.{◌≡◌, ◌∙◌, ℕ, Bool, true, false, ◌&&◌, List, [], ◌∷◌, refl, sym, ap₂}
use Rattle.unix_calls.specs.declared.description.Description.{Description}
use Rattle.unix_calls.specs.declared.event.Event.{Event}
use Rattle.unix_calls.specs.declared.event.Event.TheVariants as event
use Rattle.unix_calls.specs.declared.event.Rec.{Rec}
use Rattle.call_journal.specs.Past.{Past, each_from, no_past, past_with}
use Rattle.call_journal.specs.WorthKills.{heeds_kills, kills_are_heeded, kills_well, killed_by}
use Rattle.kill_worth.specs.Told.{tells_well, kills_are_told}
use Rattle.kill_worth.specs.Known.{issues_well, killed_processes_are_silent}

with_none : (b : Bool) → b ≡ (b && true)
with_none true = refl
with_none false = refl

and_between : (a b c d : Bool) → ((a && b) && (c && d)) ≡ ((a && c) && (b && d))
and_between true true c d = refl
and_between true false true d = refl
and_between true false false d = refl
and_between false b c d = refl

splits : (c : Description) (past : Past) (kernel : ℕ) (e : Event) (rest : List Rec) → heeds_kills c past kernel e rest ≡ (tells_well past e rest && issues_well c past kernel e)
splits c past kernel (event.Enter entry) rest = with_none (kills_well past entry (killed_by entry.call entry.reply) rest)
splits c past kernel (event.Issue pid number call) rest = refl
splits c past kernel _ rest = refl

each_splits : (c : Description) (past : Past) (trace : List Rec) → each_from c (λ p rec rest. heeds_kills c p rec.kernel rec.event rest) past trace ≡ (each_from c (λ p rec rest. tells_well p rec.event rest) past trace && each_from c (λ p rec rest. issues_well c p rec.kernel rec.event) past trace)
each_splits c past [] = refl
each_splits c past (rec ∷ rest) =
    ap₂ (λ a b. a && b) (splits c past rec.kernel rec.event rest) (each_splits c (past_with c rec past) rest)
    ∙ and_between (tells_well past rec.event rest) (issues_well c past rec.kernel rec.event) (each_from c (λ p r behind. tells_well p r.event behind) (past_with c rec past) rest) (each_from c (λ p r behind. issues_well c p r.kernel r.event) (past_with c rec past) rest)

pub heeded_splits : (c : Description) (trace : List Rec) (told silent : Bool) → told ≡ kills_are_told c trace → silent ≡ killed_processes_are_silent c trace → (told && silent) ≡ kills_are_heeded c trace
heeded_splits c trace told silent t s = ap₂ (λ a b. a && b) t s ∙ sym (each_splits c (no_past c) trace)
