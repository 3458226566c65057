-- Caches are worth their moves exactly where each part says so.
use Rattle.std.proofs.Common.{◌≡◌, ◌∙◌, ℕ, Bool, true, false, ◌&&◌, List, refl, sym, ap, ap₂}
use Rattle.unix_calls.specs.declared.description.Description.{Description}
use Rattle.unix_calls.specs.declared.event.SendKind.TheVariants as send
use Rattle.unix_calls.specs.declared.event.Event.{Event}
use Rattle.unix_calls.specs.declared.event.Event.TheVariants as event
use Rattle.unix_calls.specs.declared.event.Rec.{Rec}
use Rattle.call_journal.specs.Past.{Past, each_from, no_past}
use Rattle.call_journal.specs.WorthCaches.{caches_well, caches_are_worth}
use Rattle.trace_rules.specs.EachLaws.{each_both, each_same}
use Rattle.cache_worth.specs.Parts.{cleans_well, sends_back_well, fetches_anew, stamps_well, blocks_are_cleaned_once_sent, blocks_are_sent_once_changed, blocks_are_fetched_anew, stamps_are_taken_in_order, blocks_move_moderately}

-- three things of each record that are so where it is of another kind
with_none : (b : Bool) → b ≡ (b && true)
with_none true = refl
with_none false = refl

with_two : (b : Bool) → b ≡ ((b && true) && true)
with_two true = refl
with_two false = refl

with_three : (b : Bool) → b ≡ (((b && true) && true) && true)
with_three true = refl
with_three false = refl

-- a record is of one of the four kinds, or of none
abbrev two_well : Past → ℕ → Event → Bool
two_well past kernel e = stamps_well past kernel e && fetches_anew past kernel e

abbrev three_well : Past → ℕ → Event → Bool
three_well past kernel e = two_well past kernel e && sends_back_well past kernel e

splits : (past : Past) (kernel : ℕ) (e : Event) → caches_well past kernel e ≡ (three_well past kernel e && cleans_well past kernel e)
splits past kernel (event.Mode f s m) = with_three (stamps_well past kernel (event.Mode f s m))
splits past kernel (event.WroteBack f b) = refl
splits past kernel (event.Send tx to about (send.Fetch f b)) = with_two (fetches_anew past kernel (event.Send tx to about (send.Fetch f b)))
splits past kernel (event.Send tx to about (send.WriteBack f b)) = with_none (sends_back_well past kernel (event.Send tx to about (send.WriteBack f b)))
splits past kernel (event.Send tx to about (send.Op f)) = refl
splits past kernel _ = refl

each_splits : (c : Description) (trace : List Rec) → each_from c (λ past r rest. caches_well past r.kernel r.event) (no_past c) trace ≡ (((stamps_are_taken_in_order c trace && blocks_are_fetched_anew c trace) && blocks_are_sent_once_changed c trace) && blocks_are_cleaned_once_sent c trace)
each_splits c trace =
    each_same c (λ past r. caches_well past r.kernel r.event) (λ past r. three_well past r.kernel r.event && cleans_well past r.kernel r.event) (no_past c) trace (λ past r. splits past r.kernel r.event)
    ∙ each_both c (λ past r. three_well past r.kernel r.event) (λ past r. cleans_well past r.kernel r.event) (no_past c) trace
    ∙ ap (λ b. b && blocks_are_cleaned_once_sent c trace) (each_both c (λ past r. two_well past r.kernel r.event) (λ past r. sends_back_well past r.kernel r.event) (no_past c) trace
    ∙ ap (λ b. b && blocks_are_sent_once_changed c trace) (each_both c (λ past r. stamps_well past r.kernel r.event) (λ past r. fetches_anew past r.kernel r.event) (no_past c) trace))

-- what the parts say is what the whole says
pub worth_splits : (c : Description) (trace : List Rec) (taken fetched sent cleaned moderate : Bool) → taken ≡ stamps_are_taken_in_order c trace → fetched ≡ blocks_are_fetched_anew c trace → sent ≡ blocks_are_sent_once_changed c trace → cleaned ≡ blocks_are_cleaned_once_sent c trace → moderate ≡ blocks_move_moderately trace → ((((taken && fetched) && sent) && cleaned) && moderate) ≡ caches_are_worth c trace
worth_splits c trace taken fetched sent cleaned moderate t f s k m =
    ap₂ (λ a b. a && b) (ap₂ (λ a b. a && b) (ap₂ (λ a b. a && b) (ap₂ (λ a b. a && b) t f) s) k ∙ sym (each_splits c trace)) m
