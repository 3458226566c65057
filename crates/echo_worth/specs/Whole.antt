-- Packets are worth their units exactly where losses are met, faults are few, and tries end.
use Rattle.std.proofs.Common.{◌≡◌, ◌∙◌, ℕ, Bool, true, false, ◌&&◌, List, [], ◌∷◌, refl, sym, ap, ap₂}
use Rattle.unix_calls.specs.declared.description.Description.{Description}
use Rattle.unix_calls.specs.declared.event.Event.{Event}
use Rattle.unix_calls.specs.declared.event.Event.TheVariants as event
use Rattle.unix_calls.specs.declared.event.Rec.{Rec}
use Rattle.call_journal.specs.Past.{Past, each_from, no_past, past_with}
use Rattle.call_journal.specs.WorthPackets.{has_loss, packets_well, expires_are_worth}
use Rattle.packet_worth.specs.Faults.{faults_well, faults_are_few}
use Rattle.packet_worth.specs.Losses.{loss_well, losses_are_met}
use Rattle.echo_worth.specs.Parts.{ends_well_at, echo_well, tries_end}

and_between : (a b c d : Bool) → ((a && b) && (c && d)) ≡ ((a && c) && (b && d))
and_between true true c d = refl
and_between true false true d = refl
and_between true false false d = refl
and_between false b c d = refl

each_both : (c : Description) (p q : Past → Rec → Bool) (past : Past) (trace : List Rec) → each_from c (λ past r rest. p past r && q past r) past trace ≡ (each_from c (λ past r rest. p past r) past trace && each_from c (λ past r rest. q past r) past trace)
each_both c p q past [] = refl
each_both c p q past (rec ∷ rest) =
    ap (λ b. (p past rec && q past rec) && b) (each_both c p q (past_with c rec past) rest)
    ∙ and_between (p past rec) (q past rec) (each_from c (λ past r rest. p past r) (past_with c rec past) rest) (each_from c (λ past r rest. q past r) (past_with c rec past) rest)

each_same : (c : Description) (p q : Past → Rec → Bool) (past : Past) (trace : List Rec) → ((past : Past) (rec : Rec) → p past rec ≡ q past rec) → each_from c (λ past r rest. p past r) past trace ≡ each_from c (λ past r rest. q past r) past trace
each_same c p q past [] same = refl
each_same c p q past (rec ∷ rest) same = ap₂ (λ a b. a && b) (same past rec) (each_same c p q (past_with c rec past) rest same)

abbrev two_well : Past → ℕ → Event → Bool
two_well past kernel e = loss_well past kernel e && faults_well past e

between : (a b : Bool) → (a && b) ≡ ((a && true) && b)
between true b = refl
between false b = refl

with_true : (b : Bool) → b ≡ (b && true)
with_true true = refl
with_true false = refl

splits : (c : Description) (past : Past) (kernel : ℕ) (e : Event) → packets_well c past kernel e ≡ (two_well past kernel e && echo_well c past kernel e)
splits c past kernel (event.Expire tx last) = between (has_loss past kernel tx.0) (ends_well_at c past kernel tx.0 last)
splits c past kernel (event.Fault a b met) = with_true (faults_well past (event.Fault a b met))
splits c past kernel (event.Send tx to about kind) = refl
splits c past kernel _ = refl

-- what the parts say is what the whole says
pub worth_splits : (c : Description) (trace : List Rec) (losses faults tries : Bool) → losses ≡ losses_are_met c trace → faults ≡ faults_are_few c trace → tries ≡ tries_end c trace → ((losses && faults) && tries) ≡ expires_are_worth c trace
worth_splits c trace losses faults tries l f t =
    ap₂ (λ a b. a && b) (ap₂ (λ a b. a && b) l f) t
    ∙ sym (each_same c (λ past r. packets_well c past r.kernel r.event) (λ past r. two_well past r.kernel r.event && echo_well c past r.kernel r.event) (no_past c) trace (λ past r. splits c past r.kernel r.event)
    ∙ each_both c (λ past r. two_well past r.kernel r.event) (λ past r. echo_well c past r.kernel r.event) (no_past c) trace
    ∙ ap (λ b. b && tries_end c trace) (each_both c (λ past r. loss_well past r.kernel r.event) (λ past r. faults_well past r.event) (no_past c) trace))
