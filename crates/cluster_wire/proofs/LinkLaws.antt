-- What the link is asked, one thing after another.
use Rattle.std.proofs.Common.{◌≡◌, ℕ, List, [], ◌∷◌, ◌++◌, refl, sym, subst}
use Rattle.link_plan.specs.declared.Fate.{Fate}
use Rattle.link_plan.specs.Counts.{Asks, IsAsked}
use Rattle.cluster_wire.specs.Links.{AskedMore}

-- the link was asked about some packets, and then about some more
pub asks_on : {L : Type 0} (faults asked : L → ℕ → ℕ → ℕ) (kernel : ℕ) (before between after : L) (xs ys : List (ℕ × Fate)) → Asks faults asked kernel before between xs → Asks faults asked kernel between after ys → Asks faults asked kernel before after (xs ++ ys)
asks_on faults asked kernel before between after [] ys start next = subst (λ link. Asks faults asked kernel link after ys) (sym start) next
asks_on faults asked kernel before between after (x ∷ xs) ys start next = (start.0, start.1, asks_on faults asked kernel start.0 between after xs ys start.2 next)

-- packets that came to a list are behind those for which it was asked before
pub asks_more : {L : Type 0} (faults asked : L → ℕ → ℕ → ℕ) (kernel : ℕ) (before between after : L) (old new : List (ℕ × Fate)) → Asks faults asked kernel before between old → AskedMore faults asked kernel between after old new → Asks faults asked kernel before after new
asks_more faults asked kernel before between after old new start next = subst (Asks faults asked kernel before after) (sym next.grown) (asks_on faults asked kernel before between after old next.more start next.asks)

-- one packet came to it
pub one_more : {L : Type 0} (faults asked : L → ℕ → ℕ → ℕ) (kernel : ℕ) (before after : L) (old new : List (ℕ × Fate)) (to : ℕ) (fate : Fate) → IsAsked (faults before) (asked before) (faults after) (asked after) kernel to fate → new ≡ old ++ (to, fate) ∷ [] → AskedMore faults asked kernel before after old new
one_more faults asked kernel before after old new to fate is grown = record { more = (to, fate) ∷ []; grown = grown; asks = (after, is, refl) }
