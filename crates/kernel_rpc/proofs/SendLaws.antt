-- One packet more is sent.
use Rattle.std.proofs.Common.{arith, ◌≡◌, ℕ, zero, suc, ◌+◌, ◌*◌, ◌<◌, List, [], ◌∷◌, ◌++◌, length, take, map, refl, sym, ap, subst, ◌∙◌, get_or, append_assoc, append-nil, add-one}
use Rattle.link_plan.specs.declared.Fate.{Fate}
use Rattle.link_plan.specs.Counts.{Asks, IsAsked}
use Rattle.kernel_rpc.specs.declared.call.PacketCopy.{PacketCopy}
use Rattle.kernel_rpc.specs.Copies.{copies_by, requests}

-- the copies of a packet with that number
abbrev copies_at : PacketCopy → ℕ × Fate → ℕ → List PacketCopy
copies_at packet last number = copies_by last.1 (record packet { number = record { 0 = number }; to = last.0 })

-- the copies of one packet more come last
pub requests_push : (packet : PacketCopy) (number : ℕ) (sent : List (ℕ × Fate)) (last : ℕ × Fate) → requests packet number (sent ++ last ∷ []) ≡ requests packet number sent ++ copies_by last.1 (record packet { number = record { 0 = number + 2 * length sent }; to = last.0 })
requests_push packet number [] last =
    let there : number ≡ number + 2 * 0 = omega arith in
    append-nil _ ∙ ap (copies_at packet last) there
requests_push packet number (first ∷ sent) last =
    let there : (number + 2) + 2 * length sent ≡ number + 2 * suc (length sent) = omega arith in
    ap (λ copies. copies_at packet first number ++ copies) (requests_push packet (number + 2) sent last) ∙ sym (append_assoc (copies_at packet first number) (requests packet (number + 2) sent) (copies_at packet last ((number + 2) + 2 * length sent))) ∙ ap (λ n. (copies_at packet first number ++ requests packet (number + 2) sent) ++ copies_at packet last n) there

-- the link was asked about one packet more
pub asks_push : {L : Type 0} (faults asked : L → ℕ → ℕ → ℕ) (from : ℕ) (before between after : L) (sent : List (ℕ × Fate)) (last : ℕ × Fate) → Asks faults asked from before between sent → IsAsked (faults between) (asked between) (faults after) (asked after) from last.0 last.1 → Asks faults asked from before after (sent ++ last ∷ [])
asks_push faults asked from before between after [] last start next = (after, subst (λ link. IsAsked (faults link) (asked link) (faults after) (asked after) from last.0 last.1) (sym start) next, refl)
asks_push faults asked from before between after (first ∷ sent) last start next = (start.0, start.1, asks_push faults asked from start.0 between after sent last start.2 next)

-- one item more is taken
pub map_more : {X Y : Type 0} (f : X → Y) (xs : List X) (i : ℕ) (d : X) → i < length xs → d ≡ get_or xs i d → map f (take (suc i) xs) ≡ map f (take i xs) ++ f d ∷ []
map_more f [] i d h is = absurd (omega arith)
map_more f (x ∷ xs) zero d h is = ap (λ y. f y ∷ []) (sym is)
map_more f (x ∷ xs) (suc i) d h is = ap (λ ys. f x ∷ ys) (map_more f xs i d (omega arith) is)

pub map_next : {X Y : Type 0} (f : X → Y) (xs : List X) (i : ℕ) (d : X) → i < length xs → d ≡ get_or xs i d → map f (take (i + 1) xs) ≡ map f (take i xs) ++ f d ∷ []
map_next f xs i d h is = rw add-one (map_more f xs i d h is)
