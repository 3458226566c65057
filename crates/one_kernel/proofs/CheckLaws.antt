-- What a check of one entry more comes to.
use Rattle.std.proofs.Common.{◌≡◌, ◌≤◌, ◌<◌, ◌+◌, ◌-◌, ℕ, Bool, cond, List, ◌∷◌, Option, Some, None, refl, ap, ◌∙◌, nat_lt, arith}
use Rattle.std.proofs.lemmas.Bool.{le-ltb, lt-ltb}
use Rattle.unix_calls.specs.declared.description.Description.{Description}
use Rattle.unix_calls.specs.declared.entry.Entry.{Entry}
use Rattle.unix_calls.specs.declared.state.Process.{Process}
use Rattle.unix_calls.specs.State.{Unix}
use Rattle.unix_calls.specs.After.{after}
use Rattle.unix_world.specs.declared.World.{World}
use Rattle.unix_world.specs.Worlds.{unix_of}
use Rattle.one_kernel.specs.declared.applying.Applied.TheVariants as applied
use Rattle.one_kernel.specs.declared.verdict.Verdict.TheVariants as verdict
use Rattle.one_kernel.specs.Applied.{Applies}
use Rattle.one_kernel.specs.Verdicts.{verdict_from, verdict_on, way_of}

-- the verdict on an entry and those behind it, by its way
by_way : (c : Description) (most place cost way : ℕ) (u : Unix) (e : Entry) (es : List Entry) → way_of c u e ≡ way → verdict_from c most place cost u (e ∷ es) ≡ cond (nat_lt most (cost + way)) (verdict.Steps place) (verdict_on (λ v. verdict_from c most (place + 1) (cost + way) v es) place (after c u e))
by_way c most place cost way u e es is =
    ap (λ (w : ℕ). cond (nat_lt most (cost + w)) (verdict.Steps place) (verdict_on (λ v. verdict_from c most (place + 1) (cost + w) v es) place (after c u e))) is

near_by : (c : Description) (most place cost way : ℕ) (u : Unix) (e : Entry) (es : List Entry) (o : Option Unix) → way_of c u e ≡ way → cost + way ≤ most → after c u e ≡ o → verdict_from c most place cost u (e ∷ es) ≡ verdict_on (λ v. verdict_from c most (place + 1) (cost + way) v es) place o
near_by c most place cost way u e es o is few made =
    by_way c most place cost way u e es is
    ∙ ap (λ (b : Bool). cond b (verdict.Steps place) (verdict_on (λ v. verdict_from c most (place + 1) (cost + way) v es) place (after c u e))) (le-ltb most (cost + way) few)
    ∙ ap (verdict_on (λ v. verdict_from c most (place + 1) (cost + way) v es) place) made

-- an entry that is made
pub check_made : (c : Description) (most place cost way : ℕ) (u v : Unix) (e : Entry) (es : List Entry) → way_of c u e ≡ way → cost + way ≤ most → after c u e ≡ Some v → verdict_from c most place cost u (e ∷ es) ≡ verdict_from c most (place + 1) (cost + way) v es
check_made c most place cost way u v e es is few made = near_by c most place cost way u e es (Some v) is few made

-- and one that was applied, with what is left of the instructions
pub check_applied : (c : Description) (most place cost way : ℕ) (u : Unix) (w : World) (ps : List Process) (e : Entry) (es : List Entry) → cost ≤ most → Applies c (most - cost) (way_of c u e) (after c u e) (applied.Made way) w ps → (cost + way ≤ most) × (verdict_from c most place cost u (e ∷ es) ≡ verdict_from c most (place + 1) (cost + way) (unix_of c w ps) es)
check_applied c most place cost way u w ps e es within applies =
    let short : way ≤ most - cost = applies.1 in
    let few : cost + way ≤ most = omega (arith, short, within) in
    (few, check_made c most place cost way u (unix_of c w ps) e es applies.0 few applies.2)

-- one that isn't
pub check_not_made : (c : Description) (most place cost : ℕ) (u : Unix) (e : Entry) (es : List Entry) → cost + way_of c u e ≤ most → after c u e ≡ None → verdict_from c most place cost u (e ∷ es) ≡ verdict.NotLegal place
check_not_made c most place cost u e es few made = near_by c most place cost (way_of c u e) u e es None refl few made

-- one that is too far
pub check_far : (c : Description) (most place cost : ℕ) (u : Unix) (e : Entry) (es : List Entry) → most < cost + way_of c u e → verdict_from c most place cost u (e ∷ es) ≡ verdict.Steps place
check_far c most place cost u e es far =
    ap (λ (b : Bool). cond b (verdict.Steps place) (verdict_on (λ v. verdict_from c most (place + 1) (cost + way_of c u e) v es) place (after c u e))) (lt-ltb most (cost + way_of c u e) far)
