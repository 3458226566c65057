-- The parts together are what a trace's worth is.
use Rattle.std.specs.Prelude.{◌≡◌, Bool, true, false, List, IsTrue, ◌&&◌, ◌↔◌}
use Rattle.std.proofs.Common.{refl}
use Rattle.unix_calls.specs.declared.description.Description.{Description}
use Rattle.unix_calls.specs.declared.event.Rec.{Rec}
use Rattle.call_journal.specs.Worth.{Worth}
use Rattle.trace_worth.specs.Worths.{is_worth}

-- what both parts of a conjunction are
of_both : (first second : Bool) → (first && second) ≡ true → (first ≡ true) × (second ≡ true)
of_both true second e = (refl, e)
of_both false second e = absurd (cc (e))

both : (first second : Bool) → first ≡ true → second ≡ true → (first && second) ≡ true
both true second kept next = next
both false second kept next = absurd (cc (kept))

worth_parts : (c : Description) (trace : List Rec) → IsTrue (is_worth c trace) → Worth c trace
worth_parts c trace worth =
    (let first = of_both _ _ worth in
    let second = of_both _ _ first.1 in
    let third = of_both _ _ second.1 in
    let fourth = of_both _ _ third.1 in
    let fifth = of_both _ _ fourth.1 in
    let sixth = of_both _ _ fifth.1 in
    record { bursts = first.0; deliveries = second.0; expires = third.0; sends = fourth.0; records = fifth.0; caches = sixth.0; kills = sixth.1 })

worth_whole : (c : Description) (trace : List Rec) → Worth c trace → IsTrue (is_worth c trace)
worth_whole c trace worth =
    both _ _ worth.bursts (both _ _ worth.deliveries (both _ _ worth.expires (both _ _ worth.sends
    (both _ _ worth.records (both _ _ worth.caches worth.kills)))))

-- a trace is worth its units exactly where each part is
pub worth_told : (c : Description) (trace : List Rec) → IsTrue (is_worth c trace) ↔ Worth c trace
worth_told c trace = (worth_parts c trace, worth_whole c trace)
