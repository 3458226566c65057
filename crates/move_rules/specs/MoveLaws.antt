-- Where processes run and move is judged by what is kept, and that is told record by record.
use Rattle.std.proofs.Common.{◌≡◌, ◌∙◌, ℕ, ◌==◌, Bool, false, ◌&&◌, ◌||◌, not, List, [], Option, Some, None, refl, sym, ap, ap₂, subst, true≢false}
use Rattle.std.specs.Option.{is_some, option_map}
use Rattle.sprite_ids.specs.Pid.{home_of}
use Rattle.unix_calls.specs.Boot.{boot_of}
use Rattle.unix_calls.specs.declared.description.Description.{Description}
use Rattle.unix_calls.specs.declared.event.Event.{Event}
use Rattle.unix_calls.specs.declared.event.Event.TheVariants as event
use Rattle.unix_calls.specs.declared.event.Rec.{Rec}
use Rattle.call_journal.specs.Past.{Past, at_homes, no_past, past_with, whereabouts_of}
use Rattle.call_journal.specs.Calls.{move_target}
use Rattle.call_journal.specs.Moves as rule
use Rattle.trace_tables.specs.Callers.{caller_at}
use Rattle.trace_tables.specs.declared.CallAt.{CallAt}
use Rattle.move_rules.specs.declared.arrivals.Arrival.{Arrival}
use Rattle.move_rules.specs.declared.arrivals.Arrivals.{Arrivals}
use Rattle.move_rules.specs.declared.evictions.DueAt.{DueAt}
use Rattle.move_rules.specs.declared.evictions.Evictions.{Evictions}
use Rattle.move_rules.specs.declared.evictions.UsedAt.{UsedAt}
use Rattle.move_rules.specs.declared.movers.Mover.{Mover}
use Rattle.move_rules.specs.declared.movers.Movers.{Movers}
use Rattle.move_rules.specs.declared.moves.Moves.{Moves}
use Rattle.trace_places.specs.declared.places.Place.{Place}
use Rattle.move_rules.specs.ArrivalLaws.{arrivals_on}
use Rattle.move_rules.specs.EvictionLaws.{evictions_on, overdue_told, unused_told}
use Rattle.move_rules.specs.MoverLaws.{movers_on, own_told}
use Rattle.trace_tables.specs.Calls.{has_call}
use Rattle.move_rules.specs.Arrivals.{Counted, TellsArrivals, arrival_at, is_astray, strays, thaws_of}
use Rattle.move_rules.specs.Evictions.{LeftAs, TellsEvictions, as_birth, birth_at, due_at, issues_of, stops_of, uses_of}
use Rattle.move_rules.specs.Movers.{TellsMovers, asked_at, mover_of}
use Rattle.move_rules.specs.Moves.{KeepsMoving, TellsMoves, is_there, leads_well, moves_well}
use Rattle.place_rules.specs.PastLaws.{whole_on}
use Rattle.trace_places.specs.PlaceLaws.{places_more}
use Rattle.trace_places.specs.Places.{TellsPlaces, place_kept, is_on_its_way}
use Rattle.move_rules.specs.Whereabouts.{is_placed_at}
use Rattle.move_rules.specs.WhereLaws.{moving_told, placed_told}

-- ---- judging

there_told : (c : Description) (judge : Moves) (past : Past) (pid kernel : ℕ) → TellsMoves c judge past → is_there judge pid kernel ≡ rule.is_placed past pid kernel
there_told c judge past pid kernel tells = ap (λ o. is_placed_at o kernel) (tells.places pid) ∙ placed_told (whereabouts_of past.processes pid) kernel

leads_told : (c : Description) (places : List (ℕ × Place)) (past : Past) (pid : ℕ) (t : Option (List ℕ)) → TellsPlaces places past.processes → leads_well (option_map (rule.kernel_named c) t) (place_kept places pid) ≡ rule.moves_to c past pid t
leads_told c places past pid None where_is = refl
leads_told c places past pid (Some name) where_is =
    ap₂ (λ a b. a || b)
    (ap (λ o. is_placed_at o (rule.kernel_named c name)) (where_is pid) ∙ placed_told (whereabouts_of past.processes pid) (rule.kernel_named c name))
    (ap is_on_its_way (where_is pid) ∙ moving_told (whereabouts_of past.processes pid))

told_by : (c : Description) (judge : Moves) (past : Past) (kernel : ℕ) (e : Event) → TellsMoves c judge past → moves_well c judge kernel e (caller_at c past e) ≡ rule.runs_well c past kernel e
told_by c judge past kernel (event.Burst pid count) tells = there_told c judge past pid kernel tells
told_by c judge past kernel (event.Issue pid number call) tells =
    ap₂ (λ a b. a && (rule.is_master past.unix pid || not b)) (there_told c judge past pid kernel tells) (overdue_told c judge.movers judge.evictions past pid kernel tells.evictions)
told_by c judge past kernel (event.Freeze pid) tells =
    ap₂ (λ a b. a && b) (there_told c judge past pid kernel tells)
    (ap₂ (λ a b. a || b) (own_told c judge.movers past pid tells.movers) (unused_told c judge.movers judge.evictions past pid kernel tells.evictions))
told_by c judge past kernel (event.Thaw pid) tells = ap (λ b. kernel == home_of pid || not b) (tells.movers.evicted pid)
told_by c judge past kernel (event.Enter entry) tells = leads_told c judge.places.entries past entry.pid (move_target entry.call entry.reply) tells.places
told_by c judge past kernel (event.Return pid number reply) tells = ap not (tells.arrivals.astray (record { pid = pid; number = number }) kernel)
told_by c judge past kernel _ tells = refl

pub moves_told : (c : Description) (judge : Moves) (past : Past) (rec : Rec) → TellsMoves c judge past → rule.runs_well c past rec.kernel rec.event ≡ moves_well c judge rec.kernel rec.event (caller_at c past rec.event)
moves_told c judge past rec tells = sym (told_by c judge past rec.kernel rec.event tells)

-- ---- one record more

pub moves_on : (c : Description) (old new : Moves) (past : Past) (rec : Rec) → TellsMoves c old past → KeepsMoving c rec old new → TellsMoves c new (past_with c rec past)
moves_on c old new past rec tells more = record {
  whole = whole_on c past rec tells.whole;
  places = places_more rec.kernel rec.event old.places.entries new.places.entries past.processes tells.places more.places;
  movers = movers_on c old.movers new.movers past rec tells.whole tells.movers more.movers;
  evictions = evictions_on c old.movers new.movers old.evictions new.evictions old.places.entries past rec tells.whole tells.places tells.movers tells.evictions more.movers more.evictions;
  arrivals = arrivals_on c old.arrivals new.arrivals old.places.entries past rec tells.whole tells.places tells.arrivals more.arrivals;
}

-- ---- before the first record

movers_begun : (c : Description) (movers : Movers) → movers.movers.entries ≡ [] → movers.asked.entries ≡ [] → movers.entered.keys ≡ [] → movers.returned.keys ≡ [] → TellsMovers c movers (no_past c)
movers_begun c movers none unasked unentered unreturned = record {
  numbers = λ pid. ap (λ (es : List (ℕ × Mover)). (mover_of es pid).number) none;
  frozen = λ pid. ap (λ (es : List (ℕ × Mover)). (mover_of es pid).is_frozen) none;
  evicted = λ pid. ap (λ (es : List (ℕ × Mover)). (mover_of es pid).is_evicted) none;
  asked = λ at. ap (λ (es : List (CallAt × Bool)). asked_at es at) unasked;
  entered = λ at. ap (λ (calls : List CallAt). has_call calls at) unentered;
  returned = λ at. ap (λ (calls : List CallAt). has_call calls at) unreturned;
}

none_left : (stops : ℕ) → LeftAs false None stops
none_left stops at is = absurd (true≢false (sym (ap is_some is)))

evictions_begun : (c : Description) (movers : Movers) (evictions : Evictions) → evictions.issues.entries ≡ [] → evictions.used.entries ≡ [] → evictions.births.entries ≡ [] → evictions.due.entries ≡ [] → TellsEvictions c movers evictions (no_past c)
evictions_begun c movers evictions unissued unused unborn none = record {
  issues = λ kernel. ap (λ (es : List (ℕ × ℕ)). issues_of es kernel) unissued;
  uses = λ at. ap (λ (es : List (UsedAt × ℕ)). uses_of es at) unused;
  births = λ pid. ap (λ (es : List (ℕ × CallAt)). option_map as_birth (birth_at es pid)) unborn;
  due = λ line pid there. ap (λ (es : List (DueAt × ℕ)). is_some (due_at es (record { host = line.host; after = line.after; pid = pid }))) none;
  left = λ line pid there. subst (λ (es : List (DueAt × ℕ)). LeftAs false (due_at es (record { host = line.host; after = line.after; pid = pid })) (stops_of movers pid)) (sym none) (none_left (stops_of movers pid));
}

arrivals_begun : (c : Description) (arrivals : Arrivals) → arrivals.dues.entries ≡ [] → TellsArrivals c arrivals (no_past c)
arrivals_begun c arrivals none = record {
  stray = λ at kernel. ap (λ (es : List (CallAt × Arrival)). strays (arrival_at es at) kernel) none;
  astray = λ at kernel. ap (λ (es : List (CallAt × Arrival)). is_astray (arrival_at es at) kernel (thaws_of arrivals.thaws.entries (record { pid = at.pid; kernel = kernel }))) none;
  counted = λ at. subst (λ (es : List (CallAt × Arrival)). Counted (arrival_at es at) (λ kernel. thaws_of arrivals.thaws.entries (record { pid = at.pid; kernel = kernel }))) (sym none) tt;
}

pub begun : (c : Description) (judge : Moves) → TellsPlaces judge.places.entries (at_homes (boot_of c).processes) → judge.movers.movers.entries ≡ [] → judge.movers.asked.entries ≡ [] → judge.movers.entered.keys ≡ [] → judge.movers.returned.keys ≡ [] → judge.evictions.issues.entries ≡ [] → judge.evictions.used.entries ≡ [] → judge.evictions.births.entries ≡ [] → judge.evictions.due.entries ≡ [] → judge.arrivals.dues.entries ≡ [] → TellsMoves c judge (no_past c)
begun c judge places none unasked unentered unreturned unissued unused unborn undue unmoved = record {
  whole = refl;
  places = places;
  movers = movers_begun c judge.movers none unasked unentered unreturned;
  evictions = evictions_begun c judge.movers judge.evictions unissued unused unborn undue;
  arrivals = arrivals_begun c judge.arrivals unmoved;
}
