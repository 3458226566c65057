-- Each process stands in at most one place when the cluster begins, and when a process did instructions.
use Rattle.std.proofs.Common.{arith, ◌≡◌, ℕ, ◌+◌, ◌*◌, ◌<◌, ◌≤◌, Bool, true, false, ◌||◌, not, cond, List, [], ◌∷◌, length, Option, Some, None, option_map, slice_get, refl, subst}
use Rattle.std.proofs.lemmas.Bool.{and_parts, eq-eqb}
use Rattle.std.proofs.lemmas.Nat.{div-add-mod'}
use Rattle.std.specs.List.{list_all}
use Rattle.sprite_ids.specs.Pid.{home_of}
use Rattle.sprite_ids.proofs.ListLaws.{get_within}
use Rattle.process_machine.specs.Machine.{Machine}
use Rattle.home_table.specs.declared.birth.Birth.{Birth}
use Rattle.home_table.specs.declared.birth.Life.{Life}
use Rattle.home_table.specs.Home.{birth_at, index_of, is_living, is_so}
use Rattle.unix_calls.specs.declared.Description.{Description}
use Rattle.client_homes.specs.declared.client.ClientProcs.{ClientProcs}
use Rattle.client_homes.specs.declared.process.Proc.{Proc}
use Rattle.client_homes.specs.declared.process.ProcState.{ProcState}
use Rattle.client_homes.specs.declared.process.ProcState.TheVariants as states
use Rattle.client_homes.specs.Homes.{is_native}
use Rattle.client_homes.specs.Procs.{proc_at, with_proc}
use Rattle.client_procs.specs.Boot.{boots}
use Rattle.client_procs.specs.Readers.{with_image}
use Rattle.client_facts.specs.HomeFacts.{is_alive_here, lives_or_ends}
use Rattle.client_facts.proofs.BootLaws.{homes_begin_with_facts, procs_begin_with_facts}
use Rattle.client_walks.specs.Hands.{Nothing}
use Rattle.client_walks.specs.PlacesOnce.{AreBornAt, IsBornAt, PlacesAreOnce}
use Rattle.client_walks.proofs.OnceLaws.{placed, placed_once, places}
use Rattle.client_walks.proofs.Spots.{spots_of}

-- whose life is known was born
known_by : (test : Life → Bool) (o : Option Birth) (births : List Birth) (at : ℕ) → slice_get births at ≡ o → is_so test (option_map (λ birth. birth.life) o) ≡ true → at < length births
known_by test None births at e h = absurd (cc)
known_by test (Some birth) births at e h = get_within births at birth e

known : (test : Life → Bool) (s : ClientProcs) (pid : ℕ) → is_so test (option_map (λ birth. birth.life) (birth_at s.home.births pid)) ≡ true → home_of pid ≡ s.home.home → pid ≤ 1000 * s.home.home + length s.home.births
known test s pid h e =
    let under = known_by test (birth_at s.home.births pid) s.home.births (index_of pid) refl h in
    let parts = div-add-mod' pid 1000 in
    omega arith

if_so : (a b : Bool) → cond a b false ≡ true → b ≡ true
if_so true b h = h
if_so false b h = absurd (cc)

alive_by : (state : ProcState) (s : ClientProcs) (pid : ℕ) → lives_or_ends pid state s ≡ true → home_of pid ≡ s.home.home → pid ≤ 1000 * s.home.home + length s.home.births
alive_by states.Ending s pid h e = known (λ life. not (is_living life)) s pid (and_parts (is_native pid s) _ h).1 e
alive_by state s pid h e = known is_living s pid (if_so (is_native pid s) _ h) e

alive_born : (s : ClientProcs) (row : ℕ × Proc) → is_alive_here s row ≡ true → IsBornAt s.home row.0
alive_born s row h e = alive_by row.1.state s row.0 (subst (λ (t : Bool). (not t || (lives_or_ends row.0 row.1.state s)) ≡ true) (eq-eqb (home_of row.0) s.home.home e) h) e

all_born : (s : ClientProcs) (rows : List (ℕ × Proc)) → list_all (is_alive_here s) rows ≡ true → AreBornAt s.home rows
all_born s [] h = tt
all_born s (row ∷ rows) h = let parts = and_parts (is_alive_here s row) (list_all (is_alive_here s) rows) h in (alive_born s row parts.0, all_born s rows parts.1)

pub begins_with_places : (c : Description) (kernel : ℕ) → PlacesAreOnce (boots c kernel)
begins_with_places c kernel =
    let facts = procs_begin_with_facts c kernel in
    record { once = facts.once; leaving_once = facts.leaving_once; apart = facts.apart; born = all_born (boots c kernel) (boots c kernel).procs (homes_begin_with_facts c kernel).live; leaving_born = tt }

image_keeps : (o : Option Proc) (s : ClientProcs) (pid : ℕ) (image : Machine) → proc_at pid s ≡ o → PlacesAreOnce s → PlacesAreOnce (with_proc pid (option_map {T = Proc} (λ proc. record proc { image = image }) o) s)
image_keeps None s pid image e p = p
image_keeps (Some proc) s pid image e p =
    places (with_proc pid (Some (record proc { image = image })) s) Nothing (placed_once.sets (spots_of s) Nothing pid proc (record proc { image = image }) e (placed s Nothing tt p))

pub image_keeps_places : (s : ClientProcs) (pid : ℕ) (image : Machine) → PlacesAreOnce s → PlacesAreOnce (with_image pid image s)
image_keeps_places s pid image p = image_keeps (proc_at pid s) s pid image refl p
