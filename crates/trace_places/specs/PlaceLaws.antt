-- Where processes are is told record by record.
use Rattle.std.proofs.Common.{◌≡◌, ◌∙◌, ℕ, ◌==◌, Bool, true, false, cond, List, [], ◌∷◌, Option, Some, None, refl, sym, ap}
use Rattle.std.specs.Option.{option_map, option_and_then}
use Rattle.std.proofs.lemmas.Bool.{eqb-true}
use Rattle.sprite_ids.specs.Pid.{home_of}
use Rattle.unix_calls.specs.declared.event.Event.{Event}
use Rattle.unix_calls.specs.declared.event.Event.TheVariants as event
use Rattle.unix_calls.specs.declared.state.Process.{Process}
use Rattle.call_journal.specs.Past.{Past, Whereabouts, whereabouts_of, with_whereabouts, with_child, child_of_entry, moved_by, at_homes, holds, kernel_of, place_of, is_moving, settled_at}
use Rattle.call_journal.specs.Calls.{or_else}
use Rattle.trace_places.specs.declared.places.Place.{Place}
use Rattle.trace_places.specs.Places.{place_kept, place_by, place_among, TellsPlaces, home_place, moves_child, moved_behind, MovesOn, is_kernel_of, is_on_its_way, settled_in}

-- the whereabouts where those of one process are put
put_by : (w v : Whereabouts) (vs : List Whereabouts) (pid : ℕ) (one here there : Bool) → (v.pid == w.pid) ≡ one → (v.pid == pid) ≡ here → (w.pid == pid) ≡ there → whereabouts_of (with_whereabouts w vs) pid ≡ cond there (Some w) (whereabouts_of vs pid) → whereabouts_of (cond one (w ∷ vs) (v ∷ with_whereabouts w vs)) pid ≡ cond there (Some w) (cond here (Some v) (whereabouts_of vs pid))
put_by w v vs pid true here true is at put more = ap (λ b. cond b (Some w) (whereabouts_of vs pid)) put
put_by w v vs pid true false false is at put more = ap (λ b. cond b (Some w) (whereabouts_of vs pid)) put
put_by w v vs pid true true false is at put more =
    let same : v.pid ≡ w.pid = eqb-true v.pid w.pid is in
    let both : (v.pid == pid) ≡ (w.pid == pid) = ap (λ n. n == pid) same in
    absurd (cc (both, at, put))
put_by w v vs pid false false there is at put more = ap (λ b. cond b (Some v) (whereabouts_of (with_whereabouts w vs) pid)) at ∙ more
put_by w v vs pid false true false is at put more = ap (λ b. cond b (Some v) (whereabouts_of (with_whereabouts w vs) pid)) at
put_by w v vs pid false true true is at put more =
    let there : v.pid ≡ pid = eqb-true v.pid pid at in
    let here : w.pid ≡ pid = eqb-true w.pid pid put in
    let same : (v.pid == w.pid) ≡ (v.pid == pid) = ap (λ n. v.pid == n) here in
    absurd (cc (same, is, at))

put_there : (w : Whereabouts) (vs : List Whereabouts) (pid : ℕ) → whereabouts_of (with_whereabouts w vs) pid ≡ cond (w.pid == pid) (Some w) (whereabouts_of vs pid)
put_there w [] pid = refl
put_there w (v ∷ vs) pid = put_by w v vs pid (v.pid == w.pid) (v.pid == pid) (w.pid == pid) refl refl refl (put_there w vs pid)

place_cond : (b : Bool) (w : Whereabouts) (o : Option Whereabouts) → option_map place_by (cond b (Some w) o) ≡ cond b (Some (place_by w)) (option_map place_by o)
place_cond true w o = refl
place_cond false w o = refl

place_put : (w : Whereabouts) (ws : List Whereabouts) (pid : ℕ) → place_among (with_whereabouts w ws) pid ≡ cond (w.pid == pid) (Some (place_by w)) (place_among ws pid)
place_put w ws pid = ap (option_map place_by) (put_there w ws pid) ∙ place_cond (w.pid == pid) w (whereabouts_of ws pid)

child_put : (o : Option ℕ) (parent : Option Whereabouts) (ws : List Whereabouts) (pid : ℕ) → moves_child o (option_map place_by parent) pid (place_among ws pid) ≡ place_among (with_child o parent ws) pid
child_put (Some child) (Some parent) ws pid = sym (place_put (record { pid = child; kernel = parent.kernel; moving = parent.moving }) ws pid)
child_put (Some child) None ws pid = refl
child_put None parent ws pid = refl

moved : (kernel : ℕ) (e : Event) (places : List (ℕ × Place)) (ws : List Whereabouts) (pid : ℕ) → TellsPlaces places ws → moved_behind kernel e places pid (place_kept places pid) ≡ place_among (moved_by kernel e ws) pid
moved kernel (event.Enter entry) places ws pid told =
    ap (λ o. moves_child (child_of_entry entry) o pid (place_kept places pid)) (told entry.pid)
    ∙ ap (λ o. moves_child (child_of_entry entry) (place_among ws entry.pid) pid o) (told pid)
    ∙ child_put (child_of_entry entry) (whereabouts_of ws entry.pid) ws pid
moved kernel (event.Freeze p) places ws pid told =
    ap (λ o. cond (p == pid) (Some (record { kernel = kernel; moving = true })) o) (told pid) ∙ sym (place_put (record { pid = p; kernel = kernel; moving = true }) ws pid)
moved kernel (event.Thaw p) places ws pid told =
    ap (λ o. cond (p == pid) (Some (record { kernel = kernel; moving = false })) o) (told pid) ∙ sym (place_put (record { pid = p; kernel = kernel; moving = false }) ws pid)
moved kernel _ places ws pid told = told pid

-- one record more
pub places_more : (kernel : ℕ) (e : Event) (before after : List (ℕ × Place)) (ws : List Whereabouts) → TellsPlaces before ws → MovesOn kernel e before after → TellsPlaces after (moved_by kernel e ws)
places_more kernel e before after ws told more pid = more pid ∙ moved kernel e before ws pid told

-- ---- what is asked of a place

kernel_by : (kernel : ℕ) (o : Option Whereabouts) → holds (λ at. at == kernel) (option_map (λ (w : Whereabouts). w.kernel) o) ≡ is_kernel_of kernel (option_map place_by o)
kernel_by kernel None = refl
kernel_by kernel (Some w) = refl

pub kernel_told : (places : List (ℕ × Place)) (past : Past) (pid kernel : ℕ) → TellsPlaces places past.processes → holds (λ at. at == kernel) (kernel_of past pid) ≡ is_kernel_of kernel (place_kept places pid)
kernel_told places past pid kernel told = kernel_by kernel (whereabouts_of past.processes pid) ∙ sym (ap (is_kernel_of kernel) (told pid))

moving_by : (o : Option Whereabouts) → holds (λ (w : Whereabouts). w.moving) o ≡ is_on_its_way (option_map place_by o)
moving_by None = refl
moving_by (Some w) = refl

pub moving_told : (places : List (ℕ × Place)) (past : Past) (pid : ℕ) → TellsPlaces places past.processes → is_moving past pid ≡ is_on_its_way (place_kept places pid)
moving_told places past pid told = moving_by (whereabouts_of past.processes pid) ∙ sym (ap is_on_its_way (told pid))

place_by_is : (o : Option Whereabouts) → option_and_then settled_at o ≡ settled_in (option_map place_by o)
place_by_is None = refl
place_by_is (Some w) = refl

pub place_told : (places : List (ℕ × Place)) (past : Past) (pid : ℕ) → TellsPlaces places past.processes → place_of past pid ≡ settled_in (place_kept places pid)
place_told places past pid told = place_by_is (whereabouts_of past.processes pid) ∙ sym (ap settled_in (told pid))

-- ---- the homes

-- the home of the first of some processes is put
pub home_more : (before after : List (ℕ × Place)) (p : Process) (ps : List Process) (pid : ℕ) → place_kept after pid ≡ cond (p.pid == pid) (or_else (place_kept before pid) (Some (home_place p.pid))) (place_kept before pid) → or_else (place_kept after pid) (place_among (at_homes ps) pid) ≡ or_else (place_kept before pid) (place_among (at_homes (p ∷ ps)) pid)
home_more before after p ps pid is =
    ap (λ o. or_else o (place_among (at_homes ps) pid)) is
    ∙ by (p.pid == pid) (place_kept before pid)
    ∙ ap (λ o. or_else (place_kept before pid) o) (sym (place_cond (p.pid == pid) (record { pid = p.pid; kernel = home_of p.pid; moving = false }) (whereabouts_of (at_homes ps) pid)))
  where
    by : (b : Bool) (o : Option Place) → or_else (cond b (or_else o (Some (home_place p.pid))) o) (place_among (at_homes ps) pid) ≡ or_else o (cond b (Some (home_place p.pid)) (place_among (at_homes ps) pid))
    by true None = refl
    by true (Some k) = refl
    by false o = refl

pub or_nothing : (o : Option Place) → or_else o None ≡ o
or_nothing None = refl
or_nothing (Some k) = refl
