-- A process that moves lands as it was frozen.
use Rattle.std.proofs.Common.{◌≡◌, ◌⊎◌, inl, inr, ℕ, zero, suc, nat_lt, nat_le, Bool, true, false, ◌&&◌, ◌||◌, cond, List, [], ◌∷◌, length, map, replicate, Option, Some, None, refl, sym, ap, subst, ◌∙◌, is_some}
use Rattle.std.specs.Prelude.{option_map}
use Rattle.std.specs.List.{AllByRecursion, find, list_all}
use Rattle.sprite_ids.proofs.ListLaws.{some_is}
use Rattle.sprite_ids.specs.declared.Mode.{Mode}
use Rattle.sprite_ids.specs.declared.Mode.TheVariants as open_for
use Rattle.sprite_ids.specs.declared.StreamNo.{StreamNo}
use Rattle.sprite_ids.specs.declared.Object.{Object}
use Rattle.sprite_ids.specs.declared.Object.TheVariants as objects
use Rattle.stream_table.specs.declared.Carried.{Carried}
use Rattle.stream_table.specs.declared.Place.{Place}
use Rattle.stream_table.specs.declared.Place.TheVariants as places
use Rattle.stream_table.specs.declared.Stream.{Stream}
use Rattle.packet_bodies.specs.Modes.{appends, carried, mode_of}
use Rattle.packet_bodies.specs.declared.CarriedMode.{CarriedMode}
use Rattle.packet_bodies.specs.declared.CarriedMode.TheVariants as modes
use Rattle.packet_bodies.specs.declared.CarriedStream.{CarriedStream}
use Rattle.packet_bodies.specs.declared.Target.{Target}
use Rattle.packet_bodies.specs.declared.Target.TheVariants as targets
use Rattle.migrate_freeze.specs.declared.moves.MovedStream.{MovedStream}
use Rattle.migrate_freeze.specs.declared.process.Process.{Process}
use Rattle.migrate_freeze.specs.declared.freeze.Freeze.{Freeze}
use Rattle.migrate_freeze.specs.declared.arrival.Arrival.{Arrival}
use Rattle.migrate_freeze.specs.declared.arrival.Load.TheVariants as loads
use Rattle.migrate_freeze.specs.Moves.{frozen_for, is_before, is_moved, is_stream, lower, moved_stream, names, next_from, noted}
use Rattle.migrate_freeze.specs.Packing.{before, body_for, can_move, can_travel, fds_of, gathered, offset_of, packed, packed_as, packed_stream, target_of}
use Rattle.migrate_freeze.specs.Arriving.{arrived_of, brings, descriptor_of, descriptors_of, grant_in, grant_of, object_of, place_of, stream_of}
use Rattle.migrate_freeze.specs.Landing.{EachLands, IsMoveOf, IsOneOf, Lands, MayBe, Took, landed, landed_stream, moved_all, moved_once, next_of, taken_grant}

-- both of two are true where both together are
pub both : (a b : Bool) → (a && b) ≡ true → (a ≡ true) × (b ≡ true)
both true true h = (refl, refl)
both true false h = absurd (cc)
both false b h = absurd (cc)

-- the lower of two is one of them
lower_before : (item other : Carried) (b : Bool) → (cond b (Some item) (Some other) ≡ Some other) ⊎ (cond b (Some item) (Some other) ≡ Some item)
lower_before item other true = inr refl
lower_before item other false = inl refl

pub lower_is : (b : Bool) (least : Option Carried) (item : Carried) → (lower b least item ≡ least) ⊎ (lower b least item ≡ Some item)
lower_is true least item = inl refl
lower_is false None item = inr refl
lower_is false (Some other) item = lower_before item other (is_before item.number other.number)

one_more : (least : Option Carried) (first item : Carried) (rest : List Carried) (lowest : Option Carried) → (lowest ≡ least) ⊎ (lowest ≡ Some first) → (lowest ≡ Some item) ⊎ IsOneOf rest item → (least ≡ Some item) ⊎ IsOneOf (first ∷ rest) item
one_more least first item rest lowest which (inr h) = inr (inr h)
one_more least first item rest lowest (inl e) (inl h) = inl (sym e ∙ h)
one_more least first item rest lowest (inr e) (inl h) = inr (inl (some_is item first (sym h ∙ e)))

-- the next one is one of the descriptors
pub next_one : (moved : List (Option MovedStream)) (least : Option Carried) (streams : List Carried) (item : Carried) → next_from moved least streams ≡ Some item → (least ≡ Some item) ⊎ IsOneOf streams item
next_one moved least [] item e = inl e
next_one moved least (first ∷ rest) item e =
    one_more least first item rest (lower (is_moved first.number moved) least first) (lower_is (is_moved first.number moved) least first) (next_one moved (lower (is_moved first.number moved) least first) rest item e)

-- where one was found, one is found further on
stays_before : (moved : List (Option MovedStream)) (least first : Carried) (rest : List Carried) (again : (x : Carried) → next_from moved (Some x) rest ≡ None → ⊥) (b : Bool) → next_from moved (cond b (Some first) (Some least)) rest ≡ None → ⊥
stays_before moved least first rest again true e = again first e
stays_before moved least first rest again false e = again least e

stays_by : (moved : List (Option MovedStream)) (least first : Carried) (rest : List Carried) (again : (x : Carried) → next_from moved (Some x) rest ≡ None → ⊥) (b : Bool) → next_from moved (lower b (Some least) first) rest ≡ None → ⊥
stays_by moved least first rest again true e = again least e
stays_by moved least first rest again false e = stays_before moved least first rest again (is_before first.number least.number) e

next_stays : (moved : List (Option MovedStream)) (streams : List Carried) (least : Carried) → next_from moved (Some least) streams ≡ None → ⊥
next_stays moved [] least e = cc
next_stays moved (first ∷ rest) least e = stays_by moved least first rest (next_stays moved rest) (is_moved first.number moved) e

-- the descriptor's stream has moved
abbrev pub HasMoved : List (Option MovedStream) → Carried → Type 0
HasMoved moved item = is_moved item.number moved ≡ true

-- where nothing comes next, all have moved
moved_by : (moved : List (Option MovedStream)) (first : Carried) (rest : List Carried) (again : next_from moved None rest ≡ None → AllByRecursion (HasMoved moved) rest) (b : Bool) → is_moved first.number moved ≡ b → next_from moved (lower b None first) rest ≡ None → AllByRecursion (HasMoved moved) (first ∷ rest)
moved_by moved first rest again true h e = (h, again e)
moved_by moved first rest again false h e = absurd (next_stays moved rest first e)

pub all_moved : (moved : List (Option MovedStream)) (streams : List Carried) → next_from moved None streams ≡ None → AllByRecursion (HasMoved moved) streams
all_moved moved [] e = tt
all_moved moved (first ∷ rest) e = moved_by moved first rest (all_moved moved rest) (is_moved first.number moved) refl e

-- a fact of what stands at the places holds after a move
each_noted : (P : Option MovedStream → Type 0) (new : MovedStream) (moved : List (Option MovedStream)) → P (Some new) → AllByRecursion P moved → AllByRecursion P (noted new moved)
each_noted P new [] k h = tt
each_noted P new (Some moved ∷ rest) k h = (h.0, each_noted P new rest k h.1)
each_noted P new (None ∷ rest) k h = (k, h.1)

none_yet : (streams : List Carried) (n : ℕ) → AllByRecursion (MayBe streams) (replicate n None)
none_yet streams zero = tt
none_yet streams (suc n) = (tt, none_yet streams n)

-- what stays of a frozen process, and what its moves are
record Stays (process : Process) (program : Option ℕ) (freeze : Freeze) : Type 0 where
  same : freeze.process ≡ process
  start : freeze.program ≡ program
  moves : AllByRecursion (MayBe process.streams) freeze.moved

pub only_one : {B : Type 0} (item : Carried) → (None ≡ Some item) ⊎ B → B
only_one item (inl e) = absurd (cc)
only_one item (inr h) = h

once_stays : (process : Process) (program : Option ℕ) (freeze : Freeze) (took : Took) (next : Option Carried) → next_of freeze ≡ next → Stays process program freeze → Stays process program (moved_once took freeze next)
once_stays process program freeze took None e h = h
once_stays process program freeze took (Some item) e h = record {
  same = h.same;
  start = h.start;
  moves = each_noted (MayBe process.streams) (moved_stream item took.place took.grant took.grants) freeze.moved (record { item = item; one = subst (λ (p : Process). IsOneOf p.streams item) h.same (only_one item (next_one freeze.moved None freeze.process.streams item e)); number = refl; stream = refl }) h.moves;
}

all_stays : (process : Process) (program : Option ℕ) (freeze : Freeze) (moves : List Took) → Stays process program freeze → Stays process program (moved_all moves freeze)
all_stays process program freeze [] h = h
all_stays process program freeze (took ∷ rest) h =
    all_stays process program (moved_once took freeze (next_of freeze)) rest (once_stays process program freeze took (next_of freeze) refl h)

-- a packet's words lead back to what they were made of
object_again : (object : Object) (target : Target) → target_of object ≡ Some target → object_of target ≡ object
object_again (objects.File file) target e = ap object_of (sym (some_is (targets.File file) target e))
object_again (objects.Device device) target e = ap object_of (sym (some_is (targets.Device device) target e))
object_again (objects.Master device) target e = absurd (cc)

mode_again : (mode : Mode) (append : Bool) (form : CarriedMode) → carried mode append ≡ Some form → (mode_of form ≡ mode) × (appends form ≡ append)
mode_again open_for.Read false form e = (ap mode_of (sym (some_is modes.Read form e)), ap appends (sym (some_is modes.Read form e)))
mode_again open_for.Read true form e = absurd (cc)
mode_again open_for.Write false form e = (ap mode_of (sym (some_is modes.Write form e)), ap appends (sym (some_is modes.Write form e)))
mode_again open_for.Write true form e = (ap mode_of (sym (some_is modes.AppendingWrite form e)), ap appends (sym (some_is modes.AppendingWrite form e)))
mode_again open_for.Both false form e = (ap mode_of (sym (some_is modes.Both form e)), ap appends (sym (some_is modes.Both form e)))
mode_again open_for.Both true form e = (ap mode_of (sym (some_is modes.AppendingBoth form e)), ap appends (sym (some_is modes.AppendingBoth form e)))

place_again : (place : Place) → place_of (offset_of place) ≡ place
place_again (places.Local offset) = refl
place_again places.Shared = refl

-- a move that a packet can tell of
pub record IsPacked (moved : MovedStream) : Type 0 where
  words : CarriedStream
  tells : packed_stream moved ≡ Some words
  number : words.stream ≡ moved.number
  stream : stream_of words ≡ moved.stream
  grant : words.grant ≡ moved.grant

abbrev pub Packs : Option MovedStream → Type 0
Packs (Some moved) = IsPacked moved
Packs None = Unit {0}

some_there : {X : Type 0} (o : Option X) → is_some o ≡ true → (x : X) × (o ≡ Some x)
some_there (Some x) h = (x, refl)
some_there None h = absurd (cc)

packs_as : (moved : MovedStream) (target : Target) (mode : CarriedMode) → target_of moved.stream.object ≡ Some target → carried moved.stream.mode moved.stream.append ≡ Some mode → IsPacked moved
packs_as moved target mode t m = record {
  words = record { stream = moved.number; object = target; mode = mode; offset = offset_of moved.stream.place; grant = moved.grant; grants = moved.stream.grants };
  tells = ap (λ (o : Option Target). packed_as moved o (carried moved.stream.mode moved.stream.append)) t ∙ ap (λ (o : Option CarriedMode). packed_as moved (Some target) o) m;
  number = refl;
  grant = refl;
  stream = ap (λ (o : Object). record { object = o; mode = mode_of mode; place = place_of (offset_of moved.stream.place); grants = moved.stream.grants; append = appends mode }) (object_again moved.stream.object target t)
      ∙ ap (λ (o : Mode). record { object = moved.stream.object; mode = o; place = place_of (offset_of moved.stream.place); grants = moved.stream.grants; append = appends mode }) (mode_again moved.stream.mode moved.stream.append mode m).0
      ∙ ap (λ (o : Bool). record { object = moved.stream.object; mode = moved.stream.mode; place = place_of (offset_of moved.stream.place); grants = moved.stream.grants; append = o }) (mode_again moved.stream.mode moved.stream.append mode m).1
      ∙ ap (λ (o : Place). record { object = moved.stream.object; mode = moved.stream.mode; place = o; grants = moved.stream.grants; append = moved.stream.append }) (place_again moved.stream.place);
}

one_travels : (streams : List Carried) (item : Carried) → list_all can_travel streams ≡ true → IsOneOf streams item → can_travel item ≡ true
one_travels [] item h k = absurd k
one_travels (first ∷ rest) item h (inl e) = ap can_travel e ∙ (both (can_travel first) (list_all can_travel rest) h).0
one_travels (first ∷ rest) item h (inr k) = one_travels rest item (both (can_travel first) (list_all can_travel rest) h).1 k

packs_one : (streams : List Carried) (moved : MovedStream) → list_all can_travel streams ≡ true → IsMoveOf streams moved → IsPacked moved
packs_one streams moved h k =
    let fits = one_travels streams k.item h k.one in
    let parts = both (nat_lt k.item.fd 16 && is_some (target_of k.item.stream.object)) (is_some (carried k.item.stream.mode k.item.stream.append)) fits in
    let target = some_there (target_of k.item.stream.object) (both (nat_lt k.item.fd 16) (is_some (target_of k.item.stream.object)) parts.0).1 in
    let mode = some_there (carried k.item.stream.mode k.item.stream.append) parts.1 in
    packs_as moved target.0 mode.0 (ap (λ (s : Stream). target_of s.object) k.stream ∙ target.1) (ap (λ (s : Stream). carried s.mode s.append) k.stream ∙ mode.1)

each_packs : (streams : List Carried) (moved : List (Option MovedStream)) → list_all can_travel streams ≡ true → AllByRecursion (MayBe streams) moved → AllByRecursion Packs moved
each_packs streams [] h k = tt
each_packs streams (Some moved ∷ rest) h k = (packs_one streams moved h k.0, each_packs streams rest h k.1)
each_packs streams (None ∷ rest) h k = (tt, each_packs streams rest h k.1)

-- a descriptor whose stream has moved is brought as it landed
lands_by : (item : Carried) (moved : MovedStream) (rest : List (Option MovedStream)) (h : IsPacked moved) (again : is_moved item.number rest ≡ true → descriptor_of (packed rest) (item.fd, item.number) ≡ Some (landed rest item)) (b : Bool) → is_stream item.number moved.number ≡ b → (b || is_moved item.number rest) ≡ true → descriptor_of (h.words ∷ packed rest) (item.fd, item.number) ≡ Some (landed (Some moved ∷ rest) item)
lands_by item moved rest h again true e k =
    ap (λ b. option_map (λ (words : CarriedStream). record { fd = item.fd; number = item.number; stream = stream_of words }) (cond b (Some h.words) (find (brings item.number) (packed rest)))) (ap (is_stream item.number) h.number ∙ e)
    ∙ ap (λ (s : Stream). Some (record { fd = item.fd; number = item.number; stream = s })) h.stream
    ∙ sym (ap (λ b. Some (record item { stream = landed_stream item.stream (cond b (Some (Some moved)) (find (names item.number) rest)) })) e)
lands_by item moved rest h again false e k =
    ap (λ b. option_map (λ (words : CarriedStream). record { fd = item.fd; number = item.number; stream = stream_of words }) (cond b (Some h.words) (find (brings item.number) (packed rest)))) (ap (is_stream item.number) h.number ∙ e)
    ∙ again k
    ∙ sym (ap (λ b. Some (record item { stream = landed_stream item.stream (cond b (Some (Some moved)) (find (names item.number) rest)) })) e)

lands_one : (item : Carried) (moved : List (Option MovedStream)) → AllByRecursion Packs moved → is_moved item.number moved ≡ true → descriptor_of (packed moved) (item.fd, item.number) ≡ Some (landed moved item)
lands_one item [] h k = absurd (cc)
lands_one item (None ∷ rest) h k = lands_one item rest h.1 k
lands_one item (Some moved ∷ rest) h k =
    ap (λ (o : Option CarriedStream). descriptor_of (before o (packed rest)) (item.fd, item.number)) h.0.tells
    ∙ lands_by item moved rest h.0 (lands_one item rest h.1) (is_stream item.number moved.number) refl k

-- the descriptors that a packet brings are the process's, as they landed
all_land : (streams : List Carried) (moved : List (Option MovedStream)) → AllByRecursion Packs moved → list_all can_travel streams ≡ true → AllByRecursion (HasMoved moved) streams → descriptors_of (fds_of streams) (packed moved) ≡ map (landed moved) streams
all_land [] moved h k m = refl
all_land (item ∷ rest) moved h k m =
    let parts = both (can_travel item) (list_all can_travel rest) k in
    let fits = both (nat_lt item.fd 16 && is_some (target_of item.stream.object)) (is_some (carried item.stream.mode item.stream.append)) parts.0 in
    let few = both (nat_lt item.fd 16) (is_some (target_of item.stream.object)) fits.0 in
    ap (λ b. gathered (descriptor_of (packed moved)) (before (cond b (Some (item.fd, item.number)) None) (fds_of rest))) few.0
    ∙ ap (λ (o : Option Carried). before o (descriptors_of (fds_of rest) (packed moved))) (lands_one item moved h m.0)
    ∙ ap (λ (items : List Carried). landed moved item ∷ items) (all_land rest moved h parts.1 m.1)

-- the grants that a packet brings are those that the moves took
grants_by : (number : StreamNo) (moved : MovedStream) (rest : List (Option MovedStream)) (h : IsPacked moved) (again : grant_of (packed rest) number ≡ taken_grant (find (names number) rest)) (b : Bool) → is_stream number moved.number ≡ b → grant_of (h.words ∷ packed rest) number ≡ taken_grant (cond b (Some (Some moved)) (find (names number) rest))
grants_by number moved rest h again true e =
    ap (λ b. grant_in (cond b (Some h.words) (find (brings number) (packed rest)))) (ap (is_stream number) h.number ∙ e) ∙ h.grant
grants_by number moved rest h again false e =
    ap (λ b. grant_in (cond b (Some h.words) (find (brings number) (packed rest)))) (ap (is_stream number) h.number ∙ e) ∙ again

grants_are : (number : StreamNo) (moved : List (Option MovedStream)) → AllByRecursion Packs moved → grant_of (packed moved) number ≡ taken_grant (find (names number) moved)
grants_are number [] h = refl
grants_are number (None ∷ rest) h = grants_are number rest h.1
grants_are number (Some moved ∷ rest) h =
    ap (λ (o : Option CarriedStream). grant_of (before o (packed rest)) number) h.0.tells
    ∙ grants_by number moved rest h.0 (grants_are number rest h.1) (is_stream number moved.number) refl

-- a process that comes as it was
abbrev pub came_whole : Freeze → Arrival
came_whole freeze = record { pid = freeze.process.pid; number = freeze.process.number; load = loads.Image freeze.process.image; cwd = freeze.process.cwd; streams = packed freeze.moved; descriptors = descriptors_of (fds_of freeze.process.streams) (packed freeze.moved); killed = freeze.process.killed; moving = freeze.process.moving }

-- a process that comes to start a program
abbrev pub came_to_start : Freeze → ℕ → Arrival
came_to_start freeze program = record { pid = freeze.process.pid; number = freeze.process.number; load = loads.Program program; cwd = freeze.process.cwd; streams = packed freeze.moved; descriptors = descriptors_of (fds_of freeze.process.streams) (packed freeze.moved); killed = freeze.process.killed; moving = true }

none_some : {A : Type 0} (program : ℕ) → None ≡ Some program → A
none_some program e = absurd (cc)

lands_for : (freeze : Freeze) (program : Option ℕ) → freeze.program ≡ program → AllByRecursion (MayBe freeze.process.streams) freeze.moved → descriptors_of (fds_of freeze.process.streams) (packed freeze.moved) ≡ map (landed freeze.moved) freeze.process.streams → ((number : StreamNo) → grant_of (packed freeze.moved) number ≡ taken_grant (find (names number) freeze.moved)) → Lands freeze
lands_for freeze None e moves same grants = record {
  grants = grants;
  moves = moves;
  arrival = came_whole freeze;
  brings = ap (λ (o : Option ℕ). arrived_of (body_for freeze o)) e;
  program = sym e;
  whole = λ _. ap (λ (items : List Carried). Some (record freeze.process { streams = items })) same;
  fresh = λ program image k. none_some program (sym e ∙ k);
}
lands_for freeze (Some program) e moves same grants = record {
  grants = grants;
  moves = moves;
  arrival = came_to_start freeze program;
  brings = ap (λ (o : Option ℕ). arrived_of (body_for freeze o)) e;
  program = sym e;
  whole = λ k. none_some program (sym k ∙ e);
  fresh = λ _ image _. ap (λ (items : List Carried). record freeze.process { image = image; streams = items; moving = true }) same;
}

lands_of : (process : Process) (program : Option ℕ) (freeze : Freeze) → Stays process program freeze → can_move process.streams ≡ true → next_of freeze ≡ None → Lands freeze
lands_of process program freeze h can done =
    let travels = subst (λ (p : Process). list_all can_travel p.streams ≡ true) (sym h.same) (both (nat_le (length process.streams) 16) (list_all can_travel process.streams) can).1 in
    let moves = subst (λ (p : Process). AllByRecursion (MayBe p.streams) freeze.moved) (sym h.same) h.moves in
    let packs = each_packs freeze.process.streams freeze.moved travels moves in
    lands_for freeze freeze.program refl moves (all_land freeze.process.streams freeze.moved packs travels (all_moved freeze.moved freeze.process.streams done)) (λ number. grants_are number freeze.moved packs)

pub each_lands : EachLands
each_lands process to program moves can done =
    lands_of process program (moved_all moves (frozen_for process to program)) (all_stays process program (frozen_for process to program) moves (record { same = refl; start = refl; moves = none_yet process.streams 16 })) can done
