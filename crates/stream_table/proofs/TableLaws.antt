-- What the table always is stays so after each of its calls.
use Rattle.std.proofs.Common.{◌≡◌, ℕ, zero, suc, ◌<◌, ◌==◌, ◌||◌, rules, tests, Bool, true, false, not, cond, List, [], ◌∷◌, replicate, fold, Option, Some, None, refl, sym, ap, subst, ◌∙◌, arith, true≢false, is_some, slice_get, slice_set}
use Rattle.std.specs.List.{AllByRecursion, list_any}
use Rattle.std.proofs.lemmas.Bool.Decides.{eqb_tells}
use Rattle.sprite_ids.specs.declared.StreamNo.{StreamNo}
use Rattle.sprite_ids.proofs.ListLaws.{each_filter, get_set_other}
use Rattle.stream_table.specs.Entries.{Entry}
use Rattle.stream_table.specs.Owners.{Owner}
use Rattle.stream_table.specs.declared.stream.Stream.{Stream}
use Rattle.stream_table.specs.declared.stream.Place.{Place}
use Rattle.stream_table.specs.declared.stream.Carried.{Carried}
use Rattle.sprite_ids.specs.Lists.{put, without, EachOnce}
use Rattle.stream_table.specs.Owners.{is_number, is_used, is_owner, same_owner, is_referred, nothing, numbers_of, descriptor, kept}
use Rattle.stream_table.specs.Entries.{is_of, is_open, is_placed, is_placed_in, may_be_at, same_entry, stream_of, holder_of, opened, left, leaving}
use Rattle.stream_table.specs.Streams.{free, with_descriptor, freed, numbers_in, merged, arrived, with_arrived, same_fd, numbered, IsTable}
use Rattle.sprite_ids.proofs.OnceLaws.{put_once, filtered_once, or_false}
use Rattle.stream_table.proofs.EntryLaws.{one_number, entries_same}
use Rattle.stream_table.proofs.OwnerLaws.{owners_same, kept_none, kept_some}
use Rattle.stream_table.proofs.FoundLaws.{entry, open_put, open_left, open_same, open_less, each_put, placed_found}
use Rattle.stream_table.proofs.ReferLaws.{owner, any_names, elsewhere, referred_put, referred_split, referred_kept, no_names, free_slot, names_more, names_less, descriptor_slot, descriptor_names}

more_open : (same o a w : Bool) → o ≡ (a || w) → cond same true o ≡ ((a || same) || w)
more_open true o true w h = refl
more_open true o false w h = refl
more_open false o true w h = h
more_open false o false w h = h

-- a stream was added
pub added_table : (os : List Owner) (es : List Entry) (pid fd : ℕ) (n : StreamNo) (stream : Stream) → IsTable os es → free os pid ≡ Some fd → is_placed stream ≡ true → IsTable (with_descriptor os pid fd n) (opened es n stream)
added_table os es pid fd n stream is slot at = record {
  owners_once = put_once same_owner owners_same (owner pid (slice_set (numbers_of os pid) fd (Some n))) os is.owners_once;
  entries_once = put_once same_entry entries_same (entry n (Some stream) (holder_of es n)) es is.entries_once;
  are_open = λ m. open_put m n (Some stream) (holder_of es n) es
      ∙ more_open (is_number m n) (is_open es m) (any_names m (numbers_of os pid)) (elsewhere os pid m) (is.are_open m ∙ referred_split os pid m is.owners_once)
      ∙ sym (referred_put os pid (slice_set (numbers_of os pid) fd (Some n)) m is.owners_once ∙ ap (λ b. b || elsewhere os pid m) (names_more m n (numbers_of os pid) fd (free_slot (numbers_of os pid) fd slot)));
  are_placed = each_put (λ (e : Entry). is_placed_in e.stream ≡ true) (is_of n) (entry n (Some stream) (holder_of es n)) es at is.are_placed;
}

same_true : (m n : StreamNo) (numbers : List (Option StreamNo)) → is_number m n ≡ true → any_names n numbers ≡ true → any_names m numbers ≡ true
same_true m n numbers e h = ap (λ (k : StreamNo). any_names k numbers) (one_number m n e) ∙ h

again : (a same w o : Bool) → (same ≡ true → a ≡ true) → o ≡ (a || w) → o ≡ ((a || same) || w)
again true same w o f h = h
again false true w o f h = absurd (true≢false (sym (f refl)))
again false false w o f h = h

-- a descriptor was doubled
pub dupped_table : (os : List Owner) (es : List Entry) (pid fd known : ℕ) (n : StreamNo) → IsTable os es → free os pid ≡ Some fd → descriptor os pid known ≡ Some n → IsTable (with_descriptor os pid fd n) es
dupped_table os es pid fd known n is slot leads = record {
  owners_once = put_once same_owner owners_same (owner pid (slice_set (numbers_of os pid) fd (Some n))) os is.owners_once;
  entries_once = is.entries_once;
  are_open = λ m. again (any_names m (numbers_of os pid)) (is_number m n) (elsewhere os pid m) (is_open es m) (λ e. same_true m n (numbers_of os pid) e (descriptor_names os pid known n leads)) (is.are_open m ∙ referred_split os pid m is.owners_once)
      ∙ sym (referred_put os pid (slice_set (numbers_of os pid) fd (Some n)) m is.owners_once ∙ ap (λ b. b || elsewhere os pid m) (names_more m n (numbers_of os pid) fd (free_slot (numbers_of os pid) fd slot)));
  are_placed = is.are_placed;
}

shared_names : (a w v o : Bool) → o ≡ w → o ≡ (a || v) → o ≡ (a || w)
shared_names true w v o h k = k
shared_names false w v o h k = h

-- a child has its parent's descriptors
pub forked_table : (os : List Owner) (es : List Entry) (parent child : ℕ) → IsTable os es → is_used (numbers_of os child) ≡ false → IsTable (put (is_owner child) (owner child (numbers_of os parent)) os) es
forked_table os es parent child is none = record {
  owners_once = put_once same_owner owners_same (owner child (numbers_of os parent)) os is.owners_once;
  entries_once = is.entries_once;
  are_open = λ m. shared_names (any_names m (numbers_of os parent)) (elsewhere os child m) (elsewhere os parent m) (is_open es m)
      (is.are_open m ∙ referred_split os child m is.owners_once ∙ ap (λ b. b || elsewhere os child m) (no_names m (numbers_of os child) none))
      (is.are_open m ∙ referred_split os parent m is.owners_once)
      ∙ sym (referred_put os child (numbers_of os parent) m is.owners_once);
  are_placed = is.are_placed;
}

kept_once_by : (os : List Owner) (o : Owner) (b : Bool) → is_used o.numbers ≡ b → EachOnce same_owner os → EachOnce same_owner (kept os o)
kept_once_by os o true e h = subst (EachOnce same_owner) (sym (kept_some os o e)) (put_once same_owner owners_same o os h)
kept_once_by os o false e h = subst (EachOnce same_owner) (sym (kept_none os o e)) (filtered_once same_owner (λ x. not (is_owner o.pid x)) os h)

kept_once : (os : List Owner) (o : Owner) → EachOnce same_owner os → EachOnce same_owner (kept os o)
kept_once os o h = kept_once_by os o (is_used o.numbers) refl h

still_open : (c same w o : Bool) → (same ≡ true → (c || w) ≡ true) → o ≡ ((c || same) || w) → o ≡ (c || w)
still_open true same w o f h = h
still_open false true w o f h = h ∙ sym (f refl)
still_open false false w o f h = h

no_longer : (c same w o : Bool) → (same ≡ true → (c || w) ≡ false) → o ≡ ((c || same) || w) → cond same false o ≡ (c || w)
no_longer c true w o f h = sym (f refl)
no_longer true false w o f h = h
no_longer false false w o f h = h

left_once_by : (es : List Entry) (n : StreamNo) (holder : Option ℕ) → EachOnce same_entry es → EachOnce same_entry (leaving es n holder)
left_once_by es n (Some pid) h = put_once same_entry entries_same (entry n None (Some pid)) es h
left_once_by es n None h = filtered_once same_entry (λ x. not (is_of n x)) es h

left_placed_by : (es : List Entry) (n : StreamNo) (holder : Option ℕ) → AllByRecursion (λ (e : Entry). is_placed_in e.stream ≡ true) es → AllByRecursion (λ (e : Entry). is_placed_in e.stream ≡ true) (leaving es n holder)
left_placed_by es n (Some pid) h = each_put (λ (e : Entry). is_placed_in e.stream ≡ true) (is_of n) (entry n None (Some pid)) es refl h
left_placed_by es n None h = each_filter (λ (e : Entry). is_placed_in e.stream ≡ true) (λ x. not (is_of n x)) es h

-- where the descriptors lead after one was freed
freed_split : (os : List Owner) (pid fd : ℕ) (m : StreamNo) → EachOnce same_owner os → is_referred (freed os pid fd) m ≡ (any_names m (slice_set (numbers_of os pid) fd None) || elsewhere os pid m)
freed_split os pid fd m once = referred_kept os pid (slice_set (numbers_of os pid) fd None) m once

before_freed : (os : List Owner) (es : List Entry) (pid fd : ℕ) (n m : StreamNo) → IsTable os es → descriptor os pid fd ≡ Some n → is_open es m ≡ ((any_names m (slice_set (numbers_of os pid) fd None) || is_number m n) || elsewhere os pid m)
before_freed os es pid fd n m is leads =
    is.are_open m ∙ referred_split os pid m is.owners_once ∙ ap (λ b. b || elsewhere os pid m) (names_less m n (numbers_of os pid) fd (descriptor_slot os pid fd n leads))

same_referred : (os : List Owner) (pid fd : ℕ) (m n : StreamNo) (b : Bool) → EachOnce same_owner os → is_referred (freed os pid fd) n ≡ b → is_number m n ≡ true → (any_names m (slice_set (numbers_of os pid) fd None) || elsewhere os pid m) ≡ b
same_referred os pid fd m n b once r e =
    sym (freed_split os pid fd m once) ∙ ap (is_referred (freed os pid fd)) (one_number m n e) ∙ r

-- a descriptor was closed, and others lead to its stream
pub shared_table : (os : List Owner) (es : List Entry) (pid fd : ℕ) (n : StreamNo) → IsTable os es → descriptor os pid fd ≡ Some n → is_referred (freed os pid fd) n ≡ true → IsTable (freed os pid fd) es
shared_table os es pid fd n is leads more = record {
  owners_once = kept_once os (owner pid (slice_set (numbers_of os pid) fd None)) is.owners_once;
  entries_once = is.entries_once;
  are_open = λ m. still_open (any_names m (slice_set (numbers_of os pid) fd None)) (is_number m n) (elsewhere os pid m) (is_open es m) (same_referred os pid fd m n true is.owners_once more) (before_freed os es pid fd n m is leads)
      ∙ sym (freed_split os pid fd m is.owners_once);
  are_placed = is.are_placed;
}

-- a descriptor was closed, and no other leads to its stream
pub left_table : (os : List Owner) (es : List Entry) (pid fd : ℕ) (n : StreamNo) → IsTable os es → descriptor os pid fd ≡ Some n → is_referred (freed os pid fd) n ≡ false → IsTable (freed os pid fd) (left es n)
left_table os es pid fd n is leads last = record {
  owners_once = kept_once os (owner pid (slice_set (numbers_of os pid) fd None)) is.owners_once;
  entries_once = left_once_by es n (holder_of es n) is.entries_once;
  are_open = λ m. open_left m n es
      ∙ no_longer (any_names m (slice_set (numbers_of os pid) fd None)) (is_number m n) (elsewhere os pid m) (is_open es m) (same_referred os pid fd m n false is.owners_once last) (before_freed os es pid fd n m is leads)
      ∙ sym (freed_split os pid fd m is.owners_once);
  are_placed = left_placed_by es n (holder_of es n) is.are_placed;
}

-- an entry was put in place of one that was open where it is
pub same_table : (os : List Owner) (es : List Entry) (n : StreamNo) (stream : Option Stream) (holder : Option ℕ) → IsTable os es → is_open es n ≡ is_some stream → is_placed_in stream ≡ true → IsTable os (put (is_of n) (entry n stream holder) es)
same_table os es n stream holder is same at = record {
  owners_once = is.owners_once;
  entries_once = put_once same_entry entries_same (entry n stream holder) es is.entries_once;
  are_open = λ m. open_same m n stream holder es same ∙ is.are_open m;
  are_placed = each_put (λ (e : Entry). is_placed_in e.stream ≡ true) (is_of n) (entry n stream holder) es at is.are_placed;
}

-- the lock was taken
pub locked_table : (os : List Owner) (es : List Entry) (n : StreamNo) (pid : ℕ) → IsTable os es → IsTable os (put (is_of n) (entry n (stream_of es n) (Some pid)) es)
locked_table os es n pid is = same_table os es n (stream_of es n) (Some pid) is refl (placed_found (is_of n) es is.are_placed)

-- the lock of an open stream was freed
pub unlocked_some : (os : List Owner) (es : List Entry) (n : StreamNo) (s : Stream) → IsTable os es → stream_of es n ≡ Some s → IsTable os (put (is_of n) (entry n (Some s) None) es)
unlocked_some os es n s is e = same_table os es n (Some s) None is (ap is_some e) (sym (ap is_placed_in e) ∙ placed_found (is_of n) es is.are_placed)

-- the lock of a stream that isn't open was freed
pub unlocked_none : (os : List Owner) (es : List Entry) (n : StreamNo) → IsTable os es → stream_of es n ≡ None → IsTable os (without (is_of n) es)
unlocked_none os es n is e = record {
  owners_once = is.owners_once;
  entries_once = filtered_once same_entry (λ x. not (is_of n x)) es is.entries_once;
  are_open = λ m. open_less m n es (ap is_some e) ∙ is.are_open m;
  are_placed = each_filter (λ (e : Entry). is_placed_in e.stream ≡ true) (λ x. not (is_of n x)) es is.are_placed;
}

-- an offset went somewhere else
pub placed_table : (os : List Owner) (es : List Entry) (n : StreamNo) (place : Place) (s : Stream) → IsTable os es → stream_of es n ≡ Some s → may_be_at place (stream_of es n) ≡ true → IsTable os (opened es n (record s { place = place }))
placed_table os es n place s is e may = same_table os es n (Some (record s { place = place })) (holder_of es n) is (ap is_some e) (sym (ap (may_be_at place) e) ∙ may)

-- whether one of the descriptors that arrive leads to the stream
abbrev pub any_arrives : StreamNo → List Carried → Bool
any_arrives m carried = list_any (λ item. is_number m item.number) carried

or_cond : (b o : Bool) → cond b true o ≡ (o || b)
or_cond true true = refl
or_cond true false = refl
or_cond false true = refl
or_cond false false = refl

or_joined : (a b c : Bool) → ((a || b) || c) ≡ (a || (b || c))
or_joined true b c = refl
or_joined false b c = refl

arrived_open : (before es : List Entry) (carried : List Carried) (m : StreamNo) → is_open (fold (λ es item. put (is_of item.number) (merged before item) es) es carried) m ≡ (is_open es m || any_arrives m carried)
arrived_open before es [] m = or_none (is_open es m)
  where
    or_none : (b : Bool) → b ≡ (b || false)
    or_none true = refl
    or_none false = refl
arrived_open before es (x ∷ xs) m =
    arrived_open before (put (is_of x.number) (merged before x) es) xs m
    ∙ ap (λ b. b || any_arrives m xs) (open_put m x.number (merged before x).stream (holder_of before x.number) es ∙ or_cond (is_number m x.number) (is_open es m))
    ∙ or_joined (is_open es m) (is_number m x.number) (any_arrives m xs)

arrived_once : (before es : List Entry) (carried : List Carried) → EachOnce same_entry es → EachOnce same_entry (fold (λ es item. put (is_of item.number) (merged before item) es) es carried)
arrived_once before es [] h = h
arrived_once before es (x ∷ xs) h = arrived_once before (put (is_of x.number) (merged before x) es) xs (put_once same_entry entries_same (merged before x) es h)

arrived_placed : (before es : List Entry) (carried : List Carried) → AllByRecursion (λ (item : Carried). is_placed item.stream ≡ true) carried → AllByRecursion (λ (e : Entry). is_placed_in e.stream ≡ true) es → AllByRecursion (λ (e : Entry). is_placed_in e.stream ≡ true) (fold (λ es item. put (is_of item.number) (merged before item) es) es carried)
arrived_placed before es [] k h = h
arrived_placed before es (x ∷ xs) k h = arrived_placed before (put (is_of x.number) (merged before x) es) xs k.1 (each_put (λ (e : Entry). is_placed_in e.stream ≡ true) (is_of x.number) (merged before x) es k.0 h)

-- the descriptors that arrive are free
abbrev pub AreFree : List (Option StreamNo) → List Carried → Type 0
AreFree numbers carried = AllByRecursion (λ (item : Carried). slice_get numbers item.fd ≡ Some None) carried

eq_true : (a b : ℕ) → a ≡ b → (a == b) ≡ true
eq_true a b e = search (rules, tests, eqb_tells a b, e)

other_free : (numbers : List (Option StreamNo)) (fd : ℕ) (n : StreamNo) (x : Carried) (b : Bool) → (fd == x.fd) ≡ b → b ≡ false → slice_get numbers x.fd ≡ Some None → slice_get (slice_set numbers fd (Some n)) x.fd ≡ Some None
other_free numbers fd n x b e f h = get_set_other numbers fd x.fd (Some n) (λ same. true≢false (sym (eq_true fd x.fd same) ∙ e ∙ f)) ∙ h

still_free : (numbers : List (Option StreamNo)) (fd : ℕ) (n : StreamNo) (carried : List Carried) → list_any (λ item. fd == item.fd) carried ≡ false → AreFree numbers carried → AreFree (slice_set numbers fd (Some n)) carried
still_free numbers fd n [] o h = tt
still_free numbers fd n (x ∷ xs) o h =
    let parts = or_false (fd == x.fd) (list_any (λ item. fd == item.fd) xs) o in
    (other_free numbers fd n x (fd == x.fd) refl parts.0 h.0, still_free numbers fd n xs parts.1 h.1)

arrived_names : (numbers : List (Option StreamNo)) (carried : List Carried) (m : StreamNo) → EachOnce same_fd carried → AreFree numbers carried → any_names m (fold (λ numbers item. slice_set numbers item.fd (Some item.number)) numbers carried) ≡ (any_names m numbers || any_arrives m carried)
arrived_names numbers [] m o h = or_none (any_names m numbers)
  where
    or_none : (b : Bool) → b ≡ (b || false)
    or_none true = refl
    or_none false = refl
arrived_names numbers (x ∷ xs) m o h =
    arrived_names (slice_set numbers x.fd (Some x.number)) xs m o.1 (still_free numbers x.fd x.number xs o.0 h.1)
    ∙ ap (λ b. b || any_arrives m xs) (names_more m x.number numbers x.fd h.0)
    ∙ or_joined (any_names m numbers) (is_number m x.number) (any_arrives m xs)

free_nothing : (k fd : ℕ) → fd < k → slice_get {X = Option StreamNo} (replicate k None) fd ≡ Some None
free_nothing zero fd h = absurd (omega arith)
free_nothing (suc k) zero h = refl
free_nothing (suc k) (suc fd) h = free_nothing k fd (omega arith)

nothing_free : (carried : List Carried) → AllByRecursion (λ (item : Carried). item.fd < 16) carried → AreFree nothing carried
nothing_free [] h = tt
nothing_free (x ∷ xs) h = (free_nothing 16 x.fd h.0, nothing_free xs h.1)

joined_open : (o w a : Bool) → o ≡ w → (o || a) ≡ (a || w)
joined_open true true true h = refl
joined_open true true false h = refl
joined_open true false a h = absurd (true≢false h)
joined_open false true a h = absurd (true≢false (sym h))
joined_open false false true h = refl
joined_open false false false h = refl

-- a process arrived with its descriptors
pub arrived_table : (os : List Owner) (es : List Entry) (pid : ℕ) (carried : List Carried) → IsTable os es → is_used (numbers_of os pid) ≡ false → EachOnce same_fd carried → AllByRecursion (λ (item : Carried). item.fd < 16) carried → AllByRecursion (λ (item : Carried). is_placed item.stream ≡ true) carried → IsTable (with_arrived os pid carried) (arrived es carried)
arrived_table os es pid carried is none differ few at = record {
  owners_once = put_once same_owner owners_same (owner pid (numbers_in carried)) os is.owners_once;
  entries_once = arrived_once es es carried is.entries_once;
  are_open = λ m. arrived_open es es carried m
      ∙ joined_open (is_open es m) (elsewhere os pid m) (any_arrives m carried) (is.are_open m ∙ referred_split os pid m is.owners_once ∙ ap (λ b. b || elsewhere os pid m) (no_names m (numbers_of os pid) none))
      ∙ sym (referred_put os pid (numbers_in carried) m is.owners_once ∙ ap (λ b. b || elsewhere os pid m) (arrived_names nothing carried m differ (nothing_free carried few)));
  are_placed = arrived_placed es es carried at is.are_placed;
}

pub some_numbered : (n : StreamNo) (o : Option Stream) → is_some (numbered n o) ≡ is_some o
some_numbered n (Some s) = refl
some_numbered n None = refl

-- a descriptor's stream is open
pub descriptor_open : (os : List Owner) (es : List Entry) (pid fd : ℕ) (n : StreamNo) → IsTable os es → descriptor os pid fd ≡ Some n → is_open es n ≡ true
descriptor_open os es pid fd n is leads =
    is.are_open n ∙ referred_split os pid n is.owners_once ∙ ap (λ b. b || elsewhere os pid n) (descriptor_names os pid fd n leads)
