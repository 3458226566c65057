-- A stream table stays one: each process and each stream stand once, and a stream is open where a descriptor leads to it.
use Rattle.std.proofs.Common.{◌≡◌, ℕ, nat_le, nat_lt, ◌<◌, Bool, true, false, ◌&&◌, cond, List, [], ◌∷◌, Option, Some, None, refl, sym, ap, ◌∙◌, is_some}
use Rattle.std.proofs.lemmas.Bool.{and_parts, ltb-true}
use Rattle.std.specs.List.{AllByRecursion, list_all}
use Rattle.sprite_ids.specs.declared.StreamNo.{StreamNo}
use Rattle.stream_table.specs.declared.Carried.{Carried}
use Rattle.stream_table.specs.declared.Place.{Place}
use Rattle.stream_table.specs.declared.Stream.{Stream}
use Rattle.stream_table.specs.Entries.{Entry, holder_of, is_placed, left, locked, locking, may_be_at, placed, placing, stream_of, unlocked, unlocking}
use Rattle.stream_table.specs.Owners.{Owner, descriptor, is_referred, is_used, numbers_of}
use Rattle.stream_table.specs.Streams.{IsTable, Table, added, adding, arriving, closed, closing, dupped, dupping, free, freed}
use Rattle.stream_table.proofs.TableLaws.{added_table, arrived_table, descriptor_open, dupped_table, left_table, locked_table, placed_table, shared_table, unlocked_none, unlocked_some}
use Rattle.client_files.specs.Arrivals.{are_apart, is_fit}
use Rattle.client_files.proofs.ArrivalLaws.{apart_once}

abbrev pub Lawful : Table → Type 0
Lawful table = IsTable table.owners table.entries

-- Locks

locking_so : (o : Option ℕ) (os : List Owner) (es : List Entry) (n : StreamNo) (pid : ℕ) → IsTable os es → IsTable os (locking es n pid o)
locking_so (Some holder) os es n pid is = is
locking_so None os es n pid is = locked_table os es n pid is

pub locked_so : (os : List Owner) (es : List Entry) (n : StreamNo) (pid : ℕ) → IsTable os es → IsTable os (locked es n pid)
locked_so os es n pid is = locking_so (holder_of es n) os es n pid is

unlocking_so : (o : Option Stream) (os : List Owner) (es : List Entry) (n : StreamNo) → stream_of es n ≡ o → IsTable os es → IsTable os (unlocking es n o)
unlocking_so (Some stream) os es n e is = unlocked_some os es n stream is e
unlocking_so None os es n e is = unlocked_none os es n is e

pub unlocked_so : (os : List Owner) (es : List Entry) (n : StreamNo) → IsTable os es → IsTable os (unlocked es n)
unlocked_so os es n is = unlocking_so (stream_of es n) os es n refl is

placing_so : (o : Option Stream) (os : List Owner) (es : List Entry) (n : StreamNo) (place : Place) → stream_of es n ≡ o → may_be_at place (stream_of es n) ≡ true → IsTable os es → IsTable os (placing es n place o)
placing_so (Some stream) os es n place e may is = placed_table os es n place stream is e may
placing_so None os es n place e may is = is

-- an offset goes somewhere else
pub placed_so : (os : List Owner) (es : List Entry) (n : StreamNo) (place : Place) → may_be_at place (stream_of es n) ≡ true → IsTable os es → IsTable os (placed es n place)
placed_so os es n place may is = placing_so (stream_of es n) os es n place refl may is

-- Descriptors

adding_so : (o : Option ℕ) (table : Table) (pid : ℕ) (n : StreamNo) (stream : Stream) → free table.owners pid ≡ o → is_placed stream ≡ true → Lawful table → Lawful (adding table pid n stream o)
adding_so (Some slot) table pid n stream e at is = added_table table.owners table.entries pid slot n stream is e at
adding_so None table pid n stream e at is = is

pub added_so : (table : Table) (pid : ℕ) (n : StreamNo) (stream : Stream) → is_placed stream ≡ true → Lawful table → Lawful (added table pid n stream)
added_so table pid n stream at is = adding_so (free table.owners pid) table pid n stream refl at is

dupping_so : (o : Option StreamNo) (p : Option ℕ) (table : Table) (pid fd : ℕ) → descriptor table.owners pid fd ≡ o → free table.owners pid ≡ p → Lawful table → IsTable (dupping table.owners pid o p) table.entries
dupping_so (Some n) (Some slot) table pid fd e f is = dupped_table table.owners table.entries pid slot fd n is f e
dupping_so (Some n) None table pid fd e f is = is
dupping_so None p table pid fd e f is = is

pub dupped_so : (table : Table) (pid fd : ℕ) → Lawful table → Lawful (dupped table pid fd)
dupped_so table pid fd is = dupping_so (descriptor table.owners pid fd) (free table.owners pid) table pid fd refl refl is

settled_so : (b : Bool) (table : Table) (pid fd : ℕ) (n : StreamNo) → descriptor table.owners pid fd ≡ Some n → is_referred (freed table.owners pid fd) n ≡ b → Lawful table → IsTable (freed table.owners pid fd) (cond b table.entries (left table.entries n))
settled_so true table pid fd n e more is = shared_table table.owners table.entries pid fd n is e more
settled_so false table pid fd n e last is = left_table table.owners table.entries pid fd n is e last

closing_so : (o : Option StreamNo) (table : Table) (pid fd : ℕ) → descriptor table.owners pid fd ≡ o → Lawful table → Lawful (closing table pid fd o)
closing_so (Some n) table pid fd e is = settled_so (is_referred (freed table.owners pid fd) n) table pid fd n e refl is
closing_so None table pid fd e is = is

pub closed_so : (table : Table) (pid fd : ℕ) → Lawful table → Lawful (closed table pid fd)
closed_so table pid fd is = closing_so (descriptor table.owners pid fd) table pid fd refl is

-- a stream to which a descriptor leads is open
pub leads_open : (table : Table) (pid fd : ℕ) (n : StreamNo) → Lawful table → descriptor table.owners pid fd ≡ Some n → stream_of table.entries n ≡ None → true ≡ false
leads_open table pid fd n is e none = sym (descriptor_open table.owners table.entries pid fd n is e) ∙ ap is_some none

-- Processes that arrive

fit_parts : (a b c : Bool) → (a && b && c) ≡ true → (a ≡ true) × (c ≡ true)
fit_parts true true true e = (refl, refl)
fit_parts true true false e = absurd (cc)
fit_parts true false c e = absurd (cc)
fit_parts false b c e = absurd (cc)

few_fit : (items : List Carried) → list_all is_fit items ≡ true → AllByRecursion (λ (item : Carried). item.fd < 16) items
few_fit [] e = tt
few_fit (item ∷ items) e =
    let parts = and_parts (is_fit item) (list_all is_fit items) e in
    (ltb-true item.fd 16 (fit_parts (nat_lt item.fd 16) (nat_le item.stream.grants 2000000000) (is_placed item.stream) parts.0).0, few_fit items parts.1)

placed_fit : (items : List Carried) → list_all is_fit items ≡ true → AllByRecursion (λ (item : Carried). is_placed item.stream ≡ true) items
placed_fit [] e = tt
placed_fit (item ∷ items) e =
    let parts = and_parts (is_fit item) (list_all is_fit items) e in
    ((fit_parts (nat_lt item.fd 16) (nat_le item.stream.grants 2000000000) (is_placed item.stream) parts.0).1, placed_fit items parts.1)

pub arriving_so : (items : List Carried) (table : Table) (pid : ℕ) → is_used (numbers_of table.owners pid) ≡ false → are_apart items ≡ true → list_all is_fit items ≡ true → Lawful table → Lawful (arriving table pid items)
arriving_so [] table pid none apart fit is = is
arriving_so (item ∷ rest) table pid none apart fit is = arrived_table table.owners table.entries pid (item ∷ rest) is none (apart_once (item ∷ rest) apart) (few_fit (item ∷ rest) fit) (placed_fit (item ∷ rest) fit)
