-- Which streams lead to files, after a stream is put, changed or taken out, and after its lock is taken or freed.
use Rattle.std.proofs.Common.{◌≡◌, ℕ, ◌==◌, Bool, true, false, cond, List, [], ◌∷◌, Option, Some, None, refl, sym, ap, ◌∙◌, find, fold, is_some}
use Rattle.std.proofs.lemmas.Bool.{and_parts}
use Rattle.std.specs.List.{list_all}
use Rattle.sprite_ids.specs.declared.Object.{Object}
use Rattle.sprite_ids.specs.declared.Object.TheVariants as objects
use Rattle.sprite_ids.specs.declared.StreamNo.{StreamNo}
use Rattle.sprite_ids.specs.Lists.{put, without}
use Rattle.stream_table.specs.declared.Carried.{Carried}
use Rattle.stream_table.specs.declared.Place.{Place}
use Rattle.stream_table.specs.declared.Stream.{Stream}
use Rattle.stream_table.specs.Entries.{Entry, holder_of, is_of, is_open, leaving, left, locked, locking, placed, placing, stream_in, stream_of, unlocked, unlocking}
use Rattle.stream_table.specs.Owners.{descriptor, is_number, is_referred}
use Rattle.stream_table.specs.Streams.{Table, added, adding, arriving, closed, closing, free, freed, merged}
use Rattle.stream_table.proofs.EntryLaws.{one_number}
use Rattle.stream_table.proofs.FoundLaws.{entry, find_put, find_without, open_left}
use Rattle.stream_table.proofs.TableLaws.{descriptor_open}
use Rattle.client_files.specs.Arrivals.{is_known_so, leads_there, same_object}
use Rattle.lock_facts.proofs.OwnerLaws.{others_closed}
use Rattle.lock_facts.proofs.TableFacts.{Lawful, closed_so}
use Rattle.lock_holders.specs.HolderFacts.{is_file, is_file_object}

-- each number leads to the same stream
abbrev pub SameStreams : List Entry → List Entry → Type 0
SameStreams es more = (m : StreamNo) → stream_of more m ≡ stream_of es m

-- each file's stream is a file's still
abbrev pub KeepsFiles : List Entry → List Entry → Type 0
KeepsFiles es more = (m : StreamNo) → is_file (stream_of es m) ≡ true → is_file (stream_of more m) ≡ true

pub same_files : (es more : List Entry) → SameStreams es more → KeepsFiles es more
same_files es more same m file = ap is_file (same m) ∙ file

put_by : (b : Bool) (e : Entry) (o : Option Entry) → stream_in (cond b (Some e) o) ≡ cond b e.stream (stream_in o)
put_by true e o = refl
put_by false e o = refl

out_by : (b : Bool) (o : Option Entry) → stream_in (cond b None o) ≡ cond b None (stream_in o)
out_by true o = refl
out_by false o = refl

stream_put : (m n : StreamNo) (stream : Option Stream) (holder : Option ℕ) (es : List Entry) → stream_of (put (is_of n) (entry n stream holder) es) m ≡ cond (is_number m n) stream (stream_of es m)
stream_put m n stream holder es = ap stream_in (find_put m n stream holder es) ∙ put_by (is_number m n) (entry n stream holder) (find (is_of m) es)

stream_without : (m n : StreamNo) (es : List Entry) → stream_of (without (is_of n) es) m ≡ cond (is_number m n) None (stream_of es m)
stream_without m n es = ap stream_in (find_without m n es) ∙ out_by (is_number m n) (find (is_of m) es)

kept_as : (m n : StreamNo) (es : List Entry) (stream : Option Stream) (b : Bool) → is_number m n ≡ b → stream_of es n ≡ stream → cond b stream (stream_of es m) ≡ stream_of es m
kept_as m n es stream true e s = sym (ap (stream_of es) (one_number m n e) ∙ s)
kept_as m n es stream false e s = refl

-- Locks

same_locking : (o : Option ℕ) (es : List Entry) (n : StreamNo) (pid : ℕ) → SameStreams es (locking es n pid o)
same_locking (Some holder) es n pid m = refl
same_locking None es n pid m = stream_put m n (stream_of es n) (Some pid) es ∙ kept_as m n es (stream_of es n) (is_number m n) refl refl

pub same_locked : (es : List Entry) (n : StreamNo) (pid : ℕ) → SameStreams es (locked es n pid)
same_locked es n pid = same_locking (holder_of es n) es n pid

same_unlocking : (o : Option Stream) (es : List Entry) (n : StreamNo) → stream_of es n ≡ o → SameStreams es (unlocking es n o)
same_unlocking (Some stream) es n e m = stream_put m n (Some stream) None es ∙ kept_as m n es (Some stream) (is_number m n) refl e
same_unlocking None es n e m = stream_without m n es ∙ kept_as m n es None (is_number m n) refl e

pub same_unlocked : (es : List Entry) (n : StreamNo) → SameStreams es (unlocked es n)
same_unlocked es n = same_unlocking (stream_of es n) es n refl

-- Streams that are put and changed

files_by : (m n : StreamNo) (es : List Entry) (stream : Stream) (b : Bool) → is_number m n ≡ b → (is_file (stream_of es n) ≡ true → is_file_object stream.object ≡ true) → is_file (stream_of es m) ≡ true → is_file (cond b (Some stream) (stream_of es m)) ≡ true
files_by m n es stream true e so file = so (ap (λ (k : StreamNo). is_file (stream_of es k)) (sym (one_number m n e)) ∙ file)
files_by m n es stream false e so file = file

files_put : (es : List Entry) (n : StreamNo) (stream : Stream) (holder : Option ℕ) → (is_file (stream_of es n) ≡ true → is_file_object stream.object ≡ true) → KeepsFiles es (put (is_of n) (entry n (Some stream) holder) es)
files_put es n stream holder so m file = ap is_file (stream_put m n (Some stream) holder es) ∙ files_by m n es stream (is_number m n) refl so file

files_placing : (o : Option Stream) (es : List Entry) (n : StreamNo) (place : Place) → stream_of es n ≡ o → KeepsFiles es (placing es n place o)
files_placing (Some stream) es n place e = files_put es n (record stream { place = place }) (holder_of es n) (λ file. sym (ap is_file e) ∙ file)
files_placing None es n place e = λ m file. file

pub files_placed : (es : List Entry) (n : StreamNo) (place : Place) → KeepsFiles es (placed es n place)
files_placed es n place = files_placing (stream_of es n) es n place refl

-- one that wasn't open is opened
never_file : (o : Option Stream) → is_some o ≡ false → is_file o ≡ true → true ≡ false
never_file (Some stream) e file = e
never_file None e file = sym file

files_adding : (o : Option ℕ) (table : Table) (pid : ℕ) (n : StreamNo) (stream : Stream) → is_open table.entries n ≡ false → KeepsFiles table.entries (adding table pid n stream o).entries
files_adding (Some fd) table pid n stream new = files_put table.entries n stream (holder_of table.entries n) (λ file. absurd (let no = never_file (stream_of table.entries n) new file in cc))
files_adding None table pid n stream new = λ m file. file

pub files_added : (table : Table) (pid : ℕ) (n : StreamNo) (stream : Stream) → is_open table.entries n ≡ false → KeepsFiles table.entries (added table pid n stream).entries
files_added table pid n stream new = files_adding (free table.owners pid) table pid n stream new

-- Streams that come, each of which leads where the open one of its number does

file_like : (object other : Object) → same_object object other ≡ true → is_file_object other ≡ true → is_file_object object ≡ true
file_like (objects.File file) other e is = refl
file_like (objects.Device device) (objects.File file) e is = absurd (cc)
file_like (objects.Device device) (objects.Device other) e is = absurd (cc)
file_like (objects.Device device) (objects.Master other) e is = absurd (cc)
file_like (objects.Master device) (objects.File file) e is = absurd (cc)
file_like (objects.Master device) (objects.Device other) e is = absurd (cc)
file_like (objects.Master device) (objects.Master other) e is = absurd (cc)

known_file : (o : Option Stream) (object : Object) → leads_there object o ≡ true → is_file o ≡ true → is_file_object object ≡ true
known_file (Some stream) object e file = file_like object stream.object e file
known_file None object e file = absurd (cc)

come_by : (m n : StreamNo) (before es : List Entry) (stream : Stream) (b : Bool) → is_number m n ≡ b → (is_file (stream_of before n) ≡ true → is_file_object stream.object ≡ true) → (is_file (stream_of before m) ≡ true → is_file (stream_of es m) ≡ true) → is_file (stream_of before m) ≡ true → is_file (cond b (Some stream) (stream_of es m)) ≡ true
come_by m n before es stream true e so keeps file = so (ap (λ (k : StreamNo). is_file (stream_of before k)) (sym (one_number m n e)) ∙ file)
come_by m n before es stream false e so keeps file = keeps file

files_arrived : (items : List Carried) (before es : List Entry) → list_all (is_known_so before) items ≡ true → KeepsFiles before es → KeepsFiles before (fold (λ entries (item : Carried). put (is_of item.number) (merged before item) entries) es items)
files_arrived [] before es known keeps = keeps
files_arrived (item ∷ rest) before es known keeps =
    let parts = and_parts (is_known_so before item) (list_all (is_known_so before) rest) known in
    files_arrived rest before (put (is_of item.number) (merged before item) es) parts.1
    (λ m file. ap is_file (stream_put m item.number (merged before item).stream (merged before item).holder es)
    ∙ come_by m item.number before es _ (is_number m item.number) refl (known_file (stream_of before item.number) item.stream.object parts.0) (keeps m) file)

pub files_arriving : (items : List Carried) (table : Table) (pid : ℕ) → list_all (is_known_so table.entries) items ≡ true → KeepsFiles table.entries (arriving table pid items).entries
files_arriving [] table pid known = λ m file. file
files_arriving (item ∷ rest) table pid known = files_arrived (item ∷ rest) table.entries table.entries known (λ m file. file)

-- A descriptor is closed

left_by : (o : Option ℕ) (es : List Entry) (n m : StreamNo) → is_number m n ≡ false → stream_of (leaving es n o) m ≡ stream_of es m
left_by (Some holder) es n m apart = stream_put m n None (Some holder) es ∙ ap (λ (b : Bool). cond b None (stream_of es m)) apart
left_by None es n m apart = stream_without m n es ∙ ap (λ (b : Bool). cond b None (stream_of es m)) apart

left_files : (es : List Entry) (n m : StreamNo) (b : Bool) → is_number m n ≡ b → is_open (left es n) m ≡ true → is_file (stream_of es m) ≡ true → is_file (stream_of (left es n) m) ≡ true
left_files es n m true e still file = absurd (let no = open_left m n es ∙ ap (λ (b : Bool). cond b false (is_open es m)) e in let both = sym still ∙ no in cc)
left_files es n m false e still file = ap is_file (left_by (holder_of es n) es n m e) ∙ file

settled_files : (b : Bool) (es : List Entry) (n m : StreamNo) → is_open (cond b es (left es n)) m ≡ true → is_file (stream_of es m) ≡ true → is_file (stream_of (cond b es (left es n)) m) ≡ true
settled_files true es n m still file = file
settled_files false es n m still file = left_files es n m (is_number m n) refl still file

closing_files : (o : Option StreamNo) (table : Table) (pid fd : ℕ) (m : StreamNo) → is_open (closing table pid fd o).entries m ≡ true → is_file (stream_of table.entries m) ≡ true → is_file (stream_of (closing table pid fd o).entries m) ≡ true
closing_files (Some n) table pid fd m still file = settled_files (is_referred (freed table.owners pid fd) n) table.entries n m still file
closing_files None table pid fd m still file = file

-- a file's stream to which another process's descriptor leads is one still
pub files_closed : (table : Table) (pid fd other slot : ℕ) (m : StreamNo) → Lawful table → (other == pid) ≡ false → descriptor table.owners other slot ≡ Some m → is_file (stream_of table.entries m) ≡ true → is_file (stream_of (closed table pid fd).entries m) ≡ true
files_closed table pid fd other slot m is apart leads file =
    closing_files (descriptor table.owners pid fd) table pid fd m
    (descriptor_open (closed table pid fd).owners (closed table pid fd).entries other slot m (closed_so table pid fd is) (others_closed table pid fd other slot m apart leads)) file
