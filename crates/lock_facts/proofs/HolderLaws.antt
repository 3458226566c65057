-- Who holds which lock, after a stream is put, changed or taken out, and after its lock is taken or freed.
use Rattle.std.proofs.Common.{◌≡◌, ℕ, Bool, true, false, cond, List, [], ◌∷◌, Option, Some, None, refl, sym, ap, ◌∙◌, find, fold}
use Rattle.std.proofs.lemmas.Bool.{eqb-true}
use Rattle.sprite_ids.specs.declared.StreamNo.{StreamNo}
use Rattle.sprite_ids.specs.Lists.{put, without}
use Rattle.stream_table.specs.declared.Carried.{Carried}
use Rattle.stream_table.specs.declared.Place.{Place}
use Rattle.stream_table.specs.declared.Stream.{Stream}
use Rattle.stream_table.specs.Entries.{Entry, has_lock, holder_in, holder_of, is_of, leaving, left, locked, locking, opened, placed, placing, stream_of, unlocked, unlocking}
use Rattle.stream_table.specs.Owners.{descriptor, is_number, is_referred}
use Rattle.stream_table.specs.Streams.{Table, added, adding, arriving, closed, closing, free, freed, merged}
use Rattle.stream_table.proofs.EntryLaws.{number_itself, one_number}
use Rattle.stream_table.proofs.FoundLaws.{entry, find_put, find_without}

-- each stream's lock has the same holder
abbrev pub SameHolders : List Entry → List Entry → Type 0
SameHolders es more = (m : StreamNo) → holder_of more m ≡ holder_of es m

-- who holds a lock has it still
abbrev pub KeepsHolders : List Entry → List Entry → Type 0
KeepsHolders es more = (m : StreamNo) (pid : ℕ) → holder_of es m ≡ Some pid → holder_of more m ≡ Some pid

pub same_keeps : (es more : List Entry) → SameHolders es more → KeepsHolders es more
same_keeps es more same m pid e = same m ∙ e

put_by : (b : Bool) (e : Entry) (o : Option Entry) → holder_in (cond b (Some e) o) ≡ cond b e.holder (holder_in o)
put_by true e o = refl
put_by false e o = refl

out_by : (b : Bool) (o : Option Entry) → holder_in (cond b None o) ≡ cond b None (holder_in o)
out_by true o = refl
out_by false o = refl

pub holder_put : (m n : StreamNo) (stream : Option Stream) (holder : Option ℕ) (es : List Entry) → holder_of (put (is_of n) (entry n stream holder) es) m ≡ cond (is_number m n) holder (holder_of es m)
holder_put m n stream holder es = ap holder_in (find_put m n stream holder es) ∙ put_by (is_number m n) (entry n stream holder) (find (is_of m) es)

holder_without : (m n : StreamNo) (es : List Entry) → holder_of (without (is_of n) es) m ≡ cond (is_number m n) None (holder_of es m)
holder_without m n es = ap holder_in (find_without m n es) ∙ out_by (is_number m n) (find (is_of m) es)

kept_as : (m n : StreamNo) (es : List Entry) (holder : Option ℕ) (b : Bool) → is_number m n ≡ b → holder_of es n ≡ holder → cond b holder (holder_of es m) ≡ holder_of es m
kept_as m n es holder true e h = sym (ap (holder_of es) (one_number m n e) ∙ h)
kept_as m n es holder false e h = refl

-- Streams that are put, changed or closed

pub same_opened : (es : List Entry) (n : StreamNo) (stream : Stream) → SameHolders es (opened es n stream)
same_opened es n stream m = holder_put m n (Some stream) (holder_of es n) es ∙ kept_as m n es (holder_of es n) (is_number m n) refl refl

same_placing : (o : Option Stream) (es : List Entry) (n : StreamNo) (place : Place) → SameHolders es (placing es n place o)
same_placing (Some stream) es n place = same_opened es n (record stream { place = place })
same_placing None es n place = λ m. refl

pub same_placed : (es : List Entry) (n : StreamNo) (place : Place) → SameHolders es (placed es n place)
same_placed es n place = same_placing (stream_of es n) es n place

same_leaving : (o : Option ℕ) (es : List Entry) (n : StreamNo) → holder_of es n ≡ o → SameHolders es (leaving es n o)
same_leaving (Some holder) es n e m = holder_put m n None (Some holder) es ∙ kept_as m n es (Some holder) (is_number m n) refl e
same_leaving None es n e m = holder_without m n es ∙ kept_as m n es None (is_number m n) refl e

same_left : (es : List Entry) (n : StreamNo) → SameHolders es (left es n)
same_left es n = same_leaving (holder_of es n) es n refl

same_if : (b : Bool) (es xs ys : List Entry) → SameHolders es xs → SameHolders es ys → SameHolders es (cond b xs ys)
same_if true es xs ys h k = h
same_if false es xs ys h k = k

same_closing : (o : Option StreamNo) (table : Table) (pid fd : ℕ) → SameHolders table.entries (closing table pid fd o).entries
same_closing (Some n) table pid fd = same_if (is_referred (freed table.owners pid fd) n) table.entries table.entries (left table.entries n) (λ m. refl) (same_left table.entries n)
same_closing None table pid fd = λ m. refl

pub same_closed : (table : Table) (pid fd : ℕ) → SameHolders table.entries (closed table pid fd).entries
same_closed table pid fd = same_closing (descriptor table.owners pid fd) table pid fd

same_adding : (o : Option ℕ) (table : Table) (pid : ℕ) (n : StreamNo) (stream : Stream) → SameHolders table.entries (adding table pid n stream o).entries
same_adding (Some fd) table pid n stream = same_opened table.entries n stream
same_adding None table pid n stream = λ m. refl

pub same_added : (table : Table) (pid : ℕ) (n : StreamNo) (stream : Stream) → SameHolders table.entries (added table pid n stream).entries
same_added table pid n stream = same_adding (free table.owners pid) table pid n stream

-- Streams that come

same_merged : (before es : List Entry) (item : Carried) → SameHolders before es → SameHolders before (put (is_of item.number) (merged before item) es)
same_merged before es item same m =
    holder_put m item.number (merged before item).stream (holder_of before item.number) es
    ∙ ap (λ (o : Option ℕ). cond (is_number m item.number) (holder_of before item.number) o) (same m)
    ∙ kept_as m item.number before (holder_of before item.number) (is_number m item.number) refl refl

same_arrived : (carried : List Carried) (before es : List Entry) → SameHolders before es → SameHolders before (fold (λ entries (item : Carried). put (is_of item.number) (merged before item) entries) es carried)
same_arrived [] before es same = same
same_arrived (item ∷ rest) before es same = same_arrived rest before (put (is_of item.number) (merged before item) es) (same_merged before es item same)

pub same_arriving : (carried : List Carried) (table : Table) (pid : ℕ) → SameHolders table.entries (arriving table pid carried).entries
same_arriving [] table pid = λ m. refl
same_arriving (item ∷ rest) table pid = same_arrived (item ∷ rest) table.entries table.entries (λ m. refl)

-- Locks that are taken and freed

still_held : (m n : StreamNo) (es : List Entry) (holder : Option ℕ) (pid : ℕ) (b : Bool) → is_number m n ≡ b → holder_of es n ≡ None → holder_of es m ≡ Some pid → cond b holder (holder_of es m) ≡ Some pid
still_held m n es holder pid true e free h = absurd (let none : holder_of es m ≡ None = ap (holder_of es) (one_number m n e) ∙ free in let both = sym h ∙ none in cc)
still_held m n es holder pid false e free h = h

keeps_locking : (o : Option ℕ) (es : List Entry) (n : StreamNo) (pid : ℕ) → holder_of es n ≡ o → KeepsHolders es (locking es n pid o)
keeps_locking (Some holder) es n pid e m other h = h
keeps_locking None es n pid e m other h = holder_put m n (stream_of es n) (Some pid) es ∙ still_held m n es (Some pid) other (is_number m n) refl e h

-- who holds a lock has it still where somebody asks for one
pub keeps_locked : (es : List Entry) (n : StreamNo) (pid : ℕ) → KeepsHolders es (locked es n pid)
keeps_locked es n pid = keeps_locking (holder_of es n) es n pid refl

got_locking : (o : Option ℕ) (es : List Entry) (n : StreamNo) (pid : ℕ) → holder_of es n ≡ o → has_lock pid o ≡ true → holder_of (locking es n pid o) n ≡ Some pid
got_locking (Some holder) es n pid e gets = e ∙ ap Some (eqb-true holder pid gets)
got_locking None es n pid e gets = holder_put n n (stream_of es n) (Some pid) es ∙ ap (λ (b : Bool). cond b (Some pid) (holder_of es n)) (number_itself n)

-- who gets it holds it
pub got_locked : (es : List Entry) (n : StreamNo) (pid : ℕ) → has_lock pid (holder_of es n) ≡ true → holder_of (locked es n pid) n ≡ Some pid
got_locked es n pid gets = got_locking (holder_of es n) es n pid refl gets

unlocking_holder : (o : Option Stream) (es : List Entry) (n m : StreamNo) → holder_of (unlocking es n o) m ≡ cond (is_number m n) None (holder_of es m)
unlocking_holder (Some stream) es n m = holder_put m n (Some stream) None es
unlocking_holder None es n m = holder_without m n es

pub unlocked_holder : (es : List Entry) (n m : StreamNo) → holder_of (unlocked es n) m ≡ cond (is_number m n) None (holder_of es m)
unlocked_holder es n m = unlocking_holder (stream_of es n) es n m

-- a lock that is freed is free, and others have their holders
pub freed_own : (es : List Entry) (n : StreamNo) → holder_of (unlocked es n) n ≡ None
freed_own es n = unlocked_holder es n n ∙ ap (λ (b : Bool). cond b None (holder_of es n)) (number_itself n)

pub freed_other : (es : List Entry) (n m : StreamNo) → is_number m n ≡ false → holder_of (unlocked es n) m ≡ holder_of es m
freed_other es n m e = unlocked_holder es n m ∙ ap (λ (b : Bool). cond b None (holder_of es m)) e
