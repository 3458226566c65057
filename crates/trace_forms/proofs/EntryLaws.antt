-- What is kept of the entries that open files tells of the records, from one to the next.
use Rattle.std.proofs.Common.{◌≡◌, ◌∙◌, ℕ, ◌==◌, Bool, true, false, cond, ◌&&◌, ◌||◌, List, [], ◌∷◌, ◌++◌, Option, Some, None, refl, sym, ap, ap₂, subst}
use Rattle.std.specs.List.{list_all, list_any}
use Rattle.std.proofs.lemmas.Bool.{and_parts, eqb-true, eq-eqb, true≢false, or_left, or_right}
use Rattle.std.proofs.lemmas.List.{append-nil}
use Rattle.sprite_ids.specs.declared.names.FileId.{FileId}
use Rattle.unix_calls.specs.declared.description.Description.{Description}
use Rattle.unix_calls.specs.declared.entry.Entry.{Entry}
use Rattle.unix_calls.specs.declared.event.Event.{Event}
use Rattle.unix_calls.specs.declared.event.Event.TheVariants as event
use Rattle.unix_calls.specs.declared.event.Rec.{Rec}
use Rattle.unix_calls.specs.declared.state.FileName.{FileName}
use Rattle.unix_calls.specs.declared.state.FileName.TheVariants.{Boot, Made}
use Rattle.unix_calls.specs.declared.state.Object.{Object}
use Rattle.unix_calls.specs.declared.state.Object.TheVariants.{OfFile, OfDevice, OfMaster}
use Rattle.unix_calls.specs.declared.state.Stream.{Stream}
use Rattle.unix_calls.specs.State.{same_file as same_name}
use Rattle.call_journal.specs.Formed.{are_alike, tie_agrees, is_due_name, is_entered_well, opens_well}
use Rattle.call_journal.specs.Matching.{same_file}
use Rattle.call_journal.specs.Past.{Past, Tie, state_by, last_event, stream_made, entry_count, is_of_file, file_stream, made_by, tie_to, ties_to, ties_by, no_past, past_with}
use Rattle.trace_places.specs.declared.places.Place.{Place}
use Rattle.trace_places.specs.PlaceLaws.{kernel_told, places_more}
use Rattle.trace_places.specs.Places.{MovesOn, TellsPlaces, is_kernel_of, place_kept}
use Rattle.trace_forms.specs.Openings.{openings_of}
use Rattle.trace_forms.specs.declared.places.FileFor.{FileFor}
use Rattle.trace_forms.specs.declared.entries.Names.{Names}
use Rattle.trace_forms.specs.Parts.{is_entry_well}
use Rattle.trace_forms.specs.Uses.{first_opening}
use Rattle.trace_forms.specs.Entries.{name_at, place_at, file_at, is_free_name, is_free_file, PutsName, PutsObject, KeepsNames, opened_by, opened_in, object_fits, stream_fits, entry_fits, is_pair, is_named, is_filed, TellsNames, TellsEntries}
use Rattle.trace_forms.proofs.ListLaws.{any_more, tail_of, last_more, stays, cond_self, and_true}

-- ---- names and files that are the same

name_is : (a b : FileName) → same_name a b ≡ true → a ≡ b
name_is (Boot i) (Boot j) h = ap Boot (eqb-true i j h)
name_is (Made i) (Made j) h = ap Made (eqb-true i j h)
name_is (Boot i) (Made j) h = absurd (true≢false (sym h))
name_is (Made i) (Boot j) h = absurd (true≢false (sym h))

name_self : (a : FileName) → same_name a a ≡ true
name_self (Boot i) = eq-eqb i i refl
name_self (Made i) = eq-eqb i i refl

file_is : (f g : FileId) → same_file f g ≡ true → f ≡ g
file_is f g h =
    let parts = and_parts (f.server == g.server) (f.number == g.number) h in
    ap₂ (λ s n. record { server = s; number = n }) (eqb-true f.server g.server parts.0) (eqb-true f.number g.number parts.1)

file_self : (f : FileId) → same_file f f ≡ true
file_self f = ap₂ (λ a b. a && b) (eq-eqb f.server f.server refl) (eq-eqb f.number f.number refl)

-- ---- names that agree

pair_self : (t : Tie) → is_pair t.name t.file t ≡ true
pair_self t = ap₂ (λ a b. a && b) (name_self t.name) (file_self t.file)

-- a tie agrees where its file's name and its name's file are these
alike_by : (a b : Bool) → (b ≡ true → a ≡ true) → (a ≡ true → b ≡ true) → are_alike a b ≡ true
alike_by true true to from = refl
alike_by true false to from = from refl
alike_by false true to from = absurd (true≢false (sym (to refl)))
alike_by false false to from = refl

all_agree : (name : FileName) (file : FileId) (ties : List Tie) → ((m : FileName) → list_any (is_pair m file) ties ≡ true → same_name m name ≡ true) → ((f : FileId) → list_any (is_pair name f) ties ≡ true → same_file f file ≡ true) → list_all (tie_agrees name file) ties ≡ true
all_agree name file [] names files = refl
all_agree name file (t ∷ ts) names files =
    ap₂ (λ a b. a && b)
    (alike_by (same_name t.name name) (same_file t.file file)
    (λ h. names t.name (or_left (is_pair t.name file t) (list_any (is_pair t.name file) ts) (ap₂ (λ a b. a && b) (name_self t.name) h)))
    (λ h. files t.file (or_left (is_pair name t.file t) (list_any (is_pair name t.file) ts) (ap₂ (λ a b. a && b) h (file_self t.file)))))
    (all_agree name file ts
    (λ m h. names m (or_right (is_pair m file t) (list_any (is_pair m file) ts) h))
    (λ f h. files f (or_right (is_pair name f t) (list_any (is_pair name f) ts) h)))

and_no : (b : Bool) → (b && false) ≡ false
and_no true = refl
and_no false = refl

-- one that has another name, or another file, doesn't
other_name : (name m : FileName) (file : FileId) (ties : List Tie) → same_name m name ≡ false → list_any (is_pair m file) ties ≡ true → list_all (tie_agrees name file) ties ≡ false
other_name name m file [] apart h = absurd (true≢false (sym h))
other_name name m file (t ∷ ts) apart h = by (is_pair m file t) (λ some. other_name name m file ts apart some) refl h
  where
    by : (b : Bool) → (list_any (is_pair m file) ts ≡ true → list_all (tie_agrees name file) ts ≡ false) → is_pair m file t ≡ b → (b || list_any (is_pair m file) ts) ≡ true → list_all (tie_agrees name file) (t ∷ ts) ≡ false
    by true more is some =
        let parts = and_parts (same_name t.name m) (same_file t.file file) is in
        ap₂ (λ a b. are_alike a b && list_all (tie_agrees name file) ts) (ap (λ n. same_name n name) (name_is t.name m parts.0) ∙ apart) parts.1
    by false more is some =
        ap (λ b. tie_agrees name file t && b) (more some) ∙ and_no (tie_agrees name file t)

other_file : (name : FileName) (file f : FileId) (ties : List Tie) → same_file f file ≡ false → list_any (is_pair name f) ties ≡ true → list_all (tie_agrees name file) ties ≡ false
other_file name file f [] apart h = absurd (true≢false (sym h))
other_file name file f (t ∷ ts) apart h = by (is_pair name f t) (λ some. other_file name file f ts apart some) refl h
  where
    by : (b : Bool) → (list_any (is_pair name f) ts ≡ true → list_all (tie_agrees name file) ts ≡ false) → is_pair name f t ≡ b → (b || list_any (is_pair name f) ts) ≡ true → list_all (tie_agrees name file) (t ∷ ts) ≡ false
    by true more is some =
        let parts = and_parts (same_name t.name name) (same_file t.file f) is in
        ap₂ (λ a b. are_alike a b && list_all (tie_agrees name file) ts) parts.0 (ap (λ g. same_file g file) (file_is t.file f parts.1) ∙ apart)
    by false more is some =
        ap (λ b. tie_agrees name file t && b) (more some) ∙ and_no (tie_agrees name file t)

-- by what is kept of the file, and of the name
agree_by : (name : FileName) (file : FileId) (ties : List Tie) (n : Option FileName) (i : Option FileId) (name_free file_free : Bool) → is_free_name n name ≡ name_free → is_free_file i file ≡ file_free → ((m : FileName) → is_named n m ≡ list_any (is_pair m file) ties) → ((f : FileId) → is_filed i f ≡ list_any (is_pair name f) ties) → list_all (tie_agrees name file) ties ≡ (name_free && file_free)
agree_by name file ties None i false file_free is_n is_i names files = absurd (true≢false is_n)
agree_by name file ties (Some m) i false file_free is_n is_i names files =
    other_name name m file ties is_n (sym (names m) ∙ name_self m)
agree_by name file ties n None true false is_n is_i names files = absurd (true≢false is_i)
agree_by name file ties n (Some f) true false is_n is_i names files =
    other_file name file f ties is_i (sym (files f) ∙ file_self f)
agree_by name file ties n i true true is_n is_i names files =
    all_agree name file ties (λ m h. by_name n m is_n (names m ∙ h)) (λ f h. by_file i f is_i (files f ∙ h))
  where
    by_name : (o : Option FileName) (m : FileName) → is_free_name o name ≡ true → is_named o m ≡ true → same_name m name ≡ true
    by_name None m free h = absurd (true≢false (sym h))
    by_name (Some other) m free h = ap (λ x. same_name x name) (sym (name_is other m h)) ∙ free

    by_file : (o : Option FileId) (f : FileId) → is_free_file o file ≡ true → is_filed o f ≡ true → same_file f file ≡ true
    by_file None f free h = absurd (true≢false (sym h))
    by_file (Some other) f free h = ap (λ x. same_file x file) (sym (file_is other f h)) ∙ free

agree_told : (names : Names) (ties : List Tie) (name : FileName) (file : FileId) → TellsNames names ties → list_all (tie_agrees name file) ties ≡ (is_free_name (name_at names.names.entries file) name && is_free_file (file_at names name) file)
agree_told names ties name file told =
    agree_by name file ties (name_at names.names.entries file) (file_at names name) (is_free_name (name_at names.names.entries file) name) (is_free_file (file_at names name) file) refl refl (told.names_told file) (told.files_told name)

-- ---- judging

regrouped : (p d x y : Bool) → (p && d && (x && y)) ≡ (p && (d && x && y))
regrouped false d x y = refl
regrouped true true x y = refl
regrouped true false x y = refl

-- behind what the last record opened
behind_opened : (c : Description) (places : List (ℕ × Place)) (names : Names) (past : Past) (kernel pid : ℕ) (name : FileName) (s : Stream) (o : Option Event) → s.object ≡ OfFile name → TellsPlaces places past.processes → TellsNames names past.ties → is_entered_well c past kernel pid (OfFile name) o ≡ stream_fits c places names kernel pid (opened_in o) (Some s)
behind_opened c places names past kernel pid name s None is where_told told = refl
behind_opened c places names past kernel pid name s (Some (event.Opened file stream to m)) is where_told told =
    ap₂ (λ a b. a && kernel == file.server && is_due_name c name file && b)
    (kernel_told places past pid to where_told)
    (agree_told names past.ties name file told)
    ∙ regrouped (is_kernel_of to (place_kept places pid) && kernel == file.server) (is_due_name c name file) (is_free_name (name_at names.names.entries file) name) (is_free_file (file_at names name) file)
    ∙ ap (λ x. is_kernel_of to (place_kept places pid) && kernel == file.server && object_fits c names file x) (sym is)
behind_opened c places names past kernel pid name s (Some _) is where_told told = refl

by_object : (c : Description) (places : List (ℕ × Place)) (names : Names) (past : Past) (kernel pid : ℕ) (s : Stream) (x : Object) → s.object ≡ x → TellsPlaces places past.processes → TellsNames names past.ties → is_entered_well c past kernel pid x (last_event past.records) ≡ stream_fits c places names kernel pid (opened_in (last_event past.records)) (cond (is_of_file x) (Some s) None)
by_object c places names past kernel pid s (OfFile name) is where_told told = behind_opened c places names past kernel pid name s (last_event past.records) is where_told told
by_object c places names past kernel pid s (OfDevice place) is where_told told = refl
by_object c places names past kernel pid s (OfMaster place) is where_told told = refl

by_made : (c : Description) (places : List (ℕ × Place)) (names : Names) (past : Past) (kernel : ℕ) (entry : Entry) (o : Option Stream) → TellsPlaces places past.processes → TellsNames names past.ties → opens_well c past kernel entry o ≡ stream_fits c places names kernel entry.pid (opened_in (last_event past.records)) (file_stream o)
by_made c places names past kernel entry None where_told told = none_fits (opened_in (last_event past.records))
  where
    none_fits : (o : Option FileFor) → true ≡ stream_fits c places names kernel entry.pid o None
    none_fits None = refl
    none_fits (Some opened) = refl
by_made c places names past kernel entry (Some s) where_told told = by_object c places names past kernel entry.pid s s.object refl where_told told

told_of : (c : Description) (places : List (ℕ × Place)) (names : Names) (past : Past) (kernel : ℕ) (e : Event) → TellsPlaces places past.processes → TellsNames names past.ties → is_entry_well c past kernel e ≡ entry_fits c places names (opened_in (last_event past.records)) kernel e (file_stream (made_by (entry_count past.unix) e (state_by c e past.unix)))
told_of c places names past kernel (event.Enter entry) where_told told = by_made c places names past kernel entry (stream_made (entry_count past.unix) (state_by c (event.Enter entry) past.unix)) where_told told
told_of c places names past kernel _ where_told told = refl

-- ---- one record more: names

name_put : (here : Bool) (o : Option FileName) (name m : FileName) → (here ≡ true → is_free_name o name ≡ true) → is_named (cond here (Some name) o) m ≡ cond (same_name name m && here) true (is_named o m)
name_put false o name m free = stays (same_name name m) (is_named o m)
name_put true None name m free = sym (cond_self (same_name name m && true) ∙ and_true (same_name name m))
name_put true (Some n) name m free =
    by (same_name name m) ∙ ap (λ (x : FileName). cond (same_name name m && true) true (same_name x m)) (sym (name_is n name (free refl)))
  where
    by : (b : Bool) → b ≡ cond (b && true) true b
    by true = refl
    by false = refl

file_put : (here : Bool) (o : Option FileId) (file g : FileId) → (here ≡ true → is_free_file o file ≡ true) → is_filed (cond here (Some file) o) g ≡ cond (here && same_file file g) true (is_filed o g)
file_put false o file g free = refl
file_put true None file g free = sym (cond_self (same_file file g))
file_put true (Some f) file g free =
    by (same_file file g) ∙ ap (λ (x : FileId). cond (same_file file g) true (same_file x g)) (sym (file_is f file (free refl)))
  where
    by : (b : Bool) → b ≡ cond b true b
    by true = refl
    by false = refl

names_put : (old new : Names) (ties : List Tie) (tie : Tie) → TellsNames old ties → is_free_name (name_at old.names.entries tie.file) tie.name ≡ true → is_free_file (file_at old tie.name) tie.file ≡ true → PutsName tie.name tie.file old new → TellsNames new (ties ++ tie ∷ [])
names_put old new ties tie told name_free file_free puts = record {
  names_told = λ file name.
      ap (λ o. is_named o name) (puts.0 file)
      ∙ name_put (same_file tie.file file) (name_at old.names.entries file) tie.name name (λ h. subst (λ (f : FileId). is_free_name (name_at old.names.entries f) tie.name ≡ true) (file_is tie.file file h) name_free)
      ∙ ap (λ b. cond (is_pair name file tie) true b) (told.names_told file name)
      ∙ sym (any_more (is_pair name file) ties tie);
  files_told = λ name file.
      ap (λ o. is_filed o file) (puts.1 name)
      ∙ file_put (same_name tie.name name) (file_at old name) tie.file file (λ h. subst (λ (n : FileName). is_free_file (file_at old n) tie.file ≡ true) (name_is tie.name name h) file_free)
      ∙ ap (λ b. cond (is_pair name file tie) true b) (told.files_told name file)
      ∙ sym (any_more (is_pair name file) ties tie);
}

names_stay : (old new : Names) (ties : List Tie) → TellsNames old ties → new ≡ old → TellsNames new (ties ++ [])
names_stay old new ties told same = subst (λ (ts : List Tie). TellsNames new ts) (sym (append-nil ties)) (subst (λ (ns : Names). TellsNames ns ties) (sym same) told)

put_behind : (c : Description) (places : List (ℕ × Place)) (old new : Names) (ties : List Tie) (kernel pid place : ℕ) (name : FileName) (s : Stream) (o : Option Event) → s.object ≡ OfFile name → TellsNames old ties → stream_fits c places old kernel pid (opened_in o) (Some s) ≡ true → KeepsNames (Some s) (opened_in o) old new → TellsNames new (ties ++ tie_to place (OfFile name) o)
put_behind c places old new ties kernel pid place name s None is told fits keeps = names_stay old new ties told keeps
put_behind c places old new ties kernel pid place name s (Some (event.Opened file stream to m)) is told fits keeps =
    let one = and_parts (is_kernel_of to (place_kept places pid) && kernel == file.server) (object_fits c old file s.object) fits in
    let object = subst (λ (x : Object). object_fits c old file x ≡ true) is one.1 in
    let two = and_parts (is_due_name c name file && is_free_name (name_at old.names.entries file) name) (is_free_file (file_at old name) file) object in
    let three = and_parts (is_due_name c name file) (is_free_name (name_at old.names.entries file) name) two.0 in
    names_put old new ties (record { place = place; name = name; file = file; stream = stream }) told three.1 two.1 (subst (λ (x : Object). PutsObject x file old new) is keeps)
put_behind c places old new ties kernel pid place name s (Some _) is told fits keeps = names_stay old new ties told keeps

names_of : (c : Description) (places : List (ℕ × Place)) (old new : Names) (ties : List Tie) (kernel pid place : ℕ) (s : Stream) (x : Object) (o : Option Event) → s.object ≡ x → TellsNames old ties → stream_fits c places old kernel pid (opened_in o) (cond (is_of_file x) (Some s) None) ≡ true → KeepsNames (cond (is_of_file x) (Some s) None) (opened_in o) old new → TellsNames new (ties ++ tie_to place x o)
names_of c places old new ties kernel pid place s (OfFile name) o is told fits keeps = put_behind c places old new ties kernel pid place name s o is told fits keeps
names_of c places old new ties kernel pid place s (OfDevice device) o is told fits keeps = names_stay old new ties told keeps
names_of c places old new ties kernel pid place s (OfMaster device) o is told fits keeps = names_stay old new ties told keeps

names_with : (c : Description) (places : List (ℕ × Place)) (old new : Names) (ties : List Tie) (kernel pid place : ℕ) (m : Option Stream) (o : Option Event) → TellsNames old ties → stream_fits c places old kernel pid (opened_in o) (file_stream m) ≡ true → KeepsNames (file_stream m) (opened_in o) old new → TellsNames new (ties ++ ties_to place m o)
names_with c places old new ties kernel pid place None o told fits keeps = names_stay old new ties told keeps
names_with c places old new ties kernel pid place (Some s) o told fits keeps = names_of c places old new ties kernel pid place s s.object o refl told fits keeps

names_on : (c : Description) (places : List (ℕ × Place)) (old new : Names) (past : Past) (kernel : ℕ) (e : Event) → TellsNames old past.ties → entry_fits c places old (opened_in (last_event past.records)) kernel e (file_stream (made_by (entry_count past.unix) e (state_by c e past.unix))) ≡ true → KeepsNames (file_stream (made_by (entry_count past.unix) e (state_by c e past.unix))) (opened_in (last_event past.records)) old new → TellsNames new (ties_by past (state_by c e past.unix) e)
names_on c places old new past kernel (event.Enter entry) told fits keeps =
    names_with c places old new past.ties kernel entry.pid (entry_count past.unix) (stream_made (entry_count past.unix) (state_by c (event.Enter entry) past.unix)) (last_event past.records) told fits keeps
names_on c places old new past kernel _ told fits keeps = subst (λ (ns : Names). TellsNames ns past.ties) (sym keeps) told

-- ---- all of it

-- a record is judged by what is kept
pub entries_told : (c : Description) (places : List (ℕ × Place)) (names : Names) (opened : Option FileFor) (openings : List (Option Stream)) (past : Past) (rec : Rec) (rest : List Rec) (made : Option Stream) → TellsEntries c places names opened openings past (rec ∷ rest) → made ≡ first_opening openings → is_entry_well c past rec.kernel rec.event ≡ entry_fits c places names opened rec.kernel rec.event made
entries_told c places names opened openings past rec rest made told is =
    let made_is : made ≡ file_stream (made_by (entry_count past.unix) rec.event (state_by c rec.event past.unix)) = is ∙ ap first_opening told.openings_told in
    told_of c places names past rec.kernel rec.event told.places_told told.are_named
    ∙ ap₂ (λ o m. entry_fits c places names o rec.kernel rec.event m) (sym told.opened_told) (sym made_is)

-- what is kept tells of one record more
pub entries_on : (c : Description) (places places_after : List (ℕ × Place)) (names names_after : Names) (opened opened_after : Option FileFor) (openings later : List (Option Stream)) (past : Past) (rec : Rec) (rest : List Rec) (made : Option Stream) → TellsEntries c places names opened openings past (rec ∷ rest) → made ≡ first_opening openings → entry_fits c places names opened rec.kernel rec.event made ≡ true → MovesOn rec.kernel rec.event places places_after → KeepsNames made opened names names_after → opened_after ≡ opened_by rec.event → later ≡ tail_of openings → TellsEntries c places_after names_after opened_after later (past_with c rec past) rest
entries_on c places places_after names names_after opened opened_after openings later past rec rest made told is fits moves_on keeps opens later_is =
    let made_is : made ≡ file_stream (made_by (entry_count past.unix) rec.event (state_by c rec.event past.unix)) = is ∙ ap first_opening told.openings_told in
    let opened_is = told.opened_told in
    record {
      places_told = places_more rec.kernel rec.event places places_after past.processes told.places_told moves_on;
      are_named = names_on c places names names_after past rec.kernel rec.event told.are_named
          (sym (ap₂ (λ o m. entry_fits c places names o rec.kernel rec.event m) opened_is made_is) ∙ fits)
          (subst (λ (m : Option Stream). KeepsNames m (opened_in (last_event past.records)) names names_after) made_is
          (subst (λ (o : Option FileFor). KeepsNames made o names names_after) opened_is keeps));
      opened_told = opens ∙ sym (ap opened_in (last_more past.records rec));
      openings_told = later_is ∙ ap tail_of told.openings_told;
    }

-- before the first record
file_none : (names : Names) (name : FileName) (file : FileId) → names.boots.entries ≡ [] → names.mades.entries ≡ [] → is_filed (file_at names name) file ≡ false
file_none names (Boot place) file boots mades = ap (λ es. is_filed (place_at es place) file) boots
file_none names (Made place) file boots mades = ap (λ es. is_filed (place_at es place) file) mades

pub entries_begin : (c : Description) (places : List (ℕ × Place)) (names : Names) (openings : List (Option Stream)) (trace : List Rec) → TellsPlaces places (no_past c).processes → names.names.entries ≡ [] → names.boots.entries ≡ [] → names.mades.entries ≡ [] → openings ≡ openings_of c trace → TellsEntries c places names None openings (no_past c) trace
entries_begin c places names openings trace homes no_names boots mades are = record {
  places_told = homes;
  are_named = record {
    names_told = λ file name. ap (λ es. is_named (name_at es file) name) no_names;
    files_told = λ name file. file_none names name file boots mades;
  };
  opened_told = refl;
  openings_told = are;
}
