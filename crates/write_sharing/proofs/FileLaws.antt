-- What is kept of one file, from one record to the next.
use Rattle.std.proofs.Common.{◌≡◌, ◌∙◌, ℕ, ◌==◌, Bool, true, false, cond, not, ◌&&◌, ◌||◌, List, ◌∷◌, Option, Some, None, refl, ap, ap₂}
use Rattle.std.proofs.lemmas.Bool.{and_parts, eqb-true}
use Rattle.sprite_ids.specs.declared.names.FileId.{FileId}
use Rattle.unix_calls.specs.declared.description.Description.{Description}
use Rattle.unix_calls.specs.declared.event.Event.{Event}
use Rattle.unix_calls.specs.declared.event.Event.TheVariants as event
use Rattle.unix_calls.specs.declared.event.Rec.{Rec}
use Rattle.call_journal.specs.Matching.{same_file, is_off, is_stop}
use Rattle.call_journal.specs.Formed.{is_closed_of}
use Rattle.trace_tables.specs.declared.tied.Tied.{Tied}
use Rattle.write_sharing.specs.declared.kept.OpenedAt.{OpenedAt}
use Rattle.write_sharing.specs.declared.kept.Opening.{Opening}
use Rattle.write_sharing.specs.declared.kept.Sharing.{Sharing}
use Rattle.write_sharing.specs.Kept.{without_one, opens_at, is_open_in, is_shared_in, has_file, opens_behind, shared_last, opening_by, licence_behind, licensed_by, licensed_behind, waits_in, grants_behind, stops_behind, TakesSo}
use Rattle.write_sharing.specs.Watched.{Fresh, FileKept, fresh_by, fresh_for, file_at, opens_for, licence_for, settled_for, licensed_for, grants_for, stops_for, fresh_behind, file_behind}

pub file_is : (f g : FileId) → same_file f g ≡ true → f ≡ g
file_is f g h =
    let parts = and_parts (f.server == g.server) (f.number == g.number) h in
    ap₂ (λ (s n : ℕ). record { server = s; number = n }) (eqb-true f.server g.server parts.0) (eqb-true f.number g.number parts.1)

-- what is so of a file, where it is that one
at_file : {A : Type 0} (fact : FileId → A) (other : A) (f file : FileId) (b : Bool) → same_file f file ≡ b → cond b (fact f) other ≡ cond b (fact file) other
at_file fact other f file true is = ap fact (file_is f file is)
at_file fact other f file false is = refl

-- ---- streams

pub opens_moved : (e : Event) (opens : List (FileId × List OpenedAt)) (file : FileId) → opens_behind e opens file ≡ opens_for e file (opens_at opens file)
opens_moved (event.Opened f stream kernel mode) opens file =
    let one : OpenedAt = record { stream = stream; kernel = kernel; mode = mode } in
    at_file (λ (g : FileId). one ∷ without_one one (opens_at opens g)) (opens_at opens file) f file (same_file f file) refl
opens_moved (event.Closed f stream kernel mode) opens file =
    let one : OpenedAt = record { stream = stream; kernel = kernel; mode = mode } in
    at_file (λ (g : FileId). without_one one (opens_at opens g)) (opens_at opens file) f file (same_file f file) refl
opens_moved _ opens file = refl

-- ---- licences

put_there : (on before : Bool) → cond (on && true) true before ≡ (on || before)
put_there true before = refl
put_there false before = refl

put_elsewhere : (on before : Bool) → cond (on && false) true before ≡ before
put_elsewhere true before = refl
put_elsewhere false before = refl

settled_by : (o : Opening) (e : Event) (truncates : Bool) (file : FileId) (old new : List (FileId × List OpenedAt)) (before b : Bool) → same_file o.file file ≡ b → cond (licence_behind (Some o) e truncates (is_shared_in (opens_at old o.file)) (is_shared_in (opens_at new o.file)) && b) true before ≡ (licence_for e truncates file (fresh_by o b) (opens_at old file) (opens_at new file) || before)
settled_by o e truncates file old new before true is =
    put_there (licence_behind (Some o) e truncates (is_shared_in (opens_at old o.file)) (is_shared_in (opens_at new o.file))) before
    ∙ ap (λ (g : FileId). cond (is_closed_of g o.stream e) (is_shared_in (opens_at new g)) (is_shared_in (opens_at old g) || o.was_open && truncates) || before) (file_is o.file file is)
settled_by o e truncates file old new before false is =
    put_elsewhere (licence_behind (Some o) e truncates (is_shared_in (opens_at old o.file)) (is_shared_in (opens_at new o.file))) before

settled_moved : (last : Option Opening) (e : Event) (truncates : Bool) (file : FileId) (old new : List (FileId × List OpenedAt)) (before : Bool) → licensed_by last (licence_behind last e truncates (shared_last old last) (shared_last new last)) file before ≡ (licence_for e truncates file (fresh_for last file) (opens_at old file) (opens_at new file) || before)
settled_moved None e truncates file old new before = refl
settled_moved (Some o) e truncates file old new before = settled_by o e truncates file old new before (same_file o.file file) refl

closed_there : (b n x : Bool) → cond (not n && b) false x ≡ cond b (n && x) x
closed_there true true x = refl
closed_there true false x = refl
closed_there false true x = refl
closed_there false false x = refl

shared_there : (b n x : Bool) → cond (n && b) true x ≡ cond b (n || x) x
shared_there true true x = refl
shared_there true false x = refl
shared_there false true x = refl
shared_there false false x = refl

licensed_moved : (e : Event) (opens : List (FileId × List OpenedAt)) (file : FileId) (before : Bool) → licensed_behind e opens file before ≡ licensed_for e file (opens_at opens file) before
licensed_moved (event.Closed f stream kernel mode) opens file before =
    closed_there (same_file f file) (is_open_in (opens_at opens f)) before
    ∙ at_file (λ (g : FileId). is_open_in (opens_at opens g) && before) before f file (same_file f file) refl
licensed_moved (event.Shared f stream) opens file before =
    shared_there (same_file f file) (is_open_in (opens_at opens f)) before
    ∙ at_file (λ (g : FileId). is_open_in (opens_at opens g) || before) before f file (same_file f file) refl
licensed_moved _ opens file before = refl

-- ---- who waits

grants_moved : (c : Description) (e : Event) (licensed : List FileId) (file : FileId) (before : Bool) → grants_behind c e licensed file before ≡ grants_for c e file (has_file licensed file) before
grants_moved c (event.Opened f stream kernel mode) licensed file before = refl
grants_moved c (event.Shared f stream) licensed file before = refl
grants_moved c (event.Grant f to stamp mode) licensed file before =
    shared_there (same_file f file) (is_off mode && waits_in c licensed f) before
    ∙ at_file (λ (g : FileId). is_off mode && waits_in c licensed g || before) before f file (same_file f file) refl
grants_moved c _ licensed file before = refl

stops_moved : (c : Description) (e : Event) (licensed : List FileId) (file : FileId) (before : Bool) → stops_behind c e licensed file before ≡ stops_for c e file (has_file licensed file) before
stops_moved c (event.Opened f stream kernel mode) licensed file before = refl
stops_moved c (event.Shared f stream) licensed file before = refl
stops_moved c (event.Callback f to stamp kind) licensed file before =
    shared_there (same_file f file) (is_stop kind && waits_in c licensed f) before
    ∙ at_file (λ (g : FileId). is_stop kind && waits_in c licensed g || before) before f file (same_file f file) refl
stops_moved c _ licensed file before = refl

-- ---- the open that the last record tells

fresh_moved : (e : Event) (kept : Sharing) (file : FileId) → fresh_for (opening_by e kept.opens.entries kept.grants.keys kept.stops.keys) file ≡ fresh_behind e file (file_at kept file)
fresh_moved (event.Opened f stream kernel mode) kept file =
    at_file (λ (g : FileId). Some (record { stream = stream; was_open = is_open_in (opens_at kept.opens.entries g); is_due = has_file kept.grants.keys g || has_file kept.stops.keys g })) None f file (same_file f file) refl
fresh_moved _ kept file = refl

-- ---- all of one file

abbrev pub kept_of : List OpenedAt → Bool → Bool → Bool → Bool → Option Fresh → FileKept
kept_of opens licensed grants stops called fresh =
    record { opens = opens; licensed = licensed; grants = grants; stops = stops; called = called; fresh = fresh }

pub same_kept : (opens opens_too : List OpenedAt) (licensed licensed_too grants grants_too stops stops_too called called_too : Bool) (fresh fresh_too : Option Fresh) → opens ≡ opens_too → licensed ≡ licensed_too → grants ≡ grants_too → stops ≡ stops_too → called ≡ called_too → fresh ≡ fresh_too → kept_of opens licensed grants stops called fresh ≡ kept_of opens_too licensed_too grants_too stops_too called_too fresh_too
same_kept o p l m g h s t c d f e opens licensed grants stops called fresh =
    ap₂ (λ (x : List OpenedAt) (y : Bool). kept_of x y g s c f) opens licensed
    ∙ ap₂ (λ (x y : Bool). kept_of p m x y c f) grants stops
    ∙ ap₂ (λ (x : Bool) (y : Option Fresh). kept_of p m h t x y) called fresh

pub file_moved : (c : Description) (rec : Rec) (tied : Option Tied) (truncates fits : Bool) (old new : Sharing) → TakesSo c rec tied truncates fits old new → (file : FileId) → file_at new file ≡ file_behind c rec.event truncates file (file_at old file)
file_moved c rec tied truncates fits old new takes file =
    let opens_are : opens_at new.opens.entries file ≡ opens_for rec.event file (opens_at old.opens.entries file) = takes.opens_on file ∙ opens_moved rec.event old.opens.entries file in
    let settled_is : has_file takes.licensed file ≡ settled_for rec.event truncates file (file_at old file) = takes.settled file ∙ settled_moved old.last rec.event truncates file old.opens.entries new.opens.entries (has_file old.licensed.keys file) ∙ ap (λ xs. licence_for rec.event truncates file (fresh_for old.last file) (opens_at old.opens.entries file) xs || has_file old.licensed.keys file) opens_are in
    let n = file_behind c rec.event truncates file (file_at old file) in
    same_kept (opens_at new.opens.entries file) n.opens (has_file new.licensed.keys file) n.licensed (has_file new.grants.keys file) n.grants (has_file new.stops.keys file) n.stops (has_file new.called.keys file) n.called (fresh_for new.last file) n.fresh opens_are (takes.licensed_on file ∙ licensed_moved rec.event new.opens.entries file (has_file takes.licensed file) ∙ ap₂ (λ (xs : List OpenedAt) (b : Bool). licensed_for rec.event file xs b) opens_are settled_is) (takes.grants_on file ∙ grants_moved c rec.event takes.licensed file (has_file old.grants.keys file) ∙ ap (λ b. grants_for c rec.event file b (has_file old.grants.keys file)) settled_is) (takes.stops_on file ∙ stops_moved c rec.event takes.licensed file (has_file old.stops.keys file) ∙ ap (λ b. stops_for c rec.event file b (has_file old.stops.keys file)) settled_is) (takes.called_on file) (ap (λ o. fresh_for o file) takes.last_on ∙ fresh_moved rec.event old file)
