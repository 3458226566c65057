-- What is kept of the records tells what a place looks back on, from one record to the next.
use Rattle.std.proofs.Common.{◌≡◌, ◌∙◌, ℕ, ◌==◌, Bool, true, false, cond, ◌&&◌, List, [], ◌∷◌, ◌++◌, Option, Some, None, refl, sym, ap}
use Rattle.std.specs.Option.{option_map, option_and_then}
use Rattle.std.proofs.lemmas.List.{append-nil}
use Rattle.process_machine.specs.declared.call.Call.{Call}
use Rattle.unix_calls.specs.declared.description.Description.{Description}
use Rattle.unix_calls.specs.declared.event.About.{About}
use Rattle.unix_calls.specs.declared.event.Event.{Event}
use Rattle.unix_calls.specs.declared.event.Event.TheVariants as event
use Rattle.unix_calls.specs.declared.event.Rec.{Rec}
use Rattle.unix_calls.specs.declared.state.Object.{Object}
use Rattle.unix_calls.specs.declared.state.Object.TheVariants.{OfFile, OfDevice, OfMaster}
use Rattle.unix_calls.specs.declared.state.Process.{Process}
use Rattle.unix_calls.specs.declared.state.Stream.{Stream}
use Rattle.unix_calls.specs.State.{Unix, process_at, stream_of}
use Rattle.unix_world.specs.declared.World.{World}
use Rattle.unix_world.specs.Worlds.{unix_of}
use Rattle.call_journal.specs.Past.{Past, Tie, tie_at, tie_to, ties_to, tied, last_event, stream_in}
use Rattle.call_journal.specs.Calls.{descriptor_of, or_else, issued_by, issued_call}
use Rattle.call_journal.specs.Operations.{stream_of_call}
use Rattle.trace_tables.specs.declared.known.Known.{Known}
use Rattle.trace_tables.specs.declared.call_at.CallAt.{CallAt}
use Rattle.trace_tables.specs.Known.{made_at, asked_at, stream_for, tied_for, joined, asked_tied, tied_in, object_tie, file_tie, made_with, asked_behind}
use Rattle.trace_tables.specs.Ties.{tied_by, tied_at}
use Rattle.trace_tables.specs.Told.{opened_last, Tells}

-- ---- looking

-- the tie of a stream, by what is kept of its place
tie_kept : (known : Known) (past : Past) (o : Option Stream) → ((place : ℕ) → made_at known.made.entries place ≡ option_map tied_by (tie_at past.ties place)) → option_and_then (λ (s : Stream). made_at known.made.entries s.place) o ≡ option_map tied_by (option_and_then (λ (s : Stream). tie_at past.ties s.place) o)
tie_kept known past None made = refl
tie_kept known past (Some s) made = made s.place

-- the stream of a descriptor, by the state
stream_kept : (c : Description) (world : World) (ps : List Process) (fd : ℕ) (o : Option Process) → stream_for world o fd ≡ option_and_then (λ (p : Process). stream_of (unix_of c world ps) p fd) o
stream_kept c world ps fd None = refl
stream_kept c world ps fd (Some p) = refl

pub stream_told : (c : Description) (world : World) (ps : List Process) (past : Past) (pid fd : ℕ) → past.unix ≡ Some (unix_of c world ps) → stream_for world (process_at ps pid) fd ≡ stream_in past pid fd
stream_told c world ps past pid fd unix =
    stream_kept c world ps fd (process_at ps pid)
    ∙ sym (ap (λ (u : Option Unix). option_and_then (λ (v : Unix). option_and_then (λ (p : Process). stream_of v p fd) (process_at v.processes pid)) u) unix)

-- what a descriptor leads to
tied_told : (c : Description) (world : World) (ps : List Process) (known : Known) (past : Past) (pid fd : ℕ) → Tells c world ps known past → tied_for known world ps pid fd ≡ option_map tied_by (tied past pid fd)
tied_told c world ps known past pid fd tells =
    ap (option_and_then (λ (s : Stream). made_at known.made.entries s.place)) (stream_told c world ps past pid fd tells.unix)
    ∙ tie_kept known past (stream_in past pid fd) tells.made

by_descriptor : (c : Description) (world : World) (ps : List Process) (known : Known) (past : Past) (pid : ℕ) (o : Option ℕ) → Tells c world ps known past → option_and_then (tied_for known world ps pid) o ≡ option_map tied_by (option_and_then (tied past pid) o)
by_descriptor c world ps known past pid None tells = refl
by_descriptor c world ps known past pid (Some fd) tells = tied_told c world ps known past pid fd tells

joined_map : (o : Option Call) → joined (option_map descriptor_of o) ≡ option_and_then descriptor_of o
joined_map None = refl
joined_map (Some call) = refl

asked_told : (c : Description) (world : World) (ps : List Process) (known : Known) (past : Past) (about : Option About) → Tells c world ps known past → asked_tied known world ps about ≡ option_map tied_by (stream_of_call past about)
asked_told c world ps known past None tells = refl
asked_told c world ps known past (Some about) tells =
    ap (option_and_then (tied_for known world ps about.pid)) (ap joined (tells.asked (record { pid = about.pid; number = about.number })) ∙ joined_map (issued_call about.pid about.number past.records))
    ∙ by_descriptor c world ps known past about.pid (option_and_then descriptor_of (issued_call about.pid about.number past.records)) tells

-- what the call of an event goes by
pub event_told : (c : Description) (world : World) (ps : List Process) (known : Known) (past : Past) (e : Event) → Tells c world ps known past → tied_in known world ps e ≡ tied_at past e
event_told c world ps known past (event.Enter entry) tells = by_descriptor c world ps known past entry.pid (option_and_then descriptor_of entry.call) tells
event_told c world ps known past (event.Send tx to about kind) tells = asked_told c world ps known past about tells
event_told c world ps known past _ tells = refl

-- ---- one record more

-- the last of some records
pub last_more : (rs : List Rec) (r : Rec) → last_event (rs ++ r ∷ []) ≡ Some r.event
last_more [] r = refl
last_more (x ∷ []) r = refl
last_more (x ∷ y ∷ rest) r = last_more (y ∷ rest) r

-- the first of two values, and of three
or_assoc : {A : Type 0} (a b d : Option A) → or_else a (or_else b d) ≡ or_else (or_else a b) d
or_assoc (Some x) b d = refl
or_assoc None b d = refl

or_none : {A : Type 0} (a : Option A) → or_else a None ≡ a
or_none (Some x) = refl
or_none None = refl

or_map : {A B : Type 0} (f : A → B) (a b : Option A) → option_map f (or_else a b) ≡ or_else (option_map f a) (option_map f b)
or_map f (Some x) b = refl
or_map f None b = refl

-- the call that was issued first
issued_more : (pid number : ℕ) (rs : List Rec) (r : Rec) → issued_call pid number (rs ++ r ∷ []) ≡ or_else (issued_call pid number rs) (issued_by pid number r.event)
issued_more pid number [] r = or_none (issued_by pid number r.event)
issued_more pid number (x ∷ xs) r =
    ap (or_else (issued_by pid number x.event)) (issued_more pid number xs r)
    ∙ or_assoc (issued_by pid number x.event) (issued_call pid number xs) (issued_by pid number r.event)

asked_cond : (b : Bool) (call : Call) (before : Option (Option ℕ)) → cond b (or_else before (Some (descriptor_of call))) before ≡ or_else before (option_map descriptor_of (cond b (Some call) None))
asked_cond true call before = refl
asked_cond false call before = sym (or_none before)

asked_on : (e : Event) (at : CallAt) (before : Option (Option ℕ)) → asked_behind e at before ≡ or_else before (option_map descriptor_of (issued_by at.pid at.number e))
asked_on (event.Issue pid number call) at before = asked_cond (pid == at.pid && number == at.number) call before
asked_on _ at before = sym (or_none before)

pub asked_more : (known new : Known) (past : Past) (rec : Rec) (at : CallAt) → asked_at known.asked.entries at ≡ option_map descriptor_of (issued_call at.pid at.number past.records) → asked_at new.asked.entries at ≡ asked_behind rec.event at (asked_at known.asked.entries at) → asked_at new.asked.entries at ≡ option_map descriptor_of (issued_call at.pid at.number (past.records ++ rec ∷ []))
asked_more known new past rec at was is =
    is
    ∙ ap (asked_behind rec.event at) was
    ∙ asked_on rec.event at (option_map descriptor_of (issued_call at.pid at.number past.records))
    ∙ sym (or_map descriptor_of (issued_call at.pid at.number past.records) (issued_by at.pid at.number rec.event))
    ∙ sym (ap (option_map descriptor_of) (issued_more at.pid at.number past.records rec))

-- the tie of a place
tie_more : (ties : List Tie) (tie : Tie) (place : ℕ) → tie_at (ties ++ tie ∷ []) place ≡ or_else (tie_at ties place) (cond (tie.place == place) (Some tie) None)
tie_more [] tie place = refl
tie_more (t ∷ ts) tie place = by (t.place == place) (tie_more ts tie place)
  where
    by : (b : Bool) → tie_at (ts ++ tie ∷ []) place ≡ or_else (tie_at ts place) (cond (tie.place == place) (Some tie) None) → cond b (Some t) (tie_at (ts ++ tie ∷ []) place) ≡ or_else (cond b (Some t) (tie_at ts place)) (cond (tie.place == place) (Some tie) None)
    by true more = refl
    by false more = more

one_kept : (b : Bool) (tie : Tie) (before : Option Tie) → option_map tied_by (or_else before (cond b (Some tie) None)) ≡ cond b (or_else (option_map tied_by before) (Some (tied_by tie))) (option_map tied_by before)
one_kept true tie before = or_map tied_by before (Some tie)
one_kept false tie before = ap (option_map tied_by) (or_none before)

nothing_more : (ties : List Tie) (other : ℕ) → option_map tied_by (tie_at (ties ++ []) other) ≡ option_map tied_by (tie_at ties other)
nothing_more ties other = ap (λ (ts : List Tie). option_map tied_by (tie_at ts other)) (append-nil ties)

tied_by_object : (ties : List Tie) (place other : ℕ) (object : Object) (before : Option Event) → option_map tied_by (tie_at (ties ++ tie_to place object before) other) ≡ made_with (object_tie object (opened_last before)) place other (option_map tied_by (tie_at ties other))
tied_by_object ties place other (OfFile name) (Some (event.Opened file stream kernel mode)) =
    let tie : Tie = record { place = place; name = name; file = file; stream = stream } in
    ap (option_map tied_by) (tie_more ties tie other) ∙ one_kept (place == other) tie (tie_at ties other)
tied_by_object ties place other (OfFile name) None = nothing_more ties other
tied_by_object ties place other (OfFile name) (Some e) = nothing_more ties other
tied_by_object ties place other (OfDevice device) before = nothing_more ties other
tied_by_object ties place other (OfMaster device) before = nothing_more ties other

pub ties_more : (ties : List Tie) (place other : ℕ) (o : Option Stream) (before : Option Event) → option_map tied_by (tie_at (ties ++ ties_to place o before) other) ≡ made_with (file_tie o (opened_last before)) place other (option_map tied_by (tie_at ties other))
ties_more ties place other None before = nothing_more ties other
ties_more ties place other (Some s) before = tied_by_object ties place other s.object before
