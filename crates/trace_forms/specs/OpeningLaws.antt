-- What the records of a trace make, from one to the next.
use Rattle.std.proofs.Common.{◌≡◌, ◌∙◌, ℕ, true, false, List, [], ◌∷◌, ◌++◌, Option, Some, None, refl, sym, ap, ap₂, append_assoc}
use Rattle.std.proofs.lemmas.Bool.{true≢false}
use Rattle.std.proofs.lemmas.List.{append-nil}
use Rattle.unix_calls.specs.Lawful.{Lawful}
use Rattle.unix_calls.specs.declared.description.Description.{Description}
use Rattle.unix_calls.specs.declared.entry.Entry.{Entry}
use Rattle.unix_calls.specs.declared.event.Event.{Event}
use Rattle.unix_calls.specs.declared.event.Event.TheVariants as event
use Rattle.unix_calls.specs.declared.event.Rec.{Rec}
use Rattle.unix_calls.specs.declared.state.Process.{Process}
use Rattle.unix_calls.specs.declared.state.Stream.{Stream}
use Rattle.unix_calls.specs.State.{Unix}
use Rattle.unix_world.specs.declared.World.{World}
use Rattle.unix_world.specs.Among.{Ascending}
use Rattle.unix_world.specs.Worlds.{unix_of}
use Rattle.call_journal.specs.Matching.{is_entry}
use Rattle.call_journal.specs.Past.{Past, file_stream, opening_of, seen_at, state_by, stream_made}
use Rattle.trace_walk.specs.Walks.{Begins, Makes, entering}
use Rattle.trace_forms.specs.declared.making.MadeStreams.{MadeStreams}
use Rattle.trace_forms.specs.Openings.{HeedsMade, SeesMade, openings_from, openings_of}

-- with one more
opens_on : (c : Description) (u : Option Unix) (rec : Rec) (rest trace : List Rec) (openings : List (Option Stream)) (made : Option Stream) → made ≡ opening_of (seen_at u rec (state_by c rec.event u)) → openings ++ openings_from c u (rec ∷ rest) ≡ openings_of c trace → (openings ++ made ∷ []) ++ openings_from c (state_by c rec.event u) rest ≡ openings_of c trace
opens_on c u rec rest trace openings made is all =
    append_assoc openings (made ∷ []) (openings_from c (state_by c rec.event u) rest)
    ∙ ap (λ o. openings ++ o ∷ openings_from c (state_by c rec.event u) rest) is
    ∙ all

-- behind a record that is no entry
pass_by : (c : Description) (trace rest : List Rec) (kernel : ℕ) (e : Event) (u : Unix) (old new : List (Option Stream)) → is_entry e ≡ false → old ++ openings_from c (Some u) (record { kernel = kernel; event = e } ∷ rest) ≡ openings_of c trace → SeesMade e old new → new ++ openings_from c (Some u) rest ≡ openings_of c trace
pass_by c trace rest kernel (event.Enter entry) u old new other all sees = absurd (true≢false other)
pass_by c trace rest kernel (event.Burst pid count) u old new other all sees =
    ap (λ (os : List (Option Stream)). os ++ openings_from c (Some u) rest) sees ∙ opens_on c (Some u) (record { kernel = kernel; event = event.Burst pid count }) rest trace old None refl all
pass_by c trace rest kernel e u old new other all sees =
    ap (λ (os : List (Option Stream)). os ++ openings_from c (Some u) rest) sees ∙ opens_on c (Some u) (record { kernel = kernel; event = e }) rest trace old None refl all

pub openings_pass : (c : Description) (trace : List Rec) (old new : MadeStreams) (world : World) (ps : List Process) (past : Past) (rec : Rec) (rest : List Rec) → past.unix ≡ Some (unix_of c world ps) → Ascending ps → is_entry rec.event ≡ false → old.made.items ++ openings_from c (Some (unix_of c world ps)) (rec ∷ rest) ≡ openings_of c trace → SeesMade rec.event old.made.items new.made.items → new.made.items ++ openings_from c (Some (unix_of c world ps)) rest ≡ openings_of c trace
openings_pass c trace old new world ps past rec rest unix ascends other all sees =
    pass_by c trace rest rec.kernel rec.event (unix_of c world ps) old.made.items new.made.items other all sees

-- an entry makes what stands there behind it
pub openings_enter : (c : Description) (trace : List Rec) (old mid new : MadeStreams) (world later : World) (ps qs : List Process) (past : Past) (kernel way : ℕ) (entry : Entry) (rest : List Rec) → Lawful c → past.unix ≡ Some (unix_of c world ps) → Ascending ps → Makes c world ps entry way later qs → old.made.items ++ openings_from c (Some (unix_of c world ps)) (entering kernel entry ∷ rest) ≡ openings_of c trace → SeesMade (event.Enter entry) old.made.items mid.made.items → HeedsMade later.streams world.entries mid.made.items new.made.items → new.made.items ++ openings_from c (Some (unix_of c later qs)) rest ≡ openings_of c trace
openings_enter c trace old mid new world later ps qs past kernel way entry rest lawful unix ascends makes all sees heeds =
    let u = unix_of c world ps in
    let made = file_stream (stream_made world.entries (Some (unix_of c later qs))) in
    let is : made ≡ opening_of (seen_at (Some u) (entering kernel entry) (state_by c (event.Enter entry) (Some u))) = sym (ap (λ o. file_stream (stream_made world.entries o)) makes.after_is) in
    ap (λ (os : List (Option Stream)). os ++ openings_from c (Some (unix_of c later qs)) rest) (heeds ∙ ap (λ (os : List (Option Stream)). os ++ made ∷ []) sees)
    ∙ ap (λ o. (old.made.items ++ made ∷ []) ++ openings_from c o rest) (sym makes.after_is)
    ∙ opens_on c (Some u) (entering kernel entry) rest trace old.made.items made is all

-- before the first record, and behind the last one
pub openings_begin : (c : Description) (trace : List Rec) (watch : MadeStreams) → watch.made.items ≡ [] → Begins c trace (λ world ps past rest. watch.made.items ++ openings_from c (Some (unix_of c world ps)) rest ≡ openings_of c trace)
openings_begin c trace watch none = λ world ps boots ascends. ap₂ (λ (os : List (Option Stream)) (u : Unix). os ++ openings_from c (Some u) trace) none boots

pub openings_end : (c : Description) (trace : List Rec) (watch : MadeStreams) (u : Option Unix) → watch.made.items ++ openings_from c u [] ≡ openings_of c trace → watch.made.items ≡ openings_of c trace
openings_end c trace watch u all = sym (append-nil watch.made.items) ∙ all
