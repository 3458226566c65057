-- The state and the marks of a trace, from one record to the next.
use Rattle.std.proofs.Common.{◌≡◌, ◌∙◌, ℕ, Bool, true, false, List, [], ◌∷◌, ◌++◌, Option, Some, refl, sym, ap, subst, append_assoc}
use Rattle.std.specs.Option.{option_map, is_some}
use Rattle.std.proofs.lemmas.Bool.{true≢false}
use Rattle.std.proofs.lemmas.List.{append-nil}
use Rattle.sprite_ids.specs.declared.names.FileId.{FileId}
use Rattle.unix_calls.specs.Lawful.{Lawful}
use Rattle.unix_calls.specs.declared.description.Description.{Description}
use Rattle.unix_calls.specs.declared.entry.Entry.{Entry}
use Rattle.unix_calls.specs.declared.event.SendKind.TheVariants as send
use Rattle.unix_calls.specs.declared.event.Event.{Event}
use Rattle.unix_calls.specs.declared.event.Event.TheVariants as event
use Rattle.unix_calls.specs.declared.event.Rec.{Rec}
use Rattle.unix_calls.specs.declared.state.Process.{Process}
use Rattle.unix_calls.specs.State.{stream_at}
use Rattle.unix_calls.specs.After.{after}
use Rattle.unix_world.specs.declared.World.{World}
use Rattle.unix_world.specs.Among.{Ascending}
use Rattle.unix_world.specs.Worlds.{unix_of}
use Rattle.call_journal.specs.Matching.{is_entry}
use Rattle.call_journal.specs.Past.{Past, Tie, entry_count, file_stream, last_event, past_with, state_by, stream_made, tie_at}
use Rattle.trace_walk.specs.Walks as walks
use Rattle.trace_tables.specs.KnownLaws.{last_more}
use Rattle.write_rules.specs.declared.marking.Marking.{Marking}
use Rattle.write_rules.specs.declared.syncs.Syncs.{Syncs}
use Rattle.write_rules.specs.Marks.{mark_by, mark_of, marks_from, marks_of}
use Rattle.write_rules.specs.Syncs.{KeepsEvent, MakesEntry, TellsSyncs, due_behind, file_at, is_file_stream, made_with, mark_in, opened_by, opened_last, opened_where}
use Rattle.write_rules.specs.Marked.{Going, HeedsMark, IsFresh, MarksOther, SeesMark}
use Rattle.write_rules.specs.SyncLaws.{due_more, due_told, opens_told, ties_more}

-- ---- what is kept, one record later

opened_more : (past : Past) (rec : Rec) (o : Option FileId) → o ≡ opened_by rec.event → o ≡ opened_last (last_event (past.records ++ rec ∷ []))
opened_more past rec o is = is ∙ sym (ap opened_last (last_more past.records rec))

told_other : (c : Description) (world : World) (ps : List Process) (syncs new : Syncs) (past : Past) (rec : Rec) → TellsSyncs c world ps syncs past → (past_with c rec past).unix ≡ past.unix → (past_with c rec past).ties ≡ past.ties → KeepsEvent rec.kernel rec.event syncs new → TellsSyncs c world ps new (past_with c rec past)
told_other c world ps syncs new past rec tells unix ties keeps = record {
  unix = unix ∙ tells.unix;
  ascends = tells.ascends;
  made = λ place. ap (λ es. file_at es place) keeps.made ∙ tells.made place ∙ sym (ap (λ ts. option_map (λ (tie : Tie). tie.file) (tie_at ts place)) ties);
  opened = opened_more past rec new.opened keeps.opened;
  pending = keeps.pending ∙ ap (due_behind rec.kernel rec.event) tells.pending ∙ sym (due_more past.records rec);
}

told_entry : (c : Description) (world world_after : World) (ps ps_after : List Process) (syncs new : Syncs) (past : Past) (kernel : ℕ) (entry : Entry) → TellsSyncs c world ps syncs past → after c (unix_of c world ps) entry ≡ Some (unix_of c world_after ps_after) → Ascending ps_after → MakesEntry world_after.streams world.entries syncs new → TellsSyncs c world_after ps_after new (past_with c (record { kernel = kernel; event = event.Enter entry }) past)
told_entry c world world_after ps ps_after syncs new past kernel entry tells made ascends makes =
    let rec : Rec = record { kernel = kernel; event = event.Enter entry } in
    let later : state_by c (event.Enter entry) past.unix ≡ Some (unix_of c world_after ps_after) = ap (λ u. state_by c (event.Enter entry) u) tells.unix ∙ made in
    record {
      unix = later;
      ascends = ascends;
      made = λ other.
          makes.made other
          ∙ ap (λ o. made_with (opened_where (is_file_stream (stream_made world.entries (Some (unix_of c world_after ps_after)))) o) world.entries other (file_at syncs.made.entries other)) tells.opened
          ∙ ap (λ o. made_with (opened_where (is_file_stream (stream_made world.entries (Some (unix_of c world_after ps_after)))) (opened_last (last_event past.records))) world.entries other o) (tells.made other)
          ∙ ap (λ s. made_with (opened_where (is_file_stream (stream_made world.entries s)) (opened_last (last_event past.records))) world.entries other (option_map (λ (tie : Tie). tie.file) (tie_at past.ties other))) (sym later)
          ∙ ap (λ u. made_with (opened_where (is_file_stream (stream_made (entry_count u) (state_by c (event.Enter entry) past.unix))) (opened_last (last_event past.records))) (entry_count u) other (option_map (λ (tie : Tie). tie.file) (tie_at past.ties other))) (sym tells.unix)
          ∙ sym (ties_more past.ties (entry_count past.unix) other (stream_made (entry_count past.unix) (state_by c (event.Enter entry) past.unix)) (last_event past.records));
      opened = opened_more past rec new.opened makes.opened;
      pending = makes.pending ∙ tells.pending ∙ sym (due_more past.records rec);
    }

-- the mark of an entry
entry_mark : (c : Description) (world world_after : World) (ps ps_after : List Process) (past : Past) (kernel : ℕ) (entry : Entry) (mark : Bool) → past.unix ≡ Some (unix_of c world ps) → after c (unix_of c world ps) entry ≡ Some (unix_of c world_after ps_after) → mark ≡ is_file_stream (stream_at world_after.streams world.entries) → mark ≡ mark_by c past kernel (event.Enter entry)
entry_mark c world world_after ps ps_after past kernel entry mark unix made is =
    let later : state_by c (event.Enter entry) past.unix ≡ Some (unix_of c world_after ps_after) = ap (λ u. state_by c (event.Enter entry) u) unix ∙ made in
    is
    ∙ sym (opens_told (stream_made world.entries (Some (unix_of c world_after ps_after))))
    ∙ ap (λ s. is_some (file_stream (stream_made world.entries s))) (sym later)
    ∙ ap (λ u. is_some (file_stream (stream_made (entry_count u) (state_by c (event.Enter entry) past.unix)))) (sym unix)

-- ---- going on

-- the marks with one more
marks_on : (c : Description) (past : Past) (rec : Rec) (rest trace : List Rec) (marks : List Bool) (mark : Bool) → mark ≡ mark_of c past rec → marks ++ marks_from c past (rec ∷ rest) ≡ marks_of c trace → (marks ++ mark ∷ []) ++ marks_from c (past_with c rec past) rest ≡ marks_of c trace
marks_on c past rec rest trace marks mark is all =
    append_assoc marks (mark ∷ []) (marks_from c (past_with c rec past) rest)
    ∙ ap (λ t. marks ++ t ∷ marks_from c (past_with c rec past) rest) is
    ∙ all

-- behind a record that is no entry
pass_by : (c : Description) (trace rest : List Rec) (kernel : ℕ) (e : Event) (world : World) (ps : List Process) (past : Past) (old new : Marking) → Going c trace (record { kernel = kernel; event = e } ∷ rest) world ps past old → MarksOther kernel e world ps old new → (past_with c (record { kernel = kernel; event = e }) past).unix ≡ past.unix → (past_with c (record { kernel = kernel; event = e }) past).ties ≡ past.ties → mark_in old.syncs world ps kernel e ≡ mark_by c past kernel e → Going c trace rest world ps (past_with c (record { kernel = kernel; event = e }) past) new
pass_by c trace rest kernel e world ps past old new going sees unix ties is =
    let rec : Rec = record { kernel = kernel; event = e } in
    record {
      tells = told_other c world ps old.syncs new.syncs past rec going.tells unix ties sees.keeps;
      all = ap (λ (ms : List Bool). ms ++ marks_from c (past_with c rec past) rest) sees.marks
          ∙ marks_on c past rec rest trace old.marks.items (mark_in old.syncs world ps kernel e) is going.all;
    }

passes_by : (c : Description) (trace rest : List Rec) (kernel : ℕ) (e : Event) (world : World) (ps : List Process) (past : Past) (old new : Marking) → is_entry e ≡ false → Going c trace (record { kernel = kernel; event = e } ∷ rest) world ps past old → SeesMark kernel e world ps old new → Going c trace rest world ps (past_with c (record { kernel = kernel; event = e }) past) new
passes_by c trace rest kernel (event.Enter entry) world ps past old new other going sees = absurd (true≢false other)
passes_by c trace rest kernel (event.Send tx to about (send.WriteBack file block)) world ps past old new other going sees =
    pass_by c trace rest kernel (event.Send tx to about (send.WriteBack file block)) world ps past old new going sees refl refl (due_told c world ps old.syncs past kernel file going.tells)
passes_by c trace rest kernel (event.Send tx to about (send.Op file)) world ps past old new other going sees = pass_by c trace rest kernel (event.Send tx to about (send.Op file)) world ps past old new going sees refl refl refl
passes_by c trace rest kernel e world ps past old new other going sees = pass_by c trace rest kernel e world ps past old new going sees refl refl refl

pub marking_passes : (c : Description) (trace : List Rec) (old new : Marking) (world : World) (ps : List Process) (past : Past) (rec : Rec) (rest : List Rec) → past.unix ≡ Some (unix_of c world ps) → Ascending ps → is_entry rec.event ≡ false → Going c trace (rec ∷ rest) world ps past old → SeesMark rec.kernel rec.event world ps old new → Going c trace rest world ps (past_with c rec past) new
marking_passes c trace old new world ps past rec rest unix ascends other going sees = passes_by c trace rest rec.kernel rec.event world ps past old new other going sees

-- behind an entry that one kernel makes
pub marking_enters : (c : Description) (trace : List Rec) (old mid new : Marking) (world later : World) (ps qs : List Process) (past : Past) (kernel way : ℕ) (entry : Entry) (rest : List Rec) → Lawful c → past.unix ≡ Some (unix_of c world ps) → Ascending ps → walks.Makes c world ps entry way later qs → Going c trace (walks.entering kernel entry ∷ rest) world ps past old → SeesMark kernel (event.Enter entry) world ps old mid → HeedsMark later.streams world.entries mid new → Going c trace rest later qs (past_with c (walks.entering kernel entry) past) new
marking_enters c trace old mid new world later ps qs past kernel way entry rest lawful unix ascends makes going sees heeds =
    let rec : Rec = record { kernel = kernel; event = event.Enter entry } in
    let mark = is_file_stream (stream_at later.streams world.entries) in
    record {
      tells = told_entry c world later ps qs old.syncs new.syncs past kernel entry going.tells makes.after_is makes.ascends (subst (λ (m : Marking). MakesEntry later.streams world.entries m.syncs new.syncs) sees heeds.makes);
      all = ap (λ (ms : List Bool). ms ++ marks_from c (past_with c rec past) rest) (heeds.marks ∙ ap (λ (m : Marking). m.marks.items ++ mark ∷ []) sees)
          ∙ marks_on c past rec rest trace old.marks.items mark (entry_mark c world later ps qs past kernel entry mark unix makes.after_is refl) going.all;
    }

-- before the first record
pub marking_begins : (c : Description) (trace : List Rec) (marking : Marking) → IsFresh marking → walks.Begins c trace (λ world ps past rest. Going c trace rest world ps past marking)
marking_begins c trace marking fresh = λ world ps boots ascends. record {
  tells = record {
    unix = ap Some (sym boots);
    ascends = ascends;
    made = λ place. ap (λ es. file_at es place) fresh.made;
    opened = fresh.opened;
    pending = fresh.pending;
  };
  all = ap (λ (ms : List Bool). ms ++ marks_of c trace) fresh.marks;
}

-- behind the last one
pub marks_told : (c : Description) (trace : List Rec) (world : World) (ps : List Process) (past : Past) (marking : Marking) → Going c trace [] world ps past marking → marking.marks.items ≡ marks_of c trace
marks_told c trace world ps past marking going = sym (append-nil marking.marks.items) ∙ going.all
