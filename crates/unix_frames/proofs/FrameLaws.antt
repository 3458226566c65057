-- What an entry leaves as it was.
use Rattle.std.proofs.Common.{◌≡◌, ◌≢◌, ◌≤◌, ◌<◌, ◌+◌, ℕ, Bool, true, false, ◌||◌, List, length, Option, Some, None, refl, sym, ap, ap₂, subst, ◌∙◌}
use Rattle.std.specs.Prelude.{◌==◌}
use Rattle.std.proofs.lemmas.Bool.{cases_Bool, true≢false, eqb-true, eq-eqb}
use Rattle.std.proofs.Common.{inl, inr}
use Rattle.sprite_ids.specs.declared.Ending.TheVariants as ending
use Rattle.sprite_ids.specs.Pid.{home_of}
use Rattle.sprite_ids.proofs.ListLaws.{some_is}
use Rattle.process_machine.specs.declared.call.Call.{Call}
use Rattle.process_machine.specs.declared.call.Call.TheVariants as call
use Rattle.unix_calls.specs.declared.Description.{Description}
use Rattle.unix_calls.specs.declared.Entry.{Entry}
use Rattle.unix_calls.specs.declared.entry.Part.TheVariants as part
use Rattle.unix_calls.specs.declared.state.Node.{Node}
use Rattle.unix_calls.specs.declared.state.Process.{Process}
use Rattle.unix_calls.specs.Tree.{node_at}
use Rattle.unix_calls.specs.State.{Unix, lives, no_descriptors, process_at, put_process, with_device, with_process}
use Rattle.unix_calls.specs.Answers.{replied}
use Rattle.unix_calls.specs.ProcessCalls.{ended, with_kill}
use Rattle.unix_calls.specs.NameCalls.{moved_to}
use Rattle.unix_calls.specs.Opening.{cut}
use Rattle.unix_calls.specs.After.{after, counted, fetched, state_of}
use Rattle.unix_calls.specs.Laws.{is_last, is_last_call, is_last_part}
use Rattle.unix_calls.proofs.OutcomeLaws.{IsAmong}
use Rattle.unix_calls.proofs.ProcessLaws.{among_found, found_pid, put_others, put_there}
use Rattle.unix_calls.proofs.NumberLaws.{Numbered, boot_numbered, next_is_new, numbered_again}
use Rattle.unix_calls.proofs.EndLaws.{numbered_after}
use Rattle.unix_calls.proofs.HistoryLaws.{kept}
use Rattle.unix_frames.specs.Frames.{EntriesLeave, Leaves, changes_devices, changes_files, changes_names, changes_streams, handles_device, is_naming, is_of_operation, is_tick, is_wait_call, kills, makes_device, may, moves_offset, opens, writes_file}
use Rattle.unix_frames.proofs.ChangeLaws.{Alike, Change, Itself, Freed, Doubled, EndedSo, Ticked, Born, WaitedFor, KilledSo, MadeDirectory, RemovedDirectory, Unlinked, Renamed, OpenedFile, OpenedDevice, CreatedFile, MadeDevice, MovedTo, Wrote, Handled}
use Rattle.unix_frames.proofs.StepLaws.{At, Step, Calls, Asks, Fetches, Dies, entered}

-- ---- the parts beside the processes

pub record Fields (called : Call) (u w : Unix) : Type 0 where
  pub names : changes_names called ≡ false → w.nodes ≡ u.nodes
  pub files : changes_files called ≡ false → w.files ≡ u.files
  pub streams : changes_streams called ≡ false → w.streams ≡ u.streams
  pub devices : changes_devices called ≡ false → w.devices ≡ u.devices
  pub ticks : is_tick called ≡ false → w.ticks ≡ u.ticks
  pub roots : w.roots ≡ u.roots
  pub limit : w.limit ≡ u.limit
  pub entries : w.entries ≡ u.entries

-- a process is put
put_fields : (called : Call) (u w later : Unix) (r : Process) → later ≡ with_process r w → Fields called u w → Fields called u later
put_fields called u w later r e h =
    subst (Fields called u) (sym e)
    (record { names = h.names; files = h.files; streams = h.streams; devices = h.devices; ticks = h.ticks; roots = h.roots; limit = h.limit; entries = h.entries })

same_fields : (called : Call) (u : Unix) → Fields called u u
same_fields called u =
    record { names = λ h. refl; files = λ h. refl; streams = λ h. refl; devices = λ h. refl; ticks = λ h. refl; roots = refl; limit = refl; entries = refl }

-- names alone change
name_fields : (called : Call) (u w : Unix) → is_naming called ≡ true → w.files ≡ u.files → w.streams ≡ u.streams → w.devices ≡ u.devices → w.ticks ≡ u.ticks → w.roots ≡ u.roots → w.limit ≡ u.limit → w.entries ≡ u.entries → Fields called u w
name_fields called u w is files streams devices ticks roots limit entries =
    record {
      names = λ h. absurd (true≢false (sym (ap (λ b. b || opens called || makes_device called) is) ∙ h));
      files = λ h. files;
      streams = λ h. streams;
      devices = λ h. devices;
      ticks = λ h. ticks;
      roots = roots;
      limit = limit;
      entries = entries;
    }

-- a stream more, and perhaps a name and a file
open_fields : (called : Call) (u w : Unix) → opens called ≡ true → w.devices ≡ u.devices → w.ticks ≡ u.ticks → w.roots ≡ u.roots → w.limit ≡ u.limit → w.entries ≡ u.entries → Fields called u w
open_fields called u w is devices ticks roots limit entries =
    record {
      names = λ h. absurd (opened (is_naming called) (makes_device called) (opens called) is h);
      files = λ h. absurd (true≢false (sym (ap (λ b. b || writes_file called) is) ∙ h));
      streams = λ h. absurd (true≢false (sym (ap (λ b. b || makes_device called || moves_offset called || writes_file called) is) ∙ h));
      devices = λ h. devices;
      ticks = λ h. ticks;
      roots = roots;
      limit = limit;
      entries = entries;
    }
  where
    opened : (a c b : Bool) → b ≡ true → a || b || c ≡ false → ⊥
    opened true c b e h = true≢false h
    opened false c true e h = true≢false h
    opened false c false e h = true≢false (sym e)

device_fields : (called : Call) (u w : Unix) → makes_device called ≡ true → w.files ≡ u.files → w.ticks ≡ u.ticks → w.roots ≡ u.roots → w.limit ≡ u.limit → w.entries ≡ u.entries → Fields called u w
device_fields called u w is files ticks roots limit entries =
    record {
      names = λ h. absurd (made (is_naming called) (opens called) (makes_device called) is h);
      files = λ h. files;
      streams = λ h. absurd (among (opens called) (makes_device called) (moves_offset called) (writes_file called) is h);
      devices = λ h. absurd (true≢false (sym (ap (λ b. b || handles_device called) is) ∙ h));
      ticks = λ h. ticks;
      roots = roots;
      limit = limit;
      entries = entries;
    }
  where
    made : (a c b : Bool) → b ≡ true → a || c || b ≡ false → ⊥
    made true c b e h = true≢false h
    made false true b e h = true≢false h
    made false false b e h = true≢false (sym e ∙ h)

    among : (a b c d : Bool) → b ≡ true → a || b || c || d ≡ false → ⊥
    among true b c d e h = true≢false h
    among false true c d e h = true≢false h
    among false false c d e h = true≢false (sym e)

offset_fields : (called : Call) (u w : Unix) → moves_offset called ≡ true → w.nodes ≡ u.nodes → w.files ≡ u.files → w.devices ≡ u.devices → w.ticks ≡ u.ticks → w.roots ≡ u.roots → w.limit ≡ u.limit → w.entries ≡ u.entries → Fields called u w
offset_fields called u w is names files devices ticks roots limit entries =
    record {
      names = λ h. names;
      files = λ h. files;
      streams = λ h. absurd (moved (opens called) (makes_device called) (moves_offset called) (writes_file called) is h);
      devices = λ h. devices;
      ticks = λ h. ticks;
      roots = roots;
      limit = limit;
      entries = entries;
    }
  where
    moved : (a b c d : Bool) → c ≡ true → a || b || c || d ≡ false → ⊥
    moved true b c d e h = true≢false h
    moved false true c d e h = true≢false h
    moved false false true d e h = true≢false h
    moved false false false d e h = true≢false (sym e)

write_fields : (called : Call) (u w : Unix) → writes_file called ≡ true → w.nodes ≡ u.nodes → w.devices ≡ u.devices → w.ticks ≡ u.ticks → w.roots ≡ u.roots → w.limit ≡ u.limit → w.entries ≡ u.entries → Fields called u w
write_fields called u w is names devices ticks roots limit entries =
    record {
      names = λ h. names;
      files = λ h. absurd (last (opens called) (writes_file called) is h);
      streams = λ h. absurd (last (opens called || makes_device called || moves_offset called) (writes_file called) is (grouped (opens called) (makes_device called) (moves_offset called) (writes_file called) h));
      devices = λ h. devices;
      ticks = λ h. ticks;
      roots = roots;
      limit = limit;
      entries = entries;
    }
  where
    last : (a b : Bool) → b ≡ true → a || b ≡ false → ⊥
    last true b e h = true≢false h
    last false b e h = true≢false (sym e ∙ h)

    grouped : (a b c d : Bool) → a || b || c || d ≡ false → (a || b || c) || d ≡ false
    grouped true b c d h = h
    grouped false true c d h = h
    grouped false false true d h = h
    grouped false false false d h = h

handled_fields : (called : Call) (u w : Unix) → handles_device called ≡ true → w.nodes ≡ u.nodes → w.files ≡ u.files → w.streams ≡ u.streams → w.ticks ≡ u.ticks → w.roots ≡ u.roots → w.limit ≡ u.limit → w.entries ≡ u.entries → Fields called u w
handled_fields called u w is names files streams ticks roots limit entries =
    record {
      names = λ h. names;
      files = λ h. files;
      streams = λ h. streams;
      devices = λ h. absurd (last (makes_device called) (handles_device called) is h);
      ticks = λ h. ticks;
      roots = roots;
      limit = limit;
      entries = entries;
    }
  where
    last : (a b : Bool) → b ≡ true → a || b ≡ false → ⊥
    last true b e h = true≢false h
    last false b e h = true≢false (sym e ∙ h)

pub changed_fields : (u : Unix) (p : Process) (called : Call) (later : Unix) → Change u p called later → Fields called u later
changed_fields u p called later (Itself r still e) = put_fields called u u later r e (same_fields called u)
changed_fields u p called later (Freed fd r is leads e) = put_fields called u u later r e (same_fields called u)
changed_fields u p called later (Doubled fd free stream r is found free_is leads e) = put_fields called u u later r e (same_fields called u)
changed_fields u p called later (EndedSo how is e) = put_fields called u u later (ended p how) e (same_fields called u)
changed_fields u p called later (Ticked count r is still e) =
    put_fields called u _ later r e
    (record { names = λ h. refl; files = λ h. refl; streams = λ h. refl; devices = λ h. refl; ticks = λ h. absurd (true≢false (sym (ap is_tick is) ∙ h)); roots = refl; limit = refl; entries = refl })
changed_fields u p called later (Born r is few still child number parent descriptors e) = put_fields called u (with_process child u) later r e (put_fields called u u (with_process child u) child refl (same_fields called u))
changed_fields u p called later (WaitedFor first r is among still e) =
    put_fields called u (with_process (record first { waited = true }) u) later r e (put_fields called u u (with_process (record first { waited = true }) u) (record first { waited = true }) refl (same_fields called u))
changed_fields u p called later (KilledSo target r is among kills e) =
    put_fields called u (with_kill target u) later r e (put_fields called u u (with_kill target u) (record target { killed = true }) refl (same_fields called u))
changed_fields u p called later (MadeDirectory path r is free still e) = put_fields called u _ later r e (name_fields called u _ is refl refl refl refl refl refl refl)
changed_fields u p called later (RemovedDirectory path r is free still e) = put_fields called u _ later r e (name_fields called u _ is refl refl refl refl refl refl refl)
changed_fields u p called later (Unlinked path r is free still e) = put_fields called u _ later r e (name_fields called u _ is refl refl refl refl refl refl refl)
changed_fields u p called later (Renamed old new r is free still e) = put_fields called u (moved_to old new (node_at u.nodes old) u) later r e (by (node_at u.nodes old))
  where
    by : (node : Option Node) → Fields called u (moved_to old new node u)
    by None = same_fields called u
    by (Some node) = name_fields called u (moved_to old new (Some node) u) is refl refl refl refl refl refl refl
changed_fields u p called later (OpenedFile path fd name truncates appends m r is there free leads e) = put_fields called u _ later r e (by truncates)
  where
    by : (b : Bool) → Fields called u (Rattle.unix_calls.specs.Opening.with_new_stream (Rattle.unix_calls.specs.declared.state.Object.TheVariants.OfFile name) m appends (cut b name u))
    by true = open_fields called u _ is refl refl refl refl refl
    by false = open_fields called u _ is refl refl refl refl refl
changed_fields u p called later (OpenedDevice path fd place appends m r is there free leads e) = put_fields called u _ later r e (open_fields called u _ is refl refl refl refl refl)
changed_fields u p called later (CreatedFile path fd appends m r is way there free leads e) = put_fields called u _ later r e (open_fields called u _ is refl refl refl refl refl)
changed_fields u p called later (MadeDevice path fd r is fresh free leads e) = put_fields called u _ later r e (device_fields called u _ is refl refl refl refl refl)
changed_fields u p called later (MovedTo fd offset stream r is found still e) = put_fields called u _ later r e (offset_fields called u _ is refl refl refl refl refl refl refl)
changed_fields u p called later (Wrote fd offset stream name bytes r is found object still e) = put_fields called u _ later r e (write_fields called u _ is refl refl refl refl refl refl)
changed_fields u p called later (Handled place device new r is found same still e) = put_fields called u _ later r e (handled_fields called u _ is refl refl refl refl refl refl refl)

-- ---- the processes

-- another process, by the call that was made
pub record KeptOther (called : Call) (v : Unix) (other : Process) : Type 0 where
  pub after : Process
  pub there : process_at v.processes other.pid ≡ Some after
  pub whole : after ≡ record other { killed = after.killed; waited = after.waited }
  pub killed : kills other.pid called ≡ false → after.killed ≡ other.killed
  pub pending : other.killed ≡ true → after.killed ≡ true
  pub waited : is_wait_call called ≡ false → after.waited ≡ other.waited

-- behind the caller
past_caller : (w later : Unix) (r : Process) (k : ℕ) → later ≡ with_process r w → (r.pid ≡ k → ⊥) → process_at later.processes k ≡ process_at w.processes k
past_caller w later r k e apart = ap (λ (x : Unix). process_at x.processes k) e ∙ put_others r w.processes k apart

kept_same : (called : Call) (w later : Unix) (r other : Process) → later ≡ with_process r w → (r.pid ≡ other.pid → ⊥) → process_at w.processes other.pid ≡ Some other → KeptOther called later other
kept_same called w later r other e apart there =
    record { after = other; there = past_caller w later r other.pid e apart ∙ there; whole = refl; killed = λ h. refl; pending = λ h. h; waited = λ h. refl }

-- one that is waited for, or another one
kept_waited : (called : Call) (u later : Unix) (first r other : Process) → called ≡ call.Wait → Numbered u.processes → IsAmong first u.processes → later ≡ with_process r (with_process (record first { waited = true }) u) → (r.pid ≡ other.pid → ⊥) → process_at u.processes other.pid ≡ Some other → KeptOther called later other
kept_waited called u later first r other is numbered among e apart there =
    elim (cases_Bool (first.pid == other.pid)) [
      | inl here ↦
          let number : first.pid ≡ other.pid = eqb-true first.pid other.pid here in
          let found : process_at u.processes first.pid ≡ Some first = among_found first u.processes numbered.ascending among in
          let same : first ≡ other = some_is first other (sym found ∙ ap (process_at u.processes) number ∙ there) in
          record {
            after = record first { waited = true };
            there = past_caller (with_process (record first { waited = true }) u) later r other.pid e apart
                ∙ ap (process_at (put_process (record first { waited = true }) u.processes)) (sym number) ∙ put_there (record first { waited = true }) u.processes;
            whole = ap (λ (p : Process). record p { waited = true }) same ∙ ap (λ (k : Bool). record other { killed = k; waited = true }) (sym (ap (λ (p : Process). p.killed) same));
            killed = λ h. ap (λ (p : Process). p.killed) same;
            pending = λ h. ap (λ (p : Process). p.killed) same ∙ h;
            waited = λ h. absurd (true≢false (sym (ap is_wait_call is) ∙ h));
          }
      | inr off ↦
          kept_same called (with_process (record first { waited = true }) u) later r other e apart
          (put_others (record first { waited = true }) u.processes other.pid (λ same. true≢false (sym (eq-eqb first.pid other.pid same) ∙ off)) ∙ there)
    ]

-- one that is killed, or another one
kept_killed : (called : Call) (u later : Unix) (target r other : Process) → called ≡ call.Kill target.pid → Numbered u.processes → IsAmong target u.processes → later ≡ with_process r (with_kill target u) → (r.pid ≡ other.pid → ⊥) → process_at u.processes other.pid ≡ Some other → KeptOther called later other
kept_killed called u later target r other is numbered among e apart there =
    elim (cases_Bool (target.pid == other.pid)) [
      | inl here ↦
          let number : target.pid ≡ other.pid = eqb-true target.pid other.pid here in
          let found : process_at u.processes target.pid ≡ Some target = among_found target u.processes numbered.ascending among in
          let same : target ≡ other = some_is target other (sym found ∙ ap (process_at u.processes) number ∙ there) in
          record {
            after = record target { killed = true };
            there = past_caller (with_kill target u) later r other.pid e apart
                ∙ ap (process_at (put_process (record target { killed = true }) u.processes)) (sym number) ∙ put_there (record target { killed = true }) u.processes;
            whole = ap (λ (p : Process). record p { killed = true }) same ∙ ap (λ (k : Bool). record other { killed = true; waited = k }) (sym (ap (λ (p : Process). p.waited) same));
            killed = λ h. absurd (true≢false (sym (ap (kills other.pid) is ∙ here) ∙ h));
            pending = λ h. refl;
            waited = λ h. ap (λ (p : Process). p.waited) same;
          }
      | inr off ↦
          kept_same called (with_kill target u) later r other e apart
          (put_others (record target { killed = true }) u.processes other.pid (λ same. true≢false (sym (eq-eqb target.pid other.pid same) ∙ off)) ∙ there)
    ]

kept_born : (called : Call) (u later : Unix) (child r p other : Process) → child.pid ≡ Rattle.unix_calls.specs.State.next_pid u.processes (home_of p.pid) → Rattle.unix_calls.specs.State.births u.processes (home_of p.pid) < 200 → Numbered u.processes
    → later ≡ with_process r (with_process child u) → (r.pid ≡ other.pid → ⊥) → process_at u.processes other.pid ≡ Some other → KeptOther called later other
kept_born called u later child r p other number few numbered e apart there =
    kept_same called (with_process child u) later r other e apart
    (put_others child u.processes other.pid
    (λ same. absurd (let none : process_at u.processes other.pid ≡ None = ap (process_at u.processes) (sym same ∙ number) ∙ next_is_new u.processes (home_of p.pid) few numbered.counted in let two : Some other ≡ None = sym there ∙ none in cc)) ∙ there)

changed_others : (u : Unix) (p : Process) (called : Call) (later : Unix) → Change u p called later → Numbered u.processes → (other : Process) → process_at u.processes other.pid ≡ Some other → other.pid ≢ p.pid → KeptOther called later other
changed_others u p called later (Itself r still e) numbered other there apart = kept_same called u later r other e (λ same. apart (sym same ∙ still.alike.pid)) there
changed_others u p called later (Freed fd r is leads e) numbered other there apart = kept_same called u later r other e (λ same. apart (sym same ∙ leads.alike.pid)) there
changed_others u p called later (Doubled fd free stream r is found free_is leads e) numbered other there apart = kept_same called u later r other e (λ same. apart (sym same ∙ leads.alike.pid)) there
changed_others u p called later (EndedSo how is e) numbered other there apart = kept_same called u later (ended p how) other e (λ same. apart (sym same)) there
changed_others u p called later (Ticked count r is still e) numbered other there apart = kept_same called _ later r other e (λ same. apart (sym same ∙ still.alike.pid)) there
changed_others u p called later (Born r is few still child number parent descriptors e) numbered other there apart = kept_born called u later child r p other number few numbered e (λ same. apart (sym same ∙ still.alike.pid)) there
changed_others u p called later (WaitedFor first r is among still e) numbered other there apart = kept_waited called u later first r other is numbered among e (λ same. apart (sym same ∙ still.alike.pid)) there
changed_others u p called later (KilledSo target r is among killed e) numbered other there apart = kept_killed called u later target r other is numbered among e (λ same. apart (sym same ∙ killed.pid)) there
changed_others u p called later (MadeDirectory path r is free still e) numbered other there apart = kept_same called _ later r other e (λ same. apart (sym same ∙ still.alike.pid)) there
changed_others u p called later (RemovedDirectory path r is free still e) numbered other there apart = kept_same called _ later r other e (λ same. apart (sym same ∙ still.alike.pid)) there
changed_others u p called later (Unlinked path r is free still e) numbered other there apart = kept_same called _ later r other e (λ same. apart (sym same ∙ still.alike.pid)) there
changed_others u p called later (Renamed old new r is free still e) numbered other there apart =
    kept_same called (moved_to old new (node_at u.nodes old) u) later r other e (λ same. apart (sym same ∙ still.alike.pid)) (by (node_at u.nodes old))
  where
    by : (node : Option Node) → process_at (moved_to old new node u).processes other.pid ≡ Some other
    by None = there
    by (Some node) = there
changed_others u p called later (OpenedFile path fd name truncates appends m r is found free leads e) numbered other there apart =
    kept_same called _ later r other e (λ same. apart (sym same ∙ leads.alike.pid)) (by truncates)
  where
    by : (b : Bool) → process_at (cut b name u).processes other.pid ≡ Some other
    by true = there
    by false = there
changed_others u p called later (OpenedDevice path fd place appends m r is found free leads e) numbered other there apart = kept_same called _ later r other e (λ same. apart (sym same ∙ leads.alike.pid)) there
changed_others u p called later (CreatedFile path fd appends m r is way found free leads e) numbered other there apart = kept_same called _ later r other e (λ same. apart (sym same ∙ leads.alike.pid)) there
changed_others u p called later (MadeDevice path fd r is fresh free leads e) numbered other there apart = kept_same called _ later r other e (λ same. apart (sym same ∙ leads.alike.pid)) there
changed_others u p called later (MovedTo fd offset stream r is found still e) numbered other there apart = kept_same called _ later r other e (λ same. apart (sym same ∙ still.alike.pid)) there
changed_others u p called later (Wrote fd offset stream name bytes r is found object still e) numbered other there apart = kept_same called _ later r other e (λ same. apart (sym same ∙ still.alike.pid)) there
changed_others u p called later (Handled place device new r is found same_place still e) numbered other there apart = kept_same called _ later r other e (λ same. apart (sym same ∙ still.alike.pid)) there

-- the caller itself
pub record KeptOwn (called : Call) (v : Unix) (own : Process) : Type 0 where
  pub after : Process
  pub there : process_at v.processes own.pid ≡ Some after
  pub pid : after.pid ≡ own.pid
  pub parent : after.parent ≡ own.parent
  pub waited : after.waited ≡ own.waited
  pub killed : kills own.pid called ≡ false → after.killed ≡ own.killed
  pub ending : is_last_call called ≡ false → after.ending ≡ own.ending

own_there : (w later : Unix) (r p : Process) → later ≡ with_process r w → r.pid ≡ p.pid → process_at later.processes p.pid ≡ Some r
own_there w later r p e pid = ap (λ (x : Unix). process_at x.processes p.pid) e ∙ ap (process_at (put_process r w.processes)) (sym pid) ∙ put_there r w.processes

own_alike : (called : Call) (w later : Unix) (r p : Process) → later ≡ with_process r w → Alike p r → KeptOwn called later p
own_alike called w later r p e alike =
    record { after = r; there = own_there w later r p e alike.pid; pid = alike.pid; parent = alike.parent; waited = alike.waited; killed = λ h. alike.killed; ending = λ h. alike.ending }

changed_own : (u : Unix) (p : Process) (called : Call) (later : Unix) → Change u p called later → KeptOwn called later p
changed_own u p called later (Itself r still e) = own_alike called u later r p e still.alike
changed_own u p called later (Freed fd r is leads e) = own_alike called u later r p e leads.alike
changed_own u p called later (Doubled fd free stream r is found free_is leads e) = own_alike called u later r p e leads.alike
changed_own u p called later (EndedSo how is e) =
    record { after = ended p how; there = own_there u later (ended p how) p e refl; pid = refl; parent = refl; waited = refl; killed = λ h. refl; ending = λ h. absurd (true≢false (sym is ∙ h)) }
changed_own u p called later (Ticked count r is still e) = own_alike called _ later r p e still.alike
changed_own u p called later (Born r is few still child number parent descriptors e) = own_alike called (with_process child u) later r p e still.alike
changed_own u p called later (WaitedFor first r is among still e) = own_alike called (with_process (record first { waited = true }) u) later r p e still.alike
changed_own u p called later (KilledSo target r is among killed e) =
    record {
      after = r;
      there = own_there (with_kill target u) later r p e killed.pid;
      pid = killed.pid;
      parent = killed.parent;
      waited = killed.waited;
      killed = λ h. killed.killed (sym (ap (kills p.pid) is) ∙ h);
      ending = λ h. killed.ending;
    }
changed_own u p called later (MadeDirectory path r is free still e) = own_alike called _ later r p e still.alike
changed_own u p called later (RemovedDirectory path r is free still e) = own_alike called _ later r p e still.alike
changed_own u p called later (Unlinked path r is free still e) = own_alike called _ later r p e still.alike
changed_own u p called later (Renamed old new r is free still e) = own_alike called (moved_to old new (node_at u.nodes old) u) later r p e still.alike
changed_own u p called later (OpenedFile path fd name truncates appends m r is found free leads e) = own_alike called _ later r p e leads.alike
changed_own u p called later (OpenedDevice path fd place appends m r is found free leads e) = own_alike called _ later r p e leads.alike
changed_own u p called later (CreatedFile path fd appends m r is way found free leads e) = own_alike called _ later r p e leads.alike
changed_own u p called later (MadeDevice path fd r is fresh free leads e) = own_alike called _ later r p e leads.alike
changed_own u p called later (MovedTo fd offset stream r is found still e) = own_alike called _ later r p e still.alike
changed_own u p called later (Wrote fd offset stream name bytes r is found object still e) = own_alike called _ later r p e still.alike
changed_own u p called later (Handled place device new r is found same_place still e) = own_alike called _ later r p e still.alike

-- ---- entries

-- an entry's call
pub of_call : (test : Call → Bool) (o : Option Call) (called : Call) → o ≡ Some called → may test o ≡ false → test called ≡ false
of_call test o called is h = sym (ap (may test) is) ∙ h

-- a whole call
call_leaves : (u later : Unix) (e : Entry) (q : Process) (called : Call) → Numbered u.processes → At u e.pid q → e.call ≡ Some called → e.part ≡ part.Whole → Change (with_process q u) q called later → Leaves e u (counted later)
call_leaves u later e q called numbered at is whole change =
    let before = at.before in
    let number : before.pid ≡ e.pid = found_pid u.processes e.pid before at.there in
    let own_pid : q.pid ≡ before.pid = ap (λ (x : Process). x.pid) at.whole in
    let here : process_at u.processes q.pid ≡ Some before = ap (process_at u.processes) (own_pid ∙ number) ∙ at.there in
    let standing : Numbered (with_process q u).processes = numbered_again q before u.processes here numbered in
    let f = changed_fields (with_process q u) q called later change in
    let k = changed_own (with_process q u) q called later change in
    record {
      names = λ h. f.names (of_call changes_names e.call called is h);
      files = λ h. f.files (of_call changes_files e.call called is h);
      streams = λ h. f.streams (of_call changes_streams e.call called is h);
      devices = λ h no_operation. f.devices (of_call changes_devices e.call called is h);
      ticks = λ h. f.ticks (of_call is_tick e.call called is h);
      roots = f.roots;
      limit = f.limit;
      entries = ap (λ n. n + 1) f.entries;
      own = λ own there.
          let same : before ≡ own = some_is before own (sym at.there ∙ there) in
          record {
            after = k.after;
            there = ap (process_at later.processes) (sym (own_pid ∙ number)) ∙ k.there;
            pid = k.pid ∙ own_pid ∙ ap (λ (x : Process). x.pid) same;
            parent = k.parent ∙ ap (λ (x : Process). x.parent) (at.whole) ∙ ap (λ (x : Process). x.parent) same;
            waited = k.waited ∙ ap (λ (x : Process). x.waited) (at.whole) ∙ ap (λ (x : Process). x.waited) same;
            killed = λ h. k.killed (ap (λ n. kills n called) (own_pid ∙ ap (λ (x : Process). x.pid) same) ∙ of_call (kills own.pid) e.call called is h) ∙ ap (λ (x : Process). x.killed) (at.whole) ∙ ap (λ (x : Process). x.killed) same;
            ending = λ h. k.ending (sym (ap₂ is_last_part whole is) ∙ h) ∙ ap (λ (x : Process). x.ending) (at.whole) ∙ ap (λ (x : Process). x.ending) same;
          };
      others = λ other there apart.
          let apart_q : other.pid ≢ q.pid = λ same. apart (same ∙ own_pid ∙ number) in
          let o = changed_others (with_process q u) q called later change standing other (put_others q u.processes other.pid (λ same. apart_q (sym same)) ∙ there) apart_q in
          record {
            after = o.after;
            there = o.there;
            whole = o.whole;
            killed = λ h. o.killed (of_call (kills other.pid) e.call called is h);
            pending = o.pending;
            waited = λ h. o.waited (of_call is_wait_call e.call called is h);
          };
    }

-- an entry that changes its process and, where it is an operation's, the devices
own_leaves : (u w later : Unix) (e : Entry) (before r : Process) → process_at u.processes e.pid ≡ Some before → r.pid ≡ before.pid → r.parent ≡ before.parent → r.waited ≡ before.waited → r.killed ≡ before.killed → (is_last e ≡ false → r.ending ≡ before.ending)
    → w.nodes ≡ u.nodes → w.files ≡ u.files → w.streams ≡ u.streams → (is_of_operation e.part ≡ false → w.devices ≡ u.devices) → w.ticks ≡ u.ticks → w.roots ≡ u.roots → w.limit ≡ u.limit → w.entries ≡ u.entries
    → ((k : ℕ) → (e.pid ≡ k → ⊥) → process_at w.processes k ≡ process_at u.processes k) → later ≡ with_process r w → Leaves e u (counted later)
own_leaves u w later e before r there pid parent waited killed ending nodes files streams devices ticks roots limit entries rest is =
    let number : before.pid ≡ e.pid = found_pid u.processes e.pid before there in
    record {
      names = λ h. ap (λ (x : Unix). x.nodes) is ∙ nodes;
      files = λ h. ap (λ (x : Unix). x.files) is ∙ files;
      streams = λ h. ap (λ (x : Unix). x.streams) is ∙ streams;
      devices = λ h no_operation. ap (λ (x : Unix). x.devices) is ∙ devices no_operation;
      ticks = λ h. ap (λ (x : Unix). x.ticks) is ∙ ticks;
      roots = ap (λ (x : Unix). x.roots) is ∙ roots;
      limit = ap (λ (x : Unix). x.limit) is ∙ limit;
      entries = ap (λ (x : Unix). x.entries + 1) is ∙ ap (λ n. n + 1) entries;
      own = λ own own_is.
          let same : before ≡ own = some_is before own (sym there ∙ own_is) in
          record {
            after = r;
            there = ap (λ (x : Unix). process_at x.processes e.pid) is ∙ ap (process_at (put_process r w.processes)) (sym (pid ∙ number)) ∙ put_there r w.processes;
            pid = pid ∙ ap (λ (x : Process). x.pid) same;
            parent = parent ∙ ap (λ (x : Process). x.parent) same;
            waited = waited ∙ ap (λ (x : Process). x.waited) same;
            killed = λ h. killed ∙ ap (λ (x : Process). x.killed) same;
            ending = λ h. ending h ∙ ap (λ (x : Process). x.ending) same;
          };
      others = λ other other_is apart.
          record {
            after = other;
            there = past_caller w later r other.pid is (λ same. apart (sym same ∙ pid ∙ number)) ∙ rest other.pid (λ same. apart (sym same)) ∙ other_is;
            whole = refl;
            killed = λ h. refl;
            pending = λ h. h;
            waited = λ h. refl;
          };
    }

-- the process was put at its call
put_at : (u : Unix) (e : Entry) (q : Process) (at : At u e.pid q) (k : ℕ) → (e.pid ≡ k → ⊥) → process_at (with_process q u).processes k ≡ process_at u.processes k
put_at u e q at k apart = put_others q u.processes k (λ same. apart (sym (ap (λ (x : Process). x.pid) at.whole ∙ found_pid u.processes e.pid at.before at.there) ∙ same))

step_leaves : (c : Description) (u later : Unix) (e : Entry) → Numbered u.processes → Step c u e later → Leaves e u (counted later)
step_leaves c u later e numbered (Calls q called at is whole change) = call_leaves u later e q called numbered at is whole change
step_leaves c u later e numbered (Asks q called place device at is ask there e_is) =
    own_leaves u _ later e at.before (record q { asking = Some device.place }) at.there (ap (λ (x : Process). x.pid) at.whole) (ap (λ (x : Process). x.parent) at.whole) (ap (λ (x : Process). x.waited) at.whole) (ap (λ (x : Process). x.killed) at.whole)
    (λ h. ap (λ (x : Process). x.ending) at.whole) refl refl refl (λ no_operation. absurd (true≢false (sym (ap is_of_operation ask) ∙ no_operation))) refl refl refl refl (put_at u e q at) e_is
step_leaves c u later e numbered (Fetches q called device reply at is done e_is) =
    own_leaves u (fetched (with_process q u) q device) later e at.before (replied c q reply) at.there (ap (λ (x : Process). x.pid) at.whole) (ap (λ (x : Process). x.parent) at.whole) (ap (λ (x : Process). x.waited) at.whole) (ap (λ (x : Process). x.killed) at.whole)
    (λ h. ap (λ (x : Process). x.ending) at.whole) refl refl refl (λ no_operation. absurd (true≢false (sym (ap is_of_operation done) ∙ no_operation))) refl refl refl refl (put_at u e q at) e_is
step_leaves c u later e numbered (Dies p there alive none dead e_is) =
    own_leaves u u later e p (record p { descriptors = no_descriptors; ending = Some ending.Killed }) there refl refl refl refl
    (λ h. absurd (true≢false (sym (ap₂ is_last_part dead none) ∙ h))) refl refl refl (λ no_operation. refl) refl refl refl refl (λ k apart. refl) e_is

pub numbered_of : (c : Description) (journal : List Entry) (u : Unix) → length c.starts ≤ 200 → state_of c journal ≡ Some u → Numbered u.processes
numbered_of c journal u few is =
    kept c (λ (w : Unix). Numbered w.processes) (λ (w x : Unix) (e : Entry) (so : after c w e ≡ Some x) (h : Numbered w.processes). numbered_after c w x e so h) journal u (boot_numbered c few) is

pub leaves_by : (c : Description) (u v : Unix) (e : Entry) → Numbered u.processes → after c u e ≡ Some v → Leaves e u v
leaves_by c u v e numbered is =
    let entry = entered c u v e is in
    subst (Leaves e u) (sym entry.whole) (step_leaves c u entry.later e numbered entry.step)

pub entries_leave : EntriesLeave
entries_leave c journal u v e few was is = leaves_by c u v e (numbered_of c journal u few was) is
