-- Which processes, streams, devices and names stand behind an entry.
use Rattle.std.proofs.Common.{◌≡◌, ◌+◌, ℕ, Bool, true, false, ◌&&◌, ◌||◌, cond, List, [], ◌∷◌, ◌++◌, Option, Some, None, refl, sym, ap, ap₂, subst, ◌∙◌, inl, inr}
use Rattle.std.specs.Prelude.{◌==◌, slice_get}
use Rattle.std.specs.List.{AllByRecursion}
use Rattle.std.specs.Option.{is_some, option_map, option_and_then}
use Rattle.std.proofs.lemmas.Bool.{eqb-true, eq-eqb}
use Rattle.sprite_ids.specs.Pid.{home_of}
use Rattle.sprite_ids.specs.declared.Ending.TheVariants as ending
use Rattle.sprite_ids.specs.declared.Mode.{Mode}
use Rattle.sprite_ids.specs.declared.Mode.TheVariants as mode
use Rattle.sprite_ids.proofs.ListLaws.{each_filter}
use Rattle.process_machine.specs.declared.call.Call.{Call}
use Rattle.process_machine.specs.declared.call.Reply.{Reply}
use Rattle.process_machine.specs.declared.call.Reply.TheVariants.{Error}
use Rattle.process_machine.specs.Machine.{Machine}
use Rattle.unix_calls.specs.declared.Description.{Description}
use Rattle.unix_calls.specs.declared.Entry.{Entry}
use Rattle.unix_calls.specs.declared.state.Device.{Device}
use Rattle.unix_calls.specs.declared.state.FileName.{FileName}
use Rattle.unix_calls.specs.declared.state.FileName.TheVariants.{Made}
use Rattle.unix_calls.specs.declared.state.Named.{Named}
use Rattle.unix_calls.specs.declared.state.Node.{Node}
use Rattle.unix_calls.specs.declared.state.Node.TheVariants.{Directory, FileNode, DeviceNode}
use Rattle.unix_calls.specs.declared.state.Object.{Object}
use Rattle.unix_calls.specs.declared.state.Object.TheVariants.{OfFile, OfDevice, OfMaster}
use Rattle.unix_calls.specs.declared.state.Process.{Process}
use Rattle.unix_calls.specs.declared.state.Stream.{Stream}
use Rattle.unix_calls.specs.Tree.{looked_up, node_at, path_before, same_path, with_name, without_name}
use Rattle.unix_calls.specs.State.{Unix, births, device_at, joined_option, lives, no_descriptors, stream_at, stream_of, with_device, with_process, with_stream}
use Rattle.unix_calls.specs.Answers.{Answered, replied}
use Rattle.unix_calls.specs.ProcessCalls.{ended, with_kill}
use Rattle.unix_calls.specs.NameCalls.{moved_to}
use Rattle.unix_calls.specs.Opening.{cut, with_new_device, with_new_file, with_new_stream}
use Rattle.unix_calls.specs.After.{fetched, outcome}
use Rattle.unix_calls.proofs.OutcomeLaws.{IsAmong}
use Rattle.unix_calls.proofs.ProcessLaws.{each_put, found_each, found_pid}
use Rattle.unix_frames.proofs.ChangeLaws.{Change, Itself, Freed, Doubled, EndedSo, Ticked, Born, WaitedFor, KilledSo, MadeDirectory, RemovedDirectory, Unlinked, Renamed, OpenedFile, OpenedDevice, CreatedFile, MadeDevice, MovedTo, Wrote, Handled, IsFresh, Leads, MakesIn, Still, made_outcome}
use Rattle.unix_frames.proofs.OrderLaws.{next_home}
use Rattle.unix_laws.specs.Streams.{is_master}
use Rattle.unix_frames.proofs.EntryLaws.{Answers, Asks, Dies, Enters, Fails, Fetches, IsAt}

-- ---- processes

-- what becomes of an entry's process: its descriptors stay, one of them is free, leads to where another one leads, or to the stream
-- that this entry makes, or the process has ended; `now` are the streams behind the entry
pub data Own (streams now : List Stream) (entries : ℕ) (p r : Process) : Type 0 where
  Keeps : r.pid ≡ p.pid → r.parent ≡ p.parent → r.ending ≡ p.ending → r.descriptors ≡ p.descriptors → Own streams now entries p r
  Frees : (fd : ℕ) → Leads p r fd None → Own streams now entries p r
  Doubles : (fd free : ℕ) (stream : Stream) → option_and_then (stream_at streams) (joined_option (slice_get p.descriptors fd)) ≡ Some stream → Leads p r free (Some stream.place) → Own streams now entries p r
  Opens : (fd : ℕ) → is_some (stream_at now entries) ≡ true → Leads p r fd (Some entries) → Own streams now entries p r
  Stops : r.pid ≡ p.pid → r.parent ≡ p.parent → r.descriptors ≡ no_descriptors → lives r ≡ false → Own streams now entries p r

-- what is to be known of a fact of each process, P before and Q behind an entry
pub record Spreads (P Q : Process → Type 0) (streams now : List Stream) (entries pid : ℕ) : Type 0 where
  pub image : (p : Process) (m : Machine) → P p → P (record p { image = m })
  pub own : (p r : Process) → p.pid ≡ pid → lives p ≡ true → P p → Own streams now entries p r → Q r
  pub marked : (p : Process) (killed waited : Bool) → P p → Q (record p { killed = killed; waited = waited })
  pub born : (p child : Process) → P p → home_of child.pid ≡ home_of p.pid → child.parent ≡ Some p.pid → IsFresh p child → Q child

keeps_still : (streams now : List Stream) (entries : ℕ) (p r : Process) → Still p r → Own streams now entries p r
keeps_still streams now entries p r still = Keeps still.alike.pid still.alike.parent still.alike.ending still.descriptors

put_each : (Q : Process → Type 0) (w later : Unix) (r : Process) → later ≡ with_process r w → Q r → AllByRecursion Q w.processes → AllByRecursion Q later.processes
put_each Q w later r e own h = subst (λ (x : Unix). AllByRecursion Q x.processes) (sym e) (each_put Q r w.processes own h)

among_each : (P : Process → Type 0) (ps : List Process) (q : Process) → AllByRecursion P ps → IsAmong q ps → P q
among_each P [] q h among = absurd among
among_each P (p ∷ ps) q h (inl same) = subst P same h.0
among_each P (p ∷ ps) q h (inr among) = among_each P ps q h.1 among

weakened : (P Q : Process → Type 0) (streams now : List Stream) (entries pid : ℕ) (ps : List Process) → Spreads P Q streams now entries pid → AllByRecursion P ps → AllByRecursion Q ps
weakened P Q streams now entries pid [] s h = tt
weakened P Q streams now entries pid (p ∷ ps) s h = (s.marked p p.killed p.waited h.0, weakened P Q streams now entries pid ps s h.1)

cut_entries : (b : Bool) (name : FileName) (u : Unix) → (cut b name u).entries ≡ u.entries
cut_entries true name u = refl
cut_entries false name u = refl

-- a stream that an entry made is there
opened_there : (u w later : Unix) (r : Process) (object : Object) (m : Mode) (appends : Bool) → later ≡ with_process r (with_new_stream object m appends w) → w.entries ≡ u.entries → is_some (stream_at later.streams u.entries) ≡ true
opened_there u w later r object m appends is entries =
    let s : Stream = record { place = w.entries; object = object; mode = m; appends = appends; offset = 0 } in
    ap (λ (x : Unix). is_some (stream_at x.streams u.entries)) is ∙ pushed_there w.streams s u.entries entries
  where
    pushed_there : (ss : List Stream) (s : Stream) (k : ℕ) → s.place ≡ k → is_some (stream_at (ss ++ s ∷ []) k) ≡ true
    pushed_there [] s k same = ap (λ b. is_some (cond b (Some s) None)) (eq-eqb s.place k same)
    pushed_there (x ∷ ss) s k same = by (x.place == k) (pushed_there ss s k same)
      where
        by : (b : Bool) → is_some (stream_at (ss ++ s ∷ []) k) ≡ true → is_some (cond b (Some x) (stream_at (ss ++ s ∷ []) k)) ≡ true
        by true h = refl
        by false h = h

changed_each : (P Q : Process → Type 0) (u : Unix) (p : Process) (called : Call) (later : Unix) → Change u p called later → lives p ≡ true → P p → Spreads P Q u.streams later.streams u.entries p.pid → AllByRecursion P u.processes → AllByRecursion Q later.processes
changed_each P Q u p called later (Itself r still e) alive own s h = put_each Q u later r e (s.own p r refl alive own (keeps_still u.streams later.streams u.entries p r still)) (weakened P Q u.streams later.streams u.entries p.pid u.processes s h)
changed_each P Q u p called later (Freed fd r is leads e) alive own s h = put_each Q u later r e (s.own p r refl alive own (Frees fd leads)) (weakened P Q u.streams later.streams u.entries p.pid u.processes s h)
changed_each P Q u p called later (Doubled fd free stream r is found free_is leads e) alive own s h =
    put_each Q u later r e (s.own p r refl alive own (Doubles fd free stream found leads)) (weakened P Q u.streams later.streams u.entries p.pid u.processes s h)
changed_each P Q u p called later (EndedSo how is e) alive own s h =
    put_each Q u later (ended p how) e (s.own p (ended p how) refl alive own (Stops refl refl refl refl)) (weakened P Q u.streams later.streams u.entries p.pid u.processes s h)
changed_each P Q u p called later (Ticked count r is still e) alive own s h = put_each Q _ later r e (s.own p r refl alive own (keeps_still u.streams later.streams u.entries p r still)) (weakened P Q u.streams later.streams u.entries p.pid u.processes s h)
changed_each P Q u p called later (Born r is few still child number parent descriptors e) alive own s h =
    let home : home_of child.pid ≡ home_of p.pid = ap home_of number ∙ next_home (home_of p.pid) (births u.processes (home_of p.pid)) few in
    put_each Q (with_process child u) later r e (s.own p r refl alive own (keeps_still u.streams later.streams u.entries p r still))
    (each_put Q child u.processes (s.born p child own home parent descriptors) (weakened P Q u.streams later.streams u.entries p.pid u.processes s h))
changed_each P Q u p called later (WaitedFor first r is among still e) alive own s h =
    put_each Q (with_process (record first { waited = true }) u) later r e (s.own p r refl alive own (keeps_still u.streams later.streams u.entries p r still))
    (each_put Q (record first { waited = true }) u.processes (s.marked first first.killed true (among_each P u.processes first h among)) (weakened P Q u.streams later.streams u.entries p.pid u.processes s h))
changed_each P Q u p called later (KilledSo target r is among killed e) alive own s h =
    put_each Q (with_kill target u) later r e (s.own p r refl alive own (Keeps killed.pid killed.parent killed.ending killed.descriptors))
    (each_put Q (record target { killed = true }) u.processes (s.marked target true target.waited (among_each P u.processes target h among)) (weakened P Q u.streams later.streams u.entries p.pid u.processes s h))
changed_each P Q u p called later (MadeDirectory path r is free still e) alive own s h = put_each Q _ later r e (s.own p r refl alive own (keeps_still u.streams later.streams u.entries p r still)) (weakened P Q u.streams later.streams u.entries p.pid u.processes s h)
changed_each P Q u p called later (RemovedDirectory path r is free still e) alive own s h = put_each Q _ later r e (s.own p r refl alive own (keeps_still u.streams later.streams u.entries p r still)) (weakened P Q u.streams later.streams u.entries p.pid u.processes s h)
changed_each P Q u p called later (Unlinked path r is free still e) alive own s h = put_each Q _ later r e (s.own p r refl alive own (keeps_still u.streams later.streams u.entries p r still)) (weakened P Q u.streams later.streams u.entries p.pid u.processes s h)
changed_each P Q u p called later (Renamed old new r is free still e) alive own s h =
    put_each Q (moved_to old new (node_at u.nodes old) u) later r e (s.own p r refl alive own (keeps_still u.streams later.streams u.entries p r still)) (by (node_at u.nodes old))
  where
    by : (node : Option Node) → AllByRecursion Q (moved_to old new node u).processes
    by None = weakened P Q u.streams later.streams u.entries p.pid u.processes s h
    by (Some node) = weakened P Q u.streams later.streams u.entries p.pid u.processes s h
changed_each P Q u p called later (OpenedFile path fd name truncates appends m r is there free leads e) alive own s h = put_each Q _ later r e (s.own p r refl alive own (Opens fd (opened_there u (cut truncates name u) later r (OfFile name) m appends e (cut_entries truncates name u)) leads)) (by truncates)
  where
    by : (b : Bool) → AllByRecursion Q (cut b name u).processes
    by true = weakened P Q u.streams later.streams u.entries p.pid u.processes s h
    by false = weakened P Q u.streams later.streams u.entries p.pid u.processes s h
changed_each P Q u p called later (OpenedDevice path fd place appends m r is there free leads e) alive own s h = put_each Q _ later r e (s.own p r refl alive own (Opens fd (opened_there u u later r (OfDevice place) m appends e refl) leads)) (weakened P Q u.streams later.streams u.entries p.pid u.processes s h)
changed_each P Q u p called later (CreatedFile path fd appends m r is way there free leads e) alive own s h = put_each Q _ later r e (s.own p r refl alive own (Opens fd (opened_there u (with_new_file path u) later r (OfFile (Made u.entries)) m appends e refl) leads)) (weakened P Q u.streams later.streams u.entries p.pid u.processes s h)
changed_each P Q u p called later (MadeDevice path fd r is fresh free leads e) alive own s h = put_each Q _ later r e (s.own p r refl alive own (Opens fd (opened_there u (with_new_device path u) later r (OfMaster u.entries) mode.Both false e refl) leads)) (weakened P Q u.streams later.streams u.entries p.pid u.processes s h)
changed_each P Q u p called later (MovedTo fd offset stream r is found still e) alive own s h = put_each Q _ later r e (s.own p r refl alive own (keeps_still u.streams later.streams u.entries p r still)) (weakened P Q u.streams later.streams u.entries p.pid u.processes s h)
changed_each P Q u p called later (Wrote fd offset stream name bytes r is found object still e) alive own s h = put_each Q _ later r e (s.own p r refl alive own (keeps_still u.streams later.streams u.entries p r still)) (weakened P Q u.streams later.streams u.entries p.pid u.processes s h)
changed_each P Q u p called later (Handled place device new r is found same still e) alive own s h = put_each Q _ later r e (s.own p r refl alive own (keeps_still u.streams later.streams u.entries p r still)) (weakened P Q u.streams later.streams u.entries p.pid u.processes s h)

-- an answered call changes so much
pub change_of : (c : Description) (w : Unix) (q : Process) (called : Call) (reply : Reply) (later : Unix) → outcome c w q called ≡ Answered reply later → Change w q called later
change_of c w q called reply later is = subst (MakesIn w q called) is (made_outcome c w q called).does

-- the process at its call
at_alive : (c : Description) (u : Unix) (e : Entry) (q : Process) (called : Call) → IsAt c u e q called → lives q ≡ true
at_alive c u e q called at = ap lives at.whole ∙ at.alive

at_fact : (P : Process → Type 0) (c : Description) (u : Unix) (e : Entry) (q : Process) (called : Call) → ((p : Process) (m : Machine) → P p → P (record p { image = m })) → IsAt c u e q called → AllByRecursion P u.processes → P q
at_fact P c u e q called image at h = subst P (sym at.whole) (image at.before at.image (found_each P u.processes e.pid at.before h at.there))

at_pid : (c : Description) (u : Unix) (e : Entry) (q : Process) (called : Call) → IsAt c u e q called → q.pid ≡ e.pid
at_pid c u e q called at = ap (λ (p : Process). p.pid) at.whole ∙ found_pid u.processes e.pid at.before at.there

-- the entry's process alone, of which much stays
own_each : (P Q : Process → Type 0) (c : Description) (u w later : Unix) (e : Entry) (q r : Process) (called : Call) → IsAt c u e q called → Spreads P Q u.streams later.streams u.entries e.pid → AllByRecursion P u.processes → w.processes ≡ (with_process q u).processes
    → r.pid ≡ q.pid → r.parent ≡ q.parent → r.ending ≡ q.ending → r.descriptors ≡ q.descriptors → later ≡ with_process r w → AllByRecursion Q later.processes
own_each P Q c u w later e q r called at s h same pid parent end descriptors is =
    let own : P q = at_fact P c u e q called s.image at h in
    put_each Q w later r is (s.own q r (at_pid c u e q called at) (at_alive c u e q called at) own (Keeps pid parent end descriptors))
    (subst (AllByRecursion Q) (sym same) (weakened P Q u.streams later.streams u.entries e.pid (with_process q u).processes s (each_put P q u.processes own h)))

pub enters_each : (P Q : Process → Type 0) (c : Description) (u later : Unix) (e : Entry) → Enters c u e later → Spreads P Q u.streams later.streams u.entries e.pid → AllByRecursion P u.processes → AllByRecursion Q later.processes
enters_each P Q c u later e (Answers q called reply at whole given idle is) s h =
    let own : P q = at_fact P c u e q called s.image at h in
    changed_each P Q (with_process q u) q called later (change_of c (with_process q u) q called reply later is) (at_alive c u e q called at) own
    (subst (Spreads P Q u.streams later.streams u.entries) (sym (at_pid c u e q called at)) s) (each_put P q u.processes own h)
enters_each P Q c u later e (Fails q called error at whole given idle may is) s h =
    own_each P Q c u (with_process q u) later e q (replied c q (Error error)) called at s h refl refl refl refl refl is
enters_each P Q c u later e (Asks q called place device at ask given idle goes there is) s h =
    own_each P Q c u _ later e q (record q { asking = Some device.place }) called at s h refl refl refl refl refl is
enters_each P Q c u later e (Fetches q called place device reply at done given busy there due is) s h =
    own_each P Q c u (fetched (with_process q u) q device) later e q (replied c q reply) called at s h refl refl refl refl refl is
enters_each P Q c u later e (Dies p there alive killed idle dead none given is) s h =
    let r : Process = record p { descriptors = no_descriptors; ending = Some ending.Killed } in
    put_each Q u later r is (s.own p r (found_pid u.processes e.pid p there) alive (found_each P u.processes e.pid p h there) (Stops refl refl refl refl)) (weakened P Q u.streams later.streams u.entries e.pid u.processes s h)

-- ---- streams and devices

-- what the stream leads to that stands at a place; whether a device does
abbrev pub object_at : List Stream → ℕ → Option Object
object_at streams place = option_map (λ (s : Stream). s.object) (stream_at streams place)

abbrev pub has_device : List Device → ℕ → Bool
has_device devices place = is_some (device_at devices place)

abbrev pub or_else : {A : Type 0} → Option A → Option A → Option A
or_else (Some x) y = Some x
or_else None y = y

-- a device is opened that has a name, a master's stream is of the device that is made with it
pub record HasName (nodes : List Named) (node : Node) : Type 0 where
  pub path : List (List ℕ)
  pub there : node_at nodes path ≡ Some node

abbrev pub IsFit : List Named → ℕ → Object → Type 0
IsFit nodes entries (OfFile name) = Unit {0}
IsFit nodes entries (OfDevice place) = HasName nodes (DeviceNode place)
IsFit nodes entries (OfMaster place) = place ≡ entries

-- the streams lead where they led, and the same devices are there; or a stream is new, and where it is a master's, its device
pub data Things (nodes : List Named) (entries : ℕ) (objects : ℕ → Option Object) (devices : ℕ → Bool) (later : Unix) : Type 0 where
  Nothing_new : ((k : ℕ) → object_at later.streams k ≡ objects k) → ((k : ℕ) → has_device later.devices k ≡ devices k) → later.entries ≡ entries → Things nodes entries objects devices later
  New : (object : Object) → IsFit nodes entries object → ((k : ℕ) → object_at later.streams k ≡ or_else (objects k) (cond (entries == k) (Some object) None)) → ((k : ℕ) → has_device later.devices k ≡ (devices k || (is_master object && (entries == k)))) → later.entries ≡ entries
      → Things nodes entries objects devices later

stream_more : (ss : List Stream) (s : Stream) (k : ℕ) → object_at (ss ++ s ∷ []) k ≡ or_else (object_at ss k) (cond (s.place == k) (Some s.object) None)
stream_more [] s k = by (s.place == k)
  where
    by : (b : Bool) → option_map (λ (x : Stream). x.object) (cond b (Some s) None) ≡ cond b (Some s.object) None
    by true = refl
    by false = refl
stream_more (x ∷ ss) s k = by (x.place == k) (stream_more ss s k)
  where
    by : (b : Bool) → object_at (ss ++ s ∷ []) k ≡ or_else (object_at ss k) (cond (s.place == k) (Some s.object) None)
        → option_map (λ (y : Stream). y.object) (cond b (Some x) (stream_at (ss ++ s ∷ []) k)) ≡ or_else (option_map (λ (y : Stream). y.object) (cond b (Some x) (stream_at ss k))) (cond (s.place == k) (Some s.object) None)
    by true h = refl
    by false h = h

device_more : (ds : List Device) (d : Device) (k : ℕ) → has_device (ds ++ d ∷ []) k ≡ (has_device ds k || (d.place == k))
device_more [] d k = by (d.place == k)
  where
    by : (b : Bool) → is_some (cond b (Some d) None) ≡ b
    by true = refl
    by false = refl
device_more (x ∷ ds) d k = by (x.place == k) (device_more ds d k)
  where
    by : (b : Bool) → has_device (ds ++ d ∷ []) k ≡ (has_device ds k || (d.place == k)) → is_some (cond b (Some x) (device_at (ds ++ d ∷ []) k)) ≡ (is_some (cond b (Some x) (device_at ds k)) || (d.place == k))
    by true h = refl
    by false h = h

-- a stream that takes the place of one with its object
stream_put : (ss : List Stream) (old new : Stream) (k : ℕ) → stream_at ss new.place ≡ Some old → new.object ≡ old.object → object_at (with_stream new ss) k ≡ object_at ss k
stream_put [] old new k there same = refl
stream_put (x ∷ ss) old new k there same = by (x.place == new.place) refl there (stream_put ss old new k)
  where
    by : (b : Bool) → (x.place == new.place) ≡ b → cond b (Some x) (stream_at ss new.place) ≡ Some old → (stream_at ss new.place ≡ Some old → new.object ≡ old.object → object_at (with_stream new ss) k ≡ object_at ss k)
        → object_at (cond b (new ∷ ss) (x ∷ with_stream new ss)) k ≡ object_at (x ∷ ss) k
    by true e there rest =
        let is : x ≡ old = cc in
        let place : x.place ≡ new.place = eqb-true x.place new.place e in
        ap (λ n. option_map (λ (y : Stream). y.object) (cond (n == k) (Some new) (stream_at ss k))) (sym place) ∙ at (x.place == k) (same ∙ ap (λ (y : Stream). y.object) (sym is))
      where
        at : (b : Bool) → new.object ≡ x.object → option_map (λ (y : Stream). y.object) (cond b (Some new) (stream_at ss k)) ≡ option_map (λ (y : Stream). y.object) (cond b (Some x) (stream_at ss k))
        at true h = ap Some h
        at false h = refl
    by false e there rest = at (x.place == k) (rest there same)
      where
        at : (b : Bool) → object_at (with_stream new ss) k ≡ object_at ss k → option_map (λ (y : Stream). y.object) (cond b (Some x) (stream_at (with_stream new ss) k)) ≡ option_map (λ (y : Stream). y.object) (cond b (Some x) (stream_at ss k))
        at true h = refl
        at false h = h

device_put : (ds : List Device) (new : Device) (k : ℕ) → has_device (with_device new ds) k ≡ has_device ds k
device_put [] new k = refl
device_put (x ∷ ds) new k = by (x.place == new.place) refl (device_put ds new k)
  where
    by : (b : Bool) → (x.place == new.place) ≡ b → has_device (with_device new ds) k ≡ has_device ds k → has_device (cond b (new ∷ ds) (x ∷ with_device new ds)) k ≡ has_device (x ∷ ds) k
    by true e rest = ap (λ n. is_some (cond (n == k) (Some new) (device_at ds k))) (sym (eqb-true x.place new.place e)) ∙ at (x.place == k)
      where
        at : (b : Bool) → is_some (cond b (Some new) (device_at ds k)) ≡ is_some (cond b (Some x) (device_at ds k))
        at true = refl
        at false = refl
    by false e rest = at (x.place == k) rest
      where
        at : (b : Bool) → has_device (with_device new ds) k ≡ has_device ds k → is_some (cond b (Some x) (device_at (with_device new ds) k)) ≡ is_some (cond b (Some x) (device_at ds k))
        at true h = refl
        at false h = h

-- a stream that was found stands at its own place
pub found_place : (ss : List Stream) (k : ℕ) (s : Stream) → stream_at ss k ≡ Some s → s.place ≡ k
found_place [] k s h = absurd (cc)
found_place (x ∷ ss) k s h = by (x.place == k) refl h (found_place ss k s)
  where
    by : (b : Bool) → (x.place == k) ≡ b → cond b (Some x) (stream_at ss k) ≡ Some s → (stream_at ss k ≡ Some s → s.place ≡ k) → s.place ≡ k
    by true e h rest = let same : x ≡ s = cc in ap (λ (y : Stream). y.place) (sym same) ∙ eqb-true x.place k e
    by false e h rest = rest h

pub stream_there : (ss : List Stream) (o : Option ℕ) (s : Stream) → option_and_then (stream_at ss) o ≡ Some s → stream_at ss s.place ≡ Some s
stream_there ss None s h = absurd (cc)
stream_there ss (Some k) s h = ap (stream_at ss) (found_place ss k s h) ∙ h

no_things : (u w later : Unix) (r : Process) → later ≡ with_process r w → ((k : ℕ) → object_at w.streams k ≡ object_at u.streams k) → ((k : ℕ) → has_device w.devices k ≡ has_device u.devices k) → w.entries ≡ u.entries → Things u.nodes u.entries (object_at u.streams) (has_device u.devices) later
no_things u w later r is streams devices entries =
    Nothing_new (λ k. ap (λ (x : Unix). object_at x.streams k) is ∙ streams k) (λ k. ap (λ (x : Unix). has_device x.devices k) is ∙ devices k) (ap (λ (x : Unix). x.entries) is ∙ entries)

same_things : (u w later : Unix) (r : Process) → later ≡ with_process r w → w.streams ≡ u.streams → w.devices ≡ u.devices → w.entries ≡ u.entries → Things u.nodes u.entries (object_at u.streams) (has_device u.devices) later
same_things u w later r is streams devices entries = no_things u w later r is (λ k. ap (λ (l : List Stream). object_at l k) streams) (λ k. ap (λ (l : List Device). has_device l k) devices) entries

-- a new stream of what is there
new_thing : (u w later : Unix) (r : Process) (object : Object) (m : Mode) (appends : Bool) → IsFit u.nodes u.entries object → is_master object ≡ false → later ≡ with_process r (with_new_stream object m appends w) → w.streams ≡ u.streams → w.devices ≡ u.devices → w.entries ≡ u.entries
    → Things u.nodes u.entries (object_at u.streams) (has_device u.devices) later
new_thing u w later r object m appends fit client is streams devices entries =
    New object fit
    (λ k.
    ap (λ (x : Unix). object_at x.streams k) is ∙ stream_more w.streams (record { place = w.entries; object = object; mode = m; appends = appends; offset = 0 }) k
    ∙ ap₂ (λ (l : List Stream) (n : ℕ). or_else (object_at l k) (cond (n == k) (Some object) None)) streams entries)
    (λ k.
    ap (λ (x : Unix). has_device x.devices k) is ∙ ap (λ (l : List Device). has_device l k) devices ∙ sym (beside (has_device u.devices k) (u.entries == k))
    ∙ ap (λ b. has_device u.devices k || (b && (u.entries == k))) (sym client))
    (ap (λ (x : Unix). x.entries) is ∙ entries)
  where
    beside : (a b : Bool) → (a || (false && b)) ≡ a
    beside true b = refl
    beside false b = refl

offset_things : (u later : Unix) (p r : Process) (fd offset : ℕ) (stream : Stream) → stream_of u p fd ≡ Some stream → later.streams ≡ with_stream (record stream { offset = offset }) u.streams → later.devices ≡ u.devices → later.entries ≡ u.entries
    → Things u.nodes u.entries (object_at u.streams) (has_device u.devices) later
offset_things u later p r fd offset stream found streams devices entries =
    Nothing_new
    (λ k.
    ap (λ (l : List Stream). object_at l k) streams
    ∙ stream_put u.streams stream (record stream { offset = offset }) k (stream_there u.streams (joined_option (slice_get p.descriptors fd)) stream found) refl)
    (λ k. ap (λ (l : List Device). has_device l k) devices) entries

changed_things : (u : Unix) (p : Process) (called : Call) (later : Unix) → Change u p called later → Things u.nodes u.entries (object_at u.streams) (has_device u.devices) later
changed_things u p called later (Itself r still e) = same_things u u later r e refl refl refl
changed_things u p called later (Freed fd r is leads e) = same_things u u later r e refl refl refl
changed_things u p called later (Doubled fd free stream r is found free_is leads e) = same_things u u later r e refl refl refl
changed_things u p called later (EndedSo how is e) = same_things u u later (ended p how) e refl refl refl
changed_things u p called later (Ticked count r is still e) = same_things u _ later r e refl refl refl
changed_things u p called later (Born r is few still child number parent descriptors e) = same_things u (with_process child u) later r e refl refl refl
changed_things u p called later (WaitedFor first r is among still e) = same_things u (with_process (record first { waited = true }) u) later r e refl refl refl
changed_things u p called later (KilledSo target r is among killed e) = same_things u (with_kill target u) later r e refl refl refl
changed_things u p called later (MadeDirectory path r is free still e) = same_things u _ later r e refl refl refl
changed_things u p called later (RemovedDirectory path r is free still e) = same_things u _ later r e refl refl refl
changed_things u p called later (Unlinked path r is free still e) = same_things u _ later r e refl refl refl
changed_things u p called later (Renamed old new r is free still e) = by (node_at u.nodes old) e
  where
    by : (node : Option Node) → later ≡ with_process r (moved_to old new node u) → Things u.nodes u.entries (object_at u.streams) (has_device u.devices) later
    by None e = same_things u u later r e refl refl refl
    by (Some node) e = same_things u (moved_to old new (Some node) u) later r e refl refl refl
changed_things u p called later (OpenedFile path fd name truncates appends m r is there free leads e) = by truncates e
  where
    by : (b : Bool) → later ≡ with_process r (with_new_stream (OfFile name) m appends (cut b name u)) → Things u.nodes u.entries (object_at u.streams) (has_device u.devices) later
    by true e = new_thing u (cut true name u) later r (OfFile name) m appends tt refl e refl refl refl
    by false e = new_thing u u later r (OfFile name) m appends tt refl e refl refl refl
changed_things u p called later (OpenedDevice path fd place appends m r is there free leads e) = new_thing u u later r (OfDevice place) m appends (record { path = path; there = there }) refl e refl refl refl
changed_things u p called later (CreatedFile path fd appends m r is way there free leads e) = new_thing u _ later r (OfFile (Made u.entries)) m appends tt refl e refl refl refl
changed_things u p called later (MadeDevice path fd r is fresh free leads e) =
    New (OfMaster u.entries) refl
    (λ k. ap (λ (x : Unix). object_at x.streams k) e ∙ stream_more u.streams (record { place = u.entries; object = OfMaster u.entries; mode = mode.Both; appends = false; offset = 0 }) k)
    (λ k. ap (λ (x : Unix). has_device x.devices k) e ∙ device_more u.devices (record { place = u.entries; asks = []; in_hand = None; answers = [] }) k)
    (ap (λ (x : Unix). x.entries) e)
changed_things u p called later (MovedTo fd offset stream r is found still e) =
    offset_things u later p r fd offset stream found (ap (λ (x : Unix). x.streams) e) (ap (λ (x : Unix). x.devices) e) (ap (λ (x : Unix). x.entries) e)
changed_things u p called later (Wrote fd offset stream name bytes r is found object still e) =
    offset_things u later p r fd offset stream found (ap (λ (x : Unix). x.streams) e) (ap (λ (x : Unix). x.devices) e) (ap (λ (x : Unix). x.entries) e)
changed_things u p called later (Handled place device new r is found same still e) =
    no_things u (record u { devices = with_device new u.devices }) later r e (λ k. refl) (device_put u.devices new) refl

pub enters_things : (c : Description) (u later : Unix) (e : Entry) → Enters c u e later → Things u.nodes u.entries (object_at u.streams) (has_device u.devices) later
enters_things c u later e (Answers q called reply at whole given idle is) = changed_things (with_process q u) q called later (change_of c (with_process q u) q called reply later is)
enters_things c u later e (Fails q called error at whole given idle may is) = same_things u (with_process q u) later (replied c q (Error error)) is refl refl refl
enters_things c u later e (Asks q called place device at ask given idle goes there is) =
    no_things u (record u { devices = with_device (record device { asks = device.asks ++ record { pid = q.pid; number = q.calls + 1; call = called } ∷ [] }) u.devices; processes = (with_process q u).processes }) later (record q { asking = Some device.place }) is (λ k. refl) (device_put u.devices _) refl
enters_things c u later e (Fetches q called place device reply at done given busy there due is) =
    no_things u (fetched (with_process q u) q device) later (replied c q reply) is (λ k. refl) (device_put u.devices _) refl
enters_things c u later e (Dies p there alive killed idle dead none given is) = same_things u u later (record p { descriptors = no_descriptors; ending = Some ending.Killed }) is refl refl refl

-- ---- names

-- what stands at a path of a tree whose names are all so
pub found_node : (P : Node → Type 0) (nodes : List Named) (path : List (List ℕ)) (node : Node) → AllByRecursion (λ (n : Named). P n.node) nodes → looked_up nodes path ≡ Some node → P node
found_node P [] path node h there = absurd (cc)
found_node P (n ∷ ns) path node h there = by (same_path n.path path) there (found_node P ns path node h.1)
  where
    by : (b : Bool) → cond b (Some n.node) (looked_up ns path) ≡ Some node → (looked_up ns path ≡ Some node → P node) → P node
    by true there rest = subst P (cc) h.0
    by false there rest = rest there

pub node_there : (P : Node → Type 0) (nodes : List Named) (path : List (List ℕ)) (node : Node) → P Directory → AllByRecursion (λ (n : Named). P n.node) nodes → node_at nodes path ≡ Some node → P node
node_there P nodes [] node root h there = subst P (cc) root
node_there P nodes (part ∷ path) node root h there = found_node P nodes (part ∷ path) node h there

pub each_named : (P : Named → Type 0) (n : Named) (nodes : List Named) → P n → AllByRecursion P nodes → AllByRecursion P (with_name n nodes)
each_named P n [] own h = (own, tt)
each_named P n (m ∷ ms) own h = by (path_before n.path m.path) (each_named P n ms own h.1)
  where
    by : (b : Bool) → AllByRecursion P (with_name n ms) → AllByRecursion P (cond b (n ∷ m ∷ ms) (m ∷ with_name n ms))
    by true rest = (own, h)
    by false rest = (h.0, rest)

-- what is to be known of a fact of each node, P before and Q behind an entry; `now` are the devices behind the entry
pub record Names (P Q : Node → Type 0) (now : List Device) (entries : ℕ) : Type 0 where
  pub directory : Q Directory
  pub file : Q (FileNode (Made entries))
  pub device : has_device now entries ≡ true → Q (DeviceNode entries)
  pub stays : (n : Node) → P n → Q n
  pub root : P Directory

stays_each : (P Q : Node → Type 0) (nodes : List Named) → ((n : Node) → P n → Q n) → AllByRecursion (λ (n : Named). P n.node) nodes → AllByRecursion (λ (n : Named). Q n.node) nodes
stays_each P Q [] s h = tt
stays_each P Q (n ∷ ns) s h = (s n.node h.0, stays_each P Q ns s h.1)

-- a device that an entry made is there
made_there : (u later : Unix) (path : List (List ℕ)) (r : Process) → later ≡ with_process r (with_new_stream (OfMaster u.entries) mode.Both false (with_new_device path u)) → has_device later.devices u.entries ≡ true
made_there u later path r e =
    let d : Device = record { place = u.entries; asks = []; in_hand = None; answers = [] } in
    ap (λ (x : Unix). has_device x.devices u.entries) e ∙ device_more u.devices d u.entries ∙ ap (λ b. has_device u.devices u.entries || b) (eq-eqb u.entries u.entries refl) ∙ or_true (has_device u.devices u.entries)
  where
    or_true : (b : Bool) → (b || true) ≡ true
    or_true true = refl
    or_true false = refl

-- the node that an entry makes
abbrev pub IsMade : List Device → ℕ → Node → Type 0
IsMade now entries Directory = Unit {0}
IsMade now entries (FileNode name) = name ≡ Made entries
IsMade now entries (DeviceNode place) = (place ≡ entries) × (has_device now entries ≡ true)

-- the same names, one more, one less, or one that has another path
pub data NameChange (nodes : List Named) (entries : ℕ) (later : Unix) : Type 0 where
  None_new : later.nodes ≡ nodes → NameChange nodes entries later
  More : (path : List (List ℕ)) (node : Node) → IsMade later.devices entries node → later.nodes ≡ with_name (record { path = path; node = node }) nodes → NameChange nodes entries later
  Less : (path : List (List ℕ)) → later.nodes ≡ without_name path nodes → NameChange nodes entries later
  Moved : (old new : List (List ℕ)) (node : Node) → node_at nodes old ≡ Some node → later.nodes ≡ with_name (record { path = new; node = node }) (without_name old nodes) → NameChange nodes entries later

changed_names : (u : Unix) (p : Process) (called : Call) (later : Unix) → Change u p called later → NameChange u.nodes u.entries later
changed_names u p called later (Itself r still e) = None_new (ap (λ (x : Unix). x.nodes) e)
changed_names u p called later (Freed fd r is leads e) = None_new (ap (λ (x : Unix). x.nodes) e)
changed_names u p called later (Doubled fd free stream r is found free_is leads e) = None_new (ap (λ (x : Unix). x.nodes) e)
changed_names u p called later (EndedSo how is e) = None_new (ap (λ (x : Unix). x.nodes) e)
changed_names u p called later (Ticked count r is still e) = None_new (ap (λ (x : Unix). x.nodes) e)
changed_names u p called later (Born r is few still child number parent descriptors e) = None_new (ap (λ (x : Unix). x.nodes) e)
changed_names u p called later (WaitedFor first r is among still e) = None_new (ap (λ (x : Unix). x.nodes) e)
changed_names u p called later (KilledSo target r is among killed e) = None_new (ap (λ (x : Unix). x.nodes) e)
changed_names u p called later (MadeDirectory path r is free still e) = More path Directory tt (ap (λ (x : Unix). x.nodes) e)
changed_names u p called later (RemovedDirectory path r is free still e) = Less path (ap (λ (x : Unix). x.nodes) e)
changed_names u p called later (Unlinked path r is free still e) = Less path (ap (λ (x : Unix). x.nodes) e)
changed_names u p called later (Renamed old new r is free still e) = by (node_at u.nodes old) refl e
  where
    by : (node : Option Node) → node_at u.nodes old ≡ node → later ≡ with_process r (moved_to old new node u) → NameChange u.nodes u.entries later
    by None there e = None_new (ap (λ (x : Unix). x.nodes) e)
    by (Some node) there e = Moved old new node there (ap (λ (x : Unix). x.nodes) e)
changed_names u p called later (OpenedFile path fd name truncates appends m r is there free leads e) = None_new (ap (λ (x : Unix). x.nodes) e ∙ by truncates)
  where
    by : (b : Bool) → (cut b name u).nodes ≡ u.nodes
    by true = refl
    by false = refl
changed_names u p called later (OpenedDevice path fd place appends m r is there free leads e) = None_new (ap (λ (x : Unix). x.nodes) e)
changed_names u p called later (CreatedFile path fd appends m r is way there free leads e) = More path (FileNode (Made u.entries)) refl (ap (λ (x : Unix). x.nodes) e)
changed_names u p called later (MadeDevice path fd r is fresh free leads e) = More path (DeviceNode u.entries) (refl, made_there u later path r e) (ap (λ (x : Unix). x.nodes) e)
changed_names u p called later (MovedTo fd offset stream r is found still e) = None_new (ap (λ (x : Unix). x.nodes) e)
changed_names u p called later (Wrote fd offset stream name bytes r is found object still e) = None_new (ap (λ (x : Unix). x.nodes) e)
changed_names u p called later (Handled place device new r is found same still e) = None_new (ap (λ (x : Unix). x.nodes) e)

-- an entry counts none before it has entered
things_entries : (nodes : List Named) (entries : ℕ) (objects : ℕ → Option Object) (devices : ℕ → Bool) (later : Unix) → Things nodes entries objects devices later → later.entries ≡ entries
things_entries nodes entries objects devices later (Nothing_new one two same) = same
things_entries nodes entries objects devices later (New object fit one two same) = same

pub record NamesSo (nodes : List Named) (entries : ℕ) (later : Unix) : Type 0 where
  pub names : NameChange nodes entries later
  pub same : later.entries ≡ entries

pub enters_names : (c : Description) (u later : Unix) (e : Entry) → Enters c u e later → NamesSo u.nodes u.entries later
enters_names c u later e enters = record { names = by enters; same = things_entries u.nodes u.entries (object_at u.streams) (has_device u.devices) later (enters_things c u later e enters) }
  where
    by : Enters c u e later → NameChange u.nodes u.entries later
    by (Answers q called reply at whole given idle is) = changed_names (with_process q u) q called later (change_of c (with_process q u) q called reply later is)
    by (Fails q called error at whole given idle may is) = None_new (ap (λ (x : Unix). x.nodes) is)
    by (Asks q called place device at ask given idle goes there is) = None_new (ap (λ (x : Unix). x.nodes) is)
    by (Fetches q called place device reply at done given busy there due is) = None_new (ap (λ (x : Unix). x.nodes) is)
    by (Dies p there alive killed idle dead none given is) = None_new (ap (λ (x : Unix). x.nodes) is)

abbrev AreSo : (Node → Type 0) → List Named → Type 0
AreSo P nodes = AllByRecursion (λ (n : Named). P n.node) nodes

made_so : (P Q : Node → Type 0) (now : List Device) (entries : ℕ) (node : Node) → Names P Q now entries → IsMade now entries node → Q node
made_so P Q now entries Directory s made = s.directory
made_so P Q now entries (FileNode name) s made = subst (λ k. Q (FileNode k)) (sym made) s.file
made_so P Q now entries (DeviceNode place) s made = subst (λ k. Q (DeviceNode k)) (sym made.0) (s.device made.1)

changed_nodes : (P Q : Node → Type 0) (nodes : List Named) (entries : ℕ) (later : Unix) → NameChange nodes entries later → Names P Q later.devices entries → AreSo P nodes → AreSo Q later.nodes
changed_nodes P Q nodes entries later (None_new is) s h = subst (AreSo Q) (sym is) (stays_each P Q nodes s.stays h)
changed_nodes P Q nodes entries later (More path node made is) s h =
    subst (AreSo Q) (sym is) (each_named (λ (n : Named). Q n.node) (record { path = path; node = node }) nodes (made_so P Q later.devices entries node s made) (stays_each P Q nodes s.stays h))
changed_nodes P Q nodes entries later (Less path is) s h = subst (AreSo Q) (sym is) (each_filter (λ (n : Named). Q n.node) _ nodes (stays_each P Q nodes s.stays h))
changed_nodes P Q nodes entries later (Moved old new node there is) s h =
    subst (AreSo Q) (sym is)
    (each_named (λ (n : Named). Q n.node) (record { path = new; node = node }) (without_name old nodes) (s.stays node (node_there P nodes old node s.root h there)) (each_filter (λ (n : Named). Q n.node) _ nodes (stays_each P Q nodes s.stays h)))

pub enters_nodes : (P Q : Node → Type 0) (c : Description) (u later : Unix) (e : Entry) → Enters c u e later → Names P Q later.devices u.entries → AllByRecursion (λ (n : Named). P n.node) u.nodes → AllByRecursion (λ (n : Named). Q n.node) later.nodes
enters_nodes P Q c u later e enters s h = changed_nodes P Q u.nodes u.entries later (enters_names c u later e enters).names s h
