-- What keeps the facts of queues: that descriptors change, somebody is woken or looks, and a lock is waited for, freed or handed over.
use Rattle.std.proofs.Common.{◌≡◌, ◌⊎◌, inl, inr, ℕ, ◌==◌, Bool, true, false, cond, List, [], ◌∷◌, ◌++◌, Option, Some, None, option_map, refl, sym, ap, subst, slice_get}
use Rattle.std.proofs.lemmas.Bool.{and_parts, eq-eqb, eqb-true}
use Rattle.std.specs.List.{AllByRecursion, find, list_any}
use Rattle.sprite_ids.specs.declared.StreamNo.{StreamNo}
use Rattle.sprite_ids.proofs.ListLaws.{each_push, each_weaken}
use Rattle.kernel_steps.specs.Rows.{is_row, is_under}
use Rattle.stream_table.specs.Entries.{Entry, unlocked}
use Rattle.stream_table.specs.Owners.{Owner, descriptor}
use Rattle.stream_table.specs.Streams.{IsTable, Table}
use Rattle.client_file_tables.specs.declared.pending.Pending.{Pending}
use Rattle.client_file_tables.specs.declared.pending.Pending.TheVariants as operations
use Rattle.client_file_tables.specs.declared.states.CloseState.{CloseState}
use Rattle.client_file_tables.specs.declared.states.CloseState.TheVariants as closes
use Rattle.client_file_tables.specs.Rows.{first_stream, is_pid, less_of, less_stream, same_pid, same_stream}
use Rattle.file_walks.specs.Fits.{LeadsThere}
use Rattle.file_facts.proofs.Books.{is_woken}
use Rattle.file_facts.proofs.BookLaws.{any_before, any_behind, each_less, each_other, or_cases, or_left, or_right, woken_by}
use Rattle.lock_facts.proofs.BoardLaws.{handed}
use Rattle.lock_facts.proofs.Desks.{Desk, IsQueued, Off, Settled, Sound, close_wants_in, named_by, stands_by, wanted_in}
use Rattle.lock_facts.proofs.OwnerLaws.{KeepsDescriptors, KeepsOthers}
use Rattle.lock_facts.proofs.TableFacts.{Lawful, locked_so, unlocked_so}

-- Where the descriptors of a process stay

abbrev KeepsOf : ℕ → List Owner → List Owner → Type 0
KeepsOf pid owners more = (fd : ℕ) (stream : StreamNo) → descriptor owners pid fd ≡ Some stream → descriptor more pid fd ≡ Some stream

leads_more : (owners more : List Owner) (pid : ℕ) (operation : Pending) → KeepsOf pid owners more → LeadsThere owners pid operation → LeadsThere more pid operation
leads_more owners more pid (operations.Name call) keeps leads = tt
leads_more owners more pid (operations.Data call) keeps leads = keeps call.fd call.stream leads
leads_more owners more pid (operations.Sync call) keeps leads = tt
leads_more owners more pid (operations.Close work) keeps leads = tt
leads_more owners more pid (operations.Move work) keeps leads = tt

named_more : (o : Option ℕ) (owners more : List Owner) (pid : ℕ) (stream : StreamNo) → KeepsOf pid owners more → named_by owners pid o ≡ Some stream → named_by more pid o ≡ Some stream
named_more (Some fd) owners more pid stream keeps e = keeps fd stream e
named_more None owners more pid stream keeps e = absurd (cc)

close_more : (state : CloseState) (fds : List ℕ) (owners more : List Owner) (pid : ℕ) (stream : StreamNo) → KeepsOf pid owners more → close_wants_in owners pid state fds ≡ Some stream → close_wants_in more pid state fds ≡ Some stream
close_more closes.WaitLock fds owners more pid stream keeps e = named_more (slice_get fds 0) owners more pid stream keeps e
close_more (closes.Closing tx number) fds owners more pid stream keeps e = absurd (cc)

wanted_more : (owners more : List Owner) (pid : ℕ) (operation : Pending) (stream : StreamNo) → KeepsOf pid owners more → wanted_in owners pid operation ≡ Some stream → wanted_in more pid operation ≡ Some stream
wanted_more owners more pid (operations.Name call) stream keeps e = e
wanted_more owners more pid (operations.Data call) stream keeps e = e
wanted_more owners more pid (operations.Sync call) stream keeps e = e
wanted_more owners more pid (operations.Close work) stream keeps e = close_more work.state work.fds owners more pid stream keeps e
wanted_more owners more pid (operations.Move work) stream keeps e = e

abbrev pub KeepsWaits : List (StreamNo × ℕ) → List (StreamNo × ℕ) → Type 0
KeepsWaits waits rest = (pid : ℕ) (stream : StreamNo) → stands_by pid stream waits ≡ true → stands_by pid stream rest ≡ true

abbrev pub KeepsWoken : List ℕ → List ℕ → Type 0
KeepsWoken ready awake = (pid : ℕ) → is_woken pid ready ≡ true → is_woken pid awake ≡ true

waits_more : (owners more : List Owner) (waits rest : List (StreamNo × ℕ)) (ready awake : List ℕ) (row : ℕ × Pending) → KeepsOf row.0 owners more → KeepsWaits waits rest → (is_woken row.0 ready ≡ true → is_woken row.0 awake ≡ true)
    → (is_woken row.0 ready ≡ true) ⊎ IsQueued owners waits row → (is_woken row.0 awake ≡ true) ⊎ IsQueued more rest row
waits_more owners more waits rest ready awake row keeps queues wakes (inl woken) = inl (wakes woken)
waits_more owners more waits rest ready awake row keeps queues wakes (inr q) = inr (record { stream = q.stream; wanted = wanted_more owners more row.0 row.1 q.stream keeps q.wanted; stands = queues row.0 q.stream q.stands })

settled_of : (owners more : List Owner) (waits rest : List (StreamNo × ℕ)) (ready awake : List ℕ) (row : ℕ × Pending) → KeepsOf row.0 owners more → KeepsWaits waits rest → (is_woken row.0 ready ≡ true → is_woken row.0 awake ≡ true) → Settled owners waits ready row → Settled more rest awake row
settled_of owners more waits rest ready awake row keeps queues wakes settled = record {
  leads = leads_more owners more row.0 row.1 keeps settled.leads;
  waits_on = λ e. waits_more owners more waits rest ready awake row keeps queues wakes (settled.waits_on e);
}

-- the descriptors of all stay, queues grow, and more are woken
pub grows : (d : Desk) (table : Table) (rest : List (StreamNo × ℕ)) (awake : List ℕ) → KeepsDescriptors d.table.owners table.owners → KeepsWaits d.waits rest → KeepsWoken d.ready awake → Lawful table → Sound d → Sound (record d { table = table; waits = rest; ready = awake })
grows d table rest awake keeps queues wakes lawful s = record {
  rows = each_weaken (Settled d.table.owners d.waits d.ready) (Settled table.owners rest awake) d.rows (λ row. settled_of d.table.owners table.owners d.waits rest d.ready awake row (keeps row.0) queues (wakes row.0)) s.rows;
  lawful = lawful;
}

-- those of others do
pub others_stay : (d : Desk) (pid : ℕ) (table : Table) → KeepsOthers pid d.table.owners table.owners → Lawful table → Off pid d → Off pid (record d { table = table })
others_stay d pid table keeps lawful off = record {
  sound = record {
    rows = each_other (Settled d.table.owners d.waits d.ready) (Settled table.owners d.waits d.ready) pid d.rows
        (λ row apart. settled_of d.table.owners table.owners d.waits d.waits d.ready d.ready row (λ fd stream leads. keeps row.0 fd stream apart leads) (λ other stream e. e) (λ e. e)) off.none off.sound.rows;
    lawful = lawful;
  };
  none = off.none;
}

-- Who is woken, and who looks

pub wakes : (d : Desk) (pids : List ℕ) → Sound d → Sound (record d { ready = d.ready ++ pids })
wakes d pids s = grows d d.table d.waits (d.ready ++ pids) (λ pid fd stream e. e) (λ pid stream e. e) (λ pid e. any_before (is_pid pid) d.ready pids e) s.lawful s

pub looks : (d : Desk) (pid : ℕ) (pids : List ℕ) (rows : List (ℕ × Pending)) → d.ready ≡ pid ∷ pids → list_any (is_under same_pid pid) rows ≡ false → AllByRecursion (Settled d.table.owners d.waits d.ready) rows → Sound d → Off pid (record d { rows = rows; ready = pids })
looks d pid pids rows e none all s = record {
  sound = record {
    rows = each_other (Settled d.table.owners d.waits d.ready) (Settled d.table.owners d.waits pids) pid rows
        (λ row apart. settled_of d.table.owners d.table.owners d.waits d.waits d.ready pids row (λ fd stream leads. leads) (λ other stream h. h) (λ woken. woken_by row.0 pid pids apart (subst (λ (ready : List ℕ). is_woken row.0 ready ≡ true) e woken))) none all;
    lawful = s.lawful;
  };
  none = none;
}

-- Operations

pub kept : (d : Desk) (pid : ℕ) (operation : Pending) → Settled d.table.owners d.waits d.ready (pid, operation) → Sound d → Sound (record d { rows = d.rows ++ (pid, operation) ∷ [] })
kept d pid operation settled s = record { rows = each_push (Settled d.table.owners d.waits d.ready) d.rows (pid, operation) s.rows settled; lawful = s.lawful }

pub taken_out : (d : Desk) (pid : ℕ) → Sound d → Sound (record d { rows = less_of pid d.rows })
taken_out d pid s = record { rows = each_less (Settled d.table.owners d.waits d.ready) (is_under same_pid pid) d.rows s.rows; lawful = s.lawful }

last_woken : (pid : ℕ) (ready : List ℕ) → is_woken pid (ready ++ pid ∷ []) ≡ true
last_woken pid ready = any_behind (is_pid pid) ready (pid ∷ []) (or_left (pid == pid) false (eq-eqb pid pid refl))

-- one that begins is woken
pub started : (d : Desk) (pid : ℕ) (operation : Pending) → LeadsThere d.table.owners pid operation → Sound d → Sound (record d { rows = d.rows ++ (pid, operation) ∷ []; ready = d.ready ++ pid ∷ [] })
started d pid operation leads s = kept (record d { ready = d.ready ++ pid ∷ [] }) pid operation (record { leads = leads; waits_on = λ e. inl (last_woken pid d.ready) }) (wakes d (pid ∷ []) s)

-- Locks

-- the wait for a lock
pub queues : (d : Desk) (pid : ℕ) (stream : StreamNo) → Off pid d → Off pid (record d { waits = d.waits ++ (stream, pid) ∷ [] })
queues d pid stream off = record {
  sound = grows d d.table (d.waits ++ (stream, pid) ∷ []) d.ready (λ other fd number e. e) (λ other number e. any_before (is_row same_stream same_pid number other) d.waits ((stream, pid) ∷ []) e) (λ other e. e) off.sound.lawful off.sound;
  none = off.none;
}

-- who waited for a lock waits on, or is the first
freed_by : (stream number : StreamNo) (pid : ℕ) (row : StreamNo × ℕ) (rest : List (StreamNo × ℕ)) (o : Option (StreamNo × ℕ)) (b : Bool) → (stands_by pid number rest ≡ true → (stands_by pid number (less_stream stream rest) ≡ true) ⊎ (option_map (λ (r : StreamNo × ℕ). r.1) o ≡ Some pid))
    → (is_row same_stream same_pid number pid row ≡ true) ⊎ (stands_by pid number rest ≡ true) → (stands_by pid number (cond b rest (row ∷ less_stream stream rest)) ≡ true) ⊎ (option_map (λ (r : StreamNo × ℕ). r.1) (cond b (Some row) o) ≡ Some pid)
freed_by stream number pid row rest o true later (inl here) = inr (ap Some (eqb-true row.1 pid (and_parts (same_stream row.0 number) (row.1 == pid) here).1))
freed_by stream number pid row rest o true later (inr there) = inl there
freed_by stream number pid row rest o false later (inl here) = inl (or_left (is_row same_stream same_pid number pid row) (stands_by pid number (less_stream stream rest)) here)
freed_by stream number pid row rest o false later (inr there) = more (later there)
  where
    more : (stands_by pid number (less_stream stream rest) ≡ true) ⊎ (option_map (λ (r : StreamNo × ℕ). r.1) o ≡ Some pid) → (stands_by pid number (row ∷ less_stream stream rest) ≡ true) ⊎ (option_map (λ (r : StreamNo × ℕ). r.1) o ≡ Some pid)
    more (inl still) = inl (or_right (is_row same_stream same_pid number pid row) (stands_by pid number (less_stream stream rest)) still)
    more (inr first) = inr first

queue_freed : (stream number : StreamNo) (pid : ℕ) (waits : List (StreamNo × ℕ)) → stands_by pid number waits ≡ true → (stands_by pid number (less_stream stream waits) ≡ true) ⊎ (first_stream stream waits ≡ Some pid)
queue_freed stream number pid [] e = absurd (cc)
queue_freed stream number pid (row ∷ rest) e =
    freed_by stream number pid row rest (find (is_under same_stream stream) rest) (same_stream row.0 stream) (queue_freed stream number pid rest) (or_cases (is_row same_stream same_pid number pid row) (stands_by pid number rest) e)

abbrev pub awake : Option ℕ → List ℕ → List ℕ
awake (Some pid) ready = ready ++ pid ∷ []
awake None ready = ready

awake_more : (o : Option ℕ) (ready : List ℕ) (pid : ℕ) → is_woken pid ready ≡ true → is_woken pid (awake o ready) ≡ true
awake_more (Some first) ready pid e = any_before (is_pid pid) ready (first ∷ []) e
awake_more None ready pid e = e

waits_freed : (owners : List Owner) (stream : StreamNo) (waits : List (StreamNo × ℕ)) (ready : List ℕ) (row : ℕ × Pending) → (is_woken row.0 ready ≡ true) ⊎ IsQueued owners waits row → (is_woken row.0 (awake (first_stream stream waits) ready) ≡ true) ⊎ IsQueued owners (less_stream stream waits) row
waits_freed owners stream waits ready row (inl woken) = inl (awake_more (first_stream stream waits) ready row.0 woken)
waits_freed owners stream waits ready row (inr q) = by_case (queue_freed stream q.stream row.0 waits q.stands)
  where
    by_case : (stands_by row.0 q.stream (less_stream stream waits) ≡ true) ⊎ (first_stream stream waits ≡ Some row.0) → (is_woken row.0 (awake (first_stream stream waits) ready) ≡ true) ⊎ IsQueued owners (less_stream stream waits) row
    by_case (inl still) = inr (record { stream = q.stream; wanted = q.wanted; stands = still })
    by_case (inr first) = inl (subst (λ (o : Option ℕ). is_woken row.0 (awake o ready) ≡ true) (sym first) (last_woken row.0 ready))

handed_so : (o : Option ℕ) (owners : List Owner) (es : List Entry) (stream : StreamNo) → IsTable owners es → IsTable owners (handed o stream es)
handed_so (Some pid) owners es stream is = locked_so owners es stream pid is
handed_so None owners es stream is = is

-- a lock is freed, or handed over
pub frees : (d : Desk) (stream : StreamNo) → Sound d → Sound (record d { table = record d.table { entries = handed (first_stream stream d.waits) stream (unlocked d.table.entries stream) }; waits = less_stream stream d.waits; ready = awake (first_stream stream d.waits) d.ready })
frees d stream s = record {
  rows = each_weaken (Settled d.table.owners d.waits d.ready) (Settled d.table.owners (less_stream stream d.waits) (awake (first_stream stream d.waits) d.ready)) d.rows
      (λ row settled. record { leads = settled.leads; waits_on = λ e. waits_freed d.table.owners stream d.waits d.ready row (settled.waits_on e) }) s.rows;
  lawful = handed_so (first_stream stream d.waits) d.table.owners (unlocked d.table.entries stream) stream (unlocked_so d.table.owners d.table.entries stream s.lawful);
}
