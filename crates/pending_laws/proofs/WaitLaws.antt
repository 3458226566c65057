-- Where no operation waits for a remote call, none is pending.
use Rattle.std.proofs.Common.{◌≡◌, ℕ, Bool, true, false, ◌||◌, not, cond, List, [], ◌∷◌, Option, Some, None, is_some, option_map, refl, sym, ap, subst, ◌∙◌}
use Rattle.std.specs.List.{AllByRecursion, find, list_all, list_any}
use Rattle.std.proofs.lemmas.Bool.{and_parts}
use Rattle.sprite_ids.specs.declared.StreamNo.{StreamNo}
use Rattle.sprite_ids.proofs.ListLaws.{some_is}
use Rattle.kernel_steps.specs.Rows.{is_row, is_under}
use Rattle.stream_table.specs.Entries.{Entry, has_lock, holder_in, holder_of, is_of}
use Rattle.client_file_tables.specs.declared.client_files.ClientFiles.{ClientFiles}
use Rattle.client_file_tables.specs.declared.pending.Pending.{Pending}
use Rattle.client_file_tables.specs.declared.pending.Pending.TheVariants as operations
use Rattle.client_file_tables.specs.declared.states.NameState.{NameState}
use Rattle.client_file_tables.specs.declared.states.NameState.TheVariants as names
use Rattle.client_file_tables.specs.declared.states.DataState.{DataState}
use Rattle.client_file_tables.specs.declared.states.DataState.TheVariants as states
use Rattle.client_file_tables.specs.declared.states.SyncState.{SyncState}
use Rattle.client_file_tables.specs.declared.states.SyncState.TheVariants as syncs
use Rattle.client_file_tables.specs.declared.states.CloseState.{CloseState}
use Rattle.client_file_tables.specs.declared.states.CloseState.TheVariants as closes
use Rattle.client_file_tables.specs.declared.states.MoveState.{MoveState}
use Rattle.client_file_tables.specs.declared.states.MoveState.TheVariants as moves
use Rattle.client_file_tables.specs.Rows.{first_of, is_pid, same_pid, same_stream}
use Rattle.client_facts.specs.FileFacts.{are_in_order, close_asks, close_holds, data_asks, data_holds, data_waits_back, data_wants, does, fills_now, has_a_turn, has_lock_of, is_filler, is_filling_now, is_held_by, is_held_rightly, is_kept_out, is_named, is_queued, is_waiting_for_turn, move_asks, move_holds, move_wants, name_asks, needs_blocks, own_call, stands_in, sync_asks, sync_waits_back, waited_write_back, wanted_lock}
use Rattle.lock_facts.specs.WaitFacts.{close_waits, wants_some}
use Rattle.pending_laws.specs.Waits.{AwaitsNoCall, NothingIsPending, WaitFacts, never_looks, row_never_looks, sync_waits}

-- ---- lists

-- what is so of all is so of one that is found
found_so : {X : Type 0} (P : X → Type 0) (p : X → Bool) (xs : List X) (x : X) → find p xs ≡ Some x → AllByRecursion P xs → P x
found_so P p [] x e h = absurd (cc)
found_so P p (first ∷ xs) x e h = by (λ later. found_so P p xs x later h.1) (p first) e
  where
    by : (find p xs ≡ Some x → P x) → (b : Bool) → cond b (Some first) (find p xs) ≡ Some x → P x
    by rest true same = subst P (some_is first x same) h.0
    by rest false later = rest later

list_each : {X : Type 0} (q : X → Bool) (xs : List X) → list_all q xs ≡ true → AllByRecursion (λ x. q x ≡ true) xs
list_each q [] e = tt
list_each q (x ∷ xs) e = let parts = and_parts (q x) (list_all q xs) e in (parts.0, list_each q xs parts.1)

found_passes : {X : Type 0} (q p : X → Bool) (xs : List X) (x : X) → find p xs ≡ Some x → list_all q xs ≡ true → q x ≡ true
found_passes q p xs x e h = found_so (λ x. q x ≡ true) p xs x e (list_each q xs h)

-- ---- what waits for a remote call

name_awaits : (state : NameState) → name_asks state ≡ None → ⊥
name_awaits (names.Broadcasting tx prefix) e = absurd (cc)
name_awaits (names.Echoing tx server) e = absurd (cc)
name_awaits (names.Asking tx) e = absurd (cc)

-- an operation that waits for room or for a block
filling_awaits : (operation : Pending) → is_filling_now operation ≡ true → own_call operation ≡ None → waited_write_back operation ≡ None → ⊥
filling_awaits (operations.Data call) fills own back = by call.state fills own back
  where
    by : (state : DataState) → fills_now state ≡ true → data_asks state ≡ None → data_waits_back state ≡ None → ⊥
    by states.WaitLock fills own back = absurd (cc)
    by states.Turn fills own back = absurd (cc)
    by (states.Room tx) fills own back = absurd (cc)
    by (states.Fetching tx block) fills own back = absurd (cc)
    by (states.AtServer tx) fills own back = absurd (cc)
filling_awaits (operations.Name call) fills own back = absurd (cc)
filling_awaits (operations.Sync call) fills own back = absurd (cc)
filling_awaits (operations.Close work) fills own back = absurd (cc)
filling_awaits (operations.Move work) fills own back = absurd (cc)

module _ (s : ClientFiles) (facts : WaitFacts s) (all : AllByRecursion AwaitsNoCall s.pending) where
  -- ---- turns

  -- nobody has one
  none_fills : (pid : ℕ) → list_any (is_pid pid) s.fillers ≡ true → ⊥
  none_fills pid e = by s.fillers e facts.in_order
    where
      filling : (first : ℕ) (o : Option (ℕ × Pending)) → find (is_under same_pid first) s.pending ≡ o → does is_filling_now (option_map (λ (row : ℕ × Pending). row.1) o) ≡ true → ⊥
      filling first None is e = absurd (cc)
      filling first (Some row) is e = let free : AwaitsNoCall row = found_so AwaitsNoCall (is_under same_pid first) s.pending row is all in filling_awaits row.1 e free.own free.back

      by : (fillers : List ℕ) → list_any (is_pid pid) fillers ≡ true → are_in_order fillers s ≡ true → ⊥
      by [] e order = absurd (cc)
      by (first ∷ rest) e order = filling first (find (is_under same_pid first) s.pending) refl (and_parts (does is_filling_now (first_of first s.pending)) (list_all (is_waiting_for_turn s) rest) order).0

  turn_awaits : (row : ℕ × Pending) → is_filler row.1 ≡ true → has_a_turn s row ≡ true → ⊥
  turn_awaits row fills turn = none_fills row.0 (by (is_filler row.1) fills turn)
    where
      by : (b : Bool) → b ≡ true → (not b || list_any (is_pid row.0) s.fillers) ≡ true → list_any (is_pid row.0) s.fillers ≡ true
      by true is e = e
      by false is e = absurd (cc)

  -- ---- locks

  -- an operation that has a lock waits for a remote call, or for a turn
  holder_awaits : (stream : StreamNo) (row : ℕ × Pending) → has_lock_of stream row.1 ≡ true → AwaitsNoCall row → has_a_turn s row ≡ true → ⊥
  holder_awaits stream (pid, operations.Name call) has free turn = absurd (cc)
  holder_awaits stream (pid, operations.Sync call) has free turn = absurd (cc)
  holder_awaits stream (pid, operations.Data call) has free turn = turn_awaits (pid, operations.Data call) (by call.state has free.own free.back) turn
    where
      by : (state : DataState) → is_named stream (data_holds state call.stream) ≡ true → data_asks state ≡ None → data_waits_back state ≡ None → needs_blocks state ≡ true
      by states.WaitLock has own back = absurd (cc)
      by states.Turn has own back = refl
      by (states.Room tx) has own back = refl
      by (states.Fetching tx block) has own back = refl
      by (states.AtServer tx) has own back = absurd (cc)
  holder_awaits stream (pid, operations.Close work) has free turn = by work.state has free.own
    where
      by : (state : CloseState) → is_named stream (close_holds state) ≡ true → close_asks state ≡ None → ⊥
      by closes.WaitLock has own = absurd (cc)
      by (closes.Closing tx other) has own = absurd (cc)
  holder_awaits stream (pid, operations.Move work) has free turn = by work.state has free.own
    where
      by : (state : MoveState) → is_named stream (move_holds state work.stream) ≡ true → move_asks state ≡ None → ⊥
      by moves.WaitLock has own = absurd (cc)
      by (moves.MovingOut tx kept place) has own = absurd (cc)

  held_awaits : (holder : ℕ) (stream : StreamNo) (o : Option (ℕ × Pending)) → find (is_under same_pid holder) s.pending ≡ o → does (has_lock_of stream) (option_map (λ (row : ℕ × Pending). row.1) o) ≡ true → ⊥
  held_awaits holder stream None is e = absurd (cc)
  held_awaits holder stream (Some row) is e =
      holder_awaits stream row e (found_so AwaitsNoCall (is_under same_pid holder) s.pending row is all) (found_passes (has_a_turn s) (is_under same_pid holder) s.pending row is facts.turns)

  entry_awaits : (entry : Entry) (o : Option ℕ) → is_held_by o entry.number s ≡ true → o ≡ None
  entry_awaits entry None e = refl
  entry_awaits entry (Some holder) e = absurd (held_awaits holder entry.number (find (is_under same_pid holder) s.pending) refl e)

  -- so no lock has a holder
  no_holder : (stream : StreamNo) (o : Option Entry) → find (is_of stream) s.streams.entries ≡ o → holder_in o ≡ None
  no_holder stream None is = refl
  no_holder stream (Some entry) is = entry_awaits entry entry.holder (found_passes (is_held_rightly s) (is_of stream) s.streams.entries entry is facts.none_else)

  -- and none has a queue
  none_queued : (test : StreamNo × ℕ → Bool) → list_any test s.lock_waits ≡ true → ⊥
  none_queued test e = by s.lock_waits e facts.kept_out
    where
      free_lock : (pid : ℕ) (o : Option ℕ) → o ≡ None → not (has_lock pid o) ≡ true → ⊥
      free_lock pid None is e = absurd (cc)
      free_lock pid (Some holder) is e = absurd (cc)

      by : (waits : List (StreamNo × ℕ)) → list_any test waits ≡ true → list_all (is_kept_out s) waits ≡ true → ⊥
      by [] e out = absurd (cc)
      by (first ∷ rest) e out =
          free_lock first.1 (holder_of s.streams.entries first.0) (no_holder first.0 (find (is_of first.0) s.streams.entries) refl) (and_parts (is_kept_out s first) (list_all (is_kept_out s) rest) out).0

  -- ---- operations

  wants_awaits : (pid : ℕ) (o : Option StreamNo) → is_some o ≡ true → stands_in pid o s ≡ true → ⊥
  wants_awaits pid None some e = absurd (cc)
  wants_awaits pid (Some stream) some e = none_queued (is_row same_stream same_pid stream pid) e

  row_awaits : (row : ℕ × Pending) → AwaitsNoCall row → never_looks row.1 ≡ true → wants_some s row ≡ true → is_queued s row ≡ true → has_a_turn s row ≡ true → ⊥
  row_awaits (pid, operations.Name call) free looks wants queued turn = name_awaits call.state free.own
  row_awaits (pid, operations.Data call) free looks wants queued turn = by call.state free.own free.back queued (λ e. turn_awaits (pid, operations.Data call) e turn)
    where
      by : (state : DataState) → data_asks state ≡ None → data_waits_back state ≡ None → stands_in pid (data_wants state call.stream) s ≡ true → (needs_blocks state ≡ true → ⊥) → ⊥
      by states.WaitLock own back queued fills = wants_awaits pid (Some call.stream) refl queued
      by states.Turn own back queued fills = fills refl
      by (states.Room tx) own back queued fills = fills refl
      by (states.Fetching tx block) own back queued fills = fills refl
      by (states.AtServer tx) own back queued fills = absurd (cc)
  row_awaits (pid, operations.Sync call) free looks wants queued turn = by call.state free.own free.back looks
    where
      by : (state : SyncState) → sync_asks state ≡ None → sync_waits_back state ≡ None → sync_waits state ≡ true → ⊥
      by syncs.Looking own back waits = absurd (cc)
      by (syncs.WaitOther tx) own back waits = absurd (cc)
      by (syncs.WaitOwn tx) own back waits = absurd (cc)
  row_awaits (pid, operations.Close work) free looks wants queued turn = by work.state free.own wants
    where
      by : (state : CloseState) → close_asks state ≡ None → (not (close_waits state) || is_some (wanted_lock pid (operations.Close work) s)) ≡ true → ⊥
      by closes.WaitLock own wants = wants_awaits pid (wanted_lock pid (operations.Close work) s) wants queued
      by (closes.Closing tx stream) own wants = absurd (cc)
  row_awaits (pid, operations.Move work) free looks wants queued turn = by work.state free.own queued
    where
      by : (state : MoveState) → move_asks state ≡ None → stands_in pid (move_wants state work.stream) s ≡ true → ⊥
      by moves.WaitLock own queued = wants_awaits pid (Some work.stream) refl queued
      by (moves.MovingOut tx kept place) own queued = absurd (cc)

  nothing_in : (rows : List (ℕ × Pending)) → s.pending ≡ rows → rows ≡ []
  nothing_in [] is = refl
  nothing_in (row ∷ rest) is =
      absurd
      (row_awaits row (subst (AllByRecursion AwaitsNoCall) is all).0 (front row_never_looks facts.syncs) (front (wants_some s) facts.wants) (front (is_queued s) facts.queued) (front (has_a_turn s) facts.turns))
    where
      front : (q : ℕ × Pending → Bool) → list_all q s.pending ≡ true → q row ≡ true
      front q e = (and_parts (q row) (list_all q rest) (ap (λ (xs : List (ℕ × Pending)). list_all q xs) (sym is) ∙ e)).0

pub nothing_pending : NothingIsPending
nothing_pending s facts all = nothing_in s facts all s.pending refl
