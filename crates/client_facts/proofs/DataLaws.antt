-- Operations on a file's data, when they run.
use Rattle.std.proofs.Common.{arith, ◌≡◌, ℕ, ◌+◌, ◌≤◌, Bool, true, false, ◌||◌, not, cond, List, [], ◌∷◌, ◌++◌, length, Option, Some, None, refl, sym, ap, subst}
use Rattle.std.specs.List.{list_any}
use Rattle.sprite_ids.specs.declared.FileId.{FileId}
use Rattle.sprite_ids.specs.declared.BlockNo.{BlockNo}
use Rattle.sprite_ids.specs.declared.StreamNo.{StreamNo}
use Rattle.sprite_ids.specs.declared.TxNo.{TxNo}
use Rattle.sprite_ids.proofs.OnceLaws.{pushed_once}
use Rattle.process_machine.specs.declared.Reply.{Reply}
use Rattle.kernel_steps.specs.Rows.{is_row, is_under}
use Rattle.block_cache.specs.Held.{write_back_next}
use Rattle.stream_table.specs.declared.Place.{Place}
use Rattle.stream_table.specs.declared.Place.TheVariants.{Local, Shared}
use Rattle.stream_table.specs.declared.Stream.{Stream}
use Rattle.stream_table.specs.Entries.{unlocked}
use Rattle.client_file_tables.specs.declared.client_files.ClientFiles.{ClientFiles}
use Rattle.client_file_tables.specs.declared.extent.Extent.{Extent}
use Rattle.client_file_tables.specs.declared.pending.Pending.TheVariants as operations
use Rattle.client_file_tables.specs.declared.states.DataState.{DataState}
use Rattle.client_file_tables.specs.declared.states.DataState.TheVariants as states
use Rattle.client_file_tables.specs.declared.works.DataCall.{DataCall}
use Rattle.client_file_tables.specs.declared.works.DataKind.{DataKind}
use Rattle.client_file_tables.specs.declared.works.DataKind.TheVariants as kinds
use Rattle.client_file_tables.specs.Blocks.{is_cached, missing_in, reads}
use Rattle.client_file_tables.specs.Fillers.{begins_filling, drops_filler, is_filling, leaves_filling, wakes_first, wakes_filler}
use Rattle.client_file_tables.specs.Locks.{frees, gets_lock, hands_first, locks, takes_lock, unlocks, waits_for_lock}
use Rattle.client_file_tables.specs.Rows.{first_stream, is_pid, less_stream, same_pid, same_stream}
use Rattle.client_file_tables.specs.Calls.{data_call}
use Rattle.client_file_tables.specs.Says.{about_of, answers_here}
use Rattle.client_file_tables.specs.Streams.{stream_at}
use Rattle.client_file_tables.specs.WriteBacks.{current_write_back, dirties_all}
use Rattle.client_data.specs.declared.plan.Plan.{Plan}
use Rattle.client_data.specs.declared.plan.Plan.TheVariants as plans
use Rattle.client_data.specs.Plans.{plan_append, plan_at, plan_here, plan_of, plan_write}
use Rattle.client_data.specs.Cached.{does_cached, is_write, reads_cached, writes_bytes, writes_cached}
use Rattle.client_data.specs.Filling as filling
use Rattle.client_data.specs.Finishes.{ends_here, finishes, keeps_data}
use Rattle.client_data.specs.Looks.{does, looks, looks_by, uses_by}
use Rattle.client_data.specs.ServerOps.{asks_server, sends_op, waits_there}
use Rattle.client_facts.specs.FileFacts.{same_wait}
use Rattle.client_facts.proofs.CalmLaws.{Calm, asks_at, asks_by, is_shared, calm_dirties_all, calm_fills_zeros, calm_if, calm_join, calm_makes_room, calm_moves_offset, calm_reads, calm_same, calm_self, calm_sends_back, calm_streams, calm_takes_lock, calm_writes_by, below_unlocked}
use Rattle.client_facts.proofs.CostLaws.{Ends, Ran, ends_calm, ends_join, ends_more, ends_wakes, less_once, pids_same, ran_after, ran_ended, ran_if, ran_kept, times, times_first, times_less, times_pushed, waits_same, worth_calm}

-- Locks

waits_once : (b : Bool) (stream : StreamNo) (pid : ℕ) (s : ClientFiles) → list_any (is_row same_stream same_pid stream pid) s.lock_waits ≡ b → Calm s (cond b s (record s { lock_waits = s.lock_waits ++ (stream, pid) ∷ [] }))
waits_once true stream pid s e = calm_self s
waits_once false stream pid s e = record {
  ready = refl;
  pending = refl;
  fillers = refl;
  queues = λ q. pushed_once same_wait waits_same (stream, pid) s.lock_waits e q;
  asks = λ stream file h. h;
}

calm_waits_for_lock : (pid : ℕ) (stream : StreamNo) (s : ClientFiles) → Calm s (waits_for_lock pid stream s)
calm_waits_for_lock pid stream s = waits_once (list_any (is_row same_stream same_pid stream pid) s.lock_waits) stream pid s refl

pub calm_locks : (pid : ℕ) (stream : StreamNo) (s : ClientFiles) → Calm s (locks pid stream s)
calm_locks pid stream s =
    let taken = calm_takes_lock pid stream s in
    calm_if (gets_lock pid stream s) s _ _ taken (calm_join s (takes_lock pid stream s) _ taken (calm_waits_for_lock pid stream (takes_lock pid stream s)))

ends_freed : (pid : ℕ) (stream : StreamNo) (s : ClientFiles) → Ends pid 0 s (record (frees stream s) { lock_waits = less_stream stream s.lock_waits })
ends_freed pid stream s = record {
  few = omega arith;
  pending = refl;
  fewer = λ other apart. omega arith;
  queues = λ q. less_once same_wait (is_under same_stream stream) s.lock_waits q;
  turns = λ q. q;
  asks = (calm_streams s (record s.streams { entries = unlocked s.streams.entries stream }) (below_unlocked s.streams.entries stream)).asks;
}

ends_hands_first : (pid : ℕ) (o : Option ℕ) (stream : StreamNo) (s : ClientFiles) → Ends pid 1 s (hands_first o stream s)
ends_hands_first pid None stream s = ends_more pid 0 1 s s (omega arith) (ends_calm pid s s (calm_self s))
ends_hands_first pid (Some woken) stream s =
    let locked = takes_lock woken stream s in
    ends_join pid 0 1 s locked _ (ends_calm pid s locked (calm_takes_lock woken stream s)) (ends_wakes pid woken locked)

pub ends_unlocks : (pid : ℕ) (stream : StreamNo) (s : ClientFiles) → Ends pid 1 s (unlocks stream s)
ends_unlocks pid stream s =
    let freed : ClientFiles = record (frees stream s) { lock_waits = less_stream stream s.lock_waits } in
    ends_join pid 0 1 s freed _ (ends_freed pid stream s) (ends_hands_first pid (first_stream stream s.lock_waits) stream freed)

-- Turns to fill blocks

ends_drops_filler : (pid : ℕ) (s : ClientFiles) → Ends pid 0 s (drops_filler pid s)
ends_drops_filler pid s = record {
  few = omega arith;
  pending = refl;
  fewer = λ other apart. times_less other pid s.fillers;
  queues = λ q. q;
  turns = λ q. less_once is_pid (is_pid pid) s.fillers q;
  asks = λ stream file h. h;
}

ends_wakes_first : (pid : ℕ) (xs : List ℕ) (s : ClientFiles) → Ends pid 1 s (wakes_first xs s)
ends_wakes_first pid [] s = ends_more pid 0 1 s s (omega arith) (ends_calm pid s s (calm_self s))
ends_wakes_first pid (first ∷ rest) s = ends_wakes pid first s

fillers_woken : (xs : List ℕ) (s : ClientFiles) → (wakes_first xs s).fillers ≡ s.fillers
fillers_woken [] s = refl
fillers_woken (first ∷ rest) s = refl

-- who leaves wakes at most as many as it stood there more often before
record Left (pid : ℕ) (s t : ClientFiles) : Type 0 where
  many : ℕ
  most : many ≤ 1
  ends : Ends pid many s t
  left : many + times pid t.fillers ≤ times pid s.fillers

left_by : (b : Bool) (pid : ℕ) (s : ClientFiles) → is_filling pid s ≡ b → Left pid s (cond b (wakes_filler (drops_filler pid s)) (drops_filler pid s))
left_by true pid s e =
    let dropped = drops_filler pid s in
    record {
      many = 1;
      most = omega arith;
      ends = ends_join pid 0 1 s dropped (wakes_filler dropped) (ends_drops_filler pid s) (ends_wakes_first pid dropped.fillers dropped);
      left = (let same = ap (times pid) (fillers_woken dropped.fillers dropped) in let first = times_first pid s.fillers e in omega arith);
    }
left_by false pid s e = record {
  many = 0;
  most = omega arith;
  ends = ends_drops_filler pid s;
  left = (let fewer = times_less pid pid s.fillers in omega arith);
}

left_filling : (pid : ℕ) (s : ClientFiles) → Left pid s (leaves_filling pid s)
left_filling pid s = left_by (is_filling pid s) pid s refl

ends_leaves_filling : (pid : ℕ) (s : ClientFiles) → Ends pid 1 s (leaves_filling pid s)
ends_leaves_filling pid s = let l = left_filling pid s in ends_more pid l.many 1 s (leaves_filling pid s) l.most l.ends

begun_by : (b : Bool) (pid : ℕ) (s : ClientFiles) → list_any (is_pid pid) s.fillers ≡ b → Ends pid 0 s (cond b s (record s { fillers = s.fillers ++ pid ∷ [] }))
begun_by true pid s e = ends_calm pid s s (calm_self s)
begun_by false pid s e = record {
  few = omega arith;
  pending = refl;
  fewer = λ other apart. (let same = times_pushed other pid s.fillers apart in omega arith);
  queues = λ q. q;
  turns = λ q. pushed_once is_pid pids_same pid s.fillers e q;
  asks = λ stream file h. h;
}

ends_begins_filling : (pid : ℕ) (s : ClientFiles) → Ends pid 0 s (begins_filling pid s)
ends_begins_filling pid s = begun_by (list_any (is_pid pid) s.fillers) pid s refl

-- Ends

pub ends_finishes : (pid : ℕ) (stream : StreamNo) (s : ClientFiles) → Ends pid 2 s (finishes pid stream s)
ends_finishes pid stream s = ends_join pid 1 1 s (leaves_filling pid s) _ (ends_leaves_filling pid s) (ends_unlocks pid stream (leaves_filling pid s))

-- behind what is calm, the call ends here
ends_calm_here : (pid : ℕ) (call : DataCall) (reply : Reply) (s t : ClientFiles) → Calm s t → Ends pid 2 s (ends_here pid call reply t)
ends_calm_here pid call reply s t h =
    let told : ClientFiles = answers_here (about_of pid call.number) (data_call call) reply t in
    ends_join pid 0 2 s told _ (ends_calm pid s told (calm_join s t told h (calm_same t told refl refl refl refl refl refl))) (ends_finishes pid call.stream told)

ends_cached_by : (b : Bool) (pid : ℕ) (call : DataCall) (extent : Extent) (s : ClientFiles) → Ends pid 2 s (cond b (writes_cached pid call extent s) (reads_cached pid call extent s))
ends_cached_by true pid call extent s =
    let put = writes_bytes call extent.from s in
    let dirty = dirties_all call.file extent put in
    ends_calm_here pid call _ s _ (calm_join s put _ (calm_writes_by call.kind call.file extent.from s) (calm_join put dirty _ (calm_dirties_all call.file extent put) (calm_moves_offset call.stream _ dirty)))
ends_cached_by false pid call extent s =
    let used = reads call.file extent s in
    ends_calm_here pid call _ s _ (calm_join s used _ (calm_reads call.file extent s) (calm_moves_offset call.stream _ used))

ends_does_cached : (pid : ℕ) (call : DataCall) (extent : Extent) (s : ClientFiles) → Ends pid 2 s (does_cached pid call extent s)
ends_does_cached pid call extent s = ends_cached_by (is_write call.kind) pid call extent s

-- Waits

ran_two : (pid : ℕ) (call : DataCall) (s t : ClientFiles) → Ends pid 2 s t → Ran pid (operations.Data call) s t
ran_two pid call s t h = ran_ended pid 2 (operations.Data call) s t h (omega arith)

-- behind what is calm, it waits
ran_waits : (pid : ℕ) (call : DataCall) (state : DataState) (s u : ClientFiles) → Calm s u → Ran pid (operations.Data call) s (keeps_data pid call state u)
ran_waits pid call state s u h =
    ran_kept pid 0 (operations.Data call) (operations.Data (record call { state = state })) s u (ends_calm pid s u h) (let less = worth_calm pid (operations.Data call) s u h in omega arith) (λ h. h)

none_asked : (b : Bool) (many : ℕ) → (b ≡ true → ⊥) → cond {A = ℕ} b many 0 ≡ 0
none_asked true many h = absurd (h refl)
none_asked false many h = refl

-- and also where it began to fill, if it doesn't ask the server
ran_fills : (pid : ℕ) (call : DataCall) (state : DataState) (s u : ClientFiles) → asks_at call.stream call.file s ≡ false → Ends pid 0 s u → Ran pid (operations.Data call) s (keeps_data pid call state u)
ran_fills pid call state s u e h =
    let quiet = none_asked (asks_at call.stream call.file u) (times pid u.fillers) (λ k. absurd (let old = h.asks call.stream call.file k in cc)) in
    ran_kept pid 0 (operations.Data call) (operations.Data (record call { state = state })) s u h (omega arith) (λ h. h)

-- Plans

-- one asks the server alone that may, and one uses the cache alone that may not
abbrev FitsPlan : Plan → Bool → Type 0
FitsPlan (plans.Ask offset) asks = asks ≡ true
FitsPlan (plans.Use extent) asks = asks ≡ false
FitsPlan (plans.Seek to) asks = Unit {0}
FitsPlan plans.Refuse asks = Unit {0}
FitsPlan (plans.Tell size) asks = Unit {0}

fits_size : (cached : Bool) (size offset : ℕ) → FitsPlan (cond cached (plans.Tell size) (plans.Ask (Some offset))) (not cached)
fits_size true size offset = tt
fits_size false size offset = refl

fits_read : (cached : Bool) (extent : Extent) (offset : ℕ) → FitsPlan (cond cached (plans.Use extent) (plans.Ask (Some offset))) (not cached)
fits_read true extent offset = refl
fits_read false extent offset = refl

fits_write : (past cached : Bool) (extent : Extent) (offset : ℕ) → FitsPlan (cond past plans.Refuse (cond cached (plans.Use extent) (plans.Ask (Some offset)))) (not cached)
fits_write true cached extent offset = tt
fits_write false cached extent offset = fits_read cached extent offset

fits_append : (cached past : Bool) (extent : Extent) (offset : ℕ) → FitsPlan (cond cached (cond past plans.Refuse (plans.Use extent)) (plans.Ask (Some offset))) (not cached)
fits_append true true extent offset = tt
fits_append true false extent offset = refl
fits_append false past extent offset = refl

fits_put : (append : Bool) (file : FileId) (offset many : ℕ) (s : ClientFiles) → FitsPlan (cond append (plan_append file offset many s) (plan_write file offset many s)) (not (is_cached file s))
fits_put true file offset many s = fits_append (is_cached file s) _ _ offset
fits_put false file offset many s = fits_write _ (is_cached file s) _ offset

fits_here : (kind : DataKind) (file : FileId) (offset : ℕ) (append : Bool) (s : ClientFiles) → FitsPlan (plan_here kind file offset append s) (not (is_cached file s))
fits_here (kinds.Seek to) file offset append s = tt
fits_here kinds.Size file offset append s = fits_size (is_cached file s) _ offset
fits_here (kinds.Read many) file offset append s = fits_read (is_cached file s) _ offset
fits_here (kinds.Write bytes) file offset append s = fits_put append file offset (length bytes) s

fits_at : (place : Place) (call : DataCall) (append : Bool) (s : ClientFiles) → FitsPlan (plan_at place call append s) (is_shared place || not (is_cached call.file s))
fits_at (Local offset) call append s = fits_here call.kind call.file offset append s
fits_at Shared call append s = refl

-- What was planned

ran_asks_by : (pid : ℕ) (call : DataCall) (offset : Option ℕ) (append : Bool) (s t : ClientFiles) → asks_at call.stream call.file s ≡ true → Left pid s t → Ran pid (operations.Data call) s (waits_there pid call offset append t)
ran_asks_by pid call offset append s t e l =
    let sent : ClientFiles = sends_op pid call offset append t in
    let all : cond {A = ℕ} (asks_at call.stream call.file s) (times pid s.fillers) 0 ≡ times pid s.fillers = ap (λ (b : Bool). cond {A = ℕ} b (times pid s.fillers) 0) e in
    let part = some_asked (asks_at call.stream call.file sent) (times pid sent.fillers) in
    let left = l.left in
    ran_kept pid l.many (operations.Data call) (operations.Data (record call { state = states.AtServer t.out.next })) s sent
    (ends_join0 pid l.many s t sent l.ends (calm_same t sent refl refl refl refl refl refl))
    (omega arith) (λ h. h)
  where
    some_asked : (b : Bool) (many : ℕ) → cond {A = ℕ} b many 0 ≤ many
    some_asked true many = omega arith
    some_asked false many = omega arith

    ends_join0 : (pid many : ℕ) (s t u : ClientFiles) → Ends pid many s t → Calm t u → Ends pid many s u
    ends_join0 pid many s t u h k = ends_more pid (many + 0) many s u (omega arith) (ends_join pid many 0 s t u h (ends_calm pid t u k))

ran_asks_server : (pid : ℕ) (call : DataCall) (offset : Option ℕ) (append : Bool) (s : ClientFiles) → asks_at call.stream call.file s ≡ true → Ran pid (operations.Data call) s (asks_server pid call offset append s)
ran_asks_server pid call offset append s e = ran_asks_by pid call offset append s (leaves_filling pid s) e (left_filling pid s)

-- what fills goes on from there, which is none that asks
module _ (pid : ℕ) (call : DataCall) (s : ClientFiles) (quiet : asks_at call.stream call.file s ≡ false) where
  goes_calm : (t u : ClientFiles) → Ends pid 0 s t → Calm t u → Ends pid 0 s u
  goes_calm t u h k = ends_join pid 0 0 s t u h (ends_calm pid t u k)

  ran_waits_by : (o : Option TxNo) (file : FileId) (block : BlockNo) (number : ℕ) (t : ClientFiles) → Ends pid 0 s t → Ran pid (operations.Data call) s (filling.waits_by o pid call file block number t)
  ran_waits_by (Some tx) file block number t h = ran_fills pid call (states.Room tx) s t quiet h
  ran_waits_by None file block number t h = ran_fills pid call (states.Room t.out.next) s _ quiet (goes_calm t _ h (calm_sends_back file block number _ t))

  ran_waits_oldest : (o : Option (FileId × BlockNo × ℕ)) (t : ClientFiles) → Ends pid 0 s t → Ran pid (operations.Data call) s (filling.waits_oldest o pid call t)
  ran_waits_oldest (Some oldest) t h = ran_waits_by (current_write_back oldest.0 oldest.1 t) oldest.0 oldest.1 oldest.2 t h
  ran_waits_oldest None t h = ran_fills pid call states.Turn s t quiet h

  ran_fetches : (block : BlockNo) (t : ClientFiles) → Ends pid 0 s t → Ran pid (operations.Data call) s (filling.fetches pid call block t)
  ran_fetches block t h =
      let sent : ClientFiles = filling.sends_fetch pid call block t in
      ran_fills pid call (states.Fetching t.out.next block) s sent quiet (goes_calm t sent h (calm_same t sent refl refl refl refl refl refl))

  ran_needs_first : (o : Option BlockNo) (extent : Extent) (t : ClientFiles) → Ends pid 0 s t → Ran pid (operations.Data call) s (filling.needs_first o pid call extent t)
  ran_needs_first (Some block) extent t h =
      let roomy : ClientFiles = filling.makes_room call.file extent t in
      let so = goes_calm t roomy h (calm_makes_room call.file extent t) in
      ran_if (filling.gets_room call.file extent t) pid (operations.Data call) s _ _ (ran_fetches block roomy so) (ran_waits_oldest (write_back_next roomy.cache None) roomy so)
  ran_needs_first None extent t h = ran_two pid call s _ (ends_join pid 0 2 s t _ h (ends_does_cached pid call extent t))

  ran_fills_own : (extent : Extent) (t : ClientFiles) → Ends pid 0 s t → Ran pid (operations.Data call) s (filling.fills_own pid call extent t)
  ran_fills_own extent t h =
      let filled : ClientFiles = filling.fills_zeros call.file extent t in
      ran_needs_first (missing_in call.file extent filled) extent filled (goes_calm t filled h (calm_fills_zeros call.file extent t))

  ran_fills_first : (extent : Extent) → Ran pid (operations.Data call) s (filling.fills_first pid call extent s)
  ran_fills_first extent =
      let begun : ClientFiles = begins_filling pid s in
      let so = ends_begins_filling pid s in
      ran_if (is_filling pid begun) pid (operations.Data call) s _ _ (ran_fills_own extent begun so) (ran_fills pid call states.Turn s begun quiet so)

  ran_uses_by : (o : Option BlockNo) (extent : Extent) → Ran pid (operations.Data call) s (uses_by o pid call extent s)
  ran_uses_by (Some block) extent = ran_fills_first extent
  ran_uses_by None extent = ran_two pid call s _ (ends_does_cached pid call extent s)

ran_does : (plan : Plan) (pid : ℕ) (call : DataCall) (append : Bool) (s : ClientFiles) → FitsPlan plan (asks_at call.stream call.file s) → Ran pid (operations.Data call) s (does plan pid call append s)
ran_does (plans.Seek to) pid call append s h = ran_two pid call s _ (ends_calm_here pid call _ s _ (calm_moves_offset call.stream to s))
ran_does plans.Refuse pid call append s h = ran_two pid call s _ (ends_calm_here pid call _ s s (calm_self s))
ran_does (plans.Ask offset) pid call append s h = ran_asks_server pid call offset append s h
ran_does (plans.Tell size) pid call append s h = ran_two pid call s _ (ends_calm_here pid call _ s s (calm_self s))
ran_does (plans.Use extent) pid call append s h = ran_uses_by pid call s h (missing_in call.file extent s) extent

ran_looks_by : (o : Option Stream) (pid : ℕ) (call : DataCall) (s : ClientFiles) → stream_at call.stream s ≡ o → Ran pid (operations.Data call) s (looks_by o pid call s)
ran_looks_by (Some stream) pid call s e =
    ran_does (plan_of call stream s) pid call stream.append s
    (subst (λ (o : Option Stream). FitsPlan (plan_of call stream s) (asks_by o (is_cached call.file s))) (sym e) (fits_at stream.place call stream.append s))
ran_looks_by None pid call s e = ran_waits pid call states.WaitLock s s (calm_self s)

-- an operation on a file's data looks at everything anew
pub ran_looks : (pid : ℕ) (call : DataCall) (s : ClientFiles) → Ran pid (operations.Data call) s (looks pid call s)
ran_looks pid call s =
    let locked : ClientFiles = locks pid call.stream s in
    let so = calm_locks pid call.stream s in
    ran_if (gets_lock pid call.stream s) pid (operations.Data call) s _ _
    (ran_after pid (operations.Data call) s locked _ so (ran_looks_by (stream_at call.stream locked) pid call locked refl))
    (ran_waits pid call states.WaitLock s locked so)
