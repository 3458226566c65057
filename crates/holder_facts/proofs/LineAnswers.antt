-- Calls of the files' side at their issue, and answers to its remote calls, keep that who stands in a queue waits for that lock.
use Rattle.std.proofs.Common.{arith, ◌≡◌, ℕ, suc, ◌==◌, Bool, true, false, cond, List, [], ◌∷◌, ◌++◌, Option, Some, None, option_map, refl, sym, ap, ◌∙◌, subst}
use Rattle.std.proofs.lemmas.Bool.{eqb-true}
use Rattle.std.specs.List.{find, list_any}
use Rattle.sprite_ids.specs.declared.Grant.{Grant}
use Rattle.sprite_ids.specs.declared.StreamNo.{StreamNo}
use Rattle.sprite_ids.specs.declared.TxNo.{TxNo}
use Rattle.sprite_ids.specs.Lists.{EachOnce}
use Rattle.sprite_ids.proofs.ListLaws.{some_is}
use Rattle.sprite_ids.proofs.OnceLaws.{or_false}
use Rattle.packet_bodies.specs.declared.ReplyBody.{ReplyBody}
use Rattle.packet_bodies.specs.declared.ReplyBody.TheVariants as bodies
use Rattle.block_cache.specs.Blocks.{dirty_at}
use Rattle.stream_table.specs.declared.Place.TheVariants.{Shared}
use Rattle.stream_table.specs.Entries.{is_placed}
use Rattle.stream_table.specs.Owners.{Owner}
use Rattle.stream_table.specs.Streams.{Table, added, dupped}
use Rattle.kernel_steps.specs.Rows.{is_under}
use Rattle.client_file_tables.specs.declared.client_files.ClientFiles.{ClientFiles}
use Rattle.client_file_tables.specs.declared.moves.CloseWork.{CloseWork}
use Rattle.client_file_tables.specs.declared.moves.MoveWork.{MoveWork}
use Rattle.client_file_tables.specs.declared.pending.Pending.{Pending}
use Rattle.client_file_tables.specs.declared.pending.Pending.TheVariants as operations
use Rattle.client_file_tables.specs.declared.states.CloseState.{CloseState}
use Rattle.client_file_tables.specs.declared.states.CloseState.TheVariants as closes
use Rattle.client_file_tables.specs.declared.states.DataState.{DataState}
use Rattle.client_file_tables.specs.declared.states.DataState.TheVariants as states
use Rattle.client_file_tables.specs.declared.states.MoveState.{MoveState}
use Rattle.client_file_tables.specs.declared.states.MoveState.TheVariants as moves
use Rattle.client_file_tables.specs.declared.works.DataCall.{DataCall}
use Rattle.client_file_tables.specs.declared.works.WriteBackOut.{WriteBackOut}
use Rattle.client_file_tables.specs.Locks as locking
use Rattle.client_file_tables.specs.Rows.{first_call, first_of, less_call, less_of, same_call, same_pid}
use Rattle.client_file_tables.specs.Steps as steps
use Rattle.client_file_tables.specs.Steps.{waits_for, woken}
use Rattle.client_data.specs.Replies as replied
use Rattle.client_data.specs.SyncAnswers as synced
use Rattle.client_data.specs.WriteBacks as written
use Rattle.client_names.specs.Answers as name_answers
use Rattle.client_streams.specs.Closing as closing
use Rattle.client_streams.specs.Moving as moving
use Rattle.client_files.specs.Answered as answering
use Rattle.client_facts.specs.FileFacts.{OneOperationEach, close_holds, data_holds, data_wants, move_holds, move_wants, same_process}
use Rattle.client_facts.proofs.CostLaws.{none_left, times}
use Rattle.file_walks.proofs.CallWalks as call_walks
use Rattle.file_walks.proofs.CallWalks.{RunsCall}
use Rattle.file_walks.proofs.CloseWalks as close_walks
use Rattle.file_walks.proofs.DataWalks as data_walks
use Rattle.file_walks.proofs.Muted as muted
use Rattle.file_facts.proofs.BookLaws.{found_each}
use Rattle.lock_facts.proofs.Boards as locked_by
use Rattle.lock_facts.proofs.Boards.{Fine, board_of}
use Rattle.lock_facts.proofs.BoardLaws as boards
use Rattle.lock_facts.proofs.Desks as queued
use Rattle.lock_facts.proofs.Desks.{Settled, close_wants_in, desk_of, wanted_in}
use Rattle.lock_facts.proofs.DeskLaws as desks
use Rattle.lock_facts.proofs.OwnerLaws.{KeepsDescriptors, keeps_added, keeps_dupped}
use Rattle.lock_facts.proofs.Ranks as ranks
use Rattle.lock_facts.proofs.RankRuns as rank_runs
use Rattle.lock_facts.proofs.RunFacts as lock_runs
use Rattle.holder_facts.proofs.Lines as lines
use Rattle.holder_facts.proofs.Lines.{Lined, closes_or_moves}
use Rattle.holder_facts.proofs.LineRuns as runs
use Rattle.holder_facts.proofs.LineRuns.{Closes, ClosesLocked, Fills, Lines, Locks, Looks, close_runs, data_runs, on_if}

-- Streams that come

pub with_table : (s : ClientFiles) (items : Table) → KeepsDescriptors s.streams.owners items.owners → Lines s → Lines (record s { streams = items })
with_table s items keeps p = lines.owners_lined s.pending s.streams.owners items.owners s.lock_waits s.ready (λ pid operation found. keeps pid) p

-- Calls at their issue, and answers to name calls: the process has no operation, and isn't woken
abbrev Begins : ℕ → ClientFiles → Type 0
Begins pid s = (Lines s) × ((list_any (is_under same_pid pid) s.pending ≡ false) × (times pid s.ready ≡ 0))

begins_if : (pid : ℕ) (b : Bool) (s t : ClientFiles) → Begins pid s → Begins pid t → Begins pid (cond b s t)
begins_if pid true s t p q = p
begins_if pid false s t p q = q

pub call_runs : (pid : ℕ) → RunsCall pid (Begins pid) Lines
call_runs pid = record {
  quiet = record { caches = λ s cache p. p; delays = λ s rows p. p; tells = λ s event p. p; answers = λ s tx body p. p; learns = λ s domains p. p; cwds = λ s rows p. p; counts = λ s p. p };
  adds = λ s number stream p. begins_if pid (is_placed stream) (record s { streams = added s.streams pid number stream }) s (with_table s (added s.streams pid number stream) (keeps_added s.streams pid number stream) p.0, p.1) p;
  dups = λ s fd p. (with_table s (dupped s.streams pid fd) (keeps_dupped s.streams pid fd) p.0, p.1);
  begins = λ s operation begins leads p. lines.started_lined s.pending s.streams.owners s.lock_waits s.ready pid operation p.1.0 (λ moves. p.1.1) p.0;
  echoes = λ s work server p. lines.pushed_lined s.pending s.streams.owners s.lock_waits s.ready pid _ p.1.0 (λ moves. p.1.1) p.0;
  broadcasts = λ s work prefix p. lines.pushed_lined s.pending s.streams.owners s.lock_waits s.ready pid _ p.1.0 (λ moves. p.1.1) p.0;
  asks = λ s work server p. lines.pushed_lined s.pending s.streams.owners s.lock_waits s.ready pid _ p.1.0 (λ moves. p.1.1) p.0;
  ends = λ s reply p. p.0;
  lost = λ s p. p.0;
}

-- An answer to an operation's own call, where nobody is woken: its row is taken off, and the operation out

module _ (s : ClientFiles) (tx : TxNo) (pid : ℕ) (quiet : s.ready ≡ []) (once : OneOperationEach s) (b : locked_by.Holds s) (d : queued.Holds s) (r : rank_runs.Holds s) (p : Lines s) where
  abbrev pub left : ClientFiles
  left = record s { txs = less_call tx s.txs; pending = less_of pid s.pending }

  none : list_any (is_under same_pid pid) (less_of pid s.pending) ≡ false
  none = none_left pid s.pending once

  sleeps : times pid s.ready ≡ 0
  sleeps = ap (times pid) quiet

  -- an operation is put back
  back_again : (operation : Pending) → first_of pid s.pending ≡ Some operation → Lines (steps.keeps pid operation left)
  back_again operation e = lines.back_lined s.pending s.streams.owners s.lock_waits s.ready pid operation none e p

  pub out_so : (operation : Pending) → first_of pid s.pending ≡ Some operation → wanted_in s.streams.owners pid operation ≡ None → Lines left
  out_so operation found idle = lines.idle_out s.pending s.streams.owners s.lock_waits s.ready pid operation none found idle p

  none_out : first_of pid s.pending ≡ None → Lines left
  none_out found = lines.still_lined (less_of pid s.pending) s.streams.owners s.lock_waits s.ready pid (λ stream stands. absurd (let line = (p.waiting stream pid stands).found in let both = sym line ∙ found in cc)) (lines.taken_out s.pending s.streams.owners s.lock_waits s.ready pid none p)

  fine_of : (operation : Pending) → first_of pid s.pending ≡ Some operation → Fine s.streams.entries s.fillers (pid, operation)
  fine_of operation o = found_each (Fine s.streams.entries s.fillers) pid s.pending operation b.rows o

  board_off : locked_by.HoldsOff pid left
  board_off = record { sound = boards.taken_out (board_of s) pid b; none = none }

  desk_at : (call : DataCall) → first_of pid s.pending ≡ Some (operations.Data call) → queued.HoldsAt pid call left
  desk_at call o = record { off = record { sound = desks.taken_out (desk_of s) pid d; none = none }; leads = (found_each (Settled s.streams.owners s.lock_waits s.ready) pid s.pending (operations.Data call) d.rows o).leads }

  pub looks_at : (call : DataCall) → first_of pid s.pending ≡ Some (operations.Data call) → Looks pid call left
  looks_at call o = (
    (board_off, (desk_at call o, (ranks.rank_out pid s.pending s.fillers r, rank_runs.looks_so s left pid call o refl refl (fine_of (operations.Data call) o) r))),
    (lines.taken_out s.pending s.streams.owners s.lock_waits s.ready pid none p, runs.looks_own s.pending s.streams.owners s.lock_waits s.ready pid call o p),
  )

  -- one that is done at the server has its lock
  pub locks_at : (t : TxNo) (call : DataCall) → call.state ≡ states.AtServer t → first_of pid s.pending ≡ Some (operations.Data call) → Locks pid call left
  locks_at t call e o = (
    (record { off = board_off; lock = (fine_of (operations.Data call) o).lock call.stream (ap (λ (state : DataState). data_holds state call.stream) e) }, (desk_at call o, ranks.rank_out pid s.pending s.fillers r)),
    out_so (operations.Data call) o (ap (λ (state : DataState). data_wants state call.stream) e),
  )

  -- and so has one that is closed there
  pub closes_at : (t : TxNo) (stream : StreamNo) (work : CloseWork) → work.state ≡ closes.Closing t stream → first_of pid s.pending ≡ Some (operations.Close work) → ClosesLocked pid stream left
  closes_at t stream work e o = (record { off = board_off; lock = (fine_of (operations.Close work) o).lock stream (ap close_holds e) }, (out_so (operations.Close work) o (ap (λ (state : CloseState). close_wants_in s.streams.owners pid state work.fds) e), sleeps))

  data_heard : (state : DataState) (call : DataCall) (body : ReplyBody) → call.state ≡ state → first_of pid s.pending ≡ Some (operations.Data call) → Lines (replied.answered_in state pid call body left)
  data_heard (states.Fetching t block) call body e o =
      data_walks.fetched pid call (Looks pid call) (Locks pid call) (Locks pid call) (Fills pid call) Lines (data_runs pid call) block body left (looks_at call o)
  data_heard (states.AtServer t) call body e o =
      data_walks.served pid call (Looks pid call) (Locks pid call) (Locks pid call) (Fills pid call) Lines (data_runs pid call) body left (looks_at call o) (locks_at t call e o) (λ never. back_again (operations.Data call) o)
  data_heard states.WaitLock call body e o = back_again (operations.Data call) o
  data_heard states.Turn call body e o = back_again (operations.Data call) o
  data_heard (states.Room other) call body e o = back_again (operations.Data call) o

  close_heard : (state : CloseState) (work : CloseWork) → work.state ≡ state → first_of pid s.pending ≡ Some (operations.Close work) → Lines (closing.close_answers_by (closing.closed_at_server state) pid work left)
  close_heard closes.WaitLock work e o = back_again (operations.Close work) o
  close_heard (closes.Closing t stream) work e o =
      let held : ClosesLocked pid stream left = closes_at t stream work e o in
      close_walks.closes_on pid work.of (Closes pid) (ClosesLocked pid) Lines (close_runs pid work.of) work (locking.unlocks stream left) refl (lock_runs.unlocks left pid stream held.0, runs.frees_so left pid stream held)

  move_moved : (state : MoveState) (work : MoveWork) (grant : Option Grant) (many : ℕ) → work.state ≡ state → first_of pid s.pending ≡ Some (operations.Move work) → Lines (moving.move_answers_by (moving.moved_out state) pid work grant many left)
  move_moved moves.WaitLock work grant many e o = back_again (operations.Move work) o
  move_moved (moves.MovingOut t kept place) work grant many e o = runs.unlocks (moving.shares kept work.stream left) pid work.stream (held kept) (shared kept)
    where
      mine : locked_by.HoldsLocked pid work.stream left
      mine = record { off = board_off; lock = (fine_of (operations.Move work) o).lock work.stream (ap (λ (state : MoveState). move_holds state work.stream) e) }

      held : (c : Bool) → locked_by.HoldsLocked pid work.stream (moving.shares c work.stream left)
      held true = lock_runs.moves_place left pid work.stream work.stream Shared mine
      held false = mine

      idle : Lines left
      idle = out_so (operations.Move work) o (ap (λ (state : MoveState). move_wants state work.stream) e)

      shared : (c : Bool) → Lines (moving.shares c work.stream left)
      shared true = runs.moves_place left work.stream Shared idle
      shared false = idle

  move_heard : (body : ReplyBody) (work : MoveWork) → first_of pid s.pending ≡ Some (operations.Move work) → Lines (answering.answers_move pid work body left)
  move_heard (bodies.Moved grant many) work o = move_moved work.state work grant many refl o
  move_heard body work o = back_again (operations.Move work) o

  heard_by : (o : Option Pending) (source : ℕ) (body : ReplyBody) → first_of pid s.pending ≡ o → Lines (answering.answered_by o pid source body left)
  heard_by None source body o = none_out o
  heard_by (Some (operations.Name call)) source body o = call_walks.answers_name Begins Lines call_runs call.state pid call.work source body left (out_so (operations.Name call) o refl, (none, sleeps))
  heard_by (Some (operations.Data call)) source body o = data_heard call.state call body refl o
  heard_by (Some (operations.Sync call)) source body o = back_again (operations.Sync call) o
  heard_by (Some (operations.Close work)) source body o = close_heard work.state work refl o
  heard_by (Some (operations.Move work)) source body o = move_heard body work o

  heard_for : (source : ℕ) (body : ReplyBody) → Lines (answering.answered_for tx pid source body (record s { txs = less_call tx s.txs }))
  heard_for source body = on_if (name_answers.takes_end tx (first_of pid s.pending)) (answering.answered_by (first_of pid s.pending) pid source body left) (record s { txs = less_call tx s.txs }) (heard_by (first_of pid s.pending) source body refl) p

heard_first : (o : Option ℕ) (s : ClientFiles) (tx : TxNo) (source : ℕ) (body : ReplyBody) → s.ready ≡ [] → OneOperationEach s → locked_by.Holds s → queued.Holds s → rank_runs.Holds s → Lines s → Lines (answering.answered_first o tx source body (record s { txs = less_call tx s.txs }))
heard_first None s tx source body quiet once b d r p = p
heard_first (Some pid) s tx source body quiet once b d r p = heard_for s tx pid quiet once b d r p source body

-- A remote call is given up

module _ (s : ClientFiles) (pid : ℕ) (once : OneOperationEach s) (p : Lines s) where
  abbrev out : ClientFiles
  out = record s { pending = less_of pid s.pending }

  put_back : (operation : Pending) → first_of pid s.pending ≡ Some operation → Lines (steps.keeps pid operation out)
  put_back operation o = lines.back_lined s.pending s.streams.owners s.lock_waits s.ready pid operation (none_left pid s.pending once) o p

  gone : (operation : Pending) → first_of pid s.pending ≡ Some operation → wanted_in s.streams.owners pid operation ≡ None → Lines out
  gone operation found idle = lines.idle_out s.pending s.streams.owners s.lock_waits s.ready pid operation (none_left pid s.pending once) found idle p

  gone_none : first_of pid s.pending ≡ None → Lines out
  gone_none found =
      lines.still_lined (less_of pid s.pending) s.streams.owners s.lock_waits s.ready pid (λ stream stands. absurd (let line = (p.waiting stream pid stands).found in let both = sym line ∙ found in cc)) (lines.taken_out s.pending s.streams.owners s.lock_waits s.ready pid (none_left pid s.pending once) p)

  ended_by : (o : Option Pending) → first_of pid s.pending ≡ o → Lines (name_answers.gives_up_by pid o out)
  ended_by (Some (operations.Name call)) o = gone (operations.Name call) o refl
  ended_by (Some (operations.Data call)) o = put_back (operations.Data call) o
  ended_by (Some (operations.Sync call)) o = put_back (operations.Sync call) o
  ended_by (Some (operations.Close work)) o = put_back (operations.Close work) o
  ended_by (Some (operations.Move work)) o = put_back (operations.Move work) o
  ended_by None o = gone_none o

  -- or a sync's own write-back was answered
  goes_on_by : (operation : Pending) (body : ReplyBody) → first_of pid s.pending ≡ Some operation → Lines (synced.go_on_by pid operation body out)
  goes_on_by (operations.Sync call) body o =
      lines.started_lined (less_of pid s.pending) s.streams.owners s.lock_waits s.ready pid (operations.Sync (synced.after_answer call body)) (none_left pid s.pending once) (λ moves. absurd (cc)) (gone (operations.Sync call) o refl)
  goes_on_by (operations.Name call) body o = put_back (operations.Name call) o
  goes_on_by (operations.Data call) body o = put_back (operations.Data call) o
  goes_on_by (operations.Close work) body o = put_back (operations.Close work) o
  goes_on_by (operations.Move work) body o = put_back (operations.Move work) o

  goes_on_first : (o : Option Pending) (body : ReplyBody) → first_of pid s.pending ≡ o → Lines (synced.go_on_first pid o body out)
  goes_on_first None body o = gone_none o
  goes_on_first (Some operation) body o = goes_on_by operation body o

ended_first : (o : Option ℕ) (s : ClientFiles) (tx : TxNo) → OneOperationEach s → Lines s → Lines (name_answers.gives_up_first o tx s)
ended_first None s tx once p = p
ended_first (Some pid) s tx once p = on_if (name_answers.takes_end tx (first_of pid s.pending)) (name_answers.gives_up_by pid (first_of pid s.pending) (record s { pending = less_of pid s.pending })) s (ended_by s pid once p (first_of pid s.pending) refl) p

pub given_up : (s : ClientFiles) (tx : TxNo) → OneOperationEach s → Lines s → Lines (name_answers.gives_up tx s)
given_up s tx once p = ended_first (first_call tx s.txs) (record s { txs = less_call tx s.txs }) tx once p

-- A write-back is answered: who waits for it neither closes nor moves a stream

calm_waits : (tx : TxNo) (operation : Pending) → closes_or_moves operation ≡ true → waits_for tx operation ≡ false
calm_waits tx (operations.Name call) e = absurd (cc)
calm_waits tx (operations.Data call) e = absurd (cc)
calm_waits tx (operations.Sync call) e = absurd (cc)
calm_waits tx (operations.Close work) e = refl
calm_waits tx (operations.Move work) e = refl

skip_by : (b : Bool) (n : ℕ) → b ≡ false → n ≡ 0 → cond {A = ℕ} b (suc n) n ≡ 0
skip_by true n e f = absurd (cc)
skip_by false n e f = f

skip_row : (pid : ℕ) (row : ℕ × Pending) (pids : List ℕ) (c : Bool) → (row.0 == pid) ≡ false → times pid pids ≡ 0 → times pid (cond c (row.0 ∷ pids) pids) ≡ 0
skip_row pid row pids true e f = skip_by (row.0 == pid) (times pid pids) e f
skip_row pid row pids false e f = f

none_woken : (tx : TxNo) (pid : ℕ) (rows : List (ℕ × Pending)) → list_any (is_under same_pid pid) rows ≡ false → times pid (woken tx rows) ≡ 0
none_woken tx pid [] apart = refl
none_woken tx pid (row ∷ rows) apart =
    let parts = or_false (row.0 == pid) (list_any (is_under same_pid pid) rows) apart in
    skip_row pid row (woken tx rows) (waits_for tx row.1) parts.0 (none_woken tx pid rows parts.1)

moving_asleep : (tx : TxNo) (pid : ℕ) (operation : Pending) (rows : List (ℕ × Pending)) → EachOnce same_process rows → closes_or_moves operation ≡ true → first_of pid rows ≡ Some operation → times pid (woken tx rows) ≡ 0
moving_asleep tx pid operation [] once moves found = absurd (cc)
moving_asleep tx pid operation (row ∷ rows) once moves found = by_test (row.0 == pid) refl found (moving_asleep tx pid operation rows once.1 moves)
  where
    by_test : (b : Bool) → (row.0 == pid) ≡ b → option_map (λ (r : ℕ × Pending). r.1) (cond b (Some row) (find (is_under same_pid pid) rows)) ≡ Some operation → (first_of pid rows ≡ Some operation → times pid (woken tx rows) ≡ 0) → times pid (woken tx (row ∷ rows)) ≡ 0
    by_test true e f later =
        let never : waits_for tx row.1 ≡ false = ap (waits_for tx) (some_is row.1 operation f) ∙ calm_waits tx operation moves in
        let none : list_any (is_under same_pid pid) rows ≡ false = subst (λ (n : ℕ). list_any (is_under same_pid n) rows ≡ false) (eqb-true row.0 pid e) once.0 in
        subst (λ (c : Bool). times pid (cond c (row.0 ∷ woken tx rows) (woken tx rows)) ≡ 0) (sym never) (none_woken tx pid rows none)
    by_test false e f later = skip_row pid row (woken tx rows) (waits_for tx row.1) e (later f)

woken_so : (tx : TxNo) (rows : List (ℕ × Pending)) (owners : List Owner) (waits : List (StreamNo × ℕ)) → EachOnce same_process rows → Lined rows owners waits [] → Lined rows owners waits (woken tx rows)
woken_so tx rows owners waits once p = record {
  waiting = p.waiting;
  single = λ pid operation found moves. let none : times pid (woken tx rows) ≡ 0 = moving_asleep tx pid operation rows once moves found in record { once = omega (arith, none); apart = λ stream stands. none };
}

-- what is so while it is taken in
record Calm (rows : List (ℕ × Pending)) (owners : List Owner) (waits : List (StreamNo × ℕ)) (ready : List ℕ) : Type 0 where
  once : EachOnce same_process rows
  lined : Lined rows owners waits ready
  quiet : ready ≡ []

abbrev IsCalm : ClientFiles → Type 0
IsCalm s = Calm s.pending s.streams.owners s.lock_waits s.ready

mute_calm : muted.Mute IsCalm
mute_calm = record { caches = λ s cache p. p; delays = λ s rows p. p; tells = λ s event p. p; answers = λ s tx body p. p; learns = λ s domains p. p; cwds = λ s rows p. p; counts = λ s p. p }

sync_heard : (o : Option ℕ) (body : ReplyBody) (s : ClientFiles) → OneOperationEach s → Lines s → Lines (synced.answers_by o body s)
sync_heard None body s once p = p
sync_heard (Some pid) body s once p = goes_on_first s pid once p (first_of pid s.pending) body refl

done_first : (o : Option WriteBackOut) (s : ClientFiles) (tx : TxNo) (body : ReplyBody) → IsCalm s → Lines (written.done_first tx body o s)
done_first None s tx body c = c.lined
done_first (Some back) s tx body c =
    let settled : ClientFiles = written.settles_back body back s in
    let again : ClientFiles = written.lists_again back.file back.block settled in
    let so : IsCalm again = muted.lists_again IsCalm mute_calm (dirty_at settled.cache.blocks back.file back.block.0) back.file back.block settled (muted.settles_back IsCalm mute_calm body back s c) in
    let lined : Lined again.pending again.streams.owners again.lock_waits [] = subst (λ (ready : List ℕ). Lined again.pending again.streams.owners again.lock_waits ready) so.quiet so.lined in
    sync_heard (first_call tx again.txs) body (record (steps.wakes_all tx again) { txs = less_call tx again.txs }) so.once
    (subst (λ (ready : List ℕ). Lined again.pending again.streams.owners again.lock_waits (ready ++ woken tx again.pending)) (sym so.quiet) (woken_so tx again.pending again.streams.owners again.lock_waits so.once lined))

-- an answer comes
pub answered : (s : ClientFiles) (tx : TxNo) (source : ℕ) (body : ReplyBody) → s.ready ≡ [] → OneOperationEach s → locked_by.Holds s → queued.Holds s → rank_runs.Holds s → Lines s → Lines (answering.answered tx source body s)
answered s tx source body quiet once b d r p =
    on_if (list_any (is_under same_call tx) s.write_backs) (written.written_back tx body s) (answering.answered_first (first_call tx s.txs) tx source body (record s { txs = less_call tx s.txs }))
    (done_first (first_call tx s.write_backs) (record s { write_backs = less_call tx s.write_backs }) tx body (record { once = once; lined = p; quiet = quiet }))
    (heard_first (first_call tx s.txs) s tx source body quiet once b d r p)
