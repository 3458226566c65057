-- Calls of the files' side at their issue, answers to its remote calls, and processes that fork or arrive with their streams, keep the facts of queues.
use Rattle.std.proofs.Common.{◌≡◌, ℕ, Bool, true, false, ◌&&◌, ◌||◌, not, cond, List, [], ◌∷◌, Option, Some, None, refl}
use Rattle.std.proofs.lemmas.Bool.{and_parts}
use Rattle.std.specs.List.{list_all, list_any}
use Rattle.sprite_ids.specs.declared.BlockNo.{BlockNo}
use Rattle.sprite_ids.specs.declared.FileId.{FileId}
use Rattle.sprite_ids.specs.declared.Grant.{Grant}
use Rattle.sprite_ids.specs.declared.StreamNo.{StreamNo}
use Rattle.sprite_ids.specs.declared.TxNo.{TxNo}
use Rattle.packet_bodies.specs.declared.CarriedStream.{CarriedStream}
use Rattle.packet_bodies.specs.declared.ReplyBody.{ReplyBody}
use Rattle.packet_bodies.specs.declared.ReplyBody.TheVariants as bodies
use Rattle.block_cache.specs.Blocks.{dirty_at}
use Rattle.stream_table.specs.declared.Carried.{Carried}
use Rattle.stream_table.specs.declared.Place.TheVariants.{Shared}
use Rattle.stream_table.specs.declared.Stream.{Stream}
use Rattle.stream_table.specs.Entries.{is_placed}
use Rattle.stream_table.specs.Owners.{is_owner, is_used, numbers_of}
use Rattle.stream_table.specs.Streams.{Table, added, arriving, dupped, forked, is_forked}
use Rattle.stream_table.proofs.TableLaws.{forked_table}
use Rattle.sprite_ids.specs.Lists.{put}
use Rattle.kernel_steps.specs.Rows.{is_under}
use Rattle.client_file_tables.specs.declared.client_files.ClientFiles.{ClientFiles}
use Rattle.client_file_tables.specs.declared.moves.CloseWork.{CloseWork}
use Rattle.client_file_tables.specs.declared.moves.MoveWork.{MoveWork}
use Rattle.client_file_tables.specs.declared.pending.Pending.{Pending}
use Rattle.client_file_tables.specs.declared.pending.Pending.TheVariants as operations
use Rattle.client_file_tables.specs.declared.states.CloseState.{CloseState}
use Rattle.client_file_tables.specs.declared.states.CloseState.TheVariants as closes
use Rattle.client_file_tables.specs.declared.states.DataState.{DataState}
use Rattle.client_file_tables.specs.declared.states.DataState.TheVariants as states
use Rattle.client_file_tables.specs.declared.states.MoveState.{MoveState}
use Rattle.client_file_tables.specs.declared.states.MoveState.TheVariants as moves
use Rattle.client_file_tables.specs.declared.works.DataCall.{DataCall}
use Rattle.client_file_tables.specs.declared.works.WriteBackOut.{WriteBackOut}
use Rattle.client_file_tables.specs.Locks as locking
use Rattle.client_file_tables.specs.Rows.{first_call, first_of, less_call, less_of, same_call}
use Rattle.client_file_tables.specs.Steps as steps
use Rattle.client_file_tables.specs.Steps.{woken}
use Rattle.client_file_tables.specs.Streams as streams
use Rattle.client_data.specs.Replies as replied
use Rattle.client_data.specs.SyncAnswers as synced
use Rattle.client_data.specs.WriteBacks as written
use Rattle.client_names.specs.Answers as name_answers
use Rattle.client_streams.specs.Closing as closing
use Rattle.client_streams.specs.Moving as moving
use Rattle.client_files.specs.Answered as answering
use Rattle.client_files.specs.Arrivals as arrivals
use Rattle.client_files.specs.Arrivals.{are_apart, is_fit, is_known_so}
use Rattle.client_files.specs.Asked as asked
use Rattle.client_facts.specs.FileFacts.{OneOperationEach}
use Rattle.client_facts.proofs.CostLaws.{none_left}
use Rattle.file_walks.proofs.CallWalks as call_walks
use Rattle.file_walks.proofs.CallWalks.{RunsCall}
use Rattle.file_walks.proofs.CloseWalks as close_walks
use Rattle.file_walks.proofs.DataWalks as data_walks
use Rattle.file_walks.proofs.Muted as muted
use Rattle.file_facts.proofs.BookLaws.{found_each}
use Rattle.lock_facts.proofs.Desks.{Holds, HoldsAt, HoldsOff, Settled, Sound, desk_of}
use Rattle.lock_facts.proofs.DeskLaws as desks
use Rattle.lock_facts.proofs.OwnerLaws.{KeepsDescriptors, keeps_added, keeps_arriving, keeps_dupped, keeps_forked}
use Rattle.lock_facts.proofs.TableFacts.{Lawful, added_so, arriving_so, dupped_so}
use Rattle.lock_facts.proofs.WaitRuns.{close_runs, data_runs, kept_idle, moves_place, mute, started, unlocks}

-- Streams that come

-- the table changes, and each descriptor that is in use leads there still
with_table : (s : ClientFiles) (items : Table) → KeepsDescriptors s.streams.owners items.owners → Lawful items → Holds s → Holds (record s { streams = items })
with_table s items keeps lawful p = desks.grows (desk_of s) items s.lock_waits s.ready keeps (λ pid stream e. e) (λ pid e. e) lawful p

adds_stream : (s : ClientFiles) (pid : ℕ) (number : StreamNo) (stream : Stream) → Holds s → Holds (streams.adds_stream pid number stream s)
adds_stream s pid number stream p = by_test (is_placed stream) refl
  where
    by_test : (b : Bool) → is_placed stream ≡ b → Holds (cond b (record s { streams = added s.streams pid number stream }) s)
    by_test true e = with_table s (added s.streams pid number stream) (keeps_added s.streams pid number stream) (added_so s.streams pid number stream e p.lawful) p
    by_test false e = p

not_used : (b : Bool) → not b ≡ true → b ≡ false
not_used true e = absurd (cc)
not_used false e = refl

-- a child takes its parent's descriptors over
pub forks : (s : ClientFiles) (parent child : ℕ) → Holds s → Holds (record s { streams = forked s.streams parent child })
forks s parent child p = by_test (is_forked s.streams.owners parent child) refl
  where
    by_test : (b : Bool) → is_forked s.streams.owners parent child ≡ b → Holds (record s { streams = record s.streams { owners = cond b (put (is_owner child) (record { pid = child; numbers = numbers_of s.streams.owners parent }) s.streams.owners) s.streams.owners } })
    by_test true e =
        let none : is_used (numbers_of s.streams.owners child) ≡ false = not_used (is_used (numbers_of s.streams.owners child)) (and_parts (is_used (numbers_of s.streams.owners parent)) (not (is_used (numbers_of s.streams.owners child))) e).1 in
        with_table s (record s.streams { owners = put (is_owner child) (record { pid = child; numbers = numbers_of s.streams.owners parent }) s.streams.owners }) (keeps_forked s.streams.owners parent child none) (forked_table s.streams.owners s.streams.entries parent child p.lawful none) p
    by_test false e = p

-- Calls at their issue, and answers to name calls

pub call_runs : (pid : ℕ) → RunsCall pid Holds Holds
call_runs pid = record {
  quiet = mute Sound;
  adds = λ s number stream p. adds_stream s pid number stream p;
  dups = λ s fd p. with_table s (dupped s.streams pid fd) (keeps_dupped s.streams pid fd) (dupped_so s.streams pid fd p.lawful) p;
  begins = λ s operation begins leads p. started s pid operation leads p;
  echoes = λ s work server p. kept_idle s pid _ refl tt p;
  broadcasts = λ s work prefix p. kept_idle s pid _ refl tt p;
  asks = λ s work server p. kept_idle s pid _ refl tt p;
  ends = λ s reply p. p;
  lost = λ s p. p;
}

-- An answer to an operation's own call: its row is taken off, and the operation out

module _ (s : ClientFiles) (tx : TxNo) (pid : ℕ) (once : OneOperationEach s) (p : Holds s) where
  abbrev left : ClientFiles
  left = record s { txs = less_call tx s.txs; pending = less_of pid s.pending }

  left_off : HoldsOff pid left
  left_off = record { sound = desks.taken_out (desk_of s) pid p; none = none_left pid s.pending once }

  settled_of : (operation : Pending) → first_of pid s.pending ≡ Some operation → Settled s.streams.owners s.lock_waits s.ready (pid, operation)
  settled_of operation e = found_each (Settled s.streams.owners s.lock_waits s.ready) pid s.pending operation p.rows e

  -- an operation is put back
  back_again : (operation : Pending) → first_of pid s.pending ≡ Some operation → Holds (steps.keeps pid operation left)
  back_again operation e = desks.kept (desk_of left) pid operation (settled_of operation e) left_off.sound

  left_at : (call : DataCall) → first_of pid s.pending ≡ Some (operations.Data call) → HoldsAt pid call left
  left_at call o = record { off = left_off; leads = (settled_of (operations.Data call) o).leads }

  data_heard : (state : DataState) (call : DataCall) (body : ReplyBody) → first_of pid s.pending ≡ Some (operations.Data call) → Holds (replied.answered_in state pid call body left)
  data_heard (states.Fetching t block) call body o =
      data_walks.fetched pid call (HoldsAt pid call) (HoldsAt pid call) (HoldsAt pid call) (HoldsAt pid call) Holds (data_runs pid call) block body left (left_at call o)
  data_heard (states.AtServer t) call body o =
      data_walks.served pid call (HoldsAt pid call) (HoldsAt pid call) (HoldsAt pid call) (HoldsAt pid call) Holds (data_runs pid call) body left (left_at call o) (left_at call o) (λ never. back_again (operations.Data call) o)
  data_heard states.WaitLock call body o = back_again (operations.Data call) o
  data_heard states.Turn call body o = back_again (operations.Data call) o
  data_heard (states.Room other) call body o = back_again (operations.Data call) o

  close_heard : (state : CloseState) (work : CloseWork) → first_of pid s.pending ≡ Some (operations.Close work) → Holds (closing.close_answers_by (closing.closed_at_server state) pid work left)
  close_heard closes.WaitLock work o = back_again (operations.Close work) o
  close_heard (closes.Closing t stream) work o =
      close_walks.closes_on pid work.of (HoldsOff pid) (λ number. HoldsOff pid) Holds (close_runs pid work.of) work (locking.unlocks stream left) refl (unlocks left pid stream left_off)

  move_moved : (state : MoveState) (work : MoveWork) (grant : Option Grant) (many : ℕ) → first_of pid s.pending ≡ Some (operations.Move work) → Holds (moving.move_answers_by (moving.moved_out state) pid work grant many left)
  move_moved moves.WaitLock work grant many o = back_again (operations.Move work) o
  move_moved (moves.MovingOut t kept place) work grant many o = (unlocks (moving.shares kept work.stream left) pid work.stream (shared kept)).sound
    where
      shared : (b : Bool) → HoldsOff pid (moving.shares b work.stream left)
      shared true = moves_place left pid work.stream Shared left_off
      shared false = left_off

  move_heard : (body : ReplyBody) (work : MoveWork) → first_of pid s.pending ≡ Some (operations.Move work) → Holds (answering.answers_move pid work body left)
  move_heard (bodies.Moved grant many) work o = move_moved work.state work grant many o
  move_heard body work o = back_again (operations.Move work) o

  heard_by : (o : Option Pending) (source : ℕ) (body : ReplyBody) → first_of pid s.pending ≡ o → Holds (answering.answered_by o pid source body left)
  heard_by None source body o = left_off.sound
  heard_by (Some (operations.Name call)) source body o = call_walks.answers_name (λ (other : ℕ). Holds) Holds call_runs call.state pid call.work source body left left_off.sound
  heard_by (Some (operations.Data call)) source body o = data_heard call.state call body o
  heard_by (Some (operations.Sync call)) source body o = back_again (operations.Sync call) o
  heard_by (Some (operations.Close work)) source body o = close_heard work.state work o
  heard_by (Some (operations.Move work)) source body o = move_heard body work o

  taken_by : (b : Bool) (u : ClientFiles) → Holds u → Holds (cond b u (record s { txs = less_call tx s.txs }))
  taken_by true u q = q
  taken_by false u q = p

  heard_for : (source : ℕ) (body : ReplyBody) → Holds (answering.answered_for tx pid source body (record s { txs = less_call tx s.txs }))
  heard_for source body = taken_by (name_answers.takes_end tx (first_of pid s.pending)) (answering.answered_by (first_of pid s.pending) pid source body left) (heard_by (first_of pid s.pending) source body refl)

  ended_by : (o : Option Pending) → first_of pid s.pending ≡ o → Holds (name_answers.gives_up_by pid o left)
  ended_by (Some (operations.Name call)) o = left_off.sound
  ended_by (Some (operations.Data call)) o = back_again (operations.Data call) o
  ended_by (Some (operations.Sync call)) o = back_again (operations.Sync call) o
  ended_by (Some (operations.Close work)) o = back_again (operations.Close work) o
  ended_by (Some (operations.Move work)) o = back_again (operations.Move work) o
  ended_by None o = left_off.sound

  ended_for : Holds (name_answers.gives_up_on tx pid (record s { txs = less_call tx s.txs }))
  ended_for = taken_by (name_answers.takes_end tx (first_of pid s.pending)) (name_answers.gives_up_by pid (first_of pid s.pending) left) (ended_by (first_of pid s.pending) refl)

heard_first : (o : Option ℕ) (s : ClientFiles) (tx : TxNo) (source : ℕ) (body : ReplyBody) → OneOperationEach s → Holds s → Holds (answering.answered_first o tx source body (record s { txs = less_call tx s.txs }))
heard_first None s tx source body once p = p
heard_first (Some pid) s tx source body once p = heard_for s tx pid once p source body

ended_first : (o : Option ℕ) (s : ClientFiles) (tx : TxNo) → OneOperationEach s → Holds s → Holds (name_answers.gives_up_first o tx (record s { txs = less_call tx s.txs }))
ended_first None s tx once p = p
ended_first (Some pid) s tx once p = ended_for s tx pid once p

-- a remote call is given up
pub given_up : (s : ClientFiles) (tx : TxNo) → OneOperationEach s → Holds s → Holds (name_answers.gives_up tx s)
given_up s tx once p = ended_first (first_call tx s.txs) s tx once p

-- A write-back is answered

module _ (s : ClientFiles) (pid : ℕ) (p : Holds s) where
  abbrev out : ClientFiles
  out = record s { pending = less_of pid s.pending }

  put_back : (operation : Pending) → first_of pid s.pending ≡ Some operation → Holds (steps.keeps pid operation out)
  put_back operation o = desks.kept (desk_of out) pid operation (found_each (Settled s.streams.owners s.lock_waits s.ready) pid s.pending operation p.rows o) (desks.taken_out (desk_of s) pid p)

  goes_on_by : (operation : Pending) (body : ReplyBody) → first_of pid s.pending ≡ Some operation → Holds (synced.go_on_by pid operation body out)
  goes_on_by (operations.Sync call) body o = started out pid (operations.Sync (synced.after_answer call body)) tt (desks.taken_out (desk_of s) pid p)
  goes_on_by (operations.Name call) body o = put_back (operations.Name call) o
  goes_on_by (operations.Data call) body o = put_back (operations.Data call) o
  goes_on_by (operations.Close work) body o = put_back (operations.Close work) o
  goes_on_by (operations.Move work) body o = put_back (operations.Move work) o

  goes_on_first : (o : Option Pending) (body : ReplyBody) → first_of pid s.pending ≡ o → Holds (synced.go_on_first pid o body out)
  goes_on_first None body o = desks.taken_out (desk_of s) pid p
  goes_on_first (Some operation) body o = goes_on_by operation body o

sync_heard : (o : Option ℕ) (body : ReplyBody) (s : ClientFiles) → Holds s → Holds (synced.answers_by o body s)
sync_heard None body s p = p
sync_heard (Some pid) body s p = goes_on_first s pid p (first_of pid s.pending) body refl

done_first : (o : Option WriteBackOut) (s : ClientFiles) (tx : TxNo) (body : ReplyBody) → Holds s → Holds (written.done_first tx body o s)
done_first None s tx body p = p
done_first (Some back) s tx body p =
    let settled : ClientFiles = written.settles_back body back s in
    let again : ClientFiles = written.lists_again back.file back.block settled in
    let so : Holds again = muted.lists_again Holds (mute Sound) (dirty_at settled.cache.blocks back.file back.block.0) back.file back.block settled (muted.settles_back Holds (mute Sound) body back s p) in
    sync_heard (first_call tx again.txs) body (record (steps.wakes_all tx again) { txs = less_call tx again.txs }) (desks.wakes (desk_of again) (woken tx again.pending) so)

-- an answer comes
pub answered : (s : ClientFiles) (tx : TxNo) (source : ℕ) (body : ReplyBody) → OneOperationEach s → Holds s → Holds (answering.answered tx source body s)
answered s tx source body once p = on_if (list_any (is_under same_call tx) s.write_backs)
  where
    on_if : (b : Bool) → Holds (cond b (written.written_back tx body s) (answering.answered_first (first_call tx s.txs) tx source body (record s { txs = less_call tx s.txs })))
    on_if true = done_first (first_call tx s.write_backs) (record s { write_backs = less_call tx s.write_backs }) tx body p
    on_if false = heard_first (first_call tx s.txs) s tx source body once p

-- Blocks that are due

due_by : (o : Option ℕ) (file : FileId) (block : BlockNo) (s : ClientFiles) → Holds s → Holds (written.due_by o file block s)
due_by (Some number) file block s p = p
due_by None file block s p = p

-- a block that is due goes
pub due_goes : (file : FileId) (block : BlockNo) (s : ClientFiles) → Holds s → Holds (written.due_goes file block s)
due_goes file block s p = due_by (dirty_at s.cache.blocks file block.0) file block s p

-- Processes that arrive

takes_carried : (list : List CarriedStream) (s : ClientFiles) → Holds s → Holds (arrivals.takes_carried list s)
takes_carried [] s p = p
takes_carried (stream ∷ list) s p = takes_carried list (asked.takes_some stream.grant s) (muted.takes_some Holds (mute Sound) stream.grant s p)

neither : (b c d : Bool) → cond (b || not c) false d ≡ true → (b ≡ false) × ((c ≡ true) × (d ≡ true))
neither true c d e = absurd (cc)
neither false true d e = (refl, (refl, e))
neither false false d e = absurd (cc)

puts_streams : (pid : ℕ) (items : List Carried) (s : ClientFiles) → Holds s → Holds (arrivals.puts_streams pid items s)
puts_streams pid items s p = by_test (arrivals.can_arrive pid items s) refl
  where
    by_test : (b : Bool) → arrivals.can_arrive pid items s ≡ b → Holds (cond b (record s { streams = arriving s.streams pid items }) s)
    by_test true e =
        let parts = neither (is_used (numbers_of s.streams.owners pid)) (are_apart items) (list_all is_fit items && list_all (is_known_so s.streams.entries) items) e in
        let fit : list_all is_fit items ≡ true = (and_parts (list_all is_fit items) (list_all (is_known_so s.streams.entries) items) parts.1.1).0 in
        with_table s (arriving s.streams pid items) (keeps_arriving items s.streams pid parts.0) (arriving_so items s.streams pid parts.0 parts.1.0 fit p.lawful) p
    by_test false e = p

-- a process arrives with its streams
pub arrives : (pid : ℕ) (cwd : List (List ℕ)) (list : List CarriedStream) (items : List Carried) (s : ClientFiles) → Holds s → Holds (arrivals.arrives pid cwd list items s)
arrives pid cwd list items s p = puts_streams pid items (streams.sets_cwd pid cwd (arrivals.takes_carried list s)) (muted.sets_cwd Holds (mute Sound) pid cwd (arrivals.takes_carried list s) (takes_carried list s p))
