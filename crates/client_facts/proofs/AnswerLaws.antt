-- Answers to remote calls of the files' side keep what the turns need.
use Rattle.std.proofs.Common.{◌≡◌, ℕ, ◌+◌, Bool, true, false, cond, [], Option, Some, None, refl}
use Rattle.std.specs.List.{list_any}
use Rattle.sprite_ids.specs.declared.BlockNo.{BlockNo}
use Rattle.sprite_ids.specs.declared.FileId.{FileId}
use Rattle.sprite_ids.specs.declared.Grant.{Grant}
use Rattle.sprite_ids.specs.declared.StreamNo.{StreamNo}
use Rattle.sprite_ids.specs.declared.TxNo.{TxNo}
use Rattle.process_machine.specs.declared.Reply.{Reply}
use Rattle.packet_bodies.specs.declared.NameOp.{NameOp}
use Rattle.packet_bodies.specs.declared.NameOp.TheVariants as ops
use Rattle.packet_bodies.specs.declared.OpenedReply.{OpenedReply}
use Rattle.packet_bodies.specs.declared.ReplyBody.{ReplyBody}
use Rattle.packet_bodies.specs.declared.ReplyBody.TheVariants as bodies
use Rattle.packet_bodies.specs.declared.ValueReply.{ValueReply}
use Rattle.block_cache.specs.Blocks.{dirty_at}
use Rattle.block_cache.specs.Held.{is_written_back}
use Rattle.prefix_table.specs.Prefixes.{knows}
use Rattle.stream_table.specs.declared.Place.{Place}
use Rattle.stream_table.specs.declared.Place.TheVariants.{Local, Shared}
use Rattle.stream_table.specs.declared.Stream.{Stream}
use Rattle.stream_table.specs.Entries.{is_placed}
use Rattle.write_delay.specs.Delays.{listed}
use Rattle.kernel_steps.specs.Rows.{is_under}
use Rattle.client_file_tables.specs.declared.client_files.ClientFiles.{ClientFiles}
use Rattle.client_file_tables.specs.declared.moves.CloseWork.{CloseWork}
use Rattle.client_file_tables.specs.declared.moves.MoveWork.{MoveWork}
use Rattle.client_file_tables.specs.declared.names.NameKind.{NameKind}
use Rattle.client_file_tables.specs.declared.names.NameKind.TheVariants as kinds
use Rattle.client_file_tables.specs.declared.names.NameWork.{NameWork}
use Rattle.client_file_tables.specs.declared.pending.Pending.{Pending}
use Rattle.client_file_tables.specs.declared.pending.Pending.TheVariants as operations
use Rattle.client_file_tables.specs.declared.states.DataState.{DataState}
use Rattle.client_file_tables.specs.declared.states.DataState.TheVariants as states
use Rattle.client_file_tables.specs.declared.states.NameState.{NameState}
use Rattle.client_file_tables.specs.declared.states.NameState.TheVariants as names
use Rattle.client_file_tables.specs.declared.works.DataCall.{DataCall}
use Rattle.client_file_tables.specs.declared.works.DataKind.{DataKind}
use Rattle.client_file_tables.specs.declared.works.DataKind.TheVariants as works
use Rattle.client_file_tables.specs.declared.works.WriteBackOut.{WriteBackOut}
use Rattle.client_file_tables.specs.Locks.{unlocks}
use Rattle.client_file_tables.specs.Rows.{first_call, first_of, less_call, less_of, same_call, same_pid}
use Rattle.client_names.specs.Answers.{takes_end}
use Rattle.client_file_tables.specs.Says.{replies}
use Rattle.client_file_tables.specs.Steps.{wakes_all}
use Rattle.client_file_tables.specs.Streams.{added_fd, adds_stream, moves_offset, sets_cwd, stream_at}
use Rattle.client_data.specs.Finishes.{ends_there}
use Rattle.client_data.specs.Grants.{takes_grant}
use Rattle.client_data.specs.Looks.{looks}
use Rattle.client_data.specs.Replies as replied
use Rattle.client_data.specs.SyncAnswers as synced
use Rattle.client_data.specs.WriteBacks as written
use Rattle.client_names.specs.Paths.{Parts}
use Rattle.client_names.specs.Answers as answers
use Rattle.client_names.specs.Lookups as lookups
use Rattle.client_streams.specs.Closing as closing
use Rattle.client_streams.specs.Moving as moving
use Rattle.client_files.specs.Answered as answered
use Rattle.client_files.specs.Asked as asked
use Rattle.client_facts.specs.GoingOn.{GoesOn, few_fds}
use Rattle.client_facts.proofs.CalmLaws.{calm_fills, calm_lists_free, calm_moves_offset, calm_sends_back}
use Rattle.client_facts.proofs.DataLaws.{ends_finishes, ends_unlocks, ran_looks}
use Rattle.client_facts.proofs.RowLaws.{found_few}
use Rattle.client_facts.proofs.SteadyLaws.{Runs, Steady, goes_runs, goes_steady, goes_taken, none_taken, runs_after, runs_closes_rest, runs_if, runs_kept, runs_ran, runs_started, runs_steady, steady_calm, steady_ends, steady_if, steady_join, steady_moves_place, steady_same, steady_self, steady_takes_grant}

-- Data

steady_offset : (stream : StreamNo) (offset : ℕ) (s : ClientFiles) → Steady s (moves_offset stream offset s)
steady_offset stream offset s = steady_calm s _ (calm_moves_offset stream offset s)

steady_moves_here : (kind : DataKind) (stream : StreamNo) (offset : ℕ) (append : Bool) (value : ValueReply) (s : ClientFiles) → Steady s (replied.moves_here kind stream offset append value s)
steady_moves_here (works.Read many) stream offset append value s = steady_offset stream (offset + value.first) s
steady_moves_here (works.Write bytes) stream offset append value s = steady_if append s _ _ (steady_offset stream value.second s) (steady_offset stream (offset + value.first) s)
steady_moves_here (works.Seek to) stream offset append value s = steady_self s
steady_moves_here works.Size stream offset append value s = steady_self s

steady_moves_from : (place : Place) (call : DataCall) (append : Bool) (value : ValueReply) (s : ClientFiles) → Steady s (replied.moves_from place call append value s)
steady_moves_from (Local offset) call append value s = steady_moves_here call.kind call.stream offset append value s
steady_moves_from Shared call append value s = steady_self s

steady_moves_in : (o : Option Stream) (call : DataCall) (value : ValueReply) (s : ClientFiles) → Steady s (replied.moves_in o call value s)
steady_moves_in (Some stream) call value s = steady_moves_from stream.place call stream.append value s
steady_moves_in None call value s = steady_self s

steady_ends_there : (pid : ℕ) (call : DataCall) (reply : Reply) (s : ClientFiles) → Steady s (ends_there pid call reply s)
steady_ends_there pid call reply s =
    let given : ClientFiles = replies pid reply s in
    steady_join s given _ (steady_same s given refl refl refl) (steady_ends pid 2 given _ (ends_finishes pid call.stream given))

runs_looks : (pid : ℕ) (call : DataCall) (s t : ClientFiles) → Steady s t → Runs pid s (looks pid call t)
runs_looks pid call s t h = runs_after pid s t _ h (runs_ran pid (operations.Data call) t _ refl (ran_looks pid call t))

runs_served : (body : ReplyBody) (pid : ℕ) (call : DataCall) (s : ClientFiles) → Runs pid s (replied.served pid call body s)
runs_served (bodies.Again grant) pid call s = runs_looks pid call s (takes_grant grant s) (steady_takes_grant grant s)
runs_served (bodies.Refused errno) pid call s = runs_steady pid s _ (steady_ends_there pid call _ s)
runs_served (bodies.Value value) pid call s =
    let moved : ClientFiles = replied.moves_by call value s in
    runs_steady pid s _ (steady_join s moved _ (steady_moves_in (stream_at call.stream s) call value s) (steady_ends_there pid call _ moved))
runs_served body pid call s = runs_kept pid (operations.Data call) s s refl (steady_self s)

steady_takes_block : (body : ReplyBody) (file : FileId) (block : BlockNo) (s : ClientFiles) → Steady s (replied.takes_block file block body s)
steady_takes_block (bodies.Block stamp bytes) file block s = steady_calm s _ (calm_fills file stamp block bytes s)
steady_takes_block (bodies.Again grant) file block s = steady_takes_grant grant s
steady_takes_block body file block s = steady_self s

runs_answered_in : (state : DataState) (pid : ℕ) (call : DataCall) (body : ReplyBody) (s : ClientFiles) → Runs pid s (replied.answered_in state pid call body s)
runs_answered_in (states.Fetching tx block) pid call body s = runs_looks pid call s (replied.takes_block call.file block body s) (steady_takes_block body call.file block s)
runs_answered_in (states.AtServer tx) pid call body s = runs_served body pid call s
runs_answered_in states.WaitLock pid call body s = runs_kept pid (operations.Data call) s s refl (steady_self s)
runs_answered_in states.Turn pid call body s = runs_kept pid (operations.Data call) s s refl (steady_self s)
runs_answered_in (states.Room tx) pid call body s = runs_kept pid (operations.Data call) s s refl (steady_self s)

-- Closes and moves

runs_close_answers : (o : Option StreamNo) (pid : ℕ) (work : CloseWork) (s : ClientFiles) → few_fds (operations.Close work) ≡ true → Runs pid s (closing.close_answers_by o pid work s)
runs_close_answers (Some stream) pid work s few = runs_closes_rest work.fds pid work.of s (unlocks stream s) few (steady_ends pid 1 s _ (ends_unlocks pid stream s))
runs_close_answers None pid work s few = runs_kept pid (operations.Close work) s s few (steady_self s)

runs_move_answers : (o : Option (Bool × Place)) (pid : ℕ) (work : MoveWork) (grant : Option Grant) (many : ℕ) (s : ClientFiles) → Runs pid s (moving.move_answers_by o pid work grant many s)
runs_move_answers (Some out) pid work grant many s =
    let shared : ClientFiles = moving.shares out.0 work.stream s in
    let freed : ClientFiles = unlocks work.stream shared in
    let shares : Steady s shared = steady_if out.0 s _ _ (steady_moves_place work.stream Shared s) (steady_self s) in
    runs_steady pid s _ (steady_join s shared _ shares (steady_join shared freed _ (steady_ends pid 1 shared freed (ends_unlocks pid work.stream shared)) (steady_same freed _ refl refl refl)))
runs_move_answers None pid work grant many s = runs_kept pid (operations.Move work) s s refl (steady_self s)

runs_answers_move : (body : ReplyBody) (pid : ℕ) (work : MoveWork) (s : ClientFiles) → Runs pid s (answered.answers_move pid work body s)
runs_answers_move (bodies.Moved grant many) pid work s = runs_move_answers (moving.moved_out work.state) pid work grant many s
runs_answers_move body pid work s = runs_kept pid (operations.Move work) s s refl (steady_self s)

-- Names

runs_echoes : (pid : ℕ) (work : NameWork) (server : ℕ) (s t : ClientFiles) → Steady s t → Runs pid s (lookups.echoes pid work server t)
runs_echoes pid work server s t h = runs_kept pid _ s _ refl (steady_join s t _ h (steady_same t _ refl refl refl))

runs_broadcasts : (pid : ℕ) (work : NameWork) (prefix : Parts) (s t : ClientFiles) → Steady s t → Runs pid s (lookups.broadcasts pid work prefix t)
runs_broadcasts pid work prefix s t h = runs_kept pid _ s _ refl (steady_join s t _ h (steady_same t _ refl refl refl))

runs_asks : (pid : ℕ) (work : NameWork) (server : ℕ) (s : ClientFiles) → Runs pid s (lookups.asks pid work server s)
runs_asks pid work server s = runs_kept pid _ s _ refl (steady_same s _ refl refl refl)

runs_looks_up_by : (o : Option ℕ) (pid : ℕ) (work : NameWork) (s t : ClientFiles) → Steady s t → Runs pid s (lookups.looks_up_by pid work o t)
runs_looks_up_by (Some server) pid work s t h = runs_echoes pid work server s t h
runs_looks_up_by None pid work s t h = runs_broadcasts pid work [] s t h

pub runs_looks_up : (pid : ℕ) (work : NameWork) (s t : ClientFiles) → Steady s t → Runs pid s (lookups.looks_up pid work t)
runs_looks_up pid work s t h = runs_looks_up_by (lookups.server_for work.path t) pid work s t h

steady_learns : (prefix : Parts) (server : ℕ) (s : ClientFiles) → Steady s (lookups.learns prefix server s)
steady_learns prefix server s = steady_if (knows s.prefixes prefix) s _ _ (steady_self s) (steady_same s _ refl refl refl)

steady_gives_descriptor : (o : Option ℕ) (pid : ℕ) (s : ClientFiles) → Steady s (answers.gives_descriptor pid o s)
steady_gives_descriptor (Some fd) pid s = steady_same s _ refl refl refl
steady_gives_descriptor None pid s = steady_same s _ refl refl refl

steady_installs : (pid : ℕ) (number : StreamNo) (stream : Stream) (s : ClientFiles) → Steady s (answers.installs pid number stream s)
steady_installs pid number stream s =
    let added : ClientFiles = adds_stream pid number stream s in
    let adds : Steady s added = steady_if (is_placed stream) s _ _ (steady_same s _ refl refl refl) (steady_self s) in
    steady_join s added _ adds (steady_gives_descriptor (added_fd pid stream s) pid added)

steady_installs_opened : (o : Option Stream) (pid : ℕ) (number : StreamNo) (s : ClientFiles) → Steady s (answers.installs_opened pid number o s)
steady_installs_opened (Some stream) pid number s = steady_installs pid number stream s
steady_installs_opened None pid number s = steady_self s

steady_ends_opened : (kind : NameKind) (pid : ℕ) (opened : OpenedReply) (s : ClientFiles) → Steady s (answers.ends_opened_by kind pid opened s)
steady_ends_opened (kinds.Open flags stream fd) pid opened s = steady_installs_opened (answers.opened_stream flags opened.object) pid stream s
steady_ends_opened (kinds.Make device stream fd) pid opened s = steady_self s
steady_ends_opened (kinds.Name op second max) pid opened s = steady_self s

pub steady_takes_some : (o : Option Grant) (s : ClientFiles) → Steady s (asked.takes_some o s)
steady_takes_some (Some grant) s = steady_takes_grant grant s
steady_takes_some None s = steady_self s

steady_gives_value : (op : NameOp) (pid : ℕ) (path : Parts) (value : ValueReply) (s : ClientFiles) → Steady s (answers.gives_value pid op path value s)
steady_gives_value ops.Chdir pid path value s =
    let moved : ClientFiles = sets_cwd pid path s in
    let sets : Steady s moved = steady_if (list_any (is_under same_pid pid) s.cwds) s _ _ (steady_same s _ refl refl refl) (steady_same s _ refl refl refl) in
    steady_join s moved _ sets (steady_same moved _ refl refl refl)
steady_gives_value op pid path value s = steady_same s _ refl refl refl

steady_ends_value : (kind : NameKind) (pid : ℕ) (path : Parts) (value : ValueReply) (s : ClientFiles) → Steady s (answers.ends_value_by kind pid path value s)
steady_ends_value (kinds.Open flags stream fd) pid path value s = steady_self s
steady_ends_value (kinds.Make device stream fd) pid path value s = steady_installs pid stream (answers.master_stream device) s
steady_ends_value (kinds.Name op second max) pid path value s = steady_gives_value op pid path value s

runs_ends_asked : (body : ReplyBody) (pid : ℕ) (work : NameWork) (s : ClientFiles) → Runs pid s (asked.ends_asked pid work body s)
runs_ends_asked (bodies.Refused why) pid work s = runs_steady pid s _ (steady_same s _ refl refl refl)
runs_ends_asked (bodies.Redirect path) pid work s = runs_if (knows s.prefixes path) pid s _ _ (runs_looks_up pid work s s (steady_self s)) (runs_broadcasts pid work path s s (steady_self s))
runs_ends_asked (bodies.Opened opened) pid work s =
    let taken : ClientFiles = asked.takes_some opened.grant s in
    runs_steady pid s _ (steady_join s taken _ (steady_takes_some opened.grant s) (steady_ends_opened work.kind pid opened taken))
runs_ends_asked (bodies.Value value) pid work s = runs_steady pid s _ (steady_ends_value work.kind pid work.path value s)
runs_ends_asked body pid work s = runs_steady pid s s (steady_self s)

runs_answers_name : (state : NameState) (pid : ℕ) (work : NameWork) (source : ℕ) (body : ReplyBody) (s : ClientFiles) → Runs pid s (asked.answers_name_by state pid work source body s)
runs_answers_name (names.Broadcasting tx prefix) pid work source body s = runs_looks_up pid work s (lookups.learns prefix source s) (steady_learns prefix source s)
runs_answers_name (names.Echoing tx server) pid work source body s = runs_asks pid work server s
runs_answers_name (names.Asking tx) pid work source body s = runs_ends_asked body pid work s

-- the answer is for an operation that was taken out

runs_answered : (operation : Pending) (pid source : ℕ) (body : ReplyBody) (s : ClientFiles) → few_fds operation ≡ true → Runs pid s (answered.answered_by (Some operation) pid source body s)
runs_answered (operations.Name call) pid source body s few = runs_answers_name call.state pid call.work source body s
runs_answered (operations.Data call) pid source body s few = runs_answered_in call.state pid call body s
runs_answered (operations.Sync call) pid source body s few = runs_kept pid (operations.Sync call) s s refl (steady_self s)
runs_answered (operations.Close work) pid source body s few = runs_close_answers (closing.closed_at_server work.state) pid work s few
runs_answered (operations.Move work) pid source body s few = runs_answers_move body pid work s

goes_if : (b : Bool) (s t : ClientFiles) → GoesOn s → GoesOn t → GoesOn (cond b s t)
goes_if true s t g h = g
goes_if false s t g h = h

goes_answered_by : (o : Option Pending) (pid source : ℕ) (body : ReplyBody) (s : ClientFiles) → first_of pid s.pending ≡ o → GoesOn s → GoesOn (answered.answered_by o pid source body (record s { pending = less_of pid s.pending }))
goes_answered_by None pid source body s e g = goes_taken pid s g
goes_answered_by (Some operation) pid source body s e g =
    let left : ClientFiles = record s { pending = less_of pid s.pending } in
    goes_runs pid left _ (runs_answered operation pid source body left (found_few pid s.pending operation g.may.short e)) (none_taken pid s g) (goes_taken pid s g)

goes_answered_first : (o : Option ℕ) (tx : TxNo) (source : ℕ) (body : ReplyBody) (s : ClientFiles) → GoesOn s → GoesOn (answered.answered_first o tx source body s)
goes_answered_first None tx source body s g = g
goes_answered_first (Some pid) tx source body s g = goes_if (takes_end tx (first_of pid s.pending)) _ _ (goes_answered_by (first_of pid s.pending) pid source body s refl g) g

-- Write-backs

runs_go_on_by : (operation : Pending) (pid : ℕ) (body : ReplyBody) (s : ClientFiles) → few_fds operation ≡ true → Runs pid s (synced.go_on_by pid operation body s)
runs_go_on_by (operations.Sync call) pid body s few = runs_started pid _ s s refl (steady_self s)
runs_go_on_by (operations.Name call) pid body s few = runs_kept pid _ s s few (steady_self s)
runs_go_on_by (operations.Data call) pid body s few = runs_kept pid _ s s few (steady_self s)
runs_go_on_by (operations.Close work) pid body s few = runs_kept pid _ s s few (steady_self s)
runs_go_on_by (operations.Move work) pid body s few = runs_kept pid _ s s few (steady_self s)

goes_go_on_first : (o : Option Pending) (pid : ℕ) (body : ReplyBody) (s : ClientFiles) → first_of pid s.pending ≡ o → GoesOn s → GoesOn (synced.go_on_first pid o body (record s { pending = less_of pid s.pending }))
goes_go_on_first None pid body s e g = goes_taken pid s g
goes_go_on_first (Some operation) pid body s e g =
    let left : ClientFiles = record s { pending = less_of pid s.pending } in
    goes_runs pid left _ (runs_go_on_by operation pid body left (found_few pid s.pending operation g.may.short e)) (none_taken pid s g) (goes_taken pid s g)

goes_answers_by : (o : Option ℕ) (body : ReplyBody) (s : ClientFiles) → GoesOn s → GoesOn (synced.answers_by o body s)
goes_answers_by None body s g = g
goes_answers_by (Some pid) body s g = goes_go_on_first (first_of pid s.pending) pid body s refl g

goes_answers_sync : (tx : TxNo) (body : ReplyBody) (s : ClientFiles) → GoesOn s → GoesOn (synced.answers_sync tx body s)
goes_answers_sync tx body s g =
    let left : ClientFiles = record s { txs = less_call tx s.txs } in
    goes_answers_by (first_call tx s.txs) body left (goes_steady s left (steady_same s left refl refl refl) g)

steady_notes_back : (b : Bool) (sent : WriteBackOut) (s : ClientFiles) → Steady s (written.notes_back b sent s)
steady_notes_back b sent s = steady_if b s _ _ (steady_same s _ refl refl refl) (steady_self s)

steady_cleans_back : (sent : WriteBackOut) (s : ClientFiles) → Steady s (written.cleans_back sent s)
steady_cleans_back sent s = steady_if (is_written_back s.cache sent.file sent.stamp sent.block.0 sent.number) s _ _ (steady_same s _ refl refl refl) (steady_same s _ refl refl refl)

steady_settles_back : (body : ReplyBody) (sent : WriteBackOut) (s : ClientFiles) → Steady s (written.settles_back body sent s)
steady_settles_back (bodies.Again grant) sent s = steady_takes_grant grant s
steady_settles_back body sent s = steady_cleans_back sent s

steady_lists_by : (o : Option ℕ) (file : FileId) (block : BlockNo) (s : ClientFiles) → Steady s (written.lists_by o file block s)
steady_lists_by (Some number) file block s = steady_if (listed s.delay file block) s _ _ (steady_self s) (steady_calm s _ (calm_lists_free file block s))
steady_lists_by None file block s = steady_self s

goes_done_first : (o : Option WriteBackOut) (tx : TxNo) (body : ReplyBody) (s : ClientFiles) → GoesOn s → GoesOn (written.done_first tx body o s)
goes_done_first None tx body s g = g
goes_done_first (Some sent) tx body s g =
    let settled : ClientFiles = written.settles_back body sent s in
    let listed : ClientFiles = written.lists_again sent.file sent.block settled in
    let woken : ClientFiles = wakes_all tx listed in
    let so : Steady s woken = steady_join s settled woken (steady_settles_back body sent s) (steady_join settled listed woken (steady_lists_by (dirty_at settled.cache.blocks sent.file sent.block.0) sent.file sent.block settled) (steady_same listed woken refl refl refl)) in
    goes_answers_sync tx body woken (goes_steady s woken so g)

goes_written_back : (tx : TxNo) (body : ReplyBody) (s : ClientFiles) → GoesOn s → GoesOn (written.written_back tx body s)
goes_written_back tx body s g =
    let left : ClientFiles = record s { write_backs = less_call tx s.write_backs } in
    goes_done_first (first_call tx s.write_backs) tx body left (goes_steady s left (steady_same s left refl refl refl) g)

-- an answer
pub goes_answered : (tx : TxNo) (source : ℕ) (body : ReplyBody) (s : ClientFiles) → GoesOn s → GoesOn (answered.answered tx source body s)
goes_answered tx source body s g =
    let left : ClientFiles = record s { txs = less_call tx s.txs } in
    goes_if (list_any (is_under same_call tx) s.write_backs) _ _ (goes_written_back tx body s g) (goes_answered_first (first_call tx s.txs) tx source body left (goes_steady s left (steady_same s left refl refl refl) g))

-- a call that is given up

runs_gives_up : (operation : Pending) (pid : ℕ) (s : ClientFiles) → few_fds operation ≡ true → Runs pid s (answers.gives_up_by pid (Some operation) s)
runs_gives_up (operations.Name call) pid s few = runs_steady pid s _ (steady_same s _ refl refl refl)
runs_gives_up (operations.Data call) pid s few = runs_kept pid _ s s few (steady_self s)
runs_gives_up (operations.Sync call) pid s few = runs_kept pid _ s s few (steady_self s)
runs_gives_up (operations.Close work) pid s few = runs_kept pid _ s s few (steady_self s)
runs_gives_up (operations.Move work) pid s few = runs_kept pid _ s s few (steady_self s)

goes_gives_up_by : (o : Option Pending) (pid : ℕ) (s : ClientFiles) → first_of pid s.pending ≡ o → GoesOn s → GoesOn (answers.gives_up_by pid o (record s { pending = less_of pid s.pending }))
goes_gives_up_by None pid s e g = goes_taken pid s g
goes_gives_up_by (Some operation) pid s e g =
    let left : ClientFiles = record s { pending = less_of pid s.pending } in
    goes_runs pid left _ (runs_gives_up operation pid left (found_few pid s.pending operation g.may.short e)) (none_taken pid s g) (goes_taken pid s g)

goes_gives_up_first : (o : Option ℕ) (tx : TxNo) (s : ClientFiles) → GoesOn s → GoesOn (answers.gives_up_first o tx s)
goes_gives_up_first None tx s g = g
goes_gives_up_first (Some pid) tx s g = goes_if (takes_end tx (first_of pid s.pending)) _ _ (goes_gives_up_by (first_of pid s.pending) pid s refl g) g

pub goes_gives_up : (tx : TxNo) (s : ClientFiles) → GoesOn s → GoesOn (answers.gives_up tx s)
goes_gives_up tx s g =
    let left : ClientFiles = record s { txs = less_call tx s.txs } in
    goes_gives_up_first (first_call tx s.txs) tx left (goes_steady s left (steady_same s left refl refl refl) g)

-- a block that is due

steady_due_by : (o : Option ℕ) (file : FileId) (block : BlockNo) (s : ClientFiles) → Steady s (written.due_by o file block s)
steady_due_by (Some number) file block s = steady_calm s _ (calm_sends_back file block number None s)
steady_due_by None file block s = steady_self s

pub steady_due_goes : (file : FileId) (block : BlockNo) (s : ClientFiles) → Steady s (written.due_goes file block s)
steady_due_goes file block s = steady_due_by (dirty_at s.cache.blocks file block.0) file block s
