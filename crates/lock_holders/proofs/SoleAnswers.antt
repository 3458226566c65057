-- Answers to remote calls of the files' side keep that who has a lock has an operation that has it, or is woken to take it.
use Rattle.std.proofs.Common.{◌≡◌, ℕ, Bool, true, false, not, cond, List, [], ◌∷◌, ◌++◌, Option, Some, None, refl, sym, ap, ◌∙◌}
use Rattle.std.specs.List.{list_any}
use Rattle.sprite_ids.specs.declared.Grant.{Grant}
use Rattle.sprite_ids.specs.declared.StreamNo.{StreamNo}
use Rattle.sprite_ids.specs.declared.TxNo.{TxNo}
use Rattle.packet_bodies.specs.declared.NameOp.{NameOp}
use Rattle.packet_bodies.specs.declared.NameOp.TheVariants as ops
use Rattle.packet_bodies.specs.declared.OpenedReply.{OpenedReply}
use Rattle.packet_bodies.specs.declared.ReplyBody.{ReplyBody}
use Rattle.packet_bodies.specs.declared.ReplyBody.TheVariants as bodies
use Rattle.packet_bodies.specs.declared.ValueReply.{ValueReply}
use Rattle.block_cache.specs.Blocks.{dirty_at}
use Rattle.prefix_table.specs.Prefixes.{knows}
use Rattle.stream_table.specs.declared.Place.TheVariants.{Shared}
use Rattle.stream_table.specs.declared.Stream.{Stream}
use Rattle.stream_table.specs.Entries.{Entry, is_open, is_placed}
use Rattle.stream_table.specs.Streams.{added}
use Rattle.kernel_steps.specs.Rows.{is_under}
use Rattle.client_file_tables.specs.declared.client_files.ClientFiles.{ClientFiles}
use Rattle.client_file_tables.specs.declared.moves.CloseWork.{CloseWork}
use Rattle.client_file_tables.specs.declared.moves.MoveWork.{MoveWork}
use Rattle.client_file_tables.specs.declared.names.NameKind.{NameKind}
use Rattle.client_file_tables.specs.declared.names.NameKind.TheVariants as name_kinds
use Rattle.client_file_tables.specs.declared.names.NameWork.{NameWork}
use Rattle.client_file_tables.specs.declared.pending.Pending.{Pending}
use Rattle.client_file_tables.specs.declared.pending.Pending.TheVariants as operations
use Rattle.client_file_tables.specs.declared.states.CloseState.{CloseState}
use Rattle.client_file_tables.specs.declared.states.CloseState.TheVariants as closes
use Rattle.client_file_tables.specs.declared.states.DataState.{DataState}
use Rattle.client_file_tables.specs.declared.states.DataState.TheVariants as states
use Rattle.client_file_tables.specs.declared.states.MoveState.{MoveState}
use Rattle.client_file_tables.specs.declared.states.MoveState.TheVariants as moves
use Rattle.client_file_tables.specs.declared.states.NameState.{NameState}
use Rattle.client_file_tables.specs.declared.states.NameState.TheVariants as name_states
use Rattle.client_file_tables.specs.declared.works.DataCall.{DataCall}
use Rattle.client_file_tables.specs.declared.works.WriteBackOut.{WriteBackOut}
use Rattle.client_file_tables.specs.Locks as locking
use Rattle.client_file_tables.specs.Rows.{first_call, first_of, less_call, less_of, same_call, same_pid}
use Rattle.client_file_tables.specs.Steps as steps
use Rattle.client_file_tables.specs.Steps.{woken}
use Rattle.client_file_tables.specs.Streams as streams
use Rattle.client_data.specs.Replies as replied
use Rattle.client_data.specs.SyncAnswers as synced
use Rattle.client_data.specs.WriteBacks as written
use Rattle.client_names.specs.Answers as name_answers
use Rattle.client_names.specs.Lookups as lookups
use Rattle.client_names.specs.Paths.{Parts}
use Rattle.client_streams.specs.Closing as closing
use Rattle.client_streams.specs.Moving as moving
use Rattle.client_files.specs.Answered as answering
use Rattle.client_files.specs.Asked as asked
use Rattle.client_procs.specs.CanTake.{is_unopened, made_by, made_in, made_of}
use Rattle.client_facts.specs.FileFacts.{OneOperationEach, close_holds, move_holds, move_wants}
use Rattle.client_facts.proofs.CostLaws.{none_left}
use Rattle.file_walks.proofs.DataWalks as data_walks
use Rattle.file_walks.proofs.Muted as muted
use Rattle.file_walks.proofs.Muted.{Mute}
use Rattle.lock_facts.proofs.Boards as locked_by
use Rattle.lock_facts.proofs.Desks as queued
use Rattle.lock_facts.proofs.Desks.{close_wants_in, wanted_in}
use Rattle.lock_facts.proofs.HolderLaws.{same_added}
use Rattle.lock_facts.proofs.OwnerLaws.{keeps_added}
use Rattle.lock_facts.proofs.RankRuns as rank_runs
use Rattle.holder_facts.proofs.LineAnswers as line_answers
use Rattle.holder_facts.proofs.LineRuns as line_runs
use Rattle.holder_facts.proofs.LineRuns.{Lines}
use Rattle.lock_holders.proofs.FileStreams.{files_added}
use Rattle.lock_holders.proofs.Soles as soles
use Rattle.lock_holders.proofs.Soles.{Has}
use Rattle.lock_holders.proofs.SoleRuns as runs
use Rattle.lock_holders.proofs.SoleRuns.{Buts, Soles}

module _ (F : Type 0) where
  pub mute : Mute (Soles F)
  mute = record { caches = λ s cache p. p; delays = λ s rows p. p; tells = λ s event p. p; answers = λ s tx body p. p; learns = λ s domains p. p; cwds = λ s rows p. p; counts = λ s p. p }

  pub on_if : (b : Bool) (s t : ClientFiles) → Soles F s → Soles F t → Soles F (cond b s t)
  on_if true s t p q = p
  on_if false s t p q = q

-- a stream isn't open, where there is one
abbrev pub unopened_in : Option StreamNo → List Entry → Bool
unopened_in (Some number) es = not (is_open es number)
unopened_in None es = true

-- the stream that the operation of a looked-up process makes
abbrev pub made_at : Option ℕ → List (ℕ × Pending) → Option StreamNo
made_at (Some pid) rows = made_in (first_of pid rows)
made_at None rows = None

same_unopened : (o : Option StreamNo) (s : ClientFiles) → is_unopened o s ≡ unopened_in o s.streams.entries
same_unopened (Some number) s = refl
same_unopened None s = refl

pub fits_new : (o : Option ℕ) (s : ClientFiles) → is_unopened (made_of o s) s ≡ true → unopened_in (made_at o s.pending) s.streams.entries ≡ true
fits_new (Some pid) s e = sym (same_unopened (made_in (first_of pid s.pending)) s) ∙ e
fits_new None s e = refl

not_open : (b : Bool) → not b ≡ true → b ≡ false
not_open true e = absurd (cc)
not_open false e = refl

-- Answers to name calls: the process has no operation, and the stream that the call makes isn't open

module _ (F : Type 0) (pid : ℕ) where
  abbrev Makes : NameKind → ClientFiles → Type 0
  Makes kind s = (Buts F pid None s) × (unopened_in (made_by kind) s.streams.entries ≡ true)

  quiet : (kind : NameKind) → Mute (Makes kind)
  quiet kind = record { caches = λ s cache p. p; delays = λ s rows p. p; tells = λ s event p. p; answers = λ s tx body p. p; learns = λ s domains p. p; cwds = λ s rows p. p; counts = λ s p. p }

  idle : (s : ClientFiles) → Buts F pid None s → Soles F s
  idle s p = soles.idle F pid s.pending s.streams.owners s.streams.entries s.lock_waits s.ready p

  looks_up : (o : Option ℕ) (work : NameWork) (s : ClientFiles) → Buts F pid None s → Soles F (lookups.looks_up_by pid work o s)
  looks_up (Some server) work s p = soles.kept F pid None s.pending s.streams.owners s.streams.entries s.lock_waits s.lock_waits s.ready _ (λ stream never. absurd (cc)) (λ stream there never. absurd (cc)) (λ stream other apart there. there) (λ f. tt) p
  looks_up None work s p = soles.kept F pid None s.pending s.streams.owners s.streams.entries s.lock_waits s.lock_waits s.ready _ (λ stream never. absurd (cc)) (λ stream there never. absurd (cc)) (λ stream other apart there. there) (λ f. tt) p

  redirects : (b : Bool) (work : NameWork) (prefix : Parts) (s : ClientFiles) → Buts F pid None s → Soles F (cond b (lookups.looks_up pid work s) (lookups.broadcasts pid work prefix s))
  redirects true work prefix s p = looks_up (lookups.server_for work.path s) work s p
  redirects false work prefix s p = soles.kept F pid None s.pending s.streams.owners s.streams.entries s.lock_waits s.lock_waits s.ready _ (λ stream never. absurd (cc)) (λ stream there never. absurd (cc)) (λ stream other apart there. there) (λ f. tt) p

  gives_descriptor : (o : Option ℕ) (s : ClientFiles) → Buts F pid None s → Soles F (name_answers.gives_descriptor pid o s)
  gives_descriptor (Some fd) s p = idle s p
  gives_descriptor None s p = idle s p

  adds : (number : StreamNo) (stream : Stream) (s : ClientFiles) → is_open s.streams.entries number ≡ false → Buts F pid None s → Buts F pid None (streams.adds_stream pid number stream s)
  adds number stream s new p = by_test (is_placed stream)
    where
      by_test : (b : Bool) → Buts F pid None (cond b (record s { streams = added s.streams pid number stream }) s)
      by_test true =
          soles.but_still F pid None s.pending s.streams.owners (added s.streams pid number stream).owners s.streams.entries (added s.streams pid number stream).entries s.lock_waits s.ready
          (λ other apart fd there leads. keeps_added s.streams pid number stream other fd there leads) (same_added s.streams pid number stream) (λ other fd there apart leads file. files_added s.streams pid number stream new there file) p
      by_test false = p

  installs : (number : StreamNo) (stream : Stream) (s : ClientFiles) → is_open s.streams.entries number ≡ false → Buts F pid None s → Soles F (name_answers.installs pid number stream s)
  installs number stream s new p = gives_descriptor (streams.added_fd pid stream s) (streams.adds_stream pid number stream s) (adds number stream s new p)

  installs_opened : (o : Option Stream) (number : StreamNo) (s : ClientFiles) → is_open s.streams.entries number ≡ false → Buts F pid None s → Soles F (name_answers.installs_opened pid number o s)
  installs_opened (Some stream) number s new p = installs number stream s new p
  installs_opened None number s new p = idle s p

  ends_opened : (kind : NameKind) (opened : OpenedReply) (s : ClientFiles) → Makes kind s → Soles F (name_answers.ends_opened_by kind pid opened s)
  ends_opened (name_kinds.Open flags stream fd) opened s p = installs_opened (name_answers.opened_stream flags opened.object) stream s (not_open (is_open s.streams.entries stream) p.1) p.0
  ends_opened (name_kinds.Make device stream fd) opened s p = idle s p.0
  ends_opened (name_kinds.Name op second max) opened s p = idle s p.0

  gives_value : (op : NameOp) (path : Parts) (value : ValueReply) (s : ClientFiles) → Buts F pid None s → Soles F (name_answers.gives_value pid op path value s)
  gives_value ops.Chdir path value s p = muted.sets_cwd (Soles F) (mute F) pid path s (idle s p)
  gives_value op path value s p = idle s p

  ends_value : (kind : NameKind) (path : Parts) (value : ValueReply) (s : ClientFiles) → Makes kind s → Soles F (name_answers.ends_value_by kind pid path value s)
  ends_value (name_kinds.Open flags stream fd) path value s p = idle s p.0
  ends_value (name_kinds.Make device stream fd) path value s p = installs stream (name_answers.master_stream device) s (not_open (is_open s.streams.entries stream) p.1) p.0
  ends_value (name_kinds.Name op second max) path value s p = gives_value op path value s p.0

  ends_asked : (body : ReplyBody) (work : NameWork) (s : ClientFiles) → Makes work.kind s → Soles F (asked.ends_asked pid work body s)
  ends_asked (bodies.Refused why) work s p = idle s p.0
  ends_asked (bodies.Redirect path) work s p = redirects (knows s.prefixes path) work path s p.0
  ends_asked (bodies.Opened opened) work s p = ends_opened work.kind opened (asked.takes_some opened.grant s) (muted.takes_some (Makes work.kind) (quiet work.kind) opened.grant s p)
  ends_asked (bodies.Value value) work s p = ends_value work.kind work.path value s p
  ends_asked body work s p = idle s p.0

  answers_name : (state : NameState) (work : NameWork) (source : ℕ) (body : ReplyBody) (s : ClientFiles) → Makes work.kind s → Soles F (asked.answers_name_by state pid work source body s)
  answers_name (name_states.Broadcasting tx prefix) work source body s p =
      let learned : ClientFiles = lookups.learns prefix source s in
      looks_up (lookups.server_for work.path learned) work learned (muted.learns (Makes work.kind) (quiet work.kind) prefix source s p).0
  answers_name (name_states.Echoing tx server) work source body s p = soles.kept F pid None s.pending s.streams.owners s.streams.entries s.lock_waits s.lock_waits s.ready _ (λ stream never. absurd (cc)) (λ stream there never. absurd (cc)) (λ stream other apart there. there) (λ f. tt) p.0
  answers_name (name_states.Asking tx) work source body s p = ends_asked body work s p

-- An answer to an operation's own call, where nobody is woken: its row is taken off, and the operation out

module _ (F : Type 0) (s : ClientFiles) (tx : TxNo) (pid : ℕ) (quiet : s.ready ≡ []) (once : OneOperationEach s) (b : locked_by.Holds s) (d : queued.Holds s) (r : rank_runs.Holds s) (line : Lines s) (p : Soles F s) where
  abbrev left : ClientFiles
  left = record s { txs = less_call tx s.txs; pending = less_of pid s.pending }

  none : list_any (is_under same_pid pid) (less_of pid s.pending) ≡ false
  none = none_left pid s.pending once

  back_again : (operation : Pending) → first_of pid s.pending ≡ Some operation → Soles F (steps.keeps pid operation left)
  back_again operation e = soles.back F s.pending s.streams.owners s.streams.entries s.lock_waits s.ready pid operation none e p

  out : (lock : Option StreamNo) → ((stream : StreamNo) → Has s.pending s.streams.owners s.streams.entries s.ready stream pid → lock ≡ Some stream) → Buts F pid lock left
  out lock mine = soles.taken_out F s.pending s.streams.owners s.streams.entries s.lock_waits s.ready s.ready pid lock none (λ other apart woken. woken) mine p

  data_heard : (state : DataState) (call : DataCall) (body : ReplyBody) → call.state ≡ state → first_of pid s.pending ≡ Some (operations.Data call) → Soles F (replied.answered_in state pid call body left)
  data_heard (states.Fetching t block) call body e o =
      data_walks.fetched pid call (runs.Looks F pid call) (runs.Locks F pid call) (runs.Locks F pid call) (runs.Fills F pid call) (Soles F) (runs.data_runs F pid call) block body left
      (line_answers.looks_at s tx pid quiet once b d r line call o, out (Some call.stream) (runs.data_own F s.pending s.streams.owners s.streams.entries s.ready pid call o))
  data_heard (states.AtServer t) call body e o =
      let own : Buts F pid (Some call.stream) left = out (Some call.stream) (runs.data_own F s.pending s.streams.owners s.streams.entries s.ready pid call o) in
      data_walks.served pid call (runs.Looks F pid call) (runs.Locks F pid call) (runs.Locks F pid call) (runs.Fills F pid call) (Soles F) (runs.data_runs F pid call) body left
      (line_answers.looks_at s tx pid quiet once b d r line call o, own) (line_answers.locks_at s tx pid quiet once b d r line t call e o, own) (λ never. back_again (operations.Data call) o)
  data_heard states.WaitLock call body e o = back_again (operations.Data call) o
  data_heard states.Turn call body e o = back_again (operations.Data call) o
  data_heard (states.Room other) call body e o = back_again (operations.Data call) o

  close_heard : (state : CloseState) (work : CloseWork) → work.state ≡ state → first_of pid s.pending ≡ Some (operations.Close work) → Soles F (closing.close_answers_by (closing.closed_at_server state) pid work left)
  close_heard closes.WaitLock work e o = back_again (operations.Close work) o
  close_heard (closes.Closing t stream) work e o =
      runs.closes_on F pid work.of work (locking.unlocks stream left) refl
      (runs.freed F left pid stream work.of (
        line_answers.closes_at s tx pid quiet once b d r line t stream work e o,
        (out (Some stream) (runs.holds_own F s.pending s.streams.owners s.streams.entries s.ready pid (operations.Close work) (Some stream) o (ap close_holds e) (ap (λ (state : CloseState). close_wants_in s.streams.owners pid state work.fds) e)), d.lawful),
      ))

  move_moved : (state : MoveState) (work : MoveWork) (grant : Option Grant) (many : ℕ) → work.state ≡ state → first_of pid s.pending ≡ Some (operations.Move work) → Soles F (moving.move_answers_by (moving.moved_out state) pid work grant many left)
  move_moved moves.WaitLock work grant many e o = back_again (operations.Move work) o
  move_moved (moves.MovingOut t kept place) work grant many e o =
      let after : ClientFiles = moving.shares kept work.stream left in
      let gone : ClientFiles = locking.unlocks work.stream after in
      soles.idle F pid gone.pending gone.streams.owners gone.streams.entries gone.lock_waits gone.ready (runs.unlocks F after pid work.stream (lined kept) (shared kept))
    where
      own : Buts F pid (Some work.stream) left
      own = out (Some work.stream) (runs.holds_own F s.pending s.streams.owners s.streams.entries s.ready pid (operations.Move work) (Some work.stream) o (ap (λ (state : MoveState). move_holds state work.stream) e) (ap (λ (state : MoveState). move_wants state work.stream) e))

      shared : (c : Bool) → Buts F pid (Some work.stream) (moving.shares c work.stream left)
      shared true = runs.moves_place F left pid (Some work.stream) work.stream Shared own
      shared false = own

      calm : Lines left
      calm = line_answers.out_so s tx pid quiet once b d r line (operations.Move work) o (ap (λ (state : MoveState). move_wants state work.stream) e)

      lined : (c : Bool) → Lines (moving.shares c work.stream left)
      lined true = line_runs.moves_place left work.stream Shared calm
      lined false = calm

  move_heard : (body : ReplyBody) (work : MoveWork) → first_of pid s.pending ≡ Some (operations.Move work) → Soles F (answering.answers_move pid work body left)
  move_heard (bodies.Moved grant many) work o = move_moved work.state work grant many refl o
  move_heard body work o = back_again (operations.Move work) o

  heard_by : (o : Option Pending) (source : ℕ) (body : ReplyBody) → first_of pid s.pending ≡ o → unopened_in (made_in o) s.streams.entries ≡ true → Soles F (answering.answered_by o pid source body left)
  heard_by None source body o new = soles.idle F pid left.pending s.streams.owners s.streams.entries s.lock_waits s.ready (out None (runs.none_own F s.pending s.streams.owners s.streams.entries s.ready pid o))
  heard_by (Some (operations.Name call)) source body o new = answers_name F pid call.state call.work source body left (out None (runs.idle_own F s.pending s.streams.owners s.streams.entries s.ready pid (operations.Name call) o refl refl), new)
  heard_by (Some (operations.Data call)) source body o new = data_heard call.state call body refl o
  heard_by (Some (operations.Sync call)) source body o new = back_again (operations.Sync call) o
  heard_by (Some (operations.Close work)) source body o new = close_heard work.state work refl o
  heard_by (Some (operations.Move work)) source body o new = move_heard body work o

  heard_for : (source : ℕ) (body : ReplyBody) → unopened_in (made_in (first_of pid s.pending)) s.streams.entries ≡ true → Soles F (answering.answered_for tx pid source body (record s { txs = less_call tx s.txs }))
  heard_for source body new = on_if F (name_answers.takes_end tx (first_of pid s.pending)) (answering.answered_by (first_of pid s.pending) pid source body left) (record s { txs = less_call tx s.txs }) (heard_by (first_of pid s.pending) source body refl new) p

heard_first : (F : Type 0) (o : Option ℕ) (s : ClientFiles) (tx : TxNo) (source : ℕ) (body : ReplyBody) → s.ready ≡ [] → OneOperationEach s → locked_by.Holds s → queued.Holds s → rank_runs.Holds s → Lines s → unopened_in (made_at o s.pending) s.streams.entries ≡ true → Soles F s → Soles F (answering.answered_first o tx source body (record s { txs = less_call tx s.txs }))
heard_first F None s tx source body quiet once b d r line new p = p
heard_first F (Some pid) s tx source body quiet once b d r line new p = heard_for F s tx pid quiet once b d r line p source body new

-- A remote call is given up

module _ (F : Type 0) (s : ClientFiles) (pid : ℕ) (once : OneOperationEach s) (p : Soles F s) where
  abbrev out_of : ClientFiles
  out_of = record s { pending = less_of pid s.pending }

  put_back : (operation : Pending) → first_of pid s.pending ≡ Some operation → Soles F (steps.keeps pid operation out_of)
  put_back operation o = soles.back F s.pending s.streams.owners s.streams.entries s.lock_waits s.ready pid operation (none_left pid s.pending once) o p

  gone : (lock : Option StreamNo) → ((stream : StreamNo) → Has s.pending s.streams.owners s.streams.entries s.ready stream pid → lock ≡ Some stream) → Buts F pid lock out_of
  gone lock mine = soles.taken_out F s.pending s.streams.owners s.streams.entries s.lock_waits s.ready s.ready pid lock (none_left pid s.pending once) (λ other apart woken. woken) mine p

  gone_none : first_of pid s.pending ≡ None → Soles F out_of
  gone_none o = soles.idle F pid out_of.pending s.streams.owners s.streams.entries s.lock_waits s.ready (gone None (runs.none_own F s.pending s.streams.owners s.streams.entries s.ready pid o))

  ended_by : (o : Option Pending) → first_of pid s.pending ≡ o → Soles F (name_answers.gives_up_by pid o out_of)
  ended_by (Some (operations.Name call)) o = soles.idle F pid out_of.pending s.streams.owners s.streams.entries s.lock_waits s.ready (gone None (runs.idle_own F s.pending s.streams.owners s.streams.entries s.ready pid (operations.Name call) o refl refl))
  ended_by (Some (operations.Data call)) o = put_back (operations.Data call) o
  ended_by (Some (operations.Sync call)) o = put_back (operations.Sync call) o
  ended_by (Some (operations.Close work)) o = put_back (operations.Close work) o
  ended_by (Some (operations.Move work)) o = put_back (operations.Move work) o
  ended_by None o = gone_none o

  -- or a sync's own write-back was answered
  goes_on_by : (operation : Pending) (body : ReplyBody) → first_of pid s.pending ≡ Some operation → Soles F (synced.go_on_by pid operation body out_of)
  goes_on_by (operations.Sync call) body o =
      soles.sole_woken F (less_of pid s.pending ++ (pid, operations.Sync (synced.after_answer call body)) ∷ []) s.streams.owners s.streams.entries s.lock_waits s.ready (pid ∷ [])
      (soles.kept F pid None (less_of pid s.pending) s.streams.owners s.streams.entries s.lock_waits s.lock_waits s.ready (operations.Sync (synced.after_answer call body)) (λ stream never. absurd (cc)) (λ stream there never. absurd (cc)) (λ stream other apart there. there) (λ f. tt)
      (gone None (runs.idle_own F s.pending s.streams.owners s.streams.entries s.ready pid (operations.Sync call) o refl refl)))
  goes_on_by (operations.Name call) body o = put_back (operations.Name call) o
  goes_on_by (operations.Data call) body o = put_back (operations.Data call) o
  goes_on_by (operations.Close work) body o = put_back (operations.Close work) o
  goes_on_by (operations.Move work) body o = put_back (operations.Move work) o

  goes_on_first : (o : Option Pending) (body : ReplyBody) → first_of pid s.pending ≡ o → Soles F (synced.go_on_first pid o body out_of)
  goes_on_first None body o = gone_none o
  goes_on_first (Some operation) body o = goes_on_by operation body o

ended_first : (F : Type 0) (o : Option ℕ) (s : ClientFiles) (tx : TxNo) → OneOperationEach s → Soles F s → Soles F (name_answers.gives_up_first o tx s)
ended_first F None s tx once p = p
ended_first F (Some pid) s tx once p = on_if F (name_answers.takes_end tx (first_of pid s.pending)) (name_answers.gives_up_by pid (first_of pid s.pending) (record s { pending = less_of pid s.pending })) s (ended_by F s pid once p (first_of pid s.pending) refl) p

pub given_up : (F : Type 0) (s : ClientFiles) (tx : TxNo) → OneOperationEach s → Soles F s → Soles F (name_answers.gives_up tx s)
given_up F s tx once p = ended_first F (first_call tx s.txs) (record s { txs = less_call tx s.txs }) tx once p

-- A write-back is answered

abbrev Both : Type 0 → ClientFiles → Type 0
Both F s = (OneOperationEach s) × (Soles F s)

mute_both : (F : Type 0) → Mute (Both F)
mute_both F = record { caches = λ s cache p. p; delays = λ s rows p. p; tells = λ s event p. p; answers = λ s tx body p. p; learns = λ s domains p. p; cwds = λ s rows p. p; counts = λ s p. p }

sync_heard : (F : Type 0) (o : Option ℕ) (body : ReplyBody) (s : ClientFiles) → OneOperationEach s → Soles F s → Soles F (synced.answers_by o body s)
sync_heard F None body s once p = p
sync_heard F (Some pid) body s once p = goes_on_first F s pid once p (first_of pid s.pending) body refl

done_first : (F : Type 0) (o : Option WriteBackOut) (s : ClientFiles) (tx : TxNo) (body : ReplyBody) → Both F s → Soles F (written.done_first tx body o s)
done_first F None s tx body p = p.1
done_first F (Some back) s tx body p =
    let settled : ClientFiles = written.settles_back body back s in
    let again : ClientFiles = written.lists_again back.file back.block settled in
    let so : Both F again = muted.lists_again (Both F) (mute_both F) (dirty_at settled.cache.blocks back.file back.block.0) back.file back.block settled (muted.settles_back (Both F) (mute_both F) body back s p) in
    sync_heard F (first_call tx again.txs) body (record (steps.wakes_all tx again) { txs = less_call tx again.txs }) so.0
    (soles.sole_woken F again.pending again.streams.owners again.streams.entries again.lock_waits again.ready (woken tx again.pending) so.1)

-- an answer comes
pub answered : (F : Type 0) (s : ClientFiles) (tx : TxNo) (source : ℕ) (body : ReplyBody) → s.ready ≡ [] → OneOperationEach s → locked_by.Holds s → queued.Holds s → rank_runs.Holds s → Lines s → unopened_in (made_at (first_call tx s.txs) s.pending) s.streams.entries ≡ true → Soles F s → Soles F (answering.answered tx source body s)
answered F s tx source body quiet once b d r line new p =
    on_if F (list_any (is_under same_call tx) s.write_backs) (written.written_back tx body s) (answering.answered_first (first_call tx s.txs) tx source body (record s { txs = less_call tx s.txs }))
    (done_first F (first_call tx s.write_backs) (record s { write_backs = less_call tx s.write_backs }) tx body (once, p))
    (heard_first F (first_call tx s.txs) s tx source body quiet once b d r line new p)
