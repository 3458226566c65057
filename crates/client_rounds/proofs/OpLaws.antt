-- Runs of operations of the files' side: what each of them says to the processes' side.
use Rattle.std.proofs.Common.{◌≡◌, ℕ, Bool, true, false, cond, None, refl, sym, subst}
use Rattle.process_machine.specs.declared.Reply.{Reply}
use Rattle.packet_bodies.specs.declared.ReplyBody.{ReplyBody}
use Rattle.stream_table.specs.Entries.{may_be_at}
use Rattle.client_file_tables.specs.declared.client_files.ClientFiles.{ClientFiles}
use Rattle.client_file_tables.specs.declared.moves.CloseWork.{CloseWork}
use Rattle.client_file_tables.specs.declared.moves.ClosingOf.{ClosingOf}
use Rattle.client_file_tables.specs.declared.moves.ClosingOf.TheVariants as closings
use Rattle.client_file_tables.specs.declared.moves.MoveWork.{MoveWork}
use Rattle.client_file_tables.specs.declared.states.CloseState.{CloseState}
use Rattle.client_file_tables.specs.declared.states.CloseState.TheVariants as close_states
use Rattle.client_file_tables.specs.declared.states.DataState.{DataState}
use Rattle.client_file_tables.specs.declared.states.DataState.TheVariants as data_states
use Rattle.client_file_tables.specs.declared.states.MoveState.{MoveState}
use Rattle.client_file_tables.specs.declared.states.MoveState.TheVariants as move_states
use Rattle.client_file_tables.specs.declared.works.DataCall.{DataCall}
use Rattle.client_file_tables.specs.declared.works.SyncCall.{SyncCall}
use Rattle.client_file_tables.specs.Fillers as fillers
use Rattle.client_file_tables.specs.Locks as locking
use Rattle.client_file_tables.specs.Says as says
use Rattle.client_file_tables.specs.Streams.{stream_at}
use Rattle.client_data.specs.Looks as looking
use Rattle.client_data.specs.Replies as replied
use Rattle.client_data.specs.Sync as syncing
use Rattle.client_streams.specs.Closing as closing
use Rattle.client_streams.specs.Moving as moving
use Rattle.client_facts.proofs.LockLaws as turns
use Rattle.client_facts.proofs.LockLaws.{SeesNoTurns}
use Rattle.file_walks.proofs.CloseWalks as close_walks
use Rattle.file_walks.proofs.DataWalks as data_walks
use Rattle.file_walks.proofs.Muted.{Mute}
use Rattle.client_rounds.proofs.Ledgers.{Ledger, RunsClose, RunsData, RunsMove, RunsSync, closed_more, ledger_of}

-- What says nothing to the processes' side and leaves the operations as they are

module _ (Q : Ledger → Type 0) where
  abbrev pub P : ClientFiles → Type 0
  P s = Q (ledger_of s)

  pub on_if : (b : Bool) (s t : ClientFiles) → P s → P t → P (cond b s t)
  on_if true s t p q = p
  on_if false s t p q = q

  pub no_turns : SeesNoTurns P
  no_turns = record { streams = λ s streams p. p; waits = λ s rows p. p; fillers = λ s pids p. p; woken = λ s pid p. p }

  pub mute : Mute P
  mute = record { caches = λ s cache p. p; delays = λ s rows p. p; tells = λ s event p. p; answers = λ s tx body p. p; learns = λ s domains p. p; cwds = λ s rows p. p; counts = λ s p. p }

-- Operations on files' data

module _ (pid : ℕ) (Q R : Ledger → Type 0) (runs : RunsData pid Q R) where
  deeds : (call : DataCall) → data_walks.RunsData pid call (P Q) (P Q) (P Q) (P Q) (P R)
  deeds call = record {
    quiet = mute Q;
    held = mute Q;
    first = mute Q;
    locks = λ s e p. turns.locks (P Q) (no_turns Q) pid call.stream s p;
    waits_lock = λ s e p. runs.waits (ledger_of (locking.locks pid call.stream s)) _ (turns.locks (P Q) (no_turns Q) pid call.stream s p);
    not_open = λ s e p. runs.waits (ledger_of s) _ p;
    places = λ s place p. on_if Q (may_be_at place (stream_at call.stream s)) _ s p p;
    begins_filling = λ s on p. turns.begins_filling (P Q) (no_turns Q) pid s p;
    comes_first = λ s e p. p;
    waits_turn = λ s e p. runs.waits (ledger_of s) _ p;
    filled = λ s p. p;
    fetches = λ s block p. runs.waits (ledger_of s) _ p;
    waits_back = λ s file block tx e p. runs.waits (ledger_of s) _ p;
    sends_back = λ s file block number p. runs.waits (ledger_of s) _ p;
    none_dirty = λ s e p. runs.waits (ledger_of s) _ p;
    asks = λ s offset append p. runs.waits (ledger_of (fillers.leaves_filling pid s)) _ (turns.leaves_filling (P Q) (no_turns Q) pid s p);
    ends = λ s reply p. turns.unlocks (P R) (no_turns R) call.stream (fillers.leaves_filling pid (says.replies pid reply s)) (turns.leaves_filling (P R) (no_turns R) pid (says.replies pid reply s) (runs.ends (ledger_of s) reply p));
  }

  pub looks : (call : DataCall) (s : ClientFiles) → Q (ledger_of s) → R (ledger_of (looking.looks pid call s))
  looks call s p = data_walks.looks pid call (P Q) (P Q) (P Q) (P Q) (P R) (deeds call) s p

  pub data_answered : (state : DataState) (call : DataCall) (body : ReplyBody) (s : ClientFiles) → Q (ledger_of s) → R (ledger_of (replied.answered_in state pid call body s))
  data_answered (data_states.Fetching tx block) call body s p = data_walks.fetched pid call (P Q) (P Q) (P Q) (P Q) (P R) (deeds call) block body s p
  data_answered (data_states.AtServer tx) call body s p = data_walks.served pid call (P Q) (P Q) (P Q) (P Q) (P R) (deeds call) body s p p (λ other. runs.waits (ledger_of s) call p)
  data_answered data_states.WaitLock call body s p = runs.waits (ledger_of s) call p
  data_answered data_states.Turn call body s p = runs.waits (ledger_of s) call p
  data_answered (data_states.Room tx) call body s p = runs.waits (ledger_of s) call p

-- Syncs

module _ (pid : ℕ) (Q R : Ledger → Type 0) (runs : RunsSync pid Q R) where
  pub syncs : (call : SyncCall) (s : ClientFiles) → Q (ledger_of s) → R (ledger_of (syncing.syncs pid call s))
  syncs call s p =
      data_walks.syncs pid (P Q) (P R)
      (record {
        quiet = mute Q;
        stays = λ t other q. runs.waits (ledger_of t) _ q;
        waits_other = λ t other block tx e q. runs.waits (ledger_of t) _ q;
        sends_own = λ t other block number q. runs.waits (ledger_of t) _ q;
        ends = λ t reply q. runs.ends (ledger_of t) reply q;
      }) call s p

-- Closes

module _ (pid : ℕ) (cause : ClosingOf) (Q R : Ledger → Type 0) (runs : RunsClose pid cause Q R) where
  ends_closing : (o : ClosingOf) (s : ClientFiles) → ((v : Ledger) (reply : Reply) → Q v → R (closed_more v pid o reply)) → Q (ledger_of s) → R (ledger_of (closing.ends_closing pid o s))
  ends_closing (closings.Call number fd) s ends p = ends (ledger_of s) (says.plain_value 0) p
  ends_closing (closings.End about) s ends p = ends (ledger_of s) (says.plain_value 0) p

  deeds_closing : close_walks.RunsClose pid cause (P Q) (λ number. P Q) (P R)
  deeds_closing = record {
    quiet = mute Q;
    held = λ number. mute Q;
    locks = λ s number e p. turns.locks (P Q) (no_turns Q) pid number s p;
    waits_lock = λ s fds fd number f d e p. runs.waits (ledger_of (locking.locks pid number s)) (closing.closing cause fds) refl (turns.locks (P Q) (no_turns Q) pid number s p);
    drops = λ s fd p. p;
    drops_held = λ s fd number p. p;
    frees = λ s number p. turns.unlocks (P Q) (no_turns Q) number s p;
    asks = λ s work number file many e p. runs.waits (ledger_of s) _ e p;
    goes_on = λ s fds p. runs.waits (ledger_of s) (closing.closing cause fds) refl p;
    tells = λ s device p. runs.tells (ledger_of s) device p;
    ends = λ s p. ends_closing cause s runs.ends p;
  }

  -- the next descriptor, behind one that was closed
  pub closes_on : (work : CloseWork) (s : ClientFiles) → work.of ≡ cause → Q (ledger_of s) → R (ledger_of (closing.closes_on pid work s))
  closes_on work s e p = close_walks.closes_on pid cause (P Q) (λ number. P Q) (P R) deeds_closing work s e p

  pub runs_close : (state : CloseState) (work : CloseWork) (s : ClientFiles) → work.state ≡ state → work.of ≡ cause → Q (ledger_of s) → R (ledger_of (closing.runs_close_by state pid work s))
  runs_close close_states.WaitLock work s e f p =
      subst (λ (state : CloseState). R (ledger_of (closing.closes_next pid (record work { state = state }) s))) (sym e)
      (subst (λ (of : ClosingOf). R (ledger_of (closing.closes_next pid (closing.closing of work.fds) s))) (sym f) (close_walks.runs_close pid cause (P Q) (λ number. P Q) (P R) deeds_closing work.fds s p))
  runs_close (close_states.Closing tx stream) work s e f p = runs.waits (ledger_of s) work f p

-- Moves

module _ (pid : ℕ) (Q R : Ledger → Type 0) (runs : RunsMove pid Q R) where
  deeds_moving : (work : MoveWork) → close_walks.RunsMove pid work (P Q) (P Q) (P R)
  deeds_moving work = record {
    locks = λ s e p. turns.locks (P Q) (no_turns Q) pid work.stream s p;
    waits_lock = λ s e p. runs.waits (ledger_of (locking.locks pid work.stream s)) work (turns.locks (P Q) (no_turns Q) pid work.stream s p);
    drops = λ s fd p. p;
    drops_held = λ s fd p. p;
    asks = λ s stream file kept p. runs.waits (ledger_of s) _ p;
    moved = λ s place p. runs.ends (ledger_of s) place None 1 p;
    lost = λ s p. runs.lost (ledger_of s) p;
  }

  pub runs_move : (state : MoveState) (work : MoveWork) (s : ClientFiles) → work.state ≡ state → Q (ledger_of s) → R (ledger_of (moving.runs_move_by state pid work s))
  runs_move move_states.WaitLock work s e p = close_walks.runs_move pid work (P Q) (P Q) (P R) (deeds_moving work) s p
  runs_move (move_states.MovingOut tx stays place) work s e p = runs.waits (ledger_of s) work p
