-- Answers to remote calls of the files' side, and ends of them, keep the facts of these calls.
use Rattle.std.proofs.Common.{◌≡◌, ◌⊎◌, inl, inr, ℕ, ◌==◌, Bool, true, false, ◌||◌, not, cond, List, [], ◌∷◌, ◌++◌, Option, Some, None, refl, sym, ap, ◌∙◌, subst}
use Rattle.std.proofs.lemmas.Bool.{eq-eqb, eqb-true}
use Rattle.std.specs.List.{AllByRecursion}
use Rattle.sprite_ids.specs.declared.BlockNo.{BlockNo}
use Rattle.sprite_ids.specs.declared.FileId.{FileId}
use Rattle.sprite_ids.specs.declared.Grant.{Grant}
use Rattle.sprite_ids.specs.declared.TxNo.{TxNo}
use Rattle.sprite_ids.specs.Lists.{EachOnce}
use Rattle.sprite_ids.proofs.ListLaws.{each_weaken, some_is}
use Rattle.packet_bodies.specs.declared.ReplyBody.{ReplyBody}
use Rattle.packet_bodies.specs.declared.ReplyBody.TheVariants as bodies
use Rattle.block_cache.specs.Blocks.{dirty_at}
use Rattle.stream_table.specs.declared.Place.TheVariants.{Shared}
use Rattle.stream_table.specs.Entries.{may_be_at}
use Rattle.kernel_steps.specs.Rows.{is_under}
use Rattle.client_file_tables.specs.declared.client_files.ClientFiles.{ClientFiles}
use Rattle.client_file_tables.specs.declared.moves.CloseWork.{CloseWork}
use Rattle.client_file_tables.specs.declared.moves.MoveWork.{MoveWork}
use Rattle.client_file_tables.specs.declared.names.NameCall.{NameCall}
use Rattle.client_file_tables.specs.declared.pending.Pending.{Pending}
use Rattle.client_file_tables.specs.declared.pending.Pending.TheVariants as operations
use Rattle.client_file_tables.specs.declared.states.CloseState.{CloseState}
use Rattle.client_file_tables.specs.declared.states.CloseState.TheVariants as closes
use Rattle.client_file_tables.specs.declared.states.DataState.{DataState}
use Rattle.client_file_tables.specs.declared.states.DataState.TheVariants as states
use Rattle.client_file_tables.specs.declared.states.MoveState.{MoveState}
use Rattle.client_file_tables.specs.declared.states.MoveState.TheVariants as moves
use Rattle.client_file_tables.specs.declared.states.NameState.{NameState}
use Rattle.client_file_tables.specs.declared.states.NameState.TheVariants as names
use Rattle.client_file_tables.specs.declared.states.SyncState.{SyncState}
use Rattle.client_file_tables.specs.declared.states.SyncState.TheVariants as syncs
use Rattle.client_file_tables.specs.declared.works.DataCall.{DataCall}
use Rattle.client_file_tables.specs.declared.works.SyncCall.{SyncCall}
use Rattle.client_file_tables.specs.declared.works.WriteBackOut.{WriteBackOut}
use Rattle.client_file_tables.specs.Blocks.{state_in}
use Rattle.client_file_tables.specs.Locks.{unlocks}
use Rattle.client_file_tables.specs.Rows.{first_call, first_of, less_call, less_of, same_pid}
use Rattle.client_file_tables.specs.Steps as steps
use Rattle.client_file_tables.specs.Steps.{woken}
use Rattle.client_file_tables.specs.Streams.{stream_at}
use Rattle.client_data.specs.Replies as replied
use Rattle.client_data.specs.SyncAnswers as synced
use Rattle.client_data.specs.WriteBacks as written
use Rattle.client_names.specs.Answers as name_answers
use Rattle.client_streams.specs.Closing as closing
use Rattle.client_streams.specs.Moving as moving
use Rattle.client_files.specs.Answered as answering
use Rattle.client_facts.specs.FileFacts.{OneOperationEach, close_asks, data_asks, is_that_call, move_asks, name_asks, own_call, same_process, waited_write_back}
use Rattle.client_facts.proofs.CostLaws.{none_left}
use Rattle.client_facts.proofs.LockLaws as locks
use Rattle.file_walks.specs.Fits.{is_move_answer, is_op_answer, may_end, operation_of, takes_answer}
use Rattle.file_walks.proofs.CallWalks as call_walks
use Rattle.file_walks.proofs.CloseWalks as close_walks
use Rattle.file_walks.proofs.DataWalks as data_walks
use Rattle.file_walks.proofs.Muted as muted
use Rattle.file_walks.proofs.Muted.{Mute}
use Rattle.file_facts.specs.CallFacts.{is_sync}
use Rattle.file_facts.proofs.Books.{Book, Fine, Holds, Sound, book_of, has_call, is_back, is_woken}
use Rattle.file_facts.proofs.BookLaws as books
use Rattle.file_facts.proofs.BookLaws.{each_found, each_less, each_other, found_each}
use Rattle.file_facts.proofs.HeardLaws as heard_laws
use Rattle.file_facts.proofs.HeardLaws.{IsOther, IsWoken, all_woken, fine_heard, fine_written, held_first, kept_still, unheard}
use Rattle.file_facts.proofs.CallRuns.{call_runs}
use Rattle.file_facts.proofs.RunFacts.{close_runs, data_runs, kept_free, no_turns, on_if, put_back, started_free}

-- An answer to an operation's own call: its row is taken off, and the operation out

module _ (s : ClientFiles) (tx : TxNo) (pid : ℕ) (found : first_call tx s.txs ≡ Some pid) (once : OneOperationEach s) (p : Holds s) where
  abbrev left : ClientFiles
  left = record s { txs = less_call tx s.txs; pending = less_of pid s.pending }

  left_holds : Holds left
  left_holds =
      heard_laws.hears (book_of s) tx (less_of pid s.pending)
      (each_other (Fine (book_of s)) (Fine (book_of left)) pid (less_of pid s.pending) (λ row e fine. fine_heard (book_of s) tx pid (less_of pid s.pending) found row (λ t own. inl e) fine) (none_left pid s.pending once) (each_less (Fine (book_of s)) (is_under same_pid pid) s.pending p.rows)) p

  -- an operation whose own call is another one is put back
  back_again : (operation : Pending) → first_of pid s.pending ≡ Some operation → IsOther tx pid (pid, operation) → Holds (steps.keeps pid operation left)
  back_again operation e other =
      put_back left pid operation (fine_heard (book_of s) tx pid (less_of pid s.pending) found (pid, operation) other (found_each (Fine (book_of s)) pid s.pending operation p.rows e)) left_holds

  -- one that is done at the server and waits for another call goes on waiting
  data_stays : (b : Bool) (t : TxNo) (call : DataCall) (body : ReplyBody) → (t.0 == tx.0) ≡ b → call.state ≡ states.AtServer t → first_of pid s.pending ≡ Some (operations.Data call) → (not b || is_op_answer body) ≡ true → is_op_answer body ≡ false
      → Holds (steps.keeps pid (operations.Data call) left)
  data_stays true t call body is e o fits never = absurd (let both = sym fits ∙ never in cc)
  data_stays false t call body off e o fits never = back_again (operations.Data call) o (λ u own. inr (ap (λ (n : TxNo). n.0 == tx.0) (sym (some_is t u (sym (ap data_asks e) ∙ own))) ∙ off))

  data_heard : (state : DataState) (call : DataCall) (body : ReplyBody) → call.state ≡ state → first_of pid s.pending ≡ Some (operations.Data call) → takes_answer tx (Some (operations.Data call)) body ≡ true → Holds (replied.answered_in state pid call body left)
  data_heard (states.Fetching t block) call body e o fits = data_walks.fetched pid call Holds Holds Holds Holds Holds (data_runs pid call) block body left left_holds
  data_heard (states.AtServer t) call body e o fits =
      data_walks.served pid call Holds Holds Holds Holds Holds (data_runs pid call) body left left_holds left_holds
      (λ never. data_stays (t.0 == tx.0) t call body refl e o (subst (λ (state : DataState). takes_answer tx (Some (operations.Data (record call { state = state }))) body ≡ true) e fits) never)
  data_heard states.WaitLock call body e o fits = back_again (operations.Data call) o (λ t own. absurd (let none : own_call (operations.Data call) ≡ None = ap data_asks e in let both = sym none ∙ own in cc))
  data_heard states.Turn call body e o fits = back_again (operations.Data call) o (λ t own. absurd (let none : own_call (operations.Data call) ≡ None = ap data_asks e in let both = sym none ∙ own in cc))
  data_heard (states.Room other) call body e o fits = back_again (operations.Data call) o (λ t own. absurd (let none : own_call (operations.Data call) ≡ None = ap data_asks e in let both = sym none ∙ own in cc))

  -- a sync's own call is a write-back, which is out
  sync_other : is_back tx s.write_backs ≡ false → s.ready ≡ [] → (call : SyncCall) → first_of pid s.pending ≡ Some (operations.Sync call) → IsOther tx pid (pid, operations.Sync call)
  sync_other absent quiet call o t own = inr (by_test (t.0 == tx.0) refl (fine.out t (waits call.state own)))
    where
      fine : Fine (book_of s) (pid, operations.Sync call)
      fine = found_each (Fine (book_of s)) pid s.pending (operations.Sync call) p.rows o

      waits : (state : SyncState) → own_call (operations.Sync (record call { state = state })) ≡ Some t → waited_write_back (operations.Sync (record call { state = state })) ≡ Some t
      waits (syncs.WaitOwn other) e = e
      waits syncs.Looking e = absurd (cc)
      waits (syncs.WaitOther other) e = absurd (cc)

      by_test : (b : Bool) → (t.0 == tx.0) ≡ b → (is_back t s.write_backs ≡ true) ⊎ (is_woken pid s.ready ≡ true) → b ≡ false
      by_test false e out = refl
      by_test true e (inl out) = absurd (let same : is_back tx s.write_backs ≡ true = subst (λ (n : ℕ). is_back (record { 0 = n }) s.write_backs ≡ true) (eqb-true t.0 tx.0 e) out in let both = sym same ∙ absent in cc)
      by_test true e (inr awake) = absurd (let none : false ≡ true = subst (λ (ready : List ℕ). is_woken pid ready ≡ true) quiet awake in cc)

  close_heard : (state : CloseState) (work : CloseWork) → work.state ≡ state → Holds (closing.close_answers_by (closing.closed_at_server state) pid work left)
  close_heard closes.WaitLock work e = kept_free left pid (operations.Close work) (ap close_asks e, refl) left_holds
  close_heard (closes.Closing t stream) work e = close_walks.closes_on pid work.of Holds (λ number. Holds) Holds (close_runs pid work.of) work (unlocks stream left) refl (locks.unlocks Holds no_turns stream left left_holds)

  move_moved : (state : MoveState) (work : MoveWork) (grant : Option Grant) (many : ℕ) → work.state ≡ state → Holds (moving.move_answers_by (moving.moved_out state) pid work grant many left)
  move_moved moves.WaitLock work grant many e = kept_free left pid (operations.Move work) (ap move_asks e, refl) left_holds
  move_moved (moves.MovingOut t kept place) work grant many e =
      let shared : ClientFiles = moving.shares kept work.stream left in
      locks.unlocks Holds no_turns work.stream shared (on_if kept _ left (on_if (may_be_at Shared (stream_at work.stream left)) _ left left_holds left_holds) left_holds)

  -- one that waits for its answer takes it; one that waits for another call goes on waiting
  move_stays : (b : Bool) (t : TxNo) (work : MoveWork) (body : ReplyBody) → (t.0 == tx.0) ≡ b → move_asks work.state ≡ Some t → first_of pid s.pending ≡ Some (operations.Move work) → (not b || is_move_answer body) ≡ true → is_move_answer body ≡ false
      → Holds (steps.keeps pid (operations.Move work) left)
  move_stays true t work body is e o fits never = absurd (let both = sym fits ∙ never in cc)
  move_stays false t work body off e o fits never = back_again (operations.Move work) o (λ u own. inr (ap (λ (n : TxNo). n.0 == tx.0) (sym (some_is t u (sym e ∙ own))) ∙ off))

  move_waits : (state : MoveState) (work : MoveWork) (body : ReplyBody) → work.state ≡ state → is_move_answer body ≡ false → first_of pid s.pending ≡ Some (operations.Move work) → takes_answer tx (Some (operations.Move work)) body ≡ true → Holds (steps.keeps pid (operations.Move work) left)
  move_waits moves.WaitLock work body e never o fits = kept_free left pid (operations.Move work) (ap move_asks e, refl) left_holds
  move_waits (moves.MovingOut t kept place) work body e never o fits =
      move_stays (t.0 == tx.0) t work body refl (ap move_asks e) o (subst (λ (state : MoveState). takes_answer tx (Some (operations.Move (record work { state = state }))) body ≡ true) e fits) never

  move_heard : (body : ReplyBody) (work : MoveWork) → first_of pid s.pending ≡ Some (operations.Move work) → takes_answer tx (Some (operations.Move work)) body ≡ true → Holds (answering.answers_move pid work body left)
  move_heard (bodies.Moved grant many) work o fits = move_moved work.state work grant many refl
  move_heard body work o fits = move_waits work.state work body refl refl o fits

  heard_by : (o : Option Pending) (source : ℕ) (body : ReplyBody) → is_back tx s.write_backs ≡ false → s.ready ≡ [] → first_of pid s.pending ≡ o → takes_answer tx o body ≡ true → Holds (answering.answered_by o pid source body left)
  heard_by None source body absent quiet o fits = left_holds
  heard_by (Some (operations.Name call)) source body absent quiet o fits = call_walks.answers_name (λ (other : ℕ). Holds) Holds call_runs call.state pid call.work source body left left_holds
  heard_by (Some (operations.Data call)) source body absent quiet o fits = data_heard call.state call body refl o fits
  heard_by (Some (operations.Sync call)) source body absent quiet o fits = back_again (operations.Sync call) o (sync_other absent quiet call o)
  heard_by (Some (operations.Close work)) source body absent quiet o fits = close_heard work.state work refl
  heard_by (Some (operations.Move work)) source body absent quiet o fits = move_heard body work o fits

  -- a name call that waits for another one stays as it is
  abbrev passed : ClientFiles
  passed = record s { txs = less_call tx s.txs }

  waits_on : (state : NameState) (t : TxNo) → name_answers.is_for tx state ≡ false → name_asks state ≡ Some t → (t.0 == tx.0) ≡ false
  waits_on (names.Broadcasting own prefix) t never asks = (let same = ap (λ (n : TxNo). n.0 == tx.0) (some_is own t asks) in sym same ∙ never)
  waits_on (names.Echoing own server) t never asks = (let same = ap (λ (n : TxNo). n.0 == tx.0) (some_is own t asks) in sym same ∙ never)
  waits_on (names.Asking own) t never asks = (let same = ap (λ (n : TxNo). n.0 == tx.0) (some_is own t asks) in sym same ∙ never)

  passed_holds : (call : NameCall) → first_of pid s.pending ≡ Some (operations.Name call) → name_answers.is_for tx call.state ≡ false → Holds passed
  passed_holds call o never =
      heard_laws.hears (book_of s) tx s.pending
      (each_found (Fine (book_of s)) (Fine (book_of passed)) pid s.pending (operations.Name call) once o (fine_heard (book_of s) tx pid s.pending found (pid, operations.Name call) (λ t own. inr (waits_on call.state t never own)))
      (λ row e. fine_heard (book_of s) tx pid s.pending found row (λ t own. inl e)) p.rows) p

  taken_by : (o : Option Pending) (b : Bool) (u : ClientFiles) → first_of pid s.pending ≡ o → name_answers.takes_end tx o ≡ b → Holds u → Holds (cond b u passed)
  taken_by o true u e f q = q
  taken_by (Some (operations.Name call)) false u e f q = passed_holds call e f
  taken_by (Some (operations.Data call)) false u e f q = absurd (cc)
  taken_by (Some (operations.Sync call)) false u e f q = absurd (cc)
  taken_by (Some (operations.Close work)) false u e f q = absurd (cc)
  taken_by (Some (operations.Move work)) false u e f q = absurd (cc)
  taken_by None false u e f q = absurd (cc)

  heard_for : (source : ℕ) (body : ReplyBody) → is_back tx s.write_backs ≡ false → s.ready ≡ [] → takes_answer tx (first_of pid s.pending) body ≡ true → Holds (answering.answered_for tx pid source body passed)
  heard_for source body absent quiet fits =
      taken_by (first_of pid s.pending) (name_answers.takes_end tx (first_of pid s.pending)) (answering.answered_by (first_of pid s.pending) pid source body left) refl refl (heard_by (first_of pid s.pending) source body absent quiet refl fits)

  -- only name calls see theirs given up; one that waits for another call goes on waiting
  not_so : (b : Bool) → not b ≡ true → b ≡ false
  not_so true e = absurd (cc)
  not_so false e = refl

  ended_other : (operation : Pending) → not (is_that_call tx (own_call operation)) ≡ true → IsOther tx pid (pid, operation)
  ended_other operation may t own = inr (not_so (t.0 == tx.0) (subst (λ (o : Option TxNo). not (is_that_call tx o) ≡ true) own may))

  ended_by : (o : Option Pending) → first_of pid s.pending ≡ o → may_end tx o ≡ true → Holds (name_answers.gives_up_by pid o left)
  ended_by (Some (operations.Name call)) o may = left_holds
  ended_by (Some (operations.Data call)) o may = back_again (operations.Data call) o (ended_other (operations.Data call) may)
  ended_by (Some (operations.Sync call)) o may = back_again (operations.Sync call) o (ended_other (operations.Sync call) may)
  ended_by (Some (operations.Close work)) o may = back_again (operations.Close work) o (ended_other (operations.Close work) may)
  ended_by (Some (operations.Move work)) o may = back_again (operations.Move work) o (ended_other (operations.Move work) may)
  ended_by None o may = left_holds

  ended_for : may_end tx (first_of pid s.pending) ≡ true → Holds (name_answers.gives_up_on tx pid passed)
  ended_for may = taken_by (first_of pid s.pending) (name_answers.takes_end tx (first_of pid s.pending)) (name_answers.gives_up_by pid (first_of pid s.pending) left) refl refl (ended_by (first_of pid s.pending) refl may)

unheard_holds : (s : ClientFiles) (tx : TxNo) → first_call tx s.txs ≡ None → Holds s → Holds (record s { txs = less_call tx s.txs })
unheard_holds s tx none p = subst (λ (rows : List (TxNo × ℕ)). Holds (record s { txs = rows })) (sym (unheard tx s.txs none)) p

heard_first : (o : Option ℕ) (s : ClientFiles) (tx : TxNo) (source : ℕ) (body : ReplyBody) → first_call tx s.txs ≡ o → is_back tx s.write_backs ≡ false → s.ready ≡ [] → takes_answer tx (operation_of o s.pending) body ≡ true → OneOperationEach s → Holds s → Holds (answering.answered_first o tx source body (record s { txs = less_call tx s.txs }))
heard_first None s tx source body found absent quiet fits once p = unheard_holds s tx found p
heard_first (Some pid) s tx source body found absent quiet fits once p = heard_for s tx pid found once p source body absent quiet fits

ended_first : (o : Option ℕ) (s : ClientFiles) (tx : TxNo) → first_call tx s.txs ≡ o → may_end tx (operation_of o s.pending) ≡ true → OneOperationEach s → Holds s → Holds (name_answers.gives_up_first o tx (record s { txs = less_call tx s.txs }))
ended_first None s tx found may once p = unheard_holds s tx found p
ended_first (Some pid) s tx found may once p = ended_for s tx pid found once p may

-- a broadcast or a sign of life is given up
pub given_up : (s : ClientFiles) (tx : TxNo) → may_end tx (operation_of (first_call tx s.txs) s.pending) ≡ true → OneOperationEach s → Holds s → Holds (name_answers.gives_up tx s)
given_up s tx may once p = ended_first (first_call tx s.txs) s tx refl may once p

-- A write-back is answered

-- what is so while it is taken in: the facts were so while it was out
record Before (tx : TxNo) (backs : List (TxNo × WriteBackOut)) (b : Book) : Type 0 where
  sound : Sound (record b { backs = backs })
  less : b.backs ≡ less_call tx backs
  out : is_back tx backs ≡ true
  once : EachOnce same_process b.rows

mute_before : (tx : TxNo) (backs : List (TxNo × WriteBackOut)) → Mute (λ s. Before tx backs (book_of s))
mute_before tx backs = record {
  caches = λ s cache p. p;
  delays = λ s rows p. p;
  tells = λ s event p. p;
  answers = λ s other body p. p;
  learns = λ s domains p. p;
  cwds = λ s rows p. p;
  counts = λ s p. p;
}

module _ (s : ClientFiles) (tx : TxNo) (backs : List (TxNo × WriteBackOut)) (p : Before tx backs (book_of s)) where
  abbrev old : Book
  old = record (book_of s) { backs = backs }

  -- what was proved of the rows that are left, of the state
  settled : (rows : List (ℕ × Pending)) → AllByRecursion (Fine (heard_laws.written old tx rows)) rows → Holds (record s { pending = rows; txs = less_call tx s.txs; ready = s.ready ++ woken tx s.pending })
  settled rows all =
      subst (λ (out : List (TxNo × WriteBackOut)). Sound (record { rows = rows; asked = less_call tx s.txs; backs = out; ready = s.ready ++ woken tx s.pending; next = s.out.next })) (sym p.less) (heard_laws.writes old tx rows all p.sound)

  rows_both : AllByRecursion (λ (row : ℕ × Pending). IsWoken tx (woken tx s.pending) row × Fine old row) s.pending
  rows_both = both_of s.pending (all_woken tx s.pending) p.sound.rows
    where
      both_of : (rows : List (ℕ × Pending)) → AllByRecursion (IsWoken tx (woken tx s.pending)) rows → AllByRecursion (Fine old) rows → AllByRecursion (λ (row : ℕ × Pending). IsWoken tx (woken tx s.pending) row × Fine old row) rows
      both_of [] f g = tt
      both_of (row ∷ rows) f g = ((f.0, g.0), both_of rows f.1 g.1)

  -- no operation had kept the call
  unkept : first_call tx s.txs ≡ None → (row : ℕ × Pending) → IsWoken tx (woken tx s.pending) row × Fine old row → Fine (heard_laws.written old tx s.pending) row
  unkept none row both = fine_written old tx s.pending row both.0 own kept both.1
    where
      by_test : (b : Bool) (t : TxNo) → (t.0 == tx.0) ≡ b → own_call row.1 ≡ Some t → b ≡ false
      by_test false t e own = refl
      by_test true t e own = absurd (let first = held_first tx t row.0 s.txs p.sound.own_once e (both.1.kept t own) in let never = sym first ∙ none in cc)

      own : (t : TxNo) → own_call row.1 ≡ Some t → (t.0 == tx.0) ≡ false
      own t e = by_test (t.0 == tx.0) t refl e

      kept : (t : TxNo) → own_call row.1 ≡ Some t → has_call t row.0 (less_call tx s.txs) ≡ true
      kept t e = subst (λ (rows : List (TxNo × ℕ)). has_call t row.0 rows ≡ true) (sym (unheard tx s.txs none)) (both.1.kept t e)

  -- that of one had
  others : (pid : ℕ) (rows : List (ℕ × Pending)) → first_call tx s.txs ≡ Some pid → (row : ℕ × Pending) → (row.0 == pid) ≡ false → IsWoken tx (woken tx s.pending) row × Fine old row → Fine (heard_laws.written old tx rows) row
  others pid rows found row apart both = fine_written old tx rows row both.0 own (λ t e. kept_still tx t pid row.0 s.txs found (inl apart) (both.1.kept t e)) both.1
    where
      by_test : (b : Bool) (t : TxNo) → (t.0 == tx.0) ≡ b → own_call row.1 ≡ Some t → b ≡ false
      by_test false t e own = refl
      by_test true t e own =
          absurd (let first = held_first tx t row.0 s.txs p.sound.own_once e (both.1.kept t own) in
          let same = some_is pid row.0 (sym found ∙ first) in
          let yes = eq-eqb row.0 pid (sym same) in
          let never = sym yes ∙ apart in
          cc)

      own : (t : TxNo) → own_call row.1 ≡ Some t → (t.0 == tx.0) ≡ false
      own t e = by_test (t.0 == tx.0) t refl e

  abbrev taken : ℕ → ClientFiles
  taken pid = record s { pending = less_of pid s.pending; txs = less_call tx s.txs; ready = s.ready ++ woken tx s.pending }

  taken_holds : (pid : ℕ) → first_call tx s.txs ≡ Some pid → Holds (taken pid)
  taken_holds pid found =
      settled (less_of pid s.pending)
      (each_other (λ (row : ℕ × Pending). IsWoken tx (woken tx s.pending) row × Fine old row) (Fine (heard_laws.written old tx (less_of pid s.pending))) pid (less_of pid s.pending) (others pid (less_of pid s.pending) found) (none_left pid s.pending p.once)
      (each_less (λ (row : ℕ × Pending). IsWoken tx (woken tx s.pending) row × Fine old row) (is_under same_pid pid) s.pending rows_both))

  -- an operation that isn't a sync waits on
  waits_on_still : (pid : ℕ) (operation : Pending) → first_call tx s.txs ≡ Some pid → first_of pid s.pending ≡ Some operation → is_sync operation ≡ false → Holds (steps.keeps pid operation (taken pid))
  waits_on_still pid operation found o other = put_back (taken pid) pid operation fine (taken_holds pid found)
    where
      both : IsWoken tx (woken tx s.pending) (pid, operation) × Fine old (pid, operation)
      both = found_each (λ (row : ℕ × Pending). IsWoken tx (woken tx s.pending) row × Fine old row) pid s.pending operation rows_both o

      by_test : (b : Bool) (t : TxNo) → (t.0 == tx.0) ≡ b → own_call operation ≡ Some t → b ≡ false
      by_test false t e own = refl
      by_test true t e own = absurd (let none : is_back tx backs ≡ false = subst (λ (n : ℕ). is_back (record { 0 = n }) backs ≡ false) (eqb-true t.0 tx.0 e) (both.1.apart t own other) in let never = sym p.out ∙ none in cc)

      own : (t : TxNo) → own_call operation ≡ Some t → (t.0 == tx.0) ≡ false
      own t e = by_test (t.0 == tx.0) t refl e

      fine : Fine (book_of (taken pid)) (pid, operation)
      fine =
          subst (λ (out : List (TxNo × WriteBackOut)). Fine (record { rows = less_of pid s.pending; asked = less_call tx s.txs; backs = out; ready = s.ready ++ woken tx s.pending; next = s.out.next }) (pid, operation)) (sym p.less)
          (fine_written old tx (less_of pid s.pending) (pid, operation) both.0 own (λ t e. kept_still tx t pid pid s.txs found (inr (own t e)) (both.1.kept t e)) both.1)

  goes_on_by : (pid : ℕ) (operation : Pending) (body : ReplyBody) → first_call tx s.txs ≡ Some pid → first_of pid s.pending ≡ Some operation → Holds (synced.go_on_by pid operation body (taken pid))
  goes_on_by pid (operations.Sync call) body found o = started_sync body
    where
      started_sync : (body : ReplyBody) → Holds (steps.starts pid (operations.Sync (synced.after_answer call body)) (taken pid))
      started_sync (bodies.Again grant) = started_free (taken pid) pid (operations.Sync (synced.after_answer call (bodies.Again grant))) (refl, refl) (taken_holds pid found)
      started_sync body = started_free (taken pid) pid (operations.Sync (synced.after_answer call body)) (refl, refl) (taken_holds pid found)
  goes_on_by pid (operations.Name call) body found o = waits_on_still pid (operations.Name call) found o refl
  goes_on_by pid (operations.Data call) body found o = waits_on_still pid (operations.Data call) found o refl
  goes_on_by pid (operations.Close work) body found o = waits_on_still pid (operations.Close work) found o refl
  goes_on_by pid (operations.Move work) body found o = waits_on_still pid (operations.Move work) found o refl

  goes_on_first : (o : Option Pending) (pid : ℕ) (body : ReplyBody) → first_call tx s.txs ≡ Some pid → first_of pid s.pending ≡ o → Holds (synced.go_on_first pid o body (taken pid))
  goes_on_first None pid body found o = taken_holds pid found
  goes_on_first (Some operation) pid body found o = goes_on_by pid operation body found o

  sync_heard : (o : Option ℕ) (body : ReplyBody) → first_call tx s.txs ≡ o → Holds (synced.answers_by o body (record (steps.wakes_all tx s) { txs = less_call tx s.txs }))
  sync_heard None body none = settled s.pending (each_weaken (λ (row : ℕ × Pending). IsWoken tx (woken tx s.pending) row × Fine old row) (Fine (heard_laws.written old tx s.pending)) s.pending (unkept none) rows_both)
  sync_heard (Some pid) body found = goes_on_first (first_of pid s.pending) pid body found refl

done_first : (o : Option WriteBackOut) (s : ClientFiles) (tx : TxNo) (body : ReplyBody) → first_call tx s.write_backs ≡ o → is_back tx s.write_backs ≡ true → OneOperationEach s → Holds s → Holds (written.done_first tx body o (record s { write_backs = less_call tx s.write_backs }))
done_first None s tx body none out once p = subst (λ (rows : List (TxNo × WriteBackOut)). Holds (record s { write_backs = rows })) (sym (unheard tx s.write_backs none)) p
done_first (Some back) s tx body found out once p =
    let off : ClientFiles = record s { write_backs = less_call tx s.write_backs } in
    let start : Before tx s.write_backs (book_of off) = record { sound = p; less = refl; out = out; once = once } in
    let settled_one : ClientFiles = written.settles_back body back off in
    let again : ClientFiles = written.lists_again back.file back.block settled_one in
    let so : Before tx s.write_backs (book_of again) = muted.lists_again (λ u. Before tx s.write_backs (book_of u)) (mute_before tx s.write_backs) (dirty_at settled_one.cache.blocks back.file back.block.0) back.file back.block settled_one (muted.settles_back (λ u. Before tx s.write_backs (book_of u)) (mute_before tx s.write_backs) body back off start) in
    sync_heard again tx s.write_backs so (first_call tx again.txs) body refl

heard_if : (b : Bool) (s : ClientFiles) (tx : TxNo) (source : ℕ) (body : ReplyBody) → is_back tx s.write_backs ≡ b → s.ready ≡ [] → takes_answer tx (operation_of (first_call tx s.txs) s.pending) body ≡ true → OneOperationEach s → Holds s → Holds (cond b (written.written_back tx body s) (answering.answered_first (first_call tx s.txs) tx source body (record s { txs = less_call tx s.txs })))
heard_if true s tx source body out quiet fits once p = done_first (first_call tx s.write_backs) s tx body refl out once p
heard_if false s tx source body out quiet fits once p = heard_first (first_call tx s.txs) s tx source body refl out quiet fits once p

-- an answer comes that the operation takes, where nobody is woken
pub answered : (s : ClientFiles) (tx : TxNo) (source : ℕ) (body : ReplyBody) → s.ready ≡ [] → takes_answer tx (operation_of (first_call tx s.txs) s.pending) body ≡ true → OneOperationEach s → Holds s → Holds (answering.answered tx source body s)
answered s tx source body quiet fits once p = heard_if (is_back tx s.write_backs) s tx source body refl quiet fits once p

-- Blocks that are due

due_by : (o : Option ℕ) (file : FileId) (block : BlockNo) (s : ClientFiles) → Holds s → Holds (written.due_by o file block s)
due_by (Some number) file block s p = books.sends_back (book_of s) (record { file = file; block = block; stamp = (state_in file s).stamp; number = number }) p
due_by None file block s p = p

-- a block that is due goes
pub due_goes : (file : FileId) (block : BlockNo) (s : ClientFiles) → Holds s → Holds (written.due_goes file block s)
due_goes file block s p = due_by (dirty_at s.cache.blocks file block.0) file block s p
