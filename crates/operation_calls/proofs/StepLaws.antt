-- Steps of a client's kernel, for any fact of the remote calls of its files' side; and what these ask behind a step.
use Rattle.std.proofs.Common.{arith, ◌≡◌, inl, ℕ, List, [], Some, refl, ap}
use Rattle.sprite_ids.specs.declared.TxNo.{TxNo}
use Rattle.kernel_steps.specs.declared.Input.{Input}
use Rattle.kernel_steps.specs.declared.Sending.{Sending}
use Rattle.packet_bodies.specs.declared.ReplyBody.{ReplyBody}
use Rattle.std.specs.List.{AllByRecursion}
use Rattle.sprite_ids.proofs.ListLaws.{each_weaken}
use Rattle.client_file_tables.specs.declared.client_files.ClientFiles.{ClientFiles}
use Rattle.client_file_tables.specs.declared.pending.Pending.{Pending}
use Rattle.client_file_tables.specs.declared.pending.Pending.TheVariants as operations
use Rattle.client_file_tables.specs.declared.works.WriteBackOut.{WriteBackOut}
use Rattle.client_file_tables.specs.Closes as file_closes
use Rattle.client_homes.specs.declared.client.ClientProcs.{ClientProcs}
use Rattle.client_procs.specs.Answered as hearing
use Rattle.client_procs.specs.Steps as stepping
use Rattle.client_procs.specs.Steps.{client_step}
use Rattle.client_procs.specs.Turning as turning
use Rattle.client_facts.specs.FileFacts.{move_asks, own_call}
use Rattle.client_walks.proofs.Deeds.{Always, Hand, KeepsTurns, KeepsWithin, nothing}
use Rattle.client_walks.proofs.SideBearing.{BearsSide, all_apart}
use Rattle.client_walks.proofs.WalkLaws.{heard_own, rounds_keep, within_keeps}
use Rattle.file_walks.proofs.CallWalks as call_walks
use Rattle.file_walks.proofs.Muted as muted
use Rattle.operation_calls.proofs.Asked as asked
use Rattle.operation_calls.proofs.Books.{Bears, Book, book_of}
use Rattle.operation_calls.proofs.AnswerLaws as answers
use Rattle.operation_calls.proofs.RunLaws as runs

module _ (P : Book → Type 0) (Row : List Sending → ℕ × Pending → Type 0) (bears : Bears P Row) (came : Input) where
  abbrev Holds : ClientFiles → Type 0
  Holds s = P (book_of s)

  abbrev Knows : ClientProcs → Hand → Type 0
  Knows s h = Holds s.files

  side : BearsSide came Holds
  side = record {
    tells = λ s event e p. p;
    enters = λ s entry cause p. p;
    sends = λ s sending p. bears.says sending (book_of s) p;
    answers = λ s tx body e p. p;
    gives = λ s pid reply p. p;
    closes = λ s pid about p. runs.kept_free P Row bears s pid (operations.Close (file_closes.ends_by about (file_closes.fds_of pid s))) refl p;
    moves = λ s pid work e p. runs.kept_free P Row bears s pid (operations.Move work) (ap move_asks e) p;
    has_cwd = λ s pid path p. runs.on_if P Row bears _ _ _ p p;
    drops_cwd = λ s pid p. p;
    forks = λ s parent child p. p;
    takes_report = λ s rest p. p;
    takes_reply = λ s rest p. p;
    issues = λ s about call device e p. call_walks.issues (λ (pid : ℕ). Holds) Holds (runs.call_runs P Row bears) about call device s p;
    called_back = λ s tx request p. muted.called_back Holds (runs.mute P Row bears) tx request s p;
    due_goes = λ s file block p. answers.due_goes P Row bears file block s p;
    arrives = λ s pid cwd streams items p. muted.arrives Holds (runs.mute P Row bears) (λ t given q. q) pid cwd streams items s p;
  }

  turns : KeepsTurns came Always Knows
  turns = record {
    answered = λ s h tx source body e owned u p. answers.answered P Row bears tx source body s.files p;
    gives_up = λ s h tx e u p. answers.given_up P Row bears tx s.files p;
    goes_on = λ s h e u p. runs.goes_on P Row bears s.files p;
  }

  keeps : KeepsWithin came Always Knows
  keeps = record { apart = all_apart came (λ own. Holds) (λ own. side) (λ own other files p. p); turns = turns }

  -- all that a step does, and its rounds alone
  pub goes : (s : ClientProcs) → Holds s.files → Holds (turning.goes_on (stepping.takes came s)).files
  goes s p = within_keeps Knows came keeps nothing s p

  pub rounds : (s : ClientProcs) → Holds s.files → Holds (turning.goes_on s).files
  rounds s p = rounds_keep Knows came keeps nothing s p

  -- an answer to a remote call of the processes' side
  pub heard : (tx : TxNo) (body : ReplyBody) (s : ClientProcs) → Holds s.files → Holds (hearing.hears_own tx body s).files
  heard tx body s p = heard_own Knows came keeps nothing tx body s p

-- behind a step that begins with operations that asked so, each of them asked so, or is one of those that the step begins
pub record Behind (Old : TxNo → ℕ × Pending → Type 0) (OldBack : TxNo × WriteBackOut → Type 0) (s : ClientProcs) (input : Input) (next : TxNo) (step : ℕ) : Type 0 where
  pub asks : asked.Sound Old OldBack next.0 (record {
    rows = (client_step s input next step).0.files.pending;
    asked = (client_step s input next step).0.files.txs;
    backs = (client_step s input next step).0.files.write_backs;
    next = (client_step s input next step).1.next;
    sends = (client_step s input next step).1.sends;
  })

pub step_asks : (Old : TxNo → ℕ × Pending → Type 0) (OldBack : TxNo × WriteBackOut → Type 0) (s : ClientProcs) (input : Input) (next : TxNo) (step : ℕ)
    → AllByRecursion (λ (row : ℕ × Pending). (tx : TxNo) → own_call row.1 ≡ Some tx → Old tx row) s.files.pending → AllByRecursion OldBack s.files.write_backs → Behind Old OldBack s input next step
step_asks Old OldBack s input next step rows backs = record {
  asks = goes (asked.Sound Old OldBack next.0) (asked.RowSo Old OldBack next.0) (asked.sound_bears Old OldBack next.0) input (stepping.begins_step next step s) (record {
    numbered = omega arith;
    rows = each_weaken (λ (row : ℕ × Pending). (tx : TxNo) → own_call row.1 ≡ Some tx → Old tx row) (asked.RowSo Old OldBack next.0 []) s.files.pending (λ row so tx own. inl (so tx own)) rows;
    backs = each_weaken OldBack (asked.BackSo Old OldBack next.0 []) s.files.write_backs (λ row so. inl so) backs;
  });
}
