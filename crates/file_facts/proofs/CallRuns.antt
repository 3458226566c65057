-- Calls of the files' side at their issue, and answers to name calls, keep the facts of remote calls.
use Rattle.std.proofs.Common.{ℕ, refl}
use Rattle.client_file_tables.specs.declared.pending.Pending.TheVariants as operations
use Rattle.client_file_tables.specs.declared.states.NameState.TheVariants as names
use Rattle.file_walks.proofs.CallWalks.{RunsCall}
use Rattle.file_facts.proofs.Books.{Holds, book_of}
use Rattle.file_facts.proofs.RunFacts.{asks_for, free_begun, mute, on_if, started_free}

pub call_runs : (pid : ℕ) → RunsCall pid Holds Holds
call_runs pid = record {
  quiet = mute;
  adds = λ s number stream p. on_if _ _ s p p;
  dups = λ s fd p. p;
  begins = λ s operation begins leads p. started_free s pid operation (free_begun operation begins) p;
  echoes = λ s work server p. asks_for (book_of s) pid (operations.Name (record { work = work; state = names.Echoing s.out.next server })) refl refl p;
  broadcasts = λ s work prefix p. asks_for (book_of s) pid (operations.Name (record { work = work; state = names.Broadcasting s.out.next prefix })) refl refl p;
  asks = λ s work server p. asks_for (book_of s) pid (operations.Name (record { work = work; state = names.Asking s.out.next })) refl refl p;
  ends = λ s reply p. p;
  lost = λ s p. p;
}
