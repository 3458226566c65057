-- What changes no operation and puts nobody twice into a queue or a turn; and what takes an operation that was taken out and may keep one.
use Rattle.std.proofs.Common.{◌≡◌, ℕ, nat_le, Bool, true, false, cond, List, [], ◌∷◌, ◌++◌, length, Option, Some, None, refl, sym, ap, ◌∙◌, subst, append-nil}
use Rattle.std.specs.List.{list_all, list_any}
use Rattle.sprite_ids.specs.declared.BlockNo.{BlockNo}
use Rattle.sprite_ids.specs.declared.CallKind.{CallKind}
use Rattle.sprite_ids.specs.declared.CallKind.TheVariants.{Recall, Stop}
use Rattle.sprite_ids.specs.declared.FileId.{FileId}
use Rattle.sprite_ids.specs.declared.Grant.{Grant}
use Rattle.sprite_ids.specs.declared.StreamNo.{StreamNo}
use Rattle.sprite_ids.specs.declared.TxNo.{TxNo}
use Rattle.sprite_ids.specs.Lists.{EachOnce}
use Rattle.packet_bodies.specs.declared.CallbackRequest.{CallbackRequest}
use Rattle.unix_calls.specs.declared.DropCause.{DropCause}
use Rattle.unix_calls.specs.declared.Event.TheVariants.{Mode}
use Rattle.block_cache.specs.Files.{keeps as stays_at}
use Rattle.block_cache.specs.Held.{after_grant, is_newer}
use Rattle.stream_table.specs.declared.Place.{Place}
use Rattle.stream_table.specs.Entries.{may_be_at}
use Rattle.kernel_steps.specs.Rows.{is_under}
use Rattle.client_file_tables.specs.declared.client_files.ClientFiles.{ClientFiles}
use Rattle.client_file_tables.specs.declared.moves.ClosingOf.{ClosingOf}
use Rattle.client_file_tables.specs.declared.pending.Pending.{Pending}
use Rattle.client_file_tables.specs.declared.pending.Pending.TheVariants as operations
use Rattle.client_file_tables.specs.Blocks.{state_in, with_cache}
use Rattle.client_file_tables.specs.Rows.{is_pid, less_of, same_pid}
use Rattle.client_file_tables.specs.Says.{notes}
use Rattle.client_file_tables.specs.Steps.{keeps, starts}
use Rattle.client_file_tables.specs.Streams.{moves_place, stream_at}
use Rattle.client_data.specs.Grants as grants
use Rattle.client_streams.specs.Closing.{closes_rest, closing}
use Rattle.client_facts.specs.FileFacts.{QueuesAreOnce, TurnsAreOnce, same_process, same_wait}
use Rattle.client_facts.specs.GoingOn.{GoesOn, few_fds, has_few_fds}
use Rattle.client_facts.proofs.CalmLaws.{Calm}
use Rattle.client_facts.proofs.CostLaws.{Ends, Ran, few_of, less_once, none_left, once_kept, row_of}
use Rattle.client_facts.proofs.RowLaws.{all_kept, all_less}
use Rattle.client_facts.proofs.StreamLaws.{calm_ends_closing}

pub record Steady (s t : ClientFiles) : Type 0 where
  pub pending : t.pending ≡ s.pending
  pub queues : QueuesAreOnce s → QueuesAreOnce t
  pub turns : TurnsAreOnce s → TurnsAreOnce t

pub steady_self : (s : ClientFiles) → Steady s s
steady_self s = record { pending = refl; queues = λ q. q; turns = λ q. q }

pub steady_join : (s t u : ClientFiles) → Steady s t → Steady t u → Steady s u
steady_join s t u h k = record { pending = k.pending ∙ h.pending; queues = λ q. k.queues (h.queues q); turns = λ q. k.turns (h.turns q) }

pub steady_if : (b : Bool) (s t u : ClientFiles) → Steady s t → Steady s u → Steady s (cond b t u)
steady_if true s t u h k = h
steady_if false s t u h k = k

pub steady_calm : (s t : ClientFiles) → Calm s t → Steady s t
steady_calm s t h = record { pending = h.pending; queues = h.queues; turns = λ q. subst (EachOnce is_pid) (sym h.fillers) q }

pub steady_ends : (pid many : ℕ) (s t : ClientFiles) → Ends pid many s t → Steady s t
steady_ends pid many s t h = record { pending = h.pending; queues = h.queues; turns = h.turns }

-- an operation, which was taken out, is kept or has ended
pub record Runs (pid : ℕ) (s t : ClientFiles) : Type 0 where
  pub kept : Option Pending
  pub pending : t.pending ≡ s.pending ++ row_of pid kept
  pub few : few_of kept ≡ true
  pub queues : QueuesAreOnce s → QueuesAreOnce t
  pub turns : TurnsAreOnce s → TurnsAreOnce t

pub runs_ran : (pid : ℕ) (operation : Pending) (s t : ClientFiles) → few_fds operation ≡ true → Ran pid operation s t → Runs pid s t
runs_ran pid operation s t few r = record { kept = r.kept; pending = r.pending; few = r.few few; queues = r.queues; turns = r.turns }

pub runs_after : (pid : ℕ) (s t u : ClientFiles) → Steady s t → Runs pid t u → Runs pid s u
runs_after pid s t u h r = record {
  kept = r.kept;
  pending = r.pending ∙ ap (λ (rows : List (ℕ × Pending)). rows ++ row_of pid r.kept) h.pending;
  few = r.few;
  queues = λ q. r.queues (h.queues q);
  turns = λ q. r.turns (h.turns q);
}

pub runs_steady : (pid : ℕ) (s t : ClientFiles) → Steady s t → Runs pid s t
runs_steady pid s t h = record { kept = None; pending = h.pending ∙ sym (append-nil s.pending); few = refl; queues = h.queues; turns = h.turns }

pub runs_kept : (pid : ℕ) (operation : Pending) (s u : ClientFiles) → few_fds operation ≡ true → Steady s u → Runs pid s (keeps pid operation u)
runs_kept pid operation s u few h = record {
  kept = Some operation;
  pending = ap (λ (rows : List (ℕ × Pending)). rows ++ (pid, operation) ∷ []) h.pending;
  few = few;
  queues = h.queues;
  turns = h.turns;
}

pub runs_started : (pid : ℕ) (operation : Pending) (s u : ClientFiles) → few_fds operation ≡ true → Steady s u → Runs pid s (starts pid operation u)
runs_started pid operation s u few h = record {
  kept = Some operation;
  pending = ap (λ (rows : List (ℕ × Pending)). rows ++ (pid, operation) ∷ []) h.pending;
  few = few;
  queues = h.queues;
  turns = h.turns;
}

pub runs_if : (b : Bool) (pid : ℕ) (s t u : ClientFiles) → Runs pid s t → Runs pid s u → Runs pid s (cond b t u)
runs_if true pid s t u h k = h
runs_if false pid s t u h k = k

-- What is kept

pub goes_steady : (s t : ClientFiles) → Steady s t → GoesOn s → GoesOn t
goes_steady s t h g = record {
  may = record {
    one_each = subst (λ (rows : List (ℕ × Pending)). EachOnce same_process rows) (sym h.pending) g.may.one_each;
    turns = h.turns g.may.turns;
    short = subst (λ (rows : List (ℕ × Pending)). list_all has_few_fds rows ≡ true) (sym h.pending) g.may.short;
  };
  queues = h.queues g.queues;
}

pub goes_runs : (pid : ℕ) (s t : ClientFiles) → Runs pid s t → list_any (is_under same_pid pid) s.pending ≡ false → GoesOn s → GoesOn t
goes_runs pid s t r none g = record {
  may = record {
    one_each = subst (λ (rows : List (ℕ × Pending)). EachOnce same_process rows) (sym r.pending) (once_kept pid r.kept s.pending none g.may.one_each);
    turns = r.turns g.may.turns;
    short = subst (λ (rows : List (ℕ × Pending)). list_all has_few_fds rows ≡ true) (sym r.pending) (all_kept pid r.kept s.pending g.may.short r.few);
  };
  queues = r.queues g.queues;
}

pub goes_taken : (pid : ℕ) (s : ClientFiles) → GoesOn s → GoesOn (record s { pending = less_of pid s.pending })
goes_taken pid s g = record {
  may = record {
    one_each = less_once _ _ s.pending g.may.one_each;
    turns = g.may.turns;
    short = all_less has_few_fds (is_under same_pid pid) s.pending g.may.short;
  };
  queues = g.queues;
}

pub none_taken : (pid : ℕ) (s : ClientFiles) → GoesOn s → list_any (is_under same_pid pid) (less_of pid s.pending) ≡ false
none_taken pid s g = none_left pid s.pending g.may.one_each

-- Grants and callbacks

plain : (s t : ClientFiles) → t.pending ≡ s.pending → t.lock_waits ≡ s.lock_waits → t.fillers ≡ s.fillers → Steady s t
plain s t pending waits fillers = record {
  pending = pending;
  queues = λ q. subst (λ (rows : List (StreamNo × ℕ)). EachOnce same_wait rows) (sym waits) q;
  turns = λ q. subst (EachOnce is_pid) (sym fillers) q;
}

steady_cleans_all : (file : FileId) (blocks : List BlockNo) (s : ClientFiles) → Steady s (grants.cleans_all file blocks s)
steady_cleans_all file [] s = steady_self s
steady_cleans_all file (block ∷ blocks) s =
    let cleaned : ClientFiles = grants.cleans_one file block s in
    steady_join s cleaned _ (plain s cleaned refl refl refl) (steady_cleans_all file blocks cleaned)

steady_drops_all : (file : FileId) (blocks : List BlockNo) (cause : DropCause) (s : ClientFiles) → Steady s (grants.drops_all file blocks cause s)
steady_drops_all file [] cause s = steady_self s
steady_drops_all file (block ∷ blocks) cause s =
    let dropped : ClientFiles = grants.drops_one file block cause s in
    steady_join s dropped _ (plain s dropped refl refl refl) (steady_drops_all file blocks cause dropped)

steady_granted : (stay : Bool) (file : FileId) (blocks : List BlockNo) (cause : DropCause) (s t : ClientFiles) → Steady s t → Steady s (grants.drops_unless stay file blocks cause t)
steady_granted true file blocks cause s t h = h
steady_granted false file blocks cause s t h = steady_join s t _ h (steady_drops_all file blocks cause t)

steady_takes_usable : (grant : Grant) (s : ClientFiles) → Steady s (grants.takes_usable grant s)
steady_takes_usable grant s =
    let newer : ClientFiles = with_cache (after_grant s.cache grant) s in
    let noted : ClientFiles = notes (Mode grant.file grant.stamp (grants.mode_of_grant grant.on)) newer in
    steady_if (is_newer s.cache grant) s _ _ (steady_granted (stays_at (state_in grant.file s) grant) grant.file (grants.held_in grant.file s) (grants.cause_of_grant grant.on) s noted (plain s noted refl refl refl)) (steady_self s)

pub steady_takes_grant : (grant : Grant) (s : ClientFiles) → Steady s (grants.takes_grant grant s)
steady_takes_grant grant s = steady_takes_usable (grants.usable s.cache grant) s

steady_settles_called : (kind : CallKind) (file : FileId) (dirty blocks : List BlockNo) (s : ClientFiles) → Steady s (grants.settles_called kind file dirty blocks s)
steady_settles_called Recall file dirty blocks s = steady_cleans_all file dirty s
steady_settles_called Stop file dirty blocks s = steady_drops_all file blocks _ s

pub steady_called_back : (tx : TxNo) (r : CallbackRequest) (s : ClientFiles) → Steady s (grants.called_back tx r s)
steady_called_back tx r s =
    let noted : ClientFiles = grants.notes_mode r.file r.stamp (grants.takes_callback r s) in
    let settled : ClientFiles = grants.settles_called r.kind r.file (grants.dirty_in r.file s) (grants.held_in r.file s) noted in
    steady_join s noted _ (plain s noted refl refl refl) (steady_join noted settled _ (steady_settles_called r.kind r.file (grants.dirty_in r.file s) (grants.held_in r.file s) noted) (plain settled _ refl refl refl))

-- the other fields are no matter
pub steady_same : (s t : ClientFiles) → t.pending ≡ s.pending → t.lock_waits ≡ s.lock_waits → t.fillers ≡ s.fillers → Steady s t
steady_same s t pending waits fillers = plain s t pending waits fillers

pub steady_moves_place : (stream : StreamNo) (place : Place) (s : ClientFiles) → Steady s (moves_place stream place s)
steady_moves_place stream place s = steady_if (may_be_at place (stream_at stream s)) s _ _ (plain s _ refl refl refl) (steady_self s)

-- a close that goes on, after what is steady
pub runs_closes_rest : (fds : List ℕ) (pid : ℕ) (cause : ClosingOf) (s u : ClientFiles) → nat_le (length fds) 16 ≡ true → Steady s u → Runs pid s (closes_rest fds pid cause u)
runs_closes_rest [] pid cause s u few h = runs_steady pid s _ (steady_join s u _ h (steady_calm u _ (calm_ends_closing cause pid u)))
runs_closes_rest (fd ∷ fds) pid cause s u few h = runs_started pid (operations.Close (closing cause (fd ∷ fds))) s u few h
