-- What keeps the facts of locks and turns: that a lock is taken, waited for, freed or handed over, and a turn is begun or left.
use Rattle.std.proofs.Common.{◌≡◌, ◌⊎◌, inl, inr, ℕ, ◌==◌, Bool, true, false, ◌&&◌, cond, List, [], ◌∷◌, ◌++◌, Option, Some, None, option_map, refl, sym, ap, ◌∙◌, subst}
use Rattle.std.proofs.lemmas.Bool.{eq-eqb, eqb-true}
use Rattle.std.specs.List.{AllByRecursion, find, list_any}
use Rattle.sprite_ids.specs.declared.StreamNo.{StreamNo}
use Rattle.sprite_ids.specs.Lists.{EachOnce, less}
use Rattle.sprite_ids.proofs.ListLaws.{each_push, each_weaken, some_is}
use Rattle.sprite_ids.proofs.OnceLaws.{or_false, pushed_once}
use Rattle.kernel_steps.specs.Rows.{is_row, is_under}
use Rattle.stream_table.specs.Entries.{Entry, has_lock, holder_of, locked, unlocked}
use Rattle.stream_table.specs.Owners.{is_number}
use Rattle.stream_table.proofs.EntryLaws.{one_number}
use Rattle.client_file_tables.specs.declared.pending.Pending.{Pending}
use Rattle.client_file_tables.specs.Rows.{first_stream, is_pid, less_of, less_stream, same_pid, same_stream}
use Rattle.client_facts.specs.FileFacts.{same_wait}
use Rattle.client_facts.proofs.CostLaws.{less_once, waits_same}
use Rattle.file_facts.proofs.BookLaws.{any_before, each_less, each_other, or_cases, or_left, or_right}
use Rattle.lock_facts.proofs.Boards.{Board, Fine, IsKeptOut, Locked, Off, Sound, Turning, has_turn}
use Rattle.lock_facts.proofs.HolderLaws.{KeepsHolders, freed_other, freed_own, got_locked, keeps_locked}

-- Where holders and turns stay

pub fine_more : (es more : List Entry) (fillers turns : List ℕ) → KeepsHolders es more → ((pid : ℕ) → has_turn pid fillers ≡ true → has_turn pid turns ≡ true) → (row : ℕ × Pending) → Fine es fillers row → Fine more turns row
fine_more es more fillers turns keeps stay row fine = record {
  lock = λ stream e. keeps stream row.0 (fine.lock stream e);
  turn = λ e. stay row.0 (fine.turn e);
}

out_by : (es more : List Entry) (stream : StreamNo) (pid : ℕ) (o : Option ℕ) → KeepsHolders es more → holder_of es stream ≡ o → has_lock pid o ≡ false → has_lock pid (holder_of more stream) ≡ false
out_by es more stream pid (Some holder) keeps e out = subst (λ (o : Option ℕ). has_lock pid o ≡ false) (sym (keeps stream holder e)) out
out_by es more stream pid None keeps e out = absurd (cc)

pub out_more : (es more : List Entry) → KeepsHolders es more → (row : StreamNo × ℕ) → IsKeptOut es row → IsKeptOut more row
out_more es more keeps row out = out_by es more row.0 row.1 (holder_of es row.0) keeps refl out

abbrev pub with_table : Board → List Entry → List ℕ → Board
with_table b entries fillers = record b { entries = entries; fillers = fillers }

pub sound_more : (b : Board) (more : List Entry) (turns : List ℕ) → KeepsHolders b.entries more → ((pid : ℕ) → has_turn pid b.fillers ≡ true → has_turn pid turns ≡ true) → Sound b → Sound (with_table b more turns)
sound_more b more turns keeps stay s = record {
  rows = each_weaken (Fine b.entries b.fillers) (Fine more turns) b.rows (fine_more b.entries more b.fillers turns keeps stay) s.rows;
  once = s.once;
  out = each_weaken (IsKeptOut b.entries) (IsKeptOut more) b.waits (out_more b.entries more keeps) s.out;
}

-- Operations

pub kept : (b : Board) (pid : ℕ) (operation : Pending) → Fine b.entries b.fillers (pid, operation) → Sound b → Sound (record b { rows = b.rows ++ (pid, operation) ∷ [] })
kept b pid operation fine s = record { rows = each_push (Fine b.entries b.fillers) b.rows (pid, operation) s.rows fine; once = s.once; out = s.out }

pub taken_out : (b : Board) (pid : ℕ) → Sound b → Sound (record b { rows = less_of pid b.rows })
taken_out b pid s = record { rows = each_less (Fine b.entries b.fillers) (is_under same_pid pid) b.rows s.rows; once = s.once; out = s.out }

-- Locks that are taken and waited for

pub locks : (b : Board) (pid : ℕ) (stream : StreamNo) → has_lock pid (holder_of b.entries stream) ≡ true → Off pid b → Locked pid stream (record b { entries = locked b.entries stream pid })
locks b pid stream gets off = record {
  off = record { sound = sound_more b (locked b.entries stream pid) b.fillers (keeps_locked b.entries stream pid) (λ other e. e) off.sound; none = off.none };
  lock = got_locked b.entries stream pid gets;
}

-- asking for a lock that another has
pub asked : (b : Board) (pid : ℕ) (stream : StreamNo) → Off pid b → Off pid (record b { entries = locked b.entries stream pid })
asked b pid stream off = record { sound = sound_more b (locked b.entries stream pid) b.fillers (keeps_locked b.entries stream pid) (λ other e. e) off.sound; none = off.none }

-- the wait for a lock, where it isn't there already
pub waits_more : (b : Board) (pid : ℕ) (stream : StreamNo) → has_lock pid (holder_of b.entries stream) ≡ false → list_any (is_row same_stream same_pid stream pid) b.waits ≡ false → Off pid b → Off pid (record b { waits = b.waits ++ (stream, pid) ∷ [] })
waits_more b pid stream kept_out new off = record {
  sound = record {
    rows = off.sound.rows;
    once = pushed_once same_wait waits_same (stream, pid) b.waits new off.sound.once;
    out = each_push (IsKeptOut b.entries) b.waits (stream, pid) off.sound.out kept_out;
  };
  none = off.none;
}

-- Locks that are freed or handed over

abbrev pub handed : Option ℕ → StreamNo → List Entry → List Entry
handed (Some pid) stream es = locked es stream pid
handed None stream es = es

keeps_handed : (o : Option ℕ) (stream : StreamNo) (es : List Entry) → KeepsHolders es (handed o stream es)
keeps_handed (Some pid) stream es = keeps_locked es stream pid
keeps_handed None stream es = λ m pid e. e

-- who holds another lock has it still
keeps_other : (o : Option ℕ) (es : List Entry) (stream m : StreamNo) (pid : ℕ) → is_number m stream ≡ false → holder_of es m ≡ Some pid → holder_of (handed o stream (unlocked es stream)) m ≡ Some pid
keeps_other o es stream m pid other e = keeps_handed o stream (unlocked es stream) m pid (freed_other es stream m other ∙ e)

-- the lock of another process is another one
apart_by : (es : List Entry) (stream m : StreamNo) (pid other : ℕ) (b : Bool) → is_number m stream ≡ b → holder_of es stream ≡ Some pid → holder_of es m ≡ Some other → (other == pid) ≡ false → b ≡ false
apart_by es stream m pid other true e mine theirs apart =
    absurd (let same : holder_of es m ≡ holder_of es stream = ap (holder_of es) (one_number m stream e) in
    let one = some_is other pid (sym theirs ∙ same ∙ mine) in
    let yes = eq-eqb other pid one in
    let both = sym yes ∙ apart in
    cc)
apart_by es stream m pid other false e mine theirs apart = refl

fine_freed : (o : Option ℕ) (es : List Entry) (fillers : List ℕ) (stream : StreamNo) (pid : ℕ) → holder_of es stream ≡ Some pid → (row : ℕ × Pending) → (row.0 == pid) ≡ false → Fine es fillers row → Fine (handed o stream (unlocked es stream)) fillers row
fine_freed o es fillers stream pid mine row apart fine = record {
  lock = λ m e. keeps_other o es stream m row.0 (apart_by es stream m pid row.0 (is_number m stream) refl mine (fine.lock m e) apart) (fine.lock m e);
  turn = fine.turn;
}

-- of the queue that is left, who waits for the lock is another than the one that gets it
abbrev IsBehind : Option ℕ → StreamNo → StreamNo × ℕ → Type 0
IsBehind (Some first) stream row = same_stream row.0 stream ≡ true → (row.1 == first) ≡ false
IsBehind None stream row = same_stream row.0 stream ≡ false

apart_waits : (row other : StreamNo × ℕ) (stream : StreamNo) (b : Bool) → (other.1 == row.1) ≡ b → same_stream row.0 stream ≡ true → same_stream other.0 stream ≡ true → is_row same_stream same_pid row.0 row.1 other ≡ false → b ≡ false
apart_waits row other stream false e here there none = refl
apart_waits row other stream true e here there none =
    absurd (let same : row.0 ≡ stream = sym (one_number stream row.0 here) in
    let both : same_stream other.0 row.0 ≡ true = subst (λ (n : StreamNo). same_stream other.0 n ≡ true) (sym same) there in
    let yes = ap (λ (c : Bool). c && (other.1 == row.1)) both ∙ e in
    let never = sym yes ∙ none in
    cc)

all_apart : (row : StreamNo × ℕ) (stream : StreamNo) (rows : List (StreamNo × ℕ)) → same_stream row.0 stream ≡ true → list_any (same_wait row) rows ≡ false → AllByRecursion (IsBehind (Some row.1) stream) rows
all_apart row stream [] here none = tt
all_apart row stream (other ∷ rows) here none =
    let parts = or_false (is_row same_stream same_pid row.0 row.1 other) (list_any (same_wait row) rows) none in
    (λ there. apart_waits row other stream (other.1 == row.1) refl here there parts.0, all_apart row stream rows here parts.1)

behind_other : (o : Option ℕ) (stream : StreamNo) (row : StreamNo × ℕ) → same_stream row.0 stream ≡ false → IsBehind o stream row
behind_other (Some first) stream row e = λ f. absurd (let both = sym f ∙ e in cc)
behind_other None stream row e = e

behind_by : (row : StreamNo × ℕ) (rows : List (StreamNo × ℕ)) (o : Option (StreamNo × ℕ)) (stream : StreamNo) (b : Bool) → same_stream row.0 stream ≡ b → list_any (same_wait row) rows ≡ false → AllByRecursion (IsBehind (option_map (λ (r : StreamNo × ℕ). r.1) o) stream) (less (is_under same_stream stream) rows)
    → AllByRecursion (IsBehind (option_map (λ (r : StreamNo × ℕ). r.1) (cond b (Some row) o)) stream) (cond b rows (row ∷ less (is_under same_stream stream) rows))
behind_by row rows o stream true e none later = all_apart row stream rows e none
behind_by row rows o stream false e none later = (behind_other (option_map (λ (r : StreamNo × ℕ). r.1) o) stream row e, later)

all_behind : (stream : StreamNo) (rows : List (StreamNo × ℕ)) → EachOnce same_wait rows → AllByRecursion (IsBehind (first_stream stream rows) stream) (less_stream stream rows)
all_behind stream [] once = tt
all_behind stream (row ∷ rows) once = behind_by row rows (find (is_under same_stream stream) rows) stream (same_stream row.0 stream) refl once.0 (all_behind stream rows once.1)

-- who waits for another lock waits on, and who waits for this one is kept out by the one that gets it
first_out : (first other : ℕ) (es : List Entry) (stream : StreamNo) → holder_of es stream ≡ None → (other == first) ≡ false → has_lock other (holder_of (locked es stream first) stream) ≡ false
first_out first other es stream free apart =
    let got : holder_of (locked es stream first) stream ≡ Some first = got_locked es stream first (ap (has_lock first) free) in
    subst (λ (o : Option ℕ). has_lock other o ≡ false) (sym got) (turned first other (first == other) refl apart)
  where
    turned : (first other : ℕ) (b : Bool) → (first == other) ≡ b → (other == first) ≡ false → b ≡ false
    turned first other false e apart = refl
    turned first other true e apart = absurd (let same = eqb-true first other e in let yes = eq-eqb other first (sym same) in let both = sym yes ∙ apart in cc)

out_freed_by : (o : Option ℕ) (es : List Entry) (stream : StreamNo) (row : StreamNo × ℕ) (b : Bool) → same_stream row.0 stream ≡ b → IsBehind o stream row → IsKeptOut es row → IsKeptOut (handed o stream (unlocked es stream)) row
out_freed_by (Some first) es stream row true e behind out =
    subst (λ (n : StreamNo). has_lock row.1 (holder_of (locked (unlocked es stream) stream first) n) ≡ false) (one_number stream row.0 e) (first_out first row.1 (unlocked es stream) stream (freed_own es stream) (behind e))
out_freed_by None es stream row true e behind out = absurd (let both = sym e ∙ behind in cc)
out_freed_by o es stream row false e behind out =
    out_more (unlocked es stream) (handed o stream (unlocked es stream)) (keeps_handed o stream (unlocked es stream)) row
    (subst (λ (holder : Option ℕ). has_lock row.1 holder ≡ false) (sym (freed_other es stream row.0 (number_other stream row.0 e))) out)
  where
    number_other : (n m : StreamNo) → same_stream m n ≡ false → is_number m n ≡ false
    number_other n m e = by_case (is_number m n) refl
      where
        by_case : (b : Bool) → is_number m n ≡ b → b ≡ false
        by_case false f = refl
        by_case true f = absurd (let same : m ≡ n = one_number m n f in let yes : same_stream m n ≡ is_number m n = ap (λ (k : StreamNo). same_stream k n) same ∙ sym (ap (λ (k : StreamNo). is_number k n) same) in let both = sym (yes ∙ f) ∙ e in cc)

out_freed : (o : Option ℕ) (es : List Entry) (stream : StreamNo) (rows : List (StreamNo × ℕ)) → AllByRecursion (IsBehind o stream) rows → AllByRecursion (IsKeptOut es) rows → AllByRecursion (IsKeptOut (handed o stream (unlocked es stream))) rows
out_freed o es stream [] behind out = tt
out_freed o es stream (row ∷ rows) behind out = (out_freed_by o es stream row (same_stream row.0 stream) refl behind.0 out.0, out_freed o es stream rows behind.1 out.1)

abbrev pub freed : Board → StreamNo → Board
freed b stream = record b { entries = handed (first_stream stream b.waits) stream (unlocked b.entries stream); waits = less_stream stream b.waits }

-- the lock that the process holds is freed, or handed over
pub frees : (b : Board) (pid : ℕ) (stream : StreamNo) → Locked pid stream b → Off pid (freed b stream)
frees b pid stream h =
    let first : Option ℕ = first_stream stream b.waits in
    record {
      sound = record {
        rows = each_other (Fine b.entries b.fillers) (Fine (handed first stream (unlocked b.entries stream)) b.fillers) pid b.rows (fine_freed first b.entries b.fillers stream pid h.lock) h.off.none h.off.sound.rows;
        once = less_once same_wait (is_under same_stream stream) b.waits h.off.sound.once;
        out = out_freed first b.entries stream (less_stream stream b.waits) (all_behind stream b.waits h.off.sound.once) (each_less (IsKeptOut b.entries) (is_under same_stream stream) b.waits h.off.sound.out);
      };
      none = h.off.none;
    }

-- Turns

-- a turn is begun
pub begins : (b : Board) (pid : ℕ) (stream : StreamNo) → Locked pid stream b → Turning pid stream (record b { fillers = b.fillers ++ pid ∷ [] })
begins b pid stream h = record {
  locked = record { off = record { sound = sound_more b b.entries (b.fillers ++ pid ∷ []) (λ m other e. e) (λ other e. any_before (is_pid other) b.fillers (pid ∷ []) e) h.off.sound; none = h.off.none }; lock = h.lock };
  turn = last_of b.fillers;
}
  where
    last_of : (xs : List ℕ) → has_turn pid (xs ++ pid ∷ []) ≡ true
    last_of [] = or_left (pid == pid) false (eq-eqb pid pid refl)
    last_of (x ∷ xs) = or_right (x == pid) (has_turn pid (xs ++ pid ∷ [])) (last_of xs)

still_by : (pid other first : ℕ) (rest : List ℕ) (b : Bool) → (first == pid) ≡ b → (other == pid) ≡ false → (has_turn other rest ≡ true → has_turn other (less (is_pid pid) rest) ≡ true) → (first == other) ≡ true ⊎ has_turn other rest ≡ true → has_turn other (cond b rest (first ∷ less (is_pid pid) rest)) ≡ true
still_by pid other first rest true e apart later (inl here) = absurd (let same = eqb-true first pid e in let is = eqb-true first other here in let yes = eq-eqb other pid (sym is ∙ same) in let both = sym yes ∙ apart in cc)
still_by pid other first rest true e apart later (inr there) = there
still_by pid other first rest false e apart later (inl here) = or_left (first == other) (has_turn other (less (is_pid pid) rest)) here
still_by pid other first rest false e apart later (inr there) = or_right (first == other) (has_turn other (less (is_pid pid) rest)) (later there)

-- the turns of others stay where one is left
still_turn : (pid other : ℕ) (fillers : List ℕ) → (other == pid) ≡ false → has_turn other fillers ≡ true → has_turn other (less (is_pid pid) fillers) ≡ true
still_turn pid other [] apart e = e
still_turn pid other (first ∷ rest) apart e = still_by pid other first rest (first == pid) refl apart (still_turn pid other rest apart) (or_cases (first == other) (has_turn other rest) e)

fine_left : (es : List Entry) (fillers : List ℕ) (pid : ℕ) (row : ℕ × Pending) → (row.0 == pid) ≡ false → Fine es fillers row → Fine es (less (is_pid pid) fillers) row
fine_left es fillers pid row apart fine = record { lock = fine.lock; turn = λ e. still_turn pid row.0 fillers apart (fine.turn e) }

-- its turn is left
pub leaves : (b : Board) (pid : ℕ) (stream : StreamNo) → Locked pid stream b → Locked pid stream (record b { fillers = less (is_pid pid) b.fillers })
leaves b pid stream h = record {
  off = record {
    sound = record {
      rows = each_other (Fine b.entries b.fillers) (Fine b.entries (less (is_pid pid) b.fillers)) pid b.rows (fine_left b.entries b.fillers pid) h.off.none h.off.sound.rows;
      once = h.off.sound.once;
      out = h.off.sound.out;
    };
    none = h.off.none;
  };
  lock = h.lock;
}
