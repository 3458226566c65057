-- What is said of remote calls stays so behind faults and other events, and where the next number is a greater one.
use Rattle.std.proofs.Common.{arith, ◌≡◌, ℕ, ◌≤◌, Bool, true, false, not, cond, List, [], ◌∷◌, ◌++◌, refl, sym, ap, ◌∙◌}
use Rattle.std.specs.List.{AllByRecursion}
use Rattle.sprite_ids.proofs.ListLaws.{each_append, each_weaken}
use Rattle.unix_calls.specs.declared.About.{About}
use Rattle.unix_calls.specs.declared.Entry.{Entry}
use Rattle.unix_calls.specs.declared.Event.{Event}
use Rattle.unix_calls.specs.declared.Event.TheVariants as events
use Rattle.unix_calls.specs.declared.SendKind.{SendKind}
use Rattle.client_file_tables.specs.declared.NameState.{NameState}
use Rattle.client_file_tables.specs.declared.Pending.{Pending}
use Rattle.client_file_tables.specs.declared.Pending.TheVariants as operations
use Rattle.client_file_tables.specs.Says.{about_of}
use Rattle.cluster_wire.specs.Noted.{is_fault, without_faults}
use Rattle.cause_entries.specs.Causes.{is_unreachable_event, unreachable_by, unreachable_in}
use Rattle.cause_entries.specs.Sayings.{IsBelow, IsFor, IsSaid, OperationSaid, RowsSaid, SaysSo, awaited, kind_of}
use Rattle.cause_entries.specs.Waits.{Parts}
use Rattle.cause_entries.proofs.CauseLaws.{none_by}
use Rattle.cause_entries.proofs.SaidLaws.{below_more}

-- ---- lists

each_left : (P : Event → Type 0) (xs ys : List Event) → AllByRecursion P (xs ++ ys) → AllByRecursion P xs
each_left P [] ys h = tt
each_left P (x ∷ xs) ys h = (h.0, each_left P xs ys h.1)

each_right : (P : Event → Type 0) (xs ys : List Event) → AllByRecursion P (xs ++ ys) → AllByRecursion P ys
each_right P [] ys h = h
each_right P (x ∷ xs) ys h = each_right P xs ys h.1

less_by : (b : Bool) (P : Event → Type 0) (event : Event) (rest : List Event) → P event → AllByRecursion P rest → AllByRecursion P (cond b (event ∷ rest) rest)
less_by true P event rest here h = (here, h)
less_by false P event rest here h = h

each_without : (P : Event → Type 0) (told : List Event) → AllByRecursion P told → AllByRecursion P (without_faults told)
each_without P [] h = tt
each_without P (event ∷ told) h = less_by (not (is_fault event)) P event (without_faults told) h.0 (each_without P told h.1)

more_by : (b : Bool) (P : Event → Type 0) (event : Event) (rest all : List Event) → is_fault event ≡ b → (is_fault event ≡ true → P event) → (AllByRecursion P rest → AllByRecursion P all) → AllByRecursion P (cond (not b) (event ∷ rest) rest) → AllByRecursion P (event ∷ all)
more_by true P event rest all is faults more h = (faults is, more h)
more_by false P event rest all is faults more h = (h.0, more h.1)

each_with : (P : Event → Type 0) (told : List Event) → ((event : Event) → is_fault event ≡ true → P event) → AllByRecursion P (without_faults told) → AllByRecursion P told
each_with P [] faults h = tt
each_with P (event ∷ told) faults h = more_by (is_fault event) P event (without_faults told) told refl (faults event) (each_with P told faults) h

with_faults : (P : Event → Type 0) (before told : List Event) → ((event : Event) → is_fault event ≡ true → P event) → AllByRecursion P (before ++ without_faults told) → AllByRecursion P (before ++ told)
with_faults P before told faults h = each_append P before told (each_left P before (without_faults told) h) (each_with P told faults (each_right P before (without_faults told) h))

no_faults : (P : Event → Type 0) (before told : List Event) → AllByRecursion P (before ++ told) → AllByRecursion P (before ++ without_faults told)
no_faults P before told h = each_append P before (without_faults told) (each_left P before told h) (each_without P told (each_right P before told h))

-- ---- faults tell of no sending

fault_below : (next : ℕ) (event : Event) → is_fault event ≡ true → IsBelow next event
fault_below next (events.Send tx to about kind) h = absurd (cc)
fault_below next event h = tt

fault_for : (number : ℕ) (about : About) (kind : SendKind) (event : Event) → is_fault event ≡ true → IsFor number about kind event
fault_for number about kind (events.Send tx to whose what) h = absurd (cc)
fault_for number about kind event h = tt

-- ---- operations

module _ (asks : Parts → Bool) where
  said_by : (xs ys : List Event) (next now : ℕ) (about : About) (state : NameState) → next ≤ now → ((number : ℕ) (kind : SendKind) → AllByRecursion (IsFor number about kind) xs → AllByRecursion (IsFor number about kind) ys) → IsSaid asks xs next about state → IsSaid asks ys now about state
  said_by xs ys next now about state less each h = record { below = (let b = h.below in omega arith); each = each (awaited state) (kind_of state) h.each; may = h.may }

  operation_by : (operation : Pending) (xs ys : List Event) (next now pid : ℕ) → next ≤ now → ((number : ℕ) (about : About) (kind : SendKind) → AllByRecursion (IsFor number about kind) xs → AllByRecursion (IsFor number about kind) ys) → OperationSaid asks xs next pid operation → OperationSaid asks ys now pid operation
  operation_by (operations.Name call) xs ys next now pid less each h = said_by xs ys next now (about_of pid call.work.number) call.state less (λ number kind. each number (about_of pid call.work.number) kind) h
  operation_by (operations.Data call) xs ys next now pid less each h = tt
  operation_by (operations.Sync call) xs ys next now pid less each h = tt
  operation_by (operations.Close work) xs ys next now pid less each h = tt
  operation_by (operations.Move work) xs ys next now pid less each h = tt

  rows_by : (rows : List (ℕ × Pending)) (xs ys : List Event) (next now : ℕ) → next ≤ now → ((number : ℕ) (about : About) (kind : SendKind) → AllByRecursion (IsFor number about kind) xs → AllByRecursion (IsFor number about kind) ys) → RowsSaid asks xs next rows → RowsSaid asks ys now rows
  rows_by rows xs ys next now less each h = each_weaken (λ (row : ℕ × Pending). OperationSaid asks xs next row.0 row.1) (λ (row : ℕ × Pending). OperationSaid asks ys now row.0 row.1) rows (λ row k. operation_by row.1 xs ys next now row.0 less each k) h

  pub says_later : (told : List Event) (next now : ℕ) (rows : List (ℕ × Pending)) → next ≤ now → SaysSo asks told next rows → SaysSo asks told now rows
  says_later told next now rows less h = record {
    told_below = each_weaken (IsBelow next) (IsBelow now) told (λ event k. below_more next now event less k) h.told_below;
    rows_said = rows_by rows told told next now less (λ number about kind k. k) h.rows_said;
  }

  pub says_without : (before told : List Event) (next : ℕ) (rows : List (ℕ × Pending)) → SaysSo asks (before ++ told) next rows → SaysSo asks (before ++ without_faults told) next rows
  says_without before told next rows h = record {
    told_below = no_faults (IsBelow next) before told h.told_below;
    rows_said = rows_by rows (before ++ told) (before ++ without_faults told) next next (omega arith) (λ number about kind k. no_faults (IsFor number about kind) before told k) h.rows_said;
  }

  pub says_with : (before told : List Event) (next : ℕ) (rows : List (ℕ × Pending)) → SaysSo asks (before ++ without_faults told) next rows → SaysSo asks (before ++ told) next rows
  says_with before told next rows h = record {
    told_below = with_faults (IsBelow next) before told (fault_below next) h.told_below;
    rows_said = rows_by rows (before ++ without_faults told) (before ++ told) next next (omega arith) (λ number about kind k. with_faults (IsFor number about kind) before told (fault_for number about kind) k) h.rows_said;
  }

-- ---- and call no server unreachable

fault_quiet : (event : Event) → is_fault event ≡ true → is_unreachable_event event ≡ false
fault_quiet (events.Enter entry) h = absurd (cc)
fault_quiet event h = refl

none_with : (b : Bool) (event : Event) (rest : List Event) → is_fault event ≡ b → unreachable_in (without_faults rest) ≡ unreachable_in rest → unreachable_in (cond (not b) (event ∷ without_faults rest) (without_faults rest)) ≡ unreachable_by event ++ unreachable_in rest
none_with true event rest is h = h ∙ ap (λ (es : List Entry). es ++ unreachable_in rest) (sym (none_by event (fault_quiet event is)))
none_with false event rest is h = ap (λ (es : List Entry). unreachable_by event ++ es) h

pub unreachable_without : (told : List Event) → unreachable_in (without_faults told) ≡ unreachable_in told
unreachable_without [] = refl
unreachable_without (event ∷ rest) = none_with (is_fault event) event rest refl (unreachable_without rest)
