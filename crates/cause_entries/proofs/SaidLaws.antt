-- Behind each step of a client: each event that a remote call went out for which a name call waits tells for whose sake, and for what.
use Rattle.std.proofs.Common.{arith, ◌≡◌, ℕ, ◌+◌, ◌<◌, ◌≤◌, Bool, true, false, cond, List, [], ◌∷◌, ◌++◌, map, Option, Some, option_map, refl, sym, subst, append_assoc, append-nil}
use Rattle.std.proofs.lemmas.Bool.{eqb-true}
use Rattle.std.specs.List.{AllByRecursion, find}
use Rattle.sprite_ids.specs.declared.TxNo.{TxNo}
use Rattle.sprite_ids.specs.Lists.{less}
use Rattle.sprite_ids.proofs.ListLaws.{each_append, each_push, each_weaken, some_is}
use Rattle.kernel_steps.specs.declared.Input.{Input}
use Rattle.kernel_steps.specs.Outs.{send_event}
use Rattle.kernel_steps.specs.Rows.{is_under}
use Rattle.unix_calls.specs.declared.About.{About}
use Rattle.unix_calls.specs.declared.Event.{Event}
use Rattle.unix_calls.specs.declared.Event.TheVariants as events
use Rattle.unix_calls.specs.declared.SendKind.{SendKind}
use Rattle.client_file_tables.specs.declared.names.NameWork.{NameWork}
use Rattle.client_file_tables.specs.declared.pending.Pending.{Pending}
use Rattle.client_file_tables.specs.declared.pending.Pending.TheVariants as operations
use Rattle.client_file_tables.specs.declared.states.NameState.{NameState}
use Rattle.client_file_tables.specs.declared.states.NameState.TheVariants as states
use Rattle.client_file_tables.specs.Rows.{first_of, less_of, same_pid}
use Rattle.client_file_tables.specs.Says.{about_of}
use Rattle.client_procs.specs.Steps.{begins_step}
use Rattle.client_walks.proofs.Bearing.{Bears, MayAsk, Seen, is_plain, waiting_so}
use Rattle.client_walks.proofs.StepBearing.{whole_step}
use Rattle.client_walks.proofs.RowLaws.{each_less}
use Rattle.cause_entries.specs.Sayings.{AreBelow, ClientsSaySo, IsBelow, IsFor, IsSaid, OperationSaid, RowsSaid, SaysSo, awaited, kind_of, may_ask}
use Rattle.cause_entries.specs.Waits.{Parts}
use Rattle.cause_entries.proofs.CauseLaws.{is_loud, quiet_not_loud}
use Rattle.cause_entries.proofs.WaitLaws.{asked_so}

-- ---- events

pub below_more : (next now : ℕ) (event : Event) → next ≤ now → IsBelow next event → IsBelow now event
below_more next now (events.Send tx to about kind) more h = omega arith
below_more next now (events.Enter entry) more h = tt
below_more next now event more h = tt

all_below : (told : List Event) (next now : ℕ) → next ≤ now → AreBelow next told → AreBelow now told
all_below told next now more h = each_weaken (IsBelow next) (IsBelow now) told (λ event k. below_more next now event more k) h

-- what isn't loud is no sending
quiet_below : (next : ℕ) (event : Event) → is_loud event ≡ false → IsBelow next event
quiet_below next (events.Send tx to about kind) h = absurd (cc)
quiet_below next event h = tt

quiet_for : (number : ℕ) (about : About) (kind : SendKind) (event : Event) → is_loud event ≡ false → IsFor number about kind event
quiet_for number about kind (events.Send tx to whose what) h = absurd (cc)
quiet_for number about kind event h = tt

-- a sending below a number isn't that of the number
below_for : (number : ℕ) (about : About) (kind : SendKind) (event : Event) → IsBelow number event → IsFor number about kind event
below_for number about kind (events.Send tx to whose what) h = λ e. absurd (omega (arith, h, e))
below_for number about kind (events.Enter entry) h = tt
below_for number about kind event h = tt

-- one more remote call
sent_below : (tos : List ℕ) (tx : TxNo) (about : Option About) (kind : SendKind) → AreBelow (tx.0 + 1) (map (send_event tx about kind) tos)
sent_below [] tx about kind = tt
sent_below (to ∷ tos) tx about kind = (omega arith, sent_below tos tx about kind)

sent_other : (tos : List ℕ) (tx : TxNo) (whose : Option About) (what : SendKind) (number : ℕ) (about : About) (kind : SendKind) → number < tx.0 → AllByRecursion (IsFor number about kind) (map (send_event tx whose what) tos)
sent_other [] tx whose what number about kind less = tt
sent_other (to ∷ tos) tx whose what number about kind less = (λ e. absurd (omega (arith, less, e)), sent_other tos tx whose what number about kind less)

sent_own : (tos : List ℕ) (tx : TxNo) (about : About) (kind : SendKind) → AllByRecursion (IsFor tx.0 about kind) (map (send_event tx (Some about) kind) tos)
sent_own [] tx about kind = tt
sent_own (to ∷ tos) tx about kind = (λ e. (refl, refl), sent_own tos tx about kind)

-- ---- operations

module _ (may : Parts → Bool) where
  said_more : (told more : List Event) (next now : ℕ) (about : About) (state : NameState) → next ≤ now → ((number : ℕ) (kind : SendKind) → number < next → AllByRecursion (IsFor number about kind) more) → IsSaid may told next about state → IsSaid may (told ++ more) now about state
  said_more told more next now about state less others h = record {
    below = (let b = h.below in omega arith);
    each = each_append (IsFor (awaited state) about (kind_of state)) told more h.each (others (awaited state) (kind_of state) h.below);
    may = h.may;
  }

  operation_more : (operation : Pending) (told more : List Event) (next now pid : ℕ) → next ≤ now → ((number : ℕ) (about : About) (kind : SendKind) → number < next → AllByRecursion (IsFor number about kind) more) → OperationSaid may told next pid operation → OperationSaid may (told ++ more) now pid operation
  operation_more (operations.Name call) told more next now pid less others h = said_more told more next now (about_of pid call.work.number) call.state less (λ number kind k. others number (about_of pid call.work.number) kind k) h
  operation_more (operations.Data call) told more next now pid less others h = tt
  operation_more (operations.Sync call) told more next now pid less others h = tt
  operation_more (operations.Close work) told more next now pid less others h = tt
  operation_more (operations.Move work) told more next now pid less others h = tt

  pub rows_more : (rows : List (ℕ × Pending)) (told more : List Event) (next now : ℕ) → next ≤ now → ((number : ℕ) (about : About) (kind : SendKind) → number < next → AllByRecursion (IsFor number about kind) more) → RowsSaid may told next rows → RowsSaid may (told ++ more) now rows
  rows_more rows told more next now less others h = each_weaken (λ (row : ℕ × Pending). OperationSaid may told next row.0 row.1) (λ (row : ℕ × Pending). OperationSaid may (told ++ more) now row.0 row.1) rows (λ row k. operation_more row.1 told more next now row.0 less others k) h

  plain_said : (operation : Pending) (told : List Event) (next pid : ℕ) → is_plain operation ≡ true → OperationSaid may told next pid operation
  plain_said (operations.Name call) told next pid e = absurd (cc)
  plain_said (operations.Data call) told next pid e = tt
  plain_said (operations.Sync call) told next pid e = tt
  plain_said (operations.Close work) told next pid e = tt
  plain_said (operations.Move work) told next pid e = tt

  found_by : (b : Bool) (row : ℕ × Pending) (rest : Option (ℕ × Pending)) (told : List Event) (next pid : ℕ) (operation : Pending) → same_pid row.0 pid ≡ b → OperationSaid may told next row.0 row.1
      → (option_map (λ (row : ℕ × Pending). row.1) rest ≡ Some operation → OperationSaid may told next pid operation)
      → option_map (λ (row : ℕ × Pending). row.1) (cond b (Some row) rest) ≡ Some operation → OperationSaid may told next pid operation
  found_by true row rest told next pid operation is here later e =
      subst (OperationSaid may told next pid) (some_is row.1 operation e) (subst (λ (n : ℕ). OperationSaid may told next n row.1) (eqb-true row.0 pid is) here)
  found_by false row rest told next pid operation is here later e = later e

  pub found_said : (rows : List (ℕ × Pending)) (told : List Event) (next pid : ℕ) (operation : Pending) → RowsSaid may told next rows → first_of pid rows ≡ Some operation → OperationSaid may told next pid operation
  found_said [] told next pid operation h e = absurd (cc)
  found_said (row ∷ rows) told next pid operation h e =
      found_by (same_pid row.0 pid) row (find (is_under same_pid pid) rows) told next pid operation refl h.0 (found_said rows told next pid operation h.1) e

  kept_said : (rows : List (ℕ × Pending)) (told : List Event) (next pid : ℕ) (operation : Pending) → OperationSaid may told next pid operation → RowsSaid may told next rows → RowsSaid may told next (rows ++ (pid, operation) ∷ [])
  kept_said rows told next pid operation here h = each_push (λ (row : ℕ × Pending). OperationSaid may told next row.0 row.1) rows (pid, operation) h here

  left_said : (rows : List (ℕ × Pending)) (told : List Event) (next pid : ℕ) → RowsSaid may told next rows → RowsSaid may told next (less_of pid rows)
  left_said rows told next pid h = each_less (λ (row : ℕ × Pending). OperationSaid may told next row.0 row.1) (is_under same_pid pid) rows h

  -- ---- with what was told before the step

  abbrev Said : List Event → Seen → Type 0
  Said before seen = SaysSo may (before ++ seen.told) seen.next.0 seen.rows

  -- one event more, of which nothing depends
  one_said : (before told : List Event) (event : Event) (next : TxNo) (rows : List (ℕ × Pending)) → IsBelow next.0 event → ((number : ℕ) (about : About) (kind : SendKind) → IsFor number about kind event) → SaysSo may (before ++ told) next.0 rows → SaysSo may (before ++ (told ++ event ∷ [])) next.0 rows
  one_said before told event next rows below others q = subst (λ (es : List Event). SaysSo may es next.0 rows) (append_assoc before told (event ∷ [])) (record {
    told_below = each_push (IsBelow next.0) (before ++ told) event q.told_below below;
    rows_said = rows_more rows (before ++ told) (event ∷ []) next.0 next.0 (omega arith) (λ number about kind less. (others number about kind, tt)) q.rows_said;
  })

  sent_said : (before told : List Event) (tos : List ℕ) (next : TxNo) (about : Option About) (kind : SendKind) (rows : List (ℕ × Pending)) → SaysSo may (before ++ told) next.0 rows → SaysSo may (before ++ (told ++ map (send_event next about kind) tos)) (next.0 + 1) rows
  sent_said before told tos next about kind rows q = subst (λ (es : List Event). SaysSo may es (next.0 + 1) rows) (append_assoc before told (map (send_event next about kind) tos)) (record {
    told_below = each_append (IsBelow (next.0 + 1)) (before ++ told) (map (send_event next about kind) tos) (all_below (before ++ told) next.0 (next.0 + 1) (omega arith) q.told_below) (sent_below tos next about kind);
    rows_said = rows_more rows (before ++ told) (map (send_event next about kind) tos) next.0 (next.0 + 1) (omega arith) (λ number whose what less. sent_other tos next about kind number whose what less) q.rows_said;
  })

  -- the new name call's own sendings
  own_said : (before told : List Event) (tos : List ℕ) (next : TxNo) (about : About) (state : NameState) (rows : List (ℕ × Pending)) → awaited state ≡ next.0 → may_ask may state ≡ true → SaysSo may (before ++ told) next.0 rows → IsSaid may (before ++ (told ++ map (send_event next (Some about) (kind_of state)) tos)) (next.0 + 1) about state
  own_said before told tos next about state rows is asked q = subst (λ (es : List Event). IsSaid may es (next.0 + 1) about state) (append_assoc before told (map (send_event next (Some about) (kind_of state)) tos)) (record {
    below = omega (arith, is);
    each = subst (λ (n : ℕ). AllByRecursion (IsFor n about (kind_of state)) ((before ++ told) ++ map (send_event next (Some about) (kind_of state)) tos)) (sym is)
        (each_append (IsFor next.0 about (kind_of state)) (before ++ told) (map (send_event next (Some about) (kind_of state)) tos) (each_weaken (IsBelow next.0) (IsFor next.0 about (kind_of state)) (before ++ told) (λ event k. below_for next.0 about (kind_of state) event k) q.told_below) (sent_own tos next about (kind_of state)));
    may = asked;
  })

  waits_said : (before told : List Event) (tos : List ℕ) (next : TxNo) (pid : ℕ) (work : NameWork) (state : NameState) (rows : List (ℕ × Pending)) → awaited state ≡ next.0 → may_ask may state ≡ true → SaysSo may (before ++ told) next.0 rows
      → SaysSo may (before ++ (told ++ map (send_event next (Some (about_of pid work.number)) (kind_of state)) tos)) (next.0 + 1) (rows ++ (pid, waiting_so work state) ∷ [])
  waits_said before told tos next pid work state rows is asked q =
      let sent = sent_said before told tos next (Some (about_of pid work.number)) (kind_of state) rows q in
      record {
        told_below = sent.told_below;
        rows_said = kept_said rows (before ++ (told ++ map (send_event next (Some (about_of pid work.number)) (kind_of state)) tos)) (next.0 + 1) pid (waiting_so work state) (own_said before told tos next (about_of pid work.number) state rows is asked q) sent.rows_said;
      }

  saying : (came : Input) (before : List Event) → ((prefix : Parts) → MayAsk came prefix → may prefix ≡ true) → Bears came (Said before)
  saying came before asked = record {
    telling = record {
      tells = λ seen event h q. let quiet = quiet_not_loud event h in one_said before seen.told event seen.next seen.rows (quiet_below seen.next.0 event quiet) (λ number about kind. quiet_for number about kind event quiet) q;
      enters = λ seen entry cause q. one_said before seen.told (events.Enter entry) seen.next seen.rows tt (λ number about kind. tt) q;
      says = λ seen sending kind h q. sent_said before seen.told sending.to seen.next sending.about kind seen.rows q;
      answers = λ seen tx body here q. record { told_below = q.told_below; rows_said = q.rows_said };
      keeps = λ seen pid operation plain q. record { told_below = q.told_below; rows_said = kept_said seen.rows (before ++ seen.told) seen.next.0 pid operation (plain_said operation (before ++ seen.told) seen.next.0 pid plain) q.rows_said };
      left = λ seen pid q. record { told_below = q.told_below; rows_said = left_said seen.rows (before ++ seen.told) seen.next.0 pid q.rows_said };
      puts_back = λ seen pid operation e q. record {
        told_below = q.told_below;
        rows_said = kept_said (less_of pid seen.rows) (before ++ seen.told) seen.next.0 pid operation (found_said seen.rows (before ++ seen.told) seen.next.0 pid operation q.rows_said e) (left_said seen.rows (before ++ seen.told) seen.next.0 pid q.rows_said);
      };
      broadcasts = λ seen pid work prefix ask e q. waits_said before seen.told seen.servers seen.next pid work (states.Broadcasting seen.next prefix) seen.rows refl (asked prefix ask) q;
      echoes = λ seen pid work server q. waits_said before seen.told (server ∷ []) seen.next pid work (states.Echoing seen.next server) seen.rows refl refl q;
      asks = λ seen pid work server q. waits_said before seen.told (server ∷ []) seen.next pid work (states.Asking seen.next) seen.rows refl refl q;
    };
    learns = λ seen prefix server e q. one_said before seen.told (events.Learned prefix server) seen.next seen.rows tt (λ number about kind. tt) q;
  }

-- ---- a step

-- an event that isn't loud, one more
pub quiet_said : (may : Parts → Bool) (before told : List Event) (event : Event) (next : TxNo) (rows : List (ℕ × Pending)) → is_loud event ≡ false → SaysSo may (before ++ told) next.0 rows → SaysSo may (before ++ (told ++ event ∷ [])) next.0 rows
quiet_said may before told event next rows quiet q = one_said may before told event next rows (quiet_below next.0 event quiet) (λ number about kind. quiet_for number about kind event quiet) q

pub clients_say : ClientsSaySo
clients_say may told s input next step safe root redirected h =
    whole_step input (Said may told) (saying may input told (λ prefix ask. asked_so may input root redirected prefix ask)) (begins_step next step s) (subst (λ (es : List Event). SaysSo may es next.0 s.files.pending) (sym (append-nil told)) h)
