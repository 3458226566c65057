-- Behind each step of a client: what its name calls wait for was told to go out.
use Rattle.std.proofs.Common.{◌≡◌, ℕ, zero, suc, Bool, true, false, cond, List, [], ◌∷◌, ◌++◌, map, slice_get, Option, Some, option_map, refl, sym, ap, subst, append_assoc, append-nil}
use Rattle.std.proofs.lemmas.Bool.{eqb-true}
use Rattle.std.specs.List.{find}
use Rattle.sprite_ids.specs.declared.TxNo.{TxNo}
use Rattle.sprite_ids.proofs.ListLaws.{each_push, each_weaken, some_is}
use Rattle.packet_bodies.specs.declared.ReplyBody.TheVariants.{Redirect}
use Rattle.kernel_steps.specs.declared.Input.{Input}
use Rattle.kernel_steps.specs.declared.Input.TheVariants as inputs
use Rattle.kernel_steps.specs.Outs.{send_event}
use Rattle.kernel_steps.specs.Rows.{is_under}
use Rattle.unix_calls.specs.declared.About.{About}
use Rattle.unix_calls.specs.declared.Event.{Event}
use Rattle.unix_calls.specs.declared.Event.TheVariants as events
use Rattle.unix_calls.specs.declared.SendKind.{SendKind}
use Rattle.unix_calls.specs.declared.SendKind.TheVariants.{Broadcast, Other}
use Rattle.client_file_tables.specs.declared.pending.Pending.{Pending}
use Rattle.client_file_tables.specs.declared.pending.Pending.TheVariants as operations
use Rattle.client_file_tables.specs.declared.states.NameState.{NameState}
use Rattle.client_file_tables.specs.declared.states.NameState.TheVariants as states
use Rattle.client_file_tables.specs.Rows.{first_of, less_of, same_pid}
use Rattle.client_file_tables.specs.Says.{about_of}
use Rattle.client_procs.specs.Steps.{begins_step}
use Rattle.client_walks.proofs.Bearing.{Bears, Led, MayAsk, Root, Seen, is_plain, waiting_so}
use Rattle.client_walks.proofs.StepBearing.{whole_step}
use Rattle.client_walks.proofs.RowLaws.{each_less, got_before}
use Rattle.cause_entries.specs.Waits.{ClientsWaitSo, IsTold, OperationWent, Parts, RowsWent, WentOut}

-- ---- lists

-- something is in a list
pub record In {X : Type 0} (xs : List X) (x : X) : Type 0 where
  pub at : ℕ
  pub there : slice_get xs at ≡ Some x

got_behind : {X : Type 0} (xs ys : List X) (i : ℕ) (x : X) → slice_get ys i ≡ Some x → In (xs ++ ys) x
got_behind [] ys i x e = record { at = i; there = e }
got_behind (y ∷ xs) ys i x e = let behind = got_behind xs ys i x e in record { at = suc behind.at; there = behind.there }

got_mapped : {X Y : Type 0} (f : X → Y) (xs : List X) (i : ℕ) (x : X) → slice_get xs i ≡ Some x → slice_get (map f xs) i ≡ Some (f x)
got_mapped f [] i x e = absurd (cc)
got_mapped f (y ∷ xs) zero x e = ap (option_map f) e
got_mapped f (y ∷ xs) (suc i) x e = got_mapped f xs i x e

-- ---- what was told stays told

told_more : (told more : List Event) (event : Event) → IsTold told event → IsTold (told ++ more) event
told_more told more event h = record { at = h.at; there = got_before told more h.at event h.there }

-- a packet to one of the receivers was told
sent_told : (told : List Event) (tos : List ℕ) (tx : TxNo) (about : Option About) (kind : SendKind) (at to : ℕ) → slice_get tos at ≡ Some to → IsTold (told ++ map (send_event tx about kind) tos) (events.Send tx to about kind)
sent_told told tos tx about kind at to e =
    let behind = got_behind told (map (send_event tx about kind) tos) at (events.Send tx to about kind) (got_mapped (send_event tx about kind) tos at to e) in
    record { at = behind.at; there = behind.there }

module _ (may : Parts → Bool) where
  went_more : (state : NameState) (told more : List Event) (servers : List ℕ) (about : About) → WentOut may told servers about state → WentOut may (told ++ more) servers about state
  went_more (states.Broadcasting tx prefix) told more servers about h = (h.0, λ at to e. told_more told more _ (h.1 at to e))
  went_more (states.Echoing tx server) told more servers about h = told_more told more _ h
  went_more (states.Asking tx) told more servers about h = (h.0, told_more told more _ h.1)

  operation_more : (operation : Pending) (told more : List Event) (servers : List ℕ) (pid : ℕ) → OperationWent may told servers pid operation → OperationWent may (told ++ more) servers pid operation
  operation_more (operations.Name call) told more servers pid h = went_more call.state told more servers (about_of pid call.work.number) h
  operation_more (operations.Data call) told more servers pid h = tt
  operation_more (operations.Sync call) told more servers pid h = tt
  operation_more (operations.Close work) told more servers pid h = tt
  operation_more (operations.Move work) told more servers pid h = tt

  pub rows_more : (rows : List (ℕ × Pending)) (told more : List Event) (servers : List ℕ) → RowsWent may told servers rows → RowsWent may (told ++ more) servers rows
  rows_more rows told more servers h = each_weaken (λ (row : ℕ × Pending). OperationWent may told servers row.0 row.1) (λ (row : ℕ × Pending). OperationWent may (told ++ more) servers row.0 row.1) rows (λ row k. operation_more row.1 told more servers row.0 k) h

  -- ---- the operations

  plain_went : (operation : Pending) (told : List Event) (servers : List ℕ) (pid : ℕ) → is_plain operation ≡ true → OperationWent may told servers pid operation
  plain_went (operations.Name call) told servers pid e = absurd (cc)
  plain_went (operations.Data call) told servers pid e = tt
  plain_went (operations.Sync call) told servers pid e = tt
  plain_went (operations.Close work) told servers pid e = tt
  plain_went (operations.Move work) told servers pid e = tt

  -- what was found among the operations is so
  found_by : (b : Bool) (row : ℕ × Pending) (rest : Option (ℕ × Pending)) (told : List Event) (servers : List ℕ) (pid : ℕ) (operation : Pending) → same_pid row.0 pid ≡ b → OperationWent may told servers row.0 row.1
      → (option_map (λ (row : ℕ × Pending). row.1) rest ≡ Some operation → OperationWent may told servers pid operation)
      → option_map (λ (row : ℕ × Pending). row.1) (cond b (Some row) rest) ≡ Some operation → OperationWent may told servers pid operation
  found_by true row rest told servers pid operation is here later e =
      subst (OperationWent may told servers pid) (some_is row.1 operation e) (subst (λ (n : ℕ). OperationWent may told servers n row.1) (eqb-true row.0 pid is) here)
  found_by false row rest told servers pid operation is here later e = later e

  found_went : (rows : List (ℕ × Pending)) (told : List Event) (servers : List ℕ) (pid : ℕ) (operation : Pending) → RowsWent may told servers rows → first_of pid rows ≡ Some operation → OperationWent may told servers pid operation
  found_went [] told servers pid operation h e = absurd (cc)
  found_went (row ∷ rows) told servers pid operation h e =
      found_by (same_pid row.0 pid) row (find (is_under same_pid pid) rows) told servers pid operation refl h.0 (found_went rows told servers pid operation h.1) e

  kept_went : (rows : List (ℕ × Pending)) (told : List Event) (servers : List ℕ) (pid : ℕ) (operation : Pending) → OperationWent may told servers pid operation → RowsWent may told servers rows → RowsWent may told servers (rows ++ (pid, operation) ∷ [])
  kept_went rows told servers pid operation here h = each_push (λ (row : ℕ × Pending). OperationWent may told servers row.0 row.1) rows (pid, operation) h here

  left_went : (rows : List (ℕ × Pending)) (told : List Event) (servers : List ℕ) (pid : ℕ) → RowsWent may told servers rows → RowsWent may told servers (less_of pid rows)
  left_went rows told servers pid h = each_less (λ (row : ℕ × Pending). OperationWent may told servers row.0 row.1) (is_under same_pid pid) rows h

  -- ---- with what was told before the step

  abbrev Went : List Event → Seen → Type 0
  Went before seen = RowsWent may (before ++ seen.told) seen.servers seen.rows

  more_went : (before told more : List Event) (servers : List ℕ) (rows : List (ℕ × Pending)) → RowsWent may (before ++ told) servers rows → RowsWent may (before ++ (told ++ more)) servers rows
  more_went before told more servers rows h = subst (λ (es : List Event). RowsWent may es servers rows) (append_assoc before told more) (rows_more rows (before ++ told) more servers h)

  sent_more : (before told : List Event) (tos : List ℕ) (tx : TxNo) (about : Option About) (kind : SendKind) (at to : ℕ) → slice_get tos at ≡ Some to → IsTold (before ++ (told ++ map (send_event tx about kind) tos)) (events.Send tx to about kind)
  sent_more before told tos tx about kind at to e = subst (λ (es : List Event). IsTold es (events.Send tx to about kind)) (append_assoc before told _) (sent_told (before ++ told) tos tx about kind at to e)

  -- one more went out, and one waits for it
  waits_went : (before : List Event) (seen : Seen) (pid : ℕ) (operation : Pending) (more : List Event) → OperationWent may (before ++ (seen.told ++ more)) seen.servers pid operation → Went before seen → RowsWent may (before ++ (seen.told ++ more)) seen.servers (seen.rows ++ (pid, operation) ∷ [])
  waits_went before seen pid operation more here q = kept_went seen.rows (before ++ (seen.told ++ more)) seen.servers pid operation here (more_went before seen.told more seen.servers seen.rows q)

  going : (came : Input) (before : List Event) → ((prefix : Parts) → MayAsk came prefix → may prefix ≡ true) → Bears came (Went before)
  going came before asked = record {
    telling = record {
      tells = λ seen event h q. more_went before seen.told (event ∷ []) seen.servers seen.rows q;
      enters = λ seen entry cause q. more_went before seen.told (events.Enter entry ∷ []) seen.servers seen.rows q;
      says = λ seen sending kind h q. more_went before seen.told (map (send_event seen.next sending.about kind) sending.to) seen.servers seen.rows q;
      answers = λ seen tx body here q. q;
      keeps = λ seen pid operation plain q. kept_went seen.rows (before ++ seen.told) seen.servers pid operation (plain_went operation (before ++ seen.told) seen.servers pid plain) q;
      left = λ seen pid q. left_went seen.rows (before ++ seen.told) seen.servers pid q;
      puts_back = λ seen pid operation e q. kept_went (less_of pid seen.rows) (before ++ seen.told) seen.servers pid operation (found_went seen.rows (before ++ seen.told) seen.servers pid operation q e) (left_went seen.rows (before ++ seen.told) seen.servers pid q);
      broadcasts = λ seen pid work prefix ask e q.
          waits_went before seen pid (waiting_so work (states.Broadcasting seen.next prefix)) (map (send_event seen.next (Some (about_of pid work.number)) (Broadcast prefix)) seen.servers)
          (asked prefix ask, λ at to e. sent_more before seen.told seen.servers seen.next (Some (about_of pid work.number)) (Broadcast prefix) at to e) q;
      echoes = λ seen pid work server q.
          waits_went before seen pid (waiting_so work (states.Echoing seen.next server)) (map (send_event seen.next (Some (about_of pid work.number)) Other) (server ∷ []))
          (sent_more before seen.told (server ∷ []) seen.next (Some (about_of pid work.number)) Other 0 server refl) q;
      asks = λ seen pid work server q.
          waits_went before seen pid (waiting_so work (states.Asking seen.next)) (map (send_event seen.next (Some (about_of pid work.number)) Other) (server ∷ []))
          (server, sent_more before seen.told (server ∷ []) seen.next (Some (about_of pid work.number)) Other 0 server refl) q;
    };
    learns = λ seen prefix server e q. more_went before seen.told (events.Learned prefix server ∷ []) seen.servers seen.rows q;
  }

-- ---- a step

-- servers are asked only for prefixes for which they may be
pub asked_so : (may : Parts → Bool) (input : Input) → may [] ≡ true → ((tx : TxNo) (source : ℕ) (path : Parts) → input ≡ inputs.Replied tx source (Redirect path) → may path ≡ true) → (prefix : Parts) → MayAsk input prefix → may prefix ≡ true
asked_so may input root redirected prefix (Root e) = subst (λ (path : Parts). may path ≡ true) (sym e) root
asked_so may input root redirected prefix (Led tx source e) = redirected tx source prefix e

pub clients_wait : ClientsWaitSo
clients_wait may told s input next step safe root redirected h =
    whole_step input (Went may told) (going may input told (λ prefix ask. asked_so may input root redirected prefix ask)) (begins_step next step s) (subst (λ (es : List Event). RowsWent may es s.files.servers s.files.pending) (sym (append-nil told)) h)
