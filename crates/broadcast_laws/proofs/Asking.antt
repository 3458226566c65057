-- That each operation that waits in a broadcast asked for its prefix bears what a client's files' side does.
use Rattle.std.proofs.Common.{◌≡◌, ℕ, ◌+◌, ◌⊎◌, Bool, true, false, cond, List, [], ◌∷◌, ◌++◌, length, length-append, slice_get, Option, Some, option_map, inl, inr, arith, refl, subst}
use Rattle.std.specs.List.{AllByRecursion, find}
use Rattle.sprite_ids.specs.declared.TxNo.{TxNo}
use Rattle.sprite_ids.proofs.ListLaws.{each_push, each_weaken, some_is}
use Rattle.kernel_steps.specs.declared.Input.{Input}
use Rattle.kernel_steps.specs.declared.Sending.{Sending}
use Rattle.kernel_steps.specs.Rows.{is_under}
use Rattle.unix_calls.specs.declared.SendKind.{SendKind}
use Rattle.unix_calls.specs.declared.SendKind.TheVariants.{Broadcast, Other}
use Rattle.client_file_tables.specs.declared.names.NameWork.{NameWork}
use Rattle.client_file_tables.specs.declared.pending.Pending.{Pending}
use Rattle.client_file_tables.specs.declared.pending.Pending.TheVariants as operations
use Rattle.client_file_tables.specs.declared.states.NameState.{NameState}
use Rattle.client_file_tables.specs.declared.states.NameState.TheVariants as states
use Rattle.client_file_tables.specs.Rows.{less_of, same_pid}
use Rattle.client_names.specs.Requests.{echo_to, request_to}
use Rattle.client_walks.proofs.Bearing.{Bears, Seen, broadcast_to, is_plain, waiting_so, waits_more}
use Rattle.client_walks.proofs.RowLaws.{each_less, got_before}
use Rattle.broadcast_laws.specs.Broadcasts.{AsksNow, Parts}

-- ---- what each operation that waits in a broadcast asked before, or asks now

-- the call of that number asked for the prefix before, or is one of these
abbrev pub Known : (TxNo → Parts → Type 0) → ℕ → List Sending → TxNo → Parts → Type 0
Known Old first sends tx prefix = Old tx prefix ⊎ AsksNow first sends tx prefix

abbrev pub StateAsks : (TxNo → Parts → Type 0) → NameState → Type 0
StateAsks Asks (states.Broadcasting tx prefix) = Asks tx prefix
StateAsks Asks (states.Echoing tx server) = Unit {0}
StateAsks Asks (states.Asking tx) = Unit {0}

abbrev pub OperationAsks : (TxNo → Parts → Type 0) → Pending → Type 0
OperationAsks Asks (operations.Name call) = StateAsks Asks call.state
OperationAsks Asks (operations.Data call) = Unit {0}
OperationAsks Asks (operations.Sync call) = Unit {0}
OperationAsks Asks (operations.Close work) = Unit {0}
OperationAsks Asks (operations.Move work) = Unit {0}

abbrev pub RowsAsk : (TxNo → Parts → Type 0) → List (ℕ × Pending) → Type 0
RowsAsk Asks rows = AllByRecursion (λ (row : ℕ × Pending). OperationAsks Asks row.1) rows

-- that of all operations, and the next number is the first one and so many
pub record AskSo (Old : TxNo → Parts → Type 0) (first : ℕ) (rows : List (ℕ × Pending)) (next : TxNo) (sends : List Sending) : Type 0 where
  pub numbered : next.0 ≡ first + length sends
  pub asks : RowsAsk (Known Old first sends) rows

abbrev pub Asked : (TxNo → Parts → Type 0) → ℕ → Seen → Type 0
Asked Old first seen = AskSo Old first seen.rows seen.next seen.sends

-- ---- lists

got_last : {X : Type 0} (xs : List X) (x : X) → slice_get (xs ++ x ∷ []) (length xs) ≡ Some x
got_last [] x = refl
got_last (y ∷ xs) x = got_last xs x

more_length : {X : Type 0} (first n : ℕ) (xs : List X) (x : X) → n ≡ first + length xs → n + 1 ≡ first + length (xs ++ x ∷ [])
more_length first n xs x h = (let many : length (xs ++ x ∷ []) ≡ length xs + 1 = length-append xs (x ∷ []) in omega (arith, h, many))

-- what was found among the operations is so
found_by : (F : Pending → Type 0) (b : Bool) (row : ℕ × Pending) (rest : Option (ℕ × Pending)) (operation : Pending) → F row.1 → (option_map (λ (row : ℕ × Pending). row.1) rest ≡ Some operation → F operation) → option_map (λ (row : ℕ × Pending). row.1) (cond b (Some row) rest) ≡ Some operation → F operation
found_by F true row rest operation here later e = subst F (some_is row.1 operation e) here
found_by F false row rest operation here later e = later e

pub found_so : (F : Pending → Type 0) (p : ℕ × Pending → Bool) (rows : List (ℕ × Pending)) (operation : Pending) → AllByRecursion (λ (row : ℕ × Pending). F row.1) rows → option_map (λ (row : ℕ × Pending). row.1) (find p rows) ≡ Some operation → F operation
found_so F p [] operation h e = absurd (cc)
found_so F p (row ∷ rows) operation h e = found_by F (p row) row (find p rows) operation h.0 (found_so F p rows operation h.1) e

-- ---- it bears these

plain_so : (Asks : TxNo → Parts → Type 0) (operation : Pending) → is_plain operation ≡ true → OperationAsks Asks operation
plain_so Asks (operations.Name call) e = absurd (cc)
plain_so Asks (operations.Data call) e = tt
plain_so Asks (operations.Sync call) e = tt
plain_so Asks (operations.Close work) e = tt
plain_so Asks (operations.Move work) e = tt

state_weaken : (Asks Others : TxNo → Parts → Type 0) → ((tx : TxNo) (prefix : Parts) → Asks tx prefix → Others tx prefix) → (state : NameState) → StateAsks Asks state → StateAsks Others state
state_weaken Asks Others weaken (states.Broadcasting tx prefix) h = weaken tx prefix h
state_weaken Asks Others weaken (states.Echoing tx server) h = tt
state_weaken Asks Others weaken (states.Asking tx) h = tt

operation_weaken : (Asks Others : TxNo → Parts → Type 0) → ((tx : TxNo) (prefix : Parts) → Asks tx prefix → Others tx prefix) → (operation : Pending) → OperationAsks Asks operation → OperationAsks Others operation
operation_weaken Asks Others weaken (operations.Name call) h = state_weaken Asks Others weaken call.state h
operation_weaken Asks Others weaken (operations.Data call) h = tt
operation_weaken Asks Others weaken (operations.Sync call) h = tt
operation_weaken Asks Others weaken (operations.Close work) h = tt
operation_weaken Asks Others weaken (operations.Move work) h = tt

pub rows_weaken : (Asks Others : TxNo → Parts → Type 0) → ((tx : TxNo) (prefix : Parts) → Asks tx prefix → Others tx prefix) → (rows : List (ℕ × Pending)) → RowsAsk Asks rows → RowsAsk Others rows
rows_weaken Asks Others weaken rows h = each_weaken (λ (row : ℕ × Pending). OperationAsks Asks row.1) (λ (row : ℕ × Pending). OperationAsks Others row.1) rows (λ row k. operation_weaken Asks Others weaken row.1 k) h

module _ (Old : TxNo → Parts → Type 0) (first : ℕ) where
  known_more : (sends : List Sending) (sending : Sending) (tx : TxNo) (prefix : Parts) → Known Old first sends tx prefix → Known Old first (sends ++ sending ∷ []) tx prefix
  known_more sends sending tx prefix (inl old) = inl old
  known_more sends sending tx prefix (inr now) = inr (record { at = now.at; sending = now.sending; there = got_before sends (sending ∷ []) now.at now.sending now.there; number = now.number; asks = now.asks })

  asks_more : (sends : List Sending) (sending : Sending) (rows : List (ℕ × Pending)) → RowsAsk (Known Old first sends) rows → RowsAsk (Known Old first (sends ++ sending ∷ [])) rows
  asks_more sends sending rows h = rows_weaken (Known Old first sends) (Known Old first (sends ++ sending ∷ [])) (λ tx prefix k. known_more sends sending tx prefix k) rows h

  kept_asks : (rows : List (ℕ × Pending)) (sends : List Sending) (pid : ℕ) (operation : Pending) → OperationAsks (Known Old first sends) operation → RowsAsk (Known Old first sends) rows → RowsAsk (Known Old first sends) (rows ++ (pid, operation) ∷ [])
  kept_asks rows sends pid operation here h = each_push (λ (row : ℕ × Pending). OperationAsks (Known Old first sends) row.1) rows (pid, operation) h here

  left_asks : (rows : List (ℕ × Pending)) (sends : List Sending) (pid : ℕ) → RowsAsk (Known Old first sends) rows → RowsAsk (Known Old first sends) (less_of pid rows)
  left_asks rows sends pid h = each_less (λ (row : ℕ × Pending). OperationAsks (Known Old first sends) row.1) (is_under same_pid pid) rows h

  -- a request more, for which a call waits so
  waits_asks : (seen : Seen) (sending : Sending) (pid : ℕ) (work : NameWork) (state : NameState) (kind : SendKind) → StateAsks (Known Old first (seen.sends ++ sending ∷ [])) state → Asked Old first seen → Asked Old first (waits_more seen sending kind pid work state)
  waits_asks seen sending pid work state kind here q = record {
    numbered = more_length first seen.next.0 seen.sends sending q.numbered;
    asks = kept_asks seen.rows (seen.sends ++ sending ∷ []) pid (waiting_so work state) here (asks_more seen.sends sending seen.rows q.asks);
  }

  pub asking : (came : Input) → Bears came (Asked Old first)
  asking came = record {
    telling = record {
      tells = λ seen event h q. q;
      enters = λ seen entry cause q. q;
      says = λ seen sending kind h q. record { numbered = more_length first seen.next.0 seen.sends sending q.numbered; asks = asks_more seen.sends sending seen.rows q.asks };
      answers = λ seen tx body here q. record { numbered = q.numbered; asks = q.asks };
      keeps = λ seen pid operation plain q. record { numbered = q.numbered; asks = kept_asks seen.rows seen.sends pid operation (plain_so (Known Old first seen.sends) operation plain) q.asks };
      left = λ seen pid q. record { numbered = q.numbered; asks = left_asks seen.rows seen.sends pid q.asks };
      puts_back = λ seen pid operation e q. record {
        numbered = q.numbered;
        asks = kept_asks (less_of pid seen.rows) seen.sends pid operation (found_so (OperationAsks (Known Old first seen.sends)) (is_under same_pid pid) seen.rows operation q.asks e) (left_asks seen.rows seen.sends pid q.asks);
      };
      broadcasts = λ seen pid work prefix may e q.
          let sending : Sending = broadcast_to seen.servers pid work prefix in
          waits_asks seen sending pid work (states.Broadcasting seen.next prefix) (Broadcast prefix) (inr (record { at = length seen.sends; sending = sending; there = got_last seen.sends sending; number = q.numbered; asks = refl })) q;
      echoes = λ seen pid work server q. waits_asks seen (echo_to server pid work) pid work (states.Echoing seen.next server) Other tt q;
      asks = λ seen pid work server q. waits_asks seen (request_to server pid work) pid work (states.Asking seen.next) Other tt q;
    };
    learns = λ seen prefix server e q. q;
  }
