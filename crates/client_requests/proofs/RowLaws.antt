-- What is counted stands in a row.
use Rattle.std.proofs.Common.{arith, ◌≡◌, ◌⊎◌, inl, inr, ℕ, zero, suc, ◌≤◌, Bool, true, false, List, [], ◌∷◌, Option, Some, None, refl, ap, ◌∙◌, slice_get}
use Rattle.std.proofs.lemmas.Bool.{eqb-true}
use Rattle.sprite_ids.specs.Lists.{one_if, total}
use Rattle.sprite_ids.specs.declared.TxNo.{TxNo}
use Rattle.client_homes.specs.declared.client.ClientProcs.{ClientProcs}
use Rattle.client_homes.specs.declared.client.Parked.{Parked}
use Rattle.client_homes.specs.Procs.{is_call}
use Rattle.client_requests.specs.Kept.{IsAskKept, IsWaitKept, answer_of, ask_of, asks_kept, one_for, wait_of, waits_kept}
use Rattle.client_requests.specs.Rows.{AnsweredIsThere, AskIn, KeptIsThere, WaitIn}
use Rattle.client_requests.proofs.RequestLaws.{either}

-- the first item that counts
record CountedAt {X : Type 0} (f : X → ℕ) (xs : List X) : Type 0 where
  at : ℕ
  item : X
  there : slice_get xs at ≡ Some item
  counts : 1 ≤ f item

counted_in : {X : Type 0} (f : X → ℕ) (x : X) (xs : List X) → (1 ≤ total f xs → CountedAt f xs) → (1 ≤ f x) ⊎ (1 ≤ total f xs) → CountedAt f (x ∷ xs)
counted_in {X} f x xs later (inl h) = record { at = zero; item = x; there = refl; counts = h }
counted_in {X} f x xs later (inr h) = let rest = later h in record { at = suc rest.at; item = rest.item; there = rest.there; counts = rest.counts }

counted : {X : Type 0} (f : X → ℕ) (xs : List X) → 1 ≤ total f xs → CountedAt f xs
counted {X} f [] h = absurd (omega arith)
counted {X} f (x ∷ xs) h = counted_in f x xs (counted f xs) (either (f x) (total f xs) h)

is_one : (b : Bool) → 1 ≤ one_if b → b ≡ true
is_one true h = refl
is_one false h = absurd (omega arith)

call_is : (one other : TxNo) → 1 ≤ one_if (is_call one other) → one ≡ other
call_is one other h = ap (λ n. record { 0 = n }) (eqb-true one.0 other.0 (is_one (is_call one other) h))

asker_is : (tx : TxNo) (o : Option TxNo) → 1 ≤ one_for tx o → o ≡ Some tx
asker_is tx (Some asker) h = ap Some (call_is asker tx h)
asker_is tx None h = absurd (omega arith)

pub answered_is_there : AnsweredIsThere
answered_is_there tx out h =
    let row = counted (answer_of tx) out.answers h in
    record { at = row.at; reply = row.item.1; there = row.there ∙ ap (λ (asker : TxNo). Some (asker, row.item.1)) (call_is row.item.0 tx row.counts) }

pub wait_there : (tx : TxNo) (s : ClientProcs) → IsWaitKept tx s → WaitIn tx s
wait_there tx s h =
    let row = counted (wait_of tx) s.waits h in
    let at_pid : ℕ = row.item.0 in
    let parked : Parked = row.item.1 in
    record { at = row.at; pid = at_pid; number = parked.number; there = row.there ∙ ap (λ (o : Option TxNo). Some (at_pid, record parked { tx = o })) (asker_is tx parked.tx row.counts) }

pub ask_there : (tx : TxNo) (s : ClientProcs) → IsAskKept tx s → AskIn tx s
ask_there tx s h =
    let row = counted (ask_of tx) s.asked h in
    record { at = row.at; about = row.item.0; there = row.there ∙ ap (λ (o : Option TxNo). Some (row.item.0, o)) (asker_is tx row.item.1 row.counts) }

kept_by : (tx : TxNo) (s : ClientProcs) → IsWaitKept tx s ⊎ IsAskKept tx s → WaitIn tx s ⊎ AskIn tx s
kept_by tx s (inl h) = inl (wait_there tx s h)
kept_by tx s (inr h) = inr (ask_there tx s h)

pub kept_is_there : KeptIsThere
kept_is_there tx s h = kept_by tx s (either (waits_kept tx s) (asks_kept tx s) h)
