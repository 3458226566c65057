-- The remote calls for which operations of clients wait, and their write-backs, stay unfinished until the step that takes their ends.
use Rattle.std.proofs.Common.{arith, ◌≡◌, ◌⊎◌, inl, inr, ℕ, zero, suc, ◌+◌, ◌≤◌, ◌==◌, Bool, true, false, ◌||◌, List, [], ◌∷◌, slice_get, Option, Some, None, is_some, refl, sym, ap, ◌∙◌, subst}
use Rattle.std.proofs.lemmas.Bool.{and_parts, eq-eqb, eqb-true}
use Rattle.std.specs.List.{AllByRecursion, list_all, list_any}
use Rattle.sprite_ids.specs.declared.TxNo.{TxNo}
use Rattle.sprite_ids.proofs.ListLaws.{each_get, each_weaken, some_is}
use Rattle.sprite_ids.proofs.OnceLaws.{or_false}
use Rattle.process_machine.specs.Machine as processes
use Rattle.packet_bodies.specs.declared.Body.{Body}
use Rattle.packet_bodies.specs.declared.Body.TheVariants as bodies
use Rattle.kernel_rpc.specs.declared.call.Arrival.{Arrival}
use Rattle.kernel_rpc.specs.declared.call.Arrival.TheVariants.{FirstRequest, FirstReply, AskedAgain, Past}
use Rattle.kernel_rpc.specs.declared.call.Call.{Call}
use Rattle.kernel_rpc.specs.declared.PacketCopy.{PacketCopy}
use Rattle.kernel_rpc.specs.Machine.{Machine, arrival, call_of, idle, is_last}
use Rattle.kernel_steps.specs.declared.Input.{Input}
use Rattle.kernel_steps.specs.declared.Input.TheVariants as inputs
use Rattle.kernel_steps.specs.declared.Sending.{Sending}
use Rattle.kernel_steps.specs.Rows.{is_row, is_under}
use Rattle.unix_calls.specs.declared.Description.{Description}
use Rattle.client_file_tables.specs.declared.client_files.ClientFiles.{ClientFiles}
use Rattle.client_file_tables.specs.declared.pending.Pending.{Pending}
use Rattle.client_file_tables.specs.declared.works.WriteBackOut.{WriteBackOut}
use Rattle.client_file_tables.specs.Rows.{same_call, same_pid}
use Rattle.client_homes.specs.declared.ClientProcs.{ClientProcs}
use Rattle.client_procs.specs.Readers.{with_image}
use Rattle.client_procs.specs.Steps.{client_step}
use Rattle.client_walks.proofs.BornLaws.{begins_with_places}
use Rattle.client_rounds.proofs.OneLaws.{begins_with_one_thing}
use Rattle.client_facts.specs.FileFacts.{has_its_call, is_kept_call, own_call}
use Rattle.cluster_wire.specs.Arriving.{Brings, reply_in, request_in}
use Rattle.cluster_wire.specs.declared.Arrived.TheVariants as arrived
use Rattle.cluster_wire.specs.Goings.{next_of}
use Rattle.cluster_kernels.specs.declared.KernelState.TheVariants as kernels
use Rattle.cluster_kernels.specs.States.{kernel_at}
use Rattle.cluster_choices.specs.declared.Choice.{Choice}
use Rattle.cluster_choices.specs.declared.Choice.TheVariants as choices
use Rattle.file_facts.proofs.BookLaws.{or_left, or_right}
use Rattle.file_facts.proofs.RestFacts.{begins_with_call_facts}
use Rattle.operation_calls.specs.Endings.{Ends, IsGone}
use Rattle.operation_calls.specs.Requests.{IsSent, Wanted, wanted_of, write_back_wanted}
use Rattle.operation_calls.proofs.AskLaws.{each_there}
use Rattle.operation_calls.proofs.GoneLaws.{ended_are_gone}
use Rattle.operation_calls.proofs.StepLaws.{Behind, step_asks}
use Rattle.reached_clients.specs.Clients.{OfClient}
use Rattle.reached_domains.proofs.DomainLaws.{client_is}
use Rattle.reached_domains.proofs.TurnLaws.{message_is, not_again}
use Rattle.reached_operations.specs.Operations.{CallIs}
use Rattle.reached_operations.specs.Unfinished.{IsUnfinishedCall, OwnCallsAreUnfinished, WriteBacksAreUnfinished}
use Rattle.reached_operations.proofs.CallLaws.{AsksAt, Went, WentOn, asks_found}
use Rattle.reached_operations.proofs.FitLaws.{last_tried, same_tx}
use Rattle.reached_operations.proofs.KeepLaws.{Comes, KeptAt, brings_so, here_comes, kept_grows, kept_images, kept_steps, last_found}
use Rattle.reached_operations.proofs.OwnLaws.{BackAsks, FilesAsk, RowAsks, asks_grow, asks_steps, back_fair, client_asks, clients_begin, image_files, operation_fair, replies_come}
use Rattle.reached_operations.proofs.TurnLaws as turns
use Rattle.reached_operations.proofs.TurnLaws.{Bears, Ended, IsHere, Stands, WentOut, hand_of}
use Rattle.reached_operations.proofs.WireLaws.{IsUnfinished, StaysBut, good_idle}
use Rattle.sprite_cluster.specs.Reached.{At, Began, Begins, Chose, Goes, Lost, Reached, Took}
use Rattle.sprite_cluster.proofs.KernelLaws.{booted, one_at}
use Rattle.sprite_cluster.proofs.ReachedLaws.{Lasts, lasts_on}

-- ---- lists

each_both : {X : Type 0} (P Q R : X → Type 0) (xs : List X) → ((x : X) → P x → Q x → R x) → AllByRecursion P xs → AllByRecursion Q xs → AllByRecursion R xs
each_both P Q R [] both h k = tt
each_both P Q R (x ∷ xs) both h k = (both x h.0 k.0, each_both P Q R xs both h.1 k.1)

all_of : {X : Type 0} (p : X → Bool) (xs : List X) → list_all p xs ≡ true → AllByRecursion (λ x. p x ≡ true) xs
all_of p [] e = tt
all_of p (x ∷ xs) e = let parts = and_parts (p x) (list_all p xs) e in (parts.0, all_of p xs parts.1)

none_of : {X : Type 0} (p : X → Bool) (xs : List X) → list_any p xs ≡ false → AllByRecursion (λ x. p x ≡ false) xs
none_of p [] e = tt
none_of p (x ∷ xs) e = let parts = or_false (p x) (list_any p xs) e in (parts.0, none_of p xs parts.1)

none_any : {X : Type 0} (p : X → Bool) (xs : List X) → AllByRecursion (λ x. p x ≡ false) xs → list_any p xs ≡ false
none_any p [] h = refl
none_any p (x ∷ xs) h = ap (λ b. b || list_any p xs) h.0 ∙ none_any p xs h.1

any_at : {X : Type 0} (p : X → Bool) (xs : List X) (at : ℕ) (x : X) → slice_get xs at ≡ Some x → p x ≡ true → list_any p xs ≡ true
any_at p [] at x e is = absurd (cc)
any_at p (y ∷ ys) zero x e is = or_left (p y) (list_any p ys) (ap p (some_is y x e) ∙ is)
any_at p (y ∷ ys) (suc at) x e is = or_right (p y) (list_any p ys) (any_at p ys at x e is)

all_there : (rows : List (TxNo × WriteBackOut)) → AllByRecursion (λ (back : TxNo × WriteBackOut). list_any (is_under same_call back.0) rows ≡ true) rows
all_there rows = each_there (λ (back : TxNo × WriteBackOut). list_any (is_under same_call back.0) rows ≡ true) rows (λ at back e. any_at (is_under same_call back.0) rows at back e (eq-eqb back.0.0 back.0.0 refl))

any_weaken : {X : Type 0} (p q : X → Bool) (xs : List X) → ((x : X) → p x ≡ true → q x ≡ true) → list_any p xs ≡ true → list_any q xs ≡ true
any_weaken p q [] weaken e = absurd (cc)
any_weaken p q (x ∷ xs) weaken e = by (p x) refl e (any_weaken p q xs weaken)
  where
    by : (b : Bool) → p x ≡ b → (b || list_any p xs) ≡ true → (list_any p xs ≡ true → list_any q xs ≡ true) → list_any q (x ∷ xs) ≡ true
    by true is e later = or_left (q x) (list_any q xs) (weaken x is)
    by false is e later = or_right (q x) (list_any q xs) (later e)

any_key : (tx : TxNo) (pid : ℕ) (rows : List (TxNo × ℕ)) → list_any (is_row same_call same_pid tx pid) rows ≡ true → list_any (is_under same_call tx) rows ≡ true
any_key tx pid rows e = any_weaken (is_row same_call same_pid tx pid) (is_under same_call tx) rows (λ row is. (and_parts (row.0.0 == tx.0) (row.1 == pid) is).0) e

both_ways : (b : Bool) → b ≡ false → b ≡ true → ⊥
both_ways b e f = (let both = sym e ∙ f in absurd (cc))

-- ---- a client

-- a call of a kernel is the one that has just ended
abbrev IsInHand : Ended → ℕ → TxNo → Type 0
IsInHand None kernel tx = ⊥
IsInHand (Some hand) kernel tx = (kernel ≡ hand.0) × (tx.0 ≡ hand.1.0)

-- a call is unfinished, or has just ended
abbrev IsLeft : Ended → Machine → ℕ → TxNo → Type 0
IsLeft hand machine kernel tx = IsUnfinished machine tx ⊎ IsInHand hand kernel tx

abbrev RowLeft : Ended → Machine → ℕ → ℕ × Pending → Type 0
RowLeft hand machine kernel row = (tx : TxNo) → own_call row.1 ≡ Some tx → IsLeft hand machine kernel tx

abbrev BackLeft : Ended → Machine → ℕ → TxNo × WriteBackOut → Type 0
BackLeft hand machine kernel back = IsLeft hand machine kernel back.0

record FilesLeft (hand : Ended) (machine : Machine) (kernel : ℕ) (s : ClientFiles) : Type 0 where
  rows : AllByRecursion (RowLeft hand machine kernel) s.pending
  backs : AllByRecursion (BackLeft hand machine kernel) s.write_backs

-- all that is so of a client
record Waits (hand : Ended) (machine : Machine) (kernel : ℕ) (s : ClientProcs) : Type 0 where
  kept : KeptAt machine s
  asks : FilesAsk machine kernel s.files
  left : FilesLeft hand machine kernel s.files

-- what is given up is no write-back
abbrev IsNoBack : Input → ClientProcs → Type 0
IsNoBack (inputs.GaveUp tx) s = list_any (is_under same_call tx) s.files.write_backs ≡ false
IsNoBack input s = Unit {0}

abbrev Such : Input → ClientProcs → Type 0
Such input s = Comes input s × IsNoBack input s

left_weaken : (hand later : Ended) (old new : Machine) (kernel : ℕ) (s : ClientFiles) → ((wanted : Wanted) (tx : TxNo) → AsksAt kernel wanted old tx → IsLeft hand old kernel tx → IsLeft later new kernel tx) → FilesAsk old kernel s → FilesLeft hand old kernel s → FilesLeft later new kernel s
left_weaken hand later old new kernel s weaken asks h = record {
  rows = each_both (RowAsks old kernel) (RowLeft hand old kernel) (RowLeft later new kernel) s.pending (λ row so left tx own. weaken (wanted_of row.1) tx (so tx own) (left tx own)) asks.rows h.rows;
  backs = each_both (BackAsks old kernel) (BackLeft hand old kernel) (BackLeft later new kernel) s.write_backs (λ back so left. weaken (write_back_wanted back.1) back.0 so left) asks.backs h.backs;
}

waits_grow : (hand : Ended) (old new : Machine) (kernel : ℕ) (s : ClientProcs) → WentOn old new → Waits hand old kernel s → Waits hand new kernel s
waits_grow hand old new kernel s w h = record { kept = kept_grows old new s w.went h.kept; asks = asks_grow old new kernel s.files w.went h.asks; left = left_weaken hand hand old new kernel s.files (λ wanted tx asks left. by tx left) h.asks h.left }
  where
    by : (tx : TxNo) → IsLeft hand old kernel tx → IsLeft hand new kernel tx
    by tx (inl out) = inl (w.stays tx out)
    by tx (inr mine) = inr mine

-- a call of a kernel ends: where it is this one's, it is in hand
waits_end : (owner : ℕ) (tx : TxNo) (call : Call) (old new : Machine) (kernel : ℕ) (s : ClientProcs) → Went old new → StaysBut tx old new → call_of old tx ≡ Some call → call.from ≡ owner → Waits None old kernel s → Waits (Some (owner, tx)) new kernel s
waits_end owner tx call old new kernel s w stays found from h = record { kept = kept_grows old new s w h.kept; asks = asks_grow old new kernel s.files w h.asks; left = left_weaken None (Some (owner, tx)) old new kernel s.files by h.asks h.left }
  where
    by_test : (b : Bool) (wanted : Wanted) (t : TxNo) → (t.0 == tx.0) ≡ b → AsksAt kernel wanted old t → IsUnfinished old t → IsLeft (Some (owner, tx)) new kernel t
    by_test true wanted t e asks out =
        let same : t.0 ≡ tx.0 = eqb-true t.0 tx.0 e in
        let mine : CallIs kernel wanted call = asks_found kernel wanted old t call asks (ap (call_of old) (same_tx t tx same) ∙ found) in
        inr (sym mine.own ∙ from, same)
    by_test false wanted t e asks out = inl (stays t (λ same. both_ways (t.0 == tx.0) e (eq-eqb t.0 tx.0 same)) out)

    by : (wanted : Wanted) (t : TxNo) → AsksAt kernel wanted old t → IsLeft None old kernel t → IsLeft (Some (owner, tx)) new kernel t
    by wanted t asks (inl out) = by_test (t.0 == tx.0) wanted t refl asks out
    by wanted t asks (inr none) = absurd none

waits_others : (owner : ℕ) (tx : TxNo) (machine : Machine) (kernel : ℕ) (s : ClientProcs) → (kernel ≡ owner → ⊥) → Waits (Some (owner, tx)) machine kernel s → Waits None machine kernel s
waits_others owner tx machine kernel s apart h = record { kept = h.kept; asks = h.asks; left = left_weaken (Some (owner, tx)) None machine machine kernel s.files (λ wanted t asks left. by t left) h.asks h.left }
  where
    by : (t : TxNo) → IsLeft (Some (owner, tx)) machine kernel t → IsLeft None machine kernel t
    by t (inl out) = inl out
    by t (inr mine) = absurd (apart mine.0)

-- ---- a step

module _ (kernel : ℕ) (old new : Machine) (s : ClientProcs) (input : Input) (next : TxNo) (step : ℕ) (number : next.0 ≡ old.begun + 1) (such : Such input s) (w : WentOut kernel old new (client_step s input next step).1.sends) (h : Waits (hand_of kernel input) old kernel s) where
  abbrev sends : List Sending
  sends = (client_step s input next step).1.sends

  kept : KeptAt new (client_step s input next step).0
  kept = kept_steps kernel old new s input next step number such.0 w h.kept

  -- what stood before: it was begun, and is unfinished or in hand
  abbrev Was : TxNo → Type 0
  Was tx = (tx.0 ≤ old.begun) × IsLeft (hand_of kernel input) old kernel tx

  behind : Behind (λ tx row. Was tx) (λ back. Was back.0) s input next step
  behind = step_asks (λ tx row. Was tx) (λ back. Was back.0) s input next step
      (each_both (RowAsks old kernel) (RowLeft (hand_of kernel input) old kernel) (λ (row : ℕ × Pending). (tx : TxNo) → own_call row.1 ≡ Some tx → Was tx) s.files.pending (λ row asks left tx own. ((asks tx own).0, left tx own)) h.asks.rows h.left.rows)
      (each_both (BackAsks old kernel) (BackLeft (hand_of kernel input) old kernel) (λ (back : TxNo × WriteBackOut). Was back.0) s.files.write_backs (λ back asks left. (asks.0, left)) h.asks.backs h.left.backs)

  -- what was in hand has ended
  ends_in : (came : Input) (tx : TxNo) → IsInHand (hand_of kernel came) kernel tx → IsNoBack came s → Ends tx came s.files
  ends_in (inputs.Replied other source body) tx mine none = same_tx tx other mine.1
  ends_in (inputs.GaveUp other) tx mine none = (same_tx tx other mine.1, subst (λ (t : TxNo). list_any (is_under same_call t) s.files.write_backs ≡ false) (sym (same_tx tx other mine.1)) none)
  ends_in (inputs.Request other source body) tx mine none = absurd mine
  ends_in (inputs.Issued pid many call) tx mine none = absurd mine
  ends_in (inputs.Due file block) tx mine none = absurd mine
  ends_in (inputs.PageNeeded pid page) tx mine none = absurd mine

  gone : (tx : TxNo) → tx.0 ≤ old.begun → IsInHand (hand_of kernel input) kernel tx → IsGone tx (client_step s input next step).0.files
  gone tx low mine = ended_are_gone s input next step tx h.kept.facts.once (omega (arith, low, number)) (ends_in input tx mine such.1)

  row_left : (row : ℕ × Pending) (tx : TxNo) → own_call row.1 ≡ Some tx → has_its_call (client_step s input next step).0.files row ≡ true → Was tx ⊎ IsSent next.0 sends tx (wanted_of row.1) → IsLeft None new kernel tx
  row_left row tx own called (inr now) = inl (w.asked (wanted_of row.1) tx (operation_fair row.1) (subst (λ (n : ℕ). IsSent n sends tx (wanted_of row.1)) number now)).out
  row_left row tx own called (inl was) = by was.1
    where
      by : IsLeft (hand_of kernel input) old kernel tx → IsLeft None new kernel tx
      by (inl out) = inl (w.on.stays tx out)
      by (inr mine) =
          absurd (both_ways (list_any (is_under same_call tx) (client_step s input next step).0.files.txs) (gone tx was.0 mine).kept
          (any_key tx row.0 (client_step s input next step).0.files.txs (subst (λ (o : Option TxNo). is_kept_call row.0 o (client_step s input next step).0.files ≡ true) own called)))

  back_left : (back : TxNo × WriteBackOut) → list_any (is_under same_call back.0) (client_step s input next step).0.files.write_backs ≡ true → Was back.0 ⊎ IsSent next.0 sends back.0 (write_back_wanted back.1) → IsLeft None new kernel back.0
  back_left back there (inr now) = inl (w.asked (write_back_wanted back.1) back.0 (back_fair back.1) (subst (λ (n : ℕ). IsSent n sends back.0 (write_back_wanted back.1)) number now)).out
  back_left back there (inl was) = by was.1
    where
      by : IsLeft (hand_of kernel input) old kernel back.0 → IsLeft None new kernel back.0
      by (inl out) = inl (w.on.stays back.0 out)
      by (inr mine) = absurd (both_ways (list_any (is_under same_call back.0) (client_step s input next step).0.files.write_backs) (gone back.0 was.0 mine).out there)

  waits_step : Waits None new kernel (client_step s input next step).0
  waits_step = record {
    kept = kept;
    asks = asks_steps kernel old new s input next step number w h.asks;
    left = record {
      rows = each_both (λ (row : ℕ × Pending). (tx : TxNo) → own_call row.1 ≡ Some tx → Was tx ⊎ IsSent next.0 sends tx (wanted_of row.1)) (λ (row : ℕ × Pending). has_its_call (client_step s input next step).0.files row ≡ true) (RowLeft None new kernel) (client_step s input next step).0.files.pending
          (λ row so called tx own. row_left row tx own called (so tx own)) behind.asks.rows (all_of (has_its_call (client_step s input next step).0.files) (client_step s input next step).0.files.pending kept.facts.kept);
      backs = each_both (λ (back : TxNo × WriteBackOut). Was back.0 ⊎ IsSent next.0 sends back.0 (write_back_wanted back.1)) (λ (back : TxNo × WriteBackOut). list_any (is_under same_call back.0) (client_step s input next step).0.files.write_backs ≡ true) (BackLeft None new kernel) (client_step s input next step).0.files.write_backs
          (λ back so there. back_left back there so) behind.asks.backs (all_there (client_step s input next step).0.files.write_backs);
    };
  }

waits_image : (machine : Machine) (kernel pid : ℕ) (image : processes.Machine) (s : ClientProcs) → Waits None machine kernel s → Waits None machine kernel (with_image pid image s)
waits_image machine kernel pid image s h = record {
  kept = kept_images machine pid image s h.kept;
  asks = subst (FilesAsk machine kernel) (sym (image_files pid image s)) h.asks;
  left = subst (FilesLeft None machine kernel) (sym (image_files pid image s)) h.left;
}

here_no_back : (input : Input) (s : ClientProcs) → IsHere input → IsNoBack input s
here_no_back (inputs.GaveUp tx) s here = absurd here
here_no_back (inputs.Issued pid number call) s here = tt
here_no_back (inputs.Due file block) s here = tt
here_no_back (inputs.PageNeeded pid page) s here = tt
here_no_back (inputs.Request tx source body) s here = tt
here_no_back (inputs.Replied tx source body) s here = tt

waits_bear : Bears Waits Such
waits_bear = record {
  grows = waits_grow;
  ends = waits_end;
  others = waits_others;
  steps = waits_step;
  images = waits_image;
  here = λ input s here. (here_comes input s here, here_no_back input s here);
}

-- ---- each reached cluster

-- a message gives nothing up
message_no_back : (input : Input) (s : ClientProcs) (machine : Machine) (copy : PacketCopy) → Brings (arrival machine copy) machine copy (arrived.Message input) → IsNoBack input s
message_no_back input s machine copy brings = by (arrival machine copy) brings
  where
    in_request : (tx : TxNo) (from : ℕ) (body : Body) → arrived.Message input ≡ request_in tx from body → IsNoBack input s
    in_request tx from (bodies.Request body) e = subst (λ (i : Input). IsNoBack i s) (message_is (inputs.Request tx from body) input (sym e)) tt
    in_request tx from (bodies.Reply body) e = absurd (cc)

    in_reply : (tx : TxNo) (from : ℕ) (body : Body) → arrived.Message input ≡ reply_in tx from body → IsNoBack input s
    in_reply tx from (bodies.Reply body) e = subst (λ (i : Input). IsNoBack i s) (message_is (inputs.Replied tx from body) input (sym e)) tt
    in_reply tx from (bodies.Request body) e = absurd (cc)

    by : (a : Arrival) → Brings a machine copy (arrived.Message input) → IsNoBack input s
    by FirstRequest b = in_request copy.tx b.0.from b.0.body b.2
    by FirstReply b = in_reply copy.tx b.0.from b.0.body b.2
    by AskedAgain b = absurd (not_again input _ _ b.0 b.1)
    by Past b = absurd (cc)

-- no write-back is given up
last_no_back : (machine : Machine) (kernel : ℕ) (tx : TxNo) (call : Call) (s : ClientFiles) → FilesAsk machine kernel s → call_of machine tx ≡ Some call → is_last call ≡ true → list_any (is_under same_call tx) s.write_backs ≡ false
last_no_back machine kernel tx call s asks found last = none_any (is_under same_call tx) s.write_backs (each_weaken (BackAsks machine kernel) (λ (back : TxNo × WriteBackOut). is_under same_call tx back ≡ false) s.write_backs (λ back so. by (back.0.0 == tx.0) back refl so) asks.backs)
  where
    by : (b : Bool) (back : TxNo × WriteBackOut) → (back.0.0 == tx.0) ≡ b → BackAsks machine kernel back → b ≡ false
    by false back e so = refl
    by true back e so =
        let is : CallIs kernel (write_back_wanted back.1) call = asks_found kernel (write_back_wanted back.1) machine back.0 call so (ap (call_of machine) (same_tx back.0 tx (eqb-true back.0.0 tx.0 e)) ∙ found) in
        absurd (last_tried call.tries call.lost is.lasts last)

module _ {L : Type 0} (faults asked : L → ℕ → ℕ → ℕ) (c : Description) (begun : L) where
  abbrev AllWait : At L → Type 0
  AllWait at = turns.At_stands c Waits Such waits_bear faults asked at

  brings_such : (kernel : ℕ) (choice : Choice) (old now : At L) → Reached faults asked c begun old → Goes faults asked c (Chose kernel choice) old now → turns.ChangeBrings c Waits Such waits_bear faults asked (Chose kernel choice) old
  brings_such kernel (choices.Deliver number) old now reached goes =
      λ low copy input there brings client e. (brings_so faults asked c begun kernel (choices.Deliver number) old now reached goes low copy input there brings client e, message_no_back input client old.wire.machine copy brings)
  brings_such kernel (choices.Expire tx) old now reached goes =
      λ low before later between fires client e.
      let got = last_found (call_of old.wire.machine tx) fires.last in
      (brings_so faults asked c begun kernel (choices.Expire tx) old now reached goes low before later between fires client e, last_no_back old.wire.machine kernel tx got.0 client.files (client_asks faults asked c begun old kernel client low reached e) got.1 got.2)
  brings_such kernel (choices.WriteBack file block) old now reached goes = λ low. tt

  wait_first : (first : At L) → Begins faults asked c begun first → AllWait first
  wait_first first b = subst (λ (machine : Machine). Stands c Waits Such waits_bear machine first.state) (sym b.idles) (record {
    good = good_idle;
    clients = booted (OfClient (Waits None idle)) c
        (clients_begin c (Waits None idle) (λ kernel. record {
          kept = record { places = begins_with_places c kernel; one = begins_with_one_thing c kernel; facts = begins_with_call_facts c kernel (next_of idle) };
          asks = record { rows = tt; backs = tt };
          left = record { rows = tt; backs = tt };
        })) c.kernels first.state.kernels 1 b.boots.kernels_are;
  })

  wait_last : Lasts faults asked c begun AllWait
  wait_last = record {
    begins = wait_first;
    chose = λ kernel choice old now reached goes h. turns.changed c Waits Such waits_bear faults asked (Chose kernel choice) old now (replies_come faults asked c begun old reached) (brings_such kernel choice old now reached goes) goes h;
    began = λ kernel old now reached goes h. turns.changed c Waits Such waits_bear faults asked (Began kernel) old now (replies_come faults asked c begun old reached) tt goes h;
    took = λ kernel b old now reached goes h. turns.changed c Waits Such waits_bear faults asked (Took kernel b) old now (replies_come faults asked c begun old reached) tt goes h;
    lost = λ kernel b old now reached goes h. turns.changed c Waits Such waits_bear faults asked (Lost kernel b) old now (replies_come faults asked c begun old reached) tt goes h;
  }

  all_wait : (now : At L) → Reached faults asked c begun now → AllWait now
  all_wait now reached = lasts_on faults asked c begun AllWait now wait_last reached

  client_waits : (now : At L) (kernel : ℕ) (client : ClientProcs) → 1 ≤ kernel → Reached faults asked c begun now → kernel_at kernel now.state ≡ Some (kernels.Client client) → Waits None now.wire.machine kernel client
  client_waits now kernel client low reached e = one_at (OfClient (Waits None now.wire.machine)) kernel (kernels.Client client) now.state.kernels low (all_wait now reached).clients e

-- an unfinished call that asks so
unfinished_call : (machine : Machine) (kernel : ℕ) (wanted : Wanted) (tx : TxNo) → AsksAt kernel wanted machine tx → IsLeft None machine kernel tx → IsUnfinishedCall machine kernel wanted tx
unfinished_call machine kernel wanted tx asks (inr none) = absurd none
unfinished_call machine kernel wanted tx asks (inl out) = by (call_of machine tx) refl out
  where
    by : (o : Option Call) → call_of machine tx ≡ o → is_some o ≡ true → IsUnfinishedCall machine kernel wanted tx
    by (Some call) e some = record { call = call; there = e; is = asks_found kernel wanted machine tx call asks e }
    by None e some = absurd (cc)

pub own_calls_are_unfinished : {L : Type 0} (faults asked : L → ℕ → ℕ → ℕ) → OwnCallsAreUnfinished faults asked
own_calls_are_unfinished faults asked c begun now kernel client tx row low reached e waits =
    let so : Waits None now.wire.machine kernel client = client_waits faults asked c begun now kernel client low reached (client_is (kernel_at kernel now.state) client e) in
    unfinished_call now.wire.machine kernel (wanted_of row.1) tx (each_get (RowAsks now.wire.machine kernel) client.files.pending waits.at row so.asks.rows waits.there tx waits.own)
    (each_get (RowLeft None now.wire.machine kernel) client.files.pending waits.at row so.left.rows waits.there tx waits.own)

pub write_backs_are_unfinished : {L : Type 0} (faults asked : L → ℕ → ℕ → ℕ) → WriteBacksAreUnfinished faults asked
write_backs_are_unfinished faults asked c begun now kernel client row low reached e out =
    let so : Waits None now.wire.machine kernel client = client_waits faults asked c begun now kernel client low reached (client_is (kernel_at kernel now.state) client e) in
    unfinished_call now.wire.machine kernel (write_back_wanted row.1) row.0 (each_get (BackAsks now.wire.machine kernel) client.files.write_backs out.at row so.asks.backs out.there)
    (each_get (BackLeft None now.wire.machine kernel) client.files.write_backs out.at row so.left.backs out.there)
