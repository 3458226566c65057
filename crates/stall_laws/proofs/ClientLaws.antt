-- What each client of a cluster keeps of other kernels' remote calls: such alone as were begun, each as what it asks; and a step of it
-- answers or keeps what it owes an answer.
use Rattle.std.proofs.Common.{arith, ◌≡◌, ℕ, zero, suc, ◌+◌, ◌≤◌, ◌<◌, ◌⊎◌, inl, inr, ◌==◌, Bool, true, false, cond, List, [], ◌∷◌, slice_get, Option, Some, None, refl, sym, ap, subst, ◌∙◌, true≢false}
use Rattle.std.specs.List.{AllByRecursion, find}
use Rattle.std.proofs.lemmas.Bool.{eqb-true}
use Rattle.sprite_ids.specs.Lists.{changed, less, one_if}
use Rattle.sprite_ids.specs.declared.TxNo.{TxNo}
use Rattle.sprite_ids.proofs.ListLaws.{each_push, each_weaken, some_is}
use Rattle.link_plan.specs.declared.Fate.{Fate}
use Rattle.link_plan.specs.declared.Fate.TheVariants.{Once}
use Rattle.process_machine.specs.Machine as processes
use Rattle.kernel_rpc.specs.declared.call.Arrival.{Arrival}
use Rattle.kernel_rpc.specs.declared.call.Arrival.TheVariants.{FirstRequest, FirstReply, AskedAgain, Past}
use Rattle.kernel_rpc.specs.declared.call.Call.{Call}
use Rattle.kernel_rpc.specs.declared.call.PacketCopy.{PacketCopy}
use Rattle.kernel_rpc.specs.declared.call.Part.TheVariants.{Holding, Silent}
use Rattle.kernel_rpc.specs.Histories.{reached}
use Rattle.kernel_rpc.specs.Machine.{Machine, answered, arrival, call_of, copy_of, delivered_as, further, gave_up, idle, is_call, is_last, landed, replied, resent, tried}
use Rattle.kernel_rpc.specs.Runs.{Act, Begin, Deliver, Answer, Silence, Expire, Counts, after, delivered_by, expired_by}
use Rattle.kernel_rpc.proofs.CopyLaws.{each_without}
use Rattle.kernel_rpc.proofs.NumberLaws.{changed_same, each_changed}
use Rattle.kernel_rpc.proofs.PartLaws.{eq_same}
use Rattle.kernel_rpc.proofs.RunLaws.{Ordered, unfinished_replied}
use Rattle.kernel_rpc.proofs.SoundLaws.{found_is, found_sound, found_within}
use Rattle.kernel_rpc.proofs.TryLaws.{each_kept}
use Rattle.kernel_steps.specs.declared.Input.{Input}
use Rattle.kernel_steps.specs.declared.Input.TheVariants as inputs
use Rattle.packet_bodies.specs.declared.ReplyBody.{ReplyBody}
use Rattle.packet_bodies.specs.declared.Request.{Request}
use Rattle.unix_calls.specs.declared.Description.{Description}
use Rattle.client_homes.specs.declared.ClientProcs.{ClientProcs}
use Rattle.client_homes.specs.Procs as procs
use Rattle.client_procs.specs.Boot.{boots}
use Rattle.client_procs.specs.Readers.{with_image}
use Rattle.client_procs.specs.Steps.{client_step}
use Rattle.client_requests.specs.Kept.{IsAnswered, IsAskKept, IsKept, IsWaitKept, asks_kept, kept, waits_kept}
use Rattle.client_requests.specs.Owed.{HasCome, IsOwed, WasKept}
use Rattle.client_requests.specs.Requests.{ask_in, asks_device, asks_wait, is_left, wait_in}
use Rattle.client_requests.proofs.OwedLaws.{owed_are_answered_or_kept}
use Rattle.client_requests.proofs.RequestLaws.{begins_with_none, either, images_keep_them, steps_take_so}
use Rattle.client_requests.proofs.RowLaws.{answered_is_there, ask_there, wait_there}
use Rattle.cluster_wire_laws.proofs.SixLaws.{begun_grows}
use Rattle.kept_requests.proofs.ServedLaws.{AnswersIn}
use Rattle.reached_domains.specs.Domains.{asked_request}
use Rattle.stall_laws.specs.Clients.{AsAsk, AsWait, KeptAs}

-- ---- what a client keeps

-- a `wait` that is kept under that number is what such bytes ask, and so is an ask of a device
pub record IsTied (s : ClientProcs) (tx : TxNo) (bytes : List ℕ) : Type 0 where
  pub waits : (body : Request) → asked_request bytes ≡ Some body → IsWaitKept tx s → asks_wait body ≡ true
  pub asks : (body : Request) → asked_request bytes ≡ Some body → IsAskKept tx s → asks_device body ≡ true

abbrev pub Tied : ClientProcs → Call → Type 0
Tied s call = IsTied s call.tx call.body

pub record ClientSo (machine : Machine) (s : ClientProcs) : Type 0 where
  pub begun : (tx : TxNo) → machine.begun < tx.0 → kept tx s ≡ 0
  pub tied : AllByRecursion (Tied s) machine.unfinished

-- ---- calls of the wire

-- a fact of each call's number and bytes lasts, where it is one of a call that begins
module _ (G : TxNo → List ℕ → Type 0) where
  abbrev Each : List Call → Type 0
  Each calls = AllByRecursion (λ (call : Call). G call.tx call.body) calls

  alike : (p : Call → Bool) (f : Call → Call) → ((call : Call) → G call.tx call.body → G (f call).tx (f call).body) → (calls : List Call) → Each calls → Each (changed p f calls)
  alike p f same calls h = each_kept (λ (call : Call). G call.tx call.body) p f same calls h

  fewer : (p : Call → Bool) (calls : List Call) → Each calls → Each (less p calls)
  fewer p calls h = each_without (λ (call : Call). G call.tx call.body) p calls h

  back : (o : Option Call) (given : Fate) (machine : Machine) → Each machine.unfinished → Each (replied o given machine).unfinished
  back o given machine h = subst Each (sym (unfinished_replied o given machine).0) h

  arrived : (a : Arrival) (copy : PacketCopy) (given : Fate) (machine : Machine) → Each machine.unfinished → Each (delivered_as a copy given (landed copy machine)).unfinished
  arrived FirstRequest copy given machine h = alike (is_call copy.tx) (further copy.to Holding) (λ call k. k) machine.unfinished h
  arrived FirstReply copy given machine h = fewer (is_call copy.tx) machine.unfinished h
  arrived AskedAgain copy given machine h = back (call_of (landed copy machine) copy.tx) given (landed copy machine) h
  arrived Past copy given machine h = h

  delivered : (o : Option PacketCopy) (given : Fate) (machine : Machine) → Each machine.unfinished → Each (delivered_by o given machine).unfinished
  delivered None given machine h = h
  delivered (Some copy) given machine h = arrived (arrival machine copy) copy given machine h

  expired : (o : Option Call) (tx : TxNo) (sent : List (ℕ × Fate)) (machine : Machine) → Each machine.unfinished → Each (expired_by tx o sent machine).unfinished
  expired None tx sent machine h = h
  expired (Some call) tx sent machine h =
      elim (is_last call) as (λ b. Each (cond b (gave_up tx machine) (resent tx (Some call) sent machine)).unfinished) [ true ↦ fewer (is_call tx) machine.unfinished h | false ↦ alike (is_call tx) tried (λ call k. k) machine.unfinished h ]

  each_after : (act : Act) (machine : Machine) → ((bytes : List ℕ) → G (record { 0 = machine.begun + 1 }) bytes) → Each machine.unfinished → Each (after machine act).unfinished
  each_after (Begin from port servers owner body tries about before sent) machine new h = each_push (λ (call : Call). G call.tx call.body) machine.unfinished _ h (new body)
  each_after (Deliver number given) machine new h = delivered (copy_of machine number) given machine h
  each_after (Answer tx body given) machine new h = alike (is_call tx) (answered body) (λ call k. k) (replied (call_of machine tx) given machine).unfinished (back (call_of machine tx) given machine h)
  each_after (Silence tx at) machine new h = alike (is_call tx) (further at Silent) (λ call k. k) machine.unfinished h
  each_after (Expire tx sent) machine new h = expired (call_of machine tx) tx sent machine h

none_waits : (w a : ℕ) → w + a ≡ 0 → 1 ≤ w → ⊥
none_waits w a e h = absurd (omega arith)

none_asks : (w a : ℕ) → w + a ≡ 0 → 1 ≤ a → ⊥
none_asks w a e h = absurd (omega arith)

untied : (s : ClientProcs) (tx : TxNo) (bytes : List ℕ) → kept tx s ≡ 0 → IsTied s tx bytes
untied s tx bytes none = record {
  waits = λ body asks has. absurd (none_waits (waits_kept tx s) (asks_kept tx s) none has);
  asks = λ body asks has. absurd (none_asks (waits_kept tx s) (asks_kept tx s) none has);
}

pub client_after : (act : Act) (machine : Machine) (s : ClientProcs) → ClientSo machine s → ClientSo (after machine act) s
client_after act machine s h = record {
  begun = λ tx later. let grown = begun_grows machine act in h.begun tx (omega arith);
  tied = each_after (IsTied s) act machine (λ bytes. untied s (record { 0 = machine.begun + 1 }) bytes (h.begun (record { 0 = machine.begun + 1 }) (omega arith))) h.tied;
}

-- a request is handed out
pub client_handed : (copy : PacketCopy) (machine : Machine) (s : ClientProcs) → ClientSo machine s → ClientSo (delivered_as FirstRequest copy Once (landed copy machine)) s
client_handed copy machine s h = record { begun = h.begun; tied = arrived (IsTied s) FirstRequest copy Once machine h.tied }

pub client_run : (steps : List (Act × Counts)) (machine : Machine) (s : ClientProcs) → ClientSo machine s → ClientSo (reached machine steps) s
client_run [] machine s h = h
client_run (first ∷ rest) machine s h = client_run rest (after machine first.0) s (client_after first.0 machine s h)

-- ---- what comes

-- a request that comes is that of the unfinished call of its number
abbrev pub Fits : Input → Machine → Type 0
Fits (inputs.Request tx source body) machine = (found : Call) × (call_of machine tx ≡ Some found) × (asked_request found.body ≡ Some body)
Fits input machine = Unit {0}

-- the changed call is found
found_changed : (f : Call → Call) → ((call : Call) → (f call).tx ≡ call.tx) → (tx : TxNo) (call : Call) (calls : List Call) → find (is_call tx) calls ≡ Some call → find (is_call tx) (changed (is_call tx) f calls) ≡ Some (f call)
found_changed f same tx call [] e = absurd (cc)
found_changed f same tx call (first ∷ rest) e = by (is_call tx first) refl e (found_changed f same tx call rest)
  where
    by : (b : Bool) → is_call tx first ≡ b → cond b (Some first) (find (is_call tx) rest) ≡ Some call → (find (is_call tx) rest ≡ Some call → find (is_call tx) (changed (is_call tx) f rest) ≡ Some (f call)) → find (is_call tx) (cond b (f first ∷ rest) (first ∷ changed (is_call tx) f rest)) ≡ Some (f call)
    by true is here later = ap (λ b. cond b (Some (f first)) (find (is_call tx) rest)) (ap (λ (number : TxNo). number.0 == tx.0) (same first) ∙ is) ∙ ap (λ (one : Call). Some (f one)) (some_is first call here)
    by false off here later = ap (λ b. cond b (Some first) (find (is_call tx) (changed (is_call tx) f rest))) off ∙ later here

pub fits_handed : (copy : PacketCopy) (call : Call) (source : ℕ) (body : Request) (machine : Machine) → call_of machine copy.tx ≡ Some call → asked_request call.body ≡ Some body → Fits (inputs.Request copy.tx source body) (delivered_as FirstRequest copy Once (landed copy machine))
fits_handed copy call source body machine there asks = (further copy.to Holding call, found_changed (further copy.to Holding) (λ one. refl) copy.tx call machine.unfinished there, asks)

not_one : (b : Bool) → b ≡ false → one_if b ≡ 0
not_one true e = absurd (cc)
not_one false e = refl

none_if : (b : Bool) (n : ℕ) → n ≡ 0 → cond b n 0 ≡ 0
none_if true n e = e
none_if false n e = refl

is_asked : (b : Bool) (n : ℕ) → 1 ≤ cond b n 0 → b ≡ true
is_asked true n h = refl
is_asked false n h = absurd (omega arith)

-- another call's number
other_waits : (asker : TxNo) (source : ℕ) (body : Request) (tx : TxNo) → (asker.0 == tx.0) ≡ false → wait_in tx (inputs.Request asker source body) ≡ 0
other_waits asker source body tx off = none_if (asks_wait body) (one_if (procs.is_call asker tx)) (not_one (procs.is_call asker tx) off)

other_asks : (asker : TxNo) (source : ℕ) (body : Request) (tx : TxNo) → (asker.0 == tx.0) ≡ false → ask_in tx (inputs.Request asker source body) ≡ 0
other_asks asker source body tx off = none_if (asks_device body) (one_if (procs.is_call asker tx)) (not_one (procs.is_call asker tx) off)

apart : (n m : ℕ) → (n == m) ≡ false → (m == n) ≡ false
apart n m off = by (m == n) refl
  where
    by : (b : Bool) → (m == n) ≡ b → b ≡ false
    by true e = absurd (true≢false (sym (ap (λ k. n == k) (eqb-true m n e) ∙ eq_same n) ∙ off))
    by false e = refl

beyond : (n m last : ℕ) → n ≤ last → last < m → (n == m) ≡ false
beyond n m last low high = by (n == m) refl
  where
    by : (b : Bool) → (n == m) ≡ b → b ≡ false
    by true e = let same : n ≡ m = eqb-true n m e in absurd (omega (arith, same, low, high))
    by false e = refl

as_before : (n v m : ℕ) → n ≤ m + v → v ≡ 0 → 1 ≤ n → 1 ≤ m
as_before n v m h e k = omega arith

at_most : (n v m : ℕ) → n ≤ m + v → 1 ≤ n → 1 ≤ m + v
at_most n v m h k = omega arith

none_more : (w a v x n m : ℕ) → n ≤ w + v → m ≤ a + x → w + a ≡ 0 → v ≡ 0 → x ≡ 0 → n + m ≡ 0
none_more w a v x n m h k e f g = omega arith

module _ (machine : Machine) (s : ClientProcs) (input : Input) (next : TxNo) (step : ℕ) where
  abbrev behind : ClientProcs
  behind = (client_step s input next step).0

  -- nothing of it came
  tied_still : (tx : TxNo) (bytes : List ℕ) → wait_in tx input ≡ 0 → ask_in tx input ≡ 0 → IsTied s tx bytes → IsTied behind tx bytes
  tied_still tx bytes no_wait no_ask h =
      let so = steps_take_so s input next step tx in
      record {
        waits = λ body asks has. h.waits body asks (as_before (waits_kept tx behind) (wait_in tx input) (waits_kept tx s) so.waits no_wait has);
        asks = λ body asks has. h.asks body asks (as_before (asks_kept tx behind) (ask_in tx input) (asks_kept tx s) so.asks no_ask has);
      }

  none_still : (tx : TxNo) → wait_in tx input ≡ 0 → ask_in tx input ≡ 0 → kept tx s ≡ 0 → kept tx behind ≡ 0
  none_still tx no_wait no_ask none =
      let so = steps_take_so s input next step tx in
      none_more (waits_kept tx s) (asks_kept tx s) (wait_in tx input) (ask_in tx input) (waits_kept tx behind) (asks_kept tx behind) so.waits so.asks none no_wait no_ask

  still : ((tx : TxNo) → wait_in tx input ≡ 0) → ((tx : TxNo) → ask_in tx input ≡ 0) → ClientSo machine s → ClientSo machine behind
  still no_wait no_ask h = record {
    begun = λ tx later. none_still tx (no_wait tx) (no_ask tx) (h.begun tx later);
    tied = each_weaken (Tied s) (Tied behind) machine.unfinished (λ call k. tied_still call.tx call.body (no_wait call.tx) (no_ask call.tx) k) h.tied;
  }

module _ (machine : Machine) (s : ClientProcs) (asker : TxNo) (source : ℕ) (asked : Request) (next : TxNo) (step : ℕ) where
  abbrev taken : ClientProcs
  taken = behind machine s (inputs.Request asker source asked) next step

  -- the call whose request came
  tied_come : (tx : TxNo) (bytes : List ℕ) → asked_request bytes ≡ Some asked → IsTied s tx bytes → IsTied taken tx bytes
  tied_come tx bytes is h =
      let so = steps_take_so s (inputs.Request asker source asked) next step tx in
      record {
        waits = λ body asks has. wait_by body asks (either (waits_kept tx s) (wait_in tx (inputs.Request asker source asked)) (at_most (waits_kept tx taken) (wait_in tx (inputs.Request asker source asked)) (waits_kept tx s) so.waits has));
        asks = λ body asks has. ask_by body asks (either (asks_kept tx s) (ask_in tx (inputs.Request asker source asked)) (at_most (asks_kept tx taken) (ask_in tx (inputs.Request asker source asked)) (asks_kept tx s) so.asks has));
      }
    where
      wait_by : (body : Request) → asked_request bytes ≡ Some body → (1 ≤ waits_kept tx s) ⊎ (1 ≤ wait_in tx (inputs.Request asker source asked)) → asks_wait body ≡ true
      wait_by body asks (inl has) = h.waits body asks has
      wait_by body asks (inr come) = ap asks_wait (some_is body asked (sym asks ∙ is)) ∙ is_asked (asks_wait asked) (one_if (procs.is_call asker tx)) come

      ask_by : (body : Request) → asked_request bytes ≡ Some body → (1 ≤ asks_kept tx s) ⊎ (1 ≤ ask_in tx (inputs.Request asker source asked)) → asks_device body ≡ true
      ask_by body asks (inl has) = h.asks body asks has
      ask_by body asks (inr come) = ap asks_device (some_is body asked (sym asks ∙ is)) ∙ is_asked (asks_device asked) (one_if (procs.is_call asker tx)) come

  come : Ordered machine → Fits (inputs.Request asker source asked) machine → ClientSo machine s → ClientSo machine taken
  come ordered fits h =
      let low : asker.0 ≤ machine.begun = subst (λ n. n ≤ machine.begun) (eqb-true fits.0.tx.0 asker.0 (found_is asker fits.0 machine.unfinished fits.1)) (found_within (is_call asker) 0 machine.begun fits.0 machine.unfinished ordered fits.1) in
      record {
        begun = λ tx later.
            let off : (asker.0 == tx.0) ≡ false = beyond asker.0 tx.0 machine.begun low later in
            none_still machine s (inputs.Request asker source asked) next step tx (other_waits asker source asked tx off) (other_asks asker source asked tx off) (h.begun tx later);
        tied = subst (AllByRecursion (Tied taken)) (changed_same (is_call asker) machine.unfinished)
            (each_changed (Tied s) (Tied taken) asker (λ call. call) 0 machine.begun machine.unfinished ordered
            (λ call off k. let other : (asker.0 == call.tx.0) ≡ false = apart call.tx.0 asker.0 off in tied_still machine s (inputs.Request asker source asked) next step call.tx call.body (other_waits asker source asked call.tx other) (other_asks asker source asked call.tx other) k)
            (λ found e k. tied_come found.tx found.body (ap (λ (call : Call). asked_request call.body) (some_is found fits.0 (sym e ∙ fits.1)) ∙ fits.2) k) h.tied);
      }

pub client_takes : (input : Input) (next : TxNo) (step : ℕ) (machine : Machine) (s : ClientProcs) → Ordered machine → Fits input machine → ClientSo machine s → ClientSo machine (client_step s input next step).0
client_takes (inputs.Request asker source body) next step machine s ordered fits h = come machine s asker source body next step ordered fits h
client_takes input next step machine s ordered fits h = still machine s input next step (λ tx. refl) (λ tx. refl) h

-- ---- other changes

same_kept : (w a v x : ℕ) → v ≡ w → x ≡ a → w + a ≡ 0 → v + x ≡ 0
same_kept w a v x e f none = omega arith

pub client_image : (machine : Machine) (pid : ℕ) (image : processes.Machine) (s : ClientProcs) → ClientSo machine s → ClientSo machine (with_image pid image s)
client_image machine pid image s h = record {
  begun = λ tx later. let same = images_keep_them tx s pid image in same_kept (waits_kept tx s) (asks_kept tx s) (waits_kept tx (with_image pid image s)) (asks_kept tx (with_image pid image s)) same.waits same.asks (h.begun tx later);
  tied = each_weaken (Tied s) (Tied (with_image pid image s)) machine.unfinished
      (λ call k. let same = images_keep_them call.tx s pid image in
      record { waits = λ body asks has. k.waits body asks (subst (λ n. 1 ≤ n) same.waits has); asks = λ body asks has. k.asks body asks (subst (λ n. 1 ≤ n) same.asks has) }) h.tied;
}

pub image_keeps : (tx : TxNo) (pid : ℕ) (image : processes.Machine) (s : ClientProcs) → IsKept tx s → IsKept tx (with_image pid image s)
image_keeps tx pid image s h =
    let same = images_keep_them tx s pid image in
    more_kept (waits_kept tx s) (asks_kept tx s) (waits_kept tx (with_image pid image s)) (asks_kept tx (with_image pid image s)) same.waits same.asks h
  where
    more_kept : (w a v x : ℕ) → v ≡ w → x ≡ a → 1 ≤ w + a → 1 ≤ v + x
    more_kept w a v x e f has = omega arith

pub client_begins : (d : Description) (kernel : ℕ) → ClientSo idle (boots d kernel)
client_begins d kernel = record { begun = λ tx later. begins_with_none d kernel tx; tied = tt }

-- ---- what a client owes an answer

there_in : (answers : List (TxNo × ReplyBody)) (tx : TxNo) (reply : ReplyBody) (at : ℕ) → slice_get answers at ≡ Some (tx, reply) → AnswersIn tx answers
there_in [] tx reply at e = absurd (cc)
there_in (answer ∷ answers) tx reply zero e = inl (ap (λ (one : TxNo × ReplyBody). one.0) (some_is answer (tx, reply) e))
there_in (answer ∷ answers) tx reply (suc at) e = inr (there_in answers tx reply at e)

pub client_owes : (s : ClientProcs) (input : Input) (next : TxNo) (step : ℕ) (tx : TxNo) → IsOwed tx s input → AnswersIn tx (client_step s input next step).1.answers ⊎ IsKept tx (client_step s input next step).0
client_owes s input next step tx owed = by (owed_are_answered_or_kept s input next step tx owed)
  where
    by : IsAnswered tx (client_step s input next step).1 ⊎ IsKept tx (client_step s input next step).0 → AnswersIn tx (client_step s input next step).1.answers ⊎ IsKept tx (client_step s input next step).0
    by (inl h) = let row = answered_is_there tx (client_step s input next step).1 h in inl (there_in (client_step s input next step).1.answers tx row.reply row.at row.there)
    by (inr h) = inr h

pub was_kept : (s : ClientProcs) (input : Input) (tx : TxNo) → IsKept tx s → IsOwed tx s input
was_kept s input tx h = WasKept h

pub has_come : (s : ClientProcs) (input : Input) (tx : TxNo) (source : ℕ) (body : Request) → input ≡ inputs.Request tx source body → is_left body s ≡ false → IsOwed tx s input
has_come s input tx source body is off = HasCome source body is off

-- what is kept stands in a row, and is what its call asks
pub kept_as : (machine : Machine) (s : ClientProcs) (tx : TxNo) (call : Call) (body : Request) → ClientSo machine s → call_of machine tx ≡ Some call → asked_request call.body ≡ Some body → IsKept call.tx s → KeptAs call.tx s body
kept_as machine s tx call body h there asks has = by (either (waits_kept call.tx s) (asks_kept call.tx s) has)
  where
    tied : IsTied s call.tx call.body
    tied = found_sound (Tied s) (is_call tx) call machine.unfinished there h.tied

    by : IsWaitKept call.tx s ⊎ IsAskKept call.tx s → KeptAs call.tx s body
    by (inl wait) = AsWait (wait_there call.tx s wait) (tied.waits body asks wait)
    by (inr ask) = AsAsk (ask_there call.tx s ask) (tied.asks body asks ask)
