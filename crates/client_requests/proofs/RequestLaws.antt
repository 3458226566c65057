-- What a client's kernel takes of other kernels' requests it answers in the step or keeps.
use Rattle.std.proofs.Common.{arith, ◌≡◌, ◌⊎◌, inl, inr, refl, ap, ap₂, ◌∙◌, ℕ, zero, suc, ◌+◌, ◌≤◌, Bool, true, false, ◌&&◌, cond, not, Option, Some, None}
use Rattle.sprite_ids.specs.declared.TxNo.{TxNo}
use Rattle.sprite_ids.specs.Lists.{total}
use Rattle.kernel_steps.specs.declared.Input.{Input}
use Rattle.kernel_steps.specs.declared.Input.TheVariants as inputs
use Rattle.kernel_steps.specs.declared.writer.Out.{Out}
use Rattle.process_machine.specs.declared.Reply.{Reply}
use Rattle.packet_bodies.specs.declared.AskRequest.{AskRequest}
use Rattle.packet_bodies.specs.declared.HomeCall.{HomeCall}
use Rattle.packet_bodies.specs.declared.HomeCall.TheVariants as home_calls
use Rattle.packet_bodies.specs.declared.Request.{Request}
use Rattle.packet_bodies.specs.declared.Request.TheVariants as requests
use Rattle.client_files.specs.Turns as file_turns
use Rattle.client_homes.specs.declared.client.ClientProcs.{ClientProcs}
use Rattle.client_homes.specs.Says.{with_files}
use Rattle.client_homes.specs.Waits.{wait_reply}
use Rattle.client_procs.specs.Answered.{serves}
use Rattle.client_procs.specs.Arriving.{is_new}
use Rattle.client_procs.specs.Steps.{begins_step, client_step, parted, takes}
use Rattle.client_procs.specs.Turning as turning
use Rattle.client_procs.specs.Turning.{goes_on, is_quiet}
use Rattle.client_walks.proofs.Deeds.{nothing}
use Rattle.client_walks.proofs.WalkLaws as walks
use Rattle.client_requests.specs.Kept.{IsAnswered, answers_in, ask_of, asks_kept, kept, wait_of, waits_kept}
use Rattle.client_requests.specs.Requests.{AskTaken, BeginsWithNone, CallTaken, ImagesKeepThem, KeptOrAnswered, NewAreTaken, NothingElseIsKept, OthersAreLeft, RequestsAreTaken, StepsTakeSo, TakenSo, TakesSo, WaitTaken, ask_in, is_left, taken_in, wait_in}
use Rattle.client_requests.proofs.CountLaws.{Counts, Follows, View, follows_same}
use Rattle.client_requests.proofs.ServedLaws as served
use Rattle.client_requests.proofs.ServedLaws.{more_answers, more_asks, more_waits, no_request, now, self_call}
use Rattle.client_requests.proofs.StepKeeping.{ComesNone, Holds, within}
use Rattle.client_requests.proofs.ViewLaws as frames

-- ---- rounds, and steps in which no request comes that may be kept

rounds_follow : (tx : TxNo) (c : Counts) (s : ClientProcs) → Follows c (now tx s) → Follows c (now tx (goes_on s))
rounds_follow tx c s p = walks.walk_rounds (Holds tx c) no_request (within tx c no_request tt) nothing s p

step_follows : (tx : TxNo) (input : Input) (s : ClientProcs) → ComesNone input → Follows (now tx s) (now tx (goes_on (takes input s)))
step_follows tx input s none = walks.walk_within (Holds tx (now tx s)) input (within tx (now tx s) input none) nothing s (follows_same (now tx s))

-- ---- whatever comes

-- from what follows
takes_by : (w a f v x : ℕ) (first last : Counts) → Follows first last → w + a + f ≤ first.waits + first.asks + first.answers → first.waits ≤ w + v → first.asks ≤ a + x
    → (w + a + f ≤ last.waits + last.asks + last.answers) × (last.waits ≤ w + v) × (last.asks ≤ a + x)
takes_by w a f v x first last p all waits asks = (let w0 = p.waits in let a0 = p.asks in let n0 = p.none_lost in (omega arith, omega arith, omega arith))

-- numbers of `wait`s and asks that are kept, of answers, and of what is taken
all_same : (w a f : ℕ) → f ≡ 0 → w + a + f ≤ w + a + 0
all_same w a f e = omega arith

at_most : (n m : ℕ) → n ≤ n + m
at_most n m = omega arith

few_by : (b : Bool) (n : ℕ) → cond b 0 n ≤ n
few_by true n = omega arith
few_by false n = omega arith

answered_all : (w a f n : ℕ) → f ≤ n → w + a + f ≤ w + a + (0 + n)
answered_all w a f n e = omega arith

waiting_all : (w a n : ℕ) → w + a + n ≤ w + n + a + 0
waiting_all w a n = omega arith

asking_all : (w a n : ℕ) → w + a + n ≤ w + (a + n) + 0
asking_all w a n = omega arith

same_number : (n : ℕ) → n ≤ n
same_number n = omega arith

module _ (tx : TxNo) (s : ClientProcs) (next : TxNo) (step : ℕ) where
  abbrev Takes : Input → Type 0
  Takes input = TakesSo tx s input (client_step s input next step)

  abbrev begun : ClientProcs
  begun = begins_step next step s

  taken_by : (input : Input) (first : Counts) → Follows first (now tx (goes_on (takes input begun))) → waits_kept tx s + asks_kept tx s + taken_in tx input s ≤ first.waits + first.asks + first.answers
      → first.waits ≤ waits_kept tx s + wait_in tx input → first.asks ≤ asks_kept tx s + ask_in tx input → Takes input
  taken_by input first p all waits asks =
      let so = takes_by (waits_kept tx s) (asks_kept tx s) (taken_in tx input s) (wait_in tx input) (ask_in tx input) first (now tx (goes_on (takes input begun))) p all waits asks in
      record { none_lost = so.0; waits = so.1; asks = so.2 }

  -- nothing is taken
  plain : (input : Input) → ComesNone input → taken_in tx input s ≡ 0 → Takes input
  plain input none e =
      taken_by input (now tx begun) (step_follows tx input begun none) (all_same (waits_kept tx s) (asks_kept tx s) (taken_in tx input s) e) (at_most (waits_kept tx s) (wait_in tx input)) (at_most (asks_kept tx s) (ask_in tx input))

  -- what is taken is answered at once
  answered : (asker : TxNo) (source : ℕ) (body : Request) → Follows (more_answers (served.one tx asker) (now tx begun)) (now tx (serves asker body begun)) → Takes (inputs.Request asker source body)
  answered asker source body p =
      let first : Counts = more_answers (served.one tx asker) (now tx begun) in
      let input : Input = inputs.Request asker source body in
      taken_by input first (rounds_follow tx first (serves asker body begun) p) (answered_all (waits_kept tx s) (asks_kept tx s) (taken_in tx input s) (served.one tx asker) (few_by (is_left body s) (served.one tx asker)))
      (at_most (waits_kept tx s) (wait_in tx input)) (at_most (asks_kept tx s) (ask_in tx input))

  wait_taken : (o : Option Reply) (asker : TxNo) (source pid number : ℕ) → Follows (served.wait_first tx asker o (now tx begun)) (now tx (serves asker (requests.Home (record { pid = pid; number = number; call = home_calls.Wait })) begun))
      → Takes (inputs.Request asker source (requests.Home (record { pid = pid; number = number; call = home_calls.Wait })))
  wait_taken (Some reply) asker source pid number p = answered asker source (requests.Home (record { pid = pid; number = number; call = home_calls.Wait })) p
  wait_taken None asker source pid number p =
      let body : Request = requests.Home (record { pid = pid; number = number; call = home_calls.Wait }) in
      let first : Counts = more_waits (served.one tx asker) (now tx begun) in
      taken_by (inputs.Request asker source body) first (rounds_follow tx first (serves asker body begun) p) (waiting_all (waits_kept tx s) (asks_kept tx s) (served.one tx asker))
      (same_number (waits_kept tx s + served.one tx asker)) (at_most (asks_kept tx s) 0)

  -- any other call
  call_taken : (call : HomeCall) (asker : TxNo) (source pid number : ℕ) → served.IsOther call → Takes (inputs.Request asker source (requests.Home (record { pid = pid; number = number; call = call })))
  call_taken call asker source pid number other = answered asker source (requests.Home (record { pid = pid; number = number; call = call })) (served.call_served tx asker call pid number begun other)

  home_taken : (call : HomeCall) (asker : TxNo) (source pid number : ℕ) → Takes (inputs.Request asker source (requests.Home (record { pid = pid; number = number; call = call })))
  home_taken (home_calls.Print bytes) asker source pid number = call_taken (home_calls.Print bytes) asker source pid number tt
  home_taken (home_calls.Exit code) asker source pid number = call_taken (home_calls.Exit code) asker source pid number tt
  home_taken home_calls.Getppid asker source pid number = call_taken home_calls.Getppid asker source pid number tt
  home_taken (home_calls.Host max) asker source pid number = call_taken (home_calls.Host max) asker source pid number tt
  home_taken home_calls.Tick asker source pid number = call_taken home_calls.Tick asker source pid number tt
  home_taken home_calls.Fork asker source pid number = call_taken home_calls.Fork asker source pid number tt
  home_taken home_calls.Wait asker source pid number = wait_taken (wait_reply pid s) asker source pid number (served.wait_served tx asker pid number begun)
  home_taken (home_calls.Kill target) asker source pid number = call_taken (home_calls.Kill target) asker source pid number tt

  ask_taken : (asker : TxNo) (source : ℕ) (request : AskRequest) → Takes (inputs.Request asker source (requests.Ask request))
  ask_taken asker source request =
      let first : Counts = more_asks (served.one tx asker) (now tx begun) in
      taken_by (inputs.Request asker source (requests.Ask request)) first (rounds_follow tx first (serves asker (requests.Ask request) begun) (served.ask_served tx asker request begun))
      (asking_all (waits_kept tx s) (asks_kept tx s) (served.one tx asker)) (at_most (waits_kept tx s) 0) (same_number (asks_kept tx s + served.one tx asker))

  -- a process is taken in, unless the kernel knows it
  comes_by : (b : Bool) (pid : ℕ) (asker : TxNo) (source : ℕ) (body : Request) → is_new pid s ≡ b → ComesNone (inputs.Request asker source body) → taken_in tx (inputs.Request asker source body) s ≡ cond (not (is_new pid s)) 0 (served.one tx asker)
      → (is_new pid s ≡ true → Follows (more_answers (served.one tx asker) (now tx begun)) (now tx (serves asker body begun))) → Takes (inputs.Request asker source body)
  comes_by true pid asker source body new none is p = answered asker source body (p new)
  comes_by false pid asker source body new none is p = plain (inputs.Request asker source body) none (is ∙ ap (λ (b : Bool). cond (not b) 0 (served.one tx asker)) new)

  request_taken : (body : Request) (asker : TxNo) (source : ℕ) → Takes (inputs.Request asker source body)
  request_taken (requests.Callback request) asker source = answered asker source (requests.Callback request) (served.callback_served tx asker request begun)
  request_taken (requests.Home request) asker source = home_taken request.call asker source request.pid request.number
  request_taken (requests.Transfer request) asker source = comes_by (is_new request.pid s) request.pid asker source (requests.Transfer request) refl tt refl (λ new. served.transfer_served tx asker request begun new)
  request_taken (requests.Launch request) asker source = comes_by (is_new request.pid s) request.pid asker source (requests.Launch request) refl tt refl (λ new. served.launch_served tx asker request begun new)
  request_taken (requests.Place pid kernel) asker source = answered asker source (requests.Place pid kernel) (served.place_served tx asker pid kernel begun)
  request_taken (requests.Killed pid) asker source = answered asker source (requests.Killed pid) (served.kill_served tx asker pid begun)
  request_taken (requests.Ask request) asker source = ask_taken asker source request
  request_taken body asker source = plain (inputs.Request asker source body) tt refl

  input_taken : (input : Input) → Takes input
  input_taken (inputs.Request asker source body) = request_taken body asker source
  input_taken input = plain input tt refl

pub steps_take_so : StepsTakeSo
steps_take_so s input next step tx = input_taken tx s next step input

pub either : (n m : ℕ) → 1 ≤ n + m → (1 ≤ n) ⊎ (1 ≤ m)
either zero m h = inr (omega arith)
either (suc n) m h = inl (omega arith)

some_left : (k f n m : ℕ) → k + f ≤ n + m → 1 ≤ k → 1 ≤ n + m
some_left k f n m h e = omega arith

pub kept_or_answered : KeptOrAnswered
kept_or_answered s input next step tx h =
    let after : ClientProcs × Out = client_step s input next step in
    either (kept tx after.0) (answers_in tx after.1) (some_left (kept tx s) (taken_in tx input s) (kept tx after.0) (answers_in tx after.1) (steps_take_so s input next step tx).none_lost h)

some_before : (w a v x n m : ℕ) → n ≤ w + v → m ≤ a + x → 1 ≤ n + m → 1 ≤ w + a + (v + x)
some_before w a v x n m h k e = omega arith

pub nothing_else_is_kept : NothingElseIsKept
nothing_else_is_kept s input next step tx h =
    let after : ClientProcs × Out = client_step s input next step in
    let so = steps_take_so s input next step tx in
    either (kept tx s) (wait_in tx input + ask_in tx input) (some_before (waits_kept tx s) (asks_kept tx s) (wait_in tx input) (ask_in tx input) (waits_kept tx after.0) (asks_kept tx after.0) so.waits so.asks h)

-- ---- a request that comes, by cases

at_least : (n m : ℕ) → 1 ≤ n → n ≤ m → 1 ≤ m
at_least n m h k = omega arith

told_by : (n m f : ℕ) → n + f ≤ m → f ≡ 1 → 1 ≤ m
told_by n m f h e = omega arith

waits_or : (w a n w1 a1 r1 : ℕ) → w + n + a + 0 ≤ w1 + a1 + r1 → a1 ≤ a → n ≡ 1 → 1 ≤ r1 + w1
waits_or w a n w1 a1 r1 h k e = omega arith

asks_or : (w a n w1 a1 r1 : ℕ) → w + (a + n) + 0 ≤ w1 + a1 + r1 → w1 ≤ w → n ≡ 1 → 1 ≤ r1 + a1
asks_or w a n w1 a1 r1 h k e = omega arith

module _ (tx : TxNo) (source : ℕ) (s : ClientProcs) (next : TxNo) (step : ℕ) where
  abbrev opened : ClientProcs
  opened = begins_step next step s

  abbrev After : Request → ClientProcs × Out
  After body = client_step s (inputs.Request tx source body) next step

  -- it is answered before the rounds
  told : (body : Request) (c : Counts) → Follows c (now tx (serves tx body opened)) → 1 ≤ c.answers → IsAnswered tx (After body).1
  told body c p h = at_least c.answers (answers_in tx (After body).1) h (rounds_follow tx c (serves tx body opened) p).answers

  answered_so : (body : Request) → Follows (more_answers (served.one tx tx) (now tx opened)) (now tx (serves tx body opened)) → IsAnswered tx (After body).1
  answered_so body p = told body (more_answers (served.one tx tx) (now tx opened)) p (told_by 0 (0 + served.one tx tx) (served.one tx tx) (same_number (0 + served.one tx tx)) (self_call tx))

  wait_so : (o : Option Reply) (pid number : ℕ) → Follows (served.wait_first tx tx o (now tx opened)) (now tx (serves tx (requests.Home (record { pid = pid; number = number; call = home_calls.Wait })) opened))
      → WaitTaken tx o (After (requests.Home (record { pid = pid; number = number; call = home_calls.Wait }))).0 (After (requests.Home (record { pid = pid; number = number; call = home_calls.Wait }))).1
  wait_so (Some reply) pid number p = answered_so (requests.Home (record { pid = pid; number = number; call = home_calls.Wait })) p
  wait_so None pid number p =
      let body : Request = requests.Home (record { pid = pid; number = number; call = home_calls.Wait }) in
      let first : Counts = more_waits (served.one tx tx) (now tx opened) in
      let p1 = rounds_follow tx first (serves tx body opened) p in
      either (answers_in tx (After body).1) (waits_kept tx (After body).0)
      (waits_or (waits_kept tx s) (asks_kept tx s) (served.one tx tx) (waits_kept tx (After body).0) (asks_kept tx (After body).0) (answers_in tx (After body).1) p1.none_lost p1.asks (self_call tx))

  call_answered : (call : HomeCall) (pid number : ℕ) → served.IsOther call → IsAnswered tx (After (requests.Home (record { pid = pid; number = number; call = call }))).1
  call_answered call pid number other = answered_so (requests.Home (record { pid = pid; number = number; call = call })) (served.call_served tx tx call pid number opened other)

  call_so : (call : HomeCall) (pid number : ℕ) → CallTaken tx call pid s (After (requests.Home (record { pid = pid; number = number; call = call }))).0 (After (requests.Home (record { pid = pid; number = number; call = call }))).1
  call_so (home_calls.Print bytes) pid number = call_answered (home_calls.Print bytes) pid number tt
  call_so (home_calls.Exit code) pid number = call_answered (home_calls.Exit code) pid number tt
  call_so home_calls.Getppid pid number = call_answered home_calls.Getppid pid number tt
  call_so (home_calls.Host max) pid number = call_answered (home_calls.Host max) pid number tt
  call_so home_calls.Tick pid number = call_answered home_calls.Tick pid number tt
  call_so home_calls.Fork pid number = call_answered home_calls.Fork pid number tt
  call_so home_calls.Wait pid number = wait_so (wait_reply pid s) pid number (served.wait_served tx tx pid number opened)
  call_so (home_calls.Kill target) pid number = call_answered (home_calls.Kill target) pid number tt

  ask_so : (request : AskRequest) → AskTaken tx request s (After (requests.Ask request)).0 (After (requests.Ask request)).1
  ask_so request =
      let first : Counts = more_asks (served.one tx tx) (now tx opened) in
      let body : Request = requests.Ask request in
      let p1 = rounds_follow tx first (serves tx body opened) (served.ask_served tx tx request opened) in
      record {
        dead = λ dead none. told body (now tx (serves tx body opened)) (follows_same (now tx (serves tx body opened))) (served.dead_ask_served tx request opened dead none);
        any = either (answers_in tx (After body).1) (asks_kept tx (After body).0)
            (asks_or (waits_kept tx s) (asks_kept tx s) (served.one tx tx) (waits_kept tx (After body).0) (asks_kept tx (After body).0) (answers_in tx (After body).1) p1.none_lost p1.waits (self_call tx));
      }

  taken_so : (body : Request) → TakenSo tx body s (After body).0 (After body).1
  taken_so (requests.Callback request) = answered_so (requests.Callback request) (served.callback_served tx tx request opened)
  taken_so (requests.Home request) = call_so request.call request.pid request.number
  taken_so (requests.Transfer request) = λ new. answered_so (requests.Transfer request) (served.transfer_served tx tx request opened new)
  taken_so (requests.Launch request) = λ new. answered_so (requests.Launch request) (served.launch_served tx tx request opened new)
  taken_so (requests.Place pid kernel) = answered_so (requests.Place pid kernel) (served.place_served tx tx pid kernel opened)
  taken_so (requests.Killed pid) = answered_so (requests.Killed pid) (served.kill_served tx tx pid opened)
  taken_so (requests.Ask request) = ask_so request
  taken_so body = tt

pub requests_are_taken : RequestsAreTaken
requests_are_taken s tx source body next step = taken_so tx source s next step body

-- ---- what is left alone

not_true : (b : Bool) (x y : ClientProcs) → not b ≡ true → cond (not b) x y ≡ x
not_true true x y e = absurd (cc)
not_true false x y e = refl

left_same : (body : Request) (s : ClientProcs) (tx : TxNo) → is_left body s ≡ true → serves tx body s ≡ s
left_same (requests.Callback request) s tx e = absurd (cc)
left_same (requests.Home request) s tx e = absurd (cc)
left_same (requests.Transfer request) s tx e = not_true (is_new request.pid s) s _ e
left_same (requests.Launch request) s tx e = not_true (is_new request.pid s) s _ e
left_same (requests.Place pid kernel) s tx e = absurd (cc)
left_same (requests.Killed pid) s tx e = absurd (cc)
left_same (requests.Ask request) s tx e = absurd (cc)
left_same body s tx e = refl

-- a kernel that is quiet stays as it is
quiet_if : (b : Bool) (x y : ClientProcs) → b ≡ true → cond b x y ≡ x
quiet_if true x y e = refl
quiet_if false x y e = absurd (cc)

quiet_round : (s : ClientProcs) → is_quiet s ≡ true → turning.turned s ≡ s
quiet_round s e = quiet_if (is_quiet s) s (turning.takes_all (turning.gives_all (with_files (file_turns.goes_on s.files) s))) e

quiet_rounds : (count : ℕ) (s : ClientProcs) → is_quiet s ≡ true → turning.turns count s ≡ s
quiet_rounds zero s e = refl
quiet_rounds (suc count) s e = ap (λ (t : ClientProcs). turning.turned t) (quiet_rounds count s e) ∙ quiet_round s e

left_begun : (body : Request) (s : ClientProcs) (next : TxNo) (step : ℕ) → is_left body s ≡ true → is_left body (begins_step next step s) ≡ true
left_begun (requests.Transfer request) s next step e = e
left_begun body s next step e = e

pub others_are_left : OthersAreLeft
others_are_left s tx source body e = record {
  same = left_same body s tx e;
  quiet = λ next step quiet.
      let begun : ClientProcs = begins_step next step s in
      ap (λ (t : ClientProcs). parted (goes_on t)) (left_same body begun tx (left_begun body s next step e)) ∙ ap (λ (t : ClientProcs). parted t) (quiet_rounds (turning.rounds_for begun) begun quiet);
}

pub new_are_taken : NewAreTaken
new_are_taken pid s new = ap₂ (λ (b c : Bool). not b && not c) new.gone new.stays

-- ---- between steps

pub begins_with_none : BeginsWithNone
begins_with_none d kernel tx = refl

pub images_keep_them : ImagesKeepThem
images_keep_them tx s pid image =
    let so = frames.changed_proc (λ (v : View). (total (wait_of tx) v.waits ≡ waits_kept tx s) × (total (ask_of tx) v.asked ≡ asks_kept tx s)) (λ proc. record proc { image = image }) pid s (refl, refl) in
    record { waits = so.0; asks = so.1 }
