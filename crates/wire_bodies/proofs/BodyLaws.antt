-- Each call of the wire keeps what remote calls ask.
use Rattle.std.proofs.Common.{arith, ◌≡◌, ℕ, ◌+◌, ◌≤◌, ◌==◌, Bool, true, false, cond, List, [], ◌∷◌, ◌++◌, Option, Some, None, refl, sym, ap, ◌∙◌}
use Rattle.std.specs.List.{find}
use Rattle.std.proofs.lemmas.Bool.{ne_eqb}
use Rattle.sprite_ids.specs.declared.TxNo.{TxNo}
use Rattle.sprite_ids.specs.Lists.{changed, less}
use Rattle.sprite_ids.proofs.OnceLaws.{nothing_found}
use Rattle.link_plan.specs.declared.Fate.{Fate}
use Rattle.kernel_rpc.specs.declared.call.Part.TheVariants.{Holding, Silent}
use Rattle.kernel_rpc.specs.declared.call.Arrival.{Arrival}
use Rattle.kernel_rpc.specs.declared.call.Arrival.TheVariants.{FirstRequest, FirstReply, AskedAgain, Past}
use Rattle.kernel_rpc.specs.declared.call.Call.{Call}
use Rattle.kernel_rpc.specs.declared.call.PacketCopy.{PacketCopy}
use Rattle.kernel_rpc.specs.Bodies.{body_of}
use Rattle.kernel_rpc.specs.Histories.{reached}
use Rattle.kernel_rpc.specs.Machine.{Machine, answered, arrival, call_of, copy_of, delivered_as, further, gave_up, is_call, is_last, landed, new_call, replied, resent, tried}
use Rattle.kernel_rpc.specs.Runs.{Act, Begin, Deliver, Answer, Silence, Expire, Counts, after, delivered_by, expired_by}
use Rattle.kernel_rpc.specs.Sound.{IsNumbered}
use Rattle.kernel_rpc.proofs.NumberLaws.{none_after}
use Rattle.kernel_rpc.proofs.RunLaws.{Ordered, ordered_after, unfinished_replied}
use Rattle.wire_bodies.specs.Bodies.{BodiesStay, KeepsBodies}

-- the request of the first call of that number
abbrev body_in : TxNo → List Call → Option (List ℕ)
body_in tx calls = body_of (find (is_call tx) calls)

-- ---- lists of calls

head_by : (b : Bool) (x y : Call) (z w : Option Call) → x.body ≡ y.body → body_of z ≡ body_of w → body_of (cond b (Some x) z) ≡ body_of (cond b (Some y) w)
head_by true x y z w e h = ap (λ (body : List ℕ). Some body) e
head_by false x y z w e h = h

head_same : (tx : TxNo) (x y : Call) (z w : Option Call) → x.tx ≡ y.tx → x.body ≡ y.body → body_of z ≡ body_of w → body_of (cond (is_call tx x) (Some x) z) ≡ body_of (cond (is_call tx y) (Some y) w)
head_same tx x y z w t e h = ap (λ (number : TxNo). body_of (cond (number.0 == tx.0) (Some x) z)) t ∙ head_by (is_call tx y) x y z w e h

-- a change that leaves numbers and requests
body_changed : (tx : TxNo) (p : Call → Bool) (f : Call → Call) → ((call : Call) → (f call).tx ≡ call.tx) → ((call : Call) → (f call).body ≡ call.body) → (calls : List Call) → body_in tx (changed p f calls) ≡ body_in tx calls
body_changed tx p f number body [] = refl
body_changed tx p f number body (call ∷ calls) =
    elim (p call) as (λ b. body_in tx (cond b (f call ∷ calls) (call ∷ changed p f calls)) ≡ body_in tx (call ∷ calls)) [
      | true ↦ head_same tx (f call) call (find (is_call tx) calls) (find (is_call tx) calls) (number call) (body call) refl
      | false ↦ head_same tx call call (find (is_call tx) (changed p f calls)) (find (is_call tx) calls) refl refl (body_changed tx p f number body calls)
    ]

-- one more, of another number
body_pushed : (tx : TxNo) (new : Call) (calls : List Call) → is_call tx new ≡ false → body_in tx (calls ++ new ∷ []) ≡ body_in tx calls
body_pushed tx new [] apart = ap (λ b. body_of (cond b (Some new) None)) apart
body_pushed tx new (call ∷ calls) apart = head_by (is_call tx call) call call (find (is_call tx) (calls ++ new ∷ [])) (find (is_call tx) calls) refl (body_pushed tx new calls apart)

dropped_here : (b : Bool) (call : Call) (rest : Option Call) (body : List ℕ) → (b ≡ true → rest ≡ None) → body_of rest ≡ Some body → body_of (cond b (Some call) rest) ≡ Some body
dropped_here true call rest body none e = absurd (let same : None ≡ Some body = ap body_of (sym (none refl)) ∙ e in cc)
dropped_here false call rest body none e = e

dropped_past : (b : Bool) (call : Call) (z w : Option Call) (body : List ℕ) → (body_of z ≡ Some body → body_of w ≡ Some body) → body_of (cond b (Some call) z) ≡ Some body → body_of (cond b (Some call) w) ≡ Some body
dropped_past true call z w body later e = e
dropped_past false call z w body later e = later e

-- one fewer
body_dropped : (tx key : TxNo) (first last : ℕ) (calls : List Call) (body : List ℕ) → IsNumbered first calls last → body_in tx (less (is_call key) calls) ≡ Some body → body_in tx calls ≡ Some body
body_dropped tx key first last [] body h e = e
body_dropped tx key first last (call ∷ calls) body h e = by (is_call key call) e (body_dropped tx key call.tx.0 last calls body h.1)
  where
    by : (b : Bool) → body_in tx (cond b calls (call ∷ less (is_call key) calls)) ≡ Some body → (body_in tx (less (is_call key) calls) ≡ Some body → body_in tx calls ≡ Some body) → body_in tx (call ∷ calls) ≡ Some body
    by true e later = dropped_here (is_call tx call) call (find (is_call tx) calls) body (λ is. nothing_found (is_call tx) calls (none_after tx first last call calls is h)) e
    by false e later = dropped_past (is_call tx call) call (find (is_call tx) (less (is_call key) calls)) (find (is_call tx) calls) body later e

-- ---- calls of the wire

-- what leaves the count of calls, and each request that there still is
stays : (machine new : Machine) → new.begun ≡ machine.begun → ((tx : TxNo) (body : List ℕ) → body_in tx new.unfinished ≡ Some body → body_in tx machine.unfinished ≡ Some body) → KeepsBodies machine new
stays machine new same h = record { more = omega (arith, same); same = λ tx body low e. h tx body e }

stays_changed : (machine new : Machine) (p : Call → Bool) (f : Call → Call) → ((call : Call) → (f call).tx ≡ call.tx) → ((call : Call) → (f call).body ≡ call.body) → new.begun ≡ machine.begun → new.unfinished ≡ changed p f machine.unfinished → KeepsBodies machine new
stays_changed machine new p f number body same is = stays machine new same (λ tx request e. sym (body_changed tx p f number body machine.unfinished) ∙ (sym (ap (body_in tx) is) ∙ e))

stays_dropped : (machine new : Machine) (key : TxNo) → Ordered machine → new.begun ≡ machine.begun → new.unfinished ≡ less (is_call key) machine.unfinished → KeepsBodies machine new
stays_dropped machine new key h same is = stays machine new same (λ tx request e. body_dropped tx key 0 machine.begun machine.unfinished request h (sym (ap (body_in tx) is) ∙ e))

stays_same : (machine new : Machine) → new.begun ≡ machine.begun → new.unfinished ≡ machine.unfinished → KeepsBodies machine new
stays_same machine new same is = stays machine new same (λ tx request e. sym (ap (body_in tx) is) ∙ e)

arrived_stays : (a : Arrival) (copy : PacketCopy) (given : Fate) (machine : Machine) → Ordered machine → KeepsBodies machine (delivered_as a copy given (landed copy machine))
arrived_stays FirstRequest copy given machine h = stays_changed machine (delivered_as FirstRequest copy given (landed copy machine)) (is_call copy.tx) (further copy.to Holding) (λ call. refl) (λ call. refl) refl refl
arrived_stays FirstReply copy given machine h = stays_dropped machine (delivered_as FirstReply copy given (landed copy machine)) copy.tx h refl refl
arrived_stays AskedAgain copy given machine h =
    let there = unfinished_replied (call_of (landed copy machine) copy.tx) given (landed copy machine) in
    stays_same machine (delivered_as AskedAgain copy given (landed copy machine)) there.1 there.0
arrived_stays Past copy given machine h = stays_same machine (delivered_as Past copy given (landed copy machine)) refl refl

delivered_stays : (o : Option PacketCopy) (given : Fate) (machine : Machine) → Ordered machine → KeepsBodies machine (delivered_by o given machine)
delivered_stays None given machine h = stays_same machine machine refl refl
delivered_stays (Some copy) given machine h = arrived_stays (arrival machine copy) copy given machine h

expired_by_test : (b : Bool) (call : Call) (tx : TxNo) (sent : List (ℕ × Fate)) (machine : Machine) → Ordered machine → KeepsBodies machine (cond b (gave_up tx machine) (resent tx (Some call) sent machine))
expired_by_test true call tx sent machine h = stays_dropped machine (gave_up tx machine) tx h refl refl
expired_by_test false call tx sent machine h = stays_changed machine (resent tx (Some call) sent machine) (is_call tx) tried (λ call. refl) (λ call. refl) refl refl

expired_stays : (o : Option Call) (tx : TxNo) (sent : List (ℕ × Fate)) (machine : Machine) → Ordered machine → KeepsBodies machine (expired_by tx o sent machine)
expired_stays None tx sent machine h = stays_same machine machine refl refl
expired_stays (Some call) tx sent machine h = expired_by_test (is_last call) call tx sent machine h

answered_stays : (o : Option Call) (tx : TxNo) (body : List ℕ) (given : Fate) (machine new : Machine) → new.begun ≡ (replied o given machine).begun → new.unfinished ≡ changed (is_call tx) (answered body) (replied o given machine).unfinished → KeepsBodies machine new
answered_stays None tx body given machine new same is = stays_changed machine new (is_call tx) (answered body) (λ call. refl) (λ call. refl) same is
answered_stays (Some call) tx body given machine new same is = stays_changed machine new (is_call tx) (answered body) (λ call. refl) (λ call. refl) same is

pub after_stays : (machine : Machine) (act : Act) → Ordered machine → KeepsBodies machine (after machine act)
after_stays machine (Begin from port servers owner body tries about before sent) h =
    let new : Call = new_call machine from port servers owner body tries about before in
    record { more = omega arith; same = λ tx request low e. sym (body_pushed tx new machine.unfinished (ne_eqb (machine.begun + 1) tx.0 (λ same. omega arith))) ∙ e }
after_stays machine (Deliver number given) h = delivered_stays (copy_of machine number) given machine h
after_stays machine (Answer tx body given) h = answered_stays (call_of machine tx) tx body given machine (after machine (Answer tx body given)) refl refl
after_stays machine (Silence tx kernel) h = stays_changed machine (after machine (Silence tx kernel)) (is_call tx) (further kernel Silent) (λ call. refl) (λ call. refl) refl refl
after_stays machine (Expire tx sent) h = expired_stays (call_of machine tx) tx sent machine h

-- ---- runs

pub stays_itself : (machine : Machine) → KeepsBodies machine machine
stays_itself machine = stays_same machine machine refl refl

pub stays_through : (one two three : Machine) → KeepsBodies one two → KeepsBodies two three → KeepsBodies one three
stays_through one two three a b =
    let first : one.begun ≤ two.begun = a.more in
    let second : two.begun ≤ three.begun = b.more in
    record { more = omega (arith, first, second); same = λ tx request low e. a.same tx request low (b.same tx request (within tx low first) e) }
  where
    within : (tx : TxNo) → tx.0 ≤ one.begun → one.begun ≤ two.begun → tx.0 ≤ two.begun
    within tx low more = omega (arith, low, more)

pub ordered_run : (steps : List (Act × Counts)) (machine : Machine) → Ordered machine → Ordered (reached machine steps)
ordered_run [] machine h = h
ordered_run (first ∷ rest) machine h = ordered_run rest (after machine first.0) (ordered_after machine first.0 h)

pub run_stays : (steps : List (Act × Counts)) (machine : Machine) → Ordered machine → KeepsBodies machine (reached machine steps)
run_stays [] machine h = stays_itself machine
run_stays (first ∷ rest) machine h =
    stays_through machine (after machine first.0) (reached (after machine first.0) rest) (after_stays machine first.0 h) (run_stays rest (after machine first.0) (ordered_after machine first.0 h))

pub bodies_stay : BodiesStay
bodies_stay machine steps h = run_stays steps machine h
