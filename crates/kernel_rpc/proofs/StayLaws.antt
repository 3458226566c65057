-- An unfinished call stays until it is answered or given up.
use Rattle.std.proofs.Common.{◌≡◌, ℕ, ◌==◌, Bool, true, false, ◌&&◌, cond, List, [], ◌∷◌, ◌++◌, Option, Some, None, is_some, refl, sym, ap, subst, ◌∙◌}
use Rattle.std.specs.List.{find}
use Rattle.std.proofs.lemmas.Bool.{eqb-true}
use Rattle.sprite_ids.specs.declared.TxNo.{TxNo}
use Rattle.link_plan.specs.declared.Fate.{Fate}
use Rattle.kernel_rpc.specs.declared.call.Part.TheVariants.{Holding, Silent}
use Rattle.kernel_rpc.specs.declared.call.Arrival.{Arrival}
use Rattle.kernel_rpc.specs.declared.call.Arrival.TheVariants.{FirstRequest, FirstReply, AskedAgain, Past}
use Rattle.kernel_rpc.specs.declared.call.Call.{Call}
use Rattle.kernel_rpc.specs.declared.call.PacketCopy.{PacketCopy}
use Rattle.sprite_ids.specs.Lists.{changed, less}
use Rattle.kernel_rpc.specs.Machine.{Machine, answered, arrival, call_of, copy_of, delivered_as, further, gave_up, is_call, is_last, landed, new_call, replied, resent, tried}
use Rattle.kernel_rpc.specs.Runs.{Begin, Deliver, Answer, Silence, Expire, StaysUntilAnswered, delivered_by, expired_by, gives_up_by, is_first_reply, is_reply_to}

-- whether one of the calls has the number
abbrev is_open : ℕ → List Call → Bool
is_open tx calls = is_some (find (λ (call : Call). call.tx.0 == tx) calls)

same_by : (b : Bool) (x y : Call) (z w : Option Call) → is_some z ≡ is_some w → is_some (cond b (Some x) z) ≡ is_some (cond b (Some y) w)
same_by true x y z w h = refl
same_by false x y z w h = h

open_changed : (tx : ℕ) (p : Call → Bool) (f : Call → Call) → ((call : Call) → (f call).tx ≡ call.tx) → (calls : List Call) → is_open tx (changed p f calls) ≡ is_open tx calls
open_changed tx p f same [] = refl
open_changed tx p f same (call ∷ calls) =
    elim (p call) as (λ b. is_open tx (cond b (f call ∷ calls) (call ∷ changed p f calls)) ≡ is_open tx (call ∷ calls)) [ true ↦ subst (λ (key : TxNo). is_some (cond (key.0 == tx) (Some (f call)) (find (λ (call : Call). call.tx.0 == tx) calls)) ≡ is_open tx (call ∷ calls)) (sym (same call)) (same_by (call.tx.0 == tx) (f call) call (find (λ (call : Call). call.tx.0 == tx) calls) (find (λ (call : Call). call.tx.0 == tx) calls) refl) | false ↦ same_by (call.tx.0 == tx) call call (find (λ (call : Call). call.tx.0 == tx) (changed p f calls)) (find (λ (call : Call). call.tx.0 == tx) calls) (open_changed tx p f same calls) ]

there_by : (b : Bool) (x : Call) (z w : Option Call) → (is_some w ≡ true → is_some z ≡ true) → is_some (cond b (Some x) w) ≡ true → is_some (cond b (Some x) z) ≡ true
there_by true x z w later h = refl
there_by false x z w later h = later h

open_pushed : (tx : ℕ) (new : Call) (calls : List Call) → is_open tx calls ≡ true → is_open tx (calls ++ new ∷ []) ≡ true
open_pushed tx new [] h = absurd (cc)
open_pushed tx new (call ∷ calls) h = there_by (call.tx.0 == tx) call (find (λ (call : Call). call.tx.0 == tx) (calls ++ new ∷ [])) (find (λ (call : Call). call.tx.0 == tx) calls) (open_pushed tx new calls) h

dropped_by : (tx : ℕ) (key : TxNo) (call : Call) (calls : List Call) → (key.0 == tx) ≡ false → (is_open tx calls ≡ true → is_open tx (less (is_call key) calls) ≡ true) → is_open tx (call ∷ calls) ≡ true → (b : Bool) → (call.tx.0 == key.0) ≡ b → is_open tx (cond b calls (call ∷ less (is_call key) calls)) ≡ true
dropped_by tx key call calls apart later h true is =
    let other : (call.tx.0 == tx) ≡ false = subst (λ n. (n == tx) ≡ false) (sym (eqb-true call.tx.0 key.0 is)) apart in
    sym (ap (λ b. is_some (cond b (Some call) (find (λ (call : Call). call.tx.0 == tx) calls))) other) ∙ h
dropped_by tx key call calls apart later h false is = there_by (call.tx.0 == tx) call (find (λ (call : Call). call.tx.0 == tx) (less (is_call key) calls)) (find (λ (call : Call). call.tx.0 == tx) calls) later h

open_dropped : (tx : ℕ) (key : TxNo) (calls : List Call) → (key.0 == tx) ≡ false → is_open tx calls ≡ true → is_open tx (less (is_call key) calls) ≡ true
open_dropped tx key [] apart h = absurd (cc)
open_dropped tx key (call ∷ calls) apart h = dropped_by tx key call calls apart (open_dropped tx key calls apart) h (call.tx.0 == key.0) refl

then_false : (a : Bool) → (a && true) ≡ false → a ≡ false
then_false true h = absurd (cc)
then_false false h = refl

open_replied : (tx : ℕ) (o : Option Call) (given : Fate) (machine : Machine) → is_open tx machine.unfinished ≡ true → is_open tx (replied o given machine).unfinished ≡ true
open_replied tx None given machine h = h
open_replied tx (Some call) given machine h = h

open_answered : (tx : ℕ) (key : TxNo) (body : List ℕ) (o : Option Call) (given : Fate) (machine : Machine) → is_open tx machine.unfinished ≡ true → is_open tx (changed (is_call key) (answered body) (replied o given machine).unfinished) ≡ true
open_answered tx key body None given machine h = open_changed tx (is_call key) (answered body) (λ call. refl) machine.unfinished ∙ h
open_answered tx key body (Some call) given machine h = open_changed tx (is_call key) (answered body) (λ call. refl) machine.unfinished ∙ h

open_arrived : (a : Arrival) (tx : ℕ) (copy : PacketCopy) (given : Fate) (machine : Machine) → ((copy.tx.0 == tx) && is_first_reply a) ≡ false → is_open tx machine.unfinished ≡ true → is_open tx (delivered_as a copy given (landed copy machine)).unfinished ≡ true
open_arrived FirstRequest tx copy given machine unlike h = open_changed tx (is_call copy.tx) (further copy.to Holding) (λ call. refl) machine.unfinished ∙ h
open_arrived FirstReply tx copy given machine unlike h = open_dropped tx copy.tx machine.unfinished (then_false (copy.tx.0 == tx) unlike) h
open_arrived AskedAgain tx copy given machine unlike h = open_replied tx (call_of (landed copy machine) copy.tx) given (landed copy machine) h
open_arrived Past tx copy given machine unlike h = h

open_delivered : (o : Option PacketCopy) (tx : ℕ) (given : Fate) (machine : Machine) → is_reply_to tx machine o ≡ false → is_open tx machine.unfinished ≡ true → is_open tx (delivered_by o given machine).unfinished ≡ true
open_delivered None tx given machine unlike h = h
open_delivered (Some copy) tx given machine unlike h = open_arrived (arrival machine copy) tx copy given machine unlike h

open_last : (b : Bool) (tx : ℕ) (key : TxNo) (call : Call) (sent : List (ℕ × Fate)) (machine : Machine) → ((key.0 == tx) && b) ≡ false → is_open tx machine.unfinished ≡ true → is_open tx (cond b (gave_up key machine) (resent key (Some call) sent machine)).unfinished ≡ true
open_last true tx key call sent machine unlike h = open_dropped tx key machine.unfinished (then_false (key.0 == tx) unlike) h
open_last false tx key call sent machine unlike h = open_changed tx (is_call key) tried (λ call. refl) machine.unfinished ∙ h

open_expired : (o : Option Call) (tx : ℕ) (key : TxNo) (sent : List (ℕ × Fate)) (machine : Machine) → gives_up_by tx key o ≡ false → is_open tx machine.unfinished ≡ true → is_open tx (expired_by key o sent machine).unfinished ≡ true
open_expired None tx key sent machine unlike h = h
open_expired (Some call) tx key sent machine unlike h = open_last (is_last call) tx key call sent machine unlike h

-- it stays
pub stays_until_answered : StaysUntilAnswered
stays_until_answered machine (Begin from port servers owner body tries about before sent) tx h reply up = open_pushed tx (new_call machine from port servers owner body tries about before) machine.unfinished h
stays_until_answered machine (Deliver number given) tx h reply up = open_delivered (copy_of machine number) tx given machine reply h
stays_until_answered machine (Answer key body given) tx h reply up = open_answered tx key body (call_of machine key) given machine h
stays_until_answered machine (Silence key at) tx h reply up = open_changed tx (is_call key) (further at Silent) (λ call. refl) machine.unfinished ∙ h
stays_until_answered machine (Expire key sent) tx h reply up = open_expired (call_of machine key) tx key sent machine up h
