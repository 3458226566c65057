-- What a copy is to its receiver tells how its call stands.
use Rattle.std.proofs.Common.{◌≡◌, ℕ, Bool, true, false, cond, List, Option, Some, None, is_some, refl}
use Rattle.kernel_rpc.specs.declared.call.Arrival.{Arrival}
use Rattle.kernel_rpc.specs.declared.call.Arrival.TheVariants.{FirstRequest, FirstReply, AskedAgain}
use Rattle.kernel_rpc.specs.declared.call.Call.{Call}
use Rattle.kernel_rpc.specs.declared.call.PacketCopy.{PacketCopy}
use Rattle.kernel_rpc.specs.declared.call.Part.{Part}
use Rattle.kernel_rpc.specs.declared.call.Part.TheVariants.{Waiting, Holding, Silent, Answered}
use Rattle.kernel_rpc.specs.Machine.{arrival_at, arrival_back, arrival_of, part_of}

waits : (part : Option Part) (reply : Option (List ℕ)) → arrival_at part reply ≡ FirstRequest → part ≡ Some Waiting
waits None reply e = absurd (cc)
waits (Some Waiting) reply e = refl
waits (Some Holding) reply e = absurd (cc)
waits (Some Silent) reply e = absurd (cc)
waits (Some Answered) None e = absurd (cc)
waits (Some Answered) (Some reply) e = absurd (cc)

has_kept : (part : Option Part) (reply : Option (List ℕ)) → arrival_at part reply ≡ AskedAgain → is_some reply ≡ true
has_kept None reply e = absurd (cc)
has_kept (Some Waiting) reply e = absurd (cc)
has_kept (Some Holding) reply e = absurd (cc)
has_kept (Some Silent) reply e = absurd (cc)
has_kept (Some Answered) None e = absurd (cc)
has_kept (Some Answered) (Some reply) e = refl

not_first : (part : Option Part) (reply : Option (List ℕ)) → arrival_at part reply ≡ FirstReply → ⊥
not_first None reply e = absurd (cc)
not_first (Some Waiting) reply e = absurd (cc)
not_first (Some Holding) reply e = absurd (cc)
not_first (Some Silent) reply e = absurd (cc)
not_first (Some Answered) None e = absurd (cc)
not_first (Some Answered) (Some reply) e = absurd (cc)

has_back : (reply : Option (List ℕ)) → arrival_back reply ≡ FirstReply → (bytes : List ℕ) × (reply ≡ Some bytes)
has_back None e = absurd (cc)
has_back (Some bytes) e = (bytes, refl)

no_request : (reply : Option (List ℕ)) → arrival_back reply ≡ FirstRequest → ⊥
no_request None e = absurd (cc)
no_request (Some bytes) e = absurd (cc)

no_again : (reply : Option (List ℕ)) → arrival_back reply ≡ AskedAgain → ⊥
no_again None e = absurd (cc)
no_again (Some bytes) e = absurd (cc)

request_by : (reply : Bool) (back at : Arrival) → (back ≡ FirstRequest → ⊥) → cond reply back at ≡ FirstRequest → (reply ≡ false) × (at ≡ FirstRequest)
request_by true back at away e = absurd (away e)
request_by false back at away e = (refl, e)

-- a first request: its receiver waits
pub first_request : (copy : PacketCopy) (o : Option Call) → arrival_of copy o ≡ FirstRequest → (call : Call) × (o ≡ Some call) × (copy.reply ≡ false) × (part_of copy.to call.receivers ≡ Some Waiting)
first_request copy None e = absurd (cc)
first_request copy (Some call) e =
    let parts = request_by copy.reply (arrival_back call.reply) (arrival_at (part_of copy.to call.receivers) call.reply) (no_request call.reply) e in
    (call, refl, parts.0, waits (part_of copy.to call.receivers) call.reply parts.1)

again_by : (reply : Bool) (back at : Arrival) → (back ≡ AskedAgain → ⊥) → cond reply back at ≡ AskedAgain → at ≡ AskedAgain
again_by true back at away e = absurd (away e)
again_by false back at away e = e

-- a request that is asked again: there is a reply
pub asked_again : (copy : PacketCopy) (o : Option Call) → arrival_of copy o ≡ AskedAgain → (call : Call) × (o ≡ Some call) × (is_some call.reply ≡ true)
asked_again copy None e = absurd (cc)
asked_again copy (Some call) e = (call, refl, has_kept (part_of copy.to call.receivers) call.reply (again_by copy.reply (arrival_back call.reply) (arrival_at (part_of copy.to call.receivers) call.reply) (no_again call.reply) e))

has_answered : (part : Option Part) (reply : Option (List ℕ)) → arrival_at part reply ≡ AskedAgain → part ≡ Some Answered
has_answered None reply e = absurd (cc)
has_answered (Some Waiting) reply e = absurd (cc)
has_answered (Some Holding) reply e = absurd (cc)
has_answered (Some Silent) reply e = absurd (cc)
has_answered (Some Answered) reply e = refl

asked_by : (reply : Bool) (back at : Arrival) → (back ≡ AskedAgain → ⊥) → cond reply back at ≡ AskedAgain → (reply ≡ false) × (at ≡ AskedAgain)
asked_by true back at away e = absurd (away e)
asked_by false back at away e = (refl, e)

-- and its receiver has answered
pub asked_of : (copy : PacketCopy) (o : Option Call) → arrival_of copy o ≡ AskedAgain → (call : Call) × (o ≡ Some call) × (copy.reply ≡ false) × (part_of copy.to call.receivers ≡ Some Answered)
asked_of copy None e = absurd (cc)
asked_of copy (Some call) e =
    let parts = asked_by copy.reply (arrival_back call.reply) (arrival_at (part_of copy.to call.receivers) call.reply) (no_again call.reply) e in
    (call, refl, parts.0, has_answered (part_of copy.to call.receivers) call.reply parts.1)

back_by : (reply : Bool) (back at : Arrival) → (at ≡ FirstReply → ⊥) → cond reply back at ≡ FirstReply → back ≡ FirstReply
back_by true back at away e = e
back_by false back at away e = absurd (away e)

-- a first reply: there is one
pub first_reply : (copy : PacketCopy) (o : Option Call) → arrival_of copy o ≡ FirstReply → (call : Call) × (o ≡ Some call) × ((bytes : List ℕ) × (call.reply ≡ Some bytes))
first_reply copy None e = absurd (cc)
first_reply copy (Some call) e = (call, refl, has_back call.reply (back_by copy.reply (arrival_back call.reply) (arrival_at (part_of copy.to call.receivers) call.reply) (not_first (part_of copy.to call.receivers) call.reply) e))
