-- What the small steps keep is what is kept behind a record.
use Rattle.std.proofs.Common.{◌≡◌, ◌∙◌, ℕ, ◌+◌, Bool, true, false, cond, ◌||◌, List, refl, sym, ap, add-one}
use Rattle.unix_calls.specs.declared.description.Description.{Description}
use Rattle.unix_calls.specs.declared.event.Event.{Event}
use Rattle.unix_calls.specs.declared.event.Event.TheVariants as event
use Rattle.echo_worth.specs.declared.keys.CallTo.{CallTo}
use Rattle.echo_worth.specs.declared.keys.EchoSlot.{EchoSlot}
use Rattle.echo_worth.specs.declared.keys.OtherAt.{OtherAt}
use Rattle.echo_worth.specs.declared.keys.Sender.{Sender}
use Rattle.trace_tables.specs.declared.CallAt.{CallAt}
use Rattle.echo_worth.specs.declared.kept.Kept.{Kept}
use Rattle.echo_worth.specs.Kept.{named_kept, has_other, has_sender, has_to, sender_kept, slot_kept, in_slot, slots_have}
use Rattle.echo_worth.specs.Echoes.{KeepsOn, KeptBehind}

pub kept_behind : (c : Description) (kernel : ℕ) (e : Event) (old new : Kept) → KeepsOn c kernel e old new → KeptBehind c kernel e old new
kept_behind c kernel (event.Issue pid number call) old new k = record {
  places = k.places;
  named = k.named;
  others = λ one. ap (λ (m : List OtherAt). has_other m one) k.others;
  limited = λ at. ap (λ (m : List Sender). has_sender m at) k.limited;
  expires = λ at. ap (λ (m : List (Sender × ℕ)). sender_kept m at) k.expires;
  counts = λ at. ap (λ (m : List (Sender × ℕ)). sender_kept m at) k.counts;
  slots = λ slot. ap (λ (m : List (EchoSlot × CallTo)). slot_kept m slot) k.slots;
  given_up = λ to. ap (λ (m : List CallTo). has_to m to) k.given_up;
}
kept_behind c kernel (event.Send tx to about kind) old new k = record {
  places = k.stays.places;
  named = λ call. ap (λ (m : List (CallAt × Bool)). named_kept m call) k.stays.named;
  others = k.others;
  limited = k.limited;
  expires = λ at. ap (λ (m : List (Sender × ℕ)). sender_kept m at) k.stays.expires;
  counts = k.counts;
  slots = k.slots;
  given_up = λ to. ap (λ (m : List CallTo). has_to m to) k.stays.given_up;
}
kept_behind c kernel (event.Expire tx last) old new k = record {
  places = k.places;
  named = λ call. ap (λ (m : List (CallAt × Bool)). named_kept m call) k.named;
  others = λ one. ap (λ (m : List OtherAt). has_other m one) k.others;
  limited = λ at. ap (λ (m : List Sender). has_sender m at) k.limited;
  expires = k.expires;
  counts = λ at. ap (λ (m : List (Sender × ℕ)). sender_kept m at) k.counts;
  slots = λ slot. ap (λ (m : List (EchoSlot × CallTo)). slot_kept m slot) k.slots;
  given_up = k.given_up;
}
kept_behind c kernel _ old new k = record {
  places = ap (λ (x : Kept). x.places.entries) k;
  named = λ call. ap (λ (x : Kept). named_kept x.named.entries call) k;
  others = λ one. ap (λ (x : Kept). has_other x.others.keys one) k;
  limited = λ at. ap (λ (x : Kept). has_sender x.limited.keys at) k;
  expires = λ at. ap (λ (x : Kept). sender_kept x.expires.entries at) k;
  counts = λ at. ap (λ (x : Kept). sender_kept x.counts.entries at) k;
  slots = λ slot. ap (λ (x : Kept). slot_kept x.slots.entries slot) k;
  given_up = λ to. ap (λ (x : Kept). has_to x.given_up.keys to) k;
}

one_more_given : (b s i : Bool) → cond i true (b || s) ≡ (b || (s || i))
one_more_given true s true = refl
one_more_given true s false = refl
one_more_given false true true = refl
one_more_given false true false = refl
one_more_given false false true = refl
one_more_given false false false = refl

-- one more slot is given up
pub given_more : (slots : List (EchoSlot × CallTo)) (at : Sender) (place : ℕ) (to : CallTo) (before now after : Bool) → after ≡ cond (in_slot (slot_kept slots (record { at = at; place = place })) to) true now → now ≡ (before || slots_have slots at place to) → after ≡ (before || slots_have slots at (place + 1) to)
given_more slots at place to before now after is so =
    is
    ∙ ap (λ b. cond (in_slot (slot_kept slots (record { at = at; place = place })) to) true b) so
    ∙ one_more_given before (slots_have slots at place to) (in_slot (slot_kept slots (record { at = at; place = place })) to)
    ∙ ap (λ n. before || slots_have slots at n to) (sym (add-one place))
