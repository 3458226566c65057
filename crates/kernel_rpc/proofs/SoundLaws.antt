-- Each call of the wire keeps what holds of it.
use Rattle.std.proofs.Common.{arith, ◌≡◌, ℕ, ◌+◌, ◌<◌, ◌≤◌, ◌==◌, Bool, true, false, ◌&&◌, ◌||◌, not, cond, List, [], ◌∷◌, ◌++◌, map, Option, Some, None, is_some, refl, sym, ap, subst, ◌∙◌}
use Rattle.std.specs.List.{AllByRecursion, find, list_any}
use Rattle.std.proofs.lemmas.Bool.Decides.{nat_tests}
use Rattle.std.proofs.lemmas.Bool.{eqb-true}
use Rattle.sprite_ids.specs.declared.TxNo.{TxNo}
use Rattle.sprite_ids.specs.declared.Tries.{Tries}
use Rattle.sprite_ids.specs.declared.Tries.TheVariants.{Eight, Always}
use Rattle.sprite_ids.proofs.ListLaws.{each_append, each_push, each_weaken, some_is}
use Rattle.link_plan.specs.declared.Fate.{Fate}
use Rattle.link_plan.specs.Counts.{Asks, IsAsked, same_pair}
use Rattle.kernel_rpc.specs.declared.call.Part.{Part}
use Rattle.kernel_rpc.specs.declared.call.Part.TheVariants.{Waiting, Holding, Silent, Answered}
use Rattle.kernel_rpc.specs.declared.call.Receiver.{Receiver}
use Rattle.kernel_rpc.specs.declared.call.Call.{Call}
use Rattle.kernel_rpc.specs.declared.call.PacketCopy.{PacketCopy}
use Rattle.kernel_rpc.specs.Copies.{copies_by, requests}
use Rattle.kernel_rpc.specs.Machine.{Machine, begun, call_of, fresh, holds, is_holding, is_call, is_due, is_of_call, is_taken, lost_more, new_call, part_of, request, resent, tried}
use Rattle.kernel_rpc.specs.Links.{AsksAll}
use Rattle.kernel_rpc.specs.Sound.{HasBegun, IsNumbered, IsSound, OwnerStands, Sound, brings_on, is_reply_of}
use Rattle.sprite_ids.proofs.OnceLaws.{or_false}
use Rattle.kernel_rpc.proofs.NumberLaws.{each_changed, numbered_changed, numbered_push, first_to_last}
use Rattle.kernel_rpc.proofs.CopyLaws.{none_append, both_none, each_by, each_request, none_each, is_lost, pair_same, asks_grow, lost_raises}
use Rattle.kernel_rpc.proofs.PartLaws.{part_fresh, none_holds, is_there, was_sent, and_false, false_first, both_true, eq_turned, eq_same}

-- a call stays sound where counts grow, no reply of it comes in flight, and no copy that brings it on goes
pub kept : (reads : List ℕ → Type 0) (old new : ℕ → ℕ → ℕ) (before after : List PacketCopy) (call : Call) → IsSound reads old before call → ((a b : ℕ) → old a b ≤ new a b) → (list_any (is_reply_of call) before ≡ false → list_any (is_reply_of call) after ≡ false) → (list_any (brings_on call) after ≡ false → list_any (brings_on call) before ≡ false) → IsSound reads new after call
kept reads old new before after call h grow replies moves = record {
  body = h.body;
  reply = h.reply;
  stands = h.stands;
  replies = λ none. replies (h.replies none);
  lost = (let more = grow call.from call.owner in let was = h.lost in omega arith);
  moves = λ none free. (let more = grow call.from call.owner in let was = h.moves (moves none) free in omega arith);
}

or_true : (b : Bool) → (b || true) ≡ true
or_true true = refl
or_true false = refl

-- the copies of a request are no replies
pub requests_none : (call : Call) (packet : PacketCopy) (number : ℕ) (sent : List (ℕ × Fate)) → packet.reply ≡ false → list_any (is_reply_of call) (requests packet number sent) ≡ false
requests_none call packet number sent e =
    let here : (is_of_call call.tx packet && packet.reply) ≡ false = ap (λ b. is_of_call call.tx packet && b) e ∙ and_false (is_of_call call.tx packet) in
    none_each (is_reply_of call) (requests packet number sent) (each_request (λ copy. is_reply_of call copy ≡ false) packet number sent (λ n to late. here) (λ n to. here))

-- copies of another call
pub others_none : (call : Call) (given : Fate) (packet : PacketCopy) → is_of_call call.tx packet ≡ false → (list_any (is_reply_of call) (copies_by given packet) ≡ false)
others_none call given packet e =
    let here : is_reply_of call packet ≡ false = false_first (is_of_call call.tx packet) packet.reply e in
    none_each (is_reply_of call) (copies_by given packet) (each_by (λ copy. is_reply_of call copy ≡ false) given packet here here here)

-- a request that was sent to the owner is in flight, or its pair has one fault more
lost_or_sent : {L : Type 0} (faults asked : L → ℕ → ℕ → ℕ) (call : Call) (packet : PacketCopy) (number : ℕ) (before after : L) (sent : List (ℕ × Fate)) → packet.tx ≡ call.tx → Asks faults asked call.from before after sent → list_any (λ (packet : ℕ × Fate). packet.0 == call.owner) sent ≡ true → list_any (brings_on call) (requests packet number sent) ≡ false → faults before call.from call.owner < faults after call.from call.owner
lost_or_sent faults asked call packet number before after [] same h there none = absurd (cc)
lost_or_sent {L} faults asked call packet number before after (first ∷ sent) same h there none =
    let parts = none_append (brings_on call) (copies_by first.1 (record packet { number = record { 0 = number }; to = first.0 })) (requests packet (number + 2) sent) none in
    by_first faults asked call packet number before h.0 after first sent same h.1 h.2 parts.0 (λ later. lost_or_sent faults asked call packet (number + 2) h.0 after sent same h.2 later parts.1) (first.0 == call.owner) refl there where
      by_first : {L : Type 0} (faults asked : L → ℕ → ℕ → ℕ) (call : Call) (packet : PacketCopy) (number : ℕ) (before between after : L) (first : ℕ × Fate) (sent : List (ℕ × Fate)) → packet.tx ≡ call.tx → IsAsked (faults before) (asked before) (faults between) (asked between) call.from first.0 first.1 → Asks faults asked call.from between after sent → list_any (brings_on call) (copies_by first.1 (record packet { number = record { 0 = number }; to = first.0 })) ≡ false → (list_any (λ (packet : ℕ × Fate). packet.0 == call.owner) sent ≡ true → faults between call.from call.owner < faults after call.from call.owner) → (b : Bool) → (first.0 == call.owner) ≡ b → (b || list_any (λ (packet : ℕ × Fate). packet.0 == call.owner) sent) ≡ true → faults before call.from call.owner < faults after call.from call.owner
      by_first faults asked call packet number before between after first sent same here rest none later true is there =
          let owner = eqb-true first.0 call.owner is in
          let of_call : is_of_call call.tx packet ≡ true = ap (λ (tx : TxNo). tx.0 == call.tx.0) same ∙ eq_same call.tx.0 in
          let to_owner : (packet.reply || (first.0 == call.owner)) ≡ true = ap (λ b. packet.reply || b) is ∙ or_true packet.reply in
          let brings : (is_of_call call.tx packet && (packet.reply || (first.0 == call.owner))) ≡ true = both_true (is_of_call call.tx packet) (packet.reply || (first.0 == call.owner)) of_call to_owner in
          let lost = is_lost (brings_on call) first.1 (record packet { number = record { 0 = number }; to = first.0 }) brings brings none in
          let pair : same_pair call.from call.owner call.from first.0 ≡ true = subst (λ n. same_pair call.from call.owner call.from n ≡ true) (sym owner) (pair_same call.from call.owner) in
          let more = lost_raises faults asked before between call.from first.0 first.1 lost here call.from call.owner pair in
          let grow = asks_grow faults asked call.from between after sent rest call.from call.owner in
          omega arith
      by_first faults asked call packet number before between after first sent same here rest none later false is there =
          let more = later there in
          let grow = here.never_fall call.from call.owner in
          omega arith

-- no copy is one of a call that isn't begun
pub none_begun : (call : Call) (begun : ℕ) (copies : List PacketCopy) → begun < call.tx.0 → AllByRecursion (HasBegun begun) copies → list_any (is_reply_of call) copies ≡ false
none_begun call begun [] less h = refl
none_begun call begun (copy ∷ copies) less h =
    let there = h.0 in
    let other : (copy.tx.0 == call.tx.0) ≡ false = grind (arith, nat_tests) in
    ap (λ b. b || list_any (is_reply_of call) copies) (false_first (copy.tx.0 == call.tx.0) copy.reply other) ∙ none_begun call begun copies less h.1

-- a call that is begun
pub begin_sound : {L : Type 0} (reads : List ℕ → Type 0) (faults asked : L → ℕ → ℕ → ℕ) (before after : L) (machine : Machine) (from port : ℕ) (servers : List ℕ) (owner : ℕ) (body : List ℕ) (tries : Tries) (about : Option (ℕ × ℕ)) (count : ℕ) (sent : List (ℕ × Fate)) → reads body → count ≡ faults before from owner → list_any (λ server. server == owner) servers ≡ true → map (λ (packet : ℕ × Fate). packet.0) sent ≡ map (λ (receiver : Receiver). receiver.kernel) (map fresh servers) → Asks faults asked from before after sent → Sound reads (faults before) machine → Sound reads (faults after) (begun (new_call machine from port servers owner body tries about count) sent machine)
begin_sound reads faults asked before after machine from port servers owner body tries about count sent readable is there same asks h =
    let call = new_call machine from port servers owner body tries about count in
    let packet = request call machine.next_copy owner in
    let more = requests packet machine.next_copy sent in
    let grow = asks_grow faults asked from before after sent asks in
    let part = part_fresh owner servers there in
    let sent_there = was_sent owner sent (map fresh servers) same (is_there owner Waiting (map fresh servers) part) in
    record {
      numbered = numbered_push call 0 machine.begun machine.unfinished refl h.numbered;
      flying = each_append (HasBegun (machine.begun + 1)) machine.copies more (each_weaken (HasBegun machine.begun) (HasBegun (machine.begun + 1)) machine.copies (λ copy k. omega (arith, k)) h.flying) (each_request (HasBegun (machine.begun + 1)) packet machine.next_copy sent (λ n to late. omega arith) (λ n to. omega arith));
      calls = each_push (IsSound reads (faults after) (machine.copies ++ more)) machine.unfinished call (each_weaken (IsSound reads (faults before) machine.copies) (IsSound reads (faults after) (machine.copies ++ more)) machine.unfinished (λ other k. kept reads (faults before) (faults after) machine.copies (machine.copies ++ more) other k grow (λ none. both_none (is_reply_of other) machine.copies more none (requests_none other packet machine.next_copy sent refl)) (λ none. (none_append (brings_on other) machine.copies more none).0)) h.calls) record {
        body = readable;
        reply = tt;
        stands = subst (λ part. OwnerStands part None) (sym part) tt;
        replies = λ none. both_none (is_reply_of call) machine.copies more (none_begun call machine.begun machine.copies (omega arith) h.flying) (requests_none call packet machine.next_copy sent refl);
        lost = (let least = grow from owner in omega arith);
        moves = λ none free. (let one = lost_or_sent faults asked call packet machine.next_copy before after sent refl asks sent_there (none_append (brings_on call) machine.copies more none).1 in omega arith);
      };
    }

-- a copy of a looked-up call's number isn't one of another call
pub other_copy : (tx : TxNo) (call : Call) → is_call tx call ≡ false → (tx.0 == call.tx.0) ≡ false
other_copy tx call e = eq_turned call.tx.0 tx.0 e

found_by : (tx : TxNo) (call first : Call) (rest : Option Call) → (rest ≡ Some call → is_call tx call ≡ true) → (b : Bool) → is_call tx first ≡ b → cond b (Some first) rest ≡ Some call → is_call tx call ≡ true
found_by tx call first rest later true here e = ap (is_call tx) (sym (some_is first call e)) ∙ here
found_by tx call first rest later false here e = later e

-- the call that is found has the number
pub found_is : (tx : TxNo) (call : Call) (calls : List Call) → find (is_call tx) calls ≡ Some call → is_call tx call ≡ true
found_is tx call [] e = absurd (cc)
found_is tx call (first ∷ rest) e = found_by tx call first (find (is_call tx) rest) (found_is tx call rest) (is_call tx first) refl e

-- the call that is found is sound
pub found_sound : (P : Call → Type 0) (p : Call → Bool) (call : Call) (calls : List Call) → find p calls ≡ Some call → AllByRecursion P calls → P call
found_sound P p call [] e h = absurd (cc)
found_sound P p call (first ∷ rest) e h = by_first P call first (find p rest) (λ later. found_sound P p call rest later h.1) h.0 (p first) e where
  by_first : (P : Call → Type 0) (call first : Call) (rest : Option Call) → (rest ≡ Some call → P call) → P first → (b : Bool) → cond b (Some first) rest ≡ Some call → P call
  by_first P call first rest later here true e = subst P (some_is first call e) here
  by_first P call first rest later here false e = later e

pub each_within : (first last : ℕ) (calls : List Call) → IsNumbered first calls last → AllByRecursion (λ (call : Call). call.tx.0 ≤ last) calls
each_within first last [] h = tt
each_within first last (call ∷ calls) h = (first_to_last call.tx.0 last calls h.1, each_within call.tx.0 last calls h.1)

-- the call that is found was begun
pub found_within : (p : Call → Bool) (first last : ℕ) (call : Call) (calls : List Call) → IsNumbered first calls last → find p calls ≡ Some call → call.tx.0 ≤ last
found_within p first last call calls h found = found_sound (λ (call : Call). call.tx.0 ≤ last) p call calls found (each_within first last calls h)

-- an owner that holds nothing, by its part and the reply
owner_free : (part : Option Part) (reply : Option (List ℕ)) → OwnerStands part reply → (is_some reply ≡ false → holds part ≡ false) → holds part ≡ false
owner_free (Some Waiting) reply stands h = refl
owner_free (Some Holding) None stands h = h refl
owner_free (Some Holding) (Some reply) stands h = absurd stands
owner_free (Some Silent) reply stands h = refl
owner_free (Some Answered) reply stands h = refl
owner_free None reply stands h = refl

due_by : (a b : Bool) → (not a && not b) ≡ true → (a ≡ false) × (b ≡ false)
due_by true b h = absurd (cc)
due_by false true h = absurd (cc)
due_by false false h = (refl, refl)

not_taken : (a b : Bool) → (not a && b) ≡ false → a ≡ false → b ≡ false
not_taken true b h e = absurd (cc)
not_taken false b h e = h

none_brings : (call : Call) (copies : List PacketCopy) → list_any (is_of_call call.tx) copies ≡ false → list_any (brings_on call) copies ≡ false
none_brings call [] h = refl
none_brings call (copy ∷ copies) h =
    let parts = or_false (is_of_call call.tx copy) (list_any (is_of_call call.tx) copies) h in
    ap (λ b. b || list_any (brings_on call) copies) (false_first (is_of_call call.tx copy) (copy.reply || (copy.to == call.owner)) parts.0) ∙ none_brings call copies parts.1

-- where a timer may fire, this try of the call had its fault
pub due_spent : (reads : List ℕ → Type 0) (faults : ℕ → ℕ → ℕ) (copies : List PacketCopy) (call : Call) → is_due copies call ≡ true → IsSound reads faults copies call → call.before + call.lost + 1 ≤ faults call.from call.owner
due_spent reads faults copies call due h =
    let parts = due_by (list_any (is_of_call call.tx) copies) (is_taken call) due in
    let free = owner_free (part_of call.owner call.receivers) call.reply h.stands (λ none. none_holds call.owner call.receivers (not_taken (is_some call.reply) (list_any (λ (receiver : Receiver). is_holding receiver.part) call.receivers) parts.1 none)) in
    h.moves (none_brings call copies parts.0) free

one_more : (tries : Tries) (lost : ℕ) → lost_more tries lost ≤ lost + 1
one_more Eight lost = omega arith
one_more Always lost = omega arith

pub stands_somewhere : (part : Option Part) (reply : Option (List ℕ)) → OwnerStands part reply → (given : Part) × (part ≡ Some given)
stands_somewhere (Some part) reply stands = (part, refl)
stands_somewhere None reply stands = absurd stands

-- a call that is sent again
pub resend_sound : {L : Type 0} (reads : List ℕ → Type 0) (faults asked : L → ℕ → ℕ → ℕ) (before after : L) (machine : Machine) (tx : TxNo) (call : Call) (sent : List (ℕ × Fate)) → call_of machine tx ≡ Some call → is_due machine.copies call ≡ true → AsksAll faults asked before after sent (Some call) → Sound reads (faults before) machine → Sound reads (faults after) (resent tx (Some call) sent machine)
resend_sound reads faults asked before after machine tx call sent found due asks h =
    let packet = request call machine.next_copy call.owner in
    let more = requests packet machine.next_copy sent in
    let grow = asks_grow faults asked call.from before after sent asks.1 in
    let old = found_sound (IsSound reads (faults before) machine.copies) (is_call tx) call machine.unfinished found h.calls in
    let within = found_within (is_call tx) 0 machine.begun call machine.unfinished h.numbered found in
    let somewhere = stands_somewhere (part_of call.owner call.receivers) call.reply old.stands in
    let sent_there = was_sent call.owner sent call.receivers asks.0 (is_there call.owner somewhere.0 call.receivers somewhere.1) in
    let spent = due_spent reads (faults before) machine.copies call due old in
    let most = one_more call.tries call.lost in
    let least = grow call.from call.owner in
    let again : IsSound reads (faults after) (machine.copies ++ more) (tried call) = record {
      body = old.body;
      reply = old.reply;
      stands = old.stands;
      replies = λ none. both_none (is_reply_of call) machine.copies more (old.replies none) (requests_none call packet machine.next_copy sent refl);
      lost = omega arith;
      moves = λ none free. (let one = lost_or_sent faults asked call packet machine.next_copy before after sent refl asks.1 sent_there (none_append (brings_on call) machine.copies more none).1 in omega arith);
    } in
    record {
      numbered = numbered_changed (is_call tx) tried (λ call. refl) 0 machine.begun machine.unfinished h.numbered;
      flying = each_append (HasBegun machine.begun) machine.copies more h.flying (each_request (HasBegun machine.begun) packet machine.next_copy sent (λ n to late. within) (λ n to. within));
      calls = each_changed (IsSound reads (faults before) machine.copies) (IsSound reads (faults after) (machine.copies ++ more)) tx tried 0 machine.begun machine.unfinished h.numbered (λ other e k. kept reads (faults before) (faults after) machine.copies (machine.copies ++ more) other k grow (λ none. both_none (is_reply_of other) machine.copies more none (requests_none other packet machine.next_copy sent refl)) (λ none. (none_append (brings_on other) machine.copies more none).0)) (λ this e k. subst (λ call. IsSound reads (faults after) (machine.copies ++ more) (tried call)) (some_is call this (sym found ∙ e)) again) h.calls;
    }
