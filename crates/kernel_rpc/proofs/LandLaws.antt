-- Each copy that comes, and each answer, keeps what holds of the wire.
use Rattle.std.proofs.Common.{arith, ◌≡◌, ℕ, ◌<◌, ◌==◌, Bool, true, false, ◌&&◌, ◌||◌, cond, List, [], ◌∷◌, ◌++◌, Option, Some, None, is_some, refl, sym, ap, subst, ◌∙◌}
use Rattle.std.specs.List.{AllByRecursion, find, list_any}
use Rattle.std.proofs.lemmas.Bool.Decides.{nat_tests}
use Rattle.std.proofs.lemmas.Bool.{eqb-true}
use Rattle.sprite_ids.specs.declared.CopyNo.{CopyNo}
use Rattle.sprite_ids.specs.declared.TxNo.{TxNo}
use Rattle.sprite_ids.proofs.ListLaws.{each_append, some_is}
use Rattle.link_plan.specs.declared.Fate.{Fate}
use Rattle.link_plan.specs.Counts.{IsAsked}
use Rattle.kernel_rpc.specs.declared.call.Part.{Part}
use Rattle.kernel_rpc.specs.declared.call.Part.TheVariants.{Waiting, Holding, Silent, Answered}
use Rattle.kernel_rpc.specs.declared.call.Arrival.TheVariants.{FirstRequest, FirstReply, AskedAgain, Past}
use Rattle.kernel_rpc.specs.declared.call.Call.{Call}
use Rattle.kernel_rpc.specs.declared.call.PacketCopy.{PacketCopy}
use Rattle.sprite_ids.specs.Lists.{changed, less}
use Rattle.kernel_rpc.specs.Copies.{copies_by}
use Rattle.kernel_rpc.specs.Machine.{Machine, answer, answered, arrival, arrival_at, arrival_back, arrival_of, call_of, copy_of, delivered_as, further, gave_up, holds, is_call, is_copy, is_of_call, landed, part_of, reply_to, replied, request, silent, with_part}
use Rattle.kernel_rpc.specs.Links.{AsksBack}
use Rattle.kernel_rpc.specs.Sound.{HasBegun, IsSound, OwnerStands, Sound, brings_on, is_reply_of}
use Rattle.sprite_ids.proofs.OnceLaws.{found_passes}
use Rattle.kernel_rpc.proofs.NumberLaws.{each_changed, each_dropped, each_other, changed_same, numbered_changed, numbered_dropped}
use Rattle.kernel_rpc.proofs.CopyLaws.{none_append, both_none, none_dropped, none_undropped, found_none, each_without, each_by, is_lost, pair_turned, lost_raises}
use Rattle.kernel_rpc.proofs.PartLaws.{part_further, part_stays, and_false, false_first, both_true, eq_same}
use Rattle.kernel_rpc.proofs.SoundLaws.{kept, found_is, found_sound, found_within, other_copy, others_none}

-- a copy of another call landed
pub landed_kept : (reads : List ℕ → Type 0) (faults : ℕ → ℕ → ℕ) (copies : List PacketCopy) (number : PacketCopy → Bool) (copy : PacketCopy) (call : Call) → find number copies ≡ Some copy → brings_on call copy ≡ false → IsSound reads faults copies call → IsSound reads faults (less number copies) call
landed_kept reads faults copies number copy call found unlike h =
    kept reads faults faults copies (less number copies) call h (λ a b. omega arith) (λ none. none_dropped (is_reply_of call) number copies none) (λ none. none_undropped (brings_on call) number copy copies found unlike none)

-- what a copy of another call is to a call
pub unlike_other : (copy : PacketCopy) (call : Call) → is_call copy.tx call ≡ false → brings_on call copy ≡ false
unlike_other copy call e = false_first (is_of_call call.tx copy) (copy.reply || (copy.to == call.owner)) (other_copy copy.tx call e)

-- a request to another kernel than the owner doesn't bring its call on
unlike_server : (copy : PacketCopy) (call : Call) → copy.reply ≡ false → (copy.to == call.owner) ≡ false → brings_on call copy ≡ false
unlike_server copy call e k = ap (λ b. is_of_call call.tx copy && (b || (copy.to == call.owner))) e ∙ ap (λ b. is_of_call call.tx copy && (false || b)) k ∙ and_false (is_of_call call.tx copy)

now_holding : (reply : Option (List ℕ)) → OwnerStands (Some Waiting) reply → OwnerStands (Some Holding) reply
now_holding None h = tt
now_holding (Some reply) h = absurd h

-- a request that a receiver takes
pub taken_sound : (reads : List ℕ → Type 0) (faults : ℕ → ℕ → ℕ) (copies : List PacketCopy) (number : PacketCopy → Bool) (copy : PacketCopy) (call : Call) → find number copies ≡ Some copy → copy.reply ≡ false → part_of copy.to call.receivers ≡ Some Waiting → IsSound reads faults copies call → (b : Bool) → (copy.to == call.owner) ≡ b → IsSound reads faults (less number copies) (further copy.to Holding call)
taken_sound reads faults copies number copy call found request waits h true is =
    let owner = eqb-true copy.to call.owner is in
    let before : part_of call.owner call.receivers ≡ Some Waiting = subst (λ n. part_of n call.receivers ≡ Some Waiting) owner waits in
    let now : part_of call.owner (with_part copy.to Holding call.receivers) ≡ Some Holding = subst (λ n. part_of n (with_part copy.to Holding call.receivers) ≡ Some Holding) owner (part_further copy.to Holding Waiting call.receivers waits) in
    record {
      body = h.body;
      reply = h.reply;
      stands = subst (λ part. OwnerStands part call.reply) (sym now) (now_holding call.reply (subst (λ part. OwnerStands part call.reply) before h.stands));
      replies = λ none. none_dropped (is_reply_of call) number copies (h.replies none);
      lost = h.lost;
      moves = λ none free. absurd (let holding = ap holds now in (cc));
    }
taken_sound reads faults copies number copy call found request waits h false is =
    let now = part_stays copy.to call.owner Holding call.receivers is in
    record {
      body = h.body;
      reply = h.reply;
      stands = subst (λ part. OwnerStands part call.reply) (sym now) h.stands;
      replies = λ none. none_dropped (is_reply_of call) number copies (h.replies none);
      lost = h.lost;
      moves = λ none free. h.moves (none_undropped (brings_on call) number copy copies found (unlike_server copy call request is) none) (ap holds (sym now) ∙ free);
    }

pub take_request_sound : (reads : List ℕ → Type 0) (faults : ℕ → ℕ → ℕ) (machine : Machine) (copy : PacketCopy) (call : Call) → copy_of machine copy.number ≡ Some copy → call_of machine copy.tx ≡ Some call → copy.reply ≡ false → part_of copy.to call.receivers ≡ Some Waiting → (given : Fate) → Sound reads faults machine → Sound reads faults (delivered_as FirstRequest copy given (landed copy machine))
take_request_sound reads faults machine copy call flying found request waits given h =
    let after = less (is_copy copy.number) machine.copies in
    let old = found_sound (IsSound reads faults machine.copies) (is_call copy.tx) call machine.unfinished found h.calls in
    let now = taken_sound reads faults machine.copies (is_copy copy.number) copy call flying request waits old (copy.to == call.owner) refl in
    record {
      numbered = numbered_changed (is_call copy.tx) (further copy.to Holding) (λ call. refl) 0 machine.begun machine.unfinished h.numbered;
      flying = each_without (HasBegun machine.begun) (is_copy copy.number) machine.copies h.flying;
      calls = each_changed (IsSound reads faults machine.copies) (IsSound reads faults after) copy.tx (further copy.to Holding) 0 machine.begun machine.unfinished h.numbered (λ other e k. landed_kept reads faults machine.copies (is_copy copy.number) copy other flying (unlike_other copy other e) k) (λ this e k. subst (λ call. IsSound reads faults after (further copy.to Holding call)) (some_is call this (sym found ∙ e)) now) h.calls;
    }

-- a reply that the caller takes
pub take_reply_sound : (reads : List ℕ → Type 0) (faults : ℕ → ℕ → ℕ) (machine : Machine) (copy : PacketCopy) → copy_of machine copy.number ≡ Some copy → (given : Fate) → Sound reads faults machine → Sound reads faults (delivered_as FirstReply copy given (landed copy machine))
take_reply_sound reads faults machine copy flying given h =
    record {
      numbered = numbered_dropped (is_call copy.tx) 0 machine.begun machine.unfinished h.numbered;
      flying = each_without (HasBegun machine.begun) (is_copy copy.number) machine.copies h.flying;
      calls = each_dropped (IsSound reads faults machine.copies) (IsSound reads faults (less (is_copy copy.number) machine.copies)) copy.tx 0 machine.begun machine.unfinished h.numbered (λ other e k. landed_kept reads faults machine.copies (is_copy copy.number) copy other flying (unlike_other copy other e) k) h.calls;
    }

-- a call that is given up
pub give_up_sound : (reads : List ℕ → Type 0) (faults : ℕ → ℕ → ℕ) (machine : Machine) (tx : TxNo) → Sound reads faults machine → Sound reads faults (gave_up tx machine)
give_up_sound reads faults machine tx h =
    record {
      numbered = numbered_dropped (is_call tx) 0 machine.begun machine.unfinished h.numbered;
      flying = h.flying;
      calls = each_dropped (IsSound reads faults machine.copies) (IsSound reads faults machine.copies) tx 0 machine.begun machine.unfinished h.numbered (λ other e k. k) h.calls;
    }

-- a receiver that goes silent and isn't the owner
pub silent_sound : (reads : List ℕ → Type 0) (faults : ℕ → ℕ → ℕ) (machine : Machine) (tx : TxNo) (kernel : ℕ) (call : Call) → call_of machine tx ≡ Some call → (kernel == call.owner) ≡ false → Sound reads faults machine → Sound reads faults (silent tx kernel machine)
silent_sound reads faults machine tx kernel call found apart h =
    let old = found_sound (IsSound reads faults machine.copies) (is_call tx) call machine.unfinished found h.calls in
    let same = part_stays kernel call.owner Silent call.receivers apart in
    let now : IsSound reads faults machine.copies (further kernel Silent call) = record {
      body = old.body;
      reply = old.reply;
      stands = subst (λ part. OwnerStands part call.reply) (sym same) old.stands;
      replies = old.replies;
      lost = old.lost;
      moves = λ none free. old.moves none (ap holds (sym same) ∙ free);
    } in
    record {
      numbered = numbered_changed (is_call tx) (further kernel Silent) (λ call. refl) 0 machine.begun machine.unfinished h.numbered;
      flying = h.flying;
      calls = each_changed (IsSound reads faults machine.copies) (IsSound reads faults machine.copies) tx (further kernel Silent) 0 machine.begun machine.unfinished h.numbered (λ other e k. k) (λ this e k. subst (λ call. IsSound reads faults machine.copies (further kernel Silent call)) (some_is call this (sym found ∙ e)) now) h.calls;
    }

pub apart : (tx : TxNo) (call other : Call) → is_call tx call ≡ true → is_call tx other ≡ false → (call.tx.0 == other.tx.0) ≡ false
apart tx call other e k = grind (arith, nat_tests)

-- a reply that is in flight, or its pair has one fault more
reply_moves : {L : Type 0} (faults asked : L → ℕ → ℕ → ℕ) (before after : L) (call : Call) (number : ℕ) (given : Fate) → IsAsked (faults before) (asked before) (faults after) (asked after) call.owner call.from given → list_any (brings_on call) (copies_by given (reply_to call number)) ≡ false → faults before call.from call.owner < faults after call.from call.owner
reply_moves faults asked before after call number given asks none =
    let brings : (is_of_call call.tx (reply_to call number) && true) ≡ true = both_true (call.tx.0 == call.tx.0) true (eq_same call.tx.0) refl in
    lost_raises faults asked before after call.owner call.from given (is_lost (brings_on call) given (reply_to call number) brings brings none) asks call.from call.owner (pair_turned call.from call.owner)

-- a reply that is sent again
pub take_again_sound : {L : Type 0} (reads : List ℕ → Type 0) (faults asked : L → ℕ → ℕ → ℕ) (before after : L) (machine : Machine) (copy : PacketCopy) (call : Call) (given : Fate) → copy_of machine copy.number ≡ Some copy → call_of machine copy.tx ≡ Some call → is_some call.reply ≡ true → AsksBack faults asked before after given (Some call) → Sound reads (faults before) machine → Sound reads (faults after) (delivered_as AskedAgain copy given (landed copy machine))
take_again_sound reads faults asked before after machine copy call given flying found there asks h =
    let left = less (is_copy copy.number) machine.copies in
    let packet = reply_to call machine.next_copy in
    let more = copies_by given packet in
    let grow = asks.never_fall in
    let old = found_sound (IsSound reads (faults before) machine.copies) (is_call copy.tx) call machine.unfinished found h.calls in
    let within = found_within (is_call copy.tx) 0 machine.begun call machine.unfinished h.numbered found in
    let number = found_is copy.tx call machine.unfinished found in
    let least = grow call.from call.owner in
    let was = old.lost in
    let now : IsSound reads (faults after) (left ++ more) call = record {
      body = old.body;
      reply = old.reply;
      stands = old.stands;
      replies = λ none. absurd (cc);
      lost = omega arith;
      moves = λ none free. (let one = reply_moves faults asked before after call machine.next_copy given asks (none_append (brings_on call) left more none).1 in omega arith);
    } in
    let all = each_changed (IsSound reads (faults before) machine.copies) (IsSound reads (faults after) (left ++ more)) copy.tx (λ call. call) 0 machine.begun machine.unfinished h.numbered (λ other e k. kept reads (faults before) (faults after) machine.copies (left ++ more) other k grow (λ none. both_none (is_reply_of other) left more (none_dropped (is_reply_of other) (is_copy copy.number) machine.copies none) (others_none other given packet (apart copy.tx call other number e))) (λ none. none_undropped (brings_on other) (is_copy copy.number) copy machine.copies flying (unlike_other copy other e) (none_append (brings_on other) left more none).0)) (λ this e k. subst (IsSound reads (faults after) (left ++ more)) (some_is call this (sym found ∙ e)) now) h.calls in
    let sound : Sound reads (faults after) (replied (Some call) given (landed copy machine)) = record {
      numbered = h.numbered;
      flying = each_append (HasBegun machine.begun) left more (each_without (HasBegun machine.begun) (is_copy copy.number) machine.copies h.flying) (each_by (HasBegun machine.begun) given packet within within within);
      calls = subst (AllByRecursion (IsSound reads (faults after) (left ++ more))) (changed_same (is_call copy.tx) machine.unfinished) all;
    } in
    subst (λ o. Sound reads (faults after) (replied o given (landed copy machine))) (sym found) sound

-- an owner that answers
pub answer_sound : {L : Type 0} (reads : List ℕ → Type 0) (faults asked : L → ℕ → ℕ → ℕ) (before after : L) (machine : Machine) (tx : TxNo) (call : Call) (bytes : List ℕ) (given : Fate) → reads bytes → call_of machine tx ≡ Some call → part_of call.owner call.receivers ≡ Some Holding → AsksBack faults asked before after given (Some call) → Sound reads (faults before) machine → Sound reads (faults after) (answer tx bytes given machine)
answer_sound reads faults asked before after machine tx call bytes given readable found holding asks h =
    let packet = reply_to call machine.next_copy in
    let more = copies_by given packet in
    let grow = asks.never_fall in
    let old = found_sound (IsSound reads (faults before) machine.copies) (is_call tx) call machine.unfinished found h.calls in
    let within = found_within (is_call tx) 0 machine.begun call machine.unfinished h.numbered found in
    let number = found_is tx call machine.unfinished found in
    let least = grow call.from call.owner in
    let was = old.lost in
    let now : IsSound reads (faults after) (machine.copies ++ more) (answered bytes call) = record {
      body = old.body;
      reply = readable;
      stands = subst (λ part. OwnerStands part (Some bytes)) (sym (part_further call.owner Answered Holding call.receivers holding)) tt;
      replies = λ none. absurd (cc);
      lost = omega arith;
      moves = λ none free. (let one = reply_moves faults asked before after call machine.next_copy given asks (none_append (brings_on call) machine.copies more none).1 in omega arith);
    } in
    let sound : Sound reads (faults after) (record (replied (Some call) given machine) { unfinished = changed (is_call tx) (answered bytes) machine.unfinished }) = record {
      numbered = numbered_changed (is_call tx) (answered bytes) (λ call. refl) 0 machine.begun machine.unfinished h.numbered;
      flying = each_append (HasBegun machine.begun) machine.copies more h.flying (each_by (HasBegun machine.begun) given packet within within within);
      calls = each_changed (IsSound reads (faults before) machine.copies) (IsSound reads (faults after) (machine.copies ++ more)) tx (answered bytes) 0 machine.begun machine.unfinished h.numbered (λ other e k. kept reads (faults before) (faults after) machine.copies (machine.copies ++ more) other k grow (λ none. both_none (is_reply_of other) machine.copies more none (others_none other given packet (apart tx call other number e))) (λ none. (none_append (brings_on other) machine.copies more none).0)) (λ this e k. subst (λ call. IsSound reads (faults after) (machine.copies ++ more) (answered bytes call)) (some_is call this (sym found ∙ e)) now) h.calls;
    } in
    subst (λ o. Sound reads (faults after) (record (replied o given machine) { unfinished = changed (is_call tx) (answered bytes) (replied o given machine).unfinished })) (sym found) sound

past_holds : (part : Option Part) (reply : Option (List ℕ)) → arrival_at part reply ≡ Past → OwnerStands part reply → part ≡ Some Holding
past_holds None reply e stands = absurd stands
past_holds (Some Waiting) reply e stands = absurd (cc)
past_holds (Some Holding) reply e stands = refl
past_holds (Some Silent) reply e stands = absurd stands
past_holds (Some Answered) None e stands = absurd stands
past_holds (Some Answered) (Some reply) e stands = absurd (cc)

no_reply : (reply : Option (List ℕ)) → arrival_back reply ≡ Past → is_some reply ≡ false
no_reply None e = refl
no_reply (Some reply) e = absurd (cc)

pub past_kept : (reads : List ℕ → Type 0) (faults : ℕ → ℕ → ℕ) (copies : List PacketCopy) (number : PacketCopy → Bool) (copy : PacketCopy) (call : Call) → find number copies ≡ Some copy → is_call copy.tx call ≡ true → IsSound reads faults copies call → (reply owner : Bool) → copy.reply ≡ reply → (copy.to == call.owner) ≡ owner → cond reply (arrival_back call.reply) (arrival_at (part_of copy.to call.receivers) call.reply) ≡ Past → IsSound reads faults (less number copies) call
past_kept reads faults copies number copy call found is h true owner back to past =
    let none = found_none (is_reply_of call) number copy copies found (h.replies (no_reply call.reply past)) in
    let of_call : (copy.tx.0 == call.tx.0) ≡ true = grind (arith, nat_tests) in
    let one : is_reply_of call copy ≡ true = both_true (copy.tx.0 == call.tx.0) copy.reply of_call back in
    absurd (cc)
past_kept reads faults copies number copy call found is h false false back to past = landed_kept reads faults copies number copy call found (unlike_server copy call back to) h
past_kept reads faults copies number copy call found is h false true back to past =
    let owner = eqb-true copy.to call.owner to in
    let holding : part_of call.owner call.receivers ≡ Some Holding = past_holds (part_of call.owner call.receivers) call.reply (subst (λ n. arrival_at (part_of n call.receivers) call.reply ≡ Past) owner past) h.stands in
    record {
      body = h.body;
      reply = h.reply;
      stands = h.stands;
      replies = λ none. none_dropped (is_reply_of call) number copies (h.replies none);
      lost = h.lost;
      moves = λ none free. absurd (let held = ap holds holding in (cc));
    }

nothing_by : (p : Call → Bool) (first : Call) (calls : List Call) → (find p calls ≡ None → list_any p calls ≡ false) → (b : Bool) → cond b (Some first) (find p calls) ≡ None → (b || list_any p calls) ≡ false
nothing_by p first calls later true e = absurd (cc)
nothing_by p first calls later false e = later e

pub nothing_passes : (p : Call → Bool) (calls : List Call) → find p calls ≡ None → list_any p calls ≡ false
nothing_passes p [] e = refl
nothing_passes p (first ∷ calls) e = nothing_by p first calls (nothing_passes p calls) (p first) e

past_by : (reads : List ℕ → Type 0) (faults : ℕ → ℕ → ℕ) (machine : Machine) (copy : PacketCopy) → copy_of machine copy.number ≡ Some copy → Sound reads faults machine → (o : Option Call) → call_of machine copy.tx ≡ o → arrival_of copy o ≡ Past → AllByRecursion (IsSound reads faults (less (is_copy copy.number) machine.copies)) machine.unfinished
past_by reads faults machine copy flying h None found past =
    each_other (IsSound reads faults machine.copies) (IsSound reads faults (less (is_copy copy.number) machine.copies)) (is_call copy.tx) machine.unfinished (nothing_passes (is_call copy.tx) machine.unfinished found) (λ other e k. landed_kept reads faults machine.copies (is_copy copy.number) copy other flying (unlike_other copy other e) k) h.calls
past_by reads faults machine copy flying h (Some call) found past =
    let left = less (is_copy copy.number) machine.copies in
    let old = found_sound (IsSound reads faults machine.copies) (is_call copy.tx) call machine.unfinished found h.calls in
    let now = past_kept reads faults machine.copies (is_copy copy.number) copy call flying (found_is copy.tx call machine.unfinished found) old copy.reply (copy.to == call.owner) refl refl past in
    let all = each_changed (IsSound reads faults machine.copies) (IsSound reads faults left) copy.tx (λ call. call) 0 machine.begun machine.unfinished h.numbered (λ other e k. landed_kept reads faults machine.copies (is_copy copy.number) copy other flying (unlike_other copy other e) k) (λ this e k. subst (IsSound reads faults left) (some_is call this (sym found ∙ e)) now) h.calls in
    subst (AllByRecursion (IsSound reads faults left)) (changed_same (is_call copy.tx) machine.unfinished) all

-- a copy that its call is past
pub past_sound : (reads : List ℕ → Type 0) (faults : ℕ → ℕ → ℕ) (machine : Machine) (copy : PacketCopy) → copy_of machine copy.number ≡ Some copy → arrival machine copy ≡ Past → Sound reads faults machine → Sound reads faults (landed copy machine)
past_sound reads faults machine copy flying past h = record {
  numbered = h.numbered;
  flying = each_without (HasBegun machine.begun) (is_copy copy.number) machine.copies h.flying;
  calls = past_by reads faults machine copy flying h (call_of machine copy.tx) refl past;
}

-- the copy that is found by a number is found by its own
pub flying_is : (number : CopyNo) (copy : PacketCopy) (copies : List PacketCopy) → find (is_copy number) copies ≡ Some copy → find (is_copy copy.number) copies ≡ Some copy
flying_is number copy copies found =
    let same = eqb-true copy.number.0 number.0 (found_passes (is_copy number) copy copies found) in
    subst (λ n. find (λ (other : PacketCopy). other.number.0 == n) copies ≡ Some copy) (sym same) found
