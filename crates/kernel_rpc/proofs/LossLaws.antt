-- Where a timer may fire, a packet of its call was lost since the last sending.
use Rattle.std.proofs.Common.{arith, ◌≡◌, ℕ, ◌+◌, ◌≤◌, ◌==◌, Bool, true, false, ◌&&◌, ◌||◌, cond, List, [], ◌∷◌, ◌++◌, map, Option, Some, None, refl, sym, ap, subst, ◌∙◌}
use Rattle.std.specs.List.{AllByRecursion, find, list_any}
use Rattle.std.proofs.lemmas.Bool.Decides.{nat_tests}
use Rattle.std.proofs.lemmas.Bool.{eqb-true}
use Rattle.sprite_ids.specs.declared.TxNo.{TxNo}
use Rattle.sprite_ids.specs.Lists.{changed, less}
use Rattle.sprite_ids.proofs.ListLaws.{each_push, some_is}
use Rattle.link_plan.specs.declared.Fate.{Fate}
use Rattle.kernel_rpc.specs.declared.call.Part.TheVariants.{Waiting, Holding, Silent, Answered}
use Rattle.kernel_rpc.specs.declared.call.Arrival.{Arrival}
use Rattle.kernel_rpc.specs.declared.call.Arrival.TheVariants.{FirstRequest, FirstReply, AskedAgain, Past}
use Rattle.kernel_rpc.specs.declared.call.Call.{Call}
use Rattle.kernel_rpc.specs.declared.call.PacketCopy.{PacketCopy}
use Rattle.kernel_rpc.specs.Copies.{copies_by, requests}
use Rattle.kernel_rpc.specs.Machine.{Machine, answered, arrival, arrival_of, call_of, copy_of, delivered_as, fresh, further, gave_up, holds, idle, is_call, is_copy, is_last, is_of_call, landed, may_fire, new_call, owner_of, part_of, replied, reply_to, request, resent, tried}
use Rattle.kernel_rpc.specs.Sound.{IsReadable, IsSound, OwnerStands, brings_on, is_reply_of}
use Rattle.kernel_rpc.specs.Runs.{Act, Begin, Deliver, Answer, Silence, Expire, AsksAgain, AsksUnless, Counts, IsRun, MayAct, after, delivered_by, expired_by, once_if}
use Rattle.kernel_rpc.specs.Histories.{EachLost, IsLostWhereDue, LostBeforeExpiry, is_asked_again, is_loss, lost_since, loses_again, loses_to}
use Rattle.kernel_rpc.proofs.ArrivalLaws.{asked_again, first_request}
use Rattle.kernel_rpc.proofs.BeginLaws.{kernels_fresh, may_answer_held, may_be_silent_apart}
use Rattle.kernel_rpc.proofs.CauseLaws.{Any, Holds, after_holds}
use Rattle.kernel_rpc.proofs.CopyLaws.{both_none, is_lost, none_append, none_dropped, none_undropped}
use Rattle.kernel_rpc.proofs.LandLaws.{apart, flying_is, landed_kept, nothing_passes, past_kept, taken_sound, unlike_other}
use Rattle.kernel_rpc.proofs.NumberLaws.{changed_same, each_changed, each_dropped, each_other}
use Rattle.kernel_rpc.proofs.PartLaws.{both_true, eq_same, eq_turned, is_there, part_fresh, part_further, part_stays, was_sent}
use Rattle.kernel_rpc.proofs.SoundLaws.{due_spent, each_within, found_is, found_sound, kept, none_begun, other_copy, others_none, requests_none, stands_somewhere}

-- what holds of a call where its pair has one fault more exactly where a packet was lost since the last sending
abbrev Flagged : (ℕ → Bool) → List PacketCopy → Call → Type 0
Flagged lost copies call = IsSound Any (λ a b. call.before + call.lost + once_if (lost call.tx.0)) copies call

no_less : (x y : Bool) → (x ≡ true → y ≡ true) → once_if x ≤ once_if y
no_less true y h = (let one = ap once_if (h refl) in omega arith)
no_less false y h = omega arith

flag_kept : (lost later : ℕ → Bool) (before after : List PacketCopy) (call : Call) → (lost call.tx.0 ≡ true → later call.tx.0 ≡ true) → (list_any (is_reply_of call) before ≡ false → list_any (is_reply_of call) after ≡ false) → (list_any (brings_on call) after ≡ false → list_any (brings_on call) before ≡ false) → Flagged lost before call → Flagged later after call
flag_kept lost later before after call more replies moves h = kept Any (λ a b. call.before + call.lost + once_if (lost call.tx.0)) (λ a b. call.before + call.lost + once_if (later call.tx.0)) before after call h (λ a b. (let least = no_less (lost call.tx.0) (later call.tx.0) more in omega arith)) replies moves

flag_more : (lost later : ℕ → Bool) (copies : List PacketCopy) (call : Call) → (lost call.tx.0 ≡ true → later call.tx.0 ≡ true) → Flagged lost copies call → Flagged later copies call
flag_more lost later copies call more h = flag_kept lost later copies copies call more (λ none. none) (λ none. none) h

raised : (x : Bool) (n : ℕ) → x ≡ true → n + 1 ≤ n + once_if x
raised x n e = (let one = ap once_if e in omega arith)

or_true : (b : Bool) → (b || true) ≡ true
or_true true = refl
or_true false = refl

sent_by : (call : Call) (packet : PacketCopy) (number : ℕ) (first : ℕ × Fate) (sent : List (ℕ × Fate)) → packet.tx ≡ call.tx → list_any (brings_on call) (copies_by first.1 (record packet { number = record { 0 = number }; to = first.0 })) ≡ false → (list_any (λ (packet : ℕ × Fate). packet.0 == call.owner) sent ≡ true → loses_to call.owner sent ≡ true) → (b : Bool) → (first.0 == call.owner) ≡ b → (b || list_any (λ (packet : ℕ × Fate). packet.0 == call.owner) sent) ≡ true → loses_to call.owner (first ∷ sent) ≡ true
sent_by call packet number first sent same none later true is there =
    let of_call : is_of_call call.tx packet ≡ true = ap (λ (tx : TxNo). tx.0 == call.tx.0) same ∙ eq_same call.tx.0 in
    let to_owner : (packet.reply || (first.0 == call.owner)) ≡ true = ap (λ b. packet.reply || b) is ∙ or_true packet.reply in
    let brings : (is_of_call call.tx packet && (packet.reply || (first.0 == call.owner))) ≡ true = both_true (is_of_call call.tx packet) (packet.reply || (first.0 == call.owner)) of_call to_owner in
    let gone = is_lost (brings_on call) first.1 (record packet { number = record { 0 = number }; to = first.0 }) brings brings none in
    ap (λ b. b || loses_to call.owner sent) (both_true (first.0 == call.owner) (is_loss first.1) is (ap is_loss gone))
sent_by call packet number first sent same none later false is there = ap (λ b. ((first.0 == call.owner) && is_loss first.1) || b) (later there) ∙ or_true ((first.0 == call.owner) && is_loss first.1)

-- a request that was sent to the owner is in flight, or was lost
sent_lost : (call : Call) (packet : PacketCopy) (number : ℕ) (sent : List (ℕ × Fate)) → packet.tx ≡ call.tx → list_any (λ (packet : ℕ × Fate). packet.0 == call.owner) sent ≡ true → list_any (brings_on call) (requests packet number sent) ≡ false → loses_to call.owner sent ≡ true
sent_lost call packet number [] same there none = absurd (cc)
sent_lost call packet number (first ∷ sent) same there none =
    let parts = none_append (brings_on call) (copies_by first.1 (record packet { number = record { 0 = number }; to = first.0 })) (requests packet (number + 2) sent) none in
    sent_by call packet number first sent same parts.0 (λ later. sent_lost call packet (number + 2) sent same later parts.1) (first.0 == call.owner) refl there

-- a reply that was sent is in flight, or was lost
reply_lost : (call : Call) (number : ℕ) (given : Fate) → list_any (brings_on call) (copies_by given (reply_to call number)) ≡ false → is_loss given ≡ true
reply_lost call number given none =
    let brings : (is_of_call call.tx (reply_to call number) && true) ≡ true = both_true (call.tx.0 == call.tx.0) true (eq_same call.tx.0) refl in
    ap is_loss (is_lost (brings_on call) given (reply_to call number) brings brings none)

each_both : {X : Type 0} (P Q R : X → Type 0) (xs : List X) → ((x : X) → P x → Q x → R x) → AllByRecursion P xs → AllByRecursion Q xs → AllByRecursion R xs
each_both P Q R [] both h k = tt
each_both P Q R (x ∷ xs) both h k = (both x h.0 k.0, each_both P Q R xs both h.1 k.1)

-- what holds of a machine
abbrev AllFlagged : (ℕ → Bool) → Machine → Type 0
AllFlagged lost machine = AllByRecursion (Flagged lost machine.copies) machine.unfinished

readable : (bytes : Option (List ℕ)) → IsReadable Any bytes
readable None = tt
readable (Some bytes) = tt

new_number : (begun tx : ℕ) → tx ≤ begun → (begun + 1 == tx) ≡ false
new_number begun tx within = grind (arith, nat_tests)

begin_flagged : (lost : ℕ → Bool) (machine : Machine) (call : Call) (sent : List (ℕ × Fate)) (counts : Counts) → Holds machine counts → call.tx ≡ record { 0 = machine.begun + 1 } → call.reply ≡ None → call.lost ≡ 0 → part_of call.owner call.receivers ≡ Some Waiting → list_any (λ (packet : ℕ × Fate). packet.0 == call.owner) sent ≡ true → AllFlagged lost machine → AllByRecursion (Flagged (λ tx. cond (machine.begun + 1 == tx) (loses_to call.owner sent) (lost tx)) (machine.copies ++ requests (request call machine.next_copy call.owner) machine.next_copy sent)) (machine.unfinished ++ call ∷ [])
begin_flagged lost machine call sent counts sound number blank zero_lost waits there h =
    let packet = request call machine.next_copy call.owner in
    let more = requests packet machine.next_copy sent in
    let later : ℕ → Bool = λ tx. cond (machine.begun + 1 == tx) (loses_to call.owner sent) (lost tx) in
    let first : call.tx.0 ≡ machine.begun + 1 = ap (λ (tx : TxNo). tx.0) number in
    let here : (machine.begun + 1 == call.tx.0) ≡ true = grind (arith, nat_tests) in
    let flag : later call.tx.0 ≡ loses_to call.owner sent = ap (λ b. cond b (loses_to call.owner sent) (lost call.tx.0)) here in
    each_push (Flagged later (machine.copies ++ more)) machine.unfinished call (each_both (λ (call : Call). call.tx.0 ≤ machine.begun) (Flagged lost machine.copies) (Flagged later (machine.copies ++ more)) machine.unfinished (λ other within k. flag_kept lost later machine.copies (machine.copies ++ more) other (λ e. ap (λ b. cond b (loses_to call.owner sent) (lost other.tx.0)) (new_number machine.begun other.tx.0 within) ∙ e) (λ none. both_none (is_reply_of other) machine.copies more none (requests_none other packet machine.next_copy sent refl)) (λ none. (none_append (brings_on other) machine.copies more none).0) k) (each_within 0 machine.begun machine.unfinished sound.numbered) h) record {
      body = tt;
      reply = readable call.reply;
      stands = subst (λ part. OwnerStands part call.reply) (sym waits) (subst (OwnerStands (Some Waiting)) (sym blank) tt);
      replies = λ none. both_none (is_reply_of call) machine.copies more (none_begun call machine.begun machine.copies (omega arith) sound.flying) (requests_none call packet machine.next_copy sent refl);
      lost = omega arith;
      moves = λ none free. raised (later call.tx.0) (call.before + call.lost) (flag ∙ sent_lost call packet machine.next_copy sent refl there (none_append (brings_on call) machine.copies more none).1);
    }

-- a copy of another call landed
other_landed : (lost later : ℕ → Bool) (copies : List PacketCopy) (copy : PacketCopy) (call : Call) → find (is_copy copy.number) copies ≡ Some copy → ((tx : ℕ) → lost tx ≡ true → later tx ≡ true) → is_call copy.tx call ≡ false → Flagged lost copies call → Flagged later (less (is_copy copy.number) copies) call
other_landed lost later copies copy call flying more e h = flag_more lost later (less (is_copy copy.number) copies) call (more call.tx.0) (landed_kept Any (λ a b. call.before + call.lost + once_if (lost call.tx.0)) copies (is_copy copy.number) copy call flying (unlike_other copy call e) h)

past_flagged : (lost later : ℕ → Bool) (machine : Machine) (counts : Counts) (copy : PacketCopy) → copy_of machine copy.number ≡ Some copy → ((tx : ℕ) → lost tx ≡ true → later tx ≡ true) → Holds machine counts → AllFlagged lost machine → (o : Option Call) → call_of machine copy.tx ≡ o → arrival_of copy o ≡ Past → AllByRecursion (Flagged later (less (is_copy copy.number) machine.copies)) machine.unfinished
past_flagged lost later machine counts copy flying more sound h None found past =
    each_other (Flagged lost machine.copies) (Flagged later (less (is_copy copy.number) machine.copies)) (is_call copy.tx) machine.unfinished (nothing_passes (is_call copy.tx) machine.unfinished found) (λ other e k. other_landed lost later machine.copies copy other flying more e k) h
past_flagged lost later machine counts copy flying more sound h (Some call) found past =
    let left = less (is_copy copy.number) machine.copies in
    let old = found_sound (Flagged lost machine.copies) (is_call copy.tx) call machine.unfinished found h in
    let now = past_kept Any (λ a b. call.before + call.lost + once_if (lost call.tx.0)) machine.copies (is_copy copy.number) copy call flying (found_is copy.tx call machine.unfinished found) old copy.reply (copy.to == call.owner) refl refl past in
    let all = each_changed (Flagged lost machine.copies) (Flagged later left) copy.tx (λ call. call) 0 machine.begun machine.unfinished sound.numbered (λ other e k. other_landed lost later machine.copies copy other flying more e k) (λ this e k. subst (Flagged later left) (some_is call this (sym found ∙ e)) (flag_more lost later left call (more call.tx.0) now)) h in
    subst (AllByRecursion (Flagged later left)) (changed_same (is_call copy.tx) machine.unfinished) all

arrived_flagged : (a : Arrival) (lost later : ℕ → Bool) (machine : Machine) (counts : Counts) (copy : PacketCopy) (given : Fate) → copy_of machine copy.number ≡ Some copy → arrival machine copy ≡ a → ((tx : ℕ) → lost tx ≡ true → later tx ≡ true) → (is_asked_again a ≡ true → is_loss given ≡ true → later copy.tx.0 ≡ true) → Holds machine counts → AllFlagged lost machine → AllFlagged later (delivered_as a copy given (landed copy machine))
arrived_flagged FirstRequest lost later machine counts copy given flying is more lose sound h =
    let left = less (is_copy copy.number) machine.copies in
    let first = first_request copy (call_of machine copy.tx) is in
    each_changed (Flagged lost machine.copies) (Flagged later left) copy.tx (further copy.to Holding) 0 machine.begun machine.unfinished sound.numbered (λ other e k. other_landed lost later machine.copies copy other flying more e k) (λ this e k. flag_more lost later left (further copy.to Holding this) (more this.tx.0) (taken_sound Any (λ a b. this.before + this.lost + once_if (lost this.tx.0)) machine.copies (is_copy copy.number) copy this flying first.2 (subst (λ (call : Call). part_of copy.to call.receivers ≡ Some Waiting) (some_is first.0 this (sym first.1 ∙ e)) first.3) k (copy.to == this.owner) refl)) h
arrived_flagged FirstReply lost later machine counts copy given flying is more lose sound h =
    each_dropped (Flagged lost machine.copies) (Flagged later (less (is_copy copy.number) machine.copies)) copy.tx 0 machine.begun machine.unfinished sound.numbered (λ other e k. other_landed lost later machine.copies copy other flying more e k) h
arrived_flagged AskedAgain lost later machine counts copy given flying is more lose sound h =
    let again = asked_again copy (call_of machine copy.tx) is in
    let call = again.0 in
    let found = again.1 in
    let left = less (is_copy copy.number) machine.copies in
    let packet = reply_to call machine.next_copy in
    let added = copies_by given packet in
    let old = found_sound (Flagged lost machine.copies) (is_call copy.tx) call machine.unfinished found h in
    let number = found_is copy.tx call machine.unfinished found in
    let same : copy.tx.0 ≡ call.tx.0 = sym (eqb-true call.tx.0 copy.tx.0 number) in
    let now : Flagged later (left ++ added) call = record {
      body = tt;
      reply = old.reply;
      stands = old.stands;
      replies = λ none. absurd (let there = again.2 in (cc));
      lost = omega arith;
      moves = λ none free. raised (later call.tx.0) (call.before + call.lost) (subst (λ n. later n ≡ true) same (lose refl (reply_lost call machine.next_copy given (none_append (brings_on call) left added none).1)));
    } in
    let all = each_changed (Flagged lost machine.copies) (Flagged later (left ++ added)) copy.tx (λ call. call) 0 machine.begun machine.unfinished sound.numbered (λ other e k. flag_kept lost later machine.copies (left ++ added) other (more other.tx.0) (λ none. both_none (is_reply_of other) left added (none_dropped (is_reply_of other) (is_copy copy.number) machine.copies none) (others_none other given packet (apart copy.tx call other number e))) (λ none. none_undropped (brings_on other) (is_copy copy.number) copy machine.copies flying (unlike_other copy other e) (none_append (brings_on other) left added none).0) k) (λ this e k. subst (Flagged later (left ++ added)) (some_is call this (sym found ∙ e)) now) h in
    subst (λ o. AllFlagged later (replied o given (landed copy machine))) (sym found) (subst (AllByRecursion (Flagged later (left ++ added))) (changed_same (is_call copy.tx) machine.unfinished) all)
arrived_flagged Past lost later machine counts copy given flying is more lose sound h = past_flagged lost later machine counts copy flying more sound h (call_of machine copy.tx) refl is

each_more : (lost later : ℕ → Bool) (copies : List PacketCopy) (calls : List Call) → ((tx : ℕ) → lost tx ≡ true → later tx ≡ true) → AllByRecursion (Flagged lost copies) calls → AllByRecursion (Flagged later copies) calls
each_more lost later copies [] more h = tt
each_more lost later copies (call ∷ calls) more h = (flag_more lost later copies call (more call.tx.0) h.0, each_more lost later copies calls more h.1)

delivered_flagged : (o : Option PacketCopy) (lost : ℕ → Bool) (machine : Machine) (counts : Counts) (given : Fate) → ((copy : PacketCopy) → o ≡ Some copy → copy_of machine copy.number ≡ Some copy) → Holds machine counts → AllFlagged lost machine → AllFlagged (λ tx. lost tx || loses_again tx machine given o) (delivered_by o given machine)
delivered_flagged None lost machine counts given flying sound h = each_more lost (λ tx. lost tx || false) machine.copies machine.unfinished (λ tx e. ap (λ b. b || false) e) h
delivered_flagged (Some copy) lost machine counts given flying sound h =
    arrived_flagged (arrival machine copy) lost (λ tx. lost tx || ((copy.tx.0 == tx) && (is_asked_again (arrival machine copy) && is_loss given))) machine counts copy given (flying copy refl) refl (λ tx e. ap (λ b. b || ((copy.tx.0 == tx) && (is_asked_again (arrival machine copy) && is_loss given))) e) (λ e k. ap (λ b. lost copy.tx.0 || b) (both_true (copy.tx.0 == copy.tx.0) (is_asked_again (arrival machine copy) && is_loss given) (eq_same copy.tx.0) (both_true (is_asked_again (arrival machine copy)) (is_loss given) e k)) ∙ or_true (lost copy.tx.0)) sound h

same_number : (tx : TxNo) (call : Call) → is_call tx call ≡ true → (tx.0 == call.tx.0) ≡ true
same_number tx call e = grind (arith, nat_tests)

answer_flagged : (lost : ℕ → Bool) (machine : Machine) (counts : Counts) (tx : TxNo) (call : Call) (bytes : List ℕ) (given : Fate) → call_of machine tx ≡ Some call → part_of call.owner call.receivers ≡ Some Holding → Holds machine counts → AllFlagged lost machine → AllByRecursion (Flagged (λ n. lost n || ((tx.0 == n) && is_loss given)) (replied (call_of machine tx) given machine).copies) (changed (is_call tx) (answered bytes) (replied (call_of machine tx) given machine).unfinished)
answer_flagged lost machine counts tx call bytes given found holding sound h =
    let later : ℕ → Bool = λ n. lost n || ((tx.0 == n) && is_loss given) in
    let packet = reply_to call machine.next_copy in
    let added = copies_by given packet in
    let old = found_sound (Flagged lost machine.copies) (is_call tx) call machine.unfinished found h in
    let number = found_is tx call machine.unfinished found in
    let now : Flagged later (machine.copies ++ added) (answered bytes call) = record {
      body = tt;
      reply = tt;
      stands = subst (λ part. OwnerStands part (Some bytes)) (sym (part_further call.owner Answered Holding call.receivers holding)) tt;
      replies = λ none. absurd (cc);
      lost = omega arith;
      moves = λ none free. raised (later call.tx.0) (call.before + call.lost) (ap (λ b. lost call.tx.0 || b) (both_true (tx.0 == call.tx.0) (is_loss given) (same_number tx call number) (reply_lost call machine.next_copy given (none_append (brings_on call) machine.copies added none).1)) ∙ or_true (lost call.tx.0));
    } in
    let all = each_changed (Flagged lost machine.copies) (Flagged later (machine.copies ++ added)) tx (answered bytes) 0 machine.begun machine.unfinished sound.numbered (λ other e k. flag_kept lost later machine.copies (machine.copies ++ added) other (λ up. ap (λ b. b || ((tx.0 == other.tx.0) && is_loss given)) up) (λ none. both_none (is_reply_of other) machine.copies added none (others_none other given packet (apart tx call other number e))) (λ none. (none_append (brings_on other) machine.copies added none).0) k) (λ this e k. subst (λ call. Flagged later (machine.copies ++ added) (answered bytes call)) (some_is call this (sym found ∙ e)) now) h in
    subst (λ o. AllByRecursion (Flagged later (replied o given machine).copies) (changed (is_call tx) (answered bytes) (replied o given machine).unfinished)) (sym found) all

silent_flagged : (lost : ℕ → Bool) (machine : Machine) (counts : Counts) (tx : TxNo) (kernel : ℕ) (call : Call) → call_of machine tx ≡ Some call → (kernel == call.owner) ≡ false → Holds machine counts → AllFlagged lost machine → AllByRecursion (Flagged lost machine.copies) (changed (is_call tx) (further kernel Silent) machine.unfinished)
silent_flagged lost machine counts tx kernel call found away sound h =
    let old = found_sound (Flagged lost machine.copies) (is_call tx) call machine.unfinished found h in
    let same = part_stays kernel call.owner Silent call.receivers away in
    let now : Flagged lost machine.copies (further kernel Silent call) = record {
      body = old.body;
      reply = old.reply;
      stands = subst (λ part. OwnerStands part call.reply) (sym same) old.stands;
      replies = old.replies;
      lost = old.lost;
      moves = λ none free. old.moves none (ap holds (sym same) ∙ free);
    } in
    each_changed (Flagged lost machine.copies) (Flagged lost machine.copies) tx (further kernel Silent) 0 machine.begun machine.unfinished sound.numbered (λ other e k. k) (λ this e k. subst (λ call. Flagged lost machine.copies (further kernel Silent call)) (some_is call this (sym found ∙ e)) now) h

expired_flagged : (lost : ℕ → Bool) (machine : Machine) (old new : Counts) (tx : TxNo) (call : Call) (sent : List (ℕ × Fate)) → call_of machine tx ≡ Some call → Holds machine old → AllFlagged lost machine → (b : Bool) → AsksUnless b old new sent call → AllFlagged (λ n. cond (tx.0 == n) (loses_to call.owner sent) (lost n)) (cond b (gave_up tx machine) (resent tx (Some call) sent machine))
expired_flagged lost machine old new tx call sent found sound h true asks =
    each_dropped (Flagged lost machine.copies) (Flagged (λ n. cond (tx.0 == n) (loses_to call.owner sent) (lost n)) machine.copies) tx 0 machine.begun machine.unfinished sound.numbered (λ other e k. flag_more lost (λ n. cond (tx.0 == n) (loses_to call.owner sent) (lost n)) machine.copies other (λ up. ap (λ b. cond b (loses_to call.owner sent) (lost other.tx.0)) (other_copy tx other e) ∙ up) k) h
expired_flagged lost machine old new tx call sent found sound h false asks =
    let later : ℕ → Bool = λ n. cond (tx.0 == n) (loses_to call.owner sent) (lost n) in
    let packet = request call machine.next_copy call.owner in
    let added = requests packet machine.next_copy sent in
    let was = found_sound (Flagged lost machine.copies) (is_call tx) call machine.unfinished found h in
    let somewhere = stands_somewhere (part_of call.owner call.receivers) call.reply was.stands in
    let there = was_sent call.owner sent call.receivers asks.0 (is_there call.owner somewhere.0 call.receivers somewhere.1) in
    let flag : later call.tx.0 ≡ loses_to call.owner sent = ap (λ b. cond b (loses_to call.owner sent) (lost call.tx.0)) (same_number tx call (found_is tx call machine.unfinished found)) in
    let now : Flagged later (machine.copies ++ added) (tried call) = record {
      body = was.body;
      reply = was.reply;
      stands = was.stands;
      replies = λ none. both_none (is_reply_of call) machine.copies added (was.replies none) (requests_none call packet machine.next_copy sent refl);
      lost = omega arith;
      moves = λ none free. raised (later call.tx.0) (call.before + (tried call).lost) (flag ∙ sent_lost call packet machine.next_copy sent refl there (none_append (brings_on call) machine.copies added none).1);
    } in
    each_changed (Flagged lost machine.copies) (Flagged later (machine.copies ++ added)) tx tried 0 machine.begun machine.unfinished sound.numbered (λ other e k. flag_kept lost later machine.copies (machine.copies ++ added) other (λ up. ap (λ b. cond b (loses_to call.owner sent) (lost other.tx.0)) (other_copy tx other e) ∙ up) (λ none. both_none (is_reply_of other) machine.copies added none (requests_none other packet machine.next_copy sent refl)) (λ none. (none_append (brings_on other) machine.copies added none).0) k) (λ this e k. subst (λ call. Flagged later (machine.copies ++ added) (tried call)) (some_is call this (sym found ∙ e)) now) h

expire_flagged : (o : Option Call) (lost : ℕ → Bool) (machine : Machine) (old new : Counts) (tx : TxNo) (sent : List (ℕ × Fate)) → call_of machine tx ≡ o → AsksAgain old new sent o → Holds machine old → AllFlagged lost machine → AllFlagged (λ n. cond (tx.0 == n) (loses_to (owner_of o) sent) (lost n)) (expired_by tx o sent machine)
expire_flagged None lost machine old new tx sent found asks sound h = absurd asks
expire_flagged (Some call) lost machine old new tx sent found asks sound h = expired_flagged lost machine old new tx call sent found sound h (is_last call) asks

flagged_after : (lost : ℕ → Bool) (machine : Machine) (old : Counts) (act : Act) (new : Counts) → MayAct machine old act new → Holds machine old → AllFlagged lost machine → AllFlagged (λ tx. lost_since tx machine act (lost tx)) (after machine act)
flagged_after lost machine old (Begin from port servers owner body tries about before sent) new may sound h =
    let waits = part_fresh owner servers may.2 in
    let there = was_sent owner sent (map fresh servers) (may.5 ∙ sym (kernels_fresh servers)) (is_there owner Waiting (map fresh servers) waits) in
    begin_flagged lost machine (new_call machine from port servers owner body tries about before) sent old sound refl refl refl waits there h
flagged_after lost machine old (Deliver number given) new may sound h = delivered_flagged (copy_of machine number) lost machine old given (λ copy found. flying_is number copy machine.copies found) sound h
flagged_after lost machine old (Answer tx body given) new may sound h =
    let held = may_answer_held (call_of machine tx) may.0 in
    answer_flagged lost machine old tx held.0 body given held.1 held.2 sound h
flagged_after lost machine old (Silence tx kernel) new may sound h =
    let away = may_be_silent_apart kernel (call_of machine tx) may.0 in
    silent_flagged lost machine old tx kernel away.0 away.1 (eq_turned away.0.owner kernel away.2) sound h
flagged_after lost machine old (Expire tx sent) new may sound h = expire_flagged (call_of machine tx) lost machine old new tx sent refl may.1 sound h

flag_up : (b : Bool) (n : ℕ) → n + 1 ≤ n + once_if b → b ≡ true
flag_up true n h = refl
flag_up false n h = absurd (omega arith)

due_lost : (o : Option Call) (lost : ℕ → Bool) (machine : Machine) (tx : TxNo) → call_of machine tx ≡ o → may_fire machine.copies o ≡ true → AllFlagged lost machine → lost tx.0 ≡ true
due_lost None lost machine tx found due h = absurd (cc)
due_lost (Some call) lost machine tx found due h =
    let here = found_sound (Flagged lost machine.copies) (is_call tx) call machine.unfinished found h in
    let spent = due_spent Any (λ a b. call.before + call.lost + once_if (lost call.tx.0)) machine.copies call due here in
    subst (λ n. lost n ≡ true) (eqb-true call.tx.0 tx.0 (found_is tx call machine.unfinished found)) (flag_up (lost call.tx.0) (call.before + call.lost) spent)

lost_where_due : (lost : ℕ → Bool) (machine : Machine) → AllFlagged lost machine → IsLostWhereDue lost machine
lost_where_due lost machine h tx due = due_lost (call_of machine tx) lost machine tx refl due h

each_lost : (lost : ℕ → Bool) (machine : Machine) (counts : Counts) (steps : List (Act × Counts)) → IsRun machine counts steps → Holds machine counts → AllFlagged lost machine → EachLost lost machine steps
each_lost lost machine counts [] run sound h = lost_where_due lost machine h
each_lost lost machine counts (first ∷ rest) run sound h = (lost_where_due lost machine h, each_lost (λ tx. lost_since tx machine first.0 (lost tx)) (after machine first.0) first.1 rest run.1 (after_holds machine counts first.0 first.1 run.0 sound) (flagged_after lost machine counts first.0 first.1 run.0 sound h))

-- a packet was lost where a timer may fire
pub lost_before_expiry : LostBeforeExpiry
lost_before_expiry counts steps run = each_lost (λ tx. false) idle counts steps run record { numbered = omega arith; flying = tt; calls = tt } tt
