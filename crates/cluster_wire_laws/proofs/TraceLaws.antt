-- A turn keeps that a trace tells the run's acts.
use Rattle.std.proofs.Common.{arith, ◌≡◌, ℕ, Bool, true, false, cond, List, [], ◌∷◌, ◌++◌, refl, sym, ap, ap₂, ◌∙◌, count_by}
use Rattle.kernel_rpc.specs.Histories.{reached, times}
use Rattle.kernel_rpc.specs.Machine.{Machine, idle}
use Rattle.unix_calls.specs.declared.Rec.{Rec}
use Rattle.cluster_wire.specs.Ran.{told_of}
use Rattle.cluster_wire.proofs.RanLaws.{ran_join}
use Rattle.cluster_wire_laws.specs.Links.{all_told_by, of_link}
use Rattle.call_journal.specs.Journal.{records_by}
use Rattle.cluster_wire_laws.specs.Orders.{is_of_wire, of_wire, told_by}
use Rattle.cluster_wire_laws.specs.Replies.{calls_replied, how_many_differ, replies_told, reply_told}
use Rattle.cluster_wire_laws.specs.Traces.{EndingsAreCounted, RepliesAreCounted, RequestsAreCounted, RepliesWereAsked, SendingsAreCounted, SendingsWereAsked, TurnKeepsOrder, records_so}
use Rattle.cluster_wire_laws.proofs.LinkLaws.{all_join, link_on}
use Rattle.cluster_wire_laws.proofs.OrderLaws.{told_join, wire_on}
use Rattle.cluster_wire_laws.proofs.TallyLaws.{agains_so, lasts_so, replies_so, requests_so}
use Rattle.std.proofs.lemmas.List.Sums.{sum_by-append}
use Rattle.unix_calls.specs.declared.Event.{Event}
use Rattle.unix_calls.specs.declared.Event.TheVariants as events
use Rattle.kernel_rpc.specs.Runs.{Counts}
use Rattle.kernel_rpc.specs.Steps.{counts_in}
use Rattle.cluster_wire_laws.specs.Asks.{answers_between, tells_sending}
use Rattle.cluster_wire_laws.proofs.AskLaws.{asked_for_each}
use Rattle.cluster_wire_laws.proofs.ReplyLaws.{replied_were_answered}
use Rattle.cluster_wire_laws.proofs.SendLaws.{all_sent_join}

-- the records of a turn are what its kernel told
records_told : (told : ℕ → Event → Bool) (kernel : ℕ) (events : List Event) → records_so told (records_by kernel events) ≡ count_by (told kernel) events
records_told told kernel [] = refl
records_told told kernel (e ∷ events) =
    (let first = sum_by-append (λ (r : Rec). cond {A = ℕ} (told r.kernel r.event) 1 0) (record { kernel = kernel; event = e } ∷ []) (records_by kernel events) in
    let next = sum_by-append (λ (e : Event). cond {A = ℕ} (told kernel e) 1 0) (e ∷ []) events in
    let rest = records_told told kernel events in omega arith)

pub turn_keeps : {L : Type 0} (faults asked : L → ℕ → ℕ → ℕ) → TurnKeepsOrder faults asked
turn_keeps faults asked begun kernel old new told before after run so written = record {
  first = run.first;
  idles = run.idles;
  counts = run.counts;
  steps = run.steps ++ so.steps;
  ran = ran_join faults asked run.first old new run.steps so.steps run.ran so.ran;
  linked = ap of_link written
      ∙ link_on before (records_by kernel told)
      ∙ ap₂ (λ (xs ys : List Rec). xs ++ ys) run.linked (so.linked ∙ ap (λ (machine : Machine). told_of all_told_by machine so.steps) (run.ran.reaches ∙ ap (λ (machine : Machine). reached machine run.steps) run.idles))
      ∙ sym (all_join run.steps so.steps idle);
  in_order = ap of_wire written
      ∙ wire_on before (records_by kernel told)
      ∙ ap₂ (λ (xs ys : List Rec). xs ++ ys) run.in_order (so.in_order ∙ ap (λ (machine : Machine). told_of told_by machine so.steps) (run.ran.reaches ∙ ap (λ (machine : Machine). reached machine run.steps) run.idles))
      ∙ sym (told_join run.steps so.steps idle);
  sends = λ a b.
      (let sum = ap (records_so (tells_sending a b)) written ∙ sum_by-append (λ (r : Rec). cond {A = ℕ} (tells_sending a b r.kernel r.event) 1 0) before (records_by kernel told) in
      let here = records_told (tells_sending a b) kernel told in
      let one = run.sends a b in
      let two = so.sends a b in
      let all = all_sent_join a b run.steps so.steps in omega arith);
}

pub requests_are : {L : Type 0} (faults asked : L → ℕ → ℕ → ℕ) → RequestsAreCounted faults asked
requests_are faults asked begun wire trace tx at run = requests_so tx at trace run.steps idle run.in_order

pub replies_are : {L : Type 0} (faults asked : L → ℕ → ℕ → ℕ) → RepliesAreCounted faults asked
replies_are faults asked begun wire trace tx at run = replies_so tx at trace run.steps idle run.in_order

pub sendings_are : {L : Type 0} (faults asked : L → ℕ → ℕ → ℕ) → SendingsAreCounted faults asked
sendings_are faults asked begun wire trace tx run = agains_so tx trace run.steps idle run.in_order

pub endings_are : {L : Type 0} (faults asked : L → ℕ → ℕ → ℕ) → EndingsAreCounted faults asked
endings_are faults asked begun wire trace tx run = lasts_so tx trace run.steps idle run.in_order

-- of the wire or not, no other record tells of a reply
no_reply : (a b kernel : ℕ) (e : Event) → is_of_wire e ≡ false → reply_told a b kernel e ≡ []
no_reply a b kernel (events.Deliver tx from reply about) is = absurd (cc)
no_reply a b kernel e is = refl

wire_replies : (a b : ℕ) (trace : List Rec) → replies_told a b trace ≡ replies_told a b (of_wire trace)
wire_replies a b [] = refl
wire_replies a b (r ∷ trace) = by_first (is_of_wire r.event) refl (wire_replies a b trace)
  where
    by_first : (of : Bool) → is_of_wire r.event ≡ of → replies_told a b trace ≡ replies_told a b (of_wire trace) → replies_told a b (r ∷ trace) ≡ replies_told a b (cond {A = List Rec} of (r ∷ of_wire trace) (of_wire trace))
    by_first true is rest = ap (λ (ns : List ℕ). reply_told a b r.kernel r.event ++ ns) rest
    by_first false is rest = ap₂ (λ (ms ns : List ℕ). ms ++ ns) (no_reply a b r.kernel r.event is) rest

pub replies_asked : {L : Type 0} (faults asked : L → ℕ → ℕ → ℕ) → RepliesWereAsked faults asked
replies_asked faults asked begun wire trace a b one other run =
    (let counts = counts_in faults asked run.first.link in
    let rose = asked_for_each run.first.machine counts run.steps a b one other run.ran.run in
    let start = ap (λ (machine : Machine). times (answers_between a b) machine run.steps) run.idles in
    let end = ap (λ (counts : Counts). counts.asked a b) run.ran.counts in
    let begins = run.counts.asked_stay a b in
    let told = run.sends a b in
    let replied : calls_replied a b trace ≡ calls_replied a b (told_of told_by idle run.steps) = ap how_many_differ (wire_replies a b trace ∙ ap (replies_told a b) run.in_order) in
    let answered = replied_were_answered a b run.steps in omega arith)

pub sendings_asked : {L : Type 0} (faults asked : L → ℕ → ℕ → ℕ) → SendingsWereAsked faults asked
sendings_asked faults asked begun wire trace a b one other run = (let more = replies_asked faults asked begun wire trace a b one other run in omega arith)
