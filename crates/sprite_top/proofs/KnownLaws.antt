-- What is known of the trace of each run, so that its judge doesn't ask for it.
use Rattle.std.proofs.Common.{◌≡◌, ℕ, Bool, true, List, [], ◌∷◌, Some, Result, Ok, IfOk, refl, subst}
use Rattle.std.proofs.lemmas.Bool.{and_from, and_parts}
use Rattle.sprite_ids.specs.declared.no_memory.NoMemory.{NoMemory}
use Rattle.unix_calls.specs.declared.Description.{Description}
use Rattle.unix_calls.specs.declared.Event.{Event}
use Rattle.unix_calls.specs.declared.Event.TheVariants as events
use Rattle.unix_calls.specs.declared.Rec.{Rec}
use Rattle.call_journal.specs.declared.closed.Closed.{Closed}
use Rattle.call_journal.specs.Past.{Past, each_from, no_past, past_with}
use Rattle.packet_laws.specs.Worth.{AllGoWell, goes_well}
use Rattle.packet_laws.proofs.WorthLaws.{all_go_well}
use Rattle.packet_worth.specs.Faults.{faults_well}
use Rattle.packet_worth.specs.Losses.{loss_well}
use Rattle.record_worth.specs.Parts.{learns_once}
use Rattle.reached_laws.proofs.PacketLaws.{of_wires}
use Rattle.reached_prefixes.specs.Known.{is_learned_first}
use Rattle.reached_prefixes.proofs.KnownLaws.{asked_until, learned_once}
use Rattle.sprite_cluster.specs.Reached.{At}
use Rattle.trace_judge.specs.Known.{KnowsRun}
use Rattle.sprite_top.specs.Top.{IsRun, RunsOver}

-- a test that each record meets, where it meets one that says more
each_so : (c : Description) (p q : Past → Rec → Bool) (past : Past) (trace : List Rec) → ((past : Past) (r : Rec) → p past r ≡ true → q past r ≡ true) → each_from c (λ past r rest. p past r) past trace ≡ true → each_from c (λ past r rest. q past r) past trace ≡ true
each_so c p q past [] so h = refl
each_so c p q past (r ∷ rest) so h =
    (let parts = and_parts (p past r) (each_from c (λ past r rest. p past r) (past_with c r past) rest) h in
    and_from (q past r) (each_from c (λ past r rest. q past r) (past_with c r past) rest) (so past r parts.0) (each_so c p q (past_with c r past) rest so parts.1))

-- a try is over only behind a loss
behind_loss : (past : Past) (kernel : ℕ) (e : Event) → goes_well past kernel e ≡ true → loss_well past kernel e ≡ true
behind_loss past kernel (events.Expire tx last) h = (and_parts (loss_well past kernel (events.Expire tx last)) _ h).0
behind_loss past kernel e h = refl

-- and no more packets meet a fault than go out
faults_few : (past : Past) (kernel : ℕ) (e : Event) → goes_well past kernel e ≡ true → faults_well past e ≡ true
faults_few past kernel (events.Fault a b met) h = h
faults_few past kernel e h = refl

-- no kernel learns a prefix twice
first_once : (past : Past) (kernel : ℕ) (e : Event) → is_learned_first past kernel e ≡ true → learns_once past kernel e ≡ true
first_once past kernel (events.Learned prefix server) h = h
first_once past kernel e h = refl

-- what is known of each run
pub known_of : {L : Type 0} (faults asked : L → ℕ → ℕ → ℕ) (before after : L) (r : Result Closed NoMemory) (run : Closed) → r ≡ Ok run → IfOk r (λ (x : Closed). RunsOver faults asked before after (Some x)) → KnowsRun run.description run.trace
known_of {L} faults asked before after r run is over =
    (let runs : RunsOver faults asked before after (Some run) = subst (λ (x : Result Closed NoMemory). IfOk x (λ (y : Closed). RunsOver faults asked before after (Some y))) is over in
    let made : IsRun faults asked before after run = runs.run in
    let at : At L = record { wire = made.wire; state = made.state; trace = run.trace } in
    let c : Description = run.description in
    let well = of_wires faults asked AllGoWell all_go_well before after run.trace runs.wire c in
    record {
      broadcasts = asked_until faults asked c before at made.reached;
      worth = record {
        few = runs.wire.few;
        packets = record {
          losses = each_so c (λ past r. goes_well past r.kernel r.event) (λ past r. loss_well past r.kernel r.event) (no_past c) run.trace (λ past r. behind_loss past r.kernel r.event) well;
          faults = each_so c (λ past r. goes_well past r.kernel r.event) (λ past r. faults_well past r.event) (no_past c) run.trace (λ past r. faults_few past r.kernel r.event) well;
        };
        learned = each_so c (λ past r. is_learned_first past r.kernel r.event) (λ past r. learns_once past r.kernel r.event) (no_past c) run.trace (λ past r. first_once past r.kernel r.event) (learned_once faults asked c before at made.reached);
      };
    })
