use Rattle.client_facts.proofs.proc_examples.home_facts_can_fail.Goals as goal

pub returns : goal.returns
returns c = λ image. record {
  own = λ h. absurd (cc);
  live = λ h. absurd (cc);
  parked = λ h. absurd (cc);
  parked_once = λ h. absurd (cc);
  waits = λ h. absurd (cc);
  told = λ h. absurd (cc);
  under_way = λ h. absurd (cc);
  kills_once = λ h. absurd (cc);
  killed = λ h. absurd (cc);
  found = λ h. absurd (cc);
  forks = λ h. absurd (cc);
  forks_once = λ h. absurd (cc);
  early = λ h. absurd (cc);
}
