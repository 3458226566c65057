use Rattle.client_facts.proofs.proc_examples.proc_facts_can_fail.Goals as goal

pub returns : goal.returns
returns c = λ image. record {
  once = λ h. absurd (cc);
  leaving_once = λ h. absurd (cc);
  apart = λ h. absurd (cc);
  inside_calls = λ h. absurd (cc);
  here = λ h. absurd (let lacks = h.here in cc);
  moves = λ h. absurd (let lacks = h.leaving in cc);
  owners = λ h. absurd (cc);
  unmoved = λ h. absurd (cc);
  killed = λ h. absurd (cc);
  evicted = λ h. absurd (cc);
  in_call = λ h. absurd (cc);
  paging = λ h. absurd (cc);
  coming = λ h. absurd (cc);
  settled = λ h. absurd (cc);
  calls = λ h. absurd (cc);
  wanted = λ h. absurd (cc);
  wanted_page = λ h. absurd (cc);
  calls_once = λ h. absurd (cc);
  pages = λ h. absurd (cc);
  getting = λ h. absurd (cc);
  getters = λ h. absurd (cc);
  asked_of = λ h. absurd (cc);
  askers = λ h. absurd (cc);
  asked_once = λ h. absurd (cc);
  made = λ h. absurd (cc);
}
