use Rattle.client_facts.proofs.file_examples.file_facts_can_fail.Goals as goal

pub returns : goal.returns
returns c = record {
  one_each = λ h. absurd (cc);
  held = λ h. absurd (cc);
  none_else = λ h. absurd (cc);
  queued = λ h. absurd (cc);
  queued_once = λ h. absurd (cc);
  queued_wait = λ h. absurd (cc);
  queued_held = λ h. absurd (cc);
  turns = λ h. absurd (cc);
  turns_once = λ h. absurd (cc);
  in_order = λ h. absurd (cc);
  calls = λ h. absurd (cc);
  waited = λ h. absurd (cc);
  written = λ h. absurd (cc);
  once = λ h. absurd (let twice = h.own in cc);
  listed_dirty = λ h. absurd (cc);
  listed_sent = λ h. absurd (cc);
  dirty_due = λ h. absurd (cc);
  held_cached = λ h. absurd (cc);
  fetched = λ h. absurd (cc);
  fetched_full = λ h. absurd (cc);
  rest = λ h. absurd (let some = h.ready in cc);
}
