use Rattle.move_rules.proofs.evictions.put_due.Goals as goal

pub returns : goal.returns
returns c = c.in_ok-insert.ensures.updates.0
