use Rattle.cluster_steps.proofs.taking.say.Goals as goal

pub returns-clause-goes_out : goal.returns-clause-goes_out
returns-clause-goes_out g c = record { between = c.begin_all.new.wire; requests = c.in_ok-sent.ensures.begun; answers = c.in_ok-answered.ensures.answered }
