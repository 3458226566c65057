use Rattle.kernel_rpc.proofs.StepLaws.{answer_step, begin_step, broadcast_step, deliver_step, expire_step, silent_step}
use Rattle.kernel_rpc.proofs.laws.calls_are_steps.Goals as goal

pub returns-clause-begin : goal.returns-clause-begin
returns-clause-begin g c = begin_step g.L.Link.faults g.L.Link.asked

pub returns-clause-broadcast : goal.returns-clause-broadcast
returns-clause-broadcast g c = broadcast_step g.L.Link.faults g.L.Link.asked

pub returns-clause-deliver : goal.returns-clause-deliver
returns-clause-deliver g c = deliver_step g.M.Message.reading g.L.Link.faults g.L.Link.asked

pub returns-clause-answer : goal.returns-clause-answer
returns-clause-answer g c = answer_step g.L.Link.faults g.L.Link.asked

pub returns-clause-silent : goal.returns-clause-silent
returns-clause-silent g c = silent_step g.L.Link.faults g.L.Link.asked

pub returns-clause-expire : goal.returns-clause-expire
returns-clause-expire g c = expire_step g.L.Link.faults g.L.Link.asked
