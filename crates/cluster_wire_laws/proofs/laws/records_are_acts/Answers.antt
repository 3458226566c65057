use Rattle.cluster_wire_laws.proofs.TraceLaws.{endings_are, replies_are, requests_are, sendings_are, turn_keeps}
use Rattle.cluster_wire_laws.proofs.laws.records_are_acts.Goals as goal

pub returns-clause-turn : goal.returns-clause-turn
returns-clause-turn g c = turn_keeps g.L.Link.faults g.L.Link.asked

pub returns-clause-requests : goal.returns-clause-requests
returns-clause-requests g c = requests_are g.L.Link.faults g.L.Link.asked

pub returns-clause-replies : goal.returns-clause-replies
returns-clause-replies g c = replies_are g.L.Link.faults g.L.Link.asked

pub returns-clause-sendings : goal.returns-clause-sendings
returns-clause-sendings g c = sendings_are g.L.Link.faults g.L.Link.asked

pub returns-clause-endings : goal.returns-clause-endings
returns-clause-endings g c = endings_are g.L.Link.faults g.L.Link.asked
