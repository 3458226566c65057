use Rattle.kernel_rpc.proofs.ComeLaws.{two_replies_each, two_requests_each}
use Rattle.kernel_rpc.proofs.OwnerLaws.{four_replies_each}
use Rattle.kernel_rpc.proofs.laws.packets_come_a_few_times_at_most.Goals as goal

pub returns-clause-requests : goal.returns-clause-requests
returns-clause-requests c = two_requests_each

pub returns-clause-replies : goal.returns-clause-replies
returns-clause-replies c = two_replies_each

pub returns-clause-four : goal.returns-clause-four
returns-clause-four c = four_replies_each
