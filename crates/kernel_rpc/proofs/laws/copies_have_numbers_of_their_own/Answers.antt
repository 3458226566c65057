use Rattle.kernel_rpc.proofs.OrderLaws.{copies_differ, numbers_are_new}
use Rattle.kernel_rpc.proofs.laws.copies_have_numbers_of_their_own.Goals as goal

pub returns-clause-differ : goal.returns-clause-differ
returns-clause-differ c = copies_differ

pub returns-clause-new : goal.returns-clause-new
returns-clause-new c = numbers_are_new
