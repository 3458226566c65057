use Rattle.fill_facts.proofs.KernelFacts.{fills_are_in_order}
use Rattle.fill_facts.proofs.fill_facts.fills_are_in_order.Goals as goal

pub returns : goal.returns
returns c = fills_are_in_order
