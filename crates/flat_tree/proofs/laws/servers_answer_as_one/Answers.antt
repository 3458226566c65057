use Rattle.std.proofs.Common.{refl}
use Rattle.unix_calls.specs.Boot.{boot_of}
use Rattle.unix_calls.specs.Domains.{roots_of}
use Rattle.flat_tree.proofs.FileLaws.{opened_as_one}
use Rattle.flat_tree.proofs.RunLaws.{all_as_one}
use Rattle.flat_tree.proofs.laws.servers_answer_as_one.Goals as goal

pub returns : goal.returns
returns c = λ ties d trees all whole opened answered. all_as_one ties (roots_of d.kernels) all (boot_of d) trees (opened_as_one ties d trees whole opened) refl answered
