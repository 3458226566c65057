use Rattle.std.proofs.Common.{arith, sym}
use Rattle.file_store.specs.Files.{files_in}
use Rattle.file_store.proofs.LengthLaws.{found_within}
use Rattle.file_store.proofs.store.Store.size.Goals as goal

pub overflow_cast-result : goal.overflow_cast-result
overflow_cast-result c =
    let found = sym c.in-Some.ensures in
    let short = found_within c.self.inside.limit (files_in c.self.inside.files) c.args.file c.in-Some.content.now c.self.invariant.1 found in
    omega (arith, short, c.len.ensures, c.self.invariant.0)
