use Rattle.std.proofs.Common.{[], arith, sym, subst}
use Rattle.file_store.specs.Files.{AreWithin, files_in}
use Rattle.file_store.proofs.LengthLaws.{changed_within}
use Rattle.file_store.proofs.store.Store.truncate.Goals as goal

pub invariant_of-self : goal.invariant_of-self
invariant_of-self c =
    let limit = c.self.inside.limit in
    let there = changed_within limit (files_in c.self.inside.files) c.args.file [] (omega arith) c.self.invariant.1 in
    (c.self.invariant.0, subst (AreWithin limit) (sym c.clear.ensures) there)
