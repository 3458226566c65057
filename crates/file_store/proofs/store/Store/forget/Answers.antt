use Rattle.std.proofs.Common.{sym, subst}
use Rattle.file_store.specs.Files.{AreWithin, files_in}
use Rattle.file_store.proofs.LengthLaws.{without_within}
use Rattle.file_store.proofs.store.Store.forget.Goals as goal

pub invariant_of-self : goal.invariant_of-self
invariant_of-self c = (c.self.invariant.0, subst (AreWithin c.self.inside.limit) (sym c.forget.ensures) (without_within c.self.inside.limit (files_in c.self.inside.files) c.args.file c.self.invariant.1))
