use Rattle.std.proofs.Common.{subst}
use Rattle.version_table.specs.Versions.{Table, file_of, files_in}
use Rattle.version_table.specs.Laws.{CachedIsUnshared, CachingIsUnshared, CachingIsHolder, UncachedIsStopped}
use Rattle.version_table.proofs.SharedLaws.{file_coherent, cached_unshared, caching_unshared, caching_holder}
use Rattle.version_table.proofs.versions.Versions.writers_are_alone.Goals as goal

pub returns-clause-cached : goal.returns-clause-cached
returns-clause-cached c =
    let xs = (files_in c.self.inside.files) in
    subst (λ (t : Table). CachedIsUnshared (file_of t.files c.args.file)) c.self.view_is (cached_unshared (file_of xs c.args.file) (file_coherent xs c.args.file c.self.invariant))

pub returns-clause-caching : goal.returns-clause-caching
returns-clause-caching c =
    let xs = (files_in c.self.inside.files) in
    subst (λ (t : Table). CachingIsUnshared (file_of t.files c.args.file)) c.self.view_is (caching_unshared (file_of xs c.args.file) (file_coherent xs c.args.file c.self.invariant))

pub returns-clause-holder : goal.returns-clause-holder
returns-clause-holder c =
    let xs = (files_in c.self.inside.files) in
    subst (λ (t : Table). CachingIsHolder (file_of t.files c.args.file)) c.self.view_is (caching_holder (file_of xs c.args.file) (file_coherent xs c.args.file c.self.invariant))

pub returns-clause-stopped : goal.returns-clause-stopped
returns-clause-stopped c =
    let xs = (files_in c.self.inside.files) in
    subst (λ (t : Table). UncachedIsStopped (file_of t.files c.args.file)) c.self.view_is (file_coherent xs c.args.file c.self.invariant).stopped
