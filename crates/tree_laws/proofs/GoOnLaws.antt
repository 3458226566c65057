-- A server's names behind an entry that changes none.
use Rattle.std.proofs.Common.{List, sym, subst}
use Rattle.unix_calls.specs.declared.state.Named.{Named as NamedNode}
use Rattle.unix_frames.proofs.FrameLaws.{entries_leave}
use Rattle.tree_laws.specs.Trees.{AreNames, Parts}
use Rattle.tree_laws.specs.GoOn.{NamesGoOn}

pub names_go_on : NamesGoOn
names_go_on ties c journal u v e root tree few was is no_names are =
    let leaves = entries_leave c journal u v e few was is in
    subst (λ (roots : List Parts). AreNames ties roots root v.nodes tree) (sym leaves.roots)
    (subst (λ (nodes : List NamedNode). AreNames ties u.roots root nodes tree) (sym (leaves.names no_names)) are)
