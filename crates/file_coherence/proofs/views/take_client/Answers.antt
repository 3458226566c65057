use Rattle.std.proofs.Common.{List, ap}
use Rattle.file_views.specs.declared.Client.{Client}
use Rattle.file_coherence.proofs.ListLaws.{set_again}
use Rattle.file_coherence.proofs.views.take_client.Goals as goal

pub returns-clause-view : goal.returns-clause-view
returns-clause-view c = λ new. ap (λ (cs : List Client). record c.args.view.now { clients = cs }) (set_again c.args.view.now.clients _ _ _ _ new c.replace.ensures.list c.place-at.ensures)
