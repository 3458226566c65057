use Rattle.std.proofs.Common.{ap, ◌∙◌}
use Rattle.version_table.specs.Files.{decided}
use Rattle.version_table.specs.Decisions.{decision_of}
use Rattle.version_table.specs.Versions.{with_file}
use Rattle.version_table.proofs.files.decide_first.Goals as goal

pub returns-clause-ok : goal.returns-clause-ok
returns-clause-ok c =
    c.in_ok-append.ensures.ok ∙ ap (with_file c.args.list.now.entries c.args.file.now) (c.in_ok-decision.ensures.ok ∙ ap (λ v. decided c.args.cached v c.args.action.now) c.fresh-first.ensures)

pub returns-clause-decision : goal.returns-clause-decision
returns-clause-decision c = c.in_ok-decision.ensures.decision ∙ ap (λ v. decision_of c.args.cached v c.args.action.now) c.fresh-first.ensures
