use Rattle.std.proofs.Common.{◌+◌, Result, Err, subst, sym, ◌∙◌, drop}
use Rattle.server_names.specs.declared.end.NameEnd.{NameEnd}
use Rattle.server_names.specs.declared.name.Entry.TheVariants.{Link}
use Rattle.server_names.specs.Names.{Tree, booted, hung_all, done, Answers}
use Rattle.server_names.proofs.WayLaws.{way_stops, links_on}
use Rattle.server_names.proofs.names.Names.new.Goals as goal

pub returns-in-Err-clause-answer : goal.returns-in-Err-clause-answer
returns-in-Err-clause-answer c =
    let tree = c.loop-link.names in
    let i = c.loop-link.link-index in
    let links = c.args.links.now in
    let link = c.link-item.result in
    let step = links_on tree links i link c.loop-link-test.true c.link-item.is in
    subst (λ (r : Result Tree NameEnd). Answers {A = Unit {0}} (Err c.in-Err.end) (done r)) (sym step ∙ c.loop-link.invariant)
    (way_stops (booted tree link (Link link)) (λ next. hung_all next (drop (i + 1) links)) c.in-Err.end c.in-Err.ensures.answer)
