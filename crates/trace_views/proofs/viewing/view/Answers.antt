use Rattle.trace_views.proofs.ViewLaws.{all_begin, all_end}
use Rattle.trace_views.proofs.viewing.view.Goals as goal

pub walk-requires-clause-begins : goal.walk-requires-clause-begins
walk-requires-clause-begins c =
    all_begin c.args.c.now c.args.trace.now c.in_ok-first.first c.new-2.result c.new-3.result c.new-4.result c.in_ok-first.ensures c.new-2.ensures c.new-3.ensures c.new-4.ensures

pub returns-in-Legal : goal.returns-in-Legal
returns-in-Legal c =
    let watch = c.walk.new.watch in
    all_end c.args.c.now c.args.most c.args.trace.now watch.first watch.second.first watch.second.second.first watch.second.second.second _ c.in-Legal.end c.views_of.result c.in-Legal.is c.in_ok-end.ensures c.views_of.ensures
