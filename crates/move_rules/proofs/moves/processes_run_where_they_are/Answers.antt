use Rattle.move_rules.specs.MoveLaws.{begun}
use Rattle.move_rules.proofs.moves.processes_run_where_they_are.Goals as goal

pub each_keeps_told-requires-clause-tells : goal.each_keeps_told-requires-clause-tells
each_keeps_told-requires-clause-tells c =
    begun c.args.c.now (record { places = c.in_ok-places.places; movers = c.new.result; evictions = c.new-2.result; arrivals = c.new-3.result }) c.in_ok-places.ensures c.new.ensures.movers c.new.ensures.asked c.new.ensures.entered c.new.ensures.returned c.new-2.ensures.issues c.new-2.ensures.used c.new-2.ensures.births c.new-2.ensures.due c.new-3.ensures.dues
