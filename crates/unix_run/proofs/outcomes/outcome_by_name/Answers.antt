use Rattle.unix_run.proofs.OutcomeLaws.{by_list, by_rename}
use Rattle.unix_run.proofs.outcomes.outcome_by_name.Goals as goal

pub returns-in-Rename : goal.returns-in-Rename
returns-in-Rename c =
    by_rename c.args.c.now c.args.world.now c.args.p.now c.args.call.now c.in-Rename.old c.in-Rename.new c.as_slice-in-Rename.result.now c.as_slice-in-Rename-2.result.now c.rename.result _ _ c.in-Rename.is c.as_slice-in-Rename.ensures c.as_slice-in-Rename-2.ensures c.rename.ensures

pub returns-in-List : goal.returns-in-List
returns-in-List c =
    by_list c.args.c.now c.args.world.now c.args.p.now c.args.call.now c.in-List.path c.as_slice-in-List.result.now c.in-List.max c.list.result _ _ c.in-List.is c.as_slice-in-List.ensures c.list.ensures
