use Rattle.std.proofs.Common.{sym, ◌∙◌}
use Rattle.sprite_ids.proofs.OnceLaws.{less_here, none_found, not_less}
use Rattle.client_file_tables.specs.Rows.{is_pid}
use Rattle.client_file_tables.proofs.fillers.take_out.Goals as goal

pub returns-in-Some : goal.returns-in-Some
returns-in-Some c =
    c.remove.ensures.list ∙ less_here (is_pid c.args.pid) c.args.pids.now c.in-Some.at c.remove.result (sym c.place_in.ensures ∙ c.in-Some.is)

pub returns-in_default : goal.returns-in_default
returns-in_default c =
    sym (not_less (is_pid c.args.pid) c.args.pids.now (none_found (is_pid c.args.pid) c.args.pids.now (sym c.place_in.ensures ∙ c.in_default.is)))
