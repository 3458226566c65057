use Rattle.restart_views.proofs.RunLaws.{new_runs, new_due, all_runs, all_bytes, all_right}
use Rattle.restart_views.proofs.laws.runs_stay.Goals as goal

pub returns : goal.returns
returns c = record { new = new_runs; first = new_due; steps = all_runs; bytes = all_bytes; right = all_right }
