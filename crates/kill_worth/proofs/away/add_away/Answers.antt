use Rattle.kill_worth.proofs.AmongLaws.{away_put}
use Rattle.kill_worth.proofs.away.add_away.Goals as goal

pub returns : goal.returns
returns c = away_put c.args.at.now c.args.pid c.args.away.now c.put_away.new.away c.in_ok-put_away.ensures
