use Rattle.kill_worth.proofs.AmongLaws.{sent_put}
use Rattle.kill_worth.proofs.sent.add_sent.Goals as goal

pub returns : goal.returns
returns c = sent_put c.args.at.now c.args.pid c.args.sent.now c.put_sent.new.sent c.in_ok-put_sent.ensures
