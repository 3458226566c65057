use Rattle.std.proofs.Common.{sym}
use Rattle.wire_fragments.proofs.TableLaws.{given_ok, failed_back}
use Rattle.wire_fragments.proofs.gather.give_last.Goals as goal

pub returns-clause-ok : goal.returns-clause-ok
returns-clause-ok c =
    given_ok c.give.result c.args.messages.now.entries _ c.args.head.now.message c.in-Some.progress.now c.give.new.self (c.get_mut.follows.holds c.give.new.self).0 (sym c.in-Some.ensures.value) c.give.ensures.ok

pub returns-clause-err : goal.returns-clause-err
returns-clause-err c =
    failed_back c.give.result c.args.messages.now.entries _ c.args.head.now.message c.in-Some.progress.now c.give.new.self (c.get_mut.follows.holds c.give.new.self).0 (sym c.in-Some.ensures.value) c.give.ensures.err
