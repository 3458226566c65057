use Rattle.std.proofs.Common.{sym}
use Rattle.wire_fragments.proofs.TableLaws.{kept_ok, failed_back}
use Rattle.wire_fragments.proofs.gather.keep_next.Goals as goal

pub returns-clause-ok : goal.returns-clause-ok
returns-clause-ok c =
    kept_ok c.keep.result c.args.messages.now.entries _ c.args.head.now.message c.in-Some.progress.now c.keep.new.self c.args.head.now.index c.args.piece.now (c.get_mut.follows.holds c.keep.new.self).0 (sym c.in-Some.ensures.value) c.keep.ensures.ok

pub returns-clause-err : goal.returns-clause-err
returns-clause-err c =
    failed_back c.keep.result c.args.messages.now.entries _ c.args.head.now.message c.in-Some.progress.now c.keep.new.self (c.get_mut.follows.holds c.keep.new.self).0 (sym c.in-Some.ensures.value) c.keep.ensures.err
