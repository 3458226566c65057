use Rattle.std.proofs.Common.{arith}
use Rattle.host_lending.proofs.HostLaws.{filled}
use Rattle.host_lending.proofs.lending.Lending.new.Goals as goal

pub fill-preserved : goal.fill-preserved
fill-preserved c = record {
  all = filled c.args.hosts c.fill.number c.fill.table.items c.push.new.self.items c.in-Some.kernel c.fill-test.true c.fill.invariant.all c.in-Some.ensures.value c.in_ok-push.ensures.items;
  least = omega arith;
  within = omega (arith, c.fill-test.true);
}
