use Rattle.std.proofs.Common.{rules, sym, subst}
use Rattle.turn_gate.specs.Ended.{IsAll}
use Rattle.turn_gate.proofs.DealLaws.{begins_as}
use Rattle.turn_gate.proofs.SeatLaws.{all_seats}
use Rattle.turn_gate.proofs.gate.Gate.start.Goals as goal

pub new-requires : goal.new-requires
new-requires g c = begins_as _ _ _ c.of-about.result.value c.args.value c.length-count.result c.push_reserved.new.self.items c.requires.holds c.of-about.ensures (search rules) c.length-count.ensures c.length-count.type_inv

pub returns-in-Ok-new-clause-all : goal.returns-in-Ok-new-clause-all
returns-in-Ok-new-clause-all g c = subst (λ l. IsAll l) (sym c.seat_all-row.ensures.seats) (all_seats _ _ c.args.seats c.requires.few.0)
