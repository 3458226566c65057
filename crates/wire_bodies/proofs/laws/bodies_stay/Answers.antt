use Rattle.wire_bodies.proofs.BodyLaws.{bodies_stay}
use Rattle.wire_bodies.proofs.laws.bodies_stay.Goals as goal

pub returns : goal.returns
returns c = bodies_stay
