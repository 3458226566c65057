use Rattle.packet_laws.proofs.EighthLaws.{last_is_eighth, last_is_worth}
use Rattle.packet_laws.proofs.laws.last_tries_are_the_eighth.Goals as goal

pub returns-clause-eighth : goal.returns-clause-eighth
returns-clause-eighth c = last_is_eighth

pub returns-clause-worth : goal.returns-clause-worth
returns-clause-worth c = last_is_worth
