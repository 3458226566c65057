use Rattle.kernel_threads.proofs.SeatLaws.{still_all}
use Rattle.threads_tests.proofs.tests.served_here.Goals as goal

pub finish-lines-requires-clause-all : goal.finish-lines-requires-clause-all
finish-lines-requires-clause-all g c = still_all (λ s. s.token.me.0) c.in-Ok.seats.items c.serve-seats.result.items c.in-Ok.ensures.all c.serve-seats.ensures.later
