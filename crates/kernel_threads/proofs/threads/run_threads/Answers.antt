use Rattle.std.proofs.Common.{map}
use Rattle.kernel_threads.proofs.RunLaws.{ran_on}
use Rattle.kernel_threads.proofs.SeatLaws.{still_all}
use Rattle.kernel_threads.proofs.ThreadLaws.{count_is, ran_ended}
use Rattle.kernel_threads.proofs.threads.run_threads.Goals as goal

pub finish-value-requires-clause-all : goal.finish-value-requires-clause-all
finish-value-requires-clause-all g c = still_all (λ s. s.token.me.0) c.in-Ok-start.started.1.items c.serve_all-seats.result.items c.in-Ok-start.ensures.all c.serve_all-seats.ensures.later

pub returns-clause-ran : goal.returns-clause-ran
returns-clause-ran g c =
    let long = count_is _ _ c.args.kernels (map (λ s. s.token.me.0) c.in-Ok-start.started.1.items) (map (λ s. s.token.me.0) c.serve_all-seats.result.items) c.in-Ok-start.ensures.seats c.serve_all-seats.ensures.later in
    ran_on g.V.Book.origin g.V.Book.log g.V.Book.holds c.args.kernels c.args.value c.finish-value.result c.run_rounds.result
    (ran_ended g.V.Book.origin g.V.Book.log g.V.Book.holds c.args.kernels c.in-Ok-start.started.0.table.shared.key.value c.args.value c.finish-value.result (map (λ s. s.token.me.0) c.serve_all-seats.result.items) c.in-Ok-start.ensures.value long c.finish-value.ensures.ended c.finish-value.ensures.holds)
    c.run_rounds.ensures.ran
