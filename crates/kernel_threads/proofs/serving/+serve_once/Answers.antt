use Rattle.std.proofs.Common.{◌≡◌, ◌∙◌}
use Rattle.kernel_threads.proofs.SeatLaws.{every_last, every_pushed, later_pushed}
use Rattle.kernel_threads.proofs.serving.+serve_once.Goals as goal

pub returns-clause-table : goal.returns-clause-table
returns-clause-table g t c =
    every_pushed (λ s. s.token.table_id ≡ c.args.gate.now.table.shared.table_id) c.serve_once-seats.result.0.items c.push_reserved.new.self.items c.visit-seat.result.0 c.push_reserved.ensures.items c.serve_once-seats.ensures.table
    (c.visit-seat.ensures.table ∙ every_last (λ s. s.token.table_id ≡ c.args.gate.now.table.shared.table_id) c.args.seats.items c.pop.new.self.items c.in-Some.seat c.in-Some.ensures.items c.requires)

pub returns-clause-later : goal.returns-clause-later
returns-clause-later g t c =
    later_pushed (λ s. s.token.me.0) c.args.seats.items c.pop.new.self.items c.serve_once-seats.result.0.items c.push_reserved.new.self.items c.in-Some.seat c.visit-seat.result.0 c.in-Some.ensures.items c.push_reserved.ensures.items c.serve_once-seats.ensures.later c.visit-seat.ensures.later
