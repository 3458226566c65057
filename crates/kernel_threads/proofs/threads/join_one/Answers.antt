use Rattle.std.proofs.Common.{◌≡◌, ◌∙◌}
use Rattle.kernel_threads.proofs.SeatLaws.{every_pushed}
use Rattle.kernel_threads.proofs.ThreadLaws.{one_joined}
use Rattle.kernel_threads.proofs.threads.join_one.Goals as goal

pub returns-clause-table : goal.returns-clause-table
returns-clause-table g c =
    every_pushed (λ s. s.token.table_id ≡ c.args.gate.now.table.shared.table_id) c.args.seats.items c.push_reserved.new.self.items c.join.result c.push_reserved.ensures.items c.requires.here (c.join.ensures.0 ∙ c.requires.away)

pub returns-clause-later : goal.returns-clause-later
returns-clause-later g c = one_joined (λ s. s.token.me.0) c.args.seats.items c.push_reserved.new.self.items c.args.worker.promise.was.value.token.me.0 c.join.result c.push_reserved.ensures.items c.join.ensures.1
