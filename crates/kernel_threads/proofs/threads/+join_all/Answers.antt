use Rattle.std.proofs.Common.{rules}
use Rattle.kernel_threads.proofs.ThreadLaws.{joined_later, joined_none}
use Rattle.kernel_threads.proofs.threads.+join_all.Goals as goal

pub returns-in_default-clause-later : goal.returns-in_default-clause-later
returns-in_default-clause-later g t c = joined_none (λ s. s.token.me.0) (λ h. h.promise.was.value.token.me.0) c.args.seats.items c.args.workers.items (search rules)

pub returns-clause-later : goal.returns-clause-later
returns-clause-later g t c =
    joined_later (λ s. s.token.me.0) (λ h. h.promise.was.value.token.me.0) c.args.seats.items c.join_one-seats.result.items c.join_all.result.items c.args.workers.items c.pop.new.self.items c.in-Some.worker c.in-Some.ensures.items c.join_one-seats.ensures.later c.join_all.ensures.later
