use Rattle.std.proofs.Common.{length, take, drop, ◌-◌, ◌∙◌, ap}
use Rattle.std.proofs.lemmas.List.{take_rest}
use Rattle.wire_fragments.specs.declared.plan.Plan.TheVariants.{First, Next, Last}
use Rattle.wire_fragments.specs.Gathering.{Gathering, Messages, whole}
use Rattle.wire_fragments.proofs.TakeLaws.{alone_counts, first_counts, next_counts, last_some, last_counts, after_is, answer_is}
use Rattle.wire_fragments.proofs.gather.Gather.take.Goals as goal

pub invariant_of-self : goal.invariant_of-self
invariant_of-self c =
    alone_counts c.give_alone.result _ c.args.self.now c.in-Some.head c.self.inside.in_part _ c.self.view_is c.in-Alone.ensures c.in-Some.ensures.index c.self.invariant c.give_alone.ensures.ok c.give_alone.ensures.err

pub invariant_of-self-in-First : goal.invariant_of-self-in-First
invariant_of-self-in-First c =
    first_counts _ c.args.self.now c.in-Some.head c.self.inside.in_part _ _ c.self.view_is c.in-First.ensures c.in-Some.ensures.index c.self.invariant c.in_ok-keep_first-in-First.ensures.ok

pub invariant_of-self-in-Next : goal.invariant_of-self-in-Next
invariant_of-self-in-Next c =
    next_counts _ c.args.self.now c.in-Some.head c.self.inside.in_part _ _ c.self.view_is c.in-Next.ensures c.in-Some.ensures.index c.self.invariant c.in_ok-keep_next-in-Next.ensures.ok

pub overflow_sub-self : goal.overflow_sub-self
overflow_sub-self c = last_some _ c.args.self.now c.in-Some.head c.self.inside.in_part c.self.view_is c.in-Last.ensures c.in-Some.ensures.index c.self.invariant

pub invariant_of-self-in-Last : goal.invariant_of-self-in-Last
invariant_of-self-in-Last c =
    last_counts _ c.args.self.now c.in-Some.head c.self.inside.in_part _ c.self.view_is c.in-Last.ensures c.in-Some.ensures.index c.self.invariant c.in_ok-message-in-Last.ensures.ok

pub returns-in_ok-keep_first-in-First-clause-ok : goal.returns-in_ok-keep_first-in-First-clause-ok
returns-in_ok-keep_first-in-First-clause-ok c =
    let frame = c.args.frame.now in
    let kept : Messages → Gathering = λ messages. record { room = c.self.inside.room; messages = messages } in
    ap kept c.in_ok-keep_first-in-First.ensures.ok
    ∙ after_is (kept c.self.inside.messages.entries) c.args.self.now c.in-Some.head frame (take (length frame - 12) (drop 12 frame)) First c.self.view_is c.in-Some.ensures.head c.in-First.ensures (take_rest frame 12)

pub returns-in_ok-keep_next-in-Next-clause-ok : goal.returns-in_ok-keep_next-in-Next-clause-ok
returns-in_ok-keep_next-in-Next-clause-ok c =
    let frame = c.args.frame.now in
    let kept : Messages → Gathering = λ messages. record { room = c.self.inside.room; messages = messages } in
    ap kept c.in_ok-keep_next-in-Next.ensures.ok
    ∙ after_is (kept c.self.inside.messages.entries) c.args.self.now c.in-Some.head frame (take (length frame - 12) (drop 12 frame)) Next c.self.view_is c.in-Some.ensures.head c.in-Next.ensures (take_rest frame 12)

pub returns-in_ok-message-in-Last-clause-answer : goal.returns-in_ok-message-in-Last-clause-answer
returns-in_ok-message-in-Last-clause-answer c =
    let frame = c.args.frame.now in
    let kept : Messages → Gathering = λ messages. record { room = c.self.inside.room; messages = messages } in
    c.whole.ensures ∙ ap (whole c.in-Some.head.message) c.in_ok-message-in-Last.ensures.message
    ∙ answer_is (kept c.self.inside.messages.entries) c.args.self.now c.in-Some.head frame (take (length frame - 12) (drop 12 frame)) Last c.self.view_is c.in-Some.ensures.head c.in-Last.ensures (take_rest frame 12)
