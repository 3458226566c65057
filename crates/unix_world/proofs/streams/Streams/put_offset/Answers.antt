use Rattle.std.proofs.Common.{Bool, ap, sym, subst, ◌∙◌}
use Rattle.std.specs.Prelude.{◌==◌}
use Rattle.std.specs.List.{position}
use Rattle.unix_calls.specs.declared.state.Stream.{Stream}
use Rattle.unix_world.specs.Places.{IsOlder, OrderedIf}
use Rattle.unix_world.proofs.ChangeLaws.{changed_at, none_changed}
use Rattle.unix_world.proofs.PlaceLaws.{stream_place, stream_set}
use Rattle.unix_world.proofs.streams.Streams.put_offset.Goals as goal

pub invariant_of-self : goal.invariant_of-self
invariant_of-self c =
    let p : Stream → Bool = λ s. s.place == c.args.stream.now.place in
    let streams = c.self.inside.streams in
    let place = ap (position p) c.self.view_is ∙ sym c.place_of.ensures ∙ c.in-Some.is in
    let old = c.replace-before.result in
    let new : Stream = record c.args.stream.now { offset = c.args.offset } in
    subst (OrderedIf c.self.inside.ascend IsOlder) (sym c.replace-before.ensures.list)
    (stream_set c.self.inside.ascend streams c.in-Some.at old new (stream_place c.args.stream.now.place streams c.in-Some.at old place c.replace-before.ensures.value) c.replace-before.ensures.value c.self.invariant)

pub returns-in-Some : goal.returns-in-Some
returns-in-Some c =
    let p : Stream → Bool = λ s. s.place == c.args.stream.now.place in
    let streams = c.self.inside.streams in
    let place = ap (position p) c.self.view_is ∙ sym c.place_of.ensures ∙ c.in-Some.is in
    rw (← c.self.view_is) (c.replace-before.ensures.list ∙ changed_at p (λ s. record c.args.stream.now { offset = c.args.offset }) streams c.in-Some.at c.replace-before.result place c.replace-before.ensures.value)

pub returns-in_default : goal.returns-in_default
returns-in_default c =
    let p : Stream → Bool = λ s. s.place == c.args.stream.now.place in
    sym (none_changed p (λ (s : Stream). record c.args.stream.now { offset = c.args.offset }) c.args.self.now (sym c.place_of.ensures ∙ c.in_default.is))
