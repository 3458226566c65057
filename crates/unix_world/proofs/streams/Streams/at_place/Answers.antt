use Rattle.std.proofs.Common.{Bool, ap, sym, ◌∙◌}
use Rattle.std.specs.Prelude.{◌==◌}
use Rattle.std.specs.List.{position}
use Rattle.unix_calls.specs.declared.state.Stream.{Stream}
use Rattle.unix_world.proofs.PlaceLaws.{no_stream, stream_there}
use Rattle.unix_world.proofs.streams.Streams.at_place.Goals as goal

pub returns-in-Some : goal.returns-in-Some
returns-in-Some c =
    let p : Stream → Bool = λ s. s.place == c.args.place in
    let streams = c.self.inside.streams in
    let place = ap (position p) c.self.view_is ∙ sym c.place_of.ensures ∙ c.in-Some.is in
    rw (← c.self.view_is) (sym (stream_there c.args.place streams c.in-Some.at c.at.result.now place c.at.ensures))

pub returns-in-None : goal.returns-in-None
returns-in-None c = sym (no_stream c.args.place c.args.self.now (sym c.place_of.ensures ∙ c.in-None.is))
