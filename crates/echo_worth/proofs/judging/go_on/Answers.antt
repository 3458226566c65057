use Rattle.std.proofs.Common.{ℕ, List, subst}
use Rattle.trace_places.specs.declared.Place.{Place}
use Rattle.trace_places.specs.Places.{MovesOn}
use Rattle.echo_worth.specs.BehindLaws.{kept_behind}
use Rattle.echo_worth.proofs.judging.go_on.Goals as goal

pub returns : goal.returns
returns c =
    let kernel = c.args.rec.now.kernel in
    let e = c.args.rec.now.event in
    let kept = kept_behind c.args.c.now kernel e c.args.kept.now c.keep_event.new.kept c.in_ok-keep_event.ensures in
    record {
      places = subst (λ (before : List (ℕ × Place)). MovesOn kernel e before c.keep_place.new.places.entries) kept.places c.in_ok-keep_place.ensures;
      named = kept.named;
      others = kept.others;
      limited = kept.limited;
      expires = kept.expires;
      counts = kept.counts;
      slots = kept.slots;
      given_up = kept.given_up;
    }
