use Rattle.std.proofs.Common.{◌≡◌, ◌∙◌, List, ap, subst}
use Rattle.std.specs.Prelude.{IfOk}
use Rattle.unix_calls.specs.declared.state.Process.{Process}
use Rattle.unix_calls.specs.State.{Unix}
use Rattle.unix_calls.specs.Boot.{boot_of}
use Rattle.unix_world.proofs.BootLaws.{lawful_boots}
use Rattle.call_journal.specs.Past.{at_homes}
use Rattle.trace_places.specs.Places.{TellsPlaces}
use Rattle.trace_places.proofs.places.boot_places.Goals as goal

pub boot-requires-clause-starts : goal.boot-requires-clause-starts
boot-requires-clause-starts c = (lawful_boots c.args.c.now c.requires).0

pub boot-requires-clause-files : goal.boot-requires-clause-files
boot-requires-clause-files c = (lawful_boots c.args.c.now c.requires).1

pub returns : goal.returns
returns c =
    let boots : c.as_slice.result.now ≡ (boot_of c.args.c.now).processes = c.as_slice.ensures ∙ ap (λ (u : Unix). u.processes) c.in_ok-world.ensures.state in
    subst (λ (ps : List Process). IfOk c.home_places.result (λ places. TellsPlaces places.entries (at_homes ps))) boots c.home_places.ensures
