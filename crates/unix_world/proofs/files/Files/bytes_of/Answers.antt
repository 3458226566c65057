use Rattle.std.proofs.Common.{Bool, ap, sym, ◌∙◌}
use Rattle.std.specs.List.{position}
use Rattle.unix_calls.specs.declared.state.File.{File}
use Rattle.unix_calls.specs.State.{same_file}
use Rattle.unix_world.proofs.ChangeLaws.{bytes_there, no_bytes}
use Rattle.unix_world.proofs.files.Files.bytes_of.Goals as goal

pub returns-in-Some : goal.returns-in-Some
returns-in-Some c =
    let p : File → Bool = λ f. same_file f.name c.args.name in
    let files = c.self.inside.files in
    let place = ap (position p) c.self.view_is ∙ sym c.place_of.ensures ∙ c.in-Some.is in
    rw (← c.self.view_is) (c.as_slice.ensures ∙ sym (bytes_there c.args.name files c.in-Some.at c.at.result.now place c.at.ensures))

pub returns-in-None : goal.returns-in-None
returns-in-None c = sym (no_bytes c.args.name c.args.self.now (sym c.place_of.ensures ∙ c.in-None.is))
