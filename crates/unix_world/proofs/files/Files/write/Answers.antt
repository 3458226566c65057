use Rattle.std.proofs.Common.{Bool, ℕ, List, ap, sym, ◌∙◌, slice_set}
use Rattle.std.specs.List.{position}
use Rattle.unix_calls.specs.declared.state.File.{File}
use Rattle.unix_calls.specs.State.{bytes_of, same_file}
use Rattle.unix_calls.specs.StreamCalls.{written}
use Rattle.unix_world.proofs.ChangeLaws.{bytes_there, changed_at, none_changed, on_ok}
use Rattle.unix_world.proofs.PlaceLaws.{file_set}
use Rattle.unix_world.proofs.files.Files.write.Goals as goal

pub invariant_of-self : goal.invariant_of-self
invariant_of-self c =
    file_set c.self.inside.ascend c.self.inside.files c.in-Some.at c.at_mut.result.now c.write_at.new.file c.write_at.ensures.name c.at_mut.ensures.value c.self.invariant

pub returns-in-Some : goal.returns-in-Some
returns-in-Some c =
    let p : File → Bool = λ f. same_file f.name c.args.name in
    let files = c.self.inside.files in
    let place = ap (position p) c.self.view_is ∙ sym c.place_of.ensures ∙ c.in-Some.is in
    let old = c.at_mut.result.now in
    let bytes = bytes_there c.args.name files c.in-Some.at old place c.at_mut.ensures.value in
    let f : List ℕ → File → File = λ was file. record file { bytes = written was c.args.from c.args.bytes.now } in
    rw (← c.self.view_is) (on_ok c.write_at.result
    (λ is. ap (slice_set files c.in-Some.at) (is ∙ ap (λ was. f was old) (sym bytes))
    ∙ changed_at p (f (bytes_of files c.args.name)) files c.in-Some.at old place c.at_mut.ensures.value)
    c.write_at.ensures.bytes)

pub returns-in-None : goal.returns-in-None
returns-in-None c =
    let p : File → Bool = λ f. same_file f.name c.args.name in
    let files = c.args.self.now in
    sym (none_changed p (λ (f : File). record f { bytes = written (bytes_of files c.args.name) c.args.from c.args.bytes.now }) files (sym c.place_of.ensures ∙ c.in-None.is))
