use Rattle.std.proofs.Common.{Bool, ℕ, List, [], refl, ap, sym, ◌∙◌, slice_set}
use Rattle.std.specs.List.{position}
use Rattle.unix_calls.specs.declared.state.File.{File}
use Rattle.unix_calls.specs.State.{same_file}
use Rattle.unix_world.proofs.ChangeLaws.{changed_at, none_changed}
use Rattle.unix_world.proofs.PlaceLaws.{file_set}
use Rattle.unix_world.proofs.files.Files.clear.Goals as goal

pub invariant_of-self : goal.invariant_of-self
invariant_of-self c =
    file_set c.self.inside.ascend c.self.inside.files c.in-Some.at c.at_mut.result.now _ refl c.at_mut.ensures.value c.self.invariant

pub returns-in-Some : goal.returns-in-Some
returns-in-Some c =
    let p : File → Bool = λ f. same_file f.name c.args.name in
    let files = c.self.inside.files in
    let place = ap (position p) c.self.view_is ∙ sym c.place_of.ensures ∙ c.in-Some.is in
    let old = c.at_mut.result.now in
    let new : List ℕ → File = λ bytes. record { name = old.name; bytes = bytes } in
    rw (← c.self.view_is) (ap (λ bytes. slice_set files c.in-Some.at (new bytes)) c.new.ensures
    ∙ changed_at p (λ f. record f { bytes = [] }) files c.in-Some.at old place c.at_mut.ensures.value)

pub returns-in_default : goal.returns-in_default
returns-in_default c =
    let p : File → Bool = λ f. same_file f.name c.args.name in
    sym (none_changed p (λ (f : File). record f { bytes = [] }) c.args.self.now (sym c.place_of.ensures ∙ c.in_default.is))
