use Rattle.std.proofs.Common.{ℕ, List, sym, refl, ap, subst, ◌∙◌, slice_set}
use Rattle.std.specs.List.{position}
use Rattle.shadow_streams.specs.declared.shadow.Shadow.{Shadow}
use Rattle.shadow_streams.specs.Shadows.{is_of, held, raised, same_stream}
use Rattle.sprite_ids.specs.Lists.{EachOnce}
use Rattle.sprite_ids.proofs.OnceLaws.{none_found, nothing_found, changed_here, unchanged}
use Rattle.shadow_streams.proofs.ShadowLaws.{changed_once, found_changed}
use Rattle.shadow_streams.proofs.shadows.Shadows.grant.Goals as goal

pub invariant_of-self : goal.invariant_of-self
invariant_of-self c =
    let p = is_of c.args.stream in
    let xs = c.self.inside.shadows.items in
    let place = ap (position p) (sym c.as_slice.ensures.value) ∙ sym c.place_of.ensures ∙ c.in-Some.is in
    let f : Shadow → Shadow = λ shadow. record shadow { grants = raised c.args.kernel shadow.grants } in
    let new : List ℕ → Shadow = λ grants. record { stream = c.index.result.now.stream; offset = c.index.result.now.offset; grants = grants } in
    let there = ap (λ grants. slice_set xs c.in-Some.at (new grants)) c.raise.ensures ∙ changed_here (is_of c.args.stream) f xs c.in-Some.at c.index.result.now place c.index.ensures in
    subst (EachOnce same_stream) (sym there) (changed_once f (λ s. refl) c.args.stream xs c.self.invariant)

pub returns-in-Some-clause-shadows : goal.returns-in-Some-clause-shadows
returns-in-Some-clause-shadows c =
    let p = is_of c.args.stream in
    let xs = c.self.inside.shadows.items in
    let place = ap (position p) (sym c.as_slice.ensures.value) ∙ sym c.place_of.ensures ∙ c.in-Some.is in
    let f : Shadow → Shadow = λ shadow. record shadow { grants = raised c.args.kernel shadow.grants } in
    let new : List ℕ → Shadow = λ grants. record { stream = c.index.result.now.stream; offset = c.index.result.now.offset; grants = grants } in
    let there = ap (λ grants. slice_set xs c.in-Some.at (new grants)) c.raise.ensures ∙ changed_here (is_of c.args.stream) f xs c.in-Some.at c.index.result.now place c.index.ensures in
    rw (← c.self.view_is) there

pub returns-in-Some-clause-count : goal.returns-in-Some-clause-count
returns-in-Some-clause-count c =
    let p = is_of c.args.stream in
    let xs = c.self.inside.shadows.items in
    let place = ap (position p) (sym c.as_slice.ensures.value) ∙ sym c.place_of.ensures ∙ c.in-Some.is in
    let new : List ℕ → Shadow = λ grants. record { stream = c.index.result.now.stream; offset = c.index.result.now.offset; grants = grants } in
    let found = found_changed c.args.stream xs c.in-Some.at c.index.result.now (new c.raise.new.grants) place c.index.ensures refl in
    c.count_of.ensures ∙ sym (ap (held c.args.kernel) found)

pub returns-in-None-clause-shadows : goal.returns-in-None-clause-shadows
returns-in-None-clause-shadows c =
    let p = is_of c.args.stream in
    let xs = c.self.inside.shadows.items in
    let place = ap (position p) (sym c.as_slice.ensures.value) ∙ sym c.place_of.ensures ∙ c.in-None.is in
    let none = none_found p xs place in
    let f : Shadow → Shadow = λ shadow. record shadow { grants = raised c.args.kernel shadow.grants } in
    rw (← c.self.view_is) (sym (unchanged (is_of c.args.stream) f xs none))

pub returns-in-None-clause-count : goal.returns-in-None-clause-count
returns-in-None-clause-count c =
    let p = is_of c.args.stream in
    let xs = c.self.inside.shadows.items in
    let place = ap (position p) (sym c.as_slice.ensures.value) ∙ sym c.place_of.ensures ∙ c.in-None.is in
    let none = none_found p xs place in
    rw (← c.self.view_is) (sym (ap (held c.args.kernel) (nothing_found p xs none)))
