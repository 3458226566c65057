use Rattle.std.proofs.Common.{sym, refl, ap, subst, ◌∙◌}
use Rattle.std.specs.List.{position}
use Rattle.shadow_streams.specs.declared.shadow.Shadow.{Shadow}
use Rattle.shadow_streams.specs.Shadows.{is_of, same_stream}
use Rattle.sprite_ids.specs.Lists.{EachOnce}
use Rattle.sprite_ids.proofs.OnceLaws.{none_found, changed_here, unchanged}
use Rattle.shadow_streams.proofs.ShadowLaws.{changed_once}
use Rattle.shadow_streams.proofs.shadows.Shadows.set_offset.Goals as goal

pub invariant_of-self : goal.invariant_of-self
invariant_of-self c =
    let p = is_of c.args.stream in
    let xs = c.self.inside.shadows.items in
    let place = ap (position p) (sym c.as_slice.ensures.value) ∙ sym c.place_of.ensures ∙ c.in-Some.is in
    let f : Shadow → Shadow = λ shadow. record shadow { offset = c.args.offset } in
    let there = changed_here (is_of c.args.stream) f xs c.in-Some.at c.index_mut.result.now place c.index_mut.ensures.value in
    subst (EachOnce same_stream) (sym there) (changed_once f (λ s. refl) c.args.stream xs c.self.invariant)

pub returns-in-Some : goal.returns-in-Some
returns-in-Some c =
    let p = is_of c.args.stream in
    let xs = c.self.inside.shadows.items in
    let place = ap (position p) (sym c.as_slice.ensures.value) ∙ sym c.place_of.ensures ∙ c.in-Some.is in
    let f : Shadow → Shadow = λ shadow. record shadow { offset = c.args.offset } in
    let there = changed_here (is_of c.args.stream) f xs c.in-Some.at c.index_mut.result.now place c.index_mut.ensures.value in
    rw (← c.self.view_is) there

pub returns-in_default : goal.returns-in_default
returns-in_default c =
    let p = is_of c.args.stream in
    let xs = c.self.inside.shadows.items in
    let place = ap (position p) (sym c.as_slice.ensures.value) ∙ sym c.place_of.ensures ∙ c.in_default.is in
    let none = none_found p xs place in
    let f : Shadow → Shadow = λ shadow. record shadow { offset = c.args.offset } in
    rw (← c.self.view_is) (sym (unchanged (is_of c.args.stream) f xs none))
