use Rattle.std.proofs.Common.{Some, sym, ap, ◌∙◌, option_map}
use Rattle.std.specs.List.{position}
use Rattle.shadow_streams.specs.declared.shadow.Shadow.{Shadow}
use Rattle.shadow_streams.specs.Shadows.{is_of}
use Rattle.sprite_ids.proofs.OnceLaws.{none_found, nothing_found, found_there}
use Rattle.shadow_streams.proofs.shadows.Shadows.offset.Goals as goal

pub returns-in-Some : goal.returns-in-Some
returns-in-Some c =
    let p = is_of c.args.stream in
    let xs = c.self.inside.shadows.items in
    let place = ap (position p) (sym c.as_slice.ensures.value) ∙ sym c.place_of.ensures ∙ c.in-Some.is in
    let there = found_there p xs c.in-Some.at c.index.result.now place ∙ ap Some (sym c.index.ensures) in
    rw (← c.self.view_is) (sym (ap (option_map (λ (shadow : Shadow). shadow.offset)) there))

pub returns-in-None : goal.returns-in-None
returns-in-None c =
    let p = is_of c.args.stream in
    let xs = c.self.inside.shadows.items in
    let place = ap (position p) (sym c.as_slice.ensures.value) ∙ sym c.place_of.ensures ∙ c.in-None.is in
    let none = none_found p xs place in
    rw (← c.self.view_is) (sym (ap (option_map (λ (shadow : Shadow). shadow.offset)) (nothing_found p xs none)))
