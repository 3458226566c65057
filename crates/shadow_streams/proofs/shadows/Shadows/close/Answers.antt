use Rattle.std.proofs.Common.{ℕ, List, Some, sym, refl, ap, subst, ◌∙◌, slice_set}
use Rattle.std.specs.List.{position}
use Rattle.shadow_streams.specs.declared.shadow.Shadow.{Shadow}
use Rattle.shadow_streams.specs.Shadows.{is_of, is_last, are_none, lowered, same_stream}
use Rattle.sprite_ids.specs.Lists.{EachOnce}
use Rattle.sprite_ids.proofs.OnceLaws.{taken, none_taken, none_found, nothing_found, found_there, changed_here}
use Rattle.shadow_streams.proofs.ShadowLaws.{without_once, changed_once, closes, lowers, one_entry}
use Rattle.shadow_streams.proofs.shadows.Shadows.close.Goals as goal

pub returns-in_default-clause-shadows : goal.returns-in_default-clause-shadows
returns-in_default-clause-shadows c =
    let p = is_of c.args.stream in
    let xs = c.self.inside.shadows.items in
    let place = ap (position p) (sym c.as_slice.ensures.value) ∙ sym c.place_of.ensures ∙ c.in_default.is in
    let none = none_found p xs place in
    let last = ap (is_last c.args.kernel c.args.grants) (nothing_found p xs none) in
    rw (← c.self.view_is) (sym (closes xs c.args.stream c.args.kernel c.args.grants last ∙ none_taken p xs none))

pub returns-in_default-clause-closed : goal.returns-in_default-clause-closed
returns-in_default-clause-closed c =
    let p = is_of c.args.stream in
    let xs = c.self.inside.shadows.items in
    let place = ap (position p) (sym c.as_slice.ensures.value) ∙ sym c.place_of.ensures ∙ c.in_default.is in
    let none = none_found p xs place in
    let last = ap (is_last c.args.kernel c.args.grants) (nothing_found p xs none) in
    rw (← c.self.view_is) (sym last)

pub invariant_of-self : goal.invariant_of-self
invariant_of-self c =
    let p = is_of c.args.stream in
    let xs = c.self.inside.shadows.items in
    let place = ap (position p) (sym c.as_slice.ensures.value) ∙ sym c.place_of.ensures ∙ c.in-Some.is in
    let gone = c.remove.ensures.items ∙ taken p xs c.in-Some.at c.remove.result (one_entry c.args.stream xs c.self.invariant) place in
    subst (EachOnce same_stream) (sym gone) (without_once c.args.stream xs c.self.invariant)

pub returns-then-are_none-clause-shadows : goal.returns-then-are_none-clause-shadows
returns-then-are_none-clause-shadows c =
    let p = is_of c.args.stream in
    let xs = c.self.inside.shadows.items in
    let place = ap (position p) (sym c.as_slice.ensures.value) ∙ sym c.place_of.ensures ∙ c.in-Some.is in
    let found = found_there p xs c.in-Some.at c.index.result.now place ∙ ap Some (sym c.index.ensures) in
    let left = ap (is_last c.args.kernel c.args.grants) found ∙ ap are_none (sym c.lower.ensures) ∙ sym c.are_none.ensures ∙ c.if-are_none.true in
    let gone = c.remove.ensures.items ∙ taken p xs c.in-Some.at c.remove.result (one_entry c.args.stream xs c.self.invariant) place in
    rw (← c.self.view_is) (gone ∙ sym (closes xs c.args.stream c.args.kernel c.args.grants left))

pub returns-then-are_none-clause-closed : goal.returns-then-are_none-clause-closed
returns-then-are_none-clause-closed c =
    let p = is_of c.args.stream in
    let xs = c.self.inside.shadows.items in
    let place = ap (position p) (sym c.as_slice.ensures.value) ∙ sym c.place_of.ensures ∙ c.in-Some.is in
    let found = found_there p xs c.in-Some.at c.index.result.now place ∙ ap Some (sym c.index.ensures) in
    let left = ap (is_last c.args.kernel c.args.grants) found ∙ ap are_none (sym c.lower.ensures) ∙ sym c.are_none.ensures ∙ c.if-are_none.true in
    rw (← c.self.view_is) (sym left)

pub invariant_of-self-2 : goal.invariant_of-self-2
invariant_of-self-2 c =
    let p = is_of c.args.stream in
    let xs = c.self.inside.shadows.items in
    let place = ap (position p) (sym c.as_slice.ensures.value) ∙ sym c.place_of.ensures ∙ c.in-Some.is in
    let f : Shadow → Shadow = λ shadow. record shadow { grants = lowered c.args.kernel c.args.grants shadow.grants } in
    let new : List ℕ → Shadow = λ grants. record { stream = c.index.result.now.stream; offset = c.index.result.now.offset; grants = grants } in
    let there = ap (λ grants. slice_set xs c.in-Some.at (new grants)) c.lower.ensures ∙ changed_here (is_of c.args.stream) f xs c.in-Some.at c.index.result.now place c.index.ensures in
    subst (EachOnce same_stream) (sym there) (changed_once f (λ s. refl) c.args.stream xs c.self.invariant)

pub returns-clause-shadows : goal.returns-clause-shadows
returns-clause-shadows c =
    let p = is_of c.args.stream in
    let xs = c.self.inside.shadows.items in
    let place = ap (position p) (sym c.as_slice.ensures.value) ∙ sym c.place_of.ensures ∙ c.in-Some.is in
    let found = found_there p xs c.in-Some.at c.index.result.now place ∙ ap Some (sym c.index.ensures) in
    let left = ap (is_last c.args.kernel c.args.grants) found ∙ ap are_none (sym c.lower.ensures) ∙ sym c.are_none.ensures ∙ c.if-are_none.false in
    let f : Shadow → Shadow = λ shadow. record shadow { grants = lowered c.args.kernel c.args.grants shadow.grants } in
    let new : List ℕ → Shadow = λ grants. record { stream = c.index.result.now.stream; offset = c.index.result.now.offset; grants = grants } in
    let there = ap (λ grants. slice_set xs c.in-Some.at (new grants)) c.lower.ensures ∙ changed_here (is_of c.args.stream) f xs c.in-Some.at c.index.result.now place c.index.ensures in
    rw (← c.self.view_is) (there ∙ sym (lowers xs c.args.stream c.args.kernel c.args.grants left))

pub returns-clause-closed : goal.returns-clause-closed
returns-clause-closed c =
    let p = is_of c.args.stream in
    let xs = c.self.inside.shadows.items in
    let place = ap (position p) (sym c.as_slice.ensures.value) ∙ sym c.place_of.ensures ∙ c.in-Some.is in
    let found = found_there p xs c.in-Some.at c.index.result.now place ∙ ap Some (sym c.index.ensures) in
    let left = ap (is_last c.args.kernel c.args.grants) found ∙ ap are_none (sym c.lower.ensures) ∙ sym c.are_none.ensures ∙ c.if-are_none.false in
    rw (← c.self.view_is) (sym left)
