use Rattle.std.proofs.Common.{◌++◌, ◌∷◌, [], ℕ, List, sym, ap, subst, ◌∙◌}
use Rattle.std.specs.List.{position, remove}
use Rattle.shadow_streams.specs.declared.shadow.Shadow.{Shadow}
use Rattle.shadow_streams.specs.Shadows.{is_of, same_stream}
use Rattle.sprite_ids.specs.Lists.{without, EachOnce}
use Rattle.sprite_ids.proofs.OnceLaws.{none_taken, none_found, taken_before}
use Rattle.shadow_streams.proofs.ShadowLaws.{one_entry, share_once}
use Rattle.shadow_streams.proofs.shadows.Shadows.share.Goals as goal

pub returns-in-Some-clause-ok : goal.returns-in-Some-clause-ok
returns-in-Some-clause-ok c =
    let p = is_of c.args.stream in
    let xs = c.self.inside.shadows.items in
    let place = ap (position p) (sym c.as_slice.ensures.value) ∙ sym c.place_of-before.ensures ∙ c.in-Some.is in
    let e : Shadow = record { stream = c.args.stream; offset = c.args.offset; grants = c.counted-grants.result } in
    let there = c.remove.ensures.items ∙ ap (λ ys. remove ys c.in-Some.at) c.in_ok-push.ensures.items ∙ taken_before p xs c.in-Some.at e (one_entry c.args.stream xs c.self.invariant) place in
    let all = there ∙ ap (λ (grants : List ℕ). without (is_of c.args.stream) xs ++ record { stream = c.args.stream; offset = c.args.offset; grants = grants } ∷ []) c.counted-grants.ensures in
    rw (← c.self.view_is) all

pub returns-in_default-clause-ok : goal.returns-in_default-clause-ok
returns-in_default-clause-ok c =
    let p = is_of c.args.stream in
    let xs = c.self.inside.shadows.items in
    let place = ap (position p) (sym c.as_slice.ensures.value) ∙ sym c.place_of-before.ensures ∙ c.in_default.is in
    let e : Shadow = record { stream = c.args.stream; offset = c.args.offset; grants = c.counted-grants.result } in
    let there = c.in_ok-push.ensures.items ∙ ap (λ ys. ys ++ e ∷ []) (sym (none_taken p xs (none_found p xs place))) in
    let all = there ∙ ap (λ (grants : List ℕ). without (is_of c.args.stream) xs ++ record { stream = c.args.stream; offset = c.args.offset; grants = grants } ∷ []) c.counted-grants.ensures in
    rw (← c.self.view_is) all

pub invariant_of-self-in-Some : goal.invariant_of-self-in-Some
invariant_of-self-in-Some c =
    let p = is_of c.args.stream in
    let xs = c.self.inside.shadows.items in
    let place = ap (position p) (sym c.as_slice.ensures.value) ∙ sym c.place_of-before.ensures ∙ c.in-Some.is in
    let e : Shadow = record { stream = c.args.stream; offset = c.args.offset; grants = c.counted-grants.result } in
    let there = c.remove.ensures.items ∙ ap (λ ys. remove ys c.in-Some.at) c.in_ok-push.ensures.items ∙ taken_before p xs c.in-Some.at e (one_entry c.args.stream xs c.self.invariant) place in
    let all = there ∙ ap (λ (grants : List ℕ). without (is_of c.args.stream) xs ++ record { stream = c.args.stream; offset = c.args.offset; grants = grants } ∷ []) c.counted-grants.ensures in
    subst (EachOnce same_stream) (sym all) (share_once c.args.stream c.args.offset c.args.kernels.now xs c.self.invariant)

pub invariant_of-self-in_default : goal.invariant_of-self-in_default
invariant_of-self-in_default c =
    let p = is_of c.args.stream in
    let xs = c.self.inside.shadows.items in
    let place = ap (position p) (sym c.as_slice.ensures.value) ∙ sym c.place_of-before.ensures ∙ c.in_default.is in
    let e : Shadow = record { stream = c.args.stream; offset = c.args.offset; grants = c.counted-grants.result } in
    let there = c.in_ok-push.ensures.items ∙ ap (λ ys. ys ++ e ∷ []) (sym (none_taken p xs (none_found p xs place))) in
    let all = there ∙ ap (λ (grants : List ℕ). without (is_of c.args.stream) xs ++ record { stream = c.args.stream; offset = c.args.offset; grants = grants } ∷ []) c.counted-grants.ensures in
    subst (EachOnce same_stream) (sym all) (share_once c.args.stream c.args.offset c.args.kernels.now xs c.self.invariant)
