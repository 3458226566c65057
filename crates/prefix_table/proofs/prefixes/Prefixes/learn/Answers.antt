use Rattle.std.proofs.Common.{sym, ap, subst, ◌∙◌}
use Rattle.std.specs.List.{position}
use Rattle.std.proofs.lemmas.Bool.{true≢false}
use Rattle.prefix_table.specs.Prefixes.{is_of, same_prefix}
use Rattle.sprite_ids.specs.Lists.{EachOnce}
use Rattle.sprite_ids.proofs.OnceLaws.{none_found}
use Rattle.prefix_table.proofs.PrefixLaws.{learned_here, learned_last, learned_once}
use Rattle.prefix_table.proofs.prefixes.Prefixes.learn.Goals as goal

pub invariant_of-self : goal.invariant_of-self
invariant_of-self c =
    let xs = c.self.inside.domains.items in
    let place = ap (position (is_of c.args.prefix)) (sym c.as_slice.ensures.value) ∙ sym c.place_of.ensures ∙ c.in-Some.is in
    let there = learned_here c.args.prefix c.args.server xs c.in-Some.at c.index_mut.result.now place c.index_mut.ensures.value in
    subst (EachOnce same_prefix) (sym there) (learned_once c.args.prefix c.args.server xs c.self.invariant)

pub invariant_of-self-in-Continue-1 : goal.invariant_of-self-in-Continue-1
invariant_of-self-in-Continue-1 c =
    let xs = c.self.inside.domains.items in
    let place = ap (position (is_of c.args.prefix)) (sym c.as_slice.ensures.value) ∙ sym c.place_of.ensures ∙ c.in-None.is in
    let there = c.in_ok-push-in-None.ensures.items ∙ sym (learned_last c.args.prefix c.args.server xs (none_found (is_of c.args.prefix) xs place)) in
    subst (EachOnce same_prefix) (sym there) (learned_once c.args.prefix c.args.server xs c.self.invariant)

pub returns-in-Some-clause-ok : goal.returns-in-Some-clause-ok
returns-in-Some-clause-ok c =
    let xs = c.self.inside.domains.items in
    let place = ap (position (is_of c.args.prefix)) (sym c.as_slice.ensures.value) ∙ sym c.place_of.ensures ∙ c.in-Some.is in
    rw (← c.self.view_is) (learned_here c.args.prefix c.args.server xs c.in-Some.at c.index_mut.result.now place c.index_mut.ensures.value)

pub returns-in_ok-push-in-None-clause-ok : goal.returns-in_ok-push-in-None-clause-ok
returns-in_ok-push-in-None-clause-ok c =
    let xs = c.self.inside.domains.items in
    let place = ap (position (is_of c.args.prefix)) (sym c.as_slice.ensures.value) ∙ sym c.place_of.ensures ∙ c.in-None.is in
    rw (← c.self.view_is) (c.in_ok-push-in-None.ensures.items ∙ sym (learned_last c.args.prefix c.args.server xs (none_found (is_of c.args.prefix) xs place)))

pub returns-in_err-push-in-None-clause-known : goal.returns-in_err-push-in-None-clause-known
returns-in_err-push-in-None-clause-known c =
    let xs = c.self.inside.domains.items in
    let place = ap (position (is_of c.args.prefix)) (sym c.as_slice.ensures.value) ∙ sym c.place_of.ensures ∙ c.in-None.is in
    rw (← c.self.view_is) (λ known. absurd (true≢false (sym known ∙ none_found (is_of c.args.prefix) xs place)))
