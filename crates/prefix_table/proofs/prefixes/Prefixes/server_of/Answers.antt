use Rattle.std.proofs.Common.{Bor, option_map, sym, ap, refl, ◌∙◌}
use Rattle.prefix_table.specs.declared.prefixes.Domain.{Domain}
use Rattle.prefix_table.specs.Prefixes.{longest}
use Rattle.prefix_table.proofs.PrefixLaws.{longest_found, none_matching, some_not_none}
use Rattle.prefix_table.proofs.prefixes.Prefixes.server_of.Goals as goal

pub returns-in-Some-clause-found : goal.returns-in-Some-clause-found
returns-in-Some-clause-found c =
    let xs = c.self.inside.domains.items in
    let found = ap (λ ys. longest ys c.args.path.now) (sym c.as_slice.ensures.value) ∙ sym c.longest.ensures ∙ ap (option_map (λ (domain : Bor Domain). domain.now)) c.in-Some.is in
    rw (← c.self.view_is) (longest_found xs c.args.path.now c.in-Some.domain.now found)

pub returns-in-Some-clause-none : goal.returns-in-Some-clause-none
returns-in-Some-clause-none c =
    let xs = c.self.inside.domains.items in
    let found = ap (λ ys. longest ys c.args.path.now) (sym c.as_slice.ensures.value) ∙ sym c.longest.ensures ∙ ap (option_map (λ (domain : Bor Domain). domain.now)) c.in-Some.is in
    rw (← c.self.view_is) (λ e. absurd (cc), λ h. absurd (some_not_none c.in-Some.domain.now (sym found ∙ (none_matching xs c.args.path.now).1 h)))

pub returns-in-None-clause-none : goal.returns-in-None-clause-none
returns-in-None-clause-none c =
    let xs = c.self.inside.domains.items in
    let found = ap (λ ys. longest ys c.args.path.now) (sym c.as_slice.ensures.value) ∙ sym c.longest.ensures ∙ ap (option_map (λ (domain : Bor Domain). domain.now)) c.in-None.is in
    rw (← c.self.view_is) (λ e. (none_matching xs c.args.path.now).0 found, λ h. refl)
