use Rattle.std.proofs.Common.{◌≡◌, false, drop, sym, ap, ◌∙◌}
use Rattle.std.proofs.lemmas.List.{take_rest}
use native.Mathlib.Numerals.{unary_clauses}
use Rattle.client_files.specs.Arrivals.{are_apart, is_repeated}
use Rattle.client_files.proofs.ArrivalLaws.{drop_next, unrepeated}
use Rattle.client_files.proofs.arrival.are_apart.Goals as goal

pub loop-at-preserved : goal.loop-at-preserved
loop-at-preserved c =
    let items = c.args.carried.now in
    let told = sym c.is_repeated.ensures ∙ c.if-is_repeated.false in
    let apart : is_repeated (drop c.loop-at.at items) ≡ false = sym (ap is_repeated (take_rest items c.loop-at.at)) ∙ told in
    simp unary_clauses (ap are_apart (drop_next items c.loop-at.at) ∙ sym (unrepeated (drop c.loop-at.at items) apart) ∙ c.loop-at.invariant)
