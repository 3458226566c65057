use Rattle.std.proofs.Common.{ℕ, List, ap, subst, ◌∙◌, map}
use Rattle.std.specs.List.Sorted.{IsPermutation}
use Rattle.std.specs.Ordering.{nat_cmp, is_lt}
use Rattle.std.specs.Cmp.Lexicographic.{slice_cmp}
use Rattle.std.proofs.lemmas.List.Sorted.{IsPermutation-map}
use Rattle.server_names.specs.Names.{Tree, names_in, lines}
use Rattle.server_names.proofs.ListingLaws.{sorted_map}
use Rattle.server_names.proofs.names.Names.list.Goals as goal

pub returns-clause-text : goal.returns-clause-text
returns-clause-text c =
    let old = c.in_ok-names.names.items in
    let new = c.sort.new.self.items in
    let made = c.in_ok-names.ensures ∙ ap (names_in c.self.inside.tree) (c.in_ok-directory.ensures ∙ c.parts-2.ensures.parts) ∙ ap (λ (t : Tree). names_in t c.args.path.now) c.self.view_is in
    record {
      names = map (λ name. name.items) new;
      same = subst (λ (names : List (List ℕ)). IsPermutation names (map (λ name. name.items) new)) made (IsPermutation-map (λ name. name.items) old new c.sort.ensures.permutation);
      sorted = sorted_map (λ name. name.items) (λ x y. is_lt (slice_cmp nat_cmp x y)) new c.in_ok-sort.ensures.sorted;
      text_is = c.in_ok-lines.ensures ∙ ap (λ names. lines (map (λ name. name.items) names)) c.as_slice.ensures.value;
    }
