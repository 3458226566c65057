use Rattle.std.proofs.Common.{◌≡◌, ℕ, List, IfOk, ap, sym, subst, ◌∙◌}
use Rattle.std.specs.Map.{keys_of}
use Rattle.server_names.specs.Names.{lines}
use Rattle.server_kernel.proofs.SortLaws.{keys_keyed}
use Rattle.server_kernel.proofs.listing.listing.Goals as goal

pub returns : goal.returns
returns c = subst (λ (bytes : List ℕ). IfOk c.lines.result (λ text. text ≡ bytes)) (ap lines (sym (keys_keyed (λ name. name.items) c.in_ok-sorted.sorted.entries) ∙ ap keys_of c.in_ok-sorted.ensures)) c.lines.ensures
