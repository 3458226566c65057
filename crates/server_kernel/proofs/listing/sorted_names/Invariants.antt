use Rattle.std.proofs.Common.{◌≡◌, drop, map}
use Rattle.std.specs.Prelude.{fold}
use Rattle.server_kernel.specs.Listing.{keyed, sorted_entries, with_sorted}
use Rattle.server_kernel.proofs.listing.sorted_names.Given as goal

abbrev pub invariant-loop-name : goal.invariant-loop-name
invariant-loop-name l = fold with_sorted (keyed (λ name. name.items) l.sorted.entries) (map (λ name. name.items) (drop l.name-index l.names)) ≡ sorted_entries (map (λ name. name.items) l.names)
