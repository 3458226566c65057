use Rattle.std.proofs.Common.{◌≡◌, map, take}
use Rattle.server_names.proofs.directories.names_of.Given as goal

abbrev pub invariant-loop-listed : goal.invariant-loop-listed
invariant-loop-listed l = map (λ name. name.items) l.names.items ≡ map (λ listed. listed.0) (take l.listed-index l.entries)
