use Rattle.std.proofs.Common.{◌≡◌, drop}
use Rattle.std.specs.Map.{lookup}
use Rattle.server_names.specs.Names.{is_part}
use Rattle.server_names.proofs.directories.entry_of.Given as goal

abbrev pub invariant-loop-listed : goal.invariant-loop-listed
invariant-loop-listed l = lookup (is_part l.part) (drop l.listed-index l.entries) ≡ lookup (is_part l.part) l.entries
