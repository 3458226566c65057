use Rattle.std.proofs.Common.{◌≡◌, drop}
use Rattle.std.specs.List.{list_all}
use Rattle.unix_calls.specs.Lawful.{is_name_byte}
use Rattle.cluster_file.proofs.names.is_name.Given as goal

-- whether the rest has bytes of a name alone tells it of the whole
abbrev pub invariant-loop-byte : goal.invariant-loop-byte
invariant-loop-byte l = list_all is_name_byte (drop l.byte-index l.rest) ≡ list_all is_name_byte l.rest
