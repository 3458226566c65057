use Rattle.std.proofs.Common.{◌≡◌, drop}
use Rattle.std.specs.List.{list_any}
use Rattle.sprite_paths.specs.Path.{is_prefix}
use Rattle.cluster_file.proofs.file_paths.begins_one.Given as goal

-- whether the path begins one of the rest tells it of all
abbrev pub invariant-loop-other : goal.invariant-loop-other
invariant-loop-other l = list_any (is_prefix l.path) (drop l.other-index l.others) ≡ list_any (is_prefix l.path) l.others
