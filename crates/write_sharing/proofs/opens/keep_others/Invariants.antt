use Rattle.std.proofs.Common.{◌≡◌, ◌++◌, drop}
use Rattle.write_sharing.specs.Kept.{without_one}
use Rattle.write_sharing.proofs.opens.keep_others.Given as goal

-- what is kept so far, and the others of those that are left
abbrev pub invariant-loop-opened : goal.invariant-loop-opened
invariant-loop-opened l = l.kept.items ++ without_one l.one (drop l.opened-index l.streams) ≡ l.fn.kept.items ++ without_one l.one l.streams
