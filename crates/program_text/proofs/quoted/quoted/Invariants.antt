use Rattle.std.proofs.Common.{◌≡◌, ◌++◌, drop, false}
use Rattle.std.specs.Option.{option_map}
use Rattle.program_text.specs.Quoted.{literal}
use Rattle.program_text.proofs.quoted.quoted.Given as goal

-- what was read so far, and then what the rest writes, is what the whole writes
abbrev pub invariant-loop-at : goal.invariant-loop-at
invariant-loop-at l =
    option_map (λ r. (l.text ++ r.0, r.1)) (literal l.behind_backslash (drop l.at l.bytes)) ≡ literal false l.bytes
