use Rattle.std.proofs.Common.{◌≡◌, ◌++◌, drop}
use Rattle.std.specs.Option.{option_map}
use Rattle.history_text.specs.Texts.{inside}
use Rattle.history_text.specs.declared.quoted.Escape.TheVariants.{Outside}
use Rattle.history_text.proofs.quoted.inside.Given as goal

abbrev pub invariant-loop-at : goal.invariant-loop-at
invariant-loop-at l = option_map (λ r. (l.text ++ r.0, r.1)) (inside l.escape (drop l.at l.bytes)) ≡ inside Outside l.bytes
