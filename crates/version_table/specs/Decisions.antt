-- What a decision answers.
use Rattle.std.specs.Prelude.{Bool, List, [], ◌∷◌}
use Rattle.sprite_ids.specs.declared.Callback.{Callback}
use Rattle.version_table.specs.declared.action.Action.{Action}
use Rattle.version_table.specs.declared.action.Decision.{Decision}
use Rattle.version_table.specs.declared.action.Decision.TheVariants.{Grant, CallFirst}
use Rattle.version_table.specs.declared.versioned.Versioned.{Versioned}
use Rattle.version_table.specs.Files.{is_uncached, calls_of, grant_of, told}

-- a grant exactly where no callback goes first, else the callbacks
abbrev pub answering : Versioned → Action → List Callback → Decision
answering file action [] = Grant (grant_of file action)
answering file action (call ∷ calls) = CallFirst (call ∷ calls)

-- the decision on an open or a move
abbrev pub decision_of : Bool → Versioned → Action → Decision
decision_of cached file action = answering (told (is_uncached cached file action) file) action (calls_of cached file action)
