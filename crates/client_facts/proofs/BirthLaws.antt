-- A home knows as many births behind a change of one of them as before.
use Rattle.std.proofs.Common.{◌≡◌, refl, ℕ, true, List, length, Option, Some, None, length-set}
use Rattle.sprite_ids.specs.declared.Ending.{Ending}
use Rattle.home_table.specs.declared.birth.Birth.{Birth}
use Rattle.home_table.specs.declared.birth.Life.{Life}
use Rattle.home_table.specs.declared.birth.Life.TheVariants as lives
use Rattle.home_table.specs.Home as home_tables

pub length_put : (o : Option Birth) (births : List Birth) (at : ℕ) → length (home_tables.put births at o) ≡ length births
length_put (Some birth) births at = length-set births at birth
length_put None births at = refl

pub length_life : (births : List Birth) (at : ℕ) (life : Life) → length (home_tables.with_life births at life) ≡ length births
length_life births at life = length_put _ births at

pub length_ending : (o : Option Life) (births : List Birth) (at : ℕ) (how : Ending) → length (home_tables.ending births at how o) ≡ length births
length_ending (Some (lives.Living pending)) births at how = length_life births at (lives.Ended how)
length_ending (Some (lives.Ended before)) births at how = refl
length_ending (Some (lives.Waited before)) births at how = refl
length_ending None births at how = refl

pub length_killing : (o : Option Life) (births : List Birth) (at : ℕ) → length (home_tables.killing births at o) ≡ length births
length_killing (Some (lives.Living pending)) births at = length_life births at (lives.Living true)
length_killing (Some (lives.Ended before)) births at = refl
length_killing (Some (lives.Waited before)) births at = refl
length_killing None births at = refl

pub length_telling : (o : Option Life) (births : List Birth) (at : ℕ) → length (home_tables.telling births at o) ≡ length births
length_telling (Some (lives.Ended how)) births at = length_life births at (lives.Waited how)
length_telling (Some (lives.Living pending)) births at = refl
length_telling (Some (lives.Waited how)) births at = refl
length_telling None births at = refl

pub length_waiting : (o : Option ℕ) (births : List Birth) → length (home_tables.waiting births o) ≡ length births
length_waiting (Some at) births = length_telling _ births at
length_waiting None births = refl
