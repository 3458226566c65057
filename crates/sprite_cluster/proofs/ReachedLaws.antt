-- What a run reaches: changes one after the other, and what is true of all that they come to.
use Rattle.std.proofs.Common.{◌≡◌, ℕ, ◌≤◌, List, [], ◌∷◌, ◌++◌, refl, sym, subst}
use Rattle.unix_calls.specs.declared.Description.{Description}
use Rattle.cluster_choices.specs.declared.Choice.{Choice}
use Rattle.cluster_bursts.specs.declared.Burst.{Burst}
use Rattle.sprite_cluster.specs.Reached.{At, Begins, Change, Goes, GoesAll, Reached, Chose, Began, Took, Lost}

-- a cluster that begins is reached, and so is what it comes to by one change more
pub reached_first : {L : Type 0} (faults asked : L → ℕ → ℕ → ℕ) (c : Description) (begun : L) (first : At L) → Begins faults asked c begun first → Reached faults asked c begun first
reached_first faults asked c begun first begins = record { first = first; begins = begins; changes = []; goes = refl }

goes_on : {L : Type 0} (faults asked : L → ℕ → ℕ → ℕ) (c : Description) (changes : List Change) (change : Change) (first old now : At L) → GoesAll faults asked c changes first old → Goes faults asked c change old now → GoesAll faults asked c (changes ++ change ∷ []) first now
goes_on {L} faults asked c [] change first old now none goes = (now, subst (λ (at : At L). Goes faults asked c change at now) (sym none) goes, refl)
goes_on {L} faults asked c (next ∷ changes) change first old now all goes = (all.0, all.1, goes_on faults asked c changes change all.0 old now all.2 goes)

pub reached_on : {L : Type 0} (faults asked : L → ℕ → ℕ → ℕ) (c : Description) (begun : L) (change : Change) (old now : At L) → Reached faults asked c begun old → Goes faults asked c change old now → Reached faults asked c begun now
reached_on faults asked c begun change old now reached goes = record {
  first = reached.first;
  begins = reached.begins;
  changes = reached.changes ++ change ∷ [];
  goes = goes_on faults asked c reached.changes change reached.first old now reached.goes goes;
}

-- a fact that is true of a cluster as it begins, and that each change of a reached cluster keeps
pub record Lasts {L : Type 0} (faults asked : L → ℕ → ℕ → ℕ) (c : Description) (begun : L) (P : At L → Type 0) : Type 0 where
  pub begins : (first : At L) → Begins faults asked c begun first → P first
  pub chose : (kernel : ℕ) (choice : Choice) (old now : At L) → Reached faults asked c begun old → Goes faults asked c (Chose kernel choice) old now → P old → P now
  pub began : (kernel : ℕ) (old now : At L) → Reached faults asked c begun old → Goes faults asked c (Began kernel) old now → P old → P now
  pub took : (kernel : ℕ) (burst : Burst) (old now : At L) → Reached faults asked c begun old → Goes faults asked c (Took kernel burst) old now → P old → P now
  pub lost : (kernel : ℕ) (burst : Burst) (old now : At L) → Reached faults asked c begun old → Goes faults asked c (Lost kernel burst) old now → P old → P now

-- is true of each reached cluster
kept_by : {L : Type 0} (faults asked : L → ℕ → ℕ → ℕ) (c : Description) (begun : L) (P : At L → Type 0) (change : Change) (old now : At L) → Lasts faults asked c begun P → Reached faults asked c begun old → Goes faults asked c change old now → P old → P now
kept_by faults asked c begun P (Chose kernel choice) old now lasts reached goes before = lasts.chose kernel choice old now reached goes before
kept_by faults asked c begun P (Began kernel) old now lasts reached goes before = lasts.began kernel old now reached goes before
kept_by faults asked c begun P (Took kernel burst) old now lasts reached goes before = lasts.took kernel burst old now reached goes before
kept_by faults asked c begun P (Lost kernel burst) old now lasts reached goes before = lasts.lost kernel burst old now reached goes before

kept_by_all : {L : Type 0} (faults asked : L → ℕ → ℕ → ℕ) (c : Description) (begun : L) (P : At L → Type 0) (changes : List Change) (old now : At L) → Lasts faults asked c begun P → Reached faults asked c begun old → GoesAll faults asked c changes old now → P old → P now
kept_by_all faults asked c begun P [] old now lasts reached none before = subst P none before
kept_by_all faults asked c begun P (change ∷ changes) old now lasts reached all before =
    kept_by_all faults asked c begun P changes all.0 now lasts (reached_on faults asked c begun change old all.0 reached all.1) all.2
    (kept_by faults asked c begun P change old all.0 lasts reached all.1 before)

pub lasts_on : {L : Type 0} (faults asked : L → ℕ → ℕ → ℕ) (c : Description) (begun : L) (P : At L → Type 0) (now : At L) → Lasts faults asked c begun P → Reached faults asked c begun now → P now
lasts_on faults asked c begun P now lasts reached =
    kept_by_all faults asked c begun P reached.changes reached.first now lasts (reached_first faults asked c begun reached.first reached.begins) reached.goes
    (lasts.begins reached.first reached.begins)
