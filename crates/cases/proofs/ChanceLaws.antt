-- Clusters that are run by chance, with bursts held.
use Rattle.std.proofs.Common.{arith, ◌≡◌, ℕ, ◌<◌, ◌≤◌, ◌-◌, Bool, true, false, List, [], ◌∷◌, ◌++◌, All, length, Option, Some, IfSome, Result, Ok, Err, OnErr, refl, sym, ap, subst, if◌then◌else◌, slice_index_or}
use Rattle.std.specs.List.{swap_remove}
use Rattle.std.proofs.lemmas.List.Elements.{All-get_or, All-push, All-same, All-set, All-take}
use Rattle.unix_calls.specs.declared.Description.{Description}
use Rattle.sprite_ids.specs.declared.no_memory.NoMemory.{NoMemory}
use Rattle.sprite_ids.specs.declared.running.Finish.{Finish}
use Rattle.kernel_threads.specs.declared.EndBurst.{EndBurst}
use Rattle.kernel_threads.specs.declared.EndBurst.TheVariants.{Taken, Stale}
use Rattle.kernel_threads.specs.Steps.{Adds, Closes, Stays}
use Rattle.cluster_bursts.specs.declared.job.Job.{Job}
use Rattle.sprite_cluster.specs.declared.Cluster.{Cluster}
use Rattle.sprite_cluster.specs.declared.Origin.{Origin}
use Rattle.sprite_cluster.specs.Finishing.{stands_so}
use Rattle.sprite_cluster.specs.Logs.{Holds, log_of}
use Rattle.cases.specs.Jobs.{MayEnd}
use Rattle.cases.specs.declared.chance.Held.{Held}

-- bursts that are held, and one more or none
pub held_more : (c : Description) (held now : List Held) (burst : Held) (pushed : Bool) → now ≡ (if pushed then held ++ burst ∷ [] else held) → MayEnd c burst.job → All (λ (h : Held). MayEnd c h.job) held → All (λ (h : Held). MayEnd c h.job) now
held_more c held now burst true is may all = All-same (λ (h : Held). MayEnd c h.job) now (held ++ burst ∷ []) is (All-push (λ (h : Held). MayEnd c h.job) held burst all may)
held_more c held now burst false is may all = All-same (λ (h : Held). MayEnd c h.job) now held is all

-- and one less
pub held_less : (c : Description) (held now : List Held) (at : ℕ) (burst : Held) → at < length held → burst ≡ slice_index_or held at burst → now ≡ swap_remove held at burst → All (λ (h : Held). MayEnd c h.job) held → MayEnd c burst.job × All (λ (h : Held). MayEnd c h.job) now
held_less c held now at burst there is less all =
    (let last : length held - 1 < length held = omega (arith, there) in (
      subst (λ (h : Held). MayEnd c h.job) (sym is) (All-get_or (λ (h : Held). MayEnd c h.job) held at burst there all),
      All-same (λ (h : Held). MayEnd c h.job) now (swap_remove held at burst) less (All-take (λ (h : Held). MayEnd c h.job) (length held - 1) _ (All-set (λ (h : Held). MayEnd c h.job) held at _ (All-get_or (λ (h : Held). MayEnd c h.job) held (length held - 1) burst last all) all)),
    ))

-- at a cluster of the same origin
pub held_still : {L : Type 0} (old now : Origin L) (held : List Held) → now ≡ old → All (λ (h : Held). MayEnd old.description h.job) held → All (λ (h : Held). MayEnd now.description h.job) held
held_still {L} old now held same all = subst (λ (c : Description). All (λ (h : Held). MayEnd c h.job) held) (sym (ap (λ (o : Origin L). o.description) same)) all

-- the burst that begins may end
pub begun_may : (c : Description) (o : Option Job) (job : Job) → o ≡ Some job → IfSome o (MayEnd c) → MayEnd c job
begun_may c o job is may = subst (λ (j : Option Job). IfSome j (MayEnd c)) is may

-- what never changes of a cluster
abbrev pub origin_of : {L : Type 0} → Cluster L → Origin L
origin_of v = record { description = v.description; link = v.begun }

-- a burst that ends keeps the origin, however it ends
pub ended_same : {L : Type 0} (faults asked : L → ℕ → ℕ → ℕ) (kernel : ℕ) (old now : Cluster L) (A B C : Type 0) (r : Result EndBurst NoMemory) → (r ≡ Ok Taken → Adds {O = Origin L} (λ (v : Cluster L). record { description = v.description; link = v.begun }) (λ (v : Cluster L). log_of v.trace) (λ (v : Cluster L). Holds faults asked v.description v.closed v.begun.value v.wire v.state v.trace) kernel old now × A) → (r ≡ Ok Stale → Stays {O = Origin L} (λ (v : Cluster L). record { description = v.description; link = v.begun }) (λ (v : Cluster L). log_of v.trace) (λ (v : Cluster L). Holds faults asked v.description v.closed v.begun.value v.wire v.state v.trace) old now × B × C) → OnErr r (Closes {O = Origin L} (λ (v : Cluster L). record { description = v.description; link = v.begun }) (λ (v : Cluster L). log_of v.trace) (λ (v : Cluster L). Holds faults asked v.description v.closed v.begun.value v.wire v.state v.trace) (λ (v : Cluster L). stands_so v.closed v.description v.trace v.wire.machine v.state) old now) → origin_of now ≡ origin_of old
ended_same faults asked kernel old now A B C (Ok Taken) taken stale closes = (taken refl).0.origin_stays
ended_same faults asked kernel old now A B C (Ok Stale) taken stale closes = (stale refl).0.origin_stays
ended_same faults asked kernel old now A B C (Err e) taken stale closes = closes.stays.origin_stays
