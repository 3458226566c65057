-- A cluster as it is booted, and how many kernels a lawful one has.
use Rattle.std.proofs.Common.{arith, ◌≡◌, ◌≤◌, ◌+◌, ℕ, Bool, true, false, [], refl, sym, ap, subst, length, nat_le}
use Rattle.std.specs.Prelude.{◌&&◌}
use Rattle.std.proofs.lemmas.Bool.{and_parts, leb-true}
use Rattle.kernel_rpc.specs.Machine.{idle}
use Rattle.cluster_wire.proofs.RanLaws.{none_ran}
use Rattle.cluster_wire_laws.specs.Asks.{tells_sending}
use Rattle.cluster_wire_laws.specs.Links.{of_link}
use Rattle.cluster_wire_laws.specs.Orders.{of_wire}
use Rattle.cluster_wire_laws.specs.Traces.{records_so}
use Rattle.unix_calls.specs.declared.description.Description.{Description}
use Rattle.unix_calls.specs.Domains.{roots_of}
use Rattle.unix_calls.specs.Lawful.{Lawful, is_within}
use Rattle.cluster_kernels.specs.Booted.{IsBooted}
use Rattle.sprite_cluster.specs.Logs.{Holds, faults_between}
use Rattle.sprite_cluster.proofs.ReachedLaws.{reached_first}
use Rattle.sprite_cluster.specs.declared.cluster.Cluster.{Cluster}
use Rattle.link_plan.specs.Counts.{Stay}

and_left : (a b : Bool) → (a && b) ≡ true → a ≡ true
and_left true b h = refl
and_left false b h = h

-- a lawful cluster has one to sixteen kernels
pub few_kernels : (c : Description) → Lawful c → (1 ≤ length c.kernels) × (length c.kernels ≤ 16)
few_kernels c h =
    let counts = and_left (is_within 1 16 (length c.kernels) && nat_le (length (roots_of c.kernels)) 16 && nat_le (length c.programs) 64 && nat_le (length c.starts) 64 && nat_le (length c.plan.entries) 64 && nat_le (length c.files) 200) (nat_le (length c.evicts) 16) h.counts in
    let counts_files = and_left (is_within 1 16 (length c.kernels) && nat_le (length (roots_of c.kernels)) 16 && nat_le (length c.programs) 64 && nat_le (length c.starts) 64 && nat_le (length c.plan.entries) 64) (nat_le (length c.files) 200) counts in
    let counts_plan = and_left (is_within 1 16 (length c.kernels) && nat_le (length (roots_of c.kernels)) 16 && nat_le (length c.programs) 64 && nat_le (length c.starts) 64) (nat_le (length c.plan.entries) 64) counts_files in
    let counts_starts = and_left (is_within 1 16 (length c.kernels) && nat_le (length (roots_of c.kernels)) 16 && nat_le (length c.programs) 64) (nat_le (length c.starts) 64) counts_plan in
    let counts_programs = and_left (is_within 1 16 (length c.kernels) && nat_le (length (roots_of c.kernels)) 16) (nat_le (length c.programs) 64) counts_starts in
    let within = and_left (is_within 1 16 (length c.kernels)) (nat_le (length (roots_of c.kernels)) 16) counts_programs in
    let parts = and_parts (nat_le 1 (length c.kernels)) (nat_le (length c.kernels) 16) within in
    (leb-true 1 (length c.kernels) parts.0, leb-true (length c.kernels) 16 parts.1)

-- what is always true of a cluster is true as it is booted
pub boot_holds : {L : Type 0} (faults asked : L → ℕ → ℕ → ℕ) (link : L) (c : Description) (cluster : Cluster L) → Lawful c → cluster.description ≡ c → cluster.trace ≡ [] → cluster.begun.value ≡ link → cluster.wire.machine ≡ idle → Stay (faults link) (asked link) (faults cluster.wire.link) (asked cluster.wire.link) → IsBooted c cluster.state → Holds faults asked cluster.description cluster.closed cluster.begun.value cluster.wire cluster.state cluster.trace
boot_holds {L} faults asked link c cluster lawful same none begun idles stay booted = record {
  lawful = subst Lawful (sym same) lawful;
  tells = λ is a b. (let told : faults_between a b cluster.trace ≡ 0 = ap (faults_between a b) none in
      let first = ap (λ l. faults l a b) begun in
      let counts = stay.faults_stay a b in omega arith);
  reached = λ is. record {
    first = cluster.wire;
    idles = idles;
    counts = subst (λ (l : L). Stay (faults l) (asked l) (faults cluster.wire.link) (asked cluster.wire.link)) (sym begun) stay;
    steps = [];
    ran = none_ran faults asked cluster.wire cluster.wire refl;
    linked = ap of_link none;
    in_order = ap of_wire none;
    sends = λ a b. (let told : records_so (tells_sending a b) cluster.trace ≡ 0 = ap (records_so (tells_sending a b)) none in omega arith);
  };
  came = λ is. reached_first faults asked cluster.description cluster.begun.value (record { wire = cluster.wire; state = cluster.state; trace = cluster.trace }) (record {
    boots = subst (λ (d : Description). IsBooted d cluster.state) (sym same) booted;
    idles = idles;
    none = none;
    counts = subst (λ (l : L). Stay (faults l) (asked l) (faults cluster.wire.link) (asked cluster.wire.link)) (sym begun) stay;
  });
}
