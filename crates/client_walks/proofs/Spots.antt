-- Where processes are, the home, and what the kernel is: what facts of these alone see of the deeds.
use Rattle.std.proofs.Common.{◌≡◌, ℕ, ◌+◌, ◌*◌, ◌==◌, nat_lt, true, false, List, [], ◌∷◌, ◌++◌, length, Some}
use Rattle.std.specs.BTreeMap.{insert_entry, is_at}
use Rattle.std.specs.List.{list_any}
use Rattle.std.specs.Map.{lookup, remove_entry, set_value}
use Rattle.std.specs.Ordering.{nat_cmp}
use Rattle.sprite_ids.specs.Lists.{less}
use Rattle.sprite_ids.specs.Pid.{home_of}
use Rattle.kernel_steps.specs.Rows.{first_under, is_under}
use Rattle.home_table.specs.Home.{Table, born}
use Rattle.unix_calls.specs.declared.KernelLine.{KernelLine}
use Rattle.unix_calls.specs.declared.ProgramLine.{ProgramLine}
use Rattle.client_homes.specs.declared.client.ClientProcs.{ClientProcs}
use Rattle.client_homes.specs.declared.client.Leaving.{Leaving}
use Rattle.client_homes.specs.declared.process.Proc.{Proc}
use Rattle.client_homes.specs.Procs.{is_pid}
use Rattle.client_walks.specs.Hands.{Held, Nothing, Coming, Holding}
use Rattle.client_walks.proofs.RowLaws.{is_in}

-- the part of a kernel that such a fact reads
pub record Spots : Type 0 where
  pub kernel : ℕ
  pub kernels : List KernelLine
  pub programs : List ProgramLine
  pub swap_server : ℕ
  pub procs : List (ℕ × Proc)
  pub leaving : List (ℕ × Leaving)
  pub home : Table

abbrev pub spots_of : ClientProcs → Spots
spots_of s = record { kernel = s.kernel; kernels = s.kernels; programs = s.programs; swap_server = s.swap_server; procs = s.procs; leaving = s.leaving; home = s.home }

-- what such a fact must bear: a process is changed, the home knows more, one is born, comes, is put in or taken out, leaves, stays among
-- those that leave, or is let go
pub record KeepsSpots (Q : Spots → Held → Type 0) : Type 0 where
  pub sets : (v : Spots) (hand : Held) (pid : ℕ) (old new : Proc) → lookup (is_at (nat_cmp pid)) v.procs ≡ Some old → Q v hand → Q (record v { procs = set_value (is_at (nat_cmp pid)) v.procs new }) hand
  pub knows : (v : Spots) (hand : Held) (table : Table) → table.home ≡ v.home.home → length table.births ≡ length v.home.births → Q v hand → Q (record v { home = table }) hand
  pub bears : (v : Spots) (parent : ℕ) → (home_of parent == v.home.home) ≡ true → nat_lt (length v.home.births) 200 ≡ true → Q v Nothing → Q (record v { home = born v.home (Some parent) }) (Holding (1000 * v.home.home + length v.home.births + 1))
  pub brings : (v : Spots) (pid : ℕ) → is_in pid v.procs ≡ false → list_any (is_under is_pid pid) v.leaving ≡ false → Q v (Coming pid) → Q v (Holding pid)
  pub refuses : (v : Spots) (pid : ℕ) → Q v (Coming pid) → Q v Nothing
  pub puts : (v : Spots) (pid : ℕ) (proc : Proc) → Q v (Holding pid) → Q (record v { procs = insert_entry nat_cmp v.procs pid proc }) Nothing
  pub takes : (v : Spots) (pid : ℕ) (proc : Proc) → lookup (is_at (nat_cmp pid)) v.procs ≡ Some proc → Q v Nothing → Q (record v { procs = remove_entry (is_at (nat_cmp pid)) v.procs }) (Holding pid)
  pub leaves : (v : Spots) (pid : ℕ) (found : Leaving) → first_under is_pid pid v.leaving ≡ Some found → Q v Nothing → Q (record v { leaving = less (is_under is_pid pid) v.leaving }) (Holding pid)
  pub stays : (v : Spots) (pid : ℕ) (row : Leaving) → Q v (Holding pid) → Q (record v { leaving = v.leaving ++ (pid, row) ∷ [] }) Nothing
  pub lets_go : (v : Spots) (pid : ℕ) → Q v (Holding pid) → Q v Nothing
