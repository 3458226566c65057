-- What a server keeps of opens and requests when the cluster begins: nothing. And what holds from then on.
use Rattle.std.proofs.Common.{◌≡◌, ℕ, List, [], ◌∷◌, Some, refl, sym, ap, ◌∙◌, true≢false}
use Rattle.sprite_ids.specs.declared.FileId.{FileId}
use Rattle.sprite_ids.specs.declared.TxNo.{TxNo}
use Rattle.unix_calls.specs.declared.Description.{Description}
use Rattle.kernel_steps.specs.declared.Input.{Input}
use Rattle.shadow_streams.specs.declared.Shadow.{Shadow}
use Rattle.version_table.specs.Files as tables
use Rattle.version_table.specs.Versions as versions
use Rattle.server_kernel.specs.declared.Asked.{Asked}
use Rattle.server_kernel.specs.declared.CallOut.{CallOut}
use Rattle.server_kernel.specs.declared.Server.{Server}
use Rattle.server_kernel.specs.Boot.{boots, serves_of}
use Rattle.server_kernel.specs.Directory.{Parts}
use Rattle.server_kernel.specs.Steps.{server_step}
use Rattle.server_walks.proofs.BootWalk.{KeepsBoot, server_begins}
use Rattle.server_facts.specs.Asking.{AskingStands}
use Rattle.server_facts.specs.Calls.{BusyStands, CallsStand}
use Rattle.server_facts.specs.Shared.{HoldsWhereFit, SharedGrantsAreCounted, SharedStand}
use Rattle.server_facts.specs.Steps.{AlwaysHolds, BootHas, StepKeeps, after}
use Rattle.server_facts.proofs.AskingLaws.{none_stand}
use Rattle.server_facts.proofs.BusyLaws.{busy_so}
use Rattle.server_facts.proofs.CallLaws.{none_called}
use Rattle.server_facts.proofs.SharedLaws.{always_shared, none_shared}

-- what a server keeps of opens and requests
pub record Seen : Type 0 where
  pub table : versions.Files
  pub shadows : List Shadow
  pub unlinked : List FileId
  pub asking : List (FileId × Asked)
  pub waiting : List (FileId × Asked)
  pub callbacks : List (TxNo × CallOut)

abbrev pub seen : Server → Seen
seen s = record { table = s.versions.files; shadows = s.shadows; unlinked = s.unlinked; asking = s.asking; waiting = s.waiting; callbacks = s.callbacks }

abbrev pub nothing : Seen
nothing = record { table = []; shadows = []; unlinked = []; asking = []; waiting = []; callbacks = [] }

-- it begins so
none_kept : (serves : List Parts) → KeepsBoot serves (λ s. seen s ≡ nothing)
none_kept serves = record { hangs = λ s root tree is e h. h; makes = λ s at domain path tree there e h. h; writes = λ s file bytes there h. h; passes = λ s h. h }

pub begun : (c : Description) (kernel : ℕ) (s : Server) → boots c kernel ≡ Some s → seen s ≡ nothing
begun c kernel s e = server_begins c kernel (λ s. seen s ≡ nothing) (none_kept (serves_of c.kernels kernel)) s e refl

-- ---- from then on

pub always : (Fact : Server → Type 0) → StepKeeps Fact → (inputs : List (Input × TxNo)) (s : Server) → Fact s → Fact (after inputs s)
always Fact keeps [] s h = h
always Fact keeps (one ∷ rest) s h = always Fact keeps rest (server_step s one.0 one.1).0 (keeps s one.0 one.1 h)

pub from_boot : (Fact Said : Server → Type 0) → StepKeeps Fact → BootHas Fact → ((s : Server) → Fact s → Said s) → AlwaysHolds Said
from_boot Fact Said keeps has says c kernel first inputs e = says (after inputs first) (always Fact keeps inputs first (has c kernel first e))

pub boot_has_asking : BootHas AskingStands
boot_has_asking c kernel s e =
    let b : seen s ≡ nothing = begun c kernel s e in
    none_stand s (ap (λ (v : Seen). v.table) b) (ap (λ (v : Seen). v.asking) b) (ap (λ (v : Seen). v.waiting) b)

pub boot_has_calls : BootHas CallsStand
boot_has_calls c kernel s e =
    let b : seen s ≡ nothing = begun c kernel s e in
    none_called s (ap (λ (v : Seen). v.table) b) (ap (λ (v : Seen). v.callbacks) b)

pub boot_has_busy : BootHas BusyStands
boot_has_busy c kernel s e =
    let b : seen s ≡ nothing = begun c kernel s e in
    busy_so s (boot_has_asking c kernel s e) (boot_has_calls c kernel s e)
    (λ file busy. absurd (true≢false (sym busy ∙ ap (λ (v : Seen). tables.is_busy (versions.file_of v.table file)) b)))

pub boot_has_shared : BootHas SharedStand
boot_has_shared c kernel s e =
    let b : seen s ≡ nothing = begun c kernel s e in
    none_shared s (ap (λ (v : Seen). v.table) b) (ap (λ (v : Seen). v.shadows) b) (boot_has_asking c kernel s e)

pub shared_is_counted : HoldsWhereFit SharedGrantsAreCounted
shared_is_counted c kernel first inputs e fits = (always_shared inputs first fits (boot_has_shared c kernel first e)).counted
