-- Of each reached cluster: who has which call, and which are kept at servers; and what is left where it can't go on.
use Rattle.std.proofs.Common.{arith, ◌≡◌, ℕ, suc, ◌+◌, ◌-◌, ◌<◌, ◌≤◌, ◌⊎◌, inl, inr, ◌==◌, Bool, true, false, ◌&&◌, ◌||◌, List, [], ◌∷◌, ◌++◌, length, slice_get, Some, refl, sym, ap, ◌∙◌, subst, true≢false}
use Rattle.std.specs.List.{list_any}
use Rattle.sprite_ids.specs.declared.FileId.{FileId}
use Rattle.sprite_ids.specs.declared.TxNo.{TxNo}
use Rattle.sprite_ids.proofs.OnceLaws.{or_false}
use Rattle.sprite_paths.specs.declared.Path.{Path}
use Rattle.packet_bodies.specs.declared.Request.{Request}
use Rattle.packet_bodies.specs.declared.Request.TheVariants as requests
use Rattle.kernel_rpc.specs.declared.call.Call.{Call}
use Rattle.kernel_rpc.specs.declared.call.Part.TheVariants.{Holding}
use Rattle.kernel_rpc.specs.Machine.{Machine, call_of, idle, is_call, part_of}
use Rattle.kernel_rpc.specs.Sound.{Wired}
use Rattle.kernel_rpc.proofs.PartLaws.{eq_same}
use Rattle.kernel_rpc.proofs.SoundLaws.{found_sound}
use Rattle.kernel_steps.specs.Rows.{is_under}
use Rattle.unix_calls.specs.declared.Description.{Description}
use Rattle.unix_calls.specs.declared.KernelLine.{KernelLine}
use Rattle.unix_calls.specs.Lawful.{Lawful}
use Rattle.version_table.specs.Files.{is_set}
use Rattle.server_kernel.specs.declared.Asked.{Asked}
use Rattle.server_kernel.specs.declared.CallOut.{CallOut}
use Rattle.server_kernel.specs.declared.Server.{Server}
use Rattle.server_kernel.specs.Facts.{is_call_to}
use Rattle.server_kernel.specs.Files.{is_busy, kept_of}
use Rattle.server_kernel.specs.Waits.{is_about}
use Rattle.server_answers.specs.Servers.{IsKept}
use Rattle.kept_requests.specs.Kept.{KeepsSuch, has_answer, is_always_answered}
use Rattle.kept_requests.proofs.ServedLaws.{Rows}
use Rattle.kept_requests.proofs.StepLaws.{boot_keeps, kept_there, step_keeps}
use Rattle.cluster_kernels.specs.declared.KernelState.{KernelState}
use Rattle.cluster_kernels.specs.declared.KernelState.TheVariants as kernels
use Rattle.cluster_kernels.specs.declared.State.{State}
use Rattle.cluster_kernels.specs.Booted.{AreKernels, IsKernel}
use Rattle.cluster_kernels.specs.States.{kernel_at}
use Rattle.cluster_bursts.specs.Bursts.{job_at}
use Rattle.sprite_cluster.specs.Reached.{At, Reached}
use Rattle.sprite_cluster.specs.Steps.{begun_turn}
use Rattle.sprite_cluster.proofs.KernelLaws.{booted, one_at}
use Rattle.sprite_cluster.proofs.ReachedLaws.{Lasts, lasts_on}
use Rattle.reached_servers.specs.Servers.{FilesAreBusySo}
use Rattle.reached_servers.proofs.ServerLaws.{files_busy, servers_have}
use Rattle.reached_domains.specs.Domains.{asked_request}
use Rattle.reached_receivers.proofs.ReceiverLaws.{clients_take, requests_answered}
use Rattle.stall_laws.specs.Stalls.{AllCallsAreTaken, AllTakenAreKept, AllUnfinishedAreKept, GoesToServer, HasCall, IsWithOwner, KeepsNothing, NoCallIsLeftAtServers, NoCallbackNothingKept, NoneIsLeftAtServers, OwnersAloneHold, ServersKeepSuch, TakenAreKept, UnfinishedAreKept, asked_of}
use Rattle.stall_laws.proofs.CallLaws.{CallSo, Nobody}
use Rattle.stall_laws.proofs.ClientLaws.{client_begins}
use Rattle.stall_laws.proofs.KernelLaws.{CallKept, KeepsIt, KernelSo, NoHand, Wants, is_wanted}
use Rattle.stall_laws.proofs.ReceiverLaws.{held_found, holds_is}
use Rattle.stall_laws.proofs.StillLaws.{stuck_taken}
use Rattle.stall_laws.proofs.TurnLaws.{AreTakenOn, Stands, asks_so, begun_stands, ended, happened, told}

-- ---- the boot

kernel_begins : (wants : Wants) (c : Description) (serves : List Path) (kernel : ℕ) (state : KernelState) → IsKernel c kernel serves state → KernelSo wants NoHand idle kernel state
kernel_begins wants c [] kernel state e = subst (KernelSo wants NoHand idle kernel) (sym e) (record { such = client_begins c kernel; kept = tt })
kernel_begins wants c (path ∷ paths) kernel (kernels.Server made) e = record { such = boot_keeps c kernel made e; kept = tt }
kernel_begins wants c (path ∷ paths) kernel (kernels.Client made) e = absurd e

as_many : (c : Description) (lines : List KernelLine) (states : List KernelState) (kernel : ℕ) → AreKernels c kernel lines states → length states ≡ length lines
as_many c [] [] kernel e = refl
as_many c (line ∷ lines) (state ∷ states) kernel e = ap (λ n. suc n) (as_many c lines states (kernel + 1) e.1)
as_many c [] (state ∷ states) kernel e = absurd e
as_many c (line ∷ lines) [] kernel e = absurd e

-- ---- each change

module _ {L : Type 0} (faults asked : L → ℕ → ℕ → ℕ) (wants : Wants) (c : Description) (begun : L) (takes : (old : At L) → Reached faults asked c begun old → AreTakenOn wants old.wire.machine old.state) where
  stands_last : Lasts faults asked c begun (λ (at : At L). Stands wants c at.wire.machine at.state)
  stands_last = record {
    begins = λ first b. subst (λ (machine : Machine). Stands wants c machine first.state) (sym b.idles)
        (record { ordered = omega arith; calls = tt; kernels = booted (KernelSo wants NoHand idle) c (kernel_begins wants c) c.kernels first.state.kernels 1 b.boots.kernels_are; many = as_many c c.kernels first.state.kernels 1 b.boots.kernels_are });
    chose = λ kernel choice old now reached goes h. told wants c Nobody NoHand now.wire.machine goes.changes.turn now.state (ap (λ (s : State). s.kernels) goes.changes.stands)
        (happened wants c faults asked kernel goes.low choice old.wire now.wire (begun_turn old.state) goes.changes.turn (takes old reached) goes.changes.happens (told wants c Nobody NoHand old.wire.machine old.state (begun_turn old.state) refl h));
    began = λ kernel old now reached goes h. subst (Stands wants c now.wire.machine) (sym goes.changes.begun)
        (begun_stands wants c (job_at c kernel old.state) now.wire.machine kernel old.state (subst (λ (wire : Wired L). Stands wants c wire.machine old.state) (sym goes.changes.same_wire) h));
    took = λ kernel b old now reached goes h. told wants c Nobody NoHand now.wire.machine goes.changes.turn now.state (ap (λ (s : State). s.kernels) goes.changes.stands)
        (ended wants c faults asked kernel goes.low goes.changes.ends.what b old.wire now.wire (begun_turn old.state) goes.changes.turn goes.changes.ends.ends (told wants c Nobody NoHand old.wire.machine old.state (begun_turn old.state) refl h));
    lost = λ kernel b old now reached goes h.
        ended wants c faults asked kernel goes.low goes.changes.ends.what b old.wire now.wire (begun_turn old.state) now.state goes.changes.ends.ends (told wants c Nobody NoHand old.wire.machine old.state (begun_turn old.state) refl h);
  }

  pub all_stand : (now : At L) → Reached faults asked c begun now → Stands wants c now.wire.machine now.state
  all_stand now reached = lasts_on faults asked c begun (λ (at : At L). Stands wants c at.wire.machine at.state) now stands_last reached

  -- what a kernel has is kept there
  pub kept_call : (now : At L) (tx : TxNo) (call : Call) (state : KernelState) (body : Request) → Reached faults asked c begun now → call_of now.wire.machine tx ≡ Some call → 1 ≤ call.owner → part_of call.owner call.receivers ≡ Some Holding
      → kernel_at call.owner now.state ≡ Some state → asked_request call.body ≡ Some body → is_wanted wants state body ≡ true → KeepsIt state (asked_of call body)
  kept_call now tx call state body reached unfinished low taken there asks wanted =
      let so : KernelSo wants NoHand now.wire.machine call.owner state = one_at (KernelSo wants NoHand now.wire.machine) call.owner state now.state.kernels low (all_stand now reached).kernels there in
      let kept : CallKept wants NoHand call.owner state call = found_sound (CallKept wants NoHand call.owner state) (is_call tx) call now.wire.machine.unfinished unfinished so.kept in
      by (kept body refl (holds_is (part_of call.owner call.receivers) taken) asks wanted)
    where
      by : KeepsIt state (asked_of call body) ⊎ ⊥ → KeepsIt state (asked_of call body)
      by (inl keeps) = keeps
      by (inr none) = absurd none

-- ---- what is wanted

-- nothing, what servers have an answer to whatever they have and all at clients, all
abbrev pub nothing : Wants
nothing = record { at_servers = λ body. false; at_clients = λ body. false }

abbrev pub whatever : Wants
whatever = record { at_servers = is_always_answered; at_clients = λ body. true }

abbrev pub everything : Wants
everything = record { at_servers = λ body. true; at_clients = λ body. true }

always_answers : (body : Request) (server : Server) → is_always_answered body ≡ true → has_answer server body ≡ true
always_answers (requests.Prefix path) server e = absurd (cc)
always_answers (requests.PageIn pid page) server e = absurd (cc)
always_answers body server e = e

pub nothing_wanted : (machine : Machine) (s : State) → AreTakenOn nothing machine s
nothing_wanted machine s tx call (kernels.Server server) body found there asks wanted can = absurd (cc)
nothing_wanted machine s tx call (kernels.Client client) body found there asks wanted can = absurd (cc)

module _ {L : Type 0} (faults asked : L → ℕ → ℕ → ℕ) (c : Description) (begun : L) where
  pub whatever_is : (old : At L) → Reached faults asked c begun old → AreTakenOn whatever old.wire.machine old.state
  whatever_is old past tx call (kernels.Server server) body found there asks wanted can = always_answers body server wanted
  whatever_is old past tx call (kernels.Client client) body found there asks wanted can = clients_take faults asked c begun old tx call client body past found there asks can

  everything_is : Lawful c → (old : At L) → Reached faults asked c begun old → AreTakenOn everything old.wire.machine old.state
  everything_is lawful old past tx call (kernels.Server server) body found there asks wanted can = requests_answered faults asked c begun old tx call server body lawful past found there asks can
  everything_is lawful old past tx call (kernels.Client client) body found there asks wanted can = clients_take faults asked c begun old tx call client body past found there asks can

-- ---- the laws

-- each unfinished call
pub call_so : {L : Type 0} (faults asked : L → ℕ → ℕ → ℕ) (c : Description) (begun : L) (now : At L) (tx : TxNo) (call : Call) → Reached faults asked c begun now → call_of now.wire.machine tx ≡ Some call → CallSo c Nobody call
call_so {L} faults asked c begun now tx call reached e =
    let h : Stands nothing c now.wire.machine now.state = all_stand faults asked nothing c begun (λ old past. nothing_wanted old.wire.machine old.state) now reached in
    found_sound (CallSo c Nobody) (is_call tx) call now.wire.machine.unfinished e h.calls

pub owners_hold : {L : Type 0} (faults asked : L → ℕ → ℕ → ℕ) → OwnersAloneHold faults asked
owners_hold faults asked c begun now tx call kernel reached e holding =
    let k : CallSo c Nobody call = call_so faults asked c begun now tx call reached e in
    by (held_found (λ n. (n ≡ call.owner) ⊎ Nobody call.tx call.body n) kernel call.receivers k.held holding)
  where
    by : (kernel ≡ call.owner) ⊎ Nobody call.tx call.body kernel → kernel ≡ call.owner
    by (inl same) = same
    by (inr none) = absurd none

pub keep_such : {L : Type 0} (faults asked : L → ℕ → ℕ → ℕ) → ServersKeepSuch faults asked
keep_such faults asked = servers_have faults asked KeepsSuch step_keeps boot_keeps

pub taken_kept : {L : Type 0} (faults asked : L → ℕ → ℕ → ℕ) → TakenAreKept faults asked
taken_kept faults asked c begun now tx call server body reached has always =
    kept_there server (asked_of call body)
    (kept_call faults asked whatever c begun (whatever_is faults asked c begun) now tx call (kernels.Server server) body reached has.unfinished has.numbered has.taken has.there has.asks always)

pub all_kept : {L : Type 0} (faults asked : L → ℕ → ℕ → ℕ) → AllTakenAreKept faults asked
all_kept faults asked c begun now tx call server body lawful reached has =
    kept_there server (asked_of call body)
    (kept_call faults asked everything c begun (everything_is faults asked c begun lawful) now tx call (kernels.Server server) body reached has.unfinished has.numbered has.taken has.there has.asks refl)

pub all_taken : {L : Type 0} (faults asked : L → ℕ → ℕ → ℕ) → AllCallsAreTaken faults asked
all_taken faults asked c begun now tx call reached stuck e = stuck_taken c now.wire.machine now.state tx call stuck (call_so faults asked c begun now tx call reached e) e

-- ---- without callbacks

no_marks : (marks : List Bool) → ((i : ℕ) → is_set (slice_get marks i) ≡ false) → list_any (λ mark. mark) marks ≡ false
no_marks [] none = refl
no_marks (mark ∷ marks) none = by mark (none 0) (no_marks marks (λ i. none (suc i)))
  where
    by : (b : Bool) → b ≡ false → list_any (λ mark. mark) marks ≡ false → (b || list_any (λ mark. mark) marks) ≡ false
    by true is later = absurd (cc)
    by false is later = later

itself : (file : FileId) → is_about file file ≡ true
itself file = ap (λ b. b && (file.number == file.number)) (eq_same file.server) ∙ eq_same file.number

no_rows : (rows : Rows) → ((file : FileId) → list_any (is_under is_about file) rows ≡ false) → rows ≡ []
no_rows [] none = refl
no_rows (row ∷ rows) none = absurd (true≢false (sym (itself row.0) ∙ (or_false (is_about row.0 row.0) (list_any (is_under is_about row.0) rows) (none row.0)).0))

pub quiet_keeps_nothing : (s : Server) → FilesAreBusySo s → s.callbacks ≡ [] → KeepsNothing s
quiet_keeps_nothing s h none = record {
  free = free;
  asking = no_rows s.asking (λ file. sym (h.kept file) ∙ free file);
  waiting = no_rows s.waiting (λ file. h.waited file (free file));
}
  where
    free : (file : FileId) → is_busy file s ≡ false
    free file =
        h.called file ∙ no_marks (kept_of file s).out
        (λ i. let back : i ≡ suc i - 1 = omega arith in let high : 0 < suc i = omega arith in
        ap (λ n. is_set (slice_get (kept_of file s).out n)) back ∙ (h.out file (suc i) high ∙ ap (λ (rows : List (TxNo × CallOut)). list_any (is_call_to file (suc i)) rows) none))

pub none_kept : {L : Type 0} (faults asked : L → ℕ → ℕ → ℕ) → NoCallbackNothingKept faults asked
none_kept faults asked c begun now kernel server reached e none = quiet_keeps_nothing server (files_busy faults asked c begun now kernel server reached e) none

-- nothing is kept there
pub not_kept : (server : Server) (request : Asked) → KeepsNothing server → IsKept server request → ⊥
not_kept server request none kept =
    let empty : server.asking ++ server.waiting ≡ [] = ap (λ (rows : Rows). rows ++ server.waiting) none.asking ∙ none.waiting in
    nothing kept.at (kept.file, request) (sym (ap (λ (rows : Rows). slice_get rows kept.at) empty) ∙ kept.there)
  where
    nothing : (at : ℕ) (row : FileId × Asked) → slice_get [] at ≡ Some row → ⊥
    nothing at row e = absurd (cc)

-- the server has the call
has_call : {L : Type 0} (now : At L) (tx : TxNo) (call : Call) (server : Server) (body : Request) → GoesToServer now tx call server → IsWithOwner call → asked_request call.body ≡ Some body → HasCall now tx call server body
has_call now tx call server body goes is asks = record { unfinished = goes.unfinished; numbered = goes.numbered; taken = is.taken; there = goes.there; asks = asks }

pub unfinished_kept : {L : Type 0} (faults asked : L → ℕ → ℕ → ℕ) → UnfinishedAreKept faults asked
unfinished_kept faults asked c begun now tx call server body reached stuck goes asks always =
    taken_kept faults asked c begun now tx call server body reached (has_call now tx call server body goes (all_taken faults asked c begun now tx call reached stuck goes.unfinished) asks) always

pub all_unfinished_kept : {L : Type 0} (faults asked : L → ℕ → ℕ → ℕ) → AllUnfinishedAreKept faults asked
all_unfinished_kept faults asked c begun now tx call server body lawful reached stuck goes asks =
    all_kept faults asked c begun now tx call server body lawful reached (has_call now tx call server body goes (all_taken faults asked c begun now tx call reached stuck goes.unfinished) asks)

pub none_left : {L : Type 0} (faults asked : L → ℕ → ℕ → ℕ) → NoneIsLeftAtServers faults asked
none_left {L} faults asked c begun now tx call server body reached stuck goes none asks = by (is_always_answered body) refl
  where
    by : (b : Bool) → is_always_answered body ≡ b → is_always_answered body ≡ false
    by true always =
        absurd (not_kept server (asked_of call body) (none_kept faults asked c begun now call.owner server reached goes.there none)
        (unfinished_kept faults asked c begun now tx call server body reached stuck goes asks always))
    by false off = off

pub no_call_left : {L : Type 0} (faults asked : L → ℕ → ℕ → ℕ) → NoCallIsLeftAtServers faults asked
no_call_left faults asked c begun now tx call server lawful reached stuck goes none =
    let k : CallSo c Nobody call = call_so faults asked c begun now tx call reached goes.unfinished in
    not_kept server (asked_of call k.request) (none_kept faults asked c begun now call.owner server reached goes.there none)
    (all_unfinished_kept faults asked c begun now tx call server k.request lawful reached stuck goes (asks_so c Nobody call k))
