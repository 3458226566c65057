-- Each record that a timer fired stands behind the loss of a packet.
use Rattle.std.proofs.Common.{◌≡◌, ℕ, Bool, false, true, List, [], ◌∷◌, ◌++◌, Option, Some, sym, ap, subst, ◌∙◌}
use Rattle.std.specs.List.{list_any}
use Rattle.sprite_ids.specs.declared.TxNo.{TxNo}
use Rattle.link_plan.specs.declared.Fate.{Fate}
use Rattle.kernel_rpc.specs.declared.Call.{Call}
use Rattle.kernel_rpc.specs.Histories.{reached}
use Rattle.kernel_rpc.specs.Machine.{Machine, call_of, idle, is_last, may_expire}
use Rattle.kernel_rpc.specs.Runs.{Act, Expire, Counts, IsRun, after}
use Rattle.kernel_rpc.proofs.BeginLaws.{may_expire_due}
use Rattle.unix_calls.specs.declared.Event.{Event}
use Rattle.unix_calls.specs.declared.Event.TheVariants as events
use Rattle.unix_calls.specs.declared.Rec.{Rec}
use Rattle.call_journal.specs.Matching.{has_event}
use Rattle.call_journal.specs.WorthPackets.{behind_last_sending, is_loss_of}
use Rattle.cluster_wire.specs.Ran.{told_of}
use Rattle.cluster_wire_laws.specs.Links.{all_told_by, fired_told, of_link}
use Rattle.cluster_wire_laws.proofs.LinkLaws.{all_join, link_on}
use Rattle.packet_laws.specs.Expiries.{EachHasLoss, OfRuns}
use Rattle.packet_laws.proofs.BareLaws.{loss_link}
use Rattle.packet_laws.proofs.LossLaws.{loss_told}

-- the front of a run is one
pub run_front : (done rest : List (Act × Counts)) (machine : Machine) (counts : Counts) → IsRun machine counts (done ++ rest) → IsRun machine counts done
run_front [] rest machine counts run = tt
run_front (step ∷ done) rest machine counts run = (run.0, run_front done rest (after machine step.0) step.1 run.1)

-- where a timer fires, it may
pub may_there : (done rest : List (Act × Counts)) (tx : TxNo) (sent : List (ℕ × Fate)) (new : Counts) (machine : Machine) (counts : Counts) → IsRun machine counts (done ++ (Expire tx sent, new) ∷ rest) → may_expire (reached machine done) tx ≡ true
may_there [] rest tx sent new machine counts run = run.0.0
may_there (step ∷ done) rest tx sent new machine counts run = may_there done rest tx sent new (after machine step.0) step.1 run.1

abbrev behind : List Rec → List Rec
behind [] = []
behind (r ∷ rs) = rs

abbrev kernel_first : ℕ → List Rec → ℕ
kernel_first n [] = n
kernel_first n (r ∷ rs) = r.kernel

abbrev last_in : Event → Bool
last_in (events.Expire tx last) = last
last_in e = false

abbrev last_first : List Rec → Bool
last_first [] = false
last_first (r ∷ rs) = last_in r.event

same_rest : (xs ys zs : List Rec) → xs ++ ys ≡ xs ++ zs → ys ≡ zs
same_rest [] ys zs is = is
same_rest (x ∷ xs) ys zs is = same_rest xs ys zs (ap behind is)

-- its record is by the kernel that began the call, and tells whether it is the last time
pub fired_at : (trace before rest : List Rec) (kernel : ℕ) (tx : TxNo) (last : Bool) (steps done later : List (Act × Counts)) (sent : List (ℕ × Fate)) (counts : Counts) (call : Call) → of_link trace ≡ told_of all_told_by idle steps → trace ≡ before ++ record { kernel = kernel; event = events.Expire tx last } ∷ rest → steps ≡ done ++ (Expire tx sent, counts) ∷ later → of_link before ≡ told_of all_told_by idle done → call_of (reached idle done) tx ≡ Some call → (kernel ≡ call.from) × (last ≡ is_last call)
fired_at trace before rest kernel tx last steps done later sent counts call all written split told found =
    let r : Rec = record { kernel = kernel; event = events.Expire tx last } in
    let next = after (reached idle done) (Expire tx sent) in
    let same = same_rest (told_of all_told_by idle done) (r ∷ of_link rest) (fired_told tx sent (Some call) ++ told_of all_told_by next later)
    (ap (λ (xs : List Rec). xs ++ r ∷ of_link rest) (sym told)
    ∙ sym (link_on before (r ∷ rest))
    ∙ ap of_link (sym written)
    ∙ all
    ∙ ap (told_of all_told_by idle) split
    ∙ all_join done ((Expire tx sent, counts) ∷ later) idle
    ∙ ap (λ (o : Option Call). told_of all_told_by idle done ++ (fired_told tx sent o ++ told_of all_told_by next later)) found) in
    (ap (kernel_first kernel) same, ap last_first same)

pub has_loss_before : OfRuns EachHasLoss
has_loss_before first steps trace run told fires past rest kernel tx last written =
    let at = fires past.records rest kernel tx last written in
    let later = (Expire tx at.sent, at.counts) ∷ at.rest in
    let split_run : IsRun idle first (at.done ++ (Expire tx at.sent, at.counts) ∷ at.rest) = subst (IsRun idle first) at.split run in
    let due = may_expire_due (reached idle at.done).copies (call_of (reached idle at.done) tx) (may_there at.done at.rest tx at.sent at.counts idle first split_run) in
    let call = due.0 in
    let lost = loss_told at.done first tx call (run_front at.done ((Expire tx at.sent, at.counts) ∷ at.rest) idle first split_run) due.1 at.lost in
    let linked = subst (λ (records : List Rec). list_any (has_event (is_loss_of tx.0 records)) (behind_last_sending call.from tx.0 records) ≡ true) (sym at.told) lost in
    let by = fired_at trace past.records rest kernel tx last steps at.done at.rest at.sent at.counts call told written at.split at.told due.1 in
    subst (λ (n : ℕ). list_any (has_event (is_loss_of tx.0 past.records)) (behind_last_sending n tx.0 past.records) ≡ true) (sym by.0) (sym (loss_link call.from tx.0 past.records) ∙ linked)
