-- No more packets meet a fault than go out.
use Rattle.std.proofs.Common.{arith, ◌≡◌, ℕ, ◌+◌, ◌==◌, Bool, true, ◌&&◌, ◌||◌, [], ◌∷◌, ◌++◌, sym, ap, subst, ◌∙◌}
use Rattle.std.proofs.lemmas.Bool.{le-leb}
use Rattle.kernel_rpc.proofs.PartLaws.{both_true, eq_same}
use Rattle.unix_calls.specs.declared.Event.TheVariants as events
use Rattle.unix_calls.specs.declared.Rec.{Rec}
use Rattle.call_journal.specs.Matching.{is_pair}
use Rattle.call_journal.specs.WorthPackets.{packets}
use Rattle.cluster_wire.specs.Ran.{told_of}
use Rattle.cluster_wire_laws.specs.Links.{all_told_by, of_link}
use Rattle.cluster_wire_laws.proofs.LinkLaws.{link_on}
use Rattle.kernel_rpc.specs.Machine.{idle}
use Rattle.packet_laws.specs.Expiries.{OfRuns}
use Rattle.packet_laws.specs.Faults.{EachFaultHasPacket}
use Rattle.packet_laws.proofs.BareLaws.{faults_link, packets_link}
use Rattle.packet_laws.proofs.CreditLaws.{Well, faults_in, few_at}
use Rattle.packet_laws.proofs.PaidLaws.{paid}

pub pair_same : (a b : ℕ) → is_pair a b a b ≡ true
pair_same a b = ap (λ (x : Bool). x || ((a == b) && (b == a))) (both_true (a == a) (b == b) (eq_same a) (eq_same b))

pub has_packet_for_each : OfRuns EachFaultHasPacket
has_packet_for_each first steps trace run told fires past rest kernel a b met written =
    let r : Rec = record { kernel = kernel; event = events.Fault a b met } in
    let all : told_of all_told_by idle steps ≡ of_link past.records ++ r ∷ of_link rest = sym told ∙ ap of_link written ∙ link_on past.records (r ∷ rest) in
    let well = subst (Well a b []) all (paid a b steps first run) in
    let few = few_at a b (of_link past.records) (of_link rest) [] r well (pair_same a b) in
    let faults = faults_link a b past.records in
    let out = packets_link a b past.records in
    le-leb (faults_in a b past.records + 1) (packets a b past.records) (omega arith)
