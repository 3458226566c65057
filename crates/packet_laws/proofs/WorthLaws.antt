-- Each record that tells of packets and timers is as it should be, as far as that doesn't look at what a request is for.
use Rattle.std.proofs.Common.{◌≡◌, ℕ, ◌==◌, Bool, true, false, List, [], ◌∷◌, ◌++◌, count_by, refl, sym, ap, ◌∙◌, append_assoc}
use Rattle.kernel_rpc.proofs.PartLaws.{both_true}
use Rattle.kernel_rpc.specs.Machine.{idle}
use Rattle.kernel_rpc.specs.Runs.{Act, Counts, IsRun}
use Rattle.unix_calls.specs.declared.Description.{Description}
use Rattle.unix_calls.specs.declared.Event.{Event}
use Rattle.unix_calls.specs.declared.Event.TheVariants as events
use Rattle.unix_calls.specs.declared.Rec.{Rec}
use Rattle.call_journal.specs.Matching.{is_at, is_expire}
use Rattle.call_journal.specs.Past.{Past as Before, each_from, no_past, past_with}
use Rattle.call_journal.specs.WorthPackets.{has_loss}
use Rattle.cluster_wire.specs.Ran.{told_of}
use Rattle.cluster_wire_laws.specs.Links.{all_told_by, of_link}
use Rattle.packet_laws.specs.Expiries.{FiresEach, OfRuns}
use Rattle.packet_laws.specs.Worth.{AllGoWell, goes_well}
use Rattle.packet_laws.proofs.DeliverLaws.{was_sent_for_each}
use Rattle.packet_laws.proofs.EighthLaws.{last_is_eighth}
use Rattle.packet_laws.proofs.ExpiryLaws.{has_loss_before}
use Rattle.packet_laws.proofs.FaultLaws.{has_packet_for_each}

-- a test that each record meets, behind any past that is what stands before it
each_at : (c : Description) (test : Before → Rec → List Rec → Bool) (trace : List Rec) → ((past : Before) (r : Rec) (rest : List Rec) → trace ≡ past.records ++ r ∷ rest → test past r rest ≡ true) → (rest : List Rec) (past : Before) → trace ≡ past.records ++ rest → each_from c test past rest ≡ true
each_at c test trace meets [] past is = refl
each_at c test trace meets (r ∷ rest) past is = both_true (test past r rest) (each_from c test (past_with c r past) rest) (meets past r rest is) (each_at c test trace meets rest (past_with c r past) (is ∙ sym (append_assoc past.records (r ∷ []) rest)))

well_at : (first : Counts) (steps : List (Act × Counts)) (trace : List Rec) → IsRun idle first steps → of_link trace ≡ told_of all_told_by idle steps → FiresEach steps trace → (past : Before) (rest : List Rec) (kernel : ℕ) (e : Event) → trace ≡ past.records ++ record { kernel = kernel; event = e } ∷ rest → goes_well past kernel e ≡ true
well_at first steps trace run told fires past rest kernel (events.Expire tx true) is = both_true (has_loss past kernel tx.0) (count_by (is_at kernel (is_expire tx.0)) past.records == 7) (has_loss_before first steps trace run told fires past rest kernel tx true is) (ap (λ (n : ℕ). n == 7) (last_is_eighth first steps trace run told fires past rest kernel tx is))
well_at first steps trace run told fires past rest kernel (events.Expire tx false) is = both_true (has_loss past kernel tx.0) true (has_loss_before first steps trace run told fires past rest kernel tx false is) refl
well_at first steps trace run told fires past rest kernel (events.Fault a b met) is = has_packet_for_each first steps trace run told fires past rest kernel a b met is
well_at first steps trace run told fires past rest kernel (events.Deliver tx from reply about) is = was_sent_for_each first steps trace run told fires past rest kernel tx from reply about is
well_at first steps trace run told fires past rest kernel e is = refl

pub all_go_well : OfRuns AllGoWell
all_go_well first steps trace run told fires c = each_at c (λ past r rest. goes_well past r.kernel r.event) trace (λ past r rest is. well_at first steps trace run told fires past rest r.kernel r.event is) trace (no_past c) refl
