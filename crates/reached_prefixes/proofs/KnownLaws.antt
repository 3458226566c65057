-- What each kernel of a reached cluster knows is what it learned; so a prefix is asked for only until it is learned.
use Rattle.std.proofs.Common.{◌≡◌, ℕ, zero, suc, ◌+◌, ◌-◌, ◌≤◌, ◌==◌, Bool, true, false, List, [], ◌∷◌, ◌++◌, Some, slice_get, refl, sym, ap, ◌∙◌, subst}
use Rattle.std.proofs.lemmas.Bool.{eq-eqb, eqb-true}
use Rattle.std.specs.List.{AllByRecursion}
use Rattle.sprite_ids.proofs.ListLaws.{each_append}
use Rattle.sprite_paths.specs.declared.Path.{Path}
use Rattle.unix_calls.specs.declared.Description.{Description}
use Rattle.unix_calls.specs.declared.Event.{Event}
use Rattle.unix_calls.specs.declared.KernelLine.{KernelLine}
use Rattle.unix_calls.specs.declared.Rec.{Rec}
use Rattle.call_journal.specs.Past.{no_past}
use Rattle.call_journal.specs.PrefixBroadcasts.{broadcasts_well}
use Rattle.prefix_table.specs.declared.prefixes.Domain.{Domain}
use Rattle.prefix_table.specs.Prefixes.{knows}
use Rattle.call_journal.specs.Journal.{records_by}
use Rattle.cluster_kernels.specs.declared.KernelState.{KernelState}
use Rattle.cluster_kernels.specs.declared.KernelState.TheVariants as kernels
use Rattle.cluster_kernels.specs.declared.State.{State}
use Rattle.cluster_kernels.specs.Booted.{AreKernels, IsKernel}
use Rattle.cluster_kernels.specs.States.{client_in}
use Rattle.cluster_bursts.specs.declared.BurstOutcome.{BurstOutcome}
use Rattle.cluster_bursts.specs.declared.BurstOutcome.TheVariants as outcome
use Rattle.cluster_bursts.specs.Bursts.{has_counted, job_at}
use Rattle.sprite_cluster.specs.Reached.{At, Reached}
use Rattle.sprite_cluster.specs.Steps.{begun_turn}
use Rattle.sprite_cluster.proofs.ReachedLaws.{Lasts, lasts_on}
use Rattle.prefix_laws.specs.Prefixes.{LearnsSo}
use Rattle.prefix_laws.proofs.LearnLaws.{clients_begin}
use Rattle.prefix_laws.proofs.TellsLaws.{learns_joined, learns_nothing}
use Rattle.reached_prefixes.specs.Known.{BroadcastUntilLearned, KernelsKnowWhatTheyLearned, KnownAreTold, LearnedOnce, RowsAreLearned, is_learned_first, known_at, known_in, told_by}
use Rattle.reached_prefixes.proofs.TraceLaws.{broadcast_well, each_meets, known_told, learned_first, told_other_more, told_own_more}
use Rattle.reached_prefixes.proofs.TurnLaws.{Turned, begun_same, burst_turns, choice_turns, lost_same}

-- what each kernel knows is what its records tell; and each record is by a kernel
record Knows (s : State) (trace : List Rec) : Type 0 where
  each : (kernel : ℕ) → 1 ≤ kernel → LearnsSo [] (known_at kernel s) (told_by kernel trace)
  low : AllByRecursion (λ (rec : Rec). 1 ≤ rec.kernel) trace

-- the boot

booted_one : (serves : List Path) (c : Description) (kernel : ℕ) (state : KernelState) → IsKernel c kernel serves state → known_in (client_in (Some state)) ≡ []
booted_one [] c kernel state e = ap (λ (k : KernelState). known_in (client_in (Some k))) e ∙ clients_begin c kernel
booted_one (path ∷ paths) c kernel (kernels.Server made) e = refl
booted_one (path ∷ paths) c kernel (kernels.Client made) e = absurd e

booted : (lines : List KernelLine) (states : List KernelState) (c : Description) (kernel i : ℕ) → AreKernels c kernel lines states → known_in (client_in (slice_get states i)) ≡ []
booted [] [] c kernel i e = refl
booted (line ∷ lines) (state ∷ states) c kernel zero e = booted_one line.serves c kernel state e.0
booted (line ∷ lines) (state ∷ states) c kernel (suc i) e = booted lines states c (kernel + 1) i e.1
booted [] (state ∷ states) c kernel i e = absurd e
booted (line ∷ lines) [] c kernel i e = absurd e

-- a turn

by_kernel : (kernel : ℕ) (told : List Event) → 1 ≤ kernel → AllByRecursion (λ (rec : Rec). 1 ≤ rec.kernel) (records_by kernel told)
by_kernel kernel [] low = tt
by_kernel kernel (event ∷ told) low = (low, by_kernel kernel told low)

own_grows : (kernel : ℕ) (s turn : State) (old : List Rec) → LearnsSo [] (known_at kernel s) (told_by kernel old) → Turned kernel s turn → LearnsSo [] (known_at kernel turn) (told_by kernel (old ++ records_by kernel turn.told))
own_grows kernel s turn old h t = subst (λ (told : List Event). LearnsSo [] (known_at kernel turn) told) (sym (told_own_more old turn.told kernel)) (learns_joined [] (known_at kernel s) (known_at kernel turn) (told_by kernel old) turn.told h t.own)

other_stays : (by kernel : ℕ) (s turn : State) (old : List Rec) → (by == kernel) ≡ false → known_at kernel turn ≡ known_at kernel s → LearnsSo [] (known_at kernel s) (told_by kernel old) → LearnsSo [] (known_at kernel turn) (told_by kernel (old ++ records_by by turn.told))
other_stays by kernel s turn old apart same h =
    subst (λ (told : List Event). LearnsSo [] (known_at kernel turn) told) (sym (told_other_more old turn.told by kernel apart)) (subst (λ (ds : List Domain). LearnsSo [] ds (told_by kernel old)) (sym same) h)

apart_of : (a b : ℕ) → (a == b) ≡ false → b ≡ a → ⊥
apart_of a b e same = absurd (let here : (a == b) ≡ true = eq-eqb a b (sym same) in cc)

each_by : (b : Bool) (by kernel : ℕ) (s turn : State) (old : List Rec) → (by == kernel) ≡ b → 1 ≤ kernel → LearnsSo [] (known_at kernel s) (told_by kernel old) → Turned by s turn → LearnsSo [] (known_at kernel turn) (told_by kernel (old ++ records_by by turn.told))
each_by true by kernel s turn old e low h t =
    subst (λ (n : ℕ). LearnsSo [] (known_at n turn) (told_by n (old ++ records_by by turn.told))) (eqb-true by kernel e)
    (own_grows by s turn old (subst (λ (n : ℕ). LearnsSo [] (known_at n s) (told_by n old)) (sym (eqb-true by kernel e)) h) t)
each_by false by kernel s turn old e low h t = other_stays by kernel s turn old e (t.others kernel low (apart_of by kernel e)) h

turn_knows : (by : ℕ) (s turn : State) (old : List Rec) → 1 ≤ by → Turned by s turn → Knows s old → Knows turn (old ++ records_by by turn.told)
turn_knows by s turn old low t k = record {
  each = λ kernel here. each_by (by == kernel) by kernel s turn old refl here (k.each kernel here) t;
  low = each_append (λ (rec : Rec). 1 ≤ rec.kernel) old (records_by by turn.told) k.low (by_kernel by turn.told low);
}

told_turn : (by : ℕ) (s turn now : State) (old new : List Rec) → 1 ≤ by → Turned by s turn → now ≡ begun_turn turn → new ≡ old ++ records_by by turn.told → Knows s old → Knows now new
told_turn by s turn now old new low t stands written k =
    let knows' : Knows turn (old ++ records_by by turn.told) = turn_knows by s turn old low t k in
    subst (λ (u : State). Knows u new) (sym stands) (subst (λ (trace : List Rec). Knows (begun_turn turn) trace) (sym written) (record { each = knows'.each; low = knows'.low }))

-- a change that tells nothing
same_known : (s now : State) (old new : List Rec) → ((kernel : ℕ) → known_at kernel now ≡ known_at kernel s) → new ≡ old → Knows s old → Knows now new
same_known s now old new same written k = subst (λ (trace : List Rec). Knows now trace) (sym written) (record {
  each = λ kernel here. subst (λ (ds : List Domain). LearnsSo [] ds (told_by kernel old)) (sym (same kernel)) (k.each kernel here);
  low = k.low;
})

pub not_counted : (what : BurstOutcome) → false ≡ has_counted what → what ≡ outcome.Stale
not_counted outcome.Stale e = refl
not_counted outcome.Done e = absurd (cc)
not_counted (outcome.Took said) e = absurd (cc)

knows_last : {L : Type 0} (faults asked : L → ℕ → ℕ → ℕ) (c : Description) (begun : L) → Lasts faults asked c begun (λ (at : At L). Knows at.state at.trace)
knows_last {L} faults asked c begun = record {
  begins = λ first b. record {
    each = λ kernel low. subst (λ (trace : List Rec). LearnsSo [] (known_at kernel first.state) (told_by kernel trace)) (sym b.none) (subst (λ (ds : List Domain). LearnsSo [] ds []) (sym (booted c.kernels first.state.kernels c 1 (kernel - 1) b.boots.kernels_are)) (learns_nothing []));
    low = subst (AllByRecursion (λ (rec : Rec). 1 ≤ rec.kernel)) (sym b.none) tt;
  };
  chose = λ kernel choice old now reached goes k. told_turn kernel old.state goes.changes.turn now.state old.trace now.trace goes.low (choice_turns kernel goes.low old.state faults asked c choice old.wire now.wire goes.changes.turn goes.changes.happens) goes.changes.stands goes.changes.written k;
  began = λ kernel old now reached goes k. same_known old.state now.state old.trace now.trace (λ other. ap (known_at other) goes.changes.begun ∙ begun_same (job_at c kernel old.state) kernel other old.state) goes.changes.not_written k;
  took = λ kernel b old now reached goes k. told_turn kernel old.state goes.changes.turn now.state old.trace now.trace goes.low (burst_turns kernel goes.low old.state faults asked c goes.changes.ends.what b old.wire now.wire goes.changes.turn goes.changes.ends.ends) goes.changes.stands goes.changes.written k;
  lost = λ kernel b old now reached goes k. same_known old.state now.state old.trace now.trace (λ other. lost_same goes.changes.ends.what faults asked c kernel other b old.wire now.wire (begun_turn old.state) now.state (not_counted goes.changes.ends.what goes.changes.ends.is_counted) goes.changes.ends.ends) goes.changes.not_written k;
}

all_know : {L : Type 0} (faults asked : L → ℕ → ℕ → ℕ) (c : Description) (begun : L) (now : At L) → Reached faults asked c begun now → Knows now.state now.trace
all_know {L} faults asked c begun now reached = lasts_on faults asked c begun (λ (at : At L). Knows at.state at.trace) now (knows_last faults asked c begun) reached

pub kernels_know : {L : Type 0} (faults asked : L → ℕ → ℕ → ℕ) → KernelsKnowWhatTheyLearned faults asked
kernels_know faults asked c begun now kernel low reached = (all_know faults asked c begun now reached).each kernel low

pub rows_learned : {L : Type 0} (faults asked : L → ℕ → ℕ → ℕ) → RowsAreLearned faults asked
rows_learned faults asked c begun now kernel client low reached e = sym (ap known_in e) ∙ (kernels_know faults asked c begun now kernel low reached).grown

pub known_so : {L : Type 0} (faults asked : L → ℕ → ℕ → ℕ) → KnownAreTold faults asked
known_so faults asked c begun now kernel client prefix low reached e =
    ap (λ (ds : List Domain). knows ds prefix) (rows_learned faults asked c begun now kernel client low reached e) ∙ known_told now.trace kernel prefix

pub asked_until : {L : Type 0} (faults asked : L → ℕ → ℕ → ℕ) → BroadcastUntilLearned faults asked
asked_until faults asked c begun now reached =
    let k = all_know faults asked c begun now reached in
    each_meets now.trace c broadcasts_well (no_past c) broadcast_well k.low (λ kernel low. (k.each kernel low).unknown)

pub learned_once : {L : Type 0} (faults asked : L → ℕ → ℕ → ℕ) → LearnedOnce faults asked
learned_once faults asked c begun now reached =
    let k = all_know faults asked c begun now reached in
    each_meets now.trace c is_learned_first (no_past c) learned_first k.low (λ kernel low. (k.each kernel low).unknown)
