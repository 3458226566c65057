-- What stands behind a place of a trace, with one record more before it.
use Rattle.std.proofs.Common.{◌≡◌, ◌∙◌, ℕ, ◌+◌, ◌==◌, Bool, true, false, cond, ◌&&◌, ◌||◌, not, List, ◌∷◌, refl, sym, ap, ap₂, subst, arith, eqb-true}
use Rattle.unix_calls.specs.declared.event.Event.{Event}
use Rattle.unix_calls.specs.declared.event.Event.TheVariants as event
use Rattle.unix_calls.specs.declared.event.Rec.{Rec}
use Rattle.call_journal.specs.Matching.{is_entry_of, is_issue_of}
use Rattle.trace_bursts.specs.declared.behind.Behind.{Behind}
use Rattle.trace_bursts.specs.Behind.{AddsIf, AddsRec, TellsBehind, burst_behind, bursts_behind, has_entry, is_in, is_issued_behind}

or_turned : (a b : Bool) → (a || b) ≡ (b || a)
or_turned true true = refl
or_turned true false = refl
or_turned false true = refl
or_turned false false = refl

or_false : (a : Bool) → a ≡ (a || false)
or_false true = refl
or_false false = refl

none_and : (n : ℕ) → n ≡ 0 + n
none_and n = omega arith

or_is : (b a : Bool) → cond b true a ≡ (a || b)
or_is true true = refl
or_is true false = refl
or_is false true = refl
or_is false false = refl

-- an entry
entry_behind : (kernel : ℕ) (rest : List Rec) (e : Event) (old new : Behind) → TellsBehind rest old → ((pid : ℕ) → is_in new.entered.keys pid ≡ (is_in old.entered.keys pid || is_entry_of pid e)) → new.issued ≡ old.issued → new.instructions ≡ old.instructions → ((pid : ℕ) → is_issue_of pid e ≡ false) → burst_behind e rest ≡ 0 → TellsBehind (record { kernel = kernel; event = e } ∷ rest) new
entry_behind kernel rest e old new tells enters issues does no_issue no_burst = record {
  entered = λ pid. enters pid ∙ (ap (λ b. b || is_entry_of pid e) (tells.entered pid) ∙ or_turned (has_entry pid rest) (is_entry_of pid e));
  issued = λ pid. ap (λ s. is_in s.keys pid) issues ∙ (tells.issued pid ∙ (or_false (is_issued_behind pid rest) ∙ sym (ap (λ b. is_issued_behind pid rest || (b && not (has_entry pid rest))) (no_issue pid))));
  instructions = does ∙ (tells.instructions ∙ (none_and (bursts_behind rest) ∙ sym (ap (λ n. n + bursts_behind rest) no_burst)));
}

-- neither an entry nor an issue nor a burst
other_behind : (kernel : ℕ) (rest : List Rec) (e : Event) (behind : Behind) → TellsBehind rest behind → ((pid : ℕ) → is_entry_of pid e ≡ false) → ((pid : ℕ) → is_issue_of pid e ≡ false) → burst_behind e rest ≡ 0 → TellsBehind (record { kernel = kernel; event = e } ∷ rest) behind
other_behind kernel rest e behind tells no_entry no_issue no_burst =
    entry_behind kernel rest e behind behind tells (λ pid. or_false (is_in behind.entered.keys pid) ∙ sym (ap (λ b. is_in behind.entered.keys pid || b) (no_entry pid))) refl refl no_issue no_burst

-- an issue
issue_one : (b entered mine : Bool) → (mine ≡ true → entered ≡ true) → b ≡ (b || (mine && not entered))
issue_one true entered mine is = refl
issue_one false entered true is = sym (ap not (is refl))
issue_one false entered false is = refl

issue_new : (b entered mine : Bool) → (mine ≡ true → entered ≡ false) → (b || mine) ≡ (b || (mine && not entered))
issue_new true entered mine is = refl
issue_new false entered true is = sym (ap not (is refl))
issue_new false entered false is = refl

issued_by : (pid : ℕ) (rest : List Rec) (old : Behind) (keys : List ℕ) (entered : Bool) → TellsBehind rest old → is_in old.entered.keys pid ≡ entered → AddsIf entered pid old.issued.keys keys → (other : ℕ) → is_in keys other ≡ (is_issued_behind other rest || ((pid == other) && not (has_entry other rest)))
issued_by pid rest old keys true tells is adds other =
    ap (λ (ks : List ℕ). is_in ks other) adds
    ∙ (tells.issued other
    ∙ issue_one (is_issued_behind other rest) (has_entry other rest) (pid == other) (λ mine. ap (λ (n : ℕ). has_entry n rest) (sym (eqb-true pid other mine)) ∙ (sym (tells.entered pid) ∙ is)))
issued_by pid rest old keys false tells is adds other =
    adds other
    ∙ or_is (pid == other) (is_in old.issued.keys other)
    ∙ (ap (λ b. b || (pid == other)) (tells.issued other)
    ∙ issue_new (is_issued_behind other rest) (has_entry other rest) (pid == other) (λ mine. ap (λ (n : ℕ). has_entry n rest) (sym (eqb-true pid other mine)) ∙ (sym (tells.entered pid) ∙ is)))

turned : (a b : ℕ) → a + b ≡ b + a
turned a b = omega arith

behind_by : (kernel : ℕ) (rest : List Rec) (e : Event) (old new : Behind) → TellsBehind rest old → AddsRec e old new → TellsBehind (record { kernel = kernel; event = e } ∷ rest) new
behind_by kernel rest (event.Enter entry) old new tells adds =
    entry_behind kernel rest (event.Enter entry) old new tells (λ other. adds.enters other ∙ or_is (entry.pid == other) (is_in old.entered.keys other)) adds.issued adds.instructions (λ pid. refl) refl
behind_by kernel rest (event.Issue pid number call) old new tells adds = record {
  entered = λ other. ap (λ s. is_in s.keys other) adds.entered ∙ tells.entered other;
  issued = issued_by pid rest old new.issued.keys (is_in old.entered.keys pid) tells refl adds.issues;
  instructions = adds.instructions ∙ (tells.instructions ∙ none_and (bursts_behind rest));
}
behind_by kernel rest (event.Burst pid count) old new tells adds = record {
  entered = λ other. ap (λ s. is_in s.keys other) adds.entered ∙ tells.entered other;
  issued = λ other. ap (λ s. is_in s.keys other) adds.issued ∙ (tells.issued other ∙ or_false (is_issued_behind other rest));
  instructions = adds.instructions ∙ (ap₂ (λ n b. n + cond {A = ℕ} b 0 count) tells.instructions (tells.entered pid) ∙ turned (bursts_behind rest) (burst_behind (event.Burst pid count) rest));
}
behind_by kernel rest e old new tells adds =
    other_so adds
  where
    other_so : new ≡ old → TellsBehind (record { kernel = kernel; event = e } ∷ rest) new
    other_so same = subst (λ (b : Behind). TellsBehind (record { kernel = kernel; event = e } ∷ rest) b) (sym same) (other_behind kernel rest e old tells (λ pid. refl) (λ pid. refl) refl)

pub behind_goes : (rest : List Rec) (rec : Rec) (old new : Behind) → TellsBehind rest old → AddsRec rec.event old new → TellsBehind (rec ∷ rest) new
behind_goes rest rec old new tells adds = behind_by rec.kernel rest rec.event old new tells adds
