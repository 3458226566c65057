-- What a process's progress tells of the records of its calls.
use Rattle.std.proofs.Common.{arith, ◌≡◌, ◌≢◌, ◌∙◌, ◌≤◌, ℕ, ◌+◌, ◌-◌, Bool, true, false, ◌&&◌, ◌||◌, cond, List, [], ◌∷◌, ◌++◌, Option, Some, None, refl, sym, ap, subst, inl, inr, nat_le, append-nil, append_assoc}
use Rattle.std.specs.Prelude.{◌==◌, ◌⊎◌}
use Rattle.std.specs.List.{list_any}
use Rattle.std.proofs.lemmas.Bool.{and_parts, eqb-true, eq-eqb, leb-true, leb-false, le-leb, lt-leb, true≢false}
use Rattle.std.proofs.lemmas.Bool.Decides.{eqb_tells}
use Rattle.std.proofs.lemmas.List.Folds.{list_any-append}
use Rattle.sprite_ids.proofs.ListLaws.{some_is}
use Rattle.process_machine.specs.declared.call.Call.{Call}
use Rattle.process_machine.specs.declared.call.Call.TheVariants as call
use Rattle.process_machine.specs.declared.call.Reply.{Reply}
use Rattle.unix_calls.specs.declared.Entry.{Entry}
use Rattle.unix_calls.specs.declared.entry.Part.{Part}
use Rattle.unix_calls.specs.declared.entry.Part.TheVariants as part
use Rattle.unix_calls.specs.declared.Event.{Event}
use Rattle.unix_calls.specs.declared.Event.TheVariants as event
use Rattle.unix_calls.specs.declared.Rec.{Rec}
use Rattle.unix_calls.specs.Same.{same_reply}
use Rattle.call_journal.specs.Past.{folded_from}
use Rattle.call_journal.specs.Calls.{issued_by, issued_call, or_else}
use Rattle.call_journal.specs.Formed.{issue_number, last_issue}
use Rattle.call_journal.specs.Matching.{has_event, is_issue, is_entry_at, is_return}
use Rattle.call_journal.specs.Once.{Progress, Between, Issued, Asked, Entered, Over, over_after, whole_of, entered_as, done_as, is_same_call, death_of, progress_after, is_call_event, progress_on, progress_step}
use Rattle.call_journal.proofs.GrowthLaws.{look_backs_grow}
use Rattle.trace_laws.specs.Issues.{is_issued, is_entered, is_returned, AreUpTo, IsToldUpTo, IsOut, TellsCalls, ProgressTellsCalls}
use Rattle.trace_laws.proofs.AppendLaws.{issued_append}
use Rattle.trace_laws.proofs.ProgressLaws.{passed, no_progress}
use Rattle.trace_laws.proofs.TruthLaws.{and_false, and_true, both_false, both_true, or_false, or_true}

-- ---- numbers up to the last one

any_more : (test : Rec → Bool) (before : List Rec) (rec : Rec) → list_any test (before ++ rec ∷ []) ≡ (list_any test before || test rec)
any_more test before rec = list_any-append test before (rec ∷ []) ∙ ap (λ b. list_any test before || b) (or_false (test rec))

-- one more in its turn
below_more : (last number : ℕ) (b : Bool) → nat_le number last ≡ b → last + 1 ≢ number → nat_le number last ≡ nat_le number (last + 1)
below_more last number true is other = is ∙ sym (le-leb number (last + 1) (omega (arith, leb-true number last is)))
below_more last number false is other = is ∙ sym (lt-leb number (last + 1) (omega (arith, leb-false number last is, other)))

more_by : (last number : ℕ) → ((last + 1 == number) ≡ true × (last + 1 ≡ number)) ⊎ ((last + 1 == number) ≡ false × (last + 1 ≢ number)) → ((nat_le 1 number && nat_le number last) || (last + 1 == number)) ≡ (nat_le 1 number && nat_le number (last + 1))
more_by last number (inl same) =
    ap (λ b. (nat_le 1 number && nat_le number last) || b) same.0
    ∙ (or_true (nat_le 1 number && nat_le number last)
    ∙ sym (both_true (nat_le 1 number) (nat_le number (last + 1)) (le-leb 1 number (omega (arith, same.1))) (le-leb number (last + 1) (omega (arith, same.1)))))
more_by last number (inr other) =
    ap (λ b. (nat_le 1 number && nat_le number last) || b) other.0
    ∙ (or_false (nat_le 1 number && nat_le number last)
    ∙ ap (λ b. nat_le 1 number && b) (below_more last number (nat_le number last) refl other.1))

up_to_more : (last : ℕ) (has now : ℕ → Bool) → AreUpTo last has → ((number : ℕ) → now number ≡ (has number || (last + 1 == number))) → AreUpTo (last + 1) now
up_to_more last has now h grown = λ number. grown number ∙ (ap (λ b. b || (last + 1 == number)) (h number) ∙ more_by last number (eqb_tells (last + 1) number))

-- one that stood there
again_by : (last number : ℕ) (b : Bool) → 1 ≤ last → b ≡ (nat_le 1 number && nat_le number last) → ((last == number) ≡ true × (last ≡ number)) ⊎ ((last == number) ≡ false × (last ≢ number)) → (b || (last == number)) ≡ b
again_by last number b counted is (inl same) =
    let there : b ≡ true = is ∙ both_true (nat_le 1 number) (nat_le number last) (le-leb 1 number (omega (arith, same.1, counted))) (le-leb number last (omega (arith, same.1))) in
    ap (λ x. x || (last == number)) there ∙ sym there
again_by last number b counted is (inr other) = ap (λ x. b || x) other.0 ∙ or_false b

up_to_again : (last : ℕ) (has now : ℕ → Bool) → 1 ≤ last → AreUpTo last has → ((number : ℕ) → now number ≡ (has number || (last == number))) → AreUpTo last now
up_to_again last has now counted h grown = λ number. grown number ∙ (again_by last number (has number) counted (h number) (eqb_tells last number) ∙ h number)

-- none more
up_to_same : (last : ℕ) (has now : ℕ → Bool) → AreUpTo last has → ((number : ℕ) → now number ≡ (has number || false)) → AreUpTo last now
up_to_same last has now h grown = λ number. grown number ∙ (or_false (has number) ∙ h number)

-- ---- one record more

-- it is none of the process's
record Quiet (pid : ℕ) (e : Event) : Type 0 where
  issues : (number : ℕ) → is_issue pid number e ≡ false
  entries : (number : ℕ) → is_entry_at pid number e ≡ false
  returns : (number : ℕ) → is_return pid number e ≡ false
  last : (number : ℕ) → issue_number pid e number ≡ number
  call : (number : ℕ) → issued_by pid number e ≡ None

quiet_event : (pid : ℕ) (e : Event) → is_call_event pid e ≡ false → Quiet pid e
quiet_event pid (event.Issue p n called) h =
    record {
      issues = λ number. ap (λ b. b && (n == number)) h;
      entries = λ number. refl;
      returns = λ number. refl;
      last = λ number. ap (λ b. cond b n number) h;
      call = λ number. ap (λ b. cond (b && (n == number)) (Some called) None) h;
    }
quiet_event pid (event.Enter entry) h =
    record {
      issues = λ number. refl;
      entries = λ number. ap (λ b. b && (entry.number == number)) h;
      returns = λ number. refl;
      last = λ number. refl;
      call = λ number. refl;
    }
quiet_event pid (event.Return p n reply) h =
    record {
      issues = λ number. refl;
      entries = λ number. refl;
      returns = λ number. ap (λ b. b && (n == number)) h;
      last = λ number. refl;
      call = λ number. refl;
    }
quiet_event pid _ h =
    record {
      issues = λ number. refl;
      entries = λ number. refl;
      returns = λ number. refl;
      last = λ number. refl;
      call = λ number. refl;
    }

abbrev rec_of : ℕ → Event → Rec
rec_of kernel e = record { kernel = kernel; event = e }

more_issues : (pid : ℕ) (before : List Rec) (rec : Rec) (hit : ℕ → Bool) → ((number : ℕ) → is_issue pid number rec.event ≡ hit number) → (number : ℕ) → is_issued pid (before ++ rec ∷ []) number ≡ (is_issued pid before number || hit number)
more_issues pid before rec hit is number =
    any_more (has_event (is_issue pid number)) before rec ∙ ap (λ b. is_issued pid before number || b) (is number)

more_entries : (pid : ℕ) (before : List Rec) (rec : Rec) (hit : ℕ → Bool) → ((number : ℕ) → is_entry_at pid number rec.event ≡ hit number) → (number : ℕ) → is_entered pid (before ++ rec ∷ []) number ≡ (is_entered pid before number || hit number)
more_entries pid before rec hit is number =
    any_more (has_event (is_entry_at pid number)) before rec ∙ ap (λ b. is_entered pid before number || b) (is number)

more_returns : (pid : ℕ) (before : List Rec) (rec : Rec) (hit : ℕ → Bool) → ((number : ℕ) → is_return pid number rec.event ≡ hit number) → (number : ℕ) → is_returned pid (before ++ rec ∷ []) number ≡ (is_returned pid before number || hit number)
more_returns pid before rec hit is number =
    any_more (has_event (is_return pid number)) before rec ∙ ap (λ b. is_returned pid before number || b) (is number)

quiet_told : (pid : ℕ) (before : List Rec) (rec : Rec) (issued entered returned : ℕ) → Quiet pid rec.event → IsToldUpTo pid before issued entered returned → IsToldUpTo pid (before ++ rec ∷ []) issued entered returned
quiet_told pid before rec issued entered returned quiet h =
    record {
      last = look_backs_grow.issues pid before rec ∙ (quiet.last (last_issue pid before) ∙ h.last);
      issues = up_to_same issued (is_issued pid before) (is_issued pid (before ++ rec ∷ [])) h.issues (more_issues pid before rec (λ number. false) quiet.issues);
      entries = up_to_same entered (is_entered pid before) (is_entered pid (before ++ rec ∷ [])) h.entries (more_entries pid before rec (λ number. false) quiet.entries);
      returns = up_to_same returned (is_returned pid before) (is_returned pid (before ++ rec ∷ [])) h.returns (more_returns pid before rec (λ number. false) quiet.returns);
    }

issue_told : (pid kernel : ℕ) (before : List Rec) (p number : ℕ) (called : Call) (issued entered returned : ℕ) → (p == pid) ≡ true → number ≡ issued + 1 → IsToldUpTo pid before issued entered returned → IsToldUpTo pid (before ++ rec_of kernel (event.Issue p number called) ∷ []) (issued + 1) entered returned
issue_told pid kernel before p number called issued entered returned own next h =
    let rec : Rec = rec_of kernel (event.Issue p number called) in
    record {
      last = look_backs_grow.issues pid before rec ∙ (ap (λ b. cond b number (last_issue pid before)) own ∙ next);
      issues = up_to_more issued (is_issued pid before) (is_issued pid (before ++ rec ∷ [])) h.issues (more_issues pid before rec (λ n. issued + 1 == n) (λ n. and_true (p == pid) (number == n) own ∙ ap (λ k. k == n) next));
      entries = up_to_same entered (is_entered pid before) (is_entered pid (before ++ rec ∷ [])) h.entries (more_entries pid before rec (λ n. false) (λ n. refl));
      returns = up_to_same returned (is_returned pid before) (is_returned pid (before ++ rec ∷ [])) h.returns (more_returns pid before rec (λ n. false) (λ n. refl));
    }

enter_told : (pid kernel : ℕ) (before : List Rec) (entry : Entry) (issued entered returned : ℕ) → (entry.pid == pid) ≡ true → entry.number ≡ entered + 1 → IsToldUpTo pid before issued entered returned → IsToldUpTo pid (before ++ rec_of kernel (event.Enter entry) ∷ []) issued (entered + 1) returned
enter_told pid kernel before entry issued entered returned own next h =
    let rec : Rec = rec_of kernel (event.Enter entry) in
    record {
      last = look_backs_grow.issues pid before rec ∙ h.last;
      issues = up_to_same issued (is_issued pid before) (is_issued pid (before ++ rec ∷ [])) h.issues (more_issues pid before rec (λ n. false) (λ n. refl));
      entries = up_to_more entered (is_entered pid before) (is_entered pid (before ++ rec ∷ [])) h.entries (more_entries pid before rec (λ n. entered + 1 == n) (λ n. and_true (entry.pid == pid) (entry.number == n) own ∙ ap (λ k. k == n) next));
      returns = up_to_same returned (is_returned pid before) (is_returned pid (before ++ rec ∷ [])) h.returns (more_returns pid before rec (λ n. false) (λ n. refl));
    }

-- the end of an ask is entered under the ask's number
again_told : (pid kernel : ℕ) (before : List Rec) (entry : Entry) (issued entered returned : ℕ) → (entry.pid == pid) ≡ true → entry.number ≡ entered → 1 ≤ entered → IsToldUpTo pid before issued entered returned → IsToldUpTo pid (before ++ rec_of kernel (event.Enter entry) ∷ []) issued entered returned
again_told pid kernel before entry issued entered returned own same counted h =
    let rec : Rec = rec_of kernel (event.Enter entry) in
    record {
      last = look_backs_grow.issues pid before rec ∙ h.last;
      issues = up_to_same issued (is_issued pid before) (is_issued pid (before ++ rec ∷ [])) h.issues (more_issues pid before rec (λ n. false) (λ n. refl));
      entries = up_to_again entered (is_entered pid before) (is_entered pid (before ++ rec ∷ [])) counted h.entries (more_entries pid before rec (λ n. entered == n) (λ n. and_true (entry.pid == pid) (entry.number == n) own ∙ ap (λ k. k == n) same));
      returns = up_to_same returned (is_returned pid before) (is_returned pid (before ++ rec ∷ [])) h.returns (more_returns pid before rec (λ n. false) (λ n. refl));
    }

return_told : (pid kernel : ℕ) (before : List Rec) (p number : ℕ) (given : Reply) (issued entered returned : ℕ) → (p == pid) ≡ true → number ≡ returned + 1 → IsToldUpTo pid before issued entered returned → IsToldUpTo pid (before ++ rec_of kernel (event.Return p number given) ∷ []) issued entered (returned + 1)
return_told pid kernel before p number given issued entered returned own next h =
    let rec : Rec = rec_of kernel (event.Return p number given) in
    record {
      last = look_backs_grow.issues pid before rec ∙ h.last;
      issues = up_to_same issued (is_issued pid before) (is_issued pid (before ++ rec ∷ [])) h.issues (more_issues pid before rec (λ n. false) (λ n. refl));
      entries = up_to_same entered (is_entered pid before) (is_entered pid (before ++ rec ∷ [])) h.entries (more_entries pid before rec (λ n. false) (λ n. refl));
      returns = up_to_more returned (is_returned pid before) (is_returned pid (before ++ rec ∷ [])) h.returns (more_returns pid before rec (λ n. returned + 1 == n) (λ n. and_true (p == pid) (number == n) own ∙ ap (λ k. k == n) next));
    }

-- ---- the call that is out

-- it stays the first of its number
call_kept : (pid number : ℕ) (before : List Rec) (rec : Rec) (called : Call) → issued_call pid number before ≡ Some called → issued_call pid number (before ++ rec ∷ []) ≡ Some called
call_kept pid number before rec called h =
    issued_append pid number before (rec ∷ []) ∙ ap (λ (o : Option Call). or_else o (issued_call pid number (rec ∷ []))) h

none_by : (b : Bool) (o : Option Call) (called : Call) → b ≡ false → or_else (cond b (Some called) None) o ≡ o
none_by true o called h = absurd (true≢false h)
none_by false o called h = refl

none_first : (pid number : ℕ) (e : Event) (o : Option Call) → is_issue pid number e ≡ false → or_else (issued_by pid number e) o ≡ o
none_first pid number (event.Issue p n called) o h = none_by (p == pid && n == number) o called h
none_first pid number _ o h = refl

none_issued : (pid number : ℕ) (trace : List Rec) → is_issued pid trace number ≡ false → issued_call pid number trace ≡ None
none_issued pid number [] h = refl
none_issued pid number (rec ∷ rest) h =
    let parts = both_false (is_issue pid number rec.event) (is_issued pid rest number) h in
    none_first pid number rec.event (issued_call pid number rest) parts.0 ∙ none_issued pid number rest parts.1

no_next : (last : ℕ) → (nat_le 1 (last + 1) && nat_le (last + 1) last) ≡ false
no_next last = ap (λ b. nat_le 1 (last + 1) && b) (lt-leb (last + 1) last (omega arith)) ∙ and_false (nat_le 1 (last + 1))

call_issued : (pid kernel : ℕ) (before : List Rec) (p n : ℕ) (called : Call) → (p == pid) ≡ true → AreUpTo n (is_issued pid before) → issued_call pid (n + 1) (before ++ rec_of kernel (event.Issue p (n + 1) called) ∷ []) ≡ Some called
call_issued pid kernel before p n called own h =
    issued_append pid (n + 1) before (rec_of kernel (event.Issue p (n + 1) called) ∷ [])
    ∙ (ap (λ (o : Option Call). or_else o (or_else (cond (p == pid && n + 1 == n + 1) (Some called) None) None)) (none_issued pid (n + 1) before (h (n + 1) ∙ no_next n))
    ∙ ap (λ b. or_else (cond b (Some called) None) None) (both_true (p == pid) (n + 1 == n + 1) own (eq-eqb (n + 1) (n + 1) refl)))

-- ---- one event of the process

less_one : (n : ℕ) → 1 ≤ n → n - 1 + 1 ≡ n
less_one n counted = omega (arith, counted)

issue_tells : (pid kernel : ℕ) (before : List Rec) (q r : Progress) (p number : ℕ) (called : Call) → (p == pid) ≡ true → TellsCalls pid before q → progress_after q (event.Issue p number called) ≡ Some r → TellsCalls pid (before ++ rec_of kernel (event.Issue p number called) ∷ []) r
issue_tells pid kernel before (Between n) r p number called own h is =
    let parts = passed (number == n + 1) (Some (Issued number called)) r is in
    let next : number ≡ n + 1 = eqb-true number (n + 1) parts.0 in
    let out : IsOut pid (before ++ rec_of kernel (event.Issue p (n + 1) called) ∷ []) (n + 1) called (n + 1 - 1) = record {
      counted = omega arith;
      call_is = call_issued pid kernel before p n called own h.issues;
      told = subst (λ k. IsToldUpTo pid (before ++ rec_of kernel (event.Issue p (n + 1) called) ∷ []) (n + 1) k k) (omega arith) (issue_told pid kernel before p (n + 1) called n n n own refl h);
    } in
    subst (TellsCalls pid (before ++ rec_of kernel (event.Issue p number called) ∷ [])) (some_is (Issued number called) r parts.1)
    (subst (λ k. IsOut pid (before ++ rec_of kernel (event.Issue p k called) ∷ []) k called (k - 1)) (sym next) out)
issue_tells pid kernel before (Issued n out) r p number called own h is = absurd (cc)
issue_tells pid kernel before (Asked n out) r p number called own h is = absurd (cc)
issue_tells pid kernel before (Entered n out reply) r p number called own h is = absurd (cc)
issue_tells pid kernel before Over r p number called own h is = absurd (cc)

over_tells : (pid : ℕ) (trace : List Rec) (n : ℕ) (called : Call) → IsToldUpTo pid trace n n n → TellsCalls pid trace (over_after called n)
over_tells pid trace n (call.Exit code) h = record { issued = n; entered = n; least = omega arith; most = omega arith; told = h }
over_tells pid trace n call.BadStep h = record { issued = n; entered = n; least = omega arith; most = omega arith; told = h }
over_tells pid trace n _ h = h

return_tells : (pid kernel : ℕ) (before : List Rec) (q r : Progress) (p number : ℕ) (given : Reply) → (p == pid) ≡ true → TellsCalls pid before q → progress_after q (event.Return p number given) ≡ Some r → TellsCalls pid (before ++ rec_of kernel (event.Return p number given) ∷ []) r
return_tells pid kernel before (Entered n called reply) r p number given own h is =
    let parts = passed (number == n && same_reply reply given) (Some (over_after called n)) r is in
    let same : number ≡ n = eqb-true number n (and_parts (number == n) (same_reply reply given) parts.0).0 in
    let told : IsToldUpTo pid (before ++ rec_of kernel (event.Return p number given) ∷ []) n n (n - 1 + 1) = return_told pid kernel before p number given n n (n - 1) own (same ∙ sym (less_one n h.counted)) h.told in
    subst (TellsCalls pid (before ++ rec_of kernel (event.Return p number given) ∷ [])) (some_is (over_after called n) r parts.1)
    (over_tells pid (before ++ rec_of kernel (event.Return p number given) ∷ []) n called (subst (λ k. IsToldUpTo pid (before ++ rec_of kernel (event.Return p number given) ∷ []) n n k) (less_one n h.counted) told))
return_tells pid kernel before (Between n) r p number given own h is = absurd (cc)
return_tells pid kernel before (Issued n called) r p number given own h is = absurd (cc)
return_tells pid kernel before (Asked n called) r p number given own h is = absurd (cc)
return_tells pid kernel before Over r p number given own h is = absurd (cc)

-- the entry of the call that is out
out_entered : (pid kernel : ℕ) (before : List Rec) (n : ℕ) (called : Call) (entry : Entry) → (entry.pid == pid) ≡ true → entry.number ≡ n → IsOut pid before n called (n - 1) → IsOut pid (before ++ rec_of kernel (event.Enter entry) ∷ []) n called n
out_entered pid kernel before n called entry own same h =
    record {
      counted = h.counted;
      call_is = call_kept pid n before (rec_of kernel (event.Enter entry)) called h.call_is;
      told = subst (λ k. IsToldUpTo pid (before ++ rec_of kernel (event.Enter entry) ∷ []) n k (n - 1)) (less_one n h.counted) (enter_told pid kernel before entry n (n - 1) (n - 1) own (same ∙ sym (less_one n h.counted)) h.told);
    }

out_again : (pid kernel : ℕ) (before : List Rec) (n : ℕ) (called : Call) (entry : Entry) → (entry.pid == pid) ≡ true → entry.number ≡ n → IsOut pid before n called n → IsOut pid (before ++ rec_of kernel (event.Enter entry) ∷ []) n called n
out_again pid kernel before n called entry own same h =
    record {
      counted = h.counted;
      call_is = call_kept pid n before (rec_of kernel (event.Enter entry)) called h.call_is;
      told = again_told pid kernel before entry n n (n - 1) own same h.counted h.told;
    }

whole_tells : (pid : ℕ) (trace : List Rec) (n : ℕ) (called : Call) (reply : Option Reply) (r : Progress) → IsOut pid trace n called n → whole_of n called reply ≡ Some r → TellsCalls pid trace r
whole_tells pid trace n called None r h is = absurd (cc)
whole_tells pid trace n called (Some reply) r h is = subst (TellsCalls pid trace) (some_is (Entered n called reply) r is) h

issued_tells : (pid : ℕ) (trace : List Rec) (n : ℕ) (called : Call) (kind : Part) (reply : Option Reply) (r : Progress) → IsOut pid trace n called n → entered_as kind n called reply ≡ Some r → TellsCalls pid trace r
issued_tells pid trace n called part.Whole reply r h is = whole_tells pid trace n called reply r h is
issued_tells pid trace n called part.Ask None r h is = subst (TellsCalls pid trace) (some_is (Asked n called) r is) h
issued_tells pid trace n called part.Ask (Some reply) r h is = absurd (cc)
issued_tells pid trace n called part.Done reply r h is = absurd (cc)
issued_tells pid trace n called part.Death reply r h is = absurd (cc)

asked_tells : (pid : ℕ) (trace : List Rec) (n : ℕ) (called : Call) (kind : Part) (reply : Option Reply) (r : Progress) → IsOut pid trace n called n → done_as kind n called reply ≡ Some r → TellsCalls pid trace r
asked_tells pid trace n called part.Done reply r h is = whole_tells pid trace n called reply r h is
asked_tells pid trace n called part.Whole reply r h is = absurd (cc)
asked_tells pid trace n called part.Ask reply r h is = absurd (cc)
asked_tells pid trace n called part.Death reply r h is = absurd (cc)

dead_tells : (pid : ℕ) (trace : List Rec) (n : ℕ) (kind : Part) (r : Progress) → IsToldUpTo pid trace n (n + 1) n → death_of n kind ≡ Some r → TellsCalls pid trace r
dead_tells pid trace n part.Death r h is =
    subst (TellsCalls pid trace) (some_is Over r is) (record { issued = n; entered = n + 1; least = omega arith; most = omega arith; told = h })
dead_tells pid trace n part.Whole r h is = absurd (cc)
dead_tells pid trace n part.Ask r h is = absurd (cc)
dead_tells pid trace n part.Done r h is = absurd (cc)

enter_tells : (pid kernel : ℕ) (before : List Rec) (q r : Progress) (entry : Entry) → (entry.pid == pid) ≡ true → TellsCalls pid before q → progress_after q (event.Enter entry) ≡ Some r → TellsCalls pid (before ++ rec_of kernel (event.Enter entry) ∷ []) r
enter_tells pid kernel before (Between n) r entry own h is =
    let parts = passed (entry.number == n + 1) (death_of n entry.part) r is in
    dead_tells pid (before ++ rec_of kernel (event.Enter entry) ∷ []) n entry.part r (enter_told pid kernel before entry n n n own (eqb-true entry.number (n + 1) parts.0) h) parts.1
enter_tells pid kernel before (Issued n called) r entry own h is =
    let parts = passed (entry.number == n && is_same_call called entry.call) (entered_as entry.part n called entry.reply) r is in
    let same = eqb-true entry.number n (and_parts (entry.number == n) (is_same_call called entry.call) parts.0).0 in
    issued_tells pid (before ++ rec_of kernel (event.Enter entry) ∷ []) n called entry.part entry.reply r (out_entered pid kernel before n called entry own same h) parts.1
enter_tells pid kernel before (Asked n called) r entry own h is =
    let parts = passed (entry.number == n && is_same_call called entry.call) (done_as entry.part n called entry.reply) r is in
    let same = eqb-true entry.number n (and_parts (entry.number == n) (is_same_call called entry.call) parts.0).0 in
    asked_tells pid (before ++ rec_of kernel (event.Enter entry) ∷ []) n called entry.part entry.reply r (out_again pid kernel before n called entry own same h) parts.1
enter_tells pid kernel before (Entered n called reply) r entry own h is = absurd (cc)
enter_tells pid kernel before Over r entry own h is = absurd (cc)

-- ---- one event of any process

out_quiet : (pid : ℕ) (before : List Rec) (rec : Rec) (n : ℕ) (called : Call) (entered : ℕ) → Quiet pid rec.event → IsOut pid before n called entered → IsOut pid (before ++ rec ∷ []) n called entered
out_quiet pid before rec n called entered quiet h =
    record {
      counted = h.counted;
      call_is = call_kept pid n before rec called h.call_is;
      told = quiet_told pid before rec n entered (n - 1) quiet h.told;
    }

quiet_tells : (pid : ℕ) (before : List Rec) (rec : Rec) (q : Progress) → Quiet pid rec.event → TellsCalls pid before q → TellsCalls pid (before ++ rec ∷ []) q
quiet_tells pid before rec (Between n) quiet h = quiet_told pid before rec n n n quiet h
quiet_tells pid before rec (Issued n called) quiet h = out_quiet pid before rec n called (n - 1) quiet h
quiet_tells pid before rec (Asked n called) quiet h = out_quiet pid before rec n called n quiet h
quiet_tells pid before rec (Entered n called reply) quiet h = out_quiet pid before rec n called n quiet h
quiet_tells pid before rec Over quiet h =
    record { issued = h.issued; entered = h.entered; least = h.least; most = h.most; told = quiet_told pid before rec h.issued h.entered h.issued quiet h.told }

own_tells : (pid kernel : ℕ) (before : List Rec) (e : Event) (q r : Progress) → is_call_event pid e ≡ true → TellsCalls pid before q → progress_after q e ≡ Some r → TellsCalls pid (before ++ rec_of kernel e ∷ []) r
own_tells pid kernel before (event.Issue p number called) q r own h is = issue_tells pid kernel before q r p number called own h is
own_tells pid kernel before (event.Enter entry) q r own h is = enter_tells pid kernel before q r entry own h is
own_tells pid kernel before (event.Return p number given) q r own h is = return_tells pid kernel before q r p number given own h is
own_tells pid kernel before _ q r own h is = absurd (true≢false (sym own))

event_tells : (pid : ℕ) (before : List Rec) (rec : Rec) (q r : Progress) (b : Bool) → is_call_event pid rec.event ≡ b → TellsCalls pid before q → cond b (progress_on (Some q) rec.event) (Some q) ≡ Some r → TellsCalls pid (before ++ rec ∷ []) r
event_tells pid before rec q r true own h is = own_tells pid rec.kernel before rec.event q r own h is
event_tells pid before rec q r false other h is =
    subst (TellsCalls pid (before ++ rec ∷ [])) (some_is q r is) (quiet_tells pid before rec q (quiet_event pid rec.event other) h)

some_tells : (pid : ℕ) (before : List Rec) (rec : Rec) (p : Option Progress) (r : Progress) → ((q : Progress) → p ≡ Some q → TellsCalls pid before q) → progress_step pid before rec p ≡ Some r → TellsCalls pid (before ++ rec ∷ []) r
some_tells pid before rec None r h is = absurd (no_progress (is_call_event pid rec.event) rec.event r is)
some_tells pid before rec (Some q) r h is = event_tells pid before rec q r (is_call_event pid rec.event) refl (h q refl) is

-- ---- all events

told_calls : (pid : ℕ) (before rest : List Rec) (p : Option Progress) (r : Progress) → ((q : Progress) → p ≡ Some q → TellsCalls pid before q) → folded_from (progress_step pid) before p rest ≡ Some r → TellsCalls pid (before ++ rest) r
told_calls pid before [] p r h is = subst (λ trace. TellsCalls pid trace r) (sym (append-nil before)) (h r is)
told_calls pid before (rec ∷ rest) p r h is =
    subst (λ trace. TellsCalls pid trace r) (append_assoc before (rec ∷ []) rest)
    (told_calls pid (before ++ rec ∷ []) rest (progress_step pid before rec p) r (λ q now. some_tells pid before rec p q h now) is)

none_yet : (number : ℕ) (b : Bool) → nat_le 1 number ≡ b → false ≡ (nat_le 1 number && nat_le number 0)
none_yet number true is =
    sym (ap (λ x. nat_le 1 number && x) (lt-leb number 0 (omega (arith, leb-true 1 number is))) ∙ and_false (nat_le 1 number))
none_yet number false is = sym (ap (λ x. x && nat_le number 0) is)

nothing_told : (pid : ℕ) → IsToldUpTo pid [] 0 0 0
nothing_told pid = record {
  last = refl;
  issues = λ number. none_yet number (nat_le 1 number) refl;
  entries = λ number. none_yet number (nat_le 1 number) refl;
  returns = λ number. none_yet number (nat_le 1 number) refl;
}

pub progress_tells_calls : ProgressTellsCalls
progress_tells_calls trace pid progress is =
    told_calls pid [] trace (Some (Between 0)) progress (λ q now. subst (TellsCalls pid []) (some_is (Between 0) q now) (nothing_told pid)) is
