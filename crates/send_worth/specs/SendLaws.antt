-- What went for the sake of calls is told record by record.
use Rattle.std.proofs.Common.{◌≡◌, ◌∙◌, ℕ, ◌+◌, ◌==◌, Bool, true, false, cond, ◌&&◌, ◌||◌, not, List, [], ◌∷◌, ◌++◌, nat_le, count_by, Option, Some, None, refl, sym, ap, subst, arith}
use Rattle.std.specs.Option.{option_map, is_some}
use Rattle.std.specs.List.{list_any}
use Rattle.std.proofs.lemmas.Bool.{eqb-true}
use Rattle.sprite_ids.specs.Lists.{one_if}
use Rattle.unix_calls.specs.declared.description.Description.{Description}
use Rattle.unix_calls.specs.declared.event.About.{About}
use Rattle.unix_calls.specs.declared.event.SendKind.{SendKind}
use Rattle.unix_calls.specs.declared.event.Event.{Event}
use Rattle.unix_calls.specs.declared.event.Event.TheVariants as event
use Rattle.unix_calls.specs.declared.event.Rec.{Rec}
use Rattle.call_journal.specs.Past.{Past, past_with}
use Rattle.call_journal.specs.Matching.{has_event, is_issue, is_about}
use Rattle.call_journal.specs.Calls.{or_else}
use Rattle.call_journal.specs.WorthSends.{moves_blocks, is_counted_send, is_for, given_since, are_sends_few, sends_for, sends_well}
use Rattle.trace_tables.specs.declared.CallAt.{CallAt}
use Rattle.trace_tables.specs.Calls.{about_of, call_is, call_of, same_call}
use Rattle.send_worth.specs.declared.sends.Issued.{Issued}
use Rattle.send_worth.specs.declared.sends.Sends.{Sends}
use Rattle.trace_rules.specs.Lists.{count_more, no_more}
use Rattle.send_worth.specs.Comparisons.{shifted}
use Rattle.send_worth.specs.Sends.{issued_at, count_or, sent_kept, sent_count, given_kept, given_count, may_send_for, may_send_about, may_send, sent_more, sent_for, issued_behind, given_behind, sent_behind, GoesOut, issuer, Balanced, TellsSends}

abbrev at_kernel : Option Issued → Option ℕ
at_kernel o = option_map (λ (one : Issued). one.kernel) o

-- ---- looking

-- a call was issued exactly where it has a first issue
issued_any : (at : CallAt) (rs : List Rec) → list_any (has_event (is_issue at.pid at.number)) rs ≡ is_some (issuer at rs)
issued_any at [] = refl
issued_any at (r ∷ rs) = by (is_issue at.pid at.number r.event) (issued_any at rs)
  where
    by : (b : Bool) → list_any (has_event (is_issue at.pid at.number)) rs ≡ is_some (issuer at rs) → (b || list_any (has_event (is_issue at.pid at.number)) rs) ≡ is_some (cond b (Some r.kernel) (issuer at rs))
    by true more = refl
    by false more = more

few_by : (judge : Sends) (kind : SendKind) (at : CallAt) (o : Option Issued) (rs : List Rec) → at_kernel o ≡ issuer at rs → Balanced o judge.given.entries (given_since (about_of at) rs) → sent_count judge.sent.entries at ≡ count_by (has_event (is_counted_send (about_of at))) rs → (is_some (issuer at rs) && (moves_blocks kind || nat_le (count_by (has_event (is_counted_send (about_of at))) rs + 1) (512 + given_since (about_of at) rs))) ≡ may_send_for judge kind at o
few_by judge kind at None rs issued since sent = ap (λ t. is_some t && (moves_blocks kind || nat_le (count_by (has_event (is_counted_send (about_of at))) rs + 1) (512 + given_since (about_of at) rs))) (sym issued)
few_by judge kind at (Some one) rs issued since sent =
    ap (λ t. is_some t && (moves_blocks kind || nat_le (count_by (has_event (is_counted_send (about_of at))) rs + 1) (512 + given_since (about_of at) rs))) (sym issued)
    ∙ ap (λ n. moves_blocks kind || nat_le (n + 1) (512 + given_since (about_of at) rs)) (sym sent)
    ∙ ap (λ b. moves_blocks kind || b) (shifted (sent_count judge.sent.entries at + 1) one.given (given_since (about_of at) rs) (given_count judge.given.entries one.kernel) since)

about_told : (judge : Sends) (past : Past) (kind : SendKind) (about : Option About) → TellsSends judge past.records → sends_for past kind about ≡ may_send_about judge kind about
about_told judge past kind None told = refl
about_told judge past kind (Some call) told =
    ap (λ b. b && (moves_blocks kind || are_sends_few past call)) (issued_any (call_of call) past.records)
    ∙ few_by judge kind (call_of call) (issued_at judge.issued.entries (call_of call)) past.records (told.issuer_told (call_of call)) (told.since_told (call_of call)) (told.sent_told (call_of call))

event_told : (judge : Sends) (past : Past) (e : Event) → TellsSends judge past.records → sends_well past e ≡ may_send judge e
event_told judge past (event.Send tx to about kind) told = about_told judge past kind about told
event_told judge past _ told = refl

-- a packet is judged by what is kept
pub sends_told : (c : Description) (judge : Sends) (past : Past) (rec : Rec) → TellsSends judge past.records → sends_well past rec.event ≡ may_send judge rec.event
sends_told c judge past rec told = event_told judge past rec.event told

-- ---- calls that are equal

-- ---- the first issue

issuer_more : (at : CallAt) (rs : List Rec) (r : Rec) → issuer at (rs ++ r ∷ []) ≡ or_else (issuer at rs) (cond (is_issue at.pid at.number r.event) (Some r.kernel) None)
issuer_more at [] r = refl
issuer_more at (x ∷ rs) r = by (is_issue at.pid at.number x.event) (issuer_more at rs r)
  where
    by : (b : Bool) → issuer at (rs ++ r ∷ []) ≡ or_else (issuer at rs) (cond (is_issue at.pid at.number r.event) (Some r.kernel) None) → cond b (Some x.kernel) (issuer at (rs ++ r ∷ [])) ≡ or_else (cond b (Some x.kernel) (issuer at rs)) (cond (is_issue at.pid at.number r.event) (Some r.kernel) None)
    by true more = refl
    by false more = more

or_none : (o : Option ℕ) → o ≡ or_else o None
or_none None = refl
or_none (Some n) = refl

put_by : (b : Bool) (o : Option Issued) (one : Issued) → at_kernel (cond b (or_else o (Some one)) o) ≡ or_else (at_kernel o) (cond b (Some one.kernel) None)
put_by true None one = refl
put_by true (Some x) one = refl
put_by false o one = or_none (at_kernel o)

issuer_step : (kernel : ℕ) (e : Event) (given : List (ℕ × ℕ)) (at : CallAt) (o : Option Issued) → at_kernel (issued_behind kernel e given at o) ≡ or_else (at_kernel o) (cond (is_issue at.pid at.number e) (Some kernel) None)
issuer_step kernel (event.Issue pid number call) given at o = put_by (same_call (record { pid = pid; number = number }) at) o (record { kernel = kernel; given = given_count given kernel })
issuer_step kernel _ given at o = or_none (at_kernel o)

-- ---- what came to kernels

given_by : (before : List (ℕ × ℕ)) (to kernel : ℕ) (b : Bool) → (to == kernel) ≡ b → count_or (cond b (Some (given_count before to + 1)) (given_kept before kernel)) ≡ given_count before kernel + one_if b
given_by before to kernel true is = ap (λ k. given_count before k + 1) (eqb-true to kernel is)
given_by before to kernel false is = no_more (given_count before kernel)

given_step : (e : Event) (before : List (ℕ × ℕ)) (kernel : ℕ) → count_or (given_behind e before kernel) ≡ given_count before kernel + one_if (is_for kernel e)
given_step (event.Grant file to stamp mode) before kernel = given_by before to kernel (to == kernel) refl
given_step (event.Callback file to stamp kind) before kernel = given_by before to kernel (to == kernel) refl
given_step _ before kernel = no_more (given_count before kernel)

-- ---- what came since an issue

abbrev since_by : Option ℕ → Event → ℕ → ℕ
since_by None e n = n
since_by (Some kernel) e n = n + one_if (is_for kernel e)

since_more : (call : About) (rs : List Rec) (r : Rec) → given_since call (rs ++ r ∷ []) ≡ since_by (issuer (call_of call) rs) r.event (given_since call rs)
since_more call [] r = by (is_issue call.pid call.number r.event)
  where
    by : (b : Bool) → cond {A = ℕ} b 0 0 ≡ 0
    by true = refl
    by false = refl
since_more call (x ∷ rs) r = by (is_issue call.pid call.number x.event) (since_more call rs r)
  where
    by : (b : Bool) → given_since call (rs ++ r ∷ []) ≡ since_by (issuer (call_of call) rs) r.event (given_since call rs) → cond {A = ℕ} b (count_by (has_event (is_for x.kernel)) (rs ++ r ∷ [])) (given_since call (rs ++ r ∷ [])) ≡ since_by (cond b (Some x.kernel) (issuer (call_of call) rs)) r.event (cond {A = ℕ} b (count_by (has_event (is_for x.kernel)) rs) (given_since call rs))
    by true more = count_more (has_event (is_for x.kernel)) rs r
    by false more = more

abbrev Given : Event → List (ℕ × ℕ) → List (ℕ × ℕ) → Type 0
Given e before after = (kernel : ℕ) → given_count after kernel ≡ given_count before kernel + one_if (is_for kernel e)

stays : (kernel : ℕ) (e : Event) (given : List (ℕ × ℕ)) (at : CallAt) (one : Issued) → issued_behind kernel e given at (Some one) ≡ Some one
stays kernel (event.Issue pid number call) given at one = by (same_call (record { pid = pid; number = number }) at)
  where
    by : (b : Bool) → cond b (Some one) (Some one) ≡ Some one
    by true = refl
    by false = refl
stays kernel _ given at one = refl

begins : (kernel : ℕ) (e : Event) (before after : List (ℕ × ℕ)) (at : CallAt) (since : ℕ) → since ≡ 0 → Given e before after → Balanced (issued_behind kernel e before at None) after since
begins kernel (event.Issue pid number call) before after at since none more = by (same_call (record { pid = pid; number = number }) at)
  where
    by : (b : Bool) → Balanced (cond b (Some (record { kernel = kernel; given = given_count before kernel })) None) after since
    by true = (let h = more kernel in omega (arith, h, none))
    by false = none
begins kernel _ before after at since none more = none

balanced_more : (kernel : ℕ) (e : Event) (before after : List (ℕ × ℕ)) (at : CallAt) (o : Option Issued) (since : ℕ) → Balanced o before since → Given e before after → Balanced (issued_behind kernel e before at o) after (since_by (at_kernel o) e since)
balanced_more kernel e before after at None since told more = begins kernel e before after at since told more
balanced_more kernel e before after at (Some one) since told more =
    let h = more one.kernel in
    let all : one.given + (since + one_if (is_for one.kernel e)) ≡ given_count after one.kernel = omega (arith, h, told) in
    subst (λ (o : Option Issued). Balanced o after (since + one_if (is_for one.kernel e))) (sym (stays kernel e before at one)) all

-- ---- what went for the sake of a call

sent_by : (before : List (CallAt × ℕ)) (at other : CallAt) (b : Bool) → same_call at other ≡ b → count_or (cond b (Some (sent_count before at + 1)) (sent_kept before other)) ≡ sent_count before other + one_if b
sent_by before at other true is = ap (λ c. sent_count before c + 1) (call_is at other is)
sent_by before at other false is = no_more (sent_count before other)

moved_by : (before : List (CallAt × ℕ)) (call : About) (other : CallAt) (m : Bool) → count_or (cond m (sent_kept before other) (sent_more (call_of call) before other)) ≡ sent_count before other + one_if (same_call (call_of call) other && not m)
moved_by before call other true = no_more (sent_count before other) ∙ ap (λ b. sent_count before other + one_if b) (by (same_call (call_of call) other))
  where
    by : (b : Bool) → false ≡ (b && false)
    by true = refl
    by false = refl
moved_by before call other false = sent_by before (call_of call) other (same_call (call_of call) other) refl ∙ ap (λ b. sent_count before other + one_if b) (by (same_call (call_of call) other))
  where
    by : (b : Bool) → b ≡ (b && true)
    by true = refl
    by false = refl

for_step : (kind : SendKind) (about : Option About) (before : List (CallAt × ℕ)) (at : CallAt) → count_or (sent_for kind about before at) ≡ sent_count before at + one_if (is_about at.pid at.number about && not (moves_blocks kind))
for_step kind None before at = no_more (sent_count before at)
for_step kind (Some call) before at = moved_by before call at (moves_blocks kind)

sent_step : (e : Event) (before : List (CallAt × ℕ)) (at : CallAt) → count_or (sent_behind e before at) ≡ sent_count before at + one_if (is_counted_send (about_of at) e)
sent_step (event.Send tx to about kind) before at = for_step kind about before at
sent_step _ before at = no_more (sent_count before at)

-- ---- one record more

pub sends_told_on : (c : Description) (old new : Sends) (past : Past) (rec : Rec) → TellsSends old past.records → GoesOut rec.kernel rec.event old new → TellsSends new (past_with c rec past).records
sends_told_on c old new past rec told more =
    let given : Given rec.event old.given.entries new.given.entries = λ k. ap count_or (more.given k) ∙ given_step rec.event old.given.entries k in
    record {
      issuer_told = λ at.
          ap at_kernel (more.issued at)
          ∙ issuer_step rec.kernel rec.event old.given.entries at (issued_at old.issued.entries at)
          ∙ ap (λ o. or_else o (cond (is_issue at.pid at.number rec.event) (Some rec.kernel) None)) (told.issuer_told at)
          ∙ sym (issuer_more at past.records rec);
      given_told = λ k.
          given k
          ∙ ap (λ n. n + one_if (is_for k rec.event)) (told.given_told k)
          ∙ sym (count_more (has_event (is_for k)) past.records rec);
      since_told = λ at.
          let here = balanced_more rec.kernel rec.event old.given.entries new.given.entries at (issued_at old.issued.entries at) (given_since (about_of at) past.records) (told.since_told at) given in
          let grown : since_by (at_kernel (issued_at old.issued.entries at)) rec.event (given_since (about_of at) past.records) ≡ given_since (about_of at) (past.records ++ rec ∷ []) = ap (λ o. since_by o rec.event (given_since (about_of at) past.records)) (told.issuer_told at) ∙ sym (since_more (about_of at) past.records rec) in
          let kept = subst (λ (o : Option Issued). Balanced o new.given.entries (since_by (at_kernel (issued_at old.issued.entries at)) rec.event (given_since (about_of at) past.records))) (sym (more.issued at)) here in
          subst (λ (n : ℕ). Balanced (issued_at new.issued.entries at) new.given.entries n) grown kept;
      sent_told = λ at.
          ap count_or (more.sent at)
          ∙ sent_step rec.event old.sent.entries at
          ∙ ap (λ n. n + one_if (is_counted_send (about_of at) rec.event)) (told.sent_told at)
          ∙ sym (count_more (has_event (is_counted_send (about_of at))) past.records rec);
    }
