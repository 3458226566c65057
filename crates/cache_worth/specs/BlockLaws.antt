-- What is kept of blocks tells whether each record moves its block for a cause.
use Rattle.std.proofs.Common.{◌≡◌, ◌∙◌, ℕ, ◌==◌, Bool, false, ◌&&◌, ◌||◌, not, refl, sym, ap₂}
use Rattle.unix_calls.specs.declared.description.Description.{Description}
use Rattle.unix_calls.specs.declared.event.SendKind.TheVariants as send
use Rattle.unix_calls.specs.declared.event.Event.{Event}
use Rattle.unix_calls.specs.declared.event.Event.TheVariants as event
use Rattle.unix_calls.specs.declared.event.Rec.{Rec}
use Rattle.call_journal.specs.Past.{Past, since_last, past_with}
use Rattle.call_journal.specs.Matching.{is_at, is_fetch, is_write_back}
use Rattle.call_journal.specs.Drops.{is_filled}
use Rattle.call_journal.specs.WriteBacks.{is_dirtied}
use Rattle.call_journal.specs.WorthCaches.{is_mode_of, is_written, is_changed, is_renewed}
use Rattle.trace_rules.specs.declared.place.BlockAt.{BlockAt}
use Rattle.cache_worth.specs.declared.since.Since.{Since}
use Rattle.cache_worth.specs.declared.cleaned.Cleaned.{Cleaned}
use Rattle.cache_worth.specs.declared.sent.Sent.{Sent}
use Rattle.cache_worth.specs.declared.fetched.Fetched.{Fetched}
use Rattle.trace_rules.specs.Lists.{and_false, or_false}
use Rattle.cache_worth.specs.Lists.{any_same, and_either}
use Rattle.trace_rules.specs.Places.{file_of}
use Rattle.cache_worth.specs.Parts.{cleans_well, sends_back_well, fetches_anew}
use Rattle.cache_worth.specs.Since.{StepsOn, begins_at, changes_at, takes_in, Reads, TellsSince}
use Rattle.cache_worth.specs.SinceLaws.{changed_law, since_told_on}
use Rattle.cache_worth.specs.Blocks.{cleaned_at, sent_at, fetched_at, dirtied_at, filled_at, taken_at, never_at, cleaned_step, is_due_clean, sent_step, is_due_send, fetched_step, is_due_fetch}

abbrev here : ℕ → BlockAt → Bool
here kernel at = kernel == at.kernel

-- ---- cleaned

cleaned_begin : (kernel : ℕ) (e : Event) (at : BlockAt) → (here kernel at && is_written at.file at.block e) ≡ begins_at (cleaned_step kernel e) at
cleaned_begin kernel (event.WroteBack f b) at = refl
cleaned_begin kernel (event.Send tx to about (send.WriteBack f b)) at = and_false (here kernel at)
cleaned_begin kernel (event.Send tx to about (send.Op f)) at = and_false (here kernel at)
cleaned_begin kernel _ at = and_false (here kernel at)

cleaned_change : (kernel : ℕ) (e : Event) (at : BlockAt) → (here kernel at && is_write_back at.file at.block e) ≡ changes_at (cleaned_step kernel e) at
cleaned_change kernel (event.WroteBack f b) at = and_false (here kernel at)
cleaned_change kernel (event.Send tx to about (send.WriteBack f b)) at = refl
cleaned_change kernel (event.Send tx to about (send.Op f)) at = and_false (here kernel at)
cleaned_change kernel _ at = and_false (here kernel at)

cleaned_take : (kernel : ℕ) (e : Event) (at : BlockAt) → false ≡ takes_in (cleaned_step kernel e) (file_of at)
cleaned_take kernel (event.WroteBack f b) at = refl
cleaned_take kernel (event.Send tx to about (send.WriteBack f b)) at = refl
cleaned_take kernel (event.Send tx to about (send.Op f)) at = refl
cleaned_take kernel _ at = refl

cleaned_reads : (rec : Rec) → Reads cleaned_at sent_at never_at (cleaned_step rec.kernel rec.event) rec
cleaned_reads rec = record {
  begin = λ at. cleaned_begin rec.kernel rec.event at;
  change = λ at. cleaned_change rec.kernel rec.event at;
  take = λ at. cleaned_take rec.kernel rec.event at;
}

cleaned_by : (since : Since) (past : Past) (kernel : ℕ) (e : Event) → TellsSince cleaned_at sent_at never_at since past.records → cleans_well past kernel e ≡ is_due_clean since kernel e
cleaned_by since past kernel (event.WroteBack f b) told =
    let at : BlockAt = record { kernel = kernel; file = f; block = b } in
    sym (changed_law cleaned_at sent_at never_at since past.records at told
    ∙ any_same (λ (r : Rec). sent_at at r || never_at at r) (sent_at at) (since_last (cleaned_at at) past.records) (λ r. or_false (sent_at at r)))
cleaned_by since past kernel (event.Dirtied f b) told = refl
cleaned_by since past kernel _ told = refl

pub cleaned_told : (c : Description) (judge : Cleaned) (past : Past) (rec : Rec) → TellsSince cleaned_at sent_at never_at judge.since past.records → cleans_well past rec.kernel rec.event ≡ is_due_clean judge.since rec.kernel rec.event
cleaned_told c judge past rec told = cleaned_by judge.since past rec.kernel rec.event told

pub cleaned_told_on : (c : Description) (old new : Cleaned) (past : Past) (rec : Rec) → TellsSince cleaned_at sent_at never_at old.since past.records → StepsOn (cleaned_step rec.kernel rec.event) old.since new.since → TellsSince cleaned_at sent_at never_at new.since (past_with c rec past).records
cleaned_told_on c old new past rec told more = since_told_on cleaned_at sent_at never_at (cleaned_step rec.kernel rec.event) old.since new.since past.records rec (cleaned_reads rec) told more

-- ---- sent

sent_begin : (kernel : ℕ) (e : Event) (at : BlockAt) → (here kernel at && is_write_back at.file at.block e) ≡ begins_at (sent_step kernel e) at
sent_begin kernel (event.Send tx to about (send.WriteBack f b)) at = refl
sent_begin kernel (event.Send tx to about (send.Op f)) at = and_false (here kernel at)
sent_begin kernel _ at = and_false (here kernel at)

sent_change : (kernel : ℕ) (e : Event) (at : BlockAt) → (here kernel at && is_dirtied at.file at.block e) ≡ changes_at (sent_step kernel e) at
sent_change kernel (event.Dirtied f b) at = refl
sent_change kernel (event.Send tx to about (send.WriteBack f b)) at = and_false (here kernel at)
sent_change kernel (event.Send tx to about (send.Op f)) at = and_false (here kernel at)
sent_change kernel _ at = and_false (here kernel at)

sent_take : (kernel : ℕ) (e : Event) (at : BlockAt) → (here kernel at && is_mode_of at.file e) ≡ takes_in (sent_step kernel e) (file_of at)
sent_take kernel (event.Mode f s m) at = refl
sent_take kernel (event.Send tx to about (send.WriteBack f b)) at = and_false (here kernel at)
sent_take kernel (event.Send tx to about (send.Op f)) at = and_false (here kernel at)
sent_take kernel _ at = and_false (here kernel at)

sent_reads : (rec : Rec) → Reads sent_at dirtied_at taken_at (sent_step rec.kernel rec.event) rec
sent_reads rec = record {
  begin = λ at. sent_begin rec.kernel rec.event at;
  change = λ at. sent_change rec.kernel rec.event at;
  take = λ at. sent_take rec.kernel rec.event at;
}

sent_by : (since : Since) (past : Past) (kernel : ℕ) (e : Event) → TellsSince sent_at dirtied_at taken_at since past.records → sends_back_well past kernel e ≡ is_due_send since kernel e
sent_by since past kernel (event.Send tx to about (send.WriteBack f b)) told =
    let at : BlockAt = record { kernel = kernel; file = f; block = b } in
    sym (changed_law sent_at dirtied_at taken_at since past.records at told
    ∙ any_same (λ (r : Rec). dirtied_at at r || taken_at at r) (is_at kernel (is_changed f b)) (since_last (sent_at at) past.records) (λ r. and_either (here r.kernel at) (is_dirtied f b r.event) (is_mode_of f r.event)))
sent_by since past kernel (event.Send tx to about (send.Op f)) told = refl
sent_by since past kernel _ told = refl

pub sent_told : (c : Description) (judge : Sent) (past : Past) (rec : Rec) → TellsSince sent_at dirtied_at taken_at judge.since past.records → sends_back_well past rec.kernel rec.event ≡ is_due_send judge.since rec.kernel rec.event
sent_told c judge past rec told = sent_by judge.since past rec.kernel rec.event told

pub sent_told_on : (c : Description) (old new : Sent) (past : Past) (rec : Rec) → TellsSince sent_at dirtied_at taken_at old.since past.records → StepsOn (sent_step rec.kernel rec.event) old.since new.since → TellsSince sent_at dirtied_at taken_at new.since (past_with c rec past).records
sent_told_on c old new past rec told more = since_told_on sent_at dirtied_at taken_at (sent_step rec.kernel rec.event) old.since new.since past.records rec (sent_reads rec) told more

-- ---- fetched

fetched_begin : (kernel : ℕ) (e : Event) (at : BlockAt) → (here kernel at && is_fetch at.file at.block e) ≡ begins_at (fetched_step kernel e) at
fetched_begin kernel (event.Send tx to about (send.Fetch f b)) at = refl
fetched_begin kernel (event.Send tx to about (send.Op f)) at = and_false (here kernel at)
fetched_begin kernel _ at = and_false (here kernel at)

fetched_change : (kernel : ℕ) (e : Event) (at : BlockAt) → (here kernel at && is_filled at.file at.block e) ≡ changes_at (fetched_step kernel e) at
fetched_change kernel (event.Filled f b) at = refl
fetched_change kernel (event.Send tx to about (send.Fetch f b)) at = and_false (here kernel at)
fetched_change kernel (event.Send tx to about (send.Op f)) at = and_false (here kernel at)
fetched_change kernel _ at = and_false (here kernel at)

fetched_take : (kernel : ℕ) (e : Event) (at : BlockAt) → (here kernel at && is_mode_of at.file e) ≡ takes_in (fetched_step kernel e) (file_of at)
fetched_take kernel (event.Mode f s m) at = refl
fetched_take kernel (event.Send tx to about (send.Fetch f b)) at = and_false (here kernel at)
fetched_take kernel (event.Send tx to about (send.Op f)) at = and_false (here kernel at)
fetched_take kernel _ at = and_false (here kernel at)

fetched_reads : (rec : Rec) → Reads fetched_at filled_at taken_at (fetched_step rec.kernel rec.event) rec
fetched_reads rec = record {
  begin = λ at. fetched_begin rec.kernel rec.event at;
  change = λ at. fetched_change rec.kernel rec.event at;
  take = λ at. fetched_take rec.kernel rec.event at;
}

fetched_by : (since : Since) (past : Past) (kernel : ℕ) (e : Event) → TellsSince fetched_at filled_at taken_at since past.records → fetches_anew past kernel e ≡ is_due_fetch since kernel e
fetched_by since past kernel (event.Send tx to about (send.Fetch f b)) told =
    let at : BlockAt = record { kernel = kernel; file = f; block = b } in
    ap₂ (λ a b. not (a && not b)) (sym (told.begun_told at)) (sym (changed_law fetched_at filled_at taken_at since past.records at told
    ∙ any_same (λ (r : Rec). filled_at at r || taken_at at r) (is_at kernel (is_renewed f b)) (since_last (fetched_at at) past.records) (λ r. and_either (here r.kernel at) (is_filled f b r.event) (is_mode_of f r.event))))
fetched_by since past kernel (event.Send tx to about (send.Op f)) told = refl
fetched_by since past kernel _ told = refl

pub fetched_told : (c : Description) (judge : Fetched) (past : Past) (rec : Rec) → TellsSince fetched_at filled_at taken_at judge.since past.records → fetches_anew past rec.kernel rec.event ≡ is_due_fetch judge.since rec.kernel rec.event
fetched_told c judge past rec told = fetched_by judge.since past rec.kernel rec.event told

pub fetched_told_on : (c : Description) (old new : Fetched) (past : Past) (rec : Rec) → TellsSince fetched_at filled_at taken_at old.since past.records → StepsOn (fetched_step rec.kernel rec.event) old.since new.since → TellsSince fetched_at filled_at taken_at new.since (past_with c rec past).records
fetched_told_on c old new past rec told more = since_told_on fetched_at filled_at taken_at (fetched_step rec.kernel rec.event) old.since new.since past.records rec (fetched_reads rec) told more
