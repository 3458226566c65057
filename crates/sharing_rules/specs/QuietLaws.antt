-- Which calls were done in a cache and have not returned is told record by record.
use Rattle.std.proofs.Common.{◌≡◌, ◌∙◌, ℕ, ◌==◌, Bool, true, false, cond, not, ◌&&◌, ◌||◌, List, [], ◌∷◌, ◌++◌, Option, Some, None, refl, sym, ap, ap₂}
use Rattle.std.specs.List.{list_any}
use Rattle.std.proofs.lemmas.Bool.{eqb-true}
use Rattle.std.specs.Option.{is_some, option_and_then}
use Rattle.unix_calls.specs.declared.description.Description.{Description}
use Rattle.unix_calls.specs.declared.event.Event.{Event}
use Rattle.unix_calls.specs.declared.event.Event.TheVariants as event
use Rattle.unix_calls.specs.declared.event.Rec.{Rec}
use Rattle.unix_calls.specs.declared.state.Stream.{Stream}
use Rattle.call_journal.specs.Past.{Past, Tie, holds, tie_at, stream_in, no_past, past_with, past_from, past_of, some_from}
use Rattle.call_journal.specs.Matching.{is_return, has_event}
use Rattle.call_journal.specs.CachedCalls.{FileUse, use_of, is_local, is_file_use, is_cached_use, is_between}
use Rattle.trace_rules.specs.Lists.{any_more, or_false}
use Rattle.sharing_rules.specs.declared.entry_facts.LocalUse.{LocalUse}
use Rattle.trace_tables.specs.declared.CallAt.{CallAt}
use Rattle.sharing_rules.specs.Facts.{span_on, use_at, local_at}
use Rattle.sharing_rules.specs.Cached.{quiet_behind}

-- what stands behind one record more
pub past_more : (c : Description) (past : Past) (records : List Rec) (rec : Rec) → past_from c past (records ++ rec ∷ []) ≡ past_with c rec (past_from c past records)
past_more c past [] rec = refl
past_more c past (x ∷ xs) rec = past_more c (past_with c x past) xs rec

-- the tests of the records so far, with one more behind them
returned : (used any ret more last : Bool) → (used && not (cond ret true any) || (cond ret false more || last)) ≡ (cond ret false (used && not any || more) || last)
returned used any true more last = by used
  where
    by : (b : Bool) → (b && false || last) ≡ last
    by true = refl
    by false = refl
returned used any false more last = by (used && not any)
  where
    by : (b : Bool) → (b || (more || last)) ≡ ((b || more) || last)
    by true = refl
    by false = refl

alone : (used ret : Bool) → (used && true || false) ≡ (cond ret false false || used)
alone true true = refl
alone true false = refl
alone false true = refl
alone false false = refl

between_more : (c : Description) (past : Past) (pid number : ℕ) (records : List Rec) (rec : Rec) → some_from c (λ earlier r rest. is_between earlier r.kernel pid number r.event rest) past (records ++ rec ∷ []) ≡ (cond (is_return pid number rec.event) false (some_from c (λ earlier r rest. is_between earlier r.kernel pid number r.event rest) past records) || is_cached_use (past_from c past records) rec.kernel pid number rec.event)
between_more c past pid number [] rec = alone (is_cached_use past rec.kernel pid number rec.event) (is_return pid number rec.event)
between_more c past pid number (x ∷ xs) rec =
    let between : Past → Rec → List Rec → Bool = λ earlier r rest. is_between earlier r.kernel pid number r.event rest in
    ap₂ (λ a b. is_cached_use past x.kernel pid number x.event && not a || b) (any_more (has_event (is_return pid number)) xs rec) (between_more c (past_with c x past) pid number xs rec)
    ∙ returned (is_cached_use past x.kernel pid number x.event) (list_any (has_event (is_return pid number)) xs) (is_return pid number rec.event) (some_from c between (past_with c x past) xs) (is_cached_use (past_from c (past_with c x past) xs) rec.kernel pid number rec.event)

-- ---- a use of a file is what is told of its entry

span_some : (used : FileUse) (o : Option Stream) (places : Stream → Option Tie) → holds (λ (t : Tie). true) (option_and_then places o) ≡ is_some (span_on used o (option_and_then places o))
span_some used None places = refl
span_some used (Some s) places = by (places s)
  where
    by : (t : Option Tie) → holds (λ (x : Tie). true) t ≡ is_some (span_on used (Some s) t)
    by None = refl
    by (Some tie) = refl

use_some : (past : Past) (pid : ℕ) (o : Option FileUse) → is_file_use past pid o ≡ is_some (use_at past pid o)
use_some past pid None = refl
use_some past pid (Some used) = span_some used (stream_in past pid used.fd) (λ (s : Stream). tie_at past.ties s.place)

local_some : (local uses : Bool) (o : Option LocalUse) → uses ≡ is_some o → (local && uses) ≡ is_some (cond local o None)
local_some true uses o is = is
local_some false uses o is = refl

-- ---- one record more

entered_by : (same local uses before : Bool) → (before || same && local && uses) ≡ cond (local && uses && same) true before
entered_by true true true true = refl
entered_by true true true false = refl
entered_by true true false true = refl
entered_by true true false false = refl
entered_by true false uses true = refl
entered_by true false uses false = refl
entered_by false true true true = refl
entered_by false true true false = refl
entered_by false true false true = refl
entered_by false true false false = refl
entered_by false false uses true = refl
entered_by false false uses false = refl

-- the call's own process is the one that is asked for
own_use : (past : Past) (p pid : ℕ) (numbered local same : Bool) (o : Option FileUse) → (p == pid) ≡ same → (same && numbered && local && is_file_use past pid o) ≡ (same && numbered && local && is_file_use past p o)
own_use past p pid numbered local true o is = ap (λ n. true && numbered && local && is_file_use past n o) (sym (eqb-true p pid is))
own_use past p pid numbered local false o is = refl

quiet_by : (past : Past) (kernel : ℕ) (e : Event) (at : CallAt) (before : Bool) → (cond (is_return at.pid at.number e) false before || is_cached_use past kernel at.pid at.number e) ≡ quiet_behind e (local_at past kernel e) at before
quiet_by past kernel (event.Enter entry) at before =
    ap (λ b. before || b) (own_use past entry.pid at.pid (entry.number == at.number) (is_local past kernel entry) (entry.pid == at.pid) (use_of past.unix entry.call entry.reply) refl)
    ∙ entered_by (entry.pid == at.pid && entry.number == at.number) (is_local past kernel entry) (is_file_use past entry.pid (use_of past.unix entry.call entry.reply)) before
    ∙ ap (λ b. cond (b && (entry.pid == at.pid && entry.number == at.number)) true before) (local_some (is_local past kernel entry) (is_file_use past entry.pid (use_of past.unix entry.call entry.reply)) (use_at past entry.pid (use_of past.unix entry.call entry.reply)) (use_some past entry.pid (use_of past.unix entry.call entry.reply)))
quiet_by past kernel (event.Return p n reply) at before = or_false (cond (p == at.pid && n == at.number) false before)
quiet_by past kernel _ at before = or_false before

pub quiet_more : (c : Description) (at : CallAt) (past : Past) (rec : Rec) (before : Bool) → past ≡ past_of c past.records → before ≡ some_from c (λ earlier r rest. is_between earlier r.kernel at.pid at.number r.event rest) (no_past c) past.records → quiet_behind rec.event (local_at past rec.kernel rec.event) at before ≡ some_from c (λ earlier r rest. is_between earlier r.kernel at.pid at.number r.event rest) (no_past c) (past.records ++ rec ∷ [])
quiet_more c at past rec before all told =
    sym (quiet_by past rec.kernel rec.event at before)
    ∙ ap₂ (λ b (p : Past). cond (is_return at.pid at.number rec.event) false b || is_cached_use p rec.kernel at.pid at.number rec.event) told all
    ∙ sym (between_more c (no_past c) at.pid at.number past.records rec)
