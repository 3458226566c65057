-- What the records tell of a kill, with one record more.
use Rattle.std.proofs.Common.{◌≡◌, ◌∙◌, ℕ, ◌==◌, Bool, true, false, ◌&&◌, ◌||◌, not, List, [], ◌∷◌, ◌++◌, Option, Some, None, refl, sym, ap}
use Rattle.std.specs.List.{list_any}
use Rattle.std.proofs.lemmas.Bool.{eqb-true}
use Rattle.sprite_ids.specs.Pid.{home_of}
use Rattle.unix_calls.specs.declared.description.Description.{Description}
use Rattle.unix_calls.specs.declared.entry.Entry.{Entry}
use Rattle.unix_calls.specs.declared.event.About.{About}
use Rattle.unix_calls.specs.declared.event.Event.{Event}
use Rattle.unix_calls.specs.declared.event.Event.TheVariants as event
use Rattle.unix_calls.specs.declared.event.Rec.{Rec}
use Rattle.call_journal.specs.Past.{Past, holds, no_past, past_with, past_from, place_of, some_from}
use Rattle.call_journal.specs.Matching.{is_at, is_request, is_send_about_to}
use Rattle.call_journal.specs.WorthKills.{is_met, is_met_send, is_met_kill, knows_kill}
use Rattle.kill_worth.specs.declared.keys.KillAt.{KillAt}
use Rattle.kill_worth.specs.declared.keys.RequestAt.{RequestAt}
use Rattle.kill_worth.specs.Told.{kill_sent}
use Rattle.kill_worth.specs.Known.{is_met_away, is_call_of, has_kill, is_told_by, number_of, has_send}
use Rattle.kill_worth.proofs.TestLaws.{and_false, same_turned}
use Rattle.trace_laws.specs.SomeLaws.{some_if, some_none, some_plain, some_same}
use Rattle.kill_worth.proofs.SomeLaws.{two_from, two_more, two_same, two_none, two_if, three_from, three_more}

-- ---- kills

pub kill_more : (c : Description) (past : Past) (rec : Rec) (at : KillAt) (pid : ℕ) → past_from c (no_past c) past.records ≡ past → has_kill c (past.records ++ rec ∷ []) at pid ≡ (has_kill c past.records at pid || (is_met_away pid at.to past rec.event && is_call_of pid at rec.event))
kill_more c past rec at pid reached = some_plain c (λ e r. is_met_away pid at.to e r.event && is_call_of pid at r.event) past (no_past c) past.records rec reached

-- ---- requests that tell of kills

abbrev pub tells_with : ℕ → RequestAt → Rec → Rec → Bool
tells_with pid at r s = is_told_by pid at.kernel r.event s && number_of s.event == at.tx.0

pub send_more : (c : Description) (past : Past) (rec : Rec) (at : RequestAt) (pid : ℕ) → past_from c (no_past c) past.records ≡ past → has_send c (past.records ++ rec ∷ []) at pid ≡ (has_send c past.records at pid || some_from c (λ e r rest. is_met_away pid at.kernel e r.event && tells_with pid at r rec) (no_past c) past.records)
send_more c past rec at pid reached = two_more c (λ e r. is_met_away pid at.kernel e r.event) (tells_with pid at) past (no_past c) past.records rec reached

-- another event than a packet about a call tells of no kill
none_told : (pid kernel : ℕ) (killer : Event) (k : ℕ) (e : Event) → ((p n : ℕ) → is_send_about_to p n kernel e ≡ false) → is_told_by pid kernel killer (record { kernel = k; event = e }) ≡ false
none_told pid kernel (event.Enter entry) k e none = ap (λ b. k == home_of pid && b) (none entry.pid entry.number) ∙ and_false (k == home_of pid)
none_told pid kernel (event.Burst p count) k e none = refl
none_told pid kernel _ k e none = refl

abbrev pub Tells : Description → List Rec → ℕ → RequestAt → Rec → Bool
Tells c records pid at rec = some_from c (λ e r rest. is_met_away pid at.kernel e r.event && tells_with pid at r rec) (no_past c) records

none_sent : (c : Description) (records : List Rec) (pid : ℕ) (at : RequestAt) (k : ℕ) (e : Event) → ((p n : ℕ) → is_send_about_to p n at.kernel e ≡ false) → Tells c records pid at (record { kernel = k; event = e }) ≡ false
none_sent c records pid at k e none =
    some_none c (λ past r rest. is_met_away pid at.kernel past r.event && tells_with pid at r (record { kernel = k; event = e })) (no_past c) records
    (λ past r rest. ap (λ b. is_met_away pid at.kernel past r.event && (b && number_of e == at.tx.0)) (none_told pid at.kernel r.event k e none) ∙ and_false (is_met_away pid at.kernel past r.event))

with_call : (m h call t : Bool) → (m && ((h && (call && true)) && t)) ≡ ((m && (h && call)) && (true && t))
with_call true true true t = refl
with_call true true false t = refl
with_call true false call t = refl
with_call false h call t = refl

with_none : (m h call t y : Bool) → (m && ((h && (call && false)) && t)) ≡ (y && (false && t))
with_none true true true t y = sym (and_false y)
with_none true true false t y = sym (and_false y)
with_none true false call t y = sym (and_false y)
with_none false h call t y = sym (and_false y)

call_by : (pid k to kernel : ℕ) (about : About) (t b : Bool) (past : Past) (entry : Entry) → (to == kernel) ≡ b → (is_met_away pid kernel past (event.Enter entry) && ((k == home_of pid && ((about.pid == entry.pid && about.number == entry.number) && b)) && t)) ≡ ((is_met_away pid to past (event.Enter entry) && is_call_of pid (kill_sent k to about) (event.Enter entry)) && (b && t))
call_by pid k to kernel about t true past entry is =
    with_call (is_met_away pid kernel past (event.Enter entry)) (k == home_of pid) (about.pid == entry.pid && about.number == entry.number) t
    ∙ sym (ap (λ (j : ℕ). (is_met_away pid j past (event.Enter entry) && is_call_of pid (kill_sent k to about) (event.Enter entry)) && (true && t)) (eqb-true to kernel is))
call_by pid k to kernel about t false past entry is =
    with_none (is_met_away pid kernel past (event.Enter entry)) (k == home_of pid) (about.pid == entry.pid && about.number == entry.number) t (is_met_away pid to past (event.Enter entry) && is_call_of pid (kill_sent k to about) (event.Enter entry))

packet_by : (pid k to : ℕ) (at : RequestAt) (about : About) (s : Event) (t : Bool) (past : Past) (killer : Event) → ((entry : Entry) → is_told_by pid at.kernel (event.Enter entry) (record { kernel = k; event = s }) ≡ (k == home_of pid && ((about.pid == entry.pid && about.number == entry.number) && to == at.kernel))) → (is_met_away pid at.kernel past killer && (is_told_by pid at.kernel killer (record { kernel = k; event = s }) && t)) ≡ ((is_met_away pid to past killer && is_call_of pid (kill_sent k to about) killer) && (to == at.kernel && t))
packet_by pid k to at about s t past (event.Enter entry) tells =
    ap (λ b. is_met_away pid at.kernel past (event.Enter entry) && (b && t)) (tells entry)
    ∙ call_by pid k to at.kernel about t (to == at.kernel) past entry refl
packet_by pid k to at about s t past (event.Burst p count) tells = refl
packet_by pid k to at about s t past _ tells = refl

-- what a packet of a kernel tells
abbrev pub told_to : Description → List Rec → ℕ → RequestAt → ℕ → RequestAt → Option About → Bool
told_to c records pid at k request None = false
told_to c records pid at k request (Some about) =
    has_kill c records (kill_sent k request.kernel about) pid && (request.kernel == at.kernel && request.tx.0 == at.tx.0)

abbrev pub told_of : Description → List Rec → ℕ → RequestAt → ℕ → Event → Bool
told_of c records pid at k (event.Send tx to about kind) = told_to c records pid at k (record { kernel = to; tx = tx }) about
told_of c records pid at k _ = false

pub tells_is : (c : Description) (records : List Rec) (pid : ℕ) (at : RequestAt) (k : ℕ) (e : Event) → Tells c records pid at (record { kernel = k; event = e }) ≡ told_of c records pid at k e
tells_is c records pid at k (event.Send tx to (Some about) kind) =
    let s : Event = event.Send tx to (Some about) kind in
    some_same c (λ past r rest. is_met_away pid at.kernel past r.event && tells_with pid at r (record { kernel = k; event = s })) (λ past r rest. (is_met_away pid to past r.event && is_call_of pid (kill_sent k to about) r.event) && (to == at.kernel && tx.0 == at.tx.0)) (no_past c) records
    (λ past r rest. packet_by pid k to at about s (tx.0 == at.tx.0) past r.event (λ entry. refl))
    ∙ some_if c (λ past r rest. is_met_away pid to past r.event && is_call_of pid (kill_sent k to about) r.event) (to == at.kernel && tx.0 == at.tx.0) (no_past c) records
tells_is c records pid at k (event.Send tx to None kind) = none_sent c records pid at k (event.Send tx to None kind) (λ p n. refl)
tells_is c records pid at k (event.Burst p count) = none_sent c records pid at k (event.Burst p count) (λ p n. refl)
tells_is c records pid at k e = none_sent c records pid at k e (λ p n. refl)

-- ---- kills that are known

abbrev pub meets_at : ℕ → ℕ → Rec → Past → Rec → Bool
meets_at pid kernel s later t = is_met later pid kernel (number_of s.event) t

send_by : (c : Description) (pid kernel : ℕ) (entry : Entry) (later : Past) (k : ℕ) (e : Event) (behind : List Rec) → is_met_send c later pid kernel entry (record { kernel = k; event = e }) e behind ≡ (is_told_by pid kernel (event.Enter entry) (record { kernel = k; event = e }) && some_from c (λ past t rest. meets_at pid kernel (record { kernel = k; event = e }) past t) (past_with c (record { kernel = k; event = e }) later) behind)
send_by c pid kernel entry later k (event.Send tx to about kind) behind = refl
send_by c pid kernel entry later k (event.Burst p count) behind = none (k == home_of pid) (some_from c (λ past t rest. meets_at pid kernel (record { kernel = k; event = event.Burst p count }) past t) (past_with c (record { kernel = k; event = event.Burst p count }) later) behind)
  where
    none : (h b : Bool) → false ≡ ((h && false) && b)
    none true b = refl
    none false b = refl
send_by c pid kernel entry later k e behind = none (k == home_of pid) (some_from c (λ past t rest. meets_at pid kernel (record { kernel = k; event = e }) past t) (past_with c (record { kernel = k; event = e }) later) behind)
  where
    none : (h b : Bool) → false ≡ ((h && false) && b)
    none true b = refl
    none false b = refl

abbrev behind_kill : Description → ℕ → ℕ → Event → Past → List Rec → Bool
behind_kill c pid kernel killer past rest = some_from c (λ later s behind. is_told_by pid kernel killer s && some_from c (λ p t b. meets_at pid kernel s p t) (past_with c s later) behind) past rest

kill_by : (c : Description) (pid kernel : ℕ) (past : Past) (k : ℕ) (e : Event) (rest : List Rec) → is_met_kill c past pid kernel (record { kernel = k; event = e }) e rest ≡ (is_met_away pid kernel past e && behind_kill c pid kernel e (past_with c (record { kernel = k; event = e }) past) rest)
kill_by c pid kernel past k (event.Enter entry) rest =
    ap (λ b. is_met_away pid kernel past (event.Enter entry) && b)
    (some_same c (λ later s behind. is_met_send c later pid kernel entry s s.event behind) (λ later s behind. is_told_by pid kernel (event.Enter entry) s && some_from c (λ p t b. meets_at pid kernel s p t) (past_with c s later) behind) (past_with c (record { kernel = k; event = event.Enter entry }) past) rest
    (λ later s behind. send_by c pid kernel entry later s.kernel s.event behind))
kill_by c pid kernel past k (event.Burst p count) rest = refl
kill_by c pid kernel past k _ rest = refl

abbrev Knows : Description → ℕ → ℕ → List Rec → Bool
Knows c pid kernel records = three_from c (λ e r. is_met_away pid kernel e r.event) (λ r s. is_told_by pid kernel r.event s) (meets_at pid kernel) (no_past c) records

knows_is : (c : Description) (records : List Rec) (pid kernel : ℕ) → knows_kill c records pid kernel ≡ Knows c pid kernel records
knows_is c records pid kernel =
    some_same c (λ e r rest. is_met_kill c e pid kernel r r.event rest) (λ e r rest. is_met_away pid kernel e r.event && behind_kill c pid kernel r.event (past_with c r e) rest) (no_past c) records
    (λ e r rest. kill_by c pid kernel e r.kernel r.event rest)

abbrev pub Meets : Description → List Rec → ℕ → ℕ → Past → Rec → Bool
Meets c records pid kernel past rec = two_from c (λ e r. is_met_away pid kernel e r.event) (λ r s. is_told_by pid kernel r.event s && meets_at pid kernel s past rec) (no_past c) records

pub known_more : (c : Description) (past : Past) (rec : Rec) (pid kernel : ℕ) → past_from c (no_past c) past.records ≡ past → knows_kill c (past.records ++ rec ∷ []) pid kernel ≡ (knows_kill c past.records pid kernel || Meets c past.records pid kernel past rec)
known_more c past rec pid kernel reached =
    knows_is c (past.records ++ rec ∷ []) pid kernel
    ∙ three_more c (λ e r. is_met_away pid kernel e r.event) (λ r s. is_told_by pid kernel r.event s) (meets_at pid kernel) past (no_past c) past.records rec reached
    ∙ ap (λ b. b || Meets c past.records pid kernel past rec) (sym (knows_is c past.records pid kernel))

-- what a request meets at a kernel where it is taken
abbrev pub is_there : Past → ℕ → ℕ → Bool
is_there past pid kernel = holds (λ at. at == kernel) (place_of past pid)

abbrev pub was_taken : Past → ℕ → ℕ → Bool
was_taken past kernel tx = list_any (is_at kernel (is_request tx)) past.records

abbrev pub met_by : Description → Past → ℕ → ℕ → ℕ → Event → Bool
met_by c past pid kernel k (event.Deliver tx from false about) =
    has_send c past.records (record { kernel = kernel; tx = tx }) pid && ((k == kernel && is_there past pid kernel) && not (was_taken past kernel tx.0))
met_by c past pid kernel k _ = false

none_met : (c : Description) (past : Past) (pid kernel k : ℕ) (e : Event) → ((n : ℕ) → is_request n e ≡ false) → Meets c past.records pid kernel past (record { kernel = k; event = e }) ≡ false
none_met c past pid kernel k e none =
    two_none c (λ a r. is_met_away pid kernel a r.event) (λ r s. is_told_by pid kernel r.event s && meets_at pid kernel s past (record { kernel = k; event = e })) (no_past c) past.records
    (λ r s.
    ap (λ b. is_told_by pid kernel r.event s && (((k == kernel && b) && is_there past pid kernel) && not (was_taken past kernel (number_of s.event)))) (none (number_of s.event))
    ∙ by (is_told_by pid kernel r.event s) (k == kernel) (is_there past pid kernel) (not (was_taken past kernel (number_of s.event))))
  where
    by : (b h p q : Bool) → (b && (((h && false) && p) && q)) ≡ false
    by true true p q = refl
    by true false p q = refl
    by false h p q = refl

meet_so : (b h p q : Bool) → (b && (((h && true) && p) && q)) ≡ ((b && true) && ((h && p) && q))
meet_so true true p q = refl
meet_so true false p q = refl
meet_so false h p q = refl

meet_not : (b h p q r : Bool) → (b && (((h && false) && p) && q)) ≡ ((b && false) && r)
meet_not true true p q r = refl
meet_not true false p q r = refl
meet_not false h p q r = refl

meet_by : (past : Past) (pid kernel k tx n : ℕ) (told b : Bool) → (tx == n) ≡ b → (told && (((k == kernel && b) && is_there past pid kernel) && not (was_taken past kernel n))) ≡ ((told && b) && ((k == kernel && is_there past pid kernel) && not (was_taken past kernel tx)))
meet_by past pid kernel k tx n told true is =
    ap (λ (m : ℕ). told && (((k == kernel && true) && is_there past pid kernel) && not (was_taken past kernel m))) (sym (eqb-true tx n is))
    ∙ meet_so told (k == kernel) (is_there past pid kernel) (not (was_taken past kernel tx))
meet_by past pid kernel k tx n told false is =
    meet_not told (k == kernel) (is_there past pid kernel) (not (was_taken past kernel n)) ((k == kernel && is_there past pid kernel) && not (was_taken past kernel tx))

pub meets_is : (c : Description) (past : Past) (pid kernel k : ℕ) (e : Event) → Meets c past.records pid kernel past (record { kernel = k; event = e }) ≡ met_by c past pid kernel k e
meets_is c past pid kernel k (event.Deliver tx from false about) =
    let rec : Rec = record { kernel = k; event = event.Deliver tx from false about } in
    let w = (k == kernel && is_there past pid kernel) && not (was_taken past kernel tx.0) in
    two_same c (λ a r. is_met_away pid kernel a r.event) (λ r s. is_told_by pid kernel r.event s && meets_at pid kernel s past rec) (λ r s. (is_told_by pid kernel r.event s && number_of s.event == tx.0) && w) (no_past c) past.records
    (λ r s.
    meet_by past pid kernel k tx.0 (number_of s.event) (is_told_by pid kernel r.event s) (tx.0 == number_of s.event) refl
    ∙ ap (λ b. (is_told_by pid kernel r.event s && b) && w) (same_turned tx.0 (number_of s.event)))
    ∙ two_if c (λ a r. is_met_away pid kernel a r.event) (λ r s. is_told_by pid kernel r.event s && number_of s.event == tx.0) w (no_past c) past.records
meets_is c past pid kernel k (event.Deliver tx from true about) = none_met c past pid kernel k (event.Deliver tx from true about) (λ n. refl)
meets_is c past pid kernel k (event.Burst p count) = none_met c past pid kernel k (event.Burst p count) (λ n. refl)
meets_is c past pid kernel k e = none_met c past pid kernel k e (λ n. refl)
