-- What is known of kills is told record by record.
use Rattle.std.proofs.Common.{◌≡◌, ◌∙◌, ℕ, zero, suc, ◌==◌, Bool, true, false, cond, ◌&&◌, ◌||◌, not, List, [], ◌∷◌, Option, Some, None, refl, sym, ap, ap₂}
use Rattle.std.proofs.lemmas.Bool.{eqb-true}
use Rattle.sprite_ids.specs.Pid.{home_of}
use Rattle.sprite_ids.specs.declared.names.TxNo.{TxNo}
use Rattle.unix_calls.specs.declared.description.Description.{Description}
use Rattle.unix_calls.specs.declared.entry.Entry.{Entry}
use Rattle.unix_calls.specs.declared.event.About.{About}
use Rattle.unix_calls.specs.declared.event.Event.{Event}
use Rattle.unix_calls.specs.declared.event.Event.TheVariants as event
use Rattle.unix_calls.specs.declared.event.Rec.{Rec}
use Rattle.call_journal.specs.Past.{Past, each_from, holds, no_past, past_with, place_of}
use Rattle.call_journal.specs.Matching.{is_at, is_request}
use Rattle.call_journal.specs.WorthKills.{killed_by, knows_kill}
use Rattle.trace_places.specs.declared.places.Place.{Place}
use Rattle.trace_places.specs.Places.{place_kept, settled_in}
use Rattle.trace_places.specs.PlaceLaws.{place_told}
use Rattle.kill_worth.specs.declared.away.Away.{Away}
use Rattle.kill_worth.specs.declared.keys.KillAt.{KillAt}
use Rattle.kill_worth.specs.declared.keys.KnownAt.{KnownAt}
use Rattle.kill_worth.specs.declared.keys.RequestAt.{RequestAt}
use Rattle.kill_worth.specs.declared.kills.Kills.{Kills}
use Rattle.kill_worth.specs.declared.known.Knowledge.{Knowledge}
use Rattle.kill_worth.specs.Kills.{same_kill, is_kill, has_killed, was_killed, first_away, settled_away, past_away, TellsKills}
use Rattle.kill_worth.specs.Told.{kill_sent}
use Rattle.kill_worth.specs.Known.{issues_well, killed_processes_are_silent, away_slot, is_pid, among, is_away, away_count, away_put, away_killed, away_behind, same_request, is_sent, sent_count, sent_slot, sends_one, sends_first, sends_each, sent_about, sent_behind, has_taken, taken_behind, has_known, is_placed_in, is_placed, meets_one, meets_first, known_taken, known_behind, KeepsKnowledge, BeginsKnowledge, may_issue, is_met_away, is_call_of, has_kill, has_send, TellsKnowledge, Hearing}
use Rattle.trace_laws.specs.SomeLaws.{or_false}
use Rattle.kill_worth.proofs.TestLaws.{and_false, same_turned, any_more}
use Rattle.kill_worth.proofs.SomeLaws.{past_last}
use Rattle.kill_worth.proofs.KillLaws.{away_told, kills_is, kills_begin, kills_more}
use Rattle.kill_worth.proofs.MetLaws.{kill_more, send_more, told_to, told_of, tells_is, known_more, is_there, was_taken, met_by, meets_is}

-- ---- the processes that were killed while they were away

-- an entry's kill by what the records tell
flips : (pid : ℕ) (at : KillAt) (entry : Entry) → (at.home == home_of pid && (at.pid == entry.pid && at.number == entry.number)) ≡ (home_of pid == at.home && (entry.pid == at.pid && entry.number == at.number))
flips pid at entry =
    ap₂ (λ a b. a && b) (same_turned at.home (home_of pid)) (ap₂ (λ a b. a && b) (same_turned at.pid entry.pid) (same_turned at.number entry.number))

some_away : (pid x : ℕ) (at : KillAt) (entry : Entry) (z q y : Bool) → (x == at.to) ≡ q → (q ≡ true → y ≡ z) → ((q && not y) && (home_of pid == at.home && (entry.pid == at.pid && entry.number == at.number))) ≡ is_kill (cond z None (Some (record { home = home_of pid; to = x; pid = entry.pid; number = entry.number }))) at
some_away pid x at entry true true y is same = ap (λ b. (true && not b) && (home_of pid == at.home && (entry.pid == at.pid && entry.number == at.number))) (same refl)
some_away pid x at entry true false y is same = refl
some_away pid x at entry false true y is same =
    ap (λ b. (true && not b) && (home_of pid == at.home && (entry.pid == at.pid && entry.number == at.number))) (same refl)
    ∙ sym (ap (λ b. home_of pid == at.home && (b && (entry.pid == at.pid && entry.number == at.number))) is)
some_away pid x at entry false false y is same =
    sym (and_false (home_of pid == at.home))
    ∙ sym (ap (λ b. home_of pid == at.home && (b && (entry.pid == at.pid && entry.number == at.number))) is)

settled : (pid : ℕ) (at : KillAt) (entry : Entry) (b : Bool) (o : Option ℕ) → (((not b && holds (λ x. x == at.to) o) && not (at.to == home_of pid)) && (home_of pid == at.home && (entry.pid == at.pid && entry.number == at.number))) ≡ is_kill (cond b None (settled_away entry pid o)) at
settled pid at entry true o = refl
settled pid at entry false None = refl
settled pid at entry false (Some x) = some_away pid x at entry (x == home_of pid) (x == at.to) (at.to == home_of pid) refl (λ is. ap (λ n. n == home_of pid) (sym (eqb-true x at.to is)))

abbrev away_test : Past → Entry → KillAt → ℕ → Bool → Bool
away_test past entry at pid killed =
    (((killed && not (was_killed past pid)) && holds (λ x. x == at.to) (place_of past pid)) && not (at.to == home_of pid)) && (at.home == home_of pid && (at.pid == entry.pid && at.number == entry.number))

pid_away : (past : Past) (entry : Entry) (at : KillAt) (pid : ℕ) → away_test past entry at pid true ≡ is_kill (past_away past entry pid) at
pid_away past entry at pid =
    ap (λ b. ((not (was_killed past pid) && holds (λ x. x == at.to) (place_of past pid)) && not (at.to == home_of pid)) && b) (flips pid at entry)
    ∙ settled pid at entry (was_killed past pid) (place_of past pid)

and_true : (b : Bool) → (b && true) ≡ b
and_true true = refl
and_true false = refl

this_away : (past : Past) (entry : Entry) (at : KillAt) (pid p : ℕ) (b : Bool) → (pid == p) ≡ b → (is_kill (past_away past entry pid) at && b) ≡ away_test past entry at p b
this_away past entry at pid p true is =
    and_true (is_kill (past_away past entry pid) at)
    ∙ sym (pid_away past entry at pid)
    ∙ ap (λ n. away_test past entry at n true) (eqb-true pid p is)
this_away past entry at pid p false is = and_false (is_kill (past_away past entry pid) at)

put_is : (o : Option KillAt) (pid : ℕ) (at : KillAt) (p : ℕ) (before : Bool) → away_put o pid at p before ≡ (before || (is_kill o at && pid == p))
put_is None pid at p before = sym (or_false before)
put_is (Some kill) pid at p before = turned_or (same_kill kill at && pid == p) before
  where
    turned_or : (b d : Bool) → cond b true d ≡ (d || b)
    turned_or true true = refl
    turned_or true false = refl
    turned_or false true = refl
    turned_or false false = refl

away_by : (kills : Kills) (past : Past) (entry : Entry) (o : Option ℕ) (at : KillAt) (p : ℕ) (before : Bool) → TellsKills kills past → away_killed kills entry o at p before ≡ (before || away_test past entry at p (holds (λ killed. killed == p) o))
away_by kills past entry None at p before told = sym (or_false before)
away_by kills past entry (Some pid) at p before told =
    put_is (first_away kills entry pid) pid at p before
    ∙ ap (λ k. before || (is_kill k at && pid == p)) (away_told kills past entry pid told)
    ∙ ap (λ b. before || b) (this_away past entry at pid p (pid == p) refl)

away_event : (kills : Kills) (past : Past) (e : Event) (at : KillAt) (p : ℕ) (before : Bool) → TellsKills kills past → away_behind kills e at p before ≡ (before || (is_met_away p at.to past e && is_call_of p at e))
away_event kills past (event.Enter entry) at p before told =
    away_by kills past entry (killed_by entry.call entry.reply) at p before told
    ∙ sym (ap (λ b. before || away_test past entry at p b) (kills_is p entry.call entry.reply))
away_event kills past (event.Burst pid count) at p before told = sym (or_false before)
away_event kills past _ at p before told = sym (or_false before)

-- ---- the processes of whose kills requests tell

one_sent : (s q before a : Bool) → cond (s && q) true (before || (s && a)) ≡ (before || (s && (a || q)))
one_sent true true true a = refl
one_sent true true false true = refl
one_sent true true false false = refl
one_sent true false before true = refl
one_sent true false before false = refl
one_sent false q before a = refl

slot_sent : (at : RequestAt) (o : Option ℕ) (other : RequestAt) (p : ℕ) (before a : Bool) → sends_one at o other p (before || (same_request at other && a)) ≡ (before || (same_request at other && (a || is_pid o p)))
slot_sent at None other p before a = ap (λ b. before || (same_request at other && b)) (sym (or_false a))
slot_sent at (Some pid) other p before a = one_sent (same_request at other) (pid == p) before a

first_sent : (at : RequestAt) (slot : ℕ → Option ℕ) (n : ℕ) (other : RequestAt) (p : ℕ) (before : Bool) → sends_first at slot n other p before ≡ (before || (same_request at other && among slot n p))
first_sent at slot zero other p before = sym (ap (λ b. before || b) (and_false (same_request at other)) ∙ or_false before)
first_sent at slot (suc n) other p before =
    ap (sends_one at (slot n) other p) (first_sent at slot n other p before) ∙ slot_sent at (slot n) other p before (among slot n p)

each_sent : (away : Away) (kill : KillAt) (at other : RequestAt) (p : ℕ) (before told : Bool) → is_away away kill p ≡ told → sends_each away kill at other p before ≡ (before || (told && same_request at other))
each_sent away kill at other p before told is =
    first_sent at (λ place. away_slot_of place) (away_count away.counts.entries kill) other p before
    ∙ ap (λ b. before || b) (swap (same_request at other) (is_away away kill p) ∙ ap (λ b. b && same_request at other) is)
  where
    away_slot_of : ℕ → Option ℕ
    away_slot_of place = away_slot away.slots.entries kill place

    swap : (a b : Bool) → (a && b) ≡ (b && a)
    swap true true = refl
    swap true false = refl
    swap false true = refl
    swap false false = refl

about_sent : (c : Description) (records : List Rec) (away : Away) (kernel : ℕ) (request : RequestAt) (about : Option About) (at : RequestAt) (p : ℕ) (before : Bool) → ((kill : KillAt) (pid : ℕ) → is_away away kill pid ≡ has_kill c records kill pid) → sent_about kernel request.kernel request about away at p before ≡ (before || told_to c records p at kernel request about)
about_sent c records away kernel request None at p before told = sym (or_false before)
about_sent c records away kernel request (Some about) at p before told =
    each_sent away (kill_sent kernel request.kernel about) request at p before (has_kill c records (kill_sent kernel request.kernel about) p) (told (kill_sent kernel request.kernel about) p)

sent_event : (c : Description) (records : List Rec) (away : Away) (kernel : ℕ) (e : Event) (at : RequestAt) (p : ℕ) (before : Bool) → ((kill : KillAt) (pid : ℕ) → is_away away kill pid ≡ has_kill c records kill pid) → sent_behind kernel e away at p before ≡ (before || told_of c records p at kernel e)
sent_event c records away kernel (event.Send tx to about kind) at p before told = about_sent c records away kernel (record { kernel = to; tx = tx }) about at p before told
sent_event c records away kernel (event.Burst pid count) at p before told = sym (or_false before)
sent_event c records away kernel _ at p before told = sym (or_false before)

-- ---- the requests that were taken

taken_event : (kernel : ℕ) (e : Event) (at : RequestAt) (before : Bool) → taken_behind kernel e at before ≡ cond (kernel == at.kernel && is_request at.tx.0 e) true before
taken_event kernel (event.Deliver tx from false about) at before = refl
taken_event kernel (event.Deliver tx from true about) at before = sym (ap (λ b. cond b true before) (and_false (kernel == at.kernel)))
taken_event kernel (event.Burst pid count) at before = sym (ap (λ b. cond b true before) (and_false (kernel == at.kernel)))
taken_event kernel _ at before = sym (ap (λ b. cond b true before) (and_false (kernel == at.kernel)))

-- ---- the kills that are known

one_met : (placed h before a : Bool) → cond placed (cond (h && true) true (before || ((h && placed) && a))) (before || ((h && placed) && a)) ≡ (before || ((h && placed) && (a || true)))
one_met true true true a = refl
one_met true true false true = refl
one_met true true false false = refl
one_met true false before a = refl
one_met false true before a = refl
one_met false false before a = refl

other_met : (placed there h before a : Bool) → cond placed (cond (h && false) true (before || ((h && there) && a))) (before || ((h && there) && a)) ≡ (before || ((h && there) && (a || false)))
other_met true there true before a = ap (λ b. before || (there && b)) (sym (or_false a))
other_met true there false before a = refl
other_met false there true before a = ap (λ b. before || (there && b)) (sym (or_false a))
other_met false there false before a = refl

pid_met : (places : List (ℕ × Place)) (kernel pid : ℕ) (at : KnownAt) (before a b : Bool) → (pid == at.pid) ≡ b → cond (is_placed places kernel pid) (cond (kernel == at.kernel && b) true (before || ((kernel == at.kernel && is_placed places kernel at.pid) && a))) (before || ((kernel == at.kernel && is_placed places kernel at.pid) && a)) ≡ (before || ((kernel == at.kernel && is_placed places kernel at.pid) && (a || b)))
pid_met places kernel pid at before a true is =
    ap (λ (n : ℕ). cond (is_placed places kernel n) (cond (kernel == at.kernel && true) true (before || ((kernel == at.kernel && is_placed places kernel at.pid) && a))) (before || ((kernel == at.kernel && is_placed places kernel at.pid) && a))) (eqb-true pid at.pid is)
    ∙ one_met (is_placed places kernel at.pid) (kernel == at.kernel) before a
pid_met places kernel pid at before a false is = other_met (is_placed places kernel pid) (is_placed places kernel at.pid) (kernel == at.kernel) before a

slot_met : (places : List (ℕ × Place)) (kernel : ℕ) (o : Option ℕ) (at : KnownAt) (before a : Bool) → meets_one places kernel o at (before || ((kernel == at.kernel && is_placed places kernel at.pid) && a)) ≡ (before || ((kernel == at.kernel && is_placed places kernel at.pid) && (a || is_pid o at.pid)))
slot_met places kernel None at before a = ap (λ b. before || ((kernel == at.kernel && is_placed places kernel at.pid) && b)) (sym (or_false a))
slot_met places kernel (Some pid) at before a = pid_met places kernel pid at before a (pid == at.pid) refl

first_met : (places : List (ℕ × Place)) (kernel : ℕ) (slot : ℕ → Option ℕ) (n : ℕ) (at : KnownAt) (before : Bool) → meets_first places kernel slot n at before ≡ (before || ((kernel == at.kernel && is_placed places kernel at.pid) && among slot n at.pid))
first_met places kernel slot zero at before = sym (ap (λ b. before || b) (and_false (kernel == at.kernel && is_placed places kernel at.pid)) ∙ or_false before)
first_met places kernel slot (suc n) at before =
    ap (meets_one places kernel (slot n) at) (first_met places kernel slot n at before) ∙ slot_met places kernel (slot n) at before (among slot n at.pid)

-- a process is at a kernel by what is kept
there_by : (kernel : ℕ) (o : Option Place) → is_placed_in kernel o ≡ holds (λ at. at == kernel) (settled_in o)
there_by kernel None = refl
there_by kernel (Some place) = by place.moving
  where
    by : (moving : Bool) → (not moving && place.kernel == kernel) ≡ holds (λ at. at == kernel) (cond moving None (Some place.kernel))
    by true = refl
    by false = refl

there_told : (kills : Kills) (past : Past) (pid kernel : ℕ) → TellsKills kills past → is_placed kills.places.entries kernel pid ≡ is_there past pid kernel
there_told kills past pid kernel told =
    there_by kernel (place_kept kills.places.entries pid)
    ∙ sym (ap (holds (λ at. at == kernel)) (place_told kills.places.entries past pid told.places_told))

-- a request that is taken for the first time, or again
taken_or : (before h p t s : Bool) → cond t before (before || ((h && p) && s)) ≡ (before || (s && ((h && p) && not t)))
taken_or true h p true s = refl
taken_or true h p false s = refl
taken_or false true true true true = refl
taken_or false true true true false = refl
taken_or false true true false true = refl
taken_or false true true false false = refl
taken_or false true false true true = refl
taken_or false true false true false = refl
taken_or false true false false true = refl
taken_or false true false false false = refl
taken_or false false p true true = refl
taken_or false false p true false = refl
taken_or false false p false true = refl
taken_or false false p false false = refl

request_met : (c : Description) (judge : Knowledge) (past : Past) (request : RequestAt) (at : KnownAt) (before t : Bool) → TellsKnowledge c judge past → known_taken t judge.sent judge.kills.places.entries request at before ≡ cond t before (before || ((request.kernel == at.kernel && is_there past at.pid request.kernel) && has_send c past.records request at.pid))
request_met c judge past request at before true told = refl
request_met c judge past request at before false told =
    first_met judge.kills.places.entries request.kernel (λ place. slot_of place) (sent_count judge.sent.counts.entries request) at before
    ∙ ap₂ (λ p s. before || ((request.kernel == at.kernel && p) && s)) (there_told judge.kills past at.pid request.kernel told.kills_told) (told.sent_told request at.pid)
  where
    slot_of : ℕ → Option ℕ
    slot_of place = sent_slot judge.sent.slots.entries request place

-- told where it is taken, for any kernel
moved_met : (c : Description) (past : Past) (k : ℕ) (tx : TxNo) (kernel pid : ℕ) (before b : Bool) → (k == kernel) ≡ b → (before || (has_send c past.records (record { kernel = k; tx = tx }) pid && ((b && is_there past pid k) && not (was_taken past k tx.0)))) ≡ (before || (has_send c past.records (record { kernel = kernel; tx = tx }) pid && ((b && is_there past pid kernel) && not (was_taken past kernel tx.0))))
moved_met c past k tx kernel pid before true is = ap (λ (j : ℕ). before || (has_send c past.records (record { kernel = j; tx = tx }) pid && ((true && is_there past pid j) && not (was_taken past j tx.0)))) (eqb-true k kernel is)
moved_met c past k tx kernel pid before false is = ap (λ b. before || b) (and_false (has_send c past.records (record { kernel = k; tx = tx }) pid) ∙ sym (and_false (has_send c past.records (record { kernel = kernel; tx = tx }) pid)))

known_event : (c : Description) (judge : Knowledge) (past : Past) (k : ℕ) (e : Event) (at : KnownAt) (before : Bool) → TellsKnowledge c judge past → known_behind k e judge.taken.keys judge.sent judge.kills.places.entries at before ≡ (before || met_by c past at.pid at.kernel k e)
known_event c judge past k (event.Deliver tx from false about) at before told =
    let request : RequestAt = record { kernel = k; tx = tx } in
    request_met c judge past request at before (has_taken judge.taken.keys request) told
    ∙ taken_or before (k == at.kernel) (is_there past at.pid k) (has_taken judge.taken.keys request) (has_send c past.records request at.pid)
    ∙ ap (λ t. before || (has_send c past.records request at.pid && ((k == at.kernel && is_there past at.pid k) && not t))) (told.taken_told request)
    ∙ moved_met c past k tx at.kernel at.pid before (k == at.kernel) refl
known_event c judge past k (event.Deliver tx from true about) at before told = sym (or_false before)
known_event c judge past k (event.Burst pid count) at before told = sym (or_false before)
known_event c judge past k _ at before told = sym (or_false before)

-- ---- all that is kept

pub knowledge_begins : (c : Description) (judge : Knowledge) → BeginsKnowledge c judge → TellsKnowledge c judge (no_past c)
knowledge_begins c judge begins = record {
  reached = refl;
  kills_told = kills_begin c judge.kills begins.kills;
  away_told = λ at pid. ap (λ (m : List (KillAt × ℕ)). among (λ place. away_slot judge.away.slots.entries at place) (away_count m at) pid) begins.away;
  sent_told = λ at pid. ap (λ (m : List (RequestAt × ℕ)). among (λ place. sent_slot judge.sent.slots.entries at place) (sent_count m at) pid) begins.sent;
  taken_told = λ at. ap (λ (keys : List RequestAt). has_taken keys at) begins.taken;
  known_told = λ at. ap (λ (keys : List KnownAt). has_known keys at) begins.known;
}

pub knowledge_more : (c : Description) (old new : Knowledge) (past : Past) (rec : Rec) → TellsKnowledge c old past → KeepsKnowledge rec.kernel rec.event old new → TellsKnowledge c new (past_with c rec past)
knowledge_more c old new past rec told keeps = record {
  reached = past_last c (no_past c) past.records rec ∙ ap (past_with c rec) told.reached;
  kills_told = kills_more c old.kills new.kills past rec told.kills_told keeps.kills;
  away_told = λ at pid.
      keeps.away at pid
      ∙ away_event old.kills past rec.event at pid (is_away old.away at pid) told.kills_told
      ∙ ap (λ b. b || (is_met_away pid at.to past rec.event && is_call_of pid at rec.event)) (told.away_told at pid)
      ∙ sym (kill_more c past rec at pid told.reached);
  sent_told = λ at pid.
      keeps.sent at pid
      ∙ sent_event c past.records old.away rec.kernel rec.event at pid (is_sent old.sent at pid) told.away_told
      ∙ ap₂ (λ a b. a || b) (told.sent_told at pid) (sym (tells_is c past.records pid at rec.kernel rec.event))
      ∙ sym (send_more c past rec at pid told.reached);
  taken_told = λ at.
      keeps.taken at
      ∙ taken_event rec.kernel rec.event at (has_taken old.taken.keys at)
      ∙ ap (λ b. cond (rec.kernel == at.kernel && is_request at.tx.0 rec.event) true b) (told.taken_told at)
      ∙ sym (any_more (is_at at.kernel (is_request at.tx.0)) past.records rec);
  known_told = λ at.
      keeps.known at
      ∙ known_event c old past rec.kernel rec.event at (has_known old.known.keys at) told
      ∙ ap₂ (λ a b. a || b) (told.known_told at) (sym (meets_is c past at.pid at.kernel rec.kernel rec.event))
      ∙ sym (known_more c past rec at.pid at.kernel told.reached);
}

-- ---- looking

issue_told : (c : Description) (judge : Knowledge) (past : Past) (pid kernel : ℕ) (b : Bool) → TellsKnowledge c judge past → cond b (not (has_killed judge.kills.killed.keys pid)) (not (has_known judge.known.keys (record { kernel = kernel; pid = pid }))) ≡ cond b (not (was_killed past pid)) (not (knows_kill c past.records pid kernel))
issue_told c judge past pid kernel true told = ap not (told.kills_told.killed_told pid)
issue_told c judge past pid kernel false told = ap not (told.known_told (record { kernel = kernel; pid = pid }))

event_told : (c : Description) (judge : Knowledge) (past : Past) (kernel : ℕ) (e : Event) → TellsKnowledge c judge past → may_issue judge kernel e ≡ issues_well c past kernel e
event_told c judge past kernel (event.Issue pid number call) told = issue_told c judge past pid kernel (kernel == home_of pid) told
event_told c judge past kernel (event.Burst pid count) told = refl
event_told c judge past kernel _ told = refl

-- ---- the loop

pub hearing_begins : (c : Description) (judge : Knowledge) (trace : List Rec) → BeginsKnowledge c judge → Hearing c judge trace trace
hearing_begins c judge trace begins = record { past = no_past c; told = knowledge_begins c judge begins; left = refl }

pub hearing_breaks : (c : Description) (judge : Knowledge) (trace rest : List Rec) (rec : Rec) → Hearing c judge trace (rec ∷ rest) → may_issue judge rec.kernel rec.event ≡ false → false ≡ killed_processes_are_silent c trace
hearing_breaks c judge trace rest rec here fails =
    let test = sym (event_told c judge here.past rec.kernel rec.event here.told) ∙ fails in
    sym (ap (λ b. b && each_from c (λ past r behind. issues_well c past r.kernel r.event) (past_with c rec here.past) rest) test) ∙ here.left

pub hearing_goes : (c : Description) (old new : Knowledge) (trace rest : List Rec) (rec : Rec) → Hearing c old trace (rec ∷ rest) → may_issue old rec.kernel rec.event ≡ true → KeepsKnowledge rec.kernel rec.event old new → Hearing c new trace rest
hearing_goes c old new trace rest rec here fits keeps =
    let test = sym (event_told c old here.past rec.kernel rec.event here.told) ∙ fits in
    record {
      past = past_with c rec here.past;
      told = knowledge_more c old new here.past rec here.told keeps;
      left = sym (ap (λ b. b && each_from c (λ past r behind. issues_well c past r.kernel r.event) (past_with c rec here.past) rest) test) ∙ here.left;
    }

pub hearing_ends : (c : Description) (judge : Knowledge) (trace : List Rec) → Hearing c judge trace [] → true ≡ killed_processes_are_silent c trace
hearing_ends c judge trace here = here.left
