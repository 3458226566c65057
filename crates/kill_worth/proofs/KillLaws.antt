-- Kills are told record by record.
use Rattle.std.proofs.Common.{◌≡◌, ◌∙◌, ℕ, ◌==◌, Bool, true, false, cond, ◌||◌, List, Option, Some, None, refl, sym, ap}
use Rattle.sprite_ids.specs.Pid.{home_of}
use Rattle.process_machine.specs.declared.call.Call.{Call}
use Rattle.process_machine.specs.declared.call.Call.TheVariants.{Kill}
use Rattle.process_machine.specs.declared.call.Reply.{Reply}
use Rattle.process_machine.specs.declared.call.Reply.TheVariants.{Value}
use Rattle.unix_calls.specs.declared.description.Description.{Description}
use Rattle.unix_calls.specs.declared.entry.Entry.{Entry}
use Rattle.unix_calls.specs.declared.event.Event.{Event}
use Rattle.unix_calls.specs.declared.event.Event.TheVariants as event
use Rattle.unix_calls.specs.declared.event.Rec.{Rec}
use Rattle.call_journal.specs.Past.{Past, holds, no_past, past_with}
use Rattle.call_journal.specs.Matching.{has_event}
use Rattle.call_journal.specs.Calls.{is_kill_of, kills_with}
use Rattle.call_journal.specs.WorthKills.{killed_by}
use Rattle.trace_places.specs.declared.places.Place.{Place}
use Rattle.trace_places.specs.Places.{place_kept, settled_in}
use Rattle.trace_places.specs.PlaceLaws.{place_told, places_more}
use Rattle.kill_worth.proofs.TestLaws.{any_more}
use Rattle.kill_worth.specs.declared.kills.Kills.{Kills}
use Rattle.kill_worth.specs.Kills.{has_killed, was_killed, away_at, first_away, entry_kept, kill_kept, settled_away, past_away, entry_told, kill_told, puts_killed, killed_behind, KeepsKills, TellsKills, BeginsKills}

-- ---- looking

away_settled : (entry : Entry) (pid : ℕ) (o : Option Place) → away_at entry pid o ≡ settled_away entry pid (settled_in o)
away_settled entry pid None = refl
away_settled entry pid (Some place) = by place.moving
  where
    by : (moving : Bool) → cond (moving || place.kernel == home_of pid) None (Some (record { home = home_of pid; to = place.kernel; pid = entry.pid; number = entry.number })) ≡ settled_away entry pid (cond moving None (Some place.kernel))
    by true = refl
    by false = refl

-- where the kill of a process is to be told is told by what is kept
pub away_told : (kills : Kills) (past : Past) (entry : Entry) (pid : ℕ) → TellsKills kills past → first_away kills entry pid ≡ past_away past entry pid
away_told kills past entry pid told =
    ap (λ b. cond b None (away_at entry pid (place_kept kills.places.entries pid))) (told.killed_told pid)
    ∙ ap (λ o. cond (was_killed past pid) None o) (away_settled entry pid (place_kept kills.places.entries pid) ∙ sym (ap (settled_away entry pid) (place_told kills.places.entries past pid told.places_told)))

entry_is : (kills : Kills) (past : Past) (entry : Entry) (o : Option ℕ) → TellsKills kills past → entry_kept kills entry o ≡ entry_told past entry o
entry_is kills past entry None told = refl
entry_is kills past entry (Some pid) told = away_told kills past entry pid told

pub kill_is : (kills : Kills) (past : Past) (e : Event) → TellsKills kills past → kill_kept kills e ≡ kill_told past e
kill_is kills past (event.Enter entry) told = entry_is kills past entry (killed_by entry.call entry.reply) told
kill_is kills past _ told = refl

-- ---- one record more

-- an entry kills the process that it kills
pub kills_is : (pid : ℕ) (call : Option Call) (reply : Option Reply) → kills_with pid call reply ≡ holds (λ killed. killed == pid) (killed_by call reply)
kills_is pid (Some (Kill target)) (Some (Value first second bytes)) = refl
kills_is pid _ _ = refl

puts_is : (o : Option ℕ) (pid : ℕ) (before : Bool) → puts_killed o pid before ≡ cond (holds (λ killed. killed == pid) o) true before
puts_is None pid before = refl
puts_is (Some killed) pid before = refl

killed_on : (e : Event) (pid : ℕ) (before : Bool) → killed_behind e pid before ≡ cond (is_kill_of pid e) true before
killed_on (event.Enter entry) pid before = puts_is (killed_by entry.call entry.reply) pid before ∙ ap (λ b. cond b true before) (sym (kills_is pid entry.call entry.reply))
killed_on _ pid before = refl

pub kills_begin : (c : Description) (kills : Kills) → BeginsKills c kills → TellsKills kills (no_past c)
kills_begin c kills begins = record { places_told = begins.places; killed_told = λ pid. ap (λ (keys : List ℕ). has_killed keys pid) begins.killed }

pub kills_more : (c : Description) (old new : Kills) (past : Past) (rec : Rec) → TellsKills old past → KeepsKills rec.kernel rec.event old new → TellsKills new (past_with c rec past)
kills_more c old new past rec told keeps = record {
  places_told = places_more rec.kernel rec.event old.places.entries new.places.entries past.processes told.places_told keeps.places;
  killed_told = λ pid.
      keeps.killed pid
      ∙ killed_on rec.event pid (has_killed old.killed.keys pid)
      ∙ ap (λ b. cond (is_kill_of pid rec.event) true b) (told.killed_told pid)
      ∙ sym (any_more (has_event (is_kill_of pid)) past.records rec);
}
