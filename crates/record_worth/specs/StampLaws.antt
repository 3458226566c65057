-- The stamps of files are told record by record.
use Rattle.std.proofs.Common.{◌≡◌, ◌∙◌, ℕ, Bool, true, false, cond, ◌&&◌, List, nat_lt, Some, refl, sym, ap}
use Rattle.sprite_ids.specs.declared.names.FileId.{FileId}
use Rattle.unix_calls.specs.declared.description.Description.{Description}
use Rattle.unix_calls.specs.declared.event.Event.{Event}
use Rattle.unix_calls.specs.declared.event.Event.TheVariants as event
use Rattle.unix_calls.specs.declared.event.Rec.{Rec}
use Rattle.call_journal.specs.Past.{Past, past_with}
use Rattle.call_journal.specs.Matching.{same_file, has_event}
use Rattle.call_journal.specs.WorthRecords.{has_lesser_stamp}
use Rattle.record_worth.specs.declared.stamps.Stamps.{Stamps}
use Rattle.trace_rules.specs.Greatest.{is_less, later}
use Rattle.trace_rules.specs.GreatestLaws.{later_less}
use Rattle.trace_rules.specs.Lists.{and_true, all_more}
use Rattle.trace_rules.specs.PlaceLaws.{file_is}
use Rattle.record_worth.specs.Parts.{stamps_well}
use Rattle.record_worth.specs.Stamps.{greatest, may_give, given_behind, RisesOn, TellsStamps}

event_told : (given : List (FileId × ℕ)) (past : Past) (e : Event) → TellsStamps given past.records → stamps_well past e ≡ may_give given e
event_told given past (event.Grant file to stamp mode) told = sym (told file stamp)
event_told given past (event.Callback file to stamp kind) told = sym (told file stamp)
event_told given past _ told = refl

-- a stamp is judged by the greatest one
pub stamps_told : (c : Description) (judge : Stamps) (past : Past) (rec : Rec) → TellsStamps judge.given.entries past.records → stamps_well past rec.event ≡ may_give judge.given.entries rec.event
stamps_told c judge past rec told = event_told judge.given.entries past rec.event told

put_by : (given : List (FileId × ℕ)) (file other : FileId) (stamp x : ℕ) (b : Bool) → same_file file other ≡ b → is_less (cond b (Some (later stamp (greatest given file))) (greatest given other)) x ≡ (is_less (greatest given other) x && cond {A = Bool} b (nat_lt stamp x) true)
put_by given file other stamp x true is = ap (λ f. nat_lt (later stamp (greatest given f)) x) (file_is file other is) ∙ later_less stamp (greatest given other) x
put_by given file other stamp x false is = sym (and_true (is_less (greatest given other) x))

given_more : (e : Event) (given : List (FileId × ℕ)) (file : FileId) (x : ℕ) → is_less (given_behind e given file) x ≡ (is_less (greatest given file) x && has_lesser_stamp file x e)
given_more (event.Grant f to stamp mode) given file x = put_by given f file stamp x (same_file f file) refl
given_more (event.Callback f to stamp kind) given file x = put_by given f file stamp x (same_file f file) refl
given_more _ given file x = sym (and_true (is_less (greatest given file) x))

-- one record more
pub stamps_told_on : (c : Description) (old new : Stamps) (past : Past) (rec : Rec) → TellsStamps old.given.entries past.records → RisesOn rec.event old.given.entries new.given.entries → TellsStamps new.given.entries (past_with c rec past).records
stamps_told_on c old new past rec told more file x =
    ap (λ o. is_less o x) (more file)
    ∙ given_more rec.event old.given.entries file x
    ∙ ap (λ b. b && has_lesser_stamp file x rec.event) (told file x)
    ∙ sym (all_more (has_event (has_lesser_stamp file x)) past.records rec)
