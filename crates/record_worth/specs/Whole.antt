-- Records are worth their units exactly where each part says so.
use Rattle.std.proofs.Common.{◌≡◌, ◌∙◌, ℕ, Bool, true, false, ◌&&◌, List, [], ◌∷◌, refl, sym, ap, ap₂}
use Rattle.std.specs.List.{list_all}
use Rattle.unix_calls.specs.declared.description.Description.{Description}
use Rattle.unix_calls.specs.declared.event.SendKind.TheVariants as send
use Rattle.unix_calls.specs.declared.event.Event.{Event}
use Rattle.unix_calls.specs.declared.event.Event.TheVariants as event
use Rattle.unix_calls.specs.declared.event.Rec.{Rec}
use Rattle.call_journal.specs.Past.{Past, each_from, each_record, no_past, past_with}
use Rattle.call_journal.specs.WorthRecords.{is_made_of, is_stamp_new, is_first_callback, was_opened}
use Rattle.trace_rules.specs.Lists.{and_assoc}
use Rattle.trace_rules.specs.EachLaws.{each_both, each_same}
use Rattle.record_worth.specs.Parts.{comes_and_goes, blocks_come_and_go, stamps_well, stamps_rise, calls_well, callbacks_are_first, streams_well, streams_are_opened, is_served_at, prefixes_are_served, learns_once, prefixes_are_learned_once, moves_well, moves_begin_and_end}

-- each record is made of what is there
abbrev pub records_are_made : Description → List Rec → Bool
records_are_made c trace = each_record c (λ past rec rest. is_made_of c past rec.kernel rec.event) trace

-- one that looks at the record alone
each_all : (c : Description) (p : Rec → Bool) (past : Past) (trace : List Rec) → each_from c (λ past r rest. p r) past trace ≡ list_all p trace
each_all c p past [] = refl
each_all c p past (rec ∷ rest) = ap (λ b. p rec && b) (each_all c p (past_with c rec past) rest)

-- ---- a record is of one kind, or of none

abbrev two_well : Past → ℕ → Event → Bool
two_well past kernel e = comes_and_goes past kernel e && stamps_well past e

abbrev three_well : Past → ℕ → Event → Bool
three_well past kernel e = two_well past kernel e && calls_well past e

abbrev four_well : Past → ℕ → Event → Bool
four_well past kernel e = three_well past kernel e && streams_well past e

abbrev five_well : Description → Past → ℕ → Event → Bool
five_well c past kernel e = four_well past kernel e && is_served_at c e

abbrev six_well : Description → Past → ℕ → Event → Bool
six_well c past kernel e = five_well c past kernel e && learns_once past kernel e

with_one : (b : Bool) → b ≡ (b && true)
with_one true = refl
with_one false = refl

with_three : (b : Bool) → b ≡ (((b && true) && true) && true)
with_three true = refl
with_three false = refl

with_four : (b : Bool) → b ≡ ((((b && true) && true) && true) && true)
with_four true = refl
with_four false = refl

with_five : (b : Bool) → b ≡ (((((b && true) && true) && true) && true) && true)
with_five true = refl
with_five false = refl

with_six : (b : Bool) → b ≡ ((((((b && true) && true) && true) && true) && true) && true)
with_six true = refl
with_six false = refl

splits : (c : Description) (past : Past) (kernel : ℕ) (e : Event) → is_made_of c past kernel e ≡ (six_well c past kernel e && moves_well past e)
splits c past kernel (event.Filled f b) = with_six (comes_and_goes past kernel (event.Filled f b))
splits c past kernel (event.Dropped f b cause) = with_six (comes_and_goes past kernel (event.Dropped f b cause))
splits c past kernel (event.Grant f to s m) = with_five (is_stamp_new f s past.records)
splits c past kernel (event.Callback f to s k) =
    and_assoc (is_stamp_new f s past.records) (is_first_callback f to past.records) (was_opened f past.records)
    ∙ with_four (is_stamp_new f s past.records && (is_first_callback f to past.records && was_opened f past.records))
splits c past kernel (event.Send tx to about (send.Fetch f b)) = with_four (was_opened f past.records)
splits c past kernel (event.Send tx to about (send.Op f)) = refl
splits c past kernel (event.Shared f s) = with_three (streams_well past (event.Shared f s))
splits c past kernel (event.Closed f s at m) = with_three (streams_well past (event.Closed f s at m))
splits c past kernel (event.Learned p s) = with_one (is_served_at c (event.Learned p s) && learns_once past kernel (event.Learned p s))
splits c past kernel (event.Freeze pid) = refl
splits c past kernel (event.Thaw pid) = refl
splits c past kernel _ = refl

each_splits : (c : Description) (trace : List Rec) → records_are_made c trace ≡ ((((((blocks_come_and_go c trace && stamps_rise c trace) && callbacks_are_first c trace) && streams_are_opened c trace) && prefixes_are_served c trace) && prefixes_are_learned_once c trace) && moves_begin_and_end c trace)
each_splits c trace =
    each_same c (λ past r. is_made_of c past r.kernel r.event) (λ past r. six_well c past r.kernel r.event && moves_well past r.event) (no_past c) trace (λ past r. splits c past r.kernel r.event)
    ∙ each_both c (λ past r. six_well c past r.kernel r.event) (λ past r. moves_well past r.event) (no_past c) trace
    ∙ ap (λ b. b && moves_begin_and_end c trace) (each_both c (λ past r. five_well c past r.kernel r.event) (λ past r. learns_once past r.kernel r.event) (no_past c) trace
    ∙ ap (λ b. b && prefixes_are_learned_once c trace) (each_both c (λ past r. four_well past r.kernel r.event) (λ past r. is_served_at c r.event) (no_past c) trace
    ∙ ap₂ (λ a b. a && b) (each_both c (λ past r. three_well past r.kernel r.event) (λ past r. streams_well past r.event) (no_past c) trace
    ∙ ap (λ b. b && streams_are_opened c trace) (each_both c (λ past r. two_well past r.kernel r.event) (λ past r. calls_well past r.event) (no_past c) trace
    ∙ ap (λ b. b && callbacks_are_first c trace) (each_both c (λ past r. comes_and_goes past r.kernel r.event) (λ past r. stamps_well past r.event) (no_past c) trace))) (each_all c (λ r. is_served_at c r.event) (no_past c) trace)))

-- what the parts say is what the whole says
pub made_told : (c : Description) (trace : List Rec) (blocks stamps callbacks streams served learned moves : Bool) → blocks ≡ blocks_come_and_go c trace → stamps ≡ stamps_rise c trace → callbacks ≡ callbacks_are_first c trace → streams ≡ streams_are_opened c trace → served ≡ prefixes_are_served c trace → learned ≡ prefixes_are_learned_once c trace → moves ≡ moves_begin_and_end c trace → ((((((blocks && stamps) && callbacks) && streams) && served) && learned) && moves) ≡ records_are_made c trace
made_told c trace blocks stamps callbacks streams served learned moves b s k t v l m =
    ap₂ (λ x y. x && y) (ap₂ (λ x y. x && y) (ap₂ (λ x y. x && y) (ap₂ (λ x y. x && y) (ap₂ (λ x y. x && y) (ap₂ (λ x y. x && y) b s) k) t) v) l) m ∙ sym (each_splits c trace)
