-- The rules of writing are those of their three parts.
use Rattle.std.proofs.Common.{◌≡◌, ◌∙◌, ℕ, Bool, true, false, ◌&&◌, List, [], ◌∷◌, refl, sym, ap, ap₂}
use Rattle.unix_calls.specs.declared.description.Description.{Description}
use Rattle.unix_calls.specs.declared.event.Event.{Event}
use Rattle.unix_calls.specs.declared.event.Event.TheVariants as event
use Rattle.unix_calls.specs.declared.event.Rec.{Rec}
use Rattle.call_journal.specs.Past.{Past, each_from, no_past, past_with}
use Rattle.call_journal.specs.Formed.{is_written_well, formed}
use Rattle.trace_forms.specs.Parts.{is_packet_well, packets_are_formed, is_use_well, uses_are_formed, is_entry_well, entries_are_formed}
use Rattle.trace_forms.proofs.ListLaws.{and_true, and_none}

-- of a record
of_record : (c : Description) (past : Past) (kernel : ℕ) (e : Event) (rest : List Rec) → is_written_well c past kernel e rest ≡ (is_packet_well past kernel e && is_use_well c past kernel e rest && is_entry_well c past kernel e)
of_record c past kernel (event.Send tx to about kind) rest = sym (and_true (is_packet_well past kernel (event.Send tx to about kind) && true) ∙ and_true (is_packet_well past kernel (event.Send tx to about kind)))
of_record c past kernel (event.Deliver tx from reply about) rest = sym (and_true (is_packet_well past kernel (event.Deliver tx from reply about) && true) ∙ and_true (is_packet_well past kernel (event.Deliver tx from reply about)))
of_record c past kernel (event.Expire tx last) rest = sym (and_true (is_packet_well past kernel (event.Expire tx last) && true) ∙ and_true (is_packet_well past kernel (event.Expire tx last)))
of_record c past kernel (event.Fault a b met) rest = sym (and_true (is_packet_well past kernel (event.Fault a b met) && true) ∙ and_true (is_packet_well past kernel (event.Fault a b met)))
of_record c past kernel (event.Grant file to stamp mode) rest = sym (and_true (is_use_well c past kernel (event.Grant file to stamp mode) rest))
of_record c past kernel (event.Opened file stream to mode) rest = sym (and_true (is_use_well c past kernel (event.Opened file stream to mode) rest))
of_record c past kernel (event.Closed file stream to mode) rest = sym (and_true (is_use_well c past kernel (event.Closed file stream to mode) rest))
of_record c past kernel (event.Callback file to stamp kind) rest = sym (and_true (is_use_well c past kernel (event.Callback file to stamp kind) rest))
of_record c past kernel (event.Shared file stream) rest = sym (and_true (is_use_well c past kernel (event.Shared file stream) rest))
of_record c past kernel (event.Enter entry) rest = refl
of_record c past kernel _ rest = refl

regrouped : (a b d x y z : Bool) → ((a && b && d) && (x && y && z)) ≡ ((a && x) && (b && y) && (d && z))
regrouped true true true x y z = refl
regrouped true true false x y z = sym (and_none (x && y))
regrouped true false d x y z = sym (ap (λ t. t && (d && z)) (and_none x))
regrouped false b d x y z = refl

-- of each record
each_of : (c : Description) (past : Past) (rest : List Rec) → each_from c (λ p r more. is_written_well c p r.kernel r.event more) past rest ≡ (each_from c (λ p r more. is_packet_well p r.kernel r.event) past rest && each_from c (λ p r more. is_use_well c p r.kernel r.event more) past rest && each_from c (λ p r more. is_entry_well c p r.kernel r.event) past rest)
each_of c past [] = refl
each_of c past (rec ∷ rest) =
    let next = past_with c rec past in
    ap₂ (λ a b. a && b) (of_record c past rec.kernel rec.event rest) (each_of c next rest)
    ∙ regrouped (is_packet_well past rec.kernel rec.event) (is_use_well c past rec.kernel rec.event rest) (is_entry_well c past rec.kernel rec.event) (each_from c (λ p r more. is_packet_well p r.kernel r.event) next rest) (each_from c (λ p r more. is_use_well c p r.kernel r.event more) next rest) (each_from c (λ p r more. is_entry_well c p r.kernel r.event) next rest)

-- a trace is written as it should be where it is in each part
pub formed_of : (c : Description) (trace : List Rec) → formed c trace ≡ (packets_are_formed c trace && uses_are_formed c trace && entries_are_formed c trace)
formed_of c trace = each_of c (no_past c) trace

-- where a part isn't, or all are
pub breaks_packets : (c : Description) (trace : List Rec) → packets_are_formed c trace ≡ false → false ≡ formed c trace
breaks_packets c trace e = sym (ap (λ b. b && uses_are_formed c trace && entries_are_formed c trace) e) ∙ sym (formed_of c trace)

pub breaks_uses : (c : Description) (trace : List Rec) → packets_are_formed c trace ≡ true → uses_are_formed c trace ≡ false → false ≡ formed c trace
breaks_uses c trace e f = sym (ap₂ (λ a b. a && b && entries_are_formed c trace) e f) ∙ sym (formed_of c trace)

pub left_to_entries : (c : Description) (trace : List Rec) → packets_are_formed c trace ≡ true → uses_are_formed c trace ≡ true → entries_are_formed c trace ≡ formed c trace
left_to_entries c trace e f = sym (ap₂ (λ a b. a && b && entries_are_formed c trace) e f) ∙ sym (formed_of c trace)
