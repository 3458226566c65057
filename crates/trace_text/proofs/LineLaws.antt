-- A record's line has byte 10 at its end alone.
use Rattle.std.proofs.Common.{◌≡◌, ℕ, true, List, Option, Some, None, refl, arith}
use Rattle.std.specs.Prelude.{codes}
use Rattle.std.specs.List.{list_all}
use Rattle.sprite_paths.specs.Path.{text_of}
use Rattle.unix_calls.specs.declared.event.About.{About}
use Rattle.unix_calls.specs.declared.event.Event.{Event}
use Rattle.unix_calls.specs.declared.event.Event.TheVariants as event
use Rattle.unix_calls.specs.declared.event.Rec.{Rec}
use Rattle.unix_calls.specs.declared.event.SendKind.{SendKind}
use Rattle.unix_calls.specs.declared.event.SendKind.TheVariants as kind
use Rattle.field_reader.specs.Reads.{in_word}
use Rattle.history_text.specs.Formats.{◌then◌, parted}
use Rattle.history_text.specs.Numbers.{number32, pid}
use Rattle.history_text.specs.Calls.{call_format, reply_format}
use Rattle.history_text.specs.Laws.{IsOneLine}
use Rattle.history_text.proofs.LineLaws.{Unbroken, IsUnbroken, words_unbroken, decimal_unbroken, number32_unbroken, pid_unbroken, text_unbroken, parted_unbroken, then_unbroken, form_unbroken, calls_unbroken, replies_unbroken, entry_unbroken}
use Rattle.trace_text.specs.Fields.{kernel, block, transaction, numbered, file, stream, prefix_format, about_fits, about_printed, about_if_any, worded, truth_word, truths, truth, fate_word, fate_format, cache_word, cache_modes, cache_format, mode_word, modes, mode_format, callback_word, callbacks, callback_format, cause_word, causes, cause_format, kind_shape, kind_format}
use Rattle.trace_text.specs.Events.{event_shape, event_format}
use Rattle.trace_text.specs.Traces.{HasLine, line_of, record_format}
use Rattle.trace_text.proofs.FieldLaws.{text_small, truth_in_word, fate_in_word, cache_in_word, mode_in_word, callback_in_word, cause_in_word}

-- ---- numbers and names

kernel_unbroken : IsUnbroken kernel
kernel_unbroken = record { holds = λ n is. decimal_unbroken n (omega (arith, is.1)) }

block_unbroken : IsUnbroken block
block_unbroken = record { holds = λ b lt. decimal_unbroken b.0 (omega (arith, lt)) }

transaction_unbroken : IsUnbroken transaction
transaction_unbroken = record { holds = λ tx lt. decimal_unbroken tx.0 (omega (arith, lt)) }

numbered_unbroken : IsUnbroken numbered
numbered_unbroken = parted_unbroken (codes ":") refl kernel_unbroken number32_unbroken

file_unbroken : IsUnbroken file
file_unbroken = record { holds = λ f fits. numbered_unbroken.holds (f.server, f.number) fits }

stream_unbroken : IsUnbroken stream
stream_unbroken = record { holds = λ s fits. numbered_unbroken.holds (s.kernel, s.number) fits }

prefix_unbroken : IsUnbroken prefix_format
prefix_unbroken = record { holds = λ path is. text_unbroken.holds (text_of path) (text_small path is) }

call_number_unbroken : IsUnbroken (parted (codes "/") pid number32)
call_number_unbroken = parted_unbroken (codes "/") refl pid_unbroken number32_unbroken

about_holds : (a : Option About) → about_fits a → Unbroken (about_printed a)
about_holds None fits = refl
about_holds (Some a) fits = call_number_unbroken.holds (a.pid, a.number) fits

about_unbroken : IsUnbroken about_if_any
about_unbroken = record { holds = about_holds }

-- ---- words

worded_unbroken : {A : Type 0} (word_for : A → List ℕ) (all : List A) → ((x : A) → list_all in_word (word_for x) ≡ true) → IsUnbroken (worded word_for all)
worded_unbroken word_for all in_words = record { holds = λ x given. words_unbroken (word_for x) (in_words x) }

truth_unbroken : IsUnbroken truth
truth_unbroken = worded_unbroken truth_word truths truth_in_word

fate_unbroken : IsUnbroken fate_format
fate_unbroken = record { holds = λ f is. words_unbroken (fate_word f) (fate_in_word f) }

cache_unbroken : IsUnbroken cache_format
cache_unbroken = worded_unbroken cache_word cache_modes cache_in_word

mode_unbroken : IsUnbroken mode_format
mode_unbroken = worded_unbroken mode_word modes mode_in_word

callback_unbroken : IsUnbroken callback_format
callback_unbroken = worded_unbroken callback_word callbacks callback_in_word

cause_unbroken : IsUnbroken cause_format
cause_unbroken = worded_unbroken cause_word causes cause_in_word

-- ---- events

file_block_unbroken : IsUnbroken (file then block)
file_block_unbroken = then_unbroken file_unbroken block_unbroken

kind_holds : (value : SendKind) → (kind_shape value).Fits → Unbroken (kind_shape value).printed
kind_holds (kind.Op f) fits = form_unbroken (codes "op") f refl file_unbroken fits
kind_holds (kind.Fetch f b) fits = form_unbroken (codes "fetch") (f, b) refl file_block_unbroken fits
kind_holds (kind.WriteBack f b) fits = form_unbroken (codes "writeback") (f, b) refl file_block_unbroken fits
kind_holds (kind.Broadcast path) fits = form_unbroken (codes "broadcast") path refl prefix_unbroken fits
kind_holds kind.Other fits = refl

kind_unbroken : IsUnbroken kind_format
kind_unbroken = record { holds = kind_holds }

fault_unbroken : IsUnbroken (kernel then kernel then fate_format)
fault_unbroken = then_unbroken kernel_unbroken (then_unbroken kernel_unbroken fate_unbroken)

burst_fields_unbroken : IsUnbroken (pid then number32)
burst_fields_unbroken = then_unbroken pid_unbroken number32_unbroken

issue_fields_unbroken : IsUnbroken (pid then number32 then call_format)
issue_fields_unbroken = then_unbroken pid_unbroken (then_unbroken number32_unbroken calls_unbroken)

return_fields_unbroken : IsUnbroken (pid then number32 then reply_format)
return_fields_unbroken = then_unbroken pid_unbroken (then_unbroken number32_unbroken replies_unbroken)

send_fields_unbroken : IsUnbroken (transaction then kernel then about_if_any then kind_format)
send_fields_unbroken = then_unbroken transaction_unbroken (then_unbroken kernel_unbroken (then_unbroken about_unbroken kind_unbroken))

deliver_fields_unbroken : IsUnbroken (transaction then kernel then truth then about_if_any)
deliver_fields_unbroken = then_unbroken transaction_unbroken (then_unbroken kernel_unbroken (then_unbroken truth_unbroken about_unbroken))

expire_fields_unbroken : IsUnbroken (transaction then truth)
expire_fields_unbroken = then_unbroken transaction_unbroken truth_unbroken

grant_fields_unbroken : IsUnbroken (file then kernel then number32 then cache_format)
grant_fields_unbroken = then_unbroken file_unbroken (then_unbroken kernel_unbroken (then_unbroken number32_unbroken cache_unbroken))

call_back_fields_unbroken : IsUnbroken (file then kernel then number32 then callback_format)
call_back_fields_unbroken = then_unbroken file_unbroken (then_unbroken kernel_unbroken (then_unbroken number32_unbroken callback_unbroken))

taken_fields_unbroken : IsUnbroken (file then number32 then cache_format)
taken_fields_unbroken = then_unbroken file_unbroken (then_unbroken number32_unbroken cache_unbroken)

dropped_fields_unbroken : IsUnbroken (file then block then cause_format)
dropped_fields_unbroken = then_unbroken file_unbroken (then_unbroken block_unbroken cause_unbroken)

opened_fields_unbroken : IsUnbroken (file then stream then kernel then mode_format)
opened_fields_unbroken = then_unbroken file_unbroken (then_unbroken stream_unbroken (then_unbroken kernel_unbroken mode_unbroken))

shared_fields_unbroken : IsUnbroken (file then stream)
shared_fields_unbroken = then_unbroken file_unbroken stream_unbroken

learned_fields_unbroken : IsUnbroken (prefix_format then kernel)
learned_fields_unbroken = then_unbroken prefix_unbroken kernel_unbroken

event_holds : (value : Event) → (event_shape value).Fits → Unbroken (event_shape value).printed
event_holds (event.Burst p count) fits = form_unbroken (codes "Burst") (p, count) refl burst_fields_unbroken fits
event_holds (event.Issue p number call) fits = form_unbroken (codes "Issue") (p, (number, call)) refl issue_fields_unbroken fits
event_holds (event.Enter made) fits = form_unbroken (codes "Enter") made refl entry_unbroken fits
event_holds (event.Return p number reply) fits = form_unbroken (codes "Return") (p, (number, reply)) refl return_fields_unbroken fits
event_holds (event.Send tx to about kind) fits = form_unbroken (codes "Send") (tx, (to, (about, kind))) refl send_fields_unbroken fits
event_holds (event.Fault a b f) fits = form_unbroken (codes "Fault") (a, (b, f)) refl fault_unbroken fits
event_holds (event.Deliver tx from reply about) fits = form_unbroken (codes "Deliver") (tx, (from, (reply, about))) refl deliver_fields_unbroken fits
event_holds (event.Expire tx last) fits = form_unbroken (codes "Expire") (tx, last) refl expire_fields_unbroken fits
event_holds (event.Grant f to stamp mode) fits = form_unbroken (codes "Grant") (f, (to, (stamp, mode))) refl grant_fields_unbroken fits
event_holds (event.Callback f to stamp kind) fits = form_unbroken (codes "Callback") (f, (to, (stamp, kind))) refl call_back_fields_unbroken fits
event_holds (event.Mode f stamp mode) fits = form_unbroken (codes "Mode") (f, (stamp, mode)) refl taken_fields_unbroken fits
event_holds (event.Filled f b) fits = form_unbroken (codes "Filled") (f, b) refl file_block_unbroken fits
event_holds (event.Dropped f b cause) fits = form_unbroken (codes "Dropped") (f, (b, cause)) refl dropped_fields_unbroken fits
event_holds (event.Dirtied f b) fits = form_unbroken (codes "Dirtied") (f, b) refl file_block_unbroken fits
event_holds (event.WroteBack f b) fits = form_unbroken (codes "WroteBack") (f, b) refl file_block_unbroken fits
event_holds (event.Opened f s k mode) fits = form_unbroken (codes "Opened") (f, (s, (k, mode))) refl opened_fields_unbroken fits
event_holds (event.Closed f s k mode) fits = form_unbroken (codes "Closed") (f, (s, (k, mode))) refl opened_fields_unbroken fits
event_holds (event.Shared f s) fits = form_unbroken (codes "Shared") (f, s) refl shared_fields_unbroken fits
event_holds (event.Learned path server) fits = form_unbroken (codes "Learned") (path, server) refl learned_fields_unbroken fits
event_holds (event.Freeze p) fits = form_unbroken (codes "Freeze") p refl pid_unbroken fits
event_holds (event.Thaw p) fits = form_unbroken (codes "Thaw") p refl pid_unbroken fits

event_unbroken : IsUnbroken event_format
event_unbroken = record { holds = event_holds }

record_parts_unbroken : IsUnbroken (kernel then event_format)
record_parts_unbroken = then_unbroken kernel_unbroken event_unbroken

pub one_line : (r : Rec) → HasLine r → IsOneLine (line_of r)
one_line r has = record { front = record_format.printed r; parts = refl; unbroken = record_parts_unbroken.holds (r.kernel, r.event) has }
