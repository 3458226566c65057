-- The events of a trace, and its records, are read as they were printed.
use Rattle.std.proofs.Common.{◌≡◌, ℕ, true, List, ◌++◌, refl, ap}
use Rattle.std.specs.Prelude.{codes}
use Rattle.std.specs.List.{AllByRecursion}
use Rattle.unix_calls.specs.declared.event.Event.{Event}
use Rattle.unix_calls.specs.declared.event.Event.TheVariants as event
use Rattle.field_reader.specs.Reads.{found, made, ends_word}
use Rattle.history_text.specs.Formats.{IsFormat, ◌then◌}
use Rattle.history_text.specs.Numbers.{number32, pid}
use Rattle.history_text.specs.Calls.{call_format, reply_format}
use Rattle.history_text.proofs.FormatLaws.{then_is, made_of_is, named_is, IsRow, row_is}
use Rattle.history_text.proofs.NumberLaws.{number32_is, pid_is}
use Rattle.history_text.proofs.CallLaws.{call_is, reply_is}
use Rattle.history_text.proofs.EntryLaws.{entry_is}
use Rattle.history_text.proofs.ListingLaws.{ReadsNoEnd}
use Rattle.trace_text.specs.Fields.{kernel, block, transaction, file, stream, prefix_format, about_if_any, truth, fate_format, cache_format, mode_format, callback_format, cause_format, kind_format}
use Rattle.trace_text.specs.Events.{event_shape, event_rows, event_format}
use Rattle.trace_text.specs.Traces.{record_format}
use Rattle.trace_text.proofs.FieldLaws.{kernel_is, block_is, transaction_is, file_is, stream_is, prefix_is, about_if_any_is, truth_is, fate_is, cache_is, mode_is, callback_is, cause_is, file_block_is, kind_is}

fault_is : IsFormat (kernel then kernel then fate_format)
fault_is = then_is kernel_is (then_is kernel_is fate_is)

burst_is : IsFormat (pid then number32)
burst_is = then_is pid_is number32_is

issue_is : IsFormat (pid then number32 then call_format)
issue_is = then_is pid_is (then_is number32_is call_is)

return_is : IsFormat (pid then number32 then reply_format)
return_is = then_is pid_is (then_is number32_is reply_is)

send_is : IsFormat (transaction then kernel then about_if_any then kind_format)
send_is = then_is transaction_is (then_is kernel_is (then_is about_if_any_is kind_is))

deliver_is : IsFormat (transaction then kernel then truth then about_if_any)
deliver_is = then_is transaction_is (then_is kernel_is (then_is truth_is about_if_any_is))

expire_is : IsFormat (transaction then truth)
expire_is = then_is transaction_is truth_is

grant_is : IsFormat (file then kernel then number32 then cache_format)
grant_is = then_is file_is (then_is kernel_is (then_is number32_is cache_is))

call_back_is : IsFormat (file then kernel then number32 then callback_format)
call_back_is = then_is file_is (then_is kernel_is (then_is number32_is callback_is))

taken_is : IsFormat (file then number32 then cache_format)
taken_is = then_is file_is (then_is number32_is cache_is)

dropped_is : IsFormat (file then block then cause_format)
dropped_is = then_is file_is (then_is block_is cause_is)

opened_is : IsFormat (file then stream then kernel then mode_format)
opened_is = then_is file_is (then_is stream_is (then_is kernel_is mode_is))

shared_is : IsFormat (file then stream)
shared_is = then_is file_is stream_is

learned_is : IsFormat (prefix_format then kernel)
learned_is = then_is prefix_is kernel_is

event_again : (value : Event) (rest : List ℕ) → (event_shape value).Fits → ends_word rest ≡ true → event_format.read ((event_shape value).printed ++ rest) ≡ found value rest
event_again (event.Burst p count) rest fits ends = ap (made {B = Event} (λ p. event.Burst p.0 p.1)) (burst_is.again (p, count) rest fits ends)
event_again (event.Issue p number call) rest fits ends = ap (made {B = Event} (λ p. event.Issue p.0 p.1.0 p.1.1)) (issue_is.again (p, (number, call)) rest fits ends)
event_again (event.Enter entry) rest fits ends = ap (made {B = Event} event.Enter) (entry_is.again entry rest fits ends)
event_again (event.Return p number reply) rest fits ends = ap (made {B = Event} (λ p. event.Return p.0 p.1.0 p.1.1)) (return_is.again (p, (number, reply)) rest fits ends)
event_again (event.Send tx to about kind) rest fits ends = ap (made {B = Event} (λ p. event.Send p.0 p.1.0 p.1.1.0 p.1.1.1)) (send_is.again (tx, (to, (about, kind))) rest fits ends)
event_again (event.Fault a b f) rest fits ends = ap (made {B = Event} (λ p. event.Fault p.0 p.1.0 p.1.1)) (fault_is.again (a, (b, f)) rest fits ends)
event_again (event.Deliver tx from reply about) rest fits ends = ap (made {B = Event} (λ p. event.Deliver p.0 p.1.0 p.1.1.0 p.1.1.1)) (deliver_is.again (tx, (from, (reply, about))) rest fits ends)
event_again (event.Expire tx last) rest fits ends = ap (made {B = Event} (λ p. event.Expire p.0 p.1)) (expire_is.again (tx, last) rest fits ends)
event_again (event.Grant f to stamp mode) rest fits ends = ap (made {B = Event} (λ p. event.Grant p.0 p.1.0 p.1.1.0 p.1.1.1)) (grant_is.again (f, (to, (stamp, mode))) rest fits ends)
event_again (event.Callback f to stamp kind) rest fits ends = ap (made {B = Event} (λ p. event.Callback p.0 p.1.0 p.1.1.0 p.1.1.1)) (call_back_is.again (f, (to, (stamp, kind))) rest fits ends)
event_again (event.Mode f stamp mode) rest fits ends = ap (made {B = Event} (λ p. event.Mode p.0 p.1.0 p.1.1)) (taken_is.again (f, (stamp, mode)) rest fits ends)
event_again (event.Filled f b) rest fits ends = ap (made {B = Event} (λ p. event.Filled p.0 p.1)) (file_block_is.again (f, b) rest fits ends)
event_again (event.Dropped f b cause) rest fits ends = ap (made {B = Event} (λ p. event.Dropped p.0 p.1.0 p.1.1)) (dropped_is.again (f, (b, cause)) rest fits ends)
event_again (event.Dirtied f b) rest fits ends = ap (made {B = Event} (λ p. event.Dirtied p.0 p.1)) (file_block_is.again (f, b) rest fits ends)
event_again (event.WroteBack f b) rest fits ends = ap (made {B = Event} (λ p. event.WroteBack p.0 p.1)) (file_block_is.again (f, b) rest fits ends)
event_again (event.Opened f s k mode) rest fits ends = ap (made {B = Event} (λ p. event.Opened p.0 p.1.0 p.1.1.0 p.1.1.1)) (opened_is.again (f, (s, (k, mode))) rest fits ends)
event_again (event.Closed f s k mode) rest fits ends = ap (made {B = Event} (λ p. event.Closed p.0 p.1.0 p.1.1.0 p.1.1.1)) (opened_is.again (f, (s, (k, mode))) rest fits ends)
event_again (event.Shared f s) rest fits ends = ap (made {B = Event} (λ p. event.Shared p.0 p.1)) (shared_is.again (f, s) rest fits ends)
event_again (event.Learned path server) rest fits ends = ap (made {B = Event} (λ p. event.Learned p.0 p.1)) (learned_is.again (path, server) rest fits ends)
event_again (event.Freeze p) rest fits ends = ap (made {B = Event} event.Freeze) (pid_is.again p rest fits ends)
event_again (event.Thaw p) rest fits ends = ap (made {B = Event} event.Thaw) (pid_is.again p rest fits ends)

event_rows_are : AllByRecursion (IsRow event_shape) event_rows
event_rows_are = (
  row_is event_shape (codes "Burst") burst_is (λ p. event.Burst p.0 p.1) (λ x. refl) (λ x h. h),
  (
    row_is event_shape (codes "Issue") issue_is (λ p. event.Issue p.0 p.1.0 p.1.1) (λ x. refl) (λ x h. h),
    (
      row_is event_shape (codes "Enter") entry_is event.Enter (λ x. refl) (λ x h. h),
      (
        row_is event_shape (codes "Return") return_is (λ p. event.Return p.0 p.1.0 p.1.1) (λ x. refl) (λ x h. h),
        (
          row_is event_shape (codes "Send") send_is (λ p. event.Send p.0 p.1.0 p.1.1.0 p.1.1.1) (λ x. refl) (λ x h. h),
          (
            row_is event_shape (codes "Fault") fault_is (λ p. event.Fault p.0 p.1.0 p.1.1) (λ x. refl) (λ x h. h),
            (
              row_is event_shape (codes "Deliver") deliver_is (λ p. event.Deliver p.0 p.1.0 p.1.1.0 p.1.1.1) (λ x. refl) (λ x h. h),
              (
                row_is event_shape (codes "Expire") expire_is (λ p. event.Expire p.0 p.1) (λ x. refl) (λ x h. h),
                (
                  row_is event_shape (codes "Grant") grant_is (λ p. event.Grant p.0 p.1.0 p.1.1.0 p.1.1.1) (λ x. refl) (λ x h. h),
                  (
                    row_is event_shape (codes "Callback") call_back_is (λ p. event.Callback p.0 p.1.0 p.1.1.0 p.1.1.1) (λ x. refl) (λ x h. h),
                    (
                      row_is event_shape (codes "Mode") taken_is (λ p. event.Mode p.0 p.1.0 p.1.1) (λ x. refl) (λ x h. h),
                      (
                        row_is event_shape (codes "Filled") file_block_is (λ p. event.Filled p.0 p.1) (λ x. refl) (λ x h. h),
                        (
                          row_is event_shape (codes "Dropped") dropped_is (λ p. event.Dropped p.0 p.1.0 p.1.1) (λ x. refl) (λ x h. h),
                          (
                            row_is event_shape (codes "Dirtied") file_block_is (λ p. event.Dirtied p.0 p.1) (λ x. refl) (λ x h. h),
                            (
                              row_is event_shape (codes "WroteBack") file_block_is (λ p. event.WroteBack p.0 p.1) (λ x. refl) (λ x h. h),
                              (
                                row_is event_shape (codes "Opened") opened_is (λ p. event.Opened p.0 p.1.0 p.1.1.0 p.1.1.1) (λ x. refl) (λ x h. h),
                                (
                                  row_is event_shape (codes "Closed") opened_is (λ p. event.Closed p.0 p.1.0 p.1.1.0 p.1.1.1) (λ x. refl) (λ x h. h),
                                  (
                                    row_is event_shape (codes "Shared") shared_is (λ p. event.Shared p.0 p.1) (λ x. refl) (λ x h. h),
                                    (
                                      row_is event_shape (codes "Learned") learned_is (λ p. event.Learned p.0 p.1) (λ x. refl) (λ x h. h),
                                      (
                                        row_is event_shape (codes "Freeze") pid_is event.Freeze (λ x. refl) (λ x h. h),
                                        (
                                          row_is event_shape (codes "Thaw") pid_is event.Thaw (λ x. refl) (λ x h. h),
                                          tt,
                                        ),
                                      ),
                                    ),
                                  ),
                                ),
                              ),
                            ),
                          ),
                        ),
                      ),
                    ),
                  ),
                ),
              ),
            ),
          ),
        ),
      ),
    ),
  ),
)

event_is : IsFormat event_format
event_is = named_is event_shape event_rows event_again event_rows_are

pub record_is : IsFormat record_format
record_is = made_of_is (then_is kernel_is event_is) (λ p. record { kernel = p.0; event = p.1 }) (λ r. (r.kernel, r.event)) (λ r. refl) (λ p. refl)

-- no record is read where a trace may end
pub no_record_ends : ReadsNoEnd record_format
no_record_ends = record { nothing = refl; budget = refl; stalled = refl }
