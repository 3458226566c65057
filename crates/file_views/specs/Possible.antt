-- Which steps are possible.
use Rattle.std.specs.Prelude.{ℕ, ◌+◌, ◌==◌, nat_le, Bool, true, false, ◌&&◌, ◌||◌, not, is_some, if◌then◌else◌, List, [], ◌∷◌, length, Option, Some, None}
use Rattle.std.specs.List.{list_any, list_all}
use Rattle.sprite_ids.specs.declared.StreamNo.{StreamNo}
use Rattle.sprite_ids.specs.declared.Mode.{Mode}
use Rattle.file_views.specs.declared.body.FileBody.{FileBody}
use Rattle.file_views.specs.declared.body.FileBody.TheVariants as form
use Rattle.file_views.specs.declared.client.Held.{Held}
use Rattle.file_views.specs.declared.call.FileCall.{FileCall}
use Rattle.file_views.specs.declared.call.Carry.{Carry}
use Rattle.file_views.specs.declared.step.FileStep.{FileStep}
use Rattle.file_views.specs.declared.step.FileStep.TheVariants as act
use Rattle.file_views.specs.declared.view.View.{View}
use Rattle.file_views.specs.Setting.{Setting}
use Rattle.file_views.specs.Streams.{same_stream, has_stream, reads, writes, stream_mode}
use Rattle.file_views.specs.Clients.{held, range_of}
use Rattle.file_views.specs.Views.{client, find_call, find_carried, last_stamp}
use Rattle.file_views.specs.Steps.{after}

-- the most that a stamp, a version, an open's count, or the number of a call or a dirty block may be for a step to be possible
abbrev pub top : ℕ
top = 2000000000

-- whether no number of the view is over it
abbrev pub has_room : View → Bool
has_room v = nat_le (last_stamp v) top && (nat_le v.version top && (nat_le v.next top && (list_all (λ one. nat_le one.count top) v.opens && list_all (λ c. nat_le c.count top) v.clients)))

-- whether the kernel is a client
abbrev pub is_client : View → ℕ → Bool
is_client v kernel = nat_le 1 kernel && nat_le kernel (length v.clients)

-- whether a request is about the stream
abbrev pub is_about : StreamNo → FileBody → Bool
is_about stream (form.Opening pid number other mode truncate) = same_stream stream other
is_about stream (form.Close other grants) = same_stream stream other
is_about stream (form.Op pid number stamp other way) = same_stream stream other
is_about stream (form.Move other target kept grants) = same_stream stream other
is_about stream body = false

-- whether a reading, writing or append is about the stream
abbrev pub works_on : StreamNo → FileStep → Bool
works_on stream (act.Reading pid number kernel other from length) = same_stream stream other
works_on stream (act.Writing pid number kernel other from bytes) = same_stream stream other
works_on stream (act.Append pid number kernel other bytes) = same_stream stream other
works_on stream step = false

-- whether an unfinished call of the kernel, or what waits there, is about the stream
abbrev pub is_in_use : View → ℕ → StreamNo → Bool
is_in_use v kernel stream = list_any (λ one. (one.from == kernel) && is_about stream one.body) v.calls || list_any (works_on stream) (client v kernel).waiting

-- whether anything in the view names the stream
abbrev pub is_named : View → StreamNo → Bool
is_named v stream =
    has_stream stream v.shared
    || (list_any (λ one. same_stream stream one.stream) v.opens
    || (list_any (λ one. is_about stream one.body) v.calls
    || (list_any (λ one. same_stream stream one.stream) v.carried
    || list_any (λ c. has_stream stream c.streams || list_any (works_on stream) c.waiting) v.clients)))

-- whether the stream is installed at the kernel, and nothing there is about it
abbrev pub is_free : View → ℕ → StreamNo → Bool
is_free v kernel stream = is_client v kernel && (has_stream stream (client v kernel).streams && not (is_in_use v kernel stream))

-- whether the stream was opened for that
abbrev pub is_opened_to : (Mode → Bool) → Option Mode → Bool
is_opened_to may (Some mode) = may mode
is_opened_to may None = false

abbrev pub is_free_to : (Mode → Bool) → View → ℕ → StreamNo → Bool
is_free_to may v kernel stream = is_free v kernel stream && is_opened_to may (stream_mode v.opens stream)

-- whether a request is a write-back of that block with that stamp
abbrev pub is_write_back : ℕ → ℕ → FileBody → Bool
is_write_back stamp number (form.WriteBack other block size bytes) = (other == stamp) && (block.0 == number)
is_write_back stamp number body = false

-- whether the block has an unfinished write-back with its kernel's stamp
abbrev pub has_write_back : View → ℕ → ℕ → Bool
has_write_back v kernel number = list_any (λ one. (one.from == kernel) && is_write_back (client v kernel).stamp number one.body) v.calls

-- whether the block is one of those that the first that waits touches
abbrev pub is_filling : Setting → ℕ → List FileStep → ℕ → Bool
is_filling z size [] number = false
is_filling z size (first ∷ rest) number = list_any (λ other. other == number) (range_of z size first)

-- a dirty block may be sent that isn't on its way, and a clean one dropped that nothing waits for
abbrev pub may_write_back : Setting → View → ℕ → Option Held → Bool
may_write_back z v kernel (Some one) = if is_some one.dirty then not (has_write_back v kernel one.block.0) else not (is_filling z (client v kernel).size (client v kernel).waiting one.block.0)
may_write_back z v kernel None = false

-- whether a looked-up call's request isn't taken yet, or its reply is made
abbrev pub is_due : Option Carry → Option FileCall → Bool
is_due (Some carried) call = true
is_due None (Some one) = not one.taken || is_some one.reply
is_due None None = false

-- whether the call isn't finished
abbrev pub is_unfinished : Option Carry → Option FileCall → Bool
is_unfinished (Some carried) call = true
is_unfinished None call = is_some call

-- by the kind of step, where the numbers have room
abbrev pub may_do : Setting → View → FileStep → Bool
may_do z v (act.Opening pid number kernel stream mode truncate) = is_client v kernel && (not (is_named v stream) && (not truncate || writes mode))
may_do z v (act.Closing kernel stream) = is_free v kernel stream
may_do z v (act.Moving stream source target kept) = is_free v source stream && (is_client v target && not (source == target))
may_do z v (act.Reading pid number kernel stream from length) = is_free_to reads v kernel stream && (nat_le length z.moved && nat_le from z.most)
may_do z v (act.Writing pid number kernel stream from bytes) = is_free_to writes v kernel stream && (nat_le (length bytes) z.moved && nat_le (from + length bytes) z.most)
may_do z v (act.Append pid number kernel stream bytes) = is_free_to writes v kernel stream && nat_le (length bytes) z.moved
may_do z v (act.WritingBack kernel block) = is_client v kernel && may_write_back z v kernel (held (client v kernel).blocks block.0)
may_do z v (act.Delivering number) = is_due (find_carried v.carried number) (find_call v.calls number)
may_do z v (act.Expiring number) = is_unfinished (find_carried v.carried number) (find_call v.calls number)

-- whether the step is possible
abbrev pub possible : Setting → View → FileStep → Bool
possible z v step = has_room v && may_do z v step

-- the view after a step; one that isn't possible changes nothing
abbrev pub stepped : Setting → View → FileStep → View
stepped z v step = if possible z v step then after z v step else v

-- the view after steps in a row
abbrev pub played : Setting → View → List FileStep → View
played z v [] = v
played z v (step ∷ rest) = played z (stepped z v step) rest
