-- How the events of a trace are printed, each as its name and its fields.
use Rattle.std.specs.Prelude.{codes, List, [], ◌∷◌}
use Rattle.unix_calls.specs.declared.event.Event.{Event}
use Rattle.unix_calls.specs.declared.event.Event.TheVariants as event
use Rattle.history_text.specs.Formats.{Format, ◌then◌, Shape, form, Row, row, named}
use Rattle.history_text.specs.Numbers.{number32, pid}
use Rattle.history_text.specs.Calls.{call_format, reply_format}
use Rattle.history_text.specs.Entries.{entry}
use Rattle.trace_text.specs.Fields.{kernel, block, transaction, file, stream, prefix_format, about_if_any, truth, fate_format, cache_format, mode_format, callback_format, cause_format, kind_format}

-- an event's name and its fields, each after a space. Calls, replies and entries are printed as in a history. Two kinds of
-- event, which no run makes, are printed and not read: a fault that is none, and an entry whose parts don't belong
-- together, which has its process, its number and a space alone
abbrev pub event_shape : Event → Shape
event_shape (event.Burst p count) = form (codes "Burst") (pid then number32) (p, count)
event_shape (event.Issue p number call) = form (codes "Issue") (pid then number32 then call_format) (p, (number, call))
event_shape (event.Enter made) = form (codes "Enter") entry made
event_shape (event.Return p number reply) = form (codes "Return") (pid then number32 then reply_format) (p, (number, reply))
event_shape (event.Send tx to about kind) = form (codes "Send") (transaction then kernel then about_if_any then kind_format) (tx, (to, (about, kind)))
event_shape (event.Fault a b f) = form (codes "Fault") (kernel then kernel then fate_format) (a, (b, f))
event_shape (event.Deliver tx from reply about) = form (codes "Deliver") (transaction then kernel then truth then about_if_any) (tx, (from, (reply, about)))
event_shape (event.Expire tx last) = form (codes "Expire") (transaction then truth) (tx, last)
event_shape (event.Grant f to stamp mode) = form (codes "Grant") (file then kernel then number32 then cache_format) (f, (to, (stamp, mode)))
event_shape (event.Callback f to stamp kind) = form (codes "Callback") (file then kernel then number32 then callback_format) (f, (to, (stamp, kind)))
event_shape (event.Mode f stamp mode) = form (codes "Mode") (file then number32 then cache_format) (f, (stamp, mode))
event_shape (event.Filled f b) = form (codes "Filled") (file then block) (f, b)
event_shape (event.Dropped f b cause) = form (codes "Dropped") (file then block then cause_format) (f, (b, cause))
event_shape (event.Dirtied f b) = form (codes "Dirtied") (file then block) (f, b)
event_shape (event.WroteBack f b) = form (codes "WroteBack") (file then block) (f, b)
event_shape (event.Opened f s k mode) = form (codes "Opened") (file then stream then kernel then mode_format) (f, (s, (k, mode)))
event_shape (event.Closed f s k mode) = form (codes "Closed") (file then stream then kernel then mode_format) (f, (s, (k, mode)))
event_shape (event.Shared f s) = form (codes "Shared") (file then stream) (f, s)
event_shape (event.Learned path server) = form (codes "Learned") (prefix_format then kernel) (path, server)
event_shape (event.Freeze p) = form (codes "Freeze") pid p
event_shape (event.Thaw p) = form (codes "Thaw") pid p

-- what is read behind each name: of the events of streams, prefixes and moves,
abbrev pub stream_rows : List (Row Event)
stream_rows =
    row (codes "Opened") (file then stream then kernel then mode_format) (λ p. event.Opened p.0 p.1.0 p.1.1.0 p.1.1.1) ∷
    row (codes "Closed") (file then stream then kernel then mode_format) (λ p. event.Closed p.0 p.1.0 p.1.1.0 p.1.1.1) ∷
    row (codes "Shared") (file then stream) (λ p. event.Shared p.0 p.1) ∷
    row (codes "Learned") (prefix_format then kernel) (λ p. event.Learned p.0 p.1) ∷
    row (codes "Freeze") pid event.Freeze ∷
    row (codes "Thaw") pid event.Thaw ∷
    []

-- of those of caches,
abbrev pub cache_rows : List (Row Event)
cache_rows =
    row (codes "Grant") (file then kernel then number32 then cache_format) (λ p. event.Grant p.0 p.1.0 p.1.1.0 p.1.1.1) ∷
    row (codes "Callback") (file then kernel then number32 then callback_format) (λ p. event.Callback p.0 p.1.0 p.1.1.0 p.1.1.1) ∷
    row (codes "Mode") (file then number32 then cache_format) (λ p. event.Mode p.0 p.1.0 p.1.1) ∷
    row (codes "Filled") (file then block) (λ p. event.Filled p.0 p.1) ∷
    row (codes "Dropped") (file then block then cause_format) (λ p. event.Dropped p.0 p.1.0 p.1.1) ∷
    row (codes "Dirtied") (file then block) (λ p. event.Dirtied p.0 p.1) ∷
    row (codes "WroteBack") (file then block) (λ p. event.WroteBack p.0 p.1) ∷
    stream_rows

-- of those of packets,
abbrev pub packet_rows : List (Row Event)
packet_rows =
    row (codes "Send") (transaction then kernel then about_if_any then kind_format) (λ p. event.Send p.0 p.1.0 p.1.1.0 p.1.1.1) ∷
    row (codes "Fault") (kernel then kernel then fate_format) (λ p. event.Fault p.0 p.1.0 p.1.1) ∷
    row (codes "Deliver") (transaction then kernel then truth then about_if_any) (λ p. event.Deliver p.0 p.1.0 p.1.1.0 p.1.1.1) ∷
    row (codes "Expire") (transaction then truth) (λ p. event.Expire p.0 p.1) ∷
    cache_rows

-- and of those of processes
abbrev pub event_rows : List (Row Event)
event_rows =
    row (codes "Burst") (pid then number32) (λ p. event.Burst p.0 p.1) ∷
    row (codes "Issue") (pid then number32 then call_format) (λ p. event.Issue p.0 p.1.0 p.1.1) ∷
    row (codes "Enter") entry event.Enter ∷
    row (codes "Return") (pid then number32 then reply_format) (λ p. event.Return p.0 p.1.0 p.1.1) ∷
    packet_rows

abbrev pub event_format : Format Event
event_format = named event_shape event_rows
