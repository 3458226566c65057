-- Whether parts of two views are the same.
use Rattle.std.specs.Prelude.{ℕ, ◌==◌, Bool, true, false, ◌&&◌, Option, Some, None}
use Rattle.std.specs.Cmp.Lexicographic.{pointwise}
use Rattle.sprite_ids.specs.declared.Mode.{Mode}
use Rattle.sprite_ids.specs.declared.CacheMode.{CacheMode}
use Rattle.sprite_ids.specs.declared.CacheMode.TheVariants as cache
use Rattle.file_views.specs.declared.grant.FileGrant.{FileGrant}
use Rattle.file_views.specs.declared.opens.Open.{Open}
use Rattle.file_views.specs.declared.client.Held.{Held}
use Rattle.file_views.specs.declared.client.Client.{Client}
use Rattle.file_views.specs.declared.call.Carry.{Carry}
use Rattle.file_views.specs.declared.step.FileStep.{FileStep}
use Rattle.file_views.specs.declared.step.FileStep.TheVariants as act
use Rattle.file_views.specs.declared.view.View.{View}
use Rattle.file_views.specs.Contents.{same_bytes}
use Rattle.file_views.specs.Streams.{same_stream, reads, writes}
use Rattle.file_views.specs.Entries.{agrees}

-- whether two numbers are one
abbrev pub same_count : ℕ → ℕ → Bool
same_count count other = count == other

-- whether two things that may be there are both away, or both there and the same
abbrev pub same_option : {X : Type 0} → (X → X → Bool) → Option X → Option X → Bool
same_option same (Some one) (Some other) = same one other
same_option same (Some one) None = false
same_option same None (Some other) = false
same_option same None None = true

-- whether two modes of caching are one
abbrev pub same_mode : CacheMode → CacheMode → Bool
same_mode cache.On cache.On = true
same_mode cache.Off cache.Off = true
same_mode cache.None cache.None = true
same_mode mode other = false

-- whether two modes of streams are one
abbrev pub same_use : Mode → Mode → Bool
same_use mode other = agrees (reads mode) (reads other) && agrees (writes mode) (writes other)

-- whether two opens are the same, two grants, and two carried streams
abbrev pub same_open : Open → Open → Bool
same_open one other = same_stream one.stream other.stream && ((one.kernel == other.kernel) && (same_use one.mode other.mode && (one.count == other.count)))

abbrev pub same_grant : FileGrant → FileGrant → Bool
same_grant grant other = (grant.stamp == other.stamp) && ((grant.old == other.old) && ((grant.new == other.new) && ((grant.size == other.size) && (agrees grant.on other.on && agrees grant.holder other.holder))))

abbrev pub same_carry : Carry → Carry → Bool
same_carry one other = (one.call == other.call) && ((one.to == other.to) && (same_stream one.stream other.stream && same_option same_grant one.grant other.grant))

-- whether two steps are the same
abbrev pub same_step : FileStep → FileStep → Bool
same_step (act.Opening pid number kernel stream mode truncate) (act.Opening other_pid other_number other_kernel other_stream other_mode other_truncate) = (pid == other_pid) && ((number == other_number) && ((kernel == other_kernel) && (same_stream stream other_stream && (same_use mode other_mode && agrees truncate other_truncate))))
same_step (act.Closing kernel stream) (act.Closing other_kernel other_stream) = (kernel == other_kernel) && same_stream stream other_stream
same_step (act.Moving stream source target kept) (act.Moving other_stream other_source other_target other_kept) = same_stream stream other_stream && ((source == other_source) && ((target == other_target) && agrees kept other_kept))
same_step (act.Reading pid number kernel stream from many) (act.Reading other_pid other_number other_kernel other_stream other_from other_many) = (pid == other_pid) && ((number == other_number) && ((kernel == other_kernel) && (same_stream stream other_stream && ((from == other_from) && (many == other_many)))))
same_step (act.Writing pid number kernel stream from bytes) (act.Writing other_pid other_number other_kernel other_stream other_from other_bytes) = (pid == other_pid) && ((number == other_number) && ((kernel == other_kernel) && (same_stream stream other_stream && ((from == other_from) && same_bytes bytes other_bytes))))
same_step (act.Append pid number kernel stream bytes) (act.Append other_pid other_number other_kernel other_stream other_bytes) = (pid == other_pid) && ((number == other_number) && ((kernel == other_kernel) && (same_stream stream other_stream && same_bytes bytes other_bytes)))
same_step (act.WritingBack kernel block) (act.WritingBack other_kernel other_block) = (kernel == other_kernel) && (block.0 == other_block.0)
same_step (act.Delivering number) (act.Delivering other_number) = number == other_number
same_step (act.Expiring number) (act.Expiring other_number) = number == other_number
same_step step other = false

-- whether two blocks are the same, with their dirty numbers
abbrev pub same_held : Held → Held → Bool
same_held one other = (one.block.0 == other.block.0) && (same_bytes one.bytes other.bytes && same_option same_count one.dirty other.dirty)

-- whether two clients keep the same
abbrev pub same_client : Client → Client → Bool
same_client c other = (c.stamp == other.stamp) && ((c.version == other.version) && ((c.size == other.size) && (same_mode c.mode other.mode && (pointwise same_held c.blocks other.blocks && (pointwise same_stream c.streams other.streams && (pointwise same_step c.waiting other.waiting && (c.count == other.count)))))))

-- whether two views are the same but for their calls: what the server keeps, what it gave, and what the clients keep and carry
abbrev pub same_kept : View → View → Bool
same_kept v w = same_bytes v.bytes w.bytes && ((v.version == w.version) && (same_option same_count v.holder w.holder && (agrees v.uncached w.uncached && (pointwise same_open v.opens w.opens && pointwise same_stream v.shared w.shared))))

abbrev pub same_given : View → View → Bool
same_given v w = pointwise same_count v.stamps w.stamps && (pointwise same_mode v.modes w.modes && (pointwise (same_option same_grant) v.given w.given && (v.next == w.next)))

abbrev pub same_but_calls : View → View → Bool
same_but_calls v w = same_kept v w && (same_given v w && (pointwise same_client v.clients w.clients && pointwise same_carry v.carried w.carried))
