-- What happens to a view in a cluster beside the steps of one file.
use Rattle.std.specs.Prelude.{ℕ, ◌*◌, ◌==◌, nat_le, nat_lt, Bool, true, false, ◌&&◌, not, is_none, List, [], None}
use Rattle.std.specs.List.{list_any}
use Rattle.file_views.specs.declared.body.FileBody.{FileBody}
use Rattle.file_views.specs.declared.body.FileBody.TheVariants as form
use Rattle.file_views.specs.declared.client.Client.{Client}
use Rattle.file_views.specs.declared.step.FileStep.{FileStep}
use Rattle.file_views.specs.declared.step.FileStep.TheVariants as act
use Rattle.file_views.specs.declared.moves.ClientMove.{ClientMove}
use Rattle.file_views.specs.declared.moves.ClientMove.TheVariants as move
use Rattle.file_views.specs.declared.view.View.{View}
use Rattle.file_views.specs.declared.entered.Entered.{Entered}
use Rattle.file_views.specs.Setting.{Setting}
use Rattle.file_views.specs.Contents.{zeros}
use Rattle.file_views.specs.Streams.{is_any}
use Rattle.file_views.specs.Clients.{is_on, held, with_block}
use Rattle.file_views.specs.Views.{client, set_client, busy}
use Rattle.file_views.specs.Data.{send_fetch, queue, look}
use Rattle.file_views.specs.Possible.{is_client, may_do}
use Rattle.file_views.specs.Entries.{enters_look}

-- the kernel of a reading, writing or append
abbrev pub kernel_of : FileStep → ℕ
kernel_of (act.Reading pid number kernel stream from many) = kernel
kernel_of (act.Writing pid number kernel stream from bytes) = kernel
kernel_of (act.Append pid number kernel stream bytes) = kernel
kernel_of step = 0

-- whether it is a reading, writing or append
abbrev pub is_data : FileStep → Bool
is_data (act.Reading pid number kernel stream from many) = true
is_data (act.Writing pid number kernel stream from bytes) = true
is_data (act.Append pid number kernel stream bytes) = true
is_data step = false

-- whether a request is a fetch
abbrev pub is_fetch : FileBody → Bool
is_fetch (form.Fetch stamp block) = true
is_fetch body = false

-- whether the kernel has an unfinished fetch
abbrev pub has_fetch : View → ℕ → Bool
has_fetch v kernel = list_any (λ one. (one.from == kernel) && is_fetch one.body) v.calls

-- whether the block may be asked for, for what waits
abbrev pub may_fetch : Setting → Client → ℕ → Bool
may_fetch z c number = is_on c.mode && (is_any c.waiting && (nat_lt (number * z.block) c.size && is_none (held c.blocks number)))

-- whether the block is past the client's end, but where a file may reach, and isn't held
abbrev pub is_past : Setting → Client → ℕ → Bool
is_past z c number = is_on c.mode && (is_any c.streams && (nat_lt (number * z.block) z.most && (nat_le c.size (number * z.block) && is_none (held c.blocks number))))

-- whether no kernel was given On last
abbrev pub none_on : View → Bool
none_on v = not (list_any is_on v.modes)

-- whether the move is possible
abbrev pub may_move : Setting → View → ClientMove → Bool
may_move z v (move.Number next) = nat_le v.next next
may_move z v (move.Count kernel count) = is_client v kernel && nat_le (client v kernel).count count
may_move z v (move.Queue step) = is_data step && may_do z v step
may_move z v (move.Fetch kernel block) = is_client v kernel && (not (has_fetch v kernel) && may_fetch z (client v kernel) block.0)
may_move z v (move.Look kernel) = is_client v kernel && not (has_fetch v kernel)
may_move z v (move.Zeros kernel block) = is_client v kernel && is_past z (client v kernel) block.0
may_move z v (move.Raise version) = v.uncached && (not (busy v) && nat_le v.version version)
may_move z v move.Uncache = not (is_any v.opens) && none_on v

-- the view after a move that is possible
abbrev pub after_move : Setting → View → ClientMove → View
after_move z v (move.Number next) = record v { next = next }
after_move z v (move.Count kernel count) = set_client v kernel (record (client v kernel) { count = count })
after_move z v (move.Queue step) = queue v (kernel_of step) step
after_move z v (move.Fetch kernel block) = send_fetch v kernel block.0
after_move z v (move.Look kernel) = look z v kernel
after_move z v (move.Zeros kernel block) = set_client v kernel (record (client v kernel) { blocks = with_block (record { block = block; bytes = zeros z.block; dirty = None }) (client v kernel).blocks })
after_move z v (move.Raise version) = record v { version = version }
after_move z v move.Uncache = record v { uncached = true }

-- what enters in a move: what waits may be done
abbrev pub enters_move : Setting → View → ClientMove → List Entered
enters_move z v (move.Look kernel) = enters_look z v kernel
enters_move z v other = []
