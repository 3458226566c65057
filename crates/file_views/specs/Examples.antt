-- Small files, and what happens to them.
use Rattle.std.specs.Prelude.{ℕ, Bool, true, false, List, [], ◌∷◌, ◌++◌, codes, Option, Some, None}
use Rattle.sprite_ids.specs.declared.StreamNo.{StreamNo}
use Rattle.sprite_ids.specs.declared.Mode.{Mode}
use Rattle.sprite_ids.specs.declared.Mode.TheVariants.{Read, Write, Both}
use Rattle.file_views.specs.declared.body.FileBody.{FileBody}
use Rattle.file_views.specs.declared.body.FileBody.TheVariants as form
use Rattle.file_views.specs.declared.call.FileCall.{FileCall}
use Rattle.file_views.specs.declared.step.FileStep.{FileStep}
use Rattle.file_views.specs.declared.step.FileStep.TheVariants as act
use Rattle.file_views.specs.declared.view.View.{View}
use Rattle.file_views.specs.Setting.{Setting}
use Rattle.file_views.specs.Views.{new_view, client, set_client, find_call}
use Rattle.file_views.specs.Grants.{settle}
use Rattle.file_views.specs.Serving.{store}
use Rattle.file_views.specs.Possible.{played}

-- blocks of two bytes, files of six, calls of four
abbrev pub tiny : Setting
tiny = record { block = 2; most = 6; moved = 4; cached = true }

-- a file of two clients
abbrev pub small : List ℕ → View
small bytes = new_view 2 bytes

-- the file after these steps
abbrev pub small_after : List ℕ → List FileStep → View
small_after bytes steps = played tiny (small bytes) steps

-- that stream of the kernel
abbrev pub stream_of : ℕ → ℕ → StreamNo
stream_of kernel number = record { kernel = kernel; number = number }

-- steps of processes
abbrev pub opens : ℕ → ℕ → Mode → FileStep
opens kernel number mode = act.Opening 1001 1 kernel (stream_of kernel number) mode false

abbrev pub truncates : ℕ → ℕ → Mode → FileStep
truncates kernel number mode = act.Opening 1001 1 kernel (stream_of kernel number) mode true

abbrev pub closes : ℕ → ℕ → FileStep
closes kernel number = act.Closing kernel (stream_of kernel number)

abbrev pub reads : ℕ → StreamNo → ℕ → ℕ → FileStep
reads kernel stream from many = act.Reading 1001 1 kernel stream from many

abbrev pub writes : ℕ → StreamNo → ℕ → List ℕ → FileStep
writes kernel stream from bytes = act.Writing 1001 1 kernel stream from bytes

abbrev pub appends : ℕ → StreamNo → List ℕ → FileStep
appends kernel stream bytes = act.Append 1001 1 kernel stream bytes

abbrev pub moves : StreamNo → ℕ → ℕ → Bool → FileStep
moves stream source place kept = act.Moving stream source place kept

abbrev pub sends_back : ℕ → ℕ → FileStep
sends_back kernel number = act.WritingBack kernel (record { 0 = number })

abbrev pub comes : ℕ → FileStep
comes number = act.Delivering number

-- the call's request and its reply come
abbrev pub answered : ℕ → List FileStep
answered number = comes number ∷ comes number ∷ []

-- a file is written in a cache and closed, and then opened with truncation: its blocks are recalled
abbrev pub truncated_run : List FileStep
truncated_run =
    opens 1 1 Both ∷ answered 1
    ++ writes 1 (stream_of 1 1) 0 (codes "a") ∷ answered 2
    ++ closes 1 1 ∷ answered 3
    ++ truncates 1 1 Both ∷ comes 4 ∷ answered 5

-- a client that keeps its blocks at that open without comparing versions
abbrev pub uncompared_view : View
uncompared_view =
    let before : View = small_after (codes "x") truncated_run in
    let behind : View = small_after (codes "x") (truncated_run ++ comes 4 ∷ []) in
    set_client behind 1 (record (client behind 1) { blocks = (client before 1).blocks })

-- two opens of a kernel are granted, and the newer grant comes first
abbrev pub crossed_run : List FileStep
crossed_run = opens 1 1 Read ∷ comes 1 ∷ opens 1 2 Read ∷ answered 2 ++ comes 1 ∷ []

-- the older grant is taken after the newer one
abbrev pub older_taken_view : View
older_taken_view =
    let behind : View = small_after (codes "x") crossed_run in
    set_client behind 1 (record (client behind 1) { stamp = 1 })

-- a write-back is on its way while its kernel gets a newer stamp
abbrev pub overtaken_run : List FileStep
overtaken_run =
    truncates 2 1 Both ∷ answered 1
    ++ appends 2 (stream_of 2 1) (codes "ba") ∷ sends_back 2 0 ∷ opens 2 2 Read ∷ comes 3 ∷ []

-- the file of a write-back that is on its way is truncated by another client
abbrev pub emptied_run : List FileStep
emptied_run =
    truncates 2 1 Both ∷ answered 1
    ++ appends 2 (stream_of 2 1) (codes "ba") ∷ sends_back 2 0
    ∷ truncates 1 1 Both ∷ comes 3 ∷ answered 4

-- a looked-up write-back is stored whatever its stamp is
abbrev pub stored_anyway : View → Option FileCall → FileBody → View
stored_anyway v (Some one) (form.WriteBack stamp block size piece) = store tiny v one block size piece
stored_anyway v one body = v

abbrev pub body_in : Option FileCall → FileBody
body_in (Some one) = one.body
body_in None = form.Done

abbrev pub old_stored_view : View
old_stored_view =
    let before : View = small_after [] emptied_run in
    stored_anyway before (find_call before.calls 2) (body_in (find_call before.calls 2))

-- a second client opens the file for writing: the first one is stopped before the open is granted
abbrev pub called_run : List FileStep
called_run = opens 1 1 Read ∷ opens 2 2 Both ∷ comes 1 ∷ comes 2 ∷ []

-- the open is granted before the callback is answered
abbrev pub settled_early : View → Option FileCall → View
settled_early v (Some one) = settle v one
settled_early v None = v

abbrev pub granted_early_view : View
granted_early_view =
    let before : View = small_after (codes "x") called_run in
    settled_early before (find_call before.calls 2)

-- the holder opens the file twice more for writing, and the newer grant comes first: its dirty block stays
abbrev pub held_run : List FileStep
held_run =
    truncates 1 1 Both ∷ answered 1
    ++ writes 1 (stream_of 1 1) 0 (codes "ab")
    ∷ opens 1 2 Both ∷ opens 1 3 Both ∷ comes 2 ∷ comes 3 ∷ comes 3 ∷ comes 2 ∷ []

-- the newer grant has another old version than the holder's, whose dirty block is dropped
abbrev pub dropped_view : View
dropped_view =
    let behind : View = small_after [] held_run in
    set_client behind 1 (record (client behind 1) { blocks = [] })

-- part of a block is written, and sent to the server
abbrev pub partial_run : List FileStep
partial_run =
    truncates 1 1 Both ∷ answered 1
    ++ writes 1 (stream_of 1 1) 0 (codes "a") ∷ sends_back 1 0 ∷ answered 2

-- the block was sent whole: the server's file is longer than what was written
abbrev pub uncut_view : View
uncut_view = record (small_after [] partial_run) { bytes = 97 ∷ 0 ∷ [] }

-- two clients share the file for writing: one writes and one reads at the server, after the first one's blocks were collected
abbrev pub sharing_run : List FileStep
sharing_run =
    opens 1 1 Both ∷ answered 1
    ++ writes 1 (stream_of 1 1) 1 (codes "bcd") ∷ answered 2
    ++ opens 2 1 Read ∷ comes 3 ∷ answered 4
    ++ comes 3 ∷ reads 2 (stream_of 2 1) 0 4 ∷ answered 5
    ++ writes 1 (stream_of 1 1) 2 (codes "e") ∷ answered 6

-- the first client isn't stopped, and reads its old block after another's write
abbrev pub unstopped_view : View
unstopped_view =
    let before : View = small_after (codes "a") (opens 1 1 Both ∷ answered 1 ++ writes 1 (stream_of 1 1) 1 (codes "bcd") ∷ answered 2) in
    let behind : View = small_after (codes "a") sharing_run in
    set_client behind 1 (record (client before 1) { stamp = (client behind 1).stamp })

-- a stream moves to another client and leaves references behind, so that its file is cached by nobody; then it is closed on both
abbrev pub moved_run : List FileStep
moved_run =
    opens 1 1 Both ∷ answered 1
    ++ writes 1 (stream_of 1 1) 0 (codes "ab")
    ∷ moves (stream_of 1 1) 1 2 true ∷ comes 2 ∷ answered 3
    ++ answered 2
    ++ appends 2 (stream_of 1 1) (codes "c") ∷ answered 4
    ++ reads 1 (stream_of 1 1) 0 4 ∷ answered 5
    ++ closes 1 1 ∷ answered 6 ++ act.Closing 2 (stream_of 1 1) ∷ answered 7

-- a stream moves with all its references, while its client's dirty block is on its way
abbrev pub carried_run : List FileStep
carried_run =
    truncates 1 1 Both ∷ answered 1
    ++ writes 1 (stream_of 1 1) 0 (codes "abc") ∷ sends_back 1 1
    ∷ moves (stream_of 1 1) 1 2 false ∷ comes 3 ∷ comes 4 ∷ comes 2 ∷ comes 4
    ∷ comes 3 ∷ comes 2 ∷ comes 3 ∷ reads 2 (stream_of 1 1) 0 4 ∷ answered 5 ++ answered 6

-- appends up to the limit and past it, in a cache and at the server
abbrev pub limit_run : List FileStep
limit_run =
    truncates 1 1 Write ∷ answered 1
    ++ appends 1 (stream_of 1 1) (codes "abcd") ∷ appends 1 (stream_of 1 1) (codes "efg")
    ∷ opens 2 1 Write ∷ comes 2 ∷ answered 3
    ++ comes 2 ∷ appends 2 (stream_of 2 1) (codes "ef") ∷ answered 4
    ++ appends 1 (stream_of 1 1) (codes "g") ∷ answered 5
