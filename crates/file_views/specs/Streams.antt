-- Streams, what they are opened for, and who has them open.
use Rattle.std.specs.Prelude.{ℕ, ◌+◌, ◌-◌, ◌==◌, nat_le, Bool, true, false, ◌&&◌, not, if◌then◌else◌, List, [], ◌∷◌, ◌++◌, filter, Option, Some, None}
use Rattle.std.specs.List.{list_any}
use Rattle.sprite_ids.specs.Lists.{total}
use Rattle.sprite_ids.specs.declared.StreamNo.{StreamNo}
use Rattle.sprite_ids.specs.declared.Mode.{Mode}
use Rattle.sprite_ids.specs.declared.Mode.TheVariants.{Read, Write, Both}
use Rattle.file_views.specs.declared.opens.Open.{Open}

-- whether the two are one stream
abbrev pub same_stream : StreamNo → StreamNo → Bool
same_stream stream other = (stream.kernel == other.kernel) && (stream.number == other.number)

-- whether the stream is among them
abbrev pub has_stream : StreamNo → List StreamNo → Bool
has_stream stream streams = list_any (same_stream stream) streams

-- 1 for that stream
abbrev pub one_of : StreamNo → StreamNo → ℕ
one_of stream other = if same_stream stream other then 1 else 0

-- how often the stream is among them
abbrev pub copies : StreamNo → List StreamNo → ℕ
copies stream streams = total (one_of stream) streams

-- whether a stream of that mode may read, and may write
abbrev pub reads : Mode → Bool
reads Read = true
reads Write = false
reads Both = true

abbrev pub writes : Mode → Bool
writes Read = false
writes Write = true
writes Both = true

-- whether it is that stream's open at that kernel
abbrev pub is_open : StreamNo → ℕ → Open → Bool
is_open stream kernel one = same_stream stream one.stream && (one.kernel == kernel)

-- an open's grants, where it is that stream's at that kernel
abbrev pub counted : StreamNo → ℕ → Open → ℕ
counted stream kernel one = if is_open stream kernel one then one.count else 0

-- how many grants of the stream the kernel has
abbrev pub open_count : List Open → StreamNo → ℕ → ℕ
open_count opens stream kernel = total (counted stream kernel) opens

-- one more grant of the stream to the kernel
abbrev pub add_open : List Open → StreamNo → ℕ → Mode → List Open
add_open opens stream kernel mode = filter (λ one. not (is_open stream kernel one)) opens ++ record { stream = stream; kernel = kernel; mode = mode; count = open_count opens stream kernel + 1 } ∷ []

-- an open with fewer grants before others; it goes where none is left
abbrev pub with_fewer : ℕ → Open → List Open → List Open
with_fewer grants one rest = if nat_le one.count grants then rest else record one { count = one.count - grants } ∷ rest

-- the opens after that many grants of the stream were taken off the kernel, or all where it has fewer
abbrev pub take_off : List Open → StreamNo → ℕ → ℕ → List Open
take_off [] stream kernel grants = []
take_off (one ∷ rest) stream kernel grants = if is_open stream kernel one then with_fewer grants one (take_off rest stream kernel grants) else one ∷ take_off rest stream kernel grants

-- what the stream was opened for
abbrev pub stream_mode : List Open → StreamNo → Option Mode
stream_mode [] stream = None
stream_mode (one ∷ rest) stream = if same_stream stream one.stream then Some one.mode else stream_mode rest stream

-- a looked-up mode; a stream that nobody has open counts as one for reading
abbrev pub or_reading : Option Mode → Mode
or_reading (Some mode) = mode
or_reading None = Read

abbrev pub mode_of_stream : List Open → StreamNo → Mode
mode_of_stream opens stream = or_reading (stream_mode opens stream)

-- whether the kernel has the file open, and whether for writing
abbrev pub has_open : List Open → ℕ → Bool
has_open opens kernel = list_any (λ one. one.kernel == kernel) opens

abbrev pub has_open_to_write : List Open → ℕ → Bool
has_open_to_write opens kernel = list_any (λ one. (one.kernel == kernel) && writes one.mode) opens

-- whether two or more kernels have the file open
abbrev pub is_spread : List Open → Bool
is_spread opens = list_any (λ one. list_any (λ other. not (other.kernel == one.kernel)) opens) opens

-- write sharing: two or more kernels have the file open, one of them for writing
abbrev pub is_write_shared : List Open → Bool
is_write_shared opens = is_spread opens && list_any (λ one. writes one.mode) opens

-- whether there is any
abbrev pub is_any : {X : Type 0} → List X → Bool
is_any [] = false
is_any (x ∷ xs) = true
