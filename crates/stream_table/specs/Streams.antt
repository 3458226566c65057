-- The stream table of a kernel.
use Rattle.std.specs.Prelude.{◌≡◌, ℕ, ◌+◌, ◌==◌, Bool, true, false, ◌&&◌, not, if◌then◌else◌, List, [], ◌∷◌, Option, Some, None, option_map, Result, Ok, Err, fold, slice_set}
use Rattle.std.specs.List.{AllByRecursion, position}
use Rattle.sprite_ids.specs.declared.StreamNo.{StreamNo}
use Rattle.stream_table.specs.declared.end.StreamEnd.{StreamEnd}
use Rattle.stream_table.specs.declared.end.StreamEnd.TheVariants.{BadFd, TooMany, NoMemory}
use Rattle.stream_table.specs.Entries.{Entry}
use Rattle.stream_table.specs.Owners.{Owner}
use Rattle.stream_table.specs.declared.arrival.Came.{Came}
use Rattle.stream_table.specs.declared.stream.Stream.{Stream}
use Rattle.stream_table.specs.declared.stream.Carried.{Carried}
use Rattle.sprite_ids.specs.Lists.{put, EachOnce}
use Rattle.stream_table.specs.Owners.{is_free, is_used, is_owner, is_referred, numbers_of, nothing, descriptor, kept, same_owner}
use Rattle.stream_table.specs.Entries.{is_of, is_open, is_placed_in, grants_in, stream_of, holder_of, opened, left, same_entry}

-- the processes with their descriptors, and the open streams with their locks
pub record Table : Type 0 where
  pub owners : List Owner
  pub entries : List Entry

-- the processes with one more descriptor in use
abbrev pub with_descriptor : List Owner → ℕ → ℕ → StreamNo → List Owner
with_descriptor owners pid fd number = put (is_owner pid) (record { pid = pid; numbers = slice_set (numbers_of owners pid) fd (Some number) }) owners

-- the lowest free descriptor of the process
abbrev pub free : List Owner → ℕ → Option ℕ
free owners pid = position is_free (numbers_of owners pid)

-- the table after a stream was added, at that descriptor
abbrev pub adding : Table → ℕ → StreamNo → Stream → Option ℕ → Table
adding table pid number stream (Some fd) = record { owners = with_descriptor table.owners pid fd number; entries = opened table.entries number stream }
adding table pid number stream None = table

-- the table after a stream was added, at the lowest free descriptor
abbrev pub added : Table → ℕ → StreamNo → Stream → Table
added table pid number stream = adding table pid number stream (free table.owners pid)

-- what an error of `add` tells: no descriptor is free, and nothing where memory was wanting
abbrev pub IsAddCause : Option ℕ → StreamEnd → Type 0
IsAddCause free BadFd = ⊥
IsAddCause free TooMany = free ≡ None
IsAddCause free NoMemory = Unit {0}

-- what `dup` answers: the descriptor must be in use, and one must be free
abbrev pub dup_answer : Option StreamNo → Option ℕ → Result ℕ StreamEnd
dup_answer None free = Err BadFd
dup_answer (Some number) None = Err TooMany
dup_answer (Some number) (Some fd) = Ok fd

-- the processes after `dup`
abbrev pub dupping : List Owner → ℕ → Option StreamNo → Option ℕ → List Owner
dupping owners pid None free = owners
dupping owners pid (Some number) None = owners
dupping owners pid (Some number) (Some fd) = with_descriptor owners pid fd number

-- the table after `dup`
abbrev pub dupped : Table → ℕ → ℕ → Table
dupped table pid fd = record table { owners = dupping table.owners pid (descriptor table.owners pid fd) (free table.owners pid) }

-- whether a child takes descriptors over: it has none, and its parent has some
abbrev pub is_forked : List Owner → ℕ → ℕ → Bool
is_forked owners parent child = is_used (numbers_of owners parent) && not (is_used (numbers_of owners child))

-- the table after a fork
abbrev pub forked : Table → ℕ → ℕ → Table
forked table parent child = record table { owners = if is_forked table.owners parent child then put (is_owner child) (record { pid = child; numbers = numbers_of table.owners parent }) table.owners else table.owners }

-- the processes after the descriptor is free
abbrev pub freed : List Owner → ℕ → ℕ → List Owner
freed owners pid fd = kept owners (record { pid = pid; numbers = slice_set (numbers_of owners pid) fd None })

-- the streams after a descriptor that led to this one is free: it goes with the last one
abbrev pub settled : List Owner → List Entry → StreamNo → List Entry
settled owners entries number = if is_referred owners number then entries else left entries number

-- the table after a looked-up descriptor of the process was closed
abbrev pub closing : Table → ℕ → ℕ → Option StreamNo → Table
closing table pid fd (Some number) = record { owners = freed table.owners pid fd; entries = settled (freed table.owners pid fd) table.entries number }
closing table pid fd None = table

-- the table after a descriptor of the process was closed
abbrev pub closed : Table → ℕ → ℕ → Table
closed table pid fd = closing table pid fd (descriptor table.owners pid fd)

-- whether a looked-up descriptor of the process is the last that leads to its stream
abbrev pub is_last_of : List Owner → ℕ → ℕ → Option StreamNo → Bool
is_last_of owners pid fd (Some number) = not (is_referred (freed owners pid fd) number)
is_last_of owners pid fd None = false

-- whether the process's descriptor is the last that leads to its stream
abbrev pub is_last : Table → ℕ → ℕ → Bool
is_last table pid fd = is_last_of table.owners pid fd (descriptor table.owners pid fd)

-- a looked-up stream with its number
abbrev pub numbered : StreamNo → Option Stream → Option (StreamNo × Stream)
numbered number stream = option_map (λ stream. (number, stream)) stream

-- the stream of a looked-up descriptor
abbrev pub last_stream : List Entry → Option StreamNo → Option (StreamNo × Stream)
last_stream entries (Some number) = numbered number (stream_of entries number)
last_stream entries None = None

-- what a close gives back: the stream at its last descriptor
abbrev pub closed_stream : Table → ℕ → ℕ → Option (StreamNo × Stream)
closed_stream table pid fd = if is_last table pid fd then last_stream table.entries (descriptor table.owners pid fd) else None

-- a descriptor with its looked-up stream
abbrev pub carried_as : ℕ → StreamNo → Option Stream → Option Carried
carried_as fd number (Some stream) = Some (record { fd = fd; number = number; stream = stream })
carried_as fd number None = None

-- a descriptor with its stream
abbrev pub carried_one : List Entry → ℕ → Option StreamNo → Option Carried
carried_one entries fd (Some number) = carried_as fd number (stream_of entries number)
carried_one entries fd None = None

-- at most one item, before others
abbrev pub before : Option Carried → List Carried → List Carried
before (Some item) items = item ∷ items
before None items = items

-- the descriptors from that one on, with their streams
abbrev pub carried_from : List Entry → ℕ → List (Option StreamNo) → List Carried
carried_from entries fd [] = []
carried_from entries fd (known ∷ rest) = before (carried_one entries fd known) (carried_from entries (fd + 1) rest)

-- the process's descriptors with their streams
abbrev pub carried_of : Table → ℕ → List Carried
carried_of table pid = carried_from table.entries 0 (numbers_of table.owners pid)

-- the table after these descriptors of the process were closed
abbrev pub closed_all : ℕ → Table → List Carried → Table
closed_all pid table carried = fold (λ table item. closed table pid item.fd) table carried

-- the streams of the descriptors that arrive
abbrev pub numbers_in : List Carried → List (Option StreamNo)
numbers_in carried = fold (λ numbers item. slice_set numbers item.fd (Some item.number)) nothing carried

-- the stream that arrives, with the grants of the one that was here before
abbrev pub merged : List Entry → Carried → Entry
merged before item = record { number = item.number; stream = Some (record item.stream { grants = item.stream.grants + grants_in (stream_of before item.number) }); holder = holder_of before item.number }

-- what is known of that stream from then on
abbrev pub came_as : List Entry → Carried → Came
came_as before item = record { number = item.number; known = record { stream = (merged before item).stream; holder = (merged before item).holder } }

-- a stream that came, as an entry
abbrev pub as_entry : Came → Entry
as_entry came = record { number = came.number; stream = came.known.stream; holder = came.known.holder }

-- the streams after all that came was put in
abbrev pub put_all : List Entry → List Came → List Entry
put_all entries came = fold (λ entries one. put (is_of one.number) (as_entry one) entries) entries came

-- the streams after these arrived; of each, the grants that were here before are added once
abbrev pub arrived : List Entry → List Carried → List Entry
arrived before carried = fold (λ entries item. put (is_of item.number) (merged before item) entries) before carried

-- the processes after one arrived with these descriptors
abbrev pub with_arrived : List Owner → ℕ → List Carried → List Owner
with_arrived owners pid carried = put (is_owner pid) (record { pid = pid; numbers = numbers_in carried }) owners

-- the table after a process arrived with these descriptors
abbrev pub arriving : Table → ℕ → List Carried → Table
arriving table pid [] = table
arriving table pid (item ∷ rest) = record { owners = with_arrived table.owners pid (item ∷ rest); entries = arrived table.entries (item ∷ rest) }

-- whether the two are of one descriptor
abbrev pub same_fd : Carried → Carried → Bool
same_fd item other = item.fd == other.fd

-- what the table always is: each process and each stream once, a stream open exactly where a descriptor leads to it, and
-- the offset of each device and master 0 and kept here
pub record IsTable (owners : List Owner) (entries : List Entry) : Type 0 where
  pub owners_once : EachOnce same_owner owners
  pub entries_once : EachOnce same_entry entries
  pub are_open : (number : StreamNo) → is_open entries number ≡ is_referred owners number
  pub are_placed : AllByRecursion (λ (entry : Entry). is_placed_in entry.stream ≡ true) entries
