-- The open streams with their locks.
use Rattle.std.specs.Prelude.{ℕ, ◌==◌, nat_le, Bool, true, false, List, map, Option, Some, None, is_some}
use Rattle.std.specs.List.{find, list_all, list_any}
use Rattle.sprite_ids.specs.declared.StreamNo.{StreamNo}
use Rattle.sprite_ids.specs.declared.Object.{Object}
use Rattle.sprite_ids.specs.declared.Object.TheVariants.{File, Device, Master}
use Rattle.stream_table.specs.declared.entries.Known.{Known}
use Rattle.stream_table.specs.declared.stream.Stream.{Stream}
use Rattle.stream_table.specs.declared.stream.Place.{Place}
use Rattle.stream_table.specs.declared.stream.Place.TheVariants.{Local, Shared}
use Rattle.sprite_ids.specs.Lists.{put, without}
use Rattle.stream_table.specs.Owners.{is_number}

-- a stream, by its number: it is here while a descriptor leads to it, which it has then, or a process holds its lock
pub record Entry : Type 0 where
  pub number : StreamNo
  pub stream : Option Stream
  pub holder : Option ℕ

-- the streams of a map, in its order
abbrev pub entries_in : List (StreamNo × Known) → List Entry
entries_in entries = map (λ (e : StreamNo × Known). record { number = e.0; stream = e.1.stream; holder = e.1.holder }) entries

-- whether the entry is of that stream
abbrev pub is_of : StreamNo → Entry → Bool
is_of number entry = is_number number entry.number

-- whether the two are of one stream
abbrev pub same_entry : Entry → Entry → Bool
same_entry entry other = is_of entry.number other

-- whether there is an entry of that stream: a descriptor leads to it, or its lock is held
abbrev pub is_listed : List Entry → StreamNo → Bool
is_listed entries number = list_any (is_of number) entries

-- the stream of a looked-up entry
abbrev pub stream_in : Option Entry → Option Stream
stream_in (Some entry) = entry.stream
stream_in None = None

-- the holder of a looked-up entry's lock
abbrev pub holder_in : Option Entry → Option ℕ
holder_in (Some entry) = entry.holder
holder_in None = None

-- the open stream of that number
abbrev pub stream_of : List Entry → StreamNo → Option Stream
stream_of entries number = stream_in (find (is_of number) entries)

-- the process that holds the stream's lock
abbrev pub holder_of : List Entry → StreamNo → Option ℕ
holder_of entries number = holder_in (find (is_of number) entries)

-- the grants of a looked-up stream
abbrev pub grants_in : Option Stream → ℕ
grants_in (Some stream) = stream.grants
grants_in None = 0

-- how many grants of the stream this kernel received
abbrev pub grants_of : List Entry → StreamNo → ℕ
grants_of entries number = grants_in (stream_of entries number)

-- whether the stream is open here
abbrev pub is_open : List Entry → StreamNo → Bool
is_open entries number = is_some (stream_of entries number)

-- whether more grants of the stream may be added
abbrev pub is_roomy : Option Stream → Bool
is_roomy (Some stream) = nat_le stream.grants 2000000000
is_roomy None = true

-- whether more grants of each stream may be added
abbrev pub has_room : List Entry → Bool
has_room entries = list_all (λ entry. is_roomy entry.stream) entries

-- likewise of what is known of a stream
abbrev pub is_low : Known → Bool
is_low known = is_roomy known.stream

-- the offset 0, kept here
abbrev pub is_start : Place → Bool
is_start (Local offset) = offset == 0
is_start Shared = false

-- whether a stream of that object may have its offset there: of a device or a master it is always 0 and kept here
abbrev pub is_place_of : Object → Place → Bool
is_place_of (File file) place = true
is_place_of (Device device) place = is_start place
is_place_of (Master device) place = is_start place

-- whether the stream has its offset where it may
abbrev pub is_placed : Stream → Bool
is_placed stream = is_place_of stream.object stream.place

-- whether a looked-up stream has its offset where it may
abbrev pub is_placed_in : Option Stream → Bool
is_placed_in (Some stream) = is_placed stream
is_placed_in None = true

-- whether a looked-up stream may have its offset there
abbrev pub may_be_at : Place → Option Stream → Bool
may_be_at place (Some stream) = is_place_of stream.object place
may_be_at place None = true

-- the entries with that stream open
abbrev pub opened : List Entry → StreamNo → Stream → List Entry
opened entries number stream = put (is_of number) (record { number = number; stream = Some stream; holder = holder_of entries number }) entries

-- the entries with a looked-up stream's offset somewhere else
abbrev pub placing : List Entry → StreamNo → Place → Option Stream → List Entry
placing entries number place (Some stream) = opened entries number (record stream { place = place })
placing entries number place None = entries

-- the entries with a stream's offset somewhere else
abbrev pub placed : List Entry → StreamNo → Place → List Entry
placed entries number place = placing entries number place (stream_of entries number)

-- the entries after a process asks for the lock, which has that holder: it gets a free one
abbrev pub locking : List Entry → StreamNo → ℕ → Option ℕ → List Entry
locking entries number pid (Some holder) = entries
locking entries number pid None = put (is_of number) (record { number = number; stream = stream_of entries number; holder = Some pid }) entries

-- the entries after a process asks for the stream's lock
abbrev pub locked : List Entry → StreamNo → ℕ → List Entry
locked entries number pid = locking entries number pid (holder_of entries number)

-- whether the process has the lock then, which has that holder before
abbrev pub has_lock : ℕ → Option ℕ → Bool
has_lock pid (Some holder) = holder == pid
has_lock pid None = true

-- the entries after the lock of a looked-up stream is free: the entry of one that isn't open goes
abbrev pub unlocking : List Entry → StreamNo → Option Stream → List Entry
unlocking entries number (Some stream) = put (is_of number) (record { number = number; stream = Some stream; holder = None }) entries
unlocking entries number None = without (is_of number) entries

-- the entries after the stream's lock is free
abbrev pub unlocked : List Entry → StreamNo → List Entry
unlocked entries number = unlocking entries number (stream_of entries number)

-- the entries after no descriptor leads to the stream any more, whose lock has that holder: the entry of a free one goes
abbrev pub leaving : List Entry → StreamNo → Option ℕ → List Entry
leaving entries number (Some holder) = put (is_of number) (record { number = number; stream = None; holder = Some holder }) entries
leaving entries number None = without (is_of number) entries

-- the entries after no descriptor leads to the stream any more
abbrev pub left : List Entry → StreamNo → List Entry
left entries number = leaving entries number (holder_of entries number)
