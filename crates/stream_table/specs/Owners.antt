-- The processes with their descriptors.
use Rattle.std.specs.Prelude.{ℕ, ◌==◌, Bool, true, false, ◌&&◌, if◌then◌else◌, List, map, Option, Some, None, replicate, slice_get}
use Rattle.std.specs.List.{find, list_any}
use Rattle.sprite_ids.specs.declared.StreamNo.{StreamNo}
use Rattle.stream_table.specs.declared.owners.Descriptors.{Descriptors}
use Rattle.sprite_ids.specs.Lists.{put, without}

-- a process that has descriptors, with the stream of each of them, from 0 to 15
pub record Owner : Type 0 where
  pub pid : ℕ
  pub numbers : List (Option StreamNo)

-- the processes of a map, in its order
abbrev pub owners_in : List (ℕ × Descriptors) → List Owner
owners_in entries = map (λ (e : ℕ × Descriptors). record { pid = e.0; numbers = e.1.numbers }) entries

-- whether the second is that stream
abbrev pub is_number : StreamNo → StreamNo → Bool
is_number number other = (other.kernel == number.kernel) && (other.number == number.number)

-- whether a descriptor leads to that stream
abbrev pub names : StreamNo → Option StreamNo → Bool
names number (Some other) = is_number number other
names number None = false

-- whether a descriptor is free
abbrev pub is_free : Option StreamNo → Bool
is_free (Some number) = false
is_free None = true

-- whether a descriptor is in use
abbrev pub is_taken : Option StreamNo → Bool
is_taken (Some number) = true
is_taken None = false

-- whether any descriptor is in use
abbrev pub is_used : List (Option StreamNo) → Bool
is_used numbers = list_any is_taken numbers

-- whether it is that process
abbrev pub is_owner : ℕ → Owner → Bool
is_owner pid owner = owner.pid == pid

-- whether the two are one process
abbrev pub same_owner : Owner → Owner → Bool
same_owner owner other = is_owner owner.pid other

-- whether a descriptor of the process leads to that stream
abbrev pub refers : StreamNo → Owner → Bool
refers number owner = list_any (names number) owner.numbers

-- whether a descriptor leads to that stream
abbrev pub is_referred : List Owner → StreamNo → Bool
is_referred owners number = list_any (refers number) owners

-- whether one of these descriptors leads to that stream
abbrev pub leads_to : StreamNo → Descriptors → Bool
leads_to number descriptors = list_any (names number) descriptors.numbers

-- no descriptor in use
abbrev pub nothing : List (Option StreamNo)
nothing = replicate 16 None

-- the descriptors of a looked-up process
abbrev pub numbers_or : Option Owner → List (Option StreamNo)
numbers_or (Some owner) = owner.numbers
numbers_or None = nothing

-- the streams of the process's descriptors
abbrev pub numbers_of : List Owner → ℕ → List (Option StreamNo)
numbers_of owners pid = numbers_or (find (is_owner pid) owners)

-- the stream of a looked-up descriptor
abbrev pub named : Option (Option StreamNo) → Option StreamNo
named (Some known) = known
named None = None

-- the stream of the process's descriptor
abbrev pub descriptor : List Owner → ℕ → ℕ → Option StreamNo
descriptor owners pid fd = named (slice_get (numbers_of owners pid) fd)

-- the processes after the descriptors of one changed: without any it goes
abbrev pub kept : List Owner → Owner → List Owner
kept owners owner = if is_used owner.numbers then put (is_owner owner.pid) owner owners else without (is_owner owner.pid) owners
