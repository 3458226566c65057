-- Whether a process's descriptors can stand in a kernel's stream table.
use Rattle.std.specs.Prelude.{nat_lt, nat_le, Bool, true, not, ◌&&◌, List, [], ◌∷◌}
use Rattle.std.specs.List.{list_all, list_any}
use Rattle.stream_table.specs.declared.Carried.{Carried}
use Rattle.stream_table.specs.Entries.{is_placed}
use Rattle.stream_table.specs.Streams.{same_fd}

-- whether no two descriptors have one number
abbrev pub differ : List Carried → Bool
differ [] = true
differ (item ∷ rest) = not (list_any (same_fd item) rest) && differ rest

-- whether a descriptor can stand there: its number is under 16, its stream's offset is where it may be, and the grants can be added
abbrev pub can_stand : Carried → Bool
can_stand item = nat_lt item.fd 16 && is_placed item.stream && nat_le item.stream.grants 2000000000

-- whether all of them can
abbrev pub can_stay : List Carried → Bool
can_stay streams = differ streams && list_all can_stand streams
