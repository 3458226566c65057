-- The descriptor and the stream that an open or a make gets.
use Rattle.std.specs.Prelude.{ℕ, zero, suc, ◌+◌, List, Option, Some, None}
use Rattle.sprite_ids.specs.declared.StreamNo.{StreamNo}
use Rattle.stream_table.specs.Owners.{Owner, descriptor}
use Rattle.client_file_tables.specs.declared.ClientFiles.{ClientFiles}

-- the descriptor that was found already; else this one, where it leads to no stream
abbrev pub free_or : Option ℕ → ℕ → Option StreamNo → Option ℕ
free_or (Some found) fd stream = Some found
free_or None fd (Some stream) = None
free_or None fd None = Some fd

-- the lowest descriptor under that number that the process doesn't use
abbrev pub free_under : List Owner → ℕ → ℕ → Option ℕ
free_under owners pid zero = None
free_under owners pid (suc fd) = free_or (free_under owners pid fd) fd (descriptor owners pid fd)

-- the lowest descriptor of the process that isn't in use; None where all 16 are
abbrev pub free_descriptor : ℕ → ClientFiles → Option ℕ
free_descriptor pid s = free_under s.streams.owners pid 16

-- the next stream of this kernel
abbrev pub new_stream : ClientFiles → StreamNo
new_stream s = record { kernel = s.kernel; number = s.next_stream }

-- one stream more has a number
abbrev pub counts_stream : ClientFiles → ClientFiles
counts_stream s = record s { next_stream = s.next_stream + 1 }
