-- What a client knows of its files.
use Rattle.std.specs.Prelude.{ℕ, ◌+◌, ◌==◌, nat_le, max, Bool, false, ◌&&◌, if◌then◌else◌, List, [], ◌∷◌, Option, Some, None}
use Rattle.std.specs.Map.{lookup}
use Rattle.indexmap.specs.IndexMap.{insert_entry}
use Rattle.sprite_ids.specs.declared.FileId.{FileId}
use Rattle.sprite_ids.specs.declared.Grant.{Grant}
use Rattle.sprite_ids.specs.declared.CallKind.{CallKind}
use Rattle.sprite_ids.specs.declared.CallKind.TheVariants.{Recall, Stop}
use Rattle.block_cache.specs.declared.file_state.FileState.{FileState}

-- the files of which something is known
abbrev pub Files : Type 0
Files = List (FileId × FileState)

-- whether the two are one file
abbrev pub is_file : FileId → FileId → Bool
is_file file other = (file.server == other.server) && (file.number == other.number)

-- a file of which nothing is known
abbrev pub new_file : FileState
new_file = record { stamp = 0; version = 0; size = 0; on = false }

-- what was looked up, or that nothing is known
abbrev pub or_new : Option FileState → FileState
or_new (Some state) = state
or_new None = new_file

-- what is kept of the file
abbrev pub state_of : Files → FileId → Option FileState
state_of files file = lookup (is_file file) files

-- what is known of the file
abbrev pub known : Files → FileId → FileState
known files file = or_new (state_of files file)

-- the files with another state of one of them
abbrev pub with_state : Files → FileId → FileState → Files
with_state files file state = insert_entry is_file files file state

-- whether the client's own size stays at a grant
abbrev pub is_own : FileState → Grant → Bool
is_own state grant = grant.holder && (state.version == grant.old)

-- the state after a grant that is newer
abbrev pub granted : FileState → Grant → FileState
granted state grant = record { stamp = grant.stamp; version = grant.new; size = (if is_own state grant then state.size else grant.size); on = grant.on }

-- whether the blocks stay at a grant that is newer
abbrev pub keeps : FileState → Grant → Bool
keeps state grant = grant.on && (state.version == grant.old)

-- the state after a callback
abbrev pub called : FileState → ℕ → CallKind → FileState
called state stamp Recall = record state { stamp = stamp }
called state stamp Stop = record state { stamp = stamp; on = false }

-- the state after a write that ends there
abbrev pub grown : FileState → ℕ → FileState
grown state end = record state { size = max state.size end }

-- whether the stamp and the version are at most 2,000,000,000
abbrev pub is_low : FileState → Bool
is_low state = nat_le state.stamp 2000000000 && nat_le state.version 2000000000

-- 1 for a state that isn't low
abbrev pub one_high : FileState → ℕ
one_high state = if is_low state then 0 else 1

-- how many files have a state that isn't low
abbrev pub high_of : Files → ℕ
high_of [] = 0
high_of (entry ∷ rest) = one_high entry.1 + high_of rest
