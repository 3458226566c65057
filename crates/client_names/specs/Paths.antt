-- The paths that name calls name.
use Rattle.std.specs.Prelude.{ℕ, List, [], Option, Some, None}
use Rattle.sprite_paths.specs.Path.{clean_path}
use Rattle.client_file_tables.specs.declared.ClientFiles.{ClientFiles}
use Rattle.client_file_tables.specs.Streams.{cwd_of}

-- a path, by its parts
abbrev pub Parts : Type 0
Parts = List (List ℕ)

-- a looked-up working directory; without one, the root
abbrev pub or_root : Option Parts → Parts
or_root (Some cwd) = cwd
or_root None = []

-- the path that the text leads to from the process's working directory; None for a bad name
abbrev pub cleaned : ℕ → List ℕ → ClientFiles → Option Parts
cleaned pid text s = clean_path (or_root (cwd_of pid s)) text
