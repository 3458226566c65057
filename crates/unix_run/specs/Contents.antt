-- How a file's bytes are taken away.
use Rattle.std.specs.Prelude.{Bool, if◌then◌else◌, List, []}
use Rattle.unix_calls.specs.declared.state.File.{File}
use Rattle.unix_calls.specs.declared.state.FileName.{FileName}
use Rattle.unix_calls.specs.State.{with_bytes}

-- the files, after a truncation of one of them where that is asked for
abbrev pub cut_files : Bool → FileName → List File → List File
cut_files truncates name files = if truncates then with_bytes name [] files else files
