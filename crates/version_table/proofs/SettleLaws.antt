-- After the last answer came, what waits may be granted.
use Rattle.std.proofs.Common.{◌≡◌, ℕ, true, ◌&&◌, not, ap, ◌∙◌}
use Rattle.std.proofs.lemmas.Bool.{and_parts}
use Rattle.sprite_ids.specs.declared.FileId.{FileId}
use Rattle.version_table.specs.Files.{answered, is_busy, is_out, is_any_out, is_last, is_ready}
use Rattle.version_table.specs.Versions.{Files, file_of, with_file}
use Rattle.version_table.proofs.FileLaws.{file_put}

-- after the last answer, what waits may be granted
pub last_answered : (files : Files) (file : FileId) (kernel : ℕ) → is_busy (file_of files file) ≡ true → is_last (file_of files file) kernel ≡ true → is_ready (file_of (with_file files file (answered (file_of files file) kernel)) file) ≡ true
last_answered files file kernel busy last =
    let versioned = file_of files file in
    let now = answered versioned kernel in
    let parts = and_parts (is_out versioned kernel) (not (is_any_out now)) last in
    ap is_ready (file_put files file now) ∙ ap (λ b. b && not (is_any_out now)) busy ∙ parts.1
