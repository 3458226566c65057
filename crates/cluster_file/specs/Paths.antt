-- The paths in the rows of a document: those that kernels serve, and those of files.
use Rattle.std.specs.Prelude.{ℕ, zero, suc, ◌++◌, ◌==◌, ◌&&◌, ◌||◌, not, Bool, if◌then◌else◌, List, [], ◌∷◌, length, Option, Some, None, Result, Ok}
use Rattle.std.specs.Option.{option_map}
use Rattle.std.specs.List.{list_any}
use Rattle.sprite_paths.specs.Path.{clean_path, text_of, is_prefix}
use Rattle.unix_calls.specs.declared.description.KernelLine.{KernelLine}
use Rattle.unix_calls.specs.declared.description.FileLine.{FileLine}
use Rattle.unix_calls.specs.Tree.{same_path}
use Rattle.unix_calls.specs.Lawful.{is_above, same_fact}
use Rattle.unix_calls.specs.Same.{same_text}
use Rattle.cluster_file.specs.declared.refusal.Refusal.{Refusal}
use Rattle.cluster_file.specs.declared.rows.KernelRow.{KernelRow}
use Rattle.cluster_file.specs.declared.rows.FileRow.{FileRow}
use Rattle.cluster_file.specs.declared.keys.KeyName.TheVariants as name
use Rattle.cluster_file.specs.declared.keys.Section.TheVariants.{Kernel, File}
use Rattle.cluster_file.specs.Refusals.{refused_at, read_all}
use Rattle.cluster_file.specs.Tables.{with_some}

-- the path that is cleaned from the text, where its own text is that one
abbrev pub kept_by : List ℕ → Option (List (List ℕ)) → Option (List (List ℕ))
kept_by text None = None
kept_by text (Some path) = if same_text (text_of path) text then Some path else None

abbrev pub path_of : List ℕ → Option (List (List ℕ))
path_of text = kept_by text (clean_path [] text)

-- the paths of some texts, behind those so far; none where one is no path
abbrev pub paths_on : Option (List (List (List ℕ))) → List (List ℕ) → Option (List (List (List ℕ)))
paths_on None texts = None
paths_on (Some paths) [] = Some paths
paths_on (Some paths) (text ∷ texts) = paths_on (option_map (λ path. paths ++ path ∷ []) (path_of text)) texts

abbrev pub paths_of : List (List ℕ) → Option (List (List (List ℕ)))
paths_of texts = paths_on (Some []) texts

-- a kernel whose paths are known
abbrev pub serving : List KernelLine → KernelRow → Option (List (List (List ℕ))) → Result KernelLine Refusal
serving earlier row None = refused_at 10 Kernel earlier name.Serves
serving earlier row (Some paths) = Ok (record { name = row.name; serves = paths })

abbrev pub kernel_line : List KernelLine → KernelRow → Result KernelLine Refusal
kernel_line earlier row = serving earlier row (paths_of row.serves)

abbrev pub kernel_lines : List KernelRow → Result (List KernelLine) Refusal
kernel_lines rows = read_all kernel_line rows

-- the paths of those files that have one
abbrev pub file_paths : List FileRow → List (List (List ℕ))
file_paths [] = []
file_paths (row ∷ rows) = with_some (path_of row.path) (file_paths rows)

-- whether the path is a domain's or a prefix of it
abbrev pub is_taken : List KernelLine → List (List ℕ) → Bool
is_taken kernels path = list_any (λ (line : KernelLine). list_any (is_prefix path) line.serves) kernels

-- whether it is a proper prefix of one of some paths
abbrev pub is_above_one : List (List (List ℕ)) → List (List ℕ) → Bool
is_above_one paths path = list_any (is_above path) paths

-- whether an earlier file has the path
abbrev pub has_earlier : List FileLine → List (List ℕ) → Bool
has_earlier earlier path = list_any (λ (line : FileLine). same_path line.path path) earlier

-- whether a file may have the path: it isn't `/`, no domain's nor a prefix of one, and a proper prefix of no other file's; and
-- an earlier file has it exactly where the bytes are to be appended
abbrev pub is_free : List KernelLine → List (List (List ℕ)) → List FileLine → Bool → List (List ℕ) → Bool
is_free kernels paths earlier append path =
    not ((length path == 0) || is_taken kernels path || is_above_one paths path) && same_fact append (has_earlier earlier path)

-- a text so many times
abbrev pub repeated : List ℕ → ℕ → List ℕ
repeated text zero = []
repeated text (suc times) = repeated text times ++ text

-- a file whose path is known
abbrev pub filed_at : List KernelLine → List (List (List ℕ)) → List FileLine → FileRow → Option (List (List ℕ)) → Result FileLine Refusal
filed_at kernels paths earlier row None = refused_at 10 File earlier name.Path
filed_at kernels paths earlier row (Some path) =
    if is_free kernels paths earlier row.append path
    then Ok (record { path = path; bytes = repeated row.text row.repeat; append = row.append })
    else refused_at 10 File earlier name.Path

abbrev pub file_line : List KernelLine → List (List (List ℕ)) → List FileLine → FileRow → Result FileLine Refusal
file_line kernels paths earlier row = filed_at kernels paths earlier row (path_of row.path)

abbrev pub filed : List KernelLine → List (List (List ℕ)) → List FileRow → Result (List FileLine) Refusal
filed kernels paths rows = read_all (file_line kernels paths) rows

abbrev pub file_lines : List KernelLine → List FileRow → Result (List FileLine) Refusal
file_lines kernels rows = filed kernels (file_paths rows) rows
