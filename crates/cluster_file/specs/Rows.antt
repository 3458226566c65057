-- What a document writes, where all of it lies within the limits.
use Rattle.std.specs.Prelude.{codes, ℕ, ◌+◌, ◌-◌, ◌*◌, ◌^◌, ◌==◌, ◌&&◌, ◌||◌, not, nat_le, nat_lt, Bool, if◌then◌else◌, List, [], ◌∷◌, length, Option, Some, None, Result, Ok, Err}
use Rattle.std.specs.Option.{is_some}
use Rattle.toml.specs.Data.{Data, Members}
use Rattle.link_plan.specs.declared.plan.Fate.{Fate}
use Rattle.link_plan.specs.declared.plan.Fate.TheVariants.{Lost, Twice, Late}
use Rattle.unix_calls.specs.Boot.{limit_of}
use Rattle.unix_calls.specs.Lawful.{is_name}
use Rattle.unix_calls.specs.Same.{same_text}
use Rattle.cluster_file.specs.declared.refusal.Refusal.{Refusal}
use Rattle.cluster_file.specs.declared.rows.KernelRow.{KernelRow}
use Rattle.cluster_file.specs.declared.rows.ProgramRow.{ProgramRow}
use Rattle.cluster_file.specs.declared.rows.StartRow.{StartRow}
use Rattle.cluster_file.specs.declared.rows.FileRow.{FileRow}
use Rattle.cluster_file.specs.declared.rows.LinkRow.{LinkRow}
use Rattle.cluster_file.specs.declared.rows.EvictRow.{EvictRow}
use Rattle.cluster_file.specs.declared.rows.Rows.{Rows}
use Rattle.cluster_file.specs.declared.keys.KeyName.{KeyName}
use Rattle.cluster_file.specs.declared.keys.KeyName.TheVariants as name
use Rattle.cluster_file.specs.declared.keys.Section.{Section}
use Rattle.cluster_file.specs.declared.keys.Section.TheVariants.{Kernel, Program, Start, File, Link, Evict}
use Rattle.cluster_file.specs.Keys.{spelled, section_key}
use Rattle.cluster_file.specs.Tables.{value_at, elements_at, tables_in, texts_in, text_at, truth_at, whole_at, within}
use Rattle.cluster_file.specs.Refusals.{refusal, refused_at, unless, and_then, read_all}

-- the refusal of a key at the top
abbrev pub refused_top : {A : Type 0} → KeyName → Result A Refusal
refused_top key = Err (refusal 6 (spelled key))

-- how many elements a section may have
abbrev pub most_of : Section → ℕ
most_of Kernel = 16
most_of Program = 64
most_of Start = 64
most_of File = 200
most_of Link = 64
most_of Evict = 16

-- what is read of an element where there are not too many before it
abbrev pub where_room : {A B : Type 0} → Section → List A → Result B Refusal → Result B Refusal
where_room section earlier row = if nat_lt (length earlier) (most_of section) then row else refused_top (section_key section)

-- 1 to 16 strings, and at most 16 with those of the earlier kernels
abbrev pub served_by : List KernelRow → ℕ
served_by [] = 0
served_by (row ∷ rows) = length row.serves + served_by rows

abbrev pub are_served : List KernelRow → List (List ℕ) → Bool
are_served earlier paths = nat_le 1 (length paths) && nat_le (served_by earlier + length paths) 16

-- a client has no key `serves`
abbrev pub has_served : List KernelRow → Members → Bool
has_served earlier table = not (is_some (value_at name.Serves table)) || are_served earlier (texts_in (elements_at name.Serves table))

abbrev pub kernel_row : List KernelRow → Members → Result KernelRow Refusal
kernel_row earlier table =
    if not (is_name (text_at name.Name table))
    then refused_at 6 Kernel earlier name.Name
    else if not (has_served earlier table)
    then refused_at 6 Kernel earlier name.Serves
    else Ok (record { kernel = length earlier + 1; name = text_at name.Name table; serves = texts_in (elements_at name.Serves table) })

abbrev pub program_row : List ProgramRow → Members → Result ProgramRow Refusal
program_row earlier table =
    if not (is_name (text_at name.Name table))
    then refused_at 6 Program earlier name.Name
    else Ok (record { number = length earlier + 1; name = text_at name.Name table; text = text_at name.Text table })

-- a start's argument is below 2^63
abbrev pub started_with : List StartRow → Members → Option ℕ → Result StartRow Refusal
started_with earlier table None = refused_at 6 Start earlier name.Arg
started_with earlier table (Some arg) = Ok (record { host = text_at name.Host table; program = text_at name.Program table; arg = arg })

abbrev pub start_row : List StartRow → Members → Result StartRow Refusal
start_row earlier table = started_with earlier table (within 0 (2 ^ 63 - 1) (whole_at name.Arg 0 table))

-- how many bytes some rows of files have, and those of one path
abbrev pub bytes_of : List FileRow → ℕ
bytes_of [] = 0
bytes_of (row ∷ rows) = row.size + bytes_of rows

abbrev pub bytes_at : List ℕ → List FileRow → ℕ
bytes_at path [] = 0
bytes_at path (row ∷ rows) = if same_text row.path path then row.size + bytes_at path rows else bytes_at path rows

-- in version 2 all files have at most 67,108,864 bytes, and those of one path at most as many as one file
abbrev pub has_room : ℕ → List FileRow → List ℕ → ℕ → Bool
has_room version earlier path size =
    nat_lt version 2 || (nat_le (bytes_of earlier + size) 67108864 && nat_le (bytes_at path earlier + size) (limit_of version))

-- a file has at most as many bytes as the version allows
abbrev pub size_of : ℕ → List FileRow → List ℕ → ℕ → Option ℕ
size_of version earlier path size = if nat_le size (limit_of version) && has_room version earlier path size then Some size else None

abbrev pub sized : List FileRow → Members → ℕ → Option ℕ → Result FileRow Refusal
sized earlier table repeat None = refused_at 6 File earlier name.Repeat
sized earlier table repeat (Some size) =
    Ok (record { path = text_at name.Path table; text = text_at name.Text table; repeat = repeat; size = size; append = truth_at name.Append table })

abbrev pub repeated_by : ℕ → List FileRow → Members → Option ℕ → Result FileRow Refusal
repeated_by version earlier table None = refused_at 6 File earlier name.Repeat
repeated_by version earlier table (Some repeat) =
    sized earlier table repeat (size_of version earlier (text_at name.Path table) (length (text_at name.Text table) * repeat))

abbrev pub file_row : ℕ → List FileRow → Members → Result FileRow Refusal
file_row version earlier table = repeated_by version earlier table (within 1 (limit_of version) (whole_at name.Repeat 1 table))

-- the fate of that name; `lost` where none is named
abbrev pub fate_of : List ℕ → Option Fate
fate_of text =
    if same_text text (codes "lost")
    then Some Lost
    else if same_text text (codes "twice") then Some Twice else if same_text text (codes "late") then Some Late else None

abbrev pub fate_at : Members → Option Fate
fate_at table = if is_some (value_at name.Fate table) then fate_of (text_at name.Fate table) else Some Lost

-- the number at a key of a fault of the link, 1 to 2^31
abbrev pub count_at : KeyName → ℕ → Members → Option ℕ
count_at key default table = within 1 (2 ^ 31) (whole_at key default table)

abbrev pub link_fated : List LinkRow → Members → ℕ → ℕ → ℕ → Option Fate → Result LinkRow Refusal
link_fated earlier table first every count None = refused_at 6 Link earlier name.Fate
link_fated earlier table first every count (Some fate) =
    Ok (record { from = text_at name.From table; to = text_at name.To table; first = first; every = every; count = count; fate = fate })

abbrev pub link_counted : List LinkRow → Members → ℕ → ℕ → Option ℕ → Result LinkRow Refusal
link_counted earlier table first every None = refused_at 6 Link earlier name.Count
link_counted earlier table first every (Some count) = link_fated earlier table first every count (fate_at table)

abbrev pub link_spaced : List LinkRow → Members → ℕ → Option ℕ → Result LinkRow Refusal
link_spaced earlier table first None = refused_at 6 Link earlier name.Every
link_spaced earlier table first (Some every) = link_counted earlier table first every (count_at name.Count (2 ^ 31) table)

abbrev pub link_begun : List LinkRow → Members → Option ℕ → Result LinkRow Refusal
link_begun earlier table None = refused_at 6 Link earlier name.First
link_begun earlier table (Some first) = link_spaced earlier table first (count_at name.Every 1 table)

abbrev pub link_row : List LinkRow → Members → Result LinkRow Refusal
link_row earlier table = link_begun earlier table (count_at name.First 1 table)

-- an eviction's call has the number 1 to 1,000,000
abbrev pub evicted_after : List EvictRow → Members → Option ℕ → Result EvictRow Refusal
evicted_after earlier table None = refused_at 6 Evict earlier name.After
evicted_after earlier table (Some after) = Ok (record { host = text_at name.Host table; after = after })

abbrev pub evict_row : List EvictRow → Members → Result EvictRow Refusal
evict_row earlier table = evicted_after earlier table (within 1 1000000 (whole_at name.After 0 table))

-- all rows of a section's elements: as many as it may have, each within its limits
abbrev pub rows_in : {B : Type 0} → Section → (List B → Members → Result B Refusal) → List Data → Result (List B) Refusal
rows_in section row elements = read_all (λ earlier table. where_room section earlier (row earlier table)) (tables_in elements)

abbrev pub rows_of : {B : Type 0} → Section → (List B → Members → Result B Refusal) → Members → Result (List B) Refusal
rows_of section row document = rows_in section row (elements_at (section_key section) document)

-- a cluster has at least one kernel
abbrev pub least_of : Section → ℕ
least_of Kernel = 1
least_of section = 0

-- whether a section has as many elements as it may have
abbrev pub has_count : Members → Section → Bool
has_count document section =
    nat_le (least_of section) (length (elements_at (section_key section) document))
    && nat_le (length (elements_at (section_key section) document)) (most_of section)

-- the first of some sections that hasn't
abbrev pub miscounted : Members → List Section → Option Refusal
miscounted document [] = None
miscounted document (section ∷ rest) =
    if has_count document section then miscounted document rest else Some (refusal 6 (spelled (section_key section)))

-- the sections in the order of their keys at the top
abbrev pub key_order : List Section
key_order = Kernel ∷ Program ∷ Start ∷ Link ∷ File ∷ Evict ∷ []

-- all rows, once the numbers at the top are known
abbrev pub all_rows : Members → ℕ → ℕ → ℕ → Result Rows Refusal
all_rows document version budget cache =
    and_then (λ kernels.
    and_then (λ programs.
    and_then (λ starts.
    and_then (λ files.
    and_then (λ links.
    and_then (λ evicts.
    Ok (record {
      version = version;
      budget = budget;
      cache = cache;
      kernels = kernels;
      programs = programs;
      starts = starts;
      files = files;
      links = links;
      evicts = evicts;
    }))
    (rows_of Evict evict_row document))
    (rows_of Link link_row document))
    (rows_of File (file_row version) document))
    (rows_of Start start_row document))
    (rows_of Program program_row document))
    (rows_of Kernel kernel_row document)

-- the rows, where the number of elements of each section lies within its limits
abbrev pub counted_rows : Members → ℕ → ℕ → ℕ → Result Rows Refusal
counted_rows document version budget cache = unless (miscounted document key_order) (all_rows document version budget cache)

-- 0 cached blocks, or 8 to 4,096
abbrev pub cache_of : Option ℕ → Option ℕ
cache_of None = None
cache_of (Some n) = if n == 0 || nat_le 8 n then Some n else None

-- the rows, once the budget and the version are known
abbrev pub cached : Members → ℕ → ℕ → Option ℕ → Result Rows Refusal
cached document version budget None = refused_top name.Cache
cached document version budget (Some cache) = counted_rows document version budget cache

abbrev pub budgeted : Members → ℕ → Option ℕ → Result Rows Refusal
budgeted document version None = refused_top name.Budget
budgeted document version (Some budget) = cached document version budget (cache_of (within 0 4096 (whole_at name.Cache 64 document)))

abbrev pub versioned : Members → Option ℕ → Result Rows Refusal
versioned document None = refused_top name.Version
versioned document (Some version) = budgeted document version (within 1 4000000 (whole_at name.Budget 1000000 document))

-- the rows of a document, or its first refusal for a number or a count out of limits, and for a name or a fate that is none
abbrev pub read_rows : Members → Result Rows Refusal
read_rows document = versioned document (within 1 2 (whole_at name.Version 0 document))
