-- A step of a file as a line, and the file's first line.
use Rattle.std.specs.Prelude.{codes, ℕ, ◌==◌, ◌+◌, ◌*◌, Bool, true, false, ◌&&◌, nat_le, if◌then◌else◌, List, length, Option, Some, None, option_map}
use Rattle.sprite_ids.specs.declared.StreamNo.{StreamNo}
use Rattle.sprite_ids.specs.declared.Mode.{Mode}
use Rattle.sprite_ids.specs.declared.Mode.TheVariants.{Read, Write, Both}
use Rattle.text_rows.specs.Words.{number_in, rest_of, same, word_of}
use Rattle.field_reader.specs.Reads.{Reads}
use Rattle.history_text.specs.Texts.{text}
use Rattle.file_views.specs.declared.FileStep.{FileStep}
use Rattle.file_views.specs.declared.FileStep.TheVariants as act
use Rattle.restart_views.specs.declared.RestartStep.{RestartStep}
use Rattle.restart_views.specs.declared.RestartStep.TheVariants as does

-- the bytes in quotes, with nothing behind them
abbrev pub alone : Reads (List ℕ) → Option (List ℕ)
alone (Some (bytes, rest)) = if length rest == 0 then Some bytes else None
alone None = None

abbrev pub quoted : List ℕ → Option (List ℕ)
quoted line = alone (text.read line)

-- the most that the number of a stream and of a call may be
abbrev pub most_number : ℕ
most_number = 2000000000

-- the mode of an open, and whether it truncates
abbrev pub use_of : List ℕ → Option (Mode × Bool)
use_of word =
    if same word (codes "read") then Some (Read, false)
    else if same word (codes "write") then Some (Write, false)
    else if same word (codes "both") then Some (Both, false)
    else if same word (codes "write trunc") then Some (Write, true)
    else if same word (codes "both trunc") then Some (Both, true)
    else None

-- the first process of a kernel, which does its steps
abbrev pub process : ℕ → ℕ
process kernel = 1000 * kernel + 1

-- the stream that a kernel opened as the one of that number
abbrev pub stream_by : Option ℕ → Option ℕ → Option StreamNo
stream_by (Some kernel) (Some number) = Some (record { kernel = kernel; number = number })
stream_by kernel number = None

abbrev pub stream_of : ℕ → List ℕ → List ℕ → Option StreamNo
stream_of kernels kernel number = stream_by (number_in 1 kernels kernel) (number_in 1 most_number number)

-- the stream of the first two words
abbrev pub stream_in : ℕ → List ℕ → Option StreamNo
stream_in kernels values = stream_of kernels (word_of values) (word_of (rest_of values))

-- what stands behind them
abbrev pub behind_two : List ℕ → List ℕ
behind_two values = rest_of (rest_of values)

-- a step by the values that were read; the line's number is the number of its process's call
abbrev pub opened : ℕ → Option StreamNo → Option (Mode × Bool) → Option FileStep
opened line (Some stream) (Some (mode, truncate)) = Some (act.Opening (process stream.kernel) line stream.kernel stream mode truncate)
opened line stream mode = None

abbrev pub closed : Option StreamNo → Option FileStep
closed (Some stream) = Some (act.Closing stream.kernel stream)
closed None = None

abbrev pub read_by : ℕ → Option StreamNo → Option ℕ → Option ℕ → Option FileStep
read_by line (Some stream) (Some from) (Some many) = Some (act.Reading (process stream.kernel) line stream.kernel stream from many)
read_by line stream from many = None

-- a call moves at most 16,384 bytes, and a file has at most 262,144
abbrev pub fits : ℕ → ℕ → Bool
fits from many = nat_le many 16384 && nat_le (from + many) 262144

abbrev pub written : ℕ → Option StreamNo → Option ℕ → Option (List ℕ) → Option FileStep
written line (Some stream) (Some from) (Some bytes) = if fits from (length bytes) then Some (act.Writing (process stream.kernel) line stream.kernel stream from bytes) else None
written line stream from bytes = None

abbrev pub appended : ℕ → Option StreamNo → Option (List ℕ) → Option FileStep
appended line (Some stream) (Some bytes) = if fits 0 (length bytes) then Some (act.Append (process stream.kernel) line stream.kernel stream bytes) else None
appended line stream bytes = None

abbrev pub sent_back : Option ℕ → Option ℕ → Option FileStep
sent_back (Some kernel) (Some block) = Some (act.WritingBack kernel (record { 0 = block }))
sent_back kernel block = None

-- the step of each form, of what stands behind its name
abbrev pub opening : ℕ → ℕ → List ℕ → Option FileStep
opening kernels line values = opened line (stream_in kernels values) (use_of (behind_two values))

abbrev pub closing : ℕ → List ℕ → Option FileStep
closing kernels values = closed (stream_of kernels (word_of values) (rest_of values))

abbrev pub reading : ℕ → ℕ → List ℕ → Option FileStep
reading kernels line values = read_by line (stream_in kernels values) (number_in 0 262144 (word_of (behind_two values))) (number_in 0 16384 (rest_of (behind_two values)))

abbrev pub writing : ℕ → ℕ → List ℕ → Option FileStep
writing kernels line values = written line (stream_in kernels values) (number_in 0 262144 (word_of (behind_two values))) (quoted (rest_of (behind_two values)))

abbrev pub appending : ℕ → ℕ → List ℕ → Option FileStep
appending kernels line values = appended line (stream_in kernels values) (quoted (behind_two values))

abbrev pub sending_back : ℕ → List ℕ → Option FileStep
sending_back kernels values = sent_back (number_in 1 kernels (word_of values)) (number_in 0 63 (rest_of values))

-- the file step of a name and what stands behind it, among so many kernels, on the line of that number
abbrev pub file_step_by : ℕ → ℕ → List ℕ → List ℕ → Option FileStep
file_step_by kernels line name values =
    if same name (codes "open") then opening kernels line values
    else if same name (codes "close") then closing kernels values
    else if same name (codes "read") then reading kernels line values
    else if same name (codes "write") then writing kernels line values
    else if same name (codes "append") then appending kernels line values
    else if same name (codes "back") then sending_back kernels values
    else if same name (codes "deliver") then option_map act.Delivering (number_in 1 most_number values)
    else if same name (codes "expire") then option_map act.Expiring (number_in 1 most_number values)
    else None

-- the step of a line
abbrev pub step_of : ℕ → ℕ → List ℕ → Option RestartStep
step_of kernels number line =
    if same line (codes "stop") then Some does.Stop
    else if same line (codes "settle") then Some does.Settle
    else if same (word_of line) (codes "claim") then option_map does.Claim (number_in 1 kernels (rest_of line))
    else option_map does.File (file_step_by kernels number (word_of line) (rest_of line))

-- the first line: how many kernels there are, and the first bytes
abbrev pub begun : Option ℕ → Option (List ℕ) → Option (ℕ × List ℕ)
begun (Some kernels) (Some bytes) = if nat_le (length bytes) 262144 then Some (kernels, bytes) else None
begun kernels bytes = None

abbrev pub file_of : List ℕ → Option (ℕ × List ℕ)
file_of line = if same (word_of line) (codes "file") then begun (number_in 1 15 (word_of (rest_of line))) (quoted (rest_of (rest_of line))) else None
