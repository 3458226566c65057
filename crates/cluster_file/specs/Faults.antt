-- The faults of a document's form: keys that are unknown, missing, or of a wrong type.
use Rattle.std.specs.Prelude.{ℕ, Bool, false, ◌&&◌, ◌+◌, not, if◌then◌else◌, List, [], ◌∷◌, Option, Some, None}
use Rattle.std.specs.Option.{option_map, is_some}
use Rattle.std.specs.List.{flat_map, list_all, list_any}
use Rattle.toml.specs.Data.{Data, Members, no_members, member, as_integer, as_str, as_bool, as_array, as_table}
use Rattle.unix_calls.specs.Output.{escape}
use Rattle.unix_calls.specs.Same.{same_text}
use Rattle.cluster_file.specs.declared.refusal.Refusal.{Refusal}
use Rattle.cluster_file.specs.declared.keys.KeyName.{KeyName}
use Rattle.cluster_file.specs.declared.keys.KeyName.TheVariants as name
use Rattle.cluster_file.specs.declared.keys.Kind.{Kind}
use Rattle.cluster_file.specs.declared.keys.Kind.TheVariants.{Whole, Text, Truth, Tables, Texts}
use Rattle.cluster_file.specs.declared.keys.Key.{Key}
use Rattle.cluster_file.specs.declared.keys.Section.{Section}
use Rattle.cluster_file.specs.declared.fault.Fault.{Fault}
use Rattle.cluster_file.specs.declared.fault.Fault.TheVariants.{UnknownKey, MissingKey, WrongType}
use Rattle.cluster_file.specs.Keys.{spelled, section_key, top_keys, keys_of, sections}
use Rattle.cluster_file.specs.Tables.{value_at, elements_of, elements_at, whole_at, is_two}
use Rattle.cluster_file.specs.Refusals.{refusal, key_place, else_first}

-- whether a text is one of the keys
abbrev pub is_known : List Key → List ℕ → Bool
is_known keys text = list_any (λ (key : Key). same_text (spelled key.name) text) keys

-- the first key of a table that is none of these; a table's keys stand in byte order
abbrev pub unknown_key : List Key → Members → Option (List ℕ)
unknown_key keys no_members = None
unknown_key keys (member text d rest) = if is_known keys text then unknown_key keys rest else Some text

-- the first of the keys that a table must have and hasn't
abbrev pub is_missing : Members → Key → Bool
is_missing table key = key.required && not (is_some (value_at key.name table))

-- whether a value is an array whose elements all pass a test
abbrev pub each_passes : (Data → Bool) → Data → Bool
each_passes test d = is_some (as_array d) && list_all test (elements_of d)

abbrev pub is_table : Data → Bool
is_table d = is_some (as_table d)

abbrev pub is_text : Data → Bool
is_text d = is_some (as_str d)

-- whether a value is of a kind
abbrev pub has_kind : Kind → Data → Bool
has_kind Whole d = is_some (as_integer d)
has_kind Text d = is_text d
has_kind Truth d = is_some (as_bool d)
has_kind Tables d = each_passes is_table d
has_kind Texts d = each_passes is_text d

-- whether there is a value at the key, and it is of another kind
abbrev pub is_other : Kind → Option Data → Bool
is_other kind None = false
is_other kind (Some d) = not (has_kind kind d)

abbrev pub is_wrong : Members → Key → Bool
is_wrong table key = is_other key.kind (value_at key.name table)

-- the first of the keys that passes a test
abbrev pub first_key : (Key → Bool) → List Key → Option KeyName
first_key test [] = None
first_key test (key ∷ keys) = if test key then Some key.name else first_key test keys

-- how the first key of a table is printed that has the fault
abbrev pub fault_in : Fault → List Key → Members → Option (List ℕ)
fault_in UnknownKey keys table = option_map (λ text. flat_map escape text) (unknown_key keys table)
fault_in MissingKey keys table = option_map spelled (first_key (is_missing table) keys)
fault_in WrongType keys table = option_map spelled (first_key (is_wrong table) keys)

-- the number of a fault's refusal
abbrev pub fault_number : Fault → ℕ
fault_number UnknownKey = 3
fault_number MissingKey = 4
fault_number WrongType = 5

-- the refusal of a table at the top
abbrev pub top_fault : Fault → Members → Option Refusal
top_fault fault document = option_map (refusal (fault_number fault)) (fault_in fault top_keys document)

-- the refusal of the element of that number of a section; an element that is no table has no keys
abbrev pub table_fault : Fault → Section → List Key → ℕ → Option Members → Option Refusal
table_fault fault section keys number None = None
table_fault fault section keys number (Some table) =
    option_map (λ key. refusal (fault_number fault) (key_place section number key)) (fault_in fault keys table)

-- the first refusal of elements that are numbered from that number on
abbrev pub elements_fault : Fault → Section → List Key → ℕ → List Data → Option Refusal
elements_fault fault section keys number [] = None
elements_fault fault section keys number (d ∷ ds) =
    else_first (table_fault fault section keys number (as_table d)) (elements_fault fault section keys (number + 1) ds)

-- the first refusal of some sections of a document
abbrev pub section_fault : Fault → Members → Section → Option Refusal
section_fault fault document section =
    elements_fault fault section (keys_of (is_two (whole_at name.Version 0 document)) section) 1 (elements_at (section_key section) document)

abbrev pub sections_fault : Fault → Members → List Section → Option Refusal
sections_fault fault document [] = None
sections_fault fault document (section ∷ rest) = else_first (section_fault fault document section) (sections_fault fault document rest)

-- the first refusal of a document for the fault: of the top, and then of the sections in order
abbrev pub document_fault : Fault → Members → Option Refusal
document_fault fault document = else_first (top_fault fault document) (sections_fault fault document sections)
