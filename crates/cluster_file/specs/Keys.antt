-- The keys that the tables of a cluster file may have.
use Rattle.std.specs.Prelude.{codes, ℕ, Bool, true, false, List, [], ◌∷◌}
use Rattle.cluster_file.specs.declared.keys.KeyName.{KeyName}
use Rattle.cluster_file.specs.declared.keys.KeyName.TheVariants as name
use Rattle.cluster_file.specs.declared.keys.Kind.{Kind}
use Rattle.cluster_file.specs.declared.keys.Kind.TheVariants.{Whole, Text, Truth, Tables, Texts}
use Rattle.cluster_file.specs.declared.keys.Key.{Key}
use Rattle.cluster_file.specs.declared.keys.Section.{Section}
use Rattle.cluster_file.specs.declared.keys.Section.TheVariants.{Kernel, Program, Start, File, Link, Evict}

-- a key as it is spelled
abbrev pub spelled : KeyName → List ℕ
spelled name.Version = codes "version"
spelled name.Budget = codes "budget"
spelled name.Cache = codes "cache"
spelled name.Kernel = codes "kernel"
spelled name.Program = codes "program"
spelled name.Start = codes "start"
spelled name.Link = codes "link"
spelled name.File = codes "file"
spelled name.Evict = codes "evict"
spelled name.Name = codes "name"
spelled name.Serves = codes "serves"
spelled name.Text = codes "text"
spelled name.Host = codes "host"
spelled name.Arg = codes "arg"
spelled name.Path = codes "path"
spelled name.Repeat = codes "repeat"
spelled name.Append = codes "append"
spelled name.From = codes "from"
spelled name.To = codes "to"
spelled name.First = codes "first"
spelled name.Every = codes "every"
spelled name.Count = codes "count"
spelled name.Fate = codes "fate"
spelled name.After = codes "after"

-- a key that the table must have, and one that it may have
abbrev pub must : KeyName → Kind → Key
must name kind = record { name = name; kind = kind; required = true }

abbrev pub may : KeyName → Kind → Key
may name kind = record { name = name; kind = kind; required = false }

-- the keys at the top
abbrev pub top_keys : List Key
top_keys =
    must name.Version Whole ∷
    may name.Budget Whole ∷
    may name.Cache Whole ∷
    must name.Kernel Tables ∷
    may name.Program Tables ∷
    may name.Start Tables ∷
    may name.Link Tables ∷
    may name.File Tables ∷
    may name.Evict Tables ∷
    []

-- the keys of a file; version 2 has one more
abbrev pub file_keys : Bool → List Key
file_keys false = must name.Path Text ∷ may name.Text Text ∷ may name.Repeat Whole ∷ []
file_keys true = must name.Path Text ∷ may name.Text Text ∷ may name.Repeat Whole ∷ may name.Append Truth ∷ []

-- the keys of a table of each section; the first argument says whether the file has version 2
abbrev pub keys_of : Bool → Section → List Key
keys_of is_two Kernel = must name.Name Text ∷ may name.Serves Texts ∷ []
keys_of is_two Program = must name.Name Text ∷ must name.Text Text ∷ []
keys_of is_two Start = must name.Host Text ∷ must name.Program Text ∷ may name.Arg Whole ∷ []
keys_of is_two File = file_keys is_two
keys_of is_two Link =
    must name.From Text ∷
    must name.To Text ∷
    may name.First Whole ∷
    may name.Every Whole ∷
    may name.Count Whole ∷
    may name.Fate Text ∷
    []
keys_of is_two Evict = must name.Host Text ∷ must name.After Whole ∷ []

-- the key at which a section stands
abbrev pub section_key : Section → KeyName
section_key Kernel = name.Kernel
section_key Program = name.Program
section_key Start = name.Start
section_key File = name.File
section_key Link = name.Link
section_key Evict = name.Evict

-- the sections, in the order in which their tables are gone through
abbrev pub sections : List Section
sections = Kernel ∷ Program ∷ Start ∷ File ∷ Link ∷ Evict ∷ []
