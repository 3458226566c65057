-- What a description keeps that was read from a cluster file, in whichever of the two versions.
use Rattle.std.specs.Prelude.{ℕ, zero, suc, slice_get, ◌+◌, ◌*◌, ◌^◌, ◌==◌, Bool, true, false, ◌&&◌, ◌||◌, not, IsTrue, List, [], ◌∷◌, length, map, sum, nat_le, nat_lt, Option, Some, None}
use Rattle.std.specs.List.{list_all, list_any}
use Rattle.sprite_paths.specs.Path.{clean_path, text_of, is_prefix}
use Rattle.link_plan.specs.declared.plan.Fate.{Fate}
use Rattle.link_plan.specs.declared.plan.Fate.TheVariants as fate
use Rattle.link_plan.specs.declared.plan.PlanEntry.{PlanEntry}
use Rattle.process_machine.specs.declared.instruction.Instruction.{Instruction}
use Rattle.process_machine.specs.declared.instruction.Instruction.TheVariants.{Jmp, Jeq, Jne, Jlt, Sys}
use Rattle.process_machine.specs.declared.instruction.SyscallName.{SyscallName}
use Rattle.process_machine.specs.declared.instruction.SyscallName.TheVariants as name
use Rattle.process_machine.specs.declared.program.Program.{Program}
use Rattle.process_machine.specs.declared.program.Text.{Text}
use Rattle.unix_calls.specs.declared.description.Description.{Description}
use Rattle.unix_calls.specs.declared.description.KernelLine.{KernelLine}
use Rattle.unix_calls.specs.declared.description.ProgramLine.{ProgramLine}
use Rattle.unix_calls.specs.declared.description.StartLine.{StartLine}
use Rattle.unix_calls.specs.declared.description.FileLine.{FileLine}
use Rattle.unix_calls.specs.declared.description.EvictLine.{EvictLine}
use Rattle.unix_calls.specs.Tree.{same_path}
use Rattle.unix_calls.specs.Same.{same_text}
use Rattle.unix_calls.specs.Domains.{roots_of, begins_domain}
use Rattle.unix_calls.specs.Boot.{bytes_at, limit_of}

-- whether a number lies between two others, or is one of them
abbrev pub is_within : ℕ → ℕ → ℕ → Bool
is_within least most n = nat_le least n && nat_le n most

-- whether a byte is one of `a` to `z`
abbrev pub is_letter : ℕ → Bool
is_letter byte = is_within 97 122 byte

-- whether a byte may stand in a name
abbrev pub is_name_byte : ℕ → Bool
is_name_byte byte = is_letter byte || is_within 48 57 byte

-- a name has 1 to 16 bytes of `a` to `z` and `0` to `9`, the first a letter
abbrev pub is_name : List ℕ → Bool
is_name [] = false
is_name (first ∷ rest) = is_letter first && list_all is_name_byte rest && nat_le (length rest) 15

-- whether each differs from those behind it
abbrev pub each_once : {A : Type 0} → (A → A → Bool) → List A → Bool
each_once same [] = true
each_once same (x ∷ xs) = not (list_any (same x) xs) && each_once same xs

-- whether a path is one that its own text is cleaned into
abbrev pub is_cleaned : Option (List (List ℕ)) → List (List ℕ) → Bool
is_cleaned None path = false
is_cleaned (Some cleaned) path = same_path cleaned path

abbrev pub is_clean : List (List ℕ) → Bool
is_clean path = is_cleaned (clean_path [] (text_of path)) path

-- what has that number, of things that are numbered from 1
abbrev pub numbered : {A : Type 0} → List A → ℕ → Option A
numbered xs zero = None
numbered xs (suc place) = slice_get xs place

-- whether it is there and passes a test
abbrev pub holds : {A : Type 0} → (A → Bool) → Option A → Bool
holds test None = false
holds test (Some x) = test x

-- whether a kernel is a client
abbrev pub serves_none : KernelLine → Bool
serves_none line = length line.serves == 0

-- whether the kernel of that number is there and a client
abbrev pub is_client_at : List KernelLine → ℕ → Bool
is_client_at kernels number = holds serves_none (numbered kernels number)

-- version 1 or 2; 1 to 4,000,000 units; no cached block, or 8 to 4,096
abbrev pub has_version : Description → Bool
has_version c = is_within 1 2 c.version

abbrev pub has_budget : Description → Bool
has_budget c = is_within 1 4000000 c.budget

abbrev pub has_cache : Description → Bool
has_cache c = c.cache == 0 || is_within 8 4096 c.cache

-- 1 to 16 kernels and at most 16 domains; at most 64 programs, 64 starts, 64 faults, 200 files and 16 evictions
abbrev pub has_counts : Description → Bool
has_counts c =
    is_within 1 16 (length c.kernels) && nat_le (length (roots_of c.kernels)) 16 && nat_le (length c.programs) 64
    && nat_le (length c.starts) 64 && nat_le (length c.plan.entries) 64 && nat_le (length c.files) 200 && nat_le (length c.evicts) 16

-- each kernel and each program has a name, and no two kernels one, nor two programs
abbrev pub has_kernel_names : Description → Bool
has_kernel_names c =
    list_all (λ (line : KernelLine). is_name line.name) c.kernels
    && each_once (λ (a b : KernelLine). same_text a.name b.name) c.kernels

abbrev pub has_program_names : Description → Bool
has_program_names c =
    list_all (λ (line : ProgramLine). is_name line.name) c.programs
    && each_once (λ (a b : ProgramLine). same_text a.name b.name) c.programs

-- each domain has a path, no two have one, and `/` is a domain
abbrev pub has_domains : Description → Bool
has_domains c = list_all is_clean (roots_of c.kernels) && each_once same_path (roots_of c.kernels)

abbrev pub serves_the_root : Description → Bool
serves_the_root c = begins_domain (roots_of c.kernels) []

-- a text ends inside the pages
abbrev pub ends_inside : ℕ → Text → Bool
ends_inside size text = nat_le (text.address + length text.bytes) size

-- whether a call has a name in programs of that version; `rexec` has one from version 2 on
abbrev pub has_call : ℕ → SyscallName → Bool
has_call version name.Rexec = nat_lt 1 version
has_call version _ = true

-- a jump goes to an instruction or behind the last one, and a call has a name
abbrev pub is_instruction : ℕ → ℕ → Instruction → Bool
is_instruction version count (Jmp place) = nat_le place count
is_instruction version count (Jeq a b place) = nat_le place count
is_instruction version count (Jne a b place) = nat_le place count
is_instruction version count (Jlt a b place) = nat_le place count
is_instruction version count (Sys called operands) = has_call version called
is_instruction version count other = true

-- a program has 1 to 8 pages of 4,096 bytes, at most 512 instructions, and at most 64 texts, which end inside the pages
abbrev pub is_program : ℕ → Program → Bool
is_program version program =
    is_within 1 8 program.pages && nat_le (length program.code) 512 && nat_le (length program.texts) 64
    && list_all (ends_inside (program.pages * 4096)) program.texts && list_all (is_instruction version (length program.code)) program.code

-- each program's number is its place, from one on
abbrev pub are_programs : ℕ → ℕ → List ProgramLine → Bool
are_programs version place [] = true
are_programs version place (line ∷ lines) =
    line.program.number == place && is_program version line.program && are_programs version (place + 1) lines

abbrev pub has_programs : Description → Bool
has_programs c = are_programs c.version 1 c.programs

-- a start's host is a client, its program is there, and its argument is below 2^63
abbrev pub is_start : Description → StartLine → Bool
is_start c line =
    is_client_at c.kernels line.host && holds (λ (line : ProgramLine). true) (numbered c.programs line.program) && nat_lt line.arg (2 ^ 63)

abbrev pub has_starts : Description → Bool
has_starts c = list_all (is_start c) c.starts

-- an eviction's host is a client, and its call's number is 1 to 1,000,000
abbrev pub is_evict : Description → EvictLine → Bool
is_evict c line = is_client_at c.kernels line.host && is_within 1 1000000 line.after

abbrev pub has_evicts : Description → Bool
has_evicts c = list_all (is_evict c) c.evicts

-- an end of a fault is any kernel, or one that is there
abbrev pub is_end : Description → Option ℕ → Bool
is_end c None = true
is_end c (Some number) = is_within 1 (length c.kernels) number

-- whether a fate is a fault
abbrev pub is_fault : Fate → Bool
is_fault fate.Once = false
is_fault fate.Lost = true
is_fault fate.Twice = true
is_fault fate.Late = true

-- a fault's numbers are 1 to 2^31
abbrev pub is_planned : Description → PlanEntry → Bool
is_planned c entry =
    is_end c entry.from && is_end c entry.to && is_within 1 (2 ^ 31) entry.first && is_within 1 (2 ^ 31) entry.every
    && is_within 1 (2 ^ 31) entry.count && is_fault entry.fate

abbrev pub has_plan : Description → Bool
has_plan c = list_all (is_planned c) c.plan.entries

-- whether one path is a proper prefix of the other
abbrev pub is_above : List (List ℕ) → List (List ℕ) → Bool
is_above path other = is_prefix path other && not (same_path path other)

-- a file's path is one, it isn't `/`, no domain's nor above one, and above no other file's
abbrev pub is_file_path : Description → FileLine → Bool
is_file_path c line =
    is_clean line.path && not (same_path line.path []) && not (list_any (is_prefix line.path) (roots_of c.kernels))
    && not (list_any (λ (other : FileLine). is_above line.path other.path) c.files)

abbrev pub has_file_paths : Description → Bool
has_file_paths c = list_all (is_file_path c) c.files

-- a line's bytes join a file exactly where an earlier line has its path, which only version 2 has
abbrev pub same_fact : Bool → Bool → Bool
same_fact true fact = fact
same_fact false fact = not fact

abbrev pub are_joined : List (List (List ℕ)) → List FileLine → Bool
are_joined earlier [] = true
are_joined earlier (line ∷ lines) =
    same_fact line.append (list_any (same_path line.path) earlier) && are_joined (line.path ∷ earlier) lines

abbrev pub has_joins : Description → Bool
has_joins c = are_joined [] c.files && (nat_lt 1 c.version || not (list_any (λ (line : FileLine). line.append) c.files))

-- how many bytes all lines have
abbrev pub size_of : List FileLine → ℕ
size_of lines = sum (map (λ (line : FileLine). length line.bytes) lines)

-- a file has at most as many bytes as the version allows, and all have 67,108,864 together at most
abbrev pub has_sizes : Description → Bool
has_sizes c =
    list_all (λ (line : FileLine). nat_le (length (bytes_at c.files line.path)) (limit_of c.version)) c.files && nat_le (size_of c.files) 67108864

-- a lawful description keeps all of this
pub record Lawful (c : Description) : Type 0 where
  pub version : IsTrue (has_version c)
  pub budget : IsTrue (has_budget c)
  pub cache : IsTrue (has_cache c)
  pub counts : IsTrue (has_counts c)
  pub kernel_names : IsTrue (has_kernel_names c)
  pub program_names : IsTrue (has_program_names c)
  pub domains : IsTrue (has_domains c)
  pub the_root : IsTrue (serves_the_root c)
  pub programs : IsTrue (has_programs c)
  pub starts : IsTrue (has_starts c)
  pub evicts : IsTrue (has_evicts c)
  pub plan : IsTrue (has_plan c)
  pub file_paths : IsTrue (has_file_paths c)
  pub joins : IsTrue (has_joins c)
  pub sizes : IsTrue (has_sizes c)
