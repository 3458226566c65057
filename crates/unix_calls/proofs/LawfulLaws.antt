-- What a lawful description begins with.
use Rattle.std.proofs.Common.{◌≡◌, ◌≤◌, ℕ, ◌+◌, Bool, true, false, cond, List, [], ◌∷◌, length, refl, sym, arith, nat_le}
use Rattle.std.specs.Prelude.{◌&&◌}
use Rattle.std.specs.List.{AllByRecursion, list_all}
use Rattle.std.proofs.lemmas.Bool.{leb-true, true≢false}
use Rattle.sprite_ids.proofs.ListLaws.{each_push}
use Rattle.unix_calls.specs.declared.description.Description.{Description}
use Rattle.unix_calls.specs.declared.description.FileLine.{FileLine}
use Rattle.unix_calls.specs.State.{File}
use Rattle.unix_calls.specs.Boot.{Filed, bytes_at, with_file_line, filed, limit_of}
use Rattle.unix_calls.specs.Domains.{roots_of}
use Rattle.unix_calls.specs.Lawful.{Lawful, is_within, size_of}
use Rattle.unix_calls.specs.Laws.{BeginsWithin}

and_left : (a b : Bool) → (a && b) ≡ true → a ≡ true
and_left true b h = refl
and_left false b h = h

and_right : (a b : Bool) → (a && b) ≡ true → b ≡ true
and_right true b h = h
and_right false b h = absurd (true≢false (sym h))

abbrev Short : ℕ → File → Type 0
Short limit f = length f.bytes ≤ limit

-- a line's file is within the limit
abbrev fits : ℕ → List FileLine → FileLine → Bool
fits limit all line = nat_le (length (bytes_at all line.path)) limit

line_short : (limit : ℕ) (all : List FileLine) (place : ℕ) (line : FileLine) (f : Filed) (b : Bool) → fits limit all line ≡ true → AllByRecursion (Short limit) f.files → AllByRecursion (Short limit) (cond b f (with_file_line place line.path (bytes_at all line.path) f)).files
line_short limit all place line f true fit h = h
line_short limit all place line f false fit h = each_push (Short limit) f.files _ h (leb-true (length (bytes_at all line.path)) limit fit)

filed_short : (limit : ℕ) (all : List FileLine) (place : ℕ) (lines : List FileLine) (f : Filed) → list_all (fits limit all) lines ≡ true → AllByRecursion (Short limit) f.files → AllByRecursion (Short limit) (filed all place lines f).files
filed_short limit all place [] f fit h = h
filed_short limit all place (line ∷ lines) f fit h =
    filed_short limit all (place + 1) lines (cond line.append f (with_file_line place line.path (bytes_at all line.path) f)) (and_right (fits limit all line) (list_all (fits limit all) lines) fit)
    (line_short limit all place line f line.append (and_left (fits limit all line) (list_all (fits limit all) lines) fit) h)

pub lawful_begins_within : (c : Description) → Lawful c → BeginsWithin c
lawful_begins_within c h =
    let fit : list_all (fits (limit_of c.version) c.files) c.files ≡ true = and_left (list_all (fits (limit_of c.version) c.files) c.files) (nat_le (size_of c.files) 67108864) h.sizes in
    let counts = and_left (is_within 1 16 (length c.kernels) && nat_le (length (roots_of c.kernels)) 16 && nat_le (length c.programs) 64 && nat_le (length c.starts) 64 && nat_le (length c.plan.entries) 64 && nat_le (length c.files) 200) (nat_le (length c.evicts) 16) h.counts in
    let counts_files = and_left (is_within 1 16 (length c.kernels) && nat_le (length (roots_of c.kernels)) 16 && nat_le (length c.programs) 64 && nat_le (length c.starts) 64 && nat_le (length c.plan.entries) 64) (nat_le (length c.files) 200) counts in
    let counts_plan = and_left (is_within 1 16 (length c.kernels) && nat_le (length (roots_of c.kernels)) 16 && nat_le (length c.programs) 64 && nat_le (length c.starts) 64) (nat_le (length c.plan.entries) 64) counts_files in
    let few : nat_le (length c.starts) 64 ≡ true = and_right (is_within 1 16 (length c.kernels) && nat_le (length (roots_of c.kernels)) 16 && nat_le (length c.programs) 64) (nat_le (length c.starts) 64) counts_plan in
    record {
      files = record { files = filed_short (limit_of c.version) c.files 0 c.files _ fit tt; streams = tt };
      starts = omega (arith, leb-true (length c.starts) 64 few);
    }
