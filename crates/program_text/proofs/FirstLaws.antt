-- Where the lines of a text are refused, there is a first bad one, and that is the number given.
use Rattle.std.proofs.Common.{◌≡◌, ℕ, suc, ◌+◌, Bool, List, [], ◌∷◌, take, Option, Some, None, Ok, Err, Result, refl, ap, sym, subst, ◌∙◌, arith, slice_get}
use Rattle.std.specs.Option.{option_and_then}
use Rattle.program_text.specs.declared.assembly.AsmEnd.{AsmEnd}
use Rattle.program_text.specs.declared.assembly.AsmEnd.TheVariants as end
use Rattle.program_text.specs.declared.reading.Reading.{Reading}
use Rattle.text_lines.specs.Lines.{lines_of}
use Rattle.program_text.specs.Labels.{defines}
use Rattle.program_text.specs.Lines.{line_of}
use Rattle.program_text.specs.Readings.{judged, unread, with_line}
use Rattle.program_text.specs.Programs.{verdict, line_number, IsBadAt}
use Rattle.program_text.specs.Facts.{IsItsNumber, TellsFirst}

-- the first bad one of these lines, which stand behind k lines that gave a reading
pub record IsBadBehind (version : ℕ) (defined : List ℕ → Bool) (k : ℕ) (r : Reading) (lines : List (List ℕ)) (n : ℕ) : Type 0 where
  pub place : ℕ
  pub before : Reading
  pub line : List ℕ
  pub counted : n ≡ k + place + 1
  pub good : judged version defined k (Some r) (take place lines) ≡ Ok before
  pub there : slice_get lines place ≡ Some line
  pub bad : option_and_then (with_line defined before) (line_of version line) ≡ None

-- one more line at the front: it is bad, or a later one is
bad_more : (version : ℕ) (defined : List ℕ → Bool) (k : ℕ) (r : Reading) (line : List ℕ) (lines : List (List ℕ)) (n : ℕ) (o : Option Reading) → option_and_then (with_line defined r) (line_of version line) ≡ o → ((s : Reading) → judged version defined (k + 1) (Some s) lines ≡ Err n → IsBadBehind version defined (k + 1) s lines n) → judged version defined (k + 1) o lines ≡ Err n → IsBadBehind version defined k r (line ∷ lines) n
bad_more version defined k r line lines n None is rest e = record {
  place = 0;
  before = r;
  line = line;
  counted = let same_one : k + 1 ≡ n = cc in omega (arith, same_one);
  good = refl;
  there = refl;
  bad = is;
}
bad_more version defined k r line lines n (Some s) is rest e =
    let later : IsBadBehind version defined (k + 1) s lines n = rest s e in
    record {
      place = suc later.place;
      before = later.before;
      line = later.line;
      counted = omega (arith, later.counted);
      good = subst (λ (q : Option Reading). judged version defined (k + 1) q (take later.place lines) ≡ Ok later.before) (sym is) later.good;
      there = later.there;
      bad = later.bad;
    }

bad_behind : (version : ℕ) (defined : List ℕ → Bool) (k : ℕ) (r : Reading) (lines : List (List ℕ)) (n : ℕ) → judged version defined k (Some r) lines ≡ Err n → IsBadBehind version defined k r lines n
bad_behind version defined k r [] n e = cc
bad_behind version defined k r (line ∷ lines) n e =
    bad_more version defined k r line lines n _ refl (λ s. bad_behind version defined (k + 1) s lines n) e

-- the number of a text that is refused is that of its first bad line
pub first_bad : (version : ℕ) (text : List ℕ) (n number : ℕ) → verdict version text ≡ Err n → number ≡ line_number n → IsItsNumber version text number
first_bad version text n number e told =
    let found : IsBadBehind version (defines (lines_of text)) 0 unread (lines_of text) n = bad_behind version (defines (lines_of text)) 0 unread (lines_of text) n e in
    let same_n : n ≡ found.place + 1 = omega (arith, found.counted) in
    record {
      place = found.place;
      counted = told ∙ ap line_number same_n;
      is_first = record { before = found.before; line = found.line; good = found.good; there = found.there; bad = found.bad };
    }

-- the same of the error
tells_by : (version : ℕ) (text : List ℕ) (v : Result Reading ℕ) (e : AsmEnd) → verdict version text ≡ v → IsBadAt v e → TellsFirst version text e
tells_by version text (Ok r) (end.Line number) is bad = absurd bad
tells_by version text (Err n) (end.Line number) is bad = first_bad version text n number is bad
tells_by version text v end.NoMemory is bad = tt

pub tells_first : (version : ℕ) (text : List ℕ) (e : AsmEnd) → IsBadAt (verdict version text) e → TellsFirst version text e
tells_first version text e bad = tells_by version text _ e refl bad
