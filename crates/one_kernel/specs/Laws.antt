-- What a verdict tells.
use Rattle.std.specs.Prelude.{◌≡◌, ℕ, ◌-◌, true, false, List, take}
use Rattle.unix_calls.specs.declared.description.Description.{Description}
use Rattle.unix_calls.specs.declared.entry.Entry.{Entry}
use Rattle.unix_calls.specs.After.{legal}
use Rattle.one_kernel.specs.declared.verdict.Verdict.TheVariants as verdict
use Rattle.one_kernel.specs.Verdicts.{verdict_of}

-- a history that is found legal is one that one Unix kernel gives
abbrev pub LegalIsLegal : Type 0
LegalIsLegal = (c : Description) (most : ℕ) (journal : List Entry) → verdict_of c most journal ≡ verdict.Legal → legal c journal ≡ true

-- of one that isn't, the entries before the named one are, and those up to it aren't
abbrev pub NotLegalIsFirst : Type 0
NotLegalIsFirst = (c : Description) (most n : ℕ) (journal : List Entry) → verdict_of c most journal ≡ verdict.NotLegal n → (legal c (take (n - 1) journal) ≡ true) × (legal c (take n journal) ≡ false)

-- where the bound is passed, the entries before the named one are legal
abbrev pub StepsAreBehindLegal : Type 0
StepsAreBehindLegal = (c : Description) (most n : ℕ) (journal : List Entry) → verdict_of c most journal ≡ verdict.Steps n → legal c (take (n - 1) journal) ≡ true
