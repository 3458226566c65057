-- Numbers are read as they were printed.
use Rattle.std.proofs.Common.{◌≡◌, ℕ, ◌^◌, ◌<◌, ◌≤◌, ◌+◌, ◌*◌, ◌-◌, ◌==◌, nat_eq, nat_le, Bool, true, false, cond, ltb, ◌&&◌, ◌||◌, inl, inr, List, [], ◌∷◌, length, get_or, Option, Some, None, refl, sym, ap, subst, ◌∙◌, arith}
use Rattle.std.specs.List.{list_all}
use Rattle.std.specs.Char.{digit_value, is_ascii_digit, is_ascii_alphanumeric}
use Rattle.std.specs.Int.{is_in_range}
use Rattle.std.specs.Fmt.{decimal}
use Rattle.std.specs.Str.Parse.{AllDigits, digits_value, digits_value_after}
use Rattle.std.proofs.lemmas.Bool.{cases_lt, cases_Bool, cond-true, cond-false, and_parts, and_from, le-leb, leb-true, lt-ltb, ltb-true, eqb-true}
use Rattle.std.proofs.lemmas.Str.{digit_value_digit}
use Rattle.std.proofs.lemmas.Str.Parse.{IsNumeralModel, numerals_by_value, tells_digits, digit_from_value}
use Rattle.std.proofs.lemmas.Fmt.{decimal_is_IsNumeral, decimal-digits_value, decimal_digit, first_decimal}
use Rattle.sprite_ids.proofs.ListLaws.{some_is}
use Rattle.sprite_ids.specs.Pid.{IsPid}
use Rattle.sprite_ids.specs.Errno.{errno_number}
use Rattle.sprite_ids.specs.declared.errno.Errno.{Errno}
use Rattle.sprite_ids.specs.declared.errno.Errno.TheVariants.{NoEntry, Exists, NotDir, IsDir, NotEmpty, BadFd, BadMode, TooBig, TooMany, Invalid, XDev, Busy, NoChild, NoProcess, Interrupted, NoServer, Unreachable, BadHost, BadName, BadAddress}
use Rattle.field_reader.specs.Reads.{in_word}
use Rattle.field_reader.specs.NameLaws.{pid_passes, pid_tells, errno_back}
use Rattle.history_text.specs.Formats.{IsFormat}
use Rattle.field_reader.specs.Names.{errnos}
use Rattle.history_text.specs.Numbers.{number_from, number_of, number64, number32, number8, pid, errno}
use Rattle.history_text.proofs.FormatLaws.{word_is, chosen_by_is, within_is, find_holds}

-- ---- digits

-- what `digits` write behind m is n, below 2^64
record Written (m : ℕ) (cs : List ℕ) (n : ℕ) : Type 0 where
  pub digits : AllDigits 10 cs
  pub value : digits_value_after 10 m cs ≡ n
  pub small : n < 2 ^ 64

guard_some : {A : Type 0} (b : Bool) (o : Option A) (x : A) → cond b o None ≡ Some x → (b ≡ true) × (o ≡ Some x)
guard_some true o x e = (refl, e)
guard_some false o x e = absurd cc

guard_none : {A : Type 0} (b : Bool) (o : Option A) (x : A) → cond b None o ≡ Some x → (b ≡ false) × (o ≡ Some x)
guard_none true o x e = absurd cc
guard_none false o x e = (refl, e)

digit_range : (c : ℕ) → is_ascii_digit c ≡ true → (48 ≤ c) × (c ≤ 57)
digit_range c e = let both = and_parts (nat_le 48 c) (nat_le c 57) e in (leb-true 48 c both.0, leb-true c 57 both.1)

range_digit : (c : ℕ) → 48 ≤ c → c ≤ 57 → is_ascii_digit c ≡ true
range_digit c low high = and_from (nat_le 48 c) (nat_le c 57) (le-leb 48 c low) (le-leb c 57 high)

same_step : (m c : ℕ) → 48 ≤ c → c ≤ 57 → 10 * m + (c - 48) ≡ m * 10 + digit_value c
same_step m c low high = let is = digit_value_digit c (low, high) in omega (arith, is, low)

number_tells_from : (m : ℕ) (cs : List ℕ) (n : ℕ) → m < 2 ^ 64 → number_from m cs ≡ Some n → Written m cs n
number_tells_from m [] n small e = let is = some_is m n e in record { digits = tt; value = is; small = subst (λ k. k < 2 ^ 64) is small }
number_tells_from m (c ∷ cs) n small e =
    let g = guard_some (is_ascii_digit c && ltb (10 * m + (c - 48)) (2 ^ 64)) (number_from (10 * m + (c - 48)) cs) n e in
    let both = and_parts (is_ascii_digit c) (ltb (10 * m + (c - 48)) (2 ^ 64)) g.0 in
    let range = digit_range c both.0 in
    let rest = number_tells_from (10 * m + (c - 48)) cs n (ltb-true (10 * m + (c - 48)) (2 ^ 64) both.1) g.1 in
    record {
      digits = (omega (arith, digit_value_digit c range, range.1), rest.digits);
      value = ap (λ k. digits_value_after 10 k cs) (sym (same_step m c range.0 range.1)) ∙ rest.value;
      small = rest.small;
    }

grows : (m : ℕ) (cs : List ℕ) → m ≤ digits_value_after 10 m cs
grows m [] = omega arith
grows m (c ∷ cs) = let rest = grows (m * 10 + digit_value c) cs in omega (arith, rest)

number_again_from : (m : ℕ) (cs : List ℕ) → AllDigits 10 cs → digits_value_after 10 m cs < 2 ^ 64 → number_from m cs ≡ Some (digits_value_after 10 m cs)
number_again_from m [] digits small = refl
number_again_from m (c ∷ cs) digits small =
    let range = digit_from_value c digits.0 in
    let step = same_step m c range.0 range.1 in
    let below = grows (m * 10 + digit_value c) cs in
    let test = and_from (is_ascii_digit c) (ltb (10 * m + (c - 48)) (2 ^ 64)) (range_digit c range.0 range.1) (lt-ltb (10 * m + (c - 48)) (2 ^ 64) (omega (arith, step, below, small))) in
    cond-true (is_ascii_digit c && ltb (10 * m + (c - 48)) (2 ^ 64)) (number_from (10 * m + (c - 48)) cs) None test
    ∙ ap (λ k. number_from k cs) step
    ∙ number_again_from (m * 10 + digit_value c) cs digits.1 small

own : IsNumeralModel (AllDigits 10) (digits_value 10)
own = numerals_by_value (AllDigits 10) tells_digits

number_forth : (w : List ℕ) (n : ℕ) → number_of w ≡ Some n → (w ≡ decimal n) × (n < 2 ^ 64)
number_forth [] n e = absurd cc
number_forth (c ∷ []) n e =
    let is = number_tells_from 0 (c ∷ []) n (omega arith) e in
    (sym (decimal-digits_value own (c ∷ []) is.digits (omega arith) (λ none. refl) (subst (λ k. k < 2 ^ 64) (sym is.value) is.small)) ∙ ap decimal is.value, is.small)
number_forth (c ∷ d ∷ cs) n e =
    let g = guard_none (c == 48) (number_from 0 (c ∷ d ∷ cs)) n e in
    let is = number_tells_from 0 (c ∷ d ∷ cs) n (omega arith) g.1 in
    (sym (decimal-digits_value own (c ∷ d ∷ cs) is.digits (omega arith) (λ none. absurd (apart c none g.0)) (subst (λ k. k < 2 ^ 64) (sym is.value) is.small)) ∙ ap decimal is.value, is.small)
  where
    apart : (c : ℕ) → c ≡ 48 → (c == 48) ≡ false → ⊥
    apart c is other = let e : (48 == 48) ≡ false = subst (λ k. (k == 48) ≡ false) is other in cc

eqb_other : (c : ℕ) → (c ≡ 48 → ⊥) → (c == 48) ≡ false
eqb_other c other = elim (cases_Bool (c == 48)) [ inl is ↦ absurd (other (eqb-true c 48 is)) | inr apart ↦ apart ]

number_of_digits : (ds : List ℕ) → 0 < length ds → AllDigits 10 ds → (get_or ds 0 0 ≡ 48 → length ds ≡ 1) → digits_value 10 ds < 2 ^ 64 → number_of ds ≡ Some (digits_value 10 ds)
number_of_digits [] some digits alone small = absurd (omega (arith, some))
number_of_digits (c ∷ []) some digits alone small = number_again_from 0 (c ∷ []) digits small
number_of_digits (c ∷ d ∷ cs) some digits alone small =
    cond-false (c == 48) None (number_from 0 (c ∷ d ∷ cs)) (eqb_other c (λ none. let one = alone none in omega (arith, one)))
    ∙ number_again_from 0 (c ∷ d ∷ cs) digits small

-- no zero stands before other digits
alone_zero : (n : ℕ) → n < 2 ^ 64 → get_or (decimal n) 0 0 ≡ 48 → length (decimal n) ≡ 1
alone_zero n lt first_is =
    elim (cases_lt 0 n) [
      | inl some ↦ let first = first_decimal n some lt in absurd (omega (arith, first, first_is))
      | inr none ↦ let is : n ≡ 0 = omega (arith, none) in ap (λ k. length (decimal k)) is ∙ ap length (decimal_digit 0 (omega arith))
    ]

number_back : (n : ℕ) → n < 2 ^ 64 → number_of (decimal n) ≡ Some n
number_back n lt =
    let is = decimal_is_IsNumeral n lt in
    number_of_digits (decimal n) is.0.0 is.0.1 (alone_zero n lt) (subst (λ k. k < 2 ^ 64) (sym is.1) lt) ∙ ap Some is.1

or_left : (a b : Bool) → a ≡ true → (a || b) ≡ true
or_left true b e = refl
or_left false b e = absurd cc

pub digits_in_word : (ds : List ℕ) → AllDigits 10 ds → list_all in_word ds ≡ true
digits_in_word [] digits = refl
digits_in_word (c ∷ cs) digits =
    let range = digit_from_value c digits.0 in
    let digit = or_left (is_in_range 48 57 c) (is_in_range 65 90 c) (range_digit c range.0 range.1) in
    let one : in_word c ≡ true = or_left (is_ascii_alphanumeric c) (c == 95) (or_left (is_in_range 48 57 c || is_in_range 65 90 c) (is_in_range 97 122 c) digit) in
    and_from (in_word c) (list_all in_word cs) one (digits_in_word cs digits.1)

pub number64_is : IsFormat number64
number64_is = chosen_by_is word_is (record {
  back = number_back;
  forth = λ w n all e. number_forth w n e;
  fits = λ n lt. digits_in_word (decimal n) (decimal_is_IsNumeral n lt).0.1;
})

pub number32_is : IsFormat number32
number32_is = within_is number64_is (λ n lt. lt-ltb n (2 ^ 32) lt) (λ n fits e. ltb-true n (2 ^ 32) e) (λ n lt. omega (arith, lt))

pub number8_is : IsFormat number8
number8_is = within_is number64_is (λ n lt. lt-ltb n (2 ^ 8) lt) (λ n fits e. ltb-true n (2 ^ 8) e) (λ n lt. omega (arith, lt))

-- ---- processes

pub pid_small : (n : ℕ) → IsPid n → n < 2 ^ 64
pid_small n is = omega (arith, is.home_to, is.birth_to)

pub pid_is : IsFormat pid
pid_is = within_is number32_is pid_passes (λ n fits e. pid_tells n e) (λ n is. omega (arith, is.home_to, is.birth_to))

-- ---- errors

pub errno_small : (e : Errno) → errno_number e < 2 ^ 8
errno_small NoEntry = omega arith
errno_small Exists = omega arith
errno_small NotDir = omega arith
errno_small IsDir = omega arith
errno_small NotEmpty = omega arith
errno_small BadFd = omega arith
errno_small BadMode = omega arith
errno_small TooBig = omega arith
errno_small TooMany = omega arith
errno_small Invalid = omega arith
errno_small XDev = omega arith
errno_small Busy = omega arith
errno_small NoChild = omega arith
errno_small NoProcess = omega arith
errno_small Interrupted = omega arith
errno_small NoServer = omega arith
errno_small Unreachable = omega arith
errno_small BadHost = omega arith
errno_small BadName = omega arith
errno_small BadAddress = omega arith

pub errno_is : IsFormat errno
errno_is = chosen_by_is number8_is (record {
  back = λ e given. errno_back e;
  forth = λ n e small is. (sym (eqb-true (errno_number e) n (find_holds (λ f. nat_eq (errno_number f) n) errnos e is)), tt);
  fits = λ e given. errno_small e;
})
