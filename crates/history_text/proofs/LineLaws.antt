-- A line has byte 10 at its end alone.
use Rattle.std.proofs.Common.{◌≡◌, ℕ, ◌^◌, ◌<◌, ◌≤◌, ◌+◌, ◌/◌, ◌%◌, ◌==◌, true, not, ltb, inl, inr, List, [], ◌∷◌, ◌++◌, Option, Some, None, refl, ap, subst, ◌∙◌, arith}
use Rattle.std.specs.Prelude.{codes}
use Rattle.std.specs.List.{flat_map, list_all}
use Rattle.std.specs.Fmt.{decimal}
use Rattle.std.proofs.lemmas.Bool.{cases_lt, cases_Bool, cond-true, cond-false, and_parts, and_from, lt-ltb, le-ltb, eqb-true}
use Rattle.std.proofs.lemmas.List.Folds.{list_all-append}
use Rattle.std.proofs.lemmas.Fmt.{decimal_is_IsNumeral}
use Rattle.sprite_ids.specs.Errno.{errno_number}
use Rattle.process_machine.specs.declared.call.Call.{Call}
use Rattle.process_machine.specs.declared.call.Call.TheVariants as call
use Rattle.process_machine.specs.declared.call.Reply.{Reply}
use Rattle.process_machine.specs.declared.call.Reply.TheVariants.{Value, Error}
use Rattle.unix_calls.specs.declared.entry.Entry.{Entry}
use Rattle.unix_calls.specs.declared.entry.Part.{Part}
use Rattle.unix_calls.specs.declared.entry.Part.TheVariants as part
use Rattle.unix_calls.specs.Output.{hexadecimal}
use Rattle.field_reader.specs.Reads.{in_word}
use Rattle.history_text.specs.Formats.{Format, ◌then◌, parted, followed}
use Rattle.history_text.specs.Numbers.{number64, number32, pid, errno}
use Rattle.history_text.specs.Texts.{is_plain, quoted_byte, text}
use Rattle.history_text.specs.Calls.{call_shape, call_format, reply_shape, reply_format}
use Rattle.history_text.specs.Entries.{answered, asked, told_shape, told, entry}
use Rattle.history_text.specs.Histories.{HasLine, line_of}
use Rattle.history_text.specs.Laws.{no_break, IsOneLine}
use Rattle.history_text.proofs.NumberLaws.{digits_in_word, errno_small, pid_small}
use Rattle.history_text.proofs.TextLaws.{plain_low}

abbrev pub Unbroken : List ℕ → Type 0
Unbroken bytes = list_all no_break bytes ≡ true

-- what is printed has no byte 10
pub record IsUnbroken {A : Type 0} (f : Format A) : Type 0 where
  pub holds : (x : A) → f.Fits x → Unbroken (f.printed x)

pub join : (xs ys : List ℕ) → Unbroken xs → Unbroken ys → Unbroken (xs ++ ys)
join xs ys one two = list_all-append no_break xs ys ∙ and_from (list_all no_break xs) (list_all no_break ys) one two

high : (b : ℕ) → 11 ≤ b → no_break b ≡ true
high b le =
    elim (cases_Bool (b == 10)) [
      | inl is ↦ let e = eqb-true b 10 is in absurd (omega (arith, le, e))
      | inr other ↦ ap not other
    ]

-- ---- words, numbers and texts

word_byte : (b : ℕ) → in_word b ≡ true → no_break b ≡ true
word_byte b goes =
    elim (cases_Bool (b == 10)) [
      | inl is ↦ let e : in_word 10 ≡ true = subst (λ c. in_word c ≡ true) (eqb-true b 10 is) goes in absurd cc
      | inr other ↦ ap not other
    ]

pub words_unbroken : (w : List ℕ) → list_all in_word w ≡ true → Unbroken w
words_unbroken [] all = refl
words_unbroken (b ∷ w) all =
    let both = and_parts (in_word b) (list_all in_word w) all in
    and_from (no_break b) (list_all no_break w) (word_byte b both.0) (words_unbroken w both.1)

pub decimal_unbroken : (n : ℕ) → n < 2 ^ 64 → Unbroken (decimal n)
decimal_unbroken n lt = words_unbroken (decimal n) (digits_in_word (decimal n) (decimal_is_IsNumeral n lt).0.1)

number64_unbroken : IsUnbroken number64
number64_unbroken = record { holds = decimal_unbroken }

pub number32_unbroken : IsUnbroken number32
number32_unbroken = record { holds = λ n lt. decimal_unbroken n (omega (arith, lt)) }

pub pid_unbroken : IsUnbroken pid
pid_unbroken = record { holds = λ n is. decimal_unbroken n (pid_small n is) }

errno_unbroken : IsUnbroken errno
errno_unbroken = record { holds = λ e given. decimal_unbroken (errno_number e) (let lt = errno_small e in omega (arith, lt)) }

digit_high : (d : ℕ) → no_break (hexadecimal d) ≡ true
digit_high d =
    elim (cases_lt d 10) [
      | inl small ↦ ap no_break (cond-true (ltb d 10) (48 + d) (87 + d) (lt-ltb d 10 small)) ∙ high (48 + d) (omega arith)
      | inr large ↦ ap no_break (cond-false (ltb d 10) (48 + d) (87 + d) (le-ltb d 10 large)) ∙ high (87 + d) (omega arith)
    ]

byte_unbroken : (b : ℕ) → Unbroken (quoted_byte b)
byte_unbroken b =
    elim (cases_Bool (is_plain b)) [
      | inl plain ↦
          let low = plain_low b plain in
          ap (list_all no_break) (cond-true (is_plain b) (b ∷ []) (92 ∷ hexadecimal (b / 16) ∷ hexadecimal (b % 16) ∷ []) plain)
          ∙ and_from (no_break b) true (high b (omega (arith, low))) refl
      | inr other ↦
          ap (list_all no_break) (cond-false (is_plain b) (b ∷ []) (92 ∷ hexadecimal (b / 16) ∷ hexadecimal (b % 16) ∷ []) other)
          ∙ and_from (no_break (hexadecimal (b / 16))) (list_all no_break (hexadecimal (b % 16) ∷ [])) (digit_high (b / 16)) (and_from (no_break (hexadecimal (b % 16))) true (digit_high (b % 16)) refl)
    ]

bytes_unbroken : (bytes : List ℕ) → Unbroken (flat_map quoted_byte bytes)
bytes_unbroken [] = refl
bytes_unbroken (b ∷ bytes) = join (quoted_byte b) (flat_map quoted_byte bytes) (byte_unbroken b) (bytes_unbroken bytes)

pub text_unbroken : IsUnbroken text
text_unbroken = record { holds = λ bytes small. join (flat_map quoted_byte bytes) (34 ∷ []) (bytes_unbroken bytes) refl }

-- ---- values one behind another

pub parted_unbroken : {A B : Type 0} (sign : List ℕ) {f : Format A} {g : Format B} → Unbroken sign → IsUnbroken f → IsUnbroken g → IsUnbroken (parted sign f g)
parted_unbroken sign {f = f} {g = g} plain one two = record {
  holds = λ p fits. join (f.printed p.0) (sign ++ g.printed p.1) (one.holds p.0 fits.0) (join sign (g.printed p.1) plain (two.holds p.1 fits.1));
}

pub then_unbroken : {A B : Type 0} {f : Format A} {g : Format B} → IsUnbroken f → IsUnbroken g → IsUnbroken (f then g)
then_unbroken one two = parted_unbroken (32 ∷ []) refl one two

followed_unbroken : {A : Type 0} (sign : List ℕ) {f : Format A} → Unbroken sign → IsUnbroken f → IsUnbroken (followed f sign)
followed_unbroken sign {f = f} plain one = record { holds = λ x fits. join (f.printed x) sign (one.holds x fits) plain }

pub form_unbroken : {A : Type 0} (name : List ℕ) {f : Format A} (x : A) → Unbroken name → IsUnbroken f → f.Fits x → Unbroken (name ++ 32 ∷ f.printed x)
form_unbroken name {f = f} x plain one fits = join name (32 ∷ f.printed x) plain (one.holds x fits)

-- ---- calls and replies

text_number_unbroken : IsUnbroken (text then number64)
text_number_unbroken = then_unbroken text_unbroken number64_unbroken

numbers_unbroken : IsUnbroken (number64 then number64)
numbers_unbroken = then_unbroken number64_unbroken number64_unbroken

number_text_unbroken : IsUnbroken (number64 then text)
number_text_unbroken = then_unbroken number64_unbroken text_unbroken

texts_unbroken : IsUnbroken (text then text)
texts_unbroken = then_unbroken text_unbroken text_unbroken

number_text_number_unbroken : IsUnbroken (number64 then text then number64)
number_text_number_unbroken = then_unbroken number64_unbroken (then_unbroken text_unbroken number64_unbroken)

numbers_text_unbroken : IsUnbroken (number64 then number64 then text)
numbers_text_unbroken = then_unbroken number64_unbroken (then_unbroken number64_unbroken text_unbroken)

call_unbroken : (c : Call) → (call_shape c).Fits → Unbroken (call_shape c).printed
call_unbroken (call.Print x) fits = form_unbroken (codes "print") x refl text_unbroken fits
call_unbroken (call.Exit x) fits = form_unbroken (codes "exit") x refl number64_unbroken fits
call_unbroken call.Getpid fits = refl
call_unbroken call.Getppid fits = refl
call_unbroken (call.Host x) fits = form_unbroken (codes "host") x refl number64_unbroken fits
call_unbroken call.Tick fits = refl
call_unbroken call.Fork fits = refl
call_unbroken (call.Exec x y) fits = form_unbroken (codes "exec") (x, y) refl text_number_unbroken fits
call_unbroken call.Wait fits = refl
call_unbroken (call.Kill x) fits = form_unbroken (codes "kill") x refl number64_unbroken fits
call_unbroken (call.OpenFile x y) fits = form_unbroken (codes "open") (x, y) refl text_number_unbroken fits
call_unbroken (call.Close x) fits = form_unbroken (codes "close") x refl number64_unbroken fits
call_unbroken (call.Dup x) fits = form_unbroken (codes "dup") x refl number64_unbroken fits
call_unbroken (call.Read x y) fits = form_unbroken (codes "read") (x, y) refl numbers_unbroken fits
call_unbroken (call.Write x y) fits = form_unbroken (codes "write") (x, y) refl number_text_unbroken fits
call_unbroken (call.Seek x y) fits = form_unbroken (codes "seek") (x, y) refl numbers_unbroken fits
call_unbroken (call.Size x) fits = form_unbroken (codes "size") x refl number64_unbroken fits
call_unbroken (call.Sync x) fits = form_unbroken (codes "sync") x refl number64_unbroken fits
call_unbroken (call.Stat x) fits = form_unbroken (codes "stat") x refl text_unbroken fits
call_unbroken (call.Mkdir x) fits = form_unbroken (codes "mkdir") x refl text_unbroken fits
call_unbroken (call.Rmdir x) fits = form_unbroken (codes "rmdir") x refl text_unbroken fits
call_unbroken (call.Unlink x) fits = form_unbroken (codes "unlink") x refl text_unbroken fits
call_unbroken (call.Rename x y) fits = form_unbroken (codes "rename") (x, y) refl texts_unbroken fits
call_unbroken (call.List x y) fits = form_unbroken (codes "list") (x, y) refl text_number_unbroken fits
call_unbroken (call.Chdir x) fits = form_unbroken (codes "chdir") x refl text_unbroken fits
call_unbroken (call.Migrate x) fits = form_unbroken (codes "migrate") x refl text_unbroken fits
call_unbroken (call.PdMake x) fits = form_unbroken (codes "pd_make") x refl text_unbroken fits
call_unbroken (call.PdGet x y) fits = form_unbroken (codes "pd_get") (x, y) refl numbers_unbroken fits
call_unbroken (call.PdPut x y z) fits = form_unbroken (codes "pd_put") (x, (y, z)) refl number_text_number_unbroken fits
call_unbroken (call.Ioctl x y z) fits = form_unbroken (codes "ioctl") (x, (y, z)) refl numbers_text_unbroken fits
call_unbroken (call.Rexec x y) fits = form_unbroken (codes "rexec") (x, y) refl texts_unbroken fits
call_unbroken (call.Refused x) fits = form_unbroken (codes "refused") x refl errno_unbroken fits
call_unbroken call.BadStep fits = refl

pub calls_unbroken : IsUnbroken call_format
calls_unbroken = record { holds = call_unbroken }

reply_unbroken : (r : Reply) → (reply_shape r).Fits → Unbroken (reply_shape r).printed
reply_unbroken (Value x y z) fits = form_unbroken (codes "ok") (x, (y, z)) refl numbers_text_unbroken fits
reply_unbroken (Error x) fits = form_unbroken (codes "err") x refl errno_unbroken fits

pub replies_unbroken : IsUnbroken reply_format
replies_unbroken = record { holds = reply_unbroken }

answered_unbroken : IsUnbroken answered
answered_unbroken = parted_unbroken (codes " -> ") refl calls_unbroken replies_unbroken

asked_unbroken : IsUnbroken asked
asked_unbroken = followed_unbroken (codes " -> -") refl calls_unbroken

-- ---- entries

told_unbroken : (p : Part) (c : Option Call) (r : Option Reply) → (told_shape p c r).Fits → Unbroken (told_shape p c r).printed
told_unbroken part.Whole (Some c) (Some r) fits = form_unbroken (codes "whole") (c, r) refl answered_unbroken fits
told_unbroken part.Whole (Some c) None fits = absurd fits
told_unbroken part.Whole None r fits = absurd fits
told_unbroken part.Ask (Some c) (Some r) fits = absurd fits
told_unbroken part.Ask (Some c) None fits = form_unbroken (codes "ask") c refl asked_unbroken fits
told_unbroken part.Ask None r fits = absurd fits
told_unbroken part.Done (Some c) (Some r) fits = form_unbroken (codes "done") (c, r) refl answered_unbroken fits
told_unbroken part.Done (Some c) None fits = absurd fits
told_unbroken part.Done None r fits = absurd fits
told_unbroken part.Death (Some c) r fits = absurd fits
told_unbroken part.Death None (Some r) fits = absurd fits
told_unbroken part.Death None None fits = refl

all_told_unbroken : IsUnbroken told
all_told_unbroken = record { holds = λ t fits. told_unbroken t.0 t.1.0 t.1.1 fits }

parts_unbroken : IsUnbroken (pid then number32 then told)
parts_unbroken = then_unbroken pid_unbroken (then_unbroken number32_unbroken all_told_unbroken)

pub entry_unbroken : IsUnbroken entry
entry_unbroken = record { holds = λ e fits. parts_unbroken.holds (e.pid, (e.number, (e.part, (e.call, e.reply)))) fits }

pub one_line : (e : Entry) → HasLine e → IsOneLine (line_of e)
one_line e has = record { front = entry.printed e; parts = refl; unbroken = entry_unbroken.holds e has }
