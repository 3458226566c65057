-- Entries are read as they were printed.
use Rattle.std.proofs.Common.{◌≡◌, ℕ, true, List, ◌++◌, Option, Some, None, refl, ap}
use Rattle.std.specs.Prelude.{codes}
use Rattle.std.specs.List.{AllByRecursion}
use Rattle.process_machine.specs.declared.call.Call.{Call}
use Rattle.process_machine.specs.declared.call.Reply.{Reply}
use Rattle.unix_calls.specs.declared.entry.Part.{Part}
use Rattle.unix_calls.specs.declared.entry.Part.TheVariants as part
use Rattle.field_reader.specs.Reads.{found, made, ends_word}
use Rattle.history_text.specs.Formats.{IsFormat}
use Rattle.history_text.specs.Entries.{answered, asked, Told, told_shape, told_rows, told, entry}
use Rattle.history_text.proofs.FormatLaws.{EndsWords, parted_is, then_is, followed_is, made_of_is, named_is, name_again, IsRow, row_is, bare_row_is}
use Rattle.history_text.proofs.NumberLaws.{number32_is, pid_is}
use Rattle.history_text.proofs.CallLaws.{call_is, reply_is}
use Rattle.history_text.proofs.ListingLaws.{ReadsNoEnd}

arrow_ends : EndsWords (codes " -> ")
arrow_ends rest = refl

dash_ends : EndsWords (codes " -> -")
dash_ends rest = refl

answered_is : IsFormat answered
answered_is = parted_is (codes " -> ") arrow_ends call_is reply_is

asked_is : IsFormat asked
asked_is = followed_is (codes " -> -") dash_ends call_is

told_again : (p : Part) (c : Option Call) (r : Option Reply) (rest : List ℕ) → (told_shape p c r).Fits → ends_word rest ≡ true → told.read ((told_shape p c r).printed ++ rest) ≡ found {A = Told} (p, (c, r)) rest
told_again part.Whole (Some c) (Some r) rest fits ends = ap (made {B = Told} (λ p. (part.Whole, (Some p.0, Some p.1)))) (answered_is.again (c, r) rest fits ends)
told_again part.Whole (Some c) None rest fits ends = absurd fits
told_again part.Whole None r rest fits ends = absurd fits
told_again part.Ask (Some c) (Some r) rest fits ends = absurd fits
told_again part.Ask (Some c) None rest fits ends = ap (made {B = Told} (λ call. (part.Ask, (Some call, None)))) (asked_is.again c rest fits ends)
told_again part.Ask None r rest fits ends = absurd fits
told_again part.Done (Some c) (Some r) rest fits ends = ap (made {B = Told} (λ p. (part.Done, (Some p.0, Some p.1)))) (answered_is.again (c, r) rest fits ends)
told_again part.Done (Some c) None rest fits ends = absurd fits
told_again part.Done None r rest fits ends = absurd fits
told_again part.Death (Some c) r rest fits ends = absurd fits
told_again part.Death None (Some r) rest fits ends = absurd fits
told_again part.Death None None rest fits ends = name_again told_rows (codes "death") rest refl ends

told_rows_are : AllByRecursion (IsRow (λ (t : Told). told_shape t.0 t.1.0 t.1.1)) told_rows
told_rows_are = (
  row_is (λ t. told_shape t.0 t.1.0 t.1.1) (codes "whole") answered_is (λ p. (part.Whole, (Some p.0, Some p.1))) (λ x. refl) (λ x h. h),
  (
    row_is (λ t. told_shape t.0 t.1.0 t.1.1) (codes "ask") asked_is (λ call. (part.Ask, (Some call, None))) (λ x. refl) (λ x h. h),
    (
      row_is (λ t. told_shape t.0 t.1.0 t.1.1) (codes "done") answered_is (λ p. (part.Done, (Some p.0, Some p.1))) (λ x. refl) (λ x h. h),
      (bare_row_is (λ t. told_shape t.0 t.1.0 t.1.1) (codes "death") (part.Death, (None, None)) refl tt, tt),
    ),
  ),
)

told_is : IsFormat told
told_is = named_is (λ t. told_shape t.0 t.1.0 t.1.1) told_rows (λ t rest fits ends. told_again t.0 t.1.0 t.1.1 rest fits ends) told_rows_are

pub entry_is : IsFormat entry
entry_is = made_of_is (then_is pid_is (then_is number32_is told_is))
    (λ p. record { pid = p.0; number = p.1.0; part = p.1.1.0; call = p.1.1.1.0; reply = p.1.1.1.1 })
    (λ e. (e.pid, (e.number, (e.part, (e.call, e.reply)))))
    (λ e. refl) (λ p. refl)

-- no entry is read where a history may end
pub no_entry_ends : ReadsNoEnd entry
no_entry_ends = record { nothing = refl; budget = refl; stalled = refl }
