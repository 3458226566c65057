use Rattle.std.proofs.Common.{◌+◌, drop, get_or, ap, sym, ◌∙◌}
use Rattle.std.proofs.lemmas.List.{at_drop_all, drop_more}
use Rattle.std.specs.List.{list_all}
use Rattle.sprite_words.specs.Words.{is_digit, value_from}
use Rattle.sprite_words.proofs.WordLaws.{no_next}
use Rattle.sprite_words.proofs.number.value_of.Goals as goal

pub returns-in-None : goal.returns-in-None
returns-in-None c =
    (let next = drop_more c.args.digits.now c.loop-digit.digit-index 0 c.loop-digit-test.true in
    no_next c.loop-digit.value (get_or c.args.digits.now c.loop-digit.digit-index 0) (drop (c.loop-digit.digit-index + 1) c.args.digits.now) c.args.digits.now (c.loop-digit.invariant.0 ∙ ap (list_all is_digit) next) (sym (ap (value_from c.loop-digit.value) next) ∙ c.loop-digit.invariant.1) c.in-None.ensures)

pub returns : goal.returns
returns c = record {
  are_digits = c.loop-digit.invariant.0 ∙ at_drop_all (list_all is_digit) c.args.digits.now c.loop-digit.digit-index c.loop-digit-test.false;
  is = sym (at_drop_all (value_from c.loop-digit.value) c.args.digits.now c.loop-digit.digit-index c.loop-digit-test.false) ∙ c.loop-digit.invariant.1;
  fits = c.loop-digit.invariant.2;
}
