use Rattle.std.proofs.Common.{rules, ◌≡◌, ◌++◌, ◌+◌, sym, ap, subst, ◌∙◌}
use Rattle.std.specs.List.{AllByRecursion}
use Rattle.field_reader.specs.Reads.{Fails}
use Rattle.history_text.specs.Entries.{entry, entry_line}
use Rattle.history_text.specs.Histories.{HasLine, history_of}
use Rattle.history_text.specs.Listings.{is_end}
use Rattle.history_text.proofs.EntryLaws.{entry_is}
use Rattle.history_text.proofs.ListingLaws.{shorter, parts_on, lines_on, none_stands}
use Rattle.history_text.proofs.history.read_history.Goals as goal

pub loop-from-smaller : goal.loop-from-smaller
loop-from-smaller c = shorter entry entry_is c.loop-from.from c.in-Ok.entry c.read_line.new.from c.in-Ok.ensures

pub loop-from-preserved : goal.loop-from-preserved
loop-from-preserved c =
    let grown = c.in_ok-push-in-Ok.ensures.items in
    record {
      parts = subst (λ es. c.args.text.now ≡ history_of es ++ c.read_line.new.from) (sym grown) (parts_on entry entry_is c.args.text.now c.loop-from.from c.loop-from.entries.items c.in-Ok.entry c.read_line.new.from c.loop-from.invariant.parts c.in-Ok.ensures);
      have_lines = subst (AllByRecursion HasLine) (sym grown) (lines_on entry entry_is c.loop-from.from c.loop-from.entries.items c.in-Ok.entry c.read_line.new.from c.loop-from.invariant.have_lines c.in-Ok.ensures);
    }

pub returns-in-Err-NotSpelled-clause-err : goal.returns-in-Err-NotSpelled-clause-err
returns-in-Err-NotSpelled-clause-err c = record {
  items = c.loop-from.entries.items;
  rest = c.loop-from.from;
  parts = c.loop-from.invariant.parts;
  have_lines = c.loop-from.invariant.have_lines;
  counted = ap (λ n. n + 1) (c.len.ensures ∙ search rules);
  bad = none_stands entry entry_is c.loop-from.from (subst (λ end. Fails end (entry_line.read c.loop-from.from)) c.in-Err-NotSpelled.field-0-is c.in-Err-NotSpelled.ensures);
  goes_on = ap is_end (sym c.rest.ensures) ∙ sym c.is_end.ensures ∙ c.loop-from-test.true;
}
