use Rattle.std.proofs.Common.{◌≡◌, List, ◌++◌, ◌+◌, length, sym, ap, subst, ◌∙◌}
use Rattle.std.specs.List.{AllByRecursion}
use Rattle.unix_calls.specs.declared.event.Rec.{Rec}
use Rattle.field_reader.specs.Reads.{Fails}
use Rattle.history_text.specs.Listings.{is_end}
use Rattle.history_text.proofs.ListingLaws.{shorter, parts_on, lines_on, none_stands}
use Rattle.trace_text.specs.Traces.{HasLine, record_format, record_line, trace_of}
use Rattle.trace_text.proofs.EventLaws.{record_is}
use Rattle.trace_text.proofs.trace.read_trace.Goals as goal

pub loop-from-smaller : goal.loop-from-smaller
loop-from-smaller c = shorter record_format record_is c.loop-from.from c.in-Ok.rec c.read_line.new.from c.in-Ok.ensures

pub loop-from-preserved : goal.loop-from-preserved
loop-from-preserved c =
    let grown = c.in_ok-push-in-Ok.ensures.ok in
    record {
      parts = subst (λ rs. c.args.text.now ≡ trace_of rs ++ c.read_line.new.from) (sym grown) (parts_on record_format record_is c.args.text.now c.loop-from.from c.loop-from.trace c.in-Ok.rec c.read_line.new.from c.loop-from.invariant.parts c.in-Ok.ensures);
      have_lines = subst (AllByRecursion HasLine) (sym grown) (lines_on record_format record_is c.loop-from.from c.loop-from.trace c.in-Ok.rec c.read_line.new.from c.loop-from.invariant.have_lines c.in-Ok.ensures);
    }

pub returns-in-Err-NotSpelled-clause-err : goal.returns-in-Err-NotSpelled-clause-err
returns-in-Err-NotSpelled-clause-err c = record {
  items = c.loop-from.trace;
  rest = c.loop-from.from;
  parts = c.loop-from.invariant.parts;
  have_lines = c.loop-from.invariant.have_lines;
  counted = ap (λ (rs : List Rec). length rs + 1) c.records.ensures;
  bad = none_stands record_format record_is c.loop-from.from (subst (λ end. Fails end (record_line.read c.loop-from.from)) c.in-Err-NotSpelled.field-0-is c.in-Err-NotSpelled.ensures);
  goes_on = ap is_end (sym c.rest.ensures) ∙ sym c.is_end.ensures ∙ c.loop-from-test.true;
}
