use Rattle.std.specs.List.{flat_map}
use Rattle.picture_print.specs.Svg.{all_marks, mark_text}
use Rattle.picture_print.proofs.FormLaws.{within_marks}
use Rattle.picture_print.proofs.printing.put_marks.Goals as goal

pub returns : goal.returns
returns c = within_marks c.args.out.now.items _ _ _ (flat_map mark_text all_marks) c.in_ok-extend_from_slice.ensures.items c.in_ok-put_each_mark.ensures c.in_ok-extend_from_slice-2.ensures.items
