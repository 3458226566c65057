use Rattle.std.proofs.Common.{◌∙◌, Bool, sym, subst, ◌≡◌}
use Rattle.std.specs.Prelude.{IfOk}
use Rattle.trace_forms.proofs.PartLaws.{breaks_packets, breaks_uses, left_to_entries}
use Rattle.trace_forms.proofs.forms.formed.Goals as goal

pub returns-then-not-branch : goal.returns-then-not-branch
returns-then-not-branch c =
    breaks_packets c.args.c.now c.args.trace.now (sym c.in_ok-packets_are_formed.ensures ∙ c.if-not-branch.true)

pub returns-then-not-branch-2 : goal.returns-then-not-branch-2
returns-then-not-branch-2 c =
    breaks_uses c.args.c.now c.args.trace.now (sym c.in_ok-packets_are_formed.ensures ∙ c.if-not-branch.false) (sym c.in_ok-uses_are_formed.ensures ∙ c.if-not-branch-2.true)

pub returns : goal.returns
returns c =
    let packets = sym c.in_ok-packets_are_formed.ensures ∙ c.if-not-branch.false in
    let uses = sym c.in_ok-uses_are_formed.ensures ∙ c.if-not-branch-2.false in
    subst (λ (b : Bool). IfOk c.entries_are_formed.result (λ kept. kept ≡ b)) (left_to_entries c.args.c.now c.args.trace.now packets uses) c.entries_are_formed.ensures
