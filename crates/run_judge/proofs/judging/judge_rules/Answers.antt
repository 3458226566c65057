use Rattle.std.proofs.Common.{◌≡◌, List, Option, Some, None, ap, subst, sym, ◌∙◌}
use Rattle.unix_calls.specs.declared.event.Rec.{Rec}
use Rattle.trace_judge.specs.Rules.{first_broken}
use Rattle.unix_calls.specs.State.{Unix}
use Rattle.unix_calls.specs.Output.{output_in}
use Rattle.report_print.specs.Summaries.{tally_in}
use Rattle.unix_world.specs.Worlds.{unix_of}
use Rattle.trace_judge.proofs.KeepingLaws.{none_broken}
use Rattle.run_judge.proofs.EndLaws.{ends_as}
use Rattle.run_judge.proofs.judging.judge_rules.Goals as goal

pub returns-in_ok-output-in-None : goal.returns-in_ok-output-in-None
returns-in_ok-output-in-None c = λ most world well.
    let d = c.args.c.now in
    let u = unix_of d world c.args.ps.now in
    record {
      state = u;
      is_legal = well.is_legal;
      once = well.once;
      for_cause = well.for_cause;
      stands = well.stands;
      ends = ends_as d most u c.args.finish well.stands;
      rules = none_broken d c.args.trace.now (subst (λ (trace : List Rec). first_broken d trace ≡ None) c.records.ensures (sym c.in_ok-rule.ensures ∙ c.in-None.is));
      output_is = c.of_vec-output.ensures ∙ c.in_ok-output-in-None.ensures ∙ ap (λ (o : Option Unix). output_in d o c.args.finish) (sym well.is_legal.leads);
      tally_is = c.in_ok-tally-in-None.ensures ∙ ap tally_in (sym well.is_legal.leads);
    }

pub returns-in-Some : goal.returns-in-Some
returns-in-Some c = λ most world well. record {
  state = unix_of c.args.c.now world c.args.ps.now;
  is_legal = well.is_legal;
  once = well.once;
  for_cause = well.for_cause;
  stands = well.stands;
  besides = subst (λ (trace : List Rec). first_broken c.args.c.now trace ≡ Some c.in-Some.rule) c.records.ensures (sym c.in_ok-rule.ensures ∙ c.in-Some.is);
}
