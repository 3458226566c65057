use Rattle.std.proofs.Common.{ℕ, sym, ◌∙◌}
use Rattle.std.proofs.lemmas.Result.{IfOk-weaker}
use Rattle.unix_world.specs.declared.World.{World}
use Rattle.unix_world.specs.Worlds.{unix_of}
use Rattle.run_judge.specs.declared.judged.JudgedRun.{JudgedRun}
use Rattle.run_judge.specs.Judged.{EndsWell, JudgesTo}
use Rattle.run_judge.proofs.EndLaws.{has_free}
use Rattle.run_judge.proofs.judging.judge_end.Goals as goal

pub returns-in-Good : goal.returns-in-Good
returns-in-Good c =
    let d = c.args.c.now in
    let most = c.args.most in
    let trace = c.args.trace.now in
    let finish = c.args.finish in
    let u = unix_of d c.args.world.now c.args.ps.now in
    let well : EndsWell d most trace finish u = record {
      is_legal = c.requires.legal;
      once = c.requires.once;
      for_cause = c.requires.for_cause;
      stands = sym c.in_ok-end_of.ensures ∙ c.in-Good.is;
    } in
    IfOk-weaker c.judge_rules.result (λ (judged : JudgedRun). (n : ℕ) (w : World) → EndsWell d n trace finish (unix_of d w c.args.ps.now) → JudgesTo d n trace finish judged) (JudgesTo d most trace finish) (λ judged so. so most c.args.world.now well) c.judge_rules.ensures

pub returns-in-Free : goal.returns-in-Free
returns-in-Free c =
    let d = c.args.c.now in
    let u = unix_of d c.args.world.now c.args.ps.now in
    let stands = sym c.in_ok-end_of.ensures ∙ c.in-Free.is in
    record {
      state = u;
      is_legal = c.requires.legal;
      once = c.requires.once;
      for_cause = c.requires.for_cause;
      stands = stands;
      besides = has_free d c.args.most u c.args.finish stands;
    }
