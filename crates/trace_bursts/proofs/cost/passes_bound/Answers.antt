use Rattle.std.proofs.Common.{◌≡◌, Bool, IfOk, List, sym, subst}
use Rattle.unix_calls.specs.declared.state.Process.{Process}
use Rattle.unix_world.specs.Worlds.{unix_of}
use Rattle.trace_bursts.specs.Behind.{is_in}
use Rattle.trace_bursts.specs.Costs.{ways_pass}
use Rattle.trace_bursts.proofs.CostLaws.{passes_is}
use Rattle.trace_bursts.proofs.cost.passes_bound.Goals as goal

pub returns : goal.returns
returns c =
    let behind = c.in_ok-behind.behind in
    let end = c.args.end.now in
    let same = passes_is c.args.c.now c.args.most c.args.trace.now (unix_of c.args.c.now end.world end.processes) end.cost c.in_ok-sum.sum behind c.requires.leads.leads c.requires.leads.cost_is c.in_ok-behind.ensures c.in_ok-sum.ensures in
    let passes = subst (λ (qs : List Process). IfOk c.ways_pass.result (λ (b : Bool). b ≡ ways_pass c.args.c.now (is_in behind.issued.keys) c.args.most c.in_ok-sum.sum qs)) c.as_slice.ensures c.ways_pass.ensures in
    subst (λ (b : Bool). IfOk c.ways_pass.result (λ (kept : Bool). kept ≡ b)) (sym same) passes
