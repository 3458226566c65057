use Rattle.std.proofs.Common.{Option, refl, sym, subst, arith}
use Rattle.process_machine.specs.declared.call.Call.{Call}
use Rattle.unix_calls.specs.After.{after_living}
use Rattle.unix_world.specs.Worlds.{unix_of}
use Rattle.one_kernel.specs.Verdicts.{way_at}
use Rattle.one_kernel.specs.declared.applying.Applied.{Applied}
use Rattle.one_kernel.specs.Applied.{Applies, applied_by, dies}
use Rattle.one_kernel.proofs.ApplyLaws.{by_made}
use Rattle.one_kernel.proofs.applying.apply_living.Goals as goal

pub returns-in-None : goal.returns-in-None
returns-in-None c =
    let d = c.args.c.now in
    let e = c.args.entry.now in
    let w = c.args.world.now in
    let ps = c.args.ps.now in
    record {
      applies = λ p there.
          subst (λ (a : Applied). Applies d c.args.left (way_at d p e.call) (after_living d (unix_of d w ps) p e e.call) a w c.enter_death.new.ps) (sym c.applied_by.ensures)
          (subst (λ (o : Option Call). Applies d c.args.left (way_at d p o) (after_living d (unix_of d w ps) p e o) (applied_by c.enter_death.result 0) w c.enter_death.new.ps) (sym c.in-None.is)
          (by_made d c.args.left 0 0 (dies e (unix_of d w ps) p) c.enter_death.result w c.enter_death.new.ps refl (omega arith) (c.enter_death.ensures.tells d w p there) c.enter_death.ensures.ascends));
    }
