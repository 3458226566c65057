use Rattle.std.proofs.Common.{sym, ap, subst, ◌∙◌, ◌≤◌, ◌^◌}
use Rattle.lru.specs.LruCache.{LruCache}
use Rattle.write_delay.specs.declared.delayed_block.DelayedBlock.{DelayedBlock}
use Rattle.write_delay.specs.Delays.{is_of, Falls}
use Rattle.write_delay.proofs.DelayLaws.{removed, falls_without}
use Rattle.write_delay.proofs.delays.Delays.cleaned.Goals as goal

pub invariant_of-self : goal.invariant_of-self
invariant_of-self c =
    let block : DelayedBlock = record { file = c.args.file; block = c.args.block } in
    let old = c.self.inside.blocks in
    let entries = removed block old.entries c.len.ensures.valid.0 in
    let new = c.pop-step.ensures.entries in (
      subst (λ (cache : LruCache _ _). 2 ^ 63 ≤ cache.cap) (sym new) c.self.invariant.0,
      λ on. subst (λ (cache : LruCache _ _). Falls cache.entries) (sym new) (subst Falls (sym entries) (falls_without (is_of c.args.file c.args.block) old.entries (c.self.invariant.1 on))),
    )

pub returns : goal.returns
returns c =
    let block : DelayedBlock = record { file = c.args.file; block = c.args.block } in
    let old = c.self.inside.blocks in
    rw (← c.self.view_is) (ap (λ (cache : LruCache _ _). cache.entries) c.pop-step.ensures.entries ∙ removed block old.entries c.len.ensures.valid.0)
