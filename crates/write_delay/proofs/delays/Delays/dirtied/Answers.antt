use Rattle.std.proofs.Common.{◌≡◌, ◌≤◌, ◌^◌, rules, true, sym, ap, subst, ◌∙◌, arith}
use Rattle.std.specs.Map.{lookup}
use Rattle.lru.specs.LruCache.{LruCache}
use Rattle.write_delay.specs.declared.delayed_block.DelayedBlock.{DelayedBlock}
use Rattle.write_delay.specs.Delays.{is_block, Falls, FallsFrom}
use Rattle.write_delay.proofs.DelayLaws.{put_first, found_any, falls_empty, falls_dirtied, absent_of, on_err}
use Rattle.write_delay.proofs.delays.Delays.dirtied.Goals as goal
use Rattle.write_delay.proofs.delays.Delays.dirtied.Goals.{then-len-eq0, else-len-eq0}

pub returns-in_err-put-clause-absent : goal.returns-in_err-put-clause-absent
returns-in_err-put-clause-absent c =
    let block : DelayedBlock = record { file = c.args.file; block = c.args.block } in
    let old = c.self.inside.blocks in
    let absent = absent_of c.put.result c.in_err-put.field-0.0 (lookup (is_block block) old.entries) c.put.ensures.succeeds c.in_err-put.was in
    on_err c.from_residual.result (rw (← c.self.view_is) (sym (found_any block old.entries) ∙ absent))

pub invariant_of-self-2 : goal.invariant_of-self-2
invariant_of-self-2 c =
    let block : DelayedBlock = record { file = c.args.file; block = c.args.block } in
    let old = c.self.inside.blocks in
    let put = put_first old block c.args.step c.len.ensures.valid.0 (omega (arith, c.len.ensures.fits, c.len.ensures.len, c.self.invariant.0)) in
    let new = c.in_ok-put.ensures.entries in
    let from : c.if-len-eq0.in_order ≡ true → FallsFrom c.args.step old.entries = λ on. elim c.if-len-eq0.branch [
      | then-len-eq0 w ↦ falls_empty old.entries c.args.step (sym c.len.ensures.len ∙ w.if-len-eq0.true)
      | else-len-eq0 w ↦ subst (FallsFrom c.args.step) (sym c.self.view_is) (w.is_followed_by-in_order.ensures (search (rules, on, w.in_order-is)))
    ] in (
      subst (λ (cache : LruCache _ _). 2 ^ 63 ≤ cache.cap) (sym new) c.self.invariant.0,
      λ on. subst (λ (cache : LruCache _ _). Falls cache.entries) (sym new) (subst Falls (sym put) (falls_dirtied block c.args.step old.entries (from on))),
    )

pub returns-clause-ok : goal.returns-clause-ok
returns-clause-ok c =
    let block : DelayedBlock = record { file = c.args.file; block = c.args.block } in
    let old = c.self.inside.blocks in
    let put = put_first old block c.args.step c.len.ensures.valid.0 (omega (arith, c.len.ensures.fits, c.len.ensures.len, c.self.invariant.0)) in
    rw (← c.self.view_is) (ap (λ (cache : LruCache _ _). cache.entries) c.in_ok-put.ensures.entries ∙ put)
