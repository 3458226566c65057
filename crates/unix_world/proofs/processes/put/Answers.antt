use Rattle.std.proofs.Common.{ℕ, List, ◌≤◌, true, false, length, slice_get, sym, ap, subst, ◌∙◌, arith}
use Rattle.unix_calls.specs.declared.state.Process.{Process}
use Rattle.unix_calls.specs.Lawful.{holds}
use Rattle.unix_world.proofs.BootLaws.{has_pid, place, place_inside, put_at}
use Rattle.unix_world.proofs.processes.put.Goals as goal

pub returns-then-is_at : goal.returns-then-is_at
returns-then-is_at c =
    let r = c.args.process in
    let ps = c.args.processes.now in
    let at = c.place_for-at.result in
    let here = c.place_for-at.ensures ∙ ap (place r.pid) c.as_slice.ensures in
    let has = c.is_at.ensures ∙ ap (λ (qs : List Process). holds (has_pid r.pid) (slice_get qs at)) c.as_slice-2.ensures in
    c.replace-before.ensures.list ∙ sym (put_at r ps at true here (sym has ∙ c.if-is_at.true))

pub insert-requires : goal.insert-requires
insert-requires c =
    let ps = c.args.processes.now in
    let here = c.place_for-at.ensures ∙ ap (place c.args.process.pid) c.as_slice.ensures in
    let items = c.into_vec-list.ensures ∙ c.replace.ensures.value in
    let within = subst (λ (l : List Process). c.place_for-at.result ≤ length l) (sym items) (subst (λ (n : ℕ). n ≤ length ps) (sym here) (place_inside c.args.process.pid ps)) in
    omega (arith, within, c.into_vec-list.result.ok)

pub returns : goal.returns
returns c =
    let r = c.args.process in
    let ps = c.args.processes.now in
    let at = c.place_for-at.result in
    let here = c.place_for-at.ensures ∙ ap (place r.pid) c.as_slice.ensures in
    let has = c.is_at.ensures ∙ ap (λ (qs : List Process). holds (has_pid r.pid) (slice_get qs at)) c.as_slice-2.ensures in
    rw (c.of_vec.ensures, c.in_ok-insert.ensures.items, c.into_vec-list.ensures, c.replace.ensures.value) (sym (put_at r ps at false here (sym has ∙ c.if-is_at.false)))
