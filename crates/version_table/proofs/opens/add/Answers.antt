use Rattle.std.proofs.Common.{ℕ, ◌+◌, sym, ap, ◌∙◌, arith}
use Rattle.version_table.specs.declared.opens.Open.{Open}
use Rattle.sprite_ids.specs.Lists.{put}
use Rattle.version_table.specs.Opens.{is_at}
use Rattle.sprite_ids.proofs.OnceLaws.{put_here}
use Rattle.version_table.proofs.OpenLaws.{count_few, put_end}
use Rattle.version_table.proofs.opens.add.Goals as goal

pub overflow_add-count : goal.overflow_add-count
overflow_add-count c =
    let few = count_few c.args.opens.now c.args.stream.now c.args.kernel c.requires in
    omega (arith, few, c.count_of-count.ensures)

pub returns-in-Some-clause-ok : goal.returns-in-Some-clause-ok
returns-in-Some-clause-ok c =
    let p = is_at c.args.stream.now c.args.kernel in
    let new : ℕ → Open = λ count. record { stream = c.args.stream.now; kernel = c.args.kernel; mode = c.args.mode; count = count + 1 } in
    c.replace.ensures.list ∙ put_here p (new c.count_of-count.result) c.args.opens.now c.in-Some.at c.replace.result (sym c.place_of.ensures ∙ c.in-Some.is) ∙ ap (λ count. put p (new count) c.args.opens.now) c.count_of-count.ensures

pub returns-in_ok-append-in-None-clause-ok : goal.returns-in_ok-append-in-None-clause-ok
returns-in_ok-append-in-None-clause-ok c =
    let p = is_at c.args.stream.now c.args.kernel in
    let new : ℕ → Open = λ count. record { stream = c.args.stream.now; kernel = c.args.kernel; mode = c.args.mode; count = count + 1 } in
    c.in_ok-append-in-None.ensures.ok ∙ sym (put_end p (new c.count_of-count.result) c.args.opens.now (sym c.place_of.ensures ∙ c.in-None.is)) ∙ ap (λ count. put p (new count) c.args.opens.now) c.count_of-count.ensures
