use Rattle.std.proofs.Common.{rules, ◌≡◌, ◌+◌, ◌-◌, arith, sym, ap, ◌∙◌}
use Rattle.block_cache.specs.Files.{Files, known, one_high, high_of}
use Rattle.block_cache.proofs.HighLaws.{known_counts, high_put}
use Rattle.block_cache.proofs.file_table.FileTable.put.Goals as goal

pub overflow_sub-others : goal.overflow_sub-others
overflow_sub-others c =
    let files = c.self.inside.states.entries in
    let file = c.args.file.now in
    let was : c.high.result ≡ one_high (known files file) = c.high.ensures ∙ ap one_high (c.known.ensures ∙ ap (λ (f : Files). known f file) (sym c.self.view_is)) in
    omega (arith, was, c.self.invariant, known_counts files file)

pub invariant_of-self-2 : goal.invariant_of-self-2
invariant_of-self-2 c =
    let files = c.self.inside.states.entries in
    let file = c.args.file.now in
    let was : c.high.result ≡ one_high (known files file) = c.high.ensures ∙ ap one_high (c.known.ensures ∙ ap (λ (f : Files). known f file) (sym c.self.view_is)) in
    let is = ap high_of c.in_ok-insert.ensures.entries in
    let sum : c.in_ok-high.high ≡ (c.self.inside.high - c.high.result) + c.high-2.result = search rules in
    let more = high_put files file c.args.state in
    omega (arith, sum, was, is, c.high-2.ensures, c.self.invariant, known_counts files file, more)
