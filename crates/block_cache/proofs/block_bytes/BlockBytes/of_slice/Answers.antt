use Rattle.std.proofs.Common.{◌-◌, ◌++◌, take, replicate, ap, ◌∙◌}
use Rattle.std.proofs.lemmas.List.{take_all}
use Rattle.std.specs.Vec.{vec_len}
use Rattle.block_cache.proofs.block_bytes.BlockBytes.of_slice.Goals as goal

pub returns : goal.returns
returns c =
    let bytes = c.args.bytes.now in
    let all = ap (take 4096) c.in_ok-items.ensures.items ∙ take_all 4096 bytes c.requires in
    c.in_ok-resize.ensures.items ∙ ap (λ xs. xs ++ replicate (4096 - vec_len c.in_ok-items.items) 0) all ∙ ap (λ n. bytes ++ replicate (4096 - n) 0) c.in_ok-items.ensures.len
