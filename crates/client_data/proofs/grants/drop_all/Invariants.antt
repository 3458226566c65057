use Rattle.std.proofs.Common.{◌≡◌, drop}
use Rattle.client_data.specs.Grants.{drops_all}
use Rattle.client_data.proofs.grants.drop_all.Given as goal

abbrev pub invariant-loop-block : goal.invariant-loop-block
invariant-loop-block l = drops_all l.file (drop l.block-index l.blocks) l.cause l.files ≡ drops_all l.file l.blocks l.cause l.fn.files
