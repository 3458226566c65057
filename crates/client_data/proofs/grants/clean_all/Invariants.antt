use Rattle.std.proofs.Common.{◌≡◌, drop}
use Rattle.client_data.specs.Grants.{cleans_all}
use Rattle.client_data.proofs.grants.clean_all.Given as goal

abbrev pub invariant-loop-block : goal.invariant-loop-block
invariant-loop-block l = cleans_all l.file (drop l.block-index l.blocks) l.files ≡ cleans_all l.file l.blocks l.fn.files
