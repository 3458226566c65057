use Rattle.std.proofs.Common.{List, ℕ, ap, ◌∙◌}
use Rattle.lru.specs.LruCache.{LruCache}
use Rattle.sprite_ids.specs.declared.FileId.{FileId}
use Rattle.file_store.proofs.ListLaws.{removed_once}
use Rattle.file_store.proofs.files.take_out.Goals as goal

pub returns : goal.returns
returns c = ap (λ (l : LruCache FileId (List ℕ)). l.entries) c.pop.ensures.entries ∙ removed_once c.args.file.now c.args.list.now.entries c.len-length.ensures.valid.0
