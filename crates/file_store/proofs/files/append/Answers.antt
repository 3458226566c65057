use Rattle.std.proofs.Common.{◌<◌, List, ℕ, [], ◌∷◌, ◌++◌, length, arith, ap, ◌∙◌}
use Rattle.lru.specs.LruCache.{LruCache, demoted}
use Rattle.sprite_ids.specs.declared.FileId.{FileId}
use Rattle.file_store.specs.Files.{is_file}
use Rattle.file_store.proofs.LengthLaws.{none_by}
use Rattle.file_store.proofs.ListLaws.{put_last}
use Rattle.file_store.proofs.files.append.Goals as goal

pub returns-clause-ok : goal.returns-clause-ok
returns-clause-ok c =
    let list = c.args.list.now in
    let file = c.args.file.now in
    let here : length list.entries < list.cap = omega arith in
    ap (λ (l : LruCache FileId (List ℕ)). l.entries) c.demote.ensures.entries ∙ ap (λ (l : LruCache FileId (List ℕ)). demoted (is_file file) l.entries) c.in_ok-put.ensures.entries ∙ put_last list file c.new.result here (none_by list.entries file c.requires) ∙ ap (λ (bytes : List ℕ). list.entries ++ (file, bytes) ∷ []) c.new.ensures
