use Rattle.std.proofs.Common.{◌<◌, length, arith, ap, ◌∙◌}
use Rattle.lru.specs.LruCache.{LruCache, demoted}
use Rattle.sprite_ids.specs.declared.FileId.{FileId}
use Rattle.version_table.specs.declared.versioned.Versioned.{Versioned}
use Rattle.version_table.specs.Versions.{is_file}
use Rattle.version_table.proofs.ListLaws.{put_last}
use Rattle.version_table.proofs.files.append.Goals as goal

pub returns-clause-ok : goal.returns-clause-ok
returns-clause-ok c =
    let list = c.args.list.now in
    let here : length list.entries < list.cap = omega arith in
    ap (λ (l : LruCache FileId Versioned). l.entries) c.demote.ensures.entries ∙ ap (λ (l : LruCache FileId Versioned). demoted (is_file c.args.file.now) l.entries) c.in_ok-put.ensures.entries ∙ put_last list c.args.file.now c.args.versioned here c.requires
