use Rattle.std.proofs.Common.{Some, sym, ◌∙◌}
use Rattle.sprite_ids.proofs.OnceLaws.{none_found, unchanged}
use Rattle.migrate_freeze.specs.Moves.{is_free}
use Rattle.migrate_freeze.proofs.MoveLaws.{put_first}
use Rattle.migrate_freeze.proofs.moves.note.Goals as goal

pub returns-in-None : goal.returns-in-None
returns-in-None c =
    sym (unchanged is_free (λ _. Some c.args.stream.now) c.args.moved.now (none_found is_free c.args.moved.now (sym c.free_place.ensures.first ∙ c.in-None.is)))

pub returns-in-Some : goal.returns-in-Some
returns-in-Some c =
    put_first c.args.stream.now c.args.moved.now c.in-Some.place (sym c.free_place.ensures.first ∙ c.in-Some.is)
