-- A frozen process of which one stream moves.
use Rattle.stream_table.specs.declared.Carried.{Carried}
use Rattle.migrate_freeze.specs.declared.freeze.Freeze.{Freeze}

-- a frozen process, of which the stream of that descriptor moves
pub record OneMove : Type 0 where
  pub freeze : Freeze
  pub item : Carried
