use Rattle.std.proofs.Common.{Some, None, Option, ◌≡◌, true, IfSome, IsTrue, ap, ◌∙◌}
use Rattle.stream_table.specs.declared.stream.Stream.{Stream}
use Rattle.stream_table.specs.Entries.{entries_in, is_of, is_placed, is_placed_in}
use Rattle.stream_table.proofs.FoundLaws.{placed_found}
use Rattle.stream_table.proofs.streams.Streams.stream.Goals as goal

if_placed : (o : Option Stream) → is_placed_in o ≡ true → IfSome o (λ stream. IsTrue (is_placed stream))
if_placed (Some s) h = h
if_placed None h = tt

pub returns-clause-placed : goal.returns-clause-placed
returns-clause-placed c =
    if_placed c.stream_of.result (ap is_placed_in c.stream_of.ensures ∙ placed_found (is_of c.args.number) (entries_in c.self.inside.entries.entries) c.self.invariant.are_placed)
