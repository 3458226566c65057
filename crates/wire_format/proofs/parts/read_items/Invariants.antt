use Rattle.std.proofs.Common.{◌≡◌, ◌-◌}
use Rattle.wire_format.specs.Codec.{items_read}
use Rattle.wire_format.proofs.ReadingLaws.{with_front}
use Rattle.wire_format.proofs.parts.read_items.Given as goal

-- the items so far, and those that are still read, are all
abbrev pub invariant-loop : goal.invariant-loop
invariant-loop g l = with_front l.items (items_read g.T.Field.codec.read (l.count - l.counter) l.from) ≡ items_read g.T.Field.codec.read l.count l.fn.from
