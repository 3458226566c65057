use Rattle.std.proofs.Common.{sym, subst, ◌∙◌}
use Rattle.stream_table.specs.Owners.{owners_in}
use Rattle.stream_table.specs.Entries.{entries_in}
use Rattle.stream_table.specs.Streams.{IsTable}
use Rattle.stream_table.proofs.FoundLaws.{listed_stream}
use Rattle.stream_table.proofs.TableLaws.{unlocked_some, unlocked_none}
use Rattle.stream_table.proofs.streams.Streams.unlock.Goals as goal

pub change-requires : goal.change-requires
change-requires c = listed_stream (entries_in c.self.inside.entries.entries) c.args.stream c.in-Some.known (sym c.stream_of.ensures ∙ c.in-Some.is)

pub invariant_of-self : goal.invariant_of-self
invariant_of-self c =
    let xs = owners_in c.self.inside.owners.entries in
    let es = entries_in c.self.inside.entries.entries in
    subst (IsTable xs) (sym c.change.ensures) (unlocked_some xs es c.args.stream c.in-Some.known c.self.invariant (sym c.stream_of.ensures ∙ c.in-Some.is))

pub invariant_of-self-in-None : goal.invariant_of-self-in-None
invariant_of-self-in-None c =
    let xs = owners_in c.self.inside.owners.entries in
    let es = entries_in c.self.inside.entries.entries in
    subst (IsTable xs) (sym c.take_off.ensures) (unlocked_none xs es c.args.stream c.self.invariant (sym c.stream_of.ensures ∙ c.in-None.is))
