use Rattle.std.proofs.Common.{sym, ap, subst, ◌∙◌, true≢false}
use Rattle.stream_table.specs.Owners.{owners_in, descriptor}
use Rattle.stream_table.specs.Entries.{entries_in}
use Rattle.stream_table.specs.Streams.{Table, IsTable}
use Rattle.stream_table.proofs.ReferLaws.{descriptor_known}
use Rattle.stream_table.proofs.TableLaws.{dupped_table}
use Rattle.stream_table.proofs.streams.Streams.dup.Goals as goal

pub give-requires-clause-room : goal.give-requires-clause-room
give-requires-clause-room c =
    let leads = ap (λ (t : Table). descriptor t.owners c.args.pid c.args.fd) c.self.view_is ∙ sym c.get.ensures.number ∙ c.in-Some.is in
    λ none. absurd (true≢false (sym (descriptor_known (owners_in c.self.inside.owners.entries) c.args.pid c.args.fd c.in-Some.number leads) ∙ none))

pub invariant_of-self : goal.invariant_of-self
invariant_of-self c =
    let xs = owners_in c.self.inside.owners.entries in
    let es = entries_in c.self.inside.entries.entries in
    let n = c.in-Some.number in
    let free = c.in-Some-lowest_free.free in
    let leads = ap (λ (t : Table). descriptor t.owners c.args.pid c.args.fd) c.self.view_is ∙ sym c.get.ensures.number ∙ c.in-Some.is in
    let slot = sym c.lowest_free.ensures.first ∙ c.in-Some-lowest_free.is in
    subst (λ os. IsTable os es) (sym c.give.ensures) (dupped_table xs es c.args.pid free c.args.fd n c.self.invariant slot leads)
