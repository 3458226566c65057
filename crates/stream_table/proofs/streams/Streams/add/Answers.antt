use Rattle.std.proofs.Common.{Some, ℕ, List, Option, sym, ap, subst, ◌∙◌}
use Rattle.sprite_ids.specs.Lists.{put}
use Rattle.stream_table.specs.declared.owners.Descriptors.{Descriptors}
use Rattle.stream_table.specs.Owners.{owners_in}
use Rattle.stream_table.specs.Entries.{entries_in, is_of}
use Rattle.stream_table.specs.Streams.{IsTable, with_descriptor}
use Rattle.stream_table.proofs.FoundLaws.{entry}
use Rattle.stream_table.proofs.TableLaws.{added_table}
use Rattle.stream_table.proofs.streams.Streams.add.Goals as goal

pub invariant_of-self-2 : goal.invariant_of-self-2
invariant_of-self-2 c =
    let xs = owners_in c.self.inside.owners.entries in
    let es = entries_in c.self.inside.entries.entries in
    let n = c.args.number in
    let fd = c.in-Some.fd in
    let slot = sym c.lowest_free.ensures.first ∙ c.in-Some.is in
    let owners = c.give.ensures ∙ ap (λ (os : List (ℕ × Descriptors)). with_descriptor (owners_in os) c.args.pid fd n) c.in_ok-make_room.ensures.entries in
    let entries = c.in_ok-put.ensures.ok ∙ ap (λ (h : Option ℕ). put (is_of n) (entry n (Some c.args.stream) h) es) c.holder_of-holder.ensures in
    subst (λ os. IsTable os (entries_in c.put.new.entries.entries)) (sym owners) (subst (IsTable (with_descriptor xs c.args.pid fd n)) (sym entries) (added_table xs es c.args.pid fd n c.args.stream c.self.invariant slot c.requires))
