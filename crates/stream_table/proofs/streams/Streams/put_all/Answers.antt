use Rattle.std.proofs.Common.{ℕ, List, Option, sym, ap, subst, ◌∙◌}
use Rattle.sprite_ids.specs.declared.StreamNo.{StreamNo}
use Rattle.sprite_ids.specs.Lists.{put}
use Rattle.stream_table.specs.declared.owners.Descriptors.{Descriptors}
use Rattle.stream_table.specs.Owners.{owners_in, is_owner, is_used, numbers_of}
use Rattle.stream_table.specs.Entries.{entries_in}
use Rattle.stream_table.specs.Streams.{Table, IsTable, with_arrived}
use Rattle.stream_table.proofs.ReferLaws.{owner}
use Rattle.stream_table.proofs.TableLaws.{arrived_table}
use Rattle.stream_table.proofs.streams.Streams.put_all.Goals as goal

pub invariant_of-self-2 : goal.invariant_of-self-2
invariant_of-self-2 c =
    let xs = owners_in c.self.inside.owners.entries in
    let es = entries_in c.self.inside.entries.entries in
    let carried = c.args.carried.now in
    let p = is_owner c.args.pid in
    let none = ap (λ (t : Table). is_used (numbers_of t.owners c.args.pid)) c.self.view_is ∙ c.requires.none in
    let owners = c.put.ensures ∙ ap (λ (os : List (ℕ × Descriptors)). put p (owner c.args.pid c.numbers_in.result.numbers) (owners_in os)) c.in_ok-make_room.ensures.entries ∙ ap (λ (ns : List (Option StreamNo)). put p (owner c.args.pid ns) xs) c.numbers_in.ensures in
    subst (λ os. IsTable os (entries_in c.arrive.new.entries.entries)) (sym owners) (subst (IsTable (with_arrived xs c.args.pid carried)) (sym c.in_ok-arrive.ensures.ok) (arrived_table xs es c.args.pid carried c.self.invariant none c.requires.differ c.requires.few c.requires.placed))
