use Rattle.std.proofs.Common.{ℕ, List, Option, sym, ap, subst, ◌∙◌}
use Rattle.sprite_ids.specs.declared.StreamNo.{StreamNo}
use Rattle.sprite_ids.specs.Lists.{put}
use Rattle.stream_table.specs.declared.owners.Descriptors.{Descriptors}
use Rattle.stream_table.specs.Owners.{owners_in, is_owner, numbers_of}
use Rattle.stream_table.specs.Entries.{entries_in}
use Rattle.stream_table.specs.Streams.{IsTable}
use Rattle.stream_table.proofs.ReferLaws.{owner}
use Rattle.stream_table.proofs.TableLaws.{forked_table}
use Rattle.stream_table.proofs.streams.Streams.fork.Goals as goal

pub invariant_of-self-2 : goal.invariant_of-self-2
invariant_of-self-2 c =
    let xs = owners_in c.self.inside.owners.entries in
    let es = entries_in c.self.inside.entries.entries in
    let p = is_owner c.args.child in
    let none = sym c.is_used-else-not-is_used.ensures ∙ c.if-is_used.false in
    let numbers = c.descriptors_of-descriptors.ensures ∙ ap (λ (os : List (ℕ × Descriptors)). numbers_of (owners_in os) c.args.parent) c.in_ok-make_room.ensures.entries in
    let owners = c.put.ensures ∙ ap (λ (os : List (ℕ × Descriptors)). put p (owner c.args.child c.descriptors_of-descriptors.result.numbers) (owners_in os)) c.in_ok-make_room.ensures.entries ∙ ap (λ (ns : List (Option StreamNo)). put p (owner c.args.child ns) xs) numbers in
    subst (λ os. IsTable os es) (sym owners) (forked_table xs es c.args.parent c.args.child c.self.invariant none)
