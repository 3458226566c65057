use Rattle.std.proofs.Common.{Some, None, sym, ap, ◌∙◌, slice_set}
use Rattle.sprite_ids.specs.Lists.{put}
use Rattle.stream_table.specs.Owners.{is_owner, owners_in}
use Rattle.stream_table.proofs.ReferLaws.{owner}
use Rattle.stream_table.proofs.MapLaws.{numbers_found, owner_set}
use Rattle.stream_table.proofs.owners.give.Goals as goal

pub returns-in-Some : goal.returns-in-Some
returns-in-Some c =
    owner_set c.args.owners.now.entries _ c.args.pid c.set.new.self c.in-Some.descriptors.now (λ ns. slice_set ns c.args.fd (Some c.args.number.now)) c.in-Some.ensures.value (c.get_mut.follows.holds c.set.new.self).0 c.set.ensures

pub returns-in-None : goal.returns-in-None
returns-in-None c =
    (rw c.get_mut.follows.holds-at-none at c.give_first.ensures) ∙ ap (λ ns. put (is_owner c.args.pid) (owner c.args.pid (slice_set ns c.args.fd (Some c.args.number.now))) (owners_in c.args.owners.now.entries)) (sym (numbers_found c.args.owners.now.entries c.args.pid None c.in-None.ensures.value))
