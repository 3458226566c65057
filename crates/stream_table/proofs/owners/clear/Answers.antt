use Rattle.std.proofs.Common.{Some, None, sym, ap, ◌∙◌, slice_set, true≢false}
use Rattle.stream_table.specs.Owners.{is_used}
use Rattle.stream_table.proofs.MapLaws.{numbers_found, owner_known, owner_set}
use Rattle.stream_table.proofs.owners.clear.Goals as goal

pub returns-in-Some-clause-owners : goal.returns-in-Some-clause-owners
returns-in-Some-clause-owners c =
    owner_set c.args.owners.now.entries _ c.args.pid c.set.new.self c.in-Some.descriptors.now (λ ns. slice_set ns c.args.fd None) c.in-Some.ensures.value (c.get_mut.follows.holds c.set.new.self).0 c.set.ensures

pub returns-in-Some-clause-used : goal.returns-in-Some-clause-used
returns-in-Some-clause-used c =
    c.is_used.ensures ∙ ap is_used c.set.ensures ∙ sym (ap (λ ns. is_used (slice_set ns c.args.fd None)) (numbers_found c.args.owners.now.entries c.args.pid (Some c.in-Some.descriptors.now) c.in-Some.ensures.value))

pub returns-in-None-clause-owners : goal.returns-in-None-clause-owners
returns-in-None-clause-owners c =
    absurd (true≢false (sym c.requires.there ∙ owner_known c.args.owners.now.entries c.args.pid None c.in-None.ensures.value))

pub returns-in-None-clause-used : goal.returns-in-None-clause-used
returns-in-None-clause-used c =
    absurd (true≢false (sym c.requires.there ∙ owner_known c.args.owners.now.entries c.args.pid None c.in-None.ensures.value))
