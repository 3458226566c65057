use Rattle.std.proofs.Common.{Some, Option, sym, ap, subst, ◌∙◌, true≢false}
use Rattle.stream_table.specs.declared.stream.Stream.{Stream}
use Rattle.sprite_ids.specs.Lists.{put}
use Rattle.stream_table.specs.Owners.{owners_in, is_referred}
use Rattle.stream_table.specs.Entries.{entries_in, is_of}
use Rattle.stream_table.specs.Streams.{Table, IsTable}
use Rattle.stream_table.proofs.FoundLaws.{entry, listed_open}
use Rattle.stream_table.proofs.TableLaws.{locked_table}
use Rattle.stream_table.proofs.streams.Streams.lock.Goals as goal

pub returns-in_err-put-clause-referred : goal.returns-in_err-put-clause-referred
returns-in_err-put-clause-referred c =
    λ r. let there = listed_open (entries_in c.self.inside.entries.entries) c.args.stream (c.self.invariant.are_open c.args.stream ∙ ap (λ (t : Table). is_referred t.owners c.args.stream) c.self.view_is ∙ r) in
    absurd (true≢false (sym (c.in_err-put.ensures.listed there)))

pub invariant_of-self-2 : goal.invariant_of-self-2
invariant_of-self-2 c =
    let xs = owners_in c.self.inside.owners.entries in
    let es = entries_in c.self.inside.entries.entries in
    let n = c.args.stream in
    let entries = c.in_ok-put.ensures.ok ∙ ap (λ (s : Option Stream). put (is_of n) (entry n s (Some c.args.pid)) es) c.stream_of-known.ensures in
    subst (IsTable xs) (sym entries) (locked_table xs es n c.args.pid c.self.invariant)
