use Rattle.std.proofs.Common.{Some, Option, ℕ, sym, ap, subst, ◌∙◌}
use Rattle.stream_table.specs.declared.stream.Stream.{Stream}
use Rattle.sprite_ids.specs.Lists.{put}
use Rattle.stream_table.specs.Owners.{owners_in}
use Rattle.stream_table.specs.Entries.{entries_in, is_of, stream_of, may_be_at}
use Rattle.stream_table.specs.Streams.{Table, IsTable}
use Rattle.stream_table.proofs.FoundLaws.{entry, listed_stream}
use Rattle.stream_table.proofs.TableLaws.{placed_table}
use Rattle.stream_table.proofs.streams.Streams.set_place.Goals as goal

pub change-requires : goal.change-requires
change-requires c = listed_stream (entries_in c.self.inside.entries.entries) c.args.stream c.in-Some.known (sym c.stream_of.ensures ∙ c.in-Some.is)

pub invariant_of-self : goal.invariant_of-self
invariant_of-self c =
    let xs = owners_in c.self.inside.owners.entries in
    let es = entries_in c.self.inside.entries.entries in
    let n = c.args.stream in
    let moved : Stream = record c.in-Some.known { place = c.args.place } in
    let there = sym c.stream_of.ensures ∙ c.in-Some.is in
    let may = ap (λ (t : Table). may_be_at c.args.place (stream_of t.entries n)) c.self.view_is ∙ c.requires in
    let entries = c.change.ensures ∙ ap (λ (h : Option ℕ). put (is_of n) (entry n (Some moved) h) es) c.holder_of-holder.ensures in
    subst (IsTable xs) (sym entries) (placed_table xs es n c.args.place c.in-Some.known c.self.invariant there may)
