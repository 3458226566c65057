use Rattle.std.proofs.Common.{sym, ◌∙◌}
use Rattle.version_table.specs.Opens.{is_stream}
use Rattle.sprite_ids.proofs.OnceLaws.{put_here}
use Rattle.version_table.proofs.OpenLaws.{put_end}
use Rattle.version_table.proofs.opens.share.Goals as goal

pub returns-in-Some : goal.returns-in-Some
returns-in-Some c =
    c.replace.ensures.list ∙ put_here (is_stream c.args.stream.now) c.args.stream.now c.args.streams.now c.in-Some.at c.replace.result (sym c.place_in.ensures ∙ c.in-Some.is)

pub returns-in_ok-append-in-None : goal.returns-in_ok-append-in-None
returns-in_ok-append-in-None c =
    c.in_ok-append-in-None.ensures.ok ∙ sym (put_end (is_stream c.args.stream.now) c.args.stream.now c.args.streams.now (sym c.place_in.ensures ∙ c.in-None.is))
