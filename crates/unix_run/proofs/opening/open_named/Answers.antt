use Rattle.std.proofs.Common.{List, refl, sym, ap, ◌∙◌}
use Rattle.unix_calls.specs.declared.state.File.{File}
use Rattle.unix_calls.specs.declared.state.Object.TheVariants.{OfFile}
use Rattle.unix_calls.specs.Answers.{value}
use Rattle.unix_calls.specs.Opening.{cut, opened}
use Rattle.unix_world.specs.Worlds.{unix_of}
use Rattle.unix_run.proofs.OpeningLaws.{comes_from, if_both, cut_is}
use Rattle.unix_run.proofs.opening.open_named.Goals as goal

pub returns : goal.returns
returns c =
    let w = c.args.world.now in
    let d = c.args.c.now in
    let p = c.args.p.now in
    let flags = c.args.flags.now in
    let object = OfFile c.args.name in
    let between = record w { files = c.cut_bytes.new.files } in
    if_both c.add_stream.result
    (λ told h answered. comes_from d (λ u q. opened d (cut flags.truncates c.args.name u) q c.args.fd object flags.mode flags.appends) (λ u q. opened d u q c.args.fd object flags.mode flags.appends) w between p (value c.args.fd) told c.add_stream.new.world c.add_stream.new.p
    (λ ps. ap (λ u. opened d u p c.args.fd object flags.mode flags.appends) (cut_is flags.truncates c.args.name (unix_of d w ps))
    ∙ ap (λ (fs : List File). opened d (record (unix_of d w ps) { files = fs }) p c.args.fd object flags.mode flags.appends) (sym c.cut_bytes.ensures))
    refl answered h)
    c.add_stream.ensures.opened c.add_stream.ensures.answered
