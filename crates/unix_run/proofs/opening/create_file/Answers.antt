use Rattle.std.proofs.Common.{ℕ, List, [], ◌∷◌, ◌++◌, refl, sym, ap, ap₂, ◌∙◌}
use Rattle.unix_calls.specs.declared.state.File.{File}
use Rattle.unix_calls.specs.declared.state.FileName.TheVariants.{Made}
use Rattle.unix_calls.specs.declared.state.Named.{Named}
use Rattle.unix_calls.specs.declared.state.Node.TheVariants.{FileNode}
use Rattle.unix_calls.specs.declared.state.Object.TheVariants.{OfFile}
use Rattle.unix_calls.specs.Tree.{above, is_full, with_name}
use Rattle.unix_calls.specs.Answers.{value}
use Rattle.unix_calls.specs.Opening.{creates_file, opened}
use Rattle.unix_world.specs.Worlds.{unix_of}
use Rattle.unix_run.proofs.OpeningLaws.{comes_from, if_both, creates}
use Rattle.unix_run.proofs.opening.create_file.Goals as goal

pub returns : goal.returns
returns c =
    let w = c.args.world.now in
    let d = c.args.c.now in
    let p = c.args.p.now in
    let flags = c.args.flags.now in
    let path = c.args.path.now in
    let made = Made w.entries in
    let full = ap (is_full w.nodes) (sym (c.above.ensures ∙ ap above c.parts.ensures.parts)) ∙ sym c.is_full.ensures ∙ c.if-is_full.false in
    let files = c.in_ok-push.ensures ∙ ap (λ (bytes : List ℕ). w.files ++ record { name = made; bytes = bytes } ∷ []) c.new-bytes.ensures in
    let nodes = c.in_ok-add.ensures ∙ ap (λ (parts : List (List ℕ)). with_name (record { path = parts; node = FileNode made }) w.nodes) c.parts-2.ensures.parts in
    let between = record w { files = c.push.new.self; nodes = c.add.new.self } in
    if_both c.add_stream.result
    (λ told h answered. comes_from d (λ u q. creates_file d u q c.args.fd flags path) (λ u q. opened d u q c.args.fd (OfFile made) flags.mode flags.appends) w between p (value c.args.fd) told c.add_stream.new.world c.add_stream.new.p
    (λ ps. creates d (unix_of d w ps) p c.args.fd flags path c.if-not-flags.false full
    ∙ ap₂ (λ (fs : List File) (ns : List Named). opened d (record (unix_of d w ps) { files = fs; nodes = ns }) p c.args.fd (OfFile made) flags.mode flags.appends) (sym files) (sym nodes))
    refl answered h)
    c.add_stream.ensures.opened c.add_stream.ensures.answered
