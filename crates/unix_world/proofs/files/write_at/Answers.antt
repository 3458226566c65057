use Rattle.std.proofs.Common.{◌≡◌, List, [], ℕ, ap, sym, ◌∙◌, length}
use Rattle.std.specs.Prelude.{◌==◌}
use Rattle.std.proofs.lemmas.Bool.{true≢false}
use Rattle.unix_calls.specs.declared.state.File.{File}
use Rattle.unix_world.proofs.ContentLaws.{over_grown}
use Rattle.unix_world.proofs.files.write_at.Goals as goal

pub returns-clause-bytes : goal.returns-clause-bytes
returns-clause-bytes c =
    let new : List ℕ → File = λ bytes. record { name = c.args.file.now.name; bytes = bytes } in
    rw (c.of_vec.ensures, c.in_ok-write_over.ensures, c.into_vec-items.ensures, c.replace.ensures.value)
    (ap new (over_grown c.args.file.now.bytes c.args.from c.args.bytes.now (λ (e : c.args.bytes.now ≡ []). true≢false (sym (c.is_empty.ensures ∙ ap (λ (l : List ℕ). length l == 0) e) ∙ c.if-is_empty.false))))
