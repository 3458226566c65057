use Rattle.std.proofs.Common.{◌<◌, ℕ, ap, sym, subst, ◌∙◌, arith}
use Rattle.file_views.specs.Setting.{sprite_setting}
use Rattle.file_views.specs.Views.{new_view}
use Rattle.file_views.specs.Settled.{stands_for}
use Rattle.file_views.specs.Sound.{Sound}
use Rattle.file_views.proofs.SoundLaws.{new_sound, new_stood}
use Rattle.file_coherence.proofs.one_file.OneFile.new.Goals as goal

pub invariant_of-result : goal.invariant_of-result
invariant_of-result c = subst (Sound sprite_setting) (sym (c.in_ok-view.ensures ∙ ap (λ (n : ℕ). new_view n c.args.bytes) c.from.ensures)) (new_sound sprite_setting c.args.kernels c.args.bytes c.requires.clients.0 c.requires.clients.1 c.requires.size)

pub returns-clause-bytes : goal.returns-clause-bytes
returns-clause-bytes c =
    let some : 0 < sprite_setting.block = omega arith in
    ap (stands_for sprite_setting) (c.in_ok-view.ensures ∙ ap (λ (n : ℕ). new_view n c.args.bytes) c.from.ensures) ∙ new_stood sprite_setting c.args.kernels c.args.bytes c.requires.clients.0 c.requires.clients.1 some
