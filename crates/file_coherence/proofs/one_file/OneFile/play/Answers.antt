use Rattle.std.proofs.Common.{◌≡◌, ◌<◌, true, List, IfOk, OnOk, subst, arith}
use Rattle.file_views.specs.declared.Entered.{Entered}
use Rattle.file_views.specs.declared.View.{View}
use Rattle.file_views.specs.Setting.{sprite_setting}
use Rattle.file_views.specs.Entries.{bytes_after_all, are_right}
use Rattle.file_views.specs.Settled.{stands_for}
use Rattle.file_views.specs.Plays.{stays_coherent}
use Rattle.file_views.proofs.SoundLaws.{sound_coherent}
use Rattle.file_coherence.proofs.RunLaws.{part_sound, bytes_in, right_in, whole_in}
use Rattle.file_coherence.proofs.one_file.OneFile.play.Goals as goal

some_bytes : 0 < sprite_setting.block
some_bytes = omega arith

pub invariant_of-self : goal.invariant_of-self
invariant_of-self c = part_sound sprite_setting _ _ c.args.steps.now some_bytes c.self.invariant c.play_all.ensures.part

pub returns-clause-sound : goal.returns-clause-sound
returns-clause-sound c = part_sound sprite_setting _ _ c.args.steps.now some_bytes c.self.invariant c.play_all.ensures.part

pub returns-clause-coherent : goal.returns-clause-coherent
returns-clause-coherent c = sound_coherent sprite_setting c.play_all.new.view some_bytes (part_sound sprite_setting _ _ c.args.steps.now some_bytes c.self.invariant c.play_all.ensures.part)

pub returns-clause-bytes : goal.returns-clause-bytes
returns-clause-bytes c = subst (λ (v : View). IfOk c.play_all.result (λ (noted : List Entered). stands_for sprite_setting c.play_all.new.view ≡ bytes_after_all sprite_setting (stands_for sprite_setting v) noted)) c.self.view_is
    (bytes_in sprite_setting _ c.play_all.new.view c.args.steps.now c.play_all.result some_bytes c.self.invariant c.play_all.ensures.view c.play_all.ensures.entered)

pub returns-clause-right : goal.returns-clause-right
returns-clause-right c = subst (λ (v : View). IfOk c.play_all.result (λ (noted : List Entered). are_right sprite_setting (stands_for sprite_setting v) noted ≡ true)) c.self.view_is
    (right_in sprite_setting _ c.args.steps.now c.play_all.result some_bytes c.self.invariant c.play_all.ensures.entered)

pub returns-clause-whole : goal.returns-clause-whole
returns-clause-whole c = subst (λ (v : View). OnOk c.play_all.result (stays_coherent sprite_setting v (stands_for sprite_setting v) c.args.steps.now ≡ true)) c.self.view_is
    (whole_in sprite_setting _ c.args.steps.now c.play_all.result some_bytes c.self.invariant)
