use Rattle.file_views.proofs.SoundLaws.{new_sound, new_stood, sound_coherent, sound_stays, sound_changes, sound_right, sound_played, bytes_of_played, whole_played}
use Rattle.file_views.proofs.DeferLaws.{happenings_defer}
use Rattle.file_views.proofs.laws.sound_stays.Goals as goal

pub returns : goal.returns
returns c = record {
  new = new_sound;
  first = new_stood;
  coherent = sound_coherent;
  stays = sound_stays;
  changes = sound_changes;
  right = sound_right;
  defers = λ z v one s. happenings_defer z v one s.shapes;
  played_sound = λ z v steps p s. sound_played z steps v p s;
  played_bytes = bytes_of_played;
  played_whole = whole_played;
}
