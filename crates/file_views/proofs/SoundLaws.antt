-- Soundness of any view, under each step and each move.
use Rattle.std.proofs.Common.{◌≡◌, ◌≤◌, ◌<◌, ℕ, true, List, [], ◌∷◌, length, sym, refl}
use Rattle.file_views.specs.declared.step.FileStep.{FileStep}
use Rattle.file_views.specs.declared.view.View.{View}
use Rattle.file_views.specs.Setting.{Setting}
use Rattle.file_views.specs.Views.{new_view}
use Rattle.file_views.specs.Entries.{entered, bytes_after_all, are_right}
use Rattle.file_views.specs.Possible.{stepped, played}
use Rattle.file_views.specs.Plays.{bytes_played, stays_coherent}
use Rattle.file_views.specs.Settled.{stands_for}
use Rattle.file_views.specs.Coherent.{coherent}
use Rattle.file_views.specs.SoundContents.{StandsFor}
use Rattle.file_views.specs.Sound.{Sound}
use Rattle.file_views.specs.LimitLaw.{EachLimited}
use Rattle.file_views.specs.LayerLaw.{Happening, Step, happened, Layers}
use Rattle.file_views.specs.BytesLaw.{entered_by}
use Rattle.file_views.proofs.LayerLaws.{layers_happened, limits_happened, limits_stay}
use Rattle.file_views.proofs.EnterLaws.{StandsAt, stood_at, coherent_at, Enters, enters_by, stays_by, new_stands}

pub layers_of : (z : Setting) (v : View) → Sound z v → Layers z v
layers_of z v s = record {
  shapes = s.shapes;
  streams = s.streams;
  stamps = s.stamps;
  decisions = s.decisions;
  modes = s.modes;
  holders = s.holders;
  asking = λ kernel i. (s.requests.each kernel i).asking;
  write_backs = λ kernel i. (s.requests.each kernel i).write_backs;
  sizes = λ kernel i. (s.requests.each kernel i).sizes;
}

limited_of : (z : Setting) (v : View) → Sound z v → EachLimited z v
limited_of z v s = record { bytes = s.requests.limit; each = λ kernel i. (s.requests.each kernel i).limits }

sound_of : (z : Setting) (v : View) → Layers z v → EachLimited z v → StandsFor z v → Sound z v
sound_of z v l e f = record {
  shapes = l.shapes;
  streams = l.streams;
  stamps = l.stamps;
  decisions = l.decisions;
  modes = l.modes;
  holders = l.holders;
  requests = record { limit = e.bytes; each = λ kernel i. record { asking = l.asking kernel i; write_backs = l.write_backs kernel i; sizes = l.sizes kernel i; limits = e.each kernel i } };
  contents = f;
}

at_sound : (z : Setting) (v : View) → 0 < z.block → Sound z v → StandsAt z (stands_for z v) v
at_sound z v p s = record { layers = layers_of z v s; stands = s.contents; is = sym (stood_at z s.contents.stood v p (record { layers = layers_of z v s; stands = s.contents; is = refl })) }

pub new_sound : (z : Setting) (count : ℕ) (bytes : List ℕ) → 1 ≤ count → count ≤ 15 → length bytes ≤ z.most → Sound z (new_view count bytes)
new_sound z count bytes low high l = let a : StandsAt z bytes (new_view count bytes) = new_stands z count bytes low high in sound_of z (new_view count bytes) a.layers (limits_stay z count bytes [] low high l) a.stands

pub new_stood : (z : Setting) (count : ℕ) (bytes : List ℕ) → 1 ≤ count → count ≤ 15 → 0 < z.block → stands_for z (new_view count bytes) ≡ bytes
new_stood z count bytes low high p = stood_at z bytes (new_view count bytes) p (new_stands z count bytes low high)

pub sound_coherent : (z : Setting) (v : View) → 0 < z.block → Sound z v → coherent z v (stands_for z v) ≡ true
sound_coherent z v p s = coherent_at z (stands_for z v) v p (at_sound z v p s)

sound_enters : (z : Setting) (v : View) (one : Happening) → 0 < z.block → Sound z v → Enters z (stands_for z v) (entered_by z v one) (happened z v one)
sound_enters z v one p s = enters_by z (stands_for z v) v one p (at_sound z v p s)

pub sound_stays : (z : Setting) (v : View) (one : Happening) → 0 < z.block → Sound z v → Sound z (happened z v one)
sound_stays z v one p s = sound_of z (happened z v one) (layers_happened z v one (layers_of z v s)) (limits_happened z v one (layers_of z v s) (limited_of z v s)) (sound_enters z v one p s).1.stands

pub sound_changes : (z : Setting) (v : View) (one : Happening) → 0 < z.block → Sound z v → stands_for z (happened z v one) ≡ bytes_after_all z (stands_for z v) (entered_by z v one)
sound_changes z v one p s = stood_at z (bytes_after_all z (stands_for z v) (entered_by z v one)) (happened z v one) p (sound_enters z v one p s).1

pub sound_right : (z : Setting) (v : View) (one : Happening) → 0 < z.block → Sound z v → are_right z (stands_for z v) (entered_by z v one) ≡ true
sound_right z v one p s = (sound_enters z v one p s).0

-- steps in a row
pub sound_played : (z : Setting) (steps : List FileStep) (v : View) → 0 < z.block → Sound z v → Sound z (played z v steps)
sound_played z [] v p s = s
sound_played z (step ∷ rest) v p s = sound_played z rest (stepped z v step) p (sound_stays z v (Step step) p s)

stood_played : (z : Setting) (steps : List FileStep) (bytes : List ℕ) (v : View) → 0 < z.block → StandsAt z bytes v → stands_for z (played z v steps) ≡ bytes_played z v bytes steps
stood_played z [] bytes v p a = stood_at z bytes v p a
stood_played z (step ∷ rest) bytes v p a = stood_played z rest (bytes_after_all z bytes (entered z v step)) (stepped z v step) p (enters_by z bytes v (Step step) p a).1

pub bytes_of_played : (z : Setting) (v : View) (steps : List FileStep) → 0 < z.block → Sound z v → stands_for z (played z v steps) ≡ bytes_played z v (stands_for z v) steps
bytes_of_played z v steps p s = stood_played z steps (stands_for z v) v p (at_sound z v p s)

pub whole_played : (z : Setting) (v : View) (steps : List FileStep) → 0 < z.block → Sound z v → stays_coherent z v (stands_for z v) steps ≡ true
whole_played z v steps p s = stays_by z steps (stands_for z v) v p (at_sound z v p s)
