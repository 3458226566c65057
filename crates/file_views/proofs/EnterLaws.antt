-- What enters in a step or a move changes the bytes that the view stands for, and is right.
use Rattle.std.proofs.Common.{◌≡◌, ◌≤◌, ◌<◌, ℕ, Bool, true, false, ◌&&◌, List, [], ◌∷◌, refl, sym, ◌∙◌, subst}
use Rattle.std.proofs.lemmas.Bool.{and_from}
use Rattle.file_views.specs.declared.step.FileStep.{FileStep}
use Rattle.file_views.specs.declared.view.View.{View}
use Rattle.file_views.specs.declared.entered.Entered.{Entered}
use Rattle.file_views.specs.Setting.{Setting}
use Rattle.file_views.specs.Views.{new_view}
use Rattle.file_views.specs.Possible.{stepped}
use Rattle.file_views.specs.Moves.{may_move, after_move, enters_move}
use Rattle.file_views.specs.Entries.{entered, bytes_entered, bytes_after_all, is_right, are_right}
use Rattle.file_views.specs.Settled.{stands_for}
use Rattle.file_views.specs.Waits.{defers}
use Rattle.file_views.specs.Coherent.{coherent}
use Rattle.file_views.specs.Plays.{stays_coherent}
use Rattle.file_views.specs.SoundContents.{StandsFor}
use Rattle.file_views.specs.LayerLaw.{Happening, Step, Move, happened, all_happened, Layers}
use Rattle.file_views.specs.BytesLaw.{entered_by, bytes_happened, defers_by, always_coherent}
use Rattle.file_views.proofs.WorkLaws.{noted, choose_two}
use Rattle.file_views.proofs.ContentViewLaws.{Noted, note, Has}
use Rattle.file_views.proofs.ContentPartLaws.{nothing_yet, stands_at, new_stands_at, steps_change_bytes, moves_change_bytes}
use Rattle.file_views.proofs.LayerLaws.{layers_happened, layers_stay, part_7_by}
use Rattle.file_views.proofs.DeferLaws.{steps_defer, happenings_defer}
use Rattle.file_views.proofs.SettledLaws.{stands_is, coherent_by}

-- what was noted is the bytes after all of it, and whether all of it was right
noted_bytes : (z : Setting) (es : List Entered) (had : Noted) → (noted (note z) had es).bytes ≡ bytes_after_all z had.bytes es
noted_bytes z [] had = refl
noted_bytes z (one ∷ rest) had = noted_bytes z rest (note z had one)

noted_right : (z : Setting) (es : List Entered) (had : Noted) → (noted (note z) had es).right ≡ (had.right && are_right z had.bytes es)
noted_right z [] had = alone had.right
  where
    alone : (a : Bool) → a ≡ (a && true)
    alone true = refl
    alone false = refl
noted_right z (one ∷ rest) had = noted_right z rest (note z had one) ∙ together had.right (is_right z had.bytes one.step one.reply) (are_right z (bytes_entered z had.bytes one.step) rest)
  where
    together : (a b c : Bool) → ((a && b) && c) ≡ (a && (b && c))
    together true b c = refl
    together false b c = refl

-- a sound view that stands for these bytes
pub record StandsAt (z : Setting) (bytes : List ℕ) (v : View) : Type 0 where
  pub layers : Layers z v
  pub stands : StandsFor z v
  pub is : stands.stood ≡ bytes

pub stood_at : (z : Setting) (bytes : List ℕ) (v : View) → 0 < z.block → StandsAt z bytes v → stands_for z v ≡ bytes
stood_at z bytes v p a = stands_is z v a.layers p a.stands ∙ a.is

pub coherent_at : (z : Setting) (bytes : List ℕ) (v : View) → 0 < z.block → StandsAt z bytes v → coherent z v bytes ≡ true
coherent_at z bytes v p a = subst (λ xs. coherent z v xs ≡ true) a.is (coherent_by z v a.layers (part_7_by z v a.layers) p a.stands)

-- after what entered
abbrev pub Enters : Setting → List ℕ → List Entered → View → Type 0
Enters z bytes es w = (are_right z bytes es ≡ true) × StandsAt z (bytes_after_all z bytes es) w

has_entered : (z : Setting) (stood : List ℕ) (es : List Entered) (w : View) → Layers z w → Has z (noted (note z) (nothing_yet stood) es) w → Enters z stood es w
has_entered z stood es w l h = let s = stands_at z (noted (note z) (nothing_yet stood) es) w h in (sym (noted_right z es (nothing_yet stood)) ∙ h.right, record { layers = l; stands = s.0; is = s.1 ∙ noted_bytes z es (nothing_yet stood) })

pub enters_by : (z : Setting) (bytes : List ℕ) (v : View) (one : Happening) → 0 < z.block → StandsAt z bytes v → Enters z bytes (entered_by z v one) (happened z v one)
enters_by z bytes v (Step step) p a =
    let l : Layers z v = a.layers in
    subst (λ xs. Enters z xs (entered z v step) (stepped z v step)) a.is (has_entered z a.stands.stood (entered z v step) (stepped z v step) (layers_happened z v (Step step) l) (steps_change_bytes z v step p l.shapes l.streams l.stamps l.decisions l.modes l.holders l.asking l.write_backs l.sizes a.stands))
enters_by z bytes v (Move other) p a = choose_two (λ es w. Layers z w → Enters z bytes es w) (may_move z v other) (enters_move z v other) (after_move z v other) [] v
    (λ e k. let l : Layers z v = a.layers in subst (λ xs. Enters z xs (enters_move z v other) (after_move z v other)) a.is (has_entered z a.stands.stood (enters_move z v other) (after_move z v other) k (moves_change_bytes z v other e p l.shapes l.streams l.stamps l.decisions l.modes l.holders l.asking l.write_backs l.sizes a.stands)))
    (λ e k. (refl, a)) (layers_happened z v (Move other) a.layers)

-- all that happens
pub stands_after : (z : Setting) (happenings : List Happening) (bytes : List ℕ) (v : View) → 0 < z.block → StandsAt z bytes v → StandsAt z (bytes_happened z v bytes happenings) (all_happened z v happenings)
stands_after z [] bytes v p a = a
stands_after z (one ∷ rest) bytes v p a = stands_after z rest (bytes_after_all z bytes (entered_by z v one)) (happened z v one) p (enters_by z bytes v one p a).1

pub always_by : (z : Setting) (happenings : List Happening) (bytes : List ℕ) (v : View) → 0 < z.block → StandsAt z bytes v → always_coherent z v bytes happenings ≡ true
always_by z [] bytes v p a = coherent_at z bytes v p a
always_by z (one ∷ rest) bytes v p a =
    let e : Enters z bytes (entered_by z v one) (happened z v one) = enters_by z bytes v one p a in
    and_from (coherent z v bytes) _ (coherent_at z bytes v p a) (and_from (are_right z bytes (entered_by z v one)) _ e.0
    (and_from (defers_by z v one) _ (happenings_defer z v one a.layers.shapes) (always_by z rest (bytes_after_all z bytes (entered_by z v one)) (happened z v one) p e.1)))

pub stays_by : (z : Setting) (steps : List FileStep) (bytes : List ℕ) (v : View) → 0 < z.block → StandsAt z bytes v → stays_coherent z v bytes steps ≡ true
stays_by z [] bytes v p a = coherent_at z bytes v p a
stays_by z (step ∷ rest) bytes v p a =
    let e : Enters z bytes (entered z v step) (stepped z v step) = enters_by z bytes v (Step step) p a in
    and_from (coherent z v bytes) _ (coherent_at z bytes v p a) (and_from (are_right z bytes (entered z v step)) _ e.0
    (and_from (defers z v step) _ (steps_defer z v step a.layers.shapes) (stays_by z rest (bytes_after_all z bytes (entered z v step)) (stepped z v step) p e.1)))

-- a new file
pub new_stands : (z : Setting) (count : ℕ) (bytes : List ℕ) → 1 ≤ count → count ≤ 15 → StandsAt z bytes (new_view count bytes)
new_stands z count bytes low high = let s = new_stands_at z count bytes in record { layers = layers_stay z count bytes [] low high; stands = s.0; is = s.1 }
