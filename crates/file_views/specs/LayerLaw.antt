-- The first eight layers of soundness hold after any steps and moves of clients, from a new file on.
use Rattle.std.specs.Prelude.{◌≡◌, ◌≤◌, ◌<◌, ℕ, true, false, if◌then◌else◌, List, [], ◌∷◌, length, None}
use Rattle.sprite_ids.specs.declared.StreamNo.{StreamNo}
use Rattle.file_views.specs.declared.body.Access.{Access}
use Rattle.file_views.specs.declared.body.FileBody.TheVariants as form
use Rattle.file_views.specs.declared.call.FileCall.{FileCall}
use Rattle.file_views.specs.declared.step.FileStep.{FileStep}
use Rattle.file_views.specs.declared.moves.ClientMove.{ClientMove}
use Rattle.file_views.specs.declared.view.View.{View}
use Rattle.file_views.specs.Setting.{Setting}
use Rattle.file_views.specs.Views.{new_view, busy, current_stamp}
use Rattle.file_views.specs.Here.{In}
use Rattle.file_views.specs.Possible.{stepped}
use Rattle.file_views.specs.Moves.{may_move, after_move}
use Rattle.file_views.specs.Settled.{stands_for}
use Rattle.file_views.specs.Coherent.{part_2, part_3, part_4, part_5, part_6, part_7, coherent}
use Rattle.file_views.specs.SoundShapes.{Shapes}
use Rattle.file_views.specs.SoundStreams.{Streams}
use Rattle.file_views.specs.SoundStamps.{Stamps}
use Rattle.file_views.specs.SoundDecisions.{Decisions}
use Rattle.file_views.specs.SoundModes.{Modes}
use Rattle.file_views.specs.SoundHolders.{Holders}
use Rattle.file_views.specs.SoundContents.{GoodContents, StandsFor, present_bytes}
use Rattle.file_views.specs.AskingLaw.{EachAsks}
use Rattle.file_views.specs.WritingLaw.{EachWritesBack}
use Rattle.file_views.specs.SizeLaw.{EachSize}
use Rattle.file_views.specs.LimitLaw.{EachLimited}

-- what happens to a file: a step, or a move of a client
pub data Happening : Type 0 where
  Step : FileStep → Happening
  Move : ClientMove → Happening

-- the view after it; what isn't possible changes nothing
abbrev pub happened : Setting → View → Happening → View
happened z v (Step step) = stepped z v step
happened z v (Move other) = if may_move z v other then after_move z v other else v

abbrev pub all_happened : Setting → View → List Happening → View
all_happened z v [] = v
all_happened z v (one ∷ rest) = all_happened z (happened z v one) rest

pub record Layers (z : Setting) (v : View) : Type 0 where
  pub shapes : Shapes v
  pub streams : Streams v
  pub stamps : Stamps v
  pub decisions : Decisions z v
  pub modes : Modes v
  pub holders : Holders v
  pub asking : EachAsks z v
  pub write_backs : EachWritesBack z v
  pub sizes : EachSize z v

pub record LayersStay : Type 0 where
  pub layers : (z : Setting) (count : ℕ) (bytes : List ℕ) (happenings : List Happening) → 1 ≤ count → count ≤ 15 → Layers z (all_happened z (new_view count bytes) happenings)
  pub limits : (z : Setting) (count : ℕ) (bytes : List ℕ) (happenings : List Happening) → 1 ≤ count → count ≤ 15 → length bytes ≤ z.most → EachLimited z (all_happened z (new_view count bytes) happenings)
  pub contents : (z : Setting) (count : ℕ) (bytes : List ℕ) (happenings : List Happening) → 1 ≤ count → count ≤ 15 → 0 < z.block → StandsFor z (all_happened z (new_view count bytes) happenings)
  pub present : (z : Setting) (count : ℕ) (bytes : List ℕ) (happenings : List Happening) → 1 ≤ count → count ≤ 15 → 0 < z.block → (f : StandsFor z (all_happened z (new_view count bytes) happenings)) → present_bytes z (all_happened z (new_view count bytes) happenings) ≡ f.stood
  pub good : (z : Setting) (count : ℕ) (bytes : List ℕ) (happenings : List Happening) → 1 ≤ count → count ≤ 15 → 0 < z.block → GoodContents z (all_happened z (new_view count bytes) happenings)
  pub served : (z : Setting) (count : ℕ) (bytes : List ℕ) (happenings : List Happening) → 1 ≤ count → count ≤ 15 → 0 < z.block → busy (all_happened z (new_view count bytes) happenings) ≡ false → (one : FileCall) → In one (all_happened z (new_view count bytes) happenings).calls → one.reply ≡ None → (pid number : ℕ) (stream : StreamNo) (way : Access) → one.body ≡ form.Op pid number (current_stamp (all_happened z (new_view count bytes) happenings) one.from) stream way → (all_happened z (new_view count bytes) happenings).bytes ≡ present_bytes z (all_happened z (new_view count bytes) happenings)

-- what of coherence follows: the third, the fourth, the sixth and the seventh part; and the second and the fifth, with any bytes that the view stands for
pub record PartsStay : Type 0 where
  pub alone : (z : Setting) (count : ℕ) (bytes : List ℕ) (happenings : List Happening) → 1 ≤ count → count ≤ 15 → part_3 z (all_happened z (new_view count bytes) happenings) ≡ true
  pub stamps : (z : Setting) (count : ℕ) (bytes : List ℕ) (happenings : List Happening) → 1 ≤ count → count ≤ 15 → part_4 (all_happened z (new_view count bytes) happenings) ≡ true
  pub nobody : (z : Setting) (count : ℕ) (bytes : List ℕ) (happenings : List Happening) → 1 ≤ count → count ≤ 15 → part_6 z (all_happened z (new_view count bytes) happenings) ≡ true
  pub waits : (z : Setting) (count : ℕ) (bytes : List ℕ) (happenings : List Happening) → 1 ≤ count → count ≤ 15 → part_7 z (all_happened z (new_view count bytes) happenings) ≡ true
  pub cached : (z : Setting) (count : ℕ) (bytes : List ℕ) (happenings : List Happening) → 1 ≤ count → count ≤ 15 → (f : StandsFor z (all_happened z (new_view count bytes) happenings)) → part_2 z (all_happened z (new_view count bytes) happenings) f.stood ≡ true
  pub on_the_way : (z : Setting) (count : ℕ) (bytes : List ℕ) (happenings : List Happening) → 1 ≤ count → count ≤ 15 → (f : StandsFor z (all_happened z (new_view count bytes) happenings)) → part_5 z (all_happened z (new_view count bytes) happenings) f.stood ≡ true

-- all of it: what the settled view stands for are the bytes that the view presents, and with them the view is coherent
pub record CoherenceStays : Type 0 where
  pub settles : (z : Setting) (count : ℕ) (bytes : List ℕ) (happenings : List Happening) → 1 ≤ count → count ≤ 15 → 0 < z.block → stands_for z (all_happened z (new_view count bytes) happenings) ≡ present_bytes z (all_happened z (new_view count bytes) happenings)
  pub whole : (z : Setting) (count : ℕ) (bytes : List ℕ) (happenings : List Happening) → 1 ≤ count → count ≤ 15 → 0 < z.block → coherent z (all_happened z (new_view count bytes) happenings) (present_bytes z (all_happened z (new_view count bytes) happenings)) ≡ true
