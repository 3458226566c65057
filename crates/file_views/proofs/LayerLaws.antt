-- The first eight layers of soundness together, after any steps and moves of clients.
use Rattle.std.proofs.Common.{◌≡◌, ◌≤◌, ◌<◌, ℕ, ◌-◌, Bool, true, false, not, List, [], ◌∷◌, length, refl, ap, ◌∙◌, subst, inl, inr}
use Rattle.std.specs.List.{list_any}
use Rattle.std.proofs.lemmas.Bool.{and_parts, and_from}
use Rattle.sprite_ids.specs.declared.CallKind.TheVariants.{Recall, Stop}
use Rattle.file_views.specs.declared.body.FileBody.{FileBody}
use Rattle.file_views.specs.declared.body.FileBody.TheVariants as form
use Rattle.file_views.specs.declared.moves.ClientMove.{ClientMove}
use Rattle.file_views.specs.declared.moves.ClientMove.TheVariants as move
use Rattle.file_views.specs.declared.view.View.{View}
use Rattle.file_views.specs.Setting.{Setting}
use Rattle.file_views.specs.Streams.{is_any}
use Rattle.file_views.specs.Clients.{is_on}
use Rattle.file_views.specs.Views.{new_view, mode_given, is_callback, busy, waiting_calls}
use Rattle.file_views.specs.Moves.{none_on, may_move, after_move}
use Rattle.file_views.specs.Waits.{implies, defers_all}
use Rattle.file_views.proofs.DeferLaws.{all_defer}
use Rattle.file_views.specs.Coherent.{first_asks, asking_waits, part_7}
use Rattle.file_views.specs.Here.{IsClient}
use Rattle.file_views.specs.SoundShapes.{Ends}
use Rattle.file_views.specs.SoundContents.{StandsFor}
use Rattle.file_views.specs.LimitLaw.{EachLimited}
use Rattle.file_views.specs.LayerLaw.{Happening, Step, Move, happened, all_happened, Layers}
use Rattle.file_views.proofs.EffectLaws.{call_in_things}
use Rattle.file_views.proofs.ClientLaws.{choose_by}
use Rattle.file_views.proofs.CountLaws.{bool_cases}
use Rattle.file_views.proofs.ShapeLaws.{flat_of}
use Rattle.file_views.proofs.ShapeStepLaws.{steps_keep_shapes}
use Rattle.file_views.proofs.ShapeMoveLaws.{moves_keep_shapes, new_has_shapes}
use Rattle.file_views.proofs.StreamReplyLaws.{steps_keep_streams}
use Rattle.file_views.proofs.StreamMoveLaws.{moves_keep_streams, new_has_streams}
use Rattle.file_views.proofs.StampLaws.{FlatStamps, flat_stamps}
use Rattle.file_views.proofs.StampStepLaws.{steps_keep_stamps}
use Rattle.file_views.proofs.StampMoveLaws.{moves_keep_stamps, new_has_stamps}
use Rattle.file_views.proofs.DecisionLaws.{CallIn, busy_call}
use Rattle.file_views.proofs.DecisionStepLaws.{no_mode_on, steps_keep_decisions, moves_keep_decisions, new_has_decisions}
use Rattle.file_views.proofs.ModeStepLaws.{steps_keep_modes, moves_keep_modes, new_has_modes}
use Rattle.file_views.proofs.HolderLaws.{flat_holders}
use Rattle.file_views.proofs.AskingMoveLaws.{steps_keep_asking, moves_keep_asking, new_has_asking}
use Rattle.file_views.proofs.ContentPartLaws.{steps_keep_contents, moves_keep_contents, new_has_contents}
use Rattle.file_views.proofs.LimitLaws.{steps_keep_limits, moves_keep_limits, new_has_limits}
use Rattle.file_views.proofs.SizeMoveLaws.{steps_keep_sizes, moves_keep_sizes, new_has_sizes}
use Rattle.file_views.proofs.WritingMoveLaws.{steps_keep_writing, moves_keep_writing, new_has_writing}
use Rattle.file_views.proofs.HolderStepLaws.{steps_keep_holders, moves_keep_holders, new_has_holders}

-- no callback is out where no kernel was given On and the file isn't uncached
none_out : (z : Setting) (v : View) → Layers z v → none_on v ≡ true → v.uncached ≡ false → busy v ≡ false
none_out z v l n u = elim (bool_cases (busy v)) [ inl b ↦ absurd (by_body (busy_call v.calls b)) | inr b ↦ b ]
  where
    not_is : (b : Bool) → not b ≡ true → b ≡ false
    not_is true e = absurd (cc (e))
    not_is false e = refl

    stamps : FlatStamps v
    stamps = flat_stamps v (flat_of v l.shapes) l.stamps

    by_kind : (c : CallIn v.calls) (body : FileBody) → c.call.body ≡ body → is_callback body ≡ true → ⊥
    by_kind c (form.Callback stamp Stop) e q = cc (u, ((stamps.each c.call (call_in_things v c.call c.there)).stopped stamp e).1)
    by_kind c (form.Callback stamp Recall) e q =
        let i : IsClient (length v.clients) c.call.to = (subst (Ends (length v.clients) c.call.from c.call.to) e (l.shapes.calls c.call c.there).ends).1 in
        let on : is_on (mode_given v c.call.to) ≡ true = ((flat_holders v l.holders).each c.call.to i).recall_on c.call (call_in_things v c.call c.there) refl stamp e in
        cc (on, no_mode_on v.modes (c.call.to - 1) (not_is (list_any is_on v.modes) n))
    by_kind c body e q = absurd (cc (q))

    by_body : CallIn v.calls → ⊥
    by_body c = by_kind c c.call.body refl c.is_call

-- a file that is uncached already
uncached_still : (z : Setting) (v : View) → v.uncached ≡ true → Layers z v → Layers z (record v { uncached = true })
uncached_still z v u l = subst (λ b. Layers z (record v { uncached = b })) u l

layers_moved : (z : Setting) (v : View) (other : ClientMove) → may_move z v other ≡ true → (other ≡ move.Uncache → busy v ≡ false) → Layers z v → Layers z (after_move z v other)
layers_moved z v other e n l = record {
  shapes = moves_keep_shapes z v other e l.shapes;
  streams = moves_keep_streams z v other e l.shapes l.streams;
  stamps = moves_keep_stamps z v other e n l.shapes l.stamps;
  decisions = moves_keep_decisions z v other e l.decisions;
  modes = moves_keep_modes z v other e l.shapes l.stamps l.modes;
  holders = moves_keep_holders z v other e l.shapes l.streams l.stamps l.decisions l.modes l.holders;
  asking = moves_keep_asking z v other e l.shapes l.asking;
  write_backs = moves_keep_writing z v other e l.shapes l.stamps l.modes l.holders l.write_backs;
  sizes = moves_keep_sizes z v other e l.shapes l.streams l.stamps l.decisions l.modes l.holders l.asking l.write_backs l.sizes;
}

layers_move : (z : Setting) (v : View) (other : ClientMove) → may_move z v other ≡ true → Layers z v → Layers z (after_move z v other)
layers_move z v move.Uncache e l = elim (bool_cases v.uncached) [ inl u ↦ uncached_still z v u l | inr u ↦ layers_moved z v move.Uncache e (λ q. none_out z v l (and_parts (not (is_any v.opens)) (none_on v) e).1 u) l ]
layers_move z v (move.Number next) e l = layers_moved z v (move.Number next) e (λ q. absurd (cc (q))) l
layers_move z v (move.Count kernel count) e l = layers_moved z v (move.Count kernel count) e (λ q. absurd (cc (q))) l
layers_move z v (move.Queue step) e l = layers_moved z v (move.Queue step) e (λ q. absurd (cc (q))) l
layers_move z v (move.Fetch kernel block) e l = layers_moved z v (move.Fetch kernel block) e (λ q. absurd (cc (q))) l
layers_move z v (move.Look kernel) e l = layers_moved z v (move.Look kernel) e (λ q. absurd (cc (q))) l
layers_move z v (move.Zeros kernel block) e l = layers_moved z v (move.Zeros kernel block) e (λ q. absurd (cc (q))) l
layers_move z v (move.Raise version) e l = layers_moved z v (move.Raise version) e (λ q. absurd (cc (q))) l

pub layers_happened : (z : Setting) (v : View) (one : Happening) → Layers z v → Layers z (happened z v one)
layers_happened z v (Step step) l = record {
  shapes = steps_keep_shapes z v step l.shapes;
  streams = steps_keep_streams z v step l.shapes l.streams;
  stamps = steps_keep_stamps z v step l.shapes l.stamps;
  decisions = steps_keep_decisions z v step l.shapes l.decisions;
  modes = steps_keep_modes z v step l.shapes l.streams l.stamps l.decisions l.modes;
  holders = steps_keep_holders z v step l.shapes l.streams l.stamps l.decisions l.modes l.holders;
  asking = steps_keep_asking z v step l.shapes l.stamps l.asking;
  write_backs = steps_keep_writing z v step l.shapes l.stamps l.modes l.holders l.write_backs;
  sizes = steps_keep_sizes z v step l.shapes l.streams l.stamps l.decisions l.modes l.holders l.asking l.write_backs l.sizes;
}
layers_happened z v (Move other) l = choose_by (Layers z) (may_move z v other) (after_move z v other) v (λ e. layers_move z v other e l) (λ e. l)

layers_all : (z : Setting) (happenings : List Happening) (v : View) → Layers z v → Layers z (all_happened z v happenings)
layers_all z [] v l = l
layers_all z (one ∷ rest) v l = layers_all z rest (happened z v one) (layers_happened z v one l)

pub layers_stay : (z : Setting) (count : ℕ) (bytes : List ℕ) (happenings : List Happening) → 1 ≤ count → count ≤ 15 → Layers z (all_happened z (new_view count bytes) happenings)
layers_stay z count bytes happenings low high = layers_all z happenings (new_view count bytes) (record {
  shapes = new_has_shapes count bytes low high;
  streams = new_has_streams count bytes;
  stamps = new_has_stamps count bytes;
  decisions = new_has_decisions z count bytes;
  modes = new_has_modes count bytes;
  holders = new_has_holders count bytes;
  asking = new_has_asking z count bytes;
  write_backs = new_has_writing z count bytes;
  sizes = new_has_sizes z count bytes;
})

-- the limit
pub limits_happened : (z : Setting) (v : View) (one : Happening) → Layers z v → EachLimited z v → EachLimited z (happened z v one)
limits_happened z v (Step step) l f = steps_keep_limits z v step l.shapes l.streams l.stamps l.decisions l.modes l.holders l.asking l.write_backs f
limits_happened z v (Move other) l f = choose_by (EachLimited z) (may_move z v other) (after_move z v other) v (λ e. moves_keep_limits z v other e l.shapes l.streams l.stamps l.decisions l.modes l.holders l.asking l.write_backs f) (λ e. f)

limits_all : (z : Setting) (happenings : List Happening) (v : View) → Layers z v → EachLimited z v → EachLimited z (all_happened z v happenings)
limits_all z [] v l f = f
limits_all z (one ∷ rest) v l f = limits_all z rest (happened z v one) (layers_happened z v one l) (limits_happened z v one l f)

pub limits_stay : (z : Setting) (count : ℕ) (bytes : List ℕ) (happenings : List Happening) → 1 ≤ count → count ≤ 15 → length bytes ≤ z.most → EachLimited z (all_happened z (new_view count bytes) happenings)
limits_stay z count bytes happenings low high l = limits_all z happenings (new_view count bytes) (layers_stay z count bytes [] low high) (new_has_limits z count bytes l)

-- what blocks contain
contents_happened : (z : Setting) (v : View) (one : Happening) → 0 < z.block → Layers z v → StandsFor z v → StandsFor z (happened z v one)
contents_happened z v (Step step) p l f = steps_keep_contents z v step p l.shapes l.streams l.stamps l.decisions l.modes l.holders l.asking l.write_backs l.sizes f
contents_happened z v (Move other) p l f = choose_by (StandsFor z) (may_move z v other) (after_move z v other) v (λ e. moves_keep_contents z v other e p l.shapes l.streams l.stamps l.decisions l.modes l.holders l.asking l.write_backs l.sizes f) (λ e. f)

contents_all : (z : Setting) (happenings : List Happening) (v : View) → 0 < z.block → Layers z v → StandsFor z v → StandsFor z (all_happened z v happenings)
contents_all z [] v p l f = f
contents_all z (one ∷ rest) v p l f = contents_all z rest (happened z v one) p (layers_happened z v one l) (contents_happened z v one p l f)

pub contents_together : (z : Setting) (count : ℕ) (bytes : List ℕ) (happenings : List Happening) → 1 ≤ count → count ≤ 15 → 0 < z.block → StandsFor z (all_happened z (new_view count bytes) happenings)
contents_together z count bytes happenings low high p = contents_all z happenings (new_view count bytes) p (layers_stay z count bytes [] low high) (new_has_contents z count bytes)

-- while callbacks are out what asked waits
waits_so : (z : Setting) (v : View) → Layers z v → (b : Bool) → busy v ≡ b → asking_waits v ≡ true
waits_so z v l true e = ap (λ b. implies b (first_asks (waiting_calls v))) e ∙ l.decisions.queued.asks e
waits_so z v l false e = ap (λ b. implies b (first_asks (waiting_calls v))) e

pub part_7_by : (z : Setting) (v : View) → Layers z v → part_7 z v ≡ true
part_7_by z v l = and_from (asking_waits v) (defers_all z v) (waits_so z v l (busy v) refl) (all_defer z v l.shapes)
