-- The third layer of soundness under a client's moves, and of a new file.
use Rattle.std.proofs.Common.{◌≡◌, ◌<◌, ℕ, ◌-◌, true, false, List, length, None, refl, ap, subst, arith}
use Rattle.std.proofs.lemmas.Bool.{and_parts}
use Rattle.std.proofs.lemmas.List.{get_or-replicate}
use Rattle.file_views.specs.declared.client.Client.{Client}
use Rattle.file_views.specs.declared.moves.ClientMove.{ClientMove}
use Rattle.file_views.specs.declared.moves.ClientMove.TheVariants as move
use Rattle.file_views.specs.declared.view.View.{View}
use Rattle.file_views.specs.Setting.{Setting}
use Rattle.file_views.specs.Contents.{zeros}
use Rattle.file_views.specs.Clients.{with_block}
use Rattle.file_views.specs.Views.{grant_given, new_view, client, busy}
use Rattle.file_views.specs.Possible.{is_client, may_do}
use Rattle.file_views.specs.Moves.{kernel_of, is_data, may_move, after_move}
use Rattle.file_views.specs.Here.{IsClient}
use Rattle.file_views.specs.SoundShapes.{Shapes}
use Rattle.file_views.specs.SoundStamps.{Stamps}
use Rattle.file_views.proofs.ShapeLaws.{flat_of}
use Rattle.file_views.proofs.ShapeStepLaws.{client_is}
use Rattle.file_views.proofs.ShapeMoveLaws.{working_client, client_new, count_new}
use Rattle.file_views.proofs.StampLaws.{own_stamp, FlatStamps, stamps_of, flat_stamps}
use Rattle.file_views.proofs.StampChangeLaws.{stamps_client, stamps_same, stamps_told}
use Rattle.file_views.proofs.StampServeLaws.{Two, idle}
use Rattle.file_views.proofs.StampStepLaws.{two_fetch, two_queue, two_look}

stamps_move : (z : Setting) (v : View) (other : ClientMove) → may_move z v other ≡ true → (other ≡ move.Uncache → busy v ≡ false) → Two v → FlatStamps (after_move z v other)
stamps_move z v (move.Number next) e n t = stamps_same v (record v { next = next }) refl refl refl refl refl refl t.stamps
stamps_move z v (move.Count kernel count) e n t = stamps_client v kernel (record (client v kernel) { count = count }) t.stamps (client_is v kernel (and_parts (is_client v kernel) _ e).0) refl
stamps_move z v (move.Queue step) e n t = let p = and_parts (is_data step) (may_do z v step) e in (two_queue v (kernel_of step) step t (working_client z v step p.0 p.1) p.0).stamps
stamps_move z v (move.Fetch kernel block) e n t = (two_fetch v kernel block.0 t (client_is v kernel (and_parts (is_client v kernel) _ e).0)).stamps
stamps_move z v (move.Look kernel) e n t = (two_look z v kernel t (client_is v kernel (and_parts (is_client v kernel) _ e).0)).stamps
stamps_move z v (move.Zeros kernel block) e n t = stamps_client v kernel (record (client v kernel) { blocks = with_block (record { block = block; bytes = zeros z.block; dirty = None }) (client v kernel).blocks }) t.stamps (client_is v kernel (and_parts (is_client v kernel) _ e).0) refl
stamps_move z v (move.Raise version) e n t = stamps_same v (record v { version = version }) refl refl refl refl refl refl t.stamps
stamps_move z v move.Uncache e n t = stamps_told v (record v { uncached = true }) (idle v (n refl)) refl refl refl refl t.stamps

pub moves_keep_stamps : (z : Setting) (v : View) (other : ClientMove) → may_move z v other ≡ true → (other ≡ move.Uncache → busy v ≡ false) → Shapes v → Stamps v → Stamps (after_move z v other)
moves_keep_stamps z v other e n s p = stamps_of (after_move z v other) (stamps_move z v other e n (record { flat = flat_of v s; stamps = flat_stamps v (flat_of v s) p }))

-- a new file
pub new_has_stamps : (count : ℕ) (bytes : List ℕ) → Stamps (new_view count bytes)
new_has_stamps count bytes = stamps_of (new_view count bytes) (record {
  own_below = λ kernel i. let none : own_stamp (new_view count bytes) kernel ≡ 0 = ap (λ (c : Client). c.stamp) (client_new count bytes kernel (within kernel i)) in omega (arith, none);
  given_below = λ kernel i grant e. let none : grant_given (new_view count bytes) kernel ≡ None = get_or-replicate count (kernel - 1) None None (low kernel (within kernel i)) in absurd (cc (e, none));
  each = λ one m. absurd m;
  pairs = λ one other m. absurd m;
})
  where
    within : (kernel : ℕ) → IsClient (length (new_view count bytes).clients) kernel → IsClient count kernel
    within kernel i = subst (λ n. IsClient n kernel) (count_new count bytes) i

    low : (kernel : ℕ) → IsClient count kernel → kernel - 1 < count
    low kernel i = omega (arith, i.0, i.1)
