-- The first layer of soundness under a client's moves, and of a new file.
use Rattle.std.proofs.Common.{◌≡◌, ◌≤◌, ℕ, ◌-◌, true, List, length, None, refl, sym, ◌∙◌, subst, arith, leb-true}
use Rattle.std.proofs.lemmas.Bool.{and_parts}
use Rattle.std.proofs.lemmas.List.{length-replicate, get_or-replicate}
use Rattle.sprite_ids.specs.declared.CacheMode.TheVariants as cache
use Rattle.file_views.specs.declared.client.Held.{Held}
use Rattle.file_views.specs.declared.client.Client.{Client}
use Rattle.file_views.specs.declared.step.FileStep.{FileStep}
use Rattle.file_views.specs.declared.step.FileStep.TheVariants as act
use Rattle.file_views.specs.declared.moves.ClientMove.{ClientMove}
use Rattle.file_views.specs.declared.moves.ClientMove.TheVariants as move
use Rattle.file_views.specs.declared.view.View.{View}
use Rattle.file_views.specs.Setting.{Setting}
use Rattle.file_views.specs.Contents.{zeros}
use Rattle.file_views.specs.Clients.{new_client, with_block}
use Rattle.file_views.specs.Views.{new_view, client}
use Rattle.file_views.specs.Possible.{is_client, may_do}
use Rattle.file_views.specs.Moves.{kernel_of, is_data, may_move, after_move}
use Rattle.file_views.specs.Here.{IsClient}
use Rattle.file_views.specs.SoundShapes.{Shapes}
use Rattle.file_views.proofs.ClientLaws.{Fine, Follows, owned_none, owned_more, owned_with}
use Rattle.file_views.proofs.ShapeLaws.{Flat, flat_of, shapes_of, flat_client}
use Rattle.file_views.proofs.ShapeStepLaws.{client_is, free_client, flat_send_fetch, flat_queue, flat_look, flat_server}

pub working_client : (z : Setting) (v : View) (step : FileStep) → is_data step ≡ true → may_do z v step ≡ true → IsClient (length v.clients) (kernel_of step)
working_client z v (act.Reading pid number kernel stream from many) d e = free_client v kernel stream (and_parts _ _ (and_parts _ _ e).0).0
working_client z v (act.Writing pid number kernel stream from bytes) d e = free_client v kernel stream (and_parts _ _ (and_parts _ _ e).0).0
working_client z v (act.Append pid number kernel stream bytes) d e = free_client v kernel stream (and_parts _ _ (and_parts _ _ e).0).0
working_client z v step d e = absurd (cc (d))

flat_number : (v : View) (next : ℕ) → v.next ≤ next → Flat v → Flat (record v { next = next })
flat_number v next l f = record {
  items = f.items;
  calls = f.calls;
  carried = f.carried;
  fine = f.fine;
  sent = f.sent;
  numbered = record { differ = f.numbered.differ; under = λ one m. let k = f.numbered.under one m in omega (arith, k, l) };
}

counted_on : (c : Client) (count : ℕ) → c.count ≤ count → Fine c → Follows c (record c { count = count })
counted_on c count l f = record { rises = l; fine = record { owned = owned_more c.count count c.blocks l f.owned; waits = f.waits } }

zeroed : (c : Client) (new : Held) → new.dirty ≡ None → Fine c → Follows c (record c { blocks = with_block new c.blocks })
zeroed c new e f = record { rises = omega arith; fine = record { owned = owned_with c.count new c.blocks (λ number q. absurd (cc (e, q))) f.owned; waits = f.waits } }

flat_move : (z : Setting) (v : View) (other : ClientMove) → may_move z v other ≡ true → Flat v → Flat (after_move z v other)
flat_move z v (move.Number next) e f = flat_number v next (leb-true v.next next e) f
flat_move z v (move.Count kernel count) e f =
    let p = and_parts (is_client v kernel) _ e in
    let i : IsClient (length v.clients) kernel = client_is v kernel p.0 in
    flat_client v kernel (record (client v kernel) { count = count }) f i (counted_on (client v kernel) count (leb-true _ _ p.1) (f.fine kernel i))
flat_move z v (move.Queue step) e f = let p = and_parts (is_data step) (may_do z v step) e in flat_queue v (kernel_of step) step f (working_client z v step p.0 p.1) p.0
flat_move z v (move.Fetch kernel block) e f = flat_send_fetch v kernel block.0 f (client_is v kernel (and_parts (is_client v kernel) _ e).0)
flat_move z v (move.Look kernel) e f = flat_look z v kernel f (client_is v kernel (and_parts (is_client v kernel) _ e).0)
flat_move z v (move.Zeros kernel block) e f =
    let i : IsClient (length v.clients) kernel = client_is v kernel (and_parts (is_client v kernel) _ e).0 in
    flat_client v kernel (record (client v kernel) { blocks = with_block (record { block = block; bytes = zeros z.block; dirty = None }) (client v kernel).blocks }) f i (zeroed (client v kernel) (record { block = block; bytes = zeros z.block; dirty = None }) refl (f.fine kernel i))
flat_move z v (move.Raise version) e f = flat_server v v.bytes version v.holder v.uncached v.opens v.shared f
flat_move z v move.Uncache e f = flat_server v v.bytes v.version v.holder true v.opens v.shared f

pub moves_keep_shapes : (z : Setting) (v : View) (other : ClientMove) → may_move z v other ≡ true → Shapes v → Shapes (after_move z v other)
moves_keep_shapes z v other e s = shapes_of (after_move z v other) (flat_move z v other e (flat_of v s))

-- a new file
pub client_new : (count : ℕ) (bytes : List ℕ) (kernel : ℕ) → IsClient count kernel → client (new_view count bytes) kernel ≡ new_client
client_new count bytes kernel i = get_or-replicate count (kernel - 1) new_client new_client (omega (arith, i.0, i.1))

pub count_new : (count : ℕ) (bytes : List ℕ) → length (new_view count bytes).clients ≡ count
count_new count bytes = length-replicate count new_client

flat_new : (count : ℕ) (bytes : List ℕ) → 1 ≤ count → count ≤ 15 → Flat (new_view count bytes)
flat_new count bytes low high = record {
  items = record {
    some = subst (λ n. 1 ≤ n) (sym (count_new count bytes)) low;
    fifteen = subst (λ n. n ≤ 15) (sym (count_new count bytes)) high;
    stamp_each = length-replicate count 0 ∙ sym (count_new count bytes);
    mode_each = length-replicate count cache.None ∙ sym (count_new count bytes);
    given_each = length-replicate count None ∙ sym (count_new count bytes);
  };
  calls = λ one m. absurd m;
  carried = λ one m. absurd m;
  numbered = record { differ = tt; under = λ one m. absurd m };
  fine = λ kernel i. subst Fine (sym (client_new count bytes kernel (subst (λ n. IsClient n kernel) (count_new count bytes) i))) (record { owned = owned_none 0; waits = λ step m. absurd m });
  sent = λ one m number e i. absurd m;
}

pub new_has_shapes : (count : ℕ) (bytes : List ℕ) → 1 ≤ count → count ≤ 15 → Shapes (new_view count bytes)
new_has_shapes count bytes low high = shapes_of (new_view count bytes) (flat_new count bytes low high)
