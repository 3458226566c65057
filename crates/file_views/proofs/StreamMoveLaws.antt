-- The second layer of soundness under a client's moves, and of a new file.
use Rattle.std.proofs.Common.{◌≡◌, ℕ, true, List, length, None, refl, ap, subst, arith}
use Rattle.std.proofs.lemmas.Bool.{and_parts}
use Rattle.file_views.specs.declared.client.Client.{Client}
use Rattle.file_views.specs.declared.moves.ClientMove.{ClientMove}
use Rattle.file_views.specs.declared.moves.ClientMove.TheVariants as move
use Rattle.file_views.specs.declared.view.View.{View}
use Rattle.file_views.specs.Setting.{Setting}
use Rattle.file_views.specs.Contents.{zeros}
use Rattle.file_views.specs.Streams.{copies}
use Rattle.file_views.specs.Clients.{new_client, with_block}
use Rattle.file_views.specs.Views.{new_view, client}
use Rattle.file_views.specs.Possible.{is_client, may_do}
use Rattle.file_views.specs.Moves.{kernel_of, is_data, may_move, after_move}
use Rattle.file_views.specs.Here.{In, IsClient}
use Rattle.file_views.specs.SoundShapes.{Shapes}
use Rattle.file_views.specs.SoundStreams.{Streams}
use Rattle.file_views.proofs.ShapeLaws.{flat_of}
use Rattle.file_views.proofs.ShapeStepLaws.{client_is}
use Rattle.file_views.proofs.ShapeMoveLaws.{working_client, client_new, count_new}
use Rattle.file_views.proofs.StreamLaws.{FlatStreams, flat_streams, streams_of}
use Rattle.file_views.proofs.StreamChangeLaws.{streams_client, streams_same}
use Rattle.file_views.proofs.StreamServeLaws.{Both}
use Rattle.file_views.proofs.StreamStepLaws.{both_queue, both_fetch, both_look}
use Rattle.file_views.proofs.StreamReplyLaws.{data_open}

streams_move : (z : Setting) (v : View) (other : ClientMove) → may_move z v other ≡ true → Both v → FlatStreams (after_move z v other)
streams_move z v (move.Number next) e b = streams_same v (record v { next = next }) refl refl refl refl refl b.streams
streams_move z v (move.Count kernel count) e b = streams_client v kernel (record (client v kernel) { count = count }) b.streams (client_is v kernel (and_parts (is_client v kernel) _ e).0) refl (λ s m. m)
streams_move z v (move.Queue step) e b = let p = and_parts (is_data step) (may_do z v step) e in (both_queue v (kernel_of step) step b (working_client z v step p.0 p.1) p.0 (data_open z v step p.0 p.1 b.streams.rest)).streams
streams_move z v (move.Fetch kernel block) e b = (both_fetch v kernel block.0 b (client_is v kernel (and_parts (is_client v kernel) _ e).0)).streams
streams_move z v (move.Look kernel) e b = (both_look z v kernel b (client_is v kernel (and_parts (is_client v kernel) _ e).0)).streams
streams_move z v (move.Zeros kernel block) e b = streams_client v kernel (record (client v kernel) { blocks = with_block (record { block = block; bytes = zeros z.block; dirty = None }) (client v kernel).blocks }) b.streams (client_is v kernel (and_parts (is_client v kernel) _ e).0) refl (λ s m. m)
streams_move z v (move.Raise version) e b = streams_same v (record v { version = version }) refl refl refl refl refl b.streams
streams_move z v move.Uncache e b = streams_same v (record v { uncached = true }) refl refl refl refl refl b.streams

pub moves_keep_streams : (z : Setting) (v : View) (other : ClientMove) → may_move z v other ≡ true → Shapes v → Streams v → Streams (after_move z v other)
moves_keep_streams z v other e s t = streams_of (after_move z v other) (streams_move z v other e (record { flat = flat_of v s; streams = flat_streams v t }))

-- a new file
nothing_new : (count : ℕ) (bytes : List ℕ) → FlatStreams (new_view count bytes)
nothing_new count bytes = record {
  rest = record {
    new = λ one m. absurd m;
    opens = record { differ = tt; client = λ one m. absurd m; counts = λ one m. absurd m; modes = λ one other m. absurd m };
    works = λ one m. absurd m;
    waits = λ kernel i step m. absurd (subst (λ (c : Client). In step c.waiting) (fresh kernel i) m);
  };
  counts = λ kernel i stream. let none : copies stream (client (new_view count bytes) kernel).streams ≡ 0 = ap (λ (c : Client). copies stream c.streams) (fresh kernel i) in omega (arith, none);
}
  where
    fresh : (kernel : ℕ) → IsClient (length (new_view count bytes).clients) kernel → client (new_view count bytes) kernel ≡ new_client
    fresh kernel i = client_new count bytes kernel (subst (λ n. IsClient n kernel) (count_new count bytes) i)

pub new_has_streams : (count : ℕ) (bytes : List ℕ) → Streams (new_view count bytes)
new_has_streams count bytes = streams_of (new_view count bytes) (nothing_new count bytes)
