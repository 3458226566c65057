-- The bytes that a view stands for are those that it presents.
use Rattle.std.proofs.Common.{take, ◌≡◌, ◌⊎◌, ℕ, true, false, List, [], ◌∷◌, length, Some, refl, sym, ap, ◌∙◌, subst, inl, inr, arith, ◌≤◌, ◌<◌, is_some, Option, None, ◌-◌, ◌*◌, ◌++◌, map, length-take, ◌+◌, append-nil, get_or}
use Rattle.sprite_ids.specs.declared.BlockNo.{BlockNo}
use Rattle.file_views.specs.declared.body.FileBody.{FileBody}
use Rattle.file_views.specs.declared.body.FileBody.TheVariants as form
use Rattle.file_views.specs.declared.client.Held.{Held}
use Rattle.file_views.specs.declared.call.FileCall.{FileCall}
use Rattle.file_views.specs.declared.view.View.{View}
use Rattle.file_views.specs.Setting.{Setting}
use Rattle.file_views.specs.Contents.{part, zeros, cut, put_block, grown, overlay}
use Rattle.file_views.specs.Clients.{dirty_blocks}
use Rattle.file_views.specs.Views.{client, things, is_callback, busy, current_stamp}
use Rattle.file_views.specs.Settled.{over_blocks, sized, with_dirty, bytes_held, bytes_of_settled}
use Rattle.file_views.specs.Here.{Answered, In, IsClient, at_kernel}
use Rattle.file_views.specs.SoundContents.{GoodContents, StandsFor, DirtyBlock, FlushedBlock, LocalContents, SomeFlushed, flushed_bytes, or_else, first_flushed, or_bytes, present_bytes}
use Rattle.file_views.proofs.StampLaws.{only_call}
use Rattle.file_views.proofs.SizeMoveLaws.{Full, full_of}
use Rattle.file_views.proofs.ContentViewLaws.{Con, ready_block, Leans, flushed_target}
use Rattle.file_views.proofs.ContentServeLaws.{served_bytes}
use Rattle.file_views.specs.LayerLaw.{Layers}
use Rattle.file_views.proofs.ContentPartLaws.{con_of}
use Rattle.file_views.specs.Streams.{is_any}
use Rattle.file_views.proofs.MemberLaws.{filter_in, in_map, Made, map_in, in_filter}
use Rattle.file_views.specs.Serving.{store_blocks}
use Rattle.file_views.proofs.EffectLaws.{call_in_things, same_thing}
use Rattle.file_views.proofs.SizeServeLaws.{flush_called}
use Rattle.file_views.proofs.HolderSettleLaws.{holder_is}
use Rattle.file_views.proofs.SizeLaws.{length_put, length_grown}
use Rattle.file_views.proofs.BytesLaws.{by_parts, part_same, grown_byte}
use Rattle.file_views.proofs.ContentGrantLaws.{PieceAt, stored_part, length_stored}
use Rattle.file_views.proofs.ContentMoveLaws.{leans_of}
use Rattle.std.proofs.lemmas.List.{take_all}
use Rattle.file_views.specs.declared.body.Access.{Access}
use Rattle.file_views.proofs.StampServeLaws.{idle}
use Rattle.sprite_ids.specs.declared.StreamNo.{StreamNo}

-- the first answer to a callback that has blocks, or none
pub record FirstFlush (z : Setting) (bytes : List ℕ) (calls : List FileCall) : Type 0 where
  pub call : FileCall
  pub there : In call calls
  pub size : ℕ
  pub piece : BlockNo × List ℕ
  pub rest : List (BlockNo × List ℕ)
  pub replied : call.reply ≡ Some (form.Flushed size (piece ∷ rest))
  pub is : first_flushed z bytes calls ≡ Some (store_blocks z bytes size (piece ∷ rest))

abbrev pub NoneFlushed : List FileCall → Type 0
NoneFlushed calls = (one : FileCall) → In one calls → (size : ℕ) (blocks : List (BlockNo × List ℕ)) → one.reply ≡ Some (form.Flushed size blocks) → is_any blocks ≡ false

pub flush_found : (z : Setting) (bytes : List ℕ) (calls : List FileCall) → ((first_flushed z bytes calls ≡ None) × NoneFlushed calls) ⊎ FirstFlush z bytes calls
flush_found z bytes [] = inl (refl, λ one m. absurd m)
flush_found z bytes (c ∷ cs) = by_reply c.reply refl (flush_found z bytes cs)
  where
    skip : or_else (flushed_bytes z bytes c.reply) (first_flushed z bytes cs) ≡ first_flushed z bytes cs → ((size : ℕ) (blocks : List (BlockNo × List ℕ)) → c.reply ≡ Some (form.Flushed size blocks) → is_any blocks ≡ false) → ((first_flushed z bytes cs ≡ None) × NoneFlushed cs) ⊎ FirstFlush z bytes cs → ((first_flushed z bytes (c ∷ cs) ≡ None) × NoneFlushed (c ∷ cs)) ⊎ FirstFlush z bytes (c ∷ cs)
    skip e n (inl p) = inl (e ∙ p.0, λ one m size blocks q. elim m [ inl k ↦ n size blocks (ap (λ (y : FileCall). y.reply) (sym k) ∙ q) | inr k ↦ p.1 one k size blocks q ])
    skip e n (inr f) = inr (record { call = f.call; there = inr f.there; size = f.size; piece = f.piece; rest = f.rest; replied = f.replied; is = e ∙ f.is })

    none_of_none : (size other : ℕ) (blocks : List (BlockNo × List ℕ)) → c.reply ≡ Some (form.Flushed other []) → c.reply ≡ Some (form.Flushed size blocks) → is_any blocks ≡ false
    none_of_none size other blocks r q = let e : Some (form.Flushed other []) ≡ Some (form.Flushed size blocks) = sym r ∙ q in let f : [] ≡ blocks = cc (e) in ap is_any (sym f)

    by_reply : (reply : Option FileBody) → c.reply ≡ reply → ((first_flushed z bytes cs ≡ None) × NoneFlushed cs) ⊎ FirstFlush z bytes cs → ((first_flushed z bytes (c ∷ cs) ≡ None) × NoneFlushed (c ∷ cs)) ⊎ FirstFlush z bytes (c ∷ cs)
    by_reply (Some (form.Flushed size (piece ∷ rest))) r h = inr (record { call = c; there = inl refl; size = size; piece = piece; rest = rest; replied = r; is = ap (λ o. or_else (flushed_bytes z bytes o) (first_flushed z bytes cs)) r })
    by_reply (Some (form.Flushed size [])) r h = skip (ap (λ o. or_else (flushed_bytes z bytes o) (first_flushed z bytes cs)) r) (λ other blocks q. none_of_none other size blocks r q) h
    by_reply (Some body) r h = skip (ap (λ o. or_else (flushed_bytes z bytes o) (first_flushed z bytes cs)) r) (λ other blocks q. absurd (cc (r, q))) h
    by_reply None r h = skip (ap (λ o. or_else (flushed_bytes z bytes o) (first_flushed z bytes cs)) r) (λ other blocks q. absurd (cc (r, q))) h

-- dirty blocks over bytes of their size are stored as an answer's blocks are
pub grown_full : (bytes : List ℕ) (size : ℕ) → length bytes ≡ size → grown bytes size ≡ bytes
grown_full bytes size e = ap (λ n. bytes ++ zeros n) (gap e) ∙ append-nil bytes
  where
    gap : length bytes ≡ size → size - length bytes ≡ 0
    gap e = omega (arith, e)

pub over_store : (z : Setting) (size : ℕ) (blocks : List Held) (bytes : List ℕ) → length bytes ≡ size → ((one : Held) → In one blocks → one.block.0 * z.block + length (cut z one.bytes one.block.0 size) ≤ size) → over_blocks z size blocks bytes ≡ store_blocks z bytes size (map (λ (one : Held). (one.block, cut z one.bytes one.block.0 size)) blocks)
over_store z size [] bytes e w = refl
over_store z size (one ∷ rest) bytes e w =
    let same : overlay bytes (one.block.0 * z.block) (cut z one.bytes one.block.0 size) ≡ put_block z bytes one.block.0 size (cut z one.bytes one.block.0 size) = ap (λ xs. overlay xs (one.block.0 * z.block) (cut z one.bytes one.block.0 size)) (sym (grown_full bytes size e)) in
    let long : length (put_block z bytes one.block.0 size (cut z one.bytes one.block.0 size)) ≡ size = (let a = length_put z bytes one.block.0 size (cut z one.bytes one.block.0 size) (w one (inl refl)) in omega (arith, a, e)) in
    ap (over_blocks z size rest) same ∙ over_store z size rest (put_block z bytes one.block.0 size (cut z one.bytes one.block.0 size)) long (λ x m. w x (inr m))

sized_part : (z : Setting) (bytes : List ℕ) (size number : ℕ) → length bytes ≤ size → part z (sized bytes size) number ≡ part z bytes number
sized_part z bytes size number l = part_same z (sized bytes size) bytes number (λ j h. ap (λ xs. get_or xs (number * z.block + j) 0) whole_taken ∙ grown_byte bytes size (number * z.block + j))
  where
    whole_taken : take size (grown bytes size) ≡ grown bytes size
    whole_taken = take_all size (grown bytes size) (let a = length_grown bytes size in omega (arith, a, l))

some_in : (xs : List (BlockNo × List ℕ)) (x : BlockNo × List ℕ) → In x xs → is_any xs ≡ true
some_in [] x m = absurd m
some_in (y ∷ ys) x m = refl

pub present_is : (z : Setting) (stood : List ℕ) (v : View) → 0 < z.block → Full z v → Con z stood v → present_bytes z v ≡ stood
present_is z stood v p t con = elim (flush_found z v.bytes v.calls) [
  | inl n ↦ ap (or_bytes (bytes_of_settled z v)) n.0 ∙ held_is n.1 v.holder refl
  | inr f ↦ ap (or_bytes (bytes_of_settled z v)) f.is ∙ flushed_is f
]
  where
    leans : Leans z v
    leans = leans_of z v t

    at_holder : (k : ℕ) → IsClient (length v.clients) k → (one : Held) → In one (client v k).blocks → is_some one.dirty ≡ true → v.holder ≡ Some k
    at_holder k i one m d = holder_is v.holder k ((t.holders.each k i).dirty_ready one m d).holds_it

    one_only : (xs : Option ℕ) (a b : ℕ) → xs ≡ Some a → xs ≡ Some b → a ≡ b
    one_only xs a b e f = let q : Some a ≡ Some b = sym e ∙ f in cc (q)

    no_dirty_flushed : SomeFlushed v → (k : ℕ) → IsClient (length v.clients) k → (one : Held) → In one (client v k).blocks → is_some one.dirty ≡ true → ⊥
    no_dirty_flushed s k i one m d =
        let g = flushed_target z v leans s in
        let e : s.call.to ≡ k = one_only v.holder s.call.to k (holder_is v.holder s.call.to g.0) (at_holder k i one m d) in
        (t.holders.each k i).dirty_unanswered one m d (subst (λ x. Answered x (things v)) e g.1)

    flushed_is : (f : FirstFlush z v.bytes v.calls) → store_blocks z v.bytes f.size (f.piece ∷ f.rest) ≡ stood
    flushed_is f = by_parts z (store_blocks z v.bytes f.size (f.piece ∷ f.rest)) stood p (length_stored z f.size f.piece f.rest v.bytes covers within ∙ whole_size) (λ n. stored_part z stood f.size (f.piece ∷ f.rest) v.bytes (stood_under whole_size) covers within (con.stands.flushed_part f.call there f.size (f.piece ∷ f.rest) f.replied) n (at n (con.stands.rest n)))
      where
        there : In f.call (things v)
        there = call_in_things v f.call f.there

        some : SomeFlushed v
        some = record { call = f.call; there = there; size = f.size; blocks = f.piece ∷ f.rest; replied = f.replied; some = refl }

        is_call : is_callback f.call.body ≡ true
        is_call = flush_called v t.standing.flat f.call there f.size (f.piece ∷ f.rest) f.replied

        place : IsClient (length v.clients) f.call.to
        place = t.holders.is_client f.call.to (holder_is v.holder f.call.to (flushed_target z v leans some).0)

        whole_size : f.size ≡ length stood
        whole_size = con.stands.flushed_size f.call there f.size (f.piece ∷ f.rest) f.replied refl

        stood_under : f.size ≡ length stood → length stood ≤ f.size
        stood_under e = omega (arith, e)

        covers : length v.bytes ≤ f.size
        covers = ((t.sizes f.call.to place).each f.call there).flushed_covers refl f.size (f.piece ∷ f.rest) f.replied refl

        within : (x : BlockNo × List ℕ) → In x (f.piece ∷ f.rest) → x.0.0 * z.block + length x.1 ≤ f.size
        within = ((t.sizes f.call.to place).each f.call there).flushed_within refl f.size (f.piece ∷ f.rest) f.replied

        at : (n : ℕ) → DirtyBlock v n ⊎ (FlushedBlock v n ⊎ (part z v.bytes n ≡ part z stood n)) → PieceAt n (f.piece ∷ f.rest) ⊎ (part z v.bytes n ≡ part z stood n)
        at n (inl d) = absurd (no_dirty_flushed some d.kernel d.is_client d.one d.there d.dirty)
        at n (inr (inr e)) = inr e
        at n (inr (inl g)) =
            let other : SomeFlushed v = record { call = g.call; there = g.there; size = g.size; blocks = g.blocks; replied = g.replied; some = some_in g.blocks g.piece g.inside } in
            let to : g.call.to ≡ f.call.to = one_only v.holder g.call.to f.call.to (holder_is v.holder g.call.to (flushed_target z v leans other).0) (holder_is v.holder f.call.to (flushed_target z v leans some).0) in
            let number : g.call.number ≡ f.call.number = (t.standing.stamps.pairs g.call f.call g.there there).callbacks (flush_called v t.standing.flat g.call g.there g.size g.blocks g.replied) is_call to in
            let same : g.call ≡ f.call = same_thing v g.call f.call t.standing.flat.numbered.differ g.there there number in
            let replies : Some (form.Flushed g.size g.blocks) ≡ Some (form.Flushed f.size (f.piece ∷ f.rest)) = sym g.replied ∙ (ap (λ (y : FileCall). y.reply) same ∙ f.replied) in
            let blocks : g.blocks ≡ f.piece ∷ f.rest = cc (replies) in
            inl (record { piece = g.piece; inside = subst (In g.piece) blocks g.inside; place = g.place })

    none_here : NoneFlushed v.calls → (one : FileCall) → In one (things v) → (size : ℕ) (blocks : List (BlockNo × List ℕ)) → one.reply ≡ Some (form.Flushed size blocks) → is_any blocks ≡ false
    none_here n one m size blocks r = n one (only_call v one m (flush_called v t.standing.flat one m size blocks r)) size blocks r

    no_piece : NoneFlushed v.calls → (n : ℕ) → FlushedBlock v n → ⊥
    no_piece none n g = cc (some_in g.blocks g.piece g.inside, none_here none g.call g.there g.size g.blocks g.replied)

    all_server : NoneFlushed v.calls → ((k : ℕ) → IsClient (length v.clients) k → (one : Held) → In one (client v k).blocks → is_some one.dirty ≡ true → ⊥) → v.bytes ≡ stood
    all_server none clean = by_parts z v.bytes stood p (elim con.stands.size [ inl d ↦ absurd (clean d.kernel d.is_client d.one d.there d.dirty) | inr o ↦ elim o [ inl s ↦ absurd (cc (s.some, none_here none s.call s.there s.size s.blocks s.replied)) | inr e ↦ e ] ])
        (λ n. elim (con.stands.rest n) [ inl d ↦ absurd (clean d.kernel d.is_client d.one d.there d.dirty) | inr o ↦ elim o [ inl g ↦ absurd (no_piece none n g) | inr e ↦ e ] ])

    held_is : NoneFlushed v.calls → (o : Option ℕ) → v.holder ≡ o → bytes_held z v o ≡ stood
    held_is none None e = all_server none (λ k i one m d. (let q = at_holder k i one m d in cc (q, e)))
    held_is none (Some k) e = by_blocks (dirty_blocks (client v k).blocks) refl
      where
        here : (other : ℕ) → IsClient (length v.clients) other → (one : Held) → In one (client v other).blocks → is_some one.dirty ≡ true → In one (dirty_blocks (client v k).blocks)
        here other i one m d =
            let q : other ≡ k = one_only v.holder other k (at_holder other i one m d) e in
            filter_in (λ (x : Held). is_some x.dirty) one (client v k).blocks (subst (λ x. In one (client v x).blocks) q m) d

        place : IsClient (length v.clients) k
        place = t.holders.is_client k e

        by_blocks : (blocks : List Held) → dirty_blocks (client v k).blocks ≡ blocks → with_dirty z v.bytes (client v k).size blocks ≡ stood
        by_blocks [] q = all_server none (λ other i one m d. subst (In one) q (here other i one m d))
        by_blocks (first ∷ rest) q = over_store z size (first ∷ rest) (sized v.bytes size) long within ∙ by_parts z (store_blocks z (sized v.bytes size) size (map to (first ∷ rest))) stood p (length_stored z size (to first) (map to rest) (sized v.bytes size) (under long) stored_within ∙ is_size)
            (λ n. stored_part z stood size (map to (first ∷ rest)) (sized v.bytes size) (stood_under is_size) (under long) stored_within pieces_right n (at n (con.stands.rest n)))
          where
            size : ℕ
            size = (client v k).size

            to : Held → BlockNo × List ℕ
            to one = (one.block, cut z one.bytes one.block.0 size)

            dirty_of : (one : Held) → In one (first ∷ rest) → In one (client v k).blocks × (is_some one.dirty ≡ true)
            dirty_of one m = in_filter (λ (x : Held). is_some x.dirty) one (client v k).blocks (subst (In one) (sym q) m)

            is_size : size ≡ length stood
            is_size = let d = dirty_of first (inl refl) in con.stands.dirty_size k place first d.0 d.1

            stood_under : size ≡ length stood → length stood ≤ size
            stood_under e = omega (arith, e)

            under : length (sized v.bytes size) ≡ size → length (sized v.bytes size) ≤ size
            under e = omega (arith, e)

            long : length (sized v.bytes size) ≡ size
            long = let a = length-take size (grown v.bytes size) in let b = length_grown v.bytes size in omega (arith, a, b)

            covers : length v.bytes ≤ size
            covers = let d = dirty_of first (inl refl) in ((t.sizes k place).holder ((t.holders.each k place).dirty_ready first d.0 d.1) ((t.holders.each k place).dirty_unanswered first d.0 d.1)).covers

            within : (one : Held) → In one (first ∷ rest) → one.block.0 * z.block + length (cut z one.bytes one.block.0 size) ≤ size
            within one m = let d = dirty_of one m in let l = (t.writing k place).dirty_within one d.0 d.1 in let a = length-take (size - one.block.0 * z.block) one.bytes in omega (arith, l, a)

            stored_within : (x : BlockNo × List ℕ) → In x (map to (first ∷ rest)) → x.0.0 * z.block + length x.1 ≤ size
            stored_within x m = let r : Made to x (first ∷ rest) = in_map to x (first ∷ rest) m in subst (λ (y : BlockNo × List ℕ). y.0.0 * z.block + length y.1 ≤ size) (sym r.makes) (within r.x r.there)

            pieces_right : (x : BlockNo × List ℕ) → In x (map to (first ∷ rest)) → x.1 ≡ cut z (part z stood x.0.0) x.0.0 size
            pieces_right x m =
                let r : Made to x (first ∷ rest) = in_map to x (first ∷ rest) m in
                let d = dirty_of r.x r.there in
                subst (λ (y : BlockNo × List ℕ). y.1 ≡ cut z (part z stood y.0.0) y.0.0 size) (sym r.makes) (ap (λ xs. cut z xs r.x.block.0 size) (ready_block z stood v leans con k place ((t.holders.each k place).dirty_ready r.x d.0 d.1) r.x d.0))

            at : (n : ℕ) → DirtyBlock v n ⊎ (FlushedBlock v n ⊎ (part z v.bytes n ≡ part z stood n)) → PieceAt n (map to (first ∷ rest)) ⊎ (part z (sized v.bytes size) n ≡ part z stood n)
            at n (inl d) = let m : In d.one (first ∷ rest) = subst (In d.one) q (here d.kernel d.is_client d.one d.there d.dirty) in inl (record { piece = to d.one; inside = map_in to d.one (first ∷ rest) m; place = d.place })
            at n (inr (inl g)) = absurd (no_piece none n g)
            at n (inr (inr e)) = inr (sized_part z v.bytes size n covers ∙ e)

pub present_by : (z : Setting) (v : View) → Layers z v → 0 < z.block → (f : StandsFor z v) → present_bytes z v ≡ f.stood
present_by z v l p f = present_is z f.stood v p t (con_of z v t.standing.stamps f)
  where
    t : Full z v
    t = full_of z v l.shapes l.streams l.stamps l.decisions l.modes l.holders l.asking l.write_backs l.sizes

pub good_contents_by : (z : Setting) (v : View) → Layers z v → 0 < z.block → StandsFor z v → GoodContents z v
good_contents_by z v l p f kernel i = subst (λ xs. LocalContents z xs (at_kernel v kernel)) (sym (present_by z v l p f)) (f.each kernel i)

-- an operation that the server takes up finds those bytes there
pub served_by : (z : Setting) (v : View) → Layers z v → 0 < z.block → StandsFor z v → busy v ≡ false → (one : FileCall) → In one v.calls → one.reply ≡ None → (pid number : ℕ) (stream : StreamNo) (way : Access) → one.body ≡ form.Op pid number (current_stamp v one.from) stream way → v.bytes ≡ present_bytes z v
served_by z v l p f q one m r pid number stream way e = served_bytes z f.stood v one pid number stream way p (record { both = record { flat = t.standing.flat; streams = t.standing.streams }; stamps = t.standing.stamps; ruled = t.standing.decided.ruled; modes = t.standing.modes; holders = t.holders; there = m; unanswered = r; none = idle v q }) e t.asking (con_of z v t.standing.stamps f) ∙ sym (present_by z v l p f)
  where
    t : Full z v
    t = full_of z v l.shapes l.streams l.stamps l.decisions l.modes l.holders l.asking l.write_backs l.sizes
