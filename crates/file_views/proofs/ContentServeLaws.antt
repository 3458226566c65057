-- What blocks contain, the eighth layer of soundness, while the server takes up requests and answers to callbacks.
use Rattle.std.proofs.Common.{is_some, ◌≡◌, ◌≢◌, ◌≤◌, ◌<◌, ◌⊎◌, ℕ, ◌+◌, ◌-◌, ◌==◌, true, false, List, [], ◌∷◌, ◌++◌, length, map, Option, Some, None, refl, sym, ap, ◌∙◌, subst, inl, inr, arith, le_refl, append_assoc, slice_index_or}
use Rattle.std.proofs.lemmas.Bool.Decides.{eqb_tells}
use Rattle.sprite_ids.specs.declared.BlockNo.{BlockNo}
use Rattle.sprite_ids.specs.declared.StreamNo.{StreamNo}
use Rattle.sprite_ids.specs.declared.CallKind.{CallKind}
use Rattle.file_views.specs.declared.body.Access.{Access}
use Rattle.file_views.specs.declared.body.FileBody.{FileBody}
use Rattle.file_views.specs.declared.body.FileBody.TheVariants as form
use Rattle.file_views.specs.declared.client.Held.{Held}
use Rattle.file_views.specs.declared.call.FileCall.{FileCall}
use Rattle.file_views.specs.declared.step.FileStep.{FileStep}
use Rattle.file_views.specs.declared.step.FileStep.TheVariants as act
use Rattle.file_views.specs.declared.view.View.{View}
use Rattle.file_views.specs.Setting.{Setting}
use Rattle.file_views.specs.Contents.{whole, part, put_block}
use Rattle.file_views.specs.Streams.{has_stream, is_any}
use Rattle.file_views.specs.Clients.{is_on, held}
use Rattle.file_views.specs.Views.{server, client, current_stamp, is_holder, is_callback, last_stamp, as_call, things, new_call, with_call, without_call, replied, remove_call, to_the_end}
use Rattle.file_views.specs.Grants.{stamped, call_out}
use Rattle.file_views.specs.Serving.{op_reply, bytes_after, block_of, data_op, store}
use Rattle.file_views.specs.Possible.{works_on}
use Rattle.file_views.specs.Moves.{is_data, is_fetch}
use Rattle.file_views.specs.Settled.{arrival}
use Rattle.file_views.specs.Here.{In, IsClient, request_stamp}
use Rattle.file_views.specs.SoundHolders.{Ready}
use Rattle.file_views.specs.SoundRequests.{is_dirty_in, WritesBack, Present}
use Rattle.file_views.specs.SoundContents.{HasOpen, DirtyBlock, FlushedBlock}
use Rattle.file_views.proofs.MemberLaws.{in_left, in_last, last_in, in_with, in_without, without_in, with_in, held_found}
use Rattle.file_views.proofs.EffectLaws.{Apart, things_begin, things_with, things_without, call_in_things, same_thing}
use Rattle.file_views.proofs.CountLaws.{same_self, has_some}
use Rattle.file_views.proofs.OpenLaws.{OpenAt, open_there}
use Rattle.file_views.proofs.BlockLaws.{in_held}
use Rattle.file_views.proofs.ShapeLaws.{Flat}
use Rattle.file_views.proofs.ShapeStepLaws.{flat_server}
use Rattle.file_views.proofs.StreamLaws.{FlatStreams}
use Rattle.file_views.proofs.StampLaws.{own_stamp, request_sender}
use Rattle.file_views.proofs.StampChangeLaws.{no_call_thing}
use Rattle.file_views.proofs.HolderLaws.{Arrivals, DirtyIn, seat}
use Rattle.file_views.proofs.HolderChangeLaws.{arrivals_begin, ways_answer, ways_reads}
use Rattle.file_views.proofs.HolderSettleLaws.{holder_is}
use Rattle.file_views.proofs.HolderServeLaws.{Serving}
use Rattle.file_views.proofs.AskingStepLaws.{FlatAsking}
use Rattle.file_views.proofs.WritingLaws.{Low}
use Rattle.file_views.proofs.WritingStepLaws.{FlatWriting, set_rises, low_own}
use Rattle.file_views.proofs.SizeLaws.{told_self, dirty_found, present_dirty}
use Rattle.file_views.proofs.SizeServeLaws.{Sized, flush_called, idle_off, op_uncached}
use Rattle.file_views.proofs.LimitLaws.{op_no_flush}
use Rattle.file_views.proofs.BytesLaws.{by_parts, put_elsewhere, put_twice}
use Rattle.file_views.proofs.ContentLaws.{GoodBlocks, RightFetch, CarriedCall, carried_replied, carried_none, carried_bytes}
use Rattle.file_views.proofs.ContentViewLaws.{Con, NewCall, con_calls}

-- a request is answered without a grant of a stream
pub con_answer : (z : Setting) (stood : List ℕ) (v w : View) (one : FileCall) (reply : FileBody) → Flat v → In one v.calls → one.reply ≡ None → is_callback one.body ≡ false → arrival (Some reply) ≡ None → w.clients ≡ v.clients → w.bytes ≡ v.bytes → w.version ≡ v.version → w.stamps ≡ v.stamps → things w ≡ with_call (replied one reply) (things v) → ((kernel : ℕ) → HasOpen (seat w kernel).opened → HasOpen (seat v kernel).opened) → NewCall z stood v (replied one reply) → Con z stood v → Con z stood w
con_answer z stood v w one reply flat m n c r a b d e now o new con = con_calls z stood v w con (record {
  clients = a;
  bytes = b;
  version = d;
  stamps = λ kernel. let q : current_stamp w kernel ≡ current_stamp v kernel = ap (λ xs. slice_index_or xs (kernel - 1) 0) e in omega (arith, q);
  opens = o;
  arrivals = λ kernel i. subst (Arrivals kernel (own_stamp v kernel) (things v)) (sym now) (ways_answer v kernel (own_stamp v kernel) (is_holder v kernel) one reply flat.numbered.differ (call_in_things v one m) n r (λ x y. cc (x, c))).arrivals;
  told = λ x k. elim (in_with (replied one reply) x (things v) (subst (In x) now k)) [ inl p ↦ inl (told_self x (things v) p.0) | inr q ↦ inr (subst (NewCall z stood v) (sym q) new) ];
  flushes = λ x k size blocks q. subst (In x) (sym now) (with_in (replied one reply) x (things v) k (λ s. let same : x ≡ one = same_thing v x one flat.numbered.differ k (call_in_things v one m) s in cc (q, n, ap (λ (y : FileCall). y.reply) same)));
})

-- the call that is answered
pub new_answer : (z : Setting) (stood : List ℕ) (v : View) (one : FileCall) (reply : FileBody) → In one (things v) → Con z stood v → ((size : ℕ) (blocks : List (BlockNo × List ℕ)) → reply ≡ form.Flushed size blocks → ⊥) → ((kernel : ℕ) → IsClient (length v.clients) kernel → RightFetch z stood kernel (own_stamp v kernel) (replied one reply)) → ((kernel : ℕ) → IsClient (length v.clients) kernel → reply ≡ form.Done → (block : BlockNo) (size : ℕ) (piece : List ℕ) → WritesBack kernel (own_stamp v kernel) one block size piece → (there : Held) → Present (client v kernel).blocks block.0 one.dirty there → part z v.bytes block.0 ≡ there.bytes) → NewCall z stood v (replied one reply)
new_answer z stood v one reply m con f g d = record {
  no_flush = λ size blocks r. f size blocks (let q : Some reply ≡ Some (form.Flushed size blocks) = r in cc (q));
  fetch = g;
  carried = λ kernel i. carried_replied z kernel (current_stamp v kernel) (client v kernel) v.bytes one reply (con.carried kernel i one m) (d kernel i);
  low = λ kernel i. con.low kernel i one m;
}

pub no_block : (z : Setting) (stood : List ℕ) (kernel own : ℕ) (one : FileCall) (reply : FileBody) → ((other : ℕ) (piece : List ℕ) → reply ≡ form.Block other piece → ⊥) → RightFetch z stood kernel own (replied one reply)
no_block z stood kernel own one reply n e stamp block q s other piece r = absurd (n other piece (let k : Some reply ≡ Some (form.Block other piece) = r in cc (k)))

-- a callback goes out
pub con_out : (z : Setting) (stood : List ℕ) (v : View) (kind : CallKind) (kernel : ℕ) → Con z stood v → Con z stood (call_out v kind kernel)
con_out z stood v kind kernel con = con_calls z stood v (call_out v kind kernel) con (record {
  clients = refl;
  bytes = refl;
  version = refl;
  stamps = λ other. set_rises v.stamps (kernel - 1) (last_stamp v + 1) (other - 1) (omega arith);
  opens = λ other h. h;
  arrivals = λ other i. subst (Arrivals other (own_stamp v other) (things v)) (sym now) (arrivals_begin other (own_stamp v other) (things v) new refl);
  told = λ x m. elim (in_last x new (things v) (subst (In x) now m)) [ inl k ↦ inl (told_self x (things v) k) | inr e ↦ inr (subst (NewCall z stood v) (sym e) fresh) ];
  flushes = λ x m size blocks r. subst (In x) (sym now) (in_left x (things v) (new ∷ []) m);
})
  where
    new : FileCall
    new = new_call (stamped v kind kernel) server kernel (form.Callback (last_stamp v + 1) kind) None

    now : things (call_out v kind kernel) ≡ things v ++ new ∷ []
    now = things_begin (stamped v kind kernel) server kernel (form.Callback (last_stamp v + 1) kind) None

    fresh : NewCall z stood v new
    fresh = record {
      no_flush = λ size blocks r. cc (r);
      fetch = λ other i e stamp block q. absurd (cc (q));
      carried = λ other i. carried_none z other (current_stamp v other) (client v other) v.bytes new (λ block size piece w. let q = w.is_write_back in cc (q)) (λ block size piece w. let q = w.is_write_back in cc (q));
      low = λ other i e stamp q. absurd (cc (q));
    }

-- a request is taken
pub con_taken : (z : Setting) (stood : List ℕ) (v : View) (one : FileCall) → Apart v → In one v.calls → one.reply ≡ None → is_callback one.body ≡ false → Con z stood v → Con z stood (to_the_end v one)
con_taken z stood v one u m n c con = con_calls z stood v (to_the_end v one) con (record {
  clients = refl;
  bytes = refl;
  version = refl;
  stamps = λ kernel. le_refl (current_stamp v kernel);
  opens = λ kernel h. h;
  arrivals = λ kernel i. (ways_reads kernel (own_stamp v kernel) (is_holder v kernel) (things v) (things (to_the_end v one)) taken one
      (record { number_is = refl; goes_is = refl; arrival_is = refl; no_call = c; no_again = λ grant a. (a, refl); request_is = λ stamp q. (q, refl) }) refl c (call_in_things v one m)
      (subst (In taken) now (last_in taken (things (remove_call v one.number)))) back on).arrivals;
  told = λ x k. inl (elim (back x k) [ inl j ↦ told_self x (things v) j | inr e ↦ record { other = one; there = call_in_things v one m; from_is = ap (λ (y : FileCall). y.from) (sym e); to_is = ap (λ (y : FileCall). y.to) (sym e); body_is = ap (λ (y : FileCall). y.body) (sym e); dirty_is = ap (λ (y : FileCall). y.dirty) (sym e); reply_is = ap (λ (y : FileCall). y.reply) (sym e) } ]);
  flushes = λ x k size blocks r. elim (on x k) [ inl j ↦ j | inr e ↦ absurd (cc (r, n, ap (λ (y : FileCall). y.reply) e)) ];
})
  where
    taken : FileCall
    taken = record one { taken = true }

    now : things (remove_call v one.number) ++ taken ∷ [] ≡ things (to_the_end v one)
    now = append_assoc (map as_call v.carried) (without_call one.number v.calls) (taken ∷ [])

    back : (x : FileCall) → In x (things (to_the_end v one)) → In x (things v) ⊎ (x ≡ taken)
    back x k = elim (in_last x taken (things (remove_call v one.number)) (subst (In x) (sym now) k)) [ inl j ↦ inl (in_without one.number x (things v) (subst (In x) (things_without v one u m) j)).0 | inr e ↦ inr e ]

    on : (x : FileCall) → In x (things v) → In x (things (to_the_end v one)) ⊎ (x ≡ one)
    on x k = elim (eqb_tells x.number one.number) [
      | inl a ↦ inr (same_thing v x one u k (call_in_things v one m) a.1)
      | inr d ↦ inl (subst (In x) now (in_left x (things (remove_call v one.number)) (taken ∷ []) (subst (In x) (sym (things_without v one u m)) (without_in one.number x (things v) k d.1))))
    ]

-- what waits is of a stream that is open
pub waiting_open : (v : View) → Flat v → FlatStreams v → (kernel : ℕ) → IsClient (length v.clients) kernel → is_any (client v kernel).waiting ≡ true → (stream : StreamNo) × OpenAt stream kernel v.opens
waiting_open v flat streams kernel i e = first (client v kernel).waiting refl e
  where
    open_of : (s : FileStep) (stream : StreamNo) → In s (client v kernel).waiting → works_on stream s ≡ true → (t : StreamNo) × OpenAt t kernel v.opens
    open_of s stream m w =
        let h : has_stream stream (client v kernel).streams ≡ true = (streams.rest.waits kernel i s m).installed stream w in
        let c = streams.counts kernel i stream in
        let n = has_some stream (client v kernel).streams h in
        (stream, open_there stream kernel v.opens (omega (arith, c, n)))

    by_step : (s : FileStep) → In s (client v kernel).waiting → is_data s ≡ true → (t : StreamNo) × OpenAt t kernel v.opens
    by_step (act.Reading pid number place stream from many) m d = open_of (act.Reading pid number place stream from many) stream m (same_self stream)
    by_step (act.Writing pid number place stream from bytes) m d = open_of (act.Writing pid number place stream from bytes) stream m (same_self stream)
    by_step (act.Append pid number place stream bytes) m d = open_of (act.Append pid number place stream bytes) stream m (same_self stream)
    by_step s m d = absurd (cc (d))

    first : (xs : List FileStep) → (client v kernel).waiting ≡ xs → is_any xs ≡ true → (t : StreamNo) × OpenAt t kernel v.opens
    first [] q k = absurd (cc (k))
    first (s ∷ rest) q k = let m : In s (client v kernel).waiting = subst (In s) (sym q) (inl refl) in by_step s m ((flat.fine kernel i).waits s m)

-- a block that is fetched is the server's, and right
pub fetched_right : (z : Setting) (stood : List ℕ) (v : View) (one : FileCall) (block : BlockNo) → Serving v one → one.body ≡ form.Fetch (current_stamp v one.from) block → FlatAsking z v → Con z stood v → (kernel : ℕ) → IsClient (length v.clients) kernel → RightFetch z stood kernel (own_stamp v kernel) (replied one (form.Block (current_stamp v one.from) (block_of z v.bytes block)))
fetched_right z stood v one block t e asking con kernel i f stamp other q s x piece r =
    let b : form.Fetch (current_stamp v one.from) block ≡ form.Fetch stamp other = sym e ∙ q in
    let same : block ≡ other = cc (b) in
    let p : Some (form.Block (current_stamp v one.from) (block_of z v.bytes block)) ≡ Some (form.Block x piece) = r in
    let given : block_of z v.bytes block ≡ piece = cc (p) in
    sym (ap (whole z) given) ∙ subst (λ (n : BlockNo). part z v.bytes block.0 ≡ part z stood n.0) same (right (con.stands.rest block.0) (subst (λ (n : BlockNo). held (client v kernel).blocks n.0 ≡ None) (sym same) ((asking kernel i).fetch_absent one there f stamp other q s)))
  where
    there : In one (things v)
    there = call_in_things v one t.there

    open_here : (stream : StreamNo) × OpenAt stream kernel v.opens
    open_here = waiting_open v t.both.flat t.both.streams kernel i ((asking kernel i).fetch_waits one there f (ap is_fetch e))

    at_holder : (k : ℕ) → is_holder v k ≡ true → k ≡ kernel
    at_holder k h = sym (t.holders.opens k (holder_is v.holder k h) open_here.1.one open_here.1.there) ∙ open_here.1.kernel_is

    right : DirtyBlock v block.0 ⊎ (FlushedBlock v block.0 ⊎ (part z v.bytes block.0 ≡ part z stood block.0)) → held (client v kernel).blocks block.0 ≡ None → part z v.bytes block.0 ≡ part z stood block.0
    right (inl d) n =
        let k : d.kernel ≡ kernel = at_holder d.kernel ((t.holders.each d.kernel d.is_client).dirty_ready d.one d.there d.dirty).holds_it in
        let m : In d.one (client v kernel).blocks = subst (λ y. In d.one (client v y).blocks) k d.there in
        absurd (cc (n, in_held (client v kernel).blocks d.one (t.both.flat.fine kernel i).owned.differ m, ap (held (client v kernel).blocks) d.place))
    right (inr (inl g)) n = absurd (no_call_thing v t.none g.call g.there (flush_called v t.both.flat g.call g.there g.size g.blocks g.replied))
    right (inr (inr x)) n = x

-- a block is stored
con_put : (z : Setting) (stood : List ℕ) (v : View) (one : FileCall) (block : BlockNo) (size : ℕ) (piece : List ℕ) → Serving v one → one.body ≡ form.WriteBack (current_stamp v one.from) block size piece → FlatWriting z v → Con z stood v → Con z stood (record v { bytes = put_block z v.bytes block.0 size piece })
con_put z stood v one block size piece t e writing con = record {
  stands = record {
    dirty_size = con.stands.dirty_size;
    flushed_size = con.stands.flushed_size;
    flushed_part = con.stands.flushed_part;
    rest = λ n. by_place n (eqb_tells n block.0) (con.stands.rest n);
    size = inl (record { kernel = source; is_client = place; one = dirty.one; there = dirty.there; dirty = dirty.dirty });
  };
  good = con.good;
  carried = λ kernel i x m. by_call kernel i x m (eqb_tells x.number one.number);
  low = con.low;
}
  where
    source : ℕ
    source = one.from

    after : List ℕ
    after = put_block z v.bytes block.0 size piece

    there : In one (things v)
    there = call_in_things v one t.there

    place : IsClient (length v.clients) source
    place = request_sender (length v.clients) one.from one.to one.body (current_stamp v source) (t.both.flat.calls one t.there).ends (ap request_stamp e)

    writes : WritesBack source (current_stamp v source) one block size piece
    writes = record { from_kernel = refl; is_write_back = e }

    dirty_here : is_dirty_in (held (client v source).blocks block.0) ≡ true
    dirty_here = (writing source place).held_dirty one there block size piece writes t.unanswered

    dirty : DirtyIn (client v source).blocks
    dirty = dirty_found (client v source).blocks block.0 dirty_here

    ready : Ready source (own_stamp v source) (client v source).version v.version (is_holder v source) (client v source).mode (things v)
    ready = (t.holders.each source place).dirty_ready dirty.one dirty.there dirty.dirty

    own : current_stamp v source ≡ own_stamp v source
    own = let a = low_own v t.stamps source one there refl (current_stamp v source) (ap request_stamp e) in let b = t.stamps.own_below source place in omega (arith, a, b)

    short : length piece ≤ z.block
    short = (con.carried source place one there).fits block size piece writes t.unanswered

    at : (o : Option Held) → held (client v source).blocks block.0 ≡ o → is_dirty_in o ≡ true → DirtyBlock (record v { bytes = after }) block.0
    at (Some x) h d = let f = held_found (client v source).blocks block.0 x h in record { kernel = source; is_client = place; one = x; there = f.0; dirty = d; place = f.1 }
    at None h d = absurd (cc (d))

    by_place : (n : ℕ) → (((n == block.0) ≡ true) × (n ≡ block.0)) ⊎ (((n == block.0) ≡ false) × (n ≢ block.0)) → DirtyBlock v n ⊎ (FlushedBlock v n ⊎ (part z v.bytes n ≡ part z stood n)) → DirtyBlock (record v { bytes = after }) n ⊎ (FlushedBlock (record v { bytes = after }) n ⊎ (part z after n ≡ part z stood n))
    by_place n (inl k) r = inl (subst (DirtyBlock (record v { bytes = after })) (sym k.1) (at (held (client v source).blocks block.0) refl dirty_here))
    by_place n (inr k) (inl d) = inl (record { kernel = d.kernel; is_client = d.is_client; one = d.one; there = d.there; dirty = d.dirty; place = d.place })
    by_place n (inr k) (inr (inl f)) = inr (inl (record { call = f.call; there = f.there; size = f.size; blocks = f.blocks; replied = f.replied; piece = f.piece; inside = f.inside; place = f.place }))
    by_place n (inr k) (inr (inr q)) = inr (inr (put_elsewhere z v.bytes block.0 size piece n short k.1 ∙ q))

    only_source : (kernel : ℕ) → IsClient (length v.clients) kernel → DirtyIn (client v kernel).blocks → kernel ≡ source
    only_source kernel i d = let r = (t.holders.each kernel i).dirty_ready d.one d.there d.dirty in let s : Some kernel ≡ Some source = sym (holder_is v.holder kernel r.holds_it) ∙ holder_is v.holder source ready.holds_it in cc (s)

    -- another write-back with the current stamp is of another block
    other_block : (kernel : ℕ) → IsClient (length v.clients) kernel → (x : FileCall) → In x (things v) → x.number ≢ one.number → (another : BlockNo) (more : ℕ) (rest : List ℕ) (stamp : ℕ) → (stamp ≡ current_stamp v kernel) ⊎ (stamp ≡ own_stamp v kernel) → WritesBack kernel stamp x another more rest → DirtyIn (client v kernel).blocks → another.0 ≢ block.0
    other_block kernel i x m d another more rest stamp s w k same =
        let k' : kernel ≡ source = only_source kernel i k in
        let w' : WritesBack source (own_stamp v source) x another more rest = record { from_kernel = w.from_kernel ∙ k'; is_write_back = w.is_write_back ∙ ap (λ n. form.WriteBack n another more rest) (stamp_is k' s) } in
        d ((writing source place).one_each x one m there another block more size rest piece w' (record { from_kernel = refl; is_write_back = e ∙ ap (λ n. form.WriteBack n block size piece) own }) same)
      where
        stamp_is : kernel ≡ source → (stamp ≡ current_stamp v kernel) ⊎ (stamp ≡ own_stamp v kernel) → stamp ≡ own_stamp v source
        stamp_is q (inl p) = p ∙ ap (current_stamp v) q ∙ own
        stamp_is q (inr p) = p ∙ ap (own_stamp v) q

    by_call : (kernel : ℕ) → IsClient (length v.clients) kernel → (x : FileCall) → In x (things v) → (((x.number == one.number) ≡ true) × (x.number ≡ one.number)) ⊎ (((x.number == one.number) ≡ false) × (x.number ≢ one.number)) → CarriedCall z kernel (current_stamp v kernel) (client v kernel) after x
    by_call kernel i x m (inr d) = carried_bytes z kernel (current_stamp v kernel) (client v kernel) v.bytes after x (con.carried kernel i x m) (λ another more rest stamp s w held_there p. put_elsewhere z v.bytes block.0 size piece another.0 short (other_block kernel i x m d.1 another more rest stamp s w (present_dirty (client v kernel).blocks another.0 x.dirty held_there p)))
    by_call kernel i x m (inl d) =
        let same : one ≡ x = sym (same_thing v x one t.both.flat.numbered.differ m there d.1) in
        subst (CarriedCall z kernel (current_stamp v kernel) (client v kernel) after) same (record {
          whole_block = (con.carried kernel i one there).whole_block;
          stores = λ another more rest w r held_there p.
              let b : form.WriteBack (current_stamp v source) block size piece ≡ form.WriteBack (current_stamp v kernel) another more rest = sym e ∙ w.is_write_back in
              let q : part z (put_block z after another.0 more rest) another.0 ≡ part z (put_block z v.bytes another.0 more rest) another.0 = subst (λ (y : FileBody). twice y) b (put_twice z v.bytes block.0 size piece) in
              q ∙ (con.carried kernel i one there).stores another more rest w r held_there p;
          done = λ another more rest w r. absurd (cc (r, t.unanswered));
          fits = (con.carried kernel i one there).fits;
        })
      where
        twice : FileBody → Type 0
        twice (form.WriteBack stamp another more rest) = part z (put_block z after another.0 more rest) another.0 ≡ part z (put_block z v.bytes another.0 more rest) another.0
        twice body = Unit {0}

pub con_stored : (z : Setting) (stood : List ℕ) (v : View) (one : FileCall) (block : BlockNo) (size : ℕ) (piece : List ℕ) → Serving v one → one.body ≡ form.WriteBack (current_stamp v one.from) block size piece → FlatWriting z v → Con z stood v → Con z stood (store z v one block size piece)
con_stored z stood v one block size piece t e writing con =
    let u : View = record v { bytes = put_block z v.bytes block.0 size piece } in
    let put : Con z stood u = con_put z stood v one block size piece t e writing con in
    let flat : Flat u = flat_server v (put_block z v.bytes block.0 size piece) v.version v.holder v.uncached v.opens v.shared t.both.flat in
    con_answer z stood u (store z v one block size piece) one form.Done flat t.there t.unanswered (ap is_callback e) refl refl refl refl refl (things_with u one (replied one form.Done) t.both.flat.numbered.differ t.there refl) (λ kernel h. h)
    (new_answer z stood u one form.Done (call_in_things v one t.there) put (λ s blocks q. cc (q)) (λ kernel i. no_block z stood kernel (own_stamp v kernel) one form.Done (λ other x q. cc (q))) (λ kernel i q another more rest w there p. done kernel i another more rest w there p)) put
  where
    done : (kernel : ℕ) → IsClient (length v.clients) kernel → (another : BlockNo) (more : ℕ) (rest : List ℕ) → WritesBack kernel (own_stamp v kernel) one another more rest → (there : Held) → Present (client v kernel).blocks another.0 one.dirty there → part z (put_block z v.bytes block.0 size piece) another.0 ≡ there.bytes
    done kernel i another more rest w there p =
        let b : form.WriteBack (current_stamp v one.from) block size piece ≡ form.WriteBack (own_stamp v kernel) another more rest = sym e ∙ w.is_write_back in
        let stamp_is : current_stamp v one.from ≡ own_stamp v kernel = cc (b) in
        let w' : WritesBack kernel (current_stamp v kernel) one another more rest = record { from_kernel = w.from_kernel; is_write_back = w.is_write_back ∙ ap (λ n. form.WriteBack n another more rest) (sym stamp_is ∙ ap (current_stamp v) w.from_kernel) } in
        let s = (con.carried kernel i one (call_in_things v one t.there)).stores another more rest w' t.unanswered there p in
        let block_is : block ≡ another = cc (b) in
        let size_is : size ≡ more = cc (b) in
        let piece_is : piece ≡ rest = cc (b) in
        ap (λ xs. part z xs another.0) (ap (λ (x : BlockNo). put_block z v.bytes x.0 size piece) block_is ∙ ap (λ n. put_block z v.bytes another.0 n piece) size_is ∙ ap (put_block z v.bytes another.0 more) piece_is) ∙ s

-- nothing that a client holds, or that is on its way, counts: the view stands for the server's bytes
pub con_bare : (z : Setting) (w : View) → ((kernel : ℕ) → IsClient (length w.clients) kernel → GoodBlocks z w.bytes kernel w.version (client w kernel) (seat w kernel).opened (things w)) → ((kernel : ℕ) → IsClient (length w.clients) kernel → DirtyIn (client w kernel).blocks → ⊥) → ((one : FileCall) → In one (things w) → (size : ℕ) (blocks : List (BlockNo × List ℕ)) → one.reply ≡ Some (form.Flushed size blocks) → ⊥) → ((kernel : ℕ) → IsClient (length w.clients) kernel → (one : FileCall) → In one (things w) → (block : BlockNo) (size : ℕ) (piece : List ℕ) → WritesBack kernel (current_stamp w kernel) one block size piece → one.reply ≡ None → ⊥) → ((kernel : ℕ) → IsClient (length w.clients) kernel → Low kernel (current_stamp w kernel) (things w)) → Con z w.bytes w
con_bare z w good dirty flushed sent low = record {
  stands = record {
    dirty_size = λ kernel i one m d. absurd (dirty kernel i (record { one = one; there = m; dirty = d }));
    flushed_size = λ one m size blocks r. absurd (flushed one m size blocks r);
    flushed_part = λ one m size blocks r. absurd (flushed one m size blocks r);
    rest = λ n. inr (inr refl);
    size = inr (inr refl);
  };
  good = good;
  carried = λ kernel i one m. record {
    whole_block = λ block size piece x there p. absurd (dirty kernel i (present_dirty (client w kernel).blocks block.0 one.dirty there p));
    stores = λ block size piece x r there p. absurd (dirty kernel i (present_dirty (client w kernel).blocks block.0 one.dirty there p));
    done = λ block size piece x r there p. absurd (dirty kernel i (present_dirty (client w kernel).blocks block.0 one.dirty there p));
    fits = λ block size piece x r. absurd (sent kernel i one m block size piece x r);
  };
  low = low;
}

-- an operation is done
pub con_operated : (z : Setting) (stood : List ℕ) (v : View) (one : FileCall) (pid number : ℕ) (stream : StreamNo) (way : Access) → Serving v one → one.body ≡ form.Op pid number (current_stamp v one.from) stream way → Sized z v → Con z stood v → Con z (bytes_after z v.bytes way) (data_op z v one way)
con_operated z stood v one pid number stream way t e x con = con_bare z w
    (λ kernel i. record {
      engaged_size = λ o. absurd (off kernel i o);
      engaged = λ o. absurd (off kernel i o);
      fetched = λ y m f stamp block q s other piece r. absurd (elim (in_with new y (things v) (subst (In y) now m)) [
        | inl p ↦ off kernel i ((x.asking kernel i).fetch_on y p.0 f stamp block q s)
        | inr k ↦ cc (e, q, ap (λ (c : FileCall). c.body) k)
      ]);
      kept = λ o. absurd (off kernel i o);
    })
    (λ kernel i d. off kernel i ((t.holders.each kernel i).dirty_ready d.one d.there d.dirty).on)
    (λ y m size blocks r. elim (in_with new y (things v) (subst (In y) now m)) [
      | inl p ↦ no_call_thing v t.none y p.0 (flush_called v t.both.flat y p.0 size blocks r)
      | inr k ↦ op_no_flush z v.bytes way size blocks (let q : Some (op_reply z v.bytes way) ≡ Some (form.Flushed size blocks) = sym (ap (λ (c : FileCall). c.reply) k) ∙ r in cc (q))
    ])
    (λ kernel i y m block size piece s r. elim (in_with new y (things v) (subst (In y) now m)) [
      | inl p ↦ (let d : DirtyIn (client v kernel).blocks = dirty_found (client v kernel).blocks block.0 ((x.writing kernel i).held_dirty y p.0 block size piece s r) in off kernel i ((t.holders.each kernel i).dirty_ready d.one d.there d.dirty).on)
      | inr k ↦ cc (r, ap (λ (c : FileCall). c.reply) k)
    ])
    (λ kernel i y m f stamp q. elim (in_with new y (things v) (subst (In y) now m)) [
      | inl p ↦ con.low kernel i y p.0 f stamp q
      | inr k ↦ con.low kernel i one (call_in_things v one t.there) (ap (λ (c : FileCall). c.from) (sym k) ∙ f) stamp (ap (λ (c : FileCall). request_stamp c.body) (sym k) ∙ q)
    ])
  where
    w : View
    w = data_op z v one way

    new : FileCall
    new = replied one (op_reply z v.bytes way)

    now : things w ≡ with_call new (things v)
    now = things_with (record v { bytes = bytes_after z v.bytes way }) one new t.both.flat.numbered.differ t.there refl

    off : (kernel : ℕ) → IsClient (length v.clients) kernel → is_on (client v kernel).mode ≡ true → ⊥
    off kernel i o = idle_off v t.modes t.ruled t.none (op_uncached z v one pid number stream way t e x.asking) kernel i o

-- it finds the bytes that the view stands for
pub served_bytes : (z : Setting) (stood : List ℕ) (v : View) (one : FileCall) (pid number : ℕ) (stream : StreamNo) (way : Access) → 0 < z.block → Serving v one → one.body ≡ form.Op pid number (current_stamp v one.from) stream way → FlatAsking z v → Con z stood v → v.bytes ≡ stood
served_bytes z stood v one pid number stream way p t e asking con = by_parts z v.bytes stood p size (λ n. part_here n (con.stands.rest n))
  where
    clean : (kernel : ℕ) → IsClient (length v.clients) kernel → (held_one : Held) → In held_one (client v kernel).blocks → is_some held_one.dirty ≡ true → ⊥
    clean kernel i held_one n d = idle_off v t.modes t.ruled t.none (op_uncached z v one pid number stream way t e asking) kernel i ((t.holders.each kernel i).dirty_ready held_one n d).on

    unflushed : (x : FileCall) → In x (things v) → (many : ℕ) (blocks : List (BlockNo × List ℕ)) → x.reply ≡ Some (form.Flushed many blocks) → ⊥
    unflushed x n many blocks y = no_call_thing v t.none x n (flush_called v t.both.flat x n many blocks y)

    size : length v.bytes ≡ length stood
    size = elim con.stands.size [ inl d ↦ absurd (clean d.kernel d.is_client d.one d.there d.dirty) | inr o ↦ elim o [ inl s ↦ absurd (unflushed s.call s.there s.size s.blocks s.replied) | inr q ↦ q ] ]

    part_here : (n : ℕ) → DirtyBlock v n ⊎ (FlushedBlock v n ⊎ (part z v.bytes n ≡ part z stood n)) → part z v.bytes n ≡ part z stood n
    part_here n (inl d) = absurd (clean d.kernel d.is_client d.one d.there d.dirty)
    part_here n (inr (inl g)) = absurd (unflushed g.call g.there g.size g.blocks g.replied)
    part_here n (inr (inr q)) = q
