-- Write-backs, a part of the seventh layer of soundness, under all steps and moves, and of a new file.
use Rattle.std.proofs.Common.{◌≡◌, ◌≤◌, ◌<◌, ◌⊎◌, ℕ, ◌+◌, ◌-◌, ◌*◌, ◌==◌, nat_le, nat_lt, Bool, true, false, cond, not, ◌&&◌, is_some, is_none, List, [], ◌∷◌, ◌++◌, length, map, le_refl, Option, Some, None, refl, sym, ap, ◌∙◌, subst, inl, inr, arith, eq-eqb, length-take}
use Rattle.std.proofs.lemmas.Bool.{and_parts, and_from, ltb-true}
use Rattle.sprite_ids.specs.declared.BlockNo.{BlockNo}
use Rattle.sprite_ids.specs.declared.StreamNo.{StreamNo}
use Rattle.file_views.specs.declared.grant.FileGrant.{FileGrant}
use Rattle.file_views.specs.declared.body.FileBody.{FileBody}
use Rattle.file_views.specs.declared.body.FileBody.TheVariants as form
use Rattle.file_views.specs.declared.client.Held.{Held}
use Rattle.file_views.specs.declared.client.Client.{Client}
use Rattle.file_views.specs.declared.call.FileCall.{FileCall}
use Rattle.file_views.specs.declared.step.FileStep.{FileStep}
use Rattle.file_views.specs.declared.moves.ClientMove.{ClientMove}
use Rattle.file_views.specs.declared.view.View.{View}
use Rattle.file_views.specs.Setting.{Setting}
use Rattle.file_views.specs.Streams.{is_any}
use Rattle.file_views.specs.Contents.{zeros, cut}
use Rattle.file_views.specs.Clients.{is_on, held, take_grant, take_callback, fill, wrote_back, install, uninstall, without_block, with_block}
use Rattle.file_views.specs.Views.{server, new_view, client, set_client, answer, current_stamp, things, as_call, new_call, remove_call, without_carried, without_call}
use Rattle.file_views.specs.Serving.{request_comes, store_blocks, holder_answered, resumed}
use Rattle.file_views.specs.Steps.{grant_comes, moving, writing_back_at, after}
use Rattle.file_views.specs.Possible.{has_room, is_filling, is_write_back, has_write_back, may_do, possible, stepped}
use Rattle.file_views.specs.Moves.{is_data, is_past, may_move, after_move}
use Rattle.file_views.specs.Settled.{goes_of, goes_to, arrival}
use Rattle.file_views.specs.Here.{In, IsClient, about, at_kernel, request_stamp}
use Rattle.file_views.specs.SoundShapes.{Shapes, writes_back}
use Rattle.file_views.specs.SoundStamps.{Stamps}
use Rattle.file_views.specs.SoundModes.{SameNewer, Modes}
use Rattle.file_views.specs.SoundHolders.{Holders}
use Rattle.file_views.specs.SoundRequests.{is_dirty_in, WritesBack, WritingBacks}
use Rattle.file_views.specs.WritingLaw.{EachWritesBack}
use Rattle.file_views.proofs.MemberLaws.{Made, held_found, in_left, map_in, in_without, in_filter, filter_in, unique_filter}
use Rattle.file_views.proofs.EffectLaws.{call_in_things}
use Rattle.file_views.proofs.ClientLaws.{choose_by, fine_fill}
use Rattle.file_views.proofs.CountLaws.{or_left}
use Rattle.file_views.proofs.ShapeLaws.{Flat, flat_of, flat_client, flat_remove}
use Rattle.file_views.proofs.ShapeStepLaws.{calls_apart, number_of, data_step, flat_grant}
use Rattle.file_views.proofs.ShapeMoveLaws.{client_new, count_new}
use Rattle.file_views.proofs.StampLaws.{own_stamp, FlatStamps, flat_stamps, in_things}
use Rattle.file_views.proofs.StampChangeLaws.{stamps_same, stamps_remove}
use Rattle.file_views.proofs.DecisionServeLaws.{found_any}
use Rattle.file_views.proofs.ModeLaws.{FlatModes, flat_modes}
use Rattle.file_views.proofs.HolderLaws.{FlatHolders, flat_holders}
use Rattle.file_views.proofs.PartLaws.{Parts, part_after, part_move}
use Rattle.file_views.proofs.WritingLaws.{writing_calls, Begun, keeps_filled, keeps_dropped, keeps_back}
use Rattle.file_views.proofs.WritingStepLaws.{FlatWriting, Calm, sent_self, calm_with, calm_calls, calm_resumed, calm_request, low_own, local_calm, writing_calm, writing_set, writing_kept, writing_same, writing_begin, writing_other, writing_taken, writing_called, keeps_fill, Writes, writing_works}

-- what it leans on
pub record Wrote (z : Setting) (v : View) : Type 0 where
  pub flat : Flat v
  pub stamps : FlatStamps v
  pub modes : FlatModes v
  pub holders : FlatHolders v
  pub writing : FlatWriting z v

quiet_removed : (v : View) (one : FileCall) → Calm v (remove_call v one.number)
quiet_removed v one = calm_calls v (remove_call v one.number) refl refl (λ x k. (in_without one.number x v.calls k).0)

pub removed_writing : (z : Setting) (v : View) (one : FileCall) → Wrote z v → FlatWriting z (remove_call v one.number)
removed_writing z v one t = writing_calm z v (remove_call v one.number) t.writing t.stamps (quiet_removed v one) t.flat.items.fifteen

-- fewer calls, and a client that takes a grant
writing_takes : (z : Setting) (v w : View) (kernel : ℕ) (grant : FileGrant) → Wrote z v → Calm v w → IsClient (length v.clients) kernel → grant.stamp ≤ current_stamp v kernel → (own_stamp v kernel < grant.stamp → SameNewer kernel (own_stamp v kernel) (things v) grant) → (s : List StreamNo) → FlatWriting z (set_client w kernel (record (take_grant (client v kernel) grant) { streams = s }))
writing_takes z v w kernel grant t c i l source s =
    let d : Client = record (take_grant (client v kernel) grant) { streams = s } in
    let taken : WritingBacks z kernel (current_stamp v kernel) (take_grant (client v kernel) grant) (things v) = writing_taken z v kernel grant t.writing t.stamps t.holders i l source in
    let same : WritingBacks z kernel (current_stamp v kernel) d (things v) = record { one_each = taken.one_each; dirty_within = taken.dirty_within; carries = taken.carries; held_dirty = taken.held_dirty; under_size = taken.under_size; size_under = taken.size_under; last_size = taken.last_size } in
    writing_set z w kernel d (writing_calm z v w t.writing t.stamps c t.flat.items.fifteen) (subst (λ cs. IsClient (length cs) kernel) (sym c.clients) i) (local_calm z v w kernel d t.stamps c i t.flat.items.fifteen same)

writing_arrives : (z : Setting) (v w : View) (one : FileCall) (kernel : ℕ) (grant : FileGrant) (stream : StreamNo) → Wrote z v → Calm v w → In one (things v) → goes_to one ≡ kernel → arrival one.reply ≡ Some grant → IsClient (length v.clients) kernel → FlatWriting z (set_client w kernel (install (take_grant (client v kernel) grant) stream))
writing_arrives z v w one kernel grant stream t c m g a i = writing_takes z v w kernel grant t c i (subst (λ k. grant.stamp ≤ current_stamp v k) g ((t.stamps.each one m).granted grant a)) (λ l. record { call = one; newer = grant; is_newer = (m, (g, a), l); same = refl }) _

writing_again : (z : Setting) (v : View) (one : FileCall) (grant : FileGrant) → Wrote z v → In one v.calls → one.reply ≡ Some (form.Again grant) → IsClient (length v.clients) one.from → FlatWriting z (grant_comes (remove_call v one.number) one.from grant)
writing_again z v one grant t m r i = writing_takes z v (remove_call v one.number) one.from grant t (quiet_removed v one) i ((t.stamps.each one (call_in_things v one m)).again grant r) (λ l. (t.modes one.from i).again one (call_in_things v one m) refl grant r l) (take_grant (client v one.from) grant).streams

-- a block was written back: no other write-back of it is out with the client's stamp
pub no_other_back : (z : Setting) (v : View) (one : FileCall) (stamp : ℕ) (block : BlockNo) (size : ℕ) (piece : List ℕ) → Wrote z v → In one v.calls → one.body ≡ form.WriteBack stamp block size piece → IsClient (length v.clients) one.from → stamp ≡ (client v one.from).stamp → (x : FileCall) → In x (things (remove_call v one.number)) → (another : BlockNo) (more : ℕ) (rest : List ℕ) → WritesBack one.from (current_stamp v one.from) x another more rest → block.0 ≡ another.0 → ⊥
no_other_back z v one stamp block size piece t m e i s x n another more rest w same = by_place (in_things (remove_call v one.number) x n)
  where
    by_place : Made as_call x v.carried ⊎ In x (without_call one.number v.calls) → ⊥
    by_place (inl r) = cc (ap writes_back w.is_write_back, ap (λ (y : FileCall). writes_back y.body) r.makes)
    by_place (inr k) =
        let p = in_without one.number x v.calls k in
        let low = low_own v t.stamps one.from x (call_in_things v x p.0) w.from_kernel (current_stamp v one.from) (ap request_stamp w.is_write_back) in
        let own = t.stamps.own_below one.from i in
        let equal : current_stamp v one.from ≡ own_stamp v one.from = omega (arith, low, own) in
        p.1 ((t.writing one.from i).one_each x one (call_in_things v x p.0) (call_in_things v one m) another block more size rest piece (record { from_kernel = w.from_kernel; is_write_back = w.is_write_back ∙ ap (λ n. form.WriteBack n another more rest) equal }) (record { from_kernel = refl; is_write_back = e ∙ ap (λ n. form.WriteBack n block size piece) s }) (sym same))

writing_back_done : (z : Setting) (v : View) (one : FileCall) (stamp : ℕ) (block : BlockNo) (size : ℕ) (piece : List ℕ) → Wrote z v → In one v.calls → one.body ≡ form.WriteBack stamp block size piece → IsClient (length v.clients) one.from → FlatWriting z (set_client (remove_call v one.number) one.from (wrote_back (client v one.from) stamp block.0 one.dirty))
writing_back_done z v one stamp block size piece t m e i = writing_kept z (remove_call v one.number) one.from (wrote_back (client v one.from) stamp block.0 one.dirty) (removed_writing z v one t) i
    (keeps_back z one.from (current_stamp v one.from) (client v one.from) stamp block.0 one.dirty (things (remove_call v one.number)) (removed_writing z v one t one.from i) (λ s x k another more rest w same. no_other_back z v one stamp block size piece t m e i s x k another more rest w same))

-- a callback is taken, and answered
writing_set_answered : (z : Setting) (v : View) (one : FileCall) (d : Client) (size : ℕ) (blocks : List (BlockNo × List ℕ)) → Wrote z v → In one v.calls → IsClient (length v.clients) one.to → WritingBacks z one.to (current_stamp v one.to) d (things v) → FlatWriting z (answer (set_client v one.to d) one (form.Flushed size blocks))
writing_set_answered z v one d size blocks t m i a =
    let c : Calm v (answer v one (form.Flushed size blocks)) = calm_with v (answer v one (form.Flushed size blocks)) one (form.Flushed size blocks) m refl refl refl (λ k. le_refl (current_stamp v k)) in
    writing_set z (answer v one (form.Flushed size blocks)) one.to d (writing_calm z v _ t.writing t.stamps c t.flat.items.fifteen) i (local_calm z v (answer v one (form.Flushed size blocks)) one.to d t.stamps c i t.flat.items.fifteen a)

-- a dirty block is sent, and a clean one dropped
not_is : (b : Bool) → not b ≡ true → b ≡ false
not_is true e = absurd (cc (e))
not_is false e = refl

cut_within : (z : Setting) (bytes : List ℕ) (number size : ℕ) → number * z.block < size → number * z.block + length (cut z bytes number size) ≤ size
cut_within z bytes number size l = let e = length-take (size - number * z.block) bytes in omega (arith, e, l)

sent_begun : (z : Setting) (v : View) (kernel : ℕ) (one : Held) (number dirty : ℕ) → Wrote z v → IsClient (length v.clients) kernel → held (client v kernel).blocks number ≡ Some one → one.dirty ≡ Some dirty → has_write_back v kernel one.block.0 ≡ false → Begun z kernel (current_stamp v kernel) (client v kernel) (things v) (new_call v kernel server (form.WriteBack (client v kernel).stamp one.block (client v kernel).size (cut z one.bytes one.block.0 (client v kernel).size)) (Some dirty))
sent_begun z v kernel one number dirty t i h d n = record {
  apart = λ x k block another size more piece rest a b e. out x another more rest b (e_of block size piece a.is_write_back e) (in_things v x k);
  carries = λ block size piece a there p. of_block block size piece a.is_write_back there p.found;
  held_dirty = λ block size piece a. ap is_dirty_in (at block size piece a.is_write_back) ∙ ap is_some d;
  under_size = λ block size piece a. subst (λ (b : FileBody). ends b) a.is_write_back (cut_within z one.bytes one.block.0 (client v kernel).size ((t.writing kernel i).dirty_within one (held_found (client v kernel).blocks number one h).0 (ap is_some d)));
  size_is = λ block size piece a. (let q = a.is_write_back in cc (q));
}
  where
    sent : FileBody
    sent = form.WriteBack (client v kernel).stamp one.block (client v kernel).size (cut z one.bytes one.block.0 (client v kernel).size)

    ends : FileBody → Type 0
    ends (form.WriteBack stamp block size piece) = block.0 * z.block + length piece ≤ size
    ends body = Unit {0}

    found_there : held (client v kernel).blocks one.block.0 ≡ Some one
    found_there = subst (λ n. held (client v kernel).blocks n ≡ Some one) (sym (held_found (client v kernel).blocks number one h).1) h

    at : {stamp : ℕ} (block : BlockNo) (size : ℕ) (piece : List ℕ) → sent ≡ form.WriteBack stamp block size piece → held (client v kernel).blocks block.0 ≡ Some one
    at block size piece q = let same : one.block ≡ block = cc (q) in subst (λ (b : BlockNo). held (client v kernel).blocks b.0 ≡ Some one) same found_there

    of_block : {stamp : ℕ} (block : BlockNo) (size : ℕ) (piece : List ℕ) → sent ≡ form.WriteBack stamp block size piece → (there : Held) → held (client v kernel).blocks block.0 ≡ Some there → piece ≡ cut z there.bytes block.0 size
    of_block block size piece q there f =
        let same : Some one ≡ Some there = sym (at block size piece q) ∙ f in
        let t : one ≡ there = cc (same) in
        let b : one.block ≡ block = cc (q) in
        let s : (client v kernel).size ≡ size = cc (q) in
        let p : piece ≡ cut z one.bytes one.block.0 (client v kernel).size = cc (q) in
        p ∙ ap (λ (x : Held). cut z x.bytes one.block.0 (client v kernel).size) t ∙ ap (λ (x : BlockNo). cut z there.bytes x.0 (client v kernel).size) b ∙ ap (cut z there.bytes block.0) s

    e_of : {stamp : ℕ} {another : BlockNo} (block : BlockNo) (size : ℕ) (piece : List ℕ) → sent ≡ form.WriteBack stamp block size piece → block.0 ≡ another.0 → another.0 ≡ one.block.0
    e_of block size piece q e = let same : one.block ≡ block = cc (q) in sym (ap (λ (x : BlockNo). x.0) same ∙ e)

    out : (x : FileCall) (another : BlockNo) (more : ℕ) (rest : List ℕ) → WritesBack kernel (client v kernel).stamp x another more rest → another.0 ≡ one.block.0 → Made as_call x v.carried ⊎ In x v.calls → ⊥
    out x another more rest b e (inl r) = cc (ap writes_back b.is_write_back, ap (λ (y : FileCall). writes_back y.body) r.makes)
    out x another more rest b e (inr k) = cc (n, found_any (λ (y : FileCall). (y.from == kernel) && is_write_back (client v kernel).stamp one.block.0 y.body) v.calls x k (and_from (x.from == kernel) _ (eq-eqb x.from kernel b.from_kernel) (ap (is_write_back (client v kernel).stamp one.block.0) b.is_write_back ∙ and_from _ _ (eq-eqb (client v kernel).stamp (client v kernel).stamp refl) (eq-eqb another.0 one.block.0 e))))

writing_sends : (z : Setting) (v : View) (kernel : ℕ) (one : Held) (number : ℕ) (dirty : Option ℕ) → Wrote z v → IsClient (length v.clients) kernel → held (client v kernel).blocks number ≡ Some one → one.dirty ≡ dirty → cond (is_some dirty) (not (has_write_back v kernel one.block.0)) (not (is_filling z (client v kernel).size (client v kernel).waiting one.block.0)) ≡ true → FlatWriting z (writing_back_at z v kernel one dirty)
writing_sends z v kernel one number None t i h d e = writing_kept z v kernel (record (client v kernel) { blocks = without_block one.block.0 (client v kernel).blocks }) t.writing i (keeps_dropped z kernel (current_stamp v kernel) (client v kernel) one one.block.0 (things v) (t.writing kernel i) (subst (λ n. held (client v kernel).blocks n ≡ Some one) (sym (held_found (client v kernel).blocks number one h).1) h) d)
writing_sends z v kernel one number (Some dirty) t i h d e = writing_begin z v kernel _ (Some dirty) t.writing (sent_begun z v kernel one number dirty t i h d (not_is _ e))

writing_moving : (z : Setting) (v : View) (stream : StreamNo) (source place : ℕ) (kept : Bool) → Wrote z v → IsClient (length v.clients) source → FlatWriting z (moving v stream source place kept)
writing_moving z v stream source place true t i = writing_other z v source (form.Move stream place true 0) None t.writing refl
writing_moving z v stream source place false t i = writing_other z (set_client v source (uninstall (client v source) stream)) source _ None (writing_same z v source (uninstall (client v source) stream) t.writing i refl refl refl) refl

pub none_of : (o : Option Held) → is_none o ≡ true → o ≡ None
none_of None e = refl
none_of (Some one) e = absurd (cc (e))

-- a block past the end isn't held
pub is_absent : (z : Setting) (c : Client) (number : ℕ) → is_past z c number ≡ true → held c.blocks number ≡ None
is_absent z c number e = let p = and_parts (is_on c.mode) _ e in let q = and_parts (is_any c.streams) _ p.1 in let r = and_parts (nat_lt (number * z.block) z.most) _ q.1 in none_of (held c.blocks number) (and_parts (nat_le c.size (number * z.block)) _ r.1).1

pub is_within : (z : Setting) (c : Client) (number : ℕ) → is_past z c number ≡ true → number * z.block < z.most
is_within z c number e = let p = and_parts (is_on c.mode) _ e in let q = and_parts (is_any c.streams) _ p.1 in ltb-true (number * z.block) z.most (and_parts (nat_lt (number * z.block) z.most) _ q.1).0

-- each part of a step or move
pub writing_parts : (z : Setting) → Parts z (λ v k s. is_data s ≡ true) (Wrote z) (Writes z) (FlatWriting z)
writing_parts z = record {
  works = writing_works z;
  flat = λ v t. t.flat;
  same = λ v t. record { flat = t.flat; writing = t.writing };
  rests = λ v p. p.writing;
  wanted = λ v kernel t p i s m. (p.flat.fine kernel i).waits s m;
  filled_wanted = λ v one stamp block other piece t n e r i p j s m. (p.flat.fine one.from j).waits s m;
  fetch_again_wanted = λ v one stamp block grant t n e r i p j s m. (p.flat.fine one.from j).waits s m;
  again_wanted = λ v one grant t m pid number stamp stream way e r i. data_step pid number one.from stream way;
  begun = λ v step t d e. d;
  removed = λ v one t m r a c. removed_writing z v one t;
  opened = λ v one stream grant t m pid number mode truncate e r i. writing_arrives z v (remove_call v one.number) one one.from grant stream t (quiet_removed v one) (call_in_things v one m) (ap (goes_of one.from) e) (ap arrival r) i;
  moved = λ v one stream place kept grants grant more t m e r.
      let w : View = record (remove_call v one.number) { carried = v.carried ++ record { call = one.number; to = place; stream = stream; grant = grant } ∷ [] } in
      writing_calm z v w t.writing t.stamps (calm_calls v w refl refl (λ x k. (in_without one.number x v.calls k).0)) t.flat.items.fifteen;
  came = λ v carry grant t m e. writing_arrives z v (record v { carried = without_carried carry.call v.carried }) (as_call carry) carry.to grant carry.stream t (calm_calls v _ refl refl (λ x k. k)) (in_left (as_call carry) (map as_call v.carried) v.calls (map_in as_call carry v.carried m)) refl e (t.flat.carried carry m).client;
  filled = λ v one stamp block other piece t m e r i. record {
    flat = flat_client (remove_call v one.number) one.from (fill z (client v one.from) other block piece) (flat_remove v one t.flat m) i (fine_fill z (client v one.from) other block piece (t.flat.fine one.from i));
    writing = writing_kept z (remove_call v one.number) one.from (fill z (client v one.from) other block piece) (removed_writing z v one t) i (keeps_fill z one.from (current_stamp v one.from) (client v one.from) other block piece (things (remove_call v one.number)) (removed_writing z v one t one.from i));
  };
  again = λ v one stamp grant t m e r i. record {
    flat = flat_grant (remove_call v one.number) one.from grant (flat_remove v one t.flat m) i;
    writing = writing_again z v one grant t m r i;
  };
  done = λ v one stamp block size piece t m e r i. writing_back_done z v one stamp block size piece t m e i;
  flushed = λ v one stamp kind size blocks t m e r i.
      let w : View = remove_call (record v { bytes = store_blocks z v.bytes size blocks; holder = holder_answered v one.to }) one.number in
      writing_calm z w (resumed z w) (writing_calm z v w t.writing t.stamps (calm_calls v w refl refl (λ x k. (in_without one.number x v.calls k).0)) t.flat.items.fifteen)
      (stamps_same (remove_call v one.number) w refl refl refl refl refl refl (stamps_remove v one t.flat.numbered.differ m t.stamps)) (calm_resumed z w (unique_filter number_of (λ (c : FileCall). not (c.number == one.number)) v.calls (calls_apart v t.flat.numbered.differ))) t.flat.items.fifteen;
  called = λ v one stamp kind t m e k n i.
      let d : Client = take_callback (client v one.to) stamp kind in
      let s = (t.stamps.each one (call_in_things v one m)).called stamp kind e in
      writing_set_answered z v one d _ _ t m i (writing_called z v one.to stamp kind t.stamps ((t.stamps.each one (call_in_things v one m)).before stamp kind e k) (omega (arith, s)));
  requested = λ v one t m s k n c. writing_calm z v (request_comes z v one) t.writing t.stamps (calm_request z v one m) t.flat.items.fifteen;
  opens = λ v kernel pid number stream mode truncate t i. writing_other z v kernel (form.Opening pid number stream mode truncate) None t.writing refl;
  closes = λ v kernel stream t i. writing_other z (set_client v kernel (uninstall (client v kernel) stream)) kernel _ None (writing_same z v kernel (uninstall (client v kernel) stream) t.writing i refl refl refl) refl;
  moves = λ v stream source place kept t i. writing_moving z v stream source place kept t i;
  backs = λ v kernel one number t i h e. writing_sends z v kernel one number one.dirty t i h refl e;
  numbered = λ v next t l. t.writing;
  counted = λ v kernel count t i l. writing_same z v kernel (record (client v kernel) { count = count }) t.writing i refl refl refl;
  zeroed = λ v kernel block t i e. writing_kept z v kernel (record (client v kernel) { blocks = with_block (record { block = block; bytes = zeros z.block; dirty = None }) (client v kernel).blocks }) t.writing i (keeps_filled z kernel (current_stamp v kernel) (client v kernel) (record { block = block; bytes = zeros z.block; dirty = None }) (things v) (t.writing kernel i) refl (is_absent z (client v kernel) block.0 e));
  raised = λ v version t u q l. t.writing;
  uncached = λ v t. t.writing;
}

-- the two ways to say it
pub flat_writing : (z : Setting) (v : View) → EachWritesBack z v → FlatWriting z v
flat_writing z v f kernel i = writing_calls z kernel (current_stamp v kernel) (client v kernel) (at_kernel v kernel).calls (things v) (f kernel i) (λ one m e. sent_self one (at_kernel v kernel).calls (filter_in (about kernel) one (things v) m (or_left (one.from == kernel) _ (eq-eqb one.from kernel e))))

each_writes : (z : Setting) (v : View) → FlatWriting z v → EachWritesBack z v
each_writes z v f kernel i = writing_calls z kernel (current_stamp v kernel) (client v kernel) (things v) (at_kernel v kernel).calls (f kernel i) (λ one m e. sent_self one (things v) (in_filter (about kernel) one (things v) m).0)

pub wrote_of : (z : Setting) (v : View) → Shapes v → Stamps v → Modes v → Holders v → EachWritesBack z v → Wrote z v
wrote_of z v s p m h f = let t : FlatStamps v = flat_stamps v (flat_of v s) p in record { flat = flat_of v s; stamps = t; modes = flat_modes v t m; holders = flat_holders v h; writing = flat_writing z v f }

pub steps_keep_writing : (z : Setting) (v : View) (step : FileStep) → Shapes v → Stamps v → Modes v → Holders v → EachWritesBack z v → EachWritesBack z (stepped z v step)
steps_keep_writing z v step s p m h f = choose_by (EachWritesBack z) (possible z v step) (after z v step) v (λ e. each_writes z (after z v step) (part_after z _ (Wrote z) (Writes z) (FlatWriting z) (writing_parts z) v step (and_parts (has_room v) (may_do z v step) e).1 (wrote_of z v s p m h f))) (λ e. f)

pub moves_keep_writing : (z : Setting) (v : View) (other : ClientMove) → may_move z v other ≡ true → Shapes v → Stamps v → Modes v → Holders v → EachWritesBack z v → EachWritesBack z (after_move z v other)
moves_keep_writing z v other e s p m h f = each_writes z (after_move z v other) (part_move z _ (Wrote z) (Writes z) (FlatWriting z) (writing_parts z) v other e (wrote_of z v s p m h f))

-- a new file
pub new_has_writing : (z : Setting) (count : ℕ) (bytes : List ℕ) → EachWritesBack z (new_view count bytes)
new_has_writing z count bytes kernel i = record {
  one_each = λ x y m. absurd m;
  dirty_within = λ one m. absurd (subst (λ (c : Client). In one c.blocks) (client_new count bytes kernel (subst (λ n. IsClient n kernel) (count_new count bytes) i)) m);
  carries = λ x m. absurd m;
  held_dirty = λ x m. absurd m;
  under_size = λ x m. absurd m;
  size_under = λ x m. absurd m;
  last_size = λ x m. absurd m;
}
