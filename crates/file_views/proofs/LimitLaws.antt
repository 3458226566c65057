-- The most that a file may have, under all steps and moves, and of a new file.
use Rattle.std.proofs.Common.{◌≡◌, ◌≤◌, ◌<◌, ◌⊎◌, ℕ, ◌+◌, ◌-◌, ◌*◌, ◌==◌, nat_le, nat_lt, Bool, true, false, cond, not, ◌&&◌, is_some, is_none, List, [], ◌∷◌, ◌++◌, length, map, Option, Some, None, refl, sym, ap, ◌∙◌, subst, inl, inr, arith, eqb-true, eq-eqb, leb-true, length-append, slice_index_or}
use Rattle.std.proofs.lemmas.Bool.{and_parts, ltb-false}
use Rattle.sprite_ids.specs.declared.BlockNo.{BlockNo}
use Rattle.sprite_ids.specs.declared.StreamNo.{StreamNo}
use Rattle.sprite_ids.specs.declared.CallKind.{CallKind}
use Rattle.sprite_ids.specs.declared.CallKind.TheVariants.{Recall, Stop}
use Rattle.file_views.specs.declared.grant.FileGrant.{FileGrant}
use Rattle.file_views.specs.declared.body.Access.{Access}
use Rattle.file_views.specs.declared.body.Access.TheVariants as access
use Rattle.file_views.specs.declared.body.FileBody.{FileBody}
use Rattle.file_views.specs.declared.body.FileBody.TheVariants as form
use Rattle.file_views.specs.declared.client.Held.{Held}
use Rattle.file_views.specs.declared.client.Client.{Client}
use Rattle.file_views.specs.declared.call.FileCall.{FileCall}
use Rattle.file_views.specs.declared.call.Carry.{Carry}
use Rattle.file_views.specs.declared.step.FileStep.{FileStep}
use Rattle.file_views.specs.declared.step.FileStep.TheVariants as act
use Rattle.file_views.specs.declared.moves.ClientMove.{ClientMove}
use Rattle.file_views.specs.declared.view.View.{View}
use Rattle.file_views.specs.Setting.{Setting}
use Rattle.file_views.specs.Contents.{zeros, cut, grown, put_block, blocks_between}
use Rattle.file_views.specs.Clients.{new_client, held, cleaned, dirty_blocks, pieces, granted, take_grant, blocks_after, take_callback, blocks_filled, fill, blocks_written_back, wrote_back, uninstall, without_block, with_block, same_number, size_written, write_cached, done_cached}
use Rattle.file_views.specs.Views.{server, new_view, client, set_client, current_stamp, grant_given, last_stamp, as_call, things, new_call, with_call, without_call, without_carried, begin, replied, answer, remove_call, to_the_end}
use Rattle.file_views.specs.Grants.{asks, truncates, granting, grant_of, settle, stamped, call_out, current_grant}
use Rattle.file_views.specs.Data.{op_of, step_of}
use Rattle.file_views.specs.Serving.{close, op_reply, bytes_after, block_of, data_op, store, refuse_old, store_blocks}
use Rattle.file_views.specs.Steps.{called_back, moving, writing_back_at, after}
use Rattle.file_views.specs.Possible.{has_room, may_do, possible, stepped}
use Rattle.file_views.specs.Moves.{is_data, may_move, after_move}
use Rattle.file_views.specs.Here.{In, IsClient, about, at_kernel, request_stamp}
use Rattle.file_views.specs.SoundShapes.{Ends, Answers, Shapes, writes_back}
use Rattle.file_views.specs.SoundStreams.{Streams}
use Rattle.file_views.specs.SoundStamps.{Stamps}
use Rattle.file_views.specs.SoundDecisions.{Decisions}
use Rattle.file_views.specs.SoundModes.{Modes}
use Rattle.file_views.specs.SoundHolders.{Holders}
use Rattle.file_views.specs.SoundRequests.{write_end, access_end, granted_size}
use Rattle.file_views.specs.AskingLaw.{EachAsks}
use Rattle.file_views.specs.WritingLaw.{EachWritesBack}
use Rattle.file_views.specs.LimitLaw.{EachLimited}
use Rattle.file_views.proofs.MemberLaws.{Made, in_map, in_filter, filter_in, in_left, in_join, in_last, in_with, in_without, map_in, held_found}
use Rattle.file_views.proofs.EffectLaws.{by_kernel, count_set, client_set, client_other, things_begin, things_with, call_in_things}
use Rattle.file_views.proofs.ClientLaws.{choose, choose_by}
use Rattle.file_views.proofs.CountLaws.{or_left, or_right}
use Rattle.file_views.proofs.ShapeLaws.{Flat}
use Rattle.file_views.proofs.ShapeMoveLaws.{client_new, count_new}
use Rattle.file_views.proofs.StampLaws.{in_things, only_call, callback_target, request_sender}
use Rattle.file_views.proofs.ModeStepLaws.{Standing, standing_of}
use Rattle.file_views.proofs.HolderLaws.{FlatHolders, flat_holders, about_to}
use Rattle.file_views.proofs.HolderSettleLaws.{settled_calls}
use Rattle.file_views.proofs.AskingStepLaws.{FlatAsking}
use Rattle.file_views.proofs.AskingMoveLaws.{flat_asking}
use Rattle.file_views.proofs.BlockLaws.{in_with_block, in_written, in_between}
use Rattle.file_views.proofs.WorkLaws.{Works, unnoted}
use Rattle.file_views.proofs.PartLaws.{Parts, part_after, part_move}
use Rattle.file_views.proofs.ServeLaws.{Serves, serves_notes, serves_request}
use Rattle.file_views.proofs.WritingStepLaws.{FlatWriting}
use Rattle.file_views.proofs.WritingMoveLaws.{flat_writing, is_within}
use Rattle.file_views.proofs.SizeLaws.{length_grown, length_overlay}
use Rattle.file_views.proofs.SizeServeLaws.{current_size, cut_size, flush_called}
use Rattle.file_views.proofs.SizeMoveLaws.{flushed_all, piece_within}

-- what is so of one call, and of one client
pub record Bounded (z : Setting) (one : FileCall) : Type 0 where
  pub operates : (pid number stamp : ℕ) (stream : StreamNo) (way : Access) → one.body ≡ form.Op pid number stamp stream way → access_end way ≤ z.most
  pub writes_back : (stamp size : ℕ) (block : BlockNo) (piece : List ℕ) → one.body ≡ form.WriteBack stamp block size piece → (size ≤ z.most) × (block.0 * z.block + length piece ≤ z.most)
  pub granted : granted_size one.reply ≤ z.most
  pub flushed : (size : ℕ) (blocks : List (BlockNo × List ℕ)) → one.reply ≡ Some (form.Flushed size blocks) → size ≤ z.most
  pub flushed_blocks : (size : ℕ) (blocks : List (BlockNo × List ℕ)) → one.reply ≡ Some (form.Flushed size blocks) → (piece : BlockNo × List ℕ) → In piece blocks → piece.0.0 * z.block + length piece.1 ≤ z.most

pub record Within (z : Setting) (c : Client) : Type 0 where
  pub size : c.size ≤ z.most
  pub blocks : (one : Held) → In one c.blocks → one.block.0 * z.block < z.most
  pub waiting : (step : FileStep) → In step c.waiting → write_end step ≤ z.most

pub record FlatLimits (z : Setting) (v : View) : Type 0 where
  pub bytes : length v.bytes ≤ z.most
  pub clients : (kernel : ℕ) → IsClient (length v.clients) kernel → Within z (client v kernel)
  pub calls : (one : FileCall) → In one (things v) → Bounded z one

-- one call reads as another, and has a reply without blocks
bounded_reply : (z : Setting) (one other : FileCall) → Bounded z other → other.body ≡ one.body → granted_size one.reply ≤ z.most → ((size : ℕ) (blocks : List (BlockNo × List ℕ)) → one.reply ≡ Some (form.Flushed size blocks) → ⊥) → Bounded z one
bounded_reply z one other b e g n = record {
  operates = λ pid number stamp stream way q. b.operates pid number stamp stream way (e ∙ q);
  writes_back = λ stamp size block piece q. b.writes_back stamp size block piece (e ∙ q);
  granted = g;
  flushed = λ size blocks r. absurd (n size blocks r);
  flushed_blocks = λ size blocks r. absurd (n size blocks r);
}

-- a request that is neither an operation nor a write-back
bounded_plain : (z : Setting) (one : FileCall) → one.reply ≡ None → ((pid number stamp : ℕ) (stream : StreamNo) (way : Access) → one.body ≡ form.Op pid number stamp stream way → access_end way ≤ z.most) → ((stamp size : ℕ) (block : BlockNo) (piece : List ℕ) → one.body ≡ form.WriteBack stamp block size piece → (size ≤ z.most) × (block.0 * z.block + length piece ≤ z.most)) → Bounded z one
bounded_plain z one n o w = record {
  operates = o;
  writes_back = w;
  granted = subst (λ r. granted_size r ≤ z.most) (sym n) (omega arith);
  flushed = λ size blocks r. absurd (cc (n, r));
  flushed_blocks = λ size blocks r. absurd (cc (n, r));
}

-- fewer calls
limits_fewer : (z : Setting) (v w : View) → FlatLimits z v → w.clients ≡ v.clients → w.bytes ≡ v.bytes → ((one : FileCall) → In one (things w) → In one (things v) ⊎ Bounded z one) → FlatLimits z w
limits_fewer z v w f c b less = record {
  bytes = subst (λ xs. length xs ≤ z.most) (sym b) f.bytes;
  clients = λ kernel i. subst (λ cs. Within z (slice_index_or cs (kernel - 1) new_client)) (sym c) (f.clients kernel (subst (λ cs. IsClient (length cs) kernel) c i));
  calls = λ one m. elim (less one m) [ inl k ↦ f.calls one k | inr k ↦ k ];
}

-- a call is answered, and the server's bytes may change
limits_answer : (z : Setting) (v w : View) (one : FileCall) (reply : FileBody) → Flat v → In one v.calls → FlatLimits z v → w.clients ≡ v.clients → length w.bytes ≤ z.most → things w ≡ with_call (replied one reply) (things v) → granted_size (Some reply) ≤ z.most → ((size : ℕ) (blocks : List (BlockNo × List ℕ)) → reply ≡ form.Flushed size blocks → ⊥) → FlatLimits z w
limits_answer z v w one reply flat m f c b e g n = record {
  bytes = b;
  clients = λ kernel i. subst (λ cs. Within z (slice_index_or cs (kernel - 1) new_client)) (sym c) (f.clients kernel (subst (λ cs. IsClient (length cs) kernel) c i));
  calls = λ x k. elim (in_with (replied one reply) x (things v) (subst (In x) e k)) [ inl p ↦ f.calls x p.0 | inr q ↦ subst (Bounded z) (sym q) (bounded_reply z (replied one reply) one (f.calls one (call_in_things v one m)) refl g (λ size blocks r. n size blocks (cc (r)))) ];
}

-- the bytes after a change
put_limit : (z : Setting) (bytes : List ℕ) (number size : ℕ) (piece : List ℕ) → length bytes ≤ z.most → size ≤ z.most → number * z.block + length piece ≤ z.most → length (put_block z bytes number size piece) ≤ z.most
put_limit z bytes number size piece a b c = let d = length_overlay (grown bytes size) (number * z.block) piece in let e = length_grown bytes size in omega (arith, a, b, c, d, e)

stored_limit : (z : Setting) (size : ℕ) (blocks : List (BlockNo × List ℕ)) (bytes : List ℕ) → length bytes ≤ z.most → size ≤ z.most → ((piece : BlockNo × List ℕ) → In piece blocks → piece.0.0 * z.block + length piece.1 ≤ z.most) → length (store_blocks z bytes size blocks) ≤ z.most
stored_limit z size [] bytes a b c = a
stored_limit z size (piece ∷ rest) bytes a b c = stored_limit z size rest (put_block z bytes piece.0.0 size piece.1) (put_limit z bytes piece.0.0 size piece.1 a b (c piece (inl refl))) b (λ x m. c x (inr m))

op_limit : (z : Setting) (bytes : List ℕ) (way : Access) → length bytes ≤ z.most → access_end way ≤ z.most → length (bytes_after z bytes way) ≤ z.most
op_limit z bytes (access.Read from many) a b = a
op_limit z bytes (access.Write from new) a b = let d = length_overlay bytes from new in omega (arith, a, b, d)
op_limit z bytes (access.Append new) a b = choose_by (λ xs. length xs ≤ z.most) (nat_lt z.most (length bytes + length new)) bytes (bytes ++ new) (λ e. a) (λ e. let l = not_over e in let d = length-append bytes new in omega (arith, l, d))
  where
    not_over : nat_lt z.most (length bytes + length new) ≡ false → length bytes + length new ≤ z.most
    not_over e = ltb-false z.most (length bytes + length new) e

op_grants_none : (z : Setting) (bytes : List ℕ) (way : Access) → granted_size (Some (op_reply z bytes way)) ≡ 0
op_grants_none z bytes (access.Read from many) = refl
op_grants_none z bytes (access.Write from new) = refl
op_grants_none z bytes (access.Append new) = choose (λ (b : FileBody). granted_size (Some b) ≡ 0) (nat_lt z.most (length bytes + length new)) _ _ refl refl

pub op_no_flush : (z : Setting) (bytes : List ℕ) (way : Access) (size : ℕ) (blocks : List (BlockNo × List ℕ)) → op_reply z bytes way ≡ form.Flushed size blocks → ⊥
op_no_flush z bytes (access.Read from many) size blocks e = cc (e)
op_no_flush z bytes (access.Write from new) size blocks e = cc (e)
op_no_flush z bytes (access.Append new) size blocks e = choose (λ (b : FileBody). b ≡ form.Flushed size blocks → ⊥) (nat_lt z.most (length bytes + length new)) _ _ (λ q. cc (q)) (λ q. cc (q)) e

granting_size : (body : FileBody) (grant : FileGrant) → asks body ≡ true → granted_size (Some (granting body grant)) ≡ grant.size
granting_size (form.Opening pid number stream mode truncate) grant a = refl
granting_size (form.Move stream place kept grants) grant a = refl
granting_size body grant a = absurd (cc (a))

pub granting_no_flush : (body : FileBody) (grant : FileGrant) (size : ℕ) (blocks : List (BlockNo × List ℕ)) → asks body ≡ true → granting body grant ≡ form.Flushed size blocks → ⊥
granting_no_flush (form.Opening pid number stream mode truncate) grant size blocks a e = cc (e)
granting_no_flush (form.Move stream place kept grants) grant size blocks a e = cc (e)
granting_no_flush body grant size blocks a e = cc (a)

cut_limit : (b : Bool) (bytes : List ℕ) (most : ℕ) → length bytes ≤ most → length (cond b [] bytes) ≤ most
cut_limit true bytes most l = omega arith
cut_limit false bytes most l = l

zero_limit : (z : Setting) (size : ℕ) → size ≡ 0 → size ≤ z.most
zero_limit z size e = omega (arith, e)

-- what the server does
limits_out : (z : Setting) (v : View) (kind : CallKind) (kernel : ℕ) → FlatLimits z v → FlatLimits z (call_out v kind kernel)
limits_out z v kind kernel f = limits_fewer z v (call_out v kind kernel) f refl refl (λ x m. elim (in_last x (new_call (stamped v kind kernel) server kernel (form.Callback (last_stamp v + 1) kind) None) (things v) (subst (In x) (things_begin (stamped v kind kernel) server kernel (form.Callback (last_stamp v + 1) kind) None) m)) [
  | inl k ↦ inl k
  | inr e ↦ inr (subst (Bounded z) (sym e) (bounded_plain z (new_call (stamped v kind kernel) server kernel (form.Callback (last_stamp v + 1) kind) None) refl (λ pid number stamp stream way q. absurd (cc (q))) (λ stamp size block piece q. absurd (cc (q)))))
])

limits_taken : (z : Setting) (v : View) (one : FileCall) → In one v.calls → one.reply ≡ None → FlatLimits z v → FlatLimits z (to_the_end v one)
limits_taken z v one m n f = limits_fewer z v (to_the_end v one) f refl refl (λ x k. elim (in_join x (map as_call v.carried) (without_call one.number v.calls ++ record one { taken = true } ∷ []) k) [
  | inl a ↦ inl (in_left x (map as_call v.carried) v.calls a)
  | inr a ↦ elim (in_last x (record one { taken = true }) (without_call one.number v.calls) a) [
    | inl b ↦ inl (call_in_things v x (in_without one.number x v.calls b).0)
    | inr b ↦ inr (subst (Bounded z) (sym b) (bounded_reply z (record one { taken = true }) one (f.calls one (call_in_things v one m)) refl (f.calls one (call_in_things v one m)).granted (λ size blocks r. cc (n, r))))
  ]
])

pub serves_limits : (z : Setting) → Serves z (FlatLimits z) (FlatLimits z)
serves_limits z = record {
  eases = λ v f. f;
  tells = λ v b f. record { bytes = f.bytes; clients = f.clients; calls = f.calls };
  outs = λ v kind kernel f. limits_out z v kind kernel f;
  settles = λ v one s f. limits_answer z v (settle v one) one (granting one.body (grant_of v one)) s.both.flat s.there f refl (cut_limit (truncates one.body) v.bytes z.most f.bytes) (settled_calls v one s.both.flat s.there)
      (let a = granting_size one.body (grant_of v one) s.asks_it in let b = cut_size (truncates one.body) v.bytes in let c = cut_limit (truncates one.body) v.bytes z.most f.bytes in omega (arith, a, b, c)) (λ size blocks e. granting_no_flush one.body (grant_of v one) size blocks s.asks_it e);
  closes = λ v one stream grants t e f. limits_answer z v (close v one stream grants) one form.Done t.both.flat t.there f refl f.bytes (things_with v one (replied one form.Done) t.both.flat.numbered.differ t.there refl) (omega arith) (λ size blocks q. cc (q));
  fetched = λ v one block t e f. limits_answer z v (answer v one (form.Block (current_stamp v one.from) (block_of z v.bytes block))) one _ t.both.flat t.there f refl f.bytes (things_with v one (replied one _) t.both.flat.numbered.differ t.there refl) (omega arith) (λ size blocks q. cc (q));
  refuses = λ v one stamp t e f. limits_answer z v (refuse_old v one) one (form.Again (current_grant v one.from)) t.both.flat t.there f refl f.bytes (things_with v one (replied one _) t.both.flat.numbered.differ t.there refl) (let a = current_size v one.from (grant_given v one.from) in let b = f.bytes in omega (arith, a, b)) (λ size blocks q. cc (q));
  stores = λ v one block size piece t e f. let w = (f.calls one (call_in_things v one t.there)).writes_back _ size block piece e in limits_answer z v (store z v one block size piece) one form.Done t.both.flat t.there f refl (put_limit z v.bytes block.0 size piece f.bytes w.0 w.1) (things_with (record v { bytes = put_block z v.bytes block.0 size piece }) one (replied one form.Done) t.both.flat.numbered.differ t.there refl) (omega arith) (λ s blocks q. cc (q));
  operates = λ v one pid number stream way t e f. limits_answer z v (data_op z v one way) one (op_reply z v.bytes way) t.both.flat t.there f refl (op_limit z v.bytes way f.bytes ((f.calls one (call_in_things v one t.there)).operates pid number _ stream way e)) (things_with (record v { bytes = bytes_after z v.bytes way }) one (replied one _) t.both.flat.numbered.differ t.there refl) (zero_limit z _ (op_grants_none z v.bytes way)) (λ size blocks q. op_no_flush z v.bytes way size blocks q);
  takes = λ v one b stamps m n c f. limits_taken z v one m n f;
  served = λ v one t x y. y;
  settled = λ v one s x y. y;
}

-- what clients do
limits_set : (z : Setting) (v : View) (kernel : ℕ) (d : Client) → FlatLimits z v → IsClient (length v.clients) kernel → Within z d → FlatLimits z (set_client v kernel d)
limits_set z v kernel d f i w = record {
  bytes = f.bytes;
  clients = λ other j. by_kernel (λ k. IsClient (length v.clients) k → Within z (client (set_client v kernel d) k)) kernel other
      (λ n. subst (Within z) (sym (client_set v kernel d i)) w)
      (λ p n. subst (Within z) (sym (client_other v kernel other d i.0 n.0 p)) (f.clients other n))
      (subst (λ n. IsClient n other) (count_set v kernel d) j);
  calls = f.calls;
}

limits_begin : (z : Setting) (v : View) (kernel : ℕ) (body : FileBody) (dirty : Option ℕ) → FlatLimits z v → ((pid number stamp : ℕ) (stream : StreamNo) (way : Access) → body ≡ form.Op pid number stamp stream way → access_end way ≤ z.most) → ((stamp size : ℕ) (block : BlockNo) (piece : List ℕ) → body ≡ form.WriteBack stamp block size piece → (size ≤ z.most) × (block.0 * z.block + length piece ≤ z.most)) → FlatLimits z (begin v kernel server body dirty)
limits_begin z v kernel body dirty f o w = limits_fewer z v (begin v kernel server body dirty) f refl refl (λ x m. elim (in_last x (new_call v kernel server body dirty) (things v) (subst (In x) (things_begin v kernel server body dirty) m)) [
  | inl k ↦ inl k
  | inr e ↦ inr (subst (Bounded z) (sym e) (bounded_plain z (new_call v kernel server body dirty) refl o w))
])

kept_size : (b : Bool) (size other most : ℕ) → size ≤ most → other ≤ most → cond b size other ≤ most
kept_size true size other most a c = a
kept_size false size other most a c = c

kept_in : (b : Bool) (blocks : List Held) (one : Held) → In one (cond b blocks []) → In one blocks
kept_in true blocks one m = m
kept_in false blocks one m = absurd m

within_taken : (z : Setting) (c : Client) (grant : FileGrant) (streams : List StreamNo) → Within z c → grant.size ≤ z.most → Within z (record (take_grant c grant) { streams = streams })
within_taken z c grant streams w l = choose (λ (d : Client). Within z (record d { streams = streams })) (nat_le grant.stamp c.stamp) c (granted c grant) (record { size = w.size; blocks = w.blocks; waiting = w.waiting })
    (record { size = kept_size (grant.holder && (c.version == grant.old)) c.size grant.size z.most w.size l; blocks = λ one m. w.blocks one (kept_in (grant.on && (c.version == grant.old)) c.blocks one m); waiting = w.waiting })

within_put : (z : Setting) (blocks : List Held) (new : Held) → new.block.0 * z.block < z.most → ((one : Held) → In one blocks → one.block.0 * z.block < z.most) → (one : Held) → In one (with_block new blocks) → one.block.0 * z.block < z.most
within_put z blocks new l f one m = elim (in_with_block blocks new one m) [ inl k ↦ f one k | inr e ↦ subst (λ (x : Held). x.block.0 * z.block < z.most) (sym e) l ]

within_called : (z : Setting) (blocks : List Held) (kind : CallKind) → ((one : Held) → In one blocks → one.block.0 * z.block < z.most) → (one : Held) → In one (blocks_after blocks kind) → one.block.0 * z.block < z.most
within_called z blocks Recall f one m = let r : Made cleaned one blocks = in_map cleaned one blocks m in subst (λ (x : Held). x.block.0 * z.block < z.most) (sym r.makes) (f r.x r.there)
within_called z blocks Stop f one m = absurd m

within_back : (z : Setting) (blocks : List Held) (dirty : Option ℕ) (b : Bool) (number : ℕ) (o : Option Held) → held blocks number ≡ o → ((one : Held) → In one blocks → one.block.0 * z.block < z.most) → (one : Held) → In one (blocks_written_back blocks dirty b o) → one.block.0 * z.block < z.most
within_back z blocks dirty b number (Some x) h f = choose (λ xs. (one : Held) → In one xs → one.block.0 * z.block < z.most) (b && same_number x.dirty dirty) (with_block (cleaned x) blocks) blocks (within_put z blocks (cleaned x) (f x (held_found blocks number x h).0) f) f
within_back z blocks dirty b number None h f = f

written_size : (size low : ℕ) (bytes : List ℕ) (most : ℕ) → size ≤ most → low + length bytes ≤ most → size_written size low bytes ≤ most
written_size size low [] most a b = a
written_size size low (first ∷ rest) most a b = omega (arith, a, b)

within_write : (z : Setting) (c : Client) (low : ℕ) (bytes : List ℕ) → Within z c → low + length bytes ≤ z.most → Within z (write_cached z c low bytes)
within_write z c low bytes w l = record {
  size = written_size c.size low bytes z.most w.size l;
  blocks = λ one m. elim (in_written z (blocks_between z low (low + length bytes)) c.blocks low bytes c.count one m) [ inl k ↦ w.blocks one k | inr k ↦ (let b = in_between z low (low + length bytes) one.block.0 k in omega (arith, b, l)) ];
  waiting = w.waiting;
}

within_done : (z : Setting) (c : Client) (step : FileStep) → Within z c → write_end step ≤ z.most → Within z (done_cached z c step)
within_done z c (act.Writing pid number kernel stream from bytes) w l = within_write z c from bytes w l
within_done z c (act.Append pid number kernel stream bytes) w l = choose_by (Within z) (nat_lt z.most (c.size + length bytes)) c (write_cached z c c.size bytes) (λ e. w) (λ e. within_write z c c.size bytes w (ltb-false z.most (c.size + length bytes) e))
within_done z c step w l = w

op_end : (z : Setting) (stamp : ℕ) (step : FileStep) → write_end step ≤ z.most → (pid number other : ℕ) (stream : StreamNo) (way : Access) → op_of stamp step ≡ form.Op pid number other stream way → access_end way ≤ z.most
op_end z stamp (act.Reading p n k s from many) l pid number other stream way e = let q : access.Read from many ≡ way = cc (e) in subst (λ w. access_end w ≤ z.most) q (omega arith)
op_end z stamp (act.Writing p n k s from bytes) l pid number other stream way e = let q : access.Write from bytes ≡ way = cc (e) in subst (λ w. access_end w ≤ z.most) q l
op_end z stamp (act.Append p n k s bytes) l pid number other stream way e = let q : access.Append bytes ≡ way = cc (e) in subst (λ w. access_end w ≤ z.most) q (omega arith)
op_end z stamp step l pid number other stream way e = absurd (cc (e))

op_no_back : (stamp : ℕ) (step : FileStep) → writes_back (op_of stamp step) ≡ false
op_no_back stamp (act.Reading p n k s from many) = refl
op_no_back stamp (act.Writing p n k s from bytes) = refl
op_no_back stamp (act.Append p n k s bytes) = refl
op_no_back stamp step = refl

step_end : (pid number kernel : ℕ) (stream : StreamNo) (way : Access) → write_end (step_of pid number kernel stream way) ≡ access_end way
step_end pid number kernel stream (access.Read from many) = refl
step_end pid number kernel stream (access.Write from bytes) = refl
step_end pid number kernel stream (access.Append bytes) = refl

may_end : (z : Setting) (v : View) (step : FileStep) → is_data step ≡ true → may_do z v step ≡ true → write_end step ≤ z.most
may_end z v (act.Reading pid number kernel stream from many) d e = omega arith
may_end z v (act.Writing pid number kernel stream from bytes) d e = leb-true (from + length bytes) z.most (and_parts (nat_le (length bytes) z.moved) _ (and_parts _ _ e).1).1
may_end z v (act.Append pid number kernel stream bytes) d e = omega arith
may_end z v step d e = absurd (cc (d))

limits_works : (z : Setting) → Works z (λ v k s. write_end s ≤ z.most) (FlatLimits z)
limits_works z = record {
  waits = λ v kernel waiting p i q. let w : Within z (client v kernel) = p.clients kernel i in limits_set z v kernel (record (client v kernel) { waiting = waiting }) p i (record { size = w.size; blocks = w.blocks; waiting = λ s m. elim (q s m) [ inl k ↦ w.waiting s k | inr k ↦ k ] });
  enters = λ v kernel step p i o n q. limits_set z v kernel (done_cached z (client v kernel) step) p i (within_done z (client v kernel) step (p.clients kernel i) q);
  operates = λ v kernel step p i q. limits_begin z v kernel (op_of (client v kernel).stamp step) None p (op_end z (client v kernel).stamp step q) (λ stamp size block piece e. absurd (cc (op_no_back (client v kernel).stamp step, ap writes_back e)));
  still_waits = λ v kernel waiting s i q. q;
  still_enters = λ v kernel step s i q. q;
  still_operates = λ v kernel step s q. q;
  fetches = λ v kernel number p i. limits_begin z v kernel (form.Fetch (client v kernel).stamp (record { 0 = number })) None p (λ a b c d w e. absurd (cc (e))) (λ a b c d e. absurd (cc (e)));
}

-- all that a step leans on
pub record Limiting (z : Setting) (v : View) : Type 0 where
  pub standing : Standing z v
  pub holders : FlatHolders v
  pub asking : FlatAsking z v
  pub writing : FlatWriting z v
  pub limits : FlatLimits z v

left_removed : (v : View) (one x : FileCall) → In x (things (remove_call v one.number)) → In x (things v)
left_removed v one x m = elim (in_join x (map as_call v.carried) (without_call one.number v.calls) m) [ inl a ↦ in_left x (map as_call v.carried) v.calls a | inr a ↦ call_in_things v x (in_without one.number x v.calls a).0 ]

limits_removed : (z : Setting) (v : View) (one : FileCall) → FlatLimits z v → FlatLimits z (remove_call v one.number)
limits_removed z v one f = limits_fewer z v (remove_call v one.number) f refl refl (λ x m. inl (left_removed v one x m))

limits_takes : (z : Setting) (v w : View) (kernel : ℕ) (grant : FileGrant) (streams : List StreamNo) → FlatLimits z w → w.clients ≡ v.clients → IsClient (length v.clients) kernel → grant.size ≤ z.most → FlatLimits z (set_client w kernel (record (take_grant (client v kernel) grant) { streams = streams }))
limits_takes z v w kernel grant streams f c i l =
    let j : IsClient (length w.clients) kernel = subst (λ cs. IsClient (length cs) kernel) (sym c) i in
    limits_set z w kernel (record (take_grant (client v kernel) grant) { streams = streams }) f j (within_taken z (client v kernel) grant streams (subst (λ cs. Within z (slice_index_or cs (kernel - 1) new_client)) c (f.clients kernel j)) l)

moved_size : (z : Setting) (grant : Option FileGrant) (more : ℕ) → granted_size (Some (form.Moved grant more)) ≤ z.most → granted_size (Some (form.Moved grant 1)) ≤ z.most
moved_size z (Some grant) more l = l
moved_size z None more l = l

limits_moved : (z : Setting) (v : View) (one : FileCall) (stream : StreamNo) (place : ℕ) (grant : Option FileGrant) (more : ℕ) → FlatLimits z v → In one v.calls → one.reply ≡ Some (form.Moved grant more) → FlatLimits z (record (remove_call v one.number) { carried = v.carried ++ record { call = one.number; to = place; stream = stream; grant = grant } ∷ [] })
limits_moved z v one stream place grant more f m r = limits_fewer z v w f refl refl (λ x k. by_place x (in_things w x k))
  where
    carry : Carry
    carry = record { call = one.number; to = place; stream = stream; grant = grant }

    w : View
    w = record (remove_call v one.number) { carried = v.carried ++ carry ∷ [] }

    carried_bounded : Bounded z (as_call carry)
    carried_bounded = record {
      operates = λ pid number stamp s way q. absurd (cc (q));
      writes_back = λ stamp size block piece q. absurd (cc (q));
      granted = moved_size z grant more (subst (λ o. granted_size o ≤ z.most) r (f.calls one (call_in_things v one m)).granted);
      flushed = λ size blocks q. absurd (cc (q));
      flushed_blocks = λ size blocks q. absurd (cc (q));
    }

    by_place : (x : FileCall) → Made as_call x (v.carried ++ carry ∷ []) ⊎ In x (without_call one.number v.calls) → In x (things v) ⊎ Bounded z x
    by_place x (inl a) = elim (in_last a.x carry v.carried a.there) [
      | inl b ↦ inl (subst (λ y. In y (things v)) (sym a.makes) (in_left (as_call a.x) (map as_call v.carried) v.calls (map_in as_call a.x v.carried b)))
      | inr b ↦ inr (subst (Bounded z) (sym (a.makes ∙ ap as_call b)) carried_bounded)
    ]
    by_place x (inr a) = inl (call_in_things v x (in_without one.number x v.calls a).0)

limits_filled : (z : Setting) (c : Client) (stamp : ℕ) (block : BlockNo) (piece : List ℕ) → Within z c → (stamp ≡ c.stamp → block.0 * z.block < c.size) → Within z (fill z c stamp block piece)
limits_filled z c stamp block piece w l = record { size = w.size; blocks = by_test ((stamp == c.stamp) && is_none (held c.blocks block.0)) refl; waiting = w.waiting }
  where
    by_test : (b : Bool) → ((stamp == c.stamp) && is_none (held c.blocks block.0)) ≡ b → (one : Held) → In one (blocks_filled z c.blocks block piece b) → one.block.0 * z.block < z.most
    by_test true e one m = within_put z c.blocks _ (let a = l (eqb-true stamp c.stamp (and_parts (stamp == c.stamp) _ e).0) in let b = w.size in omega (arith, a, b)) w.blocks one m
    by_test false e one m = w.blocks one m

limits_called : (z : Setting) (v : View) (one : FileCall) (stamp : ℕ) (kind : CallKind) → Limiting z v → In one v.calls → one.body ≡ form.Callback stamp kind → IsClient (length v.clients) one.to → FlatLimits z (called_back z v one stamp kind)
limits_called z v one stamp kind t m e i = record {
  bytes = t.limits.bytes;
  clients = (limits_set z v source d t.limits i (record { size = w.size; blocks = within_called z (client v source).blocks kind w.blocks; waiting = w.waiting })).clients;
  calls = λ x k. elim (in_with (replied one (form.Flushed (client v source).size blocks)) x (things v) (subst (In x) (things_with (set_client v source d) one (replied one (form.Flushed (client v source).size blocks)) t.standing.flat.numbered.differ m refl) k)) [ inl p ↦ t.limits.calls x p.0 | inr q ↦ subst (Bounded z) (sym q) new_bounded ];
}
  where
    source : ℕ
    source = one.to

    d : Client
    d = take_callback (client v source) stamp kind

    w : Within z (client v source)
    w = t.limits.clients source i

    blocks : List (BlockNo × List ℕ)
    blocks = pieces z (client v source).size (client v source).blocks

    within : (piece : BlockNo × List ℕ) → In piece blocks → piece.0.0 * z.block + length piece.1 ≤ z.most
    within piece p =
        let r : Made (λ (x : Held). (x.block, cut z x.bytes x.block.0 (client v source).size)) piece (dirty_blocks (client v source).blocks) = in_map (λ (x : Held). (x.block, cut z x.bytes x.block.0 (client v source).size)) piece (dirty_blocks (client v source).blocks) p in
        let q = in_filter (λ (x : Held). is_some x.dirty) r.x (client v source).blocks r.there in
        let a = piece_within z r.x.bytes r.x.block.0 (client v source).size ((t.writing source i).dirty_within r.x q.0 q.1) in
        let b = w.size in
        subst (λ (x : BlockNo × List ℕ). x.0.0 * z.block + length x.1 ≤ z.most) (sym r.makes) (omega (arith, a, b))

    new_bounded : Bounded z (replied one (form.Flushed (client v source).size blocks))
    new_bounded = record {
      operates = λ pid number other stream way q. absurd (cc (e, q));
      writes_back = λ other size block piece q. absurd (cc (e, q));
      granted = omega arith;
      flushed = λ size bs r. let same : (client v source).size ≡ size = cc (r) in subst (λ n. n ≤ z.most) same w.size;
      flushed_blocks = λ size bs r piece p. let same : blocks ≡ bs = cc (r) in within piece (subst (In piece) (sym same) p);
    }

limits_moving : (z : Setting) (v : View) (stream : StreamNo) (source place : ℕ) (kept : Bool) → FlatLimits z v → IsClient (length v.clients) source → FlatLimits z (moving v stream source place kept)
limits_moving z v stream source place true f i = limits_begin z v source (form.Move stream place true 0) None f (λ a b c d w e. absurd (cc (e))) (λ a b c d e. absurd (cc (e)))
limits_moving z v stream source place false f i = let w : Within z (client v source) = f.clients source i in limits_begin z (set_client v source (uninstall (client v source) stream)) source _ None (limits_set z v source (uninstall (client v source) stream) f i (record { size = w.size; blocks = w.blocks; waiting = w.waiting })) (λ a b c d w e. absurd (cc (e))) (λ a b c d e. absurd (cc (e)))

limits_sends : (z : Setting) (v : View) (kernel : ℕ) (one : Held) (number : ℕ) (dirty : Option ℕ) → Limiting z v → IsClient (length v.clients) kernel → held (client v kernel).blocks number ≡ Some one → one.dirty ≡ dirty → FlatLimits z (writing_back_at z v kernel one dirty)
limits_sends z v kernel one number None t i h d = let w : Within z (client v kernel) = t.limits.clients kernel i in limits_set z v kernel (record (client v kernel) { blocks = without_block one.block.0 (client v kernel).blocks }) t.limits i (record { size = w.size; blocks = λ x m. w.blocks x (in_filter (λ (y : Held). not (y.block.0 == one.block.0)) x (client v kernel).blocks m).0; waiting = w.waiting })
limits_sends z v kernel one number (Some dirty) t i h d = limits_begin z v kernel _ (Some dirty) t.limits (λ a b c s w e. absurd (cc (e)))
    (λ stamp size block piece e. sent stamp size block piece e)
  where
    body : FileBody
    body = form.WriteBack (client v kernel).stamp one.block (client v kernel).size (cut z one.bytes one.block.0 (client v kernel).size)

    bounds : FileBody → Type 0
    bounds (form.WriteBack stamp block size piece) = (size ≤ z.most) × (block.0 * z.block + length piece ≤ z.most)
    bounds other = Unit {0}

    there : bounds body
    there = let w = (t.limits.clients kernel i).size in let a = piece_within z one.bytes one.block.0 (client v kernel).size ((t.writing kernel i).dirty_within one (held_found (client v kernel).blocks number one h).0 (ap is_some d)) in (w, omega (arith, a, w))

    sent : (stamp size : ℕ) (block : BlockNo) (piece : List ℕ) → body ≡ form.WriteBack stamp block size piece → (size ≤ z.most) × (block.0 * z.block + length piece ≤ z.most)
    sent stamp size block piece e = subst bounds e there

-- each part of a step or move
pub limits_parts : (z : Setting) → Parts z (λ v k s. write_end s ≤ z.most) (Limiting z) (FlatLimits z) (FlatLimits z)
limits_parts z = record {
  works = limits_works z;
  flat = λ v t. t.standing.flat;
  same = λ v t. t.limits;
  rests = λ v p. p;
  wanted = λ v kernel t p i s m. (p.clients kernel i).waiting s m;
  filled_wanted = λ v one stamp block other piece t n e r i p j s m. (p.clients one.from j).waiting s m;
  fetch_again_wanted = λ v one stamp block grant t n e r i p j s m. (p.clients one.from j).waiting s m;
  again_wanted = λ v one grant t m pid number stamp stream way e r i. subst (λ n. n ≤ z.most) (sym (step_end pid number one.from stream way)) ((t.limits.calls one (call_in_things v one m)).operates pid number stamp stream way e);
  begun = λ v step t d e. may_end z v step d e;
  removed = λ v one t m r a c. limits_removed z v one t.limits;
  opened = λ v one stream grant t m pid number mode truncate e r i. limits_takes z v (remove_call v one.number) one.from grant _ (limits_removed z v one t.limits) refl i (subst (λ o. granted_size o ≤ z.most) r (t.limits.calls one (call_in_things v one m)).granted);
  moved = λ v one stream place kept grants grant more t m e r. limits_moved z v one stream place grant more t.limits m r;
  came = λ v carry grant t m e.
      let w : View = record v { carried = without_carried carry.call v.carried } in
      let there : In (as_call carry) (things v) = in_left (as_call carry) (map as_call v.carried) v.calls (map_in as_call carry v.carried m) in
      limits_takes z v w carry.to grant _ (limits_fewer z v w t.limits refl refl (λ x k. inl (left_uncarried v carry x k))) refl (t.standing.flat.carried carry m).client (subst (λ o. granted_size (Some (form.Moved o 1)) ≤ z.most) e (t.limits.calls (as_call carry) there).granted);
  filled = λ v one stamp block other piece t m e r i.
      let same : other ≡ stamp = subst (λ x. Answers x (form.Block other piece)) e ((t.standing.flat.calls one m).fits (form.Block other piece) r) in
      limits_set z (remove_call v one.number) one.from (fill z (client v one.from) other block piece) (limits_removed z v one t.limits) i (limits_filled z (client v one.from) other block piece (t.limits.clients one.from i) (λ q. (t.asking one.from i).fetch_within one (call_in_things v one m) refl stamp block e (sym same ∙ q)));
  again = λ v one stamp grant t m e r i. limits_takes z v (remove_call v one.number) one.from grant (take_grant (client v one.from) grant).streams (limits_removed z v one t.limits) refl i (subst (λ o. granted_size o ≤ z.most) r (t.limits.calls one (call_in_things v one m)).granted);
  done = λ v one stamp block size piece t m e r i. let w : Within z (client v one.from) = t.limits.clients one.from i in limits_set z (remove_call v one.number) one.from (wrote_back (client v one.from) stamp block.0 one.dirty) (limits_removed z v one t.limits) i (record { size = w.size; blocks = within_back z (client v one.from).blocks one.dirty (stamp == (client v one.from).stamp) block.0 (held (client v one.from).blocks block.0) refl w.blocks; waiting = w.waiting });
  flushed = λ v one stamp kind size blocks t m e r i. flushed_all z (Unit {0}) unnoted (λ had. FlatLimits z) (λ had. FlatLimits z) (serves_notes z (FlatLimits z) (FlatLimits z) (serves_limits z)) tt v one stamp kind size blocks t.standing t.holders m e r i (λ answering.
      let b : Bounded z one = t.limits.calls one (call_in_things v one m) in
      let f : FlatLimits z (remove_call v one.number) = limits_removed z v one t.limits in
      record { bytes = stored_limit z size blocks v.bytes t.limits.bytes (b.flushed size blocks r) (b.flushed_blocks size blocks r); clients = f.clients; calls = f.calls });
  called = λ v one stamp kind t m e k n i. limits_called z v one stamp kind t m e i;
  requested = λ v one t m s k n c. serves_request z (FlatLimits z) (FlatLimits z) (serves_limits z) v one (record { flat = t.standing.flat; streams = t.standing.streams }) t.standing.stamps t.standing.decided.ruled t.standing.modes t.holders m s n c t.limits;
  opens = λ v kernel pid number stream mode truncate t i. limits_begin z v kernel (form.Opening pid number stream mode truncate) None t.limits (λ a b c d w e. absurd (cc (e))) (λ a b c d e. absurd (cc (e)));
  closes = λ v kernel stream t i. let w : Within z (client v kernel) = t.limits.clients kernel i in limits_begin z (set_client v kernel (uninstall (client v kernel) stream)) kernel _ None (limits_set z v kernel (uninstall (client v kernel) stream) t.limits i (record { size = w.size; blocks = w.blocks; waiting = w.waiting })) (λ a b c d w e. absurd (cc (e))) (λ a b c d e. absurd (cc (e)));
  moves = λ v stream source place kept t i. limits_moving z v stream source place kept t.limits i;
  backs = λ v kernel one number t i h e. limits_sends z v kernel one number one.dirty t i h refl;
  numbered = λ v next t l. record { bytes = t.limits.bytes; clients = t.limits.clients; calls = t.limits.calls };
  counted = λ v kernel count t i l. let w : Within z (client v kernel) = t.limits.clients kernel i in limits_set z v kernel (record (client v kernel) { count = count }) t.limits i (record { size = w.size; blocks = w.blocks; waiting = w.waiting });
  zeroed = λ v kernel block t i e. let w : Within z (client v kernel) = t.limits.clients kernel i in limits_set z v kernel (record (client v kernel) { blocks = with_block (record { block = block; bytes = zeros z.block; dirty = None }) (client v kernel).blocks }) t.limits i (record { size = w.size; blocks = within_put z (client v kernel).blocks (record { block = block; bytes = zeros z.block; dirty = None }) (is_within z (client v kernel) block.0 e) w.blocks; waiting = w.waiting });
  raised = λ v version t u q l. record { bytes = t.limits.bytes; clients = t.limits.clients; calls = t.limits.calls };
  uncached = λ v t. record { bytes = t.limits.bytes; clients = t.limits.clients; calls = t.limits.calls };
}
  where
    left_uncarried : (v : View) (carry : Carry) (x : FileCall) → In x (map as_call (without_carried carry.call v.carried) ++ v.calls) → In x (things v)
    left_uncarried v carry x k = elim (in_join x (map as_call (without_carried carry.call v.carried)) v.calls k) [
      | inl a ↦ (let r : Made as_call x (without_carried carry.call v.carried) = in_map as_call x (without_carried carry.call v.carried) a in subst (λ y. In y (things v)) (sym r.makes) (in_left (as_call r.x) (map as_call v.carried) v.calls (map_in as_call r.x v.carried (in_filter (λ (c : Carry). not (c.call == carry.call)) r.x v.carried r.there).0)))
      | inr a ↦ call_in_things v x a
    ]

-- the two ways to say it: each call is about some client
pub record About (count : ℕ) (one : FileCall) : Type 0 where
  pub kernel : ℕ
  pub is_client : IsClient count kernel
  pub is_about : about kernel one ≡ true

from_about : (count kernel : ℕ) (one : FileCall) → IsClient count one.from → About count one
from_about count kernel one i = record { kernel = one.from; is_client = i; is_about = or_left (one.from == one.from) _ (eq-eqb one.from one.from refl) }

call_about : (count : ℕ) (one : FileCall) (body : FileBody) → one.body ≡ body → Ends count one.from one.to body → About count one
call_about count one (form.Callback stamp kind) e w = record { kernel = one.to; is_client = w.1; is_about = about_to one.to one refl }
call_about count one (form.Opening pid number stream mode truncate) e w = from_about count one.from one w.0
call_about count one (form.Move stream place kept grants) e w = from_about count one.from one w.0
call_about count one (form.Close stream grants) e w = from_about count one.from one w.0
call_about count one (form.Op pid number stamp stream way) e w = from_about count one.from one w.0
call_about count one (form.Fetch stamp block) e w = from_about count one.from one w.0
call_about count one (form.WriteBack stamp block size piece) e w = from_about count one.from one w.0
call_about count one body e w = absurd w

thing_about : (v : View) → Flat v → (one : FileCall) → In one (things v) → About (length v.clients) one
thing_about v f one m = elim (in_things v one m) [
  | inl r ↦ subst (About (length v.clients)) (sym r.makes) (record { kernel = r.x.to; is_client = (f.carried r.x r.there).client; is_about = or_right (0 == r.x.to) _ (or_right (server == r.x.to) _ (eq-eqb r.x.to r.x.to refl)) })
  | inr k ↦ call_about (length v.clients) one one.body refl (f.calls one k).ends
]

pub flat_limits : (z : Setting) (v : View) → Flat v → EachLimited z v → FlatLimits z v
flat_limits z v flat l = record {
  bytes = l.bytes;
  clients = λ kernel i. record { size = (l.each kernel i).size; blocks = (l.each kernel i).blocks; waiting = (l.each kernel i).waiting };
  calls = λ one m. record {
    operates = λ pid number stamp stream way e. let i : IsClient (length v.clients) one.from = sender one m stamp (ap request_stamp e) in (l.each one.from i).operates one (by_sender one m) refl pid number stamp stream way e;
    writes_back = λ stamp size block piece e. let i : IsClient (length v.clients) one.from = sender one m stamp (ap request_stamp e) in (l.each one.from i).writes_back one (by_sender one m) refl stamp size block piece e;
    granted = let a : About (length v.clients) one = thing_about v flat one m in (l.each a.kernel a.is_client).granted one (filter_in (about a.kernel) one (things v) m a.is_about);
    flushed = λ size blocks r. let i : IsClient (length v.clients) one.to = called one m size blocks r in (l.each one.to i).flushed one (filter_in (about one.to) one (things v) m (about_to one.to one refl)) refl size blocks r;
    flushed_blocks = λ size blocks r. let i : IsClient (length v.clients) one.to = called one m size blocks r in (l.each one.to i).flushed_blocks one (filter_in (about one.to) one (things v) m (about_to one.to one refl)) refl size blocks r;
  };
}
  where
    by_sender : (one : FileCall) → In one (things v) → In one (at_kernel v one.from).calls
    by_sender one m = filter_in (about one.from) one (things v) m (or_left (one.from == one.from) _ (eq-eqb one.from one.from refl))

    sender : (one : FileCall) → In one (things v) → (stamp : ℕ) → request_stamp one.body ≡ Some stamp → IsClient (length v.clients) one.from
    sender one m stamp e = elim (in_things v one m) [
      | inl r ↦ absurd (cc (e, ap (λ (x : FileCall). request_stamp x.body) r.makes))
      | inr k ↦ request_sender (length v.clients) one.from one.to one.body stamp (flat.calls one k).ends e
    ]

    called : (one : FileCall) → In one (things v) → (size : ℕ) (blocks : List (BlockNo × List ℕ)) → one.reply ≡ Some (form.Flushed size blocks) → IsClient (length v.clients) one.to
    called one m size blocks r = let c = flush_called v flat one m size blocks r in callback_target (length v.clients) one.from one.to one.body (flat.calls one (only_call v one m c)).ends c

pub each_limited : (z : Setting) (v : View) → FlatLimits z v → EachLimited z v
each_limited z v f = record {
  bytes = f.bytes;
  each = λ kernel i. record {
    size = (f.clients kernel i).size;
    blocks = (f.clients kernel i).blocks;
    waiting = (f.clients kernel i).waiting;
    operates = λ one m e. (f.calls one (near kernel one m)).operates;
    writes_back = λ one m e. (f.calls one (near kernel one m)).writes_back;
    granted = λ one m. (f.calls one (near kernel one m)).granted;
    flushed = λ one m e. (f.calls one (near kernel one m)).flushed;
    flushed_blocks = λ one m e. (f.calls one (near kernel one m)).flushed_blocks;
  };
}
  where
    near : (kernel : ℕ) (one : FileCall) → In one (at_kernel v kernel).calls → In one (things v)
    near kernel one m = (in_filter (about kernel) one (things v) m).0

limiting_of : (z : Setting) (v : View) → Shapes v → Streams v → Stamps v → Decisions z v → Modes v → Holders v → EachAsks z v → EachWritesBack z v → EachLimited z v → Limiting z v
limiting_of z v s r p d m h a w l = let t : Standing z v = standing_of z v s r p d m in record { standing = t; holders = flat_holders v h; asking = flat_asking z v a; writing = flat_writing z v w; limits = flat_limits z v t.flat l }

pub steps_keep_limits : (z : Setting) (v : View) (step : FileStep) → Shapes v → Streams v → Stamps v → Decisions z v → Modes v → Holders v → EachAsks z v → EachWritesBack z v → EachLimited z v → EachLimited z (stepped z v step)
steps_keep_limits z v step s r p d m h a w l = choose_by (EachLimited z) (possible z v step) (after z v step) v (λ e. each_limited z (after z v step) (part_after z _ (Limiting z) (FlatLimits z) (FlatLimits z) (limits_parts z) v step (and_parts (has_room v) (may_do z v step) e).1 (limiting_of z v s r p d m h a w l))) (λ e. l)

pub moves_keep_limits : (z : Setting) (v : View) (other : ClientMove) → may_move z v other ≡ true → Shapes v → Streams v → Stamps v → Decisions z v → Modes v → Holders v → EachAsks z v → EachWritesBack z v → EachLimited z v → EachLimited z (after_move z v other)
moves_keep_limits z v other e s r p d m h a w l = each_limited z (after_move z v other) (part_move z _ (Limiting z) (FlatLimits z) (FlatLimits z) (limits_parts z) v other e (limiting_of z v s r p d m h a w l))

-- a new file
pub new_has_limits : (z : Setting) (count : ℕ) (bytes : List ℕ) → length bytes ≤ z.most → EachLimited z (new_view count bytes)
new_has_limits z count bytes l = record {
  bytes = l;
  each = λ kernel i. record {
    size = (let e : (client (new_view count bytes) kernel).size ≡ 0 = ap (λ (c : Client). c.size) (is_new kernel i) in omega (arith, e));
    blocks = λ one m. absurd (subst (λ (c : Client). In one c.blocks) (is_new kernel i) m);
    waiting = λ step m. absurd (subst (λ (c : Client). In step c.waiting) (is_new kernel i) m);
    operates = λ one m. absurd m;
    writes_back = λ one m. absurd m;
    granted = λ one m. absurd m;
    flushed = λ one m. absurd m;
    flushed_blocks = λ one m. absurd m;
  };
}
  where
    is_new : (kernel : ℕ) → IsClient (length (new_view count bytes).clients) kernel → client (new_view count bytes) kernel ≡ new_client
    is_new kernel i = client_new count bytes kernel (subst (λ n. IsClient n kernel) (count_new count bytes) i)
