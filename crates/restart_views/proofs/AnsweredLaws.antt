-- A client that answered a callback with blocks knows the file at the server's version: each step keeps that.
use Rattle.std.proofs.Common.{◌≡◌, ◌≤◌, ◌⊎◌, ℕ, ◌+◌, ◌-◌, ◌==◌, nat_le, nat_lt, Bool, true, false, cond, not, is_some, List, [], ◌∷◌, ◌++◌, length, map, Option, Some, None, refl, sym, ap, ◌∙◌, subst, inl, inr, arith, le-leb, slice_index_or}
use Rattle.std.proofs.lemmas.Bool.{and_parts}
use Rattle.sprite_ids.specs.declared.BlockNo.{BlockNo}
use Rattle.sprite_ids.specs.declared.StreamNo.{StreamNo}
use Rattle.sprite_ids.specs.declared.CallKind.{CallKind}
use Rattle.sprite_ids.specs.declared.errno.Errno.TheVariants as errno
use Rattle.file_views.specs.declared.grant.FileGrant.{FileGrant}
use Rattle.file_views.specs.declared.body.Access.{Access}
use Rattle.file_views.specs.declared.body.Access.TheVariants as access
use Rattle.file_views.specs.declared.body.FileBody.{FileBody}
use Rattle.file_views.specs.declared.body.FileBody.TheVariants as form
use Rattle.file_views.specs.declared.client.Held.{Held}
use Rattle.file_views.specs.declared.client.Client.{Client}
use Rattle.file_views.specs.declared.call.FileCall.{FileCall}
use Rattle.file_views.specs.declared.call.Carry.{Carry}
use Rattle.file_views.specs.declared.step.FileStep.{FileStep}
use Rattle.file_views.specs.declared.step.FileStep.TheVariants as act
use Rattle.file_views.specs.declared.view.View.{View}
use Rattle.file_views.specs.Setting.{Setting}
use Rattle.file_views.specs.Contents.{cut, put_block}
use Rattle.file_views.specs.Streams.{is_any}
use Rattle.file_views.specs.Clients.{new_client, dirty_blocks, pieces, granted, take_grant, take_callback, fill, wrote_back, uninstall, without_block, write_cached, done_cached}
use Rattle.file_views.specs.Views.{server, client, set_client, current_stamp, as_call, things, new_call, with_call, without_call, without_carried, begin, replied, answer, remove_call, to_the_end, is_callback, new_view}
use Rattle.file_views.specs.Grants.{asks, stamped, call_out, granting, grant_of, settle, current_grant}
use Rattle.file_views.specs.Data.{op_of}
use Rattle.file_views.specs.Serving.{close, op_reply, bytes_after, block_of, data_op, store, refuse_old, store_blocks}
use Rattle.file_views.specs.Steps.{called_back, moving, writing_back_at, after}
use Rattle.file_views.specs.Possible.{has_room, may_do, possible, stepped}
use Rattle.file_views.specs.Settled.{goes_of, goes_to, arrival}
use Rattle.file_views.specs.Here.{In, IsClient}
use Rattle.file_views.specs.SoundHolders.{Ready}
use Rattle.file_views.specs.Sound.{Sound}
use Rattle.file_views.proofs.MemberLaws.{Made, in_left, in_join, in_last, in_filter, in_map, map_in, in_without, in_with}
use Rattle.file_views.proofs.EffectLaws.{client_set, client_other, by_kernel, things_begin, things_with, call_in_things}
use Rattle.file_views.proofs.ClientLaws.{choose_by}
use Rattle.file_views.proofs.ShapeLaws.{Flat}
use Rattle.file_views.proofs.StampLaws.{FlatStamps, in_things, only_call, callback_target}
use Rattle.file_views.proofs.StampServeLaws.{idle}
use Rattle.file_views.proofs.ModeStepLaws.{Standing, standing_of}
use Rattle.file_views.proofs.HolderLaws.{FlatHolders, flat_holders}
use Rattle.file_views.proofs.HolderServeLaws.{answered_view}
use Rattle.file_views.proofs.WorkLaws.{unnoted, Works}
use Rattle.file_views.proofs.PartLaws.{Parts, part_after}
use Rattle.file_views.proofs.ServeLaws.{Serves, serves_notes, serves_request}
use Rattle.file_views.proofs.SizeServeLaws.{flush_called}
use Rattle.file_views.proofs.SizeMoveLaws.{flushed_all}
use Rattle.restart_views.specs.Answered.{Answered}

-- whether a reply is an answer to a callback
abbrev pub is_flush : Option FileBody → Bool
is_flush (Some (form.Flushed size blocks)) = true
is_flush reply = false

-- what is so of each answer with blocks
abbrev pub Knows : View → Type 0
Knows v = (one : FileCall) → In one (things v) → (size : ℕ) (blocks : List (BlockNo × List ℕ)) → one.reply ≡ Some (form.Flushed size blocks) → is_any blocks ≡ true → (1 ≤ one.to) × ((client v one.to).version ≡ v.version)

-- nothing but calls changes, and no answer to a callback is new
knows_from : (v w : View) → Knows v → w.version ≡ v.version → w.clients ≡ v.clients → ((one : FileCall) → In one (things w) → In one (things v) ⊎ (is_flush one.reply ≡ false)) → Knows w
knows_from v w a e k less one m size blocks r n = elim (less one m) [
  | inl p ↦ (let q = a one p size blocks r n in (q.0, ap (λ cs. (slice_index_or cs (one.to - 1) new_client).version) k ∙ (q.1 ∙ sym e)))
  | inr q ↦ absurd (cc (q, ap is_flush r))
]

-- while no callback is out there is no such answer
none_flushed : (v : View) → Flat v → ((one : FileCall) → In one v.calls → is_callback one.body ≡ false) → (one : FileCall) → In one (things v) → (size : ℕ) (blocks : List (BlockNo × List ℕ)) → one.reply ≡ Some (form.Flushed size blocks) → ⊥
none_flushed v f n one m size blocks r =
    let k : is_callback one.body ≡ true = flush_called v f one m size blocks r in
    let q = n one (only_call v one m k) in cc (k, q)

knows_idle : (v w : View) (one : FileCall) (reply : FileBody) → Flat v → ((x : FileCall) → In x v.calls → is_callback x.body ≡ false) → things w ≡ with_call (replied one reply) (things v) → is_flush (Some reply) ≡ false → Knows w
knows_idle v w one reply f n e q x m size blocks r s = elim (in_with (replied one reply) x (things v) (subst (In x) e m)) [
  | inl p ↦ absurd (none_flushed v f n x p.0 size blocks r)
  | inr p ↦ absurd (cc (q, ap is_flush (sym (ap (λ (y : FileCall). y.reply) p) ∙ r)))
]

knows_begin : (v : View) (source to : ℕ) (body : FileBody) (dirty : Option ℕ) → Knows v → Knows (begin v source to body dirty)
knows_begin v source to body dirty a = knows_from v (begin v source to body dirty) a refl refl (λ x m. elim (in_last x (new_call v source to body dirty) (things v) (subst (In x) (things_begin v source to body dirty) m)) [ inl k ↦ inl k | inr e ↦ inr (ap (λ (y : FileCall). is_flush y.reply) e) ])

knows_set : (v : View) (kernel : ℕ) (d : Client) → Knows v → IsClient (length v.clients) kernel → ((one : FileCall) → In one (things v) → one.to ≡ kernel → (size : ℕ) (blocks : List (BlockNo × List ℕ)) → one.reply ≡ Some (form.Flushed size blocks) → d.version ≡ (client v kernel).version) → Knows (set_client v kernel d)
knows_set v kernel d a i e one m size blocks r n = (
  low,
  by_kernel (λ k. one.to ≡ k → (client (set_client v kernel d) k).version ≡ v.version) kernel one.to
      (λ q. ap (λ (x : Client). x.version) (client_set v kernel d i) ∙ (e one m q size blocks r ∙ (sym (ap (λ k. (client v k).version) q) ∙ (a one m size blocks r n).1)))
      (λ p q. ap (λ (x : Client). x.version) (client_other v kernel one.to d i.0 low p) ∙ (a one m size blocks r n).1) refl,
)
  where
    low : 1 ≤ one.to
    low = (a one m size blocks r n).0

knows_plain : (v : View) (kernel : ℕ) (d : Client) → Knows v → IsClient (length v.clients) kernel → d.version ≡ (client v kernel).version → Knows (set_client v kernel d)
knows_plain v kernel d a i e = knows_set v kernel d a i (λ one m q size blocks r. e)

pub left_removed : (v : View) (one x : FileCall) → In x (things (remove_call v one.number)) → In x (things v)
left_removed v one x m = elim (in_join x (map as_call v.carried) (without_call one.number v.calls) m) [ inl a ↦ in_left x (map as_call v.carried) v.calls a | inr a ↦ call_in_things v x (in_without one.number x v.calls a).0 ]

knows_removed : (v : View) (one : FileCall) → Knows v → Knows (remove_call v one.number)
knows_removed v one a = knows_from v (remove_call v one.number) a refl refl (λ x m. inl (left_removed v one x m))

-- a client that answered a callback takes no grant
record CallsBack (body : FileBody) : Type 0 where
  pub stamp : ℕ
  pub kind : CallKind
  pub is : body ≡ form.Callback stamp kind

calls_back : (body : FileBody) → is_callback body ≡ true → CallsBack body
calls_back (form.Callback stamp kind) e = record { stamp = stamp; kind = kind; is = refl }
calls_back body e = absurd (cc (e))

same_version : (v : View) (kernel : ℕ) (grant : FileGrant) → Flat v → FlatStamps v → grant.stamp ≤ current_stamp v kernel → (x : FileCall) → In x (things v) → x.to ≡ kernel → (size : ℕ) (blocks : List (BlockNo × List ℕ)) → x.reply ≡ Some (form.Flushed size blocks) → (take_grant (client v kernel) grant).version ≡ (client v kernel).version
same_version v kernel grant f s l x m q size blocks r =
    let c : is_callback x.body ≡ true = flush_called v f x m size blocks r in
    let k : CallsBack x.body = calls_back x.body c in
    let t : x.taken ≡ true = (f.calls x (only_call v x m c)).taken_first (form.Flushed size blocks) r in
    let a : (client v x.to).stamp ≡ k.stamp = (s.each x m).behind k.stamp k.kind k.is t in
    let b : k.stamp ≡ current_stamp v x.to = (s.each x m).called k.stamp k.kind k.is in
    let d : (client v kernel).stamp ≡ current_stamp v kernel = subst (λ n. (client v n).stamp ≡ current_stamp v n) q (a ∙ b) in
    let e : nat_le grant.stamp (client v kernel).stamp ≡ true = le-leb grant.stamp (client v kernel).stamp (omega (arith, l, d)) in
    ap (λ b. (cond b (client v kernel) (granted (client v kernel) grant)).version) e

knows_takes : (v w : View) (kernel : ℕ) (grant : FileGrant) (d : Client) → Flat v → FlatStamps v → Knows w → w.clients ≡ v.clients → IsClient (length v.clients) kernel → ((x : FileCall) → In x (things w) → In x (things v)) → grant.stamp ≤ current_stamp v kernel → d.version ≡ (take_grant (client v kernel) grant).version → Knows (set_client w kernel d)
knows_takes v w kernel grant d f s a k i less l e = knows_set w kernel d a (subst (λ cs. IsClient (length cs) kernel) (sym k) i) (λ one m q size blocks r.
    e ∙ (same_version v kernel grant f s l one (less one m) q size blocks r ∙ sym (ap (λ cs. (slice_index_or cs (kernel - 1) new_client).version) k)))

-- what the server does
knows_out : (v : View) (kind : CallKind) (kernel : ℕ) → Knows v → Knows (call_out v kind kernel)
knows_out v kind kernel a = knows_begin (stamped v kind kernel) server kernel _ None a

op_no_flush : (z : Setting) (bytes : List ℕ) (way : Access) → is_flush (Some (op_reply z bytes way)) ≡ false
op_no_flush z bytes (access.Read from many) = refl
op_no_flush z bytes (access.Write from new) = refl
op_no_flush z bytes (access.Append new) = choose_by (λ (r : FileBody). is_flush (Some r) ≡ false) (nat_lt z.most (length bytes + length new)) (form.Refused errno.TooBig) (form.Value (length new) (length bytes + length new) []) (λ e. refl) (λ e. refl)

granting_no_flush : (body : FileBody) (grant : FileGrant) → asks body ≡ true → is_flush (Some (granting body grant)) ≡ false
granting_no_flush (form.Opening pid number stream mode truncate) grant a = refl
granting_no_flush (form.Move stream place kept grants) grant a = refl
granting_no_flush body grant a = absurd (cc (a))

knows_taken : (v : View) (one : FileCall) → one.reply ≡ None → Knows v → Knows (to_the_end v one)
knows_taken v one n a = knows_from v (to_the_end v one) a refl refl (λ x k. elim (in_join x (map as_call v.carried) (without_call one.number v.calls ++ record one { taken = true } ∷ []) k) [
  | inl p ↦ inl (in_left x (map as_call v.carried) v.calls p)
  | inr p ↦ elim (in_last x (record one { taken = true }) (without_call one.number v.calls) p) [
    | inl b ↦ inl (call_in_things v x (in_without one.number x v.calls b).0)
    | inr b ↦ inr (ap (λ (y : FileCall). is_flush y.reply) b ∙ ap is_flush n)
  ]
])

serves_knows : (z : Setting) → Serves z Knows Knows
serves_knows z = record {
  eases = λ v a. a;
  tells = λ v b a. a;
  outs = λ v kind kernel a. knows_out v kind kernel a;
  settles = λ v one s a. knows_idle v (settle v one) one (granting one.body (grant_of v one)) s.both.flat s.none (things_with v one (replied one (granting one.body (grant_of v one))) s.both.flat.numbered.differ s.there refl) (granting_no_flush one.body (grant_of v one) s.asks_it);
  closes = λ v one stream grants t e a. knows_idle v (close v one stream grants) one form.Done t.both.flat t.none (things_with v one (replied one form.Done) t.both.flat.numbered.differ t.there refl) refl;
  fetched = λ v one block t e a. knows_idle v (answer v one (form.Block _ (block_of z v.bytes block))) one _ t.both.flat t.none (things_with v one (replied one _) t.both.flat.numbered.differ t.there refl) refl;
  refuses = λ v one stamp t e a. knows_idle v (refuse_old v one) one (form.Again (current_grant v one.from)) t.both.flat t.none (things_with v one (replied one _) t.both.flat.numbered.differ t.there refl) refl;
  stores = λ v one block size piece t e a. knows_idle v (store z v one block size piece) one form.Done t.both.flat t.none (things_with (record v { bytes = put_block z v.bytes block.0 size piece }) one (replied one form.Done) t.both.flat.numbered.differ t.there refl) refl;
  operates = λ v one pid number stream way t e a. knows_idle v (data_op z v one way) one (op_reply z v.bytes way) t.both.flat t.none (things_with (record v { bytes = bytes_after z v.bytes way }) one (replied one _) t.both.flat.numbered.differ t.there refl) (op_no_flush z v.bytes way);
  takes = λ v one b stamps m n k a. knows_taken v one n a;
  served = λ v one t x y. y;
  settled = λ v one s x y. y;
}

-- what clients do
done_version : (z : Setting) (c : Client) (step : FileStep) → (done_cached z c step).version ≡ c.version
done_version z c (act.Writing pid number kernel stream from bytes) = refl
done_version z c (act.Append pid number kernel stream bytes) = choose_by (λ (d : Client). d.version ≡ c.version) (nat_lt z.most (c.size + length bytes)) c (write_cached z c c.size bytes) (λ e. refl) (λ e. refl)
done_version z c step = refl

knows_works : (z : Setting) → Works z (λ v k s. Unit {0}) Knows
knows_works z = record {
  waits = λ v kernel waiting p i q. knows_plain v kernel (record (client v kernel) { waiting = waiting }) p i refl;
  enters = λ v kernel step p i o n q. knows_plain v kernel (done_cached z (client v kernel) step) p i (done_version z (client v kernel) step);
  operates = λ v kernel step p i q. knows_begin v kernel server (op_of (client v kernel).stamp step) None p;
  still_waits = λ v kernel waiting s i q. tt;
  still_enters = λ v kernel step s i q. tt;
  still_operates = λ v kernel step s q. tt;
  fetches = λ v kernel number p i. knows_begin v kernel server _ None p;
}

-- all that a step leans on
pub record Answering (z : Setting) (v : View) : Type 0 where
  pub standing : Standing z v
  pub holders : FlatHolders v
  pub knows : Knows v

knows_moved : (v : View) (one : FileCall) (stream : StreamNo) (place : ℕ) (grant : Option FileGrant) → Knows v → Knows (record (remove_call v one.number) { carried = v.carried ++ record { call = one.number; to = place; stream = stream; grant = grant } ∷ [] })
knows_moved v one stream place grant a = knows_from v w a refl refl (λ x k. by_place x (in_things w x k))
  where
    carry : Carry
    carry = record { call = one.number; to = place; stream = stream; grant = grant }

    w : View
    w = record (remove_call v one.number) { carried = v.carried ++ carry ∷ [] }

    by_place : (x : FileCall) → Made as_call x (v.carried ++ carry ∷ []) ⊎ In x (without_call one.number v.calls) → In x (things v) ⊎ (is_flush x.reply ≡ false)
    by_place x (inl k) = inr (ap (λ (y : FileCall). is_flush y.reply) k.makes)
    by_place x (inr k) = inl (call_in_things v x (in_without one.number x v.calls k).0)

left_uncarried : (v : View) (carry : Carry) (x : FileCall) → In x (map as_call (without_carried carry.call v.carried) ++ v.calls) → In x (things v)
left_uncarried v carry x k = elim (in_join x (map as_call (without_carried carry.call v.carried)) v.calls k) [
  | inl a ↦ (let r : Made as_call x (without_carried carry.call v.carried) = in_map as_call x (without_carried carry.call v.carried) a in subst (λ y. In y (things v)) (sym r.makes) (in_left (as_call r.x) (map as_call v.carried) v.calls (map_in as_call r.x v.carried (in_filter (λ (c : Carry). not (c.call == carry.call)) r.x v.carried r.there).0)))
  | inr a ↦ call_in_things v x a
]

-- who has pieces to send has a dirty block
pub first_dirty : (z : Setting) (size : ℕ) (blocks dirty : List Held) → dirty_blocks blocks ≡ dirty → is_any {X = BlockNo × List ℕ} (map (λ (one : Held). (one.block, cut z one.bytes one.block.0 size)) dirty) ≡ true → (one : Held) × In one blocks × (is_some one.dirty ≡ true)
first_dirty z size blocks [] e n = absurd (cc (n))
first_dirty z size blocks (one ∷ rest) e n = let k = in_filter (λ (x : Held). is_some x.dirty) one blocks (subst (In one) (sym e) (inl refl)) in (one, k.0, k.1)

knows_called : (z : Setting) (v : View) (one : FileCall) (stamp : ℕ) (kind : CallKind) → Answering z v → In one v.calls → IsClient (length v.clients) one.to → Knows (called_back z v one stamp kind)
knows_called z v one stamp kind t m i x k size blocks r n = elim (in_with (replied one reply) x (things v) (subst (In x) (things_with w one (replied one reply) t.standing.flat.numbered.differ m refl) k)) [
  | inl p ↦ before x p.0 size blocks r n
  | inr p ↦ (
      let same : pieces z c.size c.blocks ≡ blocks = cc (ap (λ (y : FileCall). y.reply) p, r) in
      let d = first_dirty z c.size c.blocks (dirty_blocks c.blocks) refl (ap is_any same ∙ n) in
      let y : Ready one.to c.stamp c.version v.version _ c.mode (things v) = (t.holders.each one.to i).dirty_ready d.0 d.1 d.2 in
      let to_is : x.to ≡ one.to = ap (λ (u : FileCall). u.to) p in
      (subst (λ u. 1 ≤ u) (sym to_is) i.0, subst (λ u. (client w u).version ≡ v.version) (sym to_is) (ap (λ (u : Client). u.version) (client_set v one.to (take_callback c stamp kind) i) ∙ y.at_version))
      )
]
  where
    c : Client
    c = client v one.to

    w : View
    w = set_client v one.to (take_callback c stamp kind)

    reply : FileBody
    reply = form.Flushed c.size (pieces z c.size c.blocks)

    before : Knows w
    before = knows_plain v one.to (take_callback c stamp kind) t.knows i refl

knows_moving : (v : View) (stream : StreamNo) (source place : ℕ) (kept : Bool) → Knows v → IsClient (length v.clients) source → Knows (moving v stream source place kept)
knows_moving v stream source place true a i = knows_begin v source server _ None a
knows_moving v stream source place false a i = knows_begin (set_client v source (uninstall (client v source) stream)) source server _ None (knows_plain v source (uninstall (client v source) stream) a i refl)

knows_sends : (z : Setting) (v : View) (kernel : ℕ) (one : Held) (dirty : Option ℕ) → Knows v → IsClient (length v.clients) kernel → Knows (writing_back_at z v kernel one dirty)
knows_sends z v kernel one None a i = knows_plain v kernel (record (client v kernel) { blocks = without_block one.block.0 (client v kernel).blocks }) a i refl
knows_sends z v kernel one (Some dirty) a i = knows_begin v kernel server _ (Some dirty) a

knows_parts : (z : Setting) → Parts z (λ v k s. Unit {0}) (Answering z) Knows Knows
knows_parts z = record {
  works = knows_works z;
  flat = λ v t. t.standing.flat;
  same = λ v t. t.knows;
  rests = λ v p. p;
  wanted = λ v kernel t p i s m. tt;
  filled_wanted = λ v one stamp block other piece t n e r i p j s m. tt;
  fetch_again_wanted = λ v one stamp block grant t n e r i p j s m. tt;
  again_wanted = λ v one grant t m pid number stamp stream way e r i. tt;
  begun = λ v step t d e. tt;
  removed = λ v one t m r a c. knows_removed v one t.knows;
  opened = λ v one stream grant t m pid number mode truncate e r i.
      let l : grant.stamp ≤ current_stamp v (goes_to one) = (t.standing.stamps.each one (call_in_things v one m)).granted grant (ap arrival r) in
      let to_is : goes_to one ≡ one.from = ap (goes_of one.from) e in
      knows_takes v (remove_call v one.number) one.from grant _ t.standing.flat t.standing.stamps (knows_removed v one t.knows) refl i (left_removed v one) (subst (λ n. grant.stamp ≤ current_stamp v n) to_is l) refl;
  moved = λ v one stream place kept grants grant more t m e r. knows_moved v one stream place grant t.knows;
  came = λ v carry grant t m e.
      let w : View = record v { carried = without_carried carry.call v.carried } in
      let i : IsClient (length v.clients) carry.to = (t.standing.flat.carried carry m).client in
      let there : In (as_call carry) (things v) = in_left (as_call carry) (map as_call v.carried) v.calls (map_in as_call carry v.carried m) in
      knows_takes v w carry.to grant _ t.standing.flat t.standing.stamps (knows_from v w t.knows refl refl (λ x k. inl (left_uncarried v carry x k))) refl i (left_uncarried v carry) ((t.standing.stamps.each (as_call carry) there).granted grant e) refl;
  filled = λ v one stamp block other piece t m e r i. knows_plain (remove_call v one.number) one.from (fill z (client v one.from) other block piece) (knows_removed v one t.knows) i refl;
  again = λ v one stamp grant t m e r i. knows_takes v (remove_call v one.number) one.from grant (take_grant (client v one.from) grant) t.standing.flat t.standing.stamps (knows_removed v one t.knows) refl i (left_removed v one) ((t.standing.stamps.each one (call_in_things v one m)).again grant r) refl;
  done = λ v one stamp block size piece t m e r i. knows_plain (remove_call v one.number) one.from (wrote_back (client v one.from) stamp block.0 one.dirty) (knows_removed v one t.knows) i refl;
  flushed = λ v one stamp kind size blocks t m e r i. flushed_all z (Unit {0}) unnoted (λ had. Knows) (λ had. Knows) (serves_notes z Knows Knows (serves_knows z)) tt v one stamp kind size blocks t.standing t.holders m e r i (λ answering.
      knows_from v (answered_view v one (store_blocks z v.bytes size blocks)) t.knows refl refl (λ x k. inl (left_removed v one x k)));
  called = λ v one stamp kind t m e k n i. knows_called z v one stamp kind t m i;
  requested = λ v one t m s k n c. serves_request z Knows Knows (serves_knows z) v one (record { flat = t.standing.flat; streams = t.standing.streams }) t.standing.stamps t.standing.decided.ruled t.standing.modes t.holders m s n c t.knows;
  opens = λ v kernel pid number stream mode truncate t i. knows_begin v kernel server _ None t.knows;
  closes = λ v kernel stream t i. knows_begin (set_client v kernel (uninstall (client v kernel) stream)) kernel server _ None (knows_plain v kernel (uninstall (client v kernel) stream) t.knows i refl);
  moves = λ v stream source place kept t i. knows_moving v stream source place kept t.knows i;
  backs = λ v kernel one number t i h e. knows_sends z v kernel one one.dirty t.knows i;
  numbered = λ v next t l. t.knows;
  counted = λ v kernel count t i l. knows_plain v kernel (record (client v kernel) { count = count }) t.knows i refl;
  zeroed = λ v kernel block t i e. knows_plain v kernel _ t.knows i refl;
  raised = λ v version t u q l one m size blocks r n. absurd (none_flushed v t.standing.flat (idle v q) one m size blocks r);
  uncached = λ v t. t.knows;
}

knows_of : (v : View) → Flat v → Answered v → Knows v
knows_of v f a one m size blocks r n =
    let c : is_callback one.body ≡ true = flush_called v f one m size blocks r in
    ((callback_target (length v.clients) one.from one.to one.body (f.calls one (only_call v one m c)).ends c).0, a one m size blocks r n)

pub steps_answered : (z : Setting) (v : View) (step : FileStep) → Sound z v → Answered v → Answered (stepped z v step)
steps_answered z v step s a = choose_by Answered (possible z v step) (after z v step) v (λ e one m size blocks r n. (part_after z _ (Answering z) Knows Knows (knows_parts z) v step (and_parts (has_room v) (may_do z v step) e).1 (record { standing = t; holders = flat_holders v s.holders; knows = knows_of v t.flat a }) one m size blocks r n).1) (λ e. a)
  where
    t : Standing z v
    t = standing_of z v s.shapes s.streams s.stamps s.decisions s.modes

pub new_answered : (count : ℕ) (bytes : List ℕ) → Answered (new_view count bytes)
new_answered count bytes one m = absurd m
