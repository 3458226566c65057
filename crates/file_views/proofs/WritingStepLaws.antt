-- Write-backs, a part of the seventh layer of soundness, under what the server and clients do with calls.
use Rattle.std.proofs.Common.{◌≡◌, ◌≤◌, ◌<◌, ℕ, zero, suc, ◌+◌, ◌-◌, ◌*◌, ◌==◌, nat_le, Bool, true, false, cond, ◌&&◌, is_some, is_none, List, [], ◌∷◌, ◌++◌, length, map, Option, Some, None, refl, sym, ap, ◌∙◌, subst, inl, inr, arith, eq-eqb, leb-false, slice_index_or, slice_set, le_refl}
use Rattle.std.proofs.lemmas.Bool.{and_parts, and_from}
use Rattle.sprite_ids.specs.declared.BlockNo.{BlockNo}
use Rattle.sprite_ids.specs.declared.CallKind.{CallKind}
use Rattle.sprite_ids.specs.declared.CallKind.TheVariants.{Recall, Stop}
use Rattle.file_views.specs.declared.grant.FileGrant.{FileGrant}
use Rattle.file_views.specs.declared.body.FileBody.{FileBody}
use Rattle.file_views.specs.declared.body.FileBody.TheVariants as form
use Rattle.file_views.specs.declared.client.Held.{Held}
use Rattle.file_views.specs.declared.client.Client.{Client}
use Rattle.file_views.specs.declared.call.FileCall.{FileCall}
use Rattle.file_views.specs.declared.step.FileStep.{FileStep}
use Rattle.file_views.specs.declared.step.FileStep.TheVariants as act
use Rattle.file_views.specs.declared.view.View.{View}
use Rattle.file_views.specs.Setting.{Setting}
use Rattle.file_views.specs.Clients.{new_client, held, granted, take_grant, cleaned, blocks_after, take_callback, blocks_filled, fill, done_cached}
use Rattle.file_views.specs.Views.{server, client, set_client, current_stamp, greatest, as_call, things, new_call, begin, replied, answer, to_the_end, busy, waits, waiting_calls, with_call, without_call, last_stamp}
use Rattle.file_views.specs.Grants.{asks, granting, grant_of, settle, stamped, call_out, call_back, told, deciding, decide, kind_of_calls, uncached_after, called_kernels}
use Rattle.file_views.specs.Data.{op_of}
use Rattle.file_views.specs.Serving.{close, op_reply, block_of, refuse_old, serve_body, serve, serve_all, request_comes, resume, resumed}
use Rattle.file_views.specs.Moves.{is_data}
use Rattle.file_views.specs.Here.{In, Unique, IsClient, request_stamp}
use Rattle.file_views.specs.SoundShapes.{numbers, writes_back}
use Rattle.file_views.specs.SoundModes.{SameNewer}
use Rattle.file_views.specs.SoundHolders.{Ready, Keeps as KeepsIt}
use Rattle.file_views.specs.SoundRequests.{WritingBacks}
use Rattle.file_views.proofs.MemberLaws.{Made, in_left, in_join, in_last, last_in, in_with, in_without, in_filter, in_map, with_in, unique_filter}
use Rattle.file_views.proofs.EffectLaws.{by_kernel, count_set, client_set, client_other, things_begin, call_in_things}
use Rattle.file_views.proofs.ClientLaws.{choose, choose_by, fine_wait}
use Rattle.file_views.proofs.ShapeLaws.{Flat, flat_client}
use Rattle.file_views.proofs.ShapeStepLaws.{flat_send_op, flat_send_fetch, flat_enter, serve_keeps, number_of, apart_from}
use Rattle.file_views.proofs.StampLaws.{own_stamp, FlatStamps, in_things}
use Rattle.file_views.proofs.HolderLaws.{FlatHolders}
use Rattle.file_views.proofs.WorkLaws.{Works}
use Rattle.file_views.proofs.WritingLaws.{Sent, EachSent, writing_calls, Low, writing_current, writing_newer, Keeps, writing_keeps, keeps_same, keeps_filled, keeps_done, Begun, writing_begins, begun_other}

abbrev pub FlatWriting : Setting → View → Type 0
FlatWriting z v = (kernel : ℕ) → IsClient (length v.clients) kernel → WritingBacks z kernel (current_stamp v kernel) (client v kernel) (things v)

-- a view in which each call of a client stood before, each client is the same, and no current stamp is lower
pub record Calm (v w : View) : Type 0 where
  pub clients : w.clients ≡ v.clients
  pub sent : (kernel : ℕ) → 1 ≤ kernel → kernel ≤ 15 → EachSent kernel (things v) (things w)
  pub stamps : (kernel : ℕ) → current_stamp v kernel ≤ current_stamp w kernel

pub sent_self : (one : FileCall) (calls : List FileCall) → In one calls → Sent one calls
sent_self one calls m = record { other = one; there = m; number_is = refl; from_is = refl; body_is = refl; dirty_is = refl; unserved = λ e. e }

calm_on : (v w x : View) → Calm v w → Calm w x → Calm v x
calm_on v w x p q = record {
  clients = q.clients ∙ p.clients;
  sent = λ kernel l h one m e. let a : Sent one (things w) = q.sent kernel l h one m e in let b : Sent a.other (things v) = p.sent kernel l h a.other a.there (a.from_is ∙ e) in record { other = b.other; there = b.there; number_is = b.number_is ∙ a.number_is; from_is = b.from_is ∙ a.from_is; body_is = b.body_is ∙ a.body_is; dirty_is = b.dirty_is ∙ a.dirty_is; unserved = λ r. b.unserved (a.unserved r) };
  stamps = λ kernel. let a = p.stamps kernel in let b = q.stamps kernel in omega (arith, a, b);
}

same_stamps : (v w : View) → w.stamps ≡ v.stamps → (kernel : ℕ) → current_stamp v kernel ≤ current_stamp w kernel
same_stamps v w e kernel = let q : current_stamp w kernel ≡ current_stamp v kernel = ap (λ xs. slice_index_or xs (kernel - 1) 0) e in omega (arith, q)

calm_less : (v w : View) → w.clients ≡ v.clients → w.stamps ≡ v.stamps → ((one : FileCall) → In one (things w) → In one (things v)) → Calm v w
calm_less v w c s less = record { clients = c; sent = λ kernel l h one m e. sent_self one (things v) (less one m); stamps = same_stamps v w s }

calm_self : (v : View) → Calm v v
calm_self v = calm_less v v refl refl (λ x m. m)

-- a call is answered
pub calm_with : (v w : View) (one : FileCall) (reply : FileBody) → In one v.calls → w.clients ≡ v.clients → w.calls ≡ with_call (replied one reply) v.calls → w.carried ≡ v.carried → ((kernel : ℕ) → current_stamp v kernel ≤ current_stamp w kernel) → Calm v w
calm_with v w one reply m c e k s = record {
  clients = c;
  sent = λ kernel l h x n q. elim (in_join x (map as_call w.carried) w.calls n) [
    | inl a ↦ sent_self x (things v) (in_left x (map as_call v.carried) v.calls (subst (λ xs. In x (map as_call xs)) k a))
    | inr a ↦ elim (in_with (replied one reply) x v.calls (subst (In x) e a)) [ inl b ↦ sent_self x (things v) (call_in_things v x b.0) | inr b ↦ record { other = one; there = call_in_things v one m; number_is = ap (λ (y : FileCall). y.number) (sym b); from_is = ap (λ (y : FileCall). y.from) (sym b); body_is = ap (λ (y : FileCall). y.body) (sym b); dirty_is = ap (λ (y : FileCall). y.dirty) (sym b); unserved = λ r. absurd (cc (r, ap (λ (y : FileCall). y.reply) b)) } ]
  ];
  stamps = s;
}

-- a stamp that is over all others
pub set_rises : (stamps : List ℕ) (i stamp j : ℕ) → greatest stamps ≤ stamp → slice_index_or stamps j 0 ≤ slice_index_or (slice_set stamps i stamp) j 0
set_rises [] i stamp j g = omega arith
set_rises (s ∷ rest) zero stamp zero g = omega (arith, g)
set_rises (s ∷ rest) zero stamp (suc j) g = omega arith
set_rises (s ∷ rest) (suc i) stamp zero g = omega arith
set_rises (s ∷ rest) (suc i) stamp (suc j) g = let h = set_rises rest i stamp j (omega (arith, g)) in omega (arith, h)

pub calm_settle : (v : View) (one : FileCall) → In one v.calls → Calm v (settle v one)
calm_settle v one m = calm_with v (settle v one) one (granting one.body (grant_of v one)) m refl refl refl (λ kernel. set_rises v.stamps _ (last_stamp v + 1) (kernel - 1) (omega arith))

calm_out : (v : View) (kind : CallKind) (kernel : ℕ) → Calm v (call_out v kind kernel)
calm_out v kind kernel = record {
  clients = refl;
  sent = λ k l h x n q. elim (in_last x (new_call (stamped v kind kernel) server kernel (form.Callback (last_stamp v + 1) kind) None) (things v) (subst (In x) (things_begin (stamped v kind kernel) server kernel (form.Callback (last_stamp v + 1) kind) None) n)) [ inl a ↦ sent_self x (things v) a | inr e ↦ (let f : x.from ≡ 16 = ap (λ (y : FileCall). y.from) e in absurd (omega (arith, f, q, h))) ];
  stamps = λ k. set_rises v.stamps (kernel - 1) (last_stamp v + 1) (k - 1) (omega arith);
}

calm_call_back : (called : List ℕ) (kind : CallKind) (v : View) → Calm v (call_back called kind v)
calm_call_back [] kind v = calm_self v
calm_call_back (kernel ∷ rest) kind v = calm_on v (call_out v kind kernel) (call_back rest kind (call_out v kind kernel)) (calm_out v kind kernel) (calm_call_back rest kind (call_out v kind kernel))

calm_deciding : (v : View) (one : FileCall) (kind : CallKind) (called : List ℕ) → In one v.calls → Calm v (deciding v one kind called)
calm_deciding v one kind [] m = calm_settle v one m
calm_deciding v one kind (kernel ∷ rest) m = calm_call_back (kernel ∷ rest) kind v

calm_decide : (z : Setting) (v : View) (one : FileCall) → In one v.calls → Calm v (decide z v one)
calm_decide z v one m = calm_on v (told v (uncached_after z v one)) (decide z v one) (calm_less v (told v (uncached_after z v one)) refl refl (λ x n. n)) (calm_deciding (told v (uncached_after z v one)) one (kind_of_calls (uncached_after z v one)) (called_kernels z v one) m)

calm_reply : (v w : View) (one : FileCall) (reply : FileBody) → In one v.calls → w.clients ≡ v.clients → w.calls ≡ with_call (replied one reply) v.calls → w.carried ≡ v.carried → w.stamps ≡ v.stamps → Calm v w
calm_reply v w one reply m c e k s = calm_with v w one reply m c e k (same_stamps v w s)

pub calm_serve : (z : Setting) (v : View) (one : FileCall) (body : FileBody) → In one v.calls → Calm v (serve_body z v one body)
calm_serve z v one (form.Opening pid number stream mode truncate) m = calm_decide z v one m
calm_serve z v one (form.Move stream place kept grants) m = calm_decide z v one m
calm_serve z v one (form.Close stream grants) m = calm_reply v (close v one stream grants) one form.Done m refl refl refl refl
calm_serve z v one (form.Fetch stamp block) m = choose (Calm v) (stamp == current_stamp v one.from) _ _ (calm_reply v (answer v one (form.Block stamp (block_of z v.bytes block))) one (form.Block stamp (block_of z v.bytes block)) m refl refl refl refl) (calm_reply v (refuse_old v one) one _ m refl refl refl refl)
calm_serve z v one (form.WriteBack stamp block size piece) m = choose (Calm v) (stamp == current_stamp v one.from) _ _ (calm_reply v _ one form.Done m refl refl refl refl) (calm_reply v (refuse_old v one) one _ m refl refl refl refl)
calm_serve z v one (form.Op pid number stamp stream way) m = choose (Calm v) (stamp == current_stamp v one.from) _ _ (calm_reply v _ one (op_reply z v.bytes way) m refl refl refl refl) (calm_reply v (refuse_old v one) one _ m refl refl refl refl)
calm_serve z v one body m = calm_self v

calm_all : (z : Setting) (waiting : List FileCall) (v : View) → ((one : FileCall) → In one waiting → In one v.calls) → Unique (numbers waiting) → Calm v (serve_all z waiting v)
calm_all z [] v m u = calm_self v
calm_all z (one ∷ rest) v m u = choose (Calm v) (busy v) v (serve_all z rest (serve z v one)) (calm_self v)
    (calm_on v (serve z v one) (serve_all z rest (serve z v one)) (calm_serve z v one one.body (m one (inl refl))) (calm_all z rest (serve z v one) (λ other n. serve_keeps z v one other one.body (m other (inr n)) (apart_from one other rest u n)) u.1))

calm_resume : (z : Setting) (waiting : List FileCall) (v : View) → ((one : FileCall) → In one waiting → In one v.calls) → Unique (numbers waiting) → Calm v (resume z waiting v)
calm_resume z [] v m u = calm_self v
calm_resume z (one ∷ rest) v m u = choose (Calm v) (asks one.body) (serve_all z rest (settle v one)) (serve_all z (one ∷ rest) v)
    (calm_on v (settle v one) (serve_all z rest (settle v one)) (calm_settle v one (m one (inl refl))) (calm_all z rest (settle v one) (λ other n. with_in (replied one (granting one.body (grant_of v one))) other v.calls (m other (inr n)) (apart_from one other rest u n)) u.1))
    (calm_all z (one ∷ rest) v m u)

pub calm_resumed : (z : Setting) (v : View) → Unique (numbers v.calls) → Calm v (resumed z v)
calm_resumed z v u = choose (Calm v) (busy v) v (resume z (waiting_calls v) v) (calm_self v) (calm_resume z (waiting_calls v) v (λ one m. (in_filter waits one v.calls m).0) (unique_filter number_of waits v.calls u))

pub calm_taken : (v : View) (one : FileCall) → In one v.calls → Calm v (to_the_end v one)
calm_taken v one m = record {
  clients = refl;
  sent = λ kernel l h x n q. elim (in_join x (map as_call v.carried) (without_call one.number v.calls ++ record one { taken = true } ∷ []) n) [
    | inl a ↦ sent_self x (things v) (in_left x (map as_call v.carried) v.calls a)
    | inr a ↦ elim (in_last x (record one { taken = true }) (without_call one.number v.calls) a) [ inl b ↦ sent_self x (things v) (call_in_things v x (in_without one.number x v.calls b).0) | inr b ↦ record { other = one; there = call_in_things v one m; number_is = ap (λ (y : FileCall). y.number) (sym b); from_is = ap (λ (y : FileCall). y.from) (sym b); body_is = ap (λ (y : FileCall). y.body) (sym b); dirty_is = ap (λ (y : FileCall). y.dirty) (sym b); unserved = λ r. ap (λ (y : FileCall). y.reply) (sym b) ∙ r } ]
  ];
  stamps = λ kernel. le_refl (current_stamp v kernel);
}

pub calm_request : (z : Setting) (v : View) (one : FileCall) → In one v.calls → Calm v (request_comes z v one)
calm_request z v one m = choose (Calm v) (busy v) (to_the_end v one) (serve z (to_the_end v one) (record one { taken = true })) (calm_taken v one m) (calm_on v (to_the_end v one) (serve z (to_the_end v one) (record one { taken = true })) (calm_taken v one m) (calm_serve z (to_the_end v one) (record one { taken = true }) one.body (last_in (record one { taken = true }) _)))

-- fewer calls
pub calm_calls : (v w : View) → w.clients ≡ v.clients → w.stamps ≡ v.stamps → ((one : FileCall) → In one w.calls → In one v.calls) → Calm v w
calm_calls v w c s less = record {
  clients = c;
  sent = λ kernel l h x n q. elim (in_things w x n) [ inl r ↦ absurd (no_client x kernel l q (ap (λ (y : FileCall). y.from) r.makes)) | inr k ↦ sent_self x (things v) (call_in_things v x (less x k)) ];
  stamps = same_stamps v w s;
}
  where
    no_client : (x : FileCall) (kernel : ℕ) → 1 ≤ kernel → x.from ≡ kernel → x.from ≡ 0 → ⊥
    no_client x kernel l e n = omega (arith, l, e, n)

-- what such a view keeps
pub low_own : (v : View) → FlatStamps v → (kernel : ℕ) → Low kernel (own_stamp v kernel) (things v)
low_own v s kernel one m e stamp q = subst (λ k. stamp ≤ own_stamp v k) e ((s.each one m).request stamp q)

pub low_current : (v : View) → FlatStamps v → (kernel : ℕ) → IsClient (length v.clients) kernel → Low kernel (current_stamp v kernel) (things v)
low_current v s kernel i one m e stamp q = let a = low_own v s kernel one m e stamp q in let b = s.own_below kernel i in omega (arith, a, b)

pub local_calm : (z : Setting) (v w : View) (kernel : ℕ) (d : Client) → FlatStamps v → Calm v w → IsClient (length v.clients) kernel → length v.clients ≤ 15 → WritingBacks z kernel (current_stamp v kernel) d (things v) → WritingBacks z kernel (current_stamp w kernel) d (things w)
local_calm z v w kernel d s c i h f =
    let l = i.1 in
    let sent : EachSent kernel (things v) (things w) = c.sent kernel i.0 (omega (arith, l, h)) in
    writing_current z kernel (current_stamp v kernel) (current_stamp w kernel) d (things w) (writing_calls z kernel (current_stamp v kernel) d (things v) (things w) f sent) (c.stamps kernel)
    (λ one m e stamp q. let u : Sent one (things v) = sent one m e in low_current v s kernel i u.other u.there (u.from_is ∙ e) stamp (ap request_stamp u.body_is ∙ q))

pub writing_calm : (z : Setting) (v w : View) → FlatWriting z v → FlatStamps v → Calm v w → length v.clients ≤ 15 → FlatWriting z w
writing_calm z v w f s c h kernel i =
    let j : IsClient (length v.clients) kernel = subst (λ cs. IsClient (length cs) kernel) c.clients i in
    subst (λ (d : Client). WritingBacks z kernel (current_stamp w kernel) d (things w)) (ap (λ cs. slice_index_or cs (kernel - 1) new_client) (sym c.clients)) (local_calm z v w kernel (client v kernel) s c j h (f kernel j))

-- a client changes
pub writing_set : (z : Setting) (v : View) (kernel : ℕ) (d : Client) → FlatWriting z v → IsClient (length v.clients) kernel → WritingBacks z kernel (current_stamp v kernel) d (things v) → FlatWriting z (set_client v kernel d)
writing_set z v kernel d f i a other j = by_kernel (λ k. IsClient (length v.clients) k → WritingBacks z k (current_stamp v k) (client (set_client v kernel d) k) (things v)) kernel other
    (λ n. subst (λ (c : Client). WritingBacks z kernel (current_stamp v kernel) c (things v)) (sym (client_set v kernel d i)) a)
    (λ p n. subst (λ (c : Client). WritingBacks z other (current_stamp v other) c (things v)) (sym (client_other v kernel other d i.0 n.0 p)) (f other n))
    (subst (λ n. IsClient n other) (count_set v kernel d) j)

pub writing_kept : (z : Setting) (v : View) (kernel : ℕ) (d : Client) → FlatWriting z v → IsClient (length v.clients) kernel → Keeps z kernel (current_stamp v kernel) (client v kernel) d (things v) → FlatWriting z (set_client v kernel d)
writing_kept z v kernel d f i k = writing_set z v kernel d f i (writing_keeps z kernel (current_stamp v kernel) (client v kernel) d (things v) (f kernel i) k)

pub writing_same : (z : Setting) (v : View) (kernel : ℕ) (d : Client) → FlatWriting z v → IsClient (length v.clients) kernel → d.stamp ≡ (client v kernel).stamp → d.blocks ≡ (client v kernel).blocks → d.size ≡ (client v kernel).size → FlatWriting z (set_client v kernel d)
writing_same z v kernel d f i s b e = writing_kept z v kernel d f i (keeps_same z kernel (current_stamp v kernel) (client v kernel) d (things v) (f kernel i) s b e)

-- a request begins
pub writing_begin : (z : Setting) (v : View) (kernel : ℕ) (body : FileBody) (dirty : Option ℕ) → FlatWriting z v → Begun z kernel (current_stamp v kernel) (client v kernel) (things v) (new_call v kernel server body dirty) → FlatWriting z (begin v kernel server body dirty)
writing_begin z v kernel body dirty f b other i = subst (WritingBacks z other (current_stamp v other) (client v other)) (sym (things_begin v kernel server body dirty)) (by_kernel (λ k. IsClient (length v.clients) k → WritingBacks z k (current_stamp v k) (client v k) (things v ++ new_call v kernel server body dirty ∷ [])) kernel other
    (λ n. writing_begins z kernel (current_stamp v kernel) (client v kernel) (things v) (new_call v kernel server body dirty) (f kernel n) b)
    (λ d n. writing_calls z other (current_stamp v other) (client v other) (things v) (things v ++ new_call v kernel server body dirty ∷ []) (f other n) (λ x m e. elim (in_last x (new_call v kernel server body dirty) (things v) m) [ inl k ↦ sent_self x (things v) k | inr q ↦ absurd (d (sym e ∙ ap (λ (y : FileCall). y.from) q)) ]))
    i)

pub writing_other : (z : Setting) (v : View) (kernel : ℕ) (body : FileBody) (dirty : Option ℕ) → FlatWriting z v → writes_back body ≡ false → FlatWriting z (begin v kernel server body dirty)
writing_other z v kernel body dirty f n = writing_begin z v kernel body dirty f (begun_other z kernel (current_stamp v kernel) (client v kernel) (things v) (new_call v kernel server body dirty) n)

-- a grant is taken: dirty blocks stay, with the size
kept_in : (b : Bool) (blocks : List Held) (one : Held) → In one (cond b blocks []) → In one blocks
kept_in true blocks one m = m
kept_in false blocks one m = absurd m

pub writing_taken : (z : Setting) (v : View) (kernel : ℕ) (grant : FileGrant) → FlatWriting z v → FlatStamps v → FlatHolders v → IsClient (length v.clients) kernel → grant.stamp ≤ current_stamp v kernel → (own_stamp v kernel < grant.stamp → SameNewer kernel (own_stamp v kernel) (things v) grant) → WritingBacks z kernel (current_stamp v kernel) (take_grant (client v kernel) grant) (things v)
writing_taken z v kernel grant f s p i l source = choose_by (λ (c : Client). WritingBacks z kernel (current_stamp v kernel) c (things v)) (nat_le grant.stamp (client v kernel).stamp) (client v kernel) (granted (client v kernel) grant) (λ e. f kernel i)
    (λ e. let newer = leb-false grant.stamp (client v kernel).stamp e in writing_newer z kernel (current_stamp v kernel) (client v kernel) (granted (client v kernel) grant) (things v) (within newer) newer l (low_own v s kernel))
  where
    within : own_stamp v kernel < grant.stamp → (one : Held) → In one (granted (client v kernel) grant).blocks → is_some one.dirty ≡ true → one.block.0 * z.block < (granted (client v kernel) grant).size
    within n one m d =
        let k : In one (client v kernel).blocks = kept_in (grant.on && ((client v kernel).version == grant.old)) (client v kernel).blocks one m in
        let r : Ready kernel (own_stamp v kernel) (client v kernel).version v.version _ (client v kernel).mode (things v) = (p.each kernel i).dirty_ready one k d in
        let g : SameNewer kernel (own_stamp v kernel) (things v) grant = source n in
        let q : KeepsIt v.version g.newer = r.newer g.call g.is_newer.0 g.newer g.is_newer.1 g.is_newer.2 in
        let holder : grant.holder ≡ true = sym (ap (λ (x : FileGrant). x.holder) g.same) ∙ q.holder in
        let old : grant.old ≡ v.version = sym (ap (λ (x : FileGrant). x.old) g.same) ∙ q.old in
        subst (λ b. one.block.0 * z.block < cond b (client v kernel).size grant.size) (sym (and_from grant.holder ((client v kernel).version == grant.old) holder (eq-eqb (client v kernel).version grant.old (r.at_version ∙ sym old)))) ((f kernel i).dirty_within one k d)

-- a callback is taken
pub none_dirty : (blocks : List Held) (kind : CallKind) (one : Held) → In one (blocks_after blocks kind) → is_some one.dirty ≡ true → ⊥
none_dirty blocks Recall one m d = let r : Made cleaned one blocks = in_map cleaned one blocks m in cc (d, ap (λ (x : Held). is_some x.dirty) r.makes)
none_dirty blocks Stop one m d = m

pub writing_called : (z : Setting) (v : View) (kernel stamp : ℕ) (kind : CallKind) → FlatStamps v → own_stamp v kernel < stamp → stamp ≤ current_stamp v kernel → WritingBacks z kernel (current_stamp v kernel) (take_callback (client v kernel) stamp kind) (things v)
writing_called z v kernel stamp kind s l h = writing_newer z kernel (current_stamp v kernel) (client v kernel) (take_callback (client v kernel) stamp kind) (things v) (λ one m d. absurd (none_dirty (client v kernel).blocks kind one m d)) l h (low_own v s kernel)

-- a block comes in
none_of : (o : Option Held) → is_none o ≡ true → o ≡ None
none_of None e = refl
none_of (Some one) e = absurd (cc (e))

pub keeps_fill : (z : Setting) (kernel current : ℕ) (c : Client) (stamp : ℕ) (block : BlockNo) (piece : List ℕ) (calls : List FileCall) → WritingBacks z kernel current c calls → Keeps z kernel current c (fill z c stamp block piece) calls
keeps_fill z kernel current c stamp block piece calls f = by_test ((stamp == c.stamp) && is_none (held c.blocks block.0)) refl
  where
    by_test : (b : Bool) → ((stamp == c.stamp) && is_none (held c.blocks block.0)) ≡ b → Keeps z kernel current c (record c { blocks = blocks_filled z c.blocks block piece b }) calls
    by_test true e = keeps_filled z kernel current c _ calls f refl (none_of (held c.blocks block.0) (and_parts (stamp == c.stamp) (is_none (held c.blocks block.0)) e).1)
    by_test false e = keeps_same z kernel current c c calls f refl refl refl

-- what a client begins and does in its cache
pub record Writes (z : Setting) (v : View) : Type 0 where
  pub flat : Flat v
  pub writing : FlatWriting z v

op_writes_none : (stamp : ℕ) (step : FileStep) → writes_back (op_of stamp step) ≡ false
op_writes_none stamp (act.Reading pid number kernel stream from many) = refl
op_writes_none stamp (act.Writing pid number kernel stream from bytes) = refl
op_writes_none stamp (act.Append pid number kernel stream bytes) = refl
op_writes_none stamp step = refl

pub numbers_under : (v : View) (kernel : ℕ) → Flat v → IsClient (length v.clients) kernel → (one : FileCall) → In one (things v) → one.from ≡ kernel → (n : ℕ) → one.dirty ≡ Some n → n ≤ (client v kernel).count
numbers_under v kernel f i one m e n d = subst (λ k. n ≤ (client v k).count) e (f.sent one m n d (subst (IsClient (length v.clients)) (sym e) i))

pub writing_works : (z : Setting) → Works z (λ v k s. is_data s ≡ true) (Writes z)
writing_works z = record {
  waits = λ v kernel waiting p i q. record {
    flat = flat_client v kernel (record (client v kernel) { waiting = waiting }) p.flat i (fine_wait (client v kernel) waiting (p.flat.fine kernel i) (λ s m. elim (q s m) [ inl k ↦ (p.flat.fine kernel i).waits s k | inr k ↦ k ]));
    writing = writing_same z v kernel (record (client v kernel) { waiting = waiting }) p.writing i refl refl refl;
  };
  enters = λ v kernel step p i o n q. record {
    flat = flat_enter z v kernel step p.flat i;
    writing = writing_kept z v kernel (done_cached z (client v kernel) step) p.writing i (keeps_done z kernel (current_stamp v kernel) (client v kernel) step (things v) (p.writing kernel i) (numbers_under v kernel p.flat i));
  };
  operates = λ v kernel step p i q. record {
    flat = flat_send_op v kernel step p.flat i q;
    writing = writing_other z v kernel (op_of (client v kernel).stamp step) None p.writing (op_writes_none (client v kernel).stamp step);
  };
  still_waits = λ v kernel waiting s i q. q;
  still_enters = λ v kernel step s i q. q;
  still_operates = λ v kernel step s q. q;
  fetches = λ v kernel number p i. record {
    flat = flat_send_fetch v kernel number p.flat i;
    writing = writing_other z v kernel (form.Fetch (client v kernel).stamp (record { 0 = number })) None p.writing refl;
  };
}
