-- What is on its way is right, or changes nothing: the fifth part of coherence.
use Rattle.std.proofs.Common.{◌≡◌, ◌⊎◌, ℕ, ◌==◌, nat_lt, Bool, true, false, cond, ◌&&◌, ◌||◌, is_some, is_none, List, [], ◌∷◌, length, Option, Some, None, refl, sym, ap, ◌∙◌, subst, inl, inr, arith, eqb-true, eq-eqb, ne_eqb, le-leb}
use Rattle.std.proofs.lemmas.Bool.{and_from, ltb-true}
use Rattle.sprite_ids.specs.declared.BlockNo.{BlockNo}
use Rattle.sprite_ids.specs.declared.StreamNo.{StreamNo}
use Rattle.file_views.specs.declared.grant.FileGrant.{FileGrant}
use Rattle.file_views.specs.declared.body.FileBody.{FileBody}
use Rattle.file_views.specs.declared.body.FileBody.TheVariants as form
use Rattle.file_views.specs.declared.client.Held.{Held}
use Rattle.file_views.specs.declared.client.Client.{Client}
use Rattle.file_views.specs.declared.call.FileCall.{FileCall}
use Rattle.file_views.specs.declared.view.View.{View}
use Rattle.file_views.specs.Setting.{Setting}
use Rattle.file_views.specs.Contents.{whole, part, same_bytes}
use Rattle.file_views.specs.Clients.{held, same_number, take_grant, blocks_filled, fill, granted}
use Rattle.file_views.specs.Views.{client, current_stamp, is_holder, things, busy, with_call, replied, find_call, answer}
use Rattle.file_views.specs.Grants.{current_grant}
use Rattle.file_views.specs.Serving.{block_of, data_op, store, serve, serve_body, refuse_old}
use Rattle.file_views.specs.Moves.{is_fetch}
use Rattle.file_views.specs.Settled.{arrival, goes_to}
use Rattle.file_views.specs.Here.{In, IsClient, request_stamp}
use Rattle.file_views.specs.SoundShapes.{Ends}
use Rattle.file_views.specs.SoundContents.{StandsFor, DirtyBlock, FlushedBlock}
use Rattle.file_views.proofs.EffectLaws.{call_in_things}
use Rattle.file_views.proofs.BlockLaws.{in_held}
use Rattle.file_views.proofs.ShapeLaws.{Flat}
use Rattle.file_views.proofs.StampLaws.{own_stamp}
use Rattle.file_views.proofs.StampServeLaws.{idle}
use Rattle.file_views.proofs.SizeServeLaws.{flush_called}
use Rattle.file_views.proofs.SizeMoveLaws.{Full, full_of}
use Rattle.file_views.proofs.ContentLaws.{CarriedCall}
use Rattle.file_views.proofs.ContentViewLaws.{Con}
use Rattle.std.specs.List.{list_all}
use Rattle.std.specs.Cmp.Lexicographic.{pointwise}
use Rattle.file_views.specs.Coherent.{is_done, is_again, fetches_part, carries_block, reply_in, leaves_all, old_leaves_all, same_cache, old_is_nothing, again_grant, old_block_is_nothing, is_good_request, requests_are_good, old_grants_are_nothing, part_5}
use Rattle.file_views.specs.LayerLaw.{Layers}
use Rattle.file_views.proofs.OpenLaws.{OpenAt}
use Rattle.file_views.proofs.StampChangeLaws.{NoCall, no_call_thing}
use Rattle.file_views.proofs.HolderSettleLaws.{holder_is}
use Rattle.file_views.specs.Same.{same_mode, same_held, same_but_calls}
use Rattle.file_views.proofs.SameLaws.{bytes_same, blocks_self, view_self}
use Rattle.file_views.proofs.CoherentLaws.{all_by, same_mode_by, implies_by}
use Rattle.file_views.proofs.ContentServeLaws.{waiting_open}
use Rattle.file_views.proofs.ContentPartLaws.{con_of}

cache_self : (c : Client) → same_cache c c ≡ true
cache_self c = and_from (pointwise same_held c.blocks c.blocks) (same_mode c.mode c.mode) (blocks_self c.blocks) (same_mode_by c.mode c.mode refl)

or_by : (a b : Bool) → (a ≡ false → b ≡ true) → (a || b) ≡ true
or_by true b f = refl
or_by false b f = f refl

if_by : (b x y : Bool) → (b ≡ true → x ≡ true) → (b ≡ false → y ≡ true) → cond b x y ≡ true
if_by true x y f g = f refl
if_by false x y f g = g refl

-- an older grant, and an older block, change nothing
old_nothing : (c : Client) (o : Option FileGrant) → old_is_nothing c o ≡ true
old_nothing c None = refl
old_nothing c (Some grant) = implies_by (nat_lt grant.stamp c.stamp) (same_cache (take_grant c grant) c) (λ e. subst (λ b. same_cache (cond b c (granted c grant)) c ≡ true) (sym (le-leb grant.stamp c.stamp (let l = ltb-true grant.stamp c.stamp e in omega (arith, l)))) (cache_self c))

old_block : (z : Setting) (c : Client) (block : BlockNo) (o : Option FileBody) → old_block_is_nothing z c block o ≡ true
old_block z c block (Some (form.Block stamp piece)) = implies_by (nat_lt stamp c.stamp) (same_cache (fill z c stamp block piece) c) (λ e. subst (λ b. same_cache (record c { blocks = blocks_filled z c.blocks block piece (b && is_none (held c.blocks block.0)) }) c ≡ true) (sym (ne_eqb stamp c.stamp (λ q. (let l = ltb-true stamp c.stamp e in omega (arith, l, q))))) (cache_self c))
old_block z c block (Some reply) = refl
old_block z c block None = refl

-- an old request is told to begin again
answered_found : (new : FileCall) (calls : List FileCall) (one : FileCall) → In one calls → one.number ≡ new.number → find_call (with_call new calls) new.number ≡ Some new
answered_found new [] one m e = absurd m
answered_found new (c ∷ rest) one m e = by_test (c.number == new.number) refl (λ k. answered_found new rest one k e)
  where
    by_test : (b : Bool) → (c.number == new.number) ≡ b → (In one rest → find_call (with_call new rest) new.number ≡ Some new) → cond ((cond b new c).number == new.number) (Some (cond b new c)) (find_call (with_call new rest) new.number) ≡ Some new
    by_test true q f = ap (λ t. cond t (Some new) (find_call (with_call new rest) new.number)) (eq-eqb new.number new.number refl)
    by_test false q f = ap (λ t. cond t (Some c) (find_call (with_call new rest) new.number)) q ∙ elim m [
      | inl k ↦ absurd (cc (q, eq-eqb c.number new.number (ap (λ (x : FileCall). x.number) (sym k) ∙ e)))
      | inr k ↦ f k
    ]

leaves : (z : Setting) (v : View) (one : FileCall) → In one v.calls → serve z v one ≡ refuse_old v one → leaves_all z v one ≡ true
leaves z v one m e = subst (λ (w : View). (is_again (reply_in (find_call w.calls one.number)) && same_but_calls w v) ≡ true) (sym e)
    (and_from (is_again (reply_in (find_call (refuse_old v one).calls one.number))) _ (ap (λ o. is_again (reply_in o)) (answered_found (replied one (form.Again (current_grant v one.from))) v.calls one m refl)) (view_self v))

old_leaves : (z : Setting) (v : View) (one : FileCall) → In one v.calls → serve z v one ≡ refuse_old v one → old_leaves_all z v one ≡ true
old_leaves z v one m e = or_by (busy v) _ (λ q. or_by (is_some one.reply) _ (λ r. leaves z v one m e))

-- a request
sender : (v : View) (one : FileCall) (body : FileBody) → Flat v → In one v.calls → one.body ≡ body → Ends (length v.clients) one.from one.to body
sender v one body flat m e = subst (Ends (length v.clients) one.from one.to) e (flat.calls one m).ends

own_now : (z : Setting) (v : View) (one : FileCall) (stamp : ℕ) → Full z v → In one v.calls → request_stamp one.body ≡ Some stamp → IsClient (length v.clients) one.from → stamp ≡ current_stamp v one.from → stamp ≡ own_stamp v one.from
own_now z v one stamp t m e i q =
    let a = (t.standing.stamps.each one (call_in_things v one m)).request stamp e in
    let b = t.standing.stamps.own_below one.from i in
    omega (arith, a, b, q)

fetches : (z : Setting) (stood : List ℕ) (v : View) (one : FileCall) (stamp : ℕ) (block : BlockNo) → Full z v → Con z stood v → In one v.calls → one.body ≡ form.Fetch stamp block → IsClient (length v.clients) one.from → stamp ≡ own_stamp v one.from → (reply : Option FileBody) → one.reply ≡ reply → fetches_part z v stood block.0 reply ≡ true
fetches z stood v one stamp block t con m e i own (Some (form.Block other piece)) r = bytes_same (whole z piece) (part z stood block.0) ((con.good one.from i).fetched one (call_in_things v one m) refl stamp block e own other piece r)
fetches z stood v one stamp block t con m e i own (Some reply) r = refl
fetches z stood v one stamp block t con m e i own None r = or_by (busy v) _ (λ q. bytes_same (part z v.bytes block.0) (part z stood block.0) (right (idle v q) (con.stands.rest block.0)))
  where
    there : In one (things v)
    there = call_in_things v one m

    open_here : (stream : StreamNo) × OpenAt stream one.from v.opens
    open_here = waiting_open v t.standing.flat t.standing.streams one.from i ((t.asking one.from i).fetch_waits one there refl (ap is_fetch e))

    at_holder : (k : ℕ) → is_holder v k ≡ true → k ≡ one.from
    at_holder k h = sym (t.holders.opens k (holder_is v.holder k h) open_here.1.one open_here.1.there) ∙ open_here.1.kernel_is

    right : NoCall v → DirtyBlock v block.0 ⊎ (FlushedBlock v block.0 ⊎ (part z v.bytes block.0 ≡ part z stood block.0)) → part z v.bytes block.0 ≡ part z stood block.0
    right none (inl d) =
        let k : d.kernel ≡ one.from = at_holder d.kernel ((t.holders.each d.kernel d.is_client).dirty_ready d.one d.there d.dirty).holds_it in
        let n : In d.one (client v one.from).blocks = subst (λ y. In d.one (client v y).blocks) k d.there in
        let absent : held (client v one.from).blocks block.0 ≡ None = (t.asking one.from i).fetch_absent one there refl stamp block e own in
        absurd (cc (absent, in_held (client v one.from).blocks d.one (t.standing.flat.fine one.from i).owned.differ n, ap (held (client v one.from).blocks) d.place))
    right none (inr (inl g)) = absurd (no_call_thing v none g.call g.there (flush_called v t.standing.flat g.call g.there g.size g.blocks g.replied))
    right none (inr (inr x)) = x

carries : (z : Setting) (stood : List ℕ) (v : View) (one : FileCall) (stamp : ℕ) (block : BlockNo) (size : ℕ) (piece : List ℕ) → Con z stood v → In one v.calls → one.body ≡ form.WriteBack stamp block size piece → IsClient (length v.clients) one.from → stamp ≡ current_stamp v one.from → stamp ≡ own_stamp v one.from → (found : Option Held) → held (client v one.from).blocks block.0 ≡ found → carries_block z v block.0 piece one.dirty one.reply found ≡ true
carries z stood v one stamp block size piece con m e i now own None h = refl
carries z stood v one stamp block size piece con m e i now own (Some x) h = implies_by (same_number x.dirty one.dirty) _ (λ s.
    and_from (same_bytes (whole z piece) x.bytes) _ (bytes_same (whole z piece) x.bytes (k.whole_block block size piece (record { from_kernel = refl; is_write_back = e ∙ ap (λ n. form.WriteBack n block size piece) now }) x (record { found = h; same = s })))
    (implies_by (is_done one.reply) _ (λ d. bytes_same (part z v.bytes block.0) x.bytes (k.done block size piece (record { from_kernel = refl; is_write_back = e ∙ ap (λ n. form.WriteBack n block size piece) own }) (done_of one.reply refl d) x (record { found = h; same = s })))))
  where
    k : CarriedCall z one.from (current_stamp v one.from) (client v one.from) v.bytes one
    k = con.carried one.from i one (call_in_things v one m)

    done_of : (reply : Option FileBody) → one.reply ≡ reply → is_done reply ≡ true → one.reply ≡ Some form.Done
    done_of (Some form.Done) r d = r
    done_of (Some reply) r d = absurd (cc (d))
    done_of None r d = absurd (cc (d))

good_body : (z : Setting) (stood : List ℕ) (v : View) (one : FileCall) → Full z v → Con z stood v → In one v.calls → (body : FileBody) → one.body ≡ body → is_good_request z v stood one body ≡ true
good_body z stood v one t con m (form.Fetch stamp block) e =
    let i : IsClient (length v.clients) one.from = (sender v one _ t.standing.flat m e).0 in
    and_from (cond (stamp == current_stamp v one.from) (fetches_part z v stood block.0 one.reply) (old_leaves_all z v one)) _ (if_by (stamp == current_stamp v one.from) _ _
    (λ q. fetches z stood v one stamp block t con m e i (own_now z v one stamp t m (ap request_stamp e) i (eqb-true stamp (current_stamp v one.from) q)) one.reply refl)
    (λ q. old_leaves z v one m (ap (serve_body z v one) e ∙ ap (λ b. cond b (answer v one (form.Block stamp (block_of z v.bytes block))) (refuse_old v one)) q)))
    (old_block z (client v one.from) block one.reply)
good_body z stood v one t con m (form.WriteBack stamp block size piece) e =
    let i : IsClient (length v.clients) one.from = (sender v one _ t.standing.flat m e).0 in
    if_by (stamp == current_stamp v one.from) _ _
    (λ q. carries z stood v one stamp block size piece con m e i (eqb-true stamp (current_stamp v one.from) q) (own_now z v one stamp t m (ap request_stamp e) i (eqb-true stamp (current_stamp v one.from) q)) (held (client v one.from).blocks block.0) refl)
    (λ q. old_leaves z v one m (ap (serve_body z v one) e ∙ ap (λ b. cond b (store z v one block size piece) (refuse_old v one)) q))
good_body z stood v one t con m (form.Op pid number stamp stream way) e = or_by (stamp == current_stamp v one.from) _ (λ q. old_leaves z v one m (ap (serve_body z v one) e ∙ ap (λ b. cond b (data_op z v one way) (refuse_old v one)) q))
good_body z stood v one t con m body e = refl

pub part_5_by : (z : Setting) (v : View) → Layers z v → (f : StandsFor z v) → part_5 z v f.stood ≡ true
part_5_by z v l f = and_from (list_all (requests_are_good z v f.stood) v.calls) _
    (all_by (requests_are_good z v f.stood) v.calls (λ one m. and_from (is_good_request z v f.stood one one.body) _ (good_body z f.stood v one t (con_of z v t.standing.stamps f) m one.body refl) (old_nothing (client v one.from) (again_grant one.reply))))
    (all_by (old_grants_are_nothing v) (things v) (λ one m. old_nothing (client v (goes_to one)) (arrival one.reply)))
  where
    t : Full z v
    t = full_of z v l.shapes l.streams l.stamps l.decisions l.modes l.holders l.asking l.write_backs l.sizes
