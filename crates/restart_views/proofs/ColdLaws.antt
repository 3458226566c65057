-- Where no client may cache a file, and nobody uses its cache of it or is about to, each step keeps that.
use Rattle.std.proofs.Common.{◌≡◌, ◌<◌, ◌⊎◌, ℕ, zero, suc, ◌+◌, ◌-◌, ◌==◌, nat_le, Bool, true, false, cond, not, ◌&&◌, ◌||◌, List, [], ◌∷◌, ◌++◌, length, map, Option, Some, None, refl, sym, ap, ap₂, ◌∙◌, subst, inl, inr, leb-false, slice_set, slice_index_or}
use Rattle.std.specs.List.{list_any}
use Rattle.std.proofs.lemmas.Bool.{and_parts}
use Rattle.sprite_ids.specs.declared.StreamNo.{StreamNo}
use Rattle.sprite_ids.specs.declared.CacheMode.{CacheMode}
use Rattle.sprite_ids.specs.declared.CacheMode.TheVariants as cache
use Rattle.sprite_ids.specs.declared.CallKind.{CallKind}
use Rattle.sprite_ids.specs.declared.CallKind.TheVariants.{Recall, Stop}
use Rattle.sprite_ids.specs.declared.errno.Errno.TheVariants as errno
use Rattle.file_views.specs.declared.grant.FileGrant.{FileGrant}
use Rattle.file_views.specs.declared.body.Access.TheVariants as access
use Rattle.file_views.specs.declared.body.FileBody.{FileBody}
use Rattle.file_views.specs.declared.body.FileBody.TheVariants as form
use Rattle.file_views.specs.declared.client.Held.{Held}
use Rattle.file_views.specs.declared.client.Client.{Client}
use Rattle.file_views.specs.declared.call.FileCall.{FileCall}
use Rattle.file_views.specs.declared.call.Carry.{Carry}
use Rattle.file_views.specs.declared.opens.Open.{Open}
use Rattle.file_views.specs.declared.step.FileStep.{FileStep}
use Rattle.file_views.specs.declared.moves.ClientMove.TheVariants as move
use Rattle.file_views.specs.declared.view.View.{View}
use Rattle.file_views.specs.Setting.{Setting}
use Rattle.file_views.specs.Contents.{put_block}
use Rattle.file_views.specs.Streams.{is_any}
use Rattle.file_views.specs.Clients.{new_client, is_on, mode_of, pieces, granted, take_grant, take_callback, mode_after, fill, wrote_back, uninstall, without_block}
use Rattle.file_views.specs.Views.{server, client, set_client, mode_given, is_holder, as_call, things, new_call, with_call, without_call, without_carried, begin, replied, answer, remove_call, to_the_end}
use Rattle.file_views.specs.Grants.{asks, receiver, mode_called, stamped, call_out, granting, grant_of, holder_after, settle, uncached_after, current_grant}
use Rattle.file_views.specs.Data.{op_of}
use Rattle.file_views.specs.Serving.{close, op_reply, bytes_after, block_of, data_op, store, refuse_old, store_blocks}
use Rattle.file_views.specs.Steps.{called_back, moving, writing_back_at, after}
use Rattle.file_views.specs.Possible.{has_room, may_do, possible, stepped}
use Rattle.file_views.specs.Moves.{may_move}
use Rattle.file_views.specs.LayerLaw.{Move}
use Rattle.file_views.specs.Settled.{arrival}
use Rattle.file_views.specs.Here.{In, IsClient}
use Rattle.file_views.specs.SoundModes.{SameNewer}
use Rattle.file_views.specs.Sound.{Sound}
use Rattle.file_views.proofs.MemberLaws.{Made, in_left, in_join, in_last, in_filter, in_map, map_in, in_without, in_with}
use Rattle.file_views.proofs.EffectLaws.{client_set, client_other, count_set, by_kernel, things_begin, things_with, call_in_things}
use Rattle.file_views.proofs.ClientLaws.{choose_by}
use Rattle.file_views.proofs.StreamLaws.{in_opened}
use Rattle.file_views.proofs.StampLaws.{in_things}
use Rattle.file_views.proofs.ModeStepLaws.{Standing, standing_of}
use Rattle.file_views.proofs.HolderLaws.{FlatHolders, flat_holders}
use Rattle.file_views.proofs.HolderServeLaws.{answered_view}
use Rattle.file_views.proofs.HolderSettleLaws.{Settles}
use Rattle.file_views.proofs.WorkLaws.{unnoted, Works}
use Rattle.file_views.proofs.PartLaws.{Parts, part_after}
use Rattle.file_views.proofs.ServeLaws.{Serves, serves_notes, serves_request}
use Rattle.file_views.proofs.SizeMoveLaws.{flushed_all}
use Rattle.file_views.proofs.SoundLaws.{sound_stays}
use Rattle.file_views.proofs.StampServeLaws.{op_arrival}
use Rattle.file_views.proofs.ModeLaws.{off_of}
use Rattle.restart_views.specs.ColdSteps.{uncached_setting, Cold}
use Rattle.restart_views.proofs.AnsweredLaws.{left_removed}

-- nothing but calls changes
cold_from : {clients : ℕ} (v w : View) → Cold clients v → w.holder ≡ None → w.modes ≡ v.modes → w.clients ≡ v.clients → ((one : FileCall) → In one (things w) → (grant : FileGrant) → arrival one.reply ≡ Some grant → grant.on ≡ false) → Cold clients w
cold_from v w c h m k l = record {
  count = ap length k ∙ c.count;
  unheld = h;
  given = λ place. ap (λ ms. is_on (slice_index_or ms place cache.None)) m ∙ c.given place;
  off = λ kernel i. ap (λ cs. is_on (slice_index_or cs (kernel - 1) new_client).mode) k ∙ c.off kernel (subst (λ cs. IsClient (length cs) kernel) k i);
  later = l;
}

cold_fewer : {clients : ℕ} (v w : View) → Cold clients v → w.holder ≡ None → w.modes ≡ v.modes → w.clients ≡ v.clients → ((one : FileCall) → In one (things w) → In one (things v) ⊎ (arrival one.reply ≡ None)) → Cold clients w
cold_fewer v w c h m k less = cold_from v w c h m k (λ one n grant a. elim (less one n) [ inl p ↦ c.later one p grant a | inr q ↦ absurd (cc (a, q)) ])

cold_answer : {clients : ℕ} (v w : View) (one : FileCall) (reply : FileBody) → Cold clients v → w.holder ≡ None → w.modes ≡ v.modes → w.clients ≡ v.clients → things w ≡ with_call (replied one reply) (things v) → arrival (Some reply) ≡ None → Cold clients w
cold_answer v w one reply c h m k e n = cold_fewer v w c h m k (λ x p. elim (in_with (replied one reply) x (things v) (subst (In x) e p)) [ inl q ↦ inl q.0 | inr q ↦ inr (ap (λ (y : FileCall). arrival y.reply) q ∙ n) ])

cold_begin : {clients : ℕ} (v : View) (source to : ℕ) (body : FileBody) (dirty : Option ℕ) → Cold clients v → Cold clients (begin v source to body dirty)
cold_begin v source to body dirty c = cold_fewer v (begin v source to body dirty) c c.unheld refl refl (λ x m. elim (in_last x (new_call v source to body dirty) (things v) (subst (In x) (things_begin v source to body dirty) m)) [ inl k ↦ inl k | inr e ↦ inr (ap (λ (y : FileCall). arrival y.reply) e) ])

cold_set : {clients : ℕ} (v : View) (kernel : ℕ) (d : Client) → Cold clients v → IsClient (length v.clients) kernel → is_on d.mode ≡ false → Cold clients (set_client v kernel d)
cold_set v kernel d c i o = record {
  count = count_set v kernel d ∙ c.count;
  unheld = c.unheld;
  given = c.given;
  off = λ other j. by_kernel (λ k. IsClient (length v.clients) k → is_on (client (set_client v kernel d) k).mode ≡ false) kernel other
      (λ n. ap (λ (x : Client). is_on x.mode) (client_set v kernel d i) ∙ o)
      (λ p n. ap (λ (x : Client). is_on x.mode) (client_other v kernel other d i.0 n.0 p) ∙ c.off other n)
      (subst (λ n. IsClient n other) (count_set v kernel d) j);
  later = c.later;
}

cold_removed : {clients : ℕ} (v : View) (one : FileCall) → Cold clients v → Cold clients (remove_call v one.number)
cold_removed v one c = cold_fewer v (remove_call v one.number) c c.unheld refl refl (λ x m. inl (left_removed v one x m))

-- the modes given
pub off_set : (modes : List CacheMode) (i : ℕ) (mode : CacheMode) → is_on mode ≡ false → ((place : ℕ) → is_on (slice_index_or modes place cache.None) ≡ false) → (place : ℕ) → is_on (slice_index_or (slice_set modes i mode) place cache.None) ≡ false
off_set [] i mode e f place = f place
off_set (m ∷ ms) zero mode e f zero = e
off_set (m ∷ ms) zero mode e f (suc place) = f (suc place)
off_set (m ∷ ms) (suc i) mode e f zero = f zero
off_set (m ∷ ms) (suc i) mode e f (suc place) = off_set ms i mode e (λ n. f (suc n)) place

off_called : (mode : CacheMode) (kind : CallKind) → is_on mode ≡ false → is_on (mode_called mode kind) ≡ false
off_called mode Recall e = e
off_called mode Stop e = refl

off_after : (mode : CacheMode) (kind : CallKind) → is_on mode ≡ false → is_on (mode_after mode kind) ≡ false
off_after mode Recall e = e
off_after mode Stop e = refl

taken_off : (c : Client) (grant : FileGrant) → is_on c.mode ≡ false → grant.on ≡ false → is_on (take_grant c grant).mode ≡ false
taken_off c grant o g = choose_by (λ (d : Client). is_on d.mode ≡ false) (nat_le grant.stamp c.stamp) c (granted c grant) (λ e. o) (λ e. off_of grant.on g)

-- what the server does
cold_out : {clients : ℕ} (v : View) (kind : CallKind) (kernel : ℕ) → Cold clients v → Cold clients (call_out v kind kernel)
cold_out v kind kernel c = cold_begin (stamped v kind kernel) server kernel _ None (record { count = c.count; unheld = c.unheld; given = off_set v.modes (kernel - 1) (mode_called (mode_given v kernel) kind) (off_called (mode_given v kernel) kind (c.given (kernel - 1))) c.given; off = c.off; later = c.later })

or_true : (b : Bool) → (b || true) ≡ false → ⊥
or_true true e = cc (e)
or_true false e = cc (e)

is_uncached : (z : Setting) (v : View) (one : FileCall) → (v.uncached ≡ false → uncached_after (uncached_setting z) v one ≡ false) → (b : Bool) → v.uncached ≡ b → b ≡ true
is_uncached z v one f true e = refl
is_uncached z v one f false e = absurd (or_true v.uncached (f e))

unheld_after : (holder : Option ℕ) (kernel : ℕ) (a u : Bool) → holder ≡ None → u ≡ true → holder_after holder kernel (a && not u) ≡ None
unheld_after holder kernel true true h e = h
unheld_after holder kernel false u h e = h
unheld_after holder kernel true false h e = absurd (cc (e))

granting_brings : (body : FileBody) (grant other : FileGrant) → asks body ≡ true → arrival (Some (granting body grant)) ≡ Some other → grant ≡ other
granting_brings (form.Opening pid number stream mode truncate) grant other a e = cc (e)
granting_brings (form.Move stream place kept grants) grant other a e = cc (e)
granting_brings body grant other a e = absurd (cc (a))

cold_settles : {clients : ℕ} (z : Setting) (v : View) (one : FileCall) → Settles (uncached_setting z) v one → Cold clients v → Cold clients (settle v one)
cold_settles z v one s c = record {
  count = c.count;
  unheld = unheld_after v.holder (receiver one) _ v.uncached c.unheld u;
  given = off_set v.modes (receiver one - 1) (mode_of (not v.uncached)) (off_of (not v.uncached) (ap not u)) c.given;
  off = c.off;
  later = λ x m grant a. elim (in_with (replied one (granting one.body (grant_of v one))) x (things v) (subst (In x) (things_with v one (replied one (granting one.body (grant_of v one))) s.both.flat.numbered.differ s.there refl) m)) [
    | inl q ↦ c.later x q.0 grant a
    | inr q ↦ (let e : grant_of v one ≡ grant = granting_brings one.body (grant_of v one) grant s.asks_it (sym (ap (λ (y : FileCall). arrival y.reply) q) ∙ a) in sym (ap (λ (g : FileGrant). g.on) e) ∙ ap not u)
  ];
}
  where
    u : v.uncached ≡ true
    u = is_uncached z v one s.told v.uncached refl

cold_taken : {clients : ℕ} (v : View) (one : FileCall) → one.reply ≡ None → Cold clients v → Cold clients (to_the_end v one)
cold_taken v one n c = cold_fewer v (to_the_end v one) c c.unheld refl refl (λ x k. elim (in_join x (map as_call v.carried) (without_call one.number v.calls ++ record one { taken = true } ∷ []) k) [
  | inl a ↦ inl (in_left x (map as_call v.carried) v.calls a)
  | inr a ↦ elim (in_last x (record one { taken = true }) (without_call one.number v.calls) a) [
    | inl b ↦ inl (call_in_things v x (in_without one.number x v.calls b).0)
    | inr b ↦ inr (ap (λ (y : FileCall). arrival y.reply) b ∙ ap arrival n)
  ]
])

serves_cold : (clients : ℕ) (z : Setting) → Serves (uncached_setting z) (Cold clients) (Cold clients)
serves_cold clients z = record {
  eases = λ v c. c;
  tells = λ v b c. record { count = c.count; unheld = c.unheld; given = c.given; off = c.off; later = c.later };
  outs = λ v kind kernel c. cold_out v kind kernel c;
  settles = λ v one s c. cold_settles z v one s c;
  closes = λ v one stream grants t e c. cold_answer v (close v one stream grants) one form.Done c c.unheld refl refl (things_with v one (replied one form.Done) t.both.flat.numbered.differ t.there refl) refl;
  fetched = λ v one block t e c. cold_answer v (answer v one (form.Block _ (block_of (uncached_setting z) v.bytes block))) one _ c c.unheld refl refl (things_with v one (replied one _) t.both.flat.numbered.differ t.there refl) refl;
  refuses = λ v one stamp t e c. cold_answer v (refuse_old v one) one (form.Again (current_grant v one.from)) c c.unheld refl refl (things_with v one (replied one _) t.both.flat.numbered.differ t.there refl) refl;
  stores = λ v one block size piece t e c. cold_answer v (store (uncached_setting z) v one block size piece) one form.Done c c.unheld refl refl (things_with (record v { bytes = put_block (uncached_setting z) v.bytes block.0 size piece }) one (replied one form.Done) t.both.flat.numbered.differ t.there refl) refl;
  operates = λ v one pid number stream way t e c. cold_answer v (data_op (uncached_setting z) v one way) one (op_reply (uncached_setting z) v.bytes way) c c.unheld refl refl (things_with (record v { bytes = bytes_after (uncached_setting z) v.bytes way }) one (replied one _) t.both.flat.numbered.differ t.there refl) (op_arrival (uncached_setting z) v.bytes way);
  takes = λ v one b stamps m n k c. cold_taken v one n c;
  served = λ v one t x y. y;
  settled = λ v one s x y. y;
}

-- what clients do
cold_works : (clients : ℕ) (z : Setting) → Works (uncached_setting z) (λ v k s. Unit {0}) (Cold clients)
cold_works clients z = record {
  waits = λ v kernel waiting p i q. cold_set v kernel (record (client v kernel) { waiting = waiting }) p i (p.off kernel i);
  enters = λ v kernel step p i o n q. (let u = p.off kernel i in absurd (cc (o, u)));
  operates = λ v kernel step p i q. cold_begin v kernel server (op_of (client v kernel).stamp step) None p;
  still_waits = λ v kernel waiting s i q. tt;
  still_enters = λ v kernel step s i q. tt;
  still_operates = λ v kernel step s q. tt;
  fetches = λ v kernel number p i. cold_begin v kernel server _ None p;
}

-- all that a step leans on
pub record Cooling (clients : ℕ) (z : Setting) (v : View) : Type 0 where
  pub standing : Standing z v
  pub holders : FlatHolders v
  pub cold : Cold clients v

cold_moved : {clients : ℕ} (v : View) (one : FileCall) (stream : StreamNo) (place : ℕ) (grant : Option FileGrant) (more : ℕ) → Cold clients v → In one v.calls → one.reply ≡ Some (form.Moved grant more) → Cold clients (record (remove_call v one.number) { carried = v.carried ++ record { call = one.number; to = place; stream = stream; grant = grant } ∷ [] })
cold_moved v one stream place grant more c m r = cold_from v w c c.unheld refl refl (λ x k g a. by_place x g a (in_things w x k))
  where
    carry : Carry
    carry = record { call = one.number; to = place; stream = stream; grant = grant }

    w : View
    w = record (remove_call v one.number) { carried = v.carried ++ carry ∷ [] }

    by_place : (x : FileCall) (g : FileGrant) → arrival x.reply ≡ Some g → Made as_call x (v.carried ++ carry ∷ []) ⊎ In x (without_call one.number v.calls) → g.on ≡ false
    by_place x g a (inl k) = elim (in_last k.x carry v.carried k.there) [
      | inl b ↦ c.later x (subst (λ y. In y (things v)) (sym k.makes) (in_left (as_call k.x) (map as_call v.carried) v.calls (map_in as_call k.x v.carried b))) g a
      | inr b ↦ c.later one (call_in_things v one m) g (ap arrival r ∙ (sym (ap (λ (y : FileCall). arrival y.reply) (k.makes ∙ ap as_call b)) ∙ a))
    ]
    by_place x g a (inr k) = c.later x (call_in_things v x (in_without one.number x v.calls k).0) g a

left_uncarried : (v : View) (carry : Carry) (x : FileCall) → In x (map as_call (without_carried carry.call v.carried) ++ v.calls) → In x (things v)
left_uncarried v carry x k = elim (in_join x (map as_call (without_carried carry.call v.carried)) v.calls k) [
  | inl a ↦ (let r : Made as_call x (without_carried carry.call v.carried) = in_map as_call x (without_carried carry.call v.carried) a in subst (λ y. In y (things v)) (sym r.makes) (in_left (as_call r.x) (map as_call v.carried) v.calls (map_in as_call r.x v.carried (in_filter (λ (c : Carry). not (c.call == carry.call)) r.x v.carried r.there).0)))
  | inr a ↦ call_in_things v x a
]

again_off : {clients : ℕ} (z : Setting) (v : View) (one : FileCall) (grant : FileGrant) → Cooling clients z v → In one v.calls → one.reply ≡ Some (form.Again grant) → IsClient (length v.clients) one.from → is_on (take_grant (client v one.from) grant).mode ≡ false
again_off z v one grant t m r i = choose_by (λ (d : Client). is_on d.mode ≡ false) (nat_le grant.stamp (client v one.from).stamp) (client v one.from) (granted (client v one.from) grant) (λ e. t.cold.off one.from i) (λ e.
    let k : SameNewer one.from (client v one.from).stamp (things v) grant = (t.standing.modes one.from i).again one (call_in_things v one m) refl grant r (leb-false grant.stamp (client v one.from).stamp e) in
    let n : k.newer.on ≡ false = t.cold.later k.call k.is_newer.0 k.newer k.is_newer.1.1 in
    off_of grant.on (sym (ap (λ (g : FileGrant). g.on) k.same) ∙ n))

cold_called : {clients : ℕ} (z : Setting) (v : View) (one : FileCall) (stamp : ℕ) (kind : CallKind) → Cooling clients z v → In one v.calls → IsClient (length v.clients) one.to → Cold clients (called_back z v one stamp kind)
cold_called z v one stamp kind t m i = cold_answer (set_client v one.to d) (called_back z v one stamp kind) one reply (cold_set v one.to d t.cold i (off_after (client v one.to).mode kind (t.cold.off one.to i))) t.cold.unheld refl refl (things_with (set_client v one.to d) one (replied one reply) t.standing.flat.numbered.differ m refl) refl
  where
    d : Client
    d = take_callback (client v one.to) stamp kind

    reply : FileBody
    reply = form.Flushed (client v one.to).size (pieces z (client v one.to).size (client v one.to).blocks)

cold_moving : {clients : ℕ} (v : View) (stream : StreamNo) (source place : ℕ) (kept : Bool) → Cold clients v → IsClient (length v.clients) source → Cold clients (moving v stream source place kept)
cold_moving v stream source place true c i = cold_begin v source server _ None c
cold_moving v stream source place false c i = cold_begin (set_client v source (uninstall (client v source) stream)) source server _ None (cold_set v source (uninstall (client v source) stream) c i (c.off source i))

cold_sends : {clients : ℕ} (z : Setting) (v : View) (kernel : ℕ) (one : Held) (dirty : Option ℕ) → Cold clients v → IsClient (length v.clients) kernel → Cold clients (writing_back_at z v kernel one dirty)
cold_sends z v kernel one None c i = cold_set v kernel (record (client v kernel) { blocks = without_block one.block.0 (client v kernel).blocks }) c i (c.off kernel i)
cold_sends z v kernel one (Some dirty) c i = cold_begin v kernel server _ (Some dirty) c

unheld_answered : (holder : Option ℕ) (b : Bool) → holder ≡ None → cond b None holder ≡ None
unheld_answered holder true h = refl
unheld_answered holder false h = h

cold_parts : (clients : ℕ) (z : Setting) → Parts (uncached_setting z) (λ v k s. Unit {0}) (Cooling clients (uncached_setting z)) (Cold clients) (Cold clients)
cold_parts clients z = record {
  works = cold_works clients z;
  flat = λ v t. t.standing.flat;
  same = λ v t. t.cold;
  rests = λ v p. p;
  wanted = λ v kernel t p i s m. tt;
  filled_wanted = λ v one stamp block other piece t n e r i p j s m. tt;
  fetch_again_wanted = λ v one stamp block grant t n e r i p j s m. tt;
  again_wanted = λ v one grant t m pid number stamp stream way e r i. tt;
  begun = λ v step t d e. tt;
  removed = λ v one t m r a c. cold_removed v one t.cold;
  opened = λ v one stream grant t m pid number mode truncate e r i. cold_set (remove_call v one.number) one.from _ (cold_removed v one t.cold) i (taken_off (client v one.from) grant (t.cold.off one.from i) (t.cold.later one (call_in_things v one m) grant (ap arrival r)));
  moved = λ v one stream place kept grants grant more t m e r. cold_moved v one stream place grant more t.cold m r;
  came = λ v carry grant t m e.
      let w : View = record v { carried = without_carried carry.call v.carried } in
      let i : IsClient (length v.clients) carry.to = (t.standing.flat.carried carry m).client in
      cold_set w carry.to _ (cold_fewer v w t.cold t.cold.unheld refl refl (λ x k. inl (left_uncarried v carry x k))) i
      (taken_off (client v carry.to) grant (t.cold.off carry.to i) (t.cold.later (as_call carry) (in_left (as_call carry) (map as_call v.carried) v.calls (map_in as_call carry v.carried m)) grant e));
  filled = λ v one stamp block other piece t m e r i. cold_set (remove_call v one.number) one.from (fill (uncached_setting z) (client v one.from) other block piece) (cold_removed v one t.cold) i (t.cold.off one.from i);
  again = λ v one stamp grant t m e r i. cold_set (remove_call v one.number) one.from (take_grant (client v one.from) grant) (cold_removed v one t.cold) i (again_off (uncached_setting z) v one grant t m r i);
  done = λ v one stamp block size piece t m e r i. cold_set (remove_call v one.number) one.from (wrote_back (client v one.from) stamp block.0 one.dirty) (cold_removed v one t.cold) i (t.cold.off one.from i);
  flushed = λ v one stamp kind size blocks t m e r i. flushed_all (uncached_setting z) (Unit {0}) unnoted (λ had. Cold clients) (λ had. Cold clients) (serves_notes (uncached_setting z) (Cold clients) (Cold clients) (serves_cold clients z)) tt v one stamp kind size blocks t.standing t.holders m e r i (λ answering.
      cold_from v (answered_view v one (store_blocks (uncached_setting z) v.bytes size blocks)) t.cold (unheld_answered v.holder (is_holder v one.to) t.cold.unheld) refl refl (λ x k grant a. t.cold.later x (left_removed v one x k) grant a));
  called = λ v one stamp kind t m e k n i. cold_called (uncached_setting z) v one stamp kind t m i;
  requested = λ v one t m s k n c. serves_request (uncached_setting z) (Cold clients) (Cold clients) (serves_cold clients z) v one (record { flat = t.standing.flat; streams = t.standing.streams }) t.standing.stamps t.standing.decided.ruled t.standing.modes t.holders m s n c t.cold;
  opens = λ v kernel pid number stream mode truncate t i. cold_begin v kernel server _ None t.cold;
  closes = λ v kernel stream t i. cold_begin (set_client v kernel (uninstall (client v kernel) stream)) kernel server _ None (cold_set v kernel (uninstall (client v kernel) stream) t.cold i (t.cold.off kernel i));
  moves = λ v stream source place kept t i. cold_moving v stream source place kept t.cold i;
  backs = λ v kernel one number t i h e. cold_sends (uncached_setting z) v kernel one one.dirty t.cold i;
  numbered = λ v next t l. record { count = t.cold.count; unheld = t.cold.unheld; given = t.cold.given; off = t.cold.off; later = t.cold.later };
  counted = λ v kernel count t i l. cold_set v kernel (record (client v kernel) { count = count }) t.cold i (t.cold.off kernel i);
  zeroed = λ v kernel block t i e. cold_set v kernel _ t.cold i (t.cold.off kernel i);
  raised = λ v version t u q l. record { count = t.cold.count; unheld = t.cold.unheld; given = t.cold.given; off = t.cold.off; later = t.cold.later };
  uncached = λ v t. record { count = t.cold.count; unheld = t.cold.unheld; given = t.cold.given; off = t.cold.off; later = t.cold.later };
}

-- a step
pub cold_stepped : (z : Setting) (clients : ℕ) (v : View) (step : FileStep) → Sound (uncached_setting z) v → Cold clients v → Cold clients (stepped (uncached_setting z) v step)
cold_stepped z clients v step s c = choose_by (Cold clients) (possible (uncached_setting z) v step) (after (uncached_setting z) v step) v (λ e. part_after (uncached_setting z) _ (Cooling clients (uncached_setting z)) (Cold clients) (Cold clients) (cold_parts clients z) v step (and_parts (has_room v) (may_do (uncached_setting z) v step) e).1
    (record { standing = standing_of (uncached_setting z) v s.shapes s.streams s.stamps s.decisions s.modes; holders = flat_holders v s.holders; cold = c })) (λ e. c)

-- a cold file may be uncached
none_given : (modes : List CacheMode) → ((place : ℕ) → is_on (slice_index_or modes place cache.None) ≡ false) → list_any is_on modes ≡ false
none_given [] f = refl
none_given (m ∷ ms) f = ap₂ (λ a b. a || b) (f zero) (none_given ms (λ n. f (suc n)))

none_open : (z : Setting) (clients : ℕ) (v : View) (opens : List Open) → v.opens ≡ opens → v.uncached ≡ false → Cold clients v → Sound z v → is_any opens ≡ false
none_open z clients v [] e u c s = refl
none_open z clients v (one ∷ rest) e u c s =
    let m : In one v.opens = subst (In one) (sym e) (inl refl) in
    let i : IsClient (length v.clients) one.kernel = s.streams.opens.client one m in
    let o : is_on (mode_given v one.kernel) ≡ true = (s.decisions.each one.kernel i).on u one (in_opened v one.kernel one m refl) in
    let n = c.given (one.kernel - 1) in absurd (cc (o, n))

pub cold_may : (z : Setting) (clients : ℕ) (v : View) → v.uncached ≡ false → Cold clients v → Sound z v → may_move z v move.Uncache ≡ true
cold_may z clients v e c s = ap₂ (λ a b. not a && not b) (none_open z clients v v.opens refl e c s) (none_given v.modes c.given)

pub cold_uncached : (z : Setting) (clients : ℕ) (v : View) → 0 < z.block → Cold clients v → Sound z v → Sound z (record v { uncached = true })
cold_uncached z clients v p c s = by_test v.uncached refl
  where
    by_test : (b : Bool) → v.uncached ≡ b → Sound z (record v { uncached = true })
    by_test true e = subst (λ b. Sound z (record v { uncached = b })) e s
    by_test false e = subst (λ b. Sound z (cond b (record v { uncached = true }) v)) (cold_may z clients v e c s) (sound_stays z v (Move move.Uncache) p s)
