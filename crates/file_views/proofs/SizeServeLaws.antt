-- Sizes, a part of the seventh layer of soundness, while the server takes up requests and answers to callbacks.
use Rattle.std.proofs.Common.{◌≡◌, ◌≢◌, ◌≤◌, ◌<◌, ◌⊎◌, ℕ, ◌+◌, ◌==◌, nat_lt, Bool, true, false, cond, not, ◌&&◌, ◌||◌, List, [], ◌∷◌, ◌++◌, length, map, Option, Some, None, refl, sym, ap, ◌∙◌, subst, inl, inr, arith, eqb-true, max, append_assoc}
use Rattle.std.proofs.lemmas.Bool.{and_parts, and_from}
use Rattle.std.proofs.lemmas.Bool.Decides.{eqb_tells}
use Rattle.sprite_ids.specs.declared.BlockNo.{BlockNo}
use Rattle.sprite_ids.specs.declared.StreamNo.{StreamNo}
use Rattle.sprite_ids.specs.declared.CallKind.{CallKind}
use Rattle.file_views.specs.declared.grant.FileGrant.{FileGrant}
use Rattle.file_views.specs.declared.body.Access.{Access}
use Rattle.file_views.specs.declared.body.Access.TheVariants as access
use Rattle.file_views.specs.declared.body.FileBody.{FileBody}
use Rattle.file_views.specs.declared.body.FileBody.TheVariants as form
use Rattle.file_views.specs.declared.opens.Open.{Open}
use Rattle.file_views.specs.declared.call.FileCall.{FileCall}
use Rattle.file_views.specs.declared.view.View.{View}
use Rattle.file_views.specs.Setting.{Setting}
use Rattle.file_views.specs.Contents.{put_block}
use Rattle.file_views.specs.Streams.{is_any}
use Rattle.file_views.specs.Clients.{is_on}
use Rattle.file_views.specs.Views.{server, client, current_stamp, mode_given, grant_given, is_kernel, is_holder, is_callback, last_stamp, as_call, things, new_call, with_call, without_call, replied, answer, remove_call, to_the_end}
use Rattle.file_views.specs.Grants.{asks, truncates, asks_to_write, receiver, granting, grant_of, holder_after, settle, plain_grant, current_in, current_grant, stamped, call_out}
use Rattle.file_views.specs.Serving.{op_reply, bytes_after, block_of, data_op, store, serve, holder_answered, store_blocks}
use Rattle.file_views.specs.Settled.{arrival}
use Rattle.file_views.specs.Here.{In, IsClient, Arrives, request_stamp}
use Rattle.file_views.specs.SoundShapes.{Answers}
use Rattle.file_views.specs.SoundModes.{SameNewer}
use Rattle.file_views.specs.SoundHolders.{Ready, Keeps as KeepsIt}
use Rattle.file_views.specs.SoundRequests.{WritesBack, Present, HolderSize, WritingBacks}
use Rattle.file_views.proofs.MemberLaws.{in_left, in_last, last_in, in_with, in_without, without_in, with_in}
use Rattle.file_views.proofs.EffectLaws.{Apart, by_kernel, things_begin, things_with, things_without, call_in_things, same_thing}
use Rattle.file_views.proofs.CountLaws.{bool_cases, or_right, has_some}
use Rattle.file_views.proofs.ClientLaws.{choose}
use Rattle.file_views.proofs.OpenLaws.{OpenAt, open_there}
use Rattle.file_views.proofs.ShapeLaws.{Flat}
use Rattle.file_views.proofs.StreamLaws.{FlatStreams, way_stream}
use Rattle.file_views.proofs.StampLaws.{own_stamp, in_things, request_sender}
use Rattle.file_views.proofs.StampChangeLaws.{NoCall, no_call_thing}
use Rattle.file_views.proofs.StampServeLaws.{granting_arrives, op_arrival}
use Rattle.file_views.proofs.DecisionLaws.{Ruled}
use Rattle.file_views.proofs.ModeLaws.{FlatModes}
use Rattle.file_views.proofs.ModeServeLaws.{OpenFor, arrival_there}
use Rattle.file_views.proofs.HolderLaws.{Ways, DirtyIn, answered_on}
use Rattle.file_views.proofs.HolderChangeLaws.{arrivals_begin, ways_answer, ways_reads}
use Rattle.file_views.proofs.HolderSettleLaws.{Settles, alone_by, holder_is, is_holder_by, settled_calls}
use Rattle.file_views.proofs.HolderServeLaws.{Serving, Answering, answered_view, answered_holder, answered_other, nothing_newer}
use Rattle.file_views.proofs.AskingStepLaws.{FlatAsking, quiet_with, quiet_serve, quiet_taken, asking_quiet}
use Rattle.file_views.proofs.WritingStepLaws.{FlatWriting, calm_serve, calm_settle, calm_taken, writing_calm, low_own}
use Rattle.file_views.proofs.ServeLaws.{Serves}
use Rattle.file_views.proofs.SizeLaws.{RightSize, SizeFacts, Plain, right_plain, plain_none, told_self, sizes_calls, dirty_found, present_dirty, length_put}

abbrev pub FlatSizes : Setting → View → Type 0
FlatSizes z v = (kernel : ℕ) → IsClient (length v.clients) kernel → SizeFacts z kernel v.version (client v kernel) (is_holder v kernel) v.bytes (things v)

pub record Sized (z : Setting) (v : View) : Type 0 where
  pub asking : FlatAsking z v
  pub writing : FlatWriting z v
  pub sizes : FlatSizes z v

-- while no callback is out nothing is flushed
flush_calls : (body : FileBody) (size : ℕ) (blocks : List (BlockNo × List ℕ)) → Answers body (form.Flushed size blocks) → is_callback body ≡ true
flush_calls (form.Callback stamp kind) size blocks a = refl
flush_calls body size blocks a = absurd a

pub flush_called : (v : View) → Flat v → (one : FileCall) → In one (things v) → (size : ℕ) (blocks : List (BlockNo × List ℕ)) → one.reply ≡ Some (form.Flushed size blocks) → is_callback one.body ≡ true
flush_called v f one m size blocks r = elim (in_things v one m) [
  | inl k ↦ absurd (cc (r, ap (λ (x : FileCall). x.reply) k.makes))
  | inr k ↦ flush_calls one.body size blocks ((f.calls one k).fits (form.Flushed size blocks) r)
]

no_flushed : (v : View) → Flat v → NoCall v → (one : FileCall) → In one (things v) → (size : ℕ) (blocks : List (BlockNo × List ℕ)) → one.reply ≡ Some (form.Flushed size blocks) → ⊥
no_flushed v f n one m size blocks r = no_call_thing v n one m (flush_called v f one m size blocks r)

-- while the file is uncached, and no callback is out, nobody uses its cache or will
pub idle_off : (v : View) → FlatModes v → Ruled v → NoCall v → v.uncached ≡ true → (kernel : ℕ) → IsClient (length v.clients) kernel → is_on (client v kernel).mode ≡ true → ⊥
idle_off v modes ruled none u kernel i e = elim ((modes kernel i).on_now e) [ inl o ↦ cc (o, ruled.off kernel i u) | inr k ↦ no_call_thing v none k.call k.there (ap is_callback k.stops) ]

pub idle_none : (v : View) → FlatModes v → Ruled v → NoCall v → v.uncached ≡ true → (kernel : ℕ) → IsClient (length v.clients) kernel → (x : FileCall) → In x (things v) → (grant : FileGrant) → Arrives kernel x grant → own_stamp v kernel < grant.stamp → grant.on ≡ true → ⊥
idle_none v modes ruled none u kernel i x m grant a n e = elim ((modes kernel i).on_later x m grant a n e) [ inl o ↦ cc (o, ruled.off kernel i u) | inr k ↦ no_call_thing v none k.call k.there (ap is_callback k.stops) ]

-- a request is answered, and the server's bytes stay
sizes_answer : (z : Setting) (v : View) (one : FileCall) (reply : FileBody) → Flat v → In one v.calls → one.reply ≡ None → is_callback one.body ≡ false → arrival (Some reply) ≡ None → ((kernel : ℕ) → IsClient (length v.clients) kernel → RightSize z kernel (client v kernel) (is_holder v kernel) v.bytes (replied one reply)) → FlatSizes z v → FlatSizes z (answer v one reply)
sizes_answer z v one reply flat m n c r right f kernel i = subst (SizeFacts z kernel v.version (client v kernel) (is_holder v kernel) v.bytes) (sym (things_with v one (replied one reply) flat.numbered.differ m refl))
    (sizes_calls z kernel v.version (client v kernel) (is_holder v kernel) v.bytes (things v) (with_call (replied one reply) (things v)) (f kernel i) ways.arrivals (λ h a. answered_on kernel (own_stamp v kernel) (is_holder v kernel) (things v) (with_call (replied one reply) (things v)) ways h a)
    (λ x k. elim (in_with (replied one reply) x (things v) k) [ inl p ↦ inl (told_self x (things v) p.0) | inr q ↦ inr (subst (RightSize z kernel (client v kernel) (is_holder v kernel) v.bytes) (sym q) (right kernel i)) ]))
  where
    ways : Ways kernel (own_stamp v kernel) (is_holder v kernel) (things v) (with_call (replied one reply) (things v))
    ways = ways_answer v kernel (own_stamp v kernel) (is_holder v kernel) one reply flat.numbered.differ (call_in_things v one m) n r (λ b e. cc (b, c))

-- a callback goes out
sizes_out : (z : Setting) (v : View) (kind : CallKind) (kernel : ℕ) → FlatSizes z v → FlatSizes z (call_out v kind kernel)
sizes_out z v kind kernel f other i = subst (SizeFacts z other v.version (client v other) (is_holder v other) v.bytes) (sym (things_begin (stamped v kind kernel) server kernel (form.Callback (last_stamp v + 1) kind) None))
    (sizes_calls z other v.version (client v other) (is_holder v other) v.bytes (things v) (things v ++ new ∷ []) (f other i) (arrivals_begin other (own_stamp v other) (things v) new refl)
    (λ h a. record { call = a.call; there = in_left a.call (things v) (new ∷ []) a.there; to_kernel = a.to_kernel; stamp = a.stamp; kind = a.kind; is_call = a.is_call; taken = a.taken })
    (λ x m. elim (in_last x new (things v) m) [ inl k ↦ inl (told_self x (things v) k) | inr e ↦ inr (right_plain z other (client v other) (is_holder v other) v.bytes x (plain_none x.reply (ap (λ (y : FileCall). y.reply) e))) ]))
  where
    new : FileCall
    new = new_call (stamped v kind kernel) server kernel (form.Callback (last_stamp v + 1) kind) None

-- a request is taken
sizes_taken : (z : Setting) (v : View) (one : FileCall) → Apart v → In one v.calls → one.reply ≡ None → is_callback one.body ≡ false → FlatSizes z v → FlatSizes z (to_the_end v one)
sizes_taken z v one u m n c f kernel i = sizes_calls z kernel v.version (client v kernel) (is_holder v kernel) v.bytes (things v) (things (to_the_end v one)) (f kernel i) ways.arrivals (λ h a. answered_on kernel (own_stamp v kernel) (is_holder v kernel) (things v) (things (to_the_end v one)) ways h a)
    (λ x k. elim (in_last x (record one { taken = true }) (things (remove_call v one.number)) (subst (In x) (sym now) k)) [
      | inl j ↦ inl (told_self x (things v) (in_without one.number x (things v) (subst (In x) (things_without v one u m) j)).0)
      | inr e ↦ inr (right_plain z kernel (client v kernel) (is_holder v kernel) v.bytes x (plain_none x.reply (ap (λ (y : FileCall). y.reply) e ∙ n)))
    ])
  where
    now : things (remove_call v one.number) ++ record one { taken = true } ∷ [] ≡ things (to_the_end v one)
    now = append_assoc (map as_call v.carried) (without_call one.number v.calls) (record one { taken = true } ∷ [])

    ways : Ways kernel (own_stamp v kernel) (is_holder v kernel) (things v) (things (to_the_end v one))
    ways = ways_reads kernel (own_stamp v kernel) (is_holder v kernel) (things v) (things (to_the_end v one)) (record one { taken = true }) one
        (record { number_is = refl; goes_is = refl; arrival_is = refl; no_call = c; no_again = λ grant a. (a, refl); request_is = λ stamp q. (q, refl) }) refl c (call_in_things v one m)
        (subst (In (record one { taken = true })) now (last_in (record one { taken = true }) (things (remove_call v one.number))))
        (λ x k. elim (in_last x (record one { taken = true }) (things (remove_call v one.number)) (subst (In x) (sym now) k)) [ inl j ↦ inl (in_without one.number x (things v) (subst (In x) (things_without v one u m) j)).0 | inr e ↦ inr e ])
        (λ x k. elim (eqb_tells x.number one.number) [
          | inl a ↦ inr (same_thing v x one u k (call_in_things v one m) a.1)
          | inr d ↦ inl (subst (In x) now (in_left x (things (remove_call v one.number)) (record one { taken = true } ∷ []) (subst (In x) (sym (things_without v one u m)) (without_in one.number x (things v) k d.1))))
        ])

-- what a request with an old stamp is told has the present size
pub current_size : (v : View) (kernel : ℕ) (given : Option FileGrant) → (current_in v kernel given).size ≡ length v.bytes
current_size v kernel (Some grant) = choose (λ (g : FileGrant). g.size ≡ length v.bytes) (grant.stamp == current_stamp v kernel) (record grant { size = length v.bytes }) (plain_grant v kernel) refl refl
current_size v kernel None = refl

right_again : (z : Setting) (v : View) (kernel place : ℕ) (one : FileCall) → RightSize z kernel (client v kernel) (is_holder v kernel) v.bytes (replied one (form.Again (current_grant v place)))
right_again z v kernel place one = record {
  again = λ e grant r n o. let same : current_grant v place ≡ grant = cc (r) in sym (ap (λ (g : FileGrant). g.size) same) ∙ current_size v place (grant_given v place);
  done_size = λ block size piece w r. absurd (cc (r));
  flushed_holder = λ e size blocks r. absurd (cc (r));
  flushed_covers = λ e size blocks r. absurd (cc (r));
  flushed_within = λ e size blocks r. absurd (cc (r));
}

right_closed : (z : Setting) (v : View) (kernel : ℕ) (one : FileCall) (stream : StreamNo) (grants : ℕ) → one.body ≡ form.Close stream grants → RightSize z kernel (client v kernel) (is_holder v kernel) v.bytes (replied one form.Done)
right_closed z v kernel one stream grants b = record {
  again = λ e grant r. absurd (cc (r));
  done_size = λ block size piece w r. absurd (let q = w.is_write_back in cc (b, q));
  flushed_holder = λ e size blocks r. absurd (cc (r));
  flushed_covers = λ e size blocks r. absurd (cc (r));
  flushed_within = λ e size blocks r. absurd (cc (r));
}

-- a block is stored: its kernel is the holder, and has taken all that is on its way to it
sizes_stored : (z : Setting) (v : View) (one : FileCall) (block : BlockNo) (size : ℕ) (piece : List ℕ) → Serving v one → one.body ≡ form.WriteBack (current_stamp v one.from) block size piece → Sized z v → FlatSizes z (store z v one block size piece)
sizes_stored z v one block size piece t e x kernel i = subst (SizeFacts z kernel v.version (client v kernel) (is_holder v kernel) after) (sym (things_with (record v { bytes = after }) one new t.both.flat.numbered.differ t.there refl))
    (by_kernel (λ k. IsClient (length v.clients) k → SizeFacts z k v.version (client v k) (is_holder v k) after ys) source kernel here far i)
  where
    source : ℕ
    source = one.from

    after : List ℕ
    after = put_block z v.bytes block.0 size piece

    new : FileCall
    new = replied one form.Done

    ys : List FileCall
    ys = with_call new (things v)

    there : In one (things v)
    there = call_in_things v one t.there

    place : IsClient (length v.clients) source
    place = request_sender (length v.clients) one.from one.to one.body (current_stamp v source) (t.both.flat.calls one t.there).ends (ap request_stamp e)

    writes : WritesBack source (current_stamp v source) one block size piece
    writes = record { from_kernel = refl; is_write_back = e }

    facts : WritingBacks z source (current_stamp v source) (client v source) (things v)
    facts = x.writing source place

    dirty : DirtyIn (client v source).blocks
    dirty = dirty_found (client v source).blocks block.0 (facts.held_dirty one there block size piece writes t.unanswered)

    ready : Ready source (own_stamp v source) (client v source).version v.version (is_holder v source) (client v source).mode (things v)
    ready = (t.holders.each source place).dirty_ready dirty.one dirty.there dirty.dirty

    covered : HolderSize z (client v source) v.bytes
    covered = (x.sizes source place).holder ready (λ a. (t.holders.each source place).dirty_unanswered dirty.one dirty.there dirty.dirty a)

    own : current_stamp v source ≤ own_stamp v source
    own = low_own v t.stamps source one there refl (current_stamp v source) (ap request_stamp e)

    many : length after ≡ max (length v.bytes) size
    many = length_put z v.bytes block.0 size piece (facts.under_size one there block size piece writes t.unanswered)

    under : size ≤ (client v source).size
    under = facts.size_under one there block size piece writes t.unanswered

    holder : v.holder ≡ Some source
    holder = holder_is v.holder source ready.holds_it

    other_holder : (k : ℕ) → k ≢ source → is_holder v k ≡ true → ⊥
    other_holder k d h = let q : Some k ≡ Some source = sym (holder_is v.holder k h) ∙ holder in d (cc (q))

    none_far : (k : ℕ) → k ≢ source → (y : FileCall) → In y (things v) → (grant : FileGrant) → Arrives k y grant → ⊥
    none_far k d y m grant a = let o : OpenFor v k y = arrival_there v t.both.flat t.both.streams y m k grant a in d (sym o.at.kernel_is ∙ t.holders.opens source holder o.at.one o.at.there)

    not_flushed : (y : FileCall) → In y (things v) → (s : ℕ) (blocks : List (BlockNo × List ℕ)) → y.reply ≡ Some (form.Flushed s blocks) → ⊥
    not_flushed y m s blocks r = no_flushed v t.both.flat t.none y m s blocks r

    right_here : (y : FileCall) → In y (things v) → RightSize z source (client v source) (is_holder v source) after y
    right_here y m = record {
      again = λ q grant r n. absurd (let l : grant.stamp ≤ current_stamp v source = subst (λ k. grant.stamp ≤ current_stamp v k) q ((t.stamps.each y m).again grant r) in omega (arith, l, n, own));
      done_size = λ b s p w r h q k. let a = ((x.sizes source place).each y m).done_size b s p w r h q k in omega (arith, a, many, under);
      flushed_holder = λ q s blocks r. absurd (not_flushed y m s blocks r);
      flushed_covers = λ q s blocks r. absurd (not_flushed y m s blocks r);
      flushed_within = λ q s blocks r. absurd (not_flushed y m s blocks r);
    }

    right_new : RightSize z source (client v source) (is_holder v source) after new
    right_new = record {
      again = λ q grant r. absurd (cc (r));
      done_size = λ b s p w r h q k.
          let written : form.WriteBack (current_stamp v source) block size piece ≡ form.WriteBack (own_stamp v source) b s p = sym e ∙ w.is_write_back in
          let same : b ≡ block = cc (written) in
          let last : size ≡ (client v source).size = facts.last_size one there block size piece writes t.unanswered h (subst (λ (n : BlockNo). Present (client v source).blocks n.0 one.dirty h) same q) (sym (ap (λ (n : BlockNo). n.0) same) ∙ k) in
          let c = covered.covers in omega (arith, many, last, c);
      flushed_holder = λ q s blocks r. absurd (cc (r));
      flushed_covers = λ q s blocks r. absurd (cc (r));
      flushed_within = λ q s blocks r. absurd (cc (r));
    }

    here : IsClient (length v.clients) source → SizeFacts z source v.version (client v source) (is_holder v source) after ys
    here j = record {
      granted = λ y m grant a n o. elim (in_with new y (things v) m) [
        | inl p ↦ absurd (let l : grant.stamp ≤ current_stamp v source = subst (λ k. grant.stamp ≤ current_stamp v k) a.0 ((t.stamps.each y p.0).granted grant a.1) in omega (arith, l, n, own))
        | inr q ↦ absurd (cc (a.1, ap (λ (c : FileCall). arrival c.reply) q))
      ];
      holder = λ r n. record { covers = (let c = covered.covers in omega (arith, many, under, c)); dirty = λ l. covered.dirty (omega (arith, many, l)) };
      each = λ y m. elim (in_with new y (things v) m) [ inl p ↦ right_here y p.0 | inr q ↦ subst (RightSize z source (client v source) (is_holder v source) after) (sym q) right_new ];
    }

    right_far : (k : ℕ) → k ≢ source → IsClient (length v.clients) k → (y : FileCall) → In y (things v) → RightSize z k (client v k) (is_holder v k) after y
    right_far k d j y m = record {
      again = λ q grant r n. absurd (let s : SameNewer k (own_stamp v k) (things v) grant = (t.modes k j).again y m q grant r n in none_far k d s.call s.is_newer.0 s.newer s.is_newer.1);
      done_size = λ b s p w r h q. absurd (let f : DirtyIn (client v k).blocks = present_dirty (client v k).blocks b.0 y.dirty h q in other_holder k d ((t.holders.each k j).dirty_ready f.one f.there f.dirty).holds_it);
      flushed_holder = λ q s blocks r. absurd (not_flushed y m s blocks r);
      flushed_covers = λ q s blocks r. absurd (not_flushed y m s blocks r);
      flushed_within = λ q s blocks r. absurd (not_flushed y m s blocks r);
    }

    new_far : (k : ℕ) → k ≢ source → RightSize z k (client v k) (is_holder v k) after new
    new_far k d = record {
      again = λ q grant r. absurd (cc (r));
      done_size = λ b s p w r. absurd (d (sym w.from_kernel));
      flushed_holder = λ q s blocks r. absurd (cc (r));
      flushed_covers = λ q s blocks r. absurd (cc (r));
      flushed_within = λ q s blocks r. absurd (cc (r));
    }

    far : kernel ≢ source → IsClient (length v.clients) kernel → SizeFacts z kernel v.version (client v kernel) (is_holder v kernel) after ys
    far d j = record {
      granted = λ y m grant a n o. elim (in_with new y (things v) m) [ inl p ↦ absurd (none_far kernel d y p.0 grant a) | inr q ↦ absurd (cc (a.1, ap (λ (c : FileCall). arrival c.reply) q)) ];
      holder = λ r n. absurd (other_holder kernel d r.holds_it);
      each = λ y m. elim (in_with new y (things v) m) [ inl p ↦ right_far kernel d j y p.0 | inr q ↦ subst (RightSize z kernel (client v kernel) (is_holder v kernel) after) (sym q) (new_far kernel d) ];
    }

-- an operation with the current stamp finds the file uncached
pub op_uncached : (z : Setting) (v : View) (one : FileCall) (pid number : ℕ) (stream : StreamNo) (way : Access) → Serving v one → one.body ≡ form.Op pid number (current_stamp v one.from) stream way → FlatAsking z v → v.uncached ≡ true
op_uncached z v one pid number stream way t e f = elim (bool_cases v.uncached) [ inl u ↦ u | inr u ↦ absurd (cached u) ]
  where
    source : ℕ
    source = one.from

    there : In one (things v)
    there = call_in_things v one t.there

    place : IsClient (length v.clients) source
    place = request_sender (length v.clients) one.from one.to one.body (current_stamp v source) (t.both.flat.calls one t.there).ends (ap request_stamp e)

    own : current_stamp v source ≡ own_stamp v source
    own = let a = low_own v t.stamps source one there refl (current_stamp v source) (ap request_stamp e) in let b = t.stamps.own_below source place in omega (arith, a, b)

    off : is_on (mode_given v source) ≡ false
    off = sym (ap is_on ((t.holders.each source place).modes_agree (sym own))) ∙ (f source place).ops_off one there refl pid number (current_stamp v source) stream way e own

    open_it : OpenAt stream source v.opens
    open_it =
        let c = t.both.streams.counts source place stream in
        let n = has_some stream (client v source).streams (((t.both.streams.rest.works one t.there place).operates pid number (current_stamp v source) stream way e).installed stream (way_stream pid number source stream way)) in
        open_there stream source v.opens (omega (arith, c, n))

    cached : v.uncached ≡ false → ⊥
    cached u = cc (off, t.ruled.on source place u open_it.one open_it.there open_it.kernel_is)

-- an operation is done: nobody uses its cache
plain_op : (z : Setting) (bytes : List ℕ) (way : Access) → Plain (Some (op_reply z bytes way))
plain_op z bytes (access.Read from many) = record { no_again = λ grant r. cc (r); no_done = λ r. cc (r); no_flush = λ size blocks r. cc (r) }
plain_op z bytes (access.Write from new) = record { no_again = λ grant r. cc (r); no_done = λ r. cc (r); no_flush = λ size blocks r. cc (r) }
plain_op z bytes (access.Append new) = choose (λ (b : FileBody). Plain (Some b)) (nat_lt z.most (length bytes + length new)) _ _ (record { no_again = λ grant r. cc (r); no_done = λ r. cc (r); no_flush = λ size blocks r. cc (r) }) (record { no_again = λ grant r. cc (r); no_done = λ r. cc (r); no_flush = λ size blocks r. cc (r) })

sizes_operated : (z : Setting) (v : View) (one : FileCall) (pid number : ℕ) (stream : StreamNo) (way : Access) → Serving v one → one.body ≡ form.Op pid number (current_stamp v one.from) stream way → Sized z v → FlatSizes z (data_op z v one way)
sizes_operated z v one pid number stream way t e x kernel i = subst (SizeFacts z kernel v.version (client v kernel) (is_holder v kernel) after) (sym (things_with (record v { bytes = after }) one new t.both.flat.numbered.differ t.there refl)) (record {
  granted = λ y m grant a n o. elim (in_with new y (things v) m) [ inl p ↦ absurd (nobody y p.0 grant a n o) | inr q ↦ absurd (cc (a.1, ap (λ (c : FileCall). arrival c.reply) q, op_arrival z v.bytes way)) ];
  holder = λ r n. absurd (off r.on);
  each = λ y m. elim (in_with new y (things v) m) [ inl p ↦ right y p.0 | inr q ↦ subst (RightSize z kernel (client v kernel) (is_holder v kernel) after) (sym q) (right_plain z kernel (client v kernel) (is_holder v kernel) after new (plain_op z v.bytes way)) ];
})
  where
    after : List ℕ
    after = bytes_after z v.bytes way

    new : FileCall
    new = replied one (op_reply z v.bytes way)

    u : v.uncached ≡ true
    u = op_uncached z v one pid number stream way t e x.asking

    off : is_on (client v kernel).mode ≡ true → ⊥
    off o = idle_off v t.modes t.ruled t.none u kernel i o

    nobody : (y : FileCall) → In y (things v) → (grant : FileGrant) → Arrives kernel y grant → own_stamp v kernel < grant.stamp → grant.on ≡ true → ⊥
    nobody y m grant a n o = idle_none v t.modes t.ruled t.none u kernel i y m grant a n o

    right : (y : FileCall) → In y (things v) → RightSize z kernel (client v kernel) (is_holder v kernel) after y
    right y m = record {
      again = λ q grant r n o. absurd (let s : SameNewer kernel (own_stamp v kernel) (things v) grant = (t.modes kernel i).again y m q grant r n in nobody s.call s.is_newer.0 s.newer s.is_newer.1 s.is_newer.2 (ap (λ (g : FileGrant). g.on) s.same ∙ o));
      done_size = λ b s p w r h q. absurd (let f : DirtyIn (client v kernel).blocks = present_dirty (client v kernel).blocks b.0 y.dirty h q in off ((t.holders.each kernel i).dirty_ready f.one f.there f.dirty).on);
      flushed_holder = λ q s blocks r. absurd (no_flushed v t.both.flat t.none y m s blocks r);
      flushed_covers = λ q s blocks r. absurd (no_flushed v t.both.flat t.none y m s blocks r);
      flushed_within = λ q s blocks r. absurd (no_flushed v t.both.flat t.none y m s blocks r);
    }

or_first : (a b : Bool) → (a || b) ≡ false → a ≡ false
or_first true b e = absurd (cc (e))
or_first false b e = refl

-- an open or a move is granted
plain_granting : (body : FileBody) (grant : FileGrant) → asks body ≡ true → Plain (Some (granting body grant))
plain_granting (form.Opening pid number stream mode truncate) grant a = record { no_again = λ other r. cc (r); no_done = λ r. cc (r); no_flush = λ size blocks r. cc (r) }
plain_granting (form.Move stream place kept grants) grant a = record { no_again = λ other r. cc (r); no_done = λ r. cc (r); no_flush = λ size blocks r. cc (r) }
plain_granting body grant a = absurd (cc (a))

pub cut_size : (b : Bool) (bytes : List ℕ) → cond b 0 (length bytes) ≡ length (cond b [] bytes)
cut_size true bytes = refl
cut_size false bytes = refl

kept_bytes : (b : Bool) (bytes : List ℕ) → b ≡ false → bytes ≡ cond b [] bytes
kept_bytes true bytes e = absurd (cc (e))
kept_bytes false bytes e = refl

pub none_open : (opens : List Open) → is_any opens ≡ false → (x : Open) → In x opens → ⊥
none_open [] e x m = m
none_open (y ∷ ys) e x m = cc (e)

-- where it truncates nobody has a newer grant On on its way
pub truncates_none : (z : Setting) (v : View) (one : FileCall) → Settles z v one → truncates one.body ≡ true → (kernel : ℕ) → IsClient (length v.clients) kernel → (y : FileCall) → In y (things v) → (grant : FileGrant) → Arrives kernel y grant → own_stamp v kernel < grant.stamp → grant.on ≡ true → ⊥
truncates_none z v one s c kernel i y m grant a n o = elim (bool_cases v.uncached) [
  | inl u ↦ idle_none v s.modes s.ruled s.none u kernel i y m grant a n o
  | inr u ↦ (let p : OpenFor v kernel y = arrival_there v s.both.flat s.both.streams y m kernel grant a in none_open v.opens (no_any u) p.at.one p.at.there)
]
  where
    no_any : v.uncached ≡ false → is_any v.opens ≡ false
    no_any u = elim (bool_cases (is_any v.opens)) [ inl k ↦ absurd (cc ((alone_by z v one u (s.told u)).closed, and_from (truncates one.body) (is_any v.opens) c k)) | inr k ↦ k ]

sizes_settled : (z : Setting) (v : View) (one : FileCall) → Settles z v one → FlatSizes z v → FlatSizes z (settle v one)
sizes_settled z v one s f kernel i = subst (SizeFacts z kernel (grant_of v one).new (client v kernel) (is_kernel kernel (holder_after v.holder (receiver one) (asks_to_write v.opens one.body && not v.uncached))) after) (sym (settled_calls v one s.both.flat s.there)) (record {
  granted = λ y m grant a n o. elim (in_with new y (things v) m) [
    | inl p ↦ by_cut (bool_cases (truncates one.body)) (λ c. absurd (truncates_none z v one s c kernel i y p.0 grant a n o)) (λ c. (f kernel i).granted y p.0 grant a n o)
    | inr q ↦ (let same : grant_of v one ≡ grant = arrived y grant q a.1 in sym (ap (λ (g : FileGrant). g.size) same) ∙ cut_size (truncates one.body) v.bytes)
  ];
  holder = λ r n. ready_before r;
  each = λ y m. elim (in_with new y (things v) m) [ inl p ↦ right y p.0 | inr q ↦ right_plain z kernel (client v kernel) _ after y (subst (λ (c : FileCall). Plain c.reply) (sym q) (plain_granting one.body (grant_of v one) s.asks_it)) ];
})
  where
    after : List ℕ
    after = cond (truncates one.body) [] v.bytes

    new : FileCall
    new = replied one (granting one.body (grant_of v one))

    there : In one (things v)
    there = call_in_things v one s.there

    -- what is so of the old bytes is so of the new ones, where nothing is truncated
    by_cut : {size : ℕ} → (truncates one.body ≡ true) ⊎ (truncates one.body ≡ false) → (truncates one.body ≡ true → size ≡ length after) → (truncates one.body ≡ false → size ≡ length v.bytes) → size ≡ length after
    by_cut (inl c) p q = p c
    by_cut (inr c) p q = q c ∙ ap length (kept_bytes (truncates one.body) v.bytes c)

    arrived : (y : FileCall) (grant : FileGrant) → y ≡ new → arrival y.reply ≡ Some grant → grant_of v one ≡ grant
    arrived y grant q a = let r : Some (grant_of v one) ≡ Some grant = sym (granting_arrives one.body (grant_of v one) s.asks_it) ∙ sym (ap (λ (c : FileCall). arrival c.reply) q) ∙ a in cc (r)

    holds' : Bool
    holds' = is_kernel kernel (holder_after v.holder (receiver one) (asks_to_write v.opens one.body && not v.uncached))

    raises : Bool
    raises = truncates one.body || (asks_to_write v.opens one.body && not (is_holder v (receiver one)))

    held_before : raises ≡ false → holds' ≡ true → is_holder v kernel ≡ true
    held_before k h = elim (bool_cases (asks_to_write v.opens one.body && not v.uncached)) [
      | inl w ↦ (
          let at : receiver one ≡ kernel = eqb-true (receiver one) kernel (sym (ap (λ b. is_kernel kernel (holder_after v.holder (receiver one) b)) w) ∙ h) in
          elim (bool_cases (is_holder v (receiver one))) [
            | inl q ↦ subst (λ n. is_holder v n ≡ true) at q
            | inr q ↦ absurd (cc (k, or_right (truncates one.body) _ (and_from (asks_to_write v.opens one.body) (not (is_holder v (receiver one))) (and_parts (asks_to_write v.opens one.body) (not v.uncached) w).0 (ap not q))))
          ])
      | inr w ↦ sym (ap (λ b. is_kernel kernel (holder_after v.holder (receiver one) b)) w) ∙ h
    ]

    stays_there : (y : FileCall) → In y (things v) → (grant : FileGrant) → Arrives kernel y grant → In y (with_call new (things v))
    stays_there y m grant a = with_in new y (things v) m (λ q. let same : y ≡ one = same_thing v y one s.both.flat.numbered.differ m there q in cc (a.1, s.unanswered, ap (λ (c : FileCall). arrival c.reply) same, ap arrival s.unanswered))

    ready_before : Ready kernel (own_stamp v kernel) (client v kernel).version (grant_of v one).new holds' (client v kernel).mode (with_call new (things v)) → HolderSize z (client v kernel) after
    ready_before r = elim (bool_cases raises) [
      | inl k ↦ absurd (let l = (s.grantable.each kernel i).seen_below in let e = r.at_version in let up : (grant_of v one).new ≡ v.version + 1 = ap (λ b. cond b (v.version + 1) v.version) k in omega (arith, l, e, up))
      | inr k ↦ (
          let same : (grant_of v one).new ≡ v.version = ap (λ b. cond b (v.version + 1) v.version) k in
          let whole : truncates one.body ≡ false = or_first (truncates one.body) _ k in
          subst (HolderSize z (client v kernel)) (kept_bytes (truncates one.body) v.bytes whole)
          ((f kernel i).holder (record {
            holds_it = held_before k r.holds_it;
            on = r.on;
            at_version = r.at_version ∙ same;
            newer = λ y m grant a n. subst (λ x. KeepsIt x grant) same (r.newer y (stays_there y m grant a) grant a n);
          }) (λ a. no_call_thing v s.none a.call a.there (ap is_callback a.is_call))))
    ]

    right : (y : FileCall) → In y (things v) → RightSize z kernel (client v kernel) holds' after y
    right y m = record {
      again = λ q grant r n o. by_cut (bool_cases (truncates one.body)) (λ c. absurd (let g : SameNewer kernel (own_stamp v kernel) (things v) grant = (s.modes kernel i).again y m q grant r n in truncates_none z v one s c kernel i g.call g.is_newer.0 g.newer g.is_newer.1 g.is_newer.2 (ap (λ (x : FileGrant). x.on) g.same ∙ o))) (λ c. ((f kernel i).each y m).again q grant r n o);
      done_size = λ b w p k r held_there q e.
          let d : DirtyIn (client v kernel).blocks = present_dirty (client v kernel).blocks b.0 y.dirty held_there q in
          let h : Ready kernel (own_stamp v kernel) (client v kernel).version v.version (is_holder v kernel) (client v kernel).mode (things v) = (s.grantable.each kernel i).dirty_ready d.one d.there d.dirty in
          sym (by_cut (bool_cases (truncates one.body)) (λ c. absurd (cc (c, (s.grantable.spare kernel (holder_is v.holder kernel h.holds_it)).2))) (λ c. sym (((f kernel i).each y m).done_size b w p k r held_there q e)));
      flushed_holder = λ q size blocks r. absurd (no_flushed v s.both.flat s.none y m size blocks r);
      flushed_covers = λ q size blocks r. absurd (no_flushed v s.both.flat s.none y m size blocks r);
      flushed_within = λ q size blocks r. absurd (no_flushed v s.both.flat s.none y m size blocks r);
    }

-- an answer to a callback is stored
pub sizes_flushed : (z : Setting) (v : View) (one : FileCall) (stamp : ℕ) (kind : CallKind) (size : ℕ) (blocks : List (BlockNo × List ℕ)) → Answering v one stamp kind → one.reply ≡ Some (form.Flushed size blocks) → FlatStreams v → FlatSizes z v → IsClient (length v.clients) one.to → FlatSizes z (answered_view v one (store_blocks z v.bytes size blocks))
sizes_flushed z v one stamp kind size blocks t reply streams f place kernel i = subst (SizeFacts z kernel v.version (client v kernel) holds' after) (sym (things_without v one t.flat.numbered.differ t.there)) (record {
  granted = λ y m grant a n o. by_blocks (any_blocks blocks) (λ b. absurd (none_newer b y (in_without one.number y (things v) m).0 grant a n)) (λ b. (f kernel i).granted y (in_without one.number y (things v) m).0 grant a n o);
  holder = λ r n.
      let p = holds_before r.holds_it in
      let b : is_any blocks ≡ false = no_blocks p in
      subst (HolderSize z (client v kernel)) (same_bytes b)
      ((f kernel i).holder (record { holds_it = p.0; on = r.on; at_version = r.at_version; newer = λ y m grant a l. r.newer y (stays y m grant a) grant a l })
      (λ a. n (record { call = a.call; there = without_in one.number a.call (things v) a.there (λ q. p.1 (sym a.to_kernel ∙ ap (λ (c : FileCall). c.to) (same_thing v a.call one t.flat.numbered.differ a.there there q))); to_kernel = a.to_kernel; stamp = a.stamp; kind = a.kind; is_call = a.is_call; taken = a.taken })));
  each = λ y m. right y (in_without one.number y (things v) m);
})
  where
    after : List ℕ
    after = store_blocks z v.bytes size blocks

    holds' : Bool
    holds' = is_kernel kernel (holder_answered v one.to)

    there : In one (things v)
    there = call_in_things v one t.there

    any_blocks : (bs : List (BlockNo × List ℕ)) → (is_any bs ≡ true) ⊎ (is_any bs ≡ false)
    any_blocks [] = inr refl
    any_blocks (b ∷ bs) = inl refl

    stored_none : (bs : List (BlockNo × List ℕ)) → is_any bs ≡ false → v.bytes ≡ store_blocks z v.bytes size bs
    stored_none [] e = refl
    stored_none (b ∷ bs) e = absurd (cc (e))

    same_bytes : is_any blocks ≡ false → v.bytes ≡ after
    same_bytes b = stored_none blocks b

    by_blocks : {many : ℕ} → (is_any blocks ≡ true) ⊎ (is_any blocks ≡ false) → (is_any blocks ≡ true → many ≡ length after) → (is_any blocks ≡ false → many ≡ length v.bytes) → many ≡ length after
    by_blocks (inl b) p q = p b
    by_blocks (inr b) p q = q b ∙ ap length (same_bytes b)

    -- who answered with blocks is the holder
    holder : is_any blocks ≡ true → is_holder v one.to ≡ true
    holder b = ((f one.to place).each one there).flushed_holder refl size blocks reply b

    holds_before : holds' ≡ true → (is_holder v kernel ≡ true) × (kernel ≢ one.to)
    holds_before h = let p = answered_holder v.holder one.to kernel (holder_is (holder_answered v one.to) kernel h) in (is_holder_by v.holder kernel p.0, p.1)

    no_blocks : (is_holder v kernel ≡ true) × (kernel ≢ one.to) → is_any blocks ≡ false
    no_blocks p = elim (any_blocks blocks) [ inl b ↦ absurd (let q : Some kernel ≡ Some one.to = sym (holder_is v.holder kernel p.0) ∙ holder_is v.holder one.to (holder b) in p.1 (cc (q))) | inr b ↦ b ]

    -- nothing newer is on its way to who answered, nor to anybody beside the holder
    none_newer : is_any blocks ≡ true → (y : FileCall) → In y (things v) → (grant : FileGrant) → Arrives kernel y grant → own_stamp v kernel < grant.stamp → ⊥
    none_newer b y m grant a n = elim (eqb_tells kernel one.to) [
      | inl e ↦ nothing_newer v one stamp kind t y m grant (a.0 ∙ e.1, a.1) (subst (λ k. own_stamp v k < grant.stamp) e.1 n)
      | inr e ↦ (let o : OpenFor v kernel y = arrival_there v t.flat streams y m kernel grant a in e.1 (sym o.at.kernel_is ∙ t.holders.opens one.to (holder_is v.holder one.to (holder b)) o.at.one o.at.there))
    ]

    stays : (y : FileCall) → In y (things v) → (grant : FileGrant) → Arrives kernel y grant → In y (without_call one.number (things v))
    stays y m grant a = without_in one.number y (things v) m (λ q. let same : y ≡ one = same_thing v y one t.flat.numbered.differ m there q in cc (a.1, reply, ap (λ (c : FileCall). arrival c.reply) same, ap arrival reply))

    right : (y : FileCall) → In y (things v) × (y.number ≢ one.number) → RightSize z kernel (client v kernel) holds' after y
    right y p = record {
      again = λ q grant r n o. by_blocks (any_blocks blocks) (λ b. absurd (let s : SameNewer kernel (own_stamp v kernel) (things v) grant = (t.modes kernel i).again y p.0 q grant r n in none_newer b s.call s.is_newer.0 s.newer s.is_newer.1 s.is_newer.2)) (λ b. ((f kernel i).each y p.0).again q grant r n o);
      done_size = λ b w d k r held_there q e.
          let x : DirtyIn (client v kernel).blocks = present_dirty (client v kernel).blocks b.0 y.dirty held_there q in
          let h : Ready kernel (own_stamp v kernel) (client v kernel).version v.version (is_holder v kernel) (client v kernel).mode (things v) = (t.holders.each kernel i).dirty_ready x.one x.there x.dirty in
          let far : kernel ≢ one.to = λ g. (t.holders.each kernel i).dirty_unanswered x.one x.there x.dirty (record { call = one; there = there; to_kernel = sym g; stamp = stamp; kind = kind; is_call = t.is_call; taken = t.taken }) in
          sym (ap length (same_bytes (no_blocks (h.holds_it, far)))) ∙ ((f kernel i).each y p.0).done_size b w d k r held_there q e;
      flushed_holder = λ q s bs r b. answered_other v.holder one.to kernel (far q s bs r) ∙ ((f kernel i).each y p.0).flushed_holder q s bs r b;
      flushed_covers = λ q s bs r b. subst (λ n. n ≤ s) (ap length (same_bytes (no_blocks (((f kernel i).each y p.0).flushed_holder q s bs r b, far q s bs r)))) (((f kernel i).each y p.0).flushed_covers q s bs r b);
      flushed_within = λ q s bs r. ((f kernel i).each y p.0).flushed_within q s bs r;
    }
      where
        far : y.to ≡ kernel → (s : ℕ) (bs : List (BlockNo × List ℕ)) → y.reply ≡ Some (form.Flushed s bs) → kernel ≢ one.to
        far q s bs r g = p.1 ((t.stamps.pairs y one p.0 there).callbacks (flush_called v t.flat y p.0 s bs r) (ap is_callback t.is_call) (q ∙ g))

-- all that the server does
pub serves_sizes : (z : Setting) → Serves z (Sized z) (FlatSizes z)
serves_sizes z = record {
  eases = λ v x. x.sizes;
  tells = λ v b x. record { asking = x.asking; writing = x.writing; sizes = x.sizes };
  outs = λ v kind kernel f. sizes_out z v kind kernel f;
  settles = λ v one s x. sizes_settled z v one s x.sizes;
  closes = λ v one stream grants t e x. sizes_answer z v one form.Done t.both.flat t.there t.unanswered (ap is_callback e) refl (λ kernel i. right_closed z v kernel one stream grants e) x.sizes;
  fetched = λ v one block t e x. sizes_answer z v one (form.Block (current_stamp v one.from) (block_of z v.bytes block)) t.both.flat t.there t.unanswered (ap is_callback e) refl (λ kernel i. right_plain z kernel (client v kernel) (is_holder v kernel) v.bytes _ (record { no_again = λ grant r. cc (r); no_done = λ r. cc (r); no_flush = λ size blocks r. cc (r) })) x.sizes;
  refuses = λ v one stamp t e x. sizes_answer z v one (form.Again (current_grant v one.from)) t.both.flat t.there t.unanswered (request_plain one.body stamp e) refl (λ kernel i. right_again z v kernel one.from one) x.sizes;
  stores = λ v one block size piece t e x. sizes_stored z v one block size piece t e x;
  operates = λ v one pid number stream way t e x. sizes_operated z v one pid number stream way t e x;
  takes = λ v one b stamps m n c x. record {
    asking = asking_quiet z v (to_the_end v one) x.asking (quiet_taken v one m) b.flat.items.fifteen;
    writing = writing_calm z v (to_the_end v one) x.writing stamps (calm_taken v one m) b.flat.items.fifteen;
    sizes = sizes_taken z v one b.flat.numbered.differ m n c x.sizes;
  };
  served = λ v one t x y. record {
    asking = asking_quiet z v (serve z v one) x.asking (quiet_serve z v one one.body t.there) t.both.flat.items.fifteen;
    writing = writing_calm z v (serve z v one) x.writing t.stamps (calm_serve z v one one.body t.there) t.both.flat.items.fifteen;
    sizes = y;
  };
  settled = λ v one s x y. record {
    asking = asking_quiet z v (settle v one) x.asking (quiet_with v (settle v one) one (granting one.body (grant_of v one)) s.there refl refl refl) s.both.flat.items.fifteen;
    writing = writing_calm z v (settle v one) x.writing s.stamps (calm_settle v one s.there) s.both.flat.items.fifteen;
    sizes = y;
  };
}
  where
    request_plain : (body : FileBody) (stamp : ℕ) → request_stamp body ≡ Some stamp → is_callback body ≡ false
    request_plain (form.Callback other kind) stamp e = absurd (cc (e))
    request_plain body stamp e = refl
