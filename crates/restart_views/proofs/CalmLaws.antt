-- A view in which nobody uses its cache or is about to: its bytes may be replaced, and its version may rise.
use Rattle.std.proofs.Common.{◌≡◌, ◌≤◌, ◌<◌, ℕ, ◌==◌, true, false, List, [], length, Option, Some, None, refl, sym, ◌∙◌, ap, subst, inl, inr, arith}
use Rattle.sprite_ids.specs.declared.CallKind.TheVariants.{Recall}
use Rattle.std.specs.List.{list_any}
use Rattle.sprite_ids.specs.declared.BlockNo.{BlockNo}
use Rattle.sprite_ids.specs.declared.StreamNo.{StreamNo}
use Rattle.file_views.specs.declared.opens.Open.{Open}
use Rattle.file_views.specs.declared.grant.FileGrant.{FileGrant}
use Rattle.file_views.specs.declared.body.FileBody.TheVariants as form
use Rattle.file_views.specs.declared.call.FileCall.{FileCall}
use Rattle.file_views.specs.declared.client.Held.{Held}
use Rattle.file_views.specs.declared.view.View.{View}
use Rattle.file_views.specs.Setting.{Setting}
use Rattle.file_views.specs.Streams.{is_any, same_stream, is_write_shared}
use Rattle.file_views.specs.Clients.{is_on, held}
use Rattle.file_views.specs.Views.{client, things, is_callback, is_holder, busy}
use Rattle.file_views.specs.Settled.{arrival, stands_for}
use Rattle.file_views.specs.Here.{In, IsClient, at_kernel, Arrives, about}
use Rattle.file_views.specs.SoundHolders.{Active, LocalHolders}
use Rattle.file_views.specs.SoundModes.{SameNewer}
use Rattle.file_views.specs.SoundRequests.{is_dirty_in, Present, LocalRequests}
use Rattle.file_views.specs.AskingLaw.{EachAsks}
use Rattle.file_views.specs.WritingLaw.{EachWritesBack}
use Rattle.file_views.specs.Sound.{Sound}
use Rattle.file_views.proofs.MemberLaws.{in_filter, filter_in}
use Rattle.file_views.proofs.ShapeLaws.{flat_of, shapes_of}
use Rattle.file_views.proofs.ShapeStepLaws.{flat_server}
use Rattle.file_views.proofs.StreamLaws.{flat_streams, streams_of}
use Rattle.file_views.proofs.StreamChangeLaws.{streams_same}
use Rattle.file_views.proofs.StampLaws.{FlatStamps, flat_stamps, stamps_of, callback_target, only_call}
use Rattle.file_views.proofs.StampChangeLaws.{stamps_same, stamps_told}
use Rattle.file_views.proofs.StampServeLaws.{idle}
use Rattle.file_views.proofs.ModeServeLaws.{arrival_open}
use Rattle.file_views.specs.SoundContents.{StandsFor}
use Rattle.file_views.proofs.SettledLaws.{stands_is}
use Rattle.file_views.proofs.SoundLaws.{layers_of}
use Rattle.file_views.proofs.DecisionLaws.{flat_decisions, decisions_of}
use Rattle.restart_views.proofs.ViewLaws.{decisions_server}
use Rattle.file_views.proofs.ModeLaws.{flat_modes, modes_of, under_of}
use Rattle.file_views.proofs.ModeChangeLaws.{Moding}
use Rattle.restart_views.proofs.ViewLaws.{moding_server}
use Rattle.file_views.proofs.HolderLaws.{about_to}
use Rattle.file_views.proofs.HolderSettleLaws.{not_holder}
use Rattle.file_views.proofs.DecisionServeLaws.{some_any}
use Rattle.file_views.proofs.SizeServeLaws.{flush_called}

-- uncached, without a holder; nobody uses its cache or is about to
pub record Calm (v : View) : Type 0 where
  pub uncached : v.uncached ≡ true
  pub unheld : v.holder ≡ None
  pub off : (kernel : ℕ) → IsClient (length v.clients) kernel → is_on (client v kernel).mode ≡ false
  pub later : (one : FileCall) → In one (things v) → (grant : FileGrant) → arrival one.reply ≡ Some grant → grant.on ≡ false

-- what calm gives at one kernel
pub record Still (z : Setting) (v : View) (kernel : ℕ) : Type 0 where
  pub unheld : is_holder v kernel ≡ false
  pub off : is_on (client v kernel).mode ≡ false
  pub empty : (client v kernel).blocks ≡ []
  pub later : (one : FileCall) → In one (at_kernel v kernel).calls → (grant : FileGrant) → Arrives kernel one grant → grant.on ≡ false
  pub unrecalled : (one : FileCall) → In one (at_kernel v kernel).calls → one.to ≡ kernel → (stamp : ℕ) → one.body ≡ form.Callback stamp Recall → ⊥

pub still_at : (z : Setting) (v : View) (kernel : ℕ) → IsClient (length v.clients) kernel → Calm v → Sound z v → Still z v kernel
still_at z v kernel i c s = record {
  unheld = not_holder v.holder kernel (λ e. let u = c.unheld in cc (e, u));
  off = c.off kernel i;
  empty = (s.requests.each kernel i).asking.off_empty (c.off kernel i);
  later = λ one m grant a. c.later one (in_filter (about kernel) one (things v) m).0 grant a.1;
  unrecalled = λ one m t stamp e. let r = (s.stamps.each kernel i).facts.recalled one m t stamp e in let u = c.uncached in cc (r, u);
}

-- a client without blocks holds none
pub none_held : (blocks : List Held) → blocks ≡ [] → (number : ℕ) (dirty : Option ℕ) (one : Held) → Present blocks number dirty one → ⊥
none_held blocks e number dirty one p = let q : held [] number ≡ Some one = subst (λ bs. held bs number ≡ Some one) e p.found in cc (q)

-- nobody has answered a callback with blocks
pub unflushed : (z : Setting) (v : View) → Calm v → Sound z v → (one : FileCall) → In one (things v) → (size : ℕ) (blocks : List (BlockNo × List ℕ)) → one.reply ≡ Some (form.Flushed size blocks) → is_any blocks ≡ true → ⊥
unflushed z v c s one m size blocks r n =
    let k : is_callback one.body ≡ true = flush_called v (flat_of v s.shapes) one m size blocks r in
    let i : IsClient (length v.clients) one.to = callback_target (length v.clients) one.from one.to one.body (s.shapes.calls one (only_call v one m k)).ends k in
    let h : is_holder v one.to ≡ true = (s.requests.each one.to i).sizes.flushed_holder one (filter_in (about one.to) one (things v) m (about_to one.to one refl)) refl size blocks r n in
    let u = (still_at z v one.to i c s).unheld in
    cc (h, u)

pub not_dirty : (blocks : List Held) → blocks ≡ [] → (number : ℕ) → is_dirty_in (held blocks number) ≡ true → ⊥
not_dirty blocks e number q = let r : is_dirty_in (held [] number) ≡ true = subst (λ bs. is_dirty_in (held bs number) ≡ true) e q in cc (r)

-- what blocks contain where nobody uses its cache, and no answer with blocks is on its way
pub idle_contents : (z : Setting) (w : View) → ((kernel : ℕ) → IsClient (length w.clients) kernel → is_on (client w kernel).mode ≡ false) → EachAsks z w → EachWritesBack z w →
    ((one : FileCall) → In one (things w) → (size : ℕ) (blocks : List (BlockNo × List ℕ)) → one.reply ≡ Some (form.Flushed size blocks) → is_any blocks ≡ true → ⊥) → (f : StandsFor z w) × (f.stood ≡ w.bytes)
idle_contents z w off asks writes unflushes = (
  record {
    stood = w.bytes;
    stands = record {
      dirty_size = λ kernel i one m d. absurd (subst (In one) (empty kernel i) m);
      flushed_size = λ one m size blocks r n. absurd (unflushes one m size blocks r n);
      flushed_part = λ one m size blocks r piece k. absurd (unflushes one m size blocks r (some_any piece blocks k));
      rest = λ number. inr (inr refl);
      size = inr (inr refl);
    };
    each = λ kernel i. let u = off kernel i in record {
      good = record {
        engaged_size = λ o. absurd (cc (o, u));
        engaged = λ o. absurd (cc (o, u));
        fetched = λ one m f stamp block e own. let o = (asks kernel i).fetch_on one m f stamp block e own in absurd (cc (o, u));
        kept = λ o. absurd (cc (o, u));
      };
      carried = record {
        whole_block = λ one m block size piece x there p. absurd (none_held (client w kernel).blocks (empty kernel i) block.0 one.dirty there p);
        stores = λ one m block size piece x r there p. absurd (none_held (client w kernel).blocks (empty kernel i) block.0 one.dirty there p);
        done = λ one m block size piece x r there p. absurd (none_held (client w kernel).blocks (empty kernel i) block.0 one.dirty there p);
        fits = λ one m block size piece x r. (let q = (writes kernel i).held_dirty one m block size piece x r in absurd (not_dirty (client w kernel).blocks (empty kernel i) block.0 q));
      };
    };
  },
  refl,
)
  where
    empty : (kernel : ℕ) → IsClient (length w.clients) kernel → (client w kernel).blocks ≡ []
    empty kernel i = (asks kernel i).off_empty (off kernel i)

-- what blocks contain, with the new bytes
calm_contents : (z : Setting) (v : View) (bytes : List ℕ) (version : ℕ) → Calm v → Sound z v → (f : StandsFor z (record v { bytes = bytes; version = version })) × (f.stood ≡ bytes)
calm_contents z v bytes version c s = (
  record {
    stood = bytes;
    stands = record {
      dirty_size = λ kernel i one m d. absurd (subst (In one) (still_at z v kernel i c s).empty m);
      flushed_size = λ one m size blocks r n. absurd (unflushed z v c s one m size blocks r n);
      flushed_part = λ one m size blocks r piece k. absurd (unflushed z v c s one m size blocks r (some_any piece blocks k));
      rest = λ number. inr (inr refl);
      size = inr (inr refl);
    };
    each = λ kernel i. let t = still_at z v kernel i c s in record {
      good = record {
        engaged_size = λ o. let u = t.off in absurd (cc (o, u));
        engaged = λ o. let u = t.off in absurd (cc (o, u));
        fetched = λ one m f stamp block e own. let u = t.off in let o = (s.requests.each kernel i).asking.fetch_on one m f stamp block e own in absurd (cc (o, u));
        kept = λ o. let u = t.off in absurd (cc (o, u));
      };
      carried = record {
        whole_block = λ one m block size piece x there p. absurd (none_held (client v kernel).blocks t.empty block.0 one.dirty there p);
        stores = λ one m block size piece x r there p. absurd (none_held (client v kernel).blocks t.empty block.0 one.dirty there p);
        done = λ one m block size piece x r there p. absurd (none_held (client v kernel).blocks t.empty block.0 one.dirty there p);
        fits = λ one m block size piece x r. (let q = (s.requests.each kernel i).write_backs.held_dirty one m block size piece x r in absurd (not_dirty (client v kernel).blocks t.empty block.0 q));
      };
    };
  },
  refl,
)

-- the bytes are replaced, and the version rises
pub calm_changed : (z : Setting) (v : View) (bytes : List ℕ) (version : ℕ) → Calm v → v.version ≤ version → length bytes ≤ z.most → Sound z v → Sound z (record v { bytes = bytes; version = version })
calm_changed z v bytes version c l b s = record {
  shapes = shapes_of w (flat_server v bytes version v.holder v.uncached v.opens v.shared (flat_of v s.shapes));
  streams = streams_of w (streams_same v w refl refl refl refl refl (flat_streams v s.streams));
  stamps = stamps_of w (stamps_same v w refl refl refl refl refl refl stamps);
  decisions = decisions_of z w (decisions_server z v w refl refl refl refl refl refl (flat_decisions z v s.decisions));
  modes = modes_of w next.under.own next.modes;
  holders = record {
    is_client = λ holder e. let u = c.unheld in absurd (cc (e, u));
    opens = λ holder e. let u = c.unheld in absurd (cc (e, u));
    stale = λ holder e. let u = c.unheld in absurd (cc (e, u));
    exclusive = s.holders.exclusive;
    each = λ kernel i. holds_at kernel i (s.holders.each kernel i) (still_at z v kernel i c s);
  };
  requests = record { limit = b; each = λ kernel i. asks_at kernel i (s.requests.each kernel i) (still_at z v kernel i c s) };
  contents = (calm_contents z v bytes version c s).0;
}
  where
    w : View
    w = record v { bytes = bytes; version = version }

    stamps : FlatStamps v
    stamps = flat_stamps v (flat_of v s.shapes) s.stamps

    next : Moding w
    next = moding_server v w refl refl refl refl refl refl (record { under = under_of v stamps; modes = flat_modes v stamps s.modes })

    holds_at : (kernel : ℕ) → IsClient (length v.clients) kernel → LocalHolders (at_kernel v kernel) → Still z v kernel → LocalHolders (at_kernel w kernel)
    holds_at kernel i h t = record {
      seen_below = (let a = h.seen_below in omega (arith, a, l));
      chained = record {
        first = λ one m grant a n o. let u = t.later one m grant a in absurd (cc (o, u));
        rises = h.chained.rises;
        under = λ one m grant a n. let k = h.chained.under one m grant a n in omega (arith, k, l);
        linked = λ one m grant a n o. let u = t.later one m grant a in absurd (cc (o, u));
        joined = λ one m grant a n o. let u = t.later one m grant a in absurd (cc (o, u));
        last = λ one m grant a n o. let u = t.later one m grant a in absurd (cc (o, u));
      };
      at_version = λ one m o x. let u = t.off in absurd (cc (o, u));
      writer_holds = λ one m r a. absurd (inactive a);
      holder_state = λ e. let u = t.unheld in absurd (cc (e, u));
      holder_grants = λ one m grant a n o e. let u = t.later one m grant a in absurd (cc (o, u));
      recall_ready = λ r. absurd (t.unrecalled r.call r.there r.to_kernel r.stamp r.recalls);
      recall_on = λ one m to stamp e. absurd (t.unrecalled one m to stamp e);
      recall_holds = λ one m to stamp e. absurd (t.unrecalled one m to stamp e);
      writer_ready = λ a e. absurd (inactive a);
      dirty_ready = λ one m q. absurd (subst (In one) t.empty m);
      dirty_unanswered = λ one m q. absurd (subst (In one) t.empty m);
      modes_agree = h.modes_agree;
    }
      where
        inactive : Active kernel (client v kernel).stamp (client v kernel).mode (at_kernel v kernel).calls → ⊥
        inactive (inl o) = let u = t.off in cc (o, u)
        inactive (inr o) = let u = t.later o.call o.is_newer.0 o.grant o.is_newer.1 in let n = o.on in cc (n, u)

    asks_at : (kernel : ℕ) → IsClient (length v.clients) kernel → LocalRequests z (at_kernel v kernel) → Still z v kernel → LocalRequests z (at_kernel w kernel)
    asks_at kernel i r t = record {
      asking = r.asking;
      write_backs = r.write_backs;
      sizes = record {
        granted = λ one m grant a n o. let u = t.later one m grant a in absurd (cc (o, u));
        again = λ one m f grant e n o.
            let k : SameNewer kernel (client v kernel).stamp (at_kernel v kernel).calls grant = (s.modes kernel i).again one m f grant e n in
            let u = t.later k.call k.is_newer.0 k.newer k.is_newer.1 in
            let x : k.newer.on ≡ grant.on = ap (λ (g : FileGrant). g.on) k.same in
            absurd (cc (o, u, x));
        holder = λ q. let h = q.holds_it in let u = t.unheld in absurd (cc (h, u));
        done_size = λ one m block size piece x d there p. absurd (none_held (client v kernel).blocks t.empty block.0 one.dirty there p);
        flushed_holder = r.sizes.flushed_holder;
        flushed_covers = λ one m to size blocks e n. let h = r.sizes.flushed_holder one m to size blocks e n in let u = t.unheld in absurd (cc (h, u));
        flushed_within = r.sizes.flushed_within;
      };
      limits = r.limits;
    }

-- the view stands for them
pub calm_bytes : (z : Setting) (v : View) (bytes : List ℕ) (version : ℕ) → 0 < z.block → Calm v → v.version ≤ version → length bytes ≤ z.most → Sound z v → stands_for z (record v { bytes = bytes; version = version }) ≡ bytes
calm_bytes z v bytes version p c l b s =
    let w : View = record v { bytes = bytes; version = version } in
    let f = calm_contents z v bytes version c s in
    stands_is z w (layers_of z w (calm_changed z v bytes version c l b s)) p f.0 ∙ f.1

-- what blocks contain is as before
pub cached_contents : (z : Setting) (v : View) → (f : StandsFor z v) → (g : StandsFor z (record v { uncached = false })) × (g.stood ≡ f.stood)
cached_contents z v f = (
  record {
    stood = f.stood;
    stands = record {
      dirty_size = f.stands.dirty_size;
      flushed_size = f.stands.flushed_size;
      flushed_part = f.stands.flushed_part;
      rest = λ number. elim (f.stands.rest number) [
        | inl d ↦ inl (record { kernel = d.kernel; is_client = d.is_client; one = d.one; there = d.there; dirty = d.dirty; place = d.place })
        | inr r ↦ inr (elim r [
          | inl d ↦ inl (record { call = d.call; there = d.there; size = d.size; blocks = d.blocks; replied = d.replied; piece = d.piece; inside = d.inside; place = d.place })
          | inr q ↦ inr q
        ])
      ];
      size = elim f.stands.size [
        | inl d ↦ inl (record { kernel = d.kernel; is_client = d.is_client; one = d.one; there = d.there; dirty = d.dirty })
        | inr r ↦ inr (elim r [
          | inl d ↦ inl (record { call = d.call; there = d.there; size = d.size; blocks = d.blocks; replied = d.replied; some = d.some })
          | inr q ↦ inr q
        ])
      ];
    };
    each = λ kernel i. let g = f.each kernel i in record { good = record { engaged_size = g.good.engaged_size; engaged = g.good.engaged; fetched = g.good.fetched; kept = g.good.kept }; carried = g.carried };
  },
  refl,
)

-- the file may be cached again, where nobody has it open and no callback is out
pub calm_cached : (z : Setting) (v : View) → busy v ≡ false → v.opens ≡ [] → Sound z v → Sound z (record v { uncached = false })
calm_cached z v b e s = record {
  shapes = shapes_of w (flat_server v v.bytes v.version v.holder false v.opens v.shared (flat_of v s.shapes));
  streams = streams_of w (streams_same v w refl refl refl refl refl (flat_streams v s.streams));
  stamps = stamps_of w (stamps_told v w (idle v b) refl refl refl refl stamps);
  decisions = record {
    queued = record { asks = s.decisions.queued.asks; idle = s.decisions.queued.idle };
    decided = record { told = λ one rest h. absurd (cc (h, b)); spared = s.decisions.decided.spared };
    shared = record { uncached = λ stream h. absurd (none_open stream (s.decisions.shared.stays stream h)); stays = s.decisions.shared.stays };
    each = λ kernel i. record { off = λ u. absurd (cc (u)); on = λ u one m. absurd (subst (In one) e (in_filter (λ (x : Open). x.kernel == kernel) one v.opens m).0) };
  };
  modes = λ kernel i. let f = s.modes kernel i in record {
    reached = f.reached;
    given_mode = f.given_mode;
    given_last = f.given_last;
    again = f.again;
    on_now = f.on_now;
    on_later = f.on_later;
    off_uncached = λ one m grant a n o. absurd (nothing_comes one (in_filter (about kernel) one (things v) m).0 grant a.1);
    off_now = f.off_now;
    off_later = f.off_later;
  };
  holders = record {
    is_client = s.holders.is_client;
    opens = s.holders.opens;
    stale = s.holders.stale;
    exclusive = λ u. subst (λ os. is_write_shared os ≡ false) (sym e) refl;
    each = s.holders.each;
  };
  requests = record { limit = s.requests.limit; each = λ kernel i. let r = s.requests.each kernel i in record { asking = r.asking; write_backs = r.write_backs; sizes = r.sizes; limits = r.limits } };
  contents = (cached_contents z v s.contents).0;
}
  where
    w : View
    w = record v { uncached = false }

    stamps : FlatStamps v
    stamps = flat_stamps v (flat_of v s.shapes) s.stamps

    none_open : (stream : StreamNo) → list_any (λ (x : Open). same_stream stream x.stream) v.opens ≡ true → ⊥
    none_open stream h = let q : list_any (λ (x : Open). same_stream stream x.stream) [] ≡ true = subst (λ os. list_any (λ (x : Open). same_stream stream x.stream) os ≡ true) e h in cc (q)

    nothing_comes : (one : FileCall) → In one (things v) → (grant : FileGrant) → arrival one.reply ≡ Some grant → ⊥
    nothing_comes one m grant a = cc (e, subst (λ os. is_any os ≡ true) e (arrival_open v (flat_of v s.shapes) (flat_streams v s.streams) one m grant a))
