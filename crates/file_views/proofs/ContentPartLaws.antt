-- What blocks contain, the eighth layer of soundness, under all steps and moves, and of a new file.
use Rattle.std.proofs.Common.{◌≡◌, ◌≢◌, ◌≤◌, ◌<◌, ◌⊎◌, ℕ, ◌-◌, ◌*◌, ◌/◌, ◌==◌, nat_le, nat_lt, Bool, true, false, cond, not, ◌&&◌, ◌||◌, is_some, is_none, List, [], ◌∷◌, ◌++◌, length, map, filter, Option, Some, None, refl, sym, ap, ◌∙◌, subst, inl, inr, arith, eqb-true, eq-eqb, leb-true, length-take, ne_eqb, slice_index_or}
use Rattle.std.proofs.lemmas.Bool.{and_parts}
use Rattle.std.proofs.lemmas.Bool.Decides.{eqb_tells}
use Rattle.sprite_ids.specs.declared.BlockNo.{BlockNo}
use Rattle.sprite_ids.specs.declared.StreamNo.{StreamNo}
use Rattle.file_views.specs.declared.grant.FileGrant.{FileGrant}
use Rattle.file_views.specs.declared.body.FileBody.{FileBody}
use Rattle.file_views.specs.declared.body.FileBody.TheVariants as form
use Rattle.file_views.specs.declared.opens.Open.{Open}
use Rattle.file_views.specs.declared.client.Held.{Held}
use Rattle.file_views.specs.declared.client.Client.{Client}
use Rattle.file_views.specs.declared.call.FileCall.{FileCall}
use Rattle.file_views.specs.declared.step.FileStep.{FileStep}
use Rattle.file_views.specs.declared.moves.ClientMove.{ClientMove}
use Rattle.file_views.specs.declared.view.View.{View}
use Rattle.file_views.specs.Setting.{Setting}
use Rattle.file_views.specs.Contents.{zeros, whole, part, cut, put_block}
use Rattle.file_views.specs.Streams.{same_stream, is_any}
use Rattle.file_views.specs.Clients.{new_client, is_on, held, same_number, without_block, with_block, cleaned, take_grant, blocks_filled, fill, blocks_written_back, wrote_back, uninstall}
use Rattle.file_views.specs.Views.{server, new_view, client, set_client, current_stamp, is_holder, is_callback, as_call, things, new_call, without_call, without_carried, begin, remove_call, busy}
use Rattle.file_views.specs.Grants.{asks}
use Rattle.file_views.specs.Data.{step_of}
use Rattle.file_views.specs.Serving.{store_blocks}
use Rattle.file_views.specs.Steps.{grant_comes, moving, writing_back_at, after}
use Rattle.file_views.specs.Possible.{has_room, may_do, possible, stepped}
use Rattle.file_views.specs.Moves.{kernel_of, is_data, is_fetch, is_past, may_move, after_move, enters_move}
use Rattle.file_views.specs.Entries.{enters_after, entered}
use Rattle.file_views.specs.declared.step.FileStep.TheVariants as act
use Rattle.file_views.specs.Settled.{goes_of, arrival}
use Rattle.file_views.specs.Here.{target, In, IsClient, about, at_kernel, Arrives, request_stamp}
use Rattle.file_views.specs.SoundShapes.{Answers}
use Rattle.file_views.specs.SoundHolders.{Installed, Engaged, Ready}
use Rattle.file_views.specs.SoundRequests.{is_dirty_in, WritesBack, Present, HolderSize}
use Rattle.file_views.specs.SoundContents.{HasOpen}
use Rattle.file_views.proofs.MemberLaws.{map_in, in_filter, filter_in, in_left, in_without, held_found}
use Rattle.file_views.proofs.EffectLaws.{by_kernel, client_set, things_without, things_uncarried, call_in_things}
use Rattle.file_views.proofs.BlockLaws.{in_with_block, in_held}
use Rattle.file_views.proofs.ShapeLaws.{Flat, flat_remove}
use Rattle.file_views.proofs.ShapeStepLaws.{still_client, data_step}
use Rattle.file_views.proofs.StreamLaws.{StepOpen}
use Rattle.file_views.proofs.StreamServeLaws.{quiet}
use Rattle.file_views.proofs.StreamStepLaws.{take_streams}
use Rattle.file_views.proofs.StreamReplyLaws.{data_open}
use Rattle.file_views.proofs.StampLaws.{own_stamp, FlatStamps}
use Rattle.file_views.proofs.StampServeLaws.{idle}
use Rattle.file_views.proofs.DecisionServeLaws.{Found, any_found, found_any}
use Rattle.file_views.proofs.HolderLaws.{Arrivals, DirtyIn, seat}
use Rattle.file_views.proofs.HolderChangeLaws.{ways_self}
use Rattle.file_views.proofs.HolderTakeLaws.{order}
use Rattle.file_views.proofs.HolderServeLaws.{answered_view}
use Rattle.file_views.proofs.HolderDataLaws.{Able, Knowing, able_of}
use Rattle.file_views.proofs.HolderStepLaws.{knowing_of, knowing_again, knowing_filled}
use Rattle.file_views.proofs.AskingLaws.{held_with}
use Rattle.file_views.proofs.AskingStepLaws.{FlatAsking, asking_quiet, asking_set}
use Rattle.file_views.proofs.AskingDataLaws.{asking_alone, filled_empty}
use Rattle.file_views.proofs.AskingMoveLaws.{Asks, quiet_calls, asking_removed, alone_removed, taken_removed}
use Rattle.file_views.proofs.PartLaws.{PartNotes, notes_after, notes_move}
use Rattle.file_views.proofs.WorkLaws.{noted, choose_two}
use Rattle.file_views.proofs.ServeLaws.{notes_request}
use Rattle.file_views.proofs.WritingLaws.{Keeps, clean_absent, keeps_filled, keeps_dropped}
use Rattle.file_views.proofs.WritingStepLaws.{calm_calls, writing_calm, low_current}
use Rattle.file_views.proofs.WritingMoveLaws.{none_of, is_absent, removed_writing}
use Rattle.file_views.proofs.SizeLaws.{Told, told_self, dirty_found, numbered_dirty}
use Rattle.file_views.proofs.SizeServeLaws.{idle_off, sizes_flushed}
use Rattle.file_views.proofs.SizeMoveLaws.{wrote_full, Full, brings_arrival, brings_again, sizes_parts, flushed_all}
use Rattle.file_views.proofs.BytesLaws.{whole_cut, put_cut, part_past, part_length}
use Rattle.file_views.proofs.ContentLaws.{RightFetch, GoodBlocks, good_calls, old_self, good_client, CarriedCall, carried_none, carried_client}
use Rattle.file_views.proofs.ContentViewLaws.{Con, Noted, note, Has, stand_same, stands_calls, con_calls, con_set, dirty_holder, ready_block}
use Rattle.file_views.proofs.ContentGrantLaws.{Contented, serves_contents, con_flushed}
use Rattle.file_views.proofs.ContentMoveLaws.{All, leans_of, whole_of, asks_of, open_facts, con_begin, has_plain, has_same, Working, MayWork, contents_work}
use Rattle.file_views.specs.SoundShapes.{Shapes}
use Rattle.file_views.specs.SoundStreams.{Streams}
use Rattle.file_views.specs.SoundStamps.{Stamps}
use Rattle.file_views.specs.SoundDecisions.{Decisions}
use Rattle.file_views.specs.SoundModes.{Modes}
use Rattle.file_views.specs.SoundHolders.{Holders}
use Rattle.file_views.specs.SoundContents.{Good, LocalContents, StandsFor}
use Rattle.file_views.specs.AskingLaw.{EachAsks}
use Rattle.file_views.specs.WritingLaw.{EachWritesBack}
use Rattle.file_views.specs.SizeLaw.{EachSize}
use Rattle.file_views.proofs.ShapeMoveLaws.{client_new, count_new, working_client}
use Rattle.file_views.proofs.CountLaws.{or_left, same_self}
use Rattle.file_views.proofs.SizeMoveLaws.{full_of, near_ways, far_ways}
use Rattle.file_views.proofs.ContentTakeLaws.{con_removed, has_removed, has_moved, has_takes, has_called}

-- a clean block is put among the others
in_with_other : (blocks : List Held) (new one : Held) → In one blocks → one.block.0 ≢ new.block.0 → In one (with_block new blocks)
in_with_other blocks new one m d = in_left one (without_block new.block.0 blocks) (new ∷ []) (filter_in (λ (x : Held). not (x.block.0 == new.block.0)) one blocks m (ap not (ne_eqb one.block.0 new.block.0 d)))

has_clean : (z : Setting) (had : Noted) (v : View) (kernel : ℕ) (new : Held) → (h : Has z had v) → Flat v → IsClient (length v.clients) kernel → new.dirty ≡ None → held (client v kernel).blocks new.block.0 ≡ None → new.bytes ≡ part z had.bytes new.block.0 → Keeps z kernel (current_stamp v kernel) (client v kernel) (record (client v kernel) { blocks = with_block new (client v kernel).blocks }) (things v) → Has z had (set_client v kernel (record (client v kernel) { blocks = with_block new (client v kernel).blocks }))
has_clean z had v kernel new h flat i n absent right keeps = record {
  right = h.right;
  con = con_set z had.bytes v kernel (record (client v kernel) { blocks = with_block new (client v kernel).blocks }) h.con i (record {
    stand = record {
      size = λ one m q. elim (in_with_block (client v kernel).blocks new one m) [ inl k ↦ h.con.stands.dirty_size kernel i one k q | inr e ↦ absurd (cc (q, n, ap (λ (x : Held). is_some x.dirty) e, ap is_some n)) ];
      stays = λ one m q. inl (one, (in_with_other (client v kernel).blocks new one m (apart one m), (q, refl)));
      some = λ one m q. inl (record { one = one; there = in_with_other (client v kernel).blocks new one m (apart one m); dirty = q });
    };
    good = good_client z had.bytes kernel v.version (client v kernel) (record (client v kernel) { blocks = with_block new (client v kernel).blocks }) (seat v kernel).opened (things v) (h.con.good kernel i) refl refl refl refl (λ x. inl x) (λ one m. elim (in_with_block (client v kernel).blocks new one m) [ inl k ↦ inl (old_self one (client v kernel).blocks k) | inr e ↦ inr (subst (λ (x : Held). x.bytes ≡ part z had.bytes x.block.0) (sym e) right) ]);
    carried = λ one m. carried_client z kernel (current_stamp v kernel) (client v kernel) (record (client v kernel) { blocks = with_block new (client v kernel).blocks }) v.bytes one (h.con.carried kernel i one m) refl (λ f number there p. keeps.present one m f number there p);
  });
}
  where
    apart : (one : Held) → In one (client v kernel).blocks → one.block.0 ≢ new.block.0
    apart one m e = cc (absent, in_held (client v kernel).blocks one (flat.fine kernel i).owned.differ m, ap (held (client v kernel).blocks) e)

-- a block comes in
has_filled : (z : Setting) (had : Noted) (v : View) (one : FileCall) (stamp : ℕ) (block : BlockNo) (other : ℕ) (piece : List ℕ) → All z had v → In one v.calls → one.body ≡ form.Fetch stamp block → one.reply ≡ Some (form.Block other piece) → IsClient (length v.clients) one.from → Has z had (set_client (remove_call v one.number) one.from (fill z (client v one.from) other block piece))
has_filled z had v one stamp block other piece t m e r i = by_test ((other == (client v one.from).stamp) && is_none (held (client v one.from).blocks block.0)) refl
  where
    u : View
    u = remove_call v one.number

    flat : Flat u
    flat = flat_remove v one t.full.standing.flat m

    gone : Has z had u
    gone = record { right = t.has.right; con = con_removed z had.bytes v one t.full.standing.flat m (ap asks e) (ap is_callback e) t.has.con }

    by_test : (b : Bool) → ((other == (client v one.from).stamp) && is_none (held (client v one.from).blocks block.0)) ≡ b → Has z had (set_client u one.from (record (client v one.from) { blocks = blocks_filled z (client v one.from).blocks block piece b }))
    by_test true q =
        let p = and_parts (other == (client v one.from).stamp) (is_none (held (client v one.from).blocks block.0)) q in
        let same : other ≡ stamp = subst (λ x. Answers x (form.Block other piece)) e ((t.full.standing.flat.calls one m).fits (form.Block other piece) r) in
        let absent : held (client v one.from).blocks block.0 ≡ None = none_of (held (client v one.from).blocks block.0) p.1 in
        has_clean z had u one.from (record { block = block; bytes = whole z piece; dirty = None }) gone flat i refl absent
        ((t.has.con.good one.from i).fetched one (call_in_things v one m) refl stamp block e (sym same ∙ eqb-true other (client v one.from).stamp p.0) other piece r)
        (keeps_filled z one.from (current_stamp v one.from) (client v one.from) (record { block = block; bytes = whole z piece; dirty = None }) (things u) (removed_writing z v one (wrote_full z v t.full) one.from i) refl absent)
    by_test false q = has_same z had u one.from (client v one.from) gone i refl refl refl refl refl (λ x. inl x)

-- a block past the end is held
has_zeroed : (z : Setting) (had : Noted) (v : View) (kernel : ℕ) (block : BlockNo) → All z had v → IsClient (length v.clients) kernel → is_past z (client v kernel) block.0 ≡ true → Has z had (set_client v kernel (record (client v kernel) { blocks = with_block (record { block = block; bytes = zeros z.block; dirty = None }) (client v kernel).blocks }))
has_zeroed z had v kernel block t i e =
    let p = and_parts (is_on (client v kernel).mode) _ e in
    let q = and_parts (is_any (client v kernel).streams) _ p.1 in
    let r = and_parts (nat_lt (block.0 * z.block) z.most) _ q.1 in
    let s = leb-true (client v kernel).size (block.0 * z.block) (and_parts (nat_le (client v kernel).size (block.0 * z.block)) _ r.1).0 in
    let size : (client v kernel).size ≡ length had.bytes = (t.has.con.good kernel i).engaged_size p.0 (inl (some_stream (client v kernel).streams q.0)) in
    has_clean z had v kernel (record { block = block; bytes = zeros z.block; dirty = None }) t.has t.full.standing.flat i refl (is_absent z (client v kernel) block.0 e) (part_past z had.bytes block.0 (omega (arith, s, size)))
    (keeps_filled z kernel (current_stamp v kernel) (client v kernel) (record { block = block; bytes = zeros z.block; dirty = None }) (things v) (t.full.writing kernel i) refl (is_absent z (client v kernel) block.0 e))
  where
    some_stream : (streams : List StreamNo) → is_any streams ≡ true → Installed streams
    some_stream [] k = absurd (cc (k))
    some_stream (s ∷ rest) k = record { stream = s; there = or_left (same_stream s s) _ (same_self s) }

-- a clean block is dropped
has_dropped : (z : Setting) (had : Noted) (v : View) (kernel : ℕ) (one : Held) → All z had v → IsClient (length v.clients) kernel → held (client v kernel).blocks one.block.0 ≡ Some one → one.dirty ≡ None → Has z had (set_client v kernel (record (client v kernel) { blocks = without_block one.block.0 (client v kernel).blocks }))
has_dropped z had v kernel one t i h n = record {
  right = t.has.right;
  con = con_set z had.bytes v kernel d t.has.con i (record {
    stand = record {
      size = λ x m q. t.has.con.stands.dirty_size kernel i x (fewer x m) q;
      stays = λ x m q. inl (x, (stays x m q, (q, refl)));
      some = λ x m q. inl (record { one = x; there = stays x m q; dirty = q });
    };
    good = good_client z had.bytes kernel v.version (client v kernel) d (seat v kernel).opened (things v) (t.has.con.good kernel i) refl refl refl refl (λ x. inl x) (λ x m. inl (old_self x (client v kernel).blocks (fewer x m)));
    carried = λ x m. carried_client z kernel (current_stamp v kernel) (client v kernel) d v.bytes x (t.has.con.carried kernel i x m) refl (λ f number there p. (keeps_dropped z kernel (current_stamp v kernel) (client v kernel) one one.block.0 (things v) (t.full.writing kernel i) h n).present x m f number there p);
  });
}
  where
    d : Client
    d = record (client v kernel) { blocks = without_block one.block.0 (client v kernel).blocks }

    fewer : (x : Held) → In x d.blocks → In x (client v kernel).blocks
    fewer x m = (in_filter (λ (y : Held). not (y.block.0 == one.block.0)) x (client v kernel).blocks m).0

    stays : (x : Held) → In x (client v kernel).blocks → is_some x.dirty ≡ true → In x d.blocks
    stays x m q = filter_in (λ (y : Held). not (y.block.0 == one.block.0)) x (client v kernel).blocks m (ap not (ne_eqb x.block.0 one.block.0 (λ e. let a : Some x ≡ Some one = sym (in_held (client v kernel).blocks x (t.full.standing.flat.fine kernel i).owned.differ m) ∙ (ap (held (client v kernel).blocks) e ∙ h) in let same : x ≡ one = cc (a) in cc (q, n, ap (λ (y : Held). is_some y.dirty) same, ap is_some n))))

-- a block was written back
has_back : (z : Setting) (had : Noted) (v : View) (one : FileCall) (stamp : ℕ) (block : BlockNo) (size : ℕ) (piece : List ℕ) → All z had v → In one v.calls → one.body ≡ form.WriteBack stamp block size piece → one.reply ≡ Some form.Done → IsClient (length v.clients) one.from → Has z had (set_client (remove_call v one.number) one.from (wrote_back (client v one.from) stamp block.0 one.dirty))
has_back z had v one stamp block size piece t m e r i = by_held (held (client v one.from).blocks block.0) refl ((stamp == (client v one.from).stamp)) refl
  where
    u : View
    u = remove_call v one.number

    c : Client
    c = client v one.from

    gone : Has z had u
    gone = record { right = t.has.right; con = con_removed z had.bytes v one t.full.standing.flat m (ap asks e) (ap is_callback e) t.has.con }

    by_same : (x : Held) → held c.blocks block.0 ≡ Some x → (b : Bool) → (stamp == c.stamp) ≡ b → (a : Bool) → (b && same_number x.dirty one.dirty) ≡ a → Has z had (set_client u one.from (record c { blocks = cond a (with_block (cleaned x) c.blocks) c.blocks }))
    by_same x h b s false q = has_same z had u one.from c gone i refl refl refl refl refl (λ k. inl k)
    by_same x h b s true q = record {
      right = t.has.right;
      con = con_set z had.bytes u one.from d gone.con i (record {
        stand = record {
          size = λ y k w. elim (in_with_block c.blocks (cleaned x) y k) [ inl j ↦ t.has.con.stands.dirty_size one.from i y j w | inr j ↦ absurd (cc (w, ap (λ (f : Held). is_some f.dirty) j)) ];
          stays = λ y k w. elim (eqb_tells y.block.0 x.block.0) [
            | inl j ↦ inr (ap (part z v.bytes) (j.1 ∙ place) ∙ done ∙ right x there is_dirty ∙ ap (part z had.bytes) (sym j.1))
            | inr j ↦ inl (y, (in_with_other c.blocks (cleaned x) y k j.1, (w, refl)))
          ];
          some = λ y k w. some_left;
        };
        good = good_client z had.bytes one.from v.version c d (seat u one.from).opened (things u) (gone.con.good one.from i) refl refl refl refl (λ k. inl k) (λ y k. inl (elim (in_with_block c.blocks (cleaned x) y k) [ inl j ↦ old_self y c.blocks j | inr j ↦ record { other = x; there = there; bytes_are = ap (λ (f : Held). f.bytes) (sym j); block_is = ap (λ (f : Held). f.block.0) (sym j) } ]));
        carried = λ y k. carried_client z one.from (current_stamp v one.from) c d v.bytes y (gone.con.carried one.from i y k) refl (λ f number at p. clean_absent c.blocks (cleaned x) number y.dirty at refl p);
      });
    }
      where
        d : Client
        d = record c { blocks = with_block (cleaned x) c.blocks }

        p : (b ≡ true) × (same_number x.dirty one.dirty ≡ true)
        p = and_parts b (same_number x.dirty one.dirty) q

        there : In x c.blocks
        there = (held_found c.blocks block.0 x h).0

        place : x.block.0 ≡ block.0
        place = (held_found c.blocks block.0 x h).1

        present : Present c.blocks block.0 one.dirty x
        present = record { found = h; same = p.1 }

        is_dirty : is_some x.dirty ≡ true
        is_dirty = numbered_dirty x.dirty one.dirty p.1

        own : stamp ≡ c.stamp
        own = eqb-true stamp c.stamp (s ∙ p.0)

        writes : WritesBack one.from c.stamp one block size piece
        writes = record { from_kernel = refl; is_write_back = e ∙ ap (λ n. form.WriteBack n block size piece) own }

        done : part z v.bytes block.0 ≡ x.bytes
        done = (t.has.con.carried one.from i one (call_in_things v one m)).done block size piece writes r x present

        dirty_in : DirtyIn c.blocks
        dirty_in = record { one = x; there = there; dirty = is_dirty }

        ready : Ready one.from (own_stamp v one.from) c.version v.version (is_holder v one.from) c.mode (things v)
        ready = dirty_holder z v (leans_of z v t.full) one.from i dirty_in

        right : (y : Held) → In y c.blocks → is_some y.dirty ≡ true → y.bytes ≡ part z had.bytes y.block.0
        right y k w = ready_block z had.bytes v (leans_of z v t.full) t.has.con one.from i ready y k

        size_is : c.size ≡ length had.bytes
        size_is = t.has.con.stands.dirty_size one.from i x there is_dirty

        sized : HolderSize z c v.bytes
        sized = (t.full.sizes one.from i).holder ready ((t.full.holders.each one.from i).dirty_unanswered x there is_dirty)

        some_left : DirtyIn d.blocks ⊎ (length v.bytes ≡ length had.bytes)
        some_left = elim (order (length v.bytes) c.size) [
          | inl l ↦ elim (eqb_tells block.0 ((c.size - 1) / z.block)) [
            | inl j ↦ inr (((t.full.sizes one.from i).each one (call_in_things v one m)).done_size block size piece writes r x present j.1 ∙ size_is)
            | inr j ↦ inl (dirty_found d.blocks ((c.size - 1) / z.block) (ap is_dirty_in (held_with c.blocks (cleaned x) ((c.size - 1) / z.block) (λ k. j.1 (sym place ∙ k))) ∙ sized.dirty l))
          ]
          | inr l ↦ inr (let a = sized.covers in omega (arith, a, l, size_is))
        ]

    by_held : (o : Option Held) → held c.blocks block.0 ≡ o → (b : Bool) → (stamp == c.stamp) ≡ b → Has z had (set_client u one.from (record c { blocks = blocks_written_back c.blocks one.dirty b o }))
    by_held (Some x) h b s = by_same x h b s (b && same_number x.dirty one.dirty) refl
    by_held None h b s = has_same z had u one.from c gone i refl refl refl refl refl (λ k. inl k)

-- a dirty block is sent
has_sent : (z : Setting) (had : Noted) (v : View) (kernel : ℕ) (one : Held) (number dirty : ℕ) → All z had v → IsClient (length v.clients) kernel → held (client v kernel).blocks number ≡ Some one → one.dirty ≡ Some dirty → Has z had (begin v kernel server (form.WriteBack (client v kernel).stamp one.block (client v kernel).size (cut z one.bytes one.block.0 (client v kernel).size)) (Some dirty))
has_sent z had v kernel one number dirty t i h d = record { right = t.has.right; con = con_begin z stood v kernel sent (Some dirty) t.has.con i (λ other j. carried_new other j) (λ stamp q. let a : (client v kernel).stamp ≡ stamp = cc (q) in let b = t.full.standing.stamps.own_below kernel i in omega (arith, a, b)) }
  where
    stood : List ℕ
    stood = had.bytes

    c : Client
    c = client v kernel

    sent : FileBody
    sent = form.WriteBack c.stamp one.block c.size (cut z one.bytes one.block.0 c.size)

    there : In one c.blocks
    there = (held_found c.blocks number one h).0

    found_there : held c.blocks one.block.0 ≡ Some one
    found_there = subst (λ n. held c.blocks n ≡ Some one) (sym (held_found c.blocks number one h).1) h

    dirty_in : DirtyIn c.blocks
    dirty_in = record { one = one; there = there; dirty = ap is_some d }

    ready : Ready kernel (own_stamp v kernel) c.version v.version (is_holder v kernel) c.mode (things v)
    ready = dirty_holder z v (leans_of z v t.full) kernel i dirty_in

    right : one.bytes ≡ part z stood one.block.0
    right = ready_block z stood v (leans_of z v t.full) t.has.con kernel i ready one there

    size_is : c.size ≡ length stood
    size_is = t.has.con.stands.dirty_size kernel i one there (ap is_some d)

    covers : length v.bytes ≤ c.size
    covers = ((t.full.sizes kernel i).holder ready ((t.full.holders.each kernel i).dirty_unanswered one there (ap is_some d))).covers

    long : length stood ≤ c.size
    long = omega (arith, size_is)

    whole_fact : FileBody → Type 0
    whole_fact (form.WriteBack stamp block size piece) = (held c.blocks block.0 ≡ Some one) × ((whole z piece ≡ one.bytes) × ((part z (put_block z v.bytes block.0 size piece) block.0 ≡ one.bytes) × (length piece ≤ z.block)))
    whole_fact body = Unit {0}

    facts : whole_fact sent
    facts = (found_there, (ap (λ xs. whole z (cut z xs one.block.0 c.size)) right ∙ whole_cut z stood one.block.0 c.size long ∙ sym right, (ap (λ xs. part z (put_block z v.bytes one.block.0 c.size (cut z xs one.block.0 c.size)) one.block.0) right ∙ put_cut z v.bytes stood one.block.0 c.size long covers ∙ sym right, short)))
      where
        short : length (cut z one.bytes one.block.0 c.size) ≤ z.block
        short = let a = length-take (c.size - one.block.0 * z.block) one.bytes in let b : length one.bytes ≡ z.block = ap length right ∙ part_length z stood one.block.0 in omega (arith, a, b)

    at : (stamp : ℕ) (block : BlockNo) (size : ℕ) (piece : List ℕ) → sent ≡ form.WriteBack stamp block size piece → whole_fact (form.WriteBack stamp block size piece)
    at stamp block size piece e = subst whole_fact e facts

    same_held : (x : Held) (n : ℕ) → held c.blocks n ≡ Some one → held c.blocks n ≡ Some x → one ≡ x
    same_held x n p q = let s : Some one ≡ Some x = sym p ∙ q in cc (s)

    new : FileCall
    new = new_call v kernel server sent (Some dirty)

    carried_here : CarriedCall z kernel (current_stamp v kernel) c v.bytes new
    carried_here = record {
      whole_block = λ block size piece w x p. (let f = at (current_stamp v kernel) block size piece w.is_write_back in f.1.0 ∙ ap (λ (y : Held). y.bytes) (same_held x block.0 f.0 p.found));
      stores = λ block size piece w r x p. (let f = at (current_stamp v kernel) block size piece w.is_write_back in f.1.1.0 ∙ ap (λ (y : Held). y.bytes) (same_held x block.0 f.0 p.found));
      done = λ block size piece w r. absurd (cc (r));
      fits = λ block size piece w r. (at (current_stamp v kernel) block size piece w.is_write_back).1.1.1;
    }

    carried_new : (other : ℕ) → IsClient (length v.clients) other → CarriedCall z other (current_stamp v other) (client v other) v.bytes new
    carried_new other j = by_kernel (λ k. CarriedCall z k (current_stamp v k) (client v k) v.bytes new) kernel other carried_here (λ p. carried_none z other (current_stamp v other) (client v other) v.bytes new (λ block size piece w. p (sym w.from_kernel)) (λ block size piece w. p (sym w.from_kernel)))

has_sends : (z : Setting) (had : Noted) (v : View) (kernel : ℕ) (one : Held) (number : ℕ) (dirty : Option ℕ) → All z had v → IsClient (length v.clients) kernel → held (client v kernel).blocks number ≡ Some one → one.dirty ≡ dirty → Has z had (writing_back_at z v kernel one dirty)
has_sends z had v kernel one number None t i h d = has_dropped z had v kernel one t i (subst (λ n. held (client v kernel).blocks n ≡ Some one) (sym (held_found (client v kernel).blocks number one h).1) h) d
has_sends z had v kernel one number (Some dirty) t i h d = has_sent z had v kernel one number dirty t i h d

-- what clients do with their streams
fewer_installed : (streams : List StreamNo) (stream : StreamNo) → Installed (filter (λ other. not (same_stream stream other)) streams) → Installed streams
fewer_installed streams stream x = let f : Found (same_stream x.stream) (filter (λ other. not (same_stream stream other)) streams) = any_found (same_stream x.stream) (filter (λ other. not (same_stream stream other)) streams) x.there in record { stream = x.stream; there = found_any (same_stream x.stream) streams f.item (in_filter (λ other. not (same_stream stream other)) f.item streams f.there).0 f.holds }

has_away : (z : Setting) (had : Noted) (v : View) (kernel : ℕ) (stream : StreamNo) → Has z had v → IsClient (length v.clients) kernel → Has z had (set_client v kernel (uninstall (client v kernel) stream))
has_away z had v kernel stream h i = has_same z had v kernel (uninstall (client v kernel) stream) h i refl refl refl refl refl (λ x. inl (fewer_installed (client v kernel).streams stream x))

has_moving : (z : Setting) (had : Noted) (v : View) (stream : StreamNo) (source place : ℕ) (kept : Bool) → Has z had v → IsClient (length v.clients) source → Has z had (moving v stream source place kept)
has_moving z had v stream source place true h i = has_plain z had v source (form.Move stream place true 0) None h i refl (λ n e. absurd (cc (e)))
has_moving z had v stream source place false h i = has_plain z had (set_client v source (uninstall (client v source) stream)) source _ None (has_away z had v source stream h i) (still_client v source source _ i) refl (λ n e. absurd (cc (e)))

-- a view that differs in what contents don't read
has_server : (z : Setting) (had : Noted) (v w : View) → Has z had v → w.clients ≡ v.clients → w.bytes ≡ v.bytes → w.version ≡ v.version → w.stamps ≡ v.stamps → w.opens ≡ v.opens → things w ≡ things v → Has z had w
has_server z had v w h a b c d e f = record {
  right = h.right;
  con = con_calls z had.bytes v w h.con (record {
    clients = a;
    bytes = b;
    version = c;
    stamps = λ kernel. (let q : current_stamp w kernel ≡ current_stamp v kernel = ap (λ xs. slice_index_or xs (kernel - 1) 0) d in omega (arith, q));
    opens = λ kernel x. subst (λ os. HasOpen (filter (λ (y : Open). y.kernel == kernel) os)) e x;
    arrivals = λ kernel i. subst (Arrivals kernel (own_stamp v kernel) (things v)) (sym f) (ways_self kernel (own_stamp v kernel) (is_holder v kernel) (things v)).arrivals;
    told = λ x m. inl (told_self x (things v) (subst (In x) f m));
    flushes = λ x m size blocks r. subst (In x) (sym f) m;
  });
}

-- the version rises of a file that nobody caches
has_raised : (z : Setting) (had : Noted) (v : View) (version : ℕ) → All z had v → v.uncached ≡ true → busy v ≡ false → Has z had (record v { version = version })
has_raised z had v version t u q = record {
  right = t.has.right;
  con = record {
    stands = stands_calls z had.bytes v (record v { version = version }) t.has.con.stands (stand_same v (record v { version = version }) refl refl (λ x m. m) (λ x m. m));
    good = λ kernel i. let g : GoodBlocks z had.bytes kernel v.version (client v kernel) (seat v kernel).opened (things v) = t.has.con.good kernel i in record {
      engaged_size = g.engaged_size;
      engaged = g.engaged;
      fetched = g.fetched;
      kept = λ o. absurd (idle_off v t.full.standing.modes t.full.standing.decided.ruled (idle v q) u kernel i o);
    };
    carried = t.has.con.carried;
    low = t.has.con.low;
  };
}

-- what may be done by what waits
one_able : (z : Setting) (w : View) (kernel : ℕ) (s : FileStep) → Knowing z w → IsClient (length w.clients) kernel → StepOpen kernel (client w kernel).streams w.opens s → Able w kernel (s ∷ [])
one_able z w kernel s k i o = able_of z w k kernel i (s ∷ []) (λ x n. elim n [ inl e ↦ subst (StepOpen kernel (client w kernel).streams w.opens) (sym e) o | inr e ↦ absurd e ])

-- the stream that it is about is installed
step_installed : (kernel : ℕ) (streams : List StreamNo) (opens : List Open) (s : FileStep) → is_data s ≡ true → StepOpen kernel streams opens s → Installed streams
step_installed kernel streams opens (act.Reading pid number place stream from many) d o = record { stream = stream; there = o.installed stream (same_self stream) }
step_installed kernel streams opens (act.Writing pid number place stream from bytes) d o = record { stream = stream; there = o.installed stream (same_self stream) }
step_installed kernel streams opens (act.Append pid number place stream bytes) d o = record { stream = stream; there = o.installed stream (same_self stream) }
step_installed kernel streams opens s d o = absurd (cc (d))

may_work : (z : Setting) (w : View) (kernel : ℕ) (s : FileStep) → is_data s ≡ true → Knowing z w → IsClient (length w.clients) kernel → StepOpen kernel (client w kernel).streams w.opens s → MayWork w kernel s
may_work z w kernel s d k i o = (d, one_able z w kernel s k i o, step_installed kernel (client w kernel).streams w.opens s d o)

working_of : (z : Setting) (had : Noted) (v : View) → All z had v → Working z had v
working_of z had v t = record { positive = t.positive; stamps = t.full.standing.stamps; sizing = record { writes = record { flat = t.full.standing.flat; writing = t.full.writing }; sizes = t.full.sizes }; holders = t.full.holders; opened = open_facts z v t.full.standing.flat t.full.standing.streams t.full.asking; has = t.has }

request_plain : (body : FileBody) (stamp : ℕ) → request_stamp body ≡ Some stamp → (is_callback body ≡ false) × ((quiet body ≡ true) × (asks body ≡ false))
request_plain (form.Op pid number other stream way) stamp e = (refl, (refl, refl))
request_plain (form.Fetch other block) stamp e = (refl, (refl, refl))
request_plain (form.WriteBack other block size piece) stamp e = (refl, (refl, refl))
request_plain body stamp e = absurd (cc (e))

-- each part of a step or move
pub contents_parts : (z : Setting) → PartNotes z Noted (note z) MayWork (All z) (Working z) (Has z)
contents_parts z = record {
  works = contents_work z;
  flat = λ had v t. t.full.standing.flat;
  same = λ had v t. working_of z had v t;
  rests = λ had v p. p.has;
  wanted = λ had v kernel t p i s m. may_work z v kernel s ((t.full.standing.flat.fine kernel i).waits s m) (knowing_of z v (whole_of z v t.full)) i (t.full.standing.streams.rest.waits kernel i s m);
  filled_wanted = λ had v one stamp block other piece t m e r i p j s n.
      let k : Knowing z (set_client (remove_call v one.number) one.from (fill z (client v one.from) other block piece)) = knowing_filled z v one other block piece (whole_of z v t.full) m (ap is_some r) (ap is_callback e) (ap quiet e) (ap asks e) i in
      may_work z _ one.from s ((p.sizing.writes.flat.fine one.from j).waits s n) k j (k.streams.rest.waits one.from j s n);
  fetch_again_wanted = λ had v one stamp block grant t m e r i p j s n.
      let k : Knowing z (grant_comes (remove_call v one.number) one.from grant) = knowing_again z v one grant (whole_of z v t.full) m (ap is_callback e) (ap quiet e) i r in
      may_work z (grant_comes (remove_call v one.number) one.from grant) one.from s ((p.sizing.writes.flat.fine one.from j).waits s n) k j (k.streams.rest.waits one.from j s n);
  again_wanted = λ had v one grant t m pid number stamp stream way e r i.
      let w : View = grant_comes (remove_call v one.number) one.from grant in
      let k : Knowing z w = knowing_again z v one grant (whole_of z v t.full) m (ap is_callback e) (ap quiet e) i r in
      let j : IsClient (length w.clients) one.from = still_client (remove_call v one.number) one.from one.from _ i in
      let same : (client w one.from).streams ≡ (client v one.from).streams = ap (λ (x : Client). x.streams) (client_set (remove_call v one.number) one.from (take_grant (client v one.from) grant) i) ∙ take_streams (client v one.from) grant in
      may_work z w one.from (step_of pid number one.from stream way) (data_step pid number one.from stream way) k j (subst (λ xs. StepOpen one.from xs v.opens (step_of pid number one.from stream way)) (sym same) ((t.full.standing.streams.rest.works one m i).operates pid number stamp stream way e));
  begun = λ had v step t d e. may_work z v (kernel_of step) step d (knowing_of z v (whole_of z v t.full)) (working_client z v step d e) (data_open z v step d e t.full.standing.streams.rest);
  removed = λ had v one t m r a c. has_removed z had v one t.full.standing.flat m a c t.has;
  opened = λ had v one stream grant t m pid number mode truncate e r i.
      has_takes z had v one one.from grant (without_call one.number v.calls) v.carried _ t (brings_arrival z v one one.from grant (without_call one.number v.calls) v.carried t.full (call_in_things v one m) (things_without v one t.full.standing.flat.numbered.differ m) (ap is_callback e) (ap (goes_of one.from) e, ap arrival r) i) i (λ l x. comes z had v one one.from grant stream t (call_in_things v one m) (ap (goes_of one.from) e, ap arrival r) l x);
  moved = λ had v one stream place kept grants grant more t m e r. has_moved z had v one stream place kept grants grant more t.full.standing.flat t.has m e r;
  came = λ had v carry grant t m e.
      let there : In (as_call carry) (things v) = in_left (as_call carry) (map as_call v.carried) v.calls (map_in as_call carry v.carried m) in
      let i : IsClient (length v.clients) carry.to = (t.full.standing.flat.carried carry m).client in
      has_takes z had v (as_call carry) carry.to grant v.calls (without_carried carry.call v.carried) _ t (brings_arrival z v (as_call carry) carry.to grant v.calls (without_carried carry.call v.carried) t.full there (things_uncarried v carry t.full.standing.flat.numbered.differ m) refl (refl, e) i) i (λ l x. comes z had v (as_call carry) carry.to grant carry.stream t there (refl, e) l x);
  filled = λ had v one stamp block other piece t m e r i.
      let w : View = set_client (remove_call v one.number) one.from (fill z (client v one.from) other block piece) in
      let k : Knowing z w = knowing_filled z v one other block piece (whole_of z v t.full) m (ap is_some r) (ap is_callback e) (ap quiet e) (ap asks e) i in
      let a : Asks z v = asks_of z v t.full in
      let same : other ≡ stamp = subst (λ x. Answers x (form.Block other piece)) e ((t.full.standing.flat.calls one m).fits (form.Block other piece) r) in
      let asking : FlatAsking z w = asking_set z (remove_call v one.number) one.from (fill z (client v one.from) other block piece) (asking_removed z v one a) i (asking_alone z one.from (client v one.from) (fill z (client v one.from) other block piece) (things (remove_call v one.number)) (asking_removed z v one a one.from i) (alone_removed z v one a m (ap is_fetch e) i) refl refl (filled_empty z (client v one.from) block piece other (t.full.asking one.from i).off_empty (λ q. (t.full.asking one.from i).fetch_on one (call_in_things v one m) refl stamp block e (sym same ∙ q)))) in
      record { positive = t.positive; stamps = k.stamps; sizing = (sizes_parts z).filled v one stamp block other piece t.full m e r i; holders = k.holders; opened = open_facts z w k.flat k.streams asking; has = has_filled z had v one stamp block other piece t m e r i };
  again = λ had v one stamp grant t m e r i.
      let w : View = grant_comes (remove_call v one.number) one.from grant in
      let p = request_plain one.body stamp e in
      let k : Knowing z w = knowing_again z v one grant (whole_of z v t.full) m p.0 p.1.0 i r in
      let a : Asks z v = asks_of z v t.full in
      let asking : FlatAsking z w = asking_set z (remove_call v one.number) one.from (take_grant (client v one.from) grant) (asking_removed z v one a) i (taken_removed z v one grant a m i) in
      record { positive = t.positive; stamps = k.stamps; sizing = (sizes_parts z).again v one stamp grant t.full m e r i; holders = k.holders; opened = open_facts z w k.flat k.streams asking; has = has_takes z had v one one.from grant (without_call one.number v.calls) v.carried (take_grant (client v one.from) grant).streams t (brings_again z v one grant t.full m p.0 r i) i (λ l x. inl (subst Installed (take_streams (client v one.from) grant) x)) };
  done = λ had v one stamp block size piece t m e r i. has_back z had v one stamp block size piece t m e r i;
  flushed = λ had v one stamp kind size blocks t m e r i. flushed_all z Noted (note z) (Contented z) (Has z) (serves_contents z) had v one stamp kind size blocks t.full.standing t.full.holders m e r i (λ answering.
      let w : View = answered_view v one (store_blocks z v.bytes size blocks) in
      record {
        positive = t.positive;
        sized = record {
          asking = asking_quiet z v w t.full.asking (quiet_calls v w refl (λ x j. (in_without one.number x v.calls j).0)) t.full.standing.flat.items.fifteen;
          writing = writing_calm z v w t.full.writing t.full.standing.stamps (calm_calls v w refl refl (λ x j. (in_without one.number x v.calls j).0)) t.full.standing.flat.items.fifteen;
          sizes = sizes_flushed z v one stamp kind size blocks answering r t.full.standing.streams t.full.sizes i;
        };
        has = record { right = t.has.right; con = con_flushed z had.bytes v one stamp kind size blocks answering r t.full.sizes t.has.con i };
      });
  called = λ had v one stamp kind t m e k n i. has_called z had v one stamp kind t m e k n i;
  requested = λ had v one t m s k n c. notes_request z Noted (note z) (Contented z) (Has z) (serves_contents z) had v one (record { flat = t.full.standing.flat; streams = t.full.standing.streams }) t.full.standing.stamps t.full.standing.decided.ruled t.full.standing.modes t.full.holders m s n c (record { positive = t.positive; sized = record { asking = t.full.asking; writing = t.full.writing; sizes = t.full.sizes }; has = t.has });
  opens = λ had v kernel pid number stream mode truncate t i. has_plain z had v kernel (form.Opening pid number stream mode truncate) None t.has i refl (λ n e. absurd (cc (e)));
  closes = λ had v kernel stream t i. has_plain z had (set_client v kernel (uninstall (client v kernel) stream)) kernel _ None (has_away z had v kernel stream t.has i) (still_client v kernel kernel _ i) refl (λ n e. absurd (cc (e)));
  moves = λ had v stream source place kept t i. has_moving z had v stream source place kept t.has i;
  backs = λ had v kernel one number t i h e. has_sends z had v kernel one number one.dirty t i h refl;
  numbered = λ had v next t l. has_server z had v (record v { next = next }) t.has refl refl refl refl refl refl;
  counted = λ had v kernel count t i l. has_same z had v kernel (record (client v kernel) { count = count }) t.has i refl refl refl refl refl (λ x. inl x);
  zeroed = λ had v kernel block t i e. has_zeroed z had v kernel block t i e;
  raised = λ had v version t u q l. has_raised z had v version t u q;
  uncached = λ had v t. has_server z had v (record v { uncached = true }) t.has refl refl refl refl refl refl;
}
  where
    comes : (z : Setting) (had : Noted) (v : View) (one : FileCall) (kernel : ℕ) (grant : FileGrant) (stream : StreamNo) → All z had v → In one (things v) → Arrives kernel one grant → grant.stamp ≤ own_stamp v kernel → Installed ((take_grant (client v kernel) grant).streams ++ stream ∷ []) → Engaged kernel (own_stamp v kernel) (client v kernel).streams (things v)
    comes z had v one kernel grant stream t m a l x = inr (record { call = one; grant = grant; there = m; arrives = a; old = l })

-- the two ways to say it
local_contents : (z : Setting) (had : Noted) (v : View) → (h : Has z had v) → (kernel : ℕ) → IsClient (length v.clients) kernel → LocalContents z had.bytes (at_kernel v kernel)
local_contents z had v h kernel i = record {
  good = record {
    engaged_size = g.engaged_size;
    engaged = g.engaged;
    fetched = g.fetched;
    kept = λ o k. g.kept o (elim k [
      | inl x ↦ inl (record { call = x.call; grant = x.grant; is_newer = x.is_newer; on = x.on; same = x.same })
      | inr x ↦ inr (record { none = x.none; counts = x.counts })
    ]);
  };
  carried = record {
    whole_block = λ one m. (h.con.carried kernel i one (near one m)).whole_block;
    stores = λ one m. (h.con.carried kernel i one (near one m)).stores;
    done = λ one m. (h.con.carried kernel i one (near one m)).done;
    fits = λ one m. (h.con.carried kernel i one (near one m)).fits;
  };
}
  where
    near : (one : FileCall) → In one (at_kernel v kernel).calls → In one (things v)
    near one m = (in_filter (about kernel) one (things v) m).0

    g : GoodBlocks z had.bytes kernel v.version (client v kernel) (at_kernel v kernel).opened (at_kernel v kernel).calls
    g = good_calls z had.bytes kernel v.version (client v kernel) (seat v kernel).opened (at_kernel v kernel).opened (things v) (at_kernel v kernel).calls (h.con.good kernel i) (far_ways v kernel).arrivals (λ x. x) (λ one m. inl (told_self one (things v) (near one m)))

pub stands_at : (z : Setting) (had : Noted) (v : View) → Has z had v → (f : StandsFor z v) × (f.stood ≡ had.bytes)
stands_at z had v h = (record { stood = had.bytes; stands = h.con.stands; each = λ kernel i. local_contents z had v h kernel i }, refl)

-- a call that is about another kernel says nothing
fetch_other : (z : Setting) (stood : List ℕ) (kernel own : ℕ) (one : FileCall) → about kernel one ≡ false → RightFetch z stood kernel own one
fetch_other z stood kernel own one n e = absurd (cc (n, or_left (one.from == kernel) ((one.to == kernel) || (target one.body == kernel)) (eq-eqb one.from kernel e)))

from_other : (kernel : ℕ) (one : FileCall) → about kernel one ≡ false → one.from ≡ kernel → ⊥
from_other kernel one n e = cc (n, or_left (one.from == kernel) ((one.to == kernel) || (target one.body == kernel)) (eq-eqb one.from kernel e))

pub con_of : (z : Setting) (v : View) → FlatStamps v → (f : StandsFor z v) → Con z f.stood v
con_of z v stamps f = record {
  stands = f.stands;
  good = good_there;
  carried = λ kernel i one m. by_test kernel i one m (about kernel one) refl;
  low = λ kernel i. low_current v stamps kernel i;
}
  where
    good_there : (kernel : ℕ) → IsClient (length v.clients) kernel → GoodBlocks z f.stood kernel v.version (client v kernel) (seat v kernel).opened (things v)
    good_there kernel i =
        let g : Good z f.stood (at_kernel v kernel) = (f.each kernel i).good in
        good_calls z f.stood kernel v.version (client v kernel) (at_kernel v kernel).opened (seat v kernel).opened (at_kernel v kernel).calls (things v) (record {
          engaged_size = g.engaged_size;
          engaged = g.engaged;
          fetched = g.fetched;
          kept = λ o k. g.kept o (elim k [
            | inl x ↦ inl (record { call = x.call; grant = x.grant; is_newer = x.is_newer; on = x.on; same = x.same })
            | inr x ↦ inr (record { none = x.none; counts = x.counts })
          ]);
        }) (near_ways v kernel).arrivals (λ x. x) (λ one m. near kernel one m (about kernel one) refl)
      where
        near : (k : ℕ) (one : FileCall) → In one (things v) → (b : Bool) → about k one ≡ b → Told one (at_kernel v k).calls ⊎ RightFetch z f.stood k (client v k).stamp one
        near k one m true e = inl (told_self one (at_kernel v k).calls (filter_in (about k) one (things v) m e))
        near k one m false e = inr (fetch_other z f.stood k (client v k).stamp one e)

    by_test : (kernel : ℕ) → IsClient (length v.clients) kernel → (one : FileCall) → In one (things v) → (b : Bool) → about kernel one ≡ b → CarriedCall z kernel (current_stamp v kernel) (client v kernel) v.bytes one
    by_test kernel i one m false e = carried_none z kernel (current_stamp v kernel) (client v kernel) v.bytes one (λ block size piece w. from_other kernel one e w.from_kernel) (λ block size piece w. from_other kernel one e w.from_kernel)
    by_test kernel i one m true e =
        let n : In one (at_kernel v kernel).calls = filter_in (about kernel) one (things v) m e in
        let k = (f.each kernel i).carried in
        record { whole_block = k.whole_block one n; stores = k.stores one n; done = k.done one n; fits = k.fits one n }

-- nothing entered so far
abbrev pub nothing_yet : List ℕ → Noted
nothing_yet bytes = record { bytes = bytes; right = true }

all_of : (z : Setting) (v : View) → 0 < z.block → Shapes v → Streams v → Stamps v → Decisions z v → Modes v → Holders v → EachAsks z v → EachWritesBack z v → EachSize z v → (c : StandsFor z v) → All z (nothing_yet c.stood) v
all_of z v l s r p d m h a w f c = let t : Full z v = full_of z v s r p d m h a w f in record { positive = l; full = t; has = record { right = refl; con = con_of z v t.standing.stamps c } }

pub steps_change_bytes : (z : Setting) (v : View) (step : FileStep) → 0 < z.block → Shapes v → Streams v → Stamps v → Decisions z v → Modes v → Holders v → EachAsks z v → EachWritesBack z v → EachSize z v → (c : StandsFor z v) → Has z (noted (note z) (nothing_yet c.stood) (entered z v step)) (stepped z v step)
steps_change_bytes z v step l s r p d m h a w f c = choose_two (λ es u. Has z (noted (note z) (nothing_yet c.stood) es) u) (possible z v step) (enters_after z v step) (after z v step) [] v
    (λ e. notes_after z Noted (note z) MayWork (All z) (Working z) (Has z) (contents_parts z) (nothing_yet c.stood) v step (and_parts (has_room v) (may_do z v step) e).1 (all_of z v l s r p d m h a w f c))
    (λ e. (all_of z v l s r p d m h a w f c).has)

pub moves_change_bytes : (z : Setting) (v : View) (other : ClientMove) → may_move z v other ≡ true → 0 < z.block → Shapes v → Streams v → Stamps v → Decisions z v → Modes v → Holders v → EachAsks z v → EachWritesBack z v → EachSize z v → (c : StandsFor z v) → Has z (noted (note z) (nothing_yet c.stood) (enters_move z v other)) (after_move z v other)
moves_change_bytes z v other e l s r p d m h a w f c = notes_move z Noted (note z) MayWork (All z) (Working z) (Has z) (contents_parts z) (nothing_yet c.stood) v other e (all_of z v l s r p d m h a w f c)

pub steps_keep_contents : (z : Setting) (v : View) (step : FileStep) → 0 < z.block → Shapes v → Streams v → Stamps v → Decisions z v → Modes v → Holders v → EachAsks z v → EachWritesBack z v → EachSize z v → StandsFor z v → StandsFor z (stepped z v step)
steps_keep_contents z v step l s r p d m h a w f c = (stands_at z (noted (note z) (nothing_yet c.stood) (entered z v step)) (stepped z v step) (steps_change_bytes z v step l s r p d m h a w f c)).0

pub moves_keep_contents : (z : Setting) (v : View) (other : ClientMove) → may_move z v other ≡ true → 0 < z.block → Shapes v → Streams v → Stamps v → Decisions z v → Modes v → Holders v → EachAsks z v → EachWritesBack z v → EachSize z v → StandsFor z v → StandsFor z (after_move z v other)
moves_keep_contents z v other e l s r p d m h a w f c = (stands_at z (noted (note z) (nothing_yet c.stood) (enters_move z v other)) (after_move z v other) (moves_change_bytes z v other e l s r p d m h a w f c)).0

-- a new file
pub new_stands_at : (z : Setting) (count : ℕ) (bytes : List ℕ) → (f : StandsFor z (new_view count bytes)) × (f.stood ≡ bytes)
new_stands_at z count bytes = (
  record {
    stood = bytes;
    stands = record {
      dirty_size = λ kernel i one m d. absurd (subst (In one) (ap (λ (c : Client). c.blocks) (is_new kernel i)) m);
      flushed_size = λ one m. absurd m;
      flushed_part = λ one m. absurd m;
      rest = λ number. inr (inr refl);
      size = inr (inr refl);
    };
    each = λ kernel i. record {
      good = record {
        engaged_size = λ o. absurd (off kernel i o);
        engaged = λ o. absurd (off kernel i o);
        fetched = λ one m. absurd m;
        kept = λ o. absurd (off kernel i o);
      };
      carried = record { whole_block = λ one m. absurd m; stores = λ one m. absurd m; done = λ one m. absurd m; fits = λ one m. absurd m };
    };
  },
  refl,
)
  where
    is_new : (kernel : ℕ) → IsClient (length (new_view count bytes).clients) kernel → client (new_view count bytes) kernel ≡ new_client
    is_new kernel i = client_new count bytes kernel (subst (λ n. IsClient n kernel) (count_new count bytes) i)

    off : (kernel : ℕ) → IsClient (length (new_view count bytes).clients) kernel → is_on (client (new_view count bytes) kernel).mode ≡ true → ⊥
    off kernel i o = cc (o, ap (λ (c : Client). is_on c.mode) (is_new kernel i))

pub new_has_contents : (z : Setting) (count : ℕ) (bytes : List ℕ) → StandsFor z (new_view count bytes)
new_has_contents z count bytes = (new_stands_at z count bytes).0
