-- What blocks contain, the eighth layer of soundness, under all steps and moves, and of a new file.
use Rattle.std.proofs.Common.{◌≡◌, ◌≢◌, ◌≤◌, ◌<◌, ◌⊎◌, ℕ, ◌+◌, ◌-◌, ◌*◌, ◌/◌, ◌==◌, nat_lt, Bool, true, false, cond, is_some, List, [], ◌∷◌, ◌++◌, length, Option, Some, None, refl, sym, ap, ◌∙◌, subst, inl, inr, arith, eqb-true, eq-eqb, le_refl}
use Rattle.std.proofs.lemmas.Bool.{and_from, ltb-true}
use Rattle.sprite_ids.specs.declared.BlockNo.{BlockNo}
use Rattle.sprite_ids.specs.declared.StreamNo.{StreamNo}
use Rattle.file_views.specs.declared.grant.FileGrant.{FileGrant}
use Rattle.file_views.specs.declared.body.FileBody.{FileBody}
use Rattle.file_views.specs.declared.body.FileBody.TheVariants as form
use Rattle.file_views.specs.declared.opens.Open.{Open}
use Rattle.file_views.specs.declared.client.Client.{Client}
use Rattle.file_views.specs.declared.call.FileCall.{FileCall}
use Rattle.file_views.specs.declared.step.FileStep.{FileStep}
use Rattle.file_views.specs.declared.step.FileStep.TheVariants as act
use Rattle.file_views.specs.declared.view.View.{View}
use Rattle.file_views.specs.Setting.{Setting}
use Rattle.file_views.specs.Contents.{numbers_from, blocks_between}
use Rattle.file_views.specs.Streams.{has_stream}
use Rattle.file_views.specs.Clients.{is_on, held, missing, first_absent, blocks_written, write_cached, done_cached}
use Rattle.file_views.specs.Views.{server, client, set_client, current_stamp, is_holder, things, new_call, begin}
use Rattle.file_views.specs.Data.{op_of, enter_cached}
use Rattle.file_views.specs.Moves.{is_data, is_fetch}
use Rattle.file_views.specs.Settled.{arrival}
use Rattle.file_views.specs.Here.{In, IsClient, Arrives, Answered, request_stamp}
use Rattle.file_views.specs.SoundShapes.{writes_back}
use Rattle.file_views.specs.SoundStreams.{is_writing}
use Rattle.file_views.specs.SoundHolders.{Installed, Engaged, Ready}
use Rattle.file_views.specs.SoundRequests.{Present}
use Rattle.file_views.specs.SoundContents.{HasOpen}
use Rattle.file_views.proofs.MemberLaws.{in_filter, filter_in, in_left, in_last}
use Rattle.file_views.proofs.EffectLaws.{by_kernel, count_set, client_set, client_other, things_begin}
use Rattle.file_views.proofs.CountLaws.{has_some}
use Rattle.file_views.proofs.OpenLaws.{OpenAt, open_there}
use Rattle.file_views.proofs.ShapeLaws.{Flat}
use Rattle.file_views.proofs.StreamLaws.{FlatStreams}
use Rattle.file_views.proofs.StampLaws.{own_stamp, FlatStamps}
use Rattle.file_views.proofs.StampChangeLaws.{stamps_client, stamps_begin}
use Rattle.file_views.proofs.ModeServeLaws.{OpenFor, arrival_there}
use Rattle.file_views.proofs.DataLaws.{op_no_call, alike_done}
use Rattle.file_views.proofs.HolderLaws.{Arrivals, seat, FlatHolders}
use Rattle.file_views.proofs.HolderChangeLaws.{arrivals_begin}
use Rattle.file_views.proofs.HolderSettleLaws.{holder_is}
use Rattle.file_views.proofs.HolderDataLaws.{WriterAt, Able, able_begin, able_client, holders_enter, holders_wait, holders_send_op, holders_fetch}
use Rattle.file_views.proofs.HolderStepLaws.{Whole}
use Rattle.file_views.proofs.AskingLaws.{done_absent}
use Rattle.file_views.proofs.AskingStepLaws.{FlatAsking}
use Rattle.file_views.proofs.AskingMoveLaws.{Asks}
use Rattle.file_views.specs.Contents.{overlay}
use Rattle.file_views.specs.Entries.{cached_reply}
use Rattle.file_views.proofs.ReplyLaws.{read_cached, reading_right, overlay_end, append_right}
use Rattle.file_views.proofs.WorkLaws.{WorkNotes}
use Rattle.file_views.proofs.WritingLaws.{keeps_write}
use Rattle.file_views.proofs.WritingStepLaws.{numbers_under}
use Rattle.file_views.proofs.SizeLaws.{told_self}
use Rattle.file_views.proofs.SizeMoveLaws.{Full, Sizing, sizes_works}
use Rattle.file_views.proofs.ContentLaws.{GoodBlocks, old_self, good_client, CarriedCall, carried_none, carried_client}
use Rattle.file_views.proofs.ContentViewLaws.{Con, Noted, note, Has, NewCall, con_calls, con_set, Leans}
use Rattle.file_views.proofs.ContentServeLaws.{waiting_open}
use Rattle.file_views.proofs.ContentWriteLaws.{con_write}

-- all that a step leans on
pub record All (z : Setting) (had : Noted) (v : View) : Type 0 where
  pub positive : 0 < z.block
  pub full : Full z v
  pub has : Has z had v

pub leans_of : (z : Setting) (v : View) → Full z v → Leans z v
leans_of z v t = record { flat = t.standing.flat; holders = t.holders; sizes = t.sizes }

pub whole_of : (z : Setting) (v : View) → Full z v → Whole z v
whole_of z v t = record { standing = t.standing; holders = t.holders }

pub asks_of : (z : Setting) (v : View) → Full z v → Asks z v
asks_of z v t = record { flat = t.standing.flat; stamps = t.standing.stamps; asking = t.asking }

-- who has a stream, a grant on its way, or a block that came, has the file open
pub record OpenFacts (z : Setting) (v : View) : Type 0 where
  pub installed : (kernel : ℕ) → IsClient (length v.clients) kernel → (stream : StreamNo) → has_stream stream (client v kernel).streams ≡ true → HasOpen (seat v kernel).opened
  pub comes : (kernel : ℕ) → IsClient (length v.clients) kernel → (one : FileCall) → In one (things v) → (grant : FileGrant) → Arrives kernel one grant → HasOpen (seat v kernel).opened
  pub fetched : (kernel : ℕ) → IsClient (length v.clients) kernel → (one : FileCall) → In one (things v) → one.from ≡ kernel → (stamp : ℕ) (block : BlockNo) → one.body ≡ form.Fetch stamp block → stamp ≡ own_stamp v kernel → is_some one.reply ≡ true → ((held (client v kernel).blocks block.0 ≡ None) × (block.0 * z.block < (client v kernel).size)) × HasOpen (seat v kernel).opened

open_at : {stream : StreamNo} (v : View) (kernel : ℕ) → OpenAt stream kernel v.opens → HasOpen (seat v kernel).opened
open_at v kernel o = record { one = o.one; there = filter_in (λ (y : Open). y.kernel == kernel) o.one v.opens o.there (eq-eqb o.one.kernel kernel o.kernel_is) }

pub open_facts : (z : Setting) (v : View) → Flat v → FlatStreams v → FlatAsking z v → OpenFacts z v
open_facts z v flat streams asking = record {
  installed = λ kernel i stream h. (let a = streams.counts kernel i stream in let b = has_some stream (client v kernel).streams h in open_at v kernel (open_there stream kernel v.opens (omega (arith, a, b))));
  comes = λ kernel i one m grant a. (let o : OpenFor v kernel one = arrival_there v flat streams one m kernel grant a in open_at v kernel o.at);
  fetched = λ kernel i one m f stamp block q s r. (((asking kernel i).fetch_absent one m f stamp block q s, (asking kernel i).fetch_within one m f stamp block q s), (let w = waiting_open v flat streams kernel i ((asking kernel i).fetch_waits one m f (ap is_fetch q)) in open_at v kernel w.1));
}

open_client : (z : Setting) (v : View) (kernel : ℕ) (d : Client) → OpenFacts z v → IsClient (length v.clients) kernel → d.stamp ≡ (client v kernel).stamp → d.streams ≡ (client v kernel).streams → ((number : ℕ) → held (client v kernel).blocks number ≡ None → number * z.block < (client v kernel).size → (held d.blocks number ≡ None) × (number * z.block < d.size)) → OpenFacts z (set_client v kernel d)
open_client z v kernel d o i s e a = record {
  installed = λ other j. by_kernel (λ k. IsClient (length v.clients) k → (stream : StreamNo) → has_stream stream (client (set_client v kernel d) k).streams ≡ true → HasOpen (seat v k).opened) kernel other
      (λ n stream h. o.installed kernel n stream (ap (has_stream stream) (sym (ap (λ (x : Client). x.streams) (client_set v kernel d i) ∙ e)) ∙ h))
      (λ p n stream h. o.installed other n stream (ap (λ (x : Client). has_stream stream x.streams) (sym (client_other v kernel other d i.0 n.0 p)) ∙ h)) (within other j);
  comes = λ other j. o.comes other (within other j);
  fetched = λ other j one m. by_kernel (λ k. IsClient (length v.clients) k → one.from ≡ k → (stamp : ℕ) (block : BlockNo) → one.body ≡ form.Fetch stamp block → stamp ≡ (client (set_client v kernel d) k).stamp → is_some one.reply ≡ true → ((held (client (set_client v kernel d) k).blocks block.0 ≡ None) × (block.0 * z.block < (client (set_client v kernel d) k).size)) × HasOpen (seat v k).opened) kernel other
      (λ n f stamp block q t r. (let x = o.fetched kernel n one m f stamp block q (t ∙ ap (λ (y : Client). y.stamp) (client_set v kernel d i) ∙ s) r in (subst (λ (y : Client). (held y.blocks block.0 ≡ None) × (block.0 * z.block < y.size)) (sym (client_set v kernel d i)) (a block.0 x.0.0 x.0.1), x.1)))
      (λ p n f stamp block q t r. (let x = o.fetched other n one m f stamp block q (t ∙ ap (λ (y : Client). y.stamp) (client_other v kernel other d i.0 n.0 p)) r in (subst (λ (y : Client). (held y.blocks block.0 ≡ None) × (block.0 * z.block < y.size)) (sym (client_other v kernel other d i.0 n.0 p)) x.0, x.1))) (within other j);
}
  where
    within : (other : ℕ) → IsClient (length (set_client v kernel d).clients) other → IsClient (length v.clients) other
    within other j = subst (λ n. IsClient n other) (count_set v kernel d) j

open_begin : (z : Setting) (v : View) (kernel : ℕ) (body : FileBody) (dirty : Option ℕ) → OpenFacts z v → OpenFacts z (begin v kernel server body dirty)
open_begin z v kernel body dirty o = record {
  installed = o.installed;
  comes = λ other i one m grant a. elim (last one m) [ inl k ↦ o.comes other i one k grant a | inr e ↦ absurd (cc (a.1, ap (λ (x : FileCall). arrival x.reply) e)) ];
  fetched = λ other i one m f stamp block q s r. elim (last one m) [ inl k ↦ o.fetched other i one k f stamp block q s r | inr e ↦ absurd (cc (r, ap (λ (x : FileCall). is_some x.reply) e)) ];
}
  where
    last : (one : FileCall) → In one (things (begin v kernel server body dirty)) → In one (things v) ⊎ (one ≡ new_call v kernel server body dirty)
    last one m = in_last one (new_call v kernel server body dirty) (things v) (subst (In one) (things_begin v kernel server body dirty) m)

-- a request begins
pub con_begin : (z : Setting) (stood : List ℕ) (v : View) (kernel : ℕ) (body : FileBody) (dirty : Option ℕ) → Con z stood v → IsClient (length v.clients) kernel → ((other : ℕ) → IsClient (length v.clients) other → CarriedCall z other (current_stamp v other) (client v other) v.bytes (new_call v kernel server body dirty)) → ((stamp : ℕ) → request_stamp body ≡ Some stamp → stamp ≤ current_stamp v kernel) → Con z stood (begin v kernel server body dirty)
con_begin z stood v kernel body dirty con i k l = con_calls z stood v (begin v kernel server body dirty) con (record {
  clients = refl;
  bytes = refl;
  version = refl;
  stamps = λ other. le_refl (current_stamp v other);
  opens = λ other h. h;
  arrivals = λ other j. subst (Arrivals other (own_stamp v other) (things v)) (sym now) (arrivals_begin other (own_stamp v other) (things v) new refl);
  told = λ x m. elim (in_last x new (things v) (subst (In x) now m)) [ inl j ↦ inl (told_self x (things v) j) | inr e ↦ inr (subst (NewCall z stood v) (sym e) fresh) ];
  flushes = λ x m size blocks r. subst (In x) (sym now) (in_left x (things v) (new ∷ []) m);
})
  where
    new : FileCall
    new = new_call v kernel server body dirty

    now : things (begin v kernel server body dirty) ≡ things v ++ new ∷ []
    now = things_begin v kernel server body dirty

    fresh : NewCall z stood v new
    fresh = record {
      no_flush = λ size blocks r. cc (r);
      fetch = λ other j e stamp block q s x piece r. absurd (cc (r));
      carried = k;
      low = λ other j e stamp q. subst (λ n. stamp ≤ current_stamp v n) e (l stamp q);
    }

con_plain : (z : Setting) (stood : List ℕ) (v : View) (kernel : ℕ) (body : FileBody) (dirty : Option ℕ) → Con z stood v → IsClient (length v.clients) kernel → writes_back body ≡ false → ((stamp : ℕ) → request_stamp body ≡ Some stamp → stamp ≤ current_stamp v kernel) → Con z stood (begin v kernel server body dirty)
con_plain z stood v kernel body dirty con i n l = con_begin z stood v kernel body dirty con i (λ other j. carried_none z other (current_stamp v other) (client v other) v.bytes (new_call v kernel server body dirty) (λ block size piece w. let q = w.is_write_back in cc (n, ap writes_back q)) (λ block size piece w. let q = w.is_write_back in cc (n, ap writes_back q))) l

pub has_plain : (z : Setting) (had : Noted) (v : View) (kernel : ℕ) (body : FileBody) (dirty : Option ℕ) → Has z had v → IsClient (length v.clients) kernel → writes_back body ≡ false → ((stamp : ℕ) → request_stamp body ≡ Some stamp → stamp ≤ current_stamp v kernel) → Has z had (begin v kernel server body dirty)
has_plain z had v kernel body dirty h i n l = record { right = h.right; con = con_plain z had.bytes v kernel body dirty h.con i n l }

-- a client whose blocks and size stay
pub has_same : (z : Setting) (had : Noted) (v : View) (kernel : ℕ) (d : Client) → Has z had v → IsClient (length v.clients) kernel → d.stamp ≡ (client v kernel).stamp → d.version ≡ (client v kernel).version → d.mode ≡ (client v kernel).mode → d.size ≡ (client v kernel).size → d.blocks ≡ (client v kernel).blocks → (Installed d.streams → Engaged kernel (own_stamp v kernel) (client v kernel).streams (things v)) → Has z had (set_client v kernel d)
has_same z had v kernel d h i s a m e b k = record {
  right = h.right;
  con = con_set z had.bytes v kernel d h.con i (record {
    stand = record {
      size = λ one n q. e ∙ h.con.stands.dirty_size kernel i one (subst (In one) b n) q;
      stays = λ one n q. inl (one, (subst (In one) (sym b) n, (q, refl)));
      some = λ one n q. inl (record { one = one; there = subst (In one) (sym b) n; dirty = q });
    };
    good = good_client z had.bytes kernel v.version (client v kernel) d (seat v kernel).opened (things v) (h.con.good kernel i) s a m e k (λ one n. inl (old_self one (client v kernel).blocks (subst (In one) b n)));
    carried = λ one n. carried_client z kernel (current_stamp v kernel) (client v kernel) d v.bytes one (h.con.carried kernel i one n) s (λ f number there p. subst (λ xs. Present xs number one.dirty there) b p);
  });
}

-- what is kept while a client works
pub record Working (z : Setting) (had : Noted) (v : View) : Type 0 where
  pub positive : 0 < z.block
  pub stamps : FlatStamps v
  pub sizing : Sizing z v
  pub holders : FlatHolders v
  pub opened : OpenFacts z v
  pub has : Has z had v

abbrev pub MayWork : View → ℕ → FileStep → Type 0
MayWork v kernel s = (is_data s ≡ true) × Able v kernel (s ∷ []) × Installed (client v kernel).streams

-- nobody beside the holder has a stream to work with, or blocks that count
idle_good : (z : Setting) (had : Noted) (v : View) → Working z had v → (kernel : ℕ) → v.holder ≡ Some kernel → (other : ℕ) → IsClient (length v.clients) other → other ≢ kernel → (stood : List ℕ) → GoodBlocks z stood other v.version (client v other) (seat v other).opened (things v)
idle_good z had v p kernel h other i d stood = record {
  engaged_size = λ o e. absurd (closed (engaged_open e));
  engaged = λ o e. absurd (closed (engaged_open e));
  fetched = λ one m f stamp block q s x piece r. absurd (closed (p.opened.fetched other i one m f stamp block q s (ap is_some r)).1);
  kept = λ o k. absurd (elim k [
    | inl y ↦ closed (p.opened.comes other i y.call y.is_newer.0 y.grant y.is_newer.1)
    | inr y ↦ elim y.counts [ inl w ↦ closed w | inr e ↦ (let l = p.holders.stale kernel h other i d o in omega (arith, l, e)) ]
  ]);
}
  where
    closed : HasOpen (seat v other).opened → ⊥
    closed w = let q = in_filter (λ (y : Open). y.kernel == other) w.one v.opens w.there in d (sym (eqb-true w.one.kernel other q.1) ∙ p.holders.opens kernel h w.one q.0)

    engaged_open : Engaged other (own_stamp v other) (client v other).streams (things v) → HasOpen (seat v other).opened
    engaged_open (inl x) = p.opened.installed other i x.stream x.there
    engaged_open (inr x) = p.opened.comes other i x.call x.there x.grant x.arrives

con_written : (z : Setting) (had : Noted) (v : View) (kernel low : ℕ) (bytes : List ℕ) → Working z had v → IsClient (length v.clients) kernel → is_on (client v kernel).mode ≡ true → WriterAt (seat v kernel).opened (client v kernel).streams × (Answered kernel (things v) → ⊥) → first_absent z (client v kernel) (blocks_between z low (low + length bytes)) ≡ None → Con z (overlay had.bytes low bytes) (set_client v kernel (write_cached z (client v kernel) low bytes))
con_written z had v kernel low [] p i o w n = (has_same z had v kernel (write_cached z (client v kernel) low []) p.has i refl refl refl refl (ap (λ xs. blocks_written z (client v kernel).blocks low [] (client v kernel).count xs) (none_between (nat_lt low (low + 0)) refl)) (λ x. inl x)).con
  where
    none_between : (b : Bool) → nat_lt low (low + 0) ≡ b → cond b (numbers_from (low / z.block) ((low + 0 - 1) / z.block + 1 - low / z.block)) [] ≡ []
    none_between true e = absurd (let l = ltb-true low (low + 0) e in omega (arith, l))
    none_between false e = refl
con_written z had v kernel low (first ∷ rest) p i o w n = con_write z had.bytes v kernel low first rest p.has.con i (record {
  positive = p.positive;
  leans = record { flat = p.sizing.writes.flat; holders = p.holders; sizes = p.sizing.sizes };
  unique = (p.sizing.writes.flat.fine kernel i).owned.differ;
  ready = ready;
  unanswered = w.1;
  fetched = λ one m f stamp block q s r. (p.opened.fetched kernel i one m f stamp block q s r).0;
  idle = λ other j d after. idle_good z had v p kernel (holder_is v.holder kernel ready.holds_it) other j d after;
}) n (keeps_write z kernel (current_stamp v kernel) (client v kernel) low (first ∷ rest) (things v) (p.sizing.writes.writing kernel i) (numbers_under v kernel p.sizing.writes.flat i))
  where
    ready : Ready kernel (own_stamp v kernel) (client v kernel).version v.version (is_holder v kernel) (client v kernel).mode (things v)
    ready = (p.holders.each kernel i).writer_ready (inl o) (record { one = w.0.one; there = w.0.there; writing = w.0.writing; works = inl w.0.has })

con_self : (z : Setting) (had : Noted) (v : View) (kernel : ℕ) → Has z had v → IsClient (length v.clients) kernel → Con z had.bytes (set_client v kernel (client v kernel))
con_self z had v kernel h i = (has_same z had v kernel (client v kernel) h i refl refl refl refl refl (λ x. inl x)).con

-- what enters in a cache
has_enter : (z : Setting) (had : Noted) (v : View) (kernel : ℕ) (step : FileStep) → Working z had v → IsClient (length v.clients) kernel → is_on (client v kernel).mode ≡ true → missing z (client v kernel) step ≡ None → is_data step ≡ true → Installed (client v kernel).streams → (is_writing step ≡ true → WriterAt (seat v kernel).opened (client v kernel).streams × (Answered kernel (things v) → ⊥)) → Has z (note z had (record { kernel = kernel; step = step; reply = cached_reply z v kernel step })) (enter_cached z v kernel step)
has_enter z had v kernel (act.Writing pid number place stream from bytes) p i o n d x w = record { right = and_from had.right true p.has.right refl; con = con_written z had v kernel from bytes p i o (w refl) n }
has_enter z had v kernel (act.Append pid number place stream bytes) p i o n d x w = record {
  right = and_from had.right _ p.has.right (append_right z v kernel had.bytes pid number place stream bytes size);
  con = by_size (nat_lt z.most ((client v kernel).size + length bytes)) refl n;
}
  where
    size : (client v kernel).size ≡ length had.bytes
    size = (p.has.con.good kernel i).engaged_size o (inl x)

    ends : overlay had.bytes (client v kernel).size bytes ≡ had.bytes ++ bytes
    ends = ap (λ k. overlay had.bytes k bytes) size ∙ overlay_end had.bytes bytes

    by_size : (b : Bool) → nat_lt z.most ((client v kernel).size + length bytes) ≡ b → cond b None (first_absent z (client v kernel) (blocks_between z (client v kernel).size ((client v kernel).size + length bytes))) ≡ None → Con z (cond (nat_lt z.most (length had.bytes + length bytes)) had.bytes (had.bytes ++ bytes)) (set_client v kernel (cond b (client v kernel) (write_cached z (client v kernel) (client v kernel).size bytes)))
    by_size true q e = subst (λ k. Con z (cond (nat_lt z.most (k + length bytes)) had.bytes (had.bytes ++ bytes)) (set_client v kernel (client v kernel))) size (subst (λ c. Con z (cond c had.bytes (had.bytes ++ bytes)) (set_client v kernel (client v kernel))) (sym q) (con_self z had v kernel p.has i))
    by_size false q e = subst (λ k. Con z (cond (nat_lt z.most (k + length bytes)) had.bytes (had.bytes ++ bytes)) (set_client v kernel (write_cached z (client v kernel) (client v kernel).size bytes))) size (subst (λ c. Con z (cond c had.bytes (had.bytes ++ bytes)) (set_client v kernel (write_cached z (client v kernel) (client v kernel).size bytes))) (sym q) (subst (λ xs. Con z xs (set_client v kernel (write_cached z (client v kernel) (client v kernel).size bytes))) ends (con_written z had v kernel (client v kernel).size bytes p i o (w refl) e)))
has_enter z had v kernel (act.Reading pid number place stream from many) p i o n d x w = record {
  right = and_from had.right _ p.has.right (reading_right z v kernel had.bytes pid number place stream from many (read_cached z (client v kernel) had.bytes from many p.positive ((p.has.con.good kernel i).engaged_size o (inl x)) (λ one m. (p.has.con.good kernel i).engaged o (inl x) one m) n));
  con = con_self z had v kernel p.has i;
}
has_enter z had v kernel step p i o n d x w = absurd (cc (d))

op_stamp : (stamp : ℕ) (step : FileStep) (n : ℕ) → request_stamp (op_of stamp step) ≡ Some n → n ≤ stamp
op_stamp stamp (act.Reading p k m s from many) n e = let q : stamp ≡ n = cc (e) in omega (arith, q)
op_stamp stamp (act.Writing p k m s from bytes) n e = let q : stamp ≡ n = cc (e) in omega (arith, q)
op_stamp stamp (act.Append p k m s bytes) n e = let q : stamp ≡ n = cc (e) in omega (arith, q)
op_stamp stamp step n e = absurd (cc (e))

op_writes_none : (stamp : ℕ) (step : FileStep) → writes_back (op_of stamp step) ≡ false
op_writes_none stamp (act.Reading pid number kernel stream from many) = refl
op_writes_none stamp (act.Writing pid number kernel stream from bytes) = refl
op_writes_none stamp (act.Append pid number kernel stream bytes) = refl
op_writes_none stamp step = refl

fetch_stamp : (stamp : ℕ) (block : BlockNo) (n : ℕ) → request_stamp (form.Fetch stamp block) ≡ Some n → n ≤ stamp
fetch_stamp stamp block n e = let q : stamp ≡ n = cc (e) in omega (arith, q)

pub contents_work : (z : Setting) → WorkNotes z Noted (note z) MayWork (Working z)
contents_work z = record {
  waits = λ had v kernel waiting p i q. record {
    positive = p.positive;
    stamps = stamps_client v kernel (record (client v kernel) { waiting = waiting }) p.stamps i refl;
    sizing = (sizes_works z).waits v kernel waiting p.sizing i (λ s m. elim (q s m) [ inl k ↦ inl k | inr k ↦ inr k.0 ]);
    holders = holders_wait v kernel waiting i p.holders;
    opened = open_client z v kernel (record (client v kernel) { waiting = waiting }) p.opened i refl refl (λ n h l. (h, l));
    has = has_same z had v kernel (record (client v kernel) { waiting = waiting }) p.has i refl refl refl refl refl (λ x. inl x);
  };
  enters = λ had v kernel step p i o n q. record {
    positive = p.positive;
    stamps = stamps_client v kernel (done_cached z (client v kernel) step) p.stamps i (alike_done z (client v kernel) step).stamp;
    sizing = (sizes_works z).enters v kernel step p.sizing i o n q.0;
    holders = holders_enter z v kernel step i p.holders o (λ w. q.1 step (inl refl) w o);
    opened = open_client z v kernel (done_cached z (client v kernel) step) p.opened i (alike_done z (client v kernel) step).stamp (alike_done z (client v kernel) step).streams (λ m h l. done_absent z (client v kernel) step n m h l);
    has = has_enter z had v kernel step p i o n q.0 q.2 (λ w. q.1 step (inl refl) w o);
  };
  operates = λ had v kernel step p i q. record {
    positive = p.positive;
    stamps = stamps_begin v kernel server (op_of (client v kernel).stamp step) None p.stamps (op_no_call (client v kernel).stamp step) (λ n e. op_stamp (client v kernel).stamp step n e);
    sizing = (sizes_works z).operates v kernel step p.sizing i q.0;
    holders = holders_send_op v kernel step p.holders;
    opened = open_begin z v kernel (op_of (client v kernel).stamp step) None p.opened;
    has = has_plain z had v kernel (op_of (client v kernel).stamp step) None p.has i (op_writes_none (client v kernel).stamp step) (λ n e. let a = op_stamp (client v kernel).stamp step n e in let b = p.stamps.own_below kernel i in omega (arith, a, b));
  };
  still_waits = λ v kernel waiting s i q. (q.0, able_client v kernel (record (client v kernel) { waiting = waiting }) (s ∷ []) i refl refl q.1, subst (λ (c : Client). Installed c.streams) (sym (client_set v kernel (record (client v kernel) { waiting = waiting }) i)) q.2);
  still_enters = λ v kernel step s i q. (q.0, able_client v kernel (done_cached z (client v kernel) step) (s ∷ []) i (alike_done z (client v kernel) step).mode (alike_done z (client v kernel) step).streams q.1, subst (λ (c : Client). Installed c.streams) (sym (client_set v kernel (done_cached z (client v kernel) step) i)) (subst Installed (sym (alike_done z (client v kernel) step).streams) q.2));
  still_operates = λ v kernel step s q. (q.0, able_begin v kernel kernel (op_of (client v kernel).stamp step) None (s ∷ []) (op_no_call (client v kernel).stamp step) q.1, q.2);
  fetches = λ had v kernel number p i. record {
    positive = p.positive;
    stamps = stamps_begin v kernel server (form.Fetch (client v kernel).stamp (record { 0 = number })) None p.stamps refl (λ n e. fetch_stamp (client v kernel).stamp (record { 0 = number }) n e);
    sizing = (sizes_works z).fetches v kernel number p.sizing i;
    holders = holders_fetch v kernel number p.holders;
    opened = open_begin z v kernel (form.Fetch (client v kernel).stamp (record { 0 = number })) None p.opened;
    has = has_plain z had v kernel (form.Fetch (client v kernel).stamp (record { 0 = number })) None p.has i refl (λ n e. let a = fetch_stamp (client v kernel).stamp (record { 0 = number }) n e in let b = p.stamps.own_below kernel i in omega (arith, a, b));
  };
}
