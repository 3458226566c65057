-- The sixth layer of soundness where a client reads, writes and appends, and where it takes a callback.
use Rattle.std.proofs.Common.{◌≡◌, ◌≢◌, ◌≤◌, ◌<◌, ℕ, ◌+◌, ◌==◌, nat_lt, Bool, true, false, cond, List, [], ◌∷◌, ◌++◌, length, filter, Option, Some, None, is_some, refl, sym, ap, ap₂, ◌∙◌, subst, inl, inr, arith, eqb-true, eq-eqb}
use Rattle.std.proofs.lemmas.Bool.Decides.{eqb_tells}
use Rattle.sprite_ids.specs.declared.BlockNo.{BlockNo}
use Rattle.sprite_ids.specs.declared.StreamNo.{StreamNo}
use Rattle.sprite_ids.specs.declared.CacheMode.{CacheMode}
use Rattle.sprite_ids.specs.declared.CallKind.{CallKind}
use Rattle.sprite_ids.specs.declared.CallKind.TheVariants.{Recall, Stop}
use Rattle.file_views.specs.declared.body.FileBody.{FileBody}
use Rattle.file_views.specs.declared.body.FileBody.TheVariants as form
use Rattle.file_views.specs.declared.opens.Open.{Open}
use Rattle.file_views.specs.declared.client.Held.{Held}
use Rattle.file_views.specs.declared.client.Client.{Client}
use Rattle.file_views.specs.declared.call.FileCall.{FileCall}
use Rattle.file_views.specs.declared.step.FileStep.{FileStep}
use Rattle.file_views.specs.declared.step.FileStep.TheVariants as act
use Rattle.file_views.specs.declared.view.View.{View}
use Rattle.file_views.specs.Setting.{Setting}
use Rattle.file_views.specs.Streams.{has_stream, writes}
use Rattle.file_views.specs.Clients.{is_on, mode_after, cleaned, blocks_after, take_callback, missing, write_cached, done_cached}
use Rattle.file_views.specs.Views.{server, client, set_client, current_stamp, mode_given, is_holder, is_callback, things, new_call, begin, replied, answer, with_call}
use Rattle.file_views.specs.Grants.{receiver}
use Rattle.file_views.specs.Data.{op_of, send_op, send_fetch, enter_cached, queue, wait_for, started, start_data, unqueue, or_zero, advance, look}
use Rattle.file_views.specs.Possible.{works_on}
use Rattle.file_views.specs.Settled.{arrival}
use Rattle.file_views.specs.Here.{In, IsClient, Answered}
use Rattle.file_views.specs.SoundStreams.{is_writing}
use Rattle.file_views.specs.SoundHolders.{Ready, LocalHolders}
use Rattle.file_views.proofs.MemberLaws.{Made, in_last, in_filter, filter_in, in_with, with_new, in_map}
use Rattle.file_views.proofs.EffectLaws.{by_kernel, count_set, client_set, client_other, things_begin, things_with, call_in_things}
use Rattle.file_views.proofs.ClientLaws.{choose}
use Rattle.file_views.proofs.CountLaws.{same_self, has_some}
use Rattle.file_views.proofs.OpenLaws.{OpenAt, open_there}
use Rattle.file_views.proofs.ShapeLaws.{Flat}
use Rattle.file_views.proofs.ShapeStepLaws.{still_client}
use Rattle.file_views.proofs.StreamLaws.{StepOpen, FlatStreams}
use Rattle.file_views.proofs.StampLaws.{own_stamp, FlatStamps, only_call}
use Rattle.file_views.proofs.DataLaws.{op_no_call, alike_done}
use Rattle.file_views.proofs.DecisionLaws.{FlatDecisions}
use Rattle.file_views.proofs.DecisionServeLaws.{first_waits}
use Rattle.file_views.proofs.ModeServeLaws.{unreplied}
use Rattle.file_views.proofs.HolderLaws.{Ways, SameOpen, holders_ways, holders_written, DirtyIn, seat, FlatHolders}
use Rattle.file_views.proofs.HolderTakeLaws.{holders_flushed}
use Rattle.file_views.proofs.HolderChangeLaws.{ways_begin, ways_answer, holders_calls, holders_set, holders_mild}
use Rattle.file_views.proofs.HolderSettleLaws.{left_of, adds, alone_by}
use Rattle.file_views.proofs.HolderCallLaws.{stays_installed, left_shares}

-- an open for writing whose stream is installed
pub record WriterAt (opened : List Open) (streams : List StreamNo) : Type 0 where
  pub one : Open
  pub there : In one opened
  pub writing : writes one.mode ≡ true
  pub has : has_stream one.stream streams ≡ true

-- what writes at a kernel whose client uses its cache has such an open, and the kernel answered no callback
abbrev pub Able : View → ℕ → List FileStep → Type 0
Able v kernel waiting = (step : FileStep) → In step waiting → is_writing step ≡ true → is_on (client v kernel).mode ≡ true → WriterAt (seat v kernel).opened (client v kernel).streams × (Answered kernel (things v) → ⊥)

-- a request begins
pub holders_begin : (v : View) (source : ℕ) (body : FileBody) (dirty : Option ℕ) → is_callback body ≡ false → FlatHolders v → FlatHolders (begin v source server body dirty)
holders_begin v source body dirty c p = holders_calls v v.bytes (v.next + 1) (v.calls ++ new_call v source server body dirty ∷ []) v.carried v.uncached p (λ e. e)
    (λ kernel i. subst (Ways kernel (own_stamp v kernel) (is_holder v kernel) (things v)) (sym (things_begin v source server body dirty)) (ways_begin kernel (own_stamp v kernel) (is_holder v kernel) (things v) (new_call v source server body dirty) refl (λ b e. cc (b, c))))

pub able_begin : (v : View) (kernel source : ℕ) (body : FileBody) (dirty : Option ℕ) (waiting : List FileStep) → is_callback body ≡ false → Able v kernel waiting → Able (begin v source server body dirty) kernel waiting
able_begin v kernel source body dirty waiting c a step m w o = let p = a step m w o in (p.0, λ k. p.1 (before k))
  where
    before : Answered kernel (things (begin v source server body dirty)) → Answered kernel (things v)
    before k = elim (in_last k.call (new_call v source server body dirty) (things v) (subst (In k.call) (things_begin v source server body dirty) k.there)) [
      | inl j ↦ record { call = k.call; there = j; to_kernel = k.to_kernel; stamp = k.stamp; kind = k.kind; is_call = k.is_call; taken = k.taken }
      | inr q ↦ absurd (cc (c, ap is_callback (sym k.is_call ∙ ap (λ (x : FileCall). x.body) q)))
    ]

pub able_client : (v : View) (kernel : ℕ) (c : Client) (waiting : List FileStep) → IsClient (length v.clients) kernel → c.mode ≡ (client v kernel).mode → c.streams ≡ (client v kernel).streams → Able v kernel waiting → Able (set_client v kernel c) kernel waiting
able_client v kernel c waiting i e s a step m w o =
    let p = a step m w (ap is_on (sym e) ∙ ap (λ (x : Client). is_on x.mode) (sym (client_set v kernel c i)) ∙ o) in
    (subst (WriterAt (seat v kernel).opened) (sym (ap (λ (x : Client). x.streams) (client_set v kernel c i) ∙ s)) p.0, p.1)

pub able_rest : (v : View) (kernel : ℕ) (step : FileStep) (rest : List FileStep) → Able v kernel (step ∷ rest) → Able v kernel rest
able_rest v kernel step rest a s m = a s (inr m)

-- a write in the cache
holders_write : (v : View) (kernel : ℕ) (d : Client) → IsClient (length v.clients) kernel → FlatHolders v → d.stamp ≡ (client v kernel).stamp → d.version ≡ (client v kernel).version → d.mode ≡ (client v kernel).mode → d.streams ≡ (client v kernel).streams → is_on (client v kernel).mode ≡ true → WriterAt (seat v kernel).opened (client v kernel).streams × (Answered kernel (things v) → ⊥) → FlatHolders (set_client v kernel d)
holders_write v kernel d i p a b c e o w =
    let r : Ready kernel (own_stamp v kernel) (client v kernel).version v.version (is_holder v kernel) (client v kernel).mode (things v) = (p.each kernel i).writer_ready (inl o) (record { one = w.0.one; there = w.0.there; writing = w.0.writing; works = inl w.0.has }) in
    holders_set v kernel d p i (holders_written (seat v kernel) d (p.each kernel i) a b c e r w.1) (λ holder h q k. subst (λ n. n < v.version) (sym b) (p.stale holder h kernel i q (sym (ap is_on c) ∙ k)))

pub holders_same : (v : View) (kernel : ℕ) → IsClient (length v.clients) kernel → FlatHolders v → FlatHolders (set_client v kernel (client v kernel))
holders_same v kernel i p = holders_mild v kernel (client v kernel) p i refl refl refl (λ s h. h) (λ d. d)

pub holders_enter : (z : Setting) (v : View) (kernel : ℕ) (step : FileStep) → IsClient (length v.clients) kernel → FlatHolders v → is_on (client v kernel).mode ≡ true → (is_writing step ≡ true → WriterAt (seat v kernel).opened (client v kernel).streams × (Answered kernel (things v) → ⊥)) → FlatHolders (enter_cached z v kernel step)
holders_enter z v kernel (act.Writing pid number place stream from bytes) i p o w = holders_write v kernel (write_cached z (client v kernel) from bytes) i p refl refl refl refl o (w refl)
holders_enter z v kernel (act.Append pid number place stream bytes) i p o w = choose (λ (c : Client). FlatHolders (set_client v kernel c)) (nat_lt z.most ((client v kernel).size + length bytes)) (client v kernel) (write_cached z (client v kernel) (client v kernel).size bytes) (holders_same v kernel i p) (holders_write v kernel (write_cached z (client v kernel) (client v kernel).size bytes) i p refl refl refl refl o (w refl))
holders_enter z v kernel step i p o w = holders_same v kernel i p

pub holders_wait : (v : View) (kernel : ℕ) (waiting : List FileStep) → IsClient (length v.clients) kernel → FlatHolders v → FlatHolders (set_client v kernel (record (client v kernel) { waiting = waiting }))
holders_wait v kernel waiting i p = holders_mild v kernel (record (client v kernel) { waiting = waiting }) p i refl refl refl (λ s h. h) (λ d. d)

pub holders_queue : (v : View) (kernel : ℕ) (step : FileStep) → IsClient (length v.clients) kernel → FlatHolders v → FlatHolders (queue v kernel step)
holders_queue v kernel step i p = holders_wait v kernel ((client v kernel).waiting ++ step ∷ []) i p

pub holders_fetch : (v : View) (kernel number : ℕ) → FlatHolders v → FlatHolders (send_fetch v kernel number)
holders_fetch v kernel number p = holders_begin v kernel (form.Fetch (client v kernel).stamp (record { 0 = number })) None refl p

pub holders_send_op : (v : View) (kernel : ℕ) (step : FileStep) → FlatHolders v → FlatHolders (send_op v kernel step)
holders_send_op v kernel step p = holders_begin v kernel (op_of (client v kernel).stamp step) None (op_no_call (client v kernel).stamp step) p

holders_wait_for : (v : View) (kernel : ℕ) (step : FileStep) (number : ℕ) (waiting : List FileStep) → IsClient (length v.clients) kernel → FlatHolders v → FlatHolders (wait_for v kernel step number waiting)
holders_wait_for v kernel step number [] i p = holders_fetch (queue v kernel step) kernel number (holders_queue v kernel step i p)
holders_wait_for v kernel step number (first ∷ rest) i p = holders_queue v kernel step i p

holders_started : (z : Setting) (v : View) (kernel : ℕ) (step : FileStep) (on : Bool) (gap : Option ℕ) → is_on (client v kernel).mode ≡ on → IsClient (length v.clients) kernel → FlatHolders v → Able v kernel (step ∷ []) → FlatHolders (started z v kernel step on gap)
holders_started z v kernel step false gap e i p a = holders_send_op v kernel step p
holders_started z v kernel step true None e i p a = holders_enter z v kernel step i p e (λ w. a step (inl refl) w e)
holders_started z v kernel step true (Some number) e i p a = holders_wait_for v kernel step number (client v kernel).waiting i p

-- a reading, writing or append begins
pub holders_start : (z : Setting) (v : View) (kernel : ℕ) (step : FileStep) → IsClient (length v.clients) kernel → FlatHolders v → Able v kernel (step ∷ []) → FlatHolders (start_data z v kernel step)
holders_start z v kernel step i p a = holders_started z v kernel step (is_on (client v kernel).mode) (missing z (client v kernel) step) refl i p a

-- what waits looks again
holders_turn : (z : Setting) (step : FileStep) (rest : List FileStep) (v : View) (kernel : ℕ) (on gap : Bool) (number : ℕ) → is_on (client v kernel).mode ≡ on → FlatHolders v → IsClient (length v.clients) kernel → Able v kernel (step ∷ rest) →
    ((w : View) → FlatHolders w → IsClient (length w.clients) kernel → Able w kernel rest → FlatHolders (advance z rest w kernel)) →
    FlatHolders (cond on (cond gap (send_fetch v kernel number) (advance z rest (enter_cached z (unqueue v kernel rest) kernel step) kernel)) (advance z rest (send_op (unqueue v kernel rest) kernel step) kernel))
holders_turn z step rest v kernel true true number e p i a go = holders_fetch v kernel number p
holders_turn z step rest v kernel true false number e p i a go =
    let j : IsClient (length (unqueue v kernel rest).clients) kernel = still_client v kernel kernel _ i in
    let b : Able (unqueue v kernel rest) kernel (step ∷ rest) = able_client v kernel (record (client v kernel) { waiting = rest }) (step ∷ rest) i refl refl a in
    let o : is_on (client (unqueue v kernel rest) kernel).mode ≡ true = ap (λ (x : Client). is_on x.mode) (client_set v kernel (record (client v kernel) { waiting = rest }) i) ∙ e in
    go (enter_cached z (unqueue v kernel rest) kernel step) (holders_enter z (unqueue v kernel rest) kernel step j (holders_wait v kernel rest i p) o (λ w. b step (inl refl) w o)) (still_client (unqueue v kernel rest) kernel kernel _ j)
    (able_client (unqueue v kernel rest) kernel (done_cached z (client (unqueue v kernel rest) kernel) step) rest j (alike_done z (client (unqueue v kernel rest) kernel) step).mode (alike_done z (client (unqueue v kernel rest) kernel) step).streams (able_rest (unqueue v kernel rest) kernel step rest b))
holders_turn z step rest v kernel false gap number e p i a go =
    let j : IsClient (length (unqueue v kernel rest).clients) kernel = still_client v kernel kernel _ i in
    let b : Able (unqueue v kernel rest) kernel (step ∷ rest) = able_client v kernel (record (client v kernel) { waiting = rest }) (step ∷ rest) i refl refl a in
    go (send_op (unqueue v kernel rest) kernel step) (holders_send_op (unqueue v kernel rest) kernel step (holders_wait v kernel rest i p)) j (able_begin (unqueue v kernel rest) kernel kernel (op_of (client (unqueue v kernel rest) kernel).stamp step) None rest (op_no_call (client (unqueue v kernel rest) kernel).stamp step) (able_rest (unqueue v kernel rest) kernel step rest b))

holders_advance : (z : Setting) (waiting : List FileStep) (v : View) (kernel : ℕ) → FlatHolders v → IsClient (length v.clients) kernel → Able v kernel waiting → FlatHolders (advance z waiting v kernel)
holders_advance z [] v kernel p i a = p
holders_advance z (step ∷ rest) v kernel p i a = holders_turn z step rest v kernel (is_on (client v kernel).mode) (is_some (missing z (client v kernel) step)) (or_zero (missing z (client v kernel) step)) refl p i a (λ w q j b. holders_advance z rest w kernel q j b)

pub holders_look : (z : Setting) (v : View) (kernel : ℕ) → FlatHolders v → IsClient (length v.clients) kernel → Able v kernel (client v kernel).waiting → FlatHolders (look z v kernel)
holders_look z v kernel p i a = holders_advance z (client v kernel).waiting v kernel p i a

-- what the layers tell of a write
pub record Knowing (z : Setting) (v : View) : Type 0 where
  pub flat : Flat v
  pub streams : FlatStreams v
  pub stamps : FlatStamps v
  pub decided : FlatDecisions z v
  pub holders : FlatHolders v

open_at : (z : Setting) (v : View) → Knowing z v → (kernel : ℕ) → IsClient (length v.clients) kernel → (stream : StreamNo) → has_stream stream (client v kernel).streams ≡ true → ((o : Open) → In o v.opens → o.kernel ≡ kernel → stream ≡ o.stream → writes o.mode ≡ true) → WriterAt (seat v kernel).opened (client v kernel).streams
open_at z v t kernel i stream h f =
    let c = t.streams.counts kernel i stream in
    let n = has_some stream (client v kernel).streams h in
    let o : OpenAt stream kernel v.opens = open_there stream kernel v.opens (omega (arith, c, n)) in
    record { one = o.one; there = filter_in (λ (y : Open). y.kernel == kernel) o.one v.opens o.there (eq-eqb o.one.kernel kernel o.kernel_is); writing = f o.one o.there o.kernel_is o.stream_is; has = subst (λ y. has_stream y (client v kernel).streams ≡ true) o.stream_is h }

writer_at : (z : Setting) (v : View) → Knowing z v → (kernel : ℕ) → IsClient (length v.clients) kernel → (step : FileStep) → is_writing step ≡ true → StepOpen kernel (client v kernel).streams v.opens step → WriterAt (seat v kernel).opened (client v kernel).streams
writer_at z v t kernel i (act.Writing pid number place stream from bytes) w s = open_at z v t kernel i stream (s.installed stream (same_self stream)) (λ o m k q. s.writing refl o m k (ap (λ x. works_on x (act.Writing pid number place stream from bytes)) (sym q) ∙ same_self stream))
writer_at z v t kernel i (act.Append pid number place stream bytes) w s = open_at z v t kernel i stream (s.installed stream (same_self stream)) (λ o m k q. s.writing refl o m k (ap (λ x. works_on x (act.Append pid number place stream bytes)) (sym q) ∙ same_self stream))
writer_at z v t kernel i step w s = absurd (cc (w))

-- who answered a callback and uses its cache has no stream to write with
no_answer : (z : Setting) (v : View) → Knowing z v → (kernel : ℕ) → IsClient (length v.clients) kernel → is_on (client v kernel).mode ≡ true → WriterAt (seat v kernel).opened (client v kernel).streams → Answered kernel (things v) → ⊥
no_answer z v t kernel i o w k = by_kind k.kind k.is_call
  where
    by_kind : (kind : CallKind) → k.call.body ≡ form.Callback k.stamp kind → ⊥
    by_kind Stop e =
        let s = t.stamps.each k.call k.there in
        let own : own_stamp v kernel ≡ current_stamp v kernel = ap (own_stamp v) (sym k.to_kernel) ∙ s.behind k.stamp Stop e k.taken ∙ s.called k.stamp Stop e ∙ ap (current_stamp v) k.to_kernel in
        cc (o, ap is_on ((t.holders.each kernel i).modes_agree own ∙ ap (mode_given v) (sym k.to_kernel) ∙ (s.stopped k.stamp e).0))
    by_kind Recall e = elim t.decided.queues [
      | inl a ↦ cc (a.0 k.call (only_call v k.call k.there (ap is_callback e)), ap is_callback e)
      | inr b ↦ (
          let u : v.uncached ≡ false = (t.stamps.each k.call k.there).recalled k.stamp e in
          let n = unreplied v b.1.first b.1.rest b.1.waiting in
          let m = first_waits v b.1.first b.1.rest b.1.waiting in
          let p = in_filter (λ (x : Open). x.kernel == kernel) w.one v.opens w.there in
          let s : SameOpen w.one (filter (λ (x : Open). x.kernel == kernel) (left_of v.opens b.1.first.from b.1.first.body)) = stays_installed v b.1.first n (record { flat = t.flat; streams = t.streams }) m b.1.asks_it kernel i w.one p.0 (eqb-true w.one.kernel kernel p.1) w.has in
          let q = in_filter (λ (x : Open). x.kernel == kernel) s.other (left_of v.opens b.1.first.from b.1.first.body) s.there in
          left_shares v b.1.first (adds v b.1.first n (record { flat = t.flat; streams = t.streams }) m b.1.asks_it) (alone_by z v b.1.first u (b.1.told u)) s.other q.0 (ap writes (sym s.mode_is) ∙ w.writing)
          (elim (eqb_tells kernel (receiver b.1.first)) [
            | inl d ↦ inl (b.1.spared k.call (only_call v k.call k.there (ap is_callback e)) k.stamp e (k.to_kernel ∙ d.1))
            | inr d ↦ inr (λ y. d.1 (sym (eqb-true s.other.kernel kernel q.1) ∙ y))
          ]))
    ]

pub able_of : (z : Setting) (v : View) → Knowing z v → (kernel : ℕ) → IsClient (length v.clients) kernel → (waiting : List FileStep) → ((step : FileStep) → In step waiting → StepOpen kernel (client v kernel).streams v.opens step) → Able v kernel waiting
able_of z v t kernel i waiting s step m w o = let a : WriterAt (seat v kernel).opened (client v kernel).streams = writer_at z v t kernel i step w (s step m) in (a, no_answer z v t kernel i o a)

-- a callback comes to its client
no_dirty_after : (blocks : List Held) (kind : CallKind) → DirtyIn (blocks_after blocks kind) → ⊥
no_dirty_after blocks Recall d = let r : Made cleaned d.one blocks = in_map cleaned d.one blocks d.there in cc (d.dirty, ap (λ (x : Held). is_some x.dirty) r.makes)
no_dirty_after blocks Stop d = d.there

on_after : (mode : CacheMode) (kind : CallKind) → is_on (mode_after mode kind) ≡ true → is_on mode ≡ true
on_after mode Recall e = e
on_after mode Stop e = absurd (cc (e))

pub holders_called_back : (v : View) (one : FileCall) (stamp : ℕ) (kind : CallKind) (size : ℕ) (blocks : List (BlockNo × List ℕ)) → Flat v → FlatStamps v → FlatHolders v → In one v.calls → one.body ≡ form.Callback stamp kind → one.taken ≡ false → one.reply ≡ None → IsClient (length v.clients) one.to → FlatHolders (answer (set_client v one.to (take_callback (client v one.to) stamp kind)) one (form.Flushed size blocks))
holders_called_back v one stamp kind size blocks f stamps p m e t n i = record {
  is_client = λ holder h. subst (λ c. IsClient c holder) (sym (count_set v one.to d)) (p.is_client holder h);
  opens = p.opens;
  stale = λ holder h other j q. by_kernel (λ k. IsClient (length v.clients) k → k ≢ holder → is_on (client (set_client v one.to d) k).mode ≡ true → (client (set_client v one.to d) k).version < v.version) one.to other
      (λ c r. subst (λ (x : Client). is_on x.mode ≡ true → x.version < v.version) (sym (client_set v one.to d i)) (λ o. p.stale holder h one.to c r (on_after (client v one.to).mode kind o)))
      (λ g c r. subst (λ (x : Client). is_on x.mode ≡ true → x.version < v.version) (sym (client_other v one.to other d i.0 c.0 g)) (p.stale holder h other c r))
      (subst (λ c. IsClient c other) (count_set v one.to d) j) q;
  exclusive = p.exclusive;
  each = λ other j. by_kernel (λ k. IsClient (length v.clients) k → LocalHolders (seat w k)) one.to other here (λ g c. far other g c) (subst (λ c. IsClient c other) (count_set v one.to d) j);
}
  where
    d : Client
    d = take_callback (client v one.to) stamp kind

    w : View
    w = answer (set_client v one.to (take_callback (client v one.to) stamp kind)) one (form.Flushed size blocks)

    new : FileCall
    new = replied one (form.Flushed size blocks)

    there : In one (things v)
    there = call_in_things v one m

    changed : things w ≡ with_call new (things v)
    changed = things_with v one (replied one (form.Flushed size blocks)) f.numbered.differ m refl

    only : (x : FileCall) → In x (things v) → x.number ≢ new.number → x.to ≡ one.to → is_callback x.body ≡ true → ⊥
    only x k g to c = g ((stamps.pairs x one k there).callbacks c (ap is_callback e) to)

    far : (other : ℕ) → other ≢ one.to → IsClient (length v.clients) other → LocalHolders (seat w other)
    far other g c = subst LocalHolders (sym (ap₂ (λ (x : Client) (ys : List FileCall). record (seat v other) { client = x; calls = ys }) (client_other v one.to other d i.0 c.0 g) changed))
        (holders_ways (seat v other) (with_call new (things v)) (p.each other c) (ways_answer v other (own_stamp v other) (is_holder v other) one (form.Flushed size blocks) f.numbered.differ there n refl (λ b q. g (sym q))))

    here : IsClient (length v.clients) one.to → LocalHolders (seat w one.to)
    here c = subst LocalHolders (sym (ap₂ (λ (x : Client) (ys : List FileCall). record (seat v one.to) { client = x; calls = ys }) (client_set v one.to d i) changed))
        (holders_flushed (seat v one.to) d (with_call new (things v)) kind (p.each one.to i) (record {
          answered = record { call = new; there = with_new new one (things v) refl there; to_kernel = refl; stamp = stamp; kind = kind; is_call = e; taken = refl };
          low = λ x k grant a. elim (in_with new x (things v) k) [ inl q ↦ subst (λ y. grant.stamp ≤ current_stamp v y) a.0 ((stamps.each x q.0).granted grant a.1) | inr q ↦ absurd (cc (a.1, ap (λ (y : FileCall). arrival y.reply) q)) ];
          stamp = (stamps.each one there).called stamp kind e;
          version = refl;
          mode = refl;
          clean = λ x. no_dirty_after (client v one.to).blocks kind x;
          recall = λ q. record { call = one; there = there; to_kernel = refl; stamp = stamp; recalls = e ∙ ap (form.Callback stamp) q; untaken = t };
          stop = λ q. ((stamps.each one there).stopped stamp (e ∙ ap (form.Callback stamp) q)).0;
          no_recall = λ r. elim (in_with new r.call (things v) r.there) [ inl q ↦ only r.call q.0 q.1 r.to_kernel (ap is_callback r.recalls) | inr q ↦ cc (r.untaken, ap (λ (y : FileCall). y.taken) q) ];
          recall_only = λ x k to s q. elim (in_with new x (things v) k) [ inl y ↦ absurd (only x y.0 y.1 to (ap is_callback q)) | inr y ↦ same_kind s (sym e ∙ ap (λ (u : FileCall). u.body) (sym y) ∙ q) ];
        }))
      where
        same_kind : (s : ℕ) → form.Callback stamp kind ≡ form.Callback s Recall → kind ≡ Recall
        same_kind s q = cc (q)
