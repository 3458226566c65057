-- What blocks contain, the eighth layer of soundness, said of a view, under the changes of calls and of a client.
use Rattle.std.proofs.Common.{◌≡◌, ◌≢◌, ◌≤◌, ◌<◌, ◌⊎◌, ℕ, ◌-◌, ◌==◌, Bool, true, false, ◌&&◌, is_some, List, [], ◌∷◌, length, Some, refl, sym, ap, ◌∙◌, subst, inl, inr, arith, slice_index_or}
use Rattle.std.proofs.lemmas.Bool.Decides.{eqb_tells}
use Rattle.sprite_ids.specs.declared.BlockNo.{BlockNo}
use Rattle.file_views.specs.declared.body.FileBody.{FileBody}
use Rattle.file_views.specs.declared.body.FileBody.TheVariants as form
use Rattle.file_views.specs.declared.client.Held.{Held}
use Rattle.file_views.specs.declared.client.Client.{Client}
use Rattle.file_views.specs.declared.call.FileCall.{FileCall}
use Rattle.file_views.specs.declared.view.View.{View}
use Rattle.file_views.specs.declared.entered.Entered.{Entered}
use Rattle.file_views.specs.Setting.{Setting}
use Rattle.file_views.specs.Contents.{part}
use Rattle.file_views.specs.Clients.{new_client}
use Rattle.file_views.specs.Views.{client, set_client, current_stamp, is_holder, is_callback, things}
use Rattle.file_views.specs.Entries.{bytes_entered, is_right}
use Rattle.file_views.specs.Here.{In, IsClient, Answered, request_stamp}
use Rattle.file_views.specs.SoundShapes.{Ends}
use Rattle.file_views.specs.SoundHolders.{Ready}
use Rattle.file_views.specs.SoundRequests.{HolderSize}
use Rattle.file_views.specs.SoundContents.{HasOpen, DirtyBlock, SomeDirty, FlushedBlock, SomeFlushed, Stands}
use Rattle.file_views.proofs.EffectLaws.{by_kernel, count_set, client_set, client_other}
use Rattle.file_views.proofs.StampLaws.{own_stamp, only_call}
use Rattle.file_views.proofs.HolderLaws.{Arrivals, DirtyIn, seat, FlatHolders}
use Rattle.file_views.proofs.HolderSettleLaws.{holder_is}
use Rattle.file_views.proofs.HolderTakeLaws.{order}
use Rattle.file_views.proofs.WritingLaws.{Low}
use Rattle.file_views.proofs.SizeLaws.{Told, told_self, dirty_found}
use Rattle.file_views.proofs.SizeServeLaws.{FlatSizes, flush_called}
use Rattle.file_views.proofs.ShapeLaws.{Flat}
use Rattle.file_views.proofs.ContentLaws.{GoodBlocks, ready_kept, good_calls, RightFetch, CarriedCall, carried_told, carried_current}

-- the view stands for those bytes
pub record Con (z : Setting) (stood : List ℕ) (v : View) : Type 0 where
  pub stands : Stands z stood v
  pub good : (kernel : ℕ) → IsClient (length v.clients) kernel → GoodBlocks z stood kernel v.version (client v kernel) (seat v kernel).opened (things v)
  pub carried : (kernel : ℕ) → IsClient (length v.clients) kernel → (one : FileCall) → In one (things v) → CarriedCall z kernel (current_stamp v kernel) (client v kernel) v.bytes one
  pub low : (kernel : ℕ) → IsClient (length v.clients) kernel → Low kernel (current_stamp v kernel) (things v)

-- the bytes with all that entered so far, and whether it was right
pub record Noted : Type 0 where
  pub bytes : List ℕ
  pub right : Bool

abbrev pub note : Setting → Noted → Entered → Noted
note z had one = record { bytes = bytes_entered z had.bytes one.step; right = had.right && is_right z had.bytes one.step one.reply }

-- it was, and the view stands for these bytes
pub record Has (z : Setting) (had : Noted) (v : View) : Type 0 where
  pub right : had.right ≡ true
  pub con : Con z had.bytes v

-- a call that is new, or answered
pub record NewCall (z : Setting) (stood : List ℕ) (v : View) (one : FileCall) : Type 0 where
  pub no_flush : (size : ℕ) (blocks : List (BlockNo × List ℕ)) → one.reply ≡ Some (form.Flushed size blocks) → ⊥
  pub fetch : (kernel : ℕ) → IsClient (length v.clients) kernel → RightFetch z stood kernel (own_stamp v kernel) one
  pub carried : (kernel : ℕ) → IsClient (length v.clients) kernel → CarriedCall z kernel (current_stamp v kernel) (client v kernel) v.bytes one
  pub low : (kernel : ℕ) → IsClient (length v.clients) kernel → one.from ≡ kernel → (stamp : ℕ) → request_stamp one.body ≡ Some stamp → stamp ≤ current_stamp v kernel

-- a view with the same clients and bytes, and other calls
pub record OtherCalls (z : Setting) (stood : List ℕ) (v w : View) : Type 0 where
  pub clients : w.clients ≡ v.clients
  pub bytes : w.bytes ≡ v.bytes
  pub version : w.version ≡ v.version
  pub stamps : (kernel : ℕ) → current_stamp v kernel ≤ current_stamp w kernel
  pub opens : (kernel : ℕ) → HasOpen (seat w kernel).opened → HasOpen (seat v kernel).opened
  pub arrivals : (kernel : ℕ) → IsClient (length v.clients) kernel → Arrivals kernel (own_stamp v kernel) (things v) (things w)
  pub told : (one : FileCall) → In one (things w) → Told one (things v) ⊎ NewCall z stood v one
  pub flushes : (one : FileCall) → In one (things v) → (size : ℕ) (blocks : List (BlockNo × List ℕ)) → one.reply ≡ Some (form.Flushed size blocks) → In one (things w)

same_client : (v w : View) (kernel : ℕ) → w.clients ≡ v.clients → client v kernel ≡ client w kernel
same_client v w kernel e = ap (λ cs. slice_index_or cs (kernel - 1) new_client) (sym e)

-- what of this the bytes lean on
pub record SameStand (v w : View) : Type 0 where
  pub clients : w.clients ≡ v.clients
  pub bytes : w.bytes ≡ v.bytes
  pub told : (one : FileCall) → In one (things w) → Told one (things v) ⊎ ((size : ℕ) (blocks : List (BlockNo × List ℕ)) → one.reply ≡ Some (form.Flushed size blocks) → ⊥)
  pub flushes : (one : FileCall) → In one (things v) → (size : ℕ) (blocks : List (BlockNo × List ℕ)) → one.reply ≡ Some (form.Flushed size blocks) → In one (things w)

pub stands_calls : (z : Setting) (stood : List ℕ) (v w : View) → Stands z stood v → SameStand v w → Stands z stood w
stands_calls z stood v w s o = record {
  dirty_size = λ kernel i. subst (λ (c : Client). (one : Held) → In one c.blocks → is_some one.dirty ≡ true → c.size ≡ length stood) (same_client v w kernel o.clients) (s.dirty_size kernel (subst (λ cs. IsClient (length cs) kernel) o.clients i));
  flushed_size = λ one m size blocks r. elim (o.told one m) [ inl t ↦ s.flushed_size t.other t.there size blocks (t.reply_is ∙ r) | inr n ↦ absurd (n size blocks r) ];
  flushed_part = λ one m size blocks r. elim (o.told one m) [ inl t ↦ s.flushed_part t.other t.there size blocks (t.reply_is ∙ r) | inr n ↦ absurd (n size blocks r) ];
  rest = λ n. elim (s.rest n) [
    | inl d ↦ inl (record { kernel = d.kernel; is_client = subst (λ cs. IsClient (length cs) d.kernel) (sym o.clients) d.is_client; one = d.one; there = subst (λ (c : Client). In d.one c.blocks) (same_client v w d.kernel o.clients) d.there; dirty = d.dirty; place = d.place })
    | inr r ↦ inr (elim r [
      | inl f ↦ inl (record { call = f.call; there = o.flushes f.call f.there f.size f.blocks f.replied; size = f.size; blocks = f.blocks; replied = f.replied; piece = f.piece; inside = f.inside; place = f.place })
      | inr e ↦ inr (subst (λ xs. part z xs n ≡ part z stood n) (sym o.bytes) e)
    ])
  ];
  size = elim s.size [
    | inl d ↦ inl (record { kernel = d.kernel; is_client = subst (λ cs. IsClient (length cs) d.kernel) (sym o.clients) d.is_client; one = d.one; there = subst (λ (c : Client). In d.one c.blocks) (same_client v w d.kernel o.clients) d.there; dirty = d.dirty })
    | inr r ↦ inr (elim r [
      | inl f ↦ inl (record { call = f.call; there = o.flushes f.call f.there f.size f.blocks f.replied; size = f.size; blocks = f.blocks; replied = f.replied; some = f.some })
      | inr e ↦ inr (subst (λ xs. length xs ≡ length stood) (sym o.bytes) e)
    ])
  ];
}

pub stand_same : (v w : View) → w.clients ≡ v.clients → w.bytes ≡ v.bytes → ((one : FileCall) → In one (things w) → In one (things v)) → ((one : FileCall) → In one (things v) → In one (things w)) → SameStand v w
stand_same v w c b less more = record { clients = c; bytes = b; told = λ one m. inl (told_self one (things v) (less one m)); flushes = λ one m size blocks r. more one m }

pub con_calls : (z : Setting) (stood : List ℕ) (v w : View) → Con z stood v → OtherCalls z stood v w → Con z stood w
con_calls z stood v w c o = record {
  stands = stands_calls z stood v w c.stands (record { clients = o.clients; bytes = o.bytes; told = λ one m. elim (o.told one m) [ inl t ↦ inl t | inr n ↦ inr n.no_flush ]; flushes = o.flushes });
  good = λ kernel i. let j : IsClient (length v.clients) kernel = was kernel i in subst (λ n. GoodBlocks z stood kernel n (client w kernel) (seat w kernel).opened (things w)) (sym o.version) (subst (λ (d : Client). GoodBlocks z stood kernel v.version d (seat w kernel).opened (things w)) (same_client v w kernel o.clients)
      (good_calls z stood kernel v.version (client v kernel) (seat v kernel).opened (seat w kernel).opened (things v) (things w) (c.good kernel j) (o.arrivals kernel j) (o.opens kernel) (λ one m. elim (o.told one m) [ inl t ↦ inl t | inr n ↦ inr (n.fetch kernel j) ])));
  carried = λ kernel i one m. let j : IsClient (length v.clients) kernel = was kernel i in subst (λ xs. CarriedCall z kernel (current_stamp w kernel) (client w kernel) xs one) (sym o.bytes) (subst (λ (d : Client). CarriedCall z kernel (current_stamp w kernel) d v.bytes one) (same_client v w kernel o.clients)
      (elim (o.told one m) [
        | inl t ↦ carried_told z kernel (current_stamp w kernel) (client v kernel) v.bytes one (things v) t (carried_current z kernel (current_stamp v kernel) (current_stamp w kernel) (client v kernel) v.bytes t.other (things v) t.there (c.carried kernel j t.other t.there) (o.stamps kernel) (c.low kernel j))
        | inr n ↦ carried_current z kernel (current_stamp v kernel) (current_stamp w kernel) (client v kernel) v.bytes one (one ∷ []) (inl refl) (n.carried kernel j) (o.stamps kernel) (λ x k e stamp q. elim k [ inl s ↦ n.low kernel j (ap (λ (y : FileCall). y.from) (sym s) ∙ e) stamp (ap (λ (y : FileCall). request_stamp y.body) (sym s) ∙ q) | inr s ↦ absurd s ])
      ]));
  low = λ kernel i one m e stamp q. let j : IsClient (length v.clients) kernel = was kernel i in let l = o.stamps kernel in elim (o.told one m) [
    | inl t ↦ (let a = c.low kernel j t.other t.there (t.from_is ∙ e) stamp (ap request_stamp t.body_is ∙ q) in omega (arith, a, l))
    | inr n ↦ (let a = n.low kernel j e stamp q in omega (arith, a, l))
  ];
}
  where
    was : (kernel : ℕ) → IsClient (length w.clients) kernel → IsClient (length v.clients) kernel
    was kernel i = subst (λ cs. IsClient (length cs) kernel) o.clients i

-- a client changes
pub record ClientStand (z : Setting) (stood : List ℕ) (v : View) (kernel : ℕ) (d : Client) : Type 0 where
  pub size : (one : Held) → In one d.blocks → is_some one.dirty ≡ true → d.size ≡ length stood
  pub stays : (one : Held) → In one (client v kernel).blocks → is_some one.dirty ≡ true → ((other : Held) × (In other d.blocks × ((is_some other.dirty ≡ true) × (other.block.0 ≡ one.block.0)))) ⊎ (part z v.bytes one.block.0 ≡ part z stood one.block.0)
  pub some : (one : Held) → In one (client v kernel).blocks → is_some one.dirty ≡ true → DirtyIn d.blocks ⊎ (length v.bytes ≡ length stood)

pub record OtherClient (z : Setting) (stood : List ℕ) (v : View) (kernel : ℕ) (d : Client) : Type 0 where
  pub stand : ClientStand z stood v kernel d
  pub good : GoodBlocks z stood kernel v.version d (seat v kernel).opened (things v)
  pub carried : (one : FileCall) → In one (things v) → CarriedCall z kernel (current_stamp v kernel) d v.bytes one

pub stands_set : (z : Setting) (stood : List ℕ) (v : View) (kernel : ℕ) (d : Client) → Stands z stood v → IsClient (length v.clients) kernel → ClientStand z stood v kernel d → Stands z stood (set_client v kernel d)
stands_set z stood v kernel d s i o = record {
  dirty_size = λ other j. by_kernel (λ k. IsClient (length v.clients) k → (one : Held) → In one (client (set_client v kernel d) k).blocks → is_some one.dirty ≡ true → (client (set_client v kernel d) k).size ≡ length stood) kernel other
      (λ n. subst (λ (c : Client). (one : Held) → In one c.blocks → is_some one.dirty ≡ true → c.size ≡ length stood) (sym (client_set v kernel d i)) o.size)
      (λ p n. subst (λ (c : Client). (one : Held) → In one c.blocks → is_some one.dirty ≡ true → c.size ≡ length stood) (sym (client_other v kernel other d i.0 n.0 p)) (s.dirty_size other n))
      (subst (λ n. IsClient n other) (count_set v kernel d) j);
  flushed_size = s.flushed_size;
  flushed_part = s.flushed_part;
  rest = λ n. elim (s.rest n) [
    | inl b ↦ by_place b (eqb_tells b.kernel kernel)
    | inr r ↦ inr (elim r [
      | inl f ↦ inl (record { call = f.call; there = f.there; size = f.size; blocks = f.blocks; replied = f.replied; piece = f.piece; inside = f.inside; place = f.place })
      | inr e ↦ inr e
    ])
  ];
  size = elim s.size [
    | inl b ↦ some_place b (eqb_tells b.kernel kernel)
    | inr r ↦ inr (elim r [
      | inl f ↦ inl (record { call = f.call; there = f.there; size = f.size; blocks = f.blocks; replied = f.replied; some = f.some })
      | inr e ↦ inr e
    ])
  ];
}
  where
    now : (k : ℕ) → IsClient (length v.clients) k → IsClient (length (set_client v kernel d).clients) k
    now k j = subst (λ n. IsClient n k) (sym (count_set v kernel d)) j

    by_place : {n : ℕ} → (b : DirtyBlock v n) → (((b.kernel == kernel) ≡ true) × (b.kernel ≡ kernel)) ⊎ (((b.kernel == kernel) ≡ false) × (b.kernel ≢ kernel)) → DirtyBlock (set_client v kernel d) n ⊎ (FlushedBlock (set_client v kernel d) n ⊎ (part z v.bytes n ≡ part z stood n))
    by_place b (inl e) = elim (o.stays b.one (subst (λ k. In b.one (client v k).blocks) e.1 b.there) b.dirty) [
      | inl x ↦ inl (record { kernel = kernel; is_client = now kernel i; one = x.0; there = subst (λ (c : Client). In x.0 c.blocks) (sym (client_set v kernel d i)) x.1.0; dirty = x.1.1.0; place = x.1.1.1 ∙ b.place })
      | inr q ↦ inr (inr (subst (λ m. part z v.bytes m ≡ part z stood m) b.place q))
    ]
    by_place b (inr e) = inl (record { kernel = b.kernel; is_client = now b.kernel b.is_client; one = b.one; there = subst (λ (c : Client). In b.one c.blocks) (sym (client_other v kernel b.kernel d i.0 b.is_client.0 e.1)) b.there; dirty = b.dirty; place = b.place })

    some_place : (b : SomeDirty v) → (((b.kernel == kernel) ≡ true) × (b.kernel ≡ kernel)) ⊎ (((b.kernel == kernel) ≡ false) × (b.kernel ≢ kernel)) → SomeDirty (set_client v kernel d) ⊎ (SomeFlushed (set_client v kernel d) ⊎ (length v.bytes ≡ length stood))
    some_place b (inl e) = elim (o.some b.one (subst (λ k. In b.one (client v k).blocks) e.1 b.there) b.dirty) [
      | inl x ↦ inl (record { kernel = kernel; is_client = now kernel i; one = x.one; there = subst (λ (c : Client). In x.one c.blocks) (sym (client_set v kernel d i)) x.there; dirty = x.dirty })
      | inr q ↦ inr (inr q)
    ]
    some_place b (inr e) = inl (record { kernel = b.kernel; is_client = now b.kernel b.is_client; one = b.one; there = subst (λ (c : Client). In b.one c.blocks) (sym (client_other v kernel b.kernel d i.0 b.is_client.0 e.1)) b.there; dirty = b.dirty })

pub con_set : (z : Setting) (stood : List ℕ) (v : View) (kernel : ℕ) (d : Client) → Con z stood v → IsClient (length v.clients) kernel → OtherClient z stood v kernel d → Con z stood (set_client v kernel d)
con_set z stood v kernel d c i o = record {
  stands = stands_set z stood v kernel d c.stands i o.stand;
  good = λ other j. by_kernel (λ k. IsClient (length v.clients) k → GoodBlocks z stood k v.version (client (set_client v kernel d) k) (seat v k).opened (things v)) kernel other
      (λ n. subst (λ (x : Client). GoodBlocks z stood kernel v.version x (seat v kernel).opened (things v)) (sym (client_set v kernel d i)) o.good)
      (λ p n. subst (λ (x : Client). GoodBlocks z stood other v.version x (seat v other).opened (things v)) (sym (client_other v kernel other d i.0 n.0 p)) (c.good other n))
      (within other j);
  carried = λ other j one m. by_kernel (λ k. IsClient (length v.clients) k → CarriedCall z k (current_stamp v k) (client (set_client v kernel d) k) v.bytes one) kernel other
      (λ n. subst (λ (x : Client). CarriedCall z kernel (current_stamp v kernel) x v.bytes one) (sym (client_set v kernel d i)) (o.carried one m))
      (λ p n. subst (λ (x : Client). CarriedCall z other (current_stamp v other) x v.bytes one) (sym (client_other v kernel other d i.0 n.0 p)) (c.carried other n one m))
      (within other j);
  low = λ other j. c.low other (within other j);
}
  where
    within : (other : ℕ) → IsClient (length (set_client v kernel d).clients) other → IsClient (length v.clients) other
    within other j = subst (λ n. IsClient n other) (count_set v kernel d) j

-- the facts on which contents lean
pub record Leans (z : Setting) (v : View) : Type 0 where
  pub flat : Flat v
  pub holders : FlatHolders v
  pub sizes : FlatSizes z v

-- who has a dirty block is the holder, and so has answered with blocks
pub dirty_holder : (z : Setting) (v : View) → Leans z v → (kernel : ℕ) → IsClient (length v.clients) kernel → DirtyIn (client v kernel).blocks → Ready kernel (own_stamp v kernel) (client v kernel).version v.version (is_holder v kernel) (client v kernel).mode (things v)
dirty_holder z v t kernel i d = (t.holders.each kernel i).dirty_ready d.one d.there d.dirty

pub flushed_target : (z : Setting) (v : View) → Leans z v → (f : SomeFlushed v) → (is_holder v f.call.to ≡ true) × (Answered f.call.to (things v))
flushed_target z v t f = let c = flush_called v t.flat f.call f.there f.size f.blocks f.replied in let m : In f.call v.calls = only_call v f.call f.there c in by_body f.call.body refl c m
  where
    by_body : (body : FileBody) → f.call.body ≡ body → is_callback body ≡ true → In f.call v.calls → (is_holder v f.call.to ≡ true) × (Answered f.call.to (things v))
    by_body (form.Callback stamp kind) e c m =
        let i : IsClient (length v.clients) f.call.to = (subst (Ends (length v.clients) f.call.from f.call.to) e (t.flat.calls f.call m).ends).1 in
        (((t.sizes f.call.to i).each f.call f.there).flushed_holder refl f.size f.blocks f.replied f.some, record { call = f.call; there = f.there; to_kernel = refl; stamp = stamp; kind = kind; is_call = e; taken = (t.flat.calls f.call m).taken_first (form.Flushed f.size f.blocks) f.replied })
    by_body body e c m = absurd (cc (c))

-- the blocks of who may write are right, and its size
pub ready_block : (z : Setting) (stood : List ℕ) (v : View) → Leans z v → Con z stood v → (kernel : ℕ) → IsClient (length v.clients) kernel → Ready kernel (own_stamp v kernel) (client v kernel).version v.version (is_holder v kernel) (client v kernel).mode (things v) → (one : Held) → In one (client v kernel).blocks → one.bytes ≡ part z stood one.block.0
ready_block z stood v t c kernel i r one m = (c.good kernel i).kept r.on (ready_kept kernel (own_stamp v kernel) (client v kernel).version v.version (is_holder v kernel) (client v kernel).mode (seat v kernel).opened (things v) r (t.holders.each kernel i).chained) one m

pub ready_size : (z : Setting) (stood : List ℕ) (v : View) → Leans z v → Con z stood v → (kernel : ℕ) → IsClient (length v.clients) kernel → Ready kernel (own_stamp v kernel) (client v kernel).version v.version (is_holder v kernel) (client v kernel).mode (things v) → (Answered kernel (things v) → ⊥) → (client v kernel).size ≡ length stood
ready_size z stood v t c kernel i r n = elim c.stands.size [
  | inl d ↦ (let at : d.kernel ≡ kernel = one_holder (dirty_holder z v t d.kernel d.is_client (record { one = d.one; there = d.there; dirty = d.dirty })).holds_it in c.stands.dirty_size kernel i d.one (subst (λ k. In d.one (client v k).blocks) at d.there) d.dirty)
  | inr q ↦ elim q [
    | inl f ↦ (let g = flushed_target z v t f in absurd (n (subst (λ k. Answered k (things v)) (one_holder g.0) g.1)))
    | inr e ↦ by_order ((t.sizes kernel i).holder r n) e (order (length v.bytes) (client v kernel).size)
  ]
]
  where
    one_holder : {other : ℕ} → is_holder v other ≡ true → other ≡ kernel
    one_holder {other} h = let s : Some other ≡ Some kernel = sym (holder_is v.holder other h) ∙ holder_is v.holder kernel r.holds_it in cc (s)

    by_order : HolderSize z (client v kernel) v.bytes → length v.bytes ≡ length stood → (length v.bytes < (client v kernel).size) ⊎ ((client v kernel).size ≤ length v.bytes) → (client v kernel).size ≡ length stood
    by_order h e (inl l) = let d : DirtyIn (client v kernel).blocks = dirty_found (client v kernel).blocks _ (h.dirty l) in c.stands.dirty_size kernel i d.one d.there d.dirty
    by_order h e (inr l) = let k = h.covers in omega (arith, k, e, l)
