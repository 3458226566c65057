-- What blocks contain, the eighth layer of soundness, where a client writes in its cache.
use Rattle.std.proofs.Common.{◌≡◌, ◌≢◌, ◌≤◌, ◌<◌, ◌⊎◌, ℕ, ◌+◌, ◌-◌, ◌*◌, ◌/◌, ◌==◌, nat_lt, Bool, true, false, cond, not, is_some, List, [], ◌∷◌, length, map, Option, Some, None, refl, sym, ap, ◌∙◌, subst, inl, inr, arith, eq-eqb, length-drop}
use Rattle.std.proofs.Math.Nat.{lt-div-mul-add, mul-le-mul_right}
use Rattle.sprite_ids.specs.declared.BlockNo.{BlockNo}
use Rattle.file_views.specs.declared.body.FileBody.TheVariants as form
use Rattle.file_views.specs.declared.client.Held.{Held}
use Rattle.file_views.specs.declared.client.Client.{Client}
use Rattle.file_views.specs.declared.call.FileCall.{FileCall}
use Rattle.file_views.specs.declared.view.View.{View}
use Rattle.file_views.specs.Setting.{Setting}
use Rattle.file_views.specs.Contents.{part, overlay, numbers_from, blocks_between}
use Rattle.file_views.specs.Streams.{is_any}
use Rattle.file_views.specs.Clients.{held, without_block, with_block, first_absent, held_bytes, block_written, blocks_written, size_written, write_cached}
use Rattle.file_views.specs.Views.{client, set_client, current_stamp, is_holder, things}
use Rattle.file_views.specs.Here.{In, Unique, IsClient, Answered}
use Rattle.file_views.specs.SoundHolders.{Ready}
use Rattle.file_views.specs.SoundContents.{DirtyBlock, FlushedBlock, SomeFlushed}
use Rattle.file_views.proofs.MemberLaws.{in_last, in_filter, held_found}
use Rattle.file_views.proofs.EffectLaws.{by_kernel, count_set, client_set, client_other}
use Rattle.file_views.proofs.ShapeStepLaws.{in_numbers}
use Rattle.file_views.proofs.StampLaws.{own_stamp}
use Rattle.file_views.proofs.StampServeLaws.{unique_numbers}
use Rattle.file_views.proofs.HolderLaws.{DirtyIn, seat}
use Rattle.file_views.proofs.HolderSettleLaws.{holder_is}
use Rattle.file_views.proofs.AskingLaws.{held_with, held_written, outside}
use Rattle.file_views.proofs.BlockLaws.{in_or_out, in_held, Freshly, freshly_written, in_between, last_between}
use Rattle.file_views.proofs.WritingLaws.{Keeps}
use Rattle.file_views.proofs.SizeLaws.{length_over, length_before}
use Rattle.file_views.proofs.BytesLaws.{part_past, written_elsewhere, written_here}
use Rattle.file_views.proofs.ContentLaws.{GoodBlocks, CarriedCall, carried_client}
use Rattle.file_views.proofs.ContentViewLaws.{Con, Leans, dirty_holder, flushed_target, ready_block, ready_size}

-- the size after a write
pub written_length : (stood : List ℕ) (size low first : ℕ) (rest : List ℕ) → size ≡ length stood → size_written size low (first ∷ rest) ≡ length (overlay stood low (first ∷ rest))
written_length stood size low first rest e = let a = length_over stood low first rest in let b = length_before stood low in let c = length-drop (low + length (first ∷ rest)) stood in omega (arith, a, b, c, e)

-- a block that is touched lies in the write
above_low : (z : Setting) (low high number : ℕ) → 0 < z.block → In number (blocks_between z low high) → low < number * z.block + z.block
above_low z low high number p = by_test (nat_lt low high)
  where
    by_test : (b : Bool) → In number (cond b (numbers_from (low / z.block) ((high - 1) / z.block + 1 - low / z.block)) []) → low < number * z.block + z.block
    by_test true m =
        let r = in_numbers (low / z.block) ((high - 1) / z.block + 1 - low / z.block) number m in
        let a = mul-le-mul_right {m = low / z.block} {n = number} z.block r.0 in
        let b = lt-div-mul-add {a = low} {b = z.block} p in
        omega (arith, a, b)
    by_test false m = absurd m

between_unique : (z : Setting) (low high : ℕ) → Unique (blocks_between z low high)
between_unique z low high = by_test (nat_lt low high)
  where
    by_test : (b : Bool) → Unique (cond b (numbers_from (low / z.block) ((high - 1) / z.block + 1 - low / z.block)) [])
    by_test true = unique_numbers (low / z.block) ((high - 1) / z.block + 1 - low / z.block)
    by_test false = tt

-- blocks while a write goes on: those that come are the old bytes', the others the new ones'
record Between (z : Setting) (stood after : List ℕ) (numbers : List ℕ) (blocks : List Held) : Type 0 where
  old : (one : Held) → In one blocks → In one.block.0 numbers → one.bytes ≡ part z stood one.block.0
  new : (one : Held) → In one blocks → (In one.block.0 numbers → ⊥) → one.bytes ≡ part z after one.block.0
  past : (number : ℕ) → In number numbers → held blocks number ≡ None → length stood ≤ number * z.block

in_with_apart : (blocks : List Held) (new one : Held) → In one (with_block new blocks) → (In one blocks × (one.block.0 ≢ new.block.0)) ⊎ (one ≡ new)
in_with_apart blocks new one m = elim (in_last one new (without_block new.block.0 blocks) m) [
  | inl k ↦ (let p = in_filter (λ (x : Held). not (x.block.0 == new.block.0)) one blocks k in inl (p.0, λ e. cc (p.1, ap not (eq-eqb one.block.0 new.block.0 e))))
  | inr e ↦ inr e
]

between_step : (z : Setting) (stood : List ℕ) (low first : ℕ) (rest : List ℕ) (number : ℕ) (numbers : List ℕ) (blocks : List Held) (count : ℕ) → 0 < z.block → Unique (number ∷ numbers) → ((n : ℕ) → In n (number ∷ numbers) → In n (blocks_between z low (low + length (first ∷ rest)))) → Between z stood (overlay stood low (first ∷ rest)) (number ∷ numbers) blocks → Between z stood (overlay stood low (first ∷ rest)) numbers (with_block (block_written z (held_bytes z (held blocks number)) number low (first ∷ rest) count) blocks)
between_step z stood low first rest number numbers blocks count p u within b = record {
  old = λ one m k. elim (in_with_apart blocks new one m) [ inl q ↦ b.old one q.0 (inr k) | inr e ↦ absurd (u.0 (subst (λ n. In n numbers) (ap (λ (x : Held). x.block.0) e) k)) ];
  new = λ one m k. elim (in_with_apart blocks new one m) [ inl q ↦ b.new one q.0 (λ j. elim j [ inl e ↦ q.1 e | inr i ↦ k i ]) | inr e ↦ ap (λ (x : Held). x.bytes) e ∙ right (held blocks number) refl ∙ ap (part z after) (ap (λ (x : Held). x.block.0) (sym e)) ];
  past = λ n m e. b.past n (inr m) (sym (held_with blocks new n (λ q. u.0 (subst (λ x. In x numbers) (sym q) m))) ∙ e);
}
  where
    after : List ℕ
    after = overlay stood low (first ∷ rest)

    new : Held
    new = block_written z (held_bytes z (held blocks number)) number low (first ∷ rest) count

    there : In number (blocks_between z low (low + length (first ∷ rest)))
    there = within number (inl refl)

    old_bytes : (o : Option Held) → held blocks number ≡ o → held_bytes z o ≡ part z stood number
    old_bytes (Some x) e = let f = held_found blocks number x e in b.old x f.0 (inl f.1) ∙ ap (part z stood) f.1
    old_bytes None e = part_past z stood number (b.past number (inl refl) e)

    right : (o : Option Held) → held blocks number ≡ o → (block_written z (held_bytes z o) number low (first ∷ rest) count).bytes ≡ part z after number
    right o e = ap (λ xs. (block_written z xs number low (first ∷ rest) count).bytes) (old_bytes o e) ∙ written_here z stood low (first ∷ rest) number count (above_low z low (low + length (first ∷ rest)) number p there) (in_between z low (low + length (first ∷ rest)) number there) (omega arith)

between_all : (z : Setting) (stood : List ℕ) (low first : ℕ) (rest : List ℕ) (numbers : List ℕ) (blocks : List Held) (count : ℕ) → 0 < z.block → Unique numbers → ((n : ℕ) → In n numbers → In n (blocks_between z low (low + length (first ∷ rest)))) → Between z stood (overlay stood low (first ∷ rest)) numbers blocks → (one : Held) → In one (blocks_written z blocks low (first ∷ rest) count numbers) → one.bytes ≡ part z (overlay stood low (first ∷ rest)) one.block.0
between_all z stood low first rest [] blocks count p u w b one m = b.new one m (λ k. k)
between_all z stood low first rest (number ∷ numbers) blocks count p u w b one m = between_all z stood low first rest numbers (with_block (block_written z (held_bytes z (held blocks number)) number low (first ∷ rest) (count + 1)) blocks) (count + 1) p u.1 (λ n k. w n (inr k)) (between_step z stood low first rest number numbers blocks (count + 1) p u w b) one m

-- what a write leans on
pub record MayWrite (z : Setting) (stood : List ℕ) (v : View) (kernel : ℕ) : Type 0 where
  pub positive : 0 < z.block
  pub leans : Leans z v
  pub unique : Unique (map (λ (x : Held). x.block.0) (client v kernel).blocks)
  pub ready : Ready kernel (own_stamp v kernel) (client v kernel).version v.version (is_holder v kernel) (client v kernel).mode (things v)
  pub unanswered : Answered kernel (things v) → ⊥
  -- a block that came in is absent, and begins before the client's end
  pub fetched : (one : FileCall) → In one (things v) → one.from ≡ kernel → (stamp : ℕ) (block : BlockNo) → one.body ≡ form.Fetch stamp block → stamp ≡ own_stamp v kernel → is_some one.reply ≡ true → (held (client v kernel).blocks block.0 ≡ None) × (block.0 * z.block < (client v kernel).size)
  -- nobody else has a stream to work with, or a block that counts
  pub idle : (other : ℕ) → IsClient (length v.clients) other → other ≢ kernel → (after : List ℕ) → GoodBlocks z after other v.version (client v other) (seat v other).opened (things v)

pub con_write : (z : Setting) (stood : List ℕ) (v : View) (kernel low first : ℕ) (rest : List ℕ) → Con z stood v → IsClient (length v.clients) kernel → MayWrite z stood v kernel → first_absent z (client v kernel) (blocks_between z low (low + length (first ∷ rest))) ≡ None → Keeps z kernel (current_stamp v kernel) (client v kernel) (write_cached z (client v kernel) low (first ∷ rest)) (things v) → Con z (overlay stood low (first ∷ rest)) (set_client v kernel (write_cached z (client v kernel) low (first ∷ rest)))
con_write z stood v kernel low first rest con i t absent keeps = record {
  stands = record {
    dirty_size = λ other j. by_kernel (λ k. IsClient (length v.clients) k → (one : Held) → In one (client w k).blocks → is_some one.dirty ≡ true → (client w k).size ≡ length after) kernel other
        (λ n. subst (λ (x : Client). (one : Held) → In one x.blocks → is_some one.dirty ≡ true → x.size ≡ length after) (sym (client_set v kernel d i)) (λ one m q. size_is))
        (λ p n. subst (λ (x : Client). (one : Held) → In one x.blocks → is_some one.dirty ≡ true → x.size ≡ length after) (sym (client_other v kernel other d i.0 n.0 p)) (λ one m q. absurd (p (only other n (record { one = one; there = m; dirty = q })))))
        (within other j);
    flushed_size = λ one m size blocks r a. absurd (no_flush (record { call = one; there = m; size = size; blocks = blocks; replied = r; some = a }));
    flushed_part = λ one m size blocks r piece p. absurd (no_flush (record { call = one; there = m; size = size; blocks = blocks; replied = r; some = some_in blocks piece p }));
    rest = λ n. by_number n (in_or_out n numbers) (con.stands.rest n);
    size = inl (let f : Freshly d.blocks _ c.count = freshly_written z numbers c.blocks low new c.count _ (last_between z low (low + length new) (omega arith)) in let x : DirtyBlock w _ = dirty_of f in record { kernel = x.kernel; is_client = x.is_client; one = x.one; there = x.there; dirty = x.dirty });
  };
  good = λ other j. by_kernel (λ k. IsClient (length v.clients) k → GoodBlocks z after k v.version (client w k) (seat v k).opened (things v)) kernel other
      (λ n. subst (λ (x : Client). GoodBlocks z after kernel v.version x (seat v kernel).opened (things v)) (sym (client_set v kernel d i)) good_here)
      (λ p n. subst (λ (x : Client). GoodBlocks z after other v.version x (seat v other).opened (things v)) (sym (client_other v kernel other d i.0 n.0 p)) (t.idle other n p after))
      (within other j);
  carried = λ other j one m. by_kernel (λ k. IsClient (length v.clients) k → CarriedCall z k (current_stamp v k) (client w k) v.bytes one) kernel other
      (λ n. subst (λ (x : Client). CarriedCall z kernel (current_stamp v kernel) x v.bytes one) (sym (client_set v kernel d i)) (carried_client z kernel (current_stamp v kernel) c d v.bytes one (con.carried kernel n one m) refl (λ f number there p. keeps.present one m f number there p)))
      (λ p n. subst (λ (x : Client). CarriedCall z other (current_stamp v other) x v.bytes one) (sym (client_other v kernel other d i.0 n.0 p)) (con.carried other n one m))
      (within other j);
  low = λ other j. con.low other (within other j);
}
  where
    c : Client
    c = client v kernel

    new : List ℕ
    new = first ∷ rest

    d : Client
    d = write_cached z c low new

    w : View
    w = set_client v kernel d

    after : List ℕ
    after = overlay stood low new

    numbers : List ℕ
    numbers = blocks_between z low (low + length new)

    within : (other : ℕ) → IsClient (length w.clients) other → IsClient (length v.clients) other
    within other j = subst (λ n. IsClient n other) (count_set v kernel d) j

    old_size : c.size ≡ length stood
    old_size = ready_size z stood v t.leans con kernel i t.ready t.unanswered

    size_is : d.size ≡ length after
    size_is = written_length stood c.size low first rest old_size

    only : (other : ℕ) → IsClient (length v.clients) other → DirtyIn (client v other).blocks → other ≡ kernel
    only other j x = let r = dirty_holder z v t.leans other j x in let s : Some other ≡ Some kernel = sym (holder_is v.holder other r.holds_it) ∙ holder_is v.holder kernel t.ready.holds_it in cc (s)

    no_flush : SomeFlushed v → ⊥
    no_flush f = let g = flushed_target z v t.leans f in let s : Some f.call.to ≡ Some kernel = sym (holder_is v.holder f.call.to g.0) ∙ holder_is v.holder kernel t.ready.holds_it in let at : f.call.to ≡ kernel = cc (s) in t.unanswered (subst (λ k. Answered k (things v)) at g.1)

    some_in : (blocks : List (BlockNo × List ℕ)) (piece : BlockNo × List ℕ) → In piece blocks → is_any blocks ≡ true
    some_in [] piece m = absurd m
    some_in (b ∷ bs) piece m = refl

    dirty_of : {n count : ℕ} → Freshly d.blocks n count → DirtyBlock w n
    dirty_of f = let g = held_found d.blocks _ f.one f.found in record { kernel = kernel; is_client = subst (λ m. IsClient m kernel) (sym (count_set v kernel d)) i; one = f.one; there = subst (λ (x : Client). In f.one x.blocks) (sym (client_set v kernel d i)) g.0; dirty = ap is_some f.is_dirty; place = g.1 }

    stays_dirty : (n : ℕ) → (In n numbers → ⊥) → (b : DirtyBlock v n) → DirtyBlock w n
    stays_dirty n out b =
        let at : b.kernel ≡ kernel = only b.kernel b.is_client (record { one = b.one; there = b.there; dirty = b.dirty }) in
        let m : In b.one c.blocks = subst (λ k. In b.one (client v k).blocks) at b.there in
        let h : held c.blocks n ≡ Some b.one = ap (held c.blocks) (sym b.place) ∙ in_held c.blocks b.one t.unique m in
        let g = held_found d.blocks n b.one (held_written z numbers c.blocks low new c.count n out ∙ h) in
        record { kernel = kernel; is_client = subst (λ k. IsClient k kernel) (sym (count_set v kernel d)) i; one = b.one; there = subst (λ (x : Client). In b.one x.blocks) (sym (client_set v kernel d i)) g.0; dirty = b.dirty; place = b.place }

    by_number : (n : ℕ) → In n numbers ⊎ (In n numbers → ⊥) → DirtyBlock v n ⊎ (FlushedBlock v n ⊎ (part z v.bytes n ≡ part z stood n)) → DirtyBlock w n ⊎ (FlushedBlock w n ⊎ (part z v.bytes n ≡ part z after n))
    by_number n (inl m) o = inl (dirty_of (freshly_written z numbers c.blocks low new c.count n m))
    by_number n (inr out) (inl b) = inl (stays_dirty n out b)
    by_number n (inr out) (inr (inl f)) = absurd (no_flush (record { call = f.call; there = f.there; size = f.size; blocks = f.blocks; replied = f.replied; some = some_in f.blocks f.piece f.inside }))
    by_number n (inr out) (inr (inr e)) = inr (inr (e ∙ sym (written_elsewhere z stood low new n out)))

    past_end : (n : ℕ) → In n numbers → held c.blocks n ≡ None → length stood ≤ n * z.block
    past_end n m h = elim (two (length stood) (n * z.block)) [ inl l ↦ l | inr l ↦ absurd (outside z c numbers absent n h (let e = old_size in omega (arith, l, e)) m) ]
      where
        two : (a b : ℕ) → (a ≤ b) ⊎ (b < a)
        two a b = grind arith

    blocks_right : (one : Held) → In one d.blocks → one.bytes ≡ part z after one.block.0
    blocks_right one m = between_all z stood low first rest numbers c.blocks c.count t.positive (between_unique z low (low + length new)) (λ n k. k) (record {
      old = λ x k j. ready_block z stood v t.leans con kernel i t.ready x k;
      new = λ x k out. ready_block z stood v t.leans con kernel i t.ready x k ∙ sym (written_elsewhere z stood low new x.block.0 out);
      past = past_end;
    }) one m

    good_here : GoodBlocks z after kernel v.version d (seat v kernel).opened (things v)
    good_here = record {
      engaged_size = λ o e. size_is;
      engaged = λ o e one m. blocks_right one m;
      fetched = λ one m f stamp block q s other piece r. (con.good kernel i).fetched one m f stamp block q s other piece r ∙ sym (written_elsewhere z stood low new block.0 (λ k. let p = t.fetched one m f stamp block q s (ap is_some r) in outside z c numbers absent block.0 p.0 p.1 k));
      kept = λ o k one m. blocks_right one m;
    }
