-- Write-backs, a part of the seventh layer of soundness, said of one kernel, under the changes of calls and of a client.
use Rattle.std.proofs.Common.{◌≡◌, ◌≢◌, ◌≤◌, ◌<◌, ◌⊎◌, ℕ, ◌+◌, ◌-◌, ◌*◌, ◌/◌, ◌==◌, nat_lt, Bool, true, false, cond, not, ◌&&◌, is_some, List, [], ◌∷◌, ◌++◌, length, Option, Some, None, refl, sym, ap, ◌∙◌, subst, inl, inr, arith, eqb-true}
use Rattle.std.proofs.lemmas.Bool.{and_parts, ltb-true}
use Rattle.std.proofs.lemmas.Bool.Decides.{eqb_tells}
use Rattle.sprite_ids.specs.declared.BlockNo.{BlockNo}
use Rattle.file_views.specs.declared.client.Held.{Held}
use Rattle.file_views.specs.declared.client.Client.{Client}
use Rattle.file_views.specs.declared.call.FileCall.{FileCall}
use Rattle.file_views.specs.declared.step.FileStep.{FileStep}
use Rattle.file_views.specs.declared.step.FileStep.TheVariants as act
use Rattle.file_views.specs.Setting.{Setting}
use Rattle.file_views.specs.Contents.{cut, numbers_from, blocks_between}
use Rattle.file_views.specs.Clients.{held, same_number, without_block, with_block, cleaned, blocks_written_back, wrote_back, blocks_written, size_written, write_cached, done_cached}
use Rattle.file_views.specs.Here.{In, Pairs, request_stamp}
use Rattle.file_views.specs.SoundShapes.{writes_back}
use Rattle.file_views.specs.SoundRequests.{is_dirty_in, WritesBack, Present, WritingBacks}
use Rattle.file_views.proofs.MemberLaws.{in_last, in_filter, held_found}
use Rattle.file_views.proofs.ClientLaws.{choose_by}
use Rattle.file_views.proofs.AskingLaws.{held_with, held_without, held_written}
use Rattle.file_views.proofs.BlockLaws.{in_or_out, held_without_same, held_with_same, in_with_block, in_written, Freshly, freshly_written, in_between, size_or_last}

-- a call of the kernel that stood there, and had no reply where it has none
pub record Sent (one : FileCall) (calls : List FileCall) : Type 0 where
  pub other : FileCall
  pub there : In other calls
  pub number_is : other.number ≡ one.number
  pub from_is : other.from ≡ one.from
  pub body_is : other.body ≡ one.body
  pub dirty_is : other.dirty ≡ one.dirty
  pub unserved : one.reply ≡ None → other.reply ≡ None

abbrev pub EachSent : ℕ → List FileCall → List FileCall → Type 0
EachSent kernel xs ys = (one : FileCall) → In one ys → one.from ≡ kernel → Sent one xs

was : (kernel stamp : ℕ) (one : FileCall) (block : BlockNo) (size : ℕ) (piece : List ℕ) (calls : List FileCall) → WritesBack kernel stamp one block size piece → (s : Sent one calls) → WritesBack kernel stamp s.other block size piece
was kernel stamp one block size piece calls w s = record { from_kernel = s.from_is ∙ w.from_kernel; is_write_back = s.body_is ∙ w.is_write_back }

present_of : (blocks : List Held) (number : ℕ) (one : FileCall) (calls : List FileCall) (there : Held) → Present blocks number one.dirty there → (s : Sent one calls) → Present blocks number s.other.dirty there
present_of blocks number one calls there p s = subst (λ d. Present blocks number d there) (sym s.dirty_is) p

pub writing_calls : (z : Setting) (kernel current : ℕ) (c : Client) (xs ys : List FileCall) → WritingBacks z kernel current c xs → EachSent kernel xs ys → WritingBacks z kernel current c ys
writing_calls z kernel current c xs ys f s = record {
  one_each = λ x y m n block another size more piece rest a b e. let u : Sent x xs = s x m a.from_kernel in let w : Sent y xs = s y n b.from_kernel in sym u.number_is ∙ f.one_each u.other w.other u.there w.there block another size more piece rest (was kernel c.stamp x block size piece xs a u) (was kernel c.stamp y another more rest xs b w) e ∙ w.number_is;
  dirty_within = f.dirty_within;
  carries = λ x m block size piece a there p. let u : Sent x xs = s x m a.from_kernel in f.carries u.other u.there block size piece (was kernel current x block size piece xs a u) there (present_of c.blocks block.0 x xs there p u);
  held_dirty = λ x m block size piece a r. let u : Sent x xs = s x m a.from_kernel in f.held_dirty u.other u.there block size piece (was kernel current x block size piece xs a u) (u.unserved r);
  under_size = λ x m block size piece a r. let u : Sent x xs = s x m a.from_kernel in f.under_size u.other u.there block size piece (was kernel current x block size piece xs a u) (u.unserved r);
  size_under = λ x m block size piece a r. let u : Sent x xs = s x m a.from_kernel in f.size_under u.other u.there block size piece (was kernel current x block size piece xs a u) (u.unserved r);
  last_size = λ x m block size piece a r there p e. let u : Sent x xs = s x m a.from_kernel in f.last_size u.other u.there block size piece (was kernel current x block size piece xs a u) (u.unserved r) there (present_of c.blocks block.0 x xs there p u) e;
}

-- the requests of a kernel have at most that stamp
abbrev pub Low : ℕ → ℕ → List FileCall → Type 0
Low kernel top calls = (one : FileCall) → In one calls → one.from ≡ kernel → (stamp : ℕ) → request_stamp one.body ≡ Some stamp → stamp ≤ top

pub too_old : (kernel top stamp : ℕ) (calls : List FileCall) → Low kernel top calls → top < stamp → (one : FileCall) → In one calls → (block : BlockNo) (size : ℕ) (piece : List ℕ) → WritesBack kernel stamp one block size piece → ⊥
too_old kernel top stamp calls low l one m block size piece w = let k = low one m w.from_kernel stamp (ap request_stamp w.is_write_back) in omega (arith, k, l)

-- the current stamp rises over those of all requests
pub writing_current : (z : Setting) (kernel current more : ℕ) (c : Client) (calls : List FileCall) → WritingBacks z kernel current c calls → current ≤ more → Low kernel current calls → WritingBacks z kernel more c calls
writing_current z kernel current more c calls f l low = elim (eqb_tells more current) [ inl a ↦ subst (λ n. WritingBacks z kernel n c calls) (sym a.1) f | inr b ↦ risen b.1 ]
  where
    risen : more ≢ current → WritingBacks z kernel more c calls
    risen d = record {
      one_each = f.one_each;
      dirty_within = f.dirty_within;
      carries = λ x m block size piece a. absurd (old x m block size piece a);
      held_dirty = λ x m block size piece a. absurd (old x m block size piece a);
      under_size = λ x m block size piece a. absurd (old x m block size piece a);
      size_under = λ x m block size piece a. absurd (old x m block size piece a);
      last_size = λ x m block size piece a. absurd (old x m block size piece a);
    }
      where
        over : current < more
        over = elim (two current more) [ inl k ↦ k | inr k ↦ absurd (d (omega (arith, k, l))) ]
          where
            two : (a b : ℕ) → (a < b) ⊎ (b ≤ a)
            two a b = grind arith

        old : (x : FileCall) → In x calls → (block : BlockNo) (size : ℕ) (piece : List ℕ) → WritesBack kernel more x block size piece → ⊥
        old = too_old kernel current more calls low over

-- a client whose own stamp rises over those of all requests
pub writing_newer : (z : Setting) (kernel current : ℕ) (c d : Client) (calls : List FileCall) → ((one : Held) → In one d.blocks → is_some one.dirty ≡ true → one.block.0 * z.block < d.size) → c.stamp < d.stamp → d.stamp ≤ current → Low kernel c.stamp calls → WritingBacks z kernel current d calls
writing_newer z kernel current c d calls w l h low = record {
  one_each = λ x y m n block another size more piece rest a. absurd (too_old kernel c.stamp d.stamp calls low l x m block size piece a);
  dirty_within = w;
  carries = λ x m block size piece a. absurd (old x m block size piece a);
  held_dirty = λ x m block size piece a. absurd (old x m block size piece a);
  under_size = λ x m block size piece a. absurd (old x m block size piece a);
  size_under = λ x m block size piece a. absurd (old x m block size piece a);
  last_size = λ x m block size piece a. absurd (old x m block size piece a);
}
  where
    old : (x : FileCall) → In x calls → (block : BlockNo) (size : ℕ) (piece : List ℕ) → WritesBack kernel current x block size piece → ⊥
    old = too_old kernel c.stamp current calls low (omega (arith, l, h))

-- a client that keeps its stamp: what a call's dirty number tells of its blocks was so before, what is to be written back stays dirty,
-- and it grows only where its last block becomes dirty anew
pub record Keeps (z : Setting) (kernel current : ℕ) (c d : Client) (calls : List FileCall) : Type 0 where
  pub stamp : d.stamp ≡ c.stamp
  pub within : (one : Held) → In one d.blocks → is_some one.dirty ≡ true → one.block.0 * z.block < d.size
  pub size : c.size ≤ d.size
  pub still : (one : FileCall) → In one calls → (block : BlockNo) (size : ℕ) (piece : List ℕ) → WritesBack kernel current one block size piece → is_dirty_in (held c.blocks block.0) ≡ true → is_dirty_in (held d.blocks block.0) ≡ true
  pub present : (one : FileCall) → In one calls → one.from ≡ kernel → (number : ℕ) (there : Held) → Present d.blocks number one.dirty there → Present c.blocks number one.dirty there
  pub last : (one : FileCall) → In one calls → one.from ≡ kernel → (there : Held) → Present d.blocks ((d.size - 1) / z.block) one.dirty there → d.size ≡ c.size

pub writing_keeps : (z : Setting) (kernel current : ℕ) (c d : Client) (calls : List FileCall) → WritingBacks z kernel current c calls → Keeps z kernel current c d calls → WritingBacks z kernel current d calls
writing_keeps z kernel current c d calls f k = record {
  one_each = subst (λ n. Pairs (λ one other. (block another : BlockNo) (size more : ℕ) (piece rest : List ℕ) → WritesBack kernel n one block size piece → WritesBack kernel n other another more rest → block.0 ≡ another.0 → one.number ≡ other.number) calls) (sym k.stamp) f.one_each;
  dirty_within = k.within;
  carries = λ x m block size piece a there p. f.carries x m block size piece a there (k.present x m a.from_kernel block.0 there p);
  held_dirty = λ x m block size piece a r. k.still x m block size piece a (f.held_dirty x m block size piece a r);
  under_size = f.under_size;
  size_under = λ x m block size piece a r. let l = f.size_under x m block size piece a r in let h = k.size in omega (arith, l, h);
  last_size = λ x m block size piece a r there p e.
      let same : d.size ≡ c.size = k.last x m a.from_kernel there (subst (λ n. Present d.blocks n x.dirty there) e p) in
      f.last_size x m block size piece a r there (k.present x m a.from_kernel block.0 there p) (e ∙ ap (λ n. (n - 1) / z.block) same) ∙ sym same;
}

-- the blocks and the size stay
pub keeps_same : (z : Setting) (kernel current : ℕ) (c d : Client) (calls : List FileCall) → WritingBacks z kernel current c calls → d.stamp ≡ c.stamp → d.blocks ≡ c.blocks → d.size ≡ c.size → Keeps z kernel current c d calls
keeps_same z kernel current c d calls f s b e = record {
  stamp = s;
  within = λ one m k. subst (λ n. one.block.0 * z.block < n) (sym e) (f.dirty_within one (subst (In one) b m) k);
  size = omega (arith, e);
  still = λ one m block size piece w h. ap (λ xs. is_dirty_in (held xs block.0)) b ∙ h;
  present = λ one m q number there p. subst (λ xs. Present xs number one.dirty there) b p;
  last = λ one m q there p. e;
}

-- a clean block comes in
pub clean_absent : (blocks : List Held) (new : Held) (number : ℕ) (dirty : Option ℕ) (there : Held) → new.dirty ≡ None → Present (with_block new blocks) number dirty there → Present blocks number dirty there
clean_absent blocks new number dirty there n p = elim (eqb_tells new.block.0 number) [
  | inl a ↦ absurd (none (subst (λ x. held (with_block new blocks) x ≡ Some there) (sym a.1) p.found))
  | inr b ↦ record { found = sym (held_with blocks new number b.1) ∙ p.found; same = p.same }
]
  where
    none : held (with_block new blocks) new.block.0 ≡ Some there → ⊥
    none e = let same : Some new ≡ Some there = sym (held_with_same blocks new) ∙ e in let t : new ≡ there = cc (same) in cc (p.same, ap (λ (h : Held). same_number h.dirty dirty) t, ap (λ o. same_number o dirty) n)

pub keeps_filled : (z : Setting) (kernel current : ℕ) (c : Client) (new : Held) (calls : List FileCall) → WritingBacks z kernel current c calls → new.dirty ≡ None → held c.blocks new.block.0 ≡ None → Keeps z kernel current c (record c { blocks = with_block new c.blocks }) calls
keeps_filled z kernel current c new calls f n absent = record {
  stamp = refl;
  within = λ one m k. elim (in_with_block c.blocks new one m) [ inl j ↦ f.dirty_within one j k | inr e ↦ absurd (cc (k, n, ap (λ (h : Held). is_some h.dirty) e, ap is_some n)) ];
  size = omega arith;
  still = λ one m block size piece w h. ap is_dirty_in (held_with c.blocks new block.0 (λ e. cc (h, absent, ap (λ x. is_dirty_in (held c.blocks x)) (sym e), ap is_dirty_in absent))) ∙ h;
  present = λ one m q number there p. clean_absent c.blocks new number one.dirty there n p;
  last = λ one m q there p. refl;
}

-- a clean block is dropped
pub keeps_dropped : (z : Setting) (kernel current : ℕ) (c : Client) (one : Held) (number : ℕ) (calls : List FileCall) → WritingBacks z kernel current c calls → held c.blocks number ≡ Some one → one.dirty ≡ None → Keeps z kernel current c (record c { blocks = without_block number c.blocks }) calls
keeps_dropped z kernel current c one number calls f h n = record {
  stamp = refl;
  within = λ x m k. f.dirty_within x (in_filter (λ (y : Held). not (y.block.0 == number)) x c.blocks m).0 k;
  size = omega arith;
  still = λ x m block size piece w d. ap is_dirty_in (held_without c.blocks number block.0 (λ e. cc (d, h, n, ap (λ y. is_dirty_in (held c.blocks y)) (sym e), ap is_dirty_in h, ap is_some n))) ∙ d;
  present = λ x m q place there p. elim (eqb_tells number place) [
    | inl a ↦ absurd (cc (p.found, held_without_same c.blocks number, ap (held (without_block number c.blocks)) (sym a.1)))
    | inr b ↦ record { found = sym (held_without c.blocks number place b.1) ∙ p.found; same = p.same }
  ];
  last = λ x m q there p. refl;
}

-- a block is written back, of which no write-back is out any more
back_present : (blocks : List Held) (dirty : Option ℕ) (current : Bool) (o : Option Held) (number place : ℕ) (other : Option ℕ) (there : Held) → held blocks number ≡ o → Present (blocks_written_back blocks dirty current o) place other there → Present blocks place other there
back_present blocks dirty current (Some one) number place other there h = choose_by (λ xs. Present xs place other there → Present blocks place other there) (current && same_number one.dirty dirty) (with_block (cleaned one) blocks) blocks (λ e p. clean_absent blocks (cleaned one) place other there refl p) (λ e p. p)
back_present blocks dirty current None number place other there h = λ p. p

back_within : (z : Setting) (blocks : List Held) (dirty : Option ℕ) (current : Bool) (o : Option Held) (size : ℕ) → ((one : Held) → In one blocks → is_some one.dirty ≡ true → one.block.0 * z.block < size) → (one : Held) → In one (blocks_written_back blocks dirty current o) → is_some one.dirty ≡ true → one.block.0 * z.block < size
back_within z blocks dirty current (Some one) size f = choose_by (λ xs. (x : Held) → In x xs → is_some x.dirty ≡ true → x.block.0 * z.block < size) (current && same_number one.dirty dirty) (with_block (cleaned one) blocks) blocks
    (λ e x m k. elim (in_with_block blocks (cleaned one) x m) [ inl j ↦ f x j k | inr q ↦ absurd (cc (k, ap (λ (y : Held). is_some y.dirty) q)) ]) (λ e. f)
back_within z blocks dirty current None size f = f

back_still : (blocks : List Held) (dirty : Option ℕ) (current : Bool) (o : Option Held) (number place : ℕ) → held blocks number ≡ o → (current ≡ true → number ≢ place) → is_dirty_in (held blocks place) ≡ true → is_dirty_in (held (blocks_written_back blocks dirty current o) place) ≡ true
back_still blocks dirty current (Some one) number place h d e = choose_by (λ xs. is_dirty_in (held xs place) ≡ true) (current && same_number one.dirty dirty) (with_block (cleaned one) blocks) blocks
    (λ q. ap is_dirty_in (held_with blocks (cleaned one) place (λ r. d (and_parts current (same_number one.dirty dirty) q).0 (sym (held_found blocks number one h).1 ∙ r))) ∙ e) (λ q. e)
back_still blocks dirty current None number place h d e = e

pub keeps_back : (z : Setting) (kernel current : ℕ) (c : Client) (stamp number : ℕ) (dirty : Option ℕ) (calls : List FileCall) → WritingBacks z kernel current c calls → (stamp ≡ c.stamp → (one : FileCall) → In one calls → (block : BlockNo) (size : ℕ) (piece : List ℕ) → WritesBack kernel current one block size piece → number ≢ block.0) → Keeps z kernel current c (wrote_back c stamp number dirty) calls
keeps_back z kernel current c stamp number dirty calls f apart = record {
  stamp = refl;
  within = back_within z c.blocks dirty (stamp == c.stamp) (held c.blocks number) c.size f.dirty_within;
  size = omega arith;
  still = λ one m block size piece w d. back_still c.blocks dirty (stamp == c.stamp) (held c.blocks number) number block.0 refl (λ e. apart (eqb-true stamp c.stamp e) one m block size piece w) d;
  present = λ one m q place there p. back_present c.blocks dirty (stamp == c.stamp) (held c.blocks number) number place one.dirty there refl p;
  last = λ one m q there p. refl;
}

-- a write in the cache
same_some : (one other : Option ℕ) (number : ℕ) → one ≡ Some number → same_number one other ≡ true → other ≡ Some number
same_some one (Some other) number e s = ap Some (sym (eqb-true number other (sym (ap (λ o. same_number o (Some other)) e) ∙ s)))
same_some one None number e s = absurd (cc (s, ap (λ o. same_number o None) e))

written_present : (z : Setting) (c : Client) (low : ℕ) (bytes : List ℕ) (numbers : List ℕ) (dirty : Option ℕ) (number : ℕ) (there : Held) → ((n : ℕ) → dirty ≡ Some n → n ≤ c.count) → Present (blocks_written z c.blocks low bytes c.count numbers) number dirty there → (In number numbers → ⊥) × Present c.blocks number dirty there
written_present z c low bytes numbers dirty number there under p = elim (in_or_out number numbers) [
  | inl m ↦ absurd (fresh m)
  | inr n ↦ (n, record { found = sym (held_written z numbers c.blocks low bytes c.count number n) ∙ p.found; same = p.same })
]
  where
    fresh : In number numbers → ⊥
    fresh m =
        let r : Freshly (blocks_written z c.blocks low bytes c.count numbers) number c.count = freshly_written z numbers c.blocks low bytes c.count number m in
        let same : Some r.one ≡ Some there = sym r.found ∙ p.found in
        let t : r.one ≡ there = cc (same) in
        let l = under r.dirty (same_some there.dirty dirty r.dirty (ap (λ (h : Held). h.dirty) (sym t) ∙ r.is_dirty) p.same) in
        let o = r.over in
        omega (arith, l, o)

written_still : (z : Setting) (c : Client) (low : ℕ) (bytes : List ℕ) (numbers : List ℕ) (number : ℕ) → is_dirty_in (held c.blocks number) ≡ true → is_dirty_in (held (blocks_written z c.blocks low bytes c.count numbers) number) ≡ true
written_still z c low bytes numbers number d = elim (in_or_out number numbers) [
  | inl m ↦ (let r : Freshly (blocks_written z c.blocks low bytes c.count numbers) number c.count = freshly_written z numbers c.blocks low bytes c.count number m in ap is_dirty_in r.found ∙ ap is_some r.is_dirty)
  | inr n ↦ ap is_dirty_in (held_written z numbers c.blocks low bytes c.count number n) ∙ d
]

grows : (size low : ℕ) (bytes : List ℕ) → size ≤ size_written size low bytes
grows size low [] = omega arith
grows size low (first ∷ rest) = omega arith

touched_within : (z : Setting) (size low : ℕ) (bytes : List ℕ) (number : ℕ) → In number (blocks_between z low (low + length bytes)) → number * z.block < size_written size low bytes
touched_within z size low [] number m = absurd (none (nat_lt low (low + 0)) refl m)
  where
    none : (b : Bool) → nat_lt low (low + 0) ≡ b → In number (cond b (numbers_from (low / z.block) ((low + 0 - 1) / z.block + 1 - low / z.block)) []) → ⊥
    none true e k = let l = ltb-true low (low + 0) e in omega (arith, l)
    none false e k = k
touched_within z size low (first ∷ rest) number m = let l = in_between z low (low + length (first ∷ rest)) number m in omega (arith, l)

pub keeps_write : (z : Setting) (kernel current : ℕ) (c : Client) (low : ℕ) (bytes : List ℕ) (calls : List FileCall) → WritingBacks z kernel current c calls → ((one : FileCall) → In one calls → one.from ≡ kernel → (n : ℕ) → one.dirty ≡ Some n → n ≤ c.count) → Keeps z kernel current c (write_cached z c low bytes) calls
keeps_write z kernel current c low bytes calls f under = record {
  stamp = refl;
  within = λ one m k. elim (in_written z (blocks_between z low (low + length bytes)) c.blocks low bytes c.count one m) [
    | inl j ↦ (let l = f.dirty_within one j k in let g = grows c.size low bytes in omega (arith, l, g))
    | inr j ↦ touched_within z c.size low bytes one.block.0 j
  ];
  size = grows c.size low bytes;
  still = λ one m block size piece w d. written_still z c low bytes (blocks_between z low (low + length bytes)) block.0 d;
  present = λ one m q number there p. (written_present z c low bytes (blocks_between z low (low + length bytes)) one.dirty number there (under one m q) p).1;
  last = λ one m q there p. elim (size_or_last z c.size low bytes) [ inl e ↦ e | inr k ↦ absurd ((written_present z c low bytes (blocks_between z low (low + length bytes)) one.dirty _ there (under one m q) p).0 k) ];
}

pub keeps_done : (z : Setting) (kernel current : ℕ) (c : Client) (step : FileStep) (calls : List FileCall) → WritingBacks z kernel current c calls → ((one : FileCall) → In one calls → one.from ≡ kernel → (n : ℕ) → one.dirty ≡ Some n → n ≤ c.count) → Keeps z kernel current c (done_cached z c step) calls
keeps_done z kernel current c (act.Writing pid number place stream from bytes) calls f u = keeps_write z kernel current c from bytes calls f u
keeps_done z kernel current c (act.Append pid number place stream bytes) calls f u = choose_by (λ d. Keeps z kernel current c d calls) (nat_lt z.most (c.size + length bytes)) c (write_cached z c c.size bytes) (λ e. keeps_same z kernel current c c calls f refl refl refl) (λ e. keeps_write z kernel current c c.size bytes calls f u)
keeps_done z kernel current c step calls f u = keeps_same z kernel current c c calls f refl refl refl

-- a request begins
pub record Begun (z : Setting) (kernel current : ℕ) (c : Client) (calls : List FileCall) (new : FileCall) : Type 0 where
  pub apart : (one : FileCall) → In one calls → (block another : BlockNo) (size more : ℕ) (piece rest : List ℕ) → WritesBack kernel c.stamp new block size piece → WritesBack kernel c.stamp one another more rest → block.0 ≡ another.0 → ⊥
  pub carries : (block : BlockNo) (size : ℕ) (piece : List ℕ) → WritesBack kernel current new block size piece → (there : Held) → Present c.blocks block.0 new.dirty there → piece ≡ cut z there.bytes block.0 size
  pub held_dirty : (block : BlockNo) (size : ℕ) (piece : List ℕ) → WritesBack kernel current new block size piece → is_dirty_in (held c.blocks block.0) ≡ true
  pub under_size : (block : BlockNo) (size : ℕ) (piece : List ℕ) → WritesBack kernel current new block size piece → block.0 * z.block + length piece ≤ size
  pub size_is : (block : BlockNo) (size : ℕ) (piece : List ℕ) → WritesBack kernel current new block size piece → size ≡ c.size

pub writing_begins : (z : Setting) (kernel current : ℕ) (c : Client) (calls : List FileCall) (new : FileCall) → WritingBacks z kernel current c calls → Begun z kernel current c calls new → WritingBacks z kernel current c (calls ++ new ∷ [])
writing_begins z kernel current c calls new f b = record {
  one_each = λ x y m n block another size more piece rest p q e. pair x y (in_last x new calls m) (in_last y new calls n) block another size more piece rest p q e;
  dirty_within = f.dirty_within;
  carries = λ x m block size piece a there p. elim (in_last x new calls m) [ inl k ↦ f.carries x k block size piece a there p | inr e ↦ b.carries block size piece (moved x block size piece e a) there (subst (λ (y : FileCall). Present c.blocks block.0 y.dirty there) e p) ];
  held_dirty = λ x m block size piece a r. elim (in_last x new calls m) [ inl k ↦ f.held_dirty x k block size piece a r | inr e ↦ b.held_dirty block size piece (moved x block size piece e a) ];
  under_size = λ x m block size piece a r. elim (in_last x new calls m) [ inl k ↦ f.under_size x k block size piece a r | inr e ↦ b.under_size block size piece (moved x block size piece e a) ];
  size_under = λ x m block size piece a r. elim (in_last x new calls m) [ inl k ↦ f.size_under x k block size piece a r | inr e ↦ (let q = b.size_is block size piece (moved x block size piece e a) in omega (arith, q)) ];
  last_size = λ x m block size piece a r there p e. elim (in_last x new calls m) [ inl k ↦ f.last_size x k block size piece a r there p e | inr q ↦ b.size_is block size piece (moved x block size piece q a) ];
}
  where
    moved : {stamp : ℕ} (x : FileCall) (block : BlockNo) (size : ℕ) (piece : List ℕ) → x ≡ new → WritesBack kernel stamp x block size piece → WritesBack kernel stamp new block size piece
    moved {stamp} x block size piece e a = subst (λ (y : FileCall). WritesBack kernel stamp y block size piece) e a

    pair : (x y : FileCall) → In x calls ⊎ (x ≡ new) → In y calls ⊎ (y ≡ new) → (block another : BlockNo) (size more : ℕ) (piece rest : List ℕ) → WritesBack kernel c.stamp x block size piece → WritesBack kernel c.stamp y another more rest → block.0 ≡ another.0 → x.number ≡ y.number
    pair x y (inl m) (inl n) block another size more piece rest p q e = f.one_each x y m n block another size more piece rest p q e
    pair x y (inl m) (inr g) block another size more piece rest p q e = absurd (b.apart x m another block more size rest piece (moved y another more rest g q) p (sym e))
    pair x y (inr g) (inl n) block another size more piece rest p q e = absurd (b.apart y n block another size more piece rest (moved x block size piece g p) q e)
    pair x y (inr g) (inr h) block another size more piece rest p q e = ap (λ (t : FileCall). t.number) (g ∙ sym h)

-- one that is no write-back
pub begun_other : (z : Setting) (kernel current : ℕ) (c : Client) (calls : List FileCall) (new : FileCall) → writes_back new.body ≡ false → Begun z kernel current c calls new
begun_other z kernel current c calls new n = record {
  apart = λ one m block another size more piece rest a. absurd (no block size piece a);
  carries = λ block size piece a. absurd (no block size piece a);
  held_dirty = λ block size piece a. absurd (no block size piece a);
  under_size = λ block size piece a. absurd (no block size piece a);
  size_is = λ block size piece a. absurd (no block size piece a);
}
  where
    no : {stamp : ℕ} (block : BlockNo) (size : ℕ) (piece : List ℕ) → WritesBack kernel stamp new block size piece → ⊥
    no block size piece a = cc (n, ap writes_back a.is_write_back)
