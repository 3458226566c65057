-- Which blocks are held after a change, and which a write touches.
use Rattle.std.proofs.Common.{◌≡◌, ◌≢◌, ◌≤◌, ◌<◌, ◌⊎◌, ℕ, zero, suc, ◌+◌, ◌-◌, ◌*◌, ◌/◌, ◌==◌, nat_lt, Bool, true, false, cond, not, List, [], ◌∷◌, ◌++◌, length, map, Some, None, refl, sym, ap, ◌∙◌, subst, inl, inr, arith, eq-eqb, ne_eqb, lt-ltb, max}
use Rattle.std.proofs.lemmas.Bool.{ltb-true}
use Rattle.std.proofs.lemmas.Bool.Decides.{eqb_tells}
use Rattle.std.proofs.lemmas.Nat.{le-div}
use Rattle.std.proofs.Math.Nat.{div-mul-le_self, div-zero, mul-le-mul_right}
use Rattle.file_views.specs.declared.client.Held.{Held}
use Rattle.file_views.specs.Setting.{Setting}
use Rattle.file_views.specs.Contents.{numbers_from, blocks_between}
use Rattle.file_views.specs.Clients.{held, without_block, with_block, held_bytes, block_written, blocks_written, size_written}
use Rattle.file_views.specs.Here.{In, Unique}
use Rattle.file_views.proofs.MemberLaws.{in_last, in_filter, map_in}
use Rattle.file_views.proofs.ShapeStepLaws.{in_numbers}
use Rattle.file_views.proofs.AskingLaws.{held_written}

-- a number stands in a list, or it doesn't
pub in_or_out : (x : ℕ) (xs : List ℕ) → In x xs ⊎ (In x xs → ⊥)
in_or_out x [] = inr (λ m. m)
in_or_out x (y ∷ ys) = first (eqb_tells x y) (in_or_out x ys)
  where
    first : ((x == y) ≡ true) × (x ≡ y) ⊎ ((x == y) ≡ false) × (x ≢ y) → In x ys ⊎ (In x ys → ⊥) → In x (y ∷ ys) ⊎ (In x (y ∷ ys) → ⊥)
    first (inl a) o = inl (inl a.1)
    first (inr b) (inl m) = inl (inr m)
    first (inr b) (inr n) = inr (λ m. elim m [ inl e ↦ b.1 e | inr k ↦ n k ])

pub held_without_same : (blocks : List Held) (number : ℕ) → held (without_block number blocks) number ≡ None
held_without_same [] number = refl
held_without_same (h ∷ blocks) number = first (h.block.0 == number) refl (held_without_same blocks number)
  where
    first : (b : Bool) → (h.block.0 == number) ≡ b → held (without_block number blocks) number ≡ None → held (cond (not b) (h ∷ without_block number blocks) (without_block number blocks)) number ≡ None
    first true e f = f
    first false e f = ap (λ b. cond b (Some h) (held (without_block number blocks) number)) e ∙ f

held_behind : (blocks : List Held) (new : Held) → held blocks new.block.0 ≡ None → held (blocks ++ new ∷ []) new.block.0 ≡ Some new
held_behind [] new n = ap (λ b. cond b (Some new) None) (eq-eqb new.block.0 new.block.0 refl)
held_behind (h ∷ blocks) new n = first (h.block.0 == new.block.0) refl n (held_behind blocks new)
  where
    first : (b : Bool) → (h.block.0 == new.block.0) ≡ b → cond b (Some h) (held blocks new.block.0) ≡ None → (held blocks new.block.0 ≡ None → held (blocks ++ new ∷ []) new.block.0 ≡ Some new) → cond (h.block.0 == new.block.0) (Some h) (held (blocks ++ new ∷ []) new.block.0) ≡ Some new
    first true e q f = absurd (cc (q))
    first false e q f = ap (λ b. cond b (Some h) (held (blocks ++ new ∷ []) new.block.0)) e ∙ f q

pub held_with_same : (blocks : List Held) (new : Held) → held (with_block new blocks) new.block.0 ≡ Some new
held_with_same blocks new = held_behind (without_block new.block.0 blocks) new (held_without_same blocks new.block.0)

pub in_with_block : (blocks : List Held) (new one : Held) → In one (with_block new blocks) → In one blocks ⊎ (one ≡ new)
in_with_block blocks new one m = elim (in_last one new (without_block new.block.0 blocks) m) [ inl k ↦ inl (in_filter (λ (x : Held). not (x.block.0 == new.block.0)) one blocks k).0 | inr e ↦ inr e ]

-- a block that stands there is found by its number
pub in_held : (blocks : List Held) (one : Held) → Unique (map (λ (x : Held). x.block.0) blocks) → In one blocks → held blocks one.block.0 ≡ Some one
in_held [] one u m = absurd m
in_held (h ∷ blocks) one u (inl e) = ap (λ b. cond b (Some h) (held blocks one.block.0)) (eq-eqb h.block.0 one.block.0 (ap (λ (x : Held). x.block.0) (sym e))) ∙ ap Some (sym e)
in_held (h ∷ blocks) one u (inr m) = ap (λ b. cond b (Some h) (held blocks one.block.0)) (ne_eqb h.block.0 one.block.0 (λ e. u.0 (subst (λ n. In n (map (λ (x : Held). x.block.0) blocks)) (sym e) (map_in (λ (x : Held). x.block.0) one blocks m)))) ∙ in_held blocks one u.1 m

-- what stands there after a write
pub in_written : (z : Setting) (numbers : List ℕ) (blocks : List Held) (low : ℕ) (bytes : List ℕ) (count : ℕ) (one : Held) → In one (blocks_written z blocks low bytes count numbers) → In one blocks ⊎ In one.block.0 numbers
in_written z [] blocks low bytes count one m = inl m
in_written z (n ∷ rest) blocks low bytes count one m = elim (in_written z rest (with_block (block_written z (held_bytes z (held blocks n)) n low bytes (count + 1)) blocks) low bytes (count + 1) one m) [
  | inl k ↦ elim (in_with_block blocks (block_written z (held_bytes z (held blocks n)) n low bytes (count + 1)) one k) [ inl j ↦ inl j | inr e ↦ inr (inl (ap (λ (x : Held). x.block.0) e)) ]
  | inr k ↦ inr (inr k)
]

-- a block that the write touched is held with a number over those before
pub record Freshly (blocks : List Held) (number count : ℕ) : Type 0 where
  pub one : Held
  pub found : held blocks number ≡ Some one
  pub dirty : ℕ
  pub is_dirty : one.dirty ≡ Some dirty
  pub over : count < dirty

pub freshly_written : (z : Setting) (numbers : List ℕ) (blocks : List Held) (low : ℕ) (bytes : List ℕ) (count number : ℕ) → In number numbers → Freshly (blocks_written z blocks low bytes count numbers) number count
freshly_written z [] blocks low bytes count number m = absurd m
freshly_written z (n ∷ rest) blocks low bytes count number m = by_place (in_or_out number rest) m (λ k. freshly_written z rest (with_block (block_written z (held_bytes z (held blocks n)) n low bytes (count + 1)) blocks) low bytes (count + 1) number k)
  where
    new : Held
    new = block_written z (held_bytes z (held blocks n)) n low bytes (count + 1)

    by_place : In number rest ⊎ (In number rest → ⊥) → In number (n ∷ rest) → (In number rest → Freshly (blocks_written z (with_block new blocks) low bytes (count + 1) rest) number (count + 1)) → Freshly (blocks_written z (with_block new blocks) low bytes (count + 1) rest) number count
    by_place (inl k) j f = let r : Freshly (blocks_written z (with_block new blocks) low bytes (count + 1) rest) number (count + 1) = f k in record { one = r.one; found = r.found; dirty = r.dirty; is_dirty = r.is_dirty; over = (let o = r.over in omega (arith, o)) }
    by_place (inr k) (inl e) f = record {
      one = new;
      found = held_written z rest (with_block new blocks) low bytes (count + 1) number k ∙ ap (held (with_block new blocks)) e ∙ held_with_same blocks new;
      dirty = count + 1;
      is_dirty = refl;
      over = omega arith;
    }
    by_place (inr k) (inr j) f = absurd (k j)

-- blocks in a row
pub numbers_in : (first count number : ℕ) → first ≤ number → number < first + count → In number (numbers_from first count)
numbers_in first zero number l h = absurd (omega (arith, l, h))
numbers_in first (suc count) number l h = elim (eqb_tells number first) [ inl a ↦ inl a.1 | inr b ↦ inr (let d = b.1 in numbers_in (first + 1) count number (above d) (omega (arith, h))) ]
  where
    above : number ≢ first → first + 1 ≤ number
    above d = elim (three first number) [ inl k ↦ k | inr e ↦ absurd (d (below e)) ]
      where
        three : (a b : ℕ) → (a + 1 ≤ b) ⊎ (b ≤ a)
        three a b = grind arith

        below : number ≤ first → number ≡ first
        below e = omega (arith, e, l)

pub div_below : (a b k : ℕ) → a ≤ b → a / k ≤ b / k
div_below a b zero l = let p = div-zero a in omega (arith, p)
div_below a b (suc k) l = let p = div-mul-le_self a (suc k) in le-div (a / suc k) b (suc k) (omega arith) (omega (arith, p, l))

between_under : (low high size number : ℕ) → number < low / size + ((high - 1) / size + 1 - low / size) → low / size ≤ number → number ≤ (high - 1) / size
between_under low high size number h l = omega (arith, h, l)

pub in_between : (z : Setting) (low high number : ℕ) → In number (blocks_between z low high) → number * z.block < high
in_between z low high number = by_test (nat_lt low high) refl
  where
    by_test : (b : Bool) → nat_lt low high ≡ b → In number (cond b (numbers_from (low / z.block) ((high - 1) / z.block + 1 - low / z.block)) []) → number * z.block < high
    by_test true e m =
        let r = in_numbers (low / z.block) ((high - 1) / z.block + 1 - low / z.block) number m in
        let p = mul-le-mul_right z.block (between_under low high z.block number r.1 r.0) in
        let q = div-mul-le_self (high - 1) z.block in
        let l = ltb-true low high e in
        omega (arith, p, q, l)
    by_test false e m = absurd m

pub last_between : (z : Setting) (low high : ℕ) → low < high → In ((high - 1) / z.block) (blocks_between z low high)
last_between z low high l = subst (λ b. In ((high - 1) / z.block) (cond b (numbers_from (low / z.block) ((high - 1) / z.block + 1 - low / z.block)) [])) (sym (ltb-of l)) (numbers_in (low / z.block) ((high - 1) / z.block + 1 - low / z.block) ((high - 1) / z.block) below (omega (arith, below)))
  where
    ltb-of : low < high → nat_lt low high ≡ true
    ltb-of k = lt-ltb low high k

    below : low / z.block ≤ (high - 1) / z.block
    below = div_below low (high - 1) z.block (omega (arith, l))

-- a write that lets the file grow touches its last block
pub size_or_last : (z : Setting) (size low : ℕ) (bytes : List ℕ) → (size_written size low bytes ≡ size) ⊎ In ((size_written size low bytes - 1) / z.block) (blocks_between z low (low + length bytes))
size_or_last z size low [] = inl refl
size_or_last z size low (first ∷ rest) = elim (two (low + length (first ∷ rest)) size) [
  | inl l ↦ inl (omega (arith, l))
  | inr l ↦ inr (subst (λ n. In ((n - 1) / z.block) (blocks_between z low (low + length (first ∷ rest)))) (grown l) (last_between z low (low + length (first ∷ rest)) (omega arith)))
]
  where
    two : (a b : ℕ) → (a ≤ b) ⊎ (b < a)
    two a b = grind arith

    grown : size < low + length (first ∷ rest) → low + length (first ∷ rest) ≡ max size (low + length (first ∷ rest))
    grown l = omega (arith, l)
