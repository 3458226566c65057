-- Rows that are counted, and how the counts may go on: no more is kept, no answer is taken back, and what isn't kept any more is answered.
use Rattle.std.proofs.Common.{arith, ◌≡◌, ℕ, ◌+◌, ◌≤◌, Bool, true, false, cond, List, [], ◌∷◌, ◌++◌, Option, Some, None, option_map, refl}
use Rattle.std.specs.List.{find}
use Rattle.sprite_ids.specs.Lists.{less, total}
use Rattle.sprite_ids.specs.declared.TxNo.{TxNo}
use Rattle.kernel_steps.specs.Rows.{first_under, is_under}
use Rattle.packet_bodies.specs.declared.ReplyBody.{ReplyBody}
use Rattle.unix_calls.specs.declared.About.{About}
use Rattle.client_homes.specs.declared.client.ClientProcs.{ClientProcs}
use Rattle.client_homes.specs.declared.client.Parked.{Parked}
use Rattle.client_requests.specs.Kept.{answer_of, ask_of, wait_of}

-- ---- rows

pub total_push : {X : Type 0} (f : X → ℕ) (xs : List X) (x : X) → total f (xs ++ x ∷ []) ≡ total f xs + f x
total_push f [] x = omega arith
total_push f (y ∷ ys) x = (let rest = total_push f ys x in omega arith)

-- the number of a looked-up value
abbrev pub found : {V : Type 0} → (V → ℕ) → Option V → ℕ
found g (Some v) = g v
found g None = 0

found_by : {K V : Type 0} (g : V → ℕ) (row : K × V) (rows more : List (K × V)) (o : Option (K × V)) (b : Bool)
    → total (λ (r : K × V). g r.1) rows ≡ found g (option_map (λ (r : K × V). r.1) o) + total (λ (r : K × V). g r.1) more
    → g row.1 + total (λ (r : K × V). g r.1) rows ≡ found g (option_map (λ (r : K × V). r.1) (cond b (Some row) o)) + total (λ (r : K × V). g r.1) (cond b rows (row ∷ more))
found_by {K} {V} g row rows more o true e = refl
found_by {K} {V} g row rows more o false e = omega arith

-- the first row of a key is taken out, where there is one
pub total_first : {K V : Type 0} (same : K → K → Bool) (key : K) (g : V → ℕ) (rows : List (K × V))
    → total (λ (r : K × V). g r.1) rows ≡ found g (first_under same key rows) + total (λ (r : K × V). g r.1) (less (is_under same key) rows)
total_first {K} {V} same key g [] = refl
total_first {K} {V} same key g (row ∷ rows) = found_by g row rows (less (is_under same key) rows) (find (is_under same key) rows) (same row.0 key) (total_first same key g rows)

-- ---- counts

-- what of a kernel tells of the remote calls of others
pub record View : Type 0 where
  pub waits : List (ℕ × Parked)
  pub asked : List (About × Option TxNo)
  pub answers : List (TxNo × ReplyBody)

abbrev pub view : ClientProcs → View
view s = record { waits = s.waits; asked = s.asked; answers = s.files.out.answers }

-- of one of them: how often it is kept so, and answered
pub record Counts : Type 0 where
  pub waits : ℕ
  pub asks : ℕ
  pub answers : ℕ

abbrev pub counts : TxNo → View → Counts
counts tx v = record { waits = total (wait_of tx) v.waits; asks = total (ask_of tx) v.asked; answers = total (answer_of tx) v.answers }

pub record Follows (first now : Counts) : Type 0 where
  pub waits : now.waits ≤ first.waits
  pub asks : now.asks ≤ first.asks
  pub answers : first.answers ≤ now.answers
  pub none_lost : first.waits + first.asks + first.answers ≤ now.waits + now.asks + now.answers

pub follows_same : (c : Counts) → Follows c c
follows_same c = record { waits = omega arith; asks = omega arith; answers = omega arith; none_lost = omega arith }

module _ (first : Counts) where
  abbrev pub At : ℕ → ℕ → ℕ → Type 0
  At w a r = Follows first (record { waits = w; asks = a; answers = r })

  -- on from numbers to others
  goes_on : (w a r w1 a1 r1 : ℕ) → w1 ≤ w → a1 ≤ a → r ≤ r1 → w + a + r ≤ w1 + a1 + r1 → At w a r → At w1 a1 r1
  goes_on w a r w1 a1 r1 h k l m p = (let w0 = p.waits in let a0 = p.asks in let r0 = p.answers in let n0 = p.none_lost in record { waits = omega arith; asks = omega arith; answers = omega arith; none_lost = omega arith })

  -- an answer more
  pub answered : (w a r f : ℕ) → At w a r → At w a (r + f)
  answered w a r f p = goes_on w a r w a (r + f) (omega arith) (omega arith) (omega arith) (omega arith) p

  -- a `wait` isn't parked any more, and answered
  pub wait_answered : (w a r f : ℕ) → At (f + w) a r → At w a (r + f)
  wait_answered w a r f p = goes_on (f + w) a r w a (r + f) (omega arith) (omega arith) (omega arith) (omega arith) p

  -- nor is an ask kept
  pub ask_answered : (w a r f : ℕ) → At w (f + a) r → At w a (r + f)
  ask_answered w a r f p = goes_on w (f + a) r w a (r + f) (omega arith) (omega arith) (omega arith) (omega arith) p

  -- or it was one of a process of this kernel
  pub own_wait : (w a r : ℕ) → At (0 + w) a r → At w a r
  own_wait w a r p = goes_on (0 + w) a r w a r (omega arith) (omega arith) (omega arith) (omega arith) p

  pub own_ask : (w a r : ℕ) → At w (0 + a) r → At w a r
  own_ask w a r p = goes_on w (0 + a) r w a r (omega arith) (omega arith) (omega arith) (omega arith) p

  -- it is parked again
  pub wait_parked : (w a r f : ℕ) → At (f + w) a r → At (w + f) a r
  wait_parked w a r f p = goes_on (f + w) a r (w + f) a r (omega arith) (omega arith) (omega arith) (omega arith) p

  -- a process of this kernel waits or asks
  pub wait_more : (w a r : ℕ) → At w a r → At (w + 0) a r
  wait_more w a r p = goes_on w a r (w + 0) a r (omega arith) (omega arith) (omega arith) (omega arith) p

  pub ask_more : (w a r : ℕ) → At w a r → At w (a + 0) r
  ask_more w a r p = goes_on w a r w (a + 0) r (omega arith) (omega arith) (omega arith) (omega arith) p
