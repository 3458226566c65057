-- Fetches and operations, the first part of the seventh layer of soundness, under the changes of a view.
use Rattle.std.proofs.Common.{◌≡◌, ◌≢◌, ◌≤◌, ◌<◌, ◌⊎◌, ℕ, ◌+◌, ◌*◌, ◌==◌, nat_lt, Bool, true, false, cond, not, ◌&&◌, is_none, List, [], ◌∷◌, ◌++◌, length, map, filter, Option, Some, None, refl, sym, ap, ◌∙◌, subst, inl, inr, arith, eqb-true, ne_eqb, lt-ltb}
use Rattle.std.proofs.lemmas.Bool.{and_parts, and_from, ltb-true}
use Rattle.sprite_ids.specs.declared.BlockNo.{BlockNo}
use Rattle.sprite_ids.specs.declared.StreamNo.{StreamNo}
use Rattle.file_views.specs.declared.body.Access.{Access}
use Rattle.file_views.specs.declared.body.FileBody.TheVariants as form
use Rattle.file_views.specs.declared.client.Held.{Held}
use Rattle.file_views.specs.declared.client.Client.{Client}
use Rattle.file_views.specs.declared.call.FileCall.{FileCall}
use Rattle.file_views.specs.declared.step.FileStep.{FileStep}
use Rattle.file_views.specs.declared.step.FileStep.TheVariants as act
use Rattle.file_views.specs.Setting.{Setting}
use Rattle.file_views.specs.Contents.{blocks_between}
use Rattle.file_views.specs.Streams.{is_any}
use Rattle.file_views.specs.Clients.{is_on, held, without_block, with_block, cleaned, is_too_big, range_of, first_absent, missing, held_bytes, block_written, blocks_written, size_written, write_cached, done_cached}
use Rattle.file_views.specs.Moves.{is_fetch}
use Rattle.file_views.specs.Here.{In, request_stamp}
use Rattle.file_views.specs.SoundRequests.{Asking}
use Rattle.file_views.proofs.MemberLaws.{in_last}

-- a call of the kernel that stood there with its number and its request
pub record Stood (one : FileCall) (calls : List FileCall) : Type 0 where
  pub other : FileCall
  pub there : In other calls
  pub number_is : other.number ≡ one.number
  pub from_is : other.from ≡ one.from
  pub body_is : other.body ≡ one.body

abbrev pub Stand : ℕ → List FileCall → List FileCall → Type 0
Stand kernel xs ys = (one : FileCall) → In one ys → one.from ≡ kernel → Stood one xs

pub asking_calls : (z : Setting) (kernel : ℕ) (c : Client) (xs ys : List FileCall) → Asking z kernel c xs → Stand kernel xs ys → Asking z kernel c ys
asking_calls z kernel c xs ys f s = record {
  off_empty = f.off_empty;
  one_fetch = λ x y m n a b p q. let u : Stood x xs = s x m a in let w : Stood y xs = s y n b in sym u.number_is ∙ f.one_fetch u.other w.other u.there w.there (u.from_is ∙ a) (w.from_is ∙ b) (ap is_fetch u.body_is ∙ p) (ap is_fetch w.body_is ∙ q) ∙ w.number_is;
  fetch_waits = λ x m a p. let u : Stood x xs = s x m a in f.fetch_waits u.other u.there (u.from_is ∙ a) (ap is_fetch u.body_is ∙ p);
  fetch_on = λ x m a stamp block e q. let u : Stood x xs = s x m a in f.fetch_on u.other u.there (u.from_is ∙ a) stamp block (u.body_is ∙ e) q;
  fetch_absent = λ x m a stamp block e q. let u : Stood x xs = s x m a in f.fetch_absent u.other u.there (u.from_is ∙ a) stamp block (u.body_is ∙ e) q;
  fetch_within = λ x m a stamp block e q. let u : Stood x xs = s x m a in f.fetch_within u.other u.there (u.from_is ∙ a) stamp block (u.body_is ∙ e) q;
  ops_off = λ x m a pid number stamp stream way e q. let u : Stood x xs = s x m a in f.ops_off u.other u.there (u.from_is ∙ a) pid number stamp stream way (u.body_is ∙ e) q;
}

-- a client that keeps its stamp and its mode, and doesn't take in what is asked for
pub record Waits (z : Setting) (c d : Client) (calls : List FileCall) (kernel : ℕ) : Type 0 where
  pub stamp : d.stamp ≡ c.stamp
  pub mode : d.mode ≡ c.mode
  pub empty : is_on d.mode ≡ false → d.blocks ≡ []
  pub waiting : ((one : FileCall) → In one calls → one.from ≡ kernel → is_fetch one.body ≡ false) ⊎ (is_any c.waiting ≡ true → is_any d.waiting ≡ true)
  pub absent : (number : ℕ) → held c.blocks number ≡ None → number * z.block < c.size → (held d.blocks number ≡ None) × (number * z.block < d.size)

pub asking_waits : (z : Setting) (kernel : ℕ) (c d : Client) (calls : List FileCall) → Asking z kernel c calls → Waits z c d calls kernel → Asking z kernel d calls
asking_waits z kernel c d calls f w = record {
  off_empty = w.empty;
  one_fetch = f.one_fetch;
  fetch_waits = λ x m a p. elim w.waiting [ inl n ↦ absurd (cc (n x m a, p)) | inr g ↦ g (f.fetch_waits x m a p) ];
  fetch_on = λ x m a stamp block e q. ap is_on w.mode ∙ f.fetch_on x m a stamp block e (q ∙ w.stamp);
  fetch_absent = λ x m a stamp block e q. (w.absent block.0 (f.fetch_absent x m a stamp block e (q ∙ w.stamp)) (f.fetch_within x m a stamp block e (q ∙ w.stamp))).0;
  fetch_within = λ x m a stamp block e q. (w.absent block.0 (f.fetch_absent x m a stamp block e (q ∙ w.stamp)) (f.fetch_within x m a stamp block e (q ∙ w.stamp))).1;
  ops_off = λ x m a pid number stamp stream way e q. ap is_on w.mode ∙ f.ops_off x m a pid number stamp stream way e (q ∙ w.stamp);
}

-- a client whose stamp is newer than those of its requests
pub asking_risen : (z : Setting) (kernel : ℕ) (c d : Client) (calls : List FileCall) → Asking z kernel c calls → (is_on d.mode ≡ false → d.blocks ≡ []) → d.waiting ≡ c.waiting → c.stamp < d.stamp → ((one : FileCall) → In one calls → one.from ≡ kernel → (stamp : ℕ) → request_stamp one.body ≡ Some stamp → stamp ≤ c.stamp) → Asking z kernel d calls
asking_risen z kernel c d calls f empty same l low = record {
  off_empty = empty;
  one_fetch = f.one_fetch;
  fetch_waits = λ x m a p. ap is_any same ∙ f.fetch_waits x m a p;
  fetch_on = λ x m a stamp block e q. absurd (older x m a stamp (ap request_stamp e) q);
  fetch_absent = λ x m a stamp block e q. absurd (older x m a stamp (ap request_stamp e) q);
  fetch_within = λ x m a stamp block e q. absurd (older x m a stamp (ap request_stamp e) q);
  ops_off = λ x m a pid number stamp stream way e q. absurd (older x m a stamp (ap request_stamp e) q);
}
  where
    older : (x : FileCall) → In x calls → x.from ≡ kernel → (stamp : ℕ) → request_stamp x.body ≡ Some stamp → stamp ≡ d.stamp → ⊥
    older x m a stamp e q = let k = low x m a stamp e in omega (arith, k, q, l)

-- a request begins: not a fetch and no operation; an operation; a fetch
pub record Begins (z : Setting) (kernel : ℕ) (c : Client) (calls : List FileCall) (new : FileCall) : Type 0 where
  pub operates : (pid number stamp : ℕ) (stream : StreamNo) (way : Access) → new.body ≡ form.Op pid number stamp stream way → is_on c.mode ≡ false
  pub alone : is_fetch new.body ≡ true → (one : FileCall) → In one calls → one.from ≡ kernel → is_fetch one.body ≡ false
  pub waits : is_fetch new.body ≡ true → is_any c.waiting ≡ true
  pub on : is_fetch new.body ≡ true → is_on c.mode ≡ true
  pub absent : (stamp : ℕ) (block : BlockNo) → new.body ≡ form.Fetch stamp block → (held c.blocks block.0 ≡ None) × (block.0 * z.block < c.size)

pub asking_begins : (z : Setting) (kernel : ℕ) (c : Client) (calls : List FileCall) (new : FileCall) → Asking z kernel c calls → Begins z kernel c calls new → Asking z kernel c (calls ++ new ∷ [])
asking_begins z kernel c calls new f b = record {
  off_empty = f.off_empty;
  one_fetch = λ x y m n p q r s. pair x y (in_last x new calls m) (in_last y new calls n) p q r s;
  fetch_waits = λ x m a p. elim (in_last x new calls m) [ inl k ↦ f.fetch_waits x k a p | inr e ↦ b.waits (sym (ap (λ (y : FileCall). is_fetch y.body) e) ∙ p) ];
  fetch_on = λ x m a stamp block e q. elim (in_last x new calls m) [ inl k ↦ f.fetch_on x k a stamp block e q | inr g ↦ b.on (ap is_fetch (sym (ap (λ (y : FileCall). y.body) g) ∙ e)) ];
  fetch_absent = λ x m a stamp block e q. elim (in_last x new calls m) [ inl k ↦ f.fetch_absent x k a stamp block e q | inr g ↦ (b.absent stamp block (sym (ap (λ (y : FileCall). y.body) g) ∙ e)).0 ];
  fetch_within = λ x m a stamp block e q. elim (in_last x new calls m) [ inl k ↦ f.fetch_within x k a stamp block e q | inr g ↦ (b.absent stamp block (sym (ap (λ (y : FileCall). y.body) g) ∙ e)).1 ];
  ops_off = λ x m a pid number stamp stream way e q. elim (in_last x new calls m) [ inl k ↦ f.ops_off x k a pid number stamp stream way e q | inr g ↦ b.operates pid number stamp stream way (sym (ap (λ (y : FileCall). y.body) g) ∙ e) ];
}
  where
    pair : (x y : FileCall) → In x calls ⊎ (x ≡ new) → In y calls ⊎ (y ≡ new) → x.from ≡ kernel → y.from ≡ kernel → is_fetch x.body ≡ true → is_fetch y.body ≡ true → x.number ≡ y.number
    pair x y (inl m) (inl n) p q r s = f.one_fetch x y m n p q r s
    pair x y (inl m) (inr e) p q r s = absurd (cc (b.alone (sym (ap (λ (t : FileCall). is_fetch t.body) e) ∙ s) x m p, r))
    pair x y (inr e) (inl n) p q r s = absurd (cc (b.alone (sym (ap (λ (t : FileCall). is_fetch t.body) e) ∙ r) y n q, s))
    pair x y (inr e) (inr g) p q r s = ap (λ (t : FileCall). t.number) (e ∙ sym g)

-- blocks that are held after a change of another
held_last : (blocks : List Held) (new : Held) (number : ℕ) → new.block.0 ≢ number → held (blocks ++ new ∷ []) number ≡ held blocks number
held_last [] new number d = ap (λ b. cond b (Some new) None) (ne_eqb new.block.0 number d)
held_last (h ∷ blocks) new number d = ap (λ o. cond (h.block.0 == number) (Some h) o) (held_last blocks new number d)

pub held_without : (blocks : List Held) (other number : ℕ) → other ≢ number → held (without_block other blocks) number ≡ held blocks number
held_without [] other number d = refl
held_without (h ∷ blocks) other number d = first (h.block.0 == other) refl (held_without blocks other number d)
  where
    first : (b : Bool) → (h.block.0 == other) ≡ b → held (without_block other blocks) number ≡ held blocks number → held (cond (not b) (h ∷ without_block other blocks) (without_block other blocks)) number ≡ cond (h.block.0 == number) (Some h) (held blocks number)
    first true e f = f ∙ sym (ap (λ b. cond b (Some h) (held blocks number)) (ne_eqb h.block.0 number (λ q. d (sym (eqb-true h.block.0 other e) ∙ q))))
    first false e f = ap (λ o. cond (h.block.0 == number) (Some h) o) f

pub held_with : (blocks : List Held) (new : Held) (number : ℕ) → new.block.0 ≢ number → held (with_block new blocks) number ≡ held blocks number
held_with blocks new number d = held_last (without_block new.block.0 blocks) new number d ∙ held_without blocks new.block.0 number d

-- what is absent stays so: among fewer blocks, cleaned ones
pub none_fewer : (p : Held → Bool) (blocks : List Held) (number : ℕ) → held blocks number ≡ None → held (filter p blocks) number ≡ None
none_fewer p [] number e = refl
none_fewer p (h ∷ blocks) number e = first (h.block.0 == number) refl (p h) e (none_fewer p blocks number)
  where
    first : (b : Bool) → (h.block.0 == number) ≡ b → (c : Bool) → cond b (Some h) (held blocks number) ≡ None → (held blocks number ≡ None → held (filter p blocks) number ≡ None) → held (cond c (h ∷ filter p blocks) (filter p blocks)) number ≡ None
    first true q c g f = absurd (cc (g))
    first false q true g f = ap (λ b. cond b (Some h) (held (filter p blocks) number)) q ∙ f g
    first false q false g f = f g

pub none_cleaned : (blocks : List Held) (number : ℕ) → held blocks number ≡ None → held (map cleaned blocks) number ≡ None
none_cleaned [] number e = refl
none_cleaned (h ∷ blocks) number e = first (h.block.0 == number) refl e (none_cleaned blocks number)
  where
    first : (b : Bool) → (h.block.0 == number) ≡ b → cond b (Some h) (held blocks number) ≡ None → (held blocks number ≡ None → held (map cleaned blocks) number ≡ None) → cond (h.block.0 == number) (Some (cleaned h)) (held (map cleaned blocks) number) ≡ None
    first true q g f = absurd (cc (g))
    first false q g f = ap (λ b. cond b (Some (cleaned h)) (held (map cleaned blocks) number)) q ∙ f g

-- a write touches no block that would have to come in first
pub held_written : (z : Setting) (numbers : List ℕ) (blocks : List Held) (low : ℕ) (bytes : List ℕ) (count number : ℕ) → (In number numbers → ⊥) → held (blocks_written z blocks low bytes count numbers) number ≡ held blocks number
held_written z [] blocks low bytes count number out = refl
held_written z (n ∷ rest) blocks low bytes count number out = held_written z rest (with_block (block_written z (held_bytes z (held blocks n)) n low bytes (count + 1)) blocks) low bytes (count + 1) number (λ m. out (inr m)) ∙ held_with blocks (block_written z (held_bytes z (held blocks n)) n low bytes (count + 1)) number (λ q. out (inl (sym q)))

pub not_absent : (z : Setting) (c : Client) (numbers : List ℕ) → first_absent z c numbers ≡ None → (number : ℕ) → In number numbers → (nat_lt (number * z.block) c.size && is_none (held c.blocks number)) ≡ false
not_absent z c [] e number m = absurd m
not_absent z c (n ∷ rest) e number m = by_test (nat_lt (n * z.block) c.size && is_none (held c.blocks n)) refl e m (not_absent z c rest)
  where
    by_test : (b : Bool) → (nat_lt (n * z.block) c.size && is_none (held c.blocks n)) ≡ b → cond b (Some n) (first_absent z c rest) ≡ None → In number (n ∷ rest) → (first_absent z c rest ≡ None → (x : ℕ) → In x rest → (nat_lt (x * z.block) c.size && is_none (held c.blocks x)) ≡ false) → (nat_lt (number * z.block) c.size && is_none (held c.blocks number)) ≡ false
    by_test true q g k f = absurd (cc (g))
    by_test false q g (inl r) f = ap (λ x. nat_lt (x * z.block) c.size && is_none (held c.blocks x)) r ∙ q
    by_test false q g (inr r) f = f g number r

pub outside : (z : Setting) (c : Client) (numbers : List ℕ) → first_absent z c numbers ≡ None → (number : ℕ) → held c.blocks number ≡ None → number * z.block < c.size → In number numbers → ⊥
outside z c numbers e number h l m = cc (not_absent z c numbers e number m, and_from (nat_lt (number * z.block) c.size) (is_none (held c.blocks number)) (lt-ltb (number * z.block) c.size l) (ap is_none h))

size_grows : (size low : ℕ) (bytes : List ℕ) → size ≤ size_written size low bytes
size_grows size low [] = omega arith
size_grows size low (first ∷ rest) = omega arith

written_absent : (z : Setting) (c : Client) (low : ℕ) (bytes : List ℕ) → first_absent z c (blocks_between z low (low + length bytes)) ≡ None → (number : ℕ) → held c.blocks number ≡ None → number * z.block < c.size → (held (write_cached z c low bytes).blocks number ≡ None) × (number * z.block < (write_cached z c low bytes).size)
written_absent z c low bytes e number h l = (held_written z (blocks_between z low (low + length bytes)) c.blocks low bytes c.count number (outside z c (blocks_between z low (low + length bytes)) e number h l) ∙ h, (let g = size_grows c.size low bytes in omega (arith, l, g)))

pub done_absent : (z : Setting) (c : Client) (step : FileStep) → missing z c step ≡ None → (number : ℕ) → held c.blocks number ≡ None → number * z.block < c.size → (held (done_cached z c step).blocks number ≡ None) × (number * z.block < (done_cached z c step).size)
done_absent z c (act.Writing pid kind kernel stream from bytes) e number h l = written_absent z c from bytes e number h l
done_absent z c (act.Append pid kind kernel stream bytes) e number h l = by_test (nat_lt z.most (c.size + length bytes)) e
  where
    by_test : (b : Bool) → cond b None (first_absent z c (blocks_between z c.size (c.size + length bytes))) ≡ None → (held (cond b c (write_cached z c c.size bytes)).blocks number ≡ None) × (number * z.block < (cond b c (write_cached z c c.size bytes)).size)
    by_test true q = (h, l)
    by_test false q = written_absent z c c.size bytes q number h l
done_absent z c step e number h l = (h, l)

-- the first block that is missing is absent, and begins before the client's size
absent_first : (z : Setting) (c : Client) (numbers : List ℕ) (number : ℕ) → first_absent z c numbers ≡ Some number → (held c.blocks number ≡ None) × (number * z.block < c.size)
absent_first z c [] number e = absurd (cc (e))
absent_first z c (n ∷ rest) number e = by_test (nat_lt (n * z.block) c.size && is_none (held c.blocks n)) refl e (absent_first z c rest number)
  where
    none_of : (o : Option Held) → is_none o ≡ true → o ≡ None
    none_of None q = refl
    none_of (Some h) q = absurd (cc (q))

    same_some : Some n ≡ Some number → n ≡ number
    same_some q = cc (q)

    by_test : (b : Bool) → (nat_lt (n * z.block) c.size && is_none (held c.blocks n)) ≡ b → cond b (Some n) (first_absent z c rest) ≡ Some number → (first_absent z c rest ≡ Some number → (held c.blocks number ≡ None) × (number * z.block < c.size)) → (held c.blocks number ≡ None) × (number * z.block < c.size)
    by_test true q g f = let p = and_parts (nat_lt (n * z.block) c.size) (is_none (held c.blocks n)) q in let same : n ≡ number = same_some g in (subst (λ x. held c.blocks x ≡ None) same (none_of (held c.blocks n) p.1), subst (λ x. x * z.block < c.size) same (ltb-true (n * z.block) c.size p.0))
    by_test false q g f = f g

pub missing_absent : (z : Setting) (c : Client) (step : FileStep) (number : ℕ) → missing z c step ≡ Some number → (held c.blocks number ≡ None) × (number * z.block < c.size)
missing_absent z c step number e = by_test (is_too_big z c.size step) e
  where
    by_test : (b : Bool) → cond b None (first_absent z c (range_of z c.size step)) ≡ Some number → (held c.blocks number ≡ None) × (number * z.block < c.size)
    by_test true q = absurd (cc (q))
    by_test false q = absent_first z c (range_of z c.size step) number q
