-- How many grants kernels have of a stream, by its shadow and by the opens.
use Rattle.std.proofs.Common.{◌≡◌, ◌≤◌, ◌<◌, ℕ, zero, suc, ◌+◌, ◌-◌, ◌==◌, nat_le, Bool, true, false, ◌&&◌, ◌||◌, not, cond, List, [], ◌∷◌, ◌++◌, length, replicate, slice_index, slice_set, fold, Option, Some, None, is_some, option_map, refl, sym, ap, subst, arith, ◌∙◌, true≢false, eqb-true}
use Rattle.std.specs.List.{AllByRecursion, find, list_all, list_any}
use Rattle.std.proofs.lemmas.Bool.{and_parts, leb-true}
use Rattle.sprite_ids.specs.declared.Mode.{Mode}
use Rattle.sprite_ids.specs.declared.StreamNo.{StreamNo}
use Rattle.sprite_ids.specs.Lists.{changed, less, put, without}
use Rattle.sprite_ids.proofs.ListLaws.{each_filter, each_push}
use Rattle.shadow_streams.specs.declared.Shadow.{Shadow}
use Rattle.shadow_streams.specs.Shadows as shadows
use Rattle.shadow_streams.specs.Shadows.{count_of, counted, grants_of, held, is_of, lowered, offset_of, raised}
use Rattle.version_table.specs.declared.Open.{Open}
use Rattle.version_table.specs.Opens.{added, count_in, is_at, is_stream, open_at, taken_off, taking}
use Rattle.server_facts.specs.Asking.{AtMost}
use Rattle.server_facts.specs.Shared.{AreOpensOnce}
use Rattle.server_facts.proofs.Tables.{find_apart, find_none, found_each, most_less}

-- ---- which stream it is

pub same_stream : (one other : StreamNo) → is_stream one other ≡ true → other ≡ one
same_stream one other e =
    let parts = and_parts (other.kernel == one.kernel) (other.number == one.number) e in
    let kernel = eqb-true other.kernel one.kernel parts.0 in
    let number = eqb-true other.number one.number parts.1 in
    λ i. record { kernel = kernel i; number = number i }

pub by_stream : (one other : StreamNo) (G : Type 0) → (other ≡ one → G) → (is_stream one other ≡ false → G) → G
by_stream one other G here there = by_test (is_stream one other) refl
  where
    by_test : (b : Bool) → is_stream one other ≡ b → G
    by_test true e = here (same_stream one other e)
    by_test false e = there e

-- ---- counts by kernel

index_same : (xs : List ℕ) (at x : ℕ) → at < length xs → slice_index (slice_set xs at x) at ≡ x
index_same [] at x h = absurd (omega arith)
index_same (y ∷ ys) zero x h = refl
index_same (y ∷ ys) (suc at) x h = index_same ys at x (omega arith)

index_other : (xs : List ℕ) (at place x : ℕ) → (at ≡ place → ⊥) → slice_index (slice_set xs at x) place ≡ slice_index xs place
index_other [] at place x h = refl
index_other (y ∷ ys) zero zero x h = absurd (h refl)
index_other (y ∷ ys) zero (suc place) x h = refl
index_other (y ∷ ys) (suc at) zero x h = refl
index_other (y ∷ ys) (suc at) (suc place) x h = index_other ys at place x (λ e. h (ap suc e))

set_length : (xs : List ℕ) (at x : ℕ) → length (slice_set xs at x) ≡ length xs
set_length [] at x = refl
set_length (y ∷ ys) zero x = refl
set_length (y ∷ ys) (suc at) x = ap suc (set_length ys at x)

places_apart : (one other : ℕ) → 0 < one → 0 < other → (one ≡ other → ⊥) → one - 1 ≡ other - 1 → ⊥
places_apart one other h k off e = off (omega arith)

raised_here : (grants : List ℕ) (kernel : ℕ) → length grants ≡ 16 → 0 < kernel → kernel ≤ 16 → count_of kernel (raised kernel grants) ≡ count_of kernel grants + 1
raised_here grants kernel places low high = index_same grants (kernel - 1) (count_of kernel grants + 1) (omega arith)

raised_other : (grants : List ℕ) (kernel other : ℕ) → 0 < kernel → 0 < other → (kernel ≡ other → ⊥) → count_of other (raised kernel grants) ≡ count_of other grants
raised_other grants kernel other low there off = index_other grants (kernel - 1) (other - 1) (count_of kernel grants + 1) (places_apart kernel other low there off)

lowered_here : (grants : List ℕ) (kernel fewer : ℕ) → length grants ≡ 16 → 0 < kernel → kernel ≤ 16 → count_of kernel (lowered kernel fewer grants) ≡ count_of kernel grants - fewer
lowered_here grants kernel fewer places low high = index_same grants (kernel - 1) (count_of kernel grants - fewer) (omega arith)

lowered_other : (grants : List ℕ) (kernel fewer other : ℕ) → 0 < kernel → 0 < other → (kernel ≡ other → ⊥) → count_of other (lowered kernel fewer grants) ≡ count_of other grants
lowered_other grants kernel fewer other low there off = index_other grants (kernel - 1) (other - 1) (count_of kernel grants - fewer) (places_apart kernel other low there off)

pub raised_length : (grants : List ℕ) (kernel : ℕ) → length (raised kernel grants) ≡ length grants
raised_length grants kernel = set_length grants (kernel - 1) (count_of kernel grants + 1)

pub lowered_length : (grants : List ℕ) (kernel fewer : ℕ) → length (lowered kernel fewer grants) ≡ length grants
lowered_length grants kernel fewer = set_length grants (kernel - 1) (count_of kernel grants - fewer)

index_zero : (n at : ℕ) → slice_index (replicate n 0) at ≡ 0
index_zero zero at = refl
index_zero (suc n) zero = refl
index_zero (suc n) (suc at) = index_zero n at

-- the same grant many times
counted_length : (n kernel : ℕ) (start : List ℕ) → length start ≡ 16 → length (fold (λ grants kernel. raised kernel grants) start (replicate n kernel)) ≡ 16
counted_length zero kernel start places = places
counted_length (suc n) kernel start places = counted_length n kernel (raised kernel start) (raised_length start kernel ∙ places)

counted_from : (n kernel : ℕ) (start : List ℕ) → length start ≡ 16 → 0 < kernel → kernel ≤ 16 → count_of kernel (fold (λ grants kernel. raised kernel grants) start (replicate n kernel)) ≡ count_of kernel start + n
counted_from zero kernel start places low high = nothing_more (count_of kernel start)
  where
    nothing_more : (a : ℕ) → a ≡ a + 0
    nothing_more a = omega arith
counted_from (suc n) kernel start places low high =
    counted_from n kernel (raised kernel start) (raised_length start kernel ∙ places) low high ∙ one_more (count_of kernel (raised kernel start)) (count_of kernel start) n (raised_here start kernel places low high)
  where
    one_more : (a b n : ℕ) → a ≡ b + 1 → a + n ≡ b + suc n
    one_more a b n e = omega arith

counted_beside : (n kernel other : ℕ) (start : List ℕ) → 0 < kernel → 0 < other → (kernel ≡ other → ⊥) → count_of other (fold (λ grants kernel. raised kernel grants) start (replicate n kernel)) ≡ count_of other start
counted_beside zero kernel other start low there off = refl
counted_beside (suc n) kernel other start low there off = counted_beside n kernel other (raised kernel start) low there off ∙ raised_other start kernel other low there off

pub counted_here : (n kernel : ℕ) → 0 < kernel → kernel ≤ 16 → count_of kernel (counted (replicate n kernel)) ≡ n
counted_here n kernel low high = counted_from n kernel (replicate 16 0) refl low high ∙ sum (count_of kernel (replicate 16 0)) n (index_zero 16 (kernel - 1))
  where
    sum : (a n : ℕ) → a ≡ 0 → a + n ≡ n
    sum a n e = omega arith

pub counted_other : (n kernel other : ℕ) → 0 < kernel → 0 < other → (kernel ≡ other → ⊥) → count_of other (counted (replicate n kernel)) ≡ 0
counted_other n kernel other low there off = counted_beside n kernel other (replicate 16 0) low there off ∙ index_zero 16 (other - 1)

-- ---- shadows

module _ (change : Shadow → Shadow) (keeps : (x : Shadow) → (change x).stream ≡ x.stream) where
  here_by : (b : Bool) (stream : StreamNo) (x : Shadow) (xs rest : List Shadow) → is_of stream x ≡ b → find (is_of stream) rest ≡ option_map change (find (is_of stream) xs)
      → find (is_of stream) (cond b (change x ∷ xs) (x ∷ rest)) ≡ option_map change (cond b (Some x) (find (is_of stream) xs))
  here_by true stream x xs rest t h = ap (λ b. cond b (Some (change x)) (find (is_of stream) xs)) (ap (is_stream stream) (keeps x) ∙ t)
  here_by false stream x xs rest t h = ap (λ b. cond b (Some x) (find (is_of stream) rest)) t ∙ h

  pub changed_here : (stream : StreamNo) (xs : List Shadow) → find (is_of stream) (changed (is_of stream) change xs) ≡ option_map change (find (is_of stream) xs)
  changed_here stream [] = refl
  changed_here stream (x ∷ xs) = here_by (is_of stream x) stream x xs (changed (is_of stream) change xs) refl (changed_here stream xs)

  beside_by : (b : Bool) (stream other : StreamNo) (x : Shadow) (xs rest : List Shadow) → is_of other x ≡ b → is_stream stream other ≡ false → find (is_of stream) rest ≡ find (is_of stream) xs
      → find (is_of stream) (cond b (change x ∷ xs) (x ∷ rest)) ≡ cond (is_of stream x) (Some x) (find (is_of stream) xs)
  beside_by true stream other x xs rest t off h =
      let away : is_of stream x ≡ false = ap (is_stream stream) (same_stream other x.stream t) ∙ off in
      ap (λ b. cond b (Some (change x)) (find (is_of stream) xs)) (ap (is_stream stream) (keeps x) ∙ away) ∙ sym (ap (λ b. cond b (Some x) (find (is_of stream) xs)) away)
  beside_by false stream other x xs rest t off h = ap (cond (is_of stream x) (Some x)) h

  pub changed_beside : (stream other : StreamNo) (xs : List Shadow) → is_stream stream other ≡ false → find (is_of stream) (changed (is_of other) change xs) ≡ find (is_of stream) xs
  changed_beside stream other [] off = refl
  changed_beside stream other (x ∷ xs) off = beside_by (is_of other x) stream other x xs (changed (is_of other) change xs) refl off (changed_beside stream other xs off)

  pub changed_each : (Q : Shadow → Type 0) → ((x : Shadow) → Q x → Q (change x)) → (p : Shadow → Bool) (xs : List Shadow) → AllByRecursion Q xs → AllByRecursion Q (changed p change xs)
  changed_each Q f p [] h = tt
  changed_each Q f p (x ∷ xs) h = elim (p x) as (λ b. AllByRecursion Q (cond b (change x ∷ xs) (x ∷ changed p change xs))) [ true ↦ (f x h.0, h.1) | false ↦ (h.0, changed_each Q f p xs h.1) ]

without_by : (b : Bool) (p q : Shadow → Bool) (x : Shadow) (xs : List Shadow) → p x ≡ b → (p x ≡ true → q x ≡ false) → find q (without p xs) ≡ find q xs → find q (cond (not b) (x ∷ without p xs) (without p xs)) ≡ cond (q x) (Some x) (find q xs)
without_by true p q x xs t apart h = h ∙ sym (ap (λ b. cond b (Some x) (find q xs)) (apart t))
without_by false p q x xs t apart h = ap (cond (q x) (Some x)) h

without_beside : (p q : Shadow → Bool) (xs : List Shadow) → ((x : Shadow) → p x ≡ true → q x ≡ false) → find q (without p xs) ≡ find q xs
without_beside p q [] apart = refl
without_beside p q (x ∷ xs) apart = without_by (p x) p q x xs refl (apart x) (without_beside p q xs apart)

gone_by : (b : Bool) (p : Shadow → Bool) (x : Shadow) (xs : List Shadow) → p x ≡ b → find p (without p xs) ≡ None → find p (cond (not b) (x ∷ without p xs) (without p xs)) ≡ None
gone_by true p x xs t h = h
gone_by false p x xs t h = ap (λ b. cond b (Some x) (find p (without p xs))) t ∙ h

without_here : (p : Shadow → Bool) (xs : List Shadow) → find p (without p xs) ≡ None
without_here p [] = refl
without_here p (x ∷ xs) = gone_by (p x) p x xs refl (without_here p xs)

of_apart : (stream other : StreamNo) → is_stream stream other ≡ false → (x : Shadow) → is_of other x ≡ true → is_of stream x ≡ false
of_apart stream other off x e = ap (is_stream stream) (same_stream other x.stream e) ∙ off

end_by : (b : Bool) (p : Shadow → Bool) (x y : Shadow) (more rest : Option Shadow) → (rest ≡ None → more ≡ Some y) → cond b (Some x) rest ≡ None → cond b (Some x) more ≡ Some y
end_by true p x y more rest h none = absurd (cc)
end_by false p x y more rest h none = h none

found_last : (p : Shadow → Bool) (xs : List Shadow) (y : Shadow) → p y ≡ true → find p xs ≡ None → find p (xs ++ y ∷ []) ≡ Some y
found_last p [] y here none = ap (λ b. cond b (Some y) None) here
found_last p (x ∷ xs) y here none = end_by (p x) p x y (find p (xs ++ y ∷ [])) (find p xs) (found_last p xs y here) none

past_last : (p : Shadow → Bool) (xs : List Shadow) (y : Shadow) → p y ≡ false → find p (xs ++ y ∷ []) ≡ find p xs
past_last p [] y off = ap (λ b. cond b (Some y) None) off
past_last p (x ∷ xs) y off = ap (cond (p x) (Some x)) (past_last p xs y off)

-- a grant
abbrev pub one_more : ℕ → Shadow → Shadow
one_more kernel shadow = record shadow { grants = raised kernel shadow.grants }

abbrev pub fewer : ℕ → ℕ → Shadow → Shadow
fewer kernel many shadow = record shadow { grants = lowered kernel many shadow.grants }

pub grant_found : (list : List Shadow) (stream : StreamNo) (kernel : ℕ) → find (is_of stream) (shadows.grant list stream kernel) ≡ option_map (one_more kernel) (find (is_of stream) list)
grant_found list stream kernel = changed_here (one_more kernel) (λ x. refl) stream list

pub grant_beside : (list : List Shadow) (stream other : StreamNo) (kernel : ℕ) → is_stream stream other ≡ false → find (is_of stream) (shadows.grant list other kernel) ≡ find (is_of stream) list
grant_beside list stream other kernel off = changed_beside (one_more kernel) (λ x. refl) stream other list off

none_counted : (grants : List ℕ) (at : ℕ) → list_all (λ count. count == 0) grants ≡ true → slice_index grants at ≡ 0
none_counted [] at h = refl
none_counted (x ∷ xs) zero h = eqb-true x 0 (and_parts (x == 0) (list_all (λ count. count == 0) xs) h).0
none_counted (x ∷ xs) (suc at) h = none_counted xs at (and_parts (x == 0) (list_all (λ count. count == 0) xs) h).1

close_by : (b : Bool) (o : Option Shadow) (list : List Shadow) (stream : StreamNo) (kernel many other : ℕ) → find (is_of stream) list ≡ o → shadows.is_last kernel many o ≡ b
    → held other (find (is_of stream) (cond b (without (is_of stream) list) (changed (is_of stream) (fewer kernel many) list))) ≡ held other (option_map (fewer kernel many) o)
close_by true (Some shadow) list stream kernel many other e last = ap (held other) (without_here (is_of stream) list) ∙ sym (none_counted (lowered kernel many shadow.grants) (other - 1) last)
close_by true None list stream kernel many other e last = ap (held other) (without_here (is_of stream) list)
close_by false o list stream kernel many other e last = ap (held other) (changed_here (fewer kernel many) (λ x. refl) stream list ∙ ap (option_map (fewer kernel many)) e)

-- grants are taken off; where none is left, the stream goes
pub close_found : (list : List Shadow) (stream : StreamNo) (kernel many other : ℕ) → grants_of (shadows.close list stream kernel many) stream other ≡ held other (option_map (fewer kernel many) (find (is_of stream) list))
close_found list stream kernel many other = close_by (shadows.is_closed list stream kernel many) (find (is_of stream) list) list stream kernel many other refl refl

pub close_beside : (list : List Shadow) (stream other : StreamNo) (kernel many : ℕ) → is_stream stream other ≡ false → find (is_of stream) (shadows.close list other kernel many) ≡ find (is_of stream) list
close_beside list stream other kernel many off = elim (shadows.is_closed list other kernel many) as (λ b. find (is_of stream) (cond b (without (is_of other) list) (changed (is_of other) (fewer kernel many) list)) ≡ find (is_of stream) list) [
  | true ↦ without_beside (is_of other) (is_of stream) list (of_apart stream other off)
  | false ↦ changed_beside (fewer kernel many) (λ x. refl) stream other list off
]

pub share_found : (list : List Shadow) (stream : StreamNo) (offset : ℕ) (kernels : List ℕ) → is_stream stream stream ≡ true → find (is_of stream) (shadows.share list stream offset kernels) ≡ Some (record { stream = stream; offset = offset; grants = counted kernels })
share_found list stream offset kernels itself = found_last (is_of stream) (without (is_of stream) list) (record { stream = stream; offset = offset; grants = counted kernels }) itself (without_here (is_of stream) list)

pub share_beside : (list : List Shadow) (stream other : StreamNo) (offset : ℕ) (kernels : List ℕ) → is_stream stream other ≡ false → find (is_of stream) (shadows.share list other offset kernels) ≡ find (is_of stream) list
share_beside list stream other offset kernels off = past_last (is_of stream) (without (is_of other) list) (record { stream = other; offset = offset; grants = counted kernels }) off ∙ without_beside (is_of other) (is_of stream) list (of_apart stream other off)

offset_by : (o : Option Shadow) (offset kernel : ℕ) → held kernel (option_map (λ (shadow : Shadow). record shadow { offset = offset }) o) ≡ held kernel o
offset_by (Some shadow) offset kernel = refl
offset_by None offset kernel = refl

-- an offset moves
pub offset_same : (list : List Shadow) (stream other : StreamNo) (offset kernel : ℕ) → grants_of (shadows.set_offset list other offset) stream kernel ≡ grants_of list stream kernel
offset_same list stream other offset kernel = by_stream stream other (grants_of (shadows.set_offset list other offset) stream kernel ≡ grants_of list stream kernel)
    (λ e. subst (λ (u : StreamNo). grants_of (shadows.set_offset list u offset) stream kernel ≡ grants_of list stream kernel) (sym e) (ap (held kernel) (changed_here (λ (shadow : Shadow). record shadow { offset = offset }) (λ x. refl) stream list) ∙ offset_by (find (is_of stream) list) offset kernel))
    (λ off. ap (held kernel) (changed_beside (λ (shadow : Shadow). record shadow { offset = offset }) (λ x. refl) stream other list off))

-- each has 16 places
abbrev pub HasPlaces : Shadow → Type 0
HasPlaces shadow = length shadow.grants ≡ 16

pub grant_places : (list : List Shadow) (stream : StreamNo) (kernel : ℕ) → AllByRecursion HasPlaces list → AllByRecursion HasPlaces (shadows.grant list stream kernel)
grant_places list stream kernel h = changed_each (one_more kernel) (λ x. refl) HasPlaces (λ x k. raised_length x.grants kernel ∙ k) (is_of stream) list h

pub close_places : (list : List Shadow) (stream : StreamNo) (kernel many : ℕ) → AllByRecursion HasPlaces list → AllByRecursion HasPlaces (shadows.close list stream kernel many)
close_places list stream kernel many h = elim (shadows.is_closed list stream kernel many) as (λ b. AllByRecursion HasPlaces (cond b (without (is_of stream) list) (changed (is_of stream) (fewer kernel many) list))) [
  | true ↦ each_filter HasPlaces (λ x. not (is_of stream x)) list h
  | false ↦ changed_each (fewer kernel many) (λ x. refl) HasPlaces (λ x k. lowered_length x.grants kernel many ∙ k) (is_of stream) list h
]

pub share_places : (list : List Shadow) (stream : StreamNo) (offset many kernel : ℕ) → AllByRecursion HasPlaces list → AllByRecursion HasPlaces (shadows.share list stream offset (replicate many kernel))
share_places list stream offset many kernel h = each_push HasPlaces (without (is_of stream) list) (record { stream = stream; offset = offset; grants = counted (replicate many kernel) }) (each_filter HasPlaces (λ x. not (is_of stream x)) list h) (counted_length many kernel (replicate 16 0) refl)

pub offset_places : (list : List Shadow) (stream : StreamNo) (offset : ℕ) → AllByRecursion HasPlaces list → AllByRecursion HasPlaces (shadows.set_offset list stream offset)
offset_places list stream offset h = changed_each (λ (shadow : Shadow). record shadow { offset = offset }) (λ x. refl) HasPlaces (λ x k. k) (is_of stream) list h

-- a shadow that is there, in the words of counts
held_more : (o : Option Shadow) (kernel other : ℕ) → is_some o ≡ true → ((shadow : Shadow) → o ≡ Some shadow → HasPlaces shadow) → 0 < kernel → kernel ≤ 16 → 0 < other → (other ≡ kernel → held other (option_map (one_more kernel) o) ≡ held other o + 1) × ((kernel ≡ other → ⊥) → held other (option_map (one_more kernel) o) ≡ held other o)
held_more (Some shadow) kernel other there places low high positive =
    (λ e. subst (λ n. count_of n (raised kernel shadow.grants) ≡ count_of n shadow.grants + 1) (sym e) (raised_here shadow.grants kernel (places shadow refl) low high), λ off. raised_other shadow.grants kernel other low positive off)
held_more None kernel other there places low high positive = absurd (cc)

pub grant_here : (list : List Shadow) (stream : StreamNo) (kernel other : ℕ) → is_some (find (is_of stream) list) ≡ true → AllByRecursion HasPlaces list → 0 < kernel → kernel ≤ 16 → 0 < other
    → (other ≡ kernel → grants_of (shadows.grant list stream kernel) stream other ≡ grants_of list stream other + 1) × ((kernel ≡ other → ⊥) → grants_of (shadows.grant list stream kernel) stream other ≡ grants_of list stream other)
grant_here list stream kernel other there places low high positive =
    let found = grant_found list stream kernel in
    let counts = held_more (find (is_of stream) list) kernel other there (λ shadow e. found_each HasPlaces (is_of stream) list shadow e places) low high positive in
    (λ e. ap (held other) found ∙ counts.0 e, λ off. ap (held other) found ∙ counts.1 off)

zero_less : (n : ℕ) → 0 ≡ 0 - n
zero_less n = omega arith

held_fewer : (o : Option Shadow) (kernel many other : ℕ) → ((shadow : Shadow) → o ≡ Some shadow → HasPlaces shadow) → 0 < kernel → kernel ≤ 16 → 0 < other → (other ≡ kernel → held other (option_map (fewer kernel many) o) ≡ held other o - many) × ((kernel ≡ other → ⊥) → held other (option_map (fewer kernel many) o) ≡ held other o)
held_fewer (Some shadow) kernel many other places low high positive =
    (λ e. subst (λ n. count_of n (lowered kernel many shadow.grants) ≡ count_of n shadow.grants - many) (sym e) (lowered_here shadow.grants kernel many (places shadow refl) low high), λ off. lowered_other shadow.grants kernel many other low positive off)
held_fewer None kernel many other places low high positive = (λ e. zero_less many, λ off. refl)

pub close_here : (list : List Shadow) (stream : StreamNo) (kernel many other : ℕ) → AllByRecursion HasPlaces list → 0 < kernel → kernel ≤ 16 → 0 < other
    → (other ≡ kernel → grants_of (shadows.close list stream kernel many) stream other ≡ grants_of list stream other - many) × ((kernel ≡ other → ⊥) → grants_of (shadows.close list stream kernel many) stream other ≡ grants_of list stream other)
close_here list stream kernel many other places low high positive =
    let found = close_found list stream kernel many other in
    let counts = held_fewer (find (is_of stream) list) kernel many other (λ shadow e. found_each HasPlaces (is_of stream) list shadow e places) low high positive in
    (λ e. found ∙ counts.0 e, λ off. found ∙ counts.1 off)

-- ---- opens

-- how many grants of the stream the kernel has, by these opens
abbrev pub count_of_open : List Open → StreamNo → ℕ → ℕ
count_of_open opens stream kernel = count_in (open_at opens stream kernel)

-- another stream, or another kernel
abbrev pub is_key : StreamNo → ℕ → StreamNo → ℕ → Bool
is_key stream kernel of_stream of_kernel = is_stream stream of_stream && (of_kernel == kernel)

key_apart : (stream : StreamNo) (kernel : ℕ) (of_stream : StreamNo) (of_kernel : ℕ) → is_key stream kernel of_stream of_kernel ≡ false → (one : Open) → is_at of_stream of_kernel one ≡ true → is_at stream kernel one ≡ false
key_apart stream kernel of_stream of_kernel off one e =
    let parts = and_parts (is_stream of_stream one.stream) (one.kernel == of_kernel) e in
    ap (λ (u : StreamNo). is_stream stream u && (one.kernel == kernel)) (same_stream of_stream one.stream parts.0) ∙ (ap (λ n. is_stream stream of_stream && (n == kernel)) (eqb-true one.kernel of_kernel parts.1) ∙ off)

put_by : (b : Bool) (p : Open → Bool) (x y : Open) (ys rest : List Open) → p y ≡ b → p x ≡ true → find p rest ≡ Some x → find p (cond b (x ∷ ys) (y ∷ rest)) ≡ Some x
put_by true p x y ys rest t here h = ap (λ b. cond b (Some x) (find p ys)) here
put_by false p x y ys rest t here h = ap (λ b. cond b (Some y) (find p rest)) t ∙ h

put_here : (p : Open → Bool) (x : Open) (ys : List Open) → p x ≡ true → find p (put p x ys) ≡ Some x
put_here p x [] here = ap (λ b. cond b (Some x) None) here
put_here p x (y ∷ ys) here = put_by (p y) p x y ys (put p x ys) refl here (put_here p x ys here)

there_by : (b : Bool) (p q : Open → Bool) (x y : Open) (ys rest : List Open) → p y ≡ b → (p y ≡ true → q y ≡ false) → q x ≡ false → find q rest ≡ find q ys → find q (cond b (x ∷ ys) (y ∷ rest)) ≡ cond (q y) (Some y) (find q ys)
there_by true p q x y ys rest t apart off h = ap (λ b. cond b (Some x) (find q ys)) off ∙ sym (ap (λ b. cond b (Some y) (find q ys)) (apart t))
there_by false p q x y ys rest t apart off h = ap (cond (q y) (Some y)) h

put_there : (p q : Open → Bool) (x : Open) (ys : List Open) → ((y : Open) → p y ≡ true → q y ≡ false) → q x ≡ false → find q (put p x ys) ≡ find q ys
put_there p q x [] apart off = ap (λ b. cond b (Some x) None) off
put_there p q x (y ∷ ys) apart off = there_by (p y) p q x y ys (put p x ys) refl (apart y) off (put_there p q x ys apart off)

-- one grant more
pub added_here : (opens : List Open) (stream : StreamNo) (kernel : ℕ) (mode : Mode) → is_key stream kernel stream kernel ≡ true → count_of_open (added opens stream kernel mode) stream kernel ≡ count_of_open opens stream kernel + 1
added_here opens stream kernel mode itself = ap count_in (put_here (is_at stream kernel) _ opens itself)

pub added_there : (opens : List Open) (stream : StreamNo) (kernel : ℕ) (mode : Mode) (other : StreamNo) (at : ℕ) → is_key other at stream kernel ≡ false → count_of_open (added opens stream kernel mode) other at ≡ count_of_open opens other at
added_there opens stream kernel mode other at off = ap count_in (put_there (is_at stream kernel) (is_at other at) _ opens (key_apart other at stream kernel off) off)

-- what is found passes
passes : (p : Open → Bool) (ys : List Open) (x : Open) → find p ys ≡ Some x → p x ≡ true
passes p [] x e = absurd (cc)
passes p (y ∷ ys) x e = by_test (p y) refl (passes p ys x) e
  where
    by_test : (b : Bool) → p y ≡ b → (find p ys ≡ Some x → p x ≡ true) → cond b (Some y) (find p ys) ≡ Some x → p x ≡ true
    by_test true t later e = let same : y ≡ x = cc in subst (λ z. p z ≡ true) same t
    by_test false t later e = later e

under : (a b : ℕ) → nat_le a b ≡ true → 0 ≡ a - b
under a b e = let le = leb-true a b e in omega arith

off_by : (o : Option Open) (opens : List Open) (stream : StreamNo) (kernel many : ℕ) → open_at opens stream kernel ≡ o → AtMost 1 (is_at stream kernel) opens → count_of_open (taking opens stream kernel many o) stream kernel ≡ count_in o - many
off_by (Some one) opens stream kernel many e once = by_test (nat_le one.count many) refl
  where
    none_some : (o : Option Open) → option_map (λ (x : Open). x) o ≡ None → count_in o ≡ 0
    none_some (Some x) e = absurd (cc)
    none_some None e = refl

    by_test : (b : Bool) → nat_le one.count many ≡ b → count_of_open (cond b (less (is_at stream kernel) opens) (put (is_at stream kernel) (record one { count = one.count - many }) opens)) stream kernel ≡ one.count - many
    by_test true t = none_some (find (is_at stream kernel) (less (is_at stream kernel) opens)) (find_none (is_at stream kernel) (λ (x : Open). x) (less (is_at stream kernel) opens) once) ∙ under one.count many t
    by_test false t = ap count_in (put_here (is_at stream kernel) (record one { count = one.count - many }) opens (passes (is_at stream kernel) opens one e))
off_by None opens stream kernel many e once = ap count_in e ∙ zero_less many

-- grants are taken off
pub off_here : (opens : List Open) (stream : StreamNo) (kernel many : ℕ) → AtMost 1 (is_at stream kernel) opens → count_of_open (taken_off opens stream kernel many) stream kernel ≡ count_of_open opens stream kernel - many
off_here opens stream kernel many once = off_by (open_at opens stream kernel) opens stream kernel many refl once

found_same : (one other : Option Open) → option_map (λ (x : Open). x) one ≡ option_map (λ (x : Open). x) other → count_in one ≡ count_in other
found_same (Some x) (Some y) e = let same : x ≡ y = cc in ap (λ (z : Open). z.count) same
found_same (Some x) None e = absurd (cc)
found_same None (Some y) e = absurd (cc)
found_same None None e = refl

there_off : (o : Option Open) (opens : List Open) (stream : StreamNo) (kernel many : ℕ) (other : StreamNo) (at : ℕ) → open_at opens stream kernel ≡ o → is_key other at stream kernel ≡ false → count_of_open (taking opens stream kernel many o) other at ≡ count_of_open opens other at
there_off (Some one) opens stream kernel many other at e off = elim (nat_le one.count many) as (λ b. count_of_open (cond b (less (is_at stream kernel) opens) (put (is_at stream kernel) (record one { count = one.count - many }) opens)) other at ≡ count_of_open opens other at) [
  | true ↦ found_same (find (is_at other at) (less (is_at stream kernel) opens)) (find (is_at other at) opens) (find_apart (is_at other at) (is_at stream kernel) (λ (x : Open). x) opens (key_apart other at stream kernel off))
  | false ↦ ap count_in (put_there (is_at stream kernel) (is_at other at) (record one { count = one.count - many }) opens (key_apart other at stream kernel off) (key_apart other at stream kernel off one (passes (is_at stream kernel) opens one e)))
]
there_off None opens stream kernel many other at e off = refl

pub off_there : (opens : List Open) (stream : StreamNo) (kernel many : ℕ) (other : StreamNo) (at : ℕ) → is_key other at stream kernel ≡ false → count_of_open (taken_off opens stream kernel many) other at ≡ count_of_open opens other at
off_there opens stream kernel many other at off = there_off (open_at opens stream kernel) opens stream kernel many other at refl off

-- ---- each open once

pub put_any : {X : Type 0} (p q : X → Bool) (x : X) (ys : List X) → ((y : X) → p y ≡ true → q y ≡ false) → q x ≡ false → list_any q (put p x ys) ≡ list_any q ys
put_any p q x [] apart off = ap (λ b. b || false) off
put_any p q x (y ∷ ys) apart off = by_test (p y) refl (put_any p q x ys apart off)
  where
    by_test : (b : Bool) → p y ≡ b → list_any q (put p x ys) ≡ list_any q ys → list_any q (cond b (x ∷ ys) (y ∷ put p x ys)) ≡ (q y || list_any q ys)
    by_test true t h = ap (λ b. b || list_any q ys) off ∙ sym (ap (λ b. b || list_any q ys) (apart y t))
    by_test false t h = ap (λ b. q y || b) h

least_by : (b c : Bool) (p q : Open → Bool) (x y : Open) (ys : List Open) → p y ≡ b → q y ≡ c → (p y ≡ true → q y ≡ false) → q x ≡ false → list_any q (put p x ys) ≡ list_any q ys → list_any q (less q (put p x ys)) ≡ list_any q (less q ys)
    → list_any q (less q (cond b (x ∷ ys) (y ∷ put p x ys))) ≡ list_any q (cond c ys (y ∷ less q ys))
least_by true true p q x y ys t u apart off h k = absurd (true≢false (sym u ∙ apart t))
least_by true false p q x y ys t u apart off h k = ap (λ b. list_any q (cond b ys (x ∷ less q ys))) off ∙ (ap (λ b. b || list_any q (less q ys)) off ∙ sym (ap (λ b. b || list_any q (less q ys)) u))
least_by false true p q x y ys t u apart off h k = ap (λ b. list_any q (cond b (put p x ys) (y ∷ less q (put p x ys)))) u ∙ h
least_by false false p q x y ys t u apart off h k = ap (λ b. list_any q (cond b (put p x ys) (y ∷ less q (put p x ys)))) u ∙ ap (λ b. q y || b) k

most_there : (p q : Open → Bool) (x : Open) (ys : List Open) → ((y : Open) → p y ≡ true → q y ≡ false) → q x ≡ false → list_any q (less q (put p x ys)) ≡ list_any q (less q ys)
most_there p q x [] apart off = ap (λ b. list_any q (cond b [] (x ∷ []))) off ∙ ap (λ b. b || false) off
most_there p q x (y ∷ ys) apart off = least_by (p y) (q y) p q x y ys refl refl (apart y) off (put_any p q x ys apart off) (most_there p q x ys apart off)

most_by : (b : Bool) (p : Open → Bool) (x y : Open) (ys : List Open) → p y ≡ b → p x ≡ true → list_any p (cond b ys (y ∷ less p ys)) ≡ false → (list_any p (less p ys) ≡ false → list_any p (less p (put p x ys)) ≡ false) → list_any p (less p (cond b (x ∷ ys) (y ∷ put p x ys))) ≡ false
most_by true p x y ys t here h later = ap (λ b. list_any p (cond b ys (x ∷ less p ys))) here ∙ h
most_by false p x y ys t here h later = ap (λ b. list_any p (cond b (put p x ys) (y ∷ less p (put p x ys)))) t ∙ (ap (λ b. b || list_any p (less p (put p x ys))) t ∙ later (sym (ap (λ b. b || list_any p (less p ys)) t) ∙ h))

most_here : (p : Open → Bool) (x : Open) (ys : List Open) → p x ≡ true → AtMost 1 p ys → AtMost 1 p (put p x ys)
most_here p x [] here h = ap (λ b. list_any p (cond b [] (x ∷ []))) here
most_here p x (y ∷ ys) here h = most_by (p y) p x y ys refl here h (most_here p x ys here)

by_key : (stream : StreamNo) (kernel : ℕ) (of_stream : StreamNo) (of_kernel : ℕ) (G : Type 0) → ((of_stream ≡ stream) × (of_kernel ≡ kernel) → G) → (is_key stream kernel of_stream of_kernel ≡ false → G) → G
by_key stream kernel of_stream of_kernel G here there = by_test (is_key stream kernel of_stream of_kernel) refl
  where
    by_test : (b : Bool) → is_key stream kernel of_stream of_kernel ≡ b → G
    by_test true e = let parts = and_parts (is_stream stream of_stream) (of_kernel == kernel) e in here (same_stream stream of_stream parts.0, eqb-true of_kernel kernel parts.1)
    by_test false e = there e

put_once : (opens : List Open) (one : Open) (stream : StreamNo) (kernel : ℕ) → is_at stream kernel one ≡ true → AreOpensOnce opens → AreOpensOnce (put (is_at stream kernel) one opens)
put_once opens one stream kernel here h other at = by_key other at stream kernel (AtMost 1 (is_at other at) (put (is_at stream kernel) one opens))
    (λ e. subst (λ (u : StreamNo). AtMost 1 (is_at u at) (put (is_at stream kernel) one opens)) e.0 (subst (λ n. AtMost 1 (is_at stream n) (put (is_at stream kernel) one opens)) e.1 (most_here (is_at stream kernel) one opens here (h stream kernel))))
    (λ off. most_there (is_at stream kernel) (is_at other at) one opens (key_apart other at stream kernel off) (key_apart other at stream kernel off one here) ∙ h other at)

pub added_once : (opens : List Open) (stream : StreamNo) (kernel : ℕ) (mode : Mode) → is_key stream kernel stream kernel ≡ true → AreOpensOnce opens → AreOpensOnce (added opens stream kernel mode)
added_once opens stream kernel mode itself h = put_once opens _ stream kernel itself h

taking_once : (o : Option Open) (opens : List Open) (stream : StreamNo) (kernel many : ℕ) → open_at opens stream kernel ≡ o → AreOpensOnce opens → AreOpensOnce (taking opens stream kernel many o)
taking_once (Some one) opens stream kernel many e h = elim (nat_le one.count many) as (λ b. AreOpensOnce (cond b (less (is_at stream kernel) opens) (put (is_at stream kernel) (record one { count = one.count - many }) opens))) [
  | true ↦ (λ other at. most_less (is_at other at) (is_at stream kernel) opens (h other at))
  | false ↦ put_once opens (record one { count = one.count - many }) stream kernel (passes (is_at stream kernel) opens one e) h
]
taking_once None opens stream kernel many e h = h

pub off_once : (opens : List Open) (stream : StreamNo) (kernel many : ℕ) → AreOpensOnce opens → AreOpensOnce (taken_off opens stream kernel many)
off_once opens stream kernel many h = taking_once (open_at opens stream kernel) opens stream kernel many refl h
