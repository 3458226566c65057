-- What enters is right: a reading in a cache has the bytes of its moment, and so has an operation at the server.
use Rattle.std.proofs.Common.{◌≡◌, ◌≤◌, ◌<◌, ℕ, zero, suc, ◌+◌, ◌-◌, ◌*◌, ◌/◌, ◌%◌, ◌==◌, nat_lt, Bool, true, false, cond, not, ◌&&◌, List, [], ◌∷◌, ◌++◌, length, take, drop, get_or, min, Option, Some, None, refl, sym, ap, ◌∙◌, subst, inl, inr, arith, eq-eqb, lt-ltb, length-append, length-take, length-drop, append-nil}
use Rattle.std.proofs.lemmas.Bool.{and_from}
use Rattle.std.proofs.lemmas.List.{take_all, get_or-take, get_or-drop, get_or_append_left, get_or-append_right, ext_get_or}
use Rattle.std.proofs.lemmas.Nat.{div-add-mod'}
use Rattle.std.proofs.Math.Nat.{lt-div-mul-add, add-mul}
use Rattle.sprite_ids.specs.declared.StreamNo.{StreamNo}
use Rattle.sprite_ids.specs.declared.errno.Errno.TheVariants as errno
use Rattle.file_views.specs.declared.body.Access.{Access}
use Rattle.file_views.specs.declared.body.Access.TheVariants as access
use Rattle.file_views.specs.declared.body.FileBody.{FileBody}
use Rattle.file_views.specs.declared.body.FileBody.TheVariants as form
use Rattle.file_views.specs.declared.client.Held.{Held}
use Rattle.file_views.specs.declared.client.Client.{Client}
use Rattle.file_views.specs.declared.step.FileStep.TheVariants as act
use Rattle.file_views.specs.declared.view.View.{View}
use Rattle.file_views.specs.Setting.{Setting}
use Rattle.file_views.specs.Contents.{zeros, part, grown, overlay, numbers_from, blocks_between, same_bytes}
use Rattle.file_views.specs.Clients.{held, first_absent, held_bytes, joined, cached_bytes}
use Rattle.file_views.specs.Views.{client}
use Rattle.file_views.specs.Data.{step_of}
use Rattle.file_views.specs.Serving.{bytes_after, op_reply}
use Rattle.file_views.specs.Entries.{told_reply, cached_reply, bytes_entered, refuses, agrees, is_right}
use Rattle.file_views.specs.Here.{In}
use Rattle.file_views.proofs.MemberLaws.{held_found}
use Rattle.file_views.proofs.AskingLaws.{outside}
use Rattle.file_views.proofs.BlockLaws.{in_between}
use Rattle.file_views.proofs.HolderTakeLaws.{order}
use Rattle.file_views.proofs.BytesLaws.{part_byte, part_length}

-- blocks in a row, each a part of the bytes
abbrev pub RightAt : Setting → List ℕ → List Held → ℕ → Type 0
RightAt z stood blocks number = held_bytes z (held blocks number) ≡ part z stood number

joined_length : (z : Setting) (stood : List ℕ) (blocks : List Held) (count first : ℕ) → ((number : ℕ) → In number (numbers_from first count) → RightAt z stood blocks number) → length (joined z blocks (numbers_from first count)) ≡ count * z.block
joined_length z stood blocks zero first f = omega arith
joined_length z stood blocks (suc count) first f =
    let a = length-append (held_bytes z (held blocks first)) (joined z blocks (numbers_from (first + 1) count)) in
    let b : length (held_bytes z (held blocks first)) ≡ z.block = ap length (f first (inl refl)) ∙ part_length z stood first in
    let c = joined_length z stood blocks count (first + 1) (λ number m. f number (inr m)) in
    omega (arith, a, b, c)

joined_byte : (z : Setting) (stood : List ℕ) (blocks : List Held) (count first i : ℕ) → ((number : ℕ) → In number (numbers_from first count) → RightAt z stood blocks number) → i < count * z.block → get_or (joined z blocks (numbers_from first count)) i 0 ≡ get_or stood (first * z.block + i) 0
joined_byte z stood blocks zero first i f l = absurd (omega (arith, l))
joined_byte z stood blocks (suc count) first i f l = elim (order i z.block) [
  | inl k ↦ get_or_append_left (held_bytes z (held blocks first)) more 0 i (under k) ∙ (ap (λ xs. get_or xs i 0) (f first (inl refl)) ∙ part_byte z stood first i k)
  | inr k ↦ get_or-append_right (held_bytes z (held blocks first)) more z.block i 0 long k ∙ (joined_byte z stood blocks count (first + 1) (i - z.block) (λ number m. f number (inr m)) (behind k) ∙ ap (λ n. get_or stood n 0) (place k))
]
  where
    more : List ℕ
    more = joined z blocks (numbers_from (first + 1) count)

    long : length (held_bytes z (held blocks first)) ≡ z.block
    long = ap length (f first (inl refl)) ∙ part_length z stood first

    under : i < z.block → i < length (held_bytes z (held blocks first))
    under k = let e = long in omega (arith, e, k)

    behind : z.block ≤ i → i - z.block < count * z.block
    behind k = omega (arith, l, k)

    place : z.block ≤ i → (first + 1) * z.block + (i - z.block) ≡ first * z.block + i
    place k = let a = add-mul first 1 z.block in omega (arith, a, k)

-- what a client reads in its cache
pub read_cached : (z : Setting) (c : Client) (stood : List ℕ) (low many : ℕ) → 0 < z.block → c.size ≡ length stood → ((one : Held) → In one c.blocks → one.bytes ≡ part z stood one.block.0) → first_absent z c (blocks_between z low (min (low + many) c.size)) ≡ None → cached_bytes z c low (min (low + many) c.size) ≡ take many (drop low stood)
read_cached z c stood low many p e f n = elim (order low high) [ inl l ↦ some l | inr l ↦ none l ]
  where
    high : ℕ
    high = min (low + many) c.size

    short : length (take many (drop low stood)) ≡ high - low
    short = let a = length-take many (drop low stood) in let b = length-drop low stood in omega (arith, a, b, e)

    none : high ≤ low → cached_bytes z c low high ≡ take many (drop low stood)
    none l = ext_get_or 0 (cached_bytes z c low high) (take many (drop low stood)) (let a = length-take (high - low) (drop (low % z.block) (joined z c.blocks (blocks_between z low high))) in omega (arith, a, short, l)) (λ i h. absurd (let a = length-take (high - low) (drop (low % z.block) (joined z c.blocks (blocks_between z low high))) in omega (arith, a, l, h)))

    some : low < high → cached_bytes z c low high ≡ take many (drop low stood)
    some l = ap (λ b. take (high - low) (drop (low % z.block) (joined z c.blocks (cond b (numbers_from first count) [])))) (lt-ltb low high l) ∙ ext_get_or 0 (take (high - low) (drop rest whole)) (take many (drop low stood)) (long ∙ sym short) (λ i h. byte i (let a = long in omega (arith, a, h)))
      where
        first : ℕ
        first = low / z.block

        count : ℕ
        count = (high - 1) / z.block + 1 - low / z.block

        rest : ℕ
        rest = low % z.block

        whole : List ℕ
        whole = joined z c.blocks (numbers_from first count)

        between : blocks_between z low high ≡ numbers_from first count
        between = ap (λ b. cond b (numbers_from first count) []) (lt-ltb low high l)

        right : (number : ℕ) → In number (numbers_from first count) → RightAt z stood c.blocks number
        right number m = by_held (held c.blocks number) refl
          where
            inside : In number (blocks_between z low high)
            inside = subst (In number) (sym between) m

            begins : number * z.block < c.size
            begins = let a = in_between z low high number inside in omega (arith, a)

            by_held : (o : Option Held) → held c.blocks number ≡ o → held_bytes z o ≡ part z stood number
            by_held (Some one) q = let g = held_found c.blocks number one q in f one g.0 ∙ ap (part z stood) g.1
            by_held None q = absurd (outside z c (blocks_between z low high) n number q begins inside)

        split : low ≡ first * z.block + rest
        split = sym (div-add-mod' low z.block)

        last : high ≤ (high - 1) / z.block * z.block + z.block
        last = let a = lt-div-mul-add {a = high - 1} {b = z.block} p in omega (arith, a, l)

        below : first ≤ (high - 1) / z.block
        below = elim (order ((high - 1) / z.block) first) [
          | inl k ↦ absurd (let a = gap ((high - 1) / z.block) first k in let b = last in let d = split in omega (arith, a, b, d, l))
          | inr k ↦ k
        ]
          where
            gap : (a b : ℕ) → a < b → a * z.block + z.block ≤ b * z.block
            gap a b k = let q : b ≡ a + 1 + (b - (a + 1)) = omega (arith, k) in let s = add-mul (a + 1) (b - (a + 1)) z.block in let t = add-mul a 1 z.block in let u : b * z.block ≡ (a + 1 + (b - (a + 1))) * z.block = ap (λ n. n * z.block) q in omega (arith, s, t, u)

        enough : high - low + rest ≤ count * z.block
        enough = let a = add-mul first count z.block in let b : first + count ≡ (high - 1) / z.block + 1 = joins in let d = add-mul ((high - 1) / z.block) 1 z.block in let g : (first + count) * z.block ≡ ((high - 1) / z.block + 1) * z.block = ap (λ n. n * z.block) b in let h = last in let k = split in omega (arith, a, d, g, h, k, l)
          where
            joins : first + count ≡ (high - 1) / z.block + 1
            joins = let a = below in omega (arith, a)

        long : length (take (high - low) (drop rest whole)) ≡ high - low
        long = let a = length-take (high - low) (drop rest whole) in let b = length-drop rest whole in let d = joined_length z stood c.blocks count first right in let h = enough in omega (arith, a, b, d, h)

        byte : (i : ℕ) → i < high - low → get_or (take (high - low) (drop rest whole)) i 0 ≡ get_or (take many (drop low stood)) i 0
        byte i h = get_or-take (high - low) (drop rest whole) i 0 h ∙ (get_or-drop rest whole i 0 ∙ (joined_byte z stood c.blocks count first (rest + i) right (let a = enough in omega (arith, a, h)) ∙ (ap (λ k. get_or stood k 0) (let a = split in omega (arith, a)) ∙ sym (get_or-take many (drop low stood) i 0 (omega (arith, h)) ∙ get_or-drop low stood i 0))))

bytes_self : (xs : List ℕ) → same_bytes xs xs ≡ true
bytes_self [] = refl
bytes_self (x ∷ xs) = and_from (x == x) (same_bytes xs xs) (eq-eqb x x refl) (bytes_self xs)

gives_self : (xs : List ℕ) → ((length xs == length xs) && same_bytes xs xs) ≡ true
gives_self xs = and_from (length xs == length xs) (same_bytes xs xs) (eq-eqb (length xs) (length xs) refl) (bytes_self xs)

pub reading_right : (z : Setting) (v : View) (kernel : ℕ) (stood : List ℕ) (pid number place : ℕ) (stream : StreamNo) (from many : ℕ) → cached_bytes z (client v kernel) from (min (from + many) (client v kernel).size) ≡ take many (drop from stood) → is_right z stood (act.Reading pid number place stream from many) (cached_reply z v kernel (act.Reading pid number place stream from many)) ≡ true
reading_right z v kernel stood pid number place stream from many e = subst (λ xs. ((length xs == length (take many (drop from stood))) && same_bytes xs (take many (drop from stood))) ≡ true) (sym e) (gives_self (take many (drop from stood)))

-- an append goes to the end, up to the limit
pub overlay_end : (xs new : List ℕ) → overlay xs (length xs) new ≡ xs ++ new
overlay_end xs [] = sym (append-nil xs)
overlay_end xs (first ∷ rest) = ap (λ ys. ys ++ (first ∷ rest) ++ drop (length xs + length (first ∷ rest)) xs) front ∙ (ap (λ ys. (xs ++ (first ∷ rest)) ++ ys) behind ∙ append-nil (xs ++ (first ∷ rest)))
  where
    none : (n : ℕ) → n - n ≡ 0
    none n = omega arith

    plain : grown xs (length xs) ≡ xs
    plain = ap (λ n. xs ++ zeros n) (none (length xs)) ∙ append-nil xs

    front : take (length xs) (grown xs (length xs)) ≡ xs
    front = ap (take (length xs)) plain ∙ take_all (length xs) xs (omega arith)

    behind : drop (length xs + length (first ∷ rest)) xs ≡ []
    behind = ext_get_or 0 (drop (length xs + length (first ∷ rest)) xs) [] (let a = length-drop (length xs + length (first ∷ rest)) xs in omega (arith, a)) (λ i h. absurd (let a = length-drop (length xs + length (first ∷ rest)) xs in omega (arith, a, h)))

append_agrees : (b : Bool) (reply : FileBody) → refuses reply ≡ false → agrees b (refuses (cond b (form.Refused errno.TooBig) reply)) ≡ true
append_agrees true reply e = refl
append_agrees false reply e = ap not e

pub append_right : (z : Setting) (v : View) (kernel : ℕ) (stood : List ℕ) (pid number place : ℕ) (stream : StreamNo) (bytes : List ℕ) → (client v kernel).size ≡ length stood → is_right z stood (act.Append pid number place stream bytes) (cached_reply z v kernel (act.Append pid number place stream bytes)) ≡ true
append_right z v kernel stood pid number place stream bytes e = subst (λ n. agrees (nat_lt z.most (length stood + length bytes)) (refuses (cond (nat_lt z.most (n + length bytes)) (form.Refused errno.TooBig) (form.Value (length bytes) 0 []))) ≡ true) (sym e) (append_agrees (nat_lt z.most (length stood + length bytes)) (form.Value (length bytes) 0 []) refl)

-- an operation at the server
pub op_bytes : (z : Setting) (stood : List ℕ) (pid number place : ℕ) (stream : StreamNo) (way : Access) → bytes_entered z stood (step_of pid number place stream way) ≡ bytes_after z stood way
op_bytes z stood pid number place stream (access.Read from many) = refl
op_bytes z stood pid number place stream (access.Write from bytes) = refl
op_bytes z stood pid number place stream (access.Append bytes) = refl

pub op_right : (z : Setting) (stood : List ℕ) (pid number place : ℕ) (stream : StreamNo) (way : Access) → is_right z stood (step_of pid number place stream way) (told_reply way (op_reply z stood way)) ≡ true
op_right z stood pid number place stream (access.Read from many) = gives_self (take many (drop from stood))
op_right z stood pid number place stream (access.Write from bytes) = refl
op_right z stood pid number place stream (access.Append bytes) = by_size (nat_lt z.most (length stood + length bytes))
  where
    by_size : (b : Bool) → agrees b (refuses (told_reply (access.Append bytes) (cond b (form.Refused errno.TooBig) (form.Value (length bytes) (length stood + length bytes) [])))) ≡ true
    by_size true = refl
    by_size false = refl
