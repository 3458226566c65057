-- Where a copy in flight stands.
use Rattle.std.proofs.Common.{arith, ◌≡◌, ℕ, zero, suc, ◌<◌, ◌≤◌, ◌+◌, true, false, List, [], ◌∷◌, length, None, get_or, ltb, ⊎_elim}
use Rattle.std.specs.List.{position}
use Rattle.std.proofs.lemmas.Bool.Decides.{nat_tests}
use Rattle.std.proofs.lemmas.Bool.{cases_lt}
use Rattle.sprite_ids.specs.declared.CopyNo.{CopyNo}
use Rattle.kernel_rpc.specs.declared.call.PacketCopy.{PacketCopy}
use Rattle.kernel_rpc.specs.Machine.{is_copy}
use Rattle.kernel_rpc.specs.Histories.{AreNumbersRising}
use Rattle.kernel_rpc.specs.Table.{Rise}
use Rattle.kernel_rpc.proofs.CountLaws.{position_none}

above : (first last : ℕ) (copies : List PacketCopy) → AreNumbersRising first copies last → (j : ℕ) (d : PacketCopy) → j < length copies → first ≤ (get_or copies j d).number.0
above first last [] h j d inside = absurd (omega arith)
above first last (copy ∷ copies) h zero d inside = h.0
above first last (copy ∷ copies) h (suc j) d inside =
    let here = h.0 in
    let rest = above (copy.number.0 + 1) last copies h.1 j d (omega arith) in
    omega arith

-- copies whose numbers rise stand in their order
pub rise : (first last : ℕ) (copies : List PacketCopy) → AreNumbersRising first copies last → Rise copies
rise first last [] h i j d le inside = absurd (omega arith)
rise first last (copy ∷ copies) h zero zero d le inside = omega arith
rise first last (copy ∷ copies) h zero (suc j) d le inside = (let rest = above (copy.number.0 + 1) last copies h.1 j d (omega arith) in omega arith)
rise first last (copy ∷ copies) h (suc i) zero d le inside = absurd (omega arith)
rise first last (copy ∷ copies) h (suc i) (suc j) d le inside = rise (copy.number.0 + 1) last copies h.1 i j d (omega arith) (omega arith)

-- some copy
abbrev pub some_copy : PacketCopy
some_copy = record { number = record { 0 = 0 }; tx = record { 0 = 0 }; from = 1; to = 1; reply = false; late = false; about = None }

-- a copy with a smaller number is another one
pub copy_below : (number : CopyNo) (copy : PacketCopy) → ltb copy.number.0 number.0 ≡ true → is_copy number copy ≡ false
copy_below number copy less = grind (arith, nat_tests)

-- a copy of another number at the first place whose number isn't smaller: none has the number
pub no_copy : (number : CopyNo) (copies : List PacketCopy) (at : ℕ) (d : PacketCopy) → Rise copies → at < length copies → is_copy number (get_or copies at d) ≡ false → ((k : ℕ) → k < at → ltb (get_or copies k d).number.0 number.0 ≡ true) → ltb (get_or copies at d).number.0 number.0 ≡ false → position (is_copy number) copies ≡ None
no_copy number copies at d order inside other before least =
    position_none (is_copy number) copies d (λ k under. ⊎_elim (λ low. copy_below number (get_or copies k d) (before k low)) (λ high. (let more = order at k d high under in copy_above number (get_or copies at d) (get_or copies k d) other least more)) (cases_lt k at))
  where
    copy_above : (number : CopyNo) (first later : PacketCopy) → is_copy number first ≡ false → ltb first.number.0 number.0 ≡ false → first.number.0 ≤ later.number.0 → is_copy number later ≡ false
    copy_above number first later other least more = grind (arith, nat_tests)
