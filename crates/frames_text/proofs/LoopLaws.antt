-- Lines, digits and packets, one after another.
use Rattle.std.proofs.Common.{arith, ◌≡◌, ◌<◌, ◌≤◌, ◌∙◌, ℕ, ◌+◌, ◌*◌, Bool, true, false, List, [], ◌∷◌, ◌++◌, length, drop, slice_index_or, Option, Some, None, option_map, Result, refl, sym, ap, subst}
use Rattle.std.specs.Prelude.{IfSome, if◌then◌else◌}
use Rattle.std.specs.List.{AllByRecursion}
use Rattle.std.proofs.lemmas.List.{append_assoc, at_drop_more, length-append}
use Rattle.sprite_ids.proofs.ListLaws.{some_is}
use Rattle.text_lines.specs.Lines.{lines_of}
use Rattle.text_rows.specs.Rows.{behind_rows}
use Rattle.text_rows.proofs.RowLaws.{rows_go}
use Rattle.wire_fragments.specs.declared.MessageId.{MessageId}
use Rattle.frames_text.specs.declared.parcel.Parcel.{Parcel}
use Rattle.frames_text.specs.Digits.{IsPut, bytes_from, digit_of, is_digit, value_of}
use Rattle.frames_text.specs.Parcels.{IsParcel, cut_of, cuts_from, parcel_at, parcels_read}
use Rattle.frames_text.specs.Reports.{packet_line, report}
use Rattle.frames_text.specs.Sending.{Frame, all_framed, framed}

-- ---- digits

-- the bytes so far, and the ones behind
abbrev pub with_more : List ℕ → Option (List ℕ) → Option (List ℕ)
with_more bytes more = option_map (λ (xs : List ℕ). bytes ++ xs) more

known_by : (b : Bool) (v digit : ℕ) → Some digit ≡ (if b then Some v else None) → (b ≡ true) × (digit ≡ v)
known_by true v digit e = (refl, some_is digit v e)
known_by false v digit e = absurd (cc)

known : (c digit : ℕ) → Some digit ≡ digit_of c → (is_digit c ≡ true) × (digit ≡ value_of c)
known c digit e = known_by (is_digit c) (value_of c) digit e

more_joined : (old : List ℕ) (byte : ℕ) (o : Option (List ℕ)) → with_more (old ++ byte ∷ []) o ≡ with_more old (option_map (λ (more : List ℕ). byte ∷ more) o)
more_joined old byte None = refl
more_joined old byte (Some more) = ap (λ (xs : List ℕ). Some xs) (append_assoc old (byte ∷ []) more)

-- one digit more, of the text that is left
put_here : (high : Option ℕ) (c digit : ℕ) (cs old new : List ℕ) (next : Option ℕ) → Some digit ≡ digit_of c → IsPut high digit old new next → with_more new (bytes_from next cs) ≡ with_more old (bytes_from high (c ∷ cs))
put_here None c digit cs old new next e put =
    let is = known c digit e in
    ap (λ (xs : List ℕ). with_more xs (bytes_from next cs)) put.0 ∙ ap (λ (n : Option ℕ). with_more old (bytes_from n cs)) put.1
    ∙ ap (λ (d : ℕ). with_more old (bytes_from (Some d) cs)) is.1
    ∙ sym (ap (λ (b : Bool). with_more old (if b then bytes_from (Some (value_of c)) cs else None)) is.0)
put_here (Some high) c digit cs old new next e put =
    let is = known c digit e in
    ap (λ (xs : List ℕ). with_more xs (bytes_from next cs)) put.0 ∙ ap (λ (n : Option ℕ). with_more (old ++ (16 * high + digit) ∷ []) (bytes_from n cs)) put.1
    ∙ more_joined old (16 * high + digit) (bytes_from None cs)
    ∙ ap (λ (d : ℕ). with_more old (option_map (λ (more : List ℕ). (16 * high + d) ∷ more) (bytes_from None cs))) is.1
    ∙ sym (ap (λ (b : Bool). with_more old (if b then option_map (λ (more : List ℕ). (16 * high + value_of c) ∷ more) (bytes_from None cs) else None)) is.0)

pub digit_more : (whole : Option (List ℕ)) (line : List ℕ) (i d digit : ℕ) (high next : Option ℕ) (old new : List ℕ) → i < length line → Some digit ≡ digit_of (slice_index_or line i d) → IsPut high digit old new next → with_more old (bytes_from high (drop i line)) ≡ whole → with_more new (bytes_from next (drop (i + 1) line)) ≡ whole
digit_more whole line i d digit high next old new less e put so_far =
    put_here high (slice_index_or line i d) digit (drop (i + 1) line) old new next e put
    ∙ sym (ap (with_more old) (at_drop_more (bytes_from high) line i d less)) ∙ so_far

pub put_small : (high : Option ℕ) (digit : ℕ) (old new : List ℕ) (next : Option ℕ) → digit < 16 → IsPut high digit old new next → IfSome next (λ n. n < 16)
put_small None digit old new next small put = subst (λ (o : Option ℕ). IfSome o (λ n. n < 16)) (sym put.1) small
put_small (Some high) digit old new next small put = subst (λ (o : Option ℕ). IfSome o (λ n. n < 16)) (sym put.1) tt

pub put_short : (high : Option ℕ) (digit i : ℕ) (old new : List ℕ) (next : Option ℕ) → length old ≤ i → IsPut high digit old new next → length new ≤ i + 1
put_short None digit i old new next short put = (let same = ap length put.0 in omega (arith, same, short))
put_short (Some high) digit i old new next short put = (let same = ap length put.0 in let long = length-append old ((16 * high + digit) ∷ []) in omega (arith, same, long, short))

-- ---- packets of lines

all_pushed : (ps : List Parcel) (p : Parcel) → AllByRecursion IsParcel ps → IsParcel p → AllByRecursion IsParcel (ps ++ p ∷ [])
all_pushed [] p are is = (is, tt)
all_pushed (x ∷ ps) p are is = (are.0, all_pushed ps p are.1 is)

-- one packet more
pub record ReadMore (whole : Result (List Parcel) ℕ) (kernels number : ℕ) (new : List Parcel) (rest : List ℕ) : Type 0 where
  pub all : behind_rows new (parcels_read kernels (number + 1) (lines_of rest)) ≡ whole
  pub parcels : AllByRecursion IsParcel new
  pub numbered : number + 1 ≡ length new + 1
  pub few : length new ≤ 65535

pub read_more : (whole : Result (List Parcel) ℕ) (kernels number : ℕ) (ps new : List Parcel) (o : Option Parcel) (p : Parcel) (line before rest : List ℕ) → o ≡ Some p → o ≡ parcel_at kernels number line → IfSome o IsParcel → IfSome o (λ (x : Parcel). number ≤ 65535) → lines_of before ≡ line ∷ lines_of rest → new ≡ ps ++ p ∷ []
    → behind_rows ps (parcels_read kernels number (lines_of before)) ≡ whole → AllByRecursion IsParcel ps → number ≡ length ps + 1 → ReadMore whole kernels number new rest
read_more whole kernels number ps new o p line before rest is at ends few lines pushed so_far are numbered = record {
  all = ap (λ (xs : List Parcel). behind_rows xs (parcels_read kernels (number + 1) (lines_of rest))) pushed ∙ rows_go (parcel_at kernels) number (number + 1) ps p line before rest whole lines (sym at ∙ is) refl so_far;
  parcels = subst (AllByRecursion IsParcel) (sym pushed) (all_pushed ps p are (subst (λ (x : Option Parcel). IfSome x IsParcel) is ends));
  numbered = (let long = ap length pushed in let more = length-append ps (p ∷ []) in omega (arith, long, more, numbered));
  few = (let long = ap length pushed in let more = length-append ps (p ∷ []) in let least : number ≤ 65535 = subst (λ (x : Option Parcel). IfSome x (λ (y : Parcel). number ≤ 65535)) is few in omega (arith, long, more, numbered, least));
}

-- ---- lines of packets

pub line_more : (is_whole : MessageId → Bool) (whole lines out : List ℕ) (id i : ℕ) (ps : List Parcel) (p : Parcel) → i < length ps → p ≡ slice_index_or ps i p → out ≡ lines ++ packet_line id (is_whole (record { from = p.from; to = p.to; id = id }))
    → lines ++ report is_whole (cuts_from id (drop i ps)) ≡ whole → out ++ report is_whole (cuts_from (id + 1) (drop (i + 1) ps)) ≡ whole
line_more is_whole whole lines out id i ps p less item put so_far =
    let rest = report is_whole (cuts_from (id + 1) (drop (i + 1) ps)) in
    let here = packet_line id (is_whole (record { from = p.from; to = p.to; id = id })) in
    ap (λ (xs : List ℕ). xs ++ rest) put ∙ (append_assoc lines here rest
    ∙ (ap (λ (x : Parcel). lines ++ report is_whole (cuts_from id (x ∷ drop (i + 1) ps))) item
    ∙ (sym (ap (λ (xs : List ℕ). lines ++ xs) (at_drop_more (λ (xs : List Parcel). report is_whole (cuts_from id xs)) ps i p less)) ∙ so_far)))

-- ---- frames of packets

pub frames_more : (whole frames new : List Frame) (id i : ℕ) (ps : List Parcel) (p : Parcel) → i < length ps → p ≡ slice_index_or ps i p → new ≡ frames ++ framed (cut_of id p)
    → frames ++ all_framed (cuts_from id (drop i ps)) ≡ whole → new ++ all_framed (cuts_from (id + 1) (drop (i + 1) ps)) ≡ whole
frames_more whole frames new id i ps p less item put so_far =
    let rest = all_framed (cuts_from (id + 1) (drop (i + 1) ps)) in
    ap (λ (xs : List Frame). xs ++ rest) put ∙ (append_assoc frames (framed (cut_of id p)) rest
    ∙ (ap (λ (x : Parcel). frames ++ all_framed (cuts_from id (x ∷ drop (i + 1) ps))) item
    ∙ (sym (ap (λ (xs : List Frame). frames ++ xs) (at_drop_more (λ (xs : List Parcel). all_framed (cuts_from id xs)) ps i p less)) ∙ so_far)))
