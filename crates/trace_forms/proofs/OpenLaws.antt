-- Where streams are open, and whether they are shared, is told record by record.
use Rattle.std.proofs.Common.{◌≡◌, ◌∙◌, ℕ, ◌==◌, Bool, true, false, cond, ◌&&◌, ◌||◌, not, List, [], ◌∷◌, refl, sym, ap, ap₂}
use Rattle.std.specs.List.{list_any}
use Rattle.std.proofs.lemmas.Bool.{and_parts, eqb-true, true≢false}
use Rattle.sprite_ids.specs.declared.names.FileId.{FileId}
use Rattle.sprite_ids.specs.declared.names.StreamNo.{StreamNo}
use Rattle.sprite_ids.specs.declared.names.Mode.{Mode}
use Rattle.sprite_ids.specs.declared.names.Mode.TheVariants as mode
use Rattle.unix_calls.specs.declared.event.Event.{Event}
use Rattle.unix_calls.specs.declared.event.Event.TheVariants as event
use Rattle.call_journal.specs.Matching.{same_file, same_stream, same_mode}
use Rattle.call_journal.specs.Files.{OpenStream, is_opened_at, without_open, opens_by}
use Rattle.call_journal.specs.Formed.{is_shared_stream}
use Rattle.trace_forms.specs.Opens.{mode_number, same_open, shared_behind, opens_behind}
use Rattle.trace_forms.proofs.ListLaws.{and_assoc}

-- ---- modes by their numbers

pub number_same : (a b : Mode) → (mode_number a == mode_number b) ≡ same_mode a b
number_same mode.Read mode.Read = refl
number_same mode.Read mode.Write = refl
number_same mode.Read mode.Both = refl
number_same mode.Write mode.Read = refl
number_same mode.Write mode.Write = refl
number_same mode.Write mode.Both = refl
number_same mode.Both mode.Read = refl
number_same mode.Both mode.Write = refl
number_same mode.Both mode.Both = refl

mode_is : (a b : Mode) → same_mode a b ≡ true → a ≡ b
mode_is mode.Read mode.Read h = refl
mode_is mode.Write mode.Write h = refl
mode_is mode.Both mode.Both h = refl
mode_is mode.Read mode.Write h = absurd (true≢false (sym h))
mode_is mode.Read mode.Both h = absurd (true≢false (sym h))
mode_is mode.Write mode.Read h = absurd (true≢false (sym h))
mode_is mode.Write mode.Both h = absurd (true≢false (sym h))
mode_is mode.Both mode.Read h = absurd (true≢false (sym h))
mode_is mode.Both mode.Write h = absurd (true≢false (sym h))

-- ---- streams that are shared

pub shared_on : (e : Event) (stream : StreamNo) (before : Bool) → shared_behind e stream before ≡ cond (is_shared_stream stream e) true before
shared_on (event.Shared f s) stream before = refl
shared_on _ stream before = refl

-- ---- where streams are open

-- a stream that is open at a kernel, by what names it
is_like : OpenStream → OpenStream → Bool
is_like p x = is_opened_at p.stream p.kernel p.mode x

like_is : (p x : OpenStream) → is_opened_at p.stream p.kernel p.mode x ≡ true → x ≡ p
like_is p x h =
    let one = and_parts (same_stream x.stream p.stream && x.kernel == p.kernel) (same_mode x.mode p.mode) h in
    let two = and_parts (same_stream x.stream p.stream) (x.kernel == p.kernel) one.0 in
    let stream = and_parts (x.stream.kernel == p.stream.kernel) (x.stream.number == p.stream.number) two.0 in
    let stream_is : x.stream ≡ p.stream = ap₂ (λ k n. record { kernel = k; number = n }) (eqb-true x.stream.kernel p.stream.kernel stream.0) (eqb-true x.stream.number p.stream.number stream.1) in
    ap (λ s. record { stream = s; kernel = x.kernel; mode = x.mode }) stream_is
    ∙ ap₂ (λ k m. record { stream = p.stream; kernel = k; mode = m }) (eqb-true x.kernel p.kernel two.1) (mode_is x.mode p.mode one.1)

-- whether one is there where one is taken out
without_is : (p q : OpenStream) (xs : List OpenStream) → list_any (is_opened_at q.stream q.kernel q.mode) (without_open p.stream p.kernel p.mode xs) ≡ cond (is_opened_at q.stream q.kernel q.mode p) false (list_any (is_opened_at q.stream q.kernel q.mode) xs)
without_is p q [] = by (is_opened_at q.stream q.kernel q.mode p)
  where
    by : (b : Bool) → false ≡ cond b false false
    by true = refl
    by false = refl
without_is p q (x ∷ xs) = by (is_opened_at p.stream p.kernel p.mode x) (without_is p q xs) refl
  where
    gone : (b y : Bool) → cond b false y ≡ cond b false (b || y)
    gone true y = refl
    gone false y = refl

    kept : (here there y : Bool) → (here ≡ true → there ≡ true → false ≡ true) → (there || cond here false y) ≡ cond here false (there || y)
    kept true true y apart = sym (apart refl refl)
    kept true false y apart = refl
    kept false there y apart = refl

    apart_is : (is_opened_at p.stream p.kernel p.mode x ≡ false) → is_opened_at q.stream q.kernel q.mode p ≡ true → is_opened_at q.stream q.kernel q.mode x ≡ true → false ≡ true
    apart_is other one two = sym other ∙ ap (λ (s : OpenStream). is_opened_at p.stream p.kernel p.mode s) (like_is q x two ∙ sym (like_is q p one)) ∙ ap (λ (s : OpenStream). is_opened_at s.stream s.kernel s.mode p) (like_is q p one) ∙ one

    by : (b : Bool) → list_any (is_opened_at q.stream q.kernel q.mode) (without_open p.stream p.kernel p.mode xs) ≡ cond (is_opened_at q.stream q.kernel q.mode p) false (list_any (is_opened_at q.stream q.kernel q.mode) xs) → is_opened_at p.stream p.kernel p.mode x ≡ b → list_any (is_opened_at q.stream q.kernel q.mode) (cond (not b) (x ∷ without_open p.stream p.kernel p.mode xs) (without_open p.stream p.kernel p.mode xs)) ≡ cond (is_opened_at q.stream q.kernel q.mode p) false (is_opened_at q.stream q.kernel q.mode x || list_any (is_opened_at q.stream q.kernel q.mode) xs)
    by true more is =
        more
        ∙ gone (is_opened_at q.stream q.kernel q.mode p) (list_any (is_opened_at q.stream q.kernel q.mode) xs)
        ∙ ap (λ (s : OpenStream). cond (is_opened_at q.stream q.kernel q.mode p) false (is_opened_at q.stream q.kernel q.mode s || list_any (is_opened_at q.stream q.kernel q.mode) xs)) (sym (like_is p x is))
    by false more is =
        ap (λ b. is_opened_at q.stream q.kernel q.mode x || b) more
        ∙ kept (is_opened_at q.stream q.kernel q.mode p) (is_opened_at q.stream q.kernel q.mode x) (list_any (is_opened_at q.stream q.kernel q.mode) xs) (apart_is is)

-- and where one is put first
with_is : (p q : OpenStream) (xs : List OpenStream) → list_any (is_opened_at q.stream q.kernel q.mode) (p ∷ without_open p.stream p.kernel p.mode xs) ≡ cond (is_opened_at q.stream q.kernel q.mode p) true (list_any (is_opened_at q.stream q.kernel q.mode) xs)
with_is p q xs =
    ap (λ b. is_opened_at q.stream q.kernel q.mode p || b) (without_is p q xs)
    ∙ by (is_opened_at q.stream q.kernel q.mode p) (list_any (is_opened_at q.stream q.kernel q.mode) xs)
  where
    by : (b y : Bool) → (b || cond b false y) ≡ cond b true y
    by true y = refl
    by false y = refl

open_number : (f file : FileId) (s stream : StreamNo) (k kernel : ℕ) (n m : Mode) → same_open (record { file = f; stream = s; kernel = k; mode = mode_number n }) (record { file = file; stream = stream; kernel = kernel; mode = mode_number m }) ≡ (same_file f file && is_opened_at stream kernel m (record { stream = s; kernel = k; mode = n }))
open_number f file s stream k kernel n m =
    ap (λ b. same_file f file && (same_stream s stream && (k == kernel && b))) (number_same n m)
    ∙ sym (ap (λ b. same_file f file && b) (and_assoc (same_stream s stream) (k == kernel) (same_mode n m)))

put_in : (here there : Bool) (q : OpenStream) (os more : List OpenStream) → (list_any (is_opened_at q.stream q.kernel q.mode) more ≡ cond there true (list_any (is_opened_at q.stream q.kernel q.mode) os)) → cond (here && there) true (list_any (is_opened_at q.stream q.kernel q.mode) os) ≡ list_any (is_opened_at q.stream q.kernel q.mode) (cond here more os)
put_in true there q os more is = sym is
put_in false there q os more is = refl

taken_out : (here there : Bool) (q : OpenStream) (os more : List OpenStream) → (list_any (is_opened_at q.stream q.kernel q.mode) more ≡ cond there false (list_any (is_opened_at q.stream q.kernel q.mode) os)) → cond (here && there) false (list_any (is_opened_at q.stream q.kernel q.mode) os) ≡ list_any (is_opened_at q.stream q.kernel q.mode) (cond here more os)
taken_out true there q os more is = sym is
taken_out false there q os more is = refl

pub opens_on : (e : Event) (file : FileId) (q : OpenStream) (os : List OpenStream) → opens_behind e (record { file = file; stream = q.stream; kernel = q.kernel; mode = mode_number q.mode }) (list_any (is_opened_at q.stream q.kernel q.mode) os) ≡ list_any (is_opened_at q.stream q.kernel q.mode) (opens_by file e os)
opens_on (event.Opened f s k n) file q os =
    let p : OpenStream = record { stream = s; kernel = k; mode = n } in
    ap (λ b. cond b true (list_any (is_opened_at q.stream q.kernel q.mode) os)) (open_number f file s q.stream k q.kernel n q.mode)
    ∙ put_in (same_file f file) (is_opened_at q.stream q.kernel q.mode p) q os (p ∷ without_open s k n os) (with_is p q os)
opens_on (event.Closed f s k n) file q os =
    let p : OpenStream = record { stream = s; kernel = k; mode = n } in
    ap (λ b. cond b false (list_any (is_opened_at q.stream q.kernel q.mode) os)) (open_number f file s q.stream k q.kernel n q.mode)
    ∙ taken_out (same_file f file) (is_opened_at q.stream q.kernel q.mode p) q os (without_open s k n os) (without_is p q os)
opens_on _ file q os = refl
