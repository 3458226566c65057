-- The fields of a trace's lines are read as they were printed.
use Rattle.std.proofs.Common.{◌≡◌, ℕ, ◌^◌, ◌<◌, ◌==◌, nat_le, Bool, true, false, cond, ◌&&◌, inl, inr, List, [], ◌∷◌, ◌++◌, length, Option, Some, None, refl, sym, ap, ap₂, subst, ◌∙◌, arith}
use Rattle.std.specs.Prelude.{codes}
use Rattle.std.specs.List.{list_all, AllByRecursion}
use Rattle.std.specs.Fmt.{decimal}
use Rattle.std.specs.Cmp.Lexicographic.{same_text}
use Rattle.std.proofs.lemmas.Bool.{cases_Bool, cond-true, cond-false, and_parts, and_from, le-leb, leb-true, lt-ltb, ltb-true, eqb-true}
use Rattle.std.proofs.lemmas.Fmt.{decimal_is_IsNumeral}
use Rattle.sprite_ids.specs.declared.names.Mode.{Mode}
use Rattle.sprite_ids.specs.declared.names.Mode.TheVariants as mode
use Rattle.sprite_ids.specs.declared.caching.CacheMode.{CacheMode}
use Rattle.sprite_ids.specs.declared.caching.CacheMode.TheVariants as cache
use Rattle.sprite_ids.specs.declared.caching.CallKind.{CallKind}
use Rattle.sprite_ids.specs.declared.caching.CallKind.TheVariants as callback
use Rattle.sprite_paths.specs.Path.{is_printed, is_path_text, limited, walked, start_of, text_of, IsPath}
use Rattle.sprite_paths.proofs.PathLaws.{clean_again}
use Rattle.link_plan.specs.declared.plan.Fate.{Fate}
use Rattle.link_plan.specs.declared.plan.Fate.TheVariants as fate
use Rattle.unix_calls.specs.declared.event.About.{About}
use Rattle.unix_calls.specs.declared.event.DropCause.{DropCause}
use Rattle.unix_calls.specs.declared.event.DropCause.TheVariants as cause
use Rattle.unix_calls.specs.declared.event.SendKind.{SendKind}
use Rattle.unix_calls.specs.declared.event.SendKind.TheVariants as kind
use Rattle.field_reader.specs.Reads.{found, made, in_word, ends_word}
use Rattle.history_text.specs.Formats.{Took, IsFormat, ◌then◌, same}
use Rattle.field_reader.specs.ReadLaws.{some_pair, made_found}
use Rattle.history_text.proofs.FormatLaws.{EndsWords, parted_is, then_is, made_of_is, chosen_by_is, within_is, find_holds, word_is, name_again, IsRow, row_is, bare_row_is, named_is}
use Rattle.history_text.proofs.NumberLaws.{number64_is, number32_is, number8_is, pid_is, pid_small, digits_in_word}
use Rattle.history_text.proofs.TextLaws.{text_is}
use Rattle.field_reader.specs.PathLaws.{path_back, path_forth}
use Rattle.trace_text.specs.Fields.{kernel, number16, block, transaction, numbered, file, stream, prefix_format, about, about_fits, about_printed, about_read, about_if_any, of_word, worded, truth_word, truths, truth, fate_word, fates, fate_format, cache_word, cache_modes, cache_format, mode_word, modes, mode_format, callback_word, callbacks, callback_format, cause_word, causes, cause_format, kind_shape, kind_rows, kind_format}

-- ---- numbers

pub kernel_is : IsFormat kernel
kernel_is = within_is number8_is
    (λ k is. and_from (nat_le 1 k) (nat_le k 16) (le-leb 1 k is.0) (le-leb k 16 is.1))
    (λ k fits e. let both = and_parts (nat_le 1 k) (nat_le k 16) e in (leb-true 1 k both.0, leb-true k 16 both.1))
    (λ k is. omega (arith, is.1))

number16_is : IsFormat number16
number16_is = within_is number64_is (λ n lt. lt-ltb n (2 ^ 16) lt) (λ n fits e. ltb-true n (2 ^ 16) e) (λ n lt. omega (arith, lt))

pub block_is : IsFormat block
block_is = made_of_is number16_is (λ n. record { 0 = n }) (λ b. b.0) (λ b. refl) (λ n. refl)

pub transaction_is : IsFormat transaction
transaction_is = made_of_is number32_is (λ n. record { 0 = n }) (λ tx. tx.0) (λ tx. refl) (λ n. refl)

-- ---- names

colon_ends : EndsWords (codes ":")
colon_ends rest = refl

numbered_is : IsFormat numbered
numbered_is = parted_is (codes ":") colon_ends kernel_is number32_is

pub file_is : IsFormat file
file_is = made_of_is numbered_is (λ p. record { server = p.0; number = p.1 }) (λ f. (f.server, f.number)) (λ f. refl) (λ p. refl)

pub stream_is : IsFormat stream
stream_is = made_of_is numbered_is (λ p. record { kernel = p.0; number = p.1 }) (λ s. (s.kernel, s.number)) (λ s. refl) (λ p. refl)

-- ---- prefixes

test_passed : {A : Type 0} (b : Bool) (o : Option A) (x : A) → cond b o None ≡ Some x → b ≡ true
test_passed true o x e = refl
test_passed false o x e = absurd cc

printed_small : (bytes : List ℕ) → list_all is_printed bytes ≡ true → AllByRecursion (λ b. b < 256) bytes
printed_small [] all = tt
printed_small (b ∷ bytes) all =
    let both = and_parts (is_printed b) (list_all is_printed bytes) all in
    let most = leb-true b 126 (and_parts (nat_le 33 b) (nat_le b 126) both.0).1 in
    (omega (arith, most), printed_small bytes both.1)

-- the bytes of a path's text are bytes
pub text_small : (path : List (List ℕ)) → IsPath path → AllByRecursion (λ b. b < 256) (text_of path)
text_small path is =
    let bytes = text_of path in
    let test = test_passed (is_path_text bytes) (limited (walked (start_of [] bytes) bytes)) path (clean_again [] path is) in
    printed_small bytes (and_parts (nat_le 1 (length bytes) && nat_le (length bytes) 255) (list_all is_printed bytes) test).1

pub prefix_is : IsFormat prefix_format
prefix_is = chosen_by_is text_is (record {
  back = path_back;
  forth = λ bytes path small e. path_forth bytes path e;
  fits = text_small;
})

-- ---- for whose sake a packet goes

slash_ends : EndsWords (codes "/")
slash_ends rest = refl

about_is : IsFormat about
about_is = made_of_is (parted_is (codes "/") slash_ends pid_is number32_is) (λ p. record { pid = p.0; number = p.1 }) (λ a. (a.pid, a.number)) (λ a. refl) (λ p. refl)

-- a byte of words is no dash
no_dash : (b : ℕ) → in_word b ≡ true → (b == 45) ≡ false
no_dash b goes =
    elim (cases_Bool (b == 45)) [
      | inl is ↦ let e : in_word 45 ≡ true = subst (λ c. in_word c ≡ true) (eqb-true b 45 is) goes in absurd cc
      | inr other ↦ other
    ]

begins_so : (w more rest : List ℕ) → list_all in_word w ≡ true → 0 < length w → about_read ((w ++ more) ++ rest) ≡ made Some (about.read ((w ++ more) ++ rest))
begins_so [] more rest all some = absurd (omega (arith, some))
begins_so (b ∷ w) more rest all some =
    cond-false (b == 45) (found {A = Option About} None ((w ++ more) ++ rest)) (made Some (about.read (b ∷ ((w ++ more) ++ rest)))) (no_dash b (and_parts (in_word b) (list_all in_word w) all).0)

about_again : (a : Option About) (rest : List ℕ) → about_fits a → ends_word rest ≡ true → about_read (about_printed a ++ rest) ≡ found a rest
about_again None rest fits ends = refl
about_again (Some a) rest fits ends =
    let is = decimal_is_IsNumeral a.pid (pid_small a.pid fits.0) in
    begins_so (decimal a.pid) (codes "/" ++ decimal a.number) rest (digits_in_word (decimal a.pid) is.0.1) is.0.0
    ∙ ap (made Some) (about_is.again a rest fits ends)

some_takes : (bytes : List ℕ) (a : Option About) (rest : List ℕ) → made Some (about.read bytes) ≡ found a rest → Took about_if_any bytes a rest
some_takes bytes a rest e =
    let m = made_found Some (about.read bytes) a rest e in
    let took = about_is.takes bytes m.0 rest m.1 in
    subst (λ o. Took about_if_any bytes o rest) m.2 (record { parts = took.parts; fits = took.fits })

about_takes : (bytes : List ℕ) (a : Option About) (rest : List ℕ) → about_read bytes ≡ found a rest → Took about_if_any bytes a rest
about_takes [] a rest e = some_takes [] a rest e
about_takes (b ∷ bs) a rest e =
    elim (cases_Bool (b == 45)) [
      | inl dash ↦
          let same = some_pair None a bs rest (sym (cond-true (b == 45) (found {A = Option About} None bs) (made Some (about.read (b ∷ bs))) dash) ∙ e) in
          subst (λ o. Took about_if_any (b ∷ bs) o rest) same.0 (record { parts = ap₂ (λ c r. c ∷ r) (eqb-true b 45 dash) same.1; fits = tt })
      | inr other ↦ some_takes (b ∷ bs) a rest (sym (cond-false (b == 45) (found {A = Option About} None bs) (made Some (about.read (b ∷ bs))) other) ∙ e)
    ]

pub about_if_any_is : IsFormat about_if_any
about_if_any_is = record { again = about_again; takes = about_takes }

-- ---- one word for each of a few values

worded_is : {A : Type 0} (word_for : A → List ℕ) (all : List A) → ((x : A) → of_word word_for all (word_for x) ≡ Some x) → ((x : A) → list_all in_word (word_for x) ≡ true) → IsFormat (worded word_for all)
worded_is word_for all back in_words = chosen_by_is word_is (record {
  back = λ x given. back x;
  forth = λ w x small e. (same_text w (word_for x) (sym (find_holds (λ y. same w (word_for y)) all x e)), tt);
  fits = λ x given. in_words x;
})

truth_back : (b : Bool) → of_word truth_word truths (truth_word b) ≡ Some b
truth_back true = refl
truth_back false = refl

pub truth_in_word : (b : Bool) → list_all in_word (truth_word b) ≡ true
truth_in_word true = refl
truth_in_word false = refl

pub truth_is : IsFormat truth
truth_is = worded_is truth_word truths truth_back truth_in_word

fate_back : (f : Fate) → of_word fate_word fates (fate_word f) ≡ Some f
fate_back fate.Once = refl
fate_back fate.Lost = refl
fate_back fate.Twice = refl
fate_back fate.Late = refl

pub fate_in_word : (f : Fate) → list_all in_word (fate_word f) ≡ true
fate_in_word fate.Once = refl
fate_in_word fate.Lost = refl
fate_in_word fate.Twice = refl
fate_in_word fate.Late = refl

pub fate_is : IsFormat fate_format
fate_is = within_is (worded_is fate_word fates fate_back fate_in_word) (λ f is. is) (λ f fits e. e) (λ f is. tt)

cache_back : (m : CacheMode) → of_word cache_word cache_modes (cache_word m) ≡ Some m
cache_back cache.On = refl
cache_back cache.Off = refl
cache_back cache.None = refl

pub cache_in_word : (m : CacheMode) → list_all in_word (cache_word m) ≡ true
cache_in_word cache.On = refl
cache_in_word cache.Off = refl
cache_in_word cache.None = refl

pub cache_is : IsFormat cache_format
cache_is = worded_is cache_word cache_modes cache_back cache_in_word

mode_back : (m : Mode) → of_word mode_word modes (mode_word m) ≡ Some m
mode_back mode.Read = refl
mode_back mode.Write = refl
mode_back mode.Both = refl

pub mode_in_word : (m : Mode) → list_all in_word (mode_word m) ≡ true
mode_in_word mode.Read = refl
mode_in_word mode.Write = refl
mode_in_word mode.Both = refl

pub mode_is : IsFormat mode_format
mode_is = worded_is mode_word modes mode_back mode_in_word

callback_back : (k : CallKind) → of_word callback_word callbacks (callback_word k) ≡ Some k
callback_back callback.Recall = refl
callback_back callback.Stop = refl

pub callback_in_word : (k : CallKind) → list_all in_word (callback_word k) ≡ true
callback_in_word callback.Recall = refl
callback_in_word callback.Stop = refl

pub callback_is : IsFormat callback_format
callback_is = worded_is callback_word callbacks callback_back callback_in_word

cause_back : (c : DropCause) → of_word cause_word causes (cause_word c) ≡ Some c
cause_back cause.Full = refl
cause_back cause.Stop = refl
cause_back cause.Version = refl

pub cause_in_word : (c : DropCause) → list_all in_word (cause_word c) ≡ true
cause_in_word cause.Full = refl
cause_in_word cause.Stop = refl
cause_in_word cause.Version = refl

pub cause_is : IsFormat cause_format
cause_is = worded_is cause_word causes cause_back cause_in_word

-- ---- what a request is for

pub file_block_is : IsFormat (file then block)
file_block_is = then_is file_is block_is

kind_again : (value : SendKind) (rest : List ℕ) → (kind_shape value).Fits → ends_word rest ≡ true → kind_format.read ((kind_shape value).printed ++ rest) ≡ found value rest
kind_again (kind.Op f) rest fits ends = ap (made {B = SendKind} kind.Op) (file_is.again f rest fits ends)
kind_again (kind.Fetch f b) rest fits ends = ap (made {B = SendKind} (λ p. kind.Fetch p.0 p.1)) (file_block_is.again (f, b) rest fits ends)
kind_again (kind.WriteBack f b) rest fits ends = ap (made {B = SendKind} (λ p. kind.WriteBack p.0 p.1)) (file_block_is.again (f, b) rest fits ends)
kind_again (kind.Broadcast path) rest fits ends = ap (made {B = SendKind} kind.Broadcast) (prefix_is.again path rest fits ends)
kind_again kind.Other rest fits ends = name_again kind_rows (codes "other") rest refl ends

kind_rows_are : AllByRecursion (IsRow kind_shape) kind_rows
kind_rows_are = (
  row_is kind_shape (codes "op") file_is kind.Op (λ x. refl) (λ x h. h),
  (
    row_is kind_shape (codes "fetch") file_block_is (λ p. kind.Fetch p.0 p.1) (λ x. refl) (λ x h. h),
    (
      row_is kind_shape (codes "writeback") file_block_is (λ p. kind.WriteBack p.0 p.1) (λ x. refl) (λ x h. h),
      (
        row_is kind_shape (codes "broadcast") prefix_is kind.Broadcast (λ x. refl) (λ x h. h),
        (bare_row_is kind_shape (codes "other") kind.Other refl tt, tt),
      ),
    ),
  ),
)

pub kind_is : IsFormat kind_format
kind_is = named_is kind_shape kind_rows kind_again kind_rows_are
