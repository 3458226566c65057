-- Paths, images, grants, streams and calls are read as they were spelled.
use Rattle.std.proofs.Common.{◌≡◌, ℕ, true, nat_le, ◌&&◌, List, [], ◌∷◌, ◌++◌, length, Option, Some, None, refl, ap, arith}
use Rattle.std.specs.List.{AllByRecursion, list_all}
use Rattle.std.proofs.lemmas.Bool.{and_parts, and_from, le-leb, leb-true, eqb-true, eq-eqb}
use Rattle.std.proofs.lemmas.List.Elements.{All-from_recursion, recursion_from_All}
use Rattle.sprite_ids.proofs.ListLaws.{each_weaken}
use Rattle.process_machine.specs.Machine.{IsPage, ArePages}
use Rattle.packet_bodies.specs.declared.Target.{Target}
use Rattle.packet_bodies.specs.declared.HomeCall.{HomeCall}
use Rattle.packet_bodies.specs.declared.Target.TheVariants.{File, Device}
use Rattle.packet_bodies.specs.declared.HomeCall.TheVariants.{Print, Exit, Getppid, Host, Tick, Fork, Wait, Kill}
use Rattle.field_reader.specs.Reads.{found, made}
use Rattle.field_reader.specs.PathLaws.{path_back, path_forth}
use Rattle.wire_format.specs.Codec.{IsCodec, text, optional, row}
use Rattle.wire_format.specs.CodecLaws.{before_is, made_of_is, chosen_by_is, within_is, nothing_is, IsRow, row_is, tagged_is, optional_is}
use Rattle.wire_format.specs.NumberLaws.{byte_is, number16_is, number32_is, number64_is}
use Rattle.wire_format.specs.ListLaws.{listed_is, repeated_is, text_is}
use Rattle.wire_format.specs.Names.{file, device}
use Rattle.wire_format.specs.NameLaws.{pid_is, file_is, device_is, stream_is, truth_is}
use Rattle.wire_format.specs.ChoiceLaws.{carried_mode_is, caching_is}
use Rattle.wire_format.specs.Objects.{block, transaction, path, is_page, are_pages, machine_parts, image, grant, flushed, target_shape, target, carried_stream, home_call_shape, home_call_rows, home_call}

-- ---- names

pub block_is : IsCodec block
block_is = made_of_is number16_is (λ n. record { 0 = n }) (λ b. b.0) (λ b. refl) (λ n. refl)

pub transaction_is : IsCodec transaction
transaction_is = made_of_is number32_is (λ n. record { 0 = n }) (λ tx. tx.0) (λ tx. refl) (λ n. refl)

-- ---- paths

pub path_is : IsCodec path
path_is = chosen_by_is text_is (record {
  back = path_back;
  forth = λ bytes path small e. path_forth bytes path e;
  fits = λ path is. omega (arith, is.short_text);
})

-- ---- images

page_test : (page : Option (List ℕ)) → IsPage page → is_page page ≡ true
page_test None is = refl
page_test (Some bytes) is = eq-eqb (length bytes) 4096 is

page_told : (page : Option (List ℕ)) → is_page page ≡ true → IsPage page
page_told None e = tt
page_told (Some bytes) e = eqb-true (length bytes) 4096 e

each_test : (pages : List (Option (List ℕ))) → AllByRecursion IsPage pages → list_all is_page pages ≡ true
each_test [] each = refl
each_test (page ∷ pages) each = and_from (is_page page) (list_all is_page pages) (page_test page each.0) (each_test pages each.1)

each_told : (pages : List (Option (List ℕ))) → list_all is_page pages ≡ true → AllByRecursion IsPage pages
each_told [] e = tt
each_told (page ∷ pages) e = let both = and_parts (is_page page) (list_all is_page pages) e in (page_told page both.0, each_told pages both.1)

pub pages_test : (pages : List (Option (List ℕ))) → ArePages pages → are_pages pages ≡ true
pages_test pages are =
    and_from (nat_le 1 (length pages) && nat_le (length pages) 8) (list_all is_page pages)
    (and_from (nat_le 1 (length pages)) (nat_le (length pages) 8) (le-leb 1 (length pages) are.some) (le-leb (length pages) 8 are.few))
    (each_test pages (recursion_from_All IsPage pages are.each))

pub pages_told : (pages : List (Option (List ℕ))) → are_pages pages ≡ true → ArePages pages
pages_told pages e =
    let both = and_parts (nat_le 1 (length pages) && nat_le (length pages) 8) (list_all is_page pages) e in
    let bounds = and_parts (nat_le 1 (length pages)) (nat_le (length pages) 8) both.0 in
    record { some = leb-true 1 (length pages) bounds.0; few = leb-true (length pages) 8 bounds.1; each = All-from_recursion IsPage pages (each_told pages both.1) }

pub page_fits : (page : Option (List ℕ)) → IsPage page → (optional text).Fits page
page_fits None is = tt
page_fits (Some bytes) is = omega (arith, is)

pub pages_fit : (pages : List (Option (List ℕ))) → ArePages pages → AllByRecursion (optional text).Fits pages
pages_fit pages are = each_weaken IsPage (optional text).Fits pages page_fits (recursion_from_All IsPage pages are.each)

machine_parts_is : IsCodec machine_parts
machine_parts_is = made_of_is (before_is byte_is (before_is number16_is (before_is (repeated_is 8 number64_is) (listed_is (optional_is text_is)))))
    (λ p. record { number = p.0; counter = p.1.0; registers = p.1.1.0; pages = p.1.1.1 })
    (λ m. (m.number, (m.counter, (m.registers, m.pages))))
    (λ m. refl) (λ p. refl)

pub image_is : IsCodec image
image_is = within_is machine_parts_is
    (λ m is. pages_test m.pages is.pages)
    (λ m fits e. record { number = fits.0; counter = fits.1.0; eight = fits.1.1.0.0; registers = fits.1.1.0.1; pages = pages_told m.pages e })
    (λ m is. (is.number, (is.counter, ((is.eight, is.registers), (omega (arith, is.pages.few), pages_fit m.pages is.pages)))))

-- ---- grants and blocks

pub grant_is : IsCodec grant
grant_is = made_of_is (before_is file_is (before_is number32_is (before_is number32_is (before_is number32_is (before_is number32_is (before_is caching_is truth_is))))))
    (λ p. record { file = p.0; stamp = p.1.0; old = p.1.1.0; new = p.1.1.1.0; size = p.1.1.1.1.0; on = p.1.1.1.1.1.0; holder = p.1.1.1.1.1.1 })
    (λ r. (r.file, (r.stamp, (r.old, (r.new, (r.size, (r.on, r.holder)))))))
    (λ r. refl) (λ p. refl)

pub flushed_is : IsCodec flushed
flushed_is = made_of_is (before_is number32_is (listed_is (before_is block_is text_is)))
    (λ p. record { size = p.0; blocks = p.1 })
    (λ r. (r.size, r.blocks))
    (λ r. refl) (λ p. refl)

-- ---- what streams lead to

target_again : (t : Target) (rest : List ℕ) → (target_shape t).Fits → target.read ((target_shape t).spelled ++ rest) ≡ found t rest
target_again (File f) rest fits = ap (made File) (file_is.again f rest fits)
target_again (Device d) rest fits = ap (made Device) (device_is.again d rest fits)

pub target_is : IsCodec target
target_is = tagged_is target_shape (row 1 file File ∷ row 2 device Device ∷ []) target_again
    (row_is target_shape 1 file_is File (λ x. refl) (λ x h. h), (row_is target_shape 2 device_is Device (λ x. refl) (λ x h. h), tt))

pub carried_stream_is : IsCodec carried_stream
carried_stream_is = made_of_is (before_is stream_is (before_is target_is (before_is carried_mode_is (before_is (optional_is number32_is) (before_is (optional_is grant_is) number32_is)))))
    (λ p. record { stream = p.0; object = p.1.0; mode = p.1.1.0; offset = p.1.1.1.0; grant = p.1.1.1.1.0; grants = p.1.1.1.1.1 })
    (λ r. (r.stream, (r.object, (r.mode, (r.offset, (r.grant, r.grants))))))
    (λ r. refl) (λ p. refl)

-- ---- calls that are done at a home

home_call_again : (value : HomeCall) (rest : List ℕ) → (home_call_shape value).Fits → home_call.read ((home_call_shape value).spelled ++ rest) ≡ found value rest
home_call_again (Print bytes) rest fits = ap (made {B = HomeCall} Print) (text_is.again bytes rest fits)
home_call_again (Exit code) rest fits = ap (made {B = HomeCall} Exit) (number64_is.again code rest fits)
home_call_again Getppid rest fits = refl
home_call_again (Host max) rest fits = ap (made {B = HomeCall} Host) (number64_is.again max rest fits)
home_call_again Tick rest fits = refl
home_call_again Fork rest fits = refl
home_call_again Wait rest fits = refl
home_call_again (Kill p) rest fits = ap (made {B = HomeCall} Kill) (pid_is.again p rest fits)

home_call_rows_are : AllByRecursion (IsRow home_call_shape) home_call_rows
home_call_rows_are = (
  row_is home_call_shape 1 text_is Print (λ x. refl) (λ x h. h),
  (
    row_is home_call_shape 2 number64_is Exit (λ x. refl) (λ x h. h),
    (
      row_is home_call_shape 4 nothing_is (λ x. Getppid) (λ x. refl) (λ x h. h),
      (
        row_is home_call_shape 5 number64_is Host (λ x. refl) (λ x h. h),
        (
          row_is home_call_shape 6 nothing_is (λ x. Tick) (λ x. refl) (λ x h. h),
          (
            row_is home_call_shape 7 nothing_is (λ x. Fork) (λ x. refl) (λ x h. h),
            (
              row_is home_call_shape 9 nothing_is (λ x. Wait) (λ x. refl) (λ x h. h),
              (
                row_is home_call_shape 10 pid_is Kill (λ x. refl) (λ x h. h),
                tt,
              ),
            ),
          ),
        ),
      ),
    ),
  ),
)

pub home_call_is : IsCodec home_call
home_call_is = tagged_is home_call_shape home_call_rows home_call_again home_call_rows_are
