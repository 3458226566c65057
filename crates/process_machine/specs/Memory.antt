-- The bytes of an image's pages, by address.
use Rattle.process_machine.specs.declared.memory.Access.{Access}
use Rattle.process_machine.specs.declared.memory.Access.TheVariants.{Present, Outside, Away}
use Rattle.std.specs.Prelude.{ℕ, zero, suc, ◌+◌, ◌*◌, ◌/◌, ◌%◌, List, [], ◌∷◌, length, Option, Some, None, Bool, nat_lt, slice_get, slice_index, slice_set, option_map, if◌then◌else◌}

-- what a look-up among the pages finds there
abbrev pub there : Option (Option (List ℕ)) → Option (List ℕ)
there None = None
there (Some page) = page

-- a page of an image, where it is one of the image's and is there
abbrev pub page_of : List (Option (List ℕ)) → ℕ → Option (List ℕ)
page_of pages k = there (slice_get pages k)

-- whether the bytes from an address on, that many, leave the pages
abbrev pub leaves : List (Option (List ℕ)) → ℕ → ℕ → Bool
leaves pages address count = nat_lt (4096 * length pages) (address + count)

-- a byte of a page
abbrev pub byte_in : Option (List ℕ) → ℕ → ℕ
byte_in None offset = 0
byte_in (Some page) offset = slice_index page offset

-- the byte at an address, 0 where its page isn't there
abbrev pub byte_at : List (Option (List ℕ)) → ℕ → ℕ
byte_at pages address = byte_in (page_of pages (address / 4096)) (address % 4096)

-- the bytes from an address on, that many
abbrev pub bytes_at : List (Option (List ℕ)) → ℕ → ℕ → List ℕ
bytes_at pages address zero = []
bytes_at pages address (suc count) = byte_at pages address ∷ bytes_at pages (address + 1) count

-- the pages with a byte put into the page that a look-up found
abbrev pub put_in : Option (Option (List ℕ)) → List (Option (List ℕ)) → ℕ → ℕ → ℕ → List (Option (List ℕ))
put_in None pages k offset byte = pages
put_in (Some page) pages k offset byte = slice_set pages k (option_map (λ bytes. slice_set bytes offset byte) page)

-- the pages with a byte put at an address, as they were where its page isn't there
abbrev pub with_byte : List (Option (List ℕ)) → ℕ → ℕ → List (Option (List ℕ))
with_byte pages address byte = put_in (slice_get pages (address / 4096)) pages (address / 4096) (address % 4096) byte

-- the pages with bytes put from an address on
abbrev pub with_bytes : List (Option (List ℕ)) → ℕ → List ℕ → List (Option (List ℕ))
with_bytes pages address [] = pages
with_bytes pages address (byte ∷ bytes) = with_bytes (with_byte pages address byte) (address + 1) bytes

-- a page with bytes put from an offset on
abbrev pub bytes_in : List ℕ → ℕ → List ℕ → List ℕ
bytes_in page offset [] = page
bytes_in page offset (byte ∷ bytes) = bytes_in (slice_set page offset byte) (offset + 1) bytes

-- what an access to a page finds, and goes on where the page is there
abbrev pub in_page : ℕ → Option (List ℕ) → Access → Access
in_page k None next = Away k
in_page k (Some page) next = next

-- whether the byte at an address is there
abbrev pub byte_access : List (Option (List ℕ)) → ℕ → Access
byte_access pages address =
    if leaves pages address 1 then Outside else in_page (address / 4096) (page_of pages (address / 4096)) Present

-- whether the eight bytes from an address on are there; they lie in one page or in two
abbrev pub word_access : List (Option (List ℕ)) → ℕ → Access
word_access pages address =
    if leaves pages address 8 then Outside
    else in_page (address / 4096) (page_of pages (address / 4096)) (in_page ((address + 7) / 4096) (page_of pages ((address + 7) / 4096)) Present)
