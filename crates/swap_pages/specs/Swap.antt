-- The pages that are kept.
use Rattle.std.specs.Prelude.{ℕ, ◌==◌, Bool, ◌&&◌, not, List, Option}
use Rattle.std.specs.List.{filter}
use Rattle.std.specs.Map.{lookup}
use Rattle.indexmap.specs.IndexMap.{insert_entry}
use Rattle.swap_pages.specs.declared.swap.PageKey.{PageKey}

-- pages and their bytes
abbrev pub Pages : Type 0
Pages = List (PageKey × List ℕ)

-- whether the two are one page
abbrev pub is_page : PageKey → PageKey → Bool
is_page key other = (key.pid == other.pid) && (key.page == other.page)

-- the bytes of a page, where it is kept
abbrev pub bytes_of : Pages → ℕ → ℕ → Option (List ℕ)
bytes_of pages pid page = lookup (is_page (record { pid = pid; page = page })) pages

-- the pages after one was put
abbrev pub put : Pages → ℕ → ℕ → List ℕ → Pages
put pages pid page bytes = insert_entry is_page pages (record { pid = pid; page = page }) bytes

-- the pages but one
abbrev pub without : Pages → ℕ → ℕ → Pages
without pages pid page = filter (λ kept. not (is_page (record { pid = pid; page = page }) kept.0)) pages
