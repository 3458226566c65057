use Rattle.std.proofs.Common.{◌≡◌, None, sym, ap, ◌∙◌}
use Rattle.std.specs.Map.{lookup, remove_entry}
use Rattle.swap_pages.specs.Swap.{Pages, is_page, without}
use Rattle.swap_pages.proofs.TakeLaws.{removed_all}
use Rattle.swap_pages.proofs.swap.Swap.take.Goals as goal

pub returns-in_err-bytes-clause-pages : goal.returns-in_err-bytes-clause-pages
returns-in_err-bytes-clause-pages c =
    let pages = c.self.inside.pages.entries in
    let test = is_page (record { pid = c.args.pid; page = c.args.page }) in
    let none : lookup test (remove_entry test pages) ≡ None = ap (lookup test) (sym c.shift_remove.ensures.entries) ∙ c.shift_remove.ensures.updates.1 in
    c.shift_remove.ensures.entries ∙ removed_all test pages none ∙ ap (λ (all : Pages). without all c.args.pid c.args.page) c.self.view_is

pub returns-clause-pages : goal.returns-clause-pages
returns-clause-pages c =
    let pages = c.self.inside.pages.entries in
    let test = is_page (record { pid = c.args.pid; page = c.args.page }) in
    let none : lookup test (remove_entry test pages) ≡ None = ap (lookup test) (sym c.shift_remove.ensures.entries) ∙ c.shift_remove.ensures.updates.1 in
    c.shift_remove.ensures.entries ∙ removed_all test pages none ∙ ap (λ (all : Pages). without all c.args.pid c.args.page) c.self.view_is
