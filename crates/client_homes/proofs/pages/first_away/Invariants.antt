use Rattle.std.proofs.Common.{◌≡◌}
use Rattle.client_homes.specs.Pages.{away_under}
use Rattle.client_homes.proofs.pages.first_away.Given as goal

abbrev pub invariant-loop-page : goal.invariant-loop-page
invariant-loop-page l = l.least ≡ away_under l.page l.image.pages
