use Rattle.std.proofs.Common.{◌≡◌, length}
use Rattle.client_moves.specs.Freezing.{pages_upto, taken_upto}
use Rattle.client_moves.proofs.freezing.take_pages.Given as goal

abbrev pub invariant-loop-page : goal.invariant-loop-page
invariant-loop-page l = (l.image ≡ taken_upto l.page l.fn.image) × (l.pages ≡ pages_upto l.page l.fn.image) × (length l.image.pages ≡ length l.fn.image.pages)
