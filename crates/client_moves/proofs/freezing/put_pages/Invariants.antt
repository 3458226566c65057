use Rattle.std.proofs.Common.{◌≡◌, drop}
use Rattle.client_moves.specs.Freezing.{puts_pages}
use Rattle.client_moves.proofs.freezing.put_pages.Given as goal

abbrev pub invariant-loop-page : goal.invariant-loop-page
invariant-loop-page l = puts_pages l.pid (drop l.page-index l.pages) l.client ≡ puts_pages l.pid l.pages l.fn.client
