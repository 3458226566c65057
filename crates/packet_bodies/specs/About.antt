-- Which call of a process a request belongs to.
use Rattle.std.specs.Prelude.{ℕ, Option, Some, None}
use Rattle.packet_bodies.specs.declared.request.Request.{Request}
use Rattle.packet_bodies.specs.declared.request.Request.TheVariants as requests

-- the process and the number of the call that a request carries
abbrev pub about_of : Request → Option (ℕ × ℕ)
about_of (requests.Opening x) = Some (x.pid, x.number)
about_of (requests.Name x) = Some (x.pid, x.number)
about_of (requests.Make x) = Some (x.pid, x.number)
about_of (requests.Op x) = Some (x.pid, x.number)
about_of (requests.Transfer x) = Some (x.pid, x.number)
about_of (requests.Home x) = Some (x.pid, x.number)
about_of (requests.Ask x) = Some (x.pid, x.number)
about_of (requests.Launch x) = Some (x.pid, x.number)
about_of _ = None
