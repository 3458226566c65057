-- Calls of processes, by their numbers.
use Rattle.std.proofs.Common.{◌≡◌, ◌==◌, Bool, true, ◌&&◌, List, ap₂, eqb-true}
use Rattle.std.specs.List.{list_any}
use Rattle.std.proofs.lemmas.Bool.{and_parts}
use Rattle.unix_calls.specs.declared.event.About.{About}
use Rattle.trace_tables.specs.declared.call_at.CallAt.{CallAt}

abbrev pub same_call : CallAt → CallAt → Bool
same_call a b = a.pid == b.pid && a.number == b.number

pub call_is : (a b : CallAt) → same_call a b ≡ true → a ≡ b
call_is a b h =
    let parts = and_parts (a.pid == b.pid) (a.number == b.number) h in
    ap₂ (λ p n. record { pid = p; number = n }) (eqb-true a.pid b.pid parts.0) (eqb-true a.number b.number parts.1)

-- whether a call is among some
abbrev pub has_call : List CallAt → CallAt → Bool
has_call calls at = list_any (same_call at) calls

-- the call for whose sake a packet goes
abbrev pub call_of : About → CallAt
call_of about = record { pid = about.pid; number = about.number }

abbrev pub about_of : CallAt → About
about_of at = record { pid = at.pid; number = at.number }
