-- Which calls of a source or a sink in memory fail.
use Rattle.std.specs.Prelude.{Bool, ◌-◌, ◌^◌, ◌==◌, ◌&&◌, nat_lt}
use Rattle.std.specs.List.{list_any}
use Rattle.sprite_bytes.specs.Counts.{raised}
use Rattle.sprite_bytes.specs.declared.calls.Calls.{Calls}

-- whether the next call is listed and its fault can still be counted
abbrev pub next_fails : Calls → Bool
next_fails calls = list_any (λ number. number == raised calls.made) calls.failing && nat_lt calls.faults (2 ^ 64 - 1)

-- the calls after one more that didn't fail
abbrev pub with_pass : Calls → Calls
with_pass calls = record calls { made = raised calls.made }

-- the calls after one more that failed
abbrev pub with_fault : Calls → Calls
with_fault calls = record calls { made = raised calls.made; faults = raised calls.faults }
