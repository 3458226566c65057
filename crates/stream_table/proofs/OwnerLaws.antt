-- The processes with their descriptors: what is found, and which streams are referred to.
use Rattle.std.proofs.Common.{rules, tests, ◌≡◌, ℕ, ◌==◌, true, false, cond, List, sym, ap}
use Rattle.std.proofs.lemmas.Bool.{eqb-true}
use Rattle.std.proofs.lemmas.Bool.Decides.{eqb_tells}
use Rattle.stream_table.specs.Owners.{Owner}
use Rattle.sprite_ids.specs.Lists.{put, without}
use Rattle.stream_table.specs.Owners.{is_owner, same_owner, is_used, kept}
use Rattle.sprite_ids.proofs.OnceLaws.{IsSameness}

pub eq_turned : (a b : ℕ) → (a == b) ≡ (b == a)
eq_turned a b = search (rules, tests, eqb_tells a b, eqb_tells b a)

owners_joined : (x y : Owner) → same_owner x y ≡ true → (z : Owner) → same_owner x z ≡ same_owner y z
owners_joined x y e z = ap (λ (pid : ℕ). is_owner pid z) (sym (eqb-true y.pid x.pid e))

pub owners_same : IsSameness same_owner
owners_same = record { joined = owners_joined; turned = λ x y. eq_turned y.pid x.pid }

-- what stays of a process without descriptors
pub kept_none : (owners : List Owner) (owner : Owner) → is_used owner.numbers ≡ false → kept owners owner ≡ without (is_owner owner.pid) owners
kept_none owners owner e = ap (λ b. cond b (put (is_owner owner.pid) owner owners) (without (is_owner owner.pid) owners)) e

-- and of one with descriptors
pub kept_some : (owners : List Owner) (owner : Owner) → is_used owner.numbers ≡ true → kept owners owner ≡ put (is_owner owner.pid) owner owners
kept_some owners owner e = ap (λ b. cond b (put (is_owner owner.pid) owner owners) (without (is_owner owner.pid) owners)) e
