-- The open streams: what is found after one was put or taken out.
use Rattle.std.proofs.Common.{rules, tests, ◌≡◌, ℕ, ◌==◌, true, refl, sym, ap}
use Rattle.std.proofs.lemmas.Bool.{and_parts, eqb-true}
use Rattle.std.proofs.lemmas.Bool.Decides.{eqb_tells}
use Rattle.sprite_ids.specs.declared.StreamNo.{StreamNo}
use Rattle.stream_table.specs.Owners.{is_number}
use Rattle.stream_table.specs.Entries.{is_of, same_entry}
use Rattle.sprite_ids.proofs.OnceLaws.{IsSameness}

eq_turned : (a b : ℕ) → (a == b) ≡ (b == a)
eq_turned a b = search (rules, tests, eqb_tells a b, eqb_tells b a)

-- two numbers of streams that pass the test are one
pub one_number : (m n : StreamNo) → is_number m n ≡ true → m ≡ n
one_number m n e =
    let parts = and_parts (n.kernel == m.kernel) (n.number == m.number) e in
    let kernel = eqb-true n.kernel m.kernel parts.0 in
    let number = eqb-true n.number m.number parts.1 in
    λ i. record { kernel = sym kernel i; number = sym number i }

pub number_turned : (m n : StreamNo) → is_number m n ≡ is_number n m
number_turned m n = rw (eq_turned m.kernel n.kernel, eq_turned m.number n.number) refl

eq_itself : (a : ℕ) → (a == a) ≡ true
eq_itself a = search (rules, tests, eqb_tells a a)

pub number_itself : (n : StreamNo) → is_number n n ≡ true
number_itself n = rw (eq_itself n.kernel, eq_itself n.number) refl

pub entries_same : IsSameness same_entry
entries_same = record { joined = λ x y e z. ap (λ (n : StreamNo). is_of n z) (one_number x.number y.number e); turned = λ x y. number_turned x.number y.number }
