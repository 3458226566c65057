-- How far the receivers of a call are, and what that says of its copies.
use Rattle.std.proofs.Common.{arith, ◌≡◌, ℕ, ◌==◌, Bool, true, false, ◌&&◌, ◌||◌, cond, List, [], ◌∷◌, map, Option, Some, option_map, refl, sym, ap, subst, ◌∙◌}
use Rattle.std.specs.List.{find, list_any}
use Rattle.std.proofs.lemmas.Bool.Decides.{nat_tests}
use Rattle.std.proofs.lemmas.Bool.{eqb-true}
use Rattle.link_plan.specs.declared.Fate.{Fate}
use Rattle.kernel_rpc.specs.declared.call.Part.{Part}
use Rattle.kernel_rpc.specs.declared.call.Part.TheVariants.{Waiting}
use Rattle.kernel_rpc.specs.declared.call.Receiver.{Receiver}
use Rattle.kernel_rpc.specs.Machine.{fresh, holds, is_at, is_holding, part_of, with_part}
use Rattle.sprite_ids.proofs.OnceLaws.{or_false}

part_option : Option Receiver → Option Part
part_option found = option_map (λ (receiver : Receiver). receiver.part) found

got_further : (kernel : ℕ) (part old : Part) (first : Receiver) (rest : List Receiver) → (part_of kernel rest ≡ Some old → part_of kernel (with_part kernel part rest) ≡ Some part) → (b : Bool) → (first.kernel == kernel) ≡ b → option_map (λ (receiver : Receiver). receiver.part) (cond b (Some first) (find (is_at kernel) rest)) ≡ Some old → option_map (λ (receiver : Receiver). receiver.part) (find (is_at kernel) (cond b (record first { part = part } ∷ rest) (first ∷ with_part kernel part rest))) ≡ Some part
got_further kernel part old first rest later true here h = ap (λ b. option_map (λ (receiver : Receiver). receiver.part) (cond b (Some (record first { part = part })) (find (is_at kernel) rest))) here
got_further kernel part old first rest later false here h = ap (λ b. option_map (λ (receiver : Receiver). receiver.part) (cond b (Some first) (find (is_at kernel) (with_part kernel part rest)))) here ∙ later h

-- a receiver that got further is there
pub part_further : (kernel : ℕ) (part old : Part) (receivers : List Receiver) → part_of kernel receivers ≡ Some old → part_of kernel (with_part kernel part receivers) ≡ Some part
part_further kernel part old [] h = absurd (cc)
part_further kernel part old (first ∷ rest) h = got_further kernel part old first rest (part_further kernel part old rest) (first.kernel == kernel) refl h

stayed : (kernel other : ℕ) (part : Part) (first : Receiver) (rest : List Receiver) → (kernel == other) ≡ false → (part_of other (with_part kernel part rest) ≡ part_of other rest) → (b : Bool) → (first.kernel == kernel) ≡ b → option_map (λ (receiver : Receiver). receiver.part) (find (is_at other) (cond b (record first { part = part } ∷ rest) (first ∷ with_part kernel part rest))) ≡ option_map (λ (receiver : Receiver). receiver.part) (find (is_at other) (first ∷ rest))
stayed kernel other part first rest apart later true here =
    let away : (first.kernel == other) ≡ false = subst (λ n. (n == other) ≡ false) (sym (eqb-true first.kernel kernel here)) apart in
    ap (λ b. option_map (λ (receiver : Receiver). receiver.part) (cond b (Some (record first { part = part })) (find (is_at other) rest))) away ∙ sym (ap (λ b. option_map (λ (receiver : Receiver). receiver.part) (cond b (Some first) (find (is_at other) rest))) away)
stayed kernel other part first rest apart later false here = elim (first.kernel == other) as (λ b. option_map (λ (receiver : Receiver). receiver.part) (cond b (Some first) (find (is_at other) (with_part kernel part rest))) ≡ option_map (λ (receiver : Receiver). receiver.part) (cond b (Some first) (find (is_at other) rest))) [ true ↦ refl | false ↦ later ]

-- the others stay where they are
pub part_stays : (kernel other : ℕ) (part : Part) (receivers : List Receiver) → (kernel == other) ≡ false → part_of other (with_part kernel part receivers) ≡ part_of other receivers
part_stays kernel other part [] apart = refl
part_stays kernel other part (first ∷ rest) apart = stayed kernel other part first rest apart (part_stays kernel other part rest apart) (first.kernel == kernel) refl

-- a receiver of a new call waits
pub part_fresh : (kernel : ℕ) (servers : List ℕ) → list_any (λ server. server == kernel) servers ≡ true → part_of kernel (map fresh servers) ≡ Some Waiting
part_fresh kernel [] h = absurd (cc)
part_fresh kernel (server ∷ servers) h = fresh_by kernel server servers (part_fresh kernel servers) (server == kernel) refl h where
  fresh_by : (kernel server : ℕ) (servers : List ℕ) → (list_any (λ server. server == kernel) servers ≡ true → part_of kernel (map fresh servers) ≡ Some Waiting) → (b : Bool) → (server == kernel) ≡ b → (b || list_any (λ server. server == kernel) servers) ≡ true → option_map (λ (receiver : Receiver). receiver.part) (find (is_at kernel) (map fresh (server ∷ servers))) ≡ Some Waiting
  fresh_by kernel server servers later true here h = ap (λ b. option_map (λ (receiver : Receiver). receiver.part) (cond b (Some (fresh server)) (find (is_at kernel) (map fresh servers)))) here
  fresh_by kernel server servers later false here h = ap (λ b. option_map (λ (receiver : Receiver). receiver.part) (cond b (Some (fresh server)) (find (is_at kernel) (map fresh servers)))) here ∙ later h

holds_by : (first : Receiver) (rest : Option Receiver) (b : Bool) → is_holding first.part ≡ false → holds (option_map (λ (receiver : Receiver). receiver.part) rest) ≡ false → holds (option_map (λ (receiver : Receiver). receiver.part) (cond b (Some first) rest)) ≡ false
holds_by first rest true here later = here
holds_by first rest false here later = later

-- where no receiver has the request, no kernel has it
pub none_holds : (kernel : ℕ) (receivers : List Receiver) → list_any (λ (receiver : Receiver). is_holding receiver.part) receivers ≡ false → holds (part_of kernel receivers) ≡ false
none_holds kernel [] h = refl
none_holds kernel (first ∷ rest) h =
    let parts = or_false (is_holding first.part) (list_any (λ (receiver : Receiver). is_holding receiver.part) rest) h in
    holds_by first (find (is_at kernel) rest) (first.kernel == kernel) parts.0 (none_holds kernel rest parts.1)

is_there_by : (kernel : ℕ) (part : Part) (first : Receiver) (rest : List Receiver) → (part_of kernel rest ≡ Some part → list_any (is_at kernel) rest ≡ true) → (b : Bool) → option_map (λ (receiver : Receiver). receiver.part) (cond b (Some first) (find (is_at kernel) rest)) ≡ Some part → (b || list_any (is_at kernel) rest) ≡ true
is_there_by kernel part first rest later true h = refl
is_there_by kernel part first rest later false h = later h

-- a kernel that is somewhere is a receiver
pub is_there : (kernel : ℕ) (part : Part) (receivers : List Receiver) → part_of kernel receivers ≡ Some part → list_any (is_at kernel) receivers ≡ true
is_there kernel part [] h = absurd (cc)
is_there kernel part (first ∷ rest) h = is_there_by kernel part first rest (is_there kernel part rest) (first.kernel == kernel) h

-- whether a kernel is in a list, by what the items give
pub any_map : {X : Type 0} (f : X → ℕ) (kernel : ℕ) (xs : List X) → list_any (λ n. n == kernel) (map f xs) ≡ list_any (λ x. f x == kernel) xs
any_map f kernel [] = refl
any_map f kernel (x ∷ xs) = ap (λ b. (f x == kernel) || b) (any_map f kernel xs)

-- and so a request was sent to a receiver
pub was_sent : (kernel : ℕ) (sent : List (ℕ × Fate)) (receivers : List Receiver) → map (λ (packet : ℕ × Fate). packet.0) sent ≡ map (λ (receiver : Receiver). receiver.kernel) receivers → list_any (is_at kernel) receivers ≡ true → list_any (λ (packet : ℕ × Fate). packet.0 == kernel) sent ≡ true
was_sent kernel sent receivers same h =
    sym (any_map (λ (packet : ℕ × Fate). packet.0) kernel sent) ∙ ap (list_any (λ n. n == kernel)) same ∙ any_map (λ (receiver : Receiver). receiver.kernel) kernel receivers ∙ h

-- and false
pub and_false : (b : Bool) → (b && false) ≡ false
and_false true = refl
and_false false = refl

pub false_first : (a b : Bool) → a ≡ false → (a && b) ≡ false
false_first a b h = ap (λ x. x && b) h

pub both_true : (a b : Bool) → a ≡ true → b ≡ true → (a && b) ≡ true
both_true a b h k = ap (λ x. x && b) h ∙ k

-- a test that fails for one order fails for the other
pub eq_turned : (a b : ℕ) → (a == b) ≡ false → (b == a) ≡ false
eq_turned a b h = grind (arith, nat_tests)

pub eq_same : (a : ℕ) → (a == a) ≡ true
eq_same a = grind (arith, nat_tests)
