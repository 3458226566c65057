-- What a process's descriptors are where they can stand in a stream table.
use Rattle.std.proofs.Common.{◌≡◌, ◌<◌, ◌≤◌, nat_lt, nat_le, Bool, true, false, not, ◌&&◌, List, [], ◌∷◌, refl, leb-true, ltb-true}
use Rattle.std.specs.List.{AllByRecursion, list_all, list_any}
use Rattle.sprite_ids.specs.Lists.{EachOnce}
use Rattle.stream_table.specs.declared.Carried.{Carried}
use Rattle.stream_table.specs.Entries.{is_placed}
use Rattle.stream_table.specs.Streams.{same_fd}
use Rattle.migrate_freeze.specs.Staying.{can_stand, can_stay, differ}
use Rattle.migrate_freeze.proofs.LandingLaws.{both}

not_true : (b : Bool) → not b ≡ true → b ≡ false
not_true true e = absurd (cc)
not_true false e = refl

once : (streams : List Carried) → differ streams ≡ true → EachOnce same_fd streams
once [] h = tt
once (item ∷ rest) h =
    let parts = both (not (list_any (same_fd item) rest)) (differ rest) h in
    (not_true (list_any (same_fd item) rest) parts.0, once rest parts.1)

each_of : (P : Carried → Type 0) (streams : List Carried) → ((item : Carried) → can_stand item ≡ true → P item) → list_all can_stand streams ≡ true → AllByRecursion P streams
each_of P [] f h = tt
each_of P (item ∷ rest) f h =
    let parts = both (can_stand item) (list_all can_stand rest) h in
    (f item parts.0, each_of P rest f parts.1)

pub stays_once : (streams : List Carried) → can_stay streams ≡ true → EachOnce same_fd streams
stays_once streams h = once streams (both (differ streams) (list_all can_stand streams) h).0

pub stays_few : (streams : List Carried) → can_stay streams ≡ true → AllByRecursion (λ (item : Carried). item.fd < 16) streams
stays_few streams h =
    each_of (λ (item : Carried). item.fd < 16) streams (λ (item : Carried) k. ltb-true item.fd 16 (both (nat_lt item.fd 16) (is_placed item.stream) (both (nat_lt item.fd 16 && is_placed item.stream) (nat_le item.stream.grants 2000000000) k).0).0) (both (differ streams) (list_all can_stand streams) h).1

pub stays_placed : (streams : List Carried) → can_stay streams ≡ true → AllByRecursion (λ (item : Carried). is_placed item.stream ≡ true) streams
stays_placed streams h =
    each_of (λ (item : Carried). is_placed item.stream ≡ true) streams (λ (item : Carried) k. (both (nat_lt item.fd 16) (is_placed item.stream) (both (nat_lt item.fd 16 && is_placed item.stream) (nat_le item.stream.grants 2000000000) k).0).1) (both (differ streams) (list_all can_stand streams) h).1

pub stays_low : (streams : List Carried) → can_stay streams ≡ true → AllByRecursion (λ (item : Carried). item.stream.grants ≤ 2000000000) streams
stays_low streams h =
    each_of (λ (item : Carried). item.stream.grants ≤ 2000000000) streams (λ (item : Carried) k. leb-true item.stream.grants 2000000000 (both (nat_lt item.fd 16 && is_placed item.stream) (nat_le item.stream.grants 2000000000) k).1) (both (differ streams) (list_all can_stand streams) h).1
