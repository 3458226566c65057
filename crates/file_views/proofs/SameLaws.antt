-- Each part of a view is the same as itself.
use Rattle.std.proofs.Common.{◌≡◌, ℕ, Bool, true, false, ◌&&◌, Some, None, List, [], ◌∷◌, refl, subst, eq-eqb}
use Rattle.std.specs.Cmp.Lexicographic.{pointwise}
use Rattle.std.proofs.lemmas.Bool.{and_from}
use Rattle.sprite_ids.specs.declared.CacheMode.TheVariants as cache
use Rattle.file_views.specs.declared.step.FileStep.TheVariants as act
use Rattle.file_views.specs.Contents.{same_bytes}
use Rattle.file_views.specs.Streams.{same_stream, reads, writes}
use Rattle.file_views.specs.Entries.{agrees}
use Rattle.file_views.specs.Same.{same_count, same_option, same_mode, same_use, same_open, same_grant, same_carry, same_step, same_held, same_client, same_kept, same_given, same_but_calls}

-- a test that each thing passes with itself
abbrev pub Self : {X : Type 0} → (X → X → Bool) → Type 0
Self {X} same = (x : X) → same x x ≡ true

-- two facts together, of a thing and itself
both : {a b : Bool} → a ≡ true → b ≡ true → (a && b) ≡ true
both {a} {b} e f = and_from a b e f

items_self : {X : Type 0} (same : X → X → Bool) → Self same → Self (pointwise same)
items_self same f [] = refl
items_self same f (x ∷ xs) = both (f x) (items_self same f xs)

option_self : {X : Type 0} (same : X → X → Bool) → Self same → Self (same_option same)
option_self same f (Some x) = f x
option_self same f None = refl

count_self : Self same_count
count_self count = eq-eqb count count refl

pub bytes_self : Self same_bytes
bytes_self bytes = items_self same_count count_self bytes

pub bytes_same : (xs ys : List ℕ) → xs ≡ ys → same_bytes xs ys ≡ true
bytes_same xs ys e = subst (λ zs. same_bytes xs zs ≡ true) e (bytes_self xs)

agrees_self : Self agrees
agrees_self true = refl
agrees_self false = refl

mode_self : Self same_mode
mode_self cache.On = refl
mode_self cache.Off = refl
mode_self cache.None = refl

use_self : Self same_use
use_self mode = both (agrees_self (reads mode)) (agrees_self (writes mode))

stream_self : Self same_stream
stream_self stream = both (count_self stream.kernel) (count_self stream.number)

open_self : Self same_open
open_self one = both (stream_self one.stream) (both (count_self one.kernel) (both (use_self one.mode) (count_self one.count)))

grant_self : Self same_grant
grant_self grant = both (count_self grant.stamp) (both (count_self grant.old) (both (count_self grant.new) (both (count_self grant.size) (both (agrees_self grant.on) (agrees_self grant.holder)))))

carry_self : Self same_carry
carry_self one = both (count_self one.call) (both (count_self one.to) (both (stream_self one.stream) (option_self same_grant grant_self one.grant)))

step_self : Self same_step
step_self (act.Opening pid number kernel stream mode truncate) = both (count_self pid) (both (count_self number) (both (count_self kernel) (both (stream_self stream) (both (use_self mode) (agrees_self truncate)))))
step_self (act.Closing kernel stream) = both (count_self kernel) (stream_self stream)
step_self (act.Moving stream source target kept) = both (stream_self stream) (both (count_self source) (both (count_self target) (agrees_self kept)))
step_self (act.Reading pid number kernel stream from many) = both (count_self pid) (both (count_self number) (both (count_self kernel) (both (stream_self stream) (both (count_self from) (count_self many)))))
step_self (act.Writing pid number kernel stream from bytes) = both (count_self pid) (both (count_self number) (both (count_self kernel) (both (stream_self stream) (both (count_self from) (bytes_self bytes)))))
step_self (act.Append pid number kernel stream bytes) = both (count_self pid) (both (count_self number) (both (count_self kernel) (both (stream_self stream) (bytes_self bytes))))
step_self (act.WritingBack kernel block) = both (count_self kernel) (count_self block.0)
step_self (act.Delivering number) = count_self number
step_self (act.Expiring number) = count_self number

held_self : Self same_held
held_self one = both (count_self one.block.0) (both (bytes_self one.bytes) (option_self same_count count_self one.dirty))

pub blocks_self : Self (pointwise same_held)
blocks_self blocks = items_self same_held held_self blocks

client_self : Self same_client
client_self c =
    both (count_self c.stamp) (both (count_self c.version) (both (count_self c.size) (both (mode_self c.mode) (both (blocks_self c.blocks)
    (both (items_self same_stream stream_self c.streams) (both (items_self same_step step_self c.waiting) (count_self c.count)))))))

kept_self : Self same_kept
kept_self v =
    both (bytes_self v.bytes) (both (count_self v.version) (both (option_self same_count count_self v.holder) (both (agrees_self v.uncached)
    (both (items_self same_open open_self v.opens) (items_self same_stream stream_self v.shared)))))

given_self : Self same_given
given_self v = both (items_self same_count count_self v.stamps) (both (items_self same_mode mode_self v.modes) (both (items_self (same_option same_grant) (option_self same_grant grant_self) v.given) (count_self v.next)))

pub view_self : Self same_but_calls
view_self v = both (kept_self v) (both (given_self v) (both (items_self same_client client_self v.clients) (items_self same_carry carry_self v.carried)))
