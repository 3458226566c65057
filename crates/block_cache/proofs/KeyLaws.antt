-- When two files, and two blocks, are one.
use Rattle.std.proofs.Common.{rules, tests, ◌≡◌, ℕ, ◌==◌, true, ◌&&◌, refl, ap, ◌∙◌}
use Rattle.std.proofs.lemmas.Bool.{and_parts, eqb-true}
use Rattle.std.proofs.lemmas.Bool.Decides.{eqb_tells}
use Rattle.sprite_ids.specs.declared.FileId.{FileId}
use Rattle.block_cache.specs.declared.key.BlockKey.{BlockKey}
use Rattle.block_cache.specs.Files.{is_file}
use Rattle.block_cache.specs.Blocks.{is_at}

-- a number is itself
pub eq_self : (a : ℕ) → (a == a) ≡ true
eq_self a = search (rules, tests, eqb_tells a a)

-- two files that the test finds to be one are equal
pub one_file : (file other : FileId) → is_file file other ≡ true → file ≡ other
one_file file other h =
    let parts = and_parts (file.server == other.server) (file.number == other.number) h in
    let server = eqb-true file.server other.server parts.0 in
    let number = eqb-true file.number other.number parts.1 in
    λ i. record { server = server i; number = number i }

pub same_file : (file : FileId) → is_file file file ≡ true
same_file file = rw (eq_self file.server, eq_self file.number) refl

-- and so are two blocks
pub one_block : (file : FileId) (number : ℕ) (key : BlockKey) → is_at file number key ≡ true → (file ≡ key.file) × (number ≡ key.block.0)
one_block file number key h =
    let parts = and_parts (is_file file key.file) (number == key.block.0) h in
    (one_file file key.file parts.0, eqb-true number key.block.0 parts.1)

pub same_block : (key : BlockKey) → is_at key.file key.block.0 key ≡ true
same_block key = ap (λ b. b && (key.block.0 == key.block.0)) (same_file key.file) ∙ eq_self key.block.0
