-- What each change of a client keeps: its block numbers differ, its dirty numbers are at most its count, and what waits there reads,
-- writes or appends.
use Rattle.std.proofs.Common.{◌≡◌, ◌≤◌, ◌⊎◌, ℕ, suc, ◌+◌, ◌==◌, nat_le, nat_lt, Bool, true, false, cond, not, ◌&&◌, List, [], ◌∷◌, length, map, filter, Option, Some, None, refl, sym, ap, ◌∙◌, subst, inl, inr, arith, le_refl, is_none}
use Rattle.std.proofs.lemmas.List.{map-append}
use Rattle.std.proofs.lemmas.Bool.Decides.{eqb_tells}
use Rattle.sprite_ids.specs.declared.BlockNo.{BlockNo}
use Rattle.sprite_ids.specs.declared.StreamNo.{StreamNo}
use Rattle.sprite_ids.specs.declared.CallKind.{CallKind}
use Rattle.sprite_ids.specs.declared.CallKind.TheVariants.{Recall, Stop}
use Rattle.file_views.specs.declared.grant.FileGrant.{FileGrant}
use Rattle.file_views.specs.declared.client.Held.{Held}
use Rattle.file_views.specs.declared.client.Client.{Client}
use Rattle.file_views.specs.declared.step.FileStep.{FileStep}
use Rattle.file_views.specs.declared.step.FileStep.TheVariants as act
use Rattle.file_views.specs.Setting.{Setting}
use Rattle.file_views.specs.Contents.{blocks_between}
use Rattle.file_views.specs.Clients.{held, without_block, with_block, cleaned, same_number, granted, take_grant, blocks_after, take_callback, blocks_filled, fill, blocks_written_back, wrote_back, install, uninstall, held_bytes, block_written, blocks_written, write_cached, done_cached}
use Rattle.file_views.specs.Here.{In, Unique}
use Rattle.file_views.specs.Moves.{is_data}
use Rattle.file_views.proofs.MemberLaws.{Made, in_filter, in_map, in_last, unique_append, unique_filter}

-- a fact of what a test chooses
pub choose : {X : Type 0} (P : X → Type 0) (b : Bool) (x y : X) → P x → P y → P (cond b x y)
choose P true x y p q = p
choose P false x y p q = q

pub choose_by : {X : Type 0} (P : X → Type 0) (b : Bool) (x y : X) → (b ≡ true → P x) → (b ≡ false → P y) → P (cond b x y)
choose_by P true x y p q = p refl
choose_by P false x y p q = q refl

abbrev pub place : Held → ℕ
place one = one.block.0

pub record Owned (count : ℕ) (blocks : List Held) : Type 0 where
  pub differ : Unique (map place blocks)
  pub under : (one : Held) → In one blocks → (number : ℕ) → one.dirty ≡ Some number → number ≤ count

pub owned_none : (count : ℕ) → Owned count []
owned_none count = record { differ = tt; under = λ one m number e. absurd m }

-- a greater count
pub owned_more : (count more : ℕ) (blocks : List Held) → count ≤ more → Owned count blocks → Owned more blocks
owned_more count more blocks l o = record { differ = o.differ; under = λ one m number e. let low = o.under one m number e in omega (arith, low, l) }

-- fewer blocks
pub owned_filter : (count : ℕ) (p : Held → Bool) (blocks : List Held) → Owned count blocks → Owned count (filter p blocks)
owned_filter count p blocks o = record { differ = unique_filter place p blocks o.differ; under = λ one m number e. o.under one (in_filter p one blocks m).0 number e }

not_true : (b : Bool) → not b ≡ true → b ≡ false
not_true true e = absurd (cc)
not_true false e = refl

-- no other block has the number
pub placed_out : (number : ℕ) (blocks : List Held) → In number (map place (without_block number blocks)) → ⊥
placed_out number blocks m =
    let r : Made place number (without_block number blocks) = in_map place number (without_block number blocks) m in
    let k = in_filter (λ (one : Held). not (one.block.0 == number)) r.x blocks r.there in
    elim (eqb_tells r.x.block.0 number) [ inl a ↦ cc (a.0, not_true (r.x.block.0 == number) k.1) | inr b ↦ b.1 (sym r.makes) ]

-- a block put among them
pub owned_with : (count : ℕ) (new : Held) (blocks : List Held) → ((number : ℕ) → new.dirty ≡ Some number → number ≤ count) → Owned count blocks → Owned count (with_block new blocks)
owned_with count new blocks f o =
    let rest : Owned count (without_block new.block.0 blocks) = owned_filter count (λ (one : Held). not (one.block.0 == new.block.0)) blocks o in
    record {
      differ = subst Unique (sym (map-append place (without_block new.block.0 blocks) (new ∷ []))) (unique_append (map place (without_block new.block.0 blocks)) new.block.0 rest.differ (placed_out new.block.0 blocks));
      under = λ one m number e. by_place one number e (in_last one new (without_block new.block.0 blocks) m) rest;
    }
  where
    by_place : (one : Held) (number : ℕ) → one.dirty ≡ Some number → In one (without_block new.block.0 blocks) ⊎ (one ≡ new) → Owned count (without_block new.block.0 blocks) → number ≤ count
    by_place one number e (inl m) rest = rest.under one m number e
    by_place one number e (inr q) rest = f number (sym (ap (λ (x : Held). x.dirty) q) ∙ e)

-- all of them made clean
places_cleaned : (blocks : List Held) → map place (map cleaned blocks) ≡ map place blocks
places_cleaned [] = refl
places_cleaned (one ∷ blocks) = ap (λ xs. one.block.0 ∷ xs) (places_cleaned blocks)

pub owned_cleaned : (count : ℕ) (blocks : List Held) → Owned count blocks → Owned count (map cleaned blocks)
owned_cleaned count blocks o = record {
  differ = subst Unique (sym (places_cleaned blocks)) o.differ;
  under = λ one m number e. let r : Made cleaned one blocks = in_map cleaned one blocks m in absurd (none r.x one number r.makes e);
}
  where
    none : (x one : Held) (number : ℕ) → one ≡ cleaned x → one.dirty ≡ Some number → ⊥
    none x one number q e = let clean : one.dirty ≡ None = ap (λ (h : Held). h.dirty) q in cc (clean, e)

-- what holds of each client, and what a change keeps
pub record Fine (c : Client) : Type 0 where
  pub owned : Owned c.count c.blocks
  pub waits : (step : FileStep) → In step c.waiting → is_data step ≡ true

pub record Follows (c d : Client) : Type 0 where
  pub rises : c.count ≤ d.count
  pub fine : Fine d

pub same_fine : (c : Client) → Fine c → Follows c c
same_fine c f = record { rises = le_refl c.count; fine = f }

pub fine_granted : (c : Client) (grant : FileGrant) → Fine c → Follows c (granted c grant)
fine_granted c grant f = record {
  rises = le_refl c.count;
  fine = record { owned = choose (Owned c.count) (grant.on && (c.version == grant.old)) c.blocks [] f.owned (owned_none c.count); waits = f.waits };
}

pub fine_take : (c : Client) (grant : FileGrant) → Fine c → Follows c (take_grant c grant)
fine_take c grant f = choose (Follows c) (nat_le grant.stamp c.stamp) c (granted c grant) (same_fine c f) (fine_granted c grant f)

owned_after : (count : ℕ) (blocks : List Held) (kind : CallKind) → Owned count blocks → Owned count (blocks_after blocks kind)
owned_after count blocks Recall o = owned_cleaned count blocks o
owned_after count blocks Stop o = owned_none count

pub fine_callback : (c : Client) (stamp : ℕ) (kind : CallKind) → Fine c → Follows c (take_callback c stamp kind)
fine_callback c stamp kind f = record { rises = le_refl c.count; fine = record { owned = owned_after c.count c.blocks kind f.owned; waits = f.waits } }

owned_filled : (z : Setting) (count : ℕ) (blocks : List Held) (block : BlockNo) (piece : List ℕ) (b : Bool) → Owned count blocks → Owned count (blocks_filled z blocks block piece b)
owned_filled z count blocks block piece true o = owned_with count _ blocks (λ number e. absurd (cc (e))) o
owned_filled z count blocks block piece false o = o

pub fine_fill : (z : Setting) (c : Client) (stamp : ℕ) (block : BlockNo) (piece : List ℕ) → Fine c → Follows c (fill z c stamp block piece)
fine_fill z c stamp block piece f = record { rises = le_refl c.count; fine = record { owned = owned_filled z c.count c.blocks block piece ((stamp == c.stamp) && is_none (held c.blocks block.0)) f.owned; waits = f.waits } }

owned_back : (count : ℕ) (blocks : List Held) (dirty : Option ℕ) (b : Bool) (o : Option Held) → Owned count blocks → Owned count (blocks_written_back blocks dirty b o)
owned_back count blocks dirty b (Some one) o = choose (Owned count) (b && same_number one.dirty dirty) (with_block (cleaned one) blocks) blocks (owned_with count (cleaned one) blocks (λ number e. absurd (cc (e))) o) o
owned_back count blocks dirty b None o = o

pub fine_back : (c : Client) (stamp number : ℕ) (dirty : Option ℕ) → Fine c → Follows c (wrote_back c stamp number dirty)
fine_back c stamp number dirty f = record { rises = le_refl c.count; fine = record { owned = owned_back c.count c.blocks dirty (stamp == c.stamp) (held c.blocks number) f.owned; waits = f.waits } }

-- a write takes numbers in a row
owned_written : (z : Setting) (blocks : List Held) (low : ℕ) (bytes : List ℕ) (count : ℕ) (numbers : List ℕ) → Owned count blocks → Owned (count + length numbers) (blocks_written z blocks low bytes count numbers)
owned_written z blocks low bytes count [] o = owned_more count (count + 0) blocks (omega arith) o
owned_written z blocks low bytes count (number ∷ rest) o =
    let new : Held = block_written z (held_bytes z (held blocks number)) number low bytes (count + 1) in
    let next : Owned (count + 1) (with_block new blocks) = owned_with (count + 1) new blocks (λ other e. at_most other e) (owned_more count (count + 1) blocks (omega arith) o) in
    owned_more (count + 1 + length rest) (count + suc (length rest)) (blocks_written z (with_block new blocks) low bytes (count + 1) rest) (omega arith) (owned_written z (with_block new blocks) low bytes (count + 1) rest next)
  where
    at_most : (other : ℕ) → Some (count + 1) ≡ Some other → other ≤ count + 1
    at_most other e = let same : count + 1 ≡ other = cc (e) in omega (arith, same)

pub fine_write : (z : Setting) (c : Client) (low : ℕ) (bytes : List ℕ) → Fine c → Follows c (write_cached z c low bytes)
fine_write z c low bytes f = record {
  rises = omega arith;
  fine = record { owned = owned_written z c.blocks low bytes c.count (blocks_between z low (low + length bytes)) f.owned; waits = f.waits };
}

pub fine_done : (z : Setting) (c : Client) (step : FileStep) → Fine c → Follows c (done_cached z c step)
fine_done z c (act.Writing pid number kernel stream from bytes) f = fine_write z c from bytes f
fine_done z c (act.Append pid number kernel stream bytes) f = choose (Follows c) (nat_lt z.most (c.size + length bytes)) c (write_cached z c c.size bytes) (same_fine c f) (fine_write z c c.size bytes f)
fine_done z c step f = same_fine c f

pub fine_install : (c : Client) (stream : StreamNo) → Fine c → Follows c (install c stream)
fine_install c stream f = record { rises = le_refl c.count; fine = record { owned = f.owned; waits = f.waits } }

pub fine_uninstall : (c : Client) (stream : StreamNo) → Fine c → Follows c (uninstall c stream)
fine_uninstall c stream f = record { rises = le_refl c.count; fine = record { owned = f.owned; waits = f.waits } }

pub fine_wait : (c : Client) (waiting : List FileStep) → Fine c → ((step : FileStep) → In step waiting → is_data step ≡ true) → Follows c (record c { waiting = waiting })
fine_wait c waiting f w = record { rises = le_refl c.count; fine = record { owned = f.owned; waits = w } }

pub fine_drop : (c : Client) (number : ℕ) → Fine c → Follows c (record c { blocks = without_block number c.blocks })
fine_drop c number f = record { rises = le_refl c.count; fine = record { owned = owned_filter c.count (λ (one : Held). not (one.block.0 == number)) c.blocks f.owned; waits = f.waits } }

pub follows_on : (c d e : Client) → Follows c d → Follows d e → Follows c e
follows_on c d e f g = record { rises = (let one = f.rises in let two = g.rises in omega (arith, one, two)); fine = g.fine }
