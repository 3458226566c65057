-- What a cache's own invariant gives.
use Rattle.std.proofs.Common.{◌≡◌, true, List, [], ◌∷◌, refl}
use Rattle.std.specs.List.{AllByRecursion, list_all}
use Rattle.std.proofs.lemmas.Bool.{and_from}
use Rattle.block_cache.specs.declared.BlockKey.{BlockKey}
use Rattle.block_cache.specs.declared.Block.{Block}
use Rattle.block_cache.specs.Held.{IsKept, IsSound}
use Rattle.client_file_tables.specs.declared.client_files.ClientFiles.{ClientFiles}
use Rattle.client_facts.specs.FileFacts.{HeldAreCached, is_of_cached_file}

all_cached : (s : ClientFiles) (rows : List (BlockKey × Block)) → AllByRecursion (IsKept s.cache.files s.cache.last) rows → list_all (is_of_cached_file s) rows ≡ true
all_cached s [] h = refl
all_cached s (row ∷ rows) h = and_from (is_of_cached_file s row) (list_all (is_of_cached_file s) rows) h.0.cached (all_cached s rows h.1)

pub sound_holds_cached : (s : ClientFiles) → IsSound s.cache → HeldAreCached s
sound_holds_cached s sound = all_cached s s.cache.blocks sound.kept
