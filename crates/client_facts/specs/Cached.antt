-- What a cache's own invariant gives.
use Rattle.block_cache.specs.Held.{IsSound}
use Rattle.client_file_tables.specs.declared.client_files.ClientFiles.{ClientFiles}
use Rattle.client_facts.specs.FileFacts.{HeldAreCached}

-- each cache holds blocks of cached files alone
abbrev pub SoundHoldsCached : Type 0
SoundHoldsCached = (s : ClientFiles) → IsSound s.cache → HeldAreCached s
