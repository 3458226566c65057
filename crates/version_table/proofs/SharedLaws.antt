-- Each file of the table is coherent, and what that says of those that have it open.
use Rattle.std.proofs.Common.{◌≡◌, ℕ, ◌≤◌, Bool, true, false, true≢false, refl, sym, ◌∙◌}
use Rattle.std.proofs.lemmas.Bool.{eqb-true}
use Rattle.sprite_ids.specs.declared.FileId.{FileId}
use Rattle.version_table.specs.declared.versioned.Versioned.{Versioned}
use Rattle.version_table.specs.Files.{is_on}
use Rattle.version_table.specs.Coherence.{IsCoherent}
use Rattle.version_table.specs.Versions.{Files, file_of, AreKept}
use Rattle.version_table.specs.Laws.{CachedIsUnshared, CachingIsUnshared, CachingIsHolder}
use Rattle.version_table.proofs.SharingLaws.{writer_is_alone}
use Rattle.version_table.proofs.FileLaws.{its_own}

-- what is kept of a file is coherent
pub file_coherent : (files : Files) (file : FileId) → AreKept files → IsCoherent (file_of files file)
file_coherent files file h = (its_own files file h).kept.coherent

pub cached_unshared : (file : Versioned) → IsCoherent file → CachedIsUnshared file
cached_unshared file h e writer writing other there = eqb-true other writer (writer_is_alone file.opens writer other (h.alone e) writing there)

caching_by : (file : Versioned) → IsCoherent file → (b : Bool) → file.uncached ≡ b → (writer : ℕ) → writer ≤ 16 → is_on file writer ≡ true → file.uncached ≡ false
caching_by file h true e writer few on = absurd (true≢false (sym on ∙ h.stopped e writer few))
caching_by file h false e writer few on = e

-- of an uncached file no kernel has mode On
pub not_uncached : (file : Versioned) → IsCoherent file → (writer : ℕ) → writer ≤ 16 → is_on file writer ≡ true → file.uncached ≡ false
not_uncached file h writer few on = caching_by file h file.uncached refl writer few on

pub caching_unshared : (file : Versioned) → IsCoherent file → CachingIsUnshared file
caching_unshared file h caching few on = cached_unshared file h (not_uncached file h caching few on)

pub caching_holder : (file : Versioned) → IsCoherent file → CachingIsHolder file
caching_holder file h free writer few on writing = h.holds (not_uncached file h writer few on) free writer writing
