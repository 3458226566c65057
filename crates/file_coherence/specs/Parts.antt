-- Parts of the definitions that a function of this crate does by itself.
use Rattle.std.specs.Prelude.{ℕ, ◌+◌, ◌==◌, nat_lt, Bool, true, false, ◌&&◌, not, if◌then◌else◌, List, [], ◌∷◌, ◌++◌, length, Option, Some, None}
use Rattle.sprite_ids.specs.declared.StreamNo.{StreamNo}
use Rattle.sprite_ids.specs.declared.errno.Errno.TheVariants as errno
use Rattle.file_views.specs.declared.FileBody.{FileBody}
use Rattle.file_views.specs.declared.FileBody.TheVariants as form
use Rattle.file_views.specs.declared.Held.{Held}
use Rattle.file_views.specs.declared.Client.{Client}
use Rattle.file_views.specs.declared.FileCall.{FileCall}
use Rattle.file_views.specs.declared.FileStep.{FileStep}
use Rattle.file_views.specs.declared.View.{View}
use Rattle.file_coherence.specs.declared.steps.Found.{Found}
use Rattle.file_views.specs.Setting.{Setting}
use Rattle.file_views.specs.Contents.{cut}
use Rattle.file_views.specs.Views.{server, begin}
use Rattle.file_views.specs.Streams.{has_stream}
use Rattle.file_views.specs.Clients.{cleaned, same_number, write_cached}

-- a looked-up block made clean, where its number and the stamp are still those
abbrev pub clean_one : Option ℕ → Bool → Option Held → Option Held
clean_one dirty current (Some one) = if current && same_number one.dirty dirty then Some (cleaned one) else None
clean_one dirty current None = None

-- the client after an append in its cache
abbrev pub append_cached : Setting → Client → List ℕ → Client
append_cached z c bytes = if nat_lt z.most (c.size + length bytes) then c else write_cached z c c.size bytes

-- a call, or another one in its place where the numbers are the same
abbrev pub in_place : FileCall → FileCall → FileCall
in_place new one = if one.number == new.number then new else one

-- whether nothing waits
abbrev pub is_idle : List FileStep → Bool
is_idle [] = true
is_idle (step ∷ rest) = false

-- what an append of so many bytes in a cache is answered
abbrev pub appended : Setting → ℕ → ℕ → FileBody
appended z size count = if nat_lt z.most (size + count) then form.Refused errno.TooBig else form.Value count 0 []

-- the stream that a move newly shares
abbrev pub newly_shared : List StreamNo → FileBody → Option StreamNo
newly_shared shared (form.Move stream target kept grants) = if kept && not (has_stream stream shared) then Some stream else None
newly_shared shared body = None

-- the server's bytes after an append, and what it answers
abbrev pub appended_bytes : Setting → List ℕ → List ℕ → List ℕ
appended_bytes z bytes new = if nat_lt z.most (length bytes + length new) then bytes else bytes ++ new

abbrev pub append_reply : Setting → List ℕ → ℕ → FileBody
append_reply z bytes count = if nat_lt z.most (length bytes + count) then form.Refused errno.TooBig else form.Value count (length bytes + count) []

-- a reply with its first number alone
abbrev pub first_alone : FileBody → FileBody
first_alone (form.Value first second piece) = form.Value first 0 piece
first_alone reply = reply

-- what sends a looked-up block to the server
abbrev pub write_back_of : Setting → Client → Option Held → Option FileBody
write_back_of z c (Some one) = Some (form.WriteBack c.stamp one.block c.size (cut z one.bytes one.block.0 c.size))
write_back_of z c None = None

abbrev pub sent_back : View → ℕ → ℕ → Option FileBody → View
sent_back v kernel dirty (Some body) = begin v kernel server body (Some dirty)
sent_back v kernel dirty None = v

-- which a looked-up block is, and its dirty number
abbrev pub found_of : Held → Found
found_of one = record { block = one.block; dirty = one.dirty }
