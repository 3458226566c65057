-- What the server of a file does to its view when it comes back from a stop: while nobody uses a cache of the file, or is about to.
use Rattle.std.specs.Prelude.{◌≡◌, ◌≤◌, ◌<◌, ℕ, ◌+◌, ◌==◌, nat_le, Bool, true, false, ◌&&◌, not, is_none, List, [], ◌∷◌, ◌++◌, length, Option, Some, None}
use Rattle.std.specs.List.{list_any, list_all}
use Rattle.file_views.specs.declared.grant.FileGrant.{FileGrant}
use Rattle.file_views.specs.declared.opens.Open.{Open}
use Rattle.file_views.specs.declared.view.View.{View}
use Rattle.file_views.specs.Setting.{Setting}
use Rattle.file_views.specs.Streams.{is_any}
use Rattle.file_views.specs.Clients.{is_on, granted, install}
use Rattle.file_views.specs.Views.{new_view, client, set_client, last_stamp, things, busy}
use Rattle.file_views.specs.Grants.{given_to}
use Rattle.file_views.specs.Possible.{is_client, is_named}
use Rattle.file_views.specs.Here.{about}
use Rattle.file_views.specs.Settled.{arrival, stands_for}
use Rattle.file_views.specs.Sound.{Sound}

-- the version rises, the bytes are replaced, a kernel is granted the file without its cache, a stream that it kept is open there again,
-- or the file may be cached again
pub data ServerMove : Type 0 where
  Rise : ℕ → ServerMove
  Replace : List ℕ → ServerMove
  Greet : ℕ → ServerMove
  Reopen : Open → ServerMove
  Cache : ServerMove

-- whether a grant that may be there lets a client use its cache
abbrev pub on_in : Option FileGrant → Bool
on_in (Some grant) = grant.on
on_in None = false

-- whether the file is uncached and has no holder, and nobody uses its cache or will by a grant on its way
abbrev pub is_calm : View → Bool
is_calm v = v.uncached && (is_none v.holder && (list_all (λ c. not (is_on c.mode)) v.clients && list_all (λ x. not (on_in (arrival x.reply))) (things v)))

-- what a stop leaves: nobody has opened the file or knows it, and it is uncached
abbrev pub bare : ℕ → List ℕ → ℕ → ℕ → View
bare count bytes version next = record (new_view count bytes) { version = version; next = next; uncached = true }

-- the grant of a kernel that tells again what it has open
abbrev pub off_grant : View → FileGrant
off_grant v = record { stamp = last_stamp v + 1; old = v.version; new = v.version; size = length v.bytes; on = false; holder = false }

-- it is given, and the kernel has it
abbrev pub greeted : View → ℕ → View
greeted v kernel = set_client (given_to v kernel (off_grant v)) kernel (granted (client v kernel) (off_grant v))

-- the stream is open again at its kernel, and installed there
abbrev pub reopened : View → Open → View
reopened v one = set_client (record v { opens = v.opens ++ one ∷ [] }) one.kernel (install (client v one.kernel) one.stream)

-- whether no unfinished call is of the kernel, to it, or a move to it, and no stream is carried
abbrev pub is_quiet : View → ℕ → Bool
is_quiet v kernel = not (is_any v.carried) && not (list_any (about kernel) v.calls)

-- whether the move is possible
abbrev pub may_serve : Setting → View → ServerMove → Bool
may_serve z v (Rise version) = is_calm v && nat_le v.version version
may_serve z v (Replace bytes) = is_calm v && nat_le (length bytes) z.most
may_serve z v (Greet kernel) = is_calm v && (is_client v kernel && is_quiet v kernel)
may_serve z v (Reopen one) = is_calm v && (is_client v one.kernel && ((one.count == 1) && not (is_named v one.stream)))
may_serve z v Cache = not (is_any v.opens) && not (busy v)

-- the view after a move that is possible
abbrev pub after_serve : View → ServerMove → View
after_serve v (Rise version) = record v { version = version }
after_serve v (Replace bytes) = record v { bytes = bytes }
after_serve v (Greet kernel) = greeted v kernel
after_serve v (Reopen one) = reopened v one
after_serve v Cache = record v { uncached = false }

-- the bytes that the view then stands for
abbrev pub bytes_served : Setting → View → ServerMove → List ℕ
bytes_served z v (Replace bytes) = bytes
bytes_served z v other = stands_for z v

pub record ServerMovesStay : Type 0 where
  -- what a stop leaves is sound, with any version and any number of the next call
  pub bare : (z : Setting) (count : ℕ) (bytes : List ℕ) (version next : ℕ) → 1 ≤ count → count ≤ 15 → length bytes ≤ z.most → Sound z (bare count bytes version next)
  -- each move leads from a sound view to a sound one, with these bytes
  pub stays : (z : Setting) (v : View) (one : ServerMove) → may_serve z v one ≡ true → Sound z v → Sound z (after_serve v one)
  pub bytes : (z : Setting) (v : View) (one : ServerMove) → 0 < z.block → may_serve z v one ≡ true → Sound z v → stands_for z (after_serve v one) ≡ bytes_served z v one
  -- a calm view stands for the server's bytes
  pub stood : (z : Setting) (v : View) → 0 < z.block → is_calm v ≡ true → Sound z v → stands_for z v ≡ v.bytes
