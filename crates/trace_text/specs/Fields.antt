-- How the fields of a trace's lines are printed, and read again.
use Rattle.std.specs.Prelude.{codes, ◌≡◌, ℕ, ◌==◌, ◌≤◌, ◌<◌, ◌^◌, nat_le, nat_lt, Bool, true, false, ◌&&◌, if◌then◌else◌, List, [], ◌∷◌, Option, Some, None}
use Rattle.std.specs.List.{find}
use Rattle.sprite_ids.specs.declared.names.BlockNo.{BlockNo}
use Rattle.sprite_ids.specs.declared.names.TxNo.{TxNo}
use Rattle.sprite_ids.specs.declared.names.FileId.{FileId}
use Rattle.sprite_ids.specs.declared.names.StreamNo.{StreamNo}
use Rattle.sprite_ids.specs.declared.names.Mode.{Mode}
use Rattle.sprite_ids.specs.declared.names.Mode.TheVariants as mode
use Rattle.sprite_ids.specs.declared.caching.CacheMode.{CacheMode}
use Rattle.sprite_ids.specs.declared.caching.CacheMode.TheVariants as cache
use Rattle.sprite_ids.specs.declared.caching.CallKind.{CallKind}
use Rattle.sprite_ids.specs.declared.caching.CallKind.TheVariants as callback
use Rattle.sprite_paths.specs.Path.{text_of, IsPath}
use Rattle.link_plan.specs.declared.plan.Fate.{Fate}
use Rattle.link_plan.specs.declared.plan.Fate.TheVariants as fate
use Rattle.unix_calls.specs.declared.event.About.{About}
use Rattle.unix_calls.specs.declared.event.DropCause.{DropCause}
use Rattle.unix_calls.specs.declared.event.DropCause.TheVariants as cause
use Rattle.unix_calls.specs.declared.event.SendKind.{SendKind}
use Rattle.unix_calls.specs.declared.event.SendKind.TheVariants as kind
use Rattle.field_reader.specs.Reads.{Reads, found, made}
use Rattle.history_text.specs.Formats.{Format, parted, ◌then◌, made_of, chosen_by, within, word, same, Shape, bare, form, Row, bare_row, row, named}
use Rattle.history_text.specs.Numbers.{number64, number32, number8, pid}
use Rattle.history_text.specs.Texts.{text}
use Rattle.field_reader.specs.Paths.{path_of}

-- ---- numbers

-- whether it is the number of a kernel
abbrev pub is_kernel : ℕ → Bool
is_kernel n = nat_le 1 n && nat_le n 16

abbrev pub kernel : Format ℕ
kernel = within number8 is_kernel (λ n. (1 ≤ n) × (n ≤ 16))

abbrev pub number16 : Format ℕ
number16 = within number64 (λ n. nat_lt n (2 ^ 16)) (λ n. n < 2 ^ 16)

abbrev pub block : Format BlockNo
block = made_of number16 (λ n. record { 0 = n }) (λ b. b.0)

-- the number of a remote call
abbrev pub transaction : Format TxNo
transaction = made_of number32 (λ n. record { 0 = n }) (λ tx. tx.0)

-- ---- names

-- what a kernel numbers, a file or a stream: the kernel's number, a colon, and its own
abbrev pub numbered : Format (ℕ × ℕ)
numbered = parted (codes ":") kernel number32

abbrev pub file : Format FileId
file = made_of numbered (λ p. record { server = p.0; number = p.1 }) (λ f. (f.server, f.number))

abbrev pub stream : Format StreamNo
stream = made_of numbered (λ p. record { kernel = p.0; number = p.1 }) (λ s. (s.kernel, s.number))

-- a prefix is its text, in quotes as a text of a history
abbrev pub prefix_format : Format (List (List ℕ))
prefix_format = chosen_by text path_of text_of IsPath

-- the call for whose sake a packet goes: its process, a slash, and its number; or `-` where there is none
abbrev pub about : Format About
about = made_of (parted (codes "/") pid number32) (λ p. record { pid = p.0; number = p.1 }) (λ a. (a.pid, a.number))

abbrev pub about_fits : Option About → Type 0
about_fits None = Unit {0}
about_fits (Some a) = about.Fits a

abbrev pub about_printed : Option About → List ℕ
about_printed None = codes "-"
about_printed (Some a) = about.printed a

abbrev pub about_read : List ℕ → Reads (Option About)
about_read [] = made Some (about.read [])
about_read (b ∷ bs) = if b == 45 then found None bs else made Some (about.read (b ∷ bs))

abbrev pub about_if_any : Format (Option About)
about_if_any = record { Fits = about_fits; printed = about_printed; read = about_read }

-- ---- one word for each of a few values

-- the value of that word
abbrev pub of_word : {A : Type 0} → (A → List ℕ) → List A → List ℕ → Option A
of_word word_for all w = find (λ x. same w (word_for x)) all

abbrev pub worded : {A : Type 0} → (A → List ℕ) → List A → Format A
worded word_for all = chosen_by word (of_word word_for all) word_for (λ x. Unit {0})

abbrev pub truth_word : Bool → List ℕ
truth_word true = codes "1"
truth_word false = codes "0"

abbrev pub truths : List Bool
truths = true ∷ false ∷ []

abbrev pub truth : Format Bool
truth = worded truth_word truths

abbrev pub fate_word : Fate → List ℕ
fate_word fate.Once = codes "once"
fate_word fate.Lost = codes "lost"
fate_word fate.Twice = codes "twice"
fate_word fate.Late = codes "late"

abbrev pub fates : List Fate
fates = fate.Once ∷ fate.Lost ∷ fate.Twice ∷ fate.Late ∷ []

-- a packet of which one copy arrived met no fault
abbrev pub is_fault : Fate → Bool
is_fault fate.Once = false
is_fault fate.Lost = true
is_fault fate.Twice = true
is_fault fate.Late = true

-- each fate is printed; that of one copy isn't read
abbrev pub fate_format : Format Fate
fate_format = within (worded fate_word fates) is_fault (λ f. is_fault f ≡ true)

abbrev pub cache_word : CacheMode → List ℕ
cache_word cache.On = codes "on"
cache_word cache.Off = codes "off"
cache_word cache.None = codes "none"

abbrev pub cache_modes : List CacheMode
cache_modes = cache.On ∷ cache.Off ∷ cache.None ∷ []

abbrev pub cache_format : Format CacheMode
cache_format = worded cache_word cache_modes

abbrev pub mode_word : Mode → List ℕ
mode_word mode.Read = codes "read"
mode_word mode.Write = codes "write"
mode_word mode.Both = codes "both"

abbrev pub modes : List Mode
modes = mode.Read ∷ mode.Write ∷ mode.Both ∷ []

abbrev pub mode_format : Format Mode
mode_format = worded mode_word modes

abbrev pub callback_word : CallKind → List ℕ
callback_word callback.Recall = codes "recall"
callback_word callback.Stop = codes "stop"

abbrev pub callbacks : List CallKind
callbacks = callback.Recall ∷ callback.Stop ∷ []

abbrev pub callback_format : Format CallKind
callback_format = worded callback_word callbacks

abbrev pub cause_word : DropCause → List ℕ
cause_word cause.Full = codes "full"
cause_word cause.Stop = codes "stop"
cause_word cause.Version = codes "version"

abbrev pub causes : List DropCause
causes = cause.Full ∷ cause.Stop ∷ cause.Version ∷ []

abbrev pub cause_format : Format DropCause
cause_format = worded cause_word causes

-- ---- what a request is for

abbrev pub kind_shape : SendKind → Shape
kind_shape (kind.Op f) = form (codes "op") file f
kind_shape (kind.Fetch f b) = form (codes "fetch") (file then block) (f, b)
kind_shape (kind.WriteBack f b) = form (codes "writeback") (file then block) (f, b)
kind_shape (kind.Broadcast path) = form (codes "broadcast") prefix_format path
kind_shape kind.Other = bare (codes "other")

abbrev pub kind_rows : List (Row SendKind)
kind_rows =
    row (codes "op") file kind.Op ∷
    row (codes "fetch") (file then block) (λ p. kind.Fetch p.0 p.1) ∷
    row (codes "writeback") (file then block) (λ p. kind.WriteBack p.0 p.1) ∷
    row (codes "broadcast") prefix_format kind.Broadcast ∷
    bare_row (codes "other") kind.Other ∷
    []

abbrev pub kind_format : Format SendKind
kind_format = named kind_shape kind_rows
