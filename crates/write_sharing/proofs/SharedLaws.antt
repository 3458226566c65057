-- Where a file is open, and whether it is shared for writing, told by what is kept of its streams.
use Rattle.std.proofs.Common.{◌≡◌, ◌∙◌, ℕ, ◌==◌, Bool, true, false, cond, not, ◌&&◌, ◌||◌, List, [], ◌∷◌, map, filter, length, refl, sym, ap, ⊎_elim, arith}
use Rattle.std.specs.List.{list_any}
use Rattle.std.proofs.lemmas.Bool.{and_parts, and_from, and_right, or_parts, or_from, or_cases, or_left, or_right, not-false, eqb-true, lt-ltb}
use Rattle.sprite_ids.specs.declared.names.FileId.{FileId}
use Rattle.sprite_ids.specs.declared.names.StreamNo.{StreamNo}
use Rattle.sprite_ids.specs.declared.names.Mode.{Mode}
use Rattle.unix_calls.specs.declared.event.Event.{Event}
use Rattle.unix_calls.specs.declared.event.Event.TheVariants as event
use Rattle.call_journal.specs.Matching.{same_file, writes}
use Rattle.call_journal.specs.Files.{OpenStream, without_open, is_opened_at, opens_by}
use Rattle.call_journal.specs.Sharing.{is_other_kernel, is_written_beside, is_write_shared}
use Rattle.write_sharing.specs.declared.kept.OpenedAt.{OpenedAt}
use Rattle.write_sharing.specs.Kept.{same_open, without_one, is_beside, shared_from, is_shared_in}
use Rattle.write_sharing.specs.Watched.{open_of, is_any_open, opens_for}

-- ---- the first writer decides

-- a stream at another kernel than that one
abbrev is_beyond : ℕ → OpenStream → Bool
is_beyond kernel o = not (kernel == o.kernel)

beside_is : (streams : List OpenedAt) (a : OpenStream) → is_beside streams a.kernel ≡ list_any (is_other_kernel a) (map open_of streams)
beside_is [] a = refl
beside_is (o ∷ rest) a = ap (λ b. not (a.kernel == o.kernel) || b) (beside_is rest a)

-- where all are at one kernel none is shared
none_shared : (all rest : List OpenStream) (kernel : ℕ) → list_any (is_beyond kernel) all ≡ false → list_any (is_beyond kernel) rest ≡ false → list_any (is_written_beside all) rest ≡ false
none_shared all [] kernel whole here = refl
none_shared all (o ∷ rest) kernel whole here =
    let parts = or_parts (is_beyond kernel o) (list_any (is_beyond kernel) rest) here in
    let same : kernel ≡ o.kernel = eqb-true kernel o.kernel (not-false (kernel == o.kernel) parts.0) in
    or_from (is_written_beside all o) (list_any (is_written_beside all) rest) (and_right (writes o.mode) (list_any (is_other_kernel o) all) (ap (λ n. list_any (is_beyond n) all) (sym same) ∙ whole)) (none_shared all rest kernel whole parts.1)

first_writer : (may_write beside other_beside later other_later : Bool) → beside ≡ other_beside → later ≡ other_later → (may_write ≡ true → other_beside ≡ false → other_later ≡ false) → cond may_write beside later ≡ (may_write && other_beside || other_later)
first_writer true b true l m is more none = is
first_writer true b false l m is more none = is ∙ sym (none refl refl)
first_writer false b d l m is more none = more

shared_by : (all rest : List OpenedAt) → ((kernel : ℕ) → list_any (is_beyond kernel) (map open_of all) ≡ false → list_any (is_beyond kernel) (map open_of rest) ≡ false) → shared_from all rest ≡ list_any (is_written_beside (map open_of all)) (map open_of rest)
shared_by all [] within = refl
shared_by all (o ∷ rest) within =
    let more : (kernel : ℕ) → list_any (is_beyond kernel) (map open_of all) ≡ false → list_any (is_beyond kernel) (map open_of rest) ≡ false = λ kernel none. (or_parts (is_beyond kernel (open_of o)) (list_any (is_beyond kernel) (map open_of rest)) (within kernel none)).1 in
    first_writer (writes o.mode) (is_beside all o.kernel) (list_any (is_other_kernel (open_of o)) (map open_of all)) (shared_from all rest) (list_any (is_written_beside (map open_of all)) (map open_of rest)) (beside_is all (open_of o)) (shared_by all rest more) (λ w none. none_shared (map open_of all) (map open_of rest) o.kernel none (more o.kernel none))

pub shared_is : (streams : List OpenedAt) → is_shared_in streams ≡ is_write_shared (map open_of streams)
shared_is streams = shared_by streams streams (λ kernel none. none)

-- ---- fewer streams

any_weaker : {A : Type 0} (p q : A → Bool) (xs : List A) → list_any p xs ≡ true → ((x : A) → p x ≡ true → q x ≡ true) → list_any q xs ≡ true
any_weaker p q [] some weaker = some
any_weaker p q (x ∷ xs) some weaker =
    ⊎_elim (λ h. or_left (q x) (list_any q xs) (weaker x h)) (λ h. or_right (q x) (list_any q xs) (any_weaker p q xs h weaker)) (or_cases (p x) (list_any p xs) some)

kept_any : {A : Type 0} (p : A → Bool) (x : A) (less all : List A) (b : Bool) → (list_any p less ≡ true → list_any p all ≡ true) → list_any p (cond b (x ∷ less) less) ≡ true → list_any p (x ∷ all) ≡ true
kept_any p x less all true more h = ⊎_elim (λ e. or_left (p x) (list_any p all) e) (λ e. or_right (p x) (list_any p all) (more e)) (or_cases (p x) (list_any p less) h)
kept_any p x less all false more h = or_right (p x) (list_any p all) (more h)

any_kept : {A : Type 0} (p q : A → Bool) (xs : List A) → list_any p (filter q xs) ≡ true → list_any p xs ≡ true
any_kept p q [] some = some
any_kept p q (x ∷ xs) some = kept_any p x (filter q xs) xs (q x) (any_kept p q xs) some

beside_fewer : (q : OpenStream → Bool) (opens : List OpenStream) (o : OpenStream) → is_written_beside (filter q opens) o ≡ true → is_written_beside opens o ≡ true
beside_fewer q opens o h =
    let parts = and_parts (writes o.mode) (list_any (is_other_kernel o) (filter q opens)) h in
    and_from (writes o.mode) (list_any (is_other_kernel o) opens) parts.0 (any_kept (is_other_kernel o) q opens parts.1)

pub shared_fewer : (stream : StreamNo) (kernel : ℕ) (mode : Mode) (opens : List OpenStream) → is_write_shared (without_open stream kernel mode opens) ≡ true → is_write_shared opens ≡ true
shared_fewer stream kernel mode opens h =
    let q : OpenStream → Bool = λ o. not (is_opened_at stream kernel mode o) in
    any_weaker (is_written_beside (filter q opens)) (is_written_beside opens) opens (any_kept (is_written_beside (filter q opens)) q opens h) (beside_fewer q opens)

-- ---- a file that is open somewhere

pub some_open : (o : OpenStream) (opens : List OpenStream) → is_any_open (o ∷ opens) ≡ true
some_open o opens = lt-ltb 0 (length (o ∷ opens)) (omega arith)

pub shared_open : (opens : List OpenStream) → is_write_shared opens ≡ true → is_any_open opens ≡ true
shared_open [] h = h
shared_open (o ∷ opens) h = some_open o opens

-- ---- what an event opens and closes

kept_both : (b : Bool) (o : OpenedAt) (streams : List OpenedAt) (opens : List OpenStream) → map open_of streams ≡ opens → map open_of (cond b (o ∷ streams) streams) ≡ cond b (open_of o ∷ opens) opens
kept_both true o streams opens is = ap (λ rest. open_of o ∷ rest) is
kept_both false o streams opens is = is

without_is : (one : OpenedAt) (streams : List OpenedAt) → map open_of (without_one one streams) ≡ without_open one.stream one.kernel one.mode (map open_of streams)
without_is one [] = refl
without_is one (o ∷ rest) = kept_both (not (same_open one o)) o (without_one one rest) (without_open one.stream one.kernel one.mode (map open_of rest)) (without_is one rest)

either : (b : Bool) (one other : List OpenedAt) (opens : List OpenStream) → map open_of one ≡ opens → map open_of (cond b one other) ≡ cond b opens (map open_of other)
either true one other opens is = is
either false one other opens is = refl

pub opens_same : (e : Event) (file : FileId) (streams : List OpenedAt) → map open_of (opens_for e file streams) ≡ opens_by file e (map open_of streams)
opens_same (event.Opened f stream kernel mode) file streams =
    let one : OpenedAt = record { stream = stream; kernel = kernel; mode = mode } in
    either (same_file f file) (one ∷ without_one one streams) streams (open_of one ∷ without_open stream kernel mode (map open_of streams)) (ap (λ rest. open_of one ∷ rest) (without_is one streams))
opens_same (event.Closed f stream kernel mode) file streams =
    let one : OpenedAt = record { stream = stream; kernel = kernel; mode = mode } in
    either (same_file f file) (without_one one streams) streams (without_open stream kernel mode (map open_of streams)) (without_is one streams)
opens_same _ file streams = refl
