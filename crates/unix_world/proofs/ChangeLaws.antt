-- One of a list that is found by its position, and changed there.
use Rattle.std.proofs.Common.{◌≡◌, ℕ, Bool, true, false, cond, List, [], ◌∷◌, Option, Some, None, Result, Ok, Err, OnOk, refl, sym, ap, ◌∙◌, slice_get, slice_set}
use Rattle.std.specs.Prelude.{◌==◌}
use Rattle.std.specs.List.{find, position}
use Rattle.sprite_ids.specs.Lists.{changed}
use Rattle.sprite_ids.proofs.OnceLaws.{changed_here, unchanged, none_found, nothing_found, found_there, get_is}
use Rattle.unix_calls.specs.declared.state.Device.{Device}
use Rattle.unix_calls.specs.declared.state.File.{File}
use Rattle.unix_calls.specs.declared.state.FileName.{FileName}
use Rattle.unix_calls.specs.State.{bytes_of, device_at, same_file}

-- the change at the position is the change of the first that passes
pub changed_at : {X : Type 0} (p : X → Bool) (f : X → X) (xs : List X) (i : ℕ) (x : X) → position p xs ≡ Some i → slice_get xs i ≡ Some x → slice_set xs i (f x) ≡ changed p f xs
changed_at p f xs i x place got = changed_here p f xs i x place (get_is xs i x got)

-- where there is none, nothing changes
pub none_changed : {X : Type 0} (p : X → Bool) (f : X → X) (xs : List X) → position p xs ≡ None → changed p f xs ≡ xs
none_changed p f xs place = unchanged p f xs (none_found p xs place)

-- what stands at the position is what is found
pub found_at : {X : Type 0} (p : X → Bool) (xs : List X) (i : ℕ) (x : X) → position p xs ≡ Some i → slice_get xs i ≡ Some x → find p xs ≡ Some x
found_at p xs i x place got = found_there p xs i x place ∙ ap Some (sym (get_is xs i x got))

-- a fact of a call that succeeds, from another
pub on_ok : {A E : Type 0} {P Q : Type 0} (r : Result A E) → (P → Q) → OnOk r P → OnOk r Q
on_ok (Ok a) f h = f h
on_ok (Err e) f h = tt

-- ---- files

abbrev bytes_in : Option File → List ℕ
bytes_in None = []
bytes_in (Some f) = f.bytes

bytes_by : (f : File) (o : Option File) (rest : List ℕ) (b : Bool) → rest ≡ bytes_in o → cond b f.bytes rest ≡ bytes_in (cond b (Some f) o)
bytes_by f o rest true h = refl
bytes_by f o rest false h = h

bytes_found : (name : FileName) (files : List File) → bytes_of files name ≡ bytes_in (find (λ (f : File). same_file f.name name) files)
bytes_found name [] = refl
bytes_found name (f ∷ fs) =
    bytes_by f (find (λ (g : File). same_file g.name name) fs) (bytes_of fs name) (same_file f.name name) (bytes_found name fs)

-- the bytes of the file that stands at a position
pub bytes_there : (name : FileName) (files : List File) (i : ℕ) (f : File) → position (λ (g : File). same_file g.name name) files ≡ Some i → slice_get files i ≡ Some f → bytes_of files name ≡ f.bytes
bytes_there name files i f place got =
    bytes_found name files ∙ ap bytes_in (found_at (λ (g : File). same_file g.name name) files i f place got)

-- a file that isn't there has none
pub no_bytes : (name : FileName) (files : List File) → position (λ (g : File). same_file g.name name) files ≡ None → bytes_of files name ≡ []
no_bytes name files none =
    bytes_found name files ∙ ap bytes_in (nothing_found (λ (g : File). same_file g.name name) files (none_found (λ (g : File). same_file g.name name) files none))

-- ---- devices

device_by : (d : Device) (one two : Option Device) (b : Bool) → one ≡ two → cond b (Some d) one ≡ cond b (Some d) two
device_by d one two true h = refl
device_by d one two false h = h

device_found : (place : ℕ) (devices : List Device) → device_at devices place ≡ find (λ (d : Device). d.place == place) devices
device_found place [] = refl
device_found place (d ∷ ds) =
    device_by d (device_at ds place) (find (λ (e : Device). e.place == place) ds) (d.place == place) (device_found place ds)

pub device_there : (place : ℕ) (devices : List Device) (i : ℕ) (d : Device) → position (λ (e : Device). e.place == place) devices ≡ Some i → slice_get devices i ≡ Some d → device_at devices place ≡ Some d
device_there place devices i d found got =
    device_found place devices ∙ found_at (λ (e : Device). e.place == place) devices i d found got

pub no_device : (place : ℕ) (devices : List Device) → position (λ (e : Device). e.place == place) devices ≡ None → device_at devices place ≡ None
no_device place devices none =
    device_found place devices ∙ nothing_found (λ (e : Device). e.place == place) devices (none_found (λ (e : Device). e.place == place) devices none)
