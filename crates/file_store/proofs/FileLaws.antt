-- What is looked up after an edit of the files.
use Rattle.std.proofs.Common.{rules, tests, ◌≡◌, ℕ, ◌==◌, Bool, true, false, not, cond, List, [], ◌∷◌, ◌++◌, Some, None, is_some, refl, sym, ap, ◌∙◌}
use Rattle.std.specs.List.{filter}
use Rattle.std.specs.Map.{lookup, remove_entry, set_value}
use Rattle.std.proofs.lemmas.Bool.{and_parts, eqb-true}
use Rattle.std.proofs.lemmas.Bool.Decides.{eqb_tells}
use Rattle.sprite_ids.specs.declared.FileId.{FileId}
use Rattle.file_store.specs.Files.{Kept, is_file, is_there, bytes_of, with_bytes, with_new, without}

eq_self : (a : ℕ) → (a == a) ≡ true
eq_self a = search (rules, tests, eqb_tells a a)

-- a file is itself
pub same_file : (file : FileId) → is_file file file ≡ true
same_file file = rw (eq_self file.server, eq_self file.number) refl

-- two files that the test finds to be one are equal
pub one_file : (file other : FileId) → is_file file other ≡ true → file ≡ other
one_file file other h =
    let parts = and_parts (file.server == other.server) (file.number == other.number) h in
    let server = eqb-true file.server other.server parts.0 in
    let number = eqb-true file.number other.number parts.1 in
    λ i. record { server = server i; number = number i }

module _ {K V : Type 0} (test : K → Bool) where
  -- the keys that pass, after another value is put
  any_by : (other : K → Bool) (e : K × V) (es : List (K × V)) (w : V) (b : Bool) → is_some (lookup other (set_value test es w)) ≡ is_some (lookup other es) → is_some (lookup other (cond b ((e.0, w) ∷ es) (e ∷ set_value test es w))) ≡ is_some (lookup other (e ∷ es))
  any_by other e es w true h = elim (other e.0) as (λ b. is_some (cond b (Some w) (lookup other es)) ≡ is_some (cond b (Some e.1) (lookup other es))) [ true ↦ refl | false ↦ refl ]
  any_by other e es w false h = elim (other e.0) as (λ b. is_some (cond b (Some e.1) (lookup other (set_value test es w))) ≡ is_some (cond b (Some e.1) (lookup other es))) [ true ↦ refl | false ↦ h ]

  pub set_any : (other : K → Bool) (es : List (K × V)) (w : V) → is_some (lookup other (set_value test es w)) ≡ is_some (lookup other es)
  set_any other [] w = refl
  set_any other (e ∷ es) w = any_by other e es w (test e.0) (set_any other es w)

  put_by : (e : K × V) (es : List (K × V)) (w : V) (b : Bool) → test e.0 ≡ b → (is_some (lookup test es) ≡ true → lookup test (set_value test es w) ≡ Some w) → is_some (cond b (Some e.1) (lookup test es)) ≡ true → lookup test (cond b ((e.0, w) ∷ es) (e ∷ set_value test es w)) ≡ Some w
  put_by e es w true t h is = ap (λ b. cond b (Some w) (lookup test es)) t
  put_by e es w false t h is = ap (λ b. cond b (Some e.1) (lookup test (set_value test es w))) t ∙ h is

  -- the value that was put
  pub set_there : (es : List (K × V)) (w : V) → is_some (lookup test es) ≡ true → lookup test (set_value test es w) ≡ Some w
  set_there [] w is = absurd (cc)
  set_there (e ∷ es) w is = put_by e es w (test e.0) refl (λ later. set_there es w later) is

  -- an entry at the end
  end_by : (e : K × V) (es : List (K × V)) (k : K) (w : V) (b : Bool) → is_some (lookup test (es ++ (k, w) ∷ [])) ≡ true → is_some (cond b (Some e.1) (lookup test (es ++ (k, w) ∷ []))) ≡ true
  end_by e es k w true h = refl
  end_by e es k w false h = h

  pub last_any : (es : List (K × V)) (k : K) (w : V) → test k ≡ true → is_some (lookup test (es ++ (k, w) ∷ [])) ≡ true
  last_any [] k w t = ap (λ b. is_some (cond b (Some w) None)) t
  last_any (e ∷ es) k w t = end_by e es k w (test e.0) (last_any es k w t)

  past_by : (e : K × V) (es : List (K × V)) (k : K) (w : V) (b : Bool) → lookup test (es ++ (k, w) ∷ []) ≡ lookup test es → cond b (Some e.1) (lookup test (es ++ (k, w) ∷ [])) ≡ cond b (Some e.1) (lookup test es)
  past_by e es k w true h = refl
  past_by e es k w false h = h

  pub last_past : (es : List (K × V)) (k : K) (w : V) → test k ≡ false → lookup test (es ++ (k, w) ∷ []) ≡ lookup test es
  last_past [] k w t = ap (λ b. cond b (Some w) None) t
  last_past (e ∷ es) k w t = past_by e es k w (test e.0) (last_past es k w t)

  -- entries of which none passes
  kept_by : (e : K × V) (es : List (K × V)) (b : Bool) → (lookup test es ≡ None → filter (λ x. not (test x.0)) es ≡ es) → cond b (Some e.1) (lookup test es) ≡ None → cond (not b) (e ∷ filter (λ x. not (test x.0)) es) (filter (λ x. not (test x.0)) es) ≡ e ∷ es
  kept_by e es true h is = absurd (cc)
  kept_by e es false h is = ap (λ xs. e ∷ xs) (h is)

  none_kept : (es : List (K × V)) → lookup test es ≡ None → filter (λ x. not (test x.0)) es ≡ es
  none_kept [] is = refl
  none_kept (e ∷ es) is = kept_by e es (test e.0) (none_kept es) is

  gone_by : (e : K × V) (es : List (K × V)) (b : Bool) → test e.0 ≡ b → (lookup test (remove_entry test es) ≡ None → remove_entry test es ≡ filter (λ x. not (test x.0)) es) → lookup test (cond b es (e ∷ remove_entry test es)) ≡ None → cond b es (e ∷ remove_entry test es) ≡ cond (not b) (e ∷ filter (λ x. not (test x.0)) es) (filter (λ x. not (test x.0)) es)
  gone_by e es true t h is = sym (none_kept es is)
  gone_by e es false t h is = ap (λ xs. e ∷ xs) (h (sym (ap (λ b. cond b (Some e.1) (lookup test (remove_entry test es))) t) ∙ is))

  -- where the first that passes is left out, and no other passes, all that pass are
  pub removed_all : (es : List (K × V)) → lookup test (remove_entry test es) ≡ None → remove_entry test es ≡ filter (λ x. not (test x.0)) es
  removed_all [] is = refl
  removed_all (e ∷ es) is = gone_by e es (test e.0) refl (removed_all es) is

  left_by : (e : K × V) (es : List (K × V)) (b : Bool) → test e.0 ≡ b → is_some (lookup test (filter (λ x. not (test x.0)) es)) ≡ false → is_some (lookup test (cond (not b) (e ∷ filter (λ x. not (test x.0)) es) (filter (λ x. not (test x.0)) es))) ≡ false
  left_by e es true t h = h
  left_by e es false t h = ap (λ b. is_some (cond b (Some e.1) (lookup test (filter (λ x. not (test x.0)) es)))) t ∙ h

  -- then none passes
  pub none_left : (es : List (K × V)) → is_some (lookup test (filter (λ x. not (test x.0)) es)) ≡ false
  none_left [] = refl
  none_left (e ∷ es) = left_by e es (test e.0) refl (none_left es)

  module _ (other : K → Bool) (apart : (k : K) → test k ≡ true → other k ≡ false) where
    past : (e : K × V) (es : List (K × V)) → other e.0 ≡ false → lookup other (e ∷ es) ≡ lookup other es
    past e es away = ap (λ b. cond b (Some e.1) (lookup other es)) away

    set_by : (e : K × V) (es : List (K × V)) (w : V) (b : Bool) → test e.0 ≡ b → lookup other (set_value test es w) ≡ lookup other es → lookup other (cond b ((e.0, w) ∷ es) (e ∷ set_value test es w)) ≡ lookup other (e ∷ es)
    set_by e es w true t h = past (e.0, w) es (apart e.0 t) ∙ sym (past e es (apart e.0 t))
    set_by e es w false t h = ap (cond (other e.0) (Some e.1)) h

    -- another value, after one is put
    pub set_other : (es : List (K × V)) (w : V) → lookup other (set_value test es w) ≡ lookup other es
    set_other [] w = refl
    set_other (e ∷ es) w = set_by e es w (test e.0) refl (set_other es w)

    away_by : (e : K × V) (es : List (K × V)) (b : Bool) → test e.0 ≡ b → lookup other (filter (λ x. not (test x.0)) es) ≡ lookup other es → lookup other (cond (not b) (e ∷ filter (λ x. not (test x.0)) es) (filter (λ x. not (test x.0)) es)) ≡ lookup other (e ∷ es)
    away_by e es true t h = h ∙ sym (past e es (apart e.0 t))
    away_by e es false t h = ap (cond (other e.0) (Some e.1)) h

    -- after all that pass are left out
    pub without_other : (es : List (K × V)) → lookup other (filter (λ x. not (test x.0)) es) ≡ lookup other es
    without_other [] = refl
    without_other (e ∷ es) = away_by e es (test e.0) refl (without_other es)

-- a file that isn't another is found past it
apart_by : (file other middle : FileId) (b : Bool) → is_file other middle ≡ b → (other ≡ file → ⊥) → is_file file middle ≡ true → b ≡ false
apart_by file other middle true e ne is = absurd (ne (one_file other middle e ∙ sym (one_file file middle is)))
apart_by file other middle false e ne is = refl

apart : (file other : FileId) → (other ≡ file → ⊥) → (middle : FileId) → is_file file middle ≡ true → is_file other middle ≡ false
apart file other ne middle is = apart_by file other middle (is_file other middle) refl ne is

pub others_changed : (files : Kept) (file other : FileId) (bytes : List ℕ) → (other ≡ file → ⊥) → bytes_of (with_bytes files file bytes) other ≡ bytes_of files other
others_changed files file other bytes ne = set_other (is_file file) (is_file other) (apart file other ne) files bytes

pub others_made : (files : Kept) (file other : FileId) → (other ≡ file → ⊥) → bytes_of (with_new files file) other ≡ bytes_of files other
others_made files file other ne = last_past (is_file other) files file [] (apart file other ne file (same_file file))

pub others_gone : (files : Kept) (file other : FileId) → (other ≡ file → ⊥) → bytes_of (without files file) other ≡ bytes_of files other
others_gone files file other ne = without_other (is_file file) (is_file other) (apart file other ne) files

pub changed_there : (files : Kept) (file other : FileId) (bytes : List ℕ) → is_there (with_bytes files file bytes) other ≡ is_there files other
changed_there files file other bytes = set_any (is_file file) (is_file other) files bytes

pub made_there : (files : Kept) (file : FileId) → is_there (with_new files file) file ≡ true
made_there files file = last_any (is_file file) files file [] (same_file file)

pub gone_there : (files : Kept) (file : FileId) → is_there (without files file) file ≡ false
gone_there files file = none_left (is_file file) files

pub given_held : (files : Kept) (file : FileId) (bytes : List ℕ) → is_there files file ≡ true → bytes_of (with_bytes files file bytes) file ≡ Some bytes
given_held files file bytes is = set_there (is_file file) files bytes is
