-- As a server begins, it has each domain of its kernel.
use Rattle.std.proofs.Common.{◌≡◌, ◌+◌, ◌-◌, ◌≤◌, ◌==◌, ◌⊎◌, ℕ, zero, suc, Bool, true, false, ◌||◌, cond, List, [], ◌∷◌, ◌++◌, length, slice_get, slice_set, Option, Some, None, Result, Ok, Err, inl, inr, refl, sym, ap, subst, ◌∙◌, arith}
use Rattle.std.specs.List.{position}
use Rattle.std.proofs.lemmas.Bool.{cases_Bool, eq-eqb, eqb-true, true≢false}
use Rattle.sprite_ids.proofs.ListLaws.{get_set_other, get_set_same, get_within, some_is}
use Rattle.sprite_paths.specs.Path.{IsPath, clean_path, text_of}
use Rattle.sprite_paths.proofs.PathLaws.{cleaned_path}
use Rattle.unix_calls.specs.declared.FileLine.{FileLine}
use Rattle.unix_calls.specs.Domains.{begins_domain}
use Rattle.unix_calls.specs.Lawful.{is_clean, is_cleaned}
use Rattle.unix_calls.specs.Tree.{same_path}
use Rattle.server_names.specs.declared.NameEnd.{NameEnd}
use Rattle.server_names.specs.declared.Node.TheVariants.{File}
use Rattle.server_names.specs.declared.Entry.TheVariants.{Node as Named}
use Rattle.server_names.specs.Names.{Tree, booted}
use Rattle.server_names.proofs.FoundLaws.{path_is}
use Rattle.server_kernel.specs.declared.Domain.{Domain}
use Rattle.server_kernel.specs.declared.Server.{Server}
use Rattle.server_kernel.specs.Directory.{found_in, has_path}
use Rattle.server_kernel.specs.Opens.{counts_file, new_file}
use Rattle.server_kernel.specs.Boot.{all_hung, and_then, appends_line, boot_by, boots_at, filled, fills, fills_line, hangs_all, hangs_one, lies_here, makes_line, named_domain, names_of, put_at, with_domain_of, with_domains}
use Rattle.tree_laws.specs.Trees.{Parts}
use Rattle.name_laws.proofs.FillLaws.{Same, appended_same, filled_same, none_some}

-- a domain hangs there
pub record Has (root : Parts) (ds : List Domain) : Type 0 where
  pub at : ℕ
  pub domain : Domain
  pub got : slice_get ds at ≡ Some domain
  pub root_is : domain.root ≡ root

-- ---- while the domains are made

get_first : (ds : List Domain) (new : Domain) (i : ℕ) (d : Domain) → slice_get ds i ≡ Some d → slice_get (ds ++ new ∷ []) i ≡ Some d
get_first [] new i d h = absurd (none_some None d refl h)
get_first (e ∷ ds) new zero d h = h
get_first (e ∷ ds) new (suc i) d h = get_first ds new i d h

has_last : (ds : List Domain) (new : Domain) → Has new.root (ds ++ new ∷ [])
has_last [] new = record { at = 0; domain = new; got = refl; root_is = refl }
has_last (e ∷ ds) new = let h = has_last ds new in record { at = suc h.at; domain = h.domain; got = h.got; root_is = h.root_is }

module _ (other root : Parts) (parts : ℕ) (s next : Server) where
  has_new : (Has other s.domains) ⊎ ((other ≡ root) × (length other ≡ parts)) → (o : Option Tree) → with_domain_of root s o ≡ Some next → Has other next.domains
  has_new h None is = absurd (none_some None next refl is)
  has_new h (Some tree) is = subst (λ (t : Server). Has other t.domains) (some_is (record s { domains = s.domains ++ new ∷ [] }) next is) (by h)
    where
      new : Domain
      new = record { root = root; names = tree }

      by : (Has other s.domains) ⊎ ((other ≡ root) × (length other ≡ parts)) → Has other (s.domains ++ new ∷ [])
      by (inl old) = record { at = old.at; domain = old.domain; got = get_first s.domains new old.at old.domain old.got; root_is = old.root_is }
      by (inr is) = subst (λ (k : Parts). Has k (s.domains ++ new ∷ [])) (sym is.0) (has_last s.domains new)

  has_by : (Has other s.domains) ⊎ ((other ≡ root) × (length other ≡ parts)) → (b : Bool) → (length root == parts) ≡ b → cond b (with_domain_of root s (names_of s.roots root)) (Some s) ≡ Some next → Has other next.domains
  has_by h true many is = has_new h (names_of s.roots root) is
  has_by h false few is = subst (λ (t : Server). Has other t.domains) (some_is s next is) (by h)
    where
      by : (Has other s.domains) ⊎ ((other ≡ root) × (length other ≡ parts)) → Has other s.domains
      by (inl old) = old
      by (inr is) = absurd (true≢false (sym (eq-eqb (length root) parts (ap (λ (k : Parts). length k) (sym is.0) ∙ is.1)) ∙ few))

  has_one_more : (Has other s.domains) ⊎ ((other ≡ root) × (length other ≡ parts)) → hangs_one parts root s ≡ Some next → Has other next.domains
  has_one_more h is = has_by h (length root == parts) refl is

has_length : (other : Parts) (parts : ℕ) (rest : List Parts) (s next : Server) → (Has other s.domains) ⊎ ((begins_domain rest other ≡ true) × (length other ≡ parts)) → hangs_all parts rest s ≡ Some next → Has other next.domains
has_length other parts [] s next h is = subst (λ (t : Server). Has other t.domains) (some_is s next is) (by h)
  where
    by : (Has other s.domains) ⊎ ((begins_domain [] other ≡ true) × (length other ≡ parts)) → Has other s.domains
    by (inl old) = old
    by (inr is) = absurd (true≢false (sym is.0))
has_length other parts (root ∷ rest) s next h is = by (hangs_one parts root s) refl is (λ mid k later. has_length other parts rest mid next k later)
  where
    first : (b : Bool) → same_path other root ≡ b → (Has other s.domains) ⊎ (((b || begins_domain rest other) ≡ true) × (length other ≡ parts)) → (mid : Server) → hangs_one parts root s ≡ Some mid → (Has other mid.domains) ⊎ ((begins_domain rest other ≡ true) × (length other ≡ parts))
    first b same (inl old) mid one = inl (has_one_more other root parts s mid (inl old) one)
    first true same (inr is) mid one = inl (has_one_more other root parts s mid (inr (path_is other root same, is.1)) one)
    first false same (inr is) mid one = inr is

    by : (o : Option Server) → hangs_one parts root s ≡ o → and_then o (λ mid. hangs_all parts rest mid) ≡ Some next
        → ((mid : Server) → (Has other mid.domains) ⊎ ((begins_domain rest other ≡ true) × (length other ≡ parts)) → hangs_all parts rest mid ≡ Some next → Has other next.domains) → Has other next.domains
    by None one is go = absurd (none_some None next refl is)
    by (Some mid) one is go = go mid (first (same_path other root) refl h mid one) is

up_to : (n done : ℕ) → n ≤ 16 → 17 ≤ n + suc done → (17 ≤ n + done) ⊎ (n ≡ 16 - done)
up_to n done few many = by (cases_Bool (n + done == 16))
  where
    apart : ((n + done == 16) ≡ false) → n + done ≡ 16 → ⊥
    apart off e = true≢false (sym (eq-eqb (n + done) 16 e) ∙ off)

    more : (n + done ≡ 16 → ⊥) → 17 ≤ n + done
    more off = omega (arith, many, off)

    at : n + done ≡ 16 → n ≡ 16 - done
    at e = omega (arith, e)

    by : ((n + done == 16) ≡ true) ⊎ ((n + done == 16) ≡ false) → (17 ≤ n + done) ⊎ (n ≡ 16 - done)
    by (inl e) = inr (at (eqb-true (n + done) 16 e))
    by (inr off) = inl (more (apart off))

pub has_lengths : (other : Parts) (serves : List Parts) (done : ℕ) (s next : Server) → begins_domain serves other ≡ true → length other ≤ 16 → 17 ≤ length other + done → all_hung serves done s ≡ Some next → Has other next.domains
has_lengths other serves zero s next begins few many is = absurd (omega (arith, few, many))
has_lengths other serves (suc done) s next begins few many is = by (all_hung serves done s) refl is (λ mid up before. has_lengths other serves done s mid begins few up before)
  where
    by : (o : Option Server) → all_hung serves done s ≡ o → and_then o (λ mid. hangs_all (16 - done) serves mid) ≡ Some next → ((mid : Server) → 17 ≤ length other + done → all_hung serves done s ≡ Some mid → Has other mid.domains) → Has other next.domains
    by None before is go = absurd (none_some None next refl is)
    by (Some mid) before is go = has_length other (16 - done) serves mid next (at (up_to (length other) done few many)) is
      where
        at : (17 ≤ length other + done) ⊎ (length other ≡ 16 - done) → (Has other mid.domains) ⊎ ((begins_domain serves other ≡ true) × (length other ≡ 16 - done))
        at (inl up) = inl (go mid up before)
        at (inr same) = inr (begins, same)

-- ---- while the files are put into them

has_set : (other : Parts) (ds : List Domain) (at : ℕ) (old new : Domain) → slice_get ds at ≡ Some old → new.root ≡ old.root → Has other ds → Has other (slice_set ds at new)
has_set other ds at old new got same h =
    elim (cases_Bool (at == h.at)) [
      | inl here ↦
          let place : at ≡ h.at = eqb-true at h.at here in
          let is : old ≡ h.domain = some_is old h.domain (sym got ∙ ap (slice_get ds) place ∙ h.got) in
          record { at = at; domain = new; got = get_set_same ds at new (get_within ds at old got); root_is = same ∙ ap (λ (d : Domain). d.root) is ∙ h.root_is }
      | inr apart ↦
          record { at = h.at; domain = h.domain; got = get_set_other ds at h.at new (λ e. true≢false (sym (eq-eqb at h.at e) ∙ apart)) ∙ h.got; root_is = h.root_is }
    ]

has_same : (other : Parts) (s next : Server) → Same s next → Has other s.domains → Has other next.domains
has_same other s next same h = subst (Has other) (sym same.domains) h

module _ (other : Parts) (line : FileLine) (s next : Server) (h : Has other s.domains) where
  has_named : (at : ℕ) (first : Domain) → slice_get s.domains at ≡ Some first → (r : Result Tree NameEnd)
      → and_then (with_domains s (put_at at s.domains (named_domain first r))) (λ later. Some (filled (new_file s) line.bytes later)) ≡ Some next → Has other next.domains
  has_named at first got (Err end) is = absurd (none_some None next refl is)
  has_named at first got (Ok tree) is =
      let new : Domain = record first { names = tree } in
      let between : Server = record s { domains = slice_set s.domains at new } in
      has_same other between next (subst (Same between) (some_is (filled (new_file s) line.bytes between) next is) (filled_same (new_file s) line.bytes between)) (has_set other s.domains at first new got refl h)

  has_at : (at : ℕ) (o : Option Domain) → slice_get s.domains at ≡ o
      → and_then (with_domains s (boot_by at line.path (new_file s) o s.domains)) (λ later. Some (filled (new_file s) line.bytes later)) ≡ Some next → Has other next.domains
  has_at at None got is = absurd (none_some None next refl is)
  has_at at (Some first) got is = has_named at first got (booted first.names line.path (Named (File (new_file s)))) is

  has_place : (o : Option ℕ) → and_then (boots_at line.path (new_file s) o s) (λ later. Some (filled (new_file s) line.bytes later)) ≡ Some next → Has other next.domains
  has_place None is = absurd (none_some None next refl is)
  has_place (Some at) is = has_at at (slice_get s.domains at) refl is

  has_line : (here append : Bool) → cond here (cond append (Some (appends_line line s)) (makes_line line s)) (Some s) ≡ Some next → Has other next.domains
  has_line false append is = has_same other s next (subst (Same s) (some_is s next is) (record { domains = refl; roots = refl; kernel = refl; number = refl })) h
  has_line true true is = has_same other s next (subst (Same s) (some_is (appends_line line s) next is) (appended_same line.bytes (found_in line.path s) s)) h
  has_line true false is = has_place (position (has_path line.path) s.domains) is

pub has_all : (other : Parts) (lines : List FileLine) (s next : Server) → Has other s.domains → fills lines s ≡ Some next → Has other next.domains
has_all other [] s next h is = subst (λ (t : Server). Has other t.domains) (some_is s next is) h
has_all other (line ∷ lines) s next h is = by (fills_line line s) refl is (λ mid k later. has_all other lines (counts_file mid) next k later)
  where
    by : (o : Option Server) → fills_line line s ≡ o → and_then o (λ mid. fills lines (counts_file mid)) ≡ Some next → ((mid : Server) → Has other mid.domains → fills lines (counts_file mid) ≡ Some next → Has other next.domains) → Has other next.domains
    by None one is go = absurd (none_some None next refl is)
    by (Some mid) one is go = go mid (has_line other line s mid h (lies_here line.path s) line.append one) is

-- ---- a domain's root has at most 16 parts

few_by : (path : Parts) (o : Option Parts) → clean_path [] (text_of path) ≡ o → is_cleaned o path ≡ true → length path ≤ 16
few_by path None e h = absurd (true≢false (sym h))
few_by path (Some cleaned) e h =
    let is : IsPath cleaned = cleaned_path [] (text_of path) cleaned (record { names = tt; short_parts = tt; few_parts = omega arith; short_text = omega arith }) e in
    subst (λ (k : Parts). length k ≤ 16) (path_is cleaned path h) is.few_parts

pub few_parts_of : (path : Parts) → is_clean path ≡ true → length path ≤ 16
few_parts_of path h = few_by path (clean_path [] (text_of path)) refl h
