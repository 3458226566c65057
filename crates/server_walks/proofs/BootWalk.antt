-- What each deed of a server's beginning keeps, the server has when the cluster begins.
use Rattle.std.proofs.Common.{◌≡◌, ℕ, zero, suc, ◌+◌, ◌-◌, ◌==◌, nat_le, Bool, true, false, ◌&&◌, ◌||◌, cond, List, [], ◌∷◌, ◌++◌, length, slice_get, slice_set, Option, Some, None, Result, Ok, Err, refl, sym, ap, subst, ◌∙◌}
use Rattle.std.specs.List.{position}
use Rattle.std.proofs.lemmas.Bool.{and_parts}
use mathlib.Core.Bool.{or-true}
use Rattle.sprite_ids.specs.declared.FileId.{FileId}
use Rattle.sprite_ids.proofs.ListLaws.{some_is}
use Rattle.unix_calls.specs.declared.Description.{Description}
use Rattle.unix_calls.specs.declared.FileLine.{FileLine}
use Rattle.unix_calls.specs.Domains.{begins_domain}
use Rattle.unix_calls.specs.Tree.{same_path}
use Rattle.file_store.specs.Content.{written}
use Rattle.file_store.specs.Files.{held, is_there}
use Rattle.server_names.specs.declared.Entry.TheVariants as entries
use Rattle.server_names.specs.declared.NameEnd.{NameEnd}
use Rattle.server_names.specs.declared.Node.{Node}
use Rattle.server_names.specs.declared.Node.TheVariants as nodes
use Rattle.server_names.specs.Names as names
use Rattle.server_names.specs.Names.{Tree}
use Rattle.server_kernel.specs.declared.Domain.{Domain}
use Rattle.server_kernel.specs.declared.Server.{Server}
use Rattle.server_kernel.specs.Boot as booting
use Rattle.server_kernel.specs.Directory.{Parts, found_in, has_path}
use Rattle.server_kernel.specs.Files as files
use Rattle.server_kernel.specs.Opens.{counts_file, new_file}
use Rattle.server_walks.proofs.Deeds.{made_files, made_is}

-- the server after a new file got its name in the domain at that place, with these names
abbrev pub named_file : ℕ → Domain → Tree → Server → Server
named_file at domain tree s = record s { domains = slice_set s.domains at (record domain { names = tree }); store = record s.store { files = made_files s.store.files (new_file s) }; next_file = s.next_file + 1 }

-- what a fact must bear of a server that serves these domains: they are hung, then files are made in them and written, and each line of
-- the description takes a number
pub record KeepsBoot (serves : List Parts) (P : Server → Type 0) : Type 0 where
  pub hangs : (s : Server) (root : Parts) (tree : Tree) → ((path : Parts) → same_path path root ≡ true → begins_domain serves path ≡ true) → booting.names_of s.roots root ≡ Some tree → P s → P (record s { domains = s.domains ++ record { root = root; names = tree } ∷ [] })
  pub makes : (s : Server) (at : ℕ) (domain : Domain) (path : Parts) (tree : Tree) → slice_get s.domains at ≡ Some domain → names.booted domain.names path (entries.Node (nodes.File (new_file s))) ≡ Ok tree → P s → P (named_file at domain tree s)
  pub writes : (s : Server) (file : FileId) (bytes : List ℕ) → is_there s.store.files file ≡ true → P s → P (files.with_content file bytes s)
  pub passes : (s : Server) → P s → P (counts_file s)

-- what a step gave that goes on
pub then_some : {A B : Type 0} (o : Option A) (f : A → Option B) (y : B) → booting.and_then o f ≡ Some y → (x : A) × (o ≡ Some x) × (f x ≡ Some y)
then_some (Some x) f y e = (x, refl, e)
then_some None f y e = absurd (cc)

module _ (serves : List Parts) (P : Server → Type 0) (keeps : KeepsBoot serves P) where
  -- ---- domains

  hung_new : (o : Option Tree) (root : Parts) (s next : Server) → ((path : Parts) → same_path path root ≡ true → begins_domain serves path ≡ true) → booting.names_of s.roots root ≡ o → booting.with_domain_of root s o ≡ Some next → P s → P next
  hung_new None root s next is of e p = absurd (cc)
  hung_new (Some tree) root s next is of e p = subst P (some_is (record s { domains = s.domains ++ record { root = root; names = tree } ∷ [] }) next e) (keeps.hangs s root tree is of p)

  pub hung_by : (b : Bool) (root : Parts) (s next : Server) → ((path : Parts) → same_path path root ≡ true → begins_domain serves path ≡ true) → cond b (booting.with_domain_of root s (booting.names_of s.roots root)) (Some s) ≡ Some next → P s → P next
  hung_by true root s next is e p = hung_new (booting.names_of s.roots root) root s next is refl e p
  hung_by false root s next is e p = subst P (some_is s next e) p

  pub hung_each : (rest : List Parts) (parts : ℕ) (s next : Server) → ((path : Parts) → begins_domain rest path ≡ true → begins_domain serves path ≡ true) → booting.hangs_all parts rest s ≡ Some next → P s → P next
  hung_each [] parts s next inside e p = subst P (some_is s next e) p
  hung_each (root ∷ rest) parts s next inside e p =
      let got = then_some (booting.hangs_one parts root s) (λ (mid : Server). booting.hangs_all parts rest mid) next e in
      hung_each rest parts got.0 next (λ path k. inside path (ap (λ b. same_path path root || b) k ∙ or-true (same_path path root))) got.2
      (hung_by (length root == parts) root s got.0 (λ path k. inside path (ap (λ b. b || begins_domain rest path) k)) got.1 p)

  hung_all : (done : ℕ) (s next : Server) → booting.all_hung serves done s ≡ Some next → P s → P next
  hung_all zero s next e p = subst P (some_is s next e) p
  hung_all (suc done) s next e p =
      let got = then_some (booting.all_hung serves done s) (λ (mid : Server). booting.hangs_all (16 - done) serves mid) next e in
      hung_each serves (16 - done) got.0 next (λ path k. k) got.2 (hung_all done s got.0 got.1 p)

  -- ---- files

  written_by : (b : Bool) (file : FileId) (bytes : List ℕ) (s : Server) → (b ≡ true → is_there s.store.files file ≡ true) → P (counts_file s) → P (counts_file (cond b (files.with_content file bytes s) s))
  written_by true file bytes s there p = keeps.writes (counts_file s) file bytes (there refl) p
  written_by false file bytes s there p = p

  written_to : (file : FileId) (start : ℕ) (bytes : List ℕ) (s : Server) → P (counts_file s) → P (counts_file (files.written_to file start bytes s))
  written_to file start bytes s p =
      let there : Bool = is_there s.store.files file in
      let fit : Bool = nat_le (start + length bytes) s.store.limit in
      written_by (there && fit) file (written (held s.store.files file) start bytes) s (λ e. (and_parts there fit e).0) p

  appended : (found : Result Node NameEnd) (bytes : List ℕ) (s : Server) → P (counts_file s) → P (counts_file (booting.appends_found bytes found s))
  appended (Ok (nodes.File file)) bytes s p = written_to file (files.size_in file s) bytes s p
  appended (Ok nodes.Dir) bytes s p = p
  appended (Ok (nodes.Device device)) bytes s p = p
  appended (Err end) bytes s p = p

  -- the file got its name, and is made
  named_by : (made : Result Tree NameEnd) (path : Parts) (at : ℕ) (domain : Domain) (s named : Server) → slice_get s.domains at ≡ Some domain → names.booted domain.names path (entries.Node (nodes.File (new_file s))) ≡ made
      → booting.with_domains s (booting.put_at at s.domains (booting.named_domain domain made)) ≡ Some named → P s → P (counts_file (files.made_file (new_file s) named))
  named_by (Ok tree) path at domain s named there made e p =
      let over : Server = record s { domains = slice_set s.domains at (record domain { names = tree }) } in
      subst (λ (t : Server). P (counts_file (files.made_file (new_file s) t))) (some_is over named e)
      (subst (λ (t : Server). P (counts_file t)) (sym (made_is (new_file s) over)) (keeps.makes s at domain path tree there made p))
  named_by (Err end) path at domain s named there made e p = absurd (cc)

  booted_by : (o : Option Domain) (path : Parts) (at : ℕ) (s named : Server) → slice_get s.domains at ≡ o → booting.with_domains s (booting.boot_by at path (new_file s) o s.domains) ≡ Some named → P s → P (counts_file (files.made_file (new_file s) named))
  booted_by (Some domain) path at s named there e p = named_by (names.booted domain.names path (entries.Node (nodes.File (new_file s)))) path at domain s named there refl e p
  booted_by None path at s named there e p = absurd (cc)

  placed_by : (o : Option ℕ) (path : Parts) (s named : Server) → booting.boots_at path (new_file s) o s ≡ Some named → P s → P (counts_file (files.made_file (new_file s) named))
  placed_by (Some at) path s named e p = booted_by (slice_get s.domains at) path at s named refl e p
  placed_by None path s named e p = absurd (cc)

  line_made : (line : FileLine) (s next : Server) → booting.makes_line line s ≡ Some next → P s → P (counts_file next)
  line_made line s next e p =
      let file : FileId = new_file s in
      let got = then_some (booting.boots_name line.path file s) (λ (named : Server). Some (booting.filled file line.bytes named)) next e in
      subst (λ (t : Server). P (counts_file t)) (some_is (booting.filled file line.bytes got.0) next got.2)
      (written_to file 0 line.bytes (files.made_file file got.0) (placed_by (position (has_path line.path) s.domains) line.path s got.0 got.1 p))

  line_by : (here joins : Bool) (line : FileLine) (s next : Server) → cond here (cond joins (Some (booting.appends_line line s)) (booting.makes_line line s)) (Some s) ≡ Some next → P s → P (counts_file next)
  line_by true true line s next e p = subst (λ (t : Server). P (counts_file t)) (some_is (booting.appends_line line s) next e) (appended (found_in line.path s) line.bytes s (keeps.passes s p))
  line_by true false line s next e p = line_made line s next e p
  line_by false joins line s next e p = subst (λ (t : Server). P (counts_file t)) (some_is s next e) (keeps.passes s p)

  pub filled : (lines : List FileLine) (s next : Server) → booting.fills lines s ≡ Some next → P s → P next
  filled [] s next e p = subst P (some_is s next e) p
  filled (line ∷ lines) s next e p =
      let got = then_some (booting.fills_line line s) (λ (mid : Server). booting.fills lines (counts_file mid)) next e in
      filled lines (counts_file got.0) next got.2 (line_by (booting.lies_here line.path s) line.append line s got.0 got.1 p)

-- the server of that number when the cluster begins
pub server_begins : (c : Description) (kernel : ℕ) (P : Server → Type 0) → KeepsBoot (booting.serves_of c.kernels kernel) P → (s : Server) → booting.boots c kernel ≡ Some s → P (booting.bare c kernel) → P s
server_begins c kernel P keeps s e p =
    let serves : List Parts = booting.serves_of c.kernels kernel in
    let got = then_some (booting.all_hung serves 17 (booting.bare c kernel)) (λ (hung : Server). booting.fills c.files hung) s e in
    filled serves P keeps c.files got.0 s got.2 (hung_all serves P keeps 17 (booting.bare c kernel) got.0 got.1 p)
