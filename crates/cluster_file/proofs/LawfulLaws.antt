-- What bytes describe is lawful.
use Rattle.std.proofs.Common.{◌≡◌, ◌==◌, List, [], length, codes, Bool, true, false, cond, ◌&&◌, ◌||◌, Option, Some, None, Ok, refl, sym, ap, subst, ◌∙◌, arith, nat_le, nat_lt}
use Rattle.std.specs.List.{AllByRecursion, list_all}
use Rattle.std.proofs.lemmas.Bool.{and_from, le-leb}
use Rattle.toml.specs.Data.{Members}
use Rattle.unix_calls.specs.declared.description.Description.{Description}
use Rattle.unix_calls.specs.declared.description.KernelLine.{KernelLine}
use Rattle.unix_calls.specs.declared.description.ProgramLine.{ProgramLine}
use Rattle.unix_calls.specs.Domains.{roots_of}
use Rattle.unix_calls.specs.Lawful.{Lawful, is_within, has_version, has_budget, has_cache, has_counts, has_kernel_names, has_program_names, has_domains, serves_the_root, has_programs}
use Rattle.unix_calls.specs.Lawful as lawful
use Rattle.cluster_file.specs.declared.rows.KernelRow.{KernelRow}
use Rattle.cluster_file.specs.declared.rows.ProgramRow.{ProgramRow}
use Rattle.cluster_file.specs.declared.rows.FileRow.{FileRow}
use Rattle.cluster_file.specs.declared.rows.Rows.{Rows as AllRows}
use Rattle.cluster_file.specs.declared.hosts.Started.{Started}
use Rattle.cluster_file.specs.declared.keys.KeyName.TheVariants as name
use Rattle.cluster_file.specs.declared.keys.Section.TheVariants.{Kernel, Program, Start, File, Link, Evict}
use Rattle.cluster_file.specs.Refusals.{refusal}
use Rattle.cluster_file.specs.Clusters
use Rattle.cluster_file.specs.Laws.{DescribedIsLawful}
use Rattle.cluster_file.specs.Names
use Rattle.cluster_file.specs.Paths
use Rattle.cluster_file.specs.Rows
use Rattle.cluster_file.specs.Tables.{whole_at, within}
use Rattle.cluster_file.proofs.AppendLaws.{no_appends}
use Rattle.cluster_file.proofs.FileLaws.{file_paths_are, joins_are, sizes_are, rows_apart}
use Rattle.cluster_file.proofs.HostLaws.{all_start, all_evict, all_planned}
use Rattle.cluster_file.proofs.LineLaws.{AreKernels, kernels_are, domains_once, root_served, roots_count, some_kernel, ArePrograms, programs_are, all_named}
use Rattle.cluster_file.proofs.OnceLaws.{IsOnce, once_is}
use Rattle.cluster_file.proofs.RowLaws.{IsRead, read_says, within_is, if_ok, not_too_many, kernels_numbered, kernels_named, kernels_serve, programs_numbered, programs_named, starts_small, evicts_within, links_are}
use Rattle.cluster_file.proofs.StageLaws.{then_ok, unless_ok, neither, reads_count, all_passed}

-- ---- the stages

-- the cluster is made of these rows
record IsMade (rows : AllRows) (c : Description) : Type 0 where
  hosts : List Started
  started : Names.all_started rows ≡ Ok hosts
  plan : Names.plan_entries rows ≡ Ok c.plan.entries
  evicts : Names.evict_lines rows ≡ Ok c.evicts
  kernels : Paths.kernel_lines rows.kernels ≡ Ok c.kernels
  files : Paths.file_lines c.kernels rows.files ≡ Ok c.files
  programs : Clusters.program_lines rows.version rows.programs ≡ Ok c.programs
  starts : Names.start_lines rows.programs hosts ≡ Ok c.starts
  version : c.version ≡ rows.version
  budget : c.budget ≡ rows.budget
  cache : c.cache ≡ rows.cache

-- what the stages behind the duplicates say
made : (rows : AllRows) (c : Description) → Clusters.with_hosts rows ≡ Ok c → IsMade rows c
made rows c e =
    let hosts = then_ok _ (Names.all_started rows) c e in
    let entries = then_ok _ (Names.plan_entries rows) c hosts.2 in
    let evicts = then_ok _ (Names.evict_lines rows) c entries.2 in
    let kernels = then_ok _ (Paths.kernel_lines rows.kernels) c evicts.2 in
    let files = then_ok _ (Paths.file_lines kernels.0 rows.files) c kernels.2 in
    let programs = then_ok _ (Clusters.program_lines rows.version rows.programs) c files.2 in
    let starts = then_ok _ (Names.start_lines rows.programs hosts.0) c programs.2 in
    let same : record { version = rows.version; budget = rows.budget; cache = rows.cache; kernels = kernels.0; programs = programs.0; starts = starts.0; files = files.0; plan = record { entries = entries.0 }; evicts = evicts.0 } ≡ c = cc in
    subst (IsMade rows) same (record {
      hosts = hosts.0;
      started = hosts.1;
      plan = entries.1;
      evicts = evicts.1;
      kernels = kernels.1;
      files = files.1;
      programs = programs.1;
      starts = starts.1;
      version = refl;
      budget = refl;
      cache = refl;
    })

-- where `/` is asked for and nothing is refused, it is served
root_by : (b : Bool) → cond b None (Some (refusal 8 [])) ≡ None → b ≡ true
root_by true e = refl
root_by false e = absurd (cc)

-- all that the stages say of a document that describes a cluster
record IsJudged (document : Members) (rows : AllRows) (c : Description) : Type 0 where
  form : Clusters.form_fault document ≡ None
  read : IsRead document rows
  once : IsOnce rows
  root : Names.is_served (codes "/") rows.kernels ≡ true
  made_of : IsMade rows c

-- the same of all stages
described_by : (document : Members) (c : Description) → Clusters.described document ≡ Ok c → (rows : AllRows) × IsJudged document rows c
described_by document c e =
    let formed = unless_ok (Clusters.form_fault document) _ c e in
    let rows = then_ok Clusters.cluster_of (Rows.read_rows document) c formed.1 in
    let named = unless_ok _ (Clusters.with_hosts rows.0) c rows.2 in
    let both = neither (Names.duplicate rows.0) (Names.no_root rows.0) named.0 in (
      rows.0,
      record {
        form = formed.0;
        read = read_says document rows.0 rows.1;
        once = once_is rows.0 both.0;
        root = root_by (Names.is_served (codes "/") rows.0.kernels) both.1;
        made_of = made rows.0 c named.1;
      },
    )

-- where there is a document
described_in : (o : Option Members) (c : Description) → Clusters.described_in o ≡ Ok c → (document : Members) × (rows : AllRows) × IsJudged document rows c
described_in None c e = absurd (cc)
described_in (Some document) c e = let found = described_by document c e in (document, found.0, found.1)

-- ---- the fields

-- the counts are lawful
counts_are : (document : Members) (rows : AllRows) (c : Description) → IsRead document rows → AreKernels rows.kernels c.kernels → Names.is_served (codes "/") rows.kernels ≡ true → IsMade rows c → has_counts c ≡ true
counts_are document rows c r k root m =
    let kernels_some = some_kernel rows.kernels root in
    let kernels_few = not_too_many Kernel Rows.kernel_row document rows.kernels r.kernels in
    let kernels_count = k.count in
    let roots_few = kernels_serve document rows.kernels r.kernels in
    let roots_all = roots_count rows.kernels c.kernels k in
    let programs_few = not_too_many Program Rows.program_row document rows.programs r.programs in
    let programs_count = reads_count (Clusters.program_line rows.version) rows.programs c.programs m.programs in
    let starts_few = not_too_many Start Rows.start_row document rows.starts r.starts in
    let hosts_count = reads_count (Names.hosted_start rows.kernels) rows.starts m.hosts m.started in
    let starts_count = reads_count (Names.start_line rows.programs) m.hosts c.starts m.starts in
    let links_few = not_too_many Link Rows.link_row document rows.links r.links in
    let plan_count = reads_count (Names.plan_entry rows.kernels) rows.links c.plan.entries m.plan in
    let files_few = not_too_many File (Rows.file_row rows.version) document rows.files r.files in
    let files_count = reads_count (Paths.file_line c.kernels (Paths.file_paths rows.files)) rows.files c.files m.files in
    let evicts_few = not_too_many Evict Rows.evict_row document rows.evicts r.evicts in
    let evicts_count = reads_count (Names.evict_line rows.kernels) rows.evicts c.evicts m.evicts in
    let one : Bool = is_within 1 16 (length c.kernels) in
    let two : Bool = nat_le (length (roots_of c.kernels)) 16 in
    let three : Bool = nat_le (length c.programs) 64 in
    let four : Bool = nat_le (length c.starts) 64 in
    let five : Bool = nat_le (length c.plan.entries) 64 in
    let six : Bool = nat_le (length c.files) 200 in
    let seven : Bool = nat_le (length c.evicts) 16 in
    and_from (one && two && three && four && five && six) seven
    (and_from (one && two && three && four && five) six
    (and_from (one && two && three && four) five
    (and_from (one && two && three) four
    (and_from (one && two) three
    (and_from one two
    (and_from (nat_le 1 (length c.kernels)) (nat_le (length c.kernels) 16) (le-leb 1 (length c.kernels) (omega (arith, kernels_some, kernels_count))) (le-leb (length c.kernels) 16 (omega (arith, kernels_few, kernels_count))))
    (le-leb (length (roots_of c.kernels)) 16 (omega (arith, roots_few, roots_all))))
    (le-leb (length c.programs) 64 (omega (arith, programs_few, programs_count))))
    (le-leb (length c.starts) 64 (omega (arith, starts_few, hosts_count, starts_count))))
    (le-leb (length c.plan.entries) 64 (omega (arith, links_few, plan_count))))
    (le-leb (length c.files) 200 (omega (arith, files_few, files_count))))
    (le-leb (length c.evicts) 16 (omega (arith, evicts_few, evicts_count)))

-- a cluster that a document describes is lawful
judged_lawful : (document : Members) (rows : AllRows) (c : Description) → IsJudged document rows c → Lawful c
judged_lawful document rows c j =
    let r = j.read in
    let m = j.made_of in
    let kernels : AreKernels rows.kernels c.kernels = kernels_are rows.kernels c.kernels m.kernels in
    let numbers = kernels_numbered document rows.kernels r.kernels in
    let places = programs_numbered document rows.programs r.programs in
    let programs : ArePrograms rows.version rows.programs c.programs = programs_are rows.version rows.programs c.programs places m.programs in
    let version : within 1 2 (whole_at name.Version 0 document) ≡ Some c.version = r.version ∙ ap Some (sym m.version) in
    let files = subst (λ v. Rows.rows_of File (Rows.file_row v) document ≡ Ok rows.files) (sym m.version) r.files in
    let files_few = not_too_many File (Rows.file_row c.version) document rows.files files in
    let apart : nat_lt 1 c.version ≡ false → AllByRecursion (λ (row : FileRow). row.append ≡ false) rows.files = λ old. rows_apart c.version document rows.files (no_appends document c.version j.form version old) files in
    record {
      version = within_is 1 2 (whole_at name.Version 0 document) c.version version;
      budget = ap (is_within 1 4000000) m.budget ∙ r.budget;
      cache = ap (λ n. n == 0 || is_within 8 4096 n) m.cache ∙ r.cache;
      counts = counts_are document rows c r kernels j.root m;
      kernel_names = all_named (λ (row : KernelRow). row.name) (λ (line : KernelLine). line.name) rows.kernels c.kernels kernels.names (kernels_named document rows.kernels r.kernels) j.once.kernels;
      program_names = all_named (λ (row : ProgramRow). row.name) (λ (line : ProgramLine). line.name) rows.programs c.programs programs.names (programs_named document rows.programs r.programs) j.once.programs;
      domains = and_from (list_all lawful.is_clean (roots_of c.kernels)) _ (all_passed lawful.is_clean (roots_of c.kernels) kernels.clean) (domains_once rows.kernels c.kernels kernels j.once.domains);
      the_root = root_served rows.kernels c.kernels kernels j.root;
      programs = subst (λ v. lawful.are_programs v 1 c.programs ≡ true) (sym m.version) programs.lawful;
      starts = all_start c rows.kernels rows.programs rows.starts m.hosts numbers places kernels.sizes programs.count (starts_small document rows.starts r.starts) m.started m.starts;
      evicts = all_evict c rows.kernels rows.evicts numbers kernels.sizes (evicts_within document rows.evicts r.evicts) m.evicts;
      plan = all_planned c rows.kernels rows.links numbers kernels.count (links_are document rows.links r.links) m.plan;
      file_paths = file_paths_are c rows.files m.files;
      joins = joins_are c rows.files apart m.files;
      sizes = sizes_are c document rows.files files_few apart files m.files;
    }

-- what bytes describe is lawful
pub described_is_lawful : DescribedIsLawful
described_is_lawful bytes c e =
    let few = if_ok (nat_lt 1048576 (length bytes)) _ (Clusters.described_in (Clusters.document_of bytes)) c (refusal 1 []) refl e in
    let found = described_in (Clusters.document_of bytes) c few.1 in
    judged_lawful found.0 found.1 c found.2
