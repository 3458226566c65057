-- What a server answers and keeps: it may answer what may be kept, and keeps what may wait.
use Rattle.std.proofs.Common.{◌≡◌, ℕ, zero, suc, Bool, true, false, ◌||◌, cond, List, [], ◌∷◌, ◌++◌, map, slice_get, slice_set, Option, Some, None, option_map, Result, Ok, Err, refl, sym, ap, subst, ◌∙◌}
use Rattle.std.specs.List.{AllByRecursion, find, list_any, position}
use Rattle.sprite_ids.specs.declared.FileId.{FileId}
use Rattle.sprite_ids.specs.declared.TxNo.{TxNo}
use Rattle.sprite_ids.proofs.ListLaws.{each_push, some_is}
use Rattle.packet_bodies.specs.declared.ReplyBody.{ReplyBody}
use Rattle.packet_bodies.specs.declared.ReplyBody.TheVariants as bodies
use Rattle.packet_bodies.specs.declared.Request.{Request}
use Rattle.packet_bodies.specs.declared.Request.TheVariants as requests
use Rattle.kernel_steps.specs.declared.Input.{Input}
use Rattle.kernel_steps.specs.declared.Input.TheVariants as inputs
use Rattle.kernel_steps.specs.Rows.{is_under}
use Rattle.unix_calls.specs.Tree.{same_path}
use Rattle.server_names.specs.Names as names
use Rattle.server_names.specs.declared.NameEnd.{NameEnd}
use Rattle.server_names.specs.declared.Node.{Node}
use Rattle.server_kernel.specs.declared.Asked.{Asked}
use Rattle.server_kernel.specs.declared.Domain.{Domain}
use Rattle.server_kernel.specs.Directory as directory
use Rattle.server_kernel.specs.Directory.{Parts}
use Rattle.server_kernel.specs.Waits.{first_about, is_about, less_about}
use Rattle.server_walks.specs.Sorts.{fits}
use Rattle.server_walks.proofs.Bearing.{Bears, Seen}
use Rattle.server_walks.proofs.Deeds.{LeadsSo, changed_at_path, changed_in, has_root, may_wait}
use Rattle.server_walks.proofs.ListLaws.{each_less}

-- the call may be answered by all that such a request may have
abbrev pub FreeFor : (TxNo → ReplyBody → Type 0) → TxNo → Request → Type 0
FreeFor A tx request = (reply : ReplyBody) → fits request reply ≡ true → A tx reply

-- a request that comes: one for the server of a prefix may be answered by a server of it, with that prefix; any other one may be kept
abbrev pub MayAnswer : (TxNo → ReplyBody → Type 0) → (Asked → Type 0) → List Domain → TxNo → ℕ → Request → Type 0
MayAnswer A K domains tx source (requests.Prefix path) = has_root path domains ≡ true → A tx (bodies.Here path)
MayAnswer A K domains tx source body = K (record { tx = tx; from = source; body = body })

-- and what comes
abbrev pub MayTake : (TxNo → ReplyBody → Type 0) → (Asked → Type 0) → List Domain → Input → Type 0
MayTake A K domains (inputs.Request tx source body) = MayAnswer A K domains tx source body
MayTake A K domains input = Unit {0}

-- ---- what is kept is so, and what is answered

abbrev pub AllKept : (Asked → Type 0) → List (FileId × Asked) → Type 0
AllKept K rows = AllByRecursion (λ (row : FileId × Asked). K row.1) rows

pub record AnswerSo (A : TxNo → ReplyBody → Type 0) (K : Asked → Type 0) (roots : List Parts) (domains : List Domain) (asking waiting : List (FileId × Asked)) (out : List (TxNo × ReplyBody)) : Type 0 where
  pub hang : map (λ (domain : Domain). domain.root) domains ≡ roots
  pub ask : AllKept K asking
  pub wait : AllKept K waiting
  pub are : AllByRecursion (λ (answer : TxNo × ReplyBody). A answer.0 answer.1) out

-- ---- lists

any_roots : (path : Parts) (domains : List Domain) → has_root path domains ≡ list_any (same_path path) (map (λ (domain : Domain). domain.root) domains)
any_roots path [] = refl
any_roots path (domain ∷ domains) = ap (λ b. same_path path domain.root || b) (any_roots path domains)

-- domains with the same roots have the same paths for roots
pub roots_same : (one other : List Domain) (path : Parts) → map (λ (domain : Domain). domain.root) one ≡ map (λ (domain : Domain). domain.root) other → has_root path one ≡ has_root path other
roots_same one other path e = any_roots path one ∙ (ap (list_any (same_path path)) e ∙ sym (any_roots path other))

pub roots_set : (domains : List Domain) (at : ℕ) (domain new : Domain) → slice_get domains at ≡ Some domain → new.root ≡ domain.root → map (λ (d : Domain). d.root) (slice_set domains at new) ≡ map (λ (d : Domain). d.root) domains
roots_set [] at domain new e same = refl
roots_set (first ∷ rest) zero domain new e same = ap (λ (root : Parts). root ∷ map (λ (d : Domain). d.root) rest) (same ∙ ap (λ (d : Domain). d.root) (sym (some_is first domain e)))
roots_set (first ∷ rest) (suc at) domain new e same = ap (λ (roots : List Parts). first.root ∷ roots) (roots_set rest at domain new e same)

found_by : (F : Asked → Type 0) (b : Bool) (row : FileId × Asked) (rest : Option (FileId × Asked)) (request : Asked) → F row.1 → (option_map (λ (row : FileId × Asked). row.1) rest ≡ Some request → F request) → option_map (λ (row : FileId × Asked). row.1) (cond b (Some row) rest) ≡ Some request → F request
found_by F true row rest request here later e = subst F (some_is row.1 request e) here
found_by F false row rest request here later e = later e

found_so : (F : Asked → Type 0) (p : FileId × Asked → Bool) (rows : List (FileId × Asked)) (request : Asked) → AllByRecursion (λ (row : FileId × Asked). F row.1) rows → option_map (λ (row : FileId × Asked). row.1) (find p rows) ≡ Some request → F request
found_so F p [] request h e = absurd (cc)
found_so F p (row ∷ rows) request h e = found_by F (p row) row (find p rows) request h.0 (found_so F p rows request h.1) e

-- ---- rows of what is kept

module _ (K : Asked → Type 0) where
  kept_more : (rows : List (FileId × Asked)) (file : FileId) (request : Asked) → K request → AllKept K rows → AllKept K (rows ++ (file, request) ∷ [])
  kept_more rows file request k h = each_push (λ (row : FileId × Asked). K row.1) rows (file, request) h k

  kept_less : (rows : List (FileId × Asked)) (file : FileId) → AllKept K rows → AllKept K (less_about file rows)
  kept_less rows file h = each_less (λ (row : FileId × Asked). K row.1) (is_under is_about file) rows h

  kept_first : (rows : List (FileId × Asked)) (file : FileId) (request : Asked) → first_about file rows ≡ Some request → AllKept K rows → K request
  kept_first rows file request e h = found_so K (is_under is_about file) rows request h e

-- ---- it bears what a server does

-- what is known of a request that is served: that it comes so
abbrev pub ServedSo : (TxNo → ReplyBody → Type 0) → (Asked → Type 0) → List Domain → Asked → Type 0
ServedSo A K domains request = MayAnswer A K domains request.tx request.from request.body

module _ (A : TxNo → ReplyBody → Type 0) (K : Asked → Type 0) (frees : (request : Asked) → K request → FreeFor A request.tx request.body) (first : List Domain) where
  -- what is kept is
  kept_so : (body : Request) (tx : TxNo) (source : ℕ) → K (record { tx = tx; from = source; body = body }) → MayAnswer A K first tx source body
  kept_so (requests.Prefix path) tx source k = λ root. frees (record { tx = tx; from = source; body = requests.Prefix path }) k (bodies.Here path) refl
  kept_so body tx source k = k

  -- and what waits may be kept
  waits_so : (body : Request) (tx : TxNo) (source : ℕ) → MayAnswer A K first tx source body → may_wait body ≡ true → K (record { tx = tx; from = source; body = body })
  waits_so (requests.Prefix path) tx source may wait = absurd (cc)
  waits_so body tx source may wait = may

  here_so : (reply : ReplyBody) (path : Parts) (tx : TxNo) (domains : List Domain) → map (λ (domain : Domain). domain.root) domains ≡ map (λ (domain : Domain). domain.root) first → (has_root path first ≡ true → A tx (bodies.Here path))
      → fits (requests.Prefix path) reply ≡ true → LeadsSo domains (requests.Prefix path) reply → A tx reply
  here_so (bodies.Here other) path tx domains same may sort leads =
      let one : path ≡ other = prefix_is path other leads.0 in
      subst (λ (path : Parts). A tx (bodies.Here path)) one (may (sym (roots_same domains first path same) ∙ (ap (λ (path : Parts). has_root path domains) one ∙ leads.1)))
    where
      prefix_is : (one other : Parts) → requests.Prefix one ≡ requests.Prefix other → one ≡ other
      prefix_is one other e = cc
  here_so reply path tx domains same may sort leads = absurd (cc)

  answers_so : (body : Request) (tx : TxNo) (source : ℕ) (reply : ReplyBody) (domains : List Domain) → map (λ (domain : Domain). domain.root) domains ≡ map (λ (domain : Domain). domain.root) first → MayAnswer A K first tx source body → fits body reply ≡ true → LeadsSo domains body reply → A tx reply
  answers_so (requests.Prefix path) tx source reply domains same may sort leads = here_so reply path tx domains same may sort leads
  answers_so body tx source reply domains same may sort leads = frees (record { tx = tx; from = source; body = body }) may reply sort

  -- a change leaves where domains hang
  changed_roots : (o : Option Domain) (at : ℕ) (change : Domain → Domain) (domains : List Domain) → ((domain : Domain) → (change domain).root ≡ domain.root) → slice_get domains at ≡ o → map (λ (d : Domain). d.root) (directory.change_at at change o domains) ≡ map (λ (d : Domain). d.root) domains
  changed_roots (Some domain) at change domains same e = roots_set domains at domain (change domain) e (same domain)
  changed_roots None at change domains same e = refl

  roots_after : (o : Option ℕ) (change : Domain → Domain) (domains : List Domain) → ((domain : Domain) → (change domain).root ≡ domain.root) → map (λ (d : Domain). d.root) (changed_in change o domains) ≡ map (λ (d : Domain). d.root) domains
  roots_after (Some at) change domains same = changed_roots (slice_get domains at) at change domains same refl
  roots_after None change domains same = refl

  renamed_root : (found : Result Node NameEnd) (old new : Parts) (domain : Domain) → (directory.renamed_found old new found domain).root ≡ domain.root
  renamed_root (Ok node) old new domain = refl
  renamed_root (Err end) old new domain = refl

  abbrev Q : Seen → Type 0
  Q v = AnswerSo A K (map (λ (domain : Domain). domain.root) first) v.domains v.asking v.waiting v.answers

  changed : (v : Seen) (path : Parts) (change : Domain → Domain) → ((domain : Domain) → (change domain).root ≡ domain.root) → Q v → Q (record v { domains = changed_at_path path change v.domains })
  changed v path change same q = record { hang = roots_after (position (directory.has_path path) v.domains) change v.domains same ∙ q.hang; ask = q.ask; wait = q.wait; are = q.are }

  pub answering : Bears (ServedSo A K first) Q
  answering = record {
    tells = λ v event told q. q;
    calls = λ v request call q. q;
    answers = λ v request reply may is q. record { hang = q.hang; ask = q.ask; wait = q.wait; are = each_push (λ (answer : TxNo × ReplyBody). A answer.0 answer.1) v.answers (request.tx, reply) q.are (answers_so request.body request.tx request.from reply v.domains q.hang may is.sort is.leads) };
    makes = λ v path node q. changed v path (directory.made_domain path node) (λ domain. refl) q;
    removes = λ v path q. changed v path (directory.removed_domain path) (λ domain. refl) q;
    renames = λ v old new q. changed v old (directory.renamed_domain old new) (λ domain. renamed_root (names.found domain.names old) old new domain) q;
    waits = λ v request file may wait q. record { hang = q.hang; ask = q.ask; wait = kept_more K v.waiting file request (waits_so request.body request.tx request.from may wait) q.wait; are = q.are };
    asks = λ v request file may wait q. record { hang = q.hang; ask = kept_more K v.asking file request (waits_so request.body request.tx request.from may wait) q.ask; wait = q.wait; are = q.are };
    waited = λ v file request e q. kept_so request.body request.tx request.from (kept_first K v.waiting file request e q.wait);
    asked = λ v file request e q. kept_so request.body request.tx request.from (kept_first K v.asking file request e q.ask);
    less_waiting = λ v file q. record { hang = q.hang; ask = q.ask; wait = kept_less K v.waiting file q.wait; are = q.are };
    less_asking = λ v file q. record { hang = q.hang; ask = kept_less K v.asking file q.ask; wait = q.wait; are = q.are };
  }
