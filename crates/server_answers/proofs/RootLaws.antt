-- Where a server's domains hang: as it begins, and from then on.
use Rattle.std.proofs.Common.{◌≡◌, ℕ, Bool, true, false, ◌||◌, List, [], ◌∷◌, ◌++◌, map, Some, refl, sym, ap, ◌∙◌}
use mathlib.Core.Bool.{or-true}
use Rattle.unix_calls.specs.declared.Description.{Description}
use Rattle.unix_calls.specs.Domains.{begins_domain}
use Rattle.unix_calls.specs.Tree.{same_path}
use Rattle.server_kernel.specs.declared.Domain.{Domain}
use Rattle.server_kernel.specs.declared.Server.{Server}
use Rattle.server_kernel.specs.Boot.{boots, serves_of}
use Rattle.server_kernel.specs.Directory.{Parts, is_root}
use Rattle.server_walks.proofs.BootWalk.{KeepsBoot, server_begins}
use Rattle.server_walks.proofs.Deeds.{has_root}
use Rattle.server_answers.specs.Servers.{RootsAreServed, ServersBeginWithNone}
use Rattle.server_answers.proofs.Answering.{roots_same, roots_set}

abbrev pub roots_in : Server → List Parts
roots_in s = map (λ (domain : Domain). domain.root) s.domains

-- ---- domains that are hung

-- each root of the server is one of these, and it keeps no request
abbrev Mine : List Parts → Server → Type 0
Mine serves s = ((path : Parts) → is_root path s ≡ true → begins_domain serves path ≡ true) × (s.asking ≡ []) × (s.waiting ≡ [])

push_by : (path root : Parts) (a b : Bool) (serves : List Parts) → (b ≡ true → begins_domain serves path ≡ true) → (a ≡ true → begins_domain serves path ≡ true) → (a || b) ≡ true → begins_domain serves path ≡ true
push_by path root true b serves later here e = here refl
push_by path root false b serves later here e = later e

mine_push : (serves : List Parts) (path : Parts) (domains : List Domain) (new : Domain) → (same_path path new.root ≡ true → begins_domain serves path ≡ true) → (has_root path domains ≡ true → begins_domain serves path ≡ true) → has_root path (domains ++ new ∷ []) ≡ true → begins_domain serves path ≡ true
mine_push serves path [] new is old e = push_by path new.root (same_path path new.root) false serves (λ k. absurd (cc)) is e
mine_push serves path (domain ∷ domains) new is old e =
    push_by path domain.root (same_path path domain.root) (has_root path (domains ++ new ∷ [])) serves
    (mine_push serves path domains new is (λ k. old (ap (λ b. same_path path domain.root || b) k ∙ or-true (same_path path domain.root))))
    (λ k. old (ap (λ b. b || has_root path domains) k)) e

-- ---- as the cluster begins

keeps_mine : (serves : List Parts) → KeepsBoot serves (Mine serves)
keeps_mine serves = record {
  hangs = λ s root tree is e h. (λ path k. mine_push serves path s.domains (record { root = root; names = tree }) (is path) (h.0 path) k, h.1, h.2);
  makes = λ s at domain path tree there e h. (λ path k. h.0 path (sym (roots_same _ s.domains path (roots_set s.domains at domain (record domain { names = tree }) there refl)) ∙ k), h.1, h.2);
  writes = λ s file bytes there h. h;
  passes = λ s h. h;
}

begun_so : (c : Description) (kernel : ℕ) (s : Server) → boots c kernel ≡ Some s → Mine (serves_of c.kernels kernel) s
begun_so c kernel s e = server_begins c kernel (Mine (serves_of c.kernels kernel)) (keeps_mine (serves_of c.kernels kernel)) s e (λ path k. absurd (cc), refl, refl)

pub roots_are_served : RootsAreServed
roots_are_served c kernel s path e root = (begun_so c kernel s e).0 path root

pub servers_begin_with_none : ServersBeginWithNone
servers_begin_with_none c kernel s e = let mine = begun_so c kernel s e in (mine.1, mine.2)
