-- The links in the domains of a server: they stay, and other domains hang there alone.
use Rattle.std.proofs.Common.{◌≡◌, ℕ, zero, suc, Bool, true, List, [], ◌∷◌, Option, Some, None, position, slice_get, slice_set, Result, Ok, Err, subst}
use Rattle.sprite_ids.proofs.ListLaws.{each_get}
use Rattle.server_names.specs.declared.NameEnd.{NameEnd}
use Rattle.server_names.specs.declared.Node.{Node}
use Rattle.server_names.specs.Names as names
use Rattle.server_kernel.specs.declared.Domain.{Domain}
use Rattle.server_kernel.specs.Directory as directory
use Rattle.server_walks.proofs.Deeds.{changed_at_path, changed_in}
use Rattle.server_walks.proofs.NameEnds.{HangsIn}
use Rattle.redirect_laws.specs.Links.{AreLinks, IsLink, LinksIn, Parts}
use Rattle.redirect_laws.proofs.TreeLinks.{IfThere, entry_leads, made_links, removed_links, renamed_links}

module _ (leads : Parts → Bool) where
  pub got_links : (domains : List Domain) (at : ℕ) → LinksIn leads domains → IfThere (λ (domain : Domain). AreLinks leads domain.names) (slice_get domains at)
  got_links [] at h = tt
  got_links (domain ∷ domains) zero h = h.0
  got_links (domain ∷ domains) (suc at) h = got_links domains at h.1

  pub set_links : (domains : List Domain) (at : ℕ) (new : Domain) → AreLinks leads new.names → LinksIn leads domains → LinksIn leads (slice_set domains at new)
  set_links [] at new is h = tt
  set_links (domain ∷ domains) zero new is h = (is, h.1)
  set_links (domain ∷ domains) (suc at) new is h = (h.0, set_links domains at new is h.1)

  -- a change that leaves each domain's links
  abbrev Leaves : (Domain → Domain) → Type 0
  Leaves change = (domain : Domain) → AreLinks leads domain.names → AreLinks leads (change domain).names

  change_by : (o : Option Domain) (at : ℕ) (change : Domain → Domain) (domains : List Domain) → Leaves change → IfThere (λ (domain : Domain). AreLinks leads domain.names) o → LinksIn leads domains → LinksIn leads (directory.change_at at change o domains)
  change_by (Some domain) at change domains leaves is h = set_links domains at (change domain) (leaves domain is) h
  change_by None at change domains leaves is h = h

  changed_links : (o : Option ℕ) (change : Domain → Domain) (domains : List Domain) → Leaves change → LinksIn leads domains → LinksIn leads (changed_in change o domains)
  changed_links (Some at) change domains leaves h = change_by (slice_get domains at) at change domains leaves (got_links domains at h) h
  changed_links None change domains leaves h = h

  pub made_in : (path : Parts) (node : Node) (domains : List Domain) → LinksIn leads domains → LinksIn leads (changed_at_path path (directory.made_domain path node) domains)
  made_in path node domains h = changed_links (position (directory.has_path path) domains) (directory.made_domain path node) domains (λ domain k. made_links leads domain.names path node k) h

  pub removed_in : (path : Parts) (domains : List Domain) → LinksIn leads domains → LinksIn leads (changed_at_path path (directory.removed_domain path) domains)
  removed_in path domains h = changed_links (position (directory.has_path path) domains) (directory.removed_domain path) domains (λ domain k. removed_links leads domain.names path k) h

  renamed_by : (r : Result Node NameEnd) (old new : Parts) (domain : Domain) → AreLinks leads domain.names → AreLinks leads (directory.renamed_found old new r domain).names
  renamed_by (Ok node) old new domain h = renamed_links leads domain.names old new node h
  renamed_by (Err end) old new domain h = h

  pub renamed_in : (old new : Parts) (domains : List Domain) → LinksIn leads domains → LinksIn leads (changed_at_path old (directory.renamed_domain old new) domains)
  renamed_in old new domains h = changed_links (position (directory.has_path old) domains) (directory.renamed_domain old new) domains (λ domain k. renamed_by (names.found domain.names old) old new domain k) h

  -- where another domain hangs
  pub hangs_lead : (path : Parts) (domains : List Domain) → HangsIn domains path → LinksIn leads domains → leads path ≡ true
  hangs_lead path domains hangs h =
      let tree : names.Tree = hangs.domain.names in
      let are : AreLinks leads tree = each_get (λ (domain : Domain). AreLinks leads domain.names) domains hangs.at hangs.domain h hangs.there in
      subst (IfThere (IsLink leads)) hangs.linked.there (entry_leads leads tree hangs.linked.directory hangs.linked.name are)
