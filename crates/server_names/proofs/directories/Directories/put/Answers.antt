use Rattle.std.proofs.Common.{◌∷◌, [], ◌++◌, ◌≡◌, ◌∙◌, OnOk, sym, ap, subst}
use Rattle.indexmap.specs.IndexMap.{insert_entry}
use Rattle.server_names.specs.Names.{Tree, Listed, is_at, parent, listed}
use Rattle.server_names.proofs.DirectoryLaws.{absent, put_there, none_there}
use Rattle.server_names.proofs.directories.Directories.put.Goals as goal

pub returns-in-Some-clause-ok : goal.returns-in-Some-clause-ok
returns-in-Some-clause-ok c =
    let directory = c.in_ok-directory.ensures ∙ c.parent.ensures in
    let part = c.in_ok-part.ensures ∙ c.last_of.ensures in
    let tree = c.args.self.now in
    let there = put_there tree c.in_ok-directory.directory c.in-Some.at c.in_ok-part.part c.args.entry (rw (← c.self.view_is) (sym c.in-Some.ensures.index)) in
    let is = there ∙ ap (λ d. listed tree d c.in_ok-part.part c.args.entry) directory ∙ ap (λ p. listed tree (parent c.args.path.now) p c.args.entry) part in
    subst (λ (t : Tree). OnOk c.push_at.result (c.push_at.new.self ≡ t)) is c.push_at.ensures.ok

pub returns-in-None-clause-ok : goal.returns-in-None-clause-ok
returns-in-None-clause-ok c =
    let directory = c.in_ok-directory.ensures ∙ c.parent.ensures in
    let part = c.in_ok-part.ensures ∙ c.last_of.ensures in
    let tree = c.args.self.now in
    let none = none_there tree c.in_ok-directory.directory (rw (← c.self.view_is) (absent _ c.in-None.ensures.found)) in
    let is = ap (λ (es : Listed). insert_entry is_at tree c.in_ok-directory.directory (es ++ (c.in_ok-part.part, c.args.entry) ∷ [])) (sym none)
    ∙ ap (λ d. listed tree d c.in_ok-part.part c.args.entry) directory ∙ ap (λ p. listed tree (parent c.args.path.now) p c.args.entry) part in
    subst (λ (t : Tree). OnOk c.begin.result (c.begin.new.self ≡ t)) is c.begin.ensures.ok
