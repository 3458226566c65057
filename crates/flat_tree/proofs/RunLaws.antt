-- Any list of requests on names.
use Rattle.std.proofs.Common.{◌≡◌, true, List, [], ◌∷◌, Option, Some, None, Result, Ok, Err, refl, sym, ap, subst, ◌∙◌}
use Rattle.sprite_paths.specs.Path.{IsPrefix}
use Rattle.unix_calls.specs.declared.state.Node.{Node as UnixNode}
use Rattle.unix_calls.specs.State.{Unix}
use Rattle.unix_calls.specs.Domains.{begins_domain}
use Rattle.unix_calls.specs.NameCalls.{moved_to}
use Rattle.unix_calls.specs.Tree.{node_at}
use Rattle.server_names.specs.declared.NameEnd.{NameEnd}
use Rattle.server_names.specs.Names.{IsSound, make_answer}
use Rattle.tree_laws.specs.Trees.{AreNames, Parts, Ties}
use Rattle.flat_tree.specs.Requests.{AsOne, Counts, Finds, Given, IsAnswer, Lists, Makes, Removes, Renames, Request, Trees, is_done, path_of, remove_at, rename_at, row, trees_after, unix_after, with_tree}
use Rattle.flat_tree.specs.Runs.{AnsweredAsOne, Answered, AreOneTree, Asked}
use Rattle.flat_tree.proofs.AnswerLaws.{counts, finds, lists, makes, removes}
use Rattle.flat_tree.proofs.DoneLaws.{each_tree, made_one, removed_one, renamed_one}
use Rattle.flat_tree.proofs.RenameAnswerLaws.{renames}

done_ok : {A : Type 0} (r : Result A NameEnd) (given : Given) → is_done r ≡ Ok given → (x : A) × (r ≡ Ok x)
done_ok (Ok x) given h = (x, refl)
done_ok (Err end) given h = absurd (cc)

-- an answer is the one-kernel Unix's
asked_as : (ties : Ties) (u : Unix) (root : Parts) (trees : Trees) (request : Request) (answer : Result Given NameEnd) → AreOneTree ties u trees → begins_domain u.roots root ≡ true → IsPrefix root (path_of request) → IsAnswer u.roots root (trees root) request answer
    → AsOne u.roots root (path_of request) answer (row ties u request)
asked_as ties u root trees (Finds path) answer one begins below is = subst (λ a. AsOne u.roots root path a (row ties u (Finds path))) (sym is) (finds ties u root (trees root) path (one.names root begins) below)
asked_as ties u root trees (Counts path) answer one begins below is = subst (λ a. AsOne u.roots root path a (row ties u (Counts path))) (sym is) (counts ties u root (trees root) path (one.names root begins) below)
asked_as ties u root trees (Lists path) answer one begins below is = lists ties u root (trees root) path answer (one.names root begins) (one.sound root begins) one.ascending below is
asked_as ties u root trees (Makes path node) answer one begins below is = subst (λ a. AsOne u.roots root path a (row ties u (Makes path node))) (sym is) (makes ties u root (trees root) path node (one.names root begins) below)
asked_as ties u root trees (Removes path directory) answer one begins below is = subst (λ a. AsOne u.roots root path a (row ties u (Removes path directory))) (sym is) (removes ties u root trees path directory one begins below)
asked_as ties u root trees (Renames old new) answer one begins below is = subst (λ a. AsOne u.roots root old a (row ties u (Renames old new))) (sym is) (renames ties u root (trees root) old new (one.names root begins) one.whole begins below)

-- a request that changes nothing
same_one : (ties : Ties) (u : Unix) (root : Parts) (trees : Trees) → AreOneTree ties u trees → begins_domain u.roots root ≡ true → AreOneTree ties u (with_tree root (trees root) trees)
same_one ties u root trees one begins =
    record {
      names = each_tree (λ k t. AreNames ties u.roots k u.nodes t) u.roots root (trees root) trees (one.names root begins) (λ other too apart. one.names other too);
      sound = each_tree (λ k t. IsSound t) u.roots root (trees root) trees (one.sound root begins) (λ other too apart. one.sound other too);
      ascending = one.ascending;
      whole = one.whole;
    }

-- and the names are still one tree's
asked_goes : (ties : Ties) (u : Unix) (root : Parts) (trees : Trees) (request : Request) (answer : Result Given NameEnd) → AreOneTree ties u trees → begins_domain u.roots root ≡ true → IsPrefix root (path_of request) → IsAnswer u.roots root (trees root) request answer
    → AreOneTree ties (unix_after u request answer) (trees_after ties trees root request answer)
asked_goes ties u root trees request (Err end) one begins below is = one
asked_goes ties u root trees (Finds path) (Ok given) one begins below is = same_one ties u root trees one begins
asked_goes ties u root trees (Counts path) (Ok given) one begins below is = same_one ties u root trees one begins
asked_goes ties u root trees (Lists path) (Ok given) one begins below is = same_one ties u root trees one begins
asked_goes ties u root trees (Makes path node) (Ok given) one begins below is = made_one ties u root trees path node one begins below (done_ok (make_answer (trees root) path) given (sym is)).1
asked_goes ties u root trees (Removes path directory) (Ok given) one begins below is =
    let node = done_ok (remove_at root (trees root) path directory) given (sym is) in removed_one ties u root trees path directory node.0 one begins below node.1
asked_goes ties u root trees (Renames old new) (Ok given) one begins below is = renamed_one ties u root trees old new one begins below (done_ok (rename_at u.roots (trees root) old new) given (sym is)).1

moved_roots : (u : Unix) (old new : Parts) (o : Option UnixNode) → (moved_to old new o u).roots ≡ u.roots
moved_roots u old new None = refl
moved_roots u old new (Some node) = refl

roots_after : (u : Unix) (request : Request) (answer : Result Given NameEnd) → (unix_after u request answer).roots ≡ u.roots
roots_after u request (Err end) = refl
roots_after u (Finds path) (Ok given) = refl
roots_after u (Counts path) (Ok given) = refl
roots_after u (Lists path) (Ok given) = refl
roots_after u (Makes path node) (Ok given) = refl
roots_after u (Removes path directory) (Ok given) = refl
roots_after u (Renames old new) (Ok given) = moved_roots u old new (node_at u.nodes old)

pub all_as_one : (ties : Ties) (roots : List Parts) (all : List Asked) (u : Unix) (trees : Trees) → AreOneTree ties u trees → u.roots ≡ roots → Answered ties roots trees all → AnsweredAsOne ties u all
all_as_one ties roots [] u trees one e h = tt
all_as_one ties roots (asked ∷ more) u trees one e h =
    let begins : begins_domain u.roots asked.root ≡ true = ap (λ (rs : List Parts). begins_domain rs asked.root) e ∙ h.0.begins in
    let is : IsAnswer u.roots asked.root (trees asked.root) asked.request asked.answer = subst (λ (rs : List Parts). IsAnswer rs asked.root (trees asked.root) asked.request asked.answer) (sym e) h.1.0 in (
      asked_as ties u asked.root trees asked.request asked.answer one begins h.0.prefix is,
      all_as_one ties roots more (unix_after u asked.request asked.answer) (trees_after ties trees asked.root asked.request asked.answer)
          (asked_goes ties u asked.root trees asked.request asked.answer one begins h.0.prefix is) (roots_after u asked.request asked.answer ∙ e) h.1.1,
    )
