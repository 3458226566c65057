-- A request is entered as a call of its process.
use Rattle.std.proofs.Common.{◌≡◌, ℕ, Bool, true, false, cond, List, [], Option, Some, None, Result, Ok, Err, refl, sym, ap, subst, ◌∙◌}
use Rattle.sprite_ids.specs.declared.Errno.{Errno}
use Rattle.sprite_ids.specs.declared.TxNo.{TxNo}
use Rattle.process_machine.specs.declared.Call.{Call}
use Rattle.process_machine.specs.declared.Reply.{Reply}
use Rattle.process_machine.specs.declared.Reply.TheVariants.{Value, Error}
use Rattle.packet_bodies.specs.declared.ReplyBody.{ReplyBody}
use Rattle.packet_bodies.specs.declared.ReplyBody.TheVariants as replies
use Rattle.packet_bodies.specs.declared.NameRequest.{NameRequest}
use Rattle.packet_bodies.specs.declared.ValueReply.{ValueReply}
use Rattle.kernel_steps.specs.Outs.{answered, noted}
use Rattle.unix_calls.specs.declared.Description.{Description}
use Rattle.unix_calls.specs.declared.Event.TheVariants.{Enter}
use Rattle.unix_calls.specs.declared.state.Process.{Process}
use Rattle.unix_calls.specs.declared.state.Named.{Named as NamedNode}
use Rattle.unix_calls.specs.State.{Unix, with_process}
use Rattle.unix_calls.specs.Domains.{begins_domain}
use Rattle.unix_calls.specs.Tree.{same_path}
use Rattle.unix_calls.specs.Answers.{Answered, refuses, replied}
use Rattle.unix_calls.specs.After.{after, counted, outcome}
use Rattle.server_names.specs.Names.{Tree}
use Rattle.server_names.proofs.FoundLaws.{path_is}
use Rattle.server_kernel.specs.declared.Domain.{Domain}
use Rattle.server_kernel.specs.declared.Server.{Server}
use Rattle.server_kernel.specs.Directory.{with_domain}
use Rattle.server_kernel.specs.Names.{gives_name, name_call, names, refuses_name}
use Rattle.home_laws.specs.Calls.{Calls, call_entry}
use Rattle.home_laws.proofs.EntryLaws.{answered as answered_so, called_by, called_in, opened}
use Rattle.tree_laws.specs.Trees.{AreNames, Parts, Ties}
use Rattle.flat_tree.specs.Listings.{AreAscending}
use Rattle.flat_tree.specs.Requests.{Trees, unless, with_tree}
use Rattle.flat_tree.specs.Runs.{AreOneTree}
use Rattle.flat_tree.proofs.FileLaws.{one_like}
use Rattle.name_laws.specs.Deeds.{Caller, Entered, Goes}
use Rattle.name_laws.specs.Served.{AreKept, Serves}
use Rattle.name_laws.proofs.KeptLaws.{Here, beside_changed, domains_changed, kept_same, kept_set}

-- ---- an answered call

pub entry_made : (c : Description) (u : Unix) (pid number : ℕ) (called : Call) (reply : Reply) (later : Unix) (calls : Calls c u pid number called) → outcome c (called_in calls) (called_by calls) called ≡ Answered reply later
    → after c u (call_entry pid number called reply) ≡ Some (counted later)
entry_made c u pid number called reply later calls is = opened c u later pid number called reply calls (answered_so c (called_in calls) later (called_by calls) called reply calls.may.idle is)

-- a state whose names and roots are those of another one
pub one_as : (ties : Ties) (u v : Unix) (trees : Trees) → v.nodes ≡ u.nodes → v.roots ≡ u.roots → AreOneTree ties u trees → AreOneTree ties v trees
one_as ties u v trees nodes roots one =
    record {
      names = λ k is. subst (λ (rs : List Parts). AreNames ties rs k v.nodes (trees k)) (sym roots) (subst (λ (ns : List NamedNode). AreNames ties u.roots k ns (trees k)) (sym nodes) (one.names k (ap (λ (rs : List Parts). begins_domain rs k) (sym roots) ∙ is)));
      sound = λ k is. one.sound k (ap (λ (rs : List Parts). begins_domain rs k) (sym roots) ∙ is);
      ascending = subst (λ (ns : List NamedNode). AreAscending ns) (sym nodes) one.ascending;
      whole = ap (λ (rs : List Parts). begins_domain rs []) roots ∙ one.whole;
    }

-- the server whose names stay, behind an entry that changes none
pub stays : (ties : Ties) (c : Description) (u : Unix) (trees : Trees) (path : Parts) (caller : Caller) (s next : Server) (h : Here u.roots trees path s) (reply : Reply) (body : ReplyBody) (later : Unix)
    → Serves ties u trees s → after c u (call_entry caller.pid caller.number caller.called reply) ≡ Some later → later.nodes ≡ u.nodes → later.roots ≡ u.roots
    → next.domains ≡ s.domains → next.roots ≡ s.roots → next.out ≡ answered caller.tx body (noted (Enter (call_entry caller.pid caller.number caller.called reply)) s.out)
    → Goes ties c u trees h.domain.root path caller s next
stays ties c u trees path caller s next h reply body later serves entered nodes roots domains more out =
    Entered (record {
      reply = reply;
      body = body;
      later = later;
      tree = trees h.domain.root;
      entered = entered;
      serves = record {
        one = one_as ties u later (with_tree h.domain.root (trees h.domain.root) trees) nodes roots (one_like ties u trees (with_tree h.domain.root (trees h.domain.root) trees) serves.one (λ k begun. same k));
        roots = more ∙ serves.roots ∙ sym roots;
        kept = subst (λ (rs : List Parts). AreKept rs (with_tree h.domain.root (trees h.domain.root) trees) next.domains) (sym roots)
            (subst (λ (ds : List Domain). AreKept u.roots (with_tree h.domain.root (trees h.domain.root) trees) ds) (sym domains) (kept_same u.roots trees path s h serves.kept));
      };
      out = out;
    })
  where
    same : (k : Parts) → trees k ≡ with_tree h.domain.root (trees h.domain.root) trees k
    same k = at (same_path k h.domain.root) refl
      where
        at : (b : Bool) → same_path k h.domain.root ≡ b → trees k ≡ cond b (trees h.domain.root) (trees k)
        at true e = ap trees (path_is k h.domain.root e)
        at false e = refl

-- a refusal
pub refuses_go : (ties : Ties) (c : Description) (u : Unix) (trees : Trees) (s : Server) (tx : TxNo) (r : NameRequest) (why : Errno) (h : Here u.roots trees r.path s) → Serves ties u trees s → (calls : Calls c u r.pid r.number (name_call r))
    → outcome c (called_in calls) (called_by calls) (name_call r) ≡ refuses c (called_in calls) (called_by calls) why
    → Goes ties c u trees h.domain.root r.path (record { tx = tx; pid = r.pid; number = r.number; called = name_call r }) s (refuses_name tx r why s)
refuses_go ties c u trees s tx r why h serves calls is =
    stays ties c u trees r.path (record { tx = tx; pid = r.pid; number = r.number; called = name_call r }) s (refuses_name tx r why s) h (Error why) (replies.Refused why) (counted (with_process (replied c (called_by calls) (Error why)) (called_in calls)))
    serves (entry_made c u r.pid r.number (name_call r) (Error why) (with_process (replied c (called_by calls) (Error why)) (called_in calls)) calls is) refl refl refl refl refl

-- a value that changes no names
pub gives_go : (ties : Ties) (c : Description) (u : Unix) (trees : Trees) (s : Server) (tx : TxNo) (r : NameRequest) (given : ValueReply) (h : Here u.roots trees r.path s) → Serves ties u trees s → (calls : Calls c u r.pid r.number (name_call r)) (p : Process)
    → outcome c (called_in calls) (called_by calls) (name_call r) ≡ Answered (Value given.first given.second given.bytes) (with_process p (called_in calls))
    → Goes ties c u trees h.domain.root r.path (record { tx = tx; pid = r.pid; number = r.number; called = name_call r }) s (gives_name tx r given s)
gives_go ties c u trees s tx r given h serves calls p is =
    stays ties c u trees r.path (record { tx = tx; pid = r.pid; number = r.number; called = name_call r }) s (gives_name tx r given s) h (Value given.first given.second given.bytes) (replies.Value given) (counted (with_process p (called_in calls)))
    serves (entry_made c u r.pid r.number (name_call r) (Value given.first given.second given.bytes) (with_process p (called_in calls)) calls is) refl refl refl refl refl

-- a change of the names of one domain
pub changes_go : (ties : Ties) (c : Description) (u : Unix) (trees : Trees) (path : Parts) (caller : Caller) (s next : Server) (h : Here u.roots trees path s) (change : Domain → Domain) (tree : Tree) (reply : Reply) (body : ReplyBody) (later : Unix)
    → Serves ties u trees s → after c u (call_entry caller.pid caller.number caller.called reply) ≡ Some later → AreOneTree ties later (with_tree h.domain.root tree trees) → later.roots ≡ u.roots
    → (change h.domain).root ≡ h.domain.root → (change h.domain).names ≡ tree → next.domains ≡ (with_domain path change s).domains → next.roots ≡ (with_domain path change s).roots
    → next.out ≡ answered caller.tx body (noted (Enter (call_entry caller.pid caller.number caller.called reply)) (with_domain path change s).out)
    → Goes ties c u trees h.domain.root path caller s next
changes_go ties c u trees path caller s next h change tree reply body later serves entered one roots same_root names domains more out =
    let beside = beside_changed path s change in
    Entered (record {
      reply = reply;
      body = body;
      later = later;
      tree = tree;
      entered = entered;
      serves = record {
        one = one;
        roots = more ∙ beside.roots ∙ serves.roots ∙ sym roots;
        kept = subst (λ (rs : List Parts). AreKept rs (with_tree h.domain.root tree trees) next.domains) (sym roots)
            (subst (λ (ds : List Domain). AreKept u.roots (with_tree h.domain.root tree trees) ds) (sym (domains ∙ domains_changed u.roots trees path s h change))
            (kept_set u.roots trees tree s.domains h.at h.domain (change h.domain) h.got same_root names serves.kept));
      };
      out = out ∙ ap (λ o. answered caller.tx body (noted (Enter (call_entry caller.pid caller.number caller.called reply)) o)) beside.out;
    })

-- ---- what a row says

pub none_of : {A : Type 0} (refusal : Option Errno) (x y : A) → unless refusal x ≡ Ok y → (refusal ≡ None) × (x ≡ y)
none_of {A} None x y h = (refl, by h)
  where
    by : ◌≡◌ {A = Result A Errno} (Ok x) (Ok y) → x ≡ y
    by h = cc
none_of (Some why) x y h = absurd (cc)

pub refusal_of : {A : Type 0} (refusal : Option Errno) (x : A) (why : Errno) → unless refusal x ≡ Err why → refusal ≡ Some why
refusal_of None x why h = absurd (cc)
refusal_of {A} (Some other) x why h = ap Some (by h)
  where
    by : ◌≡◌ {A = Result A Errno} (Err other) (Err why) → other ≡ why
    by h = cc
