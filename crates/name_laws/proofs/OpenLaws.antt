-- Requests that make a stream.
use Rattle.std.proofs.Common.{◌≡◌, ◌==◌, ℕ, Bool, true, false, ◌&&◌, ◌||◌, cond, nat_le, not, List, [], Option, Some, None, Result, Ok, Err, inl, inr, refl, sym, ap, ap₂, subst, ◌∙◌}
use Rattle.std.specs.Prelude.{◌%◌, ◌⊎◌}
use Rattle.std.specs.List.{position}
use Rattle.std.specs.Option.{is_some, option_and_then}
use Rattle.std.proofs.lemmas.Bool.{true≢false}
use Rattle.sprite_ids.specs.declared.Errno.{Errno}
use Rattle.sprite_ids.specs.declared.Errno.TheVariants as errno
use Rattle.sprite_ids.specs.declared.FileId.{FileId}
use Rattle.sprite_ids.specs.declared.DeviceId.{DeviceId}
use Rattle.sprite_ids.specs.declared.Mode.{Mode}
use Rattle.sprite_ids.specs.declared.Mode.TheVariants as mode
use Rattle.sprite_ids.proofs.ListLaws.{some_is}
use Rattle.process_machine.specs.declared.Call.TheVariants as call
use Rattle.process_machine.specs.declared.Reply.TheVariants.{Value, Error}
use Rattle.packet_bodies.specs.declared.MakeRequest.{MakeRequest}
use Rattle.packet_bodies.specs.declared.OpeningRequest.{OpeningRequest}
use Rattle.packet_bodies.specs.declared.Request.{Request}
use Rattle.packet_bodies.specs.declared.ReplyBody.TheVariants as replies
use Rattle.packet_bodies.specs.declared.Target.TheVariants as targets
use Rattle.unix_calls.specs.declared.Description.{Description}
use Rattle.unix_calls.specs.declared.state.FileName.TheVariants.{Made}
use Rattle.unix_calls.specs.declared.state.Flags.{Flags}
use Rattle.unix_calls.specs.declared.state.Node.{Node as UnixNode}
use Rattle.unix_calls.specs.declared.state.Node.TheVariants.{Directory, FileNode, DeviceNode}
use Rattle.unix_calls.specs.declared.state.Object.TheVariants.{OfDevice, OfFile, OfMaster}
use Rattle.unix_calls.specs.State.{Unix, with_process}
use Rattle.unix_calls.specs.Tree.{above, first_of, is_full, node_at, walk}
use Rattle.unix_calls.specs.NameCalls.{missing, new_refusal, refusal_if, named as unix_named, with_path}
use Rattle.unix_calls.specs.Opening.{at_descriptor, flags_of, make_at, make_with, open_at, open_by, open_node, open_with, opened as unix_opened, with_new_device, with_new_file, with_new_stream, writes}
use Rattle.unix_calls.specs.Answers.{refuses as unix_refuses, replied, unless_refused, value as unix_value}
use Rattle.unix_calls.specs.After.{counted, outcome}
use Rattle.server_names.specs.declared.NameEnd.{NameEnd}
use Rattle.server_names.specs.declared.NameEnd.TheVariants.{Errno as Refused, Redirect, NoMemory}
use Rattle.server_names.specs.declared.Node.{Node}
use Rattle.server_names.specs.declared.Node.TheVariants.{File, Device}
use Rattle.server_names.specs.Names.{Tree, found, made, make_answer}
use Rattle.file_store.specs.Files.{is_there, with_new}
use Rattle.server_kernel.specs.declared.Asked.{Asked}
use Rattle.server_kernel.specs.declared.Domain.{Domain}
use Rattle.server_kernel.specs.declared.Server.{Server}
use Rattle.server_kernel.specs.Directory.{found_by, make_by, make_in, has_path, made_domain, with_change, with_made}
use Rattle.server_kernel.specs.Files.{made_file}
use Rattle.server_kernel.specs.Grants.{decides}
use Rattle.server_kernel.specs.Flags.{has_bit as bit_of, opening_mode}
use Rattle.server_kernel.specs.Names.{makes_device, makes_device_by, names, refuses_device}
use Rattle.server_kernel.specs.Opens.{opening_of, counts_file, creates_by, creates_file, is_no_entry, new_file, opens, opens_device, opens_found, opens_node, opens_with, refuses_open}
use Rattle.server_kernel.specs.Served.{serves, serves_by}
use Rattle.server_kernel.specs.Waits.{first_about, serves_first, turned}
use Rattle.home_laws.proofs.EntryLaws.{called_by, called_in}
use Rattle.tree_laws.specs.Trees.{AreNames, Parts, Ties, plain}
use Rattle.flat_tree.specs.Requests.{AsOne, Done, Finds, Is, Makes as MakesName, Trees, given_by, is_done, row, stands, with_tree}
use Rattle.flat_tree.proofs.AnswerLaws.{finds, makes}
use Rattle.flat_tree.proofs.DoneLaws.{made_one}
use Rattle.name_laws.specs.Deeds.{Caller, Goes, SentOn}
use Rattle.name_laws.specs.Laws.{GoesSomewhere, caller_of}
use Rattle.name_laws.specs.Opens.{Asks, Ends, MakeFits, Makes, MakesGo, OpenFits, OpenGoes, OpensGo, WaitersGo, without_first}
use Rattle.name_laws.specs.Served.{AreKept, Serves}
use Rattle.name_laws.proofs.GoLaws.{changes_go, entry_made, none_of, one_as, refusal_of, stays}
use Rattle.name_laws.proofs.KeptLaws.{Here, domain_is, domains_changed, here, kept_set}
use Rattle.name_laws.proofs.NameLaws.{both_none, is_same, names_go, refused_so}

-- ---- a device

module _ (ties : Ties) (c : Description) (u : Unix) (trees : Trees) (s : Server) (asked : Asked) (r : MakeRequest) (serves : Serves ties u trees s) (fits : MakeFits ties c u s r) (h : Here u.roots trees r.path s) where
  abbrev maker : Caller
  maker = record { tx = asked.tx; pid = r.pid; number = r.number; called = call.PdMake r.text }

  abbrev Led : Server → Type 0
  Led next = Goes ties c u trees h.domain.root r.path maker s next

  make_is : outcome c (called_in fits.calls) (called_by fits.calls) (call.PdMake r.text) ≡ unless_refused c (called_in fits.calls) (called_by fits.calls) (new_refusal u r.path) (unix_opened c (with_new_device r.path (called_in fits.calls)) (called_by fits.calls) r.fd (OfMaster u.entries) mode.Both false)
  make_is =
      ap (λ o. make_with c (called_in fits.calls) (called_by fits.calls) o r.text) fits.free
      ∙ ap (λ o. with_path c (called_in fits.calls) (called_by fits.calls) o (make_at c (called_in fits.calls) (called_by fits.calls) r.fd)) fits.path

  make_by_answer : (x : Result (Unit {0}) NameEnd) → make_answer (trees h.domain.root) r.path ≡ x → AsOne u.roots h.domain.root r.path (is_done x) (row ties u (MakesName r.path (DeviceNode u.entries))) → Led (makes_device_by asked.tx r x s)
  make_by_answer (Ok tt) is a =
      let later = with_process (replied c (at_descriptor (with_new_device r.path (called_in fits.calls)) r.fd (called_by fits.calls)) (unix_value r.fd)) (with_new_stream (OfMaster u.entries) mode.Both false (with_new_device r.path (called_in fits.calls))) in
      let none = (none_of (new_refusal u r.path) Done Done a).0 in
      changes_go ties c u trees r.path maker s (makes_device_by asked.tx r (Ok tt) s) h (made_domain r.path (Device r.device)) (made (trees h.domain.root) r.path (Device (ties.device u.entries))) (Value r.fd 0 []) (replies.Value (record { first = r.fd; second = 0; bytes = [] })) (counted later) serves
      (entry_made c u r.pid r.number (call.PdMake r.text) (Value r.fd 0 []) later fits.calls
      (make_is ∙ ap (λ o. unless_refused c (called_in fits.calls) (called_by fits.calls) o (unix_opened c (with_new_device r.path (called_in fits.calls)) (called_by fits.calls) r.fd (OfMaster u.entries) mode.Both false)) none))
      (one_as ties (unix_named r.path (DeviceNode u.entries) u) (counted later) (with_tree h.domain.root (made (trees h.domain.root) r.path (Device (ties.device u.entries))) trees) refl refl
      (made_one ties u h.domain.root trees r.path (DeviceNode u.entries) serves.one h.begins h.prefix is))
      refl refl (ap₂ (λ (t : Tree) (d : DeviceId). made t r.path (Device d)) h.names (sym fits.tie)) refl refl refl
  make_by_answer (Err (Refused why)) is a =
      stays ties c u trees r.path maker s (refuses_device asked.tx r why s) h (Error why) (replies.Refused why) (counted (with_process (replied c (called_by fits.calls) (Error why)) (called_in fits.calls))) serves
      (entry_made c u r.pid r.number (call.PdMake r.text) (Error why) (with_process (replied c (called_by fits.calls) (Error why)) (called_in fits.calls)) fits.calls
      (make_is ∙ refused_so c (called_in fits.calls) (called_by fits.calls) (new_refusal u r.path) (unix_opened c (with_new_device r.path (called_in fits.calls)) (called_by fits.calls) r.fd (OfMaster u.entries) mode.Both false) why (refusal_of (new_refusal u r.path) Done why a)))
      refl refl refl refl refl
  make_by_answer (Err (Redirect to)) is a = SentOn to a refl
  make_by_answer (Err NoMemory) is a = absurd a

  make_goes : Led (makes_device asked.tx r s)
  make_goes =
      subst (λ x. Led (makes_device_by asked.tx r x s)) (sym (ap (make_by r.path) (domain_is u.roots trees r.path s h) ∙ ap (λ (t : Tree). make_answer t r.path) h.names))
      (make_by_answer (make_answer (trees h.domain.root) r.path) refl (makes ties u h.domain.root (trees h.domain.root) r.path (DeviceNode u.entries) (serves.one.names h.domain.root h.begins) h.prefix))

pub makes_go : MakesGo
makes_go ties c u trees s asked r serves fits =
    let h = here u.roots trees r.path s serves.kept fits.here in
    record { root = h.domain.root; prefix = h.prefix; goes = make_goes ties c u trees s asked r serves fits h }

-- ---- the flags of an open

-- what lawful flags say, on both sides
pub record FlagsSo (n : ℕ) (flags : Flags) : Type 0 where
  pub mode_is : opening_mode n ≡ Some flags.mode
  pub creates_is : bit_of 4 n ≡ flags.creates

abbrev flag_list : Bool → Bool → Bool → Bool → Bool → Bool → Bool → Bool → Option Flags
flag_list big one two three cut creates truncates appends =
    cond big None (option_and_then (λ m. cond (cut && not (writes m)) None (Some (record { mode = m; creates = creates; truncates = truncates; appends = appends })))
    (cond one (Some mode.Read) (cond two (Some mode.Write) (cond three (Some mode.Both) None))))

abbrev mode_list : Bool → Bool → Bool → Bool → Bool → Option Mode
mode_list big one two three cut = cond big None (cond (one && cut) None (cond one (Some mode.Read) (cond two (Some mode.Write) (cond three (Some mode.Both) None))))

flag_fields : (a flags : Flags) → Some a ≡ Some flags → (Some a.mode ≡ Some flags.mode) × (a.creates ≡ flags.creates)
flag_fields a flags h = let e = some_is a flags h in (ap (λ (f : Flags). Some f.mode) e, ap (λ (f : Flags). f.creates) e)

flag_cases : (big one two three cut creates truncates appends : Bool) (flags : Flags) → flag_list big one two three cut creates truncates appends ≡ Some flags → (mode_list big one two three cut ≡ Some flags.mode) × (creates ≡ flags.creates)
flag_cases true one two three cut creates truncates appends flags h = absurd (cc)
flag_cases false true two three true creates truncates appends flags h = absurd (cc)
flag_cases false true two three false creates truncates appends flags h = flag_fields (record { mode = mode.Read; creates = creates; truncates = truncates; appends = appends }) flags h
flag_cases false false true three true creates truncates appends flags h = flag_fields (record { mode = mode.Write; creates = creates; truncates = truncates; appends = appends }) flags h
flag_cases false false true three false creates truncates appends flags h = flag_fields (record { mode = mode.Write; creates = creates; truncates = truncates; appends = appends }) flags h
flag_cases false false false true true creates truncates appends flags h = flag_fields (record { mode = mode.Both; creates = creates; truncates = truncates; appends = appends }) flags h
flag_cases false false false true false creates truncates appends flags h = flag_fields (record { mode = mode.Both; creates = creates; truncates = truncates; appends = appends }) flags h
flag_cases false false false false cut creates truncates appends flags h = absurd (cc)

flags_so : (n : ℕ) (flags : Flags) → flags_of n ≡ Some flags → FlagsSo n flags
flags_so n flags h =
    let two = flag_cases (nat_le 32 n) (n % 4 == 1) (n % 4 == 2) (n % 4 == 3) (bit_of 8 n || bit_of 16 n) (bit_of 4 n) (bit_of 8 n) (bit_of 16 n) flags h in
    record { mode_is = two.0; creates_is = two.1 }

-- ---- an open, up to its grant

-- what the making of an empty file leaves
made_domains : (file : FileId) (s : Server) → (made_file file s).domains ≡ s.domains
made_domains file s = by (is_there s.store.files file)
  where
    by : (b : Bool) → (cond b s (record s { store = record s.store { files = with_new s.store.files file } })).domains ≡ s.domains
    by true = refl
    by false = refl

-- the next file is numbered as before
new_same : (path : Parts) (node : Node) (s : Server) → new_file (with_made path node s) ≡ new_file s
new_same path node s = by (position (has_path path) s.domains)
  where
    by : (o : Option ℕ) → new_file (with_change (made_domain path node) o s) ≡ new_file s
    by None = refl
    by (Some at) = refl

-- why nothing is opened where nothing stands
absent_refused : (w : Option Errno) (o : Option UnixNode) (why : Errno) → first_of w (missing o) ≡ Some why → (w ≡ Some why) ⊎ ((w ≡ None) × ((o ≡ None) × (errno.NoEntry ≡ why)))
absent_refused (Some e) o why h = inl h
absent_refused None None why h = inr (refl, (refl, some_is errno.NoEntry why h))
absent_refused None (Some x) why h = absurd (cc)

-- why no file can be made there
new_refused : (w : Option Errno) (o : Option UnixNode) (full : Bool) (e : Errno) → o ≡ None → first_of w (first_of (refusal_if (is_some o) errno.Exists) (refusal_if full errno.TooMany)) ≡ Some e → (w ≡ Some e) ⊎ ((w ≡ None) × (refusal_if full errno.TooMany ≡ Some e))
new_refused (Some x) o full e none h = inl h
new_refused None None full e none h = inr (refl, h)
new_refused None (Some x) full e none h = absurd (cc)

new_free : (w : Option Errno) (b full : Bool) → first_of w (first_of (refusal_if b errno.Exists) (refusal_if full errno.TooMany)) ≡ None → (w ≡ None) × ((b ≡ false) × (full ≡ false))
new_free None false false h = (refl, (refl, refl))
new_free None false true h = absurd (cc)
new_free None true full h = absurd (cc)
new_free (Some e) b full h = absurd (cc)

module _ (ties : Ties) (c : Description) (u : Unix) (trees : Trees) (s : Server) (asked : Asked) (r : OpeningRequest) (serves : Serves ties u trees s) (fits : OpenFits ties c u s r) (h : Here u.roots trees r.path s) where
  abbrev opener : Caller
  opener = record { tx = asked.tx; pid = r.pid; number = r.number; called = call.OpenFile r.text r.flags }

  abbrev Opened : Server → Type 0
  Opened next = OpenGoes ties c u trees h.domain.root opener asked r fits.flags s next

  the_names : AreNames ties u.roots h.domain.root u.nodes (trees h.domain.root)
  the_names = serves.one.names h.domain.root h.begins

  said : FlagsSo r.flags fits.flags
  said = flags_so r.flags fits.flags fits.lawful

  open_is : outcome c (called_in fits.calls) (called_by fits.calls) (call.OpenFile r.text r.flags) ≡ unless_refused c (called_in fits.calls) (called_by fits.calls) (walk u.nodes r.path) (open_node c (called_in fits.calls) (called_by fits.calls) r.fd fits.flags r.path (node_at u.nodes r.path))
  open_is =
      ap (λ o. open_by c (called_in fits.calls) (called_by fits.calls) o r.text) fits.lawful
      ∙ ap (λ o. open_with c (called_in fits.calls) (called_by fits.calls) o fits.flags r.text) fits.free
      ∙ ap (λ o. with_path c (called_in fits.calls) (called_by fits.calls) o (open_at c (called_in fits.calls) (called_by fits.calls) r.fd fits.flags)) fits.path

  open_refused : (why : Errno) → outcome c (called_in fits.calls) (called_by fits.calls) (call.OpenFile r.text r.flags) ≡ unix_refuses c (called_in fits.calls) (called_by fits.calls) why → Opened (refuses_open asked.tx r why s)
  open_refused why is =
      Ends (stays ties c u trees r.path opener s (refuses_open asked.tx r why s) h (Error why) (replies.Refused why) (counted (with_process (replied c (called_by fits.calls) (Error why)) (called_in fits.calls))) serves
      (entry_made c u r.pid r.number (call.OpenFile r.text r.flags) (Error why) (with_process (replied c (called_by fits.calls) (Error why)) (called_in fits.calls)) fits.calls is) refl refl refl refl refl)

  -- at a path where the walk goes, and at what stands there
  open_there : (o : Option UnixNode) → walk u.nodes r.path ≡ None → node_at u.nodes r.path ≡ o → outcome c (called_in fits.calls) (called_by fits.calls) (call.OpenFile r.text r.flags) ≡ open_node c (called_in fits.calls) (called_by fits.calls) r.fd fits.flags r.path o
  open_there o way there = open_is ∙ ap₂ (λ a n. unless_refused c (called_in fits.calls) (called_by fits.calls) a (open_node c (called_in fits.calls) (called_by fits.calls) r.fd fits.flags r.path n)) way there

  stopped : (why : Errno) → walk u.nodes r.path ≡ Some why → outcome c (called_in fits.calls) (called_by fits.calls) (call.OpenFile r.text r.flags) ≡ unix_refuses c (called_in fits.calls) (called_by fits.calls) why
  stopped why is = open_is ∙ refused_so c (called_in fits.calls) (called_by fits.calls) (walk u.nodes r.path) (open_node c (called_in fits.calls) (called_by fits.calls) r.fd fits.flags r.path (node_at u.nodes r.path)) why is

  node_opened : (x : UnixNode) (node : Node) → walk u.nodes r.path ≡ None → node_at u.nodes r.path ≡ Some x → plain ties x ≡ node → Opened (opens_node asked r fits.flags.mode node s)
  node_opened Directory node way there same =
      subst (λ n. Opened (opens_node asked r fits.flags.mode n s)) same (open_refused errno.IsDir (open_there (Some Directory) way there))
  node_opened (FileNode name) node way there same =
      subst (λ n. Opened (opens_node asked r fits.flags.mode n s)) same (Asks (record { name = name; there = there; next_is = refl }))
  node_opened (DeviceNode place) node way there same =
      let later = with_process (replied c (at_descriptor (called_in fits.calls) r.fd (called_by fits.calls)) (unix_value r.fd)) (with_new_stream (OfDevice place) fits.flags.mode fits.flags.appends (called_in fits.calls)) in
      subst (λ n. Opened (opens_node asked r fits.flags.mode n s)) same
      (Ends (stays ties c u trees r.path opener s (opens_device asked.tx r (ties.device place) s) h (Value r.fd 0 []) (replies.Opened (record { object = targets.Device (ties.device place); grant = None; size = 0 })) (counted later) serves
      (entry_made c u r.pid r.number (call.OpenFile r.text r.flags) (Value r.fd 0 []) later fits.calls (open_there (Some (DeviceNode place)) way there)) refl refl refl refl refl))

  -- a file is made
  file_made : node_at u.nodes r.path ≡ None → fits.flags.creates ≡ true → (x : Result (Unit {0}) NameEnd) → make_answer (trees h.domain.root) r.path ≡ x → AsOne u.roots h.domain.root r.path (is_done x) (row ties u (MakesName r.path (FileNode (Made u.entries)))) → Opened (creates_by asked r fits.flags.mode x s)
  file_made none creates (Ok tt) is a =
      let free = new_free (walk u.nodes r.path) (is_some (node_at u.nodes r.path)) (is_full u.nodes (above r.path)) (none_of (new_refusal u r.path) Done Done a).0 in
      let tree = made (trees h.domain.root) r.path (File (ties.file (Made u.entries))) in
      let named_s = with_made r.path (File (new_file s)) s in
      Makes (record {
        way = free.0;
        free = none;
        asked_for = creates;
        room = free.1.1;
        tree = tree;
        between = counts_file (made_file (new_file s) named_s);
        one = made_one ties u h.domain.root trees r.path (FileNode (Made u.entries)) serves.one h.begins h.prefix is;
        kept = subst (λ (ds : List Domain). AreKept u.roots (with_tree h.domain.root tree trees) ds) (sym (made_domains (new_file s) named_s ∙ domains_changed u.roots trees r.path s h (made_domain r.path (File (new_file s)))))
            (kept_set u.roots trees tree s.domains h.at h.domain (made_domain r.path (File (new_file s)) h.domain) h.got refl (ap₂ (λ (t : Tree) (f : FileId). made t r.path (File f)) h.names (sym fits.tie)) serves.kept);
        between_is = refl;
        next_is = ap (λ (f : FileId). decides asked f (opening_of asked.from r fits.flags.mode) (counts_file (made_file f named_s))) (new_same r.path (File (new_file s)) s);
      })
  file_made none creates (Err (Refused why)) is a =
      elim (new_refused (walk u.nodes r.path) (node_at u.nodes r.path) (is_full u.nodes (above r.path)) why none (refusal_of (new_refusal u r.path) Done why a)) [
        | inl walked ↦ open_refused why (stopped why walked)
        | inr full ↦
            open_refused why (open_there None full.0 none
            ∙ ap₂ (λ b o. unless_refused c (called_in fits.calls) (called_by fits.calls) (first_of (refusal_if (not b) errno.NoEntry) o) (unix_opened c (with_new_file r.path (called_in fits.calls)) (called_by fits.calls) r.fd (OfFile (Made u.entries)) fits.flags.mode fits.flags.appends)) creates full.1)
      ]
  file_made none creates (Err (Redirect to)) is a = Ends (SentOn to a refl)
  file_made none creates (Err NoMemory) is a = absurd a

  absent_by : (why : Errno) → first_of (walk u.nodes r.path) (missing (node_at u.nodes r.path)) ≡ Some why → (b : Bool) → (is_no_entry why && bit_of 4 r.flags) ≡ b → Opened (cond b (creates_file asked r fits.flags.mode s) (refuses_open asked.tx r why s))
  absent_by why is b = by b (absent_refused (walk u.nodes r.path) (node_at u.nodes r.path) why is)
    where
      both : (a d : Bool) → (a && d) ≡ true → (a ≡ true) × (d ≡ true)
      both true d h = (refl, h)
      both false d h = absurd (true≢false (sym h))

      not_made : (why : Errno) → errno.NoEntry ≡ why → (is_no_entry why && bit_of 4 r.flags) ≡ false → fits.flags.creates ≡ false
      not_made why e off = sym said.creates_is ∙ ap (λ (x : Errno). is_no_entry x && bit_of 4 r.flags) e ∙ off

      by : (b : Bool) → (walk u.nodes r.path ≡ Some why) ⊎ ((walk u.nodes r.path ≡ None) × ((node_at u.nodes r.path ≡ None) × (errno.NoEntry ≡ why))) → (is_no_entry why && bit_of 4 r.flags) ≡ b → Opened (cond b (creates_file asked r fits.flags.mode s) (refuses_open asked.tx r why s))
      by false (inl walked) off = open_refused why (stopped why walked)
      by false (inr absent) off =
          open_refused why (open_there None absent.0 absent.1.0
          ∙ ap (λ b. unless_refused c (called_in fits.calls) (called_by fits.calls) (first_of (refusal_if (not b) errno.NoEntry) (refusal_if (is_full u.nodes (above r.path)) errno.TooMany)) (unix_opened c (with_new_file r.path (called_in fits.calls)) (called_by fits.calls) r.fd (OfFile (Made u.entries)) fits.flags.mode fits.flags.appends)) (not_made why absent.1.1 off)
          ∙ ap (unix_refuses c (called_in fits.calls) (called_by fits.calls)) absent.1.1)
      by true (inl walked) on =
          subst (λ x. Opened (creates_by asked r fits.flags.mode x s)) (sym make_is_answer) (walked_out (make_answer (trees h.domain.root) r.path) (makes ties u h.domain.root (trees h.domain.root) r.path (FileNode (Made u.entries)) the_names h.prefix))
        where
          make_is_answer : make_in r.path s ≡ make_answer (trees h.domain.root) r.path
          make_is_answer = ap (make_by r.path) (domain_is u.roots trees r.path s h) ∙ ap (λ (t : Tree). make_answer t r.path) h.names

          refused_first : new_refusal u r.path ≡ Some why
          refused_first = ap (λ w. first_of w (first_of (refusal_if (is_some (node_at u.nodes r.path)) errno.Exists) (refusal_if (is_full u.nodes (above r.path)) errno.TooMany))) walked

          walked_out : (x : Result (Unit {0}) NameEnd) → AsOne u.roots h.domain.root r.path (is_done x) (row ties u (MakesName r.path (FileNode (Made u.entries)))) → Opened (creates_by asked r fits.flags.mode x s)
          walked_out (Ok tt) a = absurd (let two : None ≡ Some why = sym (none_of (new_refusal u r.path) Done Done a).0 ∙ refused_first in cc)
          walked_out (Err (Refused e)) a = open_refused e (stopped e (walked ∙ sym refused_first ∙ refusal_of (new_refusal u r.path) Done e a))
          walked_out (Err (Redirect to)) a = Ends (SentOn to a refl)
          walked_out (Err NoMemory) a = absurd a
      by true (inr absent) on =
          subst (λ x. Opened (creates_by asked r fits.flags.mode x s)) (sym (ap (make_by r.path) (domain_is u.roots trees r.path s h) ∙ ap (λ (t : Tree). make_answer t r.path) h.names))
          (file_made absent.1.0 (sym said.creates_is ∙ (both (is_no_entry why) (bit_of 4 r.flags) on).1) (make_answer (trees h.domain.root) r.path) refl (makes ties u h.domain.root (trees h.domain.root) r.path (FileNode (Made u.entries)) the_names h.prefix))

  found_opened : (x : Result Node NameEnd) → AsOne u.roots h.domain.root r.path (given_by Is x) (row ties u (Finds r.path)) → Opened (opens_found asked r fits.flags.mode x s)
  found_opened (Ok node) a =
      let n = none_of (first_of (walk u.nodes r.path) (missing (node_at u.nodes r.path))) (Is (plain ties (stands (node_at u.nodes r.path)))) (Is node) a in
      let two = both_none (walk u.nodes r.path) (node_at u.nodes r.path) n.0 in
      node_opened two.1.0 node two.0 two.1.1 (ap (λ o. plain ties (stands o)) (sym two.1.1) ∙ is_same (plain ties (stands (node_at u.nodes r.path))) node n.1)
  found_opened (Err (Refused why)) a = absent_by why (refusal_of (first_of (walk u.nodes r.path) (missing (node_at u.nodes r.path))) (Is (plain ties (stands (node_at u.nodes r.path)))) why a) (is_no_entry why && bit_of 4 r.flags) refl
  found_opened (Err (Redirect to)) a = Ends (SentOn to a refl)
  found_opened (Err NoMemory) a = absurd a

  open_goes : Opened (opens asked r s)
  open_goes =
      subst (λ o. Opened (opens_with asked r o s)) (sym said.mode_is)
      (subst (λ x. Opened (opens_found asked r fits.flags.mode x s)) (sym (ap (found_by r.path) (domain_is u.roots trees r.path s h) ∙ ap (λ (t : Tree). found t r.path) h.names))
      (found_opened (found (trees h.domain.root) r.path) (finds ties u h.domain.root (trees h.domain.root) r.path the_names h.prefix)))

pub opens_go : OpensGo
opens_go ties c u trees s asked r serves fits =
    let h = here u.roots trees r.path s serves.kept fits.here in
    record { root = h.domain.root; prefix = h.prefix; goes = open_goes ties c u trees s asked r serves fits h }

-- ---- a queue

pub waiters_go : WaitersGo
waiters_go ties c u trees s file asked r free first body may serves fits =
    subst (λ (next : Server). GoesSomewhere ties c u trees r.path (caller_of asked r) (without_first file s) next) (sym turn)
    (names_go ties c u trees (without_first file s) asked r may (record { one = serves.one; roots = serves.roots; kept = serves.kept })
    (record { calls = fits.calls; path = fits.path; new = fits.new; here = fits.here }))
  where
    turn : turned file s ≡ names asked r (without_first file s)
    turn =
        ap (λ b. cond b s (serves_first (first_about file s.waiting) (without_first file s))) free
        ∙ ap (λ o. serves_first o (without_first file s)) first
        ∙ ap (λ (q : Request). serves_by q asked (without_first file s)) body
