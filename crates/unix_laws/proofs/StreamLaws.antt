-- Which streams and devices are there, who holds a stream, and who is a device's master.
use Rattle.std.proofs.Common.{◌≡◌, ◌≢◌, ◌≤◌, ◌<◌, ◌+◌, ℕ, Bool, true, false, ◌&&◌, ◌||◌, not, cond, List, [], ◌∷◌, Option, Some, None, refl, sym, ap, ap₂, subst, ◌∙◌, arith, inl, inr}
use Rattle.std.specs.Prelude.{◌⊎◌, ◌==◌, slice_get, slice_set}
use Rattle.std.specs.List.{AllByRecursion, list_any}
use Rattle.std.specs.Option.{is_some, option_map, option_and_then}
use Rattle.std.proofs.lemmas.Bool.{cases_Bool, true≢false, eqb-true, eq-eqb, ne_eqb, or_left}
use Rattle.sprite_ids.specs.Pid.{home_of}
use Rattle.sprite_ids.proofs.ListLaws.{each_get, each_replicate, each_set, each_weaken}
use Rattle.unix_calls.specs.declared.Description.{Description}
use Rattle.unix_calls.specs.declared.Entry.{Entry}
use Rattle.unix_calls.specs.declared.state.Device.{Device}
use Rattle.unix_calls.specs.declared.state.Named.{Named}
use Rattle.unix_calls.specs.declared.state.Node.{Node}
use Rattle.unix_calls.specs.declared.state.Node.TheVariants.{Directory, FileNode, DeviceNode}
use Rattle.unix_calls.specs.declared.state.Object.{Object}
use Rattle.unix_calls.specs.declared.state.Object.TheVariants.{OfFile, OfDevice, OfMaster}
use Rattle.unix_calls.specs.declared.state.Process.{Process}
use Rattle.unix_calls.specs.declared.state.Stream.{Stream}
use Rattle.unix_calls.specs.State.{Unix, device_at, holds_a_master, holds_master_of, is_alive, is_master_of, joined_option, leads_to_master, lives, no_descriptors, stream_at}
use Rattle.unix_calls.specs.Boot.{boot_of}
use Rattle.unix_calls.specs.After.{after, counted, state_of}
use Rattle.unix_calls.proofs.ProcessLaws.{found_each, found_pid}
use Rattle.unix_calls.proofs.HistoryLaws.{kept}
use Rattle.unix_frames.proofs.ChangeLaws.{Leads}
use Rattle.unix_laws.specs.Streams.{Holds, StatesAreTied, StreamsStayHome, is_living_holder, is_master, is_master_stream, leads_to, leads_to_a_master}
use Rattle.unix_frames.proofs.EntryLaws.{Enters, opened}
use Rattle.unix_laws.proofs.SpreadLaws.{Doubles, Frees, HasName, IsFit, Keeps, New, Nothing_new, Opens, Own, Spreads, Stops, Things, enters_each, enters_names, enters_nodes, enters_things, found_place, has_device, node_there, object_at, or_else}
use Rattle.unix_laws.proofs.BootLaws.{boot_each, boot_processes}

-- ---- a fact of the descriptors of each process, that may speak of its home

-- what is to be known of it, D before and E behind an entry
pub record Descends (D E : ℕ → Option ℕ → Type 0) (now : List Stream) (entries pid : ℕ) : Type 0 where
  pub none : (h : ℕ) → E h None
  pub stays : (h : ℕ) (d : Option ℕ) → D h d → E h d
  pub new : is_some (stream_at now entries) ≡ true → E (home_of pid) (Some entries)

abbrev pub Each : (ℕ → Option ℕ → Type 0) → Process → Type 0
Each D p = AllByRecursion (D (home_of p.pid)) p.descriptors

-- where a descriptor that is found leads
led_so : (D : Option ℕ → Type 0) (streams : List Stream) (ds : List (Option ℕ)) (fd : ℕ) (stream : Stream) → AllByRecursion D ds → option_and_then (stream_at streams) (joined_option (slice_get ds fd)) ≡ Some stream → D (Some stream.place)
led_so D streams ds fd stream h found = by (slice_get ds fd) refl found
  where
    by : (held : Option (Option ℕ)) → slice_get ds fd ≡ held → option_and_then (stream_at streams) (joined_option held) ≡ Some stream → D (Some stream.place)
    by None e found = absurd (cc)
    by (Some None) e found = absurd (cc)
    by (Some (Some k)) e found = subst (λ n. D (Some n)) (sym (found_place streams k stream found)) (each_get D ds fd (Some k) h e)

carried : (E : ℕ → Option ℕ → Type 0) (h k : ℕ) (ds es : List (Option ℕ)) → k ≡ h → es ≡ ds → AllByRecursion (E h) ds → AllByRecursion (E k) es
carried E h k ds es home same f = subst (λ n. AllByRecursion (E n) es) (sym home) (subst (AllByRecursion (E h)) (sym same) f)

pub spreads : (D E : ℕ → Option ℕ → Type 0) (streams now : List Stream) (entries pid : ℕ) → Descends D E now entries pid → Spreads (Each D) (Each E) streams now entries pid
spreads D E streams now entries pid s =
    record {
      image = λ p m h. h;
      own = own;
      marked = λ p killed waited h. weaker p h;
      born = λ p child h home parent fresh. carried E (home_of p.pid) (home_of child.pid) p.descriptors child.descriptors home fresh.descriptors (weaker p h);
    }
  where
    weaker : (p : Process) → Each D p → Each E p
    weaker p h = each_weaken (D (home_of p.pid)) (E (home_of p.pid)) p.descriptors (s.stays (home_of p.pid)) h

    led : (p r : Process) (fd : ℕ) (place : Option ℕ) → Each D p → Leads p r fd place → E (home_of p.pid) place → Each E r
    led p r fd place h leads there =
        carried E (home_of p.pid) (home_of r.pid) (slice_set p.descriptors fd place) r.descriptors (ap home_of leads.alike.pid) leads.descriptors (each_set (E (home_of p.pid)) p.descriptors fd place there (weaker p h))

    own : (p r : Process) → p.pid ≡ pid → lives p ≡ true → Each D p → Own streams now entries p r → Each E r
    own p r mine alive h (Keeps number parent end same) = carried E (home_of p.pid) (home_of r.pid) p.descriptors r.descriptors (ap home_of number) same (weaker p h)
    own p r mine alive h (Frees fd leads) = led p r fd None h leads (s.none (home_of p.pid))
    own p r mine alive h (Doubles fd free stream found leads) = led p r free (Some stream.place) h leads (s.stays (home_of p.pid) (Some stream.place) (led_so (D (home_of p.pid)) streams p.descriptors fd stream h found))
    own p r mine alive h (Opens fd there leads) = led p r fd (Some entries) h leads (subst (λ n. E (home_of n) (Some entries)) (sym mine) (s.new there))
    own p r mine alive h (Stops number parent none dead) =
        carried E (home_of p.pid) (home_of r.pid) no_descriptors r.descriptors (ap home_of number) none (each_replicate (E (home_of p.pid)) 16 None (s.none (home_of p.pid)))

-- ---- streams and devices

abbrev pub is_master_at : Option Object → Bool
is_master_at (Some object) = is_master object
is_master_at None = false

abbrev pub IsThere : (ℕ → Bool) → Node → Type 0
IsThere devices (DeviceNode place) = devices place ≡ true
IsThere devices (FileNode name) = Unit {0}
IsThere devices Directory = Unit {0}

abbrev pub IsHeld : (ℕ → Option Object) → ℕ → Option ℕ → Type 0
IsHeld objects home (Some place) = is_some (objects place) ≡ true
IsHeld objects home None = Unit {0}

abbrev pub IsFree : Option ℕ → Type 0
IsFree d = d ≡ None

-- who has ended has no descriptor
abbrev pub IsBare : Process → Type 0
IsBare p = lives p ≡ false → AllByRecursion IsFree p.descriptors

pub record Shape (objects : ℕ → Option Object) (devices : ℕ → Bool) (entries : ℕ) : Type 0 where
  pub fresh_streams : (k : ℕ) → entries ≤ k → objects k ≡ None
  pub fresh_devices : (k : ℕ) → entries ≤ k → devices k ≡ false
  pub masters : (k : ℕ) → is_master_at (objects k) ≡ devices k
  pub own : (k device : ℕ) → objects k ≡ Some (OfMaster device) → device ≡ k
  pub clients : (k device : ℕ) → objects k ≡ Some (OfDevice device) → devices device ≡ true

pub record Sound (u : Unix) : Type 0 where
  pub shape : Shape (object_at u.streams) (has_device u.devices) u.entries
  pub names : AllByRecursion (λ (n : Named). IsThere (has_device u.devices) n.node) u.nodes
  pub held : AllByRecursion (Each (IsHeld (object_at u.streams))) u.processes
  pub bare : AllByRecursion IsBare u.processes

-- a new stream at a place
new_object : (object : Object) (before : Option Object) (here : Bool) → (here ≡ true → before ≡ None) → (found : Object) → or_else before (cond here (Some object) None) ≡ Some found → (here ≡ true × (object ≡ found)) ⊎ (before ≡ Some found)
new_object object before true fresh found h = inl (refl, Rattle.sprite_ids.proofs.ListLaws.some_is object found (sym (ap (λ o. or_else o (Some object)) (fresh refl)) ∙ h))
new_object object None false fresh found h = absurd (cc)
new_object object (Some x) false fresh found h = inr h

beside : (a b : Bool) → (a || (b && false)) ≡ a
beside true b = refl
beside false true = refl
beside false false = refl

-- the shape behind a new stream
new_shape : (objects later : ℕ → Option Object) (devices made : ℕ → Bool) (nodes : List Named) (entries : ℕ) (object : Object) → IsFit nodes entries object → AllByRecursion (λ (n : Named). IsThere devices n.node) nodes
    → ((k : ℕ) → later k ≡ or_else (objects k) (cond (entries == k) (Some object) None)) → ((k : ℕ) → made k ≡ (devices k || (is_master object && (entries == k)))) → Shape objects devices entries → Shape later made (entries + 1)
new_shape objects later devices made nodes entries object fit names is_later is_made s =
    record {
      fresh_streams = λ k far.
          is_later k ∙ ap₂ (λ o b. or_else o (cond b (Some object) None)) (s.fresh_streams k (omega (arith, far))) (ne_eqb entries k (λ same. let e : entries ≡ k = same in omega (arith, far, e)));
      fresh_devices = λ k far.
          is_made k ∙ ap₂ (λ a b. a || (is_master object && b)) (s.fresh_devices k (omega (arith, far))) (ne_eqb entries k (λ same. let e : entries ≡ k = same in omega (arith, far, e))) ∙ beside false (is_master object);
      masters = λ k. ap is_master_at (is_later k) ∙ by k (entries == k) refl ∙ sym (is_made k);
      own = λ k device h.
          elim (new_object object (objects k) (entries == k) (fresh k) (OfMaster device) (sym (is_later k) ∙ h)) [
            | inl here ↦ subst (IsFit nodes entries) here.1 fit ∙ eqb-true entries k here.0
            | inr before ↦ s.own k device before
          ];
      clients = λ k device h.
          is_made device ∙ or_left (devices device) (is_master object && (entries == device))
          (elim (new_object object (objects k) (entries == k) (fresh k) (OfDevice device) (sym (is_later k) ∙ h)) [
            | inl here ↦ named device (subst (IsFit nodes entries) here.1 fit)
            | inr before ↦ s.clients k device before
          ]);
    }
  where
    fresh : (k : ℕ) → (entries == k) ≡ true → objects k ≡ None
    fresh k here = let e : entries ≡ k = eqb-true entries k here in s.fresh_streams k (omega (arith, e))

    named : (device : ℕ) → HasName nodes (DeviceNode device) → devices device ≡ true
    named device n = node_there (IsThere devices) nodes n.path (DeviceNode device) tt names n.there

    by : (k : ℕ) (here : Bool) → (entries == k) ≡ here → is_master_at (or_else (objects k) (cond here (Some object) None)) ≡ (devices k || (is_master object && here))
    by k true e =
        let same : entries ≡ k = eqb-true entries k e in
        ap (λ o. is_master_at (or_else o (Some object))) (fresh k e) ∙ itself (is_master object) ∙ sym (ap (λ b. b || (is_master object && true)) (s.fresh_devices k (omega (arith, same))))
      where
        itself : (b : Bool) → b ≡ (b && true)
        itself true = refl
        itself false = refl
    by k false e = none (objects k) ∙ s.masters k ∙ sym (beside (devices k) (is_master object))
      where
        none : (o : Option Object) → is_master_at (or_else o None) ≡ is_master_at o
        none None = refl
        none (Some x) = refl

-- and where nothing is new
same_shape : (objects later : ℕ → Option Object) (devices made : ℕ → Bool) (entries : ℕ) → ((k : ℕ) → later k ≡ objects k) → ((k : ℕ) → made k ≡ devices k) → Shape objects devices entries → Shape later made (entries + 1)
same_shape objects later devices made entries is_later is_made s =
    record {
      fresh_streams = λ k far. is_later k ∙ s.fresh_streams k (omega (arith, far));
      fresh_devices = λ k far. is_made k ∙ s.fresh_devices k (omega (arith, far));
      masters = λ k. ap is_master_at (is_later k) ∙ s.masters k ∙ sym (is_made k);
      own = λ k device h. s.own k device (sym (is_later k) ∙ h);
      clients = λ k device h. is_made device ∙ s.clients k device (sym (is_later k) ∙ h);
    }

-- what streams and devices keep
record Grows (u later : Unix) : Type 0 where
  shape : Shape (object_at later.streams) (has_device later.devices) (u.entries + 1)
  streams : (k : ℕ) → is_some (object_at u.streams k) ≡ true → is_some (object_at later.streams k) ≡ true
  devices : (k : ℕ) → has_device u.devices k ≡ true → has_device later.devices k ≡ true

grows : (u later : Unix) → Sound u → Things u.nodes u.entries (object_at u.streams) (has_device u.devices) later → Grows u later
grows u later h (Nothing_new objects devices entries) =
    record {
      shape = same_shape (object_at u.streams) (object_at later.streams) (has_device u.devices) (has_device later.devices) u.entries objects devices h.shape;
      streams = λ k there. ap (λ o. is_some o) (objects k) ∙ there;
      devices = λ k there. devices k ∙ there;
    }
grows u later h (New object fit objects devices entries) =
    record {
      shape = new_shape (object_at u.streams) (object_at later.streams) (has_device u.devices) (has_device later.devices) u.nodes u.entries object fit h.names objects devices h.shape;
      streams = λ k there. ap (λ o. is_some o) (objects k) ∙ some (object_at u.streams k) (cond (u.entries == k) (Some object) None) there;
      devices = λ k there. devices k ∙ or_left (has_device u.devices k) (is_master object && (u.entries == k)) there;
    }
  where
    some : (a b : Option Object) → is_some a ≡ true → is_some (or_else a b) ≡ true
    some (Some x) b there = refl
    some None b there = absurd (true≢false (sym there))

object_some : (streams : List Stream) (k : ℕ) → is_some (stream_at streams k) ≡ true → is_some (object_at streams k) ≡ true
object_some streams k h = by (stream_at streams k) h
  where
    by : (o : Option Stream) → is_some o ≡ true → is_some (option_map (λ (s : Stream). s.object) o) ≡ true
    by (Some s) h = refl
    by None h = absurd (true≢false (sym h))

some_object : (streams : List Stream) (k : ℕ) → is_some (object_at streams k) ≡ true → is_some (stream_at streams k) ≡ true
some_object streams k h = by (stream_at streams k) h
  where
    by : (o : Option Stream) → is_some (option_map (λ (s : Stream). s.object) o) ≡ true → is_some o ≡ true
    by (Some s) h = refl
    by None h = absurd (true≢false (sym h))

-- who has ended
bares : (streams now : List Stream) (entries pid : ℕ) → Spreads IsBare IsBare streams now entries pid
bares streams now entries pid =
    record {
      image = λ p m h. h;
      own = λ p r mine alive h own. by p r alive own;
      marked = λ p killed waited h. h;
      born = λ p child h home parent fresh dead. absurd (true≢false (sym (ap (λ o. not (is_some o)) fresh.ending) ∙ dead));
    }
  where
    living : (p r : Process) → lives p ≡ true → r.ending ≡ p.ending → IsBare r
    living p r alive same dead = absurd (true≢false (sym (ap (λ o. not (is_some o)) same ∙ alive) ∙ dead))

    by : (p r : Process) → lives p ≡ true → Own streams now entries p r → IsBare r
    by p r alive (Keeps number parent end same) = living p r alive end
    by p r alive (Frees fd leads) = living p r alive leads.alike.ending
    by p r alive (Doubles fd free stream found leads) = living p r alive leads.alike.ending
    by p r alive (Opens fd there leads) = living p r alive leads.alike.ending
    by p r alive (Stops number parent none dead) = λ ended. subst (AllByRecursion IsFree) (sym none) (each_replicate IsFree 16 None refl)

stays_there : (devices made : ℕ → Bool) → ((k : ℕ) → devices k ≡ true → made k ≡ true) → (n : Node) → IsThere devices n → IsThere made n
stays_there devices made on Directory h = tt
stays_there devices made on (FileNode name) h = tt
stays_there devices made on (DeviceNode place) h = on place h

stays_held : (objects later : ℕ → Option Object) → ((k : ℕ) → is_some (objects k) ≡ true → is_some (later k) ≡ true) → (h : ℕ) (d : Option ℕ) → IsHeld objects h d → IsHeld later h d
stays_held objects later on h None held = tt
stays_held objects later on h (Some place) held = on place held

enters_sound : (c : Description) (u later : Unix) (e : Entry) → Enters c u e later → later.entries ≡ u.entries → Sound u → Sound (counted later)
enters_sound c u later e enters same h =
    let g = grows u later h (enters_things c u later e enters) in
    record {
      shape = subst (λ n. Shape (object_at later.streams) (has_device later.devices) (n + 1)) (sym same) g.shape;
      names = enters_nodes (IsThere (has_device u.devices)) (IsThere (has_device later.devices)) c u later e enters
          (record { directory = tt; file = tt; device = λ made. made; stays = stays_there (has_device u.devices) (has_device later.devices) g.devices; root = tt }) h.names;
      held = enters_each (Each (IsHeld (object_at u.streams))) (Each (IsHeld (object_at later.streams))) c u later e enters
          (spreads (IsHeld (object_at u.streams)) (IsHeld (object_at later.streams)) u.streams later.streams u.entries e.pid
          (record { none = λ n. tt; stays = stays_held (object_at u.streams) (object_at later.streams) g.streams; new = object_some later.streams u.entries })) h.held;
      bare = enters_each IsBare IsBare c u later e enters (bares u.streams later.streams u.entries e.pid) h.bare;
    }

pub sound_after : (c : Description) (u v : Unix) (e : Entry) → after c u e ≡ Some v → Sound u → Sound v
sound_after c u v e is h =
    let o = opened c u v e is in
    subst Sound (sym o.whole) (enters_sound c u o.later e o.enters (enters_names c u o.later e o.enters).same h)

pub sound_boot : (c : Description) → Sound (boot_of c)
sound_boot c =
    record {
      shape = record { fresh_streams = λ k far. refl; fresh_devices = λ k far. refl; masters = λ k. refl; own = λ k device h. absurd (cc); clients = λ k device h. absurd (cc) };
      names = boot_each (λ (n : Named). IsThere (has_device []) n.node) (λ path. tt) (λ path i. tt) c;
      held = boot_processes (Each (IsHeld (object_at []))) (λ pid m. each_replicate (IsHeld (object_at []) (home_of pid)) 16 None tt) c;
      bare = boot_processes IsBare (λ pid m ended. absurd (true≢false ended)) c;
    }

pub sound_state : (c : Description) (journal : List Entry) (u : Unix) → state_of c journal ≡ Some u → Sound u
sound_state c journal u is = kept c Sound (sound_after c) journal u (sound_boot c) is

-- ---- who is a master

any_same : (f g : Option ℕ → Bool) (ds : List (Option ℕ)) → ((d : Option ℕ) → f d ≡ g d) → list_any f ds ≡ list_any g ds
any_same f g [] same = refl
any_same f g (d ∷ ds) same = ap₂ (λ a b. a || b) (same d) (any_same f g ds same)

pub any_free : (f : Option ℕ → Bool) (ds : List (Option ℕ)) → f None ≡ false → AllByRecursion IsFree ds → list_any f ds ≡ false
any_free f [] none h = refl
any_free f (d ∷ ds) none h = ap₂ (λ a b. a || b) (ap f h.0 ∙ none) (any_free f ds none h.1)

any_so : (P : Process → Type 0) (f g : Process → Bool) (ps : List Process) → AllByRecursion P ps → ((p : Process) → P p → f p ≡ g p) → list_any f ps ≡ list_any g ps
any_so P f g [] h same = refl
any_so P f g (p ∷ ps) h same = ap₂ (λ a b. a || b) (same p h.0) (any_so P f g ps h.1 same)

-- one descriptor
leads_same : (u : Unix) → Sound u → (device : ℕ) → has_device u.devices device ≡ true → (d : Option ℕ) → leads_to_master u.streams device d ≡ leads_to device d
leads_same u h device there None = refl
leads_same u h device there (Some place) = by (stream_at u.streams place) refl
  where
    master_here : (place == device) ≡ true → is_master_at (object_at u.streams place) ≡ true
    master_here same = h.shape.masters place ∙ ap (has_device u.devices) (eqb-true place device same) ∙ there

    by : (o : Option Stream) → stream_at u.streams place ≡ o → is_some (option_and_then (λ (s : Stream). cond (is_master_of device s.object) (Some s) None) o) ≡ (place == device)
    by None e =
        elim (cases_Bool (place == device)) [
          | inl same ↦ absurd (true≢false (sym (master_here same) ∙ ap (λ o. is_master_at (option_map (λ (s : Stream). s.object) o)) e))
          | inr off ↦ sym off
        ]
    by (Some s) e = itself (is_master_of device s.object) ∙ object s.object (ap (option_map (λ (s : Stream). s.object)) e)
      where
        itself : (b : Bool) → is_some (cond b (Some s) None) ≡ b
        itself true = refl
        itself false = refl

        none_so : (object : Object) → object_at u.streams place ≡ Some object → is_master object ≡ false → false ≡ (place == device)
        none_so object there client =
            elim (cases_Bool (place == device)) [
              | inl same ↦ absurd (true≢false (sym (master_here same) ∙ ap is_master_at there ∙ client))
              | inr off ↦ sym off
            ]

        object : (object : Object) → object_at u.streams place ≡ Some object → is_master_of device object ≡ (place == device)
        object (OfMaster made) there = ap (λ n. n == device) (h.shape.own place made there)
        object (OfDevice made) there = none_so (OfDevice made) there refl
        object (OfFile name) there = none_so (OfFile name) there refl

pub alive_same : (u : Unix) → Sound u → (device : ℕ) → has_device u.devices device ≡ true → is_alive u device ≡ list_any (is_living_holder device) u.processes
alive_same u h device there = any_so IsBare (holds_master_of u.streams device) (is_living_holder device) u.processes h.bare one
  where
    one : (p : Process) → IsBare p → holds_master_of u.streams device p ≡ is_living_holder device p
    one p bare = by (lives p) refl
      where
        by : (b : Bool) → lives p ≡ b → holds_master_of u.streams device p ≡ (b && list_any (leads_to device) p.descriptors)
        by true alive = any_same (leads_to_master u.streams device) (leads_to device) p.descriptors (leads_same u h device there)
        by false dead = any_free (leads_to_master u.streams device) p.descriptors refl (bare dead)

-- any of some in any of others
any_none : {A : Type 0} (xs : List A) → list_any (λ (x : A). false) xs ≡ false
any_none [] = refl
any_none (x ∷ xs) = any_none xs

any_or : {A : Type 0} (f g : A → Bool) (xs : List A) → list_any (λ x. f x || g x) xs ≡ (list_any f xs || list_any g xs)
any_or f g [] = refl
any_or f g (x ∷ xs) = ap (λ b. (f x || g x) || b) (any_or f g xs) ∙ by (f x) (g x) (list_any f xs) (list_any g xs)
  where
    by : (a b c d : Bool) → ((a || b) || (c || d)) ≡ ((a || c) || (b || d))
    by true b c d = refl
    by false true true d = refl
    by false true false d = refl
    by false false c d = refl

any_swap : {A B : Type 0} (f : A → B → Bool) (xs : List A) (ys : List B) → list_any (λ x. list_any (f x) ys) xs ≡ list_any (λ y. list_any (λ x. f x y) xs) ys
any_swap f [] ys = sym (any_none ys)
any_swap f (x ∷ xs) ys = ap (λ b. list_any (f x) ys || b) (any_swap f xs ys) ∙ sym (any_or (f x) (λ y. list_any (λ x. f x y) xs) ys)

device_any : (ds : List Device) (place : ℕ) → list_any (λ (d : Device). place == d.place) ds ≡ has_device ds place
device_any [] place = refl
device_any (d ∷ ds) place = by (d.place == place) refl (device_any ds place)
  where
    by : (b : Bool) → (d.place == place) ≡ b → list_any (λ (d : Device). place == d.place) ds ≡ has_device ds place → ((place == d.place) || list_any (λ (d : Device). place == d.place) ds) ≡ is_some (cond b (Some d) (device_at ds place))
    by true e rest = ap (λ b. b || list_any (λ (d : Device). place == d.place) ds) (eq-eqb place d.place (sym (eqb-true d.place place e)))
    by false e rest = ap (λ b. b || list_any (λ (d : Device). place == d.place) ds) (ne_eqb place d.place (λ same. true≢false (sym (eq-eqb d.place place (sym same)) ∙ e))) ∙ rest

any_equal : {A : Type 0} (f g : A → Bool) (xs : List A) → ((x : A) → f x ≡ g x) → list_any f xs ≡ list_any g xs
any_equal f g [] same = refl
any_equal f g (x ∷ xs) same = ap₂ (λ a b. a || b) (same x) (any_equal f g xs same)

mastering_same : (u : Unix) → Sound u → (p : Process) → holds_a_master u p ≡ list_any (leads_to_a_master u.streams) p.descriptors
mastering_same u h p = any_swap (λ (d : Device). leads_to_master u.streams d.place) u.devices p.descriptors ∙ any_same (λ x. list_any (λ (d : Device). leads_to_master u.streams d.place x) u.devices) (leads_to_a_master u.streams) p.descriptors one
  where
    one : (x : Option ℕ) → list_any (λ (d : Device). leads_to_master u.streams d.place x) u.devices ≡ leads_to_a_master u.streams x
    one None = any_none u.devices
    one (Some place) = by (stream_at u.streams place) refl
      where
        itself : (s : Stream) (b : Bool) → is_some (cond b (Some s) None) ≡ b
        itself s true = refl
        itself s false = refl

        by : (o : Option Stream) → stream_at u.streams place ≡ o → list_any (λ (d : Device). is_some (option_and_then (λ (s : Stream). cond (is_master_of d.place s.object) (Some s) None) o)) u.devices ≡ is_master_stream o
        by None e = any_none u.devices
        by (Some s) e =
            any_equal (λ (d : Device). is_some (cond (is_master_of d.place s.object) (Some s) None)) (λ (d : Device). is_master_of d.place s.object) u.devices (λ d. itself s (is_master_of d.place s.object))
            ∙ object s.object (ap (option_map (λ (s : Stream). s.object)) e)
          where
            object : (object : Object) → object_at u.streams place ≡ Some object → list_any (λ (d : Device). is_master_of d.place object) u.devices ≡ is_master object
            object (OfMaster made) there =
                device_any u.devices made ∙ ap (has_device u.devices) (h.shape.own place made there) ∙ sym (h.shape.masters place) ∙ ap is_master_at there
            object (OfDevice made) there = any_none u.devices
            object (OfFile name) there = any_none u.devices

-- ---- the laws

stream_object : (streams : List Stream) (place : ℕ) (s : Stream) → stream_at streams place ≡ Some s → object_at streams place ≡ Some s.object
stream_object streams place s there = ap (option_map (λ (x : Stream). x.object)) there

master_here : (o : Option Stream) → is_master_stream o ≡ is_master_at (option_map (λ (s : Stream). s.object) o)
master_here None = refl
master_here (Some s) = refl

is_below : (n place : ℕ) → (n ≤ place → ⊥) → place < n
is_below n place h = by (Rattle.std.proofs.Common.nat_lt place n) refl
  where
    by : (b : Bool) → Rattle.std.proofs.Common.nat_lt place n ≡ b → place < n
    by true e = Rattle.std.proofs.lemmas.Bool.ltb-true place n e
    by false e = absurd (h (Rattle.std.proofs.lemmas.Bool.ltb-false place n e))

pub states_are_tied : StatesAreTied
states_are_tied c journal u is =
    let h = sound_state c journal u is in
    record {
      streams = λ place s there. is_below u.entries place (λ far. let two : Some s.object ≡ None = sym (stream_object u.streams place s there) ∙ h.shape.fresh_streams place far in cc);
      devices = λ place d there. is_below u.entries place (λ far. true≢false (sym (ap (λ o. is_some o) there) ∙ h.shape.fresh_devices place far));
      masters = λ place. master_here (stream_at u.streams place) ∙ h.shape.masters place;
      own = λ place device s there object. h.shape.own place device (stream_object u.streams place s there ∙ ap Some object);
      clients = λ place device s there object. h.shape.clients place device (stream_object u.streams place s there ∙ ap Some object);
      names = λ path device there. node_there (IsThere (has_device u.devices)) u.nodes path (DeviceNode device) tt h.names there;
      held = λ pid place holds.
          some_object u.streams place
          (each_get (IsHeld (object_at u.streams) (home_of holds.process.pid)) holds.process.descriptors holds.fd (Some place) (found_each (Each (IsHeld (object_at u.streams))) u.processes pid holds.process h.held holds.there) holds.leads);
      ended = λ pid place holds.
          elim (cases_Bool (lives holds.process)) [
            | inl alive ↦ alive
            | inr dead ↦
                absurd (let none : Some place ≡ None = each_get IsFree holds.process.descriptors holds.fd (Some place) (found_each IsBare u.processes pid holds.process h.bare holds.there dead) holds.leads in cc)
          ];
      alive = alive_same u h;
      mastering = λ pid p there. mastering_same u h p;
    }

-- ---- one home

abbrev IsOwn : (ℕ → ℕ) → ℕ → ℕ → Option ℕ → Type 0
IsOwn home entries h (Some place) = (place < entries) × (home place ≡ h)
IsOwn home entries h None = Unit {0}

-- each stream has a home, and so has who holds it
record Homed (u : Unix) : Type 0 where
  home : ℕ → ℕ
  each : AllByRecursion (Each (IsOwn home u.entries)) u.processes

homed_after : (c : Description) (u v : Unix) (e : Entry) → after c u e ≡ Some v → Homed u → Homed v
homed_after c u v e is h =
    let o = opened c u v e is in
    let same : o.later.entries ≡ u.entries = (enters_names c u o.later e o.enters).same in
    let home : ℕ → ℕ = λ (k : ℕ). cond (k == u.entries) (home_of e.pid) (h.home k) in
    subst Homed (sym o.whole)
    (record {
      home = home;
      each = subst (λ n. AllByRecursion (Each (IsOwn home (n + 1))) o.later.processes) (sym same)
          (enters_each (Each (IsOwn h.home u.entries)) (Each (IsOwn home (u.entries + 1))) c u o.later e o.enters
          (spreads (IsOwn h.home u.entries) (IsOwn home (u.entries + 1)) u.streams o.later.streams u.entries e.pid
          (record {
            none = λ n. tt;
            stays = stays;
            new = λ there. (omega arith, ap (λ b. cond b (home_of e.pid) (h.home u.entries)) (eq-eqb u.entries u.entries refl));
          })) h.each);
    })
  where
    stays : (n : ℕ) (d : Option ℕ) → IsOwn h.home u.entries n d → IsOwn (λ (k : ℕ). cond (k == u.entries) (home_of e.pid) (h.home k)) (u.entries + 1) n d
    stays n None own = tt
    stays n (Some place) own =
        (omega (arith, own.0), ap (λ b. cond b (home_of e.pid) (h.home place)) (ne_eqb place u.entries (λ same. let is : place ≡ u.entries = same in omega (arith, is, own.0))) ∙ own.1)

homed_boot : (c : Description) → Homed (boot_of c)
homed_boot c = record { home = λ k. 0; each = boot_processes (Each (IsOwn (λ k. 0) 0)) (λ pid m. each_replicate (IsOwn (λ k. 0) 0 (home_of pid)) 16 None tt) c }

home_of_holder : (u : Unix) (pid place : ℕ) (h : Homed u) → Holds u pid place → h.home place ≡ home_of pid
home_of_holder u pid place h holds =
    (each_get (IsOwn h.home u.entries (home_of holds.process.pid)) holds.process.descriptors holds.fd (Some place) (found_each (Each (IsOwn h.home u.entries)) u.processes pid holds.process h.each holds.there) holds.leads).1
    ∙ ap home_of (found_pid u.processes pid holds.process holds.there)

pub streams_stay_home : StreamsStayHome
streams_stay_home c journal u pid other place is one two =
    let h : Homed u = kept c Homed (homed_after c) journal u (homed_boot c) is in
    sym (home_of_holder u pid place h one) ∙ home_of_holder u other place h two
