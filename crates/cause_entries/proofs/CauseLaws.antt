-- Which entries that call a server unreachable a kernel's step tells.
use Rattle.std.proofs.Common.{◌≡◌, ℕ, Bool, true, false, cond, List, [], ◌∷◌, ◌++◌, map, Option, Some, None, refl, sym, ap, subst, ◌∙◌, append_assoc, append-nil}
use Rattle.sprite_ids.specs.declared.TxNo.{TxNo}
use Rattle.kernel_steps.specs.declared.Input.{Input}
use Rattle.kernel_steps.specs.declared.Input.TheVariants as inputs
use Rattle.kernel_steps.specs.Outs.{send_event}
use Rattle.unix_calls.specs.declared.About.{About}
use Rattle.unix_calls.specs.declared.Entry.{Entry}
use Rattle.unix_calls.specs.declared.Event.{Event}
use Rattle.unix_calls.specs.declared.Event.TheVariants as events
use Rattle.unix_calls.specs.declared.SendKind.{SendKind}
use Rattle.call_journal.specs.Unreachable.{is_unreachable_entry}
use Rattle.client_file_tables.specs.declared.client_files.ClientFiles.{ClientFiles}
use Rattle.client_file_tables.specs.declared.pending.Pending.{Pending}
use Rattle.client_file_tables.specs.declared.pending.Pending.TheVariants as operations
use Rattle.client_file_tables.specs.Rows.{first_call, first_of, less_call, less_of}
use Rattle.client_names.specs.Answers as name_answers
use Rattle.client_homes.specs.declared.client.ClientProcs.{ClientProcs}
use Rattle.client_homes.specs.Says.{with_files}
use Rattle.client_procs.specs.Steps.{begins_step, client_step, takes}
use Rattle.client_procs.specs.Turning.{goes_on}
use Rattle.client_walks.proofs.Bearing.{Bears, Seen, is_quiet}
use Rattle.client_walks.proofs.NameBearing.{answered}
use Rattle.client_walks.proofs.ReplyLaws.{Caused, GivenUp, NotSo, Refused}
use Rattle.client_walks.proofs.StepBearing.{rounds, whole_step}
use Rattle.cause_entries.specs.Causes.{ClientsCallUnreachableSo, brings_refused, given_up_by, given_up_for, given_up_from, is_unreachable_event, unreachable_by, unreachable_in}

-- ---- entries among events

none_so : (b : Bool) (entry : Entry) → b ≡ false → cond b (entry ∷ []) [] ≡ []
none_so true entry h = absurd (cc)
none_so false entry h = refl

pub none_by : (event : Event) → is_unreachable_event event ≡ false → unreachable_by event ≡ []
none_by (events.Enter entry) h = none_so (is_unreachable_entry entry) entry h
none_by event h = refl

pub unreachable_append : (es fs : List Event) → unreachable_in (es ++ fs) ≡ unreachable_in es ++ unreachable_in fs
unreachable_append [] fs = refl
unreachable_append (e ∷ es) fs = ap (λ (xs : List Entry). unreachable_by e ++ xs) (unreachable_append es fs) ∙ sym (append_assoc (unreachable_by e) (unreachable_in es) (unreachable_in fs))

none_sent : (tos : List ℕ) (tx : TxNo) (about : Option About) (kind : SendKind) → unreachable_in (map (send_event tx about kind) tos) ≡ []
none_sent [] tx about kind = refl
none_sent (to ∷ tos) tx about kind = none_sent tos tx about kind

pub one_more : (told : List Event) (event : Event) (found : List Entry) → is_unreachable_event event ≡ false → unreachable_in told ≡ found → unreachable_in (told ++ event ∷ []) ≡ found
one_more told event found h q = unreachable_append told (event ∷ []) ∙ (ap (λ (xs : List Entry). unreachable_in told ++ (xs ++ [])) (none_by event h) ∙ (append-nil (unreachable_in told) ∙ q))

some_sent : (told : List Event) (tos : List ℕ) (tx : TxNo) (about : Option About) (kind : SendKind) (found : List Entry) → unreachable_in told ≡ found → unreachable_in (told ++ map (send_event tx about kind) tos) ≡ found
some_sent told tos tx about kind found q = unreachable_append told (map (send_event tx about kind) tos) ∙ (ap (λ (xs : List Entry). unreachable_in told ++ xs) (none_sent tos tx about kind) ∙ (append-nil (unreachable_in told) ∙ q))

-- whether an event tells more than others: that a remote call went out, or that a server is called unreachable
abbrev pub is_loud : Event → Bool
is_loud (events.Send tx to about kind) = true
is_loud event = is_unreachable_event event

pub not_loud : (event : Event) → is_loud event ≡ false → is_unreachable_event event ≡ false
not_loud (events.Send tx to about kind) h = absurd (cc)
not_loud (events.Enter entry) h = h
not_loud event h = refl

pub quiet_not_loud : (event : Event) → is_quiet event ≡ true → is_loud event ≡ false
quiet_not_loud (events.Send tx to about kind) h = absurd (cc)
quiet_not_loud (events.Enter entry) h = absurd (cc)
quiet_not_loud event h = refl

-- ---- that these entries were told so, and no others

abbrev Found : List Entry → Seen → Type 0
Found found seen = unreachable_in seen.told ≡ found

-- where nothing that came has a server called unreachable
abbrev NoCause : Input → Type 0
NoCause came = (calls_so : Bool) → Caused came calls_so → calls_so ≡ false

finding : (came : Input) (found : List Entry) → NoCause came → Bears came (Found found)
finding came found none = record {
  telling = record {
    tells = λ seen event h q. one_more seen.told event found (not_loud event (quiet_not_loud event h)) q;
    enters = λ seen entry cause q. one_more seen.told (events.Enter entry) found (none (is_unreachable_entry entry) cause) q;
    says = λ seen sending kind h q. some_sent seen.told sending.to seen.next sending.about kind found q;
    answers = λ seen tx body here q. q;
    keeps = λ seen pid operation plain q. q;
    left = λ seen pid q. q;
    puts_back = λ seen pid operation e q. q;
    broadcasts = λ seen pid work prefix may e q. some_sent seen.told seen.servers seen.next _ _ found q;
    echoes = λ seen pid work server q. some_sent seen.told (server ∷ []) seen.next _ _ found q;
    asks = λ seen pid work server q. some_sent seen.told (server ∷ []) seen.next _ _ found q;
  };
  learns = λ seen prefix server e q. one_more seen.told (events.Learned prefix server) found refl q;
}

-- ---- a remote call that is given up

up_by : (o : Option Pending) (pid : ℕ) (s : ClientFiles) → unreachable_in s.out.events ≡ [] → unreachable_in (name_answers.gives_up_by pid o s).out.events ≡ given_up_by pid o
up_by (Some (operations.Name call)) pid s q = unreachable_append s.out.events _ ∙ ap (λ (xs : List Entry). xs ++ given_up_by pid (Some (operations.Name call))) q
up_by (Some (operations.Data call)) pid s q = q
up_by (Some (operations.Sync call)) pid s q = q
up_by (Some (operations.Close work)) pid s q = q
up_by (Some (operations.Move work)) pid s q = q
up_by None pid s q = q

up_if : (b : Bool) (s t : ClientFiles) (found : List Entry) → unreachable_in t.out.events ≡ found → unreachable_in s.out.events ≡ [] → unreachable_in (cond b t s).out.events ≡ cond b found []
up_if true s t found h k = h
up_if false s t found h k = k

up_first : (o : Option ℕ) (tx : TxNo) (s : ClientFiles) → unreachable_in s.out.events ≡ [] → unreachable_in (name_answers.gives_up_first o tx s).out.events ≡ given_up_for o tx s.pending
up_first (Some pid) tx s q = up_if (name_answers.takes_end tx (first_of pid s.pending)) s _ _ (up_by (first_of pid s.pending) pid (record s { pending = less_of pid s.pending }) q) q
up_first None tx s q = q

up : (tx : TxNo) (s : ClientFiles) → unreachable_in s.out.events ≡ [] → unreachable_in (name_answers.gives_up tx s).out.events ≡ given_up_from (inputs.GaveUp tx) s
up tx s q = up_first (first_call tx s.txs) tx (record s { txs = less_call tx s.txs }) q

-- ---- steps

-- no remote call is given up by this input
abbrev Apart : Input → Type 0
Apart input = (tx : TxNo) → input ≡ inputs.GaveUp tx → ⊥

no_cause : (input : Input) → Apart input → brings_refused input ≡ false → NoCause input
no_cause input apart h calls_so (NotSo e) = e
no_cause input apart h calls_so (Refused pid number why is e) = e ∙ subst (λ (input : Input). brings_refused input ≡ false) is h
no_cause input apart h calls_so (GivenUp tx is) = absurd (apart tx is)

apart_goes : (input : Input) → Apart input → brings_refused input ≡ false → (s : ClientProcs) → unreachable_in s.files.out.events ≡ [] → unreachable_in (goes_on (takes input s)).files.out.events ≡ []
apart_goes input apart h s q = whole_step input (Found []) (finding input [] (no_cause input apart h)) s q

-- the rounds of a step give up none
abbrev some_input : Input
some_input = inputs.PageNeeded 0 0

input_apart : Apart some_input
input_apart tx e = absurd (cc)

found_rounds : (found : List Entry) (s : ClientProcs) → unreachable_in s.files.out.events ≡ found → unreachable_in (goes_on s).files.out.events ≡ found
found_rounds found s q =
    let bears : Bears some_input (Found found) = finding some_input found (no_cause some_input input_apart refl) in
    rounds some_input (Found found) bears.telling (λ tx source body t e p. answered some_input (Found found) bears tx source body t e p) s q

taken_so : (input : Input) (s : ClientProcs) → brings_refused input ≡ false → unreachable_in s.files.out.events ≡ [] → unreachable_in (goes_on (takes input s)).files.out.events ≡ given_up_from input s.files
taken_so (inputs.GaveUp tx) s h q = found_rounds (given_up_from (inputs.GaveUp tx) s.files) (with_files (name_answers.gives_up tx s.files) s) (up tx s.files q)
taken_so (inputs.Issued pid number call) s h q = apart_goes (inputs.Issued pid number call) (λ tx e. absurd (cc)) h s q
taken_so (inputs.Request tx source body) s h q = apart_goes (inputs.Request tx source body) (λ other e. absurd (cc)) refl s q
taken_so (inputs.Replied tx source body) s h q = apart_goes (inputs.Replied tx source body) (λ other e. absurd (cc)) refl s q
taken_so (inputs.Due file block) s h q = apart_goes (inputs.Due file block) (λ tx e. absurd (cc)) refl s q
taken_so (inputs.PageNeeded pid page) s h q = apart_goes (inputs.PageNeeded pid page) (λ tx e. absurd (cc)) refl s q

pub clients_call : ClientsCallUnreachableSo
clients_call s input next step h = begun_same input s next step (taken_so input (begins_step next step s) h refl)
  where
    begun_same : (input : Input) (s : ClientProcs) (next : TxNo) (step : ℕ) → unreachable_in (client_step s input next step).1.events ≡ given_up_from input (begins_step next step s).files → unreachable_in (client_step s input next step).1.events ≡ given_up_from input s.files
    begun_same (inputs.GaveUp tx) s next step h = h
    begun_same input s next step h = h
