-- What a client's kernel does with each request, before the rounds of the step: it answers it, or keeps it.
use Rattle.std.proofs.Common.{arith, ◌≡◌, refl, sym, ap, ap₂, subst, ℕ, ◌+◌, ◌≤◌, ◌==◌, Bool, true, false, ◌&&◌, cond, not, List, [], ◌∷◌, ◌++◌, Option, Some, None, option_map}
use Rattle.std.proofs.lemmas.Bool.{eq-eqb}
use Rattle.std.specs.List.{find}
use Rattle.sprite_ids.specs.declared.BlockNo.{BlockNo}
use Rattle.sprite_ids.specs.declared.CallKind.{CallKind}
use Rattle.sprite_ids.specs.declared.CallKind.TheVariants.{Recall, Stop}
use Rattle.sprite_ids.specs.declared.Errno.TheVariants as errnos
use Rattle.sprite_ids.specs.declared.FileId.{FileId}
use Rattle.sprite_ids.specs.declared.TxNo.{TxNo}
use Rattle.sprite_ids.specs.Lists.{less, one_if, total}
use Rattle.kernel_steps.specs.declared.Input.{Input}
use Rattle.kernel_steps.specs.declared.Input.TheVariants as inputs
use Rattle.kernel_steps.specs.Rows.{first_under, is_under}
use Rattle.process_machine.specs.declared.Reply.{Reply}
use Rattle.process_machine.specs.declared.Reply.TheVariants.{Error}
use Rattle.packet_bodies.specs.declared.AskRequest.{AskRequest}
use Rattle.packet_bodies.specs.declared.CallbackRequest.{CallbackRequest}
use Rattle.packet_bodies.specs.declared.HomeCall.{HomeCall}
use Rattle.packet_bodies.specs.declared.HomeCall.TheVariants as home_calls
use Rattle.packet_bodies.specs.declared.HomeRequest.{HomeRequest}
use Rattle.packet_bodies.specs.declared.LaunchRequest.{LaunchRequest}
use Rattle.packet_bodies.specs.declared.ReplyBody.{ReplyBody}
use Rattle.packet_bodies.specs.declared.ReplyBody.TheVariants as bodies
use Rattle.packet_bodies.specs.declared.TransferRequest.{TransferRequest}
use Rattle.packet_bodies.specs.declared.Request.TheVariants as requests
use Rattle.unix_calls.specs.declared.About.{About}
use Rattle.unix_calls.specs.declared.DropCause.{DropCause}
use Rattle.unix_calls.specs.declared.DropCause.TheVariants as causes
use Rattle.migrate_freeze.specs.Arriving.{launch_arrival, process_with, transfer_arrival}
use Rattle.client_file_tables.specs.declared.client_files.ClientFiles.{ClientFiles}
use Rattle.block_cache.specs.Held.{flushed_of}
use Rattle.client_data.specs.Grants as grants
use Rattle.client_homes.specs.declared.client.ClientProcs.{ClientProcs}
use Rattle.client_homes.specs.declared.client.Parked.{Parked}
use Rattle.client_homes.specs.Calls as calling
use Rattle.client_homes.specs.Ends as ending
use Rattle.client_homes.specs.Homes as homes
use Rattle.client_homes.specs.Issuing as issuing
use Rattle.client_homes.specs.Killing as killing
use Rattle.client_homes.specs.Kills as kills
use Rattle.client_homes.specs.Procs as procs_of
use Rattle.client_homes.specs.Procs.{is_call}
use Rattle.client_homes.specs.Says as says
use Rattle.client_homes.specs.Says.{value}
use Rattle.client_homes.specs.Waits as waiting
use Rattle.client_homes.specs.Words as words
use Rattle.client_devices.specs.Asking as asking
use Rattle.client_devices.specs.Asks.{carried_ask}
use Rattle.client_devices.specs.Getting as getting
use Rattle.client_devices.specs.Tables as tables
use Rattle.client_procs.specs.Arriving as arriving
use Rattle.client_procs.specs.Launching.{fresh_image}
use Rattle.client_walks.proofs.Deeds.{nothing}
use Rattle.client_walks.proofs.WalkLaws as walks
use Rattle.client_requests.specs.Kept.{answer_of, ask_of, wait_of}
use Rattle.client_requests.proofs.CountLaws.{Counts, Follows, counts, follows_same, total_push, view}
use Rattle.client_requests.proofs.HomeKeeping as home_side
use Rattle.client_requests.proofs.HomeKeeping.{Since}
use Rattle.client_requests.proofs.StepKeeping.{Holds, within}
use Rattle.client_requests.proofs.ViewLaws as frames

-- ---- one more

abbrev pub more_answers : ℕ → Counts → Counts
more_answers f c = record c { answers = c.answers + f }

abbrev pub more_waits : ℕ → Counts → Counts
more_waits f c = record c { waits = c.waits + f }

abbrev pub more_asks : ℕ → Counts → Counts
more_asks f c = record c { asks = c.asks + f }

-- of a kernel
abbrev pub now : TxNo → ClientProcs → Counts
now tx s = counts tx (view s)

answers_one : (c d : Counts) (r f : ℕ) → r ≡ d.answers + f → Follows c d → Follows (more_answers f c) (record { waits = d.waits; asks = d.asks; answers = r })
answers_one c d r f e p = (let w0 = p.waits in let a0 = p.asks in let r0 = p.answers in let n0 = p.none_lost in record { waits = omega arith; asks = omega arith; answers = omega arith; none_lost = omega arith })

waits_one : (c d : Counts) (w f : ℕ) → w ≡ d.waits + f → Follows c d → Follows (more_waits f c) (record { waits = w; asks = d.asks; answers = d.answers })
waits_one c d w f e p = (let w0 = p.waits in let a0 = p.asks in let r0 = p.answers in let n0 = p.none_lost in record { waits = omega arith; asks = omega arith; answers = omega arith; none_lost = omega arith })

asks_one : (c : Counts) (a f : ℕ) → a ≡ c.asks + f → Follows (more_asks f c) (record { waits = c.waits; asks = a; answers = c.answers })
asks_one c a f e = record { waits = omega arith; asks = omega arith; answers = omega arith; none_lost = omega arith }

-- whether a call is any but `wait`
abbrev pub IsOther : HomeCall → Type 0
IsOther home_calls.Wait = ⊥
IsOther _ = Unit {0}

-- what comes that is no request, in rounds
abbrev pub no_request : Input
no_request = inputs.PageNeeded 0 0

module _ (tx asker : TxNo) where
  -- one where it is that remote call
  abbrev pub one : ℕ
  one = one_if (is_call asker tx)

  -- an answer to it more
  answer_made : (c : Counts) (body : ReplyBody) (s : ClientProcs) → Follows c (now tx s) → Follows (more_answers one c) (now tx (says.answers asker body s))
  answer_made c body s p = answers_one c (now tx s) (total (answer_of tx) (s.files.out.answers ++ (asker, body) ∷ [])) one (total_push (answer_of tx) s.files.out.answers (asker, body)) p

  -- Callbacks

  drops_tell : (file : FileId) (blocks : List BlockNo) (cause : DropCause) (s : ClientFiles) → (grants.drops_all file blocks cause s).out.answers ≡ s.out.answers
  drops_tell file [] cause s = refl
  drops_tell file (block ∷ blocks) cause s = drops_tell file blocks cause (grants.drops_one file block cause s)

  cleans_tell : (file : FileId) (blocks : List BlockNo) (s : ClientFiles) → (grants.cleans_all file blocks s).out.answers ≡ s.out.answers
  cleans_tell file [] s = refl
  cleans_tell file (block ∷ blocks) s = cleans_tell file blocks (grants.cleans_one file block s)

  settles_tell : (kind : CallKind) (file : FileId) (dirty blocks : List BlockNo) (s : ClientFiles) → (grants.settles_called kind file dirty blocks s).out.answers ≡ s.out.answers
  settles_tell Recall file dirty blocks s = cleans_tell file dirty s
  settles_tell Stop file dirty blocks s = drops_tell file blocks causes.Stop s

  pub callback_served : (request : CallbackRequest) (s : ClientProcs) → Follows (more_answers one (now tx s)) (now tx (says.with_files (grants.called_back asker request s.files) s))
  callback_served request s =
      let told : ClientFiles = grants.notes_mode request.file request.stamp (grants.takes_callback request s.files) in
      let dirty : List BlockNo = grants.dirty_in request.file s.files in
      let held : List BlockNo = grants.held_in request.file s.files in
      let settled : ClientFiles = grants.settles_called request.kind request.file dirty held told in
      answer_made (now tx s) (bodies.Flushed (flushed_of s.files.cache request.file)) (says.with_files settled s)
      (subst (λ (answers : List (TxNo × ReplyBody)). Follows (now tx s) (record (now tx s) { answers = total (answer_of tx) answers })) (sym (settles_tell request.kind request.file dirty held told)) (follows_same (now tx s)))

  -- Calls for homes

  done : (call : HomeCall) (request : HomeRequest) (s : ClientProcs) → Follows (now tx s) (now tx (calling.does_by call request s))
  done call request s = home_side.done tx (now tx s) call request s (follows_same (now tx s))

  -- a call that has a reply
  call_done : (call : HomeCall) (pid number : ℕ) (reply : Reply) (s : ClientProcs) → Follows (more_answers one (now tx s)) (now tx (says.answers asker (words.packet_of reply) (calling.does_by call (record { pid = pid; number = number; call = call }) s)))
  call_done call pid number reply s =
      answer_made (now tx s) (words.packet_of reply) (calling.does_by call (record { pid = pid; number = number; call = call }) s) (done call (record { pid = pid; number = number; call = call }) s)

  pub call_served : (call : HomeCall) (pid number : ℕ) (s : ClientProcs) → IsOther call → Follows (more_answers one (now tx s)) (now tx (issuing.serves_home asker (record { pid = pid; number = number; call = call }) s))
  call_served (home_calls.Print bytes) pid number s other = call_done (home_calls.Print bytes) pid number (value 0 0) s
  call_served (home_calls.Exit code) pid number s other = by (code == 257)
    where
      request : HomeRequest
      request = record { pid = pid; number = number; call = home_calls.Exit code }

      dead : ClientProcs
      dead = ending.ends_by_death (record { pid = pid; number = number }) s

      by : (b : Bool) → Follows (more_answers one (now tx s)) (now tx (cond b (issuing.serves_death asker request s) (says.answers asker (words.packet_of (value 0 0)) (calling.exits request code s))))
      by true =
          answer_made (now tx s) (words.packet_of (value 0 0)) (waiting.wakes_after pid dead)
          (home_side.woken_after tx (now tx s) pid dead (home_side.died_at_home tx (now tx s) (record { pid = pid; number = number }) s (follows_same (now tx s))))
      by false = call_done (home_calls.Exit code) pid number (value 0 0) s
  call_served home_calls.Getppid pid number s other = call_done home_calls.Getppid pid number (calling.parent_reply pid s) s
  call_served (home_calls.Host max) pid number s other = call_done (home_calls.Host max) pid number (calling.host_reply max s) s
  call_served home_calls.Tick pid number s other = call_done home_calls.Tick pid number (calling.tick_reply s) s
  call_served home_calls.Fork pid number s other = call_done home_calls.Fork pid number (calling.born_reply (homes.born_pid pid s)) s
  call_served home_calls.Wait pid number s other = absurd other
  call_served (home_calls.Kill target) pid number s other = call_done (home_calls.Kill target) pid number (calling.kill_reply target s) s

  -- and that
  abbrev pub wait_first : Option Reply → Counts → Counts
  wait_first (Some reply) c = more_answers one c
  wait_first None c = more_waits one c

  waited : (o : Option Reply) (pid number : ℕ) (c : Counts) (s : ClientProcs) → Follows c (now tx s) → Follows (wait_first o c) (now tx (issuing.answers_or_parks asker o (record { pid = pid; number = number; call = home_calls.Wait }) s))
  waited (Some reply) pid number c s p = answer_made c (words.packet_of reply) s p
  waited None pid number c s p =
      let row : Parked = record { number = number; tx = Some asker } in
      waits_one c (now tx s) (total (wait_of tx) (s.waits ++ (pid, row) ∷ [])) one (total_push (wait_of tx) s.waits (pid, row)) p

  pub wait_served : (pid number : ℕ) (s : ClientProcs) → Follows (wait_first (waiting.wait_reply pid s) (now tx s)) (now tx (issuing.serves_home asker (record { pid = pid; number = number; call = home_calls.Wait }) s))
  wait_served pid number s =
      let request : HomeRequest = record { pid = pid; number = number; call = home_calls.Wait } in
      waited (waiting.wait_reply pid s) pid number (now tx s) (waiting.waits request s) (done home_calls.Wait request s)

  -- Kills and places

  pub kill_served : (pid : ℕ) (s : ClientProcs) → Follows (more_answers one (now tx s)) (now tx (kills.hears_kill asker pid s))
  kill_served pid s =
      let c : Counts = more_answers one (now tx s) in
      let known : ClientProcs = procs_of.killed_at pid s in
      let told : ClientProcs = says.answers asker bodies.Done known in
      frames.on_if (Since tx c) (kills.is_here pid s) (kills.meets_kill pid told) (says.answers asker bodies.Gone (kills.notes_early pid s))
      (home_side.met tx c pid told (answer_made (now tx s) bodies.Done known (frames.flagged (Since tx (now tx s)) pid s (follows_same (now tx s)))))
      (answer_made (now tx s) bodies.Gone (kills.notes_early pid s) (follows_same (now tx s)))

  pub place_served : (pid kernel : ℕ) (s : ClientProcs) → Follows (more_answers one (now tx s)) (now tx (kills.tells_place asker pid kernel s))
  place_served pid kernel s =
      let c : Counts = more_answers one (now tx s) in
      let there : ClientProcs = homes.moves_to pid kernel s in
      let told : ClientProcs = says.answers asker bodies.Done there in
      home_side.come_if tx c (killing.kill_at pid s) pid kernel (killing.forgets_kill pid told)
      (answer_made (now tx s) bodies.Done there (frames.table_kept (Since tx (now tx s)) (homes.is_native pid s) _ s (follows_same (now tx s))))

  -- Processes

  pub transfer_served : (request : TransferRequest) (s : ClientProcs) → arriving.is_new request.pid s ≡ true → Follows (more_answers one (now tx s)) (now tx (arriving.arrives asker (requests.Transfer request) s))
  transfer_served request s new =
      let c : Counts = more_answers one (now tx s) in
      let told : ClientProcs = says.answers asker bodies.Done s in
      subst (λ (b : Bool). Follows c (now tx (cond (not b) s (arriving.takes_in asker (transfer_arrival request) s)))) (sym new)
      (walks.installed (Holds tx c) no_request (within tx c no_request tt).apart nothing (process_with (transfer_arrival request) request.image) false request.streams told (answer_made (now tx s) bodies.Done s (follows_same (now tx s))))

  pub launch_served : (request : LaunchRequest) (s : ClientProcs) → arriving.is_new request.pid s ≡ true → Follows (more_answers one (now tx s)) (now tx (arriving.arrives asker (requests.Launch request) s))
  launch_served request s new =
      let c : Counts = more_answers one (now tx s) in
      let told : ClientProcs = says.answers asker bodies.Done s in
      subst (λ (b : Bool). Follows c (now tx (cond (not b) s (arriving.takes_in asker (launch_arrival request) s)))) (sym new)
      (walks.launched (Holds tx c) no_request (within tx c no_request tt).apart nothing (fresh_image s.programs request.program 0) (launch_arrival request) request.program request.streams told
      (answer_made (now tx s) bodies.Done s (follows_same (now tx s))))

  -- Asks of pseudo-devices

  pub ask_served : (request : AskRequest) (s : ClientProcs) → Follows (more_asks one (now tx s)) (now tx (asking.serves_ask asker request s))
  ask_served request s =
      let c : Counts = more_asks one (now tx s) in
      let noted : ClientProcs = asking.notes_ask (carried_ask request) (Some asker) s in
      walks.entered_by (Holds tx c) no_request (within tx c no_request tt).apart nothing request.device.number (carried_ask request) noted
      (asks_one (now tx s) (total (ask_of tx) noted.asked) one (total_push (ask_of tx) s.asked (asking.about_ask (carried_ask request), Some asker)))

-- ---- an ask of a device that has no master

found_last_by : {K V : Type 0} (row : K × V) (o q : Option (K × V)) (v : V) (b : Bool) → (option_map (λ (r : K × V). r.1) o ≡ None → option_map (λ (r : K × V). r.1) q ≡ Some v)
    → option_map (λ (r : K × V). r.1) (cond b (Some row) o) ≡ None → option_map (λ (r : K × V). r.1) (cond b (Some row) q) ≡ Some v
found_last_by {K} {V} row o q v true later none = absurd (cc)
found_last_by {K} {V} row o q v false later none = later none

found_self : {K V : Type 0} (key : K) (v : V) (b : Bool) → b ≡ true → option_map (λ (r : K × V). r.1) (cond b (Some (key, v)) None) ≡ Some v
found_self {K} {V} key v true e = refl
found_self {K} {V} key v false e = absurd (cc)

-- the only row of a key is found at the end
found_last : {K V : Type 0} (same : K → K → Bool) (key : K) (v : V) (rows : List (K × V)) → same key key ≡ true → first_under same key rows ≡ None → first_under same key (rows ++ (key, v) ∷ []) ≡ Some v
found_last {K} {V} same key v [] self none = found_self key v (same key key) self
found_last {K} {V} same key v (row ∷ rows) self none =
    found_last_by row (find (is_under same key) rows) (find (is_under same key) (rows ++ (key, v) ∷ [])) v (same row.0 key) (found_last same key v rows self) none

self_about : (about : About) → asking.is_about about about ≡ true
self_about about = ap₂ (λ (b c : Bool). b && c) (eq-eqb about.pid about.pid refl) (eq-eqb about.number about.number refl)

pub self_call : (tx : TxNo) → one_if (is_call tx tx) ≡ 1
self_call tx = ap one_if (eq-eqb tx.0 tx.0 refl)

more_than : (n m f : ℕ) → m ≡ n + f → f ≡ 1 → 1 ≤ m
more_than n m f e g = omega arith

answer_told : (tx : TxNo) (o : Option (Option TxNo)) (pid : ℕ) (reply : Reply) (s : ClientProcs) → o ≡ Some (Some tx) → 1 ≤ total (answer_of tx) (asking.gives_to pid o reply s).files.out.answers
answer_told tx o pid reply s e =
    subst (λ (q : Option (Option TxNo)). 1 ≤ total (answer_of tx) (asking.gives_to pid q reply s).files.out.answers) (sym e)
    (more_than (total (answer_of tx) s.files.out.answers) (total (answer_of tx) (s.files.out.answers ++ (tx, words.packet_of reply) ∷ [])) (one_if (is_call tx tx)) (total_push (answer_of tx) s.files.out.answers (tx, words.packet_of reply)) (self_call tx))

pub dead_ask_served : (tx : TxNo) (request : AskRequest) (s : ClientProcs) → tables.is_alive_at request.device.number s ≡ false → first_under asking.is_about (asking.about_ask (carried_ask request)) s.asked ≡ None → 1 ≤ (now tx (asking.serves_ask tx request s)).answers
dead_ask_served tx request s dead none =
    let about : About = asking.about_ask (carried_ask request) in
    let noted : ClientProcs = asking.notes_ask (carried_ask request) (Some tx) s in
    let ended : ClientProcs = asking.notes_end (carried_ask request) (Error errnos.NoServer) noted in
    subst (λ (b : Bool). 1 ≤ (now tx (cond (not b) (asking.ends_ask (carried_ask request) (Error errnos.NoServer) noted) (getting.serves_getters request.device.number (tables.waits_at request.device.number (carried_ask request) noted)))).answers) (sym dead)
    (answer_told tx (first_under asking.is_about about ended.asked) request.pid (Error errnos.NoServer) (record ended { asked = less (is_under asking.is_about about) ended.asked })
    (found_last asking.is_about about (Some tx) s.asked (self_about about) none))
