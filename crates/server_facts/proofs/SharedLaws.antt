-- Every step keeps that the grants of shared streams are counted, where the requests that it serves fit.
use Rattle.std.proofs.Common.{rules, tests, ◌≡◌, ◌<◌, ℕ, zero, suc, ◌+◌, ◌-◌, ◌==◌, Bool, true, false, ◌&&◌, cond, List, [], ◌∷◌, length, replicate, fold, Option, Some, None, is_some, option_map, refl, sym, ap, subst, ◌∙◌, true≢false, eqb-true, ne_eqb}
use Rattle.std.specs.List.{AllByRecursion, find, list_any}
use Rattle.std.specs.Map.{lookup}
use Rattle.std.proofs.lemmas.Bool.{and_from, eqb-false, eq-eqb}
use Rattle.sprite_ids.specs.declared.Callback.{Callback}
use Rattle.sprite_ids.specs.declared.FileId.{FileId}
use Rattle.sprite_ids.specs.declared.Flushed.{Flushed}
use Rattle.sprite_ids.specs.declared.Grant.{Grant}
use Rattle.sprite_ids.specs.declared.Mode.{Mode}
use Rattle.sprite_ids.specs.declared.StreamNo.{StreamNo}
use Rattle.sprite_ids.specs.declared.TxNo.{TxNo}
use Rattle.sprite_ids.specs.Lists.{less}
use Rattle.sprite_ids.proofs.ListLaws.{some_is}
use Rattle.packet_bodies.specs.declared.CloseRequest.{CloseRequest}
use Rattle.packet_bodies.specs.declared.MoveRequest.{MoveRequest}
use Rattle.packet_bodies.specs.declared.OpeningRequest.{OpeningRequest}
use Rattle.packet_bodies.specs.declared.ReplyBody.{ReplyBody}
use Rattle.packet_bodies.specs.declared.ReplyBody.TheVariants as bodies
use Rattle.packet_bodies.specs.declared.Request.{Request}
use Rattle.packet_bodies.specs.declared.Request.TheVariants as requests
use Rattle.packet_bodies.specs.declared.Target.{Target}
use Rattle.packet_bodies.specs.declared.Target.TheVariants as targets
use Rattle.kernel_steps.specs.declared.Input.{Input}
use Rattle.kernel_steps.specs.declared.Input.TheVariants as inputs
use Rattle.kernel_steps.specs.Rows.{first_under, is_under}
use Rattle.shadow_streams.specs.declared.Shadow.{Shadow}
use Rattle.shadow_streams.specs.Shadows as shadows
use Rattle.shadow_streams.specs.Shadows.{grants_of, is_of, offset_of}
use Rattle.version_table.specs.declared.Action.{Action}
use Rattle.version_table.specs.declared.Action.TheVariants as actions
use Rattle.version_table.specs.declared.Asking.{Asking}
use Rattle.version_table.specs.declared.Open.{Open}
use Rattle.version_table.specs.declared.Versioned.{Versioned}
use Rattle.version_table.specs.Files as tables
use Rattle.version_table.specs.Opens.{is_stream, mode_of, opened, sharing, stream_mode, taken_off}
use Rattle.version_table.specs.Versions.{Files, is_file, or_fresh, file_of, with_file, closing_in, with_closed, forgotten}
use Rattle.version_table.proofs.CoherenceLaws.{fold_same}
use Rattle.version_table.proofs.FileLaws.{file_put}
use Rattle.server_kernel.specs.declared.Asked.{Asked}
use Rattle.server_kernel.specs.declared.CallOut.{CallOut}
use Rattle.server_kernel.specs.declared.Server.{Server}
use Rattle.server_kernel.specs.Files as files
use Rattle.server_kernel.specs.Flags.{opening_mode}
use Rattle.server_kernel.specs.Grants as grants
use Rattle.server_kernel.specs.Opens.{opening_of}
use Rattle.server_kernel.specs.Requests.{moving_of}
use Rattle.server_kernel.specs.Steps as stepping
use Rattle.server_kernel.specs.Waits as waiting
use Rattle.server_kernel.specs.Waits.{first_about, less_about}
use Rattle.server_walks.specs.Actions.{action_by, action_of}
use Rattle.server_walks.proofs.Deeds.{Every, KeepsFit, shares_of}
use Rattle.server_walks.proofs.ServeWalk.{fit_grants, fit_puts, fit_serves, puts_all}
use Rattle.server_facts.specs.Asking.{AreFilesOnce, AskingStands, action_in}
use Rattle.server_facts.specs.Shared.{AreOpensOnce, CloseFits, Fits, FitsAs, GrantFitsAs, IsReadyFor, MoveFits, OpeningFits, SettlesFit, SharedStand, StepFits, StepKeepsWhereFit, StepsFit, TargetFits, TurnsFit, is_shared_in}
use Rattle.server_facts.specs.Steps.{after}
use Rattle.server_facts.proofs.AskingLaws.{Stands, answered_stands, keeps_asking, none, stands_from, step_keeps_asking}
use Rattle.server_facts.proofs.ShadowCounts.{HasPlaces, added_here, added_once, added_there, by_stream, close_beside, close_here, close_places, count_of_open, counted_here, counted_other, grant_beside, grant_here, grant_places, is_key, off_here, off_once, off_there, offset_places, offset_same, put_any, same_stream, share_beside, share_found, share_places}
use Rattle.server_facts.proofs.Tables.{by_file, file_gone, file_left, file_other, less_none, once_left, once_put, turned}

pub record Counts (table : Files) (list : List Shadow) : Type 0 where
  pub counted : (file : FileId) (stream : StreamNo) (kernel : ℕ) → 0 < kernel → is_shared_in table file stream ≡ true → grants_of list stream kernel ≡ count_of_open (file_of table file).opens stream kernel
  pub ready : (file : FileId) → IsReadyFor (file_of table file).opens (file_of table file).shared (file_of table file).asking
  pub opens : (file : FileId) → AreOpensOnce (file_of table file).opens
  pub places : AllByRecursion HasPlaces list
  pub once : AreFilesOnce table

-- whether the grants of a file's shared streams are those of its opens
abbrev IsCounted : List Shadow → Versioned → Type 0
IsCounted list versioned = (stream : StreamNo) (kernel : ℕ) → 0 < kernel → list_any (is_stream stream) versioned.shared ≡ true → grants_of list stream kernel ≡ count_of_open versioned.opens stream kernel

abbrev IsReady : Versioned → Type 0
IsReady versioned = IsReadyFor versioned.opens versioned.shared versioned.asking

-- the grants of streams that other files have shared stay
abbrev OthersStay : Files → FileId → List Shadow → List Shadow → Type 0
OthersStay table file list new = (other : FileId) (stream : StreamNo) (kernel : ℕ) → is_file file other ≡ false → is_shared_in table other stream ≡ true → grants_of new stream kernel ≡ grants_of list stream kernel

module _ (table : Files) (list new : List Shadow) (file : FileId) where
  put_counts : (versioned : Versioned) → IsCounted new versioned → OthersStay table file list new → IsReady versioned → AreOpensOnce versioned.opens → AllByRecursion HasPlaces new → Counts table list → Counts (with_file table file versioned) new
  put_counts versioned counted stay ready opens places h = record {
    counted = λ other stream kernel low shared. by_file file other (grants_of new stream kernel ≡ count_of_open (file_of after other).opens stream kernel)
        (λ e. subst (λ (f : FileId). grants_of new stream kernel ≡ count_of_open (file_of after f).opens stream kernel) e
        (counted stream kernel low (sym (ap (λ (v : Versioned). list_any (is_stream stream) v.shared) now) ∙ (ap (λ (f : FileId). is_shared_in after f stream) e ∙ shared)) ∙ sym (ap (λ (v : Versioned). count_of_open v.opens stream kernel) now)))
        (λ off.
        let before : is_shared_in table other stream ≡ true = sym (ap (λ (v : Versioned). list_any (is_stream stream) v.shared) (beside other off)) ∙ shared in
        stay other stream kernel off before ∙ (h.counted other stream kernel low before ∙ sym (ap (λ (v : Versioned). count_of_open v.opens stream kernel) (beside other off))));
    ready = λ other. by_file file other (IsReady (file_of after other))
        (λ e. subst (λ (f : FileId). IsReady (file_of after f)) e (subst IsReady (sym now) ready))
        (λ off. subst IsReady (sym (beside other off)) (h.ready other));
    opens = λ other. by_file file other (AreOpensOnce (file_of after other).opens)
        (λ e. subst (λ (f : FileId). AreOpensOnce (file_of after f).opens) e (subst (λ (v : Versioned). AreOpensOnce v.opens) (sym now) opens))
        (λ off. subst (λ (v : Versioned). AreOpensOnce v.opens) (sym (beside other off)) (h.opens other));
    places = places;
    once = once_put table file versioned h.once;
  }
    where
      after : Files
      after = with_file table file versioned

      now : file_of after file ≡ versioned
      now = file_put table file versioned

      beside : (other : FileId) → is_file file other ≡ false → file_of after other ≡ file_of table other
      beside other off = file_other table file other versioned (turned file other off)

  -- the file is forgotten, of a table that is the same for all others
  gone_counts : (closed : Files) → AreFilesOnce closed → ((other : FileId) → is_file file other ≡ false → file_of closed other ≡ file_of table other) → OthersStay table file list new → AllByRecursion HasPlaces new → Counts table list → Counts (forgotten closed file) new
  gone_counts closed once same stay places h = record {
    counted = λ other stream kernel low shared. by_file file other (grants_of new stream kernel ≡ count_of_open (file_of after other).opens stream kernel)
        (λ e. absurd (true≢false (sym shared ∙ (sym (ap (λ (f : FileId). is_shared_in after f stream) e) ∙ ap (λ (v : Versioned). list_any (is_stream stream) v.shared) (file_gone closed file once)))))
        (λ off.
        let before : is_shared_in table other stream ≡ true = sym (ap (λ (v : Versioned). list_any (is_stream stream) v.shared) (beside other off)) ∙ shared in
        stay other stream kernel off before ∙ (h.counted other stream kernel low before ∙ sym (ap (λ (v : Versioned). count_of_open v.opens stream kernel) (beside other off))));
    ready = λ other. by_file file other (IsReady (file_of after other))
        (λ e. subst (λ (f : FileId). IsReady (file_of after f)) e (subst IsReady (sym (file_gone closed file once)) tt))
        (λ off. subst IsReady (sym (beside other off)) (h.ready other));
    opens = λ other. by_file file other (AreOpensOnce (file_of after other).opens)
        (λ e. subst (λ (f : FileId). AreOpensOnce (file_of after f).opens) e (subst (λ (v : Versioned). AreOpensOnce v.opens) (sym (file_gone closed file once)) (λ stream kernel. refl)))
        (λ off. subst (λ (v : Versioned). AreOpensOnce v.opens) (sym (beside other off)) (h.opens other));
    places = places;
    once = once_left closed file once;
  }
    where
      after : Files
      after = forgotten closed file

      beside : (other : FileId) → is_file file other ≡ false → file_of after other ≡ file_of table other
      beside other off = file_left closed file other (turned file other off) ∙ same other off

-- ---- what a grant makes of a file

record Effect (before after : Versioned) (action : Action) : Type 0 where
  opens : after.opens ≡ opened before.opens action
  shared : after.shared ≡ sharing before.shared action
  asking : after.asking ≡ None

decided_effect : (cached : Bool) (file : Versioned) (action : Action) → tables.calls_of cached file action ≡ [] → Effect file (tables.decided cached file action) action
decided_effect cached file action e =
    let told : Versioned = tables.told (tables.is_uncached cached file action) file in
    record {
      opens = ap (λ (calls : List Callback). (tables.deciding told action calls).opens) e;
      shared = ap (λ (calls : List Callback). (tables.deciding told action calls).shared) e;
      asking = ap (λ (calls : List Callback). (tables.deciding told action calls).asking) e;
    }

settled_effect : (asking : Asking) (file : Versioned) → IsReadyFor file.opens file.shared (Some asking) → Effect file (tables.settling file (Some asking)) asking.action
settled_effect asking file ready = record { opens = ready.0; shared = ready.1; asking = refl }

none_ready : (versioned : Versioned) → versioned.asking ≡ None → IsReady versioned
none_ready versioned e = subst (IsReadyFor versioned.opens versioned.shared) (sym e) tt

-- ---- which stream, which kernel

itself : (stream : StreamNo) → is_stream stream stream ≡ true
itself stream = search (rules, tests)

key_itself : (stream : StreamNo) (kernel : ℕ) → is_key stream kernel stream kernel ≡ true
key_itself stream kernel = and_from (is_stream stream stream) (kernel == kernel) (itself stream) (eq-eqb kernel kernel refl)

other_stream : (stream other : StreamNo) (kernel at : ℕ) → is_stream other stream ≡ false → is_key other at stream kernel ≡ false
other_stream stream other kernel at off = ap (λ b. b && (kernel == at)) off

other_kernel : (stream : StreamNo) (kernel at : ℕ) → (kernel ≡ at → ⊥) → is_key stream at stream kernel ≡ false
other_kernel stream kernel at off = right_no (is_stream stream stream) (kernel == at) (ne_eqb kernel at off)
  where
    right_no : (a b : Bool) → b ≡ false → (a && b) ≡ false
    right_no true b e = e
    right_no false b e = refl

by_kernel : (one other : ℕ) (G : Type 0) → (one ≡ other → G) → ((one ≡ other → ⊥) → G) → G
by_kernel one other G here there = by_test (one == other) refl
  where
    by_test : (b : Bool) → (one == other) ≡ b → G
    by_test true e = here (eqb-true one other e)
    by_test false e = there (eqb-false one other e)

-- ---- an open

opening_counts : (table : Files) (list : List Shadow) (file : FileId) (after : Versioned) (from : ℕ) (stream : StreamNo) (mode : Mode) (truncate : Bool) → Effect (file_of table file) after (actions.Opening from stream mode truncate) → OpeningFits table stream → Counts table list → Counts (with_file table file after) list
opening_counts table list file after from stream mode truncate effect fits h =
    put_counts table list list file after counted (λ other t kernel off shared. refl) (none_ready after effect.asking)
    (subst AreOpensOnce (sym effect.opens) (added_once (file_of table file).opens stream from mode (key_itself stream from) (h.opens file))) h.places h
  where
    counted : IsCounted list after
    counted other kernel low shared =
        let before : is_shared_in table file other ≡ true = sym (ap (list_any (is_stream other)) effect.shared) ∙ shared in
        by_stream other stream (grants_of list other kernel ≡ count_of_open after.opens other kernel)
        (λ e. absurd (true≢false (sym before ∙ (ap (is_shared_in table file) (sym e) ∙ fits file))))
        (λ off. h.counted file other kernel low before ∙ (sym (added_there (file_of table file).opens stream from mode other kernel (other_stream stream other from kernel off)) ∙ sym (ap (λ (opens : List Open). count_of_open opens other kernel) effect.opens)))

-- ---- a move

module _ (opens : List Open) (stream : StreamNo) (from to many : ℕ) (once : AreOpensOnce opens) (differ : from ≡ to → ⊥) where
  abbrev moved : Bool → List Open
  moved kept = opened opens (actions.Moving stream from to kept many)

  moved_to : (kept : Bool) → count_of_open (moved kept) stream to ≡ count_of_open opens stream to + 1
  moved_to true = added_here opens stream to (mode_of opens (actions.Moving stream from to true many)) (key_itself stream to)
  moved_to false = added_here (taken_off opens stream from many) stream to (mode_of opens (actions.Moving stream from to false many)) (key_itself stream to) ∙ ap (λ n. n + 1) (off_there opens stream from many stream to (other_kernel stream from to differ))

  moved_from : count_of_open (moved false) stream from ≡ count_of_open opens stream from - many
  moved_from = added_there (taken_off opens stream from many) stream to (mode_of opens (actions.Moving stream from to false many)) stream from (other_kernel stream to from (λ e. differ (sym e))) ∙ off_here opens stream from many (once stream from)

  moved_kept : (kernel : ℕ) → (to ≡ kernel → ⊥) → count_of_open (moved true) stream kernel ≡ count_of_open opens stream kernel
  moved_kept kernel off = added_there opens stream to (mode_of opens (actions.Moving stream from to true many)) stream kernel (other_kernel stream to kernel off)

  moved_other : (kernel : ℕ) → (to ≡ kernel → ⊥) → (from ≡ kernel → ⊥) → count_of_open (moved false) stream kernel ≡ count_of_open opens stream kernel
  moved_other kernel off away = added_there (taken_off opens stream from many) stream to (mode_of opens (actions.Moving stream from to false many)) stream kernel (other_kernel stream to kernel off) ∙ off_there opens stream from many stream kernel (other_kernel stream from kernel away)

  moved_beside : (kept : Bool) (other : StreamNo) (kernel : ℕ) → is_stream other stream ≡ false → count_of_open (moved kept) other kernel ≡ count_of_open opens other kernel
  moved_beside true other kernel off = added_there opens stream to (mode_of opens (actions.Moving stream from to true many)) other kernel (other_stream stream other to kernel off)
  moved_beside false other kernel off = added_there (taken_off opens stream from many) stream to (mode_of opens (actions.Moving stream from to false many)) other kernel (other_stream stream other to kernel off) ∙ off_there opens stream from many other kernel (other_stream stream other from kernel off)

  moved_once : (kept : Bool) → AreOpensOnce (moved kept)
  moved_once true = added_once opens stream to (mode_of opens (actions.Moving stream from to true many)) (key_itself stream to) once
  moved_once false = added_once (taken_off opens stream from many) stream to (mode_of opens (actions.Moving stream from to false many)) (key_itself stream to) (off_once opens stream from many once)

sharing_beside : (kept : Bool) (shared : List StreamNo) (stream other : StreamNo) (from to many : ℕ) → is_stream other stream ≡ false → list_any (is_stream other) (sharing shared (actions.Moving stream from to kept many)) ≡ list_any (is_stream other) shared
sharing_beside true shared stream other from to many off = put_any (is_stream stream) (is_stream other) stream shared (λ y e. ap (is_stream other) (same_stream stream y e) ∙ off) off
sharing_beside false shared stream other from to many off = refl

some_offset : (o : Option Shadow) → is_some (option_map (λ (shadow : Shadow). shadow.offset) o) ≡ is_some o
some_offset (Some shadow) = refl
some_offset None = refl

module _ (table : Files) (list : List Shadow) (file : FileId) (after : Versioned) (from : ℕ) (r : MoveRequest) (kept : Bool) (effect : Effect (file_of table file) after (actions.Moving r.stream from r.to kept r.grants)) (fits : MoveFits table list file from r) (h : Counts table list) where
  abbrev before : List Open
  before = (file_of table file).opens

  -- grants that change for that stream alone
  moved_put : (new : List Shadow) → ((other : StreamNo) (kernel : ℕ) → is_stream other r.stream ≡ false → grants_of new other kernel ≡ grants_of list other kernel)
      → ((kernel : ℕ) → 0 < kernel → list_any (is_stream r.stream) after.shared ≡ true → grants_of new r.stream kernel ≡ count_of_open after.opens r.stream kernel)
      → AllByRecursion HasPlaces new → Counts (with_file table file after) new
  moved_put new beside here places =
      put_counts table list new file after counted
      (λ other stream kernel off shared. by_stream stream r.stream (grants_of new stream kernel ≡ grants_of list stream kernel)
      (λ e. absurd (true≢false (sym shared ∙ (ap (is_shared_in table other) (sym e) ∙ fits.alone other off))))
      (λ away. beside stream kernel away))
      (none_ready after effect.asking) (subst AreOpensOnce (sym effect.opens) (moved_once before r.stream from r.to r.grants (h.opens file) fits.apart kept)) places h
    where
      counted : IsCounted new after
      counted stream kernel low shared = by_stream stream r.stream (grants_of new stream kernel ≡ count_of_open after.opens stream kernel)
          (λ e. subst (λ (t : StreamNo). grants_of new t kernel ≡ count_of_open after.opens t kernel) e (here kernel low (ap (λ (t : StreamNo). list_any (is_stream t) after.shared) e ∙ shared)))
          (λ off.
          let was : is_shared_in table file stream ≡ true = sym (ap (list_any (is_stream stream)) effect.shared ∙ sharing_beside kept (file_of table file).shared r.stream stream from r.to r.grants off) ∙ shared in
          beside stream kernel off ∙ (h.counted file stream kernel low was ∙ (sym (moved_beside before r.stream from r.to r.grants (h.opens file) fits.apart kept stream kernel off) ∙ sym (ap (λ (opens : List Open). count_of_open opens stream kernel) effect.opens))))

  -- the count after the move
  after_is : (kernel n : ℕ) → count_of_open (opened before (actions.Moving r.stream from r.to kept r.grants)) r.stream kernel ≡ n → n ≡ count_of_open after.opens r.stream kernel
  after_is kernel n e = sym (ap (λ (opens : List Open). count_of_open opens r.stream kernel) effect.opens ∙ e)

shared_was : (table : Files) (list : List Shadow) (file : FileId) (from : ℕ) (r : MoveRequest) → MoveFits table list file from r → Counts table list → is_some (offset_of list r.stream) ≡ true → (kernel : ℕ) → 0 < kernel → grants_of list r.stream kernel ≡ count_of_open (file_of table file).opens r.stream kernel
shared_was table list file from r fits h there kernel low = h.counted file r.stream kernel low (fits.same ∙ there)

-- a shared stream has one open more
joins_kept : (table : Files) (list : List Shadow) (file : FileId) (after : Versioned) (from : ℕ) (r : MoveRequest) → Effect (file_of table file) after (actions.Moving r.stream from r.to true r.grants) → MoveFits table list file from r → Counts table list → is_some (offset_of list r.stream) ≡ true → Counts (with_file table file after) (shadows.grant list r.stream r.to)
joins_kept table list file after from r effect fits h there =
    moved_put table list file after from r true effect fits h (shadows.grant list r.stream r.to) (λ other kernel off. ap (shadows.held kernel) (grant_beside list other r.stream r.to off))
    (λ kernel low shared.
    let given = grant_here list r.stream r.to kernel (sym (some_offset (find (is_of r.stream) list)) ∙ there) h.places fits.to_is.0 fits.to_is.1 low in
    let was = shared_was table list file from r fits h there kernel low in
    by_kernel r.to kernel (grants_of (shadows.grant list r.stream r.to) r.stream kernel ≡ count_of_open after.opens r.stream kernel)
    (λ e. given.0 (sym e) ∙ (ap (λ n. n + 1) was ∙ after_is table list file after from r true effect fits h kernel _ (subst (λ k. count_of_open (opened opens (actions.Moving r.stream from r.to true r.grants)) r.stream k ≡ count_of_open opens r.stream k + 1) e (moved_to opens r.stream from r.to r.grants (h.opens file) fits.apart true))))
    (λ off. given.1 off ∙ (was ∙ after_is table list file after from r true effect fits h kernel _ (moved_kept opens r.stream from r.to r.grants (h.opens file) fits.apart kernel off))))
    (grant_places list r.stream r.to h.places)
  where
    opens : List Open
    opens = (file_of table file).opens

-- and its source's grants are taken off
joins_left : (table : Files) (list : List Shadow) (file : FileId) (after : Versioned) (from : ℕ) (r : MoveRequest) → Effect (file_of table file) after (actions.Moving r.stream from r.to false r.grants) → MoveFits table list file from r → Counts table list → is_some (offset_of list r.stream) ≡ true
    → Counts (with_file table file after) (shadows.close (shadows.grant list r.stream r.to) r.stream from r.grants)
joins_left table list file after from r effect fits h there =
    moved_put table list file after from r false effect fits h new
    (λ other kernel off. ap (shadows.held kernel) (close_beside given_list other r.stream from r.grants off ∙ grant_beside list other r.stream r.to off))
    (λ kernel low shared.
    let given = grant_here list r.stream r.to kernel (sym (some_offset (find (is_of r.stream) list)) ∙ there) h.places fits.to_is.0 fits.to_is.1 low in
    let taken = close_here given_list r.stream from r.grants kernel (grant_places list r.stream r.to h.places) fits.from_is.0 fits.from_is.1 low in
    let was = shared_was table list file from r fits h there kernel low in
    by_kernel r.to kernel (grants_of new r.stream kernel ≡ count_of_open after.opens r.stream kernel)
    (λ e. taken.1 (λ k. fits.apart (k ∙ sym e)) ∙ (given.0 (sym e) ∙ (ap (λ n. n + 1) was ∙ after_is table list file after from r false effect fits h kernel _ (subst (λ k. count_of_open (opened opens (actions.Moving r.stream from r.to false r.grants)) r.stream k ≡ count_of_open opens r.stream k + 1) e (moved_to opens r.stream from r.to r.grants (h.opens file) fits.apart false)))))
    (λ off. by_kernel from kernel (grants_of new r.stream kernel ≡ count_of_open after.opens r.stream kernel)
    (λ e. taken.0 (sym e) ∙ (ap (λ n. n - r.grants) (given.1 off ∙ was) ∙ after_is table list file after from r false effect fits h kernel _ (subst (λ k. count_of_open (opened opens (actions.Moving r.stream from r.to false r.grants)) r.stream k ≡ count_of_open opens r.stream k - r.grants) e (moved_from opens r.stream from r.to r.grants (h.opens file) fits.apart))))
    (λ away. taken.1 away ∙ (given.1 off ∙ (was ∙ after_is table list file after from r false effect fits h kernel _ (moved_other opens r.stream from r.to r.grants (h.opens file) fits.apart kernel off away))))))
    (close_places given_list r.stream from r.grants (grant_places list r.stream r.to h.places))
  where
    opens : List Open
    opens = (file_of table file).opens

    given_list : List Shadow
    given_list = shadows.grant list r.stream r.to

    new : List Shadow
    new = shadows.close given_list r.stream from r.grants

-- a stream becomes shared
becomes_shared : (table : Files) (list : List Shadow) (file : FileId) (after : Versioned) (from : ℕ) (r : MoveRequest) (offset many : ℕ) → many ≡ count_of_open after.opens r.stream from → r.kept ≡ true → Effect (file_of table file) after (actions.Moving r.stream from r.to true r.grants) → MoveFits table list file from r → Counts table list → is_some (offset_of list r.stream) ≡ false
    → Counts (with_file table file after) (shadows.grant (shadows.share list r.stream offset (replicate many from)) r.stream r.to)
becomes_shared table list file after from r offset many same_many kept effect fits h there =
    moved_put table list file after from r true effect fits h new
    (λ other kernel off. ap (shadows.held kernel) (grant_beside shared_list other r.stream r.to off ∙ share_beside list other r.stream offset (replicate many from) off))
    (λ kernel low shared.
    let given = grant_here shared_list r.stream r.to kernel (ap is_some found) places fits.to_is.0 fits.to_is.1 low in
    by_kernel r.to kernel (grants_of new r.stream kernel ≡ count_of_open after.opens r.stream kernel)
    (λ e. given.0 (sym e) ∙ (ap (λ n. n + 1) ((ap (shadows.held kernel) found ∙ counted_other many from kernel fits.from_is.0 low (λ k. fits.apart (k ∙ sym e))) ∙ sym (fits.source there kept kernel (λ k. fits.apart (k ∙ sym e))))
    ∙ after_is table list file after from r true effect fits h kernel _ (subst (λ k. count_of_open (opened opens (actions.Moving r.stream from r.to true r.grants)) r.stream k ≡ count_of_open opens r.stream k + 1) e (moved_to opens r.stream from r.to r.grants (h.opens file) fits.apart true))))
    (λ off. given.1 off ∙ (ap (shadows.held kernel) found ∙ by_kernel from kernel (shadows.count_of kernel (shadows.counted (replicate many from)) ≡ count_of_open after.opens r.stream kernel)
    (λ e. subst (λ k. shadows.count_of k (shadows.counted (replicate many from)) ≡ count_of_open after.opens r.stream k) e (counted_here many from fits.from_is.0 fits.from_is.1 ∙ same_many))
    (λ away. counted_other many from kernel fits.from_is.0 low away ∙ (sym (fits.source there kept kernel away) ∙ after_is table list file after from r true effect fits h kernel _ (moved_kept opens r.stream from r.to r.grants (h.opens file) fits.apart kernel off))))))
    (grant_places shared_list r.stream r.to places)
  where
    opens : List Open
    opens = (file_of table file).opens

    shared_list : List Shadow
    shared_list = shadows.share list r.stream offset (replicate many from)

    new : List Shadow
    new = shadows.grant shared_list r.stream r.to

    found : find (is_of r.stream) shared_list ≡ Some (record { stream = r.stream; offset = offset; grants = shadows.counted (replicate many from) })
    found = share_found list r.stream offset (replicate many from) (itself r.stream)

    places : AllByRecursion HasPlaces shared_list
    places = share_places list r.stream offset many from h.places

-- a stream that isn't shared goes over
goes_over : (table : Files) (list : List Shadow) (file : FileId) (after : Versioned) (from : ℕ) (r : MoveRequest) → Effect (file_of table file) after (actions.Moving r.stream from r.to false r.grants) → MoveFits table list file from r → Counts table list → is_some (offset_of list r.stream) ≡ false → Counts (with_file table file after) list
goes_over table list file after from r effect fits h there =
    moved_put table list file after from r false effect fits h list (λ other kernel off. refl)
    (λ kernel low shared. absurd (true≢false (sym shared ∙ (ap (list_any (is_stream r.stream)) effect.shared ∙ (fits.same ∙ there))))) h.places

-- ---- a server serves

abbrev P : Server → Type 0
P s = Counts s.versions.files s.shadows

moves_by : (found kept : Bool) (asked : Asked) (r : MoveRequest) (file : FileId) (table : Files) (after : Versioned) (s : Server) → r.kept ≡ kept → is_some (offset_of s.shadows r.stream) ≡ found → s.versions.files ≡ with_file table file after → Effect (file_of table file) after (actions.Moving r.stream asked.from r.to kept r.grants) → MoveFits table s.shadows file asked.from r → Counts table s.shadows
    → P (cond found (cond kept (grants.counts_grant r s) (grants.drops_grants asked.from r (grants.counts_grant r s))) (cond kept (grants.shares_first asked r file s) s))
moves_by true true asked r file table after s k found same effect fits h = subst (λ (t : Files). Counts t (shadows.grant s.shadows r.stream r.to)) (sym same) (joins_kept table s.shadows file after asked.from r effect fits h found)
moves_by true false asked r file table after s k found same effect fits h = subst (λ (t : Files). Counts t (shadows.close (shadows.grant s.shadows r.stream r.to) r.stream asked.from r.grants)) (sym same) (joins_left table s.shadows file after asked.from r effect fits h found)
moves_by false true asked r file table after s k found same effect fits h =
    let many : ℕ = files.count_at file r.stream asked.from s in
    let now : many ≡ count_of_open after.opens r.stream asked.from = ap (λ (t : Files). count_of_open (file_of t file).opens r.stream asked.from) same ∙ ap (λ (v : Versioned). count_of_open v.opens r.stream asked.from) (file_put table file after) in
    subst (λ (t : Files). Counts t (shadows.grant (shadows.share s.shadows r.stream (files.offset_or 0 r.offset) (replicate many asked.from)) r.stream r.to)) (sym same) (becomes_shared table s.shadows file after asked.from r (files.offset_or 0 r.offset) many now k effect fits h found)
moves_by false false asked r file table after s k found same effect fits h = subst (λ (t : Files). Counts t s.shadows) (sym same) (goes_over table s.shadows file after asked.from r effect fits h found)

opens_by : (o : Option Mode) (r : OpeningRequest) (file : FileId) (from : ℕ) (action : Action) (table : Files) (list : List Shadow) (after : Versioned) → option_map (opening_of from r) o ≡ Some action → Effect (file_of table file) after action → OpeningFits table r.stream → Counts table list → Counts (with_file table file after) list
opens_by (Some mode) r file from action table list after e effect fits h = opening_counts table list file after from r.stream mode _ (subst (Effect (file_of table file) after) (sym (some_is (opening_of from r mode) action e)) effect) fits h
opens_by None r file from action table list after e effect fits h = absurd (cc)

-- what is asked takes effect on the table, and on the shadows
takes_effect : (body : Request) (asked : Asked) (file : FileId) (action : Action) (table : Files) (after : Versioned) (s : Server) → action_by body asked.from ≡ Some action → s.versions.files ≡ with_file table file after → Effect (file_of table file) after action → GrantFitsAs body asked.from file table s.shadows → Counts table s.shadows
    → P (shares_of body asked file s)
takes_effect (requests.Opening r) asked file action table after s e same effect fits h = subst (λ (t : Files). Counts t s.shadows) (sym same) (opens_by (opening_mode r.flags) r file asked.from action table s.shadows after e effect fits h)
takes_effect (requests.Move r) asked file action table after s e same effect fits h =
    moves_by (is_some (offset_of s.shadows r.stream)) r.kept asked r file table after s refl refl same (subst (Effect (file_of table file) after) (sym (some_is (moving_of asked.from r) action e)) effect) fits h
takes_effect body asked file action table after s e same effect fits h = absurd (cc)

-- a request that is served on a file that isn't busy
grant_fits : (body : Request) (from : ℕ) (file : FileId) (table : Files) (list : List Shadow) → FitsAs body from table list → ((r : MoveRequest) → body ≡ requests.Move r → r.object ≡ targets.File file) → tables.is_busy (file_of table file) ≡ false → GrantFitsAs body from file table list
grant_fits (requests.Opening r) from file table list fits about free = fits
grant_fits (requests.Move r) from file table list fits about free = subst (λ (target : Target). TargetFits table target (λ (f : FileId). MoveFits table list f from r)) (about r refl) fits free
grant_fits body from file table list fits about free = tt

fold_ready : (calls : List Callback) (file : Versioned) → IsReady file → IsReady (fold tables.called file calls)
fold_ready [] file h = h
fold_ready (call ∷ calls) file h = fold_ready calls (tables.called file call) h

asked_ready : (cached : Bool) (file : Versioned) (action : Action) (call : Callback) (calls : List Callback) → tables.calls_of cached file action ≡ call ∷ calls → IsReady (tables.decided cached file action)
asked_ready cached file action call calls e =
    let told : Versioned = tables.told (tables.is_uncached cached file action) file in
    subst (λ (calls : List Callback). IsReady (tables.deciding told action calls)) (sym e) (fold_ready (call ∷ calls) (tables.waiting told action) (refl, refl))

asked_part : {F : Type 0} (part : Versioned → F) → ((file : Versioned) (call : Callback) → part (tables.called file call) ≡ part file) → (cached : Bool) (file : Versioned) (action : Action) (call : Callback) (calls : List Callback) → tables.calls_of cached file action ≡ call ∷ calls → part (tables.decided cached file action) ≡ part (tables.waiting (tables.told (tables.is_uncached cached file action) file) action)
asked_part part keeps cached file action call calls e =
    let told : Versioned = tables.told (tables.is_uncached cached file action) file in
    ap (λ (calls : List Callback). part (tables.deciding told action calls)) e ∙ fold_same part keeps (tables.waiting told action) (call ∷ calls)

asks_counts : (s : Server) (file : FileId) (action : Action) (call : Callback) (calls : List Callback) → tables.calls_of s.versions.cached (files.kept_of file s) action ≡ call ∷ calls → P s → Counts (with_file s.versions.files file (tables.decided s.versions.cached (files.kept_of file s) action)) s.shadows
asks_counts s file action call calls e h =
    let kept : Versioned = files.kept_of file s in
    let new : Versioned = tables.decided s.versions.cached kept action in
    let opens : new.opens ≡ kept.opens = asked_part (λ (v : Versioned). v.opens) (λ v c. refl) s.versions.cached kept action call calls e in
    let shared : new.shared ≡ kept.shared = asked_part (λ (v : Versioned). v.shared) (λ v c. refl) s.versions.cached kept action call calls e in
    put_counts s.versions.files s.shadows s.shadows file new
    (λ stream kernel low there. h.counted file stream kernel low (sym (ap (list_any (is_stream stream)) shared) ∙ there) ∙ sym (ap (λ (opens : List Open). count_of_open opens stream kernel) opens))
    (λ other stream kernel off there. refl) (asked_ready s.versions.cached kept action call calls e) (subst AreOpensOnce (sym opens) (h.opens file)) h.places h

calls_all : (calls : List Callback) (asked : Asked) (s : Server) → P s → P (grants.calls_all asked calls s)
calls_all [] asked s p = p
calls_all (call ∷ calls) asked s p = calls_all calls asked (grants.calls_one asked call s) p

-- ---- a close

shared_still : (keep : Bool) (p q : StreamNo → Bool) (shared : List StreamNo) → list_any p (cond keep shared (less q shared)) ≡ true → list_any p shared ≡ true
shared_still true p q shared e = e
shared_still false p q shared e = by_test (list_any p shared) refl
  where
    by_test : (b : Bool) → list_any p shared ≡ b → list_any p shared ≡ true
    by_test true k = k
    by_test false k = absurd (true≢false (sym e ∙ less_none p q shared k))

closing_counts : (o : Option Versioned) (table : Files) (list : List Shadow) (file : FileId) (from : ℕ) (stream : StreamNo) (many : ℕ) (mode : Mode) → lookup (is_file file) table ≡ o → stream_mode (or_fresh file o).opens stream ≡ Some mode → tables.is_busy (or_fresh file o) ≡ false → CloseFits table file from stream → Counts table list
    → Counts (closing_in table file from stream many o) (shadows.close list stream from many)
closing_counts None table list file from stream many mode e there free fits h = absurd (cc)
closing_counts (Some versioned) table list file from stream many mode e there free fits h =
    put_counts table list new file (tables.closed versioned from stream many) counted
    (λ other t kernel off shared. others_stay table list file from stream many fits other t kernel off shared)
    (none_ready (tables.closed versioned from stream many) (free_none versioned.asking free)) (off_once versioned.opens stream from many (subst (λ (v : Versioned). AreOpensOnce v.opens) found (h.opens file)))
    (close_places list stream from many h.places) h
  where
    new : List Shadow
    new = shadows.close list stream from many

    found : file_of table file ≡ versioned
    found = ap (or_fresh file) e

    free_none : (o : Option Asking) → is_some o ≡ false → o ≡ None
    free_none (Some asking) e = absurd (cc)
    free_none None e = refl

    others_stay : (table : Files) (list : List Shadow) (file : FileId) (from : ℕ) (stream : StreamNo) (many : ℕ) → CloseFits table file from stream → OthersStay table file list (shadows.close list stream from many)
    others_stay table list file from stream many fits other t kernel off shared = by_stream t stream (grants_of (shadows.close list stream from many) t kernel ≡ grants_of list t kernel)
        (λ e. absurd (true≢false (sym shared ∙ (ap (is_shared_in table other) (sym e) ∙ fits.alone other off))))
        (λ away. ap (shadows.held kernel) (close_beside list t stream from many away))

    was : (t : StreamNo) → list_any (is_stream t) (tables.closed versioned from stream many).shared ≡ true → is_shared_in table file t ≡ true
    was t shared = ap (λ (v : Versioned). list_any (is_stream t) v.shared) found ∙ shared_still _ (is_stream t) (is_stream stream) versioned.shared shared

    counted : IsCounted new (tables.closed versioned from stream many)
    counted t kernel low shared =
        let before = h.counted file t kernel low (was t shared) ∙ ap (λ (v : Versioned). count_of_open v.opens t kernel) found in
        by_stream t stream (grants_of new t kernel ≡ count_of_open (taken_off versioned.opens stream from many) t kernel)
        (λ e. by_kernel from kernel (grants_of new t kernel ≡ count_of_open (taken_off versioned.opens stream from many) t kernel)
        (λ k. subst (λ (u : StreamNo). grants_of new u kernel ≡ count_of_open (taken_off versioned.opens stream from many) u kernel) e
        ((close_here list stream from many kernel h.places fits.from_is.0 fits.from_is.1 low).0 (sym k)
        ∙ (ap (λ n. n - many) (subst (λ (u : StreamNo). grants_of list u kernel ≡ count_of_open versioned.opens u kernel) (sym e) before)
        ∙ subst (λ n. count_of_open versioned.opens stream n - many ≡ count_of_open (taken_off versioned.opens stream from many) stream n) k (sym (off_here versioned.opens stream from many (subst (λ (v : Versioned). AreOpensOnce v.opens) found (h.opens file) stream from))))))
        (λ away. subst (λ (u : StreamNo). grants_of new u kernel ≡ count_of_open (taken_off versioned.opens stream from many) u kernel) e
        ((close_here list stream from many kernel h.places fits.from_is.0 fits.from_is.1 low).1 away
        ∙ (subst (λ (u : StreamNo). grants_of list u kernel ≡ count_of_open versioned.opens u kernel) (sym e) before ∙ sym (off_there versioned.opens stream from many stream kernel (other_kernel stream from kernel away))))))
        (λ off. ap (shadows.held kernel) (close_beside list t stream from many off) ∙ (before ∙ sym (off_there versioned.opens stream from many t kernel (other_stream stream t from kernel off))))

others_closed : (table : Files) (list : List Shadow) (file : FileId) (from : ℕ) (stream : StreamNo) (many : ℕ) → CloseFits table file from stream → OthersStay table file list (shadows.close list stream from many)
others_closed table list file from stream many fits other t kernel off shared = by_stream t stream (grants_of (shadows.close list stream from many) t kernel ≡ grants_of list t kernel)
    (λ e. absurd (true≢false (sym shared ∙ (ap (is_shared_in table other) (sym e) ∙ fits.alone other off))))
    (λ away. ap (shadows.held kernel) (close_beside list t stream from many away))

closing_once : (o : Option Versioned) (table : Files) (file : FileId) (kernel : ℕ) (stream : StreamNo) (many : ℕ) → AreFilesOnce table → AreFilesOnce (closing_in table file kernel stream many o)
closing_once None table file kernel stream many once = once
closing_once (Some versioned) table file kernel stream many once = once_put table file (tables.closed versioned kernel stream many) once

closing_beside : (o : Option Versioned) (table : Files) (file other : FileId) (kernel : ℕ) (stream : StreamNo) (many : ℕ) → is_file file other ≡ false → file_of (closing_in table file kernel stream many o) other ≡ file_of table other
closing_beside None table file other kernel stream many off = refl
closing_beside (Some versioned) table file other kernel stream many off = file_other table file other (tables.closed versioned kernel stream many) (turned file other off)

close_fits : (asked : Asked) (r : CloseRequest) (file : FileId) (table : Files) (list : List Shadow) → asked.body ≡ requests.Close r → r.object ≡ targets.File file → Fits asked table list → tables.is_busy (file_of table file) ≡ false → CloseFits table file asked.from r.stream
close_fits asked r file table list e o fits free =
    subst (λ (target : Target). TargetFits table target (λ (f : FileId). CloseFits table f asked.from r.stream)) o (subst (λ (body : Request). FitsAs body asked.from table list) e fits) free

-- ---- a server serves

keeps_shared : KeepsFit Every Fits P
keeps_shared = record {
  notes = λ s event told p. p;
  answers = λ s asked reply k is p. p;
  pages = λ s swap p. p;
  offsets = λ s stream offset p. record { counted = λ file other kernel low shared. offset_same s.shadows other stream offset kernel ∙ p.counted file other kernel low shared; ready = p.ready; opens = p.opens; places = offset_places s.shadows stream offset p.places; once = p.once };
  writes = λ s file bytes there p. p;
  makes = λ s path node done e off p. p;
  removes = λ s path node e off p. p;
  renames = λ s old new done e p. p;
  creates = λ s path done e p. p;
  unlinks = λ s path file e free opens p. p;
  forgets = λ s path file e free opens p. gone_counts s.versions.files s.shadows s.shadows file s.versions.files p.once (λ other off. refl) (λ other stream kernel off shared. refl) p.places p;
  waits = λ s asked file k wait busy p. p;
  gives = λ s asked file action may about f free e p. takes_effect asked.body asked file action s.versions.files _ (grants.with_decided file action s) may refl (decided_effect s.versions.cached (files.kept_of file s) action e) (grant_fits asked.body asked.from file s.versions.files s.shadows f about free) p;
  asks = λ s asked file action call calls k may free e p. calls_all (call ∷ calls) asked (grants.asks asked file (grants.with_decided file action s)) (asks_counts s file action call calls e p);
  closes = λ s asked r file mode e o f free there last p. closing_counts (lookup (is_file file) s.versions.files) s.versions.files s.shadows file asked.from r.stream r.grants mode refl there free (close_fits asked r file s.versions.files s.shadows e o f free) p;
  closes_last = λ s asked r file mode e o f free there last p.
      gone_counts s.versions.files s.shadows (shadows.close s.shadows r.stream asked.from r.grants) file (with_closed s.versions.files file asked.from r.stream r.grants)
      (closing_once (lookup (is_file file) s.versions.files) s.versions.files file asked.from r.stream r.grants p.once) (λ other off. closing_beside (lookup (is_file file) s.versions.files) s.versions.files file other asked.from r.stream r.grants off)
      (others_closed s.versions.files s.shadows file asked.from r.stream r.grants (close_fits asked r file s.versions.files s.shadows e o f free)) (close_places s.shadows r.stream asked.from r.grants p.places) p;
}

-- ---- what waits is served

served : (o : Option Asked) (file : FileId) (s : Server) → ((asked : Asked) → o ≡ Some asked → Fits asked s.versions.files s.shadows) → P s → P (waiting.serves_first o s)
served (Some asked) file s fits p = fit_serves Every Fits P keeps_shared asked s tt (fits asked refl) p
served None file s fits p = p

turned_by : (b : Bool) (file : FileId) (s : Server) → files.is_busy file s ≡ b → ((asked : Asked) → files.is_busy file s ≡ false → first_about file s.waiting ≡ Some asked → Fits asked s.versions.files s.shadows) → P s → P (cond b s (waiting.serves_first (first_about file s.waiting) (record s { waiting = less_about file s.waiting })))
turned_by true file s e fits p = p
turned_by false file s e fits p = served (first_about file s.waiting) file (record s { waiting = less_about file s.waiting }) (λ asked f. fits asked e f) p

turns : (count : ℕ) (file : FileId) (s : Server) → TurnsFit count file s → P s → P (waiting.turns count file s)
turns zero file s fits p = p
turns (suc count) file s fits p =
    let before : Server = waiting.turns count file s in
    turned_by (files.is_busy file before) file before refl fits.1 (turns count file s fits.0 p)

-- ---- a callback is answered

settled_by : (o : Option Asking) (asked : Asked) (file : FileId) (s : Server) → (files.kept_of file s).asking ≡ o → action_in o ≡ action_of asked → GrantFitsAs asked.body asked.from file s.versions.files s.shadows
    → ((grant : Grant) → tables.settling_grant (files.kept_of file s) o ≡ Some grant → TurnsFit (length (grants.grants asked file grant (waiting.with_settled file s)).waiting) file (grants.grants asked file grant (waiting.with_settled file s))) → P s
    → P (waiting.settles_by asked file (tables.settling_grant (files.kept_of file s) o) s)
settled_by (Some asking) asked file s e acts fits waited p =
    let grant : Grant = tables.grant_of (files.kept_of file s) asking.action in
    let after : Server = waiting.with_settled file s in
    let effect : Effect (files.kept_of file s) (tables.settled (files.kept_of file s)) asking.action =
    subst (λ (o : Option Asking). Effect (files.kept_of file s) (tables.settling (files.kept_of file s) o) asking.action) (sym e) (settled_effect asking (files.kept_of file s) (subst (IsReadyFor (files.kept_of file s).opens (files.kept_of file s).shared) e (p.ready file))) in
    let shared : P (shares_of asked.body asked file after) = takes_effect asked.body asked file asking.action s.versions.files (tables.settled (files.kept_of file s)) after (sym acts) refl effect fits p in
    let given : Server = grants.grants asked file grant after in
    turns (length given.waiting) file given (waited grant refl) (fit_grants Every Fits P keeps_shared asked.body asked file grant after refl tt shared)
settled_by None asked file s e acts fits waited p = p

settles : (file : FileId) (s : Server) → ((asked : Asked) → tables.is_ready (files.kept_of file s) ≡ true → first_about file s.asking ≡ Some asked → SettlesFit file s asked) → Stands s → P s → P (waiting.settles file s)
settles file s fits asks p = by_ready (tables.is_ready (files.kept_of file s)) refl
  where
    taken : Server
    taken = record s { asking = less_about file s.asking }

    first : (o : Option Asked) → first_about file s.asking ≡ o → tables.is_ready (files.kept_of file s) ≡ true → P (waiting.settles_first file o taken)
    first (Some asked) e ready =
        let fit : SettlesFit file s asked = fits asked ready e in
        subst (λ b. P (cond b (waiting.settles_by asked file (tables.settled_grant (files.kept_of file s)) taken) taken)) (sym ready)
        (settled_by (files.kept_of file s).asking asked file taken refl (asks.action file asked e) fit.granted fit.waited p)
    first None e ready = p

    by_ready : (b : Bool) → tables.is_ready (files.kept_of file s) ≡ b → P (cond b (waiting.settles_first file (first_about file s.asking) taken) s)
    by_ready true e = first (first_about file s.asking) refl e
    by_ready false e = p

-- a kernel's answer leaves opens as they are
answered_counts : (call : CallOut) (s : Server) → P s → P (waiting.with_answer call s)
answered_counts call s h =
    put_counts s.versions.files s.shadows s.shadows call.file (tables.answered (files.kept_of call.file s) call.kernel)
    (λ stream kernel low shared. h.counted call.file stream kernel low shared) (λ other stream kernel off shared. refl) (h.ready call.file) (h.opens call.file) h.places h

flushes_first : (o : Option CallOut) (flushed : Flushed) (tx : TxNo) (s : Server) → first_under waiting.is_call tx s.callbacks ≡ o → StepFits s (inputs.Replied tx 0 (bodies.Flushed flushed)) → Stands s → P s → P (waiting.flushes_first flushed o (record s { callbacks = less (is_under waiting.is_call tx) s.callbacks }))
flushes_first (Some call) flushed tx s found fits asks p =
    let taken : Server = record s { callbacks = less (is_under waiting.is_call tx) s.callbacks } in
    let stored : Server = waiting.puts_all call.file flushed.size flushed.blocks taken in
    let kept : P stored = fit_puts Every Fits P keeps_shared flushed.blocks call.file flushed.size taken p in
    let stands : Stands stored = puts_all Every Stands (keeps_asking none) flushed.blocks call.file flushed.size taken asks in
    elim (files.is_busy call.file stored) as (λ b. P (cond b (waiting.settles call.file (waiting.with_answer call stored)) stored)) [
      | true ↦ settles call.file (waiting.with_answer call stored) (λ asked ready first. fits call asked found ready first) (answered_stands call stored stands) (answered_counts call stored kept)
      | false ↦ kept
    ]
flushes_first None flushed tx s found fits asks p = p

-- ---- a step

takes_reply : (body : ReplyBody) (tx : TxNo) (s : Server) → StepFits s (inputs.Replied tx 0 body) → Stands s → P s → P (stepping.takes_reply tx body s)
takes_reply (bodies.Flushed flushed) tx s fits asks p = flushes_first (first_under waiting.is_call tx s.callbacks) flushed tx s refl fits asks p
takes_reply body tx s fits asks p = p

takes : (input : Input) (s : Server) → StepFits s input → Stands s → P s → P (stepping.takes input s)
takes (inputs.Request tx source body) s fits asks p = fit_serves Every Fits P keeps_shared (record { tx = tx; from = source; body = body }) s tt fits p
takes (inputs.Replied tx source body) s fits asks p = takes_reply body tx s fits asks p
takes input s fits asks p = p

-- ---- in the words of the law

pub shared_so : (s : Server) → AskingStands s → P s → SharedStand s
shared_so s asking p = record { counted = p.counted; ready = p.ready; opens = p.opens; places = p.places; asking = asking }

shared_from : (s : Server) → SharedStand s → P s
shared_from s h = record { counted = h.counted; ready = h.ready; opens = h.opens; places = h.places; once = h.asking.files }

pub step_keeps_shared : StepKeepsWhereFit SharedStand
step_keeps_shared s input next h fits =
    shared_so (stepping.server_step s input next).0 (step_keeps_asking s input next h.asking)
    (takes input (stepping.begins next s) fits (stands_from s h.asking) (shared_from s h))

pub none_shared : (s : Server) → s.versions.files ≡ [] → s.shadows ≡ [] → AskingStands s → SharedStand s
none_shared s table list asking = shared_so s asking (subst (λ (t : Files). Counts t s.shadows) (sym table) (subst (Counts []) (sym list) begun))
  where
    begun : Counts [] []
    begun = record { counted = λ file stream kernel low shared. absurd (cc); ready = λ file. tt; opens = λ file stream kernel. refl; places = tt; once = tt }

-- a run of steps whose requests fit
pub always_shared : (inputs : List (Input × TxNo)) (s : Server) → StepsFit inputs s → SharedStand s → SharedStand (after inputs s)
always_shared [] s fits h = h
always_shared (one ∷ rest) s fits h = always_shared rest (stepping.server_step s one.0 one.1).0 fits.1 (step_keeps_shared s one.0 one.1 h fits.0)
