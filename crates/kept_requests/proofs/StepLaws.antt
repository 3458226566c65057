-- A step of a server answers each request that it owes an answer, or keeps it.
use Rattle.std.proofs.Common.{◌≡◌, ℕ, zero, suc, ◌⊎◌, inl, inr, Bool, true, false, not, cond, List, [], ◌∷◌, ◌++◌, length, slice_get, Option, Some, None, is_some, refl, sym, ap, subst, ◌∙◌, true≢false}
use Rattle.std.specs.List.{AllByRecursion, find}
use Rattle.std.proofs.lemmas.Bool.{and_parts}
use Rattle.sprite_ids.specs.declared.Callback.{Callback}
use Rattle.sprite_ids.specs.declared.FileId.{FileId}
use Rattle.sprite_ids.specs.declared.Flushed.{Flushed}
use Rattle.sprite_ids.specs.declared.Grant.{Grant}
use Rattle.sprite_ids.specs.declared.TxNo.{TxNo}
use Rattle.sprite_ids.specs.Lists.{less}
use Rattle.sprite_ids.proofs.ListLaws.{each_push, some_is}
use Rattle.packet_bodies.specs.declared.ReplyBody.{ReplyBody}
use Rattle.packet_bodies.specs.declared.ReplyBody.TheVariants as bodies
use Rattle.packet_bodies.specs.declared.Request.{Request}
use Rattle.packet_bodies.specs.declared.Request.TheVariants as requests
use Rattle.kernel_steps.specs.declared.Input.{Input}
use Rattle.kernel_steps.specs.declared.Input.TheVariants as inputs
use Rattle.kernel_steps.specs.Rows.{first_under, is_under}
use Rattle.version_table.specs.declared.Action.{Action}
use Rattle.version_table.specs.declared.Asking.{Asking}
use Rattle.version_table.specs.declared.Versioned.{Versioned}
use Rattle.version_table.specs.Files as tables
use Rattle.server_kernel.specs.declared.Asked.{Asked}
use Rattle.server_kernel.specs.declared.CallOut.{CallOut}
use Rattle.server_kernel.specs.declared.Server.{Server}
use Rattle.server_kernel.specs.Files as files
use Rattle.server_kernel.specs.Grants as grants
use Rattle.server_kernel.specs.Served as serving
use Rattle.server_kernel.specs.Steps as stepping
use Rattle.server_kernel.specs.Steps.{begins}
use Rattle.server_kernel.specs.Waits as waiting
use Rattle.server_kernel.specs.Waits.{first_about, is_about, less_about}
use Rattle.server_walks.specs.Actions.{action_by}
use Rattle.server_walks.proofs.Deeds.{Every, Keeps, may_wait}
use Rattle.server_walks.proofs.ServeWalk.{grants_asked, puts_all, serves}
use Rattle.server_walks.proofs.StepWalk.{KeepsSteps, takes as walk_takes, turns as walk_turns}
use Rattle.server_answers.specs.Servers.{IsKept}
use Rattle.server_answers.proofs.RootLaws.{servers_begin_with_none}
use Rattle.server_facts.specs.Steps.{BootHas, StepKeeps, after}
use Rattle.server_facts.proofs.BootLaws.{always}
use Rattle.kept_requests.specs.Kept.{AnswersOrKeeps, HasCome, IsAnswered, IsOwed, KeepsSuch, OthersArePassedOver, ServersAnswerOrKeep, StaysKept, StepAnswersOrKeeps, WasKept, has_answer, is_served, may_ask, may_be_kept}
use Rattle.kept_requests.proofs.ServedLaws.{AnswersIn, HeldAt, Held, InAnswers, InAsking, InWaiting, Rows, StandsIn, answers_more, first_by, granted, passed, serves_done, stands_less, stands_more}

-- ---- lists

each_less : {X : Type 0} (F : X → Type 0) (p : X → Bool) (xs : List X) → AllByRecursion F xs → AllByRecursion F (less p xs)
each_less F p [] h = tt
each_less F p (x ∷ xs) h = elim (p x) as (λ b. AllByRecursion F (cond b xs (x ∷ less p xs))) [ true ↦ h.1 | false ↦ (h.0, each_less F p xs h.1) ]

first_so : (F : Asked → Type 0) (file : FileId) (rows : Rows) (request : Asked) → AllByRecursion (λ (row : FileId × Asked). F row.1) rows → first_about file rows ≡ Some request → F request
first_so F file [] request h e = absurd (cc)
first_so F file (row ∷ rows) request h e = by (is_under is_about file row) e (first_so F file rows request h.1)
  where
    by : (b : Bool) → first_by (cond b (Some row) (find (is_under is_about file) rows)) ≡ Some request → (first_about file rows ≡ Some request → F request) → F request
    by true e later = subst F (some_is row.1 request e) h.0
    by false e later = later e

stands_none : (rows : Rows) (file : FileId) (request : Asked) → first_about file rows ≡ None → StandsIn request rows → StandsIn request (less_about file rows)
stands_none [] file request e h = h
stands_none (row ∷ rows) file request e h = by (is_under is_about file row) e h (stands_none rows file request)
  where
    by : (b : Bool) → first_by (cond b (Some row) (find (is_under is_about file) rows)) ≡ None → StandsIn request (row ∷ rows) → (first_about file rows ≡ None → StandsIn request rows → StandsIn request (less_about file rows)) → StandsIn request (cond b rows (row ∷ less_about file rows))
    by true e h later = absurd (cc)
    by false e (inl here) later = inl here
    by false e (inr left) later = inr (later e left)

-- ---- such requests are kept

-- a name call that comes is one that a server does
abbrev well_put : Request → Bool
well_put (requests.Name r) = is_served r.op r.second
well_put body = true

abbrev Known : Asked → Type 0
Known asked = well_put asked.body ≡ true

kept_so : (body : Request) → may_wait body ≡ true → well_put body ≡ true → may_be_kept body ≡ true
kept_so (requests.Opening r) wait well = refl
kept_so (requests.Name r) wait well = well
kept_so (requests.Close r) wait well = refl
kept_so (requests.Move r) wait well = refl
kept_so (requests.Op r) wait well = refl
kept_so (requests.Fetch r) wait well = refl
kept_so (requests.WriteBack r) wait well = refl
kept_so body wait well = absurd (cc)

ask_so : (body : Request) (from : ℕ) (action : Action) → action_by body from ≡ Some action → may_ask body ≡ true
ask_so (requests.Opening r) from action e = refl
ask_so (requests.Move r) from action e = refl
ask_so body from action e = absurd (cc)

well_kept : (body : Request) → may_be_kept body ≡ true → well_put body ≡ true
well_kept (requests.Name r) may = may
well_kept body may = refl

well_asked : (body : Request) → may_ask body ≡ true → well_put body ≡ true
well_asked (requests.Name r) may = absurd (cc)
well_asked body may = refl

-- what is kept has an answer, whatever the server is
kept_answered : (body : Request) (s : Server) → may_be_kept body ≡ true → has_answer s body ≡ true
kept_answered (requests.Opening r) s may = refl
kept_answered (requests.Name r) s may = may
kept_answered (requests.Close r) s may = refl
kept_answered (requests.Move r) s may = refl
kept_answered (requests.Op r) s may = refl
kept_answered (requests.Fetch r) s may = refl
kept_answered (requests.WriteBack r) s may = refl
kept_answered body s may = absurd (cc)

such_called : (calls : List Callback) (asked : Asked) (s : Server) → KeepsSuch s → KeepsSuch (grants.calls_all asked calls s)
such_called [] asked s p = p
such_called (call ∷ calls) asked s p = such_called calls asked (grants.calls_one asked call s) (record { asking = p.asking; waiting = p.waiting })

such_deeds : Keeps Known KeepsSuch
such_deeds = record {
  notes = λ s event told p. record { asking = p.asking; waiting = p.waiting };
  answers = λ s asked reply k is p. record { asking = p.asking; waiting = p.waiting };
  pages = λ s swap p. record { asking = p.asking; waiting = p.waiting };
  shares = λ s shadows p. record { asking = p.asking; waiting = p.waiting };
  writes = λ s file bytes there p. record { asking = p.asking; waiting = p.waiting };
  makes = λ s path node unit e off p. record { asking = p.asking; waiting = p.waiting };
  removes = λ s path node e off p. record { asking = p.asking; waiting = p.waiting };
  renames = λ s old new unit e p. record { asking = p.asking; waiting = p.waiting };
  creates = λ s path unit e p. record { asking = p.asking; waiting = p.waiting };
  unlinks = λ s path file e free opens p. record { asking = p.asking; waiting = p.waiting };
  forgets = λ s path file e free opens p. record { asking = p.asking; waiting = p.waiting };
  waits = λ s asked file k wait busy p. record { asking = p.asking; waiting = each_push (λ (row : FileId × Asked). may_be_kept row.1.body ≡ true) s.waiting (file, asked) p.waiting (kept_so asked.body wait k) };
  granted = λ s file action free e p. record { asking = p.asking; waiting = p.waiting };
  asks = λ s asked file action call calls k may free e p. such_called (call ∷ calls) asked (grants.asks asked file (grants.with_decided file action s))
      (record { asking = each_push (λ (row : FileId × Asked). may_ask row.1.body ≡ true) s.asking (file, asked) p.asking (ask_so asked.body asked.from action may); waiting = p.waiting });
  closes = λ s file kernel stream many mode free there last p. record { asking = p.asking; waiting = p.waiting };
  closes_last = λ s file kernel stream many mode free there last p. record { asking = p.asking; waiting = p.waiting };
}

such_waited : (s : Server) (file : FileId) (request : Asked) → first_about file s.waiting ≡ Some request → KeepsSuch s → may_be_kept request.body ≡ true
such_waited s file request e p = first_so (λ (asked : Asked). may_be_kept asked.body ≡ true) file s.waiting request p.waiting e

such_asked : (s : Server) (file : FileId) (request : Asked) → first_about file s.asking ≡ Some request → KeepsSuch s → may_ask request.body ≡ true
such_asked s file request e p = first_so (λ (asked : Asked). may_ask asked.body ≡ true) file s.asking request p.asking e

fewer_waiting : (s : Server) (file : FileId) → KeepsSuch s → KeepsSuch (record s { waiting = less_about file s.waiting })
fewer_waiting s file p = record { asking = p.asking; waiting = each_less (λ (row : FileId × Asked). may_be_kept row.1.body ≡ true) (is_under is_about file) s.waiting p.waiting }

fewer_asking : (s : Server) (file : FileId) → KeepsSuch s → KeepsSuch (record s { asking = less_about file s.asking })
fewer_asking s file p = record { asking = each_less (λ (row : FileId × Asked). may_ask row.1.body ≡ true) (is_under is_about file) s.asking p.asking; waiting = p.waiting }

known_waited : (s : Server) (file : FileId) (request : Asked) → first_about file s.waiting ≡ Some request → KeepsSuch s → Known request
known_waited s file request e p = well_kept request.body (such_waited s file request e p)

such_steps : KeepsSteps Known KeepsSuch
such_steps = record {
  deeds = such_deeds;
  waited = known_waited;
  asked = λ s file request e p. well_asked request.body (such_asked s file request e p);
  less_waiting = fewer_waiting;
  less_asking = fewer_asking;
  less_callbacks = λ s tx p. record { asking = p.asking; waiting = p.waiting };
  hears = λ s call busy p. record { asking = p.asking; waiting = p.waiting };
  settles = λ s file ready p. record { asking = p.asking; waiting = p.waiting };
}

such_by : (s t : Server) → t.asking ≡ s.asking → t.waiting ≡ s.waiting → KeepsSuch s → KeepsSuch t
such_by s t asking waiting p = record {
  asking = subst (AllByRecursion (λ (row : FileId × Asked). may_ask row.1.body ≡ true)) (sym asking) p.asking;
  waiting = subst (AllByRecursion (λ (row : FileId × Asked). may_be_kept row.1.body ≡ true)) (sym waiting) p.waiting;
}

-- what isn't well put has no answer
not_put : (body : Request) (s : Server) → well_put body ≡ false → has_answer s body ≡ false
not_put (requests.Name r) s e = e
not_put body s e = absurd (cc)

such_takes : (input : Input) (s : Server) → KeepsSuch s → KeepsSuch (stepping.takes input s)
such_takes (inputs.Request tx source body) s p = by (well_put body) refl
  where
    by : (b : Bool) → well_put body ≡ b → KeepsSuch (stepping.takes (inputs.Request tx source body) s)
    by true well = walk_takes Known KeepsSuch such_steps (inputs.Request tx source body) s well p
    by false off =
        let none = passed body tx source s (not_put body s off) in
        such_by s (serving.serves_by body (record { tx = tx; from = source; body = body }) s) none.asking none.waiting p
such_takes input s p = walk_takes Known KeepsSuch such_steps input s tt p

pub step_keeps : StepKeeps KeepsSuch
step_keeps s input next p =
    let stepped : KeepsSuch (stepping.takes input (begins next s)) = such_takes input (begins next s) (record { asking = p.asking; waiting = p.waiting }) in
    record { asking = stepped.asking; waiting = stepped.waiting }

pub boot_keeps : BootHas KeepsSuch
boot_keeps c kernel s e =
    let none = servers_begin_with_none c kernel s e in
    record {
      asking = subst (AllByRecursion (λ (row : FileId × Asked). may_ask row.1.body ≡ true)) (sym none.0) tt;
      waiting = subst (AllByRecursion (λ (row : FileId × Asked). may_be_kept row.1.body ≡ true)) (sym none.1) tt;
    }

-- ---- a request is answered, or kept

module _ (request : Asked) where
  more_answers : (asking waiting : Rows) (answers : List (TxNo × ReplyBody)) (more : TxNo × ReplyBody) → Held request asking waiting answers → Held request asking waiting (answers ++ more ∷ [])
  more_answers asking waiting answers more (InAnswers h) = InAnswers (answers_more answers request.tx more h)
  more_answers asking waiting answers more (InAsking h) = InAsking h
  more_answers asking waiting answers more (InWaiting h) = InWaiting h

  more_waiting : (asking waiting : Rows) (answers : List (TxNo × ReplyBody)) (more : FileId × Asked) → Held request asking waiting answers → Held request asking (waiting ++ more ∷ []) answers
  more_waiting asking waiting answers more (InAnswers h) = InAnswers h
  more_waiting asking waiting answers more (InAsking h) = InAsking h
  more_waiting asking waiting answers more (InWaiting h) = InWaiting (stands_more waiting request more h)

  more_asking : (asking waiting : Rows) (answers : List (TxNo × ReplyBody)) (more : FileId × Asked) → Held request asking waiting answers → Held request (asking ++ more ∷ []) waiting answers
  more_asking asking waiting answers more (InAnswers h) = InAnswers h
  more_asking asking waiting answers more (InAsking h) = InAsking (stands_more asking request more h)
  more_asking asking waiting answers more (InWaiting h) = InWaiting h

  called : (calls : List Callback) (asked : Asked) (s : Server) → HeldAt request s → HeldAt request (grants.calls_all asked calls s)
  called [] asked s d = d
  called (call ∷ calls) asked s d = called calls asked (grants.calls_one asked call s) d

  -- while another one is served
  stays : Keeps Every (HeldAt request)
  stays = record {
    notes = λ s event told d. d;
    answers = λ s asked reply k is d. more_answers s.asking s.waiting s.out.answers (asked.tx, reply) d;
    pages = λ s swap d. d;
    shares = λ s shadows d. d;
    writes = λ s file bytes there d. d;
    makes = λ s path node unit e off d. d;
    removes = λ s path node e off d. d;
    renames = λ s old new unit e d. d;
    creates = λ s path unit e d. d;
    unlinks = λ s path file e free opens d. d;
    forgets = λ s path file e free opens d. d;
    waits = λ s asked file k wait busy d. more_waiting s.asking s.waiting s.out.answers (file, asked) d;
    granted = λ s file action free e d. d;
    asks = λ s asked file action call calls k may free e d. called (call ∷ calls) asked (grants.asks asked file (grants.with_decided file action s)) (more_asking s.asking s.waiting s.out.answers (file, asked) d);
    closes = λ s file kernel stream many mode free there last d. d;
    closes_last = λ s file kernel stream many mode free there last d. d;
  }

  served_itself : (served : Asked) (s : Server) → served ≡ request → has_answer s served.body ≡ true → HeldAt request (serving.serves served s)
  served_itself served s same h = subst (λ (one : Asked). HeldAt one (serving.serves served s)) same (serves_done served s h)

  -- the first that waits for a file is served
  first_served : (served : Asked) (file : FileId) (s : Server) → first_about file s.waiting ≡ Some served → KeepsSuch s → HeldAt request s → HeldAt request (serving.serves served (record s { waiting = less_about file s.waiting }))
  first_served served file s e p (InAnswers h) = serves Every (HeldAt request) stays served (record s { waiting = less_about file s.waiting }) tt (InAnswers h)
  first_served served file s e p (InAsking h) = serves Every (HeldAt request) stays served (record s { waiting = less_about file s.waiting }) tt (InAsking h)
  first_served served file s e p (InWaiting h) = by (stands_less s.waiting file served request e h)
    where
      left : Server
      left = record s { waiting = less_about file s.waiting }

      by : (served ≡ request) ⊎ StandsIn request (less_about file s.waiting) → HeldAt request (serving.serves served left)
      by (inl same) = served_itself served left same (kept_answered served.body left (such_waited s file served e p))
      by (inr there) = serves Every (HeldAt request) stays served left tt (InWaiting there)

  none_served : (file : FileId) (s : Server) → first_about file s.waiting ≡ None → HeldAt request s → HeldAt request (record s { waiting = less_about file s.waiting })
  none_served file s e (InAnswers h) = InAnswers h
  none_served file s e (InAsking h) = InAsking h
  none_served file s e (InWaiting h) = InWaiting (stands_none s.waiting file request e h)

  turn_by : (o : Option Asked) (file : FileId) (s : Server) → first_about file s.waiting ≡ o → KeepsSuch s → HeldAt request s → HeldAt request (waiting.serves_first o (record s { waiting = less_about file s.waiting }))
  turn_by (Some served) file s e p d = first_served served file s e p d
  turn_by None file s e p d = none_served file s e d

  turned : (file : FileId) (s : Server) → KeepsSuch s → HeldAt request s → HeldAt request (waiting.turned file s)
  turned file s p d =
      elim (files.is_busy file s) as (λ b. HeldAt request (cond b s (waiting.serves_first (first_about file s.waiting) (record s { waiting = less_about file s.waiting })))) [ true ↦ d | false ↦ turn_by (first_about file s.waiting) file s refl p d ]

  turns : (count : ℕ) (file : FileId) (s : Server) → KeepsSuch s → HeldAt request s → HeldAt request (waiting.turns count file s)
  turns zero file s p d = d
  turns (suc count) file s p d = turned file (waiting.turns count file s) (walk_turns Known KeepsSuch such_deeds known_waited fewer_waiting count file s p) (turns count file s p d)

  -- ---- what asked is granted

  first_granted : (served : Asked) (file : FileId) (grant : Grant) (s : Server) → first_about file s.asking ≡ Some served → KeepsSuch s → HeldAt request s → HeldAt request (grants.grants served file grant (waiting.with_settled file (record s { asking = less_about file s.asking })))
  first_granted served file grant s e p (InAnswers h) = grants_asked Every (HeldAt request) stays served file grant (waiting.with_settled file (record s { asking = less_about file s.asking })) tt (InAnswers h)
  first_granted served file grant s e p (InWaiting h) = grants_asked Every (HeldAt request) stays served file grant (waiting.with_settled file (record s { asking = less_about file s.asking })) tt (InWaiting h)
  first_granted served file grant s e p (InAsking h) = by (stands_less s.asking file served request e h)
    where
      settled : Server
      settled = waiting.with_settled file (record s { asking = less_about file s.asking })

      by : (served ≡ request) ⊎ StandsIn request (less_about file s.asking) → HeldAt request (grants.grants served file grant settled)
      by (inl same) = subst (λ (one : Asked). HeldAt one (grants.grants served file grant settled)) same (granted served served.body file grant settled (such_asked s file served e p))
      by (inr there) = grants_asked Every (HeldAt request) stays served file grant settled tt (InAsking there)

  such_granted : (served : Asked) (file : FileId) (grant : Grant) (s : Server) → first_about file s.asking ≡ Some served → KeepsSuch s → KeepsSuch (grants.grants served file grant (waiting.with_settled file (record s { asking = less_about file s.asking })))
  such_granted served file grant s e p =
      let fewer : KeepsSuch (record s { asking = less_about file s.asking }) = fewer_asking s file p in
      grants_asked Known KeepsSuch such_deeds served file grant (waiting.with_settled file (record s { asking = less_about file s.asking })) (well_asked served.body (such_asked s file served e p)) (record { asking = fewer.asking; waiting = fewer.waiting })

  -- what is ready has a grant
  no_grant : (file : Versioned) (o : Option Asking) → file.asking ≡ o → tables.is_busy file ≡ true → tables.settling_grant file o ≡ None → ⊥
  no_grant file (Some asking) e busy none = absurd (cc)
  no_grant file None e busy none = absurd (true≢false (sym busy ∙ ap is_some e))

  settles_by : (o : Option Grant) (served : Asked) (file : FileId) (s : Server) → first_about file s.asking ≡ Some served → tables.is_ready (files.kept_of file s) ≡ true → tables.settled_grant (files.kept_of file s) ≡ o → KeepsSuch s → HeldAt request s
      → HeldAt request (waiting.settles_by served file o (record s { asking = less_about file s.asking }))
  settles_by (Some grant) served file s e ready given p d =
      let after : Server = grants.grants served file grant (waiting.with_settled file (record s { asking = less_about file s.asking })) in
      turns (length after.waiting) file after (such_granted served file grant s e p) (first_granted served file grant s e p d)
  settles_by None served file s e ready given p d =
      absurd (no_grant (files.kept_of file s) (files.kept_of file s).asking refl (and_parts (tables.is_busy (files.kept_of file s)) (not (tables.is_any_out (files.kept_of file s))) ready).0 given)

  settles_for : (b : Bool) (served : Asked) (file : FileId) (s : Server) → tables.is_ready (files.kept_of file s) ≡ b → tables.is_ready (files.kept_of file s) ≡ true → first_about file s.asking ≡ Some served → KeepsSuch s → HeldAt request s
      → HeldAt request (cond b (waiting.settles_by served file (tables.settled_grant (files.kept_of file s)) (record s { asking = less_about file s.asking })) (record s { asking = less_about file s.asking }))
  settles_for true served file s is ready e p d = settles_by (tables.settled_grant (files.kept_of file s)) served file s e ready refl p d
  settles_for false served file s is ready e p d = absurd (true≢false (sym ready ∙ is))

  none_asked : (file : FileId) (s : Server) → first_about file s.asking ≡ None → HeldAt request s → HeldAt request (record s { asking = less_about file s.asking })
  none_asked file s e (InAnswers h) = InAnswers h
  none_asked file s e (InAsking h) = InAsking (stands_none s.asking file request e h)
  none_asked file s e (InWaiting h) = InWaiting h

  settles_first : (o : Option Asked) (file : FileId) (s : Server) → first_about file s.asking ≡ o → tables.is_ready (files.kept_of file s) ≡ true → KeepsSuch s → HeldAt request s → HeldAt request (waiting.settles_first file o (record s { asking = less_about file s.asking }))
  settles_first (Some served) file s e ready p d = settles_for (tables.is_ready (files.kept_of file s)) served file s refl ready e p d
  settles_first None file s e ready p d = none_asked file s e d

  settles_if : (b : Bool) (file : FileId) (s : Server) → tables.is_ready (files.kept_of file s) ≡ b → KeepsSuch s → HeldAt request s → HeldAt request (cond b (waiting.settles_first file (first_about file s.asking) (record s { asking = less_about file s.asking })) s)
  settles_if true file s ready p d = settles_first (first_about file s.asking) file s refl ready p d
  settles_if false file s ready p d = d

  hears : (call : CallOut) (s : Server) → KeepsSuch s → HeldAt request s → HeldAt request (waiting.hears call s)
  hears call s p d =
      let heard : Server = waiting.with_answer call s in
      elim (files.is_busy call.file s) as (λ b. HeldAt request (cond b (waiting.settles call.file heard) s)) [ true ↦ settles_if (tables.is_ready (files.kept_of call.file heard)) call.file heard refl (record { asking = p.asking; waiting = p.waiting }) d | false ↦ d ]

  flushes_first : (o : Option CallOut) (flushed : Flushed) (s : Server) → KeepsSuch s → HeldAt request s → HeldAt request (waiting.flushes_first flushed o s)
  flushes_first (Some call) flushed s p d =
      hears call (waiting.puts_all call.file flushed.size flushed.blocks s) (puts_all Known KeepsSuch such_deeds flushed.blocks call.file flushed.size s p) (puts_all Every (HeldAt request) stays flushed.blocks call.file flushed.size s d)
  flushes_first None flushed s p d = d

  takes_reply : (body : ReplyBody) (tx : TxNo) (s : Server) → KeepsSuch s → HeldAt request s → HeldAt request (stepping.takes_reply tx body s)
  takes_reply (bodies.Flushed flushed) tx s p d = flushes_first (first_under waiting.is_call tx s.callbacks) flushed (record s { callbacks = less (is_under waiting.is_call tx) s.callbacks }) (record { asking = p.asking; waiting = p.waiting }) d
  takes_reply body tx s p d = d

  -- whatever comes
  still_done : (input : Input) (s : Server) → KeepsSuch s → HeldAt request s → HeldAt request (stepping.takes input s)
  still_done (inputs.Request tx source body) s p d = serves Every (HeldAt request) stays (record { tx = tx; from = source; body = body }) s tt d
  still_done (inputs.Replied tx source body) s p d = takes_reply body tx s p d
  still_done input s p d = d

-- ---- in the words of the laws

answer_at : (answers : List (TxNo × ReplyBody)) (tx : TxNo) → AnswersIn tx answers → (at : ℕ) × (reply : ReplyBody) × (slice_get answers at ≡ Some (tx, reply))
answer_at [] tx h = absurd h
answer_at (answer ∷ answers) tx (inl here) = (0, answer.1, ap (λ (number : TxNo). Some (number, answer.1)) here)
answer_at (answer ∷ answers) tx (inr later) = let got = answer_at answers tx later in (suc got.0, got.1, got.2)

row_at : (rows : Rows) (request : Asked) → StandsIn request rows → (at : ℕ) × (file : FileId) × (slice_get rows at ≡ Some (file, request))
row_at [] request h = absurd h
row_at (row ∷ rows) request (inl here) = (0, row.0, ap (λ (one : Asked). Some (row.0, one)) here)
row_at (row ∷ rows) request (inr later) = let got = row_at rows request later in (suc got.0, got.1, got.2)

stands_there : (rows : Rows) (request : Asked) (at : ℕ) (file : FileId) → slice_get rows at ≡ Some (file, request) → StandsIn request rows
stands_there [] request at file e = absurd (cc)
stands_there (row ∷ rows) request zero file e = inl (ap (λ (one : FileId × Asked). one.1) (some_is row (file, request) e))
stands_there (row ∷ rows) request (suc at) file e = inr (stands_there rows request at file e)

pub stands_front : (one other : Rows) (request : Asked) → StandsIn request one → StandsIn request (one ++ other)
stands_front [] other request h = absurd h
stands_front (row ∷ one) other request (inl here) = inl here
stands_front (row ∷ one) other request (inr later) = inr (stands_front one other request later)

pub stands_behind : (one other : Rows) (request : Asked) → StandsIn request other → StandsIn request (one ++ other)
stands_behind [] other request h = h
stands_behind (row ∷ one) other request h = inr (stands_behind one other request h)

stands_parted : (one other : Rows) (request : Asked) → StandsIn request (one ++ other) → StandsIn request one ⊎ StandsIn request other
stands_parted [] other request h = inr h
stands_parted (row ∷ one) other request (inl here) = inl (inl here)
stands_parted (row ∷ one) other request (inr later) = by (stands_parted one other request later)
  where
    by : StandsIn request one ⊎ StandsIn request other → StandsIn request (row ∷ one) ⊎ StandsIn request other
    by (inl h) = inl (inr h)
    by (inr h) = inr h

pub kept_there : (s : Server) (request : Asked) → StandsIn request (s.asking ++ s.waiting) → IsKept s request
kept_there s request h = let got = row_at (s.asking ++ s.waiting) request h in record { at = got.0; file = got.1; there = got.2 }

in_words : (request : Asked) (after : Server) → HeldAt request after → AnswersOrKeeps (stepping.parted after) request
in_words request after (InAnswers h) = let got = answer_at after.out.answers request.tx h in IsAnswered (record { at = got.0; reply = got.1; there = got.2 })
in_words request after (InAsking h) = StaysKept (kept_there (stepping.said after) request (stands_front after.asking after.waiting request h))
in_words request after (InWaiting h) = StaysKept (kept_there (stepping.said after) request (stands_behind after.asking after.waiting request h))

done_by : (s : Server) (next : TxNo) (request : Asked) → StandsIn request s.asking ⊎ StandsIn request s.waiting → HeldAt request (begins next s)
done_by s next request (inl h) = InAsking h
done_by s next request (inr h) = InWaiting h

was_done : (s : Server) (next : TxNo) (request : Asked) → IsKept s request → HeldAt request (begins next s)
was_done s next request kept = done_by s next request (stands_parted s.asking s.waiting request (stands_there (s.asking ++ s.waiting) request kept.at kept.file kept.there))

-- whatever a step owes an answer is answered or kept behind it
pub step_done : (s : Server) (input : Input) (next : TxNo) (request : Asked) → KeepsSuch s → IsOwed s input request → HeldAt request (stepping.takes input (begins next s))
step_done s input next request p (WasKept kept) = still_done request input (begins next s) (record { asking = p.asking; waiting = p.waiting }) (was_done s next request kept)
step_done s input next request p (HasCome is has) = subst (λ (taken : Input). HeldAt request (stepping.takes taken (begins next s))) (sym is) (serves_done request (begins next s) (same request.body has))
  where
    -- what a server says doesn't count
    same : (body : Request) → has_answer s body ≡ true → has_answer (begins next s) body ≡ true
    same (requests.Prefix path) h = h
    same (requests.PageIn pid page) h = h
    same body h = h

pub step_answers : StepAnswersOrKeeps
step_answers s input next request p owed = in_words request (stepping.takes input (begins next s)) (step_done s input next request p owed)

pub servers_answer : ServersAnswerOrKeep
servers_answer c kernel first inputs input next request e owed =
    step_answers (after inputs first) input next request (always KeepsSuch step_keeps inputs first (boot_keeps c kernel first e)) owed

pub passed_over : OthersArePassedOver
passed_over s tx source body next e =
    let none = passed body tx source (begins next s) (same body e) in
    record { says_nothing = none.out; asking = none.asking; waiting = none.waiting; callbacks = none.callbacks }
  where
    same : (body : Request) → has_answer s body ≡ false → has_answer (begins next s) body ≡ false
    same (requests.Prefix path) h = h
    same (requests.PageIn pid page) h = h
    same body h = h
