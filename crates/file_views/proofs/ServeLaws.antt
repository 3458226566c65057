-- What the server does with requests and answers, cut into parts: a fact of views that each part keeps, with what enters, is kept by
-- all of it.
use Rattle.std.proofs.Common.{◌≡◌, ℕ, ◌==◌, Bool, true, false, cond, List, [], ◌∷◌, ◌++◌, length, filter, Some, None, refl, sym, ap, ◌∙◌, subst, inl, inr, eqb-true}
use Rattle.sprite_ids.specs.declared.BlockNo.{BlockNo}
use Rattle.sprite_ids.specs.declared.StreamNo.{StreamNo}
use Rattle.sprite_ids.specs.declared.CallKind.{CallKind}
use Rattle.file_views.specs.declared.body.Access.{Access}
use Rattle.file_views.specs.declared.body.FileBody.{FileBody}
use Rattle.file_views.specs.declared.body.FileBody.TheVariants as form
use Rattle.file_views.specs.declared.call.FileCall.{FileCall}
use Rattle.file_views.specs.declared.view.View.{View}
use Rattle.file_views.specs.declared.entered.Entered.{Entered}
use Rattle.file_views.specs.Setting.{Setting}
use Rattle.file_views.specs.Views.{server, current_stamp, kernels, is_callback, answer, to_the_end, busy, waiting_calls}
use Rattle.file_views.specs.Grants.{asks, uncached_after, is_called, kind_of_calls, called_kernels, call_out, call_back, settle, told, deciding, decide}
use Rattle.file_views.specs.Serving.{close, block_of, data_op, store, refuse_old, serve_body, serve, serve_all, request_comes, resume, resumed}
use Rattle.file_views.specs.Data.{step_of}
use Rattle.file_views.specs.Serving.{op_reply}
use Rattle.file_views.specs.Entries.{told_reply, enters_settled, enters_deciding, enters_served, enters_serve_all, enters_request, enters_resume, enters_resumed}
use Rattle.file_views.specs.Here.{In, IsClient, request_stamp}
use Rattle.file_views.proofs.MemberLaws.{in_last, last_in, in_without}
use Rattle.file_views.proofs.ClientLaws.{choose_by}
use Rattle.file_views.proofs.WorkLaws.{noted, noted_join, choose_two, unnoted}
use Rattle.file_views.proofs.ShapeStepLaws.{flat_taken}
use Rattle.file_views.proofs.StreamChangeLaws.{streams_take}
use Rattle.file_views.proofs.StreamServeLaws.{Both, both_settle}
use Rattle.file_views.proofs.StampLaws.{FlatStamps}
use Rattle.file_views.proofs.StampChangeLaws.{NoCall, stamps_take}
use Rattle.file_views.proofs.StampServeLaws.{two_settle, idle}
use Rattle.file_views.proofs.DecisionLaws.{Asking, Ruled, holds_server, ruled_holds}
use Rattle.file_views.proofs.DecisionServeLaws.{Served, first_waits, served_settle}
use Rattle.file_views.proofs.DecisionCallLaws.{idle_waiting}
use Rattle.file_views.proofs.ModeLaws.{FlatModes, under_of}
use Rattle.file_views.proofs.ModeGrantLaws.{modes_settle}
use Rattle.file_views.proofs.ModeServeLaws.{Stage, stage_serve, unreplied}
use Rattle.file_views.proofs.ModeChangeLaws.{modes_taken}
use Rattle.file_views.proofs.HolderLaws.{FlatHolders}
use Rattle.file_views.proofs.HolderSettleLaws.{Grantable, Settles, holders_settle}
use Rattle.file_views.proofs.HolderCallLaws.{settles_at_once}
use Rattle.file_views.proofs.HolderServeLaws.{Serving, deciding_of, holders_serve, holders_taken, Answering, answered_view, ruled_answered, flushed_by}

-- a fact X of views on which each part leans, and a fact Y that it keeps and from which X follows behind it, both with what entered before
pub record ServeNotes (z : Setting) (I : Type 0) (note : I → Entered → I) (X Y : I → View → Type 0) : Type 0 where
  pub eases : (had : I) (v : View) → X had v → Y had v
  pub tells : (had : I) (v : View) (b : Bool) → X had v → X had (told v b)
  pub outs : (had : I) (v : View) (kind : CallKind) (kernel : ℕ) → Y had v → Y had (call_out v kind kernel)
  pub settles : (had : I) (v : View) (one : FileCall) → Settles z v one → X had v → Y (noted note had (enters_settled one one.body)) (settle v one)
  pub closes : (had : I) (v : View) (one : FileCall) (stream : StreamNo) (grants : ℕ) → Serving v one → one.body ≡ form.Close stream grants → X had v → Y had (close v one stream grants)
  pub fetched : (had : I) (v : View) (one : FileCall) (block : BlockNo) → Serving v one → one.body ≡ form.Fetch (current_stamp v one.from) block → X had v → Y had (answer v one (form.Block (current_stamp v one.from) (block_of z v.bytes block)))
  pub refuses : (had : I) (v : View) (one : FileCall) (stamp : ℕ) → Serving v one → request_stamp one.body ≡ Some stamp → X had v → Y had (refuse_old v one)
  pub stores : (had : I) (v : View) (one : FileCall) (block : BlockNo) (size : ℕ) (piece : List ℕ) → Serving v one → one.body ≡ form.WriteBack (current_stamp v one.from) block size piece → X had v → Y had (store z v one block size piece)
  pub operates : (had : I) (v : View) (one : FileCall) (pid number : ℕ) (stream : StreamNo) (way : Access) → Serving v one → one.body ≡ form.Op pid number (current_stamp v one.from) stream way → X had v → Y (note had (record { kernel = server; step = step_of pid number one.from stream way; reply = told_reply way (op_reply z v.bytes way) })) (data_op z v one way)
  pub takes : (had : I) (v : View) (one : FileCall) → Both v → FlatStamps v → In one v.calls → one.reply ≡ None → is_callback one.body ≡ false → X had v → X had (to_the_end v one)
  pub served : (had next : I) (v : View) (one : FileCall) → Serving v one → X had v → Y next (serve z v one) → X next (serve z v one)
  pub settled : (had next : I) (v : View) (one : FileCall) → Settles z v one → X had v → Y next (settle v one) → X next (settle v one)

notes_call_back : (z : Setting) (I : Type 0) (note : I → Entered → I) (X Y : I → View → Type 0) → ServeNotes z I note X Y → (had : I) (called : List ℕ) (kind : CallKind) (v : View) → Y had v → Y had (call_back called kind v)
notes_call_back z I note X Y s had [] kind v x = x
notes_call_back z I note X Y s had (kernel ∷ rest) kind v x = notes_call_back z I note X Y s had rest kind (call_out v kind kernel) (s.outs had v kind kernel x)

notes_deciding : (z : Setting) (I : Type 0) (note : I → Entered → I) (X Y : I → View → Type 0) → ServeNotes z I note X Y → (had : I) (v : View) (one : FileCall) (b : Bool) → uncached_after z v one ≡ b → (called : List ℕ) → called ≡ filter (is_called b v one) (kernels v) → Serving v one → asks one.body ≡ true → X had v → Y (noted note had (enters_deciding one called)) (deciding (told v b) one (kind_of_calls b) called)
notes_deciding z I note X Y s had v one b e [] k t a x = s.settles had (told v b) one (settles_at_once z v one b e k (deciding_of v one t a)) (s.tells had v b x)
notes_deciding z I note X Y s had v one b e (kernel ∷ rest) k t a x = notes_call_back z I note X Y s had (kernel ∷ rest) (kind_of_calls b) (told v b) (s.eases had (told v b) (s.tells had v b x))

notes_decide : (z : Setting) (I : Type 0) (note : I → Entered → I) (X Y : I → View → Type 0) → ServeNotes z I note X Y → (had : I) (v : View) (one : FileCall) → Serving v one → asks one.body ≡ true → X had v → Y (noted note had (enters_deciding one (called_kernels z v one))) (decide z v one)
notes_decide z I note X Y s had v one t a x = notes_deciding z I note X Y s had v one (uncached_after z v one) refl (called_kernels z v one) refl t a x

-- a request is taken up
pub notes_body : (z : Setting) (I : Type 0) (note : I → Entered → I) (X Y : I → View → Type 0) → ServeNotes z I note X Y → (had : I) (v : View) (one : FileCall) (body : FileBody) → one.body ≡ body → Serving v one → X had v → Y (noted note had (enters_served z v one body)) (serve_body z v one body)
notes_body z I note X Y s had v one (form.Opening pid number stream mode truncate) e t x = notes_decide z I note X Y s had v one t (ap asks e) x
notes_body z I note X Y s had v one (form.Move stream place kept grants) e t x = notes_decide z I note X Y s had v one t (ap asks e) x
notes_body z I note X Y s had v one (form.Close stream grants) e t x = s.closes had v one stream grants t e x
notes_body z I note X Y s had v one (form.Fetch stamp block) e t x = choose_by (Y had) (stamp == current_stamp v one.from) _ _ (λ q. at (eqb-true stamp (current_stamp v one.from) q) e) (λ q. s.refuses had v one stamp t (ap request_stamp e) x)
  where
    at : stamp ≡ current_stamp v one.from → one.body ≡ form.Fetch stamp block → Y had (answer v one (form.Block stamp (block_of z v.bytes block)))
    at q k = subst (λ n. Y had (answer v one (form.Block n (block_of z v.bytes block)))) (sym q) (s.fetched had v one block t (k ∙ ap (λ n. form.Fetch n block) q) x)
notes_body z I note X Y s had v one (form.WriteBack stamp block size piece) e t x = choose_by (Y had) (stamp == current_stamp v one.from) _ _ (λ q. s.stores had v one block size piece t (e ∙ ap (λ n. form.WriteBack n block size piece) (eqb-true stamp (current_stamp v one.from) q)) x) (λ q. s.refuses had v one stamp t (ap request_stamp e) x)
notes_body z I note X Y s had v one (form.Op pid number stamp stream way) e t x = choose_two (λ es w. Y (noted note had es) w) (stamp == current_stamp v one.from) (record { kernel = server; step = step_of pid number one.from stream way; reply = told_reply way (op_reply z v.bytes way) } ∷ []) (data_op z v one way) [] (refuse_old v one) (λ q. s.operates had v one pid number stream way t (e ∙ ap (λ n. form.Op pid number n stream way) (eqb-true stamp (current_stamp v one.from) q)) x) (λ q. s.refuses had v one stamp t (ap request_stamp e) x)
notes_body z I note X Y s had v one body e t x = s.eases had v x

-- what waits is taken up in order
pub notes_all : (z : Setting) (I : Type 0) (note : I → Entered → I) (X Y : I → View → Type 0) → ServeNotes z I note X Y → (waiting : List FileCall) (had : I) (v : View) → Stage z waiting v → FlatHolders v → X had v → Y (noted note had (enters_serve_all z waiting v)) (serve_all z waiting v)
notes_all z I note X Y s [] had v t p x = s.eases had v x
notes_all z I note X Y s (one ∷ rest) had v t p x = choose_two (λ es w. Y (noted note had es) w) (busy v) [] v (enters_served z v one one.body ++ enters_serve_all z rest (serve z v one)) (serve_all z rest (serve z v one)) (λ h. s.eases had v x)
    (λ h.
    let none : NoCall v = idle v h in
    let w : waiting_calls v ≡ one ∷ rest = idle_waiting z v (one ∷ rest) h t.queues in
    let serving : Serving v one = record { both = t.both; stamps = t.stamps; ruled = t.ruled; modes = t.modes; holders = p; there = first_waits v one rest w; unanswered = unreplied v one rest w; none = none } in
    let next : I = noted note had (enters_served z v one one.body) in
    subst (λ n. Y n (serve_all z rest (serve z v one))) (sym (noted_join note (enters_served z v one one.body) (enters_serve_all z rest (serve z v one)) had))
    (notes_all z I note X Y s rest next (serve z v one) (stage_serve z v one rest none w t) (holders_serve z v one one.body refl serving) (s.served had next v one serving x (notes_body z I note X Y s had v one one.body refl serving x))))

notes_resume : (z : Setting) (I : Type 0) (note : I → Entered → I) (X Y : I → View → Type 0) → ServeNotes z I note X Y → (had : I) (v : View) (one : FileCall) (rest waiting : List FileCall) → waiting ≡ one ∷ rest → Both v → FlatStamps v → Ruled v → FlatModes v → NoCall v → waiting_calls v ≡ waiting → asks one.body ≡ true → (v.uncached ≡ false → uncached_after z v one ≡ false) → Grantable v one → X had v → Y (noted note had (enters_resume z waiting v)) (resume z waiting v)
notes_resume z I note X Y s had v one rest waiting e b stamps r p none w a t g x =
    let m : In one v.calls = first_waits v one rest (w ∙ e) in
    let n : one.reply ≡ None = unreplied v one rest (w ∙ e) in
    let q : Served z rest (settle v one) = served_settle z v one rest b.flat none (w ∙ e) a t r in
    let settling : Settles z v one = record { both = b; stamps = stamps; ruled = r; modes = p; there = m; unanswered = n; none = none; asks_it = a; told = t; grantable = g } in
    let next : I = noted note had (enters_settled one one.body) in
    subst (λ xs. Y (noted note had (enters_resume z xs v)) (resume z xs v)) (sym e)
    (subst (λ c. Y (noted note had (cond c (enters_settled one one.body ++ enters_serve_all z rest (settle v one)) (enters_serve_all z (one ∷ rest) v))) (cond c (serve_all z rest (settle v one)) (serve_all z (one ∷ rest) v))) (sym a)
    (subst (λ k. Y k (serve_all z rest (settle v one))) (sym (noted_join note (enters_settled one one.body) (enters_serve_all z rest (settle v one)) had))
    (notes_all z I note X Y s rest next (settle v one) (record {
      both = both_settle v one n a b m;
      stamps = (two_settle v one (record { flat = b.flat; stamps = stamps }) m none a).stamps;
      ruled = q.ruled;
      queues = q.queues;
      modes = modes_settle v one b.flat stamps r (under_of v stamps) p m n none a;
    }) (holders_settle z v one settling) (s.settled had next v one settling x (s.settles had v one settling x)))))

-- an answer to a callback is stored, and what waits is taken up
pub notes_flushed : (z : Setting) (I : Type 0) (note : I → Entered → I) (X Y : I → View → Type 0) → ServeNotes z I note X Y → (had : I) (v : View) (one : FileCall) (bytes : List ℕ) (stamp : ℕ) (kind : CallKind) → Answering v one stamp kind → IsClient (length v.clients) one.to → (a : Asking z v) → Both (answered_view v one bytes) → FlatStamps (answered_view v one bytes) → (b : Asking z (answered_view v one bytes)) → b.first ≡ a.first → FlatModes (answered_view v one bytes) → X had (answered_view v one bytes) → Y (noted note had (enters_resumed z (answered_view v one bytes))) (resumed z (answered_view v one bytes))
notes_flushed z I note X Y s had v one bytes stamp kind t i a both stamps b same modes x =
    let w : View = answered_view v one bytes in
    choose_two (λ es u. Y (noted note had es) u) (busy w) [] w (enters_resume z (waiting_calls w) w) (resume z (waiting_calls w) w) (λ h. s.eases had w x)
    (λ h. notes_resume z I note X Y s had w b.first b.rest (waiting_calls w) b.waiting both stamps (ruled_answered v one bytes t.ruled) modes (idle w h) refl b.asks_it b.told ((flushed_by z v one bytes stamp kind t i a both b same).1 h (unreplied w b.first b.rest b.waiting) (first_waits w b.first b.rest b.waiting)) x)

-- a request comes
pub notes_request : (z : Setting) (I : Type 0) (note : I → Entered → I) (X Y : I → View → Type 0) → ServeNotes z I note X Y → (had : I) (v : View) (one : FileCall) → Both v → FlatStamps v → Ruled v → FlatModes v → FlatHolders v → In one v.calls → one.to ≡ server → one.reply ≡ None → is_callback one.body ≡ false → X had v → Y (noted note had (enters_request z v one)) (request_comes z v one)
notes_request z I note X Y s had v one b stamps r p h m t n c x = choose_two (λ es u. Y (noted note had es) u) (busy v) [] (to_the_end v one) (enters_served z (to_the_end v one) (record one { taken = true }) one.body) (serve z (to_the_end v one) (record one { taken = true })) (λ e. s.eases had _ taken) (λ e. notes_body z I note X Y s had (to_the_end v one) (record one { taken = true }) one.body refl (record {
  both = record { flat = flat_taken v one b.flat m t; streams = streams_take v one b.flat.numbered.differ m b.streams };
  stamps = stamps_take v one b.flat.numbered.differ m c stamps;
  ruled = ruled_holds v (to_the_end v one) (holds_server v (to_the_end v one) refl refl refl refl refl) r;
  modes = modes_taken v one b.flat.numbered.differ m c (under_of v stamps) p;
  holders = holders_taken v one b.flat.numbered.differ m c h;
  there = last_in (record one { taken = true }) _;
  unanswered = n;
  none = none e;
}) taken)
  where
    taken : X had (to_the_end v one)
    taken = s.takes had v one b stamps m n c x

    none : busy v ≡ false → NoCall (to_the_end v one)
    none e y k = elim (in_last y (record one { taken = true }) _ k) [ inl a ↦ idle v e y (in_without one.number y v.calls a).0 | inr q ↦ ap (λ (u : FileCall). is_callback u.body) q ∙ c ]

-- facts of views alone
pub record Serves (z : Setting) (X Y : View → Type 0) : Type 0 where
  pub eases : (v : View) → X v → Y v
  pub tells : (v : View) (b : Bool) → X v → X (told v b)
  pub outs : (v : View) (kind : CallKind) (kernel : ℕ) → Y v → Y (call_out v kind kernel)
  pub settles : (v : View) (one : FileCall) → Settles z v one → X v → Y (settle v one)
  pub closes : (v : View) (one : FileCall) (stream : StreamNo) (grants : ℕ) → Serving v one → one.body ≡ form.Close stream grants → X v → Y (close v one stream grants)
  pub fetched : (v : View) (one : FileCall) (block : BlockNo) → Serving v one → one.body ≡ form.Fetch (current_stamp v one.from) block → X v → Y (answer v one (form.Block (current_stamp v one.from) (block_of z v.bytes block)))
  pub refuses : (v : View) (one : FileCall) (stamp : ℕ) → Serving v one → request_stamp one.body ≡ Some stamp → X v → Y (refuse_old v one)
  pub stores : (v : View) (one : FileCall) (block : BlockNo) (size : ℕ) (piece : List ℕ) → Serving v one → one.body ≡ form.WriteBack (current_stamp v one.from) block size piece → X v → Y (store z v one block size piece)
  pub operates : (v : View) (one : FileCall) (pid number : ℕ) (stream : StreamNo) (way : Access) → Serving v one → one.body ≡ form.Op pid number (current_stamp v one.from) stream way → X v → Y (data_op z v one way)
  pub takes : (v : View) (one : FileCall) → Both v → FlatStamps v → In one v.calls → one.reply ≡ None → is_callback one.body ≡ false → X v → X (to_the_end v one)
  pub served : (v : View) (one : FileCall) → Serving v one → X v → Y (serve z v one) → X (serve z v one)
  pub settled : (v : View) (one : FileCall) → Settles z v one → X v → Y (settle v one) → X (settle v one)

pub serves_notes : (z : Setting) (X Y : View → Type 0) → Serves z X Y → ServeNotes z (Unit {0}) unnoted (λ had. X) (λ had. Y)
serves_notes z X Y s = record {
  eases = λ had. s.eases;
  tells = λ had. s.tells;
  outs = λ had. s.outs;
  settles = λ had. s.settles;
  closes = λ had. s.closes;
  fetched = λ had. s.fetched;
  refuses = λ had. s.refuses;
  stores = λ had. s.stores;
  operates = λ had. s.operates;
  takes = λ had. s.takes;
  served = λ had next. s.served;
  settled = λ had next. s.settled;
}

pub serves_request : (z : Setting) (X Y : View → Type 0) → Serves z X Y → (v : View) (one : FileCall) → Both v → FlatStamps v → Ruled v → FlatModes v → FlatHolders v → In one v.calls → one.to ≡ server → one.reply ≡ None → is_callback one.body ≡ false → X v → Y (request_comes z v one)
serves_request z X Y s = notes_request z (Unit {0}) unnoted (λ had. X) (λ had. Y) (serves_notes z X Y s) tt

pub serves_body : (z : Setting) (X Y : View → Type 0) → Serves z X Y → (v : View) (one : FileCall) (body : FileBody) → one.body ≡ body → Serving v one → X v → Y (serve_body z v one body)
serves_body z X Y s = notes_body z (Unit {0}) unnoted (λ had. X) (λ had. Y) (serves_notes z X Y s) tt
