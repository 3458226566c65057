-- What each deed of a server keeps, and what waits being taken up, a step keeps.
use Rattle.std.proofs.Common.{◌≡◌, ℕ, zero, suc, Bool, true, false, cond, length, Option, Some, None, refl}
use Rattle.sprite_ids.specs.declared.FileId.{FileId}
use Rattle.sprite_ids.specs.declared.Flushed.{Flushed}
use Rattle.sprite_ids.specs.declared.Grant.{Grant}
use Rattle.sprite_ids.specs.declared.TxNo.{TxNo}
use Rattle.sprite_ids.specs.Lists.{less}
use Rattle.packet_bodies.specs.declared.ReplyBody.{ReplyBody}
use Rattle.packet_bodies.specs.declared.ReplyBody.TheVariants as bodies
use Rattle.kernel_steps.specs.declared.Input.{Input}
use Rattle.kernel_steps.specs.declared.Input.TheVariants as inputs
use Rattle.kernel_steps.specs.Rows.{first_under, is_under}
use Rattle.version_table.specs.Files as tables
use Rattle.server_kernel.specs.declared.Asked.{Asked}
use Rattle.server_kernel.specs.declared.CallOut.{CallOut}
use Rattle.server_kernel.specs.declared.Server.{Server}
use Rattle.server_kernel.specs.Files as files
use Rattle.server_kernel.specs.Grants as grants
use Rattle.server_kernel.specs.Steps as stepping
use Rattle.server_kernel.specs.Waits as waiting
use Rattle.server_kernel.specs.Waits.{first_about, less_about}
use Rattle.server_walks.proofs.Deeds.{Keeps}
use Rattle.server_walks.proofs.ServeWalk.{grants_asked, puts_all, serves}

-- what a fact must bear of a step, of which K is known of each request that is served or kept
pub record KeepsSteps (K : Asked → Type 0) (P : Server → Type 0) : Type 0 where
  pub deeds : Keeps K P
  pub waited : (s : Server) (file : FileId) (request : Asked) → first_about file s.waiting ≡ Some request → P s → K request
  pub asked : (s : Server) (file : FileId) (request : Asked) → first_about file s.asking ≡ Some request → P s → K request
  pub less_waiting : (s : Server) (file : FileId) → P s → P (record s { waiting = less_about file s.waiting })
  pub less_asking : (s : Server) (file : FileId) → P s → P (record s { asking = less_about file s.asking })
  pub less_callbacks : (s : Server) (tx : TxNo) → P s → P (record s { callbacks = less (is_under waiting.is_call tx) s.callbacks })
  pub hears : (s : Server) (call : CallOut) → files.is_busy call.file s ≡ true → P s → P (waiting.with_answer call s)
  pub settles : (s : Server) (file : FileId) → tables.is_ready (files.kept_of file s) ≡ true → P s → P (waiting.with_settled file s)

-- so it is of one that comes
abbrev pub Comes : (Asked → Type 0) → Input → Type 0
Comes K (inputs.Request tx source body) = K (record { tx = tx; from = source; body = body })
Comes K input = Unit {0}

-- what waits for a file is served, one request after the other
module _ (K : Asked → Type 0) (P : Server → Type 0) (deeds : Keeps K P) (waited : (s : Server) (file : FileId) (request : Asked) → first_about file s.waiting ≡ Some request → P s → K request) (fewer : (s : Server) (file : FileId) → P s → P (record s { waiting = less_about file s.waiting })) where
  served : (o : Option Asked) (file : FileId) (s : Server) → first_about file s.waiting ≡ o → P s → P (waiting.serves_first o (record s { waiting = less_about file s.waiting }))
  served (Some request) file s e p = serves K P deeds request (record s { waiting = less_about file s.waiting }) (waited s file request e p) (fewer s file p)
  served None file s e p = fewer s file p

  turned : (file : FileId) (s : Server) → P s → P (waiting.turned file s)
  turned file s p = elim (files.is_busy file s) as (λ b. P (cond b s (waiting.serves_first (first_about file s.waiting) (record s { waiting = less_about file s.waiting })))) [ true ↦ p | false ↦ served (first_about file s.waiting) file s refl p ]

  pub turns : (count : ℕ) (file : FileId) (s : Server) → P s → P (waiting.turns count file s)
  turns zero file s p = p
  turns (suc count) file s p = turned file (waiting.turns count file s) (turns count file s p)

module _ (K : Asked → Type 0) (P : Server → Type 0) (keeps : KeepsSteps K P) where
  on_if : (b : Bool) (s t : Server) → (b ≡ true → P s) → (b ≡ false → P t) → P (cond b s t)
  on_if true s t p q = p refl
  on_if false s t p q = q refl

  settles_by : (o : Option Grant) (request : Asked) (file : FileId) (s : Server) → tables.is_ready (files.kept_of file s) ≡ true → K request → P s → P (waiting.settles_by request file o s)
  settles_by (Some grant) request file s ready k p =
      let settled : Server = waiting.with_settled file s in
      let given : Server = grants.grants request file grant settled in
      turns K P keeps.deeds keeps.waited keeps.less_waiting (length given.waiting) file given (grants_asked K P keeps.deeds request file grant settled k (keeps.settles s file ready p))
  settles_by None request file s ready k p = p

  settles_first : (o : Option Asked) (file : FileId) (s : Server) → first_about file s.asking ≡ o → P s → P (waiting.settles_first file o (record s { asking = less_about file s.asking }))
  settles_first (Some request) file s e p =
      let taken : Server = record s { asking = less_about file s.asking } in
      on_if (tables.is_ready (files.kept_of file taken)) _ taken (λ ready. settles_by (tables.settled_grant (files.kept_of file taken)) request file taken ready (keeps.asked s file request e p) (keeps.less_asking s file p)) (λ t. keeps.less_asking s file p)
  settles_first None file s e p = keeps.less_asking s file p

  hears : (call : CallOut) (s : Server) → P s → P (waiting.hears call s)
  hears call s p =
      let heard : Server = waiting.with_answer call s in
      on_if (files.is_busy call.file s) _ s
      (λ busy. on_if (tables.is_ready (files.kept_of call.file heard)) _ heard (λ t. settles_first (first_about call.file heard.asking) call.file heard refl (keeps.hears s call busy p)) (λ t. keeps.hears s call busy p))
      (λ t. p)

  flushes_first : (o : Option CallOut) (flushed : Flushed) (s : Server) → P s → P (waiting.flushes_first flushed o s)
  flushes_first (Some call) flushed s p = hears call (waiting.puts_all call.file flushed.size flushed.blocks s) (puts_all K P keeps.deeds flushed.blocks call.file flushed.size s p)
  flushes_first None flushed s p = p

  takes_reply : (body : ReplyBody) (tx : TxNo) (s : Server) → P s → P (stepping.takes_reply tx body s)
  takes_reply (bodies.Flushed flushed) tx s p = flushes_first (first_under waiting.is_call tx s.callbacks) flushed (record s { callbacks = less (is_under waiting.is_call tx) s.callbacks }) (keeps.less_callbacks s tx p)
  takes_reply body tx s p = p

  pub takes : (input : Input) (s : Server) → Comes K input → P s → P (stepping.takes input s)
  takes (inputs.Request tx source body) s k p = serves K P keeps.deeds (record { tx = tx; from = source; body = body }) s k p
  takes (inputs.Replied tx source body) s k p = takes_reply body tx s p
  takes input s k p = p
