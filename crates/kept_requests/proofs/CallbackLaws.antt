-- The callbacks that are out behind a step of a server.
use Rattle.std.proofs.Common.{arith, ◌≡◌, ℕ, suc, ◌+◌, true, false, cond, List, [], ◌∷◌, ◌++◌, length, Option, Some, None, refl, sym, ap, subst, ◌∙◌, append-nil, append_assoc, length-append}
use Rattle.sprite_ids.specs.declared.Callback.{Callback}
use Rattle.sprite_ids.specs.declared.FileId.{FileId}
use Rattle.sprite_ids.specs.declared.Flushed.{Flushed}
use Rattle.sprite_ids.specs.declared.Grant.{Grant}
use Rattle.sprite_ids.specs.declared.TxNo.{TxNo}
use Rattle.packet_bodies.specs.declared.ReplyBody.{ReplyBody}
use Rattle.packet_bodies.specs.declared.ReplyBody.TheVariants as bodies
use Rattle.kernel_steps.specs.declared.Input.{Input}
use Rattle.kernel_steps.specs.declared.Input.TheVariants as inputs
use Rattle.kernel_steps.specs.declared.Sending.{Sending}
use Rattle.kernel_steps.specs.Rows.{first_under}
use Rattle.version_table.specs.Files as tables
use Rattle.server_kernel.specs.declared.Asked.{Asked}
use Rattle.server_kernel.specs.declared.CallOut.{CallOut}
use Rattle.server_kernel.specs.declared.Server.{Server}
use Rattle.server_kernel.specs.Files as files
use Rattle.server_kernel.specs.Grants as grants
use Rattle.server_kernel.specs.Grants.{callback_sending}
use Rattle.server_kernel.specs.Steps as stepping
use Rattle.server_kernel.specs.Steps.{begins}
use Rattle.server_kernel.specs.Waits as waiting
use Rattle.server_kernel.specs.Waits.{first_about, less_about}
use Rattle.server_walks.proofs.Deeds.{Every, Keeps}
use Rattle.server_walks.proofs.ServeWalk.{grants_asked, puts_all, serves}
use Rattle.server_walks.proofs.StepWalk.{turns as walk_turns}
use Rattle.kept_requests.specs.Callbacks.{AreSent, IsSent, StepCallsBack, left_by, left_out}

abbrev Calls : Type 0
Calls = List (TxNo × CallOut)

sent_last : (number : ℕ) (rows : Calls) (sends : List Sending) (row : TxNo × CallOut) (sending : Sending) → AreSent number rows sends → IsSent (number + length sends) row sending → AreSent number (rows ++ row ∷ []) (sends ++ sending ∷ [])
sent_last number [] [] row sending h is = let same : number + 0 ≡ number = omega arith in (subst (λ n. IsSent n row sending) same is, tt)
sent_last number (one ∷ rows) (first ∷ sends) row sending h is =
    let same : number + suc (length sends) ≡ number + 1 + length sends = omega arith in
    (h.0, sent_last (number + 1) rows sends row sending h.1 (subst (λ n. IsSent n row sending) same is))
sent_last number [] (first ∷ sends) row sending h is = absurd h
sent_last number (one ∷ rows) [] row sending h is = absurd h

one_more : (next number m n : ℕ) → next ≡ number + m → n ≡ m + 1 → next + 1 ≡ number + n
one_more next number m n e f = omega (arith, e, f)

nothing_more : (n : ℕ) → n ≡ n + 0
nothing_more n = omega arith

-- what was out first, and then what was sent from a number on
record SentSo (base : Calls) (number : ℕ) (rows : Calls) (next : TxNo) (sends : List Sending) : Type 0 where
  new : Calls
  are : rows ≡ base ++ new
  sent : AreSent number new sends
  count : next.0 ≡ number + length sends

module _ (base : Calls) (number : ℕ) where
  abbrev P : Server → Type 0
  P s = SentSo base number s.callbacks s.out.next s.out.sends

  called : (asked : Asked) (call : Callback) (s : Server) → P s → P (grants.calls_one asked call s)
  called asked call s p =
      let row : TxNo × CallOut = (s.out.next, record { file = call.file; kernel = call.to }) in
      let sending : Sending = callback_sending asked call in
      let more : length (s.out.sends ++ sending ∷ []) ≡ length s.out.sends + 1 = length-append s.out.sends (sending ∷ []) in
      record {
        new = p.new ++ row ∷ [];
        are = ap (λ (rows : Calls). rows ++ row ∷ []) p.are ∙ append_assoc base p.new (row ∷ []);
        sent = sent_last number p.new s.out.sends row sending p.sent (record { numbered = p.count; one = refl; lasts = refl; stamp = call.stamp; kind = call.kind; body = refl });
        count = one_more s.out.next.0 number (length s.out.sends) (length (s.out.sends ++ sending ∷ [])) p.count more;
      }

  called_all : (calls : List Callback) (asked : Asked) (s : Server) → P s → P (grants.calls_all asked calls s)
  called_all [] asked s p = p
  called_all (call ∷ calls) asked s p = called_all calls asked (grants.calls_one asked call s) (called asked call s p)

  deeds : Keeps Every P
  deeds = record {
    notes = λ s event told p. p;
    answers = λ s asked reply k is p. p;
    pages = λ s swap p. p;
    shares = λ s shadows p. p;
    writes = λ s file bytes there p. p;
    makes = λ s path node unit e off p. p;
    removes = λ s path node e off p. p;
    renames = λ s old new unit e p. p;
    creates = λ s path unit e p. p;
    unlinks = λ s path file e free opens p. p;
    forgets = λ s path file e free opens p. p;
    waits = λ s asked file k wait busy p. p;
    granted = λ s file action free e p. p;
    asks = λ s asked file action call calls k may free e p. called_all (call ∷ calls) asked (grants.asks asked file (grants.with_decided file action s)) p;
    closes = λ s file kernel stream many mode free there last p. p;
    closes_last = λ s file kernel stream many mode free there last p. p;
  }

  -- ---- an answer

  settles_by : (o : Option Grant) (asked : Asked) (file : FileId) (s : Server) → P s → P (waiting.settles_by asked file o s)
  settles_by (Some grant) asked file s p =
      let given : Server = grants.grants asked file grant (waiting.with_settled file s) in
      walk_turns Every P deeds (λ s file request e p. tt) (λ s file p. p) (length given.waiting) file given (grants_asked Every P deeds asked file grant (waiting.with_settled file s) tt p)
  settles_by None asked file s p = p

  settles_first : (o : Option Asked) (file : FileId) (s : Server) → P s → P (waiting.settles_first file o s)
  settles_first (Some asked) file s p = elim (tables.is_ready (files.kept_of file s)) as (λ b. P (cond b (waiting.settles_by asked file (tables.settled_grant (files.kept_of file s)) s) s)) [ true ↦ settles_by (tables.settled_grant (files.kept_of file s)) asked file s p | false ↦ p ]
  settles_first None file s p = p

  settles : (file : FileId) (s : Server) → P s → P (waiting.settles file s)
  settles file s p =
      let left : Server = record s { asking = less_about file s.asking } in
      elim (tables.is_ready (files.kept_of file s)) as (λ b. P (cond b (waiting.settles_first file (first_about file s.asking) left) s)) [ true ↦ settles_first (first_about file s.asking) file left p | false ↦ p ]

  hears : (call : CallOut) (s : Server) → P s → P (waiting.hears call s)
  hears call s p = elim (files.is_busy call.file s) as (λ b. P (cond b (waiting.settles call.file (waiting.with_answer call s)) s)) [ true ↦ settles call.file (waiting.with_answer call s) p | false ↦ p ]

  flushes_first : (o : Option CallOut) (flushed : Flushed) (s : Server) → P s → P (waiting.flushes_first flushed o s)
  flushes_first (Some call) flushed s p = hears call (waiting.puts_all call.file flushed.size flushed.blocks s) (puts_all Every P deeds flushed.blocks call.file flushed.size s p)
  flushes_first None flushed s p = p

  served : (asked : Asked) (s : Server) → P s → P (stepping.takes (inputs.Request asked.tx asked.from asked.body) s)
  served asked s p = serves Every P deeds asked s tt p

-- ---- a step

none_sent : (base : Calls) (next : TxNo) → SentSo base next.0 base next []
none_sent base next = record { new = []; are = sym (append-nil base); sent = tt; count = nothing_more next.0 }

takes_reply : (body : ReplyBody) (tx next : TxNo) (s : Server) → SentSo (left_by body tx s.callbacks) next.0 (stepping.takes_reply tx body (begins next s)).callbacks (stepping.takes_reply tx body (begins next s)).out.next (stepping.takes_reply tx body (begins next s)).out.sends
takes_reply (bodies.Flushed flushed) tx next s =
    let left : Calls = left_by (bodies.Flushed flushed) tx s.callbacks in
    flushes_first left next.0 (first_under waiting.is_call tx s.callbacks) flushed (record (begins next s) { callbacks = left }) (none_sent left next)
takes_reply body tx next s = none_sent s.callbacks next

takes : (input : Input) (next : TxNo) (s : Server) → SentSo (left_out input s.callbacks) next.0 (stepping.takes input (begins next s)).callbacks (stepping.takes input (begins next s)).out.next (stepping.takes input (begins next s)).out.sends
takes (inputs.Request tx source body) next s = served s.callbacks next.0 (record { tx = tx; from = source; body = body }) (begins next s) (none_sent s.callbacks next)
takes (inputs.Replied tx source body) next s = takes_reply body tx next s
takes input next s = none_sent s.callbacks next

pub step_calls_back : StepCallsBack
step_calls_back s input next = let got = takes input next s in record { new = got.new; rows = got.are; sent = got.sent; after = got.count }
