-- A remote call that ends in a step leaves nothing behind it.
use Rattle.std.proofs.Common.{arith, ◌≡◌, ℕ, ◌+◌, ◌<◌, ◌==◌, Bool, true, false, ◌||◌, cond, List, [], ◌∷◌, ◌++◌, Option, Some, None, option_map, refl, sym, ap, ◌∙◌, subst}
use Rattle.std.proofs.lemmas.Bool.{eqb-true}
use Rattle.std.specs.List.{find, list_any}
use Rattle.sprite_ids.specs.declared.TxNo.{TxNo}
use Rattle.sprite_ids.specs.Lists.{EachOnce}
use Rattle.sprite_ids.proofs.OnceLaws.{or_false}
use Rattle.packet_bodies.specs.declared.ReplyBody.{ReplyBody}
use Rattle.block_cache.specs.Blocks.{dirty_at}
use Rattle.kernel_steps.specs.declared.Input.{Input}
use Rattle.kernel_steps.specs.declared.Input.TheVariants as inputs
use Rattle.kernel_steps.specs.declared.Sending.{Sending}
use Rattle.kernel_steps.specs.Rows.{is_under}
use Rattle.client_file_tables.specs.declared.client_files.ClientFiles.{ClientFiles}
use Rattle.client_file_tables.specs.declared.pending.Pending.{Pending}
use Rattle.client_file_tables.specs.declared.works.WriteBackOut.{WriteBackOut}
use Rattle.client_file_tables.specs.Rows.{first_call, less_call, same_call}
use Rattle.client_file_tables.specs.Steps as tables
use Rattle.client_file_tables.specs.Steps.{owns}
use Rattle.client_data.specs.WriteBacks as written
use Rattle.client_files.specs.Answered as answering
use Rattle.client_names.specs.Answers as name_answers
use Rattle.client_homes.specs.declared.client.ClientProcs.{ClientProcs}
use Rattle.client_procs.specs.Answered as hearing
use Rattle.client_procs.specs.Steps as stepping
use Rattle.client_procs.specs.Turning as turning
use Rattle.client_facts.specs.FileFacts.{CallsAreOnce, same_key}
use Rattle.client_facts.proofs.CostLaws.{any_less}
use Rattle.file_walks.proofs.Muted as muted
use Rattle.file_walks.proofs.Muted.{Mute}
use Rattle.operation_calls.specs.Endings.{EndedAreGone, Ends}
use Rattle.operation_calls.proofs.AnswerLaws as answers
use Rattle.operation_calls.proofs.Books.{Bears, Book, book_of}
use Rattle.operation_calls.proofs.StepLaws as steps

-- ---- lists

none_more : {X : Type 0} (p : X → Bool) (xs : List X) (x : X) → list_any p xs ≡ false → p x ≡ false → list_any p (xs ++ x ∷ []) ≡ false
none_more p [] x e f = ap (λ b. b || false) f
none_more p (y ∷ ys) x e f = let parts = or_false (p y) (list_any p ys) e in ap (λ b. b || list_any p (ys ++ x ∷ [])) parts.0 ∙ none_more p ys x parts.1 f

-- of a call that is kept once, none is left
none_left : {V : Type 0} (tx : TxNo) (rows : List (TxNo × V)) → EachOnce same_key rows → list_any (is_under same_call tx) (less_call tx rows) ≡ false
none_left tx [] once = refl
none_left {V} tx (row ∷ rows) once = by (row.0.0 == tx.0) refl (none_left tx rows once.1)
  where
    by : (b : Bool) → (row.0.0 == tx.0) ≡ b → list_any (is_under same_call tx) (less_call tx rows) ≡ false → list_any (is_under same_call tx) (cond b rows (row ∷ less_call tx rows)) ≡ false
    by true e later = subst (λ (n : ℕ). list_any (λ (other : TxNo × V). other.0.0 == n) rows ≡ false) (eqb-true row.0.0 tx.0 e) once.0
    by false e later = ap (λ b. b || list_any (is_under same_call tx) (less_call tx rows)) e ∙ later

found_none : {X : Type 0} (p : X → Bool) (xs : List X) → list_any p xs ≡ true → find p xs ≡ None → ⊥
found_none p [] some none = absurd (cc)
found_none p (x ∷ xs) some none = by (p x) refl (λ e f. found_none p xs e f)
  where
    by : (b : Bool) → p x ≡ b → (list_any p xs ≡ true → find p xs ≡ None → ⊥) → ⊥
    by true e later = absurd (let here : cond (p x) (Some x) (find p xs) ≡ Some x = ap (λ b. cond b (Some x) (find p xs)) e in let both = sym here ∙ none in cc)
    by false e later = later (sym (ap (λ b. b || list_any p xs) e) ∙ some) (sym (ap (λ b. cond b (Some x) (find p xs)) e) ∙ none)

lower_apart : (a b : ℕ) → a < b → (b == a) ≡ false
lower_apart a b less = by (b == a) refl
  where
    by : (c : Bool) → (b == a) ≡ c → c ≡ false
    by true e = absurd (let same = eqb-true b a e in omega arith)
    by false e = refl

still_lower : (a b : ℕ) → a < b → a < b + 1
still_lower a b less = omega arith

module _ (tx : TxNo) where
  -- nothing is left of the call, and new ones have other numbers
  pub record Gone (b : Book) : Type 0 where
    pub low : tx.0 < b.next.0
    pub kept : list_any (is_under same_call tx) b.asked ≡ false
    pub out : list_any (is_under same_call tx) b.backs ≡ false

  abbrev Any : List Sending → ℕ × Pending → Type 0
  Any sends row = Unit {0}

  asked_more : (b : Book) (pid : ℕ) → Gone b → list_any (is_under same_call tx) (b.asked ++ (b.next, pid) ∷ []) ≡ false
  asked_more b pid h = none_more (is_under same_call tx) b.asked (b.next, pid) h.kept (lower_apart tx.0 b.next.0 h.low)

  out_more : (b : Book) (back : WriteBackOut) → Gone b → list_any (is_under same_call tx) (b.backs ++ (b.next, back) ∷ []) ≡ false
  out_more b back h = none_more (is_under same_call tx) b.backs (b.next, back) h.out (lower_apart tx.0 b.next.0 h.low)

  gone_bears : Bears Gone Any
  gone_bears = record {
    says = λ sending b h. record { low = still_lower tx.0 b.next.0 h.low; kept = h.kept; out = h.out };
    keeps = λ pid operation b so h. record { low = h.low; kept = h.kept; out = h.out };
    free = λ pid operation sends none. tt;
    asks_for = λ sending pid operation b own asks tries to h. record { low = still_lower tx.0 b.next.0 h.low; kept = asked_more b pid h; out = h.out };
    goes_back = λ sending back b asks tries to h. record { low = still_lower tx.0 b.next.0 h.low; kept = h.kept; out = out_more b back h };
    goes_own = λ sending back pid operation b own asks tries to is lasts goes h. record { low = still_lower tx.0 b.next.0 h.low; kept = asked_more b pid h; out = out_more b back h };
    left = λ pid b h. record { low = h.low; kept = h.kept; out = h.out };
    found = λ pid operation b e h. tt;
    hears = λ other b h. record { low = h.low; kept = any_less (is_under same_call tx) (is_under same_call other) b.asked h.kept; out = h.out };
    back_in = λ other b h. record { low = h.low; kept = h.kept; out = any_less (is_under same_call tx) (is_under same_call other) b.backs h.out };
  }

  abbrev Left : ClientFiles → Type 0
  Left s = Gone (book_of s)

  -- its write-back is in, and its call is kept once still
  record Half (b : Book) : Type 0 where
    low : tx.0 < b.next.0
    once : EachOnce same_key b.asked
    out : list_any (is_under same_call tx) b.backs ≡ false

  half_mute : Mute (λ s. Half (book_of s))
  half_mute = record {
    caches = λ s cache p. p;
    delays = λ s rows p. p;
    tells = λ s event p. p;
    answers = λ s other body p. p;
    learns = λ s domains p. p;
    cwds = λ s rows p. p;
    counts = λ s p. p;
  }

  -- ---- it is answered

  back_gone : (o : Option WriteBackOut) (body : ReplyBody) (s : ClientFiles) → first_call tx s.write_backs ≡ o → list_any (is_under same_call tx) s.write_backs ≡ true → CallsAreOnce s → tx.0 < s.out.next.0 → Left (written.done_first tx body o (record s { write_backs = less_call tx s.write_backs }))
  back_gone None body s e there once low = absurd (found_none (is_under same_call tx) s.write_backs there (none_in (find (is_under same_call tx) s.write_backs) e))
    where
      none_in : (found : Option (TxNo × WriteBackOut)) → option_map (λ (row : TxNo × WriteBackOut). row.1) found ≡ None → found ≡ None
      none_in None e = refl
      none_in (Some row) e = absurd (cc)
  back_gone (Some back) body s e there once low =
      let off : ClientFiles = record s { write_backs = less_call tx s.write_backs } in
      let settled : ClientFiles = written.settles_back body back off in
      let again : ClientFiles = written.lists_again back.file back.block settled in
      let start : Half (book_of off) = record { low = low; once = once.own; out = none_left tx s.write_backs once.back } in
      let so : Half (book_of again) = muted.lists_again (λ u. Half (book_of u)) half_mute (dirty_at settled.cache.blocks back.file back.block.0) back.file back.block settled (muted.settles_back (λ u. Half (book_of u)) half_mute body back off start) in
      answers.synced_by Gone Any gone_bears (first_call tx again.txs) body (record (tables.wakes_all tx again) { txs = less_call tx again.txs }) (record { low = so.low; kept = none_left tx again.txs so.once; out = so.out })

  answered_by : (b : Bool) (source : ℕ) (body : ReplyBody) (s : ClientFiles) → list_any (is_under same_call tx) s.write_backs ≡ b → CallsAreOnce s → tx.0 < s.out.next.0
      → Left (cond b (written.written_back tx body s) (answering.answered_first (first_call tx s.txs) tx source body (record s { txs = less_call tx s.txs })))
  answered_by true source body s e once low = back_gone (first_call tx s.write_backs) body s refl e once low
  answered_by false source body s e once low = answers.heard_first Gone Any gone_bears (first_call tx s.txs) tx source body (record s { txs = less_call tx s.txs }) (record { low = low; kept = none_left tx s.txs once.own; out = e })

  heard_by : (b : Bool) (source : ℕ) (body : ReplyBody) (s : ClientProcs) → owns tx s.files ≡ b → CallsAreOnce s.files → tx.0 < s.files.out.next.0 → Left (cond b (record s { files = answering.answered tx source body s.files }) (hearing.hears_own tx body s)).files
  heard_by true source body s e once low = answered_by (list_any (is_under same_call tx) s.files.write_backs) source body s.files refl once low
  heard_by false source body s e once low =
      let parts = or_false (list_any (is_under same_call tx) s.files.txs) (list_any (is_under same_call tx) s.files.write_backs) e in
      steps.heard Gone Any gone_bears (inputs.Replied tx source body) tx body s (record { low = low; kept = parts.0; out = parts.1 })

  -- ---- or given up

  ended_gone : (s : ClientFiles) → list_any (is_under same_call tx) s.write_backs ≡ false → CallsAreOnce s → tx.0 < s.out.next.0 → Left (name_answers.gives_up tx s)
  ended_gone s none once low = answers.ended_first Gone Any gone_bears (first_call tx s.txs) tx (record s { txs = less_call tx s.txs }) (record { low = low; kept = none_left tx s.txs once.own; out = none })

  -- ---- so it is behind what comes, and behind the rounds

  taken : (input : Input) (s : ClientProcs) → CallsAreOnce s.files → tx.0 < s.files.out.next.0 → Ends tx input s.files → Left (stepping.takes input s).files
  taken (inputs.Replied other source body) s once low ends = subst (λ (t : TxNo). Left (stepping.takes (inputs.Replied t source body) s).files) ends (heard_by (owns tx s.files) source body s refl once low)
  taken (inputs.GaveUp other) s once low ends = subst (λ (t : TxNo). Left (stepping.takes (inputs.GaveUp t) s).files) ends.0 (ended_gone s.files ends.1 once low)
  taken (inputs.Issued pid number call) s once low ends = absurd ends
  taken (inputs.Request other source body) s once low ends = absurd ends
  taken (inputs.Due file block) s once low ends = absurd ends
  taken (inputs.PageNeeded pid page) s once low ends = absurd ends

  begun_ends : (input : Input) (s : ClientProcs) (next : TxNo) (step : ℕ) → Ends tx input s.files → Ends tx input (stepping.begins_step next step s).files
  begun_ends (inputs.Replied other source body) s next step ends = ends
  begun_ends (inputs.GaveUp other) s next step ends = ends
  begun_ends (inputs.Issued pid number call) s next step ends = absurd ends
  begun_ends (inputs.Request other source body) s next step ends = absurd ends
  begun_ends (inputs.Due file block) s next step ends = absurd ends
  begun_ends (inputs.PageNeeded pid page) s next step ends = absurd ends

  pub gone : (s : ClientProcs) (input : Input) (next : TxNo) (step : ℕ) → CallsAreOnce s.files → tx.0 < next.0 → Ends tx input s.files → Left (turning.goes_on (stepping.takes input (stepping.begins_step next step s))).files
  gone s input next step once low ends =
      let start : ClientProcs = stepping.begins_step next step s in
      steps.rounds Gone Any gone_bears input (stepping.takes input start) (taken input start (record { own = once.own; back = once.back }) low (begun_ends input s next step ends))

pub ended_are_gone : EndedAreGone
ended_are_gone s input next step tx once low ends = let so = gone tx s input next step once low ends in record { kept = so.kept; out = so.out }
