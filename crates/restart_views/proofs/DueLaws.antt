-- A stop of a file's server, and a claim, leave the bytes that the file stands for.
use Rattle.std.proofs.Common.{◌≡◌, ◌≢◌, ◌≤◌, ◌<◌, ℕ, zero, suc, ◌+◌, ◌-◌, ◌*◌, ◌==◌, nat_lt, Bool, true, false, cond, ◌&&◌, is_some, List, [], ◌∷◌, ◌++◌, length, take, map, Option, Some, None, refl, sym, ap, ◌∙◌, subst, inl, inr, arith, eq-eqb, slice_index_or, length-take}
use Rattle.std.proofs.lemmas.Bool.{ltb-true, ltb-false, false_from_ne_true}
use Rattle.std.proofs.lemmas.Bool.Decides.{eqb_tells}
use Rattle.std.proofs.lemmas.List.{take_all}
use Rattle.sprite_ids.specs.declared.BlockNo.{BlockNo}
use Rattle.file_views.specs.declared.body.FileBody.{FileBody}
use Rattle.file_views.specs.declared.body.FileBody.TheVariants as form
use Rattle.file_views.specs.declared.call.FileCall.{FileCall}
use Rattle.file_views.specs.declared.client.Client.{Client}
use Rattle.file_views.specs.declared.client.Held.{Held}
use Rattle.file_views.specs.declared.view.View.{View}
use Rattle.file_views.specs.Setting.{Setting, sprite_setting}
use Rattle.file_views.specs.Contents.{cut, grown, overlay}
use Rattle.file_views.specs.Streams.{is_any}
use Rattle.file_views.specs.Clients.{new_client, dirty_blocks, pieces}
use Rattle.file_views.specs.Views.{client, things, is_callback, is_kernel, is_holder}
use Rattle.file_views.specs.Serving.{store_blocks}
use Rattle.file_views.specs.Settled.{sized, with_dirty, bytes_held, bytes_of_settled, stands_for}
use Rattle.file_views.specs.Here.{In, IsClient, at_kernel, about}
use Rattle.file_views.specs.SoundHolders.{Ready}
use Rattle.file_views.specs.SoundContents.{flushed_bytes, or_else, first_flushed, or_bytes, present_bytes}
use Rattle.file_views.specs.Sound.{Sound}
use Rattle.file_views.proofs.MemberLaws.{in_filter, filter_in}
use Rattle.file_views.proofs.EffectLaws.{call_in_things}
use Rattle.file_views.proofs.HolderLaws.{about_to}
use Rattle.file_views.proofs.HolderSettleLaws.{holder_is}
use Rattle.file_views.proofs.ShapeLaws.{flat_of}
use Rattle.file_views.proofs.StampLaws.{callback_target}
use Rattle.file_views.proofs.SizeLaws.{length_grown}
use Rattle.file_views.proofs.SizeServeLaws.{flush_called}
use Rattle.file_views.proofs.SizeMoveLaws.{piece_within}
use Rattle.file_views.proofs.PresentLaws.{flush_found, grown_full, over_store, present_by}
use Rattle.file_views.proofs.SettledLaws.{stands_is}
use Rattle.restart_views.specs.declared.kept.Kept.{Kept}
use Rattle.restart_views.specs.declared.restarted.Restarted.{Restarted}
use Rattle.restart_views.specs.Answered.{Answered}
use Rattle.restart_views.specs.Restarts.{is_unclaimed, keeps_blocks, flushes, answer_of, answered_size, answered_blocks, client_at, kept_of, or_kept, keep_to, after_stop, Restarts}
use Rattle.restart_views.specs.RunBytes.{due_kept, due_of, due_in, due, NoneOld, OldAt, OneOld}
use Rattle.file_views.proofs.SoundLaws.{layers_of}
use Rattle.restart_views.proofs.BareLaws.{bare_sound}
use Rattle.restart_views.proofs.CoolLaws.{cold_bare, cold_stood}
use Rattle.restart_views.proofs.AnsweredLaws.{first_dirty}
use Rattle.restart_views.proofs.RestartLaws.{kept_in, AnsweredBy, answer_by, keep_count}

some_bytes : 0 < sprite_setting.block
some_bytes = omega arith

-- which client keeps dirty blocks by itself tells the bytes
pub due_none : (z : Setting) (v : View) (kept : List (Option Kept)) → NoneOld kept → due_in z v kept ≡ stands_for z v
due_none z v [] n = refl
due_none z v (x ∷ xs) n = ap (λ b. cond b (due_of z v x) (due_in z v xs)) (n zero) ∙ due_none z v xs (λ place. n (suc place))

pub due_at : (z : Setting) (v : View) (kept : List (Option Kept)) (place : ℕ) (one : Kept) → slice_index_or kept place None ≡ Some one → is_any one.blocks ≡ true → ((other : ℕ) → other ≢ place → keeps_blocks (slice_index_or kept other None) ≡ false) → due_in z v kept ≡ due_kept z v one
due_at z v [] place one e s o = absurd (cc (e))
due_at z v (x ∷ xs) zero one e s o = ap (λ y. cond (keeps_blocks y) (due_of z v y) (due_in z v xs)) e ∙ ap (λ b. cond b (due_kept z v one) (due_in z v xs)) s
due_at z v (x ∷ xs) (suc place) one e s o = ap (λ b. cond b (due_of z v x) (due_in z v xs)) (o zero (λ q. cc (q))) ∙ due_at z v xs place one e s (λ other d. o (suc other) (λ q. d (omega (arith, q))))

pub due_old : (z : Setting) (v : View) (kept : List (Option Kept)) (o : OldAt kept) → due_in z v kept ≡ due_kept z v o.one
due_old z v kept o = due_at z v kept o.place o.one o.is o.some o.others

-- what is kept at each place after a stop
kept_place : (z : Setting) (v : View) (kept : List (Option Kept)) (place : ℕ) → Option Kept
kept_place z v kept place = Some (or_kept (slice_index_or kept place None) (kept_of z v place))

at_front : (xs ys : List (Option Kept)) (place : ℕ) → place < length xs → slice_index_or (xs ++ ys) place None ≡ slice_index_or xs place None
at_front [] ys place l = absurd (omega (arith, l))
at_front (x ∷ xs) ys zero l = refl
at_front (x ∷ xs) ys (suc place) l = at_front xs ys place (omega (arith, l))

at_end : (xs : List (Option Kept)) (y : Option Kept) → slice_index_or (xs ++ y ∷ []) (length xs) None ≡ y
at_end [] y = refl
at_end (x ∷ xs) y = at_end xs y

pub past_end : (xs : List (Option Kept)) (place : ℕ) → length xs ≤ place → slice_index_or xs place None ≡ None
past_end [] place l = refl
past_end (x ∷ xs) zero l = absurd (omega (arith, l))
past_end (x ∷ xs) (suc place) l = past_end xs place (omega (arith, l))

pub keep_at : (z : Setting) (v : View) (kept : List (Option Kept)) (count place : ℕ) → place < count → slice_index_or (keep_to z v kept count) place None ≡ Some (or_kept (slice_index_or kept place None) (kept_of z v place))
keep_at z v kept zero place l = absurd (omega (arith, l))
keep_at z v kept (suc count) place l = elim (eqb_tells place count) [
  | inl a ↦ subst (λ n. slice_index_or (keep_to z v kept (suc count)) n None ≡ Some (or_kept (slice_index_or kept n None) (kept_of z v n))) (sym a.1)
      (subst (λ n. slice_index_or (keep_to z v kept count ++ Some (or_kept (slice_index_or kept count None) (kept_of z v count)) ∷ []) n None ≡ Some (or_kept (slice_index_or kept count None) (kept_of z v count))) (keep_count z v kept count) (at_end (keep_to z v kept count) (Some (or_kept (slice_index_or kept count None) (kept_of z v count)))))
  | inr b ↦ at_front (keep_to z v kept count) (Some (or_kept (slice_index_or kept count None) (kept_of z v count)) ∷ []) place (let d = b.1 in let e = keep_count z v kept count in omega (arith, d, e, l)) ∙ keep_at z v kept count place (let d = b.1 in omega (arith, d, l))
]

none_past : (z : Setting) (v : View) (kept : List (Option Kept)) (count place : ℕ) → count ≤ place → keeps_blocks (slice_index_or (keep_to z v kept count) place None) ≡ false
none_past z v kept count place l = ap keeps_blocks (past_end (keep_to z v kept count) place (let e = keep_count z v kept count in omega (arith, e, l)))

-- who has dirty blocks, or answered a callback with blocks, is the holder, and knows the file at the server's version
pub record Holding (v : View) (place : ℕ) (one : Kept) : Type 0 where
  pub holds : is_holder v (place + 1) ≡ true
  pub current : one.version ≡ v.version

pub holding_of : (z : Setting) (v : View) (place : ℕ) → place < length v.clients → Sound z v → Answered v → is_any (kept_of z v place).blocks ≡ true → Holding v place (kept_of z v place)
holding_of z v place l s a = by_answer (answer_of (place + 1) v.calls) refl
  where
    c : Client
    c = client_at v place

    i : IsClient (length v.clients) (place + 1)
    i = (omega arith, omega (arith, l))

    is_c : client v (place + 1) ≡ c
    is_c = ap (λ n. slice_index_or v.clients n new_client) (omega arith)

    own : List (BlockNo × List ℕ)
    own = pieces z c.size c.blocks

    mine : is_any own ≡ true → Holding v place (kept_of z v place)
    mine n =
        let d = first_dirty z c.size c.blocks (dirty_blocks c.blocks) refl n in
        let y : Ready (place + 1) (client v (place + 1)).stamp (client v (place + 1)).version v.version (is_holder v (place + 1)) (client v (place + 1)).mode (at_kernel v (place + 1)).calls = (s.holders.each (place + 1) i).dirty_ready d.0 (subst (λ (x : Client). In d.0 x.blocks) (sym is_c) d.1) d.2 in
        record { holds = y.holds_it; current = sym (ap (λ (x : Client). x.version) is_c) ∙ y.at_version }

    by_answer : (o : Option FileBody) → answer_of (place + 1) v.calls ≡ o → is_any (answered_blocks own o) ≡ true → Holding v place (kept_of z v place)
    by_answer (Some (form.Flushed n blocks)) e k =
        let b : AnsweredBy (place + 1) n blocks v.calls = answer_by (place + 1) v.calls n blocks e in
        let m : In b.call (at_kernel v (place + 1)).calls = filter_in (about (place + 1)) b.call (things v) (call_in_things v b.call b.there) (about_to (place + 1) b.call b.to_kernel) in
        record {
          holds = (s.requests.each (place + 1) i).sizes.flushed_holder b.call m b.to_kernel n blocks b.replied b.some;
          current = sym (ap (λ (x : Client). x.version) is_c) ∙ (sym (ap (λ k. (client v k).version) b.to_kernel) ∙ a b.call (call_in_things v b.call b.there) n blocks b.replied b.some);
        }
    by_answer o e k = mine k

-- an answer with blocks
record FlushOf (reply : Option FileBody) : Type 0 where
  pub size : ℕ
  pub blocks : List (BlockNo × List ℕ)
  pub is : reply ≡ Some (form.Flushed size blocks)
  pub some : is_any blocks ≡ true

flush_of : (reply : Option FileBody) → flushes reply ≡ true → FlushOf reply
flush_of (Some (form.Flushed size blocks)) e = record { size = size; blocks = blocks; is = refl; some = e }
flush_of reply e = absurd (cc (e))

flush_holds : (z : Setting) (v : View) → Sound z v → (one : FileCall) → In one v.calls → (size : ℕ) (blocks : List (BlockNo × List ℕ)) → one.reply ≡ Some (form.Flushed size blocks) → is_any blocks ≡ true → is_holder v one.to ≡ true
flush_holds z v s one m size blocks r n =
    let k : is_callback one.body ≡ true = flush_called v (flat_of v s.shapes) one (call_in_things v one m) size blocks r in
    let i : IsClient (length v.clients) one.to = callback_target (length v.clients) one.from one.to one.body (s.shapes.calls one m).ends k in
    (s.requests.each one.to i).sizes.flushed_holder one (filter_in (about one.to) one (things v) (call_in_things v one m) (about_to one.to one refl)) refl size blocks r n

-- the bytes of a looked-up answer with blocks
abbrev pub stored_of : Setting → List ℕ → Option FileBody → Option (List ℕ)
stored_of z bytes (Some (form.Flushed size blocks)) = Some (store_blocks z bytes size blocks)
stored_of z bytes reply = None

answer_step : (z : Setting) (bytes : List ℕ) (r : Option FileBody) (b : Bool) (x : Option (List ℕ)) (y : Option FileBody) → (flushes r ≡ true → b ≡ true) → x ≡ stored_of z bytes y → or_else (flushed_bytes z bytes r) x ≡ stored_of z bytes (cond (b && flushes r) r y)
answer_step z bytes (Some (form.Flushed size (p ∷ ps))) true x y g e = refl
answer_step z bytes (Some (form.Flushed size (p ∷ ps))) false x y g e = absurd (let k = g refl in cc (k))
answer_step z bytes (Some (form.Flushed size [])) true x y g e = e
answer_step z bytes (Some (form.Flushed size [])) false x y g e = e
answer_step z bytes r true x y g e = e
answer_step z bytes r false x y g e = e

first_answer : (z : Setting) (bytes : List ℕ) (kernel : ℕ) (calls : List FileCall) → ((one : FileCall) → In one calls → flushes one.reply ≡ true → one.to ≡ kernel) → first_flushed z bytes calls ≡ stored_of z bytes (answer_of kernel calls)
first_answer z bytes kernel [] f = refl
first_answer z bytes kernel (one ∷ rest) f = answer_step z bytes one.reply (one.to == kernel) (first_flushed z bytes rest) (answer_of kernel rest) (λ e. eq-eqb one.to kernel (f one (inl refl) e)) (first_answer z bytes kernel rest (λ x m. f x (inr m)))

sized_length : (bytes : List ℕ) (size : ℕ) → length bytes ≤ size → length (sized bytes size) ≡ size
sized_length bytes size l = let a = length-take size (grown bytes size) in let b = length_grown bytes size in omega (arith, a, b, l)

-- dirty blocks over bytes at their size are the pieces that are stored
sized_stored : (z : Setting) (size : ℕ) (bytes : List ℕ) (piece : BlockNo × List ℕ) (rest : List (BlockNo × List ℕ)) → length bytes ≤ size → store_blocks z (sized bytes size) size (piece ∷ rest) ≡ store_blocks z bytes size (piece ∷ rest)
sized_stored z size bytes piece rest l = ap (λ xs. store_blocks z (overlay xs (piece.0.0 * z.block) piece.1) size rest) (grown_full (sized bytes size) size (sized_length bytes size l) ∙ taken)
  where
    taken : take size (grown bytes size) ≡ grown bytes size
    taken = take_all size (grown bytes size) (let a = length_grown bytes size in omega (arith, a, l))

dirty_stored : (z : Setting) (bytes : List ℕ) (size : ℕ) (dirty : List Held) → (is_any dirty ≡ true → length bytes ≤ size) → ((one : Held) → In one dirty → one.block.0 * z.block + length (cut z one.bytes one.block.0 size) ≤ size) → with_dirty z bytes size dirty ≡ store_blocks z bytes size (map (λ (one : Held). (one.block, cut z one.bytes one.block.0 size)) dirty)
dirty_stored z bytes size [] l w = refl
dirty_stored z bytes size (first ∷ rest) l w = over_store z size (first ∷ rest) (sized bytes size) (sized_length bytes size (l refl)) w ∙ sized_stored z size bytes (first.block, cut z first.bytes first.block.0 size) (map (λ (one : Held). (one.block, cut z one.bytes one.block.0 size)) rest) (l refl)

first_in : (dirty : List Held) → is_any dirty ≡ true → (one : Held) × In one dirty
first_in [] e = absurd (cc (e))
first_in (one ∷ rest) e = (one, inl refl)

stood_present : (z : Setting) (v : View) → 0 < z.block → Sound z v → stands_for z v ≡ present_bytes z v
stood_present z v p s = let l = layers_of z v s in stands_is z v l p s.contents ∙ sym (present_by z v l p s.contents)

-- a view with a holder stands for what that keeps, stored
stood_held : (z : Setting) (v : View) (place : ℕ) → 0 < z.block → place < length v.clients → Sound z v → v.holder ≡ Some (place + 1) → stands_for z v ≡ store_blocks z v.bytes (kept_of z v place).size (kept_of z v place).blocks
stood_held z v place p l s h = stood_present z v p s ∙ (ap (or_bytes (bytes_of_settled z v)) (first_answer z v.bytes (place + 1) v.calls to_holder) ∙ by_answer (answer_of (place + 1) v.calls))
  where
    c : Client
    c = client_at v place

    i : IsClient (length v.clients) (place + 1)
    i = (omega arith, omega (arith, l))

    is_c : client v (place + 1) ≡ c
    is_c = ap (λ n. slice_index_or v.clients n new_client) (omega arith)

    to_holder : (one : FileCall) → In one v.calls → flushes one.reply ≡ true → one.to ≡ place + 1
    to_holder one m e =
        let f : FlushOf one.reply = flush_of one.reply e in
        let k : v.holder ≡ Some one.to = holder_is v.holder one.to (flush_holds z v s one m f.size f.blocks f.is f.some) in
        let q : Some one.to ≡ Some (place + 1) = sym k ∙ h in cc (q)

    dirty_in : (one : Held) → In one (dirty_blocks c.blocks) → In one (client v (place + 1)).blocks × (is_some one.dirty ≡ true)
    dirty_in one m = let q = in_filter (λ (x : Held). is_some x.dirty) one c.blocks m in (subst (λ (x : Client). In one x.blocks) (sym is_c) q.0, q.1)

    covers : is_any (dirty_blocks c.blocks) ≡ true → length v.bytes ≤ c.size
    covers e =
        let f = first_in (dirty_blocks c.blocks) e in
        let d = dirty_in f.0 f.1 in
        let holders = s.holders.each (place + 1) i in
        subst (λ (x : Client). length v.bytes ≤ x.size) is_c ((s.requests.each (place + 1) i).sizes.holder (holders.dirty_ready f.0 d.0 d.1) (holders.dirty_unanswered f.0 d.0 d.1)).covers

    within : (one : Held) → In one (dirty_blocks c.blocks) → one.block.0 * z.block + length (cut z one.bytes one.block.0 c.size) ≤ c.size
    within one m = let d = dirty_in one m in piece_within z one.bytes one.block.0 c.size (subst (λ (x : Client). one.block.0 * z.block < x.size) is_c ((s.requests.each (place + 1) i).write_backs.dirty_within one d.0 d.1))

    held : bytes_of_settled z v ≡ store_blocks z v.bytes c.size (pieces z c.size c.blocks)
    held = ap (bytes_held z v) h ∙ (ap (λ (x : Client). with_dirty z v.bytes x.size (dirty_blocks x.blocks)) is_c ∙ dirty_stored z v.bytes c.size (dirty_blocks c.blocks) covers within)

    by_answer : (o : Option FileBody) → or_bytes (bytes_of_settled z v) (stored_of z v.bytes o) ≡ store_blocks z v.bytes (answered_size c.size o) (answered_blocks (pieces z c.size c.blocks) o)
    by_answer (Some (form.Flushed n blocks)) = refl
    by_answer o = held

-- a view without one stands for the server's bytes
stood_free : (z : Setting) (v : View) → 0 < z.block → Sound z v → v.holder ≡ None → stands_for z v ≡ v.bytes
stood_free z v p s h = stood_present z v p s ∙ elim (flush_found z v.bytes v.calls) [
  | inl n ↦ ap (or_bytes (bytes_of_settled z v)) n.0 ∙ ap (bytes_held z v) h
  | inr g ↦ absurd (let k = flush_holds z v s g.call g.there g.size (g.piece ∷ g.rest) g.replied refl in let q = ap (is_kernel g.call.to) h in cc (k, q))
]

none_kept : (kept : List (Option Kept)) → is_unclaimed kept ≡ false → (place : ℕ) → slice_index_or kept place None ≡ None
none_kept [] e place = refl
none_kept (Some x ∷ xs) e place = absurd (cc (e))
none_kept (None ∷ xs) e zero = refl
none_kept (None ∷ xs) e (suc place) = none_kept xs e place

pub none_blocks : {X : Type 0} (xs : List X) → is_any xs ≡ false → xs ≡ []
none_blocks [] e = refl
none_blocks (x ∷ xs) e = absurd (cc (e))

-- what a stop leaves stands for the server's bytes
bare_stood : (s : Restarted) → Restarts sprite_setting s → stands_for sprite_setting (after_stop sprite_setting s).view ≡ s.view.bytes
bare_stood s r = cold_stood sprite_setting (length s.view.clients) (after_stop sprite_setting s).view some_bytes refl (cold_bare (length s.view.clients) s.view.bytes s.view.version s.view.next) (bare_sound sprite_setting (length s.view.clients) s.view.bytes s.view.version s.view.next r.sound.shapes.items.some r.sound.shapes.items.fifteen r.sound.requests.limit)

-- where a client keeps nothing by itself yet, it keeps dirty blocks only as the holder
free_place : (z : Setting) (v : View) (kept : List (Option Kept)) (count place : ℕ) → count ≡ length v.clients → Sound z v → Answered v → slice_index_or kept place None ≡ None → (is_holder v (place + 1) ≡ true → ⊥) → keeps_blocks (slice_index_or (keep_to z v kept count) place None) ≡ false
free_place z v kept count place n s a e h = by_test (nat_lt place count) refl
  where
    by_test : (b : Bool) → nat_lt place count ≡ b → keeps_blocks (slice_index_or (keep_to z v kept count) place None) ≡ false
    by_test true q =
        let l : place < count = ltb-true place count q in
        ap keeps_blocks (keep_at z v kept count place l ∙ ap (λ o. Some (or_kept o (kept_of z v place))) e) ∙ false_from_ne_true (is_any (kept_of z v place).blocks) (λ k. h (holding_of z v place (omega (arith, l, n)) s a k).holds)
    by_test false q = none_past z v kept count place (ltb-false place count q)

-- with one version the blocks are stored
pub due_current : (z : Setting) (v : View) (one : Kept) → one.version ≡ v.version → due_kept z v one ≡ store_blocks z v.bytes one.size one.blocks
due_current z v one e = ap (λ b. cond b (store_blocks z v.bytes one.size one.blocks) v.bytes) (eq-eqb one.version v.version e)

pub record StopDue (s : Restarted) : Type 0 where
  pub bytes : due sprite_setting (after_stop sprite_setting s) ≡ due sprite_setting s
  pub one : OneOld (after_stop sprite_setting s).kept

-- nobody kept anything by itself before
stop_claimed : (s : Restarted) → Restarts sprite_setting s → Answered s.view → is_unclaimed s.kept ≡ false → StopDue s
stop_claimed s r a u = by_holder s.view.holder refl
  where
    before : due sprite_setting s ≡ stands_for sprite_setting s.view
    before = due_none sprite_setting s.view s.kept (λ place. ap keeps_blocks (none_kept s.kept u place))

    none_now : NoneOld (after_stop sprite_setting s).kept → s.view.bytes ≡ stands_for sprite_setting s.view → StopDue s
    none_now f e = record { bytes = due_none sprite_setting (after_stop sprite_setting s).view (after_stop sprite_setting s).kept f ∙ (bare_stood s r ∙ (e ∙ sym before)); one = inl f }

    at_holder : (place : ℕ) → place < length s.view.clients → s.view.holder ≡ Some (place + 1) → StopDue s
    at_holder place l h = by_blocks (is_any (kept_of sprite_setting s.view place).blocks) refl
      where
        one : Kept
        one = kept_of sprite_setting s.view place

        here : slice_index_or (after_stop sprite_setting s).kept place None ≡ Some one
        here = keep_at sprite_setting s.view s.kept (length s.view.clients) place l ∙ ap (λ o. Some (or_kept o (kept_of sprite_setting s.view place))) (none_kept s.kept u place)

        others : (other : ℕ) → other ≢ place → keeps_blocks (slice_index_or (after_stop sprite_setting s).kept other None) ≡ false
        others other d = free_place sprite_setting s.view s.kept (length s.view.clients) other refl r.sound a (none_kept s.kept u other) (λ k. let q : Some (other + 1) ≡ Some (place + 1) = sym (holder_is s.view.holder (other + 1) k) ∙ h in let e : other + 1 ≡ place + 1 = cc (q) in d (omega (arith, e)))

        stored : stands_for sprite_setting s.view ≡ store_blocks sprite_setting s.view.bytes one.size one.blocks
        stored = stood_held sprite_setting s.view place some_bytes l r.sound h

        by_blocks : (b : Bool) → is_any (kept_of sprite_setting s.view place).blocks ≡ b → StopDue s
        by_blocks true e = record {
          bytes = due_at sprite_setting (after_stop sprite_setting s).view (after_stop sprite_setting s).kept place one here e others
              ∙ (due_current sprite_setting (after_stop sprite_setting s).view one (holding_of sprite_setting s.view place l r.sound a e).current ∙ (sym stored ∙ sym before));
          one = inr (record { place = place; one = one; is = here; some = e; others = others });
        }
        by_blocks false e = none_now (λ other. elim (eqb_tells other place) [
          | inl q ↦ ap (λ k. keeps_blocks (slice_index_or (after_stop sprite_setting s).kept k None)) q.1 ∙ (ap keeps_blocks here ∙ e)
          | inr d ↦ others other d.1
        ]) (sym (stored ∙ ap (store_blocks sprite_setting s.view.bytes one.size) (none_blocks one.blocks e)))

    by_holder : (h : Option ℕ) → s.view.holder ≡ h → StopDue s
    by_holder None e = none_now (λ place. free_place sprite_setting s.view s.kept (length s.view.clients) place refl r.sound a (none_kept s.kept u place) (λ k. let q = ap (is_kernel (place + 1)) e in cc (k, q))) (sym (stood_free sprite_setting s.view some_bytes r.sound e))
    by_holder (Some k) e =
        let i : IsClient (length s.view.clients) k = r.sound.holders.is_client k e in
        at_holder (k - 1) (omega (arith, i.0, i.1)) (e ∙ ap Some (omega (arith, i.0)))

-- a place without dirty blocks stays so
stays_free : (s : Restarted) → Restarts sprite_setting s → Answered s.view → is_unclaimed s.kept ≡ true → (place : ℕ) → keeps_blocks (slice_index_or s.kept place None) ≡ false → keeps_blocks (slice_index_or (after_stop sprite_setting s).kept place None) ≡ false
stays_free s r a u place f = by_kept (slice_index_or s.kept place None) refl f
  where
    by_kept : (o : Option Kept) → slice_index_or s.kept place None ≡ o → keeps_blocks o ≡ false → keeps_blocks (slice_index_or (after_stop sprite_setting s).kept place None) ≡ false
    by_kept None e k = free_place sprite_setting s.view s.kept (length s.view.clients) place refl r.sound a e (λ h. let q = ap (is_kernel (place + 1)) (r.cold u).unheld in cc (h, q))
    by_kept (Some x) e k =
        let l : place < length s.view.clients = (let m = (kept_in s.kept place x e).1 in let n = (r.cold u).count in omega (arith, m, n)) in
        ap keeps_blocks (keep_at sprite_setting s.view s.kept (length s.view.clients) place l ∙ ap (λ y. Some (or_kept y (kept_of sprite_setting s.view place))) e) ∙ k

-- some kernel kept something by itself before
stop_unclaimed : (s : Restarted) → Restarts sprite_setting s → Answered s.view → is_unclaimed s.kept ≡ true → OneOld s.kept → StopDue s
stop_unclaimed s r a u (inl f) = record {
  bytes = due_none sprite_setting (after_stop sprite_setting s).view (after_stop sprite_setting s).kept none ∙ (bare_stood s r ∙ sym (due_none sprite_setting s.view s.kept f ∙ stood_free sprite_setting s.view some_bytes r.sound (r.cold u).unheld));
  one = inl none;
}
  where
    none : NoneOld (after_stop sprite_setting s).kept
    none place = stays_free s r a u place (f place)
stop_unclaimed s r a u (inr o) = record {
  bytes = due_at sprite_setting (after_stop sprite_setting s).view (after_stop sprite_setting s).kept o.place o.one here o.some others ∙ sym (due_old sprite_setting s.view s.kept o);
  one = inr (record { place = o.place; one = o.one; is = here; some = o.some; others = others });
}
  where
    l : o.place < length s.view.clients
    l = let k = (kept_in s.kept o.place o.one o.is).1 in let n = (r.cold u).count in omega (arith, k, n)

    here : slice_index_or (after_stop sprite_setting s).kept o.place None ≡ Some o.one
    here = keep_at sprite_setting s.view s.kept (length s.view.clients) o.place l ∙ ap (λ x. Some (or_kept x (kept_of sprite_setting s.view o.place))) o.is

    others : (other : ℕ) → other ≢ o.place → keeps_blocks (slice_index_or (after_stop sprite_setting s).kept other None) ≡ false
    others other d = stays_free s r a u other (o.others other d)

pub stop_due : (s : Restarted) → Restarts sprite_setting s → Answered s.view → OneOld s.kept → StopDue s
stop_due s r a o = by_test (is_unclaimed s.kept) refl
  where
    by_test : (b : Bool) → is_unclaimed s.kept ≡ b → StopDue s
    by_test true u = stop_unclaimed s r a u o
    by_test false u = stop_claimed s r a u
