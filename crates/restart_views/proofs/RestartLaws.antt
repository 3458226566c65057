-- What each step of a file whose server may stop keeps.
use Rattle.std.proofs.Common.{◌≡◌, ◌≤◌, ◌<◌, ◌⊎◌, ℕ, zero, suc, ◌+◌, ◌-◌, ◌*◌, ◌==◌, Bool, true, false, cond, ◌&&◌, ◌||◌, is_some, List, [], ◌∷◌, length, Option, Some, None, refl, sym, ap, ◌∙◌, subst, inl, inr, arith, eqb-true, slice_set, slice_index_or, length-set, length-append}
use Rattle.std.specs.List.{list_any}
use Rattle.std.proofs.lemmas.Bool.{and_parts, or_parts}
use Rattle.sprite_ids.specs.declared.BlockNo.{BlockNo}
use Rattle.sprite_ids.specs.declared.CacheMode.TheVariants as cache
use Rattle.file_views.specs.declared.body.FileBody.{FileBody}
use Rattle.file_views.specs.declared.body.FileBody.TheVariants as form
use Rattle.file_views.specs.declared.call.FileCall.{FileCall}
use Rattle.file_views.specs.declared.client.Client.{Client}
use Rattle.file_views.specs.declared.client.Held.{Held}
use Rattle.file_views.specs.declared.opens.Open.{Open}
use Rattle.file_views.specs.declared.step.FileStep.{FileStep}
use Rattle.file_views.specs.declared.step.FileStep.TheVariants as act
use Rattle.file_views.specs.declared.view.View.{View}
use Rattle.file_views.specs.Setting.{Setting, sprite_setting}
use Rattle.file_views.specs.Contents.{cut, put_block, grown}
use Rattle.file_views.specs.Streams.{is_any}
use Rattle.file_views.specs.Clients.{new_client, dirty_blocks, pieces}
use Rattle.file_views.specs.Views.{client, things, busy}
use Rattle.file_views.specs.Serving.{store_blocks}
use Rattle.file_views.specs.Possible.{is_named, stepped}
use Rattle.file_views.specs.LayerLaw.{Step}
use Rattle.file_views.specs.Here.{In, IsClient, at_kernel, about}
use Rattle.file_views.specs.Sound.{Sound}
use Rattle.file_views.proofs.MemberLaws.{Made, in_last, in_filter, filter_in, in_map}
use Rattle.file_views.proofs.EffectLaws.{call_in_things}
use Rattle.file_views.proofs.ClientLaws.{choose_by}
use Rattle.file_views.proofs.HolderLaws.{about_to}
use Rattle.file_views.proofs.SizeLaws.{length_grown, length_overlay}
use Rattle.file_views.proofs.SizeMoveLaws.{piece_within}
use Rattle.file_views.proofs.SoundLaws.{sound_stays}
use Rattle.restart_views.specs.declared.kept.Kept.{Kept}
use Rattle.restart_views.specs.declared.restarted.Restarted.{Restarted}
use Rattle.restart_views.specs.ServerMoves.{greeted, reopened, is_quiet}
use Rattle.restart_views.specs.ColdSteps.{cold_step, Cold}
use Rattle.restart_views.specs.Restarts.{kept_at, is_unclaimed, flushes, answer_of, answered_size, answered_blocks, client_at, kept_of, or_kept, keep_to, after_stop, is_refused, greet, reopen, reopen_all, claimed, tried, stays_uncached, cached_again, after_claim, is_barred, after_file, least_due, after_due, settled_in, Fits, Restarts}
use Rattle.restart_views.proofs.BareLaws.{bare_sound}
use Rattle.restart_views.proofs.CalmLaws.{Calm, calm_changed, calm_cached}
use Rattle.restart_views.proofs.GreetLaws.{greeted_off, greeted_sound, greeted_count}
use Rattle.restart_views.proofs.ReopenLaws.{unnamed_of, reopened_off, reopened_sound, reopened_count}
use Rattle.restart_views.proofs.ColdLaws.{off_set}
use Rattle.restart_views.proofs.CoolLaws.{cold_bare, calm_cold, step_cold, step_sound}

-- a new file
pub new_restarts : (z : Setting) (v : View) → Sound z v → Restarts z (record { view = v; kept = [] })
new_restarts z v s = record { sound = s; uncached = λ e. absurd (cc (e)); cold = λ e. absurd (cc (e)); fits = λ one m. absurd m }

-- lists of what is kept
pub any_kept : (kept : List (Option Kept)) (one : Kept) → In (Some one) kept → is_unclaimed kept ≡ true
any_kept [] one m = absurd m
any_kept (x ∷ xs) one (inl e) = ap (λ o. is_some o || list_any is_some xs) (sym e)
any_kept (Some x ∷ xs) one (inr m) = refl
any_kept (None ∷ xs) one (inr m) = any_kept xs one m

pub kept_in : (kept : List (Option Kept)) (place : ℕ) (one : Kept) → slice_index_or kept place None ≡ Some one → In (Some one) kept × (place < length kept)
kept_in [] place one e = absurd (cc (e))
kept_in (x ∷ xs) zero one e = (inl (sym e), omega arith)
kept_in (x ∷ xs) (suc place) one e = let r = kept_in xs place one e in (inr r.0, (let l = r.1 in omega (arith, l)))

in_cleared : (kept : List (Option Kept)) (place : ℕ) (one : Kept) → In (Some one) (slice_set kept place None) → In (Some one) kept
in_cleared [] place one m = m
in_cleared (x ∷ xs) zero one (inl e) = absurd (cc (e))
in_cleared (x ∷ xs) zero one (inr m) = inr m
in_cleared (x ∷ xs) (suc place) one (inl e) = inl e
in_cleared (x ∷ xs) (suc place) one (inr m) = inr (in_cleared xs place one m)

-- the server stops: what each kernel keeps
pub record KeptBy (z : Setting) (v : View) (count : ℕ) (one : Kept) : Type 0 where
  pub place : ℕ
  pub within : place < count
  pub is : one ≡ kept_of z v place

last_kept : (z : Setting) (v : View) (place : ℕ) (o : Option Kept) (kept : List (Option Kept)) (one : Kept) → slice_index_or kept place None ≡ o → Some one ≡ Some (or_kept o (kept_of z v place)) → In (Some one) kept ⊎ KeptBy z v (suc place) one
last_kept z v place (Some x) kept one e q = let same : one ≡ x = cc (q) in inl (subst (λ (y : Kept). In (Some y) kept) (sym same) (kept_in kept place x e).0)
last_kept z v place None kept one e q = inr (record { place = place; within = omega arith; is = cc (q) })

pub keep_in : (z : Setting) (v : View) (kept : List (Option Kept)) (count : ℕ) (one : Kept) → In (Some one) (keep_to z v kept count) → In (Some one) kept ⊎ KeptBy z v count one
keep_in z v kept zero one m = absurd m
keep_in z v kept (suc place) one m = elim (in_last (Some one) (Some (or_kept (slice_index_or kept place None) (kept_of z v place))) (keep_to z v kept place) m) [
  | inl k ↦ elim (keep_in z v kept place one k) [ inl a ↦ inl a | inr a ↦ inr (record { place = a.place; within = (let l = a.within in omega (arith, l)); is = a.is }) ]
  | inr e ↦ last_kept z v place (slice_index_or kept place None) kept one refl e
]

pub keep_count : (z : Setting) (v : View) (kept : List (Option Kept)) (count : ℕ) → length (keep_to z v kept count) ≡ count
keep_count z v kept zero = refl
keep_count z v kept (suc place) = let h = keep_count z v kept place in let e = length-append (keep_to z v kept place) (Some (or_kept (slice_index_or kept place None) (kept_of z v place)) ∷ []) in omega (arith, h, e)

-- an answer with blocks is that of a call
pub record AnsweredBy (kernel size : ℕ) (blocks : List (BlockNo × List ℕ)) (calls : List FileCall) : Type 0 where
  pub call : FileCall
  pub there : In call calls
  pub to_kernel : call.to ≡ kernel
  pub replied : call.reply ≡ Some (form.Flushed size blocks)
  pub some : is_any blocks ≡ true

pub answer_by : (kernel : ℕ) (calls : List FileCall) (size : ℕ) (blocks : List (BlockNo × List ℕ)) → answer_of kernel calls ≡ Some (form.Flushed size blocks) → AnsweredBy kernel size blocks calls
answer_by kernel [] size blocks e = absurd (cc (e))
answer_by kernel (one ∷ rest) size blocks e = by_test ((one.to == kernel) && flushes one.reply) refl e (λ r. answer_by kernel rest size blocks r)
  where
    by_test : (b : Bool) → ((one.to == kernel) && flushes one.reply) ≡ b → cond b one.reply (answer_of kernel rest) ≡ Some (form.Flushed size blocks) → (answer_of kernel rest ≡ Some (form.Flushed size blocks) → AnsweredBy kernel size blocks rest) → AnsweredBy kernel size blocks (one ∷ rest)
    by_test true q r go = let p = and_parts (one.to == kernel) (flushes one.reply) q in record { call = one; there = inl refl; to_kernel = eqb-true one.to kernel p.0; replied = r; some = sym (ap flushes r) ∙ p.1 }
    by_test false q r go = let k = go r in record { call = k.call; there = inr k.there; to_kernel = k.to_kernel; replied = k.replied; some = k.some }

kept_fits : (z : Setting) (v : View) (place : ℕ) → place < length v.clients → Sound z v → Fits z (kept_of z v place)
kept_fits z v place l s = by_answer (answer_of (place + 1) v.calls) refl
  where
    c : Client
    c = client_at v place

    i : IsClient (length v.clients) (place + 1)
    i = (omega arith, omega (arith, l))

    is_c : client v (place + 1) ≡ c
    is_c = ap (λ n. slice_index_or v.clients n new_client) (omega arith)

    own : List (BlockNo × List ℕ)
    own = pieces z c.size c.blocks

    with_answer : Option FileBody → Kept
    with_answer o = record (kept_of z v place) { blocks = answered_blocks own o; size = answered_size c.size o }

    size : c.size ≤ z.most
    size = subst (λ (x : Client). x.size ≤ z.most) is_c (s.requests.each (place + 1) i).limits.size

    dirty : (one : Held) → In one c.blocks → is_some one.dirty ≡ true → one.block.0 * z.block < c.size
    dirty = subst (λ (x : Client). (one : Held) → In one x.blocks → is_some one.dirty ≡ true → one.block.0 * z.block < x.size) is_c (s.requests.each (place + 1) i).write_backs.dirty_within

    within : (piece : BlockNo × List ℕ) → In piece own → piece.0.0 * z.block + length piece.1 ≤ z.most
    within piece p =
        let r : Made (λ (x : Held). (x.block, cut z x.bytes x.block.0 c.size)) piece (dirty_blocks c.blocks) = in_map (λ (x : Held). (x.block, cut z x.bytes x.block.0 c.size)) piece (dirty_blocks c.blocks) p in
        let q = in_filter (λ (x : Held). is_some x.dirty) r.x c.blocks r.there in
        let a = piece_within z r.x.bytes r.x.block.0 c.size (dirty r.x q.0 q.1) in
        subst (λ (x : BlockNo × List ℕ). x.0.0 * z.block + length x.1 ≤ z.most) (sym r.makes) (omega (arith, a, size))

    mine : (o : Option FileBody) → answered_size c.size o ≡ c.size → answered_blocks own o ≡ own → Fits z (with_answer o)
    mine o a b = record { size = subst (λ n. n ≤ z.most) (sym a) size; blocks = λ piece p. within piece (subst (In piece) b p) }

    by_answer : (o : Option FileBody) → answer_of (place + 1) v.calls ≡ o → Fits z (with_answer o)
    by_answer (Some (form.Flushed n blocks)) e =
        let k : AnsweredBy (place + 1) n blocks v.calls = answer_by (place + 1) v.calls n blocks e in
        let m : In k.call (at_kernel v (place + 1)).calls = filter_in (about (place + 1)) k.call (things v) (call_in_things v k.call k.there) (about_to (place + 1) k.call k.to_kernel) in
        record { size = (s.requests.each (place + 1) i).limits.flushed k.call m k.to_kernel n blocks k.replied; blocks = (s.requests.each (place + 1) i).limits.flushed_blocks k.call m k.to_kernel n blocks k.replied }
    by_answer o e = mine o refl refl

pub stop_keeps : (s : Restarted) → Restarts sprite_setting s → Restarts sprite_setting (after_stop sprite_setting s)
stop_keeps s r = record {
  sound = bare_sound sprite_setting (length s.view.clients) s.view.bytes s.view.version s.view.next r.sound.shapes.items.some r.sound.shapes.items.fifteen r.sound.requests.limit;
  uncached = λ e. refl;
  cold = λ e. subst (λ n. Cold n (after_stop sprite_setting s).view) (sym (keep_count sprite_setting s.view s.kept (length s.view.clients))) (cold_bare (length s.view.clients) s.view.bytes s.view.version s.view.next);
  fits = λ one m. elim (keep_in sprite_setting s.view s.kept (length s.view.clients) one m) [
    | inl k ↦ r.fits one k
    | inr k ↦ subst (Fits sprite_setting) (sym k.is) (kept_fits sprite_setting s.view k.place k.within r.sound)
  ];
}

-- a claim: the bytes that are stored
put_fits : (z : Setting) (bytes : List ℕ) (number size : ℕ) (piece : List ℕ) → length bytes ≤ z.most → size ≤ z.most → number * z.block + length piece ≤ z.most → length (put_block z bytes number size piece) ≤ z.most
put_fits z bytes number size piece a b c = let d = length_overlay (grown bytes size) (number * z.block) piece in let e = length_grown bytes size in omega (arith, a, b, c, d, e)

stored_fits : (z : Setting) (size : ℕ) (blocks : List (BlockNo × List ℕ)) (bytes : List ℕ) → length bytes ≤ z.most → size ≤ z.most → ((piece : BlockNo × List ℕ) → In piece blocks → piece.0.0 * z.block + length piece.1 ≤ z.most) → length (store_blocks z bytes size blocks) ≤ z.most
stored_fits z size [] bytes a b c = a
stored_fits z size (piece ∷ rest) bytes a b c = stored_fits z size rest (put_block z bytes piece.0.0 size piece.1) (put_fits z bytes piece.0.0 size piece.1 a b (c piece (inl refl))) b (λ x m. c x (inr m))

-- a view that is sound and cold, and uncached
pub record Warm (clients : ℕ) (v : View) : Type 0 where
  pub sound : Sound sprite_setting v
  pub cold : Cold clients v
  pub uncached : v.uncached ≡ true

warm_calm : (clients : ℕ) (v : View) → Warm clients v → Calm v
warm_calm clients v w = calm_cold clients v w.uncached w.cold

warm_stored : (clients : ℕ) (v : View) (bytes : List ℕ) → length bytes ≤ sprite_setting.most → Warm clients v → Warm clients (record v { bytes = bytes })
warm_stored clients v bytes l w = record { sound = calm_changed sprite_setting v bytes v.version (warm_calm clients v w) (omega arith) l w.sound; cold = record { count = w.cold.count; unheld = w.cold.unheld; given = w.cold.given; off = w.cold.off; later = w.cold.later }; uncached = w.uncached }

pub warm_greet : (clients : ℕ) (v : View) (kernel : ℕ) → IsClient clients kernel → Warm clients v → Warm clients (greet v kernel)
warm_greet clients v kernel j w = choose_by (Warm clients) (is_quiet v kernel) (greeted v kernel) v (λ q. record {
  sound = greeted_sound sprite_setting v kernel (warm_calm clients v w) i q w.sound;
  cold = record { count = greeted_count v kernel ∙ w.cold.count; unheld = w.cold.unheld; given = off_set v.modes (kernel - 1) cache.Off refl w.cold.given; off = greeted_off sprite_setting v kernel (warm_calm clients v w) i w.sound; later = w.cold.later };
  uncached = w.uncached;
}) (λ q. w)
  where
    i : IsClient (length v.clients) kernel
    i = subst (λ n. IsClient n kernel) (sym w.cold.count) j

pub warm_reopen : (clients : ℕ) (v : View) (kernel : ℕ) (one : Open) → IsClient clients kernel → Warm clients v → Warm clients (reopen v kernel one)
warm_reopen clients v kernel one j w = choose_by (Warm clients) (is_named v one.stream) v (reopened v again) (λ q. w) (λ q. record {
  sound = reopened_sound sprite_setting v again (warm_calm clients v w) i refl (unnamed_of v one.stream q) w.sound;
  cold = record { count = reopened_count v again ∙ w.cold.count; unheld = w.cold.unheld; given = w.cold.given; off = reopened_off v again (warm_calm clients v w) i; later = w.cold.later };
  uncached = w.uncached;
})
  where
    again : Open
    again = record { stream = one.stream; kernel = kernel; mode = one.mode; count = 1 }

    i : IsClient (length v.clients) kernel
    i = subst (λ n. IsClient n kernel) (sym w.cold.count) j

pub warm_reopen_all : (clients : ℕ) (v : View) (kernel : ℕ) (streams : List Open) → IsClient clients kernel → Warm clients v → Warm clients (reopen_all v kernel streams)
warm_reopen_all clients v kernel [] j w = w
warm_reopen_all clients v kernel (one ∷ rest) j w = warm_reopen_all clients (reopen v kernel one) kernel rest j (warm_reopen clients v kernel one j w)

pub warm_tried : (clients : ℕ) (v : View) (kernel : ℕ) (one : Kept) → IsClient clients kernel → Fits sprite_setting one → Warm clients v → Warm clients (tried sprite_setting v kernel one)
warm_tried clients v kernel one j f w = choose_by (Warm clients) (is_refused v one) v (claimed sprite_setting v kernel one) (λ e. w) (λ e.
    let bytes : List ℕ = store_blocks sprite_setting v.bytes one.size one.blocks in
    warm_reopen_all clients (greet (record v { bytes = bytes }) kernel) kernel one.streams j
    (warm_greet clients (record v { bytes = bytes }) kernel j (warm_stored clients v bytes (stored_fits sprite_setting one.size one.blocks v.bytes w.sound.requests.limit f.size f.blocks) w)))

no_opens : (opens : List Open) (b : Bool) → (is_any opens || b) ≡ false → (opens ≡ []) × (b ≡ false)
no_opens [] b e = (refl, e)
no_opens (one ∷ rest) b e = absurd (cc (e))

again_keeps : (clients : ℕ) (v : View) (kept : List (Option Kept)) → length kept ≡ clients → Warm clients v → ((one : Kept) → In (Some one) kept → Fits sprite_setting one) → Restarts sprite_setting (cached_again v kept)
again_keeps clients v kept l w f = record {
  sound = choose_by (Sound sprite_setting) (stays_uncached v kept) v (record v { uncached = false }) (λ e. w.sound) (λ e. let p = no_opens v.opens (busy v) (or_parts (is_unclaimed kept) _ e).1 in calm_cached sprite_setting v p.1 p.0 w.sound);
  uncached = λ e. subst (λ b. (cond (b || (is_any v.opens || busy v)) v (record v { uncached = false })).uncached ≡ true) (sym e) w.uncached;
  cold = λ e. subst (λ b. Cold (length kept) (cond (b || (is_any v.opens || busy v)) v (record v { uncached = false }))) (sym e) (subst (λ n. Cold n v) (sym l) w.cold);
  fits = f;
}

pub claim_keeps : (s : Restarted) (kernel : ℕ) (o : Option Kept) → 1 ≤ kernel → kept_at s.kept kernel ≡ o → Restarts sprite_setting s → Restarts sprite_setting (after_claim sprite_setting s kernel o)
claim_keeps s kernel None l e r = r
claim_keeps s kernel (Some one) l e r =
    let k = kept_in s.kept (kernel - 1) one e in
    let u : is_unclaimed s.kept ≡ true = any_kept s.kept one k.0 in
    let i : IsClient (length s.kept) kernel = (l, (let h = k.1 in omega (arith, h, l))) in
    again_keeps (length s.kept) (tried sprite_setting s.view kernel one) (slice_set s.kept (kernel - 1) None) (length-set s.kept (kernel - 1) None)
    (warm_tried (length s.kept) s.view kernel one i (r.fits one k.0) (record { sound = r.sound; cold = r.cold u; uncached = r.uncached u }))
    (λ x m. r.fits x (in_cleared s.kept (kernel - 1) x m))

-- a step of the file
some_bytes : 0 < sprite_setting.block
some_bytes = omega arith

stepped_keeps : (s : Restarted) (step : FileStep) (b : Bool) → is_unclaimed s.kept ≡ b → Restarts sprite_setting s → Restarts sprite_setting (record { view = cond b (cold_step sprite_setting s.view step) (stepped sprite_setting s.view step); kept = s.kept })
stepped_keeps s step true e r = record { sound = step_sound (length s.kept) s.view step (r.uncached e) (r.cold e) r.sound; uncached = λ u. refl; cold = λ u. step_cold (length s.kept) s.view step (r.uncached e) (r.cold e) r.sound; fits = r.fits }
stepped_keeps s step false e r = record { sound = sound_stays sprite_setting s.view (Step step) some_bytes r.sound; uncached = λ u. absurd (cc (e, u)); cold = λ u. absurd (cc (e, u)); fits = r.fits }

pub file_keeps : (s : Restarted) (step : FileStep) → Restarts sprite_setting s → Restarts sprite_setting (after_file sprite_setting s step)
file_keeps s step r = choose_by (Restarts sprite_setting) (is_barred s.kept step) s (record { view = cond (is_unclaimed s.kept) (cold_step sprite_setting s.view step) (stepped sprite_setting s.view step); kept = s.kept }) (λ e. r) (λ e. stepped_keeps s step (is_unclaimed s.kept) refl r)

pub due_keeps : (s : Restarted) (o : Option ℕ) → Restarts sprite_setting s → Restarts sprite_setting (after_due sprite_setting s o)
due_keeps s (Some call) r = file_keeps s (act.Delivering call) r
due_keeps s None r = r

pub settled_keeps : (count : ℕ) (s : Restarted) → Restarts sprite_setting s → Restarts sprite_setting (settled_in sprite_setting count s)
unfolding settled_in
settled_keeps zero s r = r
settled_keeps (suc count) s r = due_keeps (settled_in sprite_setting count s) (least_due (settled_in sprite_setting count s).view) (settled_keeps count s r)
