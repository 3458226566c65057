-- A claim leaves the bytes that the file stands for.
use Rattle.std.proofs.Common.{◌≡◌, ◌≢◌, ◌≤◌, ◌<◌, ℕ, ◌-◌, ◌==◌, Bool, true, false, cond, not, ◌&&◌, List, [], ◌∷◌, length, Option, Some, None, refl, sym, ap, ap₂, ◌∙◌, inl, inr, arith, slice_set, slice_index_or, get_or-set_same, get_or-set_other}
use Rattle.std.proofs.lemmas.Bool.Decides.{eqb_tells}
use Rattle.std.proofs.lemmas.Bool.{or_parts}
use Rattle.file_views.specs.declared.opens.Open.{Open}
use Rattle.file_views.specs.declared.view.View.{View}
use Rattle.file_views.specs.Setting.{Setting, sprite_setting}
use Rattle.file_views.specs.Streams.{is_any}
use Rattle.file_views.specs.Views.{busy}
use Rattle.file_views.specs.Serving.{store_blocks}
use Rattle.file_views.specs.Settled.{stands_for}
use Rattle.file_views.specs.Possible.{is_named}
use Rattle.file_views.proofs.ClientLaws.{choose_by}
use Rattle.restart_views.specs.declared.kept.Kept.{Kept}
use Rattle.restart_views.specs.declared.restarted.Restarted.{Restarted}
use Rattle.restart_views.specs.ServerMoves.{greeted, reopened, is_quiet, Cache}
use Rattle.restart_views.specs.Restarts.{kept_at, is_unclaimed, keeps_blocks, is_refused, greet, reopen, reopen_all, claimed, tried, stays_uncached, cached_again, after_claim, Restarts}
use Rattle.restart_views.specs.RunBytes.{due_kept, due, NoneOld, OldAt, OneOld}
use Rattle.restart_views.proofs.ServerMoveLaws.{served_bytes}
use Rattle.restart_views.proofs.CoolLaws.{cold_stood}
use Rattle.restart_views.proofs.RestartLaws.{Warm, any_kept, kept_in, warm_tried}
use Rattle.restart_views.proofs.DueLaws.{due_none, due_at, due_old, none_blocks}

some_bytes : 0 < sprite_setting.block
some_bytes = omega arith

-- the server's bytes and version stay
abbrev pub Stays : View → View → Type 0
Stays v w = (w.bytes ≡ v.bytes) × (w.version ≡ v.version)

reopen_stays : (v : View) (kernel : ℕ) (one : Open) → Stays v (reopen v kernel one)
reopen_stays v kernel one = choose_by (Stays v) (is_named v one.stream) v (reopened v (record { stream = one.stream; kernel = kernel; mode = one.mode; count = 1 })) (λ e. (refl, refl)) (λ e. (refl, refl))

reopen_all_stays : (v : View) (kernel : ℕ) (streams : List Open) → Stays v (reopen_all v kernel streams)
reopen_all_stays v kernel [] = (refl, refl)
reopen_all_stays v kernel (one ∷ rest) = let a = reopen_stays v kernel one in let b = reopen_all_stays (reopen v kernel one) kernel rest in (b.0 ∙ a.0, b.1 ∙ a.1)

greet_stays : (v : View) (kernel : ℕ) → Stays v (greet v kernel)
greet_stays v kernel = choose_by (Stays v) (is_quiet v kernel) (greeted v kernel) v (λ e. (refl, refl)) (λ e. (refl, refl))

claimed_stays : (z : Setting) (v : View) (kernel : ℕ) (one : Kept) → Stays (record v { bytes = store_blocks z v.bytes one.size one.blocks }) (claimed z v kernel one)
claimed_stays z v kernel one =
    let w : View = record v { bytes = store_blocks z v.bytes one.size one.blocks } in
    let a : Stays w (greet w kernel) = greet_stays w kernel in
    let b : Stays (greet w kernel) (claimed z v kernel one) = reopen_all_stays (greet w kernel) kernel one.streams in (b.0 ∙ a.0, b.1 ∙ a.1)

again_stays : (v : View) (kept : List (Option Kept)) → Stays v (cached_again v kept).view
again_stays v kept = choose_by (Stays v) (stays_uncached v kept) v (record v { uncached = false }) (λ e. (refl, refl)) (λ e. (refl, refl))

again_stood : (clients : ℕ) (v : View) (kept : List (Option Kept)) → Warm clients v → stands_for sprite_setting (cached_again v kept).view ≡ v.bytes
again_stood clients v kept w = choose_by (λ u. stands_for sprite_setting u ≡ v.bytes) (stays_uncached v kept) v (record v { uncached = false }) (λ e. stood) (λ e.
    let p = or_parts (is_any v.opens) (busy v) (or_parts (is_unclaimed kept) _ e).1 in
    served_bytes sprite_setting v Cache some_bytes (ap₂ (λ a b. not a && not b) p.0 p.1) w.sound ∙ stood)
  where
    stood : stands_for sprite_setting v ≡ v.bytes
    stood = cold_stood sprite_setting clients v some_bytes w.uncached w.cold w.sound

-- the kernel's place is cleared
cleared_here : (kept : List (Option Kept)) (place : ℕ) → place < length kept → keeps_blocks (slice_index_or (slice_set kept place None) place None) ≡ false
cleared_here kept place l = ap keeps_blocks (get_or-set_same kept place None None l)

pub cleared_by : (kept : List (Option Kept)) (place other : ℕ) → place < length kept → (other ≢ place → keeps_blocks (slice_index_or kept other None) ≡ false) → keeps_blocks (slice_index_or (slice_set kept place None) other None) ≡ false
cleared_by kept place other l f = elim (eqb_tells other place) [
  | inl a ↦ ap (λ n. keeps_blocks (slice_index_or (slice_set kept place None) n None)) a.1 ∙ cleared_here kept place l
  | inr b ↦ ap keeps_blocks (get_or-set_other kept place other None None b.1) ∙ f b.1
]

pub cleared_old : (kept : List (Option Kept)) (place : ℕ) (o : OldAt kept) → place < length kept → o.place ≢ place → OldAt (slice_set kept place None)
cleared_old kept place o l d = record {
  place = o.place;
  one = o.one;
  is = get_or-set_other kept place o.place None None d ∙ o.is;
  some = o.some;
  others = λ other e. cleared_by kept place other l (λ q. o.others other e);
}

pub cleared_one : (kept : List (Option Kept)) (place : ℕ) → place < length kept → OneOld kept → OneOld (slice_set kept place None)
cleared_one kept place l (inl f) = inl (λ other. cleared_by kept place other l (λ q. f other))
cleared_one kept place l (inr o) = elim (eqb_tells o.place place) [
  | inl a ↦ inl (λ other. cleared_by kept place other l (λ q. o.others other (λ k. q (k ∙ a.1))))
  | inr b ↦ inr (cleared_old kept place o l b.1)
]

pub claim_one : (s : Restarted) (kernel : ℕ) (o : Option Kept) → kept_at s.kept kernel ≡ o → OneOld s.kept → OneOld (after_claim sprite_setting s kernel o).kept
claim_one s kernel None e old = old
claim_one s kernel (Some one) e old = cleared_one s.kept (kernel - 1) (kept_in s.kept (kernel - 1) one e).1 old

-- of a kernel that keeps something
claim_of : (s : Restarted) (kernel : ℕ) (one : Kept) → 1 ≤ kernel → kept_at s.kept kernel ≡ Some one → Restarts sprite_setting s → OneOld s.kept → due sprite_setting (after_claim sprite_setting s kernel (Some one)) ≡ due sprite_setting s
unfolding cleared_old
claim_of s kernel one low e r old = by_blocks (is_any one.blocks) refl old
  where
    within : kernel - 1 < length s.kept
    within = (kept_in s.kept (kernel - 1) one e).1

    u : is_unclaimed s.kept ≡ true
    u = any_kept s.kept one (kept_in s.kept (kernel - 1) one e).0

    warm : Warm (length s.kept) s.view
    warm = record { sound = r.sound; cold = r.cold u; uncached = r.uncached u }

    stood : stands_for sprite_setting s.view ≡ s.view.bytes
    stood = cold_stood sprite_setting (length s.kept) s.view some_bytes (r.uncached u) (r.cold u) r.sound

    now : stands_for sprite_setting (after_claim sprite_setting s kernel (Some one)).view ≡ (tried sprite_setting s.view kernel one).bytes
    now = again_stood (length s.kept) (tried sprite_setting s.view kernel one) (slice_set s.kept (kernel - 1) None) (warm_tried (length s.kept) s.view kernel one (low, (let k = within in omega (arith, k, low))) (r.fits one (kept_in s.kept (kernel - 1) one e).0) warm)

    refused : (b : Bool) → is_refused s.view one ≡ b → tried sprite_setting s.view kernel one ≡ cond b s.view (claimed sprite_setting s.view kernel one)
    refused b q = ap (λ x. cond x s.view (claimed sprite_setting s.view kernel one)) q

    gone : NoneOld (slice_set s.kept (kernel - 1) None) → due sprite_setting (after_claim sprite_setting s kernel (Some one)) ≡ (tried sprite_setting s.view kernel one).bytes
    gone f = due_none sprite_setting (after_claim sprite_setting s kernel (Some one)).view (slice_set s.kept (kernel - 1) None) f ∙ now

    by_version : (b : Bool) → (one.version == s.view.version) ≡ b → is_any one.blocks ≡ true → (tried sprite_setting s.view kernel one).bytes ≡ due_kept sprite_setting s.view one
    by_version true q n = ap (λ (w : View). w.bytes) (refused false (ap₂ (λ a b. a && not b) n q)) ∙ ((claimed_stays sprite_setting s.view kernel one).0 ∙ sym (ap (λ b. cond b (store_blocks sprite_setting s.view.bytes one.size one.blocks) s.view.bytes) q))
    by_version false q n = ap (λ (w : View). w.bytes) (refused true (ap₂ (λ a b. a && not b) n q)) ∙ sym (ap (λ b. cond b (store_blocks sprite_setting s.view.bytes one.size one.blocks) s.view.bytes) q)

    plain : is_any one.blocks ≡ false → ((tried sprite_setting s.view kernel one).bytes ≡ s.view.bytes) × ((tried sprite_setting s.view kernel one).version ≡ s.view.version)
    plain n =
        let q = refused false (ap (λ a. a && not (one.version == s.view.version)) n) in
        let c = claimed_stays sprite_setting s.view kernel one in
        (ap (λ (w : View). w.bytes) q ∙ (c.0 ∙ ap (store_blocks sprite_setting s.view.bytes one.size) (none_blocks one.blocks n)), ap (λ (w : View). w.version) q ∙ c.1)

    same_kept : (o : OldAt s.kept) → is_any one.blocks ≡ false → o.place ≢ kernel - 1
    same_kept o n q = let k : Some o.one ≡ Some one = sym o.is ∙ (ap (λ p. slice_index_or s.kept p None) q ∙ e) in let m = ap keeps_blocks k in let t = o.some in cc (m, n, t)

    by_blocks : (b : Bool) → is_any one.blocks ≡ b → OneOld s.kept → due sprite_setting (after_claim sprite_setting s kernel (Some one)) ≡ due sprite_setting s
    by_blocks true n (inl f) = absurd (let k = f (kernel - 1) in let m = ap keeps_blocks e in cc (k, m, n))
    by_blocks true n (inr o) = elim (eqb_tells (kernel - 1) o.place) [
      | inl a ↦ gone (λ other. cleared_by s.kept (kernel - 1) other within (λ d. o.others other (λ k. d (k ∙ sym a.1))))
          ∙ (by_version (one.version == s.view.version) refl n ∙ sym (due_at sprite_setting s.view s.kept (kernel - 1) one e n (λ other d. o.others other (λ k. d (k ∙ sym a.1)))))
      | inr b ↦ absurd (let k = o.others (kernel - 1) b.1 in let m = ap keeps_blocks e in cc (k, m, n))
    ]
    by_blocks false n (inl f) = gone (λ other. cleared_by s.kept (kernel - 1) other within (λ d. f other)) ∙ ((plain n).0 ∙ (sym stood ∙ sym (due_none sprite_setting s.view s.kept f)))
    by_blocks false n (inr o) =
        let p : OldAt (slice_set s.kept (kernel - 1) None) = cleared_old s.kept (kernel - 1) o within (same_kept o n) in
        let a = again_stays (tried sprite_setting s.view kernel one) (slice_set s.kept (kernel - 1) None) in
        let t = plain n in
        due_at sprite_setting (after_claim sprite_setting s kernel (Some one)).view (slice_set s.kept (kernel - 1) None) o.place o.one p.is o.some p.others
        ∙ (ap₂ (λ m bs. cond (o.one.version == m) (store_blocks sprite_setting bs o.one.size o.one.blocks) bs) (a.1 ∙ t.1) (a.0 ∙ t.0) ∙ sym (due_old sprite_setting s.view s.kept o))

pub claim_due : (s : Restarted) (kernel : ℕ) (o : Option Kept) → 1 ≤ kernel → kept_at s.kept kernel ≡ o → Restarts sprite_setting s → OneOld s.kept → due sprite_setting (after_claim sprite_setting s kernel o) ≡ due sprite_setting s
claim_due s kernel None low e r old = refl
claim_due s kernel (Some one) low e r old = claim_of s kernel one low e r old
