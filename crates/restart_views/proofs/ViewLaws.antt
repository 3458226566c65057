-- What of a view's layers stays where the server's own part changes.
use Rattle.std.proofs.Common.{◌≡◌, ◌∙◌, ap, Bool, false, ℕ, List, length, slice_index_or, ◌<◌, zero, suc, [], ◌∷◌, inl, inr, refl, subst, arith}
use Rattle.std.specs.List.{list_any}
use Rattle.std.proofs.lemmas.Bool.{or_parts}
use Rattle.file_views.specs.declared.view.View.{View}
use Rattle.file_views.specs.Setting.{Setting}
use Rattle.file_views.specs.Views.{things}
use Rattle.file_views.specs.Here.{In}
use Rattle.file_views.proofs.DecisionLaws.{FlatDecisions, holds_server, decisions_stay_by, stays_calls}
use Rattle.file_views.proofs.ModeLaws.{dues_self}
use Rattle.file_views.proofs.ModeChangeLaws.{Moding, moded_self, under_moded, modes_same}

pub decisions_server : (z : Setting) (v w : View) → w.clients ≡ v.clients → w.uncached ≡ v.uncached → w.opens ≡ v.opens → w.shared ≡ v.shared → w.modes ≡ v.modes → w.calls ≡ v.calls → FlatDecisions z v → FlatDecisions z w
decisions_server z v w a b c e g h d = decisions_stay_by z v w (stays_calls v w (holds_server v w a b c e g) h) d

pub moding_server : (v w : View) → w.clients ≡ v.clients → w.stamps ≡ v.stamps → w.modes ≡ v.modes → w.given ≡ v.given → w.uncached ≡ v.uncached → things w ≡ things v → Moding v → Moding w
moding_server v w a b c d e g p = record {
  under = under_moded v w (moded_self v w a b c d e) p.under (λ one m grant q. record { call = one; there = subst (In one) g m; arrives = (refl, q) });
  modes = modes_same v w a b c d e p.under p.modes (λ kernel i. dues_self v kernel (things w) g (p.modes kernel i));
}

-- an item that is looked up within its list stands in it
pub get_in : {X : Type 0} (xs : List X) (i : ℕ) (d : X) → i < length xs → In (slice_index_or xs i d) xs
get_in [] i d l = absurd (omega (arith, l))
get_in (x ∷ xs) zero d l = inl refl
get_in (x ∷ xs) (suc i) d l = inr (get_in xs i d (omega (arith, l)))

pub any_none : {X : Type 0} (p : X → Bool) (xs : List X) → list_any p xs ≡ false → (x : X) → In x xs → p x ≡ false
any_none p [] h x m = absurd m
any_none p (y ∷ ys) h x (inl e) = ap p e ∙ (or_parts (p y) (list_any p ys) h).0
any_none p (y ∷ ys) h x (inr m) = any_none p ys (or_parts (p y) (list_any p ys) h).1 x m
