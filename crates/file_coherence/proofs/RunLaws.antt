-- Steps in a row: from their end, and what enters in all of them.
use Rattle.std.proofs.Common.{◌≡◌, ◌<◌, ℕ, ◌+◌, Bool, true, false, cond, ◌&&◌, Option, Some, None, Result, Ok, Err, OnOk, IfOk, List, [], ◌∷◌, ◌++◌, length, take, get_or, refl, sym, ap, subst, ◌∙◌}
use Rattle.std.proofs.lemmas.Bool.{and_parts, and_from}
use Rattle.std.proofs.lemmas.List.{append-nil, append_assoc, take_more}
use Rattle.file_views.specs.declared.Entered.{Entered}
use Rattle.file_views.specs.declared.FileStep.{FileStep}
use Rattle.file_views.specs.declared.View.{View}
use Rattle.file_views.specs.Setting.{Setting}
use Rattle.file_views.specs.Steps.{after}
use Rattle.file_views.specs.Possible.{possible, stepped, played}
use Rattle.file_views.specs.Settled.{stands_for}
use Rattle.file_views.specs.Entries.{entered, bytes_entered, bytes_after_all, is_right, are_right}
use Rattle.file_views.specs.Waits.{defers}
use Rattle.file_views.specs.Coherent.{coherent}
use Rattle.file_views.specs.Plays.{bytes_played, stays_coherent}
use Rattle.file_views.specs.Sound.{Sound}
use Rattle.file_views.proofs.SoundLaws.{sound_played, bytes_of_played, whole_played}
use Rattle.file_coherence.specs.Runs.{all_entered, next_view, DoneInPart}

pub played_more : (z : Setting) (v : View) (steps : List FileStep) (step : FileStep) → played z v (steps ++ step ∷ []) ≡ stepped z (played z v steps) step
played_more z v [] step = refl
played_more z v (first ∷ rest) step = played_more z (stepped z v first) rest step

pub entered_more : (z : Setting) (v : View) (steps : List FileStep) (step : FileStep) → all_entered z v (steps ++ step ∷ []) ≡ all_entered z v steps ++ entered z (played z v steps) step
entered_more z v [] step = append-nil (entered z v step)
entered_more z v (first ∷ rest) step = ap (λ (es : List Entered). entered z v first ++ es) (entered_more z (stepped z v first) rest step) ∙ sym (append_assoc (entered z v first) (all_entered z (stepped z v first) rest) (entered z (played z (stepped z v first) rest) step))

bytes_join : (z : Setting) (bytes : List ℕ) (first rest : List Entered) → bytes_after_all z bytes (first ++ rest) ≡ bytes_after_all z (bytes_after_all z bytes first) rest
bytes_join z bytes [] rest = refl
bytes_join z bytes (one ∷ first) rest = bytes_join z (bytes_entered z bytes one.step) first rest

pub bytes_all : (z : Setting) (v : View) (bytes : List ℕ) (steps : List FileStep) → bytes_played z v bytes steps ≡ bytes_after_all z bytes (all_entered z v steps)
bytes_all z v bytes [] = refl
bytes_all z v bytes (step ∷ rest) = bytes_all z (stepped z v step) (bytes_after_all z bytes (entered z v step)) rest ∙ sym (bytes_join z bytes (entered z v step) (all_entered z (stepped z v step) rest))

right_join : (z : Setting) (bytes : List ℕ) (first rest : List Entered) → are_right z bytes first ≡ true → are_right z (bytes_after_all z bytes first) rest ≡ true → are_right z bytes (first ++ rest) ≡ true
right_join z bytes [] rest e f = f
right_join z bytes (one ∷ first) rest e f = and_from (is_right z bytes one.step one.reply) _ (and_parts (is_right z bytes one.step one.reply) _ e).0 (right_join z (bytes_entered z bytes one.step) first rest (and_parts (is_right z bytes one.step one.reply) _ e).1 f)

pub right_all : (z : Setting) (v : View) (bytes : List ℕ) (steps : List FileStep) → stays_coherent z v bytes steps ≡ true → are_right z bytes (all_entered z v steps) ≡ true
right_all z v bytes [] e = refl
right_all z v bytes (step ∷ rest) e =
    let behind : (are_right z bytes (entered z v step) && (defers z v step && stays_coherent z (stepped z v step) (bytes_after_all z bytes (entered z v step)) rest)) ≡ true = (and_parts (coherent z v bytes) _ e).1 in
    right_join z bytes (entered z v step) (all_entered z (stepped z v step) rest)
    (and_parts (are_right z bytes (entered z v step)) _ behind).0
    (right_all z (stepped z v step) (bytes_after_all z bytes (entered z v step)) rest (and_parts (defers z v step) _ (and_parts (are_right z bytes (entered z v step)) _ behind).1).1)

one_more : (steps : List FileStep) (i : ℕ) (step : FileStep) → i < length steps → step ≡ get_or steps i step → take i steps ++ step ∷ [] ≡ take (i + 1) steps
one_more steps i step lt is = ap (λ (s : FileStep). take i steps ++ s ∷ []) is ∙ sym (take_more steps i step lt)

pub played_next : (z limits : Setting) (v w next : View) (steps : List FileStep) (i : ℕ) (step : FileStep) → limits ≡ z → w ≡ played z v (take i steps) → next ≡ stepped limits w step → i < length steps → step ≡ get_or steps i step → next ≡ played z v (take (i + 1) steps)
played_next z limits v w next steps i step s e n lt is =
    n ∙ (ap (λ (k : Setting). stepped k w step) s ∙ (ap (λ (x : View). stepped z x step) e ∙ (sym (played_more z v (take i steps) step) ∙ ap (λ (xs : List FileStep). played z v xs) (one_more steps i step lt is))))

pub noted_next : (z limits : Setting) (v w : View) (noted more : List Entered) (steps : List FileStep) (i : ℕ) (step : FileStep) → limits ≡ z → w ≡ played z v (take i steps) → noted ≡ all_entered z v (take i steps) → more ≡ noted ++ entered limits w step → i < length steps → step ≡ get_or steps i step → more ≡ all_entered z v (take (i + 1) steps)
noted_next z limits v w noted more steps i step s e q n lt is =
    n ∙ (ap (λ (k : Setting). noted ++ entered k w step) s ∙ (ap (λ (x : View). noted ++ entered z x step) e ∙ (ap (λ (xs : List Entered). xs ++ entered z (played z v (take i steps)) step) q
    ∙ (sym (entered_more z v (take i steps) step) ∙ ap (λ (xs : List FileStep). all_entered z v xs) (one_more steps i step lt is)))))

-- a view after some of the steps is sound
pub part_sound : (z : Setting) (v w : View) (steps : List FileStep) → 0 < z.block → Sound z v → DoneInPart z v w steps → Sound z w
part_sound z v w steps p s d = subst (Sound z) (sym d.done) (sound_played z (take d.count steps) v p s)

-- a step that is possible is done, and any other changes nothing
pub next_done : (z : Setting) (v w : View) (step : FileStep) → next_view z v step ≡ Some w → w ≡ stepped z v step
next_done z v w step = first (possible z v step)
  where
    or_left : Option View → View
    or_left (Some done) = done
    or_left None = v

    first : (b : Bool) → cond b (Some (after z v step)) None ≡ Some w → w ≡ cond b (after z v step) v
    first true e = sym (ap or_left e)
    first false e = absurd (cc (e))

pub next_left : (z : Setting) (v : View) (step : FileStep) → ((w : View) → next_view z v step ≡ Some w → ⊥) → v ≡ stepped z v step
next_left z v step = first (possible z v step)
  where
    first : (b : Bool) → ((w : View) → cond b (Some (after z v step)) None ≡ Some w → ⊥) → v ≡ cond b (after z v step) v
    first true n = absurd (n (after z v step) refl)
    first false n = refl

-- what a run that ended gives
pub bytes_in : {E : Type 0} (z : Setting) (v w : View) (steps : List FileStep) (r : Result (List Entered) E) → 0 < z.block → Sound z v → OnOk r (w ≡ played z v steps) → IfOk r (λ noted. noted ≡ all_entered z v steps) → IfOk r (λ noted. stands_for z w ≡ bytes_after_all z (stands_for z v) noted)
bytes_in z v w steps (Ok noted) p s a b = ap (stands_for z) a ∙ (bytes_of_played z v steps p s ∙ (bytes_all z v (stands_for z v) steps ∙ ap (λ (es : List Entered). bytes_after_all z (stands_for z v) es) (sym b)))
bytes_in z v w steps (Err end) p s a b = tt

pub right_in : {E : Type 0} (z : Setting) (v : View) (steps : List FileStep) (r : Result (List Entered) E) → 0 < z.block → Sound z v → IfOk r (λ noted. noted ≡ all_entered z v steps) → IfOk r (λ noted. are_right z (stands_for z v) noted ≡ true)
right_in z v steps (Ok noted) p s b = ap (λ (es : List Entered). are_right z (stands_for z v) es) b ∙ right_all z v (stands_for z v) steps (whole_played z v steps p s)
right_in z v steps (Err end) p s b = tt

pub whole_in : {E : Type 0} (z : Setting) (v : View) (steps : List FileStep) (r : Result (List Entered) E) → 0 < z.block → Sound z v → OnOk r (stays_coherent z v (stands_for z v) steps ≡ true)
whole_in z v steps (Ok noted) p s = whole_played z v steps p s
whole_in z v steps (Err end) p s = tt
