-- Each call by the function that answers it.
use Rattle.std.proofs.Common.{◌≡◌, ℕ, List, Result, IfOk, refl, sym, subst, slice_get, slice_set, Some}
use Rattle.process_machine.specs.declared.call.Call.{Call}
use Rattle.process_machine.specs.declared.call.Call.TheVariants as call
use Rattle.unix_calls.specs.declared.description.Description.{Description}
use Rattle.unix_calls.specs.declared.state.Process.{Process}
use Rattle.unix_calls.specs.After.{outcome}
use Rattle.unix_calls.specs.NameCalls.{at_path, list, rename}
use Rattle.unix_world.specs.declared.World.{World}
use Rattle.unix_run.specs.declared.came.Came.{Came}
use Rattle.unix_world.specs.Among.{Ascending}
use Rattle.unix_run.specs.Among.{ComesAmong}
use Rattle.unix_run.specs.Outcomes.{Alone, ByName}
use Rattle.unix_run.specs.Coming.{Comes}
use Rattle.unix_run.proofs.AmongLaws.{among_of, if_ok}

pub by_list : {E : Type 0} (c : Description) (w : World) (p : Process) (a : Call) (path text : List ℕ) (max : ℕ) (r : Result Came E) (after : World) (q : Process) → a ≡ call.List path max → text ≡ path → IfOk r (λ came. Comes c (λ u x. at_path c u x text (λ directory. list c u x directory max)) w p came after q) → IfOk r (λ came. ByName a (Comes c (λ u x. outcome c u x a) w p came after q))
by_list {E} c w p a path text max r after q is same h =
    subst (λ (b : Call). IfOk r (λ came. ByName b (Comes c (λ u x. outcome c u x b) w p came after q))) (sym is)
    (subst (λ (t : List ℕ). IfOk r (λ came. Comes c (λ u x. at_path c u x t (λ directory. list c u x directory max)) w p came after q)) same h)

pub by_rename : {E : Type 0} (c : Description) (w : World) (p : Process) (a : Call) (old new from to : List ℕ) (r : Result Came E) (after : World) (q : Process) → a ≡ call.Rename old new → from ≡ old → to ≡ new → IfOk r (λ came. Comes c (λ u x. at_path c u x from (λ one. at_path c u x to (rename c u x one))) w p came after q) → IfOk r (λ came. ByName a (Comes c (λ u x. outcome c u x a) w p came after q))
by_rename {E} c w p a old new from to r after q is one two h =
    subst (λ (b : Call). IfOk r (λ came. ByName b (Comes c (λ u x. outcome c u x b) w p came after q))) (sym is)
    (subst (λ (t : List ℕ). IfOk r (λ came. Comes c (λ u x. at_path c u x old (λ first. at_path c u x t (rename c u x first))) w p came after q)) two
    (subst (λ (t : List ℕ). IfOk r (λ came. Comes c (λ u x. at_path c u x t (λ first. at_path c u x to (rename c u x first))) w p came after q)) one h))

-- a call that looks at no other process
alone_is : (a : Call) (T : Type 0) → (a ≡ call.Getppid → ⊥) → (a ≡ call.Fork → ⊥) → (a ≡ call.Wait → ⊥) → ((pid : ℕ) → a ≡ call.Kill pid → ⊥) → Alone a T → T
alone_is call.Getppid T a b c d h = absurd (a refl)
alone_is call.Fork T a b c d h = absurd (b refl)
alone_is call.Wait T a b c d h = absurd (c refl)
alone_is (call.Kill pid) T a b c d h = absurd (d pid refl)
alone_is other T a b c d h = h

pub alone_among : {E : Type 0} (c : Description) (w : World) (ps : List Process) (at : ℕ) (p : Process) (a : Call) (r : Result Came E) (after : World) (q : Process) → Ascending ps → slice_get ps at ≡ Some p → (a ≡ call.Getppid → ⊥) → (a ≡ call.Fork → ⊥) → (a ≡ call.Wait → ⊥) → ((pid : ℕ) → a ≡ call.Kill pid → ⊥) → IfOk r (λ came. Alone a (Comes c (λ u x. outcome c u x a) w p came after q)) → IfOk r (λ came. ComesAmong c (λ u x. outcome c u x a) w ps at came after (slice_set ps at q))
alone_among {E} c w ps at p a r after q h got one two three four comes =
    if_ok r (λ came k. among_of c (λ u x. outcome c u x a) w ps at p came after q h got (alone_is a (Comes c (λ u x. outcome c u x a) w p came after q) one two three four k)) comes
