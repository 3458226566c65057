-- Each kernel of a reached cluster is of the kind that the description says.
use Rattle.std.proofs.Common.{arith, ◌≡◌, ℕ, zero, suc, ◌+◌, ◌<◌, ◌==◌, Bool, true, false, not, cond, List, [], ◌∷◌, ◌++◌, length, slice_get, Option, Some, None, refl, sym, ap, subst, ◌∙◌, append_assoc, true≢false}
use Rattle.std.proofs.lemmas.Bool.{eqb-true}
use Rattle.sprite_ids.specs.declared.TxNo.{TxNo}
use Rattle.sprite_ids.proofs.ListLaws.{get_within}
use Rattle.sprite_paths.specs.declared.Path.{Path}
use Rattle.process_machine.specs.Machine as processes
use Rattle.kernel_steps.specs.declared.Input.{Input}
use Rattle.unix_calls.specs.declared.Description.{Description}
use Rattle.unix_calls.specs.declared.KernelLine.{KernelLine}
use Rattle.unix_calls.specs.Lawful.{holds, numbered}
use Rattle.cluster_kernels.specs.declared.KernelState.{KernelState}
use Rattle.cluster_kernels.specs.declared.KernelState.TheVariants as kernels
use Rattle.cluster_kernels.specs.declared.State.{State}
use Rattle.cluster_kernels.specs.Booted.{AreKernels, IsKernel}
use Rattle.cluster_kernels.specs.Kernels.{image_put, kernel_step}
use Rattle.cluster_kernels.specs.States.{image_put_at, kernel_at}
use Rattle.cluster_steps.specs.Receivers.{is_receiver, takes_such}
use Rattle.cluster_choices.specs.declared.Choice.{Choice}
use Rattle.cluster_choices.specs.declared.Choice.TheVariants as choices
use Rattle.sprite_cluster.specs.Everywhere.{OfAll}
use Rattle.sprite_cluster.specs.Reached.{At, Chose, Began, Took, Lost}
use Rattle.sprite_cluster.proofs.KernelLaws.{Any, ChangeBrings, Keeps, changed}
use Rattle.sprite_cluster.proofs.ReachedLaws.{Lasts, lasts_on}
use Rattle.reached_receivers.specs.Receivers.{IsInside, IsOfItsKind, KernelsAreOfTheirKind, is_server}

-- ---- numbers

-- a kernel that takes requests is one of the description
pub receiver_there : (c : Description) (for_servers : Bool) (kernel : ℕ) → is_receiver c for_servers kernel ≡ true → IsInside c kernel
receiver_there c for_servers zero e = absurd (cc)
receiver_there c for_servers (suc place) e = by (slice_get c.kernels place) refl e
  where
    by : (o : Option KernelLine) → slice_get c.kernels place ≡ o → holds (takes_such for_servers) o ≡ true → IsInside c (suc place)
    by None is none = absurd (cc)
    by (Some line) is holds_so = let within : place < length c.kernels = get_within c.kernels place line is in (omega arith, omega (arith, within))

line_kind : (one other : Bool) (line : KernelLine) → takes_such one line ≡ true → takes_such other line ≡ true → one ≡ other
line_kind true true line e f = refl
line_kind false false line e f = refl
line_kind true false line e f = absurd (true≢false (sym e ∙ ap (λ b. not b) f))
line_kind false true line e f = absurd (true≢false (sym f ∙ ap (λ b. not b) e))

-- of one kind alone
pub one_kind : (c : Description) (one other : Bool) (kernel : ℕ) → is_receiver c one kernel ≡ true → is_receiver c other kernel ≡ true → one ≡ other
one_kind c one other kernel e f = by (numbered c.kernels kernel) e f
  where
    by : (o : Option KernelLine) → holds (takes_such one) o ≡ true → holds (takes_such other) o ≡ true → one ≡ other
    by None e f = absurd (cc)
    by (Some line) e f = line_kind one other line e f

-- ---- the boot

get_behind : (front lines : List KernelLine) (line : KernelLine) → slice_get (front ++ line ∷ lines) (length front) ≡ Some line
get_behind [] lines line = refl
get_behind (first ∷ front) lines line = get_behind front lines line

length_push : (front : List KernelLine) (line : KernelLine) → length (front ++ line ∷ []) ≡ suc (length front)
length_push [] line = refl
length_push (first ∷ front) line = ap (λ n. suc n) (length_push front line)

some_length : (n : ℕ) → (suc n == 0) ≡ false
some_length n = by (suc n == 0) refl
  where
    by : (b : Bool) → (suc n == 0) ≡ b → b ≡ false
    by false e = refl
    by true e = (let none : suc n ≡ 0 = eqb-true (suc n) 0 e in absurd (omega (arith, none)))

serves_so : (c : Description) (kernel : ℕ) (serves : List Path) (state : KernelState) → IsKernel c kernel serves state → cond (is_server state) (not (length serves == 0)) (length serves == 0) ≡ true
serves_so c kernel [] state e = subst (λ (state : KernelState). cond (is_server state) (not (length {A = Path} [] == 0)) (length {A = Path} [] == 0) ≡ true) (sym e) refl
serves_so c kernel (path ∷ paths) (kernels.Server made) e = ap (λ b. not b) (some_length (length paths))
serves_so c kernel (path ∷ paths) (kernels.Client made) e = absurd e

takes_by : (b : Bool) (line : KernelLine) → cond b (not (length line.serves == 0)) (length line.serves == 0) ≡ true → takes_such b line ≡ true
takes_by true line e = e
takes_by false line e = e

module _ (c : Description) where
  kind_there : (front lines : List KernelLine) (line : KernelLine) (state : KernelState) (kernel : ℕ) → c.kernels ≡ front ++ line ∷ lines → kernel ≡ suc (length front) → takes_such (is_server state) line ≡ true → IsOfItsKind c kernel state
  kind_there front lines line state kernel all is e =
      subst (λ (n : ℕ). is_receiver c (is_server state) n ≡ true) (sym is)
      (ap (λ (o : Option KernelLine). holds (takes_such (is_server state)) o) (ap (λ (xs : List KernelLine). slice_get xs (length front)) all ∙ get_behind front lines line) ∙ e)

  boot_kinds : (front lines : List KernelLine) (states : List KernelState) (kernel : ℕ) → c.kernels ≡ front ++ lines → kernel ≡ suc (length front) → AreKernels c kernel lines states → OfAll (IsOfItsKind c) kernel states
  boot_kinds front [] [] kernel all is e = tt
  boot_kinds front (line ∷ lines) (state ∷ states) kernel all is e =
      let longer : length (front ++ line ∷ []) ≡ suc (length front) = length_push front line in (
        kind_there front lines line state kernel all is (takes_by (is_server state) line (serves_so c kernel line.serves state e.0)),
        boot_kinds (front ++ line ∷ []) lines states (kernel + 1) (all ∙ sym (append_assoc front (line ∷ []) lines)) (omega (arith, longer, is)) e.1,
      )
  boot_kinds front [] (state ∷ states) kernel all is e = absurd e
  boot_kinds front (line ∷ lines) [] kernel all is e = absurd e

  -- ---- each change

  kinds_kept : Keeps (IsOfItsKind c) Any
  kinds_kept = record {
    steps = λ kernel state input next step such h. step_kind kernel state input next step h;
    images = λ kernel pid image state h. image_kind kernel pid image state h;
    own = λ input state is. tt;
  }
    where
      step_kind : (kernel : ℕ) (state : KernelState) (input : Input) (next : TxNo) (step : ℕ) → IsOfItsKind c kernel state → IsOfItsKind c kernel (kernel_step state input next step).0
      step_kind kernel (kernels.Client client) input next step h = h
      step_kind kernel (kernels.Server server) input next step h = h

      image_kind : (kernel pid : ℕ) (image : processes.Machine) (state : KernelState) → IsOfItsKind c kernel state → IsOfItsKind c kernel (image_put pid image state)
      image_kind kernel pid image (kernels.Client client) h = h
      image_kind kernel pid image (kernels.Server server) h = h

module _ {L : Type 0} (faults asked : L → ℕ → ℕ → ℕ) where
  brings_any : (c : Description) (kernel : ℕ) (choice : Choice) (old : At L) → ChangeBrings (IsOfItsKind c) Any (kinds_kept c) faults asked c (Chose kernel choice) old
  brings_any c kernel (choices.Deliver number) old = λ low copy input there brings state e. tt
  brings_any c kernel (choices.Expire tx) old = λ low. tt
  brings_any c kernel (choices.WriteBack file block) old = λ low. tt

  kinds_lasting : (c : Description) (begun : L) → Lasts faults asked c begun (λ (at : At L). OfAll (IsOfItsKind c) 1 at.state.kernels)
  kinds_lasting c begun = record {
    begins = λ first b. boot_kinds c [] c.kernels first.state.kernels 1 refl refl b.boots.kernels_are;
    chose = λ kernel choice old now reached goes h. changed (IsOfItsKind c) Any (kinds_kept c) faults asked c (Chose kernel choice) old now (brings_any c kernel choice old) goes h;
    began = λ kernel old now reached goes h. changed (IsOfItsKind c) Any (kinds_kept c) faults asked c (Began kernel) old now tt goes h;
    took = λ kernel b old now reached goes h. changed (IsOfItsKind c) Any (kinds_kept c) faults asked c (Took kernel b) old now tt goes h;
    lost = λ kernel b old now reached goes h. changed (IsOfItsKind c) Any (kinds_kept c) faults asked c (Lost kernel b) old now tt goes h;
  }

  pub kinds_last : KernelsAreOfTheirKind faults asked
  kinds_last c begun now reached = lasts_on faults asked c begun (λ (at : At L). OfAll (IsOfItsKind c) 1 at.state.kernels) now (kinds_lasting c begun) reached

-- an image changes nobody's number
pub image_there : (Found : Type 0) (kernel pid : ℕ) (image : processes.Machine) (o : Option KernelState) (s : State) → kernel_at kernel s ≡ o → ((state : KernelState) → kernel_at kernel s ≡ Some state → Found) → (state : KernelState) → kernel_at kernel (image_put_at kernel pid image o s) ≡ Some state → Found
image_there Found kernel pid image None s is there state e = there state e
image_there Found kernel pid image (Some found) s is there state e = there found is
