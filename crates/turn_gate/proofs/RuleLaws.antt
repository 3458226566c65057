-- The rule when one view changes, and where the value is.
use Rattle.std.proofs.Common.{◌≡◌, ℕ, zero, suc, ◌≢◌, List, set, Option, None, sym, ap, ◌∙◌, subst, ⊎_elim}
use mathlib.Core.Option as maybe
use mathlib.Core.Option.{none, some, some-injective}
use lib.ListN.{get_elem?}
use Rattle.atomic_table.specs.Table.{State, Me}
use Rattle.atomic_table.proofs.Lists.{at_set, set_else}
use Rattle.turn_gate.specs.declared.view.View.{View}
use Rattle.turn_gate.specs.Rule.{Facts, Tied, Each, Lies, Kept}

module _ {V O I : Type 0} (origin : V → O) (logof : V → List (ℕ × I)) (holds : V → Type 0) (o : O) (op : List (ℕ × I)) where
  abbrev pub St : Type 0
  St = State (Option V) (View O I)

  abbrev pub M : Type 0
  M = Me (Option V) (View O I)

  abbrev pub K : St → Type 0
  K = Kept origin logof holds o op

  abbrev pub T : Facts I → ℕ → View O I → Type 0
  T f id v = Tied o op f id v

  -- one view changes, and the facts with it
  pub each_set : (f g : Facts I) (views : List (View O I)) (id : ℕ) (w : View O I) → Each o op f views → T g id w → ((j : ℕ) (u : View O I) → j ≢ id → get_elem? views j ≡ some u → T f j u → T g j u) → Each o op g (set views id w)
  each_set f g views id w all own others j u e =
      ⊎_elim
      (λ (t : (j ≡ id) × (w ≡ u)). subst (λ (z : ℕ × View O I). T g z.0 z.1) (λ i. (sym t.0 i, t.1 i)) own)
      (λ (t : (j ≢ id) × (get_elem? views j ≡ some u)). others j u t.0 t.1 (all j u t.1))
      (at_set views id j w u e)

  pub same_view : (views : List (View O I)) (i j : ℕ) (u v : View O I) → get_elem? views j ≡ some u → get_elem? views i ≡ some v → j ≡ i → u ≡ v
  same_view views i j u v a b e = some-injective u v (sym a ∙ ap (λ k. get_elem? views k) e ∙ b)

  -- the view of a seat that has not the value may change
  pub lies_else : (log : List (ℕ × I)) (homes : List (maybe.Option (Option V))) (views : List (View O I)) (id : ℕ) (v w : View O I) (h : ℕ) → get_elem? views id ≡ some v → v.log ≡ None → Lies origin logof holds o log homes views h
      → Lies origin logof holds o log homes (set views id w) h
  lies_else log homes views id v w zero at lacks l = l
  lies_else log homes views id v w (suc j) at lacks l =
      let u = l.1.0 in let apart : j ≢ id = λ e. l.1.2 (ap (λ (z : View O I). z.log) (same_view views id j u v l.1.1 at e) ∙ lacks) in (l.0, (u, set_else views id j w apart ∙ l.1.1, l.1.2, l.1.3))

  -- where the ticket that is served is of a seat that has not the value, the value is at home
  pub at_home : (f : Facts I) (homes : List (maybe.Option (Option V))) (views : List (View O I)) (id : ℕ) (v : View O I) (h : ℕ) → Each o op f views → get_elem? views id ≡ some v → v.log ≡ None → f.drawn f.serving ≡ id
      → Lies origin logof holds o f.log homes views h → Lies origin logof holds o f.log homes views zero
  at_home f homes views id v zero all at lacks drew l = l
  at_home f homes views id v (suc j) all at lacks drew l =
      let u = l.1.0 in let his = all j u l.1.1 in let held = his.held l.1.2 in let same : j ≡ id = sym (his.waits f.serving held.1).2 ∙ drew in
      absurd (l.1.2 (ap (λ (z : View O I). z.log) (same_view views id j u v l.1.1 at same) ∙ lacks))
