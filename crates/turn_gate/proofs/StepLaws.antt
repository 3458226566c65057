-- Each step on a word keeps the rule, and tells its seat what it is said to tell.
use Rattle.std.proofs.Common.{◌≡◌, ℕ, suc, ◌+◌, ◌%◌, ◌^◌, ◌<◌, ◌≤◌, ◌≢◌, List, [], ◌∷◌, ◌++◌, length, drop, set, Option, Some, None, sym, refl, ap, ap₂, ◌∙◌, subst, ⊎_elim, arith, append_assoc, append-nil}
use Rattle.std.specs.Prelude.{slice_index}
use mathlib.Core.Option.{none, some}
use mathlib.Core.Logic.{dite}
use native.Mathlib.Decide.{ℕ_discrete}
use lib.ListN.{get_elem?}
use Rattle.atomic_table.specs.Table.{State, Me, Act, keeps, takes, gives, put_back, carried_after, Valid, stepped, Allows}
use Rattle.atomic_table.proofs.Lists.{set_again, one_turn}
use Rattle.turn_gate.specs.declared.view.View.{View}
use Rattle.turn_gate.specs.Rule.{In, items_of, one, one_or, total, ticketed, living, Facts, Tied, Lies}
use Rattle.turn_gate.specs.Steps.{or_nil, log_of, with_ticket, counted, Grows, Told, Draws, Looks, Counts, Raises, IsIdle, IsServed}
use Rattle.turn_gate.proofs.SmallLaws.{total_set, ticketed_below, set_at, put, put_here, put_else, items_append, items_else, drop_front, some_is, some_not, none_not, one_some, next_word, more_word, same_value}
use Rattle.turn_gate.proofs.RuleLaws.{K, each_set, lies_else, at_home}

module _ {V O I : Type 0} (origin : V → O) (logof : V → List (ℕ × I)) (holds : V → Type 0) (o : O) (op : List (ℕ × I)) where
  abbrev St : Type 0
  St = State (Option V) (View O I)

  abbrev M : Type 0
  M = Me (Option V) (View O I)

  abbrev T : Facts I → ℕ → View O I → Type 0
  T f id v = Tied o op f id v

  abbrev KK : St → Type 0
  KK = K origin logof holds o op

  pub draws : (slots id : ℕ) (me : M) → IsIdle me → Allows KK slots id me 0 (λ n. (n + 1) % 2 ^ 64) (λ n m. Draws me n m)
  draws slots id me idle s k wide at small =
      let v = me.0 in let f = k.facts in let w = with_ticket v (Some f.next) None in
      let g : Facts I = record { next = suc f.next; serving = f.serving; drawn = put f.drawn f.next id; tally = f.tally; teller = f.teller; keeper = f.keeper; log = f.log; added = f.added; holder = f.holder } in
      let mine = k.each id v at in
      let was : ticketed v ≡ 0 = ap (λ t. one t) idle.1 in
      let lived : living v ≡ 1 = ap (λ t. one_or t (one v.origin)) idle.1 ∙ one_some v.origin idle.0 in
      let more : total ticketed (set s.views id w) + ticketed v ≡ total ticketed s.views + 1 = total_set ticketed s.views id v w at in
      let same : total living (set s.views id w) + living v ≡ total living s.views + 1 = total_set living s.views id v w at in
      let wait : f.next ≡ f.serving + total ticketed s.views = k.waiting in
      let few : total living s.views ≤ f.tally = k.few in
      let own : T g id w = record {
        from_start = mine.from_start;
        spent = λ e. absurd (idle.0 e);
        waits = λ t is. let e : f.next ≡ t = some_is f.next t is in ((omega arith), (omega arith), ap (λ z. put f.drawn f.next id z) (sym e) ∙ put_here f.drawn f.next id);
        tells = mine.tells;
        kept = mine.kept;
        held = λ y. absurd (y refl);
        saw = mine.saw;
        stand = mine.stand;
        alone = mine.alone;
      } in
      let others : (j : ℕ) (u : View O I) → j ≢ id → get_elem? s.views j ≡ some u → T f j u → T g j u = λ j u ne e h. record {
        from_start = h.from_start;
        spent = h.spent;
        waits = λ t is. let a = h.waits t is in let b : t < f.next = a.1 in let c : t ≢ f.next = λ z. (omega arith) in (a.0, (omega arith), put_else f.drawn f.next id t c ∙ a.2);
        tells = h.tells;
        kept = h.kept;
        held = h.held;
        saw = h.saw;
        stand = h.stand;
        alone = h.alone;
      } in (
        w,
        keeps,
        tt,
        record {
          facts = g;
          words = ap (λ ws. set ws 0 ((slice_index ws 0 + 1) % 2 ^ 64)) k.words ∙ ap (λ n. n ∷ f.serving % 2 ^ 64 ∷ length f.log % 2 ^ 64 ∷ []) (next_word f.next);
          waiting = (omega arith);
          few = (omega arith);
          most = k.most;
          grown = k.grown;
          no_strangers = k.no_strangers;
          lies = lies_else origin logof holds o op f.log s.homes s.views id v w f.holder at idle.2 k.lies;
          each = each_set origin logof holds o op f g s.views id w k.each own others;
        },
        (f.next, ap (λ ws. slice_index ws 0) k.words, refl),
      )

  -- what a step owes at a state: the new number of its word, and what it tells
  abbrev Goes : St → ℕ → ℕ → M → ℕ → (M → Type 0) → Type 0
  Goes s word id me n then = (w : View O I) × (a : Act (Option V)) × Valid s.homes me.1 a × KK (stepped s word n id me.1 w a) × then (w, carried_after me.1 a)

  misses : (s : St) (k : KK s) (id t : ℕ) (me : M) → get_elem? s.views id ≡ some me.0 → me.0.ticket ≡ Some t → slice_index s.words 1 ≢ t % 2 ^ 64 → Goes s 1 id me (slice_index s.words 1) (λ m. Looks origin logof holds me (slice_index s.words 1) m)
  misses s k id t me at ticket apart = (
    me.0,
    keeps,
    tt,
    subst (λ (vs : List (View O I)). KK (record { words = set s.words 1 (slice_index s.words 1); homes = s.homes; views = vs })) (sym (set_again s.views id me.0 at)) (record {
      facts = k.facts;
      words = ap (λ ws. set ws 1 (slice_index ws 1)) k.words;
      waiting = k.waiting;
      few = k.few;
      most = k.most;
      grown = k.grown;
      no_strangers = k.no_strangers;
      lies = k.lies;
      each = k.each;
    }),
    λ z is. ((λ hit. absurd (apart (hit ∙ ap (λ n. n % 2 ^ 64) (some_is z t (sym is ∙ ticket))))), (λ _. refl)),
  )

  hits : (s : St) (k : KK s) (id t : ℕ) (me : M) → me.0.origin ≢ None → me.0.log ≡ None → get_elem? s.views id ≡ some me.0 → me.0.ticket ≡ Some t → slice_index s.words 1 ≡ t % 2 ^ 64
      → Goes s 1 id me (slice_index s.words 1) (λ m. Looks origin logof holds me (slice_index s.words 1) m)
  hits s k id t me live lacks at ticket hit =
      let v = me.0 in let f = k.facts in
      let mine = k.each id v at in let waits = mine.waits t ticket in
      let low : f.serving ≤ t = waits.0 in let high : t < f.next = waits.1 in
      let wait : f.next ≡ f.serving + total ticketed s.views = k.waiting in
      let few : total living s.views ≤ f.tally = k.few in
      let most : f.tally ≤ 16 = k.most in
      let below : total ticketed s.views ≤ total living s.views = ticketed_below s.views in
      let near : t < f.serving + 2 ^ 64 = omega arith in
      let served : f.serving ≡ t = one_turn f.serving t (2 ^ 64) low near (sym (ap (λ ws. slice_index ws 1) k.words) ∙ hit) in
      let drew : f.drawn f.serving ≡ id = ap f.drawn served ∙ waits.2 in
      let home = at_home origin logof holds o op f s.homes s.views id v f.holder k.each at lacks drew k.lies in
      let x = home.0 in let w = with_ticket v (Some t) (Some (logof x)) in
      let g : Facts I = record { next = f.next; serving = f.serving; drawn = f.drawn; tally = f.tally; teller = f.teller; keeper = f.keeper; log = f.log; added = f.added; holder = suc id } in
      let was : ticketed v ≡ 1 = ap (λ z. one z) ticket in
      let lived : living v ≡ 1 = ap (λ z. one_or z (one v.origin)) ticket in
      let more : total ticketed (set s.views id w) + ticketed v ≡ total ticketed s.views + 1 = total_set ticketed s.views id v w at in
      let same : total living (set s.views id w) + living v ≡ total living s.views + 1 = total_set living s.views id v w at in
      let own : T g id w = record {
        from_start = mine.from_start;
        spent = λ e. absurd (live e);
        waits = λ z is. mine.waits z (ticket ∙ is);
        tells = mine.tells;
        kept = mine.kept;
        held = λ _. (refl, ap (λ n. Some n) (sym served), ap (λ l. Some l) home.3);
        saw = mine.saw;
        stand = mine.stand;
        alone = mine.alone;
      } in
      let others : (j : ℕ) (u : View O I) → j ≢ id → get_elem? s.views j ≡ some u → T f j u → T g j u = λ j u ne e h. record {
        from_start = h.from_start;
        spent = h.spent;
        waits = h.waits;
        tells = h.tells;
        kept = h.kept;
        held = λ y. absurd (ne (sym (h.waits f.serving (h.held y).1).2 ∙ drew));
        saw = h.saw;
        stand = h.stand;
        alone = h.alone;
      } in
      let told : Told (origin x) (logof x) v = record {
        from_start = ap (λ z. Some z) home.2 ∙ sym (mine.from_start live).0;
        saw = subst (λ (l : List (ℕ × I)). v.seen ≤ length l) (sym home.3) mine.saw;
        added = f.added;
        grown = home.3 ∙ k.grown ∙ ap (λ l. l ++ f.added) (sym (mine.from_start live).1);
        stand = mine.stand;
      } in (
        w,
        takes 0 (Some x),
        ap (λ h. get_elem? h 0) home.1,
        record {
          facts = g;
          words = ap (λ ws. set ws 1 (slice_index ws 1)) k.words;
          waiting = (omega arith);
          few = (omega arith);
          most = k.most;
          grown = k.grown;
          no_strangers = k.no_strangers;
          lies = (ap (λ h. set h 0 none) home.1, (w, set_at s.views id v w at, some_not (logof x), live));
          each = each_set origin logof holds o op f g s.views id w k.each own others;
        },
        λ z is. (
          (λ _. (x, (λ i. (with_ticket v (Some (some_is t z (sym ticket ∙ is) i)) (Some (logof x)), (0, Some x) ∷ me.1)), told, home.4)),
          (λ miss. absurd (miss (hit ∙ ap (λ n. n % 2 ^ 64) (some_is t z (sym ticket ∙ is))))),
        ),
      )

  pub looks : (slots id t : ℕ) (me : M) → me.0.origin ≢ None → me.0.log ≡ None → me.0.ticket ≡ Some t → Allows KK slots id me 1 (λ n. n) (λ n m. Looks origin logof holds me n m)
  looks slots id t me live lacks ticket s k wide at small = dite (ℕ_discrete (slice_index s.words 1) (t % 2 ^ 64)) (λ e. hits s k id t me live lacks at ticket e) (λ ne. misses s k id t me at ticket ne)

  pub counts : (slots id : ℕ) (me : M) (x : V) (extra : ℕ) → IsServed me (Some x) → Grows me.0.number (log_of me.0) (logof x) → length (log_of me.0) + extra ≡ length (logof x)
      → Allows KK slots id me 2 (λ n. (n + extra) % 2 ^ 64) (λ n m. Counts logof me m)
  counts slots id me x extra served grows long s k wide at small =
      let v = me.0 in let f = k.facts in let w = counted v (logof x) in let new = grows.0 in
      let mine = k.each id v at in let has = mine.held served.1 in let start = mine.from_start served.0 in
      let log : log_of v ≡ f.log = ap (λ l. or_nil l) has.2 in
      let newer : drop (length (log_of v)) (logof x) ≡ new = ap (λ l. drop (length (log_of v)) l) grows.1 ∙ drop_front (log_of v) new in
      let g : Facts I = record { next = f.next; serving = f.serving; drawn = f.drawn; tally = f.tally; teller = f.teller; keeper = f.keeper; log = logof x; added = f.added ++ new; holder = suc id } in
      let sized : length f.log + extra ≡ length (logof x) = ap (λ l. length l + extra) (sym log) ∙ long in
      let number = mine.kept v.number start.2 in
      let low : 1 ≤ v.number = number.0 in let high : v.number ≤ f.tally = number.1 in
      let more : total ticketed (set s.views id w) + ticketed v ≡ total ticketed s.views + ticketed v = total_set ticketed s.views id v w at in
      let same : total living (set s.views id w) + living v ≡ total living s.views + living v = total_set living s.views id v w at in
      let wait : f.next ≡ f.serving + total ticketed s.views = k.waiting in
      let few : total living s.views ≤ f.tally = k.few in
      let nothing : (n : ℕ) → n ≢ v.number → items_of n (f.added ++ new) ≡ items_of n f.added = λ n ne. items_append n f.added new ∙ ap (λ l. items_of n f.added ++ l) (items_else v.number n new grows.2 ne) ∙ append-nil (items_of n f.added) in
      let own : T g id w = record {
        from_start = mine.from_start;
        spent = λ e. absurd (served.0 e);
        waits = mine.waits;
        tells = mine.tells;
        kept = mine.kept;
        held = λ _. (refl, has.1, refl);
        saw = (omega arith);
        stand = λ n is. items_append n f.added new ∙ (ap₂ (λ a b. a ++ items_of n b) (mine.stand n is) (sym newer) ∙ sym (items_append n v.items (drop (length (log_of v)) (logof x))));
        alone = λ n isnt. items_append n v.items (drop (length (log_of v)) (logof x))
            ∙ ap₂ (λ a b. a ++ b) (mine.alone n isnt) (ap (λ l. items_of n l) newer ∙ items_else v.number n new grows.2 (λ e. isnt (subst (λ z. In z v.keeps) (sym e) start.2)));
      } in
      let others : (j : ℕ) (u : View O I) → j ≢ id → get_elem? s.views j ≡ some u → T f j u → T g j u = λ j u ne e h. record {
        from_start = h.from_start;
        spent = h.spent;
        waits = h.waits;
        tells = h.tells;
        kept = h.kept;
        held = λ y. let a : suc j ≡ suc id = sym (h.held y).0 ∙ has.0 in absurd (ne (omega arith));
        saw = let a : u.seen ≤ length f.log = h.saw in (omega arith);
        stand = λ n is. nothing n (λ z. ne (sym (h.kept n is).2 ∙ ap f.keeper z ∙ number.2)) ∙ h.stand n is;
        alone = h.alone;
      } in (
        w,
        keeps,
        tt,
        record {
          facts = g;
          words = ap (λ ws. set ws 2 ((slice_index ws 2 + extra) % 2 ^ 64)) k.words ∙ ap (λ n. f.next % 2 ^ 64 ∷ f.serving % 2 ^ 64 ∷ n ∷ []) (more_word (length f.log) extra (length (logof x)) sized);
          waiting = (omega arith);
          few = (omega arith);
          most = k.most;
          grown = grows.1 ∙ ap (λ l. l ++ new) (log ∙ k.grown) ∙ append_assoc op f.added new;
          no_strangers = λ n out. nothing n (λ e. ⊎_elim (λ (z : n ≡ 0). absurd (omega arith)) (λ (z : f.tally < n). absurd (omega arith)) out) ∙ k.no_strangers n out;
          lies = ((subst (λ h. Lies origin logof holds o f.log s.homes s.views h) has.0 k.lies).0, (w, set_at s.views id v w at, some_not (logof x), served.0));
          each = each_set origin logof holds o op f g s.views id w k.each own others;
        },
        λ y is. ap (λ (z : V). (counted v (logof z), me.1)) (same_value me.1 x y served.2 is),
      )

  pub raises : (slots id : ℕ) (me : M) (x : V) → IsServed me (Some x) → holds x → Some (origin x) ≡ me.0.origin → log_of me.0 ≡ logof x → Allows KK slots id me 1 (λ n. (n + 1) % 2 ^ 64) (λ n m. Raises me m)
  raises slots id me x served good from all s k wide at small =
      let v = me.0 in let f = k.facts in let w = with_ticket v None None in
      let g : Facts I = record { next = f.next; serving = suc f.serving; drawn = f.drawn; tally = f.tally; teller = f.teller; keeper = f.keeper; log = f.log; added = f.added; holder = 0 } in
      let mine = k.each id v at in let has = mine.held served.1 in
      let turn : v.ticket ≡ Some f.serving = has.1 in
      let away = subst (λ h. Lies origin logof holds o f.log s.homes s.views h) has.0 k.lies in
      let was : ticketed v ≡ 1 = ap (λ z. one z) turn in
      let lived : living v ≡ 1 = ap (λ z. one_or z (one v.origin)) turn in
      let lives : living w ≡ 1 = one_some v.origin served.0 in
      let more : total ticketed (set s.views id w) + ticketed v ≡ total ticketed s.views + 0 = total_set ticketed s.views id v w at in
      let same : total living (set s.views id w) + living v ≡ total living s.views + living w = total_set living s.views id v w at in
      let wait : f.next ≡ f.serving + total ticketed s.views = k.waiting in
      let few : total living s.views ≤ f.tally = k.few in
      let own : T g id w = record {
        from_start = mine.from_start;
        spent = λ e. absurd (served.0 e);
        waits = λ z is. absurd (none_not z is);
        tells = mine.tells;
        kept = mine.kept;
        held = λ y. absurd (y refl);
        saw = mine.saw;
        stand = mine.stand;
        alone = mine.alone;
      } in
      let others : (j : ℕ) (u : View O I) → j ≢ id → get_elem? s.views j ≡ some u → T f j u → T g j u = λ j u ne e h. record {
        from_start = h.from_start;
        spent = h.spent;
        waits = λ z is. let a = h.waits z is in let b : f.serving ≢ z = λ e. ne (sym a.2 ∙ ap f.drawn (sym e) ∙ (mine.waits f.serving turn).2) in let c : f.serving ≤ z = a.0 in ((omega arith), a.1, a.2);
        tells = h.tells;
        kept = h.kept;
        held = λ y. absurd (ne (sym (h.waits f.serving (h.held y).1).2 ∙ (mine.waits f.serving turn).2));
        saw = h.saw;
        stand = h.stand;
        alone = h.alone;
      } in (
        w,
        gives,
        tt,
        record {
          facts = g;
          words = ap (λ ws. set ws 1 ((slice_index ws 1 + 1) % 2 ^ 64)) k.words ∙ ap (λ n. f.next % 2 ^ 64 ∷ n ∷ length f.log % 2 ^ 64 ∷ []) (next_word f.serving);
          waiting = (omega arith);
          few = (omega arith);
          most = k.most;
          grown = k.grown;
          no_strangers = k.no_strangers;
          lies = (x, ap (λ c. put_back s.homes c) served.2 ∙ ap (λ h. set h 0 (some (Some x))) away.0, some_is (origin x) o (from ∙ (mine.from_start served.0).0), sym all ∙ ap (λ l. or_nil l) has.2, good);
          each = each_set origin logof holds o op f g s.views id w k.each own others;
        },
        refl,
      )
