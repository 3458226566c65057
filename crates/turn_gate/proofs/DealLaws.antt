-- A gate begins by its rule, seats that are made and joined keep it, and what it says at the end.
use Rattle.std.proofs.Common.{◌≡◌, ℕ, zero, suc, ◌+◌, ◌%◌, ◌^◌, ◌<◌, ◌≤◌, ◌≢◌, ◌⊎◌, List, [], ◌∷◌, ◌++◌, length, set, Option, Some, None, option_map, sym, refl, ap, ap₂, ◌∙◌, subst, inl, inr, ⊎_elim, arith, append-nil, mod-eq_of_lt}
use Rattle.std.proofs.Math.Nat.{max-le}
use mathlib.Core.Option as maybe
use mathlib.Core.Option.{none, some, some-injective, some-ne-none}
use lib.ListN.{get_elem?}
use Rattle.atomic_table.specs.Table.{Splits, Joins, opening, Final, Seen}
use Rattle.atomic_table.proofs.Lists.{at_set, set_else, at_longer}
use Rattle.turn_gate.specs.declared.view.View.{View}
use Rattle.turn_gate.specs.Rule.{In, items_of, one, total, ticketed, living, first_view, Facts, Tied, Each, Lies}
use Rattle.turn_gate.specs.Steps.{or_zero, dealer, dealt, joined, spent_view}
use Rattle.turn_gate.proofs.SmallLaws.{total_set, total_snoc, at_end, put, put_here, put_else, moved, moved_here, moved_else, in_append, in_front, in_back, in_one, items_append, some_is, none_not, one_some, or_else_is}
use Rattle.turn_gate.proofs.RuleLaws.{K, lies_else}

module _ {V O I : Type 0} (origin : V → O) (logof : V → List (ℕ × I)) (holds : V → Type 0) (o : O) (op : List (ℕ × I)) where
  abbrev T : Facts I → ℕ → View O I → Type 0
  T f id v = Tied o op f id v

  lies_longer : (log : List (ℕ × I)) (homes : List (maybe.Option (Option V))) (views more : List (View O I)) (h : ℕ) → Lies origin logof holds o log homes views h → Lies origin logof holds o log homes (views ++ more) h
  lies_longer log homes views more zero l = l
  lies_longer log homes views more (suc j) l = (l.0, (l.1.0, at_longer views more j l.1.0 l.1.1, l.1.2, l.1.3))

  pub deals : (id : ℕ) (v : View O I) (n : ℕ) → v.origin ≢ None → v.ticket ≡ None → v.log ≡ None → v.tally ≡ Some n → n < 16 → Splits (K origin logof holds o op) id v (dealer v) (dealt v)
  deals id v n live idle lacks tally room s k at =
      let f = k.facts in let left = dealer v in let w = dealt v in let views : List (View O I) = set s.views id left in let place : ℕ = length views in
      let g : Facts I = record { next = f.next; serving = f.serving; drawn = f.drawn; tally = suc f.tally; teller = f.teller; keeper = put f.keeper (suc f.tally) place; log = f.log; added = f.added; holder = f.holder } in
      let mine = k.each id v at in let told = mine.tells n tally in let start = mine.from_start live in
      let full : n ≡ f.tally = told.0 in
      let number : or_zero v.tally ≡ f.tally = ap (λ t. or_zero t) tally ∙ full in
      let tickets : total ticketed views + ticketed v ≡ total ticketed s.views + ticketed v = total_set ticketed s.views id v left at in
      let lives : total living views + living v ≡ total living s.views + living v = total_set living s.views id v left at in
      let tickets' : total ticketed (views ++ w ∷ []) ≡ total ticketed views + 0 = total_snoc ticketed views w in
      let one_more : living w ≡ 1 = one_some v.origin live in
      let lives' : total living (views ++ w ∷ []) ≡ total living views + living w = total_snoc living views w in
      let wait : f.next ≡ f.serving + total ticketed s.views = k.waiting in
      let few : total living s.views ≤ f.tally = k.few in
      let own : T g id left = record {
        from_start = mine.from_start;
        spent = λ e. absurd (live e);
        waits = mine.waits;
        tells = λ m is. let e : suc n ≡ m = some_is (suc n) m (ap (λ t. option_map (λ z. suc z) t) (sym tally) ∙ is) in ((omega arith), told.1);
        kept = λ m is. let a = mine.kept m is in let high : m ≤ f.tally = a.1 in let c : m ≢ suc f.tally = λ z. (omega arith) in (a.0, (omega arith), put_else f.keeper (suc f.tally) place m c ∙ a.2);
        held = mine.held;
        saw = mine.saw;
        stand = mine.stand;
        alone = mine.alone;
      } in
      let others : (j : ℕ) (u : View O I) → j ≢ id → T f j u → T g j u = λ j u ne h. record {
        from_start = h.from_start;
        spent = h.spent;
        waits = h.waits;
        tells = λ m is. absurd (ne (sym (h.tells m is).1 ∙ told.1));
        kept = λ m is. let a = h.kept m is in let high : m ≤ f.tally = a.1 in let c : m ≢ suc f.tally = λ z. (omega arith) in (a.0, (omega arith), put_else f.keeper (suc f.tally) place m c ∙ a.2);
        held = h.held;
        saw = h.saw;
        stand = h.stand;
        alone = h.alone;
      } in
      let new : T g place w = record {
        from_start = λ _. (start.0, start.1, inl refl);
        spent = λ e. absurd (live e);
        waits = λ z is. absurd (none_not z is);
        tells = λ z is. absurd (none_not z is);
        kept = λ m is. let e : m ≡ suc f.tally = in_one m (suc (or_zero v.tally)) is ∙ ap (λ z. suc z) number in ((omega arith), (omega arith), ap (λ z. put f.keeper (suc f.tally) place z) e ∙ put_here f.keeper (suc f.tally) place);
        held = λ y. absurd (y refl);
        saw = mine.saw;
        stand = λ m is. let e : m ≡ suc f.tally = in_one m (suc (or_zero v.tally)) is ∙ ap (λ z. suc z) number in k.no_strangers m (inr (omega arith));
        alone = λ m isnt. refl;
      } in
      let each : Each o op g (views ++ w ∷ []) = λ j u e. ⊎_elim
      (λ (t : get_elem? views j ≡ some u). ⊎_elim
      (λ (z : (j ≡ id) × (left ≡ u)). subst (λ (y : ℕ × View O I). T g y.0 y.1) (λ i. (sym z.0 i, z.1 i)) own)
      (λ (z : (j ≢ id) × (get_elem? s.views j ≡ some u)). others j u z.0 (k.each j u z.1))
      (at_set s.views id j left u t))
      (λ (t : (j ≡ place) × (w ≡ u)). subst (λ (y : ℕ × View O I). T g y.0 y.1) (λ i. (sym t.0 i, t.1 i)) new)
      (at_end views w u j e) in record {
        facts = g;
        words = k.words;
        waiting = (omega arith);
        few = (omega arith);
        most = (omega arith);
        grown = k.grown;
        no_strangers = λ m out. k.no_strangers m (⊎_elim (λ (z : m ≡ 0). inl z) (λ (z : suc f.tally < m). inr (omega arith)) out);
        lies = lies_longer f.log s.homes views (w ∷ []) f.holder (lies_else origin logof holds o op f.log s.homes s.views id v left f.holder at lacks k.lies);
        each = each;
      }

  pub joins : (id : ℕ) (v : View O I) (other : ℕ) (w : View O I) → v.origin ≢ None → v.log ≡ None → w.ticket ≡ None → w.log ≡ None → Joins (K origin logof holds o op) id v other w (joined v w) spent_view
  joins id v other w live lacks idle empty s k at apart there =
      let f = k.facts in let both = joined v w in let views : List (View O I) = set s.views id both in
      let at_other : get_elem? s.views other ≡ some w = sym (set_else s.views id other both apart) ∙ there in
      let g : Facts I = record { next = f.next; serving = f.serving; drawn = f.drawn; tally = f.tally; teller = moved f.teller other id; keeper = λ n. moved (f.keeper n) other id; log = f.log; added = f.added; holder = f.holder } in
      let mine = k.each id v at in let his = k.each other w at_other in let start = mine.from_start live in
      let stays : (n : ℕ) → n ≡ id → moved n other id ≡ id = λ n e. ap (λ z. moved z other id) e ∙ moved_else id other id (λ z. apart (sym z)) in
      let comes : (n : ℕ) → n ≡ other → moved n other id ≡ id = λ n e. moved_here n other id e in
      let not_his : (n : ℕ) → In n v.keeps → ¬ In n w.keeps = λ n a b. apart (sym (his.kept n b).2 ∙ (mine.kept n a).2) in
      let tickets : total ticketed views + ticketed v ≡ total ticketed s.views + ticketed v = total_set ticketed s.views id v both at in
      let lives : total living views + living v ≡ total living s.views + living v = total_set living s.views id v both at in
      let tickets' : total ticketed (set views other spent_view) + ticketed w ≡ total ticketed views + 0 = total_set ticketed views other w spent_view there in
      let lives' : total living (set views other spent_view) + living w ≡ total living views + 0 = total_set living views other w spent_view there in
      let was : ticketed w ≡ 0 = ap (λ z. one z) idle in
      let wait : f.next ≡ f.serving + total ticketed s.views = k.waiting in
      let few : total living s.views ≤ f.tally = k.few in
      let own : T g id both = record {
        from_start = λ _. (start.0, start.1, in_front v.number v.keeps w.keeps start.2);
        spent = λ e. absurd (live e);
        waits = mine.waits;
        tells = λ n is. ⊎_elim (λ (a : v.tally ≡ Some n). ((mine.tells n a).0, stays f.teller (mine.tells n a).1)) (λ (b : w.tally ≡ Some n). ((his.tells n b).0, comes f.teller (his.tells n b).1)) (or_else_is v.tally w.tally n is);
        kept = λ n is. ⊎_elim (λ (a : In n v.keeps). let z = mine.kept n a in (z.0, z.1, stays (f.keeper n) z.2)) (λ (b : In n w.keeps). let z = his.kept n b in (z.0, z.1, comes (f.keeper n) z.2)) (in_append n v.keeps w.keeps is);
        held = λ y. absurd (y lacks);
        saw = max-le mine.saw his.saw;
        stand = λ n is. ⊎_elim
            (λ (a : In n v.keeps). mine.stand n a ∙ sym (items_append n v.items w.items ∙ ap (λ l. items_of n v.items ++ l) (his.alone n (not_his n a)) ∙ append-nil (items_of n v.items)))
            (λ (b : In n w.keeps). his.stand n b ∙ sym (items_append n v.items w.items ∙ ap (λ l. l ++ items_of n w.items) (mine.alone n (λ a. not_his n a b))))
            (in_append n v.keeps w.keeps is);
        alone = λ n isnt. items_append n v.items w.items ∙ ap₂ (λ a b. a ++ b) (mine.alone n (λ a. isnt (in_front n v.keeps w.keeps a))) (his.alone n (λ b. isnt (in_back n v.keeps w.keeps b)));
      } in
      let nobody : T g other spent_view = record {
        from_start = λ y. absurd (y refl);
        spent = λ _. record { no_ticket = refl; no_log = refl; no_items = refl; no_numbers = refl; no_tally = refl };
        waits = λ z is. absurd (none_not z is);
        tells = λ z is. absurd (none_not z is);
        kept = λ n is. absurd is;
        held = λ y. absurd (y refl);
        saw = (omega arith);
        stand = λ n is. absurd is;
        alone = λ n isnt. refl;
      } in
      let others : (j : ℕ) (u : View O I) → j ≢ other → T f j u → T g j u = λ j u ne h. record {
        from_start = h.from_start;
        spent = h.spent;
        waits = h.waits;
        tells = λ n is. let t = h.tells n is in (t.0, moved_else f.teller other id (λ e. ne (sym t.1 ∙ e)) ∙ t.1);
        kept = λ n is. let t = h.kept n is in (t.0, t.1, moved_else (f.keeper n) other id (λ e. ne (sym t.2 ∙ e)) ∙ t.2);
        held = h.held;
        saw = h.saw;
        stand = h.stand;
        alone = h.alone;
      } in
      let each : Each o op g (set views other spent_view) = λ j u e. ⊎_elim
      (λ (t : (j ≡ other) × (spent_view ≡ u)). subst (λ (y : ℕ × View O I). T g y.0 y.1) (λ i. (sym t.0 i, t.1 i)) nobody)
      (λ (t : (j ≢ other) × (get_elem? views j ≡ some u)). ⊎_elim
      (λ (z : (j ≡ id) × (both ≡ u)). subst (λ (y : ℕ × View O I). T g y.0 y.1) (λ i. (sym z.0 i, z.1 i)) own)
      (λ (z : (j ≢ id) × (get_elem? s.views j ≡ some u)). others j u t.0 (k.each j u z.1))
      (at_set s.views id j both u t.1))
      (at_set views other j spent_view u e) in record {
        facts = g;
        words = k.words;
        waiting = (omega arith);
        few = (omega arith);
        most = k.most;
        grown = k.grown;
        no_strangers = k.no_strangers;
        lies = lies_else origin logof holds o op f.log s.homes views other w spent_view f.holder there empty (lies_else origin logof holds o op f.log s.homes s.views id v both f.holder at lacks k.lies);
        each = each;
      }

  -- where a seat keeps all numbers and has not the value, the value is at home
  all_home : (f : Facts I) (homes : List (maybe.Option (Option V))) (views : List (View O I)) (id : ℕ) (v : View O I) (h : ℕ) → Each o op f views → get_elem? views id ≡ some v → v.log ≡ None
      → ((m : ℕ) → 1 ≤ m → m ≤ f.tally → In m v.keeps) → Lies origin logof holds o f.log homes views h → Lies origin logof holds o f.log homes views zero
  all_home f homes views id v zero each at lacks all l = l
  all_home f homes views id v (suc j) each at lacks all l =
      let u = l.1.0 in let his = each j u l.1.1 in let kept = his.kept u.number (his.from_start l.1.3).2 in
      let same : j ≡ id = sym kept.2 ∙ ((each id v at).kept u.number (all u.number kept.0 kept.1)).2 in
      absurd (l.1.2 (ap (λ (z : View O I). z.log) (some-injective u v (sym l.1.1 ∙ ap (λ i. get_elem? views i) same ∙ at)) ∙ lacks))

  -- what a seat that keeps all numbers, up to n, learns at the end
  abbrev pub Over : View O I → ℕ → List (Option V) → Type 0
  Over v n xs = (x : V) × (get_elem? xs 0 ≡ some (Some x)) × (origin x ≡ o) × holds x
      × ((added : List (ℕ × I)) × (logof x ≡ op ++ added) × (v.seen ≤ length (logof x)) × ((m : ℕ) → In m v.keeps → items_of m added ≡ items_of m v.items) × ((m : ℕ) → (m ≡ 0) ⊎ (n < m) → items_of m added ≡ []))

  pub ends : (id : ℕ) (v : View O I) (n : ℕ) → v.log ≡ None → v.tally ≡ Some n → ((m : ℕ) → 1 ≤ m → m ≤ n → In m v.keeps) → (ws : List ℕ) (xs : List (Option V)) → Final (Seen (K origin logof holds o op) id v) ws xs → Over v n xs
  ends id v n lacks tally all ws xs fin =
      let s = fin.0 in let k = fin.1.0 in let at = fin.1.1 in let f = k.facts in let mine = k.each id v at in
      let full : n ≡ f.tally = (mine.tells n tally).0 in
      let home = all_home f s.homes s.views id v f.holder k.each at lacks (λ m low high. all m low (omega arith)) k.lies in
      let x = home.0 in (
        x,
        fin.4 0 (Some x) (ap (λ h. get_elem? h 0) home.1),
        home.2,
        home.4,
        (
          f.added,
          home.3 ∙ k.grown,
          subst (λ (l : List (ℕ × I)). v.seen ≤ length l) (sym home.3) mine.saw,
          mine.stand,
          λ m out. k.no_strangers m (⊎_elim (λ (z : m ≡ 0). inl z) (λ (z : n < m). inr (omega arith)) out),
        ),
      )

-- the rule holds of a new gate
pub begins : {V O I : Type 0} (origin : V → O) (logof : V → List (ℕ × I)) (holds : V → Type 0) (x : V) (n : ℕ) → holds x → n ≡ length (logof x) → n < 2 ^ 64
    → K origin logof holds (origin x) (logof x) (opening (0 ∷ 0 ∷ n ∷ []) (Some x ∷ []) (first_view (origin x) (logof x)))
begins {V} {O} {I} origin logof holds x n good is small =
    let first : View O I = first_view (origin x) (logof x) in
    let f : Facts I = record { next = 0; serving = 0; drawn = λ _. 0; tally = 1; teller = 0; keeper = λ _. 0; log = logof x; added = []; holder = 0 } in
    let tied : Tied (origin x) (logof x) f 0 first = record {
      from_start = λ _. (refl, refl, inl refl);
      spent = λ e. absurd (none_not (origin x) (sym e));
      waits = λ z is. absurd (none_not z is);
      tells = λ z is. (sym (some_is 1 z is), refl);
      kept = λ m is. let e : m ≡ 1 = in_one m 1 is in ((omega arith), (omega arith), refl);
      held = λ y. absurd (y refl);
      saw = (omega arith);
      stand = λ m is. refl;
      alone = λ m isnt. refl;
    } in record {
      facts = f;
      words = ap (λ c. 0 ∷ 0 ∷ c ∷ []) (sym (mod-eq_of_lt small) ∙ ap (λ c. c % 2 ^ 64) is);
      waiting = refl;
      few = (omega arith);
      most = (omega arith);
      grown = sym (append-nil (logof x));
      no_strangers = λ m out. refl;
      lies = (x, refl, refl, refl, good);
      each = λ j u e. only j u e tied;
    }
  where
    only : {O I : Type 0} {o : O} {op : List (ℕ × I)} {f : Facts I} {first : View O I} (j : ℕ) (u : View O I) → get_elem? (first ∷ []) j ≡ some u → Tied o op f 0 first → Tied o op f j u
    only {O} {I} {o} {op} {f} {first} zero u e t = subst (λ (z : View O I). Tied o op f 0 z) (some-injective first u e) t
    only (suc j) u e t = absurd (some-ne-none u (sym e))

pub begins_as : {V O I : Type 0} (origin : V → O) (logof : V → List (ℕ × I)) (holds : V → Type 0) (about x : V) (n : ℕ) (xs : List (Option V)) → holds x → about ≡ x → xs ≡ Some x ∷ [] → n ≡ length (logof x) → n < 2 ^ 64
    → K origin logof holds (origin about) (logof about) (opening (0 ∷ 0 ∷ n ∷ []) xs (first_view (origin about) (logof about)))
begins_as {V} origin logof holds about x n xs good e items is small =
    subst (λ (z : V). K origin logof holds (origin z) (logof z) (opening (0 ∷ 0 ∷ n ∷ []) xs (first_view (origin z) (logof z)))) (sym e)
    (subst (λ (l : List (Option V)). K origin logof holds (origin x) (logof x) (opening (0 ∷ 0 ∷ n ∷ []) l (first_view (origin x) (logof x)))) (sym items) (begins origin logof holds x n good is small))
