-- The first layer of soundness under the smallest changes of a view.
use Rattle.std.proofs.Common.{◌≡◌, ◌≢◌, ◌≤◌, ◌<◌, ◌⊎◌, ℕ, ◌+◌, ◌==◌, true, not, ◌||◌, List, [], ◌∷◌, ◌++◌, length, map, Option, Some, None, refl, sym, ap, ◌∙◌, subst, inl, inr, arith, append_assoc, eq-eqb}
use Rattle.std.proofs.lemmas.List.{map-append}
use Rattle.sprite_ids.specs.declared.CacheMode.{CacheMode}
use Rattle.file_views.specs.declared.grant.FileGrant.{FileGrant}
use Rattle.file_views.specs.declared.body.FileBody.{FileBody}
use Rattle.file_views.specs.declared.client.Client.{Client}
use Rattle.file_views.specs.declared.call.FileCall.{FileCall}
use Rattle.file_views.specs.declared.call.Carry.{Carry}
use Rattle.file_views.specs.declared.view.View.{View}
use Rattle.file_views.specs.Views.{client, set_client, without_call, with_call, without_carried, as_call, things, new_call, begin, replied, answer, remove_call, to_the_end, is_callback}
use Rattle.file_views.specs.Here.{In, Unique, IsClient, target, about, at_kernel}
use Rattle.file_views.specs.SoundShapes.{Items, Answers, Shaped, CarryShaped, CallNumbers, LocalShapes, Shapes, numbers}
use Rattle.file_views.proofs.MemberLaws.{Made, in_left, in_right, in_join, in_last, in_map, in_filter, filter_in, in_without, in_with, numbers_with, unique_left, unique_right, unique_apart, unique_append, unique_filter, unique_join}
use Rattle.file_views.proofs.EffectLaws.{Apart, by_kernel, count_set, client_set, client_other, call_in_things, things_with, things_without, things_uncarried}
use Rattle.file_views.proofs.ClientLaws.{Fine, Follows}

-- the layer, said of the whole view
pub record Flat (v : View) : Type 0 where
  pub items : Items (length v.clients) v.stamps v.modes v.given
  pub calls : (one : FileCall) → In one v.calls → Shaped (length v.clients) one
  pub carried : (one : Carry) → In one v.carried → CarryShaped (length v.clients) one
  pub numbered : CallNumbers v.next (things v)
  pub fine : (kernel : ℕ) → IsClient (length v.clients) kernel → Fine (client v kernel)
  pub sent : (one : FileCall) → In one (things v) → (number : ℕ) → one.dirty ≡ Some number → IsClient (length v.clients) one.from → number ≤ (client v one.from).count

same_about : (kernel : ℕ) (one : FileCall) → one.from ≡ kernel → about kernel one ≡ true
same_about kernel one e = ap (λ b. b || ((one.to == kernel) || (target one.body == kernel))) (eq-eqb one.from kernel e)

pub flat_of : (v : View) → Shapes v → Flat v
flat_of v s = record {
  items = s.items;
  calls = s.calls;
  carried = s.carried;
  numbered = s.numbers;
  fine = λ kernel i. let l : LocalShapes (at_kernel v kernel) = s.each kernel i in record { owned = record { differ = l.numbered.differ; under = l.numbered.held }; waits = l.waits };
  sent = λ one m number e i. let l : LocalShapes (at_kernel v one.from) = s.each one.from i in l.numbered.sent one (filter_in (about one.from) one (things v) m (same_about one.from one refl)) refl number e;
}

pub shapes_of : (v : View) → Flat v → Shapes v
shapes_of v f = record {
  items = f.items;
  calls = f.calls;
  carried = f.carried;
  numbers = f.numbered;
  each = λ kernel i. record {
    numbered = record {
      differ = (f.fine kernel i).owned.differ;
      held = (f.fine kernel i).owned.under;
      sent = λ one m q number e. subst (λ k. number ≤ (client v k).count) q (f.sent one (in_filter (about kernel) one (things v) m).0 number e (subst (IsClient (length v.clients)) (sym q) i));
    };
    waits = (f.fine kernel i).waits;
  };
}

-- a client that changes
pub flat_client : (v : View) (kernel : ℕ) (c : Client) → Flat v → IsClient (length v.clients) kernel → Follows (client v kernel) c → Flat (set_client v kernel c)
flat_client v kernel c f i g = record {
  items = subst (λ n. Items n v.stamps v.modes v.given) (sym same) f.items;
  calls = λ one m. subst (λ n. Shaped n one) (sym same) (f.calls one m);
  carried = λ one m. subst (λ n. CarryShaped n one) (sym same) (f.carried one m);
  numbered = f.numbered;
  fine = λ other j. by_kernel (λ k. Fine (client (set_client v kernel c) k)) kernel other (subst Fine (sym (client_set v kernel c i)) g.fine) (λ d. subst Fine (sym (client_other v kernel other c i.0 j.0 d)) (f.fine other (within other j)));
  sent = λ one m number e j. by_kernel (λ k. k ≡ one.from → number ≤ (client (set_client v kernel c) k).count) kernel one.from
      (λ q. subst (λ (x : Client). number ≤ x.count) (sym (client_set v kernel c i)) (raised (f.sent one m number e (within one.from j)) q))
      (λ d q. subst (λ (x : Client). number ≤ x.count) (sym (client_other v kernel one.from c i.0 j.0 d)) (f.sent one m number e (within one.from j))) refl;
}
  where
    same : length (set_client v kernel c).clients ≡ length v.clients
    same = count_set v kernel c

    within : (other : ℕ) → IsClient (length (set_client v kernel c).clients) other → IsClient (length v.clients) other
    within other j = subst (λ n. IsClient n other) same j

    raised : {source number : ℕ} → number ≤ (client v source).count → kernel ≡ source → number ≤ c.count
    raised {source} {number} l q = let low : number ≤ (client v kernel).count = subst (λ k. number ≤ (client v k).count) (sym q) l in let high = g.rises in omega (arith, low, high)

-- the server's own part changes
pub flat_items : (count : ℕ) (stamps stamps' : List ℕ) (modes modes' : List CacheMode) (given given' : List (Option FileGrant)) → length stamps' ≡ length stamps → length modes' ≡ length modes → length given' ≡ length given → Items count stamps modes given → Items count stamps' modes' given'
flat_items count stamps stamps' modes modes' given given' a b c s = record { some = s.some; fifteen = s.fifteen; stamp_each = a ∙ s.stamp_each; mode_each = b ∙ s.mode_each; given_each = c ∙ s.given_each }

-- a call at the end
pub flat_push : (v : View) (next : ℕ) (new : FileCall) → Flat v → v.next ≤ next → new.number < next → (In new.number (numbers (things v)) → ⊥) → Shaped (length v.clients) new → ((number : ℕ) → new.dirty ≡ Some number → number ≤ (client v new.from).count) → Flat (record v { next = next; calls = v.calls ++ new ∷ [] })
flat_push v next new f l under apart shaped low = record {
  items = f.items;
  calls = λ one m. shape one (in_last one new v.calls m);
  carried = f.carried;
  numbered = record {
    differ = subst (λ xs. Unique (numbers xs)) grown (subst Unique (sym (map-append (λ (c : FileCall). c.number) (things v) (new ∷ []))) (unique_append (numbers (things v)) new.number f.numbered.differ apart));
    under = λ one m. below one (in_last one new (things v) (subst (In one) (sym grown) m));
  };
  fine = f.fine;
  sent = λ one m number e i. told one number e i (in_last one new (things v) (subst (In one) (sym grown) m));
}
  where
    grown : things v ++ new ∷ [] ≡ map as_call v.carried ++ (v.calls ++ new ∷ [])
    grown = append_assoc (map as_call v.carried) v.calls (new ∷ [])

    shape : (one : FileCall) → In one v.calls ⊎ (one ≡ new) → Shaped (length v.clients) one
    shape one (inl m) = f.calls one m
    shape one (inr e) = subst (Shaped (length v.clients)) (sym e) shaped

    below : (one : FileCall) → In one (things v) ⊎ (one ≡ new) → one.number < next
    below one (inl m) = let k = f.numbered.under one m in omega (arith, k, l)
    below one (inr e) = subst (λ (x : FileCall). x.number < next) (sym e) under

    told : (one : FileCall) (number : ℕ) → one.dirty ≡ Some number → IsClient (length v.clients) one.from → In one (things v) ⊎ (one ≡ new) → number ≤ (client v one.from).count
    told one number e i (inl m) = f.sent one m number e i
    told one number e i (inr q) = subst (λ (x : FileCall). number ≤ (client v x.from).count) (sym q) (low number (sym (ap (λ (x : FileCall). x.dirty) q) ∙ e))

new_number : (v : View) → Flat v → In v.next (numbers (things v)) → ⊥
new_number v f m =
    let r : Made (λ (c : FileCall). c.number) v.next (things v) = in_map (λ (c : FileCall). c.number) v.next (things v) m in
    let k = f.numbered.under r.x r.there in
    let e = r.makes in omega (arith, k, e)

-- a call that begins
pub flat_begin : (v : View) (source to : ℕ) (body : FileBody) (dirty : Option ℕ) → Flat v → Shaped (length v.clients) (new_call v source to body dirty) → ((number : ℕ) → dirty ≡ Some number → number ≤ (client v source).count) → Flat (begin v source to body dirty)
flat_begin v source to body dirty f shaped low = flat_push v (v.next + 1) (new_call v source to body dirty) f (omega arith) (omega arith) (new_number v f) shaped low

-- a call that is exchanged for one with its number, its sender and its dirty number
pub flat_with : (v : View) (one new : FileCall) → Flat v → In one v.calls → new.number ≡ one.number → new.from ≡ one.from → new.dirty ≡ one.dirty → Shaped (length v.clients) new → Flat (record v { calls = with_call new v.calls })
flat_with v one new f m e sender dirt shaped = record {
  items = f.items;
  calls = λ other n. shape other (in_with new other v.calls n);
  carried = f.carried;
  numbered = record {
    differ = subst (λ xs. Unique (numbers xs)) (sym changed) (subst Unique (sym (numbers_with new (things v))) f.numbered.differ);
    under = λ other n. below other (in_with new other (things v) (subst (In other) changed n));
  };
  fine = f.fine;
  sent = λ other n number q i. told other number q i (in_with new other (things v) (subst (In other) changed n));
}
  where
    changed : things (record v { calls = with_call new v.calls }) ≡ with_call new (things v)
    changed = things_with v one new f.numbered.differ m e

    shape : (other : FileCall) → (In other v.calls × (other.number ≢ new.number)) ⊎ (other ≡ new) → Shaped (length v.clients) other
    shape other (inl n) = f.calls other n.0
    shape other (inr q) = subst (Shaped (length v.clients)) (sym q) shaped

    below : (other : FileCall) → (In other (things v) × (other.number ≢ new.number)) ⊎ (other ≡ new) → other.number < v.next
    below other (inl n) = f.numbered.under other n.0
    below other (inr q) = subst (λ (x : FileCall). x.number < v.next) (sym q) (subst (λ k. k < v.next) (sym e) (f.numbered.under one (call_in_things v one m)))

    told : (other : FileCall) (number : ℕ) → other.dirty ≡ Some number → IsClient (length v.clients) other.from → (In other (things v) × (other.number ≢ new.number)) ⊎ (other ≡ new) → number ≤ (client v other.from).count
    told other number q i (inl n) = f.sent other n.0 number q i
    told other number q i (inr p) =
        let same : other.from ≡ one.from = ap (λ (x : FileCall). x.from) p ∙ sender in
        subst (λ k. number ≤ (client v k).count) (sym same) (f.sent one (call_in_things v one m) number (sym dirt ∙ sym (ap (λ (x : FileCall). x.dirty) p) ∙ q) (subst (IsClient (length v.clients)) same i))

-- a call that is answered
pub shaped_replied : (count : ℕ) (one : FileCall) (reply : FileBody) → Shaped count one → Answers one.body reply → Shaped count (replied one reply)
shaped_replied count one reply s a = record {
  ends = s.ends;
  fits = λ other e. let same : reply ≡ other = cc (e) in subst (Answers one.body) same a;
  taken_first = λ other e. refl;
  answered = λ e t. refl;
  numbered = s.numbered;
  writing = s.writing;
}

pub flat_answer : (v : View) (one : FileCall) (reply : FileBody) → Flat v → In one v.calls → Answers one.body reply → Flat (answer v one reply)
flat_answer v one reply f m a = flat_with v one (replied one reply) f m refl refl refl (shaped_replied (length v.clients) one reply (f.calls one m) a)

-- a call that is finished
pub flat_remove : (v : View) (one : FileCall) → Flat v → In one v.calls → Flat (remove_call v one.number)
flat_remove v one f m = record {
  items = f.items;
  calls = λ other n. f.calls other (in_without one.number other v.calls n).0;
  carried = f.carried;
  numbered = record {
    differ = subst (λ xs. Unique (numbers xs)) (sym changed) (unique_filter (λ (c : FileCall). c.number) (λ (c : FileCall). not (c.number == one.number)) (things v) f.numbered.differ);
    under = λ other n. f.numbered.under other (in_without one.number other (things v) (subst (In other) changed n)).0;
  };
  fine = f.fine;
  sent = λ other n number q i. f.sent other (in_without one.number other (things v) (subst (In other) changed n)).0 number q i;
}
  where
    changed : things (remove_call v one.number) ≡ without_call one.number (things v)
    changed = things_without v one f.numbered.differ m

pub gone : (v : View) (one : FileCall) → Apart v → In one v.calls → In one.number (numbers (things (remove_call v one.number))) → ⊥
gone v one u m n =
    let r : Made (λ (c : FileCall). c.number) one.number (things (remove_call v one.number)) = in_map (λ (c : FileCall). c.number) one.number (things (remove_call v one.number)) n in
    (in_without one.number r.x (things v) (subst (In r.x) (things_without v one u m) r.there)).1 (sym r.makes)

-- a call that the server takes
shaped_taken : (count : ℕ) (one : FileCall) → Shaped count one → (is_callback one.body ≡ true → ⊥) → Shaped count (record one { taken = true })
shaped_taken count one s a = record {
  ends = s.ends;
  fits = s.fits;
  taken_first = λ other e. refl;
  answered = λ e t. absurd (a e);
  numbered = s.numbered;
  writing = s.writing;
}

pub flat_take : (v : View) (one : FileCall) → Flat v → In one v.calls → (is_callback one.body ≡ true → ⊥) → IsClient (length v.clients) one.from → Flat (to_the_end v one)
flat_take v one f m a i =
    flat_push (remove_call v one.number) v.next (record one { taken = true }) (flat_remove v one f m) (omega arith) (f.numbered.under one (call_in_things v one m)) (gone v one f.numbered.differ m) (shaped_taken (length v.clients) one (f.calls one m) a)
    (λ number e. f.sent one (call_in_things v one m) number e i)

-- a carried stream that comes
pub flat_uncarried : (v : View) (one : Carry) → Flat v → In one v.carried → Flat (record v { carried = without_carried one.call v.carried })
flat_uncarried v one f m = record {
  items = f.items;
  calls = f.calls;
  carried = λ other n. f.carried other (in_filter (λ (c : Carry). not (c.call == one.call)) other v.carried n).0;
  numbered = record {
    differ = subst (λ xs. Unique (numbers xs)) (sym changed) (unique_filter (λ (c : FileCall). c.number) (λ (c : FileCall). not (c.number == one.call)) (things v) f.numbered.differ);
    under = λ other n. f.numbered.under other (in_without one.call other (things v) (subst (In other) changed n)).0;
  };
  fine = f.fine;
  sent = λ other n number q i. f.sent other (in_without one.call other (things v) (subst (In other) changed n)).0 number q i;
}
  where
    changed : things (record v { carried = without_carried one.call v.carried }) ≡ without_call one.call (things v)
    changed = things_uncarried v one f.numbered.differ m

-- a move whose reply came is carried on
pub in_middle : {X : Type 0} (x y : X) (xs ys : List X) → In x ((xs ++ y ∷ []) ++ ys) → In x (xs ++ ys) ⊎ (x ≡ y)
in_middle x y xs ys m = by_part (in_join x (xs ++ y ∷ []) ys m)
  where
    inner : In x xs ⊎ (x ≡ y) → In x (xs ++ ys) ⊎ (x ≡ y)
    inner (inl n) = inl (in_left x xs ys n)
    inner (inr e) = inr e

    by_part : In x (xs ++ y ∷ []) ⊎ In x ys → In x (xs ++ ys) ⊎ (x ≡ y)
    by_part (inl n) = inner (in_last x y xs n)
    by_part (inr n) = inl (in_right x xs ys n)

unique_middle : {X : Type 0} (y : X) (xs ys : List X) → Unique (xs ++ ys) → (In y (xs ++ ys) → ⊥) → Unique ((xs ++ y ∷ []) ++ ys)
unique_middle {X} y xs ys u out = unique_join (xs ++ y ∷ []) ys (unique_append xs y (unique_left xs ys u) (λ m. out (in_left y xs ys m))) (unique_right xs ys u) (λ x m n. meets x (in_last x y xs m) n)
  where
    meets : (x : X) → In x xs ⊎ (x ≡ y) → In x ys → ⊥
    meets x (inl m) n = unique_apart x xs ys u m n
    meets x (inr e) n = out (in_right y xs ys (subst (λ z. In z ys) e n))

pub things_carried : (v : View) (one : Carry) → things (record v { carried = v.carried ++ one ∷ [] }) ≡ (map as_call v.carried ++ as_call one ∷ []) ++ v.calls
things_carried v one = ap (λ xs. xs ++ v.calls) (map-append as_call v.carried (one ∷ []))

pub flat_carried : (v : View) (one : Carry) → Flat v → CarryShaped (length v.clients) one → one.call < v.next → (In one.call (numbers (things v)) → ⊥) → Flat (record v { carried = v.carried ++ one ∷ [] })
flat_carried v one f shaped under out = record {
  items = f.items;
  calls = f.calls;
  carried = λ other n. shape other (in_last other one v.carried n);
  numbered = record {
    differ = subst Unique (sym split) (unique_middle one.call (numbers (map as_call v.carried)) (numbers v.calls) (subst Unique (map-append (λ (c : FileCall). c.number) (map as_call v.carried) v.calls) f.numbered.differ) (λ m. out (subst (In one.call) (sym (map-append (λ (c : FileCall). c.number) (map as_call v.carried) v.calls)) m)));
    under = λ other n. below other (in_middle other (as_call one) (map as_call v.carried) v.calls (subst (In other) (things_carried v one) n));
  };
  fine = f.fine;
  sent = λ other n number q i. told other number q i (in_middle other (as_call one) (map as_call v.carried) v.calls (subst (In other) (things_carried v one) n));
}
  where
    split : numbers (things (record v { carried = v.carried ++ one ∷ [] })) ≡ (numbers (map as_call v.carried) ++ one.call ∷ []) ++ numbers v.calls
    split = ap numbers (things_carried v one) ∙ map-append (λ (c : FileCall). c.number) (map as_call v.carried ++ as_call one ∷ []) v.calls ∙ ap (λ xs. xs ++ numbers v.calls) (map-append (λ (c : FileCall). c.number) (map as_call v.carried) (as_call one ∷ []))

    shape : (other : Carry) → In other v.carried ⊎ (other ≡ one) → CarryShaped (length v.clients) other
    shape other (inl n) = f.carried other n
    shape other (inr e) = subst (CarryShaped (length v.clients)) (sym e) shaped

    below : (other : FileCall) → In other (things v) ⊎ (other ≡ as_call one) → other.number < v.next
    below other (inl n) = f.numbered.under other n
    below other (inr e) = subst (λ (x : FileCall). x.number < v.next) (sym e) under

    told : (other : FileCall) (number : ℕ) → other.dirty ≡ Some number → IsClient (length v.clients) other.from → In other (things v) ⊎ (other ≡ as_call one) → number ≤ (client v other.from).count
    told other number q i (inl n) = f.sent other n number q i
    told other number q i (inr e) = let none : other.dirty ≡ None = ap (λ (x : FileCall). x.dirty) e in absurd (cc (none, q))
