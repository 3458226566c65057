-- The sixth layer of soundness under the smallest changes of a view.
use Rattle.std.proofs.Common.{◌≡◌, ◌≢◌, ◌≤◌, ◌<◌, ◌⊎◌, ℕ, ◌==◌, nat_le, Bool, true, false, cond, ◌&&◌, List, [], ◌∷◌, ◌++◌, length, Some, None, refl, sym, ap, ◌∙◌, subst, inl, inr, arith, le_refl, leb-true, leb-false}
use Rattle.std.proofs.lemmas.Bool.Decides.{eqb_tells}
use Rattle.sprite_ids.specs.declared.StreamNo.{StreamNo}
use Rattle.file_views.specs.declared.grant.FileGrant.{FileGrant}
use Rattle.file_views.specs.declared.body.FileBody.{FileBody}
use Rattle.file_views.specs.declared.client.Client.{Client}
use Rattle.file_views.specs.declared.call.FileCall.{FileCall}
use Rattle.file_views.specs.declared.call.Carry.{Carry}
use Rattle.file_views.specs.declared.view.View.{View}
use Rattle.file_views.specs.Streams.{has_stream}
use Rattle.file_views.specs.Clients.{is_on, mode_of, granted, take_grant}
use Rattle.file_views.specs.Views.{client, set_client, current_stamp, is_holder, is_callback, things, replied, with_call, without_call}
use Rattle.file_views.specs.Settled.{arrival}
use Rattle.file_views.specs.Here.{In, IsClient, Arrives, asked_stream}
use Rattle.file_views.specs.SoundModes.{SameNewer}
use Rattle.file_views.specs.SoundHolders.{LocalHolders}
use Rattle.file_views.proofs.MemberLaws.{in_left, in_last, in_with, with_in, in_without, without_in}
use Rattle.file_views.proofs.EffectLaws.{Apart, by_kernel, count_set, client_set, client_other, same_thing}
use Rattle.file_views.proofs.ShapeLaws.{Flat}
use Rattle.file_views.proofs.StreamLaws.{FlatStreams}
use Rattle.file_views.proofs.StampLaws.{own_stamp, FlatStamps}
use Rattle.file_views.proofs.StampChangeLaws.{Reads}
use Rattle.file_views.proofs.ModeLaws.{FlatModes}
use Rattle.file_views.proofs.ModeServeLaws.{OpenFor, arrival_there}
use Rattle.file_views.proofs.HolderLaws.{Arrivals, Ways, holders_ways, DirtyIn, holders_milder, seat, FlatHolders}
use Rattle.file_views.proofs.HolderTakeLaws.{holders_took}

-- what each change of the calls brings
pub ways_self : (kernel floor : ℕ) (holds : Bool) (xs : List FileCall) → Ways kernel floor holds xs xs
ways_self kernel floor holds xs = record {
  arrivals = record { back = λ one m grant a. record { call = one; there = m; arrives = a; same = refl }; on = λ one m grant a n. record { call = one; there = m; arrives = a; same = refl } };
  called = λ one m t stamp kind e. record { call = one; there = m; to_kernel = t; is_call = e; taken_is = refl };
  calls = λ h one m t stamp kind e. record { call = one; there = m; to_kernel = t; is_call = e; taken_is = refl };
}

pub arrivals_begin : (kernel floor : ℕ) (xs : List FileCall) (new : FileCall) → arrival new.reply ≡ None → Arrivals kernel floor xs (xs ++ new ∷ [])
arrivals_begin kernel floor xs new n = record {
  back = λ one m grant a. elim (in_last one new xs m) [ inl k ↦ record { call = one; there = k; arrives = a; same = refl } | inr e ↦ absurd (cc (n, a.1, ap (λ (x : FileCall). arrival x.reply) e)) ];
  on = λ one m grant a l. record { call = one; there = in_left one xs (new ∷ []) m; arrives = a; same = refl };
}

pub ways_begin : (kernel floor : ℕ) (holds : Bool) (xs : List FileCall) (new : FileCall) → arrival new.reply ≡ None → (is_callback new.body ≡ true → new.to ≡ kernel → ⊥) → Ways kernel floor holds xs (xs ++ new ∷ [])
ways_begin kernel floor holds xs new n c = record {
  arrivals = arrivals_begin kernel floor xs new n;
  called = λ one m t stamp kind e. elim (in_last one new xs m) [ inl k ↦ record { call = one; there = k; to_kernel = t; is_call = e; taken_is = refl } | inr q ↦ absurd (c (sym (ap (λ (x : FileCall). is_callback x.body) q) ∙ ap is_callback e) (sym (ap (λ (x : FileCall). x.to) q) ∙ t)) ];
  calls = λ h one m t stamp kind e. record { call = one; there = in_left one xs (new ∷ []) m; to_kernel = t; is_call = e; taken_is = refl };
}

pub ways_without : (v : View) (kernel floor : ℕ) (holds : Bool) (one : FileCall) → Apart v → In one (things v) → ((grant : FileGrant) → Arrives kernel one grant → grant.stamp ≤ floor) → (holds ≡ true → is_callback one.body ≡ true → one.to ≡ kernel → ⊥) → Ways kernel floor holds (things v) (without_call one.number (things v))
ways_without v kernel floor holds one u m low c = record {
  arrivals = record {
    back = λ other n grant a. record { call = other; there = (in_without one.number other (things v) n).0; arrives = a; same = refl };
    on = λ other n grant a high. elim (eqb_tells other.number one.number) [
      | inl q ↦ let same : other ≡ one = same_thing v other one u n m q.1 in let k = low grant (subst (λ x. Arrives kernel x grant) same a) in absurd (omega (arith, k, high))
      | inr q ↦ record { call = other; there = without_in one.number other (things v) n q.1; arrives = a; same = refl }
    ];
  };
  called = λ other n t stamp kind e. record { call = other; there = (in_without one.number other (things v) n).0; to_kernel = t; is_call = e; taken_is = refl };
  calls = λ h other n t stamp kind e. record { call = other; there = without_in one.number other (things v) n (λ q. let same : other ≡ one = same_thing v other one u n m q in c h (sym (ap (λ (x : FileCall). is_callback x.body) same) ∙ ap is_callback e) (sym (ap (λ (x : FileCall). x.to) same) ∙ t)); to_kernel = t; is_call = e; taken_is = refl };
}

pub ways_answer : (v : View) (kernel floor : ℕ) (holds : Bool) (one : FileCall) (reply : FileBody) → Apart v → In one (things v) → one.reply ≡ None → arrival (Some reply) ≡ None → (is_callback one.body ≡ true → one.to ≡ kernel → ⊥) → Ways kernel floor holds (things v) (with_call (replied one reply) (things v))
ways_answer v kernel floor holds one reply u m n r c = record {
  arrivals = record {
    back = λ other k grant a. elim (in_with (replied one reply) other (things v) k) [ inl p ↦ record { call = other; there = p.0; arrives = a; same = refl } | inr q ↦ absurd (cc (r, a.1, ap (λ (x : FileCall). arrival x.reply) q)) ];
    on = λ other k grant a high. record { call = other; there = with_in (replied one reply) other (things v) k (λ q. let same : other ≡ one = same_thing v other one u k m q in cc (n, a.1, ap (λ (x : FileCall). arrival x.reply) same)); arrives = a; same = refl };
  };
  called = λ other k t stamp kind e. elim (in_with (replied one reply) other (things v) k) [ inl p ↦ record { call = other; there = p.0; to_kernel = t; is_call = e; taken_is = refl } | inr q ↦ absurd (c (sym (ap (λ (x : FileCall). is_callback x.body) q) ∙ ap is_callback e) (sym (ap (λ (x : FileCall). x.to) q) ∙ t)) ];
  calls = λ h other k t stamp kind e. record { call = other; there = with_in (replied one reply) other (things v) k (λ q. let same : other ≡ one = same_thing v other one u k m q in c (sym (ap (λ (x : FileCall). is_callback x.body) same) ∙ ap is_callback e) (sym (ap (λ (x : FileCall). x.to) same) ∙ t)); to_kernel = t; is_call = e; taken_is = refl };
}

pub ways_reads : (kernel floor : ℕ) (holds : Bool) (xs ys : List FileCall) (one other : FileCall) → Reads one other → asked_stream one.body ≡ asked_stream other.body → is_callback other.body ≡ false → In other xs → In one ys → ((x : FileCall) → In x ys → In x xs ⊎ (x ≡ one)) → ((x : FileCall) → In x xs → In x ys ⊎ (x ≡ other)) → Ways kernel floor holds xs ys
ways_reads kernel floor holds xs ys one other r s c m n back on = record {
  arrivals = record {
    back = λ x k grant a. elim (back x k) [ inl p ↦ record { call = x; there = p; arrives = a; same = refl } | inr q ↦ let b : Arrives kernel one grant = subst (λ y. Arrives kernel y grant) q a in record { call = other; there = m; arrives = (sym r.goes_is ∙ b.0, sym r.arrival_is ∙ b.1); same = sym s ∙ ap (λ (y : FileCall). asked_stream y.body) (sym q) } ];
    on = λ x k grant a l. elim (on x k) [ inl p ↦ record { call = x; there = p; arrives = a; same = refl } | inr q ↦ let b : Arrives kernel other grant = subst (λ y. Arrives kernel y grant) q a in record { call = one; there = n; arrives = (r.goes_is ∙ b.0, r.arrival_is ∙ b.1); same = s ∙ ap (λ (y : FileCall). asked_stream y.body) (sym q) } ];
  };
  called = λ x k t stamp kind e. elim (back x k) [ inl p ↦ record { call = x; there = p; to_kernel = t; is_call = e; taken_is = refl } | inr q ↦ absurd (cc (r.no_call, ap is_callback e, ap (λ (y : FileCall). y.body) q)) ];
  calls = λ h x k t stamp kind e. elim (on x k) [ inl p ↦ record { call = x; there = p; to_kernel = t; is_call = e; taken_is = refl } | inr q ↦ absurd (cc (c, ap is_callback e, ap (λ (y : FileCall). y.body) q)) ];
}

-- the calls change, and the server's bytes
pub holders_calls : (v : View) (bytes : List ℕ) (next : ℕ) (calls : List FileCall) (carried : List Carry) (uncached : Bool) → FlatHolders v → (uncached ≡ false → v.uncached ≡ false) → ((kernel : ℕ) → IsClient (length v.clients) kernel → Ways kernel (own_stamp v kernel) (is_holder v kernel) (things v) (things (record v { calls = calls; carried = carried }))) → FlatHolders (record v { bytes = bytes; next = next; calls = calls; carried = carried; uncached = uncached })
holders_calls v bytes next calls carried uncached f u w = record {
  is_client = f.is_client;
  opens = f.opens;
  stale = f.stale;
  exclusive = λ e. f.exclusive (u e);
  each = λ kernel i. holders_ways (seat v kernel) (things (record v { calls = calls; carried = carried })) (f.each kernel i) (w kernel i);
}

-- a client changes
pub holders_set : (v : View) (kernel : ℕ) (c : Client) → FlatHolders v → IsClient (length v.clients) kernel → LocalHolders (record (seat v kernel) { client = c }) → ((holder : ℕ) → v.holder ≡ Some holder → kernel ≢ holder → is_on c.mode ≡ true → c.version < v.version) → FlatHolders (set_client v kernel c)
holders_set v kernel c f i l stale = record {
  is_client = λ holder e. subst (λ n. IsClient n holder) (sym (count_set v kernel c)) (f.is_client holder e);
  opens = f.opens;
  stale = λ holder e other j d. by_kernel (λ k. IsClient (length v.clients) k → k ≢ holder → is_on (client (set_client v kernel c) k).mode ≡ true → (client (set_client v kernel c) k).version < v.version) kernel other
      (λ n q. subst (λ (x : Client). is_on x.mode ≡ true → x.version < v.version) (sym (client_set v kernel c i)) (stale holder e q))
      (λ p n q. subst (λ (x : Client). is_on x.mode ≡ true → x.version < v.version) (sym (client_other v kernel other c i.0 n.0 p)) (f.stale holder e other n q))
      (within other j) d;
  exclusive = f.exclusive;
  each = λ other j. by_kernel (λ k. IsClient (length v.clients) k → LocalHolders (seat (set_client v kernel c) k)) kernel other
      (λ n. subst LocalHolders (sym (ap (λ (x : Client). record (seat v kernel) { client = x }) (client_set v kernel c i))) l)
      (λ p n. subst LocalHolders (sym (ap (λ (x : Client). record (seat v other) { client = x }) (client_other v kernel other c i.0 n.0 p))) (f.each other n))
      (within other j);
}
  where
    within : (other : ℕ) → IsClient (length (set_client v kernel c).clients) other → IsClient (length v.clients) other
    within other j = subst (λ n. IsClient n other) (count_set v kernel c) j

pub holders_mild : (v : View) (kernel : ℕ) (c : Client) → FlatHolders v → IsClient (length v.clients) kernel → c.stamp ≡ (client v kernel).stamp → c.version ≡ (client v kernel).version → c.mode ≡ (client v kernel).mode → ((stream : StreamNo) → has_stream stream c.streams ≡ true → has_stream stream (client v kernel).streams ≡ true) → (DirtyIn c.blocks → DirtyIn (client v kernel).blocks) → FlatHolders (set_client v kernel c)
holders_mild v kernel c f i a b d s k = holders_set v kernel c f i
    (holders_milder (seat v kernel) c (f.each kernel i) (record { stamp = a; version = b; mode = d; streams = λ stream h. inl (s stream h); blocks = k }))
    (λ holder e q o. subst (λ n. n < v.version) (sym b) (f.stale holder e kernel i q (sym (ap is_on d) ∙ o)))

-- a call is gone that brought a grant or an Again
pub record Takes (v : View) (calls : List FileCall) (carried : List Carry) (one : FileCall) (kernel : ℕ) (grant : FileGrant) (c : Client) : Type 0 where
  pub there : In one (things v)
  pub left : things (record v { calls = calls; carried = carried }) ≡ without_call one.number (things v)
  pub plain : is_callback one.body ≡ false
  pub stamp : c.stamp ≡ (take_grant (client v kernel) grant).stamp
  pub version : c.version ≡ (take_grant (client v kernel) grant).version
  pub mode : c.mode ≡ (take_grant (client v kernel) grant).mode
  pub blocks : c.blocks ≡ (take_grant (client v kernel) grant).blocks
  pub low : grant.stamp ≤ current_stamp v kernel
  pub source : own_stamp v kernel < grant.stamp → SameNewer kernel (own_stamp v kernel) (things v) grant
  pub lost : (place : ℕ) (other : FileGrant) → Arrives place one other → (place ≡ kernel) × (other.stamp ≡ grant.stamp)
  pub streams : (stream : StreamNo) → has_stream stream c.streams ≡ true → (has_stream stream (client v kernel).streams ≡ true) ⊎ (Arrives kernel one grant × (asked_stream one.body ≡ Some stream))

pub holders_takes : (v : View) (calls : List FileCall) (carried : List Carry) (one : FileCall) (kernel : ℕ) (grant : FileGrant) (c : Client) → Takes v calls carried one kernel grant c → Flat v → FlatStreams v → FlatStamps v → FlatModes v → FlatHolders v → IsClient (length v.clients) kernel → FlatHolders (set_client (record v { calls = calls; carried = carried }) kernel c)
holders_takes v calls carried one kernel grant c t flat streams stamps modes f i = by_test (nat_le grant.stamp (client v kernel).stamp) refl t.stamp t.version t.mode t.blocks
  where
    made : ((other : ℕ) → IsClient (length v.clients) other → other ≢ kernel → LocalHolders (record (seat v other) { calls = things (record v { calls = calls; carried = carried }) })) → LocalHolders (record (seat v kernel) { client = c; calls = things (record v { calls = calls; carried = carried }) }) → ((holder : ℕ) → v.holder ≡ Some holder → kernel ≢ holder → is_on c.mode ≡ true → c.version < v.version) → FlatHolders (set_client (record v { calls = calls; carried = carried }) kernel c)
    made far here stale = record {
      is_client = λ holder e. subst (λ n. IsClient n holder) (sym (count_set v kernel c)) (f.is_client holder e);
      opens = f.opens;
      stale = λ holder e other j d. by_kernel (λ k. IsClient (length v.clients) k → k ≢ holder → is_on (client (set_client v kernel c) k).mode ≡ true → (client (set_client v kernel c) k).version < v.version) kernel other
          (λ n q. subst (λ (x : Client). is_on x.mode ≡ true → x.version < v.version) (sym (client_set v kernel c i)) (stale holder e q))
          (λ p n q. subst (λ (x : Client). is_on x.mode ≡ true → x.version < v.version) (sym (client_other v kernel other c i.0 n.0 p)) (f.stale holder e other n q))
          (subst (λ n. IsClient n other) (count_set v kernel c) j) d;
      exclusive = f.exclusive;
      each = λ other j. by_kernel (λ k. IsClient (length v.clients) k → LocalHolders (seat (set_client (record v { calls = calls; carried = carried }) kernel c) k)) kernel other
          (λ n. subst LocalHolders (sym (ap (λ (x : Client). record (seat v kernel) { client = x; calls = things (record v { calls = calls; carried = carried }) }) (client_set v kernel c i))) here)
          (λ p n. subst LocalHolders (sym (ap (λ (x : Client). record (seat v other) { client = x; calls = things (record v { calls = calls; carried = carried }) }) (client_other v kernel other c i.0 n.0 p))) (far other n p))
          (subst (λ n. IsClient n other) (count_set v kernel c) j);
    }

    ways_far : (other : ℕ) → other ≢ kernel → Ways other (own_stamp v other) (is_holder v other) (things v) (things (record v { calls = calls; carried = carried }))
    ways_far other d = subst (Ways other (own_stamp v other) (is_holder v other) (things v)) (sym t.left) (ways_without v other (own_stamp v other) (is_holder v other) one flat.numbered.differ t.there (λ g a. absurd (d (t.lost other g a).0)) (λ h b e. cc (t.plain, b)))

    far_of : (other : ℕ) → IsClient (length v.clients) other → other ≢ kernel → LocalHolders (record (seat v other) { calls = things (record v { calls = calls; carried = carried }) })
    far_of other n d = holders_ways (seat v other) (things (record v { calls = calls; carried = carried })) (f.each other n) (ways_far other d)

    ways_here : (floor : ℕ) → grant.stamp ≤ floor → Ways kernel floor (is_holder v kernel) (things v) (things (record v { calls = calls; carried = carried }))
    ways_here floor l = subst (Ways kernel floor (is_holder v kernel) (things v)) (sym t.left) (ways_without v kernel floor (is_holder v kernel) one flat.numbered.differ t.there (λ g a. let e = (t.lost kernel g a).1 in omega (arith, e, l)) (λ h b e. cc (t.plain, b)))

    -- no grant is on its way to a kernel beside the holder
    nowhere : (holder : ℕ) → v.holder ≡ Some holder → kernel ≢ holder → SameNewer kernel (own_stamp v kernel) (things v) grant → ⊥
    nowhere holder e d s = let o : OpenFor v kernel s.call = arrival_there v flat streams s.call s.is_newer.0 kernel s.newer s.is_newer.1 in d (sym o.at.kernel_is ∙ f.opens holder e o.at.one o.at.there)

    stay : (x : Client) → x ≡ client v kernel → grant.stamp ≤ own_stamp v kernel → c.stamp ≡ x.stamp → c.version ≡ x.version → c.mode ≡ x.mode → c.blocks ≡ x.blocks → FlatHolders (set_client (record v { calls = calls; carried = carried }) kernel c)
    stay x e l a b d k = made far_of
        (holders_ways (record (seat v kernel) { client = c }) (things (record v { calls = calls; carried = carried }))
        (holders_milder (seat v kernel) c (f.each kernel i) (record {
          stamp = a ∙ ap (λ (y : Client). y.stamp) e;
          version = b ∙ ap (λ (y : Client). y.version) e;
          mode = d ∙ ap (λ (y : Client). y.mode) e;
          streams = λ stream h. elim (t.streams stream h) [ inl p ↦ inl p | inr p ↦ inr (record { comes = record { call = one; grant = grant; there = t.there; arrives = p.0; old = l }; that = p.1 }) ];
          blocks = λ q. subst DirtyIn (k ∙ ap (λ (y : Client). y.blocks) e) q;
        }))
        (ways_here c.stamp (let s : c.stamp ≡ own_stamp v kernel = a ∙ ap (λ (y : Client). y.stamp) e in omega (arith, l, s))))
        (λ holder h q o. subst (λ n. n < v.version) (sym (b ∙ ap (λ (y : Client). y.version) e)) (f.stale holder h kernel i q (sym (ap is_on (d ∙ ap (λ (y : Client). y.mode) e)) ∙ o)))

    take : own_stamp v kernel < grant.stamp → c.stamp ≡ grant.stamp → c.version ≡ grant.new → c.mode ≡ mode_of grant.on → (DirtyIn c.blocks → DirtyIn (client v kernel).blocks) → FlatHolders (set_client (record v { calls = calls; carried = carried }) kernel c)
    take l a b d k = made far_of
        (holders_took (seat v kernel) c (things (record v { calls = calls; carried = carried })) grant (f.each kernel i) (modes kernel i) (record {
          source = t.source l;
          unanswered = λ x. let p = stamps.each x.call x.there in let q = p.behind x.stamp x.kind x.is_call x.taken in let r = p.called x.stamp x.kind x.is_call in let own : own_stamp v x.call.to ≡ own_stamp v kernel = ap (own_stamp v) x.to_kernel in let cur : current_stamp v x.call.to ≡ current_stamp v kernel = ap (current_stamp v) x.to_kernel in let low = t.low in omega (arith, q, r, own, cur, low, l);
          one_stamp = λ x y m n g h p q e. same_grant x y m n g h p q ((stamps.pairs x y m n).grants g h p.1 q.1 (p.0 ∙ sym q.0) e);
          stamp = a;
          version = b;
          mode = d;
          streams = λ stream h. elim (t.streams stream h) [ inl p ↦ inl p | inr p ↦ inr (record { comes = record { call = one; grant = grant; there = t.there; arrives = p.0; old = le_refl grant.stamp }; that = p.1 }) ];
          blocks = k;
          ways = ways_here c.stamp (omega (arith, a));
        }))
        (λ holder e q o. absurd (nowhere holder e q (t.source l)))
      where
        same_grant : (x y : FileCall) → In x (things v) → In y (things v) → (g h : FileGrant) → Arrives kernel x g → Arrives kernel y h → x.number ≡ y.number → g ≡ h
        same_grant x y m n g h p q e = let same : x ≡ y = same_thing v x y flat.numbered.differ m n e in cc (p.1, q.1, ap (λ (z : FileCall). arrival z.reply) same)

    fewer : (b : Bool) → DirtyIn (cond b (client v kernel).blocks []) → DirtyIn (client v kernel).blocks
    fewer true d = d
    fewer false d = absurd d.there

    by_test : (b : Bool) → nat_le grant.stamp (client v kernel).stamp ≡ b → c.stamp ≡ (cond b (client v kernel) (granted (client v kernel) grant)).stamp → c.version ≡ (cond b (client v kernel) (granted (client v kernel) grant)).version → c.mode ≡ (cond b (client v kernel) (granted (client v kernel) grant)).mode → c.blocks ≡ (cond b (client v kernel) (granted (client v kernel) grant)).blocks → FlatHolders (set_client (record v { calls = calls; carried = carried }) kernel c)
    by_test true e p q r s = stay (client v kernel) refl (leb-true grant.stamp (client v kernel).stamp e) p q r s
    by_test false e p q r s = take (leb-false grant.stamp (client v kernel).stamp e) p q r (λ d. fewer (grant.on && ((client v kernel).version == grant.old)) (subst DirtyIn s d))
