-- The sixth layer of soundness, said of one kernel's part of a view, where grants are given.
use Rattle.std.proofs.Common.{◌≡◌, ◌≤◌, ◌<◌, ◌⊎◌, ℕ, Bool, true, false, List, Some, sym, ap, ◌∙◌, subst, inl, inr, arith}
use Rattle.sprite_ids.specs.declared.StreamNo.{StreamNo}
use Rattle.sprite_ids.specs.declared.CacheMode.{CacheMode}
use Rattle.sprite_ids.specs.declared.CallKind.{CallKind}
use Rattle.sprite_ids.specs.declared.CallKind.TheVariants.{Recall}
use Rattle.file_views.specs.declared.grant.FileGrant.{FileGrant}
use Rattle.file_views.specs.declared.body.FileBody.TheVariants as form
use Rattle.file_views.specs.declared.opens.Open.{Open}
use Rattle.file_views.specs.declared.call.FileCall.{FileCall}
use Rattle.file_views.specs.Streams.{has_stream, writes}
use Rattle.file_views.specs.Clients.{is_on, mode_of}
use Rattle.file_views.specs.Here.{In, Here, Arrives, EachNewer, asked_stream, Answered}
use Rattle.file_views.specs.SoundHolders.{Active, EngagedToWrite, Keeps, Ready, Coming, LocalHolders}
use Rattle.file_views.proofs.CountLaws.{bool_cases}
use Rattle.file_views.proofs.HolderLaws.{SameOpen}
use Rattle.file_views.proofs.HolderTakeLaws.{order}

-- a kernel whose cache isn't used and won't be, in a file without a holder
pub record Idle (h : Here) (current version : ℕ) (mode : CacheMode) (ys : List FileCall) : Type 0 where
  pub unheld : h.holds ≡ false
  pub off_now : is_on h.client.mode ≡ false
  pub off_later : EachNewer h.kernel h.client.stamp ys (λ one grant. grant.on ≡ false)
  pub rises : EachNewer h.kernel h.client.stamp ys (λ one grant. grant.old ≤ grant.new)
  pub under : EachNewer h.kernel h.client.stamp ys (λ one grant. grant.new ≤ version)
  pub higher : h.version ≤ version
  pub quiet : (one : FileCall) → In one ys → one.to ≡ h.kernel → (stamp : ℕ) (kind : CallKind) → one.body ≡ form.Callback stamp kind → ⊥
  pub agrees : h.client.stamp ≡ current → h.client.mode ≡ mode

pub holders_idle : (h : Here) (current version : ℕ) (mode : CacheMode) (opened : List Open) (ys : List FileCall) → LocalHolders h → Idle h current version mode ys → LocalHolders (record h { current = current; version = version; mode = mode; opened = opened; calls = ys })
holders_idle h current version mode opened ys f t = record {
  seen_below = (let a = f.seen_below in let b = t.higher in omega (arith, a, b));
  chained = record {
    first = λ one m x a n o. absurd (cc (o, t.off_later one m x a n));
    rises = t.rises;
    under = t.under;
    linked = λ one m x a n o. absurd (cc (o, t.off_later one m x a n));
    joined = λ one m x a n o. absurd (cc (o, t.off_later one m x a n));
    last = λ one m x a n o. absurd (cc (o, t.off_later one m x a n));
  };
  at_version = λ one m o off. absurd (cc (o, t.off_now));
  writer_holds = λ one m r a. absurd (inactive a);
  holder_state = λ e. absurd (cc (e, t.unheld));
  holder_grants = λ one m x a n o e. absurd (cc (o, t.off_later one m x a n));
  recall_ready = λ r. absurd (t.quiet r.call r.there r.to_kernel r.stamp Recall r.recalls);
  recall_on = λ one m to s e. absurd (t.quiet one m to s Recall e);
  recall_holds = λ one m to s e. absurd (t.quiet one m to s Recall e);
  writer_ready = λ a e. absurd (inactive a);
  dirty_ready = λ one m q. absurd (cc ((f.dirty_ready one m q).holds_it, t.unheld));
  dirty_unanswered = λ one m q k. t.quiet k.call k.there k.to_kernel k.stamp k.kind k.is_call;
  modes_agree = t.agrees;
}
  where
    inactive : Active h.kernel h.client.stamp h.client.mode ys → ⊥
    inactive (inl o) = cc (o, t.off_now)
    inactive (inr o) = cc (o.on, t.off_later o.call o.is_newer.0 o.grant o.is_newer.1 o.is_newer.2)

-- a kernel that hasn't the file open, and to which nothing comes, while the version rises
pub record Away (h : Here) (version : ℕ) (ys : List FileCall) : Type 0 where
  pub unheld : h.holds ≡ false
  pub none : (one : FileCall) → In one ys → (grant : FileGrant) → Arrives h.kernel one grant → ⊥
  pub higher : h.version ≤ version
  pub quiet : (one : FileCall) → In one ys → one.to ≡ h.kernel → (stamp : ℕ) (kind : CallKind) → one.body ≡ form.Callback stamp kind → ⊥

pub holders_away : (h : Here) (version : ℕ) (opened : List Open) (ys : List FileCall) → ((one : Open) → In one opened → ⊥) → LocalHolders h → Away h version ys → LocalHolders (record h { version = version; opened = opened; calls = ys })
holders_away h version opened ys closed f t = record {
  seen_below = (let a = f.seen_below in let b = t.higher in omega (arith, a, b));
  chained = record {
    first = λ one m x a n o. absurd (t.none one m x a);
    rises = λ one m x a n. absurd (t.none one m x a);
    under = λ one m x a n. absurd (t.none one m x a);
    linked = λ one m x a n. absurd (t.none one m x a);
    joined = λ one m x a n. absurd (t.none one m x a);
    last = λ one m x a n. absurd (t.none one m x a);
  };
  at_version = λ one m o off. absurd (closed one m);
  writer_holds = λ one m r a. absurd (closed one m);
  holder_state = λ e. absurd (cc (e, t.unheld));
  holder_grants = λ one m x a n o e. absurd (t.none one m x a);
  recall_ready = λ r. absurd (t.quiet r.call r.there r.to_kernel r.stamp Recall r.recalls);
  recall_on = λ one m to s e. absurd (t.quiet one m to s Recall e);
  recall_holds = λ one m to s e. absurd (t.quiet one m to s Recall e);
  writer_ready = λ a e. absurd (closed e.one e.there);
  dirty_ready = λ one m q. absurd (cc ((f.dirty_ready one m q).holds_it, t.unheld));
  dirty_unanswered = λ one m q k. t.quiet k.call k.there k.to_kernel k.stamp k.kind k.is_call;
  modes_agree = f.modes_agree;
}

-- who is the holder after a grant On: the receiver was it before, it is so by this grant, or it isn't
pub data Holding (before after : Bool) (writing : Bool) (version next : ℕ) (grant : FileGrant) : Type 0 where
  Mine : before ≡ true → grant.holder ≡ true → next ≡ version → grant.old ≡ next → after ≡ true → Holding before after writing version next grant
  Fresh : before ≡ false → grant.holder ≡ false → writing ≡ true → version < next → after ≡ true → Holding before after writing version next grant
  Plain : before ≡ false → grant.holder ≡ false → writing ≡ false → after ≡ false → Holding before after writing version next grant

-- a kernel is given a grant On
pub record Given (h : Here) (top next : ℕ) (after writing : Bool) (grant : FileGrant) (new : FileCall) (stream : StreamNo) (opened : List Open) (ys : List FileCall) : Type 0 where
  pub on : grant.on ≡ true
  pub old : (one : FileCall) → In one ys → In one h.calls ⊎ (one ≡ new)
  pub stays : (one : FileCall) → In one h.calls → (other : FileGrant) → Arrives h.kernel one other → In one ys
  pub there : In new ys
  pub arrives : Arrives h.kernel new grant
  pub asked : asked_stream new.body ≡ Some stream
  pub is_top : grant.stamp ≡ top
  pub low : (one : FileCall) → In one h.calls → (other : FileGrant) → Arrives h.kernel one other → other.stamp < top
  pub own : h.client.stamp < top
  pub quiet : (one : FileCall) → In one ys → one.to ≡ h.kernel → (stamp : ℕ) (kind : CallKind) → one.body ≡ form.Callback stamp kind → ⊥
  pub unanswered : Answered h.kernel h.calls → ⊥
  pub gives : grant.new ≡ next
  pub rises : grant.old ≤ grant.new
  pub seen : h.version ≤ grant.old
  pub follows : (one : FileCall) → In one h.calls → (other : FileGrant) → Arrives h.kernel one other → h.version ≡ grant.old
  pub holding : Holding h.holds after writing h.version next grant
  pub active : (one : Open) → In one h.opened → Active h.kernel h.client.stamp h.client.mode h.calls
  pub opens : (one : Open) → In one opened → SameOpen one h.opened ⊎ (writes one.mode ≡ writing)
  pub known : (one : Open) → In one opened → (has_stream one.stream h.client.streams ≡ true) → SameOpen one h.opened
  pub known_coming : (one : Open) → In one opened → (call : FileCall) → In call h.calls → (other : FileGrant) → Arrives h.kernel call other → asked_stream call.body ≡ Some one.stream → SameOpen one h.opened
  pub kept : (one : Open) → In one h.opened → SameOpen one opened
  pub new_open : Open
  pub new_there : In new_open opened
  pub new_stream : new_open.stream ≡ stream
  pub new_writes : writes new_open.mode ≡ writing

pub holders_given : (h : Here) (top next : ℕ) (after writing : Bool) (grant : FileGrant) (new : FileCall) (stream : StreamNo) (opened : List Open) (ys : List FileCall) → LocalHolders h → Given h top next after writing grant new stream opened ys → LocalHolders (record h { current = top; version = next; mode = mode_of grant.on; holds = after; opened = opened; calls = ys })
holders_given h top next after writing grant new stream opened ys f t = record {
  seen_below = (let a = f.seen_below in let b = higher in omega (arith, a, b));
  chained = record {
    first = λ one m x a n o. elim (t.old one m) [ inl k ↦ f.chained.first one k x a n o | inr q ↦ (let e = same_new one x q a in let d : x.old ≡ grant.old = ap (λ (y : FileGrant). y.old) e in let s = f.seen_below in let l = t.seen in omega (arith, d, s, l)) ];
    rises = λ one m x a n. elim (t.old one m) [ inl k ↦ f.chained.rises one k x a n | inr q ↦ (let e = same_new one x q a in subst (λ (y : FileGrant). y.old ≤ y.new) (sym e) t.rises) ];
    under = λ one m x a n. elim (t.old one m) [ inl k ↦ (let l = f.chained.under one k x a n in let b = higher in omega (arith, l, b)) | inr q ↦ (let e : x.new ≡ grant.new = ap (λ (y : FileGrant). y.new) (same_new one x q a) in let g = t.gives in omega (arith, e, g)) ];
    linked = λ one m x a n o other k more c p r l. elim (t.old one m) [
      | inl i ↦ elim (t.old other k) [ inl j ↦ f.chained.linked one i x a n o other j more c p r l | inr q ↦ (let u = f.chained.under one i x a n in let e : more.old ≡ grant.old = ap (λ (y : FileGrant). y.old) (same_new other more q c) in let s = t.seen in omega (arith, u, e, s)) ]
      | inr q ↦ absurd (too_high one x q a other k more c l)
    ];
    joined = λ one m x a n o other k more c p r l none. elim (t.old one m) [
      | inl i ↦ elim (t.old other k) [
        | inl j ↦ f.chained.joined one i x a n o other j more c p r l (λ y z u s v. none y (t.stays y z u s) u s v)
        | inr q ↦ f.chained.last one i x a n o (λ y z u s v vo. elim (order x.stamp u.stamp) [ inl d ↦ (let b = none y (t.stays y z u s) u s v vo d in let e : more.stamp ≡ grant.stamp = ap (λ (y : FileGrant). y.stamp) (same_new other more q c) in let lo = t.low y z u s in let it = t.is_top in absurd (omega (arith, b, e, lo, it))) | inr d ↦ d ]) ∙ t.follows one i x a ∙ sym (ap (λ (y : FileGrant). y.old) (same_new other more q c))
      ]
      | inr q ↦ absurd (too_high one x q a other k more c l)
    ];
    last = λ one m x a n o all. elim (t.old one m) [ inl i ↦ (let b = all new t.there grant t.arrives own_low t.on in let lo = t.low one i x a in let it = t.is_top in absurd (omega (arith, b, lo, it))) | inr q ↦ ap (λ (y : FileGrant). y.new) (same_new one x q a) ∙ t.gives ];
  };
  at_version = λ one m o off. absurd (cc (t.on, off new t.there grant t.arrives own_low));
  writer_holds = λ one m r a. writer_holds one m r t.holding;
  holder_state = λ e. inr (inl mode_on, state e t.holding);
  holder_grants = λ one m x a n o e. elim (t.old one m) [ inl k ↦ by_mine (f.holder_grants one k x a n o e) t.holding | inr q ↦ by_grant (sym (ap (λ (y : FileGrant). y.holder) (same_new one x q a)) ∙ e) t.holding ];
  recall_ready = λ r. absurd (t.quiet r.call r.there r.to_kernel r.stamp Recall r.recalls);
  recall_on = λ one m to s e. absurd (t.quiet one m to s Recall e);
  recall_holds = λ one m to s e. absurd (t.quiet one m to s Recall e);
  writer_ready = λ a e. writer e t.holding;
  dirty_ready = λ one m q. ready (f.dirty_ready one m q) t.holding;
  dirty_unanswered = λ one m q k. t.quiet k.call k.there k.to_kernel k.stamp k.kind k.is_call;
  modes_agree = λ q. let l = t.own in absurd (omega (arith, q, l));
}
  where
    higher : h.version ≤ next
    higher = let a = t.seen in let b = t.rises in let c = t.gives in omega (arith, a, b, c)

    own_low : h.client.stamp < grant.stamp
    own_low = let a = t.own in let b = t.is_top in omega (arith, a, b)

    mode_on : is_on (mode_of grant.on) ≡ true
    mode_on = ap (λ b. is_on (mode_of b)) t.on

    same_new : (one : FileCall) (x : FileGrant) → one ≡ new → Arrives h.kernel one x → x ≡ grant
    same_new one x q a = cc ((subst (λ y. Arrives h.kernel y x) q a).1, t.arrives.1)

    too_high : (one : FileCall) (x : FileGrant) → one ≡ new → Arrives h.kernel one x → (other : FileCall) → In other ys → (more : FileGrant) → Arrives h.kernel other more → x.stamp < more.stamp → ⊥
    too_high one x q a other k more c l = elim (t.old other k) [
      | inl j ↦ (let lo = t.low other j more c in let it = t.is_top in let e : x.stamp ≡ grant.stamp = ap (λ (y : FileGrant). y.stamp) (same_new one x q a) in omega (arith, l, lo, it, e))
      | inr r ↦ (let e : x.stamp ≡ grant.stamp = ap (λ (y : FileGrant). y.stamp) (same_new one x q a) in let d : more.stamp ≡ grant.stamp = ap (λ (y : FileGrant). y.stamp) (same_new other more r c) in omega (arith, l, e, d))
    ]

    held_writer : (one : Open) → In one h.opened → writes one.mode ≡ true → h.holds ≡ true
    held_writer one m r = f.writer_holds one m r (t.active one m)

    writer_holds : (one : Open) → In one opened → writes one.mode ≡ true → Holding h.holds after writing h.version next grant → after ≡ true
    writer_holds one m r (Mine a b c d e) = e
    writer_holds one m r (Fresh a b c d e) = e
    writer_holds one m r (Plain a b c d) = absurd (elim (t.opens one m) [ inl s ↦ cc (a, held_writer s.other s.there (ap writes (sym s.mode_is) ∙ r)) | inr q ↦ cc (c, r, q) ])

    by_mine : h.holds ≡ true → Holding h.holds after writing h.version next grant → after ≡ true
    by_mine e (Mine a b c d g) = g
    by_mine e (Fresh a b c d g) = g
    by_mine e (Plain a b c d) = absurd (cc (a, e))

    by_grant : grant.holder ≡ true → Holding h.holds after writing h.version next grant → after ≡ true
    by_grant e (Mine a b c d g) = g
    by_grant e (Fresh a b c d g) = g
    by_grant e (Plain a b c d) = absurd (cc (b, e))

    new_keeps : grant.holder ≡ true → grant.old ≡ next → (x : FileGrant) → x ≡ grant → Keeps next x
    new_keeps b d x e = subst (Keeps next) (sym e) (record { on = t.on; holder = b; old = d; new = t.gives })

    ready : Ready h.kernel h.client.stamp h.client.version h.version h.holds h.client.mode h.calls → Holding h.holds after writing h.version next grant → Ready h.kernel h.client.stamp h.client.version next after h.client.mode ys
    ready r (Mine a b c d e) = record {
      holds_it = e;
      on = r.on;
      at_version = r.at_version ∙ sym c;
      newer = λ one m x i n. elim (t.old one m) [ inl k ↦ subst (λ v. Keeps v x) (sym c) (r.newer one k x i n) | inr q ↦ new_keeps b d x (same_new one x q i) ];
    }
    ready r (Fresh a b c d e) = absurd (cc (a, r.holds_it))
    ready r (Plain a b c d) = absurd (cc (a, r.holds_it))

    coming : Coming h.kernel h.client.stamp h.client.version h.version h.opened h.calls → grant.holder ≡ true → next ≡ h.version → grant.old ≡ next → Coming h.kernel h.client.stamp h.client.version next opened ys
    coming c b e d =
        let s : SameOpen c.writer opened = t.kept c.writer c.has_open in
        record {
          call = c.call;
          grant = c.grant;
          is_newer = (t.stays c.call c.is_newer.0 c.grant c.is_newer.1, c.is_newer.1, c.is_newer.2);
          on = c.on;
          gives = c.gives ∙ sym e;
          plain = c.plain;
          before = λ one m x a n o l. elim (t.old one m) [
            | inl k ↦ (let r = c.before one k x a n o l in (r.0, subst (λ v. x.new < v) (sym e) r.1, λ y j w. let p : SameOpen y h.opened = t.known_coming y j one k x a w in ap writes p.mode_is ∙ r.2 p.other p.there (w ∙ ap Some p.stream_is)))
            | inr q ↦ (let z : x.stamp ≡ grant.stamp = ap (λ (y : FileGrant). y.stamp) (same_new one x q a) in let lo = t.low c.call c.is_newer.0 c.grant c.is_newer.1 in let it = t.is_top in absurd (omega (arith, l, z, lo, it)))
          ];
          behind = λ one m x a n o l. elim (t.old one m) [ inl k ↦ subst (λ v. Keeps v x) (sym e) (c.behind one k x a n o l) | inr q ↦ new_keeps b d x (same_new one x q a) ];
          older = subst (λ v. h.client.version < v) (sym e) c.older;
          writer = s.other;
          has_open = s.there;
          writing = ap writes (sym s.mode_is) ∙ c.writing;
          asked = c.asked ∙ ap Some s.stream_is;
        }

    reading : h.holds ≡ false → (one : Open) → In one h.opened → writes one.mode ≡ false
    reading a one m = elim (bool_cases (writes one.mode)) [ inl r ↦ absurd (cc (a, held_writer one m r)) | inr r ↦ r ]

    not_holder : h.holds ≡ false → (one : FileCall) → In one h.calls → (x : FileGrant) → Arrives h.kernel one x → h.client.stamp < x.stamp → x.on ≡ true → x.holder ≡ false
    not_holder a one m x i n o = elim (bool_cases x.holder) [ inl r ↦ absurd (cc (a, f.holder_grants one m x i n o r)) | inr r ↦ r ]

    fresh : h.holds ≡ false → grant.holder ≡ false → writing ≡ true → h.version < next → Coming h.kernel h.client.stamp h.client.version next opened ys
    fresh a b c d = record {
      call = new;
      grant = grant;
      is_newer = (t.there, t.arrives, own_low);
      on = t.on;
      gives = t.gives;
      plain = b;
      before = λ one m x i n o l. elim (t.old one m) [
        | inl k ↦ (not_holder a one k x i n o, (let u = f.chained.under one k x i n in omega (arith, u, d)), λ y j w. let p : SameOpen y h.opened = t.known_coming y j one k x i w in ap writes p.mode_is ∙ reading a p.other p.there)
        | inr q ↦ (let z : x.stamp ≡ grant.stamp = ap (λ (y : FileGrant). y.stamp) (same_new one x q i) in absurd (omega (arith, l, z)))
      ];
      behind = λ one m x i n o l. elim (t.old one m) [ inl k ↦ (let lo = t.low one k x i in let it = t.is_top in absurd (omega (arith, l, lo, it))) | inr q ↦ (let z : x.stamp ≡ grant.stamp = ap (λ (y : FileGrant). y.stamp) (same_new one x q i) in absurd (omega (arith, l, z))) ];
      older = (let s = f.seen_below in omega (arith, s, d));
      writer = t.new_open;
      has_open = t.new_there;
      writing = t.new_writes ∙ c;
      asked = t.asked ∙ ap Some (sym t.new_stream);
    }

    state : after ≡ true → Holding h.holds after writing h.version next grant → Ready h.kernel h.client.stamp h.client.version next after h.client.mode ys ⊎ Coming h.kernel h.client.stamp h.client.version next opened ys
    state e (Mine a b c d g) = elim (f.holder_state a) [ inl k ↦ absurd (t.unanswered k) | inr k ↦ elim k.1 [ inl r ↦ inl (ready r (Mine a b c d g)) | inr w ↦ inr (coming w b c d) ] ]
    state e (Fresh a b c d g) = inr (fresh a b c d)
    state e (Plain a b c d) = absurd (cc (e, d))

    writer : EngagedToWrite h.kernel h.client.stamp h.client.streams opened ys → Holding h.holds after writing h.version next grant → Ready h.kernel h.client.stamp h.client.version next after h.client.mode ys
    writer e k = elim e.works [
      | inl p ↦ (let s : SameOpen e.one h.opened = t.known e.one e.there p in ready (f.writer_ready (t.active s.other s.there) (record { one = s.other; there = s.there; writing = ap writes (sym s.mode_is) ∙ e.writing; works = inl (subst (λ x. has_stream x h.client.streams ≡ true) s.stream_is p) })) k)
      | inr p ↦ elim (t.old p.comes.call p.comes.there) [
        | inl j ↦ (let s : SameOpen e.one h.opened = t.known_coming e.one e.there p.comes.call j p.comes.grant p.comes.arrives p.that in ready (f.writer_ready (t.active s.other s.there) (record { one = s.other; there = s.there; writing = ap writes (sym s.mode_is) ∙ e.writing; works = inr (record { comes = record { call = p.comes.call; grant = p.comes.grant; there = j; arrives = p.comes.arrives; old = p.comes.old }; that = p.that ∙ ap Some s.stream_is }) })) k)
        | inr q ↦ (let z : p.comes.grant.stamp ≡ grant.stamp = ap (λ (y : FileGrant). y.stamp) (same_new p.comes.call p.comes.grant q p.comes.arrives) in let o = p.comes.old in let l = own_low in absurd (omega (arith, z, o, l)))
      ]
    ]
