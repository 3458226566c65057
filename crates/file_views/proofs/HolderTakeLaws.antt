-- The sixth layer of soundness, said of one kernel's part of a view, where grants and callbacks are taken.
use Rattle.std.proofs.Common.{◌≡◌, ◌≤◌, ◌<◌, ◌⊎◌, ℕ, nat_le, Bool, true, false, List, refl, sym, ap, ◌∙◌, subst, inl, inr, arith, leb-true, leb-false}
use Rattle.sprite_ids.specs.declared.StreamNo.{StreamNo}
use Rattle.sprite_ids.specs.declared.CacheMode.{CacheMode}
use Rattle.sprite_ids.specs.declared.CacheMode.TheVariants as cache
use Rattle.sprite_ids.specs.declared.CallKind.{CallKind}
use Rattle.sprite_ids.specs.declared.CallKind.TheVariants.{Recall, Stop}
use Rattle.file_views.specs.declared.grant.FileGrant.{FileGrant}
use Rattle.file_views.specs.declared.body.FileBody.TheVariants as form
use Rattle.file_views.specs.declared.opens.Open.{Open}
use Rattle.file_views.specs.declared.client.Client.{Client}
use Rattle.file_views.specs.declared.call.FileCall.{FileCall}
use Rattle.file_views.specs.Streams.{has_stream, writes}
use Rattle.file_views.specs.Clients.{is_on, mode_of, mode_after}
use Rattle.file_views.specs.Grants.{mode_called}
use Rattle.file_views.specs.Here.{In, Here, Arrives, asked_stream, Stopped, Recalled, Answered}
use Rattle.file_views.specs.SoundModes.{SameNewer, LocalModes}
use Rattle.file_views.specs.SoundHolders.{Active, ThatComes, EngagedToWrite, Keeps, Ready, Coming, LocalHolders}
use Rattle.file_views.proofs.CountLaws.{bool_cases}
use Rattle.file_views.proofs.HolderLaws.{Came, CallAt, Arrivals, Ways, ready_back, active_back, that_back, engaged_back, recalled_back, answered_back, given_on, coming_on, chained_ways, DirtyIn, SameOpen}

-- two orders
pub order : (m n : ℕ) → (m < n) ⊎ (n ≤ m)
order m n = by_test (nat_le n m) refl
  where
    by_test : (b : Bool) → nat_le n m ≡ b → (m < n) ⊎ (n ≤ m)
    by_test true e = inr (leb-true n m e)
    by_test false e = inl (leb-false n m e)

on_of : (on : Bool) → is_on (mode_of on) ≡ true → on ≡ true
on_of true e = refl
on_of false e = absurd (cc (e))

-- a kernel takes a newer grant
pub record Took (h : Here) (d : Client) (ys : List FileCall) (grant : FileGrant) : Type 0 where
  pub source : SameNewer h.kernel h.client.stamp h.calls grant
  pub unanswered : Answered h.kernel h.calls → ⊥
  pub one_stamp : (one other : FileCall) → In one h.calls → In other h.calls → (first second : FileGrant) → Arrives h.kernel one first → Arrives h.kernel other second → first.stamp ≡ second.stamp → first ≡ second
  pub stamp : d.stamp ≡ grant.stamp
  pub version : d.version ≡ grant.new
  pub mode : d.mode ≡ mode_of grant.on
  pub streams : (stream : StreamNo) → has_stream stream d.streams ≡ true → (has_stream stream h.client.streams ≡ true) ⊎ ThatComes h.kernel grant.stamp h.calls stream
  pub blocks : DirtyIn d.blocks → DirtyIn h.client.blocks
  pub ways : Ways h.kernel d.stamp h.holds h.calls ys

pub holders_took : (h : Here) (d : Client) (ys : List FileCall) (grant : FileGrant) → LocalHolders h → LocalModes h → Took h d ys grant → LocalHolders (record h { client = d; calls = ys })
holders_took h d ys grant f modes t = record {
  seen_below = (let a = f.chained.under call there g arrives newer in let b = t.version in omega (arith, a, b, same_new));
  chained = record {
    first = λ one m x a n o. first one m x a n o;
    rises = λ one m x a n. let b : Came h.kernel x (asked_stream one.body) h.calls = w.back one m x a in f.chained.rises b.call b.there x b.arrives (over n);
    under = λ one m x a n. let b : Came h.kernel x (asked_stream one.body) h.calls = w.back one m x a in f.chained.under b.call b.there x b.arrives (over n);
    linked = λ one m x a n o other k more c p q l. let b : Came h.kernel x (asked_stream one.body) h.calls = w.back one m x a in let e : Came h.kernel more (asked_stream other.body) h.calls = w.back other k more c in f.chained.linked b.call b.there x b.arrives (over n) o e.call e.there more e.arrives (over p) q l;
    joined = λ one m x a n o other k more c p q l none. let b : Came h.kernel x (asked_stream one.body) h.calls = w.back one m x a in let e : Came h.kernel more (asked_stream other.body) h.calls = w.back other k more c in f.chained.joined b.call b.there x b.arrives (over n) o e.call e.there more e.arrives (over p) q l
        (λ y j z s u bo bt. let high : d.stamp < z.stamp = omega (arith, n, bt) in let r : Came h.kernel z (asked_stream y.body) ys = w.on y j z s high in none r.call r.there z r.arrives high bo bt);
    last = λ one m x a n o all. let b : Came h.kernel x (asked_stream one.body) h.calls = w.back one m x a in f.chained.last b.call b.there x b.arrives (over n) o
        (λ y j z s u zo. elim (order x.stamp z.stamp) [ inl k ↦ (let high : d.stamp < z.stamp = omega (arith, n, k) in let r : Came h.kernel z (asked_stream y.body) ys = w.on y j z s high in all r.call r.there z r.arrives high zo) | inr k ↦ k ]);
  };
  at_version = λ one m o off. t.version ∙ sym same_new ∙ f.chained.last call there g arrives newer (is_on_by o) (λ y j z s u zo. elim (order g.stamp z.stamp) [ inl k ↦ (let e = t.stamp in let high : d.stamp < z.stamp = omega (arith, k, e, same_stamp) in let r : Came h.kernel z (asked_stream y.body) ys = w.on y j z s high in absurd (cc (off r.call r.there z r.arrives high, zo))) | inr k ↦ k ]);
  writer_holds = λ one m r a. f.writer_holds one m r (active a);
  holder_state = λ e. elim (f.holder_state e) [ inl a ↦ absurd (t.unanswered a) | inr b ↦ inr (given_on h.kernel d.stamp h.holds h.mode h.calls ys t.ways e b.0, elim b.1 [ inl r ↦ inl (ready r) | inr c ↦ coming e c (order g.stamp c.grant.stamp) ]) ];
  holder_grants = λ one m x a n o e. let b : Came h.kernel x (asked_stream one.body) h.calls = w.back one m x a in f.holder_grants b.call b.there x b.arrives (over n) o e;
  recall_ready = λ r. ready (f.recall_ready (recalled_back h.kernel d.stamp h.holds h.calls ys t.ways r));
  recall_on = λ one m to s e. let c : CallAt h.kernel s Recall one.taken h.calls = t.ways.called one m to s Recall e in f.recall_on c.call c.there c.to_kernel s c.is_call;
  recall_holds = λ one m to s e. let c : CallAt h.kernel s Recall one.taken h.calls = t.ways.called one m to s Recall e in f.recall_holds c.call c.there c.to_kernel s c.is_call;
  writer_ready = λ a e. let held = f.writer_holds e.one e.there e.writing (active a) in elim (f.holder_state held) [ inl k ↦ absurd (t.unanswered k) | inr b ↦ elim b.1 [ inl r ↦ ready r | inr c ↦ writer held a e c (order g.stamp c.grant.stamp) ] ];
  dirty_ready = λ one m q. let b : DirtyIn h.client.blocks = t.blocks (record { one = one; there = m; dirty = q }) in ready (f.dirty_ready b.one b.there b.dirty);
  dirty_unanswered = λ one m q k. t.unanswered (answered_back h.kernel d.stamp h.holds h.calls ys t.ways k);
  modes_agree = λ q. let e : g.stamp ≡ h.current = same_stamp ∙ sym t.stamp ∙ q in t.mode ∙ sym (ap mode_of same_on) ∙ sym (modes.given_mode (record g { size = 0 }) (modes.given_last call there g arrives newer e) e);
}
  where
    w : Arrivals h.kernel d.stamp h.calls ys
    w = t.ways.arrivals

    call : FileCall
    call = t.source.call

    g : FileGrant
    g = t.source.newer

    there : In t.source.call h.calls
    there = t.source.is_newer.0

    arrives : Arrives h.kernel t.source.call t.source.newer
    arrives = t.source.is_newer.1

    newer : h.client.stamp < t.source.newer.stamp
    newer = t.source.is_newer.2

    same_stamp : t.source.newer.stamp ≡ grant.stamp
    same_stamp = ap (λ (x : FileGrant). x.stamp) t.source.same

    same_new : t.source.newer.new ≡ grant.new
    same_new = ap (λ (x : FileGrant). x.new) t.source.same

    same_on : t.source.newer.on ≡ grant.on
    same_on = ap (λ (x : FileGrant). x.on) t.source.same

    over : {n : ℕ} → d.stamp < n → h.client.stamp < n
    over {n} l = let a = newer in let b = same_stamp in let c = t.stamp in omega (arith, l, a, b, c)

    is_on_by : is_on d.mode ≡ true → t.source.newer.on ≡ true
    is_on_by o = same_on ∙ on_of grant.on (sym (ap is_on t.mode) ∙ o)

    -- where one that is newer is On, this is
    on_with : (x : FileCall) → In x h.calls → (y : FileGrant) → Arrives h.kernel x y → h.client.stamp < y.stamp → y.on ≡ true → t.source.newer.on ≡ true
    on_with x m y a n o = elim (bool_cases t.source.newer.on) [ inl k ↦ k | inr k ↦ absurd (cc (o, modes.off_later t.source.call there t.source.newer arrives newer k x m y a n)) ]

    first : (one : FileCall) → In one ys → (x : FileGrant) → Arrives h.kernel one x → d.stamp < x.stamp → x.on ≡ true → d.version ≤ x.old
    first one m x a n o =
        let b : Came h.kernel x (asked_stream one.body) h.calls = w.back one m x a in
        let e = t.stamp in
        let s = same_stamp in
        let l = f.chained.linked t.source.call there t.source.newer arrives newer (on_with b.call b.there x b.arrives (over n) o) b.call b.there x b.arrives (over n) o (omega (arith, n, e, s)) in
        let v = t.version in
        let k = same_new in
        omega (arith, l, v, k)

    active : Active h.kernel d.stamp d.mode ys → Active h.kernel h.client.stamp h.client.mode h.calls
    active (inl o) = inr (record { call = t.source.call; grant = t.source.newer; is_newer = (there, arrives, newer); on = is_on_by o })
    active (inr o) = let b : Came h.kernel o.grant (asked_stream o.call.body) h.calls = w.back o.call o.is_newer.0 o.grant o.is_newer.1 in inr (record { call = b.call; grant = o.grant; is_newer = (b.there, b.arrives, over o.is_newer.2); on = o.on })

    -- it may write where it is the holder, the grant gives the server's version and each newer one keeps it
    ready_by : h.holds ≡ true → t.source.newer.on ≡ true → t.source.newer.new ≡ h.version → ((one : FileCall) → In one h.calls → (x : FileGrant) → Arrives h.kernel one x → d.stamp < x.stamp → Keeps h.version x) → Ready h.kernel d.stamp d.version h.version h.holds d.mode ys
    ready_by e o n k = record {
      holds_it = e;
      on = ap is_on (t.mode ∙ ap mode_of (sym same_on ∙ o));
      at_version = t.version ∙ sym same_new ∙ n;
      newer = λ one m x a l. let b : Came h.kernel x (asked_stream one.body) h.calls = w.back one m x a in k b.call b.there x b.arrives l;
    }

    ready : Ready h.kernel h.client.stamp h.client.version h.version h.holds h.client.mode h.calls → Ready h.kernel d.stamp d.version h.version h.holds d.mode ys
    ready r = let k : Keeps h.version t.source.newer = r.newer t.source.call there t.source.newer arrives newer in ready_by r.holds_it k.on k.new (λ one m x a l. r.newer one m x a (over l))

    on_all : (c : Coming h.kernel h.client.stamp h.client.version h.version h.opened h.calls) → (x : FileCall) → In x h.calls → (y : FileGrant) → Arrives h.kernel x y → h.client.stamp < y.stamp → y.on ≡ true
    on_all c x m y a n = elim (bool_cases y.on) [ inl k ↦ k | inr k ↦ absurd (cc (c.on, modes.off_later x m y a n k c.call c.is_newer.0 c.grant c.is_newer.1 c.is_newer.2)) ]

    -- the grant that made it the holder, or one behind it
    later : h.holds ≡ true → (c : Coming h.kernel h.client.stamp h.client.version h.version h.opened h.calls) → c.grant.stamp ≤ t.source.newer.stamp → Ready h.kernel d.stamp d.version h.version h.holds d.mode ys
    later e c l = ready_by e (on_all c t.source.call there t.source.newer arrives newer) (given (order c.grant.stamp t.source.newer.stamp)) (λ one m x a n. c.behind one m x a (over n) (on_all c one m x a (over n)) (let s = same_stamp in let k = t.stamp in omega (arith, l, n, s, k)))
      where
        given : (c.grant.stamp < t.source.newer.stamp) ⊎ (t.source.newer.stamp ≤ c.grant.stamp) → t.source.newer.new ≡ h.version
        given (inl k) = (c.behind t.source.call there t.source.newer arrives newer (on_all c t.source.call there t.source.newer arrives newer) k).new
        given (inr k) = ap (λ (x : FileGrant). x.new) (t.one_stamp t.source.call c.call there c.is_newer.0 t.source.newer c.grant arrives c.is_newer.1 (omega (arith, k, l))) ∙ c.gives

    coming : h.holds ≡ true → (c : Coming h.kernel h.client.stamp h.client.version h.version h.opened h.calls) → (t.source.newer.stamp < c.grant.stamp) ⊎ (c.grant.stamp ≤ t.source.newer.stamp) → Ready h.kernel d.stamp d.version h.version h.holds d.mode ys ⊎ Coming h.kernel d.stamp d.version h.version h.opened ys
    coming e c (inr l) = inl (later e c l)
    coming e c (inl l) =
        let high : d.stamp < c.grant.stamp = (let s = same_stamp in let k = t.stamp in omega (arith, l, s, k)) in
        let k : Came h.kernel c.grant (asked_stream c.call.body) ys = w.on c.call c.is_newer.0 c.grant c.is_newer.1 high in
        inr (record {
          call = k.call;
          grant = c.grant;
          is_newer = (k.there, k.arrives, high);
          on = c.on;
          gives = c.gives;
          plain = c.plain;
          before = λ one m x a n o q. let b : Came h.kernel x (asked_stream one.body) h.calls = w.back one m x a in let r = c.before b.call b.there x b.arrives (over n) o q in (r.0, r.1, λ y j s. r.2 y j (b.same ∙ s));
          behind = λ one m x a n o q. let b : Came h.kernel x (asked_stream one.body) h.calls = w.back one m x a in c.behind b.call b.there x b.arrives (over n) o q;
          older = (let r = (c.before t.source.call there t.source.newer arrives newer (on_all c t.source.call there t.source.newer arrives newer) l).1 in let v = t.version in let s = same_new in omega (arith, r, v, s));
          writer = c.writer;
          has_open = c.has_open;
          writing = c.writing;
          asked = k.same ∙ c.asked;
        })

    -- a stream to write with doesn't come before that grant
    too_early : (c : Coming h.kernel h.client.stamp h.client.version h.version h.opened h.calls) → Active h.kernel h.client.stamp h.client.mode h.calls → EngagedToWrite h.kernel h.client.stamp h.client.streams h.opened h.calls → ⊥
    too_early c a e = let r : Ready h.kernel h.client.stamp h.client.version h.version h.holds h.client.mode h.calls = f.writer_ready a e in let l = c.older in let q = r.at_version in omega (arith, l, q)

    comes_early : (c : Coming h.kernel h.client.stamp h.client.version h.version h.opened h.calls) → t.source.newer.stamp < c.grant.stamp → Active h.kernel h.client.stamp h.client.mode h.calls → (one : Open) → In one h.opened → writes one.mode ≡ true → ThatComes h.kernel grant.stamp h.calls one.stream → ⊥
    comes_early c l a one m r k = elim (order h.client.stamp k.comes.grant.stamp) [
      | inl n ↦ (let p = c.before k.comes.call k.comes.there k.comes.grant k.comes.arrives n (on_all c k.comes.call k.comes.there k.comes.grant k.comes.arrives n) (let old = k.comes.old in let s = same_stamp in omega (arith, old, s, l)) in cc (p.2 one m k.that, r))
      | inr n ↦ too_early c a (record { one = one; there = m; writing = r; works = inr (record { comes = record { call = k.comes.call; grant = k.comes.grant; there = k.comes.there; arrives = k.comes.arrives; old = n }; that = k.that }) })
    ]

    writer : h.holds ≡ true → Active h.kernel d.stamp d.mode ys → EngagedToWrite h.kernel d.stamp d.streams h.opened ys → (c : Coming h.kernel h.client.stamp h.client.version h.version h.opened h.calls) → (t.source.newer.stamp < c.grant.stamp) ⊎ (c.grant.stamp ≤ t.source.newer.stamp) → Ready h.kernel d.stamp d.version h.version h.holds d.mode ys
    writer held a e c (inr l) = later held c l
    writer held a e c (inl l) = absurd (elim e.works [
      | inl k ↦ elim (t.streams e.one.stream k) [ inl p ↦ too_early c (active a) (record { one = e.one; there = e.there; writing = e.writing; works = inl p }) | inr p ↦ comes_early c l (active a) e.one e.there e.writing p ]
      | inr k ↦ (let b : ThatComes h.kernel d.stamp h.calls e.one.stream = that_back h.kernel d.stamp d.stamp h.calls ys e.one.stream w k in comes_early c l (active a) e.one e.there e.writing (subst (λ n. ThatComes h.kernel n h.calls e.one.stream) t.stamp b))
    ])

-- a kernel takes a callback and answers it
pub record Flushed (h : Here) (d : Client) (ys : List FileCall) (kind : CallKind) : Type 0 where
  pub answered : Answered h.kernel ys
  pub low : (one : FileCall) → In one ys → (grant : FileGrant) → Arrives h.kernel one grant → grant.stamp ≤ h.current
  pub stamp : d.stamp ≡ h.current
  pub version : d.version ≡ h.client.version
  pub mode : d.mode ≡ mode_after h.client.mode kind
  pub clean : DirtyIn d.blocks → ⊥
  pub recall : kind ≡ Recall → Recalled h.kernel h.calls
  pub stop : kind ≡ Stop → h.mode ≡ cache.Off
  pub no_recall : Recalled h.kernel ys → ⊥
  pub recall_only : (one : FileCall) → In one ys → one.to ≡ h.kernel → (stamp : ℕ) → one.body ≡ form.Callback stamp Recall → kind ≡ Recall

on_is : (mode : CacheMode) → is_on mode ≡ true → mode ≡ cache.On
on_is cache.On e = refl
on_is cache.Off e = absurd (cc (e))
on_is cache.None e = absurd (cc (e))

pub holders_flushed : (h : Here) (d : Client) (ys : List FileCall) (kind : CallKind) → LocalHolders h → Flushed h d ys kind → LocalHolders (record h { client = d; calls = ys })
holders_flushed h d ys kind f t = record {
  seen_below = (let a = f.seen_below in let b = t.version in omega (arith, a, b));
  chained = record {
    first = λ one m x a n o. absurd (none one m x a n);
    rises = λ one m x a n. absurd (none one m x a n);
    under = λ one m x a n. absurd (none one m x a n);
    linked = λ one m x a n. absurd (none one m x a n);
    joined = λ one m x a n. absurd (none one m x a n);
    last = λ one m x a n. absurd (none one m x a n);
  };
  at_version = λ one m o off. (ready (recall_by kind refl o)).at_version;
  writer_holds = λ one m r a. (by_active a).holds_it;
  holder_state = λ e. inl t.answered;
  holder_grants = λ one m x a n. absurd (none one m x a n);
  recall_ready = λ r. absurd (t.no_recall r);
  recall_on = λ one m to s e. let r : Recalled h.kernel h.calls = t.recall (t.recall_only one m to s e) in f.recall_on r.call r.there r.to_kernel r.stamp r.recalls;
  recall_holds = λ one m to s e. (f.recall_ready (t.recall (t.recall_only one m to s e))).holds_it;
  writer_ready = λ a e. by_active a;
  dirty_ready = λ one m q. absurd (t.clean (record { one = one; there = m; dirty = q }));
  dirty_unanswered = λ one m q k. t.clean (record { one = one; there = m; dirty = q });
  modes_agree = λ q. agrees kind refl;
}
  where
    none : (one : FileCall) → In one ys → (x : FileGrant) → Arrives h.kernel one x → d.stamp < x.stamp → ⊥
    none one m x a n = let l = t.low one m x a in let e = t.stamp in omega (arith, l, n, e)

    recall_by : (k : CallKind) → kind ≡ k → is_on d.mode ≡ true → kind ≡ Recall
    recall_by Recall e o = e
    recall_by Stop e o = absurd (cc (o, ap is_on (t.mode ∙ ap (mode_after h.client.mode) e)))

    ready : kind ≡ Recall → Ready h.kernel d.stamp d.version h.version h.holds d.mode ys
    ready k =
        let r : Ready h.kernel h.client.stamp h.client.version h.version h.holds h.client.mode h.calls = f.recall_ready (t.recall k) in
        record { holds_it = r.holds_it; on = ap is_on (t.mode ∙ ap (mode_after h.client.mode) k) ∙ r.on; at_version = t.version ∙ r.at_version; newer = λ one m x a n. absurd (none one m x a n) }

    by_active : Active h.kernel d.stamp d.mode ys → Ready h.kernel d.stamp d.version h.version h.holds d.mode ys
    by_active (inl o) = ready (recall_by kind refl o)
    by_active (inr o) = absurd (none o.call o.is_newer.0 o.grant o.is_newer.1 o.is_newer.2)

    agrees : (k : CallKind) → kind ≡ k → d.mode ≡ h.mode
    agrees Recall e = let r : Recalled h.kernel h.calls = t.recall e in on_is d.mode (ready e).on ∙ sym (on_is h.mode (f.recall_on r.call r.there r.to_kernel r.stamp r.recalls))
    agrees Stop e = t.mode ∙ ap (mode_after h.client.mode) e ∙ sym (t.stop e)

-- a callback goes out to a kernel
pub record CalledOut (h : Here) (ys : List FileCall) (top : ℕ) (kind : CallKind) : Type 0 where
  pub arrivals : Arrivals h.kernel h.client.stamp h.calls ys
  pub quiet : (one : FileCall) → In one h.calls → one.to ≡ h.kernel → (stamp : ℕ) (other : CallKind) → one.body ≡ form.Callback stamp other → ⊥
  pub only : (one : FileCall) → In one ys → one.to ≡ h.kernel → (stamp : ℕ) (other : CallKind) → one.body ≡ form.Callback stamp other → (other ≡ kind) × (one.taken ≡ false)
  pub stops : kind ≡ Stop → Stopped h.kernel ys
  pub newer : h.client.stamp < top
  pub recall : kind ≡ Recall → Ready h.kernel h.client.stamp h.client.version h.version h.holds h.client.mode h.calls × (is_on h.mode ≡ true)

pub holders_called : (h : Here) (ys : List FileCall) (top : ℕ) (kind : CallKind) → LocalHolders h → CalledOut h ys top kind → LocalHolders (record h { current = top; mode = mode_called h.mode kind; calls = ys })
holders_called h ys top kind f t = record {
  seen_below = f.seen_below;
  chained = chained_ways h.kernel h.client.stamp h.client.version h.version h.calls ys t.arrivals f.chained;
  at_version = λ one m o off. f.at_version one m o (λ x j g s n. let c : Came h.kernel g (asked_stream x.body) ys = t.arrivals.on x j g s n in off c.call c.there g c.arrives n);
  writer_holds = λ one m r a. f.writer_holds one m r (active_back h.kernel h.client.stamp h.client.stamp h.client.mode h.calls ys t.arrivals a);
  holder_state = λ e. elim (f.holder_state e) [
    | inl a ↦ absurd (t.quiet a.call a.there a.to_kernel a.stamp a.kind a.is_call)
    | inr b ↦ inr (given kind refl b.0, elim b.1 [ inl r ↦ inl (back r) | inr c ↦ inr (coming_on h.kernel h.client.stamp h.client.version h.version h.opened h.calls ys t.arrivals c) ])
  ];
  holder_grants = λ one m x a n o e. let b : Came h.kernel x (asked_stream one.body) h.calls = t.arrivals.back one m x a in f.holder_grants b.call b.there x b.arrives n o e;
  recall_ready = λ r. back (t.recall (sym (t.only r.call r.there r.to_kernel r.stamp Recall r.recalls).0)).0;
  recall_on = λ one m to s e. let k : kind ≡ Recall = sym (t.only one m to s Recall e).0 in ap (λ x. is_on (mode_called h.mode x)) k ∙ (t.recall k).1;
  recall_holds = λ one m to s e. (t.recall (sym (t.only one m to s Recall e).0)).0.holds_it;
  writer_ready = λ a e. back (f.writer_ready (active_back h.kernel h.client.stamp h.client.stamp h.client.mode h.calls ys t.arrivals a) (engaged_back h.kernel h.client.stamp h.client.stamp h.client.streams h.opened h.calls ys t.arrivals e));
  dirty_ready = λ one m q. back (f.dirty_ready one m q);
  dirty_unanswered = λ one m q k. cc ((t.only k.call k.there k.to_kernel k.stamp k.kind k.is_call).1, k.taken);
  modes_agree = λ q. let n = t.newer in absurd (omega (arith, q, n));
}
  where
    back : Ready h.kernel h.client.stamp h.client.version h.version h.holds h.client.mode h.calls → Ready h.kernel h.client.stamp h.client.version h.version h.holds h.client.mode ys
    back r = ready_back h.kernel h.client.stamp h.client.version h.version h.client.stamp h.holds h.client.mode h.calls ys t.arrivals r

    given : (k : CallKind) → kind ≡ k → (is_on h.mode ≡ true) ⊎ Stopped h.kernel h.calls → (is_on (mode_called h.mode kind) ≡ true) ⊎ Stopped h.kernel ys
    given Recall e (inl o) = inl (ap (λ x. is_on (mode_called h.mode x)) e ∙ o)
    given Stop e (inl o) = inr (t.stops e)
    given k e (inr s) = absurd (t.quiet s.call s.there s.to_kernel s.stamp Stop s.stops)

-- a kernel's answer to a callback comes: it is the holder no more
pub record Unheld (h : Here) (opened : List Open) (ys : List FileCall) : Type 0 where
  pub arrivals : Arrivals h.kernel h.client.stamp h.calls ys
  pub called : (one : FileCall) → In one ys → one.to ≡ h.kernel → (stamp : ℕ) (kind : CallKind) → one.body ≡ form.Callback stamp kind → CallAt h.kernel stamp kind one.taken h.calls
  pub opens : (one : Open) → In one opened → SameOpen one h.opened
  pub no_writer : (one : Open) → In one opened → writes one.mode ≡ true → Active h.kernel h.client.stamp h.client.mode h.calls → ⊥
  pub no_recall : (one : FileCall) → In one ys → one.to ≡ h.kernel → (stamp : ℕ) → one.body ≡ form.Callback stamp Recall → ⊥
  pub no_grant : (one : FileCall) → In one h.calls → (grant : FileGrant) → Arrives h.kernel one grant → h.client.stamp < grant.stamp → grant.on ≡ true → grant.holder ≡ true → ⊥
  pub clean : DirtyIn h.client.blocks → ⊥

pub holders_unheld : (h : Here) (opened : List Open) (ys : List FileCall) → LocalHolders h → Unheld h opened ys → LocalHolders (record h { holds = false; opened = opened; calls = ys })
holders_unheld h opened ys f t = record {
  seen_below = f.seen_below;
  chained = chained_ways h.kernel h.client.stamp h.client.version h.version h.calls ys t.arrivals f.chained;
  at_version = λ one m o off. let b : SameOpen one h.opened = t.opens one m in f.at_version b.other b.there o (λ x j g s n. let c : Came h.kernel g (asked_stream x.body) ys = t.arrivals.on x j g s n in off c.call c.there g c.arrives n);
  writer_holds = λ one m r a. absurd (t.no_writer one m r (active_back h.kernel h.client.stamp h.client.stamp h.client.mode h.calls ys t.arrivals a));
  holder_state = λ e. absurd (cc (e));
  holder_grants = λ one m x a n o e. let b : Came h.kernel x (asked_stream one.body) h.calls = t.arrivals.back one m x a in absurd (t.no_grant b.call b.there x b.arrives n o e);
  recall_ready = λ r. absurd (t.no_recall r.call r.there r.to_kernel r.stamp r.recalls);
  recall_holds = λ one m to s e. absurd (t.no_recall one m to s e);
  recall_on = λ one m to s e. let c : CallAt h.kernel s Recall one.taken h.calls = t.called one m to s Recall e in f.recall_on c.call c.there c.to_kernel s c.is_call;
  writer_ready = λ a e. absurd (t.no_writer e.one e.there e.writing (active_back h.kernel h.client.stamp h.client.stamp h.client.mode h.calls ys t.arrivals a));
  dirty_ready = λ one m q. absurd (t.clean (record { one = one; there = m; dirty = q }));
  dirty_unanswered = λ one m q k. t.clean (record { one = one; there = m; dirty = q });
  modes_agree = f.modes_agree;
}
