-- The sixth layer of soundness, said of one kernel's part of a view, and under changes that give and take no grant.
use Rattle.std.proofs.Common.{◌≡◌, ◌≢◌, ◌<◌, ◌⊎◌, ℕ, ◌==◌, Bool, true, false, is_some, List, length, Option, Some, refl, sym, ap, ◌∙◌, subst, inl, inr, eq-eqb}
use Rattle.sprite_ids.specs.declared.StreamNo.{StreamNo}
use Rattle.sprite_ids.specs.declared.CacheMode.{CacheMode}
use Rattle.sprite_ids.specs.declared.CallKind.{CallKind}
use Rattle.sprite_ids.specs.declared.CallKind.TheVariants.{Recall, Stop}
use Rattle.file_views.specs.declared.grant.FileGrant.{FileGrant}
use Rattle.file_views.specs.declared.body.FileBody.TheVariants as form
use Rattle.file_views.specs.declared.opens.Open.{Open}
use Rattle.file_views.specs.declared.client.Held.{Held}
use Rattle.file_views.specs.declared.client.Client.{Client}
use Rattle.file_views.specs.declared.call.FileCall.{FileCall}
use Rattle.file_views.specs.declared.view.View.{View}
use Rattle.file_views.specs.Streams.{has_stream, writes, is_write_shared}
use Rattle.file_views.specs.Clients.{is_on}
use Rattle.file_views.specs.Views.{client, things}
use Rattle.file_views.specs.Here.{In, IsClient, about, Here, at_kernel, Arrives, asked_stream, Stopped, Recalled, Answered}
use Rattle.file_views.specs.SoundHolders.{Active, ThatComes, EngagedToWrite, Ready, Coming, Chained, HolderFacts, LocalHolders, Holders}
use Rattle.file_views.proofs.MemberLaws.{in_filter, filter_in}
use Rattle.file_views.proofs.CountLaws.{or_left, or_right}
use Rattle.file_views.proofs.StampLaws.{about_goes}

-- a grant is on its way, of that stream; and a callback, taken or not
pub record Came (kernel : ℕ) (grant : FileGrant) (stream : Option StreamNo) (calls : List FileCall) : Type 0 where
  pub call : FileCall
  pub there : In call calls
  pub arrives : Arrives kernel call grant
  pub same : asked_stream call.body ≡ stream

pub record CallAt (kernel stamp : ℕ) (kind : CallKind) (taken : Bool) (calls : List FileCall) : Type 0 where
  pub call : FileCall
  pub there : In call calls
  pub to_kernel : call.to ≡ kernel
  pub is_call : call.body ≡ form.Callback stamp kind
  pub taken_is : call.taken ≡ taken

-- other calls bring the kernel no other grant, and each one over the floor
pub record Arrivals (kernel floor : ℕ) (xs ys : List FileCall) : Type 0 where
  pub back : (one : FileCall) → In one ys → (grant : FileGrant) → Arrives kernel one grant → Came kernel grant (asked_stream one.body) xs
  pub on : (one : FileCall) → In one xs → (grant : FileGrant) → Arrives kernel one grant → floor < grant.stamp → Came kernel grant (asked_stream one.body) ys

-- and no other callback, and each one where it is the holder
pub record Ways (kernel floor : ℕ) (holds : Bool) (xs ys : List FileCall) : Type 0 where
  pub arrivals : Arrivals kernel floor xs ys
  pub called : (one : FileCall) → In one ys → one.to ≡ kernel → (stamp : ℕ) (kind : CallKind) → one.body ≡ form.Callback stamp kind → CallAt kernel stamp kind one.taken xs
  pub calls : holds ≡ true → (one : FileCall) → In one xs → one.to ≡ kernel → (stamp : ℕ) (kind : CallKind) → one.body ≡ form.Callback stamp kind → CallAt kernel stamp kind one.taken ys

pub ready_back : (kernel own seen version floor : ℕ) (holds : Bool) (now : CacheMode) (xs ys : List FileCall) → Arrivals kernel floor xs ys → Ready kernel own seen version holds now xs → Ready kernel own seen version holds now ys
ready_back kernel own seen version floor holds now xs ys w r = record {
  holds_it = r.holds_it;
  on = r.on;
  at_version = r.at_version;
  newer = λ one m grant a n. let c : Came kernel grant (asked_stream one.body) xs = w.back one m grant a in r.newer c.call c.there grant c.arrives n;
}

pub active_back : (kernel own floor : ℕ) (now : CacheMode) (xs ys : List FileCall) → Arrivals kernel floor xs ys → Active kernel own now ys → Active kernel own now xs
active_back kernel own floor now xs ys w (inl e) = inl e
active_back kernel own floor now xs ys w (inr o) = let c : Came kernel o.grant (asked_stream o.call.body) xs = w.back o.call o.is_newer.0 o.grant o.is_newer.1 in inr (record { call = c.call; grant = o.grant; is_newer = (c.there, c.arrives, o.is_newer.2); on = o.on })

pub that_back : (kernel own floor : ℕ) (xs ys : List FileCall) (stream : StreamNo) → Arrivals kernel floor xs ys → ThatComes kernel own ys stream → ThatComes kernel own xs stream
that_back kernel own floor xs ys stream w t =
    let c : Came kernel t.comes.grant (asked_stream t.comes.call.body) xs = w.back t.comes.call t.comes.there t.comes.grant t.comes.arrives in
    record { comes = record { call = c.call; grant = t.comes.grant; there = c.there; arrives = c.arrives; old = t.comes.old }; that = c.same ∙ t.that }

pub engaged_back : (kernel own floor : ℕ) (streams : List StreamNo) (opened : List Open) (xs ys : List FileCall) → Arrivals kernel floor xs ys → EngagedToWrite kernel own streams opened ys → EngagedToWrite kernel own streams opened xs
engaged_back kernel own floor streams opened xs ys w e = record { one = e.one; there = e.there; writing = e.writing; works = elim e.works [ inl a ↦ inl a | inr b ↦ inr (that_back kernel own floor xs ys e.one.stream w b) ] }

pub recalled_back : (kernel floor : ℕ) (holds : Bool) (xs ys : List FileCall) → Ways kernel floor holds xs ys → Recalled kernel ys → Recalled kernel xs
recalled_back kernel floor holds xs ys w r = let c : CallAt kernel r.stamp Recall r.call.taken xs = w.called r.call r.there r.to_kernel r.stamp Recall r.recalls in record { call = c.call; there = c.there; to_kernel = c.to_kernel; stamp = r.stamp; recalls = c.is_call; untaken = c.taken_is ∙ r.untaken }

pub answered_back : (kernel floor : ℕ) (holds : Bool) (xs ys : List FileCall) → Ways kernel floor holds xs ys → Answered kernel ys → Answered kernel xs
answered_back kernel floor holds xs ys w r = let c : CallAt kernel r.stamp r.kind r.call.taken xs = w.called r.call r.there r.to_kernel r.stamp r.kind r.is_call in record { call = c.call; there = c.there; to_kernel = c.to_kernel; stamp = r.stamp; kind = r.kind; is_call = c.is_call; taken = c.taken_is ∙ r.taken }

pub answered_on : (kernel floor : ℕ) (holds : Bool) (xs ys : List FileCall) → Ways kernel floor holds xs ys → holds ≡ true → Answered kernel xs → Answered kernel ys
answered_on kernel floor holds xs ys w h r = let c : CallAt kernel r.stamp r.kind r.call.taken ys = w.calls h r.call r.there r.to_kernel r.stamp r.kind r.is_call in record { call = c.call; there = c.there; to_kernel = c.to_kernel; stamp = r.stamp; kind = r.kind; is_call = c.is_call; taken = c.taken_is ∙ r.taken }

pub given_on : (kernel floor : ℕ) (holds : Bool) (mode : CacheMode) (xs ys : List FileCall) → Ways kernel floor holds xs ys → holds ≡ true → (is_on mode ≡ true) ⊎ Stopped kernel xs → (is_on mode ≡ true) ⊎ Stopped kernel ys
given_on kernel floor holds mode xs ys w h (inl e) = inl e
given_on kernel floor holds mode xs ys w h (inr r) = let c : CallAt kernel r.stamp Stop r.call.taken ys = w.calls h r.call r.there r.to_kernel r.stamp Stop r.stops in inr (record { call = c.call; there = c.there; to_kernel = c.to_kernel; stamp = r.stamp; stops = c.is_call; untaken = c.taken_is ∙ r.untaken })

pub coming_on : (kernel own seen version : ℕ) (opened : List Open) (xs ys : List FileCall) → Arrivals kernel own xs ys → Coming kernel own seen version opened xs → Coming kernel own seen version opened ys
coming_on kernel own seen version opened xs ys w c =
    let k : Came kernel c.grant (asked_stream c.call.body) ys = w.on c.call c.is_newer.0 c.grant c.is_newer.1 c.is_newer.2 in
    record {
      call = k.call;
      grant = c.grant;
      is_newer = (k.there, k.arrives, c.is_newer.2);
      on = c.on;
      gives = c.gives;
      plain = c.plain;
      before = λ one m other a n o l. let b : Came kernel other (asked_stream one.body) xs = w.back one m other a in let r = c.before b.call b.there other b.arrives n o l in (r.0, r.1, λ x j e. r.2 x j (b.same ∙ e));
      behind = λ one m other a n o l. let b : Came kernel other (asked_stream one.body) xs = w.back one m other a in c.behind b.call b.there other b.arrives n o l;
      older = c.older;
      writer = c.writer;
      has_open = c.has_open;
      writing = c.writing;
      asked = k.same ∙ c.asked;
    }

pub chained_ways : (kernel own seen version : ℕ) (xs ys : List FileCall) → Arrivals kernel own xs ys → Chained kernel own seen version xs → Chained kernel own seen version ys
chained_ways kernel own seen version xs ys w c = record {
  first = λ one m grant a n o. let b : Came kernel grant (asked_stream one.body) xs = w.back one m grant a in c.first b.call b.there grant b.arrives n o;
  rises = λ one m grant a n. let b : Came kernel grant (asked_stream one.body) xs = w.back one m grant a in c.rises b.call b.there grant b.arrives n;
  under = λ one m grant a n. let b : Came kernel grant (asked_stream one.body) xs = w.back one m grant a in c.under b.call b.there grant b.arrives n;
  linked = λ one m grant a n o other k more d p q l. let b : Came kernel grant (asked_stream one.body) xs = w.back one m grant a in let e : Came kernel more (asked_stream other.body) xs = w.back other k more d in c.linked b.call b.there grant b.arrives n o e.call e.there more e.arrives p q l;
  joined = λ one m grant a n o other k more d p q l none. let b : Came kernel grant (asked_stream one.body) xs = w.back one m grant a in let e : Came kernel more (asked_stream other.body) xs = w.back other k more d in c.joined b.call b.there grant b.arrives n o e.call e.there more e.arrives p q l (λ x j g s t. let f : Came kernel g (asked_stream x.body) ys = w.on x j g s t in none f.call f.there g f.arrives t);
  last = λ one m grant a n o all. let b : Came kernel grant (asked_stream one.body) xs = w.back one m grant a in c.last b.call b.there grant b.arrives n o (λ x j g s t. let f : Came kernel g (asked_stream x.body) ys = w.on x j g s t in all f.call f.there g f.arrives t);
}

-- other calls bring the same
pub holders_ways : (h : Here) (ys : List FileCall) → LocalHolders h → Ways h.kernel h.client.stamp h.holds h.calls ys → LocalHolders (record h { calls = ys })
holders_ways h ys f w = record {
  seen_below = f.seen_below;
  chained = chained_ways h.kernel h.client.stamp h.client.version h.version h.calls ys w.arrivals f.chained;
  at_version = λ one m o off. f.at_version one m o (λ x j g s t. let c : Came h.kernel g (asked_stream x.body) ys = w.arrivals.on x j g s t in off c.call c.there g c.arrives t);
  writer_holds = λ one m r a. f.writer_holds one m r (active_back h.kernel h.client.stamp h.client.stamp h.client.mode h.calls ys w.arrivals a);
  holder_state = λ e. elim (f.holder_state e) [
    | inl a ↦ inl (answered_on h.kernel h.client.stamp h.holds h.calls ys w e a)
    | inr b ↦ inr (given_on h.kernel h.client.stamp h.holds h.mode h.calls ys w e b.0, elim b.1 [ inl r ↦ inl (ready_back h.kernel h.client.stamp h.client.version h.version h.client.stamp h.holds h.client.mode h.calls ys w.arrivals r) | inr c ↦ inr (coming_on h.kernel h.client.stamp h.client.version h.version h.opened h.calls ys w.arrivals c) ])
  ];
  holder_grants = λ one m grant a n o e. let b : Came h.kernel grant (asked_stream one.body) h.calls = w.arrivals.back one m grant a in f.holder_grants b.call b.there grant b.arrives n o e;
  recall_ready = λ r. back (f.recall_ready (recalled_back h.kernel h.client.stamp h.holds h.calls ys w r));
  recall_on = λ one m t s e. let c : CallAt h.kernel s Recall one.taken h.calls = w.called one m t s Recall e in f.recall_on c.call c.there c.to_kernel s c.is_call;
  recall_holds = λ one m t s e. let c : CallAt h.kernel s Recall one.taken h.calls = w.called one m t s Recall e in f.recall_holds c.call c.there c.to_kernel s c.is_call;
  writer_ready = λ a e. back (f.writer_ready (active_back h.kernel h.client.stamp h.client.stamp h.client.mode h.calls ys w.arrivals a) (engaged_back h.kernel h.client.stamp h.client.stamp h.client.streams h.opened h.calls ys w.arrivals e));
  dirty_ready = λ one m d. back (f.dirty_ready one m d);
  dirty_unanswered = λ one m d a. f.dirty_unanswered one m d (answered_back h.kernel h.client.stamp h.holds h.calls ys w a);
  modes_agree = f.modes_agree;
}
  where
    back : Ready h.kernel h.client.stamp h.client.version h.version h.holds h.client.mode h.calls → Ready h.kernel h.client.stamp h.client.version h.version h.holds h.client.mode ys
    back r = ready_back h.kernel h.client.stamp h.client.version h.version h.client.stamp h.holds h.client.mode h.calls ys w.arrivals r

-- a block that is dirty
pub record DirtyIn (blocks : List Held) : Type 0 where
  pub one : Held
  pub there : In one blocks
  pub dirty : is_some one.dirty ≡ true

-- a client whose blocks are dirty no more than before, and that has no more streams than come without a newer grant
pub record Milder (h : Here) (d : Client) : Type 0 where
  pub stamp : d.stamp ≡ h.client.stamp
  pub version : d.version ≡ h.client.version
  pub mode : d.mode ≡ h.client.mode
  pub streams : (stream : StreamNo) → has_stream stream d.streams ≡ true → (has_stream stream h.client.streams ≡ true) ⊎ ThatComes h.kernel h.client.stamp h.calls stream
  pub blocks : DirtyIn d.blocks → DirtyIn h.client.blocks

pub holders_milder : (h : Here) (d : Client) → LocalHolders h → Milder h d → LocalHolders (record h { client = d })
holders_milder h d f m = subst (λ x. HolderFacts h.kernel x h.current d.version h.version d.mode h.mode h.holds d.blocks d.streams h.opened h.calls) (sym m.stamp)
    (subst (λ x. HolderFacts h.kernel h.client.stamp h.current x h.version d.mode h.mode h.holds d.blocks d.streams h.opened h.calls) (sym m.version)
    (subst (λ x. HolderFacts h.kernel h.client.stamp h.current h.client.version h.version x h.mode h.holds d.blocks d.streams h.opened h.calls) (sym m.mode) (record {
      seen_below = f.seen_below;
      chained = f.chained;
      at_version = f.at_version;
      writer_holds = f.writer_holds;
      holder_state = f.holder_state;
      holder_grants = f.holder_grants;
      recall_ready = f.recall_ready;
      recall_on = f.recall_on;
      recall_holds = f.recall_holds;
      writer_ready = λ a e. f.writer_ready a (record { one = e.one; there = e.there; writing = e.writing; works = elim e.works [ inl k ↦ m.streams e.one.stream k | inr k ↦ inr k ] });
      dirty_ready = λ one k e. let b : DirtyIn h.client.blocks = m.blocks (record { one = one; there = k; dirty = e }) in f.dirty_ready b.one b.there b.dirty;
      dirty_unanswered = λ one k e. let b : DirtyIn h.client.blocks = m.blocks (record { one = one; there = k; dirty = e }) in f.dirty_unanswered b.one b.there b.dirty;
      modes_agree = f.modes_agree;
    })))

-- a client that may write, and has answered no callback, whatever blocks it has then
pub holders_written : (h : Here) (d : Client) → LocalHolders h → d.stamp ≡ h.client.stamp → d.version ≡ h.client.version → d.mode ≡ h.client.mode → d.streams ≡ h.client.streams → Ready h.kernel h.client.stamp h.client.version h.version h.holds h.client.mode h.calls → (Answered h.kernel h.calls → ⊥) → LocalHolders (record h { client = d })
holders_written h d f a b c e r n = subst (λ x. HolderFacts h.kernel x h.current d.version h.version d.mode h.mode h.holds d.blocks d.streams h.opened h.calls) (sym a)
    (subst (λ x. HolderFacts h.kernel h.client.stamp h.current x h.version d.mode h.mode h.holds d.blocks d.streams h.opened h.calls) (sym b)
    (subst (λ x. HolderFacts h.kernel h.client.stamp h.current h.client.version h.version x h.mode h.holds d.blocks d.streams h.opened h.calls) (sym c)
    (subst (λ x. HolderFacts h.kernel h.client.stamp h.current h.client.version h.version h.client.mode h.mode h.holds d.blocks x h.opened h.calls) (sym e) (record {
      seen_below = f.seen_below;
      chained = f.chained;
      at_version = f.at_version;
      writer_holds = f.writer_holds;
      holder_state = f.holder_state;
      holder_grants = f.holder_grants;
      recall_ready = f.recall_ready;
      recall_on = f.recall_on;
      recall_holds = f.recall_holds;
      writer_ready = f.writer_ready;
      dirty_ready = λ one k q. r;
      dirty_unanswered = λ one k q. n;
      modes_agree = f.modes_agree;
    }))))

-- an open as before
pub record SameOpen (one : Open) (opens : List Open) : Type 0 where
  pub other : Open
  pub there : In other opens
  pub stream_is : one.stream ≡ other.stream
  pub mode_is : one.mode ≡ other.mode

-- fewer opens, where the stream stays open of the grant that made the kernel the holder
pub holders_opened : (h : Here) (opened : List Open) → LocalHolders h → ((one : Open) → In one opened → SameOpen one h.opened) → (h.holds ≡ true → (one : Open) → In one h.opened → (call : FileCall) → In call h.calls → (grant : FileGrant) → Arrives h.kernel call grant → asked_stream call.body ≡ Some one.stream → SameOpen one opened) → LocalHolders (record h { opened = opened })
holders_opened h opened f back on = record {
  seen_below = f.seen_below;
  chained = f.chained;
  at_version = λ one m o off. let b : SameOpen one h.opened = back one m in f.at_version b.other b.there o off;
  writer_holds = λ one m r a. let b : SameOpen one h.opened = back one m in f.writer_holds b.other b.there (ap writes (sym b.mode_is) ∙ r) a;
  holder_state = λ e. elim (f.holder_state e) [ inl a ↦ inl a | inr b ↦ inr (b.0, elim b.1 [ inl r ↦ inl r | inr c ↦ inr (coming e c) ]) ];
  holder_grants = f.holder_grants;
  recall_ready = f.recall_ready;
  recall_on = f.recall_on;
  recall_holds = f.recall_holds;
  writer_ready = λ a e. f.writer_ready a (engaged e);
  dirty_ready = f.dirty_ready;
  dirty_unanswered = f.dirty_unanswered;
  modes_agree = f.modes_agree;
}
  where
    engaged : EngagedToWrite h.kernel h.client.stamp h.client.streams opened h.calls → EngagedToWrite h.kernel h.client.stamp h.client.streams h.opened h.calls
    engaged e =
        let b : SameOpen e.one h.opened = back e.one e.there in
        record { one = b.other; there = b.there; writing = ap writes (sym b.mode_is) ∙ e.writing; works = elim e.works [ inl k ↦ inl (subst (λ s. has_stream s h.client.streams ≡ true) b.stream_is k) | inr k ↦ inr (record { comes = k.comes; that = k.that ∙ ap Some b.stream_is }) ] }

    coming : h.holds ≡ true → Coming h.kernel h.client.stamp h.client.version h.version h.opened h.calls → Coming h.kernel h.client.stamp h.client.version h.version opened h.calls
    coming e c =
        let s : SameOpen c.writer opened = on e c.writer c.has_open c.call c.is_newer.0 c.grant c.is_newer.1 c.asked in
        record {
          call = c.call;
          grant = c.grant;
          is_newer = c.is_newer;
          on = c.on;
          gives = c.gives;
          plain = c.plain;
          before = λ one m other a n o l. let r = c.before one m other a n o l in (r.0, r.1, λ x j q. let b : SameOpen x h.opened = back x j in ap writes b.mode_is ∙ r.2 b.other b.there (q ∙ ap Some b.stream_is));
          behind = c.behind;
          older = c.older;
          writer = s.other;
          has_open = s.there;
          writing = ap writes (sym s.mode_is) ∙ c.writing;
          asked = c.asked ∙ ap Some s.stream_is;
        }

-- the layer, said of the whole view
abbrev pub seat : View → ℕ → Here
seat v kernel = record (at_kernel v kernel) { calls = things v }

pub record FlatHolders (v : View) : Type 0 where
  pub is_client : (holder : ℕ) → v.holder ≡ Some holder → IsClient (length v.clients) holder
  pub opens : (holder : ℕ) → v.holder ≡ Some holder → (one : Open) → In one v.opens → one.kernel ≡ holder
  pub stale : (holder : ℕ) → v.holder ≡ Some holder → (kernel : ℕ) → IsClient (length v.clients) kernel → kernel ≢ holder → is_on (client v kernel).mode ≡ true → (client v kernel).version < v.version
  pub exclusive : v.uncached ≡ false → is_write_shared v.opens ≡ false
  pub each : (kernel : ℕ) → IsClient (length v.clients) kernel → LocalHolders (seat v kernel)

pub about_arrives : (kernel : ℕ) (one : FileCall) (grant : FileGrant) → Arrives kernel one grant → about kernel one ≡ true
about_arrives kernel one grant a = subst (λ k. about k one ≡ true) a.0 (about_goes one.from one.to one.body)

pub about_to : (kernel : ℕ) (one : FileCall) → one.to ≡ kernel → about kernel one ≡ true
about_to kernel one e = or_right (one.from == kernel) _ (or_left (one.to == kernel) _ (eq-eqb one.to kernel e))

pub flat_holders : (v : View) → Holders v → FlatHolders v
flat_holders v s = record {
  is_client = s.is_client;
  opens = s.opens;
  stale = s.stale;
  exclusive = s.exclusive;
  each = λ kernel i. holders_ways (at_kernel v kernel) (things v) (s.each kernel i) (record {
    arrivals = record {
      back = λ one m grant a. record { call = one; there = filter_in (about kernel) one (things v) m (about_arrives kernel one grant a); arrives = a; same = refl };
      on = λ one m grant a n. record { call = one; there = (in_filter (about kernel) one (things v) m).0; arrives = a; same = refl };
    };
    called = λ one m t stamp kind e. record { call = one; there = filter_in (about kernel) one (things v) m (about_to kernel one t); to_kernel = t; is_call = e; taken_is = refl };
    calls = λ h one m t stamp kind e. record { call = one; there = (in_filter (about kernel) one (things v) m).0; to_kernel = t; is_call = e; taken_is = refl };
  });
}

pub holders_of : (v : View) → FlatHolders v → Holders v
holders_of v s = record {
  is_client = s.is_client;
  opens = s.opens;
  stale = s.stale;
  exclusive = s.exclusive;
  each = λ kernel i. holders_ways (seat v kernel) (at_kernel v kernel).calls (s.each kernel i) (record {
    arrivals = record {
      back = λ one m grant a. record { call = one; there = (in_filter (about kernel) one (things v) m).0; arrives = a; same = refl };
      on = λ one m grant a n. record { call = one; there = filter_in (about kernel) one (things v) m (about_arrives kernel one grant a); arrives = a; same = refl };
    };
    called = λ one m t stamp kind e. record { call = one; there = (in_filter (about kernel) one (things v) m).0; to_kernel = t; is_call = e; taken_is = refl };
    calls = λ h one m t stamp kind e. record { call = one; there = filter_in (about kernel) one (things v) m (about_to kernel one t); to_kernel = t; is_call = e; taken_is = refl };
  });
}
