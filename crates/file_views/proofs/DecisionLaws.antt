-- The fourth layer of soundness, said of the whole view, and under changes by which the server decides nothing.
use Rattle.std.proofs.Common.{◌≡◌, ◌≢◌, ◌⊎◌, ℕ, ◌-◌, ◌==◌, Bool, true, false, not, ◌&&◌, ◌||◌, List, [], ◌∷◌, ◌++◌, length, filter, Option, refl, sym, ap, ◌∙◌, subst, inl, inr, slice_index_or, append-nil}
use Rattle.std.specs.List.{list_any}
use Rattle.std.proofs.lemmas.Bool.Decides.{eqb_tells}
use Rattle.sprite_ids.specs.declared.StreamNo.{StreamNo}
use Rattle.sprite_ids.specs.declared.CacheMode.TheVariants as cache
use Rattle.sprite_ids.specs.declared.CallKind.TheVariants.{Recall}
use Rattle.file_views.specs.declared.body.FileBody.{FileBody}
use Rattle.file_views.specs.declared.body.FileBody.TheVariants as form
use Rattle.file_views.specs.declared.opens.Open.{Open}
use Rattle.file_views.specs.declared.client.Client.{Client}
use Rattle.file_views.specs.declared.call.FileCall.{FileCall}
use Rattle.file_views.specs.declared.view.View.{View}
use Rattle.file_views.specs.Setting.{Setting}
use Rattle.file_views.specs.Streams.{same_stream, has_stream, is_any, is_write_shared}
use Rattle.file_views.specs.Clients.{is_on}
use Rattle.file_views.specs.Views.{set_client, mode_given, is_callback, busy, waits, waiting_calls, without_call, with_call, new_call, begin, remove_call}
use Rattle.file_views.specs.Grants.{asks, truncates, receiver, opens_after, shared_after, uncached_after}
use Rattle.file_views.specs.Coherent.{first_asks}
use Rattle.file_views.specs.Here.{In, Unique, IsClient}
use Rattle.file_views.specs.SoundShapes.{numbers}
use Rattle.file_views.specs.SoundDecisions.{SharedUncached, Decisions}
use Rattle.file_views.proofs.MemberLaws.{in_left, in_last, in_filter, in_with, in_without, with_in, with_new, without_in, filter_swap, filter_with, without_absent, with_absent, same_call}
use Rattle.file_views.proofs.EffectLaws.{count_set, filter_last}
use Rattle.file_views.proofs.CountLaws.{or_left, or_right, or_is}
use Rattle.file_views.proofs.StreamLaws.{in_opened, out_opened}
use Rattle.file_views.proofs.StampChangeLaws.{NoCall}
use Rattle.file_views.proofs.StampServeLaws.{idle}

-- a callback is among the calls
pub record CallIn (calls : List FileCall) : Type 0 where
  pub call : FileCall
  pub there : In call calls
  pub is_call : is_callback call.body ≡ true

pub busy_there : (calls : List FileCall) (one : FileCall) → In one calls → is_callback one.body ≡ true → list_any (λ (x : FileCall). is_callback x.body) calls ≡ true
busy_there [] one m c = absurd m
busy_there (x ∷ xs) one (inl e) c = or_left (is_callback x.body) _ (ap (λ (y : FileCall). is_callback y.body) (sym e) ∙ c)
busy_there (x ∷ xs) one (inr m) c = or_right (is_callback x.body) _ (busy_there xs one m c)

busy_first : (x : FileCall) (xs : List FileCall) → (is_callback x.body ≡ true) ⊎ (list_any (λ (y : FileCall). is_callback y.body) xs ≡ true) → (list_any (λ (y : FileCall). is_callback y.body) xs ≡ true → CallIn xs) → CallIn (x ∷ xs)
busy_first x xs (inl c) f = record { call = x; there = inl refl; is_call = c }
busy_first x xs (inr e) f = let r : CallIn xs = f e in record { call = r.call; there = inr r.there; is_call = r.is_call }

pub busy_call : (calls : List FileCall) → list_any (λ (x : FileCall). is_callback x.body) calls ≡ true → CallIn calls
busy_call [] e = absurd (cc (e))
busy_call (x ∷ xs) e = busy_first x xs (or_is (is_callback x.body) _ e) (busy_call xs)

-- what asks waits, first of all: the file is uncached where it makes it so, and a recall isn't to its receiver unless it truncates
pub record Asking (z : Setting) (v : View) : Type 0 where
  pub first : FileCall
  pub rest : List FileCall
  pub waiting : waiting_calls v ≡ first ∷ rest
  pub asks_it : asks first.body ≡ true
  pub told : v.uncached ≡ false → uncached_after z v first ≡ false
  pub spared : (other : FileCall) → In other v.calls → (stamp : ℕ) → other.body ≡ form.Callback stamp Recall → other.to ≡ receiver first → truncates first.body ≡ true

-- these wait and no callback is out, or a callback is out and what asks waits
abbrev pub Queues : Setting → List FileCall → View → Type 0
Queues z waiting v = (NoCall v × (waiting_calls v ≡ waiting)) ⊎ (CallIn v.calls × Asking z v)

-- the shared streams and the modes
pub record Ruled (v : View) : Type 0 where
  pub shared : SharedUncached v
  pub off : (kernel : ℕ) → IsClient (length v.clients) kernel → v.uncached ≡ true → is_on (mode_given v kernel) ≡ false
  pub on : (kernel : ℕ) → IsClient (length v.clients) kernel → v.uncached ≡ false → (one : Open) → In one v.opens → one.kernel ≡ kernel → is_on (mode_given v kernel) ≡ true

pub record FlatDecisions (z : Setting) (v : View) : Type 0 where
  pub ruled : Ruled v
  pub queues : Queues z [] v

-- the two ways to say it
asking_of : (z : Setting) (v : View) → Decisions z v → busy v ≡ true → (waiting : List FileCall) → waiting_calls v ≡ waiting → first_asks waiting ≡ true → Asking z v
asking_of z v d b [] w a = absurd (cc (a))
asking_of z v d b (first ∷ rest) w a = record {
  first = first;
  rest = rest;
  waiting = w;
  asks_it = a;
  told = λ u. d.decided.told first rest b w u;
  spared = λ other m stamp e t. d.decided.spared first rest w other m stamp e t;
}

queues_of : (z : Setting) (v : View) → Decisions z v → (b : Bool) → busy v ≡ b → Queues z [] v
queues_of z v d true e = inr (busy_call v.calls e, asking_of z v d e (waiting_calls v) refl (d.queued.asks e))
queues_of z v d false e = inl (idle v e, d.queued.idle e)

pub flat_decisions : (z : Setting) (v : View) → Decisions z v → FlatDecisions z v
flat_decisions z v d = record {
  ruled = record {
    shared = d.shared;
    off = λ kernel i u. (d.each kernel i).off u;
    on = λ kernel i u one m e. (d.each kernel i).on u one (in_opened v kernel one m e);
  };
  queues = queues_of z v d (busy v) refl;
}

quiet_call : (calls : List FileCall) → ((one : FileCall) → In one calls → is_callback one.body ≡ false) → CallIn calls → ⊥
quiet_call calls n c = cc (n c.call c.there, c.is_call)

pub busy_quiet : (v : View) → NoCall v → busy v ≡ true → ⊥
busy_quiet v n e = quiet_call v.calls n (busy_call v.calls e)

pub same_first : (first one : FileCall) (rest others : List FileCall) → first ∷ rest ≡ one ∷ others → first ≡ one
same_first first one rest others e = cc (e)

pub decisions_of : (z : Setting) (v : View) → FlatDecisions z v → Decisions z v
decisions_of z v f = record {
  queued = record { asks = λ e. elim f.queues [ inl a ↦ absurd (busy_quiet v a.0 e) | inr b ↦ ap first_asks b.1.waiting ∙ b.1.asks_it ]; idle = λ e. elim f.queues [ inl a ↦ a.1 | inr b ↦ absurd (quiet_call v.calls (idle v e) b.0) ] };
  decided = record {
    told = λ one rest e w u. elim f.queues [ inl a ↦ absurd (busy_quiet v a.0 e) | inr b ↦ subst (λ x. uncached_after z v x ≡ false) (same_first b.1.first one b.1.rest rest (sym b.1.waiting ∙ w)) (b.1.told u) ];
    spared = λ one rest w other m stamp e t. elim f.queues [
      | inl a ↦ absurd (cc (a.0 other m, ap is_callback e))
      | inr b ↦ let same : b.1.first ≡ one = same_first b.1.first one b.1.rest rest (sym b.1.waiting ∙ w) in ap (λ (x : FileCall). truncates x.body) (sym same) ∙ b.1.spared other m stamp e (t ∙ ap receiver (sym same))
    ];
  };
  shared = f.ruled.shared;
  each = λ kernel i. record { off = f.ruled.off kernel i; on = λ u one m. let o = out_opened v kernel one m in f.ruled.on kernel i u one o.0 o.1 };
}

-- nothing that the server decided changes
pub record Holds (v w : View) : Type 0 where
  pub count : length w.clients ≡ length v.clients
  pub uncached : w.uncached ≡ v.uncached
  pub opens : w.opens ≡ v.opens
  pub shared : w.shared ≡ v.shared
  pub modes : w.modes ≡ v.modes

pub holds_server : (v w : View) → w.clients ≡ v.clients → w.uncached ≡ v.uncached → w.opens ≡ v.opens → w.shared ≡ v.shared → w.modes ≡ v.modes → Holds v w
holds_server v w a b c d e = record { count = ap length a; uncached = b; opens = c; shared = d; modes = e }

pub ruled_holds : (v w : View) → Holds v w → Ruled v → Ruled w
ruled_holds v w h r = record {
  shared = record {
    uncached = λ stream e. h.uncached ∙ r.shared.uncached stream (ap (has_stream stream) (sym h.shared) ∙ e);
    stays = λ stream e. ap (list_any (λ (one : Open). same_stream stream one.stream)) h.opens ∙ r.shared.stays stream (ap (has_stream stream) (sym h.shared) ∙ e);
  };
  off = λ kernel i u. ap (λ ms. is_on (slice_index_or ms (kernel - 1) cache.None)) h.modes ∙ r.off kernel (within kernel i) (sym h.uncached ∙ u);
  on = λ kernel i u one m e. ap (λ ms. is_on (slice_index_or ms (kernel - 1) cache.None)) h.modes ∙ r.on kernel (within kernel i) (sym h.uncached ∙ u) one (subst (In one) h.opens m) e;
}
  where
    within : (kernel : ℕ) → IsClient (length w.clients) kernel → IsClient (length v.clients) kernel
    within kernel i = subst (λ n. IsClient n kernel) h.count i

-- whether an open or a move makes a file uncached that isn't
abbrev pub makes_uncached : Setting → Bool → List StreamNo → List Open → FileCall → Bool
makes_uncached z uncached shared opens one = uncached || (not z.cached || (is_any (shared_after shared one.body) || (is_write_shared (opens_after opens one.from one.body) || (truncates one.body && is_any opens))))

pub uncached_holds : (z : Setting) (v w : View) (one : FileCall) → Holds v w → uncached_after z w one ≡ uncached_after z v one
uncached_holds z v w one h = ap (λ u. makes_uncached z u w.shared w.opens one) h.uncached ∙ ap (λ s. makes_uncached z v.uncached s w.opens one) h.shared ∙ ap (λ o. makes_uncached z v.uncached v.shared o one) h.opens

-- a callback that was out before, with the same kernel
pub record Back (calls : List FileCall) (one : FileCall) : Type 0 where
  pub other : FileCall
  pub there : In other calls
  pub body_is : one.body ≡ other.body
  pub to_is : one.to ≡ other.to

pub back_self : (calls : List FileCall) (one : FileCall) → In one calls → Back calls one
back_self calls one m = record { other = one; there = m; body_is = refl; to_is = refl }

-- the same waits, or more behind it, and the same callbacks are out
pub asking_more : (z : Setting) (v w : View) → Holds v w → (more : List FileCall) → waiting_calls w ≡ waiting_calls v ++ more → ((one : FileCall) → In one w.calls → is_callback one.body ≡ true → Back v.calls one) → Asking z v → Asking z w
asking_more z v w h more e back a = record {
  first = a.first;
  rest = a.rest ++ more;
  waiting = e ∙ ap (λ xs. xs ++ more) a.waiting;
  asks_it = a.asks_it;
  told = λ u. uncached_holds z v w a.first h ∙ a.told (sym h.uncached ∙ u);
  spared = λ other m stamp q t. let b : Back v.calls other = back other m (ap is_callback q) in a.spared b.other b.there stamp (sym b.body_is ∙ q) (sym b.to_is ∙ t);
}

none_back : (v w : View) → NoCall v → ((one : FileCall) → In one w.calls → is_callback one.body ≡ true → Back v.calls one) → NoCall w
none_back v w n back one m = by_test (is_callback one.body) refl
  where
    by_test : (b : Bool) → is_callback one.body ≡ b → b ≡ false
    by_test true c = let r : Back v.calls one = back one m c in absurd (cc (n r.other r.there, c, ap is_callback r.body_is))
    by_test false c = refl

-- what the server decided stays, with what waits and the callbacks that are out
pub record Stays (v w : View) : Type 0 where
  pub holds : Holds v w
  pub waiting : waiting_calls w ≡ waiting_calls v
  pub back : (one : FileCall) → In one w.calls → is_callback one.body ≡ true → Back v.calls one
  pub on : CallIn v.calls → CallIn w.calls

pub queues_stay : (z : Setting) (waiting : List FileCall) (v w : View) → Stays v w → Queues z waiting v → Queues z waiting w
queues_stay z waiting v w s (inl a) = inl (none_back v w a.0 s.back, s.waiting ∙ a.1)
queues_stay z waiting v w s (inr b) = inr (s.on b.0, asking_more z v w s.holds [] (s.waiting ∙ sym (append-nil (waiting_calls v))) s.back b.1)

pub decisions_stay_by : (z : Setting) (v w : View) → Stays v w → FlatDecisions z v → FlatDecisions z w
decisions_stay_by z v w s f = record { ruled = ruled_holds v w s.holds f.ruled; queues = queues_stay z [] v w s f.queues }

-- the calls stay
pub stays_calls : (v w : View) → Holds v w → w.calls ≡ v.calls → Stays v w
stays_calls v w h e = record {
  holds = h;
  waiting = ap (filter waits) e;
  back = λ one m c. back_self v.calls one (subst (In one) e m);
  on = λ c. subst CallIn (sym e) c;
}

pub stays_client : (v : View) (kernel : ℕ) (c : Client) → Stays v (set_client v kernel c)
stays_client v kernel c = stays_calls v (set_client v kernel c) (record { count = count_set v kernel c; uncached = refl; opens = refl; shared = refl; modes = refl }) refl

-- a request begins
pub stays_begin : (v : View) (source to : ℕ) (body : FileBody) (dirty : Option ℕ) → is_callback body ≡ false → Stays v (begin v source to body dirty)
stays_begin v source to body dirty n = record {
  holds = holds_server v (begin v source to body dirty) refl refl refl refl refl;
  waiting = filter_last waits v.calls new false refl ∙ append-nil (waiting_calls v);
  back = λ one m c. elim (in_last one new v.calls m) [ inl k ↦ back_self v.calls one k | inr e ↦ absurd (cc (n, c, ap (λ (x : FileCall). x.body) e)) ];
  on = λ c. record { call = c.call; there = in_left c.call v.calls (new ∷ []) c.there; is_call = c.is_call };
}
  where
    new : FileCall
    new = new_call v source to body dirty

-- who has its number among what waits waits itself
not_waiting : (calls : List FileCall) (one : FileCall) → Unique (numbers calls) → In one calls → waits one ≡ false → (other : FileCall) → In other (filter waits calls) → other.number ≢ one.number
not_waiting calls one u m w other n e =
    let r = in_filter waits other calls n in
    let same : other ≡ one = same_call calls other one u r.0 m e in
    cc (r.1, w, ap waits same)

pub waiting_without : (calls : List FileCall) (one : FileCall) → Unique (numbers calls) → In one calls → waits one ≡ false → filter waits (without_call one.number calls) ≡ filter waits calls
waiting_without calls one u m w = filter_swap waits (λ (c : FileCall). not (c.number == one.number)) calls ∙ without_absent one.number (filter waits calls) (not_waiting calls one u m w)

-- a call that is no callback is finished
pub stays_remove : (v : View) (one : FileCall) → Unique (numbers v.calls) → In one v.calls → waits one ≡ false → is_callback one.body ≡ false → Stays v (remove_call v one.number)
stays_remove v one u m w n = record {
  holds = holds_server v (remove_call v one.number) refl refl refl refl refl;
  waiting = waiting_without v.calls one u m w;
  back = λ other k c. back_self v.calls other (in_without one.number other v.calls k).0;
  on = λ c. record { call = c.call; there = without_in one.number c.call v.calls c.there (λ e. let same : c.call ≡ one = same_call v.calls c.call one u c.there m e in cc (n, c.is_call, ap (λ (x : FileCall). x.body) same)); is_call = c.is_call };
}

-- a call that doesn't wait is exchanged for one of its number, its request and its receiver that doesn't either
pub stays_with : (v : View) (one new : FileCall) → Unique (numbers v.calls) → In one v.calls → new.number ≡ one.number → new.body ≡ one.body → new.to ≡ one.to → waits one ≡ false → waits new ≡ false → Stays v (record v { calls = with_call new v.calls })
stays_with v one new u m e b t w x = record {
  holds = holds_server v (record v { calls = with_call new v.calls }) refl refl refl refl refl;
  waiting = filter_with waits new v.calls (λ other n q. ap waits (same_call v.calls other one u n m (q ∙ e)) ∙ w ∙ sym x) ∙ with_absent new (filter waits v.calls) (λ other n q. not_waiting v.calls one u m w other n (q ∙ e));
  back = λ other n c. elim (in_with new other v.calls n) [ inl k ↦ back_self v.calls other k.0 | inr q ↦ record { other = one; there = m; body_is = ap (λ (y : FileCall). y.body) q ∙ b; to_is = ap (λ (y : FileCall). y.to) q ∙ t } ];
  on = λ c. elim (eqb_tells c.call.number new.number) [
    | inl k ↦ record { call = new; there = with_new new one v.calls e m; is_call = ap is_callback (b ∙ ap (λ (y : FileCall). y.body) (sym (same_call v.calls c.call one u c.there m (k.1 ∙ e)))) ∙ c.is_call }
    | inr k ↦ record { call = c.call; there = with_in new c.call v.calls c.there k.1; is_call = c.is_call }
  ];
}
