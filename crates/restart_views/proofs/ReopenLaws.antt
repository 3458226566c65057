-- A stream that a kernel kept is open there again, while nobody uses a cache of the file.
use Rattle.std.proofs.Common.{◌≡◌, ◌≢◌, ◌≤◌, ◌⊎◌, ℕ, ◌+◌, ◌-◌, ◌==◌, Bool, true, false, cond, ◌&&◌, ◌||◌, List, [], ◌∷◌, ◌++◌, length, filter, map, refl, sym, ◌∙◌, ap, ap₂, subst, inl, inr, arith, eq-eqb, ne_eqb}
use Rattle.std.specs.List.{list_any}
use Rattle.std.proofs.lemmas.List.{append-nil, map-append}
use Rattle.std.proofs.lemmas.List.Elements.{filter-append}
use Rattle.std.proofs.lemmas.List.Folds.{list_any-append}
use Rattle.std.proofs.lemmas.Bool.{or_parts}
use Rattle.sprite_ids.specs.Lists.{total}
use Rattle.sprite_ids.specs.declared.StreamNo.{StreamNo}
use Rattle.file_views.specs.declared.call.FileCall.{FileCall}
use Rattle.file_views.specs.declared.call.Carry.{Carry}
use Rattle.file_views.specs.declared.client.Client.{Client}
use Rattle.file_views.specs.declared.opens.Open.{Open}
use Rattle.file_views.specs.declared.step.FileStep.{FileStep}
use Rattle.file_views.specs.declared.view.View.{View}
use Rattle.file_views.specs.Setting.{Setting}
use Rattle.file_views.specs.Streams.{same_stream, has_stream, one_of, copies, counted}
use Rattle.file_views.specs.Clients.{new_client, is_on, install}
use Rattle.file_views.specs.Views.{client, current_stamp, things}
use Rattle.file_views.specs.Possible.{is_about, works_on, is_named}
use Rattle.file_views.specs.Here.{In, Unique, IsClient, Here, at_kernel, about}
use Rattle.file_views.specs.SoundShapes.{Shaped, CarryShaped, LocalShapes}
use Rattle.file_views.specs.SoundStreams.{open_key, OpensShaped, LocalStreams, on_way}
use Rattle.file_views.specs.SoundStamps.{LocalStamps}
use Rattle.file_views.specs.SoundDecisions.{LocalDecisions}
use Rattle.file_views.specs.SoundModes.{LocalModes}
use Rattle.file_views.specs.SoundHolders.{Active, LocalHolders}
use Rattle.file_views.specs.SoundRequests.{Asking, WritingBacks, LocalRequests}
use Rattle.file_views.specs.SoundContents.{StandsFor}
use Rattle.file_views.specs.Sound.{Sound}
use Rattle.file_views.proofs.MemberLaws.{Made, in_filter, in_last, in_map, unique_append}
use Rattle.file_views.proofs.EffectLaws.{client_set, client_other, count_set, by_kernel}
use Rattle.file_views.proofs.CountLaws.{total_last, same_is, same_by, copies_last, has_last, has_not_last}
use Rattle.file_views.proofs.StampLaws.{in_things}
use Rattle.restart_views.specs.ServerMoves.{reopened}
use Rattle.restart_views.proofs.ViewLaws.{any_none, get_in}
use Rattle.restart_views.proofs.CalmLaws.{Calm, Still, still_at, unflushed, idle_contents}

-- one kernel's part of the view, with another client and other opens
abbrev pub here_open : View → ℕ → Client → List Open → Here
here_open v kernel c opened = record (at_kernel v kernel) { client = c; opened = opened }

abbrev pub reopened_client : View → Open → Client
reopened_client v one = install (client v one.kernel) one.stream

abbrev pub reopened_here : View → Open → Here
reopened_here v one = here_open v one.kernel (reopened_client v one) (filter (λ x. x.kernel == one.kernel) v.opens ++ one ∷ [])

-- nothing in the view names the stream
pub record Unnamed (v : View) (stream : StreamNo) : Type 0 where
  pub shared : has_stream stream v.shared ≡ false
  pub opens : (one : Open) → In one v.opens → same_stream stream one.stream ≡ false
  pub calls : (one : FileCall) → In one v.calls → is_about stream one.body ≡ false
  pub carried : (one : Carry) → In one v.carried → same_stream stream one.stream ≡ false
  pub installed : (kernel : ℕ) → IsClient (length v.clients) kernel → has_stream stream (client v kernel).streams ≡ false
  pub waiting : (kernel : ℕ) → IsClient (length v.clients) kernel → (step : FileStep) → In step (client v kernel).waiting → works_on stream step ≡ false

pub unnamed_of : (v : View) (stream : StreamNo) → is_named v stream ≡ false → Unnamed v stream
unnamed_of v stream e =
    let a = or_parts (has_stream stream v.shared) _ e in
    let b = or_parts (list_any (λ (x : Open). same_stream stream x.stream) v.opens) _ a.1 in
    let c = or_parts (list_any (λ (x : FileCall). is_about stream x.body) v.calls) _ b.1 in
    let d = or_parts (list_any (λ (x : Carry). same_stream stream x.stream) v.carried) _ c.1 in
    let each : (kernel : ℕ) → IsClient (length v.clients) kernel → (has_stream stream (client v kernel).streams || list_any (works_on stream) (client v kernel).waiting) ≡ false = λ kernel i. any_none (λ (x : Client). has_stream stream x.streams || list_any (works_on stream) x.waiting) v.clients d.1 (client v kernel) (get_in v.clients (kernel - 1) new_client (omega (arith, i.0, i.1))) in
    record {
      shared = a.0;
      opens = any_none (λ (x : Open). same_stream stream x.stream) v.opens b.0;
      calls = any_none (λ (x : FileCall). is_about stream x.body) v.calls c.0;
      carried = any_none (λ (x : Carry). same_stream stream x.stream) v.carried d.0;
      installed = λ kernel i. (or_parts (has_stream stream (client v kernel).streams) _ (each kernel i)).0;
      waiting = λ kernel i. any_none (works_on stream) (client v kernel).waiting (or_parts (has_stream stream (client v kernel).streams) _ (each kernel i)).1;
    }

-- a stream that nothing names is another one
apart : (stream other : StreamNo) → same_stream stream other ≡ false → other ≡ stream → ⊥
apart stream other e k = let q = same_by stream other (sym k) in cc (e, q)

apart_back : (stream other : StreamNo) → same_stream stream other ≡ false → same_stream other stream ≡ false
apart_back stream other e = by_test (same_stream other stream) refl
  where
    by_test : (b : Bool) → same_stream other stream ≡ b → b ≡ false
    by_test true q = absurd (apart stream other e (same_is other stream q))
    by_test false q = refl

-- no call is about it, nor what is carried
things_apart : (v : View) (stream : StreamNo) → Unnamed v stream → (one : FileCall) → In one (things v) → is_about stream one.body ≡ false
things_apart v stream u one m = elim (in_things v one m) [
  | inl r ↦ ap (λ (x : FileCall). is_about stream x.body) r.makes ∙ u.carried r.x r.there
  | inr k ↦ u.calls one k
]

pub reopened_count : (v : View) (one : Open) → length (reopened v one).clients ≡ length v.clients
reopened_count v one = count_set (record v { opens = v.opens ++ one ∷ [] }) one.kernel (reopened_client v one)

-- the opens of each kernel
opened_here : (opens : List Open) (one : Open) → filter (λ (x : Open). x.kernel == one.kernel) (opens ++ one ∷ []) ≡ filter (λ (x : Open). x.kernel == one.kernel) opens ++ one ∷ []
opened_here opens one = filter-append (λ (x : Open). x.kernel == one.kernel) opens (one ∷ []) ∙ ap (λ b. filter (λ (x : Open). x.kernel == one.kernel) opens ++ cond b (one ∷ []) []) (eq-eqb one.kernel one.kernel refl)

opened_there : (opens : List Open) (one : Open) (other : ℕ) → other ≢ one.kernel → filter (λ (x : Open). x.kernel == other) (opens ++ one ∷ []) ≡ filter (λ (x : Open). x.kernel == other) opens
opened_there opens one other d = filter-append (λ (x : Open). x.kernel == other) opens (one ∷ []) ∙ (ap (λ b. filter (λ (x : Open). x.kernel == other) opens ++ cond b (one ∷ []) []) (ne_eqb one.kernel other (λ h. d (sym h))) ∙ append-nil (filter (λ (x : Open). x.kernel == other) opens))

-- what is so of each other kernel stays so
pub reopened_each : (v : View) (one : Open) → IsClient (length v.clients) one.kernel → (P : Here → Type 0) → ((other : ℕ) → IsClient (length v.clients) other → P (at_kernel v other)) → P (reopened_here v one) → (other : ℕ) → IsClient (length (reopened v one).clients) other → P (at_kernel (reopened v one) other)
reopened_each v one i P f p other j = by_kernel (λ k. P (at_kernel (reopened v one) k)) one.kernel other (subst P (sym here) p) (λ d. subst P (sym (there d)) (f other (subst (λ n. IsClient n other) (reopened_count v one) j)))
  where
    here : at_kernel (reopened v one) one.kernel ≡ reopened_here v one
    here = ap₂ (here_open v one.kernel) (client_set (record v { opens = v.opens ++ one ∷ [] }) one.kernel (reopened_client v one) i) (opened_here v.opens one)

    there : other ≢ one.kernel → at_kernel (reopened v one) other ≡ at_kernel v other
    there d = ap₂ (here_open v other) (client_other (record v { opens = v.opens ++ one ∷ [] }) one.kernel other (reopened_client v one) i.0 j.0 d) (opened_there v.opens one other d)

-- opens with one more
key_apart : (opens : List Open) (one : Open) → ((x : Open) → In x opens → same_stream one.stream x.stream ≡ false) → In (open_key one) (map open_key opens) → ⊥
key_apart opens one f m =
    let r : Made open_key (open_key one) opens = in_map open_key (open_key one) opens m in
    apart one.stream r.x.stream (f r.x r.there) (sym (ap (λ (k : StreamNo × ℕ). k.0) r.makes))

opens_last : (count : ℕ) (opens : List Open) (one : Open) → IsClient count one.kernel → one.count ≡ 1 → ((x : Open) → In x opens → same_stream one.stream x.stream ≡ false) → OpensShaped count opens → OpensShaped count (opens ++ one ∷ [])
opens_last count opens one i n f s = record {
  differ = subst Unique (sym (map-append open_key opens (one ∷ []))) (unique_append (map open_key opens) (open_key one) s.differ (key_apart opens one f));
  client = λ x m. elim (in_last x one opens m) [ inl a ↦ s.client x a | inr q ↦ subst (λ (y : Open). IsClient count y.kernel) (sym q) i ];
  counts = λ x m. elim (in_last x one opens m) [ inl a ↦ s.counts x a | inr q ↦ (let c : x.count ≡ 1 = ap (λ (y : Open). y.count) q ∙ n in omega (arith, c)) ];
  modes = λ x y a b e. by_place x y (in_last x one opens a) (in_last y one opens b) e;
}
  where
    by_place : (x y : Open) → In x opens ⊎ (x ≡ one) → In y opens ⊎ (y ≡ one) → x.stream ≡ y.stream → x.mode ≡ y.mode
    by_place x y (inl a) (inl b) e = s.modes x y a b e
    by_place x y (inl a) (inr q) e = absurd (apart one.stream x.stream (f x a) (e ∙ ap (λ (o : Open). o.stream) q))
    by_place x y (inr p) (inl b) e = absurd (apart one.stream y.stream (f y b) (sym e ∙ ap (λ (o : Open). o.stream) p))
    by_place x y (inr p) (inr q) e = ap (λ (o : Open). o.mode) p ∙ sym (ap (λ (o : Open). o.mode) q)

abbrev count_if : ℕ → Bool → ℕ
count_if n b = cond b n 0

one_counted : (one : Open) → one.count ≡ 1 → (stream : StreamNo) → counted stream one.kernel one ≡ one_of stream one.stream
one_counted one n stream = by_both (same_stream stream one.stream) (one.kernel == one.kernel) (eq-eqb one.kernel one.kernel refl)
  where
    by_both : (b c : Bool) → c ≡ true → count_if one.count (b && c) ≡ count_if 1 b
    by_both true true e = n
    by_both false c e = refl
    by_both true false e = absurd (cc (e))

reopened_streams : (z : Setting) (v : View) (one : Open) → IsClient (length v.clients) one.kernel → one.count ≡ 1 → Unnamed v one.stream → LocalStreams (at_kernel v one.kernel) → LocalStreams (reopened_here v one)
reopened_streams z v one i n u s = record {
  counts = λ stream.
      let a : total (counted stream one.kernel) (opened ++ one ∷ []) ≡ total (counted stream one.kernel) opened + counted stream one.kernel one = total_last (counted stream one.kernel) opened one in
      let b : copies stream (streams ++ one.stream ∷ []) ≡ copies stream streams + one_of stream one.stream = copies_last stream one.stream streams in
      let c : total (counted stream one.kernel) opened ≡ copies stream streams + total (on_way stream one.kernel) calls = s.counts stream in
      let d = one_counted one n stream in omega (arith, a, b, c, d);
  working = record {
    operates = λ x m f pid number stamp stream way e. has_last stream one.stream streams (s.working.operates x m f pid number stamp stream way e);
    writes_open = λ x m f pid number stamp stream way e w other k q. elim (in_last other one opened k) [
      | inl a ↦ s.working.writes_open x m f pid number stamp stream way e w other a q
      | inr r ↦ absurd (apart one.stream stream (sym (ap (is_about one.stream) e) ∙ things_apart v one.stream u x (in_filter (about one.kernel) x (things v) m).0) (sym q ∙ ap (λ (o : Open). o.stream) r))
    ];
    keeps_none = s.working.keeps_none;
    keeps_stream = λ x m f r stream place grants e. has_last stream one.stream streams (s.working.keeps_stream x m f r stream place grants e);
    moves_some = s.working.moves_some;
    closes_some = s.working.closes_some;
    waits_open = λ step m stream e. has_last stream one.stream streams (s.working.waits_open step m stream e);
    waits_writing = λ step m w other k e. elim (in_last other one opened k) [
      | inl a ↦ s.working.waits_writing step m w other a e
      | inr r ↦ (let p = u.waiting one.kernel i step m in let q : works_on one.stream step ≡ true = ap (λ (o : Open). works_on o.stream step) (sym r) ∙ e in absurd (cc (p, q)))
    ];
  };
}
  where
    opened : List Open
    opened = filter (λ (x : Open). x.kernel == one.kernel) v.opens

    streams : List StreamNo
    streams = (client v one.kernel).streams

    calls : List FileCall
    calls = filter (about one.kernel) (things v)

reopened_holders : (z : Setting) (v : View) (one : Open) → Still z v one.kernel → LocalHolders (at_kernel v one.kernel) → LocalHolders (reopened_here v one)
reopened_holders z v one t h = record {
  seen_below = h.seen_below;
  chained = h.chained;
  at_version = λ x m o n. let u = t.off in absurd (cc (o, u));
  writer_holds = λ x m r a. absurd (inactive a);
  holder_state = λ e. let u = t.unheld in absurd (cc (e, u));
  holder_grants = h.holder_grants;
  recall_ready = h.recall_ready;
  recall_on = h.recall_on;
  recall_holds = h.recall_holds;
  writer_ready = λ a e. absurd (inactive a);
  dirty_ready = h.dirty_ready;
  dirty_unanswered = h.dirty_unanswered;
  modes_agree = h.modes_agree;
}
  where
    inactive : Active one.kernel (client v one.kernel).stamp (client v one.kernel).mode (at_kernel v one.kernel).calls → ⊥
    inactive (inl o) = let u = t.off in cc (o, u)
    inactive (inr o) = let u = t.later o.call o.is_newer.0 o.grant o.is_newer.1 in let n = o.on in cc (n, u)

reopened_asking : (z : Setting) (v : View) (one : Open) → Asking z one.kernel (client v one.kernel) (at_kernel v one.kernel).calls → Asking z one.kernel (reopened_client v one) (at_kernel v one.kernel).calls
reopened_asking z v one a = record { off_empty = a.off_empty; one_fetch = a.one_fetch; fetch_waits = a.fetch_waits; fetch_on = a.fetch_on; fetch_absent = a.fetch_absent; fetch_within = a.fetch_within; ops_off = a.ops_off }

reopened_writes : (z : Setting) (v : View) (one : Open) → WritingBacks z one.kernel (current_stamp v one.kernel) (client v one.kernel) (at_kernel v one.kernel).calls → WritingBacks z one.kernel (current_stamp v one.kernel) (reopened_client v one) (at_kernel v one.kernel).calls
reopened_writes z v one w = record { one_each = w.one_each; dirty_within = w.dirty_within; carries = w.carries; held_dirty = w.held_dirty; under_size = w.under_size; size_under = w.size_under; last_size = w.last_size }

reopened_requests : (z : Setting) (v : View) (one : Open) → Still z v one.kernel → LocalRequests z (at_kernel v one.kernel) → LocalRequests z (reopened_here v one)
reopened_requests z v one t r = record {
  asking = reopened_asking z v one r.asking;
  write_backs = reopened_writes z v one r.write_backs;
  sizes = record {
    granted = r.sizes.granted;
    again = r.sizes.again;
    holder = λ q. let h = q.holds_it in let u = t.unheld in absurd (cc (h, u));
    done_size = r.sizes.done_size;
    flushed_holder = r.sizes.flushed_holder;
    flushed_covers = r.sizes.flushed_covers;
    flushed_within = r.sizes.flushed_within;
  };
  limits = record { size = r.limits.size; blocks = r.limits.blocks; waiting = r.limits.waiting; operates = r.limits.operates; writes_back = r.limits.writes_back; granted = r.limits.granted; flushed = r.limits.flushed; flushed_blocks = r.limits.flushed_blocks };
}

-- nobody uses its cache
pub reopened_off : (v : View) (one : Open) → Calm v → IsClient (length v.clients) one.kernel → (other : ℕ) → IsClient (length (reopened v one).clients) other → is_on (client (reopened v one) other).mode ≡ false
reopened_off v one c i = reopened_each v one i (λ h. is_on h.client.mode ≡ false) c.off (c.off one.kernel i)

pub reopened_contents : (z : Setting) (v : View) (one : Open) → Calm v → IsClient (length v.clients) one.kernel → Sound z v → (f : StandsFor z (reopened v one)) × (f.stood ≡ v.bytes)
reopened_contents z v one c i s = idle_contents z (reopened v one) (reopened_off v one c i)
    (reopened_each v one i (λ h. Asking z h.kernel h.client h.calls) (λ other j. (s.requests.each other j).asking) (reopened_asking z v one (s.requests.each one.kernel i).asking))
    (reopened_each v one i (λ h. WritingBacks z h.kernel h.current h.client h.calls) (λ other j. (s.requests.each other j).write_backs) (reopened_writes z v one (s.requests.each one.kernel i).write_backs))
    (unflushed z v c s)

pub reopened_sound : (z : Setting) (v : View) (one : Open) → Calm v → IsClient (length v.clients) one.kernel → one.count ≡ 1 → Unnamed v one.stream → Sound z v → Sound z (reopened v one)
reopened_sound z v one c i n u s = record {
  shapes = record {
    items = record { some = subst (λ k. 1 ≤ k) (sym count) s.shapes.items.some; fifteen = subst (λ k. k ≤ 15) (sym count) s.shapes.items.fifteen; stamp_each = s.shapes.items.stamp_each ∙ sym count; mode_each = s.shapes.items.mode_each ∙ sym count; given_each = s.shapes.items.given_each ∙ sym count };
    calls = λ x m. subst (λ k. Shaped k x) (sym count) (s.shapes.calls x m);
    carried = λ x m. subst (λ k. CarryShaped k x) (sym count) (s.shapes.carried x m);
    numbers = s.shapes.numbers;
    each = reopened_each v one i LocalShapes s.shapes.each (let t = s.shapes.each one.kernel i in record { numbered = t.numbered; waits = t.waits });
  };
  streams = record {
    new = λ x m r pid number stream mode truncate e.
        let once = s.streams.new x m r pid number stream mode truncate e in
        let d : same_stream stream one.stream ≡ false = apart_back one.stream stream (sym (ap (is_about one.stream) e) ∙ u.calls x m) in record {
          shared = once.shared;
          opens = λ o k. elim (in_last o one v.opens k) [ inl a ↦ once.opens o a | inr q ↦ subst (λ (y : Open). same_stream stream y.stream ≡ false) (sym q) d ];
          calls = once.calls;
          carried = once.carried;
          installed = λ other j. reopened_each v one i (λ h. has_stream stream h.client.streams ≡ false) once.installed (has_not_last stream one.stream (client v one.kernel).streams (once.installed one.kernel i) d) other j;
          waiting = λ other j. reopened_each v one i (λ h. (step : FileStep) → In step h.client.waiting → works_on stream step ≡ false) once.waiting (once.waiting one.kernel i) other j;
        };
    opens = subst (λ k. OpensShaped k (v.opens ++ one ∷ [])) (sym count) (opens_last (length v.clients) v.opens one i n u.opens s.streams.opens);
    each = reopened_each v one i LocalStreams s.streams.each (reopened_streams z v one i n u (s.streams.each one.kernel i));
  };
  stamps = record { alone = s.stamps.alone; each = reopened_each v one i LocalStamps s.stamps.each (let t = s.stamps.each one.kernel i in record { facts = t.facts; pairs = t.pairs }) };
  decisions = record {
    queued = record { asks = s.decisions.queued.asks; idle = s.decisions.queued.idle };
    decided = record { told = λ x rest b w k. (let t = c.uncached in absurd (cc (k, t))); spared = s.decisions.decided.spared };
    shared = record { uncached = s.decisions.shared.uncached; stays = λ stream e. list_any-append (λ (x : Open). same_stream stream x.stream) v.opens (one ∷ []) ∙ ap (λ b. b || list_any (λ (x : Open). same_stream stream x.stream) (one ∷ [])) (s.decisions.shared.stays stream e) };
    each = reopened_each v one i LocalDecisions s.decisions.each (record { off = (s.decisions.each one.kernel i).off; on = λ k. (let t = c.uncached in absurd (cc (k, t))) });
  };
  modes = reopened_each v one i LocalModes s.modes (s.modes one.kernel i);
  holders = record {
    is_client = λ holder e. let t = c.unheld in absurd (cc (e, t));
    opens = λ holder e. let t = c.unheld in absurd (cc (e, t));
    stale = λ holder e. let t = c.unheld in absurd (cc (e, t));
    exclusive = λ k. (let t = c.uncached in absurd (cc (k, t)));
    each = reopened_each v one i LocalHolders s.holders.each (reopened_holders z v one (still_at z v one.kernel i c s) (s.holders.each one.kernel i));
  };
  requests = record { limit = s.requests.limit; each = reopened_each v one i (LocalRequests z) s.requests.each (reopened_requests z v one (still_at z v one.kernel i c s) (s.requests.each one.kernel i)) };
  contents = (reopened_contents z v one c i s).0;
}
  where
    count : length (reopened v one).clients ≡ length v.clients
    count = reopened_count v one
