-- A kernel that nothing is on its way from or to is granted a calm file, without its cache.
use Rattle.std.proofs.Common.{◌≡◌, ◌≢◌, ◌≤◌, ℕ, ◌+◌, ◌-◌, ◌==◌, true, false, not, List, [], ◌∷◌, length, filter, Option, Some, None, refl, sym, ◌∙◌, ap, subst, inl, inr, arith, length-set, get_or-set_same, get_or-set_other}
use Rattle.std.proofs.lemmas.Bool.{and_parts, not-true}
use Rattle.sprite_ids.specs.declared.CacheMode.{CacheMode}
use Rattle.sprite_ids.specs.declared.CacheMode.TheVariants as cache
use Rattle.file_views.specs.declared.grant.FileGrant.{FileGrant}
use Rattle.file_views.specs.declared.call.FileCall.{FileCall}
use Rattle.file_views.specs.declared.call.Carry.{Carry}
use Rattle.file_views.specs.declared.client.Client.{Client}
use Rattle.file_views.specs.declared.step.FileStep.{FileStep}
use Rattle.file_views.specs.declared.view.View.{View}
use Rattle.file_views.specs.Setting.{Setting}
use Rattle.file_views.specs.Streams.{has_stream, is_any}
use Rattle.file_views.specs.Possible.{works_on}
use Rattle.file_views.specs.Clients.{is_on, mode_of, granted}
use Rattle.file_views.specs.Views.{client, current_stamp, mode_given, grant_given, last_stamp, things, is_holder}
use Rattle.file_views.specs.Here.{In, IsClient, Here, at_kernel, about}
use Rattle.file_views.specs.SoundShapes.{Items, Shaped, CarryShaped, LocalShapes}
use Rattle.file_views.specs.SoundStreams.{OpensShaped, LocalStreams}
use Rattle.file_views.specs.SoundStamps.{LocalStamps}
use Rattle.file_views.specs.SoundDecisions.{LocalDecisions}
use Rattle.file_views.specs.SoundModes.{LocalModes}
use Rattle.file_views.specs.SoundHolders.{Active, LocalHolders}
use Rattle.file_views.specs.SoundRequests.{Asking, WritingBacks, LocalRequests}
use Rattle.file_views.specs.SoundContents.{StandsFor}
use Rattle.file_views.specs.Sound.{Sound}
use Rattle.file_views.proofs.MemberLaws.{in_filter}
use Rattle.file_views.proofs.EffectLaws.{client_set, client_other, count_set, by_kernel, places_apart}
use Rattle.file_views.proofs.StampLaws.{in_things}
use Rattle.restart_views.specs.ServerMoves.{off_grant, greeted, is_quiet}
use Rattle.restart_views.proofs.ViewLaws.{any_none}
use Rattle.restart_views.proofs.CalmLaws.{Calm, still_at, unflushed, idle_contents}

-- one kernel's part of the view, with other things kept of it
abbrev pub here_with : View → ℕ → Client → ℕ → CacheMode → Option FileGrant → Here
here_with v kernel c current mode given = record {
  kernel = kernel;
  client = c;
  current = current;
  mode = mode;
  given = given;
  uncached = v.uncached;
  opened = filter (λ one. one.kernel == kernel) v.opens;
  calls = filter (about kernel) (things v);
  version = v.version;
  holds = is_holder v kernel;
  bytes = v.bytes;
}

same_with : (v : View) (kernel : ℕ) (c d : Client) (current other : ℕ) (mode more : CacheMode) (given last : Option FileGrant) → c ≡ d → current ≡ other → mode ≡ more → given ≡ last → here_with v kernel c current mode given ≡ here_with v kernel d other more last
same_with v kernel c d current other mode more given last a b e f = ap (λ x. here_with v kernel x current mode given) a ∙ (ap (λ x. here_with v kernel d x mode given) b ∙ (ap (λ x. here_with v kernel d other x given) e ∙ ap (λ x. here_with v kernel d other more x) f))

given_stamp : (x y : FileGrant) → Some x ≡ Some y → y ≡ x
given_stamp x y e = cc (e)

none_carried : (carried : List Carry) → is_any carried ≡ false → (one : Carry) → In one carried → ⊥
none_carried [] e one m = m
none_carried (x ∷ xs) e one m = cc (e)

quiet_none : (v : View) (kernel : ℕ) → is_quiet v kernel ≡ true → (one : FileCall) → In one (filter (about kernel) (things v)) → ⊥
quiet_none v kernel q one m =
    let p = and_parts (not (is_any v.carried)) _ q in
    let k = in_filter (about kernel) one (things v) m in
    elim (in_things v one k.0) [
      | inl r ↦ none_carried v.carried (not-true _ p.0) r.x r.there
      | inr c ↦ (let n = any_none (about kernel) v.calls (not-true _ p.1) one c in let t = k.1 in cc (n, t))
    ]

inactive : (v : View) (kernel : ℕ) → is_quiet v kernel ≡ true → Active kernel (last_stamp v + 1) cache.Off (filter (about kernel) (things v)) → ⊥
inactive v kernel q (inl o) = cc (o)
inactive v kernel q (inr o) = quiet_none v kernel q o.call o.is_newer.0

abbrev pub greeted_client : View → ℕ → Client
greeted_client v kernel = granted (client v kernel) (off_grant v)

abbrev pub greeted_given : View → Option FileGrant
greeted_given v = Some (record (off_grant v) { size = 0 })

abbrev pub greeted_here : View → ℕ → Here
greeted_here v kernel = here_with v kernel (greeted_client v kernel) (last_stamp v + 1) cache.Off (greeted_given v)

pub greeted_count : (v : View) (kernel : ℕ) → length (greeted v kernel).clients ≡ length v.clients
greeted_count v kernel = count_set v kernel (greeted_client v kernel)

-- what is so of each other kernel stays so
pub greeted_each : (v : View) (kernel : ℕ) → IsClient (length v.clients) kernel → Items (length v.clients) v.stamps v.modes v.given → (P : Here → Type 0) → ((other : ℕ) → IsClient (length v.clients) other → P (at_kernel v other)) → P (greeted_here v kernel) → (other : ℕ) → IsClient (length (greeted v kernel).clients) other → P (at_kernel (greeted v kernel) other)
greeted_each v kernel i items P f p other j = by_kernel (λ k. P (at_kernel w k)) kernel other (subst P (sym here) p) (λ d. subst P (sym (there d)) (f other (subst (λ n. IsClient n other) (greeted_count v kernel) j)))
  where
    w : View
    w = greeted v kernel

    here : at_kernel w kernel ≡ greeted_here v kernel
    here = same_with v kernel (client w kernel) (greeted_client v kernel) (current_stamp w kernel) (last_stamp v + 1) (mode_given w kernel) cache.Off (grant_given w kernel) (greeted_given v)
        (client_set v kernel (greeted_client v kernel) i)
        (get_or-set_same v.stamps (kernel - 1) (last_stamp v + 1) 0 (let e = items.stamp_each in omega (arith, e, i.0, i.1)))
        (get_or-set_same v.modes (kernel - 1) cache.Off cache.None (let e = items.mode_each in omega (arith, e, i.0, i.1)))
        (get_or-set_same v.given (kernel - 1) (greeted_given v) None (let e = items.given_each in omega (arith, e, i.0, i.1)))

    there : other ≢ kernel → at_kernel w other ≡ at_kernel v other
    there d = let a = places_apart kernel other i.0 j.0 d in same_with v other (client w other) (client v other) (current_stamp w other) (current_stamp v other) (mode_given w other) (mode_given v other) (grant_given w other) (grant_given v other)
        (client_other v kernel other (greeted_client v kernel) i.0 j.0 d)
        (get_or-set_other v.stamps (kernel - 1) (other - 1) (last_stamp v + 1) 0 a)
        (get_or-set_other v.modes (kernel - 1) (other - 1) cache.Off cache.None a)
        (get_or-set_other v.given (kernel - 1) (other - 1) (greeted_given v) None a)

asks_here : (z : Setting) (v : View) (kernel : ℕ) → is_quiet v kernel ≡ true → Asking z kernel (greeted_client v kernel) (filter (about kernel) (things v))
asks_here z v kernel q = record {
  off_empty = λ o. refl;
  one_fetch = λ one other n. absurd (quiet_none v kernel q one n);
  fetch_waits = λ one n. absurd (quiet_none v kernel q one n);
  fetch_on = λ one n. absurd (quiet_none v kernel q one n);
  fetch_absent = λ one n. absurd (quiet_none v kernel q one n);
  fetch_within = λ one n. absurd (quiet_none v kernel q one n);
  ops_off = λ one n. absurd (quiet_none v kernel q one n);
}

writes_here : (z : Setting) (v : View) (kernel : ℕ) → is_quiet v kernel ≡ true → WritingBacks z kernel (last_stamp v + 1) (greeted_client v kernel) (filter (about kernel) (things v))
writes_here z v kernel q = record {
  one_each = λ one other n. absurd (quiet_none v kernel q one n);
  dirty_within = λ one m. absurd m;
  carries = λ one n. absurd (quiet_none v kernel q one n);
  held_dirty = λ one n. absurd (quiet_none v kernel q one n);
  under_size = λ one n. absurd (quiet_none v kernel q one n);
  size_under = λ one n. absurd (quiet_none v kernel q one n);
  last_size = λ one n. absurd (quiet_none v kernel q one n);
}

-- nobody uses its cache
pub greeted_off : (z : Setting) (v : View) (kernel : ℕ) → Calm v → IsClient (length v.clients) kernel → Sound z v → (other : ℕ) → IsClient (length (greeted v kernel).clients) other → is_on (client (greeted v kernel) other).mode ≡ false
greeted_off z v kernel c i s = greeted_each v kernel i s.shapes.items (λ h. is_on h.client.mode ≡ false) c.off refl

pub greeted_contents : (z : Setting) (v : View) (kernel : ℕ) → Calm v → IsClient (length v.clients) kernel → is_quiet v kernel ≡ true → Sound z v → (f : StandsFor z (greeted v kernel)) × (f.stood ≡ v.bytes)
greeted_contents z v kernel c i q s = idle_contents z (greeted v kernel) (greeted_off z v kernel c i s)
    (greeted_each v kernel i s.shapes.items (λ h. Asking z h.kernel h.client h.calls) (λ other j. (s.requests.each other j).asking) (asks_here z v kernel q))
    (greeted_each v kernel i s.shapes.items (λ h. WritingBacks z h.kernel h.current h.client h.calls) (λ other j. (s.requests.each other j).write_backs) (writes_here z v kernel q))
    (unflushed z v c s)

pub greeted_sound : (z : Setting) (v : View) (kernel : ℕ) → Calm v → IsClient (length v.clients) kernel → is_quiet v kernel ≡ true → Sound z v → Sound z (greeted v kernel)
greeted_sound z v kernel c i q s = record {
  shapes = record {
    items = record { some = subst (λ n. 1 ≤ n) (sym count) s.shapes.items.some; fifteen = subst (λ n. n ≤ 15) (sym count) s.shapes.items.fifteen; stamp_each = length-set v.stamps (kernel - 1) (last_stamp v + 1) ∙ (s.shapes.items.stamp_each ∙ sym count); mode_each = length-set v.modes (kernel - 1) cache.Off ∙ (s.shapes.items.mode_each ∙ sym count); given_each = length-set v.given (kernel - 1) given ∙ (s.shapes.items.given_each ∙ sym count) };
    calls = λ one m. subst (λ n. Shaped n one) (sym count) (s.shapes.calls one m);
    carried = λ one m. subst (λ n. CarryShaped n one) (sym count) (s.shapes.carried one m);
    numbers = s.shapes.numbers;
    each = greeted_each v kernel i s.shapes.items LocalShapes s.shapes.each (record { numbered = record { differ = tt; held = λ one m. absurd m; sent = λ one m. absurd (quiet_none v kernel q one m) }; waits = (s.shapes.each kernel i).waits });
  };
  streams = record {
    new = λ one m n pid number stream mode truncate e. let once = s.streams.new one m n pid number stream mode truncate e in record {
      shared = once.shared;
      opens = once.opens;
      calls = once.calls;
      carried = once.carried;
      installed = λ other j. greeted_each v kernel i s.shapes.items (λ h. has_stream stream h.client.streams ≡ false) once.installed (once.installed kernel i) other j;
      waiting = λ other j. greeted_each v kernel i s.shapes.items (λ h. (step : FileStep) → In step h.client.waiting → works_on stream step ≡ false) once.waiting (once.waiting kernel i) other j;
    };
    opens = subst (λ n. OpensShaped n v.opens) (sym count) s.streams.opens;
    each = greeted_each v kernel i s.shapes.items LocalStreams s.streams.each (let t = s.streams.each kernel i in record { counts = t.counts; working = t.working });
  };
  stamps = record {
    alone = s.stamps.alone;
    each = greeted_each v kernel i s.shapes.items LocalStamps s.stamps.each (record {
      facts = record {
        own_below = omega arith;
        given_below = λ grant e. (let k : grant.stamp ≡ last_stamp v + 1 = ap (λ (g : FileGrant). g.stamp) (given_stamp (record (off_grant v) { size = 0 }) grant e) in omega (arith, k));
        granted = λ one n. absurd (quiet_none v kernel q one n);
        again = λ one n. absurd (quiet_none v kernel q one n);
        request = λ one n. absurd (quiet_none v kernel q one n);
        stale = λ one n. absurd (quiet_none v kernel q one n);
        called = λ one n. absurd (quiet_none v kernel q one n);
        before = λ one n. absurd (quiet_none v kernel q one n);
        behind = λ one n. absurd (quiet_none v kernel q one n);
        recalled = λ one n. absurd (quiet_none v kernel q one n);
        stopped = λ one n. absurd (quiet_none v kernel q one n);
      };
      pairs = λ one other n. absurd (quiet_none v kernel q one n);
    });
  };
  decisions = record {
    queued = record { asks = s.decisions.queued.asks; idle = s.decisions.queued.idle };
    decided = record { told = λ one rest b w u. (let k = c.uncached in absurd (cc (k, u))); spared = s.decisions.decided.spared };
    shared = record { uncached = s.decisions.shared.uncached; stays = s.decisions.shared.stays };
    each = greeted_each v kernel i s.shapes.items LocalDecisions s.decisions.each (record { off = λ u. refl; on = λ u. (let k = c.uncached in absurd (cc (k, u))) });
  };
  modes = greeted_each v kernel i s.shapes.items LocalModes s.modes (record {
    reached = inl refl;
    given_mode = λ grant e x. sym (ap (λ (g : FileGrant). mode_of g.on) (given_stamp (record (off_grant v) { size = 0 }) grant e));
    given_last = λ one n. absurd (quiet_none v kernel q one n);
    again = λ one n. absurd (quiet_none v kernel q one n);
    on_now = λ o. absurd (cc (o));
    on_later = λ one n. absurd (quiet_none v kernel q one n);
    off_uncached = λ one n. absurd (quiet_none v kernel q one n);
    off_now = λ one n. absurd (quiet_none v kernel q one n);
    off_later = λ one n. absurd (quiet_none v kernel q one n);
  });
  holders = record {
    is_client = λ holder e. let u = c.unheld in absurd (cc (e, u));
    opens = λ holder e. let u = c.unheld in absurd (cc (e, u));
    stale = λ holder e. let u = c.unheld in absurd (cc (e, u));
    exclusive = s.holders.exclusive;
    each = greeted_each v kernel i s.shapes.items LocalHolders s.holders.each (record {
      seen_below = omega arith;
      chained = record { first = λ one n. absurd (quiet_none v kernel q one n); rises = λ one n. absurd (quiet_none v kernel q one n); under = λ one n. absurd (quiet_none v kernel q one n); linked = λ one n. absurd (quiet_none v kernel q one n); joined = λ one n. absurd (quiet_none v kernel q one n); last = λ one n. absurd (quiet_none v kernel q one n) };
      at_version = λ one m o. absurd (cc (o));
      writer_holds = λ one m r a. absurd (inactive v kernel q a);
      holder_state = λ e. let u = (still_at z v kernel i c s).unheld in absurd (cc (e, u));
      holder_grants = λ one n. absurd (quiet_none v kernel q one n);
      recall_ready = λ r. absurd (quiet_none v kernel q r.call r.there);
      recall_on = λ one n. absurd (quiet_none v kernel q one n);
      recall_holds = λ one n. absurd (quiet_none v kernel q one n);
      writer_ready = λ a e. absurd (inactive v kernel q a);
      dirty_ready = λ one n. absurd n;
      dirty_unanswered = λ one n. absurd n;
      modes_agree = λ e. refl;
    });
  };
  requests = record {
    limit = s.requests.limit;
    each = greeted_each v kernel i s.shapes.items (LocalRequests z) s.requests.each (record {
      asking = asks_here z v kernel q;
      write_backs = writes_here z v kernel q;
      sizes = record {
        granted = λ one n. absurd (quiet_none v kernel q one n);
        again = λ one n. absurd (quiet_none v kernel q one n);
        holder = λ r. (let h = r.holds_it in let u = (still_at z v kernel i c s).unheld in absurd (cc (h, u)));
        done_size = λ one n. absurd (quiet_none v kernel q one n);
        flushed_holder = λ one n. absurd (quiet_none v kernel q one n);
        flushed_covers = λ one n. absurd (quiet_none v kernel q one n);
        flushed_within = λ one n. absurd (quiet_none v kernel q one n);
      };
      limits = record {
        size = s.requests.limit;
        blocks = λ one m. absurd m;
        waiting = (s.requests.each kernel i).limits.waiting;
        operates = λ one n. absurd (quiet_none v kernel q one n);
        writes_back = λ one n. absurd (quiet_none v kernel q one n);
        granted = λ one n. absurd (quiet_none v kernel q one n);
        flushed = λ one n. absurd (quiet_none v kernel q one n);
        flushed_blocks = λ one n. absurd (quiet_none v kernel q one n);
      };
    });
  };
  contents = (greeted_contents z v kernel c i q s).0;
}
  where
    w : View
    w = greeted v kernel

    given : Option FileGrant
    given = greeted_given v

    count : length w.clients ≡ length v.clients
    count = greeted_count v kernel
