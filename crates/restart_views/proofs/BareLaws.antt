-- A file that nobody has opened or knows, uncached, at any version: it is sound.
use Rattle.std.proofs.Common.{◌≡◌, ◌≤◌, ◌<◌, ℕ, ◌-◌, true, List, length, refl, sym, ap, subst, inr, arith}
use Rattle.std.proofs.lemmas.List.{get_or-replicate}
use Rattle.sprite_ids.specs.declared.CacheMode.TheVariants as cache
use Rattle.file_views.specs.declared.client.Client.{Client}
use Rattle.file_views.specs.Setting.{Setting}
use Rattle.file_views.specs.Clients.{new_client, is_on}
use Rattle.file_views.specs.Contents.{part}
use Rattle.file_views.specs.Views.{new_view, client, mode_given}
use Rattle.file_views.specs.Here.{In, IsClient}
use Rattle.file_views.specs.Sound.{Sound}
use Rattle.restart_views.specs.ServerMoves.{bare}
use Rattle.file_views.proofs.ShapeMoveLaws.{client_new, count_new, new_has_shapes}
use Rattle.file_views.proofs.StreamMoveLaws.{new_has_streams}
use Rattle.file_views.proofs.StampMoveLaws.{new_has_stamps}
use Rattle.file_views.proofs.ModeStepLaws.{new_has_modes}
use Rattle.file_views.proofs.HolderStepLaws.{new_has_holders}
use Rattle.file_views.proofs.AskingMoveLaws.{new_has_asking}
use Rattle.file_views.proofs.WritingMoveLaws.{new_has_writing}
use Rattle.file_views.proofs.LimitLaws.{new_has_limits}
use Rattle.file_views.proofs.ContentPartLaws.{new_stands_at}

pub bare_sound : (z : Setting) (count : ℕ) (bytes : List ℕ) (version next : ℕ) → 1 ≤ count → count ≤ 15 → length bytes ≤ z.most → Sound z (bare count bytes version next)
bare_sound z count bytes version next low high l =
    let s = new_has_shapes count bytes low high in
    let t = new_has_streams count bytes in
    let p = new_has_stamps count bytes in
    let m = new_has_modes count bytes in
    let h = new_has_holders count bytes in
    let f = new_has_limits z count bytes l in
    let c = new_stands_at z count bytes in
    let k = c.0 in
    record {
      shapes = record { items = s.items; calls = s.calls; carried = s.carried; numbers = record { differ = tt; under = λ one n. absurd n }; each = λ kernel i. record { numbered = (s.each kernel i).numbered; waits = (s.each kernel i).waits } };
      streams = record { new = λ one n. absurd n; opens = t.opens; each = λ kernel i. record { counts = (t.each kernel i).counts; working = (t.each kernel i).working } };
      stamps = record {
        alone = λ one other n. absurd n;
        each = λ kernel i. record {
          facts = record {
            own_below = (p.each kernel i).facts.own_below;
            given_below = (p.each kernel i).facts.given_below;
            granted = λ one n. absurd n;
            again = λ one n. absurd n;
            request = λ one n. absurd n;
            stale = λ one n. absurd n;
            called = λ one n. absurd n;
            before = λ one n. absurd n;
            behind = λ one n. absurd n;
            recalled = λ one n. absurd n;
            stopped = λ one n. absurd n;
          };
          pairs = λ one other n. absurd n;
        };
      };
      decisions = record {
        queued = record { asks = λ e. absurd (cc (e)); idle = λ e. refl };
        decided = record { told = λ one rest e. absurd (cc (e)); spared = λ one rest e other n. absurd n };
        shared = record { uncached = λ stream e. absurd (cc (e)); stays = λ stream e. absurd (cc (e)) };
        each = λ kernel i. record { off = λ u. ap is_on (unknown kernel i); on = λ u. absurd (cc (u)) };
      };
      modes = λ kernel i. record {
        reached = (m kernel i).reached;
        given_mode = (m kernel i).given_mode;
        given_last = λ one n. absurd n;
        again = λ one n. absurd n;
        on_now = (m kernel i).on_now;
        on_later = λ one n. absurd n;
        off_uncached = λ one n. absurd n;
        off_now = λ one n. absurd n;
        off_later = λ one n. absurd n;
      };
      holders = record {
        is_client = h.is_client;
        opens = h.opens;
        stale = λ holder e. absurd (cc (e));
        exclusive = λ e. refl;
        each = λ kernel i. record {
          seen_below = (let n : (client (new_view count bytes) kernel).version ≡ 0 = ap (λ (c : Client). c.version) (is_new kernel i) in omega (arith, n));
          chained = record { first = λ one n. absurd n; rises = λ one n. absurd n; under = λ one n. absurd n; linked = λ one n. absurd n; joined = λ one n. absurd n; last = λ one n. absurd n };
          at_version = λ one n. absurd n;
          writer_holds = (h.each kernel i).writer_holds;
          holder_state = λ e. absurd (cc (e));
          holder_grants = (h.each kernel i).holder_grants;
          recall_ready = λ r. absurd r.there;
          recall_on = (h.each kernel i).recall_on;
          recall_holds = (h.each kernel i).recall_holds;
          writer_ready = λ a e. absurd e.there;
          dirty_ready = λ one n. absurd (subst (λ (c : Client). In one c.blocks) (is_new kernel i) n);
          dirty_unanswered = (h.each kernel i).dirty_unanswered;
          modes_agree = (h.each kernel i).modes_agree;
        };
      };
      requests = record {
        limit = l;
        each = λ kernel i. record {
          asking = new_has_asking z count bytes kernel i;
          write_backs = new_has_writing z count bytes kernel i;
          sizes = record {
            granted = λ one n. absurd n;
            again = λ one n. absurd n;
            holder = λ r. absurd (cc (r.holds_it));
            done_size = λ one n. absurd n;
            flushed_holder = λ one n. absurd n;
            flushed_covers = λ one n. absurd n;
            flushed_within = λ one n. absurd n;
          };
          limits = f.each kernel i;
        };
      };
      contents = record {
        stood = k.stood;
        stands = record {
          dirty_size = k.stands.dirty_size;
          flushed_size = k.stands.flushed_size;
          flushed_part = k.stands.flushed_part;
          rest = λ number. inr (inr (sym (ap (λ (bs : List ℕ). part z bs number) c.1)));
          size = inr (inr (sym (ap length c.1)));
        };
        each = λ kernel i. record {
          good = record {
            engaged_size = (k.each kernel i).good.engaged_size;
            engaged = (k.each kernel i).good.engaged;
            fetched = (k.each kernel i).good.fetched;
            kept = λ o. absurd (off kernel i o);
          };
          carried = (k.each kernel i).carried;
        };
      };
    }
  where
    within : (kernel : ℕ) → IsClient (length (new_view count bytes).clients) kernel → IsClient count kernel
    within kernel i = subst (λ n. IsClient n kernel) (count_new count bytes) i

    is_new : (kernel : ℕ) → IsClient (length (new_view count bytes).clients) kernel → client (new_view count bytes) kernel ≡ new_client
    is_new kernel i = client_new count bytes kernel (within kernel i)

    before : (kernel : ℕ) → IsClient count kernel → kernel - 1 < count
    before kernel i = omega (arith, i.0, i.1)

    unknown : (kernel : ℕ) → IsClient (length (new_view count bytes).clients) kernel → mode_given (new_view count bytes) kernel ≡ cache.None
    unknown kernel i = get_or-replicate count (kernel - 1) cache.None cache.None (before kernel (within kernel i))

    off : (kernel : ℕ) → IsClient (length (new_view count bytes).clients) kernel → is_on (client (new_view count bytes) kernel).mode ≡ true → ⊥
    off kernel i o = cc (o, ap (λ (c : Client). is_on c.mode) (is_new kernel i))
