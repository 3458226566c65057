-- Whether clients may cache matters to soundness only while a callback is out and the file isn't uncached.
use Rattle.std.proofs.Common.{◌≡◌, ◌||◌, Bool, true, false}
use Rattle.file_views.specs.declared.view.View.{View}
use Rattle.file_views.specs.Setting.{Setting, sprite_setting}
use Rattle.file_views.specs.SoundDecisions.{Decided}
use Rattle.file_views.specs.Sound.{Sound}
use Rattle.restart_views.specs.ColdSteps.{uncached_setting}

pub with_caching : (z : Setting) (b : Bool) (v : View) → Decided (record z { cached = b }) v → Sound z v → Sound (record z { cached = b }) v
with_caching z b v d s = record {
  shapes = s.shapes;
  streams = s.streams;
  stamps = s.stamps;
  decisions = record { queued = s.decisions.queued; decided = d; shared = s.decisions.shared; each = s.decisions.each };
  modes = s.modes;
  holders = s.holders;
  requests = record {
    limit = s.requests.limit;
    each = λ kernel i. let r = s.requests.each kernel i in record {
      asking = record { off_empty = r.asking.off_empty; one_fetch = r.asking.one_fetch; fetch_waits = r.asking.fetch_waits; fetch_on = r.asking.fetch_on; fetch_absent = r.asking.fetch_absent; fetch_within = r.asking.fetch_within; ops_off = r.asking.ops_off };
      write_backs = record { one_each = r.write_backs.one_each; dirty_within = r.write_backs.dirty_within; carries = r.write_backs.carries; held_dirty = r.write_backs.held_dirty; under_size = r.write_backs.under_size; size_under = r.write_backs.size_under; last_size = r.write_backs.last_size };
      sizes = record {
        granted = r.sizes.granted;
        again = r.sizes.again;
        holder = λ q n. let h = r.sizes.holder q n in record { covers = h.covers; dirty = h.dirty };
        done_size = r.sizes.done_size;
        flushed_holder = r.sizes.flushed_holder;
        flushed_covers = r.sizes.flushed_covers;
        flushed_within = r.sizes.flushed_within;
      };
      limits = record { size = r.limits.size; blocks = r.limits.blocks; waiting = r.limits.waiting; operates = r.limits.operates; writes_back = r.limits.writes_back; granted = r.limits.granted; flushed = r.limits.flushed; flushed_blocks = r.limits.flushed_blocks };
    };
  };
  contents = record {
    stood = s.contents.stood;
    stands = record { dirty_size = s.contents.stands.dirty_size; flushed_size = s.contents.stands.flushed_size; flushed_part = s.contents.stands.flushed_part; rest = s.contents.stands.rest; size = s.contents.stands.size };
    each = λ kernel i. let g = s.contents.each kernel i in record {
      good = record { engaged_size = g.good.engaged_size; engaged = g.good.engaged; fetched = g.good.fetched; kept = g.good.kept };
      carried = record { whole_block = g.carried.whole_block; stores = g.carried.stores; done = g.carried.done; fits = g.carried.fits };
    };
  };
}

-- an uncached file
pub none_cache : (z : Setting) (v : View) → v.uncached ≡ true → Sound z v → Sound (uncached_setting z) v
none_cache z v u s = with_caching z false v (record { told = λ one rest b w n. absurd (cc (u, n)); spared = s.decisions.decided.spared }) s

or_true : (b : Bool) → (b || true) ≡ false → ⊥
or_true true e = cc (e)
or_true false e = cc (e)

-- any file
pub some_cache : (v : View) → Sound (uncached_setting sprite_setting) v → Sound sprite_setting v
some_cache v s = with_caching (uncached_setting sprite_setting) true v (record { told = λ one rest b w n. absurd (or_true v.uncached (s.decisions.decided.told one rest b w n)); spared = s.decisions.decided.spared }) s
