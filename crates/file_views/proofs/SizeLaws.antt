-- Sizes, a part of the seventh layer of soundness, said of one kernel.
use Rattle.std.proofs.Common.{◌≡◌, ◌≤◌, ◌<◌, ◌⊎◌, ℕ, ◌+◌, ◌-◌, ◌*◌, ◌/◌, ◌==◌, nat_lt, Bool, true, false, cond, ◌&&◌, is_some, List, [], ◌∷◌, ◌++◌, length, take, drop, Option, Some, None, refl, sym, ap, ◌∙◌, subst, inl, inr, arith, eqb-true, max, length-append, length-take, length-drop}
use Rattle.std.proofs.lemmas.Bool.{and_parts}
use Rattle.std.proofs.lemmas.List.{length-replicate}
use Rattle.sprite_ids.specs.declared.BlockNo.{BlockNo}
use Rattle.sprite_ids.specs.declared.StreamNo.{StreamNo}
use Rattle.sprite_ids.specs.declared.CacheMode.{CacheMode}
use Rattle.file_views.specs.declared.grant.FileGrant.{FileGrant}
use Rattle.file_views.specs.declared.body.FileBody.{FileBody}
use Rattle.file_views.specs.declared.body.FileBody.TheVariants as form
use Rattle.file_views.specs.declared.opens.Open.{Open}
use Rattle.file_views.specs.declared.client.Held.{Held}
use Rattle.file_views.specs.declared.client.Client.{Client}
use Rattle.file_views.specs.declared.call.FileCall.{FileCall}
use Rattle.file_views.specs.declared.step.FileStep.{FileStep}
use Rattle.file_views.specs.declared.step.FileStep.TheVariants as act
use Rattle.file_views.specs.Setting.{Setting}
use Rattle.file_views.specs.Contents.{zeros, grown, overlay, put_block, blocks_between}
use Rattle.file_views.specs.Streams.{is_any}
use Rattle.file_views.specs.Clients.{is_on, mode_of, held, same_number, without_block, with_block, cleaned, blocks_written_back, granted, blocks_written, write_cached, done_cached}
use Rattle.file_views.specs.Here.{In, Arrives, EachNewer, Answered, asked_stream}
use Rattle.file_views.specs.SoundModes.{SameNewer}
use Rattle.file_views.specs.SoundHolders.{Ready, Coming, Keeps as KeepsIt}
use Rattle.file_views.specs.SoundRequests.{is_dirty_in, WritesBack, Present, HolderSize, Sizes}
use Rattle.file_views.proofs.MemberLaws.{held_found}
use Rattle.file_views.proofs.ClientLaws.{choose_by}
use Rattle.file_views.proofs.AskingLaws.{held_with, held_without, held_written}
use Rattle.file_views.proofs.BlockLaws.{in_or_out, Freshly, freshly_written, size_or_last}
use Rattle.file_views.proofs.HolderLaws.{Came, Arrivals, DirtyIn}
use Rattle.file_views.proofs.WritingLaws.{Keeps, Low, too_old}

-- what is so of one call
pub record RightSize (z : Setting) (kernel : ℕ) (c : Client) (holds : Bool) (bytes : List ℕ) (one : FileCall) : Type 0 where
  pub again : one.from ≡ kernel → (grant : FileGrant) → one.reply ≡ Some (form.Again grant) → c.stamp < grant.stamp → grant.on ≡ true → grant.size ≡ length bytes
  pub done_size : (block : BlockNo) (size : ℕ) (piece : List ℕ) → WritesBack kernel c.stamp one block size piece → one.reply ≡ Some form.Done → (there : Held) → Present c.blocks block.0 one.dirty there → block.0 ≡ (c.size - 1) / z.block → length bytes ≡ c.size
  pub flushed_holder : one.to ≡ kernel → (size : ℕ) (blocks : List (BlockNo × List ℕ)) → one.reply ≡ Some (form.Flushed size blocks) → is_any blocks ≡ true → holds ≡ true
  pub flushed_covers : one.to ≡ kernel → (size : ℕ) (blocks : List (BlockNo × List ℕ)) → one.reply ≡ Some (form.Flushed size blocks) → is_any blocks ≡ true → length bytes ≤ size
  pub flushed_within : one.to ≡ kernel → (size : ℕ) (blocks : List (BlockNo × List ℕ)) → one.reply ≡ Some (form.Flushed size blocks) → (piece : BlockNo × List ℕ) → In piece blocks → piece.0.0 * z.block + length piece.1 ≤ size

pub record SizeFacts (z : Setting) (kernel version : ℕ) (c : Client) (holds : Bool) (bytes : List ℕ) (calls : List FileCall) : Type 0 where
  pub granted : EachNewer kernel c.stamp calls (λ one grant. grant.on ≡ true → grant.size ≡ length bytes)
  pub holder : Ready kernel c.stamp c.version version holds c.mode calls → (Answered kernel calls → ⊥) → HolderSize z c bytes
  pub each : (one : FileCall) → In one calls → RightSize z kernel c holds bytes one

pub facts_of : (z : Setting) (kernel version : ℕ) (c : Client) (holds : Bool) (bytes : List ℕ) (calls : List FileCall) → Sizes z kernel version c holds bytes calls → SizeFacts z kernel version c holds bytes calls
facts_of z kernel version c holds bytes calls s = record {
  granted = s.granted;
  holder = s.holder;
  each = λ one m. record { again = s.again one m; done_size = s.done_size one m; flushed_holder = s.flushed_holder one m; flushed_covers = s.flushed_covers one m; flushed_within = s.flushed_within one m };
}

pub sizes_of : (z : Setting) (kernel version : ℕ) (c : Client) (holds : Bool) (bytes : List ℕ) (calls : List FileCall) → SizeFacts z kernel version c holds bytes calls → Sizes z kernel version c holds bytes calls
sizes_of z kernel version c holds bytes calls s = record {
  granted = s.granted;
  again = λ one m. (s.each one m).again;
  holder = s.holder;
  done_size = λ one m. (s.each one m).done_size;
  flushed_holder = λ one m. (s.each one m).flushed_holder;
  flushed_covers = λ one m. (s.each one m).flushed_covers;
  flushed_within = λ one m. (s.each one m).flushed_within;
}

-- a call with a reply that is neither an Again, nor Done, nor an answer to a callback
pub record Plain (reply : Option FileBody) : Type 0 where
  pub no_again : (grant : FileGrant) → reply ≡ Some (form.Again grant) → ⊥
  pub no_done : reply ≡ Some form.Done → ⊥
  pub no_flush : (size : ℕ) (blocks : List (BlockNo × List ℕ)) → reply ≡ Some (form.Flushed size blocks) → ⊥

pub right_plain : (z : Setting) (kernel : ℕ) (c : Client) (holds : Bool) (bytes : List ℕ) (one : FileCall) → Plain one.reply → RightSize z kernel c holds bytes one
right_plain z kernel c holds bytes one p = record {
  again = λ e grant r. absurd (p.no_again grant r);
  done_size = λ block size piece w r. absurd (p.no_done r);
  flushed_holder = λ e size blocks r. absurd (p.no_flush size blocks r);
  flushed_covers = λ e size blocks r. absurd (p.no_flush size blocks r);
  flushed_within = λ e size blocks r. absurd (p.no_flush size blocks r);
}

pub plain_none : (reply : Option FileBody) → reply ≡ None → Plain reply
plain_none reply e = record { no_again = λ grant r. cc (e, r); no_done = λ r. cc (e, r); no_flush = λ size blocks r. cc (e, r) }

-- a call that stood there with its reply
pub record Told (one : FileCall) (calls : List FileCall) : Type 0 where
  pub other : FileCall
  pub there : In other calls
  pub from_is : other.from ≡ one.from
  pub to_is : other.to ≡ one.to
  pub body_is : other.body ≡ one.body
  pub dirty_is : other.dirty ≡ one.dirty
  pub reply_is : other.reply ≡ one.reply

pub told_self : (one : FileCall) (calls : List FileCall) → In one calls → Told one calls
told_self one calls m = record { other = one; there = m; from_is = refl; to_is = refl; body_is = refl; dirty_is = refl; reply_is = refl }

pub right_told : (z : Setting) (kernel : ℕ) (c : Client) (holds : Bool) (bytes : List ℕ) (one : FileCall) (calls : List FileCall) → (t : Told one calls) → RightSize z kernel c holds bytes t.other → RightSize z kernel c holds bytes one
right_told z kernel c holds bytes one calls t r = record {
  again = λ e grant q. r.again (t.from_is ∙ e) grant (t.reply_is ∙ q);
  done_size = λ block size piece w q there p. r.done_size block size piece (record { from_kernel = t.from_is ∙ w.from_kernel; is_write_back = t.body_is ∙ w.is_write_back }) (t.reply_is ∙ q) there (subst (λ d. Present c.blocks block.0 d there) (sym t.dirty_is) p);
  flushed_holder = λ e size blocks q. r.flushed_holder (t.to_is ∙ e) size blocks (t.reply_is ∙ q);
  flushed_covers = λ e size blocks q. r.flushed_covers (t.to_is ∙ e) size blocks (t.reply_is ∙ q);
  flushed_within = λ e size blocks q. r.flushed_within (t.to_is ∙ e) size blocks (t.reply_is ∙ q);
}

pub ready_on : (kernel own seen version : ℕ) (holds : Bool) (now : CacheMode) (xs ys : List FileCall) → Arrivals kernel own xs ys → Ready kernel own seen version holds now ys → Ready kernel own seen version holds now xs
ready_on kernel own seen version holds now xs ys w r = record {
  holds_it = r.holds_it;
  on = r.on;
  at_version = r.at_version;
  newer = λ one m grant a n. let c : Came kernel grant (asked_stream one.body) ys = w.on one m grant a n in r.newer c.call c.there grant c.arrives n;
}

-- other calls
pub sizes_calls : (z : Setting) (kernel version : ℕ) (c : Client) (holds : Bool) (bytes : List ℕ) (xs ys : List FileCall) → SizeFacts z kernel version c holds bytes xs → Arrivals kernel c.stamp xs ys → (holds ≡ true → Answered kernel xs → Answered kernel ys) → ((one : FileCall) → In one ys → Told one xs ⊎ RightSize z kernel c holds bytes one) → SizeFacts z kernel version c holds bytes ys
sizes_calls z kernel version c holds bytes xs ys f w k t = record {
  granted = λ one m grant a n. let b : Came kernel grant (asked_stream one.body) xs = w.back one m grant a in f.granted b.call b.there grant b.arrives n;
  holder = λ r n. f.holder (ready_on kernel c.stamp c.version version holds c.mode xs ys w r) (λ a. n (k r.holds_it a));
  each = λ one m. elim (t one m) [ inl s ↦ right_told z kernel c holds bytes one xs s (f.each s.other s.there) | inr r ↦ r ];
}

-- a client that keeps its stamp, its version and its mode
pub sizes_client : (z : Setting) (kernel current version : ℕ) (c d : Client) (holds : Bool) (bytes : List ℕ) (calls : List FileCall) → SizeFacts z kernel version c holds bytes calls → Keeps z kernel current c d calls → d.version ≡ c.version → d.mode ≡ c.mode → ((length bytes < c.size → is_dirty_in (held c.blocks ((c.size - 1) / z.block)) ≡ true) → length bytes < d.size → is_dirty_in (held d.blocks ((d.size - 1) / z.block)) ≡ true) → SizeFacts z kernel version d holds bytes calls
sizes_client z kernel current version c d holds bytes calls f k v e last = record {
  granted = λ one m grant a n. f.granted one m grant a (subst (λ x. x < grant.stamp) k.stamp n);
  holder = λ r n.
      let h : HolderSize z c bytes = f.holder (record { holds_it = r.holds_it; on = ap is_on (sym e) ∙ r.on; at_version = sym v ∙ r.at_version; newer = λ one m grant a l. r.newer one m grant a (subst (λ x. x < grant.stamp) (sym k.stamp) l) }) n in
      record { covers = (let a = h.covers in let b = k.size in omega (arith, a, b)); dirty = λ l. last h.dirty l };
  each = λ one m. let r : RightSize z kernel c holds bytes one = f.each one m in record {
    again = λ q grant s n. r.again q grant s (subst (λ x. x < grant.stamp) k.stamp n);
    done_size = λ block size piece w s there p q.
        let same : d.size ≡ c.size = k.last one m w.from_kernel there (subst (λ n. Present d.blocks n one.dirty there) q p) in
        r.done_size block size piece (record { from_kernel = w.from_kernel; is_write_back = w.is_write_back ∙ ap (λ n. form.WriteBack n block size piece) k.stamp }) s there (k.present one m w.from_kernel block.0 there p) (q ∙ ap (λ n. (n - 1) / z.block) same) ∙ sym same;
    flushed_holder = r.flushed_holder;
    flushed_covers = r.flushed_covers;
    flushed_within = r.flushed_within;
  };
}

-- the last block after what a client does
pub last_same : (z : Setting) (c d : Client) (bytes : List ℕ) → d.blocks ≡ c.blocks → d.size ≡ c.size → (length bytes < c.size → is_dirty_in (held c.blocks ((c.size - 1) / z.block)) ≡ true) → length bytes < d.size → is_dirty_in (held d.blocks ((d.size - 1) / z.block)) ≡ true
last_same z c d bytes b e f l = ap (λ xs. is_dirty_in (held xs ((d.size - 1) / z.block))) b ∙ ap (λ n. is_dirty_in (held c.blocks ((n - 1) / z.block))) e ∙ f (subst (λ n. length bytes < n) e l)

pub dirty_with_clean : (blocks : List Held) (new : Held) (number : ℕ) → held blocks new.block.0 ≡ None → is_dirty_in (held blocks number) ≡ true → is_dirty_in (held (with_block new blocks) number) ≡ true
dirty_with_clean blocks new number n d = ap is_dirty_in (held_with blocks new number (λ e. cc (d, n, ap (λ x. is_dirty_in (held blocks x)) (sym e), ap is_dirty_in n))) ∙ d

pub dirty_without_clean : (blocks : List Held) (one : Held) (other number : ℕ) → held blocks other ≡ Some one → one.dirty ≡ None → is_dirty_in (held blocks number) ≡ true → is_dirty_in (held (without_block other blocks) number) ≡ true
dirty_without_clean blocks one other number h n d = ap is_dirty_in (held_without blocks other number (λ e. cc (d, h, n, ap (λ y. is_dirty_in (held blocks y)) (sym e), ap is_dirty_in h, ap is_some n))) ∙ d

dirty_written : (z : Setting) (c : Client) (low : ℕ) (bytes : List ℕ) (numbers : List ℕ) (number : ℕ) → In number numbers ⊎ (is_dirty_in (held c.blocks number) ≡ true) → is_dirty_in (held (blocks_written z c.blocks low bytes c.count numbers) number) ≡ true
dirty_written z c low bytes numbers number o = by_place (in_or_out number numbers) o
  where
    by_place : In number numbers ⊎ (In number numbers → ⊥) → In number numbers ⊎ (is_dirty_in (held c.blocks number) ≡ true) → is_dirty_in (held (blocks_written z c.blocks low bytes c.count numbers) number) ≡ true
    by_place (inl m) p = let r : Freshly (blocks_written z c.blocks low bytes c.count numbers) number c.count = freshly_written z numbers c.blocks low bytes c.count number m in ap is_dirty_in r.found ∙ ap is_some r.is_dirty
    by_place (inr n) (inl m) = absurd (n m)
    by_place (inr n) (inr d) = ap is_dirty_in (held_written z numbers c.blocks low bytes c.count number n) ∙ d

last_write : (z : Setting) (c : Client) (low : ℕ) (new bytes : List ℕ) → (length bytes < c.size → is_dirty_in (held c.blocks ((c.size - 1) / z.block)) ≡ true) → length bytes < (write_cached z c low new).size → is_dirty_in (held (write_cached z c low new).blocks (((write_cached z c low new).size - 1) / z.block)) ≡ true
last_write z c low new bytes f l = dirty_written z c low new (blocks_between z low (low + length new)) _ (elim (size_or_last z c.size low new) [
  | inl e ↦ inr (ap (λ n. is_dirty_in (held c.blocks ((n - 1) / z.block))) e ∙ f (subst (λ n. length bytes < n) e l))
  | inr m ↦ inl m
])

pub last_done : (z : Setting) (c : Client) (step : FileStep) (bytes : List ℕ) → (length bytes < c.size → is_dirty_in (held c.blocks ((c.size - 1) / z.block)) ≡ true) → length bytes < (done_cached z c step).size → is_dirty_in (held (done_cached z c step).blocks (((done_cached z c step).size - 1) / z.block)) ≡ true
last_done z c (act.Writing pid number place stream from new) bytes f l = last_write z c from new bytes f l
last_done z c (act.Append pid number place stream new) bytes f l = choose_by (λ (d : Client). length bytes < d.size → is_dirty_in (held d.blocks ((d.size - 1) / z.block)) ≡ true) (nat_lt z.most (c.size + length new)) c (write_cached z c c.size new) (λ e. f) (λ e k. last_write z c c.size new bytes f k) l
last_done z c step bytes f l = f l

-- a block that is written back: it isn't the last one, unless the server has the client's size
pub last_back : (z : Setting) (blocks : List Held) (dirty : Option ℕ) (current : Bool) (o : Option Held) (number last : ℕ) → held blocks number ≡ o → (current ≡ true → (there : Held) → Present blocks number dirty there → number ≡ last → ⊥) → is_dirty_in (held blocks last) ≡ true → is_dirty_in (held (blocks_written_back blocks dirty current o) last) ≡ true
last_back z blocks dirty current (Some one) number last h d e = choose_by (λ xs. is_dirty_in (held xs last) ≡ true) (current && same_number one.dirty dirty) (with_block (cleaned one) blocks) blocks
    (λ q. let p = and_parts current (same_number one.dirty dirty) q in ap is_dirty_in (held_with blocks (cleaned one) last (λ r. d p.0 one (record { found = h; same = p.1 }) (sym (held_found blocks number one h).1 ∙ r))) ∙ e) (λ q. e)
last_back z blocks dirty current None number last h d e = e

-- a block that is held dirty
pub dirty_found : (blocks : List Held) (number : ℕ) → is_dirty_in (held blocks number) ≡ true → DirtyIn blocks
dirty_found blocks number e = by_held (held blocks number) refl e
  where
    by_held : (o : Option Held) → held blocks number ≡ o → is_dirty_in o ≡ true → DirtyIn blocks
    by_held (Some one) h d = record { one = one; there = (held_found blocks number one h).0; dirty = d }
    by_held None h d = absurd (cc (d))

pub numbered_dirty : (one other : Option ℕ) → same_number one other ≡ true → is_some one ≡ true
numbered_dirty (Some number) other e = refl
numbered_dirty None other e = absurd (cc (e))

pub present_dirty : (blocks : List Held) (number : ℕ) (dirty : Option ℕ) (there : Held) → Present blocks number dirty there → DirtyIn blocks
present_dirty blocks number dirty there p = record { one = there; there = (held_found blocks number there p.found).0; dirty = numbered_dirty there.dirty dirty p.same }

-- how many bytes there are after a change
pub length_grown : (bytes : List ℕ) (size : ℕ) → length (grown bytes size) ≡ max (length bytes) size
length_grown bytes size = let a = length-append bytes (zeros (size - length bytes)) in let b : length (zeros (size - length bytes)) ≡ size - length bytes = length-replicate (size - length bytes) 0 in omega (arith, a, b)

length_three : (a b c : List ℕ) → length (a ++ b ++ c) ≡ length a + (length b + length c)
length_three a b c = let p = length-append (a ++ b) c in let q = length-append a b in omega (arith, p, q)

pub length_over : (bytes : List ℕ) (at first : ℕ) (rest : List ℕ) → length (overlay bytes at (first ∷ rest)) ≡ length (take at (grown bytes at)) + (length (first ∷ rest) + length (drop (at + length (first ∷ rest)) bytes))
length_over bytes at first rest = length_three (take at (grown bytes at)) (first ∷ rest) (drop (at + length (first ∷ rest)) bytes)

pub length_before : (bytes : List ℕ) (at : ℕ) → length (take at (grown bytes at)) ≡ at
length_before bytes at = let a = length-take at (grown bytes at) in let b = length_grown bytes at in omega (arith, a, b)

pub length_overlay : (bytes : List ℕ) (at : ℕ) (new : List ℕ) → length (overlay bytes at new) ≤ max (length bytes) (at + length new)
length_overlay bytes at [] = omega arith
length_overlay bytes at (first ∷ rest) = let a = length_over bytes at first rest in let b = length_before bytes at in let c = length-drop (at + length (first ∷ rest)) bytes in omega (arith, a, b, c)

pub length_kept : (bytes : List ℕ) (at : ℕ) (new : List ℕ) → length bytes ≤ length (overlay bytes at new)
length_kept bytes at [] = omega arith
length_kept bytes at (first ∷ rest) = let a = length_over bytes at first rest in let b = length_before bytes at in let c = length-drop (at + length (first ∷ rest)) bytes in omega (arith, a, b, c)

pub length_put : (z : Setting) (bytes : List ℕ) (number size : ℕ) (piece : List ℕ) → number * z.block + length piece ≤ size → length (put_block z bytes number size piece) ≡ max (length bytes) size
length_put z bytes number size piece l =
    let a = length_overlay (grown bytes size) (number * z.block) piece in
    let b = length_kept (grown bytes size) (number * z.block) piece in
    let c = length_grown bytes size in
    omega (arith, a, b, c, l)

-- a grant is taken: the size is the grant's, or the client was ready before and keeps its own
pub record TookSize (kernel version : ℕ) (c : Client) (grant : FileGrant) (bytes : List ℕ) (holds : Bool) (calls : List FileCall) : Type 0 where
  pub newer : c.stamp < grant.stamp
  pub size : grant.on ≡ true → grant.size ≡ length bytes
  pub was_ready : grant.on ≡ true → grant.holder ≡ true → c.version ≡ grant.old → holds ≡ true → Ready kernel c.stamp c.version version holds c.mode calls
  pub unanswered : Answered kernel calls → ⊥
  pub low : Low kernel c.stamp calls

on_of : (on : Bool) → is_on (mode_of on) ≡ true → on ≡ true
on_of true e = refl
on_of false e = absurd (cc (e))

pub sizes_took : (z : Setting) (kernel version : ℕ) (c : Client) (grant : FileGrant) (streams : List StreamNo) (holds : Bool) (bytes : List ℕ) (xs ys : List FileCall) → SizeFacts z kernel version c holds bytes xs → TookSize kernel version c grant bytes holds xs → ((one : FileCall) → In one ys → In one xs) → SizeFacts z kernel version (record (granted c grant) { streams = streams }) holds bytes ys
sizes_took z kernel version c grant streams holds bytes xs ys f t less = record {
  granted = λ one m other a n. f.granted one (less one m) other a (let l = t.newer in omega (arith, n, l));
  holder = λ r n. by_size (on_of grant.on r.on) r.holds_it (grant.holder && (c.version == grant.old)) refl;
  each = λ one m. let k : RightSize z kernel c holds bytes one = f.each one (less one m) in record {
    again = λ e other q n. k.again e other q (let l = t.newer in omega (arith, n, l));
    done_size = λ block size piece w. absurd (too_old kernel c.stamp grant.stamp xs t.low t.newer one (less one m) block size piece w);
    flushed_holder = k.flushed_holder;
    flushed_covers = k.flushed_covers;
    flushed_within = k.flushed_within;
  };
}
  where
    by_size : grant.on ≡ true → holds ≡ true → (b : Bool) → (grant.holder && (c.version == grant.old)) ≡ b → HolderSize z (record (granted c grant) { streams = streams; size = cond b c.size grant.size }) bytes
    by_size o h true e =
        let p = and_parts grant.holder (c.version == grant.old) e in
        let same : c.version ≡ grant.old = eqb-true c.version grant.old p.1 in
        let s : HolderSize z c bytes = f.holder (t.was_ready o p.0 same h) t.unanswered in
        record { covers = s.covers; dirty = λ l. ap (λ q. is_dirty_in (held (cond q c.blocks []) ((c.size - 1) / z.block))) (kept o p.1) ∙ s.dirty l }
      where
        kept : grant.on ≡ true → (c.version == grant.old) ≡ true → (grant.on && (c.version == grant.old)) ≡ true
        kept p q = ap (λ q. q && (c.version == grant.old)) p ∙ q
    by_size o h false e = let s = t.size o in record { covers = omega (arith, s); dirty = λ l. absurd (omega (arith, s, l)) }

-- who would take a grant that keeps its size was ready before
pub was_ready : (kernel own seen version : ℕ) (holds : Bool) (now : CacheMode) (opened : List Open) (calls : List FileCall) (grant : FileGrant) → SameNewer kernel own calls grant → Ready kernel own seen version holds now calls ⊎ Coming kernel own seen version opened calls → ((one other : FileCall) → In one calls → In other calls → (first second : FileGrant) → Arrives kernel one first → Arrives kernel other second → first.stamp ≡ second.stamp → first ≡ second) → grant.on ≡ true → grant.holder ≡ true → seen ≡ grant.old → Ready kernel own seen version holds now calls
was_ready kernel own seen version holds now opened calls grant s (inl r) same o h e = r
was_ready kernel own seen version holds now opened calls grant s (inr k) same o h e = absurd (by_order (three s.newer.stamp k.grant.stamp))
  where
    three : (a b : ℕ) → (a < b) ⊎ ((a ≡ b) ⊎ (b < a))
    three a b = grind arith

    on_it : s.newer.on ≡ true
    on_it = ap (λ (x : FileGrant). x.on) s.same ∙ o

    held_it : s.newer.holder ≡ true
    held_it = ap (λ (x : FileGrant). x.holder) s.same ∙ h

    old_it : s.newer.old ≡ grant.old
    old_it = ap (λ (x : FileGrant). x.old) s.same

    by_order : (s.newer.stamp < k.grant.stamp) ⊎ ((s.newer.stamp ≡ k.grant.stamp) ⊎ (k.grant.stamp < s.newer.stamp)) → ⊥
    by_order (inl l) = cc (held_it, (k.before s.call s.is_newer.0 s.newer s.is_newer.1 s.is_newer.2 on_it l).0)
    by_order (inr (inl q)) = cc (held_it, k.plain, ap (λ (x : FileGrant). x.holder) (same s.call k.call s.is_newer.0 k.is_newer.0 s.newer k.grant s.is_newer.1 k.is_newer.1 q))
    by_order (inr (inr l)) = let p : KeepsIt version s.newer = k.behind s.call s.is_newer.0 s.newer s.is_newer.1 s.is_newer.2 on_it l in let a = p.old in let b = k.older in omega (arith, a, b, e, old_it)
