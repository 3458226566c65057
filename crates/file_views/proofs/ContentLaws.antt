-- What blocks contain, the eighth layer of soundness, said of one kernel, under the changes of calls and of a client.
use Rattle.std.proofs.Common.{◌≡◌, ◌≢◌, ◌≤◌, ◌<◌, ◌⊎◌, ℕ, ◌==◌, Bool, true, false, List, [], ◌∷◌, length, Option, Some, None, refl, sym, ap, ◌∙◌, subst, inl, inr, arith}
use Rattle.std.proofs.lemmas.Bool.Decides.{eqb_tells}
use Rattle.sprite_ids.specs.declared.BlockNo.{BlockNo}
use Rattle.sprite_ids.specs.declared.StreamNo.{StreamNo}
use Rattle.sprite_ids.specs.declared.CacheMode.{CacheMode}
use Rattle.file_views.specs.declared.grant.FileGrant.{FileGrant}
use Rattle.file_views.specs.declared.body.FileBody.{FileBody}
use Rattle.file_views.specs.declared.body.FileBody.TheVariants as form
use Rattle.file_views.specs.declared.opens.Open.{Open}
use Rattle.file_views.specs.declared.client.Held.{Held}
use Rattle.file_views.specs.declared.client.Client.{Client}
use Rattle.file_views.specs.declared.call.FileCall.{FileCall}
use Rattle.file_views.specs.Setting.{Setting}
use Rattle.file_views.specs.Contents.{whole, part, put_block}
use Rattle.file_views.specs.Clients.{is_on}
use Rattle.file_views.specs.Views.{replied}
use Rattle.file_views.specs.Settled.{goes_to, arrival}
use Rattle.file_views.specs.Here.{In, Arrives, Newer, EachNewer, asked_stream, request_stamp}
use Rattle.file_views.specs.SoundHolders.{Installed, Engaged, Ready, Chained, Keeps as KeepsIt}
use Rattle.file_views.specs.SoundRequests.{WritesBack, Present}
use Rattle.file_views.specs.SoundContents.{HasOpen}
use Rattle.file_views.proofs.HolderTakeLaws.{order}
use Rattle.file_views.proofs.HolderLaws.{Came, Arrivals}
use Rattle.file_views.proofs.WritingLaws.{Low, too_old}
use Rattle.file_views.proofs.SizeLaws.{Told}
use Rattle.file_views.proofs.BytesLaws.{put_alike}

-- a newer grant On that starts at the client's version; or none, and its blocks count
pub record KeptBy (kernel own seen : ℕ) (calls : List FileCall) : Type 0 where
  pub call : FileCall
  pub grant : FileGrant
  pub is_newer : Newer kernel own calls call grant
  pub on : grant.on ≡ true
  pub same : grant.old ≡ seen

pub record KeptNow (kernel own seen version : ℕ) (opened : List Open) (calls : List FileCall) : Type 0 where
  pub none : EachNewer kernel own calls (λ one grant. grant.on ≡ false)
  pub counts : HasOpen opened ⊎ (seen ≡ version)

pub record GoodBlocks (z : Setting) (stood : List ℕ) (kernel version : ℕ) (c : Client) (opened : List Open) (calls : List FileCall) : Type 0 where
  pub engaged_size : is_on c.mode ≡ true → Engaged kernel c.stamp c.streams calls → c.size ≡ length stood
  pub engaged : is_on c.mode ≡ true → Engaged kernel c.stamp c.streams calls → (one : Held) → In one c.blocks → one.bytes ≡ part z stood one.block.0
  pub fetched : (one : FileCall) → In one calls → one.from ≡ kernel → (stamp : ℕ) (block : BlockNo) → one.body ≡ form.Fetch stamp block → stamp ≡ c.stamp → (other : ℕ) (piece : List ℕ) → one.reply ≡ Some (form.Block other piece) → whole z piece ≡ part z stood block.0
  pub kept : is_on c.mode ≡ true → KeptBy kernel c.stamp c.version calls ⊎ KeptNow kernel c.stamp c.version version opened calls → (one : Held) → In one c.blocks → one.bytes ≡ part z stood one.block.0

-- a newer grant, or none
pub record NewerIn (kernel own : ℕ) (calls : List FileCall) : Type 0 where
  pub call : FileCall
  pub grant : FileGrant
  pub is_newer : Newer kernel own calls call grant

abbrev pub NoneNewer : ℕ → ℕ → List FileCall → Type 0
NoneNewer kernel own calls = (one : FileCall) → In one calls → (grant : FileGrant) → Arrives kernel one grant → own < grant.stamp → ⊥

newer_one : (kernel own : ℕ) (x : FileCall) → ((g : FileGrant) × (Arrives kernel x g × (own < g.stamp))) ⊎ ((g : FileGrant) → Arrives kernel x g → own < g.stamp → ⊥)
newer_one kernel own x = by_place (eqb_tells (goes_to x) kernel) (arrival x.reply) refl
  where
    by_place : (((goes_to x == kernel) ≡ true) × (goes_to x ≡ kernel)) ⊎ (((goes_to x == kernel) ≡ false) × (goes_to x ≢ kernel)) → (o : Option FileGrant) → arrival x.reply ≡ o → ((g : FileGrant) × (Arrives kernel x g × (own < g.stamp))) ⊎ ((g : FileGrant) → Arrives kernel x g → own < g.stamp → ⊥)
    by_place (inr d) o e = inr (λ g a n. d.1 a.0)
    by_place (inl k) None e = inr (λ g a n. cc (e, a.1))
    by_place (inl k) (Some g) e = elim (order own g.stamp) [ inl l ↦ inl (g, ((k.1, e), l)) | inr l ↦ inr (λ h a n. let same : g ≡ h = cc (e, a.1) in let s : g.stamp ≡ h.stamp = ap (λ (y : FileGrant). y.stamp) same in omega (arith, l, n, s)) ]

pub newer_or_none : (kernel own : ℕ) (calls : List FileCall) → NewerIn kernel own calls ⊎ NoneNewer kernel own calls
newer_or_none kernel own [] = inr (λ one m. absurd m)
newer_or_none kernel own (x ∷ xs) = join (newer_one kernel own x) (newer_or_none kernel own xs)
  where
    join : ((g : FileGrant) × (Arrives kernel x g × (own < g.stamp))) ⊎ ((g : FileGrant) → Arrives kernel x g → own < g.stamp → ⊥) → NewerIn kernel own xs ⊎ NoneNewer kernel own xs → NewerIn kernel own (x ∷ xs) ⊎ NoneNewer kernel own (x ∷ xs)
    join (inl g) r = inl (record { call = x; grant = g.0; is_newer = (inl refl, g.1.0, g.1.1) })
    join (inr n) (inl r) = inl (record { call = r.call; grant = r.grant; is_newer = (inr r.is_newer.0, r.is_newer.1, r.is_newer.2) })
    join (inr n) (inr r) = inr (λ one m g a l. elim m [ inl e ↦ n g (subst (λ y. Arrives kernel y g) e a) l | inr k ↦ r one k g a l ])

-- at the server's version, with newer grants On alone
pub current_kept : (kernel own seen version : ℕ) (opened : List Open) (calls : List FileCall) → seen ≡ version → EachNewer kernel own calls (λ one grant. grant.on ≡ true) → Chained kernel own seen version calls → KeptBy kernel own seen calls ⊎ KeptNow kernel own seen version opened calls
current_kept kernel own seen version opened calls e on c = elim (newer_or_none kernel own calls) [
  | inl r ↦ inl (record {
    call = r.call;
    grant = r.grant;
    is_newer = r.is_newer;
    on = on r.call r.is_newer.0 r.grant r.is_newer.1 r.is_newer.2;
    same = (let o = on r.call r.is_newer.0 r.grant r.is_newer.1 r.is_newer.2 in let a = c.first r.call r.is_newer.0 r.grant r.is_newer.1 r.is_newer.2 o in let b = c.rises r.call r.is_newer.0 r.grant r.is_newer.1 r.is_newer.2 in let d = c.under r.call r.is_newer.0 r.grant r.is_newer.1 r.is_newer.2 in omega (arith, a, b, d, e));
  })
  | inr n ↦ inr (record { none = λ one m g a l. absurd (n one m g a l); counts = inr e })
]

pub ready_kept : (kernel own seen version : ℕ) (holds : Bool) (now : CacheMode) (opened : List Open) (calls : List FileCall) → Ready kernel own seen version holds now calls → Chained kernel own seen version calls → KeptBy kernel own seen calls ⊎ KeptNow kernel own seen version opened calls
ready_kept kernel own seen version holds now opened calls r c = current_kept kernel own seen version opened calls r.at_version (λ one m g a l. let k : KeepsIt version g = r.newer one m g a l in k.on) c

-- other calls, and other opens
pub engaged_on : (kernel own : ℕ) (streams : List StreamNo) (xs ys : List FileCall) → Arrivals kernel own xs ys → Engaged kernel own streams ys → Engaged kernel own streams xs
engaged_on kernel own streams xs ys w (inl i) = inl i
engaged_on kernel own streams xs ys w (inr s) = let c : Came kernel s.grant (asked_stream s.call.body) xs = w.back s.call s.there s.grant s.arrives in inr (record { call = c.call; grant = s.grant; there = c.there; arrives = c.arrives; old = s.old })

kept_on : (kernel own seen version : ℕ) (opened opened' : List Open) (xs ys : List FileCall) → Arrivals kernel own xs ys → (HasOpen opened' → HasOpen opened) → KeptBy kernel own seen ys ⊎ KeptNow kernel own seen version opened' ys → KeptBy kernel own seen xs ⊎ KeptNow kernel own seen version opened xs
kept_on kernel own seen version opened opened' xs ys w o (inl k) = let c : Came kernel k.grant (asked_stream k.call.body) xs = w.back k.call k.is_newer.0 k.grant k.is_newer.1 in inl (record { call = c.call; grant = k.grant; is_newer = (c.there, c.arrives, k.is_newer.2); on = k.on; same = k.same })
kept_on kernel own seen version opened opened' xs ys w o (inr k) = inr (record {
  none = λ one m g a n. let c : Came kernel g (asked_stream one.body) ys = w.on one m g a n in k.none c.call c.there g c.arrives n;
  counts = elim k.counts [ inl h ↦ inl (o h) | inr e ↦ inr e ];
})

abbrev pub RightFetch : Setting → List ℕ → ℕ → ℕ → FileCall → Type 0
RightFetch z stood kernel own one = one.from ≡ kernel → (stamp : ℕ) (block : BlockNo) → one.body ≡ form.Fetch stamp block → stamp ≡ own → (other : ℕ) (piece : List ℕ) → one.reply ≡ Some (form.Block other piece) → whole z piece ≡ part z stood block.0

pub good_calls : (z : Setting) (stood : List ℕ) (kernel version : ℕ) (c : Client) (opened opened' : List Open) (xs ys : List FileCall) → GoodBlocks z stood kernel version c opened xs → Arrivals kernel c.stamp xs ys → (HasOpen opened' → HasOpen opened) → ((one : FileCall) → In one ys → Told one xs ⊎ RightFetch z stood kernel c.stamp one) → GoodBlocks z stood kernel version c opened' ys
good_calls z stood kernel version c opened opened' xs ys g w o t = record {
  engaged_size = λ m e. g.engaged_size m (engaged_on kernel c.stamp c.streams xs ys w e);
  engaged = λ m e. g.engaged m (engaged_on kernel c.stamp c.streams xs ys w e);
  fetched = λ one m. elim (t one m) [ inl k ↦ (λ e stamp block b s other piece r. g.fetched k.other k.there (k.from_is ∙ e) stamp block (k.body_is ∙ b) s other piece (k.reply_is ∙ r)) | inr k ↦ k ];
  kept = λ m k. g.kept m (kept_on kernel c.stamp c.version version opened opened' xs ys w o k);
}

-- a client that keeps its stamp, its version, its mode and its size, and whose blocks are old or right
pub record OldBlock (one : Held) (blocks : List Held) : Type 0 where
  pub other : Held
  pub there : In other blocks
  pub bytes_are : other.bytes ≡ one.bytes
  pub block_is : other.block.0 ≡ one.block.0

pub old_self : (one : Held) (blocks : List Held) → In one blocks → OldBlock one blocks
old_self one blocks m = record { other = one; there = m; bytes_are = refl; block_is = refl }

right_block : (z : Setting) (stood : List ℕ) (one : Held) (blocks : List Held) → (o : OldBlock one blocks) → o.other.bytes ≡ part z stood o.other.block.0 → one.bytes ≡ part z stood one.block.0
right_block z stood one blocks o e = sym o.bytes_are ∙ e ∙ ap (part z stood) o.block_is

pub good_client : (z : Setting) (stood : List ℕ) (kernel version : ℕ) (c d : Client) (opened : List Open) (calls : List FileCall) → GoodBlocks z stood kernel version c opened calls → d.stamp ≡ c.stamp → d.version ≡ c.version → d.mode ≡ c.mode → d.size ≡ c.size → (Installed d.streams → Engaged kernel c.stamp c.streams calls) → ((one : Held) → In one d.blocks → OldBlock one c.blocks ⊎ (one.bytes ≡ part z stood one.block.0)) → GoodBlocks z stood kernel version d opened calls
good_client z stood kernel version c d opened calls g s v m e i b = record {
  engaged_size = λ o k. e ∙ g.engaged_size (ap is_on (sym m) ∙ o) (engaged_was k);
  engaged = λ o k one n. elim (b one n) [ inl x ↦ right_block z stood one c.blocks x (g.engaged (ap is_on (sym m) ∙ o) (engaged_was k) x.other x.there) | inr q ↦ q ];
  fetched = λ one n f stamp block q t other piece r. g.fetched one n f stamp block q (t ∙ s) other piece r;
  kept = λ o k one n. elim (b one n) [ inl x ↦ right_block z stood one c.blocks x (g.kept (ap is_on (sym m) ∙ o) (subst (λ y. KeptBy kernel y c.version calls ⊎ KeptNow kernel y c.version version opened calls) s (subst (λ y. KeptBy kernel d.stamp y calls ⊎ KeptNow kernel d.stamp y version opened calls) v k)) x.other x.there) | inr q ↦ q ];
}
  where
    engaged_was : Engaged kernel d.stamp d.streams calls → Engaged kernel c.stamp c.streams calls
    engaged_was (inl x) = i x
    engaged_was (inr x) = inr (record { call = x.call; grant = x.grant; there = x.there; arrives = x.arrives; old = subst (λ y. x.grant.stamp ≤ y) s x.old })

-- a client all of whose blocks are right, with a stamp that none of its requests has
pub good_all : (z : Setting) (stood : List ℕ) (kernel version top : ℕ) (c : Client) (opened : List Open) (calls : List FileCall) → (is_on c.mode ≡ true → c.size ≡ length stood) → ((one : Held) → In one c.blocks → one.bytes ≡ part z stood one.block.0) → Low kernel top calls → top < c.stamp → GoodBlocks z stood kernel version c opened calls
good_all z stood kernel version top c opened calls e b low l = record {
  engaged_size = λ m k. e m;
  engaged = λ m k one n. b one n;
  fetched = λ one n f stamp block q s. absurd (let a = low one n f stamp (ap request_stamp q) in omega (arith, a, l, s));
  kept = λ m k one n. b one n;
}

-- what a write-back carries
pub record CarriedCall (z : Setting) (kernel current : ℕ) (c : Client) (bytes : List ℕ) (one : FileCall) : Type 0 where
  pub whole_block : (block : BlockNo) (size : ℕ) (piece : List ℕ) → WritesBack kernel current one block size piece → (there : Held) → Present c.blocks block.0 one.dirty there → whole z piece ≡ there.bytes
  pub stores : (block : BlockNo) (size : ℕ) (piece : List ℕ) → WritesBack kernel current one block size piece → one.reply ≡ None → (there : Held) → Present c.blocks block.0 one.dirty there → part z (put_block z bytes block.0 size piece) block.0 ≡ there.bytes
  pub done : (block : BlockNo) (size : ℕ) (piece : List ℕ) → WritesBack kernel c.stamp one block size piece → one.reply ≡ Some form.Done → (there : Held) → Present c.blocks block.0 one.dirty there → part z bytes block.0 ≡ there.bytes
  pub fits : (block : BlockNo) (size : ℕ) (piece : List ℕ) → WritesBack kernel current one block size piece → one.reply ≡ None → length piece ≤ z.block

pub carried_told : (z : Setting) (kernel current : ℕ) (c : Client) (bytes : List ℕ) (one : FileCall) (calls : List FileCall) → (t : Told one calls) → CarriedCall z kernel current c bytes t.other → CarriedCall z kernel current c bytes one
carried_told z kernel current c bytes one calls t k = record {
  whole_block = λ block size piece w there p. k.whole_block block size piece (moved block size piece w) there (subst (λ d. Present c.blocks block.0 d there) (sym t.dirty_is) p);
  stores = λ block size piece w r there p. k.stores block size piece (moved block size piece w) (t.reply_is ∙ r) there (subst (λ d. Present c.blocks block.0 d there) (sym t.dirty_is) p);
  done = λ block size piece w r there p. k.done block size piece (moved block size piece w) (t.reply_is ∙ r) there (subst (λ d. Present c.blocks block.0 d there) (sym t.dirty_is) p);
  fits = λ block size piece w r. k.fits block size piece (moved block size piece w) (t.reply_is ∙ r);
}
  where
    moved : {stamp : ℕ} (block : BlockNo) (size : ℕ) (piece : List ℕ) → WritesBack kernel stamp one block size piece → WritesBack kernel stamp t.other block size piece
    moved block size piece w = record { from_kernel = t.from_is ∙ w.from_kernel; is_write_back = t.body_is ∙ w.is_write_back }

-- one that is answered, but not as done
pub carried_replied : (z : Setting) (kernel current : ℕ) (c : Client) (bytes : List ℕ) (one : FileCall) (reply : FileBody) → CarriedCall z kernel current c bytes one → (reply ≡ form.Done → (block : BlockNo) (size : ℕ) (piece : List ℕ) → WritesBack kernel c.stamp one block size piece → (there : Held) → Present c.blocks block.0 one.dirty there → part z bytes block.0 ≡ there.bytes) → CarriedCall z kernel current c bytes (replied one reply)
carried_replied z kernel current c bytes one reply k d = record {
  whole_block = λ block size piece w there p. k.whole_block block size piece (record { from_kernel = w.from_kernel; is_write_back = w.is_write_back }) there p;
  stores = λ block size piece w r. absurd (cc (r));
  done = λ block size piece w r there p. d (let q : Some reply ≡ Some form.Done = r in cc (q)) block size piece (record { from_kernel = w.from_kernel; is_write_back = w.is_write_back }) there p;
  fits = λ block size piece w r. absurd (cc (r));
}

-- one that is no write-back of the kernel with these stamps
pub carried_none : (z : Setting) (kernel current : ℕ) (c : Client) (bytes : List ℕ) (one : FileCall) → ((block : BlockNo) (size : ℕ) (piece : List ℕ) → WritesBack kernel current one block size piece → ⊥) → ((block : BlockNo) (size : ℕ) (piece : List ℕ) → WritesBack kernel c.stamp one block size piece → ⊥) → CarriedCall z kernel current c bytes one
carried_none z kernel current c bytes one n m = record {
  whole_block = λ block size piece w. absurd (n block size piece w);
  stores = λ block size piece w. absurd (n block size piece w);
  done = λ block size piece w. absurd (m block size piece w);
  fits = λ block size piece w. absurd (n block size piece w);
}

-- the current stamp rises over those of all requests
pub carried_current : (z : Setting) (kernel current more : ℕ) (c : Client) (bytes : List ℕ) (one : FileCall) (calls : List FileCall) → In one calls → CarriedCall z kernel current c bytes one → current ≤ more → Low kernel current calls → CarriedCall z kernel more c bytes one
carried_current z kernel current more c bytes one calls m k l low = elim (order current more) [
  | inl h ↦ record {
    whole_block = λ block size piece w. absurd (too_old kernel current more calls low h one m block size piece w);
    stores = λ block size piece w. absurd (too_old kernel current more calls low h one m block size piece w);
    done = k.done;
    fits = λ block size piece w. absurd (too_old kernel current more calls low h one m block size piece w);
  }
  | inr h ↦ (let same : current ≡ more = omega (arith, l, h) in subst (λ n. CarriedCall z kernel n c bytes one) same k)
]

-- another client with the same stamp
pub carried_client : (z : Setting) (kernel current : ℕ) (c d : Client) (bytes : List ℕ) (one : FileCall) → CarriedCall z kernel current c bytes one → d.stamp ≡ c.stamp → (one.from ≡ kernel → (number : ℕ) (there : Held) → Present d.blocks number one.dirty there → Present c.blocks number one.dirty there) → CarriedCall z kernel current d bytes one
carried_client z kernel current c d bytes one k s b = record {
  whole_block = λ block size piece w there p. k.whole_block block size piece w there (b w.from_kernel block.0 there p);
  stores = λ block size piece w r there p. k.stores block size piece w r there (b w.from_kernel block.0 there p);
  done = λ block size piece w r there p. k.done block size piece (record { from_kernel = w.from_kernel; is_write_back = w.is_write_back ∙ ap (λ n. form.WriteBack n block size piece) s }) r there (b w.from_kernel block.0 there p);
  fits = k.fits;
}

-- other bytes, the same where a block is present
pub carried_bytes : (z : Setting) (kernel current : ℕ) (c : Client) (bytes others : List ℕ) (one : FileCall) → CarriedCall z kernel current c bytes one → ((block : BlockNo) (size : ℕ) (piece : List ℕ) (stamp : ℕ) → (stamp ≡ current) ⊎ (stamp ≡ c.stamp) → WritesBack kernel stamp one block size piece → (there : Held) → Present c.blocks block.0 one.dirty there → part z others block.0 ≡ part z bytes block.0) → CarriedCall z kernel current c others one
carried_bytes z kernel current c bytes others one k e = record {
  whole_block = k.whole_block;
  stores = λ block size piece w r there p. put_alike z others bytes block.0 size piece (e block size piece current (inl refl) w there p) ∙ k.stores block size piece w r there p;
  done = λ block size piece w r there p. e block size piece c.stamp (inr refl) w there p ∙ k.done block size piece w r there p;
  fits = k.fits;
}
