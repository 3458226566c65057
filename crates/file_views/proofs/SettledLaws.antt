-- What a view stands for once nothing is on its way any more: the first part of coherence.
use Rattle.std.proofs.Common.{◌≡◌, ◌≢◌, ◌≤◌, ◌<◌, ◌⊎◌, ℕ, zero, suc, ◌+◌, ◌-◌, ◌*◌, ◌==◌, nat_le, Bool, true, false, cond, ◌&&◌, is_some, List, [], ◌∷◌, length, take, map, Option, Some, None, refl, sym, ap, ◌∙◌, subst, inl, inr, arith, eq-eqb, leb-false, length-take, ne_eqb}
use Rattle.std.proofs.lemmas.Bool.Decides.{eqb_tells}
use Rattle.std.proofs.lemmas.Bool.{and_from}
use Rattle.std.proofs.lemmas.List.{take_all, map-append}
use Rattle.sprite_ids.specs.declared.BlockNo.{BlockNo}
use Rattle.sprite_ids.specs.declared.CallKind.{CallKind}
use Rattle.sprite_ids.specs.declared.CallKind.TheVariants.{Recall, Stop}
use Rattle.file_views.specs.declared.grant.FileGrant.{FileGrant}
use Rattle.file_views.specs.declared.body.FileBody.{FileBody}
use Rattle.file_views.specs.declared.body.FileBody.TheVariants as form
use Rattle.file_views.specs.declared.client.Held.{Held}
use Rattle.file_views.specs.declared.client.Client.{Client}
use Rattle.file_views.specs.declared.call.FileCall.{FileCall}
use Rattle.file_views.specs.declared.view.View.{View}
use Rattle.file_views.specs.Setting.{Setting}
use Rattle.file_views.specs.Contents.{grown, cut, overlay, numbers_from}
use Rattle.file_views.specs.Streams.{is_any}
use Rattle.file_views.specs.Clients.{cleaned, dirty_blocks, granted, pieces, take_callback}
use Rattle.file_views.specs.Views.{client, kernels, is_kernel, is_holder, is_callback, as_call, things}
use Rattle.file_views.specs.Serving.{store_blocks}
use Rattle.file_views.specs.Settled.{Due, GrantComes, CallComes, dues, take_due, take_all as take_dues, settled_client, Kept, stored, stored_reply, stored_answers, stored_due, stored_dues, stored_clients, settled_server, settled, sized, with_dirty, bytes_held, bytes_of_settled, stands_for}
use Rattle.file_views.specs.Here.{In, Unique, IsClient, Answered}
use Rattle.file_views.specs.SoundShapes.{numbers}
use Rattle.file_views.specs.SoundHolders.{Ready, Keeps}
use Rattle.file_views.specs.SoundContents.{StandsFor, flushed_bytes, or_else, first_flushed, or_bytes}
use Rattle.file_views.specs.LayerLaw.{Layers}
use Rattle.file_views.proofs.MemberLaws.{map_in, in_filter, unique_right}
use Rattle.file_views.proofs.EffectLaws.{call_in_things}
use Rattle.file_views.proofs.ShapeStepLaws.{among_clients}
use Rattle.file_views.proofs.StampLaws.{own_stamp}
use Rattle.file_views.proofs.HolderSettleLaws.{holder_is}
use Rattle.file_views.proofs.SizeLaws.{length_grown}
use Rattle.file_views.proofs.SizeServeLaws.{flush_called}
use Rattle.file_views.proofs.SizeMoveLaws.{Full, full_of}
use Rattle.file_views.proofs.ContentViewLaws.{flushed_target}
use Rattle.file_views.proofs.ContentMoveLaws.{leans_of}
use Rattle.file_views.specs.Coherent.{stands, part_2, part_3, part_4, part_5, part_6, part_7, coherent}
use Rattle.file_views.proofs.CoherentLaws.{settled_is, settled_holder, part_3_by, part_4_by, part_6_by}
use Rattle.file_views.proofs.SameLaws.{bytes_same}
use Rattle.file_views.proofs.WayLaws.{part_5_by}
use Rattle.file_views.proofs.TrustLaws.{GrantFrom, grant_from, part_2_by}
use Rattle.file_views.proofs.PresentLaws.{FirstFlush, NoneFlushed, flush_found, grown_full, over_store, present_by}

-- a client without dirty blocks
abbrev pub Clean : Client → Type 0
Clean c = dirty_blocks c.blocks ≡ []

nothing_in : {X : Type 0} (xs : List X) → ((x : X) → In x xs → ⊥) → xs ≡ []
nothing_in [] f = refl
nothing_in (x ∷ xs) f = absurd (f x (inl refl))

clean_by : (c : Client) → ((one : Held) → In one c.blocks → is_some one.dirty ≡ true → ⊥) → Clean c
clean_by c f = nothing_in (dirty_blocks c.blocks) (λ one m. let p = in_filter (λ (x : Held). is_some x.dirty) one c.blocks m in f one p.0 p.1)

none_dirty : (blocks : List Held) → dirty_blocks (map cleaned blocks) ≡ []
none_dirty [] = refl
none_dirty (one ∷ rest) = none_dirty rest

-- after a callback it has none
called_clean : (c : Client) (stamp : ℕ) (kind : CallKind) → Clean (take_callback c stamp kind)
called_clean c stamp Recall = none_dirty c.blocks
called_clean c stamp Stop = refl

clean_due : (c : Client) (x : Due) → Clean c → Clean (take_due c x)
clean_due c (GrantComes grant) e = by_test (nat_le grant.stamp c.stamp) (grant.on && (c.version == grant.old))
  where
    by_test : (b d : Bool) → dirty_blocks (cond b c (record (granted c grant) { blocks = cond d c.blocks [] })).blocks ≡ []
    by_test true d = e
    by_test false true = e
    by_test false false = refl
clean_due c (CallComes stamp kind) e = by_test (nat_le stamp c.stamp)
  where
    by_test : (b : Bool) → dirty_blocks (cond b c (take_callback c stamp kind)).blocks ≡ []
    by_test true = e
    by_test false = called_clean c stamp kind

clean_dues : (xs : List Due) (c : Client) → Clean c → Clean (take_dues c xs)
clean_dues [] c e = e
clean_dues (x ∷ xs) c e = clean_dues xs (take_due c x) (clean_due c x e)

-- and its answers leave the server's bytes
bytes_due : (z : Setting) (kept : Kept) (kernel : ℕ) (c : Client) (x : Due) → Clean c → (stored_due z kept kernel c x).bytes ≡ kept.bytes
bytes_due z kept kernel c (GrantComes grant) e = refl
bytes_due z kept kernel c (CallComes stamp kind) e = by_test (nat_le stamp c.stamp)
  where
    by_test : (b : Bool) → (cond b kept (stored z kept kernel c.size (pieces z c.size c.blocks))).bytes ≡ kept.bytes
    by_test true = refl
    by_test false = ap (λ bs. store_blocks z kept.bytes c.size (map (λ (one : Held). (one.block, cut z one.bytes one.block.0 c.size)) bs)) e

bytes_dues : (z : Setting) (xs : List Due) (kept : Kept) (kernel : ℕ) (c : Client) → Clean c → (stored_dues z kept kernel c xs).bytes ≡ kept.bytes
bytes_dues z [] kept kernel c e = refl
bytes_dues z (x ∷ xs) kept kernel c e = bytes_dues z xs (stored_due z kept kernel c x) kernel (take_due c x) (clean_due c x e) ∙ bytes_due z kept kernel c x e

-- the holder stays where another kernel answers
abbrev pub SameHolder : ℕ → Kept → Kept → Type 0
SameHolder k kept next = kept.holder ≡ Some k → next.holder ≡ Some k

holder_stored : (z : Setting) (k : ℕ) (kept : Kept) (kernel size : ℕ) (blocks : List (BlockNo × List ℕ)) → kernel ≢ k → SameHolder k kept (stored z kept kernel size blocks)
holder_stored z k kept kernel size blocks d e = ap (λ b. cond b None kept.holder) (ap (is_kernel kernel) e ∙ ne_eqb k kernel (λ q. d (sym q))) ∙ e

holder_due : (z : Setting) (k : ℕ) (kept : Kept) (kernel : ℕ) (c : Client) (x : Due) → kernel ≢ k → SameHolder k kept (stored_due z kept kernel c x)
holder_due z k kept kernel c (GrantComes grant) d e = e
holder_due z k kept kernel c (CallComes stamp kind) d e = by_test (nat_le stamp c.stamp)
  where
    by_test : (b : Bool) → (cond b kept (stored z kept kernel c.size (pieces z c.size c.blocks))).holder ≡ Some k
    by_test true = e
    by_test false = holder_stored z k kept kernel c.size (pieces z c.size c.blocks) d e

holder_dues : (z : Setting) (k : ℕ) (xs : List Due) (kept : Kept) (kernel : ℕ) (c : Client) → kernel ≢ k → SameHolder k kept (stored_dues z kept kernel c xs)
holder_dues z k [] kept kernel c d e = e
holder_dues z k (x ∷ xs) kept kernel c d e = holder_dues z k xs (stored_due z kept kernel c x) kernel (take_due c x) d (holder_due z k kept kernel c x d e)

-- the answers that are made: one with blocks at most
abbrev pub OneFlush : List FileCall → Type 0
OneFlush calls = (one other : FileCall) → In one calls → In other calls → (size more : ℕ) (blocks rest : List (BlockNo × List ℕ)) → one.reply ≡ Some (form.Flushed size blocks) → other.reply ≡ Some (form.Flushed more rest) → is_any blocks ≡ true → is_any rest ≡ true → one.number ≡ other.number

bytes_no_flush : (z : Setting) (calls : List FileCall) (kept : Kept) → NoneFlushed calls → (stored_answers z kept calls).bytes ≡ kept.bytes
bytes_no_flush z [] kept n = refl
bytes_no_flush z (c ∷ cs) kept n = bytes_no_flush z cs (stored_reply z kept c c.reply) (λ one m. n one (inr m)) ∙ by_reply c.reply refl
  where
    stored_none : (size : ℕ) (blocks : List (BlockNo × List ℕ)) → is_any blocks ≡ false → store_blocks z kept.bytes size blocks ≡ kept.bytes
    stored_none size [] e = refl
    stored_none size (b ∷ bs) e = absurd (cc (e))

    by_reply : (reply : Option FileBody) → c.reply ≡ reply → (stored_reply z kept c reply).bytes ≡ kept.bytes
    by_reply (Some (form.Flushed size blocks)) r = stored_none size blocks (n c (inl refl) size blocks r)
    by_reply (Some body) r = refl
    by_reply None r = refl

bytes_answers : (z : Setting) (calls : List FileCall) (kept : Kept) → Unique (numbers calls) → OneFlush calls → (stored_answers z kept calls).bytes ≡ or_bytes kept.bytes (first_flushed z kept.bytes calls)
bytes_answers z [] kept u o = refl
bytes_answers z (c ∷ cs) kept u o = by_reply c.reply refl (λ next. bytes_answers z cs next u.1 (λ one other m n. o one other (inr m) (inr n)))
  where
    number_in : (one : FileCall) (calls : List FileCall) → In one calls → In one.number (numbers calls)
    number_in one calls m = map_in (λ (y : FileCall). y.number) one calls m

    none_later : (size : ℕ) (b : BlockNo × List ℕ) (bs : List (BlockNo × List ℕ)) → c.reply ≡ Some (form.Flushed size (b ∷ bs)) → NoneFlushed cs
    none_later size b bs r one m more [] q = refl
    none_later size b bs r one m more (x ∷ xs) q = absurd (u.0 (subst (λ n. In n (numbers cs)) (sym (o c one (inl refl) (inr m) size more (b ∷ bs) (x ∷ xs) r q refl refl)) (number_in one cs m)))

    by_reply : (reply : Option FileBody) → c.reply ≡ reply → ((next : Kept) → (stored_answers z next cs).bytes ≡ or_bytes next.bytes (first_flushed z next.bytes cs)) → (stored_answers z (stored_reply z kept c reply) cs).bytes ≡ or_bytes kept.bytes (or_else (flushed_bytes z kept.bytes reply) (first_flushed z kept.bytes cs))
    by_reply (Some (form.Flushed size (b ∷ bs))) r go = bytes_no_flush z cs (stored z kept c.to size (b ∷ bs)) (none_later size b bs r)
    by_reply (Some (form.Flushed size [])) r go = go (stored z kept c.to size [])
    by_reply (Some body) r go = go kept
    by_reply None r go = go kept

holder_answers : (z : Setting) (k : ℕ) (calls : List FileCall) (kept : Kept) → ((one : FileCall) → In one calls → (size : ℕ) (blocks : List (BlockNo × List ℕ)) → one.reply ≡ Some (form.Flushed size blocks) → one.to ≢ k) → SameHolder k kept (stored_answers z kept calls)
holder_answers z k [] kept n e = e
holder_answers z k (c ∷ cs) kept n e = holder_answers z k cs (stored_reply z kept c c.reply) (λ one m. n one (inr m)) (by_reply c.reply refl)
  where
    by_reply : (reply : Option FileBody) → c.reply ≡ reply → (stored_reply z kept c reply).holder ≡ Some k
    by_reply (Some (form.Flushed size blocks)) r = holder_stored z k kept c.to size blocks (n c (inl refl) size blocks r) e
    by_reply (Some body) r = e
    by_reply None r = e

-- the bytes that a settled view stands for, from what its server and its holder keep
held_by : (z : Setting) (stood : List ℕ) (w : View) → (w.holder ≡ None → w.bytes ≡ stood) → ((k : ℕ) → w.holder ≡ Some k → with_dirty z w.bytes (client w k).size (dirty_blocks (client w k).blocks) ≡ stood) → bytes_of_settled z w ≡ stood
held_by z stood w f g = by_holder w.holder refl
  where
    by_holder : (o : Option ℕ) → w.holder ≡ o → bytes_held z w o ≡ stood
    by_holder None e = f e
    by_holder (Some k) e = g k e

clean_held : (z : Setting) (bytes : List ℕ) (c : Client) → Clean c → with_dirty z bytes c.size (dirty_blocks c.blocks) ≡ bytes
clean_held z bytes c e = ap (with_dirty z bytes c.size) e

-- nobody has a dirty block
abbrev pub AllClean : View → Type 0
AllClean v = (kernel : ℕ) → IsClient (length v.clients) kernel → Clean (client v kernel)

bytes_clients : (z : Setting) (v : View) (ks : List ℕ) (kept : Kept) → ((kernel : ℕ) → In kernel ks → Clean (client v kernel)) → (stored_clients z v kept ks).bytes ≡ kept.bytes
bytes_clients z v [] kept f = refl
bytes_clients z v (kernel ∷ rest) kept f = bytes_clients z v rest (stored_dues z kept kernel (client v kernel) (dues v kernel)) (λ k m. f k (inr m)) ∙ bytes_dues z (dues v kernel) kept kernel (client v kernel) (f kernel (inl refl))

stands_clean : (z : Setting) (stood : List ℕ) (v : View) → ((k : ℕ) → v.holder ≡ Some k → IsClient (length v.clients) k) → AllClean v → (stored_answers z (record { bytes = v.bytes; holder = v.holder }) v.calls).bytes ≡ stood → stands_for z v ≡ stood
stands_clean z stood v h clean e = held_by z stood (settled z v) (λ q. whole) (λ k q.
    let i : IsClient (length v.clients) k = h k (settled_holder z v k q) in
    clean_held z (settled z v).bytes (client (settled z v) k) (subst Clean (sym (settled_is z v k i)) (clean_dues (dues v k) (client v k) (clean k i))) ∙ whole)
  where
    whole : (settled z v).bytes ≡ stood
    whole = bytes_clients z v (kernels v) (stored_answers z (record { bytes = v.bytes; holder = v.holder }) v.calls) (λ kernel m. clean kernel (among_clients v kernel m)) ∙ e

-- who has dirty blocks: what of them is at the server once they are stored, or else what the view stands for with them
record Dirty (z : Setting) (stood : List ℕ) (v : View) (k : ℕ) : Type 0 where
  place : IsClient (length v.clients) k
  holds : v.holder ≡ Some k
  ready : Ready k (own_stamp v k) (client v k).version v.version (is_holder v k) (client v k).mode (things v)
  others : (kernel : ℕ) → IsClient (length v.clients) kernel → kernel ≢ k → Clean (client v kernel)
  stored_is : store_blocks z v.bytes (client v k).size (pieces z (client v k).size (client v k).blocks) ≡ stood
  held_is : with_dirty z v.bytes (client v k).size (dirty_blocks (client v k).blocks) ≡ stood

-- its blocks are as they were, or stored
pub record Untouched (v : View) (k : ℕ) (kept : Kept) (c : Client) : Type 0 where
  pub bytes : kept.bytes ≡ v.bytes
  pub holder : kept.holder ≡ Some k
  pub blocks : c.blocks ≡ (client v k).blocks
  pub size : c.size ≡ (client v k).size
  pub version : c.version ≡ v.version
  pub stamp : own_stamp v k ≤ c.stamp

abbrev pub Phase : List ℕ → View → ℕ → Kept → Client → Type 0
Phase stood v k kept c = ((kept.bytes ≡ stood) × Clean c) ⊎ Untouched v k kept c

-- what is due at it
phase_granted : (z : Setting) (stood : List ℕ) (v : View) (k : ℕ) (kept : Kept) (c : Client) (grant : FileGrant) → Dirty z stood v k → In (GrantComes grant) (dues v k) → Untouched v k kept c → Phase stood v k kept (take_due c (GrantComes grant))
phase_granted z stood v k kept c grant h m u = by_test (nat_le grant.stamp c.stamp) refl
  where
    f : GrantFrom v k grant
    f = grant_from v k grant m

    newer : c.stamp < grant.stamp → own_stamp v k < grant.stamp
    newer l = let a = u.stamp in omega (arith, a, l)

    keeps : c.stamp < grant.stamp → Keeps v.version grant
    keeps l = h.ready.newer f.call f.there grant f.arrives (newer l)

    by_test : (b : Bool) → nat_le grant.stamp c.stamp ≡ b → Phase stood v k kept (cond b c (granted c grant))
    by_test true e = inr u
    by_test false e =
        let l : c.stamp < grant.stamp = leb-false grant.stamp c.stamp e in
        let q : (c.version == grant.old) ≡ true = eq-eqb c.version grant.old (u.version ∙ sym (keeps l).old) in
        inr (record {
          bytes = u.bytes;
          holder = u.holder;
          blocks = ap (λ b. cond b c.blocks []) (and_from grant.on (c.version == grant.old) (keeps l).on q) ∙ u.blocks;
          size = ap (λ b. cond b c.size grant.size) (and_from grant.holder (c.version == grant.old) (keeps l).holder q) ∙ u.size;
          version = (keeps l).new;
          stamp = (let a = newer l in omega (arith, a));
        })

phase_called : (z : Setting) (stood : List ℕ) (v : View) (k : ℕ) (kept : Kept) (c : Client) (stamp : ℕ) (kind : CallKind) → Dirty z stood v k → Untouched v k kept c → Phase stood v k (stored_due z kept k c (CallComes stamp kind)) (take_due c (CallComes stamp kind))
phase_called z stood v k kept c stamp kind h u = by_test (nat_le stamp c.stamp)
  where
    same : store_blocks z kept.bytes c.size (pieces z c.size c.blocks) ≡ stood
    same = ap (λ xs. store_blocks z xs c.size (pieces z c.size c.blocks)) u.bytes ∙ (ap (λ n. store_blocks z v.bytes n (pieces z n c.blocks)) u.size ∙ (ap (λ bs. store_blocks z v.bytes (client v k).size (pieces z (client v k).size bs)) u.blocks ∙ h.stored_is))

    by_test : (b : Bool) → Phase stood v k (cond b kept (stored z kept k c.size (pieces z c.size c.blocks))) (cond b c (take_callback c stamp kind))
    by_test true = inr u
    by_test false = inl (same, called_clean c stamp kind)

phase_due : (z : Setting) (stood : List ℕ) (v : View) (k : ℕ) (kept : Kept) (c : Client) (x : Due) → Dirty z stood v k → In x (dues v k) → Phase stood v k kept c → Phase stood v k (stored_due z kept k c x) (take_due c x)
phase_due z stood v k kept c x h m (inl p) = inl (bytes_due z kept k c x p.1 ∙ p.0, clean_due c x p.1)
phase_due z stood v k kept c (GrantComes grant) h m (inr u) = phase_granted z stood v k kept c grant h m u
phase_due z stood v k kept c (CallComes stamp kind) h m (inr u) = phase_called z stood v k kept c stamp kind h u

phase_dues : (z : Setting) (stood : List ℕ) (v : View) (k : ℕ) (xs : List Due) (kept : Kept) (c : Client) → Dirty z stood v k → ((x : Due) → In x xs → In x (dues v k)) → Phase stood v k kept c → Phase stood v k (stored_dues z kept k c xs) (take_dues c xs)
phase_dues z stood v k [] kept c h f p = p
phase_dues z stood v k (x ∷ xs) kept c h f p = phase_dues z stood v k xs (stored_due z kept k c x) (take_due c x) h (λ y m. f y (inr m)) (phase_due z stood v k kept c x h (f x (inl refl)) p)

-- another kernel's answers
phase_other : (z : Setting) (stood : List ℕ) (v : View) (k : ℕ) (kept : Kept) (c : Client) (kernel : ℕ) → kernel ≢ k → Clean (client v kernel) → Phase stood v k kept c → Phase stood v k (stored_dues z kept kernel (client v kernel) (dues v kernel)) c
phase_other z stood v k kept c kernel d e (inl p) = inl (bytes_dues z (dues v kernel) kept kernel (client v kernel) e ∙ p.0, p.1)
phase_other z stood v k kept c kernel d e (inr u) = inr (record { bytes = bytes_dues z (dues v kernel) kept kernel (client v kernel) e ∙ u.bytes; holder = holder_dues z k (dues v kernel) kept kernel (client v kernel) d u.holder; blocks = u.blocks; size = u.size; version = u.version; stamp = u.stamp })

-- all kernels: before it, and behind it
record Ahead (v : View) (k first : ℕ) (kept : Kept) : Type 0 where
  before : first ≤ k
  bytes : kept.bytes ≡ v.bytes
  holder : kept.holder ≡ Some k

record Passed (stood : List ℕ) (v : View) (k first : ℕ) (kept : Kept) : Type 0 where
  behind : k < first
  phase : Phase stood v k kept (settled_client v k)

start_of : (z : Setting) (stood : List ℕ) (v : View) (k : ℕ) (kept : Kept) → Dirty z stood v k → kept.bytes ≡ v.bytes → kept.holder ≡ Some k → Untouched v k kept (client v k)
start_of z stood v k kept h b e = record { bytes = b; holder = e; blocks = refl; size = refl; version = h.ready.at_version; stamp = omega arith }

along_one : (z : Setting) (stood : List ℕ) (v : View) (k kernel : ℕ) (kept : Kept) → Dirty z stood v k → IsClient (length v.clients) kernel → Ahead v k kernel kept ⊎ Passed stood v k kernel kept → (((kernel == k) ≡ true) × (kernel ≡ k)) ⊎ (((kernel == k) ≡ false) × (kernel ≢ k)) → Ahead v k (kernel + 1) (stored_dues z kept kernel (client v kernel) (dues v kernel)) ⊎ Passed stood v k (kernel + 1) (stored_dues z kept kernel (client v kernel) (dues v kernel))
along_one z stood v k kernel kept h i (inl a) (inl e) = inr (record {
  behind = (let q = e.1 in omega (arith, q));
  phase = subst (λ n. Phase stood v k (stored_dues z kept n (client v n) (dues v n)) (settled_client v k)) (sym e.1) (phase_dues z stood v k (dues v k) kept (client v k) h (λ x m. m) (inr (start_of z stood v k kept h a.bytes a.holder)));
})
along_one z stood v k kernel kept h i (inl a) (inr d) = inl (record {
  before = (let l = a.before in let n = d.1 in omega (arith, l, n));
  bytes = bytes_dues z (dues v kernel) kept kernel (client v kernel) (h.others kernel i d.1) ∙ a.bytes;
  holder = holder_dues z k (dues v kernel) kept kernel (client v kernel) d.1 a.holder;
})
along_one z stood v k kernel kept h i (inr p) (inl e) = absurd (let l = p.behind in let q = e.1 in omega (arith, l, q))
along_one z stood v k kernel kept h i (inr p) (inr d) = inr (record { behind = (let l = p.behind in omega (arith, l)); phase = phase_other z stood v k kept (settled_client v k) kernel d.1 (h.others kernel i d.1) p.phase })

along : (z : Setting) (stood : List ℕ) (v : View) (k : ℕ) (count first : ℕ) (kept : Kept) → Dirty z stood v k → 1 ≤ first → first + count ≤ length v.clients + 1 → Ahead v k first kept ⊎ Passed stood v k first kept → Ahead v k (first + count) (stored_clients z v kept (numbers_from first count)) ⊎ Passed stood v k (first + count) (stored_clients z v kept (numbers_from first count))
along z stood v k zero first kept h low high p = subst (λ n. Ahead v k n kept ⊎ Passed stood v k n kept) (none first) p
  where
    none : (n : ℕ) → n ≡ n + 0
    none n = omega arith
along z stood v k (suc count) first kept h low high p = subst (λ n. Ahead v k n next ⊎ Passed stood v k n next) (more first) (along z stood v k count (first + 1) (stored_dues z kept first (client v first) (dues v first)) h (omega (arith, low)) (omega (arith, high)) (along_one z stood v k first kept h (low, omega (arith, high)) p (eqb_tells first k)))
  where
    next : Kept
    next = stored_clients z v kept (numbers_from first (suc count))

    more : (n : ℕ) → n + 1 + count ≡ n + suc count
    more n = omega arith

stands_dirty : (z : Setting) (stood : List ℕ) (v : View) (k : ℕ) → Dirty z stood v k → (stored_answers z (record { bytes = v.bytes; holder = v.holder }) v.calls).bytes ≡ v.bytes → (stored_answers z (record { bytes = v.bytes; holder = v.holder }) v.calls).holder ≡ Some k → stands_for z v ≡ stood
stands_dirty z stood v k h b e = elim (along z stood v k (length v.clients) 1 start h (omega arith) (omega arith) (inl (record { before = h.place.0; bytes = b; holder = e }))) [
  | inl a ↦ absurd (let l = a.before in let i = h.place.1 in omega (arith, l, i))
  | inr p ↦ by_phase p.phase
]
  where
    start : Kept
    start = stored_answers z (record { bytes = v.bytes; holder = v.holder }) v.calls

    now : client (settled z v) k ≡ settled_client v k
    now = settled_is z v k h.place

    it : (n : ℕ) → (settled z v).holder ≡ Some n → n ≡ k
    it n q = let r : Some n ≡ Some k = sym (settled_holder z v n q) ∙ h.holds in cc (r)

    by_phase : Phase stood v k (settled_server z v) (settled_client v k) → stands_for z v ≡ stood
    by_phase (inl p) = held_by z stood (settled z v) (λ q. p.0) (λ n q. subst (λ x. with_dirty z (settled z v).bytes (client (settled z v) x).size (dirty_blocks (client (settled z v) x).blocks) ≡ stood) (sym (it n q)) (clean_held z (settled z v).bytes (client (settled z v) k) (subst Clean (sym now) p.1) ∙ p.0))
    by_phase (inr u) = held_by z stood (settled z v) (λ q. absurd (let r : None ≡ Some k = sym q ∙ u.holder in cc (r))) (λ n q. subst (λ x. with_dirty z (settled z v).bytes (client (settled z v) x).size (dirty_blocks (client (settled z v) x).blocks) ≡ stood) (sym (it n q))
        (subst (λ (c : Client). with_dirty z (settled z v).bytes c.size (dirty_blocks c.blocks) ≡ stood) (sym now)
        (ap (λ xs. with_dirty z xs (settled_client v k).size (dirty_blocks (settled_client v k).blocks)) u.bytes ∙ (ap (λ m. with_dirty z v.bytes m (dirty_blocks (settled_client v k).blocks)) u.size ∙ (ap (λ bs. with_dirty z v.bytes (client v k).size (dirty_blocks bs)) u.blocks ∙ h.held_is)))))

-- blocks that are stored over bytes with zeros behind
sized_stored : (z : Setting) (size : ℕ) (bytes : List ℕ) (piece : BlockNo × List ℕ) (rest : List (BlockNo × List ℕ)) → length bytes ≤ size → store_blocks z (sized bytes size) size (piece ∷ rest) ≡ store_blocks z bytes size (piece ∷ rest)
sized_stored z size bytes piece rest l = ap (λ xs. store_blocks z (overlay xs (piece.0.0 * z.block) piece.1) size rest) (grown_full (sized bytes size) size long ∙ taken)
  where
    taken : take size (grown bytes size) ≡ grown bytes size
    taken = take_all size (grown bytes size) (let a = length_grown bytes size in omega (arith, a, l))

    long : length (sized bytes size) ≡ size
    long = let a = length-take size (grown bytes size) in let b = length_grown bytes size in omega (arith, a, b)

-- the view stands for the bytes that it presents
pub stands_is : (z : Setting) (v : View) → Layers z v → 0 < z.block → (f : StandsFor z v) → stands_for z v ≡ f.stood
stands_is z v l p f = elim (flush_found z v.bytes v.calls) [ inl n ↦ unflushed n.0 n.1 | inr g ↦ flushed g ]
  where
    t : Full z v
    t = full_of z v l.shapes l.streams l.stamps l.decisions l.modes l.holders l.asking l.write_backs l.sizes

    at_holder : (k : ℕ) → IsClient (length v.clients) k → (one : Held) → In one (client v k).blocks → is_some one.dirty ≡ true → v.holder ≡ Some k
    at_holder k i one m d = holder_is v.holder k ((t.holders.each k i).dirty_ready one m d).holds_it

    one_only : (a b : ℕ) → v.holder ≡ Some a → v.holder ≡ Some b → a ≡ b
    one_only a b e q = let r : Some a ≡ Some b = sym e ∙ q in cc (r)

    unique : Unique (numbers v.calls)
    unique = unique_right (numbers (map as_call v.carried)) (numbers v.calls) (subst Unique (map-append (λ (c : FileCall). c.number) (map as_call v.carried) v.calls) t.standing.flat.numbered.differ)

    flushes_at : (one : FileCall) → In one v.calls → (size : ℕ) (blocks : List (BlockNo × List ℕ)) → one.reply ≡ Some (form.Flushed size blocks) → is_any blocks ≡ true → (is_holder v one.to ≡ true) × (Answered one.to (things v))
    flushes_at one m size blocks r b = flushed_target z v (leans_of z v t) (record { call = one; there = call_in_things v one m; size = size; blocks = blocks; replied = r; some = b })

    one_flush : OneFlush v.calls
    one_flush one other m n size more blocks rest r q b d = (t.standing.stamps.pairs one other (call_in_things v one m) (call_in_things v other n)).callbacks (flush_called v t.standing.flat one (call_in_things v one m) size blocks r) (flush_called v t.standing.flat other (call_in_things v other n) more rest q)
        (one_only one.to other.to (holder_is v.holder one.to (flushes_at one m size blocks r b).0) (holder_is v.holder other.to (flushes_at other n more rest q d).0))

    answers : (stored_answers z (record { bytes = v.bytes; holder = v.holder }) v.calls).bytes ≡ or_bytes v.bytes (first_flushed z v.bytes v.calls)
    answers = bytes_answers z v.calls (record { bytes = v.bytes; holder = v.holder }) unique one_flush

    flushed : FirstFlush z v.bytes v.calls → stands_for z v ≡ f.stood
    flushed g = stands_clean z f.stood v (λ k e. t.holders.is_client k e) (λ kernel i. clean_by (client v kernel) (λ one m d. none kernel i one m d)) (answers ∙ (ap (or_bytes v.bytes) g.is ∙ (sym (ap (or_bytes (bytes_of_settled z v)) g.is) ∙ present_by z v l p f)))
      where
        target : (is_holder v g.call.to ≡ true) × (Answered g.call.to (things v))
        target = flushes_at g.call g.there g.size (g.piece ∷ g.rest) g.replied refl

        none : (kernel : ℕ) → IsClient (length v.clients) kernel → (one : Held) → In one (client v kernel).blocks → is_some one.dirty ≡ true → ⊥
        none kernel i one m d = (t.holders.each kernel i).dirty_unanswered one m d (subst (λ x. Answered x (things v)) (one_only g.call.to kernel (holder_is v.holder g.call.to target.0) (at_holder kernel i one m d)) target.1)

    unflushed : first_flushed z v.bytes v.calls ≡ None → NoneFlushed v.calls → stands_for z v ≡ f.stood
    unflushed e n = by_holder v.holder refl
      where
        held : bytes_held z v v.holder ≡ f.stood
        held = sym (ap (or_bytes (bytes_of_settled z v)) e) ∙ present_by z v l p f

        server : (stored_answers z (record { bytes = v.bytes; holder = v.holder }) v.calls).bytes ≡ v.bytes
        server = answers ∙ ap (or_bytes v.bytes) e

        other_clean : (k : ℕ) → v.holder ≡ Some k → (kernel : ℕ) → IsClient (length v.clients) kernel → kernel ≢ k → Clean (client v kernel)
        other_clean k q kernel i d = clean_by (client v kernel) (λ one m b. d (one_only kernel k (at_holder kernel i one m b) q))

        by_blocks : (k : ℕ) → v.holder ≡ Some k → (blocks : List Held) → dirty_blocks (client v k).blocks ≡ blocks → stands_for z v ≡ f.stood
        by_blocks k q [] b = stands_clean z f.stood v (λ j e. t.holders.is_client j e) (λ kernel i. elim (eqb_tells kernel k) [ inl a ↦ subst (λ x. Clean (client v x)) (sym a.1) b | inr d ↦ other_clean k q kernel i d.1 ]) (server ∙ (sym (clean_held z v.bytes (client v k) b) ∙ (sym (ap (bytes_held z v) q) ∙ held)))
        by_blocks k q (first ∷ rest) b = stands_dirty z f.stood v k (record {
          place = place;
          holds = q;
          ready = ready;
          others = other_clean k q;
          stored_is = ap (λ bs. store_blocks z v.bytes size (map to bs)) b ∙ (sym (sized_stored z size v.bytes (to first) (map to rest) covers) ∙ (sym (over_store z size (first ∷ rest) (sized v.bytes size) long within) ∙ (sym (ap (with_dirty z v.bytes size) b) ∙ (sym (ap (bytes_held z v) q) ∙ held))));
          held_is = sym (ap (bytes_held z v) q) ∙ held;
        }) server (holder_answers z k v.calls (record { bytes = v.bytes; holder = v.holder }) unanswered q)
          where
            size : ℕ
            size = (client v k).size

            to : Held → BlockNo × List ℕ
            to one = (one.block, cut z one.bytes one.block.0 size)

            place : IsClient (length v.clients) k
            place = t.holders.is_client k q

            dirty_of : (one : Held) → In one (first ∷ rest) → In one (client v k).blocks × (is_some one.dirty ≡ true)
            dirty_of one m = in_filter (λ (x : Held). is_some x.dirty) one (client v k).blocks (subst (In one) (sym b) m)

            ready : Ready k (own_stamp v k) (client v k).version v.version (is_holder v k) (client v k).mode (things v)
            ready = let d = dirty_of first (inl refl) in (t.holders.each k place).dirty_ready first d.0 d.1

            covers : length v.bytes ≤ size
            covers = let d = dirty_of first (inl refl) in ((t.sizes k place).holder ready ((t.holders.each k place).dirty_unanswered first d.0 d.1)).covers

            long : length (sized v.bytes size) ≡ size
            long = let a = length-take size (grown v.bytes size) in let c = length_grown v.bytes size in omega (arith, a, c)

            within : (one : Held) → In one (first ∷ rest) → one.block.0 * z.block + length (cut z one.bytes one.block.0 size) ≤ size
            within one m = let d = dirty_of one m in let w = (t.writing k place).dirty_within one d.0 d.1 in let a = length-take (size - one.block.0 * z.block) one.bytes in omega (arith, w, a)

            unanswered : (one : FileCall) → In one v.calls → (many : ℕ) (blocks : List (BlockNo × List ℕ)) → one.reply ≡ Some (form.Flushed many blocks) → one.to ≢ k
            unanswered one m many blocks r a = let d = dirty_of first (inl refl) in (t.holders.each k place).dirty_unanswered first d.0 d.1 (by_body one.body refl (flush_called v t.standing.flat one (call_in_things v one m) many blocks r))
              where
                by_body : (body : FileBody) → one.body ≡ body → is_callback body ≡ true → Answered k (things v)
                by_body (form.Callback stamp kind) y c = record { call = one; there = call_in_things v one m; to_kernel = a; stamp = stamp; kind = kind; is_call = y; taken = (t.standing.flat.calls one m).taken_first (form.Flushed many blocks) r }
                by_body body y c = absurd (cc (c))

        by_holder : (o : Option ℕ) → v.holder ≡ o → stands_for z v ≡ f.stood
        by_holder None q = stands_clean z f.stood v (λ k e. t.holders.is_client k e) (λ kernel i. clean_by (client v kernel) (λ one m d. (let r = at_holder kernel i one m d in cc (r, q)))) (server ∙ (sym (ap (bytes_held z v) q) ∙ held))
        by_holder (Some k) q = by_blocks k q (dirty_blocks (client v k).blocks) refl

-- all seven parts
pub coherent_by : (z : Setting) (v : View) → Layers z v → part_7 z v ≡ true → 0 < z.block → (f : StandsFor z v) → coherent z v f.stood ≡ true
coherent_by z v l w p f = and_from (stands z v f.stood) _ (bytes_same (stands_for z v) f.stood (stands_is z v l p f))
    (and_from (part_2 z v f.stood) _ (part_2_by z v l f)
    (and_from (part_3 z v) _ (part_3_by z v l)
    (and_from (part_4 v) _ (part_4_by z v l)
    (and_from (part_5 z v f.stood) _ (part_5_by z v l f)
    (and_from (part_6 z v) _ (part_6_by z v l) w)))))
