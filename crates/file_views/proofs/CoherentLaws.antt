-- What of coherence follows from the first six layers of soundness.
use Rattle.std.proofs.Common.{◌≡◌, ◌≤◌, ◌<◌, ◌⊎◌, ℕ, zero, suc, ◌+◌, ◌-◌, ◌==◌, nat_le, Bool, true, false, cond, not, ◌&&◌, ◌||◌, List, [], ◌∷◌, length, map, Option, Some, None, refl, sym, ap, ◌∙◌, subst, inl, inr, arith, eqb-true, eq-eqb, le-leb, leb-false, slice_index_or}
use Rattle.std.specs.List.{list_any, list_all}
use Rattle.std.proofs.lemmas.Bool.{and_parts, and_from, and_left, and_right, ltb-true}
use Rattle.sprite_ids.specs.declared.BlockNo.{BlockNo}
use Rattle.sprite_ids.specs.declared.StreamNo.{StreamNo}
use Rattle.sprite_ids.specs.declared.CacheMode.{CacheMode}
use Rattle.sprite_ids.specs.declared.CacheMode.TheVariants as cache
use Rattle.sprite_ids.specs.declared.CallKind.{CallKind}
use Rattle.file_views.specs.declared.grant.FileGrant.{FileGrant}
use Rattle.file_views.specs.declared.body.FileBody.{FileBody}
use Rattle.file_views.specs.declared.body.FileBody.TheVariants as form
use Rattle.file_views.specs.declared.client.Client.{Client}
use Rattle.file_views.specs.declared.call.FileCall.{FileCall}
use Rattle.file_views.specs.declared.view.View.{View}
use Rattle.file_views.specs.Setting.{Setting}
use Rattle.file_views.specs.Contents.{numbers_from}
use Rattle.file_views.specs.Streams.{same_stream, has_stream, has_open, is_any}
use Rattle.file_views.specs.Clients.{new_client, is_on, mode_of, granted, pieces}
use Rattle.file_views.specs.Views.{kernels, client, current_stamp, mode_given, is_kernel, is_callback, busy, things}
use Rattle.file_views.specs.Settled.{goes_to, arrival, Due, GrantComes, CallComes, due_stamp, due_grant, due_call, due_of, inserted, in_order, dues_in, dues, take_due, take_all, settled_client, Kept, stored, stored_reply, stored_answers, stored_due, stored_dues, stored_clients, settled, is_trusted}
use Rattle.file_views.specs.Same.{same_mode}
use Rattle.file_views.specs.Waits.{implies}
use Rattle.file_views.specs.Coherent.{works_cached, counts_dirty, is_other, writes_alone, stamps_agree, nobody_trusted, part_3, part_4, part_6}
use Rattle.file_views.specs.Here.{In, IsClient, Arrives}
use Rattle.file_views.specs.SoundModes.{GrantWith, CallbackWith}
use Rattle.file_views.specs.LayerLaw.{Layers}
use Rattle.file_views.proofs.MemberLaws.{in_left, in_right, in_join}
use Rattle.file_views.proofs.CountLaws.{bool_cases, has_some, same_self}
use Rattle.file_views.proofs.OpenLaws.{OpenAt, open_there}
use Rattle.file_views.proofs.ShapeLaws.{flat_of}
use Rattle.file_views.proofs.ShapeStepLaws.{among_clients}
use Rattle.file_views.proofs.StreamLaws.{FlatStreams, flat_streams}
use Rattle.file_views.proofs.StampLaws.{own_stamp, FlatStamps, flat_stamps}
use Rattle.file_views.proofs.StampChangeLaws.{NoCall, no_call_thing}
use Rattle.file_views.proofs.StampServeLaws.{idle}
use Rattle.file_views.proofs.DecisionLaws.{Ruled, flat_decisions}
use Rattle.file_views.proofs.DecisionServeLaws.{found_any}
use Rattle.file_views.proofs.ModeLaws.{FlatModes, flat_modes}
use Rattle.file_views.proofs.HolderLaws.{FlatHolders, flat_holders}

-- a test of each item
pub all_by : {X : Type 0} (p : X → Bool) (xs : List X) → ((x : X) → In x xs → p x ≡ true) → list_all p xs ≡ true
all_by p [] f = refl
all_by p (x ∷ xs) f = and_from (p x) (list_all p xs) (f x (inl refl)) (all_by p xs (λ y m. f y (inr m)))

-- what is due stays when it is put in order, and nothing is added
inserted_in : (one : Due) (xs : List Due) (x : Due) → In x (one ∷ xs) → In x (inserted one xs)
inserted_in one [] x m = m
inserted_in one (first ∷ rest) x m = by_test (nat_le (due_stamp one) (due_stamp first)) m (inserted_in one rest x)
  where
    by_test : (b : Bool) → In x (one ∷ first ∷ rest) → (In x (one ∷ rest) → In x (inserted one rest)) → In x (cond b (one ∷ first ∷ rest) (first ∷ inserted one rest))
    by_test true k f = k
    by_test false (inl e) f = inr (f (inl e))
    by_test false (inr (inl e)) f = inl e
    by_test false (inr (inr k)) f = inr (f (inr k))

pub in_inserted : (one : Due) (xs : List Due) (x : Due) → In x (inserted one xs) → In x (one ∷ xs)
in_inserted one [] x m = m
in_inserted one (first ∷ rest) x m = by_test (nat_le (due_stamp one) (due_stamp first)) m (in_inserted one rest x)
  where
    later : In x (one ∷ rest) → In x (one ∷ first ∷ rest)
    later (inl e) = inl e
    later (inr k) = inr (inr k)

    by_test : (b : Bool) → In x (cond b (one ∷ first ∷ rest) (first ∷ inserted one rest)) → (In x (inserted one rest) → In x (one ∷ rest)) → In x (one ∷ first ∷ rest)
    by_test true k f = k
    by_test false (inl e) f = inr (inl e)
    by_test false (inr k) f = later (f k)

ordered_first : (one : Due) (rest : List Due) (x : Due) → In x (one ∷ rest) → (In x rest → In x (in_order rest)) → In x (one ∷ in_order rest)
ordered_first one rest x (inl e) f = inl e
ordered_first one rest x (inr m) f = inr (f m)

pub ordered_in : (xs : List Due) (x : Due) → In x xs → In x (in_order xs)
ordered_in [] x m = m
ordered_in (one ∷ rest) x m = inserted_in one (in_order rest) x (ordered_first one rest x m (ordered_in rest x))

unordered_first : (one : Due) (rest : List Due) (x : Due) → In x (one ∷ in_order rest) → (In x (in_order rest) → In x rest) → In x (one ∷ rest)
unordered_first one rest x (inl e) f = inl e
unordered_first one rest x (inr m) f = inr (f m)

pub in_ordered : (xs : List Due) (x : Due) → In x (in_order xs) → In x xs
in_ordered [] x m = m
in_ordered (one ∷ rest) x m = unordered_first one rest x (in_inserted one (in_order rest) x m) (in_ordered rest x)

-- what a call makes due
pub grant_of_call : (kernel : ℕ) (one : FileCall) (grant : FileGrant) → Arrives kernel one grant → In (GrantComes grant) (due_of kernel one)
grant_of_call kernel one grant a = in_left (GrantComes grant) (due_grant (goes_to one == kernel) (arrival one.reply)) (due_call ((one.to == kernel) && not one.taken) one.body)
    (subst (λ b. In (GrantComes grant) (due_grant b (arrival one.reply))) (sym (eq-eqb (goes_to one) kernel a.0)) (subst (λ o. In (GrantComes grant) (due_grant true o)) (sym a.1) (inl refl)))

call_of_call : (kernel : ℕ) (one : FileCall) (stamp : ℕ) (kind : CallKind) → one.to ≡ kernel → one.body ≡ form.Callback stamp kind → one.taken ≡ false → In (CallComes stamp kind) (due_of kernel one)
call_of_call kernel one stamp kind t e u = in_right (CallComes stamp kind) (due_grant (goes_to one == kernel) (arrival one.reply)) (due_call ((one.to == kernel) && not one.taken) one.body)
    (subst (λ b. In (CallComes stamp kind) (due_call b one.body)) (sym (and_from (one.to == kernel) (not one.taken) (eq-eqb one.to kernel t) (ap not u))) (subst (λ b. In (CallComes stamp kind) (due_call true b)) (sym e) (inl refl)))

pub dues_there : (kernel : ℕ) (calls : List FileCall) (one : FileCall) (x : Due) → In one calls → In x (due_of kernel one) → In x (dues_in kernel calls)
dues_there kernel [] one x m k = absurd m
dues_there kernel (c ∷ calls) one x (inl e) k = in_left x (due_of kernel c) (dues_in kernel calls) (subst (λ y. In x (due_of kernel y)) e k)
dues_there kernel (c ∷ calls) one x (inr m) k = in_right x (due_of kernel c) (dues_in kernel calls) (dues_there kernel calls one x m k)

-- where it comes from
pub record DueFrom (kernel : ℕ) (calls : List FileCall) (x : Due) : Type 0 where
  pub call : FileCall
  pub there : In call calls
  pub due : In x (due_of kernel call)

due_further : (kernel : ℕ) (c : FileCall) (calls : List FileCall) (x : Due) → In x (due_of kernel c) ⊎ In x (dues_in kernel calls) → (In x (dues_in kernel calls) → DueFrom kernel calls x) → DueFrom kernel (c ∷ calls) x
due_further kernel c calls x (inl k) f = record { call = c; there = inl refl; due = k }
due_further kernel c calls x (inr m) f = let r : DueFrom kernel calls x = f m in record { call = r.call; there = inr r.there; due = r.due }

pub dues_from : (kernel : ℕ) (calls : List FileCall) (x : Due) → In x (dues_in kernel calls) → DueFrom kernel calls x
dues_from kernel [] x m = absurd m
dues_from kernel (c ∷ calls) x m = due_further kernel c calls x (in_join x (due_of kernel c) (dues_in kernel calls) m) (dues_from kernel calls x)

pub in_due_grant : (b : Bool) (o : Option FileGrant) (x : Due) → In x (due_grant b o) → (b ≡ true) × ((g : FileGrant) × ((o ≡ Some g) × (x ≡ GrantComes g)))
in_due_grant true (Some g) x (inl e) = (refl, (g, (refl, e)))
in_due_grant true (Some g) x (inr m) = absurd m
in_due_grant true None x m = absurd m
in_due_grant false o x m = absurd m

pub in_due_call : (b : Bool) (body : FileBody) (x : Due) → In x (due_call b body) → is_callback body ≡ true
in_due_call true (form.Callback stamp kind) x m = refl
in_due_call true body x m = absurd m
in_due_call false body x m = absurd m

-- stamps and modes of server and kernels agree
pub same_mode_by : (mode other : CacheMode) → mode ≡ other → same_mode mode other ≡ true
same_mode_by mode other e = subst (λ m. same_mode mode m ≡ true) e (self mode)
  where
    self : (m : CacheMode) → same_mode m m ≡ true
    self cache.On = refl
    self cache.Off = refl
    self cache.None = refl

pub implies_by : (a b : Bool) → (a ≡ true → b ≡ true) → implies a b ≡ true
implies_by true b f = f refl
implies_by false b f = refl

pub stamps_agree_by : (z : Setting) (v : View) → Layers z v → (kernel : ℕ) → IsClient (length v.clients) kernel → stamps_agree v kernel ≡ true
stamps_agree_by z v l kernel i = and_from (nat_le (own_stamp v kernel) (current_stamp v kernel)) _ (le-leb (own_stamp v kernel) (current_stamp v kernel) low)
    (and_from _ _ (implies_by _ _ (λ e. comes (ltb-true (own_stamp v kernel) (current_stamp v kernel) e) (modes kernel i).reached)) (implies_by _ _ (λ e. same_mode_by (client v kernel).mode (mode_given v kernel) ((holders.each kernel i).modes_agree (eqb-true (own_stamp v kernel) (current_stamp v kernel) e)))))
  where
    stamps : FlatStamps v
    stamps = flat_stamps v (flat_of v l.shapes) l.stamps

    modes : FlatModes v
    modes = flat_modes v stamps l.modes

    holders : FlatHolders v
    holders = flat_holders v l.holders

    low : own_stamp v kernel ≤ current_stamp v kernel
    low = stamps.own_below kernel i

    due : (x : Due) → In x (dues_in kernel (things v)) → due_stamp x ≡ current_stamp v kernel → list_any (λ one. due_stamp one == current_stamp v kernel) (dues v kernel) ≡ true
    due x m e = found_any (λ one. due_stamp one == current_stamp v kernel) (dues v kernel) x (ordered_in (dues_in kernel (things v)) x m) (eq-eqb (due_stamp x) (current_stamp v kernel) e)

    comes : own_stamp v kernel < current_stamp v kernel → (own_stamp v kernel ≡ current_stamp v kernel) ⊎ (GrantWith kernel (current_stamp v kernel) (things v) ⊎ CallbackWith kernel (current_stamp v kernel) (things v)) → list_any (λ one. due_stamp one == current_stamp v kernel) (dues v kernel) ≡ true
    comes n (inl e) = absurd (omega (arith, n, e))
    comes n (inr (inl g)) = due (GrantComes g.grant) (dues_there kernel (things v) g.call (GrantComes g.grant) g.there (grant_of_call kernel g.call g.grant g.arrives)) g.stamped
    comes n (inr (inr c)) = due (CallComes (current_stamp v kernel) c.kind) (dues_there kernel (things v) c.call (CallComes (current_stamp v kernel) c.kind) c.there (call_of_call kernel c.call (current_stamp v kernel) c.kind c.to_kernel c.is_call c.untaken)) refl

pub part_4_by : (z : Setting) (v : View) → Layers z v → part_4 v ≡ true
part_4_by z v l = all_by (stamps_agree v) (kernels v) (λ kernel m. stamps_agree_by z v l kernel (among_clients v kernel m))

-- a settled client
mapped : {X : Type 0} (f : ℕ → X) (none : X) (first count i : ℕ) → i < count → slice_index_or (map f (numbers_from first count)) i none ≡ f (first + i)
mapped f none first zero i l = absurd (omega (arith, l))
mapped f none first (suc count) zero l = ap f (omega arith)
mapped f none first (suc count) (suc i) l = mapped f none (first + 1) count i (omega (arith, l)) ∙ ap f (omega arith)

pub settled_is : (z : Setting) (v : View) (kernel : ℕ) → IsClient (length v.clients) kernel → client (settled z v) kernel ≡ settled_client v kernel
settled_is z v kernel i = let low = i.0 in let high = i.1 in mapped (settled_client v) new_client 1 (length v.clients) (kernel - 1) (omega (arith, low, high)) ∙ ap (settled_client v) (omega (arith, low))

-- a client that doesn't use its cache doesn't after grants that are Off
stays_off : (own : ℕ) (c : Client) (xs : List Due) → is_on c.mode ≡ false → own ≤ c.stamp → ((x : Due) → In x xs → (g : FileGrant) × ((x ≡ GrantComes g) × (own < g.stamp → g.on ≡ false))) → is_on (take_all c xs).mode ≡ false
stays_off own c [] o l f = o
stays_off own c (x ∷ xs) o l f =
    let p = f x (inl refl) in
    subst (λ y. is_on (take_all (take_due c y) xs).mode ≡ false) (sym p.1.0) (by_test p.0 p.1.1 (nat_le p.0.stamp c.stamp) refl (λ d q r. stays_off own d xs q r (λ y m. f y (inr m))))
  where
    off_of : (b : Bool) → b ≡ false → is_on (mode_of b) ≡ false
    off_of true e = absurd (cc (e))
    off_of false e = refl

    by_test : (g : FileGrant) → (own < g.stamp → g.on ≡ false) → (b : Bool) → nat_le g.stamp c.stamp ≡ b → ((d : Client) → is_on d.mode ≡ false → own ≤ d.stamp → is_on (take_all d xs).mode ≡ false) → is_on (take_all (cond b c (granted c g)) xs).mode ≡ false
    by_test g h true e go = go c o l
    by_test g h false e go = let n = leb-false g.stamp c.stamp e in go (granted c g) (off_of g.on (h (omega (arith, n, l)))) (omega (arith, n, l))

nobody_by : (z : Setting) (v : View) → Layers z v → (kernel : ℕ) → IsClient (length v.clients) kernel → nobody_trusted z v kernel ≡ true
nobody_by z v l kernel i = implies_by _ _ (λ e. let p = and_parts v.uncached (not (busy v)) e in ap not (untrusted p.0 (idle v (not_is (busy v) p.1))))
  where
    not_is : (b : Bool) → not b ≡ true → b ≡ false
    not_is true e = absurd (cc (e))
    not_is false e = refl

    stamps : FlatStamps v
    stamps = flat_stamps v (flat_of v l.shapes) l.stamps

    modes : FlatModes v
    modes = flat_modes v stamps l.modes

    ruled : Ruled v
    ruled = (flat_decisions z v l.decisions).ruled

    off_now : v.uncached ≡ true → NoCall v → (b : Bool) → is_on (client v kernel).mode ≡ b → b ≡ false
    off_now u n true e = absurd (elim ((modes kernel i).on_now e) [ inl o ↦ cc (o, ruled.off kernel i u) | inr k ↦ no_call_thing v n k.call k.there (ap is_callback k.stops) ])
    off_now u n false e = refl

    off_later : v.uncached ≡ true → NoCall v → (x : FileCall) → In x (things v) → (g : FileGrant) → Arrives kernel x g → own_stamp v kernel < g.stamp → (b : Bool) → g.on ≡ b → b ≡ false
    off_later u n x m g a k true e = absurd (elim ((modes kernel i).on_later x m g a k e) [ inl o ↦ cc (o, ruled.off kernel i u) | inr q ↦ no_call_thing v n q.call q.there (ap is_callback q.stops) ])
    off_later u n x m g a k false e = refl

    each_due : v.uncached ≡ true → NoCall v → (x : Due) → In x (dues v kernel) → (g : FileGrant) × ((x ≡ GrantComes g) × (own_stamp v kernel < g.stamp → g.on ≡ false))
    each_due u n x m =
        let r : DueFrom kernel (things v) x = dues_from kernel (things v) x (in_ordered (dues_in kernel (things v)) x m) in
        elim (in_join x (due_grant (goes_to r.call == kernel) (arrival r.call.reply)) (due_call ((r.call.to == kernel) && not r.call.taken) r.call.body) r.due) [
          | inl k ↦ (let p = in_due_grant (goes_to r.call == kernel) (arrival r.call.reply) x k in (p.1.0, (p.1.1.1, λ h. off_later u n r.call r.there p.1.0 (eqb-true (goes_to r.call) kernel p.0, p.1.1.0) h p.1.0.on refl)))
          | inr k ↦ absurd (no_call_thing v n r.call r.there (in_due_call ((r.call.to == kernel) && not r.call.taken) r.call.body x k))
        ]

    untrusted : v.uncached ≡ true → NoCall v → is_trusted (settled z v) kernel ≡ false
    untrusted u n = and_left (is_on (client (settled z v) kernel).mode) (has_open (settled z v).opens kernel || ((client (settled z v) kernel).version == (settled z v).version)) (ap (λ (c : Client). is_on c.mode) (settled_is z v kernel i) ∙ stays_off (own_stamp v kernel) (client v kernel) (dues v kernel) (off_now u n (is_on (client v kernel).mode) refl) (omega arith) (each_due u n))

pub part_6_by : (z : Setting) (v : View) → Layers z v → part_6 z v ≡ true
part_6_by z v l = all_by (nobody_trusted z v) (kernels v) (λ kernel m. nobody_by z v l kernel (among_clients v kernel m))

-- the settled view's holder is the holder
abbrev pub HolderIn : Kept → Kept → Type 0
HolderIn kept next = (holder : ℕ) → next.holder ≡ Some holder → kept.holder ≡ Some holder

in_stored : (z : Setting) (kept : Kept) (kernel size : ℕ) (blocks : List (BlockNo × List ℕ)) → HolderIn kept (stored z kept kernel size blocks)
in_stored z kept kernel size blocks holder e = by_test (is_kernel kernel kept.holder) e
  where
    by_test : (b : Bool) → cond b None kept.holder ≡ Some holder → kept.holder ≡ Some holder
    by_test true q = absurd (cc (q))
    by_test false q = q

in_reply : (z : Setting) (kept : Kept) (one : FileCall) (reply : Option FileBody) → HolderIn kept (stored_reply z kept one reply)
in_reply z kept one (Some (form.Flushed size blocks)) holder e = in_stored z kept one.to size blocks holder e
in_reply z kept one reply holder e = e

in_answers : (z : Setting) (calls : List FileCall) (kept : Kept) → HolderIn kept (stored_answers z kept calls)
in_answers z [] kept holder e = e
in_answers z (one ∷ rest) kept holder e = in_reply z kept one one.reply holder (in_answers z rest (stored_reply z kept one one.reply) holder e)

in_due : (z : Setting) (kept : Kept) (kernel : ℕ) (c : Client) (x : Due) → HolderIn kept (stored_due z kept kernel c x)
in_due z kept kernel c (GrantComes grant) holder e = e
in_due z kept kernel c (CallComes stamp kind) holder e = by_test (nat_le stamp c.stamp) e
  where
    by_test : (b : Bool) → (cond b kept (stored z kept kernel c.size (pieces z c.size c.blocks))).holder ≡ Some holder → kept.holder ≡ Some holder
    by_test true q = q
    by_test false q = in_stored z kept kernel c.size (pieces z c.size c.blocks) holder q

in_dues : (z : Setting) (xs : List Due) (kept : Kept) (kernel : ℕ) (c : Client) → HolderIn kept (stored_dues z kept kernel c xs)
in_dues z [] kept kernel c holder e = e
in_dues z (x ∷ xs) kept kernel c holder e = in_due z kept kernel c x holder (in_dues z xs (stored_due z kept kernel c x) kernel (take_due c x) holder e)

in_clients : (z : Setting) (v : View) (ks : List ℕ) (kept : Kept) → HolderIn kept (stored_clients z v kept ks)
in_clients z v [] kept holder e = e
in_clients z v (kernel ∷ rest) kept holder e = in_dues z (dues v kernel) kept kernel (client v kernel) holder (in_clients z v rest (stored_dues z kept kernel (client v kernel) (dues v kernel)) holder e)

pub settled_holder : (z : Setting) (v : View) (holder : ℕ) → (settled z v).holder ≡ Some holder → v.holder ≡ Some holder
settled_holder z v holder e = in_answers z v.calls (record { bytes = v.bytes; holder = v.holder }) holder (in_clients z v (kernels v) (stored_answers z (record { bytes = v.bytes; holder = v.holder }) v.calls) holder e)

-- while the holder has dirty blocks that count, no other kernel works in its cache
pub some_stream : (streams : List StreamNo) → is_any streams ≡ true → (s : StreamNo) × (has_stream s streams ≡ true)
some_stream [] e = absurd (cc (e))
some_stream (s ∷ streams) e = (s, found_any (same_stream s) (s ∷ streams) s (inl refl) (same_self s))

alone_by_holder : (z : Setting) (v : View) → Layers z v → (kernel : ℕ) → IsClient (length v.clients) kernel → (o : Option ℕ) → (settled z v).holder ≡ o → implies (counts_dirty (settled z v) o && is_other kernel o) (not (works_cached (client v kernel))) ≡ true
alone_by_holder z v l kernel i None e = refl
alone_by_holder z v l kernel i (Some holder) e = elim (bool_cases (works_cached (client v kernel))) [
  | inl w ↦ ap (λ b. implies b (not (works_cached (client v kernel)))) (and_right (counts_dirty (settled z v) (Some holder)) (is_other kernel (Some holder)) (ap not (eq-eqb holder kernel (sym (here w)))))
  | inr w ↦ implies_by _ _ (λ q. ap not w)
]
  where
    streams : FlatStreams v
    streams = flat_streams v l.streams

    here : works_cached (client v kernel) ≡ true → kernel ≡ holder
    here w =
        let p = and_parts (is_on (client v kernel).mode) (is_any (client v kernel).streams) w in
        let s = some_stream (client v kernel).streams p.1 in
        let c = streams.counts kernel i s.0 in
        let n = has_some s.0 (client v kernel).streams s.1 in
        let o : OpenAt s.0 kernel v.opens = open_there s.0 kernel v.opens (omega (arith, c, n)) in
        sym o.kernel_is ∙ l.holders.opens holder (settled_holder z v holder e) o.one o.there

pub part_3_by : (z : Setting) (v : View) → Layers z v → part_3 z v ≡ true
part_3_by z v l = all_by (writes_alone z v) (kernels v) (λ kernel m. alone_by_holder z v l kernel (among_clients v kernel m) (settled z v).holder refl)
