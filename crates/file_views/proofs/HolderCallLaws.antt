-- The sixth layer of soundness where callbacks go out and are answered.
use Rattle.std.proofs.Common.{◌≡◌, ◌≢◌, ◌≤◌, ◌<◌, ◌⊎◌, ℕ, ◌+◌, ◌-◌, ◌==◌, Bool, true, false, not, ◌||◌, List, [], ◌∷◌, ◌++◌, length, filter, Some, None, refl, sym, ap, ◌∙◌, subst, inl, inr, arith, eqb-true, eq-eqb, length-set, get_or-set_same, get_or-set_other}
use Rattle.std.proofs.lemmas.Bool.{and_parts, and_from}
use Rattle.std.proofs.lemmas.Bool.Decides.{eqb_tells}
use Rattle.sprite_ids.specs.Lists.{total}
use Rattle.sprite_ids.specs.declared.CacheMode.TheVariants as cache
use Rattle.sprite_ids.specs.declared.CallKind.{CallKind}
use Rattle.sprite_ids.specs.declared.CallKind.TheVariants.{Recall}
use Rattle.file_views.specs.declared.grant.FileGrant.{FileGrant}
use Rattle.file_views.specs.declared.body.FileBody.{FileBody}
use Rattle.file_views.specs.declared.body.FileBody.TheVariants as form
use Rattle.file_views.specs.declared.opens.Open.{Open}
use Rattle.file_views.specs.declared.call.FileCall.{FileCall}
use Rattle.file_views.specs.declared.view.View.{View}
use Rattle.file_views.specs.Setting.{Setting}
use Rattle.file_views.specs.Streams.{same_stream, has_stream, is_open, open_count, add_open, take_off, writes, is_any}
use Rattle.file_views.specs.Clients.{is_on}
use Rattle.file_views.specs.Views.{server, kernels, client, current_stamp, mode_given, is_holder, is_callback, last_stamp, things, new_call, without_call}
use Rattle.file_views.specs.Grants.{asks, truncates, receiver, opens_after, uncached_after, is_called, kind_of_calls, called_kernels, stamped, mode_called, call_out, call_back, told, deciding, decide}
use Rattle.file_views.specs.Settled.{arrival}
use Rattle.file_views.specs.Here.{In, Unique, IsClient, Arrives, asked_stream, Stopped, Answered}
use Rattle.file_views.specs.SoundShapes.{numbers}
use Rattle.file_views.specs.SoundStreams.{counted_at, on_way}
use Rattle.file_views.specs.SoundHolders.{Ready, Coming, LocalHolders}
use Rattle.file_views.proofs.MemberLaws.{in_left, in_last, last_in, in_filter, filter_in, without_in}
use Rattle.file_views.proofs.EffectLaws.{by_kernel, places_apart, things_begin, call_in_things, same_thing}
use Rattle.file_views.proofs.CountLaws.{bool_cases, or_left, or_right, or_is, neither, same_self, has_some, total_without}
use Rattle.file_views.proofs.OpenLaws.{OpenAt, open_there, Left, left_in, is_open_is, taken_count}
use Rattle.file_views.proofs.ShapeStepLaws.{flat_told, among_clients}
use Rattle.file_views.proofs.StreamChangeLaws.{streams_same}
use Rattle.file_views.proofs.StreamServeLaws.{Both, way_by}
use Rattle.file_views.proofs.StampLaws.{own_stamp, FlatStamps}
use Rattle.file_views.proofs.StampChangeLaws.{NoCall, no_call_thing, stamps_told}
use Rattle.file_views.proofs.StampGrantLaws.{under_greatest, stamp_rises}
use Rattle.file_views.proofs.StampServeLaws.{unique_kept, unique_numbers, one_recalled}
use Rattle.file_views.proofs.DecisionLaws.{Ruled, makes_uncached}
use Rattle.file_views.proofs.DecisionServeLaws.{some_any, left_stays}
use Rattle.file_views.proofs.DecisionCallLaws.{ruled_told, told_is, client_kernel}
use Rattle.file_views.proofs.ModeLaws.{FlatModes}
use Rattle.file_views.proofs.ModeServeLaws.{total_in, OpenFor, arrival_there, modes_told}
use Rattle.file_views.proofs.HolderLaws.{SameOpen, holders_opened, holders_ways, seat, FlatHolders}
use Rattle.file_views.proofs.HolderTakeLaws.{holders_called}
use Rattle.file_views.proofs.HolderChangeLaws.{arrivals_begin, ways_begin}
use Rattle.file_views.proofs.HolderSettleLaws.{Settles, left_of, left_was, Adds, adds, shared_by, Grantable, is_holder_by, Alone, alone_by, holders_settle, holders_equal}

-- a callback goes out to a kernel that has none
pub holders_call_out : (v : View) (kind : CallKind) (kernel : ℕ) → FlatHolders v → IsClient (length v.clients) kernel → length v.stamps ≡ length v.clients → length v.modes ≡ length v.clients → own_stamp v kernel ≤ current_stamp v kernel → ((x : FileCall) → In x (things v) → x.to ≡ kernel → is_callback x.body ≡ true → ⊥) →
    (kind ≡ Recall → Ready kernel (own_stamp v kernel) (client v kernel).version v.version (is_holder v kernel) (client v kernel).mode (things v) × (is_on (mode_given v kernel) ≡ true)) → FlatHolders (call_out v kind kernel)
holders_call_out v kind kernel f i ls lm own quiet recall = record {
  is_client = f.is_client;
  opens = f.opens;
  stale = f.stale;
  exclusive = f.exclusive;
  each = λ other j. by_kernel (λ k. IsClient (length v.clients) k → LocalHolders (seat (call_out v kind kernel) k)) kernel other here (λ d n. far other d n) j;
}
  where
    w : View
    w = call_out v kind kernel

    new : FileCall
    new = new_call (stamped v kind kernel) server kernel (form.Callback (last_stamp v + 1) kind) None

    grown : things w ≡ things v ++ new ∷ []
    grown = things_begin (stamped v kind kernel) server kernel (form.Callback (last_stamp v + 1) kind) None

    within : (count : ℕ) → count ≡ length v.clients → kernel - 1 < count
    within count e = let low = i.0 in let high = i.1 in omega (arith, e, low, high)

    far : (other : ℕ) → other ≢ kernel → IsClient (length v.clients) other → LocalHolders (seat w other)
    far other d j = holders_equal (seat v other) (current_stamp v other) (current_stamp w other) v.version v.version (mode_given v other) (mode_given w other) (is_holder v other) (is_holder v other) (seat v other).opened (seat v other).opened (things v ++ new ∷ []) (things w)
        (get_or-set_other v.stamps (kernel - 1) (other - 1) _ 0 apart) refl (get_or-set_other v.modes (kernel - 1) (other - 1) _ cache.None apart) refl refl grown
        (holders_ways (seat v other) (things v ++ new ∷ []) (f.each other j) (ways_begin other (own_stamp v other) (is_holder v other) (things v) new refl (λ c e. d (sym e))))
      where
        apart : other - 1 ≢ kernel - 1
        apart = places_apart kernel other i.0 j.0 d

    here : IsClient (length v.clients) kernel → LocalHolders (seat w kernel)
    here j = holders_equal (seat v kernel) (last_stamp v + 1) (current_stamp w kernel) v.version v.version (mode_called (mode_given v kernel) kind) (mode_given w kernel) (is_holder v kernel) (is_holder v kernel) (seat v kernel).opened (seat v kernel).opened (things v ++ new ∷ []) (things w)
        (get_or-set_same v.stamps (kernel - 1) _ 0 (within (length v.stamps) ls)) refl (get_or-set_same v.modes (kernel - 1) _ cache.None (within (length v.modes) lm)) refl refl grown
        (holders_called (seat v kernel) (things v ++ new ∷ []) (last_stamp v + 1) kind (f.each kernel i) (record {
          arrivals = arrivals_begin kernel (own_stamp v kernel) (things v) new refl;
          quiet = λ x m t stamp other e. quiet x m t (ap is_callback e);
          only = λ x m t stamp other e. elim (in_last x new (things v) m) [ inl k ↦ absurd (quiet x k t (ap is_callback e)) | inr q ↦ (same_kind stamp other (sym (ap (λ (y : FileCall). y.body) q) ∙ e), ap (λ (y : FileCall). y.taken) q) ];
          stops = λ e. record { call = new; there = last_in new (things v); to_kernel = refl; stamp = last_stamp v + 1; stops = ap (form.Callback (last_stamp v + 1)) e; untaken = refl };
          newer = (let g = under_greatest v.stamps (kernel - 1) in omega (arith, own, g));
          recall = recall;
        }))
      where
        same_kind : (stamp : ℕ) (other : CallKind) → form.Callback (last_stamp v + 1) kind ≡ form.Callback stamp other → other ≡ kind
        same_kind stamp other e = cc (e)

-- callbacks go out in a row
holders_call_back : (called : List ℕ) (kind : CallKind) (v : View) → FlatHolders v → ((kernel : ℕ) → In kernel called → IsClient (length v.clients) kernel) → length v.stamps ≡ length v.clients → length v.modes ≡ length v.clients → ((kernel : ℕ) → IsClient (length v.clients) kernel → own_stamp v kernel ≤ current_stamp v kernel) → Unique called → ((x : FileCall) → In x (things v) → is_callback x.body ≡ true → (kernel : ℕ) → In kernel called → x.to ≡ kernel → ⊥) →
    (kind ≡ Recall → (kernel other : ℕ) → In kernel called → In other called → kernel ≡ other) → (kind ≡ Recall → (kernel : ℕ) → In kernel called → Ready kernel (own_stamp v kernel) (client v kernel).version v.version (is_holder v kernel) (client v kernel).mode (things v) × (is_on (mode_given v kernel) ≡ true)) → FlatHolders (call_back called kind v)
holders_call_back [] kind v f i ls lm own u quiet most recall = f
holders_call_back (kernel ∷ rest) kind v f i ls lm own u quiet most recall =
    holders_call_back rest kind (call_out v kind kernel) (holders_call_out v kind kernel f (i kernel (inl refl)) ls lm (own kernel (i kernel (inl refl))) (λ x m t c. quiet x m c kernel (inl refl) t) (λ e. recall e kernel (inl refl)))
    (λ other m. i other (inr m)) (length-set v.stamps (kernel - 1) _ ∙ ls) (length-set v.modes (kernel - 1) _ ∙ lm)
    (λ other j. (let a = own other j in let b = stamp_rises v.stamps kernel (last_stamp v + 1) other (let c = i kernel (inl refl) in let low = c.0 in let high = c.1 in omega (arith, ls, low, high)) (omega arith) in omega (arith, a, b)))
    u.1
    (λ x m c other n t. elim (in_last x new (things v) (subst (In x) (things_begin (stamped v kind kernel) server kernel (form.Callback (last_stamp v + 1) kind) None) m)) [ inl k ↦ quiet x k c other (inr n) t | inr q ↦ u.0 (subst (λ z. In z rest) (sym t ∙ ap (λ (y : FileCall). y.to) q) n) ])
    (λ e x y m n. most e x y (inr m) (inr n))
    (λ e other m. absurd (u.0 (subst (λ z. In z rest) (most e other kernel (inr m) (inl refl)) m)))
  where
    new : FileCall
    new = new_call (stamped v kind kernel) server kernel (form.Callback (last_stamp v + 1) kind) None

-- two calls of a list are counted both
total_two : (g : FileCall → ℕ) (calls : List FileCall) (one other : FileCall) → Unique (numbers calls) → In one calls → In other calls → other.number ≢ one.number → 1 ≤ g other → g one + 1 ≤ total g calls
total_two g calls one other u m n d l = let a = total_without g calls one u m in let b = total_in g (without_call one.number calls) other (without_in one.number other calls n d) l in omega (arith, a, b)

-- an open stays, by another grant perhaps, that has more grants than a move takes
stays_more : (v : View) (one : FileCall) (body : FileBody) → one.body ≡ body → one.reply ≡ None → Both v → asks body ≡ true → (kernel : ℕ) (writer : Open) → In writer v.opens → writer.kernel ≡ kernel → on_way writer.stream kernel one + 1 ≤ open_count v.opens writer.stream kernel → SameOpen writer (filter (λ (x : Open). x.kernel == kernel) (left_of v.opens one.from body))
stays_more v one (form.Opening pid number stream mode truncate) e n b a kernel writer k q l = record { other = writer; there = filter_in (λ (x : Open). x.kernel == kernel) writer v.opens k (eq-eqb writer.kernel kernel q); stream_is = refl; mode_is = refl }
stays_more v one (form.Move stream place true grants) e n b a kernel writer k q l = record { other = writer; there = filter_in (λ (x : Open). x.kernel == kernel) writer v.opens k (eq-eqb writer.kernel kernel q); stream_is = refl; mode_is = refl }
stays_more v one (form.Move stream place false grants) e n b a kernel writer k q l = elim (bool_cases (is_open stream one.from writer)) [
  | inl h ↦ (let p = is_open_is stream one.from writer h in counted p.0 (sym q ∙ p.1))
  | inr h ↦ record { other = writer; there = filter_in (λ (x : Open). x.kernel == kernel) writer (take_off v.opens stream one.from grants) (left_stays v.opens stream one.from grants false writer h k) (eq-eqb writer.kernel kernel q); stream_is = refl; mode_is = refl }
]
  where
    counted : stream ≡ writer.stream → kernel ≡ one.from → SameOpen writer (filter (λ (x : Open). x.kernel == kernel) (take_off v.opens stream one.from grants))
    counted same place_is =
        let way : on_way stream kernel one ≡ grants = way_by one (form.Move stream place false grants) None e n stream kernel ∙ ap (counted_at grants) (and_from (one.from == kernel) (same_stream stream stream) (eq-eqb one.from kernel (sym place_is)) (same_self stream)) in
        let more : on_way stream kernel one + 1 ≤ open_count v.opens stream kernel = subst (λ t. on_way t kernel one + 1 ≤ open_count v.opens t kernel) (sym same) l in
        let here : open_count v.opens stream one.from ≡ open_count v.opens stream kernel = ap (open_count v.opens stream) (sym place_is) in
        let fewer = taken_count stream one.from grants v.opens b.streams.rest.opens.differ (omega (arith, way, more, here)) in
        let at : OpenAt stream one.from (take_off v.opens stream one.from grants) = open_there stream one.from (take_off v.opens stream one.from grants) (omega (arith, fewer, here, way, more)) in
        let before : Left at.one v.opens = left_in v.opens stream one.from grants at.one at.there in
        record { other = at.one; there = filter_in (λ (x : Open). x.kernel == kernel) at.one (take_off v.opens stream one.from grants) at.there (eq-eqb at.one.kernel kernel (at.kernel_is ∙ sym place_is)); stream_is = sym same ∙ at.stream_is; mode_is = same_mode at.one before (sym same ∙ at.stream_is) }
      where
        same_mode : (x : Open) → (before : Left x v.opens) → writer.stream ≡ x.stream → writer.mode ≡ x.mode
        same_mode x before r = b.streams.rest.opens.modes writer before.before k before.there (r ∙ before.stream_is) ∙ sym before.mode_is
stays_more v one body e n b a kernel writer k q l = absurd (cc (a))

-- to a kernel to which a grant of the stream is on its way, and to one that has it installed
stays_open : (v : View) (one : FileCall) → one.reply ≡ None → Both v → In one v.calls → asks one.body ≡ true → (kernel : ℕ) → IsClient (length v.clients) kernel → (writer : Open) → In writer v.opens → writer.kernel ≡ kernel → (call : FileCall) → In call (things v) → (grant : FileGrant) → Arrives kernel call grant → asked_stream call.body ≡ Some writer.stream → SameOpen writer (filter (λ (x : Open). x.kernel == kernel) (left_of v.opens one.from one.body))
stays_open v one n b m a kernel i writer k q call j g c s = stays_more v one one.body refl n b a kernel writer k q more
  where
    o : OpenFor v kernel call
    o = arrival_there v b.flat b.streams call j kernel g c

    differs : call ≡ one → ⊥
    differs d = cc (c.1, n, ap (λ (x : FileCall). arrival x.reply) d)

    same_opened : Some o.stream ≡ Some writer.stream → o.stream ≡ writer.stream
    same_opened e = cc (e)

    more : on_way writer.stream kernel one + 1 ≤ open_count v.opens writer.stream kernel
    more =
        let two = total_two (on_way writer.stream kernel) (things v) one call b.flat.numbered.differ (call_in_things v one m) j (λ d. differs (same_thing v call one b.flat.numbered.differ j (call_in_things v one m) d)) (subst (λ t. 1 ≤ on_way t kernel call) (same_opened (sym o.asked ∙ s)) o.counts) in
        let count = b.streams.counts kernel i writer.stream in
        omega (arith, two, count)

pub stays_installed : (v : View) (one : FileCall) → one.reply ≡ None → Both v → In one v.calls → asks one.body ≡ true → (kernel : ℕ) → IsClient (length v.clients) kernel → (writer : Open) → In writer v.opens → writer.kernel ≡ kernel → has_stream writer.stream (client v kernel).streams ≡ true → SameOpen writer (filter (λ (x : Open). x.kernel == kernel) (left_of v.opens one.from one.body))
stays_installed v one n b m a kernel i writer k q h = stays_more v one one.body refl n b a kernel writer k q (let some = has_some writer.stream (client v kernel).streams h in let count = b.streams.counts kernel i writer.stream in let way = total_without (on_way writer.stream kernel) (things v) one b.flat.numbered.differ (call_in_things v one m) in omega (arith, some, count, way))

-- an open at another kernel than the receiver that is left, and writes, makes the file uncached
pub left_shares : (v : View) (one : FileCall) → Adds v one → Alone v one → (x : Open) → In x (left_of v.opens one.from one.body) → writes x.mode ≡ true → (truncates one.body ≡ true) ⊎ (x.kernel ≢ receiver one) → ⊥
left_shares v one a al x m w (inl t) = let l : Left x v.opens = left_was v.opens one.from one.body x m in cc (al.closed, and_from (truncates one.body) (is_any v.opens) t (some_any l.before v.opens l.there))
left_shares v one a al x m w (inr d) =
    let fresh : Open = record { stream = a.stream; kernel = receiver one; mode = a.mode; count = open_count (left_of v.opens one.from one.body) a.stream (receiver one) + 1 } in
    let stays : In x (add_open (left_of v.opens one.from one.body) a.stream (receiver one) a.mode) = in_left x _ _ (filter_in (λ (y : Open). not (is_open a.stream (receiver one) y)) x (left_of v.opens one.from one.body) m (ap not (not_there (bool_cases (is_open a.stream (receiver one) x))))) in
    cc (al.apart, shared_by (opens_after v.opens one.from one.body) x fresh (subst (In x) (sym a.opens_is) stays) (subst (In fresh) (sym a.opens_is) (last_in fresh _)) (λ q. d (sym q)) w)
  where
    not_there : (is_open a.stream (receiver one) x ≡ true) ⊎ (is_open a.stream (receiver one) x ≡ false) → is_open a.stream (receiver one) x ≡ false
    not_there (inl h) = absurd (d (is_open_is a.stream (receiver one) x h).1)
    not_there (inr h) = h

-- the layers on which a decision leans
pub record Deciding (v : View) (one : FileCall) : Type 0 where
  pub both : Both v
  pub stamps : FlatStamps v
  pub ruled : Ruled v
  pub modes : FlatModes v
  pub holders : FlatHolders v
  pub there : In one v.calls
  pub unanswered : one.reply ≡ None
  pub none : NoCall v
  pub asks_it : asks one.body ≡ true

holders_told : (v : View) (b : Bool) → (v.uncached ≡ true → b ≡ true) → FlatHolders v → FlatHolders (told v b)
holders_told v b u f = record { is_client = f.is_client; opens = f.opens; stale = f.stale; exclusive = λ e. f.exclusive (not_yet v.uncached refl e); each = f.each }
  where
    not_yet : (x : Bool) → v.uncached ≡ x → b ≡ false → x ≡ false
    not_yet true p q = absurd (cc (u p, q))
    not_yet false p q = refl

-- nobody is called back
not_recalled : (v : View) (one : FileCall) (holder : ℕ) → v.holder ≡ Some holder → is_called false v one holder ≡ false → (holder ≡ receiver one) × (truncates one.body ≡ false)
not_recalled v one holder e c = by_cases (bool_cases (truncates one.body)) (eqb_tells (receiver one) holder)
  where
    held : is_holder v holder ≡ true
    held = is_holder_by v.holder holder e

    by_cases : (truncates one.body ≡ true) ⊎ (truncates one.body ≡ false) → (((receiver one == holder) ≡ true) × (receiver one ≡ holder)) ⊎ (((receiver one == holder) ≡ false) × (receiver one ≢ holder)) → (holder ≡ receiver one) × (truncates one.body ≡ false)
    by_cases (inl t) k = absurd (cc (c, and_from (is_holder v holder) (truncates one.body || not (receiver one == holder)) held (or_left (truncates one.body) _ t)))
    by_cases (inr t) (inl k) = (sym k.1, t)
    by_cases (inr t) (inr k) = absurd (cc (c, and_from (is_holder v holder) (truncates one.body || not (receiver one == holder)) held (or_right (truncates one.body) _ (ap not k.0))))

grantable_at_once : (z : Setting) (v : View) (one : FileCall) (b : Bool) → uncached_after z v one ≡ b → [] ≡ filter (is_called b v one) (kernels v) → Deciding v one → Grantable (told v b) one
grantable_at_once z v one b e none t = record {
  is_client = t.holders.is_client;
  opens = t.holders.opens;
  stale = t.holders.stale;
  spare = λ holder h. let p = not_recalled v one holder h (not_called holder (t.holders.is_client holder h) (cached holder h)) in (cached holder h, p.0, p.1);
  each = λ kernel i. holders_opened (seat v kernel) (filter (λ (x : Open). x.kernel == kernel) (left_of v.opens one.from one.body)) (t.holders.each kernel i)
      (λ x m. let k = in_filter (λ (y : Open). y.kernel == kernel) x (left_of v.opens one.from one.body) m in let l : Left x v.opens = left_was v.opens one.from one.body x k.0 in record { other = l.before; there = filter_in (λ (y : Open). y.kernel == kernel) l.before v.opens l.there (ap (λ n. n == kernel) (sym l.kernel_is) ∙ k.1); stream_is = l.stream_is; mode_is = l.mode_is })
      (λ h x m call j g c s. let k = in_filter (λ (y : Open). y.kernel == kernel) x v.opens m in stays_open v one t.unanswered t.both t.there t.asks_it kernel i x k.0 (eqb-true x.kernel kernel k.1) call j g c s);
}
  where
    ruled : Ruled (told v b)
    ruled = ruled_told z v one b e none t.ruled

    not_called : (kernel : ℕ) → IsClient (length v.clients) kernel → b ≡ false → is_called false v one kernel ≡ false
    not_called kernel i q = elim (bool_cases (is_called false v one kernel)) [ inl h ↦ absurd (subst (In kernel) (sym none) (filter_in (is_called b v one) kernel (kernels v) (client_kernel v kernel i) (ap (λ c. is_called c v one kernel) q ∙ h))) | inr h ↦ h ]

    -- while the file is uncached nobody is the holder
    cached : (holder : ℕ) → v.holder ≡ Some holder → b ≡ false
    cached holder h = elim (bool_cases b) [
      | inl u ↦ (let i = t.holders.is_client holder h in absurd (elim ((t.holders.each holder i).holder_state (is_holder_by v.holder holder h)) [
        | inl k ↦ no_call_thing v t.none k.call k.there (ap is_callback k.is_call)
        | inr k ↦ elim k.0 [ inl o ↦ cc (o, ruled.off holder i u) | inr p ↦ no_call_thing v t.none p.call p.there (ap is_callback p.stops) ]
      ]))
      | inr u ↦ u
    ]

-- who is recalled may write
recalled_ready : (z : Setting) (v : View) (one : FileCall) → uncached_after z v one ≡ false → Deciding v one → (kernel : ℕ) → IsClient (length v.clients) kernel → is_called false v one kernel ≡ true → Ready kernel (own_stamp v kernel) (client v kernel).version v.version (is_holder v kernel) (client v kernel).mode (things v) × (is_on (mode_given v kernel) ≡ true)
recalled_ready z v one e t kernel i c = by_state ((t.holders.each kernel i).holder_state (and_parts (is_holder v kernel) _ c).0)
  where
    u : v.uncached ≡ false
    u = (neither v.uncached (makes_uncached z false v.shared v.opens one) e).0

    away : (truncates one.body ≡ true) ⊎ (kernel ≢ receiver one)
    away = elim (or_is (truncates one.body) (not (receiver one == kernel)) (and_parts (is_holder v kernel) _ c).1) [ inl a ↦ inl a | inr b ↦ inr (λ q. cc (b, eq-eqb (receiver one) kernel (sym q))) ]

    no_coming : Coming kernel (own_stamp v kernel) (client v kernel).version v.version (seat v kernel).opened (things v) → ⊥
    no_coming k =
        let p = in_filter (λ (x : Open). x.kernel == kernel) k.writer v.opens k.has_open in
        let s : SameOpen k.writer (filter (λ (x : Open). x.kernel == kernel) (left_of v.opens one.from one.body)) = stays_open v one t.unanswered t.both t.there t.asks_it kernel i k.writer p.0 (eqb-true k.writer.kernel kernel p.1) k.call k.is_newer.0 k.grant k.is_newer.1 k.asked in
        let q = in_filter (λ (x : Open). x.kernel == kernel) s.other (left_of v.opens one.from one.body) s.there in
        left_shares v one (adds v one t.unanswered t.both t.there t.asks_it) (alone_by z v one u e) s.other q.0 (ap writes (sym s.mode_is) ∙ k.writing) (elim away [ inl a ↦ inl a | inr b ↦ inr (λ d. b (sym (eqb-true s.other.kernel kernel q.1) ∙ d)) ])

    by_state : Answered kernel (things v) ⊎ (((is_on (mode_given v kernel) ≡ true) ⊎ Stopped kernel (things v)) × (Ready kernel (own_stamp v kernel) (client v kernel).version v.version (is_holder v kernel) (client v kernel).mode (things v) ⊎ Coming kernel (own_stamp v kernel) (client v kernel).version v.version (seat v kernel).opened (things v))) → Ready kernel (own_stamp v kernel) (client v kernel).version v.version (is_holder v kernel) (client v kernel).mode (things v) × (is_on (mode_given v kernel) ≡ true)
    by_state (inl k) = absurd (no_call_thing v t.none k.call k.there (ap is_callback k.is_call))
    by_state (inr k) = (elim k.1 [ inl r ↦ r | inr w ↦ absurd (no_coming w) ], elim k.0 [ inl o ↦ o | inr p ↦ absurd (no_call_thing v t.none p.call p.there (ap is_callback p.stops)) ])

-- with nobody to call back it may be granted
pub settles_at_once : (z : Setting) (v : View) (one : FileCall) (b : Bool) → uncached_after z v one ≡ b → [] ≡ filter (is_called b v one) (kernels v) → Deciding v one → Settles z (told v b) one
settles_at_once z v one b e k t = record {
  both = record { flat = flat_told v b t.both.flat; streams = streams_same v (told v b) refl refl refl refl refl t.both.streams };
  stamps = stamps_told v (told v b) t.none refl refl refl refl t.stamps;
  ruled = ruled_told z v one b e k t.ruled;
  modes = modes_told v b (λ q. sym e ∙ or_left v.uncached (makes_uncached z false v.shared v.opens one) q) t.modes;
  there = t.there;
  unanswered = t.unanswered;
  none = t.none;
  asks_it = t.asks_it;
  told = told_is z v one b e;
  grantable = grantable_at_once z v one b e k t;
}

holders_decided : (z : Setting) (v : View) (one : FileCall) (b : Bool) → uncached_after z v one ≡ b → (called : List ℕ) → called ≡ filter (is_called b v one) (kernels v) → Deciding v one → FlatHolders (deciding (told v b) one (kind_of_calls b) called)
holders_decided z v one b e [] k t = holders_settle z (told v b) one (settles_at_once z v one b e k t)
holders_decided z v one b e (kernel ∷ rest) k t =
    let u : v.uncached ≡ true → b ≡ true = λ q. sym e ∙ or_left v.uncached (makes_uncached z false v.shared v.opens one) q in
    holders_call_back (kernel ∷ rest) (kind_of_calls b) (told v b) (holders_told v b u t.holders) (λ c m. among_clients v c (in_called c m).0) t.both.flat.items.stamp_each t.both.flat.items.mode_each t.stamps.own_below
    (subst Unique (sym k) (unique_kept (is_called b v one) (kernels v) (unique_numbers 1 (length v.clients))))
    (λ x m c other n q. no_call_thing v t.none x m c)
    (λ r x y m n. one_recalled v one b x y (recall_is b r) (in_called x m).1 (in_called y n).1)
    (λ r c m. recalled_ready z v one (e ∙ recall_is b r) t c (among_clients v c (in_called c m).0) (ap (λ x. is_called x v one c) (sym (recall_is b r)) ∙ (in_called c m).1))
  where
    in_called : (c : ℕ) → In c (kernel ∷ rest) → In c (kernels v) × (is_called b v one c ≡ true)
    in_called c m = in_filter (is_called b v one) c (kernels v) (subst (In c) k m)

    recall_is : (x : Bool) → kind_of_calls x ≡ Recall → x ≡ false
    recall_is true q = absurd (cc (q))
    recall_is false q = refl

pub holders_decide : (z : Setting) (v : View) (one : FileCall) → Deciding v one → FlatHolders (decide z v one)
holders_decide z v one t = holders_decided z v one (uncached_after z v one) refl (called_kernels z v one) refl t
