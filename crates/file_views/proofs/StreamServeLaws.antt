-- The second layer of soundness while the server takes up requests.
use Rattle.std.proofs.Common.{◌≡◌, ◌≤◌, ◌⊎◌, ℕ, ◌+◌, ◌==◌, Bool, true, false, cond, not, ◌&&◌, ◌||◌, List, [], ◌∷◌, ◌++◌, length, Option, Some, None, is_none, refl, sym, ap, ap₂, ◌∙◌, subst, subst₂, inl, inr, arith, eqb-true}
use Rattle.std.specs.List.{list_any}
use Rattle.std.proofs.lemmas.Bool.{and_parts}
use Rattle.sprite_ids.specs.declared.StreamNo.{StreamNo}
use Rattle.sprite_ids.specs.declared.Mode.{Mode}
use Rattle.sprite_ids.specs.declared.CallKind.{CallKind}
use Rattle.file_views.specs.declared.grant.FileGrant.{FileGrant}
use Rattle.file_views.specs.declared.body.FileBody.{FileBody}
use Rattle.file_views.specs.declared.body.FileBody.TheVariants as form
use Rattle.file_views.specs.declared.opens.Open.{Open}
use Rattle.file_views.specs.declared.call.FileCall.{FileCall}
use Rattle.file_views.specs.declared.view.View.{View}
use Rattle.file_views.specs.Setting.{Setting}
use Rattle.file_views.specs.Streams.{same_stream, has_stream, open_count, add_open, take_off, mode_of_stream, writes}
use Rattle.file_views.specs.Views.{server, kernels, client, current_stamp, things, new_call, replied, answer, to_the_end, busy, waits, waiting_calls, last_stamp, with_call}
use Rattle.file_views.specs.Grants.{asks, opens_after, shared_after, left_by, granting, grant_of, settle, stamped, call_out, call_back, told, deciding, decide, kind_of_calls, uncached_after, called_kernels, is_called, current_grant}
use Rattle.file_views.specs.Serving.{still_shared, close, op_reply, block_of, serve_body, serve, serve_all, request_comes, resume, resumed}
use Rattle.file_views.specs.Possible.{is_about, works_on}
use Rattle.file_views.specs.Here.{In, Unique, IsClient}
use Rattle.file_views.specs.SoundShapes.{Ends, numbers}
use Rattle.file_views.specs.SoundStreams.{NamedOnce, OpensShaped, counted_at, on_way_of, on_way, is_writing}
use Rattle.file_views.proofs.MemberLaws.{in_filter, last_in, with_in, unique_filter}
use Rattle.file_views.proofs.EffectLaws.{Apart, call_in_things}
use Rattle.file_views.proofs.ClientLaws.{choose, choose_by}
use Rattle.file_views.proofs.CountLaws.{total_without, same_is, same_by, has_some, has_not_last}
use Rattle.file_views.proofs.OpenLaws.{OpenAt, open_there, Left, left_in, in_added, one_at, added_count, opens_differ, taken_other, taken_count, shaped_taken, shaped_added, mode_is}
use Rattle.file_views.proofs.ShapeLaws.{Flat}
use Rattle.file_views.proofs.ShapeStepLaws.{flat_settle, flat_call_out, flat_told, flat_stamped, among_clients, flat_serve, serve_keeps, number_of, apart_from, calls_apart, flat_taken}
use Rattle.file_views.proofs.StreamLaws.{Works, StreamRest, Counted, none_more, FlatStreams, KeepsOpen}
use Rattle.file_views.proofs.StreamChangeLaws.{streams_same, streams_answer, streams_begin, streams_take}
use Rattle.file_views.proofs.StreamGrantLaws.{streams_grant}

-- both layers
pub record Both (v : View) : Type 0 where
  pub flat : Flat v
  pub streams : FlatStreams v

-- a request that brings and takes no grant
abbrev pub quiet : FileBody → Bool
quiet (form.Opening pid number stream mode truncate) = false
quiet (form.Close stream grants) = false
quiet (form.Move stream place kept grants) = false
quiet body = true

pub quiet_way : (stream : StreamNo) (kernel source : ℕ) (body : FileBody) (reply : Option FileBody) → quiet body ≡ true → on_way_of stream kernel source body reply ≡ 0
quiet_way stream kernel source (form.Opening pid number other mode truncate) reply q = absurd (cc (q))
quiet_way stream kernel source (form.Close other grants) reply q = absurd (cc (q))
quiet_way stream kernel source (form.Move other place kept grants) reply q = absurd (cc (q))
quiet_way stream kernel source body reply q = refl

-- one that does nothing with a stream
abbrev pub plain : FileBody → Bool
plain (form.Op pid number stamp stream way) = false
plain (form.Close stream grants) = false
plain (form.Move stream place kept grants) = false
plain body = true

pub plain_works : (streams : List StreamNo) (opens : List Open) (one : FileCall) → plain one.body ≡ true → Works streams opens one
plain_works streams opens one p = record {
  operates = λ pid number stamp stream way e. absurd (cc (p, ap plain e));
  keeps_none = λ n stream place grants e. absurd (cc (p, ap plain e));
  keeps_stream = λ n stream place grants e. absurd (cc (p, ap plain e));
  moves_some = λ n stream place grants e. absurd (cc (p, ap plain e));
  closes_some = λ n stream grants e. absurd (cc (p, ap plain e));
}

-- a quiet request is answered
quiet_answer : (v : View) (one : FileCall) (body reply : FileBody) → one.body ≡ body → quiet body ≡ true → Apart v → In one v.calls → FlatStreams v → FlatStreams (answer v one reply)
quiet_answer v one body reply e q u m s = streams_answer v one reply u m (λ stream kernel. quiet_way stream kernel one.from one.body (Some reply) (ap quiet e ∙ q) ∙ sym (quiet_way stream kernel one.from one.body one.reply (ap quiet e ∙ q))) s

-- one more grant leaves what is open for writing, where it is in the stream's mode
keeps_added : (v : View) (base : List Open) (stream : StreamNo) (kernel : ℕ) (mode : Mode) → StreamRest v → Counted none_more v → ((x : Open) → In x base → Left x v.opens) → ((x : Open) → In x v.opens → x.stream ≡ stream → x.mode ≡ mode) → KeepsOpen v (add_open base stream kernel mode)
keeps_added v base stream kernel mode f c left same place i step o = record {
  installed = o.installed;
  writing = λ w other m k works. by_place other w k works (in_added base stream kernel mode other m);
}
  where
    old : (x : Open) → is_writing step ≡ true → x.kernel ≡ place → works_on x.stream step ≡ true → Left x v.opens → writes x.mode ≡ true
    old x w k works l = ap writes l.mode_is ∙ o.writing w l.before l.there (sym l.kernel_is ∙ k) (subst (λ s. works_on s step ≡ true) l.stream_is works)

    new : (x : Open) → is_writing step ≡ true → works_on x.stream step ≡ true → x.stream ≡ stream → x.mode ≡ mode → writes x.mode ≡ true
    new x w works e k =
        let some = has_some x.stream (client v place).streams (o.installed x.stream works) in
        let count = c place i x.stream in
        let there : OpenAt x.stream place v.opens = open_there x.stream place v.opens (omega (arith, some, count)) in
        ap writes (k ∙ sym (same there.one there.there (sym there.stream_is ∙ e))) ∙ o.writing w there.one there.there there.kernel_is (subst (λ s. works_on s step ≡ true) there.stream_is works)

    by_place : (other : Open) → is_writing step ≡ true → other.kernel ≡ place → works_on other.stream step ≡ true → In other base ⊎ ((other.stream ≡ stream) × (other.kernel ≡ kernel) × (other.mode ≡ mode)) → writes other.mode ≡ true
    by_place other w k works (inl m) = old other w k works (left other m)
    by_place other w k works (inr e) = new other w works e.0 e.2

left_self : (opens : List Open) (x : Open) → In x opens → Left x opens
left_self opens x m = record { before = x; there = m; stream_is = refl; kernel_is = refl; mode_is = refl; counts = λ l. l }

keeps_fewer : (v : View) (opens : List Open) → ((x : Open) → In x opens → Left x v.opens) → KeepsOpen v opens
keeps_fewer v opens left place i step o = record {
  installed = o.installed;
  writing = λ w other m k works. let l : Left other v.opens = left other m in ap writes l.mode_is ∙ o.writing w l.before l.there (sym l.kernel_is ∙ k) (subst (λ s. works_on s step ≡ true) l.stream_is works);
}

as_one : (b : Bool) → counted_at 1 b ≡ cond b 1 0
as_one true = refl
as_one false = refl

-- what a call takes off is there
takes_enough : (v : View) (one : FileCall) (stream : StreamNo) (kernel grants : ℕ) → Apart v → In one v.calls → IsClient (length v.clients) kernel → Counted none_more v → on_way stream kernel one ≡ grants → grants ≤ open_count v.opens stream kernel
takes_enough v one stream kernel grants u m i c e =
    let a = c kernel i stream in
    let b = total_without (on_way stream kernel) (things v) one u (call_in_things v one m) in
    omega (arith, a, b, e)

-- grants are taken off exactly there
taken_at : (v : View) (one : FileCall) (stream : StreamNo) (source grants : ℕ) → Apart v → In one v.calls → FlatStreams v → ((other : StreamNo) (kernel : ℕ) → on_way other kernel one ≡ counted_at grants ((source == kernel) && same_stream other stream)) → (kernel : ℕ) → IsClient (length v.clients) kernel → (other : StreamNo) → open_count (take_off v.opens stream source grants) other kernel + on_way other kernel one ≡ open_count v.opens other kernel
taken_at v one stream source grants u m s way kernel i other = by_test ((source == kernel) && same_stream other stream) refl
  where
    by_test : (b : Bool) → ((source == kernel) && same_stream other stream) ≡ b → open_count (take_off v.opens stream source grants) other kernel + on_way other kernel one ≡ open_count v.opens other kernel
    by_test true q =
        let p = and_parts (source == kernel) (same_stream other stream) q in
        let here : source ≡ kernel = eqb-true source kernel p.0 in
        let same : other ≡ stream = same_is other stream p.1 in
        let some : on_way other kernel one ≡ grants = way other kernel ∙ ap (counted_at grants) q in
        let enough : grants ≤ open_count v.opens other kernel = takes_enough v one other kernel grants u m i s.counts some in
        let less : open_count (take_off v.opens stream source grants) other kernel + grants ≡ open_count v.opens other kernel = subst₂ (λ x k. open_count (take_off v.opens x k grants) other kernel + grants ≡ open_count v.opens other kernel) same (sym here) (taken_count other kernel grants v.opens s.rest.opens.differ enough) in
        omega (arith, less, some)
    by_test false q =
        let none : on_way other kernel one ≡ 0 = way other kernel ∙ ap (counted_at grants) q in
        let stays : open_count (take_off v.opens stream source grants) other kernel ≡ open_count v.opens other kernel = taken_other other stream kernel source grants v.opens (opens_differ other stream kernel source q) in
        omega (arith, none, stays)

-- the way of a call by its body and its reply
pub way_by : (one : FileCall) (body : FileBody) (reply : Option FileBody) → one.body ≡ body → one.reply ≡ reply → (stream : StreamNo) (kernel : ℕ) → on_way stream kernel one ≡ on_way_of stream kernel one.from body reply
way_by one body reply e r stream kernel = ap₂ (λ b x. on_way_of stream kernel one.from b x) e r

fewer_shared : (other : StreamNo) (shared : List StreamNo) (opens : List Open) → has_stream other shared ≡ false → has_stream other (still_shared shared opens) ≡ false
fewer_shared other [] opens h = refl
fewer_shared other (x ∷ xs) opens h = first (list_any (λ one. same_stream x one.stream) opens) (fewer_shared other xs opens (or_second (same_stream other x) (has_stream other xs) h))
  where
    or_second : (a b : Bool) → (a || b) ≡ false → b ≡ false
    or_second true b e = absurd (cc (e))
    or_second false b e = e

    or_first : (a b : Bool) → (a || b) ≡ false → a ≡ false
    or_first true b e = absurd (cc (e))
    or_first false b e = refl

    first : (b : Bool) → has_stream other (still_shared xs opens) ≡ false → has_stream other (cond b (x ∷ still_shared xs opens) (still_shared xs opens)) ≡ false
    first true k = ap₂ (λ a c. a || c) (or_first (same_stream other x) (has_stream other xs) h) k
    first false k = k

pub streams_close : (v : View) (one : FileCall) (stream : StreamNo) (grants : ℕ) → one.body ≡ form.Close stream grants → one.reply ≡ None → Both v → In one v.calls → FlatStreams (close v one stream grants)
streams_close v one stream grants e n b m = streams_grant v (close v one stream grants) one form.Done (take_off v.opens stream one.from grants) b.flat b.streams m refl refl refl refl
    (λ other h k. fewer_shared other v.shared _ h)
    (λ other f k x j. let l : Left x v.opens = left_in v.opens stream one.from grants x j in subst (λ s. same_stream other s ≡ false) (sym l.stream_is) (f l.before l.there))
    (shaped_taken (length v.clients) v.opens stream one.from grants b.streams.rest.opens)
    (keeps_fewer v _ (λ x j. left_in v.opens stream one.from grants x j))
    (λ kernel i other. let a = taken_at v one stream one.from grants b.flat.numbered.differ m b.streams (λ s k. way_by one (form.Close stream grants) None e n s k) kernel i other in let c : on_way other kernel (replied one form.Done) ≡ 0 = way_by (replied one form.Done) (form.Close stream grants) (Some form.Done) e refl other kernel in omega (arith, a, c))

-- an open or a move is granted
new_mode : (v : View) (stream : StreamNo) → StreamRest v → (x : Open) → In x v.opens → x.stream ≡ stream → x.mode ≡ mode_of_stream v.opens stream
new_mode v stream f x m e = sym (mode_is stream x v.opens f.opens.modes m (sym e))

streams_opening : (v w : View) (one : FileCall) (pid number : ℕ) (stream : StreamNo) (mode : Mode) (truncate : Bool) (grant : FileGrant) → one.body ≡ form.Opening pid number stream mode truncate → one.reply ≡ None → Both v → In one v.calls →
    w.clients ≡ v.clients → w.calls ≡ with_call (replied one (form.Opened grant)) v.calls → w.carried ≡ v.carried → w.opens ≡ add_open v.opens stream one.from mode → w.shared ≡ v.shared → FlatStreams w
streams_opening v w one pid number stream mode truncate grant e n b m p q r o h = streams_grant v w one (form.Opened grant) (add_open v.opens stream one.from mode) b.flat b.streams m p q r o
    (λ other k a. subst (λ xs. has_stream other xs ≡ false) (sym h) k)
    (λ other f a x j. by_place other f (sym (ap (is_about other) e) ∙ a) x (in_added v.opens stream one.from mode x j))
    (shaped_added (length v.clients) v.opens stream one.from mode b.streams.rest.opens sender (λ x j k. absurd (cc (once.opens x j, same_by stream x.stream (sym k)))))
    (keeps_added v v.opens stream one.from mode b.streams.rest b.streams.counts (left_self v.opens) (λ x j k. absurd (cc (once.opens x j, same_by stream x.stream (sym k)))))
    (λ kernel i other. let a = added_count other stream kernel one.from mode v.opens in let c : on_way other kernel one ≡ 0 = way_by one (form.Opening pid number stream mode truncate) None e n other kernel in let d : on_way other kernel (replied one (form.Opened grant)) ≡ one_at other stream kernel one.from = way_by (replied one (form.Opened grant)) (form.Opening pid number stream mode truncate) (Some (form.Opened grant)) e refl other kernel ∙ as_one ((one.from == kernel) && same_stream other stream) in omega (arith, a, c, d))
  where
    once : NamedOnce v one.number stream
    once = b.streams.rest.new one m n pid number stream mode truncate e

    sender : IsClient (length v.clients) one.from
    sender = (subst (Ends (length v.clients) one.from one.to) e (b.flat.calls one m).ends).0

    by_place : (other : StreamNo) → ((x : Open) → In x v.opens → same_stream other x.stream ≡ false) → same_stream other stream ≡ false → (x : Open) → In x v.opens ⊎ ((x.stream ≡ stream) × (x.kernel ≡ one.from) × (x.mode ≡ mode)) → same_stream other x.stream ≡ false
    by_place other f a x (inl j) = f x j
    by_place other f a x (inr j) = ap (same_stream other) j.0 ∙ a

more_shared : (other stream : StreamNo) (shared : List StreamNo) (b : Bool) → has_stream other shared ≡ false → same_stream other stream ≡ false → has_stream other (cond b (shared ++ stream ∷ []) shared) ≡ false
more_shared other stream shared true h k = has_not_last other stream shared h k
more_shared other stream shared false h k = h

left_off : (v : View) (stream : StreamNo) (source grants : ℕ) (kept : Bool) (x : Open) → In x (left_by v.opens stream source kept grants) → Left x v.opens
left_off v stream source grants true x m = left_self v.opens x m
left_off v stream source grants false x m = left_in v.opens stream source grants x m

shaped_left : (v : View) (stream : StreamNo) (source grants : ℕ) (kept : Bool) → StreamRest v → OpensShaped (length v.clients) (left_by v.opens stream source kept grants)
shaped_left v stream source grants true f = f.opens
shaped_left v stream source grants false f = shaped_taken (length v.clients) v.opens stream source grants f.opens

count_left : (v : View) (one : FileCall) (stream : StreamNo) (place grants : ℕ) (kept : Bool) → one.body ≡ form.Move stream place kept grants → one.reply ≡ None → Both v → In one v.calls → IsClient (length v.clients) one.from → (kernel : ℕ) → IsClient (length v.clients) kernel → (other : StreamNo) → open_count (left_by v.opens stream one.from kept grants) other kernel + on_way other kernel one ≡ open_count v.opens other kernel
count_left v one stream place grants true e n b m s kernel i other =
    let none : grants ≡ 0 = (b.streams.rest.works one m s).keeps_none n stream place grants e in
    let a : on_way other kernel one ≡ 0 = way_by one (form.Move stream place true grants) None e n other kernel ∙ ap (λ g. counted_at g ((one.from == kernel) && same_stream other stream)) none ∙ zero_at ((one.from == kernel) && same_stream other stream) in
    omega (arith, a)
  where
    zero_at : (x : Bool) → counted_at 0 x ≡ 0
    zero_at true = refl
    zero_at false = refl
count_left v one stream place grants false e n b m s kernel i other = taken_at v one stream one.from grants b.flat.numbered.differ m b.streams (λ x k. way_by one (form.Move stream place false grants) None e n x k) kernel i other

streams_moving : (v w : View) (one : FileCall) (stream : StreamNo) (place : ℕ) (kept : Bool) (grants : ℕ) (grant : Option FileGrant) (more : ℕ) (c : Bool) → one.body ≡ form.Move stream place kept grants → one.reply ≡ None → Both v → In one v.calls →
    w.clients ≡ v.clients → w.calls ≡ with_call (replied one (form.Moved grant more)) v.calls → w.carried ≡ v.carried → w.opens ≡ add_open (left_by v.opens stream one.from kept grants) stream place (mode_of_stream v.opens stream) → w.shared ≡ cond c (v.shared ++ stream ∷ []) v.shared → FlatStreams w
streams_moving v w one stream place kept grants grant more c e n b m p q r o h = streams_grant v w one (form.Moved grant more) (add_open (left_by v.opens stream one.from kept grants) stream place (mode_of_stream v.opens stream)) b.flat b.streams m p q r o
    (λ other k a. subst (λ xs. has_stream other xs ≡ false) (sym h) (more_shared other stream v.shared c k (sym (ap (is_about other) e) ∙ a)))
    (λ other f a x j. by_place other f (sym (ap (is_about other) e) ∙ a) x (in_added (left_by v.opens stream one.from kept grants) stream place (mode_of_stream v.opens stream) x j))
    (shaped_added (length v.clients) (left_by v.opens stream one.from kept grants) stream place (mode_of_stream v.opens stream) (shaped_left v stream one.from grants kept b.streams.rest) ends.2 (λ x j k. let l : Left x v.opens = left_off v stream one.from grants kept x j in l.mode_is ∙ new_mode v stream b.streams.rest l.before l.there (sym l.stream_is ∙ k)))
    (keeps_added v (left_by v.opens stream one.from kept grants) stream place (mode_of_stream v.opens stream) b.streams.rest b.streams.counts (left_off v stream one.from grants kept) (new_mode v stream b.streams.rest))
    (λ kernel i other. let a = added_count other stream kernel place (mode_of_stream v.opens stream) (left_by v.opens stream one.from kept grants) in let d = count_left v one stream place grants kept e n b m ends.0 kernel i other in let g : on_way other kernel (replied one (form.Moved grant more)) ≡ one_at other stream kernel place = way_by (replied one (form.Moved grant more)) (form.Move stream place kept grants) (Some (form.Moved grant more)) e refl other kernel ∙ as_one ((place == kernel) && same_stream other stream) in omega (arith, a, d, g))
  where
    ends : Ends (length v.clients) one.from one.to (form.Move stream place kept grants)
    ends = subst (Ends (length v.clients) one.from one.to) e (b.flat.calls one m).ends

    by_place : (other : StreamNo) → ((x : Open) → In x v.opens → same_stream other x.stream ≡ false) → same_stream other stream ≡ false → (x : Open) → In x (left_by v.opens stream one.from kept grants) ⊎ ((x.stream ≡ stream) × (x.kernel ≡ place) × (x.mode ≡ mode_of_stream v.opens stream)) → same_stream other x.stream ≡ false
    by_place other f a x (inl j) = let l : Left x v.opens = left_off v stream one.from grants kept x j in subst (λ s. same_stream other s ≡ false) (sym l.stream_is) (f l.before l.there)
    by_place other f a x (inr j) = ap (same_stream other) j.0 ∙ a

settle_by : (v : View) (one : FileCall) (body : FileBody) → one.body ≡ body → one.reply ≡ None → asks body ≡ true → Both v → In one v.calls → FlatStreams (settle v one)
settle_by v one (form.Opening pid number stream mode truncate) e n a b m = streams_opening v (settle v one) one pid number stream mode truncate (grant_of v one) e n b m refl (ap (λ x. with_call (replied one (granting x (grant_of v one))) v.calls) e) refl (ap (opens_after v.opens one.from) e) (ap (shared_after v.shared) e)
settle_by v one (form.Move stream place kept grants) e n a b m = streams_moving v (settle v one) one stream place kept grants (Some (grant_of v one)) 1 (kept && not (has_stream stream v.shared)) e n b m refl (ap (λ x. with_call (replied one (granting x (grant_of v one))) v.calls) e) refl (ap (opens_after v.opens one.from) e) (ap (shared_after v.shared) e)
settle_by v one body e n a b m = absurd (cc (a))

pub both_settle : (v : View) (one : FileCall) → one.reply ≡ None → asks one.body ≡ true → Both v → In one v.calls → Both (settle v one)
both_settle v one n a b m = record { flat = flat_settle v one b.flat m a; streams = settle_by v one one.body refl n a b m }

-- callbacks go out
both_call_out : (v : View) (kind : CallKind) (kernel : ℕ) → Both v → IsClient (length v.clients) kernel → Both (call_out v kind kernel)
both_call_out v kind kernel b i = record {
  flat = flat_call_out v kind kernel b.flat i;
  streams = streams_begin (stamped v kind kernel) server kernel (form.Callback (last_stamp v + 1) kind) None (flat_stamped v kind kernel b.flat) (streams_same v (stamped v kind kernel) refl refl refl refl refl b.streams)
      (λ stream k. refl) (λ one m n pid number stream mode truncate e. refl) (λ pid number stream mode truncate e. absurd (cc (e))) (λ j. plain_works _ _ (new_call (stamped v kind kernel) server kernel (form.Callback (last_stamp v + 1) kind) None) refl);
}

both_call_back : (called : List ℕ) (kind : CallKind) (v : View) → Both v → ((kernel : ℕ) → In kernel called → IsClient (length v.clients) kernel) → Both (call_back called kind v)
both_call_back [] kind v b i = b
both_call_back (kernel ∷ rest) kind v b i = both_call_back rest kind (call_out v kind kernel) (both_call_out v kind kernel b (i kernel (inl refl))) (λ other m. i other (inr m))

both_deciding : (v : View) (one : FileCall) (kind : CallKind) (called : List ℕ) → one.reply ≡ None → asks one.body ≡ true → Both v → In one v.calls → ((kernel : ℕ) → In kernel called → IsClient (length v.clients) kernel) → Both (deciding v one kind called)
both_deciding v one kind [] n a b m i = both_settle v one n a b m
both_deciding v one kind (kernel ∷ rest) n a b m i = both_call_back (kernel ∷ rest) kind v b i

both_decide : (z : Setting) (v : View) (one : FileCall) → one.reply ≡ None → asks one.body ≡ true → Both v → In one v.calls → Both (decide z v one)
both_decide z v one n a b m =
    both_deciding (told v (uncached_after z v one)) one (kind_of_calls (uncached_after z v one)) (called_kernels z v one) n a (record { flat = flat_told v (uncached_after z v one) b.flat; streams = streams_same v (told v (uncached_after z v one)) refl refl refl refl refl b.streams }) m
    (λ kernel k. among_clients v kernel (in_filter (is_called (uncached_after z v one) v one) kernel (kernels v) k).0)

-- a request is taken up
streams_serve : (z : Setting) (v : View) (one : FileCall) (body : FileBody) → one.body ≡ body → one.reply ≡ None → Both v → In one v.calls → FlatStreams (serve_body z v one body)
streams_serve z v one (form.Opening pid number stream mode truncate) e n b m = (both_decide z v one n (ap asks e) b m).streams
streams_serve z v one (form.Move stream place kept grants) e n b m = (both_decide z v one n (ap asks e) b m).streams
streams_serve z v one (form.Close stream grants) e n b m = streams_close v one stream grants e n b m
streams_serve z v one (form.Fetch stamp block) e n b m =
    choose FlatStreams (stamp == current_stamp v one.from) _ _ (quiet_answer v one (form.Fetch stamp block) (form.Block stamp (block_of z v.bytes block)) e refl b.flat.numbered.differ m b.streams) (quiet_answer v one (form.Fetch stamp block) (form.Again (current_grant v one.from)) e refl b.flat.numbered.differ m b.streams)
streams_serve z v one (form.WriteBack stamp block size piece) e n b m =
    choose FlatStreams (stamp == current_stamp v one.from) _ _ (streams_same (answer v one form.Done) _ refl refl refl refl refl (quiet_answer v one (form.WriteBack stamp block size piece) form.Done e refl b.flat.numbered.differ m b.streams)) (quiet_answer v one (form.WriteBack stamp block size piece) (form.Again (current_grant v one.from)) e refl b.flat.numbered.differ m b.streams)
streams_serve z v one (form.Op pid number stamp stream way) e n b m =
    choose FlatStreams (stamp == current_stamp v one.from) _ _ (streams_same (answer v one (op_reply z v.bytes way)) _ refl refl refl refl refl (quiet_answer v one (form.Op pid number stamp stream way) (op_reply z v.bytes way) e refl b.flat.numbered.differ m b.streams)) (quiet_answer v one (form.Op pid number stamp stream way) (form.Again (current_grant v one.from)) e refl b.flat.numbered.differ m b.streams)
streams_serve z v one body e n b m = b.streams

pub both_serve : (z : Setting) (v : View) (one : FileCall) → one.reply ≡ None → Both v → In one v.calls → Both (serve z v one)
both_serve z v one n b m = record { flat = flat_serve z v one one.body refl b.flat m; streams = streams_serve z v one one.body refl n b m }

-- what waits is taken up
both_serve_all : (z : Setting) (waiting : List FileCall) (v : View) → Both v → ((one : FileCall) → In one waiting → In one v.calls) → ((one : FileCall) → In one waiting → one.reply ≡ None) → Unique (numbers waiting) → Both (serve_all z waiting v)
both_serve_all z [] v b m n u = b
both_serve_all z (one ∷ rest) v b m n u =
    choose Both (busy v) v (serve_all z rest (serve z v one)) b
    (both_serve_all z rest (serve z v one) (both_serve z v one (n one (inl refl)) b (m one (inl refl))) (λ other k. serve_keeps z v one other one.body (m other (inr k)) (apart_from one other rest u k)) (λ other k. n other (inr k)) u.1)

both_resume : (z : Setting) (waiting : List FileCall) (v : View) → Both v → ((one : FileCall) → In one waiting → In one v.calls) → ((one : FileCall) → In one waiting → one.reply ≡ None) → Unique (numbers waiting) → Both (resume z waiting v)
both_resume z [] v b m n u = b
both_resume z (one ∷ rest) v b m n u =
    choose_by Both (asks one.body) (serve_all z rest (settle v one)) (serve_all z (one ∷ rest) v)
    (λ a. both_serve_all z rest (settle v one) (both_settle v one (n one (inl refl)) a b (m one (inl refl))) (λ other k. with_in (replied one (granting one.body (grant_of v one))) other v.calls (m other (inr k)) (apart_from one other rest u k)) (λ other k. n other (inr k)) u.1)
    (λ a. both_serve_all z (one ∷ rest) v b m n u)

pub no_reply : (o : Option FileBody) → is_none o ≡ true → o ≡ None
no_reply None e = refl
no_reply (Some reply) e = absurd (cc (e))

pub both_resumed : (z : Setting) (v : View) → Both v → Both (resumed z v)
both_resumed z v b = choose Both (busy v) v (resume z (waiting_calls v) v) b
    (both_resume z (waiting_calls v) v b (λ one m. (in_filter waits one v.calls m).0) (λ one m. no_reply one.reply (and_parts one.taken (is_none one.reply) (in_filter waits one v.calls m).1).1) (unique_filter number_of waits v.calls (calls_apart v b.flat.numbered.differ)))

pub both_request : (z : Setting) (v : View) (one : FileCall) → one.reply ≡ None → Both v → In one v.calls → one.to ≡ server → Both (request_comes z v one)
both_request z v one n b m s =
    let taken : Both (to_the_end v one) = record { flat = flat_taken v one b.flat m s; streams = streams_take v one b.flat.numbered.differ m b.streams } in
    choose Both (busy v) (to_the_end v one) (serve z (to_the_end v one) (record one { taken = true })) taken (both_serve z (to_the_end v one) (record one { taken = true }) n taken (last_in (record one { taken = true }) _))
