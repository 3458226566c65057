-- The second layer of soundness, said of the whole view, and under the changes that move no grant.
use Rattle.std.proofs.Common.{◌≡◌, ◌≤◌, ◌⊎◌, ℕ, ◌+◌, ◌==◌, Bool, true, false, ◌&&◌, ◌||◌, List, length, map, filter, Option, Some, None, refl, sym, ap, ◌∙◌, subst, inl, inr, arith, eqb-true, eq-eqb}
use Rattle.sprite_ids.specs.Lists.{total}
use Rattle.sprite_ids.specs.declared.StreamNo.{StreamNo}
use Rattle.file_views.specs.declared.body.Access.{Access}
use Rattle.file_views.specs.declared.body.Access.TheVariants as access
use Rattle.file_views.specs.declared.body.FileBody.{FileBody}
use Rattle.file_views.specs.declared.body.FileBody.TheVariants as form
use Rattle.file_views.specs.declared.opens.Open.{Open}
use Rattle.file_views.specs.declared.call.FileCall.{FileCall}
use Rattle.file_views.specs.declared.call.Carry.{Carry}
use Rattle.file_views.specs.declared.step.FileStep.{FileStep}
use Rattle.file_views.specs.declared.view.View.{View}
use Rattle.file_views.specs.Streams.{same_stream, has_stream, copies, is_open, counted, open_count, writes}
use Rattle.file_views.specs.Views.{client, as_call, things}
use Rattle.file_views.specs.Data.{step_of}
use Rattle.file_views.specs.Possible.{is_about, works_on}
use Rattle.file_views.specs.Here.{In, IsClient, target, about, at_kernel}
use Rattle.file_views.specs.SoundStreams.{NamedOnce, NewStreams, OpensShaped, counted_at, on_way_of, on_way, writes_data, is_writing, LocalStreams, Streams}
use Rattle.file_views.proofs.MemberLaws.{in_filter, filter_in, in_join, in_map, Made}
use Rattle.file_views.proofs.EffectLaws.{call_in_things}
use Rattle.file_views.proofs.CountLaws.{total_filter, same_is, same_self, same_by, or_left, neither}
use Rattle.file_views.proofs.OpenLaws.{is_open_is, counted_not}

-- the stream that a reading, writing or append is about is installed at the kernel, and open for writing where that writes
pub record StepOpen (kernel : ℕ) (streams : List StreamNo) (opens : List Open) (step : FileStep) : Type 0 where
  pub installed : (stream : StreamNo) → works_on stream step ≡ true → has_stream stream streams ≡ true
  pub writing : is_writing step ≡ true → (other : Open) → In other opens → other.kernel ≡ kernel → works_on other.stream step ≡ true → writes other.mode ≡ true

-- what an unfinished call does with its stream
pub record Works (streams : List StreamNo) (opens : List Open) (one : FileCall) : Type 0 where
  pub operates : (pid number stamp : ℕ) (stream : StreamNo) (way : Access) → one.body ≡ form.Op pid number stamp stream way → StepOpen one.from streams opens (step_of pid number one.from stream way)
  pub keeps_none : one.reply ≡ None → (stream : StreamNo) (place grants : ℕ) → one.body ≡ form.Move stream place true grants → grants ≡ 0
  pub keeps_stream : one.reply ≡ None → (stream : StreamNo) (place grants : ℕ) → one.body ≡ form.Move stream place true grants → has_stream stream streams ≡ true
  pub moves_some : one.reply ≡ None → (stream : StreamNo) (place grants : ℕ) → one.body ≡ form.Move stream place false grants → 1 ≤ grants
  pub closes_some : one.reply ≡ None → (stream : StreamNo) (grants : ℕ) → one.body ≡ form.Close stream grants → 1 ≤ grants

pub record StreamRest (v : View) : Type 0 where
  pub new : NewStreams v
  pub opens : OpensShaped (length v.clients) v.opens
  pub works : (one : FileCall) → In one v.calls → IsClient (length v.clients) one.from → Works (client v one.from).streams v.opens one
  pub waits : (kernel : ℕ) → IsClient (length v.clients) kernel → (step : FileStep) → In step (client v kernel).waiting → StepOpen kernel (client v kernel).streams v.opens step

-- the server counts the grants that are installed and on their way, and so many more
abbrev pub Counted : (StreamNo → ℕ → ℕ) → View → Type 0
Counted more v = (kernel : ℕ) → IsClient (length v.clients) kernel → (stream : StreamNo) → open_count v.opens stream kernel ≡ copies stream (client v kernel).streams + total (on_way stream kernel) (things v) + more stream kernel

abbrev pub none_more : StreamNo → ℕ → ℕ
none_more stream kernel = 0

pub record FlatStreams (v : View) : Type 0 where
  pub rest : StreamRest v
  pub counts : Counted none_more v

-- the two ways to say it
pub way_stream : (pid number kernel : ℕ) (stream : StreamNo) (way : Access) → works_on stream (step_of pid number kernel stream way) ≡ true
way_stream pid number kernel stream (access.Read from many) = same_self stream
way_stream pid number kernel stream (access.Write from bytes) = same_self stream
way_stream pid number kernel stream (access.Append bytes) = same_self stream

way_other : (pid number kernel : ℕ) (stream other : StreamNo) (way : Access) → works_on other (step_of pid number kernel stream way) ≡ same_stream other stream
way_other pid number kernel stream other (access.Read from many) = refl
way_other pid number kernel stream other (access.Write from bytes) = refl
way_other pid number kernel stream other (access.Append bytes) = refl

way_writes : (pid number kernel : ℕ) (stream : StreamNo) (way : Access) → is_writing (step_of pid number kernel stream way) ≡ writes_data way
way_writes pid number kernel stream (access.Read from many) = refl
way_writes pid number kernel stream (access.Write from bytes) = refl
way_writes pid number kernel stream (access.Append bytes) = refl

counted_at_none : (grants : ℕ) (b : Bool) → b ≡ false → counted_at grants b ≡ 0
counted_at_none grants true e = absurd (cc (e))
counted_at_none grants false e = refl

and_not : (a b : Bool) → a ≡ false → (a && b) ≡ false
and_not true b e = absurd (cc (e))
and_not false b e = refl

-- a call that isn't about the kernel brings it no grant
far_away : (stream : StreamNo) (kernel source to : ℕ) (body : FileBody) (reply : Option FileBody) → (source == kernel) ≡ false → (target body == kernel) ≡ false → on_way_of stream kernel source body reply ≡ 0
far_away stream kernel source to (form.Close other grants) None a b = counted_at_none grants _ (and_not (source == kernel) _ a)
far_away stream kernel source to (form.Close other grants) (Some reply) a b = refl
far_away stream kernel source to (form.Move other place kept grants) None a b = counted_at_none grants _ (and_not (source == kernel) _ a)
far_away stream kernel source to (form.Move other place kept grants) (Some reply) a b = counted_at_none 1 _ (and_not (place == kernel) _ b)
far_away stream kernel source to (form.Opening pid number other mode truncate) None a b = refl
far_away stream kernel source to (form.Opening pid number other mode truncate) (Some reply) a b = counted_at_none 1 _ (and_not (source == kernel) _ a)
far_away stream kernel source to body reply a b = refl

near_total : (v : View) (kernel : ℕ) (stream : StreamNo) → total (on_way stream kernel) (filter (about kernel) (things v)) ≡ total (on_way stream kernel) (things v)
near_total v kernel stream = total_filter (on_way stream kernel) (about kernel) (things v) (λ one m e.
    let p = neither (one.from == kernel) ((one.to == kernel) || (target one.body == kernel)) e in
    let q = neither (one.to == kernel) (target one.body == kernel) p.1 in
    far_away stream kernel one.from one.to one.body one.reply p.0 q.1)

here_count : (v : View) (kernel : ℕ) (stream : StreamNo) → total (counted stream kernel) (filter (λ (one : Open). one.kernel == kernel) v.opens) ≡ open_count v.opens stream kernel
here_count v kernel stream = total_filter (counted stream kernel) (λ (one : Open). one.kernel == kernel) v.opens (λ one m e. counted_not stream kernel one (elsewhere one e))
  where
    elsewhere : (one : Open) → (one.kernel == kernel) ≡ false → is_open stream kernel one ≡ false
    elsewhere one e = by_test (is_open stream kernel one) refl
      where
        by_test : (b : Bool) → is_open stream kernel one ≡ b → b ≡ false
        by_test true h = absurd (cc (e, eq-eqb one.kernel kernel (is_open_is stream kernel one h).1))
        by_test false h = refl

-- a call of the kernel stands in its part
in_part : (v : View) (one : FileCall) → In one v.calls → In one (at_kernel v one.from).calls
in_part v one m = filter_in (about one.from) one (things v) (call_in_things v one m) (or_left (one.from == one.from) _ (eq-eqb one.from one.from refl))

pub in_opened : (v : View) (kernel : ℕ) (one : Open) → In one v.opens → one.kernel ≡ kernel → In one (at_kernel v kernel).opened
in_opened v kernel one m e = filter_in (λ (x : Open). x.kernel == kernel) one v.opens m (eq-eqb one.kernel kernel e)

pub out_opened : (v : View) (kernel : ℕ) (one : Open) → In one (at_kernel v kernel).opened → In one v.opens × (one.kernel ≡ kernel)
out_opened v kernel one m = let r = in_filter (λ (x : Open). x.kernel == kernel) one v.opens m in (r.0, eqb-true one.kernel kernel r.1)

works_of : (v : View) (one : FileCall) → In one v.calls → LocalStreams (at_kernel v one.from) → Works (client v one.from).streams v.opens one
works_of v one m l = record {
  operates = λ pid number stamp stream way e. record {
    installed = λ other k. subst (λ s. has_stream s (client v one.from).streams ≡ true) (sym (same_is other stream (sym (way_other pid number one.from stream other way) ∙ k))) (l.working.operates one (in_part v one m) refl pid number stamp stream way e);
    writing = λ w other n q k. l.working.writes_open one (in_part v one m) refl pid number stamp stream way e (sym (way_writes pid number one.from stream way) ∙ w) other (in_opened v one.from other n q) (same_is other.stream stream (sym (way_other pid number one.from stream other.stream way) ∙ k));
  };
  keeps_none = λ r stream place grants e. l.working.keeps_none one (in_part v one m) refl r stream place grants e;
  keeps_stream = λ r stream place grants e. l.working.keeps_stream one (in_part v one m) refl r stream place grants e;
  moves_some = λ r stream place grants e. l.working.moves_some one (in_part v one m) refl r stream place grants e;
  closes_some = λ r stream grants e. l.working.closes_some one (in_part v one m) refl r stream grants e;
}

pub flat_streams : (v : View) → Streams v → FlatStreams v
flat_streams v s = record {
  rest = record {
    new = s.new;
    opens = s.opens;
    works = λ one m i. works_of v one m (s.each one.from i);
    waits = λ kernel i step m. record {
      installed = λ stream e. (s.each kernel i).working.waits_open step m stream e;
      writing = λ w other n q k. (s.each kernel i).working.waits_writing step m w other (in_opened v kernel other n q) k;
    };
  };
  counts = λ kernel i stream. sym (here_count v kernel stream) ∙ (s.each kernel i).counts stream ∙ ap (λ n. copies stream (client v kernel).streams + n) (near_total v kernel stream) ∙ omega arith;
}

-- a carried stream is no call of a client
no_carried : (v : View) (kernel : ℕ) (one : FileCall) → 1 ≤ kernel → In one (at_kernel v kernel).calls → one.from ≡ kernel → In one v.calls
no_carried v kernel one l m e = by_place (in_join one (map as_call v.carried) v.calls (in_filter (about kernel) one (things v) m).0)
  where
    by_place : In one (map as_call v.carried) ⊎ In one v.calls → In one v.calls
    by_place (inl n) = let r : Made as_call one v.carried = in_map as_call one v.carried n in let none : one.from ≡ 0 = ap (λ (x : FileCall). x.from) r.makes in absurd (omega (arith, l, e, none))
    by_place (inr n) = n

works_there : (v : View) (f : FlatStreams v) (kernel : ℕ) (i : IsClient (length v.clients) kernel) (one : FileCall) → In one (at_kernel v kernel).calls → one.from ≡ kernel → Works (client v one.from).streams v.opens one
works_there v f kernel i one m e = f.rest.works one (no_carried v kernel one i.0 m e) (subst (IsClient (length v.clients)) (sym e) i)

pub streams_of : (v : View) → FlatStreams v → Streams v
streams_of v f = record {
  new = f.rest.new;
  opens = f.rest.opens;
  each = λ kernel i. record {
    counts = λ stream. let a = here_count v kernel stream in let b = f.counts kernel i stream in let c = near_total v kernel stream in omega (arith, a, b, c);
    working = record {
      operates = λ one m q pid number stamp stream way e. subst (λ k. has_stream stream (client v k).streams ≡ true) q (((works_there v f kernel i one m q).operates pid number stamp stream way e).installed stream (way_stream pid number one.from stream way));
      writes_open = λ one m q pid number stamp stream way e w other n k. ((works_there v f kernel i one m q).operates pid number stamp stream way e).writing (way_writes pid number one.from stream way ∙ w) other (out_opened v kernel other n).0 ((out_opened v kernel other n).1 ∙ sym q) (way_other pid number one.from stream other.stream way ∙ same_by other.stream stream k);
      keeps_none = λ one m q r stream place grants e. (works_there v f kernel i one m q).keeps_none r stream place grants e;
      keeps_stream = λ one m q r stream place grants e. subst (λ k. has_stream stream (client v k).streams ≡ true) q ((works_there v f kernel i one m q).keeps_stream r stream place grants e);
      moves_some = λ one m q r stream place grants e. (works_there v f kernel i one m q).moves_some r stream place grants e;
      closes_some = λ one m q r stream grants e. (works_there v f kernel i one m q).closes_some r stream grants e;
      waits_open = λ step m stream e. (f.rest.waits kernel i step m).installed stream e;
      waits_writing = λ step m w other n k. (f.rest.waits kernel i step m).writing w other (out_opened v kernel other n).0 (out_opened v kernel other n).1 k;
    };
  };
}

-- a call that stood there before, perhaps without its reply
pub record Before (v : View) (one : FileCall) : Type 0 where
  pub before : FileCall
  pub there : In before v.calls
  pub number_is : one.number ≡ before.number
  pub from_is : one.from ≡ before.from
  pub body_is : one.body ≡ before.body
  pub reply_is : one.reply ≡ None → before.reply ≡ None

pub works_before : (streams : List StreamNo) (opens : List Open) (one other : FileCall) → other.from ≡ one.from → other.body ≡ one.body → (other.reply ≡ None → one.reply ≡ None) → Works streams opens one → Works streams opens other
works_before streams opens one other s b r w = record {
  operates = λ pid number stamp stream way e. subst (λ k. StepOpen k streams opens (step_of pid number k stream way)) (sym s) (w.operates pid number stamp stream way (sym b ∙ e));
  keeps_none = λ n stream place grants e. w.keeps_none (r n) stream place grants (sym b ∙ e);
  keeps_stream = λ n stream place grants e. w.keeps_stream (r n) stream place grants (sym b ∙ e);
  moves_some = λ n stream place grants e. w.moves_some (r n) stream place grants (sym b ∙ e);
  closes_some = λ n stream grants e. w.closes_some (r n) stream grants (sym b ∙ e);
}

-- a view in which no stream was installed or taken away, and no call began
pub record Calm (v w : View) : Type 0 where
  pub count : length w.clients ≡ length v.clients
  pub streams : (kernel : ℕ) → IsClient (length v.clients) kernel → (client w kernel).streams ≡ (client v kernel).streams
  pub waiting : (kernel : ℕ) → IsClient (length v.clients) kernel → (step : FileStep) → In step (client w kernel).waiting → In step (client v kernel).waiting
  pub calls : (one : FileCall) → In one w.calls → Before v one

pub calm_within : (v w : View) → Calm v w → (kernel : ℕ) → IsClient (length w.clients) kernel → IsClient (length v.clients) kernel
calm_within v w r kernel i = subst (λ n. IsClient n kernel) r.count i

-- what opens an edit of them leaves open for writing
abbrev pub KeepsOpen : View → List Open → Type 0
KeepsOpen v opens = (kernel : ℕ) → IsClient (length v.clients) kernel → (step : FileStep) → StepOpen kernel (client v kernel).streams v.opens step → StepOpen kernel (client v kernel).streams opens step

pub works_open : (kernel : ℕ) (streams : List StreamNo) (opens others : List Open) (one : FileCall) → one.from ≡ kernel → ((step : FileStep) → StepOpen kernel streams opens step → StepOpen kernel streams others step) → Works streams opens one → Works streams others one
works_open kernel streams opens others one e f w = record {
  operates = λ pid number stamp stream way q. subst (λ k. StepOpen k streams others (step_of pid number one.from stream way)) (sym e) (f (step_of pid number one.from stream way) (subst (λ k. StepOpen k streams opens (step_of pid number one.from stream way)) e (w.operates pid number stamp stream way q)));
  keeps_none = w.keeps_none;
  keeps_stream = w.keeps_stream;
  moves_some = w.moves_some;
  closes_some = w.closes_some;
}

pub rest_by : (v w : View) → StreamRest v → Calm v w → NewStreams w → OpensShaped (length v.clients) w.opens → KeepsOpen v w.opens → StreamRest w
rest_by v w f r new shaped keeps = record {
  new = new;
  opens = subst (λ n. OpensShaped n w.opens) (sym r.count) shaped;
  works = λ one m i.
      let b : Before v one = r.calls one m in
      let here : IsClient (length v.clients) one.from = calm_within v w r one.from i in
      let j : IsClient (length v.clients) b.before.from = subst (IsClient (length v.clients)) b.from_is here in
      let old : Works (client v b.before.from).streams v.opens b.before = f.works b.before b.there j in
      let moved : Works (client v one.from).streams v.opens one = subst (λ k. Works (client v k).streams v.opens one) (sym b.from_is) (works_before (client v b.before.from).streams v.opens b.before one b.from_is b.body_is b.reply_is old) in
      subst (λ xs. Works xs w.opens one) (sym (r.streams one.from here)) (works_open one.from (client v one.from).streams v.opens w.opens one refl (keeps one.from here) moved);
  waits = λ kernel i step m.
      let here : IsClient (length v.clients) kernel = calm_within v w r kernel i in
      subst (λ xs. StepOpen kernel xs w.opens step) (sym (r.streams kernel here)) (keeps kernel here step (f.waits kernel here step (r.waiting kernel here step m)));
}

-- and no open changes
pub record Rests (v w : View) : Type 0 where
  pub calm : Calm v w
  pub opens : w.opens ≡ v.opens
  pub shared : w.shared ≡ v.shared
  pub carried : (one : Carry) → In one w.carried → In one v.carried

pub new_rests : (v w : View) → StreamRest v → Rests v w → NewStreams w
new_rests v w f r one m n pid number stream mode truncate e =
    let b : Before v one = r.calm.calls one m in
    let once : NamedOnce v b.before.number stream = f.new b.before b.there (b.reply_is n) pid number stream mode truncate (sym b.body_is ∙ e) in
    record {
      shared = subst (λ xs. has_stream stream xs ≡ false) (sym r.shared) once.shared;
      opens = λ other k. once.opens other (subst (In other) r.opens k);
      calls = λ other k d. let c : Before v other = r.calm.calls other k in ap (is_about stream) c.body_is ∙ once.calls c.before c.there (λ q. d (c.number_is ∙ q ∙ sym b.number_is));
      carried = λ other k. once.carried other (r.carried other k);
      installed = λ kernel i. ap (has_stream stream) (r.calm.streams kernel (calm_within v w r.calm kernel i)) ∙ once.installed kernel (calm_within v w r.calm kernel i);
      waiting = λ kernel i step k. once.waiting kernel (calm_within v w r.calm kernel i) step (r.calm.waiting kernel (calm_within v w r.calm kernel i) step k);
    }

pub rest_rests : (v w : View) → StreamRest v → Rests v w → StreamRest w
rest_rests v w f r = rest_by v w f r.calm (new_rests v w f r) (subst (OpensShaped (length v.clients)) (sym r.opens) f.opens) (λ kernel i step s. subst (λ os. StepOpen kernel (client v kernel).streams os step) (sym r.opens) s)

pub counts_rest : (more less : StreamNo → ℕ → ℕ) (v w : View) → Counted more v → Rests v w → ((stream : StreamNo) (kernel : ℕ) → total (on_way stream kernel) (things w) + less stream kernel ≡ total (on_way stream kernel) (things v) + more stream kernel) → Counted less w
counts_rest more less v w f r t kernel i stream =
    let j : IsClient (length v.clients) kernel = calm_within v w r.calm kernel i in
    let a : open_count w.opens stream kernel ≡ open_count v.opens stream kernel = ap (λ os. open_count os stream kernel) r.opens in
    let b = f kernel j stream in
    let c : copies stream (client w kernel).streams ≡ copies stream (client v kernel).streams = ap (copies stream) (r.calm.streams kernel j) in
    let d = t stream kernel in
    omega (arith, a, b, c, d)

pub rests : (v w : View) → FlatStreams v → Rests v w → ((stream : StreamNo) (kernel : ℕ) → total (on_way stream kernel) (things w) ≡ total (on_way stream kernel) (things v)) → FlatStreams w
rests v w f r t = record { rest = rest_rests v w f.rest r; counts = counts_rest none_more none_more v w f.counts r (λ stream kernel. ap (λ n. n + 0) (t stream kernel)) }
