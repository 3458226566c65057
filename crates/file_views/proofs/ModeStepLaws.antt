-- The fifth layer of soundness under each step and each move of a client, and of a new file.
use Rattle.std.proofs.Common.{◌≡◌, ◌≤◌, ◌<◌, ℕ, ◌-◌, ◌==◌, Bool, true, false, not, ◌||◌, is_some, List, [], length, map, Option, Some, None, refl, sym, ap, ◌∙◌, subst, inl, inr, arith, eqb-true, append-nil}
use Rattle.std.proofs.lemmas.Bool.{and_parts}
use Rattle.std.proofs.lemmas.List.{get_or-replicate}
use Rattle.sprite_ids.specs.declared.BlockNo.{BlockNo}
use Rattle.sprite_ids.specs.declared.StreamNo.{StreamNo}
use Rattle.sprite_ids.specs.declared.Mode.{Mode}
use Rattle.sprite_ids.specs.declared.CallKind.{CallKind}
use Rattle.file_views.specs.declared.grant.FileGrant.{FileGrant}
use Rattle.file_views.specs.declared.body.FileBody.{FileBody}
use Rattle.file_views.specs.declared.body.FileBody.TheVariants as form
use Rattle.file_views.specs.declared.client.Held.{Held}
use Rattle.file_views.specs.declared.client.Client.{Client}
use Rattle.file_views.specs.declared.call.FileCall.{FileCall}
use Rattle.file_views.specs.declared.call.Carry.{Carry}
use Rattle.file_views.specs.declared.step.FileStep.{FileStep}
use Rattle.file_views.specs.declared.step.FileStep.TheVariants as act
use Rattle.file_views.specs.declared.moves.ClientMove.{ClientMove}
use Rattle.file_views.specs.declared.moves.ClientMove.TheVariants as move
use Rattle.file_views.specs.declared.view.View.{View}
use Rattle.file_views.specs.Setting.{Setting}
use Rattle.file_views.specs.Contents.{zeros}
use Rattle.file_views.specs.Clients.{is_on, held, take_grant, fill, wrote_back, install, uninstall, without_block, with_block}
use Rattle.file_views.specs.Views.{server, new_view, client, set_client, current_stamp, mode_given, grant_given, find_call, find_carried, remove_call, is_callback, as_call, things, without_carried}
use Rattle.file_views.specs.Grants.{asks}
use Rattle.file_views.specs.Data.{step_of}
use Rattle.file_views.specs.Serving.{store_blocks, holder_answered}
use Rattle.file_views.specs.Steps.{grant_comes, request_at_client, opening_answered, move_answered, fetch_answered, write_back_answered, op_answered, flush_comes, reply_comes, carried_comes_with, call_comes, delivered, moving, writing_back_at, writing_back, after}
use Rattle.file_views.specs.Possible.{has_room, is_client, is_free, is_due, may_do, possible, stepped}
use Rattle.file_views.specs.Moves.{kernel_of, is_data, may_move, after_move}
use Rattle.file_views.specs.Settled.{goes_of, goes_to, arrival}
use Rattle.file_views.specs.Here.{In, IsClient}
use Rattle.file_views.specs.SoundShapes.{Ends, Answers, Shapes}
use Rattle.file_views.specs.SoundStreams.{Streams}
use Rattle.file_views.specs.SoundStamps.{Stamps}
use Rattle.file_views.specs.SoundDecisions.{Decisions}
use Rattle.file_views.specs.SoundModes.{Modes}
use Rattle.file_views.proofs.MemberLaws.{found, carried_found, map_in, in_left, in_without}
use Rattle.file_views.proofs.EffectLaws.{count_set, client_set, client_other, things_without, things_uncarried, call_in_things}
use Rattle.file_views.proofs.ClientLaws.{choose_by}
use Rattle.file_views.proofs.ShapeLaws.{Flat, flat_of}
use Rattle.file_views.proofs.ShapeStepLaws.{client_is, still_client, free_client, flat_server, calls_apart, ends_no_callback}
use Rattle.file_views.proofs.ShapeMoveLaws.{working_client, client_new, count_new}
use Rattle.file_views.proofs.StreamLaws.{FlatStreams, flat_streams}
use Rattle.file_views.proofs.StreamChangeLaws.{streams_same}
use Rattle.file_views.proofs.StreamServeLaws.{Both}
use Rattle.file_views.proofs.StreamReplyLaws.{both_quiet}
use Rattle.file_views.proofs.StampLaws.{own_stamp, FlatStamps, flat_stamps}
use Rattle.file_views.proofs.StampChangeLaws.{stamps_same, stamps_remove}
use Rattle.file_views.proofs.StampServeLaws.{Two}
use Rattle.file_views.proofs.StampStepLaws.{two_grant, two_removed, told_again, steps_keep_stamps}
use Rattle.file_views.proofs.DataLaws.{carries_start, carries_fetch, carries_queue, carries_look}
use Rattle.file_views.proofs.DecisionLaws.{FlatDecisions, flat_decisions, Holds, holds_server, ruled_holds, back_self, asking_more, waiting_without}
use Rattle.file_views.proofs.DecisionStepLaws.{answered_waits}
use Rattle.file_views.proofs.ModeLaws.{FlatModes, flat_modes, modes_of, under_of, modes_told_off, dues_self}
use Rattle.file_views.proofs.ModeChangeLaws.{Moding, moding_client, moding_begin, carries_modes, moding_remove, modes_carried, modes_taking, modes_same, moded_self, under_moded}
use Rattle.file_views.proofs.ModeGrantLaws.{modes_called}
use Rattle.file_views.proofs.ModeServeLaws.{modes_request, modes_resumed}

-- the layers on which it leans
pub record Standing (z : Setting) (v : View) : Type 0 where
  pub flat : Flat v
  pub streams : FlatStreams v
  pub stamps : FlatStamps v
  pub decided : FlatDecisions z v
  pub modes : FlatModes v

pub moding_of : (z : Setting) (v : View) → Standing z v → Moding v
moding_of z v t = record { under = under_of v t.stamps; modes = t.modes }

-- a grant comes with a stream
modes_arrives : (z : Setting) (v : View) (one : FileCall) (kernel : ℕ) (grant : FileGrant) (c : Client) → Standing z v → In one v.calls → one.taken ≡ true → IsClient (length v.clients) kernel → goes_to one ≡ kernel → arrival one.reply ≡ Some grant → c.stamp ≡ (take_grant (client v kernel) grant).stamp → c.mode ≡ (take_grant (client v kernel) grant).mode → FlatModes (set_client (remove_call v one.number) kernel c)
modes_arrives z v one kernel grant c t m k i g a p q = modes_taking v (set_client (remove_call v one.number) kernel c) one kernel grant (record {
  there = call_in_things v one m;
  taken = k;
  left = things_without v one t.flat.numbered.differ m;
  count = count_set v kernel c;
  others = λ other j d. client_other v kernel other c i.0 j.0 d;
  own = ap (λ (x : Client). x.stamp) (client_set v kernel c i) ∙ p;
  now = ap (λ (x : Client). x.mode) (client_set v kernel c i) ∙ q;
  stamps = refl;
  modes = refl;
  given = refl;
  uncached = refl;
  low = subst (λ n. grant.stamp ≤ current_stamp v n) g ((t.stamps.each one (call_in_things v one m)).granted grant a);
  source = λ l. record { call = one; newer = grant; is_newer = (call_in_things v one m, (g, a), l); same = refl };
  lost = λ place other b. (sym b.0 ∙ g, same_stamp other b.1);
}) t.flat.numbered.differ i (under_of v t.stamps) t.modes
  where
    same_stamp : (other : FileGrant) → arrival one.reply ≡ Some other → other.stamp ≡ grant.stamp
    same_stamp other b = let e : other ≡ grant = cc (a, b) in ap (λ (x : FileGrant). x.stamp) e

modes_arrives_carried : (z : Setting) (v : View) (carry : Carry) (grant : FileGrant) (c : Client) → Standing z v → In carry v.carried → carry.grant ≡ Some grant → c.stamp ≡ (take_grant (client v carry.to) grant).stamp → c.mode ≡ (take_grant (client v carry.to) grant).mode → FlatModes (set_client (record v { carried = without_carried carry.call v.carried }) carry.to c)
modes_arrives_carried z v carry grant c t m a p q = modes_taking v (set_client (record v { carried = without_carried carry.call v.carried }) carry.to c) (as_call carry) carry.to grant (record {
  there = there;
  taken = refl;
  left = things_uncarried v carry t.flat.numbered.differ m;
  count = count_set v carry.to c;
  others = λ other j d. client_other v carry.to other c i.0 j.0 d;
  own = ap (λ (x : Client). x.stamp) (client_set v carry.to c i) ∙ p;
  now = ap (λ (x : Client). x.mode) (client_set v carry.to c i) ∙ q;
  stamps = refl;
  modes = refl;
  given = refl;
  uncached = refl;
  low = (t.stamps.each (as_call carry) there).granted grant a;
  source = λ l. record { call = as_call carry; newer = grant; is_newer = (there, (refl, a), l); same = refl };
  lost = λ place other b. (sym b.0, same_stamp other b.1);
}) t.flat.numbered.differ i (under_of v t.stamps) t.modes
  where
    i : IsClient (length v.clients) carry.to
    i = (t.flat.carried carry m).client

    there : In (as_call carry) (things v)
    there = in_left (as_call carry) (map as_call v.carried) v.calls (map_in as_call carry v.carried m)

    same_stamp : (other : FileGrant) → carry.grant ≡ Some other → other.stamp ≡ grant.stamp
    same_stamp other b = let e : other ≡ grant = cc (a, b) in ap (λ (x : FileGrant). x.stamp) e

-- an Again comes
pub modes_again : (z : Setting) (v : View) (one : FileCall) (grant : FileGrant) → Standing z v → In one v.calls → one.taken ≡ true → IsClient (length v.clients) one.from → one.reply ≡ Some (form.Again grant) → Moding (grant_comes (remove_call v one.number) one.from grant)
modes_again z v one grant t m k i r = record {
  under = under_of (grant_comes (remove_call v one.number) one.from grant) (two_grant (remove_call v one.number) one.from grant (two_removed v one two m) i (told_again v one grant two m r)).stamps;
  modes = modes_taking v (grant_comes (remove_call v one.number) one.from grant) one one.from grant (record {
    there = call_in_things v one m;
    taken = k;
    left = things_without v one t.flat.numbered.differ m;
    count = count_set v one.from (take_grant (client v one.from) grant);
    others = λ other j d. client_other v one.from other (take_grant (client v one.from) grant) i.0 j.0 d;
    own = ap (λ (x : Client). x.stamp) (client_set v one.from (take_grant (client v one.from) grant) i);
    now = ap (λ (x : Client). x.mode) (client_set v one.from (take_grant (client v one.from) grant) i);
    stamps = refl;
    modes = refl;
    given = refl;
    uncached = refl;
    low = (t.stamps.each one (call_in_things v one m)).again grant r;
    source = λ l. (t.modes one.from i).again one (call_in_things v one m) refl grant r l;
    lost = λ place other b. absurd (cc (b.1, ap arrival r));
  }) t.flat.numbered.differ i (under_of v t.stamps) t.modes;
}
  where
    two : Two v
    two = record { flat = t.flat; stamps = t.stamps }

-- a reply to no open and no move brings no grant of a stream
pub brings_none : (body reply : FileBody) → Answers body reply → asks body ≡ false → arrival (Some reply) ≡ None
brings_none (form.Opening pid number stream mode truncate) reply a n = absurd (cc (n))
brings_none (form.Move stream place kept grants) reply a n = absurd (cc (n))
brings_none (form.Close stream grants) form.Done a n = refl
brings_none (form.Close stream grants) reply a n = absurd a
brings_none (form.Op pid number stamp stream way) (form.Value first second piece) a n = refl
brings_none (form.Op pid number stamp stream way) (form.Again grant) a n = refl
brings_none (form.Op pid number stamp stream way) (form.Refused cause) a n = refl
brings_none (form.Op pid number stamp stream way) reply a n = absurd a
brings_none (form.Fetch stamp block) (form.Block other piece) a n = refl
brings_none (form.Fetch stamp block) (form.Again grant) a n = refl
brings_none (form.Fetch stamp block) reply a n = absurd a
brings_none (form.WriteBack stamp block size piece) form.Done a n = refl
brings_none (form.WriteBack stamp block size piece) (form.Again grant) a n = refl
brings_none (form.WriteBack stamp block size piece) reply a n = absurd a
brings_none (form.Callback stamp kind) (form.Flushed size blocks) a n = refl
brings_none (form.Callback stamp kind) reply a n = absurd a
brings_none body reply a n = absurd a

-- replies come
pub modes_finished : (z : Setting) (v : View) (one : FileCall) → Standing z v → In one v.calls → one.taken ≡ true → asks one.body ≡ false → Moding (remove_call v one.number)
modes_finished z v one t m k n = moding_remove v one t.flat.numbered.differ m k (by_reply one.reply refl) (moding_of z v t)
  where
    by_reply : (reply : Option FileBody) → one.reply ≡ reply → arrival reply ≡ None
    by_reply (Some reply) r = brings_none one.body reply ((t.flat.calls one m).fits reply r) n
    by_reply None r = refl

modes_opened : (z : Setting) (v : View) (one : FileCall) (pid number : ℕ) (stream : StreamNo) (mode : Mode) (truncate : Bool) (reply : Option FileBody) → one.body ≡ form.Opening pid number stream mode truncate → one.reply ≡ reply → is_some one.reply ≡ true → Standing z v → In one v.calls → one.taken ≡ true → IsClient (length v.clients) one.from → FlatModes (opening_answered (remove_call v one.number) one.from stream reply)
modes_opened z v one pid number stream mode truncate (Some (form.Opened grant)) e r s t m k i = modes_arrives z v one one.from grant (install (take_grant (client v one.from) grant) stream) t m k i (ap (goes_of one.from) e) (ap arrival r) refl refl
modes_opened z v one pid number stream mode truncate (Some reply) e r s t m k i = absurd (subst (λ x. Answers x reply) e ((t.flat.calls one m).fits reply r))
modes_opened z v one pid number stream mode truncate None e r s t m k i = absurd (cc (r, s))

modes_moved : (z : Setting) (v : View) (one : FileCall) (stream : StreamNo) (place : ℕ) (kept : Bool) (grants : ℕ) (reply : Option FileBody) → one.body ≡ form.Move stream place kept grants → one.reply ≡ reply → is_some one.reply ≡ true → Standing z v → In one v.calls → FlatModes (move_answered (remove_call v one.number) one.number place stream reply)
modes_moved z v one stream place kept grants (Some (form.Moved grant more)) e r s t m = modes_carried v one stream place kept grants grant more t.flat.numbered.differ m e r (under_of v t.stamps) t.modes
modes_moved z v one stream place kept grants (Some reply) e r s t m = absurd (subst (λ x. Answers x reply) e ((t.flat.calls one m).fits reply r))
modes_moved z v one stream place kept grants None e r s t m = absurd (cc (r, s))

modes_fetched : (z : Setting) (v : View) (one : FileCall) (stamp : ℕ) (block : BlockNo) (reply : Option FileBody) → one.body ≡ form.Fetch stamp block → one.reply ≡ reply → Standing z v → In one v.calls → one.taken ≡ true → IsClient (length v.clients) one.from → FlatModes (fetch_answered z (remove_call v one.number) one.from block reply)
modes_fetched z v one stamp block (Some (form.Block other piece)) e r t m k i = (carries_look Moding carries_modes z (set_client (remove_call v one.number) one.from (fill z (client v one.from) other block piece)) one.from (moding_client (remove_call v one.number) one.from (fill z (client v one.from) other block piece) (modes_finished z v one t m k (ap asks e)) i refl refl) (still_client (remove_call v one.number) one.from one.from _ i)).modes
modes_fetched z v one stamp block (Some (form.Again grant)) e r t m k i = (carries_look Moding carries_modes z (grant_comes (remove_call v one.number) one.from grant) one.from (modes_again z v one grant t m k i r) (still_client (remove_call v one.number) one.from one.from _ i)).modes
modes_fetched z v one stamp block reply e r t m k i = (modes_finished z v one t m k (ap asks e)).modes

modes_back : (z : Setting) (v : View) (one : FileCall) (stamp : ℕ) (block : BlockNo) (reply : Option FileBody) → asks one.body ≡ false → one.reply ≡ reply → Standing z v → In one v.calls → one.taken ≡ true → IsClient (length v.clients) one.from → FlatModes (write_back_answered (remove_call v one.number) one.from stamp block one.dirty reply)
modes_back z v one stamp block (Some form.Done) e r t m k i = (moding_client (remove_call v one.number) one.from (wrote_back (client v one.from) stamp block.0 one.dirty) (modes_finished z v one t m k e) i refl refl).modes
modes_back z v one stamp block (Some (form.Again grant)) e r t m k i = (modes_again z v one grant t m k i r).modes
modes_back z v one stamp block reply e r t m k i = (modes_finished z v one t m k e).modes

modes_operated : (z : Setting) (v : View) (one : FileCall) (step : FileStep) (reply : Option FileBody) → asks one.body ≡ false → one.reply ≡ reply → Standing z v → In one v.calls → one.taken ≡ true → IsClient (length v.clients) one.from → FlatModes (op_answered z (remove_call v one.number) one.from step reply)
modes_operated z v one step (Some (form.Again grant)) e r t m k i = (carries_start Moding carries_modes z (grant_comes (remove_call v one.number) one.from grant) one.from step (modes_again z v one grant t m k i r) (still_client (remove_call v one.number) one.from one.from _ i)).modes
modes_operated z v one step reply e r t m k i = (modes_finished z v one t m k e).modes

modes_flush : (z : Setting) (v : View) (one : FileCall) (stamp : ℕ) (kind : CallKind) (reply : Option FileBody) → one.body ≡ form.Callback stamp kind → is_some one.reply ≡ true → Standing z v → In one v.calls → one.taken ≡ true → FlatModes (flush_comes z v one reply)
modes_flush z v one stamp kind (Some (form.Flushed size blocks)) e s t m k =
    let u : View = record v { bytes = store_blocks z v.bytes size blocks; holder = holder_answered v one.to } in
    let w : View = remove_call u one.number in
    let h : Holds v w = holds_server v w refl refl refl refl refl in
    let flat : Flat u = flat_server v (store_blocks z v.bytes size blocks) v.version (holder_answered v one.to) v.uncached v.opens v.shared t.flat in
    let both : Both w = both_quiet u one (form.Callback stamp kind) e refl (record { flat = flat; streams = streams_same v u refl refl refl refl refl t.streams }) m in
    elim t.decided.queues [
      | inl a ↦ absurd (cc (a.0 one m, ap is_callback e))
      | inr b ↦ modes_resumed z w both (stamps_remove u one t.flat.numbered.differ m (stamps_same v u refl refl refl refl refl refl t.stamps)) (ruled_holds v w h t.decided.ruled)
          (asking_more z v w h [] (waiting_without v.calls one (calls_apart v t.flat.numbered.differ) m (answered_waits one s) ∙ sym (append-nil _)) (λ x j c. back_self v.calls x (in_without one.number x v.calls j).0) b.1)
          (modes_finished z v one t m k (ap asks e)).modes
    ]
modes_flush z v one stamp kind reply e s t m k = t.modes

sender_of : (z : Setting) (v : View) (one : FileCall) (body : FileBody) → one.body ≡ body → Standing z v → In one v.calls → Ends (length v.clients) one.from one.to body
sender_of z v one body e t m = subst (Ends (length v.clients) one.from one.to) e (t.flat.calls one m).ends

modes_reply : (z : Setting) (v : View) (one : FileCall) (body : FileBody) → one.body ≡ body → is_some one.reply ≡ true → Standing z v → In one v.calls → one.taken ≡ true → FlatModes (reply_comes z v one body)
modes_reply z v one (form.Callback stamp kind) e s t m k = modes_flush z v one stamp kind one.reply e s t m k
modes_reply z v one (form.Opening pid number stream mode truncate) e s t m k = modes_opened z v one pid number stream mode truncate one.reply e refl s t m k (sender_of z v one _ e t m).0
modes_reply z v one (form.Move stream place kept grants) e s t m k = modes_moved z v one stream place kept grants one.reply e refl s t m
modes_reply z v one (form.Fetch stamp block) e s t m k = modes_fetched z v one stamp block one.reply e refl t m k (sender_of z v one _ e t m).0
modes_reply z v one (form.WriteBack stamp block size piece) e s t m k = modes_back z v one stamp block one.reply (ap asks e) refl t m k (sender_of z v one _ e t m).0
modes_reply z v one (form.Op pid number stamp stream way) e s t m k = modes_operated z v one (step_of pid number one.from stream way) one.reply (ap asks e) refl t m k (sender_of z v one _ e t m).0
modes_reply z v one (form.Close stream grants) e s t m k = (modes_finished z v one t m k (ap asks e)).modes
modes_reply z v one body e s t m k = absurd (sender_of z v one body e t m)

-- a callback comes to a client
modes_at_client : (z : Setting) (v : View) (one : FileCall) (body : FileBody) → one.body ≡ body → one.taken ≡ false → one.reply ≡ None → Standing z v → In one v.calls → FlatModes (request_at_client z v one body)
modes_at_client z v one (form.Callback stamp kind) e k n t m = modes_called v one stamp kind _ _ t.flat.numbered.differ t.stamps (under_of v t.stamps) t.modes m e k n (sender_of z v one _ e t m).1
modes_at_client z v one body e k n t m = t.modes

-- a request or a reply comes
pub unanswered : (v : View) (one : FileCall) → Flat v → In one v.calls → one.taken ≡ false → one.reply ≡ None
unanswered v one f m k = by_reply one.reply refl
  where
    by_reply : (reply : Option FileBody) → one.reply ≡ reply → reply ≡ None
    by_reply (Some reply) r = absurd (cc (k, (f.calls one m).taken_first reply r))
    by_reply None r = refl

modes_call : (z : Setting) (v : View) (one : FileCall) (taken atserver : Bool) → one.taken ≡ taken → (one.to == server) ≡ atserver → (not taken || is_some one.reply) ≡ true → Standing z v → In one v.calls → FlatModes (call_comes z v one taken atserver)
modes_call z v one true atserver k e h t m = modes_reply z v one one.body refl h t m k
modes_call z v one false true k e h t m = modes_request z v one (record { flat = t.flat; streams = t.streams }) t.stamps t.decided.ruled t.modes m (eqb-true one.to server e) (unanswered v one t.flat m k) (no_call (is_callback one.body) refl)
  where
    no_call : (b : Bool) → is_callback one.body ≡ b → b ≡ false
    no_call true c = absurd (ends_no_callback (length v.clients) one.from one.to one.body (t.flat.calls one m).ends t.flat.items.fifteen (eqb-true one.to server e) c)
    no_call false c = refl
modes_call z v one false false k e h t m = modes_at_client z v one one.body refl k (unanswered v one t.flat m k) t m

modes_carried_comes : (z : Setting) (v : View) (one : Carry) (grant : Option FileGrant) → one.grant ≡ grant → Standing z v → In one v.carried → FlatModes (carried_comes_with (record v { carried = without_carried one.call v.carried }) one grant)
modes_carried_comes z v one (Some grant) e t m = modes_arrives_carried z v one grant (install (take_grant (client v one.to) grant) one.stream) t m e refl refl
modes_carried_comes z v one None e t m = absurd (cc (e, (t.flat.carried one m).granted))

modes_delivered : (z : Setting) (v : View) (number : ℕ) (carried : Option Carry) (call : Option FileCall) → find_carried v.carried number ≡ carried → find_call v.calls number ≡ call → is_due carried call ≡ true → Standing z v → FlatModes (delivered z v carried call)
modes_delivered z v number (Some one) call e k h t = modes_carried_comes z v one one.grant refl t (carried_found v.carried number one e).0
modes_delivered z v number None (Some one) e k h t = modes_call z v one one.taken (one.to == server) refl refl h t (found v.calls number one k).0
modes_delivered z v number None None e k h t = t.modes

-- what a client makes
modes_moving : (v : View) (stream : StreamNo) (source place : ℕ) (kept : Bool) → Moding v → IsClient (length v.clients) source → Moding (moving v stream source place kept)
modes_moving v stream source place true p i = moding_begin v source server (form.Move stream place true 0) None p
modes_moving v stream source place false p i = moding_begin (set_client v source (uninstall (client v source) stream)) source server _ None (moding_client v source (uninstall (client v source) stream) p i refl refl)

modes_back_at : (z : Setting) (v : View) (kernel : ℕ) (one : Held) (dirty : Option ℕ) → Moding v → IsClient (length v.clients) kernel → Moding (writing_back_at z v kernel one dirty)
modes_back_at z v kernel one None p i = moding_client v kernel (record (client v kernel) { blocks = without_block one.block.0 (client v kernel).blocks }) p i refl refl
modes_back_at z v kernel one (Some dirty) p i = moding_begin v kernel server _ (Some dirty) p

modes_writing_back : (z : Setting) (v : View) (kernel : ℕ) (o : Option Held) → Moding v → IsClient (length v.clients) kernel → Moding (writing_back z v kernel o)
modes_writing_back z v kernel (Some one) p i = modes_back_at z v kernel one one.dirty p i
modes_writing_back z v kernel None p i = p

modes_after : (z : Setting) (v : View) (step : FileStep) → may_do z v step ≡ true → Standing z v → FlatModes (after z v step)
modes_after z v (act.Opening pid number kernel stream mode truncate) e t = (moding_begin v kernel server (form.Opening pid number stream mode truncate) None (moding_of z v t)).modes
modes_after z v (act.Closing kernel stream) e t = (moding_begin (set_client v kernel (uninstall (client v kernel) stream)) kernel server _ None (moding_client v kernel (uninstall (client v kernel) stream) (moding_of z v t) (free_client v kernel stream e) refl refl)).modes
modes_after z v (act.Moving stream source place kept) e t = (modes_moving v stream source place kept (moding_of z v t) (free_client v source stream (and_parts (is_free v source stream) _ e).0)).modes
modes_after z v (act.Reading pid number kernel stream from many) e t = (carries_start Moding carries_modes z v kernel (act.Reading pid number kernel stream from many) (moding_of z v t) (free_client v kernel stream (and_parts _ _ (and_parts _ _ e).0).0)).modes
modes_after z v (act.Writing pid number kernel stream from bytes) e t = (carries_start Moding carries_modes z v kernel (act.Writing pid number kernel stream from bytes) (moding_of z v t) (free_client v kernel stream (and_parts _ _ (and_parts _ _ e).0).0)).modes
modes_after z v (act.Append pid number kernel stream bytes) e t = (carries_start Moding carries_modes z v kernel (act.Append pid number kernel stream bytes) (moding_of z v t) (free_client v kernel stream (and_parts _ _ (and_parts _ _ e).0).0)).modes
modes_after z v (act.WritingBack kernel block) e t = (modes_writing_back z v kernel (held (client v kernel).blocks block.0) (moding_of z v t) (client_is v kernel (and_parts (is_client v kernel) _ e).0)).modes
modes_after z v (act.Delivering number) e t = modes_delivered z v number (find_carried v.carried number) (find_call v.calls number) refl refl e t
modes_after z v (act.Expiring number) e t = t.modes

pub standing_of : (z : Setting) (v : View) → Shapes v → Streams v → Stamps v → Decisions z v → Modes v → Standing z v
standing_of z v s r p d m =
    let stamps : FlatStamps v = flat_stamps v (flat_of v s) p in
    record { flat = flat_of v s; streams = flat_streams v r; stamps = stamps; decided = flat_decisions z v d; modes = flat_modes v stamps m }

pub steps_keep_modes : (z : Setting) (v : View) (step : FileStep) → Shapes v → Streams v → Stamps v → Decisions z v → Modes v → Modes (stepped z v step)
steps_keep_modes z v step s r p d m = modes_of (stepped z v step) (λ kernel i. ((steps_keep_stamps z v step s p).each kernel i).facts.own_below)
    (choose_by FlatModes (possible z v step) (after z v step) v (λ e. modes_after z v step (and_parts (has_room v) (may_do z v step) e).1 (standing_of z v s r p d m)) (λ e. (standing_of z v s r p d m).modes))

-- a client's moves
moding_server : (v w : View) → w.clients ≡ v.clients → w.stamps ≡ v.stamps → w.modes ≡ v.modes → w.given ≡ v.given → w.uncached ≡ v.uncached → things w ≡ things v → Moding v → Moding w
moding_server v w a b c d e g p = record {
  under = under_moded v w (moded_self v w a b c d e) p.under (λ one m grant q. record { call = one; there = subst (In one) g m; arrives = (refl, q) });
  modes = modes_same v w a b c d e p.under p.modes (λ kernel i. dues_self v kernel (things w) g (p.modes kernel i));
}

moding_move : (z : Setting) (v : View) (other : ClientMove) → may_move z v other ≡ true → Moding v → Moding (after_move z v other)
moding_move z v (move.Number next) e p = moding_server v (record v { next = next }) refl refl refl refl refl refl p
moding_move z v (move.Count kernel count) e p = moding_client v kernel (record (client v kernel) { count = count }) p (client_is v kernel (and_parts (is_client v kernel) _ e).0) refl refl
moding_move z v (move.Queue step) e p = let q = and_parts (is_data step) (may_do z v step) e in carries_queue Moding carries_modes v (kernel_of step) step p (working_client z v step q.0 q.1)
moding_move z v (move.Fetch kernel block) e p = carries_fetch Moding carries_modes v kernel block.0 p (client_is v kernel (and_parts (is_client v kernel) _ e).0)
moding_move z v (move.Look kernel) e p = carries_look Moding carries_modes z v kernel p (client_is v kernel (and_parts (is_client v kernel) _ e).0)
moding_move z v (move.Zeros kernel block) e p = moding_client v kernel (record (client v kernel) { blocks = with_block (record { block = block; bytes = zeros z.block; dirty = None }) (client v kernel).blocks }) p (client_is v kernel (and_parts (is_client v kernel) _ e).0) refl refl
moding_move z v (move.Raise version) e p = moding_server v (record v { version = version }) refl refl refl refl refl refl p
moding_move z v move.Uncache e p = record {
  under = record { own = p.under.own; given = p.under.given; granted = p.under.granted };
  modes = λ kernel i. modes_told_off kernel (own_stamp v kernel) (current_stamp v kernel) (client v kernel).mode (mode_given v kernel) (grant_given v kernel) v.uncached true (things v) (λ one m grant a l o u. refl) (p.modes kernel i);
}

pub moves_keep_modes : (z : Setting) (v : View) (other : ClientMove) → may_move z v other ≡ true → Shapes v → Stamps v → Modes v → Modes (after_move z v other)
moves_keep_modes z v other e s p m =
    let stamps : FlatStamps v = flat_stamps v (flat_of v s) p in
    let next : Moding (after_move z v other) = moding_move z v other e (record { under = under_of v stamps; modes = flat_modes v stamps m }) in
    modes_of (after_move z v other) next.under.own next.modes

-- a new file
pub new_has_modes : (count : ℕ) (bytes : List ℕ) → Modes (new_view count bytes)
new_has_modes count bytes = modes_of (new_view count bytes) (λ kernel i. let a = own_new kernel i in omega (arith, a)) (λ kernel i. record {
  reached = inl (own_new kernel i ∙ sym (get_or-replicate count (kernel - 1) 0 0 (low kernel (within kernel i))));
  given_mode = λ grant e s. let none : grant_given (new_view count bytes) kernel ≡ None = get_or-replicate count (kernel - 1) None None (low kernel (within kernel i)) in absurd (cc (e, none));
  given_last = λ one m. absurd m;
  again = λ one m. absurd m;
  on_now = λ o. absurd (cc (o, ap (λ (c : Client). is_on c.mode) (client_new count bytes kernel (within kernel i))));
  on_later = λ one m. absurd m;
  off_uncached = λ one m. absurd m;
  off_now = λ one m. absurd m;
  off_later = λ one m. absurd m;
})
  where
    within : (kernel : ℕ) → IsClient (length (new_view count bytes).clients) kernel → IsClient count kernel
    within kernel i = subst (λ n. IsClient n kernel) (count_new count bytes) i

    low : (kernel : ℕ) → IsClient count kernel → kernel - 1 < count
    low kernel i = omega (arith, i.0, i.1)

    own_new : (kernel : ℕ) → IsClient (length (new_view count bytes).clients) kernel → own_stamp (new_view count bytes) kernel ≡ 0
    own_new kernel i = ap (λ (c : Client). c.stamp) (client_new count bytes kernel (within kernel i))
