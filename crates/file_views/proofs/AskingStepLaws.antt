-- Fetches and operations, the first part of the seventh layer of soundness, under each step and each move of a client.
use Rattle.std.proofs.Common.{◌≡◌, ◌≤◌, ℕ, ◌+◌, ◌-◌, ◌==◌, true, List, [], ◌∷◌, ◌++◌, length, map, Option, None, refl, sym, ap, ◌∙◌, subst, inl, inr, arith, slice_index_or}
use Rattle.sprite_ids.specs.declared.CallKind.{CallKind}
use Rattle.file_views.specs.declared.body.FileBody.{FileBody}
use Rattle.file_views.specs.declared.body.FileBody.TheVariants as form
use Rattle.file_views.specs.declared.client.Client.{Client}
use Rattle.file_views.specs.declared.call.FileCall.{FileCall}
use Rattle.file_views.specs.declared.view.View.{View}
use Rattle.file_views.specs.Setting.{Setting}
use Rattle.file_views.specs.Clients.{new_client}
use Rattle.file_views.specs.Views.{server, client, set_client, current_stamp, as_call, things, new_call, begin, replied, answer, to_the_end, busy, waits, waiting_calls, with_call, without_call, last_stamp}
use Rattle.file_views.specs.Grants.{asks, granting, grant_of, settle, stamped, call_out, call_back, told, deciding, decide, kind_of_calls, uncached_after, called_kernels}
use Rattle.file_views.specs.Serving.{close, op_reply, block_of, refuse_old, serve_body, serve, serve_all, request_comes, resume, resumed}
use Rattle.file_views.specs.Here.{In, Unique, IsClient}
use Rattle.file_views.specs.SoundShapes.{numbers}
use Rattle.file_views.specs.SoundRequests.{Asking}
use Rattle.file_views.proofs.MemberLaws.{in_left, in_join, in_last, last_in, in_with, in_without, in_filter, with_in, unique_filter}
use Rattle.file_views.proofs.EffectLaws.{by_kernel, count_set, client_set, client_other, things_begin, call_in_things}
use Rattle.file_views.proofs.ClientLaws.{choose}
use Rattle.file_views.proofs.ShapeStepLaws.{serve_keeps, number_of, apart_from}
use Rattle.file_views.proofs.AskingLaws.{Stood, Stand, asking_calls, Begins, asking_begins}

abbrev pub FlatAsking : Setting → View → Type 0
FlatAsking z v = (kernel : ℕ) → IsClient (length v.clients) kernel → Asking z kernel (client v kernel) (things v)

-- a view in which each call of a client stood before, and each client is the same
pub record Quiet (v w : View) : Type 0 where
  pub clients : w.clients ≡ v.clients
  pub stand : (kernel : ℕ) → 1 ≤ kernel → kernel ≤ 15 → Stand kernel (things v) (things w)

pub stood_self : (one : FileCall) (calls : List FileCall) → In one calls → Stood one calls
stood_self one calls m = record { other = one; there = m; number_is = refl; from_is = refl; body_is = refl }

quiet_on : (v w x : View) → Quiet v w → Quiet w x → Quiet v x
quiet_on v w x p q = record {
  clients = q.clients ∙ p.clients;
  stand = λ kernel l h one m e. let a : Stood one (things w) = q.stand kernel l h one m e in let b : Stood a.other (things v) = p.stand kernel l h a.other a.there (a.from_is ∙ e) in record { other = b.other; there = b.there; number_is = b.number_is ∙ a.number_is; from_is = b.from_is ∙ a.from_is; body_is = b.body_is ∙ a.body_is };
}

quiet_less : (v w : View) → w.clients ≡ v.clients → ((one : FileCall) → In one (things w) → In one (things v)) → Quiet v w
quiet_less v w c less = record { clients = c; stand = λ kernel l h one m e. stood_self one (things v) (less one m) }

-- a call is answered
pub quiet_with : (v w : View) (one : FileCall) (reply : FileBody) → In one v.calls → w.clients ≡ v.clients → w.calls ≡ with_call (replied one reply) v.calls → w.carried ≡ v.carried → Quiet v w
quiet_with v w one reply m c e k = record {
  clients = c;
  stand = λ kernel l h x n q. elim (in_join x (map as_call w.carried) w.calls n) [
    | inl a ↦ stood_self x (things v) (in_left x (map as_call v.carried) v.calls (subst (λ xs. In x (map as_call xs)) k a))
    | inr a ↦ elim (in_with (replied one reply) x v.calls (subst (In x) e a)) [ inl b ↦ stood_self x (things v) (call_in_things v x b.0) | inr b ↦ record { other = one; there = call_in_things v one m; number_is = ap (λ (y : FileCall). y.number) (sym b); from_is = ap (λ (y : FileCall). y.from) (sym b); body_is = ap (λ (y : FileCall). y.body) (sym b) } ]
  ];
}

quiet_out : (v : View) (kind : CallKind) (kernel : ℕ) → Quiet v (call_out v kind kernel)
quiet_out v kind kernel = record {
  clients = refl;
  stand = λ k l h x n q. elim (in_last x (new_call (stamped v kind kernel) server kernel (form.Callback (last_stamp v + 1) kind) None) (things v) (subst (In x) (things_begin (stamped v kind kernel) server kernel (form.Callback (last_stamp v + 1) kind) None) n)) [ inl a ↦ stood_self x (things v) a | inr e ↦ (let f : x.from ≡ 16 = ap (λ (y : FileCall). y.from) e in absurd (omega (arith, f, q, h))) ];
}

quiet_call_back : (called : List ℕ) (kind : CallKind) (v : View) → Quiet v (call_back called kind v)
quiet_call_back [] kind v = quiet_less v v refl (λ x m. m)
quiet_call_back (kernel ∷ rest) kind v = quiet_on v (call_out v kind kernel) (call_back rest kind (call_out v kind kernel)) (quiet_out v kind kernel) (quiet_call_back rest kind (call_out v kind kernel))

quiet_deciding : (v : View) (one : FileCall) (kind : CallKind) (called : List ℕ) → In one v.calls → Quiet v (deciding v one kind called)
quiet_deciding v one kind [] m = quiet_with v (settle v one) one (granting one.body (grant_of v one)) m refl refl refl
quiet_deciding v one kind (kernel ∷ rest) m = quiet_call_back (kernel ∷ rest) kind v

quiet_decide : (z : Setting) (v : View) (one : FileCall) → In one v.calls → Quiet v (decide z v one)
quiet_decide z v one m = quiet_on v (told v (uncached_after z v one)) (decide z v one) (quiet_less v (told v (uncached_after z v one)) refl (λ x n. n)) (quiet_deciding (told v (uncached_after z v one)) one (kind_of_calls (uncached_after z v one)) (called_kernels z v one) m)

pub quiet_serve : (z : Setting) (v : View) (one : FileCall) (body : FileBody) → In one v.calls → Quiet v (serve_body z v one body)
quiet_serve z v one (form.Opening pid number stream mode truncate) m = quiet_decide z v one m
quiet_serve z v one (form.Move stream place kept grants) m = quiet_decide z v one m
quiet_serve z v one (form.Close stream grants) m = quiet_with v (close v one stream grants) one form.Done m refl refl refl
quiet_serve z v one (form.Fetch stamp block) m = choose (Quiet v) (stamp == current_stamp v one.from) _ _ (quiet_with v (answer v one (form.Block stamp (block_of z v.bytes block))) one (form.Block stamp (block_of z v.bytes block)) m refl refl refl) (quiet_with v (refuse_old v one) one _ m refl refl refl)
quiet_serve z v one (form.WriteBack stamp block size piece) m = choose (Quiet v) (stamp == current_stamp v one.from) _ _ (quiet_with v _ one form.Done m refl refl refl) (quiet_with v (refuse_old v one) one _ m refl refl refl)
quiet_serve z v one (form.Op pid number stamp stream way) m = choose (Quiet v) (stamp == current_stamp v one.from) _ _ (quiet_with v _ one (op_reply z v.bytes way) m refl refl refl) (quiet_with v (refuse_old v one) one _ m refl refl refl)
quiet_serve z v one body m = quiet_less v v refl (λ x n. n)

quiet_all : (z : Setting) (waiting : List FileCall) (v : View) → ((one : FileCall) → In one waiting → In one v.calls) → Unique (numbers waiting) → Quiet v (serve_all z waiting v)
quiet_all z [] v m u = quiet_less v v refl (λ x n. n)
quiet_all z (one ∷ rest) v m u = choose (Quiet v) (busy v) v (serve_all z rest (serve z v one)) (quiet_less v v refl (λ x n. n))
    (quiet_on v (serve z v one) (serve_all z rest (serve z v one)) (quiet_serve z v one one.body (m one (inl refl))) (quiet_all z rest (serve z v one) (λ other n. serve_keeps z v one other one.body (m other (inr n)) (apart_from one other rest u n)) u.1))

quiet_resume : (z : Setting) (waiting : List FileCall) (v : View) → ((one : FileCall) → In one waiting → In one v.calls) → Unique (numbers waiting) → Quiet v (resume z waiting v)
quiet_resume z [] v m u = quiet_less v v refl (λ x n. n)
quiet_resume z (one ∷ rest) v m u = choose (Quiet v) (asks one.body) (serve_all z rest (settle v one)) (serve_all z (one ∷ rest) v)
    (quiet_on v (settle v one) (serve_all z rest (settle v one)) (quiet_with v (settle v one) one (granting one.body (grant_of v one)) (m one (inl refl)) refl refl refl) (quiet_all z rest (settle v one) (λ other n. with_in (replied one (granting one.body (grant_of v one))) other v.calls (m other (inr n)) (apart_from one other rest u n)) u.1))
    (quiet_all z (one ∷ rest) v m u)

pub quiet_resumed : (z : Setting) (v : View) → Unique (numbers v.calls) → Quiet v (resumed z v)
quiet_resumed z v u = choose (Quiet v) (busy v) v (resume z (waiting_calls v) v) (quiet_less v v refl (λ x n. n)) (quiet_resume z (waiting_calls v) v (λ one m. (in_filter waits one v.calls m).0) (unique_filter number_of waits v.calls u))

pub quiet_taken : (v : View) (one : FileCall) → In one v.calls → Quiet v (to_the_end v one)
quiet_taken v one m = record {
  clients = refl;
  stand = λ kernel l h x n q. elim (in_join x (map as_call v.carried) (without_call one.number v.calls ++ record one { taken = true } ∷ []) n) [
    | inl a ↦ stood_self x (things v) (in_left x (map as_call v.carried) v.calls a)
    | inr a ↦ elim (in_last x (record one { taken = true }) (without_call one.number v.calls) a) [ inl b ↦ stood_self x (things v) (call_in_things v x (in_without one.number x v.calls b).0) | inr b ↦ record { other = one; there = call_in_things v one m; number_is = ap (λ (y : FileCall). y.number) (sym b); from_is = ap (λ (y : FileCall). y.from) (sym b); body_is = ap (λ (y : FileCall). y.body) (sym b) } ]
  ];
}

pub quiet_request : (z : Setting) (v : View) (one : FileCall) → In one v.calls → Quiet v (request_comes z v one)
quiet_request z v one m = choose (Quiet v) (busy v) (to_the_end v one) (serve z (to_the_end v one) (record one { taken = true })) (quiet_taken v one m) (quiet_on v (to_the_end v one) (serve z (to_the_end v one) (record one { taken = true })) (quiet_taken v one m) (quiet_serve z (to_the_end v one) (record one { taken = true }) one.body (last_in (record one { taken = true }) _)))

-- what such a view keeps
pub asking_quiet : (z : Setting) (v w : View) → FlatAsking z v → Quiet v w → length v.clients ≤ 15 → FlatAsking z w
asking_quiet z v w f q h kernel i =
    let j : IsClient (length v.clients) kernel = subst (λ cs. IsClient (length cs) kernel) q.clients i in
    let l = j.1 in
    subst (λ (c : Client). Asking z kernel c (things w)) (ap (λ cs. slice_index_or cs (kernel - 1) new_client) (sym q.clients)) (asking_calls z kernel (client v kernel) (things v) (things w) (f kernel j) (q.stand kernel j.0 (omega (arith, l, h))))

-- a client changes, and a request begins
pub asking_set : (z : Setting) (v : View) (kernel : ℕ) (d : Client) → FlatAsking z v → IsClient (length v.clients) kernel → Asking z kernel d (things v) → FlatAsking z (set_client v kernel d)
asking_set z v kernel d f i a other j = by_kernel (λ k. IsClient (length v.clients) k → Asking z k (client (set_client v kernel d) k) (things v)) kernel other
    (λ n. subst (λ (c : Client). Asking z kernel c (things v)) (sym (client_set v kernel d i)) a)
    (λ p n. subst (λ (c : Client). Asking z other c (things v)) (sym (client_other v kernel other d i.0 n.0 p)) (f other n))
    (subst (λ n. IsClient n other) (count_set v kernel d) j)

pub asking_begin : (z : Setting) (v : View) (kernel : ℕ) (body : FileBody) (dirty : Option ℕ) → FlatAsking z v → Begins z kernel (client v kernel) (things v) (new_call v kernel server body dirty) → FlatAsking z (begin v kernel server body dirty)
asking_begin z v kernel body dirty f b other i = subst (Asking z other (client v other)) (sym (things_begin v kernel server body dirty)) (by_kernel (λ k. IsClient (length v.clients) k → Asking z k (client v k) (things v ++ new_call v kernel server body dirty ∷ [])) kernel other
    (λ n. asking_begins z kernel (client v kernel) (things v) (new_call v kernel server body dirty) (f kernel n) b)
    (λ d n. asking_calls z other (client v other) (things v) (things v ++ new_call v kernel server body dirty ∷ []) (f other n) (λ x m e. elim (in_last x (new_call v kernel server body dirty) (things v) m) [ inl k ↦ stood_self x (things v) k | inr q ↦ absurd (d (sym e ∙ ap (λ (y : FileCall). y.from) q)) ]))
    i)
