-- The moves of a server that comes back from a stop.
use Rattle.std.proofs.Common.{◌≡◌, ◌<◌, ◌-◌, ◌==◌, eqb-true, Bool, true, false, not, is_none, List, [], ◌∷◌, length, Option, Some, None, refl, sym, ap, ◌∙◌, inl, inr, arith, leb-true}
use Rattle.std.specs.List.{list_all}
use Rattle.std.proofs.lemmas.Bool.{and_parts, not-true}
use Rattle.file_views.specs.declared.client.Client.{Client}
use Rattle.file_views.specs.declared.call.FileCall.{FileCall}
use Rattle.file_views.specs.declared.view.View.{View}
use Rattle.file_views.specs.Setting.{Setting}
use Rattle.file_views.specs.Streams.{is_any}
use Rattle.file_views.specs.Clients.{new_client, is_on}
use Rattle.file_views.specs.Views.{client, things, busy}
use Rattle.file_views.specs.Settled.{arrival, stands_for}
use Rattle.file_views.specs.Here.{In}
use Rattle.file_views.specs.Sound.{Sound}
use Rattle.restart_views.specs.ServerMoves.{ServerMove, Rise, Replace, Greet, Reopen, Cache, on_in, is_calm, greeted, reopened, may_serve, after_serve, bytes_served}
use Rattle.file_views.proofs.SettledLaws.{stands_is}
use Rattle.file_views.proofs.SoundLaws.{layers_of}
use Rattle.restart_views.proofs.ViewLaws.{get_in}
use Rattle.file_views.specs.Possible.{is_client, is_named}
use Rattle.file_views.proofs.ShapeStepLaws.{client_is}
use Rattle.restart_views.proofs.GreetLaws.{greeted_contents, greeted_sound}
use Rattle.restart_views.proofs.ReopenLaws.{unnamed_of, reopened_contents, reopened_sound}
use Rattle.restart_views.proofs.CalmLaws.{Calm, calm_changed, calm_bytes, cached_contents, calm_cached}

all_there : {X : Type 0} (p : X → Bool) (xs : List X) → list_all p xs ≡ true → (x : X) → In x xs → p x ≡ true
all_there p [] e x m = absurd m
all_there p (y ∷ ys) e x (inl q) = ap p q ∙ (and_parts (p y) (list_all p ys) e).0
all_there p (y ∷ ys) e x (inr m) = all_there p ys (and_parts (p y) (list_all p ys) e).1 x m

none_by : {X : Type 0} (o : Option X) → is_none o ≡ true → o ≡ None
none_by (Some x) e = absurd (cc (e))
none_by None e = refl

empty_by : {X : Type 0} (xs : List X) → not (is_any xs) ≡ true → xs ≡ []
empty_by [] e = refl
empty_by (x ∷ xs) e = absurd (cc (e))

calm_of : (v : View) → is_calm v ≡ true → Calm v
calm_of v e =
    let a = and_parts v.uncached _ e in
    let b = and_parts (is_none v.holder) _ a.1 in
    let c = and_parts (list_all (λ (c : Client). not (is_on c.mode)) v.clients) _ b.1 in
    record {
      uncached = a.0;
      unheld = none_by v.holder b.0;
      off = λ kernel i. not-true (is_on (client v kernel).mode) (all_there (λ (c : Client). not (is_on c.mode)) v.clients c.0 (client v kernel) (get_in v.clients (kernel - 1) new_client (omega (arith, i.0, i.1))));
      later = λ one m grant g. not-true grant.on (sym (ap (λ o. not (on_in o)) g) ∙ all_there (λ (x : FileCall). not (on_in (arrival x.reply))) (things v) c.1 one m);
    }

pub served_sound : (z : Setting) (v : View) (one : ServerMove) → may_serve z v one ≡ true → Sound z v → Sound z (after_serve v one)
served_sound z v (Rise version) e s = let p = and_parts (is_calm v) _ e in calm_changed z v v.bytes version (calm_of v p.0) (leb-true v.version version p.1) s.requests.limit s
served_sound z v (Replace bytes) e s = let p = and_parts (is_calm v) _ e in calm_changed z v bytes v.version (calm_of v p.0) (omega arith) (leb-true (length bytes) z.most p.1) s
served_sound z v (Greet kernel) e s =
    let p = and_parts (is_calm v) _ e in
    let q = and_parts (is_client v kernel) _ p.1 in greeted_sound z v kernel (calm_of v p.0) (client_is v kernel q.0) q.1 s
served_sound z v (Reopen one) e s =
    let p = and_parts (is_calm v) _ e in
    let q = and_parts (is_client v one.kernel) _ p.1 in
    let r = and_parts (one.count == 1) _ q.1 in reopened_sound z v one (calm_of v p.0) (client_is v one.kernel q.0) (eqb-true one.count 1 r.0) (unnamed_of v one.stream (not-true (is_named v one.stream) r.1)) s
served_sound z v Cache e s = let p = and_parts (not (is_any v.opens)) _ e in calm_cached z v (not-true (busy v) p.1) (empty_by v.opens p.0) s

pub calm_stood : (z : Setting) (v : View) → 0 < z.block → is_calm v ≡ true → Sound z v → stands_for z v ≡ v.bytes
calm_stood z v p e s = calm_bytes z v v.bytes v.version p (calm_of v e) (omega arith) s.requests.limit s

pub served_bytes : (z : Setting) (v : View) (one : ServerMove) → 0 < z.block → may_serve z v one ≡ true → Sound z v → stands_for z (after_serve v one) ≡ bytes_served z v one
served_bytes z v (Rise version) p e s =
    let q = and_parts (is_calm v) _ e in
    calm_bytes z v v.bytes version p (calm_of v q.0) (leb-true v.version version q.1) s.requests.limit s ∙ sym (calm_stood z v p q.0 s)
served_bytes z v (Replace bytes) p e s = let q = and_parts (is_calm v) _ e in calm_bytes z v bytes v.version p (calm_of v q.0) (omega arith) (leb-true (length bytes) z.most q.1) s
served_bytes z v (Greet kernel) p e s =
    let a = and_parts (is_calm v) _ e in
    let q = and_parts (is_client v kernel) _ a.1 in
    let g = greeted_contents z v kernel (calm_of v a.0) (client_is v kernel q.0) q.1 s in
    stands_is z (greeted v kernel) (layers_of z (greeted v kernel) (served_sound z v (Greet kernel) e s)) p g.0 ∙ (g.1 ∙ sym (calm_stood z v p a.0 s))
served_bytes z v (Reopen one) p e s =
    let a = and_parts (is_calm v) _ e in
    let q = and_parts (is_client v one.kernel) _ a.1 in
    let g = reopened_contents z v one (calm_of v a.0) (client_is v one.kernel q.0) s in
    stands_is z (reopened v one) (layers_of z (reopened v one) (served_sound z v (Reopen one) e s)) p g.0 ∙ (g.1 ∙ sym (calm_stood z v p a.0 s))
served_bytes z v Cache p e s =
    let q = and_parts (not (is_any v.opens)) _ e in
    let t : Sound z (record v { uncached = false }) = calm_cached z v (not-true (busy v) q.1) (empty_by v.opens q.0) s in
    let g = cached_contents z v s.contents in
    stands_is z (record v { uncached = false }) (layers_of z (record v { uncached = false }) t) p g.0 ∙ g.1 ∙ sym (stands_is z v (layers_of z v s) p s.contents)
