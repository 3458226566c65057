-- What records behind others do to what is told of a call.
use Rattle.std.proofs.Common.{◌≡◌, ℕ, ◌==◌, Bool, true, false, ◌&&◌, ◌||◌, cond, List, [], ◌∷◌, ◌++◌, refl, sym, ap, ◌∙◌, append-nil, append_assoc}
use Rattle.std.specs.List.{AllByRecursion, list_any}
use Rattle.std.proofs.lemmas.Bool.{and_parts}
use mathlib.Core.Bool.{or-true}
use Rattle.sprite_ids.proofs.OnceLaws.{or_false}
use Rattle.kernel_rpc.proofs.PartLaws.{both_true}
use Rattle.unix_calls.specs.declared.Event.{Event}
use Rattle.unix_calls.specs.declared.Event.TheVariants as events
use Rattle.unix_calls.specs.declared.Rec.{Rec}
use Rattle.call_journal.specs.Matching.{has_event, is_at, is_lost, is_resend, is_send, is_send_to}
use Rattle.call_journal.specs.Past.{since_from, since_last}
use Rattle.call_journal.specs.WorthPackets.{behind_first_send, behind_last_sending, is_loss_of, is_send_between, was_sent_between}

pub or_more : (a b c d : Bool) → (a ≡ true → c ≡ true) → (b ≡ true → d ≡ true) → (a || b) ≡ true → (c || d) ≡ true
or_more true b c d first second h = ap (λ (x : Bool). x || d) (first refl)
or_more false b c d first second h = ap (λ (x : Bool). c || x) (second h) ∙ or-true c

pub any_first : {X : Type 0} (p : X → Bool) (xs ys : List X) → list_any p xs ≡ true → list_any p (xs ++ ys) ≡ true
any_first p [] ys h = absurd (cc)
any_first p (x ∷ xs) ys h = or_more (p x) (list_any p xs) (p x) (list_any p (xs ++ ys)) (λ e. e) (any_first p xs ys) h

pub any_behind : {X : Type 0} (p : X → Bool) (xs ys : List X) → list_any p ys ≡ true → list_any p (xs ++ ys) ≡ true
any_behind p [] ys h = h
any_behind p (x ∷ xs) ys h = ap (λ (b : Bool). p x || b) (any_behind p xs ys h) ∙ or-true (p x)

pub any_more : {X : Type 0} (p q : X → Bool) (xs : List X) → ((x : X) → p x ≡ true → q x ≡ true) → list_any p xs ≡ true → list_any q xs ≡ true
any_more p q [] more h = h
any_more p q (x ∷ xs) more h = or_more (p x) (list_any p xs) (q x) (list_any q xs) (more x) (any_more p q xs more) h

pub each_both : {X : Type 0} (P Q R : X → Type 0) (xs : List X) → ((x : X) → P x → Q x → R x) → AllByRecursion P xs → AllByRecursion Q xs → AllByRecursion R xs
each_both P Q R [] both h k = tt
each_both P Q R (x ∷ xs) both h k = (both x h.0 k.0, each_both P Q R xs both h.1 k.1)

since_on : (test : Rec → Bool) (xs ys kept : List Rec) → since_from test kept (xs ++ ys) ≡ since_from test (since_from test kept xs) ys
since_on test [] ys kept = refl
since_on test (r ∷ xs) ys kept = elim (test r) as (λ b. cond {A = List Rec} b (since_from test [] (xs ++ ys)) (since_from test (kept ++ r ∷ []) (xs ++ ys)) ≡ since_from test (cond {A = List Rec} b (since_from test [] xs) (since_from test (kept ++ r ∷ []) xs)) ys) [ true ↦ since_on test xs ys [] | false ↦ since_on test xs ys (kept ++ r ∷ []) ]

none_since : (test : Rec → Bool) (xs kept : List Rec) → list_any test xs ≡ false → since_from test kept xs ≡ kept ++ xs
none_since test [] kept none = sym (append-nil kept)
none_since test (r ∷ xs) kept none =
    let parts = or_false (test r) (list_any test xs) none in
    ap (λ b. cond {A = List Rec} b (since_from test [] xs) (since_from test (kept ++ r ∷ []) xs)) parts.0 ∙ none_since test xs (kept ++ r ∷ []) parts.1 ∙ append_assoc kept (r ∷ []) xs

first_by : (kernel tx : ℕ) (r : Rec) (xs ys : List Rec) (b : Bool) → is_at kernel (is_send tx) r ≡ b → (list_any (is_at kernel (is_send tx)) xs ≡ true → behind_first_send kernel tx (xs ++ ys) ≡ behind_first_send kernel tx xs ++ ys) → (b || list_any (is_at kernel (is_send tx)) xs) ≡ true → cond {A = List Rec} b (xs ++ ys) (behind_first_send kernel tx (xs ++ ys)) ≡ cond {A = List Rec} b xs (behind_first_send kernel tx xs) ++ ys
first_by kernel tx r xs ys true is later h = refl
first_by kernel tx r xs ys false is later h = later h

-- where it was sent once, what comes is behind that
first_on : (kernel tx : ℕ) (xs ys : List Rec) → list_any (is_at kernel (is_send tx)) xs ≡ true → behind_first_send kernel tx (xs ++ ys) ≡ behind_first_send kernel tx xs ++ ys
first_on kernel tx [] ys h = absurd (cc)
first_on kernel tx (r ∷ xs) ys h = first_by kernel tx r xs ys (is_at kernel (is_send tx) r) refl (first_on kernel tx xs ys) h

none_first : (kernel tx : ℕ) (xs ys : List Rec) → list_any (is_at kernel (is_send tx)) xs ≡ false → behind_first_send kernel tx (xs ++ ys) ≡ behind_first_send kernel tx ys
none_first kernel tx [] ys none = refl
none_first kernel tx (r ∷ xs) ys none =
    let parts = or_false (is_at kernel (is_send tx) r) (list_any (is_at kernel (is_send tx)) xs) none in
    ap (λ b. cond {A = List Rec} b (xs ++ ys) (behind_first_send kernel tx (xs ++ ys))) parts.0 ∙ none_first kernel tx xs ys parts.1

-- records of no sending are behind the last one
pub still_behind : (kernel tx : ℕ) (records more : List Rec) → list_any (is_at kernel (is_send tx)) records ≡ true → list_any (is_at kernel (is_resend tx)) more ≡ false → behind_last_sending kernel tx (records ++ more) ≡ behind_last_sending kernel tx records ++ more
still_behind kernel tx records more sent none =
    let test : Rec → Bool = is_at kernel (is_resend tx) in
    ap (since_last test) (first_on kernel tx records more sent)
    ∙ since_on test (behind_first_send kernel tx records) more []
    ∙ none_since test more (since_last test (behind_first_send kernel tx records)) none

-- those behind one that it is sent again are all that is behind the last
pub again_behind : (kernel tx : ℕ) (records : List Rec) (again : Rec) (more : List Rec) → list_any (is_at kernel (is_send tx)) records ≡ true → is_at kernel (is_resend tx) again ≡ true → list_any (is_at kernel (is_resend tx)) more ≡ false → behind_last_sending kernel tx (records ++ again ∷ more) ≡ more
again_behind kernel tx records again more sent is none =
    let test : Rec → Bool = is_at kernel (is_resend tx) in
    let old = since_last test (behind_first_send kernel tx records) in
    ap (since_last test) (first_on kernel tx records (again ∷ more) sent)
    ∙ since_on test (behind_first_send kernel tx records) (again ∷ more) []
    ∙ ap (λ b. cond {A = List Rec} b (since_from test [] more) (since_from test (old ++ again ∷ []) more)) is
    ∙ none_since test more [] none

begun_by : (kernel tx : ℕ) (p : Rec → Bool) (records : List Rec) (send : Rec) (more : List Rec) → is_at kernel (is_send tx) send ≡ true → list_any (is_at kernel (is_resend tx)) (send ∷ more) ≡ false → list_any p more ≡ true → (b : Bool) → list_any (is_at kernel (is_send tx)) records ≡ b → list_any p (behind_last_sending kernel tx (records ++ send ∷ more)) ≡ true
begun_by kernel tx p records send more is none there true before =
    ap (list_any p) (still_behind kernel tx records (send ∷ more) before none)
    ∙ any_behind p (behind_last_sending kernel tx records) (send ∷ more) (any_behind p (send ∷ []) more there)
begun_by kernel tx p records send more is none there false before =
    let test : Rec → Bool = is_at kernel (is_resend tx) in
    ap (λ (xs : List Rec). list_any p (since_last test xs)) (none_first kernel tx records (send ∷ more) before ∙ ap (λ b. cond {A = List Rec} b more (behind_first_send kernel tx more)) is)
    ∙ ap (list_any p) (none_since test more [] (or_false (test send) (list_any test more) none).1)
    ∙ there

-- what is told behind a first send is behind the last sending
pub begun_behind : (kernel tx : ℕ) (p : Rec → Bool) (records : List Rec) (send : Rec) (more : List Rec) → is_at kernel (is_send tx) send ≡ true → list_any (is_at kernel (is_resend tx)) (send ∷ more) ≡ false → list_any p more ≡ true → list_any p (behind_last_sending kernel tx (records ++ send ∷ more)) ≡ true
begun_behind kernel tx p records send more is none there = begun_by kernel tx p records send more is none there (list_any (is_at kernel (is_send tx)) records) refl

-- a send to a kernel is one, and is between the two
send_of : (tx kernel to at : ℕ) (e : Event) → ((at == kernel) && is_send_to tx to e) ≡ true → ((at == kernel) && is_send tx e) ≡ true
send_of tx kernel to at (events.Send key other about kind) h =
    let parts = and_parts (at == kernel) ((key.0 == tx) && (other == to)) h in
    both_true (at == kernel) (key.0 == tx) parts.0 (and_parts (key.0 == tx) (other == to) parts.1).0
send_of tx kernel to at e h = absurd (let parts = and_parts (at == kernel) false h in cc)

pub sends_of : (tx kernel to : ℕ) (records : List Rec) → list_any (is_at kernel (is_send_to tx to)) records ≡ true → list_any (is_at kernel (is_send tx)) records ≡ true
sends_of tx kernel to records h = any_more (is_at kernel (is_send_to tx to)) (is_at kernel (is_send tx)) records (λ r. send_of tx kernel to r.kernel r.event) h

send_between : (tx kernel to : ℕ) (r : Rec) (e : Event) → ((r.kernel == kernel) && is_send_to tx to e) ≡ true → (is_send_between tx kernel to r e ≡ true) × (is_send_between tx to kernel r e ≡ true)
send_between tx kernel to r (events.Send key other about kind) h =
    let parts = and_parts (r.kernel == kernel) ((key.0 == tx) && (other == to)) h in
    let ends = and_parts (key.0 == tx) (other == to) parts.1 in
    let pair : ((r.kernel == kernel) && (other == to)) ≡ true = both_true (r.kernel == kernel) (other == to) parts.0 ends.1 in (
      both_true (key.0 == tx) (((r.kernel == kernel) && (other == to)) || ((r.kernel == to) && (other == kernel))) ends.0 (ap (λ (b : Bool). b || ((r.kernel == to) && (other == kernel))) pair),
      both_true (key.0 == tx) (((r.kernel == to) && (other == kernel)) || ((r.kernel == kernel) && (other == to))) ends.0 (ap (λ (b : Bool). ((r.kernel == to) && (other == kernel)) || b) pair ∙ or-true ((r.kernel == to) && (other == kernel))),
    )
send_between tx kernel to r e h = absurd (let parts = and_parts (r.kernel == kernel) false h in cc)

pub sent_between : (tx kernel to : ℕ) (records : List Rec) → list_any (is_at kernel (is_send_to tx to)) records ≡ true → was_sent_between tx kernel to records ≡ true
sent_between tx kernel to records h = any_more (is_at kernel (is_send_to tx to)) (λ (r : Rec). is_send_between tx kernel to r r.event) records (λ r there. (send_between tx kernel to r r.event there).0) h

pub sent_back : (tx kernel to : ℕ) (records : List Rec) → list_any (is_at kernel (is_send_to tx to)) records ≡ true → was_sent_between tx to kernel records ≡ true
sent_back tx kernel to records h = any_more (is_at kernel (is_send_to tx to)) (λ (r : Rec). is_send_between tx to kernel r r.event) records (λ r there. (send_between tx kernel to r r.event there).1) h

-- a loss of a call's packet stays one
loss_on : (tx : ℕ) (records more : List Rec) (e : Event) → is_loss_of tx records e ≡ true → is_loss_of tx (records ++ more) e ≡ true
loss_on tx records more (events.Fault a b met) h =
    let parts = and_parts (is_lost met) (was_sent_between tx a b records) h in
    both_true (is_lost met) (was_sent_between tx a b (records ++ more)) parts.0 (any_first (λ (r : Rec). is_send_between tx a b r r.event) records more parts.1)
loss_on tx records more e h = absurd (cc)

pub losses_on : (tx : ℕ) (records more among : List Rec) → list_any (has_event (is_loss_of tx records)) among ≡ true → list_any (has_event (is_loss_of tx (records ++ more))) among ≡ true
losses_on tx records more among h = any_more (has_event (is_loss_of tx records)) (has_event (is_loss_of tx (records ++ more))) among (λ r. loss_on tx records more r.event) h
