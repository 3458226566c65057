-- What holds along a history.
use Rattle.std.proofs.Common.{◌≡◌, ℕ, true, List, [], ◌∷◌, ◌++◌, Option, Some, None, refl, sym, ap, subst, ◌∙◌}
use Rattle.std.specs.Option.{is_some}
use Rattle.std.proofs.lemmas.Bool.{true≢false}
use Rattle.sprite_ids.proofs.ListLaws.{some_is}
use Rattle.unix_calls.specs.declared.description.Description.{Description}
use Rattle.unix_calls.specs.declared.entry.Entry.{Entry}
use Rattle.unix_calls.specs.State.{Process, Unix, with_process}
use Rattle.unix_calls.specs.Boot.{boot_of}
use Rattle.unix_calls.specs.After.{after, counted, state_from, state_of, legal}
use Rattle.unix_calls.specs.Laws.{IsWithin}
use Rattle.unix_calls.proofs.AfterLaws.{IsMoved, Still, Moved, entered}

-- ---- prefixes

pub none_goes_on : (c : Description) (journal : List Entry) → state_from c None journal ≡ None
none_goes_on c [] = refl
none_goes_on c (e ∷ es) = refl

pub state_from-append : (c : Description) (u : Option Unix) (journal more : List Entry) → state_from c u (journal ++ more) ≡ state_from c (state_from c u journal) more
state_from-append c u [] more = refl
state_from-append c None (e ∷ es) more = sym (none_goes_on c more)
state_from-append c (Some u) (e ∷ es) more = state_from-append c (after c u e) es more

legal_by : (c : Description) (u : Option Unix) (more : List Entry) → is_some (state_from c u more) ≡ true → is_some u ≡ true
legal_by c None more h = absurd (true≢false (sym h ∙ ap (λ (o : Option Unix). is_some o) (none_goes_on c more)))
legal_by c (Some u) more h = refl

pub prefix_is_legal : (c : Description) (journal more : List Entry) → legal c (journal ++ more) ≡ true → legal c journal ≡ true
prefix_is_legal c journal more h =
    legal_by c (state_of c journal) more (ap (λ (o : Option Unix). is_some o) (sym (state_from-append c (Some (boot_of c)) journal more)) ∙ h)

-- ---- the limit

within_process : (q : Process) (u : Unix) → IsWithin u → IsWithin (with_process q u)
within_process q u h = record { files = h.files; streams = h.streams }

within_counted : (u : Unix) → IsWithin u → IsWithin (counted u)
within_counted u h = record { files = h.files; streams = h.streams }

within_moved : (u first : Unix) (pid : ℕ) → IsMoved u pid first → IsWithin u → IsWithin first
within_moved u first pid (Still is) h = subst IsWithin (sym is) h
within_moved u first pid (Moved q s is) h = subst IsWithin (sym is) (within_process q u h)

pub within_after : (c : Description) (u v : Unix) (e : Entry) → after c u e ≡ Some v → IsWithin u → IsWithin v
within_after c u v e is h =
    let entry = entered c u v e is in
    let steps = entry.steps in
    subst IsWithin (sym entry.whole)
    (within_counted entry.later (subst IsWithin (sym steps.whole) (within_process steps.caller steps.between (steps.within (within_moved u entry.first e.pid entry.moved h)))))

-- a fact that each entry keeps holds of the last state
kept_by : (c : Description) (P : Unix → Type 0) → ((u v : Unix) (e : Entry) → after c u e ≡ Some v → P u → P v) → (journal : List Entry) (o : Option Unix) (v : Unix) → ((u : Unix) → o ≡ Some u → P u) → state_from c o journal ≡ Some v → P v
kept_by c P keeps [] o v start is = start v is
kept_by c P keeps (e ∷ es) None v start is = absurd (cc)
kept_by c P keeps (e ∷ es) (Some u) v start is =
    kept_by c P keeps es (after c u e) v (λ (w : Unix) (entered_so : after c u e ≡ Some w). keeps u w e entered_so (start u refl)) is

pub kept : (c : Description) (P : Unix → Type 0) → ((u v : Unix) (e : Entry) → after c u e ≡ Some v → P u → P v) → (journal : List Entry) (v : Unix) → P (boot_of c) → state_of c journal ≡ Some v → P v
kept c P keeps journal v start is =
    kept_by c P keeps journal (Some (boot_of c)) v (λ (u : Unix) (same : Some (boot_of c) ≡ Some u). subst P (some_is (boot_of c) u same) start) is

pub sizes_stay_within : (c : Description) (journal : List Entry) (u : Unix) → IsWithin (boot_of c) → state_of c journal ≡ Some u → IsWithin u
sizes_stay_within c journal u start is = kept c IsWithin (within_after c) journal u start is
