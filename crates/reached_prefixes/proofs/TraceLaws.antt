-- What a trace tells by one kernel, and its rules on prefixes from that.
use Rattle.std.proofs.Common.{◌≡◌, ℕ, ◌≤◌, ◌==◌, Bool, true, false, ◌&&◌, ◌||◌, not, cond, List, [], ◌∷◌, ◌++◌, refl, sym, ap, subst, ◌∙◌, append-nil}
use Rattle.std.proofs.lemmas.Bool.{and_from, eq-eqb}
use Rattle.std.specs.List.{AllByRecursion}
use Rattle.unix_calls.specs.declared.Description.{Description}
use Rattle.unix_calls.specs.declared.Event.{Event}
use Rattle.unix_calls.specs.declared.Event.TheVariants as events
use Rattle.unix_calls.specs.declared.Rec.{Rec}
use Rattle.unix_calls.specs.declared.SendKind.TheVariants as sendings
use Rattle.call_journal.specs.Past.{Past, each_from, past_with}
use Rattle.call_journal.specs.PrefixBroadcasts.{broadcasts_well, has_learned, is_learned}
use Rattle.prefix_table.specs.declared.prefixes.Domain.{Domain}
use Rattle.prefix_table.specs.Prefixes.{knows}
use Rattle.call_journal.specs.Journal.{records_by}
use Rattle.prefix_laws.specs.Prefixes.{AreOfUnknown, domain_in, is_of_unknown, learned_in}
use Rattle.prefix_laws.proofs.TellsLaws.{learned_append}
use Rattle.reached_prefixes.specs.Known.{is_learned_first, learned_by, told_by}

-- ---- parts of a trace

told_by_first : (b : Bool) (event : Event) (xs ys all : List Event) → all ≡ xs ++ ys → cond b (event ∷ all) all ≡ cond b (event ∷ xs) xs ++ ys
told_by_first true event xs ys all e = ap (λ (es : List Event). event ∷ es) e
told_by_first false event xs ys all e = e

pub told_append : (xs ys : List Rec) (kernel : ℕ) → told_by kernel (xs ++ ys) ≡ told_by kernel xs ++ told_by kernel ys
told_append [] ys kernel = refl
told_append (rec ∷ xs) ys kernel = told_by_first (rec.kernel == kernel) rec.event (told_by kernel xs) (told_by kernel ys) (told_by kernel (xs ++ ys)) (told_append xs ys kernel)

-- the kernel's own records
told_own : (told : List Event) (kernel : ℕ) → told_by kernel (records_by kernel told) ≡ told
told_own [] kernel = refl
told_own (event ∷ told) kernel =
    ap (λ b. cond b (event ∷ told_by kernel (records_by kernel told)) (told_by kernel (records_by kernel told))) (eq-eqb kernel kernel refl)
    ∙ ap (λ (es : List Event). event ∷ es) (told_own told kernel)

-- and those of another one
told_other : (told : List Event) (by kernel : ℕ) → (by == kernel) ≡ false → told_by kernel (records_by by told) ≡ []
told_other [] by kernel apart = refl
told_other (event ∷ told) by kernel apart =
    ap (λ b. cond b (event ∷ told_by kernel (records_by by told)) (told_by kernel (records_by by told))) apart ∙ told_other told by kernel apart

pub told_own_more : (old : List Rec) (told : List Event) (kernel : ℕ) → told_by kernel (old ++ records_by kernel told) ≡ told_by kernel old ++ told
told_own_more old told kernel = told_append old (records_by kernel told) kernel ∙ ap (λ (es : List Event). told_by kernel old ++ es) (told_own told kernel)

pub told_other_more : (old : List Rec) (told : List Event) (by kernel : ℕ) → (by == kernel) ≡ false → told_by kernel (old ++ records_by by told) ≡ told_by kernel old
told_other_more old told by kernel apart =
    told_append old (records_by by told) kernel ∙ (ap (λ (es : List Event). told_by kernel old ++ es) (told_other told by kernel apart) ∙ append-nil (told_by kernel old))

-- ---- what was learned, in the words of the trace's rules

learned_here : (event : Event) (prefix : List (List ℕ)) (known : List Domain) (others : Bool) → knows known prefix ≡ others → knows (domain_in event ++ known) prefix ≡ (is_learned prefix event || others)
learned_here (events.Learned other server) prefix known others e = ap (λ b. is_learned prefix (events.Learned other server) || b) e
learned_here _ prefix known others e = e

learned_rec : (b : Bool) (event : Event) (prefix : List (List ℕ)) (rest : List Event) (others : Bool) → knows (learned_in rest) prefix ≡ others → knows (learned_in (cond b (event ∷ rest) rest)) prefix ≡ ((b && is_learned prefix event) || others)
learned_rec true event prefix rest others e = learned_here event prefix (learned_in rest) others e
learned_rec false event prefix rest others e = e

pub known_told : (records : List Rec) (kernel : ℕ) (prefix : List (List ℕ)) → knows (learned_by kernel records) prefix ≡ has_learned kernel prefix records
known_told [] kernel prefix = refl
known_told (rec ∷ records) kernel prefix = learned_rec (rec.kernel == kernel) rec.event prefix (told_by kernel records) (has_learned kernel prefix records) (known_told records kernel prefix)

pub broadcast_well : (event : Event) (past : Past) (kernel : ℕ) → is_of_unknown (learned_by kernel past.records) event ≡ true → broadcasts_well past kernel event ≡ true
broadcast_well (events.Send tx to about (sendings.Broadcast prefix)) past kernel h = ap not (sym (known_told past.records kernel prefix)) ∙ h
broadcast_well _ past kernel h = refl

pub learned_first : (event : Event) (past : Past) (kernel : ℕ) → is_of_unknown (learned_by kernel past.records) event ≡ true → is_learned_first past kernel event ≡ true
learned_first (events.Learned prefix server) past kernel h = ap not (sym (known_told past.records kernel prefix)) ∙ h
learned_first _ past kernel h = refl

-- ---- a rule that each event meets that is of an unknown prefix

-- the records are by kernels, and what each of these tells from there on is of unknown prefixes
abbrev Goes : List Rec → List Rec → Type 0
Goes before rest = (kernel : ℕ) → 1 ≤ kernel → AreOfUnknown (learned_by kernel before) (told_by kernel rest)

learned_more : (before : List Rec) (rec : Rec) (kernel : ℕ) → learned_by kernel (before ++ rec ∷ []) ≡ learned_by kernel before ++ learned_by kernel (rec ∷ [])
learned_more before rec kernel = ap learned_in (told_append before (rec ∷ []) kernel) ∙ learned_append (told_by kernel before) (told_by kernel (rec ∷ []))

own_learned : (b : Bool) (event : Event) (before : List Rec) (kernel : ℕ) (after : List Domain) (rest : List Event) → after ≡ learned_by kernel before ++ learned_in (cond b (event ∷ []) []) → AreOfUnknown (learned_by kernel before) (cond b (event ∷ rest) rest) → AreOfUnknown after rest
own_learned true event before kernel after rest e h =
    subst (λ (ds : List Domain). AreOfUnknown ds rest) (ap (λ (ds : List Domain). learned_by kernel before ++ ds) (sym (append-nil (domain_in event))) ∙ sym e) h.1
own_learned false event before kernel after rest e h = subst (λ (ds : List Domain). AreOfUnknown ds rest) (sym (append-nil (learned_by kernel before)) ∙ sym e) h

goes_on : (before : List Rec) (rec : Rec) (rest : List Rec) → Goes before (rec ∷ rest) → Goes (before ++ rec ∷ []) rest
goes_on before rec rest h kernel low = own_learned (rec.kernel == kernel) rec.event before kernel (learned_by kernel (before ++ rec ∷ [])) (told_by kernel rest) (learned_more before rec kernel) (h kernel low)

first_unknown : (b : Bool) (event : Event) (known : List Domain) (rest : List Event) → b ≡ true → AreOfUnknown known (cond b (event ∷ rest) rest) → is_of_unknown known event ≡ true
first_unknown true event known rest e h = h.0
first_unknown false event known rest e h = absurd (cc)

pub each_meets : (rest : List Rec) (c : Description) (test : Past → ℕ → Event → Bool) (past : Past) → ((event : Event) (past : Past) (kernel : ℕ) → is_of_unknown (learned_by kernel past.records) event ≡ true → test past kernel event ≡ true) → AllByRecursion (λ (rec : Rec). 1 ≤ rec.kernel) rest → Goes past.records rest → each_from c (λ past rec rest. test past rec.kernel rec.event) past rest ≡ true
each_meets [] c test past meets low h = refl
each_meets (rec ∷ rest) c test past meets low h =
    and_from (test past rec.kernel rec.event) (each_from c (λ past rec rest. test past rec.kernel rec.event) (past_with c rec past) rest)
    (meets rec.event past rec.kernel (first_unknown (rec.kernel == rec.kernel) rec.event (learned_by rec.kernel past.records) (told_by rec.kernel rest) (eq-eqb rec.kernel rec.kernel refl) (h rec.kernel low.0)))
    (each_meets rest c test (past_with c rec past) meets low.1 (goes_on past.records rec rest h))
