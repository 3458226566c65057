-- The first of those that fill goes on: it doesn't wait for its turn, or it is woken.
use Rattle.std.proofs.Common.{◌≡◌, ◌⊎◌, inl, inr, ℕ, ◌==◌, nat_lt, Bool, true, false, ◌&&◌, ◌||◌, not, cond, List, [], ◌∷◌, ◌++◌, Option, Some, None, option_map, refl, sym, ap, ◌∙◌, subst}
use Rattle.std.proofs.lemmas.Bool.{eq-eqb, eqb-true}
use Rattle.std.specs.List.{find, list_any}
use Rattle.sprite_ids.specs.Lists.{less}
use Rattle.sprite_ids.proofs.OnceLaws.{or_false}
use Rattle.kernel_steps.specs.Rows.{is_under}
use Rattle.stream_table.proofs.OwnerLaws.{eq_turned}
use Rattle.client_file_tables.specs.declared.pending.Pending.{Pending}
use Rattle.client_file_tables.specs.declared.pending.Pending.TheVariants as operations
use Rattle.client_file_tables.specs.Fillers.{is_first}
use Rattle.client_file_tables.specs.Rows.{first_of, is_pid, less_of, same_pid}
use Rattle.client_facts.specs.FileFacts.{does, is_turn}
use Rattle.file_walks.specs.Fits.{moved_by}
use Rattle.file_facts.proofs.BookLaws.{any_behind, any_before}
use Rattle.lock_facts.proofs.Ranks.{first_less, first_own}

-- whether an operation waits for its turn that moves no more bytes than a program's call may
abbrev pub stuck : Pending → Bool
stuck (operations.Data call) = is_turn call.state && not (nat_lt 16384 (moved_by call.kind))
stuck _ = false

abbrev pub is_stuck : List (ℕ × Pending) → ℕ → Bool
is_stuck rows pid = does stuck (first_of pid rows)

abbrev pub is_woken : ℕ → List ℕ → Bool
is_woken pid ready = list_any (is_pid pid) ready

-- a process doesn't wait so, or is woken
abbrev pub GoesOn : List (ℕ × Pending) → List ℕ → ℕ → Type 0
GoesOn rows ready pid = (is_stuck rows pid ≡ false) ⊎ (is_woken pid ready ≡ true)

-- a fact of the first, where there is one
abbrev pub OfFirst : (ℕ → Type 0) → List ℕ → Type 0
OfFirst P [] = Unit {0}
OfFirst P (first ∷ rest) = P first

abbrev pub Goes : List (ℕ × Pending) → List ℕ → List ℕ → Type 0
Goes rows fillers ready = OfFirst (GoesOn rows ready) fillers

-- or it is the process whose operation was taken out
abbrev pub GoesOr : ℕ → List (ℕ × Pending) → List ℕ → ℕ → Type 0
GoesOr pid rows ready other = ((other == pid) ≡ true) ⊎ GoesOn rows ready other

abbrev pub GoesBut : ℕ → List (ℕ × Pending) → List ℕ → List ℕ → Type 0
GoesBut pid rows fillers ready = OfFirst (GoesOr pid rows ready) fillers

first_more : (P Q : ℕ → Type 0) (fillers : List ℕ) → ((p : ℕ) → P p → Q p) → OfFirst P fillers → OfFirst Q fillers
first_more P Q [] f h = tt
first_more P Q (p ∷ rest) f h = f p h

on_more : (rows more : List (ℕ × Pending)) (ready : List ℕ) (p : ℕ) → (is_stuck rows p ≡ false → is_stuck more p ≡ false) → GoesOn rows ready p → GoesOn more ready p
on_more rows more ready p f (inl e) = inl (f e)
on_more rows more ready p f (inr e) = inr e

-- Rows

abbrev value_of : Option (ℕ × Pending) → Option Pending
value_of o = option_map (λ (row : ℕ × Pending). row.1) o

push_by : (p : ℕ) (row x : ℕ × Pending) (o more : Option (ℕ × Pending)) (b : Bool) → (does stuck (value_of o) ≡ false → does stuck (value_of more) ≡ false) → does stuck (value_of (cond b (Some row) o)) ≡ false → does stuck (value_of (cond b (Some row) more)) ≡ false
push_by p row x o more true later e = e
push_by p row x o more false later e = later e

last_by : (p : ℕ) (x : ℕ × Pending) (b : Bool) → (x.0 == p) ≡ b → ((x.0 == p) ≡ true → stuck x.1 ≡ false) → does stuck (value_of (cond b (Some x) None)) ≡ false
last_by p x true e idle = idle e
last_by p x false e idle = refl

-- a row comes behind all others
pushed : (p : ℕ) (rows : List (ℕ × Pending)) (x : ℕ × Pending) → ((x.0 == p) ≡ true → stuck x.1 ≡ false) → is_stuck rows p ≡ false → is_stuck (rows ++ x ∷ []) p ≡ false
pushed p [] x idle e = last_by p x (x.0 == p) refl idle
pushed p (row ∷ rest) x idle e = push_by p row x (find (is_under same_pid p) rest) (find (is_under same_pid p) (rest ++ x ∷ [])) (row.0 == p) (pushed p rest x idle) e

none_stuck : (pid : ℕ) (rows : List (ℕ × Pending)) → list_any (is_under same_pid pid) rows ≡ false → is_stuck rows pid ≡ false
none_stuck pid [] none = refl
none_stuck pid (row ∷ rest) none =
    let parts = or_false (row.0 == pid) (list_any (is_under same_pid pid) rest) none in
    ap (λ (b : Bool). does stuck (value_of (cond b (Some row) (find (is_under same_pid pid) rest)))) parts.0 ∙ none_stuck pid rest parts.1

-- What keeps it

pub goes_push : (rows : List (ℕ × Pending)) (fillers ready : List ℕ) (x : ℕ × Pending) → stuck x.1 ≡ false → Goes rows fillers ready → Goes (rows ++ x ∷ []) fillers ready
goes_push rows fillers ready x idle h = first_more (GoesOn rows ready) (GoesOn (rows ++ x ∷ []) ready) fillers (λ p. on_more rows (rows ++ x ∷ []) ready p (pushed p rows x (λ e. idle))) h

on_woken : (rows : List (ℕ × Pending)) (ready more : List ℕ) (p : ℕ) → GoesOn rows ready p → GoesOn rows (ready ++ more) p
on_woken rows ready more p (inl e) = inl e
on_woken rows ready more p (inr e) = inr (any_before (is_pid p) ready more e)

-- others are woken
pub goes_wake : (rows : List (ℕ × Pending)) (fillers ready more : List ℕ) → Goes rows fillers ready → Goes rows fillers (ready ++ more)
goes_wake rows fillers ready more h = first_more (GoesOn rows ready) (GoesOn rows (ready ++ more)) fillers (λ p. on_woken rows ready more p) h

or_woken : (pid : ℕ) (rows : List (ℕ × Pending)) (ready more : List ℕ) (p : ℕ) → GoesOr pid rows ready p → GoesOr pid rows (ready ++ more) p
or_woken pid rows ready more p (inl e) = inl e
or_woken pid rows ready more p (inr h) = inr (on_woken rows ready more p h)

pub but_wake : (pid : ℕ) (rows : List (ℕ × Pending)) (fillers ready more : List ℕ) → GoesBut pid rows fillers ready → GoesBut pid rows fillers (ready ++ more)
but_wake pid rows fillers ready more h = first_more (GoesOr pid rows ready) (GoesOr pid rows (ready ++ more)) fillers (λ p. or_woken pid rows ready more p) h

-- an operation is taken out
out_by : (pid : ℕ) (rows : List (ℕ × Pending)) (ready : List ℕ) (p : ℕ) (b : Bool) → (p == pid) ≡ b → GoesOn rows ready p → GoesOr pid (less_of pid rows) ready p
out_by pid rows ready p true e h = inl e
out_by pid rows ready p false e h = inr (on_more rows (less_of pid rows) ready p (λ f. ap (does stuck) (first_less p pid rows e) ∙ f) h)

pub goes_out : (pid : ℕ) (rows : List (ℕ × Pending)) (fillers ready : List ℕ) → Goes rows fillers ready → GoesBut pid (less_of pid rows) fillers ready
goes_out pid rows fillers ready h = first_more (GoesOn rows ready) (GoesOr pid (less_of pid rows) ready) fillers (λ p. out_by pid rows ready p (p == pid) refl) h

-- its process was the first of those that are woken
head_by : (pid : ℕ) (rows : List (ℕ × Pending)) (pids : List ℕ) (p : ℕ) (b : Bool) → (p == pid) ≡ b → GoesOr pid rows (pid ∷ pids) p → GoesOr pid rows pids p
head_by pid rows pids p true e h = inl e
head_by pid rows pids p false e (inl f) = inl f
head_by pid rows pids p false e (inr (inl f)) = inr (inl f)
head_by pid rows pids p false e (inr (inr f)) = inr (inr (sym (ap (λ (b : Bool). b || is_woken p pids) (eq_turned pid p ∙ e)) ∙ f))

pub but_head : (pid : ℕ) (rows : List (ℕ × Pending)) (fillers pids : List ℕ) → GoesBut pid rows fillers (pid ∷ pids) → GoesBut pid rows fillers pids
but_head pid rows fillers pids h = first_more (GoesOr pid rows (pid ∷ pids)) (GoesOr pid rows pids) fillers (λ p. head_by pid rows pids p (p == pid) refl) h

-- its operation is kept, and doesn't wait so
own_stuck : (pid p : ℕ) (rows : List (ℕ × Pending)) (operation : Pending) → (p == pid) ≡ true → list_any (is_under same_pid pid) rows ≡ false → stuck operation ≡ false → is_stuck (rows ++ (pid, operation) ∷ []) p ≡ false
own_stuck pid p rows operation e none idle = subst (λ (n : ℕ). is_stuck (rows ++ (pid, operation) ∷ []) n ≡ false) (sym (eqb-true p pid e)) (ap (does stuck) (first_own pid rows operation none) ∙ idle)

keep_by : (pid : ℕ) (rows : List (ℕ × Pending)) (ready : List ℕ) (operation : Pending) (p : ℕ) → list_any (is_under same_pid pid) rows ≡ false → stuck operation ≡ false → GoesOr pid rows ready p → GoesOn (rows ++ (pid, operation) ∷ []) ready p
keep_by pid rows ready operation p none idle (inl e) = inl (own_stuck pid p rows operation e none idle)
keep_by pid rows ready operation p none idle (inr h) = on_more rows (rows ++ (pid, operation) ∷ []) ready p (pushed p rows (pid, operation) (λ e. idle)) h

pub goes_keep : (pid : ℕ) (rows : List (ℕ × Pending)) (fillers ready : List ℕ) (operation : Pending) → list_any (is_under same_pid pid) rows ≡ false → stuck operation ≡ false → GoesBut pid rows fillers ready → Goes (rows ++ (pid, operation) ∷ []) fillers ready
goes_keep pid rows fillers ready operation none idle h = first_more (GoesOr pid rows ready) (GoesOn (rows ++ (pid, operation) ∷ []) ready) fillers (λ p. keep_by pid rows ready operation p none idle) h

-- or its process isn't the first
other_by : (pid : ℕ) (rows : List (ℕ × Pending)) (ready : List ℕ) (operation : Pending) (p : ℕ) → (p == pid) ≡ false → GoesOr pid rows ready p → GoesOn (rows ++ (pid, operation) ∷ []) ready p
other_by pid rows ready operation p apart (inl e) = absurd (let both = sym e ∙ apart in cc)
other_by pid rows ready operation p apart (inr h) = on_more rows (rows ++ (pid, operation) ∷ []) ready p (pushed p rows (pid, operation) (λ e. absurd (let both = sym e ∙ eq_turned pid p ∙ apart in cc))) h

pub goes_behind : (pid : ℕ) (rows : List (ℕ × Pending)) (fillers ready : List ℕ) (operation : Pending) → is_first pid fillers ≡ false → GoesBut pid rows fillers ready → Goes (rows ++ (pid, operation) ∷ []) fillers ready
goes_behind pid rows [] ready operation apart h = tt
goes_behind pid rows (p ∷ rest) ready operation apart h = other_by pid rows ready operation p apart h

-- it has ended
gone_by : (pid : ℕ) (rows : List (ℕ × Pending)) (ready : List ℕ) (p : ℕ) → list_any (is_under same_pid pid) rows ≡ false → GoesOr pid rows ready p → GoesOn rows ready p
gone_by pid rows ready p none (inl e) = inl (subst (λ (n : ℕ). is_stuck rows n ≡ false) (sym (eqb-true p pid e)) (none_stuck pid rows none))
gone_by pid rows ready p none (inr h) = h

pub goes_gone : (pid : ℕ) (rows : List (ℕ × Pending)) (fillers ready : List ℕ) → list_any (is_under same_pid pid) rows ≡ false → GoesBut pid rows fillers ready → Goes rows fillers ready
goes_gone pid rows fillers ready none h = first_more (GoesOr pid rows ready) (GoesOn rows ready) fillers (λ p. gone_by pid rows ready p none) h

-- or is put back as it was
back_by : (pid : ℕ) (rows : List (ℕ × Pending)) (ready : List ℕ) (operation : Pending) (p : ℕ) (b : Bool) → (p == pid) ≡ b → list_any (is_under same_pid pid) (less_of pid rows) ≡ false → first_of pid rows ≡ Some operation → GoesOn rows ready p → GoesOn (less_of pid rows ++ (pid, operation) ∷ []) ready p
back_by pid rows ready operation p true e none found h =
    on_more rows (less_of pid rows ++ (pid, operation) ∷ []) ready p (λ f. own_stuck pid p (less_of pid rows) operation e none (sym (ap (does stuck) (ap (λ (n : ℕ). first_of n rows) (eqb-true p pid e) ∙ found)) ∙ f)) h
back_by pid rows ready operation p false e none found h =
    on_more rows (less_of pid rows ++ (pid, operation) ∷ []) ready p (λ f. pushed p (less_of pid rows) (pid, operation) (λ g. absurd (let both = sym g ∙ eq_turned pid p ∙ e in cc)) (ap (does stuck) (first_less p pid rows e) ∙ f)) h

pub goes_back : (pid : ℕ) (rows : List (ℕ × Pending)) (fillers ready : List ℕ) (operation : Pending) → list_any (is_under same_pid pid) (less_of pid rows) ≡ false → first_of pid rows ≡ Some operation → Goes rows fillers ready → Goes (less_of pid rows ++ (pid, operation) ∷ []) fillers ready
goes_back pid rows fillers ready operation none found h = first_more (GoesOn rows ready) (GoesOn (less_of pid rows ++ (pid, operation) ∷ []) ready) fillers (λ p. back_by pid rows ready operation p (p == pid) refl none found) h

-- Turns that are begun and left

pub but_begun : (pid : ℕ) (rows : List (ℕ × Pending)) (fillers ready : List ℕ) → GoesBut pid rows fillers ready → GoesBut pid rows (fillers ++ pid ∷ []) ready
but_begun pid rows [] ready h = inl (eq-eqb pid pid refl)
but_begun pid rows (p ∷ rest) ready h = h

left_by : (pid : ℕ) (rows : List (ℕ × Pending)) (ready : List ℕ) (p : ℕ) (rest : List ℕ) (b : Bool) → b ≡ false → GoesOr pid rows ready p → GoesBut pid rows (cond b rest (p ∷ less (is_pid pid) rest)) ready
left_by pid rows ready p rest true e h = absurd (cc)
left_by pid rows ready p rest false e h = h

-- its process isn't the first
pub but_left : (pid : ℕ) (rows : List (ℕ × Pending)) (fillers ready : List ℕ) → is_first pid fillers ≡ false → GoesBut pid rows fillers ready → GoesBut pid rows (less (is_pid pid) fillers) ready
but_left pid rows [] ready e h = tt
but_left pid rows (p ∷ rest) ready e h = left_by pid rows ready p rest (p == pid) e h

-- or the next one is woken
pub but_next : (pid first : ℕ) (rows : List (ℕ × Pending)) (ready : List ℕ) → GoesOr pid rows (ready ++ first ∷ []) first
but_next pid first rows ready = inr (inr (any_behind (is_pid first) ready (first ∷ []) (ap (λ (b : Bool). b || false) (eq-eqb first first refl))))
