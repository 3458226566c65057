-- What descriptors lead to, after one is added or closed, and after a process takes others over or arrives.
use Rattle.std.proofs.Common.{◌≡◌, ℕ, ◌==◌, Bool, true, false, cond, List, [], ◌∷◌, Option, Some, None, refl, sym, ap, ◌∙◌, subst, find, slice_get, slice_set}
use Rattle.std.proofs.lemmas.Bool.{eq-eqb, eqb-true}
use Rattle.sprite_ids.specs.declared.StreamNo.{StreamNo}
use Rattle.sprite_ids.specs.Lists.{put, without}
use Rattle.sprite_ids.proofs.ListLaws.{get_set_other}
use Rattle.sprite_ids.proofs.OnceLaws.{dropped, stays}
use Rattle.stream_table.specs.declared.Carried.{Carried}
use Rattle.stream_table.specs.declared.Stream.{Stream}
use Rattle.stream_table.specs.Owners.{Owner, descriptor, is_owner, is_used, named, numbers_of, numbers_or}
use Rattle.stream_table.specs.Streams.{Table, added, adding, arriving, closed, closing, dupped, dupping, free, numbers_in, with_descriptor}
use Rattle.stream_table.proofs.OwnerLaws.{eq_turned}
use Rattle.stream_table.proofs.ReferLaws.{descriptor_names, free_slot, no_names}

-- each descriptor that is in use leads there still
abbrev pub KeepsDescriptors : List Owner → List Owner → Type 0
KeepsDescriptors owners more = (pid fd : ℕ) (stream : StreamNo) → descriptor owners pid fd ≡ Some stream → descriptor more pid fd ≡ Some stream

-- and so does each of other processes
abbrev pub KeepsOthers : ℕ → List Owner → List Owner → Type 0
KeepsOthers pid owners more = (other fd : ℕ) (stream : StreamNo) → (other == pid) ≡ false → descriptor owners other fd ≡ Some stream → descriptor more other fd ≡ Some stream

-- Owners that are put and taken out

pid_by : (a b c : ℕ) → (a == b) ≡ true → (b == c) ≡ false → (a == c) ≡ false
pid_by a b c same apart = ap (λ (n : ℕ). n == c) (eqb-true a b same) ∙ apart

put_by : (pid other : ℕ) (o x : Owner) (xs : List Owner) (b : Bool) → (x.pid == pid) ≡ b → o.pid ≡ pid → (pid == other) ≡ false → find (is_owner other) (put (is_owner pid) o xs) ≡ find (is_owner other) xs
    → find (is_owner other) (cond b (o ∷ xs) (x ∷ put (is_owner pid) o xs)) ≡ cond (x.pid == other) (Some x) (find (is_owner other) xs)
put_by pid other o x xs true e is apart later =
    ap (λ (c : Bool). cond c (Some o) (find (is_owner other) xs)) (ap (λ (n : ℕ). n == other) is ∙ apart)
    ∙ sym (ap (λ (c : Bool). cond c (Some x) (find (is_owner other) xs)) (pid_by x.pid pid other e apart))
put_by pid other o x xs false e is apart later = ap (λ (rest : Option Owner). cond (x.pid == other) (Some x) rest) later

other_put : (pid other : ℕ) (o : Owner) (xs : List Owner) → o.pid ≡ pid → (pid == other) ≡ false → find (is_owner other) (put (is_owner pid) o xs) ≡ find (is_owner other) xs
other_put pid other o [] is apart = ap (λ (c : Bool). cond c (Some o) None) (ap (λ (n : ℕ). n == other) is ∙ apart)
other_put pid other o (x ∷ xs) is apart = put_by pid other o x xs (x.pid == pid) refl is apart (other_put pid other o xs is apart)

own_by : (pid : ℕ) (o x : Owner) (xs : List Owner) (b : Bool) → (x.pid == pid) ≡ b → o.pid ≡ pid → find (is_owner pid) (put (is_owner pid) o xs) ≡ Some o → find (is_owner pid) (cond b (o ∷ xs) (x ∷ put (is_owner pid) o xs)) ≡ Some o
own_by pid o x xs true e is later = ap (λ (c : Bool). cond c (Some o) (find (is_owner pid) xs)) (eq-eqb o.pid pid is)
own_by pid o x xs false e is later = ap (λ (c : Bool). cond c (Some x) (find (is_owner pid) (put (is_owner pid) o xs))) e ∙ later

pub own_put : (pid : ℕ) (o : Owner) (xs : List Owner) → o.pid ≡ pid → find (is_owner pid) (put (is_owner pid) o xs) ≡ Some o
own_put pid o [] is = ap (λ (c : Bool). cond c (Some o) None) (eq-eqb o.pid pid is)
own_put pid o (x ∷ xs) is = own_by pid o x xs (x.pid == pid) refl is (own_put pid o xs is)

without_by : (pid other : ℕ) (x : Owner) (xs : List Owner) (b : Bool) → (x.pid == pid) ≡ b → (pid == other) ≡ false → find (is_owner other) (without (is_owner pid) xs) ≡ find (is_owner other) xs → find (is_owner other) (without (is_owner pid) (x ∷ xs)) ≡ cond (x.pid == other) (Some x) (find (is_owner other) xs)
without_by pid other x xs true e apart later =
    ap (find (is_owner other)) (dropped (is_owner pid) x xs e) ∙ later ∙ sym (ap (λ (c : Bool). cond c (Some x) (find (is_owner other) xs)) (pid_by x.pid pid other e apart))
without_by pid other x xs false e apart later = ap (find (is_owner other)) (stays (is_owner pid) x xs e) ∙ ap (λ (rest : Option Owner). cond (x.pid == other) (Some x) rest) later

other_without : (pid other : ℕ) (xs : List Owner) → (pid == other) ≡ false → find (is_owner other) (without (is_owner pid) xs) ≡ find (is_owner other) xs
other_without pid other [] apart = refl
other_without pid other (x ∷ xs) apart = without_by pid other x xs (x.pid == pid) refl apart (other_without pid other xs apart)

leads_as : (o p : Option Owner) (fd : ℕ) (stream : StreamNo) → p ≡ o → named (slice_get (numbers_or o) fd) ≡ Some stream → named (slice_get (numbers_or p) fd) ≡ Some stream
leads_as o p fd stream same e = ap (λ (q : Option Owner). named (slice_get (numbers_or q) fd)) same ∙ e

-- Descriptors that are added

slot_by : (numbers : List (Option StreamNo)) (fd slot : ℕ) (n stream : StreamNo) (b : Bool) → (slot == fd) ≡ b → slice_get numbers slot ≡ Some None → named (slice_get numbers fd) ≡ Some stream → named (slice_get (slice_set numbers slot (Some n)) fd) ≡ Some stream
slot_by numbers fd slot n stream true e none leads =
    absurd (let same = eqb-true slot fd e in
    let free_here : named (slice_get numbers fd) ≡ None = sym (ap (λ (k : ℕ). named (slice_get numbers k)) same) ∙ ap named none in
    let both = sym leads ∙ free_here in
    cc)
slot_by numbers fd slot n stream false e none leads = ap named (get_set_other numbers slot fd (Some n) (λ same. absurd (let yes = eq-eqb slot fd same in let both = sym yes ∙ e in cc))) ∙ leads

with_by : (owners : List Owner) (pid slot : ℕ) (n : StreamNo) (other fd : ℕ) (stream : StreamNo) (b : Bool) → (pid == other) ≡ b → free owners pid ≡ Some slot → descriptor owners other fd ≡ Some stream → descriptor (with_descriptor owners pid slot n) other fd ≡ Some stream
with_by owners pid slot n other fd stream false e has leads =
    leads_as (find (is_owner other) owners) (find (is_owner other) (with_descriptor owners pid slot n)) fd stream (other_put pid other (record { pid = pid; numbers = slice_set (numbers_of owners pid) slot (Some n) }) owners refl e) leads
with_by owners pid slot n other fd stream true e has leads =
    subst (λ (q : ℕ). descriptor (with_descriptor owners pid slot n) q fd ≡ Some stream) (eqb-true pid other e)
    (leads_as (Some (record { pid = pid; numbers = slice_set (numbers_of owners pid) slot (Some n) })) (find (is_owner pid) (with_descriptor owners pid slot n)) fd stream (own_put pid (record { pid = pid; numbers = slice_set (numbers_of owners pid) slot (Some n) }) owners refl)
    (slot_by (numbers_of owners pid) fd slot n stream (slot == fd) refl (free_slot (numbers_of owners pid) slot has) (subst (λ (q : ℕ). descriptor owners q fd ≡ Some stream) (sym (eqb-true pid other e)) leads)))

keeps_with : (owners : List Owner) (pid slot : ℕ) (n : StreamNo) → free owners pid ≡ Some slot → KeepsDescriptors owners (with_descriptor owners pid slot n)
keeps_with owners pid slot n has other fd stream leads = with_by owners pid slot n other fd stream (pid == other) refl has leads

keeps_adding : (o : Option ℕ) (table : Table) (pid : ℕ) (n : StreamNo) (stream : Stream) → free table.owners pid ≡ o → KeepsDescriptors table.owners (adding table pid n stream o).owners
keeps_adding (Some slot) table pid n stream e = keeps_with table.owners pid slot n e
keeps_adding None table pid n stream e = λ other fd known leads. leads

pub keeps_added : (table : Table) (pid : ℕ) (n : StreamNo) (stream : Stream) → KeepsDescriptors table.owners (added table pid n stream).owners
keeps_added table pid n stream = keeps_adding (free table.owners pid) table pid n stream refl

keeps_dupping : (o : Option StreamNo) (p : Option ℕ) (owners : List Owner) (pid : ℕ) → free owners pid ≡ p → KeepsDescriptors owners (dupping owners pid o p)
keeps_dupping (Some n) (Some slot) owners pid e = keeps_with owners pid slot n e
keeps_dupping (Some n) None owners pid e = λ other fd known leads. leads
keeps_dupping None p owners pid e = λ other fd known leads. leads

pub keeps_dupped : (table : Table) (pid fd : ℕ) → KeepsDescriptors table.owners (dupped table pid fd).owners
keeps_dupped table pid fd = keeps_dupping (descriptor table.owners pid fd) (free table.owners pid) table.owners pid refl

-- A process without descriptors gets some

new_by : (owners : List Owner) (pid : ℕ) (numbers : List (Option StreamNo)) (other fd : ℕ) (stream : StreamNo) (b : Bool) → (pid == other) ≡ b → is_used (numbers_of owners pid) ≡ false → descriptor owners other fd ≡ Some stream → descriptor (put (is_owner pid) (record { pid = pid; numbers = numbers }) owners) other fd ≡ Some stream
new_by owners pid numbers other fd stream false e none leads =
    leads_as (find (is_owner other) owners) (find (is_owner other) (put (is_owner pid) (record { pid = pid; numbers = numbers }) owners)) fd stream (other_put pid other (record { pid = pid; numbers = numbers }) owners refl e) leads
new_by owners pid numbers other fd stream true e none leads =
    absurd (let mine : descriptor owners pid fd ≡ Some stream = subst (λ (q : ℕ). descriptor owners q fd ≡ Some stream) (sym (eqb-true pid other e)) leads in
    let yes = descriptor_names owners pid fd stream mine in
    let no = no_names stream (numbers_of owners pid) none in
    let both = sym yes ∙ no in
    cc)

keeps_new : (owners : List Owner) (pid : ℕ) (numbers : List (Option StreamNo)) → is_used (numbers_of owners pid) ≡ false → KeepsDescriptors owners (put (is_owner pid) (record { pid = pid; numbers = numbers }) owners)
keeps_new owners pid numbers none other fd stream leads = new_by owners pid numbers other fd stream (pid == other) refl none leads

pub keeps_forked : (owners : List Owner) (parent child : ℕ) → is_used (numbers_of owners child) ≡ false → KeepsDescriptors owners (put (is_owner child) (record { pid = child; numbers = numbers_of owners parent }) owners)
keeps_forked owners parent child none = keeps_new owners child (numbers_of owners parent) none

pub keeps_arriving : (carried : List Carried) (table : Table) (pid : ℕ) → is_used (numbers_of table.owners pid) ≡ false → KeepsDescriptors table.owners (arriving table pid carried).owners
keeps_arriving [] table pid none = λ other fd known leads. leads
keeps_arriving (item ∷ rest) table pid none = keeps_new table.owners pid (numbers_in (item ∷ rest)) none

-- Descriptors that are closed

kept_by : (b : Bool) (owners : List Owner) (pid : ℕ) (numbers : List (Option StreamNo)) → KeepsOthers pid owners (cond b (put (is_owner pid) (record { pid = pid; numbers = numbers }) owners) (without (is_owner pid) owners))
kept_by true owners pid numbers = λ other fd stream apart leads.
    leads_as (find (is_owner other) owners) (find (is_owner other) (put (is_owner pid) (record { pid = pid; numbers = numbers }) owners)) fd stream (other_put pid other (record { pid = pid; numbers = numbers }) owners refl (eq_turned pid other ∙ apart)) leads
kept_by false owners pid numbers = λ other fd stream apart leads.
    leads_as (find (is_owner other) owners) (find (is_owner other) (without (is_owner pid) owners)) fd stream (other_without pid other owners (eq_turned pid other ∙ apart)) leads

others_closing : (o : Option StreamNo) (table : Table) (pid fd : ℕ) → KeepsOthers pid table.owners (closing table pid fd o).owners
others_closing (Some n) table pid fd = kept_by (is_used (slice_set (numbers_of table.owners pid) fd None)) table.owners pid (slice_set (numbers_of table.owners pid) fd None)
others_closing None table pid fd = λ other known stream apart leads. leads

pub others_closed : (table : Table) (pid fd : ℕ) → KeepsOthers pid table.owners (closed table pid fd).owners
others_closed table pid fd = others_closing (descriptor table.owners pid fd) table pid fd
