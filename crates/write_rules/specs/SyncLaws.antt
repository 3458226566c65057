-- What is kept of streams and `sync`s tells what a place looks back on, from one record to the next.
use Rattle.std.proofs.Common.{◌≡◌, ◌∙◌, ℕ, ◌==◌, Bool, true, false, cond, not, ◌&&◌, ◌||◌, List, [], ◌∷◌, ◌++◌, filter, Option, Some, None, refl, sym, ap, ap₂, append_assoc}
use Rattle.std.specs.List.{list_any}
use Rattle.std.specs.Option.{option_map, option_and_then, is_some}
use Rattle.std.proofs.lemmas.List.{append-nil}
use Rattle.std.proofs.lemmas.List.Folds.{list_any-append}
use Rattle.sprite_ids.specs.declared.names.FileId.{FileId}
use Rattle.process_machine.specs.declared.call.Call.TheVariants as call
use Rattle.unix_calls.specs.declared.description.Description.{Description}
use Rattle.unix_calls.specs.declared.event.Event.{Event}
use Rattle.unix_calls.specs.declared.event.Event.TheVariants as event
use Rattle.unix_calls.specs.declared.event.Rec.{Rec}
use Rattle.unix_calls.specs.declared.state.Object.{Object}
use Rattle.unix_calls.specs.declared.state.Object.TheVariants.{OfFile, OfDevice, OfMaster}
use Rattle.unix_calls.specs.declared.state.Process.{Process}
use Rattle.unix_calls.specs.declared.state.Stream.{Stream}
use Rattle.unix_world.specs.declared.World.{World}
use Rattle.call_journal.specs.Past.{Past, Tie, file_stream, holds, is_of_file, some_then, stream_in, tie_at, tie_to, tied, ties_to}
use Rattle.call_journal.specs.Matching.{has_event, is_return, same_file}
use Rattle.call_journal.specs.Calls.{or_else}
use Rattle.call_journal.specs.WriteBacks.{is_sync_of, is_synced}
use Rattle.write_rules.specs.declared.syncs.Pending.{Pending}
use Rattle.write_rules.specs.declared.syncs.Syncs.{Syncs}
use Rattle.trace_rules.specs.Lists.{any_more}
use Rattle.trace_tables.specs.KnownLaws.{stream_told}
use Rattle.write_rules.specs.Syncs.{TellsSyncs, due_behind, due_by, due_of, file_at, file_for, is_due_by, is_due_in, is_file_stream, is_other, made_with, opened_last, opened_where}

-- ---- looking

-- the file of a stream, by what is kept of its place
made_kept : (syncs : Syncs) (past : Past) (o : Option Stream) → ((place : ℕ) → file_at syncs.made.entries place ≡ option_map (λ (tie : Tie). tie.file) (tie_at past.ties place)) → option_and_then (λ (s : Stream). file_at syncs.made.entries s.place) o ≡ option_map (λ (tie : Tie). tie.file) (option_and_then (λ (s : Stream). tie_at past.ties s.place) o)
made_kept syncs past None made = refl
made_kept syncs past (Some s) made = made s.place

file_told : (c : Description) (world : World) (ps : List Process) (syncs : Syncs) (past : Past) (pid fd : ℕ) → TellsSyncs c world ps syncs past → file_for syncs world ps pid fd ≡ option_map (λ (tie : Tie). tie.file) (tied past pid fd)
file_told c world ps syncs past pid fd tells =
    ap (option_and_then (λ (s : Stream). file_at syncs.made.entries s.place)) (stream_told c world ps past pid fd tells.unix)
    ∙ made_kept syncs past (stream_in past pid fd) tells.made

holds_file : (file : FileId) (o : Option Tie) → holds (λ (other : FileId). same_file other file) (option_map (λ (tie : Tie). tie.file) o) ≡ holds (λ (tie : Tie). same_file tie.file file) o
holds_file file None = refl
holds_file file (Some tie) = refl

-- whether a call is a `sync` of the file at the kernel
abbrev due_test : Past → ℕ → FileId → Pending → Bool
due_test past kernel file due = due.kernel == kernel && holds (λ (tie : Tie). same_file tie.file file) (tied past due.pid due.fd)

any_alike : {A : Type 0} (f g : A → Bool) (xs : List A) → ((x : A) → f x ≡ g x) → list_any f xs ≡ list_any g xs
any_alike f g [] same = refl
any_alike f g (x ∷ xs) same = ap₂ (λ a b. a || b) (same x) (any_alike f g xs same)

and_false : (a : Bool) → (a && false) ≡ false
and_false true = refl
and_false false = refl

-- of the records, those whose return is due
one_due : (past : Past) (kernel : ℕ) (file : FileId) (k : ℕ) (e : Event) (rest : List Rec) → (k == kernel && is_sync_of past file e rest) ≡ list_any (due_test past kernel file) (due_by k e rest)
one_due past kernel file k (event.Issue pid number (call.Sync fd)) rest = by (k == kernel) (holds (λ (tie : Tie). same_file tie.file file) (tied past pid fd)) (list_any (has_event (is_return pid number)) rest) refl refl
  where
    by : (a h r : Bool) → (k == kernel) ≡ a → holds (λ (tie : Tie). same_file tie.file file) (tied past pid fd) ≡ h → (a && (h && not r)) ≡ list_any (due_test past kernel file) (cond r [] (record { kernel = k; pid = pid; number = number; fd = fd } ∷ []))
    by a h true here at = ap (λ b. a && b) (and_false h) ∙ and_false a
    by a h false here at = ends a h ∙ ap₂ (λ a h. (a && h) || false) (sym here) (sym at)
      where
        ends : (a h : Bool) → (a && (h && true)) ≡ ((a && h) || false)
        ends true true = refl
        ends true false = refl
        ends false h = refl
one_due past kernel file k (event.Issue pid number call.Fork) rest = and_false (k == kernel)
one_due past kernel file k e rest = and_false (k == kernel)

all_due : (past : Past) (kernel : ℕ) (file : FileId) (rs : List Rec) → some_then (λ (rec : Rec) rest. rec.kernel == kernel && is_sync_of past file rec.event rest) rs ≡ list_any (due_test past kernel file) (due_of rs)
all_due past kernel file [] = refl
all_due past kernel file (rec ∷ rest) =
    ap₂ (λ a b. a || b) (one_due past kernel file rec.kernel rec.event rest) (all_due past kernel file rest)
    ∙ sym (list_any-append (due_test past kernel file) (due_by rec.kernel rec.event rest) (due_of rest))

-- whether a `sync` of a file is due
pub due_told : (c : Description) (world : World) (ps : List Process) (syncs : Syncs) (past : Past) (kernel : ℕ) (file : FileId) → TellsSyncs c world ps syncs past → is_due_in syncs world ps kernel file ≡ is_synced past kernel file
due_told c world ps syncs past kernel file tells =
    any_alike (is_due_by syncs world ps kernel file) (due_test past kernel file) syncs.pending.items (λ due. ap (λ b. due.kernel == kernel && b) (ap (holds (λ (other : FileId). same_file other file)) (file_told c world ps syncs past due.pid due.fd tells) ∙ holds_file file (tied past due.pid due.fd)))
    ∙ ap (list_any (due_test past kernel file)) tells.pending
    ∙ sym (all_due past kernel file past.records)

-- ---- one record more

-- the calls that another record doesn't return
abbrev stays : Rec → Pending → Bool
stays r due = not (is_return due.pid due.number r.event)

filter_both : {A : Type 0} (f : A → Bool) (xs ys : List A) → filter f (xs ++ ys) ≡ filter f xs ++ filter f ys
filter_both f [] ys = refl
filter_both f (x ∷ xs) ys = by (f x) (filter_both f xs ys)
  where
    by : (b : Bool) → filter f (xs ++ ys) ≡ filter f xs ++ filter f ys → cond b (x ∷ filter f (xs ++ ys)) (filter f (xs ++ ys)) ≡ cond b (x ∷ filter f xs) (filter f xs) ++ filter f ys
    by true more = ap (λ zs. x ∷ zs) more
    by false more = more

filter_true : {A : Type 0} (xs : List A) → filter (λ x. true) xs ≡ xs
filter_true [] = refl
filter_true (x ∷ xs) = ap (λ ys. x ∷ ys) (filter_true xs)

one_more : (k : ℕ) (e : Event) (rest : List Rec) (r : Rec) → due_by k e (rest ++ r ∷ []) ≡ filter (stays r) (due_by k e rest)
one_more k (event.Issue pid number (call.Sync fd)) rest r =
    ap (λ b. cond b [] (record { kernel = k; pid = pid; number = number; fd = fd } ∷ [])) (any_more (has_event (is_return pid number)) rest r)
    ∙ by (is_return pid number r.event) (list_any (has_event (is_return pid number)) rest) refl
  where
    by : (a b : Bool) → is_return pid number r.event ≡ a → cond (cond a true b) [] (record { kernel = k; pid = pid; number = number; fd = fd } ∷ []) ≡ filter (stays r) (cond b [] (record { kernel = k; pid = pid; number = number; fd = fd } ∷ []))
    by true true is = refl
    by false true is = refl
    by true false is = sym (ap (λ t. cond (not t) (record { kernel = k; pid = pid; number = number; fd = fd } ∷ []) []) is)
    by false false is = sym (ap (λ t. cond (not t) (record { kernel = k; pid = pid; number = number; fd = fd } ∷ []) []) is)
one_more k (event.Issue pid number call.Fork) rest r = refl
one_more k e rest r = refl

due_grows : (rs : List Rec) (r : Rec) → due_of (rs ++ r ∷ []) ≡ filter (stays r) (due_of rs) ++ due_by r.kernel r.event []
due_grows [] r = append-nil (due_by r.kernel r.event [])
due_grows (x ∷ xs) r =
    ap₂ (λ a b. a ++ b) (one_more x.kernel x.event xs r) (due_grows xs r)
    ∙ sym (append_assoc (filter (stays r) (due_by x.kernel x.event xs)) (filter (stays r) (due_of xs)) (due_by r.kernel r.event []))
    ∙ ap (λ ds. ds ++ due_by r.kernel r.event []) (sym (filter_both (stays r) (due_by x.kernel x.event xs) (due_of xs)))

behind_by : (kernel : ℕ) (e : Event) (ds : List Pending) → filter (λ (due : Pending). not (is_return due.pid due.number e)) ds ++ due_by kernel e [] ≡ due_behind kernel e ds
behind_by kernel (event.Issue pid number (call.Sync fd)) ds = ap (λ xs. xs ++ record { kernel = kernel; pid = pid; number = number; fd = fd } ∷ []) (filter_true ds)
behind_by kernel (event.Issue pid number call.Fork) ds = append-nil (filter (λ due. true) ds) ∙ filter_true ds
behind_by kernel (event.Return pid number reply) ds = append-nil (filter (is_other pid number) ds)
behind_by kernel e ds = append-nil (filter (λ due. true) ds) ∙ filter_true ds

pub due_more : (rs : List Rec) (r : Rec) → due_of (rs ++ r ∷ []) ≡ due_behind r.kernel r.event (due_of rs)
due_more rs r = due_grows rs r ∙ behind_by r.kernel r.event (due_of rs)

-- ---- one entry more

-- the first of two values
or_none : {A : Type 0} (a : Option A) → or_else a None ≡ a
or_none (Some x) = refl
or_none None = refl

or_map : {A B : Type 0} (f : A → B) (a b : Option A) → option_map f (or_else a b) ≡ or_else (option_map f a) (option_map f b)
or_map f (Some x) b = refl
or_map f None b = refl

-- the tie of a place
tie_more : (ties : List Tie) (tie : Tie) (place : ℕ) → tie_at (ties ++ tie ∷ []) place ≡ or_else (tie_at ties place) (cond (tie.place == place) (Some tie) None)
tie_more [] tie place = refl
tie_more (t ∷ ts) tie place = by (t.place == place) (tie_more ts tie place)
  where
    by : (b : Bool) → tie_at (ts ++ tie ∷ []) place ≡ or_else (tie_at ts place) (cond (tie.place == place) (Some tie) None) → cond b (Some t) (tie_at (ts ++ tie ∷ []) place) ≡ or_else (cond b (Some t) (tie_at ts place)) (cond (tie.place == place) (Some tie) None)
    by true more = refl
    by false more = more

one_kept : (b : Bool) (tie : Tie) (before : Option Tie) → option_map (λ (tie : Tie). tie.file) (or_else before (cond b (Some tie) None)) ≡ cond b (or_else (option_map (λ (tie : Tie). tie.file) before) (Some tie.file)) (option_map (λ (tie : Tie). tie.file) before)
one_kept true tie before = or_map (λ (tie : Tie). tie.file) before (Some tie)
one_kept false tie before = ap (option_map (λ (tie : Tie). tie.file)) (or_none before)

nothing_more : (ties : List Tie) (other : ℕ) → option_map (λ (tie : Tie). tie.file) (tie_at (ties ++ []) other) ≡ option_map (λ (tie : Tie). tie.file) (tie_at ties other)
nothing_more ties other = ap (λ (ts : List Tie). option_map (λ (tie : Tie). tie.file) (tie_at ts other)) (append-nil ties)

tied_by_object : (ties : List Tie) (place other : ℕ) (object : Object) (before : Option Event) → option_map (λ (tie : Tie). tie.file) (tie_at (ties ++ tie_to place object before) other) ≡ made_with (opened_where (is_of_file object) (opened_last before)) place other (option_map (λ (tie : Tie). tie.file) (tie_at ties other))
tied_by_object ties place other (OfFile name) (Some (event.Opened file stream kernel mode)) =
    let tie : Tie = record { place = place; name = name; file = file; stream = stream } in
    ap (option_map (λ (tie : Tie). tie.file)) (tie_more ties tie other) ∙ one_kept (place == other) tie (tie_at ties other)
tied_by_object ties place other (OfFile name) None = nothing_more ties other
tied_by_object ties place other (OfFile name) (Some e) = nothing_more ties other
tied_by_object ties place other (OfDevice device) before = nothing_more ties other
tied_by_object ties place other (OfMaster device) before = nothing_more ties other

pub ties_more : (ties : List Tie) (place other : ℕ) (o : Option Stream) (before : Option Event) → option_map (λ (tie : Tie). tie.file) (tie_at (ties ++ ties_to place o before) other) ≡ made_with (opened_where (is_file_stream o) (opened_last before)) place other (option_map (λ (tie : Tie). tie.file) (tie_at ties other))
ties_more ties place other None before = nothing_more ties other
ties_more ties place other (Some s) before = tied_by_object ties place other s.object before

-- whether an entry makes a stream of a file
pub opens_told : (o : Option Stream) → is_some (file_stream o) ≡ is_file_stream o
opens_told None = refl
opens_told (Some stream) = by (is_of_file stream.object)
  where
    by : (b : Bool) → is_some (cond b (Some stream) None) ≡ b
    by true = refl
    by false = refl
