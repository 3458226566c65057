-- What is kept of one file asks the same of the records that come as the file's watch does, from one record to the next.
use Rattle.std.proofs.Common.{◌≡◌, ◌∙◌, ℕ, ◌==◌, Bool, true, false, cond, not, ◌&&◌, ◌||◌, List, [], ◌∷◌, Option, Some, None, refl, sym, ap, ap₂}
use Rattle.std.specs.Option.{is_some}
use Rattle.std.proofs.lemmas.Bool.{true≢false, or_parts}
use Rattle.sprite_ids.specs.declared.names.FileId.{FileId}
use Rattle.sprite_ids.specs.declared.names.StreamNo.{StreamNo}
use Rattle.unix_calls.specs.declared.description.Description.{Description}
use Rattle.unix_calls.specs.declared.event.Event.{Event}
use Rattle.unix_calls.specs.declared.event.Event.TheVariants as event
use Rattle.unix_calls.specs.declared.event.Rec.{Rec}
use Rattle.unix_calls.specs.declared.state.Stream.{Stream}
use Rattle.call_journal.specs.Past.{Seen, file_stream}
use Rattle.call_journal.specs.Matching.{same_file, is_off, is_stop}
use Rattle.call_journal.specs.Files.{opens_by}
use Rattle.call_journal.specs.Formed.{is_closed_of}
use Rattle.call_journal.specs.Drops.{is_opened_of, is_truncating_event}
use Rattle.call_journal.specs.Sharing.{Watch, is_write_shared, is_sharing, watch_step, is_licensed_on, is_licensed_behind, is_opened_later}
use Rattle.write_sharing.specs.declared.kept.OpenedAt.{OpenedAt}
use Rattle.write_sharing.specs.Kept.{is_open_in, is_shared_in}
use Rattle.write_sharing.specs.Watched.{Fresh, FileKept, opens_for, leaves, truncates_open, licence_for, settled_for, grants_for, stops_for, fresh_behind, file_behind, TellsFile, is_due_in, is_owed_on}
use Rattle.write_sharing.proofs.ToldLaws.{before_shared, after_shared, closes, not_left, cut_told, settled_is, seen_as}

-- ---- words

-- an event asks for a licence of the file
abbrev pub asks : FileId → Event → List Rec → Bool
asks file (event.Grant f to stamp mode) rest = same_file f file && is_off mode
asks file (event.Callback f to stamp kind) rest = same_file f file && (is_stop kind && is_opened_later file rest)
asks file _ rest = false

-- it has it, with the records that come
abbrev pub is_answered : Description → FileId → Watch → Event → List Seen → List Rec → Bool
is_answered c file s e seen rest = not (asks file e rest) || (c.cache == 0 || s.is_licensed || is_licensed_on file s seen)

-- the open before it is paid for
abbrev pub settles : Event → Bool → FileId → FileKept → Bool
settles e truncates file m = not (is_due_in m.fresh) || licence_for e truncates file m.fresh m.opens (opens_for e file m.opens)

-- a licence stands at the record, and at it or behind it
abbrev here : FileKept → FileId → Watch → Event → Bool → Bool
here m file s e truncates =
    is_write_shared s.opens && not (leaves file m.fresh e) || is_sharing file e || truncates_open m.fresh truncates

-- ---- laws of tests

and_true : (b : Bool) → (b && true) ≡ b
and_true true = refl
and_true false = refl

and_false : (b : Bool) → (b && false) ≡ false
and_false true = refl
and_false false = refl

or_true : (b : Bool) → (b || true) ≡ true
or_true true = refl
or_true false = refl

regrouped : (a g d : Bool) → (a && (g && d)) ≡ (d && (a && g))
regrouped true true true = refl
regrouped true true false = refl
regrouped true false true = refl
regrouped true false false = refl
regrouped false g true = refl
regrouped false g false = refl

swapped : (g h : Bool) → (h || g && true) ≡ (g || h && true)
swapped true true = refl
swapped true false = refl
swapped false true = refl
swapped false false = refl

either_way : (g h k : Bool) → ((g || h) ≡ true → k ≡ false) → (h || g) ≡ true → k ≡ false
either_way true h k none is = none refl
either_way false true k none is = none refl
either_way false false k none is = none is

-- ---- who waits before the record, and behind it

quiet_core : (g h later k on behind : Bool) → ((g || h) ≡ true → k ≡ false) → (not (g || h && later) || (k || on)) ≡ ((not (g || h && later) || on) && (not false || behind))
quiet_core true h later true on behind none = absurd (true≢false (none refl))
quiet_core false true later true on behind none = absurd (true≢false (none refl))
quiet_core false false later true on behind none = refl
quiet_core g h later false on behind none = sym (and_true (not (g || h && later) || on))

opened_core : (b g h later k on behind was : Bool) (stream : StreamNo) → ((g || h) ≡ true → k ≡ false) → (not (g || h && (b || later)) || (k || cond b behind on)) ≡ ((not (cond b false g || cond b false h && later) || on) && (not (is_due_in (cond b (Some (record { stream = stream; was_open = was; is_due = g || h })) None)) || behind))
opened_core true true h later true on behind was stream none = absurd (true≢false (none refl))
opened_core true false true later true on behind was stream none = absurd (true≢false (none refl))
opened_core true false false later true on behind was stream none = refl
opened_core true g h later false on behind was stream none = ap (λ x. not (g || x) || behind) (and_true h)
opened_core false g h later k on behind was stream none = quiet_core g h later k on behind none

shared_core : (b g h later x t on behind : Bool) → ((g || h) ≡ true → (x || false || t) ≡ false) → (not (g || h && later) || ((x || b || t) || on)) ≡ ((not (cond b false g || cond b false h && later) || on) && (not false || behind))
shared_core true g h later true t on behind none = or_true (not (g || h && later))
shared_core true g h later false t on behind none = or_true (not (g || h && later))
shared_core false g h later x t on behind none = quiet_core g h later (x || false || t) on behind none

asking : (z l k g h later on behind : Bool) → ((g || h) ≡ true → k ≡ false) → ((z || l || (k || on)) && (not (g || h && later) || (k || on))) ≡ ((not ((not z && not (l || k)) || g || h && later) || on) && (not false || behind))
asking z l true true h later on behind none = absurd (true≢false (none refl))
asking z l true false true later on behind none = absurd (true≢false (none refl))
asking true l true false false later on behind none = refl
asking false true true false false later on behind none = refl
asking false false true false false later on behind none = refl
asking true l false g h later on behind none = sym (and_true (not (g || h && later) || on))
asking false true false g h later on behind none = sym (and_true (not (g || h && later) || on))
asking false false false g h later true behind none = or_true (not (g || h && later))
asking false false false g h later false behind none = refl

grant_core : (b off z l k g h later on behind : Bool) → ((g || h) ≡ true → k ≡ false) → ((not (b && off) || (z || l || (k || on))) && (not (g || h && later) || (k || on))) ≡ ((not (cond b (off && (not z && not (l || k)) || g) g || h && later) || on) && (not false || behind))
grant_core false off z l k g h later on behind none = quiet_core g h later k on behind none
grant_core true false z l k g h later on behind none = quiet_core g h later k on behind none
grant_core true true z l k g h later on behind none = asking z l k g h later on behind none

stop_core : (b stop z l k g h later on behind : Bool) → ((g || h) ≡ true → k ≡ false) → ((not (b && (stop && later)) || (z || l || (k || on))) && (not (g || h && later) || (k || on))) ≡ ((not (g || cond b (stop && (not z && not (l || k)) || h) h && later) || on) && (not false || behind))
stop_core false stop z l k g h later on behind none = quiet_core g h later k on behind none
stop_core true false z l k g h later on behind none = quiet_core g h later k on behind none
stop_core true true z l k g h false on behind none =
    quiet_core g h false k on behind none
    ∙ ap (λ x. (not (g || x) || on) && (not false || behind)) (and_false h ∙ sym (and_false (not z && not (l || k) || h)))
stop_core true true z l k g h true on behind none =
    ap (λ x. (z || l || (k || on)) && (not x || (k || on))) (sym (swapped g h))
    ∙ asking z l k h g true on behind (either_way g h k none)
    ∙ ap (λ x. (not x || on) && (not false || behind)) (swapped g (not z && not (l || k) || h))

-- ---- where someone waits no licence stands

cut_absent : (o : Option Fresh) (truncates : Bool) → is_some o ≡ false → truncates_open o truncates ≡ false
cut_absent None truncates none = refl
cut_absent (Some o) truncates none = absurd (true≢false none)

none_by : (w lv t : Bool) → w ≡ false → t ≡ false → (w && not lv || false || t) ≡ false
none_by true lv t one two = absurd (true≢false one)
none_by false lv t one two = two

none_here : (m : FileKept) (file : FileId) (s : Watch) (called truncates lv : Bool) → TellsFile m file s called → (m.grants || m.stops) ≡ true → (is_write_shared s.opens && not lv || false || truncates_open m.fresh truncates) ≡ false
none_here m file s called truncates lv told waits =
    let parts = or_parts (is_write_shared s.opens) (is_some m.fresh) (told.none_waits waits) in
    none_by (is_write_shared s.opens) lv (truncates_open m.fresh truncates) parts.0 (cut_absent m.fresh truncates parts.1)

-- what was settled, where nothing was closed
settled_by : (lv l w v t : Bool) → lv ≡ false → (l || cond lv v (w || t)) ≡ (l || (w && not lv || false || t))
settled_by true l w v t none = absurd (true≢false none)
settled_by false l true v t none = refl
settled_by false l false v t none = refl

settled_here : (m : FileKept) (file : FileId) (s : Watch) (called truncates : Bool) (e : Event) → TellsFile m file s called → closes e ≡ false → settled_for e truncates file m ≡ (s.is_licensed || (is_write_shared s.opens && not (leaves file m.fresh e) || false || truncates_open m.fresh truncates))
settled_here m file s called truncates e told none =
    settled_is m file s called truncates e told
    ∙ settled_by (leaves file m.fresh e) s.is_licensed (is_write_shared s.opens) (is_write_shared (opens_by file e s.opens)) (truncates_open m.fresh truncates) (not_left m.fresh file e none)

-- ---- one record more

core_next : (c : Description) (m : FileKept) (file : FileId) (s : Watch) (called truncates : Bool) (e : Event) (rest : List Rec) (on behind : Bool) → TellsFile m file s called → ((not (asks file e rest) || (c.cache == 0 || s.is_licensed || (here m file s e truncates || cond (is_opened_of file e) behind on))) && (not (m.grants || m.stops && (is_opened_of file e || is_opened_later file rest)) || (here m file s e truncates || cond (is_opened_of file e) behind on))) ≡ ((not (grants_for c e file (settled_for e truncates file m) m.grants || stops_for c e file (settled_for e truncates file m) m.stops && is_opened_later file rest) || on) && (not (is_due_in (fresh_behind e file m)) || behind))
core_next c m file s called truncates (event.Opened f stream kernel mode) rest on behind told =
    opened_core (same_file f file) m.grants m.stops (is_opened_later file rest) (here m file s (event.Opened f stream kernel mode) truncates) on behind (is_open_in m.opens) stream (none_here m file s called truncates (leaves file m.fresh (event.Opened f stream kernel mode)) told)
core_next c m file s called truncates (event.Shared f stream) rest on behind told =
    shared_core (same_file f file) m.grants m.stops (is_opened_later file rest) (is_write_shared s.opens && not (leaves file m.fresh (event.Shared f stream))) (truncates_open m.fresh truncates) on behind (none_here m file s called truncates (leaves file m.fresh (event.Shared f stream)) told)
core_next c m file s called truncates (event.Grant f to stamp mode) rest on behind told =
    grant_core (same_file f file) (is_off mode) (c.cache == 0) s.is_licensed (here m file s (event.Grant f to stamp mode) truncates) m.grants m.stops (is_opened_later file rest) on behind (none_here m file s called truncates (leaves file m.fresh (event.Grant f to stamp mode)) told)
    ∙ ap (λ x. (not (grants_for c (event.Grant f to stamp mode) file x m.grants || m.stops && is_opened_later file rest) || on) && (not false || behind)) (sym (settled_here m file s called truncates (event.Grant f to stamp mode) told refl))
core_next c m file s called truncates (event.Callback f to stamp kind) rest on behind told =
    stop_core (same_file f file) (is_stop kind) (c.cache == 0) s.is_licensed (here m file s (event.Callback f to stamp kind) truncates) m.grants m.stops (is_opened_later file rest) on behind (none_here m file s called truncates (leaves file m.fresh (event.Callback f to stamp kind)) told)
    ∙ ap (λ x. (not (m.grants || stops_for c (event.Callback f to stamp kind) file x m.stops && is_opened_later file rest) || on) && (not false || behind)) (sym (settled_here m file s called truncates (event.Callback f to stamp kind) told refl))
core_next c m file s called truncates e rest on behind told =
    quiet_core m.grants m.stops (is_opened_later file rest) (here m file s e truncates) on behind (none_here m file s called truncates (leaves file m.fresh e) told)

due_by : (o : Option Fresh) (e : Event) (truncates : Bool) (file : FileId) (before after : List OpenedAt) (w v : Bool) → is_shared_in before ≡ w → is_shared_in after ≡ v → (not (is_due_in o) || cond (leaves file o e) v (w || truncates_open o truncates)) ≡ (not (is_due_in o) || licence_for e truncates file o before after)
due_by None e truncates file before after w v one two = refl
due_by (Some o) e truncates file before after w v one two =
    sym (ap₂ (λ (x y : Bool). not o.is_due || cond (is_closed_of file o.stream e) y (x || o.was_open && truncates)) one two)

pub owed_next : (c : Description) (m : FileKept) (file : FileId) (s : Watch) (called truncates : Bool) (kernel : ℕ) (e : Event) (made : Option Stream) (seen : List Seen) (rest : List Rec) → TellsFile m file s called → truncates ≡ (is_truncating_event e && is_some (file_stream made)) → (is_answered c file s e (seen_as kernel e made ∷ seen) rest && is_owed_on m file s (seen_as kernel e made ∷ seen) (record { kernel = kernel; event = e } ∷ rest)) ≡ (settles e truncates file m && is_owed_on (file_behind c e truncates file m) file (watch_step file [] (seen_as kernel e made) s) seen rest)
owed_next c m file s called truncates kernel e made seen rest told is =
    let next = watch_step file [] (seen_as kernel e made) s in
    let on = is_licensed_on file next seen in
    let behind = is_licensed_behind file next seen in
    let w = is_write_shared s.opens in
    let v = is_write_shared (opens_by file e s.opens) in
    let now = here m file s e truncates || cond (is_opened_of file e) behind on in
    let a = not (asks file e rest) || (c.cache == 0 || s.is_licensed || now) in
    let g = not (m.grants || m.stops && (is_opened_of file e || is_opened_later file rest)) || now in
    ap₂ (λ (lv t : Bool). (not (asks file e rest) || (c.cache == 0 || s.is_licensed || ((w && not lv || is_sharing file e || t) || cond (is_opened_of file e) behind on))) && ((not (m.grants || m.stops && (is_opened_of file e || is_opened_later file rest)) || ((w && not lv || is_sharing file e || t) || cond (is_opened_of file e) behind on)) && (not (is_due_in m.fresh) || cond lv v (w || t)))) (told.leaving_told e) (cut_told m file s called truncates (seen_as kernel e made) told is)
    ∙ ap (λ d. a && (g && d)) (due_by m.fresh e truncates file m.opens (opens_for e file m.opens) w v (before_shared m file s called told) (after_shared e m file s called told))
    ∙ regrouped a g (settles e truncates file m)
    ∙ ap (λ x. settles e truncates file m && x) (core_next c m file s called truncates e rest on behind told)
