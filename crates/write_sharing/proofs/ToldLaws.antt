-- What is kept of one file tells of the file's watch, from one record to the next.
use Rattle.std.proofs.Common.{◌≡◌, ◌∙◌, ◌⊎◌, inl, inr, ℕ, ◌==◌, Bool, true, false, cond, not, ◌&&◌, ◌||◌, List, [], ◌∷◌, map, nat_lt, Option, Some, None, refl, sym, ap, ap₂, ⊎_elim}
use Rattle.std.specs.Option.{is_some}
use Rattle.std.proofs.lemmas.Bool.{true≢false, false≢true, and_parts, or_parts, or_from, or_cases, false_from_ne_true}
use Rattle.std.proofs.lemmas.List.{length-map}
use Rattle.sprite_ids.specs.declared.names.FileId.{FileId}
use Rattle.unix_calls.specs.declared.description.Description.{Description}
use Rattle.unix_calls.specs.declared.event.Event.{Event}
use Rattle.unix_calls.specs.declared.event.Event.TheVariants as event
use Rattle.unix_calls.specs.declared.state.Stream.{Stream}
use Rattle.call_journal.specs.Past.{Seen, holds, file_stream, opening_of}
use Rattle.call_journal.specs.Matching.{same_file, same_stream, is_off, is_stop}
use Rattle.call_journal.specs.Files.{OpenStream, without_open, opens_by}
use Rattle.call_journal.specs.Formed.{is_closed_of}
use Rattle.call_journal.specs.Drops.{is_opened_of, is_truncating_event, is_truncated}
use Rattle.call_journal.specs.Sharing.{Watch, is_write_shared, is_leaving, is_sharing, watch_step, called_by}
use Rattle.write_sharing.specs.declared.kept.OpenedAt.{OpenedAt}
use Rattle.write_sharing.specs.Kept.{is_open_in, is_shared_in, called_behind}
use Rattle.write_sharing.specs.Watched.{Fresh, FileKept, opens_for, leaves, truncates_open, licence_for, settled_for, licensed_for, grants_for, stops_for, fresh_behind, file_behind, open_of, is_any_open, TellsFresh, TellsFile}
use Rattle.write_sharing.proofs.SharedLaws.{shared_is, shared_fewer, some_open, shared_open, opens_same}

-- ---- what stands before the record

pub before_shared : (m : FileKept) (file : FileId) (s : Watch) (called : Bool) → TellsFile m file s called → is_shared_in m.opens ≡ is_write_shared s.opens
before_shared m file s called told = shared_is m.opens ∙ ap is_write_shared told.opens_told

pub opens_behind_told : (e : Event) (m : FileKept) (file : FileId) (s : Watch) (called : Bool) → TellsFile m file s called → map open_of (opens_for e file m.opens) ≡ opens_by file e s.opens
opens_behind_told e m file s called told = opens_same e file m.opens ∙ ap (opens_by file e) told.opens_told

pub after_shared : (e : Event) (m : FileKept) (file : FileId) (s : Watch) (called : Bool) → TellsFile m file s called → is_shared_in (opens_for e file m.opens) ≡ is_write_shared (opens_by file e s.opens)
after_shared e m file s called told = shared_is (opens_for e file m.opens) ∙ ap is_write_shared (opens_behind_told e m file s called told)

open_is : (streams : List OpenedAt) (opens : List OpenStream) → map open_of streams ≡ opens → is_open_in streams ≡ is_any_open opens
open_is streams opens is = ap (nat_lt 0) (sym (length-map streams open_of)) ∙ ap is_any_open is

-- an event that closes nothing doesn't leave
abbrev pub closes : Event → Bool
closes (event.Closed f stream kernel mode) = true
closes _ = false

pub not_left : (o : Option Fresh) (file : FileId) (e : Event) → closes e ≡ false → leaves file o e ≡ false
not_left None file e none = refl
not_left (Some o) file (event.Closed f stream kernel mode) none = absurd (true≢false none)
not_left (Some o) file _ none = refl

-- no truncation
pub cut_none : (o : Option Fresh) → truncates_open o false ≡ false
cut_none None = refl
cut_none (Some o) = by o.was_open
  where
    by : (b : Bool) → (b && false) ≡ false
    by true = refl
    by false = refl

-- the truncation of the open that was just told
and_false : (b : Bool) → (b && false) ≡ false
and_false true = refl
and_false false = refl

and_true : (b : Bool) → (b && true) ≡ b
and_true true = refl
and_true false = refl

cut_by : (o : Option Fresh) (s : Watch) (truncates opened : Bool) → TellsFresh o s → opened ≡ is_some o → (s.was_open && (truncates && opened)) ≡ truncates_open o truncates
cut_by None s truncates opened told is =
    ap (λ b. s.was_open && (truncates && b)) is ∙ ap (λ b. s.was_open && b) (and_false truncates) ∙ and_false s.was_open
cut_by (Some o) s truncates opened told is =
    ap (λ b. s.was_open && (truncates && b)) is ∙ ap₂ (λ (a b : Bool). a && b) (sym told.0) (and_true truncates)

pub cut_told : (m : FileKept) (file : FileId) (s : Watch) (called truncates : Bool) (seen : Seen) → TellsFile m file s called → truncates ≡ (is_truncating_event seen.rec.event && is_some (opening_of seen)) → (s.was_open && is_truncated file s.last seen) ≡ truncates_open m.fresh truncates
cut_told m file s called truncates seen told is =
    ap (λ b. s.was_open && (b && holds (is_opened_of file) s.last)) (sym is)
    ∙ cut_by m.fresh s truncates (holds (is_opened_of file) s.last) told.fresh_told told.opening_told

-- ---- the open before is settled

plain : (b : Bool) → (b && true) ≡ (b || false)
plain true = refl
plain false = refl

turned : (x l w : Bool) → (x || (l || w && false)) ≡ (l || x)
turned true true w = refl
turned true false w = refl
turned false true w = refl
turned false false true = refl
turned false false false = refl

settled_by : (o : Option Fresh) (e : Event) (truncates : Bool) (file : FileId) (before after : List OpenedAt) (licensed l w v : Bool) → is_shared_in before ≡ w → is_shared_in after ≡ v → licensed ≡ (l || w && not (is_some o)) → (licence_for e truncates file o before after || licensed) ≡ (l || cond (leaves file o e) v (w || truncates_open o truncates))
settled_by None e truncates file before after licensed l w v one two is = is ∙ ap (λ b. l || b) (plain w)
settled_by (Some o) e truncates file before after licensed l w v one two is =
    ap₂ (λ (x y : Bool). cond (is_closed_of file o.stream e) y (x || o.was_open && truncates) || licensed) one two
    ∙ ap (λ b. cond (is_closed_of file o.stream e) v (w || o.was_open && truncates) || b) is
    ∙ turned (cond (is_closed_of file o.stream e) v (w || o.was_open && truncates)) l w

-- a licence stands behind what was settled
abbrev pub licensed_now : FileKept → FileId → Watch → Event → Bool → Bool
licensed_now m file s e truncates =
    s.is_licensed || cond (leaves file m.fresh e) (is_write_shared (opens_by file e s.opens)) (is_write_shared s.opens || truncates_open m.fresh truncates)

pub settled_is : (m : FileKept) (file : FileId) (s : Watch) (called truncates : Bool) (e : Event) → TellsFile m file s called → settled_for e truncates file m ≡ licensed_now m file s e truncates
settled_is m file s called truncates e told =
    settled_by m.fresh e truncates file m.opens (opens_for e file m.opens) m.licensed s.is_licensed (is_write_shared s.opens) (is_write_shared (opens_by file e s.opens)) (before_shared m file s called told) (after_shared e m file s called told) told.licensed_told

-- the file is open then
cut_open : (o : Option Fresh) (s : Watch) (truncates : Bool) → TellsFresh o s → truncates_open o truncates ≡ true → is_any_open s.opens ≡ true
cut_open None s truncates told h = absurd (false≢true h)
cut_open (Some o) s truncates told h = told.1

licensed_open : (m : FileKept) (file : FileId) (s : Watch) (called truncates : Bool) → TellsFile m file s called → (s.is_licensed || (is_write_shared s.opens || truncates_open m.fresh truncates)) ≡ true → is_any_open s.opens ≡ true
licensed_open m file s called truncates told h =
    ⊎_elim (λ one. told.open_told one) (λ more. ⊎_elim (λ one. shared_open s.opens one) (λ one. cut_open m.fresh s truncates told.fresh_told one) (or_cases (is_write_shared s.opens) (truncates_open m.fresh truncates) more)) (or_cases s.is_licensed (is_write_shared s.opens || truncates_open m.fresh truncates) h)

-- ---- the licence behind the record

other_licensed : (n lv l w v t : Bool) → lv ≡ false → ((l || (w || t)) ≡ true → n ≡ true) → (l || cond lv v (w || t)) ≡ (n && (l || (w && not lv || false || t)) || w && true)
other_licensed n true l w v t none opened = absurd (true≢false none)
other_licensed true false true w v t none opened = refl
other_licensed true false false true v t none opened = refl
other_licensed true false false false v true none opened = refl
other_licensed true false false false v false none opened = refl
other_licensed false false true w v t none opened = absurd (false≢true (opened refl))
other_licensed false false false true v t none opened = absurd (false≢true (opened refl))
other_licensed false false false false v true none opened = absurd (false≢true (opened refl))
other_licensed false false false false v false none opened = refl

opened_licensed : (n lv l w v t : Bool) → lv ≡ false → n ≡ true → (l || cond lv v (w || t)) ≡ (n && (l || (w && not lv || false || t)) || v && false)
opened_licensed n true l w v t none opened = absurd (true≢false none)
opened_licensed false false l w v t none opened = absurd (false≢true opened)
opened_licensed true false true w v t none opened = refl
opened_licensed true false false true v t none opened = refl
opened_licensed true false false false v true none opened = refl
opened_licensed true false false false true false none opened = refl
opened_licensed true false false false false false none opened = refl

opened_by : (b : Bool) (new old : List OpenStream) (o : Fresh) (l lv t : Bool) → is_any_open new ≡ true → lv ≡ false → ((l || (is_write_shared old || t)) ≡ true → is_any_open old ≡ true) → (l || cond lv (is_write_shared (cond b new old)) (is_write_shared old || t)) ≡ (is_any_open (cond b new old) && (l || (is_write_shared old && not lv || false || t)) || is_write_shared (cond b new old) && not (is_some (cond b (Some o) None)))
opened_by true new old o l lv t some none opened = opened_licensed (is_any_open new) lv l (is_write_shared old) (is_write_shared new) t none some
opened_by false new old o l lv t some none opened = other_licensed (is_any_open old) lv l (is_write_shared old) (is_write_shared old) t none opened

closed_licensed : (n lv l w v t : Bool) → t ≡ false → (v ≡ true → n ≡ true) → (v ≡ true → w ≡ true) → (n && (l || cond lv v (w || t))) ≡ (n && (l || (w && not lv || false || t)) || v && true)
closed_licensed n lv l w v true none opened fewer = absurd (true≢false none)
closed_licensed true true true w v false none opened fewer = refl
closed_licensed true true false true true false none opened fewer = refl
closed_licensed true true false true false false none opened fewer = refl
closed_licensed true true false false true false none opened fewer = refl
closed_licensed true true false false false false none opened fewer = refl
closed_licensed true false true w v false none opened fewer = refl
closed_licensed true false false true v false none opened fewer = refl
closed_licensed true false false false true false none opened fewer = absurd (false≢true (fewer refl))
closed_licensed true false false false false false none opened fewer = refl
closed_licensed false lv l w true false none opened fewer = absurd (false≢true (opened refl))
closed_licensed false lv l w false false none opened fewer = refl

closed_by : (b : Bool) (after : List OpenedAt) (less old : List OpenStream) (l lv t : Bool) → is_open_in after ≡ is_any_open (cond b less old) → t ≡ false → (b ≡ false → lv ≡ false) → (is_write_shared less ≡ true → is_write_shared old ≡ true) → ((l || (is_write_shared old || t)) ≡ true → is_any_open old ≡ true) → cond b (is_open_in after && (l || cond lv (is_write_shared (cond b less old)) (is_write_shared old || t))) (l || cond lv (is_write_shared (cond b less old)) (is_write_shared old || t)) ≡ (is_any_open (cond b less old) && (l || (is_write_shared old && not lv || false || t)) || is_write_shared (cond b less old) && true)
closed_by true after less old l lv t is none away fewer opened =
    ap (λ n. n && (l || cond lv (is_write_shared less) (is_write_shared old || t))) is
    ∙ closed_licensed (is_any_open less) lv l (is_write_shared old) (is_write_shared less) t none (shared_open less) fewer
closed_by false after less old l lv t is none away fewer opened = other_licensed (is_any_open old) lv l (is_write_shared old) (is_write_shared old) t (away refl) opened

shared_licensed : (n lv l w v t : Bool) → lv ≡ false → ((l || (w || t)) ≡ true → n ≡ true) → (n || (l || cond lv v (w || t))) ≡ (n && (l || (w && not lv || true || t)) || w && true)
shared_licensed n true l w v t none opened = absurd (true≢false none)
shared_licensed true false true w v t none opened = refl
shared_licensed true false false true v t none opened = refl
shared_licensed true false false false v t none opened = refl
shared_licensed false false true w v t none opened = absurd (false≢true (opened refl))
shared_licensed false false false true v t none opened = absurd (false≢true (opened refl))
shared_licensed false false false false v true none opened = absurd (false≢true (opened refl))
shared_licensed false false false false v false none opened = refl

shared_there : (b : Bool) (after : List OpenedAt) (old : List OpenStream) (l lv t : Bool) → is_open_in after ≡ is_any_open old → lv ≡ false → ((l || (is_write_shared old || t)) ≡ true → is_any_open old ≡ true) → cond b (is_open_in after || (l || cond lv (is_write_shared old) (is_write_shared old || t))) (l || cond lv (is_write_shared old) (is_write_shared old || t)) ≡ (is_any_open old && (l || (is_write_shared old && not lv || b || t)) || is_write_shared old && true)
shared_there true after old l lv t is none opened =
    ap (λ n. n || (l || cond lv (is_write_shared old) (is_write_shared old || t))) is
    ∙ shared_licensed (is_any_open old) lv l (is_write_shared old) (is_write_shared old) t none opened
shared_there false after old l lv t is none opened = other_licensed (is_any_open old) lv l (is_write_shared old) (is_write_shared old) t none opened

away_by : (b x : Bool) → b ≡ false → (b && x) ≡ false
away_by true x is = absurd (true≢false is)
away_by false x is = refl

licensed_next : (m : FileKept) (file : FileId) (s : Watch) (called truncates : Bool) (e : Event) → TellsFile m file s called → (closes e ≡ true → truncates ≡ false) → licensed_for e file (opens_for e file m.opens) (licensed_now m file s e truncates) ≡ (is_any_open (opens_by file e s.opens) && (s.is_licensed || (is_write_shared s.opens && not (leaves file m.fresh e) || is_sharing file e || truncates_open m.fresh truncates)) || is_write_shared (opens_by file e s.opens) && not (is_some (fresh_behind e file m)))
licensed_next m file s called truncates (event.Opened f stream kernel mode) told uncut =
    let one : OpenStream = record { stream = stream; kernel = kernel; mode = mode } in
    opened_by (same_file f file) (one ∷ without_open stream kernel mode s.opens) s.opens (record { stream = stream; was_open = is_open_in m.opens; is_due = m.grants || m.stops }) s.is_licensed (leaves file m.fresh (event.Opened f stream kernel mode)) (truncates_open m.fresh truncates) (some_open one (without_open stream kernel mode s.opens)) (not_left m.fresh file (event.Opened f stream kernel mode) refl) (licensed_open m file s called truncates told)
licensed_next m file s called truncates (event.Closed f stream kernel mode) told uncut =
    closed_by (same_file f file) (opens_for (event.Closed f stream kernel mode) file m.opens) (without_open stream kernel mode s.opens) s.opens s.is_licensed (leaves file m.fresh (event.Closed f stream kernel mode)) (truncates_open m.fresh truncates) (open_is (opens_for (event.Closed f stream kernel mode) file m.opens) (opens_by file (event.Closed f stream kernel mode) s.opens) (opens_behind_told (event.Closed f stream kernel mode) m file s called told)) (ap (truncates_open m.fresh) (uncut refl) ∙ cut_none m.fresh) (by m.fresh) (shared_fewer stream kernel mode s.opens) (licensed_open m file s called truncates told)
  where
    by : (o : Option Fresh) → same_file f file ≡ false → leaves file o (event.Closed f stream kernel mode) ≡ false
    by None is = refl
    by (Some o) is = away_by (same_file f file) (same_stream stream o.stream) is
licensed_next m file s called truncates (event.Shared f stream) told uncut =
    shared_there (same_file f file) m.opens s.opens s.is_licensed (leaves file m.fresh (event.Shared f stream)) (truncates_open m.fresh truncates) (open_is m.opens s.opens told.opens_told) (not_left m.fresh file (event.Shared f stream) refl) (licensed_open m file s called truncates told)
licensed_next m file s called truncates e told uncut = other_licensed (is_any_open s.opens) (leaves file m.fresh e) s.is_licensed (is_write_shared s.opens) (is_write_shared s.opens) (truncates_open m.fresh truncates) (not_left m.fresh file e refl) (licensed_open m file s called truncates told)

-- ---- who waits

-- where no licence stands behind an event that closes nothing, the file isn't shared
not_shared : (m : FileKept) (file : FileId) (s : Watch) (called truncates : Bool) (e : Event) → TellsFile m file s called → closes e ≡ false → settled_for e truncates file m ≡ false → is_write_shared s.opens ≡ false
not_shared m file s called truncates e told none h =
    let w = is_write_shared s.opens in
    let v = is_write_shared (opens_by file e s.opens) in
    let t = truncates_open m.fresh truncates in
    let both : (s.is_licensed || cond (leaves file m.fresh e) v (w || t)) ≡ false = sym (settled_is m file s called truncates e told) ∙ h in
    let more : cond (leaves file m.fresh e) v (w || t) ≡ false = (or_parts s.is_licensed (cond (leaves file m.fresh e) v (w || t)) both).1 in
    (or_parts w t (sym (ap (λ b. cond b v (w || t)) (not_left m.fresh file e none)) ∙ more)).0

grant_asks : (b on z settled g h : Bool) → (cond b (on && (z && not settled) || g) g || h) ≡ true → (settled ≡ false) ⊎ ((g || h) ≡ true)
grant_asks false on z settled g h is = inr is
grant_asks true on z settled true h is = inr refl
grant_asks true on z settled false true is = inr refl
grant_asks true on z false false false is = inl refl
grant_asks true true true true false false is = absurd (false≢true is)
grant_asks true true false true false false is = absurd (false≢true is)
grant_asks true false z true false false is = absurd (false≢true is)

stop_asks : (b on z settled g h : Bool) → (g || cond b (on && (z && not settled) || h) h) ≡ true → (settled ≡ false) ⊎ ((g || h) ≡ true)
stop_asks b on z settled true h is = inr refl
stop_asks false on z settled false h is = inr is
stop_asks true on z settled false true is = inr refl
stop_asks true on z false false false is = inl refl
stop_asks true true true true false false is = absurd (false≢true is)
stop_asks true true false true false false is = absurd (false≢true is)
stop_asks true false z true false false is = absurd (false≢true is)

still_none : (w p : Bool) → (w || p) ≡ false → (w || false) ≡ false
still_none w p none = or_from w false (or_parts w p none).0 refl

none_opened : (b g h : Bool) (new old : List OpenStream) (o : Fresh) (p : Bool) → ((g || h) ≡ true → (is_write_shared old || p) ≡ false) → (cond b false g || cond b false h) ≡ true → (is_write_shared (cond b new old) || is_some (cond b (Some o) None)) ≡ false
none_opened true g h new old o p none waits = absurd (false≢true waits)
none_opened false g h new old o p none waits = still_none (is_write_shared old) p (none waits)

none_closed : (b : Bool) (less old : List OpenStream) (p : Bool) → (is_write_shared less ≡ true → is_write_shared old ≡ true) → (is_write_shared old || p) ≡ false → (is_write_shared (cond b less old) || false) ≡ false
none_closed true less old p fewer none =
    or_from (is_write_shared less) false (false_from_ne_true (is_write_shared less) (λ h. true≢false (sym (fewer h) ∙ (or_parts (is_write_shared old) p none).0))) refl
none_closed false less old p fewer none = still_none (is_write_shared old) p none

none_shared_on : (b g h w p : Bool) → ((g || h) ≡ true → (w || p) ≡ false) → (cond b false g || cond b false h) ≡ true → (w || false) ≡ false
none_shared_on true g h w p none waits = absurd (false≢true waits)
none_shared_on false g h w p none waits = still_none w p (none waits)

none_next : (c : Description) (m : FileKept) (file : FileId) (s : Watch) (called truncates : Bool) (e : Event) → TellsFile m file s called → (grants_for c e file (settled_for e truncates file m) m.grants || stops_for c e file (settled_for e truncates file m) m.stops) ≡ true → (is_write_shared (opens_by file e s.opens) || is_some (fresh_behind e file m)) ≡ false
none_next c m file s called truncates (event.Opened f stream kernel mode) told waits =
    none_opened (same_file f file) m.grants m.stops (record { stream = stream; kernel = kernel; mode = mode } ∷ without_open stream kernel mode s.opens) s.opens (record { stream = stream; was_open = is_open_in m.opens; is_due = m.grants || m.stops }) (is_some m.fresh) told.none_waits waits
none_next c m file s called truncates (event.Closed f stream kernel mode) told waits =
    none_closed (same_file f file) (without_open stream kernel mode s.opens) s.opens (is_some m.fresh) (shared_fewer stream kernel mode s.opens) (told.none_waits waits)
none_next c m file s called truncates (event.Shared f stream) told waits =
    none_shared_on (same_file f file) m.grants m.stops (is_write_shared s.opens) (is_some m.fresh) told.none_waits waits
none_next c m file s called truncates (event.Grant f to stamp mode) told waits =
    let settled = settled_for (event.Grant f to stamp mode) truncates file m in
    ⊎_elim (λ h. or_from (is_write_shared s.opens) false (not_shared m file s called truncates (event.Grant f to stamp mode) told refl h) refl) (λ h. still_none (is_write_shared s.opens) (is_some m.fresh) (told.none_waits h)) (grant_asks (same_file f file) (is_off mode) (not (c.cache == 0)) settled m.grants m.stops waits)
none_next c m file s called truncates (event.Callback f to stamp kind) told waits =
    let settled = settled_for (event.Callback f to stamp kind) truncates file m in
    ⊎_elim (λ h. or_from (is_write_shared s.opens) false (not_shared m file s called truncates (event.Callback f to stamp kind) told refl h) refl) (λ h. still_none (is_write_shared s.opens) (is_some m.fresh) (told.none_waits h)) (stop_asks (same_file f file) (is_stop kind) (not (c.cache == 0)) settled m.grants m.stops waits)
none_next c m file s called truncates e told waits = still_none (is_write_shared s.opens) (is_some m.fresh) (told.none_waits waits)

-- ---- what else is told

some_by : (b : Bool) (o : Fresh) → b ≡ is_some (cond b (Some o) None)
some_by true o = refl
some_by false o = refl

opening_next : (e : Event) (file : FileId) (m : FileKept) → is_opened_of file e ≡ is_some (fresh_behind e file m)
opening_next (event.Opened f stream kernel mode) file m =
    some_by (same_file f file) (record { stream = stream; was_open = is_open_in m.opens; is_due = m.grants || m.stops })
opening_next _ file m = refl

leaves_by : (b : Bool) (o : Fresh) (file : FileId) (e : Event) → (b && is_closed_of file o.stream e) ≡ leaves file (cond b (Some o) None) e
leaves_by true o file e = refl
leaves_by false o file e = refl

leaving_next : (e : Event) (file : FileId) (m : FileKept) (next : Event) → is_leaving file (Some e) next ≡ leaves file (fresh_behind e file m) next
leaving_next (event.Opened f stream kernel mode) file m next =
    leaves_by (same_file f file) (record { stream = stream; was_open = is_open_in m.opens; is_due = m.grants || m.stops }) file next
leaving_next _ file m next = refl

fresh_on : (b : Bool) (new old : List OpenStream) (o : Fresh) (was licensed : Bool) (last : Option Event) → o.was_open ≡ was → is_any_open new ≡ true → TellsFresh (cond b (Some o) None) (record { opens = cond b new old; was_open = was; last = last; is_licensed = licensed })
fresh_on true new old o was licensed last is some = (is, some)
fresh_on false new old o was licensed last is some = tt

called_opened : (b x y : Bool) → x ≡ y → cond (true && b) false x ≡ (not b && y)
called_opened true x y is = refl
called_opened false x y is = is

called_back : (b x y : Bool) → x ≡ y → cond (true && b) true x ≡ (b || y)
called_back true x y is = refl
called_back false x y is = is

called_next : (e : Event) (file : FileId) (x y : Bool) → x ≡ y → called_behind e file x ≡ called_by file e y
called_next (event.Opened f stream kernel mode) file x y is = called_opened (same_file f file) x y is
called_next (event.Callback f to stamp kind) file x y is = called_back (same_file f file) x y is
called_next _ file x y is = is

uncut_by : (e : Event) (x truncates : Bool) → truncates ≡ (is_truncating_event e && x) → closes e ≡ true → truncates ≡ false
uncut_by (event.Closed f stream kernel mode) x truncates is closed = is
uncut_by _ x truncates is closed = absurd (false≢true closed)

-- a record of a kernel, and what it makes
abbrev pub seen_as : ℕ → Event → Option Stream → Seen
seen_as kernel e made = record { rec = record { kernel = kernel; event = e }; made = made }

fresh_next : (m : FileKept) (file : FileId) (s : Watch) (called : Bool) (kernel : ℕ) (e : Event) (made : Option Stream) → TellsFile m file s called → TellsFresh (fresh_behind e file m) (watch_step file [] (seen_as kernel e made) s)
fresh_next m file s called kernel (event.Opened f stream at mode) made told =
    let one : OpenStream = record { stream = stream; kernel = at; mode = mode } in
    fresh_on (same_file f file) (one ∷ without_open stream at mode s.opens) s.opens (record { stream = stream; was_open = is_open_in m.opens; is_due = m.grants || m.stops }) (is_any_open s.opens) (watch_step file [] (seen_as kernel (event.Opened f stream at mode) made) s).is_licensed (Some (event.Opened f stream at mode)) (open_is m.opens s.opens told.opens_told) (some_open one (without_open stream at mode s.opens))
fresh_next m file s called kernel _ made told = tt

pub told_next : (c : Description) (m : FileKept) (file : FileId) (s : Watch) (called truncates : Bool) (kernel : ℕ) (e : Event) (made : Option Stream) → TellsFile m file s called → truncates ≡ (is_truncating_event e && is_some (file_stream made)) → TellsFile (file_behind c e truncates file m) file (watch_step file [] (seen_as kernel e made) s) (called_by file e called)
told_next c m file s called truncates kernel e made told is = record {
  opens_told = opens_behind_told e m file s called told;
  licensed_told =
      ap (licensed_for e file (opens_for e file m.opens)) (settled_is m file s called truncates e told)
      ∙ licensed_next m file s called truncates e told (uncut_by e (is_some (file_stream made)) truncates is)
      ∙ ap₂ (λ (lv t : Bool). is_any_open (opens_by file e s.opens) && (s.is_licensed || (is_write_shared s.opens && not lv || is_sharing file e || t)) || is_write_shared (opens_by file e s.opens) && not (is_some (fresh_behind e file m))) (sym (told.leaving_told e)) (sym (cut_told m file s called truncates (seen_as kernel e made) told is));
  none_waits = none_next c m file s called truncates e told;
  called_told = called_next e file m.called called told.called_told;
  open_told = λ h. (and_parts (is_any_open (opens_by file e s.opens)) (s.is_licensed || (is_write_shared s.opens && not (is_leaving file s.last e) || is_sharing file e || s.was_open && is_truncated file s.last (seen_as kernel e made))) h).0;
  leaving_told = leaving_next e file m;
  opening_told = opening_next e file m;
  fresh_told = fresh_next m file s called kernel e made told;
}
