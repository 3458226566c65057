use Rattle.std.proofs.Common.{◌≡◌, ◌∙◌, suc, ◌+◌, ◌∷◌, [], List, Option, None, drop, sym, ap, subst, add-one, drop-cons, arith}
use Rattle.std.proofs.lemmas.List.{drop_all, take_rest}
use Rattle.unix_calls.specs.declared.event.Rec.{Rec}
use Rattle.unix_calls.specs.declared.state.Stream.{Stream}
use Rattle.trace_forms.specs.Facing.{Facing}
use Rattle.trace_forms.specs.Parts.{is_entry_well}
use Rattle.trace_forms.specs.Uses.{first_opening}
use Rattle.trace_forms.specs.Entries.{TellsEntries}
use Rattle.trace_forms.proofs.FacingLaws.{begins, breaks, goes, ends}
use Rattle.trace_forms.proofs.ListLaws.{tail_drop}
use Rattle.trace_forms.proofs.OpeningLaws.{openings_reach}
use Rattle.trace_forms.proofs.EntryLaws.{entries_begin, entries_told, entries_on}
use Rattle.trace_forms.proofs.entries.entries_are_formed.Goals as goal

pub loop-place-init : goal.loop-place-init
loop-place-init c =
    let d = c.args.c.now in
    begins d (λ past r rest. is_entry_well d past r.kernel r.event) (λ past rest. TellsEntries d c.in_ok-places.places.entries c.new-names.result None c.args.openings.now past rest) c.args.trace.now (entries_begin d c.in_ok-places.places.entries c.new-names.result c.args.openings.now c.args.trace.now c.in_ok-places.ensures c.new-names.ensures.names c.new-names.ensures.boots c.new-names.ensures.mades c.requires.openings)

pub offset_bounds-openings-place : goal.offset_bounds-openings-place
offset_bounds-openings-place c =
    let there = openings_reach c.args.c.now c.args.openings.now c.args.trace.now c.loop-place.place c.requires.openings c.loop-place-test.true in
    omega (arith, there)

pub returns-then-not-fits : goal.returns-then-not-fits
returns-then-not-fits c =
    let trace = c.args.trace.now in
    let openings = c.args.openings.now in
    let i = c.loop-place.place in
    let r = c.index-trace-place.result in
    let made = c.first_opening-made.result in
    let made_is : made ≡ first_opening (drop i openings) = c.first_opening-made.ensures ∙ ap first_opening (take_rest openings i) in
    let d = c.args.c.now in
    let places = c.loop-place.places.entries in
    let names = c.loop-place.names in
    let opened = c.loop-place.opened in
    let cut : drop i trace ≡ r ∷ drop (i + 1) trace = rw add-one (drop-cons trace i r c.loop-place-test.true ∙ ap (λ (x : Rec). x ∷ drop (suc i) trace) (sym c.index-trace-place.is)) in
    let facing = subst (λ (rest : List Rec). Facing d (λ past x more. is_entry_well d past x.kernel x.event) (λ past more. TellsEntries d places names opened (drop i openings) past more) trace rest) cut c.loop-place.invariant in
    breaks d (λ past x more. is_entry_well d past x.kernel x.event) (λ past more. TellsEntries d places names opened (drop i openings) past more) trace (drop (i + 1) trace) r facing (entries_told d places names opened (drop i openings) facing.past r (drop (i + 1) trace) made facing.told made_is ∙ sym c.fits.ensures ∙ c.if-not-fits.true)

pub loop-place-preserved : goal.loop-place-preserved
loop-place-preserved c =
    let trace = c.args.trace.now in
    let openings = c.args.openings.now in
    let i = c.loop-place.place in
    let r = c.index-trace-place.result in
    let made = c.first_opening-made.result in
    let made_is : made ≡ first_opening (drop i openings) = c.first_opening-made.ensures ∙ ap first_opening (take_rest openings i) in
    let d = c.args.c.now in
    let places = c.loop-place.places.entries in
    let names = c.loop-place.names in
    let opened = c.loop-place.opened in
    let cut : drop i trace ≡ r ∷ drop (i + 1) trace = rw add-one (drop-cons trace i r c.loop-place-test.true ∙ ap (λ (x : Rec). x ∷ drop (suc i) trace) (sym c.index-trace-place.is)) in
    let facing = subst (λ (rest : List Rec). Facing d (λ past x more. is_entry_well d past x.kernel x.event) (λ past more. TellsEntries d places names opened (drop i openings) past more) trace rest) cut c.loop-place.invariant in
    let fits = sym c.fits.ensures ∙ c.if-not-fits.false in
    goes d (λ past x more. is_entry_well d past x.kernel x.event) (λ past more. TellsEntries d places names opened (drop i openings) past more) (λ past more. TellsEntries d c.keep_place.new.places.entries c.keep_names.new.names c.opened_by-opened.result (drop (i + 1) openings) past more) trace (drop (i + 1) trace) r facing (entries_told d places names opened (drop i openings) facing.past r (drop (i + 1) trace) made facing.told made_is ∙ fits) (entries_on d places c.keep_place.new.places.entries names c.keep_names.new.names opened c.opened_by-opened.result (drop i openings) (drop (i + 1) openings) facing.past r (drop (i + 1) trace) made facing.told made_is fits c.in_ok-keep_place.ensures c.in_ok-keep_names.ensures c.opened_by-opened.ensures (sym (tail_drop i openings)))

pub returns : goal.returns
returns c =
    let trace = c.args.trace.now in
    let i = c.loop-place.place in
    let d = c.args.c.now in
    let all : drop i trace ≡ [] = drop_all i trace c.loop-place-test.false in
    ends d (λ past x more. is_entry_well d past x.kernel x.event) (λ past more. TellsEntries d c.loop-place.places.entries c.loop-place.names c.loop-place.opened (drop i c.args.openings.now) past more) trace (subst (λ (rest : List Rec). Facing d (λ past x more. is_entry_well d past x.kernel x.event) (λ past more. TellsEntries d c.loop-place.places.entries c.loop-place.names c.loop-place.opened (drop i c.args.openings.now) past more) trace rest) all c.loop-place.invariant)
