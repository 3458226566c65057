use Rattle.std.proofs.Common.{◌≡◌, ◌∙◌, ◌≤◌, ◌<◌, suc, ◌+◌, ◌∷◌, [], List, Option, drop, length, sym, ap, subst, add-one, drop-cons, arith}
use Rattle.std.proofs.lemmas.List.{drop_all}
use Rattle.unix_calls.specs.declared.event.Rec.{Rec}
use Rattle.unix_calls.specs.declared.state.Stream.{Stream}
use Rattle.call_journal.specs.Past.{Past}
use Rattle.trace_forms.specs.declared.uses.Last.{Last}
use Rattle.trace_forms.specs.Facing.{Facing}
use Rattle.trace_forms.specs.Parts.{is_use_well}
use Rattle.trace_forms.specs.Uses.{first_opening, last_behind, use_fits, TellsUses}
use Rattle.trace_forms.proofs.FacingLaws.{begins, breaks, goes, ends}
use Rattle.trace_forms.proofs.ListLaws.{tail_drop}
use Rattle.trace_forms.proofs.OpeningLaws.{openings_reach}
use Rattle.trace_forms.proofs.UseLaws.{uses_told, uses_on, fits_there, nothing_used}
use Rattle.trace_forms.proofs.uses.uses_are_formed.Goals as goal

pub loop-place-init : goal.loop-place-init
loop-place-init c =
    let d = c.args.c.now in
    begins d (λ past r rest. is_use_well d past r.kernel r.event rest) (λ past rest. TellsUses d c.none-last.result c.new-streams.result c.args.openings.now past rest) c.args.trace.now (nothing_used d c.none-last.result c.new-streams.result c.args.openings.now c.args.trace.now c.none-last.ensures.granted c.none-last.ensures.shared c.none-last.ensures.shared_before c.new-streams.ensures.opened c.new-streams.ensures.modes c.new-streams.ensures.shared c.new-streams.ensures.opens c.requires)

pub offset_bounds-openings-place : goal.offset_bounds-openings-place
offset_bounds-openings-place c =
    let there = openings_reach c.args.c.now c.args.openings.now c.args.trace.now c.loop-place.place c.requires c.loop-place-test.true in
    omega (arith, there)

pub returns-then-not-fits : goal.returns-then-not-fits
returns-then-not-fits c =
    let trace = c.args.trace.now in
    let openings = c.args.openings.now in
    let i = c.loop-place.place in
    let r = c.index-trace-place.result in
    let d = c.args.c.now in
    let last = c.loop-place.last in
    let streams = c.loop-place.streams in
    let cut : drop i trace ≡ r ∷ drop (i + 1) trace = rw add-one (drop-cons trace i r c.loop-place-test.true ∙ ap (λ (x : Rec). x ∷ drop (suc i) trace) (sym c.index-trace-place.is)) in
    let facing = subst (λ (rest : List Rec). Facing d (λ past x more. is_use_well d past x.kernel x.event more) (λ past more. TellsUses d last streams (drop i openings) past more) trace rest) cut c.loop-place.invariant in
    let fits = fits_there last streams r openings trace i c.first_opening-made.result c.fits.result c.first_opening-made.ensures c.fits.ensures in
    breaks d (λ past x more. is_use_well d past x.kernel x.event more) (λ past more. TellsUses d last streams (drop i openings) past more) trace (drop (i + 1) trace) r facing (uses_told d last streams (drop i openings) facing.past r (drop (i + 1) trace) facing.told ∙ fits ∙ c.if-not-fits.true)

pub loop-place-preserved : goal.loop-place-preserved
loop-place-preserved c =
    let trace = c.args.trace.now in
    let openings = c.args.openings.now in
    let i = c.loop-place.place in
    let r = c.index-trace-place.result in
    let d = c.args.c.now in
    let last = c.loop-place.last in
    let streams = c.loop-place.streams in
    let cut : drop i trace ≡ r ∷ drop (i + 1) trace = rw add-one (drop-cons trace i r c.loop-place-test.true ∙ ap (λ (x : Rec). x ∷ drop (suc i) trace) (sym c.index-trace-place.is)) in
    let facing = subst (λ (rest : List Rec). Facing d (λ past x more. is_use_well d past x.kernel x.event more) (λ past more. TellsUses d last streams (drop i openings) past more) trace rest) cut c.loop-place.invariant in
    let fits = fits_there last streams r openings trace i c.first_opening-made.result c.fits.result c.first_opening-made.ensures c.fits.ensures in
    goes d (λ past x more. is_use_well d past x.kernel x.event more) (λ past more. TellsUses d last streams (drop i openings) past more) (λ past more. TellsUses d c.last_behind-last.result c.keep_streams.new.streams (drop (i + 1) openings) past more) trace (drop (i + 1) trace) r facing (uses_told d last streams (drop i openings) facing.past r (drop (i + 1) trace) facing.told ∙ fits ∙ c.if-not-fits.false) (uses_on d last c.last_behind-last.result streams c.keep_streams.new.streams (drop i openings) (drop (i + 1) openings) facing.past r (drop (i + 1) trace) facing.told c.last_behind-last.ensures c.in_ok-keep_streams.ensures (sym (tail_drop i openings)))

pub returns : goal.returns
returns c =
    let trace = c.args.trace.now in
    let i = c.loop-place.place in
    let d = c.args.c.now in
    let all : drop i trace ≡ [] = drop_all i trace c.loop-place-test.false in
    ends d (λ past x more. is_use_well d past x.kernel x.event more) (λ past more. TellsUses d c.loop-place.last c.loop-place.streams (drop i c.args.openings.now) past more) trace (subst (λ (rest : List Rec). Facing d (λ past x more. is_use_well d past x.kernel x.event more) (λ past more. TellsUses d c.loop-place.last c.loop-place.streams (drop i c.args.openings.now) past more) trace rest) all c.loop-place.invariant)
