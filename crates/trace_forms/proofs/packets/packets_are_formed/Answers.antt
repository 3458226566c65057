use Rattle.std.proofs.Common.{◌≡◌, ◌∙◌, suc, ◌+◌, ◌∷◌, [], List, drop, sym, ap, subst, add-one, drop-cons}
use Rattle.std.proofs.lemmas.List.{drop_all}
use Rattle.unix_calls.specs.declared.event.Rec.{Rec}
use Rattle.trace_forms.specs.Facing.{Facing}
use Rattle.trace_forms.specs.Parts.{is_packet_well}
use Rattle.trace_forms.specs.Packets.{TellsPackets}
use Rattle.trace_forms.proofs.FacingLaws.{begins, breaks, goes, ends}
use Rattle.trace_forms.proofs.PacketLaws.{packets_told, packets_on, nothing_told}
use Rattle.trace_forms.proofs.packets.packets_are_formed.Goals as goal

pub loop-rec-init : goal.loop-rec-init
loop-rec-init c =
    let new = c.new-packets.result in
    begins c.args.c.now (λ past r rest. is_packet_well past r.kernel r.event) (λ past rest. TellsPackets new past.records) c.args.trace.now (nothing_told new c.new-packets.ensures.sends c.new-packets.ensures.receivers c.new-packets.ensures.deliveries c.new-packets.ensures.frozen c.new-packets.ensures.issues)

pub returns-then-not-fits : goal.returns-then-not-fits
returns-then-not-fits c =
    let trace = c.args.trace.now in
    let i = c.loop-rec.rec-index in
    let r = c.rec-item.result in
    let d = c.args.c.now in
    let cut : drop i trace ≡ r ∷ drop (i + 1) trace = rw add-one (drop-cons trace i r c.loop-rec-test.true ∙ ap (λ (x : Rec). x ∷ drop (suc i) trace) (sym c.rec-item.is)) in
    let facing = subst (λ (rest : List Rec). Facing d (λ past x more. is_packet_well past x.kernel x.event) (λ past more. TellsPackets c.loop-rec.packets past.records) trace rest) cut c.loop-rec.invariant in
    breaks d (λ past x more. is_packet_well past x.kernel x.event) (λ past more. TellsPackets c.loop-rec.packets past.records) trace (drop (i + 1) trace) r facing (packets_told c.loop-rec.packets facing.past r facing.told ∙ sym c.fits.ensures ∙ c.if-not-fits.true)

pub loop-rec-preserved : goal.loop-rec-preserved
loop-rec-preserved c =
    let trace = c.args.trace.now in
    let i = c.loop-rec.rec-index in
    let r = c.rec-item.result in
    let d = c.args.c.now in
    let cut : drop i trace ≡ r ∷ drop (i + 1) trace = rw add-one (drop-cons trace i r c.loop-rec-test.true ∙ ap (λ (x : Rec). x ∷ drop (suc i) trace) (sym c.rec-item.is)) in
    let facing = subst (λ (rest : List Rec). Facing d (λ past x more. is_packet_well past x.kernel x.event) (λ past more. TellsPackets c.loop-rec.packets past.records) trace rest) cut c.loop-rec.invariant in
    let fits = sym c.fits.ensures ∙ c.if-not-fits.false in
    goes d (λ past x more. is_packet_well past x.kernel x.event) (λ past more. TellsPackets c.loop-rec.packets past.records) (λ past more. TellsPackets c.go_on.new.packets past.records) trace (drop (i + 1) trace) r facing (packets_told c.loop-rec.packets facing.past r facing.told ∙ fits) (packets_on c.loop-rec.packets c.go_on.new.packets facing.past.records r facing.told fits c.in_ok-go_on.ensures)

pub returns : goal.returns
returns c =
    let trace = c.args.trace.now in
    let i = c.loop-rec.rec-index in
    let all : drop i trace ≡ [] = drop_all i trace c.loop-rec-test.false in
    ends c.args.c.now (λ past x more. is_packet_well past x.kernel x.event) (λ past more. TellsPackets c.loop-rec.packets past.records) trace (subst (λ (rest : List Rec). Facing c.args.c.now (λ past x more. is_packet_well past x.kernel x.event) (λ past more. TellsPackets c.loop-rec.packets past.records) trace rest) all c.loop-rec.invariant)
