use Rattle.std.proofs.Common.{◌≡◌, ◌∙◌, suc, ◌+◌, ◌∷◌, [], List, drop, sym, ap, subst, add-one, drop-cons}
use Rattle.std.proofs.lemmas.List.{drop_all}
use Rattle.unix_calls.specs.declared.event.Rec.{Rec}
use Rattle.call_journal.specs.Past.{Past}
use Rattle.kill_worth.specs.Kills.{TellsKills}
use Rattle.kill_worth.specs.Told.{Listing}
use Rattle.kill_worth.proofs.KillLaws.{kill_is, kills_begin, kills_more}
use Rattle.kill_worth.proofs.ToldLaws.{listing_begins, listing_goes, listing_ends}
use Rattle.kill_worth.proofs.telling.kills_of.Goals as goal

pub loop-rec-init : goal.loop-rec-init
loop-rec-init c =
    listing_begins c.args.c.now (λ (past : Past). TellsKills c.in_ok-state.state past) c.new-kills.result.items c.args.trace.now c.new-kills.ensures.items (kills_begin c.args.c.now c.in_ok-state.state c.in_ok-state.ensures)

pub loop-rec-preserved : goal.loop-rec-preserved
loop-rec-preserved c =
    let trace = c.args.trace.now in
    let i = c.loop-rec.rec-index in
    let r = c.rec-item.result in
    let cut : drop i trace ≡ r ∷ drop (i + 1) trace = rw add-one (drop-cons trace i r c.loop-rec-test.true ∙ ap (λ (x : Rec). x ∷ drop (suc i) trace) (sym c.rec-item.is)) in
    let here = subst (λ (rest : List Rec). Listing c.args.c.now (λ (past : Past). TellsKills c.loop-rec.state past) c.loop-rec.kills.items trace rest) cut c.loop-rec.invariant in
    listing_goes c.args.c.now (λ (past : Past). TellsKills c.loop-rec.state past) (λ (past : Past). TellsKills c.keep_kills.new.kills past) c.loop-rec.kills.items c.put_kill.new.kills.items c.kill_kept-kill.result trace (drop (i + 1) trace) r here c.in_ok-put_kill.ensures (c.kill_kept-kill.ensures ∙ kill_is c.loop-rec.state here.past r.event here.told) (kills_more c.args.c.now c.loop-rec.state c.keep_kills.new.kills here.past r here.told c.in_ok-keep_kills.ensures)

pub returns : goal.returns
returns c =
    let trace = c.args.trace.now in
    let all : drop c.loop-rec.rec-index trace ≡ [] = drop_all c.loop-rec.rec-index trace c.loop-rec-test.false in
    listing_ends c.args.c.now (λ (past : Past). TellsKills c.loop-rec.state past) c.loop-rec.kills.items trace (subst (λ (rest : List Rec). Listing c.args.c.now (λ (past : Past). TellsKills c.loop-rec.state past) c.loop-rec.kills.items trace rest) all c.loop-rec.invariant)
