use Rattle.std.proofs.Common.{◌≡◌, ◌∙◌, suc, ◌+◌, ◌-◌, ◌∷◌, List, drop, refl, sym, ap, subst, add-one, drop-cons}
use Rattle.std.proofs.lemmas.List.{drop_all}
use Rattle.unix_calls.specs.declared.event.Event.{Event}
use Rattle.unix_calls.specs.declared.event.Rec.{Rec}
use Rattle.unix_calls.specs.declared.state.Process.{Process}
use Rattle.unix_world.specs.Among.{Ascending}
use Rattle.unix_world.proofs.BootLaws.{lawful_boots}
use Rattle.trace_walk.specs.declared.walking.Taken.{Taken}
use Rattle.trace_walk.specs.declared.walking.Taken.TheVariants as taken
use Rattle.trace_walk.specs.Walks.{Takes, Walking}
use Rattle.trace_walk.proofs.WalkLaws.{at_entry, begins, ends, entered_not_on, enters_on, far_not_on, is_made, not_made_not_on, passed, passes_on, stops_far, stops_not_made, walking_at}
use Rattle.trace_walk.proofs.walking.walk.Goals as goal
use Rattle.trace_walk.proofs.walking.walk.Goals.{in-On, in-Entered+in_ok-place-in-Entered}

pub boot-requires-clause-starts : goal.boot-requires-clause-starts
boot-requires-clause-starts g c = (lawful_boots c.args.c.now c.requires.lawful).0

pub boot-requires-clause-files : goal.boot-requires-clause-files
boot-requires-clause-files g c = (lawful_boots c.args.c.now c.requires.lawful).1

pub loop-rec-init : goal.loop-rec-init
loop-rec-init g c =
    begins c.args.c.now c.args.most c.args.trace.now (g.W.Watches.tells c.args.c.now c.args.trace.now c.args.watch.now) c.in_ok-world.world c.in_ok-world.processes c.in_ok-world.ensures.state c.in_ok-world.ensures.ascends c.requires.begins

pub see-requires-clause-ascends : goal.see-requires-clause-ascends
see-requires-clause-ascends g c = subst Ascending (sym c.as_slice.ensures) c.loop-rec.invariant.ascends

pub returns-in-NotMade : goal.returns-in-NotMade
returns-in-NotMade g c =
    let d = c.args.c.now in
    let most = c.args.most in
    let trace = c.args.trace.now in
    let i = c.loop-rec.rec-index in
    let rest = drop (i + 1) trace in
    let r = c.rec-item.result in
    let world = c.loop-rec.world in
    let ps = c.loop-rec.processes in
    let cost = c.loop-rec.cost in
    let place = c.loop-rec.place in
    let mid = c.see.new.self in
    let later = c.take.new.world in
    let qs = c.take.new.ps in
    let new = c.take.new.watch in
    let cut : drop i trace ≡ r ∷ rest = rw add-one (drop-cons trace i r c.loop-rec-test.true ∙ ap (λ (x : Rec). x ∷ drop (suc i) trace) (sym c.rec-item.is)) in
    let going = subst (λ (rs : List Rec). Walking d most trace (g.W.Watches.tells d trace c.loop-rec.watch) rs place cost world ps) cut c.loop-rec.invariant in
    let takes = subst (λ (t : Taken). Takes g.W.Watches.heeds d (most - cost) r.event world ps mid t later qs new) c.in-NotMade.is c.in_ok-take.ensures in
    let at = at_entry g.W.Watches.heeds d (most - cost) r.event world ps mid taken.NotMade later qs new not_made_not_on takes in
    let here = subst (λ (e : Event). Walking d most trace (g.W.Watches.tells d trace c.loop-rec.watch) (record { kernel = r.kernel; event = e } ∷ rest) place cost world ps) at.event_is going in
    stops_not_made d most place cost r.kernel trace (g.W.Watches.tells d trace c.loop-rec.watch) rest at.entry world later ps qs here at.takes

pub returns-in-Far : goal.returns-in-Far
returns-in-Far g c =
    let d = c.args.c.now in
    let most = c.args.most in
    let trace = c.args.trace.now in
    let i = c.loop-rec.rec-index in
    let rest = drop (i + 1) trace in
    let r = c.rec-item.result in
    let world = c.loop-rec.world in
    let ps = c.loop-rec.processes in
    let cost = c.loop-rec.cost in
    let place = c.loop-rec.place in
    let mid = c.see.new.self in
    let later = c.take.new.world in
    let qs = c.take.new.ps in
    let new = c.take.new.watch in
    let cut : drop i trace ≡ r ∷ rest = rw add-one (drop-cons trace i r c.loop-rec-test.true ∙ ap (λ (x : Rec). x ∷ drop (suc i) trace) (sym c.rec-item.is)) in
    let going = subst (λ (rs : List Rec). Walking d most trace (g.W.Watches.tells d trace c.loop-rec.watch) rs place cost world ps) cut c.loop-rec.invariant in
    let takes = subst (λ (t : Taken). Takes g.W.Watches.heeds d (most - cost) r.event world ps mid t later qs new) c.in-Far.is c.in_ok-take.ensures in
    let at = at_entry g.W.Watches.heeds d (most - cost) r.event world ps mid taken.Far later qs new far_not_on takes in
    let here = subst (λ (e : Event). Walking d most trace (g.W.Watches.tells d trace c.loop-rec.watch) (record { kernel = r.kernel; event = e } ∷ rest) place cost world ps) at.event_is going in
    stops_far d most place cost r.kernel trace (g.W.Watches.tells d trace c.loop-rec.watch) rest at.entry world later ps qs here at.takes

pub loop-rec-preserved : goal.loop-rec-preserved
loop-rec-preserved g c =
    let d = c.args.c.now in
    let most = c.args.most in
    let trace = c.args.trace.now in
    let i = c.loop-rec.rec-index in
    let rest = drop (i + 1) trace in
    let r = c.rec-item.result in
    let world = c.loop-rec.world in
    let ps = c.loop-rec.processes in
    let cost = c.loop-rec.cost in
    let place = c.loop-rec.place in
    let mid = c.see.new.self in
    let later = c.take.new.world in
    let qs = c.take.new.ps in
    let new = c.take.new.watch in
    let cut : drop i trace ≡ r ∷ rest = rw add-one (drop-cons trace i r c.loop-rec-test.true ∙ ap (λ (x : Rec). x ∷ drop (suc i) trace) (sym c.rec-item.is)) in
    let going = subst (λ (rs : List Rec). Walking d most trace (g.W.Watches.tells d trace c.loop-rec.watch) rs place cost world ps) cut c.loop-rec.invariant in
    let sees = subst (λ (rs : List Process). g.W.Watches.sees d world rs r c.loop-rec.watch mid) c.as_slice.ensures c.in_ok-see.ensures in
    elim c.match-branch-4.branch [
      | in-On w ↦
          let takes = subst (λ (t : Taken). Takes g.W.Watches.heeds d (most - cost) r.event world ps mid t later qs new) w.in-On.is c.in_ok-take.ensures in
          let on = passed g.W.Watches.heeds d (most - cost) r.event world ps mid later qs new takes in
          let told = g.met.W.Watches.passes d trace c.loop-rec.watch mid world ps going.past r rest going.unix going.ascends on.other going.tells sees in
          walking_at d most trace (g.W.Watches.tells d trace) rest place c.match-branch-4.place cost c.match-branch-4.cost world later ps qs mid new w.place-is w.cost-is on.world_stays on.processes_stay on.watch_stays
          (passes_on d most place cost trace (g.W.Watches.tells d trace c.loop-rec.watch) (g.W.Watches.tells d trace mid) rest r world ps going on.other told)
      | in-Entered+in_ok-place-in-Entered w ↦
          let way = w.in-Entered.way in
          let takes = subst (λ (t : Taken). Takes g.W.Watches.heeds d (most - cost) r.event world ps mid t later qs new) w.in-Entered.is c.in_ok-take.ensures in
          let at = at_entry g.W.Watches.heeds d (most - cost) r.event world ps mid (taken.Entered way) later qs new (entered_not_on way) takes in
          let here = subst (λ (e : Event). Walking d most trace (g.W.Watches.tells d trace c.loop-rec.watch) (record { kernel = r.kernel; event = e } ∷ rest) place cost world ps) at.event_is going in
          let seen = subst (λ (e : Event). g.W.Watches.sees d world ps (record { kernel = r.kernel; event = e }) c.loop-rec.watch mid) at.event_is sees in
          let makes = is_made d (most - cost) way world later ps qs at.entry at.takes.0 in
          let told = g.met.W.Watches.goes_in d trace c.loop-rec.watch mid new world later ps qs here.past r.kernel way at.entry rest c.requires.lawful here.unix here.ascends makes here.tells seen at.takes.1 in
          let place_is : c.match-branch-4.place ≡ place + 1 = w.place-is ∙ w.in_ok-place-in-Entered.ensures in
          walking_at d most trace (g.W.Watches.tells d trace) rest (place + 1) c.match-branch-4.place (cost + way) c.match-branch-4.cost later later qs qs new new place_is w.cost-is refl refl refl
          (enters_on d most place cost way r.kernel trace (g.W.Watches.tells d trace c.loop-rec.watch) (g.W.Watches.tells d trace new) rest at.entry world later ps qs here at.takes.0 told)
    ]

pub returns : goal.returns
returns g c =
    let d = c.args.c.now in
    let trace = c.args.trace.now in
    let all = drop_all c.loop-rec.rec-index trace c.loop-rec-test.false in
    ends d c.args.most trace (g.W.Watches.tells d trace c.loop-rec.watch) (record { world = c.loop-rec.world; processes = c.loop-rec.processes; cost = c.loop-rec.cost; place = c.loop-rec.place })
    (subst (λ (rs : List Rec). Walking d c.args.most trace (g.W.Watches.tells d trace c.loop-rec.watch) rs c.loop-rec.place c.loop-rec.cost c.loop-rec.world c.loop-rec.processes) all c.loop-rec.invariant)
