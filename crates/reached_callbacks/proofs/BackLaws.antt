-- The copies of a reply that are in flight go to its caller.
use Rattle.std.proofs.Common.{arith, ◌≡◌, ℕ, ◌+◌, ◌≤◌, ◌==◌, Bool, true, false, cond, List, [], ◌∷◌, ◌++◌, Option, Some, None, refl, sym, ap, subst, ◌∙◌, true≢false}
use Rattle.std.proofs.lemmas.Bool.{eqb-true}
use Rattle.std.specs.List.{AllByRecursion, find}
use Rattle.sprite_ids.specs.declared.TxNo.{TxNo}
use Rattle.sprite_ids.specs.Lists.{changed}
use Rattle.sprite_ids.proofs.ListLaws.{each_append, each_push, each_weaken, some_is}
use Rattle.link_plan.specs.declared.Fate.{Fate}
use Rattle.link_plan.specs.declared.Fate.TheVariants.{Once}
use Rattle.kernel_rpc.specs.Copies.{copies_by, requests}
use Rattle.kernel_rpc.specs.declared.call.Arrival.{Arrival}
use Rattle.kernel_rpc.specs.declared.call.Arrival.TheVariants.{FirstRequest, FirstReply, AskedAgain, Past}
use Rattle.kernel_rpc.specs.declared.call.Call.{Call}
use Rattle.kernel_rpc.specs.declared.call.PacketCopy.{PacketCopy}
use Rattle.kernel_rpc.specs.declared.call.Part.TheVariants.{Holding, Silent}
use Rattle.kernel_rpc.specs.Histories.{reached}
use Rattle.kernel_rpc.specs.Machine.{Machine, answered, arrival, call_of, copy_of, delivered_as, further, gave_up, is_call, is_copy, is_last, landed, new_call, replied, reply_to, request, resent, tried}
use Rattle.kernel_rpc.specs.Runs.{Act, Answer, Begin, Counts, Deliver, Expire, Silence, after, delivered_by, expired_by}
use Rattle.kernel_rpc.specs.Sound.{HasBegun, Wired}
use Rattle.kernel_rpc.proofs.CopyLaws.{each_by, each_request, each_without}
use Rattle.kernel_rpc.proofs.NumberLaws.{changed_same, each_changed}
use Rattle.kernel_rpc.proofs.PartLaws.{eq_same}
use Rattle.kernel_rpc.proofs.RunLaws.{Ordered, ordered_after}
use Rattle.kernel_rpc.proofs.SoundLaws.{found_is, found_sound, found_within}
use Rattle.kernel_rpc.proofs.TryLaws.{each_kept}
use Rattle.unix_calls.specs.declared.Description.{Description}
use Rattle.kernel_steps.specs.declared.Input.{Input}
use Rattle.cluster_wire.specs.declared.Said.{Said}
use Rattle.cluster_kernels.specs.declared.State.{State}
use Rattle.cluster_steps.specs.Steps.{TakesSo}
use Rattle.sprite_cluster.specs.Reached.{At, Reached}
use Rattle.reached_callbacks.specs.Callbacks.{RepliesGoToCallers}
use Rattle.reached_callbacks.proofs.TurnWalk.{Turns, of_reached}

-- where the copy is one of the call's reply, it goes to the caller
abbrev Back : Call → PacketCopy → Type 0
Back call copy = copy.tx.0 ≡ call.tx.0 → copy.reply ≡ true → copy.to ≡ call.from

abbrev AllBack : List PacketCopy → List Call → Type 0
AllBack copies calls = AllByRecursion (λ (call : Call). AllByRecursion (Back call) copies) calls

-- and all copies are of calls that were begun
abbrev FlySo : Machine → Type 0
FlySo machine = AllByRecursion (HasBegun machine.begun) machine.copies × AllBack machine.copies machine.unfinished

-- ---- copies that go out

each_is : {X : Type 0} (P : X → Type 0) → ((x : X) → P x) → (xs : List X) → AllByRecursion P xs
each_is P all [] = tt
each_is P all (x ∷ xs) = (all x, each_is P all xs)

both : (copies more : List PacketCopy) (calls : List Call) → AllBack copies calls → AllBack more calls → AllBack (copies ++ more) calls
both copies more [] h k = tt
both copies more (call ∷ calls) h k = (each_append (Back call) copies more h.0 k.0, both copies more calls h.1 k.1)

-- of a request
asks_back : (packet : PacketCopy) (number : ℕ) (sent : List (ℕ × Fate)) → packet.reply ≡ false → (call : Call) → AllByRecursion (Back call) (requests packet number sent)
asks_back packet number sent off call = each_request (Back call) packet number sent (λ at to late same reply. absurd (true≢false (sym reply ∙ off))) (λ at to same reply. absurd (true≢false (sym reply ∙ off)))

-- of a reply
replied_back : (o : Option Call) (given : Fate) (tx : TxNo) (machine : Machine) → call_of machine tx ≡ o → Ordered machine → FlySo machine → FlySo (replied o given machine)
replied_back None given tx machine there ordered h = h
replied_back (Some call) given tx machine there ordered h =
    let packet : PacketCopy = reply_to call machine.next_copy in
    let more : List PacketCopy = copies_by given packet in
    let low : call.tx.0 ≤ machine.begun = found_within (is_call tx) 0 machine.begun call machine.unfinished ordered there in (
      each_append (HasBegun machine.begun) machine.copies more h.0 (each_by (HasBegun machine.begun) given packet low low low),
      subst (AllBack (machine.copies ++ more)) (changed_same (is_call tx) machine.unfinished)
          (each_changed (λ (one : Call). AllByRecursion (Back one) machine.copies) (λ (one : Call). AllByRecursion (Back one) (machine.copies ++ more)) tx (λ one. one) 0 machine.begun machine.unfinished ordered
          (λ one off k. each_append (Back one) machine.copies more k (each_by (Back one) given packet (other one off) (other one off) (other one off)))
          (λ found e k. each_append (Back found) machine.copies more k (each_by (Back found) given packet (own found e) (own found e) (own found e))) h.1),
    )
  where
    number : call.tx.0 ≡ tx.0
    number = eqb-true call.tx.0 tx.0 (found_is tx call machine.unfinished there)

    other : (one : Call) → is_call tx one ≡ false → call.tx.0 ≡ one.tx.0 → true ≡ true → call.from ≡ one.from
    other one off same reply = absurd (true≢false (sym (ap (λ n. n == tx.0) (sym same ∙ number) ∙ eq_same tx.0) ∙ off))

    own : (found : Call) → call_of machine tx ≡ Some found → call.tx.0 ≡ found.tx.0 → true ≡ true → call.from ≡ found.from
    own found e same reply = ap (λ (one : Call). one.from) (some_is call found (sym there ∙ e))

-- ---- calls of the wire

-- a copy came
landed_back : (copy : PacketCopy) (machine : Machine) → FlySo machine → FlySo (landed copy machine)
landed_back copy machine h = (
  each_without (HasBegun machine.begun) (is_copy copy.number) machine.copies h.0,
  each_weaken (λ (one : Call). AllByRecursion (Back one) machine.copies) (λ (one : Call). AllByRecursion (Back one) (landed copy machine).copies) machine.unfinished (λ one k. each_without (Back one) (is_copy copy.number) machine.copies k) h.1,
)

arrived_back : (a : Arrival) (copy : PacketCopy) (given : Fate) (machine : Machine) → Ordered machine → FlySo machine → FlySo (delivered_as a copy given machine)
arrived_back FirstRequest copy given machine ordered h = (h.0, each_kept (λ (one : Call). AllByRecursion (Back one) machine.copies) (is_call copy.tx) (further copy.to Holding) (λ one k. k) machine.unfinished h.1)
arrived_back FirstReply copy given machine ordered h = (h.0, each_without (λ (one : Call). AllByRecursion (Back one) machine.copies) (is_call copy.tx) machine.unfinished h.1)
arrived_back AskedAgain copy given machine ordered h = replied_back (call_of machine copy.tx) given copy.tx machine refl ordered h
arrived_back Past copy given machine ordered h = h

delivered_back : (o : Option PacketCopy) (given : Fate) (machine : Machine) → Ordered machine → FlySo machine → FlySo (delivered_by o given machine)
delivered_back None given machine ordered h = h
delivered_back (Some copy) given machine ordered h = arrived_back (arrival machine copy) copy given (landed copy machine) ordered (landed_back copy machine h)

-- a timer fires
expired_back : (o : Option Call) (tx : TxNo) (sent : List (ℕ × Fate)) (machine : Machine) → call_of machine tx ≡ o → Ordered machine → FlySo machine → FlySo (expired_by tx o sent machine)
expired_back None tx sent machine there ordered h = h
expired_back (Some call) tx sent machine there ordered h = elim (is_last call) as (λ b. FlySo (cond b (gave_up tx machine) (resent tx (Some call) sent machine))) [ true ↦ (h.0, each_without (λ (one : Call). AllByRecursion (Back one) machine.copies) (is_call tx) machine.unfinished h.1) | false ↦ again ]
  where
    packet : PacketCopy
    packet = request call machine.next_copy call.owner

    more : List PacketCopy
    more = requests packet machine.next_copy sent

    low : call.tx.0 ≤ machine.begun
    low = found_within (is_call tx) 0 machine.begun call machine.unfinished ordered there

    again : FlySo (resent tx (Some call) sent machine)
    again = (
      each_append (HasBegun machine.begun) machine.copies more h.0 (each_request (HasBegun machine.begun) packet machine.next_copy sent (λ number to late. low) (λ number to. low)),
      both machine.copies more (changed (is_call tx) tried machine.unfinished) (each_kept (λ (one : Call). AllByRecursion (Back one) machine.copies) (is_call tx) tried (λ one k. k) machine.unfinished h.1)
          (each_is (λ (one : Call). AllByRecursion (Back one) more) (asks_back packet machine.next_copy sent refl) (changed (is_call tx) tried machine.unfinished)),
    )

-- a call begins
begun_back : (call : Call) (sent : List (ℕ × Fate)) (machine : Machine) → call.tx.0 ≡ machine.begun + 1 → FlySo machine
    → AllByRecursion (HasBegun (machine.begun + 1)) (machine.copies ++ requests (request call machine.next_copy call.owner) machine.next_copy sent) × AllBack (machine.copies ++ requests (request call machine.next_copy call.owner) machine.next_copy sent) (machine.unfinished ++ call ∷ [])
begun_back call sent machine number h =
    let packet : PacketCopy = request call machine.next_copy call.owner in
    let more : List PacketCopy = requests packet machine.next_copy sent in (
      each_append (HasBegun (machine.begun + 1)) machine.copies more
          (each_weaken (HasBegun machine.begun) (HasBegun (machine.begun + 1)) machine.copies (λ copy low. omega (arith, low)) h.0)
          (each_request (HasBegun (machine.begun + 1)) packet machine.next_copy sent (λ at to late. omega (arith, number)) (λ at to. omega (arith, number))),
      each_push (λ (one : Call). AllByRecursion (Back one) (machine.copies ++ more)) machine.unfinished call
          (both machine.copies more machine.unfinished h.1 (each_is (λ (one : Call). AllByRecursion (Back one) more) (asks_back packet machine.next_copy sent refl) machine.unfinished))
          (each_append (Back call) machine.copies more
          (each_weaken (HasBegun machine.begun) (Back call) machine.copies (λ copy low same reply. absurd (omega (arith, low, same, number))) h.0) (asks_back packet machine.next_copy sent refl call)),
    )

after_back : (machine : Machine) (act : Act) → Ordered machine → FlySo machine → FlySo (after machine act)
after_back machine (Begin from port servers owner body tries about before sent) ordered h = begun_back (new_call machine from port servers owner body tries about before) sent machine refl h
after_back machine (Deliver number given) ordered h = delivered_back (copy_of machine number) given machine ordered h
after_back machine (Answer tx body given) ordered h =
    let sent = replied_back (call_of machine tx) given tx machine refl ordered h in
    (sent.0, each_kept (λ (one : Call). AllByRecursion (Back one) (replied (call_of machine tx) given machine).copies) (is_call tx) (answered body) (λ one k. k) (replied (call_of machine tx) given machine).unfinished sent.1)
after_back machine (Silence tx at) ordered h = (h.0, each_kept (λ (one : Call). AllByRecursion (Back one) machine.copies) (is_call tx) (further at Silent) (λ one k. k) machine.unfinished h.1)
after_back machine (Expire tx sent) ordered h = expired_back (call_of machine tx) tx sent machine refl ordered h

-- ---- each reached cluster

abbrev BackSo : Machine → State → Type 0
BackSo machine s = Ordered machine × FlySo machine

run_back : (steps : List (Act × Counts)) (machine : Machine) (s : State) → BackSo machine s → BackSo (reached machine steps) s
run_back [] machine s h = h
run_back (first ∷ rest) machine s h = run_back rest (after machine first.0) s (ordered_after machine first.0 h.0, after_back machine first.0 h.0 h.1)

act_back : (machine : Machine) (act : Act) (s : State) → BackSo machine s → BackSo (after machine act) s
act_back machine act s h = (ordered_after machine act h.0, after_back machine act h.0 h.1)

back_deeds : {L : Type 0} (faults asked : L → ℕ → ℕ → ℕ) (c : Description) (kernel : ℕ) (first : Machine) → Turns faults asked c kernel first BackSo (λ input. BackSo)
back_deeds {L} faults asked c kernel first = record {
  same = λ machine s t e h. h;
  images = λ machine pid image s h. h;
  own = λ input machine s is h. h;
  passes = λ number copy given s flies off h. act_back first (Deliver number given) s h;
  asks = λ number copy call message body s flies goes news there reads says h. act_back first (Deliver number Once) s h;
  asks_none = λ number copy call message body s flies goes news there reads says h. act_back first (Deliver number Once) s h;
  replies = λ number copy call reply message body s flies goes news there told reads says h. act_back first (Deliver number Once) s h;
  replies_none = λ number copy call reply message body s flies goes news there told reads says h. act_back first (Deliver number Once) s h;
  fires = λ tx call sent s there off h. act_back first (Expire tx sent) s h;
  ends = λ tx call s there from is h. act_back first (Expire tx []) s h;
  takes = λ input said old new s t so h. took said input old new s t so h;
  silent = λ machine tx s h. act_back machine (Silence tx kernel) s h;
}
  where
    took : (said : Said) (input : Input) (old new : Wired L) (s t : State) → TakesSo faults asked c kernel input said old new s t → BackSo old.machine s → BackSo new.machine t
    took said input old new s t so h =
        subst (λ (machine : Machine). BackSo machine t) (sym so.goes_out.answers.ran.reaches)
        (run_back so.goes_out.answers.steps so.goes_out.between.machine t (subst (λ (machine : Machine). BackSo machine t) (sym so.goes_out.requests.ran.reaches) (run_back so.goes_out.requests.steps old.machine t h)))

back_reached : {L : Type 0} (faults asked : L → ℕ → ℕ → ℕ) (c : Description) (begun : L) (now : At L) → Reached faults asked c begun now → BackSo now.wire.machine now.state
back_reached {L} faults asked c begun now reached =
    of_reached faults asked c begun BackSo (λ kernel input. BackSo) (λ first b. subst (λ (machine : Machine). BackSo machine first.state) (sym b.idles) (omega arith, (tt, tt)))
    (λ kernel low old before. back_deeds faults asked c kernel old.wire.machine) now reached

pub replies_go : {L : Type 0} (faults asked : L → ℕ → ℕ → ℕ) → RepliesGoToCallers faults asked
replies_go faults asked c begun now number copy call reached flies reply there =
    let machine : Machine = now.wire.machine in
    let back = found_sound (λ (one : Call). AllByRecursion (Back one) machine.copies) (is_call copy.tx) call machine.unfinished there (back_reached faults asked c begun now reached).1.1 in
    copy_sound (Back call) (is_copy number) copy machine.copies flies back (sym (eqb-true call.tx.0 copy.tx.0 (found_is copy.tx call machine.unfinished there))) reply
  where
    copy_sound : (P : PacketCopy → Type 0) (p : PacketCopy → Bool) (copy : PacketCopy) (copies : List PacketCopy) → find p copies ≡ Some copy → AllByRecursion P copies → P copy
    copy_sound P p copy [] e h = absurd (cc)
    copy_sound P p copy (first ∷ rest) e h = by (p first) e (copy_sound P p copy rest)
      where
        by : (b : Bool) → cond b (Some first) (find p rest) ≡ Some copy → (find p rest ≡ Some copy → AllByRecursion P rest → P copy) → P copy
        by true is later = subst P (some_is first copy is) h.0
        by false is later = later is h.1
