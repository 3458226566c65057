-- Records of a trace are counted by the acts of which they tell.
use Rattle.std.proofs.Common.{arith, ◌≡◌, ℕ, ◌+◌, Bool, true, false, cond, List, [], ◌∷◌, Option, Some, None, refl, ap, ◌∙◌, count_by}
use Rattle.std.proofs.lemmas.List.Sums.{sum_by-append, sum_by-cons}
use Rattle.sprite_ids.specs.declared.TxNo.{TxNo}
use Rattle.kernel_rpc.specs.declared.Call.{Call}
use Rattle.kernel_rpc.specs.declared.PacketCopy.{PacketCopy}
use Rattle.kernel_rpc.specs.Histories.{brings, is_request_of, passes, sends_by, times}
use Rattle.kernel_rpc.specs.Machine.{Machine, call_of, copy_of, is_last}
use Rattle.kernel_rpc.specs.Runs.{Act, Begin, Deliver, Answer, Silence, Expire, Counts, after, gives_up, gives_up_by, once_if}
use Rattle.unix_calls.specs.declared.Event.{Event}
use Rattle.unix_calls.specs.declared.Event.TheVariants as events
use Rattle.unix_calls.specs.declared.Rec.{Rec}
use Rattle.cluster_wire.specs.Ran.{told_of}
use Rattle.cluster_choices.specs.Acts.{delivery}
use Rattle.cluster_wire_laws.specs.Orders.{copy_told, firing_told, is_of_wire, of_wire, told_by}
use Rattle.cluster_wire_laws.specs.Told.{is_copy_at, is_packet_of, is_reply_at, sends_again, tells_again, tells_copy, tells_last, tells_packet, tells_reply, tells_request}
use Rattle.cluster_wire_laws.specs.Traces.{records_so}

-- one item more in front
pub first_of : {X : Type 0} (p : X → Bool) (x : X) (xs : List X) → count_by p (x ∷ xs) ≡ once_if (p x) + count_by p xs
first_of p x xs = (let more = sum_by-cons (λ x. cond {A = ℕ} (p x) 1 0) x xs in let one = by_test (p x) in omega arith)
  where
    by_test : (b : Bool) → cond {A = ℕ} b 1 0 ≡ once_if b
    by_test true = refl
    by_test false = refl

first_so : (told : ℕ → Event → Bool) (r : Rec) (trace : List Rec) → records_so told (r ∷ trace) ≡ once_if (told r.kernel r.event) + records_so told trace
first_so told r trace = first_of (λ (r : Rec). told r.kernel r.event) r trace

-- where nothing else is counted, those that tell of copies and timers are all
wire_counts : (told : ℕ → Event → Bool) → ((kernel : ℕ) (e : Event) → is_of_wire e ≡ false → told kernel e ≡ false) → (trace : List Rec) → records_so told trace ≡ records_so told (of_wire trace)
wire_counts told apart [] = refl
wire_counts told apart (r ∷ trace) = by_first (is_of_wire r.event) refl (wire_counts told apart trace)
  where
    by_first : (b : Bool) → is_of_wire r.event ≡ b → records_so told trace ≡ records_so told (of_wire trace) → records_so told (r ∷ trace) ≡ records_so told (cond {A = List Rec} b (r ∷ of_wire trace) (of_wire trace))
    by_first true is rest = (let one = first_so told r trace in let other = first_so told r (of_wire trace) in omega arith)
    by_first false is rest = (let one = first_so told r trace in let none = ap once_if (apart r.kernel r.event is) in omega arith)

-- what is told of a run is counted by its acts
acts_count : (told : ℕ → Event → Bool) (done : Machine → Act → Bool) → ((machine : Machine) (act : Act) → records_so told (told_by machine act) ≡ once_if (done machine act)) → (steps : List (Act × Counts)) (machine : Machine) → records_so told (told_of told_by machine steps) ≡ times done machine steps
acts_count told done each [] machine = refl
acts_count told done each (step ∷ steps) machine =
    (let sum = sum_by-append (λ (r : Rec). cond {A = ℕ} (told r.kernel r.event) 1 0) (told_by machine step.0) (told_of told_by (after machine step.0) steps) in
    let here = each machine step.0 in
    let rest = acts_count told done each steps (after machine step.0) in omega arith)

-- so records are counted by the acts
counted_so : (told : ℕ → Event → Bool) (done : Machine → Act → Bool) → ((kernel : ℕ) (e : Event) → is_of_wire e ≡ false → told kernel e ≡ false) → ((machine : Machine) (act : Act) → records_so told (told_by machine act) ≡ once_if (done machine act)) → (trace : List Rec) (steps : List (Act × Counts)) (machine : Machine) → of_wire trace ≡ told_of told_by machine steps → records_so told trace ≡ times done machine steps
counted_so told done apart each trace steps machine order = wire_counts told apart trace ∙ ap (records_so told) order ∙ acts_count told done each steps machine

one_record : (told : ℕ → Event → Bool) (kernel : ℕ) (e : Event) → records_so told (record { kernel = kernel; event = e } ∷ []) ≡ once_if (told kernel e)
one_record told kernel e = (let one = first_so told (record { kernel = kernel; event = e }) [] in omega arith)

-- copies that pass a test
copy_counts : (told : ℕ → Event → Bool) (p : PacketCopy → Bool) → ((copy : PacketCopy) → told copy.to (delivery copy) ≡ p copy) → (o : Option PacketCopy) → records_so told (copy_told o) ≡ once_if (passes p o)
copy_counts told p same None = refl
copy_counts told p same (Some copy) = one_record told copy.to (delivery copy) ∙ ap once_if (same copy)

firing_none : (told : ℕ → Event → Bool) → ((kernel : ℕ) (tx : TxNo) (last : Bool) → told kernel (events.Expire tx last) ≡ false) → (tx : TxNo) (o : Option Call) → records_so told (firing_told tx o) ≡ 0
firing_none told none tx None = refl
firing_none told none tx (Some call) = one_record told call.from (events.Expire tx (is_last call)) ∙ ap once_if (none call.from tx (is_last call))

copies_count : (told : ℕ → Event → Bool) (p : PacketCopy → Bool) → ((copy : PacketCopy) → told copy.to (delivery copy) ≡ p copy) → ((kernel : ℕ) (tx : TxNo) (last : Bool) → told kernel (events.Expire tx last) ≡ false) → (machine : Machine) (act : Act) → records_so told (told_by machine act) ≡ once_if (brings p machine act)
copies_count told p same none machine (Begin from port servers owner body tries about before sent) = refl
copies_count told p same none machine (Deliver number given) = copy_counts told p same (copy_of machine number)
copies_count told p same none machine (Answer tx body given) = refl
copies_count told p same none machine (Silence tx at) = refl
copies_count told p same none machine (Expire tx sent) = firing_none told none tx (call_of machine tx)

-- timers that fire
copy_none : (told : ℕ → Event → Bool) → ((kernel : ℕ) (copy : PacketCopy) → told kernel (delivery copy) ≡ false) → (o : Option PacketCopy) → records_so told (copy_told o) ≡ 0
copy_none told none None = refl
copy_none told none (Some copy) = one_record told copy.to (delivery copy) ∙ ap once_if (none copy.to copy)

again_counts : (tx : ℕ) (key : TxNo) (o : Option Call) → records_so (tells_again tx) (firing_told key o) ≡ once_if (sends_by tx key o)
again_counts tx key None = refl
again_counts tx key (Some call) = one_record (tells_again tx) call.from (events.Expire key (is_last call))

last_counts : (tx : ℕ) (key : TxNo) (o : Option Call) → records_so (tells_last tx) (firing_told key o) ≡ once_if (gives_up_by tx key o)
last_counts tx key None = refl
last_counts tx key (Some call) = one_record (tells_last tx) call.from (events.Expire key (is_last call))

agains_count : (tx : ℕ) (machine : Machine) (act : Act) → records_so (tells_again tx) (told_by machine act) ≡ once_if (sends_again tx machine act)
agains_count tx machine (Begin from port servers owner body tries about before sent) = refl
agains_count tx machine (Deliver number given) = copy_none (tells_again tx) (λ kernel copy. refl) (copy_of machine number)
agains_count tx machine (Answer key body given) = refl
agains_count tx machine (Silence key at) = refl
agains_count tx machine (Expire key sent) = again_counts tx key (call_of machine key)

lasts_count : (tx : ℕ) (machine : Machine) (act : Act) → records_so (tells_last tx) (told_by machine act) ≡ once_if (gives_up tx machine act)
lasts_count tx machine (Begin from port servers owner body tries about before sent) = refl
lasts_count tx machine (Deliver number given) = copy_none (tells_last tx) (λ kernel copy. refl) (copy_of machine number)
lasts_count tx machine (Answer key body given) = refl
lasts_count tx machine (Silence key at) = refl
lasts_count tx machine (Expire key sent) = last_counts tx key (call_of machine key)

-- nothing else is one of them
no_request : (tx at kernel : ℕ) (e : Event) → is_of_wire e ≡ false → tells_request tx at kernel e ≡ false
no_request tx at kernel (events.Deliver key from reply about) is = absurd (cc)
no_request tx at kernel e is = refl

no_reply : (tx at kernel : ℕ) (e : Event) → is_of_wire e ≡ false → tells_reply tx at kernel e ≡ false
no_reply tx at kernel (events.Deliver key from reply about) is = absurd (cc)
no_reply tx at kernel e is = refl

no_copy : (tx at kernel : ℕ) (e : Event) → is_of_wire e ≡ false → tells_copy tx at kernel e ≡ false
no_copy tx at kernel (events.Deliver key from reply about) is = absurd (cc)
no_copy tx at kernel e is = refl

no_packet : (tx receiver kernel : ℕ) (e : Event) → is_of_wire e ≡ false → tells_packet tx receiver kernel e ≡ false
no_packet tx receiver kernel (events.Deliver key from reply about) is = absurd (cc)
no_packet tx receiver kernel e is = refl

no_again : (tx kernel : ℕ) (e : Event) → is_of_wire e ≡ false → tells_again tx kernel e ≡ false
no_again tx kernel (events.Expire key last) is = absurd (cc)
no_again tx kernel e is = refl

no_last : (tx kernel : ℕ) (e : Event) → is_of_wire e ≡ false → tells_last tx kernel e ≡ false
no_last tx kernel (events.Expire key last) is = absurd (cc)
no_last tx kernel e is = refl

-- what is told of one call
pub requests_so : (tx at : ℕ) (trace : List Rec) (steps : List (Act × Counts)) (machine : Machine) → of_wire trace ≡ told_of told_by machine steps → records_so (tells_request tx at) trace ≡ times (brings (is_request_of tx at)) machine steps
requests_so tx at = counted_so (tells_request tx at) (brings (is_request_of tx at)) (no_request tx at) (copies_count (tells_request tx at) (is_request_of tx at) (λ copy. refl) (λ kernel key last. refl))

pub replies_so : (tx at : ℕ) (trace : List Rec) (steps : List (Act × Counts)) (machine : Machine) → of_wire trace ≡ told_of told_by machine steps → records_so (tells_reply tx at) trace ≡ times (brings (is_reply_at tx at)) machine steps
replies_so tx at = counted_so (tells_reply tx at) (brings (is_reply_at tx at)) (no_reply tx at) (copies_count (tells_reply tx at) (is_reply_at tx at) (λ copy. refl) (λ kernel key last. refl))

pub copies_so : (tx at : ℕ) (trace : List Rec) (steps : List (Act × Counts)) (machine : Machine) → of_wire trace ≡ told_of told_by machine steps → records_so (tells_copy tx at) trace ≡ times (brings (is_copy_at tx at)) machine steps
copies_so tx at = counted_so (tells_copy tx at) (brings (is_copy_at tx at)) (no_copy tx at) (copies_count (tells_copy tx at) (is_copy_at tx at) (λ copy. refl) (λ kernel key last. refl))

pub packets_so : (tx receiver : ℕ) (trace : List Rec) (steps : List (Act × Counts)) (machine : Machine) → of_wire trace ≡ told_of told_by machine steps → records_so (tells_packet tx receiver) trace ≡ times (brings (is_packet_of tx receiver)) machine steps
packets_so tx receiver = counted_so (tells_packet tx receiver) (brings (is_packet_of tx receiver)) (no_packet tx receiver) (copies_count (tells_packet tx receiver) (is_packet_of tx receiver) (λ copy. refl) (λ kernel key last. refl))

pub agains_so : (tx : ℕ) (trace : List Rec) (steps : List (Act × Counts)) (machine : Machine) → of_wire trace ≡ told_of told_by machine steps → records_so (tells_again tx) trace ≡ times (sends_again tx) machine steps
agains_so tx = counted_so (tells_again tx) (sends_again tx) (no_again tx) (agains_count tx)

pub lasts_so : (tx : ℕ) (trace : List Rec) (steps : List (Act × Counts)) (machine : Machine) → of_wire trace ≡ told_of told_by machine steps → records_so (tells_last tx) trace ≡ times (gives_up tx) machine steps
lasts_so tx = counted_so (tells_last tx) (gives_up tx) (no_last tx) (lasts_count tx)
