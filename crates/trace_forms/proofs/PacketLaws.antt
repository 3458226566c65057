-- What is kept of packets tells of the records, from one to the next.
use Rattle.std.proofs.Common.{◌≡◌, ◌∙◌, ℕ, ◌+◌, ◌==◌, Bool, true, false, cond, ◌&&◌, ◌||◌, not, List, [], ◌∷◌, ◌++◌, Option, Some, None, refl, sym, ap, ap₂, subst}
use Rattle.std.specs.List.{list_all, list_any}
use Rattle.std.specs.Cmp.Lexicographic.{pointwise_decides, bytes_decides}
use Rattle.std.proofs.lemmas.Bool.{and_parts, eqb-true, true≢false, false≢true}
use Rattle.unix_calls.specs.declared.description.Description.{Description}
use Rattle.unix_calls.specs.declared.event.About.{About}
use Rattle.unix_calls.specs.declared.event.SendKind.{SendKind}
use Rattle.unix_calls.specs.declared.event.SendKind.TheVariants as send
use Rattle.unix_calls.specs.declared.event.Event.{Event}
use Rattle.unix_calls.specs.declared.event.Event.TheVariants as event
use Rattle.unix_calls.specs.declared.event.Rec.{Rec}
use Rattle.unix_calls.specs.Tree.{same_path}
use Rattle.call_journal.specs.Past.{Past, past_with}
use Rattle.call_journal.specs.Calls.{or_else}
use Rattle.call_journal.specs.Formed.{same_broadcast, is_other_receiver, is_for_a_call, last_issue, issue_number, is_sending, about_agrees, is_told_about, agrees_on, is_delivered_well, was_sent}
use Rattle.call_journal.specs.Matching.{same_about, is_send, is_at, has_event, is_freeze_of}
use Rattle.call_journal.proofs.GrowthLaws.{look_backs_grow}
use Rattle.trace_forms.specs.declared.packets.FirstSend.{FirstSend}
use Rattle.trace_forms.specs.declared.packets.Packets.{Packets}
use Rattle.trace_forms.specs.Parts.{is_packet_well}
use Rattle.trace_forms.specs.Packets.{first_at, has_receiver, delivered_at, has_frozen, issue_at, is_new_with, is_new_receiver, number_or, is_told_in, about_agrees_in, is_sent_with, is_sent_in, is_alike_with, is_from_with, is_found_with, packet_fits, first_behind, receiver_behind, delivered_behind, frozen_behind, issue_behind, KeepsPacket, TellsSends, TellsPackets}
use Rattle.trace_forms.proofs.ListLaws.{any_more, all_more, and_true, and_none, and_self, cond_self, stays}

-- ---- what is the same

kind_is : (a b : SendKind) → same_broadcast a b ≡ true → a ≡ b
kind_is (send.Broadcast p) (send.Broadcast q) h = ap send.Broadcast ((pointwise_decides bytes_decides p q).0 h)
kind_is (send.Broadcast p) (send.Op file) h = absurd (true≢false (sym h))
kind_is (send.Broadcast p) _ h = absurd (true≢false (sym h))
kind_is (send.Op file) _ h = absurd (true≢false (sym h))
kind_is _ _ h = absurd (true≢false (sym h))

about_is : (a b : Option About) → same_about a b ≡ true → a ≡ b
about_is None None h = refl
about_is None (Some b) h = absurd (true≢false (sym h))
about_is (Some a) None h = absurd (true≢false (sym h))
about_is (Some a) (Some b) h =
    let parts = and_parts (a.pid == b.pid) (a.number == b.number) h in
    ap₂ (λ p n. Some (record { pid = p; number = n })) (eqb-true a.pid b.pid parts.0) (eqb-true a.number b.number parts.1)

-- ---- judging

told_told : (p : Packets) (past : Past) (sender : ℕ) (about sent : Option About) → TellsPackets p past.records → is_told_in p sender about sent ≡ is_told_about past sender about sent
told_told p past sender None sent told = refl
told_told p past sender (Some about) (Some sent) told = refl
told_told p past sender (Some about) None told =
    ap₂ (λ b n. b || (about.number == n + 1)) (told.frozen_told sender about.pid) (told.issues_told about.pid)

agrees_told : (p : Packets) (past : Past) (sender : ℕ) (kind : SendKind) (about sent : Option About) → TellsPackets p past.records → about_agrees_in p sender kind about sent ≡ about_agrees past sender kind about sent
agrees_told p past sender (send.Op file) about sent told = refl
agrees_told p past sender send.Other about sent told = told_told p past sender about sent told
agrees_told p past sender _ about sent told = refl

sent_found : (p : Packets) (past : Past) (o : Option FirstSend) (there : Bool) (sender : ℕ) (about : Option About) → TellsPackets p past.records → is_sent_with p o there sender about ≡ is_found_with past o there sender about
sent_found p past None there sender about told = refl
sent_found p past (Some f) there sender about told =
    ap (λ b. f.kernel == sender && there && b) (agrees_told p past sender f.kind about f.about told)

was_told : (p : Packets) (past : Past) (sender tx to : ℕ) (about : Option About) → TellsPackets p past.records → is_sent_in p sender tx to about ≡ was_sent past sender tx to about
was_told p past sender tx to about told =
    sent_found p past (first_at p.sends.entries tx) (has_receiver p.receivers.keys tx to) sender about told
    ∙ told.sends.found_told past sender tx to about

delivery_told : (p : Packets) (past : Past) (kernel tx from : ℕ) (reply : Bool) (about : Option About) → TellsPackets p past.records → (cond reply (is_sent_in p kernel tx from about) (is_sent_in p from tx kernel about) && is_alike_with (delivered_at p.deliveries.entries tx) about) ≡ is_delivered_well past kernel tx from reply about
delivery_told p past kernel tx from true about told = ap₂ (λ a b. a && b) (was_told p past kernel tx from about told) (told.delivered_told tx about)
delivery_told p past kernel tx from false about told = ap₂ (λ a b. a && b) (was_told p past from tx kernel about told) (told.delivered_told tx about)

told_of : (p : Packets) (past : Past) (kernel : ℕ) (e : Event) → TellsPackets p past.records → is_packet_well past kernel e ≡ packet_fits p kernel e
told_of p past kernel (event.Send tx to about kind) told = ap (λ b. is_for_a_call kind about && b) (sym (told.sends.new_told kernel tx.0 to about kind))
told_of p past kernel (event.Deliver tx from reply about) told = sym (delivery_told p past kernel tx.0 from reply about told)
told_of p past kernel (event.Expire tx last) told = sym (told.sends.from_told kernel tx.0)
told_of p past kernel (event.Fault a b met) told = refl
told_of p past kernel _ told = refl

-- a record is judged by what is kept
pub packets_told : (p : Packets) (past : Past) (rec : Rec) → TellsPackets p past.records → is_packet_well past rec.kernel rec.event ≡ packet_fits p rec.kernel rec.event
packets_told p past rec told = told_of p past rec.kernel rec.event told

-- ---- one record more: sends

-- the first send of a number was alike
record IsLike (f : FirstSend) (kernel : ℕ) (about : Option About) (kind : SendKind) : Type 0 where
  pub kernel_is : f.kernel ≡ kernel
  pub about_is : about ≡ f.about
  pub kind_is : kind ≡ f.kind

is_like : (f : FirstSend) (there : Bool) (kernel : ℕ) (about : Option About) (kind : SendKind) → is_new_with (Some f) there kernel about kind ≡ true → IsLike f kernel about kind
is_like f there kernel about kind h =
    let one = and_parts (f.kernel == kernel && not there && same_broadcast kind f.kind) (same_about about f.about) h in
    let two = and_parts (f.kernel == kernel && not there) (same_broadcast kind f.kind) one.0 in
    let three = and_parts (f.kernel == kernel) (not there) two.0 in
    record {
      kernel_is = eqb-true f.kernel kernel three.0;
      about_is = about_is about f.about one.1;
      kind_is = kind_is kind f.kind two.1;
    }

-- who sent it
from_same : (k kernel : ℕ) (o : Option FirstSend) (there : Bool) (about : Option About) (kind : SendKind) → is_new_with o there k about kind ≡ true → is_from_with (or_else o (Some (record { kernel = k; about = about; kind = kind }))) kernel ≡ cond (k == kernel && true) true (is_from_with o kernel)
from_same k kernel None there about kind fits = sym (ap (λ b. cond b true false) (and_true (k == kernel)) ∙ cond_self (k == kernel))
from_same k kernel (Some f) there about kind fits =
    let like = is_like f there k about kind fits in
    subst (λ (n : ℕ). (f.kernel == kernel) ≡ cond (n == kernel && true) true (f.kernel == kernel)) like.kernel_is (by (f.kernel == kernel))
  where
    by : (b : Bool) → b ≡ cond (b && true) true b
    by true = refl
    by false = refl

from_send : (here : Bool) (k kernel : ℕ) (o : Option FirstSend) (there : Bool) (about : Option About) (kind : SendKind) → (here ≡ true → is_new_with o there k about kind ≡ true) → is_from_with (cond here (or_else o (Some (record { kernel = k; about = about; kind = kind }))) o) kernel ≡ cond (k == kernel && here) true (is_from_with o kernel)
from_send true k kernel o there about kind fits = from_same k kernel o there about kind (fits refl)
from_send false k kernel o there about kind fits = stays (k == kernel) (is_from_with o kernel)

-- a send of a number fits at that number
fits_there : (p : Packets) (kernel t tx to : ℕ) (about : Option About) (kind : SendKind) → (is_for_a_call kind about && is_new_receiver p kernel t to about kind) ≡ true → (t == tx) ≡ true → is_new_with (first_at p.sends.entries tx) (has_receiver p.receivers.keys tx to) kernel about kind ≡ true
fits_there p kernel t tx to about kind fits e =
    subst (λ (n : ℕ). is_new_receiver p kernel n to about kind ≡ true) (eqb-true t tx e) (and_parts (is_for_a_call kind about) (is_new_receiver p kernel t to about kind) fits).1

from_on : (p : Packets) (k : ℕ) (e : Event) (tx kernel : ℕ) → packet_fits p k e ≡ true → is_from_with (first_behind k e tx (first_at p.sends.entries tx)) kernel ≡ cond (k == kernel && is_send tx e) true (is_from_with (first_at p.sends.entries tx) kernel)
from_on p k (event.Send t s about kind) tx kernel fits = from_send (t.0 == tx) k kernel (first_at p.sends.entries tx) (has_receiver p.receivers.keys tx s) about kind (fits_there p k t.0 tx s about kind fits)
from_on p k _ tx kernel fits = stays (k == kernel) (is_from_with (first_at p.sends.entries tx) kernel)

-- which sends are new
both_new : (x e there y z : Bool) → (x && not (cond e true there) && y && z) ≡ ((x && not there && y && z) && (x && not e && y && z))
both_new false e there y z = refl
both_new true true true y z = refl
both_new true false true y z = refl
both_new true true false y z = sym (and_none (y && z))
both_new true false false y z = and_self (y && z)

first_new : (x e there y z : Bool) → there ≡ false → (x && not (cond e true there) && y && z) ≡ (x && not e && y && z)
first_new x e there y z none = ap (λ b. x && not b && y && z) (ap (λ b. cond e true b) none ∙ cond_self e)

new_same : (k kernel : ℕ) (o : Option FirstSend) (there was e : Bool) (about sent : Option About) (kind way : SendKind) → is_new_with o was k sent way ≡ true → (o ≡ None → there ≡ false) → is_new_with (or_else o (Some (record { kernel = k; about = sent; kind = way }))) (cond e true there) kernel about kind ≡ (is_new_with o there kernel about kind && (k == kernel && not e && same_broadcast kind way && same_about about sent))
new_same k kernel None there was e about sent kind way fits none = first_new (k == kernel) e there (same_broadcast kind way) (same_about about sent) (none refl)
new_same k kernel (Some f) there was e about sent kind way fits none =
    let like = is_like f was k sent way fits in
    both_new (f.kernel == kernel) e there (same_broadcast kind f.kind) (same_about about f.about)
    ∙ ap (λ n. (f.kernel == kernel && not there && same_broadcast kind f.kind && same_about about f.about) && (n == kernel && not e && same_broadcast kind f.kind && same_about about f.about)) like.kernel_is
    ∙ sym (ap₂ (λ s t. (f.kernel == kernel && not there && same_broadcast kind f.kind && same_about about f.about) && (k == kernel && not e && same_broadcast kind s && same_about about t)) like.kind_is like.about_is)

new_send : (here : Bool) (k kernel : ℕ) (o : Option FirstSend) (there was e : Bool) (about sent : Option About) (kind way : SendKind) → (here ≡ true → is_new_with o was k sent way ≡ true) → (o ≡ None → there ≡ false) → is_new_with (cond here (or_else o (Some (record { kernel = k; about = sent; kind = way }))) o) (cond (here && e) true there) kernel about kind ≡ (is_new_with o there kernel about kind && cond here (k == kernel && not e && same_broadcast kind way && same_about about sent) true)
new_send true k kernel o there was e about sent kind way fits none = new_same k kernel o there was e about sent kind way (fits refl) none
new_send false k kernel o there was e about sent kind way fits none = sym (and_true (is_new_with o there kernel about kind))

new_on : (p : Packets) (k : ℕ) (e : Event) (kernel tx to : ℕ) (about : Option About) (kind : SendKind) → packet_fits p k e ≡ true → (first_at p.sends.entries tx ≡ None → has_receiver p.receivers.keys tx to ≡ false) → is_new_with (first_behind k e tx (first_at p.sends.entries tx)) (receiver_behind e tx to (has_receiver p.receivers.keys tx to)) kernel about kind ≡ (is_new_receiver p kernel tx to about kind && is_other_receiver kernel tx to about kind k e)
new_on p k (event.Send t s sent way) kernel tx to about kind fits none =
    new_send (t.0 == tx) k kernel (first_at p.sends.entries tx) (has_receiver p.receivers.keys tx to) (has_receiver p.receivers.keys tx s) (s == to) about sent kind way (fits_there p k t.0 tx s sent way fits) none
new_on p k _ kernel tx to about kind fits none = sym (and_true (is_new_receiver p kernel tx to about kind))

-- which deliveries were sent
both_found : (x e there g : Bool) → (x && cond e true there && g) ≡ cond (x && (e && g)) true (x && there && g)
both_found false e there g = refl
both_found true true true g = sym (by g)
  where
    by : (b : Bool) → cond b true b ≡ b
    by true = refl
    by false = refl
both_found true true false g = sym (cond_self g)
both_found true false there g = refl

first_found : (x e there g : Bool) → there ≡ false → (x && cond e true there && g) ≡ cond (x && (e && g)) true false
first_found x e there g none =
    ap (λ b. x && b && g) (ap (λ b. cond e true b) none ∙ cond_self e) ∙ by x ∙ sym (cond_self (x && (e && g)))
  where
    by : (b : Bool) → (b && e && g) ≡ (b && (e && g))
    by true = refl
    by false = refl

found_same : (past : Past) (k sender : ℕ) (o : Option FirstSend) (there was e : Bool) (about sent : Option About) (way : SendKind) → is_new_with o was k sent way ≡ true → (o ≡ None → there ≡ false) → is_found_with past (or_else o (Some (record { kernel = k; about = sent; kind = way }))) (cond e true there) sender about ≡ cond (k == sender && (e && about_agrees past sender way about sent)) true (is_found_with past o there sender about)
found_same past k sender None there was e about sent way fits none = first_found (k == sender) e there (about_agrees past sender way about sent) (none refl)
found_same past k sender (Some f) there was e about sent way fits none =
    let like = is_like f was k sent way fits in
    both_found (f.kernel == sender) e there (about_agrees past sender f.kind about f.about)
    ∙ ap (λ n. cond (n == sender && (e && about_agrees past sender f.kind about f.about)) true (f.kernel == sender && there && about_agrees past sender f.kind about f.about)) like.kernel_is
    ∙ sym (ap₂ (λ s t. cond (k == sender && (e && about_agrees past sender s about t)) true (f.kernel == sender && there && about_agrees past sender f.kind about f.about)) like.kind_is like.about_is)

found_send : (past : Past) (here : Bool) (k sender : ℕ) (o : Option FirstSend) (there was e : Bool) (about sent : Option About) (way : SendKind) → (here ≡ true → is_new_with o was k sent way ≡ true) → (o ≡ None → there ≡ false) → is_found_with past (cond here (or_else o (Some (record { kernel = k; about = sent; kind = way }))) o) (cond (here && e) true there) sender about ≡ cond (k == sender && (here && e && about_agrees past sender way about sent)) true (is_found_with past o there sender about)
found_send past true k sender o there was e about sent way fits none = found_same past k sender o there was e about sent way (fits refl) none
found_send past false k sender o there was e about sent way fits none = stays (k == sender) (is_found_with past o there sender about)

found_on : (p : Packets) (past : Past) (k : ℕ) (e : Event) (sender tx to : ℕ) (about : Option About) → packet_fits p k e ≡ true → (first_at p.sends.entries tx ≡ None → has_receiver p.receivers.keys tx to ≡ false) → is_found_with past (first_behind k e tx (first_at p.sends.entries tx)) (receiver_behind e tx to (has_receiver p.receivers.keys tx to)) sender about ≡ cond (k == sender && is_sending past sender tx to about e) true (is_found_with past (first_at p.sends.entries tx) (has_receiver p.receivers.keys tx to) sender about)
found_on p past k (event.Send t s sent way) sender tx to about fits none =
    found_send past (t.0 == tx) k sender (first_at p.sends.entries tx) (has_receiver p.receivers.keys tx to) (has_receiver p.receivers.keys tx s) (s == to) about sent way (fits_there p k t.0 tx s sent way fits) none
found_on p past k _ sender tx to about fits none = stays (k == sender) (is_found_with past (first_at p.sends.entries tx) (has_receiver p.receivers.keys tx to) sender about)

-- a number that wasn't sent went to nobody
none_send : (here e there : Bool) (o : Option FirstSend) (f : FirstSend) → (o ≡ None → there ≡ false) → cond here (or_else o (Some f)) o ≡ None → cond (here && e) true there ≡ false
none_send true e there None f none is = absurd (cc (is))
none_send true e there (Some g) f none is = absurd (cc (is))
none_send false e there o f none is = none is

none_on : (k : ℕ) (e : Event) (tx to : ℕ) (o : Option FirstSend) (there : Bool) → (o ≡ None → there ≡ false) → first_behind k e tx o ≡ None → receiver_behind e tx to there ≡ false
none_on k (event.Send t s about kind) tx to o there none is = none_send (t.0 == tx) (s == to) there o (record { kernel = k; about = about; kind = kind }) none is
none_on k _ tx to o there none is = none is

sends_on : (old new : Packets) (records : List Rec) (rec : Rec) → TellsSends old records → packet_fits old rec.kernel rec.event ≡ true → KeepsPacket rec old new → TellsSends new (records ++ rec ∷ [])
sends_on old new records rec told fits keeps = record {
  from_told = λ kernel tx.
      ap (λ o. is_from_with o kernel) (keeps.sends tx)
      ∙ from_on old rec.kernel rec.event tx kernel fits
      ∙ ap (λ b. cond (is_at kernel (is_send tx) rec) true b) (told.from_told kernel tx)
      ∙ sym (any_more (is_at kernel (is_send tx)) records rec);
  new_told = λ kernel tx to about kind.
      ap₂ (λ o b. is_new_with o b kernel about kind) (keeps.sends tx) (keeps.receivers tx to)
      ∙ new_on old rec.kernel rec.event kernel tx to about kind fits (told.none_told tx to)
      ∙ ap (λ b. b && is_other_receiver kernel tx to about kind rec.kernel rec.event) (told.new_told kernel tx to about kind)
      ∙ sym (all_more (λ (r : Rec). is_other_receiver kernel tx to about kind r.kernel r.event) records rec);
  found_told = λ past sender tx to about.
      ap₂ (λ o b. is_found_with past o b sender about) (keeps.sends tx) (keeps.receivers tx to)
      ∙ found_on old past rec.kernel rec.event sender tx to about fits (told.none_told tx to)
      ∙ ap (λ b. cond (rec.kernel == sender && is_sending past sender tx to about rec.event) true b) (told.found_told past sender tx to about)
      ∙ sym (any_more (λ (r : Rec). r.kernel == sender && is_sending past sender tx to about r.event) records rec);
  none_told = λ tx to is.
      keeps.receivers tx to
      ∙ none_on rec.kernel rec.event tx to (first_at old.sends.entries tx) (has_receiver old.receivers.keys tx to) (told.none_told tx to) (sym (keeps.sends tx) ∙ is);
}

-- ---- one record more: deliveries, freezes and issues

alike_same : (o : Option (Option About)) (about a : Option About) → is_alike_with o a ≡ true → is_alike_with (or_else o (Some a)) about ≡ (is_alike_with o about && same_about about a)
alike_same None about a fits = refl
alike_same (Some first) about a fits =
    and_self (same_about about first) ∙ sym (ap (λ b. same_about about first && same_about about b) (about_is a first fits))

alike_send : (here : Bool) (o : Option (Option About)) (about a : Option About) → (here ≡ true → is_alike_with o a ≡ true) → is_alike_with (cond here (or_else o (Some a)) o) about ≡ (is_alike_with o about && cond here (same_about about a) true)
alike_send true o about a fits = alike_same o about a (fits refl)
alike_send false o about a fits = sym (and_true (is_alike_with o about))

alike_there : (p : Packets) (t tx : ℕ) (b : Bool) (about : Option About) → (b && is_alike_with (delivered_at p.deliveries.entries t) about) ≡ true → (t == tx) ≡ true → is_alike_with (delivered_at p.deliveries.entries tx) about ≡ true
alike_there p t tx b about fits e =
    subst (λ (n : ℕ). is_alike_with (delivered_at p.deliveries.entries n) about ≡ true) (eqb-true t tx e) (and_parts b (is_alike_with (delivered_at p.deliveries.entries t) about) fits).1

alike_on : (p : Packets) (k : ℕ) (e : Event) (tx : ℕ) (about : Option About) → packet_fits p k e ≡ true → is_alike_with (delivered_behind e tx (delivered_at p.deliveries.entries tx)) about ≡ (is_alike_with (delivered_at p.deliveries.entries tx) about && agrees_on tx about e)
alike_on p k (event.Deliver t from reply a) tx about fits =
    alike_send (t.0 == tx) (delivered_at p.deliveries.entries tx) about a (alike_there p t.0 tx (cond reply (is_sent_in p k t.0 from a) (is_sent_in p from t.0 k a)) a fits)
alike_on p k _ tx about fits = sym (and_true (is_alike_with (delivered_at p.deliveries.entries tx) about))

frozen_on : (k : ℕ) (e : Event) (kernel pid : ℕ) (before : Bool) → frozen_behind k e kernel pid before ≡ cond (k == kernel && is_freeze_of pid e) true before
frozen_on k (event.Freeze p) kernel pid before = refl
frozen_on k _ kernel pid before = stays (k == kernel) before

number_cond : (b : Bool) (n : ℕ) (o : Option ℕ) → number_or (cond b (Some n) o) ≡ cond b n (number_or o)
number_cond true n o = refl
number_cond false n o = refl

issue_on : (e : Event) (pid : ℕ) (o : Option ℕ) → number_or (issue_behind e pid o) ≡ issue_number pid e (number_or o)
issue_on (event.Issue p n call) pid o = number_cond (p == pid) n o
issue_on _ pid o = refl

-- what is kept tells of one record more
pub packets_on : (old new : Packets) (records : List Rec) (rec : Rec) → TellsPackets old records → packet_fits old rec.kernel rec.event ≡ true → KeepsPacket rec old new → TellsPackets new (records ++ rec ∷ [])
packets_on old new records rec told fits keeps = record {
  sends = sends_on old new records rec told.sends fits keeps;
  delivered_told = λ tx about.
      ap (λ o. is_alike_with o about) (keeps.deliveries tx)
      ∙ alike_on old rec.kernel rec.event tx about fits
      ∙ ap (λ b. b && agrees_on tx about rec.event) (told.delivered_told tx about)
      ∙ sym (all_more (has_event (agrees_on tx about)) records rec);
  frozen_told = λ kernel pid.
      keeps.frozen kernel pid
      ∙ frozen_on rec.kernel rec.event kernel pid (has_frozen old.frozen.keys kernel pid)
      ∙ ap (λ b. cond (is_at kernel (is_freeze_of pid) rec) true b) (told.frozen_told kernel pid)
      ∙ sym (any_more (is_at kernel (is_freeze_of pid)) records rec);
  issues_told = λ pid.
      ap number_or (keeps.issues pid)
      ∙ issue_on rec.event pid (issue_at old.issues.entries pid)
      ∙ ap (issue_number pid rec.event) (told.issues_told pid)
      ∙ sym (look_backs_grow.issues pid records rec);
}

-- before the first record
pub nothing_told : (p : Packets) → p.sends.entries ≡ [] → p.receivers.keys ≡ [] → p.deliveries.entries ≡ [] → p.frozen.keys ≡ [] → p.issues.entries ≡ [] → TellsPackets p []
nothing_told p sends receivers deliveries frozen issues = record {
  sends = record {
    from_told = λ kernel tx. ap (λ es. is_from_with (first_at es tx) kernel) sends;
    new_told = λ kernel tx to about kind. ap (λ es. is_new_with (first_at es tx) (has_receiver p.receivers.keys tx to) kernel about kind) sends;
    found_told = λ past sender tx to about. ap (λ es. is_found_with past (first_at es tx) (has_receiver p.receivers.keys tx to) sender about) sends;
    none_told = λ tx to is. ap (λ ks. has_receiver ks tx to) receivers;
  };
  delivered_told = λ tx about. ap (λ es. is_alike_with (delivered_at es tx) about) deliveries;
  frozen_told = λ kernel pid. ap (λ ks. has_frozen ks kernel pid) frozen;
  issues_told = λ pid. ap (λ es. number_or (issue_at es pid)) issues;
}
