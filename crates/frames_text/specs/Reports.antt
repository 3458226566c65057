-- What is told of packets that were sent in frames.
use Rattle.std.specs.Prelude.{codes, ◌≡◌, ◌≤◌, ℕ, ◌+◌, Bool, ◌&&◌, not, if◌then◌else◌, List, [], ◌++◌, map}
use Rattle.std.specs.List.{count_by, flat_map, list_any}
use Rattle.std.specs.Fmt.{decimal}
use Rattle.link_plan.specs.Counts.{same_pair}
use Rattle.wire_fragments.specs.declared.MessageId.{MessageId}
use Rattle.wire_fragments.specs.declared.Gathered.{Gathered}
use Rattle.wire_fragments.specs.Gathering.{is_message}
use Rattle.wire_fragments.specs.Runs.{Cut, AreAllGiven, AreGathered, is_given}
use Rattle.frames_text.specs.declared.sending.Sent.{Sent}
use Rattle.frames_text.specs.Sending.{AreAsked, all_framed, arriving, frame_of}

-- the line of a packet
abbrev pub packet_line : ℕ → Bool → List ℕ
packet_line id whole = codes "packet " ++ decimal id ++ (if whole then codes " whole\n" else codes " lost\n")

-- whether the name is one of these
abbrev pub has : List MessageId → MessageId → Bool
has names name = list_any (is_message name) names

-- the lines of packets, by which of them are given
abbrev pub report : (MessageId → Bool) → List Cut → List ℕ
report is_whole cuts = flat_map (λ (c : Cut). packet_line c.name.id (is_whole c.name)) cuts

-- whether the packet went between these two kernels and isn't given
abbrev pub is_lost : (MessageId → Bool) → ℕ → ℕ → Cut → Bool
is_lost is_whole a b c = same_pair a b c.name.from c.name.to && not (is_whole c.name)

-- packets were cut, and each frame was sent over a link that goes from there to here and met its fate; those that arrive were
-- gathered, and the lines tell which packets are given
pub record AreSent {L : Type 0} (faults asked : L → ℕ → ℕ → ℕ) (before after : L) (cuts : List Cut) (lines : List ℕ) : Type 0 where
  pub sent : List Sent
  pub frames : map frame_of sent ≡ all_framed cuts
  pub over : AreAsked faults asked before after sent
  pub answers : List Gathered
  pub gathered : AreGathered cuts [] (arriving sent) answers
  pub all_given : AreAllGiven cuts (arriving sent) answers
  pub lines_are : lines ≡ report (is_given answers) cuts
  pub lost : (a b : ℕ) → faults before a b + count_by (is_lost (is_given answers) a b) cuts ≤ faults after a b
