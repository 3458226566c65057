-- What is kept of messages whose frames come, and what a frame that comes changes.
use Rattle.std.specs.Prelude.{ℕ, ◌==◌, nat_le, nat_lt, Bool, true, false, ◌&&◌, not, if◌then◌else◌, List, [], ◌∷◌, length, Option, Some, None}
use Rattle.std.specs.List.{count_by}
use Rattle.std.specs.Map.{lookup}
use Rattle.indexmap.specs.IndexMap.{insert_entry}
use Rattle.wire_fragments.specs.declared.head.Head.{Head}
use Rattle.wire_fragments.specs.declared.head.MessageId.{MessageId}
use Rattle.wire_fragments.specs.declared.progress.Progress.{Progress}
use Rattle.wire_fragments.specs.declared.progress.Progress.TheVariants.{Given, InPart}
use Rattle.wire_fragments.specs.declared.gathered.Gathered.{Gathered}
use Rattle.wire_fragments.specs.declared.gathered.Gathered.TheVariants.{Bad as IsBad, Known as IsKnown, Differs as IsOther, Full as IsFull, Whole, Kept as IsKept}
use Rattle.wire_fragments.specs.declared.plan.Plan.{Plan}
use Rattle.wire_fragments.specs.declared.plan.Plan.TheVariants.{Known, Differs, Full, Alone, First, Next, Last}
use Rattle.wire_fragments.specs.Frames.{head_of, piece_in}
use Rattle.wire_fragments.specs.Pieces.{Pieces, empty_pieces, is_there, with_frame}

-- ---- all messages

-- whether it is that message
abbrev pub is_message : MessageId → MessageId → Bool
is_message a b = (a.from == b.from) && ((a.to == b.to) && (a.id == b.id))

abbrev pub Messages : Type 0
Messages = List (MessageId × Progress)

-- the room for messages in part, and how far each message has come
pub record Gathering : Type 0 where
  pub room : ℕ
  pub messages : Messages

abbrev pub empty_gather : ℕ → Gathering
empty_gather room = record { room = room; messages = [] }

abbrev pub is_in_part : Progress → Bool
is_in_part Given = false
is_in_part (InPart pieces) = true

-- how many messages are kept in part
abbrev pub count_kept : Messages → ℕ
count_kept messages = count_by (λ (e : MessageId × Progress). is_in_part e.1) messages

-- how far a message has come
abbrev pub progress_of : Messages → MessageId → Option Progress
progress_of messages name = lookup (is_message name) messages

abbrev pub with_progress : Gathering → MessageId → Progress → Gathering
with_progress g name progress = record g { messages = insert_entry is_message g.messages name progress }

-- what has come of a message
abbrev pub pieces_of : Progress → Pieces
pieces_of (InPart pieces) = pieces
pieces_of Given = empty_pieces 0

abbrev pub pieces_at : Option Progress → Pieces
pieces_at (Some progress) = pieces_of progress
pieces_at None = empty_pieces 0

-- whether the frame of that index is missing
abbrev pub awaits : Progress → ℕ → Bool
awaits (InPart pieces) index = nat_lt index (length pieces.came) && not (is_there pieces index)
awaits Given index = false

abbrev pub awaits_at : Option Progress → ℕ → Bool
awaits_at (Some progress) index = awaits progress index
awaits_at None index = false

-- ---- what becomes of a frame

-- where its message is kept in part
abbrev pub plan_in : Pieces → Head → Plan
plan_in pieces head =
    if is_there pieces head.index then Known
    else if not (length pieces.came == head.count) then Differs (length pieces.came)
    else if count_by not pieces.came == 1 then Last
    else Next

abbrev pub plan_by : Gathering → Head → Option Progress → Plan
plan_by g head None = if head.count == 1 then Alone else if nat_le g.room (count_kept g.messages) then Full else First
plan_by g head (Some Given) = Known
plan_by g head (Some (InPart pieces)) = plan_in pieces head

-- what becomes of a frame with that head
abbrev pub plan_of : Gathering → Head → Plan
plan_of g head = plan_by g head (progress_of g.messages head.message)

-- ---- what is answered

abbrev pub whole : MessageId → List ℕ → Gathered
whole name message = Whole name.from name.to name.id message

-- a message with one more frame
abbrev pub next_pieces : Gathering → Head → List ℕ → Pieces
next_pieces g head piece = with_frame (pieces_at (progress_of g.messages head.message)) head.index piece

abbrev pub answer_by : Gathering → Head → List ℕ → Plan → Gathered
answer_by g head piece Known = IsKnown
answer_by g head piece (Differs kept) = IsOther kept head.count
answer_by g head piece Full = IsFull g.room
answer_by g head piece Alone = whole head.message piece
answer_by g head piece First = IsKept
answer_by g head piece Next = IsKept
answer_by g head piece Last = whole head.message (next_pieces g head piece).bytes

abbrev pub answer_head : Gathering → List ℕ → Option Head → Gathered
answer_head g frame None = IsBad
answer_head g frame (Some head) = answer_by g head (piece_in frame) (plan_of g head)

-- the answer to a frame
abbrev pub answer_to : Gathering → List ℕ → Gathered
answer_to g frame = answer_head g frame (head_of frame)

-- ---- what changes

-- a message of which the first frame comes
abbrev pub first_piece : Head → List ℕ → Progress
first_piece head piece = InPart (with_frame (empty_pieces head.count) head.index piece)

-- a message in part with one more frame
abbrev pub kept_next : Progress → ℕ → List ℕ → Progress
kept_next progress index piece = InPart (with_frame (pieces_of progress) index piece)

abbrev pub after_by : Gathering → Head → List ℕ → Plan → Gathering
after_by g head piece Known = g
after_by g head piece (Differs kept) = g
after_by g head piece Full = g
after_by g head piece Alone = with_progress g head.message Given
after_by g head piece First = with_progress g head.message (first_piece head piece)
after_by g head piece Next = with_progress g head.message (InPart (next_pieces g head piece))
after_by g head piece Last = with_progress g head.message Given

abbrev pub after_head : Gathering → List ℕ → Option Head → Gathering
after_head g frame None = g
after_head g frame (Some head) = after_by g head (piece_in frame) (plan_of g head)

-- what is kept after a frame
abbrev pub after : Gathering → List ℕ → Gathering
after g frame = after_head g frame (head_of frame)

-- the answers to frames in a row
abbrev pub answers_from : Gathering → List (List ℕ) → List Gathered
answers_from g [] = []
answers_from g (frame ∷ frames) = answer_to g frame ∷ answers_from (after g frame) frames
