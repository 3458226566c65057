-- The asks of one pseudo-device.
use Rattle.std.specs.Prelude.{◌≡◌, ℕ, ◌-◌, ◌==◌, nat_le, nat_lt, Bool, true, not, if◌then◌else◌, List, [], ◌∷◌, ◌++◌, length, Option, Some, None}
use Rattle.sprite_ids.specs.declared.Errno.{Errno}
use Rattle.process_machine.specs.declared.Reply.{Reply}
use Rattle.process_machine.specs.declared.Reply.TheVariants.{Value, Error}
use Rattle.pseudo_device.specs.declared.ask.Ask.{Ask}
use Rattle.sprite_ids.specs.declared.AskKind.{AskKind}
use Rattle.sprite_ids.specs.declared.AskKind.TheVariants.{Read, Write, Ioctl}
use Rattle.sprite_ids.specs.AskKind.{ask_number}
use Rattle.pseudo_device.specs.declared.ask.Answer.{Answer}
use Rattle.pseudo_device.specs.declared.end.TakeEnd.{TakeEnd}
use Rattle.pseudo_device.specs.declared.end.TakeEnd.TheVariants.{Busy, Empty, Long, NoMemory}
use Rattle.pseudo_device.specs.declared.end.PutEnd.{PutEnd}
use Rattle.pseudo_device.specs.declared.end.PutEnd.TheVariants.{Invalid, NoMemory as NoMemoryToPut}

-- the ask in hand, the asks that wait, and the count of masters
pub record Asks : Type 0 where
  pub in_hand : Option Ask
  pub waiting : List Ask
  pub masters : ℕ

-- what the master's call that takes the ask is told
abbrev pub told : Ask → Reply
told ask = Value (ask_number ask.kind) (length ask.bytes) ask.bytes

-- the most bytes of an answer to an ask of that kind and length
abbrev pub most_of : AskKind → ℕ → ℕ
most_of Read length = length
most_of Write length = 0
most_of Ioctl length = length

-- the most bytes of its answer
abbrev pub most : Ask → ℕ
most ask = most_of ask.kind ask.length

-- whether an ask can have that answer: an error without bytes, or no more bytes than were asked for
abbrev pub takes : Ask → List ℕ → Option Errno → Bool
takes ask bytes (Some errno) = length bytes == 0
takes ask bytes None = nat_le (length bytes) (most ask)

-- the value of an answer to an ask of that kind: of a write the length of its own bytes
abbrev pub value_of : AskKind → List ℕ → List ℕ → ℕ
value_of Read own bytes = length bytes
value_of Write own bytes = length own
value_of Ioctl own bytes = length bytes

-- the reply of the call that asked
abbrev pub reply_of : Ask → List ℕ → Option Errno → Reply
reply_of ask bytes (Some errno) = Error errno
reply_of ask bytes None = Value (value_of ask.kind ask.bytes bytes) 0 bytes

-- why the first of the asks that wait can't be taken
abbrev pub first_refusal : List Ask → ℕ → Option TakeEnd
first_refusal [] max = Some Empty
first_refusal (first ∷ rest) max = if nat_lt max (length first.bytes) then Some Long else None

-- why no ask can be taken, where one is in hand or not
abbrev pub refusal_beside : Option Ask → List Ask → ℕ → Option TakeEnd
refusal_beside (Some ask) waiting max = Some Busy
refusal_beside None waiting max = first_refusal waiting max

-- why no ask can be taken: one is in hand, else none waits, else the first is too long
abbrev pub take_refusal : Asks → ℕ → Option TakeEnd
take_refusal asks max = refusal_beside asks.in_hand asks.waiting max

-- what an error of `take` tells: the refusal, and nothing where memory was wanting
abbrev pub IsTakeCause : Option TakeEnd → TakeEnd → Type 0
IsTakeCause refusal Busy = refusal ≡ Some Busy
IsTakeCause refusal Empty = refusal ≡ Some Empty
IsTakeCause refusal Long = refusal ≡ Some Long
IsTakeCause refusal NoMemory = Unit {0}

-- the first ask that waited is in hand
pub record IsTaken (before after : Asks) (ask : Ask) : Type 0 where
  pub free : before.in_hand ≡ None
  pub first : before.waiting ≡ ask ∷ after.waiting
  pub in_hand : after.in_hand ≡ Some ask
  pub masters : after.masters ≡ before.masters

-- whether that answer is refused
abbrev pub is_refused_beside : Option Ask → List ℕ → Option Errno → Bool
is_refused_beside (Some ask) bytes errno = not (takes ask bytes errno)
is_refused_beside None bytes errno = true

-- whether an answer is refused: none is in hand, or it can't have that answer
abbrev pub is_put_refused : Asks → List ℕ → Option Errno → Bool
is_put_refused asks bytes errno = is_refused_beside asks.in_hand bytes errno

-- what an error of `put` tells: that it is refused, and nothing where memory was wanting
abbrev pub IsPutCause : Bool → PutEnd → Type 0
IsPutCause refused Invalid = refused ≡ true
IsPutCause refused NoMemoryToPut = Unit {0}

-- an answer to the ask in hand
pub record IsAnswered (before : Asks) (bytes : List ℕ) (errno : Option Errno) (answer : Answer) : Type 0 where
  pub in_hand : before.in_hand ≡ Some answer.ask
  pub taken : takes answer.ask bytes errno ≡ true
  pub reply : answer.reply ≡ reply_of answer.ask bytes errno

-- the ask in hand, if any, as a list
abbrev pub hand_list : Option Ask → List Ask
hand_list (Some ask) = ask ∷ []
hand_list None = []

-- the asks that a master's close gives back: all of them at the last one
abbrev pub given_back : Asks → List Ask
given_back asks = if asks.masters == 1 then hand_list asks.in_hand ++ asks.waiting else []

-- the device after a master's close
abbrev pub dropped : Asks → Asks
dropped asks = if asks.masters == 1 then record { in_hand = None; waiting = []; masters = 0 } else record asks { masters = asks.masters - 1 }
