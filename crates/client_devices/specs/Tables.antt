-- The devices of the kernel, each call with the tests that it needs: of a device that isn't there nothing is known.
use Rattle.std.specs.Prelude.{ℕ, nat_le, Bool, false, if◌then◌else◌, List, [], ◌∷◌, ◌++◌, Option, Some, None, option_map}
use Rattle.std.specs.BTreeMap.{insert_entry, is_at}
use Rattle.std.specs.Map.{lookup, set_value}
use Rattle.std.specs.Ordering.{nat_cmp}
use Rattle.sprite_ids.specs.declared.Errno.{Errno}
use Rattle.pseudo_device.specs.declared.Ask.{Ask}
use Rattle.pseudo_device.specs.declared.Answer.{Answer}
use Rattle.pseudo_device.specs.declared.TakeEnd.{TakeEnd}
use Rattle.pseudo_device.specs.declared.TakeEnd.TheVariants as ends
use Rattle.pseudo_device.specs.Device.{Asks, dropped, given_back, is_put_refused, reply_of, take_refusal}
use Rattle.client_homes.specs.declared.ClientProcs.{ClientProcs}
use Rattle.client_devices.specs.declared.tables.Taken.{Taken}
use Rattle.client_devices.specs.declared.tables.Taken.TheVariants.{Given, Busy, Empty, Long}

-- what is asked of the device
abbrev pub asks_in : ℕ → ClientProcs → Option Asks
asks_in device s = lookup (is_at (nat_cmp device)) s.devices

-- the device as it is now
abbrev pub with_device : ℕ → Option Asks → ClientProcs → ClientProcs
with_device device (Some asks) s = record s { devices = set_value (is_at (nat_cmp device)) s.devices asks }
with_device device None s = s

-- whether it has a master
abbrev pub is_alive : Asks → Bool
is_alive asks = nat_le 1 asks.masters

abbrev pub is_alive_of : Option Asks → Bool
is_alive_of (Some asks) = is_alive asks
is_alive_of None = false

abbrev pub is_alive_at : ℕ → ClientProcs → Bool
is_alive_at device s = is_alive_of (asks_in device s)

-- an ask waits for it
abbrev pub asked_of : Ask → Asks → Asks
asked_of ask asks = if is_alive asks then record asks { waiting = asks.waiting ++ ask ∷ [] } else asks

abbrev pub waits_at : ℕ → Ask → ClientProcs → ClientProcs
waits_at device ask s = with_device device (option_map (asked_of ask) (asks_in device s)) s

-- what a master is told that wants the next ask
abbrev pub taken_first : List Ask → Taken
taken_first (ask ∷ rest) = Given ask
taken_first [] = Empty

abbrev pub taken_by : List Ask → Option TakeEnd → Taken
taken_by waiting None = taken_first waiting
taken_by waiting (Some ends.Busy) = Busy
taken_by waiting (Some ends.Empty) = Empty
taken_by waiting (Some ends.Long) = Long
taken_by waiting (Some ends.NoMemory) = Empty

abbrev pub taken_of : Asks → ℕ → Taken
taken_of asks max = taken_by asks.waiting (take_refusal asks max)

abbrev pub taken_at_in : ℕ → Option Asks → Taken
taken_at_in max (Some asks) = taken_of asks max
taken_at_in max None = Empty

abbrev pub taken_at : ℕ → ℕ → ClientProcs → Taken
taken_at device max s = taken_at_in max (asks_in device s)

-- the device then: the first ask is in hand, unless it is refused
abbrev pub first_in_hand : Asks → List Ask → Asks
first_in_hand asks (ask ∷ rest) = record asks { in_hand = Some ask; waiting = rest }
first_in_hand asks [] = asks

abbrev pub in_hand_by : Asks → Option TakeEnd → Asks
in_hand_by asks None = first_in_hand asks asks.waiting
in_hand_by asks (Some refusal) = asks

abbrev pub taken_from : Asks → ℕ → Asks
taken_from asks max = in_hand_by asks (take_refusal asks max)

abbrev pub takes_in : ℕ → Asks → Asks
takes_in max asks = taken_from asks max

abbrev pub takes_at : ℕ → ℕ → ClientProcs → ClientProcs
takes_at device max s = with_device device (option_map (takes_in max) (asks_in device s)) s

-- the answer of the ask in hand, unless it is refused
abbrev pub answer_by : List ℕ → Option Errno → Ask → Answer
answer_by bytes errno ask = record { ask = ask; reply = reply_of ask bytes errno }

abbrev pub answer_told : Asks → List ℕ → Option Errno → Option Answer
answer_told asks bytes errno = if is_put_refused asks bytes errno then None else option_map (answer_by bytes errno) asks.in_hand

abbrev pub put_by : Asks → List ℕ → Option Errno → Asks
put_by asks bytes errno = if is_put_refused asks bytes errno then asks else record asks { in_hand = None }

abbrev pub answer_in : List ℕ → Option Errno → Option Asks → Option Answer
answer_in bytes errno (Some asks) = answer_told asks bytes errno
answer_in bytes errno None = None

abbrev pub answer_at : ℕ → List ℕ → Option Errno → ClientProcs → Option Answer
answer_at device bytes errno s = answer_in bytes errno (asks_in device s)

abbrev pub puts_in : List ℕ → Option Errno → Asks → Asks
puts_in bytes errno asks = put_by asks bytes errno

abbrev pub puts_at : ℕ → List ℕ → Option Errno → ClientProcs → ClientProcs
puts_at device bytes errno s = with_device device (option_map (puts_in bytes errno) (asks_in device s)) s

-- a master is gone: with the last one all asks come back
abbrev pub asks_of : Asks → List Ask
asks_of asks = if is_alive asks then given_back asks else []

abbrev pub left_by : Asks → Asks
left_by asks = if is_alive asks then dropped asks else asks

abbrev pub asks_back : Option Asks → List Ask
asks_back (Some asks) = asks_of asks
asks_back None = []

abbrev pub asks_at : ℕ → ClientProcs → List Ask
asks_at device s = asks_back (asks_in device s)

abbrev pub left_at : ℕ → ClientProcs → ClientProcs
left_at device s = with_device device (option_map left_by (asks_in device s)) s

-- a device that was made just now
abbrev pub fresh_asks : Asks
fresh_asks = record { in_hand = None; waiting = []; masters = 1 }

abbrev pub adds_device : ℕ → ClientProcs → ClientProcs
adds_device device s = record s { devices = insert_entry nat_cmp s.devices device fresh_asks }
