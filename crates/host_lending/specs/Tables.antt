-- The table of hosts that the code keeps, and what each event does with it.
use Rattle.std.specs.Prelude.{◌≡◌, ◌≢◌, ◌≤◌, ℕ, ◌+◌, ◌==◌, Bool, true, false, ◌&&◌, not, nat_le, if◌then◌else◌, List, [], ◌∷◌, map, Option, Some, None, option_map, max, is_none}
use Rattle.std.specs.List.{find, count_by, AllByRecursion}
use Rattle.host_lending.specs.declared.event.LendEvent.{LendEvent}
use Rattle.host_lending.specs.declared.event.LendEvent.TheVariants.{Idle, Owner, Borrow, Return, Leave}
use Rattle.host_lending.specs.declared.answer.LendAnswer.{LendAnswer}
use Rattle.host_lending.specs.declared.answer.LendAnswer.TheVariants.{Noted, NoHost, Returned, NotHeld, Left}
use Rattle.host_lending.specs.declared.host.Host.{Host}
use Rattle.host_lending.specs.Lending.{Told, kernels, is_idle, is_loan, gives, last_from, moved_host, lent, revoked}

-- a host at first
abbrev pub busy : ℕ → Host
busy number = record { number = number; idle = false; borrower = None }

-- the table at first: all hosts are busy
abbrev pub busy_hosts : ℕ → List Host
busy_hosts hosts = map busy (kernels hosts)

-- whether it is that one who holds it
abbrev pub is_holder : ℕ → Option ℕ → Bool
is_holder b (Some holder) = holder == b
is_holder b None = false

abbrev pub is_held : ℕ → Host → Bool
is_held b host = is_holder b host.borrower

-- whether the host may be lent to b
abbrev pub is_free : ℕ → Host → Bool
is_free b host = host.idle && is_none host.borrower && not (host.number == b)

-- whether `from` holds it, and it may go to b
abbrev pub is_other_host : ℕ → ℕ → Host → Bool
is_other_host from b host = is_held from host && not (host.number == b)

-- ---- what is answered

-- how many hosts b holds
abbrev pub count_held : List Host → ℕ → ℕ
count_held table b = count_by (is_held b) table

-- the most that one of these hosts' kernels other than b holds
abbrev pub most_among : List Host → ℕ → ℕ → List Host → ℕ
most_among table b most [] = most
most_among table b most (host ∷ hosts) =
    most_among table b (if host.number == b then most else max most (count_held table host.number)) hosts

-- whether the kernel of that host isn't b and holds so many
abbrev pub is_rich : List Host → ℕ → ℕ → Host → Bool
is_rich table b most host = not (host.number == b) && (count_held table host.number == most)

-- the number of a host that was looked up
abbrev pub number_of : Option Host → Option ℕ
number_of found = option_map (λ (host : Host). host.number) found

abbrev pub move_from : List Host → ℕ → Option ℕ → LendAnswer
move_from table b (Some from) = moved_host from (number_of (last_from (is_other_host from b) None table))
move_from table b None = NoHost

abbrev pub move_of : List Host → ℕ → ℕ → LendAnswer
move_of table b most =
    if nat_le (count_held table b + 2) most then move_from table b (number_of (find (is_rich table b most) table)) else NoHost

-- who holds the host that was looked up
abbrev pub borrower_at : Option Host → Option ℕ
borrower_at (Some host) = host.borrower
borrower_at None = None

-- whether b holds the host that was looked up
abbrev pub is_held_at : ℕ → Option Host → Bool
is_held_at b (Some host) = is_held b host
is_held_at b None = false

-- whether it is the host of that number
abbrev pub is_numbered : ℕ → Host → Bool
is_numbered number host = host.number == number

-- the answer to an event
abbrev pub reply_to : List Host → LendEvent → LendAnswer
reply_to table (Idle host) = Noted
reply_to table (Owner host) = revoked (borrower_at (find (is_numbered host) table))
reply_to table (Borrow borrower) = lent (number_of (find (is_free borrower) table)) (move_of table borrower (most_among table borrower 0 table))
reply_to table (Return borrower host) = if is_held_at borrower (find (is_numbered host) table) then Returned else NotHeld
reply_to table (Leave borrower) = Left (count_held table borrower)

-- ---- what changes

-- a host after an event with that answer
abbrev pub noted : LendEvent → LendAnswer → Host → Host
noted (Idle host) answer x = if host == x.number then record x { idle = true } else x
noted (Owner host) answer x = if host == x.number then record x { idle = false; borrower = None } else x
noted (Borrow borrower) answer x = if gives x.number answer then record x { borrower = Some borrower } else x
noted (Return borrower host) answer x = if (host == x.number) && is_held borrower x then record x { borrower = None } else x
noted (Leave borrower) answer x = if is_held borrower x then record x { borrower = None } else x

-- the table after an event with that answer
abbrev pub noted_all : List Host → LendEvent → LendAnswer → List Host
noted_all table event answer = map (noted event answer) table

-- the answers to events in a row
abbrev pub replies_to : List Host → List LendEvent → List LendAnswer
replies_to table [] = []
replies_to table (event ∷ events) = reply_to table event ∷ replies_to (noted_all table event (reply_to table event)) events

-- ---- the table and the events

-- a borrower is among so many kernels, and a host that it holds is idle and another
abbrev pub IsKept : ℕ → ℕ → Bool → Option ℕ → Type 0
IsKept hosts number idle (Some b) = (1 ≤ b) × (b ≤ hosts) × (idle ≡ true) × (number ≢ b)
IsKept hosts number idle None = Unit {0}

-- what is known of a host is what the events so far tell of it
pub record Seen (hosts : ℕ) (before : List Told) (x : Host) : Type 0 where
  pub idle_is : x.idle ≡ is_idle x.number before
  pub held_is : (b : ℕ) → is_holder b x.borrower ≡ is_loan x.number b before
  pub kept : IsKept hosts x.number x.idle x.borrower

-- the table is that of the events so far
pub record Stands (hosts : ℕ) (before : List Told) (table : List Host) : Type 0 where
  pub numbers : map (λ (x : Host). x.number) table ≡ kernels hosts
  pub each : AllByRecursion (Seen hosts before) table
  pub lent_there : (h b : ℕ) → is_loan h b before ≡ true → (x : Host) × Seen hosts before x × (x.number ≡ h)
