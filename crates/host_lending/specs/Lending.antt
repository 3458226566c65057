-- Which hosts are idle, which are lent, and what is answered, by the events so far and their answers alone.
use Rattle.std.specs.Prelude.{◌≡◌, ◌≢◌, ◌≤◌, ◌<◌, ◌↔◌, ℕ, zero, suc, ◌+◌, ◌==◌, Bool, true, false, ◌&&◌, ◌||◌, not, nat_le, if◌then◌else◌, List, [], ◌∷◌, Option, Some, None, max}
use Rattle.std.specs.List.{list_any, find, count_by}
use Rattle.host_lending.specs.declared.event.LendEvent.{LendEvent}
use Rattle.host_lending.specs.declared.event.LendEvent.TheVariants.{Idle, Owner, Borrow, Return, Leave}
use Rattle.host_lending.specs.declared.answer.LendAnswer.{LendAnswer}
use Rattle.host_lending.specs.declared.answer.LendAnswer.TheVariants.{Noted, Revoked, Lent, Moved, NoHost, Returned, NotHeld, Left}

-- an event and its answer
abbrev pub Told : Type 0
Told = LendEvent × LendAnswer

-- so many kernels, from that one on
abbrev pub kernels_from : ℕ → ℕ → List ℕ
kernels_from first zero = []
kernels_from first (suc count) = first ∷ kernels_from (first + 1) count

-- the kernels 1 to that number
abbrev pub kernels : ℕ → List ℕ
kernels count = kernels_from 1 count

-- ---- what stands after the events so far; in each list of them the latest comes first

-- whether host h is idle after an event, where that is told how it was before
abbrev pub idle_by : ℕ → LendEvent → Bool → Bool
idle_by h (Idle host) before = (host == h) || before
idle_by h (Owner host) before = not (host == h) && before
idle_by h (Borrow borrower) before = before
idle_by h (Return borrower host) before = before
idle_by h (Leave borrower) before = before

-- a host is idle where the last Idle or Owner of it is Idle
abbrev pub is_idle : ℕ → List Told → Bool
is_idle h [] = false
is_idle h (last ∷ before) = idle_by h last.0 (is_idle h before)

-- whether the answer gives host h to the one who asked
abbrev pub gives : ℕ → LendAnswer → Bool
gives h (Lent host) = host == h
gives h (Moved host from) = host == h
gives h Noted = false
gives h (Revoked borrower) = false
gives h NoHost = false
gives h Returned = false
gives h NotHeld = false
gives h (Left count) = false

-- whether the answer takes host h from b
abbrev pub takes : ℕ → ℕ → LendAnswer → Bool
takes h b (Moved host from) = (host == h) && (from == b)
takes h b (Lent host) = false
takes h b Noted = false
takes h b (Revoked borrower) = false
takes h b NoHost = false
takes h b Returned = false
takes h b NotHeld = false
takes h b (Left count) = false

-- whether a loan of host h to b begins
abbrev pub begins : ℕ → ℕ → LendEvent → LendAnswer → Bool
begins h b (Borrow borrower) answer = (borrower == b) && gives h answer
begins h b (Idle host) answer = false
begins h b (Owner host) answer = false
begins h b (Return borrower host) answer = false
begins h b (Leave borrower) answer = false

-- whether a loan of host h to b ends
abbrev pub ends : ℕ → ℕ → LendEvent → LendAnswer → Bool
ends h b (Idle host) answer = false
ends h b (Owner host) answer = host == h
ends h b (Borrow borrower) answer = takes h b answer
ends h b (Return borrower host) answer = (host == h) && (borrower == b)
ends h b (Leave borrower) answer = borrower == b

-- host h is on loan to b where a loan began, and no later event ended it
abbrev pub is_loan : ℕ → ℕ → List Told → Bool
is_loan h b [] = false
is_loan h b (last ∷ before) = begins h b last.0 last.1 || (not (ends h b last.0 last.1) && is_loan h b before)

-- ---- what is answered, among so many hosts

-- whether host h is free for b: idle, not lent, and not b itself
abbrev pub is_free_for : ℕ → List Told → ℕ → ℕ → Bool
is_free_for hosts before b h = is_idle h before && not (list_any (λ c. is_loan h c before) (kernels hosts)) && not (h == b)

-- how many hosts b holds
abbrev pub held : ℕ → List Told → ℕ → ℕ
held hosts before b = count_by (λ h. is_loan h b before) (kernels hosts)

-- the most that one of these other than b holds, where `count` is what each holds, and some others hold `most`
abbrev pub most_from : (ℕ → ℕ) → ℕ → ℕ → List ℕ → ℕ
most_from count b most [] = most
most_from count b most (c ∷ cs) = most_from count b (if c == b then most else max most (count c)) cs

-- the most that another than b holds
abbrev pub most_held : ℕ → List Told → ℕ → ℕ
most_held hosts before b = most_from (held hosts before) b 0 (kernels hosts)

-- whether c isn't b and holds the most
abbrev pub is_richest : ℕ → List Told → ℕ → ℕ → Bool
is_richest hosts before b c = not (c == b) && (held hosts before c == most_held hosts before b)

-- the last of these that passes the test, and `found` where none does
abbrev pub last_from : {X : Type 0} → (X → Bool) → Option X → List X → Option X
last_from p found [] = found
last_from p found (x ∷ xs) = last_from p (if p x then Some x else found) xs

-- the greatest host that `from` holds and that isn't b
abbrev pub other_host : ℕ → List Told → ℕ → ℕ → Option ℕ
other_host hosts before from b = last_from (λ h. is_loan h from before && not (h == b)) None (kernels hosts)

-- a host that is taken from a borrower
abbrev pub moved_host : ℕ → Option ℕ → LendAnswer
moved_host from (Some host) = Moved host from
moved_host from None = NoHost

abbrev pub moved_from : ℕ → List Told → ℕ → Option ℕ → LendAnswer
moved_from hosts before b (Some from) = moved_host from (other_host hosts before from b)
moved_from hosts before b None = NoHost

-- what b gets of the other borrowers, where no host is free: a host of the one who holds the most, which is the least of
-- them at a tie, if that one holds at least two more than b
abbrev pub moved : ℕ → List Told → ℕ → LendAnswer
moved hosts before b =
    if nat_le (held hosts before b + 2) (most_held hosts before b) then moved_from hosts before b (find (is_richest hosts before b) (kernels hosts)) else NoHost

-- a free host, else what is said of the other borrowers
abbrev pub lent : Option ℕ → LendAnswer → LendAnswer
lent (Some host) other = Lent host
lent None other = other

-- the answer to an owner
abbrev pub revoked : Option ℕ → LendAnswer
revoked (Some borrower) = Revoked borrower
revoked None = Noted

-- the answer to an event, by the events before it and their answers
abbrev pub answer_to : ℕ → List Told → LendEvent → LendAnswer
answer_to hosts before (Idle host) = Noted
answer_to hosts before (Owner host) = revoked (find (λ b. is_loan host b before) (kernels hosts))
answer_to hosts before (Borrow borrower) = lent (find (is_free_for hosts before borrower) (kernels hosts)) (moved hosts before borrower)
answer_to hosts before (Return borrower host) = if is_loan host borrower before then Returned else NotHeld
answer_to hosts before (Leave borrower) = Left (held hosts before borrower)

-- the answers to these events, behind those before
abbrev pub answers_from : ℕ → List Told → List LendEvent → List LendAnswer
answers_from hosts before [] = []
answers_from hosts before (event ∷ events) =
    answer_to hosts before event ∷ answers_from hosts ((event, answer_to hosts before event) ∷ before) events

-- the answers to a list of events, where all hosts are busy at first
abbrev pub answers_to : ℕ → List LendEvent → List LendAnswer
answers_to hosts events = answers_from hosts [] events

-- ---- what is asked of events, and what holds behind any list of them

-- the hosts and borrowers that an event names are among so many
abbrev pub IsWithin : ℕ → LendEvent → Type 0
IsWithin hosts (Idle host) = (1 ≤ host) × (host ≤ hosts)
IsWithin hosts (Owner host) = (1 ≤ host) × (host ≤ hosts)
IsWithin hosts (Borrow borrower) = (1 ≤ borrower) × (borrower ≤ hosts)
IsWithin hosts (Return borrower host) = (1 ≤ borrower) × (borrower ≤ hosts) × (1 ≤ host) × (host ≤ hosts)
IsWithin hosts (Leave borrower) = (1 ≤ borrower) × (borrower ≤ hosts)

-- each host is on one loan at most, and each that is on loan is idle and not its borrower
pub record AreLentWell (hosts : ℕ) (before : List Told) : Type 0 where
  pub once : (h b c : ℕ) → is_loan h b before ≡ true → is_loan h c before ≡ true → b ≡ c
  pub idle : (h b : ℕ) → is_loan h b before ≡ true → is_idle h before ≡ true
  pub other : (h b : ℕ) → is_loan h b before ≡ true → h ≢ b

-- a borrower gets nothing exactly where no host is free for it, and no other borrower holds at least two more
pub record IsWithout (hosts : ℕ) (before : List Told) (b : ℕ) : Type 0 where
  pub none_free : (h : ℕ) → (1 ≤ h) × (h ≤ hosts) → is_free_for hosts before b h ≡ false
  pub none_rich : (c : ℕ) → (1 ≤ c) × (c ≤ hosts) → c ≢ b → held hosts before c < held hosts before b + 2

abbrev pub IsAnswered : ℕ → List Told → LendEvent → LendAnswer → Type 0
IsAnswered hosts before (Borrow b) answer = (answer ≡ NoHost) ↔ IsWithout hosts before b
IsAnswered hosts before (Idle host) answer = Unit {0}
IsAnswered hosts before (Owner host) answer = Unit {0}
IsAnswered hosts before (Return borrower host) answer = Unit {0}
IsAnswered hosts before (Leave borrower) answer = Unit {0}

-- behind those before and each of the events, hosts are lent well, and each asker who gets nothing has its cause
abbrev pub AllLentWell : ℕ → List Told → List LendEvent → List LendAnswer → Type 0
AllLentWell hosts before [] answers = AreLentWell hosts before
AllLentWell hosts before (event ∷ events) [] = AreLentWell hosts before
AllLentWell hosts before (event ∷ events) (answer ∷ answers) =
    AreLentWell hosts before × IsAnswered hosts before event answer × AllLentWell hosts ((event, answer) ∷ before) events answers
