-- An event as a line, and an answer as one.
use Rattle.std.specs.Prelude.{codes, ℕ, if◌then◌else◌, List, ◌++◌, Option, Some, None, option_map}
use Rattle.std.specs.List.{flat_map}
use Rattle.std.specs.Fmt.{decimal}
use Rattle.text_rows.specs.Words.{number_in, rest_of, same, word_of}
use Rattle.host_lending.specs.declared.event.LendEvent.{LendEvent}
use Rattle.host_lending.specs.declared.event.LendEvent.TheVariants.{Idle, Owner, Borrow, Return, Leave}
use Rattle.host_lending.specs.declared.answer.LendAnswer.{LendAnswer}
use Rattle.host_lending.specs.declared.answer.LendAnswer.TheVariants.{Noted, Revoked, Lent, Moved, NoHost, Returned, NotHeld, Left}

-- a Return of the two numbers
abbrev pub returned_by : Option ℕ → Option ℕ → Option LendEvent
returned_by (Some borrower) (Some host) = Some (Return borrower host)
returned_by (Some borrower) None = None
returned_by None host = None

-- the event of a name and what stands behind it, among so many hosts
abbrev pub event_by : ℕ → List ℕ → List ℕ → Option LendEvent
event_by hosts name values =
    if same name (codes "idle") then option_map Idle (number_in 1 hosts values)
    else if same name (codes "owner") then option_map Owner (number_in 1 hosts values)
    else if same name (codes "borrow") then option_map Borrow (number_in 1 hosts values)
    else if same name (codes "return") then returned_by (number_in 1 hosts (word_of values)) (number_in 1 hosts (rest_of values))
    else if same name (codes "leave") then option_map Leave (number_in 1 hosts values)
    else None

-- the event of a line
abbrev pub event_of : ℕ → List ℕ → Option LendEvent
event_of hosts line = event_by hosts (word_of line) (rest_of line)

-- the number of hosts in the first line
abbrev pub hosts_of : List ℕ → Option ℕ
hosts_of line = if same (word_of line) (codes "hosts") then number_in 1 16 (rest_of line) else None

-- the line of an answer, with byte 10 at its end
abbrev pub answer_line : LendAnswer → List ℕ
answer_line Noted = codes "noted\n"
answer_line (Revoked borrower) = codes "revoked " ++ decimal borrower ++ codes "\n"
answer_line (Lent host) = codes "lent " ++ decimal host ++ codes "\n"
answer_line (Moved host from) = codes "moved " ++ decimal host ++ codes " " ++ decimal from ++ codes "\n"
answer_line NoHost = codes "no host\n"
answer_line Returned = codes "returned\n"
answer_line NotHeld = codes "not held\n"
answer_line (Left count) = codes "left " ++ decimal count ++ codes "\n"

abbrev pub answers_text : List LendAnswer → List ℕ
answers_text answers = flat_map answer_line answers
