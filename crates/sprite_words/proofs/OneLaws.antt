-- Words spell one command at most.
use Rattle.std.proofs.Common.{◌≡◌, ℕ, ◌+◌, ◌*◌, List, [], ◌∷◌, sym, ap, ◌∙◌}
use Rattle.sprite_words.specs.declared.command.Command.{Command}
use Rattle.sprite_words.specs.declared.command.Command.TheVariants as command
use Rattle.sprite_words.specs.Words.{IsSpelled}

-- what tells the words of commands apart: how many there are, and the first two bytes
count_of : List (List ℕ) → ℕ
count_of [] = 0
count_of (word ∷ []) = 1
count_of (word ∷ second ∷ []) = 2
count_of (word ∷ second ∷ third ∷ rest) = 3

first_bytes : List (List ℕ) → ℕ
first_bytes [] = 0
first_bytes ([] ∷ rest) = 0
first_bytes ((byte ∷ []) ∷ rest) = byte
first_bytes ((byte ∷ second ∷ bytes) ∷ rest) = byte * 1000 + second

told_by : List (List ℕ) → ℕ
told_by words = count_of words * 1000000 + first_bytes words

-- a number for each form of commands
abbrev pub form_of : Command → ℕ
form_of command.Run = 1114117
form_of (command.RunSeed seed) = 3114117
form_of command.RunStats = 2114117
form_of command.History = 1104105
form_of (command.Load count) = 2108111
form_of command.Check = 1099104
form_of command.Audit = 1097117
form_of command.Trace = 1116114
form_of command.Frames = 1102114
form_of command.File = 1102105
form_of command.Lend = 1108101

form_is : (one : Command) (words : List (List ℕ)) → IsSpelled one words → told_by words ≡ form_of one
unfolding told_by count_of first_bytes
form_is command.Run words is = ap told_by is
form_is (command.RunSeed seed) words is = ap told_by is.words_are
form_is command.RunStats words is = ap told_by is
form_is command.History words is = ap told_by is
form_is (command.Load count) words is = ap told_by is.words_are
form_is command.Check words is = ap told_by is
form_is command.Audit words is = ap told_by is
form_is command.Trace words is = ap told_by is
form_is command.Frames words is = ap told_by is
form_is command.File words is = ap told_by is
form_is command.Lend words is = ap told_by is

-- two commands that the same words spell have one form
pub one_form : (a b : Command) (words : List (List ℕ)) → IsSpelled a words → IsSpelled b words → form_of a ≡ form_of b
one_form a b words is that = sym (form_is a words is) ∙ form_is b words that
