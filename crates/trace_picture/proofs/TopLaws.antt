-- From what a text comes to, to why a status comes.
use Rattle.std.proofs.Common.{◌≡◌, ℕ, List, Option, Some, Result, Ok, Err, IfOk, sym, subst}
use Rattle.std.specs.Io.KnownBytes.{Consumes, IsAtEnd}
use Rattle.sprite_ids.specs.declared.no_memory.NoMemory.{NoMemory}
use Rattle.sprite_bytes.specs.Ends.{IsByCount}
use Rattle.sprite_bytes.specs.declared.read_end.ReadEnd.TheVariants as read_end
use Rattle.trace_picture.specs.declared.asking.Asked.{Asked}
use Rattle.trace_picture.specs.declared.outcome.Outcome.{Outcome}
use Rattle.trace_picture.specs.declared.outcome.Outcome.TheVariants as outcome
use Rattle.trace_picture.specs.declared.status.Status.{Status}
use Rattle.trace_picture.specs.declared.status.Status.TheVariants as status
use Rattle.trace_picture.specs.declared.top.Answer.{Answer}
use Rattle.trace_picture.specs.Words.{asked_of}
use Rattle.trace_picture.specs.Top.{Causes, IsAnswered, IsOfText, fault_line, status_of}

text_causes : (asked : Asked) (words : List (List ℕ)) (left left_after : Option (List ℕ)) (faults faults_after : ℕ) (came due : List ℕ) (s : Status)
    → asked_of words ≡ Some asked → Consumes left left_after came → IsAtEnd left_after → IsOfText asked came s due
    → Causes s words left left_after faults faults_after due
text_causes asked words left left_after faults faults_after came due s is read ended text = by text.outcome text.status_is
  where
    answer : (t : Status) → s ≡ t → IsAnswered t words left left_after due
    answer t same = record {
      asked = asked;
      words_are = is;
      came = came;
      read = read;
      ended = ended;
      answers = subst (λ u. IsOfText asked came u due) same text;
    }

    back : (t : Status) → s ≡ t → Causes t words left left_after faults faults_after due → Causes s words left left_after faults faults_after due
    back t same causes = subst (λ u. Causes u words left left_after faults faults_after due) (sym same) causes

    by : (o : Outcome) → s ≡ status_of o → Causes s words left left_after faults faults_after due
    by (outcome.Drawn t) same = back status.Drawn same (answer status.Drawn same)
    by (outcome.Refused r) same = back status.Refused same (answer status.Refused same)
    by (outcome.BadLine n) same = back status.Refused same (answer status.Refused same)
    by (outcome.Few n) same = back status.Refused same (answer status.Refused same)
    by (outcome.Many n) same = back status.Refused same (answer status.Refused same)

-- what is due for all that the source held is due for words that ask for it
pub from_text : (asked : Asked) (words : List (List ℕ)) (left left_after : Option (List ℕ)) (faults faults_after : ℕ) (came : List ℕ) (r : Result Answer NoMemory)
    → asked_of words ≡ Some asked → Consumes left left_after came → IsAtEnd left_after → IfOk r (λ a. IsOfText asked came a.status a.due.items)
    → IfOk r (λ a. Causes a.status words left left_after faults faults_after a.due.items)
from_text asked words left left_after faults faults_after came (Ok a) is read ended text =
    text_causes asked words left left_after faults faults_after came a.due.items a.status is read ended text
from_text asked words left left_after faults faults_after came (Err e) is read ended text = text

-- the line of a read fault is due where the source failed
pub from_fault : (words : List (List ℕ)) (left left_after : Option (List ℕ)) (faults faults_after before now : ℕ) (r : Result Answer NoMemory)
    → IsByCount faults faults_after (read_end.Fault before now) → IfOk r (λ a. (a.status ≡ status.ReadFault) × (a.due.items ≡ fault_line))
    → IfOk r (λ a. Causes a.status words left left_after faults faults_after a.due.items)
from_fault words left left_after faults faults_after before now (Ok a) fault made =
    subst (λ s. Causes s words left left_after faults faults_after a.due.items) (sym made.0) (record { rose = fault.rose; line = made.1 })
from_fault words left left_after faults faults_after before now (Err e) fault made = made
