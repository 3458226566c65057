-- That few packets come for each that goes out.
use Rattle.std.specs.Prelude.{◌≡◌, ℕ, ◌+◌, ◌*◌, Bool, true, if◌then◌else◌, List, ◌∷◌, ◌++◌, nat_le, Option}
use Rattle.sprite_ids.specs.declared.TxNo.{TxNo}
use Rattle.unix_calls.specs.declared.About.{About}
use Rattle.unix_calls.specs.declared.Event.TheVariants as events
use Rattle.unix_calls.specs.declared.Rec.{Rec}
use Rattle.call_journal.specs.Past.{Past}
use Rattle.call_journal.specs.WorthPackets.{deliveries, sendings}

-- with one packet more of a call between its sender and a receiver, at most six came for each time that one went out there before: at its
-- send, and at each try that was over
abbrev pub was_sent_enough : Past → ℕ → ℕ → Bool
was_sent_enough past tx receiver = nat_le (deliveries tx receiver past.records + 1) (6 * sendings tx receiver past.records)

-- behind each past of a trace that ends where a packet came, a packet of the call went out to the receiver that often
abbrev pub EachWasSent : List Rec → Type 0
EachWasSent trace = (past : Past) (rest : List Rec) (kernel : ℕ) (tx : TxNo) (from : ℕ) (reply : Bool) (about : Option About) → trace ≡ past.records ++ record { kernel = kernel; event = events.Deliver tx from reply about } ∷ rest → was_sent_enough past tx.0 (if reply then from else kernel) ≡ true
