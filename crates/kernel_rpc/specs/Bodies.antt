-- The messages that calls carry, as they are spelled.
use Rattle.std.specs.Prelude.{◌≡◌, ℕ, List, Option, Some, None}
use Rattle.kernel_rpc.specs.declared.call.Call.{Call}

-- some message is spelled so
abbrev pub Reads : {M : Type 0} → (List ℕ → Option M) → List ℕ → Type 0
Reads {M} reading bytes = (message : M) × (reading bytes ≡ Some message)

-- the bytes are there, and some message is spelled so
abbrev pub HasMessage : {M : Type 0} → (List ℕ → Option M) → Option (List ℕ) → Type 0
HasMessage reading None = ⊥
HasMessage reading (Some bytes) = Reads reading bytes

-- the bytes are there, and that message is spelled so
abbrev pub IsMessage : {M : Type 0} → (List ℕ → Option M) → Option (List ℕ) → M → Type 0
IsMessage reading None message = ⊥
IsMessage reading (Some bytes) message = reading bytes ≡ Some message

-- the request of a looked-up call
abbrev pub body_of : Option Call → Option (List ℕ)
body_of None = None
body_of (Some call) = Some call.body

-- the reply of a looked-up call
abbrev pub reply_of : Option Call → Option (List ℕ)
reply_of None = None
reply_of (Some call) = call.reply
