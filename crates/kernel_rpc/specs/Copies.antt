-- The copies of packets that a link puts in flight.
use Rattle.std.specs.Prelude.{ℕ, ◌+◌, true, List, [], ◌∷◌, ◌++◌}
use Rattle.link_plan.specs.declared.Fate.{Fate}
use Rattle.link_plan.specs.declared.Fate.TheVariants.{Once, Lost, Twice, Late}
use Rattle.kernel_rpc.specs.declared.call.PacketCopy.{PacketCopy}

-- the copies of one packet; a second one has the next number
abbrev pub copies_by : Fate → PacketCopy → List PacketCopy
copies_by Once copy = copy ∷ []
copies_by Lost copy = []
copies_by Twice copy = copy ∷ record copy { number = record { 0 = copy.number.0 + 1 } } ∷ []
copies_by Late copy = record copy { late = true } ∷ []

-- the copies of a packet to several receivers, by their fates; each of these packets takes two numbers
abbrev pub requests : PacketCopy → ℕ → List (ℕ × Fate) → List PacketCopy
requests packet number [] = []
requests packet number (sent ∷ rest) = copies_by sent.1 (record packet { number = record { 0 = number }; to = sent.0 }) ++ requests packet (number + 2) rest
