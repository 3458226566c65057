use Rattle.std.proofs.Common.{◌≡◌, ◌≤◌, ℕ, length, take, map, vec_len, vec_capacity}
use Rattle.link_plan.specs.declared.Fate.{Fate}
use Rattle.kernel_rpc.proofs.wire.note_fates.Given as goal

-- the fates of the packets so far, and there is room for the others
abbrev pub invariant-loop-packet : goal.invariant-loop-packet
invariant-loop-packet l = record {
  fates : l.fates.items ≡ map (λ (packet : ℕ × Fate). packet.1) (take l.packet-index l.sent);
  count : vec_len l.fates ≡ l.packet-index;
  room : length l.sent ≤ vec_capacity l.fates;
}
