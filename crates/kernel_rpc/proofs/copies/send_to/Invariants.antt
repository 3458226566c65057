use Rattle.std.proofs.Common.{◌≡◌, ◌≤◌, ◌+◌, ◌*◌, ◌-◌, ◌++◌, length, take, map, vec_len, vec_capacity}
use Rattle.link_plan.specs.Counts.{Asks}
use Rattle.kernel_rpc.specs.declared.call.Receiver.{Receiver}
use Rattle.kernel_rpc.specs.Copies.{requests}
use Rattle.kernel_rpc.proofs.copies.send_to.Given as goal

-- the packets so far went to the receivers so far, and there is room for the others
abbrev pub invariant-loop-receiver : goal.invariant-loop-receiver
invariant-loop-receiver g l = record {
  number : l.number ≡ l.packet.number.0 + 2 * l.receiver-index;
  count : length l.sent.items ≡ l.receiver-index;
  receivers : map (λ packet. packet.0) l.sent.items ≡ map (λ (receiver : Receiver). receiver.kernel) (take l.receiver-index l.receivers);
  copies : l.copies.items ≡ l.fn.copies.items ++ requests l.packet l.packet.number.0 l.sent.items;
  link : Asks g.L.Link.faults g.L.Link.asked l.packet.from l.fn.link l.link l.sent.items;
  room : vec_len l.copies + 2 * (length l.receivers - l.receiver-index) ≤ vec_capacity l.copies;
  notes : length l.receivers ≤ vec_capacity l.sent;
  noted : vec_len l.sent ≡ l.receiver-index;
}
