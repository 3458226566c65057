-- Of each reached cluster that can't go on: no callback is out.
use Rattle.std.proofs.Common.{◌≡◌, ℕ, ◌≤◌, Some, sym, ap, ◌∙◌, true≢false}
use Rattle.kernel_rpc.specs.Machine.{holds}
use Rattle.unix_calls.specs.declared.Description.{Description}
use Rattle.cluster_kernels.specs.declared.KernelState.{KernelState}
use Rattle.cluster_kernels.specs.declared.KernelState.TheVariants as kernels
use Rattle.cluster_kernels.specs.States.{client_in, kernel_at}
use Rattle.sprite_cluster.specs.Reached.{At, Reached}
use Rattle.reached_receivers.proofs.ReceiverLaws.{owner_inside}
use Rattle.stall_laws.specs.Clients.{CallbacksAreUnfinished, NoneIsOut}
use Rattle.stall_laws.specs.Stalls.{CantGoOn}
use Rattle.stall_laws.proofs.LeftLaws.{none_waits, owner_at, waits_left}
use Rattle.stall_laws.proofs.StallLaws.{all_taken, no_call_left}
use Rattle.reached_callbacks.specs.Stalls.{ClientsHaveAll, IsWithClient, NoCallbackIsOut, ServersAreDone}
use Rattle.reached_callbacks.specs.Waits.{OnlyWaitsAreLeft}
use Rattle.reached_callbacks.proofs.CallbackLaws.{each_is_out}
use Rattle.reached_callbacks.proofs.FlushedLaws.{no_client_has_one}

module _ {L : Type 0} (faults asked : L → ℕ → ℕ → ℕ) where
  -- callbacks that are out are unfinished calls
  pub are_unfinished : (c : Description) (begun : L) (now : At L) → Reached faults asked c begun now → CallbacksAreUnfinished now
  are_unfinished c begun now reached kernel server at row low there e =
      let is = each_is_out faults asked c begun now kernel server at row.0 row.1 low reached there e in
      record { call = is.call; unfinished = is.there; request = record { file = row.1.file; stamp = is.stamp; kind = is.kind }; asks = is.asks }

  none_is_out : (c : Description) (begun : L) (now : At L) → Reached faults asked c begun now → CantGoOn c now.wire.machine now.state → NoneIsOut now
  none_is_out c begun now reached stuck = none_waits faults asked c begun now reached stuck (are_unfinished c begun now reached)

  pub no_callback_out : NoCallbackIsOut faults asked
  no_callback_out c begun now kernel server low reached stuck there = (none_is_out c begun now reached stuck).out kernel server low there

  pub servers_are_done : ServersAreDone faults asked
  servers_are_done c begun now kernel server low reached stuck there = (let none : NoneIsOut now = none_is_out c begun now reached stuck in record { none_out = none.out kernel server low there; none_kept = none.kept kernel server low there })

  pub clients_have_all : ClientsHaveAll faults asked
  clients_have_all c begun now tx call lawful reached stuck there = let at = owner_at faults asked c begun now tx call reached there in by at.0 at.1
    where
      low : 1 ≤ call.owner
      low = (owner_inside faults asked c begun now tx call reached there).0

      by : (state : KernelState) → kernel_at call.owner now.state ≡ Some state → IsWithClient now call
      by (kernels.Client client) e =
          let is = all_taken faults asked c begun now tx call reached stuck there in
          record {
            client = client;
            there = ap client_in e;
            taken = is;
            other = λ request asks. true≢false (sym (ap holds is.taken) ∙ no_client_has_one faults asked c begun now tx call request client reached there asks low (ap client_in e));
          }
      by (kernels.Server server) e =
          absurd (no_call_left faults asked c begun now tx call server lawful reached stuck (record { unfinished = there; numbered = low; there = e })
          (no_callback_out c begun now call.owner server low reached stuck e))

  pub only_waits : OnlyWaitsAreLeft faults asked
  only_waits c begun now lawful reached stuck = waits_left faults asked c begun now lawful reached stuck (are_unfinished c begun now reached)
