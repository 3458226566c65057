-- A remote call that is given up, in the records of a trace.
use Rattle.std.specs.Prelude.{◌≡◌, true, List, ◌∷◌, ◌++◌, Option, Some}
use Rattle.sprite_ids.specs.declared.TxNo.{TxNo}
use Rattle.kernel_rpc.specs.declared.Call.{Call}
use Rattle.kernel_rpc.specs.Histories.{reached}
use Rattle.kernel_rpc.specs.Machine.{call_of, idle, is_last, may_expire}
use Rattle.kernel_rpc.specs.Runs.{Act, Counts, IsRun}
use Rattle.unix_calls.specs.declared.About.{About}
use Rattle.unix_calls.specs.declared.Event.TheVariants as events
use Rattle.unix_calls.specs.declared.Rec.{Rec}
use Rattle.unix_calls.specs.declared.SendKind.{SendKind}
use Rattle.call_journal.specs.Unreachable.{gave_up}
use Rattle.cluster_wire.specs.Ran.{told_of}
use Rattle.cluster_wire_laws.specs.Links.{all_told_by, of_link}

-- of each trace that tells, of packets and timers, the acts of a run: where behind the run the timer of a call may fire for the last time,
-- then behind each record that its caller sent the call to the one that was to answer it, with the record that the timer fired so, the call
-- was given up: it was tried eight times, at least eight packets between the two were lost, and no answer came
abbrev pub GivenUpBehindSends : Type 0
GivenUpBehindSends =
    (first : Counts) (steps : List (Act × Counts)) (trace before between more : List Rec) (tx : TxNo) (call : Call) (about : Option About) (kind : SendKind)
    → IsRun idle first steps → of_link trace ≡ told_of all_told_by idle steps
    → call_of (reached idle steps) tx ≡ Some call → may_expire (reached idle steps) tx ≡ true → is_last call ≡ true
    → trace ≡ before ++ record { kernel = call.from; event = events.Send tx call.owner about kind } ∷ between
    → gave_up call.from tx.0 call.owner (between ++ record { kernel = call.from; event = events.Expire tx true } ∷ more) ≡ true
