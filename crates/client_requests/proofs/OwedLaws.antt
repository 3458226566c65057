-- What a client's kernel owes an answer it gives in the step or keeps.
use Rattle.std.proofs.Common.{arith, ◌≡◌, ap, ◌∙◌, ℕ, ◌+◌, ◌≤◌, Bool, cond}
use Rattle.sprite_ids.specs.Lists.{one_if}
use Rattle.sprite_ids.specs.declared.TxNo.{TxNo}
use Rattle.kernel_steps.specs.declared.Input.{Input}
use Rattle.kernel_steps.specs.declared.writer.Out.{Out}
use Rattle.client_homes.specs.declared.client.ClientProcs.{ClientProcs}
use Rattle.client_homes.specs.Procs.{is_call}
use Rattle.client_procs.specs.Steps.{client_step}
use Rattle.client_requests.specs.Kept.{answers_in, kept}
use Rattle.client_requests.specs.Owed.{HasCome, IsOwed, OwedAreAnsweredOrKept, WasKept}
use Rattle.client_requests.specs.Requests.{taken_in}
use Rattle.client_requests.proofs.RequestLaws.{either, steps_take_so}
use Rattle.client_requests.proofs.ServedLaws.{self_call}

owed_by : (k f : ℕ) → f ≡ 1 → 1 ≤ k + f
owed_by k f e = omega arith

more_kept : (k f : ℕ) → 1 ≤ k → 1 ≤ k + f
more_kept k f h = omega arith

owed : (tx : TxNo) (s : ClientProcs) (input : Input) → IsOwed tx s input → 1 ≤ kept tx s + taken_in tx input s
owed tx s input (WasKept h) = more_kept (kept tx s) (taken_in tx input s) h
owed tx s input (HasCome source body e off) =
    owed_by (kept tx s) (taken_in tx input s) (ap (λ (i : Input). taken_in tx i s) e ∙ (ap (λ (b : Bool). cond b 0 (one_if (is_call tx tx))) off ∙ self_call tx))

some_out : (c r k : ℕ) → 1 ≤ c → c ≤ k + r → 1 ≤ r + k
some_out c r k h l = omega arith

pub owed_are_answered_or_kept : OwedAreAnsweredOrKept
owed_are_answered_or_kept s input next step tx o =
    let after : ClientProcs × Out = client_step s input next step in
    either (answers_in tx after.1) (kept tx after.0) (some_out (kept tx s + taken_in tx input s) (answers_in tx after.1) (kept tx after.0) (owed tx s input o) (steps_take_so s input next step tx).none_lost)
