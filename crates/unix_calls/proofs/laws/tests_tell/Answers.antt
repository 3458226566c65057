use Rattle.std.proofs.Common.{◌≡◌, true, subst}
use Rattle.process_machine.specs.declared.call.Call.{Call}
use Rattle.process_machine.specs.declared.call.Reply.{Reply}
use Rattle.unix_calls.specs.Same.{same_call, same_reply}
use Rattle.unix_calls.proofs.SameLaws.{call_is, call_same, reply_is, reply_same}
use Rattle.unix_calls.proofs.laws.tests_tell.Goals as goal

pub returns : goal.returns
returns c =
    record {
      calls = λ (one two : Call). (call_is one two, λ (e : one ≡ two). subst (λ (x : Call). same_call one x ≡ true) e (call_same one));
      replies = λ (one two : Reply). (reply_is one two, λ (e : one ≡ two). subst (λ (x : Reply). same_reply one x ≡ true) e (reply_same one));
    }
