-- A client's answers send no call on.
use Rattle.std.proofs.Common.{◌≡◌, false}
use Rattle.sprite_ids.specs.declared.TxNo.{TxNo}
use Rattle.sprite_ids.proofs.ListLaws.{each_push}
use Rattle.packet_bodies.specs.declared.ReplyBody.{ReplyBody}
use Rattle.kernel_steps.specs.declared.Input.{Input}
use Rattle.client_procs.specs.Steps.{begins_step}
use Rattle.client_walks.specs.Answers.{ClientsSendNoneOn, SendNoneOn, is_redirect}
use Rattle.client_walks.proofs.Bearing.{Bears, Seen}
use Rattle.client_walks.proofs.StepBearing.{whole_step}

abbrev NoneSentOn : Seen → Type 0
NoneSentOn seen = SendNoneOn seen.answers

answering : (came : Input) → Bears came NoneSentOn
answering came = record {
  telling = record {
    tells = λ seen event h q. q;
    enters = λ seen entry cause q. q;
    says = λ seen sending kind h q. q;
    answers = λ seen tx body here q. each_push (λ (answer : TxNo × ReplyBody). is_redirect answer.1 ≡ false) seen.answers (tx, body) q here;
    keeps = λ seen pid operation plain q. q;
    left = λ seen pid q. q;
    puts_back = λ seen pid operation e q. q;
    broadcasts = λ seen pid work prefix may e q. q;
    echoes = λ seen pid work server q. q;
    asks = λ seen pid work server q. q;
  };
  learns = λ seen prefix server e q. q;
}

pub send_none_on : ClientsSendNoneOn
send_none_on s input next step = whole_step input NoneSentOn (answering input) (begins_step next step s) tt
