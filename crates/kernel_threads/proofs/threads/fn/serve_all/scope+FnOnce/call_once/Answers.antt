use Rattle.std.proofs.Common.{rules}
use denote.Param.Send.{param_send, copied_send, param_sync}
use Rattle.kernel_threads.proofs.BoundLaws.{sent_again, copied_again, shared_again}
use Rattle.kernel_threads.proofs.threads.fn.serve_all.scope+FnOnce.call_once.Goals as goal

pub scope-requires : goal.scope-requires
scope-requires g c = search (rules, sent_again, copied_again, shared_again, param_send, copied_send, param_sync)
