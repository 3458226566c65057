use Rattle.std.proofs.Common.{◌≡◌, ◌∙◌, ap, List}
use Rattle.unix_calls.specs.declared.entry.Entry.{Entry}
use Rattle.one_kernel.specs.Verdicts.{verdict_of}
use Rattle.parted_text.specs.Parted.{most_instructions}
use Rattle.history_check.proofs.VerdictLaws.{tells_of}
use Rattle.history_check.proofs.judging.judge_body.Goals as goal

pub returns-in_ok-verdict-in-Ok : goal.returns-in_ok-verdict-in-Ok
unfolding most_instructions
returns-in_ok-verdict-in-Ok c =
    let told : c.in_ok-verdict-in-Ok.verdict ≡ verdict_of c.args.cluster.now most_instructions c.in-Ok.entries.items =
    c.in_ok-verdict-in-Ok.ensures ∙ ap (λ (entries : List Entry). verdict_of c.args.cluster.now most_instructions entries) c.as_slice.ensures.value in
    record {
      entries = c.in-Ok.entries.items;
      reads = c.in-Ok.ensures.ok;
      verdict_is = told;
      tells = tells_of c.args.cluster.now c.in-Ok.entries.items c.in_ok-verdict-in-Ok.verdict told;
    }
