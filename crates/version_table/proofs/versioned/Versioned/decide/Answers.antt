use Rattle.std.proofs.Common.{sym, ap, ◌∙◌, fold, true≢false, Some}
use Rattle.version_table.specs.declared.action.Decision.TheVariants.{Grant}
use Rattle.version_table.specs.declared.versioned.Versioned.{Versioned}
use Rattle.version_table.specs.Files.{called, told}
use Rattle.version_table.proofs.DecisionLaws.{granted_decided, granted_answer, called_decided, called_answer}
use Rattle.version_table.proofs.versioned.Versioned.decide.Goals as goal

pub returns-then-is_empty-clause-ok : goal.returns-then-is_empty-clause-ok
returns-then-is_empty-clause-ok c =
    c.grant-grant.ensures.file ∙ granted_decided c.args.cached c.args.self.now c.args.action.now c.is_uncached-uncached.result c.in_ok-opens.opens c.in_ok-shared.shared c.in_ok-calls.calls c.in_ok-opens.ensures c.in_ok-shared.ensures c.is_uncached-uncached.ensures c.in_ok-calls.ensures (c.is_empty.ensures.0 c.if-is_empty.true)

pub returns-then-is_empty-clause-decision : goal.returns-then-is_empty-clause-decision
returns-then-is_empty-clause-decision c =
    ap Grant c.grant-grant.ensures.grant ∙ granted_answer c.args.cached c.args.self.now c.args.action.now c.is_uncached-uncached.result c.in_ok-calls.calls c.is_uncached-uncached.ensures c.in_ok-calls.ensures (c.is_empty.ensures.0 c.if-is_empty.true)

pub returns-clause-ok : goal.returns-clause-ok
returns-clause-ok c =
    let before : Versioned = record (told c.is_uncached-uncached.result c.args.self.now) { asking = Some (record { action = c.args.action.now; opens = c.in_ok-opens.opens; shared = c.in_ok-shared.shared }) } in
    c.call_all.ensures ∙ ap (fold called before) c.as_slice-3.ensures ∙ called_decided c.args.cached c.args.self.now c.args.action.now c.is_uncached-uncached.result c.in_ok-opens.opens c.in_ok-shared.shared c.in_ok-calls.calls c.in_ok-opens.ensures c.in_ok-shared.ensures c.is_uncached-uncached.ensures c.in_ok-calls.ensures (λ e. true≢false (sym (c.is_empty.ensures.1 e) ∙ c.if-is_empty.false))

pub returns-clause-decision : goal.returns-clause-decision
returns-clause-decision c =
    called_answer c.args.cached c.args.self.now c.args.action.now c.is_uncached-uncached.result c.in_ok-calls.calls c.is_uncached-uncached.ensures c.in_ok-calls.ensures (λ e. true≢false (sym (c.is_empty.ensures.1 e) ∙ c.if-is_empty.false))
