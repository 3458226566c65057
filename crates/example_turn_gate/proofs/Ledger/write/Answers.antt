use Rattle.std.proofs.Common.{rules, ◌≡◌, ◌+◌, ◌++◌, ◌∷◌, [], ap, sym, ◌∙◌}
use Rattle.example_turn_gate.specs.Sums.{sum_of}
use Rattle.example_turn_gate.proofs.SumLaws.{summed_more}
use Rattle.example_turn_gate.proofs.Ledger.write.Goals as goal

pub returns-then-is_ok-clause-summed : goal.returns-then-is_ok-clause-summed
returns-then-is_ok-clause-summed c =
    let grown : c.push.new.self.items ≡ c.args.self.now.amounts.items ++ (c.args.seat, c.args.amount) ∷ [] = search rules in
    let more : c.in-Some.sum ≡ c.args.self.now.sum + c.args.amount = search rules in
    more ∙ summed_more c.args.self.now.opening c.args.self.now.sum c.args.self.now.amounts.items c.args.seat c.args.amount c.requires
    ∙ ap (λ xs. c.args.self.now.opening + sum_of xs) (sym grown)
