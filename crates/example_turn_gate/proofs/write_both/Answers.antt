use Rattle.std.proofs.Common.{rules, ◌≡◌}
use Rattle.example_turn_gate.proofs.PairLaws.{two_tables}
use Rattle.example_turn_gate.proofs.write_both.Goals as goal

pub returns-clause-table : goal.returns-clause-table
returns-clause-table g c = two_tables (λ s. s.token.table_id ≡ c.args.gate.now.table.shared.table_id) c.args.seats.items c.push_reserved-3.new.self.items c.pop-2.new.self.items c.in-Some-pop.first c.in-Some.second c.join-first.result.0 c.join-first.result.1 (search rules) (search rules) c.requires.table (λ h. search (rules, h)) (λ h. search (rules, h))
