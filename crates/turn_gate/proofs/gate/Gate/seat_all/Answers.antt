use Rattle.std.proofs.Common.{rules, ◌≡◌, ◌∙◌, sym, ap, subst, All}
use Rattle.std.proofs.lemmas.List.Elements.{All-push}
use Rattle.turn_gate.proofs.SeatLaws.{deals_as, dealer_as, dealt_as, row_pushed_as}
use Rattle.turn_gate.proofs.gate.Gate.seat_all.Goals as goal

pub split_seat-token-requires : goal.split_seat-token-requires
split_seat-token-requires g c =
    let i = c.loop-tally.invariant in
    (i.table, search rules, deals_as _ _ _ _ _ c.loop-tally.first.id c.loop-tally.first.me.0 c.loop-tally.tally (ap (λ z. z.0) i.first) (search rules))

pub loop-tally-preserved : goal.loop-tally-preserved
loop-tally-preserved g c =
    let i = c.loop-tally.invariant in let s = c.split_seat-token.ensures in let p = c.push_reserved.ensures in record {
      low = search rules;
      high = search rules;
      table = s.0 ∙ i.table;
      first = dealer_as _ _ c.loop-tally.first.me c.split_seat-token.new.seat.me c.loop-tally.tally i.first s.2;
      row = row_pushed_as _ _ _ c.loop-tally.row.items c.push_reserved.new.self.items _ c.loop-tally.tally i.row i.long (dealt_as _ _ c.loop-tally.first.me c.split_seat-token.result.me c.loop-tally.tally i.first s.4) p.items;
      tables = subst (λ l. All (λ x. x.token.table_id ≡ c.args.self.now.table.shared.table_id) l) (sym p.items) (All-push (λ x. x.token.table_id ≡ c.args.self.now.table.shared.table_id) c.loop-tally.row.items _ i.tables (s.3 ∙ i.table));
      long = search rules;
      room = search rules;
    }
