use Rattle.std.proofs.Common.{Bool, true, false, ◌≡◌, refl, sym, true≢false}
use Rattle.std.specs.List.{list_any}
use Rattle.stream_table.specs.Owners.{owners_in, is_owner}
use Rattle.stream_table.proofs.owners.put.Goals as goal

either : (b : Bool) → (b ≡ true → ⊥) → (b ≡ false → ⊥) → ⊥
either true f g = f refl
either false f g = g refl

pub unreachable-requires : goal.unreachable-requires
unreachable-requires c =
    either (list_any (is_owner c.args.pid) (owners_in c.args.owners.now.entries)) (λ there. true≢false (sym (c.in-Err.ensures.there there))) (λ none. true≢false (sym (c.in-Err.ensures.room (c.requires none))))
