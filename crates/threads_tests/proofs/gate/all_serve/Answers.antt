use Rattle.std.proofs.Common.{rules, IfOk, subst, sym, Result, Ok, Err}
use Rattle.std.specs.Prelude.{slice_index_or}
use Rattle.turn_gate.specs.Steps.{Later}
use Rattle.turn_gate.proofs.SeatLaws.{all_later}
use Rattle.threads_tests.proofs.gate.all_serve.Goals as goal

both : {T E : Type 0} (r : Result T E) (P Q R : T → Type 0) → IfOk r P → IfOk r Q → ((x : T) → P x → Q x → R x) → IfOk r R
both (Ok x) P Q R p q f = f x p q
both (Err e) P Q R p q f = tt

pub returns-clause-all : goal.returns-clause-all
returns-clause-all g c = both c.map_vec.result _ _ _ c.map_vec.ensures.len c.map_vec.ensures.each
    (λ v long each. all_later (λ s. s.token.me.0) c.args.seats.items v.items c.requires.all (search (rules, long)) (λ i d low. let h = (each i d low).1 in subst (λ s. Later s.token.me.0 (slice_index_or v.items i d).token.me.0) (sym (h.job_is d)) h.call.met.1))
