-- What a home's table tells of each process.
use Rattle.std.proofs.Common.{◌≡◌, ◌&&◌, ℕ, true, not, Option, Some, None, refl, sym, ap, ap₂, ◌∙◌, arith}
use Rattle.std.specs.Option.{is_some, option_map}
use Rattle.home_table.specs.declared.Birth.{Birth}
use Rattle.home_table.specs.declared.Life.{Life}
use Rattle.home_table.specs.declared.Life.TheVariants.{Living, Ended, Waited}
use Rattle.home_table.specs.Home.{Table, birth_at, index_of, is_living, is_pending, is_so}
use Rattle.unix_calls.specs.declared.state.Process.{Process}
use Rattle.unix_calls.specs.State.{Unix, lives, process_at}
use Rattle.home_laws.specs.Homes.{ending_in, was_waited}
use Rattle.home_laws.specs.Tells.{TablesTell, TellsOf, is_dying}
use Rattle.home_laws.proofs.BornLaws.{BothBorn}
use Rattle.home_laws.proofs.HomeCallLaws.{births_are}
use Rattle.home_laws.proofs.LeadLaws.{looked_born}

dying_by : (life : Life) (p : Process) → p.ending ≡ ending_in life → (is_living life ≡ true → p.killed ≡ is_pending life) → is_pending life ≡ lives p && p.killed
dying_by (Living pending) p end killed = sym (ap₂ (λ o k. not (is_some o) && k) end (killed refl))
dying_by (Ended how) p end killed = sym (ap (λ o. not (is_some o) && p.killed) end)
dying_by (Waited how) p end killed = sym (ap (λ o. not (is_some o) && p.killed) end)

tells_of : (table : Table) (u : Unix) (pid : ℕ) (b : Option Birth) (p : Option Process) → birth_at table.births pid ≡ b → process_at u.processes pid ≡ p → BothBorn table.home (index_of pid) b p → TellsOf table u pid
tells_of table u pid None None got there both =
    record {
      parent = ap (option_map (λ (b : Birth). b.parent)) got ∙ sym (ap (option_map (λ (p : Process). p.parent)) there);
      ending = ap (option_map (λ (b : Birth). ending_in b.life)) got ∙ sym (ap (option_map (λ (p : Process). p.ending)) there);
      waited = ap (option_map (λ (b : Birth). was_waited b.life)) got ∙ sym (ap (option_map (λ (p : Process). p.waited)) there);
      pending = ap (λ o. is_so is_pending (option_map (λ (b : Birth). b.life) o)) got ∙ sym (ap is_dying there);
    }
tells_of table u pid None (Some p) got there both = absurd both
tells_of table u pid (Some b) None got there both = absurd both
tells_of table u pid (Some b) (Some p) got there both =
    record {
      parent = ap (option_map (λ (b : Birth). b.parent)) got ∙ ap Some (sym both.parent) ∙ sym (ap (option_map (λ (p : Process). p.parent)) there);
      ending = ap (option_map (λ (b : Birth). ending_in b.life)) got ∙ ap Some (sym both.ending) ∙ sym (ap (option_map (λ (p : Process). p.ending)) there);
      waited = ap (option_map (λ (b : Birth). was_waited b.life)) got ∙ ap Some (sym both.waited) ∙ sym (ap (option_map (λ (p : Process). p.waited)) there);
      pending = ap (λ o. is_so is_pending (option_map (λ (b : Birth). b.life) o)) got ∙ dying_by b.life p both.ending both.killed ∙ sym (ap is_dying there);
    }

pub tables_tell : TablesTell
tables_tell table u h =
    let many = births_are table u h in
    record {
      each = λ pid home from. tells_of table u pid (birth_at table.births pid) (process_at u.processes pid) refl refl (looked_born table u pid h home from);
      many = many;
      next = omega (arith, many);
    }
