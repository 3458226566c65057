-- A rule of a trace is kept where each record keeps it, by what is kept of those before it and by those behind it.
use Rattle.std.proofs.Common.{◌≡◌, ◌∙◌, Bool, true, false, ◌&&◌, List, [], ◌∷◌, refl, sym, ap}
use Rattle.unix_calls.specs.declared.description.Description.{Description}
use Rattle.unix_calls.specs.declared.event.Rec.{Rec}
use Rattle.call_journal.specs.Past.{Past, each_from, each_record, no_past, past_with}
use Rattle.trace_forms.specs.Facing.{Facing}

-- before the first record
pub begins : (c : Description) (test : Past → Rec → List Rec → Bool) (Tells : Past → List Rec → Type 0) (trace : List Rec) → Tells (no_past c) trace → Facing c test Tells trace trace
begins c test Tells trace told = record { past = no_past c; told = told; left = refl }

-- where a record doesn't keep the rule, the trace doesn't
pub breaks : (c : Description) (test : Past → Rec → List Rec → Bool) (Tells : Past → List Rec → Type 0) (trace rest : List Rec) (rec : Rec) (facing : Facing c test Tells trace (rec ∷ rest)) → test facing.past rec rest ≡ false → false ≡ each_record c test trace
breaks c test Tells trace rest rec facing e =
    sym (ap (λ b. b && each_from c test (past_with c rec facing.past) rest) e) ∙ facing.left

-- where it does, the rest decides
pub goes : (c : Description) (test : Past → Rec → List Rec → Bool) (Tells More : Past → List Rec → Type 0) (trace rest : List Rec) (rec : Rec) (facing : Facing c test Tells trace (rec ∷ rest)) → test facing.past rec rest ≡ true → More (past_with c rec facing.past) rest → Facing c test More trace rest
goes c test Tells More trace rest rec facing e told = record {
  past = past_with c rec facing.past;
  told = told;
  left = sym (ap (λ b. b && each_from c test (past_with c rec facing.past) rest) e) ∙ facing.left;
}

-- behind the last one all do
pub ends : (c : Description) (test : Past → Rec → List Rec → Bool) (Tells : Past → List Rec → Type 0) (trace : List Rec) → Facing c test Tells trace [] → true ≡ each_record c test trace
ends c test Tells trace facing = facing.left
