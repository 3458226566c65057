-- Whether some record of a trace that grows meets a test, and one behind it another.
use Rattle.std.proofs.Common.{◌≡◌, ◌∙◌, Bool, ◌&&◌, ◌||◌, List, [], ◌∷◌, ◌++◌, ap, ap₂}
use Rattle.std.specs.List.{list_any}
use Rattle.std.proofs.lemmas.List.Folds.{list_any-append}
use Rattle.unix_calls.specs.declared.description.Description.{Description}
use Rattle.unix_calls.specs.declared.event.Rec.{Rec}
use Rattle.call_journal.specs.Past.{Past, past_with, some_from}
use Rattle.trace_laws.specs.SomeLaws.{none_behind, or_false, regrouped}

-- with one record more
pub some_behind : (c : Description) (first : Past → Rec → Bool) (second : Rec → Rec → Bool) (past : Past) (rs : List Rec) (x : Rec) → some_from c (λ e r rest. first e r && list_any (second r) rest) past (rs ++ x ∷ []) ≡ (some_from c (λ e r rest. first e r && list_any (second r) rest) past rs || some_from c (λ e r rest. first e r && second r x) past rs)
some_behind c first second past [] x = none_behind (first past x)
some_behind c first second past (r ∷ rs) x =
    ap₂ (λ l b. first past r && l || b)
    (list_any-append (second r) rs (x ∷ []) ∙ ap (λ b. list_any (second r) rs || b) (or_false (second r x)))
    (some_behind c first second (past_with c r past) rs x)
    ∙ regrouped (first past r) (list_any (second r) rs) (second r x) (some_from c (λ e s rest. first e s && list_any (second s) rest) (past_with c r past) rs) (some_from c (λ e s rest. first e s && second s x) (past_with c r past) rs)
