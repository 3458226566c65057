-- Whether some records of a trace that grows meet tests, one behind another.
use Rattle.std.proofs.Common.{◌≡◌, ◌∙◌, Bool, true, false, ◌&&◌, ◌||◌, List, [], ◌∷◌, ◌++◌, refl, ap, ap₂}
use Rattle.unix_calls.specs.declared.description.Description.{Description}
use Rattle.unix_calls.specs.declared.event.Rec.{Rec}
use Rattle.call_journal.specs.Past.{Past, past_with, past_from, some_from}
use Rattle.trace_laws.specs.SomeLaws.{none_behind, regrouped, some_if, some_none, some_plain, some_same}
use Rattle.kill_worth.proofs.TestLaws.{and_assoc}

-- a record that meets a test, and one behind it that meets another
abbrev pub two_from : Description → (Past → Rec → Bool) → (Rec → Rec → Bool) → Past → List Rec → Bool
two_from c first second past rs =
    some_from c (λ e r rest. first e r && some_from c (λ later s behind. second r s) (past_with c r e) rest) past rs

pub two_more : (c : Description) (first : Past → Rec → Bool) (second : Rec → Rec → Bool) (now past : Past) (rs : List Rec) (x : Rec) → past_from c past rs ≡ now → two_from c first second past (rs ++ x ∷ []) ≡ (two_from c first second past rs || some_from c (λ e r rest. first e r && second r x) past rs)
two_more c first second now past [] x is = none_behind (first past x)
two_more c first second now past (r ∷ rs) x is =
    let more = some_plain c (λ later s. second r s) now (past_with c r past) rs x is in
    ap₂ (λ l b. first past r && l || b) more (two_more c first second now (past_with c r past) rs x is)
    ∙ regrouped (first past r) (some_from c (λ later s behind. second r s) (past_with c r past) rs) (second r x) (two_from c first second (past_with c r past) rs) (some_from c (λ e s rest. first e s && second s x) (past_with c r past) rs)

pub two_same : (c : Description) (first : Past → Rec → Bool) (one other : Rec → Rec → Bool) (past : Past) (rs : List Rec) → ((r s : Rec) → one r s ≡ other r s) → two_from c first one past rs ≡ two_from c first other past rs
two_same c first one other past rs same =
    some_same c (λ e r rest. first e r && some_from c (λ later s behind. one r s) (past_with c r e) rest) (λ e r rest. first e r && some_from c (λ later s behind. other r s) (past_with c r e) rest) past rs
    (λ e r rest. ap (λ b. first e r && b) (some_same c (λ later s behind. one r s) (λ later s behind. other r s) (past_with c r e) rest (λ later s behind. same r s)))

pub two_none : (c : Description) (first : Past → Rec → Bool) (second : Rec → Rec → Bool) (past : Past) (rs : List Rec) → ((r s : Rec) → second r s ≡ false) → two_from c first second past rs ≡ false
two_none c first second past rs none =
    some_none c (λ e r rest. first e r && some_from c (λ later s behind. second r s) (past_with c r e) rest) past rs
    (λ e r rest. ap (λ b. first e r && b) (some_none c (λ later s behind. second r s) (past_with c r e) rest (λ later s behind. none r s)) ∙ by (first e r))
  where
    by : (b : Bool) → (b && false) ≡ false
    by true = refl
    by false = refl

pub two_if : (c : Description) (first : Past → Rec → Bool) (second : Rec → Rec → Bool) (w : Bool) (past : Past) (rs : List Rec) → two_from c first (λ r s. second r s && w) past rs ≡ (two_from c first second past rs && w)
two_if c first second w past rs =
    some_same c (λ e r rest. first e r && some_from c (λ later s behind. second r s && w) (past_with c r e) rest) (λ e r rest. (first e r && some_from c (λ later s behind. second r s) (past_with c r e) rest) && w) past rs
    (λ e r rest.
    ap (λ b. first e r && b) (some_if c (λ later s behind. second r s) w (past_with c r e) rest)
    ∙ and_assoc (first e r) (some_from c (λ later s behind. second r s) (past_with c r e) rest) w)
    ∙ some_if c (λ e r rest. first e r && some_from c (λ later s behind. second r s) (past_with c r e) rest) w past rs

-- one more behind the second
abbrev pub behind_from : Description → (Rec → Bool) → (Rec → Past → Rec → Bool) → Past → List Rec → Bool
behind_from c second third past rs =
    some_from c (λ e s rest. second s && some_from c (λ later t behind. third s later t) (past_with c s e) rest) past rs

behind_more : (c : Description) (second : Rec → Bool) (third : Rec → Past → Rec → Bool) (now past : Past) (rs : List Rec) (x : Rec) → past_from c past rs ≡ now → behind_from c second third past (rs ++ x ∷ []) ≡ (behind_from c second third past rs || some_from c (λ e s rest. second s && third s now x) past rs)
behind_more c second third now past [] x is = none_behind (second x)
behind_more c second third now past (s ∷ rs) x is =
    let more = some_plain c (λ later t. third s later t) now (past_with c s past) rs x is in
    ap₂ (λ l b. second s && l || b) more (behind_more c second third now (past_with c s past) rs x is)
    ∙ regrouped (second s) (some_from c (λ later t behind. third s later t) (past_with c s past) rs) (third s now x) (behind_from c second third (past_with c s past) rs) (some_from c (λ e t rest. second t && third t now x) (past_with c s past) rs)

abbrev pub three_from : Description → (Past → Rec → Bool) → (Rec → Rec → Bool) → (Rec → Past → Rec → Bool) → Past → List Rec → Bool
three_from c first second third past rs =
    some_from c (λ e r rest. first e r && behind_from c (second r) third (past_with c r e) rest) past rs

pub three_more : (c : Description) (first : Past → Rec → Bool) (second : Rec → Rec → Bool) (third : Rec → Past → Rec → Bool) (now past : Past) (rs : List Rec) (x : Rec) → past_from c past rs ≡ now → three_from c first second third past (rs ++ x ∷ []) ≡ (three_from c first second third past rs || two_from c first (λ r s. second r s && third s now x) past rs)
three_more c first second third now past [] x is = none_behind (first past x)
three_more c first second third now past (r ∷ rs) x is =
    let more = behind_more c (second r) third now (past_with c r past) rs x is in
    ap₂ (λ l b. first past r && l || b) more (three_more c first second third now (past_with c r past) rs x is)
    ∙ regrouped (first past r) (behind_from c (second r) third (past_with c r past) rs) (some_from c (λ e s rest. second r s && third s now x) (past_with c r past) rs) (three_from c first second third (past_with c r past) rs) (two_from c first (λ q s. second q s && third s now x) (past_with c r past) rs)

-- ---- the past that is reached

pub past_last : (c : Description) (past : Past) (rs : List Rec) (x : Rec) → past_from c past (rs ++ x ∷ []) ≡ past_with c x (past_from c past rs)
past_last c past [] x = refl
past_last c past (r ∷ rs) x = past_last c (past_with c r past) rs x
