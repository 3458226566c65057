-- Rows that are read one line after the other.
use Rattle.std.proofs.Common.{◌≡◌, ◌∙◌, ℕ, ◌+◌, List, [], ◌∷◌, ◌++◌, Option, Some, Result, Ok, Err, refl, sym, ap, append_assoc}
use Rattle.text_lines.specs.Lines.{lines_of}
use Rattle.text_rows.specs.Rows.{before_others, behind_rows, row_read, rows_read}

one_more : {T : Type 0} (rows : List T) (one : T) (read : Result (List T) ℕ) → behind_rows (rows ++ one ∷ []) read ≡ behind_rows rows (before_others one read)
one_more rows one (Ok more) = ap Ok (append_assoc rows (one ∷ []) more)
one_more rows one (Err line) = refl

-- with the row of one line more
pub rows_go : {T : Type 0} (read : ℕ → List ℕ → Option T) (number next : ℕ) (rows : List T) (one : T) (line rest behind : List ℕ) (all : Result (List T) ℕ) → lines_of rest ≡ line ∷ lines_of behind → read number line ≡ Some one → next ≡ number + 1 → behind_rows rows (rows_read read number (lines_of rest)) ≡ all → behind_rows (rows ++ one ∷ []) (rows_read read next (lines_of behind)) ≡ all
rows_go read number next rows one line rest behind all lines is count here =
    ap (λ n. behind_rows (rows ++ one ∷ []) (rows_read read n (lines_of behind))) count
    ∙ (one_more rows one (rows_read read (number + 1) (lines_of behind))
    ∙ (ap (λ o. behind_rows rows (row_read number o (rows_read read (number + 1) (lines_of behind)))) (sym is)
    ∙ (ap (λ ls. behind_rows rows (rows_read read number ls)) (sym lines) ∙ here)))
