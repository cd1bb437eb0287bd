-- The place of a row in its statement, where statements never fall.
use Rattle.std.proofs.Common.{◌≡◌, ℕ, zero, suc, ◌+◌, ◌<◌, ◌≤◌, Bool, true, false, cond, List, length, take, get_or, refl, sym, ◌∙◌, ap, arith}
use Rattle.std.specs.Prelude.{◌==◌, if◌then◌else◌, count_by}
use Rattle.std.proofs.lemmas.Bool.Decides.{nat_tests}
use Rattle.std.proofs.lemmas.List.Sums.{count_by_more_yes, count_by_more_no}
use Rattle.zim_rows.specs.declared.rows.Row.{Row}
use Rattle.zim_table.specs.Text.{statement_of}

-- how many of the first rows are of a statement
abbrev pub count_of : List Row → ℕ → ℕ → ℕ
count_of rows i statement = count_by (λ (r : Row). statement_of r == statement) (take i rows)

same_test : (m n : ℕ) → m ≡ n → (m == n) ≡ true
same_test m n e = grind (arith, nat_tests)

other_test : (m n : ℕ) → m < n → (m == n) ≡ false
other_test m n h = grind (arith, nat_tests)

none_of : (rows : List Row) (i statement : ℕ) → i ≤ length rows → ((k : ℕ) (d : Row) → k < i → statement_of (get_or rows k d) < statement) → (d : Row) → count_of rows i statement ≡ 0
none_of rows zero statement h below d = refl
none_of rows (suc i) statement h below d =
    let more : suc i ≡ i + 1 = omega arith in
    ap (λ (n : ℕ). count_of rows n statement) more
    ∙ count_by_more_no (λ (r : Row). statement_of r == statement) rows i d (omega arith) (other_test (statement_of (get_or rows i d)) statement (below i d (omega arith)))
    ∙ none_of rows i statement (omega arith) (λ k e m. below k e (omega arith)) d

-- the place of the next row, from that of the last one
pub place_next : (rows : List Row) (i : ℕ) (d : Row) (last place : ℕ) → i < length rows → place ≡ count_of rows i last → ((k : ℕ) (e : Row) → k < i → statement_of (get_or rows k e) ≤ last) → last ≤ statement_of (get_or rows i d) → (if statement_of (get_or rows i d) == last then place + 1 else 1) ≡ count_of rows (i + 1) (statement_of (get_or rows i d))
place_next rows i d last place h counted before rising = by_statement (statement_of (get_or rows i d) == last) refl
  where
    by_statement : (b : Bool) → (statement_of (get_or rows i d) == last) ≡ b → cond b (place + 1) 1 ≡ count_of rows (i + 1) (statement_of (get_or rows i d))
    by_statement true e =
        let same : statement_of (get_or rows i d) ≡ last = grind (arith, nat_tests) in
        ap (λ (n : ℕ). n + 1) (counted ∙ ap (count_of rows i) (sym same))
        ∙ sym (count_by_more_yes (λ (r : Row). statement_of r == statement_of (get_or rows i d)) rows i d h (same_test (statement_of (get_or rows i d)) (statement_of (get_or rows i d)) refl))
    by_statement false e =
        let more : last < statement_of (get_or rows i d) = grind (arith, nat_tests) in
        let none : count_of rows i (statement_of (get_or rows i d)) ≡ 0 = none_of rows i (statement_of (get_or rows i d)) (omega arith) (λ k f m. let low = before k f m in omega arith) d in
        let one : 0 + 1 ≡ 1 = refl in
        sym (count_by_more_yes (λ (r : Row). statement_of r == statement_of (get_or rows i d)) rows i d h (same_test (statement_of (get_or rows i d)) (statement_of (get_or rows i d)) refl)
        ∙ ap (λ (n : ℕ). n + 1) none)
