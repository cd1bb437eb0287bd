-- The lines of a text, one after another, and the rows of a file of which they are kept.
use Rattle.std.proofs.Common.{◌≡◌, ℕ, suc, ◌+◌, ◌-◌, ◌≤◌, ◌<◌, Bool, true, false, List, [], ◌∷◌, ◌++◌, length, take, drop, Option, Some, None, Ok, Err, refl, ap, sym, ◌∙◌, subst, arith, length-drop}
use Rattle.std.specs.Prelude.{◌==◌, nat_le, if◌then◌else◌}
use Rattle.std.specs.List.{slice_split, enumerate_from}
use Rattle.std.proofs.lemmas.Bool.Decides.{nat_tests}
use Rattle.std.proofs.lemmas.List.{take_all}
use Rattle.std.proofs.lemmas.List.Splits.{length-slice_split}
use Rattle.memchr.specs.Find.{IsFirstByte, is_byte}
use Rattle.zim_answer.specs.Answer.{Answer, ◌>>=◌, goes}
use Rattle.zim_answer.specs.Gives.{Cause, Stops}
use Rattle.zim_answer.proofs.BindLemmas.{bind_assoc}
use Rattle.zim_answer.proofs.GivesLemmas.{Stops-bind}
use Rattle.zim_answer.proofs.GoesLemmas.{goes-nil, goes-cons, goes-append}
use Rattle.zim_fault.specs.declared.faults.Fault.{Fault}
use Rattle.zim_fault.specs.declared.kinds.Kind.TheVariants.{LongFile}
use Rattle.zim_read.specs.declared.rows.DataRow.{DataRow}
use Rattle.zim_read.specs.declared.rows.Taken.{Taken}
use Rattle.zim_read.specs.Lines.{most_file_bytes, without_return, ended_parts, last_part, ended_lines, behind_last_end, line_without_end, data_lines}
use Rattle.zim_read.specs.Private.{kept_of, ended_taken, rows_of_kept}
use Rattle.zim_read.specs.Rows.{Manner, fault_at, untaken, line_taken, lines_taken, data_rows}
use Rattle.zim_read.proofs.SearchLemmas.{found_within, split_found, split_unfound}

-- ---- the lines that end

ended_more : (part : List ℕ) (parts : List (List ℕ)) → 0 < length parts → ended_parts (part ∷ parts) ≡ without_return part ∷ ended_parts parts
ended_more part [] some = absurd (omega arith)
ended_more part (next ∷ parts) some = refl

last_more : (part : List ℕ) (parts : List (List ℕ)) → 0 < length parts → last_part (part ∷ parts) ≡ last_part parts
last_more part [] some = absurd (omega arith)
last_more part (next ∷ parts) some = refl

some_parts : (text : List ℕ) → 0 < length (slice_split (λ b. b == 10) text)
some_parts text = omega (arith, length-slice_split (λ b. b == 10) text)

-- a line ends
pub line_ends : (rest : List ℕ) (found : Option ℕ) (k : ℕ) → IsFirstByte (is_byte 10) rest found → found ≡ Some k → ended_lines rest ≡ without_return (take k rest) ∷ ended_lines (drop (k + 1) rest)
unfolding ended_lines
line_ends rest found k first is = ap ended_parts (split_found 10 rest found k first is) ∙ ended_more (take k rest) (slice_split (λ b. b == 10) (drop (k + 1) rest)) (some_parts (drop (k + 1) rest))

pub rest_behind : (rest : List ℕ) (found : Option ℕ) (k : ℕ) → IsFirstByte (is_byte 10) rest found → found ≡ Some k → behind_last_end rest ≡ behind_last_end (drop (k + 1) rest)
unfolding behind_last_end
rest_behind rest found k first is = ap last_part (split_found 10 rest found k first is) ∙ last_more (take k rest) (slice_split (λ b. b == 10) (drop (k + 1) rest)) (some_parts (drop (k + 1) rest))

-- none ends
pub no_line_ends : (rest : List ℕ) (found : Option ℕ) → IsFirstByte (is_byte 10) rest found → found ≡ None → ended_lines rest ≡ []
unfolding ended_lines
no_line_ends rest found first is = ap ended_parts (split_unfound 10 rest found first is)

pub all_behind : (rest : List ℕ) (found : Option ℕ) → IsFirstByte (is_byte 10) rest found → found ≡ None → behind_last_end rest ≡ rest
unfolding behind_last_end
all_behind rest found first is = ap last_part (split_unfound 10 rest found first is)

-- ---- lines that are taken

-- a step of going on over numbered lines
first_line : (step : Taken → ℕ × List ℕ → Answer Taken Fault) (taken : Taken) (number : ℕ) (line : List ℕ) (lines : List (List ℕ)) → goes step taken (enumerate_from number (line ∷ lines)) ≡ (step taken (number, line) >>= λ next. goes step next (enumerate_from (number + 1) lines))
first_line step taken number line lines = goes-cons step taken (number, line) (enumerate_from (number + 1) lines)

pub line_next : (step : Taken → ℕ × List ℕ → Answer Taken Fault) (taken more : Taken) (number : ℕ) (rest line back : List ℕ) (found : Option ℕ) (k : ℕ) (whole : Answer Taken Fault) → IsFirstByte (is_byte 10) rest found → found ≡ Some k → line ≡ without_return (take k rest) → back ≡ drop (k + 1) rest → step taken (number, line) ≡ Ok more
    → goes step taken (enumerate_from number (ended_lines rest)) ≡ whole → goes step more (enumerate_from (number + 1) (ended_lines back)) ≡ whole
line_next step taken more number rest line back found k whole first is is_line is_back gives so_far =
    let one : goes step taken (enumerate_from number (ended_lines rest)) ≡ goes step more (enumerate_from (number + 1) (ended_lines back)) =
    ap (λ (lines : List (List ℕ)). goes step taken (enumerate_from number lines)) (line_ends rest found k first is)
    ∙ first_line step taken number (without_return (take k rest)) (ended_lines (drop (k + 1) rest))
    ∙ ap (λ (l : List ℕ). step taken (number, l) >>= λ next. goes step next (enumerate_from (number + 1) (ended_lines (drop (k + 1) rest)))) (sym is_line)
    ∙ ap (λ (b : List ℕ). step taken (number, line) >>= λ next. goes step next (enumerate_from (number + 1) (ended_lines b))) (sym is_back)
    ∙ ap (λ (a : Answer Taken Fault). a >>= λ next. goes step next (enumerate_from (number + 1) (ended_lines back))) gives in
    sym one ∙ so_far

pub line_stops : (step : Taken → ℕ × List ℕ → Answer Taken Fault) (taken : Taken) (number : ℕ) (rest line : List ℕ) (found : Option ℕ) (k : ℕ) (cause : Cause Fault) (whole : Answer Taken Fault) → IsFirstByte (is_byte 10) rest found → found ≡ Some k → line ≡ without_return (take k rest) → Stops (step taken (number, line)) cause
    → goes step taken (enumerate_from number (ended_lines rest)) ≡ whole → Stops whole cause
line_stops step taken number rest line found k cause whole first is is_line stops so_far =
    let one : goes step taken (enumerate_from number (ended_lines rest)) ≡ (step taken (number, line) >>= λ next. goes step next (enumerate_from (number + 1) (ended_lines (drop (k + 1) rest)))) =
    ap (λ (lines : List (List ℕ)). goes step taken (enumerate_from number lines)) (line_ends rest found k first is)
    ∙ first_line step taken number (without_return (take k rest)) (ended_lines (drop (k + 1) rest))
    ∙ ap (λ (l : List ℕ). step taken (number, l) >>= λ next. goes step next (enumerate_from (number + 1) (ended_lines (drop (k + 1) rest)))) (sym is_line) in
    subst (λ (a : Answer Taken Fault). Stops a cause) (sym one ∙ so_far) (Stops-bind (step taken (number, line)) (λ next. goes step next (enumerate_from (number + 1) (ended_lines (drop (k + 1) rest)))) cause stops)

pub lines_done : (step : Taken → ℕ × List ℕ → Answer Taken Fault) (taken : Taken) (number : ℕ) (rest : List ℕ) (found : Option ℕ) (whole : Answer Taken Fault) → IsFirstByte (is_byte 10) rest found → found ≡ None → goes step taken (enumerate_from number (ended_lines rest)) ≡ whole → whole ≡ Ok taken
lines_done step taken number rest found whole first is so_far =
    sym so_far ∙ ap (λ (lines : List (List ℕ)). goes step taken (enumerate_from number lines)) (no_line_ends rest found first is) ∙ goes-nil step taken

-- the numbers of the lines
pub numbers_next : (number total : ℕ) (rest back : List ℕ) (found : Option ℕ) (k : ℕ) → IsFirstByte (is_byte 10) rest found → found ≡ Some k → back ≡ drop (k + 1) rest → number + length (ended_lines rest) ≡ total → number + 1 + length (ended_lines back) ≡ total
numbers_next number total rest back found k first is is_back so_far =
    let one : length (ended_lines rest) ≡ suc (length (ended_lines (drop (k + 1) rest))) = ap length (line_ends rest found k first is) in
    let same : length (ended_lines back) ≡ length (ended_lines (drop (k + 1) rest)) = ap (λ (b : List ℕ). length (ended_lines b)) is_back in
    omega arith

pub numbers_done : (number total : ℕ) (rest : List ℕ) (found : Option ℕ) → IsFirstByte (is_byte 10) rest found → found ≡ None → number + length (ended_lines rest) ≡ total → number ≡ total
numbers_done number total rest found first is so_far =
    let none : length (ended_lines rest) ≡ 0 = ap length (no_line_ends rest found first is) in
    omega arith

pub room_next : (number total : ℕ) (rest back : List ℕ) (found : Option ℕ) (k : ℕ) → IsFirstByte (is_byte 10) rest found → found ≡ Some k → back ≡ drop (k + 1) rest → number + length rest ≤ total → number + 1 + length back ≤ total
room_next number total rest back found k first is is_back room =
    let low : k < length rest = found_within 10 rest found k first is in
    let short : length back ≡ length rest - (k + 1) = ap length is_back ∙ length-drop (k + 1) rest in
    omega arith

-- ---- the rows of what is kept

numbered_both : (number : ℕ) (front back : List (List ℕ)) → enumerate_from number (front ++ back) ≡ enumerate_from number front ++ enumerate_from (number + length front) back
numbered_both number [] back = let same : number ≡ number + 0 = omega arith in ap (λ (n : ℕ). enumerate_from n back) same
numbered_both number (line ∷ front) back =
    let same : number + 1 + length front ≡ number + suc (length front) = omega arith in
    ap (λ (lines : List (ℕ × List ℕ)). (number, line) ∷ lines) (numbered_both (number + 1) front back ∙ ap (λ (n : ℕ). enumerate_from (number + 1) front ++ enumerate_from n back) same)

-- the rows of a file that is kept whole, by the lines that end and the last one
whole_parts : (file : ℕ) (manner : Manner) (uses : Option ℕ) (text : List ℕ) → rows_of_kept file manner uses true text ≡ (ended_taken file manner (untaken uses) text >>= λ taken. goes (line_taken file manner) taken (enumerate_from (1 + length (ended_lines text)) (line_without_end (behind_last_end text))) >>= λ all. Ok all.rows)
unfolding rows_of_kept
whole_parts file manner uses text =
    let step : Taken → ℕ × List ℕ → Answer Taken Fault = line_taken file manner in
    let last : List (ℕ × List ℕ) = enumerate_from (1 + length (ended_lines text)) (line_without_end (behind_last_end text)) in
    ap (λ (lines : List (ℕ × List ℕ)). goes step (untaken uses) lines >>= λ all. Ok all.rows) (numbered_both 1 (ended_lines text) (line_without_end (behind_last_end text)))
    ∙ ap (λ (a : Answer Taken Fault). a >>= λ all. Ok all.rows) (goes-append step (untaken uses) (enumerate_from 1 (ended_lines text)) last)
    ∙ bind_assoc (ended_taken file manner (untaken uses) text) (λ taken. goes step taken last) (λ all. Ok all.rows)

front_parts : (file : ℕ) (manner : Manner) (uses : Option ℕ) (text : List ℕ) → rows_of_kept file manner uses false text ≡ (ended_taken file manner (untaken uses) text >>= λ taken. Err (fault_at file (length (ended_lines text) + 1) LongFile))
unfolding rows_of_kept
front_parts file manner uses text = refl

-- a line that ends stops all
pub ended_stop : (file : ℕ) (manner : Manner) (uses : Option ℕ) (whole : Bool) (text : List ℕ) (cause : Cause Fault) → Stops (ended_taken file manner (untaken uses) text) cause → Stops (rows_of_kept file manner uses whole text) cause
ended_stop file manner uses true text cause stops =
    subst (λ (a : Answer (List DataRow) Fault). Stops a cause) (sym (whole_parts file manner uses text))
    (Stops-bind (ended_taken file manner (untaken uses) text) (λ taken. goes (line_taken file manner) taken (enumerate_from (1 + length (ended_lines text)) (line_without_end (behind_last_end text))) >>= λ all. Ok all.rows) cause stops)
ended_stop file manner uses false text cause stops =
    subst (λ (a : Answer (List DataRow) Fault). Stops a cause) (sym (front_parts file manner uses text))
    (Stops-bind (ended_taken file manner (untaken uses) text) (λ taken. Err (fault_at file (length (ended_lines text) + 1) LongFile)) cause stops)

-- the file has more
pub long_file : (file : ℕ) (manner : Manner) (uses : Option ℕ) (whole : Bool) (text : List ℕ) (taken : Taken) (number : ℕ) → whole ≡ false → ended_taken file manner (untaken uses) text ≡ Ok taken → number ≡ length (ended_lines text) + 1 → rows_of_kept file manner uses whole text ≡ Err (fault_at file number LongFile)
long_file file manner uses whole text taken number is gives is_number =
    ap (λ (w : Bool). rows_of_kept file manner uses w text) is ∙ front_parts file manner uses text
    ∙ ap (λ (a : Answer Taken Fault). a >>= λ t. Err (fault_at file (length (ended_lines text) + 1) LongFile)) gives
    ∙ ap (λ (n : ℕ). Err (fault_at file n LongFile)) (sym is_number)

after_ended : (file : ℕ) (manner : Manner) (uses : Option ℕ) (whole : Bool) (text rest : List ℕ) (taken : Taken) (number : ℕ) → whole ≡ true → ended_taken file manner (untaken uses) text ≡ Ok taken → number ≡ length (ended_lines text) + 1 → rest ≡ behind_last_end text
    → rows_of_kept file manner uses whole text ≡ (goes (line_taken file manner) taken (enumerate_from number (line_without_end rest)) >>= λ all. Ok all.rows)
after_ended file manner uses whole text rest taken number is gives is_number is_rest =
    let same : 1 + length (ended_lines text) ≡ number = omega arith in
    ap (λ (w : Bool). rows_of_kept file manner uses w text) is ∙ whole_parts file manner uses text
    ∙ ap (λ (a : Answer Taken Fault). a >>= λ t. goes (line_taken file manner) t (enumerate_from (1 + length (ended_lines text)) (line_without_end (behind_last_end text))) >>= λ all. Ok all.rows) gives
    ∙ ap (λ (n : ℕ). goes (line_taken file manner) taken (enumerate_from n (line_without_end (behind_last_end text))) >>= λ all. Ok all.rows) same
    ∙ ap (λ (r : List ℕ). goes (line_taken file manner) taken (enumerate_from number (line_without_end r)) >>= λ all. Ok all.rows) (sym is_rest)

-- no line is without an end
pub nothing_last : (file : ℕ) (manner : Manner) (uses : Option ℕ) (whole : Bool) (text rest : List ℕ) (taken : Taken) (number : ℕ) → whole ≡ true → ended_taken file manner (untaken uses) text ≡ Ok taken → number ≡ length (ended_lines text) + 1 → rest ≡ behind_last_end text → rest ≡ [] → rows_of_kept file manner uses whole text ≡ Ok taken.rows
nothing_last file manner uses whole text rest taken number is gives is_number is_rest none =
    after_ended file manner uses whole text rest taken number is gives is_number is_rest
    ∙ ap (λ (r : List ℕ). goes (line_taken file manner) taken (enumerate_from number (line_without_end r)) >>= λ all. Ok all.rows) none
    ∙ ap (λ (a : Answer Taken Fault). a >>= λ all. Ok all.rows) (goes-nil (line_taken file manner) taken)

pub some_rest : (rest : List ℕ) (t : Bool) → t ≡ (length rest == 0) → t ≡ false → rest ≡ [] → ⊥
some_rest [] t is isnt none = cc
some_rest (b ∷ bs) t is isnt none = cc

pub no_rest : (rest : List ℕ) (t : Bool) → t ≡ (length rest == 0) → t ≡ true → rest ≡ []
no_rest [] t is holds = refl
no_rest (b ∷ bs) t is holds = grind (arith, nat_tests)

one_line : (rest : List ℕ) → (rest ≡ [] → ⊥) → line_without_end rest ≡ rest ∷ []
one_line [] some = absurd (some refl)
one_line (b ∷ bs) some = refl

last_alone : (file : ℕ) (manner : Manner) (taken : Taken) (number : ℕ) (rest : List ℕ) → (rest ≡ [] → ⊥) → goes (line_taken file manner) taken (enumerate_from number (line_without_end rest)) ≡ (line_taken file manner taken (number, rest) >>= λ all. Ok all)
last_alone file manner taken number rest some =
    ap (λ (lines : List (List ℕ)). goes (line_taken file manner) taken (enumerate_from number lines)) (one_line rest some)
    ∙ first_line (line_taken file manner) taken number rest []
    ∙ ap (λ (f : Taken → Answer Taken Fault). line_taken file manner taken (number, rest) >>= f) (λ i next. goes-nil (line_taken file manner) next i)

-- the line without an end is taken
pub last_taken : (file : ℕ) (manner : Manner) (uses : Option ℕ) (whole : Bool) (text rest : List ℕ) (taken all : Taken) (number : ℕ) → whole ≡ true → ended_taken file manner (untaken uses) text ≡ Ok taken → number ≡ length (ended_lines text) + 1 → rest ≡ behind_last_end text → (rest ≡ [] → ⊥) → line_taken file manner taken (number, rest) ≡ Ok all → rows_of_kept file manner uses whole text ≡ Ok all.rows
last_taken file manner uses whole text rest taken all number is gives is_number is_rest some takes =
    after_ended file manner uses whole text rest taken number is gives is_number is_rest
    ∙ ap (λ (a : Answer Taken Fault). a >>= λ all. Ok all.rows) (last_alone file manner taken number rest some ∙ ap (λ (a : Answer Taken Fault). a >>= λ all. Ok all) takes)

pub last_stops : (file : ℕ) (manner : Manner) (uses : Option ℕ) (whole : Bool) (text rest : List ℕ) (taken : Taken) (number : ℕ) (cause : Cause Fault) → whole ≡ true → ended_taken file manner (untaken uses) text ≡ Ok taken → number ≡ length (ended_lines text) + 1 → rest ≡ behind_last_end text → (rest ≡ [] → ⊥) → Stops (line_taken file manner taken (number, rest)) cause
    → Stops (rows_of_kept file manner uses whole text) cause
last_stops file manner uses whole text rest taken number cause is gives is_number is_rest some stops =
    subst (λ (a : Answer (List DataRow) Fault). Stops a cause)
    (sym (after_ended file manner uses whole text rest taken number is gives is_number is_rest ∙ ap (λ (a : Answer Taken Fault). a >>= λ all. Ok all.rows) (last_alone file manner taken number rest some)))
    (Stops-bind (line_taken file manner taken (number, rest) >>= λ all. Ok all) (λ all. Ok all.rows) cause (Stops-bind (line_taken file manner taken (number, rest)) (λ all. Ok all) cause stops))

-- what is kept of a file has its rows
pub kept_rows : (file : ℕ) (manner : Manner) (uses : Option ℕ) (bytes : List ℕ) → rows_of_kept file manner uses (kept_of bytes).is_whole (kept_of bytes).bytes ≡ data_rows file manner uses bytes
unfolding data_rows rows_of_kept
kept_rows file manner uses bytes = at (nat_le (length bytes) most_file_bytes) refl where
  at : (t : Bool) → nat_le (length bytes) most_file_bytes ≡ t → rows_of_kept file manner uses t (take most_file_bytes bytes) ≡ (if t then lines_taken file manner uses (data_lines bytes) >>= (λ taken. Ok taken.rows) else lines_taken file manner uses (ended_lines (take most_file_bytes bytes)) >>= (λ taken. Err (fault_at file (length (ended_lines (take most_file_bytes bytes)) + 1) LongFile)))
  at true is = let few : length bytes ≤ most_file_bytes = grind (arith, nat_tests) in ap (λ (text : List ℕ). lines_taken file manner uses (data_lines text) >>= (λ taken. Ok taken.rows)) (take_all most_file_bytes bytes few)
  at false is = refl
