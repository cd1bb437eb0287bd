-- A name is a model, or has a first fault, or misses a file.
use Rattle.std.proofs.Common.{◌≡◌, ℕ, zero, suc, ◌-◌, ◌<◌, List, [], ◌∷◌, length, take, drop, Ok, Err, refl, ap, arith}
use Rattle.std.specs.List.{AllByRecursion}
use Rattle.std.proofs.lemmas.List.Elements.{recursion_from_All}
use Rattle.zim_answer.specs.Answer.{Answer}
use Rattle.zim_fault.specs.declared.faults.Fault.{Fault}
use Rattle.zim_fault.specs.declared.tokens.Placed.{Placed}
use Rattle.zim_gate.specs.Folder.{HeldFiles}
use Rattle.zim_lex.specs.declared.lines.Line.{Line}
use Rattle.zim_lex.specs.declared.lines.Loaded.{Loaded}
use Rattle.zim_lex.specs.declared.lines.Span.{Span}
use Rattle.zim_lex.specs.Expanded.{Refusal, At, Missing, model_in}
use Rattle.zim_lex.specs.Statements.{statements_of}
use Rattle.zim_lex.specs.Tokens.{AreTokens}
use Rattle.zim_lex.specs.TokensLaw.{HaveTokensOrStick, cut_into, stuck_at}
use Rattle.zim_lex.proofs.TokensLaws.{tokens_or_stuck}
use Rattle.zim_tree.specs.declared.stmt.Stmt.{Stmt}
use Rattle.zim_parse.specs.Answers.{Accepts}
use Rattle.zim_parse.specs.AnswerLaw.{HasAnswer, accepted, refused}
use Rattle.zim_parse.proofs.AnswerLaws.{has_answer}
use Rattle.zim_plain.specs.Answers as plain
use Rattle.zim_plain.proofs.AnswerLaws.{have_answer}
use Rattle.zim_build.specs.ExactlyOne.{IsOneOfThree, a_model, a_fault, a_missing_file}
use Rattle.zim_build.specs.Parsed.{segment, AreParsed, IsFirstRefused, AreStatements, AreNoStatements, stuck, left_open, unparsed}
use Rattle.zim_build.specs.Reading.{not_loaded, no_statements, no_model}
use Rattle.zim_build.specs.Steps.{IsSpanWithin}
use Rattle.zim_build.proofs.SpanLemmas.{spans_within}

-- ---- the tokens of a span

taken_some : (n : ℕ) (ts : List Placed) → 0 < n → 0 < length ts → 0 < length (take n ts)
taken_some zero ts some more = absurd (omega (arith, some))
taken_some (suc n) [] some more = absurd (omega (arith, more))
taken_some (suc n) (t ∷ ts) some more = omega arith

dropped_some : (n : ℕ) (ts : List Placed) → n < length ts → 0 < length (drop n ts)
dropped_some zero ts l = l
dropped_some (suc n) [] l = absurd (omega (arith, l))
dropped_some (suc n) (t ∷ ts) l = dropped_some n ts (omega (arith, l))

segment_some : (placed : List Placed) (span : Span) → IsSpanWithin (length placed) span → 0 < length (segment placed span)
segment_some placed span is =
    taken_some (span.to - span.from) (drop span.from placed) (omega (arith, is.some)) (dropped_some span.from placed (omega (arith, is.some, is.within)))

answered : (ts : List Placed) → 0 < length ts → HasAnswer ts
answered [] some = absurd (omega (arith, some))
answered (t ∷ rest) some = has_answer t rest

-- ---- the spans

-- the tokens of each span are a statement, or those of a first one aren't
data HaveParsed (placed : List Placed) (spans : List Span) : Type 0 where
  all : (trees : List Stmt) → AreParsed placed spans trees → HaveParsed placed spans
  first : (fault : Fault) → IsFirstRefused placed spans fault → HaveParsed placed spans

parsed_behind : (placed : List Placed) (span : Span) (spans : List Span) (tree : Stmt) → Accepts (segment placed span) tree → HaveParsed placed spans → HaveParsed placed (span ∷ spans)
parsed_behind placed span spans tree is (all trees are) = all (tree ∷ trees) (is, are)
parsed_behind placed span spans tree is (first fault met) = first fault (record {
  before = span ∷ met.before;
  span = met.span;
  after = met.after;
  whole = ap (λ (ss : List Span). span ∷ ss) met.whole;
  trees = tree ∷ met.trees;
  parsed = (is, met.parsed);
  refused = met.refused;
})

parsed_from : (placed : List Placed) (span : Span) (spans : List Span) → HasAnswer (segment placed span) → HaveParsed placed spans → HaveParsed placed (span ∷ spans)
parsed_from placed span spans (accepted tree is) rest = parsed_behind placed span spans tree is rest
parsed_from placed span spans (refused fault is) rest = first fault (record { before = []; span = span; after = spans; whole = refl; trees = []; parsed = tt; refused = is })

have_parsed : (placed : List Placed) (spans : List Span) → AllByRecursion (IsSpanWithin (length placed)) spans → HaveParsed placed spans
have_parsed placed [] h = all [] tt
have_parsed placed (span ∷ spans) h = parsed_from placed span spans (answered (segment placed span) (segment_some placed span h.0)) (have_parsed placed spans h.1)

-- ---- the lines

-- lines are statements, or they have a first fault
data HaveStatements (lines : List Line) : Type 0 where
  statements : (trees : List Stmt) → AreStatements lines trees → HaveStatements lines
  none : (fault : Fault) → AreNoStatements lines fault → HaveStatements lines

of_spans : (lines : List Line) (placed : List Placed) (spans : List Span) → AreTokens lines placed → statements_of placed ≡ Ok spans → HaveParsed placed spans → HaveStatements lines
of_spans lines placed spans are cut (all trees parsed) = statements trees (record { placed = placed; tokens = are; spans = spans; cut = cut; parsed = parsed })
of_spans lines placed spans are cut (first fault met) = none fault (unparsed placed spans fault are cut met)

of_tokens : (lines : List Line) (placed : List Placed) → AreTokens lines placed → (answer : Answer (List Span) Fault) → statements_of placed ≡ answer → HaveStatements lines
of_tokens lines placed are (Err fault) e = none fault (left_open placed fault are e)
of_tokens lines placed are (Ok spans) e =
    of_spans lines placed spans are e (have_parsed placed spans (recursion_from_All (IsSpanWithin (length placed)) spans (spans_within placed spans e)))

have_statements : (lines : List Line) → HaveStatements lines
have_statements lines = by (tokens_or_stuck lines) where
  by : HaveTokensOrStick lines → HaveStatements lines
  by (stuck_at fault is) = none fault (stuck fault is)
  by (cut_into placed are) = of_tokens lines placed are (statements_of placed) refl

-- ---- the name

of_trees : (files : HeldFiles) (name : List ℕ) (loaded : Loaded) (trees : List Stmt) → model_in files name ≡ Ok loaded → AreStatements loaded.lines trees → plain.HaveAnswer trees → IsOneOfThree files name
of_trees files name loaded trees e are (plain.accepted model same is) =
    a_model model loaded.files (record { loaded = loaded; loads = e; trees = trees; statements = are; is_model = record { trees_are = same; accepted = is }; opened_are = refl })
of_trees files name loaded trees e are (plain.refused fault is) =
    a_fault fault loaded.files [] (no_model loaded trees fault [] e are (record { first = is; nothing = refl }))

of_lines : (files : HeldFiles) (name : List ℕ) (loaded : Loaded) → model_in files name ≡ Ok loaded → HaveStatements loaded.lines → IsOneOfThree files name
of_lines files name loaded e (none fault is) = a_fault fault loaded.files [] (no_statements loaded fault e is)
of_lines files name loaded e (statements trees are) = of_trees files name loaded trees e are (have_answer trees)

pub one_of_three : (files : HeldFiles) (name : List ℕ) → IsOneOfThree files name
one_of_three files name = by (model_in files name) refl where
  by : (load : Answer Loaded Refusal) → model_in files name ≡ load → IsOneOfThree files name
  by (Ok loaded) e = of_lines files name loaded e (have_statements loaded.lines)
  by (Err (At fault opened)) e = a_fault fault opened [] (not_loaded fault opened e)
  by (Err (Missing missing opened)) e = a_missing_file missing [] (record { opened = opened; met = e; nothing = refl })
