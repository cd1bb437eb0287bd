-- Segments of tokens are the statements of one list at most, and what is so of all tokens is so of those of each segment.
use Rattle.std.proofs.Common.{◌≡◌, ℕ, zero, suc, List, [], ◌∷◌, ◌++◌, take, drop, ap₂, refl, sym, ◌∙◌, subst}
use Rattle.std.specs.List.{AllByRecursion}
use Rattle.zim_fault.specs.declared.faults.Fault.{Fault}
use Rattle.zim_fault.specs.declared.tokens.Placed.{Placed}
use Rattle.zim_lex.specs.declared.lines.Span.{Span}
use Rattle.zim_tree.specs.declared.stmt.Stmt.{Stmt}
use Rattle.zim_parse.specs.Answers.{Accepts, Refuses}
use Rattle.zim_parse.proofs.AnswerLaws.{accepted_as_one, accepted_is_not_refused, refused_with_one}
use Rattle.zim_build.specs.Parsed.{segment, AreParsed, IsFirstRefused}

-- ---- what is so of all tokens

all_take : (P : Placed → Type 0) (n : ℕ) (xs : List Placed) → AllByRecursion P xs → AllByRecursion P (take n xs)
all_take P zero xs h = tt
all_take P (suc n) [] h = tt
all_take P (suc n) (x ∷ xs) h = (h.0, all_take P n xs h.1)

all_drop : (P : Placed → Type 0) (n : ℕ) (xs : List Placed) → AllByRecursion P xs → AllByRecursion P (drop n xs)
all_drop P zero xs h = h
all_drop P (suc n) [] h = tt
all_drop P (suc n) (x ∷ xs) h = all_drop P n xs h.1

-- each token of a segment has it
pub all_segment : (P : Placed → Type 0) (placed : List Placed) (span : Span) → AllByRecursion P placed → AllByRecursion P (segment placed span)
all_segment P placed span all = all_take P _ _ (all_drop P span.from placed all)

-- two lists that have it make one that has it, and its parts have it
pub all_append : {X : Type 0} (P : X → Type 0) (xs ys : List X) → AllByRecursion P xs → AllByRecursion P ys → AllByRecursion P (xs ++ ys)
all_append P [] ys h k = k
all_append P (x ∷ xs) ys h k = (h.0, all_append P xs ys h.1 k)

pub all_parts : {X : Type 0} (P : X → Type 0) (xs ys : List X) → AllByRecursion P (xs ++ ys) → AllByRecursion P xs × AllByRecursion P ys
all_parts P [] ys h = (tt, h)
all_parts P (x ∷ xs) ys h = let rest = all_parts P xs ys h.1 in ((h.0, rest.0), rest.1)

-- what the tokens of a statement give it, each statement has
pub all_parsed : (P : Placed → Type 0) (Q : Stmt → Type 0) → ((ts : List Placed) (s : Stmt) → Accepts ts s → AllByRecursion P ts → Q s) →
    (placed : List Placed) (spans : List Span) (trees : List Stmt) → AllByRecursion P placed → AreParsed placed spans trees → AllByRecursion Q trees
all_parsed P Q give placed [] [] all are = tt
all_parsed P Q give placed [] (tree ∷ trees) all are = absurd are
all_parsed P Q give placed (span ∷ spans) [] all are = absurd are
all_parsed P Q give placed (span ∷ spans) (tree ∷ trees) all are =
    (give (segment placed span) tree are.0 (all_segment P placed span all), all_parsed P Q give placed spans trees all are.1)

-- ---- one list of statements

pub one_parsed : (placed : List Placed) (spans : List Span) (trees others : List Stmt) → AreParsed placed spans trees → AreParsed placed spans others → trees ≡ others
one_parsed placed [] [] [] a b = refl
one_parsed placed [] [] (other ∷ others) a b = absurd b
one_parsed placed [] (tree ∷ trees) others a b = absurd a
one_parsed placed (span ∷ spans) [] others a b = absurd a
one_parsed placed (span ∷ spans) (tree ∷ trees) [] a b = absurd b
one_parsed placed (span ∷ spans) (tree ∷ trees) (other ∷ others) a b =
    ap₂ (λ (s : Stmt) (ss : List Stmt). s ∷ ss) (accepted_as_one (segment placed span) tree other a.0 b.0) (one_parsed placed spans trees others a.1 b.1)

-- the statement of the first segment, and those of the others
record FirstParsed (placed : List Placed) (span : Span) (spans : List Span) : Type 0 where
  tree : Stmt
  accepted : Accepts (segment placed span) tree
  trees : List Stmt
  others : AreParsed placed spans trees

first_parsed : (placed : List Placed) (span : Span) (spans : List Span) (trees : List Stmt) → AreParsed placed (span ∷ spans) trees → FirstParsed placed span spans
first_parsed placed span spans [] are = absurd are
first_parsed placed span spans (tree ∷ trees) are = record { tree = tree; accepted = are.0; trees = trees; others = are.1 }

-- ---- the first segment that is refused

-- a segment of which the tokens are a statement is not refused
parsed_unrefused : (placed : List Placed) (span : Span) (spans : List Span) (trees : List Stmt) (fault : Fault) → AreParsed placed (span ∷ spans) trees → Refuses (segment placed span) fault → ⊥
parsed_unrefused placed span spans trees fault are refused =
    let first = first_parsed placed span spans trees are in accepted_is_not_refused (segment placed span) first.tree fault first.accepted refused

refused_within : (placed : List Placed) (before : List Span) (span : Span) (after : List Span) (trees : List Stmt) (fault : Fault) → AreParsed placed (before ++ span ∷ after) trees → Refuses (segment placed span) fault → ⊥
refused_within placed [] span after trees fault are refused = parsed_unrefused placed span after trees fault are refused
refused_within placed (first ∷ before) span after trees fault are refused =
    let parsed = first_parsed placed first (before ++ span ∷ after) trees are in
    refused_within placed before span after parsed.trees fault parsed.others refused

-- segments that are statements have none that is refused
pub parsed_without : (placed : List Placed) (spans : List Span) (trees : List Stmt) (fault : Fault) → AreParsed placed spans trees → IsFirstRefused placed spans fault → ⊥
parsed_without placed spans trees fault are first =
    refused_within placed first.before first.span first.after trees fault
    (subst (λ (ss : List Span). AreParsed placed ss trees) first.whole are)
    first.refused

refused_at : (placed : List Placed) (span other : Span) (fault : Fault) → span ≡ other → Refuses (segment placed other) fault → Refuses (segment placed span) fault
refused_at placed span other fault same refused = subst (λ (s : Span). Refuses (segment placed s) fault) (sym same) refused

refused_once : (placed : List Placed) (before other : List Span) (span next : Span) (after later : List Span) (trees more : List Stmt) (fault met : Fault) → before ++ span ∷ after ≡ other ++ next ∷ later →
    AreParsed placed before trees → AreParsed placed other more → Refuses (segment placed span) fault → Refuses (segment placed next) met → fault ≡ met
refused_once placed [] [] span next after later trees more fault met e p q a b =
    let same : span ≡ next = cc in refused_with_one (segment placed span) fault met a (refused_at placed span next met same b)
refused_once placed [] (t ∷ other) span next after later trees more fault met e p q a b =
    let same : t ≡ span = cc in absurd (parsed_unrefused placed t other more fault q (refused_at placed t span fault same a))
refused_once placed (t ∷ before) [] span next after later trees more fault met e p q a b =
    let same : t ≡ next = cc in absurd (parsed_unrefused placed t before trees met p (refused_at placed t next met same b))
refused_once placed (t ∷ before) (u ∷ other) span next after later trees more fault met e p q a b =
    let rest : before ++ span ∷ after ≡ other ++ next ∷ later = cc in
    let first = first_parsed placed t before trees p in
    let second = first_parsed placed u other more q in
    refused_once placed before other span next after later first.trees second.trees fault met rest first.others second.others a b

pub one_first_refused : (placed : List Placed) (spans : List Span) (fault other : Fault) → IsFirstRefused placed spans fault → IsFirstRefused placed spans other → fault ≡ other
one_first_refused placed spans fault other a b =
    refused_once placed a.before b.before a.span b.span a.after b.after a.trees b.trees fault other
    (sym a.whole ∙ b.whole)
    a.parsed b.parsed a.refused b.refused
