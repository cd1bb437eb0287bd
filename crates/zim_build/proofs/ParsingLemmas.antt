-- One segment more is a statement, or is the first that is refused.
use Rattle.std.proofs.Common.{◌≡◌, ℕ, zero, suc, ◌+◌, ◌<◌, List, [], ◌∷◌, ◌++◌, length, get_or, take, drop, Err, refl, sym, ap, subst, arith}
use Rattle.std.proofs.lemmas.List.{take_more}
use Rattle.zim_fault.specs.declared.tokens.Placed.{Placed}
use Rattle.zim_lex.specs.declared.lines.Span.{Span}
use Rattle.zim_tree.specs.declared.stmt.Stmt.{Stmt}
use Rattle.zim_parse.specs.Answers.{Accepts, Parses}
use Rattle.zim_parse.specs.declared.fault.ParseFault.{ParseFault}
use Rattle.zim_parse.specs.declared.fault.ParseFault.TheVariants as parsing
use Rattle.zim_build.specs.Parsed.{segment, AreParsed}
use Rattle.zim_build.specs.Steps.{ParsedAnswer}

-- a list at one of its elements
split_list : {X : Type 0} (xs : List X) (i : ℕ) (d : X) → i < length xs → xs ≡ take i xs ++ get_or xs i d ∷ drop (suc i) xs
split_list [] i d l = absurd (omega arith)
split_list (y ∷ xs) zero d l = refl
split_list (y ∷ xs) (suc i) d l = ap (λ zs. y ∷ zs) (split_list xs i d (omega arith))

parsed_behind : (placed : List Placed) (spans : List Span) (span : Span) (trees : List Stmt) (tree : Stmt) → AreParsed placed spans trees → Accepts (segment placed span) tree → AreParsed placed (spans ++ span ∷ []) (trees ++ tree ∷ [])
parsed_behind placed [] span [] tree are is = (is, tt)
parsed_behind placed [] span (other ∷ trees) tree are is = absurd are
parsed_behind placed (next ∷ spans) span [] tree are is = absurd are
parsed_behind placed (next ∷ spans) span (other ∷ trees) tree are is = (are.0, parsed_behind placed spans span trees tree are.1 is)

-- one segment more is a statement
pub one_more : (placed : List Placed) (spans : List Span) (i : ℕ) (d : Span) (trees : List Stmt) (tree : Stmt) → i < length spans → AreParsed placed (take i spans) trees → Accepts (segment placed (get_or spans i d)) tree →
    AreParsed placed (take (i + 1) spans) (trees ++ tree ∷ [])
one_more placed spans i d trees tree l are is =
    subst (λ (ss : List Span). AreParsed placed ss (trees ++ tree ∷ [])) (sym (take_more spans i d l)) (parsed_behind placed (take i spans) (get_or spans i d) trees tree are is)

-- the segment after those that are statements is the first that is refused, or memory was
pub refused_next : (placed : List Placed) (spans : List Span) (i : ℕ) (d : Span) (trees : List Stmt) (stop : ParseFault) → i < length spans → AreParsed placed (take i spans) trees → Parses (segment placed (get_or spans i d)) (Err stop) →
    ParsedAnswer placed spans (Err stop)
refused_next placed spans i d trees parsing.Memory l are is = tt
refused_next placed spans i d trees (parsing.Fault fault) l are is = record {
  before = take i spans;
  span = get_or spans i d;
  after = drop (suc i) spans;
  whole = split_list spans i d l;
  trees = trees;
  parsed = are;
  refused = is;
}
