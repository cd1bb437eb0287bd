-- What the parse of all tokens says of the statements that they are.
use Rattle.std.proofs.Common.{◌≡◌, ◌<◌, List, [], ◌∷◌, length, get_or, Some, None, sym, ap, ◌∙◌, arith}
use Rattle.std.proofs.lemmas.Option.{none-some, same_Some}
use Rattle.zim_fault.specs.declared.tokens.Placed.{Placed}
use Rattle.zim_tree.specs.declared.stmt.Stmt.{Stmt}
use Rattle.zim_tree.specs.StatementGrammar.{ReadsStatement}
use Rattle.zim_fault.specs.declared.kinds.Kind.TheVariants.{Syntax}
use Rattle.zim_parse_expression.specs.Parser.{parse}
use Rattle.zim_scan.specs.Refused.{first_refused}
use Rattle.zim_scan.specs.Nesting.{first_deep}
use Rattle.zim_parse.specs.Answers.{fault_at, Refuses, no_statement}
use Rattle.zim_parse.specs.StatementParser.{whole_statement}
use Rattle.zim_parse.proofs.OneStatement.{parser_reads_statements}

pub whole_read : (ts : List Placed) (s : Stmt) (left : List Placed) → whole_statement (parse (length ts)) ts ≡ Some (s, left) → length left ≡ 0 → ReadsStatement ts s
whole_read ts s [] h none = (parser_reads_statements ts s).0 h
whole_read ts s (t ∷ left) h none = absurd (omega arith)

pub nothing_read : (ts : List Placed) → whole_statement (parse (length ts)) ts ≡ None → (s : Stmt) → ReadsStatement ts s → ⊥
nothing_read ts h s d =
    let none : List Placed = [] in
    none-some (s, none) (sym h ∙ (parser_reads_statements ts s).1 d)

pub too_little_read : (ts : List Placed) (s : Stmt) (left : List Placed) → whole_statement (parse (length ts)) ts ≡ Some (s, left) → (length left ≡ 0 → ⊥) → (other : Stmt) → ReadsStatement ts other → ⊥
too_little_read ts s left h more other d =
    let none : List Placed = [] in
    let k = (parser_reads_statements ts other).1 d in
    let same : (s, left) ≡ (other, none) = same_Some (s, left) (other, none) (sym h ∙ k) in
    more (ap (λ (x : Stmt × List Placed). length x.1) same)

-- a text that is no statement is refused at its first token
pub refused_at_first : (ts : List Placed) (d : Placed) → 0 < length ts → first_refused ts ≡ None → first_deep 0 0 ts ≡ None → ((s : Stmt) → ReadsStatement ts s → ⊥) →
    Refuses ts (fault_at (get_or ts 0 d).place Syntax)
refused_at_first [] d some supported shallow none = absurd (omega arith)
refused_at_first (t ∷ rest) d some supported shallow none = no_statement supported shallow none
