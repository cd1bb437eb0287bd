-- A list of tokens spells at most one tight statement, but for its places.
use Rattle.std.proofs.Common.{◌≡◌, List, map, length, arith, sym, ap, ◌∙◌, subst}
use Rattle.zim_fault.specs.declared.tokens.Token.{Token}
use Rattle.zim_fault.specs.declared.tokens.Placed.{Placed}
use Rattle.zim_tree.specs.Levels.{placed}
use Rattle.zim_tree.specs.StatementGrammar.{ReadsStatement}
use Rattle.zim_tree.specs.Plain.{nowhere, to_nowhere}
use Rattle.zim_tree.proofs.DerivationSpellingLaws.{tokens}
use Rattle.zim_tree.proofs.StatementSpellingLaws.{statement-spelling}
use Rattle.zim_tree.proofs.ReplacedStatementLaws.{statement_replaced}
use Rattle.zim_tree.specs.PlainStatement.{plain_statement}
use Rattle.zim_parse.specs.StatementLaw.{OneStatement, ParserReadsStatements}
use Rattle.zim_parse_expression.proofs.OneTreeLaws.{plain_tokens, plain_of_tokens}
use Rattle.zim_parse.proofs.WholeStatement.{same_statement, statement_read}
use Rattle.zim_parse.proofs.WholeSound.{statement_sound}

pub one_statement : OneStatement
one_statement a b (ts, d) (us, g) same =
    let words : tokens ts ≡ tokens us = statement-spelling d ∙ same ∙ sym (statement-spelling g) in
    let bare : plain_tokens us ≡ plain_tokens ts = plain_of_tokens us ∙ ap (map (λ (t : Token). placed nowhere t)) (sym words) ∙ sym (plain_of_tokens ts) in
    same_statement (statement_replaced to_nowhere d) (subst (λ (vs : List Placed). ReadsStatement vs (plain_statement b)) bare (statement_replaced to_nowhere g))

-- the parser reads all the tokens as what has a derivation from them
pub parser_reads_statements : ParserReadsStatements
parser_reads_statements ts s = (statement_sound (length ts) ts s, λ d. statement_read d (length ts) (omega arith))
