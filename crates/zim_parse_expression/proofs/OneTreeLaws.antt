-- A list of tokens spells at most one tight tree, but for places.
use Rattle.std.proofs.Common.{◌≡◌, List, [], ◌++◌, map, length, Some, sym, ap, ◌∙◌, subst, append-nil, arith}
use Rattle.std.proofs.lemmas.Simd.{map-map}
use Rattle.std.proofs.lemmas.Option.{same_Some}
use Rattle.zim_fault.specs.declared.tokens.Token.{Token}
use Rattle.zim_fault.specs.declared.tokens.Placed.{Placed}
use Rattle.zim_tree.specs.declared.expr.Expr.{Expr}
use Rattle.zim_tree.specs.Levels.{Level, placed}
use Rattle.zim_tree.specs.Grammar.{Reads}
use Rattle.zim_tree.specs.Plain.{nowhere, to_nowhere, plain, replaced_tokens}
use Rattle.zim_tree.proofs.DerivationSpellingLaws.{tokens, reads-spelling}
use Rattle.zim_tree.proofs.ReplacedDerivationLaws.{reads_replaced}
use Rattle.zim_parse_expression.specs.Parser.{at_level, parse}
use Rattle.zim_parse_expression.specs.Law.{OneTree, ParserReads}
use Rattle.zim_parse_expression.proofs.PrimaryLaws.{loosest}
use Rattle.zim_parse_expression.proofs.CompletenessLaws.{complete}
use Rattle.zim_parse_expression.proofs.SoundnessLaws.{level_sound, parse_sound}

-- two trees of the same tokens are the same
pub same_tree : {level : Level} {ts : List Placed} {e f : Expr} → Reads level ts e → Reads level ts f → e ≡ f
same_tree {level = level} {ts = ts} {e = e} {f = f} d g =
    let first : at_level (parse (length ts)) level (ts ++ []) ≡ Some (e, []) = (complete d).reads (length ts) (omega arith) [] (loosest level) in
    let second : at_level (parse (length ts)) level (ts ++ []) ≡ Some (f, []) = (complete g).reads (length ts) (omega arith) [] (loosest level) in
    ap (λ (x : Expr × List Placed). x.0) (same_Some (e, []) (f, []) (sym first ∙ second))

-- tokens without their places
abbrev pub plain_tokens : List Placed → List Placed
plain_tokens = replaced_tokens to_nowhere

pub plain_of_tokens : (ts : List Placed) → plain_tokens ts ≡ map (λ (t : Token). placed nowhere t) (tokens ts)
plain_of_tokens ts = sym (map-map (λ (t : Token). placed nowhere t) (λ (t : Placed). t.token) ts)

pub one_tree : OneTree
one_tree level e f (ts, d) (us, g) same =
    let words : tokens ts ≡ tokens us = reads-spelling d ∙ same ∙ sym (reads-spelling g) in
    let bare : plain_tokens us ≡ plain_tokens ts = plain_of_tokens us ∙ ap (map (λ (t : Token). placed nowhere t)) (sym words) ∙ sym (plain_of_tokens ts) in
    same_tree (reads_replaced to_nowhere d) (subst (λ (vs : List Placed). Reads level vs (plain f)) bare (reads_replaced to_nowhere g))

-- the parser reads all the tokens as what has a derivation from them
pub parser_reads : ParserReads
parser_reads level ts e = (
  (λ h.
      let g = (level_sound (parse (length ts)) (parse_sound (length ts)) level).gets ts e [] h in
      subst (λ (us : List Placed). Reads level us e) (sym (g.splits.parts ∙ append-nil g.used)) g.derives),
  (λ d. subst (λ (us : List Placed). at_level (parse (length ts)) level us ≡ Some (e, [])) (append-nil ts) ((complete d).reads (length ts) (omega arith) [] (loosest level))),
)
