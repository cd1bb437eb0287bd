-- Lines that have a first fault are those of no model, and lines have one first fault at most.
use Rattle.std.proofs.Common.{◌≡◌, List, Ok, Err, inl, inr, refl, sym, ◌∙◌, ap, subst}
use Rattle.std.specs.Prelude.{◌⊎◌}
use Rattle.zim_answer.specs.Answer.{Answer}
use Rattle.zim_fault.specs.declared.faults.Fault.{Fault}
use Rattle.zim_fault.specs.declared.tokens.Placed.{Placed}
use Rattle.zim_lex.specs.declared.lines.Line.{Line}
use Rattle.zim_lex.specs.declared.lines.Span.{Span}
use Rattle.zim_lex.specs.Statements.{statements_of}
use Rattle.zim_lex.specs.Tokens.{AreTokens, IsFirstStuck}
use Rattle.zim_tree.specs.declared.stmt.Stmt.{Stmt}
use Rattle.zim_plain.specs.Trees.{trees_of}
use Rattle.zim_plain.specs.Answers.{IsAccepted, IsFirstFault}
use Rattle.zim_plain.proofs.FaultLaws as plain
use Rattle.zim_build.specs.Model.{Model, AreModel}
use Rattle.zim_build.specs.Parsed.{AreParsed, IsFirstRefused, AreStatements, AreNoStatements, stuck, left_open, unparsed}
use Rattle.zim_build.specs.Steps.{AreNoModel, not_read, not_accepted}
use Rattle.zim_build.proofs.ParsedLemmas.{one_parsed, parsed_without, one_first_refused}
use Rattle.zim_lex.proofs.TokensLaws.{one_tokens, stuck_without, one_stuck}

-- ---- the four ways in which lines are no model

pub data LinesBreak (lines : List Line) : Fault → Type 0 where
  at_byte : (fault : Fault) → IsFirstStuck lines fault → LinesBreak lines fault
  at_end : (placed : List Placed) (fault : Fault) → AreTokens lines placed → statements_of placed ≡ Err fault → LinesBreak lines fault
  at_span : (placed : List Placed) (spans : List Span) (fault : Fault) → AreTokens lines placed → statements_of placed ≡ Ok spans → IsFirstRefused placed spans fault → LinesBreak lines fault
  at_statement : (placed : List Placed) (spans : List Span) (trees : List Stmt) (fault : Fault) → AreTokens lines placed → statements_of placed ≡ Ok spans → AreParsed placed spans trees →
      IsFirstFault trees fault → LinesBreak lines fault

no_statements_break : (lines : List Line) (fault : Fault) → AreNoStatements lines fault → LinesBreak lines fault
no_statements_break lines _ (stuck fault is) = at_byte fault is
no_statements_break lines _ (left_open placed fault are cut) = at_end placed fault are cut
no_statements_break lines _ (unparsed placed spans fault are cut first) = at_span placed spans fault are cut first

pub breaks : (lines : List Line) (fault : Fault) → AreNoModel lines fault → LinesBreak lines fault
breaks lines _ (not_read fault none) = no_statements_break lines fault none
breaks lines _ (not_accepted trees fault are first) = at_statement are.placed are.spans trees fault are.tokens are.cut are.parsed first.first

-- lines are the statements of a model
pub record LinesSpell (lines : List Line) (model : Model) : Type 0 where
  pub placed : List Placed
  pub tokens : AreTokens lines placed
  pub spans : List Span
  pub cut : statements_of placed ≡ Ok spans
  pub parsed : AreParsed placed spans (trees_of model)
  pub accepted : IsAccepted model

pub spelled : (lines : List Line) (trees : List Stmt) (model : Model) → AreStatements lines trees → AreModel trees model → LinesSpell lines model
spelled lines trees model are is = record {
  placed = are.placed;
  tokens = are.tokens;
  spans = are.spans;
  cut = are.cut;
  parsed = subst (λ (ts : List Stmt). AreParsed are.placed are.spans ts) is.trees_are are.parsed;
  accepted = is.accepted;
}

-- ---- the tokens of lines, and how they are cut

cut_twice : (placed other : List Placed) (fault : Fault) (spans : List Span) → placed ≡ other → statements_of placed ≡ Err fault → statements_of other ≡ Ok spans → ⊥
cut_twice placed other fault spans same e f = let h : ◌≡◌ {A = Answer (List Span) Fault} (Err fault) (Ok spans) = sym e ∙ (ap statements_of same ∙ f) in cc

same_spans : (placed other : List Placed) (spans more : List Span) → placed ≡ other → statements_of placed ≡ Ok spans → statements_of other ≡ Ok more → spans ≡ more
same_spans placed other spans more same e f = let h : ◌≡◌ {A = Answer (List Span) Fault} (Ok spans) (Ok more) = sym e ∙ (ap statements_of same ∙ f) in cc

same_fault : (placed other : List Placed) (fault more : Fault) → placed ≡ other → statements_of placed ≡ Err fault → statements_of other ≡ Err more → fault ≡ more
same_fault placed other fault more same e f = let h : ◌≡◌ {A = Answer (List Span) Fault} (Err fault) (Err more) = sym e ∙ (ap statements_of same ∙ f) in cc

-- what is so of tokens and their spans is so of the same lines' tokens and spans
over_lines : (P : List Placed → List Span → Type 0) (lines : List Line) (placed other : List Placed) (spans more : List Span) → AreTokens lines placed → statements_of placed ≡ Ok spans →
    AreTokens lines other → statements_of other ≡ Ok more → P other more → P placed spans
over_lines P lines placed other spans more are cut too also holds =
    let same : placed ≡ other = one_tokens lines placed other are too in
    let cuts : spans ≡ more = same_spans placed other spans more same cut also in
    subst (λ (ps : List Placed). P ps spans) (sym same) (subst (λ (ss : List Span). P other ss) (sym cuts) holds)

-- ---- the fault of tokens that are cut to spans

-- one of the spans is no statement, or the statements have a fault
abbrev SpansBreak : List Placed → List Span → Fault → Type 0
SpansBreak placed spans fault = IsFirstRefused placed spans fault ⊎ ((trees : List Stmt) × AreParsed placed spans trees × IsFirstFault trees fault)

-- the fault of lines that are cut to spans is that of the spans
spans_break : (lines : List Line) (placed : List Placed) (spans : List Span) (fault : Fault) → AreTokens lines placed → statements_of placed ≡ Ok spans → LinesBreak lines fault → SpansBreak placed spans fault
spans_break lines placed spans _ are cut (at_byte fault is) = absurd (stuck_without lines fault placed is are)
spans_break lines placed spans _ are cut (at_end other fault too uncut) = absurd (cut_twice other placed fault spans (one_tokens lines other placed too are) uncut cut)
spans_break lines placed spans _ are cut (at_span other more fault too also first) =
    inl (over_lines (λ (ps : List Placed) (ss : List Span). IsFirstRefused ps ss fault) lines placed other spans more are cut too also first)
spans_break lines placed spans _ are cut (at_statement other more trees fault too also parsed first) =
    inr (trees, over_lines (λ (ps : List Placed) (ss : List Span). AreParsed ps ss trees) lines placed other spans more are cut too also parsed, first)

one_break : (placed : List Placed) (spans : List Span) (fault other : Fault) → SpansBreak placed spans fault → SpansBreak placed spans other → fault ≡ other
one_break placed spans fault other (inl a) (inl b) = one_first_refused placed spans fault other a b
one_break placed spans fault other (inl a) (inr b) = absurd (parsed_without placed spans b.0 fault b.1 a)
one_break placed spans fault other (inr a) (inl b) = absurd (parsed_without placed spans a.0 other a.1 b)
one_break placed spans fault other (inr a) (inr b) =
    let same : a.0 ≡ b.0 = one_parsed placed spans a.0 b.0 a.1 b.1 in
    plain.one_first_fault b.0 fault other (subst (λ (trees : List Stmt). IsFirstFault trees fault) same a.2) b.2

-- ---- lines

-- lines of which one is stuck, or whose tokens are left open, have no other fault
open_fault : (lines : List Line) (placed : List Placed) (fault other : Fault) → AreTokens lines placed → statements_of placed ≡ Err fault → LinesBreak lines other → fault ≡ other
open_fault lines placed fault _ are cut (at_byte other is) = absurd (stuck_without lines other placed is are)
open_fault lines placed fault _ are cut (at_end others other too also) = same_fault placed others fault other (one_tokens lines placed others are too) cut also
open_fault lines placed fault _ are cut (at_span others spans other too also first) = absurd (cut_twice placed others fault spans (one_tokens lines placed others are too) cut also)
open_fault lines placed fault _ are cut (at_statement others spans trees other too also parsed first) = absurd (cut_twice placed others fault spans (one_tokens lines placed others are too) cut also)

stuck_fault : (lines : List Line) (fault other : Fault) → IsFirstStuck lines fault → LinesBreak lines other → fault ≡ other
stuck_fault lines fault _ is (at_byte other at) = one_stuck lines fault other is at
stuck_fault lines fault _ is (at_end placed other are cut) = absurd (stuck_without lines fault placed is are)
stuck_fault lines fault _ is (at_span placed spans other are cut first) = absurd (stuck_without lines fault placed is are)
stuck_fault lines fault _ is (at_statement placed spans trees other are cut parsed first) = absurd (stuck_without lines fault placed is are)

pub one_line_fault : (lines : List Line) (fault other : Fault) → LinesBreak lines fault → LinesBreak lines other → fault ≡ other
one_line_fault lines _ other (at_byte fault is) second = stuck_fault lines fault other is second
one_line_fault lines _ other (at_end placed fault are cut) second = open_fault lines placed fault other are cut second
one_line_fault lines _ other (at_span placed spans fault are cut first) second = one_break placed spans fault other (inl first) (spans_break lines placed spans other are cut second)
one_line_fault lines _ other (at_statement placed spans trees fault are cut parsed first) second =
    one_break placed spans fault other (inr (trees, parsed, first)) (spans_break lines placed spans other are cut second)

unbroken : (placed : List Placed) (spans : List Span) (model : Model) (fault : Fault) → AreParsed placed spans (trees_of model) → IsAccepted model → SpansBreak placed spans fault → ⊥
unbroken placed spans model fault parsed accepted (inl first) = parsed_without placed spans (trees_of model) fault parsed first
unbroken placed spans model fault parsed accepted (inr other) =
    let same : other.0 ≡ trees_of model = one_parsed placed spans other.0 (trees_of model) other.1 parsed in
    plain.no_first_fault model fault accepted (subst (λ (trees : List Stmt). IsFirstFault trees fault) same other.2)

pub breaks_spell_none : (lines : List Line) (fault : Fault) (model : Model) → LinesBreak lines fault → LinesSpell lines model → ⊥
breaks_spell_none lines fault model breaks spell =
    unbroken spell.placed spell.spans model fault spell.parsed spell.accepted (spans_break lines spell.placed spell.spans fault spell.tokens spell.cut breaks)

-- lines spell one model at most
pub one_model : (lines : List Line) (one other : Model) → LinesSpell lines one → LinesSpell lines other → one ≡ other
one_model lines one other a b =
    let parsed : AreParsed a.placed a.spans (trees_of other) =
    over_lines (λ (ps : List Placed) (ss : List Span). AreParsed ps ss (trees_of other)) lines a.placed b.placed a.spans b.spans a.tokens a.cut b.tokens b.cut b.parsed in
    plain.one_model (trees_of one) one other refl (one_parsed a.placed a.spans (trees_of one) (trees_of other) a.parsed parsed)
