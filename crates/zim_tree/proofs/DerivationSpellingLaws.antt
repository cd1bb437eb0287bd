-- The tokens of a derivation are the spelling of its tree.
use Rattle.std.proofs.Common.{◌≡◌, Bool, true, false, List, [], ◌∷◌, ◌++◌, map, Option, Some, None, refl, sym, ap, append-nil}
use Rattle.std.proofs.lemmas.List.{map-append}
use Rattle.zim_fault.specs.declared.faults.Place.{Place}
use Rattle.zim_fault.specs.declared.tokens.Token.TheVariants.{Sign as sign_token}
use Rattle.zim_fault.specs.declared.tokens.Placed.{Placed}
use Rattle.zim_fault.specs.declared.signs.Sign.TheVariants.{SComma, SExclamation}
use Rattle.zim_tree.specs.declared.expr.Expr.{Expr}
use Rattle.zim_tree.specs.declared.expr.Angle.{Angle}
use Rattle.zim_tree.specs.declared.expr.Index.{Index}
use Rattle.zim_tree.specs.declared.expr.Body.{Body}
use Rattle.zim_tree.specs.Levels.{Level, Chain, Operands, factorial, exclamations, exponent_sign as exponent_tokens}
use Rattle.zim_tree.specs.Grammar.{Reads, ReadsOperands, ReadsList, ReadsTuple, ReadsTuples, ReadsIndex, ReadsBody, a_number, a_text, a_truth, an_infinity, a_name, an_item, a_bare_call, a_call, a_function, a_projection, in_parentheses, in_braces, an_if, an_if_with_else, a_postfix, no_power, a_power, no_sign, a_sign, a_big, no_loop_sign, a_loop_sign, a_product, a_loop, a_product_with_loop, a_chain, a_member, no_not, a_not, no_forall, a_forall, no_operand, an_operand, the_last, one_more, a_tuple, the_last_tuple, one_more_tuple, an_index, an_index_with, nothing, the_members, the_tuples, the_choices, a_span, a_span_by}
use Rattle.zim_tree.specs.Spelling.{Tokens, spelling, angle_spelling, index_spelling, body_spelling, with_commas, after_commas, marks, exponent_sign_spelled}
use Rattle.zim_tree.proofs.SpellingLaws.{spelling-angle, spelling-index, spelling-Number, spelling-Text, spelling-Truth, spelling-Infinity, spelling-Name, spelling-Item, spelling-Call, spelling-Func, spelling-Proj, spelling-Paren, spelling-Braces, spelling-If, spelling-Factorial, spelling-Power, spelling-Signed, spelling-Big, spelling-Times, spelling-Member, spelling-Not, spelling-Forall, spelling-Empty, spelling-Members, spelling-Tuples, spelling-Those, spelling-Span}
use Rattle.zim_tree.proofs.OperatorLemmas.{operands_spelling, operands_spelling-nil, operands_spelling-cons, joined-spelling}

-- the tokens without their places
abbrev pub tokens : List Placed → Tokens
tokens = map (λ (t : Placed). t.token)

pub tokens-append : (ts us : List Placed) → tokens (ts ++ us) ≡ tokens ts ++ tokens us
tokens-append = map-append (λ (t : Placed). t.token)

tokens-marks : (places : List Place) → tokens (exclamations places) ≡ marks places
tokens-marks [] = refl
tokens-marks (p ∷ places) = ap (λ (l : Tokens). sign_token SExclamation ∷ l) (tokens-marks places)

factorial-spelling : (operand : Expr) (places : List Place) → spelling (factorial operand places) ≡ spelling operand ++ marks places
factorial-spelling operand [] = sym (append-nil (spelling operand))
factorial-spelling operand (p ∷ places) = spelling-Factorial operand (p ∷ places)

tokens-exponent : (signed : Option (Place × Bool)) → tokens (exponent_tokens signed) ≡ exponent_sign_spelled signed
tokens-exponent None = refl
tokens-exponent (Some sign) = refl

comma_before : {level : Level} {ts : List Placed} {items : List Expr} → ReadsList level ts items →
    sign_token SComma ∷ with_commas (map spelling items) ≡ after_commas (map spelling items)
comma_before (the_last d) = refl
comma_before (one_more p d e) = refl

comma_before_tuple : {ts : List Placed} {tuples : List Angle} → ReadsTuples ts tuples →
    sign_token SComma ∷ with_commas (map angle_spelling tuples) ≡ after_commas (map angle_spelling tuples)
comma_before_tuple (the_last_tuple d) = refl
comma_before_tuple (one_more_tuple p d e) = refl

mutual
  pub reads-spelling : {level : Level} {ts : List Placed} {e : Expr} → Reads level ts e → tokens ts ≡ spelling e
  reads-spelling (a_number p digits) = rw (spelling-Number p digits)
  reads-spelling (a_text p text double) = rw (spelling-Text p text double)
  reads-spelling (a_truth p truth) = rw (spelling-Truth p truth)
  reads-spelling (an_infinity p) = rw (spelling-Infinity p)
  reads-spelling (a_name p name) = rw (spelling-Name p name)
  reads-spelling (an_item p q r name d) = rw (spelling-Item p name _) (simp (tokens-append, list-spelling d))
  reads-spelling (a_bare_call p q r name) = rw (spelling-Call p name [])
  reads-spelling (a_call p q r name d) = rw (spelling-Call p name _) (simp (tokens-append, list-spelling d))
  reads-spelling (a_function p q r word h d) = rw (spelling-Func p word _) (simp (tokens-append, list-spelling d))
  reads-spelling (a_projection p q r s d e) = rw (spelling-Proj p _ _) (simp (tokens-append, reads-spelling d, tuple-spelling e))
  reads-spelling (in_parentheses p q d) = rw (spelling-Paren p _) (simp (tokens-append, reads-spelling d))
  reads-spelling (in_braces p q d) = rw (spelling-Braces p _) (simp (tokens-append, body-spelling d))
  reads-spelling (an_if p q r vif d e) = rw (spelling-If p vif _ _ None) (simp (tokens-append, reads-spelling d, reads-spelling e))
  reads-spelling (an_if_with_else p q r s vif d e f) =
      rw (spelling-If p vif _ _ (Some _)) (simp (tokens-append, reads-spelling d, reads-spelling e, reads-spelling f))
  reads-spelling (a_postfix marks d) = rw (factorial-spelling _ marks) (simp (tokens-append, tokens-marks, reads-spelling d))
  reads-spelling (no_power d) = reads-spelling d
  reads-spelling (a_power p sign signed h d e) =
      rw (spelling-Power p sign _ signed _) (simp (tokens-append, tokens-exponent, reads-spelling d, reads-spelling e))
  reads-spelling (no_sign d) = reads-spelling d
  reads-spelling (a_sign p minus d) = rw (spelling-Signed p minus _) (simp (reads-spelling d))
  reads-spelling (a_big p q word true h d e) = rw (spelling-Big p word _ true _) (simp (tokens-append, index-spelling d, reads-spelling e))
  reads-spelling (a_big p q word false h d e) = rw (spelling-Big p word _ false _) (simp (tokens-append, index-spelling d, reads-spelling e))
  reads-spelling (no_loop_sign d) = reads-spelling d
  reads-spelling (a_loop_sign p minus d) = rw (spelling-Signed p minus _) (simp (reads-spelling d))
  reads-spelling (a_product d) = reads-spelling d
  reads-spelling (a_loop d) = reads-spelling d
  reads-spelling (a_product_with_loop p token h d e) = rw (spelling-Times _ _) (simp (tokens-append, append-nil, reads-spelling d, reads-spelling e))
  reads-spelling (a_chain chain h d e) = rw (joined-spelling chain _ _) (simp (tokens-append, reads-spelling d, operands_tokens e))
  reads-spelling (a_member p d e) = rw (spelling-Member p _ _) (simp (tokens-append, tuple-spelling d, reads-spelling e))
  reads-spelling (no_not d) = reads-spelling d
  reads-spelling (a_not p d) = rw (spelling-Not p _) (simp (reads-spelling d))
  reads-spelling (no_forall d) = reads-spelling d
  reads-spelling (a_forall p q true d e) = rw (spelling-Forall p _ true _) (simp (tokens-append, index-spelling d, reads-spelling e))
  reads-spelling (a_forall p q false d e) = rw (spelling-Forall p _ false _) (simp (tokens-append, index-spelling d, reads-spelling e))

  pub operands_tokens : {chain : Chain} {ts : List Placed} {others : Operands} → ReadsOperands chain ts others → tokens ts ≡ operands_spelling chain others
  operands_tokens (no_operand chain) = sym (operands_spelling-nil chain)
  operands_tokens (an_operand chain p token h d e) =
      rw (operands_spelling-cons chain p token _ _ h) (simp (tokens-append, reads-spelling d, operands_tokens e))

  pub list-spelling : {level : Level} {ts : List Placed} {items : List Expr} → ReadsList level ts items → tokens ts ≡ with_commas (map spelling items)
  list-spelling (the_last d) = simp (append-nil, reads-spelling d)
  list-spelling (one_more p d e) = rw (← comma_before e) (simp (tokens-append, reads-spelling d, list-spelling e))

  pub tuple-spelling : {ts : List Placed} {tuple : Angle} → ReadsTuple ts tuple → tokens ts ≡ angle_spelling tuple
  tuple-spelling (a_tuple p q d) = rw (spelling-angle p _) (simp (tokens-append, list-spelling d))

  pub tuples-spelling : {ts : List Placed} {tuples : List Angle} → ReadsTuples ts tuples → tokens ts ≡ with_commas (map angle_spelling tuples)
  tuples-spelling (the_last_tuple d) = simp (append-nil, tuple-spelling d)
  tuples-spelling (one_more_tuple p d e) = rw (← comma_before_tuple e) (simp (tokens-append, tuple-spelling d, tuples-spelling e))

  pub index-spelling : {ts : List Placed} {index : Index} → ReadsIndex ts index → tokens ts ≡ index_spelling index
  index-spelling (an_index p d e) = rw (spelling-index p _ _ None) (simp (tokens-append, append-nil, tuple-spelling d, reads-spelling e))
  index-spelling (an_index_with p q true d e f) =
      rw (spelling-index p _ _ (Some (true, _))) (simp (tokens-append, tuple-spelling d, reads-spelling e, reads-spelling f))
  index-spelling (an_index_with p q false d e f) =
      rw (spelling-index p _ _ (Some (false, _))) (simp (tokens-append, tuple-spelling d, reads-spelling e, reads-spelling f))

  pub body-spelling : {ts : List Placed} {inside : Body} → ReadsBody ts inside → tokens ts ≡ body_spelling inside
  body-spelling nothing = sym spelling-Empty
  body-spelling (the_members d) = rw (spelling-Members _) (list-spelling d)
  body-spelling (the_tuples d) = rw (spelling-Tuples _) (tuples-spelling d)
  body-spelling (the_choices d) = rw (spelling-Those _) (index-spelling d)
  body-spelling (a_span p with_to d e) = rw (spelling-Span _ with_to _ None) (simp (tokens-append, append-nil, reads-spelling d, reads-spelling e))
  body-spelling (a_span_by p q with_to d e f) =
      rw (spelling-Span _ with_to _ (Some _)) (simp (tokens-append, reads-spelling d, reads-spelling e, reads-spelling f))
