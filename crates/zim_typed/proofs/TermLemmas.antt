-- Terms, conditions and constraints that belong to expressions suit the scope.
use Rattle.std.proofs.Common.{◌≡◌, List, Bool, true, false, if◌then◌else◌, arith}
use Rattle.zim_fault.specs.declared.faults.Place.{Place}
use Rattle.zim_fault.specs.declared.tokens.Token.{Token}
use Rattle.zim_fault.specs.declared.tokens.Join.{Join}
use Rattle.zim_tree.specs.declared.expr.Expr.{Expr}
use Rattle.zim_typed.specs.declared.constant.Const.{Const}
use Rattle.zim_typed.specs.declared.constraint.Term.{Term}
use Rattle.zim_typed.specs.declared.constraint.Cond.{Cond}
use Rattle.zim_typed.specs.declared.constraint.Con.{Con}
use Rattle.zim_typed.specs.declared.constant.Resolved.TheVariants as resolved
use Rattle.zim_typed.specs.Scope.{Names, Scope, Use, Stands, Varies, Misused, is_local, kind_of_name, bare_declared, indexed_declared}
use Rattle.zim_typed.specs.Terms.{or_join, IsTerm, AreTerms, AreFactors, IsCond, AreAnded, AreOred, IsCon, AreCons, term_known, term_variable, term_variable_at, term_parentheses, term_plus, term_minus, term_sum, term_product, term_multiple, term_sum_over, term_if, term_absolute, no_term, one_term, no_factor, one_factor, cond_known, cond_parentheses, cond_comparison, cond_not, cond_and, cond_or, no_anded, one_anded, no_ored, one_ored, con_parentheses, con_comparison, con_range, con_and, con_forall, con_if, con_if_with_else, con_vif, con_vif_with_else, no_con, one_con}
use Rattle.zim_fault.specs.declared.tokens.Join.TheVariants as join
use Rattle.zim_typed.specs.Suits.{SuitsTerm, TermsSuit, FactorsSuit, SuitsCond, JoinedSuit, SuitsCon, ConsSuit, suits_known_term, suits_variable, suits_variable_at, suits_term_sum, suits_term_product, suits_term_multiple, suits_minus, suits_sum_over, suits_term_if, suits_absolute, suits_no_term, suits_one_term, suits_no_factor, suits_one_factor, suits_known_condition, suits_compared, suits_chain, suits_negated, suits_none_joined, suits_one_joined, suits_constraint, suits_range, suits_all, suits_forall, suits_con_if, suits_con_vif, suits_no_otherwise, suits_otherwise, suits_no_con, suits_one_con}
use Rattle.zim_typed.proofs.ConstantLemmas.{const_suits, consts_suit, loop_suits}

-- a bare name that stands for a variable is declared as one
varies : (local : Bool) (used : Use) → (if local then Stands resolved.Local else used) ≡ Varies → used ≡ Varies
varies true used h = grind arith
varies false used h = h

-- a name with brackets that stands for a variable is declared as one
varies_indexed : (local : Bool) (used : Use) → (if local then Misused else used) ≡ Varies → used ≡ Varies
varies_indexed true used h = grind arith
varies_indexed false used h = h

mutual
  pub term_suits : {scope : Scope} {names : Names} {e : Expr} {t : Term} → IsTerm scope names e t → SuitsTerm scope names t
  term_suits (term_known none c) = suits_known_term (const_suits c)
  term_suits {scope} {names} (term_variable p name h) = suits_variable p name (varies (is_local names name) (bare_declared (kind_of_name scope name)) h)
  term_suits {scope} {names} (term_variable_at p name h index) =
      suits_variable_at p name (varies_indexed (is_local names name) (indexed_declared (kind_of_name scope name)) h) (consts_suit index)
  term_suits (term_parentheses p has t) = term_suits t
  term_suits (term_plus p has t) = term_suits t
  term_suits (term_minus p has t) = suits_minus p (term_suits t)
  term_suits (term_sum has t ts) = suits_term_sum (term_suits t) (terms_suit ts)
  term_suits (term_product has t fs) = suits_term_product (term_suits t) (factors_suit fs)
  term_suits (term_multiple p first e before behind none c has t fs) = suits_term_multiple p (const_suits c) (term_suits t) (factors_suit fs)
  term_suits (term_sum_over p with_do has index t) = suits_sum_over p (loop_suits index) (term_suits t)
  term_suits (term_if p has test t u) = suits_term_if p (const_suits test) (term_suits t) (term_suits u)
  term_suits (term_absolute p t) = suits_absolute p (term_suits t)

  terms_suit : {scope : Scope} {names : Names} {others : List (Place × Token × Expr)} {ts : List (Place × Bool × Term)} → AreTerms scope names others ts → TermsSuit scope names ts
  terms_suit no_term = suits_no_term
  terms_suit (one_term p minus t ts) = suits_one_term p minus (term_suits t) (terms_suit ts)

  factors_suit : {scope : Scope} {names : Names} {others : List (Place × Token × Expr)} {fs : List (Place × Bool × Const)} → AreFactors scope names others fs → FactorsSuit scope names fs
  factors_suit no_factor = suits_no_factor
  factors_suit (one_factor p divides none c fs) = suits_one_factor p divides (const_suits c) (factors_suit fs)

mutual
  pub cond_suits : {scope : Scope} {names : Names} {e : Expr} {c : Cond} → IsCond scope names e c → SuitsCond scope names c
  cond_suits (cond_known none c) = suits_known_condition (const_suits c)
  cond_suits (cond_parentheses p has c) = cond_suits c
  cond_suits (cond_comparison p relation has t u) = suits_compared p relation (term_suits t) (term_suits u)
  cond_suits (cond_not p has c) = suits_negated p (cond_suits c)
  cond_suits (cond_and has c cs) = suits_chain (cond_suits c) (anded_suit cs)
  cond_suits (cond_or has c cs) = suits_chain (cond_suits c) (ored_suit cs)

  anded_suit : {scope : Scope} {names : Names} {others : List (Place × Expr)} {cs : List (Place × Join × Cond)} → AreAnded scope names others cs → JoinedSuit scope names cs
  anded_suit no_anded = suits_none_joined
  anded_suit (one_anded p c cs) = suits_one_joined p join.And (cond_suits c) (anded_suit cs)

  ored_suit : {scope : Scope} {names : Names} {others : List (Place × Bool × Expr)} {cs : List (Place × Join × Cond)} → AreOred scope names others cs → JoinedSuit scope names cs
  ored_suit no_ored = suits_none_joined
  ored_suit (one_ored p xor c cs) = suits_one_joined p (or_join xor) (cond_suits c) (ored_suit cs)

mutual
  pub con_suits : {scope : Scope} {names : Names} {e : Expr} {c : Con} → IsCon scope names e c → SuitsCon scope names c
  con_suits (con_parentheses p c) = con_suits c
  con_suits (con_comparison p relation h t u) = suits_constraint p h (term_suits t) (term_suits u)
  con_suits (con_range p q relation h low high c t d) = suits_range p h (const_suits c) (term_suits t) (const_suits d)
  con_suits (con_and c cs) = suits_all (suits_one_con (con_suits c) (cons_suit cs))
  con_suits (con_forall p with_do index c) = suits_forall p (loop_suits index) (con_suits c)
  con_suits (con_if p test c) = suits_con_if p (const_suits test) (con_suits c) suits_no_otherwise
  con_suits (con_if_with_else p test c d) = suits_con_if p (const_suits test) (con_suits c) (suits_otherwise (con_suits d))
  con_suits (con_vif p test c) = suits_con_vif p (cond_suits test) (con_suits c) suits_no_otherwise
  con_suits (con_vif_with_else p test c d) = suits_con_vif p (cond_suits test) (con_suits c) (suits_otherwise (con_suits d))

  cons_suit : {scope : Scope} {names : Names} {others : List (Place × Expr)} {cs : List Con} → AreCons scope names others cs → ConsSuit scope names cs
  cons_suit no_con = suits_no_con
  cons_suit (one_con p c cs) = suits_one_con (con_suits c) (cons_suit cs)
