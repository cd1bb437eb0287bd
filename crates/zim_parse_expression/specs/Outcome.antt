-- What a function that parses answers: what the parser of the definitions reads, unless memory fails.
use Rattle.std.specs.Prelude.{◌≡◌, ℕ, List, [], ◌∷◌, Bool, true, false, Option, Some, None, Result, Ok, Err}
use Rattle.std.specs.declared.alloc.Global.{Global}
use denote.Ref.{MutBor}
use Rattle.zim_fault.specs.declared.faults.Place.{Place}
use Rattle.zim_fault.specs.declared.tokens.Placed.{Placed}
use Rattle.zim_fault.specs.declared.tokens.Token.{Token}
use Rattle.zim_fault.specs.declared.signs.Sign.{Sign}
use Rattle.zim_fault.specs.declared.signs.Sign.TheVariants as sign
use Rattle.zim_fault.specs.declared.words.Word.{Word}
use Rattle.zim_fault.specs.declared.words.Word.TheVariants as word
use Rattle.zim_tree.specs.declared.expr.Expr.{Expr}
use Rattle.zim_tree.specs.declared.classes.Class.{Class}
use Rattle.zim_tree.specs.declared.classes.Class.TheVariants as class
use Rattle.zim_tree.specs.Levels.{Level, unary, term, sum, disjunction, whole}
use Rattle.zim_parse_expression.specs.declared.failure.Failure.{Failure}
use Rattle.zim_parse_expression.specs.declared.failure.Failure.TheVariants.{Syntax}
use Rattle.zim_parse_expression.specs.declared.grammar.Wanted.{Wanted}
use Rattle.zim_parse_expression.specs.declared.grammar.Wanted.TheVariants as wanted
use Rattle.zim_parse_expression.specs.declared.terminals.Terminal.{Terminal}
use Rattle.zim_parse_expression.specs.declared.terminals.Terminal.TheVariants as terminal
use Rattle.zim_scan.specs.Nesting.{class_at, is_left_paren}
use Rattle.zim_parse_expression.specs.Next.{Start, a_less, is_right_paren, is_right_bracket, is_right_brace, is_comma, is_less, is_greater, is_in, is_then, is_else, is_end, is_by, is_exclamation}
use Rattle.zim_parse_expression.specs.Parser.{Parsed, Parser, parse}
use Rattle.zim_parse_expression.specs.StatementTokens.{is_semicolon, is_assign, is_colon, is_left_bracket, is_left_brace, is_bar, is_read, is_as, is_default, is_priority, is_startval}

-- what was read and what is left, or nothing; where memory fails, nothing is said
abbrev pub IsParsed : {A : Type 0} → Parsed A → Result A Failure → List Placed → Type 0
IsParsed parsed (Ok a) rest = parsed ≡ Some (a, rest)
IsParsed parsed (Err e) rest = e ≡ Syntax → parsed ≡ None

-- what was found and what is left behind it, or nothing, and then all is left
abbrev pub Finds : {A : Type 0} → Parsed A → Option A → List Placed → List Placed → Type 0
Finds parsed None old rest = (parsed ≡ None) × (rest ≡ old)
Finds parsed (Some a) old rest = parsed ≡ Some (a, rest)

-- the level that is wanted
abbrev pub level_wanted : Wanted → Level
level_wanted wanted.Unary = unary
level_wanted wanted.Term = term
level_wanted wanted.Sum = sum
level_wanted wanted.Disjunction = disjunction
level_wanted wanted.Whole = whole

-- a function value that parses what stands this many levels deep
pub record Nests (depth : ℕ) (pre : Global → MutBor (List Placed) → ℕ → Wanted → Type 0)
    (post : Global → MutBor (List Placed) → ℕ → Wanted → Result Expr Failure → MutBor (List Placed) → Type 0) : Type 0 where
  pub callable : (alloc : Global) (old : MutBor (List Placed)) (level : Wanted) → pre alloc old depth level
  pub gives : (alloc : Global) (old new : MutBor (List Placed)) (level : Wanted) (r : Result Expr Failure) → post alloc old depth level r new
      → IsParsed (parse depth (level_wanted level) old.now) r new.now

-- a function value that takes a turn of a list
abbrev pub IsTurn : {A : Type 0} → (List Placed → Parsed (Option A)) → (MutBor (List Placed) → Result (Option A) Failure → MutBor (List Placed) → Type 0) → Type 0
IsTurn {A = A} turn post = (old new : MutBor (List Placed)) (r : Result (Option A) Failure) → post old r new → IsParsed (turn old.now) r new.now

-- a function value that parses
abbrev pub IsParser : {A : Type 0} → Parser A → (MutBor (List Placed) → Result A Failure → MutBor (List Placed) → Type 0) → Type 0
IsParser {A = A} parser post = (old new : MutBor (List Placed)) (r : Result A Failure) → post old r new → IsParsed (parser old.now) r new.now

-- the class of the next token, if there is one
abbrev pub class_next : List Placed → Option Class
class_next [] = None
class_next (t ∷ rest) = Some (class_at t)

-- what a test finds in the next token, with its place and what is left behind it
abbrev pub found_at : {A : Type 0} → Placed → List Placed → Option A → Option (Place × A × List Placed)
found_at t rest None = None
found_at t rest (Some x) = Some (t.place, x, rest)

-- what a test finds in the next token, if there is one
abbrev pub found_next : {A : Type 0} → (Token → Option A) → List Placed → Option (Place × A × List Placed)
found_next test [] = None
found_next test (t ∷ rest) = found_at t rest (test t.token)

-- whether tokens begin with `<`
abbrev pub is_less_start : Start → Bool
is_less_start a_less = true
is_less_start _ = false

-- `not`
abbrev pub is_not : Class → Bool
is_not class.Not = true
is_not _ = false

-- `forall`
abbrev pub is_forall : Class → Bool
is_forall class.Forall = true
is_forall _ = false

-- the test for a terminal that a rule names
abbrev pub terminal_test : Terminal → Class → Bool
terminal_test terminal.LeftParen = is_left_paren
terminal_test terminal.RightParen = is_right_paren
terminal_test terminal.RightBracket = is_right_bracket
terminal_test terminal.RightBrace = is_right_brace
terminal_test terminal.Comma = is_comma
terminal_test terminal.Less = is_less
terminal_test terminal.Greater = is_greater
terminal_test terminal.In = is_in
terminal_test terminal.Then = is_then
terminal_test terminal.Else = is_else
terminal_test terminal.End = is_end
terminal_test terminal.By = is_by
terminal_test terminal.Exclamation = is_exclamation
terminal_test terminal.Not = is_not
terminal_test terminal.Forall = is_forall

-- the test for a sign that a rule of statements names
abbrev pub sign_test : Sign → Token → Bool
sign_test sign.SSemicolon = is_semicolon
sign_test sign.SAssign = is_assign
sign_test sign.SColon = is_colon
sign_test sign.SLeftBracket = is_left_bracket
sign_test sign.SLeftBrace = is_left_brace
sign_test sign.SBar = is_bar
sign_test _ = λ _. false

-- the test for a word that a rule of statements names
abbrev pub word_test : Word → Token → Bool
word_test word.WRead = is_read
word_test word.WAs = is_as
word_test word.WDefault = is_default
word_test word.WPriority = is_priority
word_test word.WStartval = is_startval
word_test _ = λ _. false
