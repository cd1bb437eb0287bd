-- What is compiled of a model can be listed in a table: its names are fields of a line, and different ones.
use Rattle.std.proofs.Common.{◌≡◌, ◌≢◌, ℕ, ◌+◌, ◌<◌, ◌≤◌, suc, nat_le, nat_lt, Bool, true, false, List, [], ◌∷◌, ◌++◌, length, map, Option, Some, None, refl, sym, ◌∙◌, ap, subst, arith, cond}
use Rattle.std.specs.Prelude.{All, AllPairs, IsTrue, ⊤, ◌&&◌, ◌==◌, not, IfSome, IsSome, option_map, slice_index_or}
use Rattle.std.specs.Option.{option_or}
use Rattle.std.specs.List.{AllByRecursion, list_all, flat_map}
use Rattle.std.specs.List.Sorted.{IsNonDecreasingBy}
use Rattle.std.proofs.lemmas.Bool.Decides.{nat_tests}
use Rattle.std.proofs.lemmas.List.{length-map}
use Rattle.std.proofs.lemmas.List.Elements.{All-from_recursion}
use Rattle.zim_fault.specs.declared.faults.Place.{Place}
use Rattle.zim_fault.specs.declared.signs.Sign.{Sign}
use Rattle.zim_fault.specs.declared.words.Word.{Word}
use Rattle.zim_fault.specs.declared.tokens.Token.{Token}
use Rattle.zim_fault.specs.declared.tokens.Token.TheVariants as token
use Rattle.zim_fault.specs.declared.tokens.Placed.{Placed}
use Rattle.zim_fields.specs.Fields.{IsPlainByte, IsField}
use Rattle.zim_lex.specs.declared.lines.Line.{Line}
use Rattle.zim_lex.specs.declared.lines.Span.{Span}
use Rattle.zim_lex.specs.Classes.{begins_name, continues_name, first_is}
use Rattle.zim_decimal.specs.Token.{is_number_token}
use Rattle.zim_lex.specs.Numbers.{is_string}
use Rattle.zim_lex.specs.Pieces.{is_word, is_name, between_quotes, token_of}
use Rattle.zim_lex.specs.Spelled.{word_in, sign_in}
use Rattle.zim_lex.specs.Tokens.{placed_token, tokens_at, AreTokens, none, more}
use Rattle.zim_rows.specs.declared.rows.Row.{Row}
use Rattle.zim_rows.specs.Finished.{program_of}
use Rattle.zim_rows.specs.Program.{LinearProgram}
use Rattle.zim_rows.specs.declared.rows.Target.{Target}
use Rattle.zim_rows.specs.Scaled.{scaled_row, scaled_target}
use Rattle.zim_tree.specs.declared.stmt.Stmt.{Stmt}
use Rattle.zim_tree.specs.declared.stmt.Shape.{Shape}
use Rattle.zim_tree.specs.declared.stmt.Shape.TheVariants as shape
use Rattle.zim_tree.specs.StatementGrammar.{ReadsShape, a_set_statement, a_param_statement, a_var_statement, a_goal_statement, a_subto_statement, a_definition, a_do_statement, ReadsStatement, a_statement}
use Rattle.zim_columns.specs.declared.declared.Declared.{Declared}
use Rattle.zim_columns.specs.Names.{are_rising, IsFoundByName}
use Rattle.zim_table.specs.Correct.{IsStatement, IsListed, CanBeListed}
use Rattle.zim_table.specs.declared.names.Names.{Names}
use Rattle.zim_plain.specs.declared.plain_form.PlainProgram.{PlainProgram}
use Rattle.zim_plain.specs.Statements.{Statement, Variable, Objective, Constraint, PlainModel, variables, given_name}
use Rattle.zim_plain.specs.Trees.{tree_of, trees_of}
use Rattle.zim_plain.specs.Answers.{TellsModel}
use Rattle.zim_plain.specs.Asks.{columns_from}
use Rattle.zim_plain.specs.Faults.{IsPlain}
use Rattle.zim_plain.proofs.NameLaws.{names_apart, objective_given}
use Rattle.zim_build.specs.Steps.{compiled_of}
use Rattle.zim_build.specs.Parsed.{AreParsed}
use Rattle.zim_build.proofs.RowPositions.{position_there, rows_there, rows_rise}
use Rattle.zim_build.proofs.ParsedLemmas.{all_append, all_parts, all_parsed}

-- bytes

and_both : (a b : Bool) → (a && b) ≡ true → (a ≡ true) × (b ≡ true)
and_both true b e = (refl, e)
and_both false b e = cc

first_plain : (b : ℕ) → begins_name b ≡ true → IsPlainByte b
first_plain b e = record { blank = grind (arith, nat_tests); line_end = grind (arith, nat_tests) }

next_plain : (b : ℕ) → continues_name b ≡ true → IsPlainByte b
next_plain b e = record { blank = grind (arith, nat_tests); line_end = grind (arith, nat_tests) }

all_plain : (bs : List ℕ) → list_all continues_name bs ≡ true → AllByRecursion IsPlainByte bs
all_plain [] e = tt
all_plain (b ∷ bs) e = let both = and_both (continues_name b) (list_all continues_name bs) e in (next_plain b both.0, all_plain bs both.1)

name_field : (piece : List ℕ) → is_name piece ≡ true → IsField piece
name_field [] e = cc
name_field (b ∷ bs) e =
    let begun = and_both (begins_name b && list_all continues_name bs) (not (is_word (b ∷ bs))) e in
    let both = and_both (begins_name b) (list_all continues_name bs) begun.0 in
    record { some = refl; plain = (first_plain b both.0, all_plain bs both.1) }

-- tokens

abbrev IsNamed : Token → Type 0
IsNamed (token.Name name) = IsField name
IsNamed _ = ⊤

spelled_named : (w : Option Word) (s : Option Sign) (t : Token) → option_or (option_map token.Word w) (option_map token.Sign s) ≡ Some t → IsNamed t
spelled_named (Some w) s t e = let same : token.Word w ≡ t = cc in subst IsNamed same tt
spelled_named None (Some s) t e = let same : token.Sign s ≡ t = cc in subst IsNamed same tt
spelled_named None None t e = cc

token_named : (piece : List ℕ) (t : Token) → token_of piece ≡ Some t → IsNamed t
unfolding token_of
token_named piece t e = by_class (is_name piece) (is_number_token piece) (is_string piece) refl e
  where
    string : Token
    string = token.Text (between_quotes piece) (first_is (λ (b : ℕ). b == 34) piece)

    by_class : (a b c : Bool) → is_name piece ≡ a →
        cond a (Some (token.Name piece)) (cond b (Some (token.Number piece)) (cond c (Some string) (option_or (option_map token.Word (word_in piece)) (option_map token.Sign (sign_in piece))))) ≡ Some t → IsNamed t
    by_class true b c is h = let same : token.Name piece ≡ t = cc in subst IsNamed same (name_field piece is)
    by_class false true c is h = let same : token.Number piece ≡ t = cc in subst IsNamed same tt
    by_class false false true is h = let same : string ≡ t = cc in subst IsNamed same tt
    by_class false false false is h = spelled_named (word_in piece) (sign_in piece) t h

abbrev AreNamed : List Placed → Type 0
AreNamed placed = AllByRecursion (λ (p : Placed). IsNamed p.token) placed

named_append : (xs ys : List Placed) → AreNamed xs → AreNamed ys → AreNamed (xs ++ ys)
named_append xs ys h k = all_append (λ (p : Placed). IsNamed p.token) xs ys h k

piece_named : (place : Place) (piece : List ℕ) → AreNamed (placed_token place (token_of piece))
piece_named place piece = by_token (token_of piece) refl
  where
    by_token : (o : Option Token) → token_of piece ≡ o → AreNamed (placed_token place o)
    by_token None is = tt
    by_token (Some t) is = (token_named piece t is, tt)

pieces_named : (place : Place) (pieces : List (List ℕ)) → AreNamed (tokens_at place pieces)
unfolding tokens_at
pieces_named place [] = tt
pieces_named place (piece ∷ pieces) = named_append (placed_token place (token_of piece)) (flat_map (λ p. placed_token place (token_of p)) pieces) (piece_named place piece) (pieces_named place pieces)

tokens_named : (lines : List Line) (placed : List Placed) → AreTokens lines placed → AreNamed placed
tokens_named _ _ none = tt
tokens_named _ _ (more line lines first others at rest) =
    named_append first others (subst AreNamed (sym at.tokens_are) (pieces_named line.place at.pieces)) (tokens_named lines others rest)

-- statements

-- what a statement of this shape declares is a field; a `do` declares nothing
abbrev IsNamedShape : Shape → List ℕ → Type 0
IsNamedShape (shape.Do doing) name = ⊤
IsNamedShape _ name = IsField name

shape_named : (p q : Place) (name : List ℕ) (ts : List Placed) (what : Shape) → ReadsShape p q name ts what → AreNamed ts → IsNamedShape what name
shape_named _ _ _ _ _ (a_set_statement p q r name brackets side) h = h.1.0
shape_named _ _ _ _ _ (a_param_statement p q r name brackets side) h = h.1.0
shape_named _ _ _ _ _ (a_var_statement p q name kept brackets kind limits priority startval) h = h.1.0
shape_named _ _ _ _ _ (a_goal_statement p q r maximize name objective) h = h.1.0
shape_named _ _ _ _ _ (a_subto_statement p q r name constraint) h = h.1.0
shape_named _ _ _ _ _ (a_definition p q r s t _ name is parameters inside) h = h.1.0
shape_named _ _ _ _ _ (a_do_statement p inside) h = tt

-- the name of a statement is a token
abbrev IsNamedStatement : Stmt → Type 0
IsNamedStatement s = IsNamedShape s.shape s.name

read_named : (ts : List Placed) (s : Stmt) → ReadsStatement ts s → AreNamed ts → IsNamedStatement s
read_named _ _ (a_statement p q r name {ts = ts} {what = what} reads) h =
    shape_named p q name ts what reads (all_parts (λ (p : Placed). IsNamed p.token) ts _ h).0

statement_named : (s : Statement) → IsNamedStatement (tree_of s) → IsField (given_name s)
statement_named (Variable head) h = h
statement_named (Objective maximize head sum) h = h
statement_named (Constraint head left sense at right) h = h

statements_named : (model : PlainModel) → AllByRecursion IsNamedStatement (trees_of model) → AllByRecursion (λ (s : Statement). IsField (given_name s)) model
statements_named [] h = tt
statements_named (s ∷ model) h = (statement_named s h.0, statements_named model h.1)

variables_fields : (model : PlainModel) → AllByRecursion (λ (s : Statement). IsField (given_name s)) model → AllByRecursion IsField (variables model)
variables_fields [] h = tt
variables_fields (Variable head ∷ model) h = (h.0, variables_fields model h.1)
variables_fields (Objective maximize head sum ∷ model) h = variables_fields model h.1
variables_fields (Constraint head left sense at right ∷ model) h = variables_fields model h.1

names_fields : (model : PlainModel) → AllByRecursion (λ (s : Statement). IsField (given_name s)) model → AllByRecursion IsField (map given_name model)
names_fields [] h = tt
names_fields (s ∷ model) h = (h.0, names_fields model h.1)

is_statement : (names : Names) (position count : ℕ) → length names.statements ≡ count → All IsField names.statements → position < count → IsStatement names position
is_statement names position count e fields low = record { there = omega (arith, e, low); name = fields position [] (omega (arith, e, low)) }

objective_statement : (names : Names) (count : ℕ) (o : Option ℕ) → length names.statements ≡ count → All IsField names.statements → IfSome o (λ (position : ℕ). position < count) → IfSome o (IsStatement names)
objective_statement names count None e fields low = tt
objective_statement names count (Some position) e fields low = is_statement names position count e fields low

-- ---- the declared columns

all_listed : (count number : ℕ) (names : List (List ℕ)) → number + length names ≤ count + 1 → AllByRecursion IsField names → AllByRecursion (IsListed count) (columns_from number names)
all_listed count number [] l h = tt
all_listed count number (name ∷ names) l h =
    (record { in_system = omega (arith, l); name = h.0 }, all_listed count (number + 1) names (omega (arith, l)) h.1)

columns_rising : (number : ℕ) (names : List (List ℕ)) → are_rising number (columns_from number names) ≡ true
columns_rising number [] = refl
columns_rising number (name ∷ names) =
    let first : nat_le number number ≡ true = grind (arith, nat_tests) in
    let next : suc number ≡ number + 1 = omega arith in
    ap (λ (b : Bool). b && are_rising (suc number) (columns_from (number + 1) names)) first
    ∙ ap (λ (n : ℕ). are_rising n (columns_from (number + 1) names)) next
    ∙ columns_rising (number + 1) names

-- ---- the statements of rows

-- positions that have the same of different names are the same
one_position : (names : List (List ℕ)) (p q : ℕ) → AllPairs (λ (one later : List ℕ). one ≢ later) names → p < length names → q < length names → slice_index_or names p [] ≡ slice_index_or names q [] → p ≡ q
one_position names p q apart l m e = by (nat_lt p q) (nat_lt q p) refl refl
  where
    by : (a b : Bool) → nat_lt p q ≡ a → nat_lt q p ≡ b → p ≡ q
    by true b low high = absurd (apart p q [] (grind (arith, nat_tests, low)) m e)
    by false true low high = absurd (apart q p [] (grind (arith, nat_tests, high)) l (sym e))
    by false false low high = grind (arith, nat_tests, low, high)

-- what the lines of a model give can be listed
pub listable : (placed : List Placed) (spans : List Span) (lines : List Line) (model : PlainModel) (plain : PlainProgram) (files : List (List ℕ)) → AreTokens lines placed → AreParsed placed spans (trees_of model) → IsPlain model → TellsModel model plain →
    All (IsFoundByName plain.columns) plain.columns → CanBeListed (program_of plain.system) plain.columns (compiled_of plain files).names
listable placed spans lines model plain files tokens parsed is says found =
    let names : Names = (compiled_of plain files).names in
    let each : AllByRecursion (λ (s : Statement). IsField (given_name s)) model =
    statements_named model
    (all_parsed (λ (p : Placed). IsNamed p.token) IsNamedStatement (λ ts s is. read_named ts s is.reads) placed spans (trees_of model) (tokens_named lines placed tokens) parsed) in
    let count : length plain.statements ≡ length model = ap length says.statements ∙ length-map model given_name in
    let fields : All IsField plain.statements = subst (All IsField) (sym says.statements) (All-from_recursion IsField (map given_name model) (names_fields model each)) in
    let apart : AllPairs (λ (one later : List ℕ). one ≢ later) plain.statements =
    subst (AllPairs (λ (one later : List ℕ). one ≢ later)) (sym says.statements) (names_apart model is) in
    let rows : map scaled_row says.system.rows ≡ plain.system.rows = sym (ap (λ (p : LinearProgram). p.rows) says.program_is) in
    let there : All (λ (r : Row). r.from.statement < length model) plain.system.rows =
    subst (All (λ (r : Row). r.from.statement < length model)) rows (rows_there (variables model) model says.system.rows says.system_is.rows) in
    let columns : (P : List Declared → Type 0) → P (columns_from 1 (variables model)) → P plain.columns = λ P h. subst P (sym says.columns_are) h in
    record {
      listed = columns (All (IsListed (length plain.system.columns)))
          (All-from_recursion (IsListed (length plain.system.columns)) (columns_from 1 (variables model))
          (all_listed (length plain.system.columns) 1 (variables model) (omega (arith, says.columns)) (variables_fields model each)));
      rising = columns (λ ds. IsTrue (are_rising 1 ds)) (columns_rising 1 (variables model));
      found = found;
      statements = λ k d low. is_statement names _ (length model) count fields (there k d low);
      never_fall = subst (IsNonDecreasingBy (λ (r : Row). r.from.statement)) rows (rows_rise (variables model) 0 model says.system.rows says.system_is.rows);
      named_once = λ i d l j e m same.
          one_position plain.statements _ _ apart (omega (arith, count, there i d l)) (omega (arith, count, there j e m)) same;
      objective = objective_statement names (length model) plain.objective count fields
          (subst (λ (o : Option ℕ). IfSome o (λ (position : ℕ). position < length model)) (sym says.objective_is) (position_there 0 (length model) model (omega arith)));
      aim =
          let both = objective_given (variables model) 0 model says.system.objective says.system_is.objective in
          let target : scaled_target says.system.objective ≡ plain.system.target = sym (ap (λ (p : LinearProgram). p.target) says.program_is) in (
            λ e. subst (λ (t : Target). IsSome t.place) target (both.0 (subst (λ (o : Option ℕ). IsSome o) says.objective_is e)),
            λ e. subst (λ (o : Option ℕ). IsSome o) (sym says.objective_is) (both.1 (subst (λ (t : Target). IsSome t.place) (sym target) e)),
          );
    }
