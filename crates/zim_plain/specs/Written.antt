-- How a statement of plain form is written: its tokens, by this grammar.
--
--     statement = "var" name ";" | ("minimize" | "maximize") name ":" list ";" | "subto" name ":" list relation list ";"
--     list = ["+" | "-"] item {("+" | "-") item}
--     item = coefficient | [coefficient "*"] name
--     coefficient = number ["/" number]
use Rattle.std.specs.Prelude.{◌≡◌, if◌then◌else◌, List, [], ◌∷◌, ◌++◌, map, Option, Some, None}
use Rattle.std.specs.List.{flat_map}
use Rattle.zim_fault.specs.declared.signs.Sign.TheVariants.{SSemicolon, SColon, SLessEqual, SGreaterEqual, SEqual, SPlus, SMinus, SStar, SSlash}
use Rattle.zim_fault.specs.declared.tokens.Token.TheVariants.{Number as number_token}
use Rattle.zim_fault.specs.declared.tokens.Placed.{Placed}
use Rattle.zim_fault.specs.declared.words.Word.TheVariants.{WVar, WMinimize, WMaximize, WSubto}
use Rattle.zim_rows.specs.declared.rows.Sense.{Sense}
use Rattle.zim_rows.specs.declared.rows.Sense.TheVariants.{AtMost, AtLeast, Equal}
use Rattle.zim_tree.specs.Spelling.{Tokens, a_word, a_sign}
use Rattle.zim_tree.specs.StatementSpelling.{a_name}
use Rattle.zim_tree.specs.StatementGrammar.{ReadsStatement}
use Rattle.zim_plain.specs.Statements.{Literal, Divisor, Coefficient, Factor, Item, Constant, Multiple, SignAt, Further, Sum, Statement, Variable, Objective, Constraint}
use Rattle.zim_plain.specs.Trees.{tree_of}

-- A number.
abbrev pub written_number : Literal → Tokens
written_number literal = number_token literal.text ∷ []

-- `/ number`, or nothing.
abbrev pub written_divisor : Option Divisor → Tokens
written_divisor None = []
written_divisor (Some divisor) = a_sign SSlash ++ written_number divisor.literal

-- A coefficient: a number, perhaps with `/ number` behind it.
abbrev pub written_coefficient : Coefficient → Tokens
written_coefficient coefficient = written_number coefficient.number ++ written_divisor coefficient.divisor

-- `coefficient *`, or nothing.
abbrev pub written_factor : Option Factor → Tokens
written_factor None = []
written_factor (Some factor) = written_coefficient factor.coefficient ++ a_sign SStar

-- An item: a coefficient, or a name, perhaps with `coefficient *` before it.
abbrev pub written_item : Item → Tokens
written_item (Constant coefficient) = written_coefficient coefficient
written_item (Multiple factor place name) = written_factor factor ++ a_name name

-- `+` or `-`.
abbrev pub written_sign : SignAt → Tokens
written_sign sign = a_sign (if sign.negative then SMinus else SPlus)

-- `+` or `-`, or nothing.
abbrev pub written_first_sign : Option SignAt → Tokens
written_first_sign None = []
written_first_sign (Some sign) = written_sign sign

-- `+` or `-`, and an item.
abbrev pub written_further : Further → Tokens
written_further further = written_sign further.sign ++ written_item further.item

-- A list: perhaps `+` or `-`, an item, and further items, each with `+` or `-` before it.
abbrev pub written_list : Sum → Tokens
written_list sum = written_first_sign sum.sign ++ written_item sum.first ++ flat_map written_further sum.others

-- A relation: `<=`, `>=` or `==`.
abbrev pub written_relation : Sense → Tokens
written_relation AtMost = a_sign SLessEqual
written_relation AtLeast = a_sign SGreaterEqual
written_relation Equal = a_sign SEqual

-- A statement: `var name;`, `minimize name: list;`, `maximize name: list;` or `subto name: list relation list;`.
abbrev pub written : Statement → Tokens
written (Variable head) = a_word WVar ++ a_name head.name ++ a_sign SSemicolon
written (Objective maximize head sum) =
    a_word (if maximize then WMaximize else WMinimize) ++ a_name head.name ++ a_sign SColon ++ written_list sum ++ a_sign SSemicolon
written (Constraint head left sense at right) =
    a_word WSubto ++ a_name head.name ++ a_sign SColon ++ written_list left ++ written_relation sense ++ written_list right ++ a_sign SSemicolon

-- Tokens that, their places aside, are what is written, and that the grammar of the language reads as the statement's tree.
pub record Writing (statement : Statement) : Type 0 where
  pub tokens : List Placed
  pub as_written : map (λ (t : Placed). t.token) tokens ≡ written statement
  pub reads : ReadsStatement tokens (tree_of statement)

-- Tokens are written in plain form where, their places aside, they are what is written of some statement.
abbrev pub IsWrittenInPlainForm : List Placed → Type 0
IsWrittenInPlainForm tokens = (statement : Statement) × (map (λ (t : Placed). t.token) tokens ≡ written statement)

-- Tokens are read in plain form where the grammar of the language reads them as the tree of some statement.
abbrev pub IsReadInPlainForm : List Placed → Type 0
IsReadInPlainForm tokens = (statement : Statement) × ReadsStatement tokens (tree_of statement)
