-- The grammar of statements: a derivation shows that these tokens are a statement, and which places its parts have.
use Rattle.std.specs.Prelude.{ℕ, ◌≡◌, ◌≤◌, List, [], ◌∷◌, ◌++◌, length, count_by, Bool, true, false, not, Option, Some, None, if◌then◌else◌}
use Rattle.zim_fault.specs.declared.faults.Place.{Place}
use Rattle.zim_fault.specs.declared.tokens.Token.{Token}
use Rattle.zim_fault.specs.declared.tokens.Token.TheVariants.{Name as name_token, Word as word_token, Sign as sign_token}
use Rattle.zim_fault.specs.declared.tokens.Placed.{Placed}
use Rattle.zim_fault.specs.declared.signs.Sign.TheVariants.{SSemicolon, SComma, SColon, SLeftParen, SRightParen, SLeftBracket, SRightBracket, SLeftBrace, SRightBrace, SLessEqual, SGreaterEqual, SAssign, SBar}
use Rattle.zim_fault.specs.declared.words.Word.{Word}
use Rattle.zim_fault.specs.declared.words.Word.TheVariants.{WSet, WParam, WVar, WMinimize, WMaximize, WSubto, WDefnumb, WDefstrg, WDefbool, WDefset, WDo, WPrint, WCheck, WForall, WRead, WAs, WSkip, WUse, WComment, WDefault, WBinary, WInteger, WReal, WPriority, WStartval}
use Rattle.zim_tree.specs.declared.expr.Expr.{Expr}
use Rattle.zim_tree.specs.declared.expr.Expr.TheVariants as tree
use Rattle.zim_tree.specs.declared.expr.Angle.{Angle}
use Rattle.zim_tree.specs.declared.expr.Index.{Index}
use Rattle.zim_tree.specs.declared.stmt.Stmt.{Stmt}
use Rattle.zim_tree.specs.declared.stmt.Shape.{Shape}
use Rattle.zim_tree.specs.declared.stmt.Shape.TheVariants as shape
use Rattle.zim_tree.specs.declared.stmt.Bracket.{Bracket}
use Rattle.zim_tree.specs.declared.stmt.Bracket.TheVariants as bracket
use Rattle.zim_tree.specs.declared.stmt.SetSide.{SetSide}
use Rattle.zim_tree.specs.declared.stmt.SetSide.TheVariants as set_side
use Rattle.zim_tree.specs.declared.stmt.ParSide.{ParSide}
use Rattle.zim_tree.specs.declared.stmt.ParSide.TheVariants as par_side
use Rattle.zim_tree.specs.declared.stmt.Table.{Table}
use Rattle.zim_tree.specs.declared.stmt.Limit.{Limit}
use Rattle.zim_tree.specs.declared.stmt.Reading.{Reading}
use Rattle.zim_tree.specs.declared.stmt.Doing.{Doing}
use Rattle.zim_tree.specs.declared.stmt.Doing.TheVariants as doing
use Rattle.zim_tree.specs.declared.stmt.Printed.{Printed}
use Rattle.zim_tree.specs.declared.stmt.Printed.TheVariants as printed
use Rattle.zim_tree.specs.declared.classes.Class.TheVariants as class
use Rattle.zim_tree.specs.Classes.{word_class}
use Rattle.zim_tree.specs.Levels.{unary, sum, disjunction, whole, placed, separator_token}
use Rattle.zim_tree.specs.Grammar.{Reads, ReadsList, ReadsTuple, ReadsIndex}

-- a word at a place
abbrev pub word_at : Place → Word → Placed
word_at p word = placed p (word_token word)

-- `read` and its options

-- an option of `read`
abbrev pub is_option : Word → Bool
is_option WSkip = true
is_option WUse = true
is_option WComment = true
is_option _ = false

-- `skip`
abbrev pub is_skip : Word → Bool
is_skip WSkip = true
is_skip _ = false

-- `use`
abbrev pub is_use : Word → Bool
is_use WUse = true
is_use _ = false

-- `comment`
abbrev pub is_comment : Word → Bool
is_comment WComment = true
is_comment _ = false

-- each option stands at most once
abbrev pub AtMostOnce : {A : Type 0} → List (Place × Word × A) → Type 0
AtMostOnce {A} options = (count_by (λ (x : Place × Word × A). is_skip x.1) options ≤ 1)
    × (count_by (λ (x : Place × Word × A). is_use x.1) options ≤ 1)
    × (count_by (λ (x : Place × Word × A). is_comment x.1) options ≤ 1)

-- the tokens are options of `read`, each with its operand
pub data ReadsOptions : List Placed → List (Place × Word × Expr) → Type 0 where
  no_option : ReadsOptions [] []
  an_option : (p : Place) (word : Word) {ts us : List Placed} {operand : Expr} {others : List (Place × Word × Expr)} → is_option word ≡ true →
      Reads sum ts operand → ReadsOptions us others → ReadsOptions (word_at p word ∷ (ts ++ us)) ((p, word, operand) ∷ others)

-- the tokens are a `read`
pub data ReadsReading : List Placed → Reading → Type 0 where
  a_reading : (p q : Place) {ts us vs : List Placed} {file template : Expr} {options : List (Place × Word × Expr)} → AtMostOnce options →
      Reads sum ts file → Reads sum us template → ReadsOptions vs options →
      ReadsReading (word_at p WRead ∷ (ts ++ (word_at q WAs ∷ (us ++ vs)))) (record { place = q; file = file; template = template; options = options })

-- the tokens are one or more tuples, each with an expression behind it, with commas between them
pub data ReadsEntries : List Placed → List (Angle × Expr) → Type 0 where
  the_last_entry : {ts us : List Placed} {tuple : Angle} {given : Expr} → ReadsTuple ts tuple → Reads sum us given → ReadsEntries (ts ++ us) ((tuple, given) ∷ [])
  one_more_entry : (p : Place) {ts us vs : List Placed} {tuple : Angle} {given : Expr} {others : List (Angle × Expr)} →
      ReadsTuple ts tuple → Reads sum us given → ReadsEntries vs others →
      ReadsEntries (ts ++ (us ++ placed p (sign_token SComma) ∷ vs)) ((tuple, given) ∷ others)

-- the tokens are one or more rows of a table with this many columns
pub data ReadsRows : ℕ → List Placed → List (List Expr × List Expr) → Type 0 where
  the_last_row : {columns : ℕ} (p q r : Place) {ts us : List Placed} {items values : List Expr} → length values ≡ columns →
      ReadsList unary ts items → ReadsList unary us values →
      ReadsRows columns (placed p (sign_token SBar) ∷ (ts ++ (placed q (sign_token SBar) ∷ (us ++ placed r (sign_token SBar) ∷ [])))) ((items, values) ∷ [])
  one_more_row : {columns : ℕ} (p q r : Place) {ts us vs : List Placed} {items values : List Expr} {rows : List (List Expr × List Expr)} → length values ≡ columns →
      ReadsList unary ts items → ReadsList unary us values → ReadsRows columns vs rows →
      ReadsRows columns (placed p (sign_token SBar) ∷ (ts ++ (placed q (sign_token SBar) ∷ (us ++ placed r (sign_token SBar) ∷ vs)))) ((items, values) ∷ rows)

-- the tokens are a table
pub data ReadsTable : List Placed → Table → Type 0 where
  a_table : (p q : Place) {ts us : List Placed} {head : List Expr} {rows : List (List Expr × List Expr)} → ReadsList unary ts head → ReadsRows (length head) us rows →
      ReadsTable (placed p (sign_token SBar) ∷ (ts ++ placed q (sign_token SBar) ∷ us)) (record { head = head; rows = rows })

-- the tokens are nothing, or this word and its operand
pub data ReadsGiven : Word → List Placed → Option (Place × Expr) → Type 0 where
  not_given : {word : Word} → ReadsGiven word [] None
  is_given : {word : Word} (p : Place) {ts : List Placed} {operand : Expr} → Reads sum ts operand → ReadsGiven word (word_at p word ∷ ts) (Some (p, operand))

-- the tokens are what a set with these brackets is declared to be
pub data ReadsSetSide : Option Bracket → List Placed → SetSide → Type 0 where
  a_set : {ts : List Placed} {value : Expr} → Reads sum ts value → ReadsSetSide None ts (set_side.Value value)
  a_set_read : (p q : Place) {ts : List Placed} {reading : Reading} → ReadsReading ts reading →
      ReadsSetSide None (placed p (sign_token SLeftBrace) ∷ (ts ++ placed q (sign_token SRightBrace) ∷ [])) (set_side.Read reading)
  a_family : (p q r : Place) (word : Word) {ts : List Placed} {given : List Expr} → word_class word ≡ class.Family → ReadsList disjunction ts given →
      ReadsSetSide (Some bracket.Empty) (word_at p word ∷ (placed q (sign_token SLeftParen) ∷ (ts ++ placed r (sign_token SRightParen) ∷ []))) (set_side.Value (tree.Func p word given))
  a_set_for_each : {index : Index} {ts : List Placed} {value : Expr} → Reads sum ts value → ReadsSetSide (Some (bracket.Loop index)) ts (set_side.Value value)
  sets_listed : {over : Expr} {ts : List Placed} {entries : List (Angle × Expr)} → ReadsEntries ts entries → ReadsSetSide (Some (bracket.Over over)) ts (set_side.Entries entries)

-- the tokens are what a parameter with these brackets is declared to be
pub data ReadsParSide : Option Bracket → List Placed → ParSide → Type 0 where
  a_value : {ts : List Placed} {value : Expr} → Reads disjunction ts value → ReadsParSide None ts (par_side.Value value)
  a_value_read : {ts : List Placed} {reading : Reading} → ReadsReading ts reading → ReadsParSide None ts (par_side.Read reading None)
  a_value_for_each : {index : Index} {ts : List Placed} {value : Expr} → Reads disjunction ts value → ReadsParSide (Some (bracket.Loop index)) ts (par_side.Value value)
  values_listed : {over : Expr} {ts us : List Placed} {entries : List (Angle × Expr)} {default : Option (Place × Expr)} → ReadsEntries ts entries → ReadsGiven WDefault us default →
      ReadsParSide (Some (bracket.Over over)) (ts ++ us) (par_side.Entries entries default)
  values_in_table : {over : Expr} {ts us : List Placed} {table : Table} {default : Option (Place × Expr)} → ReadsTable ts table → ReadsGiven WDefault us default →
      ReadsParSide (Some (bracket.Over over)) (ts ++ us) (par_side.Table table default)
  values_read : {over : Expr} {ts us : List Placed} {reading : Reading} {default : Option (Place × Expr)} → ReadsReading ts reading → ReadsGiven WDefault us default →
      ReadsParSide (Some (bracket.Over over)) (ts ++ us) (par_side.Read reading default)
  the_default : {over : Expr} (p : Place) {ts : List Placed} {value : Expr} → Reads sum ts value →
      ReadsParSide (Some (bracket.Over over)) (word_at p WDefault ∷ ts) (par_side.Default p value)

-- the tokens are an index or a set in brackets
pub data ReadsBracket : List Placed → Bracket → Type 0 where
  a_bracket_loop : (p q : Place) {ts : List Placed} {index : Index} → ReadsIndex ts index →
      ReadsBracket (placed p (sign_token SLeftBracket) ∷ (ts ++ placed q (sign_token SRightBracket) ∷ [])) (bracket.Loop index)
  a_bracket_over : (p q : Place) {ts : List Placed} {over : Expr} → Reads sum ts over →
      ReadsBracket (placed p (sign_token SLeftBracket) ∷ (ts ++ placed q (sign_token SRightBracket) ∷ [])) (bracket.Over over)

-- the tokens are nothing, or an index or a set in brackets
pub data ReadsBrackets : List Placed → Option Bracket → Type 0 where
  no_bracket : ReadsBrackets [] None
  a_bracket : {ts : List Placed} {inside : Bracket} → ReadsBracket ts inside → ReadsBrackets ts (Some inside)

-- the tokens are nothing, or brackets that may be empty
pub data ReadsSetBrackets : List Placed → Option Bracket → Type 0 where
  filled_or_none : {ts : List Placed} {inside : Option Bracket} → ReadsBrackets ts inside → ReadsSetBrackets ts inside
  empty_brackets : (p q : Place) → ReadsSetBrackets (placed p (sign_token SLeftBracket) ∷ (placed q (sign_token SRightBracket) ∷ [])) (Some bracket.Empty)

-- a kind of variables
abbrev pub is_kind : Word → Bool
is_kind WReal = true
is_kind WInteger = true
is_kind WBinary = true
is_kind _ = false

-- the tokens are nothing, or a kind
pub data ReadsKind : List Placed → Option Word → Type 0 where
  no_kind : ReadsKind [] None
  a_kind : (p : Place) (word : Word) → is_kind word ≡ true → ReadsKind (word_at p word ∷ []) (Some word)

-- `>=` or `<=`
abbrev pub limit_token : Bool → Token
limit_token lower = sign_token (if lower then SGreaterEqual else SLessEqual)

-- the tokens are bounds
pub data ReadsLimits : List Placed → List Limit → Type 0 where
  no_limit : ReadsLimits [] []
  a_limit : (p : Place) (lower : Bool) {ts us : List Placed} {side : Expr} {others : List Limit} → Reads sum ts side → ReadsLimits us others →
      ReadsLimits (placed p (limit_token lower) ∷ (ts ++ us)) (record { place = p; lower = lower; side = side } ∷ others)

-- at most one bound from below and one from above, and none for a binary variable
abbrev pub BoundedOnce : {A : Type 0} → (A → Bool) → Option Word → List A → Type 0
BoundedOnce {A} from_below kind limits = (count_by from_below limits ≤ 1) × (count_by (λ (l : A). not (from_below l)) limits ≤ 1) × (kind ≡ Some WBinary → limits ≡ [])

-- the bounds of a variable of this kind are so
abbrev pub LimitsKept : Option Word → List Limit → Type 0
LimitsKept = BoundedOnce (λ (l : Limit). l.lower)

-- the tokens are something that is printed
pub data ReadsPrinted : List Placed → Printed → Type 0 where
  a_printed_value : {ts : List Placed} {value : Expr} → Reads disjunction ts value → ReadsPrinted ts (printed.Value value)
  a_printed_tuple : {ts : List Placed} {tuple : Angle} → ReadsTuple ts tuple → ReadsPrinted ts (printed.Tuple tuple)

-- the tokens are one or more things that are printed, with commas between them
pub data ReadsPrintedList : List Placed → List Printed → Type 0 where
  the_last_printed : {ts : List Placed} {item : Printed} → ReadsPrinted ts item → ReadsPrintedList ts (item ∷ [])
  one_more_printed : (p : Place) {ts us : List Placed} {item : Printed} {items : List Printed} → ReadsPrinted ts item → ReadsPrintedList us items →
      ReadsPrintedList (ts ++ placed p (sign_token SComma) ∷ us) (item ∷ items)

-- the tokens are what a `do` does
pub data ReadsDoing : List Placed → Doing → Type 0 where
  a_print : (p : Place) {ts : List Placed} {items : List Printed} → ReadsPrintedList ts items → ReadsDoing (word_at p WPrint ∷ ts) (doing.Print p items)
  a_check : (p : Place) {ts : List Placed} {test : Expr} → Reads disjunction ts test → ReadsDoing (word_at p WCheck ∷ ts) (doing.Check p test)
  for_each : (p q : Place) (with_do : Bool) {ts us : List Placed} {index : Index} {inside : Doing} → ReadsIndex ts index → ReadsDoing us inside →
      ReadsDoing (word_at p WForall ∷ (ts ++ (placed q (separator_token with_do) ∷ us))) (doing.Forall p index with_do inside)

-- the tokens are one or more names with commas between them
pub data ReadsNames : List Placed → List (Place × List ℕ) → Type 0 where
  the_last_name : (p : Place) (name : List ℕ) → ReadsNames (placed p (name_token name) ∷ []) ((p, name) ∷ [])
  one_more_name : (p q : Place) (name : List ℕ) {ts : List Placed} {names : List (Place × List ℕ)} → ReadsNames ts names →
      ReadsNames (placed p (name_token name) ∷ (placed q (sign_token SComma) ∷ ts)) ((p, name) ∷ names)

-- the tokens are nothing, or names with commas between them
pub data ReadsParameters : List Placed → List (Place × List ℕ) → Type 0 where
  no_parameter : ReadsParameters [] []
  the_parameters : {ts : List Placed} {names : List (Place × List ℕ)} → ReadsNames ts names → ReadsParameters ts names

-- a word that begins a function
abbrev pub is_definition : Word → Bool
is_definition WDefnumb = true
is_definition WDefstrg = true
is_definition WDefbool = true
is_definition WDefset = true
is_definition _ = false

-- `maximize` or `minimize`
abbrev pub goal_word : Bool → Word
goal_word maximize = if maximize then WMaximize else WMinimize

-- what a word and a name before the rest of a statement declare
abbrev pub declared : Place → Word → Place → List ℕ → List Placed → List Placed
declared p word q name rest = word_at p word ∷ (placed q (name_token name) ∷ rest)

-- the tokens, without the `;`, are a statement with its first token at `p`, its name at `q`, and this name and shape.
-- A `do` has no name, so both places are that of its first token.
pub data ReadsShape : Place → Place → List ℕ → List Placed → Shape → Type 0 where
  a_set_statement : (p q r : Place) (name : List ℕ) {ts us : List Placed} {brackets : Option Bracket} {side : SetSide} → ReadsSetBrackets ts brackets → ReadsSetSide brackets us side →
      ReadsShape p q name (declared p WSet q name (ts ++ placed r (sign_token SAssign) ∷ us)) (shape.Set brackets side)
  a_param_statement : (p q r : Place) (name : List ℕ) {ts us : List Placed} {brackets : Option Bracket} {side : ParSide} → ReadsBrackets ts brackets → ReadsParSide brackets us side →
      ReadsShape p q name (declared p WParam q name (ts ++ placed r (sign_token SAssign) ∷ us)) (shape.Param brackets side)
  a_var_statement : (p q : Place) (name : List ℕ) {ts us vs ws xs : List Placed} {brackets : Option Bracket} {kind : Option Word} {limits : List Limit} {priority startval : Option (Place × Expr)} →
      LimitsKept kind limits → ReadsBrackets ts brackets → ReadsKind us kind → ReadsLimits vs limits → ReadsGiven WPriority ws priority → ReadsGiven WStartval xs startval →
      ReadsShape p q name (declared p WVar q name (ts ++ (us ++ (vs ++ (ws ++ xs))))) (shape.Var brackets kind limits priority startval)
  a_goal_statement : (p q r : Place) (maximize : Bool) (name : List ℕ) {ts : List Placed} {objective : Expr} → Reads sum ts objective →
      ReadsShape p q name (declared p (goal_word maximize) q name (placed r (sign_token SColon) ∷ ts)) (shape.Goal maximize objective)
  a_subto_statement : (p q r : Place) (name : List ℕ) {ts : List Placed} {constraint : Expr} → Reads whole ts constraint →
      ReadsShape p q name (declared p WSubto q name (placed r (sign_token SColon) ∷ ts)) (shape.Subto constraint)
  a_definition : (p q r s t : Place) (word : Word) (name : List ℕ) {ts us : List Placed} {parameters : List (Place × List ℕ)} {inside : Expr} → is_definition word ≡ true →
      ReadsParameters ts parameters → Reads disjunction us inside →
      ReadsShape p q name (declared p word q name (placed r (sign_token SLeftParen) ∷ (ts ++ (placed s (sign_token SRightParen) ∷ (placed t (sign_token SAssign) ∷ us))))) (shape.Define word parameters inside)
  a_do_statement : (p : Place) {ts : List Placed} {inside : Doing} → ReadsDoing ts inside → ReadsShape p p [] (word_at p WDo ∷ ts) (shape.Do inside)

-- the tokens are a statement
pub data ReadsStatement : List Placed → Stmt → Type 0 where
  a_statement : (p q r : Place) (name : List ℕ) {ts : List Placed} {what : Shape} → ReadsShape p q name ts what →
      ReadsStatement (ts ++ placed r (sign_token SSemicolon) ∷ []) (record { first = p; at = q; name = name; shape = what })
