-- Reading statements of plain form off trees, and what a reading function has to do with it.
use Rattle.std.specs.Prelude.{◌≡◌, map, Option, Some, None, option_map, Result, Ok, Err}
use Rattle.zim_tree.specs.declared.stmt.Stmt.{Stmt}
use Rattle.zim_plain.specs.declared.statement as code
use Rattle.zim_plain.specs.declared.statement.Item.TheVariants as listed
use Rattle.zim_plain.specs.declared.statement.Statement.TheVariants as said
use Rattle.zim_plain.specs.declared.stop.Stop.{Stop}
use Rattle.zim_plain.specs.declared.stop.Stop.TheVariants.{OutOfMemory, Outside}
use Rattle.zim_plain.specs.declared.stop.NotPlain.{NotPlain}
use Rattle.zim_plain.specs.Trees.{tree_of, IsOfPlainForm}
use Rattle.zim_plain.specs.Statements.{Literal, Divisor, Coefficient, Factor, Item, Constant, Multiple, SignAt, Further, Sum, Head, Statement, Variable, Objective, Constraint}

-- ---- what the code's values stand for

-- A number token of the code, with its text as it stands in the tokens.
abbrev pub literal_of : code.Literal.Literal → Literal
literal_of l = record { place = l.place; text = l.text.now }

-- A divisor of the code.
abbrev pub divisor_of : code.Divisor.Divisor → Divisor
divisor_of d = record { slash = d.slash; literal = literal_of d.literal }

-- A coefficient of the code.
abbrev pub coefficient_said : code.Coefficient.Coefficient → Coefficient
coefficient_said c = record { number = literal_of c.number; divisor = option_map divisor_of c.divisor }

-- A factor of the code.
abbrev pub factor_said : code.Factor.Factor → Factor
factor_said f = record { coefficient = coefficient_said f.coefficient; star = f.star }

-- An item of the code.
abbrev pub item_of : code.Item.Item → Item
item_of (listed.Constant c) = Constant (coefficient_said c)
item_of (listed.Multiple factor place name) = Multiple (option_map factor_said factor) place name.now

-- A plus or a minus of the code.
abbrev pub sign_said : code.SignAt.SignAt → SignAt
sign_said s = record { place = s.place; negative = s.negative }

-- A further item of the code.
abbrev pub further_of : code.Further.Further → Further
further_of f = record { sign = sign_said f.sign; item = item_of f.item }

-- A list of the code.
abbrev pub sum_said : code.Sum.Sum → Sum
sum_said s = record { sign = option_map sign_said s.sign; first = item_of s.first; others = map further_of s.others.items }

-- A statement's first word and name in the code.
abbrev pub heading_of : code.Head.Head → Head
heading_of h = record { word = h.word; at = h.at; name = h.name.now }

-- A statement of the code.
abbrev pub statement_said : code.Statement.Statement → Statement
statement_said (said.Variable head) = Variable (heading_of head)
statement_said (said.Objective maximize head sum) = Objective maximize (heading_of head) (sum_said sum)
statement_said (said.Constraint head left sense at right) = Constraint (heading_of head) (sum_said left) sense at (sum_said right)

-- The tree is that of the statement; where there is none, the tree is of no plain form. Want of memory is free.
abbrev pub IsRead : Stmt → Result code.Statement.Statement Stop → Type 0
IsRead stmt (Ok statement) = tree_of (statement_said statement) ≡ stmt
IsRead stmt (Err Outside) = ¬ IsOfPlainForm stmt
IsRead stmt (Err OutOfMemory) = Unit {0}

-- The function found what reading gives, seen by a view, or stopped where reading gives nothing.
abbrev pub FindsRead : {X Y : Type 0} → (X → Y) → Result X NotPlain → Option Y → Type 0
FindsRead view (Ok x) read = read ≡ Some (view x)
FindsRead view (Err e) read = read ≡ None

-- The same of a function that may also be refused memory, of which nothing is said.
abbrev pub StopsRead : {Y : Type 0} → Stop → Option Y → Type 0
StopsRead OutOfMemory read = Unit {0}
StopsRead Outside read = read ≡ None

-- The function found what reading gives, seen by a view, or stopped.
abbrev pub GivesRead : {X Y : Type 0} → (X → Y) → Result X Stop → Option Y → Type 0
GivesRead view (Ok x) read = read ≡ Some (view x)
GivesRead view (Err e) read = StopsRead e read
