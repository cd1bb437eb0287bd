-- Lists that are read turn by turn: each turn reads one more item, or finds that none comes next.
use Rattle.std.specs.Prelude.{ℕ, zero, suc, List, [], ◌∷◌, ◌++◌, Bool, Option, Some, None}
use Rattle.zim_fault.specs.declared.faults.Place.{Place}
use Rattle.zim_fault.specs.declared.tokens.Token.{Token}
use Rattle.zim_fault.specs.declared.tokens.Placed.{Placed}
use Rattle.zim_fault.specs.declared.tokens.Relation.{Relation}
use Rattle.zim_tree.specs.declared.expr.Expr.{Expr}
use Rattle.zim_tree.specs.declared.expr.Expr.TheVariants as tree
use Rattle.zim_tree.specs.Levels.{Chain, relation_of, is_xor}
use Rattle.zim_parse_expression.specs.Next.{is_comma, is_exclamation, rank}
use Rattle.zim_parse_expression.specs.Parser.{Parsed, Parser, and_then, expect}
use Rattle.zim_parse_expression.specs.Steps.{operator_of}

-- one turn: an item, or none with nothing taken, or no parse
abbrev pub Turn : Type 0 → Type 0
Turn A = List Placed → Parsed (Option A)

-- the rest of a list behind what a turn gave
abbrev pub turned : {A : Type 0} → Parsed (Option A) → (List Placed → Parsed (List A)) → Parsed (List A)
turned None more = None
turned (Some (None, left)) more = Some ([], left)
turned (Some (Some x, left)) more = and_then (more left) (λ others behind. Some (x ∷ others, behind))

-- the items of at most so many turns
unfoldable pub repeat : {A : Type 0} → Turn A → ℕ → Parser (List A)
repeat turn zero ts = Some ([], ts)
repeat turn (suc turns) ts = turned (turn ts) (repeat turn turns)

-- these items before those that follow
abbrev pub prepend : {A : Type 0} → List A → Parsed (List A) → Parsed (List A)
prepend items p = and_then p (λ others left. Some (items ++ others, left))

-- an item of which a turn is made
abbrev pub one_turn : {A : Type 0} → Parsed A → Parsed (Option A)
one_turn p = and_then p (λ x left. Some (Some x, left))

-- an item behind a comma that was found or not
abbrev pub comma_found : {A : Type 0} → Parser A → Parsed Place → List Placed → Parsed (Option A)
comma_found item None ts = Some (None, ts)
comma_found item (Some x) ts = one_turn (item x.1)

-- one more item behind a comma
unfoldable pub comma_turn : {A : Type 0} → Parser A → Turn A
comma_turn item ts = comma_found item (expect is_comma ts) ts

-- a `!` that was found or not
abbrev pub mark_found : Parsed Place → List Placed → Parsed (Option Place)
mark_found None ts = Some (None, ts)
mark_found (Some x) ts = Some (Some x.0, x.1)

-- one more `!`, for its place
unfoldable pub mark_turn : Turn Place
mark_turn ts = mark_found (expect is_exclamation ts) ts

-- an operator of a list that was found or not, with its operand
abbrev pub operand_found : {A : Type 0} → (Place × Token × Expr → A) → Parser Expr → Option (Placed × List Placed) → List Placed → Parsed (Option A)
operand_found form operand None ts = Some (None, ts)
operand_found form operand (Some x) ts = and_then (operand x.1) (λ e behind. Some (Some (form (x.0.place, x.0.token, e)), behind))

-- one more operator of a list with its operand, in the form that the tree has
unfoldable pub operand_turn : {A : Type 0} → (Place × Token × Expr → A) → Chain → Parser Expr → Turn A
operand_turn form chain operand ts = operand_found form operand (operator_of (rank chain) ts) ts

-- the form of an operator with its operand in products and sums
abbrev pub as_operand : Place × Token × Expr → Place × Token × Expr
as_operand x = x

-- the form in comparisons
abbrev pub as_compared : Place × Token × Expr → Place × Relation × Expr
as_compared x = (x.0, relation_of x.1, x.2)

-- the form in conjunctions
abbrev pub as_conjunct : Place × Token × Expr → Place × Expr
as_conjunct x = (x.0, x.2)

-- the form in disjunctions
abbrev pub as_disjunct : Place × Token × Expr → Place × Bool × Expr
as_disjunct x = (x.0, is_xor x.1, x.2)

-- a product of a first operand and others: without others the first stands for itself
abbrev pub multiplied : Expr → List (Place × Token × Expr) → Expr
multiplied first [] = first
multiplied first (x ∷ others) = tree.Times first (x ∷ others)

-- a sum, likewise
abbrev pub added : Expr → List (Place × Token × Expr) → Expr
added first [] = first
added first (x ∷ others) = tree.Plus first (x ∷ others)

-- a comparison, likewise
abbrev pub comparison : Expr → List (Place × Relation × Expr) → Expr
comparison first [] = first
comparison first (x ∷ others) = tree.Compare first (x ∷ others)

-- a conjunction, likewise
abbrev pub both : Expr → List (Place × Expr) → Expr
both first [] = first
both first (x ∷ others) = tree.And first (x ∷ others)

-- a disjunction, likewise
abbrev pub either : Expr → List (Place × Bool × Expr) → Expr
either first [] = first
either first (x ∷ others) = tree.Or first (x ∷ others)
