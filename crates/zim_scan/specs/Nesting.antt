-- How deep the tokens of a statement nest.
use Rattle.std.specs.Prelude.{ℕ, ◌+◌, ◌-◌, List, [], ◌∷◌, Bool, true, false, Option, Some, None, nat_lt, if◌then◌else◌}
use Rattle.zim_fault.specs.declared.faults.Place.{Place}
use Rattle.zim_fault.specs.declared.tokens.Placed.{Placed}
use Rattle.zim_tree.specs.declared.classes.Class.{Class}
use Rattle.zim_tree.specs.declared.classes.Class.TheVariants as class
use Rattle.zim_tree.specs.Classes.{token_class}

-- the class of a token at a place
abbrev pub class_at : Placed → Class
class_at t = token_class t.token

-- `(`
abbrev pub is_left_paren : Class → Bool
is_left_paren class.LeftParen = true
is_left_paren _ = false

-- whether a `(` comes next
abbrev pub begins_paren : List Placed → Bool
begins_paren [] = false
begins_paren (t ∷ rest) = is_left_paren (class_at t)

-- how many brackets, `if` and `vif` are open behind a token of this class: none closes what isn't open
abbrev pub open_behind : Class → ℕ → ℕ
open_behind class.LeftParen open_before = open_before + 1
open_behind class.LeftBracket open_before = open_before + 1
open_behind class.LeftBrace open_before = open_before + 1
open_behind class.IfOrVif open_before = open_before + 1
open_behind class.RightParen open_before = open_before - 1
open_behind class.RightBracket open_before = open_before - 1
open_behind class.RightBrace open_before = open_before - 1
open_behind class.End open_before = open_before - 1
open_behind _ open_before = open_before

-- how many loops began up to a token of this class: `min` and `max` before a `(` begin none
abbrev pub loops_behind : Class → List Placed → ℕ → ℕ
loops_behind class.Forall rest loops = loops + 1
loops_behind class.Loop rest loops = loops + 1
loops_behind class.MinOrMax rest loops = if begins_paren rest then loops else loops + 1
loops_behind _ rest loops = loops

-- how deep a statement may nest: open brackets and begun loops together
abbrev pub deepest : ℕ
deepest = 200

-- the first token behind which the nesting passes the limit, where so many brackets were open and so many loops begun before
unfoldable pub first_deep : ℕ → ℕ → List Placed → Option Place
first_deep open_before loops [] = None
first_deep open_before loops (t ∷ rest) = if nat_lt deepest (open_behind (class_at t) open_before + loops_behind (class_at t) rest loops)
    then Some t.place
    else first_deep (open_behind (class_at t) open_before) (loops_behind (class_at t) rest loops) rest
