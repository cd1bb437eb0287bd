-- What it says of a `do` with a known outermost node that it is made of its parts, one clause for each.
-- The other trees of statements are matched as they are.
use Rattle.std.proofs.Common.{◌≡◌, ◌∷◌, sym, ap, ◌∙◌, subst}
use Rattle.zim_tree.specs.declared.stmt.Doing.{Doing, Doing-F, roll-Doing, out-Doing, out-roll-Doing}
use Rattle.zim_tree.specs.declared.stmt.Doing.TheVariants as doing
use Rattle.zim_tree.specs.Made.{Made, MadeIndex}
use Rattle.zim_tree.specs.StatementMade.{MadeDoing, MadePrinted, made_print, made_check, made_for_each}
use Rattle.zim_tree.proofs.MadeParts.{Filled, filled}

-- what is known of the parts of a `do`
abbrev pub DoingParts : Doing-F Doing → Type 0
DoingParts (Doing-F.Print place items) = Filled items × MadePrinted items
DoingParts (Doing-F.Check place test) = Made test
DoingParts (Doing-F.Forall place index with_do inside) = MadeIndex index × MadeDoing inside

-- what is made of a layer has it as its outermost one
doing_of : (d : Doing-F Doing) {what : Doing} → roll-Doing d ≡ what → out-Doing what ≡ d
doing_of d h = ap out-Doing (sym h) ∙ out-roll-Doing d

known_doing : (d : Doing-F Doing) {what : Doing} → roll-Doing d ≡ what → DoingParts d → DoingParts (out-Doing what)
known_doing d h = subst DoingParts (sym (doing_of d h))

pub made-doing_parts : {what : Doing} → MadeDoing what → DoingParts (out-Doing what)
made-doing_parts (made_print p {first = first} {others = others} ms) =
    known_doing (Doing-F.Print p (first ∷ others)) (doing.rolls-Print p (first ∷ others)) (filled first others, ms)
made-doing_parts (made_check p {test = test} m) = known_doing (Doing-F.Check p test) (doing.rolls-Check p test) m
made-doing_parts (made_for_each p with_do {index = index} {inside = inside} m n) =
    known_doing (Doing-F.Forall p index with_do inside) (doing.rolls-Forall p index with_do inside) (m, n)

-- the parts of a `do` with this outermost node
pub doing_parts_of : (d : Doing-F Doing) {what : Doing} → roll-Doing d ≡ what → MadeDoing what → DoingParts d
doing_parts_of d h m = subst DoingParts (doing_of d h) (made-doing_parts m)
