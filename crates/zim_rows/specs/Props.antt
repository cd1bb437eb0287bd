-- What holds of a finished system has one proof at most, so that it can be kept beside its data.
use Rattle.std.specs.Prelude.{ℕ, suc, List, [], ◌∷◌}
use Rattle.std.proofs.Props as std
use mathlib.Core.HLevel.{Unit-prop}
use mathlib.Core.Bool.{Bool-set}
use Rattle.zim_linear.specs.Forms.{Term, AreTermsFrom, AreColumns}
use Rattle.zim_rows.specs.declared.rows.RowKind.{RowKind}
use Rattle.zim_rows.specs.declared.rows.RowKind.TheVariants.{One, Range}
use Rattle.zim_rows.specs.Program.{IsShortKind, IsKindWithin}

pub AreTermsFrom-prop : (first : ℕ) (terms : List Term) → IsProp (AreTermsFrom first terms)
AreTermsFrom-prop first [] = Unit-prop
AreTermsFrom-prop first (t ∷ rest) = let next = AreTermsFrom-prop (suc t.0) rest in hlevel (std.props, next)

pub AreColumns-prop : (n : ℕ) (terms : List Term) → IsProp (AreColumns n terms)
AreColumns-prop n [] = Unit-prop
AreColumns-prop n (t ∷ rest) = let next = AreColumns-prop n rest in hlevel (std.props, next)

pub IsShortKind-prop : (kind : RowKind) → IsProp (IsShortKind kind)
IsShortKind-prop (One sense right) = Bool-set _ _
IsShortKind-prop (Range low high) = hlevel std.props

pub IsKindWithin-prop : (kind : RowKind) → IsProp (IsKindWithin kind)
IsKindWithin-prop (One sense right) = Bool-set _ _
IsKindWithin-prop (Range low high) = hlevel std.props

pub ruleset props = (std.props, AreTermsFrom-prop, AreColumns-prop, IsShortKind-prop, IsKindWithin-prop)
