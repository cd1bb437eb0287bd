-- What it means that an encoding makes a literal that is a truth at each point.
use Rattle.std.specs.Prelude.{◌≡◌, ◌<◌, ◌≤◌, Bool, List, length, Ok}
use Rattle.zim_linear.specs.Forms.{number_at}
use Rattle.zim_rational.specs.Rational.{Rational}
use Rattle.zim_rows.specs.System.{LinearSystem, Extends, column_at}
use Rattle.zim_rows.specs.Points.{IsSystemPoint, assigned, first_numbers}
use Rattle.zim_rows.specs.Covered.{IsCovered}
use Rattle.zim_rows.specs.Steps.{Encoding, binary}
use Rattle.zim_rows.specs.Extending.{IsValid, Widens}
use Rattle.zim_logic_rows.specs.declared.Literal.{Literal}
use Rattle.zim_logic_rows.specs.Literals.{is, number_of}

-- From a system, a literal whose column is a binary one that was added to it. Each point of the system before is the beginning of exactly one point of
-- the system after, at each of whose points the literal is 1 where `truth` is true of the columns of the first system, `base`, and else 0. A covered
-- system stays covered.
pub record LiteralMade (base before : LinearSystem) (truth : List Rational → Bool) (l : Literal) (after : LinearSystem) : Type 0 where
  pub valid : IsValid after
  pub widens : Widens after before
  pub is_new : length before.columns < l.column
  pub in_columns : l.column ≤ length after.columns
  pub is_binary : column_at after.columns l.column ≡ binary
  pub tells : (q : List Rational) → IsSystemPoint after q → number_at (assigned q) (is l) ≡ number_of (truth (first_numbers base q))
  pub covered : IsCovered before → IsCovered after

-- An encoding makes such a literal from each valid system that extends the first one, where it gives one.
abbrev pub MakesLiteral : LinearSystem → (List Rational → Bool) → Encoding Literal → Type 0
MakesLiteral base truth encoding =
    (before : LinearSystem) → IsValid before → Extends before base → (l : Literal) (after : LinearSystem) → encoding before ≡ Ok (l, after) → LiteralMade base before truth l after
