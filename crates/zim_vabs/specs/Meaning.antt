-- What it means that an encoding makes a form that is a number at each point.
use Rattle.std.specs.Prelude.{◌≡◌, List, length, Ok}
use Rattle.zim_rational.specs.Rational.{Rational}
use Rattle.zim_linear.specs.Forms.{LinearForm, AreTerms, AreColumns, number_at}
use Rattle.zim_rows.specs.System.{LinearSystem, Extends}
use Rattle.zim_rows.specs.Points.{IsSystemPoint, assigned, first_numbers}
use Rattle.zim_rows.specs.Covered.{IsCovered}
use Rattle.zim_rows.specs.Steps.{Encoding}
use Rattle.zim_rows.specs.Extending.{IsValid, Widens}

-- From a system, a form over the columns of the system after it. Each point of the system before is the beginning of exactly one point of the system
-- after, at each of whose points the form's number is what `number` says of the columns of the first system, `base`. A covered system stays covered.
pub record FormMade (base before : LinearSystem) (number : List Rational → Rational) (form : LinearForm) (after : LinearSystem) : Type 0 where
  pub valid : IsValid after
  pub widens : Widens after before
  pub ordered : AreTerms form.terms
  pub columns : AreColumns (length after.columns) form.terms
  pub tells : (q : List Rational) → IsSystemPoint after q → number_at (assigned q) form ≡ number (first_numbers base q)
  pub covered : IsCovered before → IsCovered after

-- An encoding makes such a form from each valid system that extends the first one, where it gives one.
abbrev pub MakesForm : LinearSystem → (List Rational → Rational) → Encoding LinearForm → Type 0
MakesForm base number encoding =
    (before : LinearSystem) → IsValid before → Extends before base → (form : LinearForm) (after : LinearSystem) → encoding before ≡ Ok (form, after) → FormMade base before number form after
