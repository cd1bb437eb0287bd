-- What serves private contracts alone.
use Rattle.std.specs.Prelude.{ℕ, pos, ◌&&◌, not, int_lt, if◌then◌else◌, unsigned_abs, List, map, Result, Ok, Err}
use Rattle.std.specs.List.{list_all}
use Rattle.zim_fault.specs.declared.kinds.Kind.{Kind}
use Rattle.zim_fault.specs.declared.kinds.Kind.TheVariants.{NoEntry, NotInteger}
use Rattle.zim_meaning.specs.declared.values.Value.{Value}
use Rattle.zim_meaning.specs.declared.values.Value.TheVariants.{Set}
use Rattle.zim_meaning.specs.Operations.{set_or_fault}
use Rattle.zim_rational.specs.Rational.{Rational, is_whole}
use Rattle.zim_sets.specs.Products.{projected}
use Rattle.zim_sets.specs.Ranges.{range_of}
use Rattle.zim_tuples.specs.declared.elements.Elem.{Elem}

-- the tuples, which have so many components, cut to those at these whole numbers
abbrev pub cut_to : List (List Elem) → ℕ → List Rational → Result Value Kind
cut_to a length numbers =
    if list_all (λ q. not (int_lt q.numer (pos 1)) && not (int_lt (pos length) q.numer)) numbers
    then Ok (Set (projected a (map (λ q. unsigned_abs q.numer) numbers)))
    else Err NoEntry

-- the set of the numbers from one to another by a step, which are whole
abbrev pub between_numbers : Rational → Rational → Rational → Result Value Kind
between_numbers n m s = if is_whole n && is_whole m && is_whole s then set_or_fault (range_of n.numer m.numer s.numer) else Err NotInteger
